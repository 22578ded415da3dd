-- What stays of a proof, as a tree.
use Rattle.std.specs.Prelude.{ℕ, zero, suc, ◌+◌, Bool, true, false, if◌then◌else◌, List, [], ◌∷◌, ◌++◌, map, length, replicate}
use Rattle.cube_rules.specs.declared.Step.TheVariants.{False}
use Rattle.cube_rules.specs.Closing.{Proof, line, Proofs, no_proof, proof, preorder, preorders}
use Rattle.proof_rules.specs.Idle.{is_cube}
use Rattle.proof_idle.specs.Walk.{added}
use Rattle.proof_prune.specs.declared.item.Item.{Item}
use Rattle.proof_prune.specs.declared.item.Item.TheVariants.{Line, Behind, Read, Hole}
use Rattle.proof_prune.specs.Counting.{facts_read}
use Rattle.proof_prune.specs.Cutting.{line_items}
use Rattle.proof_prune.specs.Writing.{renumbered}
use Rattle.proof_prune.proofs.Tallies.{reads_in}

-- the facts that lines read which stay of a subproof with n facts before it
abbrev mutual
  pub wanted : Proof → ℕ → List ℕ
  wanted (line l ts) n = if is_cube l then facts_read l else wanted_by ts (added l) n (facts_read l)

  -- of subproofs of which the first one has a facts besides, behind what is read so far
  pub wanted_by : Proofs → ℕ → ℕ → List ℕ → List ℕ
  wanted_by no_proof a n own = own
  wanted_by (proof t ts) a n own = if reads_in n (n + a) (wanted t (n + a)) then wanted_by ts 1 n (own ++ wanted t (n + a)) else wanted t (n + a)

-- one of the subproofs reads none of the facts that were added for it
abbrev pub has_spare : Proofs → ℕ → ℕ → Bool
has_spare no_proof a n = false
has_spare (proof t ts) a n = if reads_in n (n + a) (wanted t (n + a)) then has_spare ts 1 n else true

abbrev pub behind : ℕ → ℕ → List Item
behind i zero = []
behind i (suc m) = Behind i ∷ behind (suc i) m

-- the items of a subproof that begins with line j
abbrev mutual
  pub items_of : Proof → ℕ → ℕ → List Item
  items_of (line l ts) j n = if is_cube l then line_items j n l ++ behind (suc j) (length (preorders ts)) else items_by ts (added l) (suc j) n j (map Read (facts_read l))

  pub items_by : Proofs → ℕ → ℕ → ℕ → ℕ → List Item → List Item
  items_by no_proof a i n j es = Line j n ∷ es
  items_by (proof t ts) a i n j es =
      if reads_in n (n + a) (wanted t (n + a)) then items_by ts 1 (i + length (preorder t)) n j (es ++ items_of t i (n + a)) else Hole n (length es) ∷ (es ++ items_of t i (n + a))

-- ---- with new numbers: of the facts before it those stay that are marked

abbrev pub ranks_from : ℕ → List Bool → List ℕ
ranks_from r [] = r ∷ []
ranks_from r (true ∷ us) = r ∷ ranks_from (suc r) us
ranks_from r (false ∷ us) = r ∷ ranks_from r us

-- for each fact, and for the next one, how many before it stay
abbrev pub ranks : List Bool → List ℕ
ranks us = ranks_from 0 us

abbrev mutual
  pub kept : Proof → List Bool → Proof
  kept (line l ts) us =
      if is_cube l then line (renumbered (ranks us) l) ts
      else if has_spare ts (added l) (length us) then kept_one ts (added l) us else line (renumbered (ranks us) l) (kept_all ts (added l) us)

  -- the first one that reads none of its own facts
  pub kept_one : Proofs → ℕ → List Bool → Proof
  kept_one no_proof a us = line (False 0) no_proof
  kept_one (proof t ts) a us = if reads_in (length us) (length us + a) (wanted t (length us + a)) then kept_one ts 1 us else kept t (us ++ replicate a false)

  pub kept_all : Proofs → ℕ → List Bool → Proofs
  kept_all no_proof a us = no_proof
  kept_all (proof t ts) a us = proof (kept t (us ++ replicate a true)) (kept_all ts 1 us)
