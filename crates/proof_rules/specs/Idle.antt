-- Lines `cases` that need not be there: one of their subproofs never reads the child that was added for it, and so closes
-- the context as it stood.
use Rattle.std.specs.Prelude.{ℕ, suc, ◌+◌, ◌≡◌, nat_eq, Bool, true, false, not, ◌&&◌, ◌||◌, if◌then◌else◌, List, [], ◌∷◌, ◌++◌, length}
use Rattle.std.specs.List.{list_any}
use Rattle.lin_term.specs.declared.Sort.{Sort}
use Rattle.dom_core.specs.Game.{Problem}
use Rattle.game_tree.specs.Skeleton.{Skeleton}
use Rattle.lose_system.specs.Losing.{system}
use Rattle.cube_rules.specs.declared.Step.{Step}
use Rattle.cube_rules.specs.declared.Step.TheVariants.{Path, Def, Part, Cases, Sum, Split, Cube, Least, Learn, False}
use Rattle.cube_rules.specs.Context.{open_context}
use Rattle.cube_rules.specs.Closing.{Proof, line, Proofs, no_proof, proof, preorder, Closes}
use Rattle.proof_rules.specs.Rules.{apply}

-- the line reads fact k
abbrev pub reads : Step → ℕ → Bool
reads (Path p) k = false
reads (Def v i) k = false
reads (Part f i) k = nat_eq f k
reads (Cases f n) k = nat_eq f k
reads (Sum p f q h g) k = nat_eq f k || nat_eq h k
reads (Split l) k = false
reads (Cube fs) k = list_any (λ f. nat_eq f k) fs
reads (Least v n) k = false
reads (Learn ls) k = false
reads (False f) k = nat_eq f k

abbrev pub is_cube : Step → Bool
is_cube (Path p) = false
is_cube (Def v i) = false
is_cube (Part f i) = false
is_cube (Cases f n) = false
is_cube (Sum p f q h g) = false
is_cube (Split l) = false
is_cube (Cube fs) = true
is_cube (Least v n) = false
is_cube (Learn ls) = false
is_cube (False f) = false

abbrev pub is_cases : Step → Bool
is_cases (Path p) = false
is_cases (Def v i) = false
is_cases (Part f i) = false
is_cases (Cases f n) = true
is_cases (Sum p f q h g) = false
is_cases (Split l) = false
is_cases (Cube fs) = false
is_cases (Least v n) = false
is_cases (Learn ls) = false
is_cases (False f) = false

-- a line of the subproof reads fact k; lines behind a `cube`, where facts have new numbers, do not count
abbrev mutual
  pub uses : Proof → ℕ → Bool
  uses (line l ts) k = reads l k || (not (is_cube l) && some_uses ts k)

  pub some_uses : Proofs → ℕ → Bool
  some_uses no_proof k = false
  some_uses (proof t ts) k = uses t k || some_uses ts k

-- each of the subproofs reads fact k
abbrev pub each_uses : Proofs → ℕ → Bool
each_uses no_proof k = true
each_uses (proof t ts) k = uses t k && each_uses ts k

-- behind n facts: a `cases` with a part that does not read the child, which is fact n in each part
abbrev pub is_idle : Step → Proofs → ℕ → Bool
is_idle l ts n = is_cases l && not (each_uses ts n)

-- how many facts the first subproof begins with, where n stand before the line: one more, or the negations of a `learn`
abbrev pub facts_of_first : Step → ℕ → ℕ
facts_of_first (Path p) n = suc n
facts_of_first (Def v i) n = suc n
facts_of_first (Part f i) n = suc n
facts_of_first (Cases f m) n = suc n
facts_of_first (Sum p f q h g) n = suc n
facts_of_first (Split l) n = suc n
facts_of_first (Cube fs) n = suc n
facts_of_first (Least v m) n = suc n
facts_of_first (Learn ls) n = n + length ls
facts_of_first (False f) n = suc n

-- The idle lines of a proof that begins with n facts at line i, by their numbers, ascending. Behind a `cube` all facts are
-- literals, so no line `cases` stands there.
abbrev mutual
  pub idle_lines : Proof → ℕ → ℕ → List ℕ
  idle_lines (line l ts) n i =
      (if is_idle l ts n then i ∷ [] else []) ++ (if is_cube l then [] else idle_below ts (facts_of_first l n) (suc n) (suc i))

  pub idle_below : Proofs → ℕ → ℕ → ℕ → List ℕ
  idle_below no_proof first n i = []
  idle_below (proof t ts) first n i = idle_lines t first i ++ idle_below ts n n (i + length (preorder t))

-- the tree of the lines, which refutes
pub record IsProofTree (s : Sort) (P : Problem) (S : Skeleton) (steps : List Step) (t : Proof) : Type 0 where
  pub lines : preorder t ≡ steps
  pub closes : Closes t (apply s (system s P S)) open_context

-- the lines refute, and none of them is idle
pub record HasNoIdle (s : Sort) (P : Problem) (S : Skeleton) (steps : List Step) : Type 0 where
  pub tree : Proof
  pub refutes : IsProofTree s P S steps tree
  pub none : idle_lines tree 0 0 ≡ []
