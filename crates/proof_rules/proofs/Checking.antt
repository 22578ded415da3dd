-- The flat list of lines has no bad line exactly where it is the preorder of a tree that closes.
use Rattle.std.specs.Prelude.{ℕ, suc, ◌≡◌, Option, Some, None, List, [], ◌∷◌, ◌++◌}
use Rattle.std.proofs.Common.{ap, ◌∙◌, sym, refl, append_assoc, append-nil}
use Rattle.lin_term.specs.declared.Sort.{Sort}
use Rattle.dom_core.specs.Game.{Problem}
use Rattle.game_tree.specs.Skeleton.{Skeleton}
use Rattle.lose_system.specs.Losing.{system}
use Rattle.cube_rules.specs.declared.Step.{Step}
use Rattle.cube_rules.specs.Context.{Context, open_context}
use Rattle.cube_rules.specs.Lines.{rule_of}
use Rattle.cube_rules.specs.Closing.{Proof, line, Proofs, no_proof, proof, preorder, preorders, Rules, Closes, CloseAll}
use Rattle.proof_rules.specs.declared.bad_line.BadLine.{BadLine}
use Rattle.proof_rules.specs.Rules.{apply, Refutes}
use Rattle.proof_rules.specs.Checked.{bad_line, or_bad, first_bad_from, first_bad}

-- ---- a list without a bad line is the preorder of trees

record Closed (rules : Rules) (cs : List Context) (ls : List Step) : Type 0 where
  trees : Proofs
  close : CloseAll trees rules cs
  lines : preorders trees ≡ ls

-- trees for two lists of contexts, one after the other, are trees for each
record Parted (rules : Rules) (ks cs : List Context) (ls : List Step) : Type 0 where
  first : Proofs
  second : Proofs
  close_first : CloseAll first rules ks
  close_second : CloseAll second rules cs
  lines : preorders first ++ preorders second ≡ ls

part_trees : (rules : Rules) (ks cs : List Context) (ts : Proofs) → CloseAll ts rules (ks ++ cs) → Parted rules ks cs (preorders ts)
part_trees rules [] cs ts h = record { first = no_proof; second = ts; close_first = tt; close_second = h; lines = refl }
part_trees rules (k ∷ ks) cs no_proof h = absurd h
part_trees rules (k ∷ ks) cs (proof t ts) h =
    let r = part_trees rules ks cs ts h.1 in
    record { first = proof t r.first; second = r.second; close_first = (h.0, r.close_first); close_second = r.close_second; lines = append_assoc (preorder t) (preorders r.first) (preorders r.second) ∙ ap (λ (x : List Step). preorder t ++ x) r.lines }

after_line : (rules : Rules) (c : Context) (cs : List Context) (l : Step) (ls : List Step) (b : BadLine) (go : List Context → Option BadLine) (o : Option (List Context)) → rules c l ≡ o → ((ks : List Context) → go ks ≡ None → Closed rules (ks ++ cs) ls) → or_bad b go o ≡ None → Closed rules (c ∷ cs) (l ∷ ls)
after_line rules c cs l ls b go None e k h = absurd (cc)
after_line rules c cs l ls b go (Some ks) e k h =
    let r = k ks h in
    let q = part_trees rules ks cs r.trees r.close in
    record { trees = proof (line l q.first) q.second; close = ((ks, e, q.close_first), q.close_second); lines = ap (λ (x : List Step). l ∷ x) (q.lines ∙ r.lines) }

passes_closes : (rules : Rules) (cs : List Context) (ls : List Step) (n : ℕ) → first_bad_from rules cs ls n ≡ None → Closed rules cs ls
passes_closes rules [] [] n h = record { trees = no_proof; close = tt; lines = refl }
passes_closes rules [] (l ∷ ls) n h = absurd (cc)
passes_closes rules (c ∷ cs) [] n h = absurd (cc)
passes_closes rules (c ∷ cs) (l ∷ ls) n h =
    after_line rules c cs l ls (bad_line n (rule_of l)) (λ ks. first_bad_from rules (ks ++ cs) ls (suc n)) (rules c l) refl (λ ks k. passes_closes rules (ks ++ cs) ls (suc n) k) h

one_tree : (rules : Rules) (c : Context) (ls : List Step) (ts : Proofs) → CloseAll ts rules (c ∷ []) → preorders ts ≡ ls → (t : Proof) × (preorder t ≡ ls) × Closes t rules c
one_tree rules c ls no_proof h e = absurd h
one_tree rules c ls (proof t no_proof) h e = (t, sym (append-nil (preorder t)) ∙ e, h.0)
one_tree rules c ls (proof t (proof u us)) h e = absurd h.1

pub passes_refutes : (s : Sort) (P : Problem) (S : Skeleton) (ls : List Step) → first_bad s P S ls ≡ None → Refutes s P S ls
passes_refutes s P S ls h =
    let r = passes_closes (apply s (system s P S)) (open_context ∷ []) ls 0 h in
    let t = one_tree (apply s (system s P S)) open_context ls r.trees r.close r.lines in
    record { tree = t.0; lines = t.1; closes = t.2 }

-- ---- the preorder of a tree that closes has no bad line

mutual
  tree_passes : (t : Proof) (rules : Rules) (c : Context) (cs : List Context) (ls : List Step) (n : ℕ) → Closes t rules c → ((m : ℕ) → first_bad_from rules cs ls m ≡ None) → first_bad_from rules (c ∷ cs) (preorder t ++ ls) n ≡ None
  tree_passes (line l ts) rules c cs ls n h go =
      ap (or_bad (bad_line n (rule_of l)) (λ ks. first_bad_from rules (ks ++ cs) (preorders ts ++ ls) (suc n))) h.1 ∙ trees_pass ts rules h.0 cs ls (suc n) h.2 go

  trees_pass : (ts : Proofs) (rules : Rules) (ks cs : List Context) (ls : List Step) (n : ℕ) → CloseAll ts rules ks → ((m : ℕ) → first_bad_from rules cs ls m ≡ None) → first_bad_from rules (ks ++ cs) (preorders ts ++ ls) n ≡ None
  trees_pass no_proof rules [] cs ls n h go = go n
  trees_pass no_proof rules (k ∷ ks) cs ls n h go = absurd h
  trees_pass (proof t ts) rules [] cs ls n h go = absurd h
  trees_pass (proof t ts) rules (k ∷ ks) cs ls n h go =
      ap (λ (x : List Step). first_bad_from rules (k ∷ (ks ++ cs)) x n) (append_assoc (preorder t) (preorders ts) ls) ∙ tree_passes t rules k (ks ++ cs) (preorders ts ++ ls) n h.0 (λ m. trees_pass ts rules ks cs ls m h.1 go)

pub refutes_passes : (s : Sort) (P : Problem) (S : Skeleton) (ls : List Step) → Refutes s P S ls → first_bad s P S ls ≡ None
refutes_passes s P S ls r =
    ap (λ (x : List Step). first_bad_from (apply s (system s P S)) (open_context ∷ []) x 0) (sym (append-nil (preorder r.tree) ∙ r.lines)) ∙ tree_passes r.tree (apply s (system s P S)) open_context [] [] 0 r.closes (λ m. refl)
