-- Proofs and trees of moves: what is read is spelled so, and what is spelled so is read.
use Rattle.std.proofs.Common.{◌≡◌, ◌≢◌, ℕ, zero, suc, ◌+◌, ◌-◌, ◌^◌, ◌≤◌, Bool, true, false, ◌||◌, List, [], ◌∷◌, ◌++◌, length, take, map, Ok, Err, refl, sym, ap, subst, ◌∙◌, append_assoc, arith, codes}
use Rattle.std.specs.List.{list_any, flat_map, concat, AllByRecursion}
use Rattle.std.proofs.lemmas.Slice.Eq.{bytes_eq-Decides}
use Rattle.std.proofs.lemmas.List.{take_at, length-append, length-map}
use Rattle.std.proofs.lemmas.List.Concat.{flat_map-cons}
use Rattle.lin_term.specs.Form.{cap}
use Rattle.lin_term.specs.Move.{Move}
use Rattle.cube_rules.specs.declared.step.Step.{Step}
use Rattle.cube_rules.specs.Limits.{IsStep}
use Rattle.cube_rules.specs.Lines.{parts}
use Rattle.game_tree.specs.declared.tree.Tree.{Tree, fold-roll-Tree}
use Rattle.game_tree.specs.declared.tree.Tree.TheVariants as trees
use Rattle.game_tree.specs.declared.tree.Tree.TheVariants.{rolls-End, rolls-Theirs, rolls-Mine}
use Rattle.game_tree.specs.declared.tree.Tree.TheOpen.{Tree-F}
use Rattle.game_tree.specs.declared.tree.Branch.{Branch, fold-roll-Branch, rolls-Branch'}
use Rattle.strat_words.specs.Spot.{Spot, Taken, first, ends, is, start, next_place, goes_on, begins_with_space, no_more}
use Rattle.strat_words.specs.Many.{times, Chain, state_behind}
use Rattle.strat_words.specs.Taking.{count}
use Rattle.strat_words.proofs.Laws.{times_takes, times_again, in_turn}
use Rattle.strat_words.proofs.Taken.{natural_takes, natural_again}
use Rattle.strat_words.proofs.WordLaws.{bind_ok, done, ok_is, Takes, Takes-then, Reads, first_is_takes, is_again, first_again, ends_takes, ends_again, made_ok}
use Rattle.strat_text.specs.Line.{row}
use Rattle.strat_text.specs.Proof.{proof, proof_line, open_behind, closed, all_closed}
use Rattle.strat_text.specs.Sections.{HasLine}
use Rattle.strat_text.specs.Tree.{move_words, is_written_as, fresh, move_line, branches, tree}
use Rattle.strat_text.specs.Written as spelled
use Rattle.strat_text.specs.Spelling.{IsProof, AreProofs, IsMoveLine, Differ, FollowsTurns}
use Rattle.strat_text.proofs.Lines.{row_takes, row_again}
use Rattle.strat_text.proofs.Steps.{step_takes, step_again, lf}

-- ---- a proof

module _ (version : ℕ) where
  -- a line stands where a subproof is open, and the version has it
  abbrev Fit : ℕ → Step → Type 0
  Fit waiting x = (1 ≤ waiting) × IsStep x × HasLine version x

  proofs_from : (n : ℕ) (xs : List Step) → Chain Fit open_behind n xs → state_behind open_behind n xs ≡ 0 → AreProofs n xs
  proofs_from zero [] c e = tt
  proofs_from zero (x ∷ xs) c e = absurd (omega (arith, c.0.0))
  proofs_from (suc n) [] c e = absurd (omega (arith, e))
  proofs_from (suc n) (x ∷ xs) c e = (c.0.1, proofs_from (n + parts x) xs c.1 e)

  lines_from : (n : ℕ) (xs : List Step) → Chain Fit open_behind n xs → AllByRecursion (HasLine version) xs
  lines_from n [] c = tt
  lines_from n (x ∷ xs) c = (c.0.2, lines_from (open_behind n x) xs c.1)

  proofs_to : (n : ℕ) (xs : List Step) → AreProofs n xs → AllByRecursion (HasLine version) xs → Chain Fit open_behind n xs × (state_behind open_behind n xs ≡ 0)
  proofs_to zero [] p has = (tt, refl)
  proofs_to zero (x ∷ xs) p has = absurd p
  proofs_to (suc n) [] p has = absurd p
  proofs_to (suc n) (x ∷ xs) p has = let h = proofs_to (n + parts x) xs p.1 has.1 in (((omega arith, p.0, has.0), h.0), h.1)

  line_takes : (waiting : ℕ) (s : Spot) (x : Step × Spot) → proof_line version waiting s ≡ Ok x → Takes s (spelled.step x.0) x.1 × Fit waiting x.0
  line_takes zero s x e = absurd cc
  line_takes (suc others) s x e = let t = step_takes version s x e in (t.0, (omega arith, t.1, t.2))

  line_again : (waiting : ℕ) (s : Spot) (x : Step) (z : List ℕ) → Fit waiting x → s.rest ≡ spelled.step x ++ z → Reads (proof_line version waiting s) x z
  line_again zero s x z i e = absurd (omega (arith, i.0))
  line_again (suc others) s x z i e = step_again version s x z i.1 i.2 e

  steps_in_turn : (k : ℕ) (xs : List Step) → in_turn (proof_line version) open_behind (λ k x. spelled.step x) Fit k xs ≡ flat_map spelled.step xs
  steps_in_turn k [] = refl
  steps_in_turn k (x ∷ xs) = ap (λ (t : List ℕ). spelled.step x ++ t) (steps_in_turn (open_behind k x) xs) ∙ sym (flat_map-cons spelled.step x xs)

some_line : (xs : List Step) → AreProofs 1 xs → 1 ≤ length xs
some_line [] p = absurd p
some_line (x ∷ xs) p = omega arith

closed_ok : (left : ℕ) (r : List Step × Spot) (x : List Step × Spot) → closed left (Ok r) r.1 ≡ Ok x → (left ≡ 0) × (r ≡ x)
closed_ok zero r x e = (refl, ok_is r x e)
closed_ok (suc n) r x e = absurd cc

all_closed_ok : (r : Taken (List Step)) (x : List Step × Spot) → all_closed r ≡ Ok x → (r ≡ Ok x) × (state_behind open_behind 1 x.0 ≡ 0)
all_closed_ok (Ok y) x e = let k = closed_ok (state_behind open_behind 1 y.0) y x e in (ap done k.1, subst (λ (v : List Step × Spot). state_behind open_behind 1 v.0 ≡ 0) k.1 k.0)
all_closed_ok (Err p) x e = absurd cc

pub proof_takes : (version : ℕ) (s : Spot) (x : List Step × Spot) → proof version s ≡ Ok x → Takes s (spelled.proof x.0) x.1 × IsProof x.0 × AllByRecursion (HasLine version) x.0
unfolding proof
proof_takes version s x e =
    let w = bind_ok (is (codes "proof") (first s)) _ x e in
    let n = bind_ok (count 1 w.0) _ x w.2 in
    let a = bind_ok (ends n.0.1) _ x n.2 in
    let c = all_closed_ok (times (proof_line version) open_behind n.0.0 1 a.0) x a.2 in
    let t = times_takes (proof_line version) open_behind (λ k x. spelled.step x) (Fit version) (line_takes version) n.0.0 1 a.0 x c.0 in
    let tn = natural_takes 1 (cap + 1) w.0 n.0 n.1 in
    let lines : Takes a.0 (flat_map spelled.step x.0) x.1 = subst (λ (y : List ℕ). Takes a.0 y x.1) (steps_in_turn version 1 x.0) t.0 in
    let e3 = Takes-then n.0.1 (10 ∷ []) a.0 (flat_map spelled.step x.0) x.1 (ends_takes n.0.1 a.0 a.1) lines in
    let e2 = Takes-then w.0 (spelled.natural n.0.0) n.0.1 (10 ∷ flat_map spelled.step x.0) x.1 tn.0 e3 in
    let e1 = Takes-then s (codes "proof") w.0 (spelled.natural n.0.0 ++ (10 ∷ flat_map spelled.step x.0)) x.1 (first_is_takes (codes "proof") s w.0 w.1) e2 in (
      subst (λ (k : ℕ). Takes s (codes "proof" ++ (spelled.natural k ++ (10 ∷ flat_map spelled.step x.0))) x.1) (sym t.2) e1,
      (proofs_from version 1 x.0 t.1 c.1, omega (arith, t.2, tn.2)),
      lines_from version 1 x.0 t.1,
    )

pub proof_again : (version : ℕ) (s : Spot) (xs : List Step) (z : List ℕ) → IsProof xs → AllByRecursion (HasLine version) xs → s.rest ≡ spelled.proof xs ++ z → Reads (proof version s) xs z
unfolding proof
proof_again version s xs z i has e =
    let p = proofs_to version 1 xs i.0 has in
    let tail : List ℕ = flat_map spelled.step xs ++ z in
    let w = is_again (codes "proof") (first s) (spelled.natural (length xs) ++ (10 ∷ tail)) (first_again s (codes "proof") (spelled.natural (length xs) ++ (10 ∷ tail)) (record { some = omega arith; all = refl }) refl (e ∙ ap (λ (t : List ℕ). codes "proof" ++ t) (append_assoc (spelled.natural (length xs)) (10 ∷ flat_map spelled.step xs) z))) in
    let n = natural_again 1 (cap + 1) w.at (length xs) (10 ∷ tail) (some_line xs i.0) (omega (arith, i.1)) (omega arith) refl w.rest in
    let a = ends_again n.at tail n.rest in
    let t = times_again (proof_line version) open_behind (λ k x. spelled.step x) (Fit version) (line_again version) 1 a.at xs z p.0 (a.rest ∙ ap (λ (t : List ℕ). t ++ z) (sym (steps_in_turn version 1 xs))) in
    record { at = t.at; is = rw (w.is, n.is, a.is, t.is, p.1) refl; rest = t.rest }

-- ---- the spelling of a tree, level by level

pub spelled_end : spelled.tree trees.End ≡ []
spelled_end = ap spelled.tree (sym rolls-End) ∙ fold-roll-Tree (List ℕ) (List ℕ) spelled.tree_step spelled.branch_step Tree-F.End

pub spelled_theirs : (t : Tree) → spelled.tree (trees.Theirs t) ≡ codes "t" ++ (10 ∷ spelled.tree t)
spelled_theirs t = ap spelled.tree (sym (rolls-Theirs t)) ∙ fold-roll-Tree (List ℕ) (List ℕ) spelled.tree_step spelled.branch_step (Tree-F.Theirs t)

pub spelled_mine : (bs : List Branch) → spelled.tree (trees.Mine bs) ≡ codes "o" ++ (spelled.natural (length (map spelled.branch bs)) ++ (10 ∷ concat (map spelled.branch bs)))
spelled_mine bs = ap spelled.tree (sym (rolls-Mine bs)) ∙ fold-roll-Tree (List ℕ) (List ℕ) spelled.tree_step spelled.branch_step (Tree-F.Mine bs)

pub spelled_branch : (m : Move) (t : Tree) → spelled.branch (record { term = m; rest = t }) ≡ spelled.move_words m ++ (10 ∷ spelled.tree t)
spelled_branch m t = ap spelled.branch (sym (rolls-Branch' (record { term = m; rest = t }))) ∙ fold-roll-Branch (List ℕ) (List ℕ) spelled.tree_step spelled.branch_step (record { term = m; rest = t })

-- ---- a move line

pub text_of : (a text b : List ℕ) → a ≡ text ++ b → take (length a - length b) a ≡ text
text_of a text b e = subst (λ (y : List ℕ). take (length y - length b) y ≡ text) (sym e) (take_at text b (length (text ++ b) - length b) (omega (arith, length-append text b)))

no_more_in : (s s' : Spot) (b : Bool) → goes_on s ≡ b → no_more s ≡ Ok s' → s ≡ s'
no_more_in s s' true h e = let q : done s' ≡ Err (next_place s) = sym e ∙ rw h refl in absurd cc
no_more_in s s' false h e = ok_is s s' (rw h refl ∙ e)

pub move_words_takes : (pos : ℕ) (s : Spot) (x : Move × Spot) → pos ≤ 2 ^ 20 → move_words pos s ≡ Ok x → Takes s (spelled.move_words x.0) x.1 × IsMoveLine pos x.0
unfolding move_words
move_words_takes pos s x small e =
    let w = bind_ok (is (codes "m") (first s)) _ x e in
    let d = bind_ok (count 1 w.0) _ x w.2 in
    let r = bind_ok (row pos d.0.1) _ x d.2 in
    let n = bind_ok (no_more r.0.1) _ x r.2 in
    let td = natural_takes 1 (cap + 1) w.0 d.0 d.1 in
    let tr = row_takes pos d.0.1 r.0 small r.1 in
    let e2 = Takes-then w.0 (spelled.natural d.0.0) d.0.1 (spelled.row r.0.0) r.0.1 td.0 tr.0 in
    let e1 = Takes-then s (codes "m") w.0 (spelled.natural d.0.0 ++ spelled.row r.0.0) r.0.1 (first_is_takes (codes "m") s w.0 w.1) e2 in
    let m : Move = record { numer = r.0.0; div = d.0.0 } in
    subst (λ (y : Move × Spot). Takes s (spelled.move_words y.0) y.1 × IsMoveLine pos y.0) (ok_is (m, n.0) x n.2)
    (subst (λ (y : Spot). Takes s (spelled.move_words m) y) (no_more_in r.0.1 n.0 (goes_on r.0.1) refl n.1) e1, ((tr.1, td.1, omega (arith, td.2)), tr.2))

move_words_again : (pos : ℕ) (s : Spot) (m : Move) (z : List ℕ) → pos ≤ 2 ^ 20 → IsMoveLine pos m → s.rest ≡ spelled.move_words m ++ (10 ∷ z) → Reads (move_words pos s) m (10 ∷ z)
unfolding move_words
move_words_again pos s m z small i e =
    let more : List ℕ = spelled.row m.numer ++ (10 ∷ z) in
    let e0 : s.rest ≡ codes "m" ++ (spelled.natural m.div ++ more) = e ∙ ap (λ (t : List ℕ). codes "m" ++ t) (append_assoc (spelled.natural m.div) (spelled.row m.numer) (10 ∷ z)) in
    let w = is_again (codes "m") (first s) (spelled.natural m.div ++ more) (first_again s (codes "m") (spelled.natural m.div ++ more) (record { some = omega arith; all = refl }) refl e0) in
    let d = natural_again 1 (cap + 1) w.at m.div more i.0.1 (omega (arith, i.0.2)) (omega arith) refl w.rest in
    let r = row_again pos d.at m.numer (10 ∷ z) small i.0.0 i.1 (lf z) d.rest in
    let off : goes_on r.at ≡ false = ap begins_with_space r.rest in
    record { at = r.at; is = rw (w.is, d.is, r.is, off) refl; rest = r.rest }

-- a text is that of one move
one_move : (pos : ℕ) (m n : Move) → pos ≤ 2 ^ 20 → IsMoveLine pos m → IsMoveLine pos n → spelled.move_words m ≡ spelled.move_words n → m ≡ n
one_move pos m n small i j e =
    let s = start (spelled.move_words m ++ (10 ∷ [])) in
    let a = move_words_again pos s m [] small i refl in
    let b = move_words_again pos s n [] small j (ap (λ (t : List ℕ). t ++ (10 ∷ [])) e) in
    ap (λ (y : Move × Spot). y.0) (ok_is (m, a.at) (n, b.at) (sym a.is ∙ b.is))

fresh_ok : (b : Bool) (m x : Move × Spot) → fresh b m ≡ Ok x → (b ≡ false) × (after : Spot) × (ends m.1 ≡ Ok after) × ((m.0, after) ≡ x)
fresh_ok true m x e = absurd cc
fresh_ok false m x e = let a = bind_ok (ends m.1) _ x e in (refl, a.0, a.1, ok_is (m.0, a.0) x a.2)

neither : (a b : Bool) → (a || b) ≡ false → (a ≡ false) × (b ≡ false)
neither true b e = absurd cc
neither false b e = (refl, e)

-- a text that was not seen is that of another move
other_moves : (m : Move) (before : List Move) → list_any (is_written_as m) before ≡ false → AllByRecursion (λ n. n ≢ m) before
other_moves m [] e = tt
other_moves m (n ∷ ns) e =
    let h = neither (is_written_as m n) (list_any (is_written_as m) ns) e in
    (λ q. let t : is_written_as m n ≡ true = (bytes_eq-Decides (spelled.move_words m) (spelled.move_words n)).1 (ap spelled.move_words (sym q)) in let u : true ≡ false = sym t ∙ h.0 in cc, other_moves m ns h.1)

false_or : (b : Bool) → (b ≡ true → ⊥) → b ≡ false
false_or true h = absurd (h refl)
false_or false h = refl

new_text : (pos : ℕ) (m : Move) (before : List Move) → pos ≤ 2 ^ 20 → IsMoveLine pos m → AllByRecursion (IsMoveLine pos) before → AllByRecursion (λ n. n ≢ m) before → list_any (is_written_as m) before ≡ false
new_text pos m [] small i all other = refl
new_text pos m (n ∷ ns) small i all other =
    let a : is_written_as m n ≡ false = false_or (is_written_as m n) (λ t. other.0 (one_move pos n m small all.0 i (sym ((bytes_eq-Decides (spelled.move_words m) (spelled.move_words n)).0 t)))) in
    rw (a, new_text pos m ns small i all.1 other.1) refl

-- ---- the moves of a node

abbrev BelowNode : ℕ → (Tree → Type 0) → Branch → Type 0
BelowNode pos Follow b = IsMoveLine pos b.term × Follow b.rest

pub all_push : {A : Type 0} (P : A → Type 0) (xs : List A) (x : A) → AllByRecursion P xs → P x → AllByRecursion P (xs ++ x ∷ [])
all_push P [] x h p = (p, tt)
all_push P (y ∷ ys) x h p = (h.0, all_push P ys x h.1 p)

module _ (rest : Spot → Taken Tree) (pos : ℕ) (Follow : Tree → Type 0) where
  branches_takes : ((s : Spot) (x : Tree × Spot) → rest s ≡ Ok x → Takes s (spelled.tree x.0) x.1 × Follow x.0) → pos ≤ 2 ^ 20
      → (n : ℕ) (before : List Move) (s : Spot) (x : List Branch × Spot) → branches rest pos n before s ≡ Ok x
      → Takes s (concat (map spelled.branch x.0)) x.1 × Differ before x.0 × AllByRecursion (BelowNode pos Follow) x.0 × (length x.0 ≡ n)
  unfolding branches move_line
  branches_takes h small zero before s x e =
      subst (λ (y : List Branch × Spot). Takes s (concat (map spelled.branch y.0)) y.1 × Differ before y.0 × AllByRecursion (BelowNode pos Follow) y.0 × (length y.0 ≡ 0)) (ok_is ([], s) x e) (record { parts = refl }, tt, tt, refl)
  branches_takes h small (suc n) before s x e =
      let l = bind_ok (move_line pos before s) _ x e in
      let m = bind_ok (move_words pos s) _ l.0 l.1 in
      let f = fresh_ok (list_any (is_written_as m.0.0) before) m.0 l.0 m.2 in
      let t = bind_ok (rest l.0.1) _ x l.2 in
      let d = made_ok (λ bs. record { term = l.0.0; rest = t.0.0 } ∷ bs) (branches rest pos n (before ++ l.0.0 ∷ []) t.0.1) x t.2 in
      let tm = move_words_takes pos s m.0 small m.1 in
      -- what the line gave, as l.0 has it
      let line : (Takes s (spelled.move_words l.0.0 ++ (10 ∷ [])) l.0.1 × IsMoveLine pos l.0.0 × (list_any (is_written_as l.0.0) before ≡ false)) =
      subst (λ (y : Move × Spot). Takes s (spelled.move_words y.0 ++ (10 ∷ [])) y.1 × IsMoveLine pos y.0 × (list_any (is_written_as y.0) before ≡ false)) f.3
      (Takes-then s (spelled.move_words m.0.0) m.0.1 (10 ∷ []) f.1 tm.0 (ends_takes m.0.1 f.1 f.2), tm.1, f.0) in
      let tr = h l.0.1 t.0 t.1 in
      let td = branches_takes h small n (before ++ l.0.0 ∷ []) t.0.1 d.0 d.1 in
      let b : Branch = record { term = l.0.0; rest = t.0.0 } in
      let one : Takes s (spelled.branch b) t.0.1 = subst (λ (y : List ℕ). Takes s y t.0.1) (append_assoc (spelled.move_words l.0.0) (10 ∷ []) (spelled.tree t.0.0) ∙ sym (spelled_branch l.0.0 t.0.0)) (Takes-then s (spelled.move_words l.0.0 ++ (10 ∷ [])) l.0.1 (spelled.tree t.0.0) t.0.1 line.0 tr.0) in
      let whole = Takes-then s (spelled.branch b) t.0.1 (concat (map spelled.branch d.0.0)) d.0.1 one td.0 in
      let others = other_moves l.0.0 before line.2 in
      subst (λ (y : List Branch × Spot). Takes s (concat (map spelled.branch y.0)) y.1 × Differ before y.0 × AllByRecursion (BelowNode pos Follow) y.0 × (length y.0 ≡ suc n)) d.2
      (whole, (others, td.1), ((line.1, tr.1), td.2), ap suc td.3)

  branches_again : ((s : Spot) (t : Tree) (z : List ℕ) → Follow t → s.rest ≡ spelled.tree t ++ z → Reads (rest s) t z)
      → pos ≤ 2 ^ 20 → (before : List Move) (bs : List Branch) (s : Spot) (z : List ℕ) → AllByRecursion (IsMoveLine pos) before → Differ before bs → AllByRecursion (BelowNode pos Follow) bs
      → s.rest ≡ concat (map spelled.branch bs) ++ z → Reads (branches rest pos (length bs) before s) bs z
  unfolding branches move_line
  branches_again h small before [] s z olds differ all e = record { at = s; is = refl; rest = e }
  branches_again h small before (b ∷ bs) s z olds differ all e =
      let more : List ℕ = concat (map spelled.branch bs) ++ z in
      let e1 : s.rest ≡ spelled.move_words b.term ++ (10 ∷ (spelled.tree b.rest ++ more)) =
      e ∙ append_assoc (spelled.branch b) (concat (map spelled.branch bs)) z ∙ ap (λ (t : List ℕ). t ++ more) (spelled_branch b.term b.rest) ∙ append_assoc (spelled.move_words b.term) (10 ∷ spelled.tree b.rest) more in
      let m = move_words_again pos s b.term (spelled.tree b.rest ++ more) small all.0.0 e1 in
      let new = new_text pos b.term before small all.0.0 olds differ.0 in
      let n = ends_again m.at (spelled.tree b.rest ++ more) m.rest in
      let t = h n.at b.rest more all.0.1 n.rest in
      let d = branches_again h small (before ++ b.term ∷ []) bs t.at z (all_push (IsMoveLine pos) before b.term olds all.0.0) differ.1 all.1 t.rest in
      record { at = d.at; is = rw (m.is, new, n.is, t.is, d.is) refl; rest = d.rest }

-- ---- trees

pub tree_takes : (ts : List Bool) (pos : ℕ) (s : Spot) (x : Tree × Spot) → pos + length ts ≤ 2 ^ 20 → tree ts pos s ≡ Ok x → Takes s (spelled.tree x.0) x.1 × FollowsTurns ts pos x.0
unfolding tree
tree_takes [] pos s x small e =
    subst (λ (y : Tree × Spot). Takes s (spelled.tree y.0) y.1 × FollowsTurns [] pos y.0) (ok_is (trees.End, s) x e) (record { parts = ap (λ (t : List ℕ). t ++ s.rest) (sym spelled_end) }, refl)
tree_takes (false ∷ ts) pos s x small e =
    let w = bind_ok (is (codes "t") (first s)) _ x e in
    let a = bind_ok (ends w.0) _ x w.2 in
    let m = made_ok trees.Theirs (tree ts (pos + 1) a.0) x a.2 in
    let t = tree_takes ts (pos + 1) a.0 m.0 (omega (arith, small)) m.1 in
    let e2 = Takes-then w.0 (10 ∷ []) a.0 (spelled.tree m.0.0) m.0.1 (ends_takes w.0 a.0 a.1) t.0 in
    let e1 = Takes-then s (codes "t") w.0 (10 ∷ spelled.tree m.0.0) m.0.1 (first_is_takes (codes "t") s w.0 w.1) e2 in
    subst (λ (y : Tree × Spot). Takes s (spelled.tree y.0) y.1 × FollowsTurns (false ∷ ts) pos y.0) m.2 (subst (λ (y : List ℕ). Takes s y m.0.1) (sym (spelled_theirs m.0.0)) e1, (m.0.0, refl, t.1))
tree_takes (true ∷ ts) pos s x small e =
    let w = bind_ok (is (codes "o") (first s)) _ x e in
    let n = bind_ok (count 1 w.0) _ x w.2 in
    let a = bind_ok (ends n.0.1) _ x n.2 in
    let m = made_ok trees.Mine (branches (tree ts (pos + 1)) pos n.0.0 [] a.0) x a.2 in
    let b = branches_takes (tree ts (pos + 1)) pos (FollowsTurns ts (pos + 1)) (λ s1 y e1. tree_takes ts (pos + 1) s1 y (omega (arith, small)) e1) (omega (arith, small)) n.0.0 [] a.0 m.0 m.1 in
    let tn = natural_takes 1 (cap + 1) w.0 n.0 n.1 in
    let e3 = Takes-then n.0.1 (10 ∷ []) a.0 (concat (map spelled.branch m.0.0)) m.0.1 (ends_takes n.0.1 a.0 a.1) b.0 in
    let e2 = Takes-then w.0 (spelled.natural n.0.0) n.0.1 (10 ∷ concat (map spelled.branch m.0.0)) m.0.1 tn.0 e3 in
    let e1 = Takes-then s (codes "o") w.0 (spelled.natural n.0.0 ++ (10 ∷ concat (map spelled.branch m.0.0))) m.0.1 (first_is_takes (codes "o") s w.0 w.1) e2 in
    let len : n.0.0 ≡ length (map spelled.branch m.0.0) = sym (length-map m.0.0 spelled.branch ∙ b.3) in
    let e0 : Takes s (spelled.tree (trees.Mine m.0.0)) m.0.1 = subst (λ (y : List ℕ). Takes s y m.0.1) (ap (λ (k : ℕ). codes "o" ++ (spelled.natural k ++ (10 ∷ concat (map spelled.branch m.0.0)))) len ∙ sym (spelled_mine m.0.0)) e1 in
    subst (λ (y : Tree × Spot). Takes s (spelled.tree y.0) y.1 × FollowsTurns (true ∷ ts) pos y.0) m.2 (e0, (m.0.0, refl, (omega (arith, b.3, tn.1), omega (arith, b.3, tn.2)), b.1, b.2))

pub tree_again : (ts : List Bool) (pos : ℕ) (s : Spot) (t : Tree) (z : List ℕ) → pos + length ts ≤ 2 ^ 20 → FollowsTurns ts pos t → s.rest ≡ spelled.tree t ++ z → Reads (tree ts pos s) t z
unfolding tree
tree_again [] pos s t z small f e = record { at = s; is = ap (λ (u : Tree). done (u, s)) (sym f); rest = e ∙ ap (λ (u : Tree). spelled.tree u ++ z) f ∙ ap (λ (u : List ℕ). u ++ z) spelled_end }
tree_again (false ∷ ts) pos s t z small f e =
    let e1 : s.rest ≡ codes "t" ++ (10 ∷ (spelled.tree f.0 ++ z)) = e ∙ ap (λ (u : Tree). spelled.tree u ++ z) f.1 ∙ ap (λ (u : List ℕ). u ++ z) (spelled_theirs f.0) in
    let w = is_again (codes "t") (first s) (10 ∷ (spelled.tree f.0 ++ z)) (first_again s (codes "t") (10 ∷ (spelled.tree f.0 ++ z)) (record { some = omega arith; all = refl }) refl e1) in
    let a = ends_again w.at (spelled.tree f.0 ++ z) w.rest in
    let b = tree_again ts (pos + 1) a.at f.0 z (omega (arith, small)) f.2 a.rest in
    record { at = b.at; is = rw (w.is, a.is, b.is) (ap (λ (u : Tree). done (u, b.at)) (sym f.1)); rest = b.rest }
tree_again (true ∷ ts) pos s t z small f e =
    let text : List ℕ = concat (map spelled.branch f.0) in
    let len : length (map spelled.branch f.0) ≡ length f.0 = length-map f.0 spelled.branch in
    let e1 : s.rest ≡ codes "o" ++ (spelled.natural (length f.0) ++ (10 ∷ (text ++ z))) =
    e ∙ ap (λ (u : Tree). spelled.tree u ++ z) f.1 ∙ ap (λ (u : List ℕ). u ++ z) (spelled_mine f.0 ∙ ap (λ (k : ℕ). codes "o" ++ (spelled.natural k ++ (10 ∷ text))) len) ∙ ap (λ (u : List ℕ). codes "o" ++ u) (append_assoc (spelled.natural (length f.0)) (10 ∷ text) z) in
    let w = is_again (codes "o") (first s) (spelled.natural (length f.0) ++ (10 ∷ (text ++ z))) (first_again s (codes "o") (spelled.natural (length f.0) ++ (10 ∷ (text ++ z))) (record { some = omega arith; all = refl }) refl e1) in
    let n = natural_again 1 (cap + 1) w.at (length f.0) (10 ∷ (text ++ z)) f.2.0 (omega (arith, f.2.1)) (omega arith) refl w.rest in
    let a = ends_again n.at (text ++ z) n.rest in
    let b = branches_again (tree ts (pos + 1)) pos (FollowsTurns ts (pos + 1)) (λ s1 t1 z1 f1 e2. tree_again ts (pos + 1) s1 t1 z1 (omega (arith, small)) f1 e2) (omega (arith, small)) [] f.0 a.at z tt f.3 f.4 a.rest in
    record { at = b.at; is = rw (w.is, n.is, a.is, b.is) (ap (λ (u : Tree). done (u, b.at)) (sym f.1)); rest = b.rest }
