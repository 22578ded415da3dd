-- The moves of a node, as a loop reads them, and the set of their texts.
use Rattle.std.proofs.Common.{◌≡◌, ℕ, suc, ◌+◌, ◌-◌, ◌≤◌, ◌<◌, Bool, true, false, cond, not, ◌||◌, List, [], ◌∷◌, ◌++◌, Result, Ok, Err, refl, sym, ap, subst, ◌∙◌, arith}
use Rattle.std.proofs.lemmas.List.{append-nil}
use Rattle.std.proofs.lemmas.List.Folds.{list_any-append}
use Rattle.std.proofs.lemmas.Map.Text.{is_eq-slice_cmp}
use Rattle.std.proofs.lemmas.Slice.Eq.{bytes_eq-Decides}
use Rattle.std.specs.BTreeSet.{BTreeSet, contains, Updates}
use Rattle.std.specs.Cmp.Lexicographic.{slice_cmp}
use Rattle.std.specs.List.{list_any}
use Rattle.std.specs.Ordering.{nat_cmp}
use Rattle.std.specs.Prelude.{IfOk, OnOk}
use Rattle.std.specs.Str.{bytes_eq}
use denote.Ref.{Bor}
use Rattle.lin_term.specs.Move.{Move}
use Rattle.game_tree.specs.declared.tree.Tree.{Tree}
use Rattle.game_tree.specs.declared.tree.Branch.{Branch}
use Rattle.strat_words.specs.declared.fault.FileFault.{FileFault}
use Rattle.strat_words.specs.declared.fault.FileFault.TheVariants as faults
use Rattle.strat_words.specs.Spot.{Spot, Place, Taken, ◌>>=◌, Fails, ends, last_place}
use Rattle.strat_words.proofs.Loops.{with_front, regroup}
use Rattle.strat_text.specs.Seen.{HasMoves}
use Rattle.strat_text.specs.Tree.{move_words, is_written_as, move_line, branches}
use Rattle.strat_text.specs.Written as written

-- ---- the set of the texts

pub fresh_text : {E : Type 0} (r : Result Bool E) (had is : Bool) → had ≡ is → IfOk r (λ new. new ≡ not had) → IfOk r (λ new. new ≡ not is)
fresh_text (Ok b) had is e h = h ∙ ap not e
fresh_text (Err f) had is e h = tt

same_tests : (a b : Bool) → (a ≡ true → b ≡ true) → (b ≡ true → a ≡ true) → a ≡ b
same_tests true b h k = sym (h refl)
same_tests false true h k = k refl
same_tests false false h k = refl

bytes_eq_sym : (a b : List ℕ) → bytes_eq a b ≡ bytes_eq b a
bytes_eq_sym a b = same_tests (bytes_eq a b) (bytes_eq b a) (λ h. (bytes_eq-Decides b a).1 (sym ((bytes_eq-Decides a b).0 h))) (λ h. (bytes_eq-Decides a b).1 (sym ((bytes_eq-Decides b a).0 h)))

or_last : (a b : Bool) → cond a true b ≡ (b || (a || false))
or_last true true = refl
or_last true false = refl
or_last false true = refl
or_last false false = refl

-- one more text
pub grown : {E : Type 0} (r : Result Bool E) (old new : BTreeSet (Bor (List ℕ))) (text : Bor (List ℕ)) (ms : List Move) (m : Move) → OnOk r (Updates (λ a b. slice_cmp nat_cmp a.now b.now) old new text true)
    → HasMoves old ms → text.now ≡ written.move_words m → OnOk r (HasMoves new (ms ++ m ∷ []))
grown (Err f) old new text ms m u h e = tt
grown (Ok b) old new text ms m u h e = λ t.
    let at : bytes_eq text.now t.now ≡ bytes_eq t.now (written.move_words m) = bytes_eq_sym text.now t.now ∙ ap (bytes_eq t.now) e in
    u.0 t ∙ ap (λ c. cond c true (contains (λ a b. slice_cmp nat_cmp a.now b.now) old t)) (is_eq-slice_cmp text.now t.now ∙ at)
    ∙ ap (cond (bytes_eq t.now (written.move_words m)) true) (h t)
    ∙ or_last (bytes_eq t.now (written.move_words m)) (list_any (λ n. bytes_eq t.now (written.move_words n)) ms)
    ∙ sym (list_any-append (λ n. bytes_eq t.now (written.move_words n)) ms (m ∷ []))

-- ---- a move line

seen_in : (b : Bool) → false ≡ not b → b ≡ true
seen_in true h = refl
seen_in false h = absurd cc

unseen_in : (b : Bool) → true ≡ not b → b ≡ false
unseen_in true h = absurd cc
unseen_in false h = refl

module _ (pos : ℕ) (ms : List Move) (s : Spot) (m : Move × Spot) (text : List ℕ) (read : move_words pos s ≡ Ok m) (is : text ≡ written.move_words m.0) where
  known : (b : Bool) → b ≡ not (list_any (λ n. bytes_eq text (written.move_words n)) ms) → b ≡ not (list_any (is_written_as m.0) ms)
  known b h = subst (λ y. b ≡ not (list_any (λ n. bytes_eq y (written.move_words n)) ms)) is h

  pub line_repeats : (b : Bool) → b ≡ not (list_any (λ n. bytes_eq text (written.move_words n)) ms) → b ≡ false → move_line pos ms s ≡ Err (last_place m.1)
  unfolding move_line
  line_repeats b h off = let l : list_any (is_written_as m.0) ms ≡ true = seen_in (list_any (is_written_as m.0) ms) (sym off ∙ known b h) in rw (read, l) refl

  pub line_ends : (b : Bool) → b ≡ not (list_any (λ n. bytes_eq text (written.move_words n)) ms) → b ≡ true → move_line pos ms s ≡ (ends m.1 >>= λ after. Ok (m.0, after))
  unfolding move_line
  line_ends b h on = let l : list_any (is_written_as m.0) ms ≡ false = unseen_in (list_any (is_written_as m.0) ms) (sym on ∙ known b h) in rw (read, l) refl

  pub line_fails : (e : FileFault) (b : Bool) → b ≡ not (list_any (λ n. bytes_eq text (written.move_words n)) ms) → b ≡ true → Fails e (ends m.1) → Fails e (move_line pos ms s)
  line_fails faults.Memory b h on f = tt
  line_fails (faults.Bad l w) b h on f = line_ends b h on ∙ ap (λ (r : Result Spot Place). r >>= λ after. Ok (m.0, after)) f

  pub line_done : (after : Spot) (b : Bool) → b ≡ not (list_any (λ n. bytes_eq text (written.move_words n)) ms) → b ≡ true → ends m.1 ≡ Ok after → move_line pos ms s ≡ Ok (m.0, after)
  line_done after b h on e = line_ends b h on ∙ ap (λ (r : Result Spot Place). r >>= λ after. Ok (m.0, after)) e

-- ---- the moves of a node, as a loop reads them

module _ (rest : Spot → Taken Tree) (pos : ℕ) where
  pub branch_on : (front : List Branch) (count i : ℕ) (before : List Move) (s : Spot) (m : Move × Spot) (t : Tree × Spot) (total : Taken (List Branch)) → i < count → move_line pos before s ≡ Ok m → rest m.1 ≡ Ok t
      → with_front front (branches rest pos (count - i) before s) ≡ total → with_front (front ++ record { term = m.0; rest = t.0 } ∷ []) (branches rest pos (count - (i + 1)) (before ++ m.0 ∷ []) t.1) ≡ total
  unfolding branches
  branch_on front count i before s m t total lt h k so_far =
      let n : count - i ≡ suc (count - (i + 1)) = omega arith in
      let b : Branch = record { term = m.0; rest = t.0 } in
      let e : with_front front (branches rest pos (count - i) before s) ≡ with_front (front ++ b ∷ []) (branches rest pos (count - (i + 1)) (before ++ m.0 ∷ []) t.1) = rw (n, h, k) (regroup front b (branches rest pos (count - (i + 1)) (before ++ m.0 ∷ []) t.1)) in
      sym e ∙ so_far

  pub move_fails : (e : FileFault) (front : List Branch) (count i : ℕ) (before : List Move) (s : Spot) (total : Taken (List Branch)) → i < count → Fails e (move_line pos before s)
      → with_front front (branches rest pos (count - i) before s) ≡ total → Fails e total
  unfolding branches
  move_fails faults.Memory front count i before s total lt h so_far = tt
  move_fails (faults.Bad l w) front count i before s total lt h so_far =
      let n : count - i ≡ suc (count - (i + 1)) = omega arith in
      let e : with_front front (branches rest pos (count - i) before s) ≡ Err (record { line = l; word = w }) = rw (n, h) refl in
      sym so_far ∙ e

  pub rest_fails : (e : FileFault) (front : List Branch) (count i : ℕ) (before : List Move) (s : Spot) (m : Move × Spot) (total : Taken (List Branch)) → i < count → move_line pos before s ≡ Ok m → Fails e (rest m.1)
      → with_front front (branches rest pos (count - i) before s) ≡ total → Fails e total
  unfolding branches
  rest_fails faults.Memory front count i before s m total lt h k so_far = tt
  rest_fails (faults.Bad l w) front count i before s m total lt h k so_far =
      let n : count - i ≡ suc (count - (i + 1)) = omega arith in
      let e : with_front front (branches rest pos (count - i) before s) ≡ Err (record { line = l; word = w }) = rw (n, h, k) refl in
      sym so_far ∙ e

  pub branches_done : (front : List Branch) (count i : ℕ) (before : List Move) (s : Spot) (total : Taken (List Branch)) → count ≤ i
      → with_front front (branches rest pos (count - i) before s) ≡ total → total ≡ Ok (front, s)
  unfolding branches
  branches_done front count i before s total le so_far =
      let n : count - i ≡ 0 = omega arith in
      let e : with_front front (branches rest pos (count - i) before s) ≡ Ok (front, s) = rw n (ap (λ xs. Ok (xs, s)) (append-nil front)) in
      sym so_far ∙ e
