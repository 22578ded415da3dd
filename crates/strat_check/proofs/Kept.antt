-- The test of a move is whether it is kept.
use Rattle.std.specs.Prelude.{◌≡◌, ◌&&◌, is_none, Bool, true, false, Option, Some, None}
use Rattle.std.proofs.Common.{ap, refl}
use Rattle.std.proofs.lemmas.Bool.{and_parts}
use Rattle.lin_term.specs.declared.Sort.{Sort}
use Rattle.lin_term.specs.Move.{Move, lowest}
use Rattle.lin_term.specs.Definition.{move_numbers, IsKeptMove}
use Rattle.lin_term.specs.Same.{same_move}
use Rattle.lin_term.specs.Wide.{first_past}
use Rattle.lin_term.proofs.Comparing.{move_decides}
use Rattle.strat_check.specs.Section.{is_kept}

both_true : (a b : Bool) → a ≡ true → b ≡ true → (a && b) ≡ true
both_true true true p q = refl
both_true true false p q = q
both_true false b p q = p

none_is : {A : Type 0} → (o : Option A) → is_none o ≡ true → o ≡ None
none_is None h = refl
none_is (Some x) h = absurd (cc)

is_of_none : {A : Type 0} → (o : Option A) → o ≡ None → is_none o ≡ true
is_of_none o e = ap is_none e

-- a move that passes the test is kept
pub test_kept : (s : Sort) (m : Move) → is_kept s m ≡ true → IsKeptMove s m
test_kept s m h =
    let a = and_parts (same_move (lowest s m) m) (is_none (first_past (move_numbers s m))) h in
    let d = move_decides (lowest s m) m in
    record { is_lowest = d.0 a.0; within = none_is (first_past (move_numbers s m)) a.1 }

-- a kept move passes the test
pub kept_test : (s : Sort) (m : Move) → IsKeptMove s m → is_kept s m ≡ true
kept_test s m h =
    let d = move_decides (lowest s m) m in
    both_true (same_move (lowest s m) m) (is_none (first_past (move_numbers s m))) (d.1 h.is_lowest)
    (is_of_none (first_past (move_numbers s m)) h.within)
