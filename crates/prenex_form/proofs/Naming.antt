-- The names that are handed down ascend.
use Rattle.std.specs.Prelude.{ℕ, suc, ◌+◌, ◌<◌, ◌≤◌, List, [], ◌∷◌, ◌++◌, length, get_or}
use Rattle.std.proofs.Common.{arith}
use Rattle.norm_form.proofs.Ascending.{Ascends, AllBelow, ascends_two, push_ascends, below_push, below_suc}
use Rattle.prenex_form.specs.Prenex.{Mark, left, right, left_names, right_names}
use Rattle.prenex_form.specs.Place.{named}

pub left_ascends : (names : List ℕ) (k : ℕ) (ms : List Mark) → Ascends 0 names → AllBelow k names → Ascends 0 (left_names names k ms)
left_ascends names k [] a b = a
left_ascends names k (left q ∷ ms) a b =
    left_ascends (names ++ k ∷ []) (suc k) ms (push_ascends 0 names k a b (omega arith)) (below_push (suc k) names k (below_suc k names b) (omega arith))
left_ascends names k (right q ∷ ms) a b = left_ascends names (suc k) ms a (below_suc k names b)

pub right_ascends : (names : List ℕ) (k : ℕ) (ms : List Mark) → Ascends 0 names → AllBelow k names → Ascends 0 (right_names names k ms)
right_ascends names k [] a b = a
right_ascends names k (left q ∷ ms) a b = right_ascends names (suc k) ms a (below_suc k names b)
right_ascends names k (right q ∷ ms) a b =
    right_ascends (names ++ k ∷ []) (suc k) ms (push_ascends 0 names k a b (omega arith)) (below_push (suc k) names k (below_suc k names b) (omega arith))

-- names of names: with a lower bound by the name of n
named_ascends : (names is : List ℕ) (n lo : ℕ) → Ascends 0 names → Ascends n is → AllBelow (length names) is → ((i : ℕ) → n ≤ i → i < length names → lo ≤ get_or names i 0) → Ascends lo (named names is)
named_ascends names [] n lo a b c f = tt
named_ascends names (i ∷ is) n lo a b c f =
    (f i b.0 c.0, named_ascends names is (i + 1) (get_or names i 0 + 1) a b.1 c.1 (λ j h l. let g = ascends_two 0 names i j a (omega arith) l in omega arith))

pub named_names_ascend : (names is : List ℕ) → Ascends 0 names → Ascends 0 is → AllBelow (length names) is → Ascends 0 (named names is)
named_names_ascend names is a b c = named_ascends names is 0 0 a b c (λ i h l. omega arith)
