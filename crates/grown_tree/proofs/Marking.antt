-- The first place of a move among those of a node.
use Rattle.std.specs.Prelude.{ℕ, ◌+◌, ◌<◌, ◌≤◌, ◌≡◌, Bool, true, false, Some, None, List, [], ◌∷◌, ◌++◌, length, take, drop, get_or}
use Rattle.std.proofs.Common.{arith, ap, ◌∙◌, sym}
use Rattle.std.proofs.lemmas.List.{length-map, length-take-le, map_more, map-append, take-append-drop, drop_more}
use Rattle.lin_term.specs.Move.{Move}
use Rattle.lin_term.specs.Same.{same_move}
use Rattle.game_tree.specs.Gather.{place}
use Rattle.game_tree.proofs.Placing.{place_here, place_other}
use Rattle.grown_tree.specs.declared.marks.Mark.{Mark}
use Rattle.grown_tree.specs.Shown.{terms_of}

terms_count : (ms : List Mark) (i : ℕ) → i ≤ length ms → i ≡ length (terms_of (take i ms))
terms_count ms i l = sym (length-map (take i ms) (λ (x : Mark). x.term) ∙ length-take-le i ms l)

terms_more : (ms : List Mark) (i : ℕ) (k : Mark) → i < length ms → k ≡ get_or ms i k → terms_of (take (i + 1) ms) ≡ terms_of (take i ms) ++ k.term ∷ []
terms_more ms i k l e = map_more (λ (x : Mark). x.term) ms i k l ∙ ap (λ (x : Mark). terms_of (take i ms) ++ x.term ∷ []) (sym e)

terms_split : (ms : List Mark) (i : ℕ) (k : Mark) → i < length ms → k ≡ get_or ms i k → terms_of ms ≡ terms_of (take i ms) ++ k.term ∷ terms_of (drop (i + 1) ms)
terms_split ms i k l e =
    ap terms_of (sym (take-append-drop i ms)) ∙ map-append (λ (x : Mark). x.term) (take i ms) (drop i ms)
    ∙ ap (λ (xs : List Mark). terms_of (take i ms) ++ terms_of xs) (drop_more ms i k l)
    ∙ ap (λ (x : Mark). terms_of (take i ms) ++ x.term ∷ terms_of (drop (i + 1) ms)) (sym e)

pub found_mark : (ms : List Mark) (i : ℕ) (k : Mark) (m : Move) (r : Bool) → i < length ms → k ≡ get_or ms i k → place m (terms_of (take i ms)) ≡ None → r ≡ same_move k.term m → r ≡ true → Some i ≡ place m (terms_of ms)
found_mark ms i k m r l e n v t =
    ap (λ (j : ℕ). Some j) (terms_count ms i (omega (arith, l)))
    ∙ sym (place_here (terms_of (take i ms)) (terms_of (drop (i + 1) ms)) k.term m n (sym v ∙ t))
    ∙ ap (λ (xs : List Move). place m xs) (sym (terms_split ms i k l e))

pub other_mark : (ms : List Mark) (i : ℕ) (k : Mark) (m : Move) (r : Bool) → i < length ms → k ≡ get_or ms i k → place m (terms_of (take i ms)) ≡ None → r ≡ same_move k.term m → r ≡ false → place m (terms_of (take (i + 1) ms)) ≡ None
other_mark ms i k m r l e n v f = ap (λ (xs : List Move). place m xs) (terms_more ms i k l e) ∙ place_other (terms_of (take i ms)) k.term m (sym v ∙ f) ∙ n
