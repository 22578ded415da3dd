-- Distinct words have one row each.
use Rattle.std.proofs.Common.{◌≡◌, ◌<◌, ◌∷◌, [], ◌∙◌, ◌↔◌, ℕ, zero, suc, Bool, true, Some, List, length, get_or, position, refl, sym, ap, arith, not}
use Rattle.std.specs.Str.{bytes_eq}
use Rattle.std.specs.List.{list_any, position_or_len}
use Rattle.std.proofs.lemmas.Bool.{and_parts, lt-ltb, true≢false, false_from_ne_true}
use Rattle.std.proofs.lemmas.Slice.Eq.{bytes_eq-Decides}
use Rattle.std.proofs.lemmas.List.Folds.{list_any_at}
use Rattle.std.proofs.lemmas.List.Sums.{position_or_len_is}
use Rattle.std.proofs.lemmas.List.Quantifiers.{position-Some}
use Rattle.std.proofs.lemmas.Option.{get_or_from_slice_get, slice_get-get_or, slice_get_within}
use Rattle.ss_names.specs.Words.{are_distinct, IsRowOf}

-- no two rows have the same word
distinct_at : (ws : List (List ℕ)) (k row : ℕ) → are_distinct ws ≡ true → k < row → row < length ws → get_or ws k [] ≡ get_or ws row [] → ⊥
distinct_at [] k row d lt within same = omega arith
distinct_at (w ∷ ws) k zero d lt within same = omega arith
distinct_at (w ∷ ws) zero (suc row) d lt within same =
    let found : list_any (bytes_eq w) ws ≡ true = list_any_at (bytes_eq w) ws row [] (omega arith) ((bytes_eq-Decides w (get_or ws row [])).1 same) in
    true≢false (sym (and_parts _ _ d).0 ∙ ap not found)
distinct_at (w ∷ ws) (suc k) (suc row) d lt within same = distinct_at ws k row (and_parts _ _ d).1 (omega arith) (omega arith) same

-- the row of a word is the first that has it
pub row_is : (ws : List (List ℕ)) (word : List ℕ) → are_distinct ws ≡ true → (row : ℕ) → position (λ known. bytes_eq known word) ws ≡ Some row ↔ IsRowOf row word ws
row_is ws word d row = (there, back)
  where
    test : List ℕ → Bool
    test = λ known. bytes_eq known word

    there : position (λ known. bytes_eq known word) ws ≡ Some row → IsRowOf row word ws
    there is =
        let p = position-Some (λ known. bytes_eq known word) ws row [] is in
        slice_get-get_or ws row [] p.0 ∙ ap Some ((bytes_eq-Decides (get_or ws row []) word).0 p.1)

    back : IsRowOf row word ws → position (λ known. bytes_eq known word) ws ≡ Some row
    back is =
        let within : row < length ws = slice_get_within ws row word is in
        let has : get_or ws row [] ≡ word = get_or_from_slice_get ws row word [] is in
        let first : position_or_len (λ known. bytes_eq known word) ws ≡ row =
        position_or_len_is (λ known. bytes_eq known word) ws row [] (omega arith)
        (λ k lt. false_from_ne_true _ (λ same. distinct_at ws k row d lt within ((bytes_eq-Decides (get_or ws k []) word).0 same ∙ sym has)))
        (λ _. (bytes_eq-Decides (get_or ws row []) word).1 has) in
        rw (first, lt-ltb _ _ within) refl
