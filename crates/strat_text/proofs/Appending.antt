-- Putting one text behind the other.
use Rattle.std.proofs.Common.{◌≡◌, ℕ, zero, suc, ◌+◌, ◌<◌, List, [], ◌∷◌, ◌++◌, length, take, get_or, map, refl, sym, ap, ◌∙◌, append_assoc, arith}
use Rattle.std.specs.List.{concat}
use Rattle.std.proofs.lemmas.List.{append-nil}
use Rattle.strat_text.specs.declared.section.Section.{Section}
use Rattle.strat_text.specs.Written.{sections_from, section}

pub five_parts : (o a b c d e : List ℕ) → o ++ (a ++ b) ++ (c ++ d) ++ e ≡ o ++ (a ++ (b ++ (c ++ (d ++ e))))
five_parts o a b c d e = simp append_assoc refl

next_is : (i : ℕ) → suc i + 1 ≡ suc (i + 1)
next_is i = omega arith

pub concat_more : {A : Type 0} (f : A → List ℕ) (xs : List A) (i : ℕ) (d : A) → i < length xs → concat (map f (take (i + 1) xs)) ≡ concat (map f (take i xs)) ++ f (get_or xs i d)
concat_more f [] i d lt = absurd (omega (arith, lt))
concat_more f (x ∷ xs) zero d lt = append-nil (f x)
concat_more f (x ∷ xs) (suc i) d lt = ap (λ m. concat (map f (take m (x ∷ xs)))) (next_is i) ∙ ap (λ (t : List ℕ). f x ++ t) (concat_more f xs i d (omega (arith, lt))) ∙ sym (append_assoc (f x) (concat (map f (take i xs))) (f (get_or xs i d)))

pub sections_more : (xs : List Section) (k i : ℕ) (d : Section) → i < length xs → sections_from k (take (i + 1) xs) ≡ sections_from k (take i xs) ++ section (k + i) (get_or xs i d)
sections_more [] k i d lt = absurd (omega (arith, lt))
sections_more (x ∷ xs) k zero d lt = append-nil (section k x) ∙ ap (λ n. section n x) (omega arith)
sections_more (x ∷ xs) k (suc i) d lt =
    let n : k + 1 + i ≡ k + suc i = omega arith in
    ap (λ m. sections_from k (take m (x ∷ xs))) (next_is i) ∙ ap (λ (t : List ℕ). section k x ++ t) (sections_more xs (k + 1) i d (omega (arith, lt)) ∙ ap (λ m. sections_from (k + 1) (take i xs) ++ section m (get_or xs i d)) n) ∙ sym (append_assoc (section k x) (sections_from (k + 1) (take i xs)) (section (k + suc i) (get_or xs i d)))
