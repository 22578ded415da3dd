-- A kind of line has its word alone.
use Rattle.std.specs.Prelude.{ℕ, ◌≡◌, Bool, true, false, Option, Some, None, IfSome, List, [], ◌∷◌, if◌then◌else◌}
use Rattle.std.specs.Str.{bytes_eq}
use Rattle.std.proofs.Common.{ap, ◌∙◌, sym, refl}
use Rattle.std.proofs.lemmas.Slice.Eq.{bytes_eq-Decides}
use Rattle.cube_rules.specs.declared.kind.Kind.{Kind}
use Rattle.cube_rules.specs.declared.kind.Kind.TheVariants.{Path, Def, Part, Cases, Sum, Split, Cube, Least, Learn, False}
use Rattle.cube_rules.specs.Name.{word_of, kinds, first_named, kind_named}

-- a kind that is found has the word
pub found_among : (w : List ℕ) (ks : List Kind) (k : Kind) → first_named w ks ≡ Some k → w ≡ word_of k
found_among w [] k e = absurd (cc)
found_among w (x ∷ xs) k e = by (bytes_eq w (word_of x)) refl (found_among w xs k) e
  where
    by : (b : Bool) → bytes_eq w (word_of x) ≡ b → (first_named w xs ≡ Some k → w ≡ word_of k) → (if b then Some x else first_named w xs) ≡ Some k → w ≡ word_of k
    by true f later h =
        let d = bytes_eq-Decides w (word_of x) in
        let same : x ≡ k = cc in
        d.0 f ∙ ap word_of same
    by false f later h = later h

pub found_is : (w : List ℕ) (o : Option Kind) → o ≡ kind_named w → IfSome o (λ k. w ≡ word_of k)
found_is w None e = tt
found_is w (Some k) e = found_among w kinds k (sym e)

pub named_again : (k : Kind) → kind_named (word_of k) ≡ Some k
named_again Path = refl
named_again Def = refl
named_again Part = refl
named_again Cases = refl
named_again Sum = refl
named_again Split = refl
named_again Cube = refl
named_again Least = refl
named_again Learn = refl
named_again False = refl
