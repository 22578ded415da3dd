-- The lesser of two numbers, where none is above each; the least of a list.
use Rattle.std.specs.Prelude.{ℕ, min, ◌≡◌, Bool, true, false, not, ◌&&◌, if◌then◌else◌, Option, Some, None, List, [], ◌∷◌, ◌++◌}
use Rattle.std.proofs.Common.{arith, ap, ◌∙◌, sym, refl}
use Rattle.proof_idle.specs.Least.{lesser, least}

pub lesser_none : (b : Option ℕ) → lesser b None ≡ b
lesser_none None = refl
lesser_none (Some x) = refl

pub lesser_assoc : (a b c : Option ℕ) → lesser (lesser a b) c ≡ lesser a (lesser b c)
lesser_assoc None b c = refl
lesser_assoc (Some x) None c = refl
lesser_assoc (Some x) (Some y) None = refl
lesser_assoc (Some x) (Some y) (Some z) = ap Some (let o : min (min x y) z ≡ min x (min y z) = omega arith in o)

lesser_comm : (a b : Option ℕ) → lesser a b ≡ lesser b a
lesser_comm None b = sym (lesser_none b)
lesser_comm (Some x) None = refl
lesser_comm (Some x) (Some y) = ap Some (let o : min x y ≡ min y x = omega arith in o)

pub lesser_swap : (a b c : Option ℕ) → lesser a (lesser b c) ≡ lesser b (lesser a c)
lesser_swap a b c = sym (lesser_assoc a b c) ∙ ap (λ (x : Option ℕ). lesser x c) (lesser_comm a b) ∙ lesser_assoc b a c

pub least_append : (xs ys : List ℕ) → least (xs ++ ys) ≡ lesser (least xs) (least ys)
least_append [] ys = refl
least_append (x ∷ xs) ys = ap (lesser (Some x)) (least_append xs ys) ∙ sym (lesser_assoc (Some x) (least xs) (least ys))

pub least_one : (i : ℕ) (t : Bool) → least (if t then i ∷ [] else []) ≡ (if t then Some i else None)
least_one i true = refl
least_one i false = refl

some_least : (x : ℕ) (b : Option ℕ) → lesser (Some x) b ≡ None → ⊥
some_least x None e = absurd (cc)
some_least x (Some y) e = absurd (cc)

pub no_least : (xs : List ℕ) → least xs ≡ None → xs ≡ []
no_least [] e = refl
no_least (x ∷ xs) e = absurd (some_least x (least xs) e)

-- the line, unless what is to hold does
abbrev pub unless : Bool → ℕ → Bool → Option ℕ
unless c i x = if c && not x then Some i else None

pub unless_both : (c : Bool) (i : ℕ) (x y : Bool) → unless c i (x && y) ≡ lesser (unless c i x) (unless c i y)
unless_both true i true true = refl
unless_both true i true false = refl
unless_both true i false true = refl
unless_both true i false false = ap Some (let o : i ≡ min i i = omega arith in o)
unless_both false i x y = refl

pub unless_true : (c : Bool) (i : ℕ) (x : Bool) → unless c i (x && true) ≡ unless c i x
unless_true c i true = refl
unless_true c i false = refl
