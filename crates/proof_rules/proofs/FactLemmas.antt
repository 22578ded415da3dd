-- Facts of a context, by number.
use Rattle.std.specs.Prelude.{ℕ, zero, suc, ◌≡◌, ◌<◌, pos, get_or, Bool, Some, None, option_map, option_and_then, slice_get, List, [], ◌∷◌, map, length}
use Rattle.std.proofs.Common.{arith, ap, ◌∙◌, sym, subst, refl}
use Rattle.lin_term.specs.declared.Sort.{Sort}
use Rattle.lin_term.specs.declared.Sort.TheVariants.{Rat, Int}
use Rattle.lin_term.specs.declared.Lit.{Lit}
use Rattle.lin_term.specs.declared.Lit.TheVariants.{AtLeast, Above, Divides, NotDivides}
use Rattle.lin_term.specs.Literal.{IsOf, neg, opposite, rename_lit}
use Rattle.lin_term.specs.Primable.{IsPrimable}
use Rattle.lin_term.specs.Wide.{first_past, lit_numbers, form_numbers}
use Rattle.lin_term.proofs.Capping.{past-head}
use Rattle.lin_term.proofs.Lowest.{prim_is_primitive}
use Rattle.dom_core.specs.Game.{lit, IsMatrix}
use Rattle.dom_core.specs.Problem.{HasNegations}
use Rattle.dom_core.proofs.Renaming.{neg_is_matrix, renamed_primitive}
use Rattle.lose_system.specs.Written.{WrittenSystem}
use Rattle.cube_rules.specs.Facts.{literal_of, literal_at}
use Rattle.proof_rules.specs.declared.fact.Fact.{Fact}
use Rattle.proof_rules.specs.Held.{fact_of, context_of, IsKnown, IsFact, AreFacts}

some_same : {A : Type 0} (x y : A) → Some x ≡ Some y → x ≡ y
some_same x y e = cc

pub fact_at : (s : Sort) (w : WrittenSystem) (fs : List Fact) (i : ℕ) (f : Fact) → AreFacts s w fs → slice_get fs i ≡ Some f → IsFact s w f
fact_at s w [] i f a e = absurd (cc)
fact_at s w (x ∷ fs) zero f a e = subst (λ (y : Fact). IsFact s w y) (some_same x f e) a.0
fact_at s w (x ∷ fs) (suc i) f a e = fact_at s w fs i f a.1 e

pub seen_at : (s : Sort) (w : WrittenSystem) (fs : List Fact) (i : ℕ) → slice_get (map (fact_of s w) fs) i ≡ option_map (fact_of s w) (slice_get fs i)
seen_at s w [] i = refl
seen_at s w (f ∷ fs) zero = refl
seen_at s w (f ∷ fs) (suc i) = seen_at s w fs i

pub literal_found : (s : Sort) (w : WrittenSystem) (fs : List Fact) (i : ℕ) (f : Fact) (bare : Bool) → slice_get fs i ≡ Some f → literal_at (context_of s w bare fs) i ≡ literal_of (fact_of s w f)
literal_found s w fs i f bare e =
    ap (option_and_then literal_of) (seen_at s w fs i ∙ ap (option_map (fact_of s w)) e)

-- of the sort and within the cap
pub primable_within : (s : Sort) (l : Lit) → IsOf s l → first_past (lit_numbers l) ≡ None → IsPrimable s l
primable_within s (AtLeast f) o h = tt
primable_within s (Above f) o h = tt
primable_within Rat (Divides d f) o h = absurd o
primable_within Rat (NotDivides d f) o h = absurd o
primable_within Int (Divides d f) o h = (o, past-head (pos d) (form_numbers f) h)
primable_within Int (NotDivides d f) o h = (o, past-head (pos d) (form_numbers f) h)

primable_renamed : (s : Sort) (names : List ℕ) (l : Lit) → IsPrimable s l → IsPrimable s (rename_lit names l)
primable_renamed s names (AtLeast f) p = tt
primable_renamed s names (Above f) p = tt
primable_renamed Rat names (Divides d f) p = absurd p
primable_renamed Rat names (NotDivides d f) p = absurd p
primable_renamed Int names (Divides d f) p = p
primable_renamed Int names (NotDivides d f) p = p

-- a literal of a path
pub made_known : (s : Sort) (names : List ℕ) (l x : Lit) (n : ℕ) → x ≡ rename_lit names (neg s l) → IsMatrix (lit l) s n → HasNegations (lit l) s → IsKnown s x
made_known s names l x n e m k =
    let o = (neg_is_matrix (lit l) s n m).0 in
    subst (λ (y : Lit). IsKnown s y) (sym e)
    (renamed_primitive s names (neg s l) (prim_is_primitive s (opposite s l) o), primable_renamed s names (neg s l) (primable_within s (neg s l) o k.1))

pub fact_here : (s : Sort) (w : WrittenSystem) (fs : List Fact) (i : ℕ) (d : Fact) → AreFacts s w fs → i < length fs → IsFact s w (get_or fs i d)
fact_here s w [] i d a h = absurd (omega arith)
fact_here s w (f ∷ fs) zero d a h = a.0
fact_here s w (f ∷ fs) (suc i) d a h = fact_here s w fs i d a.1 (omega arith)
