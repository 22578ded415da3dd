-- The orders of rows, literals and moves are total, and only equal things tie.
use Rattle.std.specs.Prelude.{ℕ, ◌≡◌, ℤ}
use Rattle.std.specs.declared.cmp.Ordering.{Ordering}
use Rattle.std.specs.declared.cmp.Ordering.TheVariants.{Less, Equal, Greater}
use Rattle.std.specs.Ordering.{ordering_then, nat_cmp, int_cmp, is_eq}
use Rattle.std.specs.Cmp.{IsTotalOrder, on_total, then_total, nat_cmp_total, int_cmp_total}
use Rattle.std.specs.Cmp.Lexicographic.{slice_cmp, lists_total}
use Rattle.std.specs.FinMap.{nat_cmp-IsAntisymmetric, int_cmp-IsAntisymmetric, slice_cmp-IsAntisymmetric}
use Rattle.std.proofs.Common.{arith, ap, ap₂, refl}
use Rattle.std.proofs.lemmas.Bool.{false≢true}
use Rattle.lin_term.specs.Form.{Form}
use Rattle.lin_term.specs.Literal.{form_of}
use Rattle.lin_term.specs.Move.{Move}
use Rattle.lin_term.specs.declared.lit.Lit.{Lit}
use Rattle.lin_term.specs.declared.lit.Lit.TheVariants.{AtLeast, Above, Divides, NotDivides}
use Rattle.lin_term.specs.Order.{IsStrictOrder, term_cmp, form_cmp, literal_cmp, move_cmp, kind_number, modulus_or_none}

-- two orders that tie, one behind the other
both : (r s : Ordering) → ordering_then r s ≡ Equal → (r ≡ Equal) × (s ≡ Equal)
both Less s e = absurd (false≢true (ap is_eq e))
both Equal s e = (refl, e)
both Greater s e = absurd (false≢true (ap is_eq e))

term_ties : (t u : ℕ × ℤ) → term_cmp t u ≡ Equal → t ≡ u
term_ties t u e =
    let b = both (nat_cmp t.0 u.0) (int_cmp t.1 u.1) e in
    ap₂ (λ (v : ℕ) (z : ℤ). pair v z) (nat_cmp-IsAntisymmetric t.0 u.0 b.0) (int_cmp-IsAntisymmetric t.1 u.1 b.1)
  where
    pair : ℕ → ℤ → ℕ × ℤ
    pair v z = (v, z)

form_ties : (f g : Form) → form_cmp f g ≡ Equal → f ≡ g
form_ties f g e =
    let b = both (slice_cmp term_cmp f.terms g.terms) (int_cmp f.constant g.constant) e in
    let p = slice_cmp-IsAntisymmetric term_ties f.terms g.terms b.0 in
    let q = int_cmp-IsAntisymmetric f.constant g.constant b.1 in
    λ k. record { terms = p k; constant = q k }

term_total : IsTotalOrder term_cmp
term_total = then_total (on_total (λ (t : ℕ × ℤ). t.0) nat_cmp_total) (on_total (λ (t : ℕ × ℤ). t.1) int_cmp_total)

form_total : IsTotalOrder form_cmp
form_total = then_total (on_total (λ (f : Form). f.terms) (lists_total term_total)) (on_total (λ (f : Form). f.constant) int_cmp_total)

pub form_order : IsStrictOrder form_cmp
form_order = record { total = form_total; ties = form_ties }

-- literals of one kind, modulus and form
same_parts : (l m : Lit) → kind_number l ≡ kind_number m → modulus_or_none l ≡ modulus_or_none m → form_of l ≡ form_of m → l ≡ m
same_parts (AtLeast f) (AtLeast g) k d e = ap (λ (x : Form). AtLeast x) e
same_parts (AtLeast f) (Above g) k d e = absurd (omega arith)
same_parts (AtLeast f) (Divides b g) k d e = absurd (omega arith)
same_parts (AtLeast f) (NotDivides b g) k d e = absurd (omega arith)
same_parts (Above f) (AtLeast g) k d e = absurd (omega arith)
same_parts (Above f) (Above g) k d e = ap (λ (x : Form). Above x) e
same_parts (Above f) (Divides b g) k d e = absurd (omega arith)
same_parts (Above f) (NotDivides b g) k d e = absurd (omega arith)
same_parts (Divides a f) (AtLeast g) k d e = absurd (omega arith)
same_parts (Divides a f) (Above g) k d e = absurd (omega arith)
same_parts (Divides a f) (Divides b g) k d e = ap₂ (λ (n : ℕ) (x : Form). Divides n x) d e
same_parts (Divides a f) (NotDivides b g) k d e = absurd (omega arith)
same_parts (NotDivides a f) (AtLeast g) k d e = absurd (omega arith)
same_parts (NotDivides a f) (Above g) k d e = absurd (omega arith)
same_parts (NotDivides a f) (Divides b g) k d e = absurd (omega arith)
same_parts (NotDivides a f) (NotDivides b g) k d e = ap₂ (λ (n : ℕ) (x : Form). NotDivides n x) d e

literal_ties : (l m : Lit) → literal_cmp l m ≡ Equal → l ≡ m
literal_ties l m e =
    let b = both (nat_cmp (kind_number l) (kind_number m)) (ordering_then (nat_cmp (modulus_or_none l) (modulus_or_none m)) (form_cmp (form_of l) (form_of m))) e in
    let c = both (nat_cmp (modulus_or_none l) (modulus_or_none m)) (form_cmp (form_of l) (form_of m)) b.1 in
    same_parts l m (nat_cmp-IsAntisymmetric (kind_number l) (kind_number m) b.0) (nat_cmp-IsAntisymmetric (modulus_or_none l) (modulus_or_none m) c.0) (form_ties (form_of l) (form_of m) c.1)

literal_total : IsTotalOrder literal_cmp
literal_total = then_total (on_total kind_number nat_cmp_total) (then_total (on_total modulus_or_none nat_cmp_total) (on_total form_of form_total))

pub literal_order : IsStrictOrder literal_cmp
literal_order = record { total = literal_total; ties = literal_ties }

move_ties : (m n : Move) → move_cmp m n ≡ Equal → m ≡ n
move_ties m n e =
    let b = both (form_cmp m.numer n.numer) (nat_cmp m.div n.div) e in
    let p = form_ties m.numer n.numer b.0 in
    let q = nat_cmp-IsAntisymmetric m.div n.div b.1 in
    λ k. record { numer = p k; div = q k }

move_total : IsTotalOrder move_cmp
move_total = then_total (on_total (λ (m : Move). m.numer) form_total) (on_total (λ (m : Move). m.div) nat_cmp_total)

pub move_order : IsStrictOrder move_cmp
move_order = record { total = move_total; ties = move_ties }
