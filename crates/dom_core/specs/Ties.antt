-- Literals that tie in order are the same.
use Rattle.std.specs.Prelude.{◌≡◌, true, Some}
use Rattle.std.specs.declared.cmp.Ordering.{Ordering}
use Rattle.std.specs.declared.cmp.Ordering.TheVariants.{Less, Equal, Greater}
use Rattle.std.specs.Ordering.{is_eq, eq_by_cmp}
use Rattle.std.specs.Bool.{Decides, one_answer}
use Rattle.std.specs.Cmp.{IsTotalOrder, IsEquivalence, IsPartialOrder, decided, po, tied_itself}
use Rattle.std.proofs.Common.{ap, ◌∙◌, sym, refl}
use Rattle.std.proofs.lemmas.Bool.{false≢true}
use Rattle.lin_term.specs.declared.Lit.{Lit}
use Rattle.lin_term.specs.Order.{literal_cmp}
use Rattle.lin_term.specs.Same.{same_literal}
use Rattle.lin_term.proofs.Comparing.{literal_decides}
use Rattle.lin_term.proofs.Orders.{literal_order}

pub literal_total : IsTotalOrder literal_cmp
literal_total = literal_order.total

pub literal_equiv : IsEquivalence same_literal
literal_equiv = decided same_literal literal_decides

is_equal : (r : Ordering) → is_eq r ≡ true → r ≡ Equal
is_equal Less e = absurd (false≢true e)
is_equal Equal e = refl
is_equal Greater e = absurd (false≢true e)

tie_decides : (l m : Lit) → Decides (is_eq (literal_cmp l m)) (l ≡ m)
tie_decides l m = ((λ e. literal_order.ties l m (is_equal (literal_cmp l m) e)), (λ e. ap is_eq (ap (literal_cmp l) (sym e) ∙ tied_itself literal_total l)))

pub same_ties : (l m : Lit) → same_literal l m ≡ eq_by_cmp literal_cmp l m
same_ties l m = one_answer (same_literal l m) (is_eq (literal_cmp l m)) (literal_decides l m) (tie_decides l m)

pub literal_po : IsPartialOrder same_literal (λ l m. Some (literal_cmp l m))
literal_po = po literal_total same_ties
