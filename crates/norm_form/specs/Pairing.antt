-- The parts of a choice between two numbers.
use Rattle.std.specs.Prelude.{ℕ, List, Option, true, false}
use Rattle.lin_term.specs.declared.Sort.{Sort}
use Rattle.lin_truth.specs.Term.{Term, yes, amount, ite}
use Rattle.lin_truth.specs.Value.{zero_value}
use Rattle.lin_form.specs.declared.Bound.{Bound}
use Rattle.lin_form.specs.Lin.{Lin}
use Rattle.norm_form.specs.Cap.{capped_maker}
use Rattle.norm_form.specs.Norm.{gnorm}
use Rattle.norm_form.specs.declared.connective.Contraries.{Contraries}
use Rattle.norm_form.specs.Normal.{Normal}
use Rattle.norm_form.specs.View.{IsBuilt}

-- of any other term 0
abbrev pub other_part : Term → Term
other_part (ite c a b) = b
other_part t = amount zero_value

-- of any other term true
abbrev pub test_part : Term → Term
test_part (ite c a b) = c
test_part t = yes

-- x where the test of t holds, else y
abbrev pub paired_form : Term → Sort → List Bound → Lin → (ℕ → Lin → Option Normal) → ℕ → Lin → Option Normal
paired_form t s ctx x k f y =
    capped_maker.ite_form (gnorm capped_maker (test_part t) s true ctx f) (gnorm capped_maker (test_part t) s false ctx f) (k f x) (k f y)

-- the test of t and its negation, at a level
abbrev pub IsTested : Term → Sort → List Bound → ℕ → Contraries → Type 0
IsTested t s ctx d c = IsBuilt (gnorm capped_maker (test_part t) s true ctx d) c.yes × IsBuilt (gnorm capped_maker (test_part t) s false ctx d) c.no
