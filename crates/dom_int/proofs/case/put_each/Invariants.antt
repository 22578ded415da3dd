use Rattle.std.proofs.Common.{◌≡◌, ◌++◌, drop, nat_abs}
use Rattle.lin_term.specs.Wide.{first_past}
use Rattle.lin_term.specs.declared.Sort.TheVariants.{Int}
use Rattle.dom_core.specs.Elimination.{put_all, cube_numbers}
use Rattle.dom_int.proofs.case.put_each.Given as goal

abbrev pub invariant-loop-lit : goal.invariant-loop-lit
invariant-loop-lit l = record {
  same : l.out ++ put_all Int l.var (nat_abs l.div) (record { terms = l.terms; constant = l.constant }) (drop l.lit-index l.lits) ≡ l.fn.out ++ put_all Int l.var (nat_abs l.div) (record { terms = l.terms; constant = l.constant }) l.lits;
  past : first_past (cube_numbers (put_all Int l.var (nat_abs l.div) (record { terms = l.terms; constant = l.constant }) (drop l.lit-index l.lits))) ≡ first_past (cube_numbers (put_all Int l.var (nat_abs l.div) (record { terms = l.terms; constant = l.constant }) l.lits));
}
