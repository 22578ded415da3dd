use Rattle.std.specs.Prelude.{ℕ, ℤ, ltb}
use Rattle.std.proofs.Common.{arith, rules, ltb-true, ltb-false}
use Rattle.std.proofs.lemmas.List.Sorted.{IsPartitionPoint-from_clause, IsPartitionedBy-ltb}
use Rattle.lin_term.proofs.Replacing.{terms_rise}
use Rattle.lin_term.proofs.coefficient.place_of.Goals as goal

pub returns-clause-before : goal.returns-clause-before
returns-clause-before c =
    let parted = IsPartitionedBy-ltb (λ (t : ℕ × ℤ). t.0) _ c.args.var (terms_rise 0 c.args.coefs.now c.requires) in
    let point = IsPartitionPoint-from_clause (λ (t : ℕ × ℤ). ltb t.0 c.args.var) _ _ c.partition_point.ensures.partitioned parted (λ a r q k. search rules) in
    λ k d h. ltb-true _ _ (point.0 k d (omega arith) h)

pub returns-clause-from : goal.returns-clause-from
returns-clause-from c =
    let parted = IsPartitionedBy-ltb (λ (t : ℕ × ℤ). t.0) _ c.args.var (terms_rise 0 c.args.coefs.now c.requires) in
    let point = IsPartitionPoint-from_clause (λ (t : ℕ × ℤ). ltb t.0 c.args.var) _ _ c.partition_point.ensures.partitioned parted (λ a r q k. search rules) in
    λ k d h l. ltb-false _ _ (point.1 k d h l)
