use Rattle.std.proofs.Common.{ap₂, sym, subst}
use Rattle.lin_term.specs.declared.Lit.{Lit}
use Rattle.lin_term.specs.Wide.{Capped, lit_numbers}
use Rattle.dom_core.specs.Elimination.{resolvent}
use Rattle.cube_elim.specs.Stored.{lit_of}
use Rattle.cube_elim.proofs.Storing.{read_of, store_more}
use Rattle.cube_elim.proofs.store.add_sum.Goals as goal

pub returns-in-Err-clause-adds : goal.returns-in-Err-clause-adds
returns-in-Err-clause-adds c =
    let s = c.args.store.now in
    let a = read_of s.lits c.as_slice-lits.result.now c.args.lower c.index-lits-lower.result c.as_slice-lits.ensures c.requires.lower c.index-lits-lower.is in
    let b = read_of s.lits c.as_slice-lits.result.now c.args.upper c.index-lits-upper.result c.as_slice-lits.ensures c.requires.upper c.index-lits-upper.is in
    let r = ap₂ (resolvent c.args.var) (sym a) (sym b) in
    let k = subst (λ (l : Lit). Capped (lit_numbers l) l c.resolvent-made.result) r c.resolvent-made.ensures in
    c.in-Err.ensures.adds (resolvent c.args.var (lit_of s.lits c.args.lower) (lit_of s.lits c.args.upper)) k

pub returns-in-Ok-push-clause-kept : goal.returns-in-Ok-push-clause-kept
returns-in-Ok-push-clause-kept c = λ g st.
    let s = c.args.store.now in
    let a = read_of s.lits c.as_slice-lits.result.now c.args.lower c.index-lits-lower.result c.as_slice-lits.ensures c.requires.lower c.index-lits-lower.is in
    let b = read_of s.lits c.as_slice-lits.result.now c.args.upper c.index-lits-upper.result c.as_slice-lits.ensures c.requires.upper c.index-lits-upper.is in
    let r = ap₂ (resolvent c.args.var) (sym a) (sym b) in
    let k = subst (λ (l : Lit). Capped (lit_numbers l) l c.resolvent-made.result) r c.resolvent-made.ensures in
    let e = c.in-Ok.ensures.adds (resolvent c.args.var (lit_of s.lits c.args.lower) (lit_of s.lits c.args.upper)) k in
    store_more g s c.add_made.new.out c.push.new.self (record { lower = c.args.lower; upper = c.args.upper; var = c.args.var }) c.requires.lower c.requires.upper c.requires.below c.requires.above e.1 c.in-Ok-push.ensures.ok st
