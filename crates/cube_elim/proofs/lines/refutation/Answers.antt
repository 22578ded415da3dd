use Rattle.std.proofs.Common.{List, ℕ, Bool, arith, ap, subst, get_or, length}
use Rattle.cube_elim.specs.Written.{IsWritten}
use Rattle.cube_elim.proofs.Writing.{refuted}
use Rattle.cube_elim.proofs.lines.refutation.Goals as goal

pub returns : goal.returns
returns c = λ n.
    let s = c.args.store.now in
    let g = c.args.given in
    let lines = c.in_ok-lines.lines in
    let k = subst (λ (ms : List Bool). IsWritten g s.lits ms (length s.pairs) lines) c.as_slice-2.ensures c.in_ok-lines.ensures in
    refuted g c.args.id s c.in_ok-marks.marks lines c.push.new.self (length s.pairs) (get_or c.as_slice-3.result.now c.args.id 0) c.requires.store c.requires.within c.requires.fails (omega arith) c.in_ok-marks.ensures.this (ap (λ (fs : List ℕ). get_or fs c.args.id 0) c.as_slice-3.ensures) c.in_ok-push.ensures.ok k n
