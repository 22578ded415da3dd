use Rattle.std.proofs.Common.{List, ◌+◌, ◌<◌, false, subst, refl, get_or, length}
use Rattle.lin_term.specs.declared.Lit.{Lit}
use Rattle.cube_elim.specs.declared.store.Pair.{Pair}
use Rattle.cube_elim.specs.Stored.{no_pair}
use Rattle.cube_elim.specs.Written.{IsNextLine}
use Rattle.cube_elim.proofs.Writing.{line_at, written_start, written_next}
use Rattle.cube_elim.proofs.lines.marked_lines.Goals as goal

pub loop-index-init : goal.loop-index-init
loop-index-init c =
    written_start c.args.given c.args.store.now c.args.marks.now c.new.result c.in_ok-first_facts.field-0 c.requires.store c.new.ensures c.in_ok-first_facts.ensures

pub loop-index-preserved : goal.loop-index-preserved
loop-index-preserved c =
    let s = c.args.store.now in
    let i = c.loop-index.index in
    let old = c.loop-index.lines in
    let new = c.next_line.new.lines in
    let b = get_or c.args.marks.now (c.args.given + i) false in
    let w : IsNextLine b old new (line_at c.as_slice-lits.result.now c.as_slice-pairs.result.now i old) = c.in_ok-next_line.ensures in
    let v = subst (λ (ps : List Pair). IsNextLine b old new (line_at c.as_slice-lits.result.now ps i old)) c.as_slice-pairs.ensures w in
    let u = subst (λ (ls : List Lit). IsNextLine b old new (line_at ls s.pairs i old)) c.as_slice-lits.ensures v in
    let h = subst (λ (ps : List Pair). i < length ps) c.as_slice-pairs.ensures c.loop-index-test.true in
    written_next c.args.given i s c.args.marks.now old new (get_or s.pairs i no_pair) b c.requires.store c.requires.rows h refl c.requires.both refl u c.loop-index.invariant
