use Rattle.std.proofs.Common.{◌≡◌, Ok, length, sym, ap, subst, ◌∙◌}
use Rattle.smt_lex.specs.Place.{place}
use Rattle.term_table.specs.Placed.{Typed}
use Rattle.term_table.specs.Meaning.{meanings, AreBelow}
use Rattle.smt_term.specs.Reading.{Read}
use Rattle.smt_term.specs.declared.seen.Seen.{Seen}
use Rattle.smt_term.specs.Apply.{expanded}
use Rattle.smt_term.specs.View.{all_at, typed_at}
use Rattle.smt_term.proofs.MakingLemmas.{AreBelow-nodes}
use Rattle.smt_term.proofs.ApplyLemmas.{expansion-none, expansion-arity, expansion-sort, expansion-is, expanded-is}
use Rattle.smt_term.proofs.apply.expansion.Goals as goal

pub returns-then-is_empty : goal.returns-then-is_empty
returns-then-is_empty c =
    let ms = meanings c.args.table.now in
    rw c.bad.ensures (expansion-none ms c.args.args.now c.args.params.now (typed_at ms c.args.body) (place c.args.line c.args.column) (sym c.if-is_empty.ensures))

pub returns-then-args-params : goal.returns-then-args-params
returns-then-args-params c =
    let ms = meanings c.args.table.now in
    rw c.bad-then-args-params.ensures (expansion-arity ms c.args.args.now c.args.params.now (typed_at ms c.args.body) (place c.args.line c.args.column) c.if-args-params.true)

pub returns-then-not-have_sorts : goal.returns-then-not-have_sorts
returns-then-not-have_sorts c =
    let ms = meanings c.args.table.now in
    rw c.bad-then-not-have_sorts.ensures (expansion-sort ms c.args.args.now c.args.params.now (typed_at ms c.args.body) (place c.args.line c.args.column) (sym c.if-is_empty.ensures) c.if-args-params.false
    (sym c.if-not-have_sorts.ensures))

pub added-requires : goal.added-requires
added-requires c =
    (c.requires.body, subst (AreBelow (length c.args.table.now)) (sym c.in_ok-parts.ensures) (AreBelow-nodes (length c.args.table.now) c.args.args.now c.requires.args))

term_read : Typed → Read Typed
term_read t = Ok t

pub returns : goal.returns
unfolding term_read
returns c =
    let ms = meanings c.args.table.now in
    let news = meanings c.added.new.table in
    let p = place c.args.line c.args.column in
    let ts = all_at ms c.args.args.now in
    let seen : Seen = record { sort = c.args.body.sort; node = c.in-Ok.node } in
    let is : expanded (typed_at ms c.args.body) ts ≡ typed_at news seen =
    expanded-is ms news c.args.args.now c.args.body c.in_ok-parts.parts c.in-Ok.node c.in_ok-parts.ensures c.in-Ok.ensures.0 in (
      expansion-is ms c.args.args.now c.args.params.now (typed_at ms c.args.body) p (sym c.if-is_empty.ensures) c.if-args-params.false (sym c.if-not-have_sorts.ensures) ∙ ap term_read is,
      c.in-Ok.ensures.1,
      c.in-Ok.ensures.2,
    )
