use Rattle.std.proofs.Common.{◌≡◌, ◌<◌, length, take, drop, ◌-◌, [], sym, ap, ◌∙◌, arith, false-eqb, rules}
use Rattle.std.proofs.lemmas.List.{nil_from_length}
use Rattle.smt_lex.specs.Place.{place}
use Rattle.smt_lex.specs.Tokens.{left_at, tokens_at}
use Rattle.smt_lex.proofs.TokensLemmas.{at_blank, at_comment, at_word, at_enclosed, at_bad, at_end}
use Rattle.smt_lex.proofs.tokens.first.Goals as goal

pub loop-rest-preserved-in-Blank : goal.loop-rest-preserved-in-Blank
unfolding tokens_at
loop-rest-preserved-in-Blank c =
    c.behind-rest.ensures.tokens 0 ∙ sym (at_blank (place c.loop-rest.rest.line c.loop-rest.rest.column) c.loop-rest.rest.bytes.now c.in-Blank.ensures.value) ∙ c.loop-rest.invariant

pub loop-rest-preserved : goal.loop-rest-preserved
loop-rest-preserved c =
    c.along-rest.ensures.tokens ∙ sym (at_comment (place c.loop-rest.rest.line c.loop-rest.rest.column) c.loop-rest.rest.bytes.now c.in-Comment.len c.in-Comment.ensures.within.0 c.in-Comment.ensures.value) ∙ c.loop-rest.invariant

pub returns-in-Word : goal.returns-in-Word
returns-in-Word c =
    rw c.along.ensures.tokens (sym c.loop-rest.invariant ∙ at_word (place c.loop-rest.rest.line c.loop-rest.rest.column) c.loop-rest.rest.bytes.now c.in-Word.kind c.in-Word.len c.in-Word.ensures.within.0 c.in-Word.ensures.within.1 c.in-Word.ensures.value)

pub returns-in-Enclosed : goal.returns-in-Enclosed
returns-in-Enclosed c =
    let text : take (c.in-Enclosed.len - 1 - 1) (drop 1 c.loop-rest.rest.bytes.now) ≡ take (c.in-Enclosed.len - 2) (drop 1 c.loop-rest.rest.bytes.now) = let e : c.in-Enclosed.len - 1 - 1 ≡ c.in-Enclosed.len - 2 = omega arith in ap (λ n. take n (drop 1 c.loop-rest.rest.bytes.now)) e in
    rw (c.past.ensures.tokens, text) (sym c.loop-rest.invariant ∙ at_enclosed (place c.loop-rest.rest.line c.loop-rest.rest.column) c.loop-rest.rest.bytes.now c.in-Enclosed.kind c.in-Enclosed.len c.in-Enclosed.ensures.within.0 c.in-Enclosed.ensures.within.1 c.in-Enclosed.ensures.value)

pub returns-in-Bad : goal.returns-in-Bad
returns-in-Bad c =
    let some : 0 < length c.loop-rest.rest.bytes.now = omega (arith, false-eqb _ 0 c.loop-rest-test.ensures) in
    rw (at_end (place 1 1)) (sym c.loop-rest.invariant ∙ at_bad (place c.loop-rest.rest.line c.loop-rest.rest.column) c.loop-rest.rest.bytes.now some c.in-Bad.ensures.value)

pub returns : goal.returns
returns c =
    let none : c.loop-rest.rest.bytes.now ≡ [] = nil_from_length _ (search rules) in
    let ends : left_at c.loop-rest.rest.line c.loop-rest.rest.column c.loop-rest.rest.bytes.now ≡ [] = rw none (at_end _) in
    (sym c.loop-rest.invariant ∙ ends, ends)
