use Rattle.std.proofs.Common.{◌≡◌, ◌<◌, [], ◌∙◌, Err, List, subst, length, refl, ap}
use Rattle.smt_lex.specs.Tokens.{tokens, tokens_at}
use Rattle.smt_lex.specs.Lexeme.{Found}
use Rattle.smt_tree.specs.Expressions.{expressions}
use Rattle.smt_tree.specs.Seen.{Gives}
use Rattle.smt_tree.proofs.Stack.{none_left, some_behind_err, err_is_some}
use Rattle.smt_tree.proofs.expressions.ExpressionsIterator.next.Goals as goal

pub returns-in-None-clause-steps : goal.returns-in-None-clause-steps
returns-in-None-clause-steps c =
    let v : c.self.inside.tokens ≡ c.args.self.now = c.self.view_is in
    let e = c.in-None.ensures in
    (rw (← v, e.0) none_left, rw e.1 none_left)

no_tokens : tokens [] ≡ []
unfolding tokens_at
no_tokens = refl

pub returns-in-Some-Err-clause-steps : goal.returns-in-Some-Err-clause-steps
returns-in-Some-Err-clause-steps c =
    let e = rw c.in-Some-Err.field-0-is at c.in-Some-Err.ensures in
    let v : c.self.inside.tokens ≡ c.args.self.now = c.self.view_is in
    (subst (λ (ts : List Found). Gives (expressions ts) (Err c.in-Some-Err.fault) c.tokens_of-self-inside.result) v (some_behind_err _ c.in-Some-Err.fault c.first.new.tokens _ e), c.tokens_of-self-inside.ensures.tokens ∙ no_tokens)

pub returns-in-Some-Err-clause-goes : goal.returns-in-Some-Err-clause-goes
returns-in-Some-Err-clause-goes c =
    let e = rw c.in-Some-Err.field-0-is at c.in-Some-Err.ensures in
    let v : c.self.inside.tokens ≡ c.args.self.now = c.self.view_is in
    let some : 0 < length (expressions c.args.self.now) = rw (← v) (err_is_some _ c.in-Some-Err.fault c.first.new.tokens e) in
    let none : expressions c.tokens_of-self-inside.result ≡ [] = ap expressions (c.tokens_of-self-inside.ensures.tokens ∙ no_tokens) ∙ none_left in
    record { on = λ _. (tt, tt, rw none some); keeps = tt; rests = λ _. tt }
