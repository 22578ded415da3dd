use Rattle.std.proofs.Common.{◌≡◌, List, ℕ, Some, None, position, sym, ap, ◌∙◌}
use Rattle.std.specs.Str.{bytes_eq}
use Rattle.ss_names.specs.Vocabulary.{operator_words}
use Rattle.smt_term.specs.Operator.{operator_named, of_logic_at, line_at}
use Rattle.smt_term.proofs.operator.operator_named.Goals as goal

pub returns-in-None : goal.returns-in-None
unfolding operator_named
returns-in-None c =
    let at : position (λ (known : List ℕ). bytes_eq known c.args.name.now) operator_words ≡ None =
    ap (λ (ws : List (List ℕ)). position (λ (known : List ℕ). bytes_eq known c.args.name.now) ws) (sym c.operators.ensures.words) ∙ sym c.in-None.ensures.value in
    sym (ap (λ r. of_logic_at c.args.logic (line_at r)) at)

pub returns-in-None-line_of : goal.returns-in-None-line_of
unfolding operator_named
returns-in-None-line_of c =
    let at : position (λ (known : List ℕ). bytes_eq known c.args.name.now) operator_words ≡ Some c.in-Some.row =
    ap (λ (ws : List (List ℕ)). position (λ (known : List ℕ). bytes_eq known c.args.name.now) ws) (sym c.operators.ensures.words) ∙ sym c.in-Some.ensures.value in
    sym (ap (λ r. of_logic_at c.args.logic (line_at r)) at ∙ ap (of_logic_at c.args.logic) (sym c.line_of.ensures ∙ c.in-None-line_of.is))

pub returns-in-Some-line_of : goal.returns-in-Some-line_of
unfolding operator_named
returns-in-Some-line_of c =
    let at : position (λ (known : List ℕ). bytes_eq known c.args.name.now) operator_words ≡ Some c.in-Some.row =
    ap (λ (ws : List (List ℕ)). position (λ (known : List ℕ). bytes_eq known c.args.name.now) ws) (sym c.operators.ensures.words) ∙ sym c.in-Some.ensures.value in
    c.of_logic.ensures ∙ sym (ap (λ r. of_logic_at c.args.logic (line_at r)) at ∙ ap (of_logic_at c.args.logic) (sym c.line_of.ensures ∙ c.in-Some-line_of.is))
