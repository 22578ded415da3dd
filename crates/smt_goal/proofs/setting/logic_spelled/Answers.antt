use Rattle.std.proofs.Common.{◌≡◌, List, ℕ, Some, None, position, sym, ap, ◌∙◌}
use Rattle.std.specs.Str.{bytes_eq}
use Rattle.ss_names.specs.Vocabulary.{logic_words}
use Rattle.smt_goal.specs.Command.{logic_at}
use Rattle.smt_goal.proofs.setting.logic_spelled.Goals as goal

pub returns-in-None : goal.returns-in-None
returns-in-None c =
    let at : position (λ (known : List ℕ). bytes_eq known c.args.name.now) logic_words ≡ None =
    ap (λ (ws : List (List ℕ)). position (λ (known : List ℕ). bytes_eq known c.args.name.now) ws) (sym c.logics.ensures.words) ∙ sym c.in-None.ensures.value in
    sym (ap logic_at at)

pub returns : goal.returns
returns c =
    let at : position (λ (known : List ℕ). bytes_eq known c.args.name.now) logic_words ≡ Some c.in-Some.row =
    ap (λ (ws : List (List ℕ)). position (λ (known : List ℕ). bytes_eq known c.args.name.now) ws) (sym c.logics.ensures.words) ∙ sym c.in-Some.ensures.value in
    c.logic_at.ensures ∙ sym (ap logic_at at)
