use Rattle.std.proofs.Common.{◌≡◌, List, ℕ, Some, None, position, sym, ap, ◌∙◌}
use Rattle.std.specs.Str.{bytes_eq}
use Rattle.ss_names.specs.Vocabulary.{command_words}
use Rattle.smt_goal.specs.Command.{command_at}
use Rattle.smt_goal.proofs.command.command_spelled.Goals as goal

pub returns-in-None : goal.returns-in-None
returns-in-None c =
    let at : position (λ (known : List ℕ). bytes_eq known c.args.name.now) command_words ≡ None =
    ap (λ (ws : List (List ℕ)). position (λ (known : List ℕ). bytes_eq known c.args.name.now) ws) (sym c.commands.ensures.words) ∙ sym c.in-None.ensures.value in
    sym (ap command_at at)

pub returns : goal.returns
returns c =
    let at : position (λ (known : List ℕ). bytes_eq known c.args.name.now) command_words ≡ Some c.in-Some.row =
    ap (λ (ws : List (List ℕ)). position (λ (known : List ℕ). bytes_eq known c.args.name.now) ws) (sym c.commands.ensures.words) ∙ sym c.in-Some.ensures.value in
    c.command_at.ensures ∙ sym (ap command_at at)
