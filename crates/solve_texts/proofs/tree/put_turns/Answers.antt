use Rattle.std.proofs.Common.{ℕ, List, ◌++◌, ap, ◌∙◌, sym}
use Rattle.solve_texts.proofs.Lettering.{some_turns}
use Rattle.solve_texts.proofs.tree.put_turns.Goals as goal

pub returns-in_ok-put_letters-in-len1-up : goal.returns-in_ok-put_letters-in-len1-up
returns-in_ok-put_letters-in-len1-up c =
    c.in_ok-put_letters-in-len1-up.ensures ∙ ap (λ (y : List ℕ). c.args.out.now.items ++ y) (sym (some_turns c.args.side c.args.prefix.now c.in-len1-up.len_at_least))
