use Rattle.std.proofs.Common.{ℕ, List, ◌++◌, ◌∙◌, ap}
use Rattle.strat_text.specs.Written as spelled
use Rattle.strat_text.proofs.Appending.{five_parts}
use Rattle.strat_text.proofs.writing.put_sum.Goals as goal

pub returns : goal.returns
returns c =
    c.in_ok-put_wide.ensures
    ∙ ap (λ (t : List ℕ). t ++ spelled.signed c.args.g.now) (c.in_ok-put_product-2.ensures ∙ ap (λ (t : List ℕ). t ++ (spelled.signed c.args.q.now ++ spelled.natural c.args.h.now)) c.in_ok-put_product.ensures)
    ∙ five_parts c.args.out.now.items (spelled.signed c.args.p.now) (spelled.natural c.args.f.now) (spelled.signed c.args.q.now) (spelled.natural c.args.h.now) (spelled.signed c.args.g.now)
