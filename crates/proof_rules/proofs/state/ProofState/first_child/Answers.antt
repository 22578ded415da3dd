use Rattle.std.proofs.Common.{◌∙◌, ap}
use Rattle.std.specs.Prelude.{◌∷◌, List}
use Rattle.dom_core.specs.declared.Matrix.{Matrix as Tree}
use Rattle.proof_rules.proofs.StackLemmas.{OnOk_with, split_first, no_parts, some_parts, first_alone, first_of_many}
use Rattle.proof_rules.proofs.state.ProofState.first_child.Goals as goal

pub returns-then-is_empty : goal.returns-then-is_empty
returns-then-is_empty c = λ s w i e k.
    OnOk_with c.add.result (λ n. first_alone s w c.args.self.now c.add.new.self c.args.path c.args.parts.now _ i e (k.1, k.2, k.3)
    (split_first c.args.parts.now c.first-item.result c.in-len1-up.len_at_least c.first-item.is ∙ ap (λ (qs : List Tree). c.first-item.result ∷ qs) (no_parts _ c.is_empty.result c.is_empty.ensures c.if-is_empty.true)) n) c.add.ensures

pub returns : goal.returns
returns c = λ s w i e k.
    OnOk_with c.add-2.result (λ n. first_of_many s w c.args.self.now c.wait.new.self c.add-2.new.self c.args.path c.args.parts.now _ _ i e (k.1, k.2, k.3)
    (split_first c.args.parts.now c.first-item.result c.in-len1-up.len_at_least c.first-item.is)
    (some_parts _ c.is_empty.result c.is_empty.ensures c.if-is_empty.false) c.in_ok-wait.ensures n) c.add-2.ensures
