use Rattle.std.proofs.Common.{◌≡◌, List, ℕ, ◌∙◌, sym, ap, subst}
use Rattle.term_table.specs.Meaning.{meanings}
use Rattle.smt_term.specs.Reading.{Read}
use Rattle.smt_term.specs.Word.{new_name}
use Rattle.smt_term.specs.View.{part_seen}
use Rattle.smt_term.specs.Newest.{IsName}
use Rattle.smt_goal.specs.Command.{sort_or_rat}
use Rattle.smt_goal.specs.Session.{state_seen}
use Rattle.smt_goal.proofs.Growing.{new_name-seen}
use Rattle.smt_goal.proofs.session.Session.new_name.Goals as goal

pub returns : goal.returns
returns c =
    let s = c.args.self.now in
    let r = s.reader in
    let x = part_seen c.args.part in
    let same : new_name (sort_or_rat s.logic) (state_seen s).names x ≡ new_name r.logic r.names x =
    new_name-seen (sort_or_rat s.logic) (meanings r.table) r.signatures.items r.names x ∙ ap (λ l. new_name l r.names x) (sym c.requires.logic) in
    subst (λ (read : Read (List ℕ)). IsName read c.new_name.result) (sym same) c.new_name.ensures
