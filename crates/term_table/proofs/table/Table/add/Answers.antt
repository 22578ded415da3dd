use Rattle.std.proofs.Common.{◌≡◌, ℕ, length, List, ap, sym, subst, arith, ◌∙◌, ◌++◌, ◌∷◌, []}
use Rattle.term_table.specs.declared.entry.Entry.{Entry}
use Rattle.term_table.specs.declared.node.Node.{Node}
use Rattle.term_table.specs.Meaning.{Meaning, HasParts, meaning, meanings, IsAt}
use Rattle.term_table.specs.Form.{IsValue}
use Rattle.term_table.specs.Entries.{nodes_of, row_in, IsKnown}
use Rattle.term_table.proofs.Growth.{added}
use Rattle.term_table.proofs.EntryForms.{one_more_entry, nodes-push, length-nodes}
use Rattle.term_table.proofs.table.Table.add.Goals as goal

pub entry_of-requires-clause-parts : goal.entry_of-requires-clause-parts
entry_of-requires-clause-parts c =
    let same = c.as_slice-2.ensures.value ∙ sym c.as_slice-3.ensures.value in
    subst (λ (xs : List Entry). HasParts (length xs) c.in_ok-simple.simple) same c.in_ok-simple.ensures.parts

pub invariant_of-self-2 : goal.invariant_of-self-2
invariant_of-self-2 c =
    let es = c.self.inside.entries.items in
    let e = c.in_ok-entry.entry in
    let x = c.in_ok-simple.simple in
    let is = c.in_ok-entry.ensures in
    let same = c.as_slice-3.ensures.value in
    let has : HasParts (length es) x = subst (λ (xs : List Entry). HasParts (length xs) x) c.as_slice-2.ensures.value c.in_ok-simple.ensures.parts in
    one_more_entry es c.push.new.self.items e c.in_ok-push.ensures.items c.self.invariant
    (subst (λ (y : Node). HasParts (length (nodes_of es)) y) (sym is.0) (subst (λ (n : ℕ). HasParts n x) (sym (length-nodes es)) has))
    (subst (λ (y : Node). IsValue (λ s gs. row_in s es gs y) e.form) (sym is.0) (subst (λ (xs : List Entry). IsValue (λ s gs. row_in s xs gs x) e.form) same is.1))
    (subst (λ (y : Node). IsKnown (meaning (meanings (nodes_of es)) y) e.known) (sym is.0) (subst (λ (xs : List Entry). IsKnown (meaning (meanings (nodes_of xs)) x) e.known) same is.2))

pub returns-clause-gives : goal.returns-clause-gives
returns-clause-gives c =
    let es = c.self.inside.entries.items in
    let e = c.in_ok-entry.entry in
    let x = c.in_ok-simple.simple in
    let new = nodes_of c.push.new.self.items in
    let i = c.len-at.result in
    let is : IsAt new i (meaning (meanings c.args.self.now) x) =
    added c.args.self.now new x i (omega (arith, c.len-at.ensures, c.self.inside.entries.ok.0, ap length c.self.view_is, length-nodes es))
    (ap nodes_of c.in_ok-push.ensures.items ∙ nodes-push es e ∙ (λ k. c.self.view_is k ++ c.in_ok-entry.ensures.0 k ∷ [])) in
    let same : meaning (meanings c.args.self.now) x ≡ meaning (meanings c.args.self.now) c.args.node =
    subst (λ (ns : List Node). meaning (meanings ns) x ≡ meaning (meanings ns) c.args.node) (ap nodes_of c.as_slice-2.ensures.value ∙ c.self.view_is) c.in_ok-simple.ensures.same in
    subst (λ (m : Meaning). IsAt new i m) same is

pub returns-clause-extends : goal.returns-clause-extends
returns-clause-extends c =
    let es = c.self.inside.entries.items in
    let e = c.in_ok-entry.entry in
    (c.in_ok-simple.simple ∷ [], ap nodes_of c.in_ok-push.ensures.items ∙ nodes-push es e ∙ (λ k. c.self.view_is k ++ c.in_ok-entry.ensures.0 k ∷ []))

-- an argument that is passed on
pub returns-in-Some-clause-gives : goal.returns-in-Some-clause-gives
returns-in-Some-clause-gives c =
    subst (λ (ns : List Node). IsAt ns c.in-Some.passed (meaning (meanings ns) c.args.node)) (ap nodes_of c.as_slice.ensures.value ∙ c.self.view_is) c.in-Some.ensures
