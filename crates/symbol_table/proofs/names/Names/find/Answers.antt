use Rattle.std.proofs.Common.{◌≡◌, ◌+◌, ◌-◌, ℕ, List, reverse, get_or, Some, sym, ap, ◌∙◌, arith}
use Rattle.std.proofs.lemmas.List.{length-reverse, reverse-reverse}
use Rattle.symbol_table.specs.declared.names.Known.{Known}
use Rattle.symbol_table.specs.declared.names.Row.{Row}
use Rattle.symbol_table.specs.Names.{looked_up, newest_row, or_zero}
use Rattle.symbol_table.proofs.NamesLemmas.{newest_row-le, found_none, found_some}
use Rattle.symbol_table.proofs.names.Names.find.Goals as goal

pub returns-in-None : goal.returns-in-None
returns-in-None c =
    let rs = reverse c.self.inside.rows.items in
    let row : newest_row rs c.args.name.now ≡ 0 = sym (c.self.invariant.finds c.args.name) ∙ ap or_zero (sym c.in-None.ensures.value) in
    sym (ap (λ (ns : List (List ℕ × Known)). looked_up ns c.args.name.now) (sym c.self.view_is) ∙ found_none rs c.args.name.now row)

pub returns-then-row-eq0 : goal.returns-then-row-eq0
returns-then-row-eq0 c =
    let rs = reverse c.self.inside.rows.items in
    let row : newest_row rs c.args.name.now ≡ 0 = sym (c.self.invariant.finds c.args.name) ∙ ap or_zero (sym c.in-Some.ensures.value) ∙ c.if-row-eq0.true in
    sym (ap (λ (ns : List (List ℕ × Known)). looked_up ns c.args.name.now) (sym c.self.view_is) ∙ found_none rs c.args.name.now row)

pub index-requires : goal.index-requires
index-requires c =
    let rs = reverse c.self.inside.rows.items in
    let row : newest_row rs c.args.name.now ≡ c.in-Some.row.now = sym (c.self.invariant.finds c.args.name) ∙ ap or_zero (sym c.in-Some.ensures.value) in
    omega (arith, row, newest_row-le rs c.args.name.now, length-reverse c.self.inside.rows.items, c.self.inside.rows.ok.0)

pub returns : goal.returns
returns c =
    let rs = reverse c.self.inside.rows.items in
    let row : newest_row rs c.args.name.now ≡ c.in-Some.row.now = sym (c.self.invariant.finds c.args.name) ∙ ap or_zero (sym c.in-Some.ensures.value) in
    let i = c.in-Some.row.now - 1 in
    let d = c.index.result.now in
    let at : newest_row rs c.args.name.now ≡ i + 1 = omega (arith, row) in
    let items : get_or (reverse rs) i d ≡ d = ap (λ (xs : List Row). get_or xs i d) (reverse-reverse c.self.inside.rows.items) ∙ sym c.index.ensures in
    sym (ap (λ (ns : List (List ℕ × Known)). looked_up ns c.args.name.now) (sym c.self.view_is) ∙ found_some rs c.args.name.now i d at ∙ ap (λ (r : Row). Some r.known) items)
