use Rattle.std.specs.Prelude.{List, ℕ, Err, Ok}
use Rattle.std.specs.List.{AllByRecursion, range_with_len}
use Rattle.std.proofs.Common.{◌≡◌, ◌∙◌, ◌-◌, ◌++◌, true, ap, ap₂, sym, subst}
use Rattle.lin_term.specs.declared.Lit.{Lit}
use Rattle.dom_core.specs.Adding.{AddsCube}
use Rattle.dom_core.specs.Elimination.{is_lower, is_upper}
use Rattle.cube_elim.specs.Stored.{lits_of}
use Rattle.cube_elim.specs.Parted.{IsParted}
use Rattle.cube_elim.specs.Summed.{rows_of}
use Rattle.cube_elim.specs.declared.parts.Parts.{Parts}
use Rattle.cube_elim.proofs.Adding.{parted_lower, parted_upper, taken_out, sums_refused}
use Rattle.cube_elim.proofs.sums.take_out.Goals as goal

pub add_rows-requires-clause-lower : goal.add_rows-requires-clause-lower
add_rows-requires-clause-lower c =
    let s = c.args.store.now.lits in
    let p = subst (λ (ls : List Lit). IsParted c.args.var ls c.args.ids.now c.in-Ok.parts) c.as_slice.ensures c.in-Ok.ensures in
    subst (λ (is : List ℕ). AllByRecursion (λ l. is_lower c.args.var l ≡ true) (lits_of s is)) (sym c.as_slice-2.ensures) (parted_lower c.args.var s c.args.ids.now c.in-Ok.parts p)

pub add_rows-requires-clause-upper : goal.add_rows-requires-clause-upper
add_rows-requires-clause-upper c =
    let s = c.args.store.now.lits in
    let p = subst (λ (ls : List Lit). IsParted c.args.var ls c.args.ids.now c.in-Ok.parts) c.as_slice.ensures c.in-Ok.ensures in
    subst (λ (is : List ℕ). AllByRecursion (λ l. is_upper c.args.var l ≡ true) (lits_of s is)) (sym c.as_slice-3.ensures) (parted_upper c.args.var s c.args.ids.now c.in-Ok.parts p)

pub returns-in-Err-add_rows-clause-without : goal.returns-in-Err-add_rows-clause-without
returns-in-Err-add_rows-clause-without c =
    let s = c.args.store.now.lits in
    let p = subst (λ (ls : List Lit). IsParted c.args.var ls c.args.ids.now c.in-Ok.parts) c.as_slice.ensures c.in-Ok.ensures in
    let q = ap₂ (λ (ls us : List ℕ). rows_of c.args.var (lits_of s ls) (lits_of s us)) c.as_slice-2.ensures c.as_slice-3.ensures in
    sums_refused c.args.var s c.add_rows.new.store.lits c.add_rows.new.store.lits c.args.ids.now c.in-Ok.parts c.in-Err-add_rows.fault c.requires.rows c.requires.rational p
    (subst (λ (ls : List Lit). AddsCube s c.add_rows.new.store.lits ls (Err c.in-Err-add_rows.fault)) q c.in-Err-add_rows.ensures.adds)

pub returns-in-Ok-and_from-clause-without : goal.returns-in-Ok-and_from-clause-without
returns-in-Ok-and_from-clause-without c =
    let s = c.args.store.now.lits in
    let n = c.add_rows.new.store.lits in
    let p = subst (λ (ls : List Lit). IsParted c.args.var ls c.args.ids.now c.in-Ok.parts) c.as_slice.ensures c.in-Ok.ensures in
    let q = ap₂ (λ (ls us : List ℕ). rows_of c.args.var (lits_of s ls) (lits_of s us)) c.as_slice-2.ensures c.as_slice-3.ensures in
    let a = subst (λ (ls : List Lit). AddsCube s n ls (Ok c.in-Ok-add_rows.field-0)) q c.in-Ok-add_rows.ensures.adds in
    let e = c.in-Ok-and_from.ensures ∙ ap₂ (λ (is : List ℕ) (f : ℕ). is ++ range_with_len f (c.len.result - f)) c.as_slice-4.ensures c.len-from.ensures in
    taken_out c.args.var s n c.args.ids.now c.in-Ok.parts c.in-Ok-and_from.next c.len.result c.requires.rows c.requires.rational p a c.len.ensures e
