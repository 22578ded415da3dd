use Rattle.std.proofs.Common.{Bool, List, ◌∙◌, ◌++◌, length, ap, ap₂, sym}
use Rattle.std.specs.List.{list_all}
use Rattle.lin_term.specs.declared.Lit.{Lit}
use Rattle.dom_core.specs.Distinct.{new_places, at_places}
use Rattle.dom_core.proofs.Distincts.{all_are_new, some_are_new, as_many}
use Rattle.dom_core.proofs.distinct.add_new.Goals as goal

pub returns-in-Ok-append : goal.returns-in-Ok-append
returns-in-Ok-append c =
    let e = c.in-Ok.ensures ∙ ap₂ new_places c.as_slice.ensures c.as_slice-2.ensures in
    all_are_new c.args.out c.args.more c.append.new.self c.in-Ok.places e
    (ap (list_all (λ (b : Bool). b)) (sym c.as_slice-3.ensures) ∙ sym c.are_all_new.ensures ∙ c.if-are_all_new.true) c.in-Ok-append.ensures

pub add_at_places-requires : goal.add_at_places-requires
add_at_places-requires c =
    let e = c.in-Ok.ensures ∙ ap₂ new_places c.as_slice.ensures c.as_slice-2.ensures in
    ap (λ (bs : List Bool). length bs) c.as_slice-5.ensures ∙ as_many c.args.out c.args.more c.in-Ok.places e ∙ ap (λ (ls : List Lit). length ls) (sym c.as_slice-4.ensures)

pub returns-in-Ok-add_at_places : goal.returns-in-Ok-add_at_places
returns-in-Ok-add_at_places c =
    let e = c.in-Ok.ensures ∙ ap₂ new_places c.as_slice.ensures c.as_slice-2.ensures in
    some_are_new c.args.out c.args.more c.add_at_places.new.out c.in-Ok.places e
    (c.in-Ok-add_at_places.ensures ∙ ap₂ (λ (bs : List Bool) (ls : List Lit). c.args.out ++ at_places bs ls) c.as_slice-5.ensures c.as_slice-4.ensures)
