use Rattle.std.proofs.Common.{◌≡◌, ℕ, List, length, map, sym, ap, ◌∙◌, arith}
use Rattle.lin_truth.specs.Term.{Term, and_of}
use Rattle.lin_truth.specs.View.{terms_of}
use Rattle.term_table.specs.Meaning.{at, meanings}
use Rattle.smt_term.proofs.MakingLemmas.{makes_as, all_hold-many, length-mapped}
use Rattle.smt_term.proofs.making.all_hold.Goals as goal

pub returns : goal.returns
returns c =
    let ms = meanings c.args.table.now in
    let many : length c.args.parts.items ≡ 1 → ⊥ = λ one. c.if-len-eq1.false (c.len.ensures ∙ omega (arith, one, c.args.parts.ok.0)) in
    makes_as c.args.table.now c.added.new.table c.added.result _ _
    (λ frame n.
    let f : ℕ → Term = λ i. at ms i frame n in
    let ts : List Term = map f c.args.parts.items in
    let not_one : length ts ≡ 1 → ⊥ = λ one. many (sym (length-mapped f c.args.parts.items) ∙ one) in
    ap (λ (is : List ℕ). and_of (terms_of (map (λ i. at ms i frame n) is))) c.from_vec.ensures
    ∙ sym (all_hold-many ts not_one))
    c.added.ensures
