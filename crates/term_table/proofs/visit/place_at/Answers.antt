use Rattle.std.proofs.Common.{◌≡◌, ◌∙◌, ◌∷◌, [], ◌≤◌, ℕ, zero, suc, List, length, get_or, refl, ap, sym, arith}
use Rattle.term_table.specs.Placed.{Frame}
use Rattle.term_table.proofs.StepLemmas.{frame-is}
use Rattle.term_table.proofs.visit.place_at.Goals as goal

past : (is : List ℕ) (i : ℕ) → length is ≤ i → get_or is i 0 ≡ 0
past [] i le = refl
past (j ∷ is) zero le = absurd (omega arith)
past (j ∷ is) (suc i) le = past is i (omega arith)

pub returns-then-binding-bound : goal.returns-then-binding-bound
returns-then-binding-bound c =
    λ ms. let xs = c.args.frames.now in
    let x = c.index-frames-frame.result in
    ap (λ (f : Frame). get_or f.bound c.args.binding 0) (frame-is ms xs c.args.frame x c.requires.ordered c.requires.below c.index-frames-frame.is)
    ∙ ap (λ (is : List ℕ). get_or is c.args.binding 0) (sym c.as_slice-bound.ensures)

pub returns : goal.returns
returns c =
    λ ms. let xs = c.args.frames.now in
    let x = c.index-frames-frame.result in
    ap (λ (f : Frame). get_or f.bound c.args.binding 0) (frame-is ms xs c.args.frame x c.requires.ordered c.requires.below c.index-frames-frame.is)
    ∙ ap (λ (is : List ℕ). get_or is c.args.binding 0) (sym c.as_slice-bound.ensures)
    ∙ past c.as_slice-bound.result.now c.args.binding (omega (arith, c.if-binding-bound.false))
