use Rattle.std.proofs.Common.{ℕ, ℤ, pos, ◌≡◌, ◌∙◌, ap, ap₂, sym, arith, List, [], w64, SFits, to_z-of_z}
use Rattle.std.proofs.lemmas.Int.{ints}
use Rattle.lin_term.specs.Linear.{Form, put_front}
use Rattle.lin_term.specs.Wide.{fits}
use Rattle.lin_form.specs.Lin.{Lin}
use Rattle.lin_form.specs.Scope.{level_at}
use Rattle.lin_form.proofs.Whole.{at_level, multiple_is, multiple_fits}
use Rattle.lin_form.proofs.leaf.multiple.Goals as goal

pub returns-then-not-is_within : goal.returns-then-not-is_within
returns-then-not-is_within c =
    let n : ℤ = c.args.num in
    let f : SFits w64 c.args.num = c.ranges.num in
    let g : SFits mir.Syntax.w128 c.args.num = omega (arith, ints, c.ranges.num) in
    let w : c.is_within.result ≡ fits c.args.num = simp to_z-of_z at c.is_within.ensures in
    multiple_fits n c.args.place c.args.ctx.now ∙ (sym w ∙ c.if-not-is_within.true)

pub returns : goal.returns
returns c =
    let n : ℤ = c.args.num in
    let f : SFits w64 c.args.num = c.ranges.num in
    let g : SFits mir.Syntax.w128 c.args.num = omega (arith, ints, c.ranges.num) in
    let w : c.is_within.result ≡ fits c.args.num = simp to_z-of_z at c.is_within.ensures in
    let k : c.in_ok-coefs.coefs.items ≡ put_front c.level_of-level.result c.args.num [] = simp to_z-of_z at c.in_ok-coefs.ensures in (
      multiple_fits n c.args.place c.args.ctx.now ∙ (sym w ∙ c.if-not-is_within.false),
      c.whole.ensures
          ∙ (ap (λ (h : Form). record { form = h; den = 1 })
          (c.from_parts.ensures ∙ ap (λ (ts : List (ℕ × ℤ)). record { terms = ts; constant = pos 0 }) (k ∙ ap (λ (l : ℕ). put_front l n []) c.level_of-level.ensures))
          ∙ sym (multiple_is n c.args.place c.args.ctx.now)),
    )
