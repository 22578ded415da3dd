use Rattle.std.specs.Prelude.{ℕ, ◌≡◌, ◌^◌, ◌+ℤ◌, ◌*ℤ◌, nat_abs}
use Rattle.std.proofs.Common.{arith, ◌∙◌, subst, w64, SFits, to_z, of_z, to_z-of_z}
use mir.Syntax.{w128}
use Rattle.lin_term.specs.Linear.{Form}
use Rattle.lin_term.specs.Move.{lowest}
use Rattle.lin_term.specs.Definition.{move_numbers}
use Rattle.lin_term.specs.Settle.{sum_form}
use Rattle.lin_term.specs.Wide.{Capped}
use Rattle.lin_term.proofs.Lowering.{move_with}
use Rattle.lin_term.proofs.Terms.{two_words, word_of}
use Rattle.lin_term.proofs.WideMoves.{wide_form_as}
use Rattle.lin_term.proofs.moves.Move.from_wide.Goals as goal

pub returns : goal.returns
returns c =
    let fp : SFits w64 c.args.p = c.ranges.p in
    let fq : SFits w64 c.args.q = c.ranges.q in
    let fc : SFits w128 c.args.c = c.ranges.c in
    let fd : SFits w128 c.args.div = c.ranges.div in
    let p = c.args.p in
    let q = c.args.q in
    let f : Form = c.args.left.now in
    let g : Form = c.args.right.now in
    let left = word_of c.constant_part.result c.constant_part.ensures.kept in
    let right = word_of c.constant_part-2.result c.constant_part-2.ensures.kept in
    let w = two_words c.wide_constant-constant.result c.wide_constant-constant.type_inv in
    let v : c.wide_constant-constant.result ≡ (p *ℤ c.constant_part.result +ℤ q *ℤ c.constant_part-2.result) +ℤ c.args.c = simp (to_z-of_z, left, right) at c.wide_constant-constant.ensures in
    let same = wide_form_as p f q g (2 ^ 20) c.coefs-left.result.now c.coefs-right.result.now c.constant_part.result c.constant_part-2.result c.args.c c.wide_constant-constant.result (omega arith) c.coefs-left.ensures.terms c.coefs-right.ensures.terms c.coefs-right.ensures.kept c.constant_part.ensures.value c.constant_part-2.ensures.value v in
    let s : sum_form (to_z w64 (of_z w64 p)) c.coefs-left.result.now (to_z w64 (of_z w64 q)) c.coefs-right.result.now (2 ^ 20) (to_z w128 (of_z w128 c.wide_constant-constant.result)) ≡ sum_form p c.coefs-left.result.now q c.coefs-right.result.now (2 ^ 20) c.wide_constant-constant.result = simp (to_z-of_z, w) in
    let n : nat_abs (to_z w128 (of_z w128 c.args.div)) ≡ nat_abs c.args.div = simp to_z-of_z in
    subst (λ (h : Form). Capped (move_numbers c.args.sort (lowest c.args.sort (move_with h (nat_abs c.args.div)))) (lowest c.args.sort (move_with h (nat_abs c.args.div))) c.wide_lowest.result) (s ∙ same)
    (subst (λ (d : ℕ). Capped (move_numbers c.args.sort (lowest c.args.sort (move_with (sum_form (to_z w64 (of_z w64 p)) c.coefs-left.result.now (to_z w64 (of_z w64 q)) c.coefs-right.result.now (2 ^ 20) (to_z w128 (of_z w128 c.wide_constant-constant.result))) d))) (lowest c.args.sort (move_with (sum_form (to_z w64 (of_z w64 p)) c.coefs-left.result.now (to_z w64 (of_z w64 q)) c.coefs-right.result.now (2 ^ 20) (to_z w128 (of_z w128 c.wide_constant-constant.result))) d)) c.wide_lowest.result) n c.wide_lowest.ensures)
