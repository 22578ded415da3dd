use Rattle.std.specs.Prelude.{ℕ, ℤ, ◌≡◌, ◌≤◌, ◌++◌, nat_abs, List, take, drop}
use Rattle.std.proofs.Common.{arith, ap, ap₂, ◌∙◌, sym, subst, w64, SFits, to_z-of_z, to_z, of_z}
use Rattle.lin_term.specs.Form.{AreTerms, cap}
use Rattle.lin_term.specs.Linear.{put}
use Rattle.lin_term.specs.PutIn.{without}
use Rattle.lin_term.specs.Replaced.{past}
use Rattle.lin_term.proofs.Residues.{with_constant}
use Rattle.lin_term.proofs.Terms.{word_of}
use Rattle.lin_term.proofs.Replacing.{put_there, replaced_are}
use Rattle.lin_term.proofs.row.Row.with.Goals as goal
use Rattle.lin_term.proofs.row.Row.with.Goals.{In_ok-coefs}

terms : (c : In_ok-coefs) → c.in_ok-coefs.coefs.items ≡ put c.args.var c.args.coef (without c.args.self.terms c.args.var)
terms c =
    let f : SFits w64 c.args.coef = c.ranges.coef in
    let p = c.into_parts-coefs.ensures in
    let now = c.as_slice.result.now in
    let i = c.place_of-place.result in
    let a : AreTerms 0 now = subst (λ (us : List (ℕ × ℤ)). AreTerms 0 us) (sym (c.as_slice.ensures ∙ p.terms)) p.row.0 in
    let w = simp to_z-of_z at c.in_ok-coefs.ensures in
    put_there c.args.self now c.taken_out.result.items c.in_ok-coefs.coefs.items c.args.var i c.args.coef a c.place_of-place.ensures.within c.place_of-place.ensures.before c.place_of-place.ensures.from (c.as_slice.ensures ∙ p.terms)
    (c.taken_out.ensures ∙ ap (λ (us : List (ℕ × ℤ)). take i us ++ past c.args.var (drop i us)) (sym c.as_slice.ensures)) w

constant : (c : In_ok-coefs) → to_z w64 (of_z w64 c.into_parts-coefs.result.1) ≡ c.args.self.constant
constant c =
    let p = c.into_parts-coefs.ensures in
    word_of c.into_parts-coefs.result.1 (subst (λ (z : ℤ). nat_abs z ≤ cap) (sym p.constant) p.row.1) ∙ p.constant

pub from_parts-requires : goal.from_parts-requires
from_parts-requires c =
    let p = c.into_parts-coefs.ensures in (
      subst (λ (us : List (ℕ × ℤ)). AreTerms 0 us) (sym (terms c)) (replaced_are 0 c.args.self.terms c.args.var c.args.coef (omega arith) c.requires.few c.requires.kept p.row.0),
      subst (λ (z : ℤ). nat_abs z ≤ cap) (sym (constant c)) p.row.1,
    )

pub returns : goal.returns
returns c = c.from_parts.ensures ∙ ap₂ with_constant (terms c.before) (constant c.before)
