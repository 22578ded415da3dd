-- What the outcome of one check says of its problem, and what those of all say of each.
use Rattle.std.proofs.Common.{◌≡◌, ℕ, zero, suc, List, [], ◌∷◌, Some, refl, ap, sym, ◌∙◌, subst}
use Rattle.std.specs.Prelude.{◌↔◌, slice_get}
use Rattle.lin_term.specs.declared.Sort.{Sort}
use Rattle.dom_core.specs.declared.Side.{Side}
use Rattle.dom_core.specs.declared.Side.TheVariants.{Exists, Forall}
use Rattle.dom_core.specs.Game.{Problem, TrueP}
use Rattle.strat_text.specs.declared.Section.{Section}
use Rattle.strat_text.specs.declared.Section.TheVariants.{Claimed, Unknown}
use Rattle.strat_text.specs.Spelling.{without_line}
use Rattle.strat_check.specs.declared.Checked.{Checked}
use Rattle.strat_check.specs.declared.Checked.TheVariants.{Accepted, Unclaimed, Rejected}
use Rattle.strat_check.specs.Section.{verdict}
use Rattle.strat_check.specs.Accepted.{Accepts}
use Rattle.simcheck.specs.Carried.{Wins, EachWins}

wins_of : (s : Sort) (P : Problem) (x : Section) (c : Checked) → ((owner : Side) → (c ≡ Accepted owner) ↔ Accepts s P owner x) →
    (c ≡ Accepted Exists → TrueP s P) → (c ≡ Accepted Forall → ¬ TrueP s P) → Wins s P x c
wins_of s P x (Accepted Exists) both sat unsat = ((both Exists).0 refl, sat refl)
wins_of s P x (Accepted Forall) both sat unsat = ((both Forall).0 refl, unsat refl)
wins_of s P x Unclaimed both sat unsat = λ owner a. let e : Unclaimed ≡ Accepted owner = (both owner).1 a in absurd (cc)
wins_of s P x (Rejected line rule) both sat unsat = λ owner a. let e : Rejected line rule ≡ Accepted owner = (both owner).1 a in absurd (cc)

pub wins : (s : Sort) (P : Problem) (x : Section) (c : Checked) → c ≡ verdict s P x → ((owner : Side) → (c ≡ Accepted owner) ↔ Accepts s P owner x) →
    (c ≡ Accepted Exists → TrueP s P) → (c ≡ Accepted Forall → ¬ TrueP s P) → Wins s P x (verdict s P x)
wins s P x c is both sat unsat = subst (λ (d : Checked). Wins s P x d) is (wins_of s P x c both sat unsat)

-- of section k and problem k
pub each_at : (s : Sort) (Ps : List Problem) (xs : List Section) (k : ℕ) (P : Problem) (x : Section) → EachWins s Ps xs → slice_get Ps k ≡ Some P → slice_get xs k ≡ Some x → Wins s P x (verdict s P x)
each_at s [] xs k P x h eP ex = absurd (cc)
each_at s (Q ∷ Ps) [] k P x h eP ex = absurd (cc)
each_at s (Q ∷ Ps) (y ∷ xs) zero P x h eP ex =
    let p : Q ≡ P = cc in
    let q : y ≡ x = cc in
    subst (λ (z : Section). Wins s P z (verdict s P z)) q (subst (λ (R : Problem). Wins s R y (verdict s R y)) p h.0)
each_at s (Q ∷ Ps) (y ∷ xs) (suc k) P x h eP ex = each_at s Ps xs k P x h.1 eP ex

-- a section claims one side
one_side : (s : Sort) (P : Problem) (a b : Side) (x : Section) → Accepts s P a x → Accepts s P b x → a ≡ b
one_side s P a b Unknown h k = absurd h
one_side s P a b (Claimed side turns tree proof line) h k = sym h.0 ∙ k.0

-- what is accepted for a side has the verdict that says so
pub wins_accepted : (s : Sort) (P : Problem) (x : Section) (c : Checked) (side : Side) → Wins s P x c → Accepts s P side x → c ≡ Accepted side
wins_accepted s P x (Accepted Exists) side w a = ap (λ (o : Side). let c : Checked = Accepted o in c) (one_side s P Exists side x w.0 a)
wins_accepted s P x (Accepted Forall) side w a = ap (λ (o : Side). let c : Checked = Accepted o in c) (one_side s P Forall side x w.0 a)
wins_accepted s P x Unclaimed side w a = absurd (w side a)
wins_accepted s P x (Rejected line rule) side w a = absurd (w side a)

-- where a section stood does not matter
to_plain : (s : Sort) (P : Problem) (side : Side) (x : Section) → Accepts s P side x → Accepts s P side (without_line x)
to_plain s P side Unknown h = h
to_plain s P side (Claimed claimed turns tree proof line) h = h

from_plain : (s : Sort) (P : Problem) (side : Side) (x : Section) → Accepts s P side (without_line x) → Accepts s P side x
from_plain s P side Unknown h = h
from_plain s P side (Claimed claimed turns tree proof line) h = h

pub accepts_elsewhere : (s : Sort) (P : Problem) (side : Side) (x y : Section) → without_line x ≡ without_line y → Accepts s P side y → Accepts s P side x
accepts_elsewhere s P side x y e h = from_plain s P side x (subst (Accepts s P side) (sym e) (to_plain s P side y h))
