-- The line `least`: the facts read as a cube, and the cases that are left of it.
use Rattle.std.specs.Prelude.{ℕ, ◌+◌, ◌<◌, ◌≤◌, ◌≡◌, Option, Some, None, option_map, option_and_then, IfSome, List, [], ◌∷◌, ◌++◌, map, drop, get_or, length}
use Rattle.std.proofs.Common.{ap, ◌∙◌, sym, subst, refl, append_assoc, append-nil}
use Rattle.std.proofs.lemmas.List.{at_drop_more, at_drop_all}
use Rattle.lin_term.specs.declared.Sort.{Sort}
use Rattle.lin_term.specs.declared.Lit.{Lit}
use Rattle.dom_core.specs.Cube.{IsPrimitiveCube}
use Rattle.lose_system.specs.Written.{WrittenSystem}
use Rattle.cube_rules.specs.Facts.{literal_of, all_literals}
use Rattle.proof_rules.specs.declared.fact.Fact.{Fact}
use Rattle.proof_rules.specs.Held.{fact_of, IsKnown}

-- ---- the facts as a cube

-- the facts before i are these literals
pub record Read (s : Sort) (w : WrittenSystem) (facts : List Fact) (i : ℕ) (lits : List Lit) : Type 0 where
  pub all : option_map (λ ls. lits ++ ls) (all_literals (map (fact_of s w) (drop i facts))) ≡ all_literals (map (fact_of s w) facts)
  pub primitive : IsPrimitiveCube s lits

none_before : (o : Option (List Lit)) → option_map (λ ls. [] ++ ls) o ≡ o
none_before None = refl
none_before (Some ls) = refl

pub read_none : (s : Sort) (w : WrittenSystem) (facts : List Fact) (lits : List Lit) → lits ≡ [] → Read s w facts 0 lits
read_none s w facts lits e =
    subst (λ (ls : List Lit). Read s w facts 0 ls) (sym e) (record { all = none_before (all_literals (map (fact_of s w) facts)); primitive = tt })

one_before : (lits : List Lit) (l : Lit) (o : Option (List Lit)) → option_map (λ ls. (lits ++ l ∷ []) ++ ls) o ≡ option_map (λ ls. lits ++ ls) (option_map (λ ls. l ∷ ls) o)
one_before lits l None = refl
one_before lits l (Some ls) = ap Some (append_assoc lits (l ∷ []) ls)

pub primitive-push : (s : Sort) (lits : List Lit) (l : Lit) → IsPrimitiveCube s lits → IsKnown s l → IsPrimitiveCube s (lits ++ l ∷ [])
primitive-push s [] l p k = (k.0, k.1, tt)
primitive-push s (x ∷ lits) l p k = (p.0, p.1, primitive-push s lits l p.2 k)

here : (s : Sort) (w : WrittenSystem) (facts : List Fact) (i : ℕ) (x : Fact) → i < length facts → x ≡ get_or facts i x → all_literals (map (fact_of s w) (drop i facts)) ≡ all_literals (fact_of s w x ∷ map (fact_of s w) (drop (i + 1) facts))
here s w facts i x h e =
    at_drop_more (λ (fs : List Fact). all_literals (map (fact_of s w) fs)) facts i x h
    ∙ ap (λ (y : Fact). all_literals (fact_of s w y ∷ map (fact_of s w) (drop (i + 1) facts))) (sym e)

pub read_more : (s : Sort) (w : WrittenSystem) (facts : List Fact) (i : ℕ) (lits new : List Lit) (x : Fact) (l : Lit) → Read s w facts i lits → i < length facts → x ≡ get_or facts i x → Some l ≡ literal_of (fact_of s w x) → IsKnown s l → new ≡ lits ++ l ∷ [] → Read s w facts (i + 1) new
read_more s w facts i lits new x l r h e f k n =
    subst (λ (ls : List Lit). Read s w facts (i + 1) ls) (sym n)
    (let rest = all_literals (map (fact_of s w) (drop (i + 1) facts)) in
    record {
      all = one_before lits l rest
          ∙ ap (λ (o : Option Lit). option_map (λ ls. lits ++ ls) (option_and_then (λ y. option_map (λ ls. y ∷ ls) rest) o)) f
          ∙ ap (option_map (λ ls. lits ++ ls)) (sym (here s w facts i x h e))
          ∙ r.all;
      primitive = primitive-push s lits l r.primitive k;
    })

pub read_missing : (s : Sort) (w : WrittenSystem) (facts : List Fact) (i : ℕ) (lits : List Lit) (x : Fact) → Read s w facts i lits → i < length facts → x ≡ get_or facts i x → None ≡ literal_of (fact_of s w x) → None ≡ all_literals (map (fact_of s w) facts)
read_missing s w facts i lits x r h e f =
    ap (λ (o : Option Lit). option_map (λ ls. lits ++ ls) (option_and_then (λ y. option_map (λ ls. y ∷ ls) (all_literals (map (fact_of s w) (drop (i + 1) facts)))) o)) f
    ∙ ap (option_map (λ ls. lits ++ ls)) (sym (here s w facts i x h e))
    ∙ r.all

pub read_done : (s : Sort) (w : WrittenSystem) (facts : List Fact) (i : ℕ) (lits cube : List Lit) → Read s w facts i lits → length facts ≤ i → cube ≡ lits → Some cube ≡ all_literals (map (fact_of s w) facts)
read_done s w facts i lits cube r h e =
    ap Some (e ∙ sym (append-nil lits))
    ∙ ap (λ (fs : List Fact). option_map (λ ls. lits ++ ls) (all_literals (map (fact_of s w) fs))) (sym (at_drop_all (λ (fs : List Fact). fs) facts i h))
    ∙ r.all

pub of_some : {A : Type 0} (P : A → Type 0) (o : Option A) (x : A) → o ≡ Some x → IfSome o P → P x
of_some P o x e h = subst (λ (y : Option _). IfSome y P) e h
