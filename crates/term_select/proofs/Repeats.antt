-- Lists without repeats, put together.
use Rattle.std.specs.Prelude.{◌≡◌, Bool, true, false, ◌||◌, if◌then◌else◌, List, [], ◌∷◌, ◌++◌}
use Rattle.std.specs.List.{list_any, AllByRecursion}
use Rattle.std.proofs.Common.{ap, ap₂, ◌∙◌, sym, subst, refl}
use Rattle.lin_term.specs.declared.Lit.{Lit}
use Rattle.lin_term.specs.Linear.{Point}
use Rattle.lin_term.specs.Same.{same_literal}
use Rattle.dom_core.specs.PutMove.{with_new}
use Rattle.dom_core.specs.Game.{Matrix, lit, all, some, Matrices, none, more}
use Rattle.dom_core.proofs.PutMoves.{new_back}
use Rattle.term_select.specs.Guided.{true_at, implicant, implicants, first_implicant}
use Rattle.term_select.specs.Gathered.{Gathers, literals, all_literals, some_literals}

pub new_append : (c a b : List Lit) → with_new c (a ++ b) ≡ with_new (with_new c a) b
new_append c [] b = refl
new_append c (l ∷ a) b = new_append (if list_any (same_literal l) c then c else c ++ l ∷ []) a b

-- what is there stays there
none_of : (l : Lit) (c : List Lit) → list_any (same_literal l) c ≡ false → AllByRecursion (λ k. same_literal l k ≡ false) c
none_of l [] e = tt
none_of l (k ∷ c) e = by (same_literal l k) refl e (λ w. none_of l c w)
  where
    by : (b : Bool) → same_literal l k ≡ b → (b || list_any (same_literal l) c) ≡ false → (list_any (same_literal l) c ≡ false → AllByRecursion (λ k. same_literal l k ≡ false) c) → AllByRecursion (λ k. same_literal l k ≡ false) (k ∷ c)
    by true u w r = absurd (cc)
    by false u w r = (u, r w)

some_not_none : (l : Lit) (c : List Lit) → list_any (same_literal l) c ≡ true → AllByRecursion (λ k. same_literal l k ≡ false) c → ⊥
some_not_none l [] e h = cc
some_not_none l (k ∷ c) e h = by (same_literal l k) h.0 e (λ w. some_not_none l c w h.1)
  where
    by : (b : Bool) → b ≡ false → (b || list_any (same_literal l) c) ≡ true → (list_any (same_literal l) c ≡ true → ⊥) → ⊥
    by true u w r = cc
    by false u w r = r w

still_there : (l : Lit) (c d : List Lit) → list_any (same_literal l) d ≡ true → list_any (same_literal l) (with_new c d) ≡ true
still_there l c d e = by (list_any (same_literal l) (with_new c d)) refl
  where
    by : (b : Bool) → list_any (same_literal l) (with_new c d) ≡ b → list_any (same_literal l) (with_new c d) ≡ true
    by true u = u
    by false u = absurd (some_not_none l d e (new_back (λ k. same_literal l k ≡ false) c d (none_of l (with_new c d) u)).1)

-- repeats may be taken out of the second list first
pub new_through : (c d b : List Lit) → with_new c (with_new d b) ≡ with_new (with_new c d) b
new_through c d [] = refl
new_through c d (l ∷ b) = by (list_any (same_literal l) d) refl (new_through c d b) (new_through c (d ++ l ∷ []) b)
  where
    by : (t : Bool) → list_any (same_literal l) d ≡ t → with_new c (with_new d b) ≡ with_new (with_new c d) b → with_new c (with_new (d ++ l ∷ []) b) ≡ with_new (with_new c (d ++ l ∷ [])) b
        → with_new c (with_new (if t then d else d ++ l ∷ []) b) ≡ with_new (if list_any (same_literal l) (with_new c d) then with_new c d else with_new c d ++ l ∷ []) b
    by true e h g = h ∙ ap (λ (t : Bool). with_new (if t then with_new c d else with_new c d ++ l ∷ []) b) (sym (still_there l c d e))
    by false e h g = g ∙ ap (λ (x : List Lit). with_new x b) (new_append c d (l ∷ []))

pub new_both : (a b : List Lit) → with_new (with_new [] a) (with_new [] b) ≡ with_new [] (a ++ b)
new_both a b = new_through (with_new [] a) [] b ∙ sym (new_append [] a b)

pub new_again : (a : List Lit) → with_new [] (with_new [] a) ≡ with_new [] a
new_again a = new_through [] [] a

chosen : (t : Bool) (x y u v : List Lit) → x ≡ u → y ≡ v → (if t then x else y) ≡ (if t then u else v)
chosen true x y u v h g = h
chosen false x y u v h g = g

new_chosen : (t : Bool) (u v : List Lit) → (if t then with_new [] u else with_new [] v) ≡ with_new [] (if t then u else v)
new_chosen true u v = refl
new_chosen false u v = refl

-- the implicant has the literals found on the way, each once
mutual
  pub implicant_gathered : (m : Matrix) (p : Point) → implicant m p ≡ with_new [] (literals m p)
  implicant_gathered (lit l) p = refl
  implicant_gathered (all ms) p = implicants_gathered ms p
  implicant_gathered (some ms) p = first_gathered ms p

  implicants_gathered : (ms : Matrices) (p : Point) → implicants ms p ≡ with_new [] (all_literals ms p)
  implicants_gathered none p = refl
  implicants_gathered (more m ms) p =
      ap₂ (λ (c d : List Lit). with_new c d) (implicant_gathered m p) (implicants_gathered ms p) ∙ new_both (literals m p) (all_literals ms p)

  first_gathered : (ms : Matrices) (p : Point) → first_implicant ms p ≡ with_new [] (some_literals ms p)
  first_gathered none p = refl
  first_gathered (more m ms) p =
      chosen (true_at m p) (implicant m p) (first_implicant ms p) (with_new [] (literals m p)) (with_new [] (some_literals ms p)) (implicant_gathered m p) (first_gathered ms p)
      ∙ new_chosen (true_at m p) (literals m p) (some_literals ms p)

-- what was found of a matrix that is true, each once
pub gathered_once : (m : Matrix) (p : Point) (b : Bool) (old out base ls : List Lit) → b ≡ true_at m p → true_at m p ≡ true → old ≡ [] → Gathers b old out (literals m p) → base ≡ [] → ls ≡ with_new base out → ls ≡ implicant m p
gathered_once m p b old out base ls h t o g e k =
    let n : out ≡ old ++ literals m p = subst (λ (c : Bool). Gathers c old out (literals m p)) (h ∙ t) g in
    k ∙ ap₂ (λ (c d : List Lit). with_new c d) e (n ∙ ap (λ (c : List Lit). c ++ literals m p) o) ∙ sym (implicant_gathered m p)
