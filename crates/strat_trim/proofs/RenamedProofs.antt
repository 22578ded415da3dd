-- A refutation of one losing system is, at other names, one of another system that has what the lines name.
use Rattle.std.specs.Prelude.{ℕ, zero, suc, ◌<◌, ◌≡◌, ℤ, Bool, ◌&&◌, not, nat_le, is_none, Option, Some, option_and_then, option_map, slice_get, List, [], ◌∷◌, ◌++◌, get_or}
use Rattle.std.specs.List.{list_all, AllByRecursion}
use Rattle.std.proofs.Common.{ap, ap₂, ◌∙◌, sym, subst, refl}
use Rattle.std.proofs.lemmas.List.{map-append, length-map}
use Rattle.lin_term.specs.declared.Sort.{Sort}
use Rattle.lin_term.specs.declared.Lit.{Lit}
use Rattle.lin_term.specs.declared.Lit.TheVariants.{AtLeast, Above, Divides, NotDivides}
use Rattle.lin_term.specs.Literal.{rename_lit}
use Rattle.lin_term.specs.Wide.{first_past}
use Rattle.lin_term.specs.Definition.{Definition}
use Rattle.dom_core.specs.Game.{Matrix, lit, rename_matrix}
use Rattle.lose_system.specs.Losing.{System, literal_number, definition_at}
use Rattle.cube_rules.specs.declared.Step.{Step}
use Rattle.cube_rules.specs.declared.Step.TheVariants.{Path, Def, Part, Cases, Sum, Split, Cube, Least, Learn, False}
use Rattle.cube_rules.specs.Context.{Context}
use Rattle.cube_rules.specs.Facts.{guard}
use Rattle.cube_rules.specs.Limits.{is_within, is_literal_within, has_modulus}
use Rattle.cube_rules.specs.Lines.{goes_on}
use Rattle.cube_rules.specs.Closing.{Proof, line, Proofs, no_proof, proof, preorder, preorders, Closes, CloseAll}
use Rattle.cube_rules.proofs.Sound.{guard_some, map_some, then_some, some_same}
use Rattle.proof_rules.specs.Rules.{path_line, def_line, rule_line, apply}
use Rattle.strat_trim.specs.Renamed.{rename_step, rename_steps}
use Rattle.strat_trim.proofs.RenamedForms.{Keeps, LitWithin, numbers_renamed}
use Rattle.strat_trim.proofs.RenamedCases.{rename_cube}
use Rattle.strat_trim.proofs.RenamedSteps.{MatrixWithin, FactsWithin, rename_context, rename_contexts, ContextsWithin, Same, goes_renamed, StepWithin, step_renamed}
use Rattle.strat_trim.proofs.PrunedDefinitions.{rename_definition, DefinitionWithin}

-- the second system has what the lines name of the first one
pub record Renames (old new : System) (numbers names : List ℕ) (Q K : ℕ → Type 0) : Type 0 where
  pub keeps : Keeps names K
  pub below : (v : ℕ) → K v → get_or names v 0 < new.count
  pub path : (k : ℕ) (m : Matrix) → Q k → slice_get old.paths k ≡ Some m → (slice_get new.paths (get_or numbers k 0) ≡ Some (rename_matrix m names)) × MatrixWithin m K
  pub def : (v : ℕ) (d : Definition) → K v → definition_at old.defs v ≡ Some d → (definition_at new.defs (get_or names v 0) ≡ Some (rename_definition names d)) × DefinitionWithin K d

number_renamed : (names : List ℕ) (K : ℕ → Type 0) (i : ℕ) (d : Definition) (l : Lit) → DefinitionWithin K d → literal_number i d ≡ Some l → (literal_number i (rename_definition names d) ≡ Some (rename_lit names l)) × LitWithin K l
number_renamed names K zero d l w e = (ap (λ (x : Lit). Some (rename_lit names x)) (some_same d.upper l e), subst (λ (x : Lit). LitWithin K x) (some_same d.upper l e) w.0)
number_renamed names K (suc zero) d l w e = (ap (λ (x : Lit). Some (rename_lit names x)) (some_same d.lower l e), subst (λ (x : Lit). LitWithin K x) (some_same d.lower l e) w.1)
number_renamed names K (suc (suc i)) d l w e = absurd (cc)

path_renamed : (old new : System) (numbers names : List ℕ) (Q K : ℕ → Type 0) (c : Context) (j : ℕ) (ks : List Context) → Renames old new numbers names Q K → FactsWithin K c.facts → Q j → path_line old c j ≡ Some ks → Same names K (path_line new (rename_context names c) (get_or numbers j 0)) ks
path_renamed old new numbers names Q K c j ks r w q e =
    let g = guard_some (not c.bare) (option_map (goes_on c) (slice_get old.paths j)) ks e in
    let m = map_some (goes_on c) (slice_get old.paths j) ks g.1 in
    let p = r.path j m.0 q m.1 in
    let x = goes_renamed names K c m.0 ks w p.1 m.2 in
    record {
      leaves = ap₂ (λ (b : Bool) (o : Option Matrix). guard b (option_map (goes_on (rename_context names c)) o)) g.0 p.0 ∙ x.leaves;
      within = x.within;
    }

def_renamed : (old new : System) (numbers names : List ℕ) (Q K : ℕ → Type 0) (c : Context) (v i : ℕ) (ks : List Context) → Renames old new numbers names Q K → FactsWithin K c.facts → K v → def_line old c v i ≡ Some ks → Same names K (def_line new (rename_context names c) (get_or names v 0) i) ks
def_renamed old new numbers names Q K c v i ks r w h e =
    let goes : Lit → List Context = λ l. goes_on c (lit l) in
    let moved : Lit → List Context = λ l. goes_on (rename_context names c) (lit l) in
    let g = guard_some (not c.bare) (option_map goes (option_and_then (literal_number i) (definition_at old.defs v))) ks e in
    let m = map_some goes (option_and_then (literal_number i) (definition_at old.defs v)) ks g.1 in
    let t = then_some (literal_number i) (definition_at old.defs v) m.0 m.1 in
    let d = r.def v t.0 h t.1 in
    let n = number_renamed names K i t.0 m.0 d.1 t.2 in
    let x = goes_renamed names K c (lit m.0) ks w n.1 m.2 in
    record {
      leaves = ap₂ (λ (b : Bool) (o : Option Definition). guard b (option_map moved (option_and_then (literal_number i) o))) g.0 d.0
          ∙ ap (option_map moved) n.0
          ∙ x.leaves;
      within = x.within;
    }

line_renamed : (s : Sort) (old new : System) (numbers names : List ℕ) (Q K : ℕ → Type 0) (c : Context) (l : Step) (ks : List Context) → Renames old new numbers names Q K → FactsWithin K c.facts → StepWithin Q K l → rule_line s old c l ≡ Some ks → Same names K (rule_line s new (rename_context names c) (rename_step numbers names l)) ks
line_renamed s old new numbers names Q K c (Path j) ks r w v e = path_renamed old new numbers names Q K c j ks r w v e
line_renamed s old new numbers names Q K c (Def u i) ks r w v e = def_renamed old new numbers names Q K c u i ks r w v e
line_renamed s old new numbers names Q K c (Part f i) ks r w v e = step_renamed s old.count new.count numbers names Q K c (Part f i) ks r.keeps r.below w v e
line_renamed s old new numbers names Q K c (Cases f i) ks r w v e = step_renamed s old.count new.count numbers names Q K c (Cases f i) ks r.keeps r.below w v e
line_renamed s old new numbers names Q K c (Sum p f q h g) ks r w v e = step_renamed s old.count new.count numbers names Q K c (Sum p f q h g) ks r.keeps r.below w v e
line_renamed s old new numbers names Q K c (Split l) ks r w v e = step_renamed s old.count new.count numbers names Q K c (Split l) ks r.keeps r.below w v e
line_renamed s old new numbers names Q K c (Cube fs) ks r w v e = step_renamed s old.count new.count numbers names Q K c (Cube fs) ks r.keeps r.below w v e
line_renamed s old new numbers names Q K c (Least u i) ks r w v e = step_renamed s old.count new.count numbers names Q K c (Least u i) ks r.keeps r.below w v e
line_renamed s old new numbers names Q K c (Learn ls) ks r w v e = step_renamed s old.count new.count numbers names Q K c (Learn ls) ks r.keeps r.below w v e
line_renamed s old new numbers names Q K c (False f) ks r w v e = step_renamed s old.count new.count numbers names Q K c (False f) ks r.keeps r.below w v e

-- ---- the limits of its numbers

modulus_renamed : (names : List ℕ) (l : Lit) → has_modulus (rename_lit names l) ≡ has_modulus l
modulus_renamed names (AtLeast f) = refl
modulus_renamed names (Above f) = refl
modulus_renamed names (Divides d f) = refl
modulus_renamed names (NotDivides d f) = refl

literal_within_renamed : (names : List ℕ) (l : Lit) → is_literal_within (rename_lit names l) ≡ is_literal_within l
literal_within_renamed names l = ap₂ (λ (zs : List ℤ) (b : Bool). is_none (first_past zs) && b) (numbers_renamed names l) (modulus_renamed names l)

literals_within_renamed : (names : List ℕ) (ls : List Lit) → list_all is_literal_within (rename_cube names ls) ≡ list_all is_literal_within ls
literals_within_renamed names [] = refl
literals_within_renamed names (l ∷ ls) = ap₂ (λ (a b : Bool). a && b) (literal_within_renamed names l) (literals_within_renamed names ls)

within_renamed : (numbers names : List ℕ) (l : Step) → is_within (rename_step numbers names l) ≡ is_within l
within_renamed numbers names (Path j) = refl
within_renamed numbers names (Def u i) = refl
within_renamed numbers names (Part f i) = refl
within_renamed numbers names (Cases f i) = refl
within_renamed numbers names (Sum p f q h g) = refl
within_renamed numbers names (Split l) = literal_within_renamed names l
within_renamed numbers names (Cube fs) = refl
within_renamed numbers names (Least u i) = refl
within_renamed numbers names (Learn ls) = ap₂ (λ (n : ℕ) (b : Bool). nat_le 1 n && b) (length-map ls (rename_lit names)) (literals_within_renamed names ls)
within_renamed numbers names (False f) = refl

pub apply_renamed : (s : Sort) (old new : System) (numbers names : List ℕ) (Q K : ℕ → Type 0) (c : Context) (l : Step) (ks : List Context) → Renames old new numbers names Q K → FactsWithin K c.facts → StepWithin Q K l → apply s old c l ≡ Some ks → Same names K (apply s new (rename_context names c) (rename_step numbers names l)) ks
apply_renamed s old new numbers names Q K c l ks r w v e =
    let g = guard_some (is_within l) (rule_line s old c l) ks e in
    let x = line_renamed s old new numbers names Q K c l ks r w v g.1 in
    record {
      leaves = ap (λ (b : Bool). guard b (rule_line s new (rename_context names c) (rename_step numbers names l))) (within_renamed numbers names l ∙ g.0) ∙ x.leaves;
      within = x.within;
    }

-- ---- whole proofs

abbrev mutual
  pub rename_proof : Proof → List ℕ → List ℕ → Proof
  rename_proof (line l ts) numbers names = line (rename_step numbers names l) (rename_proofs ts numbers names)

  pub rename_proofs : Proofs → List ℕ → List ℕ → Proofs
  rename_proofs no_proof numbers names = no_proof
  rename_proofs (proof t ts) numbers names = proof (rename_proof t numbers names) (rename_proofs ts numbers names)

mutual
  pub preorder_renamed : (t : Proof) (numbers names : List ℕ) → preorder (rename_proof t numbers names) ≡ rename_steps numbers names (preorder t)
  preorder_renamed (line l ts) numbers names = ap (λ (xs : List Step). rename_step numbers names l ∷ xs) (preorders_renamed ts numbers names)

  pub preorders_renamed : (ts : Proofs) (numbers names : List ℕ) → preorders (rename_proofs ts numbers names) ≡ rename_steps numbers names (preorders ts)
  preorders_renamed no_proof numbers names = refl
  preorders_renamed (proof t ts) numbers names =
      ap₂ (λ (xs ys : List Step). xs ++ ys) (preorder_renamed t numbers names) (preorders_renamed ts numbers names)
      ∙ sym (map-append (rename_step numbers names) (preorder t) (preorders ts))

all_left : {A : Type 0} (P : A → Type 0) (xs ys : List A) → AllByRecursion P (xs ++ ys) → AllByRecursion P xs
all_left P [] ys a = tt
all_left P (x ∷ xs) ys a = (a.0, all_left P xs ys a.1)

all_right : {A : Type 0} (P : A → Type 0) (xs ys : List A) → AllByRecursion P (xs ++ ys) → AllByRecursion P ys
all_right P [] ys a = a
all_right P (x ∷ xs) ys a = all_right P xs ys a.1

mutual
  pub closes_renamed : (t : Proof) (s : Sort) (old new : System) (numbers names : List ℕ) (Q K : ℕ → Type 0) (c : Context) → Renames old new numbers names Q K → FactsWithin K c.facts → AllByRecursion (StepWithin Q K) (preorder t) → Closes t (apply s old) c → Closes (rename_proof t numbers names) (apply s new) (rename_context names c)
  closes_renamed (line l ts) s old new numbers names Q K c r w v h =
      let x = apply_renamed s old new numbers names Q K c l h.0 r w v.0 h.1 in
      (rename_contexts names h.0, x.leaves, all_closed ts s old new numbers names Q K h.0 r x.within v.1 h.2)

  pub all_closed : (ts : Proofs) (s : Sort) (old new : System) (numbers names : List ℕ) (Q K : ℕ → Type 0) (ks : List Context) → Renames old new numbers names Q K → ContextsWithin K ks → AllByRecursion (StepWithin Q K) (preorders ts) → CloseAll ts (apply s old) ks → CloseAll (rename_proofs ts numbers names) (apply s new) (rename_contexts names ks)
  all_closed no_proof s old new numbers names Q K [] r w v h = tt
  all_closed no_proof s old new numbers names Q K (k ∷ ks) r w v h = absurd h
  all_closed (proof t ts) s old new numbers names Q K [] r w v h = absurd h
  all_closed (proof t ts) s old new numbers names Q K (k ∷ ks) r w v h = (
    closes_renamed t s old new numbers names Q K k r w.0 (all_left (StepWithin Q K) (preorder t) (preorders ts) v) h.0,
    all_closed ts s old new numbers names Q K ks r w.1 (all_right (StepWithin Q K) (preorder t) (preorders ts) v) h.1,
  )

-- ---- what the lines of a proof name

-- a line that is taken names what is kept
abbrev pub Names : Sort → System → (ℕ → Type 0) → (ℕ → Type 0) → Step → Type 0
Names s old Q K l = (c : Context) (ks : List Context) → apply s old c l ≡ Some ks → StepWithin Q K l

all_append : {A : Type 0} (P : A → Type 0) (xs ys : List A) → AllByRecursion P xs → AllByRecursion P ys → AllByRecursion P (xs ++ ys)
all_append P [] ys a b = b
all_append P (x ∷ xs) ys a b = (a.0, all_append P xs ys a.1 b)

mutual
  pub proof_within : (t : Proof) (s : Sort) (old : System) (Q K : ℕ → Type 0) (c : Context) → AllByRecursion (Names s old Q K) (preorder t) → Closes t (apply s old) c → AllByRecursion (StepWithin Q K) (preorder t)
  proof_within (line l ts) s old Q K c v h = (v.0 c h.0 h.1, proofs_within ts s old Q K h.0 v.1 h.2)

  pub proofs_within : (ts : Proofs) (s : Sort) (old : System) (Q K : ℕ → Type 0) (ks : List Context) → AllByRecursion (Names s old Q K) (preorders ts) → CloseAll ts (apply s old) ks → AllByRecursion (StepWithin Q K) (preorders ts)
  proofs_within no_proof s old Q K ks v h = tt
  proofs_within (proof t ts) s old Q K [] v h = absurd h
  proofs_within (proof t ts) s old Q K (k ∷ ks) v h =
      all_append (StepWithin Q K) (preorder t) (preorders ts) (proof_within t s old Q K k (all_left (Names s old Q K) (preorder t) (preorders ts) v) h.0)
      (proofs_within ts s old Q K ks (all_right (Names s old Q K) (preorder t) (preorders ts) v) h.1)
