-- Literals are chosen one after the other.
use Rattle.std.specs.Prelude.{ℕ, zero, suc, ◌+◌, ◌<◌, ◌≤◌, ◌≡◌, ◌⊎◌, nat_eq, Bool, true, false, if◌then◌else◌, Option, Some, None, IfSome, option_map, option_and_then, slice_get, get_or, List, [], ◌∷◌, ◌++◌, map, length, drop, ◌↔◌, IsTrue}
use Rattle.std.specs.List.{AllByRecursion}
use Rattle.std.proofs.Common.{ap, arith, ◌∙◌, sym, subst, refl, append_assoc, append-nil, inl, inr}
use Rattle.std.proofs.lemmas.Bool.{cases_lt}
use Rattle.lin_term.specs.declared.Sort.{Sort}
use Rattle.lin_term.specs.declared.Lit.{Lit}
use Rattle.lin_term.specs.Definition.{Definition}
use Rattle.lin_term.specs.Linear.{Below, Point}
use Rattle.lin_term.specs.Literal.{Holds, form_of}
use Rattle.dom_core.specs.Cube.{CubeHolds, IsPrimitiveCube}
use Rattle.dom_core.specs.declared.Matrix.{Matrix as Tree, And, Or}
use Rattle.dom_core.specs.Game.{Matrix, lit, all, some, Matrices}
use Rattle.dom_core.specs.Problem.{problem_of}
use Rattle.dom_core.proofs.AddingLemmas.{split_at}
use Rattle.game_tree.specs.Skeleton.{IsSkeleton}
use Rattle.game_tree.specs.View.{skeleton_of}
use Rattle.lose_system.specs.Losing.{System, definition_at, literal_number, AllDefined, BothHold}
use Rattle.lose_system.specs.Written.{WrittenSystem, system_of, definition_literal}
use Rattle.lose_system.proofs.SolvedLemmas.{all_nodes, literal_below}
use Rattle.cube_rules.specs.declared.Step.{Step}
use Rattle.cube_rules.specs.declared.Step.TheVariants.{Def}
use Rattle.cube_rules.specs.Context.{Context}
use Rattle.cube_rules.specs.Facts.{literal_of, literal_at, literals_at}
use Rattle.proof_rules.specs.Held.{IsKnown}
use Rattle.proof_rules.proofs.LineLemmas.{definition_known}
use Rattle.cube_elim.specs.Among.{IsAmong}
use Rattle.clause_search.specs.declared.goal.Part.{Part}
use Rattle.clause_search.specs.declared.goal.Goal.{Goal}
use Rattle.clause_search.specs.declared.chosen.Chosen.{Chosen}
use Rattle.clause_search.specs.Branches.{definition_literals}
use Rattle.clause_search.specs.Taken.{Leads, facts_alone, rules_of, matrix_at, literals_in, taken_by, Stands}
use Rattle.clause_search.specs.Chosen.{Chooses, HasFirst, HasNode, HasNodes, with_definition, AddsLiteral, NewPart, AddsPart, NewDefinition, AddsDefinition}
use Rattle.clause_search.proofs.Leading.{leads_nothing, leads_then}
use Rattle.clause_search.proofs.Rules.{def_leads}
use Rattle.clause_search.proofs.Ways.{among_left, among_right, holds_among}
use Rattle.clause_search.proofs.Stopping.{once_more}
use Rattle.clause_search.proofs.Reaching.{got_left, got_last, got_or, length-more, all_more}
use Rattle.clause_search.proofs.Parting.{children_of, conjunction_at, disjunction_at}

-- ---- the literals with these numbers

then_some : {A B : Type 0} (f : A → Option B) (o : Option A) (y : B) → option_and_then f o ≡ Some y → (x : A) × (o ≡ Some x) × (f x ≡ Some y)
then_some f None y e = absurd (cc)
then_some f (Some x) y e = (x, refl, e)

map_some : {A B : Type 0} (f : A → B) (o : Option A) (y : B) → option_map f o ≡ Some y → (x : A) × (o ≡ Some x) × (f x ≡ y)
map_some f None y e = absurd (cc)
map_some f (Some x) y e = (x, refl, cc)

numbers_more : (c : Context) (is : List ℕ) (i : ℕ) (ls : List Lit) (l : Lit) → literals_at c is ≡ Some ls → literal_at c i ≡ Some l → literals_at c (is ++ i ∷ []) ≡ Some (ls ++ l ∷ [])
numbers_more c [] i ls l e h = ap (option_and_then (λ x. Some (x ∷ []))) h ∙ ap (λ (xs : List Lit). Some (xs ++ l ∷ [])) (same [] ls e)
  where
    same : (x y : List Lit) → Some x ≡ Some y → x ≡ y
    same x y e = cc
numbers_more c (j ∷ is) i ls l e h =
    let t = then_some (λ k. option_map (λ ks. k ∷ ks) (literals_at c is)) (literal_at c j) ls e in
    let u = map_some (λ ks. t.0 ∷ ks) (literals_at c is) ls t.2 in
    ap (option_and_then (λ x. option_map (λ xs. x ∷ xs) (literals_at c (is ++ i ∷ [])))) t.1
    ∙ ap (option_map (λ xs. t.0 ∷ xs)) (numbers_more c is i u.0 l u.1 h)
    ∙ ap (λ (xs : List Lit). Some (xs ++ l ∷ [])) u.2

literal_there : (F : List Matrix) (i : ℕ) (l : Lit) → slice_get F i ≡ Some (lit l) → literal_at (facts_alone F) i ≡ Some l
literal_there F i l e = ap (option_and_then literal_of) e

literal_more : (F G : List Matrix) (i : ℕ) (l : Lit) → literal_at (facts_alone F) i ≡ Some l → literal_at (facts_alone (F ++ G)) i ≡ Some l
literal_more F G i l e =
    let t = then_some literal_of (slice_get F i) l e in
    ap (option_and_then literal_of) (got_left F G i t.0 t.1) ∙ t.2

literals_more : (F G : List Matrix) (is : List ℕ) (ls : List Lit) → literals_at (facts_alone F) is ≡ Some ls → literals_at (facts_alone (F ++ G)) is ≡ Some ls
literals_more F G [] ls e = e
literals_more F G (i ∷ is) ls e =
    let t = then_some (λ k. option_map (λ ks. k ∷ ks) (literals_at (facts_alone F) is)) (literal_at (facts_alone F) i) ls e in
    let u = map_some (λ ks. t.0 ∷ ks) (literals_at (facts_alone F) is) ls t.2 in
    ap (option_and_then (λ x. option_map (λ xs. x ∷ xs) (literals_at (facts_alone (F ++ G)) is))) (literal_more F G i t.0 t.1)
    ∙ ap (option_map (λ xs. t.0 ∷ xs)) (literals_more F G is u.0 u.1)
    ∙ ap (λ (xs : List Lit). Some xs) u.2

-- ---- nothing is chosen yet

pub chooses_none : (s : Sort) (w : WrittenSystem) (g : Goal) (c : Chosen) → c ≡ record { cube = []; numbers = []; defs = []; count = g.count } → Chooses s w g c
chooses_none s w g c e = subst (λ (x : Chosen). Chooses s w g x) (sym e) (record {
  chose = λ F n h. record {
    more = [];
    leads = subst (λ (G : List Matrix). Leads (rules_of s w) (facts_alone F ∷ []) [] (facts_alone G ∷ [])) (sym (append-nil F)) (leads_nothing (rules_of s w) (facts_alone F ∷ []));
    count = ap length (append-nil F) ∙ n;
    at = refl;
  };
  long = refl;
  from = λ l h. absurd h;
  once = λ l. omega arith;
  primitive = tt;
  below = tt;
})

-- ---- a literal of a part

primitive_more : (s : Sort) (c : List Lit) (l : Lit) → IsPrimitiveCube s c → IsKnown s l → IsPrimitiveCube s (c ++ l ∷ [])
primitive_more s [] l h k = (k.0, k.1, tt)
primitive_more s (x ∷ c) l h k = (h.0, h.1, primitive_more s c l h.2 k)

from_more : (sys : System) (t c : List Lit) (l k : Lit) → (IsAmong l c → IsAmong l (definition_literals sys.defs) ⊎ IsAmong l t) → IsAmong k (definition_literals sys.defs) ⊎ IsAmong k t → IsAmong l (c ++ k ∷ []) → IsAmong l (definition_literals sys.defs) ⊎ IsAmong l t
from_more sys t [] l k f h (inl e) = subst (λ (x : Lit). IsAmong x (definition_literals sys.defs) ⊎ IsAmong x t) (sym e) h
from_more sys t [] l k f h (inr j) = absurd j
from_more sys t (x ∷ c) l k f h (inl e) = f (inl e)
from_more sys t (x ∷ c) l k f h (inr j) = from_more sys t c l k (λ i. f (inr i)) h j

taken_there : (s : Sort) (w : WrittenSystem) (xs : List Part) (i : ℕ) (x : Part) (l : Lit) → slice_get xs i ≡ Some x → matrix_at s w x ≡ lit l → IsAmong l (literals_in (map (matrix_at s w) xs))
taken_there s w [] i x l e h = absurd (cc)
taken_there s w (y ∷ xs) zero x l e h = here (matrix_at s w y) (ap (matrix_at s w) (same y x e) ∙ h)
  where
    same : (a b : Part) → Some a ≡ Some b → a ≡ b
    same a b e = cc

    here : (m : Matrix) → m ≡ lit l → IsAmong l (literals_in (m ∷ map (matrix_at s w) xs))
    here m e = subst (λ (n : Matrix). IsAmong l (literals_in (n ∷ map (matrix_at s w) xs))) (sym e) (inl refl)
taken_there s w (y ∷ xs) (suc i) x l e h = behind (matrix_at s w y) (taken_there s w xs i x l e h)
  where
    behind : (m : Matrix) → IsAmong l (literals_in (map (matrix_at s w) xs)) → IsAmong l (literals_in (m ∷ map (matrix_at s w) xs))
    behind (lit k) j = inr j
    behind (all ms) j = j
    behind (some ms) j = j

pub stands_there : (s : Sort) (w : WrittenSystem) (F : List Matrix) (xs : List Part) (i : ℕ) (x : Part) → AllByRecursion (Stands s w F) xs → slice_get xs i ≡ Some x → Stands s w F x
stands_there s w F [] i x h e = absurd (cc)
stands_there s w F (y ∷ xs) zero x h e = subst (λ (z : Part). Stands s w F z) (same y x e) h.0
  where
    same : (a b : Part) → Some a ≡ Some b → a ≡ b
    same a b e = cc
stands_there s w F (y ∷ xs) (suc i) x h e = stands_there s w F xs i x h.1 e

new_part : (s : Sort) (w : WrittenSystem) (g : Goal) (i : ℕ) (x : Part) (old new : Chosen) → slice_get g.lits i ≡ Some x → Chooses s w g old → NewPart s w x old new → Chooses s w g new
new_part s w g i x old new e c n = subst (λ (z : Chosen). Chooses s w g z) (sym n.made) (record {
  chose = λ F k h.
      let a = c.chose F k h in
      record {
        more = a.more;
        leads = a.leads;
        count = a.count;
        at = numbers_more (facts_alone (F ++ a.more)) old.numbers x.number old.cube n.literal a.at
            (literal_there (F ++ a.more) x.number n.literal (got_left F a.more x.number (lit n.literal) (stands_there s w F g.lits i x h e ∙ ap (λ (m : Matrix). Some m) n.is)));
      };
  long = length-more old.numbers x.number ∙ ap suc c.long ∙ sym (length-more old.cube n.literal);
  from = λ l h. from_more (system_of s w) (taken_by s w g) old.cube l n.literal (c.from l) (inr (taken_there s w g.lits i x n.literal e n.is)) h;
  once = once_more old.cube n.literal c.once n.missing;
  primitive = primitive_more s old.cube n.literal c.primitive n.known;
  below = all_more (λ l. Below (system_of s w).count (form_of l)) old.cube n.literal c.below n.below;
})

pub part_chosen : (s : Sort) (w : WrittenSystem) (g : Goal) (i : ℕ) (x : Part) (old new : Chosen) → slice_get g.lits i ≡ Some x → Chooses s w g old → AddsPart s w x old new → Chooses s w g new
part_chosen s w g i x old new e c (inl h) = subst (λ (z : Chosen). Chooses s w g z) (sym h.0) c
part_chosen s w g i x old new e c (inr n) = new_part s w g i x old new e c n

pub first_more : (s : Sort) (w : WrittenSystem) (g : Goal) (n : ℕ) (x : Part) (old new : Chosen) → slice_get g.lits n ≡ Some x → HasFirst s w g n old.cube → AddsPart s w x old new → HasFirst s w g (n + 1) new.cube
first_more s w g n x old new e f (inl h) i y l k j m = elim (cases_lt i n) [
  | inl less ↦ subst (λ (z : Chosen). IsAmong l z.cube) (sym h.0) (f i y l less j m)
  | inr late ↦ subst (λ (z : Chosen). IsAmong l z.cube) (sym h.0) (h.1 l (ap (matrix_at s w) (same x y (sym e ∙ ap (slice_get g.lits) (equal i n k late) ∙ j)) ∙ m))
]
  where
    equal : (i n : ℕ) → i < n + 1 → n ≤ i → n ≡ i
    equal i n k late = omega arith

    same : (a b : Part) → Some a ≡ Some b → a ≡ b
    same a b e = cc
first_more s w g n x old new e f (inr h) i y l k j m = elim (cases_lt i n) [
  | inl less ↦ subst (λ (z : Chosen). IsAmong l z.cube) (sym h.made) (among_left l old.cube (h.literal ∷ []) (f i y l less j m))
  | inr late ↦ subst (λ (z : Chosen). IsAmong l z.cube) (sym h.made) (among_right l old.cube (h.literal ∷ []) (inl (leaf l h.literal (sym m ∙ ap (matrix_at s w) (sym (same x y (sym e ∙ ap (slice_get g.lits) (equal i n k late) ∙ j))) ∙ h.is))))
]
  where
    equal : (i n : ℕ) → i < n + 1 → n ≤ i → n ≡ i
    equal i n k late = omega arith

    same : (a b : Part) → Some a ≡ Some b → a ≡ b
    same a b e = cc

    leaf : (a b : Lit) → lit a ≡ lit b → a ≡ b
    leaf a b e = cc

-- ---- a literal of a definition

defined_there : (ds : List Definition) (v i : ℕ) (l : Lit) → option_and_then (literal_number i) (definition_at ds v) ≡ Some l → IsAmong l (definition_literals ds)
defined_there [] v i l e = absurd (cc)
defined_there (d ∷ ds) v i l e = by (nat_eq d.node v) e (λ h. defined_there ds v i l h)
  where
    one : (i : ℕ) → literal_number i d ≡ Some l → IsAmong l (definition_literals (d ∷ ds))
    one zero h = inl (same l d.upper (sym h))
      where
        same : (a b : Lit) → Some a ≡ Some b → a ≡ b
        same a b e = cc
    one (suc zero) h = inr (inl (same l d.lower (sym h)))
      where
        same : (a b : Lit) → Some a ≡ Some b → a ≡ b
        same a b e = cc
    one (suc (suc i)) h = absurd (cc)

    by : (t : Bool) → option_and_then (literal_number i) (if t then Some d else definition_at ds v) ≡ Some l → (option_and_then (literal_number i) (definition_at ds v) ≡ Some l → IsAmong l (definition_literals ds)) → IsAmong l (definition_literals (d ∷ ds))
    by true h f = one i h
    by false h f = inr (inr (f h))

new_definition : (s : Sort) (w : WrittenSystem) (g : Goal) (v i : ℕ) (old new : Chosen) → Chooses s w g old → NewDefinition s w v i old new → Chooses s w g new
new_definition s w g v i old new c n = subst (λ (z : Chosen). Chooses s w g z) (sym n.made) (record {
  chose = λ F k h.
      let a = c.chose F k h in
      let m = lit n.literal in
      let assoc = append_assoc F a.more (m ∷ []) in
      record {
        more = a.more ++ m ∷ [];
        leads = subst (λ (G : List Matrix). Leads (rules_of s w) (facts_alone F ∷ []) (old.defs ++ Def v i ∷ []) (facts_alone G ∷ [])) assoc
            (leads_then (rules_of s w) (facts_alone F ∷ []) (facts_alone (F ++ a.more) ∷ []) (facts_alone ((F ++ a.more) ++ m ∷ []) ∷ []) old.defs (Def v i ∷ []) a.leads (def_leads s w (F ++ a.more) v i n.literal n.is));
        count = ap length (sym assoc) ∙ length-more (F ++ a.more) m ∙ ap suc a.count;
        at = subst (λ (G : List Matrix). literals_at (facts_alone G) (old.numbers ++ old.count ∷ []) ≡ Some (old.cube ++ n.literal ∷ [])) assoc
            (numbers_more (facts_alone ((F ++ a.more) ++ m ∷ [])) old.numbers old.count old.cube n.literal (literals_more (F ++ a.more) (m ∷ []) old.numbers old.cube a.at)
            (literal_there ((F ++ a.more) ++ m ∷ []) old.count n.literal (ap (slice_get ((F ++ a.more) ++ m ∷ [])) (sym a.count) ∙ got_last (F ++ a.more) m)));
      };
  long = length-more old.numbers old.count ∙ ap suc c.long ∙ sym (length-more old.cube n.literal);
  from = λ l h. from_more (system_of s w) (taken_by s w g) old.cube l n.literal (c.from l) (inl (defined_there (system_of s w).defs v i n.literal n.is)) h;
  once = once_more old.cube n.literal c.once n.missing;
  primitive = primitive_more s old.cube n.literal c.primitive (definition_known s w v i n.literal n.is);
  below = all_more (λ l. Below (system_of s w).count (form_of l)) old.cube n.literal c.below n.below;
})

pub definition_chosen : (s : Sort) (w : WrittenSystem) (g : Goal) (v i : ℕ) (old new : Chosen) → Chooses s w g old → AddsDefinition s w v i old new → Chooses s w g new
definition_chosen s w g v i old new c (inl h) = subst (λ (z : Chosen). Chooses s w g z) (sym h.0) c
definition_chosen s w g v i old new c (inr n) = new_definition s w g v i old new c n

-- what was there stays
pub stays : (s : Sort) (w : WrittenSystem) (v i : ℕ) (old new : Chosen) (l : Lit) → AddsDefinition s w v i old new → IsAmong l old.cube → IsAmong l new.cube
stays s w v i old new l (inl h) k = subst (λ (z : Chosen). IsAmong l z.cube) (sym h.0) k
stays s w v i old new l (inr n) k = subst (λ (z : Chosen). IsAmong l z.cube) (sym n.made) (among_left l old.cube (n.literal ∷ []) k)

pub first_stays : (s : Sort) (w : WrittenSystem) (g : Goal) (m v i : ℕ) (old new : Chosen) → AddsDefinition s w v i old new → HasFirst s w g m old.cube → HasFirst s w g m new.cube
first_stays s w g m v i old new a f j x l k e h = stays s w v i old new l a (f j x l k e h)

added : (s : Sort) (w : WrittenSystem) (v i : ℕ) (old new : Chosen) (l : Lit) → AddsDefinition s w v i old new → definition_literal s w v i ≡ Some l → IsAmong l new.cube
added s w v i old new l (inl h) e = subst (λ (z : Chosen). IsAmong l z.cube) (sym h.0) (h.1 l e)
added s w v i old new l (inr n) e =
    subst (λ (z : Chosen). IsAmong l z.cube) (sym n.made) (among_right l old.cube (n.literal ∷ []) (inl (same l n.literal (sym e ∙ n.is))))
  where
    same : (a b : Lit) → Some a ≡ Some b → a ≡ b
    same a b e = cc

-- both literals of a node
pub nodes_more : (s : Sort) (w : WrittenSystem) (n : ℕ) (old between new : Chosen) → AddsDefinition s w n 0 old between → AddsDefinition s w n 1 between new → HasNodes (system_of s w) n old.cube → HasNodes (system_of s w) (n + 1) new.cube
nodes_more s w n old between new a b h v k = elim (cases_lt v n) [
  | inl less ↦ kept (definition_at (system_of s w).defs v) (h v less)
  | inr late ↦ subst (λ (j : ℕ). HasNode (system_of s w) j new.cube) (equal v n k late) (here (definition_at (system_of s w).defs n) refl)
]
  where
    equal : (v n : ℕ) → v < n + 1 → n ≤ v → n ≡ v
    equal v n k late = omega arith

    kept : (o : Option Definition) → IfSome o (λ d. IsAmong d.upper old.cube × IsAmong d.lower old.cube) → IfSome o (λ d. IsAmong d.upper new.cube × IsAmong d.lower new.cube)
    kept None j = j
    kept (Some d) j = (stays s w n 1 between new d.upper b (stays s w n 0 old between d.upper a j.0), stays s w n 1 between new d.lower b (stays s w n 0 old between d.lower a j.1))

    here : (o : Option Definition) → definition_at (system_of s w).defs n ≡ o → IfSome o (λ d. IsAmong d.upper new.cube × IsAmong d.lower new.cube)
    here None e = tt
    here (Some d) e = (
      stays s w n 1 between new d.upper b (added s w n 0 old between d.upper a (ap (option_and_then (literal_number 0)) e)),
      added s w n 1 between new d.lower b (ap (option_and_then (literal_number 1)) e),
    )

-- ---- where all chosen literals hold

pub all_defined : (s : Sort) (w : WrittenSystem) (cube : List Lit) (p : Point) → HasNodes (system_of s w) (system_of s w).count cube → CubeHolds cube p → AllDefined (system_of s w).defs p
all_defined s w cube p h k =
    (all_nodes (skeleton_of w.tree) s p (system_of s w).count (omega arith) (λ v j. node (definition_at (system_of s w).defs v) (h v j))).0 refl
  where
    node : (o : Option Definition) → IfSome o (λ d. IsAmong d.upper cube × IsAmong d.lower cube) → IfSome o (BothHold p)
    node None i = i
    node (Some d) i = (holds_among cube p d.upper k i.0, holds_among cube p d.lower k i.1)

-- a literal that is taken is one of a part
pub record Found (s : Sort) (w : WrittenSystem) (xs : List Part) (l : Lit) : Type 0 where
  pub place : ℕ
  pub part : Part
  pub there : slice_get xs place ≡ Some part
  pub is : matrix_at s w part ≡ lit l
  pub within : place < length xs

pub found : (s : Sort) (w : WrittenSystem) (xs : List Part) (l : Lit) → IsAmong l (literals_in (map (matrix_at s w) xs)) → Found s w xs l
found s w [] l h = absurd h
found s w (x ∷ xs) l h = by (matrix_at s w x) refl h (λ j. found s w xs l j)
  where
    later : Found s w xs l → Found s w (x ∷ xs) l
    later r = record { place = suc r.place; part = r.part; there = r.there; is = r.is; within = next r.place (length xs) r.within }
      where
        next : (a b : ℕ) → a < b → suc a < suc b
        next a b h = omega arith

    by : (m : Matrix) → matrix_at s w x ≡ m → IsAmong l (literals_in (m ∷ map (matrix_at s w) xs)) → (IsAmong l (literals_in (map (matrix_at s w) xs)) → Found s w xs l) → Found s w (x ∷ xs) l
    by (lit k) e (inl q) f = record { place = 0; part = x; there = refl; is = e ∙ ap lit (sym q); within = positive (length xs) }
      where
        positive : (n : ℕ) → 0 < suc n
        positive n = omega arith
    by (lit k) e (inr j) f = later (f j)
    by (all ms) e j f = later (f j)
    by (some ms) e j f = later (f j)

pub taken_holds : (s : Sort) (w : WrittenSystem) (g : Goal) (cube : List Lit) (p : Point) → HasFirst s w g (length g.lits) cube → CubeHolds cube p → (l : Lit) → IsAmong l (taken_by s w g) → Holds l p
taken_holds s w g cube p f h l k =
    let r = found s w g.lits l k in
    holds_among cube p l h (f r.place r.part l r.within r.there r.is)

-- ---- a literal among those that are there

all_dropped : {A : Type 0} (xs : List A) → drop 0 xs ≡ xs
all_dropped {A} [] = refl
all_dropped {A} (x ∷ xs) = refl

pub has_none : (l : Lit) (xs : List Lit) → IsAmong l xs → IsAmong l (drop 0 xs)
has_none l xs h = subst (λ (ys : List Lit). IsAmong l ys) (sym (all_dropped xs)) h

pub has_more : (l x : Lit) (xs : List Lit) (i : ℕ) (t : Bool) → i < length xs → x ≡ get_or xs i x → (IsTrue t ↔ (l ≡ x)) → t ≡ false → (IsAmong l xs → IsAmong l (drop i xs)) → IsAmong l xs → IsAmong l (drop (i + 1) xs)
has_more l x xs i t h e q f k j = by (subst (λ (ys : List Lit). IsAmong l ys) (split_at xs i x h e) (k j))
  where
    by : IsAmong l (x ∷ drop (i + 1) xs) → IsAmong l (drop (i + 1) xs)
    by (inl u) = let v : t ≡ true = q.1 u in absurd (two v)
      where
        two : t ≡ true → ⊥
        two v = let w : true ≡ false = sym v ∙ f in cc
    by (inr u) = u

among_at : (x : Lit) (xs : List Lit) (i : ℕ) → i < length xs → x ≡ get_or xs i x → IsAmong x xs
among_at x xs i h e = subst (λ (y : Lit). IsAmong y xs) (sym e) (at xs i x h)
  where
    at : (xs : List Lit) (i : ℕ) (d : Lit) → i < length xs → IsAmong (get_or xs i d) xs
    at [] i d h = absurd (omega arith)
    at (y ∷ xs) zero d h = inl refl
    at (y ∷ xs) (suc i) d h = inr (at xs i d (omega arith))

pub has_found : (l x : Lit) (xs : List Lit) (i : ℕ) (t : Bool) → i < length xs → x ≡ get_or xs i x → (IsTrue t ↔ (l ≡ x)) → t ≡ true → IsTrue true ↔ IsAmong l xs
has_found l x xs i t h e q f = (λ u. subst (λ (y : Lit). IsAmong y xs) (sym (q.0 f)) (among_at x xs i h e), λ u. refl)

pub has_not : (l : Lit) (xs : List Lit) (i : ℕ) → length xs ≤ i → (IsAmong l xs → IsAmong l (drop i xs)) → IsTrue false ↔ IsAmong l xs
has_not l xs i h k = (λ u. absurd (cc), λ u. absurd (gone xs i h (k u)))
  where
    gone : (xs : List Lit) (i : ℕ) → length xs ≤ i → IsAmong l (drop i xs) → ⊥
    gone [] zero h k = k
    gone [] (suc i) h k = k
    gone (x ∷ xs) zero h k = absurd (omega arith)
    gone (x ∷ xs) (suc i) h k = gone xs i (omega arith) k

-- ---- what the calls add

pub missing_from : (l : Lit) (c : List Lit) (t : Bool) → (IsTrue t ↔ IsAmong l c) → t ≡ false → ¬ IsAmong l c
missing_from l c t q f k = let v : t ≡ true = q.1 k in let w : true ≡ false = sym v ∙ f in absurd (cc)

pub part_added : (s : Sort) (w : WrittenSystem) (x : Part) (l : Lit) (old new : Chosen) → matrix_at s w x ≡ lit l → IsKnown s l → Below (system_of s w).count (form_of l) → AddsLiteral l x.number old new → AddsPart s w x old new
part_added s w x l old new e k b (inl h) = inl (h.0, λ k q. subst (λ (y : Lit). IsAmong y old.cube) (same l k (sym e ∙ q)) h.1)
  where
    same : (a b : Lit) → lit a ≡ lit b → a ≡ b
    same a b e = cc
part_added s w x l old new e k b (inr h) = inr (record { literal = l; is = e; missing = h.0; known = k; below = b; made = h.1 })

pub no_literal_and : (s : Sort) (w : WrittenSystem) (x : Part) (ts : List Tree) (c : Chosen) → x.matrix.now ≡ And ts → AddsPart s w x c c
no_literal_and s w x ts c e = inl (refl, λ l q. absurd (two (children_of s w x ts) l (sym (disjunction_at s w x ts e) ∙ q)))
  where
    two : (ms : Matrices) (l : Lit) → some ms ≡ lit l → ⊥
    two ms l h = cc

pub no_literal_or : (s : Sort) (w : WrittenSystem) (x : Part) (ts : List Tree) (c : Chosen) → x.matrix.now ≡ Or ts → AddsPart s w x c c
no_literal_or s w x ts c e = inl (refl, λ l q. absurd (two (children_of s w x ts) l (sym (conjunction_at s w x ts e) ∙ q)))
  where
    two : (ms : Matrices) (l : Lit) → all ms ≡ lit l → ⊥
    two ms l h = cc

pub no_definition : (s : Sort) (w : WrittenSystem) (v i : ℕ) (c : Chosen) → None ≡ definition_literal s w v i → AddsDefinition s w v i c c
no_definition s w v i c e = inl (refl, λ l q. absurd (two l (e ∙ q)))
  where
    two : (l : Lit) → None ≡ Some l → ⊥
    two l h = cc

pub definition_there : (s : Sort) (w : WrittenSystem) (v i : ℕ) (l : Lit) (c : Chosen) → Some l ≡ definition_literal s w v i → IsAmong l c.cube → AddsDefinition s w v i c c
definition_there s w v i l c e h = inl (refl, λ k q. subst (λ (y : Lit). IsAmong y c.cube) (same l k (e ∙ q)) h)
  where
    same : (a b : Lit) → Some a ≡ Some b → a ≡ b
    same a b e = cc

pub definition_added : (s : Sort) (w : WrittenSystem) (v i : ℕ) (l : Lit) (old new : Chosen) → Some l ≡ definition_literal s w v i → IsSkeleton s (problem_of w.problem) (skeleton_of w.tree) → ¬ IsAmong l old.cube → new ≡ with_definition old v i l → AddsDefinition s w v i old new
definition_added s w v i l old new e k m q = inr (record { literal = l; is = sym e; missing = m; below = literal_below (skeleton_of w.tree) s w.problem.prefix v i l k.follows e; made = q })

-- ---- parts by their places

pub at_place : {A : Type 0} (xs : List A) (i : ℕ) (x : A) → i < length xs → x ≡ get_or xs i x → slice_get xs i ≡ Some x
at_place {A} xs i x h e = got_or xs i x h ∙ ap (λ (y : A). Some y) (sym e)

pub all_at : {A : Type 0} (P : A → Type 0) (xs : List A) (i : ℕ) (x : A) → i < length xs → x ≡ get_or xs i x → AllByRecursion P xs → P x
all_at {A} P xs i x h e k = subst P (sym e) (at xs i x h k)
  where
    at : (xs : List A) (i : ℕ) (d : A) → i < length xs → AllByRecursion P xs → P (get_or xs i d)
    at [] i d h k = absurd (omega arith)
    at (y ∷ xs) zero d h k = k.0
    at (y ∷ xs) (suc i) d h k = at xs i d (omega arith) k.1

pub first_none : (s : Sort) (w : WrittenSystem) (g : Goal) (cube : List Lit) → HasFirst s w g 0 cube
first_none s w g cube i x l h e q = absurd (omega arith)

pub first_all : (s : Sort) (w : WrittenSystem) (g : Goal) (n : ℕ) (cube : List Lit) → length g.lits ≤ n → HasFirst s w g n cube → HasFirst s w g (length g.lits) cube
first_all s w g n cube h f i x l k e q = f i x l (omega arith) e q

pub nodes_none : (sys : System) (cube : List Lit) → HasNodes sys 0 cube
nodes_none sys cube v h = absurd (omega arith)

pub if_some : {A : Type 0} (P : A → Type 0) (o : Option A) (x : A) → o ≡ Some x → IfSome o P → P x
if_some {A} P o x e h = subst (λ (p : Option A). IfSome p P) e h

-- a list that is the same one
pub in_place : {A : Type 0} (ys xs : List A) (i : ℕ) → ys ≡ xs → i < length ys → i < length xs
in_place {A} ys xs i e h = subst (λ (zs : List A). i < length zs) e h

pub there_too : {A : Type 0} (ys xs : List A) (i : ℕ) (x : A) → ys ≡ xs → x ≡ get_or ys i x → x ≡ get_or xs i x
there_too {A} ys xs i x e h = subst (λ (zs : List A). x ≡ get_or zs i x) e h

pub not_more : {A : Type 0} (ys xs : List A) (i : ℕ) → ys ≡ xs → length ys ≤ i → length xs ≤ i
not_more {A} ys xs i e h = subst (λ (zs : List A). length zs ≤ i) e h

pub nodes_all : (sys : System) (n m : ℕ) (cube : List Lit) → m ≤ n → HasNodes sys n cube → HasNodes sys m cube
nodes_all sys n m cube h k v l = k v (omega arith)

pub chooses_start : (s : Sort) (w : WrittenSystem) (g : Goal) (cube : List Lit) (numbers : List ℕ) (defs : List Step) → cube ≡ [] → numbers ≡ [] → defs ≡ [] → Chooses s w g (record { cube = cube; numbers = numbers; defs = defs; count = g.count })
chooses_start s w g cube numbers defs e f h =
    subst (λ (xs : List Lit). Chooses s w g (record { cube = xs; numbers = numbers; defs = defs; count = g.count })) (sym e)
    (subst (λ (xs : List ℕ). Chooses s w g (record { cube = []; numbers = xs; defs = defs; count = g.count })) (sym f)
    (subst (λ (xs : List Step). Chooses s w g (record { cube = []; numbers = []; defs = xs; count = g.count })) (sym h)
    (chooses_none s w g (record { cube = []; numbers = []; defs = []; count = g.count }) refl)))
