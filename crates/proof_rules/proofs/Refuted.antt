-- A refuted losing system has no solution, and then the problem is true.
use Rattle.std.specs.Prelude.{ℕ, zero, suc, ◌+◌, ◌≡◌, Bool, true, false, not, nat_eq, Option, Some, option_and_then, option_map, slice_get, List, [], ◌∷◌, ◌++◌, map, length, ⊤}
use Rattle.std.proofs.Common.{subst, cond}
use Rattle.lin_term.specs.declared.Sort.{Sort}
use Rattle.lin_term.specs.declared.Sort.TheVariants.{Rat, Int}
use Rattle.lin_term.specs.declared.Lit.{Lit}
use Rattle.lin_term.specs.declared.Lit.TheVariants.{AtLeast, Above, Divides, NotDivides}
use Rattle.lin_term.specs.Linear.{Point, IsPoint}
use Rattle.lin_term.specs.Literal.{IsOf, rename_lit}
use Rattle.lin_term.specs.Move.{Move}
use Rattle.lin_term.specs.Definition.{Definition, rename_move, upper_literal, lower_literal}
use Rattle.dom_core.specs.Game.{Matrix, lit, all, some, Matrices, none, more, HoldsIn, IsMatrix, AreMatrices, neg_matrix, rename_matrix, rename_matrices, Problem, TrueP}
use Rattle.dom_core.proofs.Renaming.{neg_is_matrix}
use Rattle.game_tree.specs.Skeleton.{Skeleton, end, theirs, mine, Branches, no_more, branch, nodes, Follows}
use Rattle.lose_system.specs.Losing.{definitions, branch_definitions, routes, System, system, literal_number, definition_at, AllDefined, AllLose, Solves, Lost}
use Rattle.lose_system.proofs.Play.{lost_is_true}
use Rattle.cube_rules.specs.declared.Step.{Step}
use Rattle.cube_rules.specs.declared.Step.TheVariants.{Path, Def, Part, Cases, Sum, Split, Cube, Least, Learn, False}
use Rattle.cube_rules.specs.Context.{Context, open_context}
use Rattle.cube_rules.specs.Limits.{is_within}
use Rattle.cube_rules.specs.Lines.{goes_on}
use Rattle.cube_rules.proofs.Sound.{guard_some, map_some, then_some, some_same, OfSort, EachOfSort, Fact, Facts, NoneHolds, one_left, cube_step_sound, tree_sound}
use Rattle.proof_rules.specs.Rules.{path_line, def_line, rule_line, apply, Refutes}

-- ---- what is cited is of the sort

renamed_of : (s : Sort) (names : List ℕ) (l : Lit) → IsOf s l → IsOf s (rename_lit names l)
renamed_of Rat names (AtLeast f) o = o
renamed_of Rat names (Above f) o = o
renamed_of Rat names (Divides d f) o = o
renamed_of Rat names (NotDivides d f) o = o
renamed_of Int names (AtLeast f) o = o
renamed_of Int names (Above f) o = o
renamed_of Int names (Divides d f) o = o
renamed_of Int names (NotDivides d f) o = o

mutual
  matrix_of_sort : (m : Matrix) (s : Sort) (n : ℕ) (names : List ℕ) → IsMatrix m s n → OfSort (rename_matrix m names) s
  matrix_of_sort (lit l) s n names o = renamed_of s names l o.0
  matrix_of_sort (all ms) s n names o = matrices_of_sort ms s n names o
  matrix_of_sort (some ms) s n names o = matrices_of_sort ms s n names o

  matrices_of_sort : (ms : Matrices) (s : Sort) (n : ℕ) (names : List ℕ) → AreMatrices ms s n → EachOfSort (rename_matrices ms names) s
  matrices_of_sort none s n names o = tt
  matrices_of_sort (more m ms) s n names o = (matrix_of_sort m s n names o.0, matrices_of_sort ms s n names o.1)

EachPath : Sort → List Matrix → Type 0
EachPath s ms = (k : ℕ) (m : Matrix) → slice_get ms k ≡ Some m → OfSort m s

routes_of_sort : (m : Matrix) (s : Sort) (n : ℕ) → IsMatrix m s n → (rs : List (List ℕ)) (k : ℕ) (x : Matrix) → slice_get (map (rename_matrix m) rs) k ≡ Some x → OfSort x s
routes_of_sort m s n o [] k x e = absurd (cc)
routes_of_sort m s n o (r ∷ rs) zero x e =
    subst (λ (y : Matrix). OfSort y s) (some_same (rename_matrix m r) x e) (matrix_of_sort m s n r o)
routes_of_sort m s n o (r ∷ rs) (suc k) x e = routes_of_sort m s n o rs k x e

-- definitions whose literals are of the sort
abbrev DefinedOf : Sort → List Definition → Type 0
DefinedOf s [] = ⊤
DefinedOf s (d ∷ ds) = IsOf s d.upper × IsOf s d.lower × DefinedOf s ds

defined_of-append : (s : Sort) (ds es : List Definition) → DefinedOf s ds → DefinedOf s es → DefinedOf s (ds ++ es)
defined_of-append s [] es a b = b
defined_of-append s (d ∷ ds) es a b = (a.0, a.1, defined_of-append s ds es a.2 b)

upper_of : (s : Sort) (m : Move) (v : ℕ) → IsOf s (upper_literal s m v)
upper_of Rat m v = tt
upper_of Int m v = tt

lower_of : (s : Sort) (m : Move) (v : ℕ) → IsOf s (lower_literal s m v)
lower_of Rat m v = tt
lower_of Int m v = tt

mutual
  definitions_of_sort : (S : Skeleton) (s : Sort) (names : List ℕ) (v : ℕ) → DefinedOf s (definitions S s names v)
  definitions_of_sort end s names v = tt
  definitions_of_sort (theirs t) s names v = definitions_of_sort t s (names ++ v ∷ []) (suc v)
  definitions_of_sort (mine bs) s names v = branches_of_sort bs s names v

  branches_of_sort : (bs : Branches) (s : Sort) (names : List ℕ) (v : ℕ) → DefinedOf s (branch_definitions bs s names v)
  branches_of_sort no_more s names v = tt
  branches_of_sort (branch m t bs) s names v =
      (upper_of s (rename_move names m) v, lower_of s (rename_move names m) v, defined_of-append s (definitions t s (names ++ v ∷ []) (suc v)) (branch_definitions bs s names (suc v + nodes t)) (definitions_of_sort t s (names ++ v ∷ []) (suc v)) (branches_of_sort bs s names (suc v + nodes t)))

-- ---- the two rules that cite the system

lose_get : (ms : List Matrix) (i : ℕ) (m : Matrix) (p : Point) → AllLose ms p → slice_get ms i ≡ Some m → HoldsIn m p
lose_get [] i m p h e = absurd (cc)
lose_get (n ∷ ms) zero m p h e = subst (λ (x : Matrix). HoldsIn x p) (some_same n m e) h.0
lose_get (n ∷ ms) (suc i) m p h e = lose_get ms i m p h.1 e

number_holds : (s : Sort) (p : Point) (d : Definition) (i : ℕ) (l : Lit) → Fact s p (lit d.upper) → Fact s p (lit d.lower) → literal_number i d ≡ Some l → Fact s p (lit l)
number_holds s p d zero l a b e = subst (λ (x : Lit). Fact s p (lit x)) (some_same d.upper l e) a
number_holds s p d (suc zero) l a b e = subst (λ (x : Lit). Fact s p (lit x)) (some_same d.lower l e) b
number_holds s p d (suc (suc i)) l a b e = absurd (cc)

either_definition : (b : Bool) (x d : Definition) (o : Option Definition) (P : Definition → Type 0) → P x → (o ≡ Some d → P d) → cond b (Some x) o ≡ Some d → P d
either_definition true x d o P h k e = subst P (some_same x d e) h
either_definition false x d o P h k e = k e

definition_holds : (s : Sort) (p : Point) (ds : List Definition) (v : ℕ) (d : Definition) → DefinedOf s ds → AllDefined ds p → definition_at ds v ≡ Some d → Fact s p (lit d.upper) × Fact s p (lit d.lower)
definition_holds s p [] v d o h e = absurd (cc)
definition_holds s p (x ∷ ds) v d o h e =
    either_definition (nat_eq x.node v) x d (definition_at ds v) (λ y. Fact s p (lit y.upper) × Fact s p (lit y.lower))
    (record { of_sort = o.0; holds = h.0 }, record { of_sort = o.1; holds = h.1 })
    (λ f. definition_holds s p ds v d o.2 h.2 f) e

-- what is known of a losing system at a point that would solve it
record Known (s : Sort) (sys : System) (p : Point) : Type 0 where
  point : IsPoint s p
  defined : AllDefined sys.defs p
  lose : AllLose sys.paths p
  defined_of : DefinedOf s sys.defs
  paths_of : EachPath s sys.paths

path_sound : (s : Sort) (sys : System) (c : Context) (k : ℕ) (ks : List Context) (p : Point) → Known s sys p → Facts s p c.facts → path_line sys c k ≡ Some ks → NoneHolds s p ks → ⊥
unfolding EachPath
path_sound s sys c k ks p h f e n =
    let g = guard_some (not c.bare) (option_map (goes_on c) (slice_get sys.paths k)) ks e in
    let m = map_some (goes_on c) (slice_get sys.paths k) ks g.1 in
    one_left s p ks c m.0 m.2 f (record { of_sort = h.paths_of k m.0 m.1; holds = lose_get sys.paths k m.0 p h.lose m.1 }) n

def_sound : (s : Sort) (sys : System) (c : Context) (v i : ℕ) (ks : List Context) (p : Point) → Known s sys p → Facts s p c.facts → def_line sys c v i ≡ Some ks → NoneHolds s p ks → ⊥
def_sound s sys c v i ks p h f e n =
    let g = guard_some (not c.bare) (option_map (λ l. goes_on c (lit l)) (option_and_then (literal_number i) (definition_at sys.defs v))) ks e in
    let m = map_some (λ l. goes_on c (lit l)) (option_and_then (literal_number i) (definition_at sys.defs v)) ks g.1 in
    let t = then_some (literal_number i) (definition_at sys.defs v) m.0 m.1 in
    let d = definition_holds s p sys.defs v t.0 h.defined_of h.defined t.1 in
    one_left s p ks c (lit m.0) m.2 f (number_holds s p t.0 i m.0 d.0 d.1 t.2) n

line_sound : (s : Sort) (sys : System) (c : Context) (l : Step) (ks : List Context) (p : Point) → Known s sys p → Facts s p c.facts → rule_line s sys c l ≡ Some ks → NoneHolds s p ks → ⊥
line_sound s sys c (Path k) ks p h f e n = path_sound s sys c k ks p h f e n
line_sound s sys c (Def v i) ks p h f e n = def_sound s sys c v i ks p h f e n
line_sound s sys c (Part a i) ks p h f e n = cube_step_sound s sys.count c (Part a i) ks p h.point f e n
line_sound s sys c (Cases a i) ks p h f e n = cube_step_sound s sys.count c (Cases a i) ks p h.point f e n
line_sound s sys c (Sum x a y b g) ks p h f e n =
    cube_step_sound s sys.count c (Sum x a y b g) ks p h.point f e n
line_sound s sys c (Split l) ks p h f e n = cube_step_sound s sys.count c (Split l) ks p h.point f e n
line_sound s sys c (Cube is) ks p h f e n = cube_step_sound s sys.count c (Cube is) ks p h.point f e n
line_sound s sys c (Least v k) ks p h f e n = cube_step_sound s sys.count c (Least v k) ks p h.point f e n
line_sound s sys c (Learn ls) ks p h f e n = cube_step_sound s sys.count c (Learn ls) ks p h.point f e n
line_sound s sys c (False a) ks p h f e n = cube_step_sound s sys.count c (False a) ks p h.point f e n

-- ---- whole proofs

known_of : (s : Sort) (P : Problem) (S : Skeleton) (p : Point) → IsMatrix P.matrix s (length P.prefix) → Solves s (system s P S) p → Known s (system s P S) p
unfolding EachPath
known_of s P S p o h = record {
  point = h.point;
  defined = h.defined;
  lose = h.lose;
  defined_of = definitions_of_sort S s [] 0;
  paths_of = routes_of_sort (neg_matrix P.matrix s) s (length P.prefix) (neg_is_matrix P.matrix s (length P.prefix) o) (routes S [] 0);
}

-- what a proof refutes is lost for the other player
pub refuted_is_lost : (s : Sort) (P : Problem) (S : Skeleton) (proof : List Step) → IsMatrix P.matrix s (length P.prefix) → Refutes s P S proof → Lost s P S
refuted_is_lost s P S proof o r p h =
    tree_sound r.tree s p (apply s (system s P S)) open_context
    (λ c l ks f e n.
    let g = guard_some (is_within l) (rule_line s (system s P S) c l) ks e in
    line_sound s (system s P S) c l ks p (known_of s P S p o h) f g.1 n)
    r.closes tt

-- a problem with a refuted skeleton is true
pub refuted_is_true : (s : Sort) (P : Problem) (S : Skeleton) (proof : List Step) → IsMatrix P.matrix s (length P.prefix) → Follows S s P.prefix 0 → Refutes s P S proof → TrueP s P
refuted_is_true s P S proof o f r = lost_is_true s P S o f (refuted_is_lost s P S proof o r)
