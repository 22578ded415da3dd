-- The parts of a fact, and the parts of the matrix that it stands for.
use Rattle.std.specs.Prelude.{ℕ, zero, suc, ◌≡◌, ◌≢◌, Bool, true, false, nat_eq, Option, Some, None, option_map, option_and_then, slice_get, Result, Ok, Err, IfOk, List, [], ◌∷◌, length}
use Rattle.std.specs.Option.{option_copied}
use Rattle.std.proofs.lemmas.Bool.{eqb-true}
use Rattle.std.proofs.Common.{ap, ◌∙◌, sym, subst, refl, Bor}
use Rattle.lin_term.specs.declared.Sort.{Sort}
use Rattle.lin_term.specs.declared.Lit.{Lit}
use Rattle.dom_core.specs.declared.Matrix.{Matrix as Tree, Lit as Leaf, And, Or, map-Matrix, fold_out-Matrix}
use Rattle.dom_core.specs.declared.Matrix.TheVariants.{outs-Lit, outs-And, outs-Or}
use Rattle.dom_core.specs.declared.Matrix.TheOpen.{Matrix-F}
use Rattle.dom_core.specs.Game.{Matrix, lit, all, some, Matrices, none, more, IsMatrix, AreMatrices}
use Rattle.dom_core.specs.Problem.{HasNegations, HaveNegations}
use Rattle.dom_core.specs.View.{matrix_of, matrices_of, matrix_step}
use Rattle.lose_system.specs.Written.{WrittenSystem}
use Rattle.cube_rules.specs.Context.{Context}
use Rattle.cube_rules.specs.Facts.{child, count, guard, and_child, or_children}
use Rattle.cube_rules.specs.Lines.{cases_line, each_child, leaves}
use Rattle.proof_rules.specs.Held.{part_on, parts_on, or_part, and_parts, IsFact}
use Rattle.proof_rules.specs.declared.fact.Fact.{Fact}
use Rattle.proof_rules.specs.declared.fact.Fact.TheVariants.{OnPath}

pub matrix_and : (ts : List Tree) → matrix_of (And ts) ≡ all (matrices_of ts)
matrix_and ts =
    fold_out-Matrix Matrix matrix_step (And ts) ∙ ap (λ (d : Matrix-F Tree). matrix_step (map-Matrix Tree Matrix matrix_of d)) (outs-And ts)

pub matrix_or : (ts : List Tree) → matrix_of (Or ts) ≡ some (matrices_of ts)
matrix_or ts =
    fold_out-Matrix Matrix matrix_step (Or ts) ∙ ap (λ (d : Matrix-F Tree). matrix_step (map-Matrix Tree Matrix matrix_of d)) (outs-Or ts)

pub matrix_lit : (l : Lit) → matrix_of (Leaf l) ≡ lit l
matrix_lit l =
    fold_out-Matrix Matrix matrix_step (Leaf l) ∙ ap (λ (d : Matrix-F Tree). matrix_step (map-Matrix Tree Matrix matrix_of d)) (outs-Lit l)

pub child_at : (ts : List Tree) (i : ℕ) → child (matrices_of ts) i ≡ option_map matrix_of (slice_get ts i)
child_at [] i = refl
child_at (t ∷ ts) zero = refl
child_at (t ∷ ts) (suc i) = child_at ts i

pub seen_copied : (o : Option (Bor Tree)) → option_map (λ x. matrix_of x.now) o ≡ option_map matrix_of (option_copied o)
seen_copied None = refl
seen_copied (Some x) = refl

pub part_of_or : (ts : List Tree) (i : ℕ) (o : Option (Bor Tree)) (m : Tree) → option_copied o ≡ slice_get ts i → m ≡ Or ts → option_map (λ x. matrix_of x.now) o ≡ or_part i (matrix_of m)
part_of_or ts i o m e f =
    seen_copied o ∙ ap (option_map matrix_of) e ∙ sym (ap (or_part i) (ap matrix_of f ∙ matrix_or ts) ∙ child_at ts i)

-- ---- parts on a path

child_on : (s : Sort) (w : WrittenSystem) (k : ℕ) (ms : Matrices) (i : ℕ) → child (parts_on s w k ms) i ≡ option_map (part_on s w k) (child ms i)
child_on s w k none i = refl
child_on s w k (more m ms) zero = refl
child_on s w k (more m ms) (suc i) = child_on s w k ms i

pub and_child_on : (s : Sort) (w : WrittenSystem) (k i : ℕ) (m : Matrix) → and_child i (part_on s w k m) ≡ option_map (part_on s w k) (or_part i m)
and_child_on s w k i (lit l) = refl
and_child_on s w k i (all ms) = refl
and_child_on s w k i (some ms) = child_on s w k ms i

pub or_children_on : (s : Sort) (w : WrittenSystem) (k : ℕ) (m : Matrix) → or_children (part_on s w k m) ≡ option_map (parts_on s w k) (and_parts m)
or_children_on s w k (lit l) = refl
or_children_on s w k (all ms) = refl
or_children_on s w k (some ms) = refl

pub count_on : (s : Sort) (w : WrittenSystem) (k : ℕ) (ms : Matrices) → count (parts_on s w k ms) ≡ count ms
count_on s w k none = refl
count_on s w k (more m ms) = ap suc (count_on s w k ms)

pub count_is : (ts : List Tree) → count (matrices_of ts) ≡ length ts
count_is [] = refl
count_is (t ∷ ts) = ap suc (count_is ts)

some_same : {A : Type 0} (x y : A) → Some x ≡ Some y → x ≡ y
some_same x y e = cc

child_kept : (s : Sort) (n : ℕ) (ms : Matrices) (i : ℕ) (m : Matrix) → AreMatrices ms s n → HaveNegations ms s → child ms i ≡ Some m → IsMatrix m s n × HasNegations m s
child_kept s n none i m o k e = absurd (cc)
child_kept s n (more x ms) zero m o k e = subst (λ (y : Matrix). IsMatrix y s n × HasNegations y s) (some_same x m e) (o.0, k.0)
child_kept s n (more x ms) (suc i) m o k e = child_kept s n ms i m o.1 k.1 e

pub or_part_kept : (s : Sort) (n i : ℕ) (m x : Matrix) → IsMatrix m s n → HasNegations m s → or_part i m ≡ Some x → IsMatrix x s n × HasNegations x s
or_part_kept s n i (lit l) x o k e = absurd (cc)
or_part_kept s n i (all ms) x o k e = absurd (cc)
or_part_kept s n i (some ms) x o k e = child_kept s n ms i x o k e

pub and_parts_kept : (s : Sort) (n : ℕ) (m : Matrix) (ms : Matrices) → IsMatrix m s n → HasNegations m s → and_parts m ≡ Some ms → AreMatrices ms s n × HaveNegations ms s
and_parts_kept s n (lit l) ms o k e = absurd (cc)
and_parts_kept s n (some xs) ms o k e = absurd (cc)
and_parts_kept s n (all xs) ms o k e = subst (λ (y : Matrices). AreMatrices y s n × HaveNegations y s) (some_same xs ms e) (o, k)

pub differ : (a b : ℕ) → a ≢ b → nat_eq a b ≡ false
differ a b n = by (nat_eq a b) refl
  where
    by : (c : Bool) → nat_eq a b ≡ c → c ≡ false
    by false e = refl
    by true e = absurd (n (eqb-true a b e))

pub cases_on : (s : Sort) (w : WrittenSystem) (c : Context) (k n : ℕ) (m f : Matrix) (ts : List Tree) (b : Bool) → f ≡ part_on s w k m → Some (matrices_of ts) ≡ and_parts m → nat_eq (length ts) n ≡ b → guard b (Some (each_child c (parts_on s w k (matrices_of ts)))) ≡ option_and_then (cases_line c n) (or_children f)
cases_on s w c k n m f ts b e p q =
    sym (ap (λ (x : Matrix). option_and_then (cases_line c n) (or_children x)) e
    ∙ ap (option_and_then (cases_line c n)) (or_children_on s w k m ∙ ap (option_map (parts_on s w k)) (sym p))
    ∙ ap (λ (x : Bool). guard x (Some (each_child c (parts_on s w k (matrices_of ts))))) (ap (λ (i : ℕ). nat_eq i n) (count_on s w k (matrices_of ts) ∙ count_is ts) ∙ q))

pub child_is_fact : (s : Sort) (w : WrittenSystem) (k i : ℕ) (fact : Fact) (m x : Bor Tree) (f : Fact) → fact ≡ OnPath k m → Some (matrix_of x.now) ≡ or_part i (matrix_of m.now) → IsFact s w fact → Some (OnPath k x) ≡ Some f → IsFact s w f
child_is_fact s w k i fact m x f e p h q =
    let here : IsFact s w (OnPath k m) = subst (λ (y : Fact). IsFact s w y) e h in
    subst (λ (y : Fact). IsFact s w y) (some_same (OnPath k x) f q)
    (let k = or_part_kept s (length w.problem.prefix) i (matrix_of m.now) (matrix_of x.now) here.1 here.2 (sym p) in (here.0, k.0, k.1))

-- ---- the literals of a disjunction

leaves_count : (ls : List Lit) → count (leaves ls) ≡ length ls
leaves_count [] = refl
leaves_count (l ∷ ls) = ap suc (leaves_count ls)

pub cases_learnt : (c : Context) (n m : ℕ) (ls : List Lit) (b : Bool) → m ≡ length ls → nat_eq m n ≡ b → guard b (Some (each_child c (leaves ls))) ≡ cases_line c n (leaves ls)
cases_learnt c n m ls b e q =
    ap (λ (x : Bool). guard x (Some (each_child c (leaves ls)))) (sym q ∙ ap (λ (i : ℕ). nat_eq i n) (e ∙ sym (leaves_count ls)))

-- what two clauses on a result give
pub IfOk_from : {A E : Type 0} {P Q R : A → Type 0} (r : Result A E) → ((x : A) → P x → Q x → R x) → IfOk r P → IfOk r Q → IfOk r R
IfOk_from (Ok x) f h k = f x h k
IfOk_from (Err e) f h k = tt
