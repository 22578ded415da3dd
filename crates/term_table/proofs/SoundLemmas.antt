-- Each way of building a term from sound parts gives a sound term.
use Rattle.std.proofs.Common.{◌≡◌, ℕ, zero, suc, ◌<◌, ◌≤◌, Bool, true, false, ◌&&◌, cond, List, [], ◌∷◌, ◌++◌, length, get_or, Option, Some, None, refl, sym, subst, arith}
use Rattle.std.specs.Prelude.{nat_le}
use Rattle.lin_term.specs.declared.row.Sort.{Sort}
use Rattle.lin_term.specs.Linear.{Value, IsValue}
use Rattle.lin_truth.specs.declared.term.VarSort.{VarSort}
use Rattle.lin_truth.specs.declared.term.VarSort.TheVariants as sorts
use Rattle.lin_truth.specs.Value.{Yes}
use Rattle.lin_truth.specs.Term.{Term, yes, no, amount, variable, ite}
use Rattle.lin_truth.specs.Constant.{is_constant, constant_value}
use Rattle.lin_truth.specs.Size.{node_count}
use Rattle.lin_truth.specs.Worked.{worked}
use Rattle.lin_truth.specs.Formed.{IsNumber, IsNotZero}
use Rattle.lin_truth.specs.Goal.{IsGoalTerm}
use Rattle.lin_truth.proofs.Working.{worked_not_zero}
use Rattle.term_table.specs.declared.node.Unary.{Unary}
use Rattle.term_table.specs.declared.node.Binary.{Binary}
use Rattle.term_table.specs.declared.node.Binary.TheVariants as binary
use Rattle.term_table.specs.declared.worth.Worth.TheVariants as worth
use Rattle.term_table.specs.Placed.{Frame, Typed, nothing, top, parameter, binding}
use Rattle.term_table.specs.Built.{one_of, two_of}
use Rattle.term_table.specs.Worth.{most_nodes, value_known, worth_of}
use Rattle.term_table.specs.Sound.{IsFormed, Sorts, Fits, Sound, unary_part, unary_whole, UnaryFits, binary_whole, IsDivisor, BinaryFits}
use Rattle.term_table.proofs.Formed.{true_yes, one_formed, one_fixed, both_yes, equal_formed, variable_formed}
use Rattle.term_table.proofs.Scoped.{binding-at, parameter-at, stays_here, constant_anywhere}

-- ---- leaves

pub sound-true : (s : Sort) (scope : Sorts) → Sound s scope (record { sort = sorts.Bool; tree = λ frame n. yes })
sound-true s scope = record { formed = λ frame vs fit le. (tt, tt); fixed = λ f g n m same c. refl }

pub sound-false : (s : Sort) (scope : Sorts) → Sound s scope (record { sort = sorts.Bool; tree = λ frame n. no })
sound-false s scope = record { formed = λ frame vs fit le. (tt, tt); fixed = λ f g n m same c. refl }

pub sound-number : (s : Sort) (scope : Sorts) (v : Value) → IsValue s v → IsGoalTerm (amount v) → Sound s scope (record { sort = sorts.Number; tree = λ frame n. amount v })
sound-number s scope v is kept = record { formed = λ frame vs fit le. (is, kept); fixed = λ f g n m same c. refl }

constant-at : (cs rest : List VarSort) (i : ℕ) (u : VarSort) → i < length cs → ((d : VarSort) → get_or cs i d ≡ u) → (i < length (cs ++ rest)) × (get_or (cs ++ rest) i sorts.Number ≡ u)
constant-at [] rest i u lt e = absurd (omega arith)
constant-at (c ∷ cs) rest zero u lt e = (omega arith, e sorts.Number)
constant-at (c ∷ cs) rest (suc i) u lt e = let more = constant-at cs rest i u (omega arith) e in (omega (arith, more.0), more.1)

-- the declared constant at this place
pub sound-constant : (s : Sort) (scope : Sorts) (i : ℕ) (u : VarSort) → i < length scope.constants → ((d : VarSort) → get_or scope.constants i d ≡ u)
    → Sound s scope (record { sort = u; tree = λ frame n. variable i })
sound-constant s scope i u lt e = record {
  formed = λ frame vs fit. let is = constant-at scope.constants fit.begins.0 i u lt e in subst (λ ws. IsFormed s u (variable i) ws) (sym fit.begins.1) (variable_formed u s (scope.constants ++ fit.begins.0) i is.0 is.1);
  fixed = λ f g n m same c. absurd c;
}

pub sound-parameter : (s : Sort) (scope : Sorts) (p : ℕ) (u : VarSort) → p < length scope.parameters → ((d : VarSort) → get_or scope.parameters p d ≡ u)
    → Sound s scope (record { sort = u; tree = parameter p })
sound-parameter s scope p u lt e = record {
  formed = λ frame vs fit. stays_here s u (get_or frame.given p nothing) vs (parameter-at s vs frame.given scope.parameters p u fit.given lt e);
  fixed = λ f g n m same c. same p n m c;
}

pub sound-binding : (s : Sort) (scope : Sorts) (i : ℕ) (u : VarSort) → i < length scope.bindings → ((d : VarSort) → get_or scope.bindings i d ≡ u)
    → Sound s scope (record { sort = u; tree = binding i })
sound-binding s scope i u lt e = record {
  formed = λ frame vs fit. let is = binding-at vs frame.bound scope.bindings i u fit.bound lt e in variable_formed u s vs (get_or frame.bound i 0) is.0 is.1;
  fixed = λ f g n m same c. absurd c;
}

-- ---- operators

-- of the part's sort
pub formed_as : (s : Sort) (scope : Sorts) (t : Typed) (u : VarSort) (frame : Frame) (vs : List VarSort) → t.sort ≡ u → Sound s scope t → Fits s scope frame vs → IsFormed s u (t.tree frame (length vs)) vs
formed_as s scope t u frame vs e sound fit = subst (λ w. IsFormed s w (t.tree frame (length vs)) vs) e (sound.formed frame vs fit)

pub sound-one : (s : Sort) (scope : Sorts) (op : Unary) (t : Typed) → UnaryFits s op → t.sort ≡ unary_part op → Sound s scope t
    → Sound s scope (record { sort = unary_whole op; tree = λ frame n. one_of op (t.tree frame n) })
sound-one s scope op t fits e sound = record {
  formed = λ frame vs fit. one_formed s op (t.tree frame (length vs)) vs fits (formed_as s scope t (unary_part op) frame vs e sound fit);
  fixed = λ f g n m same c. one_fixed op (t.tree f n) (t.tree g m) c (sound.fixed f g n m same);
}

-- a divisor that is no larger than a goal may be is a constant term other than 0
divisor_value : (w : Option Value) → IsDivisor (value_known w) → (v : Value) × (w ≡ Some v) × IsNotZero v.num
divisor_value None is = absurd is
divisor_value (Some v) is = (v, refl, is)

divisor_cases : (t : Term) (b l : Bool) → is_constant t ≡ b → nat_le (node_count t) most_nodes ≡ l → l ≡ true
    → IsDivisor (cond b (cond l (value_known (worked t)) worth.Large) worth.Free) → Yes (is_constant t) × ((v : Value) × (worked t ≡ Some v) × IsNotZero v.num)
divisor_cases t true true p q r is = (true_yes (is_constant t) p, divisor_value (worked t) is)
divisor_cases t true false p q r is = cc
divisor_cases t false l p q r is = absurd is

nat_le_true : (a b : ℕ) → a ≤ b → nat_le a b ≡ true
nat_le_true a b le = search (arith, le)

divisor_is : (t : Term) (s : Sort) (vs : List VarSort) → IsNumber t s vs → node_count t ≤ most_nodes → IsDivisor (worth_of t) → Yes (is_constant t) × IsNotZero (constant_value t).num
divisor_is t s vs number le is =
    let p = divisor_cases t (is_constant t) (nat_le (node_count t) most_nodes) refl refl (nat_le_true (node_count t) most_nodes le) is in
    (p.0, worked_not_zero t s vs number p.0 p.1.0 p.1.1 p.1.2)

divisor_constant : (t : Term) → IsDivisor (worth_of t) → Yes (is_constant t)
divisor_constant t is = from (is_constant t) is
  where
    from : (b : Bool) → IsDivisor (cond b (cond (nat_le (node_count t) most_nodes) (value_known (worked t)) worth.Large) worth.Free) → Yes b
    from true is = tt
    from false is = absurd is

divisor_at : (s : Sort) (scope : Sorts) (t : Typed) (frame : Frame) (vs : List VarSort) → Sound s scope t → Fits s scope frame vs → t.sort ≡ sorts.Number → IsDivisor (worth_of (t.tree top 0))
    → node_count (t.tree frame (length vs)) ≤ most_nodes → Yes (is_constant (t.tree frame (length vs))) × IsNotZero (constant_value (t.tree frame (length vs))).num
divisor_at s scope t frame vs sound fit e is le =
    let same = constant_anywhere s scope t frame (length vs) sound (divisor_constant (t.tree top 0) is) in
    let there : IsDivisor (worth_of (t.tree frame (length vs))) = subst (λ (x : Term). IsDivisor (worth_of x)) same is in
    divisor_is (t.tree frame (length vs)) s vs (formed_as s scope t sorts.Number frame vs e sound fit le).0 le there

abbrev Both : Sort → Sorts → Typed → Typed → Type 0
Both s scope a b = Sound s scope a × Sound s scope b

two_formed : (s : Sort) (scope : Sorts) (op : Binary) (a b : Typed) (frame : Frame) (vs : List VarSort) → BinaryFits s op a b → Both s scope a b → Fits s scope frame vs
    → IsFormed s (binary_whole op) (two_of op (a.tree frame (length vs)) (b.tree frame (length vs))) vs
two_formed s scope binary.Minus a b frame vs fits both fit le =
    let p = formed_as s scope a sorts.Number frame vs fits.0 both.0 fit (omega arith) in
    let q = formed_as s scope b sorts.Number frame vs fits.1 both.1 fit (omega arith) in
    ((p.0, q.0), (p.1, q.1))
two_formed s scope binary.Quotient a b frame vs fits both fit le =
    let p = formed_as s scope a sorts.Number frame vs fits.1.0 both.0 fit (omega arith) in
    let q = formed_as s scope b sorts.Number frame vs fits.1.1 both.1 fit (omega arith) in
    let d = divisor_at s scope b frame vs both.1 fit fits.1.1 fits.2 (omega arith) in
    ((fits.0, p.0, q.0, d.0, d.1), (p.1, q.1))
two_formed s scope binary.Div a b frame vs fits both fit le =
    let p = formed_as s scope a sorts.Number frame vs fits.1.0 both.0 fit (omega arith) in
    let q = formed_as s scope b sorts.Number frame vs fits.1.1 both.1 fit (omega arith) in
    let d = divisor_at s scope b frame vs both.1 fit fits.1.1 fits.2 (omega arith) in
    ((fits.0, p.0, q.0, d.0, d.1), (p.1, q.1))
two_formed s scope binary.Mod a b frame vs fits both fit le =
    let p = formed_as s scope a sorts.Number frame vs fits.1.0 both.0 fit (omega arith) in
    let q = formed_as s scope b sorts.Number frame vs fits.1.1 both.1 fit (omega arith) in
    let d = divisor_at s scope b frame vs both.1 fit fits.1.1 fits.2 (omega arith) in
    ((fits.0, p.0, q.0, d.0, d.1), (p.1, q.1))
two_formed s scope binary.Less a b frame vs fits both fit le =
    let p = formed_as s scope a sorts.Number frame vs fits.0 both.0 fit (omega arith) in
    let q = formed_as s scope b sorts.Number frame vs fits.1 both.1 fit (omega arith) in
    ((p.0, q.0), (p.1, q.1))
two_formed s scope binary.AtMost a b frame vs fits both fit le =
    let p = formed_as s scope a sorts.Number frame vs fits.0 both.0 fit (omega arith) in
    let q = formed_as s scope b sorts.Number frame vs fits.1 both.1 fit (omega arith) in
    ((p.0, q.0), (p.1, q.1))
two_formed s scope binary.Greater a b frame vs fits both fit le =
    let p = formed_as s scope a sorts.Number frame vs fits.0 both.0 fit (omega arith) in
    let q = formed_as s scope b sorts.Number frame vs fits.1 both.1 fit (omega arith) in
    ((p.0, q.0), (p.1, q.1))
two_formed s scope binary.AtLeast a b frame vs fits both fit le =
    let p = formed_as s scope a sorts.Number frame vs fits.0 both.0 fit (omega arith) in
    let q = formed_as s scope b sorts.Number frame vs fits.1 both.1 fit (omega arith) in
    ((p.0, q.0), (p.1, q.1))
two_formed s scope binary.Equal a b frame vs fits both fit le =
    let p = formed_as s scope a b.sort frame vs fits both.0 fit (omega arith) in
    let q = both.1.formed frame vs fit (omega arith) in
    (equal_formed s b.sort (a.tree frame (length vs)) (b.tree frame (length vs)) vs p.0 q.0, (p.1, q.1))
two_formed s scope binary.Xor a b frame vs fits both fit le =
    let p = formed_as s scope a sorts.Bool frame vs fits.0 both.0 fit (omega arith) in
    let q = formed_as s scope b sorts.Bool frame vs fits.1 both.1 fit (omega arith) in
    ((p.0, q.0), (p.1, q.1))
two_formed s scope binary.Implies a b frame vs fits both fit le =
    let p = formed_as s scope a sorts.Bool frame vs fits.0 both.0 fit (omega arith) in
    let q = formed_as s scope b sorts.Bool frame vs fits.1 both.1 fit (omega arith) in
    ((p.0, q.0), (p.1, q.1))

arithmetic_fixed : (op : Binary) (x y z w : Term) → Yes (is_constant x && is_constant y) → (Yes (is_constant x) → x ≡ z) → (Yes (is_constant y) → y ≡ w) → two_of op x y ≡ two_of op z w
arithmetic_fixed op x y z w c p q = let both = both_yes (is_constant x) (is_constant y) c in λ k. two_of op (p both.0 k) (q both.1 k)

pub two_fixed : (op : Binary) (x y z w : Term) → Yes (is_constant (two_of op x y)) → (Yes (is_constant x) → x ≡ z) → (Yes (is_constant y) → y ≡ w) → two_of op x y ≡ two_of op z w
two_fixed binary.Minus x y z w c p q = arithmetic_fixed binary.Minus x y z w c p q
two_fixed binary.Quotient x y z w c p q = arithmetic_fixed binary.Quotient x y z w c p q
two_fixed binary.Div x y z w c p q = arithmetic_fixed binary.Div x y z w c p q
two_fixed binary.Mod x y z w c p q = arithmetic_fixed binary.Mod x y z w c p q
two_fixed binary.Less x y z w c p q = absurd c
two_fixed binary.AtMost x y z w c p q = absurd c
two_fixed binary.Greater x y z w c p q = absurd c
two_fixed binary.AtLeast x y z w c p q = absurd c
two_fixed binary.Equal x y z w c p q = absurd c
two_fixed binary.Xor x y z w c p q = absurd c
two_fixed binary.Implies x y z w c p q = absurd c

pub sound-two : (s : Sort) (scope : Sorts) (op : Binary) (a b : Typed) → BinaryFits s op a b → Sound s scope a → Sound s scope b
    → Sound s scope (record { sort = binary_whole op; tree = λ frame n. two_of op (a.tree frame n) (b.tree frame n) })
sound-two s scope op a b fits p q = record {
  formed = λ frame vs fit. two_formed s scope op a b frame vs fits (p, q) fit;
  fixed = λ f g n m same c. two_fixed op (a.tree f n) (b.tree f n) (a.tree g m) (b.tree g m) c (p.fixed f g n m same) (q.fixed f g n m same);
}

ite_formed : (u : VarSort) (s : Sort) (c a b : Term) (vs : List VarSort) → IsFormed s sorts.Bool c vs → IsFormed s u a vs → IsFormed s u b vs → IsFormed s u (ite c a b) vs
ite_formed sorts.Bool s c a b vs p q r le = let x = p (omega arith) in let y = q (omega arith) in let z = r (omega arith) in ((x.0, y.0, z.0), (x.1, y.1, z.1))
ite_formed sorts.Number s c a b vs p q r le = let x = p (omega arith) in let y = q (omega arith) in let z = r (omega arith) in ((x.0, y.0, z.0), (x.1, y.1, z.1))

-- a condition and two terms of one sort
pub sound-choice : (s : Sort) (scope : Sorts) (c a b : Typed) → c.sort ≡ sorts.Bool → a.sort ≡ b.sort → Sound s scope c → Sound s scope a → Sound s scope b
    → Sound s scope (record { sort = b.sort; tree = λ frame n. ite (c.tree frame n) (a.tree frame n) (b.tree frame n) })
sound-choice s scope c a b e same p q r = record {
  formed = λ frame vs fit. ite_formed b.sort s (c.tree frame (length vs)) (a.tree frame (length vs)) (b.tree frame (length vs)) vs (formed_as s scope c sorts.Bool frame vs e p fit) (formed_as s scope a b.sort frame vs same q fit) (r.formed frame vs fit);
  fixed = λ f g n m alike k. absurd k;
}
