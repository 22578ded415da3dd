-- The values of the goal's variables, and the point of the normal form that carries them.
use Rattle.std.specs.Prelude.{ℕ, suc, ◌*◌, ◌≡◌, ◌<◌, ℤ, pos, ◌+ℤ◌, ◌*ℤ◌, neg_ℤ, ◌≤ℤ◌, ◌<ℤ◌, List, [], ◌∷◌, ◌++◌, length, map, get_or, Bool, true, false}
use Rattle.std.proofs.Common.{arith, ap, ap₂, ◌∙◌, sym, subst, refl, inl, inr, length-append}
use Rattle.std.proofs.lemmas.Int.{ints, by_lt_z}
use Rattle.std.proofs.lemmas.Bool.{cases_lt}
use Rattle.std.proofs.lemmas.List.{get_or_append_left, get_or_push, get_or-map, map-append, length-map}
use Rattle.lin_term.specs.declared.Sort.{Sort}
use Rattle.lin_term.specs.declared.Sort.TheVariants.{Rat, Int}
use Rattle.lin_term.specs.Linear.{Point, Value, IsValue, IsPoint, at, extend}
use Rattle.lin_term.proofs.Ring.{ring, nonneg_from_mul, nonneg_mul, nonneg_across}
use Rattle.lin_term.proofs.Dots.{length-extend, at-extend_new}
use Rattle.dom_core.proofs.Contrary.{extend_point}
use Rattle.norm_form.proofs.Growing.{Grows, grows_extend, HasValue, has_new_value, value_grows}
use Rattle.norm_form.specs.Normal.{Normal, TrueN}
use Rattle.lin_truth.specs.declared.term.VarSort.{VarSort}
use Rattle.lin_truth.specs.declared.term.VarSort.TheVariants as sorts
use Rattle.lin_truth.specs.Truth.{Datum, truth, value, sort_of, at_place, Every, Same, IsYes, is_boolean, number_of}
use Rattle.lin_truth.specs.Value.{Yes}
use Rattle.lin_truth.specs.Formed.{append_all, not_boolean}
use Rattle.lin_form.specs.declared.Bound.{Bound}
use Rattle.lin_form.specs.Scope.{bound_sort, level_at}
use Rattle.norm_form.specs.Norm.{bind}
use Rattle.norm_form.proofs.Forms.{den_over}
use Rattle.norm_form.proofs.Leaves.{Sign, same_trans}

-- what a variable's place has at p
abbrev pub Stands : Sort → Point → ℕ → Datum → Type 0
Stands s p j (truth b) = (j < length p.nums) × Same (Yes b) (pos p.den ≤ℤ at p.nums j)
Stands s p j (value v) = (j < length p.nums) × HasValue p j v × IsValue s v

abbrev pub no_bound : Bound
no_bound = record { sort = sorts.Number; level = 0 }

pub record Here (s : Sort) (env : List Datum) (ctx : List Bound) (p : Point) (d : ℕ) : Type 0 where
  pub point : IsPoint s p
  pub count : length p.nums ≡ d
  pub long : length env ≡ length ctx
  pub sorts : map sort_of env ≡ map bound_sort ctx
  pub stands : (i : ℕ) → i < length ctx → Stands s p (level_at ctx i) (at_place env i)

le_law : (a b P Q : ℤ) → pos 0 <ℤ P → pos 0 <ℤ Q → a *ℤ Q ≡ b *ℤ P → P ≤ℤ a → Q ≤ℤ b
le_law a b P Q h k e l =
    let w : (a +ℤ neg_ℤ P) *ℤ Q ≡ (b +ℤ neg_ℤ Q) *ℤ P =
    (let x : (a +ℤ neg_ℤ P) *ℤ Q ≡ a *ℤ Q +ℤ neg_ℤ (P *ℤ Q) = simp ring in
    let y : (b +ℤ neg_ℤ Q) *ℤ P ≡ b *ℤ P +ℤ neg_ℤ (P *ℤ Q) = simp ring in
    x ∙ ap (λ (t : ℤ). t +ℤ neg_ℤ (P *ℤ Q)) e ∙ sym y) in
    let n = nonneg_across (a +ℤ neg_ℤ P) (b +ℤ neg_ℤ Q) Q P k h w (omega (arith, ints)) in
    omega (arith, ints)

pub stands_grows : (s : Sort) (p q : Point) (j : ℕ) (x : Datum) → IsPoint s p → IsPoint s q → Grows p q → Stands s p j x → Stands s q j x
stands_grows s p q j (truth b) i k g h =
    let e = g.kept j h.0 in (
      (let l = g.longer in let m = h.0 in omega arith),
      same_trans h.1 (
        λ x. le_law (at p.nums j) (at q.nums j) (pos p.den) (pos q.den) (den_over s p i) (den_over s q k) e x,
        λ x. le_law (at q.nums j) (at p.nums j) (pos q.den) (pos p.den) (den_over s q k) (den_over s p i) (sym e) x,
      ),
    )
stands_grows s p q j (value v) i k g h =
    ((let l = g.longer in let m = h.0 in omega arith), value_grows s p q j v i h.0 h.1 g, h.2)

pub here_grows : (s : Sort) (env : List Datum) (ctx : List Bound) (p q : Point) (d e : ℕ) → Here s env ctx p d → Grows p q → IsPoint s q → length q.nums ≡ e → Here s env ctx q e
here_grows s env ctx p q d e h g i l = record {
  point = i;
  count = l;
  long = h.long;
  sorts = h.sorts;
  stands = λ j k. stands_grows s p q (level_at ctx j) (at_place env j) h.point i g (h.stands j k);
}

-- ---- one more variable

pub here_push : (s : Sort) (env : List Datum) (ctx : List Bound) (p : Point) (d : ℕ) (x : Value) (y : Datum) (v : VarSort) → Here s env ctx p d → IsValue s x → sort_of y ≡ v → Stands s (extend p x) d y → Here s (env ++ y ∷ []) (ctx ++ (record { sort = v; level = d }) ∷ []) (extend p x) (suc d)
here_push s env ctx p d x y v h i e t =
    let ie = extend_point s p x h.point i in
    let le = length-extend p x in
    let c = h.count in
    let lc = length-append ctx ((record { sort = v; level = d }) ∷ []) in
    let lv = length-append env (y ∷ []) in
    let l = h.long in
    record {
      point = ie;
      count = omega arith;
      long = omega arith;
      sorts = map-append sort_of env (y ∷ []) ∙ ap₂ (λ (a : List VarSort) (b : VarSort). a ++ b ∷ []) h.sorts e ∙ sym (map-append bound_sort ctx ((record { sort = v; level = d }) ∷ []));
      stands = λ j k. elim (cases_lt j (length ctx)) [
        | inl less ↦
            let a = get_or_append_left ctx ((record { sort = v; level = d }) ∷ []) no_bound j less in
            let b = get_or_append_left env (y ∷ []) (truth false) j (omega arith) in
            let w = stands_grows s p (extend p x) (level_at ctx j) (at_place env j) h.point ie (grows_extend p x) (h.stands j less) in
            subst (λ (z : Datum). Stands s (extend p x) (level_at (ctx ++ (record { sort = v; level = d }) ∷ []) j) z) (sym b)
            (subst (λ (z : Bound). Stands s (extend p x) z.level (at_place env j)) (sym a) w)
        | inr past ↦
            let a = get_or_push ctx (record { sort = v; level = d }) no_bound j (omega arith) in
            let b = get_or_push env y (truth false) j (omega arith) in
            subst (λ (z : Datum). Stands s (extend p x) (level_at (ctx ++ (record { sort = v; level = d }) ∷ []) j) z) (sym b)
            (subst (λ (z : Bound). Stands s (extend p x) z.level y) (sym a) t)
      ];
    }

push_number : (s : Sort) (env : List Datum) (ctx : List Bound) (p : Point) (d : ℕ) (x : Value) → Here s env ctx p d → IsValue s x → Here s (env ++ value x ∷ []) (ctx ++ (record { sort = sorts.Number; level = d }) ∷ []) (extend p x) (suc d)
push_number s env ctx p d x h i =
    here_push s env ctx p d x (value x) sorts.Number h i refl
    ((let l = length-extend p x in let c = h.count in omega arith), has_new_value p d x h.count, i)

-- a number carries the Bool: true where it is 1 or more
abbrev pub Carries : Bool → Value → Type 0
Carries b x = Same (Yes b) (pos x.den ≤ℤ x.num)

carry_law : (n d P : ℤ) → pos 0 <ℤ P → Same (d ≤ℤ n) ((P *ℤ d) ≤ℤ (n *ℤ P))
carry_law n d P h =
    let e : (n +ℤ neg_ℤ d) *ℤ P ≡ n *ℤ P +ℤ neg_ℤ (P *ℤ d) = simp ring in (
      λ l. let m = nonneg_mul (n +ℤ neg_ℤ d) P (omega (arith, ints)) (omega (arith, ints)) in omega (arith, ints),
      λ l. let m = nonneg_from_mul (n +ℤ neg_ℤ d) P h (subst (λ (z : ℤ). pos 0 ≤ℤ z) (sym e) (omega (arith, ints))) in omega (arith, ints),
    )

push_boolean : (s : Sort) (env : List Datum) (ctx : List Bound) (p : Point) (d : ℕ) (x : Value) (b : Bool) → Here s env ctx p d → IsValue s x → Carries b x → Here s (env ++ truth b ∷ []) (ctx ++ (record { sort = sorts.Bool; level = d }) ∷ []) (extend p x) (suc d)
push_boolean s env ctx p d x b h i c =
    let e : at (extend p x).nums d ≡ x.num *ℤ pos p.den = subst (λ (j : ℕ). at (extend p x).nums j ≡ x.num *ℤ pos p.den) h.count (at-extend_new p x) in
    let w = carry_law x.num (pos x.den) (pos p.den) (den_over s p h.point) in
    here_push s env ctx p d x (truth b) sorts.Bool h i refl (
      (let l = length-extend p x in let k = h.count in omega arith),
      same_trans c (λ l. subst (λ (z : ℤ). pos (p.den * x.den) ≤ℤ z) (sym e) (w.0 l), λ l. w.1 (subst (λ (z : ℤ). pos (p.den * x.den) ≤ℤ z) e l)),
    )

abbrev pub carrier : Bool → Value
carrier true = record { num = pos 1; den = 1 }
carrier false = record { num = pos 0; den = 1 }

carrier_is : (s : Sort) (b : Bool) → IsValue s (carrier b)
carrier_is Rat true = omega arith
carrier_is Rat false = omega arith
carrier_is Int true = refl
carrier_is Int false = refl

carrier_carries : (b : Bool) → Carries b (carrier b)
carrier_carries true = (λ h. omega (arith, ints), λ h. tt)
carrier_carries false = (λ h. absurd h, λ h. omega (arith, ints))

-- each number carries a Bool
carried : (x : Value) {P : Type 0} → ((b : Bool) → Carries b x → P) → P
carried x {P} f =
    by_lt_z x.num (pos x.den)
    (λ h. f false (λ y. absurd y, λ y. omega (arith, ints)))
    (λ h. f true (λ y. h, λ y. tt))

-- ---- quantifiers

-- what is asked of a formula under the binders
abbrev pub Inner : Sort → Bool → List VarSort → List VarSort → (List Datum → Type 0) → (List Bound → ℕ → Normal) → Type 0
Inner s q start vs P f =
    (env : List Datum) (ctx : List Bound) (p : Point) (d : ℕ) → Here s env ctx p d → map bound_sort ctx ≡ append_all start vs → Same (Sign q (P env)) (TrueN (f ctx d) s p)

abbrev pub Steady : Sort → List VarSort → List VarSort → (List Datum → Type 0) → Type 0
Steady s start vs P =
    (env : List Datum) (ctx : List Bound) (p : Point) (d : ℕ) → Here s env ctx p d → map bound_sort ctx ≡ append_all start vs → ¬ (¬ P env) → P env

pub sorts_push : (ctx : List Bound) (v : VarSort) (d : ℕ) (start : List VarSort) → map bound_sort ctx ≡ start → map bound_sort (ctx ++ (record { sort = v; level = d }) ∷ []) ≡ start ++ v ∷ []
sorts_push ctx v d start e =
    map-append bound_sort ctx ((record { sort = v; level = d }) ∷ []) ∙ ap (λ (a : List VarSort). a ++ v ∷ []) e

pub every_steady : (vs start : List VarSort) (s : Sort) (P : List Datum → Type 0) (env : List Datum) (ctx : List Bound) (p : Point) (d : ℕ) → Steady s start vs P → Here s env ctx p d → map bound_sort ctx ≡ start → ¬ (¬ Every vs s P env) → Every vs s P env
every_steady [] start s P env ctx p d t h e n = t env ctx p d h e n
every_steady (sorts.Bool ∷ vs) start s P env ctx p d t h e n =
    λ b. every_steady vs (start ++ sorts.Bool ∷ []) s P (env ++ truth b ∷ []) (ctx ++ (record { sort = sorts.Bool; level = d }) ∷ []) (extend p (carrier b)) (suc d) t (push_boolean s env ctx p d (carrier b) b h (carrier_is s b) (carrier_carries b)) (sorts_push ctx sorts.Bool d start e) (λ k. n (λ x. k (x b)))
every_steady (sorts.Number ∷ vs) start s P env ctx p d t h e n =
    λ v i. every_steady vs (start ++ sorts.Number ∷ []) s P (env ++ value v ∷ []) (ctx ++ (record { sort = sorts.Number; level = d }) ∷ []) (extend p v) (suc d) t (push_number s env ctx p d v h i) (sorts_push ctx sorts.Number d start e) (λ k. n (λ x. k (x v i)))

pub every_same : (vs start : List VarSort) (s : Sort) (P : List Datum → Type 0) (f : List Bound → ℕ → Normal) (env : List Datum) (ctx : List Bound) (p : Point) (d : ℕ) → Inner s true start vs P f → Here s env ctx p d → map bound_sort ctx ≡ start → Same (Every vs s P env) (TrueN (bind true vs f ctx d) s p)
every_same [] start s P f env ctx p d t h e = t env ctx p d h e
every_same (sorts.Bool ∷ vs) start s P f env ctx p d t h e = (
  λ g x i. carried x (λ b c. (every_same vs (start ++ sorts.Bool ∷ []) s P f (env ++ truth b ∷ []) (ctx ++ (record { sort = sorts.Bool; level = d }) ∷ []) (extend p x) (suc d) t (push_boolean s env ctx p d x b h i c) (sorts_push ctx sorts.Bool d start e)).0 (g b)),
  λ g b. (every_same vs (start ++ sorts.Bool ∷ []) s P f (env ++ truth b ∷ []) (ctx ++ (record { sort = sorts.Bool; level = d }) ∷ []) (extend p (carrier b)) (suc d) t (push_boolean s env ctx p d (carrier b) b h (carrier_is s b) (carrier_carries b)) (sorts_push ctx sorts.Bool d start e)).1 (g (carrier b) (carrier_is s b)),
)
every_same (sorts.Number ∷ vs) start s P f env ctx p d t h e = (
  λ g x i. (every_same vs (start ++ sorts.Number ∷ []) s P f (env ++ value x ∷ []) (ctx ++ (record { sort = sorts.Number; level = d }) ∷ []) (extend p x) (suc d) t (push_number s env ctx p d x h i) (sorts_push ctx sorts.Number d start e)).0 (g x i),
  λ g x i. (every_same vs (start ++ sorts.Number ∷ []) s P f (env ++ value x ∷ []) (ctx ++ (record { sort = sorts.Number; level = d }) ∷ []) (extend p x) (suc d) t (push_number s env ctx p d x h i) (sorts_push ctx sorts.Number d start e)).1 (g x i),
)

pub not_every_same : (vs start : List VarSort) (s : Sort) (P : List Datum → Type 0) (f : List Bound → ℕ → Normal) (env : List Datum) (ctx : List Bound) (p : Point) (d : ℕ) → Steady s start vs P → Inner s false start vs P f → Here s env ctx p d → map bound_sort ctx ≡ start → Same (¬ Every vs s P env) (TrueN (bind false vs f ctx d) s p)
not_every_same [] start s P f env ctx p d w t h e = t env ctx p d h e
not_every_same (sorts.Bool ∷ vs) start s P f env ctx p d w t h e = (
  λ g n. g (λ b.
      let h' = push_boolean s env ctx p d (carrier b) b h (carrier_is s b) (carrier_carries b) in
      let e' = sorts_push ctx sorts.Bool d start e in
      every_steady vs (start ++ sorts.Bool ∷ []) s P (env ++ truth b ∷ []) (ctx ++ (record { sort = sorts.Bool; level = d }) ∷ []) (extend p (carrier b)) (suc d) w h' e'
      (λ k. n (carrier b) (carrier_is s b) ((not_every_same vs (start ++ sorts.Bool ∷ []) s P f (env ++ truth b ∷ []) (ctx ++ (record { sort = sorts.Bool; level = d }) ∷ []) (extend p (carrier b)) (suc d) w t h' e').0 k))),
  λ g n. g (λ x i y. carried x (λ b c. (not_every_same vs (start ++ sorts.Bool ∷ []) s P f (env ++ truth b ∷ []) (ctx ++ (record { sort = sorts.Bool; level = d }) ∷ []) (extend p x) (suc d) w t (push_boolean s env ctx p d x b h i c) (sorts_push ctx sorts.Bool d start e)).1 y (n b))),
)
not_every_same (sorts.Number ∷ vs) start s P f env ctx p d w t h e = (
  λ g n. g (λ x i.
      let h' = push_number s env ctx p d x h i in
      let e' = sorts_push ctx sorts.Number d start e in
      every_steady vs (start ++ sorts.Number ∷ []) s P (env ++ value x ∷ []) (ctx ++ (record { sort = sorts.Number; level = d }) ∷ []) (extend p x) (suc d) w h' e'
      (λ k. n x i ((not_every_same vs (start ++ sorts.Number ∷ []) s P f (env ++ value x ∷ []) (ctx ++ (record { sort = sorts.Number; level = d }) ∷ []) (extend p x) (suc d) w t h' e').0 k))),
  λ g n. g (λ x i y. (not_every_same vs (start ++ sorts.Number ∷ []) s P f (env ++ value x ∷ []) (ctx ++ (record { sort = sorts.Number; level = d }) ∷ []) (extend p x) (suc d) w t (push_number s env ctx p d x h i) (sorts_push ctx sorts.Number d start e)).1 y (n x i)),
)

pub bind_same : (q : Bool) (vs start : List VarSort) (s : Sort) (P : List Datum → Type 0) (f : List Bound → ℕ → Normal) (env : List Datum) (ctx : List Bound) (p : Point) (d : ℕ) → Steady s start vs P → Inner s q start vs P f → Here s env ctx p d → map bound_sort ctx ≡ start → Same (Sign q (Every vs s P env)) (TrueN (bind q vs f ctx d) s p)
bind_same true vs start s P f env ctx p d w t h e = every_same vs start s P f env ctx p d t h e
bind_same false vs start s P f env ctx p d w t h e = not_every_same vs start s P f env ctx p d w t h e

-- ---- variables

boolean_stands : (s : Sort) (p : Point) (j : ℕ) (x : Datum) → Yes (is_boolean (sort_of x)) → Stands s p j x → (j < length p.nums) × Same (IsYes x) (pos p.den ≤ℤ at p.nums j)
boolean_stands s p j (truth b) e h = h
boolean_stands s p j (value v) e h = absurd e

number_stands : (s : Sort) (p : Point) (j : ℕ) (x : Datum) → Yes (not_boolean (sort_of x)) → Stands s p j x → (j < length p.nums) × HasValue p j (number_of x) × IsValue s (number_of x)
number_stands s p j (truth b) e h = absurd e
number_stands s p j (value v) e h = h

sort_at : (s : Sort) (env : List Datum) (ctx : List Bound) (p : Point) (d i : ℕ) → Here s env ctx p d → i < length (map bound_sort ctx) → (i < length ctx) × (get_or (map bound_sort ctx) i sorts.Number ≡ sort_of (at_place env i))
sort_at s env ctx p d i h l =
    let lm : length (map sort_of env) ≡ length (map bound_sort ctx) = ap length h.sorts in
    let le : length (map sort_of env) ≡ length env = length-map env sort_of in
    let lc = h.long in
    let k : i < length env = omega arith in
    ((omega arith), ap (λ (x : List VarSort). get_or x i sorts.Number) (sym h.sorts) ∙ get_or-map sort_of env i (truth false) sorts.Number k)

pub boolean_here : (s : Sort) (env : List Datum) (ctx : List Bound) (p : Point) (d i : ℕ) → Here s env ctx p d → i < length (map bound_sort ctx) → Yes (is_boolean (get_or (map bound_sort ctx) i sorts.Number)) → (level_at ctx i < length p.nums) × Same (IsYes (at_place env i)) (pos p.den ≤ℤ at p.nums (level_at ctx i))
boolean_here s env ctx p d i h l y =
    let a = sort_at s env ctx p d i h l in
    boolean_stands s p (level_at ctx i) (at_place env i) (subst (λ (v : VarSort). Yes (is_boolean v)) a.1 y) (h.stands i a.0)

pub number_here : (s : Sort) (env : List Datum) (ctx : List Bound) (p : Point) (d i : ℕ) → Here s env ctx p d → i < length (map bound_sort ctx) → Yes (not_boolean (get_or (map bound_sort ctx) i sorts.Number)) → (level_at ctx i < length p.nums) × HasValue p (level_at ctx i) (number_of (at_place env i)) × IsValue s (number_of (at_place env i))
number_here s env ctx p d i h l y =
    let a = sort_at s env ctx p d i h l in
    number_stands s p (level_at ctx i) (at_place env i) (subst (λ (v : VarSort). Yes (not_boolean v)) a.1 y) (h.stands i a.0)
