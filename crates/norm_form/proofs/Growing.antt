-- Points that grow by one value after the other, and names for some of their values.
use Rattle.std.specs.Prelude.{ℕ, ◌*◌, ◌<◌, ◌≤◌, ◌≡◌, ℤ, pos, ◌*ℤ◌, ◌<ℤ◌, List, [], ◌∷◌, ◌++◌, length, get_or}
use Rattle.std.proofs.Common.{arith, ap, ◌∙◌, sym, refl, inl, inr, length-append}
use Rattle.std.proofs.lemmas.Int.{ints}
use Rattle.std.proofs.lemmas.Bool.{cases_lt}
use Rattle.std.proofs.lemmas.List.{get_or_append_left, get_or_push}
use Rattle.lin_term.specs.declared.Sort.{Sort}
use Rattle.lin_term.specs.declared.Sort.TheVariants.{Rat, Int}
use Rattle.lin_term.specs.Linear.{Point, Value, IsValue, IsPoint, at, extend, origin}
use Rattle.lin_term.proofs.Ring.{ring, cancel_right_ℤ}
use Rattle.lin_term.proofs.Dots.{Agree, length-extend, at-extend_old, at-extend_new}
use Rattle.lin_term.proofs.Holding.{one_den}
use Rattle.dom_core.proofs.Contrary.{extend_point}

-- ---- products of factors

pub swap_ℤ : (a b c : ℤ) → (a *ℤ b) *ℤ c ≡ (a *ℤ c) *ℤ b
swap_ℤ a b c = simp ring

pub over_ℤ : (a b c : ℤ) → a *ℤ (b *ℤ c) ≡ (a *ℤ b) *ℤ c
over_ℤ a b c = simp ring

-- x/P = y/Q and y/Q = z/R give x/P = z/R
chain_ℤ : (x y z P Q R : ℤ) → pos 0 <ℤ Q → x *ℤ Q ≡ y *ℤ P → y *ℤ R ≡ z *ℤ Q → x *ℤ R ≡ z *ℤ P
chain_ℤ x y z P Q R h e f =
    cancel_right_ℤ (x *ℤ R) (z *ℤ P) Q h
    (swap_ℤ x R Q ∙ ap (λ (t : ℤ). t *ℤ R) e ∙ swap_ℤ y P R ∙ ap (λ (t : ℤ). t *ℤ P) f ∙ swap_ℤ z Q P)

den_over : (s : Sort) (p : Point) → IsPoint s p → pos 0 <ℤ pos p.den
den_over s p h = let o = one_den s p h in omega (arith, ints)

-- ---- growth

pub record Grows (p q : Point) : Type 0 where
  pub longer : length p.nums ≤ length q.nums
  pub kept : (i : ℕ) → i < length p.nums → at p.nums i *ℤ pos q.den ≡ at q.nums i *ℤ pos p.den

pub grows_refl : (p : Point) → Grows p p
grows_refl p = record { longer = omega arith; kept = λ i h. refl }

pub grows_trans : (s : Sort) (p q r : Point) → IsPoint s q → Grows p q → Grows q r → Grows p r
grows_trans s p q r iq g h = record {
  longer = omega arith;
  kept = λ i l. chain_ℤ (at p.nums i) (at q.nums i) (at r.nums i) (pos p.den) (pos q.den) (pos r.den) (den_over s q iq) (g.kept i l) (h.kept i (omega arith));
}

pub grows_extend : (p : Point) (v : Value) → Grows p (extend p v)
grows_extend p v = record {
  longer = let l = length-extend p v in omega arith;
  kept = λ i l. over_ℤ (at p.nums i) (pos p.den) (pos v.den) ∙ swap_ℤ (at p.nums i) (pos p.den) (pos v.den) ∙ ap (λ (t : ℤ). t *ℤ pos p.den) (sym (at-extend_old p v i l));
}

-- ---- the state of a walk: the path's values at e, all values so far at p

pub record State (s : Sort) (names : List ℕ) (e p : Point) : Type 0 where
  pub path_point : IsPoint s e
  pub whole_point : IsPoint s p
  pub long : length e.nums ≡ length names
  pub inside : (i : ℕ) → i < length names → get_or names i 0 < length p.nums
  pub agree : Agree names e p

pub state_grows : (s : Sort) (names : List ℕ) (e p q : Point) → State s names e p → IsPoint s q → Grows p q → State s names e q
state_grows s names e p q t iq g = record {
  path_point = t.path_point;
  whole_point = iq;
  long = t.long;
  inside = λ i h. let l = t.inside i h in let k = g.longer in omega arith;
  agree = record { same = λ i h. chain_ℤ (at e.nums i) (at p.nums (get_or names i 0)) (at q.nums (get_or names i 0)) (pos e.den) (pos p.den) (pos q.den) (den_over s p t.whole_point) (t.agree.same i h) (g.kept (get_or names i 0) (t.inside i h)) };
}

-- the value at node v of q is x
abbrev pub HasValue : Point → ℕ → Value → Type 0
HasValue q v x = at q.nums v *ℤ pos x.den ≡ x.num *ℤ pos q.den

pub has_new_value : (p : Point) (v : ℕ) (x : Value) → length p.nums ≡ v → HasValue (extend p x) v x
has_new_value p v x e =
    ap (λ (i : ℕ). at (extend p x).nums i *ℤ pos x.den) (sym e) ∙ ap (λ (t : ℤ). t *ℤ pos x.den) (at-extend_new p x) ∙ sym (over_ℤ x.num (pos p.den) (pos x.den))

pub value_grows : (s : Sort) (p q : Point) (v : ℕ) (x : Value) → IsPoint s p → v < length p.nums → HasValue p v x → Grows p q → HasValue q v x
value_grows s p q v x ip l h g =
    cancel_right_ℤ (at q.nums v *ℤ pos x.den) (x.num *ℤ pos q.den) (pos p.den) (den_over s p ip)
    (swap_ℤ (at q.nums v) (pos x.den) (pos p.den) ∙ ap (λ (t : ℤ). t *ℤ pos x.den) (sym (g.kept v l)) ∙ swap_ℤ (at p.nums v) (pos q.den) (pos x.den) ∙ ap (λ (t : ℤ). t *ℤ pos q.den) h ∙ swap_ℤ x.num (pos p.den) (pos q.den))

agree_old : (a b x d e q : ℤ) → a *ℤ q ≡ b *ℤ e → (a *ℤ d) *ℤ q ≡ b *ℤ (e *ℤ d)
agree_old a b x d e q h = swap_ℤ a d q ∙ ap (λ (t : ℤ). t *ℤ d) h ∙ sym (over_ℤ b e d)

agree_new : (y n d e q : ℤ) → y *ℤ d ≡ n *ℤ q → (n *ℤ e) *ℤ q ≡ y *ℤ (e *ℤ d)
agree_new y n d e q h =
    swap_ℤ n e q ∙ ap (λ (t : ℤ). t *ℤ e) (sym h) ∙ swap_ℤ y d e ∙ sym (over_ℤ y e d)

get_last : (names : List ℕ) (v i : ℕ) → length names ≡ i → get_or (names ++ v ∷ []) i 0 ≡ v
get_last names v i h = get_or_push names v 0 i h

pub agree_push : (names : List ℕ) (e q : Point) (v : ℕ) (x : Value) → length e.nums ≡ length names → Agree names e q → HasValue q v x → Agree (names ++ v ∷ []) (extend e x) q
agree_push names e q v x long a h = record {
  same = λ i l. elim (cases_lt i (length names)) [
    | inl less ↦
        ap (λ (t : ℤ). t *ℤ pos q.den) (at-extend_old e x i (omega arith)) ∙ agree_old (at e.nums i) (at q.nums (get_or names i 0)) x.num (pos x.den) (pos e.den) (pos q.den) (a.same i less) ∙ ap (λ (j : ℕ). at q.nums j *ℤ pos (e.den * x.den)) (sym (get_or_append_left names (v ∷ []) 0 i less))
    | inr more ↦
        let len = length-append names (v ∷ []) in
        let s : length names ≡ i = omega arith in
        ap (λ (j : ℕ). at (extend e x).nums j *ℤ pos q.den) (sym (long ∙ s)) ∙ ap (λ (t : ℤ). t *ℤ pos q.den) (at-extend_new e x) ∙ agree_new (at q.nums v) x.num (pos x.den) (pos e.den) (pos q.den) h ∙ ap (λ (j : ℕ). at q.nums j *ℤ pos (e.den * x.den)) (sym (get_last names v i s))
  ];
}

pub state_push : (s : Sort) (names : List ℕ) (e p : Point) (v : ℕ) (x : Value) → State s names e p → length p.nums ≡ v → IsValue s x → State s (names ++ v ∷ []) (extend e x) (extend p x)
state_push s names e p v x t l i =
    let ip = extend_point s p x t.whole_point i in
    let g = state_grows s names e p (extend p x) t ip (grows_extend p x) in
    let len = length-append names (v ∷ []) in
    let le = length-extend e x in
    let lp = length-extend p x in
    let te = t.long in
    record {
      path_point = extend_point s e x t.path_point i;
      whole_point = ip;
      long = omega arith;
      inside = λ j h. elim (cases_lt j (length names)) [
        | inl less ↦ let k = t.inside j less in let w = get_or_append_left names (v ∷ []) 0 j less in omega arith
        | inr more ↦ let w = get_last names v j (omega arith) in omega arith
      ];
      agree = agree_push names e (extend p x) v x t.long g.agree (has_new_value p v x l);
    }

-- ---- the definition literals hold at the move's value

-- ---- the point of no variables

pub origin_point : (s : Sort) → IsPoint s origin
origin_point Rat = omega arith
origin_point Int = refl
