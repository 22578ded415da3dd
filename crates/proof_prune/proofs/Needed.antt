-- No line of what stays is idle.
use Rattle.std.specs.Prelude.{ℕ, suc, ◌+◌, ◌≤◌, ◌<◌, ◌≡◌, ◌⊎◌, nat_eq, nat_le, Bool, true, false, not, ◌&&◌, ◌||◌, if◌then◌else◌, List, [], ◌∷◌, ◌++◌, length, replicate}
use Rattle.std.specs.List.{list_any}
use Rattle.std.proofs.Common.{arith, ap, ◌∙◌, sym, refl, inl, inr}
use Rattle.std.proofs.lemmas.Bool.Decides.{eqb_tells, leb_tells}
use Rattle.cube_rules.specs.declared.Step.{Step}
use Rattle.cube_rules.specs.declared.Step.TheVariants.{Path, Def, Part, Cases, Sum, Split, Cube, Least, Learn, False}
use Rattle.cube_rules.specs.Closing.{Proof, line, Proofs, no_proof, proof, preorder}
use Rattle.proof_rules.specs.Idle.{is_cube, is_cases, uses, each_uses, is_idle, facts_of_first, idle_lines, idle_below}
use Rattle.proof_idle.specs.Walk.{added}
use Rattle.proof_prune.specs.Writing.{renumbered}
use Rattle.proof_prune.proofs.Tallies.{under, under_true, under_false, reads_in}
use Rattle.proof_prune.proofs.Kept.{wanted, has_spare, kept, kept_one, kept_all, ranks}
use Rattle.proof_prune.proofs.Ranks.{rank, staying, rank_length, rank_front, staying_more, staying_same, marks_length}
use Rattle.proof_prune.proofs.Idling.{uses_kept, cube_new, cases_new, first_new, cases_adds}

-- ---- a subproof that is not spare reads the one fact that was added

below_or_not : (k n : ℕ) → (k < n) ⊎ (n ≤ k)
below_or_not k n = by (leb_tells n k)
  where
    by : ((nat_le n k ≡ true) × (n ≤ k)) ⊎ ((nat_le n k ≡ false) × (k < n)) → (k < n) ⊎ (n ≤ k)
    by (inl e) = inr e.1
    by (inr e) = inl e.1

not_true : false ≡ true → ⊥
not_true e = absurd (cc)

and_false : (b : Bool) → (b && false) ≡ false
and_false true = refl
and_false false = refl

one_in : (n k : ℕ) → (not (under n k) && under (n + 1) k) ≡ true → nat_eq k n ≡ true
one_in n k e = by (below_or_not k n) (below_or_not k (n + 1)) (eqb_tells k n)
  where
    by : (k < n) ⊎ (n ≤ k) → (k < n + 1) ⊎ (n + 1 ≤ k) → ((nat_eq k n ≡ true) × (k ≡ n)) ⊎ ((nat_eq k n ≡ false) × (k ≡ n → ⊥)) → nat_eq k n ≡ true
    by (inl a) b d = absurd (not_true (sym (ap (λ (x : Bool). not x && under (n + 1) k) (under_true n k a)) ∙ e))
    by (inr a) (inr b) d = absurd (not_true (sym (ap (λ (x : Bool). not (under n k) && x) (under_false (n + 1) k b) ∙ and_false (not (under n k))) ∙ e))
    by (inr a) (inl b) (inl d) = d.0
    by (inr a) (inl b) (inr d) = absurd (d.1 (omega (arith, a, b)))

or_cases : (a b : Bool) → (a || b) ≡ true → (a ≡ true) ⊎ (b ≡ true)
or_cases true b e = inl refl
or_cases false b e = inr e

or_left : (a b : Bool) → a ≡ true → (a || b) ≡ true
or_left true b e = refl
or_left false b e = absurd (cc)

or_right : (a b : Bool) → b ≡ true → (a || b) ≡ true
or_right true b e = refl
or_right false b e = e

one_read : (n : ℕ) (ks : List ℕ) → reads_in n (n + 1) ks ≡ true → list_any (λ f. nat_eq f n) ks ≡ true
one_read n [] e = absurd (cc)
one_read n (k ∷ ks) e = by (or_cases (not (under n k) && under (n + 1) k) (reads_in n (n + 1) ks) e) (one_read n ks)
  where
    by : ((not (under n k) && under (n + 1) k) ≡ true) ⊎ (reads_in n (n + 1) ks ≡ true) → (reads_in n (n + 1) ks ≡ true → list_any (λ f. nat_eq f n) ks ≡ true) → (nat_eq k n || list_any (λ f. nat_eq f n) ks) ≡ true
    by (inl x) g = or_left (nat_eq k n) (list_any (λ f. nat_eq f n) ks) (one_in n k x)
    by (inr x) g = or_right (nat_eq k n) (list_any (λ f. nat_eq f n) ks) (g x)

true_not : true ≡ false → ⊥
true_not e = absurd (cc)

goes_on : (b hs : Bool) → (if b then hs else true) ≡ false → (b ≡ true) × (hs ≡ false)
goes_on true hs e = (refl, e)
goes_on false hs e = absurd (true_not e)

and_both : (a b : Bool) → a ≡ true → b ≡ true → (a && b) ≡ true
and_both true b e f = f
and_both false b e f = absurd (cc)

each_used : (ts : Proofs) (us : List Bool) → has_spare ts 1 (length us) ≡ false → each_uses (kept_all ts 1 us) (staying us) ≡ true
each_used no_proof us e = refl
each_used (proof t ts) us e =
    let n = length us in
    let us' = us ++ replicate 1 true in
    let g = goes_on (reads_in n (n + 1) (wanted t (n + 1))) (has_spare ts 1 n) e in
    let m = marks_length us 1 true in
    let a = ap (λ (i : ℕ). list_any (λ f. nat_eq f n) (wanted t i)) m ∙ one_read n (wanted t (n + 1)) g.0 in
    let r : rank us' n ≡ staying us = rank_front us (replicate 1 true) n (omega arith) ∙ rank_length us in
    and_both (uses (kept t us') (staying us)) (each_uses (kept_all ts 1 us) (staying us))
    (ap (uses (kept t us')) (sym r) ∙ uses_kept t us' n (omega (arith, m)) a)
    (each_used ts us g.1)

-- ---- lines

same_if : (b : Bool) (xs : List ℕ) → (if b then xs else xs) ≡ xs
same_if true xs = refl
same_if false xs = refl

line_idle : (r : Step) (ts : Proofs) (m i : ℕ) → is_idle r ts m ≡ false → (is_cube r ≡ true) ⊎ (idle_below ts (facts_of_first r m) (suc m) (suc i) ≡ []) → idle_lines (line r ts) m i ≡ []
line_idle r ts m i e (inl z) =
    ap (λ (b : Bool). (if b then i ∷ [] else []) ++ (if is_cube r then [] else idle_below ts (facts_of_first r m) (suc m) (suc i))) e
    ∙ ap (λ (b : Bool). if b then [] else idle_below ts (facts_of_first r m) (suc m) (suc i)) z
line_idle r ts m i e (inr z) =
    ap (λ (b : Bool). (if b then i ∷ [] else []) ++ (if is_cube r then [] else idle_below ts (facts_of_first r m) (suc m) (suc i))) e
    ∙ ap (λ (xs : List ℕ). if is_cube r then [] else xs) z
    ∙ same_if (is_cube r) []

not_cases : (l : Step) → is_cube l ≡ true → is_cases l ≡ false
not_cases (Path i) e = refl
not_cases (Def v i) e = refl
not_cases (Part f i) e = refl
not_cases (Cases f n) e = absurd (cc)
not_cases (Sum p f q g d) e = refl
not_cases (Split l) e = refl
not_cases (Cube fs) e = refl
not_cases (Least v n) e = refl
not_cases (Learn ls) e = refl
not_cases (False f) e = refl

cube_not_idle : (us : List Bool) (l : Step) (ts : Proofs) (m : ℕ) → is_cube l ≡ true → is_idle (renumbered (ranks us) l) ts m ≡ false
cube_not_idle us l ts m z = ap (λ (b : Bool). b && not (each_uses ts m)) (cases_new (ranks us) l ∙ not_cases l z)

line_not_idle : (us : List Bool) (l : Step) (ts : Proofs) → has_spare ts (added l) (length us) ≡ false → is_idle (renumbered (ranks us) l) (kept_all ts (added l) us) (staying us) ≡ false
line_not_idle us l ts e = ap (λ (b : Bool). b && not (each_uses (kept_all ts (added l) us) (staying us))) (cases_new (ranks us) l) ∙ by (is_cases l) refl
  where
    by : (b : Bool) → is_cases l ≡ b → (b && not (each_uses (kept_all ts (added l) us) (staying us))) ≡ false
    by false c = refl
    by true c =
        let a = cases_adds l c in
        ap (λ (n : ℕ). not (each_uses (kept_all ts n us) (staying us))) a
        ∙ ap not (each_used ts us (ap (λ (n : ℕ). has_spare ts n (length us)) (sym a) ∙ e))

by_line : (P : Proof → Type 0) (c h : Bool) (x y z : Proof) → (c ≡ true → P x) → P y → (h ≡ false → P z) → P (if c then x else if h then y else z)
by_line P true h x y z f g k = f refl
by_line P false true x y z f g k = g
by_line P false false x y z f g k = k refl

by_part : (P : Proof → Type 0) (b : Bool) (x y : Proof) → P x → P y → P (if b then x else y)
by_part P true x y f g = f
by_part P false x y f g = g

no_more : (xs ys : List ℕ) → xs ≡ [] → ys ≡ [] → xs ++ ys ≡ []
no_more xs ys e f = ap (λ (zs : List ℕ). zs ++ ys) e ∙ f

mutual
  pub none_idle : (t : Proof) (us : List Bool) (i : ℕ) → idle_lines (kept t us) (staying us) i ≡ []
  none_idle (line l ts) us i =
      let a = added l in
      let r = renumbered (ranks us) l in
      let m = staying us in
      by_line (λ x. idle_lines x m i ≡ []) (is_cube l) (has_spare ts a (length us)) (line r ts) (kept_one ts a us) (line r (kept_all ts a us))
      (λ z. line_idle r ts m i (cube_not_idle us l ts m z) (inl (cube_new (ranks us) l ∙ z)))
      (one_idle ts a us i)
      (λ e. line_idle r (kept_all ts a us) m i (line_not_idle us l ts e) (inr (
      ap (λ (n : ℕ). idle_below (kept_all ts a us) n (suc m) (suc i)) (first_new (ranks us) l m) ∙ all_idle ts a us (suc i))))

  one_idle : (ts : Proofs) (a : ℕ) (us : List Bool) (i : ℕ) → idle_lines (kept_one ts a us) (staying us) i ≡ []
  one_idle no_proof a us i = refl
  one_idle (proof t ts) a us i =
      by_part (λ x. idle_lines x (staying us) i ≡ []) (reads_in (length us) (length us + a) (wanted t (length us + a))) (kept_one ts 1 us) (kept t (us ++ replicate a false))
      (one_idle ts 1 us i)
      (ap (λ (n : ℕ). idle_lines (kept t (us ++ replicate a false)) n i) (sym (staying_same us a)) ∙ none_idle t (us ++ replicate a false) i)

  all_idle : (ts : Proofs) (a : ℕ) (us : List Bool) (i : ℕ) → idle_below (kept_all ts a us) (staying us + a) (suc (staying us)) i ≡ []
  all_idle no_proof a us i = refl
  all_idle (proof t ts) a us i =
      let m = suc (staying us) in
      let o : m ≡ staying us + 1 = omega arith in
      let x = kept t (us ++ replicate a true) in
      no_more (idle_lines x (staying us + a) i) (idle_below (kept_all ts 1 us) m m (i + length (preorder x)))
      (ap (λ (n : ℕ). idle_lines x n i) (sym (staying_more us a)) ∙ none_idle t (us ++ replicate a true) i)
      (ap (λ (n : ℕ). idle_below (kept_all ts 1 us) n m (i + length (preorder x))) o ∙ all_idle ts 1 us (i + length (preorder x)))
