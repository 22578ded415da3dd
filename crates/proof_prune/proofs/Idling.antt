-- None of the lines that stay is idle.
use Rattle.std.specs.Prelude.{ℕ, ◌+◌, ◌≤◌, ◌<◌, ◌≡◌, ◌⊎◌, nat_eq, Bool, true, false, not, ◌&&◌, ◌||◌, if◌then◌else◌, List, [], ◌∷◌, ◌++◌, map, length, replicate}
use Rattle.std.specs.List.{list_any}
use Rattle.std.proofs.Common.{arith, ap, ◌∙◌, sym, refl, inl, inr}
use Rattle.std.proofs.lemmas.Bool.{eqb-true}
use Rattle.std.proofs.lemmas.Bool.Decides.{eqb_tells}
use Rattle.cube_rules.specs.declared.Step.{Step}
use Rattle.cube_rules.specs.declared.Step.TheVariants.{Path, Def, Part, Cases, Sum, Split, Cube, Least, Learn, False}
use Rattle.cube_rules.specs.Closing.{Proof, line, Proofs, no_proof, proof}
use Rattle.proof_rules.specs.Idle.{reads, is_cube, is_cases, uses, some_uses, facts_of_first}
use Rattle.proof_idle.specs.Walk.{added}
use Rattle.proof_prune.specs.Counting.{facts_read}
use Rattle.proof_prune.specs.Writing.{renumbered, new_number}
use Rattle.proof_prune.proofs.Tallies.{reads_in}
use Rattle.proof_prune.proofs.Kept.{wanted, wanted_by, has_spare, kept, kept_one, kept_all, ranks}
use Rattle.proof_prune.proofs.Ranks.{rank, rank_front, marks_length, new_is}

-- fact k is one of these
abbrev Among : ℕ → List ℕ → Bool
Among k ks = list_any (λ f. nat_eq f k) ks

or_right : (a b : Bool) → b ≡ true → (a || b) ≡ true
or_right true b e = refl
or_right false b e = e

or_left : (a b : Bool) → a ≡ true → (a || b) ≡ true
or_left true b e = refl
or_left false b e = absurd (cc)

same_eq : (n : ℕ) → nat_eq n n ≡ true
same_eq n = by (eqb_tells n n)
  where
    by : ((nat_eq n n ≡ true) × (n ≡ n)) ⊎ ((nat_eq n n ≡ false) × (n ≡ n → ⊥)) → nat_eq n n ≡ true
    by (inl e) = e.0
    by (inr e) = absurd (e.1 refl)

new_eq : (us : List Bool) (f k : ℕ) → k ≤ length us → nat_eq f k ≡ true → nat_eq (new_number (ranks us) f) (rank us k) ≡ true
new_eq us f k h e =
    let d = eqb-true f k e in
    ap (λ (n : ℕ). nat_eq (new_number (ranks us) n) (rank us k)) d ∙ ap (λ (n : ℕ). nat_eq n (rank us k)) (new_is us k h) ∙ same_eq (rank us k)

-- a test of a list of one or two facts
one_true : (a : Bool) → (a || false) ≡ true → a ≡ true
one_true true e = refl
one_true false e = absurd (cc)

any_new : (us : List Bool) (fs : List ℕ) (k : ℕ) → k ≤ length us → Among k fs ≡ true → list_any (λ f. nat_eq f (rank us k)) (map (new_number (ranks us)) fs) ≡ true
any_new us [] k h e = absurd (cc)
any_new us (f ∷ fs) k h e = by (nat_eq f k) refl e (any_new us fs k h)
  where
    by : (b : Bool) → nat_eq f k ≡ b → (b || Among k fs) ≡ true → (Among k fs ≡ true → list_any (λ f. nat_eq f (rank us k)) (map (new_number (ranks us)) fs) ≡ true)
        → (nat_eq (new_number (ranks us) f) (rank us k) || list_any (λ f. nat_eq f (rank us k)) (map (new_number (ranks us)) fs)) ≡ true
    by true q x g = or_left (nat_eq (new_number (ranks us) f) (rank us k)) (list_any (λ f. nat_eq f (rank us k)) (map (new_number (ranks us)) fs)) (new_eq us f k h q)
    by false q x g = or_right (nat_eq (new_number (ranks us) f) (rank us k)) (list_any (λ f. nat_eq f (rank us k)) (map (new_number (ranks us)) fs)) (g x)

-- a line that reads a fact reads it at its new number
reads_new : (us : List Bool) (l : Step) (k : ℕ) → k ≤ length us → Among k (facts_read l) ≡ true → reads (renumbered (ranks us) l) (rank us k) ≡ true
reads_new us (Path i) k h e = absurd (cc)
reads_new us (Def v i) k h e = absurd (cc)
reads_new us (Part f i) k h e = new_eq us f k h (one_true (nat_eq f k) e)
reads_new us (Cases f n) k h e = new_eq us f k h (one_true (nat_eq f k) e)
reads_new us (Sum p f q g d) k h e = by (nat_eq f k) refl e
  where
    by : (b : Bool) → nat_eq f k ≡ b → (b || (nat_eq g k || false)) ≡ true → (nat_eq (new_number (ranks us) f) (rank us k) || nat_eq (new_number (ranks us) g) (rank us k)) ≡ true
    by true q x = or_left (nat_eq (new_number (ranks us) f) (rank us k)) (nat_eq (new_number (ranks us) g) (rank us k)) (new_eq us f k h q)
    by false q x = or_right (nat_eq (new_number (ranks us) f) (rank us k)) (nat_eq (new_number (ranks us) g) (rank us k)) (new_eq us g k h (one_true (nat_eq g k) x))
reads_new us (Split l) k h e = absurd (cc)
reads_new us (Cube fs) k h e = any_new us fs k h e
reads_new us (Least v n) k h e = absurd (cc)
reads_new us (Learn ls) k h e = absurd (cc)
reads_new us (False f) k h e = new_eq us f k h (one_true (nat_eq f k) e)

pub cube_new : (names : List ℕ) (l : Step) → is_cube (renumbered names l) ≡ is_cube l
cube_new names (Path i) = refl
cube_new names (Def v i) = refl
cube_new names (Part f i) = refl
cube_new names (Cases f n) = refl
cube_new names (Sum p f q g d) = refl
cube_new names (Split l) = refl
cube_new names (Cube fs) = refl
cube_new names (Least v n) = refl
cube_new names (Learn ls) = refl
cube_new names (False f) = refl

pub cases_new : (names : List ℕ) (l : Step) → is_cases (renumbered names l) ≡ is_cases l
cases_new names (Path i) = refl
cases_new names (Def v i) = refl
cases_new names (Part f i) = refl
cases_new names (Cases f n) = refl
cases_new names (Sum p f q g d) = refl
cases_new names (Split l) = refl
cases_new names (Cube fs) = refl
cases_new names (Least v n) = refl
cases_new names (Learn ls) = refl
cases_new names (False f) = refl

pub first_new : (names : List ℕ) (l : Step) (n : ℕ) → facts_of_first (renumbered names l) n ≡ n + added l
first_new names (Path i) n = omega arith
first_new names (Def v i) n = omega arith
first_new names (Part f i) n = omega arith
first_new names (Cases f m) n = omega arith
first_new names (Sum p f q g d) n = omega arith
first_new names (Split l) n = omega arith
first_new names (Cube fs) n = omega arith
first_new names (Least v m) n = omega arith
first_new names (Learn ls) n = refl
first_new names (False f) n = omega arith

pub cases_adds : (l : Step) → is_cases l ≡ true → added l ≡ 1
cases_adds (Path i) e = absurd (cc)
cases_adds (Def v i) e = absurd (cc)
cases_adds (Part f i) e = absurd (cc)
cases_adds (Cases f n) e = refl
cases_adds (Sum p f q g d) e = absurd (cc)
cases_adds (Split l) e = absurd (cc)
cases_adds (Cube fs) e = absurd (cc)
cases_adds (Least v n) e = absurd (cc)
cases_adds (Learn ls) e = absurd (cc)
cases_adds (False f) e = absurd (cc)

-- ---- what is wanted is used

among_append : (k : ℕ) (ks ms : List ℕ) → Among k (ks ++ ms) ≡ true → (Among k ks ≡ true) ⊎ (Among k ms ≡ true)
among_append k [] ms e = inr e
among_append k (f ∷ ks) ms e = by (nat_eq f k) refl e (among_append k ks ms)
  where
    by : (b : Bool) → nat_eq f k ≡ b → (b || Among k (ks ++ ms)) ≡ true → (Among k (ks ++ ms) ≡ true → (Among k ks ≡ true) ⊎ (Among k ms ≡ true)) → ((nat_eq f k || Among k ks) ≡ true) ⊎ (Among k ms ≡ true)
    by true q x g = inl (or_left (nat_eq f k) (Among k ks) q)
    by false q x g = on (g x)
      where
        on : (Among k ks ≡ true) ⊎ (Among k ms ≡ true) → ((nat_eq f k || Among k ks) ≡ true) ⊎ (Among k ms ≡ true)
        on (inl y) = inl (or_right (nat_eq f k) (Among k ks) y)
        on (inr y) = inr y

not_cube : (c b : Bool) → c ≡ false → b ≡ true → (not c && b) ≡ true
not_cube true b e f = absurd (cc)
not_cube false b e f = f

by_line : (P : Proof → Type 0) (k : ℕ) (c h : Bool) (x y z : Proof) (ks ms : List ℕ) → Among k (if c then ks else ms) ≡ true
    → (Among k ks ≡ true → P x) → (h ≡ true → Among k ms ≡ true → P y) → (c ≡ false → h ≡ false → Among k ms ≡ true → P z) → P (if c then x else if h then y else z)
by_line P k true h x y z ks ms e f g i = f e
by_line P k false true x y z ks ms e f g i = g refl e
by_line P k false false x y z ks ms e f g i = i refl refl e

by_part : (P : Proof → Type 0) (k : ℕ) (b h : Bool) (ms ws : List ℕ) (x y : Proof) → (if b then h else true) ≡ true → Among k (if b then ms else ws) ≡ true → (h ≡ true → Among k ms ≡ true → P x) → (Among k ws ≡ true → P y) → P (if b then x else y)
by_part P k true h ms ws x y e m f g = f e m
by_part P k false h ms ws x y e m f g = g m

true_not : true ≡ false → ⊥
true_not e = absurd (cc)

goes_on : (k : ℕ) (b hs : Bool) (ms ws : List ℕ) → (if b then hs else true) ≡ false → Among k (if b then ms else ws) ≡ true → (b ≡ true) × (hs ≡ false) × (Among k ms ≡ true)
goes_on k true hs ms ws e h = (refl, e, h)
goes_on k false hs ms ws e h = absurd (true_not e)

abbrev Found : Bool → Bool → Type 0
Found a b = (a ≡ true) ⊎ (b ≡ true)

split_used : (k : ℕ) (own ws : List ℕ) (b c : Bool) → (Among k ws ≡ true → b ≡ true) → Found (Among k (own ++ ws)) c → Found (Among k own) (b || c)
split_used k own ws b c f (inr x) = inr (or_right b c x)
split_used k own ws b c f (inl x) = by (among_append k own ws x)
  where
    by : (Among k own ≡ true) ⊎ (Among k ws ≡ true) → Found (Among k own) (b || c)
    by (inl y) = inl y
    by (inr y) = inr (or_left b c (f y))

used_line : (a b c : Bool) → c ≡ false → Found a b → (a || (not c && b)) ≡ true
used_line a b c e (inl x) = or_left a (not c && b) x
used_line a b c e (inr x) = or_right a (not c && b) (not_cube c b e x)

read_found : (a a' b : Bool) → (a ≡ true → a' ≡ true) → Found a b → Found a' b
read_found a a' b f (inl x) = inl (f x)
read_found a a' b f (inr x) = inr x

front_uses : (t : Proof) (us : List Bool) (a : ℕ) (b : Bool) (k : ℕ) → k < length us → uses t (rank (us ++ replicate a b) k) ≡ true → uses t (rank us k) ≡ true
front_uses t us a b k h e = ap (uses t) (sym (rank_front us (replicate a b) k (omega (arith, h)))) ∙ e

part_uses : (t : Proof) (us : List Bool) (k a : ℕ) (b : Bool) → k < length us → Among k (wanted t (length us + a)) ≡ true
    → (k < length (us ++ replicate a b) → Among k (wanted t (length (us ++ replicate a b))) ≡ true → uses (kept t (us ++ replicate a b)) (rank (us ++ replicate a b) k) ≡ true)
    → uses (kept t (us ++ replicate a b)) (rank (us ++ replicate a b) k) ≡ true
part_uses t us k a b h m f =
    let l = marks_length us a b in
    f (omega (arith, h, l)) (ap (λ (n : ℕ). Among k (wanted t n)) l ∙ m)

mutual
  pub uses_kept : (t : Proof) (us : List Bool) (k : ℕ) → k < length us → Among k (wanted t (length us)) ≡ true → uses (kept t us) (rank us k) ≡ true
  uses_kept (line l ts) us k h e =
      let a = added l in
      let r = renumbered (ranks us) l in
      by_line (λ x. uses x (rank us k) ≡ true) k (is_cube l) (has_spare ts a (length us)) (line r ts) (kept_one ts a us) (line r (kept_all ts a us)) (facts_read l) (wanted_by ts a (length us) (facts_read l)) e
      (λ m. or_left (reads r (rank us k)) (not (is_cube r) && some_uses ts (rank us k)) (reads_new us l k (omega (arith, h)) m))
      (λ s m. one_uses ts us k a (facts_read l) h s m)
      (λ z s m. used_line (reads r (rank us k)) (some_uses (kept_all ts a us) (rank us k)) (is_cube r) (cube_new (ranks us) l ∙ z)
      (read_found (Among k (facts_read l)) (reads r (rank us k)) (some_uses (kept_all ts a us) (rank us k)) (reads_new us l k (omega (arith, h))) (all_use ts us k a (facts_read l) h s m)))

  one_uses : (ts : Proofs) (us : List Bool) (k a : ℕ) (own : List ℕ) → k < length us → has_spare ts a (length us) ≡ true → Among k (wanted_by ts a (length us) own) ≡ true → uses (kept_one ts a us) (rank us k) ≡ true
  one_uses no_proof us k a own h s m = absurd (true_not (sym s))
  one_uses (proof t ts) us k a own h s m =
      let n = length us in
      let w = wanted t (n + a) in
      by_part (λ x. uses x (rank us k) ≡ true) k (reads_in n (n + a) w) (has_spare ts 1 n) (wanted_by ts 1 n (own ++ w)) w (kept_one ts 1 us) (kept t (us ++ replicate a false)) s m
      (λ s' m'. one_uses ts us k 1 (own ++ w) h s' m')
      (λ m'. front_uses (kept t (us ++ replicate a false)) us a false k h (part_uses t us k a false h m' (uses_kept t (us ++ replicate a false) k)))

  all_use : (ts : Proofs) (us : List Bool) (k a : ℕ) (own : List ℕ) → k < length us → has_spare ts a (length us) ≡ false → Among k (wanted_by ts a (length us) own) ≡ true → Found (Among k own) (some_uses (kept_all ts a us) (rank us k))
  all_use no_proof us k a own h s m = inl m
  all_use (proof t ts) us k a own h s m =
      let n = length us in
      let w = wanted t (n + a) in
      let g = goes_on k (reads_in n (n + a) w) (has_spare ts 1 n) (wanted_by ts 1 n (own ++ w)) w s m in
      split_used k own w (uses (kept t (us ++ replicate a true)) (rank us k)) (some_uses (kept_all ts 1 us) (rank us k))
      (λ m'. front_uses (kept t (us ++ replicate a true)) us a true k h (part_uses t us k a true h m' (uses_kept t (us ++ replicate a true) k)))
      (all_use ts us k 1 (own ++ w) h g.1 g.2)
