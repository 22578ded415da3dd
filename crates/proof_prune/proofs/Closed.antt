-- What stays of a proof closes its context, with the facts that stay.
use Rattle.std.specs.Prelude.{ℕ, ◌+◌, ◌≤◌, ◌<◌, ◌≡◌, ◌⊎◌, nat_le, Bool, true, false, not, ◌&&◌, ◌||◌, if◌then◌else◌, Some, List, [], ◌∷◌, ◌++◌, length, replicate}
use Rattle.std.proofs.Common.{arith, ap, ◌∙◌, sym, subst, refl, inl, inr}
use Rattle.std.proofs.lemmas.List.{length-append}
use Rattle.std.proofs.lemmas.Bool.Decides.{leb_tells}
use Rattle.lin_term.specs.declared.Sort.{Sort}
use Rattle.dom_core.specs.Game.{Matrix}
use Rattle.lose_system.specs.Losing.{System}
use Rattle.cube_rules.specs.declared.Step.{Step}
use Rattle.cube_rules.specs.Context.{Context}
use Rattle.cube_rules.specs.Closing.{Proof, line, Proofs, no_proof, proof, Closes, CloseAll}
use Rattle.proof_rules.specs.Rules.{apply}
use Rattle.proof_rules.specs.Idle.{is_cube}
use Rattle.proof_idle.specs.Walk.{added}
use Rattle.proof_prune.specs.Counting.{facts_read}
use Rattle.proof_prune.specs.Writing.{renumbered}
use Rattle.proof_prune.proofs.Tallies.{under, under_true, under_false, reads_in}
use Rattle.proof_prune.proofs.Kept.{wanted, wanted_by, has_spare, kept, kept_one, kept_all, ranks}
use Rattle.proof_prune.proofs.Ranks.{stays, thinned_more, thinned_same, stays_front, stays_behind, marks_length}
use Rattle.proof_prune.proofs.Thinned.{thin, more_facts, with_each, HasCounts, Stay, Thinned, line_thin, cube_thin}

-- ---- which facts stay

pub stay_left : (us : List Bool) (ks ms : List ℕ) → Stay us (ks ++ ms) → Stay us ks
stay_left us [] ms h = tt
stay_left us (k ∷ ks) ms h = (h.0, stay_left us ks ms h.1)

pub stay_right : (us : List Bool) (ks ms : List ℕ) → Stay us (ks ++ ms) → Stay us ms
stay_right us [] ms h = h
stay_right us (k ∷ ks) ms h = stay_right us ks ms h.1

below_or_not : (k n : ℕ) → (k < n) ⊎ (n ≤ k)
below_or_not k n = by (leb_tells n k)
  where
    by : ((nat_le n k ≡ true) × (n ≤ k)) ⊎ ((nat_le n k ≡ false) × (k < n)) → (k < n) ⊎ (n ≤ k)
    by (inl e) = inr e.1
    by (inr e) = inl e.1

-- facts that stay are added
more_stay : (us : List Bool) (a : ℕ) (ks : List ℕ) → Stay us ks → Stay (us ++ replicate a true) ks
more_stay us a [] h = tt
more_stay us a (k ∷ ks) h = (λ l. by l (below_or_not k (length us)), more_stay us a ks h.1)
  where
    by : k < length (us ++ replicate a true) → (k < length us) ⊎ (length us ≤ k) → stays (us ++ replicate a true) k ≡ true
    by l (inl b) = stays_front us (replicate a true) k b ∙ h.0 b
    by l (inr b) = let m = marks_length us a true in stays_behind us a k b (omega (arith, l, m))

or_false : (a b : Bool) → (a || b) ≡ false → (a ≡ false) × (b ≡ false)
or_false true b e = absurd (cc)
or_false false b e = (refl, e)

true_false : (b : Bool) → b ≡ true → b ≡ false → ⊥
true_false true e f = absurd (cc)
true_false false e f = absurd (cc)

in_range : (n m k : ℕ) → n ≤ k → k < m → (not (under n k) && under m k) ≡ true
in_range n m k l h = ap (λ (b : Bool). not b && under m k) (under_false n k l) ∙ under_true m k h

-- facts that do not stay are added, of which none is read
none_stay : (us : List Bool) (a : ℕ) (ks : List ℕ) → Stay us ks → reads_in (length us) (length us + a) ks ≡ false → Stay (us ++ replicate a false) ks
none_stay us a [] h r = tt
none_stay us a (k ∷ ks) h r =
    let o = or_false (not (under (length us) k) && under (length us + a) k) (reads_in (length us) (length us + a) ks) r in
    (λ l. by o.0 l (below_or_not k (length us)), none_stay us a ks h.1 o.1)
  where
    by : (not (under (length us) k) && under (length us + a) k) ≡ false → k < length (us ++ replicate a false) → (k < length us) ⊎ (length us ≤ k) → stays (us ++ replicate a false) k ≡ true
    by z l (inl b) = stays_front us (replicate a false) k b ∙ h.0 b
    by z l (inr b) = let m = marks_length us a false in absurd (true_false (not (under (length us) k) && under (length us + a) k) (in_range (length us) (length us + a) k b (omega (arith, l, m))) z)

all_stay : (n : ℕ) (ks : List ℕ) → Stay (replicate n true) ks
all_stay n [] = tt
all_stay n (k ∷ ks) = (λ l. let m = marks_length [] n true in stays_behind [] n k (omega arith) (omega (arith, l, m)), all_stay n ks)

-- ---- where no subproof is spare, what was read before is wanted, and what each of them wants

goes_on : (us : List Bool) (b hs : Bool) (ms ws : List ℕ) → (if b then hs else true) ≡ false → Stay us (if b then ms else ws) → (hs ≡ false) × Stay us ms
goes_on us true hs ms ws e h = (e, h)
goes_on us false hs ms ws e h = absurd (true_false true refl e)

pub own_wanted : (us : List Bool) (ts : Proofs) (a n : ℕ) (own : List ℕ) → has_spare ts a n ≡ false → Stay us (wanted_by ts a n own) → Stay us own
own_wanted us no_proof a n own e h = h
own_wanted us (proof t ts) a n own e h =
    let w = wanted t (n + a) in
    let g = goes_on us (reads_in n (n + a) w) (has_spare ts 1 n) (wanted_by ts 1 n (own ++ w)) w e h in
    stay_left us own w (own_wanted us ts 1 n (own ++ w) g.0 g.1)

-- ---- whole proofs

-- facts besides, which all stay, or of which none does
thin_more : (us : List Bool) (c : Context) (ms : List Matrix) (a : ℕ) → length c.facts ≡ length us → length ms ≡ a → thin (us ++ replicate a true) (more_facts c ms) ≡ more_facts (thin us c) ms
thin_more us c ms a n k = ap (λ (fs : List Matrix). let x : Context = record { bare = c.bare; facts = fs } in x) (thinned_more us c.facts ms a n k)

thin_same : (us : List Bool) (c : Context) (ms : List Matrix) (a : ℕ) → length c.facts ≡ length us → thin (us ++ replicate a false) (more_facts c ms) ≡ thin us c
thin_same us c ms a n = ap (λ (fs : List Matrix). let x : Context = record { bare = c.bare; facts = fs } in x) (thinned_same us c.facts ms a n)

more_length : (us : List Bool) (c : Context) (ms : List Matrix) (a : ℕ) (b : Bool) → length c.facts ≡ length us → length ms ≡ a → length (c.facts ++ ms) ≡ length (us ++ replicate a b)
more_length us c ms a b n k = let x = length-append c.facts ms in let y = marks_length us a b in omega (arith, x, y, n, k)

by_line : (P : Proof → Type 0) (c h : Bool) (x y z : Proof) → (c ≡ true → P x) → (c ≡ false → h ≡ true → P y) → (c ≡ false → h ≡ false → P z) → P (if c then x else if h then y else z)
by_line P true h x y z f g k = f refl
by_line P false true x y z f g k = g refl refl
by_line P false false x y z f g k = k refl refl

by_part : (P : Proof → Type 0) (us : List Bool) (b h : Bool) (ms ws : List ℕ) (x y : Proof) → (if b then h else true) ≡ true → Stay us (if b then ms else ws) → (h ≡ true → Stay us ms → P x) → (b ≡ false → Stay us ws → P y) → P (if b then x else y)
by_part P us true h ms ws x y e s f g = f e s
by_part P us false h ms ws x y e s f g = g refl s

cube_wants : (us : List Bool) (c : Bool) (ks ms : List ℕ) → c ≡ true → Stay us (if c then ks else ms) → Stay us ks
cube_wants us true ks ms e h = h
cube_wants us false ks ms e h = absurd (true_false false e refl)

line_wants : (us : List Bool) (c : Bool) (ks ms : List ℕ) → c ≡ false → Stay us (if c then ks else ms) → Stay us ms
line_wants us false ks ms e h = h
line_wants us true ks ms e h = absurd (true_false true refl e)

-- a line of which a subproof is spare: what it leaves
left_of : (s : Sort) (sys : System) (c : Context) (l : Step) (ks : List Context) → c.bare ≡ false → is_cube l ≡ false → apply s sys c l ≡ Some ks → Thinned (replicate (length c.facts) true) s sys c l ks
left_of s sys c l ks o z e =
    let n = length c.facts in
    let m : n ≡ length (replicate n true) = (let x = marks_length [] n true in omega (arith, x)) in
    line_thin s sys (replicate n true) c l ks o m (all_stay n (facts_read l)) z e

mutual
  pub closes_kept : (t : Proof) (s : Sort) (sys : System) (us : List Bool) (c : Context) → c.bare ≡ false → length c.facts ≡ length us → Stay us (wanted t (length us)) → Closes t (apply s sys) c → Closes (kept t us) (apply s sys) (thin us c)
  closes_kept (line l ts) s sys us c o n w h =
      let ms = wanted_by ts (added l) (length us) (facts_read l) in
      by_line (λ x. Closes x (apply s sys) (thin us c)) (is_cube l) (has_spare ts (added l) (length us)) (line (renumbered (ranks us) l) ts) (kept_one ts (added l) us) (line (renumbered (ranks us) l) (kept_all ts (added l) us))
      (λ z. (h.0, cube_thin s sys us c l h.0 n (cube_wants us (is_cube l) (facts_read l) ms z w) z h.1, h.2))
      (λ z e. let r = left_of s sys c l h.0 o z h.1 in
      one_closes ts s sys us c (added l) (facts_read l) r.facts o n e (line_wants us (is_cube l) (facts_read l) ms z w) r.counts (subst (λ (ks : List Context). CloseAll ts (apply s sys) ks) r.before h.2))
      (λ z e. let v = line_wants us (is_cube l) (facts_read l) ms z w in
      let r = line_thin s sys us c l h.0 o n (own_wanted us ts (added l) (length us) (facts_read l) e v) z h.1 in
      (with_each (thin us c) r.facts, r.after, all_close ts s sys us c (added l) (facts_read l) r.facts o n e v r.counts (subst (λ (ks : List Context). CloseAll ts (apply s sys) ks) r.before h.2)))

  one_closes : (ts : Proofs) (s : Sort) (sys : System) (us : List Bool) (c : Context) (a : ℕ) (own : List ℕ) (xss : List (List Matrix)) → c.bare ≡ false → length c.facts ≡ length us → has_spare ts a (length us) ≡ true → Stay us (wanted_by ts a (length us) own) → HasCounts a xss → CloseAll ts (apply s sys) (with_each c xss)
      → Closes (kept_one ts a us) (apply s sys) (thin us c)
  one_closes no_proof s sys us c a own xss o n e w k h = absurd (true_false false e refl)
  one_closes (proof t ts) s sys us c a own [] o n e w k h = absurd h
  one_closes (proof t ts) s sys us c a own (ms ∷ mss) o n e w k h =
      let ws = wanted t (length us + a) in
      by_part (λ x. Closes x (apply s sys) (thin us c)) us (reads_in (length us) (length us + a) ws) (has_spare ts 1 (length us)) (wanted_by ts 1 (length us) (own ++ ws)) ws (kept_one ts 1 us) (kept t (us ++ replicate a false)) e w
      (λ e' w'. one_closes ts s sys us c 1 (own ++ ws) mss o n e' w' k.1 h.1)
      (λ b v. subst (λ (d : Context). Closes (kept t (us ++ replicate a false)) (apply s sys) d) (thin_same us c ms a n)
      (closes_kept t s sys (us ++ replicate a false) (more_facts c ms) o (more_length us c ms a false n k.0)
      (subst (λ (i : ℕ). Stay (us ++ replicate a false) (wanted t i)) (sym (marks_length us a false)) (none_stay us a ws v b)) h.0))

  all_close : (ts : Proofs) (s : Sort) (sys : System) (us : List Bool) (c : Context) (a : ℕ) (own : List ℕ) (xss : List (List Matrix)) → c.bare ≡ false → length c.facts ≡ length us → has_spare ts a (length us) ≡ false → Stay us (wanted_by ts a (length us) own) → HasCounts a xss → CloseAll ts (apply s sys) (with_each c xss)
      → CloseAll (kept_all ts a us) (apply s sys) (with_each (thin us c) xss)
  all_close no_proof s sys us c a own [] o n e w k h = tt
  all_close no_proof s sys us c a own (ms ∷ mss) o n e w k h = absurd h
  all_close (proof t ts) s sys us c a own [] o n e w k h = absurd h
  all_close (proof t ts) s sys us c a own (ms ∷ mss) o n e w k h =
      let ws = wanted t (length us + a) in
      let g = goes_on us (reads_in (length us) (length us + a) ws) (has_spare ts 1 (length us)) (wanted_by ts 1 (length us) (own ++ ws)) ws e w in
      let v = stay_right us own ws (own_wanted us ts 1 (length us) (own ++ ws) g.0 g.1) in (
        subst (λ (d : Context). Closes (kept t (us ++ replicate a true)) (apply s sys) d) (thin_more us c ms a n k.0)
            (closes_kept t s sys (us ++ replicate a true) (more_facts c ms) o (more_length us c ms a true n k.0)
            (subst (λ (i : ℕ). Stay (us ++ replicate a true) (wanted t i)) (sym (marks_length us a true)) (more_stay us a ws v)) h.0),
        all_close ts s sys us c 1 (own ++ ws) mss o n g.0 g.1 k.1 h.1,
      )
