-- Whether a point solves a losing system: the matrix of each path, part by part, and the definition of each node.
use Rattle.std.specs.Prelude.{ℕ, zero, suc, ◌+◌, ◌<◌, ◌≤◌, ◌≡◌, ◌≢◌, ◌↔◌, IsTrue, ℤ, pos, negsuc, ◌-ℤ◌, neg_ℤ, nat_eq, Bool, true, false, Option, Some, None, option_map, option_and_then, IfSome, slice_get, List, [], ◌∷◌, ◌++◌, length, map, get_or, drop}
use Rattle.std.proofs.Common.{arith, ap, ◌∙◌, sym, subst, refl, inl, inr, cond}
use Rattle.std.proofs.lemmas.Bool.{cases_lt}
use Rattle.std.proofs.lemmas.List.{at_drop_all}
use Rattle.lin_term.specs.declared.Sort.{Sort}
use Rattle.lin_term.specs.declared.Sort.TheVariants.{Rat, Int}
use Rattle.lin_term.specs.declared.Lit.{Lit}
use Rattle.lin_term.specs.declared.Lit.TheVariants.{AtLeast, Above, Divides, NotDivides}
use Rattle.lin_term.specs.Linear.{Point, IsPoint, Below, BelowTerms, put_front, plus, times, constant_form, variable_form, rename, rename_terms}
use Rattle.lin_term.specs.Literal.{Holds, IsPrimitive, neg, form_of, rename_lit}
use Rattle.lin_term.specs.Move.{Move}
use Rattle.lin_term.specs.Definition.{Definition, definition, rename_move, upper_form, lower_form}
use Rattle.lin_term.specs.Rising.{IsRising}
use Rattle.lin_term.proofs.AtNames.{renamed_below, rising_more}
use Rattle.dom_core.specs.declared.Matrix.{Matrix as Written, fold-roll-Matrix}
use Rattle.dom_core.specs.declared.Matrix.TheVariants.{And, rolls-And}
use Rattle.dom_core.specs.declared.Matrix.TheOpen.{Matrix-F}
use Rattle.dom_core.specs.declared.Quant.{Quant}
use Rattle.dom_core.specs.Game.{Matrix, Matrices, all, none, more, HoldsIn, AllHold, AllFail}
use Rattle.dom_core.specs.View.{matrix_of, matrices_of, matrix_step}
use Rattle.dom_core.proofs.AddingLemmas.{split_at}
use Rattle.dom_core.proofs.Renaming.{prim_below, plus_below, times_below}
use Rattle.game_tree.specs.Skeleton.{Skeleton, end, theirs, mine, Branches, no_more, branch, nodes, Follows}
use Rattle.lose_system.specs.Losing.{definitions, branch_definitions, definition_at, literal_number, AllDefined, BothHold, HoldsAt, AllLose, System, Solves}
use Rattle.lose_system.specs.Place.{Place}
use Rattle.lose_system.specs.Table.{places, route, definition_of}
use Rattle.lose_system.proofs.Filling.{length-places}
use Rattle.lose_system.proofs.Found.{first_only, second_only, other_node, same_node, none_before, none_before_branches, none_after, all_definitions}
use Rattle.lose_system.proofs.Rise.{length-route, all_places_kept}
use Rattle.lose_system.proofs.Seen.{neg_below}
use Rattle.lose_system.proofs.LostLemmas.{lost, all_lost}

-- what a test says
pub fails : {P : Type 0} → ¬ P → IsTrue false ↔ P
fails h = (λ e. absurd (cc), λ p. absurd (h p))

pub holds : {P : Type 0} → P → IsTrue true ↔ P
holds p = (λ e. p, λ q. refl)

pub refuted : (r : Bool) (P : Type 0) → (IsTrue r ↔ P) → r ≡ false → ¬ P
refuted r P h e p = let u : r ≡ true = h.1 p in let v : true ≡ false = sym u ∙ e in absurd (cc)

-- ---- literals

renamed_form : (names : List ℕ) (l : Lit) → form_of (rename_lit names l) ≡ rename names (form_of l)
renamed_form names (AtLeast f) = refl
renamed_form names (Above f) = refl
renamed_form names (Divides d f) = refl
renamed_form names (NotDivides d f) = refl

pub negation_below : (s : Sort) (names : List ℕ) (n : ℕ) (l k : Lit) → IsRising names n → IsPrimitive s l → Below (length names) (form_of l) → k ≡ rename_lit names (neg s l) → Below n (form_of k)
negation_below s names n l k r p b e =
    subst (λ (x : Lit). Below n (form_of x)) (sym e)
    (subst (λ (f : _). Below n f) (sym (renamed_form names (neg s l))) (renamed_below names n (form_of (neg s l)).terms r (neg_below s (length names) l p b)))

-- ---- parts

pub seen_and : (ts : List Written) → matrix_of (And ts) ≡ all (matrices_of ts)
seen_and ts = ap matrix_of (sym (rolls-And ts)) ∙ fold-roll-Matrix Matrix matrix_step (Matrix-F.And ts)

lost_at : (ts : List Written) (s : Sort) (names : List ℕ) (i : ℕ) (t : Written) → i < length ts → t ≡ get_or ts i t
    → all_lost (matrices_of (drop i ts)) s names ≡ more (lost (matrix_of t) s names) (all_lost (matrices_of (drop (i + 1) ts)) s names)
lost_at ts s names i t l e = ap (λ (us : List Written). all_lost (matrices_of us) s names) (split_at ts i t l e)

lost_end : (ts : List Written) (s : Sort) (names : List ℕ) (i : ℕ) → length ts ≤ i → all_lost (matrices_of (drop i ts)) s names ≡ none
lost_end ts s names i l = at_drop_all (λ (us : List Written). all_lost (matrices_of us) s names) ts i l

hold_drop : (ts : List Written) (s : Sort) (names : List ℕ) (p : Point) (i : ℕ) → AllHold (all_lost (matrices_of ts) s names) p → AllHold (all_lost (matrices_of (drop i ts)) s names) p
hold_drop [] s names p zero h = h
hold_drop [] s names p (suc i) h = h
hold_drop (t ∷ ts) s names p zero h = h
hold_drop (t ∷ ts) s names p (suc i) h = hold_drop ts s names p i h.1

fail_drop : (ts : List Written) (s : Sort) (names : List ℕ) (p : Point) (i : ℕ) → AllFail (all_lost (matrices_of ts) s names) p → AllFail (all_lost (matrices_of (drop i ts)) s names) p
fail_drop [] s names p zero h = h
fail_drop [] s names p (suc i) h = h
fail_drop (t ∷ ts) s names p zero h = h
fail_drop (t ∷ ts) s names p (suc i) h = fail_drop ts s names p i h.1

-- a part that loses
pub some_found : (ts : List Written) (s : Sort) (names : List ℕ) (p : Point) (i : ℕ) (t : Written) → i < length ts → t ≡ get_or ts i t → HoldsIn (lost (matrix_of t) s names) p → IsTrue true ↔ ¬ AllFail (all_lost (matrices_of ts) s names) p
some_found ts s names p i t l e h = holds (λ f. (subst (λ (ms : Matrices). AllFail ms p) (lost_at ts s names i t l e) (fail_drop ts s names p i f)).0 h)

pub fail_more : (ts : List Written) (s : Sort) (names : List ℕ) (p : Point) (i : ℕ) (t : Written) → i < length ts → t ≡ get_or ts i t → ¬ HoldsIn (lost (matrix_of t) s names) p
    → (AllFail (all_lost (matrices_of (drop i ts)) s names) p → AllFail (all_lost (matrices_of ts) s names) p) → AllFail (all_lost (matrices_of (drop (i + 1) ts)) s names) p → AllFail (all_lost (matrices_of ts) s names) p
fail_more ts s names p i t l e h f g = f (subst (λ (ms : Matrices). AllFail ms p) (sym (lost_at ts s names i t l e)) (h, g))

pub none_found : (ts : List Written) (s : Sort) (names : List ℕ) (p : Point) (i : ℕ) → length ts ≤ i → (AllFail (all_lost (matrices_of (drop i ts)) s names) p → AllFail (all_lost (matrices_of ts) s names) p) → IsTrue false ↔ ¬ AllFail (all_lost (matrices_of ts) s names) p
none_found ts s names p i l f = fails (λ n. n (f (subst (λ (ms : Matrices). AllFail ms p) (sym (lost_end ts s names i l)) tt)))

-- a part that does not lose
pub one_wins : (ts : List Written) (s : Sort) (names : List ℕ) (p : Point) (i : ℕ) (t : Written) → i < length ts → t ≡ get_or ts i t → ¬ HoldsIn (lost (matrix_of t) s names) p → IsTrue false ↔ AllHold (all_lost (matrices_of ts) s names) p
one_wins ts s names p i t l e h = fails (λ f. h (subst (λ (ms : Matrices). AllHold ms p) (lost_at ts s names i t l e) (hold_drop ts s names p i f)).0)

pub hold_more : (ts : List Written) (s : Sort) (names : List ℕ) (p : Point) (i : ℕ) (t : Written) → i < length ts → t ≡ get_or ts i t → HoldsIn (lost (matrix_of t) s names) p
    → (AllHold (all_lost (matrices_of (drop i ts)) s names) p → AllHold (all_lost (matrices_of ts) s names) p) → AllHold (all_lost (matrices_of (drop (i + 1) ts)) s names) p → AllHold (all_lost (matrices_of ts) s names) p
hold_more ts s names p i t l e h f g = f (subst (λ (ms : Matrices). AllHold ms p) (sym (lost_at ts s names i t l e)) (h, g))

pub all_found : (ts : List Written) (s : Sort) (names : List ℕ) (p : Point) (i : ℕ) → length ts ≤ i → (AllHold (all_lost (matrices_of (drop i ts)) s names) p → AllHold (all_lost (matrices_of ts) s names) p) → IsTrue true ↔ AllHold (all_lost (matrices_of ts) s names) p
all_found ts s names p i l f = holds (f (subst (λ (ms : Matrices). AllHold ms p) (sym (lost_end ts s names i l)) tt))

-- ---- paths

-- the parts of a call for what they are
pub lost_same : (m m1 : Written) (s s1 : Sort) (names names1 : List ℕ) (p : Point) (b : Bool) → m1 ≡ m → s1 ≡ s → names1 ≡ names → (IsTrue b ↔ HoldsIn (lost (matrix_of m1) s1 names1) p) → IsTrue b ↔ HoldsIn (lost (matrix_of m) s names) p
lost_same m m1 s s1 names names1 p b e f g h =
    subst (λ (x : Written). IsTrue b ↔ HoldsIn (lost (matrix_of x) s names) p) e (subst (λ (x : Sort). IsTrue b ↔ HoldsIn (lost (matrix_of m1) x names) p) f (subst (λ (x : List ℕ). IsTrue b ↔ HoldsIn (lost (matrix_of m1) s1 x) p) g h))

-- each path from k on loses
abbrev pub LoseFrom : Matrix → Sort → List (List ℕ) → ℕ → Point → Type 0
LoseFrom m s ways k p = AllLose (map (lost m s) (drop k ways)) p

way_at : (ways : List (List ℕ)) (k : ℕ) (names : List ℕ) → Some names ≡ slice_get ways k → drop k ways ≡ names ∷ drop (k + 1) ways
way_at [] k names e = absurd (cc)
way_at (w ∷ ways) zero names e = let f : names ≡ w = cc in ap (λ (x : List ℕ). x ∷ ways) (sym f)
way_at (w ∷ ways) (suc k) names e = way_at ways k names e ∙ ap (λ (j : ℕ). names ∷ drop j (w ∷ ways)) (let o : suc (k + 1) ≡ suc k + 1 = omega arith in o)

lose_drop : (m : Matrix) (s : Sort) (ways : List (List ℕ)) (p : Point) (k : ℕ) → AllLose (map (lost m s) ways) p → LoseFrom m s ways k p
lose_drop m s [] p zero h = h
lose_drop m s [] p (suc k) h = h
lose_drop m s (w ∷ ways) p zero h = h
lose_drop m s (w ∷ ways) p (suc k) h = lose_drop m s ways p k h.1

pub way_wins : (m : Matrix) (s : Sort) (ways : List (List ℕ)) (p : Point) (k : ℕ) (names : List ℕ) → Some names ≡ slice_get ways k → ¬ HoldsIn (lost m s names) p → IsTrue false ↔ AllLose (map (lost m s) ways) p
way_wins m s ways p k names e h =
    fails (λ a. h (subst (λ (ws : List (List ℕ)). AllLose (map (lost m s) ws) p) (way_at ways k names e) (lose_drop m s ways p k a)).0)

pub way_more : (m : Matrix) (s : Sort) (ways : List (List ℕ)) (p : Point) (k : ℕ) (names : List ℕ) → Some names ≡ slice_get ways k → HoldsIn (lost m s names) p
    → (LoseFrom m s ways k p → AllLose (map (lost m s) ways) p) → LoseFrom m s ways (k + 1) p → AllLose (map (lost m s) ways) p
way_more m s ways p k names e h f g = f (subst (λ (ws : List (List ℕ)). AllLose (map (lost m s) ws) p) (sym (way_at ways k names e)) (h, g))

past_end : {A : Type 0} (xs : List A) (k : ℕ) → None ≡ slice_get xs k → drop k xs ≡ []
past_end [] zero e = refl
past_end [] (suc k) e = refl
past_end (x ∷ xs) zero e = absurd (cc)
past_end (x ∷ xs) (suc k) e = past_end xs k e

pub ways_end : (m : Matrix) (s : Sort) (ways : List (List ℕ)) (p : Point) (k : ℕ) → None ≡ slice_get ways k → (LoseFrom m s ways k p → AllLose (map (lost m s) ways) p) → IsTrue true ↔ AllLose (map (lost m s) ways) p
ways_end m s ways p k e f = holds (f (subst (λ (ws : List (List ℕ)). AllLose (map (lost m s) ws) p) (sym (past_end ways k e)) tt))

-- ---- definitions

variable_below : (n v : ℕ) (k : ℤ) → v < n → BelowTerms n (put_front v k [])
variable_below n v (pos zero) l = tt
variable_below n v (pos (suc a)) l = (l, tt)
variable_below n v (negsuc a) l = (l, tt)

upper_below : (s : Sort) (m : Move) (v n : ℕ) → v < n → Below n m.numer → Below n (upper_form s m v)
upper_below Rat m v n l b =
    plus_below n (times (neg_ℤ (pos 1)) m.numer).terms (put_front v (pos m.div) []) (times_below n (neg_ℤ (pos 1)) m.numer.terms b) (variable_below n v (pos m.div) l)
upper_below Int m v n l b =
    plus_below n (times (neg_ℤ (pos 1)) m.numer).terms (plus (variable_form (pos m.div) v) (constant_form (pos m.div -ℤ pos 1))).terms (times_below n (neg_ℤ (pos 1)) m.numer.terms b)
    (plus_below n (put_front v (pos m.div) []) [] (variable_below n v (pos m.div) l) tt)

lower_below : (m : Move) (v n : ℕ) → v < n → Below n m.numer → Below n (lower_form m v)
lower_below m v n l b = plus_below n m.numer.terms (put_front v (neg_ℤ (pos m.div)) []) b (variable_below n v (neg_ℤ (pos m.div)) l)

move_below : (s : Sort) (m : Move) (names : List ℕ) (v n : ℕ) → IsRising names v → v < n → Below (length names) m.numer → Below n (form_of (definition s m names v).upper) × Below n (form_of (definition s m names v).lower)
move_below s m names v n r l b =
    let t : BelowTerms n (rename_terms names m.numer.terms) = renamed_below names n m.numer.terms (rising_more names v n (omega arith) r) b in
    let k : Move = rename_move names m in
    (prim_below s n (AtLeast (upper_form s k v)) (upper_below s k v n l t), prim_below s n (AtLeast (lower_form k v)) (lower_below k v n l t))

get_inside : {A : Type 0} (xs : List A) (i : ℕ) (x : A) → slice_get xs i ≡ Some x → i < length xs
get_inside [] i x e = absurd (cc)
get_inside (y ∷ xs) zero x e = omega arith
get_inside (y ∷ xs) (suc i) x e = let h = get_inside xs i x e in omega arith

place_below : (S : Skeleton) (s : Sort) (qs : List Quant) (v : ℕ) → Follows S s qs 0 → (o : Option Place) → slice_get (places S 0 0 0) v ≡ o → (d : Definition) → option_and_then (definition_of s (places S 0 0 0) v) o ≡ Some d
    → Below (nodes S) (form_of d.upper) × Below (nodes S) (form_of d.lower)
place_below S s qs v f None e d h = absurd (cc)
place_below S s qs v f (Some q) e d h = by q.term refl h
  where
    by : (t : Option Move) → q.term ≡ t → option_map (λ m. definition s m (route q.depth (places S 0 0 0) q.above) v) t ≡ Some d → Below (nodes S) (form_of d.upper) × Below (nodes S) (form_of d.lower)
    by None g h = absurd (cc)
    by (Some m) g h =
        let k = all_places_kept S s qs v q f e in
        let names : List ℕ = route q.depth (places S 0 0 0) q.above in
        let i = get_inside (places S 0 0 0) v q e in
        let l = length-places S 0 0 0 in
        let b = subst (λ (j : ℕ). Below j m.numer) (sym (length-route q.depth (places S 0 0 0) q.above)) (k.kept m g).earlier in
        let c : definition s m names v ≡ d = cc in
        subst (λ (x : Definition). Below (nodes S) (form_of x.upper) × Below (nodes S) (form_of x.lower)) c (move_below s m names v (nodes S) k.rising (omega arith) b)

definition_below : (S : Skeleton) (s : Sort) (qs : List Quant) (v : ℕ) (d : Definition) → Follows S s qs 0 → definition_at (definitions S s [] 0) v ≡ Some d → Below (nodes S) (form_of d.upper) × Below (nodes S) (form_of d.lower)
definition_below S s qs v d f e = place_below S s qs v f (slice_get (places S 0 0 0) v) refl d (sym (all_definitions S s v) ∙ e)

-- a definition literal is over the nodes
pub literal_below : (S : Skeleton) (s : Sort) (qs : List Quant) (v i : ℕ) (l : Lit) → Follows S s qs 0 → Some l ≡ option_and_then (literal_number i) (definition_at (definitions S s [] 0) v) → Below (nodes S) (form_of l)
literal_below S s qs v i l f e = by (definition_at (definitions S s [] 0) v) refl i e
  where
    by : (o : Option Definition) → definition_at (definitions S s [] 0) v ≡ o → (i : ℕ) → Some l ≡ option_and_then (literal_number i) o → Below (nodes S) (form_of l)
    by None g i h = absurd (cc)
    by (Some d) g zero h = let c : d.upper ≡ l = cc in subst (λ (x : Lit). Below (nodes S) (form_of x)) c (definition_below S s qs v d f g).0
    by (Some d) g (suc zero) h = let c : d.lower ≡ l = cc in subst (λ (x : Lit). Below (nodes S) (form_of x)) c (definition_below S s qs v d f g).1
    by (Some d) g (suc (suc j)) h = absurd (cc)

-- one node
pub no_literal : (p : Point) (o : Option Definition) → None ≡ option_and_then (literal_number 0) o → IsTrue true ↔ IfSome o (BothHold p)
no_literal p None e = holds tt
no_literal p (Some d) e = absurd (cc)

pub no_second : (p : Point) (o : Option Definition) → None ≡ option_and_then (literal_number 1) o → IsTrue true ↔ IfSome o (BothHold p)
no_second p None e = holds tt
no_second p (Some d) e = absurd (cc)

pub upper_fails : (p : Point) (o : Option Definition) (u : Lit) → Some u ≡ option_and_then (literal_number 0) o → ¬ Holds u p → IsTrue false ↔ IfSome o (BothHold p)
upper_fails p None u e h = absurd (cc)
upper_fails p (Some d) u e h = let c : d.upper ≡ u = cc in fails (λ b. h (subst (λ (x : Lit). Holds x p) c b.0))

pub lower_decides : (p : Point) (o : Option Definition) (u l : Lit) (r : Bool) → Some u ≡ option_and_then (literal_number 0) o → Some l ≡ option_and_then (literal_number 1) o → Holds u p → (IsTrue r ↔ Holds l p) → IsTrue r ↔ IfSome o (BothHold p)
lower_decides p None u l r e g h k = absurd (cc)
lower_decides p (Some d) u l r e g h k =
    let c : u ≡ d.upper = cc in
    let b : l ≡ d.lower = cc in
    (λ q. (subst (λ (x : Lit). Holds x p) c h, subst (λ (x : Lit). Holds x p) b (k.0 q)), λ q. k.1 (subst (λ (x : Lit). Holds x p) (sym b) q.1))

-- all nodes
defined_node : (ds : List Definition) (p : Point) (w : ℕ) → AllDefined ds p → HoldsAt ds p w
defined_node [] p w h = tt
defined_node (d ∷ ds) p w h = by (nat_eq d.node w) (defined_node ds p w h.2)
  where
    by : (b : Bool) → HoldsAt ds p w → IfSome (cond b (Some d) (definition_at ds w)) (BothHold p)
    by true k = (h.0, h.1)
    by false k = k

defined-append : (ds es : List Definition) (p : Point) → AllDefined ds p → AllDefined es p → AllDefined (ds ++ es) p
defined-append [] es p a b = b
defined-append (d ∷ ds) es p a b = (a.0, a.1, defined-append ds es p a.2 b)

if_none : (p : Point) (o : Option Definition) → o ≡ None → IfSome o (BothHold p)
if_none p o e = subst (λ (x : Option Definition). IfSome x (BothHold p)) (sym e) tt

mutual
  all_of_nodes : (S : Skeleton) (s : Sort) (names : List ℕ) (v : ℕ) (p : Point) → ((w : ℕ) → HoldsAt (definitions S s names v) p w) → AllDefined (definitions S s names v) p
  all_of_nodes end s names v p h = tt
  all_of_nodes (theirs S) s names v p h = all_of_nodes S s (names ++ v ∷ []) (suc v) p h
  all_of_nodes (mine bs) s names v p h = all_of_branches bs s names v p h

  all_of_branches : (bs : Branches) (s : Sort) (names : List ℕ) (v : ℕ) (p : Point) → ((w : ℕ) → HoldsAt (branch_definitions bs s names v) p w) → AllDefined (branch_definitions bs s names v) p
  all_of_branches no_more s names v p h = tt
  all_of_branches (branch m S bs) s names v p h =
      let d : Definition = definition s m names v in
      let ds : List Definition = definitions S s (names ++ v ∷ []) (suc v) in
      let es : List Definition = branch_definitions bs s names (suc v + nodes S) in
      let here : BothHold p d = subst (λ (o : Option Definition). IfSome o (BothHold p)) (same_node d (ds ++ es) v refl) (h v) in (
        here.0,
        here.1,
        defined-append ds es p
            (all_of_nodes S s (names ++ v ∷ []) (suc v) p
            (λ w. elim (cases_lt v w) [
              | inl less ↦ (elim (cases_lt w (suc v + nodes S)) [
                | inl inside ↦ subst (λ (o : Option Definition). IfSome o (BothHold p)) (other_node d (ds ++ es) w (λ q. omega arith) ∙ first_only ds es w (none_before_branches bs s names (suc v + nodes S) w inside)) (h w)
                | inr beyond ↦ if_none p (definition_at ds w) (none_after S s (names ++ v ∷ []) (suc v) w beyond)
              ])
              | inr late ↦ if_none p (definition_at ds w) (none_before S s (names ++ v ∷ []) (suc v) w (omega arith))
            ]))
            (all_of_branches bs s names (suc v + nodes S) p
            (λ w. elim (cases_lt w (suc v + nodes S)) [
              | inl inside ↦ if_none p (definition_at es w) (none_before_branches bs s names (suc v + nodes S) w inside)
              | inr beyond ↦ subst (λ (o : Option Definition). IfSome o (BothHold p)) (other_node d (ds ++ es) w (λ q. omega arith) ∙ second_only ds es w (none_after S s (names ++ v ∷ []) (suc v) w beyond)) (h w)
            ])),
      )

-- each node before w
abbrev pub DefinedBefore : List Definition → Point → ℕ → Type 0
DefinedBefore ds p n = (w : ℕ) → w < n → HoldsAt ds p w

pub node_fails : (ds : List Definition) (p : Point) (v : ℕ) → ¬ HoldsAt ds p v → IsTrue false ↔ AllDefined ds p
node_fails ds p v h = fails (λ a. h (defined_node ds p v a))

pub none_yet : (ds : List Definition) (p : Point) → DefinedBefore ds p 0
none_yet ds p w l = absurd (omega arith)

pub one_defined : (ds : List Definition) (p : Point) (v : ℕ) → DefinedBefore ds p v → HoldsAt ds p v → DefinedBefore ds p (v + 1)
one_defined ds p v h k w l = elim (cases_lt w v) [
  | inl less ↦ h w less
  | inr late ↦ let e : v ≡ w = omega arith in subst (λ (j : ℕ). HoldsAt ds p j) e k
]

pub all_nodes : (S : Skeleton) (s : Sort) (p : Point) (n : ℕ) → nodes S ≤ n → DefinedBefore (definitions S s [] 0) p n → IsTrue true ↔ AllDefined (definitions S s [] 0) p
all_nodes S s p n l h =
    holds (all_of_nodes S s [] 0 p (λ w. elim (cases_lt w n) [
      | inl inside ↦ h w inside
      | inr beyond ↦ if_none p (definition_at (definitions S s [] 0) w) (none_after S s [] 0 w (omega arith))
    ]))

-- ---- the whole

pub no_point : (s : Sort) (t : System) (p : Point) → ¬ IsPoint s p → IsTrue false ↔ Solves s t p
no_point s t p h = fails (λ x. h x.point)

pub other_count : (s : Sort) (t : System) (p : Point) → length p.nums ≢ t.count → IsTrue false ↔ Solves s t p
other_count s t p h = fails (λ x. h x.one_each)

pub not_defined : (s : Sort) (t : System) (p : Point) → ¬ AllDefined t.defs p → IsTrue false ↔ Solves s t p
not_defined s t p h = fails (λ x. h x.defined)

pub solved : (s : Sort) (t : System) (p : Point) (r : Bool) → IsPoint s p → length p.nums ≡ t.count → AllDefined t.defs p → (IsTrue r ↔ AllLose t.paths p) → IsTrue r ↔ Solves s t p
solved s t p r a b c h = (λ e. record { point = a; one_each = b; defined = c; lose = h.0 e }, λ x. h.1 x.lose)
