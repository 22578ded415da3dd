-- The definitions of the nodes that are left, with their new numbers.
use Rattle.std.specs.Prelude.{ℕ, zero, suc, ◌+◌, ◌<◌, ◌≡◌, ℤ, pos, ◌-ℤ◌, neg_ℤ, Bool, true, false, cond, eqb, Some, List, [], ◌∷◌, ◌++◌, map, filter, get_or, length}
use Rattle.std.specs.List.{AllByRecursion}
use Rattle.std.proofs.Common.{arith, ap, ap₂, ◌∙◌, sym, subst, refl, length-append, eq-eqb}
use Rattle.std.proofs.lemmas.Bool.{eqb-true}
use Rattle.std.proofs.lemmas.List.{map-append}
use Rattle.lin_term.specs.Form.{Form}
use Rattle.lin_term.specs.declared.Sort.{Sort}
use Rattle.lin_term.specs.declared.Sort.TheVariants.{Rat, Int}
use Rattle.lin_term.specs.declared.Lit.{Lit}
use Rattle.lin_term.specs.declared.Lit.TheVariants.{AtLeast}
use Rattle.lin_term.specs.Linear.{BelowTerms, Below, rename, rename_terms, plus, times, variable_form, constant_form}
use Rattle.lin_term.specs.Literal.{rename_lit, prim}
use Rattle.lin_term.specs.Move.{Move}
use Rattle.lin_term.specs.Definition.{upper_form, lower_form, upper_literal, lower_literal, rename_move, Definition, definition}
use Rattle.dom_core.specs.declared.Quant.{Quant}
use Rattle.dom_core.specs.declared.Quant.TheVariants.{Exists, Forall}
use Rattle.game_tree.specs.Skeleton.{Skeleton, end, theirs, mine, Branches, no_more, branch, nodes, paths, Follows, EachFollows}
use Rattle.lose_system.specs.Losing.{definitions, branch_definitions, definition_at}
use Rattle.cube_rules.proofs.Sound.{some_same}
use Rattle.strat_trim.specs.Trimmed.{has_path, some_has_path, prune, prune_branches, on_path, each_on_path, marked}
use Rattle.strat_trim.proofs.RenamedForms.{Keeps, Within, LitWithin, name_eq, front_renamed, within_front, within_plus, within_times, within_prim, plus_renamed, times_renamed, prim_renamed}
use Rattle.strat_trim.proofs.PrunedPaths.{or_false}
use Rattle.strat_trim.proofs.PrunedNodes.{Agree, agree_left, agree_right, new_of, names_at, Numbered, numbered_kept, push_name, branch_kept, branch_dropped, length-on_path, AllMarked, push_marked}

abbrev pub IsMarked : List Bool → ℕ → Type 0
IsMarked marks v = marked marks v ≡ true

-- ---- names of names

names_get : (new names : List ℕ) (i : ℕ) → i < length names → get_or (names_at new names) i 0 ≡ new_of new (get_or names i 0)
names_get new [] i l = absurd (omega arith)
names_get new (x ∷ names) zero l = refl
names_get new (x ∷ names) (suc i) l = names_get new names i (omega arith)

pub rename_twice : (new names : List ℕ) (ts : List (ℕ × ℤ)) → BelowTerms (length names) ts → rename_terms (names_at new names) ts ≡ rename_terms new (rename_terms names ts)
rename_twice new names [] b = refl
rename_twice new names (t ∷ ts) b =
    ap₂ (λ (i : ℕ) (us : List (ℕ × ℤ)). (i, t.1) ∷ us) (names_get new names t.0 b.0) (rename_twice new names ts b.1)

marked_get : (marks : List Bool) (names : List ℕ) (i : ℕ) → AllMarked marks names → i < length names → IsMarked marks (get_or names i 0)
marked_get marks [] i a l = absurd (omega arith)
marked_get marks (x ∷ names) zero a l = a.0
marked_get marks (x ∷ names) (suc i) a l = marked_get marks names i a.1 (omega arith)

pub within_names : (marks : List Bool) (names : List ℕ) (ts : List (ℕ × ℤ)) → AllMarked marks names → BelowTerms (length names) ts → Within (IsMarked marks) (rename_terms names ts)
within_names marks names [] a b = tt
within_names marks names (t ∷ ts) a b = (marked_get marks names t.0 a b.0, within_names marks names ts a b.1)

-- ---- one definition

variable_renamed : (new : List ℕ) (k : ℤ) (v : ℕ) → variable_form k (new_of new v) ≡ rename new (variable_form k v)
variable_renamed new k v = ap (λ (ts : List (ℕ × ℤ)). let f : Form = record { terms = ts; constant = pos 0 } in f) (front_renamed new v k [] [] refl)

upper_form_within : (K : ℕ → Type 0) (s : Sort) (m : Move) (v : ℕ) → K v → Within K m.numer.terms → Within K (upper_form s m v).terms
upper_form_within K Rat m v h w =
    within_plus K (times (neg_ℤ (pos 1)) m.numer).terms (variable_form (pos m.div) v).terms (within_times K (neg_ℤ (pos 1)) m.numer.terms w) (within_front K v (pos m.div) [] h tt)
upper_form_within K Int m v h w =
    within_plus K (times (neg_ℤ (pos 1)) m.numer).terms (plus (variable_form (pos m.div) v) (constant_form (pos m.div -ℤ pos 1))).terms (within_times K (neg_ℤ (pos 1)) m.numer.terms w)
    (within_plus K (variable_form (pos m.div) v).terms [] (within_front K v (pos m.div) [] h tt) tt)

lower_form_within : (K : ℕ → Type 0) (m : Move) (v : ℕ) → K v → Within K m.numer.terms → Within K (lower_form m v).terms
lower_form_within K m v h w = within_plus K m.numer.terms (variable_form (neg_ℤ (pos m.div)) v).terms w (within_front K v (neg_ℤ (pos m.div)) [] h tt)

upper_form_renamed : (new : List ℕ) (K : ℕ → Type 0) (s : Sort) (m : Move) (v : ℕ) → Keeps new K → K v → Within K m.numer.terms → upper_form s (rename_move new m) (new_of new v) ≡ rename new (upper_form s m v)
upper_form_renamed new K Rat m v k h w =
    ap₂ plus (times_renamed new (neg_ℤ (pos 1)) m.numer) (variable_renamed new (pos m.div) v)
    ∙ plus_renamed new K (times (neg_ℤ (pos 1)) m.numer) (variable_form (pos m.div) v) k (within_times K (neg_ℤ (pos 1)) m.numer.terms w) (within_front K v (pos m.div) [] h tt)
upper_form_renamed new K Int m v k h w =
    let one : Form = constant_form (pos m.div -ℤ pos 1) in
    let d : Form = variable_form (pos m.div) v in
    let i = within_front K v (pos m.div) [] h tt in
    ap₂ (λ (f g : Form). plus f (plus g one)) (times_renamed new (neg_ℤ (pos 1)) m.numer) (variable_renamed new (pos m.div) v)
    ∙ ap (plus (rename new (times (neg_ℤ (pos 1)) m.numer))) (plus_renamed new K d one k i tt)
    ∙ plus_renamed new K (times (neg_ℤ (pos 1)) m.numer) (plus d one) k (within_times K (neg_ℤ (pos 1)) m.numer.terms w) (within_plus K d.terms [] i tt)

lower_form_renamed : (new : List ℕ) (K : ℕ → Type 0) (m : Move) (v : ℕ) → Keeps new K → K v → Within K m.numer.terms → lower_form (rename_move new m) (new_of new v) ≡ rename new (lower_form m v)
lower_form_renamed new K m v k h w =
    ap (plus (rename new m.numer)) (variable_renamed new (neg_ℤ (pos m.div)) v)
    ∙ plus_renamed new K m.numer (variable_form (neg_ℤ (pos m.div)) v) k w (within_front K v (neg_ℤ (pos m.div)) [] h tt)

upper_renamed : (new : List ℕ) (K : ℕ → Type 0) (s : Sort) (m : Move) (v : ℕ) → Keeps new K → K v → Within K m.numer.terms → upper_literal s (rename_move new m) (new_of new v) ≡ rename_lit new (upper_literal s m v)
upper_renamed new K s m v k h w =
    ap (λ (f : Form). prim s (AtLeast f)) (upper_form_renamed new K s m v k h w)
    ∙ prim_renamed s new K (AtLeast (upper_form s m v)) k (upper_form_within K s m v h w)

lower_renamed : (new : List ℕ) (K : ℕ → Type 0) (s : Sort) (m : Move) (v : ℕ) → Keeps new K → K v → Within K m.numer.terms → lower_literal s (rename_move new m) (new_of new v) ≡ rename_lit new (lower_literal s m v)
lower_renamed new K s m v k h w =
    ap (λ (f : Form). prim s (AtLeast f)) (lower_form_renamed new K m v k h w)
    ∙ prim_renamed s new K (AtLeast (lower_form m v)) k (lower_form_within K m v h w)

abbrev pub rename_definition : List ℕ → Definition → Definition
rename_definition new d = record { node = new_of new d.node; upper = rename_lit new d.upper; lower = rename_lit new d.lower }

abbrev pub DefinitionWithin : (ℕ → Type 0) → Definition → Type 0
DefinitionWithin K d = LitWithin K d.upper × LitWithin K d.lower

definition_renamed : (new : List ℕ) (marks : List Bool) (s : Sort) (m : Move) (names : List ℕ) (v n : ℕ) → Keeps new (IsMarked marks) → IsMarked marks v → AllMarked marks names → Below (length names) m.numer → new_of new v ≡ n → definition s m (names_at new names) n ≡ rename_definition new (definition s m names v)
definition_renamed new marks s m names v n k h a b e =
    let w = within_names marks names m.numer.terms a b in
    let old : Move = rename_move names m in
    let twice : rename_move (names_at new names) m ≡ rename_move new old = ap (λ (ts : List (ℕ × ℤ)). let x : Move = record { numer = record { terms = ts; constant = m.numer.constant }; div = m.div } in x) (rename_twice new names m.numer.terms b) in
    ap₂ (λ (x : Move) (i : ℕ). let d : Definition = record { node = i; upper = upper_literal s x i; lower = lower_literal s x i } in d) twice (sym e)
    ∙ ap₂ (λ (l u : Lit). let d : Definition = record { node = new_of new v; upper = l; lower = u } in d) (upper_renamed new (IsMarked marks) s old v k h w) (lower_renamed new (IsMarked marks) s old v k h w)

definition_within : (marks : List Bool) (s : Sort) (m : Move) (names : List ℕ) (v : ℕ) → IsMarked marks v → AllMarked marks names → Below (length names) m.numer → DefinitionWithin (IsMarked marks) (definition s m names v)
definition_within marks s m names v h a b =
    let w = within_names marks names m.numer.terms a b in
    let K : ℕ → Type 0 = IsMarked marks in
    let old : Move = rename_move names m in (
      within_prim K s (AtLeast (upper_form s old v)) (upper_form_within K s old v h w),
      within_prim K s (AtLeast (lower_form old v)) (lower_form_within K old v h w),
    )

-- ---- those of the marked nodes

abbrev pub left : List Bool → List Definition → List Definition
left marks ds = filter (λ d. marked marks d.node) ds

left-append : (marks : List Bool) (ds es : List Definition) → left marks (ds ++ es) ≡ left marks ds ++ left marks es
left-append marks [] es = refl
left-append marks (d ∷ ds) es =
    ap (λ (xs : List Definition). cond (marked marks d.node) (d ∷ xs) xs) (left-append marks ds es) ∙ by (marked marks d.node)
  where
    by : (b : Bool) → cond b (d ∷ (left marks ds ++ left marks es)) (left marks ds ++ left marks es) ≡ cond b (d ∷ left marks ds) (left marks ds) ++ left marks es
    by true = refl
    by false = refl

-- the marks of a branch and of those behind it
record Marks (marks : List Bool) (v : ℕ) (t : Skeleton) (c : ℕ → Bool) (k : ℕ) (rest : List Bool) : Type 0 where
  here : marked marks v ≡ has_path t c k
  below : Agree false marks (suc v) (on_path t c k)
  behind : Agree false marks (suc v + nodes t) rest

marks_of : (marks : List Bool) (v : ℕ) (t : Skeleton) (c : ℕ → Bool) (k : ℕ) (rest : List Bool) → Agree false marks v ((has_path t c k ∷ on_path t c k) ++ rest) → Marks marks v t c k rest
marks_of marks v t c k rest a =
    let l = length-on_path t c k in
    record {
      here = a.0;
      below = agree_left false marks (suc v) (on_path t c k) rest a.1;
      behind = subst (λ (i : ℕ). Agree false marks i rest) (let q : suc v + length (on_path t c k) ≡ suc v + nodes t = omega arith in q) (agree_right false marks (suc v) (on_path t c k) rest a.1);
    }

mutual
  none_left : (t : Skeleton) (s : Sort) (c : ℕ → Bool) (k : ℕ) (marks : List Bool) (names : List ℕ) (v : ℕ) → has_path t c k ≡ false → Agree false marks v (on_path t c k) → left marks (definitions t s names v) ≡ []
  none_left end s c k marks names v e a = refl
  none_left (theirs t) s c k marks names v e a = none_left t s c k marks (names ++ v ∷ []) (suc v) e a.1
  none_left (mine bs) s c k marks names v e a = no_branch_left bs s c k marks names v e a

  no_branch_left : (bs : Branches) (s : Sort) (c : ℕ → Bool) (k : ℕ) (marks : List Bool) (names : List ℕ) (v : ℕ) → some_has_path bs c k ≡ false → Agree false marks v (each_on_path bs c k) → left marks (branch_definitions bs s names v) ≡ []
  no_branch_left no_more s c k marks names v e a = refl
  no_branch_left (branch m t bs) s c k marks names v e a =
      let p = or_false (has_path t c k) (some_has_path bs c (k + length (paths t))) e in
      let x = marks_of marks v t c k (each_on_path bs c (k + length (paths t))) a in
      let first : List Definition = definitions t s (names ++ v ∷ []) (suc v) in
      let others : List Definition = branch_definitions bs s names (suc v + nodes t) in
      ap (λ (b : Bool). cond b (definition s m names v ∷ left marks (first ++ others)) (left marks (first ++ others))) (x.here ∙ p.0)
      ∙ left-append marks first others
      ∙ ap₂ (λ (xs ys : List Definition). xs ++ ys) (none_left t s c k marks (names ++ v ∷ []) (suc v) p.0 x.below) (no_branch_left bs s c (k + length (paths t)) marks names (suc v + nodes t) p.1 x.behind)

longer : (names : List ℕ) (v d : ℕ) → d ≡ length names → suc d ≡ length (names ++ v ∷ [])
longer names v d e = let l = length-append names (v ∷ []) in omega arith

mutual
  pub definitions_pruned : (t : Skeleton) (s : Sort) (qs : List Quant) (d : ℕ) (c : ℕ → Bool) (k : ℕ) (new : List ℕ) (marks : List Bool) (names : List ℕ) (v n : ℕ) → has_path t c k ≡ true → Numbered new v n (on_path t c k) → Agree false marks v (on_path t c k) → Keeps new (IsMarked marks) → AllMarked marks names → d ≡ length names → Follows t s qs d → definitions (prune t c k) s (names_at new names) n ≡ map (rename_definition new) (left marks (definitions t s names v))
  definitions_pruned end s qs d c k new marks names v n e a b r h l f = refl
  definitions_pruned (theirs t) s [] d c k new marks names v n e a b r h l f = absurd f
  definitions_pruned (theirs t) s (Exists ∷ qs) d c k new marks names v n e a b r h l f = absurd f
  definitions_pruned (theirs t) s (Forall ∷ qs) d c k new marks names v n e a b r h l f =
      let x = numbered_kept new v n (has_path t c k) (on_path t c k) e a in
      ap (λ (ns : List ℕ). definitions (prune t c k) s ns (suc n)) (push_name new names v n x.0)
      ∙ definitions_pruned t s qs (suc d) c k new marks (names ++ v ∷ []) (suc v) (suc n) e x.1 b.1 r (push_marked marks names v h (b.0 ∙ e)) (longer names v d l) f
  definitions_pruned (mine bs) s [] d c k new marks names v n e a b r h l f = absurd f
  definitions_pruned (mine bs) s (Forall ∷ qs) d c k new marks names v n e a b r h l f = absurd f
  definitions_pruned (mine bs) s (Exists ∷ qs) d c k new marks names v n e a b r h l f =
      branch_definitions_pruned bs s qs d c k new marks names v n a b r h l f.1

  pub branch_definitions_pruned : (bs : Branches) (s : Sort) (qs : List Quant) (d : ℕ) (c : ℕ → Bool) (k : ℕ) (new : List ℕ) (marks : List Bool) (names : List ℕ) (v n : ℕ) → Numbered new v n (each_on_path bs c k) → Agree false marks v (each_on_path bs c k) → Keeps new (IsMarked marks) → AllMarked marks names → d ≡ length names → EachFollows bs s qs d → branch_definitions (prune_branches bs c k) s (names_at new names) n ≡ map (rename_definition new) (left marks (branch_definitions bs s names v))
  branch_definitions_pruned no_more s qs d c k new marks names v n a b r h l f = refl
  branch_definitions_pruned (branch m t bs) s qs d c k new marks names v n a b r h l f =
      let y = marks_of marks v t c k (each_on_path bs c (k + length (paths t))) b in
      by (has_path t c k) refl
      (λ e x. definitions_pruned t s qs (suc d) c k new marks (names ++ v ∷ []) (suc v) (suc n) e x y.below r (push_marked marks names v h (y.here ∙ e)) (longer names v d l) f.2)
      (λ i x. branch_definitions_pruned bs s qs d c (k + length (paths t)) new marks names (suc v + nodes t) i x y.behind r h l f.3)
    where
      by : (q : Bool) → has_path t c k ≡ q → (has_path t c k ≡ true → Numbered new (suc v) (suc n) (on_path t c k) → definitions (prune t c k) s (names_at new (names ++ v ∷ [])) (suc n) ≡ map (rename_definition new) (left marks (definitions t s (names ++ v ∷ []) (suc v)))) → ((i : ℕ) → Numbered new (suc v + nodes t) i (each_on_path bs c (k + length (paths t))) → branch_definitions (prune_branches bs c (k + length (paths t))) s (names_at new names) i ≡ map (rename_definition new) (left marks (branch_definitions bs s names (suc v + nodes t)))) → branch_definitions (cond q (branch m (prune t c k) (prune_branches bs c (k + length (paths t)))) (prune_branches bs c (k + length (paths t)))) s (names_at new names) n ≡ map (rename_definition new) (left marks (definition s m names v ∷ (definitions t s (names ++ v ∷ []) (suc v) ++ branch_definitions bs s names (suc v + nodes t))))
      by true e g i =
          let x = branch_kept new v n t c k (each_on_path bs c (k + length (paths t))) e a in
          let y = marks_of marks v t c k (each_on_path bs c (k + length (paths t))) b in
          let p : List Definition = definitions t s (names ++ v ∷ []) (suc v) in
          let q : List Definition = branch_definitions bs s names (suc v + nodes t) in
          ap₂ (λ (z : Definition) (zs : List Definition). z ∷ zs)
          (definition_renamed new marks s m names v n r (y.here ∙ e) h (subst (λ (j : ℕ). Below j m.numer) l (f.0).earlier) x.here)
          (ap₂ (λ (xs ys : List Definition). xs ++ ys)
          (ap (λ (ns : List ℕ). definitions (prune t c k) s ns (suc n)) (push_name new names v n x.here) ∙ g e x.below)
          (i (suc n + nodes (prune t c k)) x.behind)
          ∙ sym (map-append (rename_definition new) (left marks p) (left marks q))
          ∙ ap (map (rename_definition new)) (sym (left-append marks p q)))
          ∙ ap (λ (z : Bool). map (rename_definition new) (cond z (definition s m names v ∷ left marks (p ++ q)) (left marks (p ++ q)))) (sym (y.here ∙ e))
      by false e g i =
          let y = marks_of marks v t c k (each_on_path bs c (k + length (paths t))) b in
          let p : List Definition = definitions t s (names ++ v ∷ []) (suc v) in
          let q : List Definition = branch_definitions bs s names (suc v + nodes t) in
          i n (branch_dropped new v n t c k (each_on_path bs c (k + length (paths t))) e a)
          ∙ ap (λ (xs : List Definition). map (rename_definition new) (xs ++ left marks q)) (sym (none_left t s c k marks (names ++ v ∷ []) (suc v) e y.below))
          ∙ ap (map (rename_definition new)) (sym (left-append marks p q))
          ∙ ap (λ (z : Bool). map (rename_definition new) (cond z (definition s m names v ∷ left marks (p ++ q)) (left marks (p ++ q)))) (sym (y.here ∙ e))

within_append : (K : ℕ → Type 0) (ds es : List Definition) → AllByRecursion (DefinitionWithin K) ds → AllByRecursion (DefinitionWithin K) es → AllByRecursion (DefinitionWithin K) (ds ++ es)
within_append K [] es a b = b
within_append K (d ∷ ds) es a b = (a.0, within_append K ds es a.1 b)

mutual
  pub definitions_within : (t : Skeleton) (s : Sort) (qs : List Quant) (d : ℕ) (c : ℕ → Bool) (k : ℕ) (marks : List Bool) (names : List ℕ) (v : ℕ) → has_path t c k ≡ true → Agree false marks v (on_path t c k) → AllMarked marks names → d ≡ length names → Follows t s qs d → AllByRecursion (DefinitionWithin (IsMarked marks)) (left marks (definitions t s names v))
  definitions_within end s qs d c k marks names v e b h l f = tt
  definitions_within (theirs t) s [] d c k marks names v e b h l f = absurd f
  definitions_within (theirs t) s (Exists ∷ qs) d c k marks names v e b h l f = absurd f
  definitions_within (theirs t) s (Forall ∷ qs) d c k marks names v e b h l f =
      definitions_within t s qs (suc d) c k marks (names ++ v ∷ []) (suc v) e b.1 (push_marked marks names v h (b.0 ∙ e)) (longer names v d l) f
  definitions_within (mine bs) s [] d c k marks names v e b h l f = absurd f
  definitions_within (mine bs) s (Forall ∷ qs) d c k marks names v e b h l f = absurd f
  definitions_within (mine bs) s (Exists ∷ qs) d c k marks names v e b h l f = branch_definitions_within bs s qs d c k marks names v b h l f.1

  pub branch_definitions_within : (bs : Branches) (s : Sort) (qs : List Quant) (d : ℕ) (c : ℕ → Bool) (k : ℕ) (marks : List Bool) (names : List ℕ) (v : ℕ) → Agree false marks v (each_on_path bs c k) → AllMarked marks names → d ≡ length names → EachFollows bs s qs d → AllByRecursion (DefinitionWithin (IsMarked marks)) (left marks (branch_definitions bs s names v))
  branch_definitions_within no_more s qs d c k marks names v b h l f = tt
  branch_definitions_within (branch m t bs) s qs d c k marks names v b h l f =
      let y = marks_of marks v t c k (each_on_path bs c (k + length (paths t))) b in
      by (has_path t c k) refl
      (λ e. definitions_within t s qs (suc d) c k marks (names ++ v ∷ []) (suc v) e y.below (push_marked marks names v h (y.here ∙ e)) (longer names v d l) f.2)
      (branch_definitions_within bs s qs d c (k + length (paths t)) marks names (suc v + nodes t) y.behind h l f.3)
    where
      by : (q : Bool) → has_path t c k ≡ q → (has_path t c k ≡ true → AllByRecursion (DefinitionWithin (IsMarked marks)) (left marks (definitions t s (names ++ v ∷ []) (suc v)))) → AllByRecursion (DefinitionWithin (IsMarked marks)) (left marks (branch_definitions bs s names (suc v + nodes t))) → AllByRecursion (DefinitionWithin (IsMarked marks)) (left marks (definition s m names v ∷ (definitions t s (names ++ v ∷ []) (suc v) ++ branch_definitions bs s names (suc v + nodes t))))
      by true e g i =
          let y = marks_of marks v t c k (each_on_path bs c (k + length (paths t))) b in
          let p : List Definition = definitions t s (names ++ v ∷ []) (suc v) in
          let q : List Definition = branch_definitions bs s names (suc v + nodes t) in
          subst (λ (z : Bool). AllByRecursion (DefinitionWithin (IsMarked marks)) (cond z (definition s m names v ∷ left marks (p ++ q)) (left marks (p ++ q)))) (sym (y.here ∙ e)) (
            definition_within marks s m names v (y.here ∙ e) h (subst (λ (j : ℕ). Below j m.numer) l (f.0).earlier),
            subst (λ (xs : List Definition). AllByRecursion (DefinitionWithin (IsMarked marks)) xs) (sym (left-append marks p q)) (within_append (IsMarked marks) (left marks p) (left marks q) (g e) i),
          )
      by false e g i =
          let y = marks_of marks v t c k (each_on_path bs c (k + length (paths t))) b in
          let p : List Definition = definitions t s (names ++ v ∷ []) (suc v) in
          let q : List Definition = branch_definitions bs s names (suc v + nodes t) in
          subst (λ (z : Bool). AllByRecursion (DefinitionWithin (IsMarked marks)) (cond z (definition s m names v ∷ left marks (p ++ q)) (left marks (p ++ q)))) (sym (y.here ∙ e))
          (subst (λ (xs : List Definition). AllByRecursion (DefinitionWithin (IsMarked marks)) xs)
          (sym (left-append marks p q ∙ ap (λ (xs : List Definition). xs ++ left marks q) (none_left t s c k marks (names ++ v ∷ []) (suc v) e y.below))) i)

-- ---- the definition of one node

pub definition_left : (new : List ℕ) (marks : List Bool) (ds : List Definition) (v : ℕ) (d : Definition) → Keeps new (IsMarked marks) → IsMarked marks v → AllByRecursion (DefinitionWithin (IsMarked marks)) (left marks ds) → definition_at ds v ≡ Some d → (definition_at (map (rename_definition new) (left marks ds)) (new_of new v) ≡ Some (rename_definition new d)) × DefinitionWithin (IsMarked marks) d
definition_left new marks [] v d r h w e = absurd (cc)
definition_left new marks (x ∷ ds) v d r h w e = by (eqb x.node v) refl (marked marks x.node) refl w e (λ i f. definition_left new marks ds v d r h i f)
  where
    by : (a : Bool) → eqb x.node v ≡ a → (b : Bool) → marked marks x.node ≡ b → AllByRecursion (DefinitionWithin (IsMarked marks)) (cond b (x ∷ left marks ds) (left marks ds)) → cond a (Some x) (definition_at ds v) ≡ Some d → (AllByRecursion (DefinitionWithin (IsMarked marks)) (left marks ds) → definition_at ds v ≡ Some d → (definition_at (map (rename_definition new) (left marks ds)) (new_of new v) ≡ Some (rename_definition new d)) × DefinitionWithin (IsMarked marks) d) → (definition_at (map (rename_definition new) (cond b (x ∷ left marks ds) (left marks ds))) (new_of new v) ≡ Some (rename_definition new d)) × DefinitionWithin (IsMarked marks) d
    by true q true p w e g = (
      ap (λ (b : Bool). cond b (Some (rename_definition new x)) (definition_at (map (rename_definition new) (left marks ds)) (new_of new v))) (eq-eqb (new_of new x.node) (new_of new v) (ap (new_of new) (eqb-true x.node v q)))
          ∙ ap (λ (y : Definition). Some (rename_definition new y)) (some_same x d e),
      subst (λ (y : Definition). DefinitionWithin (IsMarked marks) y) (some_same x d e) w.0,
    )
    by true q false p w e g = absurd (let z : true ≡ false = sym h ∙ ap (marked marks) (sym (eqb-true x.node v q)) ∙ p in cc)
    by false q true p w e g =
        let f = g w.1 e in
        (ap (λ (b : Bool). cond b (Some (rename_definition new x)) (definition_at (map (rename_definition new) (left marks ds)) (new_of new v))) (name_eq new (IsMarked marks) x.node v r p h ∙ q) ∙ f.0, f.1)
    by false q false p w e g = g w e
