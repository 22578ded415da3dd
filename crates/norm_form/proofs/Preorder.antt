-- Numbering a form from left to right: there are names for all its binders.
use Rattle.std.specs.Prelude.{ℕ, suc, ◌+◌, ◌≡◌, ◌<◌, ◌≤◌, ◌^◌, List, [], ◌∷◌, ◌++◌, length, get_or, drop, map}
use Rattle.std.proofs.Common.{arith, ap, ◌∙◌, sym, subst, refl, length-append}
use Rattle.std.proofs.lemmas.List.{map-append, at_drop_more, at_drop_all}
use Rattle.lin_term.specs.declared.Sort.{Sort}
use Rattle.lin_term.specs.Literal.{form_of}
use Rattle.lin_term.proofs.AtNames.{rising_at}
use Rattle.norm_form.specs.declared.normal.LevelForm.{LevelForm as Built}
use Rattle.lin_term.specs.declared.Lit.{Lit}
use Rattle.norm_form.specs.declared.numbered.Normal.{Normal as Written, fold-roll-Normal}
use Rattle.norm_form.specs.declared.numbered.Normal.TheOpen as open_written
use Rattle.norm_form.specs.declared.numbered.Normal.TheVariants as written
use Rattle.norm_form.specs.Load.{weigh, weigh_all}
use Rattle.norm_form.specs.Normal.{Normal, one_lit, each_of, some_of, for_all, there_is, Normals, no_part, part, IsNormal, AreNormal}
use Rattle.norm_form.specs.Numbered.{Numbered, n_lit, n_and, n_or, n_forall, n_exists, Numbereds, n_none, n_more, binders, all_binders, CanNumber, CanNumberAll}
use Rattle.norm_form.specs.Outcome.{numbereds_of, normal_step, normal_tree, normal_trees, binder_rate}
use Rattle.norm_form.specs.View.{shape_of, shapes_of}
use Rattle.norm_form.proofs.Ascending.{Ascends, AllBelow, push_ascends, below_push, below_suc, rising}

-- ---- there are numbers for all binders

below_raised : (n m : ℕ) (is : List ℕ) → n ≤ m → AllBelow n is → AllBelow m is
below_raised n m [] h b = tt
below_raised n m (i ∷ is) h b = ((let l = b.0 in omega arith), below_raised n m is h b.1)

one_longer : (n : Normal) (s : Sort) (names : List ℕ) (k : ℕ) → IsNormal n s (suc (length names)) → IsNormal n s (length (names ++ k ∷ []))
one_longer n s names k h =
    subst (λ (m : ℕ). IsNormal n s m) (let e = length-append names (k ∷ []) in let l : suc (length names) ≡ length (names ++ k ∷ []) = omega arith in l) h

mutual
  pub can_number : (n : Normal) (s : Sort) (next : ℕ) (names : List ℕ) → Ascends 0 names → AllBelow next names → next + binders n ≤ 1024 → IsNormal n s (length names) → CanNumber n next names
  can_number (one_lit l) s next names a b h o = (o.1, rising_at names (form_of l).terms (2 ^ 20) (rising names (2 ^ 20) a (below_raised next (2 ^ 20) names (omega arith) b)) o.1)
  can_number (each_of ns) s next names a b h o = can_number_all ns s next names a b h o
  can_number (some_of ns) s next names a b h o = can_number_all ns s next names a b h o
  can_number (for_all n) s next names a b h o =
      (omega arith, can_number n s (suc next) (names ++ next ∷ []) (push_ascends 0 names next a b (omega arith)) (below_push (suc next) names next (below_suc next names b) (omega arith)) (omega arith) (one_longer n s names next o))
  can_number (there_is n) s next names a b h o =
      (omega arith, can_number n s (suc next) (names ++ next ∷ []) (push_ascends 0 names next a b (omega arith)) (below_push (suc next) names next (below_suc next names b) (omega arith)) (omega arith) (one_longer n s names next o))

  pub can_number_all : (ns : Normals) (s : Sort) (next : ℕ) (names : List ℕ) → Ascends 0 names → AllBelow next names → next + all_binders ns ≤ 1024 → AreNormal ns s (length names) → CanNumberAll ns next names
  can_number_all no_part s next names a b h o = tt
  can_number_all (part n ns) s next names a b h o =
      (can_number n s next names a b (omega arith) o.0, can_number_all ns s (next + binders n) names a (below_raised next (next + binders n) names (omega arith) b) (omega arith) o.1)

mutual
  pub binders_are : (n : Normal) → weigh n binder_rate ≡ binders n
  binders_are (one_lit l) = refl
  binders_are (each_of ns) = let h = all_binders_are ns in omega arith
  binders_are (some_of ns) = let h = all_binders_are ns in omega arith
  binders_are (for_all n) = let h = binders_are n in omega arith
  binders_are (there_is n) = let h = binders_are n in omega arith

  pub all_binders_are : (ns : Normals) → weigh_all ns binder_rate ≡ all_binders ns
  all_binders_are no_part = refl
  all_binders_are (part n ns) = let h = binders_are n in let k = all_binders_are ns in omega arith

-- ---- the numbered form of each kind of value

pub tree_lit : (l : Lit) → normal_tree (written.Lit l) ≡ n_lit l
tree_lit l = ap normal_tree (sym (written.rolls-Lit l)) ∙ fold-roll-Normal Numbered normal_step (open_written.Lit l)

pub tree_and : (ns : List Written) → normal_tree (written.And ns) ≡ n_and (normal_trees ns)
tree_and ns = ap normal_tree (sym (written.rolls-And ns)) ∙ fold-roll-Normal Numbered normal_step (open_written.And ns)

pub tree_or : (ns : List Written) → normal_tree (written.Or ns) ≡ n_or (normal_trees ns)
tree_or ns = ap normal_tree (sym (written.rolls-Or ns)) ∙ fold-roll-Normal Numbered normal_step (open_written.Or ns)

pub tree_forall : (i : ℕ) (n : Written) → normal_tree (written.Forall i n) ≡ n_forall i (normal_tree n)
tree_forall i n = ap normal_tree (sym (written.rolls-Forall i n)) ∙ fold-roll-Normal Numbered normal_step (open_written.Forall i n)

pub tree_exists : (i : ℕ) (n : Written) → normal_tree (written.Exists i n) ≡ n_exists i (normal_tree n)
tree_exists i n = ap normal_tree (sym (written.rolls-Exists i n)) ∙ fold-roll-Normal Numbered normal_step (open_written.Exists i n)

-- ---- lists of forms, one behind the other

abbrev pub joined : Numbereds → Numbereds → Numbereds
joined n_none ns = ns
joined (n_more m ms) ns = n_more m (joined ms ns)

abbrev pub push_number : Numbereds → Numbered → Numbereds
push_number n_none m = n_more m n_none
push_number (n_more n ns) m = n_more n (push_number ns m)

numbereds_push : (ns : List Numbered) (m : Numbered) → numbereds_of (ns ++ m ∷ []) ≡ push_number (numbereds_of ns) m
numbereds_push [] m = refl
numbereds_push (n ∷ ns) m = ap (n_more n) (numbereds_push ns m)

trees_push : (ns : List Written) (n : Written) → normal_trees (ns ++ n ∷ []) ≡ push_number (normal_trees ns) (normal_tree n)
trees_push ns n = ap numbereds_of (map-append normal_tree ns (n ∷ [])) ∙ numbereds_push (map normal_tree ns) (normal_tree n)

joined_push : (ms : Numbereds) (m : Numbered) (ns : Numbereds) → joined (push_number ms m) ns ≡ joined ms (n_more m ns)
joined_push n_none m ns = refl
joined_push (n_more k ms) m ns = ap (n_more k) (joined_push ms m ns)

pub joined_none : (ms : Numbereds) → joined ms n_none ≡ ms
joined_none n_none = refl
joined_none (n_more m ms) = ap (n_more m) (joined_none ms)

pub joined_more : (ts : List Written) (t : Written) (ns : Numbereds) → joined (normal_trees (ts ++ t ∷ [])) ns ≡ joined (normal_trees ts) (n_more (normal_tree t) ns)
joined_more ts t ns = ap (λ (ms : Numbereds). joined ms ns) (trees_push ts t) ∙ joined_push (normal_trees ts) (normal_tree t) ns

-- ---- lists of level forms from the front

pub shapes_more : {A : Type 0} (f : Normals → A) (ts : List Built) (i : ℕ) (d : Built) → i < length ts → f (shapes_of (drop i ts)) ≡ f (part (shape_of (get_or ts i d)) (shapes_of (drop (i + 1) ts)))
shapes_more {A} f ts i d h = at_drop_more (λ (us : List Built). f (shapes_of us)) ts i d h

pub shapes_all : {A : Type 0} (f : Normals → A) (ts : List Built) (i : ℕ) → length ts ≤ i → f (shapes_of (drop i ts)) ≡ f no_part
shapes_all {A} f ts i h = at_drop_all (λ (us : List Built). f (shapes_of us)) ts i h
