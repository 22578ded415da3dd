-- The prenex form has the normal form's truth.
use Rattle.std.specs.Prelude.{ℕ, zero, suc, ◌+◌, ◌≡◌, ◌<◌, ◌≤◌, ℤ, pos, ◌*ℤ◌, List, [], ◌∷◌, ◌++◌, length, get_or, ⊤}
use Rattle.std.proofs.Common.{arith, ap, ◌∙◌, sym, subst, refl, length-append, inl, inr}
use Rattle.std.proofs.lemmas.Bool.{cases_lt}
use Rattle.std.proofs.lemmas.List.{get_or_append_left, get_or_push}
use Rattle.lin_term.specs.declared.Sort.{Sort}
use Rattle.lin_term.specs.declared.Sort.TheVariants.{Rat, Int}
use Rattle.lin_term.specs.declared.Lit.{Lit}
use Rattle.lin_term.specs.declared.Lit.TheVariants.{AtLeast, Above, Divides, NotDivides}
use Rattle.lin_term.specs.Linear.{Point, Value, IsPoint, extend, origin, at, Below, BelowTerms, rename_terms}
use Rattle.lin_term.specs.Literal.{IsOf, form_of, rename_lit}
use Rattle.dom_core.specs.Game.{Matrix, lit, all, some, Matrices, none, more, rename_matrix, rename_matrices, IsMatrix, AreMatrices, flip, TrueFrom, TrueP}
use Rattle.dom_core.specs.declared.Quant.{Quant}
use Rattle.dom_core.specs.declared.Quant.TheVariants.{Exists, Forall}
use Rattle.lin_term.proofs.Dots.{length-extend}
use Rattle.dom_core.proofs.Contrary.{extend_point}
use Rattle.norm_form.proofs.Growing.{origin_point, State}
use Rattle.norm_form.specs.Normal.{Normal, one_lit, each_of, some_of, for_all, there_is, Normals, no_part, part, TrueN, AllTrue, AllFalse, IsNormal, AreNormal}
use Rattle.prenex_form.specs.Prenex.{repeat, quants, merge, front_exists, front_forall, Mark, left, right, lefts_then, rights_then, marks_right, marks, left_names, right_names, first_places, prenex, prenex_parts, prenex_of}
use Rattle.prenex_form.proofs.Pulling.{quants_of, lefts, rights, Two, Fit, bodies, all_to, all_from, some_to, some_from}

-- ---- blocks and marks

repeat_add : (b c : ℕ) (q : Quant) (qs : List Quant) → repeat (b + c) q qs ≡ repeat b q (repeat c q qs)
repeat_add zero c q qs = let e : zero + c ≡ c = omega arith in ap (λ (n : ℕ). repeat n q qs) e
repeat_add (suc b) c q qs =
    let e : suc b + c ≡ suc (b + c) = omega arith in ap (λ (n : ℕ). repeat n q qs) e ∙ ap (λ (x : List Quant). q ∷ x) (repeat_add b c q qs)

of_lefts : (n : ℕ) (q : Quant) (ms : List Mark) → quants_of (lefts_then n q ms) ≡ repeat n q (quants_of ms)
of_lefts zero q ms = refl
of_lefts (suc n) q ms = ap (λ (x : List Quant). q ∷ x) (of_lefts n q ms)

of_rights : (n : ℕ) (q : Quant) (ms : List Mark) → quants_of (rights_then n q ms) ≡ repeat n q (quants_of ms)
of_rights zero q ms = refl
of_rights (suc n) q ms = ap (λ (x : List Quant). q ∷ x) (of_rights n q ms)

left_lefts : (n : ℕ) (q : Quant) (ms : List Mark) → lefts (lefts_then n q ms) ≡ repeat n q (lefts ms)
left_lefts zero q ms = refl
left_lefts (suc n) q ms = ap (λ (x : List Quant). q ∷ x) (left_lefts n q ms)

left_rights : (n : ℕ) (q : Quant) (ms : List Mark) → lefts (rights_then n q ms) ≡ lefts ms
left_rights zero q ms = refl
left_rights (suc n) q ms = left_rights n q ms

right_lefts : (n : ℕ) (q : Quant) (ms : List Mark) → rights (lefts_then n q ms) ≡ rights ms
right_lefts zero q ms = refl
right_lefts (suc n) q ms = right_lefts n q ms

right_rights : (n : ℕ) (q : Quant) (ms : List Mark) → rights (rights_then n q ms) ≡ repeat n q (rights ms)
right_rights zero q ms = refl
right_rights (suc n) q ms = ap (λ (x : List Quant). q ∷ x) (right_rights n q ms)

right_all : (q : Quant) (cs : List ℕ) → quants_of (marks_right q cs) ≡ quants q cs
right_all q [] = refl
right_all q (c ∷ cs) = of_rights c q (marks_right (flip q) cs) ∙ ap (repeat c q) (right_all (flip q) cs)

right_no_left : (q : Quant) (cs : List ℕ) → lefts (marks_right q cs) ≡ []
right_no_left q [] = refl
right_no_left q (c ∷ cs) = left_rights c q (marks_right (flip q) cs) ∙ right_no_left (flip q) cs

right_right : (q : Quant) (cs : List ℕ) → rights (marks_right q cs) ≡ quants q cs
right_right q [] = refl
right_right q (c ∷ cs) = right_rights c q (marks_right (flip q) cs) ∙ ap (repeat c q) (right_right (flip q) cs)

merge_none : (bs : List ℕ) → merge bs [] ≡ bs
merge_none [] = refl
merge_none (b ∷ bs) = refl

pub of_marks : (q : Quant) (bs cs : List ℕ) → quants_of (marks q bs cs) ≡ quants q (merge bs cs)
of_marks q [] cs = right_all q cs
of_marks q (b ∷ bs) [] =
    of_lefts b q (marks (flip q) bs []) ∙ ap (repeat b q) (of_marks (flip q) bs [] ∙ ap (quants (flip q)) (merge_none bs))
of_marks q (b ∷ bs) (c ∷ cs) =
    of_lefts b q (rights_then c q (marks (flip q) bs cs)) ∙ ap (repeat b q) (of_rights c q (marks (flip q) bs cs)) ∙ ap (λ (x : List Quant). repeat b q (repeat c q x)) (of_marks (flip q) bs cs) ∙ sym (repeat_add b c q (quants (flip q) (merge bs cs)))

pub lefts_marks : (q : Quant) (bs cs : List ℕ) → lefts (marks q bs cs) ≡ quants q bs
lefts_marks q [] cs = right_no_left q cs
lefts_marks q (b ∷ bs) [] = left_lefts b q (marks (flip q) bs []) ∙ ap (repeat b q) (lefts_marks (flip q) bs [])
lefts_marks q (b ∷ bs) (c ∷ cs) =
    left_lefts b q (rights_then c q (marks (flip q) bs cs)) ∙ ap (repeat b q) (left_rights c q (marks (flip q) bs cs) ∙ lefts_marks (flip q) bs cs)

pub rights_marks : (q : Quant) (bs cs : List ℕ) → rights (marks q bs cs) ≡ quants q cs
rights_marks q [] cs = right_right q cs
rights_marks q (b ∷ bs) [] = right_lefts b q (marks (flip q) bs []) ∙ rights_marks (flip q) bs []
rights_marks q (b ∷ bs) (c ∷ cs) =
    right_lefts b q (rights_then c q (marks (flip q) bs cs)) ∙ right_rights c q (marks (flip q) bs cs) ∙ ap (repeat c q) (rights_marks (flip q) bs cs)

pub exists_front : (bs : List ℕ) → quants Exists (front_exists bs) ≡ Exists ∷ quants Exists bs
exists_front [] = refl
exists_front (b ∷ bs) = refl

pub forall_front : (bs : List ℕ) → quants Exists (front_forall bs) ≡ Forall ∷ quants Exists bs
forall_front [] = refl
forall_front (zero ∷ []) = refl
forall_front (zero ∷ c ∷ bs) = refl
forall_front (suc b ∷ bs) = refl

-- ---- the names

-- each name is below n
abbrev pub NamesBelow : ℕ → List ℕ → Type 0
NamesBelow n [] = ⊤
NamesBelow n (i ∷ is) = (i < n) × NamesBelow n is

names_push : (n : ℕ) (is : List ℕ) (i : ℕ) → NamesBelow n is → i < n → NamesBelow n (is ++ i ∷ [])
names_push n [] i b h = (h, tt)
names_push n (j ∷ is) i b h = (b.0, names_push n is i b.1 h)

names_more : (n m : ℕ) (is : List ℕ) → n ≤ m → NamesBelow n is → NamesBelow m is
names_more n m [] h b = tt
names_more n m (i ∷ is) h b = (omega arith, names_more n m is h b.1)

name_below : (n : ℕ) (is : List ℕ) (i : ℕ) → NamesBelow n is → i < length is → get_or is i 0 < n
name_below n [] i b h = absurd (omega arith)
name_below n (j ∷ is) zero b h = b.0
name_below n (j ∷ is) (suc i) b h = name_below n is i b.1 (omega arith)

left_length : (names : List ℕ) (k : ℕ) (ms : List Mark) → length (left_names names k ms) ≡ length names + length (lefts ms)
left_length names k [] = omega arith
left_length names k (left q ∷ ms) =
    let h = left_length (names ++ k ∷ []) (suc k) ms in let l = length-append names (k ∷ []) in omega arith
left_length names k (right q ∷ ms) = left_length names (suc k) ms

right_length : (names : List ℕ) (k : ℕ) (ms : List Mark) → length (right_names names k ms) ≡ length names + length (rights ms)
right_length names k [] = omega arith
right_length names k (left q ∷ ms) = right_length names (suc k) ms
right_length names k (right q ∷ ms) =
    let h = right_length (names ++ k ∷ []) (suc k) ms in let l = length-append names (k ∷ []) in omega arith

left_below : (names : List ℕ) (k : ℕ) (ms : List Mark) → NamesBelow k names → NamesBelow (k + length (quants_of ms)) (left_names names k ms)
left_below names k [] b = names_more k (k + 0) names (omega arith) b
left_below names k (left q ∷ ms) b =
    names_more (suc k + length (quants_of ms)) (k + suc (length (quants_of ms))) (left_names (names ++ k ∷ []) (suc k) ms) (omega arith) (left_below (names ++ k ∷ []) (suc k) ms (names_push (suc k) names k (names_more k (suc k) names (omega arith) b) (omega arith)))
left_below names k (right q ∷ ms) b =
    names_more (suc k + length (quants_of ms)) (k + suc (length (quants_of ms))) (left_names names (suc k) ms) (omega arith) (left_below names (suc k) ms (names_more k (suc k) names (omega arith) b))

right_below : (names : List ℕ) (k : ℕ) (ms : List Mark) → NamesBelow k names → NamesBelow (k + length (quants_of ms)) (right_names names k ms)
right_below names k [] b = names_more k (k + 0) names (omega arith) b
right_below names k (left q ∷ ms) b =
    names_more (suc k + length (quants_of ms)) (k + suc (length (quants_of ms))) (right_names names (suc k) ms) (omega arith) (right_below names (suc k) ms (names_more k (suc k) names (omega arith) b))
right_below names k (right q ∷ ms) b =
    names_more (suc k + length (quants_of ms)) (k + suc (length (quants_of ms))) (right_names (names ++ k ∷ []) (suc k) ms) (omega arith) (right_below (names ++ k ∷ []) (suc k) ms (names_push (suc k) names k (names_more k (suc k) names (omega arith) b) (omega arith)))

pub first_length : (k : ℕ) → length (first_places k) ≡ k
first_length zero = refl
first_length (suc k) = let h = first_length k in let l = length-append (first_places k) (k ∷ []) in omega arith

first_below : (k : ℕ) → NamesBelow k (first_places k)
first_below zero = tt
first_below (suc k) =
    names_push (suc k) (first_places k) k (names_more k (suc k) (first_places k) (omega arith) (first_below k)) (omega arith)

pub first_get : (k i : ℕ) → i < k → get_or (first_places k) i 0 ≡ i
first_get zero i h = absurd (omega arith)
first_get (suc k) i h = elim (cases_lt i k) [
  | inl less ↦
      get_or_append_left (first_places k) (k ∷ []) 0 i (let l = first_length k in omega arith) ∙ first_get k i less
  | inr past ↦
      let e : k ≡ i = omega arith in
      get_or_push (first_places k) k 0 i (let l = first_length k in omega arith) ∙ e
]

first_state : (s : Sort) (k : ℕ) (p : Point) → IsPoint s p → length p.nums ≡ k → State s (first_places k) p p
first_state s k p i l = record {
  path_point = i;
  whole_point = i;
  long = let h = first_length k in omega arith;
  inside = λ j h. let f = first_length k in let g = first_get k j (omega arith) in omega arith;
  agree = record { same = λ j h. let f = first_length k in ap (λ (m : ℕ). at p.nums m *ℤ pos p.den) (sym (first_get k j (omega arith))) };
}

first_two : (s : Sort) (k : ℕ) (p : Point) → IsPoint s p → length p.nums ≡ k → Two s (first_places k) (first_places k) p p p k
first_two s k p i l = record { fst = first_state s k p i l; snd = first_state s k p i l; count = l }

-- ---- what is renamed fits

rename_below : (n : ℕ) (names : List ℕ) (ts : List (ℕ × ℤ)) → NamesBelow n names → BelowTerms (length names) ts → BelowTerms n (rename_terms names ts)
rename_below n names [] b h = tt
rename_below n names (t ∷ ts) b h = (name_below n names t.0 b h.0, rename_below n names ts b h.1)

rename_lit_fits : (s : Sort) (n : ℕ) (names : List ℕ) (l : Lit) → NamesBelow n names → IsOf s l × Below (length names) (form_of l) → IsOf s (rename_lit names l) × Below n (form_of (rename_lit names l))
rename_lit_fits Rat n names (AtLeast f) b h = (h.0, rename_below n names f.terms b h.1)
rename_lit_fits Int n names (AtLeast f) b h = (h.0, rename_below n names f.terms b h.1)
rename_lit_fits Rat n names (Above f) b h = (h.0, rename_below n names f.terms b h.1)
rename_lit_fits Int n names (Above f) b h = (h.0, rename_below n names f.terms b h.1)
rename_lit_fits Rat n names (Divides d f) b h = absurd h.0
rename_lit_fits Int n names (Divides d f) b h = (h.0, rename_below n names f.terms b h.1)
rename_lit_fits Rat n names (NotDivides d f) b h = absurd h.0
rename_lit_fits Int n names (NotDivides d f) b h = (h.0, rename_below n names f.terms b h.1)

mutual
  rename_fits : (m : Matrix) (s : Sort) (n : ℕ) (names : List ℕ) → NamesBelow n names → IsMatrix m s (length names) → IsMatrix (rename_matrix m names) s n
  rename_fits (lit l) s n names b h = rename_lit_fits s n names l b h
  rename_fits (all ms) s n names b h = rename_all_fit ms s n names b h
  rename_fits (some ms) s n names b h = rename_all_fit ms s n names b h

  rename_all_fit : (ms : Matrices) (s : Sort) (n : ℕ) (names : List ℕ) → NamesBelow n names → AreMatrices ms s (length names) → AreMatrices (rename_matrices ms names) s n
  rename_all_fit none s n names b h = tt
  rename_all_fit (more m ms) s n names b h = (rename_fits m s n names b h.0, rename_all_fit ms s n names b h.1)

-- the number of variables of a prefix
abbrev pub size : List ℕ → ℕ
size bs = length (quants Exists bs)

pub fit_marks : (s : Sort) (k : ℕ) (A : Matrix) (B : Matrices) (bs cs : List ℕ) → IsMatrix A s (k + size bs) → AreMatrices B s (k + size cs) → Fit s (first_places k) (first_places k) k (marks Exists bs cs) A B
fit_marks s k A B bs cs a b =
    let f = first_length k in
    let l = left_length (first_places k) k (marks Exists bs cs) in
    let r = right_length (first_places k) k (marks Exists bs cs) in
    let x = ap length (lefts_marks Exists bs cs) in
    let y = ap length (rights_marks Exists bs cs) in
    (subst (λ (n : ℕ). IsMatrix A s n) (omega arith) a, subst (λ (n : ℕ). AreMatrices B s n) (omega arith) b)

joined_fit : (s : Sort) (k : ℕ) (A : Matrix) (B : Matrices) (bs cs : List ℕ) → IsMatrix A s (k + size bs) → AreMatrices B s (k + size cs) → AreMatrices (bodies (first_places k) (first_places k) k (marks Exists bs cs) A B) s (k + size (merge bs cs))
joined_fit s k A B bs cs a b =
    let f = fit_marks s k A B bs cs a b in
    let w = ap length (of_marks Exists bs cs) in
    let e : k + length (quants_of (marks Exists bs cs)) ≡ k + size (merge bs cs) = omega arith in
    let n = k + size (merge bs cs) in (
      rename_fits A s n (left_names (first_places k) k (marks Exists bs cs)) (subst (λ (i : ℕ). NamesBelow i (left_names (first_places k) k (marks Exists bs cs))) e (left_below (first_places k) k (marks Exists bs cs) (first_below k))) f.0,
      rename_all_fit B s n (right_names (first_places k) k (marks Exists bs cs)) (subst (λ (i : ℕ). NamesBelow i (right_names (first_places k) k (marks Exists bs cs))) e (right_below (first_places k) k (marks Exists bs cs) (first_below k))) f.1,
    )

mutual
  pub prenex_fits : (n : Normal) (s : Sort) (k : ℕ) → IsNormal n s k → IsMatrix (prenex n k).body s (k + size (prenex n k).blocks)
  prenex_fits (one_lit l) s k o =
      let e : k ≡ k + 0 = omega arith in (o.0, subst (λ (i : ℕ). Below i (form_of l)) e o.1)
  prenex_fits (each_of ns) s k o = parts_fit ns s k o
  prenex_fits (some_of ns) s k o = parts_fit ns s k o
  prenex_fits (for_all n) s k o =
      let h = prenex_fits n s (suc k) o in
      let e = ap length (forall_front (prenex n (suc k)).blocks) in
      subst (λ (i : ℕ). IsMatrix (prenex n (suc k)).body s i) (omega arith) h
  prenex_fits (there_is n) s k o =
      let h = prenex_fits n s (suc k) o in
      let e = ap length (exists_front (prenex n (suc k)).blocks) in
      subst (λ (i : ℕ). IsMatrix (prenex n (suc k)).body s i) (omega arith) h

  pub parts_fit : (ns : Normals) (s : Sort) (k : ℕ) → AreNormal ns s k → AreMatrices (prenex_parts ns k).bodies s (k + size (prenex_parts ns k).blocks)
  parts_fit no_part s k o = tt
  parts_fit (part n ns) s k o =
      joined_fit s k (prenex n k).body (prenex_parts ns k).bodies (prenex n k).blocks (prenex_parts ns k).blocks (prenex_fits n s k o.0) (parts_fit ns s k o.1)

-- ---- truth

abbrev pub Played : Sort → List ℕ → Matrix → Point → Type 0
Played s bs m p = TrueFrom (quants Exists bs) s m p

play_as : (s : Sort) (qs rs : List Quant) (m : Matrix) (p : Point) → qs ≡ rs → TrueFrom qs s m p → TrueFrom rs s m p
play_as s qs rs m p e h = subst (λ (x : List Quant). TrueFrom x s m p) e h

parts_all_to : (s : Sort) (k : ℕ) (p : Point) (A : Matrix) (B : Matrices) (bs cs : List ℕ) → IsPoint s p → length p.nums ≡ k → IsMatrix A s (k + size bs) → AreMatrices B s (k + size cs) → Played s (merge bs cs) (all (bodies (first_places k) (first_places k) k (marks Exists bs cs) A B)) p → Played s bs A p × Played s cs (all B) p
parts_all_to s k p A B bs cs i l a b h =
    let r = all_to (marks Exists bs cs) s (first_places k) (first_places k) p p p k A B (first_two s k p i l) (fit_marks s k A B bs cs a b) (play_as s (quants Exists (merge bs cs)) (quants_of (marks Exists bs cs)) (all (bodies (first_places k) (first_places k) k (marks Exists bs cs) A B)) p (sym (of_marks Exists bs cs)) h) in
    (play_as s (lefts (marks Exists bs cs)) (quants Exists bs) A p (lefts_marks Exists bs cs) r.0, play_as s (rights (marks Exists bs cs)) (quants Exists cs) (all B) p (rights_marks Exists bs cs) r.1)

parts_all_from : (s : Sort) (k : ℕ) (p : Point) (A : Matrix) (B : Matrices) (bs cs : List ℕ) → IsPoint s p → length p.nums ≡ k → IsMatrix A s (k + size bs) → AreMatrices B s (k + size cs) → Played s bs A p → Played s cs (all B) p → Played s (merge bs cs) (all (bodies (first_places k) (first_places k) k (marks Exists bs cs) A B)) p
parts_all_from s k p A B bs cs i l a b x y =
    play_as s (quants_of (marks Exists bs cs)) (quants Exists (merge bs cs)) (all (bodies (first_places k) (first_places k) k (marks Exists bs cs) A B)) p (of_marks Exists bs cs)
    (all_from (marks Exists bs cs) s (first_places k) (first_places k) p p p k A B (first_two s k p i l) (fit_marks s k A B bs cs a b) (play_as s (quants Exists bs) (lefts (marks Exists bs cs)) A p (sym (lefts_marks Exists bs cs)) x) (play_as s (quants Exists cs) (rights (marks Exists bs cs)) (all B) p (sym (rights_marks Exists bs cs)) y))

parts_some_to : (s : Sort) (k : ℕ) (p : Point) (A : Matrix) (B : Matrices) (bs cs : List ℕ) → IsPoint s p → length p.nums ≡ k → IsMatrix A s (k + size bs) → AreMatrices B s (k + size cs) → Played s (merge bs cs) (some (bodies (first_places k) (first_places k) k (marks Exists bs cs) A B)) p → ¬ Played s bs A p → ¬ Played s cs (some B) p → ⊥
parts_some_to s k p A B bs cs i l a b h x y =
    some_to (marks Exists bs cs) s (first_places k) (first_places k) p p p k A B (first_two s k p i l) (fit_marks s k A B bs cs a b) (play_as s (quants Exists (merge bs cs)) (quants_of (marks Exists bs cs)) (some (bodies (first_places k) (first_places k) k (marks Exists bs cs) A B)) p (sym (of_marks Exists bs cs)) h)
    (λ r. x (play_as s (lefts (marks Exists bs cs)) (quants Exists bs) A p (lefts_marks Exists bs cs) r))
    (λ r. y (play_as s (rights (marks Exists bs cs)) (quants Exists cs) (some B) p (rights_marks Exists bs cs) r))

parts_some_from : (s : Sort) (k : ℕ) (p : Point) (A : Matrix) (B : Matrices) (bs cs : List ℕ) → IsPoint s p → length p.nums ≡ k → IsMatrix A s (k + size bs) → AreMatrices B s (k + size cs) → (¬ Played s bs A p → ¬ Played s cs (some B) p → ⊥) → Played s (merge bs cs) (some (bodies (first_places k) (first_places k) k (marks Exists bs cs) A B)) p
parts_some_from s k p A B bs cs i l a b h =
    play_as s (quants_of (marks Exists bs cs)) (quants Exists (merge bs cs)) (some (bodies (first_places k) (first_places k) k (marks Exists bs cs) A B)) p (of_marks Exists bs cs)
    (some_from (marks Exists bs cs) s (first_places k) (first_places k) p p p k A B (first_two s k p i l) (fit_marks s k A B bs cs a b)
    (λ x y. h
    (λ r. x (play_as s (quants Exists bs) (lefts (marks Exists bs cs)) A p (sym (lefts_marks Exists bs cs)) r))
    (λ r. y (play_as s (quants Exists cs) (rights (marks Exists bs cs)) (some B) p (sym (rights_marks Exists bs cs)) r))))

count_more : (k : ℕ) (p : Point) (v : Value) → length p.nums ≡ k → length (extend p v).nums ≡ suc k
count_more k p v l = let e = length-extend p v in omega arith

mutual
  pub prenex_true : (n : Normal) (s : Sort) (k : ℕ) (p : Point) → IsNormal n s k → IsPoint s p → length p.nums ≡ k → TrueN n s p → Played s (prenex n k).blocks (prenex n k).body p
  prenex_true (one_lit x) s k p o i l h = h
  prenex_true (each_of ns) s k p o i l h = parts_all_true ns s k p o i l h
  prenex_true (some_of ns) s k p o i l h = parts_some_true ns s k p o i l h
  prenex_true (for_all n) s k p o i l h =
      play_as s (Forall ∷ quants Exists (prenex n (suc k)).blocks) (quants Exists (front_forall (prenex n (suc k)).blocks)) (prenex n (suc k)).body p (sym (forall_front (prenex n (suc k)).blocks))
      (λ v j. prenex_true n s (suc k) (extend p v) o (extend_point s p v i j) (count_more k p v l) (h v j))
  prenex_true (there_is n) s k p o i l h =
      play_as s (Exists ∷ quants Exists (prenex n (suc k)).blocks) (quants Exists (front_exists (prenex n (suc k)).blocks)) (prenex n (suc k)).body p (sym (exists_front (prenex n (suc k)).blocks))
      (λ x. h (λ v j t. x v j (prenex_true n s (suc k) (extend p v) o (extend_point s p v i j) (count_more k p v l) t)))

  pub parts_all_true : (ns : Normals) (s : Sort) (k : ℕ) (p : Point) → AreNormal ns s k → IsPoint s p → length p.nums ≡ k → AllTrue ns s p → Played s (prenex_parts ns k).blocks (all (prenex_parts ns k).bodies) p
  parts_all_true no_part s k p o i l h = tt
  parts_all_true (part n ns) s k p o i l h =
      parts_all_from s k p (prenex n k).body (prenex_parts ns k).bodies (prenex n k).blocks (prenex_parts ns k).blocks i l (prenex_fits n s k o.0) (parts_fit ns s k o.1)
      (prenex_true n s k p o.0 i l h.0) (parts_all_true ns s k p o.1 i l h.1)

  pub parts_some_true : (ns : Normals) (s : Sort) (k : ℕ) (p : Point) → AreNormal ns s k → IsPoint s p → length p.nums ≡ k → ¬ AllFalse ns s p → Played s (prenex_parts ns k).blocks (some (prenex_parts ns k).bodies) p
  parts_some_true no_part s k p o i l h = h
  parts_some_true (part n ns) s k p o i l h =
      parts_some_from s k p (prenex n k).body (prenex_parts ns k).bodies (prenex n k).blocks (prenex_parts ns k).blocks i l (prenex_fits n s k o.0) (parts_fit ns s k o.1)
      (λ x y. y (parts_some_true ns s k p o.1 i l (λ f. h (λ t. x (prenex_true n s k p o.0 i l t), f))))

mutual
  pub prenex_back : (n : Normal) (s : Sort) (k : ℕ) (p : Point) → IsNormal n s k → IsPoint s p → length p.nums ≡ k → Played s (prenex n k).blocks (prenex n k).body p → TrueN n s p
  prenex_back (one_lit x) s k p o i l h = h
  prenex_back (each_of ns) s k p o i l h = parts_all_back ns s k p o i l h
  prenex_back (some_of ns) s k p o i l h = parts_some_back ns s k p o i l h
  prenex_back (for_all n) s k p o i l h =
      λ v j. prenex_back n s (suc k) (extend p v) o (extend_point s p v i j) (count_more k p v l)
      (play_as s (quants Exists (front_forall (prenex n (suc k)).blocks)) (Forall ∷ quants Exists (prenex n (suc k)).blocks) (prenex n (suc k)).body p (forall_front (prenex n (suc k)).blocks) h v j)
  prenex_back (there_is n) s k p o i l h =
      λ x. play_as s (quants Exists (front_exists (prenex n (suc k)).blocks)) (Exists ∷ quants Exists (prenex n (suc k)).blocks) (prenex n (suc k)).body p (exists_front (prenex n (suc k)).blocks) h
      (λ v j t. x v j (prenex_back n s (suc k) (extend p v) o (extend_point s p v i j) (count_more k p v l) t))

  pub parts_all_back : (ns : Normals) (s : Sort) (k : ℕ) (p : Point) → AreNormal ns s k → IsPoint s p → length p.nums ≡ k → Played s (prenex_parts ns k).blocks (all (prenex_parts ns k).bodies) p → AllTrue ns s p
  parts_all_back no_part s k p o i l h = tt
  parts_all_back (part n ns) s k p o i l h =
      let r = parts_all_to s k p (prenex n k).body (prenex_parts ns k).bodies (prenex n k).blocks (prenex_parts ns k).blocks i l (prenex_fits n s k o.0) (parts_fit ns s k o.1) h in
      (prenex_back n s k p o.0 i l r.0, parts_all_back ns s k p o.1 i l r.1)

  pub parts_some_back : (ns : Normals) (s : Sort) (k : ℕ) (p : Point) → AreNormal ns s k → IsPoint s p → length p.nums ≡ k → Played s (prenex_parts ns k).blocks (some (prenex_parts ns k).bodies) p → ¬ AllFalse ns s p
  parts_some_back no_part s k p o i l h = h
  parts_some_back (part n ns) s k p o i l h =
      λ f. parts_some_to s k p (prenex n k).body (prenex_parts ns k).bodies (prenex n k).blocks (prenex_parts ns k).blocks i l (prenex_fits n s k o.0) (parts_fit ns s k o.1) h
      (λ t. f.0 (prenex_back n s k p o.0 i l t)) (λ t. parts_some_back ns s k p o.1 i l t f.1)

pub prenex_is_true : (n : Normal) (s : Sort) → IsNormal n s 0 → TrueN n s origin → TrueP s (prenex_of n)
prenex_is_true n s o h = prenex_true n s 0 origin o (origin_point s) refl h

pub prenex_only_true : (n : Normal) (s : Sort) → IsNormal n s 0 → TrueP s (prenex_of n) → TrueN n s origin
prenex_only_true n s o h = prenex_back n s 0 origin o (origin_point s) refl h
