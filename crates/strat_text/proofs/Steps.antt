-- The lines of a proof: what is read is spelled so, and what is spelled so is read.
use Rattle.std.proofs.Common.{◌≡◌, ℕ, ◌+◌, ◌≤◌, true, List, [], ◌∷◌, ◌++◌, length, Option, Some, None, Result, Ok, Err, refl, sym, ap, subst, ◌∙◌, append_assoc, arith, inl, inr}
use Rattle.std.specs.List.{flat_map, AllByRecursion}
use Rattle.std.specs.Prelude.{option_and_then, if◌then◌else◌}
use Rattle.std.proofs.lemmas.List.Concat.{flat_map-cons}
use Rattle.lin_term.specs.Form.{cap}
use Rattle.lin_term.specs.declared.lit.Lit.{Lit}
use Rattle.lin_term.specs.declared.lit.Lit.TheVariants.{AtLeast, Above, Divides, NotDivides}
use Rattle.cube_rules.specs.declared.kind.Kind.{Kind}
use Rattle.cube_rules.specs.declared.kind.Kind.TheVariants as kind
use Rattle.cube_rules.specs.declared.step.Step.{Step}
use Rattle.cube_rules.specs.declared.step.Step.TheVariants.{Path, Def, Part, Cases, Sum, Split, Cube, Least, Learn, False}
use Rattle.cube_rules.specs.Limits.{IsIndex, IsCount, IsLiteral, IsStep, divisor_cap}
use Rattle.cube_rules.specs.Lines.{kind_of}
use Rattle.cube_rules.specs.Name.{word_of, kinds, kind_named}
use Rattle.cube_rules.proofs.Naming.{found_among, named_again}
use Rattle.strat_words.specs.Number.{U32}
use Rattle.strat_words.specs.Spot.{Spot, Place, first, ends, fits, goes_on, begins_with_space, number_follows, number_behind_space}
use Rattle.strat_words.specs.Many.{made, Chain}
use Rattle.strat_words.specs.Taking as taking
use Rattle.strat_words.proofs.Laws.{Stops, many_takes, many_again, many_some}
use Rattle.strat_words.proofs.Loops.{some_left, word_left}
use Rattle.strat_words.proofs.Numbers.{some_is}
use Rattle.strat_words.proofs.Taken.{natural_takes, natural_again, signed_takes, signed_again, natural_begins, chosen, room}
use Rattle.strat_words.proofs.WordLaws.{bind_ok, ok_is, fits_ok, Takes, Takes-then, Reads, IsWord, Parted, first_takes, first_again, ends_takes, ends_again, made_again, made_ok}
use Rattle.strat_text.specs.Line as line
use Rattle.strat_text.specs.Line.{literal, step_of, sum_line, cube_line, learn_line, kind_in, step}
use Rattle.strat_text.specs.Sections.{has_kind, HasLine}
use Rattle.strat_text.specs.Written as spelled
use Rattle.strat_text.proofs.Lines.{literal_takes, literal_again}

pub lf : (z : List ℕ) → Stops (10 ∷ z)
lf z = record { parted = refl; no_more = refl }

-- ---- the indices of a `cube` line, and the literals of a `learn` line

module _ {A : Type 0} (P : A → Type 0) where
  from_chain : (xs : List A) → Chain (λ u x. P x) line.unchanged tt xs → AllByRecursion P xs
  from_chain [] c = tt
  from_chain (x ∷ xs) c = (c.0, from_chain xs c.1)

  to_chain : (xs : List A) → AllByRecursion P xs → Chain (λ u x. P x) line.unchanged tt xs
  to_chain [] c = tt
  to_chain (x ∷ xs) c = (c.0, to_chain xs c.1)

pub index_takes : (s : Spot) (x : ℕ × Spot) → taking.index s ≡ Ok x → Takes s (spelled.natural x.0) x.1 × IsIndex x.0
index_takes s x e = let t = natural_takes 0 U32 s x e in (t.0, omega (arith, t.2))

index_again : (s : Spot) (n : ℕ) (z : List ℕ) → IsIndex n → Parted z → s.rest ≡ spelled.natural n ++ z → Reads (taking.index s) n z
index_again s n z lt p e = natural_again 0 U32 s n z (omega arith) (omega (arith, lt)) (omega arith) p e

indices_takes : (s : Spot) (x : List ℕ × Spot) → line.indices s ≡ Ok x → Takes s (flat_map spelled.natural x.0) x.1 × AllByRecursion IsIndex x.0
indices_takes s x e =
    let t = many_takes number_behind_space line.any_index line.unchanged spelled.natural (λ u f. IsIndex f) (λ u s1 y e1. index_takes s1 y e1) (length s.rest) tt s x e in
    (t.0, from_chain IsIndex x.0 t.1)

indices_again : (s : Spot) (fs : List ℕ) (z : List ℕ) → AllByRecursion IsIndex fs → Stops z → s.rest ≡ flat_map spelled.natural fs ++ z → Reads (line.indices s) fs z
indices_again s fs z c stop e =
    many_again number_behind_space line.any_index line.unchanged spelled.natural (λ u f. IsIndex f) Parted (λ u s1 f z1 i p e1. index_again s1 f z1 i p e1) (λ f z1. refl) (λ u f z1 i. natural_begins f z1 (omega (arith, i))) (length s.rest) tt s fs z (to_chain IsIndex fs c)
    (room spelled.natural (λ f. omega arith) fs s z e) stop.parted stop.no_more e

pub some_of_literal : (l : Lit) → 1 ≤ length (spelled.literal l)
some_of_literal (AtLeast r) = omega arith
some_of_literal (Above r) = omega arith
some_of_literal (Divides d r) = omega arith
some_of_literal (NotDivides d r) = omega arith

-- a mark is no number
stops_literal : (l : Lit) (z : List ℕ) → Stops (spelled.literal l ++ z)
stops_literal (AtLeast r) z = record { parted = refl; no_more = refl }
stops_literal (Above r) z = record { parted = refl; no_more = refl }
stops_literal (Divides d r) z = record { parted = refl; no_more = refl }
stops_literal (NotDivides d r) z = record { parted = refl; no_more = refl }

spaced_literal : (l : Lit) (z : List ℕ) → begins_with_space (spelled.literal l ++ z) ≡ true
spaced_literal (AtLeast r) z = refl
spaced_literal (Above r) z = refl
spaced_literal (Divides d r) z = refl
spaced_literal (NotDivides d r) z = refl

literals_takes : (s : Spot) (x : List Lit × Spot) → line.literals s ≡ Ok x → Takes s (flat_map spelled.literal x.0) x.1 × AllByRecursion IsLiteral x.0
literals_takes s x e =
    let t = many_takes begins_with_space line.any_literal line.unchanged spelled.literal (λ u l. IsLiteral l) (λ u s1 y e1. literal_takes s1 y e1) (length s.rest) tt s x e in
    (t.0, from_chain IsLiteral x.0 t.1)

literals_again : (s : Spot) (ls : List Lit) (z : List ℕ) → AllByRecursion IsLiteral ls → s.rest ≡ flat_map spelled.literal ls ++ (10 ∷ z) → Reads (line.literals s) ls (10 ∷ z)
literals_again s ls z c e =
    many_again begins_with_space line.any_literal line.unchanged spelled.literal (λ u l. IsLiteral l) Stops (λ u s1 l z1 i stop e1. literal_again s1 l z1 i stop e1) stops_literal (λ u l z1 i. spaced_literal l z1) (length s.rest) tt s ls (10 ∷ z) (to_chain IsLiteral ls c)
    (room spelled.literal some_of_literal ls s (10 ∷ z) e) (lf z) refl e

-- ---- the first word

-- a kind that is found has the word, and the version has the kind
had : (version : ℕ) (w : List ℕ) (o : Option Kind) (k : Kind) → kind_named w ≡ o → option_and_then (λ j. if has_kind version j then Some j else None) o ≡ Some k → (w ≡ word_of k) × (has_kind version k ≡ true)
had version w None k n e = absurd cc
had version w (Some j) k n e = elim (chosen (has_kind version j) (Some j) None (Some k) e) [
  | inl p ↦ subst (λ (y : Kind). (w ≡ word_of y) × (has_kind version y ≡ true)) (some_is j k p.1) (found_among w kinds j n, p.0)
  | inr p ↦ absurd (let q = p.1 in cc)
]

kind_is : (version : ℕ) (w : List ℕ) (k : Kind) → kind_in version w ≡ Some k → (w ≡ word_of k) × (has_kind version k ≡ true)
kind_is version w k e = had version w (kind_named w) k refl e

-- ---- lines

two_ok : (make : ℕ → ℕ → Step) (r : Result (ℕ × ℕ × Spot) Place) (y : Step × Spot) → line.two make r ≡ Ok y → (x : ℕ × ℕ × Spot) × (r ≡ Ok x) × ((make x.0 x.1, x.2) ≡ y)
two_ok make (Ok x) y e = (x, refl, ok_is (make x.0 x.1, x.2) y e)
two_ok make (Err p) y e = absurd cc

module _ (s : Spot) (x : Step × Spot) where
  abbrev Goal : Kind → Step × Spot → Type 0
  Goal k y = Takes s (spelled.arguments y.0) y.1 × IsStep y.0 × (kind_of y.0 ≡ k)

  one_takes : (k : Kind) (make : ℕ → Step) → ((n : ℕ) (s' : Spot) → Takes s (spelled.natural n) s' → IsIndex n → Goal k (make n, s')) → made make (taking.index s) ≡ Ok x → Goal k x
  one_takes k make h e =
      let m = made_ok make (taking.index s) x e in
      let t = index_takes s m.0 m.1 in
      subst (Goal k) m.2 (h m.0.0 m.0.1 t.0 t.1)

  pair_takes : (k : Kind) (make : ℕ → ℕ → Step) → ((v i : ℕ) (s' : Spot) → Takes s (spelled.natural v ++ spelled.natural i) s' → IsIndex v × IsIndex i → Goal k (make v i, s')) → line.two make (line.two_indices s) ≡ Ok x → Goal k x
  pair_takes k make h e =
      let m = two_ok make (line.two_indices s) x e in
      let a = bind_ok (taking.index s) _ m.0 m.1 in
      let b = bind_ok (taking.index a.0.1) _ m.0 a.2 in
      let ta = index_takes s a.0 a.1 in
      let tb = index_takes a.0.1 b.0 b.1 in
      let whole = Takes-then s (spelled.natural a.0.0) a.0.1 (spelled.natural b.0.0) b.0.1 ta.0 tb.0 in
      let is : (a.0.0, b.0.0, b.0.1) ≡ m.0 = ok_is (a.0.0, b.0.0, b.0.1) m.0 b.2 in
      subst (Goal k) m.2 (subst (λ (y : ℕ × ℕ × Spot). Goal k (make y.0 y.1, y.2)) is (h a.0.0 b.0.0 b.0.1 whole (ta.1, tb.1)))

  parts_takes : (k : Kind) (make : ℕ → ℕ → Step) → ((v i : ℕ) (s' : Spot) → Takes s (spelled.natural v ++ spelled.natural i) s' → IsIndex v × IsCount 0 i → Goal k (make v i, s')) → line.two make (line.index_and_count s) ≡ Ok x → Goal k x
  parts_takes k make h e =
      let m = two_ok make (line.index_and_count s) x e in
      let a = bind_ok (taking.index s) _ m.0 m.1 in
      let b = bind_ok (taking.count 0 a.0.1) _ m.0 a.2 in
      let ta = index_takes s a.0 a.1 in
      let tb = natural_takes 0 (cap + 1) a.0.1 b.0 b.1 in
      let whole = Takes-then s (spelled.natural a.0.0) a.0.1 (spelled.natural b.0.0) b.0.1 ta.0 tb.0 in
      let is : (a.0.0, b.0.0, b.0.1) ≡ m.0 = ok_is (a.0.0, b.0.0, b.0.1) m.0 b.2 in
      subst (Goal k) m.2 (subst (λ (y : ℕ × ℕ × Spot). Goal k (make y.0 y.1, y.2)) is (h a.0.0 b.0.0 b.0.1 whole (ta.1, (tb.1, omega (arith, tb.2)))))

  sum_takes : sum_line s ≡ Ok x → Goal kind.Sum x
  unfolding sum_line
  sum_takes e =
      let p = bind_ok (taking.kept s) _ x e in
      let f = bind_ok (taking.index p.0.1) _ x p.2 in
      let q = bind_ok (taking.kept f.0.1) _ x f.2 in
      let h = bind_ok (taking.index q.0.1) _ x q.2 in
      let g = bind_ok (taking.signed (divisor_cap + 1) h.0.1) _ x h.2 in
      let tp = signed_takes (cap + 1) s p.0 p.1 in
      let tf = index_takes p.0.1 f.0 f.1 in
      let tq = signed_takes (cap + 1) f.0.1 q.0 q.1 in
      let th = index_takes q.0.1 h.0 h.1 in
      let tg = signed_takes (divisor_cap + 1) h.0.1 g.0 g.1 in
      let e4 = Takes-then q.0.1 (spelled.natural h.0.0) h.0.1 (spelled.signed g.0.0) g.0.1 th.0 tg.0 in
      let e3 = Takes-then f.0.1 (spelled.signed q.0.0) q.0.1 (spelled.natural h.0.0 ++ spelled.signed g.0.0) g.0.1 tq.0 e4 in
      let e2 = Takes-then p.0.1 (spelled.natural f.0.0) f.0.1 (spelled.signed q.0.0 ++ (spelled.natural h.0.0 ++ spelled.signed g.0.0)) g.0.1 tf.0 e3 in
      let e1 = Takes-then s (spelled.signed p.0.0) p.0.1 (spelled.natural f.0.0 ++ (spelled.signed q.0.0 ++ (spelled.natural h.0.0 ++ spelled.signed g.0.0))) g.0.1 tp.0 e2 in
      subst (Goal kind.Sum) (ok_is (Sum p.0.0 f.0.0 q.0.0 h.0.0 g.0.0, g.0.1) x g.2) (e1, (omega (arith, tp.1), tf.1, omega (arith, tq.1), th.1, omega (arith, tg.1)), refl)

  split_takes : made Split (literal s) ≡ Ok x → Goal kind.Split x
  split_takes e =
      let m = made_ok Split (literal s) x e in
      let t = literal_takes s m.0 m.1 in
      subst (Goal kind.Split) m.2 (t.0, t.1, refl)

  cube_takes : cube_line s ≡ Ok x → Goal kind.Cube x
  unfolding cube_line
  cube_takes e = elim (chosen (number_follows s) _ _ _ e) [
    | inl p ↦
        let m = made_ok Cube (line.indices s) x p.1 in
        let t = indices_takes s m.0 m.1 in
        let some = many_some number_behind_space line.any_index line.unchanged spelled.natural (λ u f. IsIndex f) (length s.rest) tt s m.0 (some_left s p.0) p.0 m.1 in
        subst (Goal kind.Cube) m.2 (t.0, (some, t.1), refl)
    | inr p ↦ absurd (let q = p.1 in cc)
  ]

  learn_takes : learn_line s ≡ Ok x → Goal kind.Learn x
  unfolding learn_line
  learn_takes e = elim (chosen (goes_on s) _ _ _ e) [
    | inl p ↦
        let m = made_ok Learn (line.literals s) x p.1 in
        let t = literals_takes s m.0 m.1 in
        let some = many_some begins_with_space line.any_literal line.unchanged spelled.literal (λ u l. IsLiteral l) (length s.rest) tt s m.0 (word_left s p.0) p.0 m.1 in
        subst (Goal kind.Learn) m.2 (t.0, (some, t.1), refl)
    | inr p ↦ absurd (let q = p.1 in cc)
  ]

  step_of_takes : (k : Kind) → step_of k s ≡ Ok x → Goal k x
  step_of_takes kind.Path e = one_takes kind.Path Path (λ n s' t i. (t, i, refl)) e
  step_of_takes kind.Def e = pair_takes kind.Def Def (λ v i s' t h. (t, h, refl)) e
  step_of_takes kind.Part e = pair_takes kind.Part Part (λ v i s' t h. (t, h, refl)) e
  step_of_takes kind.Cases e = parts_takes kind.Cases Cases (λ v i s' t h. (t, h, refl)) e
  step_of_takes kind.Sum e = sum_takes e
  step_of_takes kind.Split e = split_takes e
  step_of_takes kind.Cube e = cube_takes e
  step_of_takes kind.Least e = parts_takes kind.Least Least (λ v i s' t h. (t, h, refl)) e
  step_of_takes kind.Learn e = learn_takes e
  step_of_takes kind.False e = one_takes kind.False False (λ n s' t i. (t, i, refl)) e

pub step_takes : (version : ℕ) (s : Spot) (x : Step × Spot) → step version s ≡ Ok x → Takes s (spelled.step x.0) x.1 × IsStep x.0 × HasLine version x.0
unfolding step
step_takes version s x e =
    let w = bind_ok (first s) _ x e in
    let k = bind_ok (fits (kind_in version w.0.0) w.0.1) _ x w.2 in
    let a = bind_ok (step_of k.0.0 k.0.1) _ x k.2 in
    let n = bind_ok (ends a.0.1) _ x a.2 in
    let f = fits_ok (kind_in version w.0.0) w.0.1 k.0 k.1 in
    let is = kind_is version w.0.0 k.0.0 f.0 in
    let t = step_of_takes k.0.1 a.0 k.0.0 a.1 in
    let word : w.0.0 ≡ word_of (kind_of a.0.0) = is.0 ∙ ap word_of (sym t.2) in
    let tw : Takes s (word_of (kind_of a.0.0)) k.0.1 = subst (λ (y : List ℕ × Spot). Takes s y.0 y.1) (λ i. (word i, f.1 i)) (first_takes s w.0 w.1) in
    let e2 = Takes-then k.0.1 (spelled.arguments a.0.0) a.0.1 (10 ∷ []) n.0 t.0 (ends_takes a.0.1 n.0 n.1) in
    let e1 = Takes-then s (word_of (kind_of a.0.0)) k.0.1 (spelled.arguments a.0.0 ++ 10 ∷ []) n.0 tw e2 in
    subst (λ (y : Step × Spot). Takes s (spelled.step y.0) y.1 × IsStep y.0 × HasLine version y.0) (ok_is (a.0.0, n.0) x n.2) (e1, t.1, subst (λ (j : Kind). has_kind version j ≡ true) (sym t.2) is.1)

-- ---- and back

word_is_word : (k : Kind) → IsWord (word_of k)
word_is_word kind.Path = record { some = omega arith; all = refl }
word_is_word kind.Def = record { some = omega arith; all = refl }
word_is_word kind.Part = record { some = omega arith; all = refl }
word_is_word kind.Cases = record { some = omega arith; all = refl }
word_is_word kind.Sum = record { some = omega arith; all = refl }
word_is_word kind.Split = record { some = omega arith; all = refl }
word_is_word kind.Cube = record { some = omega arith; all = refl }
word_is_word kind.Least = record { some = omega arith; all = refl }
word_is_word kind.Learn = record { some = omega arith; all = refl }
word_is_word kind.False = record { some = omega arith; all = refl }

kind_again : (version : ℕ) (k : Kind) → has_kind version k ≡ true → kind_in version (word_of k) ≡ Some k
kind_again version k h = rw (named_again k, h) refl

parted_indices : (fs : List ℕ) (z : List ℕ) → 1 ≤ length fs → Parted (flat_map spelled.natural fs ++ z)
parted_indices [] z some = absurd (omega (arith, some))
parted_indices (f ∷ fs) z some = subst (λ (y : List ℕ). Parted (y ++ z)) (sym (flat_map-cons spelled.natural f fs)) refl

indices_begin : (fs : List ℕ) (z : List ℕ) → 1 ≤ length fs → AllByRecursion IsIndex fs → number_behind_space (flat_map spelled.natural fs ++ z) ≡ true
indices_begin [] z some all = absurd (omega (arith, some))
indices_begin (f ∷ fs) z some all =
    subst (λ (y : List ℕ). number_behind_space (y ++ z) ≡ true) (sym (flat_map-cons spelled.natural f fs))
    (ap number_behind_space (append_assoc (spelled.natural f) (flat_map spelled.natural fs) z) ∙ natural_begins f (flat_map spelled.natural fs ++ z) (omega (arith, all.0)))

literals_are : (l : Lit) (ls : List Lit) (z : List ℕ) → flat_map spelled.literal (l ∷ ls) ++ z ≡ spelled.literal l ++ (flat_map spelled.literal ls ++ z)
literals_are l ls z = ap (λ (y : List ℕ). y ++ z) (flat_map-cons spelled.literal l ls) ∙ append_assoc (spelled.literal l) (flat_map spelled.literal ls) z

parted_literals : (ls : List Lit) (z : List ℕ) → 1 ≤ length ls → Parted (flat_map spelled.literal ls ++ z)
parted_literals [] z some = absurd (omega (arith, some))
parted_literals (l ∷ ls) z some = subst Parted (sym (literals_are l ls z)) (stops_literal l (flat_map spelled.literal ls ++ z)).parted

literals_begin : (ls : List Lit) (z : List ℕ) → 1 ≤ length ls → begins_with_space (flat_map spelled.literal ls ++ z) ≡ true
literals_begin [] z some = absurd (omega (arith, some))
literals_begin (l ∷ ls) z some = ap begins_with_space (literals_are l ls z) ∙ spaced_literal l (flat_map spelled.literal ls ++ z)

parted_arguments : (x : Step) (z : List ℕ) → IsStep x → Parted (spelled.arguments x ++ z)
parted_arguments (Path k) z i = refl
parted_arguments (Def v j) z i = refl
parted_arguments (Part f j) z i = refl
parted_arguments (Cases f n) z i = refl
parted_arguments (Sum p f q h g) z i = refl
parted_arguments (Split l) z i = (stops_literal l z).parted
parted_arguments (Cube fs) z i = parted_indices fs z i.0
parted_arguments (Least v n) z i = refl
parted_arguments (Learn ls) z i = parted_literals ls z i.0
parted_arguments (False f) z i = refl

pair_again : (make : ℕ → ℕ → Step) (s : Spot) (v i : ℕ) (z : List ℕ) → IsIndex v → IsIndex i → Parted z → s.rest ≡ (spelled.natural v ++ spelled.natural i) ++ z → Reads (line.two make (line.two_indices s)) (make v i) z
pair_again make s v i z lv li p e =
    let a = index_again s v (spelled.natural i ++ z) lv refl (e ∙ append_assoc (spelled.natural v) (spelled.natural i) z) in
    let b = index_again a.at i z li p a.rest in
    record { at = b.at; is = rw (a.is, b.is) refl; rest = b.rest }

parts_again : (make : ℕ → ℕ → Step) (s : Spot) (v n : ℕ) (z : List ℕ) → IsIndex v → IsCount 0 n → Parted z → s.rest ≡ (spelled.natural v ++ spelled.natural n) ++ z → Reads (line.two make (line.index_and_count s)) (make v n) z
parts_again make s v n z lv c p e =
    let a = index_again s v (spelled.natural n ++ z) lv refl (e ∙ append_assoc (spelled.natural v) (spelled.natural n) z) in
    let b = natural_again 0 (cap + 1) a.at n z c.0 (omega (arith, c.1)) (omega arith) p a.rest in
    record { at = b.at; is = rw (a.is, b.is) refl; rest = b.rest }

step_of_again : (s : Spot) (x : Step) (z : List ℕ) → IsStep x → s.rest ≡ spelled.arguments x ++ (10 ∷ z) → Reads (step_of (kind_of x) s) x (10 ∷ z)
unfolding sum_line cube_line learn_line
step_of_again s (Path k) z i e = made_again Path (taking.index s) (index_again s k (10 ∷ z) i refl e)
step_of_again s (Def v j) z i e = pair_again Def s v j (10 ∷ z) i.0 i.1 refl e
step_of_again s (Part f j) z i e = pair_again Part s f j (10 ∷ z) i.0 i.1 refl e
step_of_again s (Cases f n) z i e = parts_again Cases s f n (10 ∷ z) i.0 i.1 refl e
step_of_again s (Sum p f q h g) z i e =
    let t5 : List ℕ = 10 ∷ z in
    let t4 : List ℕ = spelled.natural h ++ spelled.signed g in
    let t3 : List ℕ = spelled.signed q ++ t4 in
    let t2 : List ℕ = spelled.natural f ++ t3 in
    let a = signed_again (cap + 1) s p (t2 ++ t5) (omega (arith, i.0)) (omega arith) refl (e ∙ append_assoc (spelled.signed p) t2 t5) in
    let b = index_again a.at f (t3 ++ t5) i.1 refl (a.rest ∙ append_assoc (spelled.natural f) t3 t5) in
    let c = signed_again (cap + 1) b.at q (t4 ++ t5) (omega (arith, i.2)) (omega arith) refl (b.rest ∙ append_assoc (spelled.signed q) t4 t5) in
    let d = index_again c.at h (spelled.signed g ++ t5) i.3 refl (c.rest ∙ append_assoc (spelled.natural h) (spelled.signed g) t5) in
    let k = signed_again (divisor_cap + 1) d.at g t5 (omega (arith, i.4)) (omega arith) refl d.rest in
    record { at = k.at; is = rw (a.is, b.is, c.is, d.is, k.is) refl; rest = k.rest }
step_of_again s (Split l) z i e = made_again Split (literal s) (literal_again s l (10 ∷ z) i (lf z) e)
step_of_again s (Cube fs) z i e =
    let on : number_follows s ≡ true = ap number_behind_space e ∙ indices_begin fs (10 ∷ z) i.0 i.1 in
    rw on (made_again Cube (line.indices s) (indices_again s fs (10 ∷ z) i.1 (lf z) e))
step_of_again s (Least v n) z i e = parts_again Least s v n (10 ∷ z) i.0 i.1 refl e
step_of_again s (Learn ls) z i e =
    let on : goes_on s ≡ true = ap begins_with_space e ∙ literals_begin ls (10 ∷ z) i.0 in
    rw on (made_again Learn (line.literals s) (literals_again s ls z i.1 e))
step_of_again s (False f) z i e = made_again False (taking.index s) (index_again s f (10 ∷ z) i refl e)

pub step_again : (version : ℕ) (s : Spot) (x : Step) (z : List ℕ) → IsStep x → HasLine version x → s.rest ≡ spelled.step x ++ z → Reads (step version s) x z
unfolding step
step_again version s x z i h e =
    let word : List ℕ = word_of (kind_of x) in
    let e1 : s.rest ≡ word ++ (spelled.arguments x ++ (10 ∷ z)) = e ∙ append_assoc word (spelled.arguments x ++ 10 ∷ []) z ∙ ap (λ (t : List ℕ). word ++ t) (append_assoc (spelled.arguments x) (10 ∷ []) z) in
    let a = first_again s word (spelled.arguments x ++ (10 ∷ z)) (word_is_word (kind_of x)) (parted_arguments x (10 ∷ z) i) e1 in
    let b = step_of_again a.at x z i a.rest in
    let c = ends_again b.at z b.rest in
    record { at = c.at; is = rw (a.is, kind_again version (kind_of x) h, b.is, c.is) refl; rest = c.rest }
