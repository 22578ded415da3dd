-- Sections and files: what is read is spelled so, and what is spelled so is read.
use Rattle.std.proofs.Common.{◌≡◌, ℕ, zero, suc, ◌+◌, ◌^◌, ◌<◌, ◌≤◌, Bool, true, false, not, ◌&&◌, ◌||◌, eqb, ltb, List, [], ◌∷◌, ◌++◌, length, map, Option, Some, None, Result, Ok, Err, refl, sym, ap, subst, ◌∙◌, append_assoc, arith, codes, inl, inr, ◌⊎◌}
use Rattle.std.specs.Prelude.{IfOk}
use Rattle.std.specs.Fmt.{decimal, digits}
use Rattle.std.specs.List.{list_all, AllByRecursion}
use Rattle.std.specs.Str.{bytes_eq}
use Rattle.std.proofs.lemmas.Bool.{ltb-true, lt-ltb, eqb-true, ne_eqb}
use Rattle.std.proofs.lemmas.Slice.Eq.{bytes_eq-Decides}
use Rattle.std.proofs.lemmas.List.{length-map, append-nil}
use Rattle.lin_term.specs.Form.{cap}
use Rattle.strat_words.specs.Spot.{Spot, Place, Taken, ◌>>=◌, first, next, ends, is, fits, start, is_of_word, Gives, Fails}
use Rattle.strat_words.specs.Many.{times, Chain}
use Rattle.strat_words.specs.Taking.{count}
use Rattle.strat_text.specs.Tree.{tree}
use Rattle.strat_text.specs.Proof.{proof}
use Rattle.strat_text.specs.File.{is_turn, turns_of, turns, verdict_of, claimed, section_of, section, next_number, version_of, version, nothing_left, file, reading}
use Rattle.strat_text.specs.Written as spelled
use Rattle.strat_text.specs.Sections.{Sections, IsVersion, HasLines}
use Rattle.strat_text.specs.Spelling.{IsSection, Spells, without_line, without_lines}
use Rattle.strat_words.specs.declared.fault.FileFault.{FileFault}
use Rattle.strat_words.specs.declared.fault.FileFault.TheVariants as faults
use Rattle.dom_core.specs.declared.Side.{Side}
use Rattle.dom_core.specs.declared.Side.TheVariants.{Exists, Forall}
use Rattle.strat_text.specs.declared.section.Section.{Section}
use Rattle.strat_text.specs.declared.section.Section.TheVariants.{Claimed, Unknown}
use Rattle.strat_words.proofs.Numbers.{some, some_is}
use Rattle.strat_words.proofs.Laws.{times_takes, in_turn}
use Rattle.strat_words.proofs.Taken.{natural_takes, natural_again, chosen, decimal_word}
use Rattle.strat_text.proofs.Trees.{proof_takes, proof_again, tree_takes, tree_again}
use Rattle.strat_words.proofs.WordLaws.{bind_ok, ok_is, fits_ok, both, Takes, Takes-then, Reads, IsWord, Parted, first_is_takes, next_is_takes, is_again, first_again, next_takes, next_again, ends_takes, ends_again}

-- ---- the turns

letter_is : (c : ℕ) (b : Bool) → eqb c 111 ≡ b → (b || eqb c 116) ≡ true → spelled.letter b ≡ c
letter_is c true h e = sym (eqb-true c 111 h)
letter_is c false h e = sym (eqb-true c 116 e)

letters_are : (w : List ℕ) → list_all is_turn w ≡ true → map spelled.letter (map (λ b. eqb b 111) w) ≡ w
letters_are [] e = refl
letters_are (c ∷ w) e =
    let h = both (is_turn c) (list_all is_turn w) e in
    let p = letter_is c (eqb c 111) refl h.0 in
    let q = letters_are w h.1 in
    λ i. p i ∷ q i

word_of_turns : (w : List ℕ) → 0 < length w → list_all is_turn w ≡ true → w ≡ spelled.turns_word (map (λ b. eqb b 111) w)
word_of_turns [] lt e = absurd (omega (arith, lt))
word_of_turns (c ∷ w) lt e = sym (letters_are (c ∷ w) e)

some_len : (w : List ℕ) → not (eqb (length w) 0) ≡ true → 0 < length w
some_len [] h = absurd cc
some_len (c ∷ ds) h = omega arith

turns_word_takes : (w : List ℕ) (ts : List Bool) → turns_of w ≡ Some ts → (w ≡ spelled.turns_word ts) × (length ts ≤ 1024)
turns_word_takes w ts e = elim (chosen (bytes_eq w (codes "-")) _ _ _ e) [
  | inl p ↦ subst (λ (y : List Bool). (w ≡ spelled.turns_word y) × (length y ≤ 1024)) (some_is [] ts p.1) ((bytes_eq-Decides w (codes "-")).0 p.0, omega arith)
  | inr p ↦ elim (chosen (not (eqb (length w) 0) && list_all is_turn w && ltb (length w) 1025) _ _ _ p.1) [
    | inl q ↦
        let h = both (not (eqb (length w) 0) && list_all is_turn w) (ltb (length w) 1025) q.0 in
        let k = both (not (eqb (length w) 0)) (list_all is_turn w) h.0 in
        subst (λ (y : List Bool). (w ≡ spelled.turns_word y) × (length y ≤ 1024)) (some_is (map (λ b. eqb b 111) w) ts q.1)
        (word_of_turns w (some_len w k.0) k.1, omega (arith, length-map w (λ b. eqb b 111), ltb-true (length w) 1025 h.1))
    | inr q ↦ absurd (let r = q.1 in cc)
  ]
]

letter_turn : (t : Bool) → (is_turn (spelled.letter t) ≡ true) × (eqb (spelled.letter t) 111 ≡ t) × (is_of_word (spelled.letter t) ≡ true)
letter_turn true = (refl, refl, refl)
letter_turn false = (refl, refl, refl)

letters_turn : (ts : List Bool) → (list_all is_turn (map spelled.letter ts) ≡ true) × (map (λ b. eqb b 111) (map spelled.letter ts) ≡ ts) × (list_all is_of_word (map spelled.letter ts) ≡ true)
letters_turn [] = (refl, refl, refl)
letters_turn (t ∷ ts) =
    let h = letter_turn t in
    let k = letters_turn ts in
    let a : list_all is_turn (map spelled.letter (t ∷ ts)) ≡ true = rw (h.0, k.0) refl in
    let c : list_all is_of_word (map spelled.letter (t ∷ ts)) ≡ true = rw (h.2, k.2) refl in
    (a, (λ i. h.1 i ∷ k.1 i), c)

no_dash : (t : Bool) (w : List ℕ) → bytes_eq (spelled.letter t ∷ w) (codes "-") ≡ false
no_dash true w = refl
no_dash false w = refl

turns_word_again : (ts : List Bool) → length ts ≤ 1024 → turns_of (spelled.turns_word ts) ≡ Some ts
turns_word_again [] le = refl
turns_word_again (t ∷ ts) le =
    let h = letters_turn (t ∷ ts) in
    let len : ltb (length (map spelled.letter (t ∷ ts))) 1025 ≡ true = lt-ltb _ 1025 (omega (arith, length-map (t ∷ ts) spelled.letter, le)) in
    let more : eqb (length (map spelled.letter (t ∷ ts))) 0 ≡ false = ne_eqb (length (map spelled.letter (t ∷ ts))) 0 (omega arith) in
    rw (no_dash t (map spelled.letter ts), more, h.0, len) (ap some h.1)

turns_is_word : (ts : List Bool) → IsWord (spelled.turns_word ts)
turns_is_word [] = record { some = omega arith; all = refl }
turns_is_word (t ∷ ts) = record { some = omega arith; all = (letters_turn (t ∷ ts)).2 }

turns_takes : (s : Spot) (x : List Bool × Spot) → turns s ≡ Ok x → Takes s (codes "turns " ++ (spelled.turns_word x.0 ++ (10 ∷ []))) x.1 × (length x.0 ≤ 1024)
unfolding turns
turns_takes s x e =
    let w = bind_ok (is (codes "turns") (first s)) _ x e in
    let v = bind_ok (next w.0) _ x w.2 in
    let t = bind_ok (fits (turns_of v.0.0) v.0.1) _ x v.2 in
    let a = bind_ok (ends t.0.1) _ x t.2 in
    let f = fits_ok (turns_of v.0.0) v.0.1 t.0 t.1 in
    let k = turns_word_takes v.0.0 t.0.0 f.0 in
    let tw : Takes w.0 (32 ∷ spelled.turns_word t.0.0) t.0.1 = subst (λ (y : List ℕ × Spot). Takes w.0 (32 ∷ y.0) y.1) (λ i. (k.0 i, f.1 i)) (next_takes w.0 v.0 v.1) in
    let e2 = Takes-then w.0 (32 ∷ spelled.turns_word t.0.0) t.0.1 (10 ∷ []) a.0 tw (ends_takes t.0.1 a.0 a.1) in
    let e1 = Takes-then s (codes "turns") w.0 ((32 ∷ spelled.turns_word t.0.0) ++ (10 ∷ [])) a.0 (first_is_takes (codes "turns") s w.0 w.1) e2 in
    subst (λ (y : List Bool × Spot). Takes s (codes "turns " ++ (spelled.turns_word y.0 ++ (10 ∷ []))) y.1 × (length y.0 ≤ 1024)) (ok_is (t.0.0, a.0) x a.2) (e1, k.1)

turns_again : (s : Spot) (ts : List Bool) (z : List ℕ) → length ts ≤ 1024 → s.rest ≡ codes "turns " ++ (spelled.turns_word ts ++ (10 ∷ z)) → Reads (turns s) ts z
unfolding turns
turns_again s ts z le e =
    let w = is_again (codes "turns") (first s) (32 ∷ (spelled.turns_word ts ++ (10 ∷ z))) (first_again s (codes "turns") (32 ∷ (spelled.turns_word ts ++ (10 ∷ z))) (record { some = omega arith; all = refl }) refl e) in
    let v = next_again w.at (spelled.turns_word ts) (10 ∷ z) (turns_is_word ts) refl w.rest in
    let a = ends_again v.at z v.rest in
    record { at = a.at; is = rw (w.is, v.is, turns_word_again ts le, a.is) refl; rest = a.rest }

-- ---- a section

-- it can be written, in that version
abbrev IsOf : ℕ → Section → Type 0
IsOf version x = IsSection x × HasLines version x

verdict_words : Option Side → List ℕ
verdict_words None = codes " unknown"
verdict_words (Some side) = spelled.verdict side

verdict_is : (w : List ℕ) (v : Option Side) → verdict_of w ≡ Some v → 32 ∷ w ≡ verdict_words v
unfolding verdict_words
verdict_is w v e = elim (chosen (bytes_eq w (codes "sat")) _ _ _ e) [
  | inl p ↦ ap (λ (t : List ℕ). 32 ∷ t) ((bytes_eq-Decides w (codes "sat")).0 p.0) ∙ ap verdict_words (some_is (Some Exists) v p.1)
  | inr p ↦ elim (chosen (bytes_eq w (codes "unsat")) _ _ _ p.1) [
    | inl q ↦ ap (λ (t : List ℕ). 32 ∷ t) ((bytes_eq-Decides w (codes "unsat")).0 q.0) ∙ ap verdict_words (some_is (Some Forall) v q.1)
    | inr q ↦ elim (chosen (bytes_eq w (codes "unknown")) _ _ _ q.1) [
      | inl r ↦ ap (λ (t : List ℕ). 32 ∷ t) ((bytes_eq-Decides w (codes "unknown")).0 r.0) ∙ ap verdict_words (some_is None v r.1)
      | inr r ↦ absurd (let u = r.1 in cc)
    ]
  ]
]

claims_takes : (version : ℕ) (v : Option Side) (line : ℕ) (s0 s1 s2 : Spot) (x : Section × Spot) → Takes s0 (verdict_words v) s1 → ends s1 ≡ Ok s2 → section_of version v line s2 ≡ Ok x → Takes s0 (spelled.claims x.0) x.1 × IsOf version x.0
unfolding verdict_words claimed
claims_takes version None line s0 s1 s2 x t0 h e =
    subst (λ (y : Section × Spot). Takes s0 (spelled.claims y.0) y.1 × IsOf version y.0) (ok_is (Unknown, s2) x e) (Takes-then s0 (codes " unknown") s1 (10 ∷ []) s2 t0 (ends_takes s1 s2 h), (tt, tt))
claims_takes version (Some side) line s0 s1 s2 x t0 h e =
    let ts = bind_ok (turns s2) _ x e in
    let t = bind_ok (tree ts.0.0 0 ts.0.1) _ x ts.2 in
    let p = bind_ok (proof version t.0.1) _ x t.2 in
    let a = turns_takes s2 ts.0 ts.1 in
    let b = tree_takes ts.0.0 0 ts.0.1 t.0 (omega (arith, a.1)) t.1 in
    let c = proof_takes version t.0.1 p.0 p.1 in
    let e3 = Takes-then ts.0.1 (spelled.tree t.0.0) t.0.1 (spelled.proof p.0.0) p.0.1 b.0 c.0 in
    let body : List ℕ = spelled.tree t.0.0 ++ spelled.proof p.0.0 in
    let e2 = Takes-then s2 (codes "turns " ++ (spelled.turns_word ts.0.0 ++ (10 ∷ []))) ts.0.1 body p.0.1 a.0 e3 in
    let e2' : Takes s2 (codes "turns " ++ (spelled.turns_word ts.0.0 ++ (10 ∷ body))) p.0.1 = subst (λ (y : List ℕ). Takes s2 y p.0.1) (ap (λ (y : List ℕ). codes "turns " ++ y) (append_assoc (spelled.turns_word ts.0.0) (10 ∷ []) body)) e2 in
    let e1 = Takes-then s1 (10 ∷ []) s2 (codes "turns " ++ (spelled.turns_word ts.0.0 ++ (10 ∷ body))) p.0.1 (ends_takes s1 s2 h) e2' in
    let e0 = Takes-then s0 (spelled.verdict side) s1 (10 ∷ (codes "turns " ++ (spelled.turns_word ts.0.0 ++ (10 ∷ body)))) p.0.1 t0 e1 in
    subst (λ (y : Section × Spot). Takes s0 (spelled.claims y.0) y.1 × IsOf version y.0) (ok_is (Claimed side ts.0.0 t.0.0 p.0.0 line, p.0.1) x p.2) (e0, ((a.1, b.1, c.1), c.2))

section_takes : (version number : ℕ) (s : Spot) (x : Section × Spot) → section version number s ≡ Ok x → Takes s (spelled.section number x.0) x.1 × IsOf version x.0
unfolding section
section_takes version number s x e =
    let g = bind_ok (is (codes "goal") (first s)) _ x e in
    let k = bind_ok (is (decimal number) (next g.0)) _ x g.2 in
    let w = bind_ok (next k.0) _ x k.2 in
    let v = bind_ok (fits (verdict_of w.0.0) w.0.1) _ x w.2 in
    let a = bind_ok (ends v.0.1) _ x v.2 in
    let f = fits_ok (verdict_of w.0.0) w.0.1 v.0 v.1 in
    let tw : Takes k.0 (verdict_words v.0.0) v.0.1 = subst (λ (y : List ℕ × Spot). Takes k.0 y.0 y.1) (λ i. (verdict_is w.0.0 v.0.0 f.0 i, f.1 i)) (next_takes k.0 w.0 w.1) in
    let c = claims_takes version v.0.0 s.line k.0 v.0.1 a.0 x tw a.1 a.2 in
    let e2 = Takes-then g.0 (spelled.natural number) k.0 (spelled.claims x.0) x.1 (next_is_takes (decimal number) g.0 k.0 k.1) c.0 in
    (Takes-then s (codes "goal") g.0 (spelled.natural number ++ spelled.claims x.0) x.1 (first_is_takes (codes "goal") s g.0 g.1) e2, c.1)

-- the same but for its line
pub record Again (r : Taken Section) (x : Section) (z : List ℕ) : Type 0 where
  pub found : Section
  pub same : without_line found ≡ without_line x
  pub reads : Reads r found z

verdict_of_side : (version : ℕ) (side : Side) (line : ℕ) (s : Spot) (z : List ℕ) → s.rest ≡ spelled.verdict side ++ (10 ∷ z) → (at : Spot) × ((next s >>= λ word. fits (verdict_of word.0) word.1 >>= λ v. ends v.1 >>= λ after. section_of version v.0 line after) ≡ claimed version side line at) × (at.rest ≡ z)
verdict_of_side version Exists line s z e =
    let w = next_again s (codes "sat") (10 ∷ z) (record { some = omega arith; all = refl }) refl e in
    let a = ends_again w.at z w.rest in
    (a.at, rw (w.is, a.is) refl, a.rest)
verdict_of_side version Forall line s z e =
    let w = next_again s (codes "unsat") (10 ∷ z) (record { some = omega arith; all = refl }) refl e in
    let a = ends_again w.at z w.rest in
    (a.at, rw (w.is, a.is) refl, a.rest)

section_again : (version number : ℕ) (s : Spot) (x : Section) (z : List ℕ) → number < 10 ^ 64 → IsOf version x → s.rest ≡ spelled.section number x ++ z → Again (section version number s) x z
unfolding section claimed
section_again version number s Unknown z lt i e =
    let e1 : s.rest ≡ codes "goal" ++ (32 ∷ (decimal number ++ (codes " unknown" ++ (10 ∷ z)))) = e ∙ ap (λ (t : List ℕ). codes "goal" ++ t) (append_assoc (spelled.natural number) (codes " unknown" ++ 10 ∷ []) z) in
    let g = is_again (codes "goal") (first s) (32 ∷ (decimal number ++ (codes " unknown" ++ (10 ∷ z)))) (first_again s (codes "goal") (32 ∷ (decimal number ++ (codes " unknown" ++ (10 ∷ z)))) (record { some = omega arith; all = refl }) refl e1) in
    let k = is_again (decimal number) (next g.at) (codes " unknown" ++ (10 ∷ z)) (next_again g.at (decimal number) (codes " unknown" ++ (10 ∷ z)) (decimal_word number lt) refl g.rest) in
    let w = next_again k.at (codes "unknown") (10 ∷ z) (record { some = omega arith; all = refl }) refl k.rest in
    let a = ends_again w.at z w.rest in
    record { found = Unknown; same = refl; reads = record { at = a.at; is = rw (g.is, k.is, w.is, a.is) refl; rest = a.rest } }
section_again version number s (Claimed side ts t p line) z lt i e =
    let body : List ℕ = spelled.tree t ++ spelled.proof p in
    let tail : List ℕ = codes "turns " ++ (spelled.turns_word ts ++ (10 ∷ body)) in
    let tail' : List ℕ = codes "turns " ++ (spelled.turns_word ts ++ (10 ∷ (spelled.tree t ++ (spelled.proof p ++ z)))) in
    let grouped : tail ++ z ≡ tail' = ap (λ (y : List ℕ). codes "turns " ++ y) (append_assoc (spelled.turns_word ts) (10 ∷ body) z ∙ ap (λ (y : List ℕ). spelled.turns_word ts ++ (10 ∷ y)) (append_assoc (spelled.tree t) (spelled.proof p) z)) in
    let e0 : s.rest ≡ codes "goal" ++ (spelled.natural number ++ (spelled.verdict side ++ (10 ∷ tail'))) =
    e ∙ ap (λ (y : List ℕ). codes "goal" ++ y) (append_assoc (spelled.natural number) (spelled.verdict side ++ (10 ∷ tail)) z ∙ ap (λ (y : List ℕ). spelled.natural number ++ y) (append_assoc (spelled.verdict side) (10 ∷ tail) z ∙ ap (λ (y : List ℕ). spelled.verdict side ++ (10 ∷ y)) grouped)) in
    let more : List ℕ = spelled.verdict side ++ (10 ∷ tail') in
    let g = is_again (codes "goal") (first s) (spelled.natural number ++ more) (first_again s (codes "goal") (spelled.natural number ++ more) (record { some = omega arith; all = refl }) refl e0) in
    let k = is_again (decimal number) (next g.at) more (next_again g.at (decimal number) more (decimal_word number lt) (parted_verdict side (10 ∷ tail')) g.rest) in
    let v = verdict_of_side version side s.line k.at tail' k.rest in
    let a = turns_again v.0 ts (spelled.tree t ++ (spelled.proof p ++ z)) i.0.0 v.2 in
    let b = tree_again ts 0 a.at t (spelled.proof p ++ z) (omega (arith, i.0.0)) i.0.1 a.rest in
    let c = proof_again version b.at p z i.0.2 i.1 b.rest in
    record { found = Claimed side ts t p s.line; same = refl; reads = record { at = c.at; is = rw (g.is, k.is) (v.1 ∙ rw (a.is, b.is, c.is) refl); rest = c.rest } }
  where
    parted_verdict : (side : Side) (z : List ℕ) → Parted (spelled.verdict side ++ z)
    parted_verdict Exists z = refl
    parted_verdict Forall z = refl

-- ---- the sections

sections_in_turn : (version k : ℕ) (xs : List Section) → in_turn (section version) next_number spelled.section (λ k x. IsOf version x) k xs ≡ spelled.sections_from k xs
sections_in_turn version k [] = refl
sections_in_turn version k (x ∷ xs) = ap (λ (t : List ℕ). spelled.section k x ++ t) (sections_in_turn version (k + 1) xs)

all_from_chain : (version k : ℕ) (xs : List Section) → Chain (λ k x. IsOf version x) next_number k xs → AllByRecursion IsSection xs
all_from_chain version k [] c = tt
all_from_chain version k (x ∷ xs) c = (c.0.0, all_from_chain version (k + 1) xs c.1)

lines_from_chain : (version k : ℕ) (xs : List Section) → Chain (λ k x. IsOf version x) next_number k xs → AllByRecursion (HasLines version) xs
lines_from_chain version k [] c = tt
lines_from_chain version k (x ∷ xs) c = (c.0.1, lines_from_chain version (k + 1) xs c.1)

-- the version has all lines of the sections that were read in it
pub lines_of_version : (version n k : ℕ) (s : Spot) (x : List Section × Spot) → times (section version) next_number n k s ≡ Ok x → AllByRecursion (HasLines version) x.0
lines_of_version version n k s x e = lines_from_chain version k x.0 (times_takes (section version) next_number spelled.section (λ k x. IsOf version x) (section_takes version) n k s x e).1

pub record AllAgain (r : Taken (List Section)) (xs : List Section) (z : List ℕ) : Type 0 where
  pub found : List Section
  pub same : map without_line found ≡ map without_line xs
  pub reads : Reads r found z

sections_again : (version k : ℕ) (s : Spot) (xs : List Section) (z : List ℕ) → k + length xs < 10 ^ 64 → AllByRecursion IsSection xs → AllByRecursion (HasLines version) xs → s.rest ≡ spelled.sections_from k xs ++ z → AllAgain (times (section version) next_number (length xs) k s) xs z
unfolding times
sections_again version k s [] z lt all has e = record { found = []; same = refl; reads = record { at = s; is = refl; rest = e } }
sections_again version k s (x ∷ xs) z lt all has e =
    let a = section_again version k s x (spelled.sections_from (k + 1) xs ++ z) (omega (arith, lt)) (all.0, has.0) (e ∙ append_assoc (spelled.section k x) (spelled.sections_from (k + 1) xs) z) in
    let b = sections_again version (k + 1) a.reads.at xs z (omega (arith, lt)) all.1 has.1 a.reads.rest in
    record { found = a.found ∷ b.found; same = λ i. a.same i ∷ b.same i; reads = record { at = b.reads.at; is = rw (a.reads.is, b.reads.is) refl; rest = b.reads.rest } }

-- ---- the version

one_word : decimal 1 ≡ codes "1"
unfolding digits
one_word = refl

two_word : decimal 2 ≡ codes "2"
unfolding digits
two_word = refl

version_is : (w : List ℕ) (v : ℕ) → version_of w ≡ Some v → (w ≡ decimal v) × IsVersion v
version_is w v e = elim (chosen (bytes_eq w (codes "1")) _ _ _ e) [
  | inl p ↦ subst (λ (y : ℕ). (w ≡ decimal y) × IsVersion y) (some_is 1 v p.1) ((bytes_eq-Decides w (codes "1")).0 p.0 ∙ sym one_word, (omega arith, omega arith))
  | inr p ↦ elim (chosen (bytes_eq w (codes "2")) _ _ _ p.1) [
    | inl q ↦ subst (λ (y : ℕ). (w ≡ decimal y) × IsVersion y) (some_is 2 v q.1) ((bytes_eq-Decides w (codes "2")).0 q.0 ∙ sym two_word, (omega arith, omega arith))
    | inr q ↦ absurd (let r = q.1 in cc)
  ]
]

version_takes : (s : Spot) (x : ℕ × Spot) → version s ≡ Ok x → Takes s (spelled.natural x.0) x.1 × IsVersion x.0
version_takes s x e =
    let w = bind_ok (next s) _ x e in
    let f = fits_ok (version_of w.0.0) w.0.1 x w.2 in
    let k = version_is w.0.0 x.0 f.0 in
    (subst (λ (y : List ℕ × Spot). Takes s (32 ∷ y.0) y.1) (λ i. (k.0 i, f.1 i)) (next_takes s w.0 w.1), k.1)

version_word : (v : ℕ) → IsVersion v → version_of (decimal v) ≡ Some v
version_word v i = elim (one_or_two v i) [
  | inl p ↦ subst (λ (y : ℕ). version_of (decimal y) ≡ Some y) (sym p) (ap version_of one_word)
  | inr p ↦ subst (λ (y : ℕ). version_of (decimal y) ≡ Some y) (sym p) (ap version_of two_word)
]
  where
    one_or_two : (v : ℕ) → IsVersion v → (v ≡ 1) ⊎ (v ≡ 2)
    one_or_two zero i = absurd (omega (arith, i.0))
    one_or_two (suc zero) i = inl refl
    one_or_two (suc (suc n)) i = inr (omega (arith, i.1))

version_again : (s : Spot) (v : ℕ) (z : List ℕ) → IsVersion v → Parted z → s.rest ≡ spelled.natural v ++ z → Reads (version s) v z
version_again s v z i p e =
    let w = next_again s (decimal v) z (decimal_word v (omega (arith, i.1))) p e in
    record { at = w.at; is = rw (w.is, version_word v i) refl; rest = w.rest }

-- ---- the file

left_ok : (xs : Sections) (s : Spot) (z : List ℕ) (ys : Sections) → nothing_left xs s z ≡ Ok ys → (z ≡ []) × (xs ≡ ys)
left_ok xs s [] ys e = (refl, ok_is xs ys e)
left_ok xs s (b ∷ z) ys e = absurd cc

kept_count : (m n : ℕ) → m ≡ n → n < cap + 1 → m ≤ cap
kept_count m n e lt = omega (arith, e, lt)

pub file_takes : (bytes : List ℕ) (ys : Sections) → reading bytes ≡ Ok ys → Spells bytes ys
unfolding file
file_takes bytes ys e =
    let s = start bytes in
    let w = bind_ok (is (codes "simsat-strategy") (first s)) _ ys e in
    let v = bind_ok (version w.0) _ ys w.2 in
    let one = bind_ok (ends v.0.1) _ ys v.2 in
    let g = bind_ok (is (codes "goals") (first one.0)) _ ys one.2 in
    let n = bind_ok (count 0 g.0) _ ys g.2 in
    let two = bind_ok (ends n.0.1) _ ys n.2 in
    let xs = bind_ok (times (section v.0.0) next_number n.0.0 0 two.0) _ ys two.2 in
    let f = bind_ok (is (codes "end") (first xs.0.1)) _ ys xs.2 in
    let a = bind_ok (ends f.0) _ ys f.2 in
    let all : Sections = record { version = v.0.0; list = xs.0.0 } in
    let k = left_ok all a.0 a.0.rest ys a.2 in
    let t = times_takes (section v.0.0) next_number spelled.section (λ k x. IsOf v.0.0 x) (section_takes v.0.0) n.0.0 0 two.0 xs.0 xs.1 in
    let tv = version_takes w.0 v.0 v.1 in
    let tn = natural_takes 0 (cap + 1) g.0 n.0 n.1 in
    let list : List ℕ = spelled.sections_from 0 xs.0.0 in
    let e8 = Takes-then xs.0.1 (codes "end") f.0 (10 ∷ []) a.0 (first_is_takes (codes "end") xs.0.1 f.0 f.1) (ends_takes f.0 a.0 a.1) in
    let e7 = Takes-then two.0 list xs.0.1 (codes "end" ++ 10 ∷ []) a.0 (subst (λ (y : List ℕ). Takes two.0 y xs.0.1) (sections_in_turn v.0.0 0 xs.0.0) t.0) e8 in
    let e6 = Takes-then n.0.1 (10 ∷ []) two.0 (list ++ (codes "end" ++ 10 ∷ [])) a.0 (ends_takes n.0.1 two.0 two.1) e7 in
    let e5 = Takes-then g.0 (spelled.natural n.0.0) n.0.1 (10 ∷ (list ++ (codes "end" ++ 10 ∷ []))) a.0 tn.0 e6 in
    let e4 = Takes-then one.0 (codes "goals") g.0 (spelled.natural n.0.0 ++ (10 ∷ (list ++ (codes "end" ++ 10 ∷ [])))) a.0 (first_is_takes (codes "goals") one.0 g.0 g.1) e5 in
    let e3 = Takes-then v.0.1 (10 ∷ []) one.0 (codes "goals" ++ (spelled.natural n.0.0 ++ (10 ∷ (list ++ (codes "end" ++ 10 ∷ []))))) a.0 (ends_takes v.0.1 one.0 one.1) e4 in
    let e2 = Takes-then w.0 (spelled.natural v.0.0) v.0.1 (10 ∷ (codes "goals" ++ (spelled.natural n.0.0 ++ (10 ∷ (list ++ (codes "end" ++ 10 ∷ [])))))) a.0 tv.0 e3 in
    let e1 = Takes-then s (codes "simsat-strategy") w.0 (spelled.natural v.0.0 ++ (10 ∷ (codes "goals" ++ (spelled.natural n.0.0 ++ (10 ∷ (list ++ (codes "end" ++ 10 ∷ []))))))) a.0 (first_is_takes (codes "simsat-strategy") s w.0 w.1) e2 in
    let text : ℕ → List ℕ = λ m. codes "simsat-strategy" ++ (spelled.natural v.0.0 ++ (10 ∷ (codes "goals" ++ (spelled.natural m ++ (10 ∷ (list ++ (codes "end" ++ 10 ∷ []))))))) in
    let whole : bytes ≡ spelled.spelling all = e1.parts ∙ ap (λ (y : List ℕ). text n.0.0 ++ y) k.0 ∙ append-nil _ ∙ ap text (sym t.2) in
    subst (λ (zs : Sections). Spells bytes zs) k.1 ((tv.1, lines_from_chain v.0.0 0 xs.0.0 t.1), (kept_count (length xs.0.0) n.0.0 t.2 tn.2, all_from_chain v.0.0 0 xs.0.0 t.1), whole)

pub file_again : (bytes : List ℕ) (xs : Sections) → Spells bytes xs → (ys : Sections) × (without_lines ys ≡ without_lines xs) × (reading bytes ≡ Ok ys)
unfolding file
file_again bytes xs h =
    let s = start bytes in
    let list : List ℕ = spelled.sections_from 0 xs.list in
    let r4 : List ℕ = list ++ (codes "end" ++ 10 ∷ []) in
    let r3 : List ℕ = codes "goals" ++ (spelled.natural (length xs.list) ++ (10 ∷ r4)) in
    let w = is_again (codes "simsat-strategy") (first s) (spelled.natural xs.version ++ (10 ∷ r3)) (first_again s (codes "simsat-strategy") (spelled.natural xs.version ++ (10 ∷ r3)) (record { some = omega arith; all = refl }) refl h.2) in
    let v = version_again w.at xs.version (10 ∷ r3) h.0.0 refl w.rest in
    let one = ends_again v.at r3 v.rest in
    let g = is_again (codes "goals") (first one.at) (spelled.natural (length xs.list) ++ (10 ∷ r4)) (first_again one.at (codes "goals") (spelled.natural (length xs.list) ++ (10 ∷ r4)) (record { some = omega arith; all = refl }) refl one.rest) in
    let n = natural_again 0 (cap + 1) g.at (length xs.list) (10 ∷ r4) (omega arith) (omega (arith, h.1.0)) (omega arith) refl g.rest in
    let two = ends_again n.at r4 n.rest in
    let t = sections_again xs.version 0 two.at xs.list (codes "end" ++ 10 ∷ []) (omega (arith, h.1.0)) h.1.1 h.0.1 two.rest in
    let f = is_again (codes "end") (first t.reads.at) (10 ∷ []) (first_again t.reads.at (codes "end") (10 ∷ []) (record { some = omega arith; all = refl }) refl t.reads.rest) in
    let a = ends_again f.at [] f.rest in
    let found : Sections = record { version = xs.version; list = t.found } in
    (found, ap (λ (l : List Section). record { version = xs.version; list = l }) t.same, rw (w.is, v.is, one.is, g.is, n.is, two.is, t.reads.is, f.is, a.is) (ap (nothing_left found a.at) a.rest))

-- ---- the clauses of `read_file`

pub is_found : (bytes : List ℕ) (r : Result Sections FileFault) → Gives (λ xs. xs) r (reading bytes) → IfOk r (λ xs. Spells bytes xs)
is_found bytes (Ok xs) given = file_takes bytes xs given
is_found bytes (Err e) given = tt

abbrev well : Sections → Result Sections Place
well x = Ok x

only_err : (e : FileFault) (ys xs : Sections) → Fails e (well ys) → Fails e (well (without_lines xs))
only_err faults.Memory ys xs given = tt
only_err (faults.Bad l w) ys xs given = absurd cc

only_in : (r : Result Sections FileFault) (ys xs : Sections) → without_lines ys ≡ without_lines xs → Gives (λ zs. zs) r (well ys) → Gives without_lines r (well (without_lines xs))
only_in (Ok zs) ys xs same given = ap well (sym same ∙ ap without_lines (ok_is ys zs given))
only_in (Err e) ys xs same given = only_err e ys xs given

pub is_only : (bytes : List ℕ) (r : Result Sections FileFault) → Gives (λ xs. xs) r (reading bytes) → (xs : Sections) → Spells bytes xs → Gives without_lines r (Ok (without_lines xs))
is_only bytes r given xs h =
    let a = file_again bytes xs h in
    only_in r a.0 xs a.1 (subst (λ (q : Result Sections Place). Gives (λ ys. ys) r q) a.2 given)

-- ---- one value for each file

pub one_value : (bytes : List ℕ) (xs ys : Sections) → Spells bytes xs → Spells bytes ys → without_lines xs ≡ without_lines ys
one_value bytes xs ys h k =
    let a = file_again bytes xs h in
    let b = file_again bytes ys k in
    sym a.1 ∙ ap without_lines (ok_is a.0 b.0 (sym a.2 ∙ b.2)) ∙ b.1
