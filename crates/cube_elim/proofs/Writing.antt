-- The lines of a refutation over the rationals, one after the other.
use Rattle.std.specs.Prelude.{ℕ, zero, suc, ◌+◌, ◌-◌, ◌<◌, ◌≤◌, ◌≡◌, ◌≢◌, ◌⊎◌, Bool, true, false, Some, None, List, [], ◌∷◌, ◌++◌, length, get_or, take, set}
use Rattle.std.specs.List.{range_with_len}
use Rattle.std.proofs.Common.{arith, ap, ap₂, ◌∙◌, sym, subst, refl, inl, inr, length-append, append-nil}
use Rattle.std.proofs.lemmas.Bool.{cases_lt, cases_eq}
use Rattle.std.proofs.lemmas.List.{get_or_append_left, get_or_push, get_or_default, get_or-set_same, get_or-set_other, length-set}
use Rattle.std.proofs.lemmas.List.FromFn.{get_or-range_with_len, length-range_with_len}
use Rattle.lin_term.specs.Form.{IsRow}
use Rattle.lin_term.specs.declared.Sort.TheVariants.{Rat}
use Rattle.lin_term.specs.declared.Lit.{Lit}
use Rattle.lin_term.specs.Literal.{form_of}
use Rattle.lin_term.specs.Truth.{truth_of}
use Rattle.dom_core.specs.Elimination.{resolvent}
use Rattle.dom_core.specs.Reduced.{AreRows}
use Rattle.dom_core.proofs.Reducing.{all_at}
use Rattle.cube_rules.specs.declared.Step.{Step}
use Rattle.cube_rules.specs.declared.Step.TheVariants.{False}
use Rattle.cube_rules.specs.Bare.{bare_rules, ClosesBare}
use Rattle.cube_rules.specs.Closing.{Rules, ClosesBy, line, proof, no_proof, preorder}
use Rattle.cube_rules.specs.Context.{Context, cube_context}
use Rattle.cube_rules.specs.Lines.{is_false}
use Rattle.cube_elim.specs.declared.lines.Lines.{Lines}
use Rattle.cube_elim.specs.declared.store.Pair.{Pair}
use Rattle.cube_elim.specs.declared.store.Store.{Store}
use Rattle.cube_elim.specs.Stored.{no_literal, no_pair, lit_of, IsPairSum, IsStore}
use Rattle.cube_elim.specs.Written.{IsMarked, AreClosed, IsNeeded, sum_line, Runs, AddsLine, SkipsLine, IsNextLine, IsWritten}
use Rattle.cube_elim.proofs.Storing.{lit_stays}
use Rattle.cube_elim.proofs.Closings.{false_closes}
use Rattle.cube_elim.proofs.SumLines.{line_applies}

-- ---- lines in a row

pub runs_more : (rules : Rules) (c d e : Context) (ls : List Step) (l : Step) → Runs rules c ls d → rules d l ≡ Some (e ∷ []) → Runs rules c (ls ++ l ∷ []) e
runs_more rules c d e [] l r h = (e, ap (λ (k : Context). rules k l) r ∙ h, refl)
runs_more rules c d e (m ∷ ls) l r h = (r.0, r.1, runs_more rules r.0 d e ls l r.2 h)

pub runs_close : (rules : Rules) (c d : Context) (ls rest : List Step) → Runs rules c ls d → ClosesBy rules d rest → ClosesBy rules c (ls ++ rest)
runs_close rules c d [] rest r k = subst (λ (e : Context). ClosesBy rules e rest) (sym r) k
runs_close rules c d (l ∷ ls) rest r k =
    let h = runs_close rules r.0 d ls rest r.2 k in
    record {
      tree = line l (proof h.tree no_proof);
      lines = ap (λ (us : List Step). l ∷ us) (append-nil (preorder h.tree) ∙ h.lines);
      closes = (r.0 ∷ [], r.1, (h.closes, tt));
    }

-- ---- marks

mark_stays : (marks : List Bool) (i j : ℕ) → get_or marks j false ≡ true → get_or (set marks i true) j false ≡ true
mark_stays marks i j h = elim (cases_eq j i) [
  | inl e ↦ subst (λ (k : ℕ). get_or (set marks i true) k false ≡ true) (sym e) (get_or-set_same marks i true false (marked_in marks i (subst (λ (k : ℕ). get_or marks k false ≡ true) e h)))
  | inr n ↦ get_or-set_other marks i j true false n ∙ h
]
  where
    marked_in : (marks : List Bool) (i : ℕ) → get_or marks i false ≡ true → i < length marks
    marked_in [] i h = absurd (cc)
    marked_in (m ∷ marks) zero h = omega arith
    marked_in (m ∷ marks) (suc i) h = let k = marked_in marks i h in omega arith

pub pair_marked : (old one two : List Bool) (sum : ℕ) (p : Pair) → p.lower < length old → p.upper < length old → one ≡ set old p.lower true → two ≡ set one p.upper true → IsMarked old two sum p
pair_marked old one two sum p h k e f =
    let q : two ≡ set (set old p.lower true) p.upper true = f ∙ ap (λ (ms : List Bool). set ms p.upper true) e in
    let n = length-set old p.lower true in
    subst (λ (ms : List Bool). IsMarked old ms sum p) (sym q)
    (record {
      count = length-set (set old p.lower true) p.upper true ∙ n;
      stays = λ j m. mark_stays (set old p.lower true) p.upper j (mark_stays old p.lower j m);
      others = λ j a b. get_or-set_other (set old p.lower true) p.upper j true false b ∙ get_or-set_other old p.lower j true false a;
      both = λ m. (
        mark_stays (set old p.lower true) p.upper p.lower (get_or-set_same old p.lower true false h),
        get_or-set_same (set old p.lower true) p.upper true false (omega arith),
      );
    })

pub pair_unmarked : (old : List Bool) (sum : ℕ) (p : Pair) → get_or old sum false ≡ false → IsMarked old old sum p
pair_unmarked old sum p e = record { count = refl; stays = λ j m. m; others = λ j a b. refl; both = λ m. absurd (let q = sym e ∙ m in cc) }

-- from the pair at place `from` on, the two of each marked sum are marked
pub record MarkedFrom (g : ℕ) (pairs : List Pair) (id k : ℕ) (marks : List Bool) : Type 0 where
  pub count : length marks ≡ g + length pairs
  pub this : get_or marks id false ≡ true
  pub both : (i : ℕ) → i < length pairs → length pairs ≤ i + k → get_or marks (g + i) false ≡ true → (get_or marks (get_or pairs i no_pair).lower false ≡ true) × (get_or marks (get_or pairs i no_pair).upper false ≡ true)

pub marked_start : (g : ℕ) (s : Store) (pairs : List Pair) (id : ℕ) (none marks : List Bool) (n : ℕ) → pairs ≡ s.pairs → IsStore g s → length none ≡ n → n ≡ length s.lits → id < length s.lits → marks ≡ set none id true → MarkedFrom g pairs id 0 marks
marked_start g s pairs id none marks n q st e f h m =
    let c = st.count in
    let l = ap length m ∙ length-set none id true in
    let p = ap length q in
    record {
      count = omega arith;
      this = ap (λ (ms : List Bool). get_or ms id false) m ∙ get_or-set_same none id true false (omega arith);
      both = λ i a b. absurd (omega arith);
    }

pub marked_more : (g : ℕ) (lits : List Lit) (pairs : List Pair) (id k i : ℕ) (p : Pair) (old new : List Bool) → ((j : ℕ) → j < length pairs → IsPairSum lits (g + j) (get_or pairs j no_pair)) → i < length pairs → i + (k + 1) ≡ length pairs → p ≡ get_or pairs i no_pair → IsMarked old new (g + i) p → MarkedFrom g pairs id k old → MarkedFrom g pairs id (k + 1) new
marked_more g lits pairs id k i p old new sums h e q m o =
    record {
      count = m.count ∙ o.count;
      this = m.stays id o.this;
      both = λ j a b t. by j a b t (cases_eq j i);
    }
  where
    own : IsPairSum lits (g + i) p
    own = subst (λ (r : Pair). IsPairSum lits (g + i) r) (sym q) (sums i h)

    was : (j : ℕ) → i ≤ j → get_or new (g + j) false ≡ true → get_or old (g + j) false ≡ true
    was j a t =
        let l = own.lower_before in
        let u = own.upper_before in
        sym (m.others (g + j) (λ z. omega arith) (λ z. omega arith)) ∙ t

    by : (j : ℕ) → j < length pairs → length pairs ≤ j + (k + 1) → get_or new (g + j) false ≡ true → (j ≡ i) ⊎ (j ≢ i) → (get_or new (get_or pairs j no_pair).lower false ≡ true) × (get_or new (get_or pairs j no_pair).upper false ≡ true)
    by j a b t (inl z) =
        let w = m.both (subst (λ (y : ℕ). get_or old (g + y) false ≡ true) z (was j (omega arith) t)) in
        subst (λ (r : Pair). (get_or new r.lower false ≡ true) × (get_or new r.upper false ≡ true)) (q ∙ ap (λ (y : ℕ). get_or pairs y no_pair) (sym z)) w
    by j a b t (inr z) =
        let w = o.both j a (omega arith) (was j (omega arith) t) in
        (m.stays (get_or pairs j no_pair).lower w.0, m.stays (get_or pairs j no_pair).upper w.1)

pub marked_done : (g : ℕ) (pairs own : List Pair) (id k : ℕ) (marks : List Bool) → pairs ≡ own → length pairs ≤ k → MarkedFrom g pairs id k marks → IsNeeded g own id marks
marked_done g pairs own id k marks q h m =
    subst (λ (ps : List Pair). IsNeeded g ps id marks) q
    (record { count = m.count; this = m.this; both = λ i a t. m.both i a (omega arith) t })

-- the line of a pair at its place
abbrev pub line_at : List Lit → List Pair → ℕ → Lines → Step
line_at lits pairs i old =
    let p = get_or pairs i no_pair in
    sum_line p.var (lit_of lits p.lower) (get_or old.facts p.lower 0) (lit_of lits p.upper) (get_or old.facts p.upper 0)

-- ---- what has been written

taken_reads : (g j : ℕ) (lits : List Lit) → j < g → lit_of (take g lits) j ≡ lit_of lits j
taken_reads zero j lits h = absurd (omega arith)
taken_reads (suc g) j [] h = refl
taken_reads (suc g) zero (l ∷ lits) h = refl
taken_reads (suc g) (suc j) (l ∷ lits) h = taken_reads g j lits (omega arith)

taken_length : (g : ℕ) (lits : List Lit) → g ≤ length lits → length (take g lits) ≡ g
taken_length zero lits h = refl
taken_length (suc g) [] h = absurd (omega arith)
taken_length (suc g) (l ∷ lits) h = let k = taken_length g lits (omega arith) in omega arith

pub written_start : (g : ℕ) (s : Store) (marks : List Bool) (steps : List Step) (facts : List ℕ) → IsStore g s → steps ≡ [] → facts ≡ range_with_len 0 g → IsWritten g s.lits marks 0 (record { steps = steps; facts = facts; count = g })
written_start g s marks steps facts st e f =
    let c = st.count in
    let n = taken_length g s.lits (omega arith) in
    let m = ap length f ∙ length-range_with_len 0 g in
    record {
      known = take g s.lits;
      count = sym n;
      facts = omega arith;
      each = λ j h t.
          let r : get_or facts j 0 ≡ j = ap (λ (us : List ℕ). get_or us j 0) f ∙ get_or-range_with_len 0 g j 0 (omega arith) ∙ (let u : 0 + j ≡ j = omega arith in u) in
          (subst (λ (i : ℕ). i < length (take g s.lits)) (sym r) (omega arith), ap (lit_of (take g s.lits)) r ∙ taken_reads g j s.lits (omega arith));
      runs = λ n. subst (λ (ls : List Step). Runs (bare_rules Rat n) (cube_context (take g s.lits)) ls (cube_context (take g s.lits))) (sym e) refl;
    }

fact_kept : (old : List ℕ) (z : ℕ) (new : List ℕ) (j : ℕ) → new ≡ old ++ z ∷ [] → j < length old → get_or new j 0 ≡ get_or old j 0
fact_kept old z new j e h = ap (λ (us : List ℕ). get_or us j 0) e ∙ get_or_append_left old (z ∷ []) 0 j h

pub written_skip : (g i : ℕ) (lits : List Lit) (marks : List Bool) (old new : Lines) → get_or marks (g + i) false ≡ false → SkipsLine old new → IsWritten g lits marks i old → IsWritten g lits marks (i + 1) new
written_skip g i lits marks old new z s w =
    let lf = w.facts in
    let ln = ap length s.facts ∙ length-append old.facts (0 ∷ []) in
    record {
      known = w.known;
      count = s.count ∙ w.count;
      facts = omega arith;
      each = λ j h t. by j h t (cases_eq j (g + i));
      runs = λ n. subst (λ (ls : List Step). Runs (bare_rules Rat n) (cube_context (take g lits)) ls (cube_context w.known)) (sym s.steps) (w.runs n);
    }
  where
    by : (j : ℕ) → j < g + (i + 1) → get_or marks j false ≡ true → (j ≡ g + i) ⊎ (j ≢ g + i) → (get_or new.facts j 0 < length w.known) × (lit_of w.known (get_or new.facts j 0) ≡ lit_of lits j)
    by j h t (inl e) = absurd (let q = sym z ∙ ap (λ (k : ℕ). get_or marks k false) (sym e) ∙ t in cc)
    by j h t (inr n) =
        let lf = w.facts in
        let r = fact_kept old.facts 0 new.facts j s.facts (omega arith) in
        let k = w.each j (omega arith) t in
        (subst (λ (y : ℕ). y < length w.known) (sym r) k.0, ap (lit_of w.known) r ∙ k.1)

rows_read : (lits : List Lit) (i : ℕ) → i < length lits → AreRows lits → IsRow (form_of (lit_of lits i))
rows_read lits i h r = all_at (λ l. IsRow (form_of l)) lits i no_literal h r

-- the two literals of a pair are facts
record AreFacts (g : ℕ) (lits : List Lit) (p : Pair) (known : List Lit) (facts : List ℕ) : Type 0 where
  lower_in : get_or facts p.lower 0 < length known
  lower : lit_of known (get_or facts p.lower 0) ≡ lit_of lits p.lower
  upper_in : get_or facts p.upper 0 < length known
  upper : lit_of known (get_or facts p.upper 0) ≡ lit_of lits p.upper

facts_of : (g i : ℕ) (s : Store) (marks : List Bool) (old : Lines) (p : Pair) → IsPairSum s.lits (g + i) p → i < length s.pairs → p ≡ get_or s.pairs i no_pair → AreClosed g s.pairs marks → get_or marks (g + i) false ≡ true → (w : IsWritten g s.lits marks i old) → AreFacts g s.lits p w.known old.facts
facts_of g i s marks old p own h q closed t w =
    let m = subst (λ (r : Pair). (get_or marks r.lower false ≡ true) × (get_or marks r.upper false ≡ true)) (sym q) (closed i h t) in
    let a = w.each p.lower own.lower_before m.0 in
    let b = w.each p.upper own.upper_before m.1 in
    record { lower_in = a.0; lower = a.1; upper_in = b.0; upper = b.1 }

push_reads : (known : List Lit) (r : Lit) (i : ℕ) → i < length known → lit_of (known ++ r ∷ []) i ≡ lit_of known i
push_reads known r i h = lit_stays known (r ∷ []) i h

-- a sum that is the next fact
each_more : (g i : ℕ) (lits : List Lit) (marks : List Bool) (old new : Lines) (r : Lit) → lit_of lits (g + i) ≡ r → new.facts ≡ old.facts ++ old.count ∷ [] → (w : IsWritten g lits marks i old) → (j : ℕ) → j < g + (i + 1) → get_or marks j false ≡ true → (get_or new.facts j 0 < length (w.known ++ r ∷ [])) × (lit_of (w.known ++ r ∷ []) (get_or new.facts j 0) ≡ lit_of lits j)
each_more g i lits marks old new r e f w j h t = by (cases_eq j (g + i))
  where
    by : (j ≡ g + i) ⊎ (j ≢ g + i) → (get_or new.facts j 0 < length (w.known ++ r ∷ [])) × (lit_of (w.known ++ r ∷ []) (get_or new.facts j 0) ≡ lit_of lits j)
    by (inl z) =
        let lf = w.facts in
        let ln = length-append w.known (r ∷ []) in
        let q : get_or new.facts j 0 ≡ length w.known = ap (λ (us : List ℕ). get_or us j 0) f ∙ get_or_push old.facts old.count 0 j (lf ∙ sym z) ∙ w.count in
        (subst (λ (y : ℕ). y < length (w.known ++ r ∷ [])) (sym q) (omega arith), ap (lit_of (w.known ++ r ∷ [])) q ∙ get_or_push w.known r no_literal (length w.known) refl ∙ sym e ∙ ap (lit_of lits) (sym z))
    by (inr n) =
        let lf = w.facts in
        let ln = length-append w.known (r ∷ []) in
        let q = fact_kept old.facts old.count new.facts j f (omega arith) in
        let k = w.each j (omega arith) t in
        let k0 = k.0 in
        (subst (λ (y : ℕ). y < length (w.known ++ r ∷ [])) (sym q) (omega arith), ap (lit_of (w.known ++ r ∷ [])) q ∙ push_reads w.known r (get_or old.facts j 0) k.0 ∙ k.1)

sum_more : (g i : ℕ) (lits : List Lit) (marks : List Bool) (old new : Lines) (p : Pair) → AreRows lits → g + i < length lits → IsPairSum lits (g + i) p → AddsLine old new (sum_line p.var (lit_of lits p.lower) (get_or old.facts p.lower 0) (lit_of lits p.upper) (get_or old.facts p.upper 0)) → (w : IsWritten g lits marks i old) → AreFacts g lits p w.known old.facts → IsWritten g lits marks (i + 1) new
sum_more g i lits marks old new p rows o own a w facts =
    let L = lit_of lits p.lower in
    let U = lit_of lits p.upper in
    let r = resolvent p.var L U in
    let bl = own.lower_before in
    let bu = own.upper_before in
    let lf = w.facts in
    let ln = ap length a.facts ∙ length-append old.facts (old.count ∷ []) in
    let rl = rows_read lits p.lower (omega arith) rows in
    let ru = rows_read lits p.upper (omega arith) rows in
    let rr = subst (λ (l : Lit). IsRow (form_of l)) own.made (rows_read lits (g + i) o rows) in
    record {
      known = w.known ++ r ∷ [];
      count = a.count ∙ ap (λ (n : ℕ). n + 1) w.count ∙ sym (length-append w.known (r ∷ []));
      facts = omega arith;
      each = each_more g i lits marks old new r own.made a.facts w;
      runs = λ n. subst (λ (ls : List Step). Runs (bare_rules Rat n) (cube_context (take g lits)) ls (cube_context (w.known ++ r ∷ []))) (sym a.steps)
          (runs_more (bare_rules Rat n) (cube_context (take g lits)) (cube_context w.known) (cube_context (w.known ++ r ∷ [])) old.steps
          (sum_line p.var L (get_or old.facts p.lower 0) U (get_or old.facts p.upper 0)) (w.runs n)
          (line_applies n w.known L U p.var (get_or old.facts p.lower 0) (get_or old.facts p.upper 0) facts.lower_in facts.lower facts.upper_in facts.upper own.lower own.upper rl ru rr));
    }

pub written_more : (g i : ℕ) (s : Store) (marks : List Bool) (old new : Lines) (p : Pair) → IsStore g s → AreRows s.lits → i < length s.pairs → p ≡ get_or s.pairs i no_pair → AreClosed g s.pairs marks → get_or marks (g + i) false ≡ true → AddsLine old new (sum_line p.var (lit_of s.lits p.lower) (get_or old.facts p.lower 0) (lit_of s.lits p.upper) (get_or old.facts p.upper 0)) → IsWritten g s.lits marks i old → IsWritten g s.lits marks (i + 1) new
written_more g i s marks old new p st rows h q closed t a w =
    let own = subst (λ (r : Pair). IsPairSum s.lits (g + i) r) (sym q) (st.sums i h) in
    let c = st.count in
    sum_more g i s.lits marks old new p rows (omega arith) own a w (facts_of g i s marks old p own h q closed t w)

pub written_next : (g i : ℕ) (s : Store) (marks : List Bool) (old new : Lines) (p : Pair) (b : Bool) → IsStore g s → AreRows s.lits → i < length s.pairs → p ≡ get_or s.pairs i no_pair → AreClosed g s.pairs marks → b ≡ get_or marks (g + i) false → IsNextLine b old new (sum_line p.var (lit_of s.lits p.lower) (get_or old.facts p.lower 0) (lit_of s.lits p.upper) (get_or old.facts p.upper 0)) → IsWritten g s.lits marks i old → IsWritten g s.lits marks (i + 1) new
written_next g i s marks old new p true st rows h q closed t a w = written_more g i s marks old new p st rows h q closed (sym t) a w
written_next g i s marks old new p false st rows h q closed t a w = written_skip g i s.lits marks old new (sym t) a w

-- ---- the last line

pub refuted : (g id : ℕ) (s : Store) (marks : List Bool) (w : Lines) (steps : List Step) (i place : ℕ) → IsStore g s → id < length s.lits → is_false (truth_of (lit_of s.lits id)) ≡ true → length s.pairs ≤ i → get_or marks id false ≡ true → place ≡ get_or w.facts id 0 → steps ≡ w.steps ++ False place ∷ [] → IsWritten g s.lits marks i w → (n : ℕ) → ClosesBare Rat n (take g s.lits) steps
refuted g id s marks w steps i place st h f o t q e k n =
    let c = st.count in
    let r = k.each id (omega arith) t in
    let a = subst (λ (y : ℕ). y < length k.known) (sym q) r.0 in
    let b : lit_of k.known place ≡ lit_of s.lits id = ap (lit_of k.known) q ∙ r.1 in
    subst (λ (ls : List Step). ClosesBare Rat n (take g s.lits) ls) (sym e)
    (runs_close (bare_rules Rat n) (cube_context (take g s.lits)) (cube_context k.known) w.steps (False place ∷ []) (k.runs n)
    (false_closes Rat n k.known place (lit_of k.known place) a (get_or_default k.known place no_literal (lit_of k.known place) a) (ap (λ (l : Lit). is_false (truth_of l)) b ∙ f)))
