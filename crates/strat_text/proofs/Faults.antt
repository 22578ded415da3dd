-- Reading a file fails by what stands up to the end of the word that does not fit.
use Rattle.std.proofs.Common.{◌≡◌, ℕ, ℤ, zero, suc, ◌+◌, ◌^◌, ◌≤◌, ◌<◌, Bool, true, false, List, [], ◌∷◌, ◌++◌, length, Option, Some, None, Result, Ok, Err, refl, sym, ap, subst, ◌∙◌, arith, codes, inl}
use Rattle.std.specs.Fmt.{decimal}
use Rattle.std.specs.List.{list_any}
use Rattle.std.specs.Str.{bytes_eq}
use Rattle.std.proofs.lemmas.List.{length-append}
use Rattle.lin_term.specs.Form.{Form, cap}
use Rattle.lin_term.specs.Move.{Move}
use Rattle.lin_term.specs.declared.lit.Lit.{Lit}
use Rattle.lin_term.specs.declared.lit.Lit.TheVariants.{AtLeast, Above, Divides, NotDivides}
use Rattle.cube_rules.specs.declared.kind.Kind.{Kind}
use Rattle.cube_rules.specs.declared.kind.Kind.TheVariants as kind
use Rattle.cube_rules.specs.declared.step.Step.{Step}
use Rattle.cube_rules.specs.declared.step.Step.TheVariants.{Path, Def, Part, Cases, Sum, Split, Cube, Least, Learn, False}
use Rattle.cube_rules.specs.Limits.{divisor_cap}
use Rattle.dom_core.specs.declared.Side.{Side}
use Rattle.game_tree.specs.declared.tree.Tree.{Tree}
use Rattle.game_tree.specs.declared.tree.Tree.TheVariants as trees
use Rattle.strat_words.specs.Number.{U32}
use Rattle.strat_words.specs.Cut.{SameHead, GoesThrough}
use Rattle.strat_words.specs.Many.{made, times, state_behind}
use Rattle.strat_words.specs.Spot.{Spot, Place, Taken, Read, ◌>>=◌, first, next, ends, is, fits, no_more, next_place, start, begins_with_space, number_behind_space, Gives}
use Rattle.strat_words.specs.declared.fault.FileFault.{FileFault}
use Rattle.strat_words.specs.declared.fault.FileFault.TheVariants as faults
use Rattle.strat_words.specs.Taking as taking
use Rattle.strat_words.proofs.Cuts.{at_start, behind_word, in_line, at_end, Shape, of_spot, of_taken, ErrCut, Cut, Local, here, moved, bind_both, bind_local, made_local, taken_local, word_local, end_local, choice_cut, if_local, same_local, same_number, same_more, split, stays, at_first, first_local, next_local, fits_local, fault_local, last_local, last_end_local, unfit_local, ends_local, no_more_local, many_local, times_local, natural_local, signed_local, coef_local, first_is_local, next_is_local, ended_local, line_then, joined}
use Rattle.strat_words.proofs.WordLaws.{Takes}
use Rattle.strat_text.specs.Fault.{NoneShares}
use Rattle.strat_text.specs.File.{turns_of, turns, verdict_of, claimed, section_of, section, next_number, version_of, version, nothing_left, file, reading}
use Rattle.strat_text.specs.Line as line
use Rattle.strat_text.specs.Line.{row, literal, sum_line, cube_line, learn_line, step_of, kind_in, step}
use Rattle.strat_text.specs.Proof.{proof, proof_line, open_behind, closed, all_closed}
use Rattle.strat_text.specs.Sections.{Sections}
use Rattle.strat_text.specs.Tree.{move_words, is_written_as, fresh, move_line, branches, tree}
use Rattle.strat_text.specs.Written as spelled
use Rattle.strat_text.specs.declared.section.Section.{Section}
use Rattle.strat_text.specs.declared.section.Section.TheVariants.{Claimed, Unknown}
use Rattle.strat_text.proofs.Files.{file_again}
use Rattle.strat_text.proofs.Lines.{term_takes, literal_takes}
use Rattle.strat_text.proofs.Steps.{index_takes, some_of_literal}

-- ---- forms and literals

shorter : (s s' : Spot) (text : List ℕ) → Takes s text s' → 1 ≤ length text → length s'.rest < length s.rest
shorter s s' text t some = let e : length s.rest ≡ length (text ++ s'.rest) = ap length t.parts in omega (arith, e, length-append text s'.rest, some)

term_local : (limit low : ℕ) → Local of_taken in_line in_line (line.term limit low)
term_local limit low =
    line_then taking.coef (λ a. taking.natural low limit a.1 >>= λ v. Ok ((v.0, a.0), v.1)) coef_local
    (λ a. line_then (taking.natural low limit) (λ v. Ok ((v.0, a.0), v.1)) (natural_local low limit) (λ v. taken_local in_line (v.0, a.0)))

term_short : (limit low : ℕ) (s : Spot) (x : (ℕ × ℤ) × Spot) → line.term limit low s ≡ Ok x → length x.1.rest < length s.rest
term_short limit low s x e = shorter s x.1 (spelled.term x.0) (term_takes limit low s x e).0 (omega (arith, length-append (spelled.signed x.0.1) (spelled.natural x.0.0)))

terms_local : (limit : ℕ) → Local of_taken in_line in_line (line.terms limit)
terms_local limit = many_local number_behind_space refl same_number (line.term limit) line.low_behind (term_short limit) (term_local limit) 0

row_local : (limit : ℕ) → Local of_taken in_line in_line (row limit)
unfolding row
row_local limit =
    line_then taking.kept (λ c. line.terms limit c.1 >>= λ ts. Ok (record { terms = ts.0; constant = c.0 }, ts.1)) (signed_local (cap + 1))
    (λ c. line_then (line.terms limit) (λ ts. Ok (record { terms = ts.0; constant = c.0 }, ts.1)) (terms_local limit) (λ ts. taken_local in_line (record { terms = ts.0; constant = c.0 })))

plain_local : (make : Form → Lit) → Local of_taken behind_word in_line (λ s. made make (row (2 ^ 20) s))
plain_local make = word_local of_taken in_line (λ s. made make (row (2 ^ 20) s)) (made_local in_line in_line (row (2 ^ 20)) make (row_local (2 ^ 20)))

divided_local : (make : ℕ → Form → Lit) → Local of_taken behind_word in_line (λ s. taking.count 1 s >>= λ d. made (make d.0) (row (2 ^ 20) d.1))
divided_local make =
    word_local of_taken in_line (λ s. taking.count 1 s >>= λ d. made (make d.0) (row (2 ^ 20) d.1))
    (line_then (taking.count 1) (λ d. made (make d.0) (row (2 ^ 20) d.1)) (natural_local 1 (cap + 1)) (λ d. made_local in_line in_line (row (2 ^ 20)) (make d.0) (row_local (2 ^ 20))))

literal_of_local : (mark : List ℕ) → Local of_taken behind_word in_line (line.literal_of mark)
literal_of_local mark =
    if_local of_taken behind_word in_line (bytes_eq mark (codes ">=")) _ _ (plain_local AtLeast)
    (if_local of_taken behind_word in_line (bytes_eq mark (codes ">")) _ _ (plain_local Above)
    (if_local of_taken behind_word in_line (bytes_eq mark (codes "|")) _ _ (divided_local Divides)
    (if_local of_taken behind_word in_line (bytes_eq mark (codes "!|")) _ _ (divided_local NotDivides) (last_local of_taken in_line))))

literal_local : Local of_taken in_line in_line literal
unfolding literal
literal_local = bind_local of_taken of_taken in_line behind_word in_line next (λ w. line.literal_of w.0 w.1) next_local (λ w. literal_of_local w.0)

-- ---- lines of a proof

index_local : Local of_taken in_line in_line taking.index
index_local = natural_local 0 U32

count_local : (low : ℕ) → Local of_taken in_line in_line (taking.count low)
count_local low = natural_local low (cap + 1)

indices_local : Local of_taken in_line in_line line.indices
indices_local = many_local number_behind_space refl same_number line.any_index line.unchanged (λ u s x e. shorter s x.1 (spelled.natural x.0) (index_takes s x e).0 (omega arith)) (λ u. index_local) tt

literals_local : Local of_taken in_line in_line line.literals
literals_local = many_local begins_with_space refl same_more line.any_literal line.unchanged (λ u s x e. shorter s x.1 (spelled.literal x.0) (literal_takes s x e).0 (some_of_literal x.0)) (λ u. literal_local) tt

two_in : (make : ℕ → ℕ → Step) (v : ℕ) (r : Taken ℕ) → (r >>= λ b. Ok (make v b.0, b.1)) ≡ line.two make (r >>= λ b. Ok (v, b.0, b.1))
two_in make v (Ok b) = refl
two_in make v (Err p) = refl

two_is : (make : ℕ → ℕ → Step) (second : Spot → Taken ℕ) (r : Taken ℕ) → (r >>= λ a. second a.1 >>= λ b. Ok (make a.0 b.0, b.1)) ≡ line.two make (r >>= λ a. second a.1 >>= λ b. Ok (a.0, b.0, b.1))
two_is make second (Ok a) = two_in make a.0 (second a.1)
two_is make second (Err p) = refl

two_local : (make : ℕ → ℕ → Step) (second : Spot → Taken ℕ) → Local of_taken in_line in_line second → Local of_taken in_line in_line (λ s. line.two make (taking.index s >>= λ a. second a.1 >>= λ b. Ok (a.0, b.0, b.1)))
two_local make second c =
    same_local of_taken in_line in_line (λ s. taking.index s >>= λ a. second a.1 >>= λ b. Ok (make a.0 b.0, b.1)) (λ s. line.two make (taking.index s >>= λ a. second a.1 >>= λ b. Ok (a.0, b.0, b.1)))
    (λ s. two_is make second (taking.index s))
    (line_then taking.index (λ a. second a.1 >>= λ b. Ok (make a.0 b.0, b.1)) index_local (λ a. line_then second (λ b. Ok (make a.0 b.0, b.1)) c (λ b. taken_local in_line (make a.0 b.0))))

sum_local : Local of_taken in_line in_line sum_line
unfolding sum_line
sum_local =
    line_then taking.kept _ (signed_local (cap + 1)) (λ p.
    line_then taking.index _ index_local (λ f.
    line_then taking.kept _ (signed_local (cap + 1)) (λ q.
    line_then taking.index _ index_local (λ h.
    line_then (taking.signed (divisor_cap + 1)) _ (signed_local (divisor_cap + 1)) (λ g. taken_local in_line (Sum p.0 f.0 q.0 h.0 g.0))))))

cube_local : Local of_taken in_line in_line cube_line
unfolding cube_line
cube_local s h =
    choice_cut of_taken in_line number_behind_space same_number (λ s1. made Cube (line.indices s1)) (λ s1. Err (next_place s1)) s
    (λ on. made_local in_line in_line line.indices Cube indices_local s h) (λ off. unfit_local of_taken in_line s h)

learn_local : Local of_taken in_line in_line learn_line
unfolding learn_line
learn_local s h =
    choice_cut of_taken in_line begins_with_space same_more (λ s1. made Learn (line.literals s1)) (λ s1. Err (next_place s1)) s
    (λ on. made_local in_line in_line line.literals Learn literals_local s h) (λ off. unfit_local of_taken in_line s h)

step_of_local : (k : Kind) → Local of_taken in_line in_line (step_of k)
step_of_local kind.Path = made_local in_line in_line taking.index Path index_local
step_of_local kind.Def = two_local Def taking.index index_local
step_of_local kind.Part = two_local Part taking.index index_local
step_of_local kind.Cases = two_local Cases (taking.count 0) (count_local 0)
step_of_local kind.Sum = sum_local
step_of_local kind.Split = made_local in_line in_line literal Split literal_local
step_of_local kind.Cube = cube_local
step_of_local kind.Least = two_local Least (taking.count 0) (count_local 0)
step_of_local kind.Learn = learn_local
step_of_local kind.False = made_local in_line in_line taking.index False index_local

step_local : (v : ℕ) → Local of_taken at_start at_start (step v)
unfolding step
step_local v =
    bind_local of_taken of_taken at_start behind_word at_start first _ first_local (λ w.
    bind_local of_taken of_taken behind_word in_line at_start (fits (kind_in v w.0)) _ (fits_local (kind_in v w.0)) (λ k.
    bind_local of_taken of_taken in_line in_line at_start (step_of k.0) _ (step_of_local k.0) (λ x. ended_local x.0)))

-- ---- proofs

proof_line_local : (v waiting : ℕ) → Local of_taken at_start at_start (proof_line v waiting)
proof_line_local v zero = fault_local of_taken at_start
proof_line_local v (suc others) = step_local v

all_closed_is : (r : Taken (List Step)) → (r >>= λ x. closed (state_behind open_behind 1 x.0) (Ok x) x.1) ≡ all_closed r
all_closed_is (Ok x) = refl
all_closed_is (Err p) = refl

closed_local : (left : ℕ) (xs : List Step) → Local of_taken at_start at_start (λ s. closed left (Ok (xs, s)) s)
closed_local zero xs = taken_local at_start xs
closed_local (suc left) xs = fault_local of_taken at_start

lines_local : (v n : ℕ) → Local of_taken at_start at_start (λ s. all_closed (times (proof_line v) open_behind n 1 s))
lines_local v n =
    same_local of_taken at_start at_start (λ s. times (proof_line v) open_behind n 1 s >>= λ x. closed (state_behind open_behind 1 x.0) (Ok x) x.1) (λ s. all_closed (times (proof_line v) open_behind n 1 s))
    (λ s. all_closed_is (times (proof_line v) open_behind n 1 s))
    (bind_local of_taken of_taken at_start at_start at_start (times (proof_line v) open_behind n 1) (λ x. closed (state_behind open_behind 1 x.0) (Ok x) x.1) (times_local (proof_line v) open_behind (proof_line_local v) n 1) (λ x. closed_local (state_behind open_behind 1 x.0) x.0))

proof_local : (v : ℕ) → Local of_taken at_start at_start (proof v)
unfolding proof
proof_local v =
    bind_local of_spot of_taken at_start in_line at_start (λ s. is (codes "proof") (first s)) _ (first_is_local (codes "proof")) (λ w.
    bind_local of_taken of_taken in_line in_line at_start (taking.count 1) _ (count_local 1) (λ n.
    bind_local of_spot of_taken in_line at_start at_start ends _ ends_local (λ a. lines_local v n.0)))

-- ---- trees

move_words_local : (pos : ℕ) → Local of_taken at_start at_end (move_words pos)
unfolding move_words
move_words_local pos =
    bind_local of_spot of_taken at_start in_line at_end (λ s. is (codes "m") (first s)) _ (first_is_local (codes "m")) (λ w.
    bind_local of_taken of_taken in_line in_line at_end (taking.count 1) _ (count_local 1) (λ d.
    bind_local of_taken of_taken in_line in_line at_end (row pos) _ (row_local pos) (λ r.
    bind_local of_spot of_taken in_line at_end at_end no_more _ no_more_local (λ a. taken_local at_end (record { numer = r.0; div = d.0 })))))

fresh_local : (b : Bool) (m : Move) → Local of_taken at_end at_start (λ s. fresh b (m, s))
fresh_local true m = last_end_local of_taken at_start
fresh_local false m = end_local of_taken at_start (λ s. ends s >>= λ after. Ok (m, after)) (ended_local m)

move_line_local : (pos : ℕ) (before : List Move) → Local of_taken at_start at_start (move_line pos before)
unfolding move_line
move_line_local pos before = bind_local of_taken of_taken at_start at_end at_start (move_words pos) _ (move_words_local pos) (λ m. fresh_local (list_any (is_written_as m.0) before) m.0)

module _ (rest : Spot → Taken Tree) (pos : ℕ) (each : Local of_taken at_start at_start rest) where
  branches_local : (n : ℕ) (before : List Move) → Local of_taken at_start at_start (branches rest pos n before)
  unfolding branches
  branches_local zero before = taken_local at_start []
  branches_local (suc n) before =
      bind_local of_taken of_taken at_start at_start at_start (move_line pos before) _ (move_line_local pos before) (λ m.
      bind_local of_taken of_taken at_start at_start at_start rest _ each (λ t.
      made_local at_start at_start (branches rest pos n (before ++ m.0 ∷ [])) (λ bs. record { term = m.0; rest = t.0 } ∷ bs) (branches_local n (before ++ m.0 ∷ []))))

tree_local : (ts : List Bool) (pos : ℕ) → Local of_taken at_start at_start (tree ts pos)
unfolding tree
tree_local [] pos = taken_local at_start trees.End
tree_local (false ∷ ts) pos =
    bind_local of_spot of_taken at_start in_line at_start (λ s. is (codes "t") (first s)) _ (first_is_local (codes "t")) (λ w.
    bind_local of_spot of_taken in_line at_start at_start ends _ ends_local (λ a. made_local at_start at_start (tree ts (pos + 1)) trees.Theirs (tree_local ts (pos + 1))))
tree_local (true ∷ ts) pos =
    bind_local of_spot of_taken at_start in_line at_start (λ s. is (codes "o") (first s)) _ (first_is_local (codes "o")) (λ w.
    bind_local of_taken of_taken in_line in_line at_start (taking.count 1) _ (count_local 1) (λ n.
    bind_local of_spot of_taken in_line at_start at_start ends _ ends_local (λ a. made_local at_start at_start (branches (tree ts (pos + 1)) pos n.0 []) trees.Mine (branches_local (tree ts (pos + 1)) pos (tree_local ts (pos + 1)) n.0 []))))

-- ---- sections

turns_local : Local of_taken at_start at_start turns
unfolding turns
turns_local =
    bind_local of_spot of_taken at_start in_line at_start (λ s. is (codes "turns") (first s)) _ (first_is_local (codes "turns")) (λ w.
    bind_local of_taken of_taken in_line behind_word at_start next _ next_local (λ word.
    bind_local of_taken of_taken behind_word in_line at_start (fits (turns_of word.0)) _ (fits_local (turns_of word.0)) (λ ts. ended_local ts.0)))

claimed_local : (v : ℕ) (side : Side) (line : ℕ) → Local of_taken at_start at_start (claimed v side line)
unfolding claimed
claimed_local v side line =
    bind_local of_taken of_taken at_start at_start at_start turns _ turns_local (λ ts.
    bind_local of_taken of_taken at_start at_start at_start (tree ts.0 0) _ (tree_local ts.0 0) (λ t.
    bind_local of_taken of_taken at_start at_start at_start (proof v) _ (proof_local v) (λ p. taken_local at_start (Claimed side ts.0 t.0 p.0 line))))

section_of_local : (v : ℕ) (o : Option Side) (line : ℕ) → Local of_taken at_start at_start (section_of v o line)
section_of_local v None line = taken_local at_start Unknown
section_of_local v (Some side) line = claimed_local v side line

-- its line is one of those before
abbrev section_at : ℕ → ℕ → ℕ → Spot → Taken Section
section_at v number line s = do
  w ← is (codes "goal") (first s)
  k ← is (decimal number) (next w)
  word ← next k
  d ← fits (verdict_of word.0) word.1
  after ← ends d.1
  section_of v d.0 line after

section_at_local : (v number line : ℕ) → Local of_taken at_start at_start (section_at v number line)
section_at_local v number line =
    bind_local of_spot of_taken at_start in_line at_start (λ s. is (codes "goal") (first s)) _ (first_is_local (codes "goal")) (λ w.
    bind_local of_spot of_taken in_line in_line at_start (λ s. is (decimal number) (next s)) _ (next_is_local (decimal number)) (λ k.
    bind_local of_taken of_taken in_line behind_word at_start next _ next_local (λ word.
    bind_local of_taken of_taken behind_word in_line at_start (fits (verdict_of word.0)) _ (fits_local (verdict_of word.0)) (λ d.
    bind_local of_spot of_taken in_line at_start at_start ends _ ends_local (λ a. section_of_local v d.0 line)))))

as_section : (v number : ℕ) (s : Spot) (r : Taken Section) → Cut of_taken at_start at_start s (section_at v number s.line) r → Cut of_taken at_start at_start s (section v number) r
unfolding section
as_section v number s (Ok x) d = record { text = d.text; parts = d.parts; place = d.place; holds = d.holds; looks = d.looks; same = λ z k. d.same z k }
as_section v number s (Err p) d = record { text = d.text; rest = d.rest; parts = d.parts; through = d.through; looks = d.looks; same = λ z k. d.same z k }

section_local : (v number : ℕ) → Local of_taken at_start at_start (section v number)
unfolding section
section_local v number s h = as_section v number s (section_at v number s.line s) (section_at_local v number s.line s h)

-- ---- the file

-- all but that nothing stands behind the last line
abbrev whole : Spot → Taken Sections
whole s = do
  w ← is (codes "simsat-strategy") (first s)
  v ← version w
  one ← ends v.1
  g ← is (codes "goals") (first one)
  n ← taking.count 0 g
  two ← ends n.1
  xs ← times (section v.0) next_number n.0 0 two
  e ← is (codes "end") (first xs.1)
  after ← ends e
  Ok (record { version = v.0; list = xs.0 }, after)

abbrev last : Sections × Spot → Read Sections
last x = nothing_left x.0 x.1 x.1.rest

whole_is : (s : Spot) → (whole s >>= last) ≡ file s
unfolding file
whole_is s =
    joined (is (codes "simsat-strategy") (first s)) _ last _ (λ w.
    joined (version w) _ last _ (λ v.
    joined (ends v.1) _ last _ (λ one.
    joined (is (codes "goals") (first one)) _ last _ (λ g.
    joined (taking.count 0 g) _ last _ (λ n.
    joined (ends n.1) _ last _ (λ two.
    joined (times (section v.0) next_number n.0 0 two) _ last _ (λ xs.
    joined (is (codes "end") (first xs.1)) _ last _ (λ e.
    joined (ends e) _ last _ (λ after. refl)))))))))

version_local : Local of_taken in_line in_line version
version_local = bind_local of_taken of_taken in_line behind_word in_line next (λ w. fits (version_of w.0) w.1) next_local (λ w. fits_local (version_of w.0))

whole_local : Local of_taken at_start at_start whole
whole_local =
    bind_local of_spot of_taken at_start in_line at_start (λ s. is (codes "simsat-strategy") (first s)) _ (first_is_local (codes "simsat-strategy")) (λ w.
    bind_local of_taken of_taken in_line in_line at_start version _ version_local (λ v.
    bind_local of_spot of_taken in_line at_start at_start ends _ ends_local (λ one.
    bind_local of_spot of_taken at_start in_line at_start (λ s. is (codes "goals") (first s)) _ (first_is_local (codes "goals")) (λ g.
    bind_local of_taken of_taken in_line in_line at_start (taking.count 0) _ (count_local 0) (λ n.
    bind_local of_spot of_taken in_line at_start at_start ends _ ends_local (λ two.
    bind_local of_taken of_taken at_start at_start at_start (times (section v.0) next_number n.0 0) _ (times_local (section v.0) next_number (section_local v.0) n.0 0) (λ xs.
    bind_local of_spot of_taken at_start in_line at_start (λ s. is (codes "end") (first s)) _ (first_is_local (codes "end")) (λ e.
    ended_local (record { version = v.0; list = xs.0 })))))))))

abbrev failed : Place → Read Sections
failed q = Err q

-- bytes behind the last line
left_cut : (xs : Sections) (s : Spot) (p : Place) → s.word ≡ 0 → nothing_left xs s s.rest ≡ Err p → ErrCut at_start s (λ s1. nothing_left xs s1 s1.rest) p
left_cut xs s p h e =
    let w = split s.rest in
    record {
      text = w.word;
      rest = w.rest;
      parts = w.parts;
      through = (w.parted, inl (stays (here s) w.word w.all ∙ at_first s h ∙ is_next s.rest e));
      looks = λ z k. tt;
      same = λ z k. fails (w.word ++ z) (more_some w.word w.rest z k (subst (λ (t : List ℕ). 1 ≤ length t) w.parts (is_some s.rest e)));
    }
  where
    is_next : (t : List ℕ) → nothing_left xs s t ≡ Err p → next_place s ≡ p
    is_next [] e = absurd cc
    is_next (b ∷ t) e = cc

    is_some : (t : List ℕ) → nothing_left xs s t ≡ Err p → 1 ≤ length t
    is_some [] e = absurd cc
    is_some (b ∷ t) e = omega arith

    more_some : (w y z : List ℕ) → SameHead y z → 1 ≤ length (w ++ y) → 1 ≤ length (w ++ z)
    more_some (b ∷ w) y z k some = omega arith
    more_some [] [] z k some = absurd (omega (arith, some))
    more_some [] (b ∷ y) [] k some = absurd k
    more_some [] (b ∷ y) (c ∷ z) k some = omega arith

    fails : (t : List ℕ) → 1 ≤ length t → nothing_left xs (moved s t) t ≡ Err p
    fails [] some = absurd (omega (arith, some))
    fails (b ∷ t) some = ap (λ (q : Place). failed q) (is_next s.rest e)

-- where the spot is of no matter
abbrev no_spot : Shape Sections
no_spot = record { at = λ x. start []; put = λ x s. x; back = λ x. refl }

module _ (bytes : List ℕ) (p : Place) (given : reading bytes ≡ Err p) where
  in_whole : (r : Taken Sections) → whole (start bytes) ≡ r → Cut of_taken at_start at_start (start bytes) whole r → ErrCut at_start (start bytes) file p
  in_whole (Ok x) e c =
      let q : last x ≡ Err p = sym (ap (λ (r : Taken Sections). r >>= last) e) ∙ whole_is (start bytes) ∙ given in
      let d = bind_both of_taken no_spot at_start at_start at_start (start bytes) whole last x c (Err p) (left_cut x.0 x.1 p c.holds q) in
      record { text = d.text; rest = d.rest; parts = d.parts; through = d.through; looks = d.looks; same = λ z k. sym (whole_is (moved (start bytes) (d.text ++ z))) ∙ d.same z k }
  in_whole (Err q) e c =
      let both : failed q ≡ Err p = sym (ap (λ (r : Taken Sections). r >>= last) e) ∙ whole_is (start bytes) ∙ given in
      let is : q ≡ p = cc in
      record { text = c.text; rest = c.rest; parts = c.parts; through = subst (λ (y : Place). GoesThrough (here (start bytes)) y c.text c.rest) is c.through; looks = c.looks; same = λ z k. sym (whole_is (moved (start bytes) (c.text ++ z))) ∙ ap (λ (r : Taken Sections). r >>= last) (c.same z k) ∙ both }

  file_cut : ErrCut at_start (start bytes) file p
  file_cut = in_whole (whole (start bytes)) refl (whole_local (start bytes) refl)

pub none_shares : (bytes : List ℕ) (p : Place) → reading bytes ≡ Err p → NoneShares bytes p
none_shares bytes p e =
    let c = file_cut bytes p e in
    record { text = c.text; rest = c.rest; parts = c.parts; through = c.through; none = λ z xs k h. let a = file_again (c.text ++ z) xs h in let d : failed p ≡ Ok a.0 = sym (c.same z k) ∙ a.2 in absurd cc }

-- the clause of `read_file`
pub is_none : (bytes : List ℕ) (r : Result Sections FileFault) → Gives (λ xs. xs) r (reading bytes) → (l w : ℕ) → r ≡ Err (faults.Bad l w) → NoneShares bytes (record { line = l; word = w })
is_none bytes r given l w e = none_shares bytes (record { line = l; word = w }) (subst (λ (q : Result Sections FileFault). Gives (λ xs. xs) q (reading bytes)) e given)
