-- What the lines of an answer are worth.
use Rattle.std.proofs.Common.{◌≡◌, ℕ, zero, suc, ◌++◌, Bool, true, false, if◌then◌else◌, eqb, List, [], ◌∷◌, map, length, Option, Some, Result, Ok, Err, refl, ap, sym, ◌∙◌, subst, arith, append_assoc, codes, inl, inr}
use Rattle.std.specs.Prelude.{◌⊎◌, slice_get, slice_index}
use Rattle.std.specs.Fmt.{decimal}
use Rattle.std.proofs.lemmas.Bool.{eqb-true, eq-eqb}
use Rattle.std.proofs.lemmas.List.{length-map}
use Rattle.ss_names.specs.declared.ScriptFault.{ScriptFault}
use Rattle.lin_term.specs.declared.Sort.{Sort}
use Rattle.dom_core.specs.declared.Side.{Side}
use Rattle.dom_core.specs.declared.Side.TheVariants.{Exists, Forall}
use Rattle.dom_core.specs.Game.{Problem}
use Rattle.cube_rules.specs.Name.{printed, word_of}
use Rattle.cube_rules.specs.declared.Kind.{Kind}
use Rattle.cube_rules.specs.declared.Kind.TheVariants as kinds
use Rattle.cube_rules.specs.declared.Rule.{Rule}
use Rattle.cube_rules.specs.declared.Rule.TheVariants as rules
use Rattle.strat_words.specs.Spot.{Place}
use Rattle.strat_text.specs.declared.Section.{Section}
use Rattle.strat_text.specs.Sections.{Sections}
use Rattle.strat_text.specs.File.{reading}
use Rattle.strat_text.specs.Spelling.{without_line}
use Rattle.strat_check.specs.declared.Checked.{Checked}
use Rattle.strat_check.specs.declared.Checked.TheVariants.{Accepted, Unclaimed, Rejected}
use Rattle.strat_check.specs.Section.{verdict}
use Rattle.strat_check.specs.Accepted.{Accepts as SectionAccepts}
use Rattle.ss_shelf.specs.Outside.{Files, Tells}
use Rattle.script_games.specs.Games.{Games, games}
use Rattle.script_games.specs.Refusal.{refusal_text}
use Rattle.script_games.specs.Acceptance.{Accepts, IsReadAsSpelled}
use Rattle.script_games.specs.Headline.{text_lines, line_at, accepted, IsTrueAt, IsFalseAt, IsWorth}
use Rattle.script_games.specs.Given.{AsksFor}
use Rattle.script_games.proofs.Lines.{is_plain, plain_append, plain_decimal, line_then, only_line, before_line, refused_line}
use Rattle.simcheck.specs.declared.status.CheckStatus.TheVariants as status
use Rattle.simcheck.specs.Verdicts.{Answer, verdict_text, lines, any_rejected, status_of, checked, judged_of, printed_for}
use Rattle.simcheck.specs.Carried.{Wins, EachWins, ReadsSpelled}
use Rattle.simcheck.specs.Answer.{AnswersGames, AnswersGiven}
use Rattle.simcheck.proofs.Lining.{lines_cons, lines_nil, lines_short}
use Rattle.simcheck.proofs.Winning.{each_at, wins_accepted, accepts_elsewhere}

-- ---- the line of a verdict

-- the text of a verdict without its line feed
abbrev verdict_words : Checked → List ℕ
verdict_words (Accepted side) = accepted side
verdict_words Unclaimed = codes "unclaimed"
verdict_words (Rejected line rule) = codes "rejected " ++ (decimal line ++ (codes " " ++ printed rule))

words_feed : (c : Checked) → verdict_text c ≡ verdict_words c ++ (10 ∷ [])
words_feed (Accepted Exists) = refl
words_feed (Accepted Forall) = refl
words_feed Unclaimed = refl
words_feed (Rejected line rule) =
    before_line (codes "rejected ") _ _ (before_line (decimal line) _ _ (before_line (codes " ") (printed rule ++ (10 ∷ [])) (printed rule) refl))

plain_word : (k : Kind) → is_plain (word_of k) ≡ true
plain_word kinds.Path = refl
plain_word kinds.Def = refl
plain_word kinds.Part = refl
plain_word kinds.Cases = refl
plain_word kinds.Sum = refl
plain_word kinds.Split = refl
plain_word kinds.Cube = refl
plain_word kinds.Least = refl
plain_word kinds.Learn = refl
plain_word kinds.False = refl

plain_rule : (r : Rule) → is_plain (printed r) ≡ true
plain_rule rules.Form = refl
plain_rule rules.Goals = refl
plain_rule rules.Turns = refl
plain_rule rules.Move = refl
plain_rule (rules.Line k) = plain_word k

plain_words : (c : Checked) → is_plain (verdict_words c) ≡ true
plain_words (Accepted Exists) = refl
plain_words (Accepted Forall) = refl
plain_words Unclaimed = refl
plain_words (Rejected line rule) =
    let named = codes " " ++ printed rule in
    plain_append (codes "rejected ") (decimal line ++ named) refl (plain_append (decimal line) named (plain_decimal line) (plain_append (codes " ") (printed rule) refl (plain_rule rule)))

-- the byte at this place, which tells the words apart
byte_at : (k : ℕ) (a b : List ℕ) → a ≡ b → slice_index a k ≡ slice_index b k
byte_at k a b e = ap (λ (t : List ℕ). slice_index t k) e

words_accepted : (c : Checked) (side : Side) → verdict_words c ≡ accepted side → c ≡ Accepted side
words_accepted (Accepted Exists) Exists e = refl
words_accepted (Accepted Exists) Forall e = let h : 115 ≡ 117 = byte_at 9 (codes "accepted sat") (codes "accepted unsat") e in absurd (omega (arith, h))
words_accepted (Accepted Forall) Exists e = let h : 117 ≡ 115 = byte_at 9 (codes "accepted unsat") (codes "accepted sat") e in absurd (omega (arith, h))
words_accepted (Accepted Forall) Forall e = refl
words_accepted Unclaimed Exists e = let h : 117 ≡ 97 = byte_at 0 (codes "unclaimed") (codes "accepted sat") e in absurd (omega (arith, h))
words_accepted Unclaimed Forall e = let h : 117 ≡ 97 = byte_at 0 (codes "unclaimed") (codes "accepted unsat") e in absurd (omega (arith, h))
words_accepted (Rejected line rule) Exists e =
    let h : 114 ≡ 97 = byte_at 0 (verdict_words (Rejected line rule)) (codes "accepted sat") e in absurd (omega (arith, h))
words_accepted (Rejected line rule) Forall e =
    let h : 114 ≡ 97 = byte_at 0 (verdict_words (Rejected line rule)) (codes "accepted unsat") e in absurd (omega (arith, h))

-- a line that begins with `re` is none of these
re_is_other : (rest : List ℕ) (side : Side) → accepted side ≡ 114 ∷ 101 ∷ rest → ⊥
re_is_other rest Exists e = let h : 97 ≡ 114 = byte_at 0 (codes "accepted sat") (114 ∷ 101 ∷ rest) e in absurd (omega (arith, h))
re_is_other rest Forall e = let h : 97 ≡ 114 = byte_at 0 (codes "accepted unsat") (114 ∷ 101 ∷ rest) e in absurd (omega (arith, h))

-- ---- the lines of all verdicts

lines_first : (s : Sort) (P : Problem) (x : Section) (Ps : List Problem) (xs : List Section) →
    text_lines (lines s (P ∷ Ps) (x ∷ xs)) ≡ verdict_words (verdict s P x) ∷ text_lines (lines s Ps xs)
lines_first s P x Ps xs =
    let v = verdict s P x in
    let rest = lines s Ps xs in
    ap text_lines (lines_cons s P x Ps xs ∙ ap (λ (t : List ℕ). t ++ rest) (words_feed v) ∙ append_assoc (verdict_words v) (10 ∷ []) rest)
    ∙ line_then (verdict_words v) rest (plain_words v)

-- line k is that of problem k and section k
record IsLineOf (s : Sort) (Ps : List Problem) (xs : List Section) (k : ℕ) (l : List ℕ) : Type 0 where
  problem : Problem
  its_problem : slice_get Ps k ≡ Some problem
  claim : Section
  its_section : slice_get xs k ≡ Some claim
  words : l ≡ verdict_words (verdict s problem claim)

line_of : (s : Sort) (Ps : List Problem) (xs : List Section) (k : ℕ) (l : List ℕ) → line_at (lines s Ps xs) k ≡ Some l → IsLineOf s Ps xs k l
line_of s [] xs k l e = let h : slice_get (text_lines []) k ≡ Some l = sym (ap (λ (t : List ℕ). line_at t k) (lines_nil s xs)) ∙ e in absurd (cc)
line_of s (P ∷ Ps) [] k l e = let h : slice_get (text_lines []) k ≡ Some l = sym (ap (λ (t : List ℕ). line_at t k) (lines_short s P Ps)) ∙ e in absurd (cc)
line_of s (P ∷ Ps) (x ∷ xs) zero l e =
    let h : Some (verdict_words (verdict s P x)) ≡ Some l = sym (ap (λ (ls : List (List ℕ)). slice_get ls 0) (lines_first s P x Ps xs)) ∙ e in
    record { problem = P; its_problem = refl; claim = x; its_section = refl; words = (let q : l ≡ verdict_words (verdict s P x) = cc in q) }
line_of s (P ∷ Ps) (x ∷ xs) (suc k) l e =
    let h : line_at (lines s Ps xs) k ≡ Some l = sym (ap (λ (ls : List (List ℕ)). slice_get ls (suc k)) (lines_first s P x Ps xs)) ∙ e in
    let r = line_of s Ps xs k l h in
    record { problem = r.problem; its_problem = r.its_problem; claim = r.claim; its_section = r.its_section; words = r.words }

line_for : (s : Sort) (Ps : List Problem) (xs : List Section) (k : ℕ) (P : Problem) (x : Section) → slice_get Ps k ≡ Some P → slice_get xs k ≡ Some x →
    line_at (lines s Ps xs) k ≡ Some (verdict_words (verdict s P x))
line_for s [] xs k P x eP ex = absurd (cc)
line_for s (Q ∷ Ps) [] k P x eP ex = absurd (cc)
line_for s (Q ∷ Ps) (y ∷ xs) zero P x eP ex =
    let p : Q ≡ P = cc in
    let q : y ≡ x = cc in
    ap (λ (ls : List (List ℕ)). slice_get ls 0) (lines_first s Q y Ps xs) ∙ ap (λ (R : Problem). Some (verdict_words (verdict s R y))) p ∙ ap (λ (z : Section). Some (verdict_words (verdict s P z))) q
line_for s (Q ∷ Ps) (y ∷ xs) (suc k) P x eP ex =
    ap (λ (ls : List (List ℕ)). slice_get ls (suc k)) (lines_first s Q y Ps xs) ∙ line_for s Ps xs k P x eP ex

-- ---- the whole text

-- the file is read as a section for each game, and line k is that of game k and section k
record IsJudged (g : Games) (r : Result Sections Place) (k : ℕ) (l : List ℕ) : Type 0 where
  sections : Sections
  read_so : r ≡ Ok sections
  one_each : length g.problems ≡ length sections.list
  line : IsLineOf g.sort g.problems sections.list k l

-- a line that begins with `re`
abbrev BeginsRe : List ℕ → Type 0
BeginsRe l = (rest : List ℕ) × (l ≡ 114 ∷ 101 ∷ rest)

checked_line : (g : Games) (xs : Sections) (k : ℕ) (l : List ℕ) (b : Bool) → eqb (length g.problems) (length xs.list) ≡ b →
    line_at (if◌then◌else◌ {A = Answer} b (record { status = status_of (any_rejected g.sort g.problems xs.list); text = lines g.sort g.problems xs.list }) (record { status = status.Rejected; text = codes "rejected 2 goals\n" })).text k ≡ Some l →
    BeginsRe l ⊎ IsJudged g (Ok xs) k l
checked_line g xs k l true n e = inr (record { sections = xs; read_so = refl; one_each = eqb-true (length g.problems) (length xs.list) n; line = line_of g.sort g.problems xs.list k l e })
checked_line g xs k l false n e = inl (codes "jected 2 goals", only_line (codes "rejected 2 goals") k l refl e)

judged_line : (g : Games) (r : Result Sections Place) (k : ℕ) (l : List ℕ) → line_at (judged_of g r).text k ≡ Some l → BeginsRe l ⊎ IsJudged g r k l
judged_line g (Err place) k l e =
    let words = codes "rejected " ++ (decimal place.line ++ codes " form") in
    let feed : codes "rejected " ++ (decimal place.line ++ codes " form\n") ≡ words ++ (10 ∷ []) = before_line (codes "rejected ") _ _ (before_line (decimal place.line) (codes " form\n") (codes " form") refl) in
    let plain = plain_append (codes "rejected ") (decimal place.line ++ codes " form") refl (plain_append (decimal place.line) (codes " form") (plain_decimal place.line) refl) in
    inl (codes "jected " ++ (decimal place.line ++ codes " form"), only_line words k l plain (sym (ap (λ (t : List ℕ). line_at t k) feed) ∙ e))
judged_line g (Ok xs) k l e = checked_line g xs k l (eqb (length g.problems) (length xs.list)) refl e

text_is : (g : Games) (file : List ℕ) → (printed_for g file).text ≡ (judged_of g (reading file)).text
unfolding printed_for
text_is g file = refl

whole_text : (g : Games) (xs : List Section) → length g.problems ≡ length xs → (checked g xs).text ≡ lines g.sort g.problems xs
whole_text g xs n =
    ap (λ (b : Bool). (if◌then◌else◌ {A = Answer} b (record { status = status_of (any_rejected g.sort g.problems xs); text = lines g.sort g.problems xs }) (record { status = status.Rejected; text = codes "rejected 2 goals\n" })).text)
    (eq-eqb (length g.problems) (length xs) n)

-- ---- what its lines are worth

-- line k says that the file is accepted for a side: the section is, and its verdict
record IsSaid (g : Games) (file : List ℕ) (k : ℕ) (side : Side) : Type 0 where
  sections : Sections
  read_so : reading file ≡ Ok sections
  one_each : length g.problems ≡ length sections.list
  problem : Problem
  its_problem : slice_get g.problems k ≡ Some problem
  claim : Section
  its_section : slice_get sections.list k ≡ Some claim
  wins : Wins g.sort problem claim (Accepted side)

abbrev pub AllWin : Games → List ℕ → Type 0
AllWin g file = (xs : Sections) → reading file ≡ Ok xs → length g.problems ≡ length xs.list → EachWins g.sort g.problems xs.list

said_of : (g : Games) (file : List ℕ) (k : ℕ) (side : Side) (l : List ℕ) → l ≡ accepted side → AllWin g file → BeginsRe l ⊎ IsJudged g (reading file) k l → IsSaid g file k side
said_of g file k side l e all (inl re) = absurd (re_is_other re.0 side (sym e ∙ re.1))
said_of g file k side l e all (inr j) =
    let v = words_accepted (verdict g.sort j.line.problem j.line.claim) side (sym j.line.words ∙ e) in
    record {
      sections = j.sections;
      read_so = j.read_so;
      one_each = j.one_each;
      problem = j.line.problem;
      its_problem = j.line.its_problem;
      claim = j.line.claim;
      its_section = j.line.its_section;
      wins = subst (Wins g.sort j.line.problem j.line.claim) v
          (each_at g.sort g.problems j.sections.list k j.line.problem j.line.claim (all j.sections j.read_so j.one_each) j.line.its_problem j.line.its_section);
    }

said_at : (g : Games) (file : List ℕ) (k : ℕ) (side : Side) → AllWin g file → line_at (printed_for g file).text k ≡ Some (accepted side) → IsSaid g file k side
said_at g file k side all e =
    said_of g file k side (accepted side) refl all (judged_line g (reading file) k (accepted side) (sym (ap (λ (t : List ℕ). line_at t k) (text_is g file)) ∙ e))

-- what is said is accepted
accepts_so : (script file : List ℕ) (g : Games) (k : ℕ) (side : Side) → games script ≡ Ok g → IsReadAsSpelled file → (s : IsSaid g file k side) → SectionAccepts g.sort s.problem side s.claim → Accepts script file k side
accepts_so script file g k side asked spelled s a = record {
  asked = g;
  script_asks = asked;
  sections = s.sections;
  file_spells = spelled s.sections s.read_so;
  one_each = s.one_each;
  problem = s.problem;
  its_game = s.its_problem;
  claim = s.claim;
  its_section = s.its_section;
  proved = a;
}

sat_so : (script file : List ℕ) (g : Games) (k : ℕ) → AsksFor script g → IsReadAsSpelled file → IsSaid g file k Exists → IsTrueAt script k × Accepts script file k Exists
sat_so script file g k asks spelled s =
    let p = asks.same k s.problem s.its_problem in
    ((p.0, p.1, p.2.1 s.wins.1), accepts_so script file g k Exists asks.asked spelled s s.wins.0)

unsat_so : (script file : List ℕ) (g : Games) (k : ℕ) → AsksFor script g → IsReadAsSpelled file → IsSaid g file k Forall → IsFalseAt script k × Accepts script file k Forall
unsat_so script file g k asks spelled s =
    let p = asks.same k s.problem s.its_problem in
    ((p.0, p.1, λ t. s.wins.1 (p.2.0 t)), accepts_so script file g k Forall asks.asked spelled s s.wins.0)

-- ---- what is accepted has its line

one_game : (x y : Games) (r : Result Games ScriptFault) → r ≡ Ok x → r ≡ Ok y → x ≡ y
one_game x y r a b = cc

-- section k of lists that are the same but for their lines
record IsAlso (xs : List Section) (k : ℕ) (y : Section) : Type 0 where
  claim : Section
  its_section : slice_get xs k ≡ Some claim
  same : without_line claim ≡ without_line y

also_at : (xs ys : List Section) (k : ℕ) (y : Section) → map without_line xs ≡ map without_line ys → slice_get ys k ≡ Some y → IsAlso xs k y
also_at [] [] k y e h = absurd (cc)
also_at [] (z ∷ ys) k y e h = absurd (cc)
also_at (x ∷ xs) [] k y e h = absurd (cc)
also_at (x ∷ xs) (z ∷ ys) zero y e h =
    let q : z ≡ y = cc in
    let p : without_line x ≡ without_line z = cc in
    record { claim = x; its_section = refl; same = p ∙ ap without_line q }
also_at (x ∷ xs) (z ∷ ys) (suc k) y e h =
    let p : map without_line xs ≡ map without_line ys = cc in
    let r = also_at xs ys k y p h in
    record { claim = r.claim; its_section = r.its_section; same = r.same }

as_many : (xs ys : List Section) → map without_line xs ≡ map without_line ys → length ys ≡ length xs
as_many xs ys e = sym (length-map ys without_line) ∙ ap length (sym e) ∙ length-map xs without_line

line_said : (g : Games) (file : List ℕ) (xs : Sections) (k : ℕ) (P : Problem) (x : Section) (side : Side) → reading file ≡ Ok xs → length g.problems ≡ length xs.list →
    slice_get g.problems k ≡ Some P → slice_get xs.list k ≡ Some x → verdict g.sort P x ≡ Accepted side → line_at (printed_for g file).text k ≡ Some (accepted side)
line_said g file xs k P x side er n eP ex v =
    ap (λ (t : List ℕ). line_at t k) (text_is g file ∙ ap (λ (r : Result Sections Place). (judged_of g r).text) er ∙ whole_text g xs.list n)
    ∙ line_for g.sort g.problems xs.list k P x eP ex ∙ ap (λ (c : Checked). Some (verdict_words c)) v

printed_in : (script file : List ℕ) (g : Games) (k : ℕ) (side : Side) (sections : Sections) (P : Problem) (y : Section) → AllWin g file → ReadsSpelled file →
    length g.problems ≡ length sections.list → slice_get g.problems k ≡ Some P → slice_get sections.list k ≡ Some y → SectionAccepts g.sort P side y → (xs : Sections) → reading file ≡ Ok xs →
    map without_line xs.list ≡ map without_line sections.list → line_at (printed_for g file).text k ≡ Some (accepted side)
printed_in script file g k side sections P y all reads n eP ey a xs er e =
    let m = n ∙ as_many xs.list sections.list e in
    let also = also_at xs.list sections.list k y e ey in
    let w = each_at g.sort g.problems xs.list k P also.claim (all xs er m) eP also.its_section in
    let v = wins_accepted g.sort P also.claim (verdict g.sort P also.claim) side w (accepts_elsewhere g.sort P side also.claim y also.same a) in
    line_said g file xs k P also.claim side er m eP also.its_section v

printed_so : (script file : List ℕ) (g : Games) (k : ℕ) (side : Side) → games script ≡ Ok g → AllWin g file → ReadsSpelled file → Accepts script file k side →
    line_at (printed_for g file).text k ≡ Some (accepted side)
printed_so script file g k side asked all reads a =
    let same : a.asked ≡ g = one_game a.asked g (games script) a.script_asks asked in
    let r = reads a.sections a.file_spells in
    printed_in script file g k side a.sections a.problem a.claim all reads
    (subst (λ (q : Games). length q.problems ≡ length a.sections.list) same a.one_each)
    (subst (λ (q : Games). slice_get q.problems k ≡ Some a.problem) same a.its_game)
    a.its_section
    (subst (λ (q : Games). SectionAccepts q.sort a.problem side a.claim) same a.proved)
    r.0 r.1 (ap (λ (xs : Sections). xs.list) r.2)

-- ---- answers

worth_so : (script file : List ℕ) (g : Games) → AsksFor script g → AllWin g file → IsReadAsSpelled file → ReadsSpelled file → IsWorth script file (printed_for g file).text
worth_so script file g asks all spelled reads = record {
  sat = λ k e. sat_so script file g k asks spelled (said_at g file k Exists all e);
  unsat = λ k e. unsat_so script file g k asks spelled (said_at g file k Forall all e);
  printed = λ k side a. printed_so script file g k side asks.asked all reads a;
}

pub answers_given : (told : Option Files) (name file : List ℕ) (g : Games) (a : Answer) → Tells told name file → a ≡ printed_for g file → AllWin g file → IsReadAsSpelled file → ReadsSpelled file →
    AnswersGiven told name g a
answers_given told name file g a t e all spelled reads script asks =
    subst (λ (r : Result Games ScriptFault). AnswersGames told script name r a) (sym asks.asked)
    (file, t, e, spelled, subst (λ (b : Answer). IsWorth script file b.text) (sym e) (worth_so script file g asks all spelled reads))

-- a refused script says nothing of any file
pub refused_worth : (script file : List ℕ) (f : ScriptFault) → games script ≡ Err f → IsWorth script file (refusal_text f)
refused_worth script file f e = record {
  sat = λ k h. let r = refused_line f k (codes "accepted sat") h in absurd (re_is_other (codes "fused " ++ r.0) Exists r.1);
  unsat = λ k h. let r = refused_line f k (codes "accepted unsat") h in absurd (re_is_other (codes "fused " ++ r.0) Forall r.1);
  printed = λ k side a. absurd (not_both a.asked f (games script) a.script_asks e);
}
  where
    not_both : (g : Games) (f : ScriptFault) (r : Result Games ScriptFault) → r ≡ Ok g → r ≡ Err f → ⊥
    not_both g f r a b = absurd (cc)
