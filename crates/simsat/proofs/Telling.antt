-- What was printed is worth what it says.
use Rattle.std.proofs.Common.{◌≡◌, ◌≢◌, ℕ, List, [], ◌∷◌, ◌++◌, take, map, append-nil, Bool, true, false, cond, Option, Some, None, Result, Ok, Err, inl, inr, codes, refl, ap, sym, ◌∙◌, subst}
use Rattle.std.specs.Prelude.{◌⊎◌, slice_get}
use Rattle.std.specs.Option.{option_map}
use Rattle.std.specs.Str.{bytes_eq}
use Rattle.std.proofs.lemmas.List.{append_cancel_left}
use Rattle.std.proofs.lemmas.Option.{slice_get-map}
use Rattle.std.proofs.lemmas.Slice.Eq.{bytes_eq-Decides}
use Rattle.ss_names.specs.declared.ScriptFault.{ScriptFault}
use Rattle.ss_shelf.specs.Outside.{Files, Appends, AppendsPart}
use Rattle.dom_core.specs.declared.Side.{Side}
use Rattle.dom_core.specs.declared.Side.TheVariants.{Exists, Forall}
use Rattle.lin_term.specs.declared.Sort.{Sort}
use Rattle.dom_core.specs.Game.{Problem}
use Rattle.strat_words.specs.Spelled.{natural, signed}
use Rattle.script_games.specs.Games.{Games, games as games_of}
use Rattle.script_games.specs.Acceptance.{Accepts}
use Rattle.script_games.specs.Headline.{IsTrueAt, IsFalseAt, IsTrue, text_lines}
use Rattle.script_games.proofs.Lines.{is_plain, plain_append}
use Rattle.game_board.specs.declared.Why.{Why}
use Rattle.game_board.specs.declared.Why.TheVariants as why
use Rattle.game_board.specs.Entries.{wideness_of, number_of}
use Rattle.team_work.specs.declared.Verdict.{Verdict}
use Rattle.team_work.specs.declared.Verdict.TheVariants as verdict
use Rattle.team_work.specs.Outcome.{IsRight}
use Rattle.solve_words.specs.Words.{Word, Asking, solve}
use Rattle.solve_texts.specs.declared.Solved.{Solved}
use Rattle.solve_texts.specs.declared.Solved.TheVariants as solved
use Rattle.solve_texts.specs.Texts.{side_word, cause, verdict_lines, goal_lines, lines, strategy_text}
use Rattle.solve_texts.specs.Generated.{verdict_word}
use Rattle.simsat.specs.declared.status.SolveStatus.{SolveStatus}
use Rattle.simsat.specs.declared.status.SolveStatus.TheVariants as status
use Rattle.simsat.specs.Solved.{IsSolved, AcceptsVerdict, AcceptsSolved, AllSolved}
use Rattle.simsat.specs.Answer.{Answer, Answers, AnswersGames, stores_by}
use Rattle.simsat.specs.Effects.{HasStored, NoName, with_file, stored_in, Whole}
use Rattle.simsat.specs.Plan.{Fits}
use Rattle.simsat.specs.Run.{Run, Ends, Gave}
use Rattle.simsat.specs.Headline.{verdicts_among, verdict_at, IsTold, IsAcceptedIn, SatIsTrue, UnsatIsFalse}
use Rattle.simsat.proofs.Outcomes.{same_some}
use Rattle.simsat.proofs.Verdicts.{plain_natural, plain_signed, after_verdict, after_unknown, verdict_of_whole, refused_verdict, not_sat, not_unsat}

-- ---- the verdicts of the lines of outcomes

abbrev word_of : Solved → List ℕ
word_of (solved.Rat o) = verdict_word o.verdict
word_of (solved.Int o) = verdict_word o.verdict

plain_side : (side : Side) → is_plain (side_word side) ≡ true
plain_side Exists = refl
plain_side Forall = refl

-- a cause is a line that begins with `;`
cause_line : {D : Type 0} (y : Why D) → (rest : List ℕ) × (cause y ≡ 59 ∷ rest) × (is_plain (cause y) ≡ true)
cause_line {D} (why.Coefficient n) =
    let tail = side_word n.side ++ (natural n.version ++ signed (number_of (wideness_of n.why))) in (
      codes " coefficient" ++ tail,
      refl,
      plain_append (codes "; coefficient") tail refl
          (plain_append (side_word n.side) (natural n.version ++ signed (number_of (wideness_of n.why))) (plain_side n.side)
          (plain_append (natural n.version) (signed (number_of (wideness_of n.why))) (plain_natural n.version) (plain_signed (number_of (wideness_of n.why))))),
    )
cause_line {D} (why.Rounds n) = (codes " rounds" ++ natural n, refl, plain_append (codes "; rounds") (natural n) refl (plain_natural n))
cause_line {D} (why.Nodes n) = (codes " nodes" ++ natural n, refl, plain_append (codes "; nodes") (natural n) refl (plain_natural n))

verdict_first : {D : Type 0} (v : Verdict D) (rest : List ℕ) → verdicts_among (text_lines (verdict_lines v ++ rest)) ≡ verdict_word v ∷ verdicts_among (text_lines rest)
verdict_first {D} (verdict.Sat w) rest = after_verdict (codes "sat") rest refl
verdict_first {D} (verdict.Unsat w) rest = after_verdict (codes "unsat") rest refl
verdict_first {D} (verdict.Unknown y) rest =
    let c = cause_line y in
    ap (λ (t : List ℕ). verdicts_among (text_lines (((codes "unknown" ++ 10 ∷ []) ++ (t ++ 10 ∷ [])) ++ rest))) c.1
    ∙ after_unknown (codes "unknown") c.0 rest refl (sym (ap is_plain c.1) ∙ c.2)

goal_first : (o : Solved) (rest : List ℕ) → verdicts_among (text_lines (goal_lines o ++ rest)) ≡ word_of o ∷ verdicts_among (text_lines rest)
goal_first (solved.Rat o) rest = verdict_first o.verdict rest
goal_first (solved.Int o) rest = verdict_first o.verdict rest

verdicts_of : (os : List Solved) → verdicts_among (text_lines (lines os)) ≡ map word_of os
verdicts_of [] = refl
verdicts_of (o ∷ os) = goal_first o (lines os) ∙ ap (λ (vs : List (List ℕ)). word_of o ∷ vs) (verdicts_of os)

-- the outcome of a verdict
outcome_said : (os : List Solved) (k : ℕ) (l : List ℕ) → verdict_at (lines os) k ≡ Some l → (o : Solved) × (slice_get os k ≡ Some o) × (word_of o ≡ l)
outcome_said os k l e = by (slice_get os k) refl (sym (slice_get-map word_of os k) ∙ sym (ap (λ (vs : List (List ℕ)). slice_get vs k) (verdicts_of os)) ∙ e)
  where
    by : (x : Option Solved) → slice_get os k ≡ x → option_map word_of (slice_get os k) ≡ Some l → (o : Solved) × (slice_get os k ≡ Some o) × (word_of o ≡ l)
    by None q h = let z : option_map word_of None ≡ Some l = sym (ap (option_map word_of) q) ∙ h in absurd (cc)
    by (Some o) q h = (o, q, same_some (word_of o) l (sym (ap (option_map word_of) q) ∙ h))

-- ---- what a verdict is worth

sat_right : {D : Type 0} (Truth : Type 0) (v : Verdict D) → verdict_word v ≡ codes "sat" → IsRight Truth v → Truth
sat_right {D} Truth (verdict.Sat w) e h = h
sat_right {D} Truth (verdict.Unsat w) e h = absurd (cc)
sat_right {D} Truth (verdict.Unknown y) e h = absurd (cc)

unsat_right : {D : Type 0} (Truth : Type 0) (v : Verdict D) → verdict_word v ≡ codes "unsat" → IsRight Truth v → ¬ Truth
unsat_right {D} Truth (verdict.Sat w) e h = absurd (cc)
unsat_right {D} Truth (verdict.Unsat w) e h = h
unsat_right {D} Truth (verdict.Unknown y) e h = absurd (cc)

sat_true : (B : ℕ) (s : Sort) (P : Problem) (Truth : Type 0) (o : Solved) → word_of o ≡ codes "sat" → IsSolved B s P Truth o → Truth
sat_true B s P Truth (solved.Rat o) e h = sat_right Truth o.verdict e h.2
sat_true B s P Truth (solved.Int o) e h = sat_right Truth o.verdict e h.2

unsat_false : (B : ℕ) (s : Sort) (P : Problem) (Truth : Type 0) (o : Solved) → word_of o ≡ codes "unsat" → IsSolved B s P Truth o → ¬ Truth
unsat_false B s P Truth (solved.Rat o) e h = unsat_right Truth o.verdict e h.2
unsat_false B s P Truth (solved.Int o) e h = unsat_right Truth o.verdict e h.2

sat_verdict : {D : Type 0} (script file : List ℕ) (k : ℕ) (v : Verdict D) → verdict_word v ≡ codes "sat" → AcceptsVerdict script file k v → Accepts script file k Exists
sat_verdict {D} script file k (verdict.Sat w) e h = h
sat_verdict {D} script file k (verdict.Unsat w) e h = absurd (cc)
sat_verdict {D} script file k (verdict.Unknown y) e h = absurd (cc)

unsat_verdict : {D : Type 0} (script file : List ℕ) (k : ℕ) (v : Verdict D) → verdict_word v ≡ codes "unsat" → AcceptsVerdict script file k v → Accepts script file k Forall
unsat_verdict {D} script file k (verdict.Sat w) e h = absurd (cc)
unsat_verdict {D} script file k (verdict.Unsat w) e h = h
unsat_verdict {D} script file k (verdict.Unknown y) e h = absurd (cc)

sat_accepted : (script file : List ℕ) (k : ℕ) (o : Solved) → word_of o ≡ codes "sat" → AcceptsSolved script file k o → Accepts script file k Exists
sat_accepted script file k (solved.Rat o) e h = sat_verdict script file k o.verdict e h
sat_accepted script file k (solved.Int o) e h = sat_verdict script file k o.verdict e h

unsat_accepted : (script file : List ℕ) (k : ℕ) (o : Solved) → word_of o ≡ codes "unsat" → AcceptsSolved script file k o → Accepts script file k Forall
unsat_accepted script file k (solved.Rat o) e h = unsat_verdict script file k o.verdict e h
unsat_accepted script file k (solved.Int o) e h = unsat_verdict script file k o.verdict e h

-- ---- the stored strategy

at_name : (b : Bool) (x : List ℕ) (rest : Option (List ℕ)) → b ≡ true → cond b (Some x) rest ≡ Some x
at_name true x rest e = refl
at_name false x rest e = absurd (cc)

past_name : (b : Bool) (x : List ℕ) (rest : Option (List ℕ)) → (b ≡ true → ⊥) → cond b (Some x) rest ≡ rest
past_name true x rest e = absurd (e refl)
past_name false x rest e = refl

strategy_in : (files : Files) (strategy : Word) (journal : Option Word) (g : Games) (os : List Solved) → ((j : Word) → journal ≡ Some j → j ≢ strategy) → stored_in files (stores_by strategy journal g os) strategy ≡ Some (strategy_text os)
strategy_in files strategy None g os h = at_name (bytes_eq strategy strategy) (strategy_text os) (files strategy) ((bytes_eq-Decides strategy strategy).1 refl)
strategy_in files strategy (Some j) g os h =
    past_name (bytes_eq j strategy) _ (with_file files (strategy, strategy_text os) strategy) (λ e. h j refl ((bytes_eq-Decides j strategy).0 e))
    ∙ at_name (bytes_eq strategy strategy) (strategy_text os) (files strategy) ((bytes_eq-Decides strategy strategy).1 refl)

-- ---- an answer whose files were stored

-- a verdict of what was printed is one of an answer that was stored
Heard : (r : Run) → IsTold r → Type 0
Heard r t = (k : ℕ) (l : List ℕ) → verdict_at t.text k ≡ Some l → (a : Answer) × Answers r.left.files r.asking a × (verdict_at a.text k ≡ Some l) × HasStored r.left.files r.left.files_after a.stores NoName

-- an answer with games
record OfGames (r : Run) (t : IsTold r) (l : List ℕ) (k : ℕ) : Type 0 where
  games : Games
  outcomes : List Solved
  all : AllSolved t.script games t.names.rounds outcomes
  outcome : Solved
  its_outcome : slice_get outcomes k ≡ Some outcome
  said : word_of outcome ≡ l
  file : t.after t.names.strategy ≡ Some (strategy_text outcomes)

stored_there : (told after : Option Files) (files files' : Files) (xs : List (Word × List ℕ)) → told ≡ Some files → after ≡ Some files' → HasStored told after xs NoName → (name : Word) → files' name ≡ stored_in files xs name
stored_there told after files files' xs e q h name =
    let h' : HasStored (Some files) after xs NoName = subst (λ (x : Option Files). HasStored x after xs NoName) e h in
    let h'' : HasStored (Some files) (Some files') xs NoName = subst (λ (x : Option Files). HasStored (Some files) x xs NoName) q h' in h'' name (λ x. x)

of_answer : (r : Run) (t : IsTold r) → ((j : Word) → t.names.journal ≡ Some j → j ≢ t.names.strategy) → (k : ℕ) (l : List ℕ) (a : Answer) → AnswersGames t.names t.script (games_of t.script) a → verdict_at a.text k ≡ Some l →
    HasStored r.left.files r.left.files_after a.stores NoName → OfGames r t l k ⊎ ((rest : List ℕ) × (l ≡ codes "refused " ++ rest))
of_answer r t differs k l a answers e stored = by (games_of t.script) answers
  where
    by : (q : Result Games ScriptFault) → AnswersGames t.names t.script q a → OfGames r t l k ⊎ ((rest : List ℕ) × (l ≡ codes "refused " ++ rest))
    by (Err f) h = inr (refused_verdict f k l (sym (ap (λ (x : Answer). verdict_at x.text k) h) ∙ e))
    by (Ok g) (os, all, is) =
        let o = outcome_said os k l (sym (ap (λ (x : Answer). verdict_at x.text k) is) ∙ e) in inl (record {
          games = g;
          outcomes = os;
          all = all;
          outcome = o.0;
          its_outcome = o.1;
          said = o.2;
          file =
              stored_there r.left.files r.left.files_after t.files t.after a.stores t.files_told t.after_told stored t.names.strategy
              ∙ ap (λ (x : Answer). stored_in t.files x.stores t.names.strategy) is ∙ strategy_in t.files t.names.strategy t.names.journal g os differs;
        })

-- the answer that was heard is one over the script that is told
of_heard : (r : Run) (t : IsTold r) → ((j : Word) → t.names.journal ≡ Some j → j ≢ t.names.strategy) → Heard r t → (k : ℕ) (l : List ℕ) → verdict_at t.text k ≡ Some l → OfGames r t l k ⊎ ((rest : List ℕ) × (l ≡ codes "refused " ++ rest))
unfolding Heard
of_heard r t differs heard k l e =
    let (a, right, said, stored) = heard k l e in
    let right' = subst (λ (f : Option Files). Answers f (Some (solve t.names)) a) t.files_told (subst (λ (x : Option Asking). Answers r.left.files x a) t.asked right) in
    let same : right'.0 ≡ t.script = same_some right'.0 t.script (sym right'.1 ∙ t.script_there) in
    of_answer r t differs k l a (subst (λ (b : List ℕ). AnswersGames t.names b (games_of b) a) same right'.2) said stored

sat_of_games : (r : Run) (t : IsTold r) (k : ℕ) → OfGames r t (codes "sat") k → IsTrueAt t.script k × IsAcceptedIn t.after t.names.strategy t.script k Exists
sat_of_games r t k w =
    let at = w.all.first.each k w.outcome w.its_outcome in
    let file = strategy_text w.outcomes in (
      (at.goal, at.its_goal, sat_true t.names.rounds w.games.sort at.problem (IsTrue at.goal) w.outcome w.said at.solved),
      (file, w.file, sat_accepted t.script file k w.outcome w.said (w.all.first.accepted w.all.all file w.all.spelled k w.outcome w.its_outcome)),
    )

unsat_of_games : (r : Run) (t : IsTold r) (k : ℕ) → OfGames r t (codes "unsat") k → IsFalseAt t.script k × IsAcceptedIn t.after t.names.strategy t.script k Forall
unsat_of_games r t k w =
    let at = w.all.first.each k w.outcome w.its_outcome in
    let file = strategy_text w.outcomes in (
      (at.goal, at.its_goal, unsat_false t.names.rounds w.games.sort at.problem (IsTrue at.goal) w.outcome w.said at.solved),
      (file, w.file, unsat_accepted t.script file k w.outcome w.said (w.all.first.accepted w.all.all file w.all.spelled k w.outcome w.its_outcome)),
    )

sat_either : (r : Run) (t : IsTold r) (k : ℕ) → OfGames r t (codes "sat") k ⊎ ((rest : List ℕ) × (codes "sat" ≡ codes "refused " ++ rest)) → IsTrueAt t.script k × IsAcceptedIn t.after t.names.strategy t.script k Exists
sat_either r t k (inl w) = sat_of_games r t k w
sat_either r t k (inr (rest, e)) = absurd (not_sat (codes "sat") rest e refl)

unsat_either : (r : Run) (t : IsTold r) (k : ℕ) → OfGames r t (codes "unsat") k ⊎ ((rest : List ℕ) × (codes "unsat" ≡ codes "refused " ++ rest)) → IsFalseAt t.script k × IsAcceptedIn t.after t.names.strategy t.script k Forall
unsat_either r t k (inl w) = unsat_of_games r t k w
unsat_either r t k (inr (rest, e)) = absurd (not_unsat (codes "unsat") rest e refl)

-- ---- what each end wrote

whole_text : (r : Run) (t : IsTold r) (a : List ℕ) → Appends r.left.written r.left.written_after a → t.text ≡ a
whole_text r t a w =
    let e : r.left.written_after ≡ Some (t.old ++ a) = subst (λ (b : Option (List ℕ)). Appends b r.left.written_after a) t.old_told w in
    append_cancel_left t.old t.text a (same_some (t.old ++ t.text) (t.old ++ a) (sym t.text_told ∙ e))

part_text : (r : Run) (t : IsTold r) (a : List ℕ) → AppendsPart r.left.written r.left.written_after a → (n : ℕ) × (t.text ≡ take n a)
part_text r t a w =
    let p = subst (λ (b : Option (List ℕ)). AppendsPart b r.left.written_after a) t.old_told w in
    (p.0, append_cancel_left t.old t.text (take p.0 a) (same_some (t.old ++ t.text) (t.old ++ take p.0 a) (sym t.text_told ∙ p.1)))

no_text : (r : Run) (t : IsTold r) → r.left.written_after ≡ r.left.written → t.text ≡ []
no_text r t e =
    append_cancel_left t.old t.text [] (same_some (t.old ++ t.text) (t.old ++ []) (sym t.text_told ∙ e ∙ t.old_told ∙ ap (λ (x : List ℕ). let o : Option (List ℕ) = Some x in o) (sym (append-nil t.old))))

none_heard : (r : Run) (t : IsTold r) → r.left.written_after ≡ r.left.written → Heard r t
unfolding Heard
none_heard r t same k l e = let z : verdict_at [] k ≡ Some l = sym (ap (λ (x : List ℕ). verdict_at x k) (no_text r t same)) ∙ e in absurd (cc)

whole_heard : (r : Run) (t : IsTold r) (a : Answer) → Answers r.left.files r.asking a → Whole a r.left → Heard r t
unfolding Heard
whole_heard r t a right w k l e = (a, right, sym (ap (λ (x : List ℕ). verdict_at x k) (whole_text r t a.text w.written)) ∙ e, w.files)

part_heard : (r : Run) (t : IsTold r) (a : Answer) → Answers r.left.files r.asking a → HasStored r.left.files r.left.files_after a.stores NoName → AppendsPart r.left.written r.left.written_after a.text → Heard r t
unfolding Heard
part_heard r t a right stored w k l e =
    let p = part_text r t a.text w in
    (a, right, verdict_of_whole p.0 a.text k l (sym (ap (λ (x : List ℕ). verdict_at x k) p.1) ∙ e), stored)

some_heard : (r : Run) (t : IsTold r) (a : Answer) → Answers r.left.files r.asking a → (stored behind : List (Word × List ℕ)) → a.stores ≡ stored ++ behind → HasStored r.left.files r.left.files_after stored NoName →
    (r.left.written_after ≡ r.left.written) ⊎ ((behind ≡ []) × AppendsPart r.left.written r.left.written_after a.text) → Heard r t
some_heard r t a right stored behind e files (inl same) = none_heard r t same
some_heard r t a right stored behind e files (inr (none, w)) =
    let all : a.stores ≡ stored = e ∙ ap (λ (xs : List (Word × List ℕ)). stored ++ xs) none ∙ append-nil stored in
    part_heard r t a right (subst (λ (xs : List (Word × List ℕ)). HasStored r.left.files r.left.files_after xs NoName) (sym all) files) w

gave_heard : (r : Run) (t : IsTold r) (result : SolveStatus) → Gave r result → Heard r t
gave_heard r t status.Done g = whole_heard r t g.answer g.right g.published.1
gave_heard r t status.Usage g = whole_heard r t g.answer g.right g.published.1
gave_heard r t status.Refused g = whole_heard r t g.answer g.right g.published.1
gave_heard r t status.ReadFault g = absurd g.published
gave_heard r t status.StoreFault g = none_heard r t g.published.written
gave_heard r t status.PrintFault g = part_heard r t g.answer g.right g.published.files g.published.written
gave_heard r t status.Memory g = some_heard r t g.answer g.right g.published.stored g.published.behind g.published.stores g.published.files g.published.written

ends_heard : (r : Run) (t : IsTold r) (result : SolveStatus) → Ends r result → Heard r t
ends_heard r t status.Done e = gave_heard r t status.Done e
ends_heard r t status.Usage e = gave_heard r t status.Usage e
ends_heard r t status.Refused e = gave_heard r t status.Refused e
ends_heard r t status.ReadFault e = none_heard r t e.left.written
ends_heard r t status.StoreFault e = gave_heard r t status.StoreFault e
ends_heard r t status.PrintFault e = gave_heard r t status.PrintFault e
ends_heard r t status.Memory (inl h) = none_heard r t h.left.written
ends_heard r t status.Memory (inr g) = gave_heard r t status.Memory g

-- ---- the sentences

fits_told : (r : Run) (t : IsTold r) → ((a : Asking) → r.asking ≡ Some a → Fits a) → (j : Word) → t.names.journal ≡ Some j → j ≢ t.names.strategy
fits_told r t fits = (fits (solve t.names) t.asked).1

pub sat_told : (r : Run) (result : SolveStatus) → ((a : Asking) → r.asking ≡ Some a → Fits a) → Ends r result → SatIsTrue r
sat_told r result fits e t k l = sat_either r t k (of_heard r t (fits_told r t fits) (ends_heard r t result e) k (codes "sat") l)

pub unsat_told : (r : Run) (result : SolveStatus) → ((a : Asking) → r.asking ≡ Some a → Fits a) → Ends r result → UnsatIsFalse r
unsat_told r result fits e t k l = unsat_either r t k (of_heard r t (fits_told r t fits) (ends_heard r t result e) k (codes "unsat") l)
