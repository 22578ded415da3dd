-- What the answer's relation says over files that are told, of Usage, and of what was written.
use Rattle.std.proofs.Common.{◌≡◌, ◌≢◌, ℕ, List, [], ◌++◌, take, append-nil, inl, inr, Option, Some, None, Result, Ok, Err, Bool, true, false, if◌then◌else◌, length, nat_eq, codes, refl, ap, sym, ◌∙◌, subst}
use Rattle.std.specs.Prelude.{IfOk, ◌⊎◌}
use Rattle.std.proofs.lemmas.List.{append_cancel_left}
use Rattle.ss_names.specs.declared.ScriptFault.{ScriptFault}
use Rattle.strat_words.specs.Spot.{Place}
use Rattle.strat_text.specs.Sections.{Sections}
use Rattle.strat_text.specs.File.{reading}
use Rattle.ss_shelf.specs.Outside.{Files, Appends, AppendsPart}
use Rattle.dom_core.specs.declared.Side.{Side}
use Rattle.dom_core.specs.declared.Side.TheVariants.{Exists, Forall}
use Rattle.script_games.specs.Games.{Games, games}
use Rattle.script_games.specs.Headline.{line_at, accepted, SatIsTrue, UnsatIsFalse, OthersClaimNothing, AcceptedIsPrinted, IsWorth}
use Rattle.script_games.proofs.Lines.{line_of_whole}
use Rattle.simcheck.specs.declared.status.CheckStatus.{CheckStatus}
use Rattle.simcheck.specs.declared.status.CheckStatus.TheVariants.{Usage, Rejected, Accepted, Refused, ReadFault, PrintFault, Memory}
use Rattle.simcheck.specs.declared.report.Report.{Report}
use Rattle.simcheck.specs.declared.run.Stop.{Stop}
use Rattle.simcheck.specs.Words.{Names}
use Rattle.simcheck.specs.Verdicts.{Answer, printed_for, judged_of, status_of}
use Rattle.simcheck.specs.Answer.{Answers, AnswersGames, answer, answer_script, answer_games, answer_of, IsAnswer, IsOver, Said, SaidPart, UsageOnlyFor}
use Rattle.simcheck.specs.Told.{IsTold, WhereTold}
use Rattle.simcheck.proofs.Heading.{refused_worth}

from_games : (files : Files) → (script file : List ℕ) → (g : Result Games ScriptFault) → (a : Answer) →
    AnswersGames (Some files) script file g a → answer_games g (files file) ≡ Some a
from_games files script file (Err fault) a e = ap Some (sym e)
from_games files script file (Ok g) a (bytes, there, e, spelled, worth) = ap (answer_games (Ok g)) there ∙ ap Some (sym e)

from_names : (files : Files) → (names : Option Names) → (a : Answer) → Answers (Some files) names a → answer names files ≡ Some a
from_names files None a e = ap Some (sym e)
from_names files (Some names) a (script, there, rest) = ap (λ o. answer_script o (files names.file)) there ∙ from_games files script names.file (games script) a rest

pub is_over : (told : Option Files) → (names : Option Names) → (a : Answer) → Answers told names a → IsOver told names a
is_over None names a h = record {}
is_over (Some files) names a h = from_names files names a h

-- ---- Usage

status_of-not_usage : (b : Bool) → status_of b ≢ Usage
status_of-not_usage true h = absurd (cc)
status_of-not_usage false h = absurd (cc)

checked-not_usage : (b : Bool) → (x y : List ℕ) → (d : Bool) → (if◌then◌else◌ {A = Answer} b (record { status = status_of d; text = x }) (record { status = Rejected; text = y })).status ≢ Usage
checked-not_usage true x y d h = status_of-not_usage d h
checked-not_usage false x y d h = absurd (cc)

judged_of-not_usage : (g : Games) → (xs : Result Sections Place) → (judged_of g xs).status ≢ Usage
judged_of-not_usage g (Err place) h = absurd (cc)
judged_of-not_usage g (Ok xs) h = checked-not_usage (nat_eq (length g.problems) (length xs.list)) _ _ _ h

judged-not_usage : (g : Games) → (file : List ℕ) → (printed_for g file).status ≢ Usage
unfolding printed_for
judged-not_usage g file h = judged_of-not_usage g (reading file) h

games-not_usage : (told : Option Files) → (script file : List ℕ) → (g : Result Games ScriptFault) → (a : Answer) → AnswersGames told script file g a → a.status ≢ Usage
games-not_usage told script file (Err fault) a e h = let u : Refused ≡ Usage = sym (ap (λ (x : Answer). x.status) e) ∙ h in absurd (cc)
games-not_usage told script file (Ok g) a (bytes, there, e, spelled, worth) h = judged-not_usage g bytes (sym (ap (λ (x : Answer). x.status) e) ∙ h)

pub usage_only : (told : Option Files) → (names : Option Names) → (a : Answer) → Answers told names a → (result : CheckStatus) → result ≡ a.status → UsageOnlyFor names result
usage_only told None a h result e = e ∙ ap (λ (x : Answer). x.status) h
usage_only told (Some names) a (script, there, rest) result e = λ h. games-not_usage told script names.file (games script) a rest (sym e ∙ h)

pub usage_after : (told : Option Files) → (names : Option Names) → (result : Result Report Stop) → IfOk result (λ r. Answers told names (answer_of r)) → IfOk result (λ r. UsageOnlyFor names r.status)
usage_after told names (Ok r) h = usage_only told names (answer_of r) h r.status refl
usage_after told names (Err e) h = record {}

-- ---- what was written, where files and output are told

abbrev from_some : {A : Type 0} → A → Option A → A
from_some {A} d None = d
from_some {A} d (Some x) = x

some_one : {A : Type 0} (x y : A) (o : Option A) → o ≡ Some x → o ≡ Some y → x ≡ y
some_one {A} x y o e h = sym (ap (from_some x) e) ∙ ap (from_some x) h

worth_games : (files : Files) (script name file : List ℕ) (a : Answer) (r : Result Games ScriptFault) → games script ≡ r → AnswersGames (Some files) script name r a → files name ≡ Some file →
    IsWorth script file a.text
worth_games files script name file a (Err f) e h there = subst (λ (b : Answer). IsWorth script file b.text) (sym h) (refused_worth script file f e)
worth_games files script name file a (Ok g) e (bytes, fetched, h, spelled, worth) there = subst (λ (b : List ℕ). IsWorth script b a.text) (some_one bytes file (files name) fetched there) worth

worth_told : (files : Files) (names : Names) (script file : List ℕ) (a : Answer) → Answers (Some files) (Some names) a → files names.script ≡ Some script → files names.file ≡ Some file →
    IsWorth script file a.text
worth_told files names script file a (bytes, fetched, rest) there file_there =
    worth_games files script names.file file a (games script) refl
    (subst (λ (b : List ℕ). AnswersGames (Some files) b names.file (games b) a) (some_one bytes script (files names.script) fetched there) rest) file_there

-- each line is one of a text that is worth what it says
abbrev pub Heard : List ℕ → List ℕ → List ℕ → Type 0
Heard script file text = (k : ℕ) (l : List ℕ) → line_at text k ≡ Some l → (whole : List ℕ) × IsWorth script file whole × (line_at whole k ≡ Some l)

-- the answer that was given is worth what it says for what is told
worth_of : (told : Option Files) (names : Option Names) (before now : Option (List ℕ)) (script file text : List ℕ) (a : Answer) → Answers told names a →
    IsTold told names before now script file text → IsWorth script file a.text
worth_of told names before now script file text a h t =
    worth_told t.files t.words script file a
    (subst (λ (n : Option Names). Answers (Some t.files) n a) t.words_named (subst (λ (f : Option Files). Answers f names a) t.files_told h)) t.script_there t.file_there

-- what was written is all of it
whole_heard : (told : Option Files) (names : Option Names) (before now : Option (List ℕ)) (a : Answer) → Answers told names a → Appends before now a.text → (script file text : List ℕ) →
    (t : IsTold told names before now script file text) → text ≡ a.text
whole_heard told names before now a h w script file text t =
    let e : now ≡ Some (t.old ++ a.text) = subst (λ (b : Option (List ℕ)). Appends b now a.text) t.old_told w in
    append_cancel_left t.old text a.text (some_one (t.old ++ text) (t.old ++ a.text) now t.written e)

said_heard : (told : Option Files) (names : Option Names) (before now : Option (List ℕ)) (a : Answer) → Answers told names a → Appends before now a.text → (script file text : List ℕ) →
    IsTold told names before now script file text → Heard script file text
said_heard told names before now a h w script file text t k l e =
    (a.text, worth_of told names before now script file text a h t, sym (ap (λ (x : List ℕ). line_at x k) (whole_heard told names before now a h w script file text t)) ∙ e)

part_heard : (told : Option Files) (names : Option Names) (before now : Option (List ℕ)) (a : Answer) → Answers told names a → AppendsPart before now a.text → (script file text : List ℕ) →
    IsTold told names before now script file text → Heard script file text
part_heard told names before now a h w script file text t k l e =
    let p = subst (λ (b : Option (List ℕ)). AppendsPart b now a.text) t.old_told w in
    let is : text ≡ take p.0 a.text = append_cancel_left t.old text (take p.0 a.text) (some_one (t.old ++ text) (t.old ++ take p.0 a.text) now t.written p.1) in
    (a.text, worth_of told names before now script file text a h t, line_of_whole p.0 a.text k l (sym (ap (λ (x : List ℕ). line_at x k) is) ∙ e))

nothing_heard : (told : Option Files) (names : Option Names) (before now : Option (List ℕ)) → now ≡ before → (script file text : List ℕ) → IsTold told names before now script file text → Heard script file text
nothing_heard told names before now same script file text t k l e =
    let is : text ≡ [] = append_cancel_left t.old text [] (some_one (t.old ++ text) (t.old ++ []) now t.written (same ∙ t.old_told ∙ ap (λ (x : List ℕ). let o : Option (List ℕ) = Some x in o) (sym (append-nil t.old)))) in
    let h : line_at [] k ≡ Some l = sym (ap (λ (x : List ℕ). line_at x k) is) ∙ e in
    absurd (cc)

either_heard : (told : Option Files) (names : Option Names) (before now : Option (List ℕ)) → (now ≡ before) ⊎ SaidPart told names before now → (script file text : List ℕ) →
    IsTold told names before now script file text → Heard script file text
either_heard told names before now (inl same) script file text t = nothing_heard told names before now same script file text t
either_heard told names before now (inr p) script file text t = part_heard told names before now p.given p.right p.printed script file text t

answer_heard : (told : Option Files) (names : Option Names) (before now : Option (List ℕ)) (result : CheckStatus) → Said told names before now result → (script file text : List ℕ) →
    IsTold told names before now script file text → Heard script file text
answer_heard told names before now result s script file text t = said_heard told names before now s.given s.right s.printed script file text t

-- what the clauses of a run say of its answer says it of each line that was written
pub run_heard : (told : Option Files) (names : Option Names) (before now : Option (List ℕ)) (result : CheckStatus) → (IsAnswer result → Said told names before now result) →
    (result ≡ ReadFault → now ≡ before) → (result ≡ PrintFault → SaidPart told names before now) → (result ≡ Memory → (now ≡ before) ⊎ SaidPart told names before now) →
    (script file text : List ℕ) → IsTold told names before now script file text → Heard script file text
run_heard told names before now Accepted answers nothing part memory script file text t = answer_heard told names before now Accepted (answers tt) script file text t
run_heard told names before now Rejected answers nothing part memory script file text t = answer_heard told names before now Rejected (answers tt) script file text t
run_heard told names before now Usage answers nothing part memory script file text t = answer_heard told names before now Usage (answers tt) script file text t
run_heard told names before now Refused answers nothing part memory script file text t = answer_heard told names before now Refused (answers tt) script file text t
run_heard told names before now ReadFault answers nothing part memory script file text t = nothing_heard told names before now (nothing refl) script file text t
run_heard told names before now PrintFault answers nothing part memory script file text t =
    let p = part refl in part_heard told names before now p.given p.right p.printed script file text t
run_heard told names before now Memory answers nothing part memory script file text t = either_heard told names before now (memory refl) script file text t

-- ---- the sentences

pub sat_heard : (script file text : List ℕ) → Heard script file text → SatIsTrue script file text
sat_heard script file text h k e = let w = h k (codes "accepted sat") e in w.1.sat k w.2

pub unsat_heard : (script file text : List ℕ) → Heard script file text → UnsatIsFalse script file text
unsat_heard script file text h k e = let w = h k (codes "accepted unsat") e in w.1.unsat k w.2

other_line : (line : List ℕ) (side : Side) → line ≢ codes "accepted sat" → line ≢ codes "accepted unsat" → line ≢ accepted side
other_line line Exists s u = s
other_line line Forall s u = u

pub others_heard : (script file text : List ℕ) → Heard script file text → OthersClaimNothing script file text
others_heard script file text h k line e s u side a =
    let w = h k line e in
    other_line line side s u (some_one line (accepted side) (line_at w.0 k) w.2 (w.1.printed k side a))

-- an answer that was given whole
pub accepted_heard : (told : Option Files) (names : Option Names) (before now : Option (List ℕ)) (result : CheckStatus) → Said told names before now result → WhereTold told names before now AcceptedIsPrinted
accepted_heard told names before now result s script file text t k side a =
    ap (λ (x : List ℕ). line_at x k) (whole_heard told names before now s.given s.right s.printed script file text t)
    ∙ (worth_of told names before now script file text s.given s.right t).printed k side a
