-- How a run ends that had a plan, or none.
use Rattle.std.proofs.Common.{◌≡◌, ℕ, ◌<◌, List, [], length, Option, Some, Result, Ok, Err, inl, inr, refl, ap, sym, ◌∙◌, subst, arith}
use Rattle.ss_shelf.specs.declared.CallKind.{CallKind}
use Rattle.ss_shelf.specs.declared.CallKind.TheVariants.{Fetch}
use Rattle.ss_shelf.specs.Outside.{Files, Counts, Tells}
use Rattle.script_games.specs.Told.{ReadCounted}
use Rattle.script_games.specs.Games.{Games, games as games_of}
use Rattle.solve_words.specs.Words.{Word, Names, Asking, solve}
use Rattle.solve_texts.specs.declared.Solved.{Solved}
use Rattle.simsat.specs.declared.status.SolveStatus.{SolveStatus}
use Rattle.simsat.specs.declared.status.SolveStatus.TheVariants as status
use Rattle.simsat.specs.declared.plan.Plan.{Plan}
use Rattle.simsat.specs.declared.plan.Halt.{Halt}
use Rattle.simsat.specs.declared.plan.Halt.TheVariants as halt
use Rattle.simsat.specs.Solved.{AllSolved}
use Rattle.simsat.specs.Answer.{Answer, Answers, AnswersGames, solved_answer}
use Rattle.simsat.specs.Effects.{Effects, HasStored, NoName, OneRose, Publishes}
use Rattle.simsat.specs.Plan.{answer_of, PlansWords, IsScriptOf}
use Rattle.simsat.specs.Run.{Run, run_of, IsBegun, Ends, IsFaultless, Completes}
use Rattle.simsat.proofs.Outcomes.{same_some}
use Rattle.simsat.proofs.Storage.{none_stored}

-- ---- a plan was ready

ends_by : (r : Run) (a : Answer) → Answers r.left.files r.asking a → r.outcomes ≡ a.outcomes → (result : SolveStatus) → Publishes a r.left result → Ends r result
ends_by r a right os status.Done p = record { answer = a; right = right; outcomes = os; published = p }
ends_by r a right os status.Usage p = record { answer = a; right = right; outcomes = os; published = p }
ends_by r a right os status.Refused p = record { answer = a; right = right; outcomes = os; published = p }
ends_by r a right os status.ReadFault p = absurd p
ends_by r a right os status.StoreFault p = record { answer = a; right = right; outcomes = os; published = p }
ends_by r a right os status.PrintFault p = record { answer = a; right = right; outcomes = os; published = p }
ends_by r a right os status.Memory p = inr (record { answer = a; right = right; outcomes = os; published = p })

pub ends_published : (asking : Option Asking) (files middle files' : Option Files) (counts counts1 counts' : Counts) (written written' : Option (List ℕ)) (faults faults' : ℕ) (p : Plan) (result : SolveStatus) →
    middle ≡ files → counts1 ≡ counts → Answers files asking (answer_of p) →
    Publishes (answer_of p) (record { files = middle; files_after = files'; counts = counts1; counts_after = counts'; written = written; written_after = written'; faults = faults; faults_after = faults' }) result →
    Ends (run_of asking p.outcomes.items files files' counts counts' written written' faults faults') result
ends_published asking files middle files' counts counts1 counts' written written' faults faults' p result f c right published =
    let eff : Option Files → Counts → Effects =
    (λ x y. record { files = x; files_after = files'; counts = y; counts_after = counts'; written = written; written_after = written'; faults = faults; faults_after = faults' }) in
    ends_by (run_of asking p.outcomes.items files files' counts counts' written written' faults faults') (answer_of p) right refl result
    (subst (λ (x : Option Files). Publishes (answer_of p) (eff x counts) result) f (subst (λ (y : Counts). Publishes (answer_of p) (eff middle y) result) c published))

-- ---- none was

left_all : (files files' : Option Files) (written : Option (List ℕ)) → files' ≡ files → HasStored files files' [] NoName
left_all files files' written e = subst (λ (x : Option Files). HasStored files x [] NoName) (sym e) (none_stored files)

one_rose : (asking : Option Asking) (names : Names) (counts counts' : Counts) (failed : Type 0) → asking ≡ Some (solve names) → failed → ReadCounted (IsScriptOf asking) counts counts' failed → OneRose Fetch names.script counts counts'
one_rose asking names counts counts' failed e f c =
    let c' : ReadCounted (IsScriptOf (Some (solve names))) counts counts' failed = subst (λ (a : Option Asking). ReadCounted (IsScriptOf a) counts counts' failed) e c in
    let r = c'.rose f in
    record { rose = subst (λ (n : List ℕ). counts Fetch n < counts' Fetch n) r.1 r.2; others = λ kind name not. c'.others kind name (λ k n. not k n) }

pub ends_unread : (asking : Option Asking) (files files' : Option Files) (counts counts' : Counts) (written : Option (List ℕ)) (faults : ℕ) (r : Result Plan Halt) → files' ≡ files → PlansWords files asking r → r ≡ Err halt.Unread →
    ReadCounted (IsScriptOf asking) counts counts' (r ≡ Err halt.Unread) → Ends (run_of asking [] files files' counts counts' written written faults faults) status.ReadFault
ends_unread asking files files' counts counts' written faults r e h unread c =
    let n = subst (λ (q : Result Plan Halt). PlansWords files asking q) unread h in record {
      names = n.0;
      asked = n.1;
      outcomes = refl;
      left = record { files = left_all files files' written e; written = refl };
      counts = one_rose asking n.0 counts counts' (r ≡ Err halt.Unread) n.1 unread c;
    }

pub ends_halted : (asking : Option Asking) (files files' : Option Files) (counts counts' : Counts) (written : Option (List ℕ)) (faults : ℕ) (r : Result Plan Halt) (os : List Solved) → files' ≡ files → IsBegun files asking os →
    (r ≡ Err halt.Unread → ⊥) → ReadCounted (IsScriptOf asking) counts counts' (r ≡ Err halt.Unread) → Ends (run_of asking os files files' counts counts' written written faults faults) status.Memory
ends_halted asking files files' counts counts' written faults r os e h read c = inl (record { begun = h; left = record { files = left_all files files' written e; written = refl }; counts = c.kept read })

-- ---- completeness

told_script : (told : Option Files) (files : Files) (name script bytes : List ℕ) → told ≡ Some files → files name ≡ Some bytes → Tells told name script → script ≡ bytes
told_script told files name script bytes e there h =
    let h' : files name ≡ Some script = subst (λ (t : Option Files). Tells t name script) e h in same_some script bytes (sym h' ∙ there)

-- the answer over a script with games
pub solved_so : (told : Option Files) (asking : Option Asking) (names : Names) (files : Files) (script : List ℕ) (g : Games) (a : Answer) → asking ≡ Some (solve names) → told ≡ Some files → files names.script ≡ Some script →
    games_of script ≡ Ok g → Answers told asking a → (os : List Solved) × AllSolved script g names.rounds os × (a ≡ solved_answer names g os)
solved_so told asking names files script g a asks e there is h =
    let h' = subst (λ (x : Option Asking). Answers told x a) asks h in
    let same = told_script told files names.script h'.0 script e there h'.1 in
    subst (λ q. AnswersGames names script q a) is (subst (λ (b : List ℕ). AnswersGames names b (games_of b) a) same h'.2)

rose_not : (kind : CallKind) (name : Word) (counts counts' : Counts) → counts' ≡ counts → OneRose kind name counts counts' → ⊥
rose_not kind name counts counts' e h =
    let s = ap (λ (c : Counts). c kind name) e in let r = h.rose in omega (arith, s, r)

done_so : (r : Run) (g : Games) → IsFaultless r g → (a : Answer) → Answers r.left.files r.asking a → r.outcomes ≡ a.outcomes → (a.status ≡ status.Done) × (length r.outcomes ≡ length g.problems)
done_so r g f a right os =
    let s = solved_so r.left.files r.asking f.names f.files f.script g a f.asked f.told f.there f.games right in
    (ap (λ (x : Answer). x.status) s.2, ap length os ∙ ap (λ (x : Answer). length x.outcomes) s.2 ∙ s.1.all)

pub completes : (r : Run) (result : SolveStatus) → Ends r result → Completes r result
completes r status.Done e g f = let d = done_so r g f e.answer e.right e.outcomes in inl (refl, d.1)
completes r status.Usage e g f = let d = done_so r g f e.answer e.right e.outcomes in let z : status.Usage ≡ status.Done = sym e.published.0 ∙ d.0 in absurd (cc)
completes r status.Refused e g f = let d = done_so r g f e.answer e.right e.outcomes in let z : status.Refused ≡ status.Done = sym e.published.0 ∙ d.0 in absurd (cc)
completes r status.ReadFault e g f = absurd (rose_not Fetch e.names.script r.left.counts r.left.counts_after f.counts e.counts)
completes r status.StoreFault e g f = absurd (rose_not _ e.published.failed.0 r.left.counts r.left.counts_after f.counts e.published.counts)
completes r status.PrintFault e g f = absurd (f.printed e.published.rose)
completes r status.Memory e g f = inr refl
