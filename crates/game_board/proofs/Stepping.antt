-- What every event leaves as it is, and what a counter raises.
use Rattle.std.specs.Prelude.{ℕ, ◌≡◌, Bool, true, false, if◌then◌else◌, Some, List, [], ◌∷◌, ◌++◌, IfOk, Result, Ok, Err}
use Rattle.std.proofs.Common.{ap, ◌∙◌, subst, refl, inl, inr}
use Rattle.lin_term.specs.declared.Sort.{Sort}
use Rattle.lin_term.specs.declared.Memory.{Memory}
use Rattle.dom_core.specs.declared.Side.{Side}
use Rattle.dom_core.specs.declared.Side.TheVariants.{Exists, Forall}
use Rattle.dom_core.specs.Problem.{WrittenProblem, problem_of}
use Rattle.game_tree.specs.View.{skeleton_of}
use Rattle.term_select.specs.Counter.{WrittenCounter}
use Rattle.game_history.specs.History.{SideState, State, of_side, change, reach_to, add_version, one_round}
use Rattle.game_history.specs.Legal.{Legal}
use Rattle.game_board.specs.declared.entry.Entry.{Entry}
use Rattle.game_board.specs.declared.entry.Entry.TheVariants as entry
use Rattle.game_board.specs.declared.reply.Published.{Published}
use Rattle.game_board.specs.declared.reply.Published.TheVariants as published
use Rattle.game_board.specs.declared.reply.Finished.{Finished}
use Rattle.game_board.specs.declared.reply.Finished.TheVariants as finished
use Rattle.game_board.specs.declared.reply.Noted.{Noted}
use Rattle.game_board.specs.declared.reply.Noted.TheVariants as answer
use Rattle.game_board.specs.declared.reply.Event.{Event}
use Rattle.game_board.specs.declared.reply.Event.TheVariants as event
use Rattle.game_board.specs.declared.reply.Reply.{Reply}
use Rattle.game_board.specs.declared.reply.Reply.TheVariants as reply
use Rattle.game_board.specs.declared.why.WideNote.{WideNote}
use Rattle.proof_rules.specs.Won.{WonGame}
use Rattle.game_board.specs.Entries.{entries_of}
use Rattle.game_board.specs.Board.{WrittenBoard, state_of, with_entry, with_verdict}
use Rattle.game_board.specs.Replies.{Publishes, Finishes, FinishesFound, Notes, StepsTo, RaisesReach}
use Rattle.game_board.specs.Running.{IsFirst, RunsEvents, LeadsTo}
use Rattle.game_board.proofs.Keeping.{state_push}

-- ---- the game stays the same

abbrev IsSameGame : {D : Type 0} → WrittenBoard D → WrittenBoard D → Type 0
IsSameGame {D} c b = (c.problem ≡ b.problem) × (c.rounds ≡ b.rounds)

kept : {D : Type 0} → (b c : WrittenBoard D) → c ≡ b → IsSameGame c b
kept {D} b c e = (ap (λ (x : WrittenBoard D). x.problem) e, ap (λ (x : WrittenBoard D). x.rounds) e)

one_entry : {D : Type 0} → (b c : WrittenBoard D) (e : Entry D) → c ≡ with_entry b e → IsSameGame c b
one_entry {D} b c e h = (ap (λ (x : WrittenBoard D). x.problem) h, ap (λ (x : WrittenBoard D). x.rounds) h)

one_verdict : {D : Type 0} → (b c : WrittenBoard D) (e : Entry D) (w : WonGame) → c ≡ with_verdict b e w → IsSameGame c b
one_verdict {D} b c e w h = (ap (λ (x : WrittenBoard D). x.problem) h, ap (λ (x : WrittenBoard D). x.rounds) h)

once : {D : Type 0} → (b c : WrittenBoard D) (e : Entry D) (t : Bool) → c ≡ (if t then b else with_entry b e) → IsSameGame c b
once {D} b c e true h = kept b c h
once {D} b c e false h = one_entry b c e h

publish_keeps : {D : Type 0} → (s : Sort) (b c : WrittenBoard D) (k : WrittenCounter) (v : ℕ) (p : Published) → Publishes s b k v p c → IsSameGame c b
publish_keeps {D} s b c k v published.Over h = kept b c h.1
publish_keeps {D} s b c k v published.Foreign h = kept b c h.2
publish_keeps {D} s b c k v (published.Stale r) h = kept b c h.4
publish_keeps {D} s b c k v published.Held h = one_entry b c (entry.Held k.side v k.paths) h.2
publish_keeps {D} s b c k v published.Spent h = once b c (entry.Spent k.side v k.paths) (state_of s b).is_spent h.3
publish_keeps {D} s b c k v (published.TooLarge n) h = once b c (entry.TooLarge k.side v k.paths n) (state_of s b).is_large h.5
publish_keeps {D} s b c k v (published.Added m) h = one_entry b c (entry.Added k.side v k.paths m) h.5

finish_keeps : {D : Type 0} → (s : Sort) (b c : WrittenBoard D) (w : WonGame) (side : Side) (v : ℕ) (f : Finished) → Finishes s b w side v f c → IsSameGame c b
finish_keeps {D} s b c w side v finished.Set h = one_verdict b c (entry.Won side v) w h.2
finish_keeps {D} s b c w side v finished.Foreign h = kept b c h.2
finish_keeps {D} s b c w side v finished.Over h = kept b c h.1

find_keeps : {D : Type 0} → (s : Sort) (b c : WrittenBoard D) (w : WonGame) (side : Side) (f : Finished) → FinishesFound s b w side f c → IsSameGame c b
find_keeps {D} s b c w side finished.Set h = one_verdict b c (entry.Found side (record { prefix = w.problem.prefix; tree = w.tree })) w h.2
find_keeps {D} s b c w side finished.Foreign h = kept b c h.2
find_keeps {D} s b c w side finished.Over h = kept b c h.1

note_keeps : {D : Type 0} → (s : Sort) (b c : WrittenBoard D) (n : WideNote D) (v : ℕ) (a : Noted) → Notes s b n v a c → IsSameGame c b
note_keeps {D} s b c n v answer.Kept h =
    elim h.2 [
      | inl x ↦ kept b c x.1
      | inr x ↦ one_entry b c (entry.Noted n.side v n.why) x.1
    ]
note_keeps {D} s b c n v answer.Foreign h = kept b c h.2
note_keeps {D} s b c n v answer.Over h = kept b c h.1

step_keeps : {D : Type 0} → (s : Sort) (b c : WrittenBoard D) (e : Event D) (r : Reply D) → StepsTo s b e r c → IsSameGame c b
step_keeps {D} s b c (event.Look side v) r h = kept b c h.1
step_keeps {D} s b c (event.Publish k v) (reply.Look o) h = absurd h
step_keeps {D} s b c (event.Publish k v) (reply.Publish p) h = publish_keeps s b c k v p h
step_keeps {D} s b c (event.Publish k v) (reply.Finish f) h = absurd h
step_keeps {D} s b c (event.Publish k v) (reply.Found f) h = absurd h
step_keeps {D} s b c (event.Publish k v) (reply.Note a) h = absurd h
step_keeps {D} s b c (event.Finish w side v) (reply.Look o) h = absurd h
step_keeps {D} s b c (event.Finish w side v) (reply.Publish p) h = absurd h
step_keeps {D} s b c (event.Finish w side v) (reply.Finish f) h = finish_keeps s b c w side v f h
step_keeps {D} s b c (event.Finish w side v) (reply.Found f) h = absurd h
step_keeps {D} s b c (event.Finish w side v) (reply.Note a) h = absurd h
step_keeps {D} s b c (event.Found w side) (reply.Look o) h = absurd h
step_keeps {D} s b c (event.Found w side) (reply.Publish p) h = absurd h
step_keeps {D} s b c (event.Found w side) (reply.Finish f) h = absurd h
step_keeps {D} s b c (event.Found w side) (reply.Found f) h = find_keeps s b c w side f h
step_keeps {D} s b c (event.Found w side) (reply.Note a) h = absurd h
step_keeps {D} s b c (event.Note n v) (reply.Look o) h = absurd h
step_keeps {D} s b c (event.Note n v) (reply.Publish p) h = absurd h
step_keeps {D} s b c (event.Note n v) (reply.Finish f) h = absurd h
step_keeps {D} s b c (event.Note n v) (reply.Found f) h = absurd h
step_keeps {D} s b c (event.Note n v) (reply.Note a) h = note_keeps s b c n v a h

runs_keep : {D : Type 0} → (s : Sort) (b c : WrittenBoard D) (es : List (Event D)) → RunsEvents s b es c → IsSameGame c b
runs_keep {D} s b c [] h = kept b c h
runs_keep {D} s b c (e ∷ es) h =
    let x = runs_keep s h.0 c es h.3 in
    let y = step_keeps s b h.0 e h.1 h.2 in
    (x.0 ∙ y.0, x.1 ∙ y.1)

-- the history of the last board is legal for the game of the first
pub legal_at_end : {D : Type 0} → (s : Sort) (P : WrittenProblem) (n : ℕ) (es : List (Event D)) (c : WrittenBoard D) → LeadsTo s P n es c → Legal s (problem_of c.problem) c.rounds (entries_of c.history) → Legal s (problem_of P) n (entries_of c.history)
legal_at_end {D} s P n es c h l =
    let k = runs_keep s h.0 c es h.2 in
    subst (λ (m : ℕ). Legal s (problem_of P) m (entries_of c.history)) (k.1 ∙ h.1.rounds_are)
    (subst (λ (Q : WrittenProblem). Legal s (problem_of Q) c.rounds (entries_of c.history)) (k.0 ∙ h.1.problem) l)

-- ---- the reach

side_changed : (side : Side) (f : SideState → SideState) (st : State) → of_side side (change side f st) ≡ f (of_side side st)
side_changed Exists f st = refl
side_changed Forall f st = refl

side_round : (side : Side) (st : State) → of_side side (one_round st) ≡ of_side side st
side_round Exists st = refl
side_round Forall st = refl

held_reach : {D : Type 0} → (s : Sort) (b c : WrittenBoard D) (k : WrittenCounter) (v : ℕ) → c ≡ with_entry b (entry.Held k.side v k.paths) → (of_side k.side (state_of s c)).reach ≡ Some v
held_reach {D} s b c k v e =
    ap (λ (x : WrittenBoard D). (of_side k.side (state_of s x)).reach) e
    ∙ ap (λ (st : State). (of_side k.side st).reach) (state_push s b (entry.Held k.side v k.paths))
    ∙ ap (λ (x : SideState). x.reach) (side_changed k.side (reach_to v) (state_of s b))

added_reach : {D : Type 0} → (s : Sort) (b c : WrittenBoard D) (k : WrittenCounter) (v m : ℕ) → c ≡ with_entry b (entry.Added k.side v k.paths m) → (of_side k.side (state_of s c)).reach ≡ Some v
added_reach {D} s b c k v m e =
    let f = add_version (skeleton_of k.paths.tree) v in
    ap (λ (x : WrittenBoard D). (of_side k.side (state_of s x)).reach) e
    ∙ ap (λ (st : State). (of_side k.side st).reach) (state_push s b (entry.Added k.side v k.paths m))
    ∙ ap (λ (x : SideState). x.reach) (side_round k.side (change k.side f (state_of s b)) ∙ side_changed k.side f (state_of s b))

raised : {D : Type 0} → (s : Sort) (b c : WrittenBoard D) (k : WrittenCounter) (v : ℕ) (p : Published) → Publishes s b k v p c → RaisesReach s b k.side v p c
raised {D} s b c k v published.Over h = tt
raised {D} s b c k v published.Foreign h = tt
raised {D} s b c k v (published.Stale r) h = tt
raised {D} s b c k v published.Held h = record { above = h.0.above; reach = held_reach s b c k v h.2 }
raised {D} s b c k v published.Spent h = tt
raised {D} s b c k v (published.TooLarge n) h = tt
raised {D} s b c k v (published.Added m) h = record { above = h.0.above; reach = added_reach s b c k v m h.5 }

pub all_raised : {D : Type 0} → (s : Sort) (b c : WrittenBoard D) (k : WrittenCounter) (v : ℕ) (r : Result Published Memory) → IfOk r (λ p. Publishes s b k v p c) → IfOk r (λ p. RaisesReach s b k.side v p c)
all_raised {D} s b c k v (Ok p) h = raised s b c k v p h
all_raised {D} s b c k v (Err e) h = tt

-- ---- lists of events

runs_more : {D : Type 0} → (s : Sort) (b c d : WrittenBoard D) (es : List (Event D)) (e : Event D) (r : Reply D) → RunsEvents s b es c → StepsTo s c e r d → RunsEvents s b (es ++ e ∷ []) d
runs_more {D} s b c d [] e r h x = (d, r, subst (λ (o : WrittenBoard D). StepsTo s o e r d) h x, refl)
runs_more {D} s b c d (f ∷ es) e r h x = (h.0, h.1, h.2, runs_more s h.0 c d es e r h.3 x)

-- one event more
pub leads_more : {D : Type 0} → (s : Sort) (P : WrittenProblem) (n : ℕ) (c d : WrittenBoard D) (es : List (Event D)) (e : Event D) (r : Reply D) → LeadsTo s P n es c → StepsTo s c e r d → LeadsTo s P n (es ++ e ∷ []) d
leads_more {D} s P n c d es e r h x = (h.0, h.1, runs_more s h.0 c d es e r h.2 x)

-- no event yet
pub leads_first : {D : Type 0} → (s : Sort) (P : WrittenProblem) (n : ℕ) (b : WrittenBoard D) → IsFirst s P n b → LeadsTo s P n [] b
leads_first {D} s P n b f = (b, f, refl)
