-- What each call of a board answers, and the board that it leaves. In each definition the cases exclude one another.
use Rattle.std.specs.Prelude.{ℕ, suc, ◌<◌, ◌≤◌, ◌≡◌, ◌≢◌, ◌⊎◌, true, false, if◌then◌else◌, Option, Some, None, length, ⊤}
use Rattle.lin_term.specs.declared.Sort.{Sort}
use Rattle.dom_core.specs.declared.Side.{Side}
use Rattle.dom_core.specs.Problem.{problem_of}
use Rattle.dom_core.specs.Sides.{other, problem_for}
use Rattle.game_tree.specs.Skeleton.{node_limit}
use Rattle.game_tree.specs.View.{skeleton_of}
use Rattle.game_tree.specs.Written.{WrittenSkeleton}
use Rattle.lose_system.specs.Losing.{System, system}
use Rattle.term_select.specs.Counter.{WrittenCounter}
use Rattle.game_tree.specs.Among.{IsAmong, EachIs}
use Rattle.game_tree.specs.Union.{In}
use Rattle.game_history.specs.History.{Wideness, cube, choice, of_side, version, newest_number}
use Rattle.game_history.specs.Legal.{IsAbove, IsNewFor, union_nodes, IsOfSystem, OfVersion}
use Rattle.game_history.specs.Work.{HasWork}
use Rattle.proof_rules.specs.Won.{WonGame}
use Rattle.game_board.specs.declared.why.WideNote.{WideNote}
use Rattle.game_board.specs.declared.entry.Entry.TheVariants as entry
use Rattle.game_board.specs.declared.reply.Job.{Job}
use Rattle.game_board.specs.declared.reply.Job.TheVariants as job
use Rattle.game_board.specs.declared.reply.Published.{Published}
use Rattle.game_board.specs.declared.reply.Published.TheVariants as published
use Rattle.game_board.specs.declared.reply.Finished.{Finished}
use Rattle.game_board.specs.declared.reply.Finished.TheVariants as finished
use Rattle.game_board.specs.declared.reply.Noted.{Noted}
use Rattle.game_board.specs.declared.reply.Noted.TheVariants as answer
use Rattle.game_board.specs.declared.reply.Event.{Event}
use Rattle.game_board.specs.declared.reply.Event.TheVariants as event
use Rattle.game_board.specs.declared.reply.Reply.{Reply}
use Rattle.game_board.specs.declared.reply.Reply.TheVariants as reply
use Rattle.game_board.specs.Entries.{wideness_of}
use Rattle.game_board.specs.Board.{WrittenBoard, problem_on, state_of, with_entry, with_verdict}

abbrev pub IsUndecided : {D : Type 0} → Sort → WrittenBoard D → Type 0
IsUndecided {D} s b = (state_of s b).is_over ≡ false

abbrev pub HasVerdict : {D : Type 0} → Sort → WrittenBoard D → Type 0
HasVerdict {D} s b = (state_of s b).is_over ≡ true

-- ---- next

-- the side attacks the newest version of the other one
abbrev pub IsAttackBy : {D : Type 0} → Sort → WrittenBoard D → Side → Side → ℕ → Type 0
IsAttackBy {D} s b side attacked v =
    HasWork side (state_of s b) × (attacked ≡ other side) × (v ≡ newest_number (of_side attacked (state_of s b)))

-- the work of the side that is wished for, else that of the other one
abbrev pub IsJob : {D : Type 0} → Sort → WrittenBoard D → Side → Job → Type 0
IsJob {D} s b wish (job.Attack attacked v) =
    IsAttackBy s b wish attacked v ⊎ (¬ HasWork wish (state_of s b) × IsAttackBy s b (other wish) attacked v)
IsJob {D} s b wish job.Blocked = IsUndecided s b × ¬ HasWork wish (state_of s b) × ¬ HasWork (other wish) (state_of s b)
IsJob {D} s b wish job.Over = HasVerdict s b

-- ---- look

abbrev pub IsLook : {D : Type 0} → Sort → WrittenBoard D → Side → ℕ → Option WrittenSkeleton → Type 0
IsLook {D} s b side v None = version (of_side side (state_of s b)) v ≡ None
IsLook {D} s b side v (Some w) =
    (w.prefix ≡ (problem_on side b).prefix) × (version (of_side side (state_of s b)) v ≡ Some (skeleton_of w.tree))

-- ---- publish

-- the counter is of the board's problem for its side, and against version v of the other side
pub record AttacksVersion {D : Type 0} (s : Sort) (b : WrittenBoard D) (c : WrittenCounter) (v : ℕ) : Type 0 where
  pub problem : c.problem ≡ problem_on c.side b
  pub there : version (of_side (other c.side) (state_of s b)) v ≡ Some (skeleton_of c.against.tree)

-- besides, no verdict stands, and the version is above the side's reach
pub record IsFresh {D : Type 0} (s : Sort) (b : WrittenBoard D) (c : WrittenCounter) (v : ℕ) : Type 0 where
  pub open_game : IsUndecided s b
  pub attacks : AttacksVersion s b c v
  pub above : IsAbove v (of_side c.side (state_of s b)).reach

-- some path of the counter is not in the newest version of its side
abbrev pub IsNews : {D : Type 0} → Sort → WrittenBoard D → WrittenCounter → Type 0
IsNews {D} s b c = IsNewFor c.side (skeleton_of c.paths.tree) (state_of s b)

abbrev pub joint_nodes : {D : Type 0} → Sort → WrittenBoard D → WrittenCounter → ℕ
joint_nodes {D} s b c = union_nodes c.side (skeleton_of c.paths.tree) (state_of s b)

abbrev pub Publishes : {D : Type 0} → Sort → WrittenBoard D → WrittenCounter → ℕ → Published → WrittenBoard D → Type 0
Publishes {D} s b c v published.Over b' = HasVerdict s b × (b' ≡ b)
Publishes {D} s b c v published.Foreign b' = IsUndecided s b × ¬ AttacksVersion s b c v × (b' ≡ b)
Publishes {D} s b c v (published.Stale r) b' =
    IsUndecided s b × AttacksVersion s b c v × ((of_side c.side (state_of s b)).reach ≡ Some r) × (v ≤ r) × (b' ≡ b)
Publishes {D} s b c v published.Held b' =
    IsFresh s b c v × In (skeleton_of c.paths.tree) (of_side c.side (state_of s b)).newest × (b' ≡ with_entry b (entry.Held c.side v c.paths))
Publishes {D} s b c v published.Spent b' =
    IsFresh s b c v × IsNews s b c × ((state_of s b).rounds ≡ b.rounds)
    × (b' ≡ (if (state_of s b).is_spent then b else with_entry b (entry.Spent c.side v c.paths)))
Publishes {D} s b c v (published.TooLarge n) b' =
    IsFresh s b c v × IsNews s b c × ((state_of s b).rounds < b.rounds) × (n ≡ joint_nodes s b c) × (node_limit < n)
    × (b' ≡ (if (state_of s b).is_large then b else with_entry b (entry.TooLarge c.side v c.paths n)))
Publishes {D} s b c v (published.Added m) b' =
    IsFresh s b c v × IsNews s b c × ((state_of s b).rounds < b.rounds) × (joint_nodes s b c ≤ node_limit)
    × (m ≡ suc (newest_number (of_side c.side (state_of s b)))) × (b' ≡ with_entry b (entry.Added c.side v c.paths m))

-- the version was above the reach of the side, which is now that version
pub record Raises {D : Type 0} (s : Sort) (b : WrittenBoard D) (side : Side) (v : ℕ) (b' : WrittenBoard D) : Type 0 where
  pub above : IsAbove v (of_side side (state_of s b)).reach
  pub reach : (of_side side (state_of s b')).reach ≡ Some v

-- so where the counter was held or added
abbrev pub RaisesReach : {D : Type 0} → Sort → WrittenBoard D → Side → ℕ → Published → WrittenBoard D → Type 0
RaisesReach {D} s b side v published.Over b' = ⊤
RaisesReach {D} s b side v published.Foreign b' = ⊤
RaisesReach {D} s b side v (published.Stale r) b' = ⊤
RaisesReach {D} s b side v published.Held b' = Raises s b side v b'
RaisesReach {D} s b side v published.Spent b' = ⊤
RaisesReach {D} s b side v (published.TooLarge n) b' = ⊤
RaisesReach {D} s b side v (published.Added m) b' = Raises s b side v b'

-- ---- finish and found

-- the game is of the board's problem for the side, and won by the side's version v
pub record WinsVersion {D : Type 0} (s : Sort) (b : WrittenBoard D) (w : WonGame) (side : Side) (v : ℕ) : Type 0 where
  pub problem : w.problem ≡ problem_on side b
  pub there : version (of_side side (state_of s b)) v ≡ Some (skeleton_of w.tree)

abbrev pub Finishes : {D : Type 0} → Sort → WrittenBoard D → WonGame → Side → ℕ → Finished → WrittenBoard D → Type 0
Finishes {D} s b w side v finished.Set b' = IsUndecided s b × WinsVersion s b w side v × (b' ≡ with_verdict b (entry.Won side v) w)
Finishes {D} s b w side v finished.Foreign b' = IsUndecided s b × ¬ WinsVersion s b w side v × (b' ≡ b)
Finishes {D} s b w side v finished.Over b' = HasVerdict s b × (b' ≡ b)

abbrev pub won_skeleton : WonGame → WrittenSkeleton
won_skeleton w = record { prefix = w.problem.prefix; tree = w.tree }

abbrev pub FinishesFound : {D : Type 0} → Sort → WrittenBoard D → WonGame → Side → Finished → WrittenBoard D → Type 0
FinishesFound {D} s b w side finished.Set b' =
    IsUndecided s b × (w.problem ≡ problem_on side b) × (b' ≡ with_verdict b (entry.Found side (won_skeleton w)) w)
FinishesFound {D} s b w side finished.Foreign b' = IsUndecided s b × (w.problem ≢ problem_on side b) × (b' ≡ b)
FinishesFound {D} s b w side finished.Over b' = HasVerdict s b × (b' ≡ b)

-- ---- note

-- literals of the system, or a point with one value for each node
abbrev pub BelongsTo : System → Wideness → Type 0
BelongsTo sys (cube c z) = EachIs (IsOfSystem sys) c
BelongsTo sys (choice p x z) = length p.nums ≡ sys.count

-- the note names version v, and belongs to the losing system of that version of its side
pub record IsOnVersion {D : Type 0} (s : Sort) (b : WrittenBoard D) (n : WideNote D) (v : ℕ) : Type 0 where
  pub named : n.version ≡ v
  pub belongs : OfVersion (of_side n.side (state_of s b)) v (λ S. BelongsTo (system s (problem_for s n.side (problem_of b.problem)) S) (wideness_of n.why))

-- the version carries a note already
abbrev pub IsNotedAlready : {D : Type 0} → Sort → WrittenBoard D → Side → ℕ → Type 0
IsNotedAlready {D} s b side v = IsAmong v (of_side side (state_of s b)).notes

abbrev pub Notes : {D : Type 0} → Sort → WrittenBoard D → WideNote D → ℕ → Noted → WrittenBoard D → Type 0
Notes {D} s b n v answer.Kept b' =
    IsUndecided s b × IsOnVersion s b n v
    × ((IsNotedAlready s b n.side v × (b' ≡ b)) ⊎ (¬ IsNotedAlready s b n.side v × (b' ≡ with_entry b (entry.Noted n.side v n.why))))
Notes {D} s b n v answer.Foreign b' = IsUndecided s b × ¬ IsOnVersion s b n v × (b' ≡ b)
Notes {D} s b n v answer.Over b' = HasVerdict s b × (b' ≡ b)

-- ---- step

abbrev pub IsLookReply : {D : Type 0} → Reply D → (Option WrittenSkeleton → Type 0) → Type 0
IsLookReply {D} (reply.Look o) F = F o
IsLookReply {D} (reply.Publish p) F = ⊥
IsLookReply {D} (reply.Finish f) F = ⊥
IsLookReply {D} (reply.Found f) F = ⊥
IsLookReply {D} (reply.Note n) F = ⊥

abbrev pub IsPublishReply : {D : Type 0} → Reply D → (Published → Type 0) → Type 0
IsPublishReply {D} (reply.Look o) F = ⊥
IsPublishReply {D} (reply.Publish p) F = F p
IsPublishReply {D} (reply.Finish f) F = ⊥
IsPublishReply {D} (reply.Found f) F = ⊥
IsPublishReply {D} (reply.Note n) F = ⊥

abbrev pub IsFinishReply : {D : Type 0} → Reply D → (Finished → Type 0) → Type 0
IsFinishReply {D} (reply.Look o) F = ⊥
IsFinishReply {D} (reply.Publish p) F = ⊥
IsFinishReply {D} (reply.Finish f) F = F f
IsFinishReply {D} (reply.Found f) F = ⊥
IsFinishReply {D} (reply.Note n) F = ⊥

abbrev pub IsFoundReply : {D : Type 0} → Reply D → (Finished → Type 0) → Type 0
IsFoundReply {D} (reply.Look o) F = ⊥
IsFoundReply {D} (reply.Publish p) F = ⊥
IsFoundReply {D} (reply.Finish f) F = ⊥
IsFoundReply {D} (reply.Found f) F = F f
IsFoundReply {D} (reply.Note n) F = ⊥

abbrev pub IsNoteReply : {D : Type 0} → Reply D → (Noted → Type 0) → Type 0
IsNoteReply {D} (reply.Look o) F = ⊥
IsNoteReply {D} (reply.Publish p) F = ⊥
IsNoteReply {D} (reply.Finish f) F = ⊥
IsNoteReply {D} (reply.Found f) F = ⊥
IsNoteReply {D} (reply.Note n) F = F n

-- the event is the call of its name, and the reply what that call answers
abbrev pub StepsTo : {D : Type 0} → Sort → WrittenBoard D → Event D → Reply D → WrittenBoard D → Type 0
StepsTo {D} s b (event.Look side v) r b' = IsLookReply r (λ o. IsLook s b side v o) × (b' ≡ b)
StepsTo {D} s b (event.Publish c v) r b' = IsPublishReply r (λ p. Publishes s b c v p b')
StepsTo {D} s b (event.Finish w side v) r b' = IsFinishReply r (λ f. Finishes s b w side v f b')
StepsTo {D} s b (event.Found w side) r b' = IsFoundReply r (λ f. FinishesFound s b w side f b')
StepsTo {D} s b (event.Note n v) r b' = IsNoteReply r (λ a. Notes s b n v a b')
