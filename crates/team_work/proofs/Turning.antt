-- What a board's answers come to in a turn.
use Rattle.std.specs.Prelude.{ℕ, ◌≡◌, ◌⊎◌, Bool, true, false, if◌then◌else◌, Some, None, List, length}
use Rattle.std.proofs.Common.{ap, ◌∙◌, sym, subst, refl, inl, inr}
use Rattle.lin_term.specs.declared.Sort.{Sort}
use Rattle.dom_core.specs.declared.Side.{Side}
use Rattle.dom_core.specs.declared.Side.TheVariants.{Exists, Forall}
use Rattle.dom_core.specs.Problem.{WrittenProblem, problem_of}
use Rattle.dom_core.specs.Sides.{other, problem_for}
use Rattle.game_tree.specs.Skeleton.{Skeleton}
use Rattle.game_tree.specs.View.{skeleton_of}
use Rattle.game_tree.specs.Among.{IsAmong}
use Rattle.lose_system.specs.Losing.{system}
use Rattle.term_select.specs.Counter.{WrittenCounter}
use Rattle.proof_rules.specs.Won.{WonGame}
use Rattle.game_history.specs.History.{Wideness, cube, choice, Entry, noted, SideState, State, of_side, version, newest_number, spend, outgrow, end_game}
use Rattle.game_history.specs.Legal.{OfVersion}
use Rattle.game_history.specs.Work.{HasWork, SomeHasWork, IsBlocked}
use Rattle.game_board.specs.declared.Entry.{Entry as Written}
use Rattle.game_board.specs.declared.Entry.TheVariants as entry
use Rattle.game_board.specs.declared.Published.{Published}
use Rattle.game_board.specs.declared.Published.TheVariants as published
use Rattle.game_board.specs.declared.Finished.{Finished}
use Rattle.game_board.specs.declared.Finished.TheVariants as finished
use Rattle.game_board.specs.declared.Job.TheVariants as job
use Rattle.game_board.specs.declared.Noted.{Noted}
use Rattle.game_board.specs.declared.Noted.TheVariants as answer
use Rattle.game_board.specs.declared.WideNote.{WideNote}
use Rattle.game_board.specs.Entries.{wideness_of, entry_of, entries_of}
use Rattle.game_board.specs.Board.{WrittenBoard, problem_on, state_of, with_entry, with_verdict}
use Rattle.game_board.specs.Replies.{IsUndecided, HasVerdict, AttacksVersion, WinsVersion, IsAttackBy, IsJob, IsOnVersion, BelongsTo, Publishes, Finishes, Notes}
use Rattle.game_board.proofs.Keeping.{entries_push, state_push}
use Rattle.game_board.proofs.Working.{back, stale_no_work, noted_no_work}
use Rattle.team_work.specs.declared.closing.Closing.TheVariants as closing
use Rattle.team_work.specs.Shown.{ShownFor, Shown}
use Rattle.team_work.specs.Turn.{IsGoing, IsSameGame, IsWonOn, Stops, Turns}
use Rattle.team_work.proofs.States.{among_end, added_flags, held_flags, noted_flags, going_more, length_more, same_game}

-- no game is both open and over
pub not_both : {D : Type 0} → (s : Sort) (b : WrittenBoard D) → IsUndecided s b → HasVerdict s b → ⊥
not_both {D} s b o h = let e : true ≡ false = sym h ∙ o in absurd (cc)

-- ---- one entry more, and the game goes on

goes_on : {D : Type 0} → (s : Sort) (b c : WrittenBoard D) (e : Written D) → c ≡ with_entry b e → IsGoing s (with_entry b e) → Turns s b None c
goes_on {D} s b c e h g = (
  subst (λ (x : WrittenBoard D). IsGoing s x) (sym h) g,
  ap (λ (x : WrittenBoard D). length x.history) h ∙ length_more b e,
)

-- ---- a counter

work_spent : (side : Side) (st : State) → HasWork side st → SomeHasWork (spend st)
work_spent Exists st h = inl (record { open_game = h.open_game; unbeaten = h.unbeaten; unnoted = h.unnoted })
work_spent Forall st h = inr (record { open_game = h.open_game; unbeaten = h.unbeaten; unnoted = h.unnoted })

work_outgrown : (side : Side) (st : State) → HasWork side st → SomeHasWork (outgrow st)
work_outgrown Exists st h = inl (record { open_game = h.open_game; unbeaten = h.unbeaten; unnoted = h.unnoted })
work_outgrown Forall st h = inr (record { open_game = h.open_game; unbeaten = h.unbeaten; unnoted = h.unnoted })

-- the first time, there is an entry
once : {D : Type 0} → (b c : WrittenBoard D) (e : Written D) (t : Bool) → t ≡ false → c ≡ (if t then b else with_entry b e) → c ≡ with_entry b e
once {D} b c e true f h = absurd (cc)
once {D} b c e false f h = h

spent_early : {D : Type 0} → (s : Sort) (b c : WrittenBoard D) (k : WrittenCounter) (v : ℕ) → IsGoing s b → HasWork k.side (state_of s b) → c ≡ with_entry b (entry.Spent k.side v k.paths) → Stops s c closing.Spent
spent_early {D} s b c k v g w h =
    subst (λ (x : WrittenBoard D). Stops s x closing.Spent) (sym h) (
      record {
        open_game = ap (λ (st : State). st.is_over) (state_push s b e) ∙ g.open_game;
        work = subst SomeHasWork (sym (state_push s b e)) (work_spent k.side (state_of s b) w);
      },
      ap (λ (st : State). st.is_spent) (state_push s b e),
    )
  where
    e : Written D
    e = entry.Spent k.side v k.paths

large_early : {D : Type 0} → (s : Sort) (b c : WrittenBoard D) (k : WrittenCounter) (v n : ℕ) → IsGoing s b → HasWork k.side (state_of s b) → c ≡ with_entry b (entry.TooLarge k.side v k.paths n) → Stops s c (closing.TooLarge n)
large_early {D} s b c k v n g w h =
    subst (λ (x : WrittenBoard D). Stops s x (closing.TooLarge n)) (sym h) (
      record {
        open_game = ap (λ (st : State). st.is_over) (state_push s b e) ∙ g.open_game;
        work = subst SomeHasWork (sym (state_push s b e)) (work_outgrown k.side (state_of s b) w);
      },
      ap (λ (st : State). st.is_spent) (state_push s b e) ∙ g.unspent,
      record {
        side = k.side;
        number = v;
        tree = skeleton_of k.paths.tree;
        entry = subst (λ (H : List Entry). IsAmong (entry_of e) H) (sym (entries_push b.history e)) (among_end (entry_of e) (entries_of b.history));
      },
    )
  where
    e : Written D
    e = entry.TooLarge k.side v k.paths n

-- what the answer to a counter means for the turn
abbrev pub PublishedTurns : {D : Type 0} → Sort → WrittenBoard D → Published → WrittenBoard D → Type 0
PublishedTurns {D} s b published.Over c = ⊥
PublishedTurns {D} s b published.Foreign c = ⊥
PublishedTurns {D} s b (published.Stale r) c = ⊥
PublishedTurns {D} s b published.Held c = Turns s b None c × IsSameGame b c
PublishedTurns {D} s b published.Spent c = Turns s b (Some closing.Spent) c × IsSameGame b c
PublishedTurns {D} s b (published.TooLarge n) c = Turns s b (Some (closing.TooLarge n)) c × IsSameGame b c
PublishedTurns {D} s b (published.Added m) c = Turns s b None c × IsSameGame b c

pub published_turns : {D : Type 0} → (s : Sort) (b c : WrittenBoard D) (k : WrittenCounter) (v : ℕ) (p : Published) → IsGoing s b → AttacksVersion s b k v → IsAttackBy s b k.side (other k.side) v → Publishes s b k v p c → PublishedTurns s b p c
published_turns {D} s b c k v published.Over g a w h = not_both s b g.open_game h.0
published_turns {D} s b c k v published.Foreign g a w h = h.1 a
published_turns {D} s b c k v (published.Stale r) g a w h = stale_no_work k.side (state_of s b) v r w.2 h.2 h.3 w.0
published_turns {D} s b c k v published.Held g a w h =
    let e : Written D = entry.Held k.side v k.paths in (
      goes_on s b c e h.2 (going_more s b e g (held_flags k.side v (skeleton_of k.paths.tree) (state_of s b)) (λ side u y q. absurd (cc))),
      same_game b c e h.2,
    )
published_turns {D} s b c k v published.Spent g a w h =
    let q = once b c (entry.Spent k.side v k.paths) (state_of s b).is_spent g.unspent h.3 in
    (spent_early s b c k v g w.0 q, same_game b c (entry.Spent k.side v k.paths) q)
published_turns {D} s b c k v (published.TooLarge n) g a w h =
    let q = once b c (entry.TooLarge k.side v k.paths n) (state_of s b).is_large g.small h.5 in
    (large_early s b c k v n g w.0 q, same_game b c (entry.TooLarge k.side v k.paths n) q)
published_turns {D} s b c k v (published.Added m) g a w h =
    let e : Written D = entry.Added k.side v k.paths m in (
      goes_on s b c e h.5 (going_more s b e g (added_flags k.side v (skeleton_of k.paths.tree) m (state_of s b)) (λ side u y q. absurd (cc))),
      same_game b c e h.5,
    )

-- ---- a game that is won

same_at_end : (side : Side) (st : State) → of_side side (end_game st) ≡ of_side side st
same_at_end Exists st = refl
same_at_end Forall st = refl

won_on : {D : Type 0} → (s : Sort) (b : WrittenBoard D) (w : WonGame) (side : Side) (v : ℕ) → WinsVersion s b w side v → IsWonOn s (with_verdict b (entry.Won side v) w) side
won_on {D} s b w side v h = record {
  game = w;
  won_is = refl;
  problem = h.problem ∙ on side;
  before = entries_of b.history;
  number = v;
  last = entries_push b.history e;
  there = ap (λ (st : State). version (of_side side st) v) (state_push s b e) ∙ ap (λ (x : SideState). version x v) (same_at_end side (state_of s b)) ∙ h.there;
}
  where
    e : Written D
    e = entry.Won side v

    on : (side : Side) → problem_on side b ≡ problem_on side (with_verdict b e w)
    on Exists = refl
    on Forall = refl

pub finished_turns : {D : Type 0} → (s : Sort) (b c : WrittenBoard D) (w : WonGame) (side : Side) (v : ℕ) (f : Finished) → IsGoing s b → WinsVersion s b w side v → Finishes s b w side v f c → Turns s b (Some (closing.Won side)) c × IsSameGame b c
finished_turns {D} s b c w side v finished.Set g a h = (
  subst (λ (x : WrittenBoard D). IsWonOn s x side) (sym h.2) (won_on s b w side v a),
  record {
    problem = ap (λ (x : WrittenBoard D). x.problem) h.2;
    dual = ap (λ (x : WrittenBoard D). x.dual) h.2;
    rounds = ap (λ (x : WrittenBoard D). x.rounds) h.2;
  },
)
finished_turns {D} s b c w side v finished.Foreign g a h = absurd (h.1 a)
finished_turns {D} s b c w side v finished.Over g a h = absurd (not_both s b g.open_game h.0)

-- ---- a note

belongs : (s : Sort) (P : WrittenProblem) (side : Side) (y : Wideness) (S : Skeleton) → ShownFor s (problem_of P) side y S → BelongsTo (system s (problem_for s side (problem_of P)) S) y
belongs s P side (cube c z) S h = h.0
belongs s P side (choice p x z) S h = let k = h.0 in k.one_each

on_version : {D : Type 0} → (s : Sort) (b : WrittenBoard D) (n : WideNote D) → OfVersion (of_side n.side (state_of s b)) n.version (ShownFor s (problem_of b.problem) n.side (wideness_of n.why)) → IsOnVersion s b n n.version
on_version {D} s b n h = record {
  named = refl;
  belongs = record { tree = h.tree; there = h.there; says = belongs s b.problem n.side (wideness_of n.why) h.tree h.says };
}

noted_new : {D : Type 0} → (s : Sort) (b c : WrittenBoard D) (n : WideNote D) → IsGoing s b → OfVersion (of_side n.side (state_of s b)) n.version (ShownFor s (problem_of b.problem) n.side (wideness_of n.why)) → c ≡ with_entry b (entry.Noted n.side n.version n.why) → Turns s b None c × IsSameGame b c
noted_new {D} s b c n g o h = (
  goes_on s b c e h (going_more s b e g (noted_flags n.side n.version (wideness_of n.why) (state_of s b)) new),
  same_game b c e h,
)
  where
    e : Written D
    e = entry.Noted n.side n.version n.why

    moved : (side : Side) (v : ℕ) (y : Wideness) → n.side ≡ side → n.version ≡ v → wideness_of n.why ≡ y → Shown s (problem_of b.problem) (entries_of b.history) side v y
    moved side v y p q r =
        subst (λ (x : Side). Shown s (problem_of b.problem) (entries_of b.history) x v y) p
        (subst (λ (x : ℕ). Shown s (problem_of b.problem) (entries_of b.history) n.side x y) q
        (subst (λ (x : Wideness). Shown s (problem_of b.problem) (entries_of b.history) n.side n.version x) r o))

    new : (side : Side) (v : ℕ) (y : Wideness) → entry_of e ≡ noted side v y → Shown s (problem_of b.problem) (entries_of b.history) side v y
    new side v y q = let p : n.side ≡ side = cc in let u : n.version ≡ v = cc in let r : wideness_of n.why ≡ y = cc in moved side v y p u r

pub noted_turns : {D : Type 0} → (s : Sort) (b c : WrittenBoard D) (n : WideNote D) (r : Noted) → IsGoing s b → OfVersion (of_side n.side (state_of s b)) n.version (ShownFor s (problem_of b.problem) n.side (wideness_of n.why)) → IsAttackBy s b (other n.side) n.side n.version → Notes s b n n.version r c → Turns s b None c × IsSameGame b c
noted_turns {D} s b c n answer.Kept g o w h = by h.2
  where
    at : n.version ≡ newest_number (of_side (other (other n.side)) (state_of s b))
    at = w.2 ∙ ap (λ (x : Side). newest_number (of_side x (state_of s b))) (sym (back n.side))

    by : (IsAmong n.version (of_side n.side (state_of s b)).notes × (c ≡ b)) ⊎ ((¬ IsAmong n.version (of_side n.side (state_of s b)).notes) × (c ≡ with_entry b (entry.Noted n.side n.version n.why))) → Turns s b None c × IsSameGame b c
    by (inl k) = absurd (noted_no_work (other n.side) (state_of s b) n.version at (subst (λ (x : Side). IsAmong n.version (of_side x (state_of s b)).notes) (sym (back n.side)) k.0) w.0)
    by (inr k) = noted_new s b c n g o k.1
noted_turns {D} s b c n answer.Foreign g o w h = absurd (h.1 (on_version s b n o))
noted_turns {D} s b c n answer.Over g o w h = absurd (not_both s b g.open_game h.0)

-- ---- no work

-- a game that goes on has shown notes alone
pub blocked_turns : {D : Type 0} → (s : Sort) (b : WrittenBoard D) (wish : Side) → IsGoing s b → IsJob s b wish job.Blocked → IsBlocked s (problem_of b.problem) (entries_of b.history) → Turns s b (Some closing.Blocked) b
blocked_turns {D} s b wish g j k = (g.open_game, no_work wish j.1 j.2, k, λ x u z m. g.shown x (newest_number (of_side x (state_of s b))) z m)
  where
    no_work : (w : Side) → ¬ HasWork w (state_of s b) → ¬ HasWork (other w) (state_of s b) → ¬ SomeHasWork (state_of s b)
    no_work Exists m n (inl h) = m h
    no_work Exists m n (inr h) = n h
    no_work Forall m n (inl h) = n h
    no_work Forall m n (inr h) = m h
