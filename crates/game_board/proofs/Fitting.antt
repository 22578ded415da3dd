-- The board after each kind of entry.
use Rattle.std.specs.Prelude.{ℕ, ◌+◌, ◌<◌, ◌≤◌, ◌≡◌, true, false, List, length}
use Rattle.std.proofs.Common.{ap, ◌∙◌, subst, refl}
use Rattle.lin_term.specs.declared.Sort.{Sort}
use Rattle.dom_core.specs.declared.Quant.{Quant}
use Rattle.dom_core.specs.declared.Side.{Side}
use Rattle.dom_core.specs.declared.Side.TheVariants.{Exists, Forall}
use Rattle.dom_core.specs.Game.{Problem}
use Rattle.dom_core.specs.Problem.{problem_of}
use Rattle.dom_core.specs.Sides.{other, problem_for}
use Rattle.game_tree.specs.Skeleton.{Skeleton, node_limit, Follows}
use Rattle.game_tree.specs.View.{skeleton_of}
use Rattle.game_play.specs.Beats.{Beats}
use Rattle.term_select.specs.Selected.{Selected}
use Rattle.term_select.specs.Counter.{WrittenCounter, IsCounter}
use Rattle.game_tree.specs.Union.{In}
use Rattle.lose_system.specs.Losing.{System, system}
use Rattle.game_history.specs.History.{Wideness, cube, choice, noted, SideState, State, of_side, with_side, add_version, reach_to, mark}
use Rattle.game_history.specs.Legal.{CountersVersion, IsNoteFor, Fits}
use Rattle.game_board.specs.declared.entry.Entry.TheVariants as entry
use Rattle.game_board.specs.declared.why.WideNote.{WideNote}
use Rattle.game_board.specs.Board.{WrittenBoard, state_of, with_entry}
use Rattle.game_board.specs.Entries.{IsWide, wideness_of}
use Rattle.game_board.specs.Replies.{IsUndecided, IsFresh, IsNews, joint_nodes, BelongsTo, IsOnVersion, IsNotedAlready}
use Rattle.game_board.specs.declared.half.Half.{Half}
use Rattle.game_board.specs.declared.halves.Halves.{Halves}
use Rattle.game_board.specs.Half.{half_of, with_half, with_reach, with_note, Grows}
use Rattle.game_board.specs.Kept.{Tally, IsBoard}
use Rattle.game_board.proofs.Keeping.{problem_is, keep_entry}
use Rattle.game_board.proofs.HalfStates.{side_is, held_matches, held_tables, added_matches, added_tables, same_exists, same_forall, noted_matches, noted_tables, spent_matches, large_matches}

-- ---- what a change of one side leaves

over_same : (side : Side) (x : SideState) (st : State) → (with_side side x st).is_over ≡ st.is_over
over_same Exists x st = refl
over_same Forall x st = refl

own_problem : {D : Type 0} → (side : Side) (h : Half D) (p : Halves D) → h.problem ≡ (half_of side p).problem → (with_half side h p).exists.problem ≡ p.exists.problem
own_problem {D} Exists h p e = e
own_problem {D} Forall h p e = refl

rival_problem : {D : Type 0} → (side : Side) (h : Half D) (p : Halves D) → h.problem ≡ (half_of side p).problem → (with_half side h p).forall.problem ≡ p.forall.problem
rival_problem {D} Exists h p e = refl
rival_problem {D} Forall h p e = e

-- ---- the counter is one in the history's sense

follows_by : (s : Sort) (S : Skeleton) (ps qs : List Quant) → ps ≡ qs → Follows S s ps 0 → Follows S s qs 0
follows_by s S ps qs e f = subst (λ (xs : List Quant). Follows S s xs 0) e f

pub counters_version : {D : Type 0} → (s : Sort) (b : WrittenBoard D) (p : Halves D) (t : Tally) (room : ℕ) (c : WrittenCounter) (v : ℕ) → IsBoard s b p t room → IsCounter s c → IsFresh s b c v → CountersVersion s (problem_of b.problem) (state_of s b) c.side v (skeleton_of c.paths.tree)
counters_version {D} s b p t room c v k i f =
    let q : problem_of c.problem ≡ problem_for s c.side (problem_of b.problem) = ap problem_of f.attacks.problem ∙ problem_is s b p t room c.side k in
    record {
      follows = follows_by s (skeleton_of c.paths.tree) c.paths.prefix (problem_for s c.side (problem_of b.problem)).prefix (i.own_prefix ∙ ap (λ (P : Problem). P.prefix) q) i.own.follows;
      attacked = skeleton_of c.against.tree;
      there = f.attacks.there;
      above = f.above;
      selected = subst (λ (P : Problem). Selected s P (skeleton_of c.against.tree) (skeleton_of c.paths.tree)) q i.selected;
      beats = subst (λ (P : Problem). Beats s P (skeleton_of c.paths.tree) (skeleton_of c.against.tree)) q i.beats;
    }

-- ---- each kind of entry

pub keep_held : {D : Type 0} → (s : Sort) (b : WrittenBoard D) (p : Halves D) (t : Tally) (room more : ℕ) (c : WrittenCounter) (v : ℕ) → IsBoard s b p t room → IsCounter s c → IsFresh s b c v → In (skeleton_of c.paths.tree) (of_side c.side (state_of s b)).newest → room ≤ more → IsBoard s (with_entry b (entry.Held c.side v c.paths)) (with_half c.side (with_reach v (half_of c.side p)) p) t more
keep_held {D} s b p t room more c v k i f n r =
    keep_entry s b p (with_half c.side (with_reach v (half_of c.side p)) p) t t room more (entry.Held c.side v c.paths) k f.open_game (counters_version s b p t room c v k i f, n)
    (held_matches c.side p t (state_of s b) v k.matches) (over_same c.side (reach_to v (of_side c.side (state_of s b))) (state_of s b) ∙ f.open_game)
    (own_problem c.side (with_reach v (half_of c.side p)) p refl) (rival_problem c.side (with_reach v (half_of c.side p)) p refl) (held_tables c.side p v b.rounds k.tables) r

pub keep_spent : {D : Type 0} → (s : Sort) (b : WrittenBoard D) (p : Halves D) (t : Tally) (room more : ℕ) (c : WrittenCounter) (v : ℕ) → IsBoard s b p t room → IsCounter s c → IsFresh s b c v → IsNews s b c → (state_of s b).rounds ≡ b.rounds → t.spent ≡ false → room ≤ more → IsBoard s (with_entry b (entry.Spent c.side v c.paths)) p (record { added = t.added; spent = true; large = t.large }) more
keep_spent {D} s b p t room more c v k i f n e x r =
    keep_entry s b p p t (record { added = t.added; spent = true; large = t.large }) room more (entry.Spent c.side v c.paths) k f.open_game (counters_version s b p t room c v k i f, n, e, k.matches.spent ∙ x)
    (spent_matches p t (state_of s b) k.matches) f.open_game refl refl k.tables r

pub keep_large : {D : Type 0} → (s : Sort) (b : WrittenBoard D) (p : Halves D) (t : Tally) (room more : ℕ) (c : WrittenCounter) (v n : ℕ) → IsBoard s b p t room → IsCounter s c → IsFresh s b c v → IsNews s b c → (state_of s b).rounds < b.rounds → n ≡ joint_nodes s b c → node_limit < n → t.large ≡ false → room ≤ more → IsBoard s (with_entry b (entry.TooLarge c.side v c.paths n)) p (record { added = t.added; spent = t.spent; large = true }) more
keep_large {D} s b p t room more c v n k i f w l e o x r =
    keep_entry s b p p t (record { added = t.added; spent = t.spent; large = true }) room more (entry.TooLarge c.side v c.paths n) k f.open_game (counters_version s b p t room c v k i f, w, l, e, o, k.matches.large ∙ x)
    (large_matches p t (state_of s b) k.matches) f.open_game refl refl k.tables r

pub keep_added : {D : Type 0} → (s : Sort) (b : WrittenBoard D) (p q : Halves D) (t : Tally) (room more : ℕ) (c : WrittenCounter) (v m : ℕ) → IsBoard s b p t room → IsCounter s c → IsFresh s b c v → IsNews s b c → (state_of s b).rounds < b.rounds → Grows (skeleton_of c.paths.tree) v m (half_of c.side p) (half_of c.side q) → half_of (other c.side) q ≡ half_of (other c.side) p → room ≤ more → IsBoard s (with_entry b (entry.Added c.side v c.paths m)) q (record { added = t.added + 1; spent = t.spent; large = t.large }) more
keep_added {D} s b p q t room more c v m k i f n l g e r =
    let x = side_is c.side p t (state_of s b) k.matches in
    keep_entry s b p q t (record { added = t.added + 1; spent = t.spent; large = t.large }) room more (entry.Added c.side v c.paths m) k f.open_game
    (counters_version s b p t room c v k i f, n, l, g.within (of_side c.side (state_of s b)) x, g.number (of_side c.side (state_of s b)) x)
    (added_matches c.side p q t (state_of s b) (skeleton_of c.paths.tree) v m k.matches g e) (over_same c.side (add_version (skeleton_of c.paths.tree) v (of_side c.side (state_of s b))) (state_of s b) ∙ f.open_game)
    (same_exists c.side p q (skeleton_of c.paths.tree) v m g e) (same_forall c.side p q (skeleton_of c.paths.tree) v m g e) (added_tables c.side p q (skeleton_of c.paths.tree) v m b.rounds k.tables g e) r

-- ---- notes

note_fits : (s : Sort) (sys : System) (y : Wideness) → BelongsTo sys y → IsWide s y → IsNoteFor s sys y
note_fits s sys (cube c z) b w = (b, w)
note_fits s sys (choice p x z) b w = b

pub keep_noted : {D : Type 0} → (s : Sort) (b : WrittenBoard D) (p : Halves D) (t : Tally) (room more : ℕ) (n : WideNote D) (v : ℕ) → IsBoard s b p t room → IsUndecided s b → IsOnVersion s b n v → IsWide s (wideness_of n.why) → ¬ IsNotedAlready s b n.side v → v < length (half_of n.side p).noted → room ≤ more → IsBoard s (with_entry b (entry.Noted n.side v n.why)) (with_half n.side (with_note v (half_of n.side p)) p) t more
keep_noted {D} s b p t room more n v k o i w f l r =
    keep_entry s b p (with_half n.side (with_note v (half_of n.side p)) p) t t room more (entry.Noted n.side v n.why) k o
    (record { tree = i.belongs.tree; there = i.belongs.there; says = note_fits s (system s (problem_for s n.side (problem_of b.problem)) i.belongs.tree) (wideness_of n.why) i.belongs.says w }, f)
    (noted_matches n.side p t (state_of s b) v l k.matches) (over_same n.side (mark v (of_side n.side (state_of s b))) (state_of s b) ∙ o)
    (own_problem n.side (with_note v (half_of n.side p)) p refl) (rival_problem n.side (with_note v (half_of n.side p)) p refl) (noted_tables n.side p v b.rounds k.tables) r

-- the note fits
pub note_legal : {D : Type 0} → (s : Sort) (b : WrittenBoard D) (n : WideNote D) (v : ℕ) → IsOnVersion s b n v → IsWide s (wideness_of n.why) → ¬ IsNotedAlready s b n.side v → Fits s (problem_of b.problem) b.rounds (state_of s b) (noted n.side v (wideness_of n.why))
note_legal {D} s b n v i w f =
    (record { tree = i.belongs.tree; there = i.belongs.there; says = note_fits s (system s (problem_for s n.side (problem_of b.problem)) i.belongs.tree) (wideness_of n.why) i.belongs.says w }, f)
