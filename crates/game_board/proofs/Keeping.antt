-- One more entry on a board.
use Rattle.std.specs.Prelude.{ℕ, suc, ◌+◌, ◌*◌, ◌<◌, ◌≤◌, ◌≡◌, ◌⊎◌, true, false, Option, Some, None, List, [], ◌∷◌, ◌++◌, length}
use Rattle.std.proofs.Common.{arith, ap, ap₂, ◌∙◌, sym, subst, refl, inl, inr, length-append}
use Rattle.lin_term.specs.declared.Sort.{Sort}
use Rattle.dom_core.specs.declared.Side.{Side}
use Rattle.dom_core.specs.declared.Side.TheVariants.{Exists, Forall}
use Rattle.dom_core.specs.Game.{Problem, dual}
use Rattle.dom_core.specs.Problem.{WrittenProblem, IsProblem, problem_of}
use Rattle.dom_core.specs.Sides.{problem_for}
use Rattle.game_tree.specs.View.{skeleton_of}
use Rattle.game_history.specs.History.{Entry, State, of_side, version, first_state, begin, after, replay, end_game}
use Rattle.game_history.specs.History as history
use Rattle.game_history.specs.Legal.{Fits, Legal}
use Rattle.game_history.proofs.Pushed.{replay_push, legal_push}
use Rattle.game_history.proofs.Longest.{few_entries, rounds_within}
use Rattle.proof_rules.specs.Won.{WonGame}
use Rattle.game_board.specs.declared.entry.Entry.{Entry as Written}
use Rattle.game_board.specs.Entries.{entry_of, entries_of}
use Rattle.game_board.specs.Board.{WrittenBoard, problem_on, state_of, with_entry, with_verdict}
use Rattle.game_board.specs.Replies.{IsUndecided}
use Rattle.game_board.specs.declared.halves.Halves.{Halves}
use Rattle.game_board.specs.Half.{IsHalfOf}
use Rattle.game_board.specs.Kept.{Tally, Matches, HasTables, IsEnding, IsDecided, IsBoard, EndsGame, board_of}

-- ---- entries

pub entries_push : {D : Type 0} → (H : List (Written D)) (e : Written D) → entries_of (H ++ e ∷ []) ≡ entries_of H ++ entry_of e ∷ []
entries_push {D} [] e = refl
entries_push {D} (x ∷ H) e = ap (λ (es : List Entry). entry_of x ∷ es) (entries_push H e)

pub entries_length : {D : Type 0} → (H : List (Written D)) → length (entries_of H) ≡ length H
entries_length {D} [] = refl
entries_length {D} (x ∷ H) = ap suc (entries_length H)

pub state_push : {D : Type 0} → (s : Sort) (b : WrittenBoard D) (e : Written D) → state_of s (with_entry b e) ≡ after (state_of s b) (entry_of e)
state_push {D} s b e =
    ap (λ (es : List Entry). replay s (problem_of b.problem) es) (entries_push b.history e)
    ∙ replay_push (begin s (problem_of b.problem)) (entries_of b.history) (entry_of e)

legal_more : {D : Type 0} → (s : Sort) (b : WrittenBoard D) (e : Written D) → Legal s (problem_of b.problem) b.rounds (entries_of b.history) → IsUndecided s b → Fits s (problem_of b.problem) b.rounds (state_of s b) (entry_of e) → Legal s (problem_of b.problem) b.rounds (entries_of (b.history ++ e ∷ []))
legal_more {D} s b e l o f =
    subst (λ (es : List Entry). Legal s (problem_of b.problem) b.rounds es) (sym (entries_push b.history e))
    (legal_push s (problem_of b.problem) b.rounds (begin s (problem_of b.problem)) (entries_of b.history) (entry_of e) l o f)

-- there is room for the entry
pub room_for : {D : Type 0} → (s : Sort) (b : WrittenBoard D) (p : Halves D) (t : Tally) (room : ℕ) (e : Written D) → IsBoard s b p t room → IsUndecided s b → Fits s (problem_of b.problem) b.rounds (state_of s b) (entry_of e) → length b.history + 1 ≤ room
room_for {D} s b p t room e k o f =
    let n = few_entries s (problem_of b.problem) b.rounds (entries_of (b.history ++ e ∷ [])) (legal_more s b e k.legal o f) in
    let l = entries_length (b.history ++ e ∷ []) in
    let m = length-append b.history (e ∷ []) in
    let c = k.capacity in
    omega arith

-- ---- the problems of the sides

pub problem_is : {D : Type 0} → (s : Sort) (b : WrittenBoard D) (p : Halves D) (t : Tally) (room : ℕ) (side : Side) → IsBoard s b p t room → problem_of (problem_on side b) ≡ problem_for s side (problem_of b.problem)
problem_is {D} s b p t room Exists k = refl
problem_is {D} s b p t room Forall k = k.dual_is

-- ---- the board with one more entry

still_open : {D : Type 0} → (s : Sort) (b : WrittenBoard D) (e : Written D) (w : Option WonGame) → IsUndecided s b → IsDecided s b w → (after (state_of s b) (entry_of e)).is_over ≡ false → IsDecided s (with_entry b e) w
still_open {D} s b e None o d h = ap (λ (st : State). st.is_over) (state_push s b e) ∙ h
still_open {D} s b e (Some w) o d h = let x : true ≡ false = sym d.0 ∙ o in absurd (cc)

pub keep_entry : {D : Type 0} → (s : Sort) (b : WrittenBoard D) (p q : Halves D) (t u : Tally) (room more : ℕ) (e : Written D) → IsBoard s b p t room → IsUndecided s b → Fits s (problem_of b.problem) b.rounds (state_of s b) (entry_of e) → Matches q u (after (state_of s b) (entry_of e)) → (after (state_of s b) (entry_of e)).is_over ≡ false → q.exists.problem ≡ p.exists.problem → q.forall.problem ≡ p.forall.problem → HasTables q b.rounds → room ≤ more → IsBoard s (with_entry b e) q u more
keep_entry {D} s b p q t u room more e k o f m h x y n r = record {
  problem = k.problem;
  dual_is = k.dual_is;
  own = x ∙ k.own;
  rival = y ∙ k.rival;
  few = k.few;
  legal = legal_more s b e k.legal o f;
  matches = subst (λ (st : State). Matches q u st) (sym (state_push s b e)) m;
  tables = n;
  decided = still_open s b e b.won o k.decided h;
  capacity = let c = k.capacity in omega arith;
}

-- ---- the end

ended : {D : Type 0} → (p : Halves D) (t : Tally) (st : State) → Matches p t st → Matches p t (end_game st)
ended {D} p t st m = record { exists = m.exists; forall = m.forall; added = m.added; spent = m.spent; large = m.large }

pub over_after : {D : Type 0} → (s : Sort) (b : WrittenBoard D) (side : Side) (e : Entry) (w : WonGame) → IsEnding s b side e w → after (state_of s b) e ≡ end_game (state_of s b)
over_after {D} s b side e w i = by i.by
  where
    by : ((v : ℕ) × (e ≡ history.won side v) × (version (of_side side (state_of s b)) v ≡ Some (skeleton_of w.tree))) ⊎ (e ≡ history.found side (skeleton_of w.tree)) → after (state_of s b) e ≡ end_game (state_of s b)
    by (inl h) = ap (λ (x : Entry). after (state_of s b) x) h.1
    by (inr h) = ap (λ (x : Entry). after (state_of s b) x) h

same_problem : {D : Type 0} → (side : Side) (b : WrittenBoard D) (e : Written D) (w : WonGame) → problem_on side (with_verdict b e w) ≡ problem_on side b
same_problem {D} Exists b e w = refl
same_problem {D} Forall b e w = refl

same_side : (side : Side) (st : State) → of_side side (end_game st) ≡ of_side side st
same_side Exists st = refl
same_side Forall st = refl

-- the state after the end
at_end : {D : Type 0} → (s : Sort) (b : WrittenBoard D) (e : Written D) (w : WonGame) (side : Side) → IsEnding s b side (entry_of e) w → state_of s (with_verdict b e w) ≡ end_game (state_of s b)
at_end {D} s b e w side i = state_push s b e ∙ over_after s b side (entry_of e) w i

still_ending : {D : Type 0} → (s : Sort) (b : WrittenBoard D) (e : Written D) (w : WonGame) (side : Side) → IsEnding s b side (entry_of e) w → IsEnding s (with_verdict b e w) side (entry_of e) w
still_ending {D} s b e w side i = record { problem = i.problem ∙ sym (same_problem side b e w); by = by i.by }
  where
    same : of_side side (state_of s b) ≡ of_side side (state_of s (with_verdict b e w))
    same = sym (ap (of_side side) (at_end s b e w side i) ∙ same_side side (state_of s b))

    by : ((v : ℕ) × (entry_of e ≡ history.won side v) × (version (of_side side (state_of s b)) v ≡ Some (skeleton_of w.tree))) ⊎ (entry_of e ≡ history.found side (skeleton_of w.tree)) → ((v : ℕ) × (entry_of e ≡ history.won side v) × (version (of_side side (state_of s (with_verdict b e w))) v ≡ Some (skeleton_of w.tree))) ⊎ (entry_of e ≡ history.found side (skeleton_of w.tree))
    by (inl h) = inl (h.0, h.1, subst (λ (x : history.SideState). version x h.0 ≡ Some (skeleton_of w.tree)) same h.2)
    by (inr h) = inr h

pub keep_verdict : {D : Type 0} → (s : Sort) (b : WrittenBoard D) (p : Halves D) (t : Tally) (room more : ℕ) (e : Written D) (w : WonGame) → IsBoard s b p t room → EndsGame s b e w → room ≤ more → IsBoard s (with_verdict b e w) p t more
keep_verdict {D} s b p t room more e w k x r = record {
  problem = k.problem;
  dual_is = k.dual_is;
  own = k.own;
  rival = k.rival;
  few = k.few;
  legal = legal_more s b e k.legal x.open_game x.fits;
  matches = subst (λ (st : State). Matches p t st) (sym (at_end s b e w x.side x.is_ending)) (ended p t (state_of s b) k.matches);
  tables = k.tables;
  decided = (ap (λ (st : State). st.is_over) (at_end s b e w x.side x.is_ending), record { side = x.side; before = entries_of b.history; ending = entry_of e; last = entries_push b.history e; is_ending = still_ending s b e w x.side x.is_ending });
  capacity = let c = k.capacity in omega arith;
}

-- ---- a board that is opened, and closed again

pub opened : {D : Type 0} → (s : Sort) (b : WrittenBoard D) (h : Halves D) (t : Tally) (room r : ℕ) (items : List (Written D)) (w : Option WonGame) → board_of h r items w ≡ b → IsBoard s (board_of h r items w) h t room → IsBoard s b h t room
opened {D} s b h t room r items w e k = subst (λ (x : WrittenBoard D). IsBoard s x h t room) e k

more_room : {D : Type 0} → (s : Sort) (b : WrittenBoard D) (q : Halves D) (t : Tally) (room more : ℕ) → IsBoard s b q t room → room ≤ more → IsBoard s b q t more
more_room {D} s b q t room more k r = record {
  problem = k.problem;
  dual_is = k.dual_is;
  own = k.own;
  rival = k.rival;
  few = k.few;
  legal = k.legal;
  matches = k.matches;
  tables = k.tables;
  decided = k.decided;
  capacity = let c = k.capacity in omega arith;
}

pub is_board_of : {D : Type 0} → (s : Sort) (b : WrittenBoard D) (q h : Halves D) (t : Tally) (room r : ℕ) (items : List (Written D)) (w : Option WonGame) → IsBoard s b q t room → h ≡ q → r ≡ b.rounds → items ≡ b.history → w ≡ b.won → board_of h r items w ≡ b
is_board_of {D} s b q h t room r items w k x y z o =
    ap (λ (i : Halves D). let c : WrittenBoard D = board_of i r items w in c) x
    ∙ ap (λ (i : ℕ). let c : WrittenBoard D = board_of q i items w in c) y
    ∙ ap (λ (i : List (Written D)). let c : WrittenBoard D = board_of q b.rounds i w in c) z
    ∙ ap (λ (i : Option WonGame). let c : WrittenBoard D = board_of q b.rounds b.history i in c) o
    ∙ ap₂ (λ (P Q : WrittenProblem). let c : WrittenBoard D = record { problem = P; dual = Q; rounds = b.rounds; history = b.history; won = b.won } in c) k.own k.rival

pub closed : {D : Type 0} → (s : Sort) (b : WrittenBoard D) (q h : Halves D) (t : Tally) (room more r : ℕ) (items : List (Written D)) (w : Option WonGame) → IsBoard s b q t room → h ≡ q → r ≡ b.rounds → items ≡ b.history → w ≡ b.won → room ≤ more → IsBoard s (board_of h r items w) h t more
closed {D} s b q h t room more r items w k x y z o m =
    subst (λ (c : WrittenBoard D). IsBoard s c h t more) (sym (is_board_of s b q h t room r items w k x y z o))
    (subst (λ (i : Halves D). IsBoard s b i t more) (sym x) (more_room s b q t room more k m))

-- there is a place for the entry behind the others
pub room_left : {D : Type 0} → (s : Sort) (b : WrittenBoard D) (p : Halves D) (t : Tally) (room : ℕ) (e : Written D) (len : ℕ) (items : List (Written D)) → IsBoard s b p t room → IsUndecided s b → Fits s (problem_of b.problem) b.rounds (state_of s b) (entry_of e) → len ≡ length items → items ≡ b.history → len + 1 ≤ room
room_left {D} s b p t room e len items k o f l h =
    let r = room_for s b p t room e k o f in
    let n = ap (λ (xs : List (Written D)). length xs) h in
    omega arith

-- ---- the first board

pub started : {D : Type 0} → (s : Sort) (P Q : WrittenProblem) (p : Halves D) (rounds room : ℕ) → IsProblem s P → problem_of Q ≡ dual s (problem_of P) → rounds ≤ 4096 → p.exists.problem ≡ P → p.forall.problem ≡ Q → IsHalfOf p.exists (first_state (problem_of P)) → IsHalfOf p.forall (first_state (problem_of Q)) → length p.exists.noted ≡ suc rounds → length p.forall.noted ≡ suc rounds → 2 * rounds + 7 ≤ room → IsBoard s (board_of p rounds [] None) p (record { added = 0; spent = false; large = false }) room
started {D} s P Q p rounds room i d f x y h j m n r = record {
  problem = subst (λ (O : WrittenProblem). IsProblem s O) (sym x) i;
  dual_is = ap problem_of y ∙ d ∙ ap (λ (O : WrittenProblem). dual s (problem_of O)) (sym x);
  own = refl;
  rival = refl;
  few = f;
  legal = tt;
  matches = record {
    exists = subst (λ (O : WrittenProblem). IsHalfOf p.exists (first_state (problem_of O))) (sym x) h;
    forall = subst (λ (O : Problem). IsHalfOf p.forall (first_state O)) (d ∙ ap (λ (O : WrittenProblem). dual s (problem_of O)) (sym x)) j;
    added = refl;
    spent = refl;
    large = refl;
  };
  tables = record { exists = m; forall = n };
  decided = refl;
  capacity = r;
}

-- ---- the budget

pub no_round_left : {D : Type 0} → (s : Sort) (b : WrittenBoard D) (p : Halves D) (t : Tally) (room r : ℕ) → IsBoard s b p t room → r ≡ b.rounds → r ≤ t.added → (state_of s b).rounds ≡ b.rounds
no_round_left {D} s b p t room r k e l =
    let w = rounds_within s (problem_of b.problem) b.rounds (entries_of b.history) k.legal in
    let a = k.matches.added in
    omega arith

pub round_left : {D : Type 0} → (s : Sort) (b : WrittenBoard D) (p : Halves D) (t : Tally) (room r : ℕ) → IsBoard s b p t room → r ≡ b.rounds → t.added < r → (state_of s b).rounds < b.rounds
round_left {D} s b p t room r k e l = let a = k.matches.added in omega arith
