-- A board that is opened, given one more entry, and closed again.
use Rattle.std.specs.Prelude.{ℕ, ◌+◌, ◌<◌, ◌≤◌, ◌≡◌, true, false, Option, Some, List, [], ◌∷◌, ◌++◌, length}
use Rattle.std.proofs.Common.{arith, ap, ap₂, ◌∙◌, subst, refl}
use Rattle.lin_term.specs.declared.Sort.{Sort}
use Rattle.dom_core.specs.declared.Side.{Side}
use Rattle.dom_core.specs.Problem.{problem_of}
use Rattle.dom_core.specs.Sides.{other}
use Rattle.game_tree.specs.Skeleton.{node_limit}
use Rattle.game_tree.specs.Union.{In}
use Rattle.game_tree.specs.View.{skeleton_of}
use Rattle.game_tree.specs.Written.{WrittenSkeleton}
use Rattle.term_select.specs.Counter.{WrittenCounter, IsCounter}
use Rattle.game_history.specs.History.{of_side}
use Rattle.proof_rules.specs.Won.{WonGame}
use Rattle.game_board.specs.declared.entry.Entry.{Entry}
use Rattle.game_board.specs.declared.entry.Entry.TheVariants as entry
use Rattle.game_board.specs.declared.halves.Halves.{Halves}
use Rattle.game_board.specs.declared.why.WideNote.{WideNote}
use Rattle.game_board.specs.Entries.{IsWide, wideness_of, entries_of}
use Rattle.game_board.specs.Board.{WrittenBoard, state_of, with_entry, with_verdict}
use Rattle.game_board.specs.Replies.{IsUndecided, IsFresh, IsNews, joint_nodes, IsOnVersion, IsNotedAlready}
use Rattle.game_board.specs.Half.{half_of, with_half, with_reach, with_note, Grows}
use Rattle.game_board.specs.Kept.{Tally, IsBoard, EndsGame, board_of}
use Rattle.game_history.proofs.Longest.{version_within}
use Rattle.game_board.proofs.HalfStates.{table_is}
use Rattle.game_board.proofs.Keeping.{opened, closed, is_board_of, keep_verdict}
use Rattle.game_board.proofs.Fitting.{keep_held, keep_spent, keep_large, keep_added, keep_noted}

-- these parts are a board, and this one
pub record IsClosed {D : Type 0} (s : Sort) (b : WrittenBoard D) (h : Halves D) (t : Tally) (more r : ℕ) (items : List (Entry D)) (w : Option WonGame) : Type 0 where
  pub keeps : IsBoard s (board_of h r items w) h t more
  pub is : board_of h r items w ≡ b

closes : {D : Type 0} → (s : Sort) (b : WrittenBoard D) (q h : Halves D) (t : Tally) (room more r : ℕ) (items : List (Entry D)) (w : Option WonGame) → IsBoard s b q t room → h ≡ q → r ≡ b.rounds → items ≡ b.history → w ≡ b.won → room ≤ more → IsClosed s b h t more r items w
closes {D} s b q h t room more r items w k x y z o m = record {
  keeps = closed s b q h t room more r items w k x y z o m;
  is = is_board_of s b q h t room r items w k x y z o;
}

one_more : {D : Type 0} → (b : WrittenBoard D) (old items : List (Entry D)) (e f : Entry D) → old ≡ b.history → items ≡ old ++ f ∷ [] → f ≡ e → items ≡ b.history ++ e ∷ []
one_more {D} b old items e f x y z = y ∙ ap₂ (λ (xs : List (Entry D)) (g : Entry D). xs ++ g ∷ []) x z

pub held_closes : {D : Type 0} → (s : Sort) (b : WrittenBoard D) (p h : Halves D) (t : Tally) (room more r : ℕ) (old items : List (Entry D)) (w : Option WonGame) (c : WrittenCounter) (side : Side) (C : WrittenSkeleton) (v : ℕ) → board_of p r old w ≡ b → IsBoard s (board_of p r old w) p t room → IsCounter s c → IsFresh s b c v → In (skeleton_of c.paths.tree) (of_side c.side (state_of s b)).newest → side ≡ c.side → C ≡ c.paths → h ≡ with_half side (with_reach v (half_of side p)) p → items ≡ old ++ entry.Held side v C ∷ [] → room ≤ more → IsClosed s (with_entry b (entry.Held c.side v c.paths)) h t more r items w
held_closes {D} s b p h t room more r old items w c side C v e k i f n x y z j m =
    closes s (with_entry b (entry.Held c.side v c.paths)) (with_half c.side (with_reach v (half_of c.side p)) p) h t room more r items w
    (keep_held s b p t room room c v (opened s b p t room r old w e k) i f n (omega arith))
    (subst (λ (a : Side). h ≡ with_half a (with_reach v (half_of a p)) p) x z)
    (ap (λ (o : WrittenBoard D). o.rounds) e)
    (one_more b old items (entry.Held c.side v c.paths) (entry.Held side v C) (ap (λ (o : WrittenBoard D). o.history) e) j (ap₂ (λ (a : Side) (S : WrittenSkeleton). let o : Entry D = entry.Held a v S in o) x y))
    (ap (λ (o : WrittenBoard D). o.won) e) m

pub spent_closes : {D : Type 0} → (s : Sort) (b : WrittenBoard D) (p : Halves D) (t : Tally) (room more r : ℕ) (old items : List (Entry D)) (w : Option WonGame) (c : WrittenCounter) (side : Side) (C : WrittenSkeleton) (v : ℕ) → board_of p r old w ≡ b → IsBoard s (board_of p r old w) p t room → IsCounter s c → IsFresh s b c v → IsNews s b c → (state_of s b).rounds ≡ b.rounds → t.spent ≡ false → side ≡ c.side → C ≡ c.paths → items ≡ old ++ entry.Spent side v C ∷ [] → room ≤ more → IsClosed s (with_entry b (entry.Spent c.side v c.paths)) p (record { added = t.added; spent = true; large = t.large }) more r items w
spent_closes {D} s b p t room more r old items w c side C v e k i f n a u x y j m =
    closes s (with_entry b (entry.Spent c.side v c.paths)) p p (record { added = t.added; spent = true; large = t.large }) room more r items w
    (keep_spent s b p t room room c v (opened s b p t room r old w e k) i f n a u (omega arith)) refl
    (ap (λ (o : WrittenBoard D). o.rounds) e)
    (one_more b old items (entry.Spent c.side v c.paths) (entry.Spent side v C) (ap (λ (o : WrittenBoard D). o.history) e) j (ap₂ (λ (g : Side) (S : WrittenSkeleton). let o : Entry D = entry.Spent g v S in o) x y))
    (ap (λ (o : WrittenBoard D). o.won) e) m

pub large_closes : {D : Type 0} → (s : Sort) (b : WrittenBoard D) (p : Halves D) (t : Tally) (room more r : ℕ) (old items : List (Entry D)) (w : Option WonGame) (c : WrittenCounter) (side : Side) (C : WrittenSkeleton) (v n : ℕ) → board_of p r old w ≡ b → IsBoard s (board_of p r old w) p t room → IsCounter s c → IsFresh s b c v → IsNews s b c → (state_of s b).rounds < b.rounds → n ≡ joint_nodes s b c → node_limit < n → t.large ≡ false → side ≡ c.side → C ≡ c.paths → items ≡ old ++ entry.TooLarge side v C n ∷ [] → room ≤ more → IsClosed s (with_entry b (entry.TooLarge c.side v c.paths n)) p (record { added = t.added; spent = t.spent; large = true }) more r items w
large_closes {D} s b p t room more r old items w c side C v n e k i f a l d g u x y j m =
    closes s (with_entry b (entry.TooLarge c.side v c.paths n)) p p (record { added = t.added; spent = t.spent; large = true }) room more r items w
    (keep_large s b p t room room c v n (opened s b p t room r old w e k) i f a l d g u (omega arith)) refl
    (ap (λ (o : WrittenBoard D). o.rounds) e)
    (one_more b old items (entry.TooLarge c.side v c.paths n) (entry.TooLarge side v C n) (ap (λ (o : WrittenBoard D). o.history) e) j (ap₂ (λ (q : Side) (S : WrittenSkeleton). let o : Entry D = entry.TooLarge q v S n in o) x y))
    (ap (λ (o : WrittenBoard D). o.won) e) m

pub added_closes : {D : Type 0} → (s : Sort) (b : WrittenBoard D) (p h : Halves D) (t : Tally) (room more r : ℕ) (old items : List (Entry D)) (w : Option WonGame) (c : WrittenCounter) (side : Side) (C : WrittenSkeleton) (v m : ℕ) → board_of p r old w ≡ b → IsBoard s (board_of p r old w) p t room → IsCounter s c → IsFresh s b c v → IsNews s b c → (state_of s b).rounds < b.rounds → side ≡ c.side → C ≡ c.paths → Grows (skeleton_of c.paths.tree) v m (half_of side p) (half_of side h) → half_of (other side) h ≡ half_of (other side) p → items ≡ old ++ entry.Added side v C m ∷ [] → room ≤ more → IsClosed s (with_entry b (entry.Added c.side v c.paths m)) h (record { added = t.added + 1; spent = t.spent; large = t.large }) more r items w
added_closes {D} s b p h t room more r old items w c side C v m e k i f n l x y g z j o =
    closes s (with_entry b (entry.Added c.side v c.paths m)) h h (record { added = t.added + 1; spent = t.spent; large = t.large }) room more r items w
    (keep_added s b p h t room room c v m (opened s b p t room r old w e k) i f n l
    (subst (λ (a : Side). Grows (skeleton_of c.paths.tree) v m (half_of a p) (half_of a h)) x g)
    (subst (λ (a : Side). half_of (other a) h ≡ half_of (other a) p) x z) (omega arith)) refl
    (ap (λ (a : WrittenBoard D). a.rounds) e)
    (one_more b old items (entry.Added c.side v c.paths m) (entry.Added side v C m) (ap (λ (a : WrittenBoard D). a.history) e) j (ap₂ (λ (a : Side) (S : WrittenSkeleton). let q : Entry D = entry.Added a v S m in q) x y))
    (ap (λ (a : WrittenBoard D). a.won) e) o

pub noted_closes : {D : Type 0} → (s : Sort) (b : WrittenBoard D) (p h : Halves D) (t : Tally) (room more r : ℕ) (old items : List (Entry D)) (w : Option WonGame) (n : WideNote D) (v : ℕ) → board_of p r old w ≡ b → IsBoard s (board_of p r old w) p t room → IsUndecided s b → IsOnVersion s b n v → IsWide s (wideness_of n.why) → ¬ IsNotedAlready s b n.side v → v < length (half_of n.side p).noted → h ≡ with_half n.side (with_note v (half_of n.side p)) p → items ≡ old ++ entry.Noted n.side v n.why ∷ [] → room ≤ more → IsClosed s (with_entry b (entry.Noted n.side v n.why)) h t more r items w
noted_closes {D} s b p h t room more r old items w n v e k o i a f l z j m =
    closes s (with_entry b (entry.Noted n.side v n.why)) (with_half n.side (with_note v (half_of n.side p)) p) h t room more r items w
    (keep_noted s b p t room room n v (opened s b p t room r old w e k) o i a f l (omega arith)) z
    (ap (λ (x : WrittenBoard D). x.rounds) e)
    (one_more b old items (entry.Noted n.side v n.why) (entry.Noted n.side v n.why) (ap (λ (x : WrittenBoard D). x.history) e) j refl)
    (ap (λ (x : WrittenBoard D). x.won) e) m

pub end_closes : {D : Type 0} → (s : Sort) (b : WrittenBoard D) (p : Halves D) (t : Tally) (room more r : ℕ) (old items : List (Entry D)) (was : Option WonGame) (w : WonGame) (e : Entry D) → board_of p r old was ≡ b → IsBoard s (board_of p r old was) p t room → EndsGame s b e w → items ≡ old ++ e ∷ [] → room ≤ more → IsClosed s (with_verdict b e w) p t more r items (Some w)
end_closes {D} s b p t room more r old items was w e x k n j m =
    closes s (with_verdict b e w) p p t room more r items (Some w) (keep_verdict s b p t room room e w (opened s b p t room r old was x k) n (omega arith)) refl
    (ap (λ (o : WrittenBoard D). o.rounds) x)
    (one_more b old items e e (ap (λ (o : WrittenBoard D). o.history) x) j refl)
    refl m

-- a version that is there has a place in the table of notes
pub note_room : {D : Type 0} → (s : Sort) (b : WrittenBoard D) (p : Halves D) (t : Tally) (room r : ℕ) (items : List (Entry D)) (w : Option WonGame) (n : WideNote D) (v : ℕ) → board_of p r items w ≡ b → IsBoard s (board_of p r items w) p t room → IsOnVersion s b n v → v < length (half_of n.side p).noted
note_room {D} s b p t room r items w n v e k i =
    let o = opened s b p t room r items w e k in
    let l = table_is n.side p b.rounds o.tables in
    let m = version_within s (problem_of b.problem) b.rounds (entries_of b.history) n.side v i.belongs.tree o.legal i.belongs.there in
    omega arith
