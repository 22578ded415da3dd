-- The turns of a play: the moves of a node one after the other, and what follows one.
use Rattle.std.specs.Prelude.{ℕ, zero, suc, ◌+◌, ◌<◌, ◌≤◌, ◌≡◌, ℤ, pos, nat_abs, Bool, true, false, Some, None, Result, Ok, Err, List, [], ◌∷◌, ◌++◌, drop, take, get_or, length, ◌-◌}
use Rattle.std.proofs.Common.{arith, ap, ap₂, ◌∙◌, sym, subst, length-append}
use Rattle.std.proofs.lemmas.List.{nil_from_length, take_rest}
use Rattle.lin_term.specs.declared.Sort.{Sort}
use Rattle.lin_term.specs.declared.Short.{Short}
use Rattle.lin_term.specs.declared.Short.TheVariants as short
use Rattle.lin_term.specs.declared.Wide.{Wide}
use Rattle.lin_term.specs.Linear.{Form, Value}
use Rattle.lin_term.specs.Fraction.{value_numbers}
use Rattle.lin_term.specs.Move.{Move}
use Rattle.lin_term.specs.Wide.{first_past, Capped, CappedWide}
use Rattle.lin_term.proofs.Capping.{past-append, past-append_some}
use Rattle.dom_core.specs.declared.Quant.{Quant}
use Rattle.dom_core.specs.declared.Quant.TheVariants.{Exists, Forall}
use Rattle.dom_core.specs.Game.{Matrix, flip_all}
use Rattle.game_tree.specs.declared.Tree.{Tree}
use Rattle.game_tree.specs.declared.Tree.TheVariants as trees
use Rattle.game_tree.specs.declared.Branch.{Branch}
use Rattle.game_tree.specs.Skeleton.{Skeleton, theirs, mine, Branches, IsMoveAt, Follows, EachFollows}
use Rattle.game_tree.specs.View.{skeleton_of, branches_of}
use Rattle.game_tree.proofs.Views.{seen_theirs, seen_mine, branches_at, branches_done}
use Rattle.game_play.specs.Worth.{row_worth, row_steps, quotient_with, move_worth, move_steps}
use Rattle.game_play.specs.Course.{Course, after, or_else, and_then, tested}
use Rattle.game_play.specs.Play.{first_branch, every_branch, with_move, play}
use Rattle.game_play.proofs.Courses.{Ends, Stops, Alike, alike_ends, alike_stops, alike_then, after_ends, after_stops, before_stops, and_stops, and_ends, and_on, or_stops, or_ends, or_on}

-- ---- the value of a move

pub row_past : (s : Sort) (m : Move) (vs : List Value) (f : Form) (z : ℤ) → f ≡ m.numer → first_past (row_steps vs f) ≡ Some z → first_past (move_steps s m vs) ≡ Some z
row_past s m vs f z e h =
    past-append_some (row_steps vs m.numer) (value_numbers (move_worth s m vs)) z (subst (λ (g : Form). first_past (row_steps vs g) ≡ Some z) e h)

worth_is : (s : Sort) (m : Move) (vs : List Value) (f : Form) (v : Value) (d : ℤ) → f ≡ m.numer → v ≡ row_worth vs f → d ≡ pos m.div → quotient_with s v (nat_abs d) ≡ move_worth s m vs
worth_is s m vs f v d e h g = ap₂ (λ (x : Value) (n : ℕ). quotient_with s x n) (h ∙ ap (row_worth vs) e) (ap nat_abs g)

move_told : (s : Sort) (m : Move) (vs : List Value) (r : Result Value Wide) → first_past (row_steps vs m.numer) ≡ None → CappedWide (value_numbers (move_worth s m vs)) (move_worth s m vs) r → CappedWide (move_steps s m vs) (move_worth s m vs) r
move_told s m vs (Ok v) n h = (past-append (row_steps vs m.numer) (value_numbers (move_worth s m vs)) n ∙ h.0, h.1)
move_told s m vs (Err w) n h = past-append (row_steps vs m.numer) (value_numbers (move_worth s m vs)) n ∙ h

pub move_answer : (s : Sort) (m : Move) (vs : List Value) (f : Form) (v : Value) (d : ℤ) (r : Result Value Wide) → f ≡ m.numer → (first_past (row_steps vs f) ≡ None) × (v ≡ row_worth vs f) → d ≡ pos m.div
    → CappedWide (value_numbers (quotient_with s v (nat_abs d))) (quotient_with s v (nat_abs d)) r → CappedWide (move_steps s m vs) (move_worth s m vs) r
move_answer s m vs f v d r e h g k =
    move_told s m vs r (subst (λ (x : Form). first_past (row_steps vs x) ≡ None) e h.0)
    (subst (λ (w : Value). CappedWide (value_numbers w) w r) (worth_is s m vs f v d e h.1 g) k)

-- ---- answers

abbrev pub Answers : Course → Result Bool (Short Wide) → Type 0
Answers c r = Capped c.numbers c.wins r

pub at_end : (qs : List Quant) (s : Sort) (m : Matrix) (S U : Skeleton) (vs ws : List Value) (a : Result Bool Wide) (r : Result Bool (Short Wide)) → length qs < 1 → ws ≡ vs
    → CappedWide (tested m ws).numbers (tested m ws).wins a → ((numbers : List ℤ) (b : Bool) → CappedWide numbers b a → Capped numbers b r) → Answers (play qs s m S U vs) r
at_end qs s m S U vs ws a r l e h k =
    subst (λ (rest : List Quant). Answers (play rest s m S U vs) r) (sym (nil_from_length qs (omega arith)))
    (subst (λ (xs : List Value). Answers (tested m xs) r) e (k (tested m ws).numbers (tested m ws).wins h))

after_answer : (zs : List ℤ) (c : Course) (r : Result Bool (Short Wide)) → first_past zs ≡ None → Answers c r → Answers (after zs c) r
after_answer zs c (Ok b) n h = after_ends zs c b n h
after_answer zs c (Err (short.Fault w)) n h = after_stops zs c w.number n h
after_answer zs c (Err short.Memory) n h = tt

-- the first of a prefix, and the rest
pub split_first : (qs : List Quant) (d : Quant) → 1 ≤ length qs → qs ≡ get_or qs 0 d ∷ take (length qs - 1) (drop 1 qs)
split_first [] d l = absurd (omega arith)
split_first (q ∷ qs) d l = ap (λ (rest : List Quant). q ∷ rest) (sym (take_rest (q ∷ qs) 1))

-- the move's value stands behind the others
pub longer : (vs ws : List Value) (v : Value) → ws ≡ vs ++ v ∷ [] → length ws ≡ suc (length vs)
longer vs ws v e = ap (λ (xs : List Value). length xs) e ∙ length-append vs (v ∷ []) ∙ omega arith

pub move_past : (s : Sort) (m : Move) (vs ws : List Value) (c : Course) (z : ℤ) → ws ≡ vs → first_past (move_steps s m ws) ≡ Some z → Stops (after (move_steps s m vs) c) z
move_past s m vs ws c z e h = before_stops (move_steps s m vs) c z (subst (λ (xs : List Value). first_past (move_steps s m xs) ≡ Some z) e h)

pub move_played : (qs : List Quant) (s : Sort) (M : Matrix) (m : Move) (S U : Skeleton) (vs ws xs : List Value) (v : Value) (r : Result Bool (Short Wide)) → ws ≡ vs → (first_past (move_steps s m ws) ≡ None) × (v ≡ move_worth s m ws)
    → xs ≡ vs ++ v ∷ [] → Answers (play qs s M S U xs) r → Answers (after (move_steps s m vs) (play qs s M S U (with_move s m vs))) r
move_played qs s M m S U vs ws xs v r e h g k =
    let f : v ≡ move_worth s m vs = h.1 ∙ ap (λ (ys : List Value). move_worth s m ys) e in
    after_answer (move_steps s m vs) (play qs s M S U (with_move s m vs)) r (subst (λ (ys : List Value). first_past (move_steps s m ys) ≡ None) e h.0)
    (subst (λ (ys : List Value). Answers (play qs s M S U ys) r) (g ∙ ap (λ (y : Value). vs ++ y ∷ []) f) k)

-- ---- the moves of a node

abbrev pub SomeFrom : List Branch → (Move → Skeleton → Course) → ℕ → Type 0
SomeFrom bs F i = Alike (first_branch (branches_of (drop i bs)) F) (first_branch (branches_of bs) F)

abbrev pub EveryFrom : List Branch → (Move → Skeleton → Course) → ℕ → Type 0
EveryFrom bs F i = Alike (every_branch (branches_of (drop i bs)) F) (every_branch (branches_of bs) F)

some_here : (bs : List Branch) (F : Move → Skeleton → Course) (i : ℕ) (b : Branch) → i < length bs → b ≡ get_or bs i b → SomeFrom bs F i
    → Alike (or_else (F b.term (skeleton_of b.rest)) (first_branch (branches_of (drop (i + 1) bs)) F)) (first_branch (branches_of bs) F)
some_here bs F i b l e a = subst (λ (xs : Branches). Alike (first_branch xs F) (first_branch (branches_of bs) F)) (branches_at bs i b l e) a

every_here : (bs : List Branch) (F : Move → Skeleton → Course) (i : ℕ) (b : Branch) → i < length bs → b ≡ get_or bs i b → EveryFrom bs F i
    → Alike (and_then (F b.term (skeleton_of b.rest)) (every_branch (branches_of (drop (i + 1) bs)) F)) (every_branch (branches_of bs) F)
every_here bs F i b l e a = subst (λ (xs : Branches). Alike (every_branch xs F) (every_branch (branches_of bs) F)) (branches_at bs i b l e) a

pub some_short : (bs : List Branch) (F : Move → Skeleton → Course) (i : ℕ) (b : Branch) (f : Short Wide) → i < length bs → b ≡ get_or bs i b → SomeFrom bs F i
    → Answers (F b.term (skeleton_of b.rest)) (Err f) → Answers (first_branch (branches_of bs) F) (Err f)
some_short bs F i b (short.Fault w) l e a h =
    let c = F b.term (skeleton_of b.rest) in
    let d = first_branch (branches_of (drop (i + 1) bs)) F in
    alike_stops (or_else c d) (first_branch (branches_of bs) F) w.number (some_here bs F i b l e a) (or_stops c d w.number h)
some_short bs F i b short.Memory l e a h = tt

pub some_won : (bs : List Branch) (F : Move → Skeleton → Course) (i : ℕ) (b : Branch) (w : Bool) → i < length bs → b ≡ get_or bs i b → SomeFrom bs F i → w ≡ true
    → Ends (F b.term (skeleton_of b.rest)) w → Ends (first_branch (branches_of bs) F) true
some_won bs F i b w l e a t h =
    let c = F b.term (skeleton_of b.rest) in
    let d = first_branch (branches_of (drop (i + 1) bs)) F in
    alike_ends (or_else c d) (first_branch (branches_of bs) F) true (some_here bs F i b l e a) (or_ends c d (subst (Ends c) t h))

pub some_more : (bs : List Branch) (F : Move → Skeleton → Course) (i : ℕ) (b : Branch) (w : Bool) → i < length bs → b ≡ get_or bs i b → SomeFrom bs F i → w ≡ false
    → Ends (F b.term (skeleton_of b.rest)) w → SomeFrom bs F (i + 1)
some_more bs F i b w l e a t h =
    let c = F b.term (skeleton_of b.rest) in
    let d = first_branch (branches_of (drop (i + 1) bs)) F in
    alike_then d (or_else c d) (first_branch (branches_of bs) F) (or_on c d (subst (Ends c) t h)) (some_here bs F i b l e a)

pub some_done : (bs : List Branch) (F : Move → Skeleton → Course) (i : ℕ) → length bs ≤ i → SomeFrom bs F i → Ends (first_branch (branches_of bs) F) false
some_done bs F i l a =
    let h = subst (λ (xs : Branches). Alike (first_branch xs F) (first_branch (branches_of bs) F)) (branches_done bs i l) a in (sym h.0, h.1)

pub every_short : (bs : List Branch) (F : Move → Skeleton → Course) (i : ℕ) (b : Branch) (f : Short Wide) → i < length bs → b ≡ get_or bs i b → EveryFrom bs F i
    → Answers (F b.term (skeleton_of b.rest)) (Err f) → Answers (every_branch (branches_of bs) F) (Err f)
every_short bs F i b (short.Fault w) l e a h =
    let c = F b.term (skeleton_of b.rest) in
    let d = every_branch (branches_of (drop (i + 1) bs)) F in
    alike_stops (and_then c d) (every_branch (branches_of bs) F) w.number (every_here bs F i b l e a) (and_stops c d w.number h)
every_short bs F i b short.Memory l e a h = tt

pub every_lost : (bs : List Branch) (F : Move → Skeleton → Course) (i : ℕ) (b : Branch) (w : Bool) → i < length bs → b ≡ get_or bs i b → EveryFrom bs F i → w ≡ false
    → Ends (F b.term (skeleton_of b.rest)) w → Ends (every_branch (branches_of bs) F) false
every_lost bs F i b w l e a t h =
    let c = F b.term (skeleton_of b.rest) in
    let d = every_branch (branches_of (drop (i + 1) bs)) F in
    alike_ends (and_then c d) (every_branch (branches_of bs) F) false (every_here bs F i b l e a) (and_ends c d (subst (Ends c) t h))

pub every_more : (bs : List Branch) (F : Move → Skeleton → Course) (i : ℕ) (b : Branch) (w : Bool) → i < length bs → b ≡ get_or bs i b → EveryFrom bs F i → w ≡ true
    → Ends (F b.term (skeleton_of b.rest)) w → EveryFrom bs F (i + 1)
every_more bs F i b w l e a t h =
    let c = F b.term (skeleton_of b.rest) in
    let d = every_branch (branches_of (drop (i + 1) bs)) F in
    alike_then d (and_then c d) (every_branch (branches_of bs) F) (and_on c d (subst (Ends c) t h)) (every_here bs F i b l e a)

pub every_done : (bs : List Branch) (F : Move → Skeleton → Course) (i : ℕ) → length bs ≤ i → EveryFrom bs F i → Ends (every_branch (branches_of bs) F) true
every_done bs F i l a =
    let h = subst (λ (xs : Branches). Alike (every_branch xs F) (every_branch (branches_of bs) F)) (branches_done bs i l) a in (sym h.0, h.1)

-- the moves of the owner, and those of the other player
abbrev pub own_course : List Quant → Sort → Matrix → Skeleton → List Value → Move → Skeleton → Course
own_course qs s M U vs m S = after (move_steps s m vs) (play qs s M S U (with_move s m vs))

abbrev pub other_course : List Quant → Sort → Matrix → Skeleton → List Value → Move → Skeleton → Course
other_course qs s M S vs m U = after (move_steps s m vs) (play qs s M S U (with_move s m vs))

-- the values are as before
pub values_same : (qs : List Quant) (s : Sort) (M : Matrix) (m : Move) (S U : Skeleton) (vs ws : List Value) (r : Result Bool (Short Wide)) → ws ≡ vs
    → Answers (after (move_steps s m ws) (play qs s M S U (with_move s m ws))) r → Answers (after (move_steps s m vs) (play qs s M S U (with_move s m vs))) r
values_same qs s M m S U vs ws r e h = subst (λ (xs : List Value). Answers (after (move_steps s m xs) (play qs s M S U (with_move s m xs))) r) e h

each_drop : (bs : List Branch) (i : ℕ) (s : Sort) (qs : List Quant) (k : ℕ) → EachFollows (branches_of bs) s qs k → EachFollows (branches_of (drop i bs)) s qs k
each_drop [] zero s qs k h = h
each_drop [] (suc i) s qs k h = h
each_drop (b ∷ bs) zero s qs k h = h
each_drop (b ∷ bs) (suc i) s qs k h = each_drop bs i s qs k h.3

pub branch_follows : (bs : List Branch) (s : Sort) (qs : List Quant) (k i : ℕ) (b : Branch) → i < length bs → b ≡ get_or bs i b → EachFollows (branches_of bs) s qs k → IsMoveAt s k b.term × Follows (skeleton_of b.rest) s qs (suc k)
branch_follows bs s qs k i b l e h =
    let f = subst (λ (xs : Branches). EachFollows xs s qs k) (branches_at bs i b l e) (each_drop bs i s qs k h) in (f.0, f.2)

-- ---- a node

mine_is : (T : Tree) (bs items : List Branch) → T ≡ trees.Mine bs → items ≡ bs → skeleton_of T ≡ mine (branches_of items)
mine_is T bs items e h = ap skeleton_of e ∙ seen_mine bs ∙ ap (λ (xs : List Branch). mine (branches_of xs)) (sym h)

theirs_is : (T t below : Tree) → T ≡ trees.Theirs t → below ≡ t → skeleton_of T ≡ theirs (skeleton_of below)
theirs_is T t below e h = ap skeleton_of e ∙ seen_theirs t ∙ ap (λ (x : Tree). theirs (skeleton_of x)) (sym h)

pub own_moves : (q : Quant) (T : Tree) (bs items : List Branch) (s : Sort) (qs : List Quant) (k : ℕ) → q ≡ Exists → T ≡ trees.Mine bs → items ≡ bs → Follows (skeleton_of T) s (q ∷ qs) k → EachFollows (branches_of items) s qs k
own_moves q T bs items s qs k e h i f =
    (subst (λ (S : Skeleton). Follows S s (Exists ∷ qs) k) (mine_is T bs items h i) (subst (λ (x : Quant). Follows (skeleton_of T) s (x ∷ qs) k) e f)).1

pub own_rest : (q : Quant) (T t below : Tree) (s : Sort) (qs : List Quant) (k : ℕ) → q ≡ Forall → T ≡ trees.Theirs t → below ≡ t → Follows (skeleton_of T) s (q ∷ qs) k → Follows (skeleton_of below) s qs (suc k)
own_rest q T t below s qs k e h i f =
    subst (λ (S : Skeleton). Follows S s (Forall ∷ qs) k) (theirs_is T t below h i) (subst (λ (x : Quant). Follows (skeleton_of T) s (x ∷ qs) k) e f)

pub other_moves : (q : Quant) (T : Tree) (bs items : List Branch) (s : Sort) (qs : List Quant) (k : ℕ) → q ≡ Forall → T ≡ trees.Mine bs → items ≡ bs → Follows (skeleton_of T) s (flip_all (q ∷ qs)) k → EachFollows (branches_of items) s (flip_all qs) k
other_moves q T bs items s qs k e h i f =
    (subst (λ (S : Skeleton). Follows S s (flip_all (Forall ∷ qs)) k) (mine_is T bs items h i) (subst (λ (x : Quant). Follows (skeleton_of T) s (flip_all (x ∷ qs)) k) e f)).1

pub other_rest : (q : Quant) (T t below : Tree) (s : Sort) (qs : List Quant) (k : ℕ) → q ≡ Exists → T ≡ trees.Theirs t → below ≡ t → Follows (skeleton_of T) s (flip_all (q ∷ qs)) k → Follows (skeleton_of below) s (flip_all qs) (suc k)
other_rest q T t below s qs k e h i f =
    subst (λ (S : Skeleton). Follows S s (flip_all (Exists ∷ qs)) k) (theirs_is T t below h i) (subst (λ (x : Quant). Follows (skeleton_of T) s (flip_all (x ∷ qs)) k) e f)
