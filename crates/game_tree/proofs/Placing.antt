-- The first place of a move among moves that grow at their end.
use Rattle.std.specs.Prelude.{ℕ, suc, ◌+◌, ◌<◌, ◌≤◌, ◌≡◌, Bool, true, false, cond, if◌then◌else◌, Option, Some, None, List, [], ◌∷◌, ◌++◌, length, map, take, drop, get_or}
use Rattle.std.specs.Option.{option_map, unwrap_or}
use Rattle.std.specs.Bool.{Decides, one_answer}
use Rattle.std.specs.declared.cmp.Ordering.TheVariants.{Equal}
use Rattle.std.specs.Ordering.{is_eq}
use Rattle.std.specs.Cmp.{Equal-is, tied_itself}
use Rattle.std.specs.BTreeMap.{BTreeMap, get, is_at}
use Rattle.std.proofs.Common.{arith, ap, ◌∙◌, sym, subst, refl}
use Rattle.std.proofs.lemmas.List.{length-map, length-take-le, map_more, map-append, take-append-drop, drop_more}
use Rattle.lin_term.specs.Move.{Move}
use Rattle.lin_term.specs.Same.{same_move}
use Rattle.lin_term.specs.Order.{move_cmp}
use Rattle.lin_term.proofs.Comparing.{move_decides}
use Rattle.lin_term.proofs.Orders.{move_order}
use Rattle.game_tree.specs.declared.key.MoveKey.{MoveKey}
use Rattle.game_tree.specs.declared.tree.Branch.{Branch}
use Rattle.game_tree.specs.Gather.{place, with_new_move, home, moves_of}
use Rattle.game_tree.specs.Known.{key_cmp, Knows}

none_inside : (o : Option ℕ) → option_map (λ i. suc i) o ≡ None → o ≡ None
none_inside None e = refl
none_inside (Some i) e = absurd (cc)

some_none : (i : ℕ) → Some i ≡ None → ⊥
some_none i e = cc

none_some : (i : ℕ) → None ≡ Some i → ⊥
none_some i e = cc

true_false : true ≡ false → ⊥
true_false e = cc

-- ---- a move that is there

pub old_move : (ms : List Move) (u : Move) (i : ℕ) → place u ms ≡ Some i → with_new_move ms u ≡ ms
old_move [] u i e = absurd (none_some i e)
old_move (n ∷ ms) u i e = by (same_move n u) (λ j p. old_move ms u j p) e
  where
    inner : ((j : ℕ) → place u ms ≡ Some j → with_new_move ms u ≡ ms) → (o : Option ℕ) → place u ms ≡ o → option_map (λ j. suc j) o ≡ Some i → with_new_move ms u ≡ ms
    inner rec None p h = absurd (none_some i h)
    inner rec (Some j) p h = rec j p

    by : (b : Bool) → ((j : ℕ) → place u ms ≡ Some j → with_new_move ms u ≡ ms) → (if b then Some 0 else option_map (λ j. suc j) (place u ms)) ≡ Some i → (if b then n ∷ ms else n ∷ with_new_move ms u) ≡ n ∷ ms
    by true rec h = refl
    by false rec h = ap (λ (xs : List Move). n ∷ xs) (inner rec (place u ms) refl h)

pub new_move : (ms : List Move) (u : Move) → place u ms ≡ None → with_new_move ms u ≡ ms ++ u ∷ []
new_move [] u e = refl
new_move (n ∷ ms) u e = by (same_move n u) (λ p. new_move ms u p) e
  where
    by : (b : Bool) → (place u ms ≡ None → with_new_move ms u ≡ ms ++ u ∷ []) → (if b then Some 0 else option_map (λ j. suc j) (place u ms)) ≡ None → (if b then n ∷ ms else n ∷ with_new_move ms u) ≡ n ∷ (ms ++ u ∷ [])
    by true rec h = absurd (some_none 0 h)
    by false rec h = ap (λ (xs : List Move). n ∷ xs) (rec (none_inside (place u ms) h))

-- ---- more moves behind

pub place_here : (ms rest : List Move) (u q : Move) → place q ms ≡ None → same_move u q ≡ true → place q (ms ++ u ∷ rest) ≡ Some (length ms)
place_here [] rest u q e h = ap (λ (b : Bool). if b then Some 0 else option_map (λ j. suc j) (place q rest)) h
place_here (n ∷ ms) rest u q e h = by (same_move n q) (λ p. place_here ms rest u q p h) e
  where
    by : (b : Bool) → (place q ms ≡ None → place q (ms ++ u ∷ rest) ≡ Some (length ms)) → (if b then Some 0 else option_map (λ j. suc j) (place q ms)) ≡ None → (if b then Some 0 else option_map (λ j. suc j) (place q (ms ++ u ∷ rest))) ≡ Some (suc (length ms))
    by true rec k = absurd (some_none 0 k)
    by false rec k = ap (λ (o : Option ℕ). option_map (λ j. suc j) o) (rec (none_inside (place q ms) k))

pub place_other : (ms : List Move) (u q : Move) → same_move u q ≡ false → place q (ms ++ u ∷ []) ≡ place q ms
place_other [] u q h = ap (λ (b : Bool). if b then Some 0 else None) h
place_other (n ∷ ms) u q h = ap (λ (o : Option ℕ). if same_move n q then Some 0 else option_map (λ j. suc j) o) (place_other ms u q h)

pub place_kept : (ms : List Move) (u q : Move) (i : ℕ) → place q ms ≡ Some i → place q (ms ++ u ∷ []) ≡ place q ms
place_kept [] u q i e = absurd (none_some i e)
place_kept (n ∷ ms) u q i e = by (same_move n q) (λ j p. place_kept ms u q j p) e
  where
    inner : ((j : ℕ) → place q ms ≡ Some j → place q (ms ++ u ∷ []) ≡ place q ms) → (o : Option ℕ) → place q ms ≡ o → option_map (λ j. suc j) o ≡ Some i → place q (ms ++ u ∷ []) ≡ place q ms
    inner rec None p h = absurd (none_some i h)
    inner rec (Some j) p h = rec j p

    by : (b : Bool) → ((j : ℕ) → place q ms ≡ Some j → place q (ms ++ u ∷ []) ≡ place q ms) → (if b then Some 0 else option_map (λ j. suc j) (place q ms)) ≡ Some i → (if b then Some 0 else option_map (λ j. suc j) (place q (ms ++ u ∷ []))) ≡ (if b then Some 0 else option_map (λ j. suc j) (place q ms))
    by true rec h = refl
    by false rec h = ap (λ (o : Option ℕ). option_map (λ j. suc j) o) (inner rec (place q ms) refl h)

-- with one more move, whether it is new or not
pub place_with : (ms : List Move) (u q : Move) → place q (with_new_move ms u) ≡ place q (ms ++ u ∷ [])
place_with ms u q = by (place u ms) refl
  where
    same : (i : ℕ) → place u ms ≡ Some i → (b : Bool) → same_move u q ≡ b → place q ms ≡ place q (ms ++ u ∷ [])
    same i e true h = sym (place_kept ms u q i (subst (λ (x : Move). place x ms ≡ Some i) ((move_decides u q).0 h) e))
    same i e false h = sym (place_other ms u q h)

    by : (o : Option ℕ) → place u ms ≡ o → place q (with_new_move ms u) ≡ place q (ms ++ u ∷ [])
    by None e = ap (λ (xs : List Move). place q xs) (new_move ms u e)
    by (Some i) e = ap (λ (xs : List Move). place q xs) (old_move ms u i e) ∙ same i e (same_move u q) refl

-- ---- the map

tie_is : (u q : Move) → is_eq (move_cmp u q) ≡ same_move u q
tie_is u q =
    one_answer (is_eq (move_cmp u q)) (same_move u q) (
      λ e. move_order.ties u q ((Equal-is (move_cmp u q)).0 e),
      λ e. (Equal-is (move_cmp u q)).1 (subst (λ (x : Move). move_cmp u x ≡ Equal) e (tied_itself move_order.total u)),
    )
    (move_decides u q)

pub knows_old : (m : BTreeMap MoveKey ℕ) (ms : List Move) (k : MoveKey) (i : ℕ) → Knows m ms → get key_cmp m k ≡ Some i → (i ≡ home ms k.term.now) × Knows m (with_new_move ms k.term.now)
knows_old m ms k i h e =
    let p = sym (h k) ∙ e in
    (ap (λ (o : Option ℕ). unwrap_or o (length ms)) (sym p), λ q. h q ∙ ap (λ (xs : List Move). place q.term.now xs) (sym (old_move ms k.term.now i p)))

new_place : (ms : List Move) (u q : Move) → place u ms ≡ None → cond (is_eq (move_cmp u q)) (Some (length ms)) (place q ms) ≡ place q (ms ++ u ∷ [])
new_place ms u q e = ap (λ (b : Bool). cond b (Some (length ms)) (place q ms)) (tie_is u q) ∙ by (same_move u q) refl
  where
    by : (b : Bool) → same_move u q ≡ b → cond b (Some (length ms)) (place q ms) ≡ place q (ms ++ u ∷ [])
    by true h = sym (place_here ms [] u q (subst (λ (x : Move). place x ms ≡ None) ((move_decides u q).0 h) e) h)
    by false h = sym (place_other ms u q h)

pub knows_new : (m n : BTreeMap MoveKey ℕ) (ms : List Move) (k : MoveKey) → Knows m ms → get key_cmp m k ≡ None → ((q : MoveKey) → get key_cmp n q ≡ cond (is_at (key_cmp k) q) (Some (length ms)) (get key_cmp m q)) → (length ms ≡ home ms k.term.now) × Knows n (with_new_move ms k.term.now)
knows_new m n ms k h e f =
    let p = sym (h k) ∙ e in (
      ap (λ (o : Option ℕ). unwrap_or o (length ms)) (sym p),
      λ q. f q ∙ ap (λ (o : Option ℕ). cond (is_at (key_cmp k) q) (Some (length ms)) o) (h q) ∙ new_place ms k.term.now q.term.now p ∙ ap (λ (xs : List Move). place q.term.now xs) (sym (new_move ms k.term.now p)),
    )

pub knows_more : (m : BTreeMap MoveKey ℕ) (ms : List Move) (u : Move) → Knows m (with_new_move ms u) → Knows m (ms ++ u ∷ [])
knows_more m ms u h q = h q ∙ place_with ms u q.term.now

-- ---- how many moves there are

pub place_below : (ms : List Move) (u : Move) (i : ℕ) → place u ms ≡ Some i → i < length ms
place_below [] u i e = absurd (none_some i e)
place_below (n ∷ ms) u i e = by (same_move n u) (λ j p. place_below ms u j p) e
  where
    some_same : (x y : ℕ) → Some x ≡ Some y → x ≡ y
    some_same x y h = cc

    inner : ((j : ℕ) → place u ms ≡ Some j → j < length ms) → (o : Option ℕ) → place u ms ≡ o → option_map (λ j. suc j) o ≡ Some i → i < suc (length ms)
    inner rec None p h = absurd (none_some i h)
    inner rec (Some j) p h = let k = rec j p in let s = some_same (suc j) i h in omega arith

    by : (b : Bool) → ((j : ℕ) → place u ms ≡ Some j → j < length ms) → (if b then Some 0 else option_map (λ j. suc j) (place u ms)) ≡ Some i → i < suc (length ms)
    by true rec h = let s = some_same 0 i h in omega arith
    by false rec h = inner rec (place u ms) refl h

length_push : (ms : List Move) (u : Move) → length (ms ++ u ∷ []) ≡ length ms + 1
length_push [] u = refl
length_push (n ∷ ms) u = let h = length_push ms u in omega arith

-- a move that stands past the others is new
pub grown_length : (ms : List Move) (u : Move) → home ms u ≡ length ms → length (with_new_move ms u) ≡ length ms + 1
grown_length ms u h = by (place u ms) refl h
  where
    by : (o : Option ℕ) → place u ms ≡ o → unwrap_or o (length ms) ≡ length ms → length (with_new_move ms u) ≡ length ms + 1
    by None e k = ap length (new_move ms u e) ∙ length_push ms u
    by (Some i) e k = let b = place_below ms u i e in absurd (omega (arith, k))

pub kept_length : (ms : List Move) (u : Move) → ¬ (home ms u ≡ length ms) → length (with_new_move ms u) ≡ length ms
kept_length ms u h = by (place u ms) refl h
  where
    by : (o : Option ℕ) → place u ms ≡ o → ¬ (unwrap_or o (length ms) ≡ length ms) → length (with_new_move ms u) ≡ length ms
    by None e k = absurd (k refl)
    by (Some i) e k = ap length (old_move ms u i e)

pub home_within : (ms : List Move) (u : Move) → home ms u ≤ length ms
home_within ms u = by (place u ms) refl
  where
    by : (o : Option ℕ) → place u ms ≡ o → unwrap_or o (length ms) ≤ length ms
    by None e = omega arith
    by (Some i) e = let b = place_below ms u i e in omega arith

pub with_length : (ms : List Move) (u : Move) → length (with_new_move ms u) ≤ length ms + 1
with_length [] u = omega arith
with_length (n ∷ ms) u = by (same_move n u) (with_length ms u)
  where
    by : (b : Bool) → length (with_new_move ms u) ≤ length ms + 1 → length (if b then n ∷ ms else n ∷ with_new_move ms u) ≤ suc (length ms) + 1
    by true h = omega arith
    by false h = omega arith

-- ---- the moves of the first branches

pub moves_count : (bs : List Branch) (i : ℕ) → i ≤ length bs → i ≡ length (moves_of (take i bs))
moves_count bs i l = sym (length-map (take i bs) (λ (b : Branch). b.term) ∙ length-take-le i bs l)

pub moves_more : (bs : List Branch) (i : ℕ) (b : Branch) → i < length bs → b ≡ get_or bs i b → moves_of (take (i + 1) bs) ≡ moves_of (take i bs) ++ b.term ∷ []
moves_more bs i b l e = map_more (λ (x : Branch). x.term) bs i b l ∙ ap (λ (x : Branch). moves_of (take i bs) ++ x.term ∷ []) (sym e)

pub moves_split : (bs : List Branch) (i : ℕ) (b : Branch) → i < length bs → b ≡ get_or bs i b → moves_of bs ≡ moves_of (take i bs) ++ b.term ∷ moves_of (drop (i + 1) bs)
moves_split bs i b l e =
    ap moves_of (sym (take-append-drop i bs)) ∙ map-append (λ (x : Branch). x.term) (take i bs) (drop i bs)
    ∙ ap (λ (xs : List Branch). moves_of (take i bs) ++ moves_of xs) (drop_more bs i b l)
    ∙ ap (λ (x : Branch). moves_of (take i bs) ++ x.term ∷ moves_of (drop (i + 1) bs)) (sym e)

pub found_place : (bs : List Branch) (i : ℕ) (b : Branch) (m : Move) (r : Bool) → i < length bs → b ≡ get_or bs i b → place m (moves_of (take i bs)) ≡ None → r ≡ same_move b.term m → r ≡ true → Some i ≡ place m (moves_of bs)
found_place bs i b m r l e n v t =
    ap (λ (k : ℕ). Some k) (moves_count bs i (omega (arith, l)))
    ∙ sym (place_here (moves_of (take i bs)) (moves_of (drop (i + 1) bs)) b.term m n (sym v ∙ t))
    ∙ ap (λ (ms : List Move). place m ms) (sym (moves_split bs i b l e))

pub other_place : (bs : List Branch) (i : ℕ) (b : Branch) (m : Move) (r : Bool) → i < length bs → b ≡ get_or bs i b → place m (moves_of (take i bs)) ≡ None → r ≡ same_move b.term m → r ≡ false → place m (moves_of (take (i + 1) bs)) ≡ None
other_place bs i b m r l e n v f =
    ap (λ (ms : List Move). place m ms) (moves_more bs i b l e) ∙ place_other (moves_of (take i bs)) b.term m (sym v ∙ f) ∙ n
