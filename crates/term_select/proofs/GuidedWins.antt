-- A selected tree wins wherever its cube holds.
use Rattle.std.specs.Prelude.{ℕ, suc, ◌+◌, ◌*◌, ◌≤◌, ◌≡◌, ℤ, Bool, true, false, if◌then◌else◌, Option, Some, None, List, [], ◌∷◌, map, filter, length}
use Rattle.std.proofs.Common.{arith, refl, inl, mul-le-mul}
use Rattle.lin_term.specs.declared.Sort.{Sort}
use Rattle.lin_term.specs.declared.Sort.TheVariants.{Rat, Int}
use Rattle.lin_term.specs.declared.Lit.{Lit}
use Rattle.lin_term.specs.Linear.{Point, IsPoint, at, extend}
use Rattle.lin_term.specs.Literal.{Holds}
use Rattle.lin_term.specs.Move.{Move, move_value}
use Rattle.dom_core.specs.declared.Quant.{Quant}
use Rattle.dom_core.specs.declared.Quant.TheVariants.{Exists, Forall}
use Rattle.dom_core.specs.Game.{Matrix, flip_all}
use Rattle.dom_core.specs.Cube.{CubeHolds}
use Rattle.dom_core.specs.Elimination.{is_lower, is_upper, delta}
use Rattle.game_tree.specs.Skeleton.{Skeleton, end, theirs, mine, Branches, no_more, branch, nodes, Follows, EachFollows}
use Rattle.lin_term.proofs.Dots.{length-extend}
use Rattle.dom_core.proofs.Contrary.{extend_point}
use Rattle.lose_system.proofs.Growing.{move_is_value}
use Rattle.std.specs.List.{AllByRecursion}
use Rattle.game_play.specs.Beats.{EachBranch, Wins}
use Rattle.dom_core.specs.Pick.{played, lower_bound, upper_bound, lowers, uppers, greatest, least, between, congruent, pick_between, pick}
use Rattle.dom_core.specs.PutMove.{with_new}
use Rattle.term_select.specs.Guided.{Chosen, value_of, with_move, joined, guided_from, guided_rest}
use Rattle.dom_core.proofs.PutMoves.{new_back, puts}
use Rattle.dom_core.proofs.Picking.{HasDivisor, HasIt, lowest_divisor, lower_size, upper_size, greatest_has, least_has}
use Rattle.term_select.proofs.Implicants.{implicant_implies}
use Rattle.term_select.proofs.Shapes.{HasShape, guided_shape, both_shape}
use Rattle.term_select.proofs.Winning.{own_wins, other_wins}

-- ---- a picked move has a divisor of 1 or more

each_lower : (s : Sort) (x : ℕ) (c : List Lit) → AllByRecursion HasDivisor (lowers s x c)
each_lower s x [] = tt
each_lower s x (l ∷ c) = by (is_lower x l) refl (each_lower s x c)
  where
    by : (b : Bool) → is_lower x l ≡ b → AllByRecursion HasDivisor (lowers s x c) → AllByRecursion HasDivisor (map (lower_bound s x) (if b then l ∷ filter (is_lower x) c else filter (is_lower x) c))
    by true e h = (lower_size x l e, h)
    by false e h = h

each_upper : (x : ℕ) (c : List Lit) → AllByRecursion HasDivisor (uppers x c)
each_upper x [] = tt
each_upper x (l ∷ c) = by (is_upper x l) refl (each_upper x c)
  where
    by : (b : Bool) → is_upper x l ≡ b → AllByRecursion HasDivisor (uppers x c) → AllByRecursion HasDivisor (map (upper_bound x) (if b then l ∷ filter (is_upper x) c else filter (is_upper x) c))
    by true e h = (upper_size x l e, h)
    by false e h = h

between_divisor : (low up : Option Move) → HasIt HasDivisor low → HasIt HasDivisor up → HasDivisor (between low up)
between_divisor (Some m) (Some n) h k = let a : 1 ≤ m.div * n.div = mul-le-mul h k in omega arith
between_divisor (Some m) None h k = h
between_divisor None (Some n) h k = k
between_divisor None None h k = omega arith

congruent_divisor : (d : ℕ) (v : ℤ) (p : Point) (low up : Option Move) → HasIt HasDivisor low → HasIt HasDivisor up → HasDivisor (congruent d v p low up)
congruent_divisor d v p (Some m) up h k = h
congruent_divisor d v p None (Some n) h k = k
congruent_divisor d v p None None h k = omega arith

between_either : (s : Sort) (x : ℕ) (c : List Lit) (p : Point) (low up : Option Move) → HasIt HasDivisor low → HasIt HasDivisor up → HasDivisor (pick_between s x c p low up)
between_either Rat x c p low up h k = between_divisor low up h k
between_either Int x c p low up h k = congruent_divisor (delta c x) (at p.nums x) p low up h k

pub pick_divisor : (s : Sort) (x : ℕ) (c : List Lit) (p : Point) → HasDivisor (pick s x c p)
pick_divisor s x c p =
    let low = greatest s p (lowers s x c) in
    let up = least s p (uppers x c) in
    lowest_divisor s (pick_between s x c p low up)
    (between_either s x c p low up (greatest_has HasDivisor s p (lowers s x c) (each_lower s x c)) (least_has HasDivisor s p (uppers x c) (each_upper x c)))

-- ---- the play

pub played_is_point : (s : Sort) (m : Move) (e : Point) → IsPoint s e → HasDivisor m → IsPoint s (played s m e)
played_is_point s m e i h = extend_point s e (move_value s m e) i (move_is_value s m e i h)

pub played_length : (s : Sort) (m : Move) (e : Point) (x : ℕ) → length e.nums ≡ x → length (played s m e).nums ≡ suc x
played_length s m e x h = let l = length-extend e (move_value s m e) in omega arith

parts : (c d : List Lit) (q : Point) → CubeHolds (with_new c d) q → CubeHolds c q × CubeHolds d q
parts c d q h = new_back (λ l. Holds l q) c d h

-- what the last of several joined selections keeps of the first, at a point q at which its cube holds
record Joins (s : Sort) (M : Matrix) (qs : List Quant) (q : Point) (bs : Branches) (f g : Chosen) : Type 0 where
  first : CubeHolds f.cube q
  wins : EachBranch bs (λ mv U. Wins qs s M g.tree U (played s mv q))
  keeps : (U : Skeleton) (r : Point) → Wins qs s M f.tree U r → Wins qs s M g.tree U r

mutual
  pub guided_wins : (U : Skeleton) (s : Sort) (M : Matrix) (qs : List Quant) (p : Point) (x v : ℕ) (e q : Point) → Follows U s (flip_all qs) x → IsPoint s q → length q.nums ≡ x → CubeHolds (guided_from U s M p x v e).cube q → Wins qs s M (guided_from U s M p x v e).tree U q
  guided_wins end s M [] p x v e q f i n h = implicant_implies M s e q i h
  guided_wins end s M (Exists ∷ qs) p x v e q f i n h = absurd f
  guided_wins end s M (Forall ∷ qs) p x v e q f i n h = absurd f
  guided_wins (theirs U) s M [] p x v e q f i n h = absurd f
  guided_wins (theirs U) s M (Forall ∷ qs) p x v e q f i n h = absurd f
  guided_wins (theirs U) s M (Exists ∷ qs) p x v e q f i n h =
      let here = extend e (value_of p v) in
      let r = guided_from U s M p (suc x) (suc v) here in
      let m = pick s x r.cube here in
      let o = pick_divisor s x r.cube here in
      inl (guided_wins U s M qs p (suc x) (suc v) here (played s m q) f (played_is_point s m q i o) (played_length s m q x n) (puts s x m e r.cube q i n o h))
  guided_wins (mine bs) s M [] p x v e q f i n h = absurd f
  guided_wins (mine bs) s M (Exists ∷ qs) p x v e q f i n h = absurd f
  guided_wins (mine no_more) s M (Forall ∷ qs) p x v e q f i n h = absurd f.0
  guided_wins (mine (branch mv U bs)) s M (Forall ∷ qs) p x v e q f i n h =
      let here = extend e (value_of p v) in
      let r = guided_from U s M p (suc x) (suc v) here in
      let one = with_move s x mv e r in
      let o = f.1.0.written.1 in
      let k = rest_wins bs s M qs p x (suc v + nodes U) e q one f.1.3 i n (guided_shape U s M qs p (suc x) (suc v) here f.1.2) h in
      (k.keeps U (played s mv q) (guided_wins U s M qs p (suc x) (suc v) here (played s mv q) f.1.2 (played_is_point s mv q i o) (played_length s mv q x n) (puts s x mv e r.cube q i n o k.first)), k.wins)

  rest_wins : (bs : Branches) (s : Sort) (M : Matrix) (qs : List Quant) (p : Point) (x v : ℕ) (e q : Point) (f : Chosen) → EachFollows bs s (flip_all qs) x → IsPoint s q → length q.nums ≡ x → HasShape f.tree qs → CubeHolds (guided_rest bs s M p x v e f).cube q → Joins s M qs q bs f (guided_rest bs s M p x v e f)
  rest_wins no_more s M qs p x v e q f g i n t h = record { first = h; wins = tt; keeps = λ U r w. w }
  rest_wins (branch mv U bs) s M qs p x v e q f g i n t h =
      let here = extend e (value_of p v) in
      let r = guided_from U s M p (suc x) (suc v) here in
      let one = with_move s x mv e r in
      let o = g.0.written.1 in
      let shape = guided_shape U s M qs p (suc x) (suc v) here g.2 in
      let k = rest_wins bs s M qs p x (suc v + nodes U) e q (joined f one) g.3 i n (both_shape r.tree f.tree qs shape t) h in
      let c = parts f.cube one.cube q k.first in
      let w = guided_wins U s M qs p (suc x) (suc v) here (played s mv q) g.2 (played_is_point s mv q i o) (played_length s mv q x n) (puts s x mv e r.cube q i n o c.1) in
      record {
        first = c.0;
        wins = (k.keeps U (played s mv q) (other_wins r.tree qs s M f.tree U (played s mv q) shape t w), k.wins);
        keeps = λ V z y. k.keeps V z (own_wins r.tree qs s M f.tree V z y);
      }
