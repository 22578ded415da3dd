-- What is left to follow completes what is taken to a branch.
use Rattle.std.specs.Prelude.{ℕ, zero, suc, ◌≡◌, ◌⊎◌, Some, List, [], ◌∷◌, ◌++◌, length}
use Rattle.std.proofs.Common.{sym, subst, refl, inl, inr}
use Rattle.lin_term.specs.declared.Sort.{Sort}
use Rattle.lin_term.specs.declared.Lit.{Lit}
use Rattle.lin_term.specs.Linear.{Point, IsPoint}
use Rattle.lin_term.specs.Literal.{Holds}
use Rattle.dom_core.specs.Game.{Matrix, lit, all, some, Matrices, none, more}
use Rattle.lose_system.specs.Losing.{System, Solves, AllDefined}
use Rattle.cube_rules.specs.Facts.{child}
use Rattle.cube_elim.specs.Among.{IsAmong}
use Rattle.clause_search.specs.Branches.{ways, ways_all, ways_some, path_ways, definition_literals}
use Rattle.clause_search.specs.Taken.{AreWays, InSome, IsBranchOf, Completes}
use Rattle.clause_search.proofs.Ways.{among_left, among_right, among_either, among_map, pair_among, branch_goes, all_hold, paths_hold, defined_holds}

abbrev all_of : List (List Lit) → List Lit
all_of [] = []
all_of (w ∷ ws) = w ++ all_of ws

among_all : (l : Lit) (ws : List (List Lit)) → InSome l ws → IsAmong l (all_of ws)
among_all l [] h = absurd h
among_all l (w ∷ ws) (inl k) = among_left l w (all_of ws) k
among_all l (w ∷ ws) (inr k) = among_right l w (all_of ws) (among_all l ws k)

in_some : (l : Lit) (ws : List (List Lit)) → IsAmong l (all_of ws) → InSome l ws
in_some l [] h = absurd h
in_some l (w ∷ ws) h = by (among_either l w (all_of ws) h) (λ k. in_some l ws k)
  where
    by : IsAmong l w ⊎ IsAmong l (all_of ws) → (IsAmong l (all_of ws) → InSome l ws) → IsAmong l w ⊎ InSome l ws
    by (inl k) f = inl k
    by (inr k) f = inr (f k)

ways_among : (ms : List Matrix) (ws : List (List Lit)) → AreWays ms ws → IsAmong (all_of ws) (path_ways ms)
ways_among [] [] h = inl refl
ways_among [] (w ∷ ws) h = absurd h
ways_among (m ∷ ms) [] h = absurd h
ways_among (m ∷ ms) (w ∷ ws) h = pair_among w (all_of ws) (ways m) (path_ways ms) h.0 (ways_among ms ws h.1)

-- nothing is taken, and all paths are left
pub nothing_taken : (sys : System) → Completes sys [] sys.paths
nothing_taken sys ws h = (
  definition_literals sys.defs ++ all_of ws,
  record {
    branch = among_map (λ way. definition_literals sys.defs ++ way) (all_of ws) (path_ways sys.paths) (ways_among sys.paths ws h);
    has = λ l k. among_right l (definition_literals sys.defs) (all_of ws) (taken l k);
    only = λ l k. from l (among_either l (definition_literals sys.defs) (all_of ws) k);
  },
)
  where
    taken : (l : Lit) → IsAmong l [] ⊎ InSome l ws → IsAmong l (all_of ws)
    taken l (inl k) = absurd k
    taken l (inr k) = among_all l ws k

    from : (l : Lit) → IsAmong l (definition_literals sys.defs) ⊎ IsAmong l (all_of ws) → IsAmong l (definition_literals sys.defs) ⊎ (IsAmong l [] ⊎ InSome l ws)
    from l (inl k) = inl k
    from l (inr k) = inr (inr (in_some l ws k))

-- the same literals, parted otherwise
moved : (sys : System) (t u : List Lit) (ws vs : List (List Lit)) (b : List Lit) → ((l : Lit) → IsAmong l u ⊎ InSome l vs → IsAmong l t ⊎ InSome l ws) → ((l : Lit) → IsAmong l t ⊎ InSome l ws → IsAmong l u ⊎ InSome l vs) → IsBranchOf sys t ws b → IsBranchOf sys u vs b
moved sys t u ws vs b f g r = record {
  branch = r.branch;
  has = λ l k. r.has l (f l k);
  only = λ l k. by l (r.only l k);
}
  where
    by : (l : Lit) → IsAmong l (definition_literals sys.defs) ⊎ (IsAmong l t ⊎ InSome l ws) → IsAmong l (definition_literals sys.defs) ⊎ (IsAmong l u ⊎ InSome l vs)
    by l (inl k) = inl k
    by l (inr k) = inr (g l k)

-- ---- a literal is taken

pub literal_taken : (sys : System) (t : List Lit) (l : Lit) (left : List Matrix) → Completes sys t (lit l ∷ left) → Completes sys (t ++ l ∷ []) left
literal_taken sys t l left c ws h =
    let r = c ((l ∷ []) ∷ ws) (inl refl, h) in
    (r.0, moved sys t (t ++ l ∷ []) ((l ∷ []) ∷ ws) ws r.0 to back r.1)
  where
    to : (k : Lit) → IsAmong k (t ++ l ∷ []) ⊎ InSome k ws → IsAmong k t ⊎ InSome k ((l ∷ []) ∷ ws)
    to k (inl h) = parts (among_either k t (l ∷ []) h)
      where
        parts : IsAmong k t ⊎ IsAmong k (l ∷ []) → IsAmong k t ⊎ InSome k ((l ∷ []) ∷ ws)
        parts (inl j) = inl j
        parts (inr j) = inr (inl j)
    to k (inr h) = inr (inr h)

    back : (k : Lit) → IsAmong k t ⊎ InSome k ((l ∷ []) ∷ ws) → IsAmong k (t ++ l ∷ []) ⊎ InSome k ws
    back k (inl h) = inl (among_left k t (l ∷ []) h)
    back k (inr (inl h)) = inl (among_right k t (l ∷ []) h)
    back k (inr (inr h)) = inr h

-- ---- a conjunction is taken apart

abbrev pub listed : Matrices → List Matrix
listed none = []
listed (more m ms) = m ∷ listed ms

-- the ways through the children and those behind them
record Parted (ms : Matrices) (left : List Matrix) (ws : List (List Lit)) : Type 0 where
  first : List Lit
  behind : List (List Lit)
  way : IsAmong first (ways_all ms)
  ways : AreWays left behind
  to : (k : Lit) → InSome k ws → InSome k (first ∷ behind)
  back : (k : Lit) → InSome k (first ∷ behind) → InSome k ws

parted : (ms : Matrices) (left : List Matrix) (ws : List (List Lit)) → AreWays (listed ms ++ left) ws → Parted ms left ws
parted none left ws h = record { first = []; behind = ws; way = inl refl; ways = h; to = λ k j. inr j; back = λ k j. drop_empty k j }
  where
    drop_empty : (k : Lit) → InSome k ([] ∷ ws) → InSome k ws
    drop_empty k (inl j) = absurd j
    drop_empty k (inr j) = j
parted (more m ms) left [] h = absurd h
parted (more m ms) left (w ∷ ws) h =
    let r = parted ms left ws h.1 in
    record {
      first = w ++ r.first;
      behind = r.behind;
      way = pair_among w r.first (ways m) (ways_all ms) h.0 r.way;
      ways = r.ways;
      to = λ k j. to r.first r.behind r.to k j;
      back = λ k j. back r.first r.behind r.back k j;
    }
  where
    to : (first : List Lit) (behind : List (List Lit)) → ((k : Lit) → InSome k ws → InSome k (first ∷ behind)) → (k : Lit) → InSome k (w ∷ ws) → InSome k ((w ++ first) ∷ behind)
    to first behind f k (inl j) = inl (among_left k w first j)
    to first behind f k (inr j) = on (f k j)
      where
        on : IsAmong k first ⊎ InSome k behind → IsAmong k (w ++ first) ⊎ InSome k behind
        on (inl i) = inl (among_right k w first i)
        on (inr i) = inr i

    back : (first : List Lit) (behind : List (List Lit)) → ((k : Lit) → InSome k (first ∷ behind) → InSome k ws) → (k : Lit) → InSome k ((w ++ first) ∷ behind) → InSome k (w ∷ ws)
    back first behind f k (inl j) = on (among_either k w first j)
      where
        on : IsAmong k w ⊎ IsAmong k first → IsAmong k w ⊎ InSome k ws
        on (inl i) = inl i
        on (inr i) = inr (f k (inl i))
    back first behind f k (inr j) = inr (f k (inr j))

pub conjunction_taken : (sys : System) (t : List Lit) (ms : Matrices) (left : List Matrix) → Completes sys t (all ms ∷ left) → Completes sys t (listed ms ++ left)
conjunction_taken sys t ms left c ws h =
    let r = parted ms left ws h in
    let q = c (r.first ∷ r.behind) (r.way, r.ways) in
    (q.0, moved sys t t (r.first ∷ r.behind) ws q.0 (λ k j. on k r.first r.behind r.to j) (λ k j. off k r.first r.behind r.back j) q.1)
  where
    on : (k : Lit) (first : List Lit) (behind : List (List Lit)) → ((k : Lit) → InSome k ws → InSome k (first ∷ behind)) → IsAmong k t ⊎ InSome k ws → IsAmong k t ⊎ InSome k (first ∷ behind)
    on k first behind f (inl j) = inl j
    on k first behind f (inr j) = inr (f k j)

    off : (k : Lit) (first : List Lit) (behind : List (List Lit)) → ((k : Lit) → InSome k (first ∷ behind) → InSome k ws) → IsAmong k t ⊎ InSome k (first ∷ behind) → IsAmong k t ⊎ InSome k ws
    off k first behind f (inl j) = inl j
    off k first behind f (inr j) = inr (f k j)

-- ---- a child of a disjunction is taken

child_way : (ms : Matrices) (i : ℕ) (m : Matrix) (w : List Lit) → child ms i ≡ Some m → IsAmong w (ways m) → IsAmong w (ways_some ms)
child_way none i m w e h = absurd (cc)
child_way (more n ms) zero m w e h =
    among_left w (ways n) (ways_some ms) (subst (λ (x : Matrix). IsAmong w (ways x)) (sym (same n m e)) h)
  where
    same : (x y : Matrix) → Some x ≡ Some y → x ≡ y
    same x y e = cc
child_way (more n ms) (suc i) m w e h = among_right w (ways n) (ways_some ms) (child_way ms i m w e h)

pub child_taken : (sys : System) (t : List Lit) (ms : Matrices) (i : ℕ) (m : Matrix) (left : List Matrix) → child ms i ≡ Some m → Completes sys t (some ms ∷ left) → Completes sys t (m ∷ left)
child_taken sys t ms i m left e c [] h = absurd h
child_taken sys t ms i m left e c (w ∷ ws) h = c (w ∷ ws) (child_way ms i m w e h.0, h.1)

-- ---- nothing is left

-- a point at which all that is taken and all definitions hold solves the system
pub taken_solves : (s : Sort) (sys : System) (t : List Lit) (p : Point) → Completes sys t [] → IsPoint s p → length p.nums ≡ sys.count → ((l : Lit) → IsAmong l t → Holds l p) → AllDefined sys.defs p → Solves s sys p
taken_solves s sys t p c i n h d =
    let r = c [] tt in
    let b = branch_goes sys r.0 (r.1).branch in
    record {
      point = i;
      one_each = n;
      defined = d;
      lose = paths_hold sys.paths r.0 p (all_hold r.0 p (λ l k. by l ((r.1).only l k))) b.paths;
    }
  where
    by : (l : Lit) → IsAmong l (definition_literals sys.defs) ⊎ (IsAmong l t ⊎ InSome l []) → Holds l p
    by l (inl k) = defined_holds sys.defs p l d k
    by l (inr (inl k)) = h l k
    by l (inr (inr k)) = absurd k
