-- The walk that says which paths stay: one more node, one more branch.
use Rattle.std.specs.Prelude.{ℕ, suc, ◌+◌, ◌<◌, ◌≤◌, ◌≡◌, Bool, true, false, not, ◌&&◌, ◌||◌, List, [], ◌∷◌, ◌++◌, length, get_or, set, drop, ◌*◌}
use Rattle.std.proofs.Common.{arith, ap, ap₂, ◌∙◌, sym, subst, refl, append_assoc, append-nil, length-append}
use Rattle.game_tree.specs.declared.Branch.{Branch}
use Rattle.game_tree.specs.View.{skeleton_of, branches_of}
use Rattle.game_tree.proofs.Views.{branches_at, branches_done, fewer_left}
use Rattle.game_tree.specs.Skeleton.{Skeleton, Branches, no_more, branch, nodes, branch_nodes, paths}
use Rattle.strat_trim.specs.Trimmed.{has_path, some_has_path, with_first, stays, each_stays}
use Rattle.strat_trim.proofs.Needed.{length-stays}

-- ---- a flag that is set among others

pub set_first : (flags before rest : List Bool) (first : ℕ) → flags ≡ before ++ rest → first ≡ length before → first < length flags → set flags first true ≡ before ++ with_first true rest
set_first flags before rest first e f l =
    ap₂ (λ (xs : List Bool) (i : ℕ). set xs i true) e f
    ∙ there before rest (let a = ap length e in let b = length-append before rest in omega arith)
  where
    or_yes : (b : Bool) → true ≡ (b || true)
    or_yes true = refl
    or_yes false = refl

    there : (xs ys : List Bool) → 1 ≤ length ys → set (xs ++ ys) (length xs) true ≡ xs ++ with_first true ys
    there [] [] h = absurd (omega arith)
    there [] (y ∷ ys) h = ap (λ (b : Bool). b ∷ ys) (or_yes y)
    there (x ∷ xs) ys h = ap (λ (zs : List Bool). x ∷ zs) (there xs ys h)

pub first_unset : (flags before rest : List Bool) → flags ≡ before ++ rest → flags ≡ before ++ with_first false rest
first_unset flags before rest e = e ∙ ap (λ (xs : List Bool). before ++ xs) (there rest)
  where
    or_no : (b : Bool) → b ≡ (b || false)
    or_no true = refl
    or_no false = refl

    there : (xs : List Bool) → xs ≡ with_first false xs
    there [] = refl
    there (x ∷ xs) = ap (λ (b : Bool). b ∷ xs) (or_no x)

-- there is no such flag
pub first_past : (flags before rest : List Bool) (first : ℕ) (asked : Bool) → flags ≡ before ++ rest → first ≡ length before → length flags ≤ first → flags ≡ before ++ with_first asked rest
first_past flags before [] first asked e f l = e
first_past flags before (x ∷ rest) first asked e f l =
    absurd (let a = ap length e in let b = length-append before (x ∷ rest) in omega arith)

-- ---- one more branch

-- what the walk has done so far, and what the branches from here on will add to it
pub record Walked (P N : ℕ → Bool) (has : Bool) (flags : List Bool) (node : ℕ) (rest : Branches) (old_flags : List Bool) (old : ℕ) (all : Branches) : Type 0 where
  pub found : (has || some_has_path rest P (length flags)) ≡ some_has_path all P (length old_flags)
  pub so_far : flags ++ each_stays rest P N (length flags) node ≡ old_flags ++ each_stays all P N (length old_flags) old
  pub count : node + branch_nodes rest ≡ old + branch_nodes all
  pub few : node + branch_nodes rest ≤ 1048576

pub walked_first : (P N : ℕ → Bool) (flags : List Bool) (node : ℕ) (all : Branches) → node + branch_nodes all ≤ 1048576 → Walked P N false flags node all flags node all
walked_first P N flags node all f = record { found = refl; so_far = refl; count = refl; few = f }

or_assoc : (a b c : Bool) → ((a || b) || c) ≡ (a || (b || c))
or_assoc true b c = refl
or_assoc false b c = refl

length-first : (a : Bool) (bs : List Bool) → length (with_first a bs) ≡ length bs
length-first a [] = refl
length-first a (b ∷ bs) = refl

pub walked_more : (P N : ℕ → Bool) (has one : Bool) (flags new : List Bool) (node next : ℕ) (m : _) (t : Skeleton) (rest : Branches) (old_flags : List Bool) (old : ℕ) (all : Branches) → Walked P N has flags node (branch m t rest) old_flags old all → one ≡ has_path t P (length flags) → new ≡ flags ++ with_first (N node && not (has_path t P (length flags))) (stays t P N (length flags) (suc node)) → next ≡ node + (1 + nodes t) → Walked P N (has || one) new next rest old_flags old all
walked_more P N has one flags new node next m t rest old_flags old all w o e n =
    let k : ℕ = length flags in
    let here : List Bool = with_first (N node && not (has_path t P k)) (stays t P N k (suc node)) in
    let len : length new ≡ k + length (paths t) =
    (let a = ap length e in let b = length-append flags here in let c = length-first (N node && not (has_path t P k)) (stays t P N k (suc node)) in let d = length-stays t P N k (suc node) in omega arith) in
    let place : next ≡ suc node + nodes t = omega arith in
    record {
      found = ap₂ (λ (b : Bool) (i : ℕ). (has || b) || some_has_path rest P i) o len
          ∙ or_assoc has (has_path t P k) (some_has_path rest P (k + length (paths t)))
          ∙ w.found;
      so_far = ap₂ (λ (i j : ℕ). new ++ each_stays rest P N i j) len place
          ∙ ap (λ (xs : List Bool). xs ++ each_stays rest P N (k + length (paths t)) (suc node + nodes t)) e
          ∙ append_assoc flags here (each_stays rest P N (k + length (paths t)) (suc node + nodes t))
          ∙ w.so_far;
      count = let c = w.count in omega arith;
      few = let f = w.few in omega arith;
    }

or_none : (b : Bool) → b ≡ (b || false)
or_none true = refl
or_none false = refl

pub walked_has : (P N : ℕ → Bool) (has : Bool) (flags : List Bool) (node : ℕ) (old_flags : List Bool) (old : ℕ) (all : Branches) → Walked P N has flags node no_more old_flags old all → has ≡ some_has_path all P (length old_flags)
walked_has P N has flags node old_flags old all w = or_none has ∙ w.found

pub walked_flags : (P N : ℕ → Bool) (has : Bool) (flags : List Bool) (node : ℕ) (old_flags : List Bool) (old : ℕ) (all : Branches) → Walked P N has flags node no_more old_flags old all → flags ≡ old_flags ++ each_stays all P N (length old_flags) old
walked_flags P N has flags node old_flags old all w = sym (append-nil flags) ∙ w.so_far

pub walked_count : (P N : ℕ → Bool) (has : Bool) (flags : List Bool) (node : ℕ) (old_flags : List Bool) (old : ℕ) (all : Branches) → Walked P N has flags node no_more old_flags old all → node ≡ old + branch_nodes all
walked_count P N has flags node old_flags old all w = let c = w.count in omega arith

-- ---- the same of the branches from place i on

pub walked_step : (P N : ℕ → Bool) (has one both : Bool) (flags new : List Bool) (node next : ℕ) (bs : List Branch) (i : ℕ) (b : Branch) (old_flags : List Bool) (old : ℕ) (all : Branches) → Walked P N has flags node (branches_of (drop i bs)) old_flags old all → i < length bs → b ≡ get_or bs i b → both ≡ (has || one) → one ≡ has_path (skeleton_of b.rest) P (length flags) → new ≡ flags ++ with_first (N node && not (has_path (skeleton_of b.rest) P (length flags))) (stays (skeleton_of b.rest) P N (length flags) (suc node)) → next ≡ node + (1 + nodes (skeleton_of b.rest)) → Walked P N both new next (branches_of (drop (i + 1) bs)) old_flags old all
walked_step P N has one both flags new node next bs i b old_flags old all w l e h o f n =
    subst (λ (x : Bool). Walked P N x new next (branches_of (drop (i + 1) bs)) old_flags old all) (sym h)
    (walked_more P N has one flags new node next b.term (skeleton_of b.rest) (branches_of (drop (i + 1) bs)) old_flags old all
    (subst (λ (x : Branches). Walked P N has flags node x old_flags old all) (branches_at bs i b l e) w) o f n)

pub walked_end : (P N : ℕ → Bool) (has : Bool) (flags : List Bool) (node : ℕ) (bs : List Branch) (i : ℕ) (old_flags : List Bool) (old : ℕ) (all : Branches) → Walked P N has flags node (branches_of (drop i bs)) old_flags old all → length bs ≤ i → Walked P N has flags node no_more old_flags old all
walked_end P N has flags node bs i old_flags old all w l =
    subst (λ (x : Branches). Walked P N has flags node x old_flags old all) (branches_done bs i l) w

-- there is room for the next one, and it is smaller than all
pub walked_room : (P N : ℕ → Bool) (has : Bool) (flags : List Bool) (node : ℕ) (bs : List Branch) (i : ℕ) (b : Branch) (old_flags : List Bool) (old : ℕ) (all : Branches) → Walked P N has flags node (branches_of (drop i bs)) old_flags old all → i < length bs → b ≡ get_or bs i b → (node + (1 + nodes (skeleton_of b.rest)) ≤ 1048576) × (3 * nodes (skeleton_of b.rest) + 2 < 3 * branch_nodes (branches_of bs))
walked_room P N has flags node bs i b old_flags old all w l e =
    let q = ap branch_nodes (branches_at bs i b l e) in
    let f = w.few in
    let h = fewer_left bs i in
    (omega arith, omega arith)

pub asked_set : (flags new : List Bool) (first : ℕ) (asked : Bool) → asked ≡ true → first < length flags → new ≡ set flags first true → (before rest : List Bool) → flags ≡ before ++ rest → first ≡ length before → new ≡ before ++ with_first asked rest
asked_set flags new first asked a l n before rest e f =
    n ∙ set_first flags before rest first e f l ∙ ap (λ (b : Bool). before ++ with_first b rest) (sym a)
