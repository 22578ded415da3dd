-- The walk over the lines of a tree: what it finds, and what it has seen where it finds nothing.
use Rattle.std.specs.Prelude.{ℕ, suc, ◌+◌, ◌*◌, ◌^◌, ◌<◌, ◌≤◌, ◌≡◌, ◌&&◌, ◌↔◌, IsTrue, nat_lt, Bool, true, false, if◌then◌else◌, Option, Some, None}
use Rattle.std.proofs.Common.{arith, ap, ◌∙◌, sym, subst, refl, ltb-true}
use Rattle.std.proofs.lemmas.Bool.{and_parts}
use Rattle.lin_term.specs.declared.Sort.{Sort}
use Rattle.lin_term.specs.Move.{Move}
use Rattle.lin_term.specs.Definition.{IsKeptMove}
use Rattle.game_tree.specs.Skeleton.{Skeleton, Branches, end, theirs, mine, no_more, branch, nodes, branch_nodes, node_limit}
use Rattle.strat_check.specs.Section.{is_kept, tree_lines, branch_lines, or_else, bad_move, bad_branch}
use Rattle.strat_check.specs.Accepted.{EachKept, EachBranchKept}
use Rattle.strat_check.proofs.Kept.{test_kept, kept_test}

-- ---- how many lines a tree has

mutual
  pub tree_lines_few : (t : Skeleton) → tree_lines t ≤ 2 * nodes t + 1
  tree_lines_few end = omega arith
  tree_lines_few (theirs t) = let h = tree_lines_few t in omega arith
  tree_lines_few (mine bs) = let h = branch_lines_few bs in omega arith

  pub branch_lines_few : (bs : Branches) → branch_lines bs ≤ 2 * branch_nodes bs
  branch_lines_few no_more = omega arith
  branch_lines_few (branch m t bs) = let h = tree_lines_few t in let k = branch_lines_few bs in omega arith

-- ---- where nothing is found, all nodes are within the limit and all moves are kept

test_of : {A : Type 0} → (b : Bool) (x : Option A) (y : A) → (if b then x else Some y) ≡ None → (b ≡ true) × (x ≡ None)
test_of true x y h = (refl, h)
test_of false x y h = absurd (cc)

else_of : (x y : Option ℕ) → or_else x y ≡ None → (x ≡ None) × (y ≡ None)
else_of None y h = (refl, h)
else_of (Some l) y h = absurd (cc)

below_of : (n m : ℕ) → nat_lt n m ≡ true → n < m
below_of n m h = omega (arith, ltb-true)

pub record Seen (t : Skeleton) (s : Sort) (before : ℕ) : Type 0 where
  pub few : before ≤ node_limit → before + nodes t ≤ node_limit
  pub kept : EachKept t s

pub record SeenAll (bs : Branches) (s : Sort) (before : ℕ) : Type 0 where
  pub few : before ≤ node_limit → before + branch_nodes bs ≤ node_limit
  pub kept : EachBranchKept bs s

mutual
  pub none_seen : (t : Skeleton) (s : Sort) (line before : ℕ) → bad_move t s line before ≡ None → Seen t s before
  none_seen end s line before h = record { few = λ l. omega arith; kept = tt }
  none_seen (theirs t) s line before h =
      let a = test_of (nat_lt before node_limit) (bad_move t s (suc line) (suc before)) line h in
      let b = below_of before node_limit a.0 in
      let r = none_seen t s (suc line) (suc before) a.1 in
      record { few = λ l. let k = r.few b in omega arith; kept = r.kept }
  none_seen (mine bs) s line before h = let r = none_seen_all bs s (suc line) before h in record { few = r.few; kept = r.kept }

  pub none_seen_all : (bs : Branches) (s : Sort) (line before : ℕ) → bad_branch bs s line before ≡ None → SeenAll bs s before
  none_seen_all no_more s line before h = record { few = λ l. omega arith; kept = tt }
  none_seen_all (branch m t bs) s line before h =
      let a = test_of (nat_lt before node_limit && is_kept s m) (or_else (bad_move t s (suc line) (suc before)) (bad_branch bs s (suc line + tree_lines t) (suc before + nodes t))) line h in
      let c = and_parts (nat_lt before node_limit) (is_kept s m) a.0 in
      let b = below_of before node_limit c.0 in
      let o = else_of (bad_move t s (suc line) (suc before)) (bad_branch bs s (suc line + tree_lines t) (suc before + nodes t)) a.1 in
      let r = none_seen t s (suc line) (suc before) o.0 in
      let q = none_seen_all bs s (suc line + tree_lines t) (suc before + nodes t) o.1 in
      record { few = λ l. let k = r.few b in let z = q.few k in omega arith; kept = (test_kept s m c.1, r.kept, q.kept) }

-- ---- and where all are, nothing is found

lt_of : (n m : ℕ) → n < m → nat_lt n m ≡ true
lt_of n m h = grind (arith)

both_of : (a b : Bool) → a ≡ true → b ≡ true → (a && b) ≡ true
both_of true true p q = refl
both_of true false p q = q
both_of false b p q = p

taken : {A : Type 0} → (b : Bool) (x : Option A) (y : A) → b ≡ true → x ≡ None → (if b then x else Some y) ≡ None
taken true x y p q = q
taken false x y p q = absurd (cc)

no_else : (x y : Option ℕ) → x ≡ None → y ≡ None → or_else x y ≡ None
no_else None y p q = q
no_else (Some l) y p q = absurd (cc)

mutual
  pub seen_none : (t : Skeleton) (s : Sort) (line before : ℕ) → before + nodes t ≤ node_limit → EachKept t s → bad_move t s line before ≡ None
  seen_none end s line before l k = refl
  seen_none (theirs t) s line before l k =
      taken (nat_lt before node_limit) (bad_move t s (suc line) (suc before)) line (lt_of before node_limit (omega arith)) (seen_none t s (suc line) (suc before) (omega arith) k)
  seen_none (mine bs) s line before l k = seen_none_all bs s (suc line) before l k

  pub seen_none_all : (bs : Branches) (s : Sort) (line before : ℕ) → before + branch_nodes bs ≤ node_limit → EachBranchKept bs s → bad_branch bs s line before ≡ None
  seen_none_all no_more s line before l k = refl
  seen_none_all (branch m t bs) s line before l k =
      taken (nat_lt before node_limit && is_kept s m) (or_else (bad_move t s (suc line) (suc before)) (bad_branch bs s (suc line + tree_lines t) (suc before + nodes t))) line
      (both_of (nat_lt before node_limit) (is_kept s m) (lt_of before node_limit (omega arith)) (kept_test s m k.0))
      (no_else (bad_move t s (suc line) (suc before)) (bad_branch bs s (suc line + tree_lines t) (suc before + nodes t))
      (seen_none t s (suc line) (suc before) (omega arith) k.1) (seen_none_all bs s (suc line + tree_lines t) (suc before + nodes t) (omega arith) k.2))

-- ---- the loop over the branches of a node

-- what is found from here on, and the lines and nodes that are left, are those of all branches
pub record Walked (line before : ℕ) (left : Branches) (s : Sort) (line0 before0 : ℕ) (all : Branches) : Type 0 where
  pub same : bad_branch left s line before ≡ bad_branch all s line0 before0
  pub lines : line + branch_lines left ≡ line0 + branch_lines all
  pub nodes : before + branch_nodes left ≡ before0 + branch_nodes all

if_true : {A : Type 0} → (b : Bool) (x y : A) → b ≡ true → (if b then x else y) ≡ x
if_true true x y p = refl
if_true false x y p = absurd (cc)

if_false : {A : Type 0} → (b : Bool) (x y : A) → b ≡ false → (if b then x else y) ≡ y
if_false true x y p = absurd (cc)
if_false false x y p = refl

pub walked_more : (line before : ℕ) (m : Move) (t : Skeleton) (bs : Branches) (s : Sort) (line0 before0 : ℕ) (all : Branches) (line1 before1 line' before' : ℕ) →
    Walked line before (branch m t bs) s line0 before0 all → (nat_lt before node_limit && is_kept s m) ≡ true → line1 ≡ suc line → before1 ≡ suc before →
    bad_move t s line1 before1 ≡ None → line' ≡ line1 + tree_lines t → before' ≡ before1 + nodes t → Walked line' before' bs s line0 before0 all
walked_more line before m t bs s line0 before0 all line1 before1 line' before' w b el eb h1 l1 n1 =
    let h : bad_move t s (suc line) (suc before) ≡ None = subst (λ (x : ℕ). bad_move t s x (suc before) ≡ None) el (subst (λ (x : ℕ). bad_move t s line1 x ≡ None) eb h1) in
    let l : line' ≡ suc line + tree_lines t = subst (λ (x : ℕ). line' ≡ x + tree_lines t) el l1 in
    let n : before' ≡ suc before + nodes t = subst (λ (x : ℕ). before' ≡ x + nodes t) eb n1 in
    record {
      same =
          let e : bad_branch (branch m t bs) s line before ≡ bad_branch bs s (suc line + tree_lines t) (suc before + nodes t) =
          if_true (nat_lt before node_limit && is_kept s m) (or_else (bad_move t s (suc line) (suc before)) (bad_branch bs s (suc line + tree_lines t) (suc before + nodes t))) (Some line) b
          ∙ ap (λ (o : Option ℕ). or_else o (bad_branch bs s (suc line + tree_lines t) (suc before + nodes t))) h in
          ap (λ (x : ℕ). bad_branch bs s x before') l ∙ ap (bad_branch bs s (suc line + tree_lines t)) n ∙ sym e ∙ w.same;
      lines = let k = w.lines in omega arith;
      nodes = let k = w.nodes in omega arith;
    }

-- the branch's own line is found
pub walked_bad : (line before : ℕ) (m : Move) (t : Skeleton) (bs : Branches) (s : Sort) (line0 before0 : ℕ) (all : Branches) →
    Walked line before (branch m t bs) s line0 before0 all → (nat_lt before node_limit && is_kept s m) ≡ false → Some line ≡ bad_branch all s line0 before0
walked_bad line before m t bs s line0 before0 all w b =
    sym (if_false (nat_lt before node_limit && is_kept s m) (or_else (bad_move t s (suc line) (suc before)) (bad_branch bs s (suc line + tree_lines t) (suc before + nodes t))) (Some line) b) ∙ w.same

-- a line below the branch is found
pub walked_below : (line before : ℕ) (m : Move) (t : Skeleton) (bs : Branches) (s : Sort) (line0 before0 : ℕ) (all : Branches) (line1 before1 l : ℕ) →
    Walked line before (branch m t bs) s line0 before0 all → (nat_lt before node_limit && is_kept s m) ≡ true → line1 ≡ suc line → before1 ≡ suc before →
    bad_move t s line1 before1 ≡ Some l → Some l ≡ bad_branch all s line0 before0
walked_below line before m t bs s line0 before0 all line1 before1 l w b el eb h1 =
    let h : bad_move t s (suc line) (suc before) ≡ Some l = subst (λ (x : ℕ). bad_move t s x (suc before) ≡ Some l) el (subst (λ (x : ℕ). bad_move t s line1 x ≡ Some l) eb h1) in
    let e : bad_branch (branch m t bs) s line before ≡ Some l =
    if_true (nat_lt before node_limit && is_kept s m) (or_else (bad_move t s (suc line) (suc before)) (bad_branch bs s (suc line + tree_lines t) (suc before + nodes t))) (Some line) b
    ∙ ap (λ (o : Option ℕ). or_else o (bad_branch bs s (suc line + tree_lines t) (suc before + nodes t))) h in
    sym e ∙ w.same

-- ---- the test of one move

and_not : (a b : Bool) → ¬ (b ≡ true) → (a && b) ≡ false
and_not true true h = absurd (h refl)
and_not true false h = refl
and_not false b h = refl

pub fit_is : (r : Bool) (s : Sort) (m : Move) (before : ℕ) → before < 2 ^ 20 → (IsTrue r ↔ IsKeptMove s m) → r ≡ (nat_lt before node_limit && is_kept s m)
fit_is true s m before l h = sym (both_of (nat_lt before node_limit) (is_kept s m) (lt_of before node_limit l) (kept_test s m (h.0 refl)))
fit_is false s m before l h = sym (and_not (nat_lt before node_limit) (is_kept s m) (λ e. let u : false ≡ true = h.1 (test_kept s m e) in absurd (cc)))

pub fit_below : (r : Bool) (before : ℕ) (k : Bool) → r ≡ (nat_lt before node_limit && k) → r ≡ true → before < 2 ^ 20
fit_below r before k e h = below_of before node_limit (and_parts (nat_lt before node_limit) k (sym e ∙ h)).0
