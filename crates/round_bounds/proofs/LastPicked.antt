-- What is selected for a single last variable ends in moves that are picked from literals of the matrix that hold.
use Rattle.std.specs.Prelude.{ℕ, zero, suc, ◌+◌, ◌*◌, ◌-◌, ◌≤◌, ◌≡◌, ◌⊎◌, Bool, true, false, Option, Some, None, List, [], ◌∷◌, ◌++◌, map, length}
use Rattle.std.proofs.Common.{arith, ap, ◌∙◌, sym, subst, refl, inl, inr, length-append}
use Rattle.lin_term.specs.declared.Sort.{Sort}
use Rattle.lin_term.specs.declared.Lit.{Lit}
use Rattle.lin_term.specs.Linear.{Point, IsPoint, extend, origin}
use Rattle.lin_term.specs.Move.{Move}
use Rattle.dom_core.specs.declared.Quant.{Quant}
use Rattle.dom_core.specs.declared.Quant.TheVariants as quant
use Rattle.dom_core.specs.declared.Side.{Side}
use Rattle.dom_core.specs.declared.Side.TheVariants.{Exists, Forall}
use Rattle.dom_core.specs.Game.{Matrix, lit, all, some, Matrices, none, more, HoldsIn, IsMatrix, Problem, rename_matrix, flip, flip_all}
use Rattle.dom_core.specs.Problem.{WrittenProblem, problem_of, IsProblem}
use Rattle.dom_core.specs.Cube.{CubeHolds}
use Rattle.game_tree.specs.Skeleton.{Skeleton, end, theirs, mine, Branches, no_more, branch, paths, nodes, Follows, EachFollows}
use Rattle.lose_system.specs.Losing.{routes, branch_routes, AllLose}
use Rattle.dom_core.proofs.Duals.{length-flip, dual_matrix}
use Rattle.game_tree.specs.Among.{IsAmong, EachIs}
use Rattle.game_tree.specs.Union.{union}
use Rattle.lin_term.specs.Same.{same_move}
use Rattle.dom_core.specs.Pick.{pick}
use Rattle.term_select.specs.Guided.{Chosen, value_of, implicant, guided_from, guided_branches, guided_rest, with_move, joined}
use Rattle.dom_core.specs.Sides.{other, problem_for}
use Rattle.game_history.specs.Legal.{IsOfMatrix, IsOfSome}
use Rattle.round_bounds.specs.Terms.{HasTerms}
use Rattle.round_bounds.specs.Bounds.{AreAll, HasLastVariable, TermsAreEnough}
use Rattle.round_bounds.proofs.Unspent.{never_spent}
use Rattle.round_bounds.proofs.OnePlayer.{flipped_all}
use Rattle.lin_term.proofs.Comparing.{move_decides}
use Rattle.game_tree.proofs.Unions.{union_only}
use Rattle.term_select.proofs.Implicants.{IsOfMatrix as IsHere, IsOfSome as IsHereIn, implicant_holds, implicant_of, matrix_from_names}
use Rattle.term_select.proofs.Descent.{Here, step, at_root, lose_parts, lost_matrix, lost_gives, lost_is_matrix}
use Rattle.std.specs.List.{AllByRecursion}
use Rattle.game_history.proofs.Versions.{IsTreeOf}
use Rattle.round_bounds.proofs.LastVariable.{ends, zero_move, Picks, EndsWith, last_variable_unspent}

-- ---- literals of the matrix

mutual
  same_literal_of : (l : Lit) (m : Matrix) → IsHere l m → IsOfMatrix l m
  same_literal_of l (lit k) h = h
  same_literal_of l (all ms) h = same_literal_among l ms h
  same_literal_of l (some ms) h = same_literal_among l ms h

  same_literal_among : (l : Lit) (ms : Matrices) → IsHereIn l ms → IsOfSome l ms
  same_literal_among l none h = absurd h
  same_literal_among l (more m ms) (inl h) = inl (same_literal_of l m h)
  same_literal_among l (more m ms) (inr h) = inr (same_literal_among l ms h)

each_of : (m : Matrix) (c : List Lit) → AllByRecursion (λ l. IsHere l m) c → EachIs (λ l. IsOfMatrix l m) c
each_of m [] h = tt
each_of m (l ∷ c) h = (same_literal_of l m h.0, each_of m c h.1)

-- ---- the last moves

record IsPicked (s : Sort) (M : Matrix) (x : ℕ) (m : Move) : Type 0 where
  cube : List Lit
  of_matrix : EachIs (λ l. IsOfMatrix l M) cube
  point : Point
  is_point : IsPoint s point
  holds : CubeHolds cube point
  picked : m ≡ pick s x cube point

abbrev AllPicked : Sort → Matrix → ℕ → ℕ → Skeleton → Type 0
AllPicked s M x n T = (m : Move) → IsAmong (ends n m) (paths T) → IsPicked s M x m

same_head : (m k : Move) → Some m ∷ [] ≡ Some k ∷ [] → m ≡ k
same_head m k e = cc

same_tail : (p q : List (Option Move)) → None ∷ p ≡ None ∷ q → p ≡ q
same_tail p q e = cc

pub under_none : (p : List (Option Move)) (ps : List (List (Option Move))) → IsAmong (None ∷ p) (map (λ path. None ∷ path) ps) → IsAmong p ps
under_none p [] h = absurd h
under_none p (q ∷ ps) (inl h) = inl (same_tail p q h)
under_none p (q ∷ ps) (inr h) = inr (under_none p ps h)

both_picked : (s : Sort) (M : Matrix) (x n : ℕ) (S T : Skeleton) → AllPicked s M x n S → AllPicked s M x n T → AllPicked s M x n (union S T)
both_picked s M x n S T a b m h = by (union_only S T (ends n m) h)
  where
    by : IsAmong (ends n m) (paths S) ⊎ IsAmong (ends n m) (paths T) → IsPicked s M x m
    by (inl i) = a m i
    by (inr i) = b m i

-- below each branch of a node, given what is picked below one
abbrev PickedBelow : Sort → Matrix → Matrix → Point → List Quant → ℕ → ℕ → Point → List ℕ → Type 0
PickedBelow s M M' p block z x e names =
    (U : Skeleton) (v : ℕ) → Follows U s (flip_all (block ++ quant.Exists ∷ [])) (suc x) → AllLose (map (rename_matrix M') (routes U (names ++ v ∷ []) (suc v))) p → AllPicked s M z (length block) (guided_from U s M p (suc x) (suc v) (extend e (value_of p v))).tree

picked_rest : (bs : Branches) (s : Sort) (M M' : Matrix) (p : Point) (block : List Quant) (z x v : ℕ) (e : Point) (names : List ℕ) (f : Chosen) → PickedBelow s M M' p block z x e names → EachFollows bs s (flip_all (block ++ quant.Exists ∷ [])) x → AllLose (map (rename_matrix M') (branch_routes bs names v)) p → AllPicked s M z (length block) f.tree → AllPicked s M z (length block) (guided_rest bs s M p x v e f).tree
picked_rest no_more s M M' p block z x v e names f k g l a = a
picked_rest (branch mv U bs) s M M' p block z x v e names f k g l a =
    let here = extend e (value_of p v) in
    let one = guided_from U s M p (suc x) (suc v) here in
    let i = lose_parts M' (routes U (names ++ v ∷ []) (suc v)) (branch_routes bs names (suc v + nodes U)) p l in
    picked_rest bs s M M' p block z x (suc v + nodes U) e names (joined f (with_move s x mv e one)) k g.3 i.1
    (both_picked s M z (length block) f.tree one.tree a (k U v g.2 i.0))

no_ends : (n : ℕ) (m : Move) → IsAmong (ends n m) ([] ∷ []) → ⊥
no_ends zero m (inl i) = cc
no_ends zero m (inr i) = i
no_ends (suc n) m (inl i) = cc
no_ends (suc n) m (inr i) = i

picked_branches : (bs : Branches) (s : Sort) (M M' : Matrix) (p : Point) (block : List Quant) (z x v : ℕ) (e : Point) (names : List ℕ) → PickedBelow s M M' p block z x e names → EachFollows bs s (flip_all (block ++ quant.Exists ∷ [])) x → AllLose (map (rename_matrix M') (branch_routes bs names v)) p → AllPicked s M z (length block) (guided_branches bs s M p x v e).tree
picked_branches no_more s M M' p block z x v e names k g l = λ m h. absurd (no_ends (length block) m h)
picked_branches (branch mv U bs) s M M' p block z x v e names k g l =
    let i = lose_parts M' (routes U (names ++ v ∷ []) (suc v)) (branch_routes bs names (suc v + nodes U)) p l in
    picked_rest bs s M M' p block z x (suc v + nodes U) e names (with_move s x mv e (guided_from U s M p (suc x) (suc v) (extend e (value_of p v)))) k g.3 i.1 (k U v g.2 i.0)

-- whatever the system says on a path holds of the attacker's matrix
abbrev Gives : Sort → Matrix → Matrix → Type 0
Gives s M' M = (e : Point) → IsPoint s e → HoldsIn M' e → HoldsIn M e

picked_from : (block : List Quant) (U : Skeleton) (s : Sort) (M M' : Matrix) (p : Point) (z x v : ℕ) (e : Point) (names : List ℕ) → AreAll quant.Forall block → Follows U s (flip_all (block ++ quant.Exists ∷ [])) x → length names ≡ x → x + length block ≡ z → IsMatrix M' s (suc z) → Gives s M' M → Here s p e names → AllLose (map (rename_matrix M') (routes U names v)) p → AllPicked s M z (length block) (guided_from U s M p x v e).tree
picked_from [] end s M M' p z x v e names a f n w i g h l m k = absurd f
picked_from [] (mine bs) s M M' p z x v e names a f n w i g h l m k = absurd f
picked_from [] (theirs (theirs U)) s M M' p z x v e names a f n w i g h l m k = absurd f
picked_from [] (theirs (mine bs)) s M M' p z x v e names a f n w i g h l m k = absurd f
picked_from [] (theirs end) s M M' p z x v e names a f n w i g h l m (inr k) = absurd k
picked_from [] (theirs end) s M M' p z x v e names a f n w i g h l m (inl k) =
    let here = extend e (value_of p v) in
    let t = step s p e names v h in
    let len = length-append names (v ∷ []) in
    let long : suc z ≡ length (names ++ v ∷ []) = omega arith in
    let true_here : HoldsIn M here = g here t.path_point (matrix_from_names M' s (names ++ v ∷ []) here p t.path_point h.whole_point t.agree (subst (λ (j : ℕ). IsMatrix M' s j) long i) l.0) in
    let same : x ≡ z = omega arith in
    record {
      cube = implicant M here;
      of_matrix = each_of M (implicant M here) (implicant_of M here true_here);
      point = here;
      is_point = t.path_point;
      holds = implicant_holds M here true_here;
      picked = same_head m (pick s x (implicant M here) here) k ∙ ap (λ (j : ℕ). pick s j (implicant M here) here) same;
    }
picked_from (quant.Exists ∷ block) U s M M' p z x v e names a f n w i g h l m k = absurd (let b = a.0 in cc)
picked_from (quant.Forall ∷ block) end s M M' p z x v e names a f n w i g h l m k = absurd f
picked_from (quant.Forall ∷ block) (theirs U) s M M' p z x v e names a f n w i g h l m k = absurd f
picked_from (quant.Forall ∷ block) (mine bs) s M M' p z x v e names a f n w i g h l m k =
    picked_branches bs s M M' p block z x v e names
    (λ U u b c. picked_from block U s M M' p z (suc x) (suc u) (extend e (value_of p u)) (names ++ u ∷ []) a.1 b (let len = length-append names (u ∷ []) in omega arith) (omega arith) i g (step s p e names u h) c)
    f.1 l m (under_none (ends (length block) m) (paths (guided_branches bs s M p x v e).tree) k)

-- ---- both sides

flips_back : (qs : List Quant) → flip_all (flip_all qs) ≡ qs
flips_back [] = refl
flips_back (quant.Exists ∷ qs) = ap (λ (rs : List Quant). quant.Exists ∷ rs) (flips_back qs)
flips_back (quant.Forall ∷ qs) = ap (λ (rs : List Quant). quant.Forall ∷ rs) (flips_back qs)

pub other_follows : (s : Sort) (P : Problem) (side : Side) (U : Skeleton) → IsTreeOf s P (other side) U → Follows U s (flip_all (problem_for s side P).prefix) 0
other_follows s P Exists U f = f
other_follows s P Forall U f = subst (λ (qs : List Quant). Follows U s qs 0) (sym (flips_back P.prefix)) f

side_matrix : (s : Sort) (P : Problem) (side : Side) → IsMatrix P.matrix s (length P.prefix) → IsMatrix (problem_for s side P).matrix s (length (problem_for s side P).prefix)
side_matrix s P Exists i = i
side_matrix s P Forall i = dual_matrix s P i

picks_terms : (s : Sort) (P : Problem) (B : ℕ) (side : Side) (h : EndsWith s P B side) → IsMatrix P.matrix s (length P.prefix) → Picks s P side h.terms (length h.block)
picks_terms s P B side h i U C f d m k = by (same_move m zero_move) refl
  where
    picked : IsPicked s (problem_for s side P).matrix (length h.block) m
    picked =
        let Q = problem_for s side P in
        let j = side_matrix s P side i in
        let len = length-append h.block (quant.Exists ∷ []) in
        let long : length Q.prefix ≡ suc (length h.block) = ap length h.prefix ∙ (let u : length (h.block ++ quant.Exists ∷ []) ≡ suc (length h.block) = omega arith in u) in
        picked_from h.block U s Q.matrix (lost_matrix s Q) d.point (length h.block) 0 0 origin [] h.theirs_all
        (subst (λ (qs : List Quant). Follows U s (flip_all qs) 0) h.prefix (other_follows s P side U f)) refl (omega arith)
        (subst (λ (n : ℕ). IsMatrix (lost_matrix s Q) s n) long (lost_is_matrix s Q j)) (λ e o g. lost_gives s Q e j o g) (at_root s d.point d.solves.point) d.solves.lose m
        (subst (λ (T : Skeleton). IsAmong (ends (length h.block) m) (paths T)) d.tree k)

    by : (b : Bool) → same_move m zero_move ≡ b → (m ≡ zero_move) ⊎ IsAmong m h.terms
    by true e = inl ((move_decides m zero_move).0 e)
    by false e = inr (h.every m (record {
      cube = picked.cube;
      of_matrix = picked.of_matrix;
      point = picked.point;
      is_point = picked.is_point;
      holds = picked.holds;
      picked = picked.picked;
      nonzero = λ (z : m ≡ zero_move). let t = (move_decides m zero_move).1 z in absurd (cc);
    }))

-- ---- the prefix as it is written

flip-append : (ps qs : List Quant) → flip_all (ps ++ qs) ≡ flip_all ps ++ flip_all qs
flip-append [] qs = refl
flip-append (p ∷ ps) qs = ap (λ (rs : List Quant). flip p ∷ rs) (flip-append ps qs)

last_place : (qs block : List Quant) (q : Quant) → qs ≡ block ++ q ∷ [] → length qs - 1 ≡ length block
last_place qs block q e = let a = length-append block (q ∷ []) in let b : length qs ≡ length (block ++ q ∷ []) = ap length e in omega arith

ends_with : (s : Sort) (P : Problem) (B : ℕ) (side : Side) (T : List Move) → HasLastVariable P.prefix side → HasTerms s (problem_for s side P) (length P.prefix - 1) T → 2 * length T + 1 ≤ B → EndsWith s P B side
ends_with s P B Exists T h e r = record {
  block = h.block;
  theirs_all = h.theirs;
  prefix = h.prefix;
  terms = T;
  every = subst (λ (x : ℕ). HasTerms s P x T) (last_place P.prefix h.block quant.Exists h.prefix) e;
  rounds = r;
}
ends_with s P B Forall T h e r = record {
  block = flip_all h.block;
  theirs_all = flipped_all h.block h.theirs;
  prefix = ap flip_all h.prefix ∙ flip-append h.block (quant.Forall ∷ []);
  terms = T;
  every = subst (λ (x : ℕ). HasTerms s (problem_for s Forall P) x T) (last_place P.prefix h.block quant.Forall h.prefix ∙ sym (length-flip h.block)) e;
  rounds = r;
}

-- where one block is followed by a single last variable of the other player, two rounds a term and one more are enough
pub last_variable_rounds : (s : Sort) (P : Problem) (side : Side) → IsMatrix P.matrix s (length P.prefix) → HasLastVariable P.prefix side → TermsAreEnough s P side
last_variable_rounds s P side i h T e B r =
    let w = ends_with s P B side T h e r in
    never_spent s P B (last_variable_unspent s P B side w (picks_terms s P B side w i))

-- of a problem that was written
pub bound_for : (s : Sort) (P : WrittenProblem) (side x : Side) → Some side ≡ Some x → IsProblem s P → HasLastVariable P.prefix side → TermsAreEnough s (problem_of P) x
bound_for s P side x e i h =
    subst (λ (y : Side). TermsAreEnough s (problem_of P) y) (same_side side x e) (last_variable_rounds s (problem_of P) side i.1 h)
  where
    same_side : (y z : Side) → Some y ≡ Some z → y ≡ z
    same_side y z u = cc
