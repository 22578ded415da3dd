-- From a solution of the losing system to the counter.
use Rattle.std.specs.Prelude.{ℕ, ◌+◌, ◌≤◌, ◌≡◌, ℤ, Result, Ok, Err, List, [], length}
use Rattle.std.proofs.Common.{arith, ap, ap₂, ◌∙◌, sym, subst, refl}
use Rattle.lin_term.specs.declared.Sort.{Sort}
use Rattle.lin_term.specs.declared.Short.{Short}
use Rattle.lin_term.specs.declared.Short.TheVariants as short
use Rattle.lin_term.specs.Linear.{Point, origin}
use Rattle.dom_core.specs.declared.Matrix.{Matrix as Written}
use Rattle.dom_core.specs.declared.Quant.{Quant}
use Rattle.dom_core.specs.declared.Side.{Side}
use Rattle.dom_core.specs.Game.{Problem, dual, flip_all}
use Rattle.dom_core.specs.Negation.{HasRows}
use Rattle.dom_core.specs.Problem.{WrittenProblem, IsProblem, problem_of}
use Rattle.dom_core.specs.View.{matrix_of}
use Rattle.game_tree.specs.declared.Tree.{Tree}
use Rattle.game_tree.specs.Skeleton.{Follows, nodes, node_limit}
use Rattle.game_tree.specs.View.{skeleton_of}
use Rattle.game_tree.specs.Written.{WrittenSkeleton, FollowsPrefix}
use Rattle.lose_system.specs.Losing.{system, Solves}
use Rattle.term_select.specs.declared.part.Part.{Part}
use Rattle.term_select.specs.declared.part.Stop.{Stop}
use Rattle.term_select.specs.declared.fault.SelectFault.{SelectFault}
use Rattle.term_select.specs.declared.fault.SelectFault.TheVariants as fault
use Rattle.term_select.specs.Guided.{Chosen, guided, guided_from, first_wide}
use Rattle.term_select.specs.Selected.{losing, Selected}
use Rattle.term_select.specs.Counter.{WrittenCounter}
use Rattle.term_select.specs.Walk.{IsPlay, CanSelect, Gives, values_on}
use Rattle.term_select.specs.Answers.{selection, IsSelected, Answers, IsStop}
use Rattle.term_select.proofs.Descent.{lost_matrix, lost_gives, lost_is_matrix}
use Rattle.term_select.proofs.FineForms.{matrix_fine}
use Rattle.term_select.proofs.SelectedTree.{selected_follows}
use Rattle.term_select.proofs.Fewer.{selected_nodes}
use Rattle.term_select.proofs.Wides.{found_at}

-- what is known before the walk: Q is the dual of P, U a skeleton of P's Exists, and p solves its losing system
pub record IsAttack (s : Sort) (P Q : WrittenProblem) (U : WrittenSkeleton) (p : Point) : Type 0 where
  pub problem : IsProblem s Q
  pub rows : HasRows (matrix_of Q.matrix)
  pub is_dual : problem_of Q ≡ dual s (problem_of P)
  pub inverse : dual s (problem_of Q) ≡ problem_of P
  pub follows : FollowsPrefix s U
  pub prefix : U.prefix ≡ P.prefix
  pub few : nodes (skeleton_of U.tree) ≤ node_limit
  pub solves : Solves s (system s (problem_of P) (skeleton_of U.tree)) p

pub attack : (s : Sort) (P Q : WrittenProblem) (U : WrittenSkeleton) (p : Point) (m : Written) → IsProblem s Q → m ≡ Q.matrix → HasRows (matrix_of m) → problem_of Q ≡ dual s (problem_of P) → dual s (problem_of Q) ≡ problem_of P
    → FollowsPrefix s U → U.prefix ≡ P.prefix → nodes (skeleton_of U.tree) ≤ node_limit → Solves s (system s (problem_of P) (skeleton_of U.tree)) p → IsAttack s P Q U p
attack s P Q U p m i e r d v f x w h = record {
  problem = i;
  rows = subst (λ (k : Written). HasRows (matrix_of k)) e r;
  is_dual = d;
  inverse = v;
  follows = f;
  prefix = x;
  few = w;
  solves = h;
}

pub prefix_is : (s : Sort) (P Q : WrittenProblem) (U : WrittenSkeleton) (p : Point) → IsAttack s P Q U p → U.prefix ≡ flip_all Q.prefix
prefix_is s P Q U p a = a.prefix ∙ sym (ap (λ (R : Problem). R.prefix) a.inverse)

attacked_follows : (s : Sort) (P Q : WrittenProblem) (U : WrittenSkeleton) (p : Point) → IsAttack s P Q U p → Follows (skeleton_of U.tree) s (flip_all Q.prefix) 0
attacked_follows s P Q U p a = subst (λ (qs : List Quant). Follows (skeleton_of U.tree) s qs 0) (prefix_is s P Q U p a) a.follows.follows

attack_solves : (s : Sort) (P Q : WrittenProblem) (U : WrittenSkeleton) (p : Point) → IsAttack s P Q U p → Solves s (losing s (problem_of Q) (skeleton_of U.tree)) p
attack_solves s P Q U p a = subst (λ (R : Problem). Solves s (system s R (skeleton_of U.tree)) p) (sym a.inverse) a.solves

none_before : (n : ℕ) → 0 + n ≡ n
none_before n = omega arith

pub can_root : (s : Sort) (P Q : WrittenProblem) (U : WrittenSkeleton) (p : Point) → IsAttack s P Q U p → CanSelect s (matrix_of Q.matrix) p (skeleton_of U.tree) 0 []
can_root s P Q U p a =
    let R = problem_of Q in
    let d = attack_solves s P Q U p a in
    let few = a.few in
    let short = a.problem.0 in
    let at_root : IsPlay s (matrix_of Q.matrix) (lost_matrix s R) (length Q.prefix) = record { matrix = a.problem.1; negations = a.problem.2; rows = a.rows; lost_matrix = lost_is_matrix s R a.problem.1; gives = λ e o h. lost_gives s R e a.problem.1 o h } in
    record {
      lost = lost_matrix s R;
      rest = Q.prefix;
      play = subst (λ (n : ℕ). IsPlay s (matrix_of Q.matrix) (lost_matrix s R) n) (sym (none_before (length Q.prefix))) at_root;
      short = omega arith;
      follows = attacked_follows s P Q U p a;
      point = d.point;
      lose = d.lose;
      few = omega arith;
    }

-- the walk begins at the root
pub can_begin : (s : Sort) (P Q : WrittenProblem) (U : WrittenSkeleton) (p : Point) (m : Written) (t : Tree) (way : List ℕ) → IsAttack s P Q U p → m ≡ Q.matrix → t ≡ U.tree → way ≡ [] → CanSelect s (matrix_of m) p (skeleton_of t) 0 way
can_begin s P Q U p m t way a e f h =
    subst (λ (ns : List ℕ). CanSelect s (matrix_of m) p (skeleton_of t) 0 ns) (sym h)
    (subst (λ (u : Tree). CanSelect s (matrix_of m) p (skeleton_of u) 0 []) (sym f)
    (subst (λ (k : Written). CanSelect s (matrix_of k) p (skeleton_of U.tree) 0 []) (sym e) (can_root s P Q U p a)))

pub begun : (s : Sort) (Q : WrittenProblem) (U : WrittenSkeleton) (p : Point) (m : Written) (t : Tree) (way : List ℕ) (n : ℕ) (result : Result Part (Short Stop)) → m ≡ Q.matrix → t ≡ U.tree → way ≡ []
    → Gives (guided_from (skeleton_of t) s (matrix_of m) p (length way) 0 (values_on p way)) n result → Gives (guided s (problem_of Q) (skeleton_of U.tree) p) n result
begun s Q U p m t way n result e f h g =
    subst (λ (k : Written). Gives (guided_from (skeleton_of U.tree) s (matrix_of k) p 0 0 origin) n result) e
    (subst (λ (u : Tree). Gives (guided_from (skeleton_of u) s (matrix_of m) p 0 0 origin) n result) f
    (subst (λ (ns : List ℕ). Gives (guided_from (skeleton_of t) s (matrix_of m) p (length ns) 0 (values_on p ns)) n result) h g))

pub attack_selected : (s : Sort) (P Q : WrittenProblem) (U : WrittenSkeleton) (p : Point) (n : ℕ) (part : Part) → IsAttack s P Q U p → Gives (guided s (problem_of Q) (skeleton_of U.tree) p) n (Ok part) → Selected s (problem_of Q) (skeleton_of U.tree) (skeleton_of part.tree)
attack_selected s P Q U p n part a g = record { point = p; solves = attack_solves s P Q U p a; within = g.0; tree = g.2 }

-- the selected tree follows the prefix of its problem
pub attack_follows : (s : Sort) (P Q : WrittenProblem) (U : WrittenSkeleton) (p : Point) (n : ℕ) (part : Part) → IsAttack s P Q U p → Gives (guided s (problem_of Q) (skeleton_of U.tree) p) n (Ok part) → FollowsPrefix s (record { prefix = Q.prefix; tree = part.tree })
attack_follows s P Q U p n part a g =
    let R = problem_of Q in
    let T = skeleton_of U.tree in
    let C = skeleton_of part.tree in
    let f = attacked_follows s P Q U p a in
    let d = attack_selected s P Q U p n part a g in
    let m = selected_nodes s R T C f d in
    let w = a.few in
    record { short = a.problem.0; follows = selected_follows s R T C (matrix_fine R.matrix s (length Q.prefix) a.problem.1 a.rows) f d; countable = omega arith }

same_selection : (s : Sort) (P Q : WrittenProblem) (U : WrittenSkeleton) (p : Point) → IsAttack s P Q U p → guided s (problem_of Q) (skeleton_of U.tree) p ≡ selection s P U p
same_selection s P Q U p a = ap (λ (R : Problem). guided s R (skeleton_of U.tree) p) a.is_dual

pub answers_counter : (s : Sort) (side : Side) (P Q : WrittenProblem) (U : WrittenSkeleton) (p : Point) (n : ℕ) (part : Part) (c : WrittenCounter) → IsAttack s P Q U p → Gives (guided s (problem_of Q) (skeleton_of U.tree) p) n (Ok part) → c ≡ record { side = side; problem = Q; against = U; paths = record { prefix = Q.prefix; tree = part.tree } } → IsSelected s side P U p c
answers_counter s side P Q U p n part c a g e =
    subst (λ (k : WrittenCounter). IsSelected s side P U p k) (sym e) (record {
      side = refl;
      problem = a.is_dual;
      against = refl;
      within = ap (λ (f : Chosen). first_wide f.numbers) (sym (same_selection s P Q U p a)) ∙ g.0;
      paths = g.2 ∙ ap (λ (f : Chosen). f.tree) (same_selection s P Q U p a);
    })

found_is : (v w : ℕ) (m n : ℤ) → v ≡ w → m ≡ n → found_at v m ≡ found_at w n
found_is v w m n h g = ap₂ (λ (x : ℕ) (z : ℤ). found_at x z) h g

pub answers_stop : (s : Sort) (side : Side) (P Q : WrittenProblem) (U : WrittenSkeleton) (p : Point) (n : ℕ) (f : Short Stop) (answer : SelectFault) → IsAttack s P Q U p → Gives (guided s (problem_of Q) (skeleton_of U.tree) p) n (Err f) → IsStop p f answer → Answers s side P U p (Err answer)
answers_stop s side P Q U p n (short.Fault stop) (fault.Choice w) a g h =
    (h.0, ap (λ (c : Chosen). first_wide c.numbers) (sym (same_selection s P Q U p a)) ∙ g ∙ found_is stop.var w.var stop.number w.number (sym h.1) (sym h.2))
answers_stop s side P Q U p n (short.Fault stop) fault.Memory a g h = tt
answers_stop s side P Q U p n short.Memory (fault.Choice w) a g h = absurd h
answers_stop s side P Q U p n short.Memory fault.Memory a g h = tt
