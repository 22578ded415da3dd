-- What an accepted section proves.
use Rattle.std.specs.Prelude.{ℕ, ◌+◌, ◌^◌, ◌<◌, ◌≤◌, ◌≡◌, ◌↔◌, IfOk, Result, Ok, Err, Bool, true, false, if◌then◌else◌, Option, Some, None, List, [], ◌∷◌, length}
use Rattle.std.proofs.Common.{arith, ap, ◌∙◌, sym, subst, refl}
use Rattle.lin_term.specs.declared.Sort.{Sort}
use Rattle.lin_term.specs.declared.Memory.{Memory}
use Rattle.lin_term.specs.declared.Short.{Short}
use Rattle.lin_term.specs.declared.Short.TheVariants as short
use Rattle.lin_term.specs.Linear.{origin}
use Rattle.dom_core.specs.declared.Side.{Side}
use Rattle.dom_core.specs.declared.Side.TheVariants as side
use Rattle.dom_core.specs.Sides.{problem_for}
use Rattle.dom_core.specs.Game.{Problem, IsMatrix, TrueP, dual}
use Rattle.dom_core.specs.Problem.{WrittenProblem, problem_of}
use Rattle.dom_core.specs.declared.Quant.{Quant}
use Rattle.dom_core.proofs.Contrary.{dual_apart}
use Rattle.dom_core.proofs.Duals.{dual_matrix, origin_point}
use Rattle.game_tree.specs.declared.Tree.{Tree}
use Rattle.game_tree.specs.Skeleton.{Skeleton, node_limit, nodes, IsSkeleton}
use Rattle.game_tree.specs.View.{skeleton_of}
use Rattle.cube_rules.specs.declared.Step.{Step}
use Rattle.cube_rules.specs.declared.Rule.TheVariants as rule
use Rattle.proof_rules.specs.declared.BadLine.{BadLine}
use Rattle.proof_rules.specs.Rules.{Refutes}
use Rattle.cube_rules.specs.Context.{open_context}
use Rattle.lose_system.specs.Losing.{system}
use Rattle.proof_rules.specs.Rules.{apply}
use Rattle.lose_system.specs.Written.{WrittenSystem}
use Rattle.proof_rules.specs.Checked.{Judged, first_bad}
use Rattle.proof_rules.proofs.Checking.{passes_refutes, refutes_passes}
use Rattle.proof_rules.proofs.FirstBad.{bad_within}
use Rattle.proof_rules.proofs.Refuted.{refuted_is_lost, refuted_is_true}
use Rattle.strat_text.specs.declared.Section.{Section}
use Rattle.strat_text.specs.declared.Section.TheVariants as section
use Rattle.strat_text.specs.Spelling.{IsSection}
use Rattle.strat_text.specs.Spelling as spelling
use Rattle.strat_check.specs.declared.checked.Checked.{Checked}
use Rattle.strat_check.specs.declared.checked.Checked.TheVariants as checked
use Rattle.strat_check.specs.Section.{turns_of, same_turns, tree_lines, bad_move, by_proof, by_move, judged_claim, verdict}
use Rattle.strat_check.specs.Accepted.{EachKept, IsBorneOut, Accepts, IsLost}
use Rattle.strat_check.proofs.Walking.{none_seen, seen_none, tree_lines_few}
use Rattle.strat_check.proofs.Turning.{turns_equal, equal_turns}
use Rattle.strat_check.proofs.Follows.{follows}

-- ---- acceptance

abbrev AcceptsOwner : Checked → Side → Type 0
AcceptsOwner c owner = c ≡ checked.Accepted owner

split_turns : (b : Bool) (x : Checked) (line : ℕ) (owner : Side) → (if b then x else checked.Rejected line rule.Turns) ≡ checked.Accepted owner → (b ≡ true) × (x ≡ checked.Accepted owner)
split_turns true x line owner h = (refl, h)
split_turns false x line owner h = absurd (cc)

split_move : (o : Option ℕ) (x : Checked) (owner : Side) → by_move x o ≡ checked.Accepted owner → (o ≡ None) × (x ≡ checked.Accepted owner)
split_move None x owner h = (refl, h)
split_move (Some l) x owner h = absurd (cc)

split_proof : (claimed owner : Side) (first : ℕ) (o : Option BadLine) → by_proof claimed first o ≡ checked.Accepted owner → (o ≡ None) × (claimed ≡ owner)
split_proof claimed owner first None h = (refl, cc)
split_proof claimed owner first (Some b) h = absurd (cc)

proves_of : (s : Sort) (P : Problem) (claimed owner : Side) (turns : List Bool) (S : Skeleton) (proof : List Step) (line : ℕ) → judged_claim s P claimed turns S proof line ≡ checked.Accepted owner → (claimed ≡ owner) × IsBorneOut s P turns S proof
proves_of s P claimed owner turns S proof line h =
    let a = split_turns (same_turns turns (turns_of P.prefix)) (by_move (by_proof claimed (line + 3 + tree_lines S) (first_bad s P S proof)) (bad_move S s (line + 2) 0)) (line + 1) owner h in
    let b = split_move (bad_move S s (line + 2) 0) (by_proof claimed (line + 3 + tree_lines S) (first_bad s P S proof)) owner a.1 in
    let c = split_proof claimed owner (line + 3 + tree_lines S) (first_bad s P S proof) b.1 in
    let n = none_seen S s (line + 2) 0 b.0 in (
      c.1,
      record {
        turns_fit = turns_equal turns (turns_of P.prefix) a.0;
        few = let z = n.few (omega arith) in omega arith;
        kept = n.kept;
        refutes = passes_refutes s P S proof c.0;
      },
    )

take_true : (b : Bool) (x y : Checked) → b ≡ true → (if b then x else y) ≡ x
take_true true x y h = refl
take_true false x y h = absurd (cc)

of_proves : (s : Sort) (P : Problem) (owner : Side) (turns : List Bool) (S : Skeleton) (proof : List Step) (line : ℕ) → IsBorneOut s P turns S proof → judged_claim s P owner turns S proof line ≡ checked.Accepted owner
of_proves s P owner turns S proof line h =
    let t : same_turns turns (turns_of P.prefix) ≡ true = subst (λ (x : List Bool). same_turns turns x ≡ true) h.turns_fit (equal_turns turns) in
    let m = seen_none S s (line + 2) 0 (let z = h.few in omega arith) h.kept in
    let p = refutes_passes s P S proof h.refutes in
    take_true (same_turns turns (turns_of P.prefix)) (by_move (by_proof owner (line + 3 + tree_lines S) (first_bad s P S proof)) (bad_move S s (line + 2) 0)) (checked.Rejected (line + 1) rule.Turns) t
    ∙ ap (by_move (by_proof owner (line + 3 + tree_lines S) (first_bad s P S proof))) m
    ∙ ap (by_proof owner (line + 3 + tree_lines S)) p

-- accepted exactly where the section accepts
pub accepted_accepts : (s : Sort) (P : Problem) (owner : Side) (x : Section) → verdict s P x ≡ checked.Accepted owner → Accepts s P owner x
accepted_accepts s P owner section.Unknown h = absurd (cc)
accepted_accepts s P owner (section.Claimed claimed turns tree proof line) h =
    let a = proves_of s (problem_for s claimed P) claimed owner turns (skeleton_of tree) proof line h in
    (a.0, subst (λ (x : Side). IsBorneOut s (problem_for s x P) turns (skeleton_of tree) proof) a.0 a.1)

pub accepts_accepted : (s : Sort) (P : Problem) (owner : Side) (x : Section) → Accepts s P owner x → verdict s P x ≡ checked.Accepted owner
accepts_accepted s P owner section.Unknown h = absurd h
accepts_accepted s P owner (section.Claimed claimed turns tree proof line) h =
    of_proves s (problem_for s claimed P) claimed turns (skeleton_of tree) proof line (subst (λ (x : Side). IsBorneOut s (problem_for s x P) turns (skeleton_of tree) proof) (sym h.0) h.1) ∙ ap checked.Accepted h.0

-- ---- what it is worth

-- a tree that follows turns of the prefix, has few nodes and keeps its moves is a skeleton
pub skeleton_is : (s : Sort) (P : Problem) (turns : List Bool) (tree : Tree) → turns ≡ turns_of P.prefix → spelling.FollowsTurns turns 0 tree → nodes (skeleton_of tree) ≤ node_limit → EachKept (skeleton_of tree) s → IsSkeleton s P (skeleton_of tree)
skeleton_is s P turns tree e f n k = record { follows = follows turns P.prefix s 0 tree e f k; few = n }

proved_true : (s : Sort) (P : Problem) (turns : List Bool) (tree : Tree) (proof : List Step) → IsMatrix P.matrix s (length P.prefix) → spelling.FollowsTurns turns 0 tree → IsBorneOut s P turns (skeleton_of tree) proof → TrueP s P
proved_true s P turns tree proof o f h =
    refuted_is_true s P (skeleton_of tree) proof o (follows turns P.prefix s 0 tree h.turns_fit f h.kept) h.refutes

-- an accepted `sat` proves that the problem is true
pub accepted_true : (s : Sort) (P : Problem) (x : Section) → IsMatrix P.matrix s (length P.prefix) → IsSection x → verdict s P x ≡ checked.Accepted side.Exists → TrueP s P
accepted_true s P section.Unknown o w h = absurd (cc)
accepted_true s P (section.Claimed side.Exists turns tree proof line) o w h =
    let a = accepted_accepts s P side.Exists (section.Claimed side.Exists turns tree proof line) h in
    proved_true s P turns tree proof o w.1 a.1
accepted_true s P (section.Claimed side.Forall turns tree proof line) o w h =
    let a = accepted_accepts s P side.Exists (section.Claimed side.Forall turns tree proof line) h in absurd (let e : side.Forall ≡ side.Exists = a.0 in cc)

-- an accepted `unsat` proves that it is false
pub accepted_false : (s : Sort) (P : Problem) (x : Section) → IsMatrix P.matrix s (length P.prefix) → IsSection x → verdict s P x ≡ checked.Accepted side.Forall → TrueP s P → ⊥
accepted_false s P section.Unknown o w h t = absurd (cc)
accepted_false s P (section.Claimed side.Forall turns tree proof line) o w h t =
    let a = accepted_accepts s P side.Forall (section.Claimed side.Forall turns tree proof line) h in
    dual_apart P.prefix s P.matrix (length P.prefix) origin o (origin_point s) (proved_true s (dual s P) turns tree proof (dual_matrix s P o) w.1 a.1) t
accepted_false s P (section.Claimed side.Exists turns tree proof line) o w h t =
    let a = accepted_accepts s P side.Forall (section.Claimed side.Exists turns tree proof line) h in absurd (let e : side.Exists ≡ side.Forall = a.0 in cc)

-- no point solves the losing system of an accepted tree
accepted_lost : (s : Sort) (P : Problem) (owner : Side) (x : Section) → IsMatrix P.matrix s (length P.prefix) → verdict s P x ≡ checked.Accepted owner → IsLost s P owner x
accepted_lost s P owner section.Unknown o h = absurd (cc)
accepted_lost s P side.Exists (section.Claimed claimed turns tree proof line) o h =
    let a = accepted_accepts s P side.Exists (section.Claimed claimed turns tree proof line) h in
    refuted_is_lost s P (skeleton_of tree) proof o a.1.refutes
accepted_lost s P side.Forall (section.Claimed claimed turns tree proof line) o h =
    let a = accepted_accepts s P side.Forall (section.Claimed claimed turns tree proof line) h in
    refuted_is_lost s (dual s P) (skeleton_of tree) proof (dual_matrix s P o) a.1.refutes

pub result_lost : (s : Sort) (P : Problem) (x : Section) (r : Result Checked Memory) → IsMatrix P.matrix s (length P.prefix) → IfOk r (λ c. c ≡ verdict s P x) →
    IfOk r (λ c. (owner : Side) → c ≡ checked.Accepted owner → IsLost s P owner x)
result_lost s P x (Ok c) o h = λ owner e. accepted_lost s P owner x o (sym h ∙ e)
result_lost s P x (Err e) o h = tt

-- ---- the answers of the calls

-- a bad line is one of the proof, or the one behind its last
bad_few : (s : Sort) (P : Problem) (S : Skeleton) (proof : List Step) (b : BadLine) → first_bad s P S proof ≡ Some b → b.line ≤ length proof
bad_few s P S proof b e = let h = bad_within (apply s (system s P S)) proof (open_context ∷ []) 0 b e in omega arith

-- the turns fit and each move is kept: the proof decides
pub claim_judged : (s : Sort) (P : Problem) (owner : Side) (turns : List Bool) (S : Skeleton) (proof : List Step) (line at : ℕ) →
    same_turns turns (turns_of P.prefix) ≡ true → bad_move S s (line + 2) 0 ≡ None → at ≡ (line + 2) + tree_lines S → by_proof owner (at + 1) (first_bad s P S proof) ≡ judged_claim s P owner turns S proof line
claim_judged s P owner turns S proof line at t m a =
    let n : at + 1 ≡ line + 3 + tree_lines S = omega arith in
    ap (λ (k : ℕ). by_proof owner k (first_bad s P S proof)) n
    ∙ sym (take_true (same_turns turns (turns_of P.prefix)) (by_move (by_proof owner (line + 3 + tree_lines S) (first_bad s P S proof)) (bad_move S s (line + 2) 0)) (checked.Rejected (line + 1) rule.Turns) t
    ∙ ap (by_move (by_proof owner (line + 3 + tree_lines S) (first_bad s P S proof))) m)

pub claim_skeleton : (s : Sort) (P : Problem) (turns : List Bool) (tree : Tree) (line : ℕ) → same_turns turns (turns_of P.prefix) ≡ true → spelling.FollowsTurns turns 0 tree → bad_move (skeleton_of tree) s line 0 ≡ None → IsSkeleton s P (skeleton_of tree)
claim_skeleton s P turns tree line t f m =
    let n = none_seen (skeleton_of tree) s line 0 m in
    skeleton_is s P turns tree (turns_equal turns (turns_of P.prefix) t) f (let z = n.few (omega arith) in omega arith) n.kept

pub both_ways : (s : Sort) (P : Problem) (x : Section) (c : Checked) → c ≡ verdict s P x → (owner : Side) → (c ≡ checked.Accepted owner) ↔ Accepts s P owner x
both_ways s P x c e owner = (λ h. accepted_accepts s P owner x (sym e ∙ h), λ h. e ∙ accepts_accepted s P owner x h)

pub turns_same : (ts : List Bool) (qs rs : List Quant) (b : Bool) → qs ≡ rs → b ≡ same_turns ts (turns_of qs) → b ≡ true → same_turns ts (turns_of rs) ≡ true
turns_same ts qs rs b e f h = ap (λ (us : List Quant). same_turns ts (turns_of us)) (sym e) ∙ sym f ∙ h

pub none_found : (S : Skeleton) (s t : Sort) (line : ℕ) (o : Option ℕ) → t ≡ s → o ≡ bad_move S t line 0 → o ≡ None → bad_move S s line 0 ≡ None
none_found S s t line o e f h = ap (λ (u : Sort). bad_move S u line 0) (sym e) ∙ sym f ∙ h

-- what the check of the lines found
passed : (s : Sort) (P : WrittenProblem) (tree : Tree) (w : WrittenSystem) (proof : List Step) → w ≡ record { problem = P; tree = tree } →
    Refutes s (problem_of w.problem) (skeleton_of w.tree) proof → Refutes s (problem_of P) (skeleton_of tree) proof
passed s P tree w proof e h = subst (λ (v : WrittenSystem). Refutes s (problem_of v.problem) (skeleton_of v.tree) proof) e h

pub proof_accepted : (s : Sort) (P : WrittenProblem) (tree : Tree) (w : WrittenSystem) (proof : List Step) (owner : Side) (first : ℕ) → w ≡ record { problem = P; tree = tree } →
    Refutes s (problem_of w.problem) (skeleton_of w.tree) proof → checked.Accepted owner ≡ by_proof owner first (first_bad s (problem_of P) (skeleton_of tree) proof)
proof_accepted s P tree w proof owner first e h = sym (ap (by_proof owner first) (refutes_passes s (problem_of P) (skeleton_of tree) proof (passed s P tree w proof e h)))

pub found_bad : (s : Sort) (P : WrittenProblem) (tree : Tree) (w : WrittenSystem) (proof : List Step) (f : Short BadLine) (b : BadLine) → w ≡ record { problem = P; tree = tree } →
    Judged s (problem_of w.problem) (skeleton_of w.tree) proof {A = Unit {0}} (Err f) → f ≡ short.Fault b → first_bad s (problem_of P) (skeleton_of tree) proof ≡ Some b
found_bad s P tree w proof f b e h q =
    (subst (λ (v : WrittenSystem). Judged s (problem_of v.problem) (skeleton_of v.tree) proof {A = Unit {0}} (Err (short.Fault b))) e
    (subst (λ (g : Short BadLine). Judged s (problem_of w.problem) (skeleton_of w.tree) proof {A = Unit {0}} (Err g)) q h)).1

-- the verdict on the owner's problem is that on the section
pub judged_verdict : (s : Sort) (P Q : Problem) (x : Section) (claimed owner : Side) (ts turns : List Bool) (tree : Tree) (ps proof : List Step) (line : ℕ) (r : Result Checked Memory) →
    x ≡ section.Claimed claimed turns tree proof line → claimed ≡ owner → ts ≡ turns → ps ≡ proof → Q ≡ problem_for s owner P →
    IfOk r (λ c. c ≡ judged_claim s Q owner ts (skeleton_of tree) ps line) → IfOk r (λ c. c ≡ verdict s P x)
judged_verdict s P Q x claimed owner ts turns tree ps proof line (Err e) xe o t p q k = tt
judged_verdict s P Q x claimed owner ts turns tree ps proof line (Ok c) xe o t p q k =
    k ∙ ap (λ (R : Problem). judged_claim s R owner ts (skeleton_of tree) ps line) q
    ∙ ap (λ (us : List Bool). judged_claim s (problem_for s owner P) owner us (skeleton_of tree) ps line) t
    ∙ ap (λ (ls : List Step). judged_claim s (problem_for s owner P) owner turns (skeleton_of tree) ls line) p
    ∙ ap (λ (w : Side). judged_claim s (problem_for s w P) w turns (skeleton_of tree) proof line) (sym o)
    ∙ sym (ap (verdict s P) xe)

pub result_accepts : (s : Sort) (P : Problem) (x : Section) (r : Result Checked Memory) → IfOk r (λ c. c ≡ verdict s P x) → IfOk r (λ c. (owner : Side) → (c ≡ checked.Accepted owner) ↔ Accepts s P owner x)
result_accepts s P x (Ok c) h = both_ways s P x c h
result_accepts s P x (Err e) h = tt

pub result_verdict : (s : Sort) (P : Problem) (x : Section) (c : Checked) (r : Result Checked Memory) → IfOk r (λ y. y ≡ verdict s P x) → r ≡ Ok c → verdict s P x ≡ c
result_verdict s P x c r h e = sym (subst (λ (o : Result Checked Memory). IfOk o (λ y. y ≡ verdict s P x)) e h)

-- the line of a bad line of the proof fits 64 bits
pub bad_room : (s : Sort) (P : WrittenProblem) (tree : Tree) (proof : List Step) (count_line : ℕ) (b : BadLine) →
    count_line + 1 + length proof < 2 ^ 64 → first_bad s (problem_of P) (skeleton_of tree) proof ≡ Some b → count_line + 1 + b.line < 2 ^ 64
bad_room s P tree proof count_line b l f = let h = bad_few s (problem_of P) (skeleton_of tree) proof b f in omega arith

pub claim_room : (s : Sort) (S : Skeleton) (proof : List Step) (line at : ℕ) →
    line < 2 ^ 63 → length proof ≤ 2 ^ 52 → at ≡ (line + 2) + tree_lines S → bad_move S s (line + 2) 0 ≡ None → at + 1 + length proof < 2 ^ 64
claim_room s S proof line at l p a m =
    let n = none_seen S s (line + 2) 0 m in
    let f = n.few (omega arith) in
    let t = tree_lines_few S in omega arith

-- ---- nothing is claimed

moved_claims : (o : Option ℕ) (p : Option BadLine) (owner : Side) (first : ℕ) → ¬ (by_move (by_proof owner first p) o ≡ checked.Unclaimed)
moved_claims (Some l) p owner first = λ h. absurd (cc)
moved_claims None None owner first = λ h. absurd (cc)
moved_claims None (Some b) owner first = λ h. absurd (cc)

turned_claims : (t : Bool) (x : Checked) (line : ℕ) → ¬ (x ≡ checked.Unclaimed) → ¬ ((if t then x else checked.Rejected line rule.Turns) ≡ checked.Unclaimed)
turned_claims true x line n = n
turned_claims false x line n = λ h. absurd (cc)

judged_claims : (s : Sort) (P : Problem) (owner : Side) (turns : List Bool) (S : Skeleton) (proof : List Step) (line : ℕ) → ¬ (judged_claim s P owner turns S proof line ≡ checked.Unclaimed)
judged_claims s P owner turns S proof line =
    turned_claims (same_turns turns (turns_of P.prefix)) (by_move (by_proof owner (line + 3 + tree_lines S) (first_bad s P S proof)) (bad_move S s (line + 2) 0)) (line + 1)
    (moved_claims (bad_move S s (line + 2) 0) (first_bad s P S proof) owner (line + 3 + tree_lines S))

-- unclaimed exactly where the section claims nothing
unclaimed_is : (s : Sort) (P : Problem) (x : Section) → (verdict s P x ≡ checked.Unclaimed) ↔ (x ≡ section.Unknown)
unclaimed_is s P section.Unknown = (λ h. refl, λ h. refl)
unclaimed_is s P (section.Claimed claimed turns tree proof line) =
    (λ h. absurd (judged_claims s (problem_for s claimed P) claimed turns (skeleton_of tree) proof line h), λ h. absurd (cc))

pub result_unclaimed : (s : Sort) (P : Problem) (x : Section) (r : Result Checked Memory) → IfOk r (λ c. c ≡ verdict s P x) → IfOk r (λ c. (c ≡ checked.Unclaimed) ↔ (x ≡ section.Unknown))
result_unclaimed s P x (Ok c) h = (λ e. (unclaimed_is s P x).0 (sym h ∙ e), λ e. h ∙ (unclaimed_is s P x).1 e)
result_unclaimed s P x (Err e) h = tt
