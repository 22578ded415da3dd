-- What is written of what stays of a refutation refutes, can be written, and has no idle line.
use Rattle.std.specs.Prelude.{ℕ, suc, ◌+◌, ◌^◌, ◌≤◌, ◌<◌, ◌≡◌, min, Bool, true, false, if◌then◌else◌, List, [], ◌∷◌, ◌++◌, map, length, replicate}
use Rattle.std.specs.List.{AllByRecursion}
use Rattle.std.proofs.Common.{arith, ap, ◌∙◌, sym, subst, refl, append-nil}
use Rattle.std.proofs.lemmas.List.{length-append, length-map}
use Rattle.lin_term.specs.declared.Sort.{Sort}
use Rattle.dom_core.specs.Game.{Problem}
use Rattle.game_tree.specs.Skeleton.{Skeleton}
use Rattle.lose_system.specs.Losing.{system}
use Rattle.cube_rules.specs.declared.Step.{Step}
use Rattle.cube_rules.specs.declared.Step.TheVariants.{Path, Def, Part, Cases, Sum, Split, Cube, Least, Learn, False}
use Rattle.cube_rules.specs.Limits.{IsIndex, IsStep}
use Rattle.cube_rules.specs.Context.{open_context}
use Rattle.cube_rules.specs.Closing.{Proof, line, Proofs, no_proof, proof, preorder, preorders}
use Rattle.proof_rules.specs.Rules.{Refutes}
use Rattle.proof_rules.specs.Writable.{AreSteps, IsWritable}
use Rattle.proof_rules.specs.Idle.{is_cube, IsProofTree}
use Rattle.proof_rules.proofs.WritableLemmas.{refuted_tree}
use Rattle.proof_idle.specs.Walk.{added}
use Rattle.proof_idle.proofs.Counts.{fits}
use Rattle.proof_prune.specs.declared.item.Item.{Item}
use Rattle.proof_prune.specs.Cutting.{cut, uncut}
use Rattle.proof_prune.specs.Writing.{new_number, renumbered, written}
use Rattle.proof_prune.specs.Pruned.{IsPruned}
use Rattle.proof_prune.proofs.Tallies.{reads_in}
use Rattle.proof_prune.proofs.Kept.{wanted, has_spare, items_of, kept, kept_one, kept_all, ranks}
use Rattle.proof_prune.proofs.Ranks.{fitted_same}
use Rattle.proof_prune.proofs.Thinned.{Stay}
use Rattle.proof_prune.proofs.Closed.{closes_kept}
use Rattle.proof_prune.proofs.Needed.{none_idle}
use Rattle.proof_prune.proofs.Walked.{found}
use Rattle.proof_prune.proofs.Writes.{steps_parts, tree_written}

-- ---- limits

less : (x f : ℕ) → IsIndex f → IsIndex (min x f)
less x f h = omega (arith, h)

index_new : (names : List ℕ) (f : ℕ) → IsIndex f → IsIndex (new_number names f)
index_new names f h = less _ f h

all_new : (names fs : List ℕ) → AllByRecursion IsIndex fs → AllByRecursion IsIndex (map (new_number names) fs)
all_new names [] h = tt
all_new names (f ∷ fs) h = (index_new names f h.0, all_new names fs h.1)

step_new : (names : List ℕ) (l : Step) → IsStep l → IsStep (renumbered names l)
step_new names (Path k) h = h
step_new names (Def v i) h = h
step_new names (Part f i) h = (index_new names f h.0, h.1)
step_new names (Cases f n) h = (index_new names f h.0, h.1)
step_new names (Sum p f q g d) h = (h.0, index_new names f h.1, h.2, index_new names g h.3, h.4)
step_new names (Split l) h = h
step_new names (Cube fs) h = (let e = length-map fs (new_number names) in let o = h.0 in omega (arith, e, o), all_new names fs h.1)
step_new names (Least v n) h = h
step_new names (Learn ls) h = h
step_new names (False f) h = index_new names f h

steps_both : (xs ys : List Step) → AreSteps xs → AreSteps ys → AreSteps (xs ++ ys)
steps_both [] ys h k = k
steps_both (x ∷ xs) ys h k = (h.0, steps_both xs ys h.1 k)

by_line : (P : Proof → Type 0) (c h : Bool) (x y z : Proof) → P x → P y → P z → P (if c then x else if h then y else z)
by_line P true h x y z f g k = f
by_line P false true x y z f g k = g
by_line P false false x y z f g k = k

by_part : (P : Proof → Type 0) (b : Bool) (x y : Proof) → P x → P y → P (if b then x else y)
by_part P true x y f g = f
by_part P false x y f g = g

mutual
  steps_kept : (t : Proof) (us : List Bool) → AreSteps (preorder t) → AreSteps (preorder (kept t us))
  steps_kept (line l ts) us h =
      let a = added l in
      let r = renumbered (ranks us) l in
      let s = step_new (ranks us) l h.0 in
      by_line (λ x. AreSteps (preorder x)) (is_cube l) (has_spare ts a (length us)) (line r ts) (kept_one ts a us) (line r (kept_all ts a us)) (s, h.1) (one_steps ts a us h.1) (s, all_steps ts a us h.1)

  one_steps : (ts : Proofs) (a : ℕ) (us : List Bool) → AreSteps (preorders ts) → AreSteps (preorder (kept_one ts a us))
  one_steps no_proof a us h = (let o : 0 < 2 ^ 32 = omega arith in o, tt)
  one_steps (proof t ts) a us h =
      let q = steps_parts (preorder t) (preorders ts) h in
      by_part (λ x. AreSteps (preorder x)) (reads_in (length us) (length us + a) (wanted t (length us + a))) (kept_one ts 1 us) (kept t (us ++ replicate a false)) (one_steps ts 1 us q.1) (steps_kept t (us ++ replicate a false) q.0)

  all_steps : (ts : Proofs) (a : ℕ) (us : List Bool) → AreSteps (preorders ts) → AreSteps (preorders (kept_all ts a us))
  all_steps no_proof a us h = tt
  all_steps (proof t ts) a us h =
      let q = steps_parts (preorder t) (preorders ts) h in
      steps_both (preorder (kept t (us ++ replicate a true))) (preorders (kept_all ts 1 us)) (steps_kept t (us ++ replicate a true) q.0) (all_steps ts 1 us q.1)

-- ---- how many lines

mutual
  count_kept : (t : Proof) (us : List Bool) → length (preorder (kept t us)) ≤ length (preorder t)
  count_kept (line l ts) us =
      let a = added l in
      let r = renumbered (ranks us) l in
      by_line (λ x. length (preorder x) ≤ suc (length (preorders ts))) (is_cube l) (has_spare ts a (length us)) (line r ts) (kept_one ts a us) (line r (kept_all ts a us))
      (omega arith) (one_count ts a us) (let h = all_count ts a us in omega (arith, h))

  one_count : (ts : Proofs) (a : ℕ) (us : List Bool) → length (preorder (kept_one ts a us)) ≤ suc (length (preorders ts))
  one_count no_proof a us = omega arith
  one_count (proof t ts) a us =
      let e = length-append (preorder t) (preorders ts) in
      let h = one_count ts 1 us in
      let k = count_kept t (us ++ replicate a false) in
      by_part (λ x. length (preorder x) ≤ suc (length (preorder t ++ preorders ts))) (reads_in (length us) (length us + a) (wanted t (length us + a))) (kept_one ts 1 us) (kept t (us ++ replicate a false))
      (omega (arith, e, h)) (omega (arith, e, k))

  all_count : (ts : Proofs) (a : ℕ) (us : List Bool) → length (preorders (kept_all ts a us)) ≤ length (preorders ts)
  all_count no_proof a us = omega arith
  all_count (proof t ts) a us =
      let e = length-append (preorder t) (preorders ts) in
      let f = length-append (preorder (kept t (us ++ replicate a true))) (preorders (kept_all ts 1 us)) in
      let h = all_count ts 1 us in
      let k = count_kept t (us ++ replicate a true) in
      omega (arith, e, f, h, k)

-- ---- the whole

none_missing : (ks : List ℕ) → Stay [] ks
none_missing [] = tt
none_missing (k ∷ ks) = (λ l. absurd (omega (arith, l)), none_missing ks)

tree_pruned : (s : Sort) (P : Problem) (S : Skeleton) (given lines : List Step) → (r : Refutes s P S given) → IsWritable given → lines ≡ preorder (kept r.tree []) → IsPruned s P S given lines
tree_pruned s P S given lines r w e =
    let t = kept r.tree [] in
    let p : IsProofTree s P S lines t = record { lines = sym e; closes = closes_kept r.tree s (system s P S) [] open_context refl refl (none_missing (wanted r.tree 0)) r.closes } in
    let q : Refutes s P S lines = record { tree = t; lines = p.lines; closes = p.closes } in
    let c : length lines ≤ length given = (
    let a = ap length e in
    let b = ap length r.lines in
    let k = count_kept r.tree [] in
    omega (arith, a, b, k)) in
    record {
      refutes = q;
      writable = record {
        steps = subst (λ (ls : List Step). AreSteps ls) (sym e) (steps_kept r.tree [] (subst (λ (ls : List Step). AreSteps ls) (sym r.lines) w.steps));
        tree = refuted_tree s P S lines q;
        count = let m = w.count in omega (arith, c, m);
      };
      idle = record { tree = t; refutes = p; none = none_idle r.tree [] 0 };
      count = c;
    }

pub pruned : (s : Sort) (P : Problem) (S : Skeleton) (given lines : List Step) (items : List Item) → Refutes s P S given → IsWritable given → items ≡ (cut 0 given uncut).items → lines ≡ written given (0 ∷ []) 0 items → IsPruned s P S given lines
pruned s P S given lines items r w e f =
    let t = r.tree in
    let i : items ≡ items_of t 0 0 = e ∙ sym (ap (λ (ls : List Step). (cut 0 ls uncut).items) r.lines) ∙ found t (fits t s (system s P S) open_context r.closes) in
    let x = tree_written t 0 [] (0 ∷ []) given [] [] (sym r.lines ∙ sym (append-nil (preorder t))) (subst (λ (ls : List Step). AreSteps ls) (sym r.lines) w.steps) (fitted_same []) in
    tree_pruned s P S given lines r w
    (f ∙ ap (written given (0 ∷ []) 0) (i ∙ sym (append-nil (items_of t 0 0))) ∙ x.lines_are ∙ append-nil (preorder (kept t [])))
