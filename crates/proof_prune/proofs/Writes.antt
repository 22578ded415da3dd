-- What is written of the items of a tree is what stays of it.
use Rattle.std.specs.Prelude.{ℕ, zero, suc, ◌+◌, ◌≤◌, ◌≡◌, Bool, true, false, if◌then◌else◌, Option, Some, slice_get, List, [], ◌∷◌, ◌++◌, map, length, drop, replicate}
use Rattle.std.proofs.Common.{arith, ap, ◌∙◌, sym, refl, append_assoc, append-nil}
use Rattle.cube_rules.specs.declared.Step.{Step}
use Rattle.cube_rules.specs.declared.Step.TheVariants.{Path, Def, Part, Cases, Sum, Split, Cube, Least, Learn, False}
use Rattle.cube_rules.specs.Limits.{IsStep}
use Rattle.cube_rules.specs.Closing.{Proof, line, Proofs, no_proof, proof, preorder, preorders}
use Rattle.proof_rules.specs.Idle.{is_cube}
use Rattle.proof_rules.specs.Writable.{AreSteps}
use Rattle.proof_idle.specs.Walk.{added}
use Rattle.proof_prune.specs.declared.item.Item.{Item}
use Rattle.proof_prune.specs.declared.item.Item.TheVariants.{Line, Read, Hole}
use Rattle.proof_prune.specs.Counting.{facts_read}
use Rattle.proof_prune.specs.Cutting.{line_items}
use Rattle.proof_prune.specs.Writing.{fitted, grown, renumbered, line_written, line_copied, names_behind, written}
use Rattle.proof_prune.proofs.Tallies.{reads_in}
use Rattle.proof_prune.proofs.Kept.{wanted, has_spare, behind, items_of, items_by, kept, kept_one, kept_all, ranks}
use Rattle.proof_prune.proofs.Ranks.{marks_length, one_push, grown_is, fitted_twice, fitted_front, fitted_more, fitted_same}

-- ---- places of lines

drop_head : (j : ℕ) (ls xs : List Step) (l : Step) → drop j ls ≡ l ∷ xs → (slice_get ls j ≡ Some l) × (drop (suc j) ls ≡ xs)
drop_head zero [] xs l e = absurd (cc)
drop_head zero (k ∷ ls) xs l e = (ap (λ (ys : List Step). slice_get ys 0) e, ap (drop 1) e)
drop_head (suc j) [] xs l e = absurd (cc)
drop_head (suc j) (k ∷ ls) xs l e = drop_head j ls xs l e

drop_none : (n : ℕ) → drop n (let ls : List Step = [] in ls) ≡ []
drop_none zero = refl
drop_none (suc n) = refl

drop_twice : (i k : ℕ) (ls : List Step) → drop (i + k) ls ≡ drop k (drop i ls)
drop_twice zero k ls = let o : zero + k ≡ k = omega arith in ap (λ (n : ℕ). drop n ls) o
drop_twice (suc i) k [] = drop_none (suc i + k) ∙ sym (drop_none k)
drop_twice (suc i) k (l ∷ ls) = (let o : suc i + k ≡ suc (i + k) = omega arith in ap (λ (n : ℕ). drop n (l ∷ ls)) o) ∙ drop_twice i k ls

drop_front : (ys xs : List Step) → drop (length ys) (ys ++ xs) ≡ xs
drop_front [] xs = refl
drop_front (y ∷ ys) xs = drop_front ys xs

drop_past : (i : ℕ) (ls ys xs : List Step) → drop i ls ≡ ys ++ xs → drop (i + length ys) ls ≡ xs
drop_past i ls ys xs e = drop_twice i (length ys) ls ∙ ap (drop (length ys)) e ∙ drop_front ys xs

pub steps_parts : (xs ys : List Step) → AreSteps (xs ++ ys) → AreSteps xs × AreSteps ys
steps_parts [] ys h = (tt, h)
steps_parts (x ∷ xs) ys h = let r = steps_parts xs ys h.1 in ((h.0, r.0), r.1)

adds_some : (l : Step) → IsStep l → 1 ≤ added l
adds_some (Path k) h = omega arith
adds_some (Def v i) h = omega arith
adds_some (Part f i) h = omega arith
adds_some (Cases f n) h = omega arith
adds_some (Sum p f q g d) h = omega arith
adds_some (Split l) h = omega arith
adds_some (Cube fs) h = omega arith
adds_some (Least v n) h = omega arith
adds_some (Learn ls) h = h.0
adds_some (False f) h = omega arith

-- ---- items of one line

reads_skipped : (ls : List Step) (names fs : List ℕ) (es : List Item) → written ls names 0 (map Read fs ++ es) ≡ written ls names 0 es
reads_skipped ls names [] es = refl
reads_skipped ls names (f ∷ fs) es = reads_skipped ls names fs es

items_passed : (ls : List Step) (names : List ℕ) (es rest : List Item) → written ls names (length es) (es ++ rest) ≡ written ls names 0 rest
items_passed ls names [] rest = refl
items_passed ls names (e ∷ es) rest = items_passed ls names es rest

behind_written : (ls ys xs : List Step) (names : List ℕ) (i : ℕ) (rest : List Item) → drop i ls ≡ xs ++ ys → written ls names 0 (behind i (length xs) ++ rest) ≡ xs ++ written ls names 0 rest
behind_written ls ys [] names i rest e = refl
behind_written ls ys (x ∷ xs) names i rest e =
    let d = drop_head i ls (xs ++ ys) x e in
    ap (λ (o : Option Step). line_copied o ++ written ls names 0 (behind (suc i) (length xs) ++ rest)) d.0
    ∙ ap (λ (zs : List Step). x ∷ zs) (behind_written ls ys xs names (suc i) rest d.1)

head_written : (ls : List Step) (names : List ℕ) (us : List Bool) (j : ℕ) (l : Step) (es : List Item) → slice_get ls j ≡ Some l → fitted (length us) names ≡ ranks us
    → written ls names 0 (line_items j (length us) l ++ es) ≡ renumbered (ranks us) l ∷ written ls (ranks (us ++ replicate (added l) true)) 0 es
head_written ls names us j l es e f =
    let n = length us in
    ap (λ (o : Option Step). line_written (fitted n names) o ++ written ls (names_behind (fitted n names) o) 0 (map Read (facts_read l) ++ es)) e
    ∙ ap (λ (xs : List ℕ). renumbered xs l ∷ written ls (grown (added l) xs) 0 (map Read (facts_read l) ++ es)) f
    ∙ ap (λ (xs : List ℕ). renumbered (ranks us) l ∷ written ls xs 0 (map Read (facts_read l) ++ es)) (grown_is us (added l))
    ∙ ap (λ (xs : List Step). renumbered (ranks us) l ∷ xs) (reads_skipped ls (ranks (us ++ replicate (added l) true)) (facts_read l) es)

head_same : (names : List ℕ) (us vs : List Bool) (m : ℕ) → fitted (length us) names ≡ ranks us → m ≤ length us → fitted m (ranks (us ++ vs)) ≡ fitted m names
head_same names us vs m f h = fitted_front m us vs h ∙ ap (fitted m) (sym f) ∙ fitted_twice m (length us) names h

-- ---- whole subproofs

-- these lines, and then names that are the same up to n facts
pub record Wrote (ls : List Step) (names : List ℕ) (n : ℕ) (es rest : List Item) (lines : List Step) : Type 0 where
  pub names_then : List ℕ
  pub lines_are : written ls names 0 (es ++ rest) ≡ lines ++ written ls names_then 0 rest
  pub same : (m : ℕ) → m ≤ n → fitted m names_then ≡ fitted m names

abbrev all_items : Proofs → ℕ → ℕ → ℕ → List Item
all_items no_proof a i n = []
all_items (proof t ts) a i n = items_of t i (n + a) ++ all_items ts 1 (i + length (preorder t)) n

true_not : true ≡ false → ⊥
true_not e = absurd (cc)

goes_on : (b hs : Bool) → (if b then hs else true) ≡ false → (b ≡ true) × (hs ≡ false)
goes_on true hs e = (refl, e)
goes_on false hs e = absurd (true_not e)

items_all : (ts : Proofs) (a i n j : ℕ) (es : List Item) → has_spare ts a n ≡ false → items_by ts a i n j es ≡ Line j n ∷ (es ++ all_items ts a i n)
items_all no_proof a i n j es e = ap (λ (xs : List Item). Line j n ∷ xs) (sym (append-nil es))
items_all (proof t ts) a i n j es e =
    let w = wanted t (n + a) in
    let is = items_of t i (n + a) in
    let i' = i + length (preorder t) in
    let g = goes_on (reads_in n (n + a) w) (has_spare ts 1 n) e in
    ap (λ (b : Bool). if b then items_by ts 1 i' n j (es ++ is) else Hole n (length es) ∷ (es ++ is)) g.0
    ∙ items_all ts 1 i' n j (es ++ is) g.1
    ∙ ap (λ (xs : List Item). Line j n ∷ xs) (append_assoc es is (all_items ts 1 i' n))

by_line : (P : List Item → Proof → Type 0) (c h : Bool) (es fs : List Item) (x y z : Proof) → (c ≡ true → P es x) → (h ≡ true → P fs y) → (h ≡ false → P fs z) → P (if c then es else fs) (if c then x else if h then y else z)
by_line P true h es fs x y z f g k = f refl
by_line P false true es fs x y z f g k = g refl
by_line P false false es fs x y z f g k = k refl

by_part : (P : List Item → Proof → Type 0) (b h : Bool) (es fs : List Item) (x y : Proof) → (if b then h else true) ≡ true → (h ≡ true → P es x) → P fs y → P (if b then es else fs) (if b then x else y)
by_part P true h es fs x y e f g = f e
by_part P false h es fs x y e f g = g

-- names for the next subproof, with one fact besides
next_names : (names names' : List ℕ) (us : List Bool) (a : ℕ) → 1 ≤ a → fitted (length us + a) names ≡ ranks (us ++ replicate a true) → ((m : ℕ) → m ≤ length us + a → fitted m names' ≡ fitted m names) → fitted (length us + 1) names' ≡ ranks (us ++ replicate 1 true)
next_names names names' us zero h f s = absurd (omega (arith, h))
next_names names names' us (suc a) h f s =
    let n = length us in
    let vs = us ++ true ∷ [] in
    let l : length vs ≡ n + 1 = marks_length us 1 true in
    s (n + 1) (omega arith)
    ∙ sym (fitted_twice (n + 1) (n + suc a) names (omega arith))
    ∙ ap (fitted (n + 1)) (f ∙ ap ranks (sym (one_push us a true)))
    ∙ fitted_front (n + 1) vs (replicate a true) (omega (arith, l))
    ∙ ap (λ (m : ℕ). fitted m (ranks vs)) (sym l)
    ∙ fitted_same vs

cube_written : (l : Step) (ts : Proofs) (j : ℕ) (us : List Bool) (names : List ℕ) (ls xs : List Step) (rest : List Item) → (slice_get ls j ≡ Some l) × (drop (suc j) ls ≡ preorders ts ++ xs) → fitted (length us) names ≡ ranks us
    → Wrote ls names (length us) (line_items j (length us) l ++ behind (suc j) (length (preorders ts))) rest (renumbered (ranks us) l ∷ preorders ts)
cube_written l ts j us names ls xs rest h f =
    let n = length us in
    let bs = behind (suc j) (length (preorders ts)) in
    let names' = ranks (us ++ replicate (added l) true) in
    record {
      names_then = names';
      lines_are = ap (written ls names 0) (append_assoc (line_items j n l) bs rest)
          ∙ head_written ls names us j l (bs ++ rest) h.0 f
          ∙ ap (λ (zs : List Step). renumbered (ranks us) l ∷ zs) (behind_written ls xs (preorders ts) names' (suc j) rest h.1);
      same = λ m k. head_same names us (replicate (added l) true) m f k;
    }

line_all : (l : Step) (ts : Proofs) (j : ℕ) (us : List Bool) (names : List ℕ) (ls : List Step) (rest : List Item) → slice_get ls j ≡ Some l → fitted (length us) names ≡ ranks us → has_spare ts (added l) (length us) ≡ false
    → Wrote ls (ranks (us ++ replicate (added l) true)) (length us) (all_items ts (added l) (suc j) (length us)) rest (preorders (kept_all ts (added l) us))
    → Wrote ls names (length us) (items_by ts (added l) (suc j) (length us) j (map Read (facts_read l))) rest (renumbered (ranks us) l ∷ preorders (kept_all ts (added l) us))
line_all l ts j us names ls rest g f e w =
    let n = length us in
    let is = all_items ts (added l) (suc j) n in
    record {
      names_then = w.names_then;
      lines_are = ap (λ (es : List Item). written ls names 0 (es ++ rest)) (items_all ts (added l) (suc j) n j (map Read (facts_read l)) e)
          ∙ ap (written ls names 0) (append_assoc (line_items j n l) is rest)
          ∙ head_written ls names us j l (is ++ rest) g f
          ∙ ap (λ (zs : List Step). renumbered (ranks us) l ∷ zs) w.lines_are;
      same = λ m k. w.same m k ∙ head_same names us (replicate (added l) true) m f k;
    }

hole_written : (t : Proof) (i : ℕ) (us : List Bool) (names : List ℕ) (ls : List Step) (es rest : List Item) (a : ℕ) → fitted (length us) names ≡ ranks us
    → Wrote ls (fitted (length us) names) (length (us ++ replicate a false)) (items_of t i (length (us ++ replicate a false))) rest (preorder (kept t (us ++ replicate a false)))
    → Wrote ls names (length us) (Hole (length us) (length es) ∷ (es ++ items_of t i (length us + a))) rest (preorder (kept t (us ++ replicate a false)))
hole_written t i us names ls es rest a f w =
    let n = length us in
    let l = marks_length us a false in
    record {
      names_then = w.names_then;
      lines_are = ap (written ls (fitted n names) (length es)) (append_assoc es (items_of t i (n + a)) rest)
          ∙ items_passed ls (fitted n names) es (items_of t i (n + a) ++ rest)
          ∙ ap (λ (m : ℕ). written ls (fitted n names) 0 (items_of t i m ++ rest)) (sym l)
          ∙ w.lines_are;
      same = λ m k. w.same m (omega (arith, k, l)) ∙ fitted_twice m n names k;
    }

mutual
  pub tree_written : (t : Proof) (j : ℕ) (us : List Bool) (names : List ℕ) (ls xs : List Step) (rest : List Item) → drop j ls ≡ preorder t ++ xs → AreSteps (preorder t) → fitted (length us) names ≡ ranks us
      → Wrote ls names (length us) (items_of t j (length us)) rest (preorder (kept t us))
  tree_written (line l ts) j us names ls xs rest d p f =
      let n = length us in
      let a = added l in
      let r = renumbered (ranks us) l in
      let h = drop_head j ls (preorders ts ++ xs) l d in
      by_line (λ es x. Wrote ls names n es rest (preorder x)) (is_cube l) (has_spare ts a n) (line_items j n l ++ behind (suc j) (length (preorders ts))) (items_by ts a (suc j) n j (map Read (facts_read l))) (line r ts) (kept_one ts a us) (line r (kept_all ts a us))
      (λ z. cube_written l ts j us names ls xs rest h f)
      (λ e. one_written ts a (suc j) j us names ls xs (map Read (facts_read l)) rest h.1 p.1 e f)
      (λ e. line_all l ts j us names ls rest h.0 f e (all_written ts a (suc j) us (ranks (us ++ replicate a true)) ls xs rest h.1 p.1 (adds_some l p.0)
      (ap (λ (m : ℕ). fitted m (ranks (us ++ replicate a true))) (sym (marks_length us a true)) ∙ fitted_same (us ++ replicate a true))))

  one_written : (ts : Proofs) (a i j : ℕ) (us : List Bool) (names : List ℕ) (ls xs : List Step) (es rest : List Item) → drop i ls ≡ preorders ts ++ xs → AreSteps (preorders ts) → has_spare ts a (length us) ≡ true → fitted (length us) names ≡ ranks us
      → Wrote ls names (length us) (items_by ts a i (length us) j es) rest (preorder (kept_one ts a us))
  one_written no_proof a i j us names ls xs es rest d p e f = absurd (true_not (sym e))
  one_written (proof t ts) a i j us names ls xs es rest d p e f =
      let n = length us in
      let w = wanted t (n + a) in
      let is = items_of t i (n + a) in
      let i' = i + length (preorder t) in
      let us' = us ++ replicate a false in
      let d' = d ∙ append_assoc (preorder t) (preorders ts) xs in
      let q = steps_parts (preorder t) (preorders ts) p in
      by_part (λ fs x. Wrote ls names n fs rest (preorder x)) (reads_in n (n + a) w) (has_spare ts 1 n) (items_by ts 1 i' n j (es ++ is)) (Hole n (length es) ∷ (es ++ is)) (kept_one ts 1 us) (kept t us') e
      (λ e'. one_written ts 1 i' j us names ls xs (es ++ is) rest (drop_past i ls (preorder t) (preorders ts ++ xs) d') q.1 e' f)
      (hole_written t i us names ls es rest a f
      (tree_written t i us' (fitted n names) ls (preorders ts ++ xs) rest d' q.0
      (ap (λ (m : ℕ). fitted m (fitted n names)) (marks_length us a false) ∙ ap (fitted (n + a)) f ∙ fitted_more us a)))

  all_written : (ts : Proofs) (a i : ℕ) (us : List Bool) (names : List ℕ) (ls xs : List Step) (rest : List Item) → drop i ls ≡ preorders ts ++ xs → AreSteps (preorders ts) → 1 ≤ a → fitted (length us + a) names ≡ ranks (us ++ replicate a true)
      → Wrote ls names (length us) (all_items ts a i (length us)) rest (preorders (kept_all ts a us))
  all_written no_proof a i us names ls xs rest d p o f = record { names_then = names; lines_are = refl; same = λ m k. refl }
  all_written (proof t ts) a i us names ls xs rest d p o f =
      let n = length us in
      let us' = us ++ replicate a true in
      let l = marks_length us a true in
      let is = items_of t i (n + a) in
      let i' = i + length (preorder t) in
      let more = all_items ts 1 i' n in
      let d' = d ∙ append_assoc (preorder t) (preorders ts) xs in
      let q = steps_parts (preorder t) (preorders ts) p in
      let v = tree_written t i us' names ls (preorders ts ++ xs) (more ++ rest) d' q.0 (ap (λ (m : ℕ). fitted m names) l ∙ f) in
      let w = all_written ts 1 i' us v.names_then ls xs rest (drop_past i ls (preorder t) (preorders ts ++ xs) d') q.1 (omega arith)
      (next_names names v.names_then us a o f (λ m k. v.same m (omega (arith, k, l)))) in
      record {
        names_then = w.names_then;
        lines_are = ap (written ls names 0) (append_assoc is more rest)
            ∙ ap (λ (m : ℕ). written ls names 0 (items_of t i m ++ (more ++ rest))) (sym l)
            ∙ v.lines_are
            ∙ ap (λ (zs : List Step). preorder (kept t us') ++ zs) w.lines_are
            ∙ sym (append_assoc (preorder (kept t us')) (preorders (kept_all ts 1 us)) (written ls w.names_then 0 rest));
        same = λ m k. w.same m k ∙ v.same m (omega (arith, k, l));
      }
