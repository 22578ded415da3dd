-- The walk over the lines of a tree, whole.
use Rattle.std.specs.Prelude.{ℕ, zero, suc, ◌+◌, ◌-◌, ◌≡◌, nat_eq, Bool, true, false, if◌then◌else◌, List, [], ◌∷◌, ◌++◌, map, length, replicate}
use Rattle.std.proofs.Common.{arith, ap, ◌∙◌, sym, refl, append_assoc, append-nil}
use Rattle.std.proofs.lemmas.List.{length-append}
use Rattle.cube_rules.specs.declared.Step.{Step}
use Rattle.cube_rules.specs.declared.Step.TheVariants.{Path, Def, Part, Cases, Sum, Split, Cube, Least, Learn, False}
use Rattle.cube_rules.specs.Lines.{parts}
use Rattle.cube_rules.specs.Closing.{Proof, line, Proofs, no_proof, proof, preorder, preorders}
use Rattle.proof_rules.specs.Idle.{is_cube}
use Rattle.proof_idle.specs.Walk.{added}
use Rattle.proof_idle.proofs.Walking.{parts_of, Fits, FitAll}
use Rattle.proof_prune.specs.declared.item.Item.{Item}
use Rattle.proof_prune.specs.declared.item.Item.TheVariants.{Line, Read, Hole}
use Rattle.proof_prune.specs.declared.item.Around.{Around}
use Rattle.proof_prune.specs.Counting.{facts_read, counted}
use Rattle.proof_prune.specs.Cutting.{Cutting, line_items, part_closed, parts_opened, line_entered, cut, uncut}
use Rattle.proof_prune.proofs.Tallies.{counted_length, reads_in}
use Rattle.proof_prune.proofs.Kept.{wanted, wanted_by, items_of, items_by, behind}
use Rattle.proof_prune.proofs.Running.{at_place, suc_zero, none_passed, all_passed, passing, passing_more, skip_all, Reading, reading_facts, reading_both, reading_of, around_of, ended, closed_is}

-- what stays once the subproof before these has ended: whether it has read what was added for it, the facts read before it and by it, the
-- items before it and of it
abbrev pub counts_then : Bool → Proofs → ℕ → List ℕ → List ℕ → List ℕ → List ℕ
counts_then b ts n own w cs = counted (if b then wanted_by ts 1 n (own ++ w) else w) cs

abbrev pub items_then : Bool → Proofs → List Item → ℕ → ℕ → ℕ → List Item → List Item → List Item
items_then b ts fs i j n es is = fs ++ (if b then items_by ts 1 i n j (es ++ is) else Hole n (length es) ∷ (es ++ is))

abbrev standing : List ℕ → List Item → List Around → Cutting
standing cs es os = record { counts = cs; items = es; around = os; skip = 0; copies = false }

zeros_length : (cs : List ℕ) (a : ℕ) → length (cs ++ replicate a 0) ≡ length cs + a
zeros_length [] zero = refl
zeros_length [] (suc a) = ap suc (zeros_length [] a) ∙ (let o : suc (0 + a) ≡ 0 + suc a = omega arith in o)
zeros_length (c ∷ cs) a = ap suc (zeros_length cs a) ∙ (let o : suc (length cs + a) ≡ suc (length cs) + a = omega arith in o)

-- ---- one line

entered_by : (l : Step) (os : List Around) (p : ℕ) (cs : List ℕ) (es : List Item) (c : Bool) → is_cube l ≡ c
    → line_entered l os p cs es ≡ (if c then record { counts = cs; items = es; around = os; skip = parts l; copies = true } else if nat_eq (parts l) 0 then part_closed os cs es else parts_opened l os p cs es)
entered_by l os p cs es c e = ap (λ (d : Bool). if d then record { counts = cs; items = es; around = os; skip = parts l; copies = true } else if nat_eq (parts l) 0 then part_closed os cs es else parts_opened l os p cs es) e

-- behind a line that is `cube`
line_cube : (l : Step) (ts : Proofs) (j : ℕ) (os : List Around) (cs : List ℕ) (es : List Item) (rest : List Step) → parts_of ts ≡ parts l → FitAll ts → is_cube l ≡ true → (m : ℕ) → parts l ≡ suc m
    → cut (suc j) (preorders ts ++ rest) (line_entered l os (length es) (counted (facts_read l) cs) (es ++ line_items j (length cs) l))
    ≡ cut (j + suc (length (preorders ts))) rest (part_closed os (counted (facts_read l) cs) (es ++ (line_items j (length cs) l ++ behind (suc j) (length (preorders ts)))))
line_cube l ts j os cs es rest f a e m p =
    let cs' = counted (facts_read l) cs in
    let es' = es ++ line_items j (length cs) l in
    ap (cut (suc j) (preorders ts ++ rest)) (
    entered_by l os (length es) cs' es' true e
    ∙ ap (λ (n : ℕ). record { counts = cs'; items = es'; around = os; skip = n; copies = true }) p
    ∙ sym (passing_more cs' es' os m true)
    ∙ ap (λ (n : ℕ). passing cs' es' os n true) (let o : suc m ≡ parts_of ts + 0 = omega (arith, f, p) in o))
    ∙ skip_all ts (suc j) cs' es' os 0 true rest a
    ∙ ap (λ (xs : List Item). cut (suc j + length (preorders ts)) rest (part_closed os cs' xs)) (all_passed es' (suc j) (length (preorders ts)) ∙ append_assoc es (line_items j (length cs) l) (behind (suc j) (length (preorders ts))))
    ∙ at_place (suc j + length (preorders ts)) (j + suc (length (preorders ts))) rest (part_closed os cs' (es ++ (line_items j (length cs) l ++ behind (suc j) (length (preorders ts))))) (omega arith)

cube_parts : (l : Step) → is_cube l ≡ true → parts l ≡ 1
cube_parts (Path k) e = absurd (cc)
cube_parts (Def v i) e = absurd (cc)
cube_parts (Part f i) e = absurd (cc)
cube_parts (Cases f n) e = absurd (cc)
cube_parts (Sum p f q h g) e = absurd (cc)
cube_parts (Split x) e = absurd (cc)
cube_parts (Cube fs) e = refl
cube_parts (Least v n) e = absurd (cc)
cube_parts (Learn ls) e = absurd (cc)
cube_parts (False f) e = absurd (cc)

-- a line without subproofs
line_alone : (l : Step) (j : ℕ) (os : List Around) (cs : List ℕ) (es : List Item) (rest : List Step) → 0 ≡ parts l → is_cube l ≡ false
    → cut (suc j) rest (line_entered l os (length es) (counted (facts_read l) cs) (es ++ line_items j (length cs) l)) ≡ cut (j + 1) rest (part_closed os (counted (facts_read l) cs) (es ++ line_items j (length cs) l))
line_alone l j os cs es rest p e =
    let cs' = counted (facts_read l) cs in
    let es' = es ++ line_items j (length cs) l in
    ap (cut (suc j) rest) (entered_by l os (length es) cs' es' false e ∙ ap (λ (n : ℕ). if nat_eq n 0 then part_closed os cs' es' else parts_opened l os (length es) cs' es') (sym p))
    ∙ at_place (suc j) (j + 1) rest (part_closed os cs' es') (omega arith)

-- the line around the subproofs of l
opened_is : (l : Step) (ts : Proofs) (j : ℕ) (os : List Around) (cs : List ℕ) (es : List Item) → suc (parts_of ts) ≡ parts l → is_cube l ≡ false
    → line_entered l os (length es) (counted (facts_read l) cs) (es ++ line_items j (length cs) l)
    ≡ standing (counted (facts_read l) cs ++ replicate (added l) 0) (es ++ line_items j (length cs) l) (around_of es j (length cs) (map Read (facts_read l)) (parts_of ts) ∷ os)
opened_is l ts j os cs es p e =
    let cs' = counted (facts_read l) cs in
    let es' = es ++ line_items j (length cs) l in
    let left : parts l - 1 ≡ parts_of ts = omega (arith, p) in
    entered_by l os (length es) cs' es' false e
    ∙ ap (λ (c : Bool). if c then part_closed os cs' es' else parts_opened l os (length es) cs' es') (ap (λ (n : ℕ). nat_eq n 0) (sym p) ∙ suc_zero (parts_of ts))
    ∙ ap (λ (n : ℕ). standing (cs' ++ replicate (added l) 0) es' (record { at = length es; begin = length es'; facts = n; left = parts l - 1 } ∷ os)) (counted_length (facts_read l) cs)
    ∙ ap (λ (n : ℕ). standing (cs' ++ replicate (added l) 0) es' (record { at = length es; begin = length es'; facts = length cs; left = n } ∷ os)) left

-- ---- whole subproofs

subst_length : (l : Step) (ts : Proofs) (j n : ℕ) (os : List Around) (cs : List ℕ) (es : List Item) (rest : List Step) → length cs ≡ n
    → cut j (preorder (line l ts) ++ rest) (standing cs es os) ≡ cut (j + length (preorder (line l ts))) rest (part_closed os (counted (wanted (line l ts) (length cs)) cs) (es ++ items_of (line l ts) j (length cs)))
    → cut j (preorder (line l ts) ++ rest) (standing cs es os) ≡ cut (j + length (preorder (line l ts))) rest (part_closed os (counted (wanted (line l ts) n) cs) (es ++ items_of (line l ts) j n))
subst_length l ts j n os cs es rest e h = h ∙ ap (λ (m : ℕ). cut (j + length (preorder (line l ts))) rest (part_closed os (counted (wanted (line l ts) m) cs) (es ++ items_of (line l ts) j m))) e

mutual
  pub tree_run : (t : Proof) (j n : ℕ) (os : List Around) (cs : List ℕ) (es : List Item) (rest : List Step) → Fits t → length cs ≡ n
      → cut j (preorder t ++ rest) (standing cs es os) ≡ cut (j + length (preorder t)) rest (part_closed os (counted (wanted t n) cs) (es ++ items_of t j n))
  tree_run (line l ts) j n os cs es rest f e =
      subst_length l ts j n os cs es rest e (line_run l ts j os cs es rest f (is_cube l) refl)

  line_run : (l : Step) (ts : Proofs) (j : ℕ) (os : List Around) (cs : List ℕ) (es : List Item) (rest : List Step) → Fits (line l ts) → (c : Bool) → is_cube l ≡ c
      → cut (suc j) (preorders ts ++ rest) (line_entered l os (length es) (counted (facts_read l) cs) (es ++ line_items j (length cs) l))
      ≡ cut (j + suc (length (preorders ts))) rest (part_closed os (counted (if c then facts_read l else wanted_by ts (added l) (length cs) (facts_read l)) cs)
      (es ++ (if c then line_items j (length cs) l ++ behind (suc j) (length (preorders ts)) else items_by ts (added l) (suc j) (length cs) j (map Read (facts_read l)))))
  line_run l ts j os cs es rest f true e = line_cube l ts j os cs es rest f.0 f.1 e 0 (cube_parts l e)
  line_run l no_proof j os cs es rest f false e = line_alone l j os cs es rest f.0 e
  line_run l (proof t ts) j os cs es rest f false e =
      let n = length cs in
      let a = added l in
      let own = facts_read l in
      let fs = map Read own in
      let cs' = counted own cs ++ replicate a 0 in
      let es' = es ++ line_items j n l in
      let o = around_of es j n fs (parts_of ts) in
      let w = wanted t (n + a) in
      let is = items_of t (suc j) (n + a) in
      let k : length cs' ≡ n + a = zeros_length (counted own cs) a ∙ ap (λ (i : ℕ). i + a) (counted_length own cs) in
      let x = length-append (preorder t) (preorders ts) in
      ap (cut (suc j) ((preorder t ++ preorders ts) ++ rest)) (opened_is l ts j os cs es f.0 e)
      ∙ ap (λ (ls : List Step). cut (suc j) ls (standing cs' es' (o ∷ os))) (append_assoc (preorder t) (preorders ts) rest)
      ∙ tree_run t (suc j) (n + a) (o ∷ os) cs' es' (preorders ts ++ rest) f.1.0 k
      ∙ parts_run ts (suc j + length (preorder t)) j n a es fs is os own w cs rest f.1.1 (reads_in n (n + a) w) refl refl (reading_facts own) (reading_of t (suc j) (n + a))
      ∙ at_place (suc j + length (preorder t) + length (preorders ts)) (j + suc (length (preorder t ++ preorders ts))) rest
      (part_closed os (counts_then (reads_in n (n + a) w) ts n own w cs) (items_then (reads_in n (n + a) w) ts es (suc j + length (preorder t)) j n fs is)) (omega (arith, x))

  parts_run : (ts : Proofs) (i j n a : ℕ) (fs es is : List Item) (os : List Around) (own w cs : List ℕ) (rest : List Step) → FitAll ts → (b : Bool) → reads_in n (n + a) w ≡ b → length cs ≡ n → Reading es own → Reading is w
      → cut i (preorders ts ++ rest) (part_closed (around_of fs j n es (parts_of ts) ∷ os) (ended own w cs a) ((fs ++ Line j n ∷ es) ++ is))
      ≡ cut (i + length (preorders ts)) rest (part_closed os (counts_then b ts n own w cs) (items_then b ts fs i j n es is))
  parts_run no_proof i j n a fs es is os own w cs rest f true e k r q =
      ap (cut i rest) (closed_is fs j n es is 0 own w cs a true true os k e r refl)
      ∙ ap (λ (xs : List Item). cut i rest (part_closed os (counted (own ++ w) cs) xs)) (append_assoc fs (Line j n ∷ es) is)
      ∙ at_place i (i + 0) rest (part_closed os (counted (own ++ w) cs) (fs ++ Line j n ∷ (es ++ is))) (omega arith)
  parts_run no_proof i j n a fs es is os own w cs rest f false e k r q =
      ap (cut i rest) (closed_is fs j n es is 0 own w cs a false true os k e r refl)
      ∙ at_place i (i + 0) rest (part_closed os (counted w cs) (fs ++ Hole n (length es) ∷ (es ++ is))) (omega arith)
  parts_run (proof t ts) i j n a fs es is os own w cs rest f false e k r q =
      let es' = fs ++ Hole n (length es) ∷ (es ++ is) in
      let cs' = counted w cs in
      ap (cut i (preorders (proof t ts) ++ rest)) (
      closed_is fs j n es is (suc (parts_of ts)) own w cs a false false os k e r (suc_zero (parts_of ts))
      ∙ sym (passing_more cs' es' os (parts_of ts) false)
      ∙ ap (λ (m : ℕ). passing cs' es' os m false) (let o : suc (parts_of ts) ≡ suc (parts_of ts) + 0 = omega arith in o))
      ∙ skip_all (proof t ts) i cs' es' os 0 false rest f
      ∙ ap (λ (xs : List Item). cut (i + length (preorders (proof t ts))) rest (part_closed os cs' xs)) (none_passed es' i (length (preorders (proof t ts))))
  parts_run (proof t ts) i j n a fs es is os own w cs rest f true e k r q =
      let own' = own ++ w in
      let es' = es ++ is in
      let o = around_of fs j n es' (parts_of ts) in
      let w' = wanted t (n + 1) in
      let is' = items_of t i (n + 1) in
      let cs' = counted own' cs ++ replicate 1 0 in
      let z : length cs' ≡ n + 1 = zeros_length (counted own' cs) 1 ∙ ap (λ (m : ℕ). m + 1) (counted_length own' cs ∙ k) in
      let x = length-append (preorder t) (preorders ts) in
      ap (cut i ((preorder t ++ preorders ts) ++ rest)) (
      closed_is fs j n es is (suc (parts_of ts)) own w cs a true false os k e r (suc_zero (parts_of ts))
      ∙ ap (λ (xs : List Item). standing cs' xs (record { at = length fs; begin = length xs; facts = n; left = suc (parts_of ts) - 1 } ∷ os)) (append_assoc fs (Line j n ∷ es) is)
      ∙ ap (λ (m : ℕ). standing cs' (fs ++ Line j n ∷ es') (around_of fs j n es' m ∷ os)) (let y : suc (parts_of ts) - 1 ≡ parts_of ts = omega arith in y))
      ∙ ap (λ (ls : List Step). cut i ls (standing cs' (fs ++ Line j n ∷ es') (o ∷ os))) (append_assoc (preorder t) (preorders ts) rest)
      ∙ tree_run t i (n + 1) (o ∷ os) cs' (fs ++ Line j n ∷ es') (preorders ts ++ rest) f.0 z
      ∙ parts_run ts (i + length (preorder t)) j n 1 fs es' is' os own' w' cs rest f.1 (reads_in n (n + 1) w') refl k (reading_both es is own w r q) (reading_of t i (n + 1))
      ∙ at_place (i + length (preorder t) + length (preorders ts)) (i + length (preorder t ++ preorders ts)) rest
      (part_closed os (counts_then (reads_in n (n + 1) w') ts n own' w' cs) (items_then (reads_in n (n + 1) w') ts fs (i + length (preorder t)) j n es' is')) (omega (arith, x))

-- all lines of a tree
pub found : (t : Proof) → Fits t → (cut 0 (preorder t) uncut).items ≡ items_of t 0 0
found t f =
    ap (λ (ls : List Step). (cut 0 ls uncut).items) (sym (append-nil (preorder t)))
    ∙ ap (λ (w : Cutting). w.items) (tree_run t 0 0 [] [] [] [] f refl)
