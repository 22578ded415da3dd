-- The walk over the lines of a tree finds the least of its idle lines.
use Rattle.std.specs.Prelude.{ℕ, zero, suc, ◌+◌, ◌-◌, ◌≤◌, ◌<◌, ◌≡◌, ◌≢◌, ◌⊎◌, nat_eq, Bool, true, false, not, ◌&&◌, ◌||◌, if◌then◌else◌, Option, None, List, [], ◌∷◌, ◌++◌, length, take, replicate, ⊤}
use Rattle.std.proofs.Common.{arith, ap, ◌∙◌, sym, refl, append_assoc, append-nil, inl, inr}
use Rattle.std.proofs.lemmas.Bool.Decides.{eqb_tells}
use Rattle.std.proofs.lemmas.List.{length-append}
use Rattle.cube_rules.specs.declared.Step.{Step}
use Rattle.cube_rules.specs.declared.Step.TheVariants.{Path, Def, Part, Cases, Sum, Split, Cube, Least, Learn, False}
use Rattle.cube_rules.specs.Lines.{parts}
use Rattle.cube_rules.specs.Closing.{Proof, line, Proofs, no_proof, proof, preorder, preorders}
use Rattle.proof_rules.specs.Idle.{is_cube, is_cases, uses, each_uses, facts_of_first, idle_lines, idle_below}
use Rattle.proof_idle.specs.declared.open_line.OpenLine.{OpenLine}
use Rattle.proof_idle.specs.Least.{lesser, least}
use Rattle.proof_idle.specs.Walk.{Standing, marked, added, with_left, closed, entered, opened, step, run, begin}
use Rattle.proof_idle.proofs.Flags.{flag, behind_flag, kept_length, new_flag, marked_length, after, after_rest, after_length, after_flag, cube_after}
use Rattle.proof_idle.proofs.Leasts.{lesser_none, lesser_assoc, lesser_swap, least_append, least_one, unless, unless_both, unless_true}

abbrev pub parts_of : Proofs → ℕ
parts_of no_proof = 0
parts_of (proof t ts) = suc (parts_of ts)

-- each line has as many subproofs as it says
abbrev mutual
  pub Fits : Proof → Type 0
  Fits (line l ts) = (parts_of ts ≡ parts l) × FitAll ts

  pub FitAll : Proofs → Type 0
  FitAll no_proof = ⊤
  FitAll (proof t ts) = Fits t × FitAll ts

at_place : (i j : ℕ) (ls : List Step) (w : Standing) → i ≡ j → run i ls w ≡ run j ls w
at_place i j ls w e = ap (λ (n : ℕ). run n ls w) e

suc_zero : (n : ℕ) → nat_eq (suc n) 0 ≡ false
suc_zero n = by (eqb_tells (suc n) 0)
  where
    by : ((nat_eq (suc n) 0 ≡ true) × (suc n ≡ 0)) ⊎ ((nat_eq (suc n) 0 ≡ false) × (suc n ≢ 0)) → nat_eq (suc n) 0 ≡ false
    by (inl e) = let f = e.1 in absurd (omega (arith, f))
    by (inr e) = e.0

-- ---- behind a `cube`

abbrev passing : List Bool → List OpenLine → Option ℕ → ℕ → Standing
passing us os b m = if nat_eq m 0 then closed os us b else record { used = us; around = os; least = b; skip = m }

passing_more : (us : List Bool) (os : List OpenLine) (b : Option ℕ) (m : ℕ) → passing us os b (suc m) ≡ record { used = us; around = os; least = b; skip = suc m }
passing_more us os b m = ap (λ (c : Bool). if c then closed os us b else record { used = us; around = os; least = b; skip = suc m }) (suc_zero m)

step_behind : (l : Step) (j : ℕ) (us : List Bool) (os : List OpenLine) (b : Option ℕ) (m : ℕ) → step l j (record { used = us; around = os; least = b; skip = suc m }) ≡ passing us os b ((suc m - 1) + parts l)
step_behind l j us os b m = ap (λ (c : Bool). if c then entered l j os (marked l us) b else passing us os b ((suc m - 1) + parts l)) (suc_zero m)

mutual
  skip_tree : (t : Proof) (j : ℕ) (us : List Bool) (os : List OpenLine) (b : Option ℕ) (m : ℕ) (rest : List Step) → Fits t → run j (preorder t ++ rest) (record { used = us; around = os; least = b; skip = suc m }) ≡ run (j + length (preorder t)) rest (passing us os b m)
  skip_tree (line l ts) j us os b m rest f =
      let k : (suc m - 1) + parts l ≡ parts_of ts + m = (let e = f.0 in omega (arith, e)) in
      ap (run (suc j) (preorders ts ++ rest)) (step_behind l j us os b m ∙ ap (passing us os b) k)
      ∙ skip_all ts (suc j) us os b m rest f.1
      ∙ at_place (suc j + length (preorders ts)) (j + suc (length (preorders ts))) rest (passing us os b m) (omega arith)

  skip_all : (ts : Proofs) (j : ℕ) (us : List Bool) (os : List OpenLine) (b : Option ℕ) (m : ℕ) (rest : List Step) → FitAll ts → run j (preorders ts ++ rest) (passing us os b (parts_of ts + m)) ≡ run (j + length (preorders ts)) rest (passing us os b m)
  skip_all no_proof j us os b m rest f = ap (run j rest) (ap (passing us os b) (let o : 0 + m ≡ m = omega arith in o)) ∙ at_place j (j + 0) rest (passing us os b m) (omega arith)
  skip_all (proof t ts) j us os b m rest f =
      let a = length-append (preorder t) (preorders ts) in
      ap (λ (ls : List Step). run j ls (passing us os b (suc (parts_of ts) + m))) (append_assoc (preorder t) (preorders ts) rest)
      ∙ ap (run j (preorder t ++ (preorders ts ++ rest))) (ap (passing us os b) (let o : suc (parts_of ts) + m ≡ suc (parts_of ts + m) = omega arith in o) ∙ passing_more us os b (parts_of ts + m))
      ∙ skip_tree t j us os b (parts_of ts + m) (preorders ts ++ rest) f.0
      ∙ skip_all ts (j + length (preorder t)) us os b m rest f.1
      ∙ at_place (j + length (preorder t) + length (preorders ts)) (j + length (preorder t ++ preorders ts)) rest (passing us os b m) (omega (arith, a))

-- ---- the lines around

-- the least idle line behind the subproofs that are left of line i, which is `cases` or not and has n facts before it
abbrev pub rest_found : Proofs → Bool → ℕ → ℕ → ℕ → List Bool → Option ℕ → Option ℕ
rest_found no_proof c i n j us b = lesser b (unless c i (flag us n))
rest_found (proof t ts) c i n j us b =
    rest_found ts c i n (j + length (preorder t)) (after t (take n us ++ false ∷ [])) (lesser (lesser b (unless c i (flag us n))) (least (idle_lines t (suc n) j)))

-- that goes on with a subproof
abbrev went_on : OpenLine → List OpenLine → List Bool → Option ℕ → Standing
went_on o os us b = record { used = take o.facts us ++ false ∷ []; around = with_left o (o.left - 1) ∷ os; least = lesser b (unless o.is_cases o.line (flag us o.facts)); skip = 0 }

closed_at : (o : OpenLine) (os : List OpenLine) (us : List Bool) (b : Option ℕ) (t : Bool) → nat_eq o.left 0 ≡ t → closed (o ∷ os) us b ≡ (if t then closed os us (lesser b (unless o.is_cases o.line (flag us o.facts))) else went_on o os us b)
closed_at o os us b t e = ap (λ (c : Bool). if c then closed os us (lesser b (unless o.is_cases o.line (flag us o.facts))) else went_on o os us b) e

-- ---- a line alone, and one with subproofs

entered_by : (l : Step) (j : ℕ) (os : List OpenLine) (us : List Bool) (b : Option ℕ) (c : Bool) → is_cube l ≡ c
    → entered l j os (marked l us) b ≡ (if c then record { used = marked l us; around = os; least = b; skip = parts l } else if nat_eq (parts l) 0 then closed os (marked l us) b else opened l j os (marked l us) b)
entered_by l j os us b c e = ap (λ (d : Bool). if d then record { used = marked l us; around = os; least = b; skip = parts l } else if nat_eq (parts l) 0 then closed os (marked l us) b else opened l j os (marked l us) b) e

cube_parts : (l : Step) → is_cube l ≡ true → (parts l ≡ 1) × (is_cases l ≡ false)
cube_parts (Path k) e = absurd (cc)
cube_parts (Def v i) e = absurd (cc)
cube_parts (Part f i) e = absurd (cc)
cube_parts (Cases f n) e = absurd (cc)
cube_parts (Sum p f q h g) e = absurd (cc)
cube_parts (Split x) e = absurd (cc)
cube_parts (Cube fs) e = (refl, refl)
cube_parts (Least v n) e = absurd (cc)
cube_parts (Learn ls) e = absurd (cc)
cube_parts (False f) e = absurd (cc)

-- a line without subproofs is not idle
alone_idle : (l : Step) (n j : ℕ) → idle_lines (line l no_proof) n j ≡ []
alone_idle l n j = by (is_cases l) (is_cube l)
  where
    by : (c d : Bool) → ((if c && false then j ∷ [] else []) ++ (if d then [] else [])) ≡ []
    by true true = refl
    by true false = refl
    by false true = refl
    by false false = refl

-- nor is a `cube`, and nothing behind it
cube_idle : (l : Step) (ts : Proofs) (n j : ℕ) → is_cube l ≡ true → idle_lines (line l ts) n j ≡ []
cube_idle l ts n j e =
    ap (λ (c : Bool). (if c && not (each_uses ts n) then j ∷ [] else []) ++ (if is_cube l then [] else idle_below ts (facts_of_first l n) (suc n) (suc j))) (cube_parts l e).1
    ∙ ap (λ (c : Bool). if c then [] else idle_below ts (facts_of_first l n) (suc n) (suc j)) e

not_both : (l : Step) → is_cube l ≡ true → parts l ≡ 0 → ⊥
not_both l e z = let p = (cube_parts l e).0 in omega (arith, p, z)

line_alone : (l : Step) (j : ℕ) (os : List OpenLine) (us : List Bool) (b : Option ℕ) (rest : List Step) → 0 ≡ parts l → (c : Bool) → is_cube l ≡ c
    → run (suc j) rest (entered l j os (marked l us) b) ≡ run (j + 1) rest (closed os (marked l us) (lesser b (least (idle_lines (line l no_proof) (length us) j))))
line_alone l j os us b rest f true e = absurd (not_both l e (sym f))
line_alone l j os us b rest f false e =
    ap (run (suc j) rest) (entered_by l j os us b false e ∙ ap (λ (n : ℕ). if nat_eq n 0 then closed os (marked l us) b else opened l j os (marked l us) b) (sym f))
    ∙ ap (λ (x : Option ℕ). run (suc j) rest (closed os (marked l us) x)) (sym (ap (λ (xs : List ℕ). lesser b (least xs)) (alone_idle l (length us) j) ∙ lesser_none b))
    ∙ at_place (suc j) (j + 1) rest (closed os (marked l us) (lesser b (least (idle_lines (line l no_proof) (length us) j)))) (omega arith)

-- the line around the subproofs of l
abbrev around_of : Step → ℕ → List Bool → OpenLine
around_of l j us = record { line = j; facts = length (marked l us); left = parts l - 1; is_cases = is_cases l }

abbrev begun : Step → List Bool → List Bool
begun l us = marked l us ++ replicate (added l) false

cases_adds : (l : Step) → is_cases l ≡ true → added l ≡ 1
cases_adds (Path k) e = absurd (cc)
cases_adds (Def v i) e = absurd (cc)
cases_adds (Part f i) e = absurd (cc)
cases_adds (Cases f n) e = refl
cases_adds (Sum p f q h g) e = absurd (cc)
cases_adds (Split x) e = absurd (cc)
cases_adds (Cube fs) e = absurd (cc)
cases_adds (Least v n) e = absurd (cc)
cases_adds (Learn ls) e = absurd (cc)
cases_adds (False f) e = absurd (cc)

unread_length : (n : ℕ) → length (replicate n false) ≡ n
unread_length zero = refl
unread_length (suc n) = ap suc (unread_length n)

begun_longer : (l : Step) (us : List Bool) → (length (begun l us) ≡ length us + added l) × (length (marked l us) ≡ length us)
begun_longer l us =
    let a = marked_length l us in
    let c = length-append (marked l us) (replicate (added l) false) in
    let d = unread_length (added l) in
    (omega (arith, a, c, d), a)

first_facts : (l : Step) (n : ℕ) → facts_of_first l n ≡ n + added l
first_facts (Path k) n = omega arith
first_facts (Def v i) n = omega arith
first_facts (Part f i) n = omega arith
first_facts (Cases f m) n = omega arith
first_facts (Sum p f q h g) n = omega arith
first_facts (Split x) n = omega arith
first_facts (Cube fs) n = omega arith
first_facts (Least v m) n = omega arith
first_facts (Learn ls) n = refl
first_facts (False f) n = omega arith

-- what the subproofs that are left add
rest_least : (ts : Proofs) (c : Bool) (i n j : ℕ) (us : List Bool) (b : Option ℕ) → n ≤ length us
    → rest_found ts c i n j us b ≡ lesser b (lesser (unless c i (flag us n && each_uses ts n)) (least (idle_below ts (suc n) (suc n) j)))
rest_least no_proof c i n j us b l =
    ap (lesser b) (sym (ap (λ (x : Option ℕ). lesser x None) (unless_true c i (flag us n)) ∙ lesser_none (unless c i (flag us n))))
rest_least (proof t ts) c i n j us b l =
    let k = kept_length n us l in
    let g = after_length t (take n us ++ false ∷ []) in
    let h : n ≤ length (after t (take n us ++ false ∷ [])) = omega (arith, k, g) in
    let v : flag (after t (take n us ++ false ∷ [])) n ≡ uses t n =
    after_flag t (take n us ++ false ∷ []) n (omega (arith, k)) ∙ ap (λ (x : Bool). x || uses t n) (new_flag n us l) in
    let A = unless c i (flag us n) in
    let L = least (idle_lines t (suc n) j) in
    let B = unless c i (uses t n && each_uses ts n) in
    let R = least (idle_below ts (suc n) (suc n) (j + length (preorder t))) in
    rest_least ts c i n (j + length (preorder t)) (after t (take n us ++ false ∷ [])) (lesser (lesser b A) L) h
    ∙ ap (λ (x : Bool). lesser (lesser (lesser b A) L) (lesser (unless c i (x && each_uses ts n)) R)) v
    ∙ lesser_assoc (lesser b A) L (lesser B R)
    ∙ lesser_assoc b A (lesser L (lesser B R))
    ∙ ap (λ (x : Option ℕ). lesser b (lesser A x)) (lesser_swap L B R)
    ∙ ap (lesser b) (sym (lesser_assoc A B (lesser L R)))
    ∙ ap (λ (x : Option ℕ). lesser b (lesser x (lesser L R))) (sym (unless_both c i (flag us n) (uses t n && each_uses ts n)))
    ∙ ap (λ (x : Option ℕ). lesser b (lesser (unless c i (flag us n && (uses t n && each_uses ts n))) x)) (sym (least_append (idle_lines t (suc n) j) (idle_below ts (suc n) (suc n) (j + length (preorder t)))))

-- the least idle line of a line with subproofs
line_least : (l : Step) (t : Proof) (ts : Proofs) (j : ℕ) (us : List Bool) (b : Option ℕ) → is_cube l ≡ false
    → rest_found ts (is_cases l) j (length (marked l us)) (suc j + length (preorder t)) (after t (begun l us)) (lesser b (least (idle_lines t (length (begun l us)) (suc j))))
    ≡ lesser b (least (idle_lines (line l (proof t ts)) (length us) j))
line_least l t ts j us b e =
    let n = length us in
    let m = begun_longer l us in
    let g = after_length t (begun l us) in
    let h : n ≤ length (after t (begun l us)) = (let p = m.0 in omega (arith, p, g)) in
    let first : length (begun l us) ≡ facts_of_first l n = m.0 ∙ sym (first_facts l n) in
    let L = least (idle_lines t (facts_of_first l n) (suc j)) in
    let F = unless (is_cases l) j (uses t n && each_uses ts n) in
    let R = least (idle_below ts (suc n) (suc n) (suc j + length (preorder t))) in
    ap (λ (x : ℕ). rest_found ts (is_cases l) j x (suc j + length (preorder t)) (after t (begun l us)) (lesser b (least (idle_lines t (length (begun l us)) (suc j))))) m.1
    ∙ ap (λ (x : ℕ). rest_found ts (is_cases l) j n (suc j + length (preorder t)) (after t (begun l us)) (lesser b (least (idle_lines t x (suc j))))) first
    ∙ rest_least ts (is_cases l) j n (suc j + length (preorder t)) (after t (begun l us)) (lesser b L) h
    ∙ ap (λ (x : Option ℕ). lesser (lesser b L) (lesser x R)) (unless_flag (is_cases l) refl)
    ∙ lesser_assoc b L (lesser F R)
    ∙ ap (lesser b) (lesser_swap L F R)
    ∙ ap (λ (x : Option ℕ). lesser b (lesser F x)) (sym (least_append (idle_lines t (facts_of_first l n) (suc j)) (idle_below ts (suc n) (suc n) (suc j + length (preorder t)))))
    ∙ ap (λ (x : Option ℕ). lesser b (lesser x (least (idle_lines t (facts_of_first l n) (suc j) ++ idle_below ts (suc n) (suc n) (suc j + length (preorder t)))))) (sym (least_one j (is_cases l && not (uses t n && each_uses ts n))))
    ∙ ap (lesser b) (sym (least_append (if is_cases l && not (uses t n && each_uses ts n) then j ∷ [] else []) (idle_lines t (facts_of_first l n) (suc j) ++ idle_below ts (suc n) (suc n) (suc j + length (preorder t)))))
    ∙ ap (λ (c : Bool). lesser b (least ((if is_cases l && not (uses t n && each_uses ts n) then j ∷ [] else []) ++ (if c then [] else idle_lines t (facts_of_first l n) (suc j) ++ idle_below ts (suc n) (suc n) (suc j + length (preorder t)))))) (sym e)
  where
    -- only `cases` asks whether the child is read, and it adds one fact
    unless_flag : (c : Bool) → is_cases l ≡ c → unless (is_cases l) j (flag (after t (begun l us)) (length us) && each_uses ts (length us)) ≡ unless (is_cases l) j (uses t (length us) && each_uses ts (length us))
    unless_flag false q = ap (λ (c : Bool). unless c j (flag (after t (begun l us)) (length us) && each_uses ts (length us))) q ∙ sym (ap (λ (c : Bool). unless c j (uses t (length us) && each_uses ts (length us))) q)
    unless_flag true q =
        let m = begun_longer l us in
        let d = cases_adds l q in
        let p : length us < length (begun l us) = (let x = m.0 in omega (arith, x, d)) in
        let z : flag (begun l us) (length us) ≡ false = ap (flag (begun l us)) (sym m.1) ∙ behind_flag (marked l us) (added l) in
        ap (λ (x : Bool). unless (is_cases l) j (x && each_uses ts (length us))) (after_flag t (begun l us) (length us) p ∙ ap (λ (x : Bool). x || uses t (length us)) z)

-- a `cube` with its subproof
line_cube : (l : Step) (t : Proof) (ts : Proofs) (j : ℕ) (os : List OpenLine) (us : List Bool) (b : Option ℕ) (rest : List Step) → suc (parts_of ts) ≡ parts l → FitAll (proof t ts) → is_cube l ≡ true
    → run (suc j) (preorders (proof t ts) ++ rest) (entered l j os (marked l us) b) ≡ run (j + suc (length (preorders (proof t ts)))) rest (closed os (marked l us) (lesser b (least (idle_lines (line l (proof t ts)) (length us) j))))
line_cube l t ts j os us b rest p f e =
    ap (run (suc j) (preorders (proof t ts) ++ rest)) (
    entered_by l j os us b true e
    ∙ ap (λ (n : ℕ). record { used = marked l us; around = os; least = b; skip = n }) (sym p)
    ∙ sym (passing_more (marked l us) os b (parts_of ts))
    ∙ ap (passing (marked l us) os b) (let o : suc (parts_of ts) ≡ suc (parts_of ts) + 0 = omega arith in o))
    ∙ skip_all (proof t ts) (suc j) (marked l us) os b 0 rest f
    ∙ ap (λ (x : Option ℕ). run (suc j + length (preorders (proof t ts))) rest (closed os (marked l us) x)) (sym (ap (λ (xs : List ℕ). lesser b (least xs)) (cube_idle l (proof t ts) (length us) j e) ∙ lesser_none b))
    ∙ at_place (suc j + length (preorders (proof t ts))) (j + suc (length (preorders (proof t ts)))) rest (closed os (marked l us) (lesser b (least (idle_lines (line l (proof t ts)) (length us) j)))) (omega arith)

-- one that opens its subproofs, where this is known of them
line_open : (l : Step) (t : Proof) (ts : Proofs) (j : ℕ) (os : List OpenLine) (us : List Bool) (b : Option ℕ) (rest : List Step) → suc (parts_of ts) ≡ parts l → is_cube l ≡ false
    → run (suc j) (preorder t ++ (preorders ts ++ rest)) (record { used = begun l us; around = around_of l j us ∷ os; least = b; skip = 0 })
    ≡ run (suc j + length (preorder t)) (preorders ts ++ rest) (closed (around_of l j us ∷ os) (after t (begun l us)) (lesser b (least (idle_lines t (length (begun l us)) (suc j)))))
    → run (suc j + length (preorder t)) (preorders ts ++ rest) (closed (around_of l j us ∷ os) (after t (begun l us)) (lesser b (least (idle_lines t (length (begun l us)) (suc j)))))
    ≡ run (suc j + length (preorder t) + length (preorders ts)) rest (closed os (after_rest ts (length (marked l us)) (after t (begun l us))) (rest_found ts (is_cases l) j (length (marked l us)) (suc j + length (preorder t)) (after t (begun l us)) (lesser b (least (idle_lines t (length (begun l us)) (suc j))))))
    → run (suc j) (preorders (proof t ts) ++ rest) (entered l j os (marked l us) b) ≡ run (j + suc (length (preorders (proof t ts)))) rest (closed os (after (line l (proof t ts)) us) (lesser b (least (idle_lines (line l (proof t ts)) (length us) j))))
line_open l t ts j os us b rest p e h r =
    let a = length-append (preorder t) (preorders ts) in
    let m = (begun_longer l us).1 in
    ap (run (suc j) ((preorder t ++ preorders ts) ++ rest)) (entered_by l j os us b false e ∙ ap (λ (c : Bool). if c then closed os (marked l us) b else opened l j os (marked l us) b) (ap (λ (n : ℕ). nat_eq n 0) (sym p) ∙ suc_zero (parts_of ts)))
    ∙ ap (λ (ls : List Step). run (suc j) ls (opened l j os (marked l us) b)) (append_assoc (preorder t) (preorders ts) rest)
    ∙ h ∙ r
    ∙ ap (λ (x : Option ℕ). run (suc j + length (preorder t) + length (preorders ts)) rest (closed os (after_rest ts (length (marked l us)) (after t (begun l us))) x)) (line_least l t ts j us b e)
    ∙ ap (λ (vs : List Bool). run (suc j + length (preorder t) + length (preorders ts)) rest (closed os vs (lesser b (least (idle_lines (line l (proof t ts)) (length us) j))))) (
    ap (λ (n : ℕ). after_rest ts n (after t (begun l us))) m ∙ sym (cube_after l t ts us false e))
    ∙ at_place (suc j + length (preorder t) + length (preorders ts)) (j + suc (length (preorder t ++ preorders ts))) rest (closed os (after (line l (proof t ts)) us) (lesser b (least (idle_lines (line l (proof t ts)) (length us) j)))) (omega (arith, a))

line_by : (l : Step) (t : Proof) (ts : Proofs) (j : ℕ) (os : List OpenLine) (us : List Bool) (b : Option ℕ) (rest : List Step) → suc (parts_of ts) ≡ parts l → FitAll (proof t ts) → (c : Bool) → is_cube l ≡ c
    → run (suc j) (preorder t ++ (preorders ts ++ rest)) (record { used = begun l us; around = around_of l j us ∷ os; least = b; skip = 0 })
    ≡ run (suc j + length (preorder t)) (preorders ts ++ rest) (closed (around_of l j us ∷ os) (after t (begun l us)) (lesser b (least (idle_lines t (length (begun l us)) (suc j)))))
    → run (suc j + length (preorder t)) (preorders ts ++ rest) (closed (around_of l j us ∷ os) (after t (begun l us)) (lesser b (least (idle_lines t (length (begun l us)) (suc j)))))
    ≡ run (suc j + length (preorder t) + length (preorders ts)) rest (closed os (after_rest ts (length (marked l us)) (after t (begun l us))) (rest_found ts (is_cases l) j (length (marked l us)) (suc j + length (preorder t)) (after t (begun l us)) (lesser b (least (idle_lines t (length (begun l us)) (suc j))))))
    → run (suc j) (preorders (proof t ts) ++ rest) (entered l j os (marked l us) b) ≡ run (j + suc (length (preorders (proof t ts)))) rest (closed os (after (line l (proof t ts)) us) (lesser b (least (idle_lines (line l (proof t ts)) (length us) j))))
line_by l t ts j os us b rest p f true e h r =
    line_cube l t ts j os us b rest p f e
    ∙ ap (λ (vs : List Bool). run (j + suc (length (preorders (proof t ts)))) rest (closed os vs (lesser b (least (idle_lines (line l (proof t ts)) (length us) j))))) (sym (cube_after l t ts us true e))
line_by l t ts j os us b rest p f false e h r = line_open l t ts j os us b rest p e h r

-- ---- whole subproofs

mutual
  tree_run : (t : Proof) (j : ℕ) (os : List OpenLine) (us : List Bool) (b : Option ℕ) (rest : List Step) → Fits t
      → run j (preorder t ++ rest) (record { used = us; around = os; least = b; skip = 0 }) ≡ run (j + length (preorder t)) rest (closed os (after t us) (lesser b (least (idle_lines t (length us) j))))
  tree_run (line l no_proof) j os us b rest f = line_alone l j os us b rest f.0 (is_cube l) refl
  tree_run (line l (proof t ts)) j os us b rest f =
      let m = begun_longer l us in
      let g = after_length t (begun l us) in
      let few : length (marked l us) ≤ length (after t (begun l us)) = (let x = m.0 in let y = m.1 in omega (arith, x, y, g)) in
      let left : parts l - 1 ≡ parts_of ts = (let x = f.0 in omega (arith, x)) in
      line_by l t ts j os us b rest f.0 f.1 (is_cube l) refl
      (tree_run t (suc j) (around_of l j us ∷ os) (begun l us) b (preorders ts ++ rest) f.1.0)
      (parts_run ts (around_of l j us) os (after t (begun l us)) (lesser b (least (idle_lines t (length (begun l us)) (suc j)))) (suc j + length (preorder t)) rest f.1.1 left few)

  parts_run : (ts : Proofs) (o : OpenLine) (os : List OpenLine) (us : List Bool) (b : Option ℕ) (j : ℕ) (rest : List Step) → FitAll ts → o.left ≡ parts_of ts → o.facts ≤ length us
      → run j (preorders ts ++ rest) (closed (o ∷ os) us b) ≡ run (j + length (preorders ts)) rest (closed os (after_rest ts o.facts us) (rest_found ts o.is_cases o.line o.facts j us b))
  parts_run no_proof o os us b j rest f e l =
      ap (run j rest) (closed_at o os us b true (ap (λ (n : ℕ). nat_eq n 0) e)) ∙ at_place j (j + 0) rest (closed os us (lesser b (unless o.is_cases o.line (flag us o.facts)))) (omega arith)
  parts_run (proof t ts) o os us b j rest f e l =
      let a = length-append (preorder t) (preorders ts) in
      let v : List Bool = take o.facts us ++ false ∷ [] in
      let k = kept_length o.facts us l in
      let g = after_length t v in
      let c : Option ℕ = lesser b (unless o.is_cases o.line (flag us o.facts)) in
      let left : o.left - 1 ≡ parts_of ts = omega (arith, e) in
      let few : o.facts ≤ length (after t v) = omega (arith, k, g) in
      ap (run j ((preorder t ++ preorders ts) ++ rest)) (closed_at o os us b false (ap (λ (n : ℕ). nat_eq n 0) e ∙ suc_zero (parts_of ts)))
      ∙ ap (λ (ls : List Step). run j ls (went_on o os us b)) (append_assoc (preorder t) (preorders ts) rest)
      ∙ tree_run t j (with_left o (o.left - 1) ∷ os) v c (preorders ts ++ rest) f.0
      ∙ ap (λ (n : ℕ). run (j + length (preorder t)) (preorders ts ++ rest) (closed (with_left o (o.left - 1) ∷ os) (after t v) (lesser c (least (idle_lines t n j))))) k
      ∙ parts_run ts (with_left o (o.left - 1)) os (after t v) (lesser c (least (idle_lines t (suc o.facts) j))) (j + length (preorder t)) rest f.1 left few
      ∙ at_place (j + length (preorder t) + length (preorders ts)) (j + length (preorder t ++ preorders ts)) rest (closed os (after_rest ts o.facts (after t v)) (rest_found ts o.is_cases o.line o.facts (j + length (preorder t)) (after t v) (lesser c (least (idle_lines t (suc o.facts) j))))) (omega (arith, a))

-- all lines of a tree
pub found : (t : Proof) → Fits t → (run 0 (preorder t) begin).least ≡ least (idle_lines t 0 0)
found t f =
    ap (λ (ls : List Step). (run 0 ls begin).least) (sym (append-nil (preorder t)))
    ∙ ap (λ (w : Standing). w.least) (tree_run t 0 [] [] None [] f)
