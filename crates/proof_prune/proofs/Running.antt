-- What the walk makes of the lines of a tree: the counts of what stays, and its items.
use Rattle.std.specs.Prelude.{ℕ, zero, suc, ◌+◌, ◌-◌, ◌≡◌, ◌≢◌, ◌⊎◌, nat_eq, Bool, true, false, not, if◌then◌else◌, List, [], ◌∷◌, ◌++◌, map, length, take, drop, replicate, slice_set}
use Rattle.std.proofs.Common.{arith, ap, ◌∙◌, sym, refl, append_assoc, append-nil, inl, inr}
use Rattle.std.proofs.lemmas.Bool.Decides.{eqb_tells}
use Rattle.std.proofs.lemmas.List.{length-append}
use Rattle.cube_rules.specs.declared.Step.{Step}
use Rattle.cube_rules.specs.Lines.{parts}
use Rattle.cube_rules.specs.Closing.{Proof, line, Proofs, no_proof, proof, preorder, preorders}
use Rattle.proof_rules.specs.Idle.{is_cube}
use Rattle.proof_idle.specs.Walk.{added}
use Rattle.proof_idle.proofs.Walking.{parts_of, Fits, FitAll}
use Rattle.proof_prune.specs.declared.item.Item.{Item}
use Rattle.proof_prune.specs.declared.item.Item.TheVariants.{Line, Behind, Read, Hole}
use Rattle.proof_prune.specs.declared.item.Around.{Around}
use Rattle.proof_prune.specs.Counting.{facts_read, counted, uncounted, all_unread}
use Rattle.proof_prune.specs.Cutting.{Cutting, reads_from, line_items, is_spare, reads_before, cut_items, counts_left, items_left, gone_on, part_closed, line_entered, cut_step, cut}
use Rattle.proof_prune.proofs.Tallies.{counted_length, counted_append, counted_front, uncounted_counted, reads_in, unread_added}
use Rattle.proof_prune.proofs.Kept.{wanted, wanted_by, items_of, items_by, behind}

pub at_place : (i j : ℕ) (ls : List Step) (w : Cutting) → i ≡ j → cut i ls w ≡ cut j ls w
at_place i j ls w e = ap (λ (n : ℕ). cut n ls w) e

pub suc_zero : (n : ℕ) → nat_eq (suc n) 0 ≡ false
suc_zero n = by (eqb_tells (suc n) 0)
  where
    by : ((nat_eq (suc n) 0 ≡ true) × (suc n ≡ 0)) ⊎ ((nat_eq (suc n) 0 ≡ false) × (suc n ≢ 0)) → nat_eq (suc n) 0 ≡ false
    by (inl e) = let f = e.1 in absurd (omega (arith, f))
    by (inr e) = e.0

-- ---- lines that are passed over

abbrev one_on : Bool → List Item → ℕ → List Item
one_on b es i = if b then es ++ Behind i ∷ [] else es

abbrev pub passed_on : Bool → List Item → ℕ → ℕ → List Item
passed_on b es i zero = es
passed_on b es i (suc m) = passed_on b (one_on b es i) (suc i) m

passed_twice : (b : Bool) (es : List Item) (i j m k : ℕ) → i + m ≡ j → passed_on b es i (m + k) ≡ passed_on b (passed_on b es i m) j k
passed_twice b es i j zero k e = (let o : zero + k ≡ k = omega arith in ap (passed_on b es i) o) ∙ ap (λ (n : ℕ). passed_on b es n k) (let o : i ≡ j = omega (arith, e) in o)
passed_twice b es i j (suc m) k e =
    (let o : suc m + k ≡ suc (m + k) = omega arith in ap (passed_on b es i) o)
    ∙ passed_twice b (one_on b es i) (suc i) j m k (omega (arith, e))

pub none_passed : (es : List Item) (i m : ℕ) → passed_on false es i m ≡ es
none_passed es i zero = refl
none_passed es i (suc m) = none_passed es (suc i) m

pub all_passed : (es : List Item) (i m : ℕ) → passed_on true es i m ≡ es ++ behind i m
all_passed es i zero = sym (append-nil es)
all_passed es i (suc m) = all_passed (es ++ Behind i ∷ []) (suc i) m ∙ append_assoc es (Behind i ∷ []) (behind (suc i) m)

abbrev pub passing : List ℕ → List Item → List Around → ℕ → Bool → Cutting
passing cs es os m b = if nat_eq m 0 then part_closed os cs es else record { counts = cs; items = es; around = os; skip = m; copies = b }

pub passing_more : (cs : List ℕ) (es : List Item) (os : List Around) (m : ℕ) (b : Bool) → passing cs es os (suc m) b ≡ record { counts = cs; items = es; around = os; skip = suc m; copies = b }
passing_more cs es os m b = ap (λ (c : Bool). if c then part_closed os cs es else record { counts = cs; items = es; around = os; skip = suc m; copies = b }) (suc_zero m)

step_behind : (l : Step) (j : ℕ) (cs : List ℕ) (es : List Item) (os : List Around) (m : ℕ) (b : Bool) → cut_step l j (record { counts = cs; items = es; around = os; skip = suc m; copies = b }) ≡ passing cs (one_on b es j) os ((suc m - 1) + parts l) b
step_behind l j cs es os m b = ap (λ (c : Bool). if c then line_entered l os (length es) (counted (facts_read l) cs) (es ++ line_items j (length cs) l) else passing cs (one_on b es j) os ((suc m - 1) + parts l) b) (suc_zero m)

mutual
  skip_tree : (t : Proof) (j : ℕ) (cs : List ℕ) (es : List Item) (os : List Around) (m : ℕ) (b : Bool) (rest : List Step) → Fits t
      → cut j (preorder t ++ rest) (record { counts = cs; items = es; around = os; skip = suc m; copies = b }) ≡ cut (j + length (preorder t)) rest (passing cs (passed_on b es j (length (preorder t))) os m b)
  skip_tree (line l ts) j cs es os m b rest f =
      let k : (suc m - 1) + parts l ≡ parts_of ts + m = (let e = f.0 in omega (arith, e)) in
      ap (cut (suc j) (preorders ts ++ rest)) (step_behind l j cs es os m b ∙ ap (λ (n : ℕ). passing cs (one_on b es j) os n b) k)
      ∙ skip_all ts (suc j) cs (one_on b es j) os m b rest f.1
      ∙ at_place (suc j + length (preorders ts)) (j + suc (length (preorders ts))) rest (passing cs (passed_on b (one_on b es j) (suc j) (length (preorders ts))) os m b) (omega arith)

  pub skip_all : (ts : Proofs) (j : ℕ) (cs : List ℕ) (es : List Item) (os : List Around) (m : ℕ) (b : Bool) (rest : List Step) → FitAll ts
      → cut j (preorders ts ++ rest) (passing cs es os (parts_of ts + m) b) ≡ cut (j + length (preorders ts)) rest (passing cs (passed_on b es j (length (preorders ts))) os m b)
  skip_all no_proof j cs es os m b rest f = ap (cut j rest) (ap (λ (n : ℕ). passing cs es os n b) (let o : 0 + m ≡ m = omega arith in o)) ∙ at_place j (j + 0) rest (passing cs es os m b) (omega arith)
  skip_all (proof t ts) j cs es os m b rest f =
      let a = length-append (preorder t) (preorders ts) in
      let es' = passed_on b es j (length (preorder t)) in
      ap (λ (ls : List Step). cut j ls (passing cs es os (suc (parts_of ts) + m) b)) (append_assoc (preorder t) (preorders ts) rest)
      ∙ ap (cut j (preorder t ++ (preorders ts ++ rest))) (ap (λ (n : ℕ). passing cs es os n b) (let o : suc (parts_of ts) + m ≡ suc (parts_of ts + m) = omega arith in o) ∙ passing_more cs es os (parts_of ts + m) b)
      ∙ skip_tree t j cs es os (parts_of ts + m) b (preorders ts ++ rest) f.0
      ∙ skip_all ts (j + length (preorder t)) cs es' os m b rest f.1
      ∙ at_place (j + length (preorder t) + length (preorders ts)) (j + length (preorder t ++ preorders ts)) rest (passing cs (passed_on b es' (j + length (preorder t)) (length (preorders ts))) os m b) (omega (arith, a))
      ∙ ap (λ (xs : List Item). cut (j + length (preorder t ++ preorders ts)) rest (passing cs xs os m b))
      (sym (ap (passed_on b es j) a ∙ passed_twice b es j (j + length (preorder t)) (length (preorder t)) (length (preorders ts)) refl))

-- ---- places in the list of items

take_front : (es fs : List Item) → take (length es) (es ++ fs) ≡ es
take_front [] fs = refl
take_front (e ∷ es) fs = ap (λ (xs : List Item). e ∷ xs) (take_front es fs)

drop_front : (es fs : List Item) → drop (length es) (es ++ fs) ≡ fs
drop_front [] fs = refl
drop_front (e ∷ es) fs = drop_front es fs

set_between : (es fs gs : List Item) (x y : Item) → slice_set ((es ++ x ∷ fs) ++ gs) (length es) y ≡ es ++ y ∷ (fs ++ gs)
set_between [] fs gs x y = refl
set_between (e ∷ es) fs gs x y = ap (λ (xs : List Item). e ∷ xs) (set_between es fs gs x y)

-- items that read this, and cut out nothing behind them
abbrev pub Reading : List Item → List ℕ → Type 0
Reading es own = (rest : List Item) → reads_from 0 (es ++ rest) ≡ own ++ reads_from 0 rest

pub reads_passed : (es rest : List Item) → reads_from (length es) (es ++ rest) ≡ reads_from 0 rest
reads_passed [] rest = refl
reads_passed (e ∷ es) rest = reads_passed es rest

pub reading_facts : (fs : List ℕ) → Reading (map Read fs) fs
reading_facts [] rest = refl
reading_facts (f ∷ fs) rest = ap (λ (xs : List ℕ). f ∷ xs) (reading_facts fs rest)

pub reading_both : (es is : List Item) (own ws : List ℕ) → Reading es own → Reading is ws → Reading (es ++ is) (own ++ ws)
reading_both es is own ws e w rest =
    ap (reads_from 0) (append_assoc es is rest) ∙ e (is ++ rest) ∙ ap (λ (xs : List ℕ). own ++ xs) (w rest) ∙ sym (append_assoc own ws (reads_from 0 rest))

reading_behind : (i m : ℕ) → Reading (behind i m) []
reading_behind i zero rest = refl
reading_behind i (suc m) rest = reading_behind (suc i) m rest

reading_cut : (n : ℕ) (es is : List Item) (ws : List ℕ) → Reading is ws → Reading (Hole n (length es) ∷ (es ++ is)) ws
reading_cut n es is ws w rest = ap (reads_from (length es)) (append_assoc es is rest) ∙ reads_passed es (is ++ rest) ∙ w rest

reading_line : (l : Step) (ts : Proofs) (j n : ℕ) (c : Bool) → Reading (items_by ts (added l) (suc j) n j (map Read (facts_read l))) (wanted_by ts (added l) n (facts_read l))
    → Reading (if c then line_items j n l ++ behind (suc j) (length (preorders ts)) else items_by ts (added l) (suc j) n j (map Read (facts_read l))) (if c then facts_read l else wanted_by ts (added l) n (facts_read l))
reading_line l ts j n true h = λ rest.
    ap (reads_from 0) (append_assoc (map Read (facts_read l)) (behind (suc j) (length (preorders ts))) rest)
    ∙ reading_facts (facts_read l) (behind (suc j) (length (preorders ts)) ++ rest)
    ∙ ap (λ (xs : List ℕ). facts_read l ++ xs) (reading_behind (suc j) (length (preorders ts)) rest)
reading_line l ts j n false h = h

reading_part : (is : List Item) (ws : List ℕ) (more : List Item) (more_ws : List ℕ) (n : ℕ) (es : List Item) (b : Bool) → Reading is ws → Reading more more_ws
    → Reading (if b then more else Hole n (length es) ∷ (es ++ is)) (if b then more_ws else ws)
reading_part is ws more more_ws n es true w m = m
reading_part is ws more more_ws n es false w m = reading_cut n es is ws w

mutual
  -- the items of a subproof read what is wanted
  pub reading_of : (t : Proof) (j n : ℕ) → Reading (items_of t j n) (wanted t n)
  reading_of (line l ts) j n = reading_line l ts j n (is_cube l) (reading_by ts (added l) (suc j) n j (map Read (facts_read l)) (facts_read l) (reading_facts (facts_read l)))

  reading_by : (ts : Proofs) (a i n j : ℕ) (es : List Item) (own : List ℕ) → Reading es own → Reading (items_by ts a i n j es) (wanted_by ts a n own)
  reading_by no_proof a i n j es own e = λ rest. e rest
  reading_by (proof t ts) a i n j es own e =
      reading_part (items_of t i (n + a)) (wanted t (n + a)) (items_by ts 1 (i + length (preorder t)) n j (es ++ items_of t i (n + a))) (wanted_by ts 1 n (own ++ wanted t (n + a))) n es (reads_in n (n + a) (wanted t (n + a)))
      (reading_of t i (n + a)) (reading_by ts 1 (i + length (preorder t)) n j (es ++ items_of t i (n + a)) (own ++ wanted t (n + a)) (reading_both es (items_of t i (n + a)) own (wanted t (n + a)) e (reading_of t i (n + a))))

-- ---- a subproof that ends

-- the line j around, which has n facts before it; the items before it and behind it
abbrev pub around_of : List Item → ℕ → ℕ → List Item → ℕ → Around
around_of fs j n es m = record { at = length fs; begin = length (fs ++ Line j n ∷ es); facts = n; left = m }

abbrev pub settled_counts : Bool → List ℕ → List ℕ → List ℕ → List ℕ
settled_counts b own w cs = if b then counted (own ++ w) cs else counted w cs

abbrev pub settled_items : Bool → List Item → ℕ → ℕ → List Item → List Item → List Item
settled_items b fs j n es is = if b then (fs ++ Line j n ∷ es) ++ is else fs ++ Hole n (length es) ∷ (es ++ is)

-- what the facts of the subproof that ends are counted in
abbrev pub ended : List ℕ → List ℕ → List ℕ → ℕ → List ℕ
ended own w cs a = counted w (counted own cs ++ replicate a 0)

spare_is : (fs : List Item) (j n : ℕ) (es : List Item) (m : ℕ) (own w cs : List ℕ) (a : ℕ) (b : Bool) → length cs ≡ n → reads_in n (n + a) w ≡ b → is_spare (around_of fs j n es m) (ended own w cs a) ≡ not b
spare_is fs j n es m own w cs a b e t =
    let k : length (counted own cs) ≡ n = counted_length own cs ∙ e in
    ap (λ (i : ℕ). all_unread (drop i (ended own w cs a))) (sym k)
    ∙ unread_added w (counted own cs) a
    ∙ ap (λ (i : ℕ). not (reads_in i (i + a) w)) k
    ∙ ap not t

front_is : (n : ℕ) (own w cs : List ℕ) (a : ℕ) → length cs ≡ n → take n (ended own w cs a) ≡ counted (own ++ w) cs
front_is n own w cs a e =
    let k : length (counted own cs) ≡ n = counted_length own cs ∙ e in
    ap (λ (i : ℕ). take i (ended own w cs a)) (sym k) ∙ counted_front w (counted own cs) (replicate a 0) ∙ sym (counted_append own w cs)

before_is : (fs : List Item) (j n : ℕ) (es is : List Item) (m : ℕ) (own : List ℕ) → Reading es own → reads_before (around_of fs j n es m) ((fs ++ Line j n ∷ es) ++ is) ≡ own
before_is fs j n es is m own r =
    ap (λ (xs : List Item). reads_from 0 (drop (length fs) xs)) (take_front (fs ++ Line j n ∷ es) is)
    ∙ ap (reads_from 0) (drop_front fs (Line j n ∷ es))
    ∙ ap (reads_from 0) (sym (append-nil es)) ∙ r [] ∙ append-nil own

hole_is : (fs : List Item) (j n : ℕ) (es is : List Item) (m : ℕ) → cut_items (around_of fs j n es m) ((fs ++ Line j n ∷ es) ++ is) ≡ fs ++ Hole n (length es) ∷ (es ++ is)
hole_is fs j n es is m =
    let a = length-append fs (Line j n ∷ es) in
    let k : length (fs ++ Line j n ∷ es) - length fs - 1 ≡ length es = omega (arith, a) in
    ap (λ (d : ℕ). slice_set ((fs ++ Line j n ∷ es) ++ is) (length fs) (Hole n d)) k
    ∙ set_between fs es is (Line j n) (Hole n (length es))

counts_by : (o : Around) (cs : List ℕ) (es : List Item) (c : Bool) → is_spare o cs ≡ c → counts_left o cs es ≡ (if c then uncounted (reads_before o es) (take o.facts cs) else take o.facts cs)
counts_by o cs es c e = ap (λ (b : Bool). if b then uncounted (reads_before o es) (take o.facts cs) else take o.facts cs) e

items_by_spare : (o : Around) (cs : List ℕ) (es : List Item) (c : Bool) → is_spare o cs ≡ c → items_left o cs es ≡ (if c then cut_items o es else es)
items_by_spare o cs es c e = ap (λ (b : Bool). if b then cut_items o es else es) e

counts_are : (fs : List Item) (j n : ℕ) (es is : List Item) (m : ℕ) (own w cs : List ℕ) (a : ℕ) (b : Bool) → length cs ≡ n → reads_in n (n + a) w ≡ b → Reading es own
    → counts_left (around_of fs j n es m) (ended own w cs a) ((fs ++ Line j n ∷ es) ++ is) ≡ settled_counts b own w cs
counts_are fs j n es is m own w cs a true e t r =
    counts_by (around_of fs j n es m) (ended own w cs a) ((fs ++ Line j n ∷ es) ++ is) false (spare_is fs j n es m own w cs a true e t) ∙ front_is n own w cs a e
counts_are fs j n es is m own w cs a false e t r =
    counts_by (around_of fs j n es m) (ended own w cs a) ((fs ++ Line j n ∷ es) ++ is) true (spare_is fs j n es m own w cs a false e t)
    ∙ ap (λ (xs : List ℕ). uncounted xs (take n (ended own w cs a))) (before_is fs j n es is m own r)
    ∙ ap (uncounted own) (front_is n own w cs a e ∙ counted_append own w cs)
    ∙ uncounted_counted own w cs

items_are : (fs : List Item) (j n : ℕ) (es is : List Item) (m : ℕ) (own w cs : List ℕ) (a : ℕ) (b : Bool) → length cs ≡ n → reads_in n (n + a) w ≡ b
    → items_left (around_of fs j n es m) (ended own w cs a) ((fs ++ Line j n ∷ es) ++ is) ≡ settled_items b fs j n es is
items_are fs j n es is m own w cs a true e t =
    items_by_spare (around_of fs j n es m) (ended own w cs a) ((fs ++ Line j n ∷ es) ++ is) false (spare_is fs j n es m own w cs a true e t)
items_are fs j n es is m own w cs a false e t =
    items_by_spare (around_of fs j n es m) (ended own w cs a) ((fs ++ Line j n ∷ es) ++ is) true (spare_is fs j n es m own w cs a false e t) ∙ hole_is fs j n es is m

-- the line goes on or ends
pub closed_is : (fs : List Item) (j n : ℕ) (es is : List Item) (m : ℕ) (own w cs : List ℕ) (a : ℕ) (b c : Bool) (os : List Around) → length cs ≡ n → reads_in n (n + a) w ≡ b → Reading es own → nat_eq m 0 ≡ c
    → part_closed (around_of fs j n es m ∷ os) (ended own w cs a) ((fs ++ Line j n ∷ es) ++ is)
    ≡ (if c then part_closed os (settled_counts b own w cs) (settled_items b fs j n es is) else gone_on (around_of fs j n es m) os (not b) (settled_counts b own w cs) (settled_items b fs j n es is))
closed_is fs j n es is m own w cs a b c os e t r z =
    let o = around_of fs j n es m in
    let cs' = ended own w cs a in
    let es' = (fs ++ Line j n ∷ es) ++ is in
    ap (λ (x : Bool). if x then part_closed os (counts_left o cs' es') (items_left o cs' es') else gone_on o os (is_spare o cs') (counts_left o cs' es') (items_left o cs' es')) z
    ∙ ap (λ (x : List ℕ). if c then part_closed os x (items_left o cs' es') else gone_on o os (is_spare o cs') x (items_left o cs' es')) (counts_are fs j n es is m own w cs a b e t r)
    ∙ ap (λ (x : List Item). if c then part_closed os (settled_counts b own w cs) x else gone_on o os (is_spare o cs') (settled_counts b own w cs) x) (items_are fs j n es is m own w cs a b e t)
    ∙ ap (λ (x : Bool). if c then part_closed os (settled_counts b own w cs) (settled_items b fs j n es is) else gone_on o os x (settled_counts b own w cs) (settled_items b fs j n es is)) (spare_is fs j n es m own w cs a b e t)
