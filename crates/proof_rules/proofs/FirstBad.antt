-- The first bad line in other words: the lines before it can begin a tree that closes, and with it they cannot.
use Rattle.std.specs.Prelude.{ℕ, zero, suc, ◌+◌, ◌<◌, ◌≤◌, ◌≡◌, Option, Some, None, Result, Err, slice_get, List, [], ◌∷◌, ◌++◌, take, drop, length}
use Rattle.std.proofs.Common.{arith, ap, ◌∙◌, sym, subst, refl, append_assoc, append-nil, length-append}
use Rattle.lin_term.specs.declared.Sort.{Sort}
use Rattle.lin_term.specs.declared.Short.{Short}
use Rattle.lin_term.specs.declared.Short.TheVariants as short
use Rattle.dom_core.specs.Game.{Problem}
use Rattle.game_tree.specs.Skeleton.{Skeleton}
use Rattle.lose_system.specs.Losing.{system}
use Rattle.cube_rules.specs.declared.Step.{Step}
use Rattle.cube_rules.specs.declared.Rule.TheVariants.{Form}
use Rattle.cube_rules.specs.Context.{Context, open_context}
use Rattle.cube_rules.specs.Lines.{rule_of}
use Rattle.cube_rules.specs.Closing.{Proof, line, Proofs, no_proof, proof, preorder, preorders, Rules, Closes, CloseAll}
use Rattle.proof_rules.specs.declared.bad_line.BadLine.{BadLine}
use Rattle.proof_rules.specs.Rules.{apply}
use Rattle.proof_rules.specs.Checked.{bad_line, or_bad, first_bad_from, first_bad}
use Rattle.proof_rules.specs.Begun.{Begun, nothing, begun, lines_of, InOrder, Begins, CanBegin, IsFirstBad}
use Rattle.proof_rules.proofs.Checking.{passes_refutes, refutes_passes}

-- ---- the lines before the bad one begin trees

abbrev BeginAll : Proofs → Begun → Rules → List Context → Type 0
BeginAll ts b rules ks = InOrder (Begins b rules) (b ≡ nothing) ts rules ks

-- trees for a row of contexts, of which the last one is begun
record Row (rules : Rules) (cs : List Context) (ls : List Step) : Type 0 where
  wholes : Proofs
  last : Begun
  fits : BeginAll wholes last rules cs
  lines : preorders wholes ++ lines_of last ≡ ls

-- the lines end within the first contexts, or go on behind them
data Halves (rules : Rules) (ks cs : List Context) (ls : List Step) : Type 0 where
  inside : (ts : Proofs) (b : Begun) → BeginAll ts b rules ks → preorders ts ++ lines_of b ≡ ls → Halves rules ks cs ls
  behind : (ts us : Proofs) (b : Begun) → CloseAll ts rules ks → BeginAll us b rules cs → preorders ts ++ (preorders us ++ lines_of b) ≡ ls → Halves rules ks cs ls

one_more : (rules : Rules) (k : Context) (ks cs : List Context) (t : Proof) (ls : List Step) → Closes t rules k → Halves rules ks cs ls → Halves rules (k ∷ ks) cs (preorder t ++ ls)
one_more rules k ks cs t ls c (inside ts b h e) =
    inside (proof t ts) b (c, h) (append_assoc (preorder t) (preorders ts) (lines_of b) ∙ ap (λ (x : List Step). preorder t ++ x) e)
one_more rules k ks cs t ls c (behind ts us b h f e) =
    behind (proof t ts) us b (c, h) f (append_assoc (preorder t) (preorders ts) (preorders us ++ lines_of b) ∙ ap (λ (x : List Step). preorder t ++ x) e)

halves : (rules : Rules) (ks cs : List Context) (ts : Proofs) (b : Begun) → BeginAll ts b rules (ks ++ cs) → Halves rules ks cs (preorders ts ++ lines_of b)
halves rules [] cs ts b h = behind no_proof ts b tt h refl
halves rules (k ∷ ks) cs no_proof b h = inside no_proof b h refl
halves rules (k ∷ ks) cs (proof t ts) b h =
    subst (λ (x : List Step). Halves rules (k ∷ ks) cs x) (sym (append_assoc (preorder t) (preorders ts) (lines_of b)))
    (one_more rules k ks cs t (preorders ts ++ lines_of b) h.0 (halves rules ks cs ts b h.1))

-- a line in front
in_front : (rules : Rules) (c : Context) (ks cs : List Context) (l : Step) (ls : List Step) → rules c l ≡ Some ks → Halves rules ks cs ls → Row rules (c ∷ cs) (l ∷ ls)
in_front rules c ks cs l ls r (inside ts b h e) =
    record { wholes = no_proof; last = begun l ts b; fits = (ks, r, h); lines = ap (λ (x : List Step). l ∷ x) e }
in_front rules c ks cs l ls r (behind ts us b h f e) =
    record { wholes = proof (line l ts) us; last = b; fits = ((ks, r, h), f); lines = ap (λ (x : List Step). l ∷ x) (append_assoc (preorders ts) (preorders us) (lines_of b) ∙ e) }

no_line : (rules : Rules) (cs : List Context) → Row rules cs []
no_line rules [] = record { wholes = no_proof; last = nothing; fits = refl; lines = refl }
no_line rules (c ∷ cs) = record { wholes = no_proof; last = nothing; fits = tt; lines = refl }

step_on : (rules : Rules) (c : Context) (cs : List Context) (l : Step) (ls : List Step) (n m : ℕ) (b : BadLine) (go : List Context → Option BadLine) (o : Option (List Context)) →
    rules c l ≡ o → or_bad (bad_line n (rule_of l)) go o ≡ Some b → b.line ≡ n + suc m → ((ks : List Context) → go ks ≡ Some b → Row rules (ks ++ cs) ls) → Row rules (c ∷ cs) (l ∷ ls)
step_on rules c cs l ls n m b go None r e q k = absurd (let f : bad_line n (rule_of l) ≡ b = cc in let g = ap (λ (x : BadLine). x.line) f in omega arith)
step_on rules c cs l ls n m b go (Some ks) r e q k =
    let row = k ks e in
    in_front rules c ks cs l ls r (subst (λ (x : List Step). Halves rules ks cs x) row.lines (halves rules ks cs row.wholes row.last row.fits))

row_of : (rules : Rules) (cs : List Context) (ls : List Step) (n m : ℕ) (b : BadLine) → first_bad_from rules cs ls n ≡ Some b → b.line ≡ n + m → Row rules cs (take m ls)
row_of rules cs ls n zero b e q = no_line rules cs
row_of rules [] [] n (suc m) b e q = absurd (cc)
row_of rules [] (l ∷ ls) n (suc m) b e q = absurd (let f : bad_line n Form ≡ b = cc in let g = ap (λ (x : BadLine). x.line) f in omega arith)
row_of rules (c ∷ cs) [] n (suc m) b e q = absurd (let f : bad_line n Form ≡ b = cc in let g = ap (λ (x : BadLine). x.line) f in omega arith)
row_of rules (c ∷ cs) (l ∷ ls) n (suc m) b e q =
    step_on rules c cs l (take m ls) n m b (λ ks. first_bad_from rules (ks ++ cs) ls (suc n)) (rules c l) refl e q
    (λ ks f. row_of rules (ks ++ cs) ls (suc n) m b f (omega arith))

all_begin : (ts : Proofs) (rules : Rules) (ks : List Context) → CloseAll ts rules ks → BeginAll ts nothing rules ks
all_begin no_proof rules [] h = refl
all_begin no_proof rules (k ∷ ks) h = absurd h
all_begin (proof t ts) rules [] h = absurd h
all_begin (proof t ts) rules (k ∷ ks) h = (h.0, all_begin ts rules ks h.1)

row_begins : (rules : Rules) (c : Context) (ls : List Step) (ts : Proofs) (b : Begun) → BeginAll ts b rules (c ∷ []) → preorders ts ++ lines_of b ≡ ls → CanBegin rules c ls
row_begins rules c ls no_proof b h e = record { tree = b; lines = e; begins = h }
row_begins rules c ls (proof (line l ts) no_proof) b h e =
    let nil : lines_of b ≡ [] = ap lines_of h.1 in
    record {
      tree = begun l ts nothing;
      lines = sym (append-nil (l ∷ (preorders ts ++ []))) ∙ ap (λ (x : List Step). (l ∷ (preorders ts ++ [])) ++ x) (sym nil) ∙ e;
      begins = (h.0.0, h.0.1, all_begin ts rules h.0.0 h.0.2);
    }
row_begins rules c ls (proof t (proof u us)) b h e = absurd h.1

-- ---- begun trees pass the walk

mutual
  tree_goes : (t : Proof) (rules : Rules) (c : Context) (cs : List Context) (ls : List Step) (n : ℕ) → Closes t rules c → first_bad_from rules (c ∷ cs) (preorder t ++ ls) n ≡ first_bad_from rules cs ls (n + length (preorder t))
  tree_goes (line l ts) rules c cs ls n h =
      ap (or_bad (bad_line n (rule_of l)) (λ ks. first_bad_from rules (ks ++ cs) (preorders ts ++ ls) (suc n))) h.1
      ∙ trees_go ts rules h.0 cs ls (suc n) h.2
      ∙ ap (λ (m : ℕ). first_bad_from rules cs ls m) (let e : suc n + length (preorders ts) ≡ n + suc (length (preorders ts)) = omega arith in e)

  trees_go : (ts : Proofs) (rules : Rules) (ks cs : List Context) (ls : List Step) (n : ℕ) → CloseAll ts rules ks → first_bad_from rules (ks ++ cs) (preorders ts ++ ls) n ≡ first_bad_from rules cs ls (n + length (preorders ts))
  trees_go no_proof rules [] cs ls n h = ap (λ (m : ℕ). first_bad_from rules cs ls m) (let e : n ≡ n + 0 = omega arith in e)
  trees_go no_proof rules (k ∷ ks) cs ls n h = absurd h
  trees_go (proof t ts) rules [] cs ls n h = absurd h
  trees_go (proof t ts) rules (k ∷ ks) cs ls n h =
      let e = length-append (preorder t) (preorders ts) in
      ap (λ (x : List Step). first_bad_from rules (k ∷ (ks ++ cs)) x n) (append_assoc (preorder t) (preorders ts) ls)
      ∙ tree_goes t rules k (ks ++ cs) (preorders ts ++ ls) n h.0
      ∙ trees_go ts rules ks cs ls (n + length (preorder t)) h.1
      ∙ ap (λ (m : ℕ). first_bad_from rules cs ls m) (let f : n + length (preorder t) + length (preorders ts) ≡ n + length (preorder t ++ preorders ts) = omega arith in f)

-- the walk over these lines leaves some contexts and goes on behind them
record Goes (rules : Rules) (cs : List Context) (before ls : List Step) (n : ℕ) : Type 0 where
  left : List Context
  same : first_bad_from rules cs (before ++ ls) n ≡ first_bad_from rules left ls (n + length before)

row_goes : (ts : Proofs) (b : Begun) (rules : Rules) (ks cs : List Context) (ls : List Step) (n : ℕ) →
    ((k : Context) (ds : List Context) (m : ℕ) → Begins b rules k → Goes rules (k ∷ ds) (lines_of b) ls m) → BeginAll ts b rules ks → Goes rules (ks ++ cs) (preorders ts ++ lines_of b) ls n
row_goes no_proof b rules [] cs ls n go h =
    subst (λ (x : Begun). Goes rules cs (lines_of x) ls n) (sym h)
    (record { left = cs; same = ap (λ (m : ℕ). first_bad_from rules cs ls m) (let e : n ≡ n + 0 = omega arith in e) })
row_goes no_proof b rules (k ∷ ks) cs ls n go h = go k (ks ++ cs) n h
row_goes (proof t ts) b rules [] cs ls n go h = absurd h
row_goes (proof t ts) b rules (k ∷ ks) cs ls n go h =
    let r = row_goes ts b rules ks cs ls (n + length (preorder t)) go h.1 in
    let e = length-append (preorder t) (preorders ts ++ lines_of b) in
    subst (λ (x : List Step). Goes rules (k ∷ (ks ++ cs)) x ls n) (sym (append_assoc (preorder t) (preorders ts) (lines_of b)))
    (record {
      left = r.left;
      same = ap (λ (x : List Step). first_bad_from rules (k ∷ (ks ++ cs)) x n) (append_assoc (preorder t) (preorders ts ++ lines_of b) ls)
          ∙ tree_goes t rules k (ks ++ cs) ((preorders ts ++ lines_of b) ++ ls) n h.0
          ∙ r.same
          ∙ ap (λ (m : ℕ). first_bad_from rules r.left ls m) (let f : n + length (preorder t) + length (preorders ts ++ lines_of b) ≡ n + length (preorder t ++ (preorders ts ++ lines_of b)) = omega arith in f);
    })

begun_goes : (b : Begun) (rules : Rules) (c : Context) (cs : List Context) (ls : List Step) (n : ℕ) → Begins b rules c → Goes rules (c ∷ cs) (lines_of b) ls n
begun_goes nothing rules c cs ls n h = record { left = c ∷ cs; same = ap (λ (m : ℕ). first_bad_from rules (c ∷ cs) ls m) (let e : n ≡ n + 0 = omega arith in e) }
begun_goes (begun l ts b) rules c cs ls n h =
    let r = row_goes ts b rules h.0 cs ls (suc n) (λ k ds m i. begun_goes b rules k ds ls m i) h.2 in
    record {
      left = r.left;
      same = ap (or_bad (bad_line n (rule_of l)) (λ ks. first_bad_from rules (ks ++ cs) ((preorders ts ++ lines_of b) ++ ls) (suc n))) h.1
          ∙ r.same
          ∙ ap (λ (m : ℕ). first_bad_from rules r.left ls m) (let e : suc n + length (preorders ts ++ lines_of b) ≡ n + suc (length (preorders ts ++ lines_of b)) = omega arith in e);
    }

-- ---- where the bad line is, and its rule

or_least : (n : ℕ) (b0 b : BadLine) (go : List Context → Option BadLine) (o : Option (List Context)) → or_bad b0 go o ≡ Some b → n ≤ b0.line → ((ks : List Context) → go ks ≡ Some b → n ≤ b.line) → n ≤ b.line
or_least n b0 b go None e l f = let q : b0 ≡ b = cc in subst (λ (x : BadLine). n ≤ x.line) q l
or_least n b0 b go (Some ks) e l f = f ks e

-- it is not before the first line that is read
not_before : (rules : Rules) (ls : List Step) (cs : List Context) (n : ℕ) (b : BadLine) → first_bad_from rules cs ls n ≡ Some b → n ≤ b.line
not_before rules [] [] n b e = absurd (cc)
not_before rules [] (c ∷ cs) n b e = let q : bad_line n Form ≡ b = cc in subst (λ (x : BadLine). n ≤ x.line) q (omega arith)
not_before rules (l ∷ ls) [] n b e = let q : bad_line n Form ≡ b = cc in subst (λ (x : BadLine). n ≤ x.line) q (omega arith)
not_before rules (l ∷ ls) (c ∷ cs) n b e =
    or_least n (bad_line n (rule_of l)) b (λ ks. first_bad_from rules (ks ++ cs) ls (suc n)) (rules c l) e (omega arith)
    (λ ks h. let k = not_before rules ls (ks ++ cs) (suc n) b h in omega arith)

or_most : (m : ℕ) (b0 b : BadLine) (go : List Context → Option BadLine) (o : Option (List Context)) → or_bad b0 go o ≡ Some b → b0.line ≤ m → ((ks : List Context) → go ks ≡ Some b → b.line ≤ m) → b.line ≤ m
or_most m b0 b go None e l f = let q : b0 ≡ b = cc in subst (λ (x : BadLine). x.line ≤ m) q l
or_most m b0 b go (Some ks) e l f = f ks e

-- it is one of the lines, or the one behind the last
pub bad_within : (rules : Rules) (ls : List Step) (cs : List Context) (n : ℕ) (b : BadLine) → first_bad_from rules cs ls n ≡ Some b → b.line ≤ n + length ls
bad_within rules [] [] n b e = absurd (cc)
bad_within rules [] (c ∷ cs) n b e = let q : bad_line n Form ≡ b = cc in subst (λ (x : BadLine). x.line ≤ n + 0) q (omega arith)
bad_within rules (l ∷ ls) [] n b e = let q : bad_line n Form ≡ b = cc in subst (λ (x : BadLine). x.line ≤ n + length (l ∷ ls)) q (omega arith)
bad_within rules (l ∷ ls) (c ∷ cs) n b e =
    or_most (n + length (l ∷ ls)) (bad_line n (rule_of l)) b (λ ks. first_bad_from rules (ks ++ cs) ls (suc n)) (rules c l) e (omega arith)
    (λ ks h. let k = bad_within rules ls (ks ++ cs) (suc n) b h in omega arith)

taken_all : (ls : List Step) (m : ℕ) → take m ls ++ drop m ls ≡ ls
taken_all ls zero = refl
taken_all [] (suc m) = refl
taken_all (l ∷ ls) (suc m) = ap (λ (x : List Step). l ∷ x) (taken_all ls m)

taken_length : (ls : List Step) (m : ℕ) → m ≤ length ls → length (take m ls) ≡ m
taken_length ls zero h = refl
taken_length [] (suc m) h = absurd (omega arith)
taken_length (l ∷ ls) (suc m) h = ap suc (taken_length ls m (omega arith))

-- no tree begins with the lines up to the bad one
none_begins : (rules : Rules) (c : Context) (ls : List Step) (b : BadLine) → first_bad_from rules (c ∷ []) ls 0 ≡ Some b → b.line < length ls → ¬ CanBegin rules c (take (b.line + 1) ls)
none_begins rules c ls b e l k =
    let g = begun_goes k.tree rules c [] (drop (b.line + 1) ls) 0 k.begins in
    let whole : lines_of k.tree ++ drop (b.line + 1) ls ≡ ls = ap (λ (x : List Step). x ++ drop (b.line + 1) ls) k.lines ∙ taken_all ls (b.line + 1) in
    let same = sym g.same ∙ ap (λ (x : List Step). first_bad_from rules (c ∷ []) x 0) whole ∙ e in
    let many : length (lines_of k.tree) ≡ b.line + 1 = ap length k.lines ∙ taken_length ls (b.line + 1) (omega arith) in
    let late = not_before rules (drop (b.line + 1) ls) g.left (0 + length (lines_of k.tree)) b same in
    omega arith

-- the rule of the bad line, which is the m-th from here
record Ruled (rules : Rules) (cs : List Context) (ls : List Step) (n m : ℕ) (b : BadLine) : Type 0 where
  surplus : first_bad_from rules cs (take m ls) n ≡ None → b.rule ≡ Form
  broken : (l : Step) → slice_get ls m ≡ Some l → ¬ (first_bad_from rules cs (take m ls) n ≡ None) → b.rule ≡ rule_of l

same_line : (l k : Step) → Some l ≡ Some k → l ≡ k
same_line l k e = cc

rule_here : (n m : ℕ) (l : Step) (b : BadLine) (go : List Context → Option BadLine) (o : Option (List Context)) → or_bad (bad_line n (rule_of l)) go o ≡ Some b → b.line ≡ n → ((ks : List Context) → go ks ≡ Some b → suc n ≤ b.line) → b.rule ≡ rule_of l
rule_here n m l b go None e q f = let h : bad_line n (rule_of l) ≡ b = cc in sym (ap (λ (x : BadLine). x.rule) h)
rule_here n m l b go (Some ks) e q f = absurd (let h = f ks e in omega arith)

last_rule : (n m : ℕ) (l : Step) (b : BadLine) (go : List Context → Option BadLine) (o : Option (List Context)) → or_bad (bad_line n (rule_of l)) go o ≡ Some b → b.line ≡ n + suc m → ((ks : List Context) → go ks ≡ Some b → b.rule ≡ Form) → b.rule ≡ Form
last_rule n m l b go None e q f = absurd (let h : bad_line n (rule_of l) ≡ b = cc in let g = ap (λ (x : BadLine). x.line) h in omega arith)
last_rule n m l b go (Some ks) e q f = f ks e

-- behind the last line it is a missing one
rule_behind : (rules : Rules) (ls : List Step) (cs : List Context) (n : ℕ) (b : BadLine) → first_bad_from rules cs ls n ≡ Some b → b.line ≡ n + length ls → b.rule ≡ Form
rule_behind rules [] [] n b e q = absurd (cc)
rule_behind rules [] (c ∷ cs) n b e q = let h : bad_line n Form ≡ b = cc in sym (ap (λ (x : BadLine). x.rule) h)
rule_behind rules (l ∷ ls) [] n b e q = absurd (let h : bad_line n Form ≡ b = cc in let g = ap (λ (x : BadLine). x.line) h in omega arith)
rule_behind rules (l ∷ ls) (c ∷ cs) n b e q =
    last_rule n (length ls) l b (λ ks. first_bad_from rules (ks ++ cs) ls (suc n)) (rules c l) e q
    (λ ks f. rule_behind rules ls (ks ++ cs) (suc n) b f (omega arith))

ruled_on : (rules : Rules) (c : Context) (cs : List Context) (l : Step) (ls : List Step) (n m : ℕ) (b : BadLine) (o : Option (List Context)) → rules c l ≡ o →
    or_bad (bad_line n (rule_of l)) (λ ks. first_bad_from rules (ks ++ cs) ls (suc n)) o ≡ Some b → b.line ≡ n + suc m →
    ((ks : List Context) → first_bad_from rules (ks ++ cs) ls (suc n) ≡ Some b → Ruled rules (ks ++ cs) ls (suc n) m b) → Ruled rules (c ∷ cs) (l ∷ ls) n (suc m) b
ruled_on rules c cs l ls n m b None r e q k = absurd (let h : bad_line n (rule_of l) ≡ b = cc in let g = ap (λ (x : BadLine). x.line) h in omega arith)
ruled_on rules c cs l ls n m b (Some ks) r e q k =
    let x = k ks e in
    let same = ap (or_bad (bad_line n (rule_of l)) (λ js. first_bad_from rules (js ++ cs) (take m ls) (suc n))) r in
    record { surplus = λ f. x.surplus (sym same ∙ f); broken = λ j g f. x.broken j g (λ h. f (same ∙ h)) }

ruled : (rules : Rules) (ls : List Step) (cs : List Context) (n m : ℕ) (b : BadLine) → first_bad_from rules cs ls n ≡ Some b → b.line ≡ n + m → m < length ls → Ruled rules cs ls n m b
ruled rules [] cs n m b e q h = absurd (omega arith)
ruled rules (l ∷ ls) [] n zero b e q h =
    let f : bad_line n Form ≡ b = cc in
    record { surplus = λ g. sym (ap (λ (x : BadLine). x.rule) f); broken = λ k g i. absurd (i refl) }
ruled rules (l ∷ ls) [] n (suc m) b e q h = absurd (let f : bad_line n Form ≡ b = cc in let g = ap (λ (x : BadLine). x.line) f in omega arith)
ruled rules (l ∷ ls) (c ∷ cs) n zero b e q h =
    record {
      surplus = λ f. absurd (cc);
      broken = λ k g f. rule_here n 0 l b (λ ks. first_bad_from rules (ks ++ cs) ls (suc n)) (rules c l) e (omega arith) (λ ks i. not_before rules ls (ks ++ cs) (suc n) b i) ∙ ap rule_of (same_line l k g);
    }
ruled rules (l ∷ ls) (c ∷ cs) n (suc m) b e q h =
    ruled_on rules c cs l ls n m b (rules c l) refl e q (λ ks f. ruled rules ls (ks ++ cs) (suc n) m b f (omega arith) (omega arith))

-- ---- the law

got_below : (ls : List Step) (m : ℕ) (l : Step) → slice_get ls m ≡ Some l → m < length ls
got_below [] m l e = absurd (cc)
got_below (k ∷ ls) zero l e = omega arith
got_below (k ∷ ls) (suc m) l e = let h = got_below ls m l e in omega arith

none_found : (o : Option BadLine) (b : BadLine) → o ≡ Some b → o ≡ None → ⊥
none_found (Some a) b e f = cc
none_found None b e f = cc

pub first_bad_is : (s : Sort) (P : Problem) (S : Skeleton) (all : List Step) (b : BadLine) → first_bad s P S all ≡ Some b → IsFirstBad s P S all b
first_bad_is s P S all b e =
    let row = row_of (apply s (system s P S)) (open_context ∷ []) all 0 b.line b e (omega arith) in
    let few = bad_within (apply s (system s P S)) all (open_context ∷ []) 0 b e in
    record {
      within = omega arith;
      before = row_begins (apply s (system s P S)) open_context (take b.line all) row.wholes row.last row.fits row.lines;
      stuck = λ h. none_begins (apply s (system s P S)) open_context all b e h;
      missing = λ h. (λ r. none_found (first_bad s P S all) b e (refutes_passes s P S all r), rule_behind (apply s (system s P S)) all (open_context ∷ []) 0 b e (omega (arith, h)));
      surplus = λ h r. (ruled (apply s (system s P S)) all (open_context ∷ []) 0 b.line b e (omega arith) h).surplus (refutes_passes s P S (take b.line all) r);
      broken = λ l g f. (ruled (apply s (system s P S)) all (open_context ∷ []) 0 b.line b e (omega arith) (got_below all b.line l g)).broken l g (λ h. f (passes_refutes s P S (take b.line all) h));
    }

-- the same of the fault that a call answers
abbrev pub faulted : BadLine → Result (Unit {0}) (Short BadLine)
faulted b = Err (short.Fault b)

pub first_of_fault : (s : Sort) (P : Problem) (S : Skeleton) (all : List Step) (a b : BadLine) → first_bad s P S all ≡ Some a → faulted a ≡ faulted b → IsFirstBad s P S all b
first_of_fault s P S all a b e f = let h : a ≡ b = cc in subst (λ (x : BadLine). IsFirstBad s P S all x) h (first_bad_is s P S all a e)
