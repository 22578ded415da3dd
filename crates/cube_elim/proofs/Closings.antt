-- Lines that close the bare context of a cube.
use Rattle.std.specs.Prelude.{ℕ, zero, suc, ◌+◌, ◌<◌, ◌≤◌, ◌≡◌, ℤ, Bool, true, false, ◌&&◌, nat_lt, nat_le, nat_eq, is_none, Option, Some, None, option_and_then, option_map, slice_get, List, [], ◌∷◌, ◌++◌, map, length, get_or, take}
use Rattle.std.specs.List.{AllByRecursion}
use Rattle.std.proofs.Common.{arith, ap, ap₂, ◌∙◌, sym, subst, refl, append-nil}
use Rattle.std.proofs.lemmas.Bool.{le-leb, lt-ltb, eq-eqb}
use Rattle.std.proofs.lemmas.List.{take_more, take_all, get_or_default}
use Rattle.lin_term.specs.Form.{cap}
use Rattle.lin_term.specs.declared.Sort.{Sort}
use Rattle.lin_term.specs.declared.Sort.TheVariants.{Int}
use Rattle.lin_term.specs.declared.Lit.{Lit}
use Rattle.lin_term.specs.Truth.{truth_of}
use Rattle.lin_term.specs.Wide.{first_past}
use Rattle.dom_core.specs.Game.{lit}
use Rattle.dom_core.specs.Cube.{IsCube}
use Rattle.dom_core.specs.Elimination.{cooper, elimination_numbers}
use Rattle.dom_core.proofs.AddingLemmas.{append_assoc}
use Rattle.dom_core.proofs.Reducing.{all_taken}
use Rattle.cube_rules.specs.declared.Step.{Step}
use Rattle.cube_rules.specs.declared.Step.TheVariants.{Least, False}
use Rattle.cube_rules.specs.Context.{Context, cube_context}
use Rattle.cube_rules.specs.Closing.{Proof, line, Proofs, no_proof, proof, preorder, preorders, Rules, Closes, CloseAll}
use Rattle.cube_rules.specs.Facts.{guard, literal_of, all_literals}
use Rattle.cube_rules.specs.Lines.{is_false, false_line, is_least, least_cases}
use Rattle.cube_rules.specs.Bare.{bare_rules, ClosesBare}
use Rattle.cube_rules.proofs.Lifting.{closes_too, bare_more}
use Rattle.cube_elim.specs.Determined.{determined}
use Rattle.cube_elim.specs.Searching.{AddsProof}
use Rattle.cube_elim.proofs.SoundPoints.{closed_none}

pub guarded : {A : Type 0} (b : Bool) (o : Option A) → b ≡ true → guard b o ≡ o
guarded true o e = refl
guarded false o e = absurd (cc)

pub true_and : (a b : Bool) → a ≡ true → b ≡ true → (a && b) ≡ true
true_and true b e f = f
true_and false b e f = absurd (cc)

-- ---- a false literal

pub lit_there : (c : List Lit) (i : ℕ) (l : Lit) → i < length c → l ≡ get_or c i l → option_and_then literal_of (slice_get (map lit c) i) ≡ Some l
lit_there [] i l h e = absurd (omega arith)
lit_there (k ∷ c) zero l h e = ap Some (sym e)
lit_there (k ∷ c) (suc i) l h e = lit_there c i l (omega arith) e

pub false_closes : (s : Sort) (n : ℕ) (c : List Lit) (i : ℕ) (l : Lit) → i < length c → l ≡ get_or c i l → is_false (truth_of l) ≡ true → ClosesBare s n c (False i ∷ [])
false_closes s n c i l h e f =
    record {
      tree = line (False i) no_proof;
      lines = refl;
      closes = ([], ap (λ (o : Option Lit). option_and_then false_line o) (lit_there c i l h e) ∙ guarded (is_false (truth_of l)) (Some []) f, tt);
    }

-- ---- a line that takes out a variable

own_literals : (c : List Lit) → all_literals (map lit c) ≡ Some c
own_literals [] = refl
own_literals (l ∷ c) = ap (λ (o : Option (List Lit)). option_map (λ ls. l ∷ ls) o) (own_literals c)

pub none_is : (o : Option ℤ) → o ≡ None → is_none o ≡ true
none_is None e = refl
none_is (Some z) e = absurd (cc)

least_applies : (x n k : ℕ) (c : List Lit) → x < n → k ≤ cap → k ≡ length (cooper c x) → first_past (elimination_numbers Int c x) ≡ None → bare_rules Int n (cube_context c) (Least x k) ≡ Some (map cube_context (cooper c x))
least_applies x n k c h kept count fits =
    guarded (nat_le k cap) (guard (nat_lt x n) (option_and_then (least_cases x k) (all_literals (map lit c)))) (le-leb k cap kept)
    ∙ guarded (nat_lt x n) (option_and_then (least_cases x k) (all_literals (map lit c))) (lt-ltb x n h)
    ∙ ap (λ (o : Option (List Lit)). option_and_then (least_cases x k) o) (own_literals c)
    ∙ guarded (is_least x k c) (Some (map cube_context (cooper c x)))
    (true_and (nat_eq (length (cooper c x)) k) (is_none (first_past (elimination_numbers Int c x))) (eq-eqb (length (cooper c x)) k (sym count)) (none_is (first_past (elimination_numbers Int c x)) fits))

-- ---- subproofs in a row

abbrev appended : Proofs → Proof → Proofs
appended no_proof t = proof t no_proof
appended (proof u us) t = proof u (appended us t)

lines_appended : (ts : Proofs) (t : Proof) → preorders (appended ts t) ≡ preorders ts ++ preorder t
lines_appended no_proof t = append-nil (preorder t)
lines_appended (proof u us) t =
    ap (λ (ls : List Step). preorder u ++ ls) (lines_appended us t) ∙ sym (append_assoc (preorder u) (preorders us) (preorder t))

closes_appended : (ts : Proofs) (t : Proof) (rules : Rules) (ks : List Context) (k : Context) → CloseAll ts rules ks → Closes t rules k → CloseAll (appended ts t) rules (ks ++ k ∷ [])
closes_appended no_proof t rules [] k a b = (b, tt)
closes_appended no_proof t rules (j ∷ ks) k a b = absurd a
closes_appended (proof u us) t rules [] k a b = absurd a
closes_appended (proof u us) t rules (j ∷ ks) k a b = (a.0, closes_appended us t rules ks k a.1 b)

-- a line was added, and then subproofs of the first i cases; none of these has a point
pub record Refuting (x : ℕ) (head : Step) (cs : List (List Lit)) (i : ℕ) (old now : List Step) : Type 0 where
  pub made : List Step
  pub added : now ≡ old ++ head ∷ made
  pub proofs : Proofs
  pub lines : preorders proofs ≡ made
  pub closes : CloseAll proofs (bare_rules Int (suc x)) (map cube_context (take i cs))
  pub none : AllByRecursion (λ c. determined x Int c ≡ None) (take i cs)

pub refuting_none : (x : ℕ) (head : Step) (cs : List (List Lit)) (old now : List Step) → now ≡ old ++ head ∷ [] → Refuting x head cs 0 old now
refuting_none x head cs old now e = record { made = []; added = e; proofs = no_proof; lines = refl; closes = tt; none = tt }

map-push : (cs : List (List Lit)) (c : List Lit) → map cube_context (cs ++ c ∷ []) ≡ map cube_context cs ++ cube_context c ∷ []
map-push [] c = refl
map-push (d ∷ cs) c = ap (λ (ks : List Context). cube_context d ∷ ks) (map-push cs c)

pub refuting_more : (x : ℕ) (head : Step) (cs : List (List Lit)) (i : ℕ) (c : List Lit) (old now new : List Step) → i < length cs → c ≡ get_or cs i [] → IsCube Int c → Refuting x head cs i old now → AddsProof x c now new → Refuting x head cs (i + 1) old new
refuting_more x head cs i c old now new h e o r a =
    let t = a.closes.tree in
    let q : c ≡ get_or cs i c = e ∙ get_or_default cs i [] c h in
    let lifted = closes_too t (bare_rules Int x) (bare_rules Int (suc x)) (bare_more Int x (suc x) (omega arith)) (cube_context c) a.closes.closes in
    let taken : take (i + 1) cs ≡ take i cs ++ c ∷ [] = take_more cs i [] h ∙ ap (λ (d : List Lit). take i cs ++ d ∷ []) (sym e) in
    record {
      made = r.made ++ a.made;
      added = a.added ∙ ap (λ (us : List Step). us ++ a.made) r.added ∙ append_assoc old (head ∷ r.made) a.made;
      proofs = appended r.proofs t;
      lines = lines_appended r.proofs t ∙ ap₂ (λ (us vs : List Step). us ++ vs) r.lines a.closes.lines;
      closes = subst (λ (ks : List Context). CloseAll (appended r.proofs t) (bare_rules Int (suc x)) ks) (sym (ap (map cube_context) taken ∙ map-push (take i cs) c))
          (closes_appended r.proofs t (bare_rules Int (suc x)) (map cube_context (take i cs)) (cube_context c) r.closes lifted);
      none = all_taken (λ d. determined x Int d ≡ None) cs i c h q r.none (closed_none x x c a.made o a.closes);
    }

pub refuting_done : (x k : ℕ) (c : List Lit) (i : ℕ) (old now : List Step) → k ≤ cap → k ≡ length (cooper c x) → first_past (elimination_numbers Int c x) ≡ None → length (cooper c x) ≤ i → Refuting x (Least x k) (cooper c x) i old now → AddsProof (suc x) c old now
refuting_done x k c i old now kept count fits h r =
    record {
      made = Least x k ∷ r.made;
      added = r.added;
      closes = record {
        tree = line (Least x k) r.proofs;
        lines = ap (λ (us : List Step). Least x k ∷ us) r.lines;
        closes = (
          map cube_context (cooper c x),
          least_applies x (suc x) k c (omega arith) kept count fits,
          subst (λ (cs : List (List Lit)). CloseAll r.proofs (bare_rules Int (suc x)) (map cube_context cs)) (take_all i (cooper c x) h) r.closes,
        );
      };
    }
