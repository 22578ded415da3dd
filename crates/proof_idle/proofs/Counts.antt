-- Each line that meets its rule leaves as many contexts as it says, so a line of a refutation has as many subproofs.
use Rattle.std.specs.Prelude.{ℕ, suc, ◌≡◌, nat_eq, nat_lt, ◌&&◌, not, is_none, Some, option_map, option_and_then, slice_get, List, [], ◌∷◌, ◌++◌, map, length}
use Rattle.std.proofs.Common.{ap, ◌∙◌, sym, refl}
use Rattle.std.proofs.lemmas.Bool.{and_parts, eqb-true}
use Rattle.lin_term.specs.declared.Sort.{Sort}
use Rattle.lin_term.specs.declared.Sort.TheVariants.{Int}
use Rattle.lin_term.specs.declared.Lit.{Lit}
use Rattle.lin_term.specs.Literal.{prim, neg}
use Rattle.lin_term.specs.Sum.{sum_of}
use Rattle.lin_term.specs.Truth.{truth_of}
use Rattle.lin_term.specs.Wide.{first_past}
use Rattle.dom_core.specs.Game.{Matrix, lit, Matrices, none, more}
use Rattle.dom_core.specs.Elimination.{eliminated, elimination_numbers}
use Rattle.lose_system.specs.Losing.{System, literal_number, definition_at}
use Rattle.cube_rules.specs.declared.Step.{Step}
use Rattle.cube_rules.specs.declared.Step.TheVariants.{Path, Def, Part, Cases, Sum, Split, Cube, Least, Learn, False}
use Rattle.cube_rules.specs.Context.{Context, with_fact, cube_context}
use Rattle.cube_rules.specs.Facts.{count, and_child, or_children, literal_at, literals_at, all_literals}
use Rattle.cube_rules.specs.Limits.{is_within}
use Rattle.cube_rules.specs.Lines.{parts, goes_on, each_child, cases_line, is_sum, sum_line, is_split, is_learn, either_of, is_int, is_least, least_cases, is_false, false_line}
use Rattle.cube_rules.specs.Closing.{Proof, line, Proofs, no_proof, proof, Closes, CloseAll}
use Rattle.cube_rules.proofs.Sound.{guard_some, map_some, then_some, some_same}
use Rattle.proof_rules.specs.Rules.{rule_line, apply}
use Rattle.proof_idle.proofs.Walking.{parts_of, Fits, FitAll}

-- ---- as many contexts as the line says

children_count : (c : Context) (ms : Matrices) → length (each_child c ms) ≡ count ms
children_count c none = refl
children_count c (more m ms) = ap suc (children_count c ms)

cubes_count : (cs : List (List Lit)) → length (map cube_context cs) ≡ length cs
cubes_count [] = refl
cubes_count (c ∷ cs) = ap suc (cubes_count cs)

one_count : (c : Context) (m : Matrix) (ks : List Context) → goes_on c m ≡ ks → length ks ≡ 1
one_count c m ks e = sym (ap length e)

cases_count : (c : Context) (n : ℕ) (ms : Matrices) (ks : List Context) → cases_line c n ms ≡ Some ks → length ks ≡ n
cases_count c n ms ks e =
    let g = guard_some (nat_eq (count ms) n) (Some (each_child c ms)) ks e in
    sym (ap length (some_same (each_child c ms) ks g.1)) ∙ children_count c ms ∙ eqb-true (count ms) n g.0

least_count : (v n : ℕ) (c : List Lit) (ks : List Context) → least_cases v n c ≡ Some ks → length ks ≡ n
least_count v n c ks e =
    let g = guard_some (is_least v n c) (Some (map cube_context (eliminated Int c v))) ks e in
    let a = and_parts (nat_eq (length (eliminated Int c v)) n) (is_none (first_past (elimination_numbers Int c v))) g.0 in
    sym (ap length (some_same (map cube_context (eliminated Int c v)) ks g.1)) ∙ cubes_count (eliminated Int c v) ∙ eqb-true (length (eliminated Int c v)) n a.0

rule_count : (s : Sort) (sys : System) (c : Context) (l : Step) (ks : List Context) → rule_line s sys c l ≡ Some ks → length ks ≡ parts l
rule_count s sys c (Path k) ks e =
    let g = guard_some (not c.bare) (option_map (goes_on c) (slice_get sys.paths k)) ks e in
    let m = map_some (goes_on c) (slice_get sys.paths k) ks g.1 in
    one_count c m.0 ks m.2
rule_count s sys c (Def v i) ks e =
    let o = option_and_then (literal_number i) (definition_at sys.defs v) in
    let g = guard_some (not c.bare) (option_map (λ l. goes_on c (lit l)) o) ks e in
    let m = map_some (λ l. goes_on c (lit l)) o ks g.1 in
    one_count c (lit m.0) ks m.2
rule_count s sys c (Part f i) ks e =
    let m = map_some (goes_on c) (option_and_then (and_child i) (slice_get c.facts f)) ks e in
    one_count c m.0 ks m.2
rule_count s sys c (Cases f n) ks e =
    let t = then_some (cases_line c n) (option_and_then or_children (slice_get c.facts f)) ks e in
    cases_count c n t.0 ks t.2
rule_count s sys c (Sum p f q h g) ks e =
    let t = then_some (λ a. option_and_then (λ b. sum_line s c p a q b g) (literal_at c h)) (literal_at c f) ks e in
    let u = then_some (λ b. sum_line s c p t.0 q b g) (literal_at c h) ks t.2 in
    let x = guard_some (is_sum s p t.0 q u.0 g) (Some (goes_on c (lit (prim s (sum_of p t.0 q u.0))))) ks u.2 in
    one_count c (lit (prim s (sum_of p t.0 q u.0))) ks (some_same (goes_on c (lit (prim s (sum_of p t.0 q u.0)))) ks x.1)
rule_count s sys c (Split l) ks e =
    let both : List Context = with_fact c (lit l) ∷ with_fact c (lit (neg s l)) ∷ [] in
    let g = guard_some (is_split s sys.count l) (Some both) ks e in
    sym (ap length (some_same both ks g.1))
rule_count s sys c (Cube []) ks e = absurd (cc)
rule_count s sys c (Cube (f ∷ fs)) ks e =
    let m = map_some (λ ls. cube_context ls ∷ []) (literals_at c (f ∷ fs)) ks e in
    sym (ap length m.2)
rule_count s sys c (Least v n) ks e =
    let g = guard_some (is_int s && c.bare && nat_lt v sys.count) (option_and_then (least_cases v n) (all_literals c.facts)) ks e in
    let t = then_some (least_cases v n) (all_literals c.facts) ks g.1 in
    least_count v n t.0 ks t.2
rule_count s sys c (Learn ls) ks e =
    let both : List Context = record c { facts = c.facts ++ map lit (map (neg s) ls) } ∷ with_fact c (either_of ls) ∷ [] in
    let g = guard_some (not c.bare && is_learn s sys.count ls) (Some both) ks e in
    sym (ap length (some_same both ks g.1))
rule_count s sys c (False f) ks e =
    let t = then_some false_line (literal_at c f) ks e in
    let g = guard_some (is_false (truth_of t.0)) (Some []) ks t.2 in
    sym (ap length (some_same [] ks g.1))

-- ---- whole proofs

mutual
  -- what closes has as many subproofs as its lines say
  pub fits : (t : Proof) (s : Sort) (sys : System) (c : Context) → Closes t (apply s sys) c → Fits t
  fits (line l ts) s sys c h =
      let g = guard_some (is_within l) (rule_line s sys c l) h.0 h.1 in
      let k = rule_count s sys c l h.0 g.1 in
      let a = all_fit ts s sys h.0 h.2 in
      (a.0 ∙ k, a.1)

  all_fit : (ts : Proofs) (s : Sort) (sys : System) (ks : List Context) → CloseAll ts (apply s sys) ks → (parts_of ts ≡ length ks) × FitAll ts
  all_fit no_proof s sys [] h = (refl, tt)
  all_fit no_proof s sys (k ∷ ks) h = absurd h
  all_fit (proof t ts) s sys [] h = absurd h
  all_fit (proof t ts) s sys (k ∷ ks) h = let a = all_fit ts s sys ks h.1 in (ap suc a.0, (fits t s sys k h.0, a.1))
