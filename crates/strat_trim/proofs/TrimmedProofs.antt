-- The refutation of the trimmed system, and that a file can hold it.
use Rattle.std.specs.Prelude.{ℕ, zero, suc, ◌+◌, ◌^◌, ◌<◌, ◌≤◌, ◌≡◌, Bool, true, false, IsTrue, not, ◌&&◌, ◌||◌, cond, eqb, nat_eq, nat_lt, nat_le, is_none, Some, option_and_then, option_map, slice_get, List, [], ◌∷◌, ◌++◌, map, get_or, length}
use Rattle.std.specs.List.{list_any, list_all, flat_map, AllByRecursion}
use Rattle.std.proofs.Common.{arith, ap, ◌∙◌, sym, subst, refl, eq-eqb}
use Rattle.std.proofs.lemmas.Bool.{and_parts, ltb-true, eqb-true, false≢true}
use Rattle.std.proofs.lemmas.List.{length-map}
use Rattle.lin_term.specs.Linear.{BelowTerms, Below}
use Rattle.lin_term.specs.PutIn.{occurs}
use Rattle.lin_term.specs.Rising.{IsRisingAt}
use Rattle.lin_term.specs.declared.Sort.{Sort}
use Rattle.lin_term.specs.declared.Lit.{Lit}
use Rattle.lin_term.specs.declared.Lit.TheVariants.{AtLeast, Above, Divides, NotDivides}
use Rattle.lin_term.specs.Literal.{form_of, rename_lit, neg}
use Rattle.lin_term.specs.Wide.{first_past, lit_numbers}
use Rattle.lin_term.proofs.AtNames.{renamed_row_at}
use Rattle.dom_core.specs.Game.{lit, neg_matrix, rename_matrix, IsMatrix, Problem}
use Rattle.game_tree.specs.Skeleton.{Skeleton, nodes, paths, Follows, node_limit}
use Rattle.lose_system.specs.Losing.{definitions, routes, system, literal_number, definition_at}
use Rattle.lose_system.specs.Table.{places, definition_of}
use Rattle.lose_system.proofs.Filling.{length-places}
use Rattle.lose_system.proofs.Found.{all_definitions}
use Rattle.cube_rules.specs.declared.Step.{Step}
use Rattle.cube_rules.specs.declared.Step.TheVariants.{Path, Def, Part, Cases, Sum, Split, Cube, Least, Learn, False}
use Rattle.cube_rules.specs.Context.{open_context}
use Rattle.cube_rules.specs.Facts.{is_primitive, all_below, all_literals}
use Rattle.cube_rules.specs.Limits.{is_within, IsIndex, IsLiteral, IsStep}
use Rattle.cube_rules.specs.Lines.{goes_on, is_int, is_split, is_learn, least_cases, parts}
use Rattle.cube_rules.proofs.Sound.{guard_some, map_some, then_some}
use Rattle.proof_rules.specs.Rules.{rule_line, Refutes}
use Rattle.proof_rules.specs.Writable.{AreSteps, ArePreorders, IsWritable}
use Rattle.strat_trim.specs.Renamed.{rename_step, rename_steps}
use Rattle.strat_trim.specs.Trimmed.{variables_of, named_paths, named_nodes, names_path, names_node, has_path, needed, on_path, numbers, marked}
use Rattle.strat_trim.specs.Trim.{trimmed_tree, node_numbers, trimmed_steps}
use Rattle.strat_trim.proofs.RenamedForms.{Within, LitWithin}
use Rattle.strat_trim.proofs.RenamedCases.{CubeWithin, rename_cube}
use Rattle.strat_trim.proofs.RenamedSteps.{StepWithin}
use Rattle.strat_trim.proofs.RenamedProofs.{Names, rename_proof, preorder_renamed, proof_within, closes_renamed}
use Rattle.strat_trim.proofs.PrunedPaths.{length_routes, fewer_nodes}
use Rattle.strat_trim.proofs.PrunedNodes.{agree_all, length-numbers, numbers_fewer, marked_inside}
use Rattle.strat_trim.proofs.TrimmedSystem.{IsChosen, IsOn, nodes_rise, nodes_below, system_renamed}
use Rattle.strat_trim.proofs.Needed.{path_stays, node_stays, needed_over, needed_some}

-- ---- what a line that is taken names is in the system

get_inside : {A : Type 0} (xs : List A) (i : ℕ) (x : A) → slice_get xs i ≡ Some x → i < length xs
get_inside [] i x e = absurd (cc)
get_inside (y ∷ xs) zero x e = omega arith
get_inside (y ∷ xs) (suc i) x e = let h = get_inside xs i x e in omega arith

or_one : (a b : Bool) → a ≡ true → (a || b) ≡ true
or_one a b e = ap (λ (x : Bool). x || b) e

or_other : (a b : Bool) → b ≡ true → (a || b) ≡ true
or_other true b e = refl
or_other false b e = e

named_here : (j : ℕ) (js : List ℕ) → list_any (nat_eq j) (j ∷ js) ≡ true
named_here j js = or_one (nat_eq j j) (list_any (nat_eq j) js) (eq-eqb j j refl)

named_append : (j : ℕ) (is js : List ℕ) → list_any (nat_eq j) is ≡ true → list_any (nat_eq j) (is ++ js) ≡ true
named_append j [] js e = absurd (cc)
named_append j (i ∷ is) js e = by (nat_eq j i) refl (named_append j is js)
  where
    by : (b : Bool) → nat_eq j i ≡ b → (list_any (nat_eq j) is ≡ true → list_any (nat_eq j) (is ++ js) ≡ true) → (nat_eq j i || list_any (nat_eq j) (is ++ js)) ≡ true
    by true q f = or_one (nat_eq j i) (list_any (nat_eq j) (is ++ js)) q
    by false q f = or_other (nat_eq j i) (list_any (nat_eq j) (is ++ js)) (f (ap (λ (x : Bool). x || list_any (nat_eq j) is) (sym q) ∙ e))

named_behind : (j : ℕ) (is js : List ℕ) → list_any (nat_eq j) js ≡ true → list_any (nat_eq j) (is ++ js) ≡ true
named_behind j [] js e = e
named_behind j (i ∷ is) js e = or_other (nat_eq j i) (list_any (nat_eq j) (is ++ js)) (named_behind j is js e)

terms_named : (K : ℕ → Type 0) (n : ℕ) (ts : List (ℕ × _)) → all_below n ts ≡ true → ((v : ℕ) → v < n → list_any (nat_eq v) (map (λ t. t.0) ts) ≡ true → K v) → Within K ts
terms_named K n [] e h = tt
terms_named K n (t ∷ ts) e h =
    let a = and_parts (nat_lt t.0 n) (all_below n ts) e in
    (h t.0 (ltb-true t.0 n a.0) (named_here t.0 (map (λ u. u.0) ts)), terms_named K n ts a.1 (λ v l g. h v l (or_other (nat_eq v t.0) (list_any (nat_eq v) (map (λ u. u.0) ts)) g)))

split_named : (K : ℕ → Type 0) (s : Sort) (n : ℕ) (l : Lit) → is_split s n l ≡ true → ((v : ℕ) → v < n → list_any (nat_eq v) (variables_of l) ≡ true → K v) → LitWithin K l
split_named K s n l e h =
    let a = and_parts (is_primitive s l && all_below n (form_of l).terms) (is_none (first_past (lit_numbers (neg s l)))) e in
    let b = and_parts (is_primitive s l) (all_below n (form_of l).terms) a.0 in
    terms_named K n (form_of l).terms b.1 h

all_split_named : (K : ℕ → Type 0) (s : Sort) (n : ℕ) (ls : List Lit) → list_all (is_split s n) ls ≡ true → ((v : ℕ) → v < n → list_any (nat_eq v) (flat_map variables_of ls) ≡ true → K v) → CubeWithin K ls
all_split_named K s n [] e h = tt
all_split_named K s n (l ∷ ls) e h =
    let a = and_parts (is_split s n l) (list_all (is_split s n) ls) e in (
      split_named K s n l a.0 (λ v u g. h v u (named_append v (variables_of l) (flat_map variables_of ls) g)),
      all_split_named K s n ls a.1 (λ v u g. h v u (named_behind v (variables_of l) (flat_map variables_of ls) g)),
    )

definition_inside : (s : Sort) (S : Skeleton) (v : ℕ) (d : _) → definition_at (definitions S s [] 0) v ≡ Some d → v < nodes S
definition_inside s S v d e =
    let t = then_some (definition_of s (places S 0 0 0) v) (slice_get (places S 0 0 0) v) d (sym (all_definitions S s v) ∙ e) in
    let i = get_inside (places S 0 0 0) v t.0 t.1 in
    let l = length-places S 0 0 0 in
    omega arith

-- what is named is kept
line_names : (s : Sort) (P : Problem) (S : Skeleton) (Q K : ℕ → Type 0) (l : Step) → ((k : ℕ) → k < length (paths S) → list_any (nat_eq k) (named_paths l) ≡ true → Q k) → ((v : ℕ) → v < nodes S → list_any (nat_eq v) (named_nodes l) ≡ true → K v) → Names s (system s P S) Q K l
line_names s P S Q K (Path j) q h c ks e =
    let w = guard_some (is_within (Path j)) (rule_line s (system s P S) c (Path j)) ks e in
    let g = guard_some (not c.bare) (option_map (goes_on c) (slice_get (system s P S).paths j)) ks w.1 in
    let m = map_some (goes_on c) (slice_get (system s P S).paths j) ks g.1 in
    let i = get_inside (system s P S).paths j m.0 m.1 in
    let a = length-map (routes S [] 0) (rename_matrix (neg_matrix P.matrix s)) in
    let b = length_routes S [] 0 in
    q j (omega arith) (named_here j [])
line_names s P S Q K (Def u i) q h c ks e =
    let w = guard_some (is_within (Def u i)) (rule_line s (system s P S) c (Def u i)) ks e in
    let o = option_and_then (literal_number i) (definition_at (system s P S).defs u) in
    let g = guard_some (not c.bare) (option_map (λ l. goes_on c (lit l)) o) ks w.1 in
    let m = map_some (λ l. goes_on c (lit l)) o ks g.1 in
    let t = then_some (literal_number i) (definition_at (system s P S).defs u) m.0 m.1 in
    h u (definition_inside s S u t.0 t.1) (named_here u [])
line_names s P S Q K (Part f i) q h c ks e = tt
line_names s P S Q K (Cases f i) q h c ks e = tt
line_names s P S Q K (Sum p f r i g) q h c ks e = tt
line_names s P S Q K (Split l) q h c ks e =
    let w = guard_some (is_within (Split l)) (rule_line s (system s P S) c (Split l)) ks e in
    let g = guard_some (is_split s (nodes S) l) (Some _) ks w.1 in
    split_named K s (nodes S) l g.0 h
line_names s P S Q K (Cube fs) q h c ks e = tt
line_names s P S Q K (Least u i) q h c ks e =
    let w = guard_some (is_within (Least u i)) (rule_line s (system s P S) c (Least u i)) ks e in
    let g = guard_some (is_int s && c.bare && nat_lt u (nodes S)) (option_and_then (least_cases u i) (all_literals c.facts)) ks w.1 in
    let a = and_parts (is_int s && c.bare) (nat_lt u (nodes S)) g.0 in
    h u (ltb-true u (nodes S) a.1) (named_here u [])
line_names s P S Q K (Learn ls) q h c ks e =
    let w = guard_some (is_within (Learn ls)) (rule_line s (system s P S) c (Learn ls)) ks e in
    let g = guard_some (not c.bare && is_learn s (nodes S) ls) (Some _) ks w.1 in
    let a = and_parts (not c.bare) (is_learn s (nodes S) ls) g.0 in
    let b = and_parts (nat_le 1 (length ls)) (list_all (is_split s (nodes S)) ls) a.1 in
    all_split_named K s (nodes S) ls b.1 h
line_names s P S Q K (False f) q h c ks e = tt

-- each line that stands in the first list stands in the second
abbrev Sub : List Step → List Step → Type 0
Sub xs all = (p : Step → Bool) → list_any p xs ≡ true → list_any p all ≡ true

lines_name : (s : Sort) (P : Problem) (S : Skeleton) (Q K : ℕ → Type 0) (xs all : List Step) → Sub xs all → ((k : ℕ) → k < length (paths S) → names_path all k ≡ true → Q k) → ((v : ℕ) → v < nodes S → names_node all v ≡ true → K v) → AllByRecursion (Names s (system s P S) Q K) xs
lines_name s P S Q K [] all i q h = tt
lines_name s P S Q K (l ∷ xs) all i q h = (
  line_names s P S Q K l
      (λ k u g. q k u (i (λ x. list_any (nat_eq k) (named_paths x)) (or_one (list_any (nat_eq k) (named_paths l)) (list_any (λ x. list_any (nat_eq k) (named_paths x)) xs) g)))
      (λ v u g. h v u (i (λ x. list_any (nat_eq v) (named_nodes x)) (or_one (list_any (nat_eq v) (named_nodes l)) (list_any (λ x. list_any (nat_eq v) (named_nodes x)) xs) g))),
  lines_name s P S Q K xs all (λ p g. i p (or_other (p l) (list_any p xs) g)) q h,
)

-- ---- the lines of a refutation

abbrev pub needed_paths : Skeleton → List Step → ℕ → Type 0
needed_paths S steps = IsChosen (needed S steps)

abbrev pub needed_nodes : Skeleton → List Step → ℕ → Type 0
needed_nodes S steps = IsOn S (needed S steps)

pub steps_within : (s : Sort) (P : Problem) (S : Skeleton) (steps : List Step) → Follows S s P.prefix 0 → Refutes s P S steps → AllByRecursion (StepWithin (needed_paths S steps) (needed_nodes S steps)) steps
steps_within s P S steps f r =
    let flags : List Bool = needed S steps in
    let c : ℕ → Bool = marked flags in
    let N : ℕ → Bool = names_node steps in
    let named = lines_name s P S (IsChosen flags) (IsOn S flags) steps steps (λ p g. g)
    (λ k u g. path_stays S (names_path steps) N c 0 0 k (needed_over S steps) (omega arith) (omega arith) g)
    (λ v u g. node_stays S s P.prefix 0 (names_path steps) N c (on_path S c 0) 0 0 v f (agree_all false (on_path S c 0)) (needed_over S steps) (omega arith) (omega arith) g) in
    subst (λ (ls : List Step). AllByRecursion (StepWithin (IsChosen flags) (IsOn S flags)) ls) r.lines
    (proof_within r.tree s (system s P S) (IsChosen flags) (IsOn S flags) open_context (subst (λ (ls : List Step). AllByRecursion (Names s (system s P S) (IsChosen flags) (IsOn S flags)) ls) (sym r.lines) named) r.closes)

pub trimmed_refutes : (s : Sort) (P : Problem) (S : Skeleton) (steps : List Step) → IsMatrix P.matrix s (length P.prefix) → Follows S s P.prefix 0 → Refutes s P S steps → Refutes s P (trimmed_tree S steps) (trimmed_steps S steps)
trimmed_refutes s P S steps o f r =
    let flags : List Bool = needed S steps in
    let n : List ℕ = numbers 0 flags in
    let new : List ℕ = node_numbers S flags in
    record {
      tree = rename_proof r.tree n new;
      lines = preorder_renamed r.tree n new ∙ ap (rename_steps n new) r.lines;
      closes = closes_renamed r.tree s (system s P S) (system s P (trimmed_tree S steps)) n new (IsChosen flags) (IsOn S flags) open_context
          (system_renamed s P S flags o f (needed_some S s P.prefix steps f)) tt
          (subst (λ (ls : List Step). AllByRecursion (StepWithin (IsChosen flags) (IsOn S flags)) ls) (sym r.lines) (steps_within s P S steps f r)) r.closes;
    }

-- ---- a file can hold it

occurs_kept : (K : ℕ → Type 0) (ts : List (ℕ × _)) (i : ℕ) → Within K ts → IsTrue (occurs ts i) → K i
occurs_kept K [] i w h = absurd (false≢true h)
occurs_kept K (t ∷ ts) i w h = by (eqb t.0 i) refl h (λ g. occurs_kept K ts i w.1 g)
  where
    by : (b : Bool) → eqb t.0 i ≡ b → IsTrue (cond b true (occurs ts i)) → (IsTrue (occurs ts i) → K i) → K i
    by true e g f = subst K (eqb-true t.0 i e) w.0
    by false e g f = f g

-- the names ascend where a literal of the proof has a variable
pub literal_rises : (S : Skeleton) (flags : List Bool) (l : Lit) → has_path S (marked flags) 0 ≡ true → nodes S ≤ node_limit → LitWithin (IsOn S flags) l → IsRisingAt (node_numbers S flags) (form_of l).terms (2 ^ 20)
literal_rises S flags l e n w = record {
  ascend = λ i j a b u. let k = nodes_rise S flags in k.ascend i j (occurs_kept (IsOn S flags) (form_of l).terms i w a) (occurs_kept (IsOn S flags) (form_of l).terms j w b) u;
  below = λ i a.
      let b = nodes_below S flags i e (occurs_kept (IsOn S flags) (form_of l).terms i w a) in
      let c = fewer_nodes S (marked flags) 0 in
      omega arith;
}

terms_below : (S : Skeleton) (flags : List Bool) (ts : List (ℕ × _)) → Within (IsOn S flags) ts → BelowTerms (length (node_numbers S flags)) ts
terms_below S flags [] w = tt
terms_below S flags (t ∷ ts) w =
    let i = marked_inside (on_path S (marked flags) 0) t.0 w.0 in
    let l = length-numbers 0 (on_path S (marked flags) 0) in
    (omega arith, terms_below S flags ts w.1)

pub literal_below : (S : Skeleton) (flags : List Bool) (l : Lit) → LitWithin (IsOn S flags) l → Below (length (node_numbers S flags)) (form_of l)
literal_below S flags l w = terms_below S flags (form_of l).terms w

literal_kept : (S : Skeleton) (flags : List Bool) (l : Lit) → has_path S (marked flags) 0 ≡ true → nodes S ≤ node_limit → LitWithin (IsOn S flags) l → IsLiteral l → IsLiteral (rename_lit (node_numbers S flags) l)
literal_kept S flags (AtLeast f) e n w i = renamed_row_at (node_numbers S flags) f (literal_rises S flags (AtLeast f) e n w) i
literal_kept S flags (Above f) e n w i = renamed_row_at (node_numbers S flags) f (literal_rises S flags (Above f) e n w) i
literal_kept S flags (Divides d f) e n w i = (i.0, renamed_row_at (node_numbers S flags) f (literal_rises S flags (Divides d f) e n w) i.1)
literal_kept S flags (NotDivides d f) e n w i = (i.0, renamed_row_at (node_numbers S flags) f (literal_rises S flags (NotDivides d f) e n w) i.1)

literals_kept : (S : Skeleton) (flags : List Bool) (ls : List Lit) → has_path S (marked flags) 0 ≡ true → nodes S ≤ node_limit → CubeWithin (IsOn S flags) ls → AllByRecursion IsLiteral ls → AllByRecursion IsLiteral (rename_cube (node_numbers S flags) ls)
literals_kept S flags [] e n w i = tt
literals_kept S flags (l ∷ ls) e n w i = (literal_kept S flags l e n w.0 i.0, literals_kept S flags ls e n w.1 i.1)

index_kept : (bs : List Bool) (k : ℕ) → IsIndex k → IsIndex (get_or (numbers 0 bs) k 0)
index_kept bs k i = let h = numbers_fewer 0 bs k in omega arith

step_kept : (S : Skeleton) (flags : List Bool) (l : Step) → has_path S (marked flags) 0 ≡ true → nodes S ≤ node_limit → StepWithin (IsChosen flags) (IsOn S flags) l → IsStep l → IsStep (rename_step (numbers 0 flags) (node_numbers S flags) l)
step_kept S flags (Path j) e n w i = index_kept flags j i
step_kept S flags (Def u j) e n w i = (index_kept (on_path S (marked flags) 0) u i.0, i.1)
step_kept S flags (Part f j) e n w i = i
step_kept S flags (Cases f j) e n w i = i
step_kept S flags (Sum p f q h g) e n w i = i
step_kept S flags (Split l) e n w i = literal_kept S flags l e n w i
step_kept S flags (Cube fs) e n w i = i
step_kept S flags (Least u j) e n w i = (index_kept (on_path S (marked flags) 0) u i.0, i.1)
step_kept S flags (Learn ls) e n w i =
    let l = length-map ls (rename_lit (node_numbers S flags)) in let o = i.0 in
    (omega arith, literals_kept S flags ls e n w i.1)
step_kept S flags (False f) e n w i = i

steps_kept : (S : Skeleton) (flags : List Bool) (ls : List Step) → has_path S (marked flags) 0 ≡ true → nodes S ≤ node_limit → AllByRecursion (StepWithin (IsChosen flags) (IsOn S flags)) ls → AreSteps ls → AreSteps (rename_steps (numbers 0 flags) (node_numbers S flags) ls)
steps_kept S flags [] e n w i = tt
steps_kept S flags (l ∷ ls) e n w i = (step_kept S flags l e n w.0 i.0, steps_kept S flags ls e n w.1 i.1)

parts_kept : (n new : List ℕ) (l : Step) → parts (rename_step n new l) ≡ parts l
parts_kept n new (Path j) = refl
parts_kept n new (Def u j) = refl
parts_kept n new (Part f j) = refl
parts_kept n new (Cases f j) = refl
parts_kept n new (Sum p f q h g) = refl
parts_kept n new (Split l) = refl
parts_kept n new (Cube fs) = refl
parts_kept n new (Least u j) = refl
parts_kept n new (Learn ls) = refl
parts_kept n new (False f) = refl

preorders_kept : (n new : List ℕ) (i : ℕ) (ls : List Step) → ArePreorders i ls → ArePreorders i (rename_steps n new ls)
preorders_kept n new zero [] a = tt
preorders_kept n new zero (l ∷ ls) a = absurd a
preorders_kept n new (suc i) [] a = absurd a
preorders_kept n new (suc i) (l ∷ ls) a =
    subst (λ (j : ℕ). ArePreorders (i + j) (rename_steps n new ls)) (sym (parts_kept n new l)) (preorders_kept n new (i + parts l) ls a)

pub trimmed_writable : (s : Sort) (P : Problem) (S : Skeleton) (steps : List Step) → Follows S s P.prefix 0 → nodes S ≤ node_limit → Refutes s P S steps → IsWritable steps → IsWritable (trimmed_steps S steps)
trimmed_writable s P S steps f n r w =
    let flags : List Bool = needed S steps in
    record {
      steps = steps_kept S flags steps (needed_some S s P.prefix steps f) n (steps_within s P S steps f r) w.steps;
      tree = preorders_kept (numbers 0 flags) (node_numbers S flags) 1 steps w.tree;
      count = let l = length-map steps (rename_step (numbers 0 flags) (node_numbers S flags)) in let c = w.count in omega arith;
    }
