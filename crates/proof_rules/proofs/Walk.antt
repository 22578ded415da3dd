-- Lines taken one after the other, and the walk over the flat list.
use Rattle.std.specs.Prelude.{ℕ, suc, ◌≡◌, Option, Some, None, option_map, option_and_then, List, [], ◌∷◌, ◌++◌}
use Rattle.std.proofs.Common.{ap, ◌∙◌, sym, refl}
use Rattle.lin_term.specs.declared.Sort.{Sort}
use Rattle.dom_core.specs.Game.{Problem}
use Rattle.game_tree.specs.Skeleton.{Skeleton}
use Rattle.lose_system.specs.Losing.{system}
use Rattle.cube_rules.specs.declared.Step.{Step}
use Rattle.cube_rules.specs.Context.{Context, open_context}
use Rattle.cube_rules.specs.Lines.{rule_of}
use Rattle.cube_rules.specs.Closing.{Rules}
use Rattle.proof_rules.specs.declared.bad_line.BadLine.{BadLine}
use Rattle.proof_rules.specs.Rules.{apply, Refutes}
use Rattle.proof_rules.specs.Checked.{bad_line, or_bad, first_bad_from}
use Rattle.proof_rules.specs.Stepping.{after_line, after_lines, rule_broken}
use Rattle.proof_rules.proofs.Checking.{passes_refutes}

some_same : {A : Type 0} (x y : A) → Some x ≡ Some y → x ≡ y
some_same x y e = cc

-- the walk goes on behind a line that is taken
pub walk_line : (rules : Rules) (cs new : List Context) (l : Step) (ls : List Step) (n : ℕ) → after_line rules cs l ≡ Some new → first_bad_from rules cs (l ∷ ls) n ≡ first_bad_from rules new ls (suc n)
walk_line rules [] new l ls n e = absurd (cc)
walk_line rules (c ∷ cs) new l ls n e = by (rules c l) e
  where
    by : (o : Option (List Context)) → option_map (λ ks. ks ++ cs) o ≡ Some new → or_bad (bad_line n (rule_of l)) (λ ks. first_bad_from rules (ks ++ cs) ls (suc n)) o ≡ first_bad_from rules new ls (suc n)
    by None h = absurd (cc)
    by (Some ks) h = ap (λ (ds : List Context). first_bad_from rules ds ls (suc n)) (some_same (ks ++ cs) new h)

-- it ends at a line that breaks its rule
pub walk_broken : (rules : Rules) (cs : List Context) (l : Step) (ls : List Step) (n : ℕ) → after_line rules cs l ≡ None → first_bad_from rules cs (l ∷ ls) n ≡ Some (bad_line n (rule_broken cs l))
walk_broken rules [] l ls n e = refl
walk_broken rules (c ∷ cs) l ls n e = by (rules c l) e
  where
    by : (o : Option (List Context)) → option_map (λ ks. ks ++ cs) o ≡ None → or_bad (bad_line n (rule_of l)) (λ ks. first_bad_from rules (ks ++ cs) ls (suc n)) o ≡ Some (bad_line n (rule_of l))
    by None h = refl
    by (Some ks) h = absurd (cc)

then_some : {A B : Type 0} (f : A → Option B) (o : Option A) (y : B) → option_and_then f o ≡ Some y → (x : A) × (o ≡ Some x) × (f x ≡ Some y)
then_some f None y e = absurd (cc)
then_some f (Some x) y e = (x, refl, e)

-- one more line
pub after_more : (rules : Rules) (cs ds es : List Context) (ls : List Step) (l : Step) → after_lines rules cs ls ≡ Some ds → after_line rules ds l ≡ Some es → after_lines rules cs (ls ++ l ∷ []) ≡ Some es
after_more rules cs ds es [] l e f =
    ap (λ (xs : List Context). option_and_then (λ ks. after_lines rules ks []) (after_line rules xs l)) (some_same cs ds e) ∙ ap (option_and_then (λ ks. after_lines rules ks [])) f
after_more rules cs ds es (k ∷ ls) l e f =
    let t = then_some (λ ks. after_lines rules ks ls) (after_line rules cs k) ds e in
    ap (option_and_then (λ ks. after_lines rules ks (ls ++ l ∷ []))) t.1 ∙ after_more rules t.0 ds es ls l t.2 f

after_passes : (rules : Rules) (cs : List Context) (ls : List Step) (n : ℕ) → after_lines rules cs ls ≡ Some [] → first_bad_from rules cs ls n ≡ None
after_passes rules cs [] n e = ap (λ (xs : List Context). first_bad_from rules xs [] n) (some_same cs [] e)
after_passes rules cs (l ∷ ls) n e =
    let t = then_some (λ ks. after_lines rules ks ls) (after_line rules cs l) [] e in
    walk_line rules cs t.0 l ls n t.1 ∙ after_passes rules t.0 ls (suc n) t.2

-- lines after which nothing is left to close refute
pub after_refutes : (s : Sort) (P : Problem) (S : Skeleton) (ls : List Step) → after_lines (apply s (system s P S)) (open_context ∷ []) ls ≡ Some [] → Refutes s P S ls
after_refutes s P S ls e = passes_refutes s P S ls (after_passes (apply s (system s P S)) (open_context ∷ []) ls 0 e)
