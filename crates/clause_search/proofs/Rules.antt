-- Where the lines that the search writes lead.
use Rattle.std.specs.Prelude.{ℕ, ◌≤◌, ◌≡◌, nat_eq, nat_le, Bool, true, false, Option, Some, option_map, option_and_then, slice_get, List, [], ◌∷◌, ◌++◌, length}
use Rattle.std.proofs.Common.{ap, arith, ◌∙◌, refl}
use Rattle.std.proofs.lemmas.Bool.{le-leb}
use Rattle.lin_term.specs.declared.Sort.{Sort}
use Rattle.lin_term.specs.declared.Lit.{Lit}
use Rattle.lin_term.specs.Form.{cap}
use Rattle.dom_core.specs.Game.{Matrix, lit, all, some, Matrices}
use Rattle.lose_system.specs.Written.{WrittenSystem, system_of, definition_literal}
use Rattle.cube_rules.specs.declared.Step.{Step}
use Rattle.cube_rules.specs.declared.Step.TheVariants.{Path, Def, Part, Cases, Cube}
use Rattle.cube_rules.specs.Facts.{guard, child, count, and_child, or_children, literals_at}
use Rattle.cube_rules.specs.Lines.{goes_on, cases_line, each_child}
use Rattle.cube_rules.specs.Bare.{ClosesBare}
use Rattle.cube_rules.proofs.Lifting.{spliced}
use Rattle.proof_rules.proofs.Splicing.{system_allows}
use Rattle.clause_search.specs.Taken.{Leads, facts_alone, rules_of}
use Rattle.clause_search.proofs.Leading.{leads_line, closed_leads}

pub path_leads : (s : Sort) (w : WrittenSystem) (F : List Matrix) (k : ℕ) (m : Matrix) → slice_get (system_of s w).paths k ≡ Some m → Leads (rules_of s w) (facts_alone F ∷ []) (Path k ∷ []) (facts_alone (F ++ m ∷ []) ∷ [])
path_leads s w F k m e =
    leads_line (rules_of s w) (facts_alone F) (Path k) (facts_alone (F ++ m ∷ []) ∷ []) (ap (option_map (goes_on (facts_alone F))) e)

pub def_leads : (s : Sort) (w : WrittenSystem) (F : List Matrix) (v i : ℕ) (l : Lit) → definition_literal s w v i ≡ Some l → Leads (rules_of s w) (facts_alone F ∷ []) (Def v i ∷ []) (facts_alone (F ++ lit l ∷ []) ∷ [])
def_leads s w F v i l e =
    leads_line (rules_of s w) (facts_alone F) (Def v i) (facts_alone (F ++ lit l ∷ []) ∷ []) (ap (option_map (λ x. goes_on (facts_alone F) (lit x))) e)

pub part_leads : (s : Sort) (w : WrittenSystem) (F : List Matrix) (f i : ℕ) (ms : Matrices) (m : Matrix) → slice_get F f ≡ Some (all ms) → child ms i ≡ Some m → Leads (rules_of s w) (facts_alone F ∷ []) (Part f i ∷ []) (facts_alone (F ++ m ∷ []) ∷ [])
part_leads s w F f i ms m e h =
    leads_line (rules_of s w) (facts_alone F) (Part f i) (facts_alone (F ++ m ∷ []) ∷ [])
    (ap (λ (o : Option Matrix). option_map (goes_on (facts_alone F)) (option_and_then (and_child i) o)) e ∙ ap (option_map (goes_on (facts_alone F))) h)

equal_self : (n : ℕ) → nat_eq n n ≡ true
equal_self n = grind arith

guarded : {A : Type 0} (b : Bool) (o : Option A) → b ≡ true → guard b o ≡ o
guarded true o e = refl
guarded false o e = absurd (cc)

pub cases_lead : (s : Sort) (w : WrittenSystem) (F : List Matrix) (f n : ℕ) (ms : Matrices) → slice_get F f ≡ Some (some ms) → count ms ≡ n → n ≤ cap → Leads (rules_of s w) (facts_alone F ∷ []) (Cases f n ∷ []) (each_child (facts_alone F) ms)
cases_lead s w F f n ms e c h =
    leads_line (rules_of s w) (facts_alone F) (Cases f n) (each_child (facts_alone F) ms)
    (guarded (nat_le n cap) (option_and_then (cases_line (facts_alone F) n) (option_and_then or_children (slice_get F f))) (le-leb n cap h)
    ∙ ap (λ (o : Option Matrix). option_and_then (cases_line (facts_alone F) n) (option_and_then or_children o)) e
    ∙ guarded (nat_eq (count ms) n) (Some (each_child (facts_alone F) ms)) (ap (λ (k : ℕ). nat_eq k n) c ∙ equal_self n))

pub cube_leads : (s : Sort) (w : WrittenSystem) (F : List Matrix) (n : ℕ) (facts : List ℕ) (cube : List Lit) (steps : List Step) → n ≤ (system_of s w).count → literals_at (facts_alone F) facts ≡ Some cube → 1 ≤ length facts → ClosesBare s n cube steps → Leads (rules_of s w) (facts_alone F ∷ []) (Cube facts ∷ steps) []
cube_leads s w F n facts cube steps h e i k =
    closed_leads (rules_of s w) (facts_alone F) (Cube facts ∷ steps)
    (spliced (rules_of s w) s n (facts_alone F) facts cube steps (system_allows s (system_of s w) n h) e i k)
