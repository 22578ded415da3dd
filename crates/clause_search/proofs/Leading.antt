-- Lines that lead from contexts to contexts, one after the other.
use Rattle.std.specs.Prelude.{◌≡◌, Option, Some, None, option_map, option_and_then, List, [], ◌∷◌, ◌++◌}
use Rattle.std.proofs.Common.{ap, ◌∙◌, sym, refl, append_assoc, append-nil}
use Rattle.cube_rules.specs.declared.Step.{Step}
use Rattle.cube_rules.specs.Context.{Context}
use Rattle.cube_rules.specs.Closing.{Proof, line, Proofs, no_proof, proof, preorder, preorders, Rules, Closes, CloseAll, ClosesBy}
use Rattle.proof_rules.specs.Stepping.{after_line, after_lines}
use Rattle.clause_search.specs.Taken.{Leads}

after_append : (rules : Rules) (cs : List Context) (xs ys : List Step) → after_lines rules cs (xs ++ ys) ≡ option_and_then (λ ks. after_lines rules ks ys) (after_lines rules cs xs)
after_append rules cs [] ys = refl
after_append rules cs (l ∷ xs) ys = by (after_line rules cs l) (λ ks. after_append rules ks xs ys)
  where
    by : (o : Option (List Context)) → ((ks : List Context) → after_lines rules ks (xs ++ ys) ≡ option_and_then (λ js. after_lines rules js ys) (after_lines rules ks xs)) → option_and_then (λ ks. after_lines rules ks (xs ++ ys)) o ≡ option_and_then (λ ks. after_lines rules ks ys) (option_and_then (λ ks. after_lines rules ks xs) o)
    by None f = refl
    by (Some ks) f = f ks

pub leads_nothing : (rules : Rules) (from : List Context) → Leads rules from [] from
leads_nothing rules from cs = refl

pub leads_then : (rules : Rules) (from between to : List Context) (xs ys : List Step) → Leads rules from xs between → Leads rules between ys to → Leads rules from (xs ++ ys) to
leads_then rules from between to xs ys h k cs =
    after_append rules (from ++ cs) xs ys ∙ ap (option_and_then (λ ks. after_lines rules ks ys)) (h cs) ∙ k cs

pub leads_line : (rules : Rules) (c : Context) (l : Step) (ks : List Context) → rules c l ≡ Some ks → Leads rules (c ∷ []) (l ∷ []) ks
leads_line rules c l ks e cs = ap (λ (o : Option (List Context)). option_and_then (λ js. after_lines rules js []) (option_map (λ js. js ++ cs) o)) e

-- other contexts stand behind
pub leads_before : (rules : Rules) (from to behind : List Context) (xs : List Step) → Leads rules from xs to → Leads rules (from ++ behind) xs (to ++ behind)
leads_before rules from to behind xs h cs =
    ap (λ (ks : List Context). after_lines rules ks xs) (append_assoc from behind cs) ∙ h (behind ++ cs) ∙ ap (λ (ks : List Context). Some ks) (sym (append_assoc to behind cs))

-- ---- a tree of lines that closes a context

mutual
  tree_leads : (t : Proof) (rules : Rules) (c : Context) (cs : List Context) (rest : List Step) → Closes t rules c → after_lines rules (c ∷ cs) (preorder t ++ rest) ≡ after_lines rules cs rest
  tree_leads (line l ts) rules c cs rest k =
      ap (λ (o : Option (List Context)). option_and_then (λ js. after_lines rules js (preorders ts ++ rest)) (option_map (λ js. js ++ cs) o)) k.1 ∙ trees_lead ts rules k.0 cs rest k.2

  trees_lead : (ts : Proofs) (rules : Rules) (ks cs : List Context) (rest : List Step) → CloseAll ts rules ks → after_lines rules (ks ++ cs) (preorders ts ++ rest) ≡ after_lines rules cs rest
  trees_lead no_proof rules [] cs rest k = refl
  trees_lead no_proof rules (j ∷ ks) cs rest k = absurd k
  trees_lead (proof t ts) rules [] cs rest k = absurd k
  trees_lead (proof t ts) rules (j ∷ ks) cs rest k =
      ap (λ (ls : List Step). after_lines rules (j ∷ (ks ++ cs)) ls) (append_assoc (preorder t) (preorders ts) rest)
      ∙ tree_leads t rules j (ks ++ cs) (preorders ts ++ rest) k.0 ∙ trees_lead ts rules ks cs rest k.1

pub closed_leads : (rules : Rules) (c : Context) (steps : List Step) → ClosesBy rules c steps → Leads rules (c ∷ []) steps []
closed_leads rules c steps k cs =
    ap (λ (ls : List Step). after_lines rules (c ∷ cs) ls) (sym (append-nil (preorder k.tree) ∙ k.lines)) ∙ tree_leads k.tree rules c cs [] k.closes
