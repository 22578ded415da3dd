-- Proofs as trees of lines: a closing line has its subproofs as children.
use Rattle.std.specs.Prelude.{◌≡◌, Option, Some, List, [], ◌∷◌, ◌++◌, ⊤}
use Rattle.cube_rules.specs.declared.step.Step.{Step}
use Rattle.cube_rules.specs.Context.{Context}

mutual
  pub data Proof : Type 0 where
    line : Step → Proofs → Proof

  pub data Proofs : Type 0 where
    no_proof : Proofs
    proof : Proof → Proofs → Proofs

abbrev mutual
  pub preorder : Proof → List Step
  preorder (line l ts) = l ∷ preorders ts

  pub preorders : Proofs → List Step
  preorders no_proof = []
  preorders (proof t ts) = preorder t ++ preorders ts

-- the contexts that a line leaves, or none where it breaks its rule
abbrev pub Rules : Type 0
Rules = Context → Step → Option (List Context)

-- each line meets its rule, and each context that it leaves is closed by a subproof, in order
abbrev mutual
  pub Closes : Proof → Rules → Context → Type 0
  Closes (line l ts) rules c = (ks : List Context) × (rules c l ≡ Some ks) × CloseAll ts rules ks

  pub CloseAll : Proofs → Rules → List Context → Type 0
  CloseAll no_proof rules [] = ⊤
  CloseAll no_proof rules (k ∷ ks) = ⊥
  CloseAll (proof t ts) rules [] = ⊥
  CloseAll (proof t ts) rules (k ∷ ks) = Closes t rules k × CloseAll ts rules ks

-- the lines are the preorder of a tree that closes the context
pub record ClosesBy (rules : Rules) (c : Context) (steps : List Step) : Type 0 where
  pub tree : Proof
  pub lines : preorder tree ≡ steps
  pub closes : Closes tree rules c
