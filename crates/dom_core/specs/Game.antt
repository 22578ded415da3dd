-- Matrices and problems, and the truth of a problem. Truth is classical: `exists` says that not every value fails.
use Rattle.std.specs.Prelude.{ℕ, List, [], ◌∷◌, ⊤}
use Rattle.lin_term.specs.declared.Sort.{Sort}
use Rattle.lin_term.specs.Linear.{Point, Value, IsValue, extend, origin, Below}
use Rattle.lin_term.specs.declared.Lit.{Lit}
use Rattle.lin_term.specs.Literal.{Holds, neg, rename_lit, form_of, IsOf}
use Rattle.dom_core.specs.declared.quant.Quant.{Quant}
use Rattle.dom_core.specs.declared.quant.Quant.TheVariants.{Exists, Forall}

mutual
  pub data Matrix : Type 0 where
    lit : Lit → Matrix
    all : Matrices → Matrix
    some : Matrices → Matrix

  pub data Matrices : Type 0 where
    none : Matrices
    more : Matrix → Matrices → Matrices

abbrev mutual
  pub HoldsIn : Matrix → Point → Type 0
  HoldsIn (lit l) p = Holds l p
  HoldsIn (all ms) p = AllHold ms p
  HoldsIn (some ms) p = ¬ AllFail ms p

  pub AllHold : Matrices → Point → Type 0
  AllHold none p = ⊤
  AllHold (more m ms) p = HoldsIn m p × AllHold ms p

  pub AllFail : Matrices → Point → Type 0
  AllFail none p = ⊤
  AllFail (more m ms) p = ¬ HoldsIn m p × AllFail ms p

abbrev mutual
  pub neg_matrix : Matrix → Sort → Matrix
  neg_matrix (lit l) s = lit (neg s l)
  neg_matrix (all ms) s = some (neg_matrices ms s)
  neg_matrix (some ms) s = all (neg_matrices ms s)

  pub neg_matrices : Matrices → Sort → Matrices
  neg_matrices none s = none
  neg_matrices (more m ms) s = more (neg_matrix m s) (neg_matrices ms s)

abbrev mutual
  pub rename_matrix : Matrix → List ℕ → Matrix
  rename_matrix (lit l) names = lit (rename_lit names l)
  rename_matrix (all ms) names = all (rename_matrices ms names)
  rename_matrix (some ms) names = some (rename_matrices ms names)

  pub rename_matrices : Matrices → List ℕ → Matrices
  rename_matrices none names = none
  rename_matrices (more m ms) names = more (rename_matrix m names) (rename_matrices ms names)

-- each literal is of the sort and has its variables below n
abbrev mutual
  pub IsMatrix : Matrix → Sort → ℕ → Type 0
  IsMatrix (lit l) s n = IsOf s l × Below n (form_of l)
  IsMatrix (all ms) s n = AreMatrices ms s n
  IsMatrix (some ms) s n = AreMatrices ms s n

  pub AreMatrices : Matrices → Sort → ℕ → Type 0
  AreMatrices none s n = ⊤
  AreMatrices (more m ms) s n = IsMatrix m s n × AreMatrices ms s n

abbrev pub flip : Quant → Quant
flip Exists = Forall
flip Forall = Exists

abbrev pub flip_all : List Quant → List Quant
flip_all [] = []
flip_all (q ∷ qs) = flip q ∷ flip_all qs

pub record Problem : Type 0 where
  pub prefix : List Quant
  pub matrix : Matrix

-- the rest of the prefix is played from this point on
abbrev pub TrueFrom : List Quant → Sort → Matrix → Point → Type 0
TrueFrom [] s m p = HoldsIn m p
TrueFrom (Exists ∷ qs) s m p = ¬ ((v : Value) → IsValue s v → ¬ TrueFrom qs s m (extend p v))
TrueFrom (Forall ∷ qs) s m p = (v : Value) → IsValue s v → TrueFrom qs s m (extend p v)

abbrev pub TrueP : Sort → Problem → Type 0
TrueP s P = TrueFrom P.prefix s P.matrix origin

abbrev pub dual : Sort → Problem → Problem
dual s P = record { prefix = flip_all P.prefix; matrix = neg_matrix P.matrix s }
