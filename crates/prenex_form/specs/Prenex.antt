-- The prefix and the matrix of a normal form.
use Rattle.std.specs.Prelude.{ℕ, zero, suc, ◌+◌, List, [], ◌∷◌, ◌++◌}
use Rattle.dom_core.specs.Game.{Matrix, lit, all, some, Matrices, none, more, rename_matrix, rename_matrices, flip, Problem}
use Rattle.dom_core.specs.declared.Quant.{Quant}
use Rattle.dom_core.specs.declared.Quant.TheVariants.{Exists}
use Rattle.norm_form.specs.Normal.{Normal, one_lit, each_of, some_of, for_all, there_is, Normals, no_part, part}

-- n times q in front
abbrev pub repeat : ℕ → Quant → List Quant → List Quant
repeat zero q qs = qs
repeat (suc n) q qs = q ∷ repeat n q qs

-- a prefix by the sizes of its blocks, which alternate from q on
abbrev pub quants : Quant → List ℕ → List Quant
quants q [] = []
quants q (n ∷ bs) = repeat n q (quants (flip q) bs)

-- block by block, left before right
abbrev pub merge : List ℕ → List ℕ → List ℕ
merge [] cs = cs
merge (b ∷ bs) [] = b ∷ bs
merge (b ∷ bs) (c ∷ cs) = (b + c) ∷ merge bs cs

-- one more variable in front
abbrev pub front_exists : List ℕ → List ℕ
front_exists [] = 1 ∷ []
front_exists (b ∷ bs) = suc b ∷ bs

abbrev pub front_forall : List ℕ → List ℕ
front_forall [] = 0 ∷ 1 ∷ []
front_forall (zero ∷ []) = 0 ∷ 1 ∷ []
front_forall (zero ∷ c ∷ bs) = 0 ∷ suc c ∷ bs
front_forall (suc b ∷ bs) = 0 ∷ 1 ∷ suc b ∷ bs

-- whose variable stands at a place of a merged prefix
pub data Mark : Type 0 where
  left : Quant → Mark
  right : Quant → Mark

abbrev pub lefts_then : ℕ → Quant → List Mark → List Mark
lefts_then zero q ms = ms
lefts_then (suc n) q ms = left q ∷ lefts_then n q ms

abbrev pub rights_then : ℕ → Quant → List Mark → List Mark
rights_then zero q ms = ms
rights_then (suc n) q ms = right q ∷ rights_then n q ms

abbrev pub marks_right : Quant → List ℕ → List Mark
marks_right q [] = []
marks_right q (c ∷ cs) = rights_then c q (marks_right (flip q) cs)

abbrev pub marks : Quant → List ℕ → List ℕ → List Mark
marks q [] cs = marks_right q cs
marks q (b ∷ bs) [] = lefts_then b q (marks (flip q) bs [])
marks q (b ∷ bs) (c ∷ cs) = lefts_then b q (rights_then c q (marks (flip q) bs cs))

-- the places from k on of the left part's variables behind names, and of the right part's
abbrev pub left_names : List ℕ → ℕ → List Mark → List ℕ
left_names names k [] = names
left_names names k (left q ∷ ms) = left_names (names ++ k ∷ []) (suc k) ms
left_names names k (right q ∷ ms) = left_names names (suc k) ms

abbrev pub right_names : List ℕ → ℕ → List Mark → List ℕ
right_names names k [] = names
right_names names k (left q ∷ ms) = right_names names (suc k) ms
right_names names k (right q ∷ ms) = right_names (names ++ k ∷ []) (suc k) ms

-- 0 to k - 1
abbrev pub first_places : ℕ → List ℕ
first_places zero = []
first_places (suc k) = first_places k ++ k ∷ []

pub record Prenex : Type 0 where
  pub blocks : List ℕ
  pub body : Matrix

pub record Parts : Type 0 where
  pub blocks : List ℕ
  pub bodies : Matrices

-- the k outer variables keep their places
abbrev pub joined : ℕ → Prenex → Parts → Parts
joined k a b = record {
  blocks = merge a.blocks b.blocks;
  bodies =
      more (rename_matrix a.body (left_names (first_places k) k (marks Exists a.blocks b.blocks)))
      (rename_matrices b.bodies (right_names (first_places k) k (marks Exists a.blocks b.blocks)));
}

abbrev mutual
  pub prenex : Normal → ℕ → Prenex
  prenex (one_lit l) k = record { blocks = []; body = lit l }
  prenex (each_of ns) k = record { blocks = (prenex_parts ns k).blocks; body = all (prenex_parts ns k).bodies }
  prenex (some_of ns) k = record { blocks = (prenex_parts ns k).blocks; body = some (prenex_parts ns k).bodies }
  prenex (for_all n) k = record { blocks = front_forall (prenex n (suc k)).blocks; body = (prenex n (suc k)).body }
  prenex (there_is n) k = record { blocks = front_exists (prenex n (suc k)).blocks; body = (prenex n (suc k)).body }

  pub prenex_parts : Normals → ℕ → Parts
  prenex_parts no_part k = record { blocks = []; bodies = none }
  prenex_parts (part n ns) k = joined k (prenex n k) (prenex_parts ns k)

abbrev pub prenex_of : Normal → Problem
prenex_of n = record { prefix = quants Exists (prenex n 0).blocks; matrix = (prenex n 0).body }
