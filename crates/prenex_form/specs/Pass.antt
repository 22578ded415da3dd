-- The prefix and the matrix in two passes: the variables of each block are counted, then places are handed out in the
-- same order.
use Rattle.std.specs.Prelude.{ℕ, zero, suc, ◌+◌, ◌≤◌, ◌<◌, List, [], ◌∷◌, ◌++◌, length, get_or, Bool, true, false, ◌||◌, cond, ⊤}
use Rattle.lin_term.specs.Form.{AreTerms}
use Rattle.lin_term.specs.declared.Sort.{Sort}
use Rattle.lin_term.specs.Linear.{Below}
use Rattle.lin_term.specs.Literal.{rename_lit, form_of}
use Rattle.dom_core.specs.Game.{Matrix, lit, all, some, Matrices, none, more}
use Rattle.norm_form.specs.Normal.{Normal, one_lit, each_of, some_of, for_all, there_is, Normals, no_part, part, IsNormal}

-- the prefix begins with an Exists block
abbrev mutual
  pub leads : Normal → Bool
  leads (one_lit l) = false
  leads (each_of ns) = any_leads ns
  leads (some_of ns) = any_leads ns
  leads (for_all n) = false
  leads (there_is n) = true

  pub any_leads : Normals → Bool
  any_leads no_part = false
  any_leads (part n ns) = leads n || any_leads ns

-- where the blocks of n begin that stands under a universal variable of block d + 1
abbrev pub under_all : Normal → ℕ → ℕ
under_all n d = cond (leads n) (suc (suc d)) d

-- one more at place i
abbrev pub bump : List ℕ → ℕ → List ℕ
bump [] zero = 1 ∷ []
bump [] (suc i) = 0 ∷ bump [] i
bump (x ∷ xs) zero = suc x ∷ xs
bump (x ∷ xs) (suc i) = x ∷ bump xs i

-- one more in its block for each variable of n, whose blocks begin at d
abbrev mutual
  pub taken : Normal → ℕ → List ℕ → List ℕ
  taken (one_lit l) d next = next
  taken (each_of ns) d next = taken_parts ns d next
  taken (some_of ns) d next = taken_parts ns d next
  taken (for_all n) d next = taken n (under_all n d) (bump next (suc d))
  taken (there_is n) d next = taken n d (bump next d)

  pub taken_parts : Normals → ℕ → List ℕ → List ℕ
  taken_parts no_part d next = next
  taken_parts (part n ns) d next = taken_parts ns d (taken n d next)

-- the matrix, where a variable takes the next place of its block
abbrev mutual
  pub put : Normal → ℕ → List ℕ → List ℕ → Matrix
  put (one_lit l) d next names = lit (rename_lit names l)
  put (each_of ns) d next names = all (put_parts ns d next names)
  put (some_of ns) d next names = some (put_parts ns d next names)
  put (for_all n) d next names = put n (under_all n d) (bump next (suc d)) (names ++ get_or next (suc d) 0 ∷ [])
  put (there_is n) d next names = put n d (bump next d) (names ++ get_or next d 0 ∷ [])

  pub put_parts : Normals → ℕ → List ℕ → List ℕ → Matrices
  put_parts no_part d next names = none
  put_parts (part n ns) d next names = more (put n d next names) (put_parts ns d (taken n d next) names)

-- the first place of each block
abbrev pub starts : ℕ → List ℕ → List ℕ
starts s [] = []
starts s (b ∷ bs) = s ∷ starts (s + b) bs

-- n places from x on
abbrev pub from : ℕ → ℕ → List ℕ
from x zero = []
from x (suc n) = x ∷ from (suc x) n

-- the places that the variables of the blocks take, from block d on
abbrev pub places : List ℕ → ℕ → List ℕ → List ℕ
places next d [] = []
places next d (b ∷ bs) = from (get_or next d 0) b ++ places next (suc d) bs

abbrev pub sum_of : List ℕ → ℕ
sum_of [] = 0
sum_of (b ∷ bs) = b + sum_of bs

-- names along a path: ascending from n on, each below 1,024
abbrev pub IsPath : ℕ → List ℕ → Type 0
IsPath n [] = ⊤
IsPath n (i ∷ is) = (n ≤ i) × (i < 1024) × IsPath (i + 1) is

-- no count on the way reaches 4,096, and no block passes 4,098
abbrev mutual
  pub HasRoom : Normal → ℕ → List ℕ → Type 0
  HasRoom (one_lit l) d next = ⊤
  HasRoom (each_of ns) d next = HaveRoom ns d next
  HasRoom (some_of ns) d next = HaveRoom ns d next
  HasRoom (for_all n) d next = (d ≤ 4096) × (get_or next (suc d) 0 < 4096) × HasRoom n (under_all n d) (bump next (suc d))
  HasRoom (there_is n) d next = (get_or next d 0 < 4096) × HasRoom n d (bump next d)

  pub HaveRoom : Normals → ℕ → List ℕ → Type 0
  HaveRoom no_part d next = ⊤
  HaveRoom (part n ns) d next = HasRoom n d next × HaveRoom ns d (taken n d next)

-- each literal speaks of its path, whose names ascend
abbrev mutual
  pub CanPut : Normal → ℕ → List ℕ → List ℕ → Type 0
  CanPut (one_lit l) d next names = Below (length names) (form_of l) × IsPath 0 names
  CanPut (each_of ns) d next names = CanPutAll ns d next names
  CanPut (some_of ns) d next names = CanPutAll ns d next names
  CanPut (for_all n) d next names = CanPut n (under_all n d) (bump next (suc d)) (names ++ get_or next (suc d) 0 ∷ [])
  CanPut (there_is n) d next names = CanPut n d (bump next d) (names ++ get_or next d 0 ∷ [])

  pub CanPutAll : Normals → ℕ → List ℕ → List ℕ → Type 0
  CanPutAll no_part d next names = ⊤
  CanPutAll (part n ns) d next names = CanPut n d next names × CanPutAll ns d (taken n d next) names

-- each literal speaks of the variables of its path
abbrev pub IsClosed : Normal → Type 0
IsClosed n = (s : Sort) × IsNormal n s 0

-- the coefficients of each literal ascend by variable, and none is 0
abbrev mutual
  pub EachTidy : Normal → Type 0
  EachTidy (one_lit l) = AreTerms 0 (form_of l).terms
  EachTidy (each_of ns) = AllTidy ns
  EachTidy (some_of ns) = AllTidy ns
  EachTidy (for_all n) = EachTidy n
  EachTidy (there_is n) = EachTidy n

  pub AllTidy : Normals → Type 0
  AllTidy no_part = ⊤
  AllTidy (part n ns) = EachTidy n × AllTidy ns
