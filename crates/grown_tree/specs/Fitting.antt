-- Trees with the shape of a prefix and distinct moves at each node.
use Rattle.std.specs.Prelude.{List, [], ◌∷◌, ⊤}
use Rattle.dom_core.specs.declared.Quant.{Quant}
use Rattle.dom_core.specs.declared.Quant.TheVariants.{Exists, Forall}
use Rattle.game_tree.specs.Skeleton.{Skeleton, end, theirs, mine, Branches, no_more, branch, IsNew}

abbrev mutual
  pub Fits : Skeleton → List Quant → Type 0
  Fits end [] = ⊤
  Fits end (q ∷ qs) = ⊥
  Fits (theirs S) [] = ⊥
  Fits (theirs S) (Exists ∷ qs) = ⊥
  Fits (theirs S) (Forall ∷ qs) = Fits S qs
  Fits (mine bs) [] = ⊥
  Fits (mine bs) (Forall ∷ qs) = ⊥
  Fits (mine bs) (Exists ∷ qs) = EachFits bs qs

  pub EachFits : Branches → List Quant → Type 0
  EachFits no_more qs = ⊤
  EachFits (branch m S bs) qs = IsNew m bs × Fits S qs × EachFits bs qs
