-- Lists of matrices, one more at the end.
use Rattle.std.specs.Prelude.{◌≡◌, List, [], ◌∷◌, ◌++◌, map}
use Rattle.std.proofs.Common.{ap, ◌∙◌, refl}
use Rattle.std.proofs.lemmas.List.{map-append}
use Rattle.dom_core.specs.declared.matrix.Matrix.{Matrix as Tree}
use Rattle.dom_core.specs.Game.{Matrix, Matrices, none, more}
use Rattle.dom_core.specs.View.{parts_of, matrix_of, matrices_of}

abbrev pub push_part : Matrices → Matrix → Matrices
push_part none m = more m none
push_part (more n ms) m = more n (push_part ms m)

parts_push : (ms : List Matrix) (m : Matrix) → parts_of (ms ++ m ∷ []) ≡ push_part (parts_of ms) m
parts_push [] m = refl
parts_push (n ∷ ms) m = ap (more n) (parts_push ms m)

pub matrices_push : (ts : List Tree) (t : Tree) → matrices_of (ts ++ t ∷ []) ≡ push_part (matrices_of ts) (matrix_of t)
matrices_push ts t = ap parts_of (map-append matrix_of ts (t ∷ [])) ∙ parts_push (map matrix_of ts) (matrix_of t)
