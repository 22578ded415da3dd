-- The matrix that a value of `src/` stands for.
use Rattle.std.specs.Prelude.{List, [], ◌∷◌, map}
use Rattle.dom_core.specs.declared.matrix.Matrix.{Matrix as Tree, fold-Matrix}
use Rattle.dom_core.specs.declared.matrix.Matrix.TheOpen.{Matrix-F}
use Rattle.dom_core.specs.Game.{Matrix, lit, all, some, Matrices, none, more}

abbrev pub parts_of : List Matrix → Matrices
parts_of [] = none
parts_of (m ∷ ms) = more m (parts_of ms)

-- one level, with each part already seen
abbrev pub matrix_step : Matrix-F Matrix → Matrix
matrix_step (Matrix-F.Lit l) = lit l
matrix_step (Matrix-F.And ms) = all (parts_of ms)
matrix_step (Matrix-F.Or ms) = some (parts_of ms)

abbrev pub matrix_of : Tree → Matrix
matrix_of = fold-Matrix Matrix matrix_step

-- each part's matrix
abbrev pub matrices_of : List Tree → Matrices
matrices_of ts = parts_of (map matrix_of ts)
