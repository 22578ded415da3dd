-- The move between a cube's bounds that has the residue of the point's value.
use Rattle.std.specs.Prelude.{ℕ, List}
use Rattle.lin_term.specs.declared.Lit.{Lit}
use Rattle.lin_term.specs.declared.Sort.TheVariants.{Int}
use Rattle.lin_term.specs.Linear.{Point, at}
use Rattle.lin_term.specs.Move.{Move}
use Rattle.dom_core.specs.Pick.{greatest, least, lowers, uppers, congruent}

-- with the period n
abbrev pub bounded_congruent : ℕ → ℕ → List Lit → Point → Move
bounded_congruent n x c p = congruent n (at p.nums x) p (greatest Int p (lowers Int x c)) (least Int p (uppers x c))
