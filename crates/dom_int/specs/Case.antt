-- Cases as they are built, literal by literal.
use Rattle.std.specs.Prelude.{ℕ, List, [], ◌∷◌, ◌++◌, get_or, take, drop, ◌+◌}
use Rattle.lin_term.specs.declared.Lit.{Lit}
use Rattle.lin_term.specs.declared.Lit.TheVariants.{Divides}
use Rattle.lin_term.specs.declared.Sort.TheVariants.{Int}
use Rattle.lin_term.specs.Form.{Form}
use Rattle.lin_term.specs.Literal.{prim}
use Rattle.dom_core.specs.Elimination.{put_all, cooper}

-- the cases of a variable, by number
abbrev pub case_at : List Lit → ℕ → ℕ → List Lit
case_at c x i = get_or (cooper c x) i []

-- t/a put in for x, and that a divides t at one place
abbrev pub term_case : ℕ → ℕ → Form → List Lit → ℕ → List Lit
term_case x a t c place = put_all Int x a t (take place c) ++ prim Int (Divides a t) ∷ put_all Int x a t (drop (place + 1) c)
