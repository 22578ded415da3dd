-- Guided selection: a counter to a skeleton U of the other player, from values for U's nodes.
use Rattle.std.specs.Prelude.{ℕ, suc, ◌+◌, ◌*◌, ◌%◌, ℤ, pos, negsuc, nat_abs, int_le, int_lt, nat_eq, Bool, true, false, not, ◌&&◌, ◌||◌, if◌then◌else◌, Option, Some, None, List, [], ◌∷◌, ◌++◌, map}
use Rattle.lin_term.specs.declared.Sort.{Sort}
use Rattle.lin_term.specs.Linear.{Point, Value, at, dot, extend, origin, constant_form}
use Rattle.lin_term.specs.declared.Lit.{Lit}
use Rattle.lin_term.specs.declared.Lit.TheVariants.{AtLeast, Above, Divides, NotDivides}
use Rattle.lin_term.specs.Wide.{fits}
use Rattle.lin_term.specs.Move.{Move}
use Rattle.dom_core.specs.Game.{Matrix, lit, all, some, Matrices, none, more, Problem}
use Rattle.game_tree.specs.Skeleton.{Skeleton, end, theirs, mine, Branches, no_more, branch, nodes}
use Rattle.game_tree.specs.Union.{union}
use Rattle.dom_core.specs.Pick.{pick, pick_numbers}
use Rattle.dom_core.specs.PutMove.{with_new, put_in, put_in_numbers}

abbrev pub holds_at : Lit → Point → Bool
holds_at (AtLeast f) p = int_le (pos 0) (dot f p)
holds_at (Above f) p = int_lt (pos 0) (dot f p)
holds_at (Divides d f) p = nat_eq (nat_abs (dot f p) % (d * p.den)) 0
holds_at (NotDivides d f) p = not (nat_eq (nat_abs (dot f p) % (d * p.den)) 0)

abbrev mutual
  pub true_at : Matrix → Point → Bool
  true_at (lit l) p = holds_at l p
  true_at (all ms) p = all_true ms p
  true_at (some ms) p = some_true ms p

  pub all_true : Matrices → Point → Bool
  all_true none p = true
  all_true (more m ms) p = true_at m p && all_true ms p

  pub some_true : Matrices → Point → Bool
  some_true none p = false
  some_true (more m ms) p = true_at m p || some_true ms p

-- literals that make the matrix true at the point: of an And all children in order, of an Or the first that is true; where
-- none is, the literal -1 >= 0
abbrev mutual
  pub implicant : Matrix → Point → List Lit
  implicant (lit l) p = l ∷ []
  implicant (all ms) p = implicants ms p
  implicant (some ms) p = first_implicant ms p

  pub implicants : Matrices → Point → List Lit
  implicants none p = []
  implicants (more m ms) p = with_new (implicant m p) (implicants ms p)

  pub first_implicant : Matrices → Point → List Lit
  first_implicant none p = AtLeast (constant_form (negsuc 0)) ∷ []
  first_implicant (more m ms) p = if true_at m p then implicant m p else first_implicant ms p

-- a cube over the positions of the prefix, the counter's tree, and the numbers that were formed, each with its position
pub record Chosen : Type 0 where
  pub cube : List Lit
  pub tree : Skeleton
  pub numbers : List (ℕ × ℤ)

abbrev pub value_of : Point → ℕ → Value
value_of p v = record { num = at p.nums v; den = p.den }

abbrev pub at_position : ℕ → List ℤ → List (ℕ × ℤ)
at_position x zs = map (λ z. (x, z)) zs

-- the move is put in for x
abbrev pub with_move : Sort → ℕ → Move → Point → Chosen → Chosen
with_move s x m p f = record {
  cube = put_in s x m p f.cube;
  tree = f.tree;
  numbers = f.numbers ++ at_position x (put_in_numbers s x m p f.cube);
}

-- a move is picked for x and put in; the point here has a value for x
abbrev pub with_pick : Sort → ℕ → Point → Point → Chosen → Chosen
with_pick s x p here f =
    let m = pick s x f.cube here in
    with_move s x m p (record {
      cube = f.cube;
      tree = mine (branch m f.tree no_more);
      numbers = f.numbers ++ at_position x (pick_numbers s x f.cube here);
    })

abbrev pub joined : Chosen → Chosen → Chosen
joined f g = record { cube = with_new f.cube g.cube; tree = union f.tree g.tree; numbers = f.numbers ++ g.numbers }

abbrev pub under_theirs : Chosen → Chosen
under_theirs f = record { cube = f.cube; tree = theirs f.tree; numbers = f.numbers }

abbrev pub nothing : Chosen
nothing = record { cube = []; tree = end; numbers = [] }

-- p has the values of U's nodes, e those of the nodes on the path; x is the position and v the next node
abbrev mutual
  pub guided_from : Skeleton → Sort → Matrix → Point → ℕ → ℕ → Point → Chosen
  guided_from end s m p x v e = record { cube = implicant m e; tree = end; numbers = [] }
  guided_from (theirs U) s m p x v e =
      let here = extend e (value_of p v) in
      with_pick s x e here (guided_from U s m p (suc x) (suc v) here)
  guided_from (mine bs) s m p x v e = under_theirs (guided_branches bs s m p x v e)

  pub guided_branches : Branches → Sort → Matrix → Point → ℕ → ℕ → Point → Chosen
  guided_branches no_more s m p x v e = nothing
  guided_branches (branch mv U bs) s m p x v e =
      let here = extend e (value_of p v) in
      guided_rest bs s m p x (suc v + nodes U) e (with_move s x mv e (guided_from U s m p (suc x) (suc v) here))

  pub guided_rest : Branches → Sort → Matrix → Point → ℕ → ℕ → Point → Chosen → Chosen
  guided_rest no_more s m p x v e f = f
  guided_rest (branch mv U bs) s m p x v e f =
      let here = extend e (value_of p v) in
      guided_rest bs s m p x (suc v + nodes U) e (joined f (with_move s x mv e (guided_from U s m p (suc x) (suc v) here)))

-- P is the attacker's problem
abbrev pub guided : Sort → Problem → Skeleton → Point → Chosen
guided s P U p = guided_from U s P.matrix p 0 0 origin

-- the first that is past the cap, with its position
abbrev pub first_wide : List (ℕ × ℤ) → Option (ℕ × ℤ)
first_wide [] = None
first_wide (n ∷ ns) = if fits n.1 then first_wide ns else Some n
