-- A picked move has earlier variables alone.
use Rattle.std.specs.Prelude.{ℕ, suc, ◌+◌, ◌≡◌, None, List, [], ◌∷◌, ◌++◌, length}
use Rattle.std.proofs.Common.{arith, subst, length-append}
use Rattle.lin_term.specs.declared.Sort.{Sort}
use Rattle.lin_term.specs.Linear.{Point, extend, Below}
use Rattle.dom_core.specs.Game.{Matrix, flip_all}
use Rattle.dom_core.specs.Pick.{pick}
use Rattle.game_tree.specs.Skeleton.{Skeleton, Follows}
use Rattle.term_select.specs.Guided.{value_of, guided_from, first_wide}
use Rattle.term_select.specs.Walk.{CanSelect, values_on}
use Rattle.term_select.proofs.FineForms.{matrix_fine}
use Rattle.term_select.proofs.SelectedTree.{from_good, pick_fine}

pub pick_earlier : (s : Sort) (M : Matrix) (p : Point) (U : Skeleton) (v : ℕ) (names : List ℕ) → CanSelect s M p U (suc v) (names ++ v ∷ [])
    → (let e = extend (values_on p names) (value_of p v) in let r = guided_from U s M p (suc (length names)) (suc v) e in first_wide r.numbers ≡ None → Below (length names) (pick s (length names) r.cube e).numer)
pick_earlier s M p U v names c fit =
    let x : ℕ = length names in
    let e = extend (values_on p names) (value_of p v) in
    let l : length (names ++ v ∷ []) ≡ suc x = (let a = length-append names (v ∷ []) in omega arith) in
    let n : ℕ = length (names ++ v ∷ []) + length c.rest in
    let g = from_good U s M c.rest p n (suc x) (suc v) e (matrix_fine M s n c.play.matrix c.play.rows) (subst (λ (j : ℕ). Follows U s (flip_all c.rest) j) l c.follows) (omega arith) fit in
    (pick_fine s x (guided_from U s M p (suc x) (suc v) e).cube e g.cube).1
