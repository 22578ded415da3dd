-- Names along a path rise, so a renamed row is one; and lists of matrices, one behind the other.
use Rattle.std.specs.Prelude.{ℕ, zero, suc, ◌+◌, ◌^◌, ◌<◌, ◌≤◌, ◌≡◌, ℤ, pos, nat_abs, List, [], ◌∷◌, ◌++◌, take, get_or, length}
use Rattle.std.proofs.Common.{arith, ap, ap₂, ◌∙◌, sym, refl}
use Rattle.lin_term.specs.Form.{Form, IsRow, AreTerms}
use Rattle.lin_term.specs.Linear.{Below, BelowTerms, rename, rename_terms}
use Rattle.dom_core.specs.declared.Matrix.{Matrix as Tree}
use Rattle.dom_core.specs.Game.{Matrix, Matrices, none, more}
use Rattle.dom_core.specs.View.{matrix_of, matrices_of}
use Rattle.dom_core.proofs.Views.{push_part, matrices_push}
use Rattle.lin_term.specs.Rising.{IsRising}
use Rattle.norm_form.proofs.Ascending.{Ascends, AllBelow, renamed_row, rising}
use Rattle.prenex_form.specs.Pass.{IsPath}

path_ascends : (n : ℕ) (is : List ℕ) → IsPath n is → Ascends n is
path_ascends n [] h = tt
path_ascends n (i ∷ is) h = (h.0, path_ascends (i + 1) is h.2)

path_below : (n : ℕ) (is : List ℕ) → IsPath n is → AllBelow (2 ^ 20) is
path_below n [] h = tt
path_below n (i ∷ is) h = (omega arith, path_below (i + 1) is h.2)

pub path_rising : (names : List ℕ) → IsPath 0 names → IsRising names (2 ^ 20)
path_rising names p = rising names (2 ^ 20) (path_ascends 0 names p) (path_below 0 names p)

renamed_is_row : (names : List ℕ) (f : Form) → IsPath 0 names → IsRow f → Below (length names) f → IsRow (rename names f)
renamed_is_row names f p h b = renamed_row names f (path_ascends 0 names p) (path_below 0 names p) b h

pub renamed_are_terms : (names : List ℕ) (ts : List (ℕ × ℤ)) → IsPath 0 names → AreTerms 0 ts → BelowTerms (length names) ts → AreTerms 0 (rename_terms names ts)
renamed_are_terms names ts p a b = (renamed_is_row names (record { terms = ts; constant = pos 0 }) p (a, omega arith) b).0

-- ---- matrices, one list behind the other

abbrev pub joined : Matrices → Matrices → Matrices
joined none ns = ns
joined (more m ms) ns = more m (joined ms ns)

joined_push : (ms : Matrices) (m : Matrix) (ns : Matrices) → joined (push_part ms m) ns ≡ joined ms (more m ns)
joined_push none m ns = refl
joined_push (more k ms) m ns = ap (more k) (joined_push ms m ns)

pub joined_none : (ms : Matrices) → joined ms none ≡ ms
joined_none none = refl
joined_none (more m ms) = ap (more m) (joined_none ms)

pub joined_more : (ts : List Tree) (t : Tree) (ns : Matrices) → joined (matrices_of (ts ++ t ∷ [])) ns ≡ joined (matrices_of ts) (more (matrix_of t) ns)
joined_more ts t ns = ap (λ (ms : Matrices). joined ms ns) (matrices_push ts t) ∙ joined_push (matrices_of ts) (matrix_of t) ns
