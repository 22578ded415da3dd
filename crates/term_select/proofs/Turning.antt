-- A cube with a move put in keeps what is asked of it.
use Rattle.std.specs.Prelude.{ℕ, ◌≤◌, ◌≡◌, false, ℤ, List, [], ◌∷◌}
use Rattle.std.proofs.Common.{arith}
use Rattle.lin_term.specs.declared.Sort.{Sort}
use Rattle.lin_term.specs.declared.Lit.{Lit}
use Rattle.lin_term.specs.Linear.{Form, Below, BelowTerms}
use Rattle.lin_term.specs.PutIn.{occurs}
use Rattle.dom_core.specs.Reduced.{IsReduced}
use Rattle.dom_core.proofs.Selecting.{below_absent}
use Rattle.term_select.specs.Walk.{IsKeptCube}

terms_longer : (x n : ℕ) (ts : List (ℕ × ℤ)) → x ≤ n → BelowTerms x ts → BelowTerms n ts
terms_longer x n [] l b = tt
terms_longer x n (t ∷ ts) l b = let o = b.0 in (omega arith, terms_longer x n ts l b.1)

pub below_longer : (x n : ℕ) (f : Form) → x ≤ n → Below x f → Below n f
below_longer x n f l b = terms_longer x n f.terms l b

pub absent : (x : ℕ) (f : Form) → Below x f → occurs f.terms x ≡ false
absent x f b = below_absent x f.terms b

pub kept_reduced : (s : Sort) (n x : ℕ) (c : List Lit) → IsReduced s n x c → IsKeptCube s n c
kept_reduced s n x c r = record { primitive = r.primitive; below = r.below }
