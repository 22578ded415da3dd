-- The values of nodes, one after the other.
use Rattle.std.specs.Prelude.{ℕ, ◌+◌, ◌<◌, ◌≤◌, ◌≡◌, ℤ, nat_abs, List, [], ◌∷◌, ◌++◌, map, take, get_or, length}
use Rattle.std.proofs.Common.{ap, ap₂, ◌∙◌, sym, subst}
use Rattle.std.proofs.lemmas.List.{map-append, take_more, take_all}
use Rattle.lin_term.specs.Form.{cap}
use Rattle.lin_term.specs.Linear.{at}
use Rattle.lin_term.specs.Point.{AreWithin}
use Rattle.lin_term.proofs.Points.{at_within}

within_pushed : (zs : List ℤ) (z : ℤ) → AreWithin zs → nat_abs z ≤ cap → AreWithin (zs ++ z ∷ [])
within_pushed [] z a h = (h, tt)
within_pushed (y ∷ zs) z a h = (a.0, within_pushed zs z a.1 h)

-- one more value
pub nums_more : (all : List ℤ) (nodes : List ℕ) (nums new : List ℤ) (i d : ℕ) (z : ℤ) → i < length nodes → nums ≡ map (λ (k : ℕ). at all k) (take i nodes) → z ≡ at all (get_or nodes i d) → new ≡ nums ++ z ∷ [] → new ≡ map (λ (k : ℕ). at all k) (take (i + 1) nodes)
nums_more all nodes nums new i d z l h v n =
    n ∙ ap₂ (λ (ns : List ℤ) (y : ℤ). ns ++ y ∷ []) h v
    ∙ sym (map-append (λ (k : ℕ). at all k) (take i nodes) (get_or nodes i d ∷ []))
    ∙ ap (λ (ks : List ℕ). map (λ (k : ℕ). at all k) ks) (sym (take_more nodes i d l))

pub value_kept : (all : List ℤ) (k : ℕ) (z : ℤ) → AreWithin all → z ≡ at all k → nat_abs z ≤ cap
value_kept all k z a v = subst (λ (y : ℤ). nat_abs y ≤ cap) (sym v) (at_within all k a)

pub within_more : (all nums new : List ℤ) (node : ℕ) (z : ℤ) → AreWithin all → AreWithin nums → z ≡ at all node → new ≡ nums ++ z ∷ [] → AreWithin new
within_more all nums new node z a b v n =
    subst AreWithin (sym n) (within_pushed nums z b (value_kept all node z a v))

pub nums_done : (all : List ℤ) (nodes : List ℕ) (nums : List ℤ) (i : ℕ) → length nodes ≤ i → nums ≡ map (λ (k : ℕ). at all k) (take i nodes) → nums ≡ map (λ (k : ℕ). at all k) nodes
nums_done all nodes nums i l h = h ∙ ap (λ (ks : List ℕ). map (λ (k : ℕ). at all k) ks) (take_all i nodes l)
