-- The literals of a cube as facts, one after the other; those that are left stand in the other order.
use Rattle.std.specs.Prelude.{◌≡◌, List, [], ◌∷◌, ◌++◌, map, reverse}
use Rattle.std.proofs.Common.{ap, ◌∙◌, sym, subst, append_assoc, append-nil}
use Rattle.std.proofs.lemmas.List.{map-append, reverse-append, reverse-reverse}
use Rattle.lin_term.specs.declared.Sort.{Sort}
use Rattle.lin_term.specs.declared.Lit.{Lit}
use Rattle.dom_core.specs.Game.{Matrix, lit}
use Rattle.dom_core.specs.Cube.{IsPrimitiveCube}
use Rattle.lose_system.specs.Written.{WrittenSystem}
use Rattle.proof_rules.specs.declared.fact.Fact.{Fact}
use Rattle.proof_rules.specs.Held.{fact_of, IsKnown, IsFact, AreFacts}

-- one literal from the end of those that are left
popped : (old new : List Lit) (l : Lit) → old ≡ new ++ l ∷ [] → reverse old ≡ l ∷ reverse new
popped old new l e = ap reverse e ∙ reverse-append new (l ∷ [])

pub turned_more : (all left rest out new : List Lit) (l : Lit) → out ++ reverse left ≡ reverse all → left ≡ rest ++ l ∷ [] → new ≡ out ++ l ∷ [] → new ++ reverse rest ≡ reverse all
turned_more all left rest out new l h e n =
    ap (λ (ls : List Lit). ls ++ reverse rest) n ∙ append_assoc out (l ∷ []) (reverse rest) ∙ ap (λ (ls : List Lit). out ++ ls) (sym (popped left rest l e)) ∙ h

pub turned_all : (all left out : List Lit) → out ++ reverse left ≡ reverse all → left ≡ [] → out ≡ reverse all
turned_all all left out h e = sym (append-nil out) ∙ ap (λ (ls : List Lit). out ++ reverse ls) (sym e) ∙ h

-- the facts are the literals of the cube but for those that are left
pub record KnownSo (cube left : List Lit) (facts : List Fact) : Type 0 where
  pub value : (s : Sort) (w : WrittenSystem) → map (fact_of s w) facts ++ map lit (reverse left) ≡ map lit cube
  pub kept : (s : Sort) (w : WrittenSystem) → IsPrimitiveCube s cube → AreFacts s w facts × IsPrimitiveCube s (reverse left)

pub known_none : (cube lits left : List Lit) (facts : List Fact) → facts ≡ [] → left ≡ reverse lits → lits ≡ cube → KnownSo cube left facts
known_none cube lits left facts e f g =
    let back : reverse left ≡ cube = ap reverse f ∙ reverse-reverse lits ∙ g in
    subst (λ (fs : List Fact). KnownSo cube left fs) (sym e) (record {
      value = λ s w. ap (map lit) back;
      kept = λ s w p. (tt, subst (λ (ls : List Lit). IsPrimitiveCube s ls) (sym back) p);
    })

facts-push : (s : Sort) (w : WrittenSystem) (fs : List Fact) (f : Fact) → AreFacts s w fs → IsFact s w f → AreFacts s w (fs ++ f ∷ [])
facts-push s w [] f a k = (k, tt)
facts-push s w (g ∷ fs) f a k = (a.0, facts-push s w fs f a.1 k)

same_type : {A B : Type 0} → B ≡ A → A → B
same_type e x = subst (λ (T : Type 0). T) (sym e) x

pub known_more : (cube left rest : List Lit) (facts new : List Fact) (f : Fact) (l x : Lit) → KnownSo cube left facts → left ≡ rest ++ l ∷ [] → ((s : Sort) (w : WrittenSystem) → fact_of s w f ≡ lit x) → ((s : Sort) (w : WrittenSystem) → IsFact s w f ≡ IsKnown s x) → x ≡ l → new ≡ facts ++ f ∷ [] → KnownSo cube rest new
known_more cube left rest facts new f l x k e v q xe n =
    subst (λ (fs : List Fact). KnownSo cube rest fs) (sym n) (record {
      value = λ s w.
          ap (λ (ms : List Matrix). ms ++ map lit (reverse rest)) (map-append (fact_of s w) facts (f ∷ []) ∙ ap (λ (m : Matrix). map (fact_of s w) facts ++ m ∷ []) (v s w ∙ ap lit xe))
          ∙ append_assoc (map (fact_of s w) facts) (lit l ∷ []) (map lit (reverse rest))
          ∙ ap (λ (ls : List Lit). map (fact_of s w) facts ++ map lit ls) (sym (popped left rest l e))
          ∙ k.value s w;
      kept = λ s w p.
          let a = k.kept s w p in
          let b = subst (λ (ls : List Lit). IsPrimitiveCube s ls) (popped left rest l e) a.1 in
          (facts-push s w facts f a.0 (same_type (q s w) (subst (λ (y : Lit). IsKnown s y) (sym xe) (b.0, b.1))), b.2);
    })

pub known_value : (cube left : List Lit) (facts : List Fact) → KnownSo cube left facts → left ≡ [] → (s : Sort) (w : WrittenSystem) → map (fact_of s w) facts ≡ map lit cube
known_value cube left facts k e s w =
    sym (append-nil (map (fact_of s w) facts)) ∙ ap (λ (ls : List Lit). map (fact_of s w) facts ++ map lit (reverse ls)) (sym e) ∙ k.value s w

pub known_kept : (cube left : List Lit) (facts : List Fact) → KnownSo cube left facts → (s : Sort) (w : WrittenSystem) → IsPrimitiveCube s cube → AreFacts s w facts
known_kept cube left facts k s w p = (k.kept s w p).0
