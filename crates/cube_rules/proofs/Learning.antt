-- The negations of literals, one after the other.
use Rattle.std.specs.Prelude.{ℕ, zero, suc, ◌+◌, ◌<◌, ◌≤◌, ◌≡◌, Bool, true, false, ◌&&◌, Option, Some, None, List, [], ◌∷◌, ◌++◌, map, drop, get_or, length}
use Rattle.std.specs.List.{AllByRecursion, list_all}
use Rattle.std.proofs.Common.{arith, ap, ◌∙◌, sym, subst, refl, append_assoc, append-nil}
use Rattle.std.proofs.lemmas.List.{at_drop_more, at_drop_all}
use Rattle.lin_term.specs.declared.Sort.{Sort}
use Rattle.lin_term.specs.declared.Lit.{Lit}
use Rattle.lin_term.specs.Literal.{neg}
use Rattle.cube_rules.specs.Facts.{guard}
use Rattle.cube_rules.specs.Lines.{is_split}
use Rattle.cube_rules.proofs.Sound.{some_same}

-- what holds of each holds of that at i
pub each_at : {X : Type 0} (P : X → Type 0) (xs : List X) (i : ℕ) (x : X) → AllByRecursion P xs → i < length xs → x ≡ get_or xs i x → P x
each_at P [] i x h l e = absurd (omega arith)
each_at P (y ∷ ys) zero x h l e = subst (λ z. P z) (sym e) h.0
each_at P (y ∷ ys) (suc i) x h l e = each_at P ys i x h.1 (omega arith) e

abbrev pub all_negations : Sort → ℕ → List Lit → List Lit → Option (List Lit)
all_negations s n before ls = guard (list_all (is_split s n) ls) (Some (before ++ map (neg s) ls))

-- the negations before i are these, and the others are still to come
abbrev pub Negated : Sort → ℕ → List Lit → ℕ → List Lit → Type 0
Negated s n ls i before = all_negations s n before (drop i ls) ≡ all_negations s n [] ls

here : (s : Sort) (n : ℕ) (ls : List Lit) (i : ℕ) (before : List Lit) (x : Lit) → i < length ls → x ≡ get_or ls i x → all_negations s n before (drop i ls) ≡ all_negations s n before (x ∷ drop (i + 1) ls)
here s n ls i before x h e =
    at_drop_more (all_negations s n before) ls i x h
    ∙ ap (λ (y : Lit). all_negations s n before (y ∷ drop (i + 1) ls)) (sym e)

guard_true : {A : Type 0} (b : Bool) (o : Option A) (x : A) → Some x ≡ guard b o → b ≡ true
guard_true true o x e = refl
guard_true false o x e = absurd (cc)

guard_false : {A : Type 0} (b : Bool) (x : A) → None ≡ guard b (Some x) → b ≡ false
guard_false true x e = absurd (cc)
guard_false false x e = refl

same_of : {A : Type 0} (b : Bool) (x y : A) → Some x ≡ guard b (Some y) → x ≡ y
same_of true x y e = some_same x y e
same_of false x y e = absurd (cc)

pub negated_none : (s : Sort) (n : ℕ) (ls before : List Lit) → before ≡ [] → Negated s n ls 0 before
negated_none s n ls before e = ap (λ (b : List Lit). all_negations s n b ls) e

pub negated_more : (s : Sort) (n : ℕ) (ls : List Lit) (i : ℕ) (before new : List Lit) (x k : Lit) → Negated s n ls i before → i < length ls → x ≡ get_or ls i x → Some k ≡ guard (is_split s n x) (Some (neg s x)) → new ≡ before ++ k ∷ [] → Negated s n ls (i + 1) new
negated_more s n ls i before new x k r h e f g =
    let rest = drop (i + 1) ls in
    let split = guard_true (is_split s n x) (Some (neg s x)) k f in
    let same = same_of (is_split s n x) k (neg s x) f in
    ap (λ (b : List Lit). all_negations s n b rest) (g ∙ ap (λ (y : Lit). before ++ y ∷ []) same)
    ∙ ap (λ (b : List Lit). guard (list_all (is_split s n) rest) (Some b)) (append_assoc before (neg s x ∷ []) (map (neg s) rest))
    ∙ ap (λ (b : Bool). guard (b && list_all (is_split s n) rest) (Some (before ++ (neg s x ∷ map (neg s) rest)))) (sym split)
    ∙ sym (here s n ls i before x h e)
    ∙ r

pub negated_missing : (s : Sort) (n : ℕ) (ls : List Lit) (i : ℕ) (before : List Lit) (x : Lit) → Negated s n ls i before → i < length ls → x ≡ get_or ls i x → None ≡ guard (is_split s n x) (Some (neg s x)) → None ≡ all_negations s n [] ls
negated_missing s n ls i before x r h e f =
    let rest = drop (i + 1) ls in
    ap (λ (b : Bool). guard (b && list_all (is_split s n) rest) (Some (before ++ (neg s x ∷ map (neg s) rest)))) (sym (guard_false (is_split s n x) (neg s x) f))
    ∙ sym (here s n ls i before x h e)
    ∙ r

pub negated_done : (s : Sort) (n : ℕ) (ls : List Lit) (i : ℕ) (before : List Lit) → Negated s n ls i before → length ls ≤ i → Some before ≡ all_negations s n [] ls
negated_done s n ls i before r h =
    ap Some (sym (append-nil before)) ∙ sym (at_drop_all (all_negations s n before) ls i h) ∙ r
