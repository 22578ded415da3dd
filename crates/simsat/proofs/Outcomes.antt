-- Outcomes in the order of their problems.
use Rattle.std.proofs.Common.{◌≡◌, ℕ, zero, suc, ◌+◌, ◌≤◌, map, List, [], ◌∷◌, ◌++◌, length, Option, Some, None, refl, ap, sym, ◌∙◌, subst, arith, append_assoc, append-nil}
use Rattle.std.specs.Prelude.{slice_get}
use Rattle.lin_term.specs.declared.Sort.{Sort}
use Rattle.dom_core.specs.declared.Quant.{Quant}
use Rattle.dom_core.specs.Game.{Problem, TrueP}
use Rattle.dom_core.specs.Problem.{WrittenProblem, problem_of}
use Rattle.solve_texts.specs.declared.Solved.{Solved}
use Rattle.simsat.specs.Solved.{IsSolved}
use Rattle.simsat.specs.Plan.{ArePlayed}

abbrev some_or : {A : Type 0} → A → Option A → A
some_or {A} d None = d
some_or {A} d (Some x) = x

pub same_some : {A : Type 0} (x y : A) → Some x ≡ Some y → x ≡ y
same_some {A} x y e = ap (some_or x) e

-- one more
pub played_more : (B : ℕ) (s : Sort) (Ps : List Problem) (os : List Solved) (P : Problem) (o : Solved) → ArePlayed B s Ps os → slice_get Ps (length os) ≡ Some P → IsSolved B s P (TrueP s P) o → ArePlayed B s Ps (os ++ o ∷ [])
played_more B s [] [] P o h e p = absurd (cc)
played_more B s (Q ∷ Ps) [] P o h e p = (subst (λ (R : Problem). IsSolved B s R (TrueP s R) o) (sym (same_some Q P e)) p, tt)
played_more B s [] (x ∷ os) P o h e p = absurd h
played_more B s (Q ∷ Ps) (x ∷ os) P o h e p = (h.0, played_more B s Ps os P o h.1 e p)

length_push : {A : Type 0} (xs : List A) (x : A) → length (xs ++ x ∷ []) ≡ length xs + 1
length_push {A} [] x = refl
length_push {A} (y ∷ xs) x = let h = length_push xs x in omega (arith, h)

get_seam : {A B : Type 0} (f : A → B) (xs ys : List A) (x : A) → slice_get (map f (xs ++ x ∷ ys)) (length xs) ≡ Some (f x)
get_seam {A} {B} f [] ys x = refl
get_seam {A} {B} f (z ∷ xs) ys x = get_seam f xs ys x

-- the next problem of the loop
pub played_next : (B : ℕ) (s : Sort) (Ps done rest rest' : List WrittenProblem) (os new : List Solved) (P : WrittenProblem) (o : Solved) → ArePlayed B s (map problem_of Ps) os → length os ≡ length done → Ps ≡ done ++ rest →
    rest ≡ P ∷ rest' → IsSolved B s (problem_of P) (TrueP s (problem_of P)) o → new ≡ os ++ o ∷ [] →
    ArePlayed B s (map problem_of Ps) new × (length new ≡ length (done ++ P ∷ [])) × (Ps ≡ (done ++ P ∷ []) ++ rest')
played_next B s Ps done rest rest' os new P o a n e r p q =
    let parted : Ps ≡ done ++ P ∷ rest' = e ∙ ap (λ (xs : List WrittenProblem). done ++ xs) r in
    let there : slice_get (map problem_of Ps) (length os) ≡ Some (problem_of P) =
    ap (slice_get (map problem_of Ps)) n ∙ ap (λ (xs : List WrittenProblem). slice_get (map problem_of xs) (length done)) parted ∙ get_seam problem_of done rest' P in (
      subst (λ (xs : List Solved). ArePlayed B s (map problem_of Ps) xs) (sym q) (played_more B s (map problem_of Ps) os (problem_of P) o a there p),
      ap length q ∙ length_push os o ∙ ap (λ k. k + 1) n ∙ sym (length_push done P),
      parted ∙ sym (append_assoc done (P ∷ []) rest'),
    )

pub played_all : (Ps done rest : List WrittenProblem) (os : List Solved) → length os ≡ length done → Ps ≡ done ++ rest → length rest ≤ 0 → length os ≡ length Ps
played_all Ps done [] os n e h = n ∙ sym (ap length (e ∙ append-nil done))
played_all Ps done (x ∷ rest) os n e h = absurd (let z : suc (length rest) ≤ 0 = h in omega (arith, z))

-- the prefixes of problems as they are written
pub prefix_of_each : (Ps : List WrittenProblem) → map (λ (P : Problem). P.prefix) (map problem_of Ps) ≡ map (λ (P : WrittenProblem). P.prefix) Ps
prefix_of_each [] = refl
prefix_of_each (P ∷ Ps) = ap (λ (qs : List (List Quant)). P.prefix ∷ qs) (prefix_of_each Ps)

-- the outcome of a problem by its place
pub played_at : (B : ℕ) (s : Sort) (Ps : List Problem) (os : List Solved) → ArePlayed B s Ps os → (k : ℕ) (o : Solved) → slice_get os k ≡ Some o → (P : Problem) × (slice_get Ps k ≡ Some P) × IsSolved B s P (TrueP s P) o
played_at B s Ps [] h k o e = absurd (cc)
played_at B s [] (x ∷ os) h k o e = absurd h
played_at B s (P ∷ Ps) (x ∷ os) h zero o e = (P, refl, subst (λ (y : Solved). IsSolved B s P (TrueP s P) y) (same_some x o e) h.0)
played_at B s (P ∷ Ps) (x ∷ os) h (suc k) o e = played_at B s Ps os h.1 k o e
