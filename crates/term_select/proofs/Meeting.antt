-- The branches of one node: what is selected below each, and what is made of all.
use Rattle.std.specs.Prelude.{ℕ, suc, ◌+◌, ◌≡◌, ℤ, Ok, Err, List, [], ◌∷◌, ◌++◌, map, length}
use Rattle.std.proofs.Common.{arith, ap, ap₂, ◌∙◌, sym, subst, refl, append_assoc, append-nil}
use Rattle.std.proofs.lemmas.List.{map-append}
use Rattle.lin_term.specs.declared.Sort.{Sort}
use Rattle.lin_term.specs.declared.Short.{Short}
use Rattle.lin_term.specs.declared.Short.TheVariants as short
use Rattle.lin_term.specs.declared.Lit.{Lit}
use Rattle.lin_term.specs.Linear.{Point, extend, Below}
use Rattle.lin_term.specs.Move.{Move}
use Rattle.lin_term.specs.PutIn.{substituted}
use Rattle.lin_term.specs.Literal.{IsPrimitive, form_of}
use Rattle.lin_term.specs.Primable.{IsPrimable}
use Rattle.std.specs.List.{AllByRecursion}
use Rattle.dom_core.specs.Cube.{IsPrimitiveCube}
use Rattle.dom_core.specs.Game.{Matrix}
use Rattle.dom_core.specs.PutMove.{with_new, remainder, evenness}
use Rattle.game_tree.specs.declared.Tree.{Tree}
use Rattle.game_tree.specs.Skeleton.{Skeleton, theirs, Branches, no_more, branch, nodes, branch_nodes}
use Rattle.game_tree.specs.View.{skeleton_of}
use Rattle.dom_core.proofs.PutMoves.{new_each}
use Rattle.term_select.specs.declared.part.Met.{Met}
use Rattle.term_select.specs.declared.part.Part.{Part}
use Rattle.term_select.specs.declared.part.Stop.{Stop}
use Rattle.term_select.specs.Guided.{Chosen, value_of, first_wide, with_move, joined, under_theirs, guided_from, guided_branches, guided_rest}
use Rattle.game_tree.specs.Union.{union_all}
use Rattle.term_select.specs.Unions.{union_of_all}
use Rattle.term_select.specs.Walk.{Gives, CanSelectEach, IsKeptCube}
use Rattle.term_select.proofs.Repeats.{new_append, new_again}
use Rattle.term_select.proofs.Wides.{wide_later, wide_first}
use Rattle.term_select.proofs.Going.{can_others}

-- ---- what is selected below each branch

abbrev pub one_part : Sort → Matrix → Point → ℕ → ℕ → Point → Move → Skeleton → Chosen
one_part s M p x v e mv U = with_move s x mv e (guided_from U s M p (suc x) (suc v) (extend e (value_of p v)))

abbrev pub parts_of : Branches → Sort → Matrix → Point → ℕ → ℕ → Point → List Chosen
parts_of no_more s M p x v e = []
parts_of (branch mv U bs) s M p x v e = one_part s M p x v e mv U ∷ parts_of bs s M p x (suc v + nodes U) e

abbrev pub cubes_of : List Chosen → List Lit
cubes_of [] = []
cubes_of (f ∷ fs) = f.cube ++ cubes_of fs

abbrev pub trees_of : List Chosen → List Skeleton
trees_of [] = []
trees_of (f ∷ fs) = f.tree ∷ trees_of fs

abbrev pub numbers_of : List Chosen → List (ℕ × ℤ)
numbers_of [] = []
numbers_of (f ∷ fs) = f.numbers ++ numbers_of fs

abbrev join_with : Chosen → List Chosen → Chosen
join_with f [] = f
join_with f (g ∷ gs) = join_with (joined f g) gs

rest_joined : (bs : Branches) (s : Sort) (M : Matrix) (p : Point) (x v : ℕ) (e : Point) (f : Chosen) → guided_rest bs s M p x v e f ≡ join_with f (parts_of bs s M p x v e)
rest_joined no_more s M p x v e f = refl
rest_joined (branch mv U bs) s M p x v e f = rest_joined bs s M p x (suc v + nodes U) e (joined f (one_part s M p x v e mv U))

join_cube : (gs : List Chosen) (f : Chosen) (ls : List Lit) → f.cube ≡ with_new [] ls → (join_with f gs).cube ≡ with_new [] (ls ++ cubes_of gs)
join_cube [] f ls h = h ∙ ap (λ (c : List Lit). with_new [] c) (sym (append-nil ls))
join_cube (g ∷ gs) f ls h =
    join_cube gs (joined f g) (ls ++ g.cube) (ap (λ (c : List Lit). with_new c g.cube) h ∙ sym (new_append [] ls g.cube))
    ∙ ap (λ (c : List Lit). with_new [] c) (append_assoc ls g.cube (cubes_of gs))

join_tree : (gs : List Chosen) (f : Chosen) → (join_with f gs).tree ≡ union_all f.tree (trees_of gs)
join_tree [] f = refl
join_tree (g ∷ gs) f = join_tree gs (joined f g)

join_numbers : (gs : List Chosen) (f : Chosen) → (join_with f gs).numbers ≡ f.numbers ++ numbers_of gs
join_numbers [] f = sym (append-nil f.numbers)
join_numbers (g ∷ gs) f = join_numbers gs (joined f g) ∙ append_assoc f.numbers g.numbers (numbers_of gs)

part_distinct : (s : Sort) (M : Matrix) (p : Point) (x v : ℕ) (e : Point) (mv : Move) (U : Skeleton) → (one_part s M p x v e mv U).cube ≡ with_new [] (one_part s M p x v e mv U).cube
part_distinct s M p x v e mv U =
    let r = remainder s mv e in
    sym (new_again (map (λ l. substituted s l x mv r) (guided_from U s M p (suc x) (suc v) (extend e (value_of p v))).cube ++ evenness s mv r))

-- ---- what is made of all

pub branches_cube : (bs : Branches) (s : Sort) (M : Matrix) (p : Point) (x v : ℕ) (e : Point) → (guided_branches bs s M p x v e).cube ≡ with_new [] (cubes_of (parts_of bs s M p x v e))
branches_cube no_more s M p x v e = refl
branches_cube (branch mv U bs) s M p x v e =
    let f = one_part s M p x v e mv U in
    let gs = parts_of bs s M p x (suc v + nodes U) e in
    ap (λ (g : Chosen). g.cube) (rest_joined bs s M p x (suc v + nodes U) e f) ∙ join_cube gs f f.cube (part_distinct s M p x v e mv U)

pub branches_tree : (bs : Branches) (s : Sort) (M : Matrix) (p : Point) (x v : ℕ) (e : Point) → (guided_branches bs s M p x v e).tree ≡ union_of_all (trees_of (parts_of bs s M p x v e))
branches_tree no_more s M p x v e = refl
branches_tree (branch mv U bs) s M p x v e =
    let f = one_part s M p x v e mv U in
    ap (λ (g : Chosen). g.tree) (rest_joined bs s M p x (suc v + nodes U) e f) ∙ join_tree (parts_of bs s M p x (suc v + nodes U) e) f

pub branches_numbers : (bs : Branches) (s : Sort) (M : Matrix) (p : Point) (x v : ℕ) (e : Point) → (guided_branches bs s M p x v e).numbers ≡ numbers_of (parts_of bs s M p x v e)
branches_numbers no_more s M p x v e = refl
branches_numbers (branch mv U bs) s M p x v e =
    let f = one_part s M p x v e mv U in
    ap (λ (g : Chosen). g.numbers) (rest_joined bs s M p x (suc v + nodes U) e f) ∙ join_numbers (parts_of bs s M p x (suc v + nodes U) e) f

-- ---- the loop

-- what is there so far, and what the branches from here on will add to it
pub record Walked (s : Sort) (M : Matrix) (p e : Point) (names : List ℕ) (met : Met) (rest all : Branches) (v : ℕ) : Type 0 where
  pub lits : met.lits ++ cubes_of (parts_of rest s M p (length names) met.next e) ≡ cubes_of (parts_of all s M p (length names) v e)
  pub trees : map skeleton_of met.trees.items ++ trees_of (parts_of rest s M p (length names) met.next e) ≡ trees_of (parts_of all s M p (length names) v e)
  pub numbers : first_wide (numbers_of (parts_of all s M p (length names) v e)) ≡ first_wide (numbers_of (parts_of rest s M p (length names) met.next e))
  pub next : met.next + branch_nodes rest ≡ v + branch_nodes all
  pub can : CanSelectEach s M p rest met.next names
  pub kept : IsKeptCube s (length names) met.lits

both_kept : (s : Sort) (n : ℕ) (c d : List Lit) → IsKeptCube s n c → IsKeptCube s n d → IsKeptCube s n (c ++ d)
both_kept s n [] d h k = k
both_kept s n (l ∷ c) d h k =
    let r = both_kept s n c d (record { primitive = h.primitive.2; below = h.below.1 }) k in
    record { primitive = (h.primitive.0, h.primitive.1, r.primitive); below = (h.below.0, r.below) }

pub walked_first : (s : Sort) (M : Matrix) (p e : Point) (names : List ℕ) (met : Met) (all : Branches) (v : ℕ) → CanSelectEach s M p all v names → met.lits ≡ [] → met.trees.items ≡ [] → met.next ≡ v → Walked s M p e names met all all v
walked_first s M p e names met all v c l t n =
    let x : ℕ = length names in
    record {
      lits = ap₂ (λ (ls : List Lit) (k : ℕ). ls ++ cubes_of (parts_of all s M p x k e)) l n;
      trees = ap₂ (λ (ts : List Tree) (k : ℕ). map skeleton_of ts ++ trees_of (parts_of all s M p x k e)) t n;
      numbers = ap (λ (k : ℕ). first_wide (numbers_of (parts_of all s M p x k e))) (sym n);
      next = ap (λ (k : ℕ). k + branch_nodes all) n;
      can = subst (λ (k : ℕ). CanSelectEach s M p all k names) (sym n) c;
      kept = subst (λ (ls : List Lit). IsKeptCube s x ls) (sym l) (record { primitive = tt; below = tt });
    }

pub walked_more : (s : Sort) (M : Matrix) (p e : Point) (names : List ℕ) (met new : Met) (mv : Move) (U : Skeleton) (rest all : Branches) (v : ℕ) (part : Part) → Walked s M p e names met (branch mv U rest) all v → Gives (one_part s M p (length names) met.next e mv U) (suc met.next + nodes U) (Ok part) → IsKeptCube s (length names) part.cube
    → new.lits ≡ met.lits ++ part.cube → new.trees.items ≡ met.trees.items ++ part.tree ∷ [] → new.next ≡ part.next → Walked s M p e names new rest all v
walked_more s M p e names met new mv U rest all v part w g k el et en =
    let x : ℕ = length names in
    let f = one_part s M p x met.next e mv U in
    let gs = parts_of rest s M p x (suc met.next + nodes U) e in
    let n : new.next ≡ suc met.next + nodes U = en ∙ g.3 in
    record {
      lits = ap₂ (λ (c : List Lit) (j : ℕ). c ++ cubes_of (parts_of rest s M p x j e)) (el ∙ ap (λ (c : List Lit). met.lits ++ c) g.1) n ∙ append_assoc met.lits f.cube (cubes_of gs) ∙ w.lits;
      trees = ap₂ (λ (Ts : List Skeleton) (j : ℕ). Ts ++ trees_of (parts_of rest s M p x j e))
          (ap (λ (ts : List Tree). map skeleton_of ts) et ∙ map-append skeleton_of met.trees.items (part.tree ∷ []) ∙ ap (λ (T : Skeleton). map skeleton_of met.trees.items ++ T ∷ []) g.2) n
          ∙ append_assoc (map skeleton_of met.trees.items) (f.tree ∷ []) (trees_of gs) ∙ w.trees;
      numbers = w.numbers ∙ wide_later f.numbers (numbers_of gs) g.0 ∙ ap (λ (j : ℕ). first_wide (numbers_of (parts_of rest s M p x j e))) (sym n);
      next = (let b : met.next + ((1 + nodes U) + branch_nodes rest) ≡ v + branch_nodes all = w.next in omega (arith, n, b));
      can = subst (λ (j : ℕ). CanSelectEach s M p rest j names) (sym n) (can_others s M p mv U rest met.next names w.can);
      kept = subst (λ (c : List Lit). IsKeptCube s x c) (sym el) (both_kept s x met.lits part.cube w.kept k);
    }

pub walked_short : (s : Sort) (M : Matrix) (p e : Point) (names : List ℕ) (met : Met) (mv : Move) (U : Skeleton) (rest all : Branches) (v n k : ℕ) (fault : Short Stop) → Walked s M p e names met (branch mv U rest) all v → Gives (one_part s M p (length names) met.next e mv U) n (Err fault) → Gives (under_theirs (guided_branches all s M p (length names) v e)) k (Err fault)
walked_short s M p e names met mv U rest all v n k (short.Fault stop) w g =
    let x : ℕ = length names in
    ap first_wide (branches_numbers all s M p x v e) ∙ w.numbers ∙ wide_first (one_part s M p x met.next e mv U).numbers (numbers_of (parts_of rest s M p x (suc met.next + nodes U) e)) (stop.var, stop.number) g
walked_short s M p e names met mv U rest all v n k short.Memory w g = tt

pub walked_last : (s : Sort) (M : Matrix) (p e : Point) (names : List ℕ) (met : Met) (all : Branches) (v : ℕ) (part : Part) → Walked s M p e names met no_more all v → part.cube ≡ with_new [] met.lits → skeleton_of part.tree ≡ theirs (union_of_all (map skeleton_of met.trees.items)) → part.next ≡ met.next → Gives (under_theirs (guided_branches all s M p (length names) v e)) (v + branch_nodes all) (Ok part)
walked_last s M p e names met all v part w c t n =
    let x : ℕ = length names in (
      ap first_wide (branches_numbers all s M p x v e) ∙ w.numbers,
      c ∙ ap (λ (ls : List Lit). with_new [] ls) (sym (append-nil met.lits) ∙ w.lits) ∙ sym (branches_cube all s M p x v e),
      t ∙ ap (λ (Ts : List Skeleton). theirs (union_of_all Ts)) (sym (append-nil (map skeleton_of met.trees.items)) ∙ w.trees) ∙ ap theirs (sym (branches_tree all s M p x v e)),
      n ∙ (let a : met.next + 0 ≡ v + branch_nodes all = w.next in let b : met.next ≡ v + branch_nodes all = omega arith in b),
    )

-- the literals of all branches are kept, each once
pub once_kept : (s : Sort) (n : ℕ) (c d : List Lit) → c ≡ with_new [] d → IsKeptCube s n d → IsKeptCube s n c
once_kept s n c d e k =
    subst (λ (b : List Lit). IsKeptCube s n b) (sym e) (record { primitive = primitives s (with_new [] d) (new_each (λ l. IsPrimitive s l × IsPrimable s l) [] d tt (each s d k.primitive)); below = new_each (λ l. Below n (form_of l)) [] d tt k.below })
  where
    each : (s : Sort) (c : List Lit) → IsPrimitiveCube s c → AllByRecursion (λ l. IsPrimitive s l × IsPrimable s l) c
    each s [] h = tt
    each s (l ∷ c) h = ((h.0, h.1), each s c h.2)

    primitives : (s : Sort) (c : List Lit) → AllByRecursion (λ l. IsPrimitive s l × IsPrimable s l) c → IsPrimitiveCube s c
    primitives s [] h = tt
    primitives s (l ∷ c) h = (h.0.0, h.0.1, primitives s c h.1)
