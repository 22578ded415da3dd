-- There is room for all counts, and the names of each path ascend.
use Rattle.std.specs.Prelude.{ℕ, zero, suc, ◌+◌, ◌*◌, ◌≡◌, ◌≤◌, List, [], ◌∷◌, ◌++◌, length, get_or, Bool, true, false, cond}
use Rattle.std.proofs.Common.{arith, ◌∙◌, sym, subst, refl}
use Rattle.std.proofs.lemmas.List.{append-nil}
use Rattle.lin_term.specs.declared.Sort.{Sort}
use Rattle.lin_term.specs.Linear.{Below}
use Rattle.lin_term.specs.Literal.{form_of}
use Rattle.dom_core.specs.declared.Quant.TheVariants.{Exists}
use Rattle.norm_form.specs.Normal.{Normal, one_lit, each_of, some_of, for_all, there_is, Normals, no_part, part, IsNormal, AreNormal}
use Rattle.norm_form.specs.Load.{weigh, weigh_all}
use Rattle.norm_form.specs.Outcome.{binder_rate}
use Rattle.prenex_form.specs.Prenex.{Mark, left, right, merge, marks, prenex, prenex_parts}
use Rattle.prenex_form.specs.Pass.{leads, under_all, bump, taken, taken_parts, starts, from, places, sum_of, IsPath, HasRoom, HaveRoom, CanPut, CanPutAll}
use Rattle.prenex_form.proofs.Handing.{lefts_of, rights_of, left_places, right_behind, after_left, all_own, there_own, push_count, starts_places}

-- ---- room

bump_most : (xs : List ℕ) (i j : ℕ) → get_or (bump xs i) j 0 ≤ get_or xs j 0 + 1
bump_most [] zero zero = omega arith
bump_most [] zero (suc j) = omega arith
bump_most [] (suc i) zero = omega arith
bump_most [] (suc i) (suc j) = bump_most [] i j
bump_most (x ∷ xs) zero zero = omega arith
bump_most (x ∷ xs) zero (suc j) = omega arith
bump_most (x ∷ xs) (suc i) zero = omega arith
bump_most (x ∷ xs) (suc i) (suc j) = bump_most xs i j

mutual
  taken_most : (n : Normal) (d : ℕ) (next : List ℕ) (j : ℕ) → get_or (taken n d next) j 0 ≤ get_or next j 0 + weigh n binder_rate
  taken_most (one_lit l) d next j = omega arith
  taken_most (each_of ns) d next j = let h = taken_parts_most ns d next j in omega arith
  taken_most (some_of ns) d next j = let h = taken_parts_most ns d next j in omega arith
  taken_most (for_all n) d next j =
      let h = taken_most n (under_all n d) (bump next (suc d)) j in let b = bump_most next (suc d) j in omega arith
  taken_most (there_is n) d next j =
      let h = taken_most n d (bump next d) j in let b = bump_most next d j in omega arith

  taken_parts_most : (ns : Normals) (d : ℕ) (next : List ℕ) (j : ℕ) → get_or (taken_parts ns d next) j 0 ≤ get_or next j 0 + weigh_all ns binder_rate
  taken_parts_most no_part d next j = omega arith
  taken_parts_most (part n ns) d next j =
      let h = taken_most n d next j in let k = taken_parts_most ns d (taken n d next) j in omega arith

under_most : (b : Bool) (d : ℕ) → cond b (suc (suc d)) d ≤ d + 2
under_most true d = omega arith
under_most false d = omega arith

mutual
  pub has_room : (n : Normal) (d : ℕ) (next : List ℕ) → ((j : ℕ) → get_or next j 0 + weigh n binder_rate ≤ 4096) → d + 2 * weigh n binder_rate ≤ 4096 → HasRoom n d next
  has_room (one_lit l) d next f h = tt
  has_room (each_of ns) d next f h = have_room ns d next (λ j. let g = f j in omega arith) (omega arith)
  has_room (some_of ns) d next f h = have_room ns d next (λ j. let g = f j in omega arith) (omega arith)
  has_room (for_all n) d next f h =
      let g = f (suc d) in
      let u = under_most (leads n) d in
      (omega arith, omega arith, has_room n (under_all n d) (bump next (suc d)) (λ j. let k = f j in let b = bump_most next (suc d) j in omega arith) (omega arith))
  has_room (there_is n) d next f h =
      let g = f d in
      (omega arith, has_room n d (bump next d) (λ j. let k = f j in let b = bump_most next d j in omega arith) (omega arith))

  pub have_room : (ns : Normals) (d : ℕ) (next : List ℕ) → ((j : ℕ) → get_or next j 0 + weigh_all ns binder_rate ≤ 4096) → d + 2 * weigh_all ns binder_rate ≤ 4096 → HaveRoom ns d next
  have_room no_part d next f h = tt
  have_room (part n ns) d next f h =
      (has_room n d next (λ j. let g = f j in omega arith) (omega arith), have_room ns d (taken n d next) (λ j. let g = f j in let b = taken_most n d next j in omega arith) (omega arith))

starts_most : (s : ℕ) (bs : List ℕ) (j : ℕ) → get_or (starts s bs) j 0 ≤ s + sum_of bs
starts_most s [] j = omega arith
starts_most s (b ∷ bs) zero = omega arith
starts_most s (b ∷ bs) (suc j) = let h = starts_most (s + b) bs j in omega arith

pub counting_room : (n : Normal) → weigh n binder_rate ≤ 1024 → HasRoom n 0 []
counting_room n h = has_room n 0 [] (λ j. omega arith) (omega arith)

pub starting_room : (n : Normal) (bs : List ℕ) → weigh n binder_rate ≤ 1024 → sum_of bs ≤ 1024 → HasRoom n 0 (starts 0 bs)
starting_room n bs h k = has_room n 0 (starts 0 bs) (λ j. let s = starts_most 0 bs j in omega arith) (omega arith)

-- ---- paths

path_less : (n m : ℕ) (is : List ℕ) → n ≤ m → IsPath m is → IsPath n is
path_less n m [] h p = tt
path_less n m (i ∷ is) h p = (omega arith, p.1, p.2)

path_lefts : (n : ℕ) (ms : List Mark) (xs : List ℕ) → IsPath n xs → IsPath n (lefts_of ms xs)
path_lefts n [] xs p = tt
path_lefts n (left q ∷ ms) [] p = tt
path_lefts n (left q ∷ ms) (x ∷ xs) p = (p.0, p.1, path_lefts (x + 1) ms xs p.2)
path_lefts n (right q ∷ ms) [] p = tt
path_lefts n (right q ∷ ms) (x ∷ xs) p = path_lefts n ms xs (path_less n (x + 1) xs (let l = p.0 in omega arith) p.2)

path_rights : (n : ℕ) (ms : List Mark) (xs : List ℕ) → IsPath n xs → IsPath n (rights_of ms xs)
path_rights n [] xs p = tt
path_rights n (right q ∷ ms) [] p = tt
path_rights n (right q ∷ ms) (x ∷ xs) p = (p.0, p.1, path_rights (x + 1) ms xs p.2)
path_rights n (left q ∷ ms) [] p = tt
path_rights n (left q ∷ ms) (x ∷ xs) p = path_rights n ms xs (path_less n (x + 1) xs (let l = p.0 in omega arith) p.2)

path_front : (n : ℕ) (names xs ys : List ℕ) → ((m : ℕ) → IsPath m xs → IsPath m ys) → IsPath n (names ++ xs) → IsPath n (names ++ ys)
path_front n [] xs ys f p = f n p
path_front n (i ∷ is) xs ys f p = (p.0, p.1, path_front (i + 1) is xs ys f p.2)

path_from : (n x c : ℕ) → n ≤ x → x + c ≤ 1024 → IsPath n (from x c)
path_from n x zero h k = tt
path_from n x (suc c) h k = (h, omega arith, path_from (x + 1) (suc x) c (omega arith) (omega arith))

left_path : (names next : List ℕ) (d : ℕ) (bs cs : List ℕ) → IsPath 0 (names ++ places next d (merge bs cs)) → IsPath 0 (names ++ places next d bs)
left_path names next d bs cs p =
    path_front 0 names (places next d (merge bs cs)) (places next d bs) (λ m h. subst (IsPath m) (left_places Exists bs cs next d) (path_lefts m (marks Exists bs cs) (places next d (merge bs cs)) h)) p

right_path : (n : Normal) (names next : List ℕ) (d k : ℕ) (cs : List ℕ) → IsPath 0 (names ++ places next d (merge (prenex n k).blocks cs)) → IsPath 0 (names ++ places (taken n d next) d cs)
right_path n names next d k cs p =
    let bs = (prenex n k).blocks in
    path_front 0 names (places next d (merge bs cs)) (places (taken n d next) d cs) (λ m h. subst (IsPath m) (right_behind Exists bs cs next d ∙ sym (after_left n next d k cs)) (path_rights m (marks Exists bs cs) (places next d (merge bs cs)) h)) p

mutual
  pub can_put : (n : Normal) (s : Sort) (d k : ℕ) (next names : List ℕ) → length names ≡ k → IsNormal n s k → IsPath 0 (names ++ places next d (prenex n k).blocks) → CanPut n d next names
  can_put (one_lit l) s d k next names e o p = (subst (λ (i : ℕ). Below i (form_of l)) (sym e) o.1, subst (IsPath 0) (append-nil names) p)
  can_put (each_of ns) s d k next names e o p = can_put_all ns s d k next names e o p
  can_put (some_of ns) s d k next names e o p = can_put_all ns s d k next names e o p
  can_put (for_all n) s d k next names e o p =
      can_put n s (under_all n d) (suc k) (bump next (suc d)) (names ++ get_or next (suc d) 0 ∷ []) (push_count names (get_or next (suc d) 0) k e) o (subst (IsPath 0) (sym (all_own n names next d k)) p)
  can_put (there_is n) s d k next names e o p =
      can_put n s d (suc k) (bump next d) (names ++ get_or next d 0 ∷ []) (push_count names (get_or next d 0) k e) o (subst (IsPath 0) (sym (there_own n names next d k)) p)

  pub can_put_all : (ns : Normals) (s : Sort) (d k : ℕ) (next names : List ℕ) → length names ≡ k → AreNormal ns s k → IsPath 0 (names ++ places next d (prenex_parts ns k).blocks) → CanPutAll ns d next names
  can_put_all no_part s d k next names e o p = tt
  can_put_all (part n ns) s d k next names e o p = (
    can_put n s d k next names e o.0 (left_path names next d (prenex n k).blocks (prenex_parts ns k).blocks p),
    can_put_all ns s d k (taken n d next) names e o.1 (right_path n names next d k (prenex_parts ns k).blocks p),
  )

-- from the first places of the blocks
pub starting_put : (n : Normal) (s : Sort) → IsNormal n s 0 → sum_of (prenex n 0).blocks ≤ 1024 → CanPut n 0 (starts 0 (prenex n 0).blocks) []
starting_put n s o h =
    can_put n s 0 0 (starts 0 (prenex n 0).blocks) [] refl o
    (subst (IsPath 0) (sym (starts_places 0 (prenex n 0).blocks)) (path_from 0 0 (sum_of (prenex n 0).blocks) (omega arith) (omega arith)))
