-- Counting in order gives the blocks of the prefix.
use Rattle.std.specs.Prelude.{ℕ, zero, suc, ◌+◌, ◌≡◌, List, [], ◌∷◌, Bool, true, false, ◌||◌, cond}
use Rattle.std.proofs.Common.{arith, ap, ap₂, ◌∙◌, sym, refl}
use Rattle.norm_form.specs.Normal.{Normal, one_lit, each_of, some_of, for_all, there_is, Normals, no_part, part}
use Rattle.prenex_form.specs.Prenex.{merge, front_exists, front_forall, prenex, prenex_parts}
use Rattle.prenex_form.specs.Pass.{leads, any_leads, under_all, bump, taken, taken_parts}

abbrev pub zeros : ℕ → List ℕ → List ℕ
zeros zero bs = bs
zeros (suc d) bs = 0 ∷ zeros d bs

-- blocks that begin at d
abbrev pub shift : ℕ → List ℕ → List ℕ
shift d [] = []
shift d (b ∷ bs) = zeros d (b ∷ bs)

merge_none : (bs : List ℕ) → merge bs [] ≡ bs
merge_none [] = refl
merge_none (b ∷ bs) = refl

merge_assoc : (xs bs cs : List ℕ) → merge (merge xs bs) cs ≡ merge xs (merge bs cs)
merge_assoc [] bs cs = refl
merge_assoc (x ∷ xs) [] cs = refl
merge_assoc (x ∷ xs) (b ∷ bs) [] = refl
merge_assoc (x ∷ xs) (b ∷ bs) (c ∷ cs) =
    let e : (x + b) + c ≡ x + (b + c) = omega arith in ap₂ (λ (y : ℕ) (ys : List ℕ). y ∷ ys) e (merge_assoc xs bs cs)

zeros_merge : (d : ℕ) (bs cs : List ℕ) → merge (zeros d bs) (zeros d cs) ≡ zeros d (merge bs cs)
zeros_merge zero bs cs = refl
zeros_merge (suc d) bs cs = ap (λ (xs : List ℕ). 0 ∷ xs) (zeros_merge d bs cs)

zeros_suc : (d : ℕ) (bs : List ℕ) → 0 ∷ zeros d bs ≡ zeros d (0 ∷ bs)
zeros_suc zero bs = refl
zeros_suc (suc d) bs = ap (λ (xs : List ℕ). 0 ∷ xs) (zeros_suc d bs)

pub shift_zero : (bs : List ℕ) → shift zero bs ≡ bs
shift_zero [] = refl
shift_zero (b ∷ bs) = refl

shift_merge : (d : ℕ) (bs cs : List ℕ) → merge (shift d bs) (shift d cs) ≡ shift d (merge bs cs)
shift_merge d [] cs = refl
shift_merge d (b ∷ bs) [] = merge_none (zeros d (b ∷ bs))
shift_merge d (b ∷ bs) (c ∷ cs) = zeros_merge d (b ∷ bs) (c ∷ cs)

bump_is : (next : List ℕ) (i : ℕ) → bump next i ≡ merge next (zeros i (1 ∷ []))
bump_is [] zero = refl
bump_is [] (suc i) = ap (λ (xs : List ℕ). 0 ∷ xs) (bump_is [] i)
bump_is (x ∷ xs) zero = let e : suc x ≡ x + 1 = omega arith in ap₂ (λ (y : ℕ) (ys : List ℕ). y ∷ ys) e (sym (merge_none xs))
bump_is (x ∷ xs) (suc i) = let e : x ≡ x + 0 = omega arith in ap₂ (λ (y : ℕ) (ys : List ℕ). y ∷ ys) e (bump_is xs i)

-- ---- whether the first block holds a variable

abbrev is_led : List ℕ → Bool
is_led [] = false
is_led (zero ∷ bs) = false
is_led (suc b ∷ bs) = true

led_merge : (bs cs : List ℕ) → is_led (merge bs cs) ≡ is_led bs || is_led cs
led_merge [] cs = refl
led_merge (zero ∷ bs) [] = refl
led_merge (suc b ∷ bs) [] = refl
led_merge (zero ∷ bs) (zero ∷ cs) = refl
led_merge (zero ∷ bs) (suc c ∷ cs) = let e : zero + suc c ≡ suc c = omega arith in ap (λ (x : ℕ). is_led (x ∷ merge bs cs)) e
led_merge (suc b ∷ bs) (c ∷ cs) = let e : suc b + c ≡ suc (b + c) = omega arith in ap (λ (x : ℕ). is_led (x ∷ merge bs cs)) e

led_exists : (bs : List ℕ) → is_led (front_exists bs) ≡ true
led_exists [] = refl
led_exists (b ∷ bs) = refl

led_forall : (bs : List ℕ) → is_led (front_forall bs) ≡ false
led_forall [] = refl
led_forall (zero ∷ []) = refl
led_forall (zero ∷ c ∷ bs) = refl
led_forall (suc b ∷ bs) = refl

mutual
  leads_is : (n : Normal) (k : ℕ) → leads n ≡ is_led (prenex n k).blocks
  leads_is (one_lit l) k = refl
  leads_is (each_of ns) k = any_leads_is ns k
  leads_is (some_of ns) k = any_leads_is ns k
  leads_is (for_all n) k = sym (led_forall (prenex n (suc k)).blocks)
  leads_is (there_is n) k = sym (led_exists (prenex n (suc k)).blocks)

  any_leads_is : (ns : Normals) (k : ℕ) → any_leads ns ≡ is_led (prenex_parts ns k).blocks
  any_leads_is no_part k = refl
  any_leads_is (part n ns) k =
      ap₂ (λ (a b : Bool). a || b) (leads_is n k) (any_leads_is ns k) ∙ sym (led_merge (prenex n k).blocks (prenex_parts ns k).blocks)

-- ---- one more variable in front

exists_merge : (d : ℕ) (bs : List ℕ) → merge (zeros d (1 ∷ [])) (shift d bs) ≡ shift d (front_exists bs)
exists_merge d [] = merge_none (zeros d (1 ∷ []))
exists_merge d (b ∷ bs) =
    let e : 1 + b ≡ suc b = omega arith in
    zeros_merge d (1 ∷ []) (b ∷ bs) ∙ ap (λ (x : ℕ). zeros d (x ∷ bs)) e

abbrev pub after_all : List ℕ → ℕ → ℕ
after_all bs d = cond (is_led bs) (suc (suc d)) d

forall_merge : (d : ℕ) (bs : List ℕ) → merge (zeros d (0 ∷ 1 ∷ [])) (shift (after_all bs d) bs) ≡ shift d (front_forall bs)
forall_merge d [] = merge_none (zeros d (0 ∷ 1 ∷ []))
forall_merge d (zero ∷ []) = zeros_merge d (0 ∷ 1 ∷ []) (0 ∷ [])
forall_merge d (zero ∷ c ∷ bs) =
    let e : 1 + c ≡ suc c = omega arith in
    zeros_merge d (0 ∷ 1 ∷ []) (0 ∷ c ∷ bs) ∙ ap (λ (x : ℕ). zeros d (0 ∷ x ∷ bs)) e
forall_merge d (suc b ∷ bs) =
    ap (λ (xs : List ℕ). merge (zeros d (0 ∷ 1 ∷ [])) xs) (zeros_suc (suc d) (suc b ∷ bs) ∙ zeros_suc d (0 ∷ suc b ∷ bs))
    ∙ zeros_merge d (0 ∷ 1 ∷ []) (0 ∷ 0 ∷ suc b ∷ bs)

pub under_all_is : (n : Normal) (d k : ℕ) → under_all n d ≡ after_all (prenex n k).blocks d
under_all_is n d k = ap (λ (b : Bool). cond b (suc (suc d)) d) (leads_is n k)

mutual
  pub taken_is : (n : Normal) (d k : ℕ) (next : List ℕ) → taken n d next ≡ merge next (shift d (prenex n k).blocks)
  taken_is (one_lit l) d k next = sym (merge_none next)
  taken_is (each_of ns) d k next = taken_parts_are ns d k next
  taken_is (some_of ns) d k next = taken_parts_are ns d k next
  taken_is (for_all n) d k next =
      let bs = (prenex n (suc k)).blocks in
      taken_is n (under_all n d) (suc k) (bump next (suc d))
      ∙ ap₂ (λ (xs : List ℕ) (e : ℕ). merge xs (shift e bs)) (bump_is next (suc d) ∙ ap (λ (xs : List ℕ). merge next xs) (zeros_suc d (1 ∷ []))) (under_all_is n d (suc k))
      ∙ merge_assoc next (zeros d (0 ∷ 1 ∷ [])) (shift (after_all bs d) bs)
      ∙ ap (λ (xs : List ℕ). merge next xs) (forall_merge d bs)
  taken_is (there_is n) d k next =
      let bs = (prenex n (suc k)).blocks in
      taken_is n d (suc k) (bump next d)
      ∙ ap (λ (xs : List ℕ). merge xs (shift d bs)) (bump_is next d)
      ∙ merge_assoc next (zeros d (1 ∷ [])) (shift d bs)
      ∙ ap (λ (xs : List ℕ). merge next xs) (exists_merge d bs)

  pub taken_parts_are : (ns : Normals) (d k : ℕ) (next : List ℕ) → taken_parts ns d next ≡ merge next (shift d (prenex_parts ns k).blocks)
  taken_parts_are no_part d k next = sym (merge_none next)
  taken_parts_are (part n ns) d k next =
      let bs = (prenex n k).blocks in
      let cs = (prenex_parts ns k).blocks in
      taken_parts_are ns d k (taken n d next)
      ∙ ap (λ (xs : List ℕ). merge xs (shift d cs)) (taken_is n d k next)
      ∙ merge_assoc next (shift d bs) (shift d cs)
      ∙ ap (λ (xs : List ℕ). merge next xs) (shift_merge d bs cs)

-- counted from nothing
pub counted_blocks : (n : Normal) (k : ℕ) → taken n 0 [] ≡ (prenex n k).blocks
counted_blocks n k = taken_is n 0 k [] ∙ shift_zero (prenex n k).blocks
