-- The turns that fit a prefix, one after the other.
use Rattle.std.specs.Prelude.{ℕ, suc, ◌+◌, ◌<◌, ◌≤◌, ◌≡◌, ◌≢◌, Bool, true, false, List, [], ◌∷◌, drop, get_or, length}
use Rattle.std.proofs.Common.{ap, ap₂, ◌∙◌, sym, refl}
use Rattle.std.proofs.lemmas.List.{drop_more, drop_all}
use Rattle.dom_core.specs.declared.Quant.{Quant}
use Rattle.dom_core.specs.declared.Quant.TheVariants.{Exists}
use Rattle.strat_check.specs.Section.{is_mine, turns_of, same_turns}

pub turns_equal : (ts us : List Bool) → same_turns ts us ≡ true → ts ≡ us
turns_equal [] [] h = refl
turns_equal [] (u ∷ us) h = absurd (cc)
turns_equal (t ∷ ts) [] h = absurd (cc)
turns_equal (true ∷ ts) (true ∷ us) h = ap (λ (x : List Bool). true ∷ x) (turns_equal ts us h)
turns_equal (true ∷ ts) (false ∷ us) h = absurd (cc)
turns_equal (false ∷ ts) (true ∷ us) h = absurd (cc)
turns_equal (false ∷ ts) (false ∷ us) h = ap (λ (x : List Bool). false ∷ x) (turns_equal ts us h)

pub equal_turns : (ts : List Bool) → same_turns ts ts ≡ true
equal_turns [] = refl
equal_turns (true ∷ ts) = equal_turns ts
equal_turns (false ∷ ts) = equal_turns ts

length-turns : (qs : List Quant) → length (turns_of qs) ≡ length qs
length-turns [] = refl
length-turns (q ∷ qs) = ap suc (length-turns qs)

not_true : (b : Bool) → ¬ (b ≡ true) → b ≡ false
not_true true h = absurd (h refl)
not_true false h = refl

-- lists of two lengths do not fit
pub other_lengths : (ts : List Bool) (qs : List Quant) → length ts ≢ length qs → same_turns ts (turns_of qs) ≡ false
other_lengths ts qs h = not_true (same_turns ts (turns_of qs)) (λ e. h (ap length (turns_equal ts (turns_of qs) e) ∙ length-turns qs))

both_heads : (t u : Bool) (ts us : List Bool) → t ≡ u → same_turns (t ∷ ts) (u ∷ us) ≡ same_turns ts us
both_heads true true ts us e = refl
both_heads true false ts us e = absurd (cc)
both_heads false true ts us e = absurd (cc)
both_heads false false ts us e = refl

other_heads : (t u : Bool) (ts us : List Bool) → t ≢ u → same_turns (t ∷ ts) (u ∷ us) ≡ false
other_heads true true ts us h = absurd (h refl)
other_heads true false ts us h = refl
other_heads false true ts us h = refl
other_heads false false ts us h = absurd (h refl)

heads : (ts : List Bool) (qs : List Quant) (i : ℕ) → i < length ts → i < length qs →
    same_turns (drop i ts) (turns_of (drop i qs)) ≡ same_turns (get_or ts i false ∷ drop (i + 1) ts) (is_mine (get_or qs i Exists) ∷ turns_of (drop (i + 1) qs))
heads ts qs i l k = ap₂ (λ (a : List Bool) (b : List Quant). same_turns a (turns_of b)) (drop_more ts i false l) (drop_more qs i Exists k)

-- a turn that fits
pub turn_fits : (ts : List Bool) (qs : List Quant) (i : ℕ) → i < length ts → i < length qs → get_or ts i false ≡ is_mine (get_or qs i Exists) →
    same_turns (drop (i + 1) ts) (turns_of (drop (i + 1) qs)) ≡ same_turns (drop i ts) (turns_of (drop i qs))
turn_fits ts qs i l k e =
    sym (heads ts qs i l k ∙ both_heads (get_or ts i false) (is_mine (get_or qs i Exists)) (drop (i + 1) ts) (turns_of (drop (i + 1) qs)) e)

-- one that does not
pub turn_differs : (ts : List Bool) (qs : List Quant) (i : ℕ) → i < length ts → i < length qs → get_or ts i false ≢ is_mine (get_or qs i Exists) →
    same_turns (drop i ts) (turns_of (drop i qs)) ≡ false
turn_differs ts qs i l k h =
    heads ts qs i l k ∙ other_heads (get_or ts i false) (is_mine (get_or qs i Exists)) (drop (i + 1) ts) (turns_of (drop (i + 1) qs)) h

pub turns_end : (ts : List Bool) (qs : List Quant) (i : ℕ) → length ts ≤ i → length qs ≤ i → same_turns (drop i ts) (turns_of (drop i qs)) ≡ true
turns_end ts qs i l k = ap₂ (λ (a : List Bool) (b : List Quant). same_turns a (turns_of b)) (drop_all i ts l) (drop_all i qs k)
