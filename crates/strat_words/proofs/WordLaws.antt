-- A word that is read is the one that was written, and what was written is read again.
use Rattle.std.proofs.Common.{◌≡◌, ℕ, ◌+◌, ◌<◌, Bool, true, false, cond, ◌&&◌, eqb, List, [], ◌∷◌, ◌++◌, length, take, Option, Some, None, Result, Ok, Err, refl, sym, ap, subst, ◌∙◌, append_assoc, arith}
use Rattle.std.specs.List.{list_all}
use Rattle.std.specs.Str.{bytes_eq}
use Rattle.std.proofs.lemmas.Bool.{eqb-true, ne_eqb}
use Rattle.std.proofs.lemmas.Slice.Eq.{bytes_eq-Decides}
use Rattle.std.proofs.lemmas.List.{take-append-drop, take_at, drop_at}
use Rattle.strat_words.specs.Many.{made}
pub use Rattle.strat_words.specs.Cut.{Parted}
use Rattle.strat_words.specs.Spot.{Spot, Place, Taken, Read, ◌>>=◌, word_at, first, next, ends, is, fits, word_in, ended, behind, behind_byte, is_of_word, word_len, next_place, last_place}

-- ---- steps that did not fail

pub bind_ok : {A B : Type 0} (r : Result A Place) (f : A → Result B Place) (y : B) → (r >>= f) ≡ Ok y → (x : A) × (r ≡ Ok x) × (f x ≡ Ok y)
bind_ok (Ok x) f y e = (x, refl, e)
bind_ok (Err d) f y e = absurd cc

abbrev pub done : {A : Type 0} → A → Result A Place
done x = Ok x

pub ok_is : {A : Type 0} (x y : A) → done x ≡ done y → x ≡ y
ok_is x y e = cc

pub fits_ok : {A : Type 0} (o : Option A) (s : Spot) (y : A × Spot) → fits o s ≡ Ok y → (o ≡ Some y.0) × (s ≡ y.1)
fits_ok (Some x) s y e = let p = ok_is (x, s) y e in (ap (λ q. Some q.0) p, ap (λ q. q.1) p)
fits_ok None s y e = absurd cc

is_ok_in : (known : List ℕ) (w : List ℕ × Spot) (s : Spot) (b : Bool) → bytes_eq w.0 known ≡ b → cond b (Ok w.1) (Err (last_place w.1)) ≡ done s → done w ≡ Ok (known, s)
is_ok_in known w s true t e = let p : w.1 ≡ s = ok_is w.1 s e in let q : w.0 ≡ known = (bytes_eq-Decides w.0 known).0 t in λ i. Ok (q i, p i)
is_ok_in known w s false t e = absurd cc

pub is_ok : (known : List ℕ) (r : Taken (List ℕ)) (s : Spot) → is known r ≡ Ok s → r ≡ Ok (known, s)
is_ok known (Ok w) s e = is_ok_in known w s (bytes_eq w.0 known) refl e
is_ok known (Err p) s e = absurd cc

-- ---- what a reader took

pub record Takes (s : Spot) (text : List ℕ) (s' : Spot) : Type 0 where
  pub parts : s.rest ≡ text ++ s'.rest

pub Takes-then : (a : Spot) (x : List ℕ) (b : Spot) (y : List ℕ) (c : Spot) → Takes a x b → Takes b y c → Takes a (x ++ y) c
Takes-then a x b y c p q = record { parts = p.parts ∙ ap (λ t. x ++ t) q.parts ∙ sym (append_assoc x y c.rest) }

-- ---- what is read again

pub record Reads {A : Type 0} (r : Taken A) (x : A) (z : List ℕ) : Type 0 where
  pub at : Spot
  pub is : r ≡ Ok (x, at)
  pub rest : at.rest ≡ z

-- the spot behind a step that gives nothing else
pub record Goes (r : Read Spot) (z : List ℕ) : Type 0 where
  pub at : Spot
  pub is : r ≡ Ok at
  pub rest : at.rest ≡ z

-- ---- words

pub both : (a b : Bool) → (a && b) ≡ true → (a ≡ true) × (b ≡ true)
both true b e = (refl, e)
both false b e = absurd cc

pub record IsWord (w : List ℕ) : Type 0 where
  pub some : 0 < length w
  pub all : list_all is_of_word w ≡ true

pub parted_len : (z : List ℕ) → Parted z → word_len z ≡ 0
parted_len [] p = refl
parted_len (c ∷ z) p = rw p refl

pub word_len_all : (w z : List ℕ) → list_all is_of_word w ≡ true → Parted z → word_len (w ++ z) ≡ length w
word_len_all [] z all p = parted_len z p
word_len_all (c ∷ w) z all p =
    let h = both (is_of_word c) (list_all is_of_word w) all in
    rw h.0 (omega (arith, word_len_all w z h.1 p))

guard_ok : {A : Type 0} (b : Bool) (d : Place) (x y : A) → cond b (Err d) (Ok x) ≡ done y → (b ≡ false) × (x ≡ y)
guard_ok true d x y e = absurd cc
guard_ok false d x y e = (refl, ok_is x y e)

pub word_at_ok : (s : Spot) (z : List ℕ) (x : List ℕ × Spot) → word_at s z ≡ Ok x → z ≡ x.0 ++ x.1.rest
unfolding word_at
word_at_ok s z x e =
    let g = guard_ok (eqb (word_len z) 0) (next_place s) (take (word_len z) z, behind s z) x e in
    subst (λ (y : List ℕ × Spot). z ≡ y.0 ++ y.1.rest) g.1 (sym (take-append-drop (word_len z) z))

word_at_here : (s : Spot) (w rest : List ℕ) → IsWord w → Parted rest → Reads (word_at s (w ++ rest)) w rest
unfolding word_at
word_at_here s w rest i p =
    let len : word_len (w ++ rest) ≡ length w = word_len_all w rest i.all p in
    let some : eqb (word_len (w ++ rest)) 0 ≡ false = rw len (ne_eqb (length w) 0 (omega (arith, i.some))) in
    record { at = behind s (w ++ rest); is = rw (some, take_at w rest (word_len (w ++ rest)) (sym len)) refl; rest = drop_at w rest (word_len (w ++ rest)) (sym len) }

pub word_at_again : (s : Spot) (z w rest : List ℕ) → IsWord w → Parted rest → z ≡ w ++ rest → Reads (word_at s z) w rest
word_at_again s z w rest i p e = subst (λ (y : List ℕ). Reads (word_at s y) w rest) (sym e) (word_at_here s w rest i p)

byte_in : (c b : ℕ) (r z : List ℕ) (t : Bool) → eqb c b ≡ t → cond t (Some r) None ≡ Some z → c ∷ r ≡ b ∷ z
byte_in c b r z true h e = let p : c ≡ b = eqb-true c b h in let q : r ≡ z = cc in λ i. p i ∷ q i
byte_in c b r z false h e = absurd cc

behind_byte_is : (b : ℕ) (rest z : List ℕ) → behind_byte b rest ≡ Some z → rest ≡ b ∷ z
behind_byte_is b [] z e = absurd cc
behind_byte_is b (c ∷ r) z e = byte_in c b r z (eqb c b) refl e

word_in_ok : (s : Spot) (o : Option (List ℕ)) (x : List ℕ × Spot) → word_in s o ≡ Ok x → (z : List ℕ) × (o ≡ Some z) × (word_at s z ≡ Ok x)
word_in_ok s (Some z) x e = (z, refl, e)
word_in_ok s None x e = absurd cc

pub first_takes : (s : Spot) (x : List ℕ × Spot) → first s ≡ Ok x → Takes s x.0 x.1
first_takes s x e = record { parts = word_at_ok s s.rest x e }

pub first_again : (s : Spot) (w rest : List ℕ) → IsWord w → Parted rest → s.rest ≡ w ++ rest → Reads (first s) w rest
first_again s w rest i p e = word_at_again s s.rest w rest i p e

pub next_takes : (s : Spot) (x : List ℕ × Spot) → next s ≡ Ok x → Takes s (32 ∷ x.0) x.1
unfolding next
next_takes s x e =
    let h = word_in_ok s (behind_byte 32 s.rest) x e in
    record { parts = behind_byte_is 32 s.rest h.0 h.1 ∙ ap (λ (t : List ℕ). 32 ∷ t) (word_at_ok s h.0 x h.2) }

pub next_again : (s : Spot) (w rest : List ℕ) → IsWord w → Parted rest → s.rest ≡ 32 ∷ (w ++ rest) → Reads (next s) w rest
unfolding next
next_again s w rest i p e =
    let o : behind_byte 32 s.rest ≡ Some (w ++ rest) = ap (behind_byte 32) e in
    subst (λ (y : Option (List ℕ)). Reads (word_in s y) w rest) (sym o) (word_at_here s w rest i p)

ended_ok : (s : Spot) (o : Option (List ℕ)) (s' : Spot) → ended s o ≡ Ok s' → o ≡ Some s'.rest
ended_ok s (Some z) s' e = ap (λ (y : Spot). Some y.rest) (ok_is (record { rest = z; line = s.line + 1; word = 0 }) s' e)
ended_ok s None s' e = absurd cc

pub ends_takes : (s s' : Spot) → ends s ≡ Ok s' → Takes s (10 ∷ []) s'
unfolding ends
ends_takes s s' e = record { parts = behind_byte_is 10 s.rest s'.rest (ended_ok s (behind_byte 10 s.rest) s' e) }

pub ends_again : (s : Spot) (z : List ℕ) → s.rest ≡ 10 ∷ z → Goes (ends s) z
unfolding ends
ends_again s z e =
    let o : behind_byte 10 s.rest ≡ Some z = ap (behind_byte 10) e in
    record { at = record { rest = z; line = s.line + 1; word = 0 }; is = rw o refl; rest = refl }

-- ---- given words

pub is_again : (known : List ℕ) (r : Taken (List ℕ)) (z : List ℕ) → Reads r known z → Goes (is known r) z
is_again known r z h =
    let same : bytes_eq known known ≡ true = (bytes_eq-Decides known known).1 refl in
    record { at = h.at; is = rw (h.is, same) refl; rest = h.rest }

pub first_is_takes : (known : List ℕ) (s s' : Spot) → is known (first s) ≡ Ok s' → Takes s known s'
first_is_takes known s s' e = first_takes s (known, s') (is_ok known (first s) s' e)

pub next_is_takes : (known : List ℕ) (s s' : Spot) → is known (next s) ≡ Ok s' → Takes s (32 ∷ known) s'
next_is_takes known s s' e = next_takes s (known, s') (is_ok known (next s) s' e)

-- ---- one step after the other

pub bind_again : {A B : Type 0} (r : Taken A) (f : A × Spot → Taken B) {x : A} {z : List ℕ} (y : B) (z' : List ℕ) → Reads r x z → ((s : Spot) → s.rest ≡ z → Reads (f (x, s)) y z') → Reads (r >>= f) y z'
bind_again r f y z' h k = subst (λ q. Reads (q >>= f) y z') (sym h.is) (k h.at h.rest)

pub go_again : {B : Type 0} (r : Read Spot) (f : Spot → Taken B) {z : List ℕ} (y : B) (z' : List ℕ) → Goes r z → ((s : Spot) → s.rest ≡ z → Reads (f s) y z') → Reads (r >>= f) y z'
go_again r f y z' h k = subst (λ q. Reads (q >>= f) y z') (sym h.is) (k h.at h.rest)

pub made_again : {A B : Type 0} (f : A → B) (r : Taken A) {x : A} {z : List ℕ} → Reads r x z → Reads (made f r) (f x) z
made_again f r h = record { at = h.at; is = ap (made f) h.is; rest = h.rest }

pub made_ok : {A B : Type 0} (f : A → B) (r : Taken A) (y : B × Spot) → made f r ≡ Ok y → (x : A × Spot) × (r ≡ Ok x) × ((f x.0, x.1) ≡ y)
made_ok f (Ok x) y e = (x, refl, ok_is (f x.0, x.1) y e)
made_ok f (Err p) y e = absurd cc
