-- Reading fails by what stands up to the end of a word: a text that is the same up to there, and goes on with the same byte, fails there, too.
use Rattle.std.proofs.Common.{◌≡◌, ℕ, zero, suc, ◌+◌, ◌≤◌, ◌<◌, Bool, true, false, cond, ◌&&◌, ◌||◌, not, eqb, List, [], ◌∷◌, ◌++◌, length, Option, Some, None, Result, Ok, Err, refl, sym, ap, subst, ◌∙◌, append_assoc, arith, inl, inr, ◌⊎◌}
use Rattle.std.specs.Prelude.{⊤}
use Rattle.std.specs.List.{list_all}
use Rattle.std.specs.Str.{bytes_eq}
use Rattle.std.proofs.lemmas.Bool.{eqb-true, ne_eqb}
use Rattle.std.proofs.lemmas.List.{take_at, drop_at}
use Rattle.strat_words.specs.Cut.{Parted, SameHead, next_word, next_line, word_behind, GoesThrough}
use Rattle.strat_words.specs.Many.{made, many, times}
use Rattle.strat_words.specs.Number.{natural_of, signed_of, coef_of}
use Rattle.strat_words.specs.Taking as taking
use Rattle.strat_words.specs.Spot.{Spot, Place, Taken, Read, ◌>>=◌, word_at, first, next, ends, is, fits, no_more, begins_number, begins_with_space, number_behind_space, is_of_word, word_len, next_place, last_place}
use Rattle.strat_words.proofs.WordLaws.{both, word_len_all, parted_len}

-- ---- where a reader stands, and how much is known of what follows

pub data Mode : Type 0 where
  at_start : Mode
  behind_word : Mode
  in_line : Mode
  at_end : Mode

-- at the start of a line, behind one of its words, or behind the last of them
abbrev pub Holds : Mode → Spot → Type 0
Holds at_start s = s.word ≡ 0
Holds behind_word s = (1 ≤ s.word) × Parted s.rest
Holds in_line s = (1 ≤ s.word) × Parted s.rest
Holds at_end s = (1 ≤ s.word) × Parted s.rest × (begins_with_space s.rest ≡ false)

-- the same next byte, and behind a space the same once more
abbrev pub SameNext : List ℕ → List ℕ → Type 0
SameNext [] [] = ⊤
SameNext [] (c ∷ z) = ⊥
SameNext (b ∷ y) [] = ⊥
SameNext (b ∷ y) (c ∷ z) = (b ≡ c) × (b ≡ 32 → SameHead y z)

-- a reader that stands in a line may have seen whether a number follows
abbrev pub Knows : Mode → List ℕ → List ℕ → Type 0
Knows at_start y z = ⊤
Knows behind_word y z = SameHead y z
Knows in_line y z = SameNext y z
Knows at_end y z = SameHead y z

pub next_head : (y z : List ℕ) → SameNext y z → SameHead y z
next_head [] [] h = tt
next_head [] (c ∷ z) h = absurd h
next_head (b ∷ y) [] h = absurd h
next_head (b ∷ y) (c ∷ z) h = h.0

pub head_next : (y z : List ℕ) → begins_with_space y ≡ false → SameHead y z → SameNext y z
head_next [] [] off h = tt
head_next [] (c ∷ z) off h = absurd h
head_next (b ∷ y) [] off h = absurd h
head_next (b ∷ y) (c ∷ z) off h = (h, λ e. let q : eqb b 32 ≡ true = subst (λ n. eqb n 32 ≡ true) (sym e) refl in let r : true ≡ false = sym q ∙ off in absurd cc)

same_space : (y z : List ℕ) → SameHead y z → begins_with_space y ≡ begins_with_space z
same_space [] [] h = refl
same_space [] (c ∷ z) h = absurd h
same_space (b ∷ y) [] h = absurd h
same_space (b ∷ y) (c ∷ z) h = ap (λ n. eqb n 32) h

same_parted : (y z : List ℕ) → SameHead y z → Parted y → Parted z
same_parted [] [] h p = tt
same_parted [] (c ∷ z) h p = absurd h
same_parted (b ∷ y) [] h p = absurd h
same_parted (b ∷ y) (c ∷ z) h p = subst (λ n. is_of_word n ≡ false) h p

same_begins : (y z : List ℕ) → SameHead y z → begins_number y ≡ begins_number z
same_begins [] [] h = refl
same_begins [] (c ∷ z) h = absurd h
same_begins (b ∷ y) [] h = absurd h
same_begins (b ∷ y) (c ∷ z) h = ap (λ n. begins_number (n ∷ [])) h

pub same_number : (y z : List ℕ) → SameNext y z → number_behind_space y ≡ number_behind_space z
same_number [] [] h = refl
same_number [] (c ∷ z) h = absurd h
same_number (b ∷ y) [] h = absurd h
same_number (b ∷ y) (c ∷ z) h = ap (λ n. eqb n 32 && begins_number y) h.0 ∙ behind (eqb c 32) refl
  where
    behind : (t : Bool) → eqb c 32 ≡ t → (t && begins_number y) ≡ (t && begins_number z)
    behind true e = same_begins y z (h.1 (h.0 ∙ eqb-true c 32 e))
    behind false e = refl

pub same_more : (y z : List ℕ) → SameNext y z → begins_with_space y ≡ begins_with_space z
same_more y z h = same_space y z (next_head y z h)

-- ---- places

abbrev pub at_word : ℕ → ℕ
at_word zero = 1
at_word (suc n) = suc n

-- the word in which a spot lies
abbrev pub here : Spot → Place
here s = record { line = s.line; word = at_word s.word }

abbrev pub moved : Spot → List ℕ → Spot
moved s z = record { rest = z; line = s.line; word = s.word }

pub behind_both : (q : Place) (x y : List ℕ) → word_behind q (x ++ y) ≡ word_behind (word_behind q x) y
behind_both q [] y = refl
behind_both q (b ∷ x) y = behind_both (cond (eqb b 10) (next_line q) (cond (eqb b 32) (next_word q) q)) x y

-- ---- what holds a spot

pub record Shape (X : Type 0) : Type 0 where
  pub at : X → Spot
  pub put : X → Spot → X
  pub back : (x : X) → put x (at x) ≡ x

abbrev pub of_spot : Shape Spot
of_spot = record { at = λ s. s; put = λ s t. t; back = λ s. refl }

abbrev pub of_taken : {A : Type 0} → Shape (A × Spot)
of_taken = record { at = λ x. x.1; put = λ x s. (x.0, s); back = λ x. refl }

-- ---- what was taken or found at fault, and what it rests on

pub record OkCut {X : Type 0} (V : Shape X) (m n : Mode) (s : Spot) (f : Spot → Result X Place) (x : X) : Type 0 where
  pub text : List ℕ
  pub parts : s.rest ≡ text ++ (V.at x).rest
  pub place : word_behind (here s) text ≡ here (V.at x)
  pub holds : Holds n (V.at x)
  pub looks : (z : List ℕ) → Knows n (V.at x).rest z → Knows m s.rest (text ++ z)
  pub same : (z : List ℕ) → Knows n (V.at x).rest z → f (moved s (text ++ z)) ≡ Ok (V.put x (moved (V.at x) z))

pub record ErrCut {X : Type 0} (m : Mode) (s : Spot) (f : Spot → Result X Place) (p : Place) : Type 0 where
  pub text : List ℕ
  pub rest : List ℕ
  pub parts : s.rest ≡ text ++ rest
  pub through : GoesThrough (here s) p text rest
  pub looks : (z : List ℕ) → SameHead rest z → Knows m s.rest (text ++ z)
  pub same : (z : List ℕ) → SameHead rest z → f (moved s (text ++ z)) ≡ Err p

abbrev pub Cut : {X : Type 0} → Shape X → Mode → Mode → Spot → (Spot → Result X Place) → Result X Place → Type 0
Cut V m n s f (Ok x) = OkCut V m n s f x
Cut V m n s f (Err p) = ErrCut m s f p

abbrev pub Local : {X : Type 0} → Shape X → Mode → Mode → (Spot → Result X Place) → Type 0
Local V m n f = (s : Spot) → Holds m s → Cut V m n s f (f s)

-- ---- one step after the other

module _ {X Y : Type 0} (V : Shape X) (W : Shape Y) (m k n : Mode) (s : Spot) (f : Spot → Result X Place) (g : X → Result Y Place) where
  pub bind_both : (x : X) → OkCut V m k s f x → (r : Result Y Place) → Cut W k n (V.at x) (λ s1. g (V.put x s1)) r → Cut W m n s (λ s1. f s1 >>= g) r
  bind_both x c (Ok y) d = record {
    text = c.text ++ d.text;
    parts = c.parts ∙ ap (λ (t : List ℕ). c.text ++ t) d.parts ∙ sym (append_assoc c.text d.text (W.at y).rest);
    place = behind_both (here s) c.text d.text ∙ ap (λ q. word_behind q d.text) c.place ∙ d.place;
    holds = d.holds;
    looks = λ z e. subst (λ (t : List ℕ). Knows m s.rest t) (sym (append_assoc c.text d.text z)) (c.looks (d.text ++ z) (d.looks z e));
    same = λ z e. ap (λ (t : List ℕ). f (moved s t) >>= g) (append_assoc c.text d.text z) ∙ ap (λ (r : Result X Place). r >>= g) (c.same (d.text ++ z) (d.looks z e)) ∙ d.same z e;
  }
  bind_both x c (Err p) d = record {
    text = c.text ++ d.text;
    rest = d.rest;
    parts = c.parts ∙ ap (λ (t : List ℕ). c.text ++ t) d.parts ∙ sym (append_assoc c.text d.text d.rest);
    through = subst (λ (q : Place). Parted d.rest × ((q ≡ p) ⊎ ((next_word q ≡ p) × (begins_with_space d.rest ≡ false)))) (sym (behind_both (here s) c.text d.text ∙ ap (λ q. word_behind q d.text) c.place)) d.through;
    looks = λ z e. subst (λ (t : List ℕ). Knows m s.rest t) (sym (append_assoc c.text d.text z)) (c.looks (d.text ++ z) (d.looks z e));
    same = λ z e. ap (λ (t : List ℕ). f (moved s t) >>= g) (append_assoc c.text d.text z) ∙ ap (λ (r : Result X Place). r >>= g) (c.same (d.text ++ z) (d.looks z e)) ∙ d.same z e;
  }

  bind_in : (r : Result X Place) → f s ≡ r → Cut V m k s f r → ((x : X) → f s ≡ Ok x → Holds k (V.at x) → Cut W k n (V.at x) (λ s1. g (V.put x s1)) (g x)) → Cut W m n s (λ s1. f s1 >>= g) (r >>= g)
  bind_in (Ok x) e c h = bind_both x c (g x) (h x e c.holds)
  bind_in (Err p) e c h = record { text = c.text; rest = c.rest; parts = c.parts; through = c.through; looks = c.looks; same = λ z q. ap (λ (r : Result X Place). r >>= g) (c.same z q) }

  pub bind_cut : Cut V m k s f (f s) → ((x : X) → f s ≡ Ok x → Holds k (V.at x) → Cut W k n (V.at x) (λ s1. g (V.put x s1)) (g x)) → Cut W m n s (λ s1. f s1 >>= g) (f s >>= g)
  bind_cut c h = bind_in (f s) refl c h

pub bind_local : {X Y : Type 0} (V : Shape X) (W : Shape Y) (m k n : Mode) (f : Spot → Result X Place) (g : X → Result Y Place) → Local V m k f → ((x : X) → Local W k n (λ s1. g (V.put x s1))) → Local W m n (λ s. f s >>= g)
bind_local V W m k n f g c h s hold = bind_cut V W m k n s f g (c s hold) (λ x e hk. subst (λ y. Cut W k n (V.at x) (λ s1. g (V.put x s1)) (g y)) (V.back x) (h x (V.at x) hk))

module _ {A B : Type 0} (m n : Mode) (s : Spot) (f : Spot → Taken A) (h : A → B) where
  made_in : (r : Taken A) → Cut of_taken m n s f r → Cut of_taken m n s (λ s1. made h (f s1)) (made h r)
  made_in (Ok x) c = record { text = c.text; parts = c.parts; place = c.place; holds = c.holds; looks = c.looks; same = λ z e. ap (made h) (c.same z e) }
  made_in (Err p) c = record { text = c.text; rest = c.rest; parts = c.parts; through = c.through; looks = c.looks; same = λ z e. ap (made h) (c.same z e) }

  pub made_cut : Cut of_taken m n s f (f s) → Cut of_taken m n s (λ s1. made h (f s1)) (made h (f s))
  made_cut c = made_in (f s) c

pub made_local : {A B : Type 0} (m n : Mode) (f : Spot → Taken A) (h : A → B) → Local of_taken m n f → Local of_taken m n (λ s. made h (f s))
made_local m n f h c s hold = made_cut m n s f h (c s hold)

-- a value alone
pub taken_local : {A : Type 0} (m : Mode) (a : A) → Local of_taken m m (λ s. Ok (a, s))
taken_local m a s hold = record { text = []; parts = refl; place = refl; holds = hold; looks = λ z e. e; same = λ z e. refl }

-- ---- the same reader where less is known

module _ {X : Type 0} (V : Shape X) (m l n : Mode) (f : Spot → Result X Place) (weaker : (s : Spot) → Holds l s → Holds m s) (less : (s : Spot) (z : List ℕ) → Holds l s → Knows m s.rest z → Knows l s.rest z) where
  less_in : (s : Spot) → Holds l s → (r : Result X Place) → Cut V m n s f r → Cut V l n s f r
  less_in s h (Ok x) c = record { text = c.text; parts = c.parts; place = c.place; holds = c.holds; looks = λ z e. less s (c.text ++ z) h (c.looks z e); same = c.same }
  less_in s h (Err p) c = record { text = c.text; rest = c.rest; parts = c.parts; through = c.through; looks = λ z e. less s (c.text ++ z) h (c.looks z e); same = c.same }

  pub less_local : Local V m n f → Local V l n f
  less_local c s h = less_in s h (f s) (c s (weaker s h))

pub word_local : {X : Type 0} (V : Shape X) (n : Mode) (f : Spot → Result X Place) → Local V in_line n f → Local V behind_word n f
word_local V n f c = less_local V in_line behind_word n f (λ s h. h) (λ s z h k. next_head s.rest z k) c

pub end_local : {X : Type 0} (V : Shape X) (n : Mode) (f : Spot → Result X Place) → Local V in_line n f → Local V at_end n f
end_local V n f c = less_local V in_line at_end n f (λ s h. (h.0, h.1)) (λ s z h k. next_head s.rest z k) c

-- ---- a choice by what follows

module _ {X : Type 0} (V : Shape X) (n : Mode) (c : List ℕ → Bool) (same_choice : (y z : List ℕ) → SameNext y z → c y ≡ c z) (f g : Spot → Result X Place) where
  abbrev choice : Spot → Result X Place
  choice s = cond (c s.rest) (f s) (g s)

  choice_in : (s : Spot) (t : Bool) → c s.rest ≡ t → (r : Result X Place) → Cut V in_line n s (λ s1. cond t (f s1) (g s1)) r → Cut V in_line n s choice r
  choice_in s t e (Ok x) d = record { text = d.text; parts = d.parts; place = d.place; holds = d.holds; looks = d.looks; same = λ z k. ap (λ (u : Bool). cond u (f (moved s (d.text ++ z))) (g (moved s (d.text ++ z)))) (sym (same_choice s.rest (d.text ++ z) (d.looks z k)) ∙ e) ∙ d.same z k }
  choice_in s t e (Err p) d = record { text = d.text; rest = d.rest; parts = d.parts; through = d.through; looks = d.looks; same = λ z k. ap (λ (u : Bool). cond u (f (moved s (d.text ++ z))) (g (moved s (d.text ++ z)))) (sym (same_choice s.rest (d.text ++ z) (d.looks z k)) ∙ e) ∙ d.same z k }

  choose : (s : Spot) (t : Bool) → c s.rest ≡ t → (t ≡ true → Cut V in_line n s f (f s)) → (t ≡ false → Cut V in_line n s g (g s)) → Cut V in_line n s choice (cond t (f s) (g s))
  choose s true e h k = choice_in s true e (f s) (h refl)
  choose s false e h k = choice_in s false e (g s) (k refl)

  pub choice_cut : (s : Spot) → (c s.rest ≡ true → Cut V in_line n s f (f s)) → (c s.rest ≡ false → Cut V in_line n s g (g s)) → Cut V in_line n s choice (choice s)
  choice_cut s h k = choose s (c s.rest) refl h k

-- ---- words

-- a text up to where a word ends
pub record Split (z : List ℕ) : Type 0 where
  pub word : List ℕ
  pub rest : List ℕ
  pub parts : z ≡ word ++ rest
  pub all : list_all is_of_word word ≡ true
  pub parted : Parted rest

split_more : (b : ℕ) (z : List ℕ) (t : Bool) → is_of_word b ≡ t → Split z → Split (b ∷ z)
split_more b z true e h = record { word = b ∷ h.word; rest = h.rest; parts = ap (λ (t : List ℕ). b ∷ t) h.parts; all = rw (e, h.all) refl; parted = h.parted }
split_more b z false e h = record { word = []; rest = b ∷ z; parts = refl; all = refl; parted = e }

pub split : (z : List ℕ) → Split z
split [] = record { word = []; rest = []; parts = refl; all = refl; parted = tt }
split (b ∷ z) = split_more b z (is_of_word b) refl (split z)

no_space : (b : ℕ) → is_of_word b ≡ true → (eqb b 32 ≡ false) × (eqb b 10 ≡ false)
no_space b e = parts_of (eqb b 32) (eqb b 10) e
  where
    parts_of : (x y : Bool) → not (x || y) ≡ true → (x ≡ false) × (y ≡ false)
    parts_of true y h = absurd cc
    parts_of false true h = absurd cc
    parts_of false false h = (refl, refl)

-- a word does not go on to another one
pub stays : (q : Place) (w : List ℕ) → list_all is_of_word w ≡ true → word_behind q w ≡ q
stays q [] all = refl
stays q (b ∷ w) all =
    let h = both (is_of_word b) (list_all is_of_word w) all in
    let n = no_space b h.0 in
    let e : cond (eqb b 10) (next_line q) (cond (eqb b 32) (next_word q) q) ≡ q = rw (n.0, n.1) refl in
    ap (λ p. word_behind p w) e ∙ stays q w h.1

abbrev behind_of : Spot → List ℕ → Spot
behind_of s z = record { rest = z; line = s.line; word = s.word + 1 }

word_at_is : (s : Spot) (w z : List ℕ) → 0 < length w → list_all is_of_word w ≡ true → Parted z → word_at s (w ++ z) ≡ Ok (w, behind_of s z)
unfolding word_at
word_at_is s w z lt all p =
    let len : word_len (w ++ z) ≡ length w = word_len_all w z all p in
    let some : eqb (word_len (w ++ z)) 0 ≡ false = rw len (ne_eqb (length w) 0 (omega (arith, lt))) in
    rw (some, take_at w z (word_len (w ++ z)) (sym len), drop_at w z (word_len (w ++ z)) (sym len)) refl

word_at_none : (s : Spot) (z : List ℕ) → Parted z → word_at s z ≡ Err (next_place s)
unfolding word_at
word_at_none s z p = rw (parted_len z p) refl

pub at_first : (s : Spot) → s.word ≡ 0 → here s ≡ next_place s
at_first s h = let e : at_word s.word ≡ s.word + 1 = subst (λ n. at_word n ≡ n + 1) (sym h) refl in λ i. record { line = s.line; word = e i }

at_further : (n : ℕ) → 1 ≤ n → at_word n ≡ n
at_further zero h = absurd (omega (arith, h))
at_further (suc n) h = refl

in_word : (s : Spot) → 1 ≤ s.word → here s ≡ last_place s
in_word s h = let e = at_further s.word h in λ i. record { line = s.line; word = e i }

in_next : (s : Spot) → 1 ≤ s.word → next_word (here s) ≡ next_place s
in_next s h = let e = at_further s.word h in λ i. record { line = s.line; word = e i + 1 }

here_behind : (s : Spot) (z : List ℕ) → here (behind_of s z) ≡ next_place s
here_behind s z = let e = at_further (s.word + 1) (omega arith) in λ i. record { line = s.line; word = e i }

-- ---- the first word of a line

module _ (s : Spot) (start : s.word ≡ 0) where
  first_in : (w z : List ℕ) → s.rest ≡ w ++ z → list_all is_of_word w ≡ true → Parted z → Cut of_taken at_start behind_word s first (first s)
  first_in [] z e all p =
      let none : first s ≡ Err (next_place s) = ap (word_at s) e ∙ word_at_none s z p in
      subst (λ (r : Taken (List ℕ)). Cut of_taken at_start behind_word s first r) (sym none) (record {
        text = [];
        rest = z;
        parts = e;
        through = (p, inl (at_first s start));
        looks = λ y k. tt;
        same = λ y k. word_at_none (moved s y) y (same_parted z y k p);
      })
  first_in (b ∷ w) z e all p =
      let some : first s ≡ Ok (b ∷ w, behind_of s z) = ap (word_at s) e ∙ word_at_is s (b ∷ w) z (omega arith) all p in
      subst (λ (r : Taken (List ℕ)). Cut of_taken at_start behind_word s first r) (sym some) (record {
        text = b ∷ w;
        parts = e;
        place = stays (here s) (b ∷ w) all ∙ at_first s start ∙ sym (here_behind s z);
        holds = (omega arith, p);
        looks = λ y k. tt;
        same = λ y k. word_at_is (moved s ((b ∷ w) ++ y)) (b ∷ w) y (omega arith) all (same_parted z y k p);
      })

  -- whatever stands there
  first_fault : {X : Type 0} (f : Spot → Result X Place) → ((z : List ℕ) → f (moved s z) ≡ Err (next_place s)) → ErrCut at_start s f (next_place s)
  first_fault f h =
      let w = split s.rest in
      record {
        text = w.word;
        rest = w.rest;
        parts = w.parts;
        through = (w.parted, inl (stays (here s) w.word w.all ∙ at_first s start));
        looks = λ y k. tt;
        same = λ y k. h (w.word ++ y);
      }

pub first_local : Local of_taken at_start behind_word first
first_local s h = let w = split s.rest in first_in s h w.word w.rest w.parts w.all w.parted

pub fault_local : {X : Type 0} (V : Shape X) (n : Mode) → Local V at_start n (λ s. Err (next_place s))
fault_local V n s h = first_fault s h (λ s1. Err (next_place s1)) (λ z. refl)

-- ---- a further word

module _ {X : Type 0} (s : Spot) (inside : (1 ≤ s.word) × Parted s.rest) (f : Spot → Result X Place) where
  -- it is missing
  pub missing_fault : begins_with_space s.rest ≡ false → ((z : List ℕ) → begins_with_space z ≡ false → SameHead s.rest z → f (moved s z) ≡ Err (next_place s)) → ErrCut in_line s f (next_place s)
  missing_fault off h = record {
    text = [];
    rest = s.rest;
    parts = refl;
    through = (inside.1, inr (in_next s inside.0, off));
    looks = λ z k. head_next s.rest z off k;
    same = λ z k. h z (sym (same_space s.rest z k) ∙ off) k;
  }

  -- it is one too many
  pub further_fault : (y : List ℕ) → s.rest ≡ 32 ∷ y → ((z : List ℕ) → f (moved s (32 ∷ z)) ≡ Err (next_place s)) → ErrCut in_line s f (next_place s)
  further_fault y e h =
      let w = split y in
      record {
        text = 32 ∷ w.word;
        rest = w.rest;
        parts = e ∙ ap (λ (t : List ℕ). 32 ∷ t) w.parts;
        through = (w.parted, inl (stays (next_word (here s)) w.word w.all ∙ in_next s inside.0));
        looks = λ z k. subst (λ (t : List ℕ). SameNext t (32 ∷ (w.word ++ z))) (sym (e ∙ ap (λ (t : List ℕ). 32 ∷ t) w.parts)) (refl, λ q. heads w.word w.rest z k);
        same = λ z k. h (w.word ++ z);
      }
    where
      heads : (w y z : List ℕ) → SameHead y z → SameHead (w ++ y) (w ++ z)
      heads [] y z k = k
      heads (b ∷ w) y z k = refl

-- a space and what stands behind it
spaced : (c : ℕ) (y : List ℕ) → begins_with_space (c ∷ y) ≡ true → c ∷ y ≡ 32 ∷ y
spaced c y e = ap (λ n. n ∷ y) (eqb-true c 32 e)

next_none : (s : Spot) (z : List ℕ) → begins_with_space z ≡ false → next (moved s z) ≡ Err (next_place s)
unfolding next
next_none s [] e = refl
next_none s (c ∷ z) e = rw e refl

next_some : (s : Spot) (z : List ℕ) → next (moved s (32 ∷ z)) ≡ word_at (moved s (32 ∷ z)) z
unfolding next
next_some s z = refl

module _ (s : Spot) (inside : (1 ≤ s.word) × Parted s.rest) where
  next_in : (w z : List ℕ) → s.rest ≡ 32 ∷ (w ++ z) → list_all is_of_word w ≡ true → Parted z → Cut of_taken in_line behind_word s next (next s)
  next_in [] z e all p =
      let none : next s ≡ Err (next_place s) = ap (λ (t : List ℕ). next (moved s t)) e ∙ next_some s z ∙ word_at_none (moved s (32 ∷ z)) z p in
      subst (λ (r : Taken (List ℕ)). Cut of_taken in_line behind_word s next r) (sym none) (record {
        text = 32 ∷ [];
        rest = z;
        parts = e;
        through = (p, inl (in_next s inside.0));
        looks = λ y k. subst (λ (t : List ℕ). SameNext t (32 ∷ y)) (sym e) (refl, λ q. k);
        same = λ y k. next_some s y ∙ word_at_none (moved s (32 ∷ y)) y (same_parted z y k p);
      })
  next_in (b ∷ w) z e all p =
      let some : next s ≡ Ok (b ∷ w, behind_of s z) = ap (λ (t : List ℕ). next (moved s t)) e ∙ next_some s ((b ∷ w) ++ z) ∙ word_at_is (moved s (32 ∷ ((b ∷ w) ++ z))) (b ∷ w) z (omega arith) all p in
      subst (λ (r : Taken (List ℕ)). Cut of_taken in_line behind_word s next r) (sym some) (record {
        text = 32 ∷ (b ∷ w);
        parts = e;
        place = stays (next_word (here s)) (b ∷ w) all ∙ in_next s inside.0 ∙ sym (here_behind s z);
        holds = (omega arith, p);
        looks = λ y k. subst (λ (t : List ℕ). SameNext t (32 ∷ ((b ∷ w) ++ y))) (sym e) (refl, λ q. refl);
        same = λ y k. next_some s ((b ∷ w) ++ y) ∙ word_at_is (moved s (32 ∷ ((b ∷ w) ++ y))) (b ∷ w) y (omega arith) all (same_parted z y k p);
      })

  next_by : (t : List ℕ) → s.rest ≡ t → (u : Bool) → begins_with_space t ≡ u → Cut of_taken in_line behind_word s next (next s)
  next_by [] e u off =
      let none : next s ≡ Err (next_place s) = ap (λ (t : List ℕ). next (moved s t)) e ∙ next_none s [] refl in
      subst (λ (r : Taken (List ℕ)). Cut of_taken in_line behind_word s next r) (sym none) (missing_fault s inside next (ap begins_with_space e) (λ z q k. next_none s z q))
  next_by (c ∷ y) e true on = let w = split y in next_in w.word w.rest (e ∙ spaced c y on ∙ ap (λ (t : List ℕ). 32 ∷ t) w.parts) w.all w.parted
  next_by (c ∷ y) e false off =
      let none : next s ≡ Err (next_place s) = ap (λ (t : List ℕ). next (moved s t)) e ∙ next_none s (c ∷ y) off in
      subst (λ (r : Taken (List ℕ)). Cut of_taken in_line behind_word s next r) (sym none) (missing_fault s inside next (ap begins_with_space e ∙ off) (λ z q k. next_none s z q))

pub next_local : Local of_taken in_line behind_word next
next_local s h = next_by s h s.rest refl (begins_with_space s.rest) refl

-- ---- a word that was taken, and its value

fits_in : {A : Type 0} (o : Option A) (s : Spot) → Holds behind_word s → Cut of_taken behind_word in_line s (fits o) (fits o s)
fits_in (Some x) s h = record { text = []; parts = refl; place = refl; holds = h; looks = λ z k. next_head s.rest z k; same = λ z k. refl }
fits_in None s h = record { text = []; rest = s.rest; parts = refl; through = (h.1, inl (in_word s h.0)); looks = λ z k. k; same = λ z k. refl }

pub fits_local : {A : Type 0} (o : Option A) → Local of_taken behind_word in_line (fits o)
fits_local o s h = fits_in o s h

-- a fault at the last word
pub last_local : {X : Type 0} (V : Shape X) (n : Mode) → Local V behind_word n (λ s. Err (last_place s))
last_local V n s h = record { text = []; rest = s.rest; parts = refl; through = (h.1, inl (in_word s h.0)); looks = λ z k. k; same = λ z k. refl }

pub last_end_local : {X : Type 0} (V : Shape X) (n : Mode) → Local V at_end n (λ s. Err (last_place s))
last_end_local V n s h = record { text = []; rest = s.rest; parts = refl; through = (h.1, inl (in_word s h.0)); looks = λ z k. k; same = λ z k. refl }

-- ---- a given word

abbrev known : List ℕ → List ℕ × Spot → Read Spot
known w x = cond (bytes_eq x.0 w) (Ok x.1) (Err (last_place x.1))

known_in : (t : Bool) → Local of_spot behind_word in_line (λ s. cond t (Ok s) (Err (last_place s)))
known_in true s h = record { text = []; parts = refl; place = refl; holds = h; looks = λ z k. next_head s.rest z k; same = λ z k. refl }
known_in false s h = record { text = []; rest = s.rest; parts = refl; through = (h.1, inl (in_word s h.0)); looks = λ z k. k; same = λ z k. refl }

is_known : (w : List ℕ) (r : Taken (List ℕ)) → (r >>= known w) ≡ is w r
is_known w (Ok x) = refl
is_known w (Err p) = refl

-- the same reader in other words
pub same_local : {X : Type 0} (V : Shape X) (m n : Mode) (f g : Spot → Result X Place) → ((s : Spot) → f s ≡ g s) → Local V m n f → Local V m n g
same_local {X = X} V m n f g e c s h = same_in (g s) (subst (λ (r : Result X Place). Cut V m n s f r) (e s) (c s h))
  where
    same_in : (r : Result X Place) → Cut V m n s f r → Cut V m n s g r
    same_in (Ok x) d = record { text = d.text; parts = d.parts; place = d.place; holds = d.holds; looks = d.looks; same = λ z k. sym (e (moved s (d.text ++ z))) ∙ d.same z k }
    same_in (Err p) d = record { text = d.text; rest = d.rest; parts = d.parts; through = d.through; looks = d.looks; same = λ z k. sym (e (moved s (d.text ++ z))) ∙ d.same z k }

pub is_local : (m : Mode) (w : List ℕ) (f : Spot → Taken (List ℕ)) → Local of_taken m behind_word f → Local of_spot m in_line (λ s. is w (f s))
is_local m w f c = same_local of_spot m in_line (λ s. f s >>= known w) (λ s. is w (f s)) (λ s. is_known w (f s)) (bind_local of_taken of_spot m behind_word in_line f (known w) c (λ x. known_in (bytes_eq x.0 w)))

-- ---- the end of a line

abbrev is_line_end : List ℕ → Bool
is_line_end [] = false
is_line_end (c ∷ z) = eqb c 10

ends_none : (s : Spot) (z : List ℕ) → is_line_end z ≡ false → ends (moved s z) ≡ Err (next_place s)
unfolding ends
ends_none s [] e = refl
ends_none s (c ∷ z) e = rw e refl

abbrev line_behind : Spot → List ℕ → Spot
line_behind s z = record { rest = z; line = s.line + 1; word = 0 }

ends_some : (s : Spot) (z : List ℕ) → ends (moved s (10 ∷ z)) ≡ Ok (line_behind s z)
unfolding ends
ends_some s z = refl

module _ (s : Spot) (inside : (1 ≤ s.word) × Parted s.rest) where
  ends_by : (t : List ℕ) → s.rest ≡ t → Parted t → (u v : Bool) → begins_with_space t ≡ u → is_line_end t ≡ v → Cut of_spot in_line at_start s ends (ends s)
  ends_by [] e p u v a b =
      let none : ends s ≡ Err (next_place s) = ap (λ (t : List ℕ). ends (moved s t)) e ∙ ends_none s [] refl in
      subst (λ (r : Read Spot). Cut of_spot in_line at_start s ends r) (sym none) (missing_fault s inside ends (ap begins_with_space e) (λ z q k. no_line_end z (subst (λ (t : List ℕ). SameHead t z) e k)))
    where
      no_line_end : (z : List ℕ) → SameHead [] z → ends (moved s z) ≡ Err (next_place s)
      no_line_end [] k = ends_none s [] refl
      no_line_end (c ∷ z) k = absurd k
  ends_by (c ∷ y) e p true v a b =
      let is : s.rest ≡ 32 ∷ y = e ∙ spaced c y a in
      let none : ends s ≡ Err (next_place s) = ap (λ (t : List ℕ). ends (moved s t)) is ∙ ends_none s (32 ∷ y) refl in
      subst (λ (r : Read Spot). Cut of_spot in_line at_start s ends r) (sym none) (further_fault s inside ends y is (λ z. ends_none s (32 ∷ z) refl))
  ends_by (c ∷ y) e p false true a b =
      let is : s.rest ≡ 10 ∷ y = e ∙ ap (λ n. n ∷ y) (eqb-true c 10 b) in
      let some : ends s ≡ Ok (line_behind s y) = ap (λ (t : List ℕ). ends (moved s t)) is ∙ ends_some s y in
      subst (λ (r : Read Spot). Cut of_spot in_line at_start s ends r) (sym some) (record {
        text = 10 ∷ [];
        parts = is;
        place = refl;
        holds = refl;
        looks = λ z k. subst (λ (t : List ℕ). SameNext t (10 ∷ z)) (sym is) (refl, λ q. absurd (let d : eqb 10 32 ≡ eqb 32 32 = ap (λ n. eqb n 32) q in cc));
        same = λ z k. ends_some s z;
      })
  ends_by (c ∷ y) e p false false a b = absurd (let d : is_of_word c ≡ true = rw (a, b) refl in let r : true ≡ false = sym d ∙ p in cc)

pub ends_local : Local of_spot in_line at_start ends
ends_local s h = ends_by s h s.rest refl h.1 (begins_with_space s.rest) (is_line_end s.rest) refl refl

-- ---- a line that goes on or not

pub space_at : (t : List ℕ) → begins_with_space t ≡ true → (y : List ℕ) × (t ≡ 32 ∷ y)
space_at [] e = absurd cc
space_at (c ∷ y) e = (y, spaced c y e)

-- the next word fits not, whatever it is
unfit_by : {X : Type 0} (V : Shape X) (n : Mode) (s : Spot) → Holds in_line s → (t : Bool) → begins_with_space s.rest ≡ t → Cut V in_line n s (λ s1. Err (next_place s1)) (Err (next_place s))
unfit_by V n s h true on = let y = space_at s.rest on in further_fault s h (λ s1. Err (next_place s1)) y.0 y.1 (λ z. refl)
unfit_by V n s h false off = missing_fault s h (λ s1. Err (next_place s1)) off (λ z q k. refl)

pub unfit_local : {X : Type 0} (V : Shape X) (n : Mode) → Local V in_line n (λ s. Err (next_place s))
unfit_local V n s h = unfit_by V n s h (begins_with_space s.rest) refl

pub no_more_local : Local of_spot in_line at_end no_more
no_more_local s h =
    choice_cut of_spot at_end begins_with_space same_more (λ s1. Err (next_place s1)) (λ s1. Ok s1) s (λ on. unfit_local of_spot at_end s h)
    (λ off. record { text = []; parts = refl; place = refl; holds = (h.0, h.1, off); looks = λ z k. head_next s.rest z off k; same = λ z k. refl })

-- ---- one thing after the other

pub same_cut : {X : Type 0} (V : Shape X) (m n : Mode) (s : Spot) (f g : Spot → Result X Place) → ((s1 : Spot) → f s1 ≡ g s1) → Cut V m n s f (f s) → Cut V m n s g (g s)
same_cut {X = X} V m n s f g e c = same_of (g s) (subst (λ (r : Result X Place). Cut V m n s f r) (e s) c)
  where
    same_of : (r : Result X Place) → Cut V m n s f r → Cut V m n s g r
    same_of (Ok x) d = record { text = d.text; parts = d.parts; place = d.place; holds = d.holds; looks = d.looks; same = λ z k. sym (e (moved s (d.text ++ z))) ∙ d.same z k }
    same_of (Err p) d = record { text = d.text; rest = d.rest; parts = d.parts; through = d.through; looks = d.looks; same = λ z k. sym (e (moved s (d.text ++ z))) ∙ d.same z k }

module _ {A K : Type 0} (begins : List ℕ → Bool) (none : begins [] ≡ false) (same_choice : (y z : List ℕ) → SameNext y z → begins y ≡ begins z) (one : K → Spot → Taken A) (after : K → A → K)
    (short : (k : K) (s : Spot) (x : A × Spot) → one k s ≡ Ok x → length x.1.rest < length s.rest) where
  abbrev all : K → Spot → Taken (List A)
  all k s = many begins one after (length s.rest) k s

  none_left : (t : List ℕ) → length t ≤ 0 → begins t ≡ false
  none_left [] le = none
  none_left (c ∷ t) le = absurd (omega (arith, le))

  steps : (n m : ℕ) (k : K) (s : Spot) → ((x : A × Spot) → one k s ≡ Ok x → many begins one after n (after k x.0) x.1 ≡ many begins one after m (after k x.0) x.1)
      → (r : Taken A) → one k s ≡ r → (r >>= λ x. made (λ xs. x.0 ∷ xs) (many begins one after n (after k x.0) x.1)) ≡ (r >>= λ x. made (λ xs. x.0 ∷ xs) (many begins one after m (after k x.0) x.1))
  steps n m k s h (Ok x) e = ap (made (λ xs. x.0 ∷ xs)) (h x e)
  steps n m k s h (Err p) e = refl

  -- more room makes no difference
  enough : (n m : ℕ) (k : K) (s : Spot) → length s.rest ≤ n → length s.rest ≤ m → many begins one after n k s ≡ many begins one after m k s
  unfolding many
  enough zero zero k s a b = refl
  enough zero (suc m) k s a b = rw (none_left s.rest a) refl
  enough (suc n) zero k s a b = rw (none_left s.rest b) refl
  enough (suc n) (suc m) k s a b = ap (λ (r : Taken (List A)). cond (begins s.rest) r (Ok ([], s))) (steps n m k s (λ x e. let l = short k s x e in enough n m (after k x.0) x.1 (omega (arith, l, a)) (omega (arith, l, b))) (one k s) refl)

  abbrev again : K → A × Spot → Taken (List A)
  again k x = made (λ xs. x.0 ∷ xs) (all (after k x.0) x.1)

  abbrev unrolled : K → Spot → Taken (List A)
  unrolled k s = cond (begins s.rest) (one k s >>= again k) (Ok ([], s))

  unrolls : (k : K) (s : Spot) → unrolled k s ≡ all k s
  unfolding many
  unrolls k s = sym (enough (length s.rest) (suc (length s.rest)) k s (omega arith) (omega arith) ∙ ap (λ (r : Taken (List A)). cond (begins s.rest) r (Ok ([], s))) (rest_of (one k s) refl))
    where
      rest_of : (r : Taken A) → one k s ≡ r → (r >>= λ x. made (λ xs. x.0 ∷ xs) (many begins one after (length s.rest) (after k x.0) x.1)) ≡ (r >>= again k)
      rest_of (Ok x) e = let l = short k s x e in ap (made (λ xs. x.0 ∷ xs)) (enough (length s.rest) (length x.1.rest) (after k x.0) x.1 (omega (arith, l)) (omega arith))
      rest_of (Err p) e = refl

  many_cut : ((k : K) → Local of_taken in_line in_line (one k)) → (n : ℕ) (k : K) (s : Spot) → length s.rest ≤ n → Holds in_line s → Cut of_taken in_line in_line s (all k) (all k s)
  many_cut each zero k s le h =
      same_cut of_taken in_line in_line s (unrolled k) (all k) (unrolls k) (choice_cut of_taken in_line begins same_choice (λ s1. one k s1 >>= again k) (λ s1. Ok ([], s1)) s
      (λ on. absurd (let q : true ≡ false = sym on ∙ none_left s.rest le in cc)) (λ off. taken_local in_line [] s h))
  many_cut each (suc n) k s le h =
      same_cut of_taken in_line in_line s (unrolled k) (all k) (unrolls k) (choice_cut of_taken in_line begins same_choice (λ s1. one k s1 >>= again k) (λ s1. Ok ([], s1)) s
      (λ on. bind_cut of_taken of_taken in_line in_line in_line s (one k) (again k) (each k s h) (λ x e hk. let l = short k s x e in made_cut in_line in_line x.1 (all (after k x.0)) (λ xs. x.0 ∷ xs) (many_cut each n (after k x.0) x.1 (omega (arith, l, le)) hk)))
      (λ off. taken_local in_line [] s h))

  pub many_local : ((k : K) → Local of_taken in_line in_line (one k)) → (k : K) → Local of_taken in_line in_line (λ s. many begins one after (length s.rest) k s)
  many_local each k s h = many_cut each (length s.rest) k s (omega arith) h

module _ {A K : Type 0} (one : K → Spot → Taken A) (after : K → A → K) where
  pub times_local : ((k : K) → Local of_taken at_start at_start (one k)) → (n : ℕ) (k : K) → Local of_taken at_start at_start (times one after n k)
  unfolding times
  times_local each zero k = taken_local at_start []
  times_local each (suc n) k = bind_local of_taken of_taken at_start at_start at_start (one k) (λ x. made (λ xs. x.0 ∷ xs) (times one after n (after k x.0) x.1)) (each k) (λ x. made_local at_start at_start (times one after n (after k x.0)) (λ xs. x.0 ∷ xs) (times_local each n (after k x.0)))

-- ---- numbers

word_of : {A : Type 0} (h : List ℕ → Option A) → Local of_taken in_line in_line (λ s. next s >>= λ w. fits (h w.0) w.1)
word_of h = bind_local of_taken of_taken in_line behind_word in_line next (λ w. fits (h w.0) w.1) next_local (λ w. fits_local (h w.0))

pub natural_local : (low limit : ℕ) → Local of_taken in_line in_line (taking.natural low limit)
natural_local low limit = word_of (natural_of low limit)

pub signed_local : (limit : ℕ) → Local of_taken in_line in_line (taking.signed limit)
signed_local limit = word_of (signed_of limit)

pub coef_local : Local of_taken in_line in_line taking.coef
coef_local = word_of coef_of

-- a further word with a value
pub further_local : {A : Type 0} (h : List ℕ → Option A) → Local of_taken in_line in_line (λ s. next s >>= λ w. fits (h w.0) w.1)
further_local h = word_of h

-- ---- what readers of lines are made of

pub if_local : {X : Type 0} (V : Shape X) (m n : Mode) (t : Bool) (f g : Spot → Result X Place) → Local V m n f → Local V m n g → Local V m n (λ s. cond t (f s) (g s))
if_local V m n true f g c d = c
if_local V m n false f g c d = d

pub first_is_local : (w : List ℕ) → Local of_spot at_start in_line (λ s. is w (first s))
first_is_local w = is_local at_start w first first_local

pub next_is_local : (w : List ℕ) → Local of_spot in_line in_line (λ s. is w (next s))
next_is_local w = is_local in_line w next next_local

-- a value, and the end of its line
pub ended_local : {A : Type 0} (a : A) → Local of_taken in_line at_start (λ s. ends s >>= λ after. Ok (a, after))
ended_local a = bind_local of_spot of_taken in_line at_start at_start ends (λ after. Ok (a, after)) ends_local (λ after. taken_local at_start a)

pub line_then : {A B : Type 0} (f : Spot → Taken A) (g : A × Spot → Taken B) → Local of_taken in_line in_line f → ((a : A × Spot) → Local of_taken in_line in_line (λ s. g (a.0, s))) → Local of_taken in_line in_line (λ s. f s >>= g)
line_then f g c h = bind_local of_taken of_taken in_line in_line in_line f g c h

-- the same behind more steps
pub joined : {A B C : Type 0} (r : Result A Place) (f : A → Result B Place) (g : B → Result C Place) (h : A → Result C Place) → ((x : A) → (f x >>= g) ≡ h x) → ((r >>= f) >>= g) ≡ (r >>= h)
joined (Ok x) f g h p = p x
joined (Err e) f g h p = refl
