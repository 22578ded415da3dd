-- Linear forms and literals: what is read is spelled so, and what is spelled so is read.
use Rattle.std.proofs.Common.{◌≡◌, ◌≢◌, ℕ, ℤ, pos, nat_abs, ◌+◌, ◌^◌, ◌<◌, ◌≤◌, true, List, [], ◌∷◌, ◌++◌, length, Ok, refl, sym, ap, subst, ◌∙◌, append_assoc, arith, codes, inl, inr}
use Rattle.std.specs.List.{flat_map}
use Rattle.std.specs.Str.{bytes_eq}
use Rattle.std.proofs.lemmas.List.{length-append}
use Rattle.std.proofs.lemmas.List.Concat.{flat_map-cons}
use Rattle.lin_term.specs.Form.{Form, cap, IsRow, AreTerms}
use Rattle.lin_term.specs.Linear.{Below, BelowTerms}
use Rattle.lin_term.specs.declared.lit.Lit.{Lit}
use Rattle.lin_term.specs.declared.lit.Lit.TheVariants.{AtLeast, Above, Divides, NotDivides}
use Rattle.cube_rules.specs.Limits.{IsCount, IsLiteral}
use Rattle.strat_words.specs.Spot.{Spot, ◌>>=◌, next, number_behind_space}
use Rattle.strat_words.specs.Many.{made, Chain}
use Rattle.strat_words.specs.Taking as taking
use Rattle.strat_words.proofs.Laws.{Stops, many_takes, many_again}
use Rattle.strat_words.proofs.Taken.{natural_takes, natural_again, signed_takes, signed_again, coef_takes, coef_again, signed_begins, chosen, marked, room}
use Rattle.strat_words.proofs.WordLaws.{bind_ok, ok_is, Takes, Takes-then, Reads, Parted, bind_again, made_again, made_ok, next_takes, next_again}
use Rattle.strat_text.specs.Line as line
use Rattle.strat_text.specs.Line.{row, literal}
use Rattle.strat_text.specs.Written as spelled

-- ---- terms

-- V from low on and below the limit, A not 0
abbrev pub IsTerm : ℕ → ℕ → ℕ × ℤ → Type 0
IsTerm limit low t = (low ≤ t.0) × (t.0 < limit) × (t.1 ≢ pos 0) × (nat_abs t.1 ≤ cap)

abbrev pub AreTermsTo : ℕ → List (ℕ × ℤ) → Type 0
AreTermsTo limit ts = Chain (IsTerm limit) line.low_behind 0 ts

pub are_terms : (limit low : ℕ) (ts : List (ℕ × ℤ)) → limit ≤ 2 ^ 20 → Chain (IsTerm limit) line.low_behind low ts → AreTerms low ts × BelowTerms limit ts
are_terms limit low [] small c = (tt, tt)
are_terms limit low (t ∷ ts) small c =
    let h = are_terms limit (t.0 + 1) ts small c.1 in
    ((c.0.0, omega (arith, c.0.1, small), c.0.2, c.0.3, h.0), (c.0.1, h.1))

pub are_chained : (limit low : ℕ) (ts : List (ℕ × ℤ)) → AreTerms low ts → BelowTerms limit ts → Chain (IsTerm limit) line.low_behind low ts
are_chained limit low [] a b = tt
are_chained limit low (t ∷ ts) a b = ((a.0, b.0, a.2, a.3), are_chained limit (t.0 + 1) ts a.4 b.1)

pub all_below : (low : ℕ) (ts : List (ℕ × ℤ)) → AreTerms low ts → BelowTerms (2 ^ 20) ts
all_below low [] a = tt
all_below low (t ∷ ts) a = (a.1, all_below (t.0 + 1) ts a.4)

pub term_takes : (limit low : ℕ) (s : Spot) (x : (ℕ × ℤ) × Spot) → line.term limit low s ≡ Ok x → Takes s (spelled.term x.0) x.1 × IsTerm limit low x.0
term_takes limit low s x e =
    let a = bind_ok (taking.coef s) _ x e in
    let v = bind_ok (taking.natural low limit a.0.1) _ x a.2 in
    let ta = coef_takes s a.0 a.1 in
    let tv = natural_takes low limit a.0.1 v.0 v.1 in
    let whole = Takes-then s (spelled.signed a.0.0) a.0.1 (spelled.natural v.0.0) v.0.1 ta.0 tv.0 in
    subst (λ (y : (ℕ × ℤ) × Spot). Takes s (spelled.term y.0) y.1 × IsTerm limit low y.0) (ok_is ((v.0.0, a.0.0), v.0.1) x v.2) (whole, (tv.1, tv.2, ta.2, omega (arith, ta.1)))

term_again : (limit low : ℕ) (s : Spot) (t : ℕ × ℤ) (z : List ℕ) → limit ≤ 2 ^ 20 → IsTerm limit low t → Parted z → s.rest ≡ spelled.term t ++ z → Reads (line.term limit low s) t z
term_again limit low s t z small i p e =
    bind_again (taking.coef s) _ t z (coef_again s t.1 (spelled.natural t.0 ++ z) i.3 i.2 refl (e ∙ append_assoc (spelled.signed t.1) (spelled.natural t.0) z))
    (λ s1 e1. bind_again (taking.natural low limit s1) _ t z (natural_again low limit s1 t.0 z i.0 i.1 (omega (arith, small)) p e1)
    (λ s2 e2. record { at = s2; is = refl; rest = e2 }))

terms_takes : (limit : ℕ) (s : Spot) (x : List (ℕ × ℤ) × Spot) → line.terms limit s ≡ Ok x → Takes s (flat_map spelled.term x.0) x.1 × AreTermsTo limit x.0
terms_takes limit s x e = many_takes number_behind_space (line.term limit) line.low_behind spelled.term (IsTerm limit) (term_takes limit) (length s.rest) 0 s x e

spaced : (limit low : ℕ) (t : ℕ × ℤ) (z : List ℕ) → IsTerm limit low t → number_behind_space (spelled.term t ++ z) ≡ true
spaced limit low t z i = ap number_behind_space (append_assoc (spelled.signed t.1) (spelled.natural t.0) z) ∙ signed_begins t.1 (spelled.natural t.0 ++ z) (omega (arith, i.3))

terms_again : (limit : ℕ) (s : Spot) (ts : List (ℕ × ℤ)) (z : List ℕ) → limit ≤ 2 ^ 20 → AreTermsTo limit ts → Stops z → s.rest ≡ flat_map spelled.term ts ++ z → Reads (line.terms limit s) ts z
terms_again limit s ts z small c stop e =
    many_again number_behind_space (line.term limit) line.low_behind spelled.term (IsTerm limit) Parted (λ low s1 t z1 i p e1. term_again limit low s1 t z1 small i p e1) (λ t z1. refl) (λ low t z1 i. spaced limit low t z1 i) (length s.rest) 0 s ts z c
    (room spelled.term (λ t. omega (arith, length-append (spelled.signed t.1) (spelled.natural t.0))) ts s z e) stop.parted stop.no_more e

-- ---- linear forms

pub row_takes : (limit : ℕ) (s : Spot) (x : Form × Spot) → limit ≤ 2 ^ 20 → row limit s ≡ Ok x → Takes s (spelled.row x.0) x.1 × IsRow x.0 × Below limit x.0
unfolding row
row_takes limit s x small e =
    let c = bind_ok (taking.kept s) _ x e in
    let t = bind_ok (line.terms limit c.0.1) _ x c.2 in
    let tc = signed_takes (cap + 1) s c.0 c.1 in
    let ts = terms_takes limit c.0.1 t.0 t.1 in
    let k = are_terms limit 0 t.0.0 small ts.1 in
    let whole = Takes-then s (spelled.signed c.0.0) c.0.1 (flat_map spelled.term t.0.0) t.0.1 tc.0 ts.0 in
    let r : Form = record { terms = t.0.0; constant = c.0.0 } in
    subst (λ (y : Form × Spot). Takes s (spelled.row y.0) y.1 × IsRow y.0 × Below limit y.0) (ok_is (r, t.0.1) x t.2) (whole, (k.0, omega (arith, tc.1)), k.1)

parted_terms : (ts : List (ℕ × ℤ)) (z : List ℕ) → Parted z → Parted (flat_map spelled.term ts ++ z)
parted_terms [] z p = p
parted_terms (t ∷ ts) z p = subst (λ (y : List ℕ). Parted (y ++ z)) (sym (flat_map-cons spelled.term t ts)) refl

pub row_again : (limit : ℕ) (s : Spot) (r : Form) (z : List ℕ) → limit ≤ 2 ^ 20 → IsRow r → Below limit r → Stops z → s.rest ≡ spelled.row r ++ z → Reads (row limit s) r z
unfolding row
row_again limit s r z small i below stop e =
    bind_again (taking.kept s) _ r z (signed_again (cap + 1) s r.constant (flat_map spelled.term r.terms ++ z) (omega (arith, i.1)) (omega arith) (parted_terms r.terms z stop.parted) (e ∙ append_assoc (spelled.signed r.constant) (flat_map spelled.term r.terms) z))
    (λ s1 e1. bind_again (line.terms limit s1) _ r z (terms_again limit s1 r.terms z small (are_chained limit 0 r.terms i.0 below) stop e1)
    (λ s2 e2. record { at = s2; is = refl; rest = e2 }))

-- the terms that a loop read are those of a row
pub read_terms : (limit : ℕ) (s : Spot) (x : List (ℕ × ℤ) × Spot) → limit ≤ 2 ^ 20 → line.terms limit s ≡ Ok x → AreTerms 0 x.0
read_terms limit s x small e = (are_terms limit 0 x.0 small (terms_takes limit s x e).1).0

-- ---- literals

module _ (s0 : Spot) (mark : List ℕ) (s : Spot) (x : Lit × Spot) (t0 : Takes s0 (32 ∷ mark) s) where
  abbrev Goal : Lit × Spot → Type 0
  Goal y = Takes s0 (spelled.literal y.0) y.1 × IsLiteral y.0

  plain_takes : (make : Form → Lit) (known : List ℕ) → ((r : Form) (s' : Spot) → Takes s0 (32 ∷ (known ++ spelled.row r)) s' → IsRow r → Goal (make r, s')) → bytes_eq mark known ≡ true → made make (row (2 ^ 20) s) ≡ Ok x → Goal x
  plain_takes make known k same e =
      let m = made_ok make (row (2 ^ 20) s) x e in
      let t = row_takes (2 ^ 20) s m.0 (omega arith) m.1 in
      subst Goal m.2 (k m.0.0 m.0.1 (marked (32 ∷ []) s0 s m.0.1 mark known (spelled.row m.0.0) same t0 t.0) t.1)

  divided_takes : (make : ℕ → Form → Lit) (known : List ℕ) → ((d : ℕ) (r : Form) (s' : Spot) → Takes s0 (32 ∷ (known ++ (spelled.natural d ++ spelled.row r))) s' → IsCount 1 d × IsRow r → Goal (make d r, s')) → bytes_eq mark known ≡ true → (taking.count 1 s >>= λ d. made (make d.0) (row (2 ^ 20) d.1)) ≡ Ok x → Goal x
  divided_takes make known k same e =
      let d = bind_ok (taking.count 1 s) _ x e in
      let m = made_ok (make d.0.0) (row (2 ^ 20) d.0.1) x d.2 in
      let td = natural_takes 1 (cap + 1) s d.0 d.1 in
      let t = row_takes (2 ^ 20) d.0.1 m.0 (omega arith) m.1 in
      let whole = Takes-then s (spelled.natural d.0.0) d.0.1 (spelled.row m.0.0) m.0.1 td.0 t.0 in
      subst Goal m.2 (k d.0.0 m.0.0 m.0.1 (marked (32 ∷ []) s0 s m.0.1 mark known (spelled.natural d.0.0 ++ spelled.row m.0.0) same t0 whole) ((td.1, omega (arith, td.2)), t.1))

  literal_of_takes : line.literal_of mark s ≡ Ok x → Goal x
  literal_of_takes e = elim (chosen (bytes_eq mark (codes ">=")) _ _ _ e) [
    | inl p ↦ plain_takes AtLeast (codes ">=") (λ r s' t i. (t, i)) p.0 p.1
    | inr p ↦ elim (chosen (bytes_eq mark (codes ">")) _ _ _ p.1) [
      | inl p ↦ plain_takes Above (codes ">") (λ r s' t i. (t, i)) p.0 p.1
      | inr p ↦ elim (chosen (bytes_eq mark (codes "|")) _ _ _ p.1) [
        | inl p ↦ divided_takes Divides (codes "|") (λ d r s' t i. (t, i)) p.0 p.1
        | inr p ↦ elim (chosen (bytes_eq mark (codes "!|")) _ _ _ p.1) [
          | inl p ↦ divided_takes NotDivides (codes "!|") (λ d r s' t i. (t, i)) p.0 p.1
          | inr p ↦ absurd (let q = p.1 in cc)
        ]
      ]
    ]
  ]

pub literal_takes : (s : Spot) (x : Lit × Spot) → literal s ≡ Ok x → Takes s (spelled.literal x.0) x.1 × IsLiteral x.0
unfolding literal
literal_takes s x e =
    let w = bind_ok (next s) _ x e in
    literal_of_takes s w.0.0 w.0.1 x (next_takes s w.0 w.1) w.2

pub literal_again : (s : Spot) (l : Lit) (z : List ℕ) → IsLiteral l → Stops z → s.rest ≡ spelled.literal l ++ z → Reads (literal s) l z
unfolding literal
literal_again s (AtLeast r) z i stop e =
    bind_again (next s) _ (AtLeast r) z (next_again s (codes ">=") (spelled.row r ++ z) (record { some = omega arith; all = refl }) refl e)
    (λ s1 e1. made_again AtLeast (row (2 ^ 20) s1) (row_again (2 ^ 20) s1 r z (omega arith) i (all_below 0 r.terms i.0) stop e1))
literal_again s (Above r) z i stop e =
    bind_again (next s) _ (Above r) z (next_again s (codes ">") (spelled.row r ++ z) (record { some = omega arith; all = refl }) refl e)
    (λ s1 e1. made_again Above (row (2 ^ 20) s1) (row_again (2 ^ 20) s1 r z (omega arith) i (all_below 0 r.terms i.0) stop e1))
literal_again s (Divides d r) z i stop e =
    bind_again (next s) _ (Divides d r) z (next_again s (codes "|") ((spelled.natural d ++ spelled.row r) ++ z) (record { some = omega arith; all = refl }) refl e)
    (λ s1 e1. bind_again (taking.count 1 s1) _ (Divides d r) z (natural_again 1 (cap + 1) s1 d (spelled.row r ++ z) i.0.0 (omega (arith, i.0.1)) (omega arith) refl (e1 ∙ append_assoc (spelled.natural d) (spelled.row r) z))
    (λ s2 e2. made_again (Divides d) (row (2 ^ 20) s2) (row_again (2 ^ 20) s2 r z (omega arith) i.1 (all_below 0 r.terms i.1.0) stop e2)))
literal_again s (NotDivides d r) z i stop e =
    bind_again (next s) _ (NotDivides d r) z (next_again s (codes "!|") ((spelled.natural d ++ spelled.row r) ++ z) (record { some = omega arith; all = refl }) refl e)
    (λ s1 e1. bind_again (taking.count 1 s1) _ (NotDivides d r) z (natural_again 1 (cap + 1) s1 d (spelled.row r ++ z) i.0.0 (omega (arith, i.0.1)) (omega arith) refl (e1 ∙ append_assoc (spelled.natural d) (spelled.row r) z))
    (λ s2 e2. made_again (NotDivides d) (row (2 ^ 20) s2) (row_again (2 ^ 20) s2 r z (omega arith) i.1 (all_below 0 r.terms i.1.0) stop e2)))
