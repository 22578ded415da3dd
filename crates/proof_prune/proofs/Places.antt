-- Steps of the loops over items and lines.
use Rattle.std.specs.Prelude.{ℕ, zero, suc, ◌+◌, ◌-◌, ◌≤◌, ◌<◌, ◌≡◌, Option, None, slice_get, List, [], ◌∷◌, ◌++◌, length, take, drop, get_or}
use Rattle.std.proofs.Common.{arith, ap, ◌∙◌, sym, refl, append_assoc, append-nil}
use Rattle.std.proofs.lemmas.List.{drop_more, drop_all, drop-drop}
use Rattle.cube_rules.specs.declared.Step.{Step}
use Rattle.proof_prune.specs.declared.item.Item.{Item}
use Rattle.proof_prune.specs.Counting.{uncounted}
use Rattle.proof_prune.specs.Cutting.{item_reads, passes, reads_from}
use Rattle.proof_prune.specs.Writing.{grown, item_lines, item_names, written, line_copied, line_written, names_behind}
use Rattle.proof_prune.proofs.Tallies.{uncounted_append}

reads_dropped : (d : ℕ) (es : List Item) → reads_from d es ≡ reads_from 0 (drop d es)
reads_dropped zero es = refl
reads_dropped (suc d) [] = refl
reads_dropped (suc d) (e ∷ es) = reads_dropped d es

reads_at : (es : List Item) (i : ℕ) (x : Item) → i < length es → reads_from 0 (drop i es) ≡ item_reads (get_or es i x) ++ reads_from 0 (drop (i + 1 + passes (get_or es i x)) es)
reads_at es i x l =
    ap (reads_from 0) (drop_more es i x l)
    ∙ ap (λ (xs : List ℕ). item_reads (get_or es i x) ++ xs) (reads_dropped (passes (get_or es i x)) (drop (i + 1) es) ∙ ap (reads_from 0) (drop-drop (passes (get_or es i x)) (i + 1) es))

get_taken : (es : List Item) (i end : ℕ) (x : Item) → i < length (take end es) → get_or (take end es) i x ≡ get_or es i x
get_taken [] i zero x l = absurd (omega (arith, l))
get_taken [] i (suc end) x l = absurd (omega (arith, l))
get_taken (e ∷ es) i zero x l = absurd (omega (arith, l))
get_taken (e ∷ es) zero (suc end) x l = refl
get_taken (e ∷ es) (suc i) (suc end) x l = get_taken es i end x (omega (arith, l))

-- one item, and those that it cuts out
pub forget_step : (es : List Item) (i end : ℕ) (x : Item) (cs ds all : List ℕ) (cut : ℕ)
    → uncounted (reads_from 0 (drop i (take end es))) cs ≡ all → i < length (take end es) → ds ≡ uncounted (item_reads (get_or es i x)) cs → cut ≡ passes (get_or es i x)
    → uncounted (reads_from 0 (drop (i + (cut + 1)) (take end es))) ds ≡ all
forget_step es i end x cs ds all cut h l d p =
    let e = get_or es i x in
    let k : get_or (take end es) i x ≡ e = get_taken es i end x l in
    let o : i + (cut + 1) ≡ i + 1 + passes e = omega (arith, p) in
    ap (λ (xs : List ℕ). uncounted (reads_from 0 (drop (i + (cut + 1)) (take end es))) xs) d
    ∙ ap (λ (n : ℕ). uncounted (reads_from 0 (drop n (take end es))) (uncounted (item_reads e) cs)) o
    ∙ sym (uncounted_append (item_reads e) (reads_from 0 (drop (i + 1 + passes e) (take end es))) cs)
    ∙ sym (ap (λ (y : Item). uncounted (item_reads y ++ reads_from 0 (drop (i + 1 + passes y) (take end es))) cs) k)
    ∙ ap (λ (xs : List ℕ). uncounted xs cs) (sym (reads_at (take end es) i x l))
    ∙ h

pub forget_end : (es : List Item) (i end : ℕ) (cs all : List ℕ)
    → uncounted (reads_from 0 (drop i (take end es))) cs ≡ all → length (take end es) ≤ i → cs ≡ all
forget_end es i end cs all h l = sym (ap (λ (xs : List Item). uncounted (reads_from 0 xs) cs) (drop_all i (take end es) l)) ∙ h

pub forget_rest : (es : List Item) (i end : ℕ) (x : Item) (cs ds all : List ℕ) (cut stop : ℕ)
    → uncounted (reads_from 0 (drop i (take end es))) cs ≡ all → stop ≡ length (take end es) → i < stop → ds ≡ uncounted (item_reads (get_or es i x)) cs → cut ≡ passes (get_or es i x) → stop - i - 1 ≤ cut
    → ds ≡ all
forget_rest es i end x cs ds all cut stop h s l d p w =
    forget_end es (i + (cut + 1)) end ds all (forget_step es i end x cs ds all cut h (omega (arith, s, l)) d p) (omega (arith, s, l, w))

-- ---- what is written

written_dropped : (ls : List Step) (names : List ℕ) (d : ℕ) (es : List Item) → written ls names d es ≡ written ls names 0 (drop d es)
written_dropped ls names zero es = refl
written_dropped ls names (suc d) [] = refl
written_dropped ls names (suc d) (e ∷ es) = written_dropped ls names d es

written_at : (ls : List Step) (names : List ℕ) (es : List Item) (i : ℕ) (x : Item) → i < length es
    → written ls names 0 (drop i es) ≡ item_lines ls names (get_or es i x) ++ written ls (item_names ls names (get_or es i x)) 0 (drop (i + 1 + passes (get_or es i x)) es)
written_at ls names es i x l =
    let e = get_or es i x in
    ap (written ls names 0) (drop_more es i x l)
    ∙ ap (λ (xs : List Step). item_lines ls names e ++ xs) (written_dropped ls (item_names ls names e) (passes e) (drop (i + 1) es) ∙ ap (written ls (item_names ls names e) 0) (drop-drop (passes e) (i + 1) es))

pub write_step : (ls : List Step) (names names' : List ℕ) (out out' all : List Step) (es : List Item) (i : ℕ) (x : Item) (cut : ℕ)
    → out ++ written ls names 0 (drop i es) ≡ all → i < length es → out' ≡ out ++ item_lines ls names (get_or es i x) → names' ≡ item_names ls names (get_or es i x) → cut ≡ passes (get_or es i x)
    → out' ++ written ls names' 0 (drop (i + (cut + 1)) es) ≡ all
write_step ls names names' out out' all es i x cut h l o n p =
    let e = get_or es i x in
    let k : i + (cut + 1) ≡ i + 1 + passes e = omega (arith, p) in
    ap (λ (xs : List Step). xs ++ written ls names' 0 (drop (i + (cut + 1)) es)) o
    ∙ ap (λ (xs : List ℕ). (out ++ item_lines ls names e) ++ written ls xs 0 (drop (i + (cut + 1)) es)) n
    ∙ ap (λ (m : ℕ). (out ++ item_lines ls names e) ++ written ls (item_names ls names e) 0 (drop m es)) k
    ∙ append_assoc out (item_lines ls names e) (written ls (item_names ls names e) 0 (drop (i + 1 + passes e) es))
    ∙ ap (λ (xs : List Step). out ++ xs) (sym (written_at ls names es i x l))
    ∙ h

pub write_end : (ls : List Step) (names : List ℕ) (out all : List Step) (es : List Item) (i : ℕ)
    → out ++ written ls names 0 (drop i es) ≡ all → length es ≤ i → out ≡ all
write_end ls names out all es i h l = sym (append-nil out) ∙ sym (ap (λ (xs : List Item). out ++ written ls names 0 xs) (drop_all i es l)) ∙ h

pub write_rest : (ls : List Step) (names names' : List ℕ) (out out' all : List Step) (es : List Item) (i : ℕ) (x : Item) (cut : ℕ)
    → out ++ written ls names 0 (drop i es) ≡ all → i < length es → out' ≡ out ++ item_lines ls names (get_or es i x) → names' ≡ item_names ls names (get_or es i x) → cut ≡ passes (get_or es i x) → length es - i - 1 ≤ cut
    → out' ≡ all
write_rest ls names names' out out' all es i x cut h l o n p w =
    write_end ls names' out' all es (i + (cut + 1)) (write_step ls names names' out out' all es i x cut h l o n p) (omega (arith, l, w))

get_none : (ls : List Step) (i : ℕ) → length ls ≤ i → slice_get ls i ≡ None
get_none [] i h = refl
get_none (l ∷ ls) zero h = absurd (omega (arith, h))
get_none (l ∷ ls) (suc i) h = get_none ls i (omega (arith, h))

pub none_copied : (out ls : List Step) (i : ℕ) → length ls ≤ i → out ≡ out ++ line_copied (slice_get ls i)
none_copied out ls i h = sym (append-nil out) ∙ ap (λ (x : Option Step). out ++ line_copied x) (sym (get_none ls i h))

pub none_written : (out ls : List Step) (names : List ℕ) (i : ℕ) → length ls ≤ i → out ≡ out ++ line_written names (slice_get ls i)
none_written out ls names i h = sym (append-nil out) ∙ ap (λ (x : Option Step). out ++ line_written names x) (sym (get_none ls i h))

pub none_named : (ls : List Step) (names : List ℕ) (i : ℕ) → length ls ≤ i → names ≡ names_behind names (slice_get ls i)
none_named ls names i h = sym (ap (names_behind names) (get_none ls i h))

pub grow_step : (a i : ℕ) (names : List ℕ) → i < a → grown (a - i) names ≡ grown (a - (i + 1)) (grown 1 names)
grow_step a i names l = let o : a - i ≡ suc (a - (i + 1)) = omega (arith, l) in ap (λ (n : ℕ). grown n names) o
