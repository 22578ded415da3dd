-- Operators and definitions at their arguments.
use Rattle.std.proofs.Common.{◌≡◌, ℕ, ◌+◌, ◌<◌, ◌≤◌, List, [], ◌∷◌, ◌++◌, length, drop, get_or, sym, ap, ◌∙◌, append_assoc, drop-cons, add-one}
use Rattle.std.proofs.Math.ListN.{drop_of_length-le}
use Rattle.std.proofs.lemmas.List.{append-nil}
use Rattle.term_table.specs.declared.Worth.{Worth}
use Rattle.term_table.specs.Placed.{top}
use Rattle.term_table.specs.Worth.{worth_of}
use Rattle.term_table.specs.Meaning.{Meaning, at}
use Rattle.smt_term.specs.declared.seen.Seen.{Seen}
use Rattle.smt_term.specs.View.{worths_at}
use Rattle.smt_term.proofs.MakingLemmas.{no_seen}

-- ---- what is known of the arguments

drop-seen : (xs : List Seen) (i : ℕ) → i < length xs → drop i xs ≡ get_or xs i no_seen ∷ drop (i + 1) xs
drop-seen xs i lt = rw add-one (drop-cons xs i no_seen lt)

pub worths-more : (ms : List Meaning) (xs : List Seen) (i : ℕ) (ws more : List Worth) (w : Worth) → i < length xs → ws ++ worths_at ms (drop i xs) ≡ worths_at ms xs
    → more ≡ ws ++ w ∷ [] → w ≡ worth_of (at ms (get_or xs i no_seen).node top 0) → more ++ worths_at ms (drop (i + 1) xs) ≡ worths_at ms xs
worths-more ms xs i ws more w lt on more_is w_is =
    ap (λ (us : List Worth). us ++ worths_at ms (drop (i + 1) xs)) more_is
    ∙ append_assoc ws (w ∷ []) (worths_at ms (drop (i + 1) xs))
    ∙ ap (λ (v : Worth). ws ++ v ∷ worths_at ms (drop (i + 1) xs)) w_is
    ∙ ap (λ (ys : List Seen). ws ++ worths_at ms ys) (sym (drop-seen xs i lt))
    ∙ on

pub worths-all : (ms : List Meaning) (xs : List Seen) (i : ℕ) (ws : List Worth) → length xs ≤ i → ws ++ worths_at ms (drop i xs) ≡ worths_at ms xs → ws ≡ worths_at ms xs
worths-all ms xs i ws le on = sym (append-nil ws) ∙ ap (λ (ys : List Seen). ws ++ worths_at ms ys) (sym (drop_of_length-le xs le)) ∙ on
