-- A word that begins with `-` is no name and no number, so that no run has it for a value.
use Rattle.std.proofs.Common.{◌≡◌, ℕ, Bool, true, false, ◌&&◌, List, [], ◌∷◌, ◌++◌, Option, Some, None, is_some, refl, codes}
use Rattle.std.specs.Prelude.{if◌then◌else◌, option_and_then, is_none}
use Rattle.solve_words.specs.Words.{Asking, Piece, Settings, Word, are_names, asking_by, differ, is_name, generating, named, number, number_or, plain, setting, solving}
use Rattle.solve_words.proofs.Steps.{lookup}
use Rattle.solve_words.proofs.Gathered.{IsArg, Use, by_arg, joined, known, lookup_kept, put, puts, settings_at}

no_names : (script strategy : Word) (journal : Option Word) (w r : Option ℕ) → are_names (script ∷ strategy ∷ named journal) ≡ false → solving script strategy journal w r ≡ None
no_names script strategy journal None r e = refl
no_names script strategy journal (Some w) None e = refl
no_names script strategy journal (Some w) (Some r) e = rw e refl

no_rounds : (script strategy : Word) (journal : Option Word) (w : Option ℕ) → solving script strategy journal w None ≡ None
no_rounds script strategy journal None = refl
no_rounds script strategy journal (Some w) = refl

no_rounds_made : (n : Option ℕ) → generating n None ≡ None
no_rounds_made None = refl
no_rounds_made (Some n) = refl

if_none : {X : Type 0} (b : Bool) (x : Option X) → x ≡ None → (if b then x else None) ≡ None
if_none true x e = e
if_none false x e = refl

second : (a b : Bool) → (a && false && b) ≡ false
second true b = refl
second false b = refl

third : (a b c : Bool) → (a && (b && false) && c) ≡ false
third true true c = refl
third true false c = refl
third false b c = refl

abbrev all_of : Option Word → Option Word → Option Word → Option Word → Option Word → Option Word → Settings
all_of script strategy journal workers rounds generate =
    record { script = script; strategy = strategy; journal = journal; workers = workers; rounds = rounds; generate = generate }

bad_script : (x : Word) (t j w r g : Option Word) → asking_by (all_of (Some (45 ∷ x)) t j w r g) ≡ None
unfolding asking_by
bad_script x t j w r (Some g) = refl
bad_script x None j w r None = refl
bad_script x (Some t) j w r None = no_names (45 ∷ x) t j (number_or 2 0 64 w) (number_or 256 0 4096 r) refl

bad_strategy : (x : Word) (f j w r g : Option Word) → asking_by (all_of f (Some (45 ∷ x)) j w r g) ≡ None
unfolding asking_by
bad_strategy x (Some f) j w r (Some g) = refl
bad_strategy x (Some f) j w r None = no_names f (45 ∷ x) j (number_or 2 0 64 w) (number_or 256 0 4096 r) (second (is_name f) (differ (f ∷ (45 ∷ x) ∷ named j)))
bad_strategy x None j w r None = refl
bad_strategy x None j w r (Some g) = refl

bad_journal : (x : Word) (f t w r g : Option Word) → asking_by (all_of f t (Some (45 ∷ x)) w r g) ≡ None
unfolding asking_by
bad_journal x (Some f) t w r (Some g) = refl
bad_journal x (Some f) None w r None = refl
bad_journal x (Some f) (Some t) w r None =
    no_names f t (Some (45 ∷ x)) (number_or 2 0 64 w) (number_or 256 0 4096 r) (third (is_name f) (is_name t) (differ (f ∷ t ∷ (45 ∷ x) ∷ [])))
bad_journal x None t w r None = refl
bad_journal x None None w r (Some g) = refl
bad_journal x None (Some t) w r (Some g) = refl

bad_workers : (x : Word) (f t j r g : Option Word) → asking_by (all_of f t j (Some (45 ∷ x)) r g) ≡ None
unfolding asking_by
bad_workers x (Some f) t j r (Some g) = refl
bad_workers x (Some f) None j r None = refl
bad_workers x (Some f) (Some t) j r None = refl
bad_workers x None t j r None = refl
bad_workers x None (Some t) j r (Some g) = refl
bad_workers x None None (Some j) r (Some g) = refl
bad_workers x None None None r (Some g) = refl

bad_rounds : (x : Word) (f t j w g : Option Word) → asking_by (all_of f t j w (Some (45 ∷ x)) g) ≡ None
unfolding asking_by
bad_rounds x (Some f) t j w (Some g) = refl
bad_rounds x (Some f) None j w None = refl
bad_rounds x (Some f) (Some t) j w None = no_rounds f t j (number_or 2 0 64 w)
bad_rounds x None t j w None = refl
bad_rounds x None t j w (Some g) = if_none (is_none t && is_none j && is_none w) _ (no_rounds_made (number 1 64 g))

bad_generate : (x : Word) (f t j w r : Option Word) → asking_by (all_of f t j w r (Some (45 ∷ x))) ≡ None
unfolding asking_by
bad_generate x (Some f) t j w r = refl
bad_generate x None t j w r = if_none (is_none t && is_none j && is_none w) _ refl

pub asks_none : (id : Word) → IsArg id → (us : List Use) (x : Word) → lookup id us ≡ Some (45 ∷ x) → asking_by (settings_at us) ≡ None
asks_none = by_arg (λ id. (us : List Use) (x : Word) → lookup id us ≡ Some (45 ∷ x) → asking_by (settings_at us) ≡ None)
    (λ us x e. rw e (bad_script x (lookup (codes "strategy") us) (lookup (codes "journal") us) (lookup (codes "workers") us) (lookup (codes "rounds") us) (lookup (codes "generate") us)))
    (λ us x e. rw e (bad_strategy x (lookup (codes "script") us) (lookup (codes "journal") us) (lookup (codes "workers") us) (lookup (codes "rounds") us) (lookup (codes "generate") us)))
    (λ us x e. rw e (bad_journal x (lookup (codes "script") us) (lookup (codes "strategy") us) (lookup (codes "workers") us) (lookup (codes "rounds") us) (lookup (codes "generate") us)))
    (λ us x e. rw e (bad_workers x (lookup (codes "script") us) (lookup (codes "strategy") us) (lookup (codes "journal") us) (lookup (codes "rounds") us) (lookup (codes "generate") us)))
    (λ us x e. rw e (bad_rounds x (lookup (codes "script") us) (lookup (codes "strategy") us) (lookup (codes "journal") us) (lookup (codes "workers") us) (lookup (codes "generate") us)))
    (λ us x e. rw e (bad_generate x (lookup (codes "script") us) (lookup (codes "strategy") us) (lookup (codes "journal") us) (lookup (codes "workers") us) (lookup (codes "rounds") us)))

-- what is asked by the uses in the end
abbrev pub ends : Option (List Use) → Option Asking
ends = option_and_then (λ us. asking_by (settings_at us))

-- whatever comes behind
pub doomed : (id : Word) → IsArg id → (x : Word) (us : List Use) (ps : List Piece) → lookup id us ≡ Some (45 ∷ x) → ends (puts us ps) ≡ None
doomed id arg x us [] e = asks_none id arg us x e
doomed id arg x us (p ∷ ps) e = go p (λ (more : List Use). doomed id arg x more ps)
  where
    join : (u : Use) → ((more : List Use) → lookup id more ≡ Some (45 ∷ x) → ends (puts more ps) ≡ None) → (b : Bool)
        → ends (option_and_then (λ more. puts more ps) (if b then None else Some (us ++ u ∷ []))) ≡ None
    join u ih true = refl
    join u ih false = ih (us ++ u ∷ []) (lookup_kept id (45 ∷ x) us u e)

    go : (p : Piece) → ((more : List Use) → lookup id more ≡ Some (45 ∷ x) → ends (puts more ps) ≡ None) → ends (option_and_then (λ more. puts more ps) (put p us)) ≡ None
    go (plain w) ih = join (codes "script", w) ih (is_some (lookup (codes "script") us))
    go (setting n v) ih = of (known n)
      where
        of : (b : Bool) → ends (option_and_then (λ more. puts more ps) (if b then joined us (n, v) else None)) ≡ None
        of true = join (n, v) ih (is_some (lookup n us))
        of false = refl
