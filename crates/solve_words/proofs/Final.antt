-- From the clauses of `clap` to what the words ask.
use Rattle.std.proofs.Common.{◌≡◌, ◌∙◌, ◌⊎◌, inl, inr, List, [], true, refl, sym, ap, subst, codes, None}
use Rattle.clap.specs.Words.{App, is_simple, matches_of, rows_of}
use Rattle.clap.specs.Kinds.{IsAmong}
use Rattle.clap.specs.Faults.{fault_of, is_simple_and_free}
use Rattle.clap.specs.declared.error.kind.ErrorKind.{ErrorKind}
use Rattle.clap.specs.declared.error.kind.ErrorKind.TheVariants as kind
use Rattle.clap.specs.declared.parser.matches.Found.{Found}
use Rattle.clap.proofs.OnLiterals.{clap_on_literals}
use Rattle.clap.proofs.WalkLemmas.{first_value-rows}
use Rattle.solve_words.specs.Words.{Word, asking_by, words_of}
use Rattle.solve_words.specs.Reading.{command, settings_in}
use Rattle.solve_words.proofs.Steps.{is_free}
use Rattle.solve_words.proofs.Agreed.{found_asks, refused_asks, settings_by}

is_simple_so : is_simple command ≡ true
unfolding clap_on_literals
is_simple_so = refl

in_rows : (f : Found) → settings_in f ≡ settings_by (rows_of f)
in_rows f = λ i. record {
  script = first_value-rows f (codes "script") i;
  strategy = first_value-rows f (codes "strategy") i;
  journal = first_value-rows f (codes "journal") i;
  workers = first_value-rows f (codes "workers") i;
  rounds = first_value-rows f (codes "rounds") i;
  generate = first_value-rows f (codes "generate") i;
}

-- words that `clap` takes
pub taken : (a : App) (ws : List Word) (f : Found) → a ≡ command → (is_simple a ≡ true → rows_of f ≡ matches_of a ws) → (is_simple_and_free a ≡ true → fault_of a ws ≡ [])
    → asking_by (settings_in f) ≡ words_of ws
taken a ws f is rows kinds =
    let same : rows_of f ≡ matches_of command ws = rows (ap is_simple is ∙ is_simple_so) ∙ ap (λ (b : App). matches_of b ws) is in
    let none : fault_of command ws ≡ [] = sym (ap (λ (b : App). fault_of b ws) is) ∙ kinds (ap is_simple_and_free is ∙ is_free) in
    ap asking_by (in_rows f ∙ ap settings_by same) ∙ sym (found_asks ws none)

-- words that it refuses
pub not_taken : (a : App) (ws : List Word) (k : ErrorKind) → a ≡ command → (is_simple_and_free a ≡ true → (k ≡ kind.OutOfMemory) ⊎ IsAmong k (fault_of a ws))
    → (k ≡ kind.OutOfMemory → ⊥) → None ≡ words_of ws
not_taken a ws k is kinds enough = go (kinds (ap is_simple_and_free is ∙ is_free))
  where
    go : ((k ≡ kind.OutOfMemory) ⊎ IsAmong k (fault_of a ws)) → None ≡ words_of ws
    go (inl e) = absurd (enough e)
    go (inr among) = sym (refused_asks ws k (subst (λ (b : App). IsAmong k (fault_of b ws)) is among))
