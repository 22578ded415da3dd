-- How often facts are read.
use Rattle.std.specs.Prelude.{ℕ, ◌+◌, ◌-◌, ◌≤◌, nat_eq, Bool, List, [], ◌∷◌, slice_index_or, slice_set}
use Rattle.std.specs.List.{list_all, AllByRecursion}
use Rattle.cube_rules.specs.declared.Step.{Step}
use Rattle.cube_rules.specs.declared.Step.TheVariants.{Path, Def, Part, Cases, Sum, Split, Cube, Least, Learn, False}

-- the facts that the line reads
abbrev pub facts_read : Step → List ℕ
facts_read (Path k) = []
facts_read (Def v i) = []
facts_read (Part f i) = f ∷ []
facts_read (Cases f n) = f ∷ []
facts_read (Sum p f q h g) = f ∷ h ∷ []
facts_read (Split l) = []
facts_read (Cube fs) = fs
facts_read (Least v n) = []
facts_read (Learn ls) = []
facts_read (False f) = f ∷ []

-- each of these facts is read once more; one without a count is passed over
abbrev pub counted : List ℕ → List ℕ → List ℕ
counted [] cs = cs
counted (f ∷ fs) cs = counted fs (slice_set cs f (slice_index_or cs f 0 + 1))

-- each of them is read once less
abbrev pub uncounted : List ℕ → List ℕ → List ℕ
uncounted [] cs = cs
uncounted (f ∷ fs) cs = uncounted fs (slice_set cs f (slice_index_or cs f 0 - 1))

abbrev pub all_unread : List ℕ → Bool
all_unread cs = list_all (λ c. nat_eq c 0) cs

abbrev pub AtMost : ℕ → List ℕ → Type 0
AtMost n cs = AllByRecursion (λ c. c ≤ n) cs
