-- One thing after the other. What was read so far can bear on what may follow: a state goes along.
use Rattle.std.specs.Prelude.{ℕ, zero, suc, Bool, if◌then◌else◌, List, [], ◌∷◌, Ok, Err}
use Rattle.strat_words.specs.Spot.{Spot, Taken, ◌>>=◌}

-- what was taken, made into something
abbrev pub made : {A B : Type 0} → (A → B) → Taken A → Taken B
made f (Ok x) = Ok (f x.0, x.1)
made f (Err p) = Err p

-- as many as begin in what is left, by its test; no line has more words than bytes are left
unfoldable pub many : {A K : Type 0} → (List ℕ → Bool) → (K → Spot → Taken A) → (K → A → K) → ℕ → K → Spot → Taken (List A)
many begins one after zero k s = Ok ([], s)
many begins one after (suc left) k s =
    if begins s.rest
    then (one k s >>= λ x. made (λ xs. x.0 ∷ xs) (many begins one after left (after k x.0) x.1))
    else Ok ([], s)

-- a number of them
unfoldable pub times : {A K : Type 0} → (K → Spot → Taken A) → (K → A → K) → ℕ → K → Spot → Taken (List A)
times one after zero k s = Ok ([], s)
times one after (suc n) k s = one k s >>= λ x. made (λ xs. x.0 ∷ xs) (times one after n (after k x.0) x.1)

-- the state behind them
abbrev pub state_behind : {A K : Type 0} → (K → A → K) → K → List A → K
state_behind after k [] = k
state_behind after k (x ∷ xs) = state_behind after (after k x) xs

-- each fits behind those before it
abbrev pub Chain : {A K : Type 0} → (K → A → Type 0) → (K → A → K) → K → List A → Type 0
Chain Fit after k [] = Unit {0}
Chain Fit after k (x ∷ xs) = Fit k x × Chain Fit after (after k x) xs
