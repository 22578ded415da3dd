-- The cases of a term in preorder: the cases run from the last to the first, over a list of what was made behind them, and
-- what is done with a form is given.
use Rattle.std.specs.Prelude.{ℕ, suc, ◌≡◌, List, [], ◌∷◌, Option, None, Some, Result, Ok, Err, ⊤}
use Rattle.lin_term.specs.declared.Sort.{Sort}
use Rattle.lin_form.specs.declared.FormFault.{FormFault}
use Rattle.lin_form.specs.declared.FormFault.TheVariants as faults
use Rattle.lin_form.specs.Lin.{Lin, lin_variable, lin_plus, lin_minus, lin_times, lin_neg, lin_over}
use Rattle.lin_form.specs.Operating.{value_of}
use Rattle.norm_form.specs.declared.branches.Case.{Case}
use Rattle.norm_form.specs.declared.branches.Case.TheVariants as cases
use Rattle.norm_form.specs.declared.change.Step.{Step}
use Rattle.norm_form.specs.declared.change.Step.TheVariants as steps
use Rattle.norm_form.specs.declared.change.Division.{Division}
use Rattle.norm_form.specs.declared.change.Division.TheVariants as divisions
use Rattle.norm_form.specs.declared.change.Change.{Change}
use Rattle.norm_form.specs.declared.change.Change.TheVariants as changes
use Rattle.norm_form.specs.Cap.{capped_maker, over, over2}
use Rattle.norm_form.specs.Norm.{ite_form, div_forms, multiple}
use Rattle.norm_form.specs.Normal.{Normal, each_of, there_is, part, no_part}
use Rattle.norm_form.specs.View.{shape_of}

abbrev pub chosen : Normal → Normal → List (Option Normal) → List (Option Normal)
chosen c n [] = None ∷ []
chosen c n (a ∷ []) = None ∷ []
chosen c n (a ∷ b ∷ rs) = over2 (ite_form c n) a b ∷ rs

abbrev pub between : Normal → Normal → Normal → Normal
between l h a = there_is (each_of (part l (part h (part a no_part))))

abbrev pub bounded : Normal → Normal → List (Option Normal) → List (Option Normal)
bounded l h [] = None ∷ []
bounded l h (a ∷ rs) = over (between l h) a ∷ rs

abbrev pub put : Case → (ℕ → Lin → Option Normal) → List (Option Normal) → List (Option Normal)
put (cases.Form d x) k rs = k d x ∷ rs
put (cases.Choice c n) k rs = chosen (shape_of c) (shape_of n) rs
put (cases.Quotient l h) k rs = bounded (shape_of l) (shape_of h) rs

abbrev pub run : List Case → (ℕ → Lin → Option Normal) → List (Option Normal) → List (Option Normal)
run [] k rs = rs
run (c ∷ cs) k rs = put c k (run cs k rs)

-- from the first to the last: of cases that stand in reversed order
abbrev pub run_back : List Case → (ℕ → Lin → Option Normal) → List (Option Normal) → List (Option Normal)
run_back [] k rs = rs
run_back (c ∷ cs) k rs = run_back cs k (put c k rs)

abbrev pub HasNone : List (Option Normal) → Type 0
HasNone [] = ⊥
HasNone (None ∷ rs) = ⊤
HasNone (Some n ∷ rs) = HasNone rs

-- the cases of a term that makes g; want of memory is free
abbrev pub AreCases : ((ℕ → Lin → Option Normal) → Option Normal) → Result (List Case) FormFault → Type 0
AreCases g (Ok cs) = (k : ℕ → Lin → Option Normal) (rs : List (Option Normal)) → run cs k rs ≡ g k ∷ rs
AreCases g (Err faults.Number) = (k : ℕ → Lin → Option Normal) → g k ≡ None
AreCases g (Err faults.Memory) = ⊤
AreCases g (Err faults.Size) = ⊥
AreCases g (Err faults.Variables) = ⊥

-- the same, in reversed order
abbrev pub AreBack : ((ℕ → Lin → Option Normal) → Option Normal) → Result (List Case) FormFault → Type 0
AreBack g (Ok cs) = (k : ℕ → Lin → Option Normal) (rs : List (Option Normal)) → run_back cs k rs ≡ g k ∷ rs
AreBack g (Err faults.Number) = (k : ℕ → Lin → Option Normal) → g k ≡ None
AreBack g (Err faults.Memory) = ⊤
AreBack g (Err faults.Size) = ⊥
AreBack g (Err faults.Variables) = ⊥

-- each form of the cases went through f
abbrev pub AreTurned : ((ℕ → Lin → Option Normal) → ℕ → Lin → Option Normal) → List Case → Result (List Case) FormFault → Type 0
AreTurned f cs (Ok out) = (k : ℕ → Lin → Option Normal) (rs : List (Option Normal)) → run out k rs ≡ run cs (f k) rs
AreTurned f cs (Err faults.Number) = (k : ℕ → Lin → Option Normal) → HasNone (run cs (f k) [])
AreTurned f cs (Err faults.Memory) = ⊤
AreTurned f cs (Err faults.Size) = ⊥
AreTurned f cs (Err faults.Variables) = ⊥

abbrev pub AreTurnedBack : ((ℕ → Lin → Option Normal) → ℕ → Lin → Option Normal) → List Case → Result (List Case) FormFault → Type 0
AreTurnedBack f cs (Ok out) = (k : ℕ → Lin → Option Normal) (rs : List (Option Normal)) → run_back out k rs ≡ run cs (f k) rs
AreTurnedBack f cs (Err faults.Number) = (k : ℕ → Lin → Option Normal) → HasNone (run cs (f k) [])
AreTurnedBack f cs (Err faults.Memory) = ⊤
AreTurnedBack f cs (Err faults.Size) = ⊥
AreTurnedBack f cs (Err faults.Variables) = ⊥

-- one case, whose form went through f: what stands for it, in reversed order
abbrev pub IsTurned : ((ℕ → Lin → Option Normal) → ℕ → Lin → Option Normal) → Case → Result (List Case) FormFault → Type 0
IsTurned f c (Ok out) = (k : ℕ → Lin → Option Normal) (rs : List (Option Normal)) → run_back out k rs ≡ put c (f k) rs
IsTurned f c (Err faults.Number) = (k : ℕ → Lin → Option Normal) (rs : List (Option Normal)) → HasNone (put c (f k) rs)
IsTurned f c (Err faults.Memory) = ⊤
IsTurned f c (Err faults.Size) = ⊥
IsTurned f c (Err faults.Variables) = ⊥

-- each form of cases that stand in reversed order went through f; the result stands so too
abbrev pub AreBothBack : ((ℕ → Lin → Option Normal) → ℕ → Lin → Option Normal) → List Case → Result (List Case) FormFault → Type 0
AreBothBack f cs (Ok out) = (k : ℕ → Lin → Option Normal) (rs : List (Option Normal)) → run_back out k rs ≡ run_back cs (f k) rs
AreBothBack f cs (Err faults.Number) = (k : ℕ → Lin → Option Normal) → HasNone (run_back cs (f k) [])
AreBothBack f cs (Err faults.Memory) = ⊤
AreBothBack f cs (Err faults.Size) = ⊥
AreBothBack f cs (Err faults.Variables) = ⊥

-- ---- what is done with one form

abbrev pub stepped : Step → Lin → Lin → Lin
stepped steps.Plus x y = lin_plus x y
stepped steps.Minus x y = lin_minus x y
stepped steps.From x y = lin_minus y x
stepped steps.Times x y = lin_times x y

-- a step on a first form and each of a second number
abbrev pub joined : Step → Lin → (ℕ → Lin → Option Normal) → ℕ → Lin → Option Normal
joined t x k f y = capped_maker.formed (stepped t x y ∷ []) (k f (stepped t x y))

abbrev pub changed : Change → Sort → (ℕ → Lin → Option Normal) → ℕ → Lin → Option Normal
changed changes.Negative s k e x = capped_maker.formed (lin_neg x ∷ []) (k e (lin_neg x))
changed (changes.Over y) s k e x = capped_maker.formed (lin_over x (value_of y) ∷ []) (k e (lin_over x (value_of y)))
changed changes.Absolute s k e x = capped_maker.abs_form s x (k e x) (capped_maker.formed (lin_neg x ∷ []) (k e (lin_neg x)))
changed (changes.Whole y) s k e x =
    capped_maker.formed (div_forms y.form.constant x e) (capped_maker.div_form s y.form.constant x e (k (suc e) (lin_variable e)))
changed (changes.Rest y) s k e x =
    capped_maker.formed (div_forms y.form.constant x e) (capped_maker.div_form s y.form.constant x e (k (suc e) (lin_minus x (multiple y.form.constant e))))

abbrev pub divided : Division → Lin → Sort → (ℕ → Lin → Option Normal) → ℕ → Lin → Option Normal
divided divisions.Over y s k e x = changed (changes.Over y) s k e x
divided divisions.Whole y s k e x = changed (changes.Whole y) s k e x
divided divisions.Rest y s k e x = changed (changes.Rest y) s k e x
