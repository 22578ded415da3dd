-- Cases run one after the other.
use Rattle.std.specs.Prelude.{ℕ, ◌+◌, ◌≡◌, ◌≤◌, Bool, true, List, [], ◌∷◌, ◌++◌, take, drop, length, Option, None, Some, Result, Ok, Err}
use Rattle.std.proofs.Common.{ap, ◌∙◌, sym, subst, refl}
use Rattle.std.proofs.lemmas.List.{take-append-drop, take_all}
use Rattle.lin_form.specs.declared.FormFault.{FormFault}
use Rattle.lin_form.specs.declared.FormFault.TheVariants as faults
use Rattle.lin_form.specs.Lin.{Lin}
use Rattle.lin_form.specs.Kept.{within, lins_numbers}
use Rattle.lin_form.specs.Outcome.{Formed}
use Rattle.norm_form.specs.declared.branches.Case.{Case}
use Rattle.norm_form.specs.declared.branches.Case.TheVariants as cases
use Rattle.norm_form.specs.declared.change.Step.{Step}
use Rattle.norm_form.specs.declared.normal.LevelForm.{LevelForm as Built}
use Rattle.norm_form.specs.Cap.{capped_maker, keep_if}
use Rattle.norm_form.specs.Cases.{chosen, bounded, put, run, run_back, HasNone, AreCases, AreBack, AreTurned, AreTurnedBack, IsTurned, AreBothBack, joined, stepped}
use Rattle.norm_form.specs.Normal.{Normal}
use Rattle.norm_form.specs.View.{shape_of}

pub run_append : (xs ys : List Case) (k : ℕ → Lin → Option Normal) (rs : List (Option Normal)) → run (xs ++ ys) k rs ≡ run xs k (run ys k rs)
run_append [] ys k rs = refl
run_append (c ∷ xs) ys k rs = ap (put c k) (run_append xs ys k rs)

pub back_append : (xs ys : List Case) (k : ℕ → Lin → Option Normal) (rs : List (Option Normal)) → run_back (xs ++ ys) k rs ≡ run_back ys k (run_back xs k rs)
back_append [] ys k rs = refl
back_append (c ∷ xs) ys k rs = back_append xs ys k (put c k rs)

-- ---- where one result is missing, the whole is

none_tail : (o : Option Normal) (rs : List (Option Normal)) → HasNone rs → HasNone (o ∷ rs)
none_tail None rs h = tt
none_tail (Some n) rs h = h

chosen_none : (c n : Normal) (rs : List (Option Normal)) → HasNone rs → HasNone (chosen c n rs)
chosen_none c n [] h = tt
chosen_none c n (a ∷ []) h = tt
chosen_none c n (None ∷ b ∷ rs) h = tt
chosen_none c n (Some a ∷ None ∷ rs) h = tt
chosen_none c n (Some a ∷ Some b ∷ rs) h = h

bounded_none : (l h : Normal) (rs : List (Option Normal)) → HasNone rs → HasNone (bounded l h rs)
bounded_none l h [] e = tt
bounded_none l h (None ∷ rs) e = tt
bounded_none l h (Some a ∷ rs) e = e

pub put_none : (c : Case) (k : ℕ → Lin → Option Normal) (rs : List (Option Normal)) → HasNone rs → HasNone (put c k rs)
put_none (cases.Form d x) k rs h = none_tail (k d x) rs h
put_none (cases.Choice c n) k rs h = chosen_none (shape_of c) (shape_of n) rs h
put_none (cases.Quotient l u) k rs h = bounded_none (shape_of l) (shape_of u) rs h

pub run_none : (cs : List Case) (k : ℕ → Lin → Option Normal) (rs : List (Option Normal)) → HasNone rs → HasNone (run cs k rs)
run_none [] k rs h = h
run_none (c ∷ cs) k rs h = put_none c k (run cs k rs) (run_none cs k rs h)

pub none_one : (o : Option Normal) → HasNone (o ∷ []) → o ≡ None
none_one None h = refl
none_one (Some n) h = absurd h

none_head : (o : Option Normal) (rs : List (Option Normal)) → o ≡ None → HasNone (o ∷ rs)
none_head o rs e = subst (λ (z : Option Normal). HasNone (z ∷ rs)) (sym e) tt

-- no form is taken: what the cases make is missing
all_none : (c : Case) (cs : List Case) (k : ℕ → Lin → Option Normal) → ((e : ℕ) (x : Lin) → k e x ≡ None) → HasNone (run (c ∷ cs) k [])
all_none (cases.Form d x) cs k h = none_head (k d x) (run cs k []) (h d x)
all_none (cases.Choice c n) [] k h = tt
all_none (cases.Choice c n) (d ∷ cs) k h = chosen_none (shape_of c) (shape_of n) (run (d ∷ cs) k []) (all_none d cs k h)
all_none (cases.Quotient l u) [] k h = tt
all_none (cases.Quotient l u) (d ∷ cs) k h = bounded_none (shape_of l) (shape_of u) (run (d ∷ cs) k []) (all_none d cs k h)

nil_cons : (o : Option Normal) (rs : List (Option Normal)) → [] ≡ o ∷ rs → ⊥
nil_cons o rs e = absurd (cc)

pub nothing_made : (cs : List Case) (g : (ℕ → Lin → Option Normal) → Option Normal) (k : ℕ → Lin → Option Normal) → AreCases g (Ok cs) → ((e : ℕ) (x : Lin) → k e x ≡ None) → g k ≡ None
nothing_made [] g k h e = absurd (nil_cons (g k) [] (h k []))
nothing_made (c ∷ cs) g k h e = none_one (g k) (subst HasNone (h k []) (all_none c cs k e))

-- ---- each form in its turn, from the last

abbrev pub GoesOn : ((ℕ → Lin → Option Normal) → ℕ → Lin → Option Normal) → List Case → List Case → List Case → Type 0
GoesOn f all todo out = (k : ℕ → Lin → Option Normal) (rs : List (Option Normal)) → run todo (f k) (run_back out k rs) ≡ run all (f k) rs

pub goes_form : (f : (ℕ → Lin → Option Normal) → ℕ → Lin → Option Normal) (all old todo out more : List Case) (d : ℕ) (x : Lin) → GoesOn f all old out → old ≡ todo ++ cases.Form d x ∷ [] → AreBack (λ k. f k d x) (Ok more) → GoesOn f all todo (out ++ more)
goes_form f all old todo out more d x h e m k rs =
    ap (run todo (f k)) (back_append out more k rs ∙ m k (run_back out k rs))
    ∙ sym (run_append todo (cases.Form d x ∷ []) (f k) (run_back out k rs))
    ∙ ap (λ (cs : List Case). run cs (f k) (run_back out k rs)) (sym e)
    ∙ h k rs

pub goes_choice : (f : (ℕ → Lin → Option Normal) → ℕ → Lin → Option Normal) (all old todo out : List Case) (c n : Built) → GoesOn f all old out → old ≡ todo ++ cases.Choice c n ∷ [] → GoesOn f all todo (out ++ cases.Choice c n ∷ [])
goes_choice f all old todo out c n h e k rs =
    ap (run todo (f k)) (back_append out (cases.Choice c n ∷ []) k rs)
    ∙ sym (run_append todo (cases.Choice c n ∷ []) (f k) (run_back out k rs))
    ∙ ap (λ (cs : List Case). run cs (f k) (run_back out k rs)) (sym e)
    ∙ h k rs

pub goes_quotient : (f : (ℕ → Lin → Option Normal) → ℕ → Lin → Option Normal) (all old todo out : List Case) (l u : Built) → GoesOn f all old out → old ≡ todo ++ cases.Quotient l u ∷ [] → GoesOn f all todo (out ++ cases.Quotient l u ∷ [])
goes_quotient f all old todo out l u h e k rs =
    ap (run todo (f k)) (back_append out (cases.Quotient l u ∷ []) k rs)
    ∙ sym (run_append todo (cases.Quotient l u ∷ []) (f k) (run_back out k rs))
    ∙ ap (λ (cs : List Case). run cs (f k) (run_back out k rs)) (sym e)
    ∙ h k rs

stops : (f : (ℕ → Lin → Option Normal) → ℕ → Lin → Option Normal) (all old todo out : List Case) (d : ℕ) (x : Lin) → GoesOn f all old out → old ≡ todo ++ cases.Form d x ∷ [] → ((k : ℕ → Lin → Option Normal) → f k d x ≡ None) → (k : ℕ → Lin → Option Normal) → HasNone (run all (f k) [])
stops f all old todo out d x h e m k =
    subst HasNone
    (sym (run_append todo (cases.Form d x ∷ []) (f k) (run_back out k [])) ∙ ap (λ (cs : List Case). run cs (f k) (run_back out k [])) (sym e) ∙ h k [])
    (run_none todo (f k) (f k d x ∷ run_back out k []) (none_head (f k d x) (run_back out k []) (m k)))

pub goes_stop : (f : (ℕ → Lin → Option Normal) → ℕ → Lin → Option Normal) (all old todo out : List Case) (d : ℕ) (x : Lin) (z : FormFault) → GoesOn f all old out → old ≡ todo ++ cases.Form d x ∷ [] → AreBack (λ k. f k d x) (Err z) → AreTurnedBack f all (Err z)
goes_stop f all old todo out d x faults.Number h e m = stops f all old todo out d x h e m
goes_stop f all old todo out d x faults.Memory h e m = tt
goes_stop f all old todo out d x faults.Size h e m = m
goes_stop f all old todo out d x faults.Variables h e m = m

pub righted_stop : (f : (ℕ → Lin → Option Normal) → ℕ → Lin → Option Normal) (cs : List Case) (z : FormFault) → AreTurnedBack f cs (Err z) → AreTurned f cs (Err z)
righted_stop f cs faults.Number h = h
righted_stop f cs faults.Memory h = h
righted_stop f cs faults.Size h = h
righted_stop f cs faults.Variables h = h

-- the cases of a term, turned
pub turned_cases : (f : (ℕ → Lin → Option Normal) → ℕ → Lin → Option Normal) (g : (ℕ → Lin → Option Normal) → Option Normal) (cs : List Case) (r : Result (List Case) FormFault) → AreCases g (Ok cs) → AreTurned f cs r → AreCases (λ k. g (f k)) r
turned_cases f g cs (Ok out) h t = λ k rs. t k rs ∙ h (f k) rs
turned_cases f g cs (Err faults.Number) h t = λ k. none_one (g (f k)) (subst HasNone (h (f k) []) (t k))
turned_cases f g cs (Err faults.Memory) h t = tt
turned_cases f g cs (Err faults.Size) h t = t
turned_cases f g cs (Err faults.Variables) h t = t

pub turned_back_cases : (f : (ℕ → Lin → Option Normal) → ℕ → Lin → Option Normal) (g : (ℕ → Lin → Option Normal) → Option Normal) (cs : List Case) (r : Result (List Case) FormFault) → AreCases g (Ok cs) → AreTurnedBack f cs r → AreBack (λ k. g (f k)) r
turned_back_cases f g cs (Ok out) h t = λ k rs. t k rs ∙ h (f k) rs
turned_back_cases f g cs (Err faults.Number) h t = λ k. none_one (g (f k)) (subst HasNone (h (f k) []) (t k))
turned_back_cases f g cs (Err faults.Memory) h t = tt
turned_back_cases f g cs (Err faults.Size) h t = t
turned_back_cases f g cs (Err faults.Variables) h t = t

pub cases_stop : (f : (ℕ → Lin → Option Normal) → ℕ → Lin → Option Normal) (g : (ℕ → Lin → Option Normal) → Option Normal) (z : FormFault) → AreCases g (Err z) → AreCases (λ k. g (f k)) (Err z)
cases_stop f g faults.Number h = λ k. h (f k)
cases_stop f g faults.Memory h = h
cases_stop f g faults.Size h = h
cases_stop f g faults.Variables h = h

pub both_back_cases : (f : (ℕ → Lin → Option Normal) → ℕ → Lin → Option Normal) (g : (ℕ → Lin → Option Normal) → Option Normal) (cs : List Case) (r : Result (List Case) FormFault) → AreBack g (Ok cs) → AreBothBack f cs r → AreBack (λ k. g (f k)) r
both_back_cases f g cs (Ok out) h t = λ k rs. t k rs ∙ h (f k) rs
both_back_cases f g cs (Err faults.Number) h t = λ k. none_one (g (f k)) (subst HasNone (h (f k) []) (t k))
both_back_cases f g cs (Err faults.Memory) h t = tt
both_back_cases f g cs (Err faults.Size) h t = t
both_back_cases f g cs (Err faults.Variables) h t = t

pub both_back_stop : (f : (ℕ → Lin → Option Normal) → ℕ → Lin → Option Normal) (g : (ℕ → Lin → Option Normal) → Option Normal) (z : FormFault) → AreBack g (Err z) → AreBack (λ k. g (f k)) (Err z)
both_back_stop f g faults.Number h = λ k. h (f k)
both_back_stop f g faults.Memory h = h
both_back_stop f g faults.Size h = h
both_back_stop f g faults.Variables h = h

pub round_stop : (g : (ℕ → Lin → Option Normal) → Option Normal) (z : FormFault) → AreCases g (Err z) → AreBack g (Err z)
round_stop g faults.Number h = h
round_stop g faults.Memory h = h
round_stop g faults.Size h = h
round_stop g faults.Variables h = h

pub back_stop : (f : (ℕ → Lin → Option Normal) → ℕ → Lin → Option Normal) (g : (ℕ → Lin → Option Normal) → Option Normal) (z : FormFault) → AreCases g (Err z) → AreBack (λ k. g (f k)) (Err z)
back_stop f g faults.Number h = λ k. h (f k)
back_stop f g faults.Memory h = h
back_stop f g faults.Size h = h
back_stop f g faults.Variables h = h

pub leaf_made : (d : ℕ) (xs : List Lin) (v x : Lin) → Formed xs v (Ok x) → AreCases (λ k. capped_maker.formed xs (k d v)) (Ok (cases.Form d x ∷ []))
leaf_made d xs v x h k rs = ap (λ (y : Lin). k d y ∷ rs) h.1 ∙ ap (λ (b : Bool). keep_if b (k d v) ∷ rs) (sym h.0)

pub leaf_stops : (d : ℕ) (xs : List Lin) (v : Lin) (z : FormFault) → Formed xs v (Err z) → AreCases (λ k. capped_maker.formed xs (k d v)) (Err z)
leaf_stops d xs v faults.Number h = λ k. ap (λ (b : Bool). keep_if b (k d v)) h
leaf_stops d xs v faults.Memory h = tt
leaf_stops d xs v faults.Size h = h
leaf_stops d xs v faults.Variables h = h

-- ---- single forms

pub single_made : (d : ℕ) (v x : Lin) → Formed (v ∷ []) v (Ok x) → AreBack (λ k. capped_maker.formed (v ∷ []) (k d v)) (Ok (cases.Form d x ∷ []))
single_made d v x h k rs =
    ap (λ (y : Lin). k d y ∷ rs) h.1 ∙ ap (λ (b : Bool). keep_if b (k d v) ∷ rs) (sym h.0)

pub single_stops : (d : ℕ) (v : Lin) (z : FormFault) → Formed (v ∷ []) v (Err z) → AreBack (λ k. capped_maker.formed (v ∷ []) (k d v)) (Err z)
single_stops d v faults.Number h = λ k. ap (λ (b : Bool). keep_if b (k d v)) h
single_stops d v faults.Memory h = tt
single_stops d v faults.Size h = h
single_stops d v faults.Variables h = h

pub flip_step : (all old todo out new : List Case) (c : Case) → old ≡ todo ++ c ∷ [] → new ≡ out ++ c ∷ [] → ((k : ℕ → Lin → Option Normal) (rs : List (Option Normal)) → run out k (run_back old k rs) ≡ run_back all k rs) → (k : ℕ → Lin → Option Normal) (rs : List (Option Normal)) → run new k (run_back todo k rs) ≡ run_back all k rs
flip_step all old todo out new c e f h k rs =
    ap (λ (cs : List Case). run cs k (run_back todo k rs)) f
    ∙ run_append out (c ∷ []) k (run_back todo k rs)
    ∙ ap (run out k) (sym (back_append todo (c ∷ []) k rs) ∙ ap (λ (cs : List Case). run_back cs k rs) (sym e))
    ∙ h k rs

pub flip_back : (all old todo out new : List Case) (c : Case) → old ≡ todo ++ c ∷ [] → new ≡ out ++ c ∷ [] → ((k : ℕ → Lin → Option Normal) (rs : List (Option Normal)) → run old k (run_back out k rs) ≡ run all k rs) → (k : ℕ → Lin → Option Normal) (rs : List (Option Normal)) → run todo k (run_back new k rs) ≡ run all k rs
flip_back all old todo out new c e f h k rs =
    ap (λ (cs : List Case). run todo k (run_back cs k rs)) f
    ∙ ap (run todo k) (back_append out (c ∷ []) k rs)
    ∙ sym (run_append todo (c ∷ []) k (run_back out k rs))
    ∙ ap (λ (cs : List Case). run cs k (run_back out k rs)) (sym e)
    ∙ h k rs

-- ---- each form in its turn, of cases that stand in reversed order

pub back_none : (cs : List Case) (k : ℕ → Lin → Option Normal) (rs : List (Option Normal)) → HasNone rs → HasNone (run_back cs k rs)
back_none [] k rs h = h
back_none (c ∷ cs) k rs h = back_none cs k (put c k rs) (put_none c k rs h)

-- the first i of them
abbrev pub BothStand : ((ℕ → Lin → Option Normal) → ℕ → Lin → Option Normal) → List Case → ℕ → List Case → Type 0
BothStand f all i out = (k : ℕ → Lin → Option Normal) (rs : List (Option Normal)) → run_back out k rs ≡ run_back (take i all) (f k) rs

pub both_more : (f : (ℕ → Lin → Option Normal) → ℕ → Lin → Option Normal) (all out more new : List Case) (i : ℕ) (c : Case) → BothStand f all i out → take (i + 1) all ≡ take i all ++ c ∷ [] → new ≡ out ++ more → IsTurned f c (Ok more) → BothStand f all (i + 1) new
both_more f all out more new i c h e g m k rs =
    ap (λ (cs : List Case). run_back cs k rs) g
    ∙ back_append out more k rs
    ∙ m k (run_back out k rs)
    ∙ ap (put c (f k)) (h k rs)
    ∙ sym (back_append (take i all) (c ∷ []) (f k) rs)
    ∙ ap (λ (cs : List Case). run_back cs (f k) rs) (sym e)

both_stops : (f : (ℕ → Lin → Option Normal) → ℕ → Lin → Option Normal) (all : List Case) (i : ℕ) (c : Case) → take (i + 1) all ≡ take i all ++ c ∷ [] → ((k : ℕ → Lin → Option Normal) (rs : List (Option Normal)) → HasNone (put c (f k) rs)) → (k : ℕ → Lin → Option Normal) → HasNone (run_back all (f k) [])
both_stops f all i c e m k =
    subst HasNone
    (sym (ap (λ (cs : List Case). run_back cs (f k) []) (sym (take-append-drop (i + 1) all) ∙ ap (λ (cs : List Case). cs ++ drop (i + 1) all) e)
    ∙ back_append (take i all ++ c ∷ []) (drop (i + 1) all) (f k) []
    ∙ ap (run_back (drop (i + 1) all) (f k)) (back_append (take i all) (c ∷ []) (f k) [])))
    (back_none (drop (i + 1) all) (f k) (put c (f k) (run_back (take i all) (f k) [])) (m k (run_back (take i all) (f k) [])))

pub both_stop : (f : (ℕ → Lin → Option Normal) → ℕ → Lin → Option Normal) (all : List Case) (i : ℕ) (c : Case) (z : FormFault) → take (i + 1) all ≡ take i all ++ c ∷ [] → IsTurned f c (Err z) → AreBothBack f all (Err z)
both_stop f all i c faults.Number e m = both_stops f all i c e m
both_stop f all i c faults.Memory e m = tt
both_stop f all i c faults.Size e m = m
both_stop f all i c faults.Variables e m = m

pub both_end : (f : (ℕ → Lin → Option Normal) → ℕ → Lin → Option Normal) (all out : List Case) (i : ℕ) → BothStand f all i out → length all ≤ i → AreBothBack f all (Ok out)
both_end f all out i h l k rs = h k rs ∙ ap (λ (cs : List Case). run_back cs (f k) rs) (take_all i all l)

-- ---- one case

pub turned_form : (f : (ℕ → Lin → Option Normal) → ℕ → Lin → Option Normal) (c : Case) (d : ℕ) (x : Lin) (r : Result (List Case) FormFault) → c ≡ cases.Form d x → AreBack (λ k. f k d x) r → IsTurned f c r
turned_form f c d x (Ok out) e h = λ k rs. h k rs ∙ ap (λ (a : Case). put a (f k) rs) (sym e)
turned_form f c d x (Err faults.Number) e h = λ k rs. subst (λ (a : Case). HasNone (put a (f k) rs)) (sym e) (none_head (f k d x) rs (h k))
turned_form f c d x (Err faults.Memory) e h = tt
turned_form f c d x (Err faults.Size) e h = h
turned_form f c d x (Err faults.Variables) e h = h

pub turned_choice : (f : (ℕ → Lin → Option Normal) → ℕ → Lin → Option Normal) (c : Case) (a b : Built) (out : List Case) → c ≡ cases.Choice a b → out ≡ cases.Choice a b ∷ [] → IsTurned f c (Ok out)
turned_choice f c a b out e g = λ k rs. ap (λ (cs : List Case). run_back cs k rs) g ∙ ap (λ (z : Case). put z (f k) rs) (sym e)

pub turned_quotient : (f : (ℕ → Lin → Option Normal) → ℕ → Lin → Option Normal) (c : Case) (l u : Built) (out : List Case) → c ≡ cases.Quotient l u → out ≡ cases.Quotient l u ∷ [] → IsTurned f c (Ok out)
turned_quotient f c l u out e g = λ k rs. ap (λ (cs : List Case). run_back cs k rs) g ∙ ap (λ (z : Case). put z (f k) rs) (sym e)

pub joined_stop : (t : Step) (x : Lin) (c : Case) (d : ℕ) (y : Lin) (z : FormFault) → c ≡ cases.Form d y → Formed (stepped t x y ∷ []) (stepped t x y) (Err z) → IsTurned (joined t x) c (Err z)
joined_stop t x c d y z e h = turned_form (joined t x) c d y (Err z) e (single_stops d (stepped t x y) z h)

pub joined_made : (t : Step) (x : Lin) (c : Case) (d : ℕ) (y w : Lin) (out : List Case) → c ≡ cases.Form d y → Formed (stepped t x y ∷ []) (stepped t x y) (Ok w) → out ≡ cases.Form d w ∷ [] → IsTurned (joined t x) c (Ok out)
joined_made t x c d y w out e h g =
    turned_form (joined t x) c d y (Ok out) e (subst (λ (cs : List Case). AreBack (λ k. joined t x k d y) (Ok cs)) (sym g) (single_made d (stepped t x y) w h))

-- ---- a divisor that was worked out behind the cases

pub divisor_kept : (f : (ℕ → Lin → Option Normal) → ℕ → Lin → Option Normal) (g : (ℕ → Lin → Option Normal) → Option Normal) (xs : List Lin) (r : Result (List Case) FormFault) → within (lins_numbers xs) ≡ true → AreCases (λ k. g (f k)) r → AreCases (λ k. g (λ e x. capped_maker.formed xs (f k e x))) r
divisor_kept f g xs r h a = subst (λ (b : Bool). AreCases (λ k. g (λ e x. keep_if b (f k e x))) r) (sym h) a

pub divisor_stops : (f : (ℕ → Lin → Option Normal) → ℕ → Lin → Option Normal) (g : (ℕ → Lin → Option Normal) → Option Normal) (cs : List Case) (xs : List Lin) (v : Lin) (z : FormFault) → AreCases g (Ok cs) → Formed xs v (Err z) → AreCases (λ k. g (λ e x. capped_maker.formed xs (f k e x))) (Err z)
divisor_stops f g cs xs v faults.Number a h =
    λ k. nothing_made cs g (λ e x. capped_maker.formed xs (f k e x)) a (λ e x. ap (λ (b : Bool). keep_if b (f k e x)) h)
divisor_stops f g cs xs v faults.Memory a h = tt
divisor_stops f g cs xs v faults.Size a h = h
divisor_stops f g cs xs v faults.Variables a h = h
