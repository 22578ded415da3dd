-- Forms that are put together.
use Rattle.std.proofs.Common.{◌≡◌, ℕ, zero, suc, ◌+◌, ◌<◌, ◌≤◌, min, List, [], ◌∷◌, ◌++◌, length, map, drop, set, get_or, Result, Ok, Err, refl, sym, ap, ◌∙◌, arith}
use Rattle.std.specs.Prelude.{IfOk}
use Rattle.term_table.specs.declared.amount.Amount.{Amount}
use Rattle.term_table.specs.declared.amount.Weight.{Weight}
use Rattle.term_table.specs.Scale.{Scale, by_nodes, by_bindings, by_freedom, by_depth, limit, Near, amount, weight, ring, bare}
use Rattle.term_table.specs.Form.{Linear, dot, IsValue}
use Rattle.term_table.specs.declared.entry.Entry.{Entry}
use Rattle.term_table.specs.Entries.{bare_form, form_at}
use Rattle.term_table.proofs.Rings.{laws, near_plus, near_times}
use Rattle.term_table.proofs.Amounts.{together, as_often, either_way, through, amount-together, amount-as_often, weight-either_way, weight-through, amount-none, plus_zero, dot_next}

-- ---- sums in another order

swap_last : (s : Scale) (a b c : ℕ) → (ring s).plus ((ring s).plus a b) c ≡ (ring s).plus ((ring s).plus a c) b
swap_last s a b c = (laws s).plus_assoc a b c ∙ ap ((ring s).plus a) ((laws s).plus_comm b c) ∙ sym ((laws s).plus_assoc a c b)

swap_inner : (s : Scale) (a b c d : ℕ) → (ring s).plus ((ring s).plus a b) ((ring s).plus c d) ≡ (ring s).plus ((ring s).plus a c) ((ring s).plus b d)
swap_inner s a b c d =
    (laws s).plus_assoc a b ((ring s).plus c d)
    ∙ ap ((ring s).plus a) (sym ((laws s).plus_assoc b c d) ∙ ap (λ x. (ring s).plus x d) ((laws s).plus_comm b c) ∙ (laws s).plus_assoc c b d)
    ∙ sym ((laws s).plus_assoc a c ((ring s).plus b d))

-- ---- a size of its own

own_more : (s : Scale) (own size : Amount) (w : Weight) → Near s (amount s (together own (as_often size w))) ((ring s).plus (amount s own) ((ring s).times (weight s w) (amount s size)))
own_more s own size w =
    amount-together s own (as_often size w) ∙ near_plus s (amount s own) (amount s (as_often size w)) (amount s own) ((ring s).times (weight s w) (amount s size)) refl (amount-as_often s size w)

pub adds-amount : (s : Scale) (own new size : Amount) (w : Weight) (us : List Weight) (gs : List ℕ) → new ≡ together own (as_often size w)
    → Near s ((ring s).plus (amount s new) (dot s us gs)) ((ring s).plus ((ring s).plus (amount s own) (dot s us gs)) ((ring s).times (weight s w) (amount s size)))
adds-amount s own new size w us gs e =
    near_plus s (amount s new) (dot s us gs) ((ring s).plus (amount s own) ((ring s).times (weight s w) (amount s size))) (dot s us gs) (ap (λ a. min (limit s) (amount s a)) e ∙ own_more s own size w) refl
    ∙ ap (min (limit s)) (swap_last s (amount s own) ((ring s).times (weight s w) (amount s size)) (dot s us gs))

pub adds-form : (s : Scale) (own new size : Amount) (w : Weight) (us vs ps : List Weight) (gs : List ℕ) → new ≡ together own (as_often size w)
    → Near s (dot s vs gs) ((ring s).plus (dot s us gs) ((ring s).times (weight s w) (dot s ps gs)))
    → Near s ((ring s).plus (amount s new) (dot s vs gs)) ((ring s).plus ((ring s).plus (amount s own) (dot s us gs)) ((ring s).times (weight s w) ((ring s).plus (amount s size) (dot s ps gs))))
adds-form s own new size w us vs ps gs e uses =
    let a = amount s own in let p = (ring s).times (weight s w) (amount s size) in let d = dot s us gs in let q = (ring s).times (weight s w) (dot s ps gs) in
    near_plus s (amount s new) (dot s vs gs) ((ring s).plus a p) ((ring s).plus d q) (ap (λ x. min (limit s) (amount s x)) e ∙ own_more s own size w) uses
    ∙ ap (min (limit s)) (swap_inner s a p d q ∙ ap ((ring s).plus ((ring s).plus a d)) (sym ((laws s).times_plus (weight s w) (amount s size) (dot s ps gs))))

-- ---- parameters

abbrev pub no_weight : Weight
no_weight = record { times = 0; way = 0 }

abbrev pub zeros : ℕ → List Weight
zeros zero = []
zeros (suc k) = no_weight ∷ zeros k

zeros-suc : (k : ℕ) → zeros k ++ no_weight ∷ [] ≡ zeros (suc k)
zeros-suc zero = refl
zeros-suc (suc k) = ap (λ (ws : List Weight). no_weight ∷ ws) (zeros-suc k)

pub zeros-push : (k : ℕ) → zeros k ++ no_weight ∷ [] ≡ zeros (k + 1)
zeros-push k = let e : suc k ≡ k + 1 = omega arith in zeros-suc k ∙ ap zeros e

weight-none : (s : Scale) → weight s no_weight ≡ 0
weight-none by_nodes = refl
weight-none by_bindings = refl
weight-none by_freedom = refl
weight-none by_depth = refl

weight-one : (s : Scale) → weight s (record { times = 1; way = 1 }) ≡ 1
weight-one by_nodes = refl
weight-one by_bindings = refl
weight-one by_freedom = refl
weight-one by_depth = refl

none_times : (s : Scale) (n rest : ℕ) → (ring s).plus ((ring s).times (weight s no_weight) n) rest ≡ rest
none_times s n rest = ap (λ w. (ring s).plus ((ring s).times w n) rest) (weight-none s) ∙ ap (λ x. (ring s).plus x rest) ((laws s).zero_times n) ∙ (laws s).zero_plus rest

one_times : (s : Scale) (n : ℕ) → (ring s).plus ((ring s).times (weight s (record { times = 1; way = 1 })) n) 0 ≡ n
one_times s n = plus_zero s ((ring s).times (weight s (record { times = 1; way = 1 })) n) ∙ ap (λ w. (ring s).times w n) (weight-one s) ∙ (laws s).one_times n

dot-parameter : (s : Scale) (p : ℕ) (gs : List ℕ) → dot s (zeros p ++ record { times = 1; way = 1 } ∷ []) gs ≡ get_or gs p (bare s)
dot-parameter s zero [] = one_times s (bare s)
dot-parameter s zero (g ∷ gs) = one_times s g
dot-parameter s (suc p) [] = none_times s (bare s) (dot s (zeros p ++ record { times = 1; way = 1 } ∷ []) []) ∙ dot-parameter s p []
dot-parameter s (suc p) (g ∷ gs) = none_times s g (dot s (zeros p ++ record { times = 1; way = 1 } ∷ []) gs) ∙ dot-parameter s p gs

pub value-parameter : (s : Scale) (p : ℕ) (gs : List ℕ) (us : List Weight) → us ≡ zeros p ++ record { times = 1; way = 1 } ∷ []
    → Near s ((ring s).plus (amount s (record { nodes = 0; bindings = 0; free = 0; depth = 0 })) (dot s us gs)) (get_or gs p (bare s))
value-parameter s p gs us e =
    ap (min (limit s)) (ap (λ n. (ring s).plus n (dot s us gs)) (amount-none s) ∙ (laws s).zero_plus (dot s us gs) ∙ ap (λ ws. dot s ws gs) e ∙ dot-parameter s p gs)

-- ---- uses

dot-push : (s : Scale) (us : List Weight) (v : Weight) (gs : List ℕ) → dot s (us ++ v ∷ []) gs ≡ (ring s).plus (dot s us gs) ((ring s).times (weight s v) (get_or gs (length us) (bare s)))
dot-push s [] v [] = (laws s).plus_comm ((ring s).times (weight s v) (bare s)) 0
dot-push s [] v (g ∷ gs) = (laws s).plus_comm ((ring s).times (weight s v) g) 0
dot-push s (u ∷ us) v [] =
    ap ((ring s).plus ((ring s).times (weight s u) (bare s))) (dot-push s us v []) ∙ sym ((laws s).plus_assoc ((ring s).times (weight s u) (bare s)) (dot s us []) ((ring s).times (weight s v) (bare s)))
dot-push s (u ∷ us) v (g ∷ gs) =
    ap ((ring s).plus ((ring s).times (weight s u) g)) (dot-push s us v gs) ∙ sym ((laws s).plus_assoc ((ring s).times (weight s u) g) (dot s us gs) ((ring s).times (weight s v) (get_or gs (length us) (bare s))))

more_here : (s : Scale) (u v : Weight) (m g rest : ℕ) → Near s (weight s v) ((ring s).plus (weight s u) m)
    → Near s ((ring s).plus ((ring s).times (weight s v) g) rest) ((ring s).plus ((ring s).plus ((ring s).times (weight s u) g) rest) ((ring s).times m g))
more_here s u v m g rest e =
    near_plus s ((ring s).times (weight s v) g) rest ((ring s).times ((ring s).plus (weight s u) m) g) rest (near_times s (weight s v) g ((ring s).plus (weight s u) m) g e refl) refl
    ∙ ap (min (limit s)) (ap (λ x. (ring s).plus x rest) ((laws s).plus_times (weight s u) m g) ∙ swap_last s ((ring s).times (weight s u) g) ((ring s).times m g) rest)

more_there : (s : Scale) (a new old m g : ℕ) → Near s new ((ring s).plus old ((ring s).times m g)) → Near s ((ring s).plus a new) ((ring s).plus ((ring s).plus a old) ((ring s).times m g))
more_there s a new old m g e =
    near_plus s a new a ((ring s).plus old ((ring s).times m g)) refl e ∙ ap (min (limit s)) (sym ((laws s).plus_assoc a old ((ring s).times m g)))

dot-set : (s : Scale) (us : List Weight) (i : ℕ) (v d : Weight) (m : ℕ) (gs : List ℕ) → i < length us → Near s (weight s v) ((ring s).plus (weight s (get_or us i d)) m)
    → Near s (dot s (set us i v) gs) ((ring s).plus (dot s us gs) ((ring s).times m (get_or gs i (bare s))))
dot-set s [] i v d m gs lt e = absurd (omega arith)
dot-set s (u ∷ us) zero v d m [] lt e = more_here s u v m (bare s) (dot s us []) e
dot-set s (u ∷ us) zero v d m (g ∷ gs) lt e = more_here s u v m g (dot s us gs) e
dot-set s (u ∷ us) (suc i) v d m [] lt e = more_there s ((ring s).times (weight s u) (bare s)) (dot s (set us i v) []) (dot s us []) m (bare s) (dot-set s us i v d m [] (omega arith) e)
dot-set s (u ∷ us) (suc i) v d m (g ∷ gs) lt e = more_there s ((ring s).times (weight s u) g) (dot s (set us i v) gs) (dot s us gs) m (get_or gs i (bare s)) (dot-set s us i v d m gs (omega arith) e)

-- one more use of the part has been added
step_uses : (s : Scale) (w : ℕ) (now new inner m g rest all : ℕ) → Near s m ((ring s).times w inner) → Near s new ((ring s).plus now ((ring s).times m g))
    → Near s ((ring s).plus now ((ring s).times w ((ring s).plus ((ring s).times inner g) rest))) all → Near s ((ring s).plus new ((ring s).times w rest)) all
step_uses s w now new inner m g rest all product step before =
    near_plus s new ((ring s).times w rest) ((ring s).plus now ((ring s).times ((ring s).times w inner) g)) ((ring s).times w rest)
    (step ∙ near_plus s now ((ring s).times m g) now ((ring s).times ((ring s).times w inner) g) refl (near_times s m g ((ring s).times w inner) g product refl)) refl
    ∙ ap (min (limit s)) ((laws s).plus_assoc now ((ring s).times ((ring s).times w inner) g) ((ring s).times w rest)
    ∙ ap ((ring s).plus now) (ap (λ x. (ring s).plus x ((ring s).times w rest)) ((laws s).times_assoc w inner g) ∙ sym ((laws s).times_plus w ((ring s).times inner g) rest)))
    ∙ before

abbrev pub Owes : Scale → List ℕ → Weight → List Weight → List Weight → List Weight → ℕ → Type 0
Owes s gs w old now part i =
    Near s ((ring s).plus (dot s now gs) ((ring s).times (weight s w) (dot s (drop i part) (drop i gs)))) ((ring s).plus (dot s old gs) ((ring s).times (weight s w) (dot s part gs)))

pub owes-set : (s : Scale) (gs : List ℕ) (w : Weight) (old now part : List Weight) (i : ℕ) (more sum d e : Weight) → i < length part → i < length now
    → more ≡ through w (get_or part i d) → sum ≡ either_way (get_or now i e) more → Owes s gs w old now part i → Owes s gs w old (set now i sum) part (i + 1)
owes-set s gs w old now part i more sum d e lt in_now product is before =
    step_uses s (weight s w) (dot s now gs) (dot s (set now i sum) gs) (weight s (get_or part i d)) (weight s more) (get_or gs i (bare s)) (dot s (drop (i + 1) part) (drop (i + 1) gs)) ((ring s).plus (dot s old gs) ((ring s).times (weight s w) (dot s part gs)))
    (ap (λ x. min (limit s) (weight s x)) product ∙ weight-through s w (get_or part i d))
    (dot-set s now i sum e (weight s more) gs in_now (ap (λ x. min (limit s) (weight s x)) is ∙ weight-either_way s (get_or now i e) more))
    (ap (λ n. min (limit s) ((ring s).plus (dot s now gs) ((ring s).times (weight s w) n))) (sym (dot_next s part gs i d lt)) ∙ before)

pub owes-push : (s : Scale) (gs : List ℕ) (w : Weight) (old now part : List Weight) (i : ℕ) (more d : Weight) → i < length part → i ≡ length now
    → more ≡ through w (get_or part i d) → Owes s gs w old now part i → Owes s gs w old (now ++ more ∷ []) part (i + 1)
owes-push s gs w old now part i more d lt at_end product before =
    step_uses s (weight s w) (dot s now gs) (dot s (now ++ more ∷ []) gs) (weight s (get_or part i d)) (weight s more) (get_or gs i (bare s)) (dot s (drop (i + 1) part) (drop (i + 1) gs)) ((ring s).plus (dot s old gs) ((ring s).times (weight s w) (dot s part gs)))
    (ap (λ x. min (limit s) (weight s x)) product ∙ weight-through s w (get_or part i d))
    (ap (min (limit s)) (dot-push s now more gs ∙ ap (λ j. (ring s).plus (dot s now gs) ((ring s).times (weight s more) (get_or gs j (bare s)))) (sym at_end)))
    (ap (λ n. min (limit s) ((ring s).plus (dot s now gs) ((ring s).times (weight s w) n))) (sym (dot_next s part gs i d lt)) ∙ before)

-- nothing is left to add
pub nothing_owed : (s : Scale) (w now rest all : ℕ) → rest ≡ 0 → Near s ((ring s).plus now ((ring s).times w rest)) all → Near s now all
nothing_owed s w now rest all e before =
    ap (min (limit s)) (sym (plus_zero s now) ∙ ap ((ring s).plus now) (sym ((laws s).times_zero w)) ∙ ap (λ n. (ring s).plus now ((ring s).times w n)) (sym e)) ∙ before

-- ---- what is bare

pub bare_next : (s : Scale) (us : List Weight) (k : ℕ) (d : Weight) → k < length us → dot s (drop k us) [] ≡ (ring s).plus ((ring s).times (weight s (get_or us k d)) (bare s)) (dot s (drop (k + 1) us) [])
bare_next s [] k d lt = absurd (omega arith)
bare_next s (u ∷ us) zero d lt = refl
bare_next s (u ∷ us) (suc k) d lt = let e : suc (k + 1) ≡ suc k + 1 = omega arith in bare_next s us k d (omega arith) ∙ ap (λ j. (ring s).plus ((ring s).times (weight s (get_or us k d)) (bare s)) (dot s (drop j (u ∷ us)) [])) e

-- ---- one more part

pub step_add : (s : Scale) (now new t rest all : ℕ) → Near s new ((ring s).plus now t) → Near s ((ring s).plus now ((ring s).plus t rest)) all → Near s ((ring s).plus new rest) all
step_add s now new t rest all step before =
    near_plus s new rest ((ring s).plus now t) rest step refl ∙ ap (min (limit s)) ((laws s).plus_assoc now t rest) ∙ before

pub step_part : (s : Scale) (w now new x rest sum all : ℕ) → sum ≡ (ring s).plus x rest → Near s new ((ring s).plus now ((ring s).times w x))
    → Near s ((ring s).plus now ((ring s).times w sum)) all → Near s ((ring s).plus new ((ring s).times w rest)) all
step_part s w now new x rest sum all e step before =
    step_add s now new ((ring s).times w x) ((ring s).times w rest) all step
    (ap (min (limit s)) (ap ((ring s).plus now) (sym ((laws s).times_plus w x rest) ∙ ap ((ring s).times w) (sym e))) ∙ before)

pub form-at : (es : List Entry) (k : ℕ) (e : Entry) → k < length es → e ≡ get_or es k e → form_at es k ≡ e.form
form-at es k e lt is = map_at es k lt ∙ ap (λ (x : Entry). x.form) (sym is)
  where
    map_at : (xs : List Entry) (j : ℕ) → j < length xs → get_or (map (λ (x : Entry). x.form) xs) j bare_form ≡ (get_or xs j e).form
    map_at [] j lt = absurd (omega arith)
    map_at (x ∷ xs) zero lt = refl
    map_at (x ∷ xs) (suc j) lt = map_at xs j (omega arith)

pub map-at : (f : ℕ → ℕ) (is : List ℕ) (i d : ℕ) → i < length is → get_or (map f is) i d ≡ f (get_or is i 0)
map-at f [] i d lt = absurd (omega arith)
map-at f (j ∷ is) zero d lt = refl
map-at f (j ∷ is) (suc i) d lt = map-at f is i d (omega arith)

pub map-end : (f : ℕ → ℕ) (is : List ℕ) (i d : ℕ) → length is ≤ i → get_or (map f is) i d ≡ d
map-end f [] i d le = refl
map-end f (j ∷ is) zero d le = absurd (omega arith)
map-end f (j ∷ is) (suc i) d le = map-end f is i d (omega arith)

-- a form that has one value has another one that is near
pub if_ok-value : {E : Type 0} → (r : Result Linear E) (f g : Scale → List ℕ → ℕ) → ((s : Scale) (gs : List ℕ) → Near s (f s gs) (g s gs)) → IfOk r (IsValue f) → IfOk r (IsValue g)
if_ok-value (Ok form) f g near is = λ s gs. is s gs ∙ near s gs
if_ok-value (Err e) f g near is = is
