-- Worked goals.
use Rattle.std.specs.Prelude.{ℕ, ◌≡◌, ℤ, pos, negsuc, List, [], ◌∷◌}
use Rattle.std.proofs.Common.{refl}
use Rattle.lin_term.specs.declared.Sort.{Sort}
use Rattle.lin_term.specs.declared.Sort.TheVariants.{Rat, Int}
use Rattle.lin_term.specs.declared.Lit.TheVariants.{AtLeast, Above, Divides}
use Rattle.lin_term.specs.Literal.{gcd}
use Rattle.dom_core.specs.Game.{Matrix, lit, all, some, none, more}
use Rattle.dom_core.specs.declared.Quant.{Quant}
use Rattle.dom_core.specs.declared.Quant.TheVariants.{Exists, Forall}
use Rattle.lin_truth.specs.declared.term.VarSort.TheVariants as sorts
use Rattle.lin_truth.specs.Term.{Term, Terms, no_term, term_and, no, amount, variable, negative, minus, less, at_most, greater, equal, plus_of, times_of, div_of, and_of, or_of, forall_of, exists_of, divisible}
use Rattle.prenex_form.specs.Whole.{FormResult, a_problem, number_past_cap, form_of_goal}

abbrev whole : ℕ → Term
whole n = amount (record { num = pos n; den = 1 })

abbrev one_goal : Term → FormResult
one_goal t = form_of_goal Int (sorts.Number ∷ []) (and_of (term_and t no_term))

-- (< x (- 4503599627370496)): the literal is past the cap
past : one_goal (less (variable 0) (negative (whole 4503599627370496))) ≡ number_past_cap
unfolding gcd
past = refl

-- (< (* 2 x) (- 4503599627370496)): the -1 comes before the division
fits : one_goal (less (times_of (term_and (whole 2) (term_and (variable 0) no_term))) (negative (whole 4503599627370496)))
    ≡ a_problem (record { prefix = Exists ∷ []; matrix = lit (AtLeast (record { terms = (0, negsuc 0) ∷ []; constant = negsuc 2251799813685248 })) })
unfolding gcd
fits = refl

-- ((_ divisible 6) (* 9 x)): 2 | x
divides : one_goal (divisible 6 (times_of (term_and (whole 9) (term_and (variable 0) no_term))))
    ≡ a_problem (record { prefix = Exists ∷ []; matrix = lit (Divides 2 (record { terms = (0, pos 1) ∷ []; constant = pos 0 })) })
unfolding gcd
divides = refl

-- (< x (+ 4503599627370496 1 (- 1))): a step of a constant term is past the cap
step_past : one_goal (less (variable 0) (plus_of (term_and (whole 4503599627370496) (term_and (whole 1) (term_and (negative (whole 1)) no_term))))) ≡ number_past_cap
unfolding gcd
step_past = refl

-- (< (div x 2) 1): q is the inner variable
div_fits : one_goal (less (div_of (variable 0) (whole 2)) (whole 1))
    ≡ a_problem (record {
      prefix = Exists ∷ Exists ∷ [];
      matrix = all (more (lit (AtLeast (record { terms = (0, pos 1) ∷ (1, negsuc 1) ∷ []; constant = pos 0 })))
          (more (lit (AtLeast (record { terms = (0, negsuc 0) ∷ (1, pos 2) ∷ []; constant = pos 1 })))
          (more (lit (AtLeast (record { terms = (1, negsuc 0) ∷ []; constant = pos 0 }))) none)));
    })
unfolding gcd
div_fits = refl

-- (< (div (- x 4503599627370496) 2) 1): n*q + |n| - 1 minus t is past the cap
div_past : one_goal (less (div_of (minus (variable 0) (whole 4503599627370496)) (whole 2)) (whole 1)) ≡ number_past_cap
unfolding gcd
div_past = refl

-- ---- whole goals, over no constants

abbrev of_sort : Sort → Terms → FormResult
of_sort s ts = form_of_goal s [] (and_of ts)

abbrev just : Term → Terms
just t = term_and t no_term

abbrev two : Term → Term → Terms
two t u = term_and t (term_and u no_term)

abbrev every : Term → Term
every t = forall_of (sorts.Number ∷ []) t

abbrev some_value : Term → Term
some_value t = exists_of (sorts.Number ∷ []) t

abbrev result : List Quant → Matrix → FormResult
result qs m = a_problem (record { prefix = qs; matrix = m })

abbrev at_least : ℤ → List (ℕ × ℤ) → Matrix
at_least c ts = lit (AtLeast (record { terms = ts; constant = c }))

abbrev above : ℤ → List (ℕ × ℤ) → Matrix
above c ts = lit (Above (record { terms = ts; constant = c }))

abbrev both : Matrix → Matrix → Matrix
both a b = all (more a (more b none))

abbrev either : Matrix → Matrix → Matrix
either a b = some (more a (more b none))

-- (forall x (exists y (< x y)))
strictly_more : of_sort Rat (just (every (some_value (less (variable 0) (variable 1))))) ≡ result (Forall ∷ Exists ∷ []) (above (pos 0) ((0, negsuc 0) ∷ (1, pos 1) ∷ []))
unfolding gcd
strictly_more = refl

-- (exists x (forall y (< x y)))
strictly_less : of_sort Rat (just (some_value (every (less (variable 0) (variable 1))))) ≡ result (Exists ∷ Forall ∷ []) (above (pos 0) ((0, negsuc 0) ∷ (1, pos 1) ∷ []))
unfolding gcd
strictly_less = refl

-- (forall x (exists y (or (= (* 2 y) x) (= (* 2 y) (+ x 1)))))
half_of_two : of_sort Int (just (every (some_value (or_of (two (equal (times_of (two (whole 2) (variable 1))) (variable 0)) (equal (times_of (two (whole 2) (variable 1))) (plus_of (two (variable 0) (whole 1)))))))))
    ≡ result (Forall ∷ Exists ∷ [])
    (either
    (both (at_least (pos 0) ((0, negsuc 0) ∷ (1, pos 2) ∷ [])) (at_least (pos 0) ((0, pos 1) ∷ (1, negsuc 1) ∷ [])))
    (both (at_least (negsuc 0) ((0, negsuc 0) ∷ (1, pos 2) ∷ [])) (at_least (pos 1) ((0, pos 1) ∷ (1, negsuc 1) ∷ []))))
unfolding gcd
half_of_two = refl

-- (exists x (= (* 2 x) 1)), in both sorts
no_half : of_sort Int (just (some_value (equal (times_of (two (whole 2) (variable 0))) (whole 1)))) ≡ result (Exists ∷ []) (both (at_least (negsuc 0) ((0, pos 1) ∷ [])) (at_least (pos 0) ((0, negsuc 0) ∷ [])))
unfolding gcd
no_half = refl

half : of_sort Rat (just (some_value (equal (times_of (two (whole 2) (variable 0))) (whole 1)))) ≡ result (Exists ∷ []) (both (at_least (negsuc 0) ((0, pos 2) ∷ [])) (at_least (pos 1) ((0, negsuc 1) ∷ [])))
unfolding gcd
half = refl

abbrev thrice : Term
thrice = minus (times_of (two (whole 3) (variable 0))) (times_of (two (whole 3) (variable 1)))

-- (exists x (exists y (and (<= 1 (- (* 3 x) (* 3 y))) (<= (- (* 3 x) (* 3 y)) 2))))
thirds : of_sort Int (just (some_value (some_value (and_of (two (at_most (whole 1) thrice) (at_most thrice (whole 2)))))))
    ≡ result (Exists ∷ Exists ∷ []) (both (at_least (negsuc 0) ((0, pos 1) ∷ (1, negsuc 0) ∷ [])) (at_least (pos 0) ((0, negsuc 0) ∷ (1, pos 1) ∷ [])))
unfolding gcd
thirds = refl

-- (forall x (exists y (forall z (or (<= z y) (> z x)))))
above_below : of_sort Int (just (every (some_value (every (or_of (two (at_most (variable 2) (variable 1)) (greater (variable 2) (variable 0))))))))
    ≡ result (Forall ∷ Exists ∷ Forall ∷ []) (either (at_least (pos 0) ((1, pos 1) ∷ (2, negsuc 0) ∷ [])) (at_least (negsuc 0) ((0, negsuc 0) ∷ (2, pos 1) ∷ [])))
unfolding gcd
above_below = refl

-- no assertion, and false
everything : of_sort Rat no_term ≡ result [] (all none)
everything = refl

nothing : of_sort Rat (just no) ≡ result [] (some none)
nothing = refl

-- (forall x (and (forall y (< x y)) (exists z (< z x)))): the conjunction starts again with Exists
starts_again : of_sort Int (just (every (and_of (two (every (less (variable 0) (variable 1))) (some_value (less (variable 1) (variable 0)))))))
    ≡ result (Forall ∷ Exists ∷ Forall ∷ []) (both (at_least (negsuc 0) ((0, negsuc 0) ∷ (2, pos 1) ∷ [])) (at_least (negsuc 0) ((0, pos 1) ∷ (1, negsuc 0) ∷ [])))
unfolding gcd
starts_again = refl

-- (or (forall x (and (forall y (< x y)) (< x 3))) (forall u (exists v (forall w (< u (+ v w)))))): x, y and u are one block
one_block : of_sort Int (just (or_of (two (every (and_of (two (every (less (variable 0) (variable 1))) (less (variable 0) (whole 3))))) (every (some_value (every (less (variable 0) (plus_of (two (variable 1) (variable 2))))))))))
    ≡ result (Forall ∷ Forall ∷ Forall ∷ Exists ∷ Forall ∷ [])
    (either
    (both (at_least (negsuc 0) ((0, negsuc 0) ∷ (1, pos 1) ∷ [])) (at_least (pos 2) ((0, negsuc 0) ∷ [])))
    (at_least (negsuc 0) ((2, negsuc 0) ∷ (3, pos 1) ∷ (4, pos 1) ∷ [])))
unfolding gcd
one_block = refl
