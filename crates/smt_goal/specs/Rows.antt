-- The meanings of small scripts, as facts about the definition of reading.
use Rattle.std.specs.Prelude.{◌≡◌, pos, [], ◌∷◌, Ok, Err, codes}
use Rattle.ss_names.specs.declared.FaultKind.TheVariants as kind
use Rattle.ss_names.specs.declared.ScriptFault.TheVariants.{Bad}
use Rattle.lin_term.specs.declared.Sort.TheVariants.{Rat, Int}
use Rattle.lin_truth.specs.declared.VarSort.TheVariants.{Bool, Number}
use Rattle.lin_truth.specs.Term.{no_term, term_and, amount, variable, negated, less, equal, implies, plus_of, times_of, and_of, forall_of, exists_of, at_most}
use Rattle.smt_goal.specs.Script.{read}

-- what these scripts ask
pub record AreAsked : Type 0 where
  -- a script of no bytes
  pub empty : read [] ≡ Ok (record { sort = Rat; goals = [] })
  -- no assertion
  pub no_assertion : read (codes "(set-logic LRA)\n(check-sat)") ≡ Ok (record { sort = Rat; goals = record { sort = Rat; line = 2; column = 1; consts = []; body = and_of no_term } ∷ [] })
  -- a number at the cap
  pub at_cap : read (codes "(set-logic LRA)\n(declare-const x Real)\n(assert (< x 4503599627370496))\n(check-sat)")
      ≡ Ok (record {
        sort = Rat;
        goals = record {
          sort = Rat;
          line = 4;
          column = 1;
          consts = Number ∷ [];
          body = and_of (term_and (less (variable 0) (amount (record { num = pos 4503599627370496; den = 1 }))) no_term);
        } ∷ [];
      })
  -- `exit`, and bytes that are not looked at
  pub junk : read (codes "(exit) ) \"") ≡ Ok (record { sort = Rat; goals = [] })
  -- commands of several kinds, `let` in parallel, a definition, an annotation and binders
  pub whole : read (codes "(set-info :smt-lib-version 2.6)\n(set-logic LIA)\n(declare-fun |x y| () Int)\n(declare-const b Bool)\n(define-fun twice ((n Int)) Int (* 2 n))\n(assert (! (let ((x 1) (y (twice |x y|)))\n  (let ((x (+ x 1))) (= y (* 2 x)))) :named a1))\n(assert (=> b (forall ((z Int)) (exists ((w Int)) (and (<= w z) (distinct w z))))))\n(assert b)\n(check-sat)\n(exit)\n")
      ≡ Ok (record {
        sort = Int;
        goals = record {
          sort = Int;
          line = 10;
          column = 1;
          consts = Number ∷ Bool ∷ [];
          body = and_of (term_and (equal (times_of (term_and (amount (record { num = pos 2; den = 1 })) (term_and (variable 0) no_term)))
              (times_of (term_and (amount (record { num = pos 2; den = 1 })) (term_and (plus_of (term_and (amount (record { num = pos 1; den = 1 })) (term_and (amount (record { num = pos 1; den = 1 })) no_term))) no_term))))
              (term_and (implies (variable 1) (forall_of (Number ∷ []) (exists_of (Number ∷ []) (and_of (term_and (at_most (variable 3) (variable 2)) (term_and (negated (equal (variable 3) (variable 2))) no_term))))))
              (term_and (variable 1) no_term)));
        } ∷ [];
      })

-- the first fault of these scripts, and its place
pub record AreRefused : Type 0 where
  pub linear : read (codes "(set-logic LRA)\n(declare-const x Real)\n(declare-const y Real)\n(assert (< (* x y) 1))") ≡ Err (Bad kind.Linear 4 12)
  pub divisor : read (codes "(set-logic LRA)\n(declare-const x Real)\n(declare-const y Real)\n(assert (< (/ x 0) 1))") ≡ Err (Bad kind.Divisor 4 12)
  pub unknown : read (codes "(set-logic LRA)\n(declare-const x Real)\n(declare-const y Real)\n(assert (< x z))") ≡ Err (Bad kind.Symbol 4 14)
  pub sort_of_other_logic : read (codes "(set-logic LIA)\n(declare-const x Real)") ≡ Err (Bad kind.Sort 2 18)
  pub unclosed : read (codes "(set-logic LRA)\n(check-sat") ≡ Err (Bad kind.Unclosed 2 1)
  pub number : read (codes "(set-logic LRA)\n(declare-const x Real)\n(assert (< x 4503599627370497))") ≡ Err (Bad kind.Number 3 14)
  pub push : read (codes "(set-logic LIA)\n(push 1)") ≡ Err (Bad kind.Command 2 1)
  pub early_check : read (codes "(check-sat)") ≡ Err (Bad kind.Order 1 1)
  pub logic : read (codes "(set-logic 5)") ≡ Err (Bad kind.Logic 1 12)
  pub second_logic : read (codes "(set-logic |LRA|)(set-logic LRA)") ≡ Err (Bad kind.Order 1 18)
  pub setting : read (codes "(set-option :print-success true)") ≡ Err (Bad kind.Setting 1 1)
  pub divisor_first : read (codes "(set-logic LIA)\n(declare-const x Int)\n(declare-const y Int)\n(declare-const b Bool)\n(assert (= (div x 0 y) 1))") ≡ Err (Bad kind.Divisor 5 12)
  pub head_first : read (codes "(set-logic LIA)\n(declare-const x Int)\n(declare-const y Int)\n(declare-const b Bool)\n(assert (foo zzz))") ≡ Err (Bad kind.Symbol 5 10)
  pub arguments_first : read (codes "(set-logic LIA)\n(declare-const x Int)\n(declare-const y Int)\n(declare-const b Bool)\n(assert (< zzz))") ≡ Err (Bad kind.Symbol 5 12)
  pub left_steps : read (codes "(set-logic LIA)\n(declare-const x Int)\n(declare-const y Int)\n(declare-const b Bool)\n(assert (= x (+ 4503599627370496 1 (- 1))))") ≡ Err (Bad kind.Number 5 14)
  pub let_binding : read (codes "(set-logic LIA)\n(declare-const x Int)\n(declare-const y Int)\n(declare-const b Bool)\n(assert (let ((z 1) (z 2)) b))") ≡ Err (Bad kind.Symbol 5 22)
  pub let_term : read (codes "(set-logic LIA)\n(declare-const x Int)\n(declare-const y Int)\n(declare-const b Bool)\n(assert (let ((z zzz))))") ≡ Err (Bad kind.Symbol 5 18)
  pub let_parallel : read (codes "(set-logic LIA)\n(declare-const x Int)\n(declare-const y Int)\n(declare-const b Bool)\n(assert (let ((z 1) (w z)) b))") ≡ Err (Bad kind.Symbol 5 24)
  pub no_bindings : read (codes "(set-logic LIA)\n(declare-const x Int)\n(declare-const y Int)\n(declare-const b Bool)\n(assert (let () b))") ≡ Err (Bad kind.Sort 5 14)
  pub binding_form : read (codes "(set-logic LIA)\n(declare-const x Int)\n(declare-const y Int)\n(declare-const b Bool)\n(assert (let ((z)) b))") ≡ Err (Bad kind.Sort 5 15)
  pub binder_body : read (codes "(set-logic LIA)\n(declare-const x Int)\n(declare-const y Int)\n(declare-const b Bool)\n(assert (forall ((z Int)) z))") ≡ Err (Bad kind.Sort 5 27)
  pub index : read (codes "(set-logic LIA)\n(declare-const x Int)\n(declare-const y Int)\n(declare-const b Bool)\n(assert ((_ divisible 4503599627370497) zzz))") ≡ Err (Bad kind.Number 5 23)
  pub index_word : read (codes "(set-logic LIA)\n(declare-const x Int)\n(declare-const y Int)\n(declare-const b Bool)\n(assert ((_ foo 2) x))") ≡ Err (Bad kind.Symbol 5 13)
  pub index_form : read (codes "(set-logic LIA)\n(declare-const x Int)\n(declare-const y Int)\n(declare-const b Bool)\n(assert ((_ divisible) x))") ≡ Err (Bad kind.Sort 5 10)
  pub bare : read (codes "(set-logic LIA)\n(declare-const x Int)\n(declare-const y Int)\n(declare-const b Bool)\n(assert and)") ≡ Err (Bad kind.Arity 5 9)
  pub applied_constant : read (codes "(set-logic LIA)\n(declare-const x Int)\n(declare-const y Int)\n(declare-const b Bool)\n(assert (b zzz))") ≡ Err (Bad kind.Symbol 5 12)
  pub annotation : read (codes "(set-logic LIA)\n(declare-const x Int)\n(declare-const y Int)\n(declare-const b Bool)\n(assert (! b))") ≡ Err (Bad kind.Arity 5 9)
  pub use_wide : read (codes "(set-logic LIA)(define-fun f ((n Int)) Int (* 4503599627370496 n))\n(assert (= (f 2) 0))") ≡ Err (Bad kind.Number 2 12)
  pub use_zero : read (codes "(set-logic LIA)\n(declare-const x Int)\n(declare-const y Int)\n(declare-const b Bool)\n(define-fun g ((n Int)) Int (- n 3))(assert (= (div x (g 3)) 1))") ≡ Err (Bad kind.Divisor 5 48)
  pub no_recursion : read (codes "(set-logic LIA)\n(define-fun f ((n Int)) Int (f n))") ≡ Err (Bad kind.Symbol 2 30)
  pub declared_twice : read (codes "(set-logic LIA)\n(declare-const x Int)\n(declare-const y Int)\n(declare-const b Bool)\n(define-fun x () Foo 1)") ≡ Err (Bad kind.Symbol 5 13)
  pub reserved : read (codes "(set-logic LIA)\n(declare-const x Int)\n(declare-const y Int)\n(declare-const b Bool)\n(declare-const let Int)") ≡ Err (Bad kind.Symbol 5 16)
  pub operator_name : read (codes "(set-logic LIA)\n(declare-const x Int)\n(declare-const y Int)\n(declare-const b Bool)\n(declare-const |and| Int)") ≡ Err (Bad kind.Symbol 5 16)
  pub fun_arguments : read (codes "(set-logic LIA)\n(declare-const x Int)\n(declare-const y Int)\n(declare-const b Bool)\n(declare-fun 5 (Int) Int)") ≡ Err (Bad kind.Arity 5 1)
  pub after_check : read (codes "(set-logic LRA)(check-sat)\n(assert)") ≡ Err (Bad kind.Order 2 1)
  pub wide_decimal : read (codes "(set-logic LRA)(assert (< 0.00000000000000000000000000000000000001 1))") ≡ Err (Bad kind.Number 1 27)
