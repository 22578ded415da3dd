-- The tree of a goal.
use Rattle.std.specs.Prelude.{ℕ, List}
use Rattle.lin_term.specs.Linear.{Value}
use Rattle.lin_truth.specs.declared.term.VarSort.{VarSort}

mutual
  pub data Term : Type 0 where
    yes : Term
    no : Term
    amount : Value → Term
    variable : ℕ → Term
    negative : Term → Term
    absolute : Term → Term
    negated : Term → Term
    divisible : ℕ → Term → Term
    minus : Term → Term → Term
    quotient_of : Term → Term → Term
    div_of : Term → Term → Term
    mod_of : Term → Term → Term
    less : Term → Term → Term
    at_most : Term → Term → Term
    greater : Term → Term → Term
    at_least : Term → Term → Term
    equal : Term → Term → Term
    xor_of : Term → Term → Term
    implies : Term → Term → Term
    ite : Term → Term → Term → Term
    plus_of : Terms → Term
    times_of : Terms → Term
    and_of : Terms → Term
    or_of : Terms → Term
    forall_of : List VarSort → Term → Term
    exists_of : List VarSort → Term → Term

  pub data Terms : Type 0 where
    no_term : Terms
    term_and : Term → Terms → Terms
