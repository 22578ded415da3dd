-- The nodes of a normal form, and its variables, counted without the form.
use Rattle.std.specs.Prelude.{ℕ, ◌+◌, ◌*◌, List, [], ◌∷◌, length, Bool, true, false, ◌&&◌}
use Rattle.norm_form.specs.declared.count.Rate.{Rate}
use Rattle.norm_form.specs.Normal.{Normal, one_lit, each_of, some_of, for_all, there_is, Normals, no_part, part}
use Rattle.lin_truth.specs.declared.term.VarSort.{VarSort}
use Rattle.lin_truth.specs.Term.{Term, Terms, yes, no, amount, variable, negative, absolute, negated, divisible, minus, quotient_of, div_of, mod_of, less, at_most, greater, at_least, equal, xor_of, implies, ite, plus_of, times_of, and_of, or_of, forall_of, exists_of, no_term, term_and}
use Rattle.lin_truth.specs.Truth.{is_formula}
use Rattle.lin_truth.specs.Constant.{is_constant, are_constant}
use Rattle.lin_truth.specs.Formed.{append_all}

-- where counts stop
abbrev pub limit : ℕ
limit = 1048577

abbrev mutual
  pub weigh : Normal → Rate → ℕ
  weigh (one_lit l) r = r.node
  weigh (each_of ns) r = r.node + weigh_all ns r
  weigh (some_of ns) r = r.node + weigh_all ns r
  weigh (for_all n) r = r.binder + weigh n r
  weigh (there_is n) r = r.binder + weigh n r

  pub weigh_all : Normals → Rate → ℕ
  weigh_all no_part r = 0
  weigh_all (part n ns) r = weigh n r + weigh_all ns r

-- a number hands on: what is counted around, and how many copies of what follows
pub record Load : Type 0 where
  pub own : ℕ
  pub leaves : ℕ

abbrev pub plain : Load
plain = record { own = 0; leaves = 1 }

abbrev pub no_number : Rate → Load
no_number r = record { own = r.node; leaves = 0 }

-- one number after the other
abbrev pub after : Load → Load → Load
after a b = record { own = a.own + a.leaves * b.own; leaves = a.leaves * b.leaves }

abbrev pub load_if : Bool → Load → Load
load_if true l = plain
load_if false l = l

abbrev pub total : Load → ℕ → ℕ
total l n = l.own + l.leaves * n

abbrev pub choose_load : Bool → ℕ → ℕ → ℕ
choose_load true a b = a
choose_load false a b = b

abbrev pub sum_load : List ℕ → ℕ
sum_load [] = 0
sum_load (n ∷ ns) = n + sum_load ns

-- the one child in place of the whole
abbrev pub joined_load : List ℕ → Rate → ℕ
joined_load [] r = r.node
joined_load (n ∷ []) r = n
joined_load (n ∷ m ∷ ns) r = r.node + (n + (m + sum_load ns))

abbrev mutual
  pub load : Term → Rate → List VarSort → ℕ
  load yes r vs = r.node
  load no r vs = r.node
  load (amount v) r vs = r.node
  load (variable i) r vs = r.node
  load (negative t) r vs = r.node
  load (absolute t) r vs = r.node
  load (negated t) r vs = load t r vs
  load (divisible n t) r vs = total (number_load t r vs) r.node
  load (minus a b) r vs = r.node
  load (quotient_of a b) r vs = r.node
  load (div_of a b) r vs = r.node
  load (mod_of a b) r vs = r.node
  load (less a b) r vs = total (after (number_load a r vs) (number_load b r vs)) r.node
  load (at_most a b) r vs = total (after (number_load a r vs) (number_load b r vs)) r.node
  load (greater a b) r vs = total (after (number_load a r vs) (number_load b r vs)) r.node
  load (at_least a b) r vs = total (after (number_load a r vs) (number_load b r vs)) r.node
  load (equal a b) r vs =
      choose_load (is_formula a vs) (3 * r.node + 2 * (load a r vs + load b r vs)) (total (after (number_load a r vs) (number_load b r vs)) (3 * r.node))
  load (xor_of a b) r vs = 3 * r.node + 2 * (load a r vs + load b r vs)
  load (implies a b) r vs = r.node + (load a r vs + load b r vs)
  load (ite c a b) r vs = 3 * r.node + 2 * load c r vs + (load a r vs + load b r vs)
  load (plus_of ts) r vs = r.node
  load (times_of ts) r vs = r.node
  load (and_of ts) r vs = joined_load (loads ts r vs) r
  load (or_of ts) r vs = joined_load (loads ts r vs) r
  load (forall_of us t) r vs = r.binder * length us + load t r (append_all vs us)
  load (exists_of us t) r vs = r.binder * length us + load t r (append_all vs us)

  pub loads : Terms → Rate → List VarSort → List ℕ
  loads no_term r vs = []
  loads (term_and t ts) r vs = load t r vs ∷ loads ts r vs

  pub number_load : Term → Rate → List VarSort → Load
  number_load yes r vs = no_number r
  number_load no r vs = no_number r
  number_load (amount v) r vs = plain
  number_load (variable i) r vs = plain
  number_load (negative t) r vs = load_if (is_constant t) (number_load t r vs)
  number_load (absolute t) r vs = load_if (is_constant t) (after (number_load t r vs) (record { own = 5 * r.node; leaves = 2 }))
  number_load (negated t) r vs = no_number r
  number_load (divisible n t) r vs = no_number r
  number_load (minus a b) r vs = load_if (is_constant a && is_constant b) (after (number_load a r vs) (number_load b r vs))
  number_load (quotient_of a b) r vs = load_if (is_constant a && is_constant b) (number_load a r vs)
  number_load (div_of a b) r vs = load_if (is_constant a && is_constant b) (after (number_load a r vs) (record { own = 3 * r.node + r.binder; leaves = 1 }))
  number_load (mod_of a b) r vs = load_if (is_constant a && is_constant b) (after (number_load a r vs) (record { own = 3 * r.node + r.binder; leaves = 1 }))
  number_load (less a b) r vs = no_number r
  number_load (at_most a b) r vs = no_number r
  number_load (greater a b) r vs = no_number r
  number_load (at_least a b) r vs = no_number r
  number_load (equal a b) r vs = no_number r
  number_load (xor_of a b) r vs = no_number r
  number_load (implies a b) r vs = no_number r
  number_load (ite c a b) r vs =
      after (number_load a r vs) (after (number_load b r vs) (record { own = 3 * r.node + 2 * load c r vs; leaves = 2 }))
  number_load (plus_of ts) r vs = load_if (are_constant ts) (list_load ts r vs)
  number_load (times_of ts) r vs = load_if (are_constant ts) (list_load ts r vs)
  number_load (and_of ts) r vs = no_number r
  number_load (or_of ts) r vs = no_number r
  number_load (forall_of us t) r vs = no_number r
  number_load (exists_of us t) r vs = no_number r

  pub list_load : Terms → Rate → List VarSort → Load
  list_load no_term r vs = plain
  list_load (term_and t ts) r vs = after (number_load t r vs) (list_load ts r vs)
