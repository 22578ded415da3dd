-- Expressions as terms (SMT-LIB 2.6, section 3.6), from left to right, with the first fault. An application is read from its head,
-- then its arguments, and then its own kinds; a binder from its bindings.
use Rattle.std.specs.Prelude.{ℕ, Bool, true, false, not, ◌&&◌, if◌then◌else◌, List, [], ◌∷◌, ◌++◌, length, pos, Option, Some, None, Ok, codes}
use Rattle.std.specs.Str.{bytes_eq}
use Rattle.ss_names.specs.declared.FaultKind.TheVariants as kind
use Rattle.smt_lex.specs.declared.TokenKind.{TokenKind}
use Rattle.smt_lex.specs.declared.TokenKind.TheVariants as lex
use Rattle.smt_lex.specs.Place.{Place}
use Rattle.smt_lex.specs.Lexeme.{Lexeme}
use Rattle.smt_tree.specs.Sexp.{Sexps, none, leaf, list}
use Rattle.lin_term.specs.Linear.{Value}
use Rattle.lin_term.specs.declared.Sort.{Sort}
use Rattle.lin_term.specs.declared.Sort.TheVariants.{Rat, Int}
use Rattle.lin_truth.specs.declared.VarSort.{VarSort}
use Rattle.lin_truth.specs.declared.VarSort.TheVariants as sort
use Rattle.lin_truth.specs.Term.{amount}
use Rattle.term_table.specs.declared.Quantifier.{Quantifier}
use Rattle.term_table.specs.declared.Quantifier.TheVariants.{Forall, Exists}
use Rattle.term_table.specs.Placed.{Typed, below}
use Rattle.term_table.specs.Built.{binder_of}
use Rattle.smt_term.specs.declared.operator.Operator.{Operator}
use Rattle.smt_term.specs.Reading.{Read, ◌>>=◌, refuse, unless, place_of, Part, token, group}
use Rattle.symbol_table.specs.Names.{looked_up}
use Rattle.smt_term.specs.Scope.{Entry, Scope, with_bound, with_bindings, sorts_in_order}
use Rattle.smt_term.specs.Word.{is_symbol, is_word, is_reserved, new_name, sort_of}
use Rattle.smt_term.specs.Numeral.{numeral, decimal}
use Rattle.smt_term.specs.Operator.{operator_named}
use Rattle.smt_term.specs.Apply.{operated, alone, named_alone, use_of, divided, same_sort}

-- ---- tokens

abbrev pub number_term : Value → Typed
number_term v = record { sort = sort.Number; tree = λ frame n. amount v }

abbrev pub whole_value : ℕ → Value
whole_value n = record { num = pos n; den = 1 }

-- a decimal is of Real alone
abbrev pub decimal_term : Sort → Lexeme → Read Typed
decimal_term Int t = refuse kind.Sort (place_of t)
decimal_term Rat t = decimal t >>= λ v. Ok (number_term v)

abbrev pub entry_alone : Option Entry → Place → Read Typed
entry_alone None p = refuse kind.Symbol p
entry_alone (Some e) p = named_alone e p

abbrev pub entry_found : Scope → Lexeme → Read Typed
entry_found s t = entry_alone (looked_up s.names t.text) (place_of t)

abbrev pub name_alone : Scope → Lexeme → Option Operator → Read Typed
name_alone s t (Some op) = alone op.shape (place_of t)
name_alone s t None = entry_found s t

abbrev pub symbol_alone : Scope → Lexeme → Read Typed
symbol_alone s t = unless (not (is_reserved t)) kind.Symbol (place_of t) (name_alone s t (operator_named s.logic t.text))

abbrev pub whole_number : Lexeme → Read Typed
whole_number t = numeral t >>= λ n. Ok (number_term (whole_value n))

abbrev pub token_of_kind : TokenKind → Scope → Lexeme → Read Typed
token_of_kind lex.Numeral s t = whole_number t
token_of_kind lex.Decimal s t = decimal_term s.logic t
token_of_kind lex.Symbol s t = symbol_alone s t
token_of_kind lex.Quoted s t = symbol_alone s t
token_of_kind k s t = refuse kind.Sort (place_of t)

-- a token as a term
unfoldable pub atom : Scope → Lexeme → Read Typed
atom s t = token_of_kind t.kind s t

-- ---- heads

pub data Head : Type 0 where
  let_head : Head
  binder_head : Quantifier → Head
  annotation_head : Head
  operator_head : Operator → Head
  name_head : Entry → Head

abbrev pub named_head : Place → Option Entry → Read Head
named_head p None = refuse kind.Symbol p
named_head p (Some e) = Ok (name_head e)

abbrev pub head_of_symbol : Scope → Lexeme → Option Operator → Read Head
head_of_symbol s t (Some op) = Ok (operator_head op)
head_of_symbol s t None = named_head (place_of t) (looked_up s.names t.text)

abbrev pub symbol_head : Scope → Lexeme → Read Head
symbol_head s t = head_of_symbol s t (operator_named s.logic t.text)

-- what a token says as the head of a list
unfoldable pub head_of : Scope → Lexeme → Read Head
head_of s t =
    if is_word (codes "let") t then Ok let_head
    else (if is_word (codes "forall") t then Ok (binder_head Forall)
    else (if is_word (codes "exists") t then Ok (binder_head Exists)
    else (if is_word (codes "!") t then Ok annotation_head
    else unless (is_symbol t) kind.Sort (place_of t)
    (unless (not (is_reserved t)) kind.Symbol (place_of t)
    (symbol_head s t)))))

abbrev pub numeral_of_kind : TokenKind → Lexeme → Read ℕ
numeral_of_kind lex.Numeral t = numeral t
numeral_of_kind k t = refuse kind.Sort (place_of t)

abbrev pub index_value : Part → Read ℕ
index_value (group q inner) = refuse kind.Sort q
index_value (token t) = numeral_of_kind t.kind t

-- the word `divisible`, which is of Int alone
abbrev pub is_divisible : Sort → Lexeme → Bool
is_divisible Rat t = false
is_divisible Int t = not (is_reserved t) && bytes_eq t.text (codes "divisible")

-- the n of `(_ divisible n)`
abbrev pub divisible_index : Sort → Part → Part → Read ℕ
divisible_index logic (group q inner) index = refuse kind.Sort q
divisible_index logic (token t) index =
    unless (is_symbol t) kind.Sort (place_of t) (unless (is_divisible logic t) kind.Symbol (place_of t) (index_value index))

abbrev pub is_mark : Part → Bool
is_mark (group p inner) = false
is_mark (token t) = is_word (codes "_") t

-- the expressions of a list
abbrev pub parts : Sexps → List Part
parts none = []
parts (leaf t rest) = token t ∷ parts rest
parts (list p inner rest) = group p inner ∷ parts rest

abbrev pub index_parts : Sort → Place → List Part → Read ℕ
index_parts logic p (mark ∷ word ∷ index ∷ []) = unless (is_mark mark) kind.Sort p (divisible_index logic word index)
index_parts logic p other = refuse kind.Sort p

-- a list as a head
unfoldable pub index_head : Sort → Place → Sexps → Read ℕ
index_head logic p inner = index_parts logic p (parts inner)

-- ---- bindings and bodies

-- the one term of a list
abbrev pub only : Place → List Typed → Read Typed
only p (t ∷ []) = Ok t
only p ts = refuse kind.Arity p

abbrev pub is_empty : Sexps → Bool
is_empty none = true
is_empty xs = false

abbrev pub is_one : Sexps → Bool
is_one none = false
is_one (leaf t rest) = is_empty rest
is_one (list p inner rest) = is_empty rest

-- a binding has two parts
abbrev pub is_pair : Sexps → Bool
is_pair none = false
is_pair (leaf t rest) = is_one rest
is_pair (list p inner rest) = is_one rest

-- the place of the first expression
abbrev pub first_place : Place → Sexps → Place
first_place p none = p
first_place p (leaf t rest) = place_of t
first_place p (list q inner rest) = q

abbrev pub sort_part : Sort → Place → Sexps → Read VarSort
sort_part logic p none = refuse kind.Sort p
sort_part logic p (leaf t rest) = sort_of logic (token t)
sort_part logic p (list q inner rest) = sort_of logic (group q inner)

-- a name and its sort, where these names are taken
abbrev pub sorted_name : Sort → List (List ℕ × VarSort) → Place → Sexps → Read (List ℕ × VarSort)
sorted_name logic taken p none = refuse kind.Sort p
sorted_name logic taken p (leaf x rest) = new_name logic taken (token x) >>= λ name. sort_part logic p rest >>= λ v. Ok (name, v)
sorted_name logic taken p (list q inner rest) = new_name logic taken (group q inner) >>= λ name. sort_part logic p rest >>= λ v. Ok (name, v)

abbrev pub sorted_from : Sort → List (List ℕ × VarSort) → Sexps → Read (List (List ℕ × VarSort))
sorted_from logic vs none = Ok vs
sorted_from logic vs (leaf t rest) = refuse kind.Sort (place_of t)
sorted_from logic vs (list p inner rest) =
    unless (is_pair inner) kind.Sort p (sorted_name logic vs p inner) >>= λ v. sorted_from logic (v ∷ vs) rest

-- variables with their sorts, the newest first
unfoldable pub sorted : Sort → Sexps → Read (List (List ℕ × VarSort))
sorted logic xs = sorted_from logic [] xs

-- a binder of these variables over its body, which has this place
abbrev pub quantified : ℕ → Quantifier → List VarSort → Place → Typed → Read Typed
quantified around q vs p body =
    unless (same_sort body.sort sort.Bool) kind.Sort p
    (Ok (record { sort = sort.Bool; tree = λ frame n. binder_of q vs (below around (length vs) body.tree frame n) }))

-- ---- terms

abbrev pub by_head : Head → (Unit {0} → Read Typed) → (Quantifier → Read Typed) → (Unit {0} → Read Typed) → (Operator → Read Typed) → (Entry → Read Typed) → Read Typed
by_head let_head l b a o n = l tt
by_head (binder_head q) l b a o n = b q
by_head annotation_head l b a o n = a tt
by_head (operator_head op) l b a o n = o op
by_head (name_head e) l b a o n = n e

abbrev mutual
  -- expressions as terms, behind those that were read
  pub terms_from : Scope → List Typed → Sexps → Read (List Typed)
  terms_from s ts none = Ok ts
  terms_from s ts (leaf t rest) = atom s t >>= λ x. terms_from s (ts ++ x ∷ []) rest
  terms_from s ts (list p inner rest) = inside_of s p inner >>= λ x. terms_from s (ts ++ x ∷ []) rest

  -- what stands in parentheses
  pub inside_of : Scope → Place → Sexps → Read Typed
  inside_of s p none = refuse kind.Sort p
  inside_of s p (list q index args) = index_head s.logic q index >>= λ n. terms_from s [] args >>= divided n p
  inside_of s p (leaf h args) =
      head_of s h >>= λ k. by_head k
      (λ u. let_of s p args)
      (λ q. binder_of_terms s p q args)
      (λ u. annotated s p args)
      (λ op. terms_from s [] args >>= operated op p)
      (λ e. terms_from s [] args >>= use_of e p)

  -- `let` binds in parallel
  pub let_of : Scope → Place → Sexps → Read Typed
  let_of s p none = refuse kind.Arity p
  let_of s p (leaf t body) = refuse kind.Sort (place_of t)
  let_of s p (list q bindings body) =
      unless (not (is_empty bindings)) kind.Sort q (bound_from s [] bindings) >>= λ bs. terms_from (with_bound s bs) [] body >>= only p

  pub bound_from : Scope → List (List ℕ × Typed) → Sexps → Read (List (List ℕ × Typed))
  bound_from s bs none = Ok bs
  bound_from s bs (leaf t rest) = refuse kind.Sort (place_of t)
  bound_from s bs (list p inner rest) = unless (is_pair inner) kind.Sort p (bound_name s bs p inner) >>= λ b. bound_from s (b ∷ bs) rest

  -- a name and its term, where these names are taken
  pub bound_name : Scope → List (List ℕ × Typed) → Place → Sexps → Read (List ℕ × Typed)
  bound_name s bs p none = refuse kind.Sort p
  bound_name s bs p (list q inner value) = refuse kind.Sort q
  bound_name s bs p (leaf x value) = new_name s.logic bs (token x) >>= λ name. terms_from s [] value >>= only p >>= λ t. Ok (name, t)

  -- `forall` and `exists`
  pub binder_of_terms : Scope → Place → Quantifier → Sexps → Read Typed
  binder_of_terms s p q none = refuse kind.Arity p
  binder_of_terms s p q (leaf t body) = refuse kind.Sort (place_of t)
  binder_of_terms s p q (list r bindings body) =
      unless (not (is_empty bindings)) kind.Sort r (sorted s.logic bindings) >>= λ vs.
      terms_from (with_bindings s vs) [] body >>= only p >>= quantified s.around q (sorts_in_order vs) (first_place p body)

  -- `!`: the term without its attributes
  pub annotated : Scope → Place → Sexps → Read Typed
  annotated s p none = refuse kind.Arity p
  annotated s p (leaf t rest) = atom s t >>= λ x. unless (not (is_empty rest)) kind.Arity p (Ok x)
  annotated s p (list q inner rest) = inside_of s q inner >>= λ x. unless (not (is_empty rest)) kind.Arity p (Ok x)

-- what stands behind a head
abbrev pub headed : Scope → Place → Head → Sexps → Read Typed
headed s p k args =
    by_head k (λ u. let_of s p args) (λ q. binder_of_terms s p q args) (λ u. annotated s p args) (λ op. terms_from s [] args >>= operated op p)
    (λ e. terms_from s [] args >>= use_of e p)

unfoldable pub terms : Scope → List Typed → Sexps → Read (List Typed)
terms = terms_from

unfoldable pub inside : Scope → Place → Sexps → Read Typed
inside = inside_of

-- one expression as a term
unfoldable pub term : Scope → Part → Read Typed
term s (token t) = atom s t
term s (group p inner) = inside_of s p inner
