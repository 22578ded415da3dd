-- What names stand for, as the table grows.
use Rattle.std.proofs.Common.{◌≡◌, ℕ, ◌<◌, Bool, true, false, cond, eqb, List, [], ◌∷◌, length, Option, Some, None, Ok, refl, ap, subst, ◌∙◌, arith}
use Rattle.std.proofs.lemmas.Bool.{eqb-true}
use Rattle.std.specs.Str.{bytes_eq}
use Rattle.ss_names.specs.declared.FaultKind.TheVariants as kind
use Rattle.smt_lex.specs.Lexeme.{Lexeme}
use Rattle.lin_truth.specs.declared.VarSort.{VarSort}
use Rattle.symbol_table.specs.declared.Known.{Known}
use Rattle.symbol_table.specs.Names.{looked_up}
use Rattle.term_table.specs.Meaning.{Meaning, meanings}
use Rattle.smt_term.specs.declared.operator.Operator.{Operator}
use Rattle.smt_term.specs.Operator.{operator_named}
use Rattle.smt_term.specs.declared.reader.Reader.{Reader}
use Rattle.smt_term.specs.Reading.{refuse, place_of}
use Rattle.smt_term.specs.Scope.{Entry, signature_at}
use Rattle.smt_term.specs.Apply.{is_nil}
use Rattle.smt_term.specs.Terms.{entry_found, entry_alone, symbol_head, head_of_symbol, named_head, name_head}
use Rattle.smt_term.specs.View.{typed_at, entry_at, entries_at, NamesIn}
use Rattle.smt_term.specs.Reads.{scope_seen}

pub found-none : (ms : List Meaning) (sigs : List (List VarSort)) (ks : List (List ℕ × Known)) (name : List ℕ) → looked_up ks name ≡ None
    → looked_up (entries_at ms sigs ks) name ≡ None
found-none ms sigs [] name is = refl
found-none ms sigs (k ∷ ks) name is = by (bytes_eq k.0 name) is (found-none ms sigs ks name)
  where
    by : (b : Bool) → cond b (Some k.1) (looked_up ks name) ≡ None → (looked_up ks name ≡ None → looked_up (entries_at ms sigs ks) name ≡ None)
        → cond b (Some (entry_at ms sigs k.1)) (looked_up (entries_at ms sigs ks) name) ≡ None
    by true is rest = absurd cc
    by false is rest = rest is

pub found-some : (ms : List Meaning) (sigs : List (List VarSort)) (ks : List (List ℕ × Known)) (name : List ℕ) (found : Known) → looked_up ks name ≡ Some found
    → looked_up (entries_at ms sigs ks) name ≡ Some (entry_at ms sigs found)
found-some ms sigs [] name found is = absurd cc
found-some ms sigs (k ∷ ks) name found is = by (bytes_eq k.0 name) is (found-some ms sigs ks name found)
  where
    known_is : Some k.1 ≡ Some found → k.1 ≡ found
    known_is e = cc

    by : (b : Bool) → cond b (Some k.1) (looked_up ks name) ≡ Some found → (looked_up ks name ≡ Some found → looked_up (entries_at ms sigs ks) name ≡ Some (entry_at ms sigs found))
        → cond b (Some (entry_at ms sigs k.1)) (looked_up (entries_at ms sigs ks) name) ≡ Some (entry_at ms sigs found)
    by true is rest = ap (λ (x : Known). Some (entry_at ms sigs x)) (known_is is)
    by false is rest = rest is

pub found-in : (n : ℕ) (ks : List (List ℕ × Known)) (name : List ℕ) (found : Known) → NamesIn n ks → looked_up ks name ≡ Some found → found.node < n
found-in n [] name found within is = absurd cc
found-in n (k ∷ ks) name found within is = by (bytes_eq k.0 name) is (found-in n ks name found within.1)
  where
    known_is : Some k.1 ≡ Some found → k.1 ≡ found
    known_is e = cc

    by : (b : Bool) → cond b (Some k.1) (looked_up ks name) ≡ Some found → (looked_up ks name ≡ Some found → found.node < n) → found.node < n
    by true is rest = subst (λ (x : Known). x.node < n) (known_is is) within.0
    by false is rest = rest is

nil-false : (ss : List VarSort) → eqb (length ss) 0 ≡ false → is_nil ss ≡ false
nil-false [] is = absurd cc
nil-false (s ∷ ss) is = refl

nil-true : (ss : List VarSort) → eqb (length ss) 0 ≡ true → is_nil ss ≡ true
nil-true [] is = refl
nil-true (s ∷ ss) is = absurd (omega (arith, eqb-true (length (s ∷ ss)) 0 is))

-- ---- a name alone

pub alone-none : (r : Reader) (t : Lexeme) → looked_up r.names t.text ≡ None → entry_found (scope_seen r) t ≡ refuse kind.Symbol (place_of t)
alone-none r t is = ap (λ (e : Option Entry). entry_alone e (place_of t)) (found-none (meanings r.table) r.signatures.items r.names t.text is)

pub alone-arity : (r : Reader) (t : Lexeme) (k : Known) → looked_up r.names t.text ≡ Some k → eqb (length (signature_at r.signatures.items k.signature)) 0 ≡ false
    → entry_found (scope_seen r) t ≡ refuse kind.Arity (place_of t)
alone-arity r t k is some =
    ap (λ (e : Option Entry). entry_alone e (place_of t)) (found-some (meanings r.table) r.signatures.items r.names t.text k is)
    ∙ rw (nil-false (signature_at r.signatures.items k.signature) some) refl

pub alone-is : (r : Reader) (t : Lexeme) (k : Known) → looked_up r.names t.text ≡ Some k → eqb (length (signature_at r.signatures.items k.signature)) 0 ≡ true
    → entry_found (scope_seen r) t ≡ Ok (typed_at (meanings r.table) (record { sort = k.sort; node = k.node }))
alone-is r t k is none =
    ap (λ (e : Option Entry). entry_alone e (place_of t)) (found-some (meanings r.table) r.signatures.items r.names t.text k is)
    ∙ rw (nil-true (signature_at r.signatures.items k.signature) none) refl

-- ---- a name as a head

pub head-operator-none : (r : Reader) (t : Lexeme) → operator_named r.logic t.text ≡ None → looked_up r.names t.text ≡ None
    → symbol_head (scope_seen r) t ≡ refuse kind.Symbol (place_of t)
head-operator-none r t op is =
    ap (λ (o : Option Operator). head_of_symbol (scope_seen r) t o) op
    ∙ ap (λ (e : Option Entry). named_head (place_of t) e) (found-none (meanings r.table) r.signatures.items r.names t.text is)

pub head-operator-name : (r : Reader) (t : Lexeme) (k : Known) → operator_named r.logic t.text ≡ None → looked_up r.names t.text ≡ Some k
    → symbol_head (scope_seen r) t ≡ Ok (name_head (entry_at (meanings r.table) r.signatures.items k))
head-operator-name r t k op is =
    ap (λ (o : Option Operator). head_of_symbol (scope_seen r) t o) op
    ∙ ap (λ (e : Option Entry). named_head (place_of t) e) (found-some (meanings r.table) r.signatures.items r.names t.text k is)
