-- Terms that were read are sound in the scope in which they were read.
use Rattle.std.proofs.Common.{◌≡◌, ℕ, zero, suc, ◌≤◌, eqb, Bool, true, false, not, ◌&&◌, cond, List, [], ◌∷◌, ◌++◌, length, Option, Some, None, Ok, refl, sym, subst, arith}
use Rattle.std.specs.Prelude.{nat_le, codes}
use Rattle.ss_names.specs.declared.FaultKind.TheVariants as kind
use Rattle.smt_lex.specs.declared.TokenKind.{TokenKind}
use Rattle.smt_lex.specs.declared.TokenKind.TheVariants as lex
use Rattle.smt_lex.specs.Lexeme.{Lexeme}
use Rattle.smt_lex.specs.Place.{Place}
use Rattle.smt_tree.specs.Sexp.{Sexps, none, leaf, list}
use Rattle.lin_term.specs.Form.{cap}
use Rattle.lin_term.specs.declared.Sort.{Sort}
use Rattle.lin_term.specs.declared.Sort.TheVariants.{Rat, Int}
use Rattle.lin_truth.specs.declared.VarSort.{VarSort}
use Rattle.lin_truth.specs.declared.VarSort.TheVariants as sort
use Rattle.lin_truth.specs.Constant.{is_constant}
use Rattle.lin_truth.specs.Formed.{IsInt}
use Rattle.lin_truth.specs.Term.{Term}
use Rattle.symbol_table.specs.Names.{looked_up}
use Rattle.term_table.specs.declared.Quantifier.{Quantifier}
use Rattle.term_table.specs.declared.Quantifier.TheVariants as quantifier
use Rattle.term_table.specs.declared.Unary.TheVariants as unary
use Rattle.term_table.specs.Built.{binder_of}
use Rattle.term_table.specs.Placed.{Typed, top, below}
use Rattle.term_table.specs.Sound.{Sorts, Sound, ArgumentsFit}
use Rattle.term_table.proofs.Scoped.{with_bindings as behind}
use Rattle.term_table.proofs.SoundLemmas.{sound-true, sound-false, sound-one}
use Rattle.term_table.proofs.SoundMore.{sound-binder, sound-used, body_scope}
use Rattle.smt_term.specs.declared.Operator.{Operator}
use Rattle.smt_term.specs.declared.Shape.{Shape}
use Rattle.smt_term.specs.declared.Shape.TheVariants as shape
use Rattle.smt_term.specs.Reading.{Read, ◌>>=◌, unless, place_of, Part, token, group}
use Rattle.smt_term.specs.Scope.{Entry, Scope, with_bound, with_bindings, sorts_in_order}
use Rattle.smt_term.specs.Word.{is_symbol, is_word, is_reserved, new_name}
use Rattle.smt_term.specs.Operator.{operator_named}
use Rattle.smt_term.specs.Numeral.{numeral, number_of}
use Rattle.smt_term.specs.Apply.{worth_here, is_wide, same_sort, same_sorts, sorts_of, application, checked, operated, alone, is_plain, is_nil, expanded, expansion, use_of, divided}
use Rattle.smt_term.specs.Terms.{Head, let_head, binder_head, annotation_head, operator_head, name_head, token_of_kind, atom, name_alone, entry_alone, symbol_alone, named_head, head_of_symbol, head_of, numeral_of_kind, index_value, divisible_index, is_divisible, is_mark, index_parts, index_head, parts, only, is_empty, is_pair, sorted, quantified, first_place, by_head, terms_from, inside_of, let_of, bound_from, bound_name, binder_of_terms, annotated, term}
use Rattle.smt_goal.proofs.SoundNumbers.{Good, bind_ok, unless_ok, same_ok, and_true, le_of_true, whole_good, decimal_good}
use Rattle.smt_goal.proofs.SoundOperators.{not_constant_narrow, sort_is, operator_law, application_sound}
use Rattle.smt_goal.proofs.SoundNames.{EntryGood, ScopeGood, AllGood, AllBound, all_sound, all_narrow, good-push, looked_up_good, names-bound, scope-binding}

-- ---- tokens

truth_good : (s : Sort) (scope : Sorts) (b : Shape) (p : Place) (x : Typed) → alone b p ≡ Ok x → Good s scope x
truth_good s scope (shape.Truth true) p x e = subst (Good s scope) (same_ok _ x e) (record { sound = sound-true s scope; narrow = refl })
truth_good s scope (shape.Truth false) p x e = subst (Good s scope) (same_ok _ x e) (record { sound = sound-false s scope; narrow = refl })
truth_good s scope (shape.One op) p x e = absurd cc
truth_good s scope (shape.Several op) p x e = absurd cc
truth_good s scope (shape.Chain op) p x e = absurd cc
truth_good s scope shape.Pairwise p x e = absurd cc
truth_good s scope (shape.Left op) p x e = absurd cc
truth_good s scope (shape.Right op) p x e = absurd cc
truth_good s scope shape.Difference p x e = absurd cc
truth_good s scope shape.Choice p x e = absurd cc

plain_good : (s : Sort) (scope : Sorts) (params : List VarSort) (t : Typed) → is_nil params ≡ true → EntryGood s scope params t → Good s scope t
plain_good s scope [] t is good = good
plain_good s scope (u ∷ us) t is good = absurd cc

named_good : (s : Scope) (scope : Sorts) (name : List ℕ) (p : Place) (x : Typed) → ScopeGood s scope → entry_alone (looked_up s.names name) p ≡ Ok x → Good s.logic scope x
named_good s scope name p x good e = by (looked_up s.names name) refl e
  where
    by : (found : Option Entry) → looked_up s.names name ≡ found → entry_alone found p ≡ Ok x → Good s.logic scope x
    by None is e = absurd cc
    by (Some n) is e =
        let both = unless_ok (is_plain n) _ p _ x e in
        subst (Good s.logic scope) (same_ok n.meaning x both.1) (plain_good s.logic scope n.params n.meaning both.0 (looked_up_good s.logic scope s.names name n good.names is))

name_good : (s : Scope) (scope : Sorts) (t : Lexeme) (op : Option Operator) (x : Typed) → ScopeGood s scope → name_alone s t op ≡ Ok x → Good s.logic scope x
name_good s scope t (Some op) x good e = truth_good s.logic scope op.shape (place_of t) x e
name_good s scope t None x good e = named_good s scope t.text (place_of t) x good e

symbol_good : (s : Scope) (scope : Sorts) (t : Lexeme) (x : Typed) → ScopeGood s scope → symbol_alone s t ≡ Ok x → Good s.logic scope x
symbol_good s scope t x good e =
    let both = unless_ok (not (is_reserved t)) _ (place_of t) _ x e in name_good s scope t (operator_named s.logic t.text) x good both.1

kind_good : (k : TokenKind) (s : Scope) (scope : Sorts) (t : Lexeme) (x : Typed) → ScopeGood s scope → token_of_kind k s t ≡ Ok x → Good s.logic scope x
kind_good lex.Numeral s scope t x good e = whole_good s.logic scope t x e
kind_good lex.Decimal s scope t x good e = decimal_good s.logic scope t x e
kind_good lex.Symbol s scope t x good e = symbol_good s scope t x good e
kind_good lex.Quoted s scope t x good e = symbol_good s scope t x good e
kind_good lex.Left s scope t x good e = absurd cc
kind_good lex.Right s scope t x good e = absurd cc
kind_good lex.Text s scope t x good e = absurd cc
kind_good lex.Hexadecimal s scope t x good e = absurd cc
kind_good lex.Binary s scope t x good e = absurd cc
kind_good lex.Keyword s scope t x good e = absurd cc

atom_good : (s : Scope) (scope : Sorts) (t : Lexeme) (x : Typed) → ScopeGood s scope → atom s t ≡ Ok x → Good s.logic scope x
unfolding atom
atom_good s scope t x good e = kind_good t.kind s scope t x good e

-- ---- heads

abbrev HeadGood : Sort → Sorts → Head → Type 0
HeadGood s scope let_head = Unit {0}
HeadGood s scope (binder_head q) = Unit {0}
HeadGood s scope annotation_head = Unit {0}
HeadGood s scope (operator_head op) = (name : List ℕ) × (operator_named s name ≡ Some op)
HeadGood s scope (name_head e) = EntryGood s scope e.params e.meaning

entry_head : (s : Scope) (scope : Sorts) (t : Lexeme) (k : Head) (found : Option Entry) → ScopeGood s scope → looked_up s.names t.text ≡ found → named_head (place_of t) found ≡ Ok k → HeadGood s.logic scope k
entry_head s scope t k None good is e = absurd cc
entry_head s scope t k (Some n) good is e = subst (HeadGood s.logic scope) (same_ok (name_head n) k e) (looked_up_good s.logic scope s.names t.text n good.names is)

operator_or_name : (s : Scope) (scope : Sorts) (t : Lexeme) (k : Head) (op : Option Operator) → ScopeGood s scope → operator_named s.logic t.text ≡ op → head_of_symbol s t op ≡ Ok k → HeadGood s.logic scope k
operator_or_name s scope t k (Some op) good is e = subst (HeadGood s.logic scope) (same_ok (operator_head op) k e) (t.text, is)
operator_or_name s scope t k None good is e = entry_head s scope t k (looked_up s.names t.text) good refl e

one_or : (s : Sort) (scope : Sorts) (b : Bool) (h k : Head) (rest : Read Head) → HeadGood s scope h → cond b (Ok h) rest ≡ Ok k → (rest ≡ Ok k → HeadGood s scope k) → HeadGood s scope k
one_or s scope true h k rest good e next = subst (HeadGood s scope) (same_ok h k e) good
one_or s scope false h k rest good e next = next e

head_good : (s : Scope) (scope : Sorts) (t : Lexeme) (k : Head) → ScopeGood s scope → head_of s t ≡ Ok k → HeadGood s.logic scope k
unfolding head_of
head_good s scope t k good e =
    one_or s.logic scope (is_word (codes "let") t) let_head k _ tt e (λ e1.
    one_or s.logic scope (is_word (codes "forall") t) (binder_head quantifier.Forall) k _ tt e1 (λ e2.
    one_or s.logic scope (is_word (codes "exists") t) (binder_head quantifier.Exists) k _ tt e2 (λ e3.
    one_or s.logic scope (is_word (codes "!") t) annotation_head k _ tt e3 (λ e4.
    let first = unless_ok (is_symbol t) _ (place_of t) _ k e4 in
    let second = unless_ok (not (is_reserved t)) _ (place_of t) _ k first.1 in
    operator_or_name s scope t k (operator_named s.logic t.text) good refl second.1))))

-- ---- indices

numeral_kept : (t : Lexeme) (n : ℕ) → numeral t ≡ Ok n → n ≤ cap
numeral_kept t n e =
    let both = unless_ok (nat_le (number_of t.text) cap) _ (place_of t) _ n e in
    subst (λ (k : ℕ). k ≤ cap) (same_ok (number_of t.text) n both.1) (le_of_true (number_of t.text) cap both.0)

kind_index : (k : TokenKind) (t : Lexeme) (n : ℕ) → numeral_of_kind k t ≡ Ok n → n ≤ cap
kind_index lex.Numeral t n e = numeral_kept t n e
kind_index lex.Decimal t n e = absurd cc
kind_index lex.Symbol t n e = absurd cc
kind_index lex.Quoted t n e = absurd cc
kind_index lex.Left t n e = absurd cc
kind_index lex.Right t n e = absurd cc
kind_index lex.Text t n e = absurd cc
kind_index lex.Hexadecimal t n e = absurd cc
kind_index lex.Binary t n e = absurd cc
kind_index lex.Keyword t n e = absurd cc

value_kept : (x : Part) (n : ℕ) → index_value x ≡ Ok n → n ≤ cap
value_kept (token t) n e = kind_index t.kind t n e
value_kept (group p inner) n e = absurd cc

int_of : (logic : Sort) (t : Lexeme) → is_divisible logic t ≡ true → IsInt logic
int_of Rat t e = absurd cc
int_of Int t e = tt

divisible_kept : (logic : Sort) (word index : Part) (n : ℕ) → divisible_index logic word index ≡ Ok n → IsInt logic × (n ≤ cap)
divisible_kept logic (group p inner) index n e = absurd cc
divisible_kept logic (token t) index n e =
    let first = unless_ok (is_symbol t) _ (place_of t) _ n e in
    let second = unless_ok (is_divisible logic t) _ (place_of t) _ n first.1 in
    (int_of logic t second.0, value_kept index n second.1)

parts_kept : (logic : Sort) (p : Place) (ps : List Part) (n : ℕ) → index_parts logic p ps ≡ Ok n → IsInt logic × (n ≤ cap)
parts_kept logic p [] n e = absurd cc
parts_kept logic p (a ∷ []) n e = absurd cc
parts_kept logic p (a ∷ b ∷ []) n e = absurd cc
parts_kept logic p (a ∷ b ∷ c ∷ []) n e = divisible_kept logic b c n (unless_ok (is_mark a) _ p _ n e).1
parts_kept logic p (a ∷ b ∷ c ∷ d ∷ ps) n e = absurd cc

index_kept : (logic : Sort) (p : Place) (inner : Sexps) (n : ℕ) → index_head logic p inner ≡ Ok n → IsInt logic × (n ≤ cap)
unfolding index_head
index_kept logic p inner n e = parts_kept logic p (parts inner) n e

-- ---- applications

narrow_of : (p : Place) (t x : Typed) → checked p t ≡ Ok x → (t ≡ x) × (is_wide (worth_here t) ≡ false)
narrow_of p t x e =
    let both = unless_ok (not (is_wide (worth_here t))) _ p _ x e in (same_ok t x both.1, not_false (is_wide (worth_here t)) both.0)
  where
    not_false : (b : Bool) → not b ≡ true → b ≡ false
    not_false true e = absurd cc
    not_false false e = refl

operated_good : (s : Sort) (scope : Sorts) (op : Operator) (name : List ℕ) (p : Place) (ts : List Typed) (x : Typed) → operator_named s name ≡ Some op → AllGood s scope ts → operated op p ts ≡ Ok x → Good s scope x
operated_good s scope op name p ts x named all e =
    let both = bind_ok (application op p ts) (checked p) x e in
    let law = operator_law s name op named in
    let last = narrow_of p both.0 x both.2 in
    subst (Good s scope) last.0 (record {
      sound = application_sound s scope op p ts both.0 law.0 law.1 both.1 (all_sound s scope ts all) (all_narrow s scope ts all);
      narrow = last.1;
    })

arguments_fit : (ts : List Typed) (us : List VarSort) → same_sorts (sorts_of ts) us ≡ true → ArgumentsFit us ts
arguments_fit [] [] e = tt
arguments_fit [] (u ∷ us) e = absurd cc
arguments_fit (t ∷ ts) [] e = absurd cc
arguments_fit (t ∷ ts) (u ∷ us) e = let both = and_true (same_sort t.sort u) (same_sorts (sorts_of ts) us) e in (sort_is t.sort u both.0, arguments_fit ts us both.1)

body_sound : (s : Sort) (scope : Sorts) (params : List VarSort) (t : Typed) → not (is_nil params) ≡ true → EntryGood s scope params t → Sound s (body_scope scope params) t
body_sound s scope [] t some good = absurd cc
body_sound s scope (u ∷ us) t some good = good

use_good : (s : Sort) (scope : Sorts) (n : Entry) (p : Place) (ts : List Typed) (x : Typed) → EntryGood s scope n.params n.meaning → AllGood s scope ts → use_of n p ts ≡ Ok x → Good s scope x
unfolding expansion
use_good s scope n p ts x good all e =
    let both = bind_ok (expansion n p ts) (checked p) x e in
    let first = unless_ok (not (is_plain n) && eqb (length ts) (length n.params)) _ p _ both.0 both.1 in
    let second = unless_ok (same_sorts (sorts_of ts) n.params) _ p _ both.0 first.1 in
    let some = and_true (not (is_plain n)) (eqb (length ts) (length n.params)) first.0 in
    let last = narrow_of p both.0 x both.2 in
    subst (Good s scope) last.0 (record {
      sound = subst (Sound s scope) (same_ok (expanded n.meaning ts) both.0 second.1)
          (sound-used s scope n.params n.meaning ts (arguments_fit ts n.params second.0) (body_sound s scope n.params n.meaning some.0 good) (all_sound s scope ts all));
      narrow = last.1;
    })

divided_good : (s : Sort) (scope : Sorts) (n : ℕ) (p : Place) (ts : List Typed) (x : Typed) → IsInt s × (n ≤ cap) → AllGood s scope ts → divided n p ts ≡ Ok x → Good s scope x
unfolding divided
divided_good s scope n p [] x kept all e = absurd cc
divided_good s scope n p (t ∷ []) x kept all e =
    let first = unless_ok (same_sort t.sort sort.Number) _ p _ x e in
    let second = unless_ok (not (eqb n 0)) _ p _ x first.1 in
    subst (Good s scope) (same_ok _ x second.1) (record {
      sound = sound-one s scope (unary.Divisible n) t (kept.0, some n second.0, kept.1) (sort_is t.sort sort.Number first.0) all.0.sound;
      narrow = refl;
    })
  where
    some : (m : ℕ) → not (eqb m 0) ≡ true → 1 ≤ m
    some zero e = absurd cc
    some (suc m) e = omega arith
divided_good s scope n p (t ∷ u ∷ ts) x kept all e = absurd cc

-- ---- binders

no_constant : (q : Quantifier) (us : List VarSort) (t : Term) → is_constant (binder_of q us t) ≡ false
no_constant quantifier.Forall us t = refl
no_constant quantifier.Exists us t = refl

quantified_good : (s : Sort) (scope : Sorts) (around : ℕ) (q : Quantifier) (us : List VarSort) (p : Place) (body x : Typed) → around ≡ length scope.bindings → Good s (behind scope us) body
    → quantified around q us p body ≡ Ok x → Good s scope x
quantified_good s scope around q us p body x around_is good e =
    let both = unless_ok (same_sort body.sort sort.Bool) _ p _ x e in
    let there : Typed = record { sort = sort.Bool; tree = λ frame n. binder_of q us (below around (length us) body.tree frame n) } in
    subst (Good s scope) (same_ok there x both.1) (record {
      sound = subst (λ (k : ℕ). Sound s scope (record { sort = sort.Bool; tree = λ frame n. binder_of q us (below k (length us) body.tree frame n) })) (sym around_is)
          (sound-binder s scope q us body (sort_is body.sort sort.Bool both.0) good.sound);
      narrow = not_constant_narrow there (no_constant q us (below around (length us) body.tree top 0));
    })

only_good : (s : Sort) (scope : Sorts) (p : Place) (ts : List Typed) (x : Typed) → AllGood s scope ts → only p ts ≡ Ok x → Good s scope x
only_good s scope p [] x all e = absurd cc
only_good s scope p (t ∷ []) x all e = subst (Good s scope) (same_ok t x e) all.0
only_good s scope p (t ∷ u ∷ ts) x all e = absurd cc

-- what stands behind a head is one of these
by_head_good : (s : Sort) (scope : Sorts) (k : Head) (l : Unit {0} → Read Typed) (b : Quantifier → Read Typed) (a : Unit {0} → Read Typed) (o : Operator → Read Typed) (n : Entry → Read Typed) (x : Typed)
    → HeadGood s scope k → (l tt ≡ Ok x → Good s scope x) → ((q : Quantifier) → b q ≡ Ok x → Good s scope x) → (a tt ≡ Ok x → Good s scope x)
    → ((op : Operator) (name : List ℕ) → operator_named s name ≡ Some op → o op ≡ Ok x → Good s scope x)
    → ((e : Entry) → EntryGood s scope e.params e.meaning → n e ≡ Ok x → Good s scope x)
    → by_head k l b a o n ≡ Ok x → Good s scope x
by_head_good s scope let_head l b a o n x good f g h i j e = f e
by_head_good s scope (binder_head q) l b a o n x good f g h i j e = g q e
by_head_good s scope annotation_head l b a o n x good f g h i j e = h e
by_head_good s scope (operator_head op) l b a o n x good f g h i j e = i op good.0 good.1 e
by_head_good s scope (name_head m) l b a o n x good f g h i j e = j m good e

-- ---- the walk

with-bound : (s : Scope) (scope : Sorts) (bs : List (List ℕ × Typed)) → ScopeGood s scope → AllBound s.logic scope bs → ScopeGood (with_bound s bs) scope
with-bound s scope bs good all = record { names = names-bound s.logic scope bs s.names all good.names; around = good.around }

mutual
  terms_good : (xs : Sexps) (s : Scope) (scope : Sorts) (ts us : List Typed) → ScopeGood s scope → AllGood s.logic scope ts → terms_from s ts xs ≡ Ok us → AllGood s.logic scope us
  terms_good none s scope ts us good all e = subst (AllGood s.logic scope) (same_ok ts us e) all
  terms_good (leaf t rest) s scope ts us good all e =
      let m = bind_ok (atom s t) (λ x. terms_from s (ts ++ x ∷ []) rest) us e in
      terms_good rest s scope (ts ++ m.0 ∷ []) us good (good-push s.logic scope ts m.0 all (atom_good s scope t m.0 good m.1)) m.2
  terms_good (list p inner rest) s scope ts us good all e =
      let m = bind_ok (inside_of s p inner) (λ x. terms_from s (ts ++ x ∷ []) rest) us e in
      terms_good rest s scope (ts ++ m.0 ∷ []) us good (good-push s.logic scope ts m.0 all (inside_good inner s scope p m.0 good m.1)) m.2

  inside_good : (xs : Sexps) (s : Scope) (scope : Sorts) (p : Place) (x : Typed) → ScopeGood s scope → inside_of s p xs ≡ Ok x → Good s.logic scope x
  inside_good none s scope p x good e = absurd cc
  inside_good (list q index args) s scope p x good e =
      let m = bind_ok (index_head s.logic q index) (λ n. terms_from s [] args >>= divided n p) x e in
      let r = bind_ok (terms_from s [] args) (divided m.0 p) x m.2 in
      divided_good s.logic scope m.0 p r.0 x (index_kept s.logic q index m.0 m.1) (terms_good args s scope [] r.0 good tt r.1) r.2
  inside_good (leaf h args) s scope p x good e =
      let m = bind_ok (head_of s h)
      (λ k. by_head k (λ u. let_of s p args) (λ q. binder_of_terms s p q args) (λ u. annotated s p args) (λ op. terms_from s [] args >>= operated op p) (λ n. terms_from s [] args >>= use_of n p)) x e in
      by_head_good s.logic scope m.0 (λ u. let_of s p args) (λ q. binder_of_terms s p q args) (λ u. annotated s p args) (λ op. terms_from s [] args >>= operated op p) (λ n. terms_from s [] args >>= use_of n p) x
      (head_good s scope h m.0 good m.1)
      (λ e. let_good args s scope p x good e)
      (λ q e. binder_good args s scope p q x good e)
      (λ e. annotated_good args s scope p x good e)
      (λ op name named e. let r = bind_ok (terms_from s [] args) (operated op p) x e in operated_good s.logic scope op name p r.0 x named (terms_good args s scope [] r.0 good tt r.1) r.2)
      (λ n entry e. let r = bind_ok (terms_from s [] args) (use_of n p) x e in use_good s.logic scope n p r.0 x entry (terms_good args s scope [] r.0 good tt r.1) r.2)
      m.2

  let_good : (xs : Sexps) (s : Scope) (scope : Sorts) (p : Place) (x : Typed) → ScopeGood s scope → let_of s p xs ≡ Ok x → Good s.logic scope x
  let_good none s scope p x good e = absurd cc
  let_good (leaf t body) s scope p x good e = absurd cc
  let_good (list q bindings body) s scope p x good e =
      let m = bind_ok (unless (not (is_empty bindings)) kind.Sort q (bound_from s [] bindings)) (λ bs. terms_from (with_bound s bs) [] body >>= only p) x e in
      let b = unless_ok (not (is_empty bindings)) kind.Sort q (bound_from s [] bindings) m.0 m.1 in
      let r = bind_ok (terms_from (with_bound s m.0) [] body) (only p) x m.2 in
      only_good s.logic scope p r.0 x (terms_good body (with_bound s m.0) scope [] r.0 (with-bound s scope m.0 good (bound_good bindings s scope [] m.0 good tt b.1)) tt r.1) r.2

  bound_good : (xs : Sexps) (s : Scope) (scope : Sorts) (bs cs : List (List ℕ × Typed)) → ScopeGood s scope → AllBound s.logic scope bs → bound_from s bs xs ≡ Ok cs → AllBound s.logic scope cs
  bound_good none s scope bs cs good all e = subst (AllBound s.logic scope) (same_ok bs cs e) all
  bound_good (leaf t rest) s scope bs cs good all e = absurd cc
  bound_good (list p inner rest) s scope bs cs good all e =
      let m = bind_ok (unless (is_pair inner) kind.Sort p (bound_name s bs p inner)) (λ b. bound_from s (b ∷ bs) rest) cs e in
      let b = unless_ok (is_pair inner) kind.Sort p (bound_name s bs p inner) m.0 m.1 in
      bound_good rest s scope (m.0 ∷ bs) cs good (name_bound_good inner s scope bs p m.0 good b.1, all) m.2

  name_bound_good : (xs : Sexps) (s : Scope) (scope : Sorts) (bs : List (List ℕ × Typed)) (p : Place) (b : List ℕ × Typed) → ScopeGood s scope → bound_name s bs p xs ≡ Ok b → Good s.logic scope b.1
  name_bound_good none s scope bs p b good e = absurd cc
  name_bound_good (list q inner value) s scope bs p b good e = absurd cc
  name_bound_good (leaf y value) s scope bs p b good e =
      let m = bind_ok (new_name s.logic bs (token y)) (λ name. terms_from s [] value >>= only p >>= λ t. Ok (name, t)) b e in
      let r = bind_ok (terms_from s [] value >>= only p) (λ t. Ok (m.0, t)) b m.2 in
      let q = bind_ok (terms_from s [] value) (only p) r.0 r.1 in
      subst (λ (c : List ℕ × Typed). Good s.logic scope c.1) (same_ok (m.0, r.0) b r.2) (only_good s.logic scope p q.0 r.0 (terms_good value s scope [] q.0 good tt q.1) q.2)

  binder_good : (xs : Sexps) (s : Scope) (scope : Sorts) (p : Place) (q : Quantifier) (x : Typed) → ScopeGood s scope → binder_of_terms s p q xs ≡ Ok x → Good s.logic scope x
  binder_good none s scope p q x good e = absurd cc
  binder_good (leaf t body) s scope p q x good e = absurd cc
  binder_good (list r bindings body) s scope p q x good e =
      let m = bind_ok (unless (not (is_empty bindings)) kind.Sort r (sorted s.logic bindings))
      (λ vs. terms_from (with_bindings s vs) [] body >>= only p >>= quantified s.around q (sorts_in_order vs) (first_place p body)) x e in
      let n = bind_ok (terms_from (with_bindings s m.0) [] body >>= only p) (quantified s.around q (sorts_in_order m.0) (first_place p body)) x m.2 in
      let o = bind_ok (terms_from (with_bindings s m.0) [] body) (only p) n.0 n.1 in
      quantified_good s.logic scope s.around q (sorts_in_order m.0) (first_place p body) n.0 x good.around
      (only_good s.logic (behind scope (sorts_in_order m.0)) p o.0 n.0 (terms_good body (with_bindings s m.0) (behind scope (sorts_in_order m.0)) [] o.0 (scope-binding s scope m.0 good) tt o.1) o.2) n.2

  annotated_good : (xs : Sexps) (s : Scope) (scope : Sorts) (p : Place) (x : Typed) → ScopeGood s scope → annotated s p xs ≡ Ok x → Good s.logic scope x
  annotated_good none s scope p x good e = absurd cc
  annotated_good (leaf t rest) s scope p x good e =
      let m = bind_ok (atom s t) (λ y. unless (not (is_empty rest)) kind.Arity p (Ok y)) x e in
      let b = unless_ok (not (is_empty rest)) kind.Arity p (Ok m.0) x m.2 in
      subst (Good s.logic scope) (same_ok m.0 x b.1) (atom_good s scope t m.0 good m.1)
  annotated_good (list q inner rest) s scope p x good e =
      let m = bind_ok (inside_of s q inner) (λ y. unless (not (is_empty rest)) kind.Arity p (Ok y)) x e in
      let b = unless_ok (not (is_empty rest)) kind.Arity p (Ok m.0) x m.2 in
      subst (Good s.logic scope) (same_ok m.0 x b.1) (inside_good inner s scope q m.0 good m.1)

-- a term that was read
pub term_good : (s : Scope) (scope : Sorts) (p : Part) (x : Typed) → ScopeGood s scope → term s p ≡ Ok x → Good s.logic scope x
unfolding term
term_good s scope (token t) x good e = atom_good s scope t x good e
term_good s scope (group p inner) x good e = inside_good inner s scope p x good e
