-- Names that a `let` or a binder adds, as the definitions see them.
use Rattle.std.proofs.Common.{◌≡◌, ℕ, zero, suc, ◌+◌, ◌-◌, ◌<◌, ◌≤◌, List, [], ◌∷◌, ◌++◌, length, take, drop, get_or, Bool, true, Ok, refl, sym, ap, subst, ◌∙◌, arith, length-append, append_assoc}
use Rattle.std.proofs.lemmas.List.{append-nil}
use Rattle.ss_names.specs.declared.FaultKind.TheVariants as kind
use Rattle.smt_lex.specs.Place.{Place}
use Rattle.term_table.specs.declared.Quantifier.{Quantifier}
use Rattle.smt_term.specs.Reading.{Read, unless}
use Rattle.smt_term.specs.Apply.{same_sort}
use Rattle.smt_term.specs.Terms.{quantified}
use Rattle.lin_truth.specs.declared.VarSort.{VarSort}
use Rattle.lin_truth.specs.declared.VarSort.TheVariants as sort
use Rattle.symbol_table.specs.declared.Known.{Known}
use Rattle.term_table.specs.declared.Node.{Node}
use Rattle.term_table.specs.declared.Node.TheVariants as nodes
use Rattle.term_table.specs.Placed.{Typed}
use Rattle.term_table.specs.Meaning.{Meaning, at, meaning, meanings, Extends}
use Rattle.term_table.proofs.Growth.{Extends-then, Extends-length}
use Rattle.smt_term.specs.declared.seen.Seen.{Seen}
use Rattle.smt_term.specs.declared.reader.Reader.{Reader}
use Rattle.smt_term.specs.declared.bindings.Binding.{Binding}
use Rattle.smt_term.specs.declared.bindings.Bound.{Bound}
use Rattle.smt_term.specs.Scope.{Entry, Names, plain, binding_at, binding_names, bound_names, with_bound, with_bindings, sorts_in_order}
use Rattle.smt_term.specs.View.{typed_at, entry_at, entries_at, NamesIn}
use Rattle.smt_term.specs.Reads.{scope_seen, Fits}
use Rattle.smt_term.specs.Newest.{newest_first, sorts_bound, bound_at, BoundIn}
use Rattle.smt_term.specs.Opens.{Opens}
use Rattle.smt_term.proofs.MakingLemmas.{Extends-refl}
use Rattle.smt_term.proofs.PairLemmas.{newest-push}
use Rattle.smt_term.proofs.WalkLemmas.{NamesIn-more, entries-extend}

-- ---- names that are taken away again

pub drop-more : (more ks : List (List ℕ × Known)) → drop (length (more ++ ks) - length ks) (more ++ ks) ≡ ks
drop-more [] ks =
    let none : length ks - length ks ≡ 0 = omega arith in
    ap (λ (n : ℕ). drop n ks) none
drop-more (m ∷ more) ks =
    let one : length (m ∷ (more ++ ks)) - length ks ≡ suc (length (more ++ ks) - length ks) = omega (arith, length-append more ks) in
    ap (λ (n : ℕ). drop n (m ∷ (more ++ ks))) one ∙ drop-more more ks

pub drop-behind : (more ks all : List (List ℕ × Known)) → all ≡ more ++ ks → drop (length all - length ks) all ≡ ks
drop-behind more ks all is = ap (λ (xs : List (List ℕ × Known)). drop (length xs - length ks) xs) is ∙ drop-more more ks

-- ---- `let`

abbrev pub known_of : Seen → Known
known_of x = record { sort = x.sort; node = x.node; signature = 0 }

-- names behind those that are there
abbrev pub pushed : List (List ℕ × Known) → List Bound → List (List ℕ × Known)
pushed ks [] = ks
pushed ks (b ∷ bs) = pushed ((b.name.now, known_of b.seen) ∷ ks) bs

pushed-entries : (ms : List Meaning) (sigs : List (List VarSort)) (bs : List Bound) (ks : List (List ℕ × Known)) (names : Names) (taken : List (List ℕ × Typed))
    → entries_at ms sigs ks ≡ bound_names taken names → entries_at ms sigs (pushed ks bs) ≡ bound_names (bound_at ms taken bs) names
pushed-entries ms sigs [] ks names taken is = is
pushed-entries ms sigs (b ∷ bs) ks names taken is =
    pushed-entries ms sigs bs ((b.name.now, known_of b.seen) ∷ ks) names ((b.name.now, typed_at ms b.seen) ∷ taken)
    (ap (λ (es : Names). (b.name.now, plain (typed_at ms b.seen)) ∷ es) is)

pushed-in : (n : ℕ) (ks : List (List ℕ × Known)) (bs : List Bound) → NamesIn n ks → BoundIn n bs → NamesIn n (pushed ks bs)
pushed-in n ks [] names within = names
pushed-in n ks (b ∷ bs) names within = pushed-in n ((b.name.now, known_of b.seen) ∷ ks) bs (within.0, names) within.1

pushed-behind : (ks : List (List ℕ × Known)) (bs : List Bound) → (more : List (List ℕ × Known)) × (pushed ks bs ≡ more ++ ks)
pushed-behind ks [] = ([], refl)
pushed-behind ks (b ∷ bs) =
    let k : List ℕ × Known = (b.name.now, known_of b.seen) in
    let rest = pushed-behind (k ∷ ks) bs in
    (rest.0 ++ k ∷ [], rest.1 ∙ sym (append-one rest.0))
  where
    append-one : (more : List (List ℕ × Known)) → (more ++ (b.name.now, known_of b.seen) ∷ []) ++ ks ≡ more ++ (b.name.now, known_of b.seen) ∷ ks
    append-one [] = refl
    append-one (m ∷ more) = ap (λ (xs : List (List ℕ × Known)). m ∷ xs) (append-one more)

pub bound-opens : (old new : Reader) (bs : List Bound) → Fits old → BoundIn (length old.table) bs → new.names ≡ pushed old.names bs → new.table ≡ old.table → new.logic ≡ old.logic
    → new.signatures.items ≡ old.signatures.items → new.around ≡ old.around → Opens (with_bound (scope_seen old) (bound_at (meanings old.table) [] bs)) old new
bound-opens old new bs fits within names_is table_is logic_is signatures_is around_is =
    let behind = pushed-behind old.names bs in
    let names : entries_at (meanings new.table) new.signatures.items new.names ≡ bound_names (bound_at (meanings old.table) [] bs) (entries_at (meanings old.table) old.signatures.items old.names) =
    ap (λ (ns : List Node). entries_at (meanings ns) new.signatures.items new.names) table_is
    ∙ ap (λ (ss : List (List VarSort)). entries_at (meanings old.table) ss new.names) signatures_is
    ∙ ap (λ (ks : List (List ℕ × Known)). entries_at (meanings old.table) old.signatures.items ks) names_is
    ∙ pushed-entries (meanings old.table) old.signatures.items bs old.names (entries_at (meanings old.table) old.signatures.items old.names) [] refl in
    record {
      scope = λ i. record { logic = logic_is i; names = names i; around = around_is i };
      fits = subst (λ (ns : List Node). NamesIn (length ns) new.names) (sym table_is)
          (subst (λ (ks : List (List ℕ × Known)). NamesIn (length old.table) ks) (sym names_is) (pushed-in (length old.table) old.names bs fits within));
      grows = subst (λ (ns : List Node). Extends old.table ns) (sym table_is) (Extends-refl old.table);
      behind = drop-behind behind.0 old.names new.names (names_is ∙ behind.1);
      logic = logic_is;
      signatures = signatures_is;
    }

-- ---- a binder

-- behind the first i of these variables
pub record VariablesOn (old : Reader) (vs : List Binding) (i place : ℕ) (new : Reader) : Type 0 where
  pub names : entries_at (meanings new.table) new.signatures.items new.names
      ≡ binding_names old.around (newest_first [] (take i vs)) (entries_at (meanings old.table) old.signatures.items old.names)
  pub within : NamesIn (length new.table) new.names
  pub grows : Extends old.table new.table
  pub at_place : place ≡ old.around + i
  pub behind : (more : List (List ℕ × Known)) × (new.names ≡ more ++ old.names)
  pub logic : new.logic ≡ old.logic
  pub signatures : new.signatures.items ≡ old.signatures.items

abbrev pub no_binding : Binding
no_binding = record { name = record { ref_ptr = (0, 0); now = [] }; sort = sort.Bool }

take-next : (vs : List Binding) (i : ℕ) → i < length vs → take (suc i) vs ≡ take i vs ++ get_or vs i no_binding ∷ []
take-next [] i lt = absurd (omega arith)
take-next (v ∷ vs) zero lt = refl
take-next (v ∷ vs) (suc i) lt = ap (λ (us : List Binding). v ∷ us) (take-next vs i (omega arith))

length-taken : (vs : List Binding) (i : ℕ) → i ≤ length vs → length (take i vs) ≡ i
length-taken vs zero le = refl
length-taken [] (suc i) le = absurd (omega arith)
length-taken (v ∷ vs) (suc i) le = ap suc (length-taken vs i (omega arith))

take-whole : (vs : List Binding) (i : ℕ) → length vs ≤ i → take i vs ≡ vs
take-whole [] zero le = refl
take-whole [] (suc i) le = refl
take-whole (v ∷ vs) zero le = absurd (omega arith)
take-whole (v ∷ vs) (suc i) le = ap (λ (us : List Binding). v ∷ us) (take-whole vs i (omega arith))

length-newest : (taken : List (List ℕ × VarSort)) (bs : List Binding) → length (newest_first taken bs) ≡ length taken + length bs
length-newest taken [] = omega arith
length-newest taken (b ∷ bs) = omega (arith, length-newest ((b.name.now, b.sort) ∷ taken) bs)

pub variables-begin : (old : Reader) (vs : List Binding) → Fits old → VariablesOn old vs 0 old.around old
variables-begin old vs fits = record {
  names = refl;
  within = fits;
  grows = Extends-refl old.table;
  at_place = omega arith;
  behind = ([], refl);
  logic = refl;
  signatures = refl;
}

-- what a variable's name stands for
entry_is : (ms old : List Meaning) (sigs : List (List VarSort)) (s : VarSort) (i place : ℕ) → at ms i ≡ meaning old (nodes.Binding place)
    → entry_at ms sigs (record { sort = s; node = i; signature = 0 }) ≡ plain (binding_at s place)
entry_is ms old sigs s i place is = ap with_tree is
  where
    with_tree : Meaning → Entry
    with_tree m = plain (record { sort = s; tree = m })

pub variables-step : (old mid new : Reader) (vs : List Binding) (i place node : ℕ) → VariablesOn old vs i place mid → i < length vs
    → at (meanings new.table) node ≡ meaning (meanings mid.table) (nodes.Binding place) → node < length new.table → Extends mid.table new.table
    → new.names ≡ ((get_or vs i no_binding).name.now, record { sort = (get_or vs i no_binding).sort; node = node; signature = 0 }) ∷ mid.names
    → new.logic ≡ mid.logic → new.signatures.items ≡ mid.signatures.items → VariablesOn old vs (i + 1) (place + 1) new
variables-step old mid new vs i place node on lt made within grown names_is logic_is signatures_is =
    let v : Binding = get_or vs i no_binding in
    let k : Known = record { sort = v.sort; node = node; signature = 0 } in
    let done : List (List ℕ × VarSort) = newest_first [] (take i vs) in
    let before : Names = entries_at (meanings old.table) old.signatures.items old.names in
    let count : length done ≡ i = omega (arith, length-newest [] (take i vs), length-taken vs i (omega arith)) in
    let more : newest_first [] (take (i + 1) vs) ≡ (v.name.now, v.sort) ∷ done =
    ap (λ (n : ℕ). newest_first [] (take n vs)) (suc-one i) ∙ ap (newest_first []) (take-next vs i lt) ∙ newest-push [] (take i vs) v in
    let there : place ≡ old.around + length done = omega (arith, on.at_place, count) in
    let entry : entry_at (meanings new.table) mid.signatures.items k ≡ plain (binding_at v.sort (old.around + length done)) =
    entry_is (meanings new.table) (meanings mid.table) mid.signatures.items v.sort node place made ∙ ap (λ (n : ℕ). plain (binding_at v.sort n)) there in
    let rest : entries_at (meanings new.table) mid.signatures.items mid.names ≡ binding_names old.around done before =
    entries-extend mid.table new.table mid.signatures.items mid.names grown on.within ∙ on.names in
    record {
      names = ap (λ (ss : List (List VarSort)). entries_at (meanings new.table) ss new.names) signatures_is
          ∙ ap (λ (ks : List (List ℕ × Known)). entries_at (meanings new.table) mid.signatures.items ks) names_is
          ∙ ap (λ (e : Entry). (v.name.now, e) ∷ entries_at (meanings new.table) mid.signatures.items mid.names) entry
          ∙ ap (λ (es : Names). (v.name.now, plain (binding_at v.sort (old.around + length done))) ∷ es) rest
          ∙ sym (ap (λ (us : List (List ℕ × VarSort)). binding_names old.around us before) more);
      within = subst (λ (ks : List (List ℕ × Known)). NamesIn (length new.table) ks) (sym names_is)
          (within, NamesIn-more (length mid.table) (length new.table) mid.names (Extends-length mid.table new.table grown) on.within);
      grows = Extends-then old.table mid.table new.table on.grows grown;
      at_place = omega (arith, on.at_place);
      behind = ((v.name.now, k) ∷ on.behind.0, names_is ∙ ap (λ (ks : List (List ℕ × Known)). (v.name.now, k) ∷ ks) on.behind.1);
      logic = logic_is ∙ on.logic;
      signatures = signatures_is ∙ on.signatures;
    }
  where
    suc-one : (n : ℕ) → n + 1 ≡ suc n
    suc-one n = omega arith

pub variables-open : (old mid new : Reader) (vs : List Binding) (i place : ℕ) → VariablesOn old vs i place mid → i ≡ length vs
    → new.table ≡ mid.table → new.names ≡ mid.names → new.logic ≡ mid.logic → new.signatures.items ≡ mid.signatures.items → new.around ≡ place
    → Opens (with_bindings (scope_seen old) (newest_first [] vs)) old new
variables-open old mid new vs i place on all table_is names_is logic_is signatures_is around_is =
    let whole : take i vs ≡ vs = take-whole vs i (omega (arith, all)) in
    let before : Names = entries_at (meanings old.table) old.signatures.items old.names in
    let names : entries_at (meanings new.table) new.signatures.items new.names ≡ binding_names old.around (newest_first [] vs) before =
    ap (λ (ns : List Node). entries_at (meanings ns) new.signatures.items new.names) table_is
    ∙ ap (λ (ss : List (List VarSort)). entries_at (meanings mid.table) ss new.names) signatures_is
    ∙ ap (λ (ks : List (List ℕ × Known)). entries_at (meanings mid.table) mid.signatures.items ks) names_is
    ∙ on.names ∙ ap (λ (us : List Binding). binding_names old.around (newest_first [] us) before) whole in
    let around : new.around ≡ old.around + length (newest_first [] vs) = omega (arith, around_is, on.at_place, all, length-newest [] vs) in
    record {
      scope = λ j. record { logic = (logic_is ∙ on.logic) j; names = names j; around = around j };
      fits = subst (λ (ns : List Node). NamesIn (length ns) new.names) (sym table_is) (subst (λ (ks : List (List ℕ × Known)). NamesIn (length mid.table) ks) (sym names_is) on.within);
      grows = subst (λ (ns : List Node). Extends old.table ns) (sym table_is) on.grows;
      behind = drop-behind on.behind.0 old.names new.names (names_is ∙ on.behind.1);
      logic = logic_is ∙ on.logic;
      signatures = signatures_is ∙ on.signatures;
    }

-- ---- the term of a binder

sorts-newest : (taken : List (List ℕ × VarSort)) (bs : List Binding) → sorts_in_order (newest_first taken bs) ≡ sorts_in_order taken ++ sorts_bound bs
sorts-newest taken [] = sym (append-nil (sorts_in_order taken))
sorts-newest taken (b ∷ bs) = sorts-newest ((b.name.now, b.sort) ∷ taken) bs ∙ append_assoc (sorts_in_order taken) (b.sort ∷ []) (sorts_bound bs)

bool_with : Meaning → Read Typed
bool_with m = Ok (record { sort = sort.Bool; tree = m })

pub quantified-is : (ms news : List Meaning) (around : ℕ) (q : Quantifier) (bs : List Binding) (sorts : List VarSort) (p : Place) (body : Seen) (node : ℕ)
    → same_sort body.sort sort.Bool ≡ true → sorts ≡ sorts_bound bs → at news node ≡ meaning ms (nodes.Binder q sorts around body.node)
    → quantified around q (sorts_in_order (newest_first [] bs)) p (typed_at ms body) ≡ Ok (typed_at news (record { sort = sort.Bool; node = node }))
unfolding bool_with
quantified-is ms news around q bs sorts p body node is sorts_are made =
    let all : sorts_in_order (newest_first [] bs) ≡ sorts = sorts-newest [] bs ∙ sym sorts_are in
    ap (λ (us : List VarSort). quantified around q us p (typed_at ms body)) all
    ∙ ap (λ (b : Bool). unless b kind.Sort p (bool_with (meaning ms (nodes.Binder q sorts around body.node)))) is
    ∙ ap bool_with (sym made)
