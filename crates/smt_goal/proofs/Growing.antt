-- What a session has read, as its table grows.
use Rattle.std.proofs.Common.{◌≡◌, ℕ, ◌<◌, ◌≤◌, eqb, false, not, ◌&&◌, List, [], ◌∷◌, ◌++◌, length, map, is_some, Option, Some, None, Result, Ok, refl, sym, ap, subst, ◌∙◌, arith}
use Rattle.std.proofs.lemmas.Bool.{ne_eqb}
use Rattle.lin_truth.specs.declared.VarSort.{VarSort}
use Rattle.lin_truth.specs.Term.{Term, variable, and_of}
use Rattle.lin_truth.specs.View.{terms_of}
use Rattle.symbol_table.specs.declared.Known.{Known}
use Rattle.symbol_table.specs.Names.{looked_up}
use Rattle.term_table.specs.declared.Node.{Node}
use Rattle.term_table.specs.declared.Leaf.TheVariants as leaves
use Rattle.term_table.specs.declared.Variadic.TheVariants as variadic
use Rattle.term_table.specs.declared.Node.TheVariants as node
use Rattle.term_table.specs.Placed.{Frame, Typed, top}
use Rattle.term_table.specs.Meaning.{Meaning, at, meaning, meanings, Extends, AreBelow}
use Rattle.term_table.proofs.Growth.{at-extends, Extends-length}
use Rattle.smt_tree.specs.declared.Expr.{Expr}
use Rattle.smt_tree.specs.Sexp.{Sexps, ◌and◌}
use Rattle.smt_tree.specs.Seen.{all_seen}
use Rattle.ss_names.specs.declared.FaultKind.TheVariants as kind
use Rattle.lin_term.specs.declared.Sort.{Sort}
use Rattle.smt_term.specs.Reading.{Read, ◌>>=◌, unless, place_of, Part, token, group}
use Rattle.smt_term.specs.Word.{is_free, symbol_of, new_name}
use Rattle.smt_term.specs.Terms.{is_empty, term}
use Rattle.smt_term.specs.Reads.{scope_seen, Keeps}
use Rattle.smt_term.specs.declared.Seen.{Seen}
use Rattle.smt_term.specs.declared.Reader.{Reader}
use Rattle.smt_term.specs.Apply.{trees}
use Rattle.smt_lex.specs.Place.{place}
use Rattle.ss_names.specs.declared.ScriptFault.{ScriptFault}
use Rattle.smt_term.specs.Scope.{Entry, Scope, has_name, constant_at}
use Rattle.smt_term.specs.View.{part, entries_at, NamesIn, GivesOne}
use Rattle.smt_term.proofs.ReaderLemmas.{found-none, found-some}
use Rattle.smt_term.proofs.PartLemmas.{whole, seen-shape}
use Rattle.smt_term.proofs.WalkLemmas.{NamesIn-more, entries-extend}
use Rattle.smt_goal.specs.declared.session.Question.{Question}
use Rattle.smt_goal.specs.declared.session.Session.{Session}
use Rattle.smt_goal.specs.Command.{Asked, State, with_constant, sort_or_rat, scope_of, root, asked, check_sat}
use Rattle.smt_goal.specs.Session.{asked_at, formula_at, state_seen, RootsIn, SignedIn, IsReady, Obeys, Remains, with_assertion}

-- ---- names that are taken

taken-same : (ms : List Meaning) (sigs : List (List VarSort)) (ks : List (List ℕ × Known)) (name : List ℕ) (found : Option Known) → looked_up ks name ≡ found
    → has_name (entries_at ms sigs ks) name ≡ has_name ks name
taken-same ms sigs ks name None is = ap (λ (e : Option Entry). is_some e) (found-none ms sigs ks name is) ∙ sym (ap (λ (k : Option Known). is_some k) is)
taken-same ms sigs ks name (Some known) is = ap (λ (e : Option Entry). is_some e) (found-some ms sigs ks name known is) ∙ sym (ap (λ (k : Option Known). is_some k) is)

-- the names of the code are taken where those of the definition are
pub new_name-seen : (logic : Sort) (ms : List Meaning) (sigs : List (List VarSort)) (ks : List (List ℕ × Known)) (x : Part) → new_name logic (entries_at ms sigs ks) x ≡ new_name logic ks x
new_name-seen logic ms sigs ks x =
    λ i. symbol_of x >>= λ t. unless (is_free logic t && not (taken-same ms sigs ks t.text (looked_up ks t.text) refl i)) kind.Symbol (place_of t) (Ok t.text)

-- ---- a table that grew

pub AreBelow-more : (m n : ℕ) (is : List ℕ) → m ≤ n → AreBelow m is → AreBelow n is
AreBelow-more m n [] le below = tt
AreBelow-more m n (i ∷ is) le below = (omega (arith, below.0), AreBelow-more m n is le below.1)

pub RootsIn-more : (m n : ℕ) (qs : List Question) → m ≤ n → RootsIn m qs → RootsIn n qs
RootsIn-more m n [] le within = tt
RootsIn-more m n (q ∷ qs) le within = (omega (arith, within.0), RootsIn-more m n qs le within.1)

formula-extends : (old new : List Node) (i : ℕ) → Extends old new → i < length old → formula_at (meanings new) i ≡ formula_at (meanings old) i
formula-extends old new i grown lt = ap with_tree (at-extends old new i grown lt)
  where
    with_tree : Meaning → Typed
    with_tree m = record { sort = (formula_at [] 0).sort; tree = m }

pub formulas-extend : (old new : List Node) (is : List ℕ) → Extends old new → AreBelow (length old) is → map (formula_at (meanings new)) is ≡ map (formula_at (meanings old)) is
formulas-extend old new [] grown below = refl
formulas-extend old new (i ∷ is) grown below = λ k. formula-extends old new i grown below.0 k ∷ formulas-extend old new is grown below.1 k

asked-extends : (old new : List Node) (q : Question) → Extends old new → q.root < length old → asked_at (meanings new) q ≡ asked_at (meanings old) q
asked-extends old new q grown lt = ap with_tree (at-extends old new q.root grown lt)
  where
    with_tree : Meaning → Asked
    with_tree m = record { sort = q.sort; line = q.line; column = q.column; consts = q.consts; body = m top (length q.consts) }

pub all_asked-extend : (old new : List Node) (qs : List Question) → Extends old new → RootsIn (length old) qs → map (asked_at (meanings new)) qs ≡ map (asked_at (meanings old)) qs
all_asked-extend old new [] grown within = refl
all_asked-extend old new (q ∷ qs) grown within = λ k. asked-extends old new q grown within.0 k ∷ all_asked-extend old new qs grown within.1 k

-- ---- a new constant

-- all but the table, the names and the constants is as it was
pub record Rest (old new : Session) : Type 0 where
  pub logic : new.logic ≡ old.logic
  pub asserted : new.asserted.items ≡ old.asserted.items
  pub goals : new.goals.items ≡ old.goals.items
  pub ended : new.ended ≡ old.ended
  pub read_in : new.reader.logic ≡ old.reader.logic
  pub around : new.reader.around ≡ old.reader.around

pub record Declares (old new : Session) (name : List ℕ) (sort : VarSort) (i place : ℕ) : Type 0 where
  pub rest : Rest old new
  pub signatures : new.reader.signatures.items ≡ old.reader.signatures.items
  pub names : new.reader.names ≡ (name, record { sort = sort; node = i; signature = 0 }) ∷ old.reader.names
  pub consts : new.consts.items ≡ old.consts.items ++ sort ∷ []
  pub is : at (meanings new.reader.table) i ≡ meaning (meanings old.reader.table) (node.Leaf (leaves.Constant place))
  pub below : i < length new.reader.table
  pub place_is : place ≡ length old.consts.items
  pub grown : Extends old.reader.table new.reader.table

constant-is : (old new : Session) (name : List ℕ) (sort : VarSort) (i place : ℕ) → Declares old new name sort i place → at (meanings new.reader.table) i ≡ (constant_at sort (length old.consts.items)).tree
constant-is old new name sort i place is = is.is ∙ (λ k frame n. variable (is.place_is k))

names-declared : (old new : Session) (name : List ℕ) (sort : VarSort) (i place : ℕ) → IsReady old → Declares old new name sort i place
    → entries_at (meanings new.reader.table) new.reader.signatures.items new.reader.names ≡ (with_constant (state_seen old) name sort).names
names-declared old new name sort i place ready is =
    let tree = constant-is old new name sort i place is in
    ap (λ (ss : List (List VarSort)). entries_at (meanings new.reader.table) ss new.reader.names) is.signatures
    ∙ ap (λ (ks : List (List ℕ × Known)). entries_at (meanings new.reader.table) old.reader.signatures.items ks) is.names
    ∙ (λ k. (name, first (tree k)) ∷ entries-extend old.reader.table new.reader.table old.reader.signatures.items old.reader.names is.grown ready.names k)
  where
    first : Meaning → Entry
    first m = record { params = []; meaning = record { sort = sort; tree = m } }

state-declared : (old new : Session) (name : List ℕ) (sort : VarSort) (i place : ℕ) → IsReady old → Declares old new name sort i place → with_constant (state_seen old) name sort ≡ state_seen new
state-declared old new name sort i place ready is = sym (λ k. record {
  logic = is.rest.logic k;
  names = names-declared old new name sort i place ready is k;
  consts = is.consts k;
  asserted = (ap (λ (es : List ℕ). map (formula_at (meanings new.reader.table)) es) is.rest.asserted
      ∙ formulas-extend old.reader.table new.reader.table old.asserted.items is.grown ready.asserted) k;
  goals = (ap (λ (qs : List Question). map (asked_at (meanings new.reader.table)) qs) is.rest.goals
      ∙ all_asked-extend old.reader.table new.reader.table old.goals.items is.grown ready.roots) k;
  ended = is.rest.ended k;
})

ready-declared : (old new : Session) (name : List ℕ) (sort : VarSort) (i place : ℕ) → IsReady old → Declares old new name sort i place → IsReady new
ready-declared old new name sort i place ready is =
    let le = Extends-length old.reader.table new.reader.table is.grown in
    record {
      names = subst (NamesIn (length new.reader.table)) (sym is.names) (is.below, NamesIn-more (length old.reader.table) (length new.reader.table) old.reader.names le ready.names);
      signed =
          subst (SignedIn (length new.reader.signatures.items)) (sym is.names)
          (omega arith, subst (λ (ss : List (List VarSort)). SignedIn (length ss) old.reader.names) (sym is.signatures) ready.signed);
      asserted = subst (AreBelow (length new.reader.table)) (sym is.rest.asserted) (AreBelow-more (length old.reader.table) (length new.reader.table) old.asserted.items le ready.asserted);
      roots = subst (RootsIn (length new.reader.table)) (sym is.rest.goals) (RootsIn-more (length old.reader.table) (length new.reader.table) old.goals.items le ready.roots);
      logic = is.rest.read_in ∙ ready.logic ∙ ap sort_or_rat (sym is.rest.logic);
      around = is.rest.around ∙ ready.around;
    }

-- a constant was declared
done : State → Read State
done st = Ok st

pub declared : (old new : Session) (name : List ℕ) (sort : VarSort) (i place : ℕ) → IsReady old → Declares old new name sort i place
    → Obeys (Ok (with_constant (state_seen old) name sort)) (Ok tt) new
unfolding done
declared old new name sort i place ready is = (ap done (state-declared old new name sort i place ready is), ready-declared old new name sort i place ready is)

-- ---- lists of items

pub no_items : (es : List Expr) → eqb (length es) 0 ≡ is_empty (all_seen es)
no_items [] = refl
no_items (e ∷ es) = ne_eqb (length (e ∷ es)) 0 (λ is. absurd (omega (arith, is))) ∙ sym (ap (λ (x : Sexps). is_empty (x and all_seen es)) (seen-shape e) ∙ by (part e))
  where
    by : (p : Part) → is_empty (whole p and all_seen es) ≡ false
    by (token t) = refl
    by (group p inner) = refl

-- ---- a term was read

-- the scope of a session's terms
pub scope-is : (s : Session) → IsReady s → scope_seen s.reader ≡ scope_of (state_seen s)
scope-is s ready = λ k. record {
  logic = ready.logic k;
  names = entries_at (meanings s.reader.table) s.reader.signatures.items s.reader.names;
  around = ready.around k;
}

-- all but the reader is as it was
pub record SameRest (old new : Session) : Type 0 where
  pub logic : new.logic ≡ old.logic
  pub consts : new.consts.items ≡ old.consts.items
  pub asserted : new.asserted.items ≡ old.asserted.items
  pub goals : new.goals.items ≡ old.goals.items
  pub ended : new.ended ≡ old.ended

pub remains : (old new : Session) → IsReady old → SameRest old new → Keeps old.reader new.reader → Extends old.reader.table new.reader.table → Remains old new
remains old new ready rest keeps grown =
    let le = Extends-length old.reader.table new.reader.table grown in
    record {
      state = λ k. record {
        logic = rest.logic k;
        names = (ap (λ (ss : List (List VarSort)). entries_at (meanings new.reader.table) ss new.reader.names) keeps.signatures
            ∙ ap (λ (ks : List (List ℕ × Known)). entries_at (meanings new.reader.table) old.reader.signatures.items ks) keeps.names
            ∙ entries-extend old.reader.table new.reader.table old.reader.signatures.items old.reader.names grown ready.names) k;
        consts = rest.consts k;
        asserted = (ap (λ (es : List ℕ). map (formula_at (meanings new.reader.table)) es) rest.asserted
            ∙ formulas-extend old.reader.table new.reader.table old.asserted.items grown ready.asserted) k;
        goals = (ap (λ (qs : List Question). map (asked_at (meanings new.reader.table)) qs) rest.goals
            ∙ all_asked-extend old.reader.table new.reader.table old.goals.items grown ready.roots) k;
        ended = rest.ended k;
      };
      ready = record {
        names = subst (NamesIn (length new.reader.table)) (sym keeps.names) (NamesIn-more (length old.reader.table) (length new.reader.table) old.reader.names le ready.names);
        signed = subst (SignedIn (length new.reader.signatures.items)) (sym keeps.names)
            (subst (λ (ss : List (List VarSort)). SignedIn (length ss) old.reader.names) (sym keeps.signatures) ready.signed);
        asserted = subst (AreBelow (length new.reader.table)) (sym rest.asserted) (AreBelow-more (length old.reader.table) (length new.reader.table) old.asserted.items le ready.asserted);
        roots = subst (RootsIn (length new.reader.table)) (sym rest.goals) (RootsIn-more (length old.reader.table) (length new.reader.table) old.goals.items le ready.roots);
        logic = keeps.logic ∙ ready.logic ∙ ap sort_or_rat (sym rest.logic);
        around = keeps.around ∙ ready.around;
      };
    }

-- a term in the scope of a session
pub given_there : (s : Session) (p : Part) (r : Result Seen ScriptFault) (new : List Node) → IsReady s → GivesOne s.reader.table (term (scope_seen s.reader) p) r new
    → GivesOne s.reader.table (term (scope_of (state_seen s)) p) r new
given_there s p r new ready given = subst (λ (scope : Scope). GivesOne s.reader.table (term scope p) r new) (scope-is s ready) given

-- ---- an assertion

AreBelow-push : (n : ℕ) (is : List ℕ) (i : ℕ) → AreBelow n is → i < n → AreBelow n (is ++ i ∷ [])
AreBelow-push n [] i below lt = (lt, tt)
AreBelow-push n (j ∷ is) i below lt = (below.0, AreBelow-push n is i below.1 lt)

pub map-push : {A B : Type 0} (f : A → B) (xs : List A) (x : A) → map f (xs ++ x ∷ []) ≡ map f xs ++ f x ∷ []
map-push f [] x = refl
map-push f (y ∷ xs) x = ap (λ zs. f y ∷ zs) (map-push f xs x)

-- all but the assertions is as it was
pub record SameBut (old new : Session) : Type 0 where
  pub reader : new.reader ≡ old.reader
  pub logic : new.logic ≡ old.logic
  pub consts : new.consts.items ≡ old.consts.items
  pub goals : new.goals.items ≡ old.goals.items
  pub ended : new.ended ≡ old.ended

-- a formula was asserted
pub asserted_one : (old new : Session) (i : ℕ) → IsReady old → i < length old.reader.table → SameBut old new → new.asserted.items ≡ old.asserted.items ++ i ∷ []
    → Obeys (Ok (with_assertion (state_seen old) (formula_at (meanings old.reader.table) i))) (Ok tt) new
unfolding done
asserted_one old new i ready lt same is =
    let ms = meanings old.reader.table in
    let state : state_seen new ≡ with_assertion (state_seen old) (formula_at ms i) = λ k. record {
      logic = same.logic k;
      names = entries_at (meanings (same.reader k).table) (same.reader k).signatures.items (same.reader k).names;
      consts = same.consts k;
      asserted = (ap (λ (es : List ℕ). map (formula_at (meanings new.reader.table)) es) is
          ∙ (λ j. map (formula_at (meanings (same.reader j).table)) (old.asserted.items ++ i ∷ [])) ∙ map-push (formula_at ms) old.asserted.items i) k;
      goals = map (asked_at (meanings (same.reader k).table)) (same.goals k);
      ended = same.ended k;
    } in (
      ap done (sym state),
      record {
        names = subst (λ (r : Reader). NamesIn (length r.table) r.names) (sym same.reader) ready.names;
        signed = subst (λ (r : Reader). SignedIn (length r.signatures.items) r.names) (sym same.reader) ready.signed;
        asserted = subst (AreBelow (length new.reader.table)) (sym is)
            (subst (λ (r : Reader). AreBelow (length r.table) (old.asserted.items ++ i ∷ [])) (sym same.reader) (AreBelow-push (length old.reader.table) old.asserted.items i ready.asserted lt));
        roots = subst (RootsIn (length new.reader.table)) (sym same.goals) (subst (λ (r : Reader). RootsIn (length r.table) old.goals.items) (sym same.reader) ready.roots);
        logic = ap (λ (r : Reader). r.logic) same.reader ∙ ready.logic ∙ ap sort_or_rat (sym same.logic);
        around = ap (λ (r : Reader). r.around) same.reader ∙ ready.around;
      },
    )

-- ---- a goal

RootsIn-push : (n : ℕ) (qs : List Question) (q : Question) → RootsIn n qs → q.root < n → RootsIn n (qs ++ q ∷ [])
RootsIn-push n [] q within lt = (lt, tt)
RootsIn-push n (r ∷ qs) q within lt = (within.0, RootsIn-push n qs q within.1 lt)

-- all but the table and the goals is as it was
pub record SameBehind (old new : Session) : Type 0 where
  pub names : new.reader.names ≡ old.reader.names
  pub signatures : new.reader.signatures.items ≡ old.reader.signatures.items
  pub read_in : new.reader.logic ≡ old.reader.logic
  pub around : new.reader.around ≡ old.reader.around
  pub logic : new.logic ≡ old.logic
  pub consts : new.consts.items ≡ old.consts.items
  pub asserted : new.asserted.items ≡ old.asserted.items
  pub ended : new.ended ≡ old.ended

trees-map : (ms : List Meaning) (is : List ℕ) (frame : Frame) (n : ℕ) → map (λ i. at ms i frame n) is ≡ trees (map (formula_at ms) is) frame n
trees-map ms [] frame n = refl
trees-map ms (i ∷ is) frame n = λ k. at ms i frame n ∷ trees-map ms is frame n k

-- the conjunction of the assertions
root-is : (s : Session) (new : List Node) (i : ℕ) (parts : List ℕ) → parts ≡ s.asserted.items → at (meanings new) i ≡ meaning (meanings s.reader.table) (node.Several variadic.And parts)
    → at (meanings new) i top (length s.consts.items) ≡ root (length s.consts.items) (state_seen s).asserted
root-is s new i parts same is =
    let ms = meanings s.reader.table in
    (λ k. is k top (length s.consts.items))
    ∙ ap (λ (es : List ℕ). and_of (terms_of (map (λ i. at ms i top (length s.consts.items)) es))) same
    ∙ ap (λ (ts : List Term). and_of (terms_of ts)) (trees-map ms s.asserted.items top (length s.consts.items))

pub asked_one : (old new : Session) (q : Question) (parts : List ℕ) → IsReady old → SameBehind old new → Extends old.reader.table new.reader.table
    → new.goals.items ≡ old.goals.items ++ q ∷ [] → parts ≡ old.asserted.items
    → at (meanings new.reader.table) q.root ≡ meaning (meanings old.reader.table) (node.Several variadic.And parts) → q.root < length new.reader.table
    → q.sort ≡ old.reader.logic → q.consts ≡ old.consts.items → Obeys (check_sat (state_seen old) (place q.line q.column) []) (Ok tt) new
unfolding done
asked_one old new q parts ready same grown goals parts_is is lt sort consts =
    let ns = meanings new.reader.table in
    let le = Extends-length old.reader.table new.reader.table grown in
    let body : at ns q.root top (length q.consts) ≡ root (length old.consts.items) (state_seen old).asserted =
    ap (λ (vs : List VarSort). at ns q.root top (length vs)) consts ∙ root-is old new.reader.table q.root parts parts_is is in
    let last : asked_at ns q ≡ asked (state_seen old) (place q.line q.column) =
    λ k. record { sort = (sort ∙ ready.logic) k; line = q.line; column = q.column; consts = consts k; body = body k } in
    let state : state_seen new ≡ record (state_seen old) { goals = (state_seen old).goals ++ asked (state_seen old) (place q.line q.column) ∷ [] } = λ k. record {
      logic = same.logic k;
      names = (ap (λ (ss : List (List VarSort)). entries_at ns ss new.reader.names) same.signatures
          ∙ ap (λ (ks : List (List ℕ × Known)). entries_at ns old.reader.signatures.items ks) same.names
          ∙ entries-extend old.reader.table new.reader.table old.reader.signatures.items old.reader.names grown ready.names) k;
      consts = same.consts k;
      asserted = (ap (λ (es : List ℕ). map (formula_at ns) es) same.asserted
          ∙ formulas-extend old.reader.table new.reader.table old.asserted.items grown ready.asserted) k;
      goals = (ap (λ (qs : List Question). map (asked_at ns) qs) goals ∙ map-push (asked_at ns) old.goals.items q
          ∙ (λ j. all_asked-extend old.reader.table new.reader.table old.goals.items grown ready.roots j ++ last j ∷ [])) k;
      ended = same.ended k;
    } in (
      ap done (sym state),
      record {
        names = subst (NamesIn (length new.reader.table)) (sym same.names) (NamesIn-more (length old.reader.table) (length new.reader.table) old.reader.names le ready.names);
        signed = subst (SignedIn (length new.reader.signatures.items)) (sym same.names)
            (subst (λ (ss : List (List VarSort)). SignedIn (length ss) old.reader.names) (sym same.signatures) ready.signed);
        asserted = subst (AreBelow (length new.reader.table)) (sym same.asserted) (AreBelow-more (length old.reader.table) (length new.reader.table) old.asserted.items le ready.asserted);
        roots = subst (RootsIn (length new.reader.table)) (sym goals)
            (RootsIn-push (length new.reader.table) old.goals.items q (RootsIn-more (length old.reader.table) (length new.reader.table) old.goals.items le ready.roots) lt);
        logic = same.read_in ∙ ready.logic ∙ ap sort_or_rat (sym same.logic);
        around = same.around ∙ ready.around;
      },
    )
