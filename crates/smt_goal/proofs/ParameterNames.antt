-- Names for the parameters of a definition.
use Rattle.std.proofs.Common.{◌≡◌, ℕ, zero, suc, ◌+◌, ◌-◌, ◌<◌, ◌≤◌, List, [], ◌∷◌, ◌++◌, length, map, take, drop, get_or, Result, Ok, Err, refl, sym, ap, subst, ◌∙◌, arith, length-append}
use Rattle.std.proofs.Math.Seq.{get_or-append_seam}
use Rattle.std.proofs.lemmas.List.{get_or_append_left}
use Rattle.ss_names.specs.declared.ScriptFault.{ScriptFault}
use Rattle.ss_names.specs.declared.ScriptFault.TheVariants.{Bad, Memory}
use Rattle.lin_truth.specs.declared.VarSort.{VarSort}
use Rattle.symbol_table.specs.declared.Known.{Known}
use Rattle.term_table.specs.declared.Node.{Node}
use Rattle.term_table.specs.Placed.{Typed, parameter}
use Rattle.term_table.specs.Meaning.{Meaning, at, meanings, Extends, AreBelow}
use Rattle.term_table.proofs.Growth.{Extends-length, Extends-then, Extends-same}
use Rattle.smt_term.specs.declared.Binding.{Binding}
use Rattle.smt_term.specs.declared.Reader.{Reader}
use Rattle.smt_term.specs.declared.Seen.{Seen}
use Rattle.smt_term.specs.Reading.{Read, Part}
use Rattle.smt_term.specs.Reads.{scope_seen, Keeps}
use Rattle.smt_term.specs.Terms.{term}
use Rattle.smt_term.specs.Scope.{Entry, Names, Scope, parameter_names, parameter_at, sorts_in_order, with_parameters, signature_at}
use Rattle.smt_term.specs.View.{typed_at, entries_at, NamesIn, GivesOne}
use Rattle.smt_term.specs.Newest.{newest_first}
use Rattle.smt_term.proofs.WalkLemmas.{NamesIn-more, entries-extend}
use Rattle.smt_goal.specs.declared.session.Session.{Session}
use Rattle.smt_goal.specs.Command.{State, scope_of, sort_or_rat, with_definition}
use Rattle.smt_goal.specs.Session.{formula_at, asked_at, state_seen, RootsIn, SignedIn, IsReady, Obeys, Remains, IsNamed, IsBound}
use Rattle.smt_goal.proofs.Growing.{SameRest, remains}

pub newest-push : (vs : List (List ℕ × VarSort)) (bs : List Binding) (b : Binding) → newest_first vs (bs ++ b ∷ []) ≡ (b.name.now, b.sort) ∷ newest_first vs bs
newest-push vs [] b = refl
newest-push vs (c ∷ bs) b = newest-push ((c.name.now, c.sort) ∷ vs) bs b

length-newest_from : (vs : List (List ℕ × VarSort)) (bs : List Binding) → length (newest_first vs bs) ≡ length vs + length bs
length-newest_from vs [] = omega arith
length-newest_from vs (b ∷ bs) = omega (arith, length-newest_from ((b.name.now, b.sort) ∷ vs) bs)

length-newest : (bs : List Binding) → length (newest_first [] bs) ≡ length bs
length-newest bs = omega (arith, length-newest_from [] bs)

sorts_from : (vs : List (List ℕ × VarSort)) (bs : List Binding) → sorts_in_order (newest_first vs bs) ≡ sorts_in_order vs ++ map (λ (b : Binding). b.sort) bs
sorts_from vs [] = sym (end (sorts_in_order vs))
  where
    end : (ss : List VarSort) → ss ++ [] ≡ ss
    end [] = refl
    end (s ∷ ss) = ap (λ r. s ∷ r) (end ss)
sorts_from vs (b ∷ bs) = sorts_from ((b.name.now, b.sort) ∷ vs) bs ∙ assoc (sorts_in_order vs) b.sort (map (λ (b : Binding). b.sort) bs)
  where
    assoc : (ss : List VarSort) (u : VarSort) (us : List VarSort) → (ss ++ u ∷ []) ++ us ≡ ss ++ u ∷ us
    assoc [] u us = refl
    assoc (s ∷ ss) u us = ap (λ r. s ∷ r) (assoc ss u us)

-- the sorts of the parameters in order
pub sorts-are : (bs : List Binding) → sorts_in_order (newest_first [] bs) ≡ map (λ (b : Binding). b.sort) bs
sorts-are bs = sorts_from [] bs

-- ---- one name more

take-push : (bs : List Binding) (i : ℕ) (b : Binding) → i < length bs → b ≡ get_or bs i b → take (i + 1) bs ≡ take i bs ++ b ∷ []
take-push [] i b lt is = absurd (omega arith)
take-push (c ∷ bs) zero b lt is = ap (λ x. x ∷ []) (sym is)
take-push (c ∷ bs) (suc i) b lt is =
    let e : suc i + 1 ≡ suc (i + 1) = omega arith in
    ap (λ n. take n (c ∷ bs)) e ∙ ap (λ r. c ∷ r) (take-push bs i b (omega arith) is)

length-prefix : (bs : List Binding) (i : ℕ) → i ≤ length bs → length (take i bs) ≡ i
length-prefix bs zero le = refl
length-prefix [] (suc i) le = absurd (omega arith)
length-prefix (b ∷ bs) (suc i) le = ap suc (length-prefix bs i (omega arith))

pub none_bound : (r : Reader) (bs : List Binding) → NamesIn (length r.table) r.names → IsBound r r (take 0 bs)
none_bound r bs within = record {
  names = refl;
  over = ([], refl, refl);
  within = within;
  grown = Extends-same r.table;
  signatures = refl;
  logic = refl;
  around = refl;
}

-- the next parameter has its name
pub one_bound : (old mid new : Reader) (bs : List Binding) (i : ℕ) (b : Binding) → IsBound old mid (take i bs) → i < length bs → b ≡ get_or bs i b → IsNamed mid new b i → IsBound old new (take (i + 1) bs)
one_bound old mid new bs i b bound lt b_is named =
    let sigs = old.signatures.items in
    let place = named.names.0 in
    let names = named.names.1 in
    let len : length (newest_first [] (take i bs)) ≡ i = length-newest (take i bs) ∙ length-prefix bs i (omega arith) in
    let tree : at (meanings new.table) place ≡ (parameter_at b.sort (length (newest_first [] (take i bs)))).tree = named.names.2 ∙ ap parameter (sym len) in
    let more : newest_first [] (take (i + 1) bs) ≡ (b.name.now, b.sort) ∷ newest_first [] (take i bs) =
    ap (newest_first []) (take-push bs i b lt b_is) ∙ newest-push [] (take i bs) b in
    let olds = entries_at (meanings old.table) sigs old.names in
    record {
      names = ap (entries_at (meanings new.table) sigs) names
          ∙ (λ k. (b.name.now, first (tree k)) ∷ entries-extend mid.table new.table sigs mid.names named.grown bound.within k)
          ∙ ap (λ (es : Names). (b.name.now, first (parameter_at b.sort (length (newest_first [] (take i bs)))).tree) ∷ es) bound.names
          ∙ ap (λ (vs : List (List ℕ × VarSort)). parameter_names vs olds) (sym more);
      over = (
        (b.name.now, record { sort = b.sort; node = place; signature = 0 }) ∷ bound.over.0,
        names ∙ ap (λ (ks : List (List ℕ × Known)). (b.name.now, record { sort = b.sort; node = place; signature = 0 }) ∷ ks) bound.over.1,
        (let e : length bound.over.0 ≡ i = bound.over.2 ∙ length-prefix bs i (omega arith) in
            let f : length (take (i + 1) bs) ≡ i + 1 = length-prefix bs (i + 1) (omega arith) in omega (arith, e, f)),
      );
      within = subst (NamesIn (length new.table)) (sym names) (named.names.3, NamesIn-more (length mid.table) (length new.table) mid.names (Extends-length mid.table new.table named.grown) bound.within);
      grown = Extends-then old.table mid.table new.table bound.grown named.grown;
      signatures = named.signatures ∙ bound.signatures;
      logic = named.logic ∙ bound.logic;
      around = named.around ∙ bound.around;
    }
  where
    first : Meaning → Entry
    first m = record { params = []; meaning = record { sort = b.sort; tree = m } }

pub same_at : (bs : List Binding) (i : ℕ) (d e : Binding) → i < length bs → get_or bs i d ≡ get_or bs i e
same_at [] i d e lt = absurd (omega arith)
same_at (b ∷ bs) zero d e lt = refl
same_at (b ∷ bs) (suc i) d e lt = same_at bs i d e (omega arith)

take-all : (bs : List Binding) (i : ℕ) → length bs ≤ i → take i bs ≡ bs
take-all [] zero le = refl
take-all [] (suc i) le = refl
take-all (b ∷ bs) zero le = absurd (omega arith)
take-all (b ∷ bs) (suc i) le = ap (λ r. b ∷ r) (take-all bs i (omega arith))

pub all_bound : (old new : Reader) (bs : List Binding) (i : ℕ) → IsBound old new (take i bs) → length bs ≤ i → IsBound old new bs
all_bound old new bs i bound le = subst (IsBound old new) (take-all bs i le) bound

-- ---- the body

drop-over : (ks ls : List (List ℕ × Known)) → drop (length ks) (ks ++ ls) ≡ ls
drop-over [] ls = refl
drop-over (k ∷ ks) ls = drop-over ks ls

-- the names that were there before are left
names_back : (old new : Reader) (bs : List Binding) → IsBound old new bs → drop (length new.names - length old.names) new.names ≡ old.names
names_back old new bs bound =
    let len : length new.names ≡ length bound.over.0 + length old.names = ap length bound.over.1 ∙ length-append bound.over.0 old.names in
    let count : length new.names - length old.names ≡ length bound.over.0 = omega (arith, len) in
    (λ k. drop (count k) (bound.over.1 k)) ∙ drop-over bound.over.0 old.names

-- the scope of a definition's body
scope-bound : (s : Session) (r : Reader) (bs : List Binding) → IsReady s → IsBound s.reader r bs → scope_seen r ≡ with_parameters (scope_of (state_seen s)) (newest_first [] bs)
scope-bound s r bs ready bound = λ k. record {
  logic = (bound.logic ∙ ready.logic) k;
  names = (ap (λ (ss : List (List VarSort)). entries_at (meanings r.table) ss r.names) bound.signatures ∙ bound.names) k;
  around = (bound.around ∙ ready.around) k;
}

grown_from : (old mid new : List Node) (read : Read Typed) (r : Result Seen ScriptFault) → Extends old mid → GivesOne mid read r new → GivesOne old read r new
grown_from old mid new read (Ok x) grown given = (given.0, given.1, Extends-then old mid new grown given.2)
grown_from old mid new read (Err (Bad k line column)) grown given = given
grown_from old mid new read (Err Memory) grown given = tt

pub body_given : (s : Session) (r : Reader) (bs : List Binding) (p : Part) (x : Result Seen ScriptFault) (new : List Node) → IsReady s → IsBound s.reader r bs
    → GivesOne r.table (term (scope_seen r) p) x new → GivesOne s.reader.table (term (with_parameters (scope_of (state_seen s)) (newest_first [] bs)) p) x new
body_given s r bs p x new ready bound given =
    let there = with_parameters (scope_of (state_seen s)) (newest_first [] bs) in
    grown_from s.reader.table r.table new (term there p) x bound.grown (subst (λ (scope : Scope). GivesOne r.table (term scope p) x new) (scope-bound s r bs ready bound) given)

-- after the body the session is as it was, over a table that grew
pub body_keeps : (s : Session) (r last : Reader) (bs : List Binding) (names : List (List ℕ × Known)) (new : Session) → IsReady s → IsBound s.reader r bs → Keeps r last → Extends r.table last.table
    → names ≡ drop (length last.names - length s.reader.names) last.names → new.reader.names ≡ names → new.reader.table ≡ last.table → new.reader.signatures.items ≡ last.signatures.items
    → new.reader.logic ≡ last.logic → new.reader.around ≡ last.around → SameRest s new → Remains s new
body_keeps s r last bs names new ready bound keeps grown names_is new_names table signatures logic around rest =
    remains s new ready rest (record {
      names = new_names ∙ names_is ∙ ap (λ (ks : List (List ℕ × Known)). drop (length ks - length s.reader.names) ks) keeps.names ∙ names_back s.reader r bs bound;
      logic = logic ∙ keeps.logic ∙ bound.logic;
      signatures = signatures ∙ keeps.signatures ∙ bound.signatures;
      around = around ∙ keeps.around ∙ bound.around;
    })
    (subst (Extends s.reader.table) (sym table) (Extends-then s.reader.table r.table last.table bound.grown grown))

-- ---- a definition

SignedIn-more : (m n : ℕ) (ks : List (List ℕ × Known)) → m ≤ n → SignedIn m ks → SignedIn n ks
SignedIn-more m n [] le within = tt
SignedIn-more m n (k ∷ ks) le within = (omega (arith, within.0), SignedIn-more m n ks le within.1)

signature-kept : (sigs : List (List VarSort)) (new : List VarSort) (i : ℕ) → i ≤ length sigs → signature_at (sigs ++ new ∷ []) i ≡ signature_at sigs i
signature-kept sigs new zero le = refl
signature-kept sigs new (suc i) le = get_or_append_left sigs (new ∷ []) [] i (omega arith)

entries-signed : (ms : List Meaning) (sigs : List (List VarSort)) (new : List VarSort) (ks : List (List ℕ × Known)) → SignedIn (length sigs) ks
    → entries_at ms (sigs ++ new ∷ []) ks ≡ entries_at ms sigs ks
entries-signed ms sigs new [] within = refl
entries-signed ms sigs new (k ∷ ks) within =
    λ j. (k.0, record { params = signature-kept sigs new k.1.signature within.0 j; meaning = typed_at ms (record { sort = k.1.sort; node = k.1.node }) }) ∷ entries-signed ms sigs new ks within.1 j

pub defined : (old new : Session) (name : List ℕ) (bs : List Binding) (x : Seen) (sorts : List VarSort) (at : ℕ) → IsReady old → x.node < length old.reader.table
    → at ≡ length old.reader.signatures.items → sorts ≡ map (λ (b : Binding). b.sort) bs
    → new.reader.names ≡ (name, record { sort = x.sort; node = x.node; signature = at + 1 }) ∷ old.reader.names
    → new.reader.signatures.items ≡ old.reader.signatures.items ++ sorts ∷ [] → new.reader.table ≡ old.reader.table → new.reader.logic ≡ old.reader.logic → new.reader.around ≡ old.reader.around
    → SameRest old new → Obeys (Ok (with_definition (state_seen old) name (sorts_in_order (newest_first [] bs)) (typed_at (meanings old.reader.table) x))) (Ok tt) new
defined old new name bs x sorts at ready lt at_is sorts_is names signatures table logic around rest =
    let sigs = old.reader.signatures.items in
    let ms = meanings old.reader.table in
    let last : signature_at (sigs ++ sorts ∷ []) (at + 1) ≡ sorts_in_order (newest_first [] bs) =
    ap (signature_at (sigs ++ sorts ∷ [])) (let e : at + 1 ≡ suc (length sigs) = omega (arith, at_is) in e) ∙ get_or-append_seam sigs sorts [] [] ∙ sorts_is ∙ sym (sorts-are bs) in
    let state : state_seen new ≡ with_definition (state_seen old) name (sorts_in_order (newest_first [] bs)) (typed_at ms x) = λ k. record {
      logic = rest.logic k;
      names = ((λ j. entries_at (meanings (table j)) (signatures j) (names j))
          ∙ (λ j. (name, record { params = last j; meaning = typed_at ms x }) ∷ entries-signed ms sigs sorts old.reader.names ready.signed j)) k;
      consts = rest.consts k;
      asserted = map (formula_at (meanings (table k))) (rest.asserted k);
      goals = map (asked_at (meanings (table k))) (rest.goals k);
      ended = rest.ended k;
    } in
    let more : length new.reader.signatures.items ≡ length sigs + 1 = ap length signatures ∙ length-append sigs (sorts ∷ []) in (
      sym (λ k. done (state k)),
      record {
        names = subst (λ (ks : List (List ℕ × Known)). NamesIn (length new.reader.table) ks) (sym names)
            (subst (λ (t : List Node). NamesIn (length t) ((name, record { sort = x.sort; node = x.node; signature = at + 1 }) ∷ old.reader.names)) (sym table) (lt, ready.names));
        signed = subst (SignedIn (length new.reader.signatures.items)) (sym names) (omega (arith, more, at_is), SignedIn-more (length sigs) (length new.reader.signatures.items) old.reader.names (omega (arith, more)) ready.signed);
        asserted = subst (AreBelow (length new.reader.table)) (sym rest.asserted) (subst (λ (t : List Node). AreBelow (length t) old.asserted.items) (sym table) ready.asserted);
        roots = subst (RootsIn (length new.reader.table)) (sym rest.goals) (subst (λ (t : List Node). RootsIn (length t) old.goals.items) (sym table) ready.roots);
        logic = logic ∙ ready.logic ∙ ap sort_or_rat (sym rest.logic);
        around = around ∙ ready.around;
      },
    )
  where
    done : State → Read State
    done st = Ok st
