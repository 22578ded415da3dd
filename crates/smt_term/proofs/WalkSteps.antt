-- The walk over an expression: what each of its functions gives, from what its calls gave.
use Rattle.std.proofs.Common.{◌≡◌, ℕ, ◌+◌, ◌<◌, ◌≤◌, Bool, true, false, not, eqb, List, [], ◌∷◌, ◌++◌, length, drop, get_or, Result, Ok, Err, refl, sym, ap, subst, ◌∙◌, arith}
use Rattle.std.proofs.lemmas.Bool.{eqb-true}
use Rattle.std.proofs.Math.ListN.{drop_of_length-le}
use Rattle.std.specs.Global.{Vec}
use Rattle.ss_names.specs.declared.FaultKind.TheVariants as kind
use Rattle.ss_names.specs.declared.ScriptFault.{ScriptFault}
use Rattle.smt_lex.specs.Lexeme.{Lexeme}
use Rattle.smt_lex.specs.Place.{Place}
use Rattle.smt_tree.specs.declared.Expr.{Expr}
use Rattle.smt_tree.specs.Sexp.{Sexps, ◌and◌}
use Rattle.smt_tree.specs.Seen.{seen, all_seen}
use Rattle.lin_truth.specs.declared.VarSort.{VarSort}
use Rattle.symbol_table.specs.declared.Known.{Known}
use Rattle.term_table.specs.declared.Node.{Node}
use Rattle.term_table.specs.declared.Quantifier.{Quantifier}
use Rattle.term_table.specs.Placed.{Typed}
use Rattle.term_table.specs.Meaning.{Meaning, meanings, Extends}
use Rattle.term_table.proofs.Growth.{at-extends, Extends-length}
use Rattle.smt_term.specs.declared.seen.Seen.{Seen}
use Rattle.smt_term.specs.declared.operator.Operator.{Operator}
use Rattle.smt_term.specs.declared.reader.Reader.{Reader}
use Rattle.smt_term.specs.declared.reader.Head.{Head as Shown}
use Rattle.smt_term.specs.declared.reader.Head.TheVariants as shown
use Rattle.smt_term.specs.Reading.{Read, ◌>>=◌, refuse, unless, Part, token, group}
use Rattle.smt_term.specs.Scope.{Scope}
use Rattle.smt_term.specs.Apply.{operated, use_of, divided}
use Rattle.smt_term.specs.Terms.{terms, inside, term, atom, only, is_empty, head_of, index_head}
use Rattle.smt_term.specs.Walked.{behind_head, let_term, binder_term, annotated_term, one_term}
use Rattle.smt_term.specs.View.{part, typed_at, all_at, entry_at, AreIn, GivesOne, GivesAll}
use Rattle.smt_term.specs.Reads.{scope_seen, head_seen, Fits, Keeps, HeadIn}
use Rattle.smt_term.specs.Newest.{size}
use Rattle.smt_term.proofs.ApplyLemmas.{gives_then, gives_as}
use Rattle.smt_term.proofs.PartLemmas.{whole, seen-shape}
use Rattle.smt_term.proofs.PairLemmas.{drop-next, size-at}
use Rattle.smt_term.proofs.WalkLemmas.{terms-cons, terms-none, scope-keeps, entry-extends}
use Rattle.smt_term.proofs.Faults.{fails-first, fails-as, fails-one, fails-all, one-fails, all-fails}

pub keeps_then : (old mid new : Reader) → Keeps old mid → Keeps mid new → Keeps old new
keeps_then old mid new a b = record {
  names = b.names ∙ a.names;
  logic = b.logic ∙ a.logic;
  signatures = b.signatures ∙ a.signatures;
  around = b.around ∙ a.around;
}

-- ---- one expression

pub term-token : (s : Scope) (x : Part) (t : Lexeme) → token t ≡ x → atom s t ≡ term s x
unfolding term
term-token s x t is = ap (term s) is

pub term-group : (s : Scope) (x : Part) (p : Place) (xs : Sexps) → group p xs ≡ x → inside s p xs ≡ term s x
unfolding term inside
term-group s x p xs is = ap (term s) is

-- ---- what stands in parentheses

pub inside-none : (s : Scope) (p : Place) (es : List Expr) → length es ≡ 0 → inside s p (all_seen es) ≡ refuse kind.Sort p
unfolding inside
inside-none s p [] empty = refl
inside-none s p (e ∷ es) empty = absurd (omega (arith, empty))

first-shape : (es : List Expr) (x : Expr) (rest : List Expr) (y : Part) → es ≡ x ∷ rest → y ≡ part x → all_seen es ≡ (whole y and all_seen rest)
first-shape es x rest y is part_is = ap all_seen is ∙ ap (λ (u : Sexps). u and all_seen rest) (seen-shape x ∙ ap whole (sym part_is))

pub inside-token : (s : Scope) (p : Place) (es : List Expr) (x : Expr) (rest : List Expr) (t : Lexeme) → es ≡ x ∷ rest → token t ≡ part x
    → inside s p (all_seen es) ≡ (head_of s t >>= λ k. behind_head s p k (all_seen rest))
unfolding inside behind_head
inside-token s p es x rest t is part_is = ap (inside s p) (first-shape es x rest (token t) is part_is)

pub inside-group : (s : Scope) (p q : Place) (es : List Expr) (x : Expr) (rest : List Expr) (xs : Sexps) → es ≡ x ∷ rest → group q xs ≡ part x
    → inside s p (all_seen es) ≡ (index_head s.logic q xs >>= λ n. terms s [] (all_seen rest) >>= divided n p)
unfolding inside terms
inside-group s p q es x rest xs is part_is = ap (inside s p) (first-shape es x rest (group q xs) is part_is)

-- ---- several terms, and then what is made of them

pub after-all : (old mid new : List Node) (read : Read (List Typed)) (xs : Vec Seen) (ys : List Seen) (next : List Typed → Read Typed) (r : Result Seen ScriptFault)
    → GivesAll old read (Ok xs) mid → ys ≡ xs.items → GivesOne mid (next (all_at (meanings mid) ys)) r new → GivesOne old (read >>= next) r new
after-all old mid new read xs ys next r given same made =
    let is : next (all_at (meanings mid) ys) ≡ (read >>= next) =
    ap (λ (zs : List Seen). next (all_at (meanings mid) zs)) same ∙ sym (ap (λ (q : Read (List Typed)). q >>= next) given.0) in
    gives_as old new (next (all_at (meanings mid) ys)) (read >>= next) r is (gives_then old mid new (next (all_at (meanings mid) ys)) r given.2 made)

pub all-failed : (old mid new : List Node) (whole_read : Read Typed) (read : Read (List Typed)) (next : List Typed → Read Typed) (e : ScriptFault) → whole_read ≡ (read >>= next)
    → GivesAll old read (Err e) mid → GivesOne old whole_read (Err e) new
all-failed old mid new whole_read read next e is given =
    one-fails old new whole_read e (fails-as whole_read (read >>= next) e is (fails-first read next e (fails-all old mid read e given)))

pub one-failed : (old mid older new : List Node) (whole_read : Read Typed) (read : Read Typed) (next : Typed → Read Typed) (e : ScriptFault) → whole_read ≡ (read >>= next)
    → GivesOne mid read (Err e) older → GivesOne old whole_read (Err e) new
one-failed old mid older new whole_read read next e is given =
    one-fails old new whole_read e (fails-as whole_read (read >>= next) e is (fails-first read next e (fails-one mid older read e given)))

-- ---- what stands behind a head

pub behind-let : (r : Reader) (s : Scope) (p : Place) (h : Shown) (xs : Sexps) → h ≡ shown.Let → let_term s p xs ≡ behind_head s p (head_seen r h) xs
unfolding behind_head let_term
behind-let r s p h xs is = sym (ap (λ (k : Shown). behind_head s p (head_seen r k) xs) is)

pub behind-binder : (r : Reader) (s : Scope) (p : Place) (h : Shown) (xs : Sexps) (q : Quantifier) → h ≡ shown.Binder q → binder_term s p q xs ≡ behind_head s p (head_seen r h) xs
unfolding behind_head binder_term
behind-binder r s p h xs q is = sym (ap (λ (k : Shown). behind_head s p (head_seen r k) xs) is)

pub behind-annotation : (r : Reader) (s : Scope) (p : Place) (h : Shown) (xs : Sexps) → h ≡ shown.Annotation → annotated_term s p xs ≡ behind_head s p (head_seen r h) xs
unfolding behind_head annotated_term
behind-annotation r s p h xs is = sym (ap (λ (k : Shown). behind_head s p (head_seen r k) xs) is)

pub behind-operator : (r : Reader) (s : Scope) (p : Place) (h : Shown) (xs : Sexps) (op : Operator) → h ≡ shown.Operator op
    → behind_head s p (head_seen r h) xs ≡ (terms s [] xs >>= operated op p)
unfolding behind_head terms
behind-operator r s p h xs op is = ap (λ (k : Shown). behind_head s p (head_seen r k) xs) is

pub behind-name : (r : Reader) (s : Scope) (p : Place) (h : Shown) (xs : Sexps) (known : Known) → h ≡ shown.Name known
    → behind_head s p (head_seen r h) xs ≡ (terms s [] xs >>= use_of (entry_at (meanings r.table) r.signatures.items known) p)
unfolding behind_head terms
behind-name r s p h xs known is = ap (λ (k : Shown). behind_head s p (head_seen r k) xs) is

pub name-in : (n : ℕ) (h : Shown) (known : Known) → h ≡ shown.Name known → HeadIn n h → known.node < n
name-in n h known is within = subst (λ (k : Shown). HeadIn n k) is within

pub entry-keeps : (old new : Reader) (known : Known) → Keeps old new → Extends old.table new.table → known.node < length old.table
    → entry_at (meanings new.table) new.signatures.items known ≡ entry_at (meanings old.table) old.signatures.items known
entry-keeps old new known keeps grown lt =
    ap (λ (ss : List (List VarSort)). entry_at (meanings new.table) ss known) keeps.signatures ∙ entry-extends old.table new.table old.signatures.items known grown lt

-- ---- expressions one after the other

pub size-item : (es : List Expr) (i : ℕ) (x : Expr) → i < length es → x ≡ get_or es i x → size (seen x) ≤ size (all_seen es)
size-item es i x lt is = subst (λ (y : Expr). size (seen y) ≤ size (all_seen es)) (sym is) (size-at es i x lt)

pub AreIn-more : (m n : ℕ) (xs : List Seen) → m ≤ n → AreIn m xs → AreIn n xs
AreIn-more m n [] le within = tt
AreIn-more m n (x ∷ xs) le within = (omega (arith, within.0), AreIn-more m n xs le within.1)

pub AreIn-push : (n : ℕ) (xs : List Seen) (x : Seen) → AreIn n xs → x.node < n → AreIn n (xs ++ x ∷ [])
AreIn-push n [] x within lt = (lt, tt)
AreIn-push n (y ∷ xs) x within lt = (within.0, AreIn-push n xs x within.1 lt)

pub typed-extends : (old new : List Node) (x : Seen) → Extends old new → x.node < length old → typed_at (meanings new) x ≡ typed_at (meanings old) x
typed-extends old new x grown lt = ap with_tree (at-extends old new x.node grown lt)
  where
    with_tree : Meaning → Typed
    with_tree m = record { sort = x.sort; tree = m }

all-extends : (old new : List Node) (xs : List Seen) → Extends old new → AreIn (length old) xs → all_at (meanings new) xs ≡ all_at (meanings old) xs
all-extends old new [] grown within = refl
all-extends old new (x ∷ xs) grown within = λ i. typed-extends old new x grown within.0 i ∷ all-extends old new xs grown within.1 i

all-push : (ms : List Meaning) (xs : List Seen) (x : Seen) → all_at ms (xs ++ x ∷ []) ≡ all_at ms xs ++ typed_at ms x ∷ []
all-push ms [] x = refl
all-push ms (y ∷ xs) x = ap (λ (ts : List Typed). typed_at ms y ∷ ts) (all-push ms xs x)

-- behind the terms that were read, the first of those that are left
terms-left : (s : Scope) (ts : List Typed) (es : List Expr) (i : ℕ) (x : Expr) → i < length es → x ≡ get_or es i x
    → terms s ts (all_seen (drop i es)) ≡ terms s [] (all_seen es)
    → terms s [] (all_seen es) ≡ (term s (part x) >>= λ t. terms s (ts ++ t ∷ []) (all_seen (drop (i + 1) es)))
terms-left s ts es i x lt is left =
    sym left ∙ ap (λ (rest : List Expr). terms s ts (all_seen rest)) (drop-next es i x lt is) ∙ terms-cons s ts x (drop (i + 1) es)

pub terms-failed : (old mid new : Reader) (es : List Expr) (i : ℕ) (x : Expr) (xs : List Seen) (e : ScriptFault) → Fits old → Keeps old mid → Extends old.table mid.table
    → i < length es → x ≡ get_or es i x
    → terms (scope_seen old) (all_at (meanings mid.table) xs) (all_seen (drop i es)) ≡ terms (scope_seen old) [] (all_seen es)
    → GivesOne mid.table (term (scope_seen mid) (part x)) (Err e) new.table → GivesAll old.table (terms (scope_seen old) [] (all_seen es)) (Err e) new.table
terms-failed old mid new es i x xs e fits keeps grown lt is left given =
    let s = scope_seen old in
    let ts = all_at (meanings mid.table) xs in
    let next : Typed → Read (List Typed) = λ t. terms s (ts ++ t ∷ []) (all_seen (drop (i + 1) es)) in
    let eq : terms s [] (all_seen es) ≡ (term (scope_seen mid) (part x) >>= next) =
    terms-left s ts es i x lt is left ∙ ap (λ (u : Scope). term u (part x) >>= next) (sym (scope-keeps old mid fits keeps grown)) in
    all-fails old.table new.table (terms s [] (all_seen es)) e
    (fails-as (terms s [] (all_seen es)) (term (scope_seen mid) (part x) >>= next) e eq
    (fails-first (term (scope_seen mid) (part x)) next e (fails-one mid.table new.table (term (scope_seen mid) (part x)) e given)))

pub terms-more : (old mid new : Reader) (es : List Expr) (i : ℕ) (x : Expr) (xs more : List Seen) (y : Seen) → Fits old → Keeps old mid → Extends old.table mid.table
    → i < length es → x ≡ get_or es i x → AreIn (length mid.table) xs
    → terms (scope_seen old) (all_at (meanings mid.table) xs) (all_seen (drop i es)) ≡ terms (scope_seen old) [] (all_seen es)
    → GivesOne mid.table (term (scope_seen mid) (part x)) (Ok y) new.table → more ≡ xs ++ y ∷ []
    → terms (scope_seen old) (all_at (meanings new.table) more) (all_seen (drop (i + 1) es)) ≡ terms (scope_seen old) [] (all_seen es)
terms-more old mid new es i x xs more y fits keeps grown lt is within left given more_is =
    let s = scope_seen old in
    let ts = all_at (meanings mid.table) xs in
    let next : Typed → Read (List Typed) = λ t. terms s (ts ++ t ∷ []) (all_seen (drop (i + 1) es)) in
    let read : term s (part x) ≡ Ok (typed_at (meanings new.table) y) = ap (λ (u : Scope). term u (part x)) (sym (scope-keeps old mid fits keeps grown)) ∙ given.0 in
    let all : all_at (meanings new.table) more ≡ ts ++ typed_at (meanings new.table) y ∷ [] =
    ap (all_at (meanings new.table)) more_is ∙ all-push (meanings new.table) xs y
    ∙ ap (λ (us : List Typed). us ++ typed_at (meanings new.table) y ∷ []) (all-extends mid.table new.table xs given.2 within) in
    ap (λ (us : List Typed). terms s us (all_seen (drop (i + 1) es))) all ∙ ap (λ (r : Read Typed). r >>= next) (sym read) ∙ sym (terms-left s ts es i x lt is left)

pub within-more : (mid new : List Node) (xs more : List Seen) (y : Seen) → AreIn (length mid) xs → Extends mid new → y.node < length new → more ≡ xs ++ y ∷ [] → AreIn (length new) more
within-more mid new xs more y within grown lt more_is =
    subst (AreIn (length new)) (sym more_is) (AreIn-push (length new) xs y (AreIn-more (length mid) (length new) xs (Extends-length mid new grown) within) lt)

pub terms-done : (s : Scope) (ts : List Typed) (es : List Expr) (i : ℕ) → length es ≤ i → terms s ts (all_seen (drop i es)) ≡ terms s [] (all_seen es)
    → terms s [] (all_seen es) ≡ Ok ts
terms-done s ts es i le left = sym left ∙ ap (λ (rest : List Expr). terms s ts (all_seen rest)) (drop_of_length-le es le) ∙ terms-none s ts

-- ---- the one term of a list

pub one-is : (s : Scope) (p : Place) (xs : Sexps) → one_term s p xs ≡ (terms s [] xs >>= only p)
unfolding one_term
one-is s p xs = refl

only-wrong : (ms : List Meaning) (p : Place) (xs : List Seen) → (length xs ≡ 1 → ⊥) → only p (all_at ms xs) ≡ refuse kind.Arity p
only-wrong ms p [] wrong = refl
only-wrong ms p (x ∷ []) wrong = absurd (wrong refl)
only-wrong ms p (x ∷ y ∷ xs) wrong = refl

only-right : (ms : List Meaning) (p : Place) (xs : List Seen) (x d : Seen) → length xs ≡ 1 → x ≡ get_or xs 0 d → only p (all_at ms xs) ≡ Ok (typed_at ms x)
only-right ms p [] x d one is = absurd (omega (arith, one))
only-right ms p (y ∷ []) x d one is = sym (ap (λ (z : Seen). Ok (typed_at ms z)) is)
only-right ms p (y ∷ z ∷ xs) x d one is = absurd (omega (arith, one))

pub one-wrong : (s : Scope) (p : Place) (es : List Expr) (ms : List Meaning) (xs : List Seen) → terms s [] (all_seen es) ≡ Ok (all_at ms xs) → (length xs ≡ 1 → ⊥)
    → one_term s p (all_seen es) ≡ refuse kind.Arity p
one-wrong s p es ms xs given wrong = one-is s p (all_seen es) ∙ ap (λ (r : Read (List Typed)). r >>= only p) given ∙ only-wrong ms p xs wrong

pub one-right : (s : Scope) (p : Place) (es : List Expr) (ms : List Meaning) (xs : List Seen) (x d : Seen) → terms s [] (all_seen es) ≡ Ok (all_at ms xs) → length xs ≡ 1
    → x ≡ get_or xs 0 d → one_term s p (all_seen es) ≡ Ok (typed_at ms x)
one-right s p es ms xs x d given one is = one-is s p (all_seen es) ∙ ap (λ (r : Read (List Typed)). r >>= only p) given ∙ only-right ms p xs x d one is

pub first-in : (n : ℕ) (xs : List Seen) (x d : Seen) → AreIn n xs → length xs ≡ 1 → x ≡ get_or xs 0 d → x.node < n
first-in n [] x d within one is = absurd (omega (arith, one))
first-in n (y ∷ xs) x d within one is = subst (λ (z : Seen). z.node < n) (sym is) within.0

-- ---- `!`

pub annotated-none : (s : Scope) (p : Place) (es : List Expr) → eqb (length es) 0 ≡ true → annotated_term s p (all_seen es) ≡ refuse kind.Arity p
unfolding annotated_term
annotated-none s p [] empty = refl
annotated-none s p (e ∷ es) empty = absurd (omega (arith, eqb-true (length (e ∷ es)) 0 empty))

abbrev pub some_behind : Place → Sexps → Typed → Read Typed
some_behind p rest t = unless (not (is_empty rest)) kind.Arity p (Ok t)

annotated-whole : (s : Scope) (p : Place) (x : Part) (rest : Sexps) → annotated_term s p (whole x and rest) ≡ (term s x >>= some_behind p rest)
unfolding annotated_term term
annotated-whole s p (token t) rest = refl
annotated-whole s p (group q inner) rest = refl

some-length : (es : List Expr) → eqb (length es) 0 ≡ false → 0 < length es
some-length [] some = absurd cc
some-length (e ∷ es) some = omega arith

pub annotated-is : (s : Scope) (p : Place) (es : List Expr) (x : Expr) → eqb (length es) 0 ≡ false → x ≡ get_or es 0 x
    → annotated_term s p (all_seen es) ≡ (term s (part x) >>= some_behind p (all_seen (drop 1 es)))
annotated-is s p es x some is =
    ap (annotated_term s p) (first-shape es x (drop 1 es) (part x) (drop-next es 0 x (some-length es some) is) refl) ∙ annotated-whole s p (part x) (all_seen (drop 1 es))

empty-seen : (es : List Expr) → length es ≡ 1 → is_empty (all_seen (drop 1 es)) ≡ true
empty-seen [] one = absurd (omega (arith, one))
empty-seen (e ∷ []) one = refl
empty-seen (e ∷ d ∷ es) one = absurd (omega (arith, one))

filled : (x : Part) (rest : Sexps) → is_empty (whole x and rest) ≡ false
filled (token t) rest = refl
filled (group q inner) rest = refl

filled-seen : (es : List Expr) → eqb (length es) 0 ≡ false → (length es ≡ 1 → ⊥) → is_empty (all_seen (drop 1 es)) ≡ false
filled-seen [] some more = absurd cc
filled-seen (e ∷ []) some more = absurd (more refl)
filled-seen (e ∷ d ∷ es) some more = ap (λ (u : Sexps). is_empty (u and all_seen es)) (seen-shape d) ∙ filled (part d) (all_seen es)

pub annotated-bare : (s : Scope) (p : Place) (es : List Expr) (x : Expr) (t : Typed) → eqb (length es) 0 ≡ false → x ≡ get_or es 0 x → term s (part x) ≡ Ok t → length es ≡ 1
    → annotated_term s p (all_seen es) ≡ refuse kind.Arity p
annotated-bare s p es x t some is given one =
    annotated-is s p es x some is ∙ ap (λ (r : Read Typed). r >>= some_behind p (all_seen (drop 1 es))) given
    ∙ ap (λ (b : Bool). unless (not b) kind.Arity p (Ok t)) (empty-seen es one)

pub annotated-term : (s : Scope) (p : Place) (es : List Expr) (x : Expr) (t : Typed) → eqb (length es) 0 ≡ false → x ≡ get_or es 0 x → term s (part x) ≡ Ok t → (length es ≡ 1 → ⊥)
    → annotated_term s p (all_seen es) ≡ Ok t
annotated-term s p es x t some is given more =
    annotated-is s p es x some is ∙ ap (λ (r : Read Typed). r >>= some_behind p (all_seen (drop 1 es))) given
    ∙ ap (λ (b : Bool). unless (not b) kind.Arity p (Ok t)) (filled-seen es some more)
