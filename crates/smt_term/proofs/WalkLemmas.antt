-- Reading expressions one after the other, while the table grows: the steps of the definition, seen from the program's expressions.
use Rattle.std.proofs.Common.{◌≡◌, ℕ, ◌<◌, ◌≤◌, List, [], ◌∷◌, ◌++◌, length, Ok, refl, sym, ap, subst, ◌∙◌, arith}
use Rattle.smt_lex.specs.declared.Token.{Token}
use Rattle.smt_lex.specs.Lexeme.{lexeme}
use Rattle.smt_lex.specs.Place.{Place, place}
use Rattle.smt_tree.specs.declared.Expr.{Expr}
use Rattle.smt_tree.specs.declared.Expr.TheVariants as variants
use Rattle.smt_tree.specs.Sexp.{Sexps, ◌and◌}
use Rattle.smt_tree.specs.Seen.{all_seen}
use Rattle.lin_truth.specs.declared.VarSort.{VarSort}
use Rattle.symbol_table.specs.declared.Known.{Known}
use Rattle.term_table.specs.declared.Node.{Node}
use Rattle.term_table.specs.Placed.{Typed}
use Rattle.term_table.specs.Meaning.{Meaning, meanings, Extends}
use Rattle.term_table.proofs.Growth.{at-extends, Extends-length}
use Rattle.smt_term.specs.declared.reader.Reader.{Reader}
use Rattle.smt_term.specs.Reading.{◌>>=◌, Part, token, group}
use Rattle.smt_term.specs.Scope.{Entry, Scope, signature_at}
use Rattle.smt_term.specs.Apply.{divided}
use Rattle.smt_term.specs.Terms.{terms, inside, term, headed, head_of, index_head}
use Rattle.smt_term.specs.View.{part, entry_at, entries_at, NamesIn}
use Rattle.smt_term.specs.Reads.{scope_seen, Fits, Keeps}
use Rattle.smt_term.proofs.PartLemmas.{whole, seen-shape, seen-leaf, seen-list, part-leaf, part-list}

-- ---- a table that grew

pub NamesIn-more : (m n : ℕ) (ks : List (List ℕ × Known)) → m ≤ n → NamesIn m ks → NamesIn n ks
NamesIn-more m n [] le within = tt
NamesIn-more m n (k ∷ ks) le within = (omega (arith, within.0), NamesIn-more m n ks le within.1)

pub entry-extends : (old new : List Node) (signatures : List (List VarSort)) (k : Known) → Extends old new → k.node < length old
    → entry_at (meanings new) signatures k ≡ entry_at (meanings old) signatures k
entry-extends old new signatures k grown lt =
    ap (λ (m : Meaning). with_tree m) (at-extends old new k.node grown lt)
  where
    with_tree : Meaning → Entry
    with_tree m = record { params = signature_at signatures k.signature; meaning = record { sort = k.sort; tree = m } }

pub entries-extend : (old new : List Node) (signatures : List (List VarSort)) (ks : List (List ℕ × Known)) → Extends old new → NamesIn (length old) ks
    → entries_at (meanings new) signatures ks ≡ entries_at (meanings old) signatures ks
entries-extend old new signatures [] grown within = refl
entries-extend old new signatures (k ∷ ks) grown within =
    λ i. (k.0, entry-extends old new signatures k.1 grown within.0 i) ∷ entries-extend old new signatures ks grown within.1 i

-- the scope is the same while all but the table is
pub scope-keeps : (old new : Reader) → Fits old → Keeps old new → Extends old.table new.table → scope_seen new ≡ scope_seen old
scope-keeps old new fits keeps grown =
    let names : entries_at (meanings new.table) new.signatures.items new.names ≡ entries_at (meanings old.table) old.signatures.items old.names =
    ap (λ (ss : List (List VarSort)). entries_at (meanings new.table) ss new.names) keeps.signatures
    ∙ ap (λ (ks : List (List ℕ × Known)). entries_at (meanings new.table) old.signatures.items ks) keeps.names
    ∙ entries-extend old.table new.table old.signatures.items old.names grown fits in
    λ i. record { logic = keeps.logic i; names = names i; around = keeps.around i }

pub fits-keeps : (old new : Reader) → Fits old → Keeps old new → Extends old.table new.table → Fits new
fits-keeps old new fits keeps grown =
    subst (λ (ks : List (List ℕ × Known)). NamesIn (length new.table) ks) (sym keeps.names)
    (NamesIn-more (length old.table) (length new.table) old.names (Extends-length old.table new.table grown) fits)

-- ---- several expressions

terms-whole : (s : Scope) (ts : List Typed) (p : Part) (rest : Sexps) → terms s ts (whole p and rest) ≡ (term s p >>= λ x. terms s (ts ++ x ∷ []) rest)
unfolding terms term
terms-whole s ts (token t) rest = refl
terms-whole s ts (group p inner) rest = refl

-- the first, and then the others behind it
pub terms-cons : (s : Scope) (ts : List Typed) (e : Expr) (es : List Expr) → terms s ts (all_seen (e ∷ es)) ≡ (term s (part e) >>= λ x. terms s (ts ++ x ∷ []) (all_seen es))
terms-cons s ts e es = ap (λ (x : Sexps). terms s ts (x and all_seen es)) (seen-shape e) ∙ terms-whole s ts (part e) (all_seen es)

pub terms-none : (s : Scope) (ts : List Typed) → terms s ts (all_seen []) ≡ Ok ts
unfolding terms
terms-none s ts = refl

-- ---- one expression

pub term-leaf : (s : Scope) (t : Token) → term s (part (variants.Leaf t)) ≡ term s (token (lexeme t))
term-leaf s t = ap (term s) (part-leaf t)

pub term-list : (s : Scope) (line column : ℕ) (es : List Expr) → term s (part (variants.List line column es)) ≡ inside s (place line column) (all_seen es)
unfolding term inside
term-list s line column es = ap (term s) (part-list line column es)

-- ---- what stands in parentheses

pub inside-leaf : (s : Scope) (p : Place) (h : Token) (args : List Expr)
    → inside s p (all_seen (variants.Leaf h ∷ args)) ≡ (head_of s (lexeme h) >>= λ k. headed s p k (all_seen args))
unfolding inside
inside-leaf s p h args = ap (λ (x : Sexps). inside s p (x and all_seen args)) (seen-leaf h)

pub inside-list : (s : Scope) (p : Place) (line column : ℕ) (es args : List Expr)
    → inside s p (all_seen (variants.List line column es ∷ args))
    ≡ (index_head s.logic (place line column) (all_seen es) >>= λ n. terms s [] (all_seen args) >>= divided n p)
unfolding inside terms
inside-list s p line column es args = ap (λ (x : Sexps). inside s p (x and all_seen args)) (seen-list line column es)
