-- Expressions of the program by what they are.
use Rattle.std.proofs.Common.{◌≡◌, ℕ, List, [], ◌∷◌, ◌≤◌, ◌-◌, suc, length, take, drop, get_or, map, Result, refl, sym, ap, subst, ◌∙◌, arith}
use Rattle.smt_lex.specs.declared.Token.{Token}
use Rattle.smt_lex.specs.Lexeme.{lexeme}
use Rattle.smt_lex.specs.Place.{Place, place}
use Rattle.smt_tree.specs.declared.Expr.{Expr, Expr-F, fold-roll-Expr, fold_out-Expr, map-Expr, out-Expr}
use Rattle.smt_tree.specs.declared.Expr.TheVariants as variants
use Rattle.smt_tree.specs.declared.Expr.TheVariants.{rolls-Leaf, rolls-List}
use Rattle.smt_tree.specs.declared.Expr.TheOpen as layers
use Rattle.smt_tree.specs.Sexp.{Sexps, none, leaf, list, ◌and◌}
use Rattle.smt_tree.specs.Seen.{seen, all_seen, layer}
use Rattle.ss_names.specs.declared.FaultKind.TheVariants as kind
use Rattle.ss_names.specs.declared.ScriptFault.{ScriptFault}
use Rattle.lin_term.specs.declared.Sort.{Sort}
use Rattle.smt_term.specs.Reading.{Read, refuse, unless, Part, token, group}
use Rattle.smt_term.specs.Terms.{parts, index_parts, index_head, is_mark, divisible_index}
use Rattle.smt_term.specs.View.{part, first_part, IsRead}

pub seen-leaf : (t : Token) → seen (variants.Leaf t) ≡ leaf (lexeme t) none
seen-leaf t = ap seen (sym (rolls-Leaf t)) ∙ fold-roll-Expr Sexps layer (layers.Leaf t)

pub seen-list : (line column : ℕ) (es : List Expr) → seen (variants.List line column es) ≡ list (place line column) (all_seen es) none
seen-list line column es = ap seen (sym (rolls-List line column es)) ∙ fold-roll-Expr Sexps layer (layers.List line column es)

pub part-leaf : (t : Token) → part (variants.Leaf t) ≡ token (lexeme t)
part-leaf t = ap first_part (seen-leaf t)

pub part-list : (line column : ℕ) (es : List Expr) → part (variants.List line column es) ≡ group (place line column) (all_seen es)
part-list line column es = ap first_part (seen-list line column es)

take-whole : (xs : List Expr) → take (length xs) xs ≡ xs
take-whole [] = refl
take-whole (x ∷ xs) = ap (λ (ys : List Expr). x ∷ ys) (take-whole xs)

-- the first of a slice, and the rest
pub first-and : (xs : List Expr) (x : Expr) → 1 ≤ length xs → x ≡ get_or xs 0 x → xs ≡ x ∷ take (length xs - 1) (drop 1 xs)
first-and [] x some is = absurd (omega arith)
first-and (y ∷ ys) x some is =
    let n : suc (length ys) - 1 ≡ length ys = omega arith in
    ap (λ (z : Expr). z ∷ ys) (sym is) ∙ ap (λ (zs : List Expr). x ∷ zs) (sym (ap (λ (k : ℕ). take k ys) n ∙ take-whole ys))

-- ---- lists of expressions

abbrev pub whole : Part → Sexps
whole (token t) = leaf t none
whole (group p inner) = list p inner none

layer-shape : (y : Expr-F Sexps) → layer y ≡ whole (first_part (layer y))
layer-shape (layers.Leaf t) = refl
layer-shape (layers.List line column items) = refl

-- an expression is a token or a list, alone
pub seen-shape : (e : Expr) → seen e ≡ whole (part e)
seen-shape e =
    let y = map-Expr Expr Sexps seen (out-Expr e) in
    fold_out-Expr Sexps layer e ∙ layer-shape y ∙ ap (λ (x : Sexps). whole (first_part x)) (sym (fold_out-Expr Sexps layer e))

parts-whole : (p : Part) (rest : Sexps) → parts (whole p and rest) ≡ p ∷ parts rest
parts-whole (token t) rest = refl
parts-whole (group p inner) rest = refl

pub parts-all : (es : List Expr) → parts (all_seen es) ≡ map part es
parts-all [] = refl
parts-all (e ∷ es) =
    ap (λ (x : Sexps). parts (x and all_seen es)) (seen-shape e) ∙ parts-whole (part e) (all_seen es) ∙ ap (λ (ps : List Part). part e ∷ ps) (parts-all es)

-- ---- a list as a head

pub index-short : (logic : Sort) (p : Place) (es : List Expr) → (length es ≡ 3 → ⊥) → index_head logic p (all_seen es) ≡ refuse kind.Sort p
unfolding index_head
index-short logic p es wrong = ap (index_parts logic p) (parts-all es) ∙ by es wrong
  where
    by : (xs : List Expr) → (length xs ≡ 3 → ⊥) → index_parts logic p (map part xs) ≡ refuse kind.Sort p
    by [] wrong = refl
    by (a ∷ []) wrong = refl
    by (a ∷ b ∷ []) wrong = refl
    by (a ∷ b ∷ c ∷ []) wrong = absurd (wrong refl)
    by (a ∷ b ∷ c ∷ d ∷ xs) wrong = refl

pub index-three : (logic : Sort) (p : Place) (es : List Expr) (a b c : Expr) → length es ≡ 3 → a ≡ get_or es 0 a → b ≡ get_or es 1 b → c ≡ get_or es 2 c
    → index_head logic p (all_seen es) ≡ unless (is_mark (part a)) kind.Sort p (divisible_index logic (part b) (part c))
unfolding index_head
index-three logic p es a b c three a_is b_is c_is = ap (index_parts logic p) (parts-all es) ∙ by es three a_is b_is c_is
  where
    by : (xs : List Expr) → length xs ≡ 3 → a ≡ get_or xs 0 a → b ≡ get_or xs 1 b → c ≡ get_or xs 2 c
        → index_parts logic p (map part xs) ≡ unless (is_mark (part a)) kind.Sort p (divisible_index logic (part b) (part c))
    by [] three a_is b_is c_is = absurd (omega (arith, three))
    by (x ∷ []) three a_is b_is c_is = absurd (omega (arith, three))
    by (x ∷ y ∷ []) three a_is b_is c_is = absurd (omega (arith, three))
    by (x ∷ y ∷ z ∷ []) three a_is b_is c_is =
        ap (λ (m : Expr). unless (is_mark (part m)) kind.Sort p (divisible_index logic (part y) (part z))) (sym a_is)
        ∙ ap (λ (m : Expr). unless (is_mark (part a)) kind.Sort p (divisible_index logic (part m) (part z))) (sym b_is)
        ∙ ap (λ (m : Expr). unless (is_mark (part a)) kind.Sort p (divisible_index logic (part b) (part m))) (sym c_is)
    by (x ∷ y ∷ z ∷ w ∷ xs) three a_is b_is c_is = absurd (omega (arith, three))

pub read_as : (read same : Read ℕ) (r : Result ℕ ScriptFault) → read ≡ same → IsRead read r → IsRead same r
read_as read same r is given = subst (λ (x : Read ℕ). IsRead x r) is given
