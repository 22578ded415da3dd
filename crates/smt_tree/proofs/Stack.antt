-- The open lists of the program, as the definitions see them.
use Rattle.std.proofs.Common.{◌≡◌, ℕ, suc, ◌<◌, ◌≤◌, Bool, true, false, cond, List, [], ◌∷◌, ◌++◌, length, map, reverse, Ok, Err, refl, sym, ap, ◌∙◌, arith, leb, le-leb}
use Rattle.std.proofs.lemmas.Bool.{lt-leb}
use Rattle.std.proofs.lemmas.List.{map_push, length-reverse, reverse-append, length-map}
use Rattle.ss_names.specs.declared.fault.FaultKind.TheVariants as kind
use Rattle.ss_names.specs.declared.fault.ScriptFault.{ScriptFault}
use Rattle.ss_names.specs.declared.fault.ScriptFault.TheVariants.{Bad, Memory}
use Rattle.smt_lex.specs.Place.{Place}
use Rattle.smt_lex.specs.declared.token.Token.{Token}
use Rattle.smt_tree.specs.declared.expr.Expr.{Expr, fold-roll-Expr}
use Rattle.smt_tree.specs.declared.expr.Expr.TheVariants as variants
use Rattle.smt_tree.specs.declared.expr.Expr.TheVariants.{rolls-Leaf}
use Rattle.smt_tree.specs.declared.expr.Expr.TheOpen as layers
use Rattle.smt_tree.specs.declared.reading.Open.{Open}
use Rattle.smt_tree.specs.Sexp.{Sexps, none, leaf, list, ◌and◌}
use Rattle.smt_lex.specs.declared.token.TokenKind.{TokenKind}
use Rattle.smt_lex.specs.declared.token.TokenKind.TheVariants as token
use Rattle.smt_lex.specs.Lexeme.{Lexeme, lexeme, Found}
use Rattle.smt_tree.specs.Expressions.{Level, Read, outermost, with_item, opened, closed, taken, refused, place_of, inside, expressions, expressions_from}
use Rattle.smt_tree.specs.Seen.{joined, layer, seen, all_seen, level, level_of, Gives}

pub and_none : (xs : Sexps) → xs and none ≡ xs
and_none none = refl
and_none (leaf t xs) = ap (leaf t) (and_none xs)
and_none (list p inner xs) = ap (list p inner) (and_none xs)

pub and_assoc : (xs ys zs : Sexps) → (xs and ys) and zs ≡ xs and (ys and zs)
and_assoc none ys zs = refl
and_assoc (leaf t xs) ys zs = ap (leaf t) (and_assoc xs ys zs)
and_assoc (list p inner xs) ys zs = ap (list p inner) (and_assoc xs ys zs)

pub joined-append : (xs ys : List Sexps) → joined (xs ++ ys) ≡ joined xs and joined ys
joined-append [] ys = refl
joined-append (x ∷ xs) ys = ap (λ (r : Sexps). x and r) (joined-append xs ys) ∙ sym (and_assoc x (joined xs) (joined ys))

pub all_seen-push : (es : List Expr) (e : Expr) → all_seen (es ++ e ∷ []) ≡ all_seen es and seen e
all_seen-push es e = ap joined (map_push seen es e) ∙ joined-append (map seen es) (seen e ∷ []) ∙ ap (λ (r : Sexps). all_seen es and r) (and_none (seen e))

-- the open lists, the innermost first
abbrev pub stack : Open → List Open → List Level
stack inner outer = level_of inner ∷ reverse (map level_of outer)

pub stack-push : (outer : List Open) (inner : Open) → reverse (map level_of (outer ++ inner ∷ [])) ≡ stack inner outer
stack-push outer inner = ap reverse (map_push level_of outer inner) ∙ reverse-append (map level_of outer) (level_of inner ∷ [])

outermost-with_item : (inner : Level) (outer : List Level) (x : Sexps) → outermost (with_item inner x) outer ≡ outermost inner outer
outermost-with_item inner [] x = refl
outermost-with_item inner (l ∷ ls) x = refl

taken_other : (k : TokenKind) (t : Lexeme) (inner : Level) (outer : List Level) (goes_on : List Level → List Read) → (k ≡ token.Left → ⊥) → (k ≡ token.Right → ⊥)
    → taken k t (inner ∷ outer) goes_on ≡ goes_on (with_item inner (leaf t none) ∷ outer)
taken_other token.Left t inner outer goes_on no_left no_right = absurd (no_left refl)
taken_other token.Right t inner outer goes_on no_left no_right = absurd (no_right refl)
taken_other _ t inner outer goes_on no_left no_right = refl

-- what the loop keeps: the rest gives behind the open lists what all gave behind the first, which is outermost still
pub record Keeps (first : Place) (all : List Found) (inner : Level) (outer : List Level) (rest : List Found) : Type 0 where
  pub same : inside (inner ∷ outer) rest ≡ inside (record { at = first; items = none } ∷ []) all
  pub outer_is : outermost inner outer ≡ first

module _ (first : Place) (all : List Found) (inner : Level) (outer : List Level) (t : Lexeme) (rest : List Found) (keeps : Keeps first all inner outer (Ok t ∷ rest)) where
  pub goes_in : t.kind ≡ token.Left → length outer < 1023 → Keeps first all (opened t) (inner ∷ outer) rest
  unfolding inside
  goes_in is shallow =
      let test : leb 1024 (suc (length outer)) ≡ false = lt-leb _ _ (omega arith) in
      record { same = sym (rw (is, test) refl) ∙ keeps.same; outer_is = keeps.outer_is }

  pub too_deep : t.kind ≡ token.Left → 1023 ≤ length outer → inside (record { at = first; items = none } ∷ []) all ≡ refused kind.Depth (place_of t)
  unfolding inside
  too_deep is deep =
      let test : leb 1024 (suc (length outer)) ≡ true = le-leb _ _ (omega arith) in
      sym keeps.same ∙ rw (is, test) refl

  pub ends : t.kind ≡ token.Right → outer ≡ [] → inside (record { at = first; items = none } ∷ []) all ≡ Ok (closed inner) ∷ expressions rest
  unfolding inside expressions
  ends is none_outer = sym keeps.same ∙ rw (is, none_outer) refl

  pub goes_out : (around : Level) (more : List Level) → t.kind ≡ token.Right → outer ≡ around ∷ more → Keeps first all (with_item around (closed inner)) more rest
  unfolding inside
  goes_out around more is outer_is = record { same = sym (rw (is, outer_is) refl) ∙ keeps.same; outer_is = outermost-with_item around more (closed inner) ∙ rw outer_is at keeps.outer_is }

  pub goes_on : (t.kind ≡ token.Left → ⊥) → (t.kind ≡ token.Right → ⊥) → Keeps first all (with_item inner (leaf t none)) outer rest
  unfolding inside
  goes_on no_left no_right = record { same = sym (taken_other t.kind t inner outer _ no_left no_right) ∙ keeps.same; outer_is = outermost-with_item inner outer (leaf t none) ∙ keeps.outer_is }

module _ (first : Place) (all : List Found) (inner : Level) (outer : List Level) where
  pub breaks : (f : ScriptFault) (rest : List Found) → Keeps first all inner outer (Err f ∷ rest) → inside (record { at = first; items = none } ∷ []) all ≡ Err f ∷ []
  unfolding inside
  breaks f rest keeps = sym keeps.same

  pub unclosed : Keeps first all inner outer [] → inside (record { at = first; items = none } ∷ []) all ≡ refused kind.Unclosed first
  unfolding inside
  unclosed keeps = sym keeps.same ∙ ap (refused kind.Unclosed) keeps.outer_is

some_tested : (b : Bool) (xs ys : List Read) → 0 < length xs → 0 < length ys → 0 < length (cond b xs ys)
some_tested true xs ys p q = p
some_tested false xs ys p q = q

some_taken : (k : TokenKind) (t : Lexeme) (inner : Level) (outer : List Level) (goes_on : List Level → List Read)
    → ((l : Level) (ls : List Level) → 0 < length (goes_on (l ∷ ls))) → 0 < length (taken k t (inner ∷ outer) goes_on)
some_taken token.Left t inner outer goes_on h = some_tested (leb 1024 (suc (length outer))) _ _ (omega arith) (h (opened t) (inner ∷ outer))
some_taken token.Right t inner [] goes_on h = omega arith
some_taken token.Right t inner (l ∷ ls) goes_on h = h _ ls
some_taken _ t inner outer goes_on h = h _ outer

some_from : (inner : Level) (outer : List Level) (rest : List Found) → 0 < length (expressions_from (inner ∷ outer) rest)
some_from inner outer [] = omega arith
some_from inner outer (Err f ∷ rest) = omega arith
some_from inner outer (Ok t ∷ rest) = some_taken t.kind t inner outer _ (λ l ls. some_from l ls rest)

pub gives_err : (left : List Read) (f : ScriptFault) (rest : List Found) → left ≡ Err f ∷ [] → Gives left (Err f) rest
gives_err left (Bad k line column) rest is = is
gives_err left Memory rest is = rw is (omega arith)

pub gives_memory : (line column : ℕ) (all : List Found) (e : ScriptFault) (rest : List Found) → e ≡ Memory → Gives (inside (level line column ∷ []) all) (Err e) rest
unfolding inside
gives_memory line column all e rest is = rw is (some_from (level line column) [] all)

pub stack-length : (outer : List Open) → length (reverse (map level_of outer)) ≡ length outer
stack-length outer = simp (length-reverse, length-map)

pub seen-leaf : (t : Token) → seen (variants.Leaf t) ≡ leaf (lexeme t) none
seen-leaf t = ap seen (sym (rolls-Leaf t)) ∙ fold-roll-Expr Sexps layer (layers.Leaf t)

-- ---- the first token

outside_other : (k : TokenKind) (t : Lexeme) (goes_on : List Level → List Read) → (k ≡ token.Left → ⊥) → taken k t [] goes_on ≡ refused kind.Unclosed (place_of t)
outside_other token.Left t goes_on no_left = absurd (no_left refl)
outside_other _ t goes_on no_left = refl

pub first_fault : (f : ScriptFault) (rest : List Found) → expressions (Err f ∷ rest) ≡ Err f ∷ []
unfolding expressions
first_fault f rest = refl

pub first_left : (t : Lexeme) (rest : List Found) → t.kind ≡ token.Left → expressions (Ok t ∷ rest) ≡ inside (opened t ∷ []) rest
unfolding expressions inside
first_left t rest is = rw is refl

pub first_other : (t : Lexeme) (rest : List Found) → (t.kind ≡ token.Left → ⊥) → expressions (Ok t ∷ rest) ≡ refused kind.Unclosed (place_of t)
unfolding expressions
first_other t rest no_left = outside_other t.kind t _ no_left

pub none_left : expressions [] ≡ []
unfolding expressions
none_left = refl

pub some_behind_err : (left : List Read) (f : ScriptFault) (rest others : List Found) → Gives left (Err f) rest → Gives left (Err f) others
some_behind_err left (Bad k line column) rest others is = is
some_behind_err left Memory rest others is = is

pub err_is_some : (left : List Read) (f : ScriptFault) (rest : List Found) → Gives left (Err f) rest → 0 < length left
err_is_some left (Bad k line column) rest is = rw is (omega arith)
err_is_some left Memory rest is = is
