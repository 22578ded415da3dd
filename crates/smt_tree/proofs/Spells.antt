-- What is read is spelled so.
use Rattle.std.proofs.Common.{◌≡◌, Bool, true, false, cond, leb, List, [], ◌∷◌, ◌++◌, length, map, Ok, Err, refl, sym, ap, ◌∙◌, append_assoc}
use Rattle.std.proofs.lemmas.Bool.{true≢false}
use Rattle.ss_names.specs.declared.fault.ScriptFault.{ScriptFault}
use Rattle.ss_names.specs.declared.fault.ScriptFault.TheVariants.{Bad}
use Rattle.ss_names.specs.declared.fault.FaultKind.TheVariants as kind
use Rattle.smt_lex.specs.declared.token.TokenKind.{TokenKind}
use Rattle.smt_lex.specs.declared.token.TokenKind.TheVariants as token
use Rattle.smt_lex.specs.Lexeme.{Lexeme, Found}
use Rattle.smt_tree.specs.Sexp.{Sexps, none, leaf, list, ◌and◌}
use Rattle.smt_tree.specs.Expressions.{Read, Level, opened, closed, with_item, taken, refused, place_of, outermost, expressions_from, expressions}
use Rattle.smt_tree.specs.Spelling.{Mark, left, right, other, mark_of, mark, spell, whole, are_whole, IsSpelled}

spell-and : (x y : Sexps) → spell (x and y) ≡ spell x ++ spell y
spell-and none y = refl
spell-and (leaf t x) y = ap (λ (ms : List Mark). other t ∷ ms) (spell-and x y)
spell-and (list p inner x) y =
    ap (λ (ms : List Mark). left p ∷ spell inner ++ right ∷ ms) (spell-and x y) ∙ sym (ap (λ (ms : List Mark). left p ∷ ms) (append_assoc (spell inner) (right ∷ spell x) (spell y)))

-- the open lists, from the outermost
spell_open : List Level → List Mark
spell_open [] = []
spell_open (l ∷ ls) = spell_open ls ++ left l.at ∷ spell l.items

abbrev Goes : List Mark → List Read → Type 0
Goes ms xs = (rest : List Mark) × (ms ≡ spell (whole xs) ++ rest) × (are_whole xs ≡ true → rest ≡ [])

stops : (ms : List Mark) (f : ScriptFault) → Goes ms (Err f ∷ [])
stops ms f = (ms, refl, λ is. absurd (true≢false (sym is)))

goes : (a b : List Mark) (xs : List Read) → a ≡ b → Goes b xs → Goes a xs
goes a b xs is g = (g.0, is ∙ g.1, g.2)

tested : (b : Bool) (ms : List Mark) (xs ys : List Read) → Goes ms xs → Goes ms ys → Goes ms (cond b xs ys)
tested true ms xs ys p q = p
tested false ms xs ys p q = q

step : (k : TokenKind) (t : Lexeme) (levels : List Level) (rest : List Mark) (next : List Level → List Read)
    → ((ls : List Level) → Goes (spell_open ls ++ rest) (next ls)) → Goes (spell_open levels ++ mark_of k t ∷ rest) (taken k t levels next)
unfolding spell_open
step token.Left t levels rest next h =
    tested (leb 1024 (length levels)) _ (refused kind.Depth (place_of t)) (next (opened t ∷ levels)) (stops _ (Bad kind.Depth t.line t.column)) (goes _ _ (next (opened t ∷ levels)) (sym (append_assoc (spell_open levels) (left (place_of t) ∷ []) rest)) (h (opened t ∷ levels)))
step token.Right t [] rest next h = stops _ (Bad kind.Unclosed t.line t.column)
step token.Right t (l ∷ []) rest next h =
    let g = h [] in
    (g.0, ap (λ (ms : List Mark). left l.at ∷ ms) (ap (λ (ms : List Mark). spell l.items ++ right ∷ ms) g.1 ∙ sym (append_assoc (spell l.items) (right ∷ spell (whole (next []))) g.0)), g.2)
step token.Right t (l ∷ o ∷ ls) rest next h = goes _ _ (next (with_item o (closed l) ∷ ls)) (simp (append_assoc, spell-and)) (h (with_item o (closed l) ∷ ls))
step _ t [] rest next h = stops _ (Bad kind.Unclosed t.line t.column)
step _ t (l ∷ ls) rest next h = goes _ _ (next (with_item l (leaf t none) ∷ ls)) (simp (append_assoc, spell-and)) (h (with_item l (leaf t none) ∷ ls))

all : (levels : List Level) (ts : List Found) → Goes (spell_open levels ++ map mark ts) (expressions_from levels ts)
unfolding spell_open
all [] [] = ([], refl, λ _. refl)
all (l ∷ ls) [] = stops _ (Bad kind.Unclosed (outermost l ls).line (outermost l ls).column)
all levels (Err f ∷ ts) = stops _ f
all levels (Ok t ∷ ts) = step t.kind t levels (map mark ts) (λ ls. expressions_from ls ts) (λ ls. all ls ts)

pub spelled : (ts : List Found) → IsSpelled ts
unfolding expressions spell_open
spelled ts = all [] ts
