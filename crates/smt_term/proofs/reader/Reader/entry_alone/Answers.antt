use Rattle.std.proofs.Common.{◌≡◌, eqb, true, false, length, List, sym, ap, ◌∙◌}
use Rattle.lin_truth.specs.declared.VarSort.{VarSort}
use Rattle.smt_lex.specs.Lexeme.{lexeme}
use Rattle.smt_term.specs.Scope.{signature_at}
use Rattle.smt_term.proofs.MakingLemmas.{Extends-refl}
use Rattle.smt_term.proofs.ReaderLemmas.{alone-none, alone-arity, alone-is, found-in}
use Rattle.smt_term.proofs.reader.Reader.entry_alone.Goals as goal

pub returns-in-None : goal.returns-in-None
returns-in-None c =
    rw c.bad.ensures (alone-none c.args.self.now (lexeme c.args.token.now) (sym c.in-None.ensures))

pub returns-then-not-is_empty : goal.returns-then-not-is_empty
returns-then-not-is_empty c =
    let some : eqb (length (signature_at c.args.self.now.signatures.items c.in-Some.known.signature)) 0 ≡ false =
    ap (λ (ss : List VarSort). eqb (length ss) 0) (sym c.signature_of.ensures) ∙ sym c.if-not-is_empty.ensures in
    rw c.bad-then-not-is_empty.ensures (alone-arity c.args.self.now (lexeme c.args.token.now) c.in-Some.known (sym c.in-Some.ensures) some)

pub returns : goal.returns
returns c =
    let none : eqb (length (signature_at c.args.self.now.signatures.items c.in-Some.known.signature)) 0 ≡ true =
    ap (λ (ss : List VarSort). eqb (length ss) 0) (sym c.signature_of.ensures) ∙ sym c.if-not-is_empty.ensures in (
      alone-is c.args.self.now (lexeme c.args.token.now) c.in-Some.known (sym c.in-Some.ensures) none,
      found-in (length c.args.self.now.table) c.args.self.now.names c.args.token.now.text.now c.in-Some.known c.requires (sym c.in-Some.ensures),
      Extends-refl c.args.self.now.table,
    )
