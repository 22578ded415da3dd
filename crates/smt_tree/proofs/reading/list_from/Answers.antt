use Rattle.std.proofs.Common.{◌≡◌, ◌∷◌, [], map, reverse, ap, ◌∙◌, subst, arith}
use Rattle.std.proofs.lemmas.Result.{err_from_is_err_and}
use Rattle.std.proofs.lemmas.List.{nil_from_length}
use Rattle.smt_lex.specs.Lexeme.{lexeme, found}
use Rattle.smt_tree.specs.Seen.{level_of}
use Rattle.smt_tree.proofs.Stack.{Keeps, goes_in, too_deep, ends, goes_out, goes_on, breaks, unclosed, stack, stack-push, stack-length, gives_err, gives_memory, seen-leaf}
use Rattle.smt_tree.proofs.reading.list_from.Goals as goal

pub returns-in-Err : goal.returns-in-Err
returns-in-Err c =
    let keeps = subst (Keeps _ _ _ _) (c.in-Some.ensures.steps ∙ ap (λ x. found x ∷ c.next.new.self) c.in-Err.is) c.loop-found.invariant.2 in
    gives_err _ c.in-Err.fault _ (breaks _ _ _ _ c.in-Err.fault _ keeps)

pub returns-then-len : goal.returns-then-len
returns-then-len c =
    let keeps = subst (Keeps _ _ _ _) (c.in-Some.ensures.steps ∙ ap (λ x. found x ∷ c.next.new.self) c.in-Ok.is) c.loop-found.invariant.2 in
    too_deep _ _ _ _ (lexeme c.in-Ok.token) _ keeps c.in-Left.is (omega (arith, stack-length c.loop-found.outer.items))

pub returns-in_err-push-in-Left : goal.returns-in_err-push-in-Left
returns-in_err-push-in-Left c =
    let p = err_from_is_err_and c.from_residual.result c.from_residual.ensures.1 in
    rw p.1 (gives_memory c.args.line c.args.column c.args.tokens.now _ _ p.2)

pub loop-found-preserved-in-Left : goal.loop-found-preserved-in-Left
loop-found-preserved-in-Left c =
    let keeps = subst (Keeps _ _ _ _) (c.in-Some.ensures.steps ∙ ap (λ x. found x ∷ c.next.new.self) c.in-Ok.is) c.loop-found.invariant.2 in
    let next = goes_in _ _ _ _ (lexeme c.in-Ok.token) _ keeps c.in-Left.is (omega (arith, stack-length c.loop-found.outer.items)) in
    let items : reverse (map level_of c.push.new.self.items) ≡ stack c.loop-found.inner c.loop-found.outer.items =
    ap (λ xs. reverse (map level_of xs)) c.in_ok-push-in-Left.ensures.items ∙ stack-push c.loop-found.outer.items c.loop-found.inner in
    (tt, tt, rw (c.begun-inner-in-Left.ensures, items) next)

pub returns-in-None : goal.returns-in-None
returns-in-None c =
    let keeps = subst (Keeps _ _ _ _) (c.in-Some.ensures.steps ∙ ap (λ x. found x ∷ c.next.new.self) c.in-Ok.is) c.loop-found.invariant.2 in
    let none : c.loop-found.outer.items ≡ [] = nil_from_length _ (omega (arith, c.loop-found.outer.ok.0, c.in-None.ensures.cases.0)) in
    rw c.whole-list.ensures (ends _ _ _ _ (lexeme c.in-Ok.token) _ keeps c.in-Right.is (ap (λ xs. reverse (map level_of xs)) none))

pub returns-in_err-add-in-Some-pop : goal.returns-in_err-add-in-Some-pop
returns-in_err-add-in-Some-pop c =
    let p = err_from_is_err_and c.from_residual-in_err-add-in-Some-pop.result c.from_residual-in_err-add-in-Some-pop.ensures.1 in
    rw p.1 (gives_memory c.args.line c.args.column c.args.tokens.now _ _ p.2)

pub loop-found-preserved-in-Some-pop : goal.loop-found-preserved-in-Some-pop
loop-found-preserved-in-Some-pop c =
    let keeps = subst (Keeps _ _ _ _) (c.in-Some.ensures.steps ∙ ap (λ x. found x ∷ c.next.new.self) c.in-Ok.is) c.loop-found.invariant.2 in
    let around = c.in-Some-pop.around in
    let items : reverse (map level_of c.loop-found.outer.items) ≡ stack around c.pop.new.self.items =
    ap (λ xs. reverse (map level_of xs)) c.in-Some-pop.ensures.items ∙ stack-push c.pop.new.self.items around in
    let next = goes_out _ _ _ _ (lexeme c.in-Ok.token) _ keeps (level_of around) (reverse (map level_of c.pop.new.self.items)) c.in-Right.is items in
    (tt, tt, rw (c.in_ok-add-in-Some-pop.ensures, c.whole-list.ensures) next)

pub loop-found-preserved : goal.loop-found-preserved
loop-found-preserved c =
    let keeps = subst (Keeps _ _ _ _) (c.in-Some.ensures.steps ∙ ap (λ x. found x ∷ c.next.new.self) c.in-Ok.is) c.loop-found.invariant.2 in
    let next = goes_on _ _ _ _ (lexeme c.in-Ok.token) _ keeps c.in_default-kind.not-Left c.in_default-kind.not-Right in
    (tt, tt, rw (c.in_ok-add-in_default-kind.ensures, seen-leaf c.in-Ok.token) next)

pub returns-in_err-add-in_default-kind : goal.returns-in_err-add-in_default-kind
returns-in_err-add-in_default-kind c =
    let p = err_from_is_err_and c.from_residual-in_err-add-in_default-kind.result c.from_residual-in_err-add-in_default-kind.ensures.1 in
    rw p.1 (gives_memory c.args.line c.args.column c.args.tokens.now _ _ p.2)

pub returns : goal.returns
returns c =
    let keeps = subst (Keeps _ _ _ _) c.in_default.ensures.steps.0 c.loop-found.invariant.2 in
    unclosed _ _ _ _ keeps
