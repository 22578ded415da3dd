use Rattle.std.proofs.Common.{◌≡◌, ◌<◌, ◌+◌, ◌-◌, ℕ, List, [], length, take, drop, arith, ltb-false, ltb-true, sym, ap, ◌∙◌}
use Rattle.smt_lex.specs.Lexeme.{lexeme}
use Rattle.smt_lex.specs.Place.{place}
use Rattle.smt_tree.specs.Seen.{seen, all_seen}
use Rattle.smt_tree.specs.declared.Expr.{Expr}
use Rattle.term_table.specs.Placed.{Typed}
use Rattle.term_table.specs.Meaning.{meanings}
use Rattle.term_table.proofs.Growth.{Extends-then}
use Rattle.smt_term.specs.Reading.{Read, ◌>>=◌}
use Rattle.smt_term.specs.Scope.{Entry}
use Rattle.smt_term.specs.Apply.{operated, use_of, divided}
use Rattle.smt_term.specs.Terms.{Head, terms, inside, term, atom, only, head_of, index_head}
use Rattle.smt_term.specs.Walked.{behind_head, let_term, binder_term, annotated_term, one_term}
use Rattle.smt_term.specs.View.{part, typed_at, all_at, entry_at}
use Rattle.smt_term.specs.Reads.{scope_seen, head_seen}
use Rattle.smt_term.specs.Newest.{size, bound_at}
use Rattle.smt_term.proofs.ApplyLemmas.{gives_as}
use Rattle.smt_term.proofs.PartLemmas.{first-and}
use Rattle.smt_term.proofs.PairLemmas.{size-group, size-some, first-size}
use Rattle.smt_term.proofs.Faults.{one-fails, fails-as, fails-first, fails-head, fails-read, fails-one}
use Rattle.smt_term.proofs.WalkLemmas.{fits-keeps}
use Rattle.smt_term.proofs.WalkSteps.{keeps_then, term-token, term-group, inside-none, inside-token, inside-group, after-all, all-failed, one-failed, behind-let, behind-binder, behind-annotation, behind-operator, behind-name, name-in, entry-keeps, size-item, terms-failed, terms-more, within-more, terms-done, one-is, one-wrong, one-right, first-in, annotated-none, some_behind, annotated-is, annotated-bare, annotated-term}
use Rattle.smt_term.specs.declared.bindings.Bound.{Bound}
use Rattle.symbol_table.specs.declared.Known.{Known}
use Rattle.smt_term.proofs.LetSteps.{let-failed, let-no_names, let-opened, binder-failed, binder-no_sorts, binder-no_body, binder-made, names-no_pair, names-no_term, names-more, names-done, bound-within, bound-alike}
use Rattle.smt_term.proofs.reader.Reader.+walk.Goals as goal

-- ---- `term`

pub term-inside-requires : goal.term-inside-requires
term-inside-requires t c =
    let z = size-group c.args.expr.now (place c.in-Group.line c.in-Group.column) (all_seen c.in-Group.items.now) (sym c.in-Group.ensures) in
    (omega arith, c.requires)

pub term-returns-in-Token-clause-gives : goal.term-returns-in-Token-clause-gives
term-returns-in-Token-clause-gives t c =
    let s = scope_seen c.args.self.now in
    gives_as c.args.self.now.table c.atom.new.self.table (atom s (lexeme c.in-Token.token)) (term s (part c.args.expr.now)) c.atom.result
    (term-token s (part c.args.expr.now) (lexeme c.in-Token.token) c.in-Token.ensures) c.atom.ensures.gives

pub term-returns-in-Group-clause-gives : goal.term-returns-in-Group-clause-gives
term-returns-in-Group-clause-gives t c =
    let s = scope_seen c.args.self.now in
    let p = place c.in-Group.line c.in-Group.column in
    gives_as c.args.self.now.table c.inside.new.self.table (inside s p (all_seen c.in-Group.items.now)) (term s (part c.args.expr.now)) c.inside.result
    (term-group s (part c.args.expr.now) p (all_seen c.in-Group.items.now) c.in-Group.ensures) c.inside.ensures.gives

-- ---- `inside`

pub inside-returns-in-empty-clause-gives : goal.inside-returns-in-empty-clause-gives
inside-returns-in-empty-clause-gives t c =
    inside-none (scope_seen c.args.self.now) (place c.args.line c.args.column) c.args.items.now (omega (arith, ltb-true, c.in-empty.len_below))

pub inside-returns-in-Err-clause-gives : goal.inside-returns-in-Err-clause-gives
inside-returns-in-Err-clause-gives t c =
    let old = c.args.self.now in
    let s = scope_seen old in
    let p = place c.args.line c.args.column in
    let es = c.args.items.now in
    let rest : List Expr = take (length es - 1) (drop 1 es) in
    let split = first-and es c.first-item.result (omega (arith, ltb-false, c.in-len1-up.len_at_least)) c.first-item.is in
    let head : Read Head = head_of s (lexeme c.in-Token.token) in
    let next : Head → Read Typed = λ k. behind_head s p k (all_seen rest) in
    one-fails old.table old.table (inside s p (all_seen es)) c.in-Err.fault
    (fails-as (inside s p (all_seen es)) (head >>= next) c.in-Err.fault (inside-token s p es c.first-item.result rest (lexeme c.in-Token.token) split c.in-Token.ensures)
    (fails-first head next c.in-Err.fault (fails-head old head c.in-Err.fault c.in-Err.ensures)))

pub inside-behind-requires : goal.inside-behind-requires
inside-behind-requires t c =
    let es = c.args.items.now in
    let rest : List Expr = take (length es - 1) (drop 1 es) in
    let split = first-and es c.first-item.result (omega (arith, ltb-false, c.in-len1-up.len_at_least)) c.first-item.is in
    let z : size (all_seen es) ≡ size (seen c.first-item.result) + size (all_seen rest) = first-size es c.first-item.result rest split in
    let y : 0 < size (seen c.first-item.result) = size-some c.first-item.result in
    (omega arith, (c.requires, c.in-Ok.ensures.1))

pub inside-returns-in-Err-index_head-clause-gives : goal.inside-returns-in-Err-index_head-clause-gives
inside-returns-in-Err-index_head-clause-gives t c =
    let old = c.args.self.now in
    let s = scope_seen old in
    let p = place c.args.line c.args.column in
    let q = place c.in-Group.l c.in-Group.c in
    let es = c.args.items.now in
    let rest : List Expr = take (length es - 1) (drop 1 es) in
    let split = first-and es c.first-item.result (omega (arith, ltb-false, c.in-len1-up.len_at_least)) c.first-item.is in
    let index : Read ℕ = index_head old.logic q (all_seen c.in-Group.index.now) in
    let next : ℕ → Read Typed = λ n. terms s [] (all_seen rest) >>= divided n p in
    one-fails old.table old.table (inside s p (all_seen es)) c.in-Err-index_head.fault
    (fails-as (inside s p (all_seen es)) (index >>= next) c.in-Err-index_head.fault
    (inside-group s p q es c.first-item.result rest (all_seen c.in-Group.index.now) split c.in-Group.ensures)
    (fails-first index next c.in-Err-index_head.fault (fails-read index c.in-Err-index_head.fault c.in-Err-index_head.ensures)))

pub inside-terms-requires : goal.inside-terms-requires
inside-terms-requires t c =
    let es = c.args.items.now in
    let rest : List Expr = take (length es - 1) (drop 1 es) in
    let split = first-and es c.first-item.result (omega (arith, ltb-false, c.in-len1-up.len_at_least)) c.first-item.is in
    let z : size (all_seen es) ≡ size (seen c.first-item.result) + size (all_seen rest) = first-size es c.first-item.result rest split in
    let y : 0 < size (seen c.first-item.result) = size-some c.first-item.result in
    (omega arith, c.requires)

pub inside-returns-in-Err-terms-clause-gives : goal.inside-returns-in-Err-terms-clause-gives
inside-returns-in-Err-terms-clause-gives t c =
    let old = c.args.self.now in
    let s = scope_seen old in
    let p = place c.args.line c.args.column in
    let q = place c.in-Group.l c.in-Group.c in
    let es = c.args.items.now in
    let rest : List Expr = take (length es - 1) (drop 1 es) in
    let split = first-and es c.first-item.result (omega (arith, ltb-false, c.in-len1-up.len_at_least)) c.first-item.is in
    let n = c.in-Ok-index_head.modulus in
    let eq : inside s p (all_seen es) ≡ (terms s [] (all_seen rest) >>= divided n p) =
    inside-group s p q es c.first-item.result rest (all_seen c.in-Group.index.now) split c.in-Group.ensures
    ∙ ap (λ (r : Read ℕ). r >>= λ n. terms s [] (all_seen rest) >>= divided n p) c.in-Ok-index_head.ensures in
    all-failed old.table c.terms.new.self.table c.terms.new.self.table (inside s p (all_seen es)) (terms s [] (all_seen rest)) (divided n p) c.in-Err-terms.fault eq c.in-Err-terms.ensures.gives

pub inside-returns-in-Ok-clause-gives : goal.inside-returns-in-Ok-clause-gives
inside-returns-in-Ok-clause-gives t c =
    let old = c.args.self.now in
    let s = scope_seen old in
    let p = place c.args.line c.args.column in
    let es = c.args.items.now in
    let rest : List Expr = take (length es - 1) (drop 1 es) in
    let split = first-and es c.first-item.result (omega (arith, ltb-false, c.in-len1-up.len_at_least)) c.first-item.is in
    let k : Head = head_seen old c.in-Ok.head in
    let eq : behind_head s p k (all_seen rest) ≡ inside s p (all_seen es) =
    sym (inside-token s p es c.first-item.result rest (lexeme c.in-Token.token) split c.in-Token.ensures
    ∙ ap (λ (r : Read Head). r >>= λ k. behind_head s p k (all_seen rest)) c.in-Ok.ensures.0) in
    gives_as old.table c.behind.new.self.table (behind_head s p k (all_seen rest)) (inside s p (all_seen es)) c.behind.result eq c.behind.ensures.gives

pub inside-returns-in-Ok-terms-clause-gives : goal.inside-returns-in-Ok-terms-clause-gives
inside-returns-in-Ok-terms-clause-gives t c =
    let old = c.args.self.now in
    let s = scope_seen old in
    let p = place c.args.line c.args.column in
    let q = place c.in-Group.l c.in-Group.c in
    let es = c.args.items.now in
    let rest : List Expr = take (length es - 1) (drop 1 es) in
    let split = first-and es c.first-item.result (omega (arith, ltb-false, c.in-len1-up.len_at_least)) c.first-item.is in
    let n = c.in-Ok-index_head.modulus in
    let eq : (terms s [] (all_seen rest) >>= divided n p) ≡ inside s p (all_seen es) =
    sym (inside-group s p q es c.first-item.result rest (all_seen c.in-Group.index.now) split c.in-Group.ensures
    ∙ ap (λ (r : Read ℕ). r >>= λ n. terms s [] (all_seen rest) >>= divided n p) c.in-Ok-index_head.ensures) in
    gives_as old.table c.divided.new.table (terms s [] (all_seen rest) >>= divided n p) (inside s p (all_seen es)) c.divided.result eq
    (after-all old.table c.terms.new.self.table c.divided.new.table (terms s [] (all_seen rest)) c.in-Ok-terms.terms c.as_slice.result.now (divided n p) c.divided.result
    c.in-Ok-terms.ensures.gives c.as_slice.ensures.value c.divided.ensures)

-- ---- `behind`

pub behind-returns-in-Let-clause-gives : goal.behind-returns-in-Let-clause-gives
behind-returns-in-Let-clause-gives t c =
    let old = c.args.self.now in
    let s = scope_seen old in
    let p = place c.args.line c.args.column in
    let xs = all_seen c.args.args.now in
    gives_as old.table c.let_term.new.self.table (let_term s p xs) (behind_head s p (head_seen old c.args.head) xs) c.let_term.result
    (behind-let old s p c.args.head xs c.in-Let.is) c.let_term.ensures.gives

pub behind-returns-in-Binder-clause-gives : goal.behind-returns-in-Binder-clause-gives
behind-returns-in-Binder-clause-gives t c =
    let old = c.args.self.now in
    let s = scope_seen old in
    let p = place c.args.line c.args.column in
    let xs = all_seen c.args.args.now in
    gives_as old.table c.binder.new.self.table (binder_term s p c.in-Binder.quantifier xs) (behind_head s p (head_seen old c.args.head) xs) c.binder.result
    (behind-binder old s p c.args.head xs c.in-Binder.quantifier c.in-Binder.is) c.binder.ensures.gives

pub behind-returns-in-Annotation-clause-gives : goal.behind-returns-in-Annotation-clause-gives
behind-returns-in-Annotation-clause-gives t c =
    let old = c.args.self.now in
    let s = scope_seen old in
    let p = place c.args.line c.args.column in
    let xs = all_seen c.args.args.now in
    gives_as old.table c.annotated.new.self.table (annotated_term s p xs) (behind_head s p (head_seen old c.args.head) xs) c.annotated.result
    (behind-annotation old s p c.args.head xs c.in-Annotation.is) c.annotated.ensures.gives

pub behind-returns-in-Err-clause-gives : goal.behind-returns-in-Err-clause-gives
behind-returns-in-Err-clause-gives t c =
    let old = c.args.self.now in
    let s = scope_seen old in
    let p = place c.args.line c.args.column in
    let xs = all_seen c.args.args.now in
    all-failed old.table c.terms.new.self.table c.terms.new.self.table (behind_head s p (head_seen old c.args.head) xs) (terms s [] xs) (operated c.in-Operator.op p) c.in-Err.fault
    (behind-operator old s p c.args.head xs c.in-Operator.op c.in-Operator.is) c.in-Err.ensures.gives

pub behind-returns-in-Err-terms-clause-gives : goal.behind-returns-in-Err-terms-clause-gives
behind-returns-in-Err-terms-clause-gives t c =
    let old = c.args.self.now in
    let s = scope_seen old in
    let p = place c.args.line c.args.column in
    let xs = all_seen c.args.args.now in
    let e : Entry = entry_at (meanings old.table) old.signatures.items c.in-Name.known in
    all-failed old.table c.terms-in-Name.new.self.table c.terms-in-Name.new.self.table (behind_head s p (head_seen old c.args.head) xs) (terms s [] xs) (use_of e p) c.in-Err-terms.fault
    (behind-name old s p c.args.head xs c.in-Name.known c.in-Name.is) c.in-Err-terms.ensures.gives

pub behind-returns-in-Ok-clause-gives : goal.behind-returns-in-Ok-clause-gives
behind-returns-in-Ok-clause-gives t c =
    let old = c.args.self.now in
    let s = scope_seen old in
    let p = place c.args.line c.args.column in
    let xs = all_seen c.args.args.now in
    let op = c.in-Operator.op in
    gives_as old.table c.operated.new.self.table (terms s [] xs >>= operated op p) (behind_head s p (head_seen old c.args.head) xs) c.operated.result
    (sym (behind-operator old s p c.args.head xs op c.in-Operator.is))
    (after-all old.table c.terms.new.self.table c.operated.new.self.table (terms s [] xs) c.in-Ok.terms c.as_slice.result.now (operated op p) c.operated.result
    c.in-Ok.ensures.gives c.as_slice.ensures.value c.operated.ensures.gives)

pub behind-returns-in-Ok-terms-clause-gives : goal.behind-returns-in-Ok-terms-clause-gives
behind-returns-in-Ok-terms-clause-gives t c =
    let old = c.args.self.now in
    let mid = c.terms-in-Name.new.self in
    let s = scope_seen old in
    let p = place c.args.line c.args.column in
    let xs = all_seen c.args.args.now in
    let known = c.in-Name.known in
    let e : Entry = entry_at (meanings old.table) old.signatures.items known in
    let d : Entry = entry_at (meanings mid.table) mid.signatures.items known in
    let lt : known.node < length old.table = name-in (length old.table) c.args.head known c.in-Name.is c.requires.head in
    let same : d ≡ e = entry-keeps old mid known c.in-Ok-terms.ensures.keeps c.in-Ok-terms.ensures.gives.2 lt in
    let ys = c.as_slice-in-Name.result.now in
    gives_as old.table c.used.new.self.table (terms s [] xs >>= use_of e p) (behind_head s p (head_seen old c.args.head) xs) c.used.result
    (sym (behind-name old s p c.args.head xs known c.in-Name.is))
    (after-all old.table mid.table c.used.new.self.table (terms s [] xs) c.in-Ok-terms.terms ys (use_of e p) c.used.result
    c.in-Ok-terms.ensures.gives c.as_slice-in-Name.ensures.value
    (gives_as mid.table c.used.new.self.table (use_of d p (all_at (meanings mid.table) ys)) (use_of e p (all_at (meanings mid.table) ys)) c.used.result
    (ap (λ (u : Entry). use_of u p (all_at (meanings mid.table) ys)) same) c.used.ensures.gives))

-- ---- `terms`

pub terms-term-requires : goal.terms-term-requires
terms-term-requires t c =
    let z = size-item c.args.items.now c.loop-item.item-index c.item-item.result c.loop-item-test.true c.item-item.is in
    (omega arith, fits-keeps c.args.self.now c.loop-item.self c.requires c.loop-item.invariant.keeps c.loop-item.invariant.grows)

pub terms-returns-in-Err-clause-gives : goal.terms-returns-in-Err-clause-gives
terms-returns-in-Err-clause-gives t c =
    let on = c.loop-item.invariant in
    terms-failed c.args.self.now c.loop-item.self c.term.new.self c.args.items.now c.loop-item.item-index c.item-item.result c.loop-item.terms.items c.in-Err.fault c.requires on.keeps on.grows
    c.loop-item-test.true c.item-item.is on.left c.in-Err.ensures.gives

pub terms-loop-item-preserved : goal.terms-loop-item-preserved
terms-loop-item-preserved t c =
    let old = c.args.self.now in
    let mid = c.loop-item.self in
    let new = c.term.new.self in
    let on = c.loop-item.invariant in
    let given = c.in-Ok.ensures.gives in
    record {
      keeps = keeps_then old mid new on.keeps c.in-Ok.ensures.keeps;
      grows = Extends-then old.table mid.table new.table on.grows given.2;
      within = within-more mid.table new.table c.loop-item.terms.items c.push.new.self.items c.in-Ok.seen on.within given.2 given.1 c.in_ok-push.ensures.items;
      left = terms-more old mid new c.args.items.now c.loop-item.item-index c.item-item.result c.loop-item.terms.items c.push.new.self.items c.in-Ok.seen c.requires on.keeps on.grows
          c.loop-item-test.true c.item-item.is on.within on.left given c.in_ok-push.ensures.items;
    }

pub terms-returns-clause-gives : goal.terms-returns-clause-gives
terms-returns-clause-gives t c =
    let on = c.loop-item.invariant in (
      terms-done (scope_seen c.args.self.now) (all_at (meanings c.loop-item.self.table) c.loop-item.terms.items) c.args.items.now c.loop-item.item-index c.loop-item-test.false on.left,
      on.within,
      on.grows,
    )

-- ---- `one`

pub one-returns-in-Err-clause-gives : goal.one-returns-in-Err-clause-gives
one-returns-in-Err-clause-gives t c =
    let old = c.args.self.now in
    let s = scope_seen old in
    let p = place c.args.line c.args.column in
    let xs = all_seen c.args.items.now in
    all-failed old.table c.terms.new.self.table c.terms.new.self.table (one_term s p xs) (terms s [] xs) (only p) c.in-Err.fault (one-is s p xs) c.in-Err.ensures.gives

pub one-returns-then-len-ne1-clause-gives : goal.one-returns-then-len-ne1-clause-gives
one-returns-then-len-ne1-clause-gives t c =
    one-wrong (scope_seen c.args.self.now) (place c.args.line c.args.column) c.args.items.now (meanings c.terms.new.self.table) c.in-Ok.terms.items c.in-Ok.ensures.gives.0
    (λ one. c.if-len-ne1.true (c.len.ensures ∙ omega (arith, one, c.in-Ok.terms.ok.0)))

pub one-returns-clause-gives : goal.one-returns-clause-gives
one-returns-clause-gives t c =
    let given = c.in-Ok.ensures.gives in
    let xs = c.in-Ok.terms.items in
    let x = c.index.result.now in
    let one : length xs ≡ 1 = omega (arith, c.if-len-ne1.false, c.len.ensures, c.in-Ok.terms.ok.0) in
    let ms = meanings c.terms.new.self.table in (
      one-right (scope_seen c.args.self.now) (place c.args.line c.args.column) c.args.items.now ms xs x x given.0 one c.index.ensures,
      first-in (length c.terms.new.self.table) xs x x given.1 one c.index.ensures,
      given.2,
    )

-- ---- `annotated`

pub annotated-returns-then-is_empty-clause-gives : goal.annotated-returns-then-is_empty-clause-gives
annotated-returns-then-is_empty-clause-gives t c = annotated-none (scope_seen c.args.self.now) (place c.args.line c.args.column) c.args.args.now (sym c.if-is_empty.ensures)

pub annotated-returns-in-Err-clause-gives : goal.annotated-returns-in-Err-clause-gives
annotated-returns-in-Err-clause-gives t c =
    let old = c.args.self.now in
    let s = scope_seen old in
    let p = place c.args.line c.args.column in
    let es = c.args.args.now in
    let x = c.index-args-0.result in
    one-failed old.table old.table c.term.new.self.table c.term.new.self.table (annotated_term s p (all_seen es)) (term s (part x)) (some_behind p (all_seen (drop 1 es))) c.in-Err.fault
    (annotated-is s p es x (sym c.if-is_empty.ensures) c.index-args-0.is) c.in-Err.ensures.gives

pub annotated-returns-then-args-eq1-clause-gives : goal.annotated-returns-then-args-eq1-clause-gives
annotated-returns-then-args-eq1-clause-gives t c =
    annotated-bare (scope_seen c.args.self.now) (place c.args.line c.args.column) c.args.args.now c.index-args-0.result (typed_at (meanings c.term.new.self.table) c.in-Ok.seen)
    (sym c.if-is_empty.ensures) c.index-args-0.is c.in-Ok.ensures.gives.0 c.if-args-eq1.true

pub annotated-returns-clause-gives : goal.annotated-returns-clause-gives
annotated-returns-clause-gives t c = (
  annotated-term (scope_seen c.args.self.now) (place c.args.line c.args.column) c.args.args.now c.index-args-0.result (typed_at (meanings c.term.new.self.table) c.in-Ok.seen)
      (sym c.if-is_empty.ensures) c.index-args-0.is c.in-Ok.ensures.gives.0 c.if-args-eq1.false,
  c.in-Ok.ensures.gives.1,
  c.in-Ok.ensures.gives.2,
)

-- ---- `let_term`

pub let_term-returns-in-Err-clause-gives : goal.let_term-returns-in-Err-clause-gives
let_term-returns-in-Err-clause-gives t c =
    let-failed (scope_seen c.args.self.now) (place c.args.line c.args.column) c.args.args.now c.args.self.now.table c.args.self.now.table c.in-Err.fault c.in-Err.ensures

pub let_term-bound-read-requires : goal.let_term-bound-read-requires
let_term-bound-read-requires t c =
    let z = c.in-Ok.ensures.1 in
    (omega arith, (c.requires, c.new-taken.ensures))

pub let_term-returns-in-Err-read-clause-gives : goal.let_term-returns-in-Err-read-clause-gives
let_term-returns-in-Err-read-clause-gives t c =
    let old = c.args.self.now in
    let-no_names (scope_seen old) (place c.args.line c.args.column) c.args.args.now c.in-Ok.found.0.now c.in-Ok.found.1.now old.table c.bound-read.new.self.table c.bound-read.new.self.table
    c.in-Err-read.fault c.in-Ok.ensures.0 c.in-Err-read.ensures.gives

pub let_term-add_bound-requires-clause-fits : goal.let_term-add_bound-requires-clause-fits
let_term-add_bound-requires-clause-fits t c = fits-keeps c.args.self.now c.bound-read.new.self c.requires c.in-Ok-read.ensures.keeps c.in-Ok-read.ensures.gives.2

pub let_term-one-requires : goal.let_term-one-requires
let_term-one-requires t c =
    let z = c.in-Ok.ensures.1 in
    (omega arith, c.in-Ok-add_bound.ensures.opens.fits)

pub let_term-returns-in-Err-one-clause-gives : goal.let_term-returns-in-Err-one-clause-gives
let_term-returns-in-Err-one-clause-gives t c =
    let old = c.args.self.now in
    let mid = c.bound-read.new.self in
    let inner = c.add_bound.new.self in
    let p = place c.args.line c.args.column in
    let read = one_term (scope_seen inner) p (all_seen c.in-Ok.found.1.now) in
    let eq : read ≡ let_term (scope_seen old) p (all_seen c.args.args.now) =
    let-opened old mid inner p c.args.args.now c.in-Ok.found.0.now c.in-Ok.found.1.now c.as_slice.result.now c.in-Ok-read.bound c.requires c.in-Ok.ensures.0 c.in-Ok-read.ensures.gives
    c.in-Ok-read.ensures.keeps c.as_slice.ensures.value c.in-Ok-add_bound.ensures.opens in
    one-fails old.table c.one.new.self.table (let_term (scope_seen old) p (all_seen c.args.args.now)) c.in-Err-one.fault
    (fails-as (let_term (scope_seen old) p (all_seen c.args.args.now)) read c.in-Err-one.fault (sym eq) (fails-one inner.table c.one.new.self.table read c.in-Err-one.fault c.in-Err-one.ensures.gives))

pub let_term-returns-clause-gives : goal.let_term-returns-clause-gives
let_term-returns-clause-gives t c =
    let old = c.args.self.now in
    let mid = c.bound-read.new.self in
    let inner = c.add_bound.new.self in
    let p = place c.args.line c.args.column in
    let given = c.in-Ok-one.ensures.gives in
    let eq : one_term (scope_seen inner) p (all_seen c.in-Ok.found.1.now) ≡ let_term (scope_seen old) p (all_seen c.args.args.now) =
    let-opened old mid inner p c.args.args.now c.in-Ok.found.0.now c.in-Ok.found.1.now c.as_slice.result.now c.in-Ok-read.bound c.requires c.in-Ok.ensures.0 c.in-Ok-read.ensures.gives
    c.in-Ok-read.ensures.keeps c.as_slice.ensures.value c.in-Ok-add_bound.ensures.opens in (
      sym eq ∙ given.0,
      given.1,
      Extends-then old.table mid.table c.one.new.self.table c.in-Ok-read.ensures.gives.2 (Extends-then mid.table inner.table c.one.new.self.table c.in-Ok-add_bound.ensures.opens.grows given.2),
    )

-- ---- `bound`

pub bound-term-requires : goal.bound-term-requires
bound-term-requires t c =
    let z = size-item c.args.items.now c.loop-item.item-index c.item-item.result c.loop-item-test.true c.item-item.is in
    let y = c.in-Ok.ensures.1 in
    (omega arith, fits-keeps c.args.self.now c.loop-item.self c.requires.fits c.loop-item.invariant.keeps c.loop-item.invariant.grows)

pub bound-returns-in-Err-clause-gives : goal.bound-returns-in-Err-clause-gives
bound-returns-in-Err-clause-gives t c =
    let on = c.loop-item.invariant in
    names-no_pair c.args.self.now c.loop-item.self c.loop-item.taken (bound_at (meanings c.loop-item.self.table) [] c.loop-item.bound.items) c.args.items.now c.loop-item.item-index c.item-item.result
    c.in-Err.fault on.keeps on.same_names c.loop-item-test.true c.item-item.is on.left c.in-Err.ensures

pub bound-returns-in-Err-term-clause-gives : goal.bound-returns-in-Err-term-clause-gives
bound-returns-in-Err-term-clause-gives t c =
    let on = c.loop-item.invariant in
    names-no_term c.args.self.now c.loop-item.self c.term.new.self c.loop-item.taken (bound_at (meanings c.loop-item.self.table) [] c.loop-item.bound.items) c.args.items.now c.loop-item.item-index
    c.item-item.result c.in-Ok.pair.0.now (part c.in-Ok.pair.1.now) c.in-Err-term.fault c.requires.fits on.keeps on.grows on.same_names c.loop-item-test.true c.item-item.is on.left
    c.in-Ok.ensures.0 c.in-Err-term.ensures.gives

pub bound-loop-item-preserved : goal.bound-loop-item-preserved
bound-loop-item-preserved t c =
    let old = c.args.self.now in
    let mid = c.loop-item.self in
    let new = c.term.new.self in
    let on = c.loop-item.invariant in
    let given = c.in-Ok-term.ensures.gives in
    let bs = c.loop-item.bound.items in
    let more = c.push-in-loop-item.new.self.items in
    let b : Bound = record { name = c.in-Ok.pair.0; seen = c.in-Ok-term.seen } in
    let known : Known = record { sort = c.in-Ok-term.seen.sort; node = c.in-Ok-term.seen.node; signature = 0 } in
    record {
      keeps = keeps_then old mid new on.keeps c.in-Ok-term.ensures.keeps;
      grows = Extends-then old.table mid.table new.table on.grows given.2;
      same_names = bound-alike mid.table new.table c.loop-item.taken c.push.new.self bs more b known on.same_names on.within given.2 c.in-Ok-push.ensures.ok c.in_ok-push.ensures.items;
      within = bound-within mid.table new.table bs more b on.within given.2 given.1 c.in_ok-push.ensures.items;
      left = names-more old mid new c.loop-item.taken bs more c.args.items.now c.loop-item.item-index c.item-item.result b (part c.in-Ok.pair.1.now) c.requires.fits on.keeps on.grows on.same_names
          on.within c.loop-item-test.true c.item-item.is on.left c.in-Ok.ensures.0 given c.in_ok-push.ensures.items;
    }

pub bound-returns-clause-gives : goal.bound-returns-clause-gives
bound-returns-clause-gives t c =
    let on = c.loop-item.invariant in (
      names-done (scope_seen c.args.self.now) (bound_at (meanings c.loop-item.self.table) [] c.loop-item.bound.items) c.args.items.now c.loop-item.item-index c.loop-item-test.false on.left,
      on.within,
      on.grows,
    )

-- ---- `binder`

pub binder-returns-in-Err-clause-gives : goal.binder-returns-in-Err-clause-gives
binder-returns-in-Err-clause-gives t c =
    binder-failed (scope_seen c.args.self.now) (place c.args.line c.args.column) c.args.quantifier c.args.args.now c.args.self.now.table c.args.self.now.table c.in-Err.fault c.in-Err.ensures

pub binder-returns-in-Err-sorted-clause-gives : goal.binder-returns-in-Err-sorted-clause-gives
binder-returns-in-Err-sorted-clause-gives t c =
    binder-no_sorts (scope_seen c.args.self.now) (place c.args.line c.args.column) c.args.quantifier c.args.args.now c.in-Ok.found.0.now c.in-Ok.found.1.now c.args.self.now.table
    c.args.self.now.table c.in-Err-sorted.fault c.in-Ok.ensures.0 c.in-Err-sorted.ensures

pub binder-one-requires : goal.binder-one-requires
binder-one-requires t c =
    let z = c.in-Ok.ensures.1 in
    (omega arith, c.in-Ok-add_variables.ensures.opens.fits)

pub binder-returns-in-Err-one-clause-gives : goal.binder-returns-in-Err-one-clause-gives
binder-returns-in-Err-one-clause-gives t c =
    binder-no_body c.args.self.now c.add_variables.new.self (place c.args.line c.args.column) c.args.quantifier c.args.args.now c.in-Ok.found.0.now c.in-Ok.found.1.now c.as_slice.result.now
    c.in-Ok-sorted.variables c.one.new.self.table c.one.new.self.table c.in-Err-one.fault c.in-Ok.ensures.0 c.in-Ok-sorted.ensures c.as_slice.ensures.value c.in-Ok-add_variables.ensures.opens
    c.in-Err-one.ensures.gives

pub binder-returns-clause-gives : goal.binder-returns-clause-gives
binder-returns-clause-gives t c =
    binder-made c.args.self.now c.add_variables.new.self (place c.args.line c.args.column) (place c.first_place-at.result.0 c.first_place-at.result.1) c.args.quantifier c.args.args.now
    c.in-Ok.found.0.now c.in-Ok.found.1.now c.as_slice.result.now c.as_slice-list.result.now c.in-Ok-sorted.variables c.one.new.self.table c.quantified.new.table c.in-Ok-one.seen c.quantified.result
    c.in-Ok.ensures.0 c.in-Ok-sorted.ensures c.as_slice.ensures.value c.in-Ok-add_variables.ensures.opens c.in-Ok-one.ensures.gives c.as_slice-list.ensures.value c.first_place-at.ensures
    c.quantified.ensures
