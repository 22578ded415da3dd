-- Commands, one after the other.
use Rattle.std.proofs.Common.{◌≡◌, ℕ, Bool, true, false, cond, List, [], ◌∷◌, map, Result, Ok, Err, refl, sym, ap, subst, ◌∙◌}
use Rattle.ss_names.specs.declared.FaultKind.{FaultKind}
use Rattle.ss_names.specs.declared.FaultKind.TheVariants as kind
use Rattle.ss_names.specs.declared.ScriptFault.{ScriptFault}
use Rattle.ss_names.specs.declared.ScriptFault.TheVariants.{Bad, Memory}
use Rattle.smt_lex.specs.Lexeme.{Lexeme, Found}
use Rattle.smt_lex.specs.Place.{Place}
use Rattle.smt_lex.specs.Tokens.{tokens}
use Rattle.smt_tree.specs.declared.Expr.{Expr}
use Rattle.smt_tree.specs.Sexp.{Sexps}
use Rattle.smt_tree.specs.Expressions.{expressions}
use Rattle.smt_tree.specs.Seen.{seen, all_seen, Gives}
use Rattle.smt_term.specs.Reading.{Read, ◌>>=◌, refuse, Part, token, group, part_place}
use Rattle.smt_term.specs.View.{part}
use Rattle.smt_term.proofs.PartLemmas.{whole, seen-shape, parts-all}
use Rattle.smt_goal.specs.declared.session.Session.{Session}
use Rattle.smt_goal.specs.Command.{State, start, command, headed}
use Rattle.smt_goal.specs.Script.{obeyed_all}
use Rattle.smt_goal.specs.Session.{state_seen, IsReady, Obeys, Reaches, Passes}

-- a command that changes nothing
pub passes-obeys : (s : Session) (read : Read State) (r : Result (Unit {0}) ScriptFault) → IsReady s → Passes (state_seen s) read r → Obeys read r s
passes-obeys s read (Ok u) ready is = (is, ready)
passes-obeys s read (Err (Bad k line column)) ready is = is
passes-obeys s read (Err Memory) ready is = tt

command-whole : (st : State) (p : Part) (e : Expr) → part e ≡ p → command st (seen e) ≡ command st (whole p)
command-whole st p e is = ap (command st) (seen-shape e ∙ ap whole is)

-- a token alone is no command
pub command-token : (st : State) (q : Part) (t : Lexeme) (e : Expr) → q ≡ part e → q ≡ token t → command st (seen e) ≡ refuse kind.Unclosed (part_place q)
unfolding command
command-token st q t e is tok =
    command-whole st (token t) e (sym is ∙ tok) ∙ ap (λ (x : Part). refuse kind.Unclosed (part_place x)) (sym tok)

-- what stands in the parentheses of a command
pub command-group : (st : State) (p : Place) (es : List Expr) (q : Part) (e : Expr) → q ≡ part e → q ≡ group p (all_seen es) → command st (seen e) ≡ headed st p (map part es)
unfolding command
command-group st p es q e is gr = command-whole st (group p (all_seen es)) e (sym is ∙ gr) ∙ ap (headed st p) (parts-all es)

pub obeys-as : (read same : Read State) (r : Result (Unit {0}) ScriptFault) (s : Session) → same ≡ read → Obeys read r s → Obeys same r s
obeys-as read same r s is given = subst (λ (x : Read State). Obeys x r s) (sym is) given

-- ---- the steps of a script

-- what is read from here on is what is read in all
abbrev pub Walked : Read State → Session → List Found → Type 0
Walked all s left = (all ≡ obeyed_all (state_seen s) (expressions left)) × IsReady s

step-is : (st : State) (e : Sexps) (rest : List (Result Sexps ScriptFault)) → obeyed_all st (Ok e ∷ rest) ≡ (command st e >>= λ next. cond next.ended (Ok next) (obeyed_all next rest))
unfolding obeyed_all
step-is st e rest = refl

step_given : (all : Read State) (st : State) (e : Sexps) (from : List Found) (rest : List Found) → all ≡ obeyed_all st (expressions from) → expressions from ≡ Ok e ∷ expressions rest
    → all ≡ (command st e >>= λ next. cond next.ended (Ok next) (obeyed_all next (expressions rest)))
step_given all st e from rest walked is = walked ∙ ap (obeyed_all st) is ∙ step-is st e (expressions rest)

-- a command, and more to come
pub goes_on : (all : Read State) (old new : Session) (e : Expr) (from rest : List Found) → Walked all old from → expressions from ≡ Ok (seen e) ∷ expressions rest
    → (command (state_seen old) (seen e) ≡ Ok (state_seen new)) × IsReady new → new.ended ≡ false → Walked all new rest
goes_on all old new e from rest walked is done ended = (
  step_given all (state_seen old) (seen e) from rest walked.0 is
      ∙ ap (λ (r : Read State). r >>= λ next. cond next.ended (Ok next) (obeyed_all next (expressions rest))) done.0
      ∙ ap (λ (b : Bool). cond b (Ok (state_seen new)) (obeyed_all (state_seen new) (expressions rest))) ended,
  done.1,
)

-- `exit`
pub exits : (all : Read State) (old new : Session) (e : Expr) (from rest : List Found) → Walked all old from → expressions from ≡ Ok (seen e) ∷ expressions rest
    → (command (state_seen old) (seen e) ≡ Ok (state_seen new)) × IsReady new → new.ended ≡ true → (all ≡ Ok (state_seen new)) × IsReady new
exits all old new e from rest walked is done ended = (
  step_given all (state_seen old) (seen e) from rest walked.0 is
      ∙ ap (λ (r : Read State). r >>= λ next. cond next.ended (Ok next) (obeyed_all next (expressions rest))) done.0
      ∙ ap (λ (b : Bool). cond b (Ok (state_seen new)) (obeyed_all (state_seen new) (expressions rest))) ended,
  done.1,
)

-- a command with a fault
pub breaks : (all : Read State) (old new : Session) (e : Expr) (from rest : List Found) (f : ScriptFault) → Walked all old from → expressions from ≡ Ok (seen e) ∷ expressions rest
    → Obeys (command (state_seen old) (seen e)) (Err f) new → Reaches all (Err f)
breaks all old new e from rest (Bad k line column) walked is bad =
    step_given all (state_seen old) (seen e) from rest walked.0 is
    ∙ ap (λ (r : Read State). r >>= λ next. cond next.ended (Ok next) (obeyed_all next (expressions rest))) bad
breaks all old new e from rest Memory walked is bad = tt

-- an expression with a fault
pub refused : (all : Read State) (s : Session) (from rest : List Found) (f : ScriptFault) → Walked all s from → Gives (expressions from) (Err f) rest → Reaches all (Err f)
unfolding obeyed_all
refused all s from rest (Bad k line column) walked is = walked.0 ∙ ap (obeyed_all (state_seen s)) is
refused all s from rest Memory walked is = tt

-- the end of the script
pub ends : (all : Read State) (s : Session) (from : List Found) → Walked all s from → expressions from ≡ [] → (all ≡ Ok (state_seen s)) × IsReady s
unfolding obeyed_all
ends all s from walked is = (walked.0 ∙ ap (obeyed_all (state_seen s)) is, walked.1)

pub begins : (bytes : List ℕ) (s : Session) (left : List Found) → state_seen s ≡ start → IsReady s → left ≡ tokens bytes → Walked (obeyed_all start (expressions (tokens bytes))) s left
begins bytes s left is ready left_is = (sym (λ k. obeyed_all (is k) (expressions (left_is k))), ready)

-- a fault at an expression
pub obeys-fault : {k : FaultKind} {p : Place} (read : Read State) (f : ScriptFault) (s : Session) → read ≡ refuse k p → f ≡ Bad k p.line p.column → Obeys read (Err f) s
obeys-fault read f s is fault = subst (λ (x : ScriptFault). Obeys read (Err x) s) (sym fault) is
