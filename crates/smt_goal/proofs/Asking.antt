-- The goals of a script, one after the other.
use Rattle.std.proofs.Common.{◌≡◌, ℕ, zero, suc, ◌+◌, ◌<◌, ◌≤◌, List, [], ◌∷◌, ◌++◌, length, map, take, drop, get_or, Result, Ok, Err, refl, sym, ap, subst, ◌∙◌, arith}
use Rattle.std.specs.Global.{Vec}
use Rattle.ss_names.specs.declared.ScriptFault.{ScriptFault}
use Rattle.ss_names.specs.declared.ScriptFault.TheVariants.{Bad, Memory}
use Rattle.lin_truth.specs.Goal.{Goal, IsGoal}
use Rattle.term_table.specs.Meaning.{Meaning}
use Rattle.smt_lex.specs.Tokens.{tokens}
use Rattle.smt_tree.specs.Expressions.{expressions}
use Rattle.smt_term.specs.Reading.{Read, ◌>>=◌}
use Rattle.smt_goal.specs.declared.session.Question.{Question}
use Rattle.smt_goal.specs.Command.{Asked, State, start}
use Rattle.smt_goal.specs.Script.{Questions, all_sized, questions, obeyed_all, read}
use Rattle.smt_goal.specs.Session.{asked_at, RootsIn, Reaches}
use Rattle.smt_goal.specs.Answer.{asked_by, AllGoals, IsFormedBody, AllFormed, GivesGoal, GivesGoals, Answers, Asking}
use Rattle.smt_goal.proofs.Growing.{map-push}

drop-map : {A B : Type 0} (f : A → B) (xs : List A) (i : ℕ) (d : A) → i < length xs → drop i (map f xs) ≡ f (get_or xs i d) ∷ drop (i + 1) (map f xs)
drop-map f [] i d lt = absurd (omega arith)
drop-map f (x ∷ xs) zero d lt = refl
drop-map f (x ∷ xs) (suc i) d lt = let e : suc i + 1 ≡ suc (i + 1) = omega arith in
    drop-map f xs i d (omega arith) ∙ ap (λ (n : ℕ). f (get_or xs i d) ∷ drop n (map f (x ∷ xs))) (sym e)

take-map : {A B : Type 0} (f : A → B) (xs : List A) (i : ℕ) (d : A) → i < length xs → take (i + 1) (map f xs) ≡ take i (map f xs) ++ f (get_or xs i d) ∷ []
take-map f [] i d lt = absurd (omega arith)
take-map f (x ∷ xs) zero d lt = refl
take-map f (x ∷ xs) (suc i) d lt = let e : suc i + 1 ≡ suc (i + 1) = omega arith in
    ap (λ (n : ℕ). take n (map f (x ∷ xs))) e ∙ ap (λ ys. f x ∷ ys) (take-map f xs i d (omega arith))

drop-whole : {A B : Type 0} (f : A → B) (xs : List A) (i : ℕ) → length xs ≤ i → drop i (map f xs) ≡ []
drop-whole f [] zero le = refl
drop-whole f [] (suc i) le = refl
drop-whole f (x ∷ xs) zero le = absurd (omega arith)
drop-whole f (x ∷ xs) (suc i) le = drop-whole f xs i (omega arith)

take-whole : {A B : Type 0} (f : A → B) (xs : List A) (i : ℕ) → length xs ≤ i → take i (map f xs) ≡ map f xs
take-whole f [] zero le = refl
take-whole f [] (suc i) le = refl
take-whole f (x ∷ xs) zero le = absurd (omega arith)
take-whole f (x ∷ xs) (suc i) le = ap (λ ys. f x ∷ ys) (take-whole f xs i (omega arith))

pub root_in : (n : ℕ) (qs : List Question) (i : ℕ) (d : Question) → RootsIn n qs → i < length qs → (get_or qs i d).root < n
root_in n [] i d within lt = absurd (omega arith)
root_in n (q ∷ qs) zero d within lt = within.0
root_in n (q ∷ qs) (suc i) d within lt = root_in n qs i d within.1 (omega arith)

pub formed_at : (ms : List Meaning) (qs : List Question) (i : ℕ) (d : Question) → AllFormed (map (asked_at ms) qs) → i < length qs → IsFormedBody (asked_at ms (get_or qs i d))
formed_at ms [] i d all lt = absurd (omega arith)
formed_at ms (q ∷ qs) zero d all lt = all.0
formed_at ms (q ∷ qs) (suc i) d all lt = formed_at ms qs i d all.1 (omega arith)

-- the goals of the first i questions, and the faults that are left
pub record AskedOn (gs : List Asked) (i : ℕ) (goals : List Goal) : Type 0 where
  pub asked : map asked_by goals ≡ take i gs
  pub formed : AllGoals goals
  pub left : (next : Read Questions) → all_sized gs next ≡ all_sized (drop i gs) next

pub none_asked : (gs : List Asked) → AskedOn gs 0 []
none_asked gs = record { asked = refl; formed = tt; left = λ next. refl }

AllGoals-push : (goals : List Goal) (g : Goal) → AllGoals goals → IsGoal g → AllGoals (goals ++ g ∷ [])
AllGoals-push [] g all is = (is, tt)
AllGoals-push (h ∷ goals) g all is = (all.0, AllGoals-push goals g all.1 is)

pub one_asked : (ms : List Meaning) (qs : List Question) (i : ℕ) (d : Question) (goals new : List Goal) (g : Goal) → AskedOn (map (asked_at ms) qs) i goals → i < length qs
    → GivesGoal (asked_at ms (get_or qs i d)) (Ok g) → new ≡ goals ++ g ∷ [] → AskedOn (map (asked_at ms) qs) (i + 1) new
one_asked ms qs i d goals new g on lt given new_is = record {
  asked = ap (map asked_by) new_is ∙ map-push asked_by goals g ∙ (λ k. on.asked k ++ given.0 k ∷ []) ∙ sym (take-map (asked_at ms) qs i d lt);
  formed = subst AllGoals (sym new_is) (AllGoals-push goals g on.formed given.1);
  left = λ next. on.left next ∙ ap (λ (gs : List Asked). all_sized gs next) (drop-map (asked_at ms) qs i d lt) ∙ given.2 (all_sized (drop (i + 1) (map (asked_at ms) qs)) next);
}

pub one_refused : (ms : List Meaning) (qs : List Question) (i : ℕ) (d : Question) (goals : List Goal) (f : ScriptFault) → AskedOn (map (asked_at ms) qs) i goals → i < length qs
    → GivesGoal (asked_at ms (get_or qs i d)) (Err f) → GivesGoals (map (asked_at ms) qs) (Err f)
one_refused ms qs i d goals (Bad k line column) on lt given =
    λ next. on.left next ∙ ap (λ (gs : List Asked). all_sized gs next) (drop-map (asked_at ms) qs i d lt) ∙ given (all_sized (drop (i + 1) (map (asked_at ms) qs)) next)
one_refused ms qs i d goals Memory on lt given = tt

pub all_asked : (ms : List Meaning) (qs : List Question) (i : ℕ) (goals : Vec Goal) → AskedOn (map (asked_at ms) qs) i goals.items → length qs ≤ i → GivesGoals (map (asked_at ms) qs) (Ok goals)
all_asked ms qs i goals on le = (
  on.asked ∙ take-whole (asked_at ms) qs i le,
  on.formed,
  λ next. on.left next ∙ ap (λ (gs : List Asked). all_sized gs next) (drop-whole (asked_at ms) qs i le),
)

-- ---- the same, of a question that was looked up

pub root_of : (n : ℕ) (qs : List Question) (i : ℕ) (q : Question) → q ≡ get_or qs i q → RootsIn n qs → i < length qs → q.root < n
root_of n qs i q is within lt = subst (λ (x : Question). x.root < n) (sym is) (root_in n qs i q within lt)

pub formed_of : (ms : List Meaning) (qs : List Question) (i : ℕ) (q : Question) → q ≡ get_or qs i q → AllFormed (map (asked_at ms) qs) → i < length qs → IsFormedBody (asked_at ms q)
formed_of ms qs i q is all lt = subst (λ (x : Question). IsFormedBody (asked_at ms x)) (sym is) (formed_at ms qs i q all lt)

pub given_of : (ms : List Meaning) (qs : List Question) (i : ℕ) (q : Question) (r : Result Goal ScriptFault) → q ≡ get_or qs i q → GivesGoal (asked_at ms q) r → GivesGoal (asked_at ms (get_or qs i q)) r
given_of ms qs i q r is given = subst (λ (x : Question). GivesGoal (asked_at ms x) r) is given

-- ---- the whole script

-- a fault of the commands is one of the script
pub read_fault : (bytes : List ℕ) (f : ScriptFault) → Reaches (obeyed_all start (expressions (tokens bytes))) (Err f) → Answers (read bytes) (Err f)
unfolding read
read_fault bytes (Bad k line column) is = ap (λ (r : Read State). r >>= λ st. all_sized st.goals (Ok (questions st))) is
read_fault bytes Memory is = tt

pub read_goals : (bytes : List ℕ) (st : State) (r : Result Asking ScriptFault) → obeyed_all start (expressions (tokens bytes)) ≡ Ok st → Answers (all_sized st.goals (Ok (questions st))) r → Answers (read bytes) r
unfolding read
read_goals bytes st r is given = subst (λ (x : Read State). Answers (x >>= λ st. all_sized st.goals (Ok (questions st))) r) (sym is) given
