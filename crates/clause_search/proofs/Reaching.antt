-- The steps by which what is left is taken apart.
use Rattle.std.specs.Prelude.{ℕ, zero, suc, ◌<◌, ◌≡◌, Some, option_map, slice_get, get_or, List, [], ◌∷◌, ◌++◌, map, drop, length, reverse}
use Rattle.std.specs.List.{AllByRecursion}
use Rattle.std.proofs.Common.{ap, arith, ◌∙◌, sym, subst, refl, append_assoc, append-nil}
use Rattle.std.proofs.lemmas.List.{reverse-append}
use Rattle.lin_term.specs.declared.Sort.{Sort}
use Rattle.lin_term.specs.declared.Lit.{Lit}
use Rattle.dom_core.specs.Game.{Matrix, neg_matrix, rename_matrix}
use Rattle.dom_core.specs.View.{matrix_of}
use Rattle.game_tree.specs.View.{skeleton_of}
use Rattle.lose_system.specs.Losing.{System, routes}
use Rattle.lose_system.specs.Written.{WrittenSystem, system_of}
use Rattle.cube_rules.specs.declared.Step.{Step}
use Rattle.cube_rules.specs.declared.Step.TheVariants as step
use Rattle.proof_rules.specs.Held.{part_on}
use Rattle.clause_search.specs.declared.goal.Part.{Part}
use Rattle.clause_search.specs.declared.goal.Goal.{Goal}
use Rattle.clause_search.specs.Taken.{facts_alone, rules_of, Meets, GoesThrough, MeetsFacts, StopsBehind, Completes, matrix_at, taken_by, left_of, Stands, IsBehind}
use Rattle.clause_search.specs.Searching.{Reaches}
use Rattle.clause_search.proofs.Leading.{leads_nothing, leads_then}
use Rattle.clause_search.proofs.Rules.{path_leads}

-- ---- lists

pub got_left : {A : Type 0} (xs ys : List A) (i : ℕ) (x : A) → slice_get xs i ≡ Some x → slice_get (xs ++ ys) i ≡ Some x
got_left {A} [] ys i x e = absurd (cc)
got_left {A} (z ∷ xs) ys zero x e = e
got_left {A} (z ∷ xs) ys (suc i) x e = got_left xs ys i x e

pub got_last : {A : Type 0} (xs : List A) (x : A) → slice_get (xs ++ x ∷ []) (length xs) ≡ Some x
got_last {A} [] x = refl
got_last {A} (z ∷ xs) x = got_last xs x

-- a place of a list with one more element is one of the list, or the last
pub got_either : {A : Type 0} (P : A → Type 0) (xs : List A) (x y : A) (i : ℕ) → slice_get (xs ++ x ∷ []) i ≡ Some y → ((j : ℕ) → slice_get xs j ≡ Some y → P y) → P x → P y
got_either {A} P [] x y zero e f p = subst P (same x y e) p
  where
    same : (a b : A) → Some a ≡ Some b → a ≡ b
    same a b h = cc
got_either {A} P [] x y (suc i) e f p = absurd (cc)
got_either {A} P (z ∷ xs) x y zero e f p = f 0 e
got_either {A} P (z ∷ xs) x y (suc i) e f p = got_either P xs x y i e (λ j h. f (suc j) h) p

pub length-more : {A : Type 0} (xs : List A) (x : A) → length (xs ++ x ∷ []) ≡ suc (length xs)
length-more {A} [] x = refl
length-more {A} (z ∷ xs) x = ap suc (length-more xs x)

pub all_more : {A : Type 0} (P : A → Type 0) (xs : List A) (x : A) → AllByRecursion P xs → P x → AllByRecursion P (xs ++ x ∷ [])
all_more {A} P [] x h p = (p, tt)
all_more {A} P (z ∷ xs) x h p = (h.0, all_more P xs x h.1 p)

pub all_less : {A : Type 0} (P : A → Type 0) (xs : List A) (x : A) → AllByRecursion P (xs ++ x ∷ []) → AllByRecursion P xs × P x
all_less {A} P [] x h = (tt, h.0)
all_less {A} P (z ∷ xs) x h = let r = all_less P xs x h.1 in ((h.0, r.0), r.1)

pub all_weaker : {A : Type 0} (P Q : A → Type 0) (xs : List A) → ((x : A) → P x → Q x) → AllByRecursion P xs → AllByRecursion Q xs
all_weaker {A} P Q [] f h = tt
all_weaker {A} P Q (x ∷ xs) f h = (f x h.0, all_weaker P Q xs f h.1)

-- ---- facts that were there stand where they did

pub stands_more : (s : Sort) (w : WrittenSystem) (F : List Matrix) (m : Matrix) (x : Part) → Stands s w F x → Stands s w (F ++ m ∷ []) x
stands_more s w F m x h = got_left F (m ∷ []) x.number (matrix_at s w x) h

pub all_stand_more : (s : Sort) (w : WrittenSystem) (F : List Matrix) (m : Matrix) (xs : List Part) → AllByRecursion (Stands s w F) xs → AllByRecursion (Stands s w (F ++ m ∷ [])) xs
all_stand_more s w F m xs h = all_weaker (Stands s w F) (Stands s w (F ++ m ∷ [])) xs (λ x k. stands_more s w F m x k) h

-- the new fact stands behind those before
pub stands_last : (s : Sort) (w : WrittenSystem) (F : List Matrix) (m : Matrix) (x : Part) → x.number ≡ length F → matrix_at s w x ≡ m → Stands s w (F ++ m ∷ []) x
stands_last s w F m x e f =
    ap (slice_get (F ++ m ∷ [])) e ∙ got_last F m ∙ ap (λ (n : Matrix). Some n) (sym f)

-- the last part that waits is the first that is left
pub left_more : (s : Sort) (w : WrittenSystem) (waiting : List Part) (x : Part) → map (matrix_at s w) (reverse (waiting ++ x ∷ [])) ≡ matrix_at s w x ∷ map (matrix_at s w) (reverse waiting)
left_more s w waiting x = ap (map (matrix_at s w)) (reverse-append waiting (x ∷ []))

-- ---- composed

pub reaches_self : (s : Sort) (w : WrittenSystem) (g : Goal) (lines : List Step) → Reaches s w g lines g lines
reaches_self s w g lines F h = record {
  facts = F;
  added = [];
  written = sym (append-nil lines);
  behind = h;
  leads = leads_nothing (rules_of s w) (facts_alone F ∷ []);
  stops = λ k. k;
}

pub reaches_then : (s : Sort) (w : WrittenSystem) (g h k : Goal) (xs ys zs : List Step) → Reaches s w g xs h ys → Reaches s w h ys k zs → Reaches s w g xs k zs
reaches_then s w g h k xs ys zs p q F b =
    let a = p F b in
    let c = q a.facts a.behind in
    record {
      facts = c.facts;
      added = a.added ++ c.added;
      written = c.written ∙ ap (λ (ls : List Step). ls ++ c.added) a.written ∙ append_assoc xs a.added c.added;
      behind = c.behind;
      leads = leads_then (rules_of s w) (facts_alone F ∷ []) (facts_alone a.facts ∷ []) (facts_alone c.facts ∷ []) a.added c.added a.leads c.leads;
      stops = λ u. a.stops (c.stops u);
    }

-- ---- a path becomes a fact

got_map : {A B : Type 0} (f : A → B) (xs : List A) (i : ℕ) → slice_get (map f xs) i ≡ option_map f (slice_get xs i)
got_map {A} {B} f [] i = refl
got_map {A} {B} f (x ∷ xs) zero = refl
got_map {A} {B} f (x ∷ xs) (suc i) = got_map f xs i

pub got_or : {A : Type 0} (xs : List A) (i : ℕ) (d : A) → i < length xs → slice_get xs i ≡ Some (get_or xs i d)
got_or {A} [] i d h = absurd (omega arith)
got_or {A} (x ∷ xs) zero d h = refl
got_or {A} (x ∷ xs) (suc i) d h = got_or xs i d (omega arith)

-- what path k asserts is the whole matrix on it
pub path_at : (s : Sort) (w : WrittenSystem) (k : ℕ) → k < length (routes (skeleton_of w.tree) [] 0) → slice_get (system_of s w).paths k ≡ Some (part_on s w k (matrix_of w.problem.matrix))
path_at s w k h =
    got_map (rename_matrix (neg_matrix (matrix_of w.problem.matrix) s)) (routes (skeleton_of w.tree) [] 0) k
    ∙ ap (option_map (rename_matrix (neg_matrix (matrix_of w.problem.matrix) s))) (got_or (routes (skeleton_of w.tree) [] 0) k [] h)

dropped : {A : Type 0} (xs : List A) (k : ℕ) (x : A) → slice_get xs k ≡ Some x → drop k xs ≡ x ∷ drop (suc k) xs
dropped {A} [] k x e = absurd (cc)
dropped {A} (z ∷ xs) zero x e = ap (λ (y : A). y ∷ xs) (same z x e)
  where
    same : (a b : A) → Some a ≡ Some b → a ≡ b
    same a b h = cc
dropped {A} (z ∷ xs) (suc k) x e = dropped xs k x e

-- a fact that each branch through the others goes through
pub stops_less : (s : Sort) (sys : System) (F : List Matrix) (m : Matrix) → ((b : List Lit) → GoesThrough sys b → MeetsFacts F b → Meets m b) → StopsBehind s sys (F ++ m ∷ []) → StopsBehind s sys F
stops_less s sys F m h k b g f =
    k b g (λ i n e. got_either (λ (x : Matrix). Meets x b) F m n i e (λ j u. f j n u) (h b g f))

pub path_reaches : (s : Sort) (w : WrittenSystem) (g h : Goal) (x : Part) (before now : List Step) → g.next < length (routes (skeleton_of w.tree) [] 0) → g.waiting ≡ [] → x.number ≡ g.count → matrix_at s w x ≡ part_on s w g.next (matrix_of w.problem.matrix) → h ≡ record { count = suc g.count; next = suc g.next; waiting = g.waiting ++ x ∷ []; lits = g.lits } → now ≡ before ++ step.Path g.next ∷ [] → Reaches s w g before h now
path_reaches s w g h x before now k o n e q l F b =
    let m = part_on s w g.next (matrix_of w.problem.matrix) in
    let p = path_at s w g.next k in
    record {
      facts = F ++ m ∷ [];
      added = step.Path g.next ∷ [];
      written = l;
      behind = subst (λ (y : Goal). IsBehind s w (F ++ m ∷ []) y) (sym q) (record {
        count = length-more F m ∙ ap suc b.count;
        waiting = all_more (Stands s w (F ++ m ∷ [])) g.waiting x (all_stand_more s w F m g.waiting b.waiting) (stands_last s w F m x (n ∙ sym b.count) e);
        lits = all_stand_more s w F m g.lits b.lits;
        completes = subst (λ (ms : List Matrix). Completes (system_of s w) (taken_by s w g) ms) (left_now m p) b.completes;
      });
      leads = path_leads s w F g.next m p;
      stops = stops_less s (system_of s w) F m (λ c t u. t.paths g.next m p);
    }
  where
    left_now : (m : Matrix) → slice_get (system_of s w).paths g.next ≡ Some m → left_of s w g ≡ map (matrix_at s w) (reverse (g.waiting ++ x ∷ [])) ++ drop (suc g.next) (system_of s w).paths
    left_now m p =
        ap (λ (xs : List Part). map (matrix_at s w) (reverse xs) ++ drop g.next (system_of s w).paths) o
        ∙ dropped (system_of s w).paths g.next m p
        ∙ ap (λ (y : Matrix). y ∷ drop (suc g.next) (system_of s w).paths) (path_seen m p)
        ∙ sym (ap (λ (ms : List Matrix). ms ++ drop (suc g.next) (system_of s w).paths) (left_more s w g.waiting x ∙ ap (λ (xs : List Part). matrix_at s w x ∷ map (matrix_at s w) (reverse xs)) o))
      where
        path_seen : (m : Matrix) → slice_get (system_of s w).paths g.next ≡ Some m → m ≡ matrix_at s w x
        path_seen m p = same m (part_on s w g.next (matrix_of w.problem.matrix)) (sym p ∙ path_at s w g.next k) ∙ sym e
          where
            same : (a c : Matrix) → Some a ≡ Some c → a ≡ c
            same a c h = cc
