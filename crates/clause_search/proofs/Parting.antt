-- A literal is taken, and a conjunction is taken apart.
use Rattle.std.specs.Prelude.{ℕ, zero, suc, ◌+◌, ◌<◌, ◌≤◌, ◌≡◌, ◌↔◌, IsTrue, Bool, true, false, Some, get_or, List, [], ◌∷◌, ◌++◌, map, drop, length, reverse}
use Rattle.std.specs.List.{AllByRecursion}
use Rattle.std.proofs.Common.{ap, arith, ◌∙◌, sym, subst, refl, append_assoc, append-nil, inl, inr}
use Rattle.std.proofs.lemmas.Bool.{cases_lt}
use Rattle.std.proofs.lemmas.List.{map-append}
use Rattle.lin_term.specs.declared.Sort.{Sort}
use Rattle.lin_term.specs.declared.Lit.{Lit}
use Rattle.dom_core.specs.declared.Matrix.{Matrix as Tree, Lit as Leaf, And, Or}
use Rattle.dom_core.specs.Game.{Matrix, lit, all, some, Matrices, none, more, IsMatrix, neg_matrix, rename_matrix}
use Rattle.lin_term.specs.Literal.{neg, rename_lit}
use Rattle.game_tree.specs.View.{skeleton_of}
use Rattle.dom_core.specs.Problem.{HasNegations, IsProblem}
use Rattle.dom_core.specs.View.{matrix_of, matrices_of}
use Rattle.dom_core.proofs.AddingLemmas.{split_at}
use Rattle.lose_system.specs.Losing.{routes}
use Rattle.lose_system.specs.Written.{WrittenSystem, system_of}
use Rattle.lose_system.proofs.LostLemmas.{matrix_part, negations_part}
use Rattle.cube_rules.specs.declared.Step.{Step}
use Rattle.cube_rules.specs.declared.Step.TheVariants as step
use Rattle.cube_rules.specs.Facts.{child}
use Rattle.proof_rules.specs.Held.{part_on, parts_on, nodes_on, IsPath}
use Rattle.proof_rules.proofs.PartLemmas.{matrix_and, matrix_or, matrix_lit}
use Rattle.clause_search.specs.declared.goal.Part.{Part}
use Rattle.clause_search.specs.declared.goal.Goal.{Goal}
use Rattle.clause_search.specs.Taken.{Leads, facts_alone, rules_of, Meets, MeetsAll, StopsBehind, Completes, matrix_at, literals_in, taken_by, left_of, Stands, IsBehind, IsPart, IsGoal}
use Rattle.clause_search.specs.Searching.{Reaches, ReachesFork, ReachesEnd, with_open}
use Rattle.clause_search.proofs.Leading.{leads_nothing, leads_then}
use Rattle.clause_search.proofs.Rules.{part_leads}
use Rattle.clause_search.proofs.Completing.{listed, literal_taken, conjunction_taken}
use Rattle.clause_search.proofs.Reaching.{length-more, all_more, all_less, all_stand_more, stands_more, stands_last, left_more, stops_less, path_reaches, reaches_self, reaches_then}

-- ---- a literal

literals_more : (ms : List Matrix) (m : Matrix) (l : Lit) → m ≡ lit l → literals_in (ms ++ m ∷ []) ≡ literals_in ms ++ l ∷ []
literals_more [] m l e = ap (λ (x : Matrix). literals_in (x ∷ [])) e
literals_more (lit k ∷ ms) m l e = ap (λ (ls : List Lit). k ∷ ls) (literals_more ms m l e)
literals_more (all ks ∷ ms) m l e = literals_more ms m l e
literals_more (some ks ∷ ms) m l e = literals_more ms m l e

pub leaf_at : (s : Sort) (w : WrittenSystem) (x : Part) (k : Lit) → x.matrix.now ≡ Leaf k → matrix_at s w x ≡ part_on s w x.path (lit k)
leaf_at s w x k e = ap (λ (t : Tree). part_on s w x.path (matrix_of t)) e ∙ ap (part_on s w x.path) (matrix_lit k)

-- what is left behind a part that waits last
pub left_behind : (s : Sort) (w : WrittenSystem) (g : Goal) (x : Part) → left_of s w (with_open g x) ≡ matrix_at s w x ∷ left_of s w g
left_behind s w g x = ap (λ (ms : List Matrix). ms ++ drop g.next (system_of s w).paths) (left_more s w g.waiting x)

pub literal_reaches : (s : Sort) (w : WrittenSystem) (g h : Goal) (x : Part) (l : Lit) (lines : List Step) → matrix_at s w x ≡ lit l → h ≡ record g { lits = g.lits ++ x ∷ [] } → Reaches s w (with_open g x) lines h lines
literal_reaches s w g h x l lines e q F b =
    let a = all_less (Stands s w F) g.waiting x b.waiting in
    record {
      facts = F;
      added = [];
      written = sym (append-nil lines);
      behind = subst (λ (y : Goal). IsBehind s w F y) (sym q) (record {
        count = b.count;
        waiting = a.0;
        lits = all_more (Stands s w F) g.lits x b.lits a.1;
        completes =
            subst (λ (ls : List Lit). Completes (system_of s w) ls (left_of s w g)) (sym taken_more)
            (literal_taken (system_of s w) (taken_by s w g) l (left_of s w g)
            (subst (λ (ms : List Matrix). Completes (system_of s w) (taken_by s w g) ms) (left_behind s w g x ∙ ap (λ (m : Matrix). m ∷ left_of s w g) e) b.completes));
      });
      leads = leads_nothing (rules_of s w) (facts_alone F ∷ []);
      stops = λ k. k;
    }
  where
    taken_more : literals_in (map (matrix_at s w) (g.lits ++ x ∷ [])) ≡ taken_by s w g ++ l ∷ []
    taken_more = ap literals_in (map-append (matrix_at s w) g.lits (x ∷ [])) ∙ literals_more (map (matrix_at s w) g.lits) (matrix_at s w x) l e

-- ---- a conjunction

abbrev pub children_of : Sort → WrittenSystem → Part → List Tree → Matrices
children_of s w x ts = parts_on s w x.path (matrices_of ts)

pub conjunction_at : (s : Sort) (w : WrittenSystem) (x : Part) (ts : List Tree) → x.matrix.now ≡ Or ts → matrix_at s w x ≡ all (children_of s w x ts)
conjunction_at s w x ts e = ap (λ (t : Tree). part_on s w x.path (matrix_of t)) e ∙ ap (part_on s w x.path) (matrix_or ts)

pub disjunction_at : (s : Sort) (w : WrittenSystem) (x : Part) (ts : List Tree) → x.matrix.now ≡ And ts → matrix_at s w x ≡ some (children_of s w x ts)
disjunction_at s w x ts e = ap (λ (t : Tree). part_on s w x.path (matrix_of t)) e ∙ ap (part_on s w x.path) (matrix_and ts)

pub child_there : (s : Sort) (w : WrittenSystem) (x : Part) (ts : List Tree) (i : ℕ) (t : Tree) → i < length ts → t ≡ get_or ts i t → child (children_of s w x ts) i ≡ Some (part_on s w x.path (matrix_of t))
child_there s w x ts i t h e = at ts i t h ∙ ap (λ (u : Tree). Some (part_on s w x.path (matrix_of u))) (sym e)
  where
    at : (ts : List Tree) (i : ℕ) (d : Tree) → i < length ts → child (children_of s w x ts) i ≡ Some (part_on s w x.path (matrix_of (get_or ts i d)))
    at [] i d h = absurd (omega arith)
    at (u ∷ ts) zero d h = refl
    at (u ∷ ts) (suc i) d h = at ts i d (omega arith)

pub child_met : (ms : Matrices) (i : ℕ) (m : Matrix) (b : List Lit) → child ms i ≡ Some m → MeetsAll ms b → Meets m b
child_met none i m b e h = absurd (cc)
child_met (more n ms) zero m b e h = subst (λ (x : Matrix). Meets x b) (same n m e) h.0
  where
    same : (x y : Matrix) → Some x ≡ Some y → x ≡ y
    same x y e = cc
child_met (more n ms) (suc i) m b e h = child_met ms i m b e h.1

-- the children from the n-th on are facts that wait
pub record Parted (s : Sort) (w : WrittenSystem) (F : List Matrix) (g : Goal) (x : Part) (ts : List Tree) (before : List Step) (n : ℕ) (h : Goal) (now : List Step) : Type 0 where
  pub facts : List Matrix
  pub added : List Step
  pub written : now ≡ before ++ added
  pub count : length facts ≡ h.count
  pub whole : Stands s w facts x
  pub waiting : AllByRecursion (Stands s w facts) h.waiting
  pub lits : AllByRecursion (Stands s w facts) h.lits
  pub leads : Leads (rules_of s w) (facts_alone F ∷ []) added (facts_alone facts ∷ [])
  pub stops : StopsBehind s (system_of s w) facts → StopsBehind s (system_of s w) F
  pub left : map (matrix_at s w) (reverse h.waiting) ≡ listed (children_of s w x (drop n ts)) ++ map (matrix_at s w) (reverse g.waiting)

pub record Parts (s : Sort) (w : WrittenSystem) (g : Goal) (x : Part) (ts : List Tree) (before : List Step) (n : ℕ) (h : Goal) (now : List Step) : Type 0 where
  pub parted : (F : List Matrix) → IsBehind s w F (with_open g x) → Parted s w F g x ts before n h now
  pub next : h.next ≡ g.next
  pub same : h.lits ≡ g.lits
  pub kept : AllByRecursion (IsPart s w) h.waiting

nothing_dropped : (ts : List Tree) (n : ℕ) → length ts ≤ n → drop n ts ≡ []
nothing_dropped [] zero h = refl
nothing_dropped [] (suc n) h = refl
nothing_dropped (t ∷ ts) zero h = absurd (omega arith)
nothing_dropped (t ∷ ts) (suc n) h = nothing_dropped ts n (omega arith)

pub parts_none : (s : Sort) (w : WrittenSystem) (g : Goal) (x : Part) (ts : List Tree) (lines : List Step) (n : ℕ) → length ts ≤ n → AllByRecursion (IsPart s w) g.waiting → Parts s w g x ts lines n g lines
parts_none s w g x ts lines n h k = record {
  parted = λ F b.
      let a = all_less (Stands s w F) g.waiting x b.waiting in
      record {
        facts = F;
        added = [];
        written = sym (append-nil lines);
        count = b.count;
        whole = a.1;
        waiting = a.0;
        lits = b.lits;
        leads = leads_nothing (rules_of s w) (facts_alone F ∷ []);
        stops = λ u. u;
        left = ap (λ (us : List Tree). listed (children_of s w x us) ++ map (matrix_at s w) (reverse g.waiting)) (sym (nothing_dropped ts n h));
      };
  next = refl;
  same = refl;
  kept = k;
}

pub parts_more : (s : Sort) (w : WrittenSystem) (g h k : Goal) (x y : Part) (ts : List Tree) (t : Tree) (before xs ys : List Step) (i : ℕ) → x.matrix.now ≡ Or ts → IsPart s w x → i < length ts → t ≡ get_or ts i t → y.number ≡ h.count → y.path ≡ x.path → y.matrix.now ≡ t → k ≡ record { count = suc h.count; next = h.next; waiting = h.waiting ++ y ∷ []; lits = h.lits } → ys ≡ xs ++ step.Part x.number i ∷ [] → Parts s w g x ts before (i + 1) h xs → Parts s w g x ts before i k ys
parts_more s w g h k x y ts t before xs ys i o r l e n p c q u v =
    let m = part_on s w x.path (matrix_of t) in
    subst (λ (z : Goal). Parts s w g x ts before i z ys) (sym q) (record {
      parted = λ F b.
          let a = v.parted F b in
          record {
            facts = a.facts ++ m ∷ [];
            added = a.added ++ step.Part x.number i ∷ [];
            written = u ∙ ap (λ (ls : List Step). ls ++ step.Part x.number i ∷ []) a.written ∙ append_assoc before a.added (step.Part x.number i ∷ []);
            count = length-more a.facts m ∙ ap suc a.count;
            whole = stands_more s w a.facts m x a.whole;
            waiting = all_more (Stands s w (a.facts ++ m ∷ [])) h.waiting y (all_stand_more s w a.facts m h.waiting a.waiting) (stands_last s w a.facts m y (n ∙ sym a.count) seen);
            lits = all_stand_more s w a.facts m h.lits a.lits;
            leads = leads_then (rules_of s w) (facts_alone F ∷ []) (facts_alone a.facts ∷ []) (facts_alone (a.facts ++ m ∷ []) ∷ []) a.added (step.Part x.number i ∷ []) a.leads
                (part_leads s w a.facts x.number i (children_of s w x ts) m (a.whole ∙ ap (λ (z : Matrix). Some z) (conjunction_at s w x ts o)) there);
            stops = λ z. a.stops (stops_less s (system_of s w) a.facts m (λ d j f. child_met (children_of s w x ts) i m d there (subst (λ (z : Matrix). Meets z d) (conjunction_at s w x ts o) (f x.number (matrix_at s w x) a.whole))) z);
            left = left_more s w h.waiting y ∙ ap (λ (z : Matrix). z ∷ map (matrix_at s w) (reverse h.waiting)) seen ∙ ap (λ (zs : List Matrix). m ∷ zs) a.left ∙ sym (ap (λ (us : List Tree). listed (children_of s w x us) ++ map (matrix_at s w) (reverse g.waiting)) (split_at ts i t l e));
          };
      next = v.next;
      same = v.same;
      kept = all_more (IsPart s w) h.waiting y v.kept is_part;
    })
  where
    seen : matrix_at s w y ≡ part_on s w x.path (matrix_of t)
    seen = ap (λ (j : ℕ). part_on s w j (matrix_of y.matrix.now)) p ∙ ap (λ (z : Tree). part_on s w x.path (matrix_of z)) c

    there : child (children_of s w x ts) i ≡ Some (part_on s w x.path (matrix_of t))
    there = child_there s w x ts i t l e

    is_part : IsPart s w y
    is_part =
        let a = ap matrix_of o ∙ matrix_or ts in (
          subst (λ (j : ℕ). IsPath w j) (sym p) r.0,
          subst (λ (z : Tree). IsMatrix (matrix_of z) s (length w.problem.prefix)) (sym c) (matrix_part ts s (length w.problem.prefix) i t l e (subst (λ (z : Matrix). IsMatrix z s (length w.problem.prefix)) a r.1)),
          subst (λ (z : Tree). HasNegations (matrix_of z) s) (sym c) (negations_part ts s i t l e (subst (λ (z : Matrix). HasNegations z s) a r.2)),
        )

-- all children are facts that wait
pub parts_reach : (s : Sort) (w : WrittenSystem) (g h : Goal) (x : Part) (ts : List Tree) (before now : List Step) → x.matrix.now ≡ Or ts → Parts s w g x ts before 0 h now → Reaches s w (with_open g x) before h now
parts_reach s w g h x ts before now o v F b =
    let a = v.parted F b in
    record {
      facts = a.facts;
      added = a.added;
      written = a.written;
      behind = record {
        count = a.count;
        waiting = a.waiting;
        lits = a.lits;
        completes =
            subst (λ (xs : List Part). Completes (system_of s w) (literals_in (map (matrix_at s w) xs)) (left_of s w h)) (sym v.same)
            (subst (λ (ms : List Matrix). Completes (system_of s w) (taken_by s w g) ms) (sym (left_now a.left))
            (conjunction_taken (system_of s w) (taken_by s w g) (children_of s w x ts) (left_of s w g)
            (subst (λ (ms : List Matrix). Completes (system_of s w) (taken_by s w g) ms) (left_behind s w g x ∙ ap (λ (m : Matrix). m ∷ left_of s w g) (conjunction_at s w x ts o)) b.completes)));
      };
      leads = a.leads;
      stops = a.stops;
    }
  where
    left_now : map (matrix_at s w) (reverse h.waiting) ≡ listed (children_of s w x ts) ++ map (matrix_at s w) (reverse g.waiting) → left_of s w h ≡ listed (children_of s w x ts) ++ left_of s w g
    left_now e =
        ap (λ (n : ℕ). map (matrix_at s w) (reverse h.waiting) ++ drop n (system_of s w).paths) v.next
        ∙ ap (λ (ms : List Matrix). ms ++ drop g.next (system_of s w).paths) e
        ∙ append_assoc (listed (children_of s w x ts)) (map (matrix_at s w) (reverse g.waiting)) (drop g.next (system_of s w).paths)

pub parts_kept : (s : Sort) (w : WrittenSystem) (g h : Goal) (x : Part) (ts : List Tree) (before : List Step) (n : ℕ) (now : List Step) → IsGoal s w g → Parts s w g x ts before n h now → IsGoal s w h
parts_kept s w g h x ts before n now k v = record {
  waiting = v.kept;
  lits = subst (λ (xs : List Part). AllByRecursion (IsPart s w) xs) (sym v.same) k.lits;
  next = subst (λ (m : ℕ). m ≤ length (system_of s w).paths) (sym v.next) k.next;
}

-- ---- one step

length-map : {A B : Type 0} (f : A → B) (xs : List A) → length (map f xs) ≡ length xs
length-map {A} {B} f [] = refl
length-map {A} {B} f (x ∷ xs) = ap suc (length-map f xs)

pub literal_progresses : (s : Sort) (w : WrittenSystem) (h k : Goal) (x : Part) (l : Lit) (lines : List Step) → x.matrix.now ≡ Leaf l → k ≡ record h { lits = h.lits ++ x ∷ [] } → IsGoal s w h → IsPart s w x → Reaches s w (with_open h x) lines k lines × IsGoal s w k
literal_progresses s w h k x l lines q n o p = (
  literal_reaches s w h k x (rename_lit (nodes_on w x.path) (neg s l)) lines (leaf_at s w x l q) n,
  subst (λ (z : Goal). IsGoal s w z) (sym n) (record { waiting = o.waiting; lits = all_more (IsPart s w) h.lits x o.lits p; next = o.next }),
)

pub fork_progresses : (s : Sort) (w : WrittenSystem) (h : Goal) (x : Part) (ts : List Tree) (lines : List Step) → x.matrix.now ≡ And ts → IsGoal s w h → IsPart s w x → ReachesFork s w (with_open h x) lines h lines x
fork_progresses s w h x ts lines e o p = (reaches_self s w (with_open h x) lines, o, p, record { parts = ts; is = e })

pub or_in : (x : Tree) (ts us : List Tree) → x ≡ Or ts → us ≡ ts → x ≡ Or us
or_in x ts us e f = e ∙ ap Or (sym f)

pub and_in : (x : Tree) (ts us : List Tree) → x ≡ And ts → us ≡ ts → x ≡ And us
and_in x ts us e f = e ∙ ap And (sym f)

pub not_below : (b : Bool) (n m : ℕ) → (IsTrue b ↔ n < m) → b ≡ false → m ≤ n
not_below b n m h e = elim (cases_lt n m) [
  | inl less ↦ absurd (two (h.1 less))
  | inr late ↦ late
]
  where
    two : b ≡ true → ⊥
    two f = let w : true ≡ false = sym f ∙ e in cc

pub path_progresses : (s : Sort) (w : WrittenSystem) (g h : Goal) (x : Part) (before now : List Step) → g.waiting ≡ [] → g.next < length (routes (skeleton_of w.tree) [] 0) → IsProblem s w.problem → x.number ≡ g.count → x.path ≡ g.next → x.matrix.now ≡ w.problem.matrix → h ≡ record { count = suc g.count; next = suc g.next; waiting = g.waiting ++ x ∷ []; lits = g.lits } → now ≡ before ++ step.Path g.next ∷ [] → IsGoal s w g → Reaches s w g before h now × IsGoal s w h
path_progresses s w g h x before now e l p n q m r u o = (
  path_reaches s w g h x before now l e n (ap (λ (j : ℕ). part_on s w j (matrix_of x.matrix.now)) q ∙ ap (λ (t : Tree). part_on s w g.next (matrix_of t)) m) r u,
  subst (λ (z : Goal). IsGoal s w z) (sym r) (record {
    waiting = all_more (IsPart s w) g.waiting x o.waiting (
      subst (λ (j : ℕ). IsPath w j) (sym q) l,
      subst (λ (t : Tree). IsMatrix (matrix_of t) s (length w.problem.prefix)) (sym m) p.1,
      subst (λ (t : Tree). HasNegations (matrix_of t) s) (sym m) p.2,
    );
    lits = o.lits;
    next = counted (routes (skeleton_of w.tree) [] 0) l;
  }),
)
  where
    counted : (rs : List (List ℕ)) → g.next < length rs → suc g.next ≤ length (map (rename_matrix (neg_matrix (matrix_of w.problem.matrix) s)) rs)
    counted rs k = subst (λ (j : ℕ). suc g.next ≤ j) (sym (length-map (rename_matrix (neg_matrix (matrix_of w.problem.matrix) s)) rs)) (omega arith)

pub no_path : (s : Sort) (w : WrittenSystem) (g : Goal) → length (routes (skeleton_of w.tree) [] 0) ≤ g.next → length (system_of s w).paths ≤ g.next
no_path s w g h = subst (λ (j : ℕ). j ≤ g.next) (sym (length-map (rename_matrix (neg_matrix (matrix_of w.problem.matrix) s)) (routes (skeleton_of w.tree) [] 0))) h

-- ---- the part that waited last

pub opened_again : (g : Goal) (xs : List Part) (x : Part) → g.waiting ≡ xs ++ x ∷ [] → with_open (record g { waiting = xs }) x ≡ g
opened_again g xs x e = ap (λ (ys : List Part). let h : Goal = record g { waiting = ys } in h) (sym e)

pub same_again : (g : Goal) (xs : List Part) → g.waiting ≡ [] → xs ≡ [] → record g { waiting = xs } ≡ g
same_again g xs e f = ap (λ (ys : List Part). let h : Goal = record g { waiting = ys } in h) (f ∙ sym e)

pub kept_less : (s : Sort) (w : WrittenSystem) (g : Goal) (xs : List Part) (x : Part) → g.waiting ≡ xs ++ x ∷ [] → IsGoal s w g → IsGoal s w (record g { waiting = xs }) × IsPart s w x
kept_less s w g xs x e k =
    let a = all_less (IsPart s w) xs x (subst (λ (ys : List Part). AllByRecursion (IsPart s w) ys) e k.waiting) in
    (record { waiting = a.0; lits = k.lits; next = k.next }, a.1)

-- ---- one step behind others

pub then_fork : (s : Sort) (w : WrittenSystem) (f g h : Goal) (xs ys zs : List Step) (x : Part) → Reaches s w f xs g ys → ReachesFork s w g ys h zs x → ReachesFork s w f xs h zs x
then_fork s w f g h xs ys zs x r k = (reaches_then s w f g (with_open h x) xs ys zs r k.0, k.1, k.2, k.3)

pub then_end : (s : Sort) (w : WrittenSystem) (f g h : Goal) (xs ys zs : List Step) → Reaches s w f xs g ys → ReachesEnd s w g ys h zs → ReachesEnd s w f xs h zs
then_end s w f g h xs ys zs r k = (reaches_then s w f g h xs ys zs r k.0, k.1, k.2, k.3)
