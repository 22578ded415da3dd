-- Equality of lists item by item, and of trees by their cases.
use Rattle.std.specs.Prelude.{ℕ, ◌+◌, ◌<◌, ◌≤◌, ◌≡◌, ◌≢◌, ◌↔◌, IsTrue, Bool, true, false, List, [], ◌∷◌, ◌++◌, get_or, take, length}
use Rattle.std.proofs.Common.{ap, ap₂, ◌∙◌, sym, refl}
use Rattle.std.proofs.lemmas.List.{take_more, take_all}
use Rattle.lin_term.specs.Move.{Move}
use Rattle.dom_core.specs.declared.Quant.{Quant}
use Rattle.game_tree.specs.declared.tree.Tree.{Tree, out-Tree}
use Rattle.game_tree.specs.declared.tree.Tree.TheVariants.{End, Theirs, Mine, outs-End, outs-Theirs, outs-Mine}
use Rattle.game_tree.specs.declared.tree.Tree.TheOpen.{Tree-F}
use Rattle.game_tree.specs.declared.tree.Branch.{Branch}
use Rattle.game_tree.specs.Written.{WrittenSkeleton}

-- what a test that fails says
fails : {P : Type 0} → ¬ P → IsTrue false ↔ P
fails h = (λ e. absurd (cc), λ p. absurd (h p))

holds : {P : Type 0} → P → IsTrue true ↔ P
holds p = (λ e. p, λ q. refl)

-- ---- lists

pub lengths_differ : {A : Type 0} (xs ys : List A) → length xs ≢ length ys → IsTrue false ↔ (xs ≡ ys)
lengths_differ xs ys h = fails (λ e. h (ap length e))

pub item_differs : {A : Type 0} (xs ys : List A) (i : ℕ) (d : A) → ¬ (get_or xs i d ≡ get_or ys i d) → IsTrue false ↔ (xs ≡ ys)
item_differs xs ys i d h = fails (λ e. h (ap (λ (zs : List _). get_or zs i d) e))

pub all_same : {A : Type 0} (xs ys : List A) (i : ℕ) → take i xs ≡ take i ys → length xs ≤ i → length ys ≤ i → IsTrue true ↔ (xs ≡ ys)
all_same xs ys i e l k = holds (sym (take_all i xs l) ∙ e ∙ take_all i ys k)

pub one_more : {A : Type 0} (xs ys : List A) (i : ℕ) (d : A) → take i xs ≡ take i ys → i < length xs → i < length ys → get_or xs i d ≡ get_or ys i d → take (i + 1) xs ≡ take (i + 1) ys
one_more xs ys i d e l k f = take_more xs i d l ∙ ap₂ (λ (zs : List _) (z : _). zs ++ z ∷ []) e f ∙ sym (take_more ys i d k)

-- ---- trees

theirs_inner : (t u : Tree) → Theirs t ≡ Theirs u → t ≡ u
theirs_inner t u e = let f : Tree-F.Theirs t ≡ Tree-F.Theirs u = sym (outs-Theirs t) ∙ ap out-Tree e ∙ outs-Theirs u in cc

mine_inner : (bs cs : List Branch) → Mine bs ≡ Mine cs → bs ≡ cs
mine_inner bs cs e = let f : Tree-F.Mine bs ≡ Tree-F.Mine cs = sym (outs-Mine bs) ∙ ap out-Tree e ∙ outs-Mine cs in cc

pub theirs_same : (r : Bool) (t u : Tree) → (IsTrue r ↔ (t ≡ u)) → IsTrue r ↔ (Theirs t ≡ Theirs u)
theirs_same r t u h = (λ e. ap Theirs (h.0 e), λ e. h.1 (theirs_inner t u e))

pub mine_same : (r : Bool) (bs cs : List Branch) → (IsTrue r ↔ (bs ≡ cs)) → IsTrue r ↔ (Mine bs ≡ Mine cs)
mine_same r bs cs h = (λ e. ap Mine (h.0 e), λ e. h.1 (mine_inner bs cs e))

pub end_theirs : (t : Tree) → ¬ (End ≡ Theirs t)
end_theirs t e = let f : Tree-F.End ≡ Tree-F.Theirs t = sym outs-End ∙ ap out-Tree e ∙ outs-Theirs t in absurd (cc)

pub end_mine : (bs : List Branch) → ¬ (End ≡ Mine bs)
end_mine bs e = let f : Tree-F.End ≡ Tree-F.Mine bs = sym outs-End ∙ ap out-Tree e ∙ outs-Mine bs in absurd (cc)

pub theirs_mine : (t : Tree) (bs : List Branch) → ¬ (Theirs t ≡ Mine bs)
theirs_mine t bs e = let f : Tree-F.Theirs t ≡ Tree-F.Mine bs = sym (outs-Theirs t) ∙ ap out-Tree e ∙ outs-Mine bs in absurd (cc)

-- ---- branches

pub branch_same : (b c : Branch) → b.term ≡ c.term → b.rest ≡ c.rest → b ≡ c
branch_same b c e f = ap₂ (λ (m : Move) (t : Tree). let x : Branch = record { term = m; rest = t } in x) e f

pub other_term : (b c : Branch) → ¬ (b.term ≡ c.term) → ¬ (b ≡ c)
other_term b c h e = h (ap (λ (x : Branch). x.term) e)

pub other_rest : (b c : Branch) → ¬ (b.rest ≡ c.rest) → ¬ (b ≡ c)
other_rest b c h e = h (ap (λ (x : Branch). x.rest) e)

-- ---- skeletons

pub skeleton_same : (p r : Bool) (S T : WrittenSkeleton) → p ≡ true → (IsTrue p ↔ (S.prefix ≡ T.prefix)) → (IsTrue r ↔ (S.tree ≡ T.tree)) → IsTrue r ↔ (S ≡ T)
skeleton_same p r S T q h k = (
  λ e. ap₂ (λ (x : List Quant) (t : Tree). let S : WrittenSkeleton = record { prefix = x; tree = t } in S) (h.0 q) (k.0 e),
  λ e. k.1 (ap (λ (X : WrittenSkeleton). X.tree) e),
)

pub skeleton_differs : (p : Bool) (S T : WrittenSkeleton) → p ≡ false → (IsTrue p ↔ (S.prefix ≡ T.prefix)) → IsTrue false ↔ (S ≡ T)
skeleton_differs p S T q h = fails (λ e. let u : p ≡ true = h.1 (ap (λ (X : WrittenSkeleton). X.prefix) e) in let v : true ≡ false = sym u ∙ q in absurd (cc))
