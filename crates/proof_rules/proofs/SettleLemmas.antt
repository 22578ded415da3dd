-- A fact that is built stands for the same, so all contexts stay as they are.
use Rattle.std.specs.Prelude.{ℕ, ◌≤◌, ◌≡◌, Bool, if◌then◌else◌, Some, List, [], ◌∷◌, ◌++◌, map, take, drop, length, reverse}
use Rattle.std.proofs.Common.{ap, ap₂, ◌∙◌, sym, subst, refl, length-append}
use Rattle.std.proofs.lemmas.List.{map-append, drop-map, take-map}
use Rattle.lin_term.specs.declared.Sort.{Sort}
use Rattle.lin_term.specs.declared.Lit.{Lit}
use Rattle.lin_term.specs.Literal.{neg, rename_lit}
use Rattle.dom_core.specs.Game.{Matrix, lit, all, some}
use Rattle.lose_system.specs.Written.{WrittenSystem}
use Rattle.cube_rules.specs.Context.{Context}
use Rattle.cube_rules.specs.Facts.{literal_of}
use Rattle.proof_rules.specs.declared.fact.Fact.{Fact}
use Rattle.proof_rules.specs.declared.state.Frame.{Frame}
use Rattle.proof_rules.specs.declared.state.ProofState.{ProofState}
use Rattle.proof_rules.specs.Held.{nodes_on, part_on, fact_of, context_of, IsFact, AreFacts}
use Rattle.proof_rules.specs.Stack.{rest_of, waiting_of, stack_of, AreFrames, IsState, Moved, Settled, added}
use Rattle.proof_rules.proofs.StackLemmas.{facts-push}

-- a literal on a path, built
pub built_value : (s : Sort) (w : WrittenSystem) (k : ℕ) (m : Matrix) (l x : Lit) → Some l ≡ literal_of m → x ≡ rename_lit (nodes_on w k) (neg s l) → lit x ≡ part_on s w k m
built_value s w k (lit y) l x e f = let h : l ≡ y = cc in ap lit (f ∙ ap (λ (z : Lit). rename_lit (nodes_on w k) (neg s z)) h)
built_value s w k (all ms) l x e f = absurd (cc)
built_value s w k (some ms) l x e f = absurd (cc)

-- lists of facts that stand for the same
module _ (s : Sort) (w : WrittenSystem) where
  abbrev Same : List Fact → List Fact → Type 0
  Same xs ys = map (fact_of s w) xs ≡ map (fact_of s w) ys

  context_same : (b : Bool) (n : ℕ) (xs ys : List Fact) → Same xs ys → context_of s w b (drop n xs) ≡ context_of s w b (drop n ys)
  context_same b n xs ys e =
      ap (λ (ms : List Matrix). let c : Context = record { bare = b; facts = ms } in c)
      (sym (drop-map (fact_of s w) n xs) ∙ ap (drop n) e ∙ drop-map (fact_of s w) n ys)

  waiting_same : (fs : List Frame) (xs ys : List Fact) → Same xs ys → waiting_of s w fs xs ≡ waiting_of s w fs ys
  waiting_same [] xs ys e = refl
  waiting_same (f ∷ fs) xs ys e =
      let t = sym (take-map (fact_of s w) f.len xs) ∙ ap (take f.len) e ∙ take-map (fact_of s w) f.len ys in
      ap₂ (λ (cs ds : List Context). cs ++ ds)
      (ap (λ (c : Context). rest_of s w c f.rest) (context_same f.bare f.base (take f.len xs) (take f.len ys) t))
      (waiting_same fs (take f.len xs) (take f.len ys) t)

  stack_same : (st : ProofState) (ys : List Fact) → Same ys st.facts → stack_of s w (record st { facts = ys }) ≡ stack_of s w st
  stack_same st ys e =
      ap₂ (λ (c : Context) (cs : List Context). if st.closed then [] else (c ∷ cs))
      (context_same st.bare st.base ys st.facts e) (waiting_same (reverse st.waiting) ys st.facts e)

  front : (fs : List Fact) (f : Fact) → AreFacts s w (fs ++ f ∷ []) → AreFacts s w fs × IsFact s w f
  front [] f a = (tt, a.0)
  front (g ∷ fs) f a = let r = front fs f a.1 in ((a.0, r.0), r.1)

  pub last_is : (st : ProofState) (fs : List Fact) (f : Fact) → IsState s w st → st.facts ≡ fs ++ f ∷ [] → IsFact s w f
  last_is st fs f i e = (front fs f (subst (λ (xs : List Fact). AreFacts s w xs) e i.facts)).1

  pub settle_one : (st : ProofState) (fs : List Fact) (f g : Fact) → IsState s w st → st.facts ≡ fs ++ f ∷ [] → fact_of s w g ≡ fact_of s w f → IsFact s w g → Settled s w st (added (record st { facts = fs }) g)
  settle_one st fs f g i e q k =
      let a = front fs f (subst (λ (xs : List Fact). AreFacts s w xs) e i.facts) in
      let same : Same (fs ++ g ∷ []) st.facts =
      map-append (fact_of s w) fs (g ∷ []) ∙ ap (λ (m : Matrix). map (fact_of s w) fs ++ m ∷ []) q ∙ sym (map-append (fact_of s w) fs (f ∷ [])) ∙ ap (map (fact_of s w)) (sym e) in
      let long : length st.facts ≡ length (fs ++ g ∷ []) = ap length e ∙ length-append fs (f ∷ []) ∙ sym (length-append fs (g ∷ [])) in
      record {
        stack = stack_same st (fs ++ g ∷ []) same;
        kept = record {
          facts = facts-push s w fs g a.0 k;
          base = subst (λ (n : ℕ). st.base ≤ n) long i.base;
          frames = subst (λ (n : ℕ). AreFrames s w (reverse st.waiting) n) long i.frames;
        };
      }

  pub settle_none : (st : ProofState) (fs : List Fact) → IsState s w st → st.facts ≡ [] → fs ≡ [] → Settled s w st (record st { facts = fs })
  settle_none st fs i e f =
      subst (λ (xs : List Fact). Settled s w st (record st { facts = xs })) (e ∙ sym f) (record { stack = refl; kept = i })

  -- what a line leaves, with its last fact built
  pub moved_settled : (cs : List Context) (st mid new : ProofState) → Moved s w cs st mid → Settled s w mid new → Moved s w cs st new
  moved_settled cs st mid new m t = record { stack = t.stack ∙ m.stack; kept = t.kept }
