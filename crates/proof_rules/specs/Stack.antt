-- The contexts that wait: they share one list of facts, each with the length at which it was left.
use Rattle.std.specs.Prelude.{ℕ, ◌<◌, ◌≤◌, ◌≡◌, if◌then◌else◌, List, [], ◌∷◌, ◌++◌, map, take, drop, length, reverse, ⊤}
use Rattle.lin_term.specs.declared.Sort.{Sort}
use Rattle.lin_term.specs.declared.Sort.TheVariants.{Int}
use Rattle.dom_core.specs.Cube.{IsPrimitiveCube}
use Rattle.dom_core.specs.Game.{AreMatrices}
use Rattle.dom_core.specs.Problem.{HaveNegations}
use Rattle.dom_core.specs.View.{matrices_of}
use Rattle.lose_system.specs.Written.{WrittenSystem}
use Rattle.cube_rules.specs.Context.{Context, with_fact, cube_context}
use Rattle.cube_rules.specs.Lines.{each_child, leaves}
use Rattle.proof_rules.specs.declared.fact.Fact.{Fact}
use Rattle.proof_rules.specs.declared.state.Rest.{Rest}
use Rattle.proof_rules.specs.declared.state.Rest.TheVariants.{Children, Literals, Other, Least}
use Rattle.proof_rules.specs.declared.state.Frame.{Frame}
use Rattle.proof_rules.specs.declared.state.ProofState.{ProofState}
use Rattle.proof_rules.specs.Left.{left_cases}
use Rattle.proof_rules.specs.Held.{fact_of, context_of, parts_on, IsPath, IsFact, AreFacts}

-- what is still to be closed after the context of a closing line was left
abbrev pub rest_of : Sort → WrittenSystem → Context → Rest → List Context
rest_of s w c (Children k ms) = each_child c (parts_on s w k (matrices_of ms.now))
rest_of s w c (Literals ls i) = each_child c (leaves (drop i ls.value))
rest_of s w c (Other f) = with_fact c (fact_of s w f) ∷ []
rest_of s w c (Least l) = map cube_context (left_cases l)

abbrev pub frame_of : Sort → WrittenSystem → List Fact → Frame → List Context
frame_of s w facts f = rest_of s w (context_of s w f.bare (drop f.base facts)) f.rest

-- the last frame is on top
abbrev pub waiting_of : Sort → WrittenSystem → List Frame → List Fact → List Context
waiting_of s w [] facts = []
waiting_of s w (f ∷ fs) facts = frame_of s w (take f.len facts) f ++ waiting_of s w fs (take f.len facts)

abbrev pub current_of : Sort → WrittenSystem → ProofState → Context
current_of s w st = context_of s w st.bare (drop st.base st.facts)

abbrev pub rest_of_stack : Sort → WrittenSystem → ProofState → List Context
rest_of_stack s w st = waiting_of s w (reverse st.waiting) st.facts

-- all contexts that wait, the current one first
abbrev pub stack_of : Sort → WrittenSystem → ProofState → List Context
stack_of s w st = if st.closed then [] else current_of s w st ∷ rest_of_stack s w st

-- ---- what is kept

abbrev pub IsRest : Sort → WrittenSystem → Rest → Type 0
IsRest s w (Children k ms) = (1 ≤ length ms.now) × IsPath w k × AreMatrices (matrices_of ms.now) s (length w.problem.prefix) × HaveNegations (matrices_of ms.now) s
IsRest s w (Literals ls i) = (i < length ls.value) × IsPrimitiveCube s ls.value
IsRest s w (Other f) = IsFact s w f
IsRest s w (Least l) = s ≡ Int

-- each frame was left at a length that is still there
abbrev pub AreFrames : Sort → WrittenSystem → List Frame → ℕ → Type 0
AreFrames s w [] n = ⊤
AreFrames s w (f ∷ fs) n = (f.len ≤ n) × (f.base ≤ f.len) × IsRest s w f.rest × AreFrames s w fs f.len

pub record IsState (s : Sort) (w : WrittenSystem) (st : ProofState) : Type 0 where
  pub facts : AreFacts s w st.facts
  pub base : st.base ≤ length st.facts
  pub frames : AreFrames s w (reverse st.waiting) (length st.facts)

-- the contexts took the place of the current one
pub record Moved (s : Sort) (w : WrittenSystem) (contexts : List Context) (old new : ProofState) : Type 0 where
  pub stack : stack_of s w new ≡ contexts ++ rest_of_stack s w old
  pub kept : IsState s w new

-- the same contexts
pub record Settled (s : Sort) (w : WrittenSystem) (old new : ProofState) : Type 0 where
  pub stack : stack_of s w new ≡ stack_of s w old
  pub kept : IsState s w new

-- one more fact
abbrev pub added : ProofState → Fact → ProofState
added st f = record st { facts = st.facts ++ f ∷ [] }

abbrev pub frame_now : ProofState → Rest → Frame
frame_now st rest = record { base = st.base; len = length st.facts; bare = st.bare; rest = rest }

-- one more frame
abbrev pub waited : ProofState → Rest → ProofState
waited st rest = record st { waiting = st.waiting ++ frame_now st rest ∷ [] }
