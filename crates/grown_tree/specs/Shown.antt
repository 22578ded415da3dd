-- What a node shows: of a version v the moves whose number is at most v, along the rest of a prefix.
use Rattle.std.specs.Prelude.{ℕ, Bool, true, nat_le, ◌&&◌, ◌==◌, if◌then◌else◌, List, [], ◌∷◌, map, length}
use Rattle.std.specs.List.{list_all}
use Rattle.lin_term.specs.Move.{Move}
use Rattle.dom_core.specs.declared.Quant.{Quant}
use Rattle.dom_core.specs.declared.Quant.TheVariants.{Exists, Forall}
use Rattle.game_tree.specs.declared.Tree.{Tree}
use Rattle.game_tree.specs.declared.Branch.{Branch}
use Rattle.game_tree.specs.declared.Tree.TheVariants as trees
use Rattle.grown_tree.specs.declared.marks.Mark.{Mark}
use Rattle.grown_tree.specs.declared.node.Node.{Node, Node-F, fold-Node}
use Rattle.grown_tree.specs.declared.node.Node.TheOpen as open_node

-- the branches of a version, with what it shows below each move
abbrev pub visible : ℕ → List Mark → List Tree → List Branch
visible v [] ts = []
visible v (m ∷ ms) [] = []
visible v (m ∷ ms) (t ∷ ts) = if nat_le m.since v then (record { term = m.term; rest = t }) ∷ visible v ms ts else visible v ms ts

-- one level
abbrev pub shown_step : ℕ → Node-F (List Quant → Tree) → List Quant → Tree
shown_step v k [] = trees.End
shown_step v k (Forall ∷ qs) = trees.Theirs (shown_step v k qs)
shown_step v open_node.End (Exists ∷ qs) = trees.Mine []
shown_step v (open_node.Mine ms fs) (Exists ∷ qs) = trees.Mine (visible v ms (map (λ f. f qs) fs))

abbrev pub shown : ℕ → Node → List Quant → Tree
shown v = fold-Node (List Quant → Tree) (shown_step v)

-- what a version shows below each of these
abbrev pub all_shown : ℕ → List Node → List Quant → List Tree
all_shown v ns qs = map (λ n. shown v n qs) ns

abbrev pub is_rising : List Mark → Bool
is_rising [] = true
is_rising (m ∷ ms) = list_all (λ k. nat_le m.since k.since) ms && is_rising ms

-- the numbers of the moves rise and are at most n, and each move has something below it
abbrev pub sound_step : ℕ → Node-F Bool → Bool
sound_step n open_node.End = true
sound_step n (open_node.Mine ms bs) = (list_all (λ m. nat_le m.since n) ms && is_rising ms) && ((length ms == length bs) && list_all (λ b. b) bs)

abbrev pub is_sound : ℕ → Node → Bool
is_sound n = fold-Node Bool (sound_step n)

abbrev pub are_sound : ℕ → List Mark → List Node → Bool
are_sound n ms ns = sound_step n (open_node.Mine ms (map (is_sound n) ns))

abbrev pub terms_of : List Mark → List Move
terms_of ms = map (λ m. m.term) ms
