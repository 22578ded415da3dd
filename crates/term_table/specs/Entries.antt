-- What a table knows of its entries.
use Rattle.std.specs.Prelude.{ℕ, ◌≡◌, ◌≤◌, List, [], ◌∷◌, map, slice_index_or, None, ⊤}
use Rattle.lin_truth.specs.Size.{node_count}
use Rattle.lin_truth.specs.Worked.{worked}
use Rattle.term_table.specs.declared.entry.Entry.{Entry}
use Rattle.term_table.specs.declared.node.Node.{Node}
use Rattle.term_table.specs.declared.node.Node.TheVariants as node
use Rattle.term_table.specs.Scale.{Scale}
use Rattle.term_table.specs.Placed.{top}
use Rattle.term_table.specs.Known.{Known}
use Rattle.term_table.specs.Worth.{most_nodes}
use Rattle.term_table.specs.Meaning.{Meaning, meanings}
use Rattle.term_table.specs.Order.{IsOrdered}
use Rattle.term_table.specs.Form.{Linear, value, row, IsForm}

-- of a part that is not there
abbrev pub bare_form : Linear
bare_form = record { own = record { nodes = 1; bindings = 0; free = 1; depth = 1 }; uses = [] }

abbrev pub nodes_of : List Entry → List Node
nodes_of es = map (λ (e : Entry). e.node) es

abbrev pub forms_of : List Entry → List Linear
forms_of es = map (λ (e : Entry). e.form) es

abbrev pub form_at : List Entry → ℕ → Linear
form_at es i = slice_index_or (forms_of es) i bare_form

-- the size of an entry, where the parameters have these sizes
abbrev pub part_value : Scale → List Entry → List ℕ → ℕ → ℕ
part_value s es gs i = value s (form_at es i) gs

-- the form of the body that a node uses
abbrev pub body_form : List Entry → Node → Linear
body_form es (node.Leaf l) = bare_form
body_form es (node.Parameter p) = bare_form
body_form es (node.Binding i) = bare_form
body_form es (node.One op a) = bare_form
body_form es (node.Two op a b) = bare_form
body_form es (node.Choice c a b) = bare_form
body_form es (node.Several op is) = bare_form
body_form es (node.Distinct is) = bare_form
body_form es (node.Binder q us around body) = bare_form
body_form es (node.Use body args) = form_at es body

-- the size of a node from the forms of its parts
abbrev pub row_in : Scale → List Entry → List ℕ → Node → ℕ
row_in s es gs x = row s (part_value s es gs) gs (body_form es x) x

-- the forms give the sizes of these entries
abbrev pub AreForms : List Meaning → List Linear → Type 0
AreForms [] [] = ⊤
AreForms [] (f ∷ fs) = ⊥
AreForms (m ∷ ms) [] = ⊥
AreForms (m ∷ ms) (f ∷ fs) = IsForm m f × AreForms ms fs

-- ---- constant terms

abbrev pub knowns_of : List Entry → List Known
knowns_of es = map (λ (e : Entry). e.known) es

abbrev pub known_at : List Entry → ℕ → Known
known_at es i = slice_index_or (knowns_of es) i None

-- its value as a constant term, where it is no larger than a goal may be
abbrev pub IsKnown : Meaning → Known → Type 0
IsKnown m x = node_count (m top 0) ≤ most_nodes → x ≡ worked (m top 0)

abbrev pub AreKnown : List Meaning → List Known → Type 0
AreKnown [] [] = ⊤
AreKnown [] (x ∷ xs) = ⊥
AreKnown (m ∷ ms) [] = ⊥
AreKnown (m ∷ ms) (x ∷ xs) = IsKnown m x × AreKnown ms xs

-- what holds of the entries of a table
pub record AreEntries (es : List Entry) : Type 0 where
  pub ordered : IsOrdered (nodes_of es)
  pub forms : AreForms (meanings (nodes_of es)) (forms_of es)
  pub known : AreKnown (meanings (nodes_of es)) (knowns_of es)
