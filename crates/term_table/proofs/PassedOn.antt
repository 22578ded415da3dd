-- A use of a definition whose body is a parameter stands for the argument.
use Rattle.std.proofs.Common.{◌≡◌, ℕ, zero, suc, ◌<◌, ◌≤◌, List, [], ◌∷◌, ◌++◌, length, map, get_or, Option, Some, None, refl, sym, ap, subst, ◌∙◌, arith}
use Rattle.std.specs.Prelude.{IfSome}
use Rattle.term_table.specs.declared.entry.Entry.{Entry}
use Rattle.term_table.specs.declared.node.Node.TheVariants as node
use Rattle.term_table.specs.Placed.{Frame, nothing, used}
use Rattle.term_table.specs.Meaning.{Meaning, at, meaning, meanings, IsAt, AreBelow, HasParts}
use Rattle.term_table.specs.Forwarding.{Stand, IsSame}
use Rattle.term_table.specs.Order.{IsOrdered}
use Rattle.term_table.specs.Entries.{nodes_of}
use Rattle.term_table.proofs.Growth.{node-at, parts-at}
use Rattle.term_table.proofs.EntryForms.{length-nodes}
use Rattle.term_table.proofs.WriterLemmas.{node-entry}

given_is : (ms : List Meaning) (args : List ℕ) (p : ℕ) (frame : Frame) → p < length args → get_or (map (λ (a : Meaning). a frame) (map (at ms) args)) p nothing ≡ at ms (get_or args p 0) frame
given_is ms [] p frame lt = absurd (omega arith)
given_is ms (i ∷ args) zero frame lt = refl
given_is ms (i ∷ args) (suc p) frame lt = given_is ms args p frame (omega arith)

-- the body at place b is parameter p
pub passes : (es : List Entry) (b p : ℕ) (args : List ℕ) (e : Entry) → IsOrdered (nodes_of es) → b < length es → e ≡ get_or es b e → e.node ≡ node.Parameter p → p < length args
    → at (meanings (nodes_of es)) (get_or args p 0) ≡ used (at (meanings (nodes_of es)) b) (map (at (meanings (nodes_of es))) args)
passes es b p args e ordered lt is parameter below =
    let ms = meanings (nodes_of es) in
    let body : at ms b ≡ meaning ms (node.Parameter p) =
    node-at (nodes_of es) b e.node ordered (omega (arith, length-nodes es, lt)) ∙ ap (meaning ms) (node-entry es b e e.node lt is ∙ parameter) in
    sym (ap (λ (m : Meaning). used m (map (at ms) args)) body ∙ (λ k frame n. given_is ms args p frame below k n))

-- a use whose body is a parameter
pub if_some-at : (r : Option ℕ) (es : List Entry) (m : Meaning) → IfSome r (λ i. (i < length es) × (at (meanings (nodes_of es)) i ≡ m)) → IfSome r (λ i. IsAt (nodes_of es) i m)
if_some-at None es m is = is
if_some-at (Some i) es m is = (is.1, omega (arith, length-nodes es, is.0))

-- ---- a body that passes its parameters on

given_both : (ms : List Meaning) (parts args : List ℕ) (frame : Frame)
    → map (λ (a : Meaning). a frame) (map (λ i. used (at ms i) (map (at ms) args)) parts) ≡ map (λ (a : Meaning). a (record { given = map (λ (b : Meaning). b frame) (map (at ms) args); bound = [] })) (map (at ms) parts)
given_both ms [] args frame = refl
given_both ms (i ∷ parts) args frame =
    ap (λ r. at ms i (record { given = map (λ (b : Meaning). b frame) (map (at ms) args); bound = [] }) ∷ r) (given_both ms parts args frame)

used_twice : (ms : List Meaning) (b : ℕ) (parts args outs : List ℕ) → map (at ms) outs ≡ map (λ i. used (at ms i) (map (at ms) args)) parts
    → used (at ms b) (map (at ms) outs) ≡ used (used (at ms b) (map (at ms) parts)) (map (at ms) args)
used_twice ms b parts args outs e =
    ap (used (at ms b)) e ∙ (λ k frame n. at ms b (record { given = given_both ms parts args frame k; bound = [] }) n)

less-below : (n m : ℕ) (is : List ℕ) → n ≤ m → AreBelow n is → AreBelow m is
less-below n m [] le are = tt
less-below n m (i ∷ is) le are = (omega (arith, are.0), less-below n m is le are.1)

-- the parts of the body at place b
pub inner-parts : (es : List Entry) (b i : ℕ) (parts : List ℕ) (e : Entry) → IsOrdered (nodes_of es) → b < length es → e ≡ get_or es b e → e.node ≡ node.Use i parts → (i < length es) × AreBelow (length es) parts
inner-parts es b i parts e ordered lt is uses =
    let has : HasParts b (node.Use i parts) = subst (HasParts b) (node-entry es b e e.node lt is ∙ uses) (parts-at (nodes_of es) b e.node ordered (omega (arith, length-nodes es, lt))) in
    (omega (arith, has.0, lt), less-below b (length es) parts (omega (arith, lt)) has.1)

pub forwards : (es : List Entry) (b i : ℕ) (parts args outs : List ℕ) (e : Entry) → IsOrdered (nodes_of es) → b < length es → e ≡ get_or es b e → e.node ≡ node.Use i parts → Stand es parts args outs
    → IsSame es (used (at (meanings (nodes_of es)) b) (map (at (meanings (nodes_of es))) args)) (node.Use i outs)
forwards es b i parts args outs e ordered lt is uses stand =
    let ms = meanings (nodes_of es) in
    let body : at ms b ≡ meaning ms (node.Use i parts) =
    node-at (nodes_of es) b e.node ordered (omega (arith, length-nodes es, lt)) ∙ ap (meaning ms) (node-entry es b e e.node lt is ∙ uses) in
    record {
      parts = ((inner-parts es b i parts e ordered lt is uses).0, stand.below);
      same = used_twice ms i parts args outs stand.same ∙ ap (λ (m : Meaning). used m (map (at ms) args)) (sym body);
    }

map_push : {B : Type 0} → (f : ℕ → B) (xs : List ℕ) (y : ℕ) → map f (xs ++ y ∷ []) ≡ map f xs ++ f y ∷ []
map_push f [] y = refl
map_push f (x ∷ xs) y = ap (λ r. f x ∷ r) (map_push f xs y)

pub stand-push : (es : List Entry) (parts args outs : List ℕ) (i j : ℕ) → Stand es parts args outs → j < length es → at (meanings (nodes_of es)) j ≡ used (at (meanings (nodes_of es)) i) (map (at (meanings (nodes_of es))) args)
    → Stand es (parts ++ i ∷ []) args (outs ++ j ∷ [])
stand-push es parts args outs i j stand lt is = record {
  below = below_push outs stand.below;
  same = map_push (at (meanings (nodes_of es))) outs j ∙ (λ k. stand.same k ++ is k ∷ []) ∙ sym (map_push (λ x. used (at (meanings (nodes_of es)) x) (map (at (meanings (nodes_of es))) args)) parts i);
}
  where
    below_push : (os : List ℕ) → AreBelow (length es) os → AreBelow (length es) (os ++ j ∷ [])
    below_push [] are = (lt, tt)
    below_push (o ∷ os) are = (are.0, below_push os are.1)
