use Rattle.std.proofs.Common.{◌≡◌, ◌+◌, drop}
use Rattle.norm_form.specs.Numbered.{numbered_parts, all_binders, CanNumberAll}
use Rattle.norm_form.specs.Outcome.{normal_trees}
use Rattle.norm_form.specs.View.{shapes_of}
use Rattle.norm_form.proofs.Preorder.{joined}
use Rattle.norm_form.proofs.numbered.+number.Given as goal

abbrev pub invariant-numbered_all-loop-part : goal.invariant-numbered_all-loop-part
invariant-numbered_all-loop-part l = record {
  left : l.next + all_binders (shapes_of (drop l.part-index l.parts)) ≡ l.initial.next + all_binders (shapes_of l.parts);
  same : l.names ≡ l.initial.names;
  ready : CanNumberAll (shapes_of (drop l.part-index l.parts)) l.next l.names;
  made : joined (normal_trees l.made) (numbered_parts (shapes_of (drop l.part-index l.parts)) l.next l.names) ≡ numbered_parts (shapes_of l.parts) l.initial.next l.initial.names;
}
