use Rattle.std.proofs.Common.{◌≡◌, drop}
use Rattle.norm_form.specs.View.{shapes_of}
use Rattle.prenex_form.specs.Pass.{taken_parts, HaveRoom}
use Rattle.prenex_form.proofs.tally.+count.Given as goal

abbrev pub invariant-count_all-loop-part : goal.invariant-count_all-loop-part
invariant-count_all-loop-part l = record {
  left : taken_parts (shapes_of (drop l.part-index l.parts)) l.depth l.sizes ≡ taken_parts (shapes_of l.parts) l.depth l.initial.sizes;
  room : HaveRoom (shapes_of (drop l.part-index l.parts)) l.depth l.sizes;
}
