use Rattle.std.proofs.Common.{◌≡◌, drop}
use Rattle.dom_core.specs.View.{matrices_of}
use Rattle.norm_form.specs.View.{shapes_of}
use Rattle.prenex_form.specs.Pass.{taken_parts, put_parts, HaveRoom, CanPutAll, AllTidy}
use Rattle.prenex_form.proofs.Renamed.{joined}
use Rattle.prenex_form.proofs.place.+place.Given as goal

abbrev pub invariant-place_all-loop-part : goal.invariant-place_all-loop-part
invariant-place_all-loop-part l = record {
  left : taken_parts (shapes_of (drop l.part-index l.parts)) l.depth l.next ≡ taken_parts (shapes_of l.parts) l.depth l.initial.next;
  same : l.names ≡ l.initial.names;
  room : HaveRoom (shapes_of (drop l.part-index l.parts)) l.depth l.next;
  ready : CanPutAll (shapes_of (drop l.part-index l.parts)) l.depth l.next l.names;
  tidy : AllTidy (shapes_of (drop l.part-index l.parts)) → AllTidy (shapes_of l.parts);
  matrix : joined (matrices_of l.matrices) (put_parts (shapes_of (drop l.part-index l.parts)) l.depth l.next l.names) ≡ put_parts (shapes_of l.parts) l.depth l.initial.next l.initial.names;
}
