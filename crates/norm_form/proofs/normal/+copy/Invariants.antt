use Rattle.std.proofs.Common.{◌≡◌, take}
use Rattle.norm_form.proofs.normal.+copy.Given as goal

abbrev pub invariant-copy_all-loop-part : goal.invariant-copy_all-loop-part
invariant-copy_all-loop-part l = l.copies ≡ take l.part-index l.parts
