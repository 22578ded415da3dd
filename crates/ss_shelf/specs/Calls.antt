-- A list of failed calls, and the counts that it stands for.
use Rattle.std.specs.Prelude.{◌+◌, if◌then◌else◌, Bool, true, false, ◌&&◌, List, [], ◌∷◌, string_bytes}
use Rattle.std.specs.Str.{bytes_eq}
use Rattle.ss_shelf.specs.declared.outside.CallKind.{CallKind}
use Rattle.ss_shelf.specs.declared.outside.CallKind.TheVariants.{Fetch, Store}
use Rattle.ss_shelf.specs.declared.failures.FailedCall.{FailedCall}
use Rattle.ss_shelf.specs.Outside.{Counts}

abbrev pub same_kind : CallKind → CallKind → Bool
same_kind Fetch Fetch = true
same_kind Fetch Store = false
same_kind Store Fetch = false
same_kind Store Store = true

-- 1 for a call of this kind and name, and 0 for every other
abbrev pub one : FailedCall → Counts
one call kind name = if same_kind call.kind kind && bytes_eq (string_bytes call.name) name then 1 else 0

abbrev pub count_of : List FailedCall → Counts
count_of [] kind name = 0
count_of (call ∷ calls) kind name = one call kind name + count_of calls kind name
