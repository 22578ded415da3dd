-- How a plan ends that is stored and printed.
use Rattle.std.proofs.Common.{◌≡◌, [], append-nil, inl, inr, Ok, Err, refl, sym, subst}
use Rattle.ss_shelf.specs.declared.SinkFault.TheVariants as sink
use Rattle.ss_shelf.specs.Outside.{Appends, AppendsPart, SinkCause}
use Rattle.simsat.specs.declared.status.SolveStatus.{SolveStatus}
use Rattle.simsat.specs.declared.status.SolveStatus.TheVariants as status
use Rattle.simsat.specs.Answer.{Answer}
use Rattle.simsat.specs.Effects.{Effects, Publishes}
use Rattle.simsat.specs.Plan.{IsReady}
use Rattle.simsat.specs.Storing.{FailedAt, StoredFirst, StoresEach}

-- all was stored and printed
pub is_whole : (a : Answer) (e : Effects) (result : SolveStatus) → IsReady a.status → result ≡ a.status → StoresEach a.stores e.files e.files_after e.counts e.counts_after (Ok tt) → Appends e.written e.written_after a.text → Publishes a e result
is_whole a e status.Done ready q s w = (sym q, record { files = s.0; written = w; counts = s.1 })
is_whole a e status.Usage ready q s w = (sym q, record { files = s.0; written = w; counts = s.1 })
is_whole a e status.Refused ready q s w = (sym q, record { files = s.0; written = w; counts = s.1 })
is_whole a e status.ReadFault ready q s w = absurd (subst IsReady (sym q) ready)
is_whole a e status.StoreFault ready q s w = absurd (subst IsReady (sym q) ready)
is_whole a e status.PrintFault ready q s w = absurd (subst IsReady (sym q) ready)
is_whole a e status.Memory ready q s w = absurd (subst IsReady (sym q) ready)

pub fails_to_print : (a : Answer) (e : Effects) → StoresEach a.stores e.files e.files_after e.counts e.counts_after (Ok tt) → AppendsPart e.written e.written_after a.text → SinkCause e.faults e.faults_after (Err sink.Failed)
    → Publishes a e status.PrintFault
fails_to_print a e s w c = record { files = s.0; written = w; counts = s.1; rose = c.failed refl }

pub fails_to_store : (a : Answer) (e : Effects) → FailedAt a.stores e.files e.files_after e.counts e.counts_after → e.written_after ≡ e.written → Publishes a e status.StoreFault
fails_to_store a e s w = record { before = s.before; failed = s.failed; behind = s.behind; stores = s.stores; files = s.files; written = w; counts = s.rose }

pub some_stored : (a : Answer) (e : Effects) → StoredFirst a.stores e.files e.files_after e.counts e.counts_after → e.written_after ≡ e.written → Publishes a e status.Memory
some_stored a e s w = record { stored = s.before; behind = s.behind; stores = s.stores; files = s.files; written = inl w; counts = s.kept }

pub all_stored : (a : Answer) (e : Effects) → StoresEach a.stores e.files e.files_after e.counts e.counts_after (Ok tt) → AppendsPart e.written e.written_after a.text → Publishes a e status.Memory
all_stored a e s w = record { stored = a.stores; behind = []; stores = sym (append-nil a.stores); files = s.0; written = inr (refl, w); counts = s.1 }
