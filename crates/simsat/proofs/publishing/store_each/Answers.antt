use Rattle.std.proofs.Common.{◌∙◌, ap, Err}
use Rattle.simsat.proofs.Storage.{one_more_named, failed_at_named, stored_named}
use Rattle.simsat.proofs.publishing.store_each.Goals as goal

pub returns-in-Err-Failed : goal.returns-in-Err-Failed
returns-in-Err-Failed g c =
    let x = c.file-item.result in
    let i = c.loop-file.file-index in
    let failed = c.in-Err-Failed.is ∙ ap Err c.in-Err-Failed.field-0-is in
    failed_at_named (g.S.Shelf.files c.args.shelf.now) (g.S.Shelf.files c.loop-file.shelf) (g.S.Shelf.files c.store.new.self) (g.S.Shelf.faults c.args.shelf.now) (g.S.Shelf.faults c.loop-file.shelf)
    (g.S.Shelf.faults c.store.new.self) c.args.files.now i x c.loop-file-test.true c.file-item.is c.as_str.result.now c.store.result c.as_str.ensures.value c.loop-file.invariant.0 c.loop-file.invariant.1
    (c.store.ensures.failed failed) failed c.store.ensures.counts

pub returns-in-Err-Memory : goal.returns-in-Err-Memory
returns-in-Err-Memory g c =
    let x = c.file-item.result in
    let i = c.loop-file.file-index in
    let failed = c.in-Err-Memory.is ∙ ap Err c.in-Err-Memory.field-0-is in
    stored_named (g.S.Shelf.files c.args.shelf.now) (g.S.Shelf.files c.loop-file.shelf) (g.S.Shelf.files c.store.new.self) (g.S.Shelf.faults c.args.shelf.now) (g.S.Shelf.faults c.loop-file.shelf)
    (g.S.Shelf.faults c.store.new.self) c.args.files.now i x c.loop-file-test.true c.file-item.is c.as_str.result.now c.store.result c.loop-file.invariant.0 c.loop-file.invariant.1
    (c.store.ensures.memory failed) failed c.store.ensures.counts

pub loop-file-preserved : goal.loop-file-preserved
loop-file-preserved g c =
    one_more_named (g.S.Shelf.files c.args.shelf.now) (g.S.Shelf.files c.loop-file.shelf) (g.S.Shelf.files c.store.new.self) (g.S.Shelf.faults c.args.shelf.now) (g.S.Shelf.faults c.loop-file.shelf)
    (g.S.Shelf.faults c.store.new.self) c.args.files.now c.loop-file.file-index c.file-item.result c.loop-file-test.true c.file-item.is c.as_str.result.now c.as_slice.result.now c.store.result c.as_str.ensures.value
    c.as_slice.ensures.value c.loop-file.invariant.0 c.loop-file.invariant.1 c.in-Ok.ensures.stored c.in-Ok.is c.store.ensures.counts
