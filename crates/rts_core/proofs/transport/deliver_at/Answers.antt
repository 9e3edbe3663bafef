use Rattle.std.proofs.Common.{◌<◌, ℕ, List, length, get_or, arith}
use Rattle.std.proofs.lemmas.Option.{slice_get-get_or}
use Rattle.std.proofs.lemmas.List.{set-get_or}
use Rattle.pe_state.specs.Pes.{Parcel}
use Rattle.rts_core.proofs.Steps.{delivered_at}
use Rattle.rts_core.proofs.transport.deliver_at.Goals as goal

pub returns : goal.returns
returns g c =
    let queues : List (List Parcel) = c.args.queues.now in
    let q : ℕ = c.get-q.result in
    let inside : q < length queues = omega arith in
    rw (← c.get-q.ensures.value)
    (delivered_at c.args.pe.now c.deliver.new.pe queues q (get_or queues q c.index-queues-q.result) c.deliver.new.queue
    (slice_get-get_or queues q c.index-queues-q.result inside)
    (set-get_or queues q c.index-queues-q.result)
    c.deliver.ensures)
