use Rattle.std.proofs.Common.{◌≡◌, ◌<◌, length, get_or, arith, ap, ◌∙◌}
use Rattle.std.proofs.lemmas.List.{get_or_read}
use Rattle.std.proofs.lemmas.List.FromFn.{get_or-map-range_with_len, length-map-range_with_len}
use Rattle.run_trace.specs.Shown.{load_on}
use Rattle.run_trace.proofs.Adding.{loads_more}
use Rattle.run_trace.proofs.loads.push_round.Goals as goal

pub index-load-requires : goal.index-load-requires
index-load-requires g c =
    let s = c.args.snapshot.now in
    let duration : length c.in_ok-loads.loads.items ≡ s.procs = ap length c.in_ok-loads.ensures.loads ∙ length-map-range_with_len (load_on s.loads s.sizes) 0 s.procs in
    omega (arith, duration, c.loop-pe-test.true, c.procs-pe-end.ensures.value, c.in_ok-loads.loads.ok)

pub loop-pe-preserved : goal.loop-pe-preserved
loop-pe-preserved g c =
    let s = c.args.snapshot.now in
    let items = c.in_ok-loads.loads.items in
    let below : c.loop-pe.pe < s.procs = omega (arith, c.loop-pe-test.true, c.procs-pe-end.ensures.value) in
    let duration : length items ≡ s.procs = ap length c.in_ok-loads.ensures.loads ∙ length-map-range_with_len (load_on s.loads s.sizes) 0 s.procs in
    let load_is : c.index-load.result.now ≡ load_on s.loads s.sizes c.loop-pe.pe
    = get_or_read items c.loop-pe.pe c.index-load.result.now (omega (arith, below, duration)) c.index-load.ensures 0
    ∙ ap (λ xs. get_or xs c.loop-pe.pe 0) c.in_ok-loads.ensures.loads
    ∙ get_or-map-range_with_len (load_on s.loads s.sizes) 0 s.procs c.loop-pe.pe c.loop-pe.pe 0 below (omega arith) in
    rw (c.in_ok-push.ensures.items, load_is, c.loop-pe.invariant) (loads_more c.args.events.now.items c.args.at s c.loop-pe.pe)
