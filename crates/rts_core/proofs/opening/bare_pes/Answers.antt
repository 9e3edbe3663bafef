use Rattle.std.proofs.Common.{◌≡◌, ℕ, length, ap, arith}
use Rattle.std.proofs.lemmas.List.FromFn.{length-map-range_with_len}
use Rattle.pe_state.specs.Pes.{new_pe}
use Rattle.rts_core.proofs.Openings.{pes_more}
use Rattle.rts_core.proofs.opening.bare_pes.Goals as goal

pub loop-q-preserved : goal.loop-q-preserved
loop-q-preserved g c =
    pes_more c.args.n c.loop-q.q c.pe_at-me.result c.loop-q.made.items c.push.new.self.items c.new.result c.in_ok-push.ensures.items
    c.loop-q.invariant c.new.ensures.value c.pe_at-me.ensures.value

pub returns-clause-value : goal.returns-clause-value
returns-clause-value g c = let e : c.loop-q.q ≡ c.args.pes = omega arith in rw (← e) c.loop-q.invariant

pub returns-clause-some_pe : goal.returns-clause-some_pe
returns-clause-some_pe g c =
    let e : c.loop-q.q ≡ c.args.pes = omega arith in
    omega (arith, ap length c.loop-q.invariant, length-map-range_with_len (λ (q : ℕ). new_pe {C = g.row.C.Denot} q c.args.n) 0 c.loop-q.q, e, c.get-count.ensures.some_pe)

pub returns-clause-few_pes : goal.returns-clause-few_pes
returns-clause-few_pes g c =
    let e : c.loop-q.q ≡ c.args.pes = omega arith in
    omega (arith, ap length c.loop-q.invariant, length-map-range_with_len (λ (q : ℕ). new_pe {C = g.row.C.Denot} q c.args.n) 0 c.loop-q.q, e, c.get-count.ensures.few_pes)
