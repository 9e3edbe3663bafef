use Rattle.std.proofs.Common.{◌≡◌, ◌∙◌, ap, arith, map}
use Rattle.std.proofs.lemmas.List.{map-append}
use Rattle.rts_core.proofs.Openings.{replicate_more}
use Rattle.placed_runs.proofs.opening.no_parcels.Goals as goal

pub loop-q-preserved : goal.loop-q-preserved
loop-q-preserved g c =
    replicate_more c.loop-q._q c.new.result.items (map (λ q. q.items) c.loop-q.left.items) (map (λ q. q.items) c.push.new.self.items) c.loop-q.invariant c.new.ensures.items
    (ap (map (λ q. q.items)) c.in_ok-push.ensures.items ∙ map-append (λ q. q.items) c.loop-q.left.items _)

pub returns : goal.returns
returns g c = let e : c.loop-q._q ≡ c.args.pes = omega arith in record { value = rw (← e) c.loop-q.invariant }
