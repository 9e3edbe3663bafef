use Rattle.std.proofs.Common.{◌≡◌, ◌∙◌, ℕ, arith, ap, subst, length, map}
use Rattle.std.specs.List.{range_with_len}
use Rattle.std.proofs.lemmas.List.{length-map}
use Rattle.rts_run.specs.Openings.{IsBeginning}
use Rattle.rts_run.proofs.opened_run.OpenedRun.begin.Goals as goal

pub open_workers-requires-clause-in_order : goal.open_workers-requires-clause-in_order
open_workers-requires-clause-in_order g c = rw c.from_vec-states.ensures.items c.self.invariant.0.in_order

pub open_workers-requires-clause-as_many : goal.open_workers-requires-clause-as_many
open_workers-requires-clause-as_many g c = omega (
  arith,
  ap length c.from_vec-states.ensures.items,
  ap length c.from_vec-seats.ensures.items,
  c.self.invariant.0.counted,
  c.self.invariant.0.shared,
  length-map c.self.inside.seats.items (λ s. s.seats),
)

pub open_workers-requires-clause-new : goal.open_workers-requires-clause-new
open_workers-requires-clause-new g c =
    let own = ap (λ b. b.post) (c.self.view_is ∙ c.requires.beginning) in
    rw c.from_vec-seats.ensures.items (rw (← own) c.self.invariant.1)

pub new-requires-clause-own : goal.new-requires-clause-own
new-requires-clause-own g c = ap (λ b. b.post) (c.self.view_is ∙ c.requires.beginning)

pub returns-clause-beginning : goal.returns-clause-beginning
returns-clause-beginning g c = subst (IsBeginning g.C.Chare.step g.H.Openings.pes g.H.Openings.opened) (c.self.view_is ∙ c.requires.beginning) c.self.invariant.0

pub returns-clause-in_order : goal.returns-clause-in_order
returns-clause-in_order g c =
    let n : length c.from_vec-states.result.items ≡ g.H.Openings.pes = ap length c.from_vec-states.ensures.items ∙ c.self.invariant.0.counted in
    subst (λ (v : ℕ). map (λ w. w.seated.pe.me) c.in_ok-workers.workers.items ≡ range_with_len 0 v) n c.in_ok-workers.ensures.in_order

pub returns-clause-counted : goal.returns-clause-counted
returns-clause-counted g c = c.in_ok-workers.ensures.counted ∙ (ap length c.from_vec-states.ensures.items ∙ c.self.invariant.0.counted)
