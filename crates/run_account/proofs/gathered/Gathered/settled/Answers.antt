use Rattle.std.proofs.Common.{rules, [], length, ap, arith}
use Rattle.std.specs.Prelude.{All}
use Rattle.std.proofs.lemmas.List.{length-map}
use Rattle.std.proofs.lemmas.List.Elements.{All-map}
use Rattle.pe_state.specs.Histories.{IsParcelHistory}
use Rattle.pe_queues.specs.Seats.{pes}
use Rattle.sync_board.specs.Boards.{new_board}
use Rattle.run_account.proofs.RunAccounts.{all_seats, accounted}
use Rattle.run_account.proofs.Starts.{counts_on}
use Rattle.run_account.proofs.gathered.Gathered.settled.Goals as goal
use Rattle.sync_board.specs.declared.strategy.Strategy.TheVariants.{Least}

pub unreachable-requires : goal.unreachable-requires
unreachable-requires g c =
    c.in_default.ensures.answer.0 (all_seats g.C.Chare.step g.C.Pup.fits g.C.Pup.pack g.H.Openings.opened g.J.RunBeginning.beginning
    c.self.inside.ends.items c.self.inside.seat c.self.invariant (search rules) c.requires.all_seats)

pub returns-clause-account : goal.returns-clause-account
returns-clause-account g c =
    rw c.release.ensures.parcels (accounted {B = Unit {0}} g.C.Chare.step g.C.Pup.fits g.C.Pup.pack g.H.Openings.opened
    g.J.RunBeginning.beginning c.self.inside.ends.items c.self.inside.seat c.in-Ok.left.items [] (new_board 0 0 Least) c.self.invariant
    c.in-Ok.ensures.left c.requires.beginning c.requires.in_order (search rules))

pub returns-clause-counted : goal.returns-clause-counted
returns-clause-counted g c =
    let a = ap length c.release.ensures.parcels in
    let b = length-map c.release.result.items (λ q. q.items) in
    let d = length-map c.in-Ok.left.items (λ q. q.items) in
    let e = c.in-Ok.ensures.left.one_each in
    let o = ap pes c.self.invariant.own in
    let p = ap pes c.requires.own in
    omega (arith, a, b, d, e, o, p, c.requires.served)

pub returns-clause-histories : goal.returns-clause-histories
returns-clause-histories g c =
    record {
      pes = c.self.invariant.histories;
      queues = All-map (All (IsParcelHistory g.C.Chare.step g.C.Pup.fits g.C.Pup.pack g.H.Openings.opened)) (λ q. q.items) c.release.result.items c.release.ensures.histories;
    }

pub returns-clause-counts : goal.returns-clause-counts
returns-clause-counts g c =
    counts_on g.J.RunBeginning.beginning.starts c.self.inside.ends.items c.self.invariant.in_order (search rules) c.self.invariant.grown
