use Rattle.std.proofs.Common.{◌∙◌, List, ap, length, map, subst, sym}
use Rattle.lb_database.specs.Measuring.{elements}
use Rattle.pe_state.specs.Pes.{PeView, Parcel}
use Rattle.rts_core.specs.Histories.{AreHistories}
use Rattle.run_account.specs.Reopenings.{all_reopened}
use Rattle.run_account.specs.RunAccounts.{IsRunAccount, left_world}
use Rattle.carried_runs.proofs.opening.opened_again.Goals as goal

pub opened_from-requires-clause-in_order : goal.opened_from-requires-clause-in_order
opened_from-requires-clause-in_order g c = ap (map (λ pe. pe.me)) c.into_parts-homes.ensures.ends ∙ c.requires.earlier.ends

pub opened_from-requires-clause-queues : goal.opened_from-requires-clause-queues
opened_from-requires-clause-queues g c = ap length c.into_parts-homes.ensures.left ∙ c.requires.earlier.queues

pub opened_from-requires-clause-account : goal.opened_from-requires-clause-account
opened_from-requires-clause-account g c =
    let left : IsRunAccount g.C.Chare.step g.H.Openings.opened (left_world c.args.outcome.ends (map (λ q. q.items) c.into_parts-homes.result.2.items)) =
    subst (λ (v : List (List Parcel)). IsRunAccount g.C.Chare.step g.H.Openings.opened (left_world c.args.outcome.ends v))
    (sym c.into_parts-homes.ensures.left) c.requires.earlier.account in
    subst (λ (v : List (PeView g.row.C.Denot)). IsRunAccount g.C.Chare.step g.H.Openings.opened
    (left_world v (map (λ q. q.items) c.into_parts-homes.result.2.items))) (sym c.into_parts-homes.ensures.ends) left

pub opened_from-requires-clause-histories : goal.opened_from-requires-clause-histories
opened_from-requires-clause-histories g c =
    let left : AreHistories g.C.Chare.step g.C.Pup.fits g.C.Pup.pack g.H.Openings.opened (left_world c.args.outcome.ends (map (λ q. q.items) c.into_parts-homes.result.2.items)) =
    subst (λ (v : List (List Parcel)). AreHistories g.C.Chare.step g.C.Pup.fits g.C.Pup.pack g.H.Openings.opened
    (left_world c.args.outcome.ends v)) (sym c.into_parts-homes.ensures.left) c.requires.earlier.histories in
    subst (λ (v : List (PeView g.row.C.Denot)). AreHistories g.C.Chare.step g.C.Pup.fits g.C.Pup.pack g.H.Openings.opened
    (left_world v (map (λ q. q.items) c.into_parts-homes.result.2.items))) (sym c.into_parts-homes.ensures.ends) left

pub opened_from-requires-clause-elements : goal.opened_from-requires-clause-elements
opened_from-requires-clause-elements g c = ap (λ b. elements b.database) c.into_parts-homes.ensures.board ∙ c.requires.earlier.elements

pub opened_from-requires-clause-on_pes : goal.opened_from-requires-clause-on_pes
opened_from-requires-clause-on_pes g c = ap (λ b. b.pes) c.into_parts-homes.ensures.board ∙ c.requires.earlier.on_pes

pub opened_from-requires-clause-by_strategy : goal.opened_from-requires-clause-by_strategy
opened_from-requires-clause-by_strategy g c = ap (λ b. b.strategy) c.into_parts-homes.ensures.board ∙ c.requires.earlier.by_strategy

pub opened_from-requires-clause-earlier_rounds : goal.opened_from-requires-clause-earlier_rounds
opened_from-requires-clause-earlier_rounds g c = ap (λ b. b.rounds) c.into_parts-homes.ensures.board ∙ c.requires.earlier_rounds

pub returns-clause-starts : goal.returns-clause-starts
returns-clause-starts g c =
    c.in_ok-opened.ensures.starts
    ∙ (ap (λ v. all_reopened c.args.config.now.pes v (map (λ q. q.items) c.into_parts-homes.result.2.items)) c.into_parts-homes.ensures.ends
    ∙ ap (all_reopened c.args.config.now.pes c.args.outcome.ends) c.into_parts-homes.ensures.left)
