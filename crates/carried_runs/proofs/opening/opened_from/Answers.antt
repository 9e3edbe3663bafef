use Rattle.std.proofs.Common.{◌∙◌, ◌<◌, ℕ, arith, ap, map, subst, sym}
use Rattle.std.specs.Prelude.{All}
use Rattle.std.proofs.lemmas.List.{length-map}
use Rattle.pe_state.specs.Histories.{IsParcelHistory}
use Rattle.run_account.proofs.Passing.{counted_by}
use Rattle.run_account.specs.Reopenings.{all_reopened}
use Rattle.std.proofs.Math.Seq.{take-length}
use Rattle.barrier.specs.Rounds.{BeginWith}
use Rattle.carried_runs.proofs.Again.{all_before, all_members, begins_again}
use Rattle.carried_runs.proofs.opening.opened_from.Goals as goal

pub board_len-n-requires : goal.board_len-n-requires
board_len-n-requires g c = omega (arith, c.requires.elements, c.requires.few)

pub reopen_all-requires-clause-members : goal.reopen_all-requires-clause-members
reopen_all-requires-clause-members g c =
    subst (λ (v : ℕ). All (λ pe. pe.me < v) c.args.ends.items) (sym c.requires.run) (all_members (λ pe. pe.me) g.H.Openings.pes c.args.ends.items c.requires.in_order)

pub reopen_all-requires-clause-histories : goal.reopen_all-requires-clause-histories
reopen_all-requires-clause-histories g c = c.requires.histories.pes

pub reopen_all-requires-clause-queues : goal.reopen_all-requires-clause-queues
reopen_all-requires-clause-queues g c =
    all_before (All (IsParcelHistory g.C.Chare.step g.C.Pup.fits g.C.Pup.pack g.H.Openings.opened)) (λ q. q.items) c.args.left.items c.requires.histories.queues

pub reopen_all-requires-clause-one_each : goal.reopen_all-requires-clause-one_each
reopen_all-requires-clause-one_each g c =
    let n = counted_by (λ pe. pe.me) 0 g.H.Openings.pes c.args.ends.items c.requires.in_order in
    omega (arith, n, length-map c.args.left.items (λ q. q.items), c.requires.queues)

pub of_parts-requires-clause-beginning : goal.of_parts-requires-clause-beginning
of_parts-requires-clause-beginning g c =
    let value = c.in_ok-states.ensures.value ∙ ap (λ (v : ℕ). all_reopened v c.args.ends.items (map (λ q. q.items) c.args.left.items)) c.requires.run in
    begins_again g.C.Chare.step g.H.Openings.opened g.H.Openings.pes c.args.ends.items (map (λ q. q.items) c.args.left.items)
    (record { post = c.in_ok-post.post; starts = c.in_ok-states.states.items; shares = map (λ s. s.seats) c.in_ok-post.seats.items })
    value c.requires.in_order c.requires.queues c.requires.account c.in_ok-post.ensures.served c.in_ok-post.ensures.shared c.in_ok-post.ensures.all_seats

pub of_parts-requires-clause-new_seats : goal.of_parts-requires-clause-new_seats
of_parts-requires-clause-new_seats g c = c.in_ok-post.ensures.new

pub of_parts-requires-clause-of_run : goal.of_parts-requires-clause-of_run
of_parts-requires-clause-of_run g c =
    record {
      word_pes = c.in_ok-words.ensures.pes;
      word_elements = c.in_ok-words.ensures.elements ∙ (c.board_len-n.ensures.value ∙ c.requires.elements);
      elements = c.requires.elements;
      on_pes = c.requires.on_pes;
      by_strategy = c.requires.by_strategy;
      earlier_first = subst (λ v. BeginWith v c.args.board.rounds) c.requires.earlier_rounds (take-length c.args.board.rounds);
    }

pub returns-clause-starts : goal.returns-clause-starts
returns-clause-starts g c = c.of_parts.ensures.starts ∙ c.in_ok-states.ensures.value
