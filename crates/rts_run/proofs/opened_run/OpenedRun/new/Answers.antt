use Rattle.std.proofs.Common.{◌≡◌, ◌∙◌, ◌≤◌, ℕ, arith, ap, length, refl}
use Rattle.std.proofs.lemmas.List.{length-map, length-replicate}
use Rattle.std.proofs.lemmas.List.FromFn.{length-map-range_with_len}
use Rattle.lb_database.specs.Measuring.{elements}
use Rattle.rts_core.specs.Worlds.{opening_pes, opening_words, home}
use Rattle.rts_core.proofs.Weights.{sum_by-map}
use Rattle.run_account.proofs.Openings.{opening_account}
use Rattle.rts_run.proofs.Opened.{opens_in_order}
use Rattle.rts_run.proofs.opened_run.OpenedRun.new.Goals as goal

pub invariant_of-opened : goal.invariant_of-opened
invariant_of-opened g c =
    let n = c.element_count-n.result in
    let opens : c.in_ok-states.states.items ≡ opening_pes g.H.Openings.pes g.H.Openings.opened = c.in_ok-states.ensures.value
    ∙ (ap (λ v. opening_pes v c.args.chares.items) (c.of-pes.ensures.value ∙ c.requires.run) ∙ ap (opening_pes g.H.Openings.pes) c.requires.opened) in
    let some : 1 ≤ g.H.Openings.pes = omega (arith, c.requires.run, c.requires.within.some_pe) in
    let counts = c.element_count-n.ensures.value ∙ ap length c.deref.ensures.value in
    let all : n ≡ length g.H.Openings.opened = counts ∙ ap length c.requires.opened in
    let homes : length c.in_ok-homes.homes.items ≡ n = ap length c.in_ok-homes.ensures.value ∙ length-map-range_with_len (λ e. home e n c.of-pes.result) 0 n in
    let board : elements c.in_ok-board.board.database ≡ n = ap (λ b. elements b.database) c.in_ok-board.ensures.made ∙ length-replicate {A = ℕ} n 0 in (
      record {
        account = rw opens (opening_account g.C.Chare.step g.H.Openings.pes g.H.Openings.opened some);
        in_order = rw opens (opens_in_order g.H.Openings.pes g.H.Openings.opened some);
        counted = c.in_ok-states.ensures.counted ∙ (c.of-pes.ensures.value ∙ c.requires.run);
        served = c.in_ok-post.ensures.served ∙ c.requires.run;
        shared = length-map c.in_ok-post.seats.items (λ s. s.seats) ∙ (c.in_ok-post.ensures.seated ∙ c.requires.run);
        all_seats = sum_by-map (λ n. n) (λ s. s.seats) c.in_ok-post.seats.items ∙ c.in_ok-post.ensures.all_seats;
      },
      c.in_ok-post.ensures.new,
      record {
        word_pes = c.in_ok-words.ensures.pes ∙ c.requires.run;
        word_elements = c.in_ok-words.ensures.elements ∙ (ap length c.deref-2.ensures.value ∙ (homes ∙ all));
        elements = board ∙ all;
        on_pes = ap (λ b. b.pes) c.in_ok-board.ensures.made ∙ c.requires.run;
        by_strategy = ap (λ b. b.strategy) c.in_ok-board.ensures.made ∙ c.requires.by_strategy;
        earlier_first = rw c.requires.first_rounds refl;
      },
    )

pub returns-clause-homes : goal.returns-clause-homes
returns-clause-homes g c =
    let all : c.element_count-n.result ≡ length g.H.Openings.opened =
    c.element_count-n.ensures.value ∙ (ap length c.deref.ensures.value ∙ ap length c.requires.opened) in
    c.in_ok-homes.ensures.value
    ∙ (ap (λ (n : ℕ). opening_words n c.of-pes.result) all ∙ ap (opening_words (length g.H.Openings.opened)) (c.of-pes.ensures.value ∙ c.requires.run))
