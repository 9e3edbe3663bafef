-- What chares leave that were placed on given PEs, by a run that was stopped before its first event, is an outcome.
use Rattle.std.proofs.Common.{◌≡◌, ◌∙◌, ℕ, suc, ◌+◌, ◌<◌, ◌≤◌, List, [], ◌∷◌, length, map, replicate, Some, arith, refl, ap, subst}
use Rattle.std.specs.Prelude.{All, slice_get}
use Rattle.std.specs.List.{range_with_len}
use Rattle.std.proofs.lemmas.List.{length-replicate}
use Rattle.sync_board.specs.Boards.{IsBoard, new_board}
use Rattle.sync_board.specs.declared.strategy.Strategy.{Strategy}
use Rattle.sync_board.proofs.Rounds.{board_new}
use Rattle.chare_index.specs.declared.limits.TheConstants.Limits.{PES}
use Rattle.chares.specs.Elements.{Refuses}
use Rattle.chares.specs.Steps.{Step}
use Rattle.lb_database.specs.Measuring.{elements}
use Rattle.pe_state.specs.Histories.{HasHistories}
use Rattle.pe_state.specs.Pes.{PeView, Parcel}
use Rattle.pe_worker.specs.declared.fault.Fault.TheVariants.{Stopped}
use Rattle.rts_core.specs.Accounts.{IsCounted}
use Rattle.rts_core.specs.Histories.{AreHistories}
use Rattle.rts_core.proofs.Openings.{opening_run}
use Rattle.rts_core.proofs.Orders.{histories_in_order}
use Rattle.run_account.specs.RunAccounts.{IsRunAccount, left_world}
use Rattle.rts_run.specs.Outcomes.{IsOutcome, OutcomeView}
use Rattle.rts_run.proofs.Rounds.{decided_on}
use Rattle.placed_runs.specs.Placed.{placed_pes}
use Rattle.placed_runs.proofs.Account.{placed_account}
use Rattle.placed_runs.proofs.Fresh.{placed_marked}
use Rattle.placed_runs.proofs.Placing.{placed_counted, states_open, states_weigh}

-- each at its own place
in_places : {X : Type 0} (f : X → ℕ) (a : ℕ) (xs : List X) → ((i : ℕ) (x : X) → slice_get xs i ≡ Some x → f x ≡ a + i) → map f xs ≡ range_with_len a (length xs)
in_places f a [] h = refl
in_places f a (x ∷ xs) h =
    let b : f x ≡ a = omega (arith, h 0 x refl) in
    let c = in_places f (a + 1) xs (λ i y at. let k = h (suc i) y at in omega (arith, k)) in
    ap (λ (v : ℕ). v ∷ map f xs) b ∙ ap (λ (v : List ℕ). a ∷ v) c

module _ {C : Type 0} (pes : ℕ) (places : List ℕ) (chares : List C) (same : length places ≡ length chares) where
  abbrev pub states : List (PeView C)
  states = placed_pes pes places chares

  -- the PEs are in order
  placed_in_order : map (λ pe. pe.me) states ≡ range_with_len 0 pes
  placed_in_order = subst (λ (v : ℕ). map (λ pe. pe.me) states ≡ range_with_len 0 v) (placed_counted pes places chares)
      (in_places (λ pe. pe.me) 0 states (λ i pe at. let k = (states_open pes places chares same i pe at).numbered in omega (arith, k)))

  module _ (named : All (λ q. q < pes) places) where
    account : (step : Step C) → IsRunAccount step chares (left_world states (replicate pes []))
    account step = placed_account step chares pes states (states_open pes places chares same) (states_weigh pes places chares same named)

    -- the letters add up
    pub placed_adds_up : (step : Step C) (ends : List (PeView C)) (left : List (List Parcel)) → ends ≡ states → left ≡ replicate pes [] → IsCounted (left_world ends left)
    placed_adds_up step ends left e l = rw e (rw l (account step).counted)

    module _ {A : Type 0} (step : Step C) (fits : C → Type 0) (pack : C → List ℕ) (refuses : Refuses C) (strategy : Strategy) (o : OutcomeView C A)
        (homes : o.homes ≡ places) (ends : o.ends ≡ states) (left : o.left ≡ replicate pes []) (board : o.board ≡ new_board (length chares) pes strategy) (fault : o.fault ≡ Some Stopped) where
      histories_left : All (HasHistories step fits pack chares) o.ends → AreHistories step fits pack chares (left_world o.ends o.left)
      histories_left h = rw left (opening_run step fits pack chares pes o.ends [] _ h)

      pub stopped_outcome : 1 ≤ pes → pes ≤ PES → All (HasHistories step fits pack chares) o.ends → IsOutcome step fits pack refuses chares pes strategy o
      stopped_outcome some few h =
          let is_board : IsBoard o.board = rw board (board_new A (length chares) pes strategy some few) in
          let counted : elements o.board.database ≡ length chares = ap (λ b. elements b.database) board ∙ length-replicate (length chares) 0 in
          let on : o.board.pes ≡ pes = ap (λ b. b.pes) board in
          let by : o.board.strategy ≡ strategy = ap (λ b. b.strategy) board in
          let histories = histories_left h in
          record {
            ends = rw ends placed_in_order;
            queues = ap length left ∙ length-replicate pes [];
            account = rw ends (rw left (account step));
            histories = histories;
            in_order = histories_in_order step fits pack chares (left_world o.ends o.left) histories;
            board = is_board;
            elements = counted;
            on_pes = on;
            by_strategy = by;
            rounds = decided_on o.board (length chares) pes strategy counted on by is_board;
            marks = λ _. rw board (rw homes (rw ends (rw left (placed_marked A pes chares strategy places same places))));
            mismatch = λ is. absurd (cc);
            unpacks = λ is. cc;
            cause = λ _. rw fault tt;
            finished = λ none. absurd (cc);
            all_finished = λ none. absurd (cc);
            quiet = λ is. absurd (cc);
            unfinished = λ is. absurd (cc);
          }
