-- A run of ranks is a list of events, each with the copy of the location words that the rank which makes it has then.
use Rattle.std.proofs.Common.{◌≡◌, ℕ, List, [], ◌∷◌, ◌++◌, Option, Some, None, sym, subst, ◌∙◌, ap, inl}
use Rattle.std.specs.Prelude.{MatchOption}
use Rattle.foreign_chare.specs.Scripts.{Stamp}
use Rattle.overtaking_laws.specs.FreeRuns.{HappensUnordered}
use Rattle.overtaking_laws.specs.StaleRuns.{ReachesByCopies, with_words}
use Rattle.rank_calls.specs.Runs.{Run, stamp_pack, stamp_unpack, step_in}
use Rattle.rank_ledgers.specs.Ranks.{done_by}
use Rattle.rank_worlds.specs.LateRuns.{with_copy}
use Rattle.rank_worlds.specs.RankRuns.{RankStep, ReachesByRanks}
use Rattle.rank_worlds.specs.RankRuns.RankStep.{Asks, Decides}
use Rattle.rank_worlds.specs.Worlds.{event_of}
use Rattle.rank_worlds.proofs.CallEvents.{answered}
use Rattle.rts_core.specs.Events.{After}
use Rattle.rts_core.specs.Worlds.{WorldView}
use Rattle.rts_core.specs.declared.event.Event.{Event}
use Rattle.rts_core.specs.declared.event.Event.TheVariants.{Decide}

module _ {A : Type 0} (run : Run) where
  -- one call before the events of those after it
  pub one_before : (w : WorldView Stamp A) (words : List ℕ) (first rest last : After Stamp A) (event : Option Event) (events : List (List ℕ × Event))
      → MatchOption event (first ≡ (w, [])) (λ it. HappensUnordered (step_in run) stamp_pack stamp_unpack (with_words w words) it first)
      → ReachesByCopies (step_in run) stamp_pack stamp_unpack first.0 events rest → last ≡ (rest.0, first.1 ++ rest.1)
      → ReachesByCopies (step_in run) stamp_pack stamp_unpack w (with_copy words event ++ events) last
  one_before w words first rest last None events same leads is =
      let quiet : last ≡ rest = is ∙ ap (λ (v : After Stamp A). (rest.0, v.1 ++ rest.1)) same in
      subst (ReachesByCopies (step_in run) stamp_pack stamp_unpack w events) (sym quiet)
      (subst (λ (v : After Stamp A). ReachesByCopies (step_in run) stamp_pack stamp_unpack v.0 events rest) same leads)
  one_before w words first rest last (Some event) events happens leads is = (first, rest, happens, leads, is)

  pub by_ranks : (w : WorldView Stamp A) (steps : List RankStep) (last : After Stamp A) → ReachesByRanks run w steps last
      → (events : List (List ℕ × Event)) × ReachesByCopies (step_in run) stamp_pack stamp_unpack w events last
  by_ranks w [] last reached = ([], reached)
  by_ranks w (Asks words p request reply ∷ steps) last (first, rest, is_answered, leads, is) =
      let later = by_ranks first.0 steps rest leads in
      let event = event_of p (done_by request reply) in (
        with_copy words event ++ later.0,
        one_before w words first rest last event later.0 (answered run words p request reply w first is_answered) later.1 is,
      )
  by_ranks w (Decides ∷ steps) last (first, rest, decided, leads, is) =
      let later = by_ranks first.0 steps rest leads in
      ((w.words, Decide) ∷ later.0, (first, rest, inl (inl decided.decides, decided.leads), later.1, is))
