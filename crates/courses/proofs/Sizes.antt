-- How many PEs the world of a course has.
use Rattle.std.proofs.Common.{◌≡◌, ◌∙◌, ℕ, ◌+◌, List, [], ◌∷◌, length, length-set, map, Option, None, Some, refl, ap}
use Rattle.std.specs.Prelude.{Result, MatchOption, slice_get}
use Rattle.std.specs.List.{range_with_len}
use Rattle.std.specs.Option.{option_and_then}
use Rattle.std.proofs.lemmas.List.FromFn.{length-map-range_with_len}
use Rattle.sync_board.specs.declared.strategy.Strategy.{Strategy}
use Rattle.chares.specs.declared.trace_entry.TraceEntry.{TraceEntry}
use Rattle.chares.specs.Steps.{Step}
use Rattle.pe_state.specs.Pes.{PeView, new_pe, placed}
use Rattle.pup_pack.specs.declared.error.PupError.{PupError}
use Rattle.rts_core.specs.declared.event.Event.{Event}
use Rattle.rts_core.specs.Events.{After, Happens, LocalView, MayDecide, enabled, local_step, local_view, or_nothing, pe_of, with_local}
use Rattle.rts_core.specs.Worlds.{WorldView, all_placed, home, opening_world, placed_on}
use Rattle.courses.specs.Courses.{Leads, Made}

-- as many as open
counted_on : {C : Type 0} (pes : List (PeView C)) (q e : ℕ) (chare : C) (o : Option (PeView C)) → length (placed_on pes q e chare o) ≡ length pes
counted_on pes q e chare None = refl
counted_on {C} pes q e chare (Some pe) = length-set {A = PeView C} pes q (placed pe e chare)

counted_all : {C : Type 0} (n : ℕ) (pes : List (PeView C)) (e : ℕ) (chares : List C) → length (all_placed n pes e chares) ≡ length pes
counted_all n pes e [] = refl
counted_all n pes e (chare ∷ chares) =
    let q = home e n (length pes) in
    counted_all n (placed_on pes q e chare (slice_get pes q)) (e + 1) chares ∙ counted_on pes q e chare (slice_get pes q)

counted_opening : {C : Type 0} (A : Type 0) (pes : ℕ) (chares : List C) (strategy : Strategy) → length (opening_world {C = C} {A = A} pes chares strategy).pes ≡ pes
counted_opening {C} A pes chares strategy =
    counted_all (length chares) (map (λ (q : ℕ). new_pe {C = C} q (length chares)) (range_with_len 0 pes)) 0 chares
    ∙ length-map-range_with_len (λ (q : ℕ). new_pe {C = C} q (length chares)) 0 pes

-- and no event changes that
module _ {C A : Type 0} (step : Step C) (pack : C → List ℕ) (unpack : List ℕ → Result (C × ℕ) PupError) where
  counted_local : (w : WorldView C A) (p : ℕ) (o : Option (LocalView C A × List TraceEntry))
      → length (or_nothing w (option_and_then (λ (after : LocalView C A × List TraceEntry). Some (with_local w p after.0, after.1)) o)).0.pes ≡ length w.pes
  counted_local w p None = refl
  counted_local w p (Some after) = length-set {A = PeView C} w.pes p after.0.pe

  counted_at : (w : WorldView C A) (event : Event) (p : ℕ) → length (or_nothing w (enabled step pack unpack w event p)).0.pes ≡ length w.pes
  counted_at w event p = by (slice_get w.pes p)
    where
      by : (o : Option (PeView C))
          → length (or_nothing w (option_and_then (λ (pe : PeView C). option_and_then
          (λ (after : LocalView C A × List TraceEntry). Some (with_local w p after.0, after.1)) (local_step step pack unpack event (local_view w pe))) o)).0.pes
          ≡ length w.pes
      by None = refl
      by (Some pe) = counted_local w p (local_step step pack unpack event (local_view w pe))

  counted_after : (w : WorldView C A) (event : Event) (next : After C A) → Happens step pack unpack w event next → length next.0.pes ≡ length w.pes
  counted_after w event next did = by (pe_of event) did
    where
      by : (o : Option ℕ) → MatchOption o (MayDecide w.board next.0.board next.1 × (next.0 ≡ record w { board = next.0.board }))
          (λ p. next ≡ or_nothing w (enabled step pack unpack w event p))
          → length next.0.pes ≡ length w.pes
      by None d = ap (λ (v : WorldView C A). length v.pes) d.1
      by (Some p) e = ap (λ (v : After C A). length v.0.pes) e ∙ counted_at w event p

  counted_led : (w last : WorldView C A) (steps : List Made) → Leads step pack unpack w steps last → length last.pes ≡ length w.pes
  counted_led w last [] led = ap (λ (v : WorldView C A). length v.pes) led
  counted_led w last (made ∷ steps) (next, may, did, rest) = counted_led next last steps rest ∙ counted_after w made.0 (next, made.1) did

  -- the world of a course has as many as its opening
  pub pes_led : (pes : ℕ) (chares : List C) (strategy : Strategy) (steps : List Made) (w : WorldView C A)
      → Leads step pack unpack (opening_world pes chares strategy) steps w → length w.pes ≡ pes
  pes_led pes chares strategy steps w led =
      counted_led (opening_world pes chares strategy) w steps led ∙ counted_opening A pes chares strategy
