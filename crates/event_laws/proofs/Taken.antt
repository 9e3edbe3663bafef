-- The board takes every note that a PE owes, where the two agree.
use Rattle.std.proofs.Common.{◌≡◌, ℕ, ◌<◌, Some, None, arith, refl, sym, subst}
use Rattle.std.specs.Prelude.{All, IsSome, slice_get}
use Rattle.std.proofs.lemmas.Bool.Decides.{nat_tests}
use Rattle.std.proofs.lemmas.Option.{slice_get_within}
use Rattle.sync_board.specs.Boards.{BoardState}
use Rattle.lb_database.specs.Measuring.{elements, report_of}
use Rattle.chares.specs.declared.note.Note.{Note}
use Rattle.chares.specs.declared.note.Note.TheVariants.{Sync, Finish}
use Rattle.chares.specs.Elements.{ElementView}
use Rattle.pe_state.specs.Pes.{PeView}
use Rattle.rts_core.specs.Events.{board_after}
use Rattle.rts_core.specs.Worlds.{WorldView}
use Rattle.rts_core.proofs.Rooms.{at_place}
use Rattle.event_laws.specs.Agreement.{Owes, AgreesWith, IsOwed, AgreesAt, Agrees, AllTaken}
use Rattle.event_laws.proofs.Rooms.{of_found}
use Rattle.event_laws.proofs.ReportEvent.{all_got}

-- the tests of the board, for a note that an element waits, and for one that it has finished
sync_passes : {A : Type 0} (b : BoardState A) (e round units bytes pe : ℕ) → pe < b.pes → e < elements b.database → round ≡ b.database.round
    → report_of b.database e ≡ None → IsSome (board_after b (Sync e round units bytes pe))
sync_passes b e round units bytes pe below known at silent = grind (arith, nat_tests)

finish_passes : {A : Type 0} (b : BoardState A) (e : ℕ) → e < elements b.database → IsSome (board_after b (Finish e))
finish_passes b e known = grind (arith, nat_tests)

module _ {C A : Type 0} (n : ℕ) (w : WorldView C A) (h : Agrees n w) where
  note_taken : (p : ℕ) (pe : PeView C) → slice_get w.pes p ≡ Some pe → (note : Note) → IsOwed w.board.database pe.me pe.room note → IsSome (board_after w.board note)
  note_taken p pe at (Finish e) owed = finish_passes w.board e owed.0
  note_taken p pe at (Sync e r u b q) owed =
      let o = owed.1 refl in
      let el : ElementView C = o.0 in
      let owes : Owes w.board.database pe.me el (Sync e r u b q) = o.2 in
      let here : AgreesAt w.board.database pe = at_place (AgreesAt w.board.database) w.pes p pe h.pes at in
      let now : AgreesWith w.board.database pe.me pe.notes el = of_found (AgreesWith w.board.database pe.me pe.notes) el.index el pe.room here.room o.1 in
      let me : pe.me ≡ p = h.places p pe at in
      let inside = slice_get_within w.pes p pe at in
      let c = h.counted in
      let below : pe.me < w.board.pes = omega (arith, me, inside, c) in
      subst (λ (v : Note). IsSome (board_after w.board v)) (sym owes.says)
      (sync_passes w.board el.index w.board.database.round owes.units owes.bytes pe.me below now.known refl owes.silent)

  pub all_taken : AllTaken w
  all_taken =
      all_got (λ pe. All (λ note. IsSome (board_after w.board note)) pe.notes) w.pes
      (λ p pe at. all_got (λ note. IsSome (board_after w.board note)) pe.notes
      (λ i note is. note_taken p pe at note (at_place (IsOwed w.board.database pe.me pe.room) pe.notes i note (at_place (AgreesAt w.board.database) w.pes p pe h.pes at).notes is)))
