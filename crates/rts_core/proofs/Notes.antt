-- What the board does with a note.
use Rattle.std.proofs.Common.{◌≡◌, ℕ, ◌<◌, ◌≤◌, Some, None, arith}
use Rattle.std.proofs.lemmas.Bool.Decides.{nat_tests}
use Rattle.chares.specs.declared.note.Note.TheVariants.{Sync, Finish}
use Rattle.sync_board.specs.Boards.{BoardState, after_report, after_finish}
use Rattle.sync_board.specs.Refusals.{RefusesFinish, database_error_of}
use Rattle.sync_board.specs.declared.error.BoardError.{BoardError}
use Rattle.sync_board.specs.declared.error.BoardError.TheVariants.{Stranger, WrongRound, Twice, TooLarge, Incomplete, OutOfMemory, Worn}
use Rattle.chare_index.specs.declared.limits.TheConstants.Limits.{STATE_BYTES}
use Rattle.lb_database.specs.Measuring.{elements}
use Rattle.lb_database.specs.Refusals.{IsReport, RefusesReport}
use Rattle.rts_core.specs.Events.{board_after}

pub sync_taken : {A : Type 0} (b : BoardState A) (e round units bytes pe : ℕ) → pe < b.pes → IsReport b.database e round bytes
    → board_after b (Sync e round units bytes pe) ≡ Some (after_report b e units bytes pe)
sync_taken b e round units bytes pe below h =
    let a = h.known in
    let r = h.for_round in
    let f = h.first in
    grind (arith, nat_tests)

pub sync_elsewhere : {A : Type 0} (b : BoardState A) (e round units bytes pe : ℕ) → b.pes ≤ pe → board_after b (Sync e round units bytes pe) ≡ None
sync_elsewhere b e round units bytes pe h = grind (arith, nat_tests)

pub sync_refused : {A : Type 0} (b : BoardState A) (e round units bytes pe : ℕ) (error : BoardError) → bytes ≤ STATE_BYTES
    → RefusesReport b.database e round bytes (database_error_of error) → board_after b (Sync e round units bytes pe) ≡ None
sync_refused b e round units bytes pe Stranger small h = grind (arith, nat_tests)
sync_refused b e round units bytes pe WrongRound small h = let n = h.1 in grind (arith, nat_tests)
sync_refused b e round units bytes pe Twice small h = let s = h.2 in grind (arith, nat_tests)
sync_refused b e round units bytes pe TooLarge small h = let s = h.3 in absurd (omega (arith, small, s))
sync_refused b e round units bytes pe Incomplete small h = absurd h
sync_refused b e round units bytes pe OutOfMemory small h = absurd h
sync_refused b e round units bytes pe Worn small h = absurd h

pub finish_taken : {A : Type 0} (b : BoardState A) (e : ℕ) → e < elements b.database → board_after b (Finish e) ≡ Some (after_finish b e)
finish_taken b e h = grind (arith, nat_tests)

pub finish_refused : {A : Type 0} (b : BoardState A) (e : ℕ) (error : BoardError) → RefusesFinish b.database e error → board_after b (Finish e) ≡ None
finish_refused b e Stranger h = grind (arith, nat_tests)
finish_refused b e WrongRound h = absurd h
finish_refused b e Twice h = absurd h
finish_refused b e TooLarge h = absurd h
finish_refused b e Incomplete h = absurd h
finish_refused b e OutOfMemory h = absurd h
finish_refused b e Worn h = absurd h
