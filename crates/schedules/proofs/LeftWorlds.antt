-- What a course leaves is its world.
use Rattle.std.proofs.Common.{◌≡◌, ◌∙◌, ℕ, List, sym, ap, subst}
use Rattle.sync_board.specs.Boards.{BoardState}
use Rattle.pe_state.specs.Pes.{PeView, Parcel}
use Rattle.rts_core.specs.Accounts.{IsCounted}
use Rattle.rts_core.specs.Worlds.{WorldView}
use Rattle.run_account.specs.RunAccounts.{left_world}
use Rattle.schedules.specs.Courses.{ExploredView, left_by}

pub left_is : {C A : Type 0} (x : ExploredView C A) (w : WorldView C A) → x.outcome.ends ≡ w.pes → x.outcome.left ≡ w.queues → x.words ≡ w.words
    → x.outcome.board ≡ w.board → left_by x ≡ w
left_is {C} {A} x w pes queues words board =
    ap (λ (v : List (PeView C)). record { pes = v; queues = x.outcome.left; words = x.words; board = x.outcome.board }) pes
    ∙ (ap (λ (v : List (List Parcel)). record { pes = w.pes; queues = v; words = x.words; board = x.outcome.board }) queues
    ∙ (ap (λ (v : List ℕ). record { pes = w.pes; queues = w.queues; words = v; board = x.outcome.board }) words
    ∙ ap (λ (v : BoardState A). record { pes = w.pes; queues = w.queues; words = w.words; board = v }) board))

-- its letters are counted as before
pub counted_left : {C A : Type 0} (ends : List (PeView C)) (left : List (List Parcel)) (w : WorldView C A) → ends ≡ w.pes → left ≡ w.queues
    → IsCounted w → IsCounted (left_world ends left)
counted_left {C} ends left w pes queues counted =
    subst (λ (v : List (PeView C)). IsCounted (left_world v left)) (sym pes) (subst (λ (v : List (List Parcel)). IsCounted (left_world w.pes v)) (sym queues) counted)
