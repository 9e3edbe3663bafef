-- A PE with its seat, on which letters may have bodies of another length.
use Rattle.std.proofs.Common.{◌≡◌, ℕ, ap, ◌∙◌}
use Rattle.pe_queues.specs.Seats.{SeatView}
use Rattle.pe_state.specs.Pes.{Parcel, PeView}
use Rattle.pe_worker.specs.Seated.{SeatedView}

pub seated_longer : {C : Type 0} (w new : SeatedView C) (pe : PeView C) (seat : SeatView Parcel) (longest : ℕ) → w ≡ record { pe = pe; seat = seat }
    → new ≡ record w { pe = record (w.pe) { longest = longest } } → new ≡ record { pe = record pe { longest = longest }; seat = seat }
seated_longer {C} w new pe seat longest made grown = grown ∙ ap (λ (s : SeatedView C). record s { pe = record (s.pe) { longest = longest } }) made
