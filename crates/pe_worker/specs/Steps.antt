-- What each step of a seated PE makes of its PE and of its seat.
use Rattle.std.specs.Prelude.{◌≡◌, ℕ, ◌==◌, List, Option, None, Some, Result, slice_get, if◌then◌else◌}
use Rattle.std.specs.Option.{option_and_then}
use Rattle.chares.specs.declared.note.Note.{Note}
use Rattle.chares.specs.Steps.{Step}
use Rattle.sync_board.specs.Boards.{BoardState}
use Rattle.barrier.specs.Places.{PlacesView, place_among}
use Rattle.pup_pack.specs.declared.error.PupError.{PupError}
use Rattle.pe_state.specs.declared.acted.Acted.TheVariants.{Executed}
use Rattle.pe_state.specs.Pes.{PeView, Parcel, front_address, front_parcel, received, looked, gave_up, noted, resumed, departed, waits_at, acting, acted_of, pe_after}
use Rattle.pe_queues.specs.Seats.{after_put, after_take}
use Rattle.rts_core.specs.Events.{board_after}
use Rattle.pe_worker.specs.Seated.{SeatedView}

module _ {C : Type 0} where
  -- Deliver: a parcel was taken from the queue of the PE, and is in its hand
  pub record Delivers (old new : SeatedView C) : Type 0 where
    pub parcel : Parcel
    pub held : new.pe ≡ received old.pe parcel
    pub taken : new.seat ≡ after_take old.seat old.pe.me parcel

  -- Flush: the front of the outbox was put into the queue of the PE that it is addressed to
  pub record Flushes (old new : SeatedView C) : Type 0 where
    pub to : ℕ
    pub addressed : front_address old.pe.outbox ≡ Some to
    pub parcel : Parcel
    pub front : front_parcel old.pe.outbox ≡ Some parcel
    pub given : new.pe ≡ gave_up old.pe
    pub put : new.seat ≡ after_put old.seat to parcel

  -- Flush, where nothing has an address, or the queue is full: all is where it was, except for the address that the PE keeps of
  -- the parcel it gave up last
  pub record Stays (old new : SeatedView C) : Type 0 where
    pub same_seat : new.seat ≡ old.seat
    pub same_pe : new.pe ≡ record old.pe { kept = new.pe.kept }

  -- Look: what was wanted was looked for, and is believed to be on this PE
  pub record Looks (old new : SeatedView C) : Type 0 where
    pub believed : ℕ
    pub found_at : new.pe ≡ looked old.pe believed
    pub same_seat : new.seat ≡ old.seat

  -- Look, and then Flush: the front of the outbox was looked for, and put into the queue of the PE that it is believed to be on
  pub record LooksAndFlushes (old new : SeatedView C) : Type 0 where
    pub to : ℕ
    pub parcel : Parcel
    pub front : front_parcel old.pe.outbox ≡ Some parcel
    pub given : new.pe ≡ gave_up (looked old.pe to)
    pub put : new.seat ≡ after_put old.seat to parcel

  -- Report: the board has the first note
  pub record ReportsNote {A : Type 0} (old new : SeatedView C) (before after : BoardState A) (note : Note) : Type 0 where
    pub first : slice_get old.pe.notes 0 ≡ Some note
    pub taken : board_after before note ≡ Some after
    pub done : new.pe ≡ noted old.pe
    pub same_seat : new.seat ≡ old.seat

-- Deliver, and then Act: a parcel was taken from the queue of the PE, and is a letter that its element has executed
pub record Executes {C : Type 0} (step : Step C) (pack : C → List ℕ) (unpack : List ℕ → Result (C × ℕ) PupError) (old new : SeatedView C) : Type 0 where
  pub parcel : Parcel
  pub executed : acted_of (acting step pack unpack (received old.pe parcel)) ≡ Some Executed
  pub after : new.pe ≡ pe_after (received old.pe parcel) (acting step pack unpack (received old.pe parcel))
  pub taken : new.seat ≡ after_take old.seat old.pe.me parcel

-- the place, in a copy of the places of a round, of an element that stands in the room and waits for the end of that round
abbrev pub due_by : {C : Type 0} → PeView C → PlacesView → ℕ → Option ℕ
due_by pe places e = option_and_then (λ round. if round == places.round then place_among places e else None) (waits_at pe e)

module _ {C : Type 0} (step : Step C) (pack : C → List ℕ) where
  -- Resume and Depart: such an element goes on where it stands, if its place is there, and departs for its place otherwise
  abbrev pub after_round : PeView C → PlacesView → ℕ → Option ℕ → PeView C
  after_round pe places e None = pe
  after_round pe places e (Some place) = if place == pe.me then resumed step pack pe e places.round else departed pack pe e place
