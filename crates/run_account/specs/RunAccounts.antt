-- The account of what a run over threads left: where each letter is that was posted, and which element executes it. The
-- account of a world says the same; here it is said of the ends of the PEs and of what is left in the queues. There is no
-- order of all events, and the account needs none.
use Rattle.std.specs.Prelude.{◌≡◌, ℕ, ◌+◌, ◌<◌, List, [], length, map, sum_by, slice_get, nat_lt, ◌==◌, if◌then◌else◌}
use Rattle.std.specs.List.{flat_map}
use Rattle.std.specs.Option.{option_map_or}
use Rattle.sync_board.specs.Boards.{new_board}
use Rattle.chares.specs.Letters.{LetterView}
use Rattle.chares.specs.Steps.{Step}
use Rattle.pe_state.specs.Pes.{PeView, Parcel}
use Rattle.run_account.specs.Gathering.{numbers_of, weigh}
use Rattle.rts_core.specs.Accounts.{times, is_number, AreSent, IsCounted}
use Rattle.rts_core.specs.Own.{AreOwn}
use Rattle.rts_core.specs.Places.{letters, journaled, lives}
use Rattle.rts_core.specs.Worlds.{WorldView}
use Rattle.sync_board.specs.declared.strategy.Strategy.TheVariants.{Least}

-- what a run left, as a world whose location words and board do not matter: its PEs, and what is left in the queue of
-- each
abbrev pub left_world : {C : Type 0} → List (PeView C) → List (List Parcel) → WorldView C (Unit {0})
left_world ends left = record { pes = ends; queues = left; words = []; board = new_board 0 0 Least }

-- how often a letter number was posted: once where it is below the count of its PE, and otherwise never
abbrev pub posted_times : {C : Type 0} → ℕ × ℕ → List (PeView C) → ℕ
posted_times id ends = option_map_or (λ pe. if nat_lt id.1 pe.count then 1 else 0) (slice_get ends id.0) 0

-- The account of what a run left that opened with these chares. A letter number is in places or in journals as often as
-- it was posted: once, where it is below the count of its PE, and no other is anywhere. There is a list of the posts, one for each
-- such number, and the letters in places and in journals are these: by any weight of number, element and body together, the sums
-- agree. So no letter has the body of another. A letter in a journal is in that of the element that it was posted to. Each
-- element is in exactly one place. As many letters were posted as are held and were executed. And what the elements have sent is
-- in places or in journals, with target and body.
pub record IsRunAccount {C A : Type 0} (step : Step C) (opened : List C) (w : WorldView C A) : Type 0 where
  pub once : (id : ℕ × ℕ) → times (λ l. is_number id l.id) (letters w) + times (λ l. is_number id l.id) (journaled w) ≡ posted_times id w.pes
  pub posts : List LetterView
  pub numbered : map (λ l. l.id) posts ≡ flat_map numbers_of w.pes
  pub whole : (weight : ℕ × ℕ → ℕ → List ℕ → ℕ) → sum_by (weigh weight) (letters w) + sum_by (weigh weight) (journaled w) ≡ sum_by (weigh weight) posts
  pub own : AreOwn w
  pub stands : (e : ℕ) → e < length opened → times (λ x. x.0 == e) (lives w) ≡ 1
  pub counted : IsCounted w
  pub sent : AreSent step opened w
