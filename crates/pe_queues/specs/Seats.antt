-- What contracts see of a queue, of a post and of its seats.
use Rattle.std.specs.Prelude.{◌≡◌, ◌≢◌, ℕ, ◌+◌, ◌<◌, ◌≤◌, List, [], ◌∷◌, ◌++◌, length, map, slice_set, slice_index_or, All, Vec, Option, MatchOption, vec_capacity}
use Rattle.crossbeam_queue.specs.Fifo.{Held}
use Rattle.crossbeam_queue.specs.Passes.{Pass, view}
use Rattle.atomic_table.specs.Seated.{TableId}
use Rattle.chare_index.specs.declared.limits.TheConstants.Limits.{PES, SEATS}
use Rattle.pe_queues.specs.declared.traffic.Traffic.{Traffic}
use Rattle.pe_queues.specs.Conservation.{traffic, Balances, Seen}

-- a queue: which one, and how many values it has room for
pub record QueueView : Type 0 where
  pub id : TableId
  pub capacity : ℕ

-- a ticket: for which queue, and what has gone through it
pub record TicketView (T : Type 0) : Type 0 where
  pub queue : TableId
  pub traffic : Traffic T

abbrev pub ticket : {T : Type 0} → TableId → Traffic T → TicketView T
ticket queue traffic = record { queue = queue; traffic = traffic }

abbrev pub ticket_of : {T : Type 0} → Pass T (Traffic T) → TicketView T
ticket_of pass = ticket pass.table_id (view pass)

-- a post: its queues, one for each PE, and how many values each has room for
pub record PostView : Type 0 where
  pub queues : List TableId
  pub capacity : ℕ

-- how many PEs a post serves
abbrev pub pes : PostView → ℕ
pes post = length post.queues

-- a seat: of which post, how many of its seats it is, and what was put and taken through it at the queue of each PE
pub record SeatView (T : Type 0) : Type 0 where
  pub post : PostView
  pub seats : ℕ
  pub puts : List (List T)
  pub takes : List (List T)

-- a seat that is all seats joined
abbrev pub IsAllSeats : {T : Type 0} → SeatView T → Type 0
IsAllSeats seat = seat.seats ≡ SEATS

-- what was put, and what was taken, at the queue of a PE
abbrev pub puts_at : {T : Type 0} → SeatView T → ℕ → List T
puts_at seat pe = slice_index_or seat.puts pe []

abbrev pub takes_at : {T : Type 0} → SeatView T → ℕ → List T
takes_at seat pe = slice_index_or seat.takes pe []

-- a seat through which nothing has gone yet
abbrev pub new_seat : {T : Type 0} → PostView → ℕ → SeatView T
new_seat post seats = record { post = post; seats = seats; puts = map (λ _. []) post.queues; takes = map (λ _. []) post.queues }

-- the seat after a value was put, or taken, at the queue of a PE
abbrev pub after_put : {T : Type 0} → SeatView T → ℕ → T → SeatView T
after_put seat pe x = record seat { puts = slice_set seat.puts pe (puts_at seat pe ++ x ∷ []) }

abbrev pub after_take : {T : Type 0} → SeatView T → ℕ → T → SeatView T
after_take seat pe x = record seat { takes = slice_set seat.takes pe (takes_at seat pe ++ x ∷ []) }

-- of each queue the values of the one and then those of the other
abbrev pub append_each : {T : Type 0} → List (List T) → List (List T) → List (List T)
append_each [] ys = []
append_each (x ∷ xs) [] = x ∷ xs
append_each (x ∷ xs) (y ∷ ys) = (x ++ y) ∷ append_each xs ys

-- two seats as one
abbrev pub joined : {T : Type 0} → SeatView T → SeatView T → SeatView T
joined a b = record { post = a.post; seats = a.seats + b.seats; puts = append_each a.puts b.puts; takes = append_each a.takes b.takes }

-- the rule allows, by what went through this seat, that the queue of a PE held this many values at some moment of the
-- call; of a seat that is not all seats it always does
abbrev pub HeldAt : {T : Type 0} → SeatView T → ℕ → ℕ → Type 0
HeldAt {T} seat pe count = (rooms : ℕ) × Held count (λ (items : List T). Seen (traffic seat.seats rooms (puts_at seat pe) (takes_at seat pe)) items)

-- what is left of the queues of all PEs: of each queue, what was put is what was taken and this
pub record AreLeft {T A : Type 0} (seat : SeatView T) (left : List (Vec T A)) : Type 0 where
  pub one_each : length left ≡ pes seat.post
  pub balance : (pe : ℕ) (d : Vec T A) → pe < pes seat.post → Balances (puts_at seat pe) (takes_at seat pe) (slice_index_or left pe d).items

-- what a post keeps of its queues
pub record IsPost (capacity : ℕ) (queues : List QueueView) : Type 0 where
  pub some : 0 < length queues
  pub few : length queues ≤ PES
  pub wide : 0 < capacity
  pub alike : All (λ q. q.capacity ≡ capacity) queues

-- empty lists, one for each queue, with room for as many values as it holds
pub record AreRooms {T A : Type 0} (capacity count : ℕ) (rooms : List (Vec T A)) : Type 0 where
  pub one_each : length rooms ≡ count
  pub each : All (λ (r : Vec T A). (r.items ≡ []) × (capacity ≤ vec_capacity r)) rooms

-- what contracts see of the tickets of a seat
abbrev pub seat_of : {T : Type 0} → ℕ → ℕ → List (TicketView T) → SeatView T
seat_of capacity seats tickets =
    record {
      post = record { queues = map (λ t. t.queue) tickets; capacity = capacity };
      seats = seats;
      puts = map (λ t. t.traffic.puts) tickets;
      takes = map (λ t. t.traffic.takes) tickets;
    }

-- what a seat keeps: each of its tickets is for as many seats, and it has the rooms unless no ticket knows of one
pub record IsSeat {T A B : Type 0} (capacity seats : ℕ) (tickets : List (TicketView T)) (rooms : Option (Vec (Vec T A) B)) : Type 0 where
  pub some : 0 < seats
  pub few : seats ≤ SEATS
  pub each : All (λ (t : TicketView T). t.traffic.seats ≡ seats) tickets
  pub wide : MatchOption rooms ((seats ≢ SEATS) × All (λ (t : TicketView T). t.traffic.rooms ≡ 0) tickets) (λ rs. AreRooms capacity (length tickets) rs.items)
