-- What has gone through the seats of one queue, and what it holds.
use Rattle.std.specs.Prelude.{◌≡◌, ℕ, ◌+◌, ◌-◌, ◌≤◌, List, [], ◌∷◌, ◌++◌, sum_by}
use mathlib.Core.Option.{some}
use lib.ListN.{get_elem?}
use Rattle.chare_index.specs.declared.limits.TheConstants.Limits.{SEATS}
use Rattle.pe_queues.specs.declared.traffic.Traffic.{Traffic}

abbrev pub traffic : {T : Type 0} → ℕ → ℕ → List T → List T → Traffic T
traffic seats rooms puts takes = record { seats = seats; rooms = rooms; puts = puts; takes = takes }

-- as multisets, the values put are the values taken together with those left: however values are weighed, the weights add up alike
abbrev pub Balances : {T : Type 0} → List T → List T → List T → Type 0
Balances {T} puts takes left = (weight : T → ℕ) → sum_by weight puts ≡ sum_by weight takes + sum_by weight left

-- nothing has gone through no seat
abbrev pub no_traffic : {T : Type 0} → Traffic T
no_traffic = traffic 0 0 [] []

-- all seats as they begin
abbrev pub all_traffic : {T : Type 0} → Traffic T
all_traffic = traffic SEATS 1 [] []

-- one seat as it begins, which brings no room
abbrev pub of_one : {T : Type 0} → Traffic T
of_one = traffic 1 0 [] []

abbrev pub without_one : {T : Type 0} → Traffic T → Traffic T
without_one v = traffic (v.seats - 1) v.rooms v.puts v.takes

abbrev pub with_put : {T : Type 0} → Traffic T → T → Traffic T
with_put v x = traffic v.seats v.rooms (v.puts ++ x ∷ []) v.takes

abbrev pub with_take : {T : Type 0} → Traffic T → T → Traffic T
with_take v x = traffic v.seats v.rooms v.puts (v.takes ++ x ∷ [])

abbrev pub of_both : {T : Type 0} → Traffic T → Traffic T → Traffic T
of_both v w = traffic (v.seats + w.seats) (v.rooms + w.rooms) (v.puts ++ w.puts) (v.takes ++ w.takes)

-- The rule. Of each pass the traffic is known; the passes are all seats, one of which brought the room; what was put through all of
-- them is what was taken through all of them together with what the queue holds, however values are weighed; and nothing has gone
-- through a pass that is no seat
pub record Conserved {T : Type 0} (items : List T) (passes : List (Traffic T)) : Type 0 where
  pub seats : sum_by (λ (v : Traffic T). v.seats) passes ≡ SEATS
  pub rooms : sum_by (λ (v : Traffic T). v.rooms) passes ≡ 1
  pub balance : (weight : T → ℕ) → sum_by (λ (v : Traffic T). sum_by weight v.puts) passes ≡ sum_by (λ (v : Traffic T). sum_by weight v.takes) passes + sum_by weight items
  pub spent : (pass : ℕ) (v : Traffic T) → get_elem? passes pass ≡ some v → v.seats ≡ 0 → v ≡ no_traffic

-- the rule holds of these values and of some passes, one of which has this traffic: what is known of a queue from one
-- pass at some moment
pub record Seen {T : Type 0} (v : Traffic T) (items : List T) : Type 0 where
  pub passes : List (Traffic T)
  pub pass : ℕ
  pub rule : Conserved items passes
  pub at : get_elem? passes pass ≡ some v

-- what a look shows of the number of seats
pub record IsShare {T : Type 0} (v : Traffic T) : Type 0 where
  pub few : v.seats ≤ SEATS
  pub whole : v.seats ≡ SEATS → v.rooms ≡ 1
