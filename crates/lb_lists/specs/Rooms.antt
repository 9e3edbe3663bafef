-- The lists that a decision is written to.
use Rattle.std.specs.Prelude.{◌≡◌, ℕ, ◌+◌, List, length, take, ℤ}
use Rattle.lb_lists.specs.Claims.{Claimed}
use Rattle.lb_lists.specs.declared.deciding.Buffers.{Buffers}

-- the contents of these lists
pub record Lists : Type 0 where
  pub new_places : List ℕ
  pub cuts : List ℕ
  pub stops : List ℕ
  pub names : List ℕ
  pub block_prices : List ℤ
  pub pe_prices : List ℤ

-- the contents of the lists of a room
abbrev pub lists_in : Buffers → Lists
lists_in room =
    record {
      new_places = room.new_places.now;
      cuts = room.cuts.now;
      stops = room.stops.now;
      names = room.names.now;
      block_prices = room.block_prices.now;
      pe_prices = room.pe_prices.now;
    }

-- the lists of one room are those of the other, whatever they hold
pub record HasListsOf (other room : Buffers) : Type 0 where
  pub new_places : room.new_places.ghost_name ≡ other.new_places.ghost_name
  pub cuts : room.cuts.ghost_name ≡ other.cuts.ghost_name
  pub stops : room.stops.ghost_name ≡ other.stops.ghost_name
  pub names : room.names.ghost_name ≡ other.names.ghost_name
  pub block_prices : room.block_prices.ghost_name ≡ other.block_prices.ghost_name
  pub pe_prices : room.pe_prices.ghost_name ≡ other.pe_prices.ghost_name

-- a place for each of this number of elements, a cut and a stop more than PEs, and a name and two prices for each PE
pub record HasRoom (elements pes : ℕ) (lists : Lists) : Type 0 where
  pub new_places : length lists.new_places ≡ elements
  pub cuts : length lists.cuts ≡ pes + 1
  pub stops : length lists.stops ≡ pes + 1
  pub names : length lists.names ≡ pes
  pub block_prices : length lists.block_prices ≡ pes
  pub pe_prices : length lists.pe_prices ≡ pes

-- the claim that these lists hold, with the first `stops` stops
abbrev pub claim_in : ℕ → ℕ → ℕ → Lists → Claimed
claim_in bottleneck moved stops lists =
    record {
      bottleneck = bottleneck;
      moved = moved;
      new_places = lists.new_places;
      cuts = lists.cuts;
      stops = take stops lists.stops;
      names = lists.names;
      block_prices = lists.block_prices;
      pe_prices = lists.pe_prices;
    }
