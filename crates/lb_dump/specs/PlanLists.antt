-- The numbers and lists of a decision that are read from bytes.
use Rattle.std.specs.Prelude.{◌≡◌, ℕ, ◌+◌, ◌*◌, ◌^◌, ◌<◌, ◌==◌, if◌then◌else◌, List, length, ◌++◌, flat_map}
use Rattle.lb_certificates.specs.Certificate.{MatchFloor}
use Rattle.lb_certificates.specs.declared.division.Division.{Division}
use Rattle.lb_certificates.specs.declared.division.Floor.{Floor}
use Rattle.lb_certificates.specs.declared.prices.Prices.{Prices}
use Rattle.dump_format.specs.Dumps.{AreWords, ArePrices}
use Rattle.dump_format.specs.Text.{word, long, price, floor_text}

-- the length of a floor of this kind, whose fence has this number of stops
abbrev pub floor_len : ℕ → ℕ → ℕ
floor_len kind stops = 4 + (if kind == 0 then 0 else 4 * stops)

-- a floor, whose fence has this number of stops
pub record IsFloorIn {A : Type 0} (bytes : List ℕ) (count : ℕ) (floor : Floor A) : Type 0 where
  pub spelled : bytes ≡ floor_text floor
  pub stops : MatchFloor floor (Unit {0}) (λ it. length it ≡ count)
  pub words : MatchFloor floor (Unit {0}) AreWords

-- a division into this number of blocks
pub record IsDivisionIn {A : Type 0} (bytes : List ℕ) (blocks : ℕ) (division : Division A) : Type 0 where
  pub spelled : bytes ≡ long division.bottleneck ++ (flat_map word division.cuts ++ floor_text division.floor)
  pub bottleneck : division.bottleneck < 2 ^ 64
  pub cuts : length division.cuts ≡ blocks + 1
  pub cut_words : AreWords division.cuts
  pub stops : MatchFloor division.floor (Unit {0}) (λ it. length it ≡ blocks + 1)
  pub stop_words : MatchFloor division.floor (Unit {0}) AreWords

-- prices of this number of blocks, and then of as many PEs
pub record ArePricesIn {A : Type 0} (bytes : List ℕ) (blocks : ℕ) (prices : Prices A) : Type 0 where
  pub spelled : bytes ≡ flat_map price prices.u ++ flat_map price prices.v
  pub block_prices : length prices.u ≡ blocks
  pub block_range : ArePrices prices.u
  pub pe_prices : length prices.v ≡ blocks
  pub pe_range : ArePrices prices.v

-- names of this number of blocks, and then their prices
pub record AreNamedIn {A : Type 0} (bytes : List ℕ) (blocks : ℕ) (naming : List ℕ) (prices : Prices A) : Type 0 where
  pub spelled : bytes ≡ flat_map word naming ++ (flat_map price prices.u ++ flat_map price prices.v)
  pub names : length naming ≡ blocks
  pub name_words : AreWords naming
  pub block_prices : length prices.u ≡ blocks
  pub block_range : ArePrices prices.u
  pub pe_prices : length prices.v ≡ blocks
  pub pe_range : ArePrices prices.v
