-- Parts of the text of a dump in the format LBD2.
use Rattle.std.specs.Prelude.{ℕ, List, ◌++◌, length, flat_map}
use Rattle.std.specs.Int.{w64}
use Rattle.lb_snapshot.specs.Measured.{Taken}
use Rattle.lb_certificates.specs.declared.division.Division.{Division}
use Rattle.lb_strategy.specs.declared.decision.Decision.{Decision}
use Rattle.dump_format.specs.Text.{word, long, price, magic_2, head_text, elements_text, floor_text}

-- all up to the last element
unfoldable pub front_text : Taken → List ℕ
front_text s = magic_2 ++ (head_text s ++ elements_text w64 s.loads s.sizes)

-- a division: the bottleneck, the cuts and the floor
unfoldable pub division_text : {A : Type 0} → Division A → List ℕ
division_text d = long d.bottleneck ++ (flat_map word d.cuts ++ floor_text d.floor)

-- what follows the division, up to the moves: the names, the prices of the blocks and of the PEs, the bytes moved and
-- the number of moves
unfoldable pub naming_text : {A : Type 0} → Decision A → List ℕ
naming_text d = flat_map word d.naming ++ (flat_map price d.prices.u ++ (flat_map price d.prices.v ++ (long d.moved ++ word (length d.moves))))
