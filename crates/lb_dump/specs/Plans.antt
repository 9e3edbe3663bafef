-- A decision up to its moves, in bytes that have come.
use Rattle.std.specs.Prelude.{◌≡◌, ◌⊎◌, ℕ, ◌+◌, ◌*◌, ◌<◌, ◌≤◌, ◌==◌, if◌then◌else◌, List, [], length, ◌++◌, drop, flat_map}
use Rattle.std.specs.Int.{w32, from_be_bytes}
use Rattle.chare_index.specs.declared.limits.TheConstants.Limits.{PES}
use Rattle.lb_certificates.specs.declared.division.Floor.{Floor}
use Rattle.lb_certificates.specs.declared.division.Floor.TheVariants.{Zero, Fence}
use Rattle.dump_format.specs.Dumps.{IsRecorded, AreFields}
use Rattle.dump_format.specs.Fields.{ending}
use Rattle.dump_format.specs.Layout.{Unfinished, judge}
use Rattle.dump_format.specs.Text.{word, long, price, floor_text}
use Rattle.dump_format.specs.declared.recorded.Recorded.{Recorded}
use Rattle.lb_dump.specs.declared.plan.DecisionPart.{DecisionPart}
use Rattle.lb_dump.specs.declared.plan.DecisionPart.TheVariants.{Begun, Nothing, Made}

-- the number in the four bytes from an offset on
abbrev pub word_at : List ℕ → ℕ → ℕ
word_at bytes at = from_be_bytes w32 (drop at bytes)

-- the flag, the target, where the kind of the floor begins, after the cuts, and the kind
abbrev pub flag_in : List ℕ → ℕ
flag_in bytes = from_be_bytes w32 bytes

abbrev pub target_in : List ℕ → ℕ
target_in bytes = word_at bytes 4

abbrev pub kind_at : ℕ → ℕ
kind_at target = 16 + 4 * (target + 1)

abbrev pub kind_in : List ℕ → ℕ
kind_in bytes = word_at bytes (kind_at (target_in bytes))

-- The length up to the moves, by the target and the kind of the floor: after the kind come the stops, if there is a fence, the
-- names, the prices of blocks and of PEs, the bytes moved and the number of moves.
abbrev pub plan_len : ℕ → ℕ → ℕ
plan_len target kind = kind_at target + 4 + (if kind == 0 then 0 else 4 * (target + 1)) + 20 * target + 12

-- the kind of a floor
abbrev pub floor_kind : {A : Type 0} → Floor A → ℕ
floor_kind Zero = 0
floor_kind (Fence stops) = 1

-- where a field that has a rule ends: the flag, the target, the kind of the floor, or the number of moves
abbrev pub IsRuleEnd : List ℕ → ℕ → Type 0
IsRuleEnd bytes end =
    (end ≡ 4) ⊎ (end ≡ 8) ⊎ (end ≡ kind_at (target_in bytes) + 4) ⊎ (end ≡ plan_len (target_in bytes) (kind_in bytes))

-- these bytes begin a decision that is not whole yet, and each whole field keeps its rule
pub record IsBegun (bytes : List ℕ) : Type 0 where
  pub flag : 4 ≤ length bytes → flag_in bytes ≡ 1
  pub some_target : 8 ≤ length bytes → 0 < target_in bytes
  pub few_targets : 8 ≤ length bytes → target_in bytes ≤ PES
  pub kind : kind_at (target_in bytes) + 4 ≤ length bytes → kind_in bytes ≤ 1
  pub short : kind_at (target_in bytes) + 4 ≤ length bytes → length bytes < plan_len (target_in bytes) (kind_in bytes)

-- these bytes may follow the elements, except that the last field in them may break its rule: no byte follows such a field
pub record MayBegin (bytes : List ℕ) : Type 0 where
  pub flag : 4 < length bytes → flag_in bytes ≡ 1
  pub some_target : 8 < length bytes → 0 < target_in bytes
  pub few_targets : 8 < length bytes → target_in bytes ≤ PES
  pub kind : kind_at (target_in bytes) + 4 < length bytes → kind_in bytes ≤ 1
  pub within : kind_at (target_in bytes) + 4 < length bytes → length bytes ≤ plan_len (target_in bytes) (kind_in bytes)

-- the bytes of a decision with this number of moves, up to them, after the flag
abbrev pub plan_bytes : {A : Type 0} → Recorded A → ℕ → List ℕ
plan_bytes r moves =
    word r.target ++ (long r.decision.division.bottleneck ++ (flat_map word r.decision.division.cuts
    ++ (floor_text r.decision.division.floor ++ (flat_map word r.decision.naming
    ++ (flat_map price r.decision.prices.u ++ (flat_map price r.decision.prices.v
    ++ (long r.decision.moved ++ word moves)))))))

-- a decision without its moves, of which at most as many follow as there are elements
pub record IsMade {A : Type 0} (bytes : List ℕ) (count : ℕ) (r : Recorded A) (moves : ℕ) : Type 0 where
  pub spelled : bytes ≡ word 1 ++ plan_bytes r moves
  pub recorded : IsRecorded count r
  pub fields : AreFields r
  pub no_moves : r.decision.moves ≡ []
  pub few_moves : moves ≤ count

-- what these bytes are, which follow this number of elements
abbrev pub IsPlan : {A : Type 0} → List ℕ → ℕ → DecisionPart A → Type 0
IsPlan bytes count Begun = IsBegun bytes × (judge (ending count) bytes ≡ Unfinished)
IsPlan bytes count Nothing = bytes ≡ word 0
IsPlan bytes count (Made r moves) = IsMade bytes count r moves
