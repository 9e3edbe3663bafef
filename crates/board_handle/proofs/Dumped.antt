-- A dump can hold each plan that a board keeps.
use Rattle.std.proofs.Common.{◌≡◌, ℕ, ◌+◌, ◌<◌, ◌≤◌, List, All, length, map, None, Some, IfSome, true, false, if◌then◌else◌, ◌==◌, sym, ap, ◌∙◌, subst, arith}
use Rattle.std.specs.List.{range_with_len}
use Rattle.std.proofs.lemmas.List.Elements.{All-filter, All-from_get_or, All-map}
use Rattle.std.proofs.lemmas.List.FromFn.{get_or-range_with_len, length-map-range_with_len, length-range_with_len}
use Rattle.std.proofs.lemmas.List.Sums.{count_by-le-length, length-filter}
use Rattle.sync_board.specs.Boards.{IsBoard, IsDecided, Kept, kept_of}
use Rattle.sync_board.specs.Strategies.{IsDecidedBy}
use Rattle.sync_board.specs.declared.strategy.Strategy.{Strategy}
use Rattle.sync_board.specs.declared.strategy.Strategy.TheVariants.{Least, Refine}
use Rattle.dump_format.specs.Dumps.{IsRecorded, MayRecord}
use Rattle.lb_certificates.specs.Certificate.{HoldsFor, MatchFloor}
use Rattle.lb_certificates.specs.Naming.{blocks_between, IsNamed}
use Rattle.lb_certificates.specs.declared.division.Floor.{Floor}
use Rattle.lb_certificates.specs.declared.division.Floor.TheVariants.{Zero, Fence}
use Rattle.lb_database.specs.Measuring.{elements}
use Rattle.lb_refinement.specs.declared.nearness.Nearness.{Nearness}
use Rattle.lb_refinement.specs.declared.nearness.Nearness.TheVariants.{Planned, InOrder, InAnyOrder}
use Rattle.lb_snapshot.specs.Measured.{Taken}
use Rattle.lb_strategy.specs.Moves.{is_move, move_of, moves_below}
use Rattle.lb_strategy.specs.declared.decision.Decision.{Decision}
use Rattle.std_heap.specs.declared.Global.{Global}
use Rattle.dump_format.specs.Recording.{recorded_by, recorded_of}
use Rattle.board_handle.specs.Owning.{BoardView}

-- no more elements move than there are, and each that moves is one
few_moves : (sizes : List (ℕ × ℕ)) (cuts names : List ℕ) (n : ℕ) → length (moves_below sizes cuts names n) ≤ n
few_moves sizes cuts names n =
    let all : List (ℕ × ℕ × ℕ) = map (move_of sizes cuts names) (range_with_len 0 n) in
    omega (arith, length-filter is_move all, count_by-le-length is_move all, length-map-range_with_len (move_of sizes cuts names) 0 n)

moved_elements : (sizes : List (ℕ × ℕ)) (cuts names : List ℕ) (n : ℕ) → All (λ move. move.0 < n) (moves_below sizes cuts names n)
moved_elements sizes cuts names n =
    let P : ℕ × ℕ × ℕ → Type 0 = λ move. move.0 < n in
    All-filter is_move P (map (move_of sizes cuts names) (range_with_len 0 n)) (All-map P (move_of sizes cuts names) (range_with_len 0 n)
    (All-from_get_or (λ i. i < n) (range_with_len 0 n) 0 (λ i inside.
    let below : i < n = omega (arith, inside, length-range_with_len 0 n) in omega (arith, below, get_or-range_with_len 0 n i 0 below))))

-- a floor that holds has a stop more than blocks
stop_count : (loads : List ℕ) (blocks bottleneck : ℕ) (floor : Floor Global) → HoldsFor loads blocks bottleneck floor
    → MatchFloor floor (Unit {0}) (λ stops. length stops ≡ blocks + 1)
stop_count loads blocks bottleneck Zero holds = tt
stop_count loads blocks bottleneck (Fence stops) holds = holds.counted

-- whatever the strategy, the names of the blocks are proved cheapest
named : (strategy : Strategy) (loads : List ℕ) (sizes : List (ℕ × ℕ)) (pes : ℕ) (d : Decision Global) (near : Nearness Global)
    → IsDecidedBy strategy loads sizes pes d near → IsNamed sizes d.division.cuts d.naming d.prices.u d.prices.v
named Least loads sizes pes d Planned decided = decided.right.named
named Least loads sizes pes d (InOrder proof) decided = absurd decided
named Least loads sizes pes d (InAnyOrder proof) decided = absurd decided
named (Refine tolerance) loads sizes pes d Planned decided = decided.0.right.named
named (Refine tolerance) loads sizes pes d (InOrder proof) decided = decided.0.named
named (Refine tolerance) loads sizes pes d (InAnyOrder proof) decided = absurd decided

-- the moves are those that the cuts and the names ask for
moves : (strategy : Strategy) (loads : List ℕ) (sizes : List (ℕ × ℕ)) (pes : ℕ) (d : Decision Global) (near : Nearness Global)
    → IsDecidedBy strategy loads sizes pes d near → d.moves ≡ moves_below sizes d.division.cuts d.naming (length sizes)
moves Least loads sizes pes d Planned decided = decided.right.moves
moves Least loads sizes pes d (InOrder proof) decided = absurd decided
moves Least loads sizes pes d (InAnyOrder proof) decided = absurd decided
moves (Refine tolerance) loads sizes pes d Planned decided = decided.0.right.moves
moves (Refine tolerance) loads sizes pes d (InOrder proof) decided = decided.0.moves_are
moves (Refine tolerance) loads sizes pes d (InAnyOrder proof) decided = absurd decided

-- a fence has a stop more than blocks
stops : (strategy : Strategy) (loads : List ℕ) (sizes : List (ℕ × ℕ)) (pes : ℕ) (d : Decision Global) (near : Nearness Global)
    → IsDecidedBy strategy loads sizes pes d near → MatchFloor d.division.floor (Unit {0}) (λ stops. length stops ≡ pes + 1)
stops Least loads sizes pes d Planned decided = stop_count loads pes d.division.bottleneck d.division.floor decided.right.division.floor_holds
stops Least loads sizes pes d (InOrder proof) decided = absurd decided
stops Least loads sizes pes d (InAnyOrder proof) decided = absurd decided
stops (Refine tolerance) loads sizes pes d Planned decided =
    stop_count loads pes d.division.bottleneck d.division.floor decided.0.right.division.floor_holds
stops (Refine tolerance) loads sizes pes d (InOrder proof) decided =
    subst (λ (floor : Floor Global). MatchFloor floor (Unit {0}) (λ stops. length stops ≡ pes + 1)) (sym decided.0.no_floor) tt
stops (Refine tolerance) loads sizes pes d (InAnyOrder proof) decided = absurd decided

recorded : (b : BoardView) (round : ℕ) (s : Taken) (d : Decision Global) → IsBoard b → length s.loads ≡ length s.sizes
    → IsDecided (elements b.database) b.pes b.strategy round (s, d) → IsRecorded (length s.loads) (record { target = s.procs; decision = d })
recorded b round s d board paired decided =
    let near : Nearness Global = decided.by_strategy.0 in
    let by = decided.by_strategy.1 in
    let proved = named b.strategy s.loads s.sizes b.pes d near by in
    let moving = moves b.strategy s.loads s.sizes b.pes d near by in
    let few : length (moves_below s.sizes d.division.cuts d.naming (length s.sizes)) ≤ length s.sizes = few_moves s.sizes d.division.cuts d.naming (length s.sizes) in
    let counted : length d.division.cuts ≡ b.pes + 1 = decided.placed.blocks.counted in
    let between : blocks_between d.division.cuts ≡ b.pes = omega (arith, counted) in
    record {
      some_target = omega (arith, decided.on_pes, board.some_pe);
      few_targets = omega (arith, decided.on_pes, board.few_pes);
      cuts = omega (arith, decided.on_pes, counted);
      stops = subst (λ p. MatchFloor d.division.floor (Unit {0}) (λ stops. length stops ≡ p + 1)) (sym decided.on_pes)
          (stops b.strategy s.loads s.sizes b.pes d near by);
      names = decided.placed.naming.counted ∙ sym decided.on_pes;
      block_prices = proved.proved.block_prices ∙ between ∙ sym decided.on_pes;
      pe_prices = proved.proved.pe_prices ∙ between ∙ sym decided.on_pes;
      few_moves = omega (arith, few, ap length moving, paired);
      moved_elements = subst (λ n. All (λ move. move.0 < n) d.moves) (sym paired)
          (subst (λ moves. All (λ move. move.0 < length s.sizes) moves) (sym moving) (moved_elements s.sizes d.division.cuts d.naming (length s.sizes)));
    }

may : (elements pes : ℕ) (d : Decision Global) (floor : Floor Global) → IsRecorded elements (record { target = pes; decision = d })
    → MayRecord elements (recorded_by pes d floor)
may elements pes d (Fence stops) right = right
may elements pes d Zero right =
    elim (d.division.bottleneck == 0) as (λ least. MayRecord elements (if least then Some (record { target = pes; decision = d }) else None)) [
      | true ↦ right
      | false ↦ tt
    ]

pub may_record : (b : BoardView) (round : ℕ) (kept : Kept Global) → IsBoard b → kept_of b.rounds round ≡ Some kept → length kept.0.loads ≡ length kept.0.sizes
    → MayRecord (length kept.0.loads) (recorded_of kept.0 kept.1)
may_record b round kept board is paired =
    may (length kept.0.loads) kept.0.procs kept.1 kept.1.division.floor
    (recorded b round kept.0 kept.1 board paired (subst (λ k. IfSome k (IsDecided (elements b.database) b.pes b.strategy round)) is (board.decided round)))
