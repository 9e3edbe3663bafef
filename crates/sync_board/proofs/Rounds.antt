-- What is kept of rounds.
use Rattle.std.proofs.Common.{◌≡◌, ◌≢◌, ◌∙◌, ℕ, suc, zero, ◌+◌, ◌-◌, ◌<◌, ◌≤◌, List, [], ◌∷◌, ◌++◌, length, replicate, Option, None, Some, ap, sym, subst, refl, false, arith, length-append}
use Rattle.std.specs.Prelude.{IfSome, slice_get}
use denote.Ref.{Bor}
use Rattle.std.specs.Option.{option_copied}
use Rattle.std.specs.Slice.{IsItemAt}
use Rattle.std.proofs.lemmas.List.{length-replicate}
use Rattle.std.proofs.lemmas.Option.{slice_get_past, slice_get_read}
use Rattle.std.proofs.lemmas.List.Elements.{All-replicate}
use Rattle.chare_index.specs.declared.limits.TheConstants.Limits.{PES}
use Rattle.lb_snapshot.specs.Measured.{Taken}
use Rattle.lb_database.specs.Measuring.{Measured, IsSnapshotOf, StandBelow, elements, opening}
use Rattle.lb_database.specs.Refusals.{HasNextRound}
use Rattle.lb_strategy.specs.declared.decision.Decision.{Decision}
use Rattle.lb_refinement.specs.declared.nearness.Nearness.{Nearness}
use Rattle.sync_board.specs.Strategies.{AreProved, IsDecidedBy, PlacesAll}
use Rattle.sync_board.specs.declared.strategy.Strategy.{Strategy}
use Rattle.sync_board.specs.Boards.{BoardState, Kept, item_of, kept_of, nearness_of, IsProvedIn, new_board, after_decision, IsDecided, AreDecided, IsKeptIn, IsBoard, Decides}

-- what the strategy decides for the snapshot of a round is right
pub decided_by : {A : Type 0} (m : Measured) (pes : ℕ) (strategy : Strategy) (taken : Taken) (d : Decision A) (near : Nearness A)
    → IsSnapshotOf m m.round pes taken → IsDecidedBy strategy taken.loads taken.sizes pes d near → PlacesAll taken.loads taken.sizes pes d
    → IsDecided (elements m) pes strategy m.round (taken, d)
decided_by m pes strategy taken d near snapshot by placed =
    record {
      at_step = snapshot.at_step;
      on_pes = snapshot.on_pes;
      of_all = ap length snapshot.loads_charged;
      by_strategy = (near, by);
      placed = placed;
    }

-- what holds of each item and of one more holds of all of them
item_more : {X : Type 0} (P : ℕ → X → Type 0) (items : List X) (item : X) → ((k : ℕ) → IfSome (slice_get items k) (P k))
    → P (length items) item → (k : ℕ) → IfSome (slice_get (items ++ item ∷ []) k) (P k)
item_more P [] item all last zero = last
item_more P [] item all last (suc k) = tt
item_more P (first ∷ items) item all last zero = all zero
item_more P (first ∷ items) item all last (suc k) =
    item_more (λ j. P (suc j)) items item (λ j. all (suc j)) last k

-- what is kept of one more round is best, where it is of the round after those that are kept
decided_more : {A : Type 0} (n pes : ℕ) (strategy : Strategy) (r : ℕ) (rounds : List (Kept A)) (kept : Kept A)
    → AreDecided n pes strategy rounds → r ≡ length rounds + 1 → IsDecided n pes strategy r kept → AreDecided n pes strategy (rounds ++ kept ∷ [])
decided_more n pes strategy r rounds kept all next decided zero = tt
decided_more n pes strategy r rounds kept all next decided (suc k) =
    let same : r ≡ suc (length rounds) = omega (arith, next) in
    let last : IsDecided n pes strategy (suc (length rounds)) kept = subst (λ s. IsDecided n pes strategy s kept) same decided in
    item_more (λ j. IsDecided n pes strategy (suc j)) rounds kept (λ j. all (suc j)) last k

-- each decision is proved where one more is added with its proof
proved_more : {A : Type 0} (pes : ℕ) (strategy : Strategy) (rounds : List (Kept A)) (nearness : List (Nearness A)) (kept : Kept A) (near : Nearness A)
    → AreProved pes strategy rounds nearness → IsDecidedBy strategy kept.0.loads kept.0.sizes pes kept.1 near
    → AreProved pes strategy (rounds ++ kept ∷ []) (nearness ++ near ∷ [])
unfolding AreProved
proved_more pes strategy [] [] kept near all last = (last, tt)
proved_more pes strategy [] (first ∷ nearness) kept near all last = absurd all
proved_more pes strategy (first ∷ rounds) [] kept near all last = absurd all
proved_more pes strategy (first ∷ rounds) (proof ∷ nearness) kept near all last =
    (all.0, proved_more pes strategy rounds nearness kept near all.1 last)

-- the decision in the place of a proof is the one that it proves
abbrev Proves : {A : Type 0} → ℕ → Strategy → List (Kept A) → ℕ → Nearness A → Type 0
Proves {A} pes strategy rounds k near =
    (kept : Kept A) × (slice_get rounds k ≡ Some kept) × IsDecidedBy strategy kept.0.loads kept.0.sizes pes kept.1 near

proved_at : {A : Type 0} (pes : ℕ) (strategy : Strategy) (rounds : List (Kept A)) (nearness : List (Nearness A)) (k : ℕ)
    → AreProved pes strategy rounds nearness → IfSome (slice_get nearness k) (Proves pes strategy rounds k)
unfolding AreProved
proved_at pes strategy [] [] zero all = tt
proved_at pes strategy [] [] (suc k) all = tt
proved_at pes strategy [] (first ∷ nearness) k all = absurd all
proved_at pes strategy (first ∷ rounds) [] k all = absurd all
proved_at pes strategy (first ∷ rounds) (proof ∷ nearness) zero all = (first, refl, all.0)
proved_at pes strategy (first ∷ rounds) (proof ∷ nearness) (suc k) all = proved_at pes strategy rounds nearness k all.1

-- no element has reported as a round begins
none_reported : (pes round n : ℕ) → StandBelow pes (opening round n)
none_reported pes round n = All-replicate (λ report. IfSome report (λ size. size.1 < pes)) n None tt

-- a new board has kept nothing
none_decided : (A : Type 0) (n pes : ℕ) (strategy : Strategy) → AreDecided {A = A} n pes strategy []
none_decided A n pes strategy zero = tt
none_decided A n pes strategy (suc r) = tt

-- a new board is one
pub board_new : (A : Type 0) (n pes : ℕ) (strategy : Strategy) → 1 ≤ pes → pes ≤ PES → IsBoard {A = A} (new_board n pes strategy)
unfolding AreProved
board_new A n pes strategy some few = record {
  some_pe = some;
  few_pes = few;
  placed = none_reported pes 1 n;
  counted = length-replicate n false ∙ sym (length-replicate n 0);
  numbered = refl;
  decided = none_decided A (length (replicate {A = ℕ} n 0)) pes strategy;
  proved = tt;
}

-- a board stays one where its round is decided
pub board_after : {A : Type 0} (b : BoardState A) (kept : Kept A) (near : Nearness A) → IsBoard b
    → IsDecided (elements b.database) b.pes b.strategy b.database.round kept
    → IsDecidedBy b.strategy kept.0.loads kept.0.sizes b.pes kept.1 near → IsBoard (after_decision b kept near)
board_after b kept near board decided proved =
    let same : elements b.database ≡ length (replicate {A = ℕ} (elements b.database) 0) = sym (length-replicate (elements b.database) 0) in
    record {
      some_pe = board.some_pe;
      few_pes = board.few_pes;
      placed = none_reported b.pes (b.database.round + 1) (elements b.database);
      counted = board.counted ∙ same;
      numbered = omega (arith, board.numbered, length-append b.rounds (kept ∷ []));
      decided = subst (λ n. AreDecided n b.pes b.strategy (b.rounds ++ kept ∷ [])) same
          (decided_more (elements b.database) b.pes b.strategy b.database.round b.rounds kept board.decided board.numbered decided);
      proved = proved_more b.pes b.strategy b.rounds b.nearness kept near board.proved proved;
    }

-- the parts of a decided round
pub decides_from : {A : Type 0} (b : BoardState A) (kept : Kept A) (near : Nearness A) → HasNextRound b.database
    → IsSnapshotOf b.database b.database.round b.pes kept.0 → IsDecided (elements b.database) b.pes b.strategy b.database.round kept
    → IsDecidedBy b.strategy kept.0.loads kept.0.sizes b.pes kept.1 near → Decides b (after_decision b kept near)
decides_from b kept near next reported decided proved = record {
  kept = kept;
  near = near;
  complete = next.0;
  not_last = next.1;
  reported = reported;
  decided = decided;
  proved = proved;
  next = refl;
}

-- what `get` lends is the item at that place, if there is one
lent_at : {X : Type 0} (items : List X) (i : ℕ) (lent : Option (Bor X)) → IsItemAt items i lent → option_copied lent ≡ slice_get items i
lent_at items i None found = sym (slice_get_past items i found.3)
lent_at items i (Some item) found =
    let inside : i < length items = found.3.0 in
    sym (slice_get_read items (length items) i item.now refl inside found.1)

-- what is kept of a round has as many items before it in the list as there are rounds before it
kept_at : {X : Type 0} (rounds : List X) (r k : ℕ) → r ≡ k + 1 → item_of rounds r ≡ slice_get rounds k
kept_at rounds zero k next = absurd (omega (arith, next))
kept_at rounds (suc r) k next = let same : r ≡ k = omega (arith, next) in ap (slice_get rounds) same

-- what `get` lends at this index is what is kept of the round
pub found_in : {X : Type 0} (rounds : List X) (r : ℕ) (lent : Option (Bor X)) → r ≢ 0 → IsItemAt rounds (r - 1) lent → option_copied lent ≡ item_of rounds r
found_in rounds r lent later found =
    lent_at rounds (r - 1) lent found ∙ sym (kept_at rounds r (r - 1) (omega arith))

-- what is found of a round on a board is best
pub kept_in : {A : Type 0} (b : BoardState A) (r : ℕ) (kept : Kept A) → IsBoard b → Some kept ≡ kept_of b.rounds r → IsKeptIn b r kept.1
kept_in b r kept board found = record {
  snapshot = kept.0;
  kept = sym found;
  decided = subst (λ o. IfSome o (IsDecided (elements b.database) b.pes b.strategy r)) (sym found) (board.decided r);
}

-- what is lent of the proof of a round proves its decision
pub lent_proved : {A : Type 0} (b : BoardState A) (r : ℕ) (lent : Option (Bor (Nearness A))) → IsBoard b → option_copied lent ≡ nearness_of b r
    → IfSome lent (λ near. IsProvedIn b r near.now)
lent_proved b r None board found = tt
lent_proved b zero (Some near) board found = absurd (cc)
lent_proved b (suc r) (Some near) board found =
    let at : Proves b.pes b.strategy b.rounds r near.now =
    subst (λ o. IfSome o (Proves b.pes b.strategy b.rounds r)) (sym found) (proved_at b.pes b.strategy b.rounds b.nearness r board.proved) in
    record { kept = at.0; is_kept = at.1; proved = at.2 }
