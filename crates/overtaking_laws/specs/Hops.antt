-- How often letters are forwarded in stamped runs, and for what they wait on shelves. Source: the Charm++ manual, where a message that
-- reaches a PE which its element has left is forwarded; how often that may happen is this project's claim.
use Rattle.std.specs.Prelude.{◌≡◌, ℕ, ◌<◌, ◌≤◌, [], length, All, Contains, Some, slice_get}
use Rattle.chare_index.specs.declared.limits.TheConstants.Limits.{ROUND}
use Rattle.chares.specs.Letters.{LetterView}
use Rattle.pe_state.specs.Pes.{PeView}
use Rattle.rts_core.specs.Places.{letters, journaled}
use Rattle.event_laws.specs.Bound.{StandsOn}
use Rattle.event_laws.specs.Finished.{HoldsOfEach}
use Rattle.overtaking_laws.specs.StampedRuns.{StampedView, place_after, moves_until, world_with}

module _ {C A : Type 0} (n pes : ℕ) (s : StampedView C A) where
  -- a letter was forwarded at most as often as the rounds that are decided have moved its element
  abbrev pub IsHoppedByMoves : LetterView → Type 0
  IsHoppedByMoves l = l.hops ≤ moves_until n pes s.board l.to (length s.board.rounds)

  -- element e has still to come to PE p: that is its place after a round which the PE knows, and after which the element was not resumed
  -- yet, wherever it is; and it does not stand in the room of the PE
  pub record IsStillToCome (p e : ℕ) : Type 0 where
    pub round : ℕ
    pub within : round ≤ s.known p
    pub placed : place_after n pes s.board e round ≡ p
    pub not_yet : HoldsOfEach (λ i progress. i ≡ e → progress.round < round) (world_with s [])
    pub absent : ¬ (StandsOn (world_with s []) e p)

-- Of n elements on this many PEs: no letter in any place, nor any that was executed, was forwarded more often than rounds have moved its
-- element. All rounds that are decided by then count, also those before the letter was posted. So none was forwarded more often than
-- rounds are decided, which are fewer than a letter can count. Where a letter waits on the shelf of a PE, its element has still to come
-- there.
pub record IsStampedChase {C A : Type 0} (n pes : ℕ) (s : StampedView C A) : Type 0 where
  pub held : All (IsHoppedByMoves n pes s) (letters (world_with s []))
  pub executed : All (IsHoppedByMoves n pes s) (journaled (world_with s []))
  pub few_held : All (λ l. l.hops ≤ length s.board.rounds) (letters (world_with s []))
  pub few_executed : All (λ l. l.hops ≤ length s.board.rounds) (journaled (world_with s []))
  pub few_rounds : length s.board.rounds < ROUND
  pub shelved : (p : ℕ) (pe : PeView C) (l : LetterView) → slice_get s.pes p ≡ Some pe → Contains pe.shelf l → IsStillToCome n pes s p l.to
