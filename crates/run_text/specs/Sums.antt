-- What the elements of a run of tallies have added up, wherever each of them is when the run ends: in the room of a PE it
-- is a tally, and in a hand, an outbox or a queue it is the pack of one.
use Rattle.std.specs.Prelude.{◌≡◌, ℕ, ◌<◌, ◌^◌, ◌==◌, List, [], ◌∷◌, ◌++◌, map, take, drop, All, IfSome}
use Rattle.std.specs.Int.{w64, from_be_bytes}
use Rattle.std.specs.List.{flat_map, range_with_len}
use Rattle.std.specs.Map.{lookup, values_of}
use Rattle.std.specs.Option.{option_map_or}
use Rattle.chares.specs.declared.carried.Carried.TheVariants.{Letter, Element}
use Rattle.chares.specs.Elements.{ElementView}
use Rattle.pe_state.specs.Pes.{PeView, Parcel}
use Rattle.rts_core.specs.Accounts.{times}
use Rattle.rts_core.specs.Places.{items_at, lives}
use Rattle.rts_run.specs.Outcomes.{OutcomeView}
use Rattle.run_account.specs.RunAccounts.{left_world}
use Rattle.tally.specs.Tallies.{TallyView, tally_pack}

-- the sum of a tally that is packed: the number in bytes 8 to 15 of its pack
abbrev pub packed_sum : List ℕ → ℕ
packed_sum bytes = from_be_bytes w64 (take 8 (drop 8 bytes))

-- the elements of a parcel, at most one, each by its index and its sum
abbrev pub sums_in : Parcel → List (ℕ × ℕ)
sums_in (Letter l) = []
sums_in (Element p) = (p.index, packed_sum p.bytes) ∷ []

-- an element in a room, by its index and its sum
abbrev pub standing_sum : ElementView TallyView → ℕ × ℕ
standing_sum el = (el.index, el.chare.sum)

-- the elements of a PE: those in its hand and its outbox, and those in its room
abbrev pub sums_at : PeView TallyView → List (ℕ × ℕ)
sums_at pe = flat_map (λ x. sums_in x.parcel) (items_at pe) ++ map standing_sum (values_of pe.room)

module _ {A : Type 0} (o : OutcomeView TallyView A) where
  -- all elements that a run left: those of its PEs, and those in its queues
  abbrev pub all_sums : List (ℕ × ℕ)
  all_sums = flat_map sums_at o.ends ++ flat_map (flat_map sums_in) o.left

  -- the sum of element e, where it is
  abbrev pub sum_of : ℕ → ℕ
  sum_of e = option_map_or (λ sum. sum) (lookup (λ i. i == e) all_sums) 0

  -- the sums of the first n elements, in the order of their indices
  abbrev pub element_sums : ℕ → List ℕ
  element_sums n = map sum_of (range_with_len 0 n)

-- bytes that a tally packs into
pub record IsTallyPack (bytes : List ℕ) : Type 0 where
  pub tally : TallyView
  pub is_number : tally.sum < 2 ^ 64
  pub is_pack : tally_pack tally ≡ bytes

-- the element of a parcel is the pack of a tally
abbrev pub IsTallyParcel : Parcel → Type 0
IsTallyParcel (Letter l) = Unit {0}
IsTallyParcel (Element p) = IsTallyPack p.bytes

-- and so is each that a PE has in its hand or its outbox
pub record HasTallyPacks (pe : PeView TallyView) : Type 0 where
  pub hand : IfSome pe.hand (λ x. IsTallyParcel x.parcel)
  pub outbox : All (λ x. IsTallyParcel x.parcel) pe.outbox

-- What a run left are n tallies: each of the first n elements is in exactly one place, and whatever is packed is the pack
-- of a tally.
pub record AreTallies {A : Type 0} (n : ℕ) (o : OutcomeView TallyView A) : Type 0 where
  pub stands : (e : ℕ) → e < n → times (λ x. x.0 == e) (lives (left_world o.ends o.left)) ≡ 1
  pub at_pes : All HasTallyPacks o.ends
  pub in_queues : All (All IsTallyParcel) o.left
