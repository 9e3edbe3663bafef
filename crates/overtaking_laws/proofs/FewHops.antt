-- Letters that were forwarded at most as often as rounds have moved their elements, wherever they are.
use Rattle.std.proofs.Common.{◌≡◌, ℕ, ◌≤◌, List, [], ◌∷◌, length, map, Option, Some, None, arith, subst}
use Rattle.std.specs.Prelude.{All, IfSome}
use Rattle.std.specs.List.{flat_map}
use Rattle.std.specs.Option.{option_to_list}
use Rattle.std.proofs.lemmas.List.Elements.{All-nil, All-cons, All-append, All-map, All-weaker}
use Rattle.sync_board.specs.Boards.{BoardState}
use Rattle.chares.specs.declared.carried.Carried.TheVariants.{Letter, Element}
use Rattle.chares.specs.Letters.{LetterView}
use Rattle.pe_state.specs.Pes.{PeView, Parcel, Item}
use Rattle.rts_core.specs.Places.{letters_in, letters_at, items_at}
use Rattle.event_laws.proofs.OwnEntries.{all_flat}
use Rattle.overtaking_laws.specs.StampedRuns.{Stamped, moves_until}
use Rattle.overtaking_laws.proofs.Aims.{Aims, IsHeld, IsOut, IsQueued, HeldItem, OutItem, OnShelf, LettersAim}
use Rattle.overtaking_laws.proofs.RoundPlaces.{IsLater, moves_grow, moves_stay}

module _ {A : Type 0} (n pes : ℕ) (b : BoardState A) where
  abbrev pub Few : LetterView → Type 0
  Few l = l.hops ≤ moves_until n pes b l.to (length b.rounds)

  pub few_of : (l : LetterView) (a limit : ℕ) → limit ≤ length b.rounds → Aims n pes b l a limit → Few l
  few_of l a limit le h =
      let within = h.within in
      let few = h.few in
      let more = moves_grow n pes b l.to h.round (length b.rounds) (omega (arith, within, le)) in
      omega (arith, few, more)

  one_few : (l : LetterView) → Few l → All Few (l ∷ [])
  one_few l k = All-cons Few l [] k (All-nil Few)

  pub held_few : (p known : ℕ) → known ≤ length b.rounds → (parcel : Parcel) (o : Option ℕ) → IsHeld n pes b p known parcel o → All Few (letters_in parcel)
  held_few p known le (Letter l) None k = one_few l (few_of l p known le k)
  held_few p known le (Letter l) (Some a) k = one_few l (few_of l p known le k.0)
  held_few p known le (Element x) o k = All-nil Few

  pub out_few : (known : ℕ) → known ≤ length b.rounds → (parcel : Parcel) (o : Option ℕ) → IsOut n pes b known parcel o → All Few (letters_in parcel)
  out_few known le (Letter l) None k = one_few l (let few : l.hops ≡ 0 = k in omega (arith, few))
  out_few known le (Letter l) (Some a) k = one_few l (few_of l a known le k)
  out_few known le (Element x) o k = All-nil Few

  pub queued_few : (q stamp : ℕ) (parcel : Parcel) → IsQueued n pes b q (stamp, parcel) → All Few (letters_in parcel)
  queued_few q stamp (Letter l) k = one_few l (few_of l q stamp k.0 k.1)
  queued_few q stamp (Element x) k = All-nil Few

  abbrev FewItem : Item → Type 0
  FewItem x = All Few (letters_in x.parcel)

  pub pe_few : {C : Type 0} (p known : ℕ) (pe : PeView C) → known ≤ length b.rounds → LettersAim n pes b p known pe → All Few (letters_at pe)
  pe_few p known pe le h =
      let outbox : All FewItem pe.outbox = All-weaker (OutItem n pes b known) FewItem (λ x k. out_few known le x.parcel x.address k) pe.outbox h.outbox in
      let items : All FewItem (items_at pe) = All-append FewItem (option_to_list pe.hand) pe.outbox (in_hand pe.hand h.hand) outbox in
      All-append Few _ pe.shelf (all_flat Few (λ (x : Item). letters_in x.parcel) (items_at pe) items)
      (All-weaker (OnShelf n pes b p known) Few (λ l k. few_of l p known le k) pe.shelf h.shelf)
    where
      in_hand : (o : Option Item) → IfSome o (HeldItem n pes b p known) → All FewItem (option_to_list o)
      in_hand None k = All-nil FewItem
      in_hand (Some x) k = All-cons FewItem x [] (held_few p known le x.parcel x.address k) (All-nil FewItem)

  pub queue_few : (q : ℕ) (queue : List Stamped) → All (IsQueued n pes b q) queue → All Few (flat_map letters_in (map (λ (x : Stamped). x.1) queue))
  queue_few q queue h =
      all_flat Few letters_in (map (λ (x : Stamped). x.1) queue)
      (All-map (λ (x : Parcel). All Few (letters_in x)) (λ (x : Stamped). x.1) queue
      (All-weaker (IsQueued n pes b q) (λ (x : Stamped). All Few (letters_in x.1)) (λ x k. queued_few q x.0 x.1 k) queue h))

  -- a letter in the hand of a PE
  pub hand_few : {C : Type 0} (p known : ℕ) (pe : PeView C) → known ≤ length b.rounds → LettersAim n pes b p known pe → (item : Item) (l : LetterView) → pe.hand ≡ Some item
      → item.parcel ≡ Letter l → Few l
  hand_few p known pe le h item l hand is =
      let held : IsHeld n pes b p known item.parcel item.address = subst (λ (o : Option Item). IfSome o (HeldItem n pes b p known)) hand h.hand in
      by item.address (subst (λ (v : Parcel). IsHeld n pes b p known v item.address) is held)
    where
      by : (o : Option ℕ) → IsHeld n pes b p known (Letter l) o → Few l
      by None k = few_of l p known le k
      by (Some a) k = few_of l p known le k.0

-- where more rounds are decided
pub few_later : {A : Type 0} (n pes : ℕ) (b b' : BoardState A) → IsLater b b' → (l : LetterView) → Few n pes b l → Few n pes b' l
few_later n pes b b' later l few =
    let le : length b.rounds ≤ length b.rounds = omega arith in
    let same = moves_stay n pes b b' later l.to (length b.rounds) le in
    let more = moves_grow n pes b' l.to (length b.rounds) (length b'.rounds) later.longer in
    omega (arith, few, same, more)
