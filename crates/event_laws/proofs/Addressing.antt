-- What holds of a parcel still does where its item gets an address: in a hand, and at the front of an outbox.
use Rattle.std.proofs.Common.{ℕ, List, [], ◌∷◌, Option, Some, None}
use Rattle.std.specs.Prelude.{All, IfSome}
use Rattle.std.specs.Option.{option_map}
use Rattle.std.proofs.lemmas.List.Elements.{All-cons, All-head, All-tail}
use Rattle.pe_state.specs.Pes.{Item, Parcel, at_pe, front_at}

module _ (Q : Parcel → Type 0) (q : ℕ) where
  abbrev pub OfItem : Item → Type 0
  OfItem x = Q x.parcel

  pub at_hand : (o : Option Item) → IfSome o OfItem → IfSome (option_map (at_pe q) o) OfItem
  at_hand None k = tt
  at_hand (Some x) k = k

  pub at_front : (xs : List Item) → All OfItem xs → All OfItem (front_at q xs)
  at_front [] k = k
  at_front (x ∷ xs) k = All-cons OfItem (at_pe q x) xs (All-head OfItem x xs k) (All-tail OfItem x xs k)
