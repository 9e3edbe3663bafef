-- An element that leaves its room, and its PE.
use Rattle.std.proofs.Common.{◌≡◌, ℕ, List, [], ◌∷◌, ◌++◌, Option, Some, None, IsSome, true, false, refl, ap, ◌∙◌}
use Rattle.std.specs.Option.{option_map, option_map_or}
use Rattle.chares.specs.Elements.{ElementView, PackedView, packed}
use Rattle.pe_state.specs.Pes.{PeView, Item, departed, element_at, may_depart}
use Rattle.pe_state.specs.Rooms.{found, without}

-- what was looked up is what was taken out
pub same_element : {X : Type 0} {x y : X} {f : Option X} → Some x ≡ f → Some y ≡ f → x ≡ y
same_element {X} {x} {y} {f} a b = cc

-- the PE without it, with its parcel at the back of the outbox
pub departed_is : {C : Type 0} (pack : C → List ℕ) (pe v : PeView C) (e q : ℕ) (p : PackedView) (room : List (ℕ × ElementView C)) (outbox0 outbox : List Item)
    → v ≡ pe → room ≡ without e v.room → outbox0 ≡ v.outbox → option_map (packed pack) (found e v.room) ≡ Some p → outbox ≡ outbox0 ++ element_at q p ∷ []
    → record v { room = room; outbox = outbox; kept = None } ≡ departed pack pe e q
departed_is {C} pack pe v e q p room outbox0 outbox same left there leaves more = cc

-- what may leave stands in its room
pub stands_to_leave : {C : Type 0} (pe v : PeView C) (e : ℕ) → v ≡ pe → may_depart pe e ≡ true → IsSome (found e v.room)
stands_to_leave {C} pe v e same may = by (found e v.room) (ap (λ (p : PeView C). may_depart p e) same ∙ may)
  where
    by : (f : Option (ElementView C)) → option_map_or (λ el. el.progress.synced) f false ≡ true → IsSome f
    by None h = cc
    by (Some el) h = refl
