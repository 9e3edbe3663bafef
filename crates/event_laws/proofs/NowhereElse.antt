-- Where each element is there at most once, and each in a room is beside its own index, none in a room is anywhere else.
use Rattle.std.proofs.Common.{◌≡◌, ◌≢◌, ℕ, ◌+◌, ◌≤◌, Bool, true, false, arith, refl}
use Rattle.std.specs.Prelude.{◌==◌, if◌then◌else◌}
use Rattle.std.proofs.lemmas.Bool.Decides.{nat_tests}
use Rattle.rts_core.specs.Worlds.{WorldView}
use Rattle.event_laws.specs.Bound.{StandsOn, StandAlone}
use Rattle.event_laws.proofs.BothWeights.{world_both}
use Rattle.event_laws.proofs.BoundWeights.{stands_weighs, bound_weighs, boxed_weighs}
use Rattle.event_laws.proofs.LocationWords.{at_index}
use Rattle.event_laws.proofs.Sites.{Site, ElementWeight, no_letters, world_at}
use Rattle.event_laws.proofs.Sites.Site.{Fresh, Bound, Chasing, Waiting, Room}

-- ---- weights

-- 1 at an element in a room, and at one in a parcel
abbrev in_rooms : ℕ → ElementWeight
in_rooms i (Room p key) e = if e == i then 1 else 0
in_rooms i s e = 0

abbrev in_parcels : ℕ → ElementWeight
in_parcels i (Room p key) e = 0
in_parcels i s e = if e == i then 1 else 0

-- 1 at an element in the room of one PE
abbrev in_room_of : ℕ → ℕ → ElementWeight
in_room_of p i (Room r key) e = if r == p then (if e == i then 1 else 0) else 0
in_room_of p i s e = 0

one : (e : ℕ) → ◌≡◌ {A = ℕ} (if e == e then 1 else 0) 1
one e = grind (arith, nat_tests)

there : (p e : ℕ) → in_room_of p e (Room p e) e ≡ 1
there p e = grind (arith, nat_tests)

split : (i : ℕ) (s : Site) (e : ℕ) → in_rooms i s e + in_parcels i s e ≤ at_index i s e
split i Fresh e = omega arith
split i (Bound p) e = omega arith
split i (Chasing p) e = omega arith
split i (Waiting p) e = omega arith
split i (Room p key) e = omega arith

apart : (p q : ℕ) → p ≢ q → (i : ℕ) (s : Site) (e : ℕ) → in_room_of p i s e + in_room_of q i s e ≤ at_index i s e
apart p q ne i Fresh e = omega arith
apart p q ne i (Bound r) e = omega arith
apart p q ne i (Chasing r) e = omega arith
apart p q ne i (Waiting r) e = omega arith
apart p q ne i (Room r key) e = by (r == p) (r == q) refl refl
  where
    by : (a b : Bool) → (r == p) ≡ a → (r == q) ≡ b → (if a then at_index i (Room r key) e else 0) + (if b then at_index i (Room r key) e else 0) ≤ at_index i (Room r key) e
    by true true s t = let same : p ≡ q = grind (arith, nat_tests) in absurd (ne same)
    by true false s t = omega arith
    by false true s t = omega arith
    by false false s t = omega arith

-- ---- worlds

module _ {C A : Type 0} (w : WorldView C A) (own : (e p : ℕ) (on : StandsOn w e p) → on.1.index ≡ e) (once : (e : ℕ) → world_at no_letters (at_index e) w ≤ 1) where
  -- it is in a room once, and so in no parcel
  in_room : (e p : ℕ) → StandsOn w e p → world_at no_letters (in_parcels e) w ≡ 0
  in_room e p on =
      let a : in_rooms e (Room p e) on.1.index ≤ world_at no_letters (in_rooms e) w = stands_weighs w (in_rooms e) e p on in
      let b : in_rooms e (Room p e) on.1.index ≡ 1 = rw (own e p on) (one e) in
      let c = world_both no_letters (in_rooms e) no_letters (in_parcels e) no_letters (at_index e) (λ s id to. omega arith) (split e) w in
      let d = once e in
      omega (arith, a, b, c, d)

  in_this_room : (e p : ℕ) → StandsOn w e p → 1 ≤ world_at no_letters (in_room_of p e) w
  in_this_room e p on =
      let a : in_room_of p e (Room p e) on.1.index ≤ world_at no_letters (in_room_of p e) w = stands_weighs w (in_room_of p e) e p on in
      let b : in_room_of p e (Room p e) on.1.index ≡ 1 = rw (own e p on) (there p e) in
      omega (arith, a, b)

  in_one_room : (e p q : ℕ) → StandsOn w e p → StandsOn w e q → p ≡ q
  in_one_room e p q x y = by (p == q) refl
    where
      by : (b : Bool) → (p == q) ≡ b → p ≡ q
      by true t = grind (arith, nat_tests)
      by false t =
          let other : p ≢ q = grind (arith, nat_tests) in
          let a = in_this_room e p x in
          let b = in_this_room e q y in
          let c = world_both no_letters (in_room_of p e) no_letters (in_room_of q e) no_letters (at_index e) (λ s id to. omega arith) (apart p q other e) w in
          let d = once e in
          absurd (omega (arith, a, b, c, d))

  pub stand_alone : StandAlone w
  stand_alone =
      record {
        in_one_room = in_one_room;
        in_no_parcel = λ e p q x y.
            let a = in_room e p x in
            let b : in_parcels e (Bound q) e ≤ world_at no_letters (in_parcels e) w = bound_weighs w (in_parcels e) e q y in
            let c = one e in
            omega (arith, a, b, c);
        in_no_outbox = λ e p q pe x at any.
            let a = in_room e p x in
            let c = one e in
            let b : 1 ≤ world_at no_letters (in_parcels e) w = boxed_weighs w (in_parcels e) e q 1 pe (omega (arith, c)) (λ r. omega (arith, c)) at any in
            omega (arith, a, b);
      }
