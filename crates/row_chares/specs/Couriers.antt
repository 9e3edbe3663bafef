-- A chare that sends one body at each resumption, to any element, and finishes on a letter.
use Rattle.std.specs.Prelude.{◌≡◌, ◌≢◌, ℕ, ◌<◌, ◌≤◌, List, [], ◌∷◌, ◌++◌, length, Bool, true, false, not, ◌&&◌, if◌then◌else◌, nat_lt}
use Rattle.std.specs.Int.{w32, to_be_bytes}
use Rattle.std.proofs.Common.{arith, length-append}
use Rattle.std.proofs.lemmas.Bool.Decides.{nat_tests}
use Rattle.chare_index.specs.declared.limits.TheConstants.Limits.{BODY_BYTES, LETTERS, STATE_BYTES}
use Rattle.chares.specs.declared.entry.Entry.{Entry}
use Rattle.chares.specs.declared.entry.Entry.TheVariants.{Letter, Resumption}
use Rattle.chares.specs.declared.sends.SendError.{SendError}
use Rattle.chares.specs.declared.sends.SendError.TheVariants.{Stranger, TooLong, Worn, OutOfMemory}
use Rattle.chares.specs.Steps.{Outcome}
use Rattle.pup_pack.specs.Lists.{IsCounted, pack_bytes}

-- the element that it sends to, a number that is 1 where it goes on after its send is refused, and the body
pub record CourierView : Type 0 where
  pub to : ℕ
  pub goes_on : ℕ
  pub body : List ℕ

-- the fields, as they are packed
abbrev pub Parts : Type 0
Parts = ℕ × (ℕ × List ℕ)

abbrev pub parts : CourierView → Parts
parts c = (c.to, (c.goes_on, c.body))

abbrev pub of_parts : Parts → CourierView
of_parts x = record { to = x.0; goes_on = x.1.0; body = x.1.1 }

-- the body has at most 65,536 bytes
abbrev pub is_courier : CourierView → Bool
is_courier c = not (nat_lt 65536 (length c.body))

-- its send, if that may be posted
abbrev pub sends_of : CourierView → ℕ → List (ℕ × List ℕ)
sends_of c n = if nat_lt c.to n && not (nat_lt BODY_BYTES (length c.body)) then (c.to, c.body) ∷ [] else []

-- it is ready once it has sent, and has finished once it has a letter
abbrev pub courier_step : CourierView → ℕ → ℕ → Entry (List ℕ) → Outcome CourierView
courier_step c me n (Letter body) = record { state = c; effect = record { units = 0; at_sync = false; finished = true }; sends = [] }
courier_step c me n (Resumption round) = record { state = c; effect = record { units = 0; at_sync = true; finished = false }; sends = sends_of c n }

-- its send is posted to an element of n, with a body of at most 1,024 bytes
abbrev pub MaySend : CourierView → ℕ → Type 0
MaySend c n = (c.to < n) × (length c.body ≤ BODY_BYTES)

-- any other is refused, on a PE that has posted this many letters, with the first of these reasons
abbrev pub RefusesSend : CourierView → ℕ → ℕ → SendError → Type 0
RefusesSend c n count Stranger = n ≤ c.to
RefusesSend c n count TooLong = (c.to < n) × (BODY_BYTES < length c.body)
RefusesSend c n count Worn = MaySend c n × (count ≡ LETTERS)
RefusesSend c n count OutOfMemory = MaySend c n

-- it returns the error of its send, except where it is made to go on
abbrev pub CourierRefuses : CourierView → ℕ → ℕ → ℕ → Entry (List ℕ) → SendError → Type 0
CourierRefuses c me n count (Resumption round) Stranger = (c.goes_on ≢ 1) × (n ≤ c.to)
CourierRefuses c me n count (Resumption round) TooLong = (c.goes_on ≢ 1) × (c.to < n) × (BODY_BYTES < length c.body)
CourierRefuses c me n count (Resumption round) Worn = (c.to < n) × (length c.body ≤ BODY_BYTES) × (count ≡ LETTERS)
CourierRefuses c me n count _ _ = ⊥

-- what a courier packs into
abbrev pub courier_pack : CourierView → List ℕ
courier_pack c = to_be_bytes w32 c.to ++ (to_be_bytes w32 c.goes_on ++ pack_bytes c.body)

abbrev pub AreCounted : CourierView → Type 0
AreCounted c = Unit {0} × (Unit {0} × IsCounted c.body)

-- every courier packs
pub courier_packs : (c : CourierView) → is_courier c ≡ true → AreCounted c × (length (courier_pack c) ≤ STATE_BYTES)
courier_packs c right =
    let body : length c.body ≤ 65536 = grind (arith, nat_tests, right) in
    ((tt, (tt, omega (arith, body))), grind (arith, length-append, body))
