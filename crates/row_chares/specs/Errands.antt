-- A chare whose state says how many letters it sends, where to, and when it has finished.
use Rattle.std.specs.Prelude.{ℕ, ◌+◌, ◌-◌, ◌<◌, ◌≤◌, List, [], ◌++◌, length, replicate, false, not, ◌&&◌, ◌==◌, nat_lt}
use Rattle.std.specs.Int.{w32, to_be_bytes}
use Rattle.std.proofs.Common.{arith, length-append}
use Rattle.chare_index.specs.declared.limits.TheConstants.Limits.{LETTERS, STATE_BYTES}
use Rattle.chares.specs.declared.entry.Entry.{Entry}
use Rattle.chares.specs.declared.entry.Entry.TheVariants.{Letter, Resumption}
use Rattle.chares.specs.declared.sends.SendError.{SendError}
use Rattle.chares.specs.declared.sends.SendError.TheVariants.{Stranger, Worn}
use Rattle.chares.specs.Steps.{Outcome}

-- the element that its letters go to, how many of these it sends as it goes on and how many for each letter that it gets,
-- how many letters it has yet to get, and after how many rounds it may finish
pub record ErrandView : Type 0 where
  pub to : ℕ
  pub letters : ℕ
  pub replies : ℕ
  pub wanted : ℕ
  pub rounds : ℕ

-- the fields, as they are packed
abbrev pub Parts : Type 0
Parts = ℕ × (ℕ × (ℕ × (ℕ × ℕ)))

abbrev pub parts : ErrandView → Parts
parts e = (e.to, (e.letters, (e.replies, (e.wanted, e.rounds))))

abbrev pub of_parts : Parts → ErrandView
of_parts x = record { to = x.0; letters = x.1.0; replies = x.1.1.0; wanted = x.1.1.1.0; rounds = x.1.1.1.1 }

-- this number of empty letters to an element
abbrev pub empty_letters : ℕ → ℕ → List (ℕ × List ℕ)
empty_letters count to = replicate count (to, [])

-- for a letter it sends its replies, and has finished once it needs no more letters; as it goes on it sends its letters,
-- and is ready if it has rounds left, or otherwise has finished if it needs no letter
abbrev pub errand_step : ErrandView → ℕ → ℕ → Entry (List ℕ) → Outcome ErrandView
errand_step e me n (Letter body) =
    record {
      state = record e { wanted = e.wanted - 1 };
      effect = record { units = 0; at_sync = false; finished = (e.wanted - 1) == 0 };
      sends = empty_letters e.replies e.to;
    }
errand_step e me n (Resumption round) =
    record {
      state = e;
      effect = record { units = 0; at_sync = nat_lt round e.rounds; finished = not (nat_lt round e.rounds) && (e.wanted == 0) };
      sends = empty_letters e.letters e.to;
    }

-- this number of letters to an element is refused where the element is a stranger, or fewer letter numbers are left
abbrev pub RefusesAll : ℕ → ℕ → ℕ → ℕ → SendError → Type 0
RefusesAll n count letters to Stranger = n ≤ to
RefusesAll n count letters to Worn = LETTERS < count + letters
RefusesAll n count letters to _ = ⊥

abbrev pub ErrandRefuses : ErrandView → ℕ → ℕ → ℕ → Entry (List ℕ) → SendError → Type 0
ErrandRefuses e me n count (Letter body) error = RefusesAll n count e.replies e.to error
ErrandRefuses e me n count (Resumption round) error = RefusesAll n count e.letters e.to error

-- what it packs into
abbrev pub errand_pack : ErrandView → List ℕ
errand_pack e = to_be_bytes w32 e.to ++ (to_be_bytes w32 e.letters ++ (to_be_bytes w32 e.replies ++ (to_be_bytes w32 e.wanted ++ to_be_bytes w32 e.rounds)))

abbrev pub AreCounted : Type 0
AreCounted = Unit {0} × (Unit {0} × (Unit {0} × (Unit {0} × Unit {0})))

-- it packs into 20 bytes
pub errand_packs : (e : ErrandView) → AreCounted × (length (errand_pack e) ≤ STATE_BYTES)
errand_packs e = ((tt, (tt, (tt, (tt, tt)))), grind (arith, length-append))
