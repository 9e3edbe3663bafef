-- What happened in steps, one after another.
use Rattle.std.proofs.Common.{◌≡◌, ℕ, ◌+◌, ◌<◌, ◌≤◌, List, ◌++◌, length, drop, get_or, refl, append_assoc, append-nil, add-one, drop-cons}
use Rattle.std.proofs.lemmas.List.{drop_all}
use Rattle.run_trace.specs.declared.happening.Happening.{Happening}
use Rattle.run_trace.specs.Steps.{Made, event_happening, happenings_from, listed}

pub happenings_more : (steps : List Made) (i : ℕ) (d : Made) (before : List Happening) → i < length steps
    → (before ++ listed (event_happening (get_or steps i d).0 (get_or steps i d).1 i)) ++ happenings_from (i + 1) (drop (i + 1) steps) ≡ before ++ happenings_from i (drop i steps)
happenings_more steps i d before lt = rw (append_assoc, drop-cons steps i d lt, add-one i) refl

pub happenings_all : (steps : List Made) (i : ℕ) (before : List Happening) → length steps ≤ i → before ++ happenings_from i (drop i steps) ≡ before
happenings_all steps i before past = rw (drop_all i steps past) (append-nil before)
