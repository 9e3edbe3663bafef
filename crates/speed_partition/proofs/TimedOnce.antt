-- There is one chosen division for PEs of unequal speed.
use Rattle.std.proofs.Common.{◌≡◌, ℕ, Result, Ok, Err, IfOk, suc, zero, ◌+◌, ◌*◌, ◌<◌, ◌≤◌, inl, inr, List, slice_index, arith, add-one, ap, subst, sym, ◌∙◌}
use Rattle.std.proofs.lemmas.Bool.{cases_lt}
use Rattle.std.proofs.lemmas.Grind.{same_number_lists}
use Rattle.std.proofs.Math.Nat.{mul-le-mul_right, le_of_mul-le-mul_right}
use Rattle.lb_snapshot.specs.Measured.{load}
use Rattle.speed_certificates.specs.declared.time.EndTime.{EndTime}
use Rattle.speed_certificates.specs.declared.division.TimeFloor.{TimeFloor}
use Rattle.speed_certificates.specs.declared.division.TimeFloor.TheVariants.{Idle, Fence}
use Rattle.speed_certificates.specs.declared.division.TimedDivision.{TimedDivision}
use Rattle.speed_certificates.specs.Speeds.{Pes, count, speed_of, background_of, work_of}
use Rattle.speed_partition.specs.Chosen.{IsChosen, IsFirstIdle, IsFirstLatest, IsLeastFloor, IsLeastStopFrom, IsLeastTimeFence, IsTheOnly}
use Rattle.speed_partition.specs.Greedy.{IsGreatestEndBy, IsGreedyBy}

-- who ends by a time ends by one that is no earlier
by_later : (n v m w work speed : ℕ) → 1 ≤ v → n * w ≤ m * v → work * v ≤ n * speed → work * w ≤ m * speed
by_later n v m w work speed some later by =
    le_of_mul-le-mul_right {m = work * w} {n = m * speed} {k = v} (omega (arith, mul-le-mul_right w by, mul-le-mul_right speed later)) some

-- what is greedy by a time is so by the same time in other numbers
same_greedy : (xs : List ℕ) (pes : Pes) (n v m w blocks : ℕ) (cuts : List ℕ) → 1 ≤ v → 1 ≤ w → n * w ≤ m * v → m * v ≤ n * w
    → IsGreedyBy xs pes n v blocks cuts → IsGreedyBy xs pes m w blocks cuts
same_greedy xs pes n v m w blocks cuts some_v some_w later earlier h =
    record {
      counted = h.counted;
      starts = h.starts;
      greedy = λ p inside. record {
        inside = (h.greedy p inside).inside;
        ends_by = by_later n v m w (background_of pes p + load xs (slice_index cuts p) (slice_index cuts (p + 1))) (speed_of pes p) some_v later
            (h.greedy p inside).ends_by;
        greatest = λ other within by. (h.greedy p inside).greatest other within
            (by_later m w n v (background_of pes p + load xs (slice_index cuts p) other) (speed_of pes p) some_w earlier by);
      };
    }

-- one greatest end of a block
pub end_once : (xs : List ℕ) (pes : Pes) (n v p first a b : ℕ) → IsGreatestEndBy xs pes n v p first a → IsGreatestEndBy xs pes n v p first b → a ≡ b
end_once xs pes n v p first a b h k =
    omega (arith, h.greatest b k.inside k.ends_by, k.greatest a h.inside h.ends_by)

-- one list of greedy cuts
cut_once : (xs : List ℕ) (pes : Pes) (n v blocks : ℕ) (c d : List ℕ) → IsGreedyBy xs pes n v blocks c → IsGreedyBy xs pes n v blocks d
    → (k : ℕ) → k ≤ blocks → slice_index c k ≡ slice_index d k
cut_once xs pes n v blocks c d h k zero inside = h.starts ∙ sym k.starts
cut_once xs pes n v blocks c d h k (suc p) inside =
    let before : slice_index c p ≡ slice_index d p = cut_once xs pes n v blocks c d h k p (omega arith) in
    let step : IsGreatestEndBy xs pes n v p (slice_index d p) (slice_index c (p + 1)) = subst
    (λ a. IsGreatestEndBy xs pes n v p a (slice_index c (p + 1))) before (h.greedy p (omega arith)) in
    rw (← add-one p) (end_once xs pes n v p (slice_index d p) (slice_index c (p + 1)) (slice_index d (p + 1)) step (k.greedy p (omega arith)))

cuts_once : (xs : List ℕ) (pes : Pes) (n v blocks : ℕ) (c d : List ℕ) → IsGreedyBy xs pes n v blocks c → IsGreedyBy xs pes n v blocks d → c ≡ d
cuts_once xs pes n v blocks c d h k =
    same_number_lists c d (omega (arith, h.counted, k.counted)) (λ p inside. cut_once xs pes n v blocks c d h k p (omega (arith, h.counted)))

-- the first of those that end last is not before another
not_before : (xs : List ℕ) (pes : Pes) (cuts : List ℕ) (blocks : ℕ) (t u : EndTime) (h : IsFirstLatest xs pes cuts blocks t)
    (k : IsFirstLatest xs pes cuts blocks u) → h.pe < k.pe → ⊥
not_before xs pes cuts blocks t u h k before =
    let sooner : t.work * u.speed < u.work * t.speed = rw (h.work_is, h.speed_is) (k.earlier h.pe before) in
    let later : u.work * t.speed ≤ t.work * u.speed = rw (k.work_is, k.speed_is) (h.none_later k.pe k.inside) in
    absurd (omega (arith, sooner, later))

latest_once : (xs : List ℕ) (pes : Pes) (cuts : List ℕ) (blocks : ℕ) (t u : EndTime) → IsFirstLatest xs pes cuts blocks t
    → IsFirstLatest xs pes cuts blocks u → t ≡ u
latest_once xs pes cuts blocks t u h k =
    elim (cases_lt h.pe k.pe) [
      | inl before ↦ absurd (not_before xs pes cuts blocks t u h k before)
      | inr behind ↦ elim (cases_lt k.pe h.pe) [
        | inl before ↦ absurd (not_before xs pes cuts blocks u t k h before)
        | inr same ↦
            let e : h.pe ≡ k.pe = omega arith in
            same_time t.work u.work t.speed u.speed (h.work_is ∙ ap (λ p. work_of xs pes cuts p) e ∙ sym k.work_is)
            (h.speed_is ∙ ap (λ p. speed_of pes p) e ∙ sym k.speed_is)
      ]
    ]
  where
    made : ℕ → ℕ → EndTime
    made n v = record { work = n; speed = v }

    same_time : (a b c d : ℕ) → a ≡ b → c ≡ d → made a c ≡ made b d
    same_time a b c d e f = rw (e, f)

-- one least stop behind another
stop_once : (xs : List ℕ) (pes : Pes) (t : EndTime) (p first a b : ℕ) → IsLeastStopFrom xs pes t p first a → IsLeastStopFrom xs pes t p first b → a ≡ b
stop_once xs pes t p first a b h k = omega (arith, h.least b k.onward k.from, k.least a h.onward h.from)

stops_agree : (xs : List ℕ) (pes : Pes) (t : EndTime) (s r : List ℕ) → IsLeastTimeFence xs pes t s → IsLeastTimeFence xs pes t r → (k : ℕ)
    → k ≤ count pes → slice_index s k ≡ slice_index r k
stops_agree xs pes t s r h k zero inside = h.fence.starts ∙ sym k.fence.starts
stops_agree xs pes t s r h k (suc p) inside =
    let before : slice_index s p ≡ slice_index r p = stops_agree xs pes t s r h k p (omega arith) in
    let step : IsLeastStopFrom xs pes t p (slice_index r p) (slice_index s (p + 1)) = subst
    (λ a. IsLeastStopFrom xs pes t p a (slice_index s (p + 1))) before (h.least p (omega arith)) in
    rw (← add-one p) (stop_once xs pes t p (slice_index r p) (slice_index s (p + 1)) (slice_index r (p + 1)) step (k.least p (omega arith)))

pub fence_once : (xs : List ℕ) (pes : Pes) (t : EndTime) (s r : List ℕ) → IsLeastTimeFence xs pes t s → IsLeastTimeFence xs pes t r → s ≡ r
fence_once xs pes t s r h k =
    same_number_lists s r (omega (arith, h.fence.counted, k.fence.counted)) (λ i inside. stops_agree xs pes t s r h k i (omega (arith, h.fence.counted)))

-- one first PE that is idle
idle_once : (pes : Pes) (t : EndTime) (p q : ℕ) → IsFirstIdle pes t p → IsFirstIdle pes t q → p ≡ q
idle_once pes t p q h k =
    elim (cases_lt p q) [
      | inl before ↦ absurd (omega (arith, h.idle.from, k.earlier p before))
      | inr behind ↦ elim (cases_lt q p) [
        | inl before ↦ absurd (omega (arith, k.idle.from, h.earlier q before))
        | inr same ↦ omega (arith, behind, same)
      ]
    ]

-- one least floor
floor_once : {A : Type 0} (xs : List ℕ) (pes : Pes) (t : EndTime) (f e : TimeFloor A) → IsLeastFloor xs pes t f → IsLeastFloor xs pes t e → f ≡ e
floor_once xs pes t (Idle p) (Idle q) h k = ap (λ n. Idle n) (idle_once pes t p q h k)
floor_once xs pes t (Idle p) (Fence s) h k = absurd (omega (arith, h.idle.from, k.0 p h.idle.inside))
floor_once xs pes t (Fence s) (Idle q) h k = absurd (omega (arith, k.idle.from, h.0 q k.idle.inside))
floor_once xs pes t (Fence s) (Fence r) h k =
    let e : s ≡ r = fence_once xs pes t s r h.1 k.1 in
    ap (λ stops. Fence stops) e

-- a division of these parts
abbrev made_of : {A : Type 0} → EndTime → List ℕ → TimeFloor A → TimedDivision A
made_of time cuts floor = record { time = time; cuts = cuts; floor = floor }

same_parts : {A : Type 0} (t u : EndTime) (c d : List ℕ) (f e : TimeFloor A) → t ≡ u → c ≡ d → f ≡ e → made_of t c f ≡ made_of u d e
same_parts t u c d f e h k m = rw (h, k, m)

chosen_once : {A : Type 0} (xs : List ℕ) (pes : Pes) (d e : TimedDivision A) → IsChosen xs pes d → IsChosen xs pes e → d ≡ e
chosen_once xs pes d e h k =
    let later = h.least_time.least e.cuts e.time k.least_time.divides k.least_time.some_speed k.least_time.greatest in
    let earlier = k.least_time.least d.cuts d.time h.least_time.divides h.least_time.some_speed h.least_time.greatest in
    let greedy : IsGreedyBy xs pes e.time.work e.time.speed (count pes) d.cuts = same_greedy xs pes d.time.work d.time.speed e.time.work
    e.time.speed (count pes) d.cuts h.least_time.some_speed k.least_time.some_speed later earlier h.greedy in
    let cuts : d.cuts ≡ e.cuts = cuts_once xs pes e.time.work e.time.speed (count pes) d.cuts e.cuts greedy k.greedy in
    let latest : IsFirstLatest xs pes e.cuts (count pes) d.time = subst (λ c. IsFirstLatest xs pes c (count pes) d.time) cuts h.first_latest in
    let time : d.time ≡ e.time = latest_once xs pes e.cuts (count pes) d.time e.time latest k.first_latest in
    let floor : d.floor ≡ e.floor = floor_once xs pes e.time d.floor e.floor (subst (λ t. IsLeastFloor xs pes t d.floor) time h.floor) k.floor in
    same_parts d.time e.time d.cuts e.cuts d.floor e.floor time cuts floor

-- a chosen division is the only one
pub only_from_chosen : {A : Type 0} (xs : List ℕ) (pes : Pes) (d : TimedDivision A) → IsChosen xs pes d → IsTheOnly xs pes d
only_from_chosen xs pes d h other k = chosen_once xs pes other d k h

-- and so is one that is returned
pub only_answer : {A E : Type 0} (xs : List ℕ) (pes : Pes) (answer : Result (TimedDivision A) E) → IfOk answer (IsChosen xs pes) → IfOk answer (IsTheOnly xs pes)
only_answer xs pes (Ok d) h = only_from_chosen xs pes d h
only_answer xs pes (Err _) h = h
