-- The list of the PEs that were not scanned: all at first, and one less with each that is scanned.
use Rattle.std.proofs.Common.{◌≡◌, ◌≢◌, ℕ, ◌+◌, ◌-◌, ◌<◌, ◌≤◌, inl, inr, List, length, take, set, slice_index, arith, ap, sym, ◌∙◌}
use Rattle.std.proofs.lemmas.Bool.{cases_lt}
use Rattle.std.proofs.lemmas.List.{get_or-set_same, get_or-set_other, get_or-take, length-take-le}
use Rattle.block_assignment.specs.Search.{IsUnscanned}

pub all_listed : (rank pes : List ℕ) (end : ℕ) → ((p : ℕ) → p < end → slice_index rank p ≡ 0) → length pes ≡ end
    → ((p : ℕ) → p < end → slice_index pes p ≡ p) → IsUnscanned rank pes end
all_listed rank pes end none counted each =
    record {
      below = λ i inside. omega (arith, inside, counted, each i (omega (arith, inside, counted)));
      apart = λ i inside. ap (λ p. slice_index rank p) (each i (omega (arith, inside, counted))) ∙ none i (omega (arith, inside, counted));
      ascending = λ i j before inside. omega (arith, before, each i (omega (arith, before, inside, counted)), each j (omega (arith, inside, counted)));
      each = λ p inside _. (p, omega (arith, inside, counted), each p inside);
    }

-- the list without what stood at a place
pub record IsWithout (old pes : List ℕ) (place : ℕ) : Type 0 where
  pub inside : place < length old
  pub fewer : length pes + 1 ≡ length old
  pub before : (i : ℕ) → i < place → slice_index pes i ≡ slice_index old i
  pub behind : (i : ℕ) → place ≤ i → i < length pes → slice_index pes i ≡ slice_index old (i + 1)

-- what stood at a place of the first entries of a list is taken out
pub taken_out : (old new : List ℕ) (count place : ℕ) → place < count → count ≤ length old → length new ≡ length old
    → ((i : ℕ) → i < place → slice_index new i ≡ slice_index old i)
    → ((i : ℕ) → place ≤ i → i + 1 < count → slice_index new i ≡ slice_index old (i + 1)) → IsWithout (take count old) (take (count - 1) new) place
taken_out old new count place inside within same before behind =
    let long : length (take count old) ≡ count = length-take-le count old within in
    let short : length (take (count - 1) new) ≡ count - 1 = length-take-le (count - 1) new (omega (arith, within, same)) in
    record {
      inside = omega (arith, inside, long);
      fewer = omega (arith, inside, long, short);
      before = λ i earlier. get_or-take (count - 1) new i 0 (omega (arith, earlier, inside)) ∙ before i earlier ∙ sym (get_or-take count old i 0 (omega (arith, earlier, inside)));
      behind = λ i later within. get_or-take (count - 1) new i 0 (omega (arith, within, short))
          ∙ behind i later (omega (arith, within, short)) ∙ sym (get_or-take count old (i + 1) 0 (omega (arith, within, short)));
    }

-- where an entry stood
stood_at : (old pes : List ℕ) (place : ℕ) → IsWithout old pes place → (i : ℕ) → i < length pes → (j : ℕ) × (j < length old) × (j ≢ place) × (slice_index pes i ≡ slice_index old j)
stood_at old pes place without i inside =
    elim (cases_lt i place) [
      | inl earlier ↦ (i, omega (arith, inside, without.fewer), (λ e. absurd (omega (arith, e, earlier))), without.before i earlier)
      | inr later ↦ (i + 1, omega (arith, inside, without.fewer), (λ e. absurd (omega (arith, e, later))), without.behind i later inside)
    ]

-- where an entry stands now
stands_at : (old pes : List ℕ) (place : ℕ) → IsWithout old pes place → (j : ℕ) → j < length old → j ≢ place → (i : ℕ) × (i < length pes) × (slice_index pes i ≡ slice_index old j)
stands_at old pes place without j inside other =
    elim (cases_lt j place) [
      | inl earlier ↦ (j, omega (arith, earlier, without.inside, without.fewer), without.before j earlier)
      | inr later ↦ moved (omega (arith, later, other))
    ]
  where
    moved : place < j → (i : ℕ) × (i < length pes) × (slice_index pes i ≡ slice_index old j)
    moved past =
        let same : j - 1 + 1 ≡ j = omega (arith, past) in (
          j - 1,
          omega (arith, past, inside, without.fewer),
          without.behind (j - 1) (omega (arith, past)) (omega (arith, past, inside, without.fewer)) ∙ ap (λ k. slice_index old k) same,
        )

pub one_less_listed : (rank old pes : List ℕ) (end place pe next : ℕ) → IsUnscanned rank old end → IsWithout old pes place
    → slice_index old place ≡ pe → pe < length rank → 0 < next → IsUnscanned (set rank pe next) pes end
one_less_listed rank old pes end place pe next listed without here in_rank some =
    record {
      below = λ i inside. (let at = stood_at old pes place without i inside in omega (arith, at.3, listed.below at.0 at.1));
      apart = λ i inside. (let at = stood_at old pes place without i inside in get_or-set_other rank pe (slice_index pes i) next 0
          (apart_from at.0 at.1 at.2 (slice_index pes i) at.3) ∙ ap (λ p. slice_index rank p) at.3 ∙ listed.apart at.0 at.1);
      ascending = ascending;
      each = each;
    }
  where
    -- the other entries are other PEs
    apart_from : (j : ℕ) → j < length old → j ≢ place → (p : ℕ) → p ≡ slice_index old j → p ≢ pe
    apart_from j inside other p is same = elim (cases_lt j place) [
      | inl earlier ↦ absurd (omega (arith, same, is, here, listed.ascending j place earlier without.inside))
      | inr later ↦ absurd (omega (arith, same, is, here, listed.ascending place j (omega (arith, later, other)) inside))
    ]

    ascending : (i j : ℕ) → i < j → j < length pes → slice_index pes i < slice_index pes j
    ascending i j before inside = elim (cases_lt j place) [
      | inl earlier ↦ omega (
        arith,
        without.before i (omega (arith, before, earlier)),
        without.before j earlier,
        listed.ascending i j before (omega (arith, earlier, without.inside)),
      )
      | inr later ↦ elim (cases_lt i place) [
        | inl first ↦ omega (
          arith,
          without.before i first,
          without.behind j later inside,
          listed.ascending i (j + 1) (omega (arith, before)) (omega (arith, inside, without.fewer)),
        )
        | inr second ↦ omega (
          arith,
          without.behind i second (omega (arith, before, inside)),
          without.behind j later inside,
          listed.ascending (i + 1) (j + 1) (omega (arith, before)) (omega (arith, inside, without.fewer)),
        )
      ]
    ]

    each : (p : ℕ) → p < end → slice_index (set rank pe next) p ≡ 0 → (i : ℕ) × (i < length pes) × (slice_index pes i ≡ p)
    each p inside none =
        let other : p ≢ pe = λ same. absurd (omega (arith, some, none, ap (λ q. slice_index (set rank pe next) q) same, get_or-set_same rank pe next 0 in_rank)) in
        let stood = listed.each p inside (sym (get_or-set_other rank pe p next 0 other) ∙ none) in
        let stands = stands_at old pes place without stood.0 stood.1 (λ same. other (sym stood.2 ∙ ap (λ k. slice_index old k) same ∙ here)) in
        (stands.0, stands.1, stands.2 ∙ stood.2)
