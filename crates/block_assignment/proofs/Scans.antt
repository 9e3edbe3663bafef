-- One walk over the list of the PEs that were not scanned, from its end to its start.
use Rattle.std.proofs.Common.{◌≡◌, ◌≢◌, ℕ, ◌+◌, ◌-◌, ◌^◌, ◌<◌, ◌≤◌, inl, inr, List, Option, Some, None, MatchOption, nat_lt, if◌then◌else◌, length, set, slice_index, arith, ap, sym, ◌∙◌, subst, refl}
use Rattle.std.proofs.lemmas.Bool.{cases_eq, cases_lt}
use Rattle.std.proofs.lemmas.List.{get_or-set_same, get_or-set_other}
use Rattle.block_assignment.specs.Search.{IsNearest, IsRelaxed, IsUnscanned}

-- the walk has come down to PE k
pub record Walked (far price block : ℕ) (row discount rank old_distance old_from distance from : List ℕ) (end k : ℕ) : Type 0 where
  pub relaxed : (p : ℕ) → k ≤ p → p < end → slice_index rank p ≡ 0
      → IsRelaxed far (slice_index row p) price (slice_index discount p) block (slice_index old_distance p) (slice_index old_from p)
      (slice_index distance p) (slice_index from p)
  pub kept_distance : (p : ℕ) → 0 < slice_index rank p → slice_index distance p ≡ slice_index old_distance p
  pub kept_from : (p : ℕ) → 0 < slice_index rank p → slice_index from p ≡ slice_index old_from p
  pub to_do_distance : (p : ℕ) → p < k → slice_index distance p ≡ slice_index old_distance p
  pub to_do_from : (p : ℕ) → p < k → slice_index from p ≡ slice_index old_from p

-- of the PEs from k on one that was not scanned, and is nearest of those
pub record IsNearestFrom (rank distance : List ℕ) (k end pe : ℕ) : Type 0 where
  pub behind : k ≤ pe
  pub inside : pe < end
  pub apart : slice_index rank pe ≡ 0
  pub least : (p : ℕ) → k ≤ p → p < end → slice_index rank p ≡ 0 → slice_index distance pe ≤ slice_index distance p

-- the place of the nearest PE from k on, and how far it is
pub record Nearest (rank pes distance : List ℕ) (nearest : Option ℕ) (least end k : ℕ) : Type 0 where
  pub which : MatchOption nearest ((p : ℕ) → k ≤ p → p < end → 0 < slice_index rank p) (λ place. IsNearestFrom rank distance k end (slice_index pes place))
  pub far : MatchOption nearest (least ≡ 2 ^ 64 - 1) (λ place. least ≡ slice_index distance (slice_index pes place))

-- the PE behind the last of the first entries of the list, and 0 of none
abbrev pub behind : List ℕ → ℕ → ℕ
behind pes count = if nat_lt 0 count then slice_index pes (count - 1) + 1 else 0

pub behind_some : (pes : List ℕ) (count : ℕ) → 0 < count → behind pes count ≡ slice_index pes (count - 1) + 1
behind_some pes count some = grind arith

pub behind_none : (pes : List ℕ) (count : ℕ) → count ≡ 0 → behind pes count ≡ 0
behind_none pes count none = grind arith

-- PEs between two of the list that follow each other were scanned
scanned_between : (rank pes : List ℕ) (end place p : ℕ) → IsUnscanned rank pes end → place ≤ length pes → behind pes place ≤ p → p < end
    → (place < length pes → p < slice_index pes place) → 0 < slice_index rank p
scanned_between rank pes end place p listed few past inside before =
    elim (cases_eq (slice_index rank p) 0) [
      | inl unscanned ↦ absurd (missed (listed.each p inside unscanned))
      | inr scanned ↦ omega (arith, scanned)
    ]
  where
    earlier_none : (i : ℕ) → i < place → slice_index pes i ≡ p → ⊥
    earlier_none i earlier here = elim (cases_eq i (place - 1)) [
      | inl last ↦ absurd (omega (arith, past, behind_some pes place (omega (arith, earlier)), here, ap (λ k. slice_index pes k) last))
      | inr other ↦ absurd (omega (
        arith,
        past,
        behind_some pes place (omega (arith, earlier)),
        here,
        listed.ascending i (place - 1) (omega (arith, earlier, other)) (omega (arith, earlier, few)),
      ))
    ]

    later_none : (i : ℕ) → place ≤ i → i < length pes → slice_index pes i ≡ p → ⊥
    later_none i later within here = elim (cases_eq i place) [
      | inl same ↦ absurd (omega (arith, before (omega (arith, later, within)), here, ap (λ k. slice_index pes k) same))
      | inr other ↦ absurd (omega (arith, before (omega (arith, later, within)), here, listed.ascending place i (omega (arith, later, other)) within))
    ]

    missed : (i : ℕ) × (i < length pes) × (slice_index pes i ≡ p) → ⊥
    missed at = elim (cases_lt at.0 place) [
      | inl earlier ↦ earlier_none at.0 earlier at.2
      | inr later ↦ later_none at.0 later at.1 at.2
    ]

-- behind the last PE of the list all were scanned
pub scanned_last : (rank pes : List ℕ) (end : ℕ) → IsUnscanned rank pes end → (p : ℕ) → behind pes (length pes) ≤ p → p < end → 0 < slice_index rank p
scanned_last rank pes end listed p past inside =
    scanned_between rank pes end (length pes) p listed (omega arith) past inside (λ none. absurd (omega (arith, none)))

-- and so were all between one and the one before it
scanned_next : (rank pes : List ℕ) (end place : ℕ) → IsUnscanned rank pes end → place < length pes → (p : ℕ) → behind pes place ≤ p
    → p < slice_index pes place → 0 < slice_index rank p
scanned_next rank pes end place listed inside p past before =
    scanned_between rank pes end place p listed (omega (arith, inside)) past (omega (arith, before, listed.below place inside)) (λ _. before)

-- which is before the one
next_before : (rank pes : List ℕ) (end place : ℕ) → IsUnscanned rank pes end → place < length pes → behind pes place ≤ slice_index pes place
next_before rank pes end place listed inside =
    elim (cases_eq place 0) [
      | inl first ↦ omega (arith, behind_none pes place first)
      | inr other ↦ omega (arith, behind_some pes place (omega (arith, other)), listed.ascending (place - 1) place (omega (arith, other)) inside)
    ]

-- the walk comes to the PE at a place, and behind it lie those that it was at
pub record AtPlace (rank pes : List ℕ) (end place : ℕ) : Type 0 where
  pub in_list : place < length pes
  pub inside : slice_index pes place < end
  pub unscanned : slice_index rank (slice_index pes place) ≡ 0
  pub before : behind pes place ≤ slice_index pes place
  pub between : (p : ℕ) → behind pes place ≤ p → p < slice_index pes place → 0 < slice_index rank p

pub at_place : (rank pes : List ℕ) (end place : ℕ) → IsUnscanned rank pes end → place < length pes → AtPlace rank pes end place
at_place rank pes end place listed inside =
    record {
      in_list = inside;
      inside = listed.below place inside;
      unscanned = listed.apart place inside;
      before = next_before rank pes end place listed inside;
      between = scanned_next rank pes end place listed inside;
    }

pub last_inside : (rank pes : List ℕ) (end : ℕ) → IsUnscanned rank pes end → behind pes (length pes) ≤ end
last_inside rank pes end listed =
    elim (cases_lt 0 (length pes)) [
      | inl some ↦ omega (arith, behind_some pes (length pes) some, listed.below (length pes - 1) (omega (arith, some)))
      | inr none ↦ (let nil : behind pes (length pes) ≡ 0 = grind arith in omega (arith, nil))
    ]

-- PEs that were scanned before are passed by
pub walked_to : (far price block : ℕ) (row discount rank old_distance old_from distance from : List ℕ) (end k next : ℕ)
    → Walked far price block row discount rank old_distance old_from distance from end k → next ≤ k
    → ((p : ℕ) → next ≤ p → p < k → 0 < slice_index rank p) → Walked far price block row discount rank old_distance old_from distance from end next
walked_to far price block row discount rank old_distance old_from distance from end k next walked before scanned =
    record {
      relaxed = λ p past inside not_yet. elim (cases_lt p k) [
        | inl earlier ↦ absurd (omega (arith, scanned p past earlier, not_yet))
        | inr later ↦ walked.relaxed p later inside not_yet
      ];
      kept_distance = walked.kept_distance;
      kept_from = walked.kept_from;
      to_do_distance = λ p earlier. walked.to_do_distance p (omega (arith, before, earlier));
      to_do_from = λ p earlier. walked.to_do_from p (omega (arith, before, earlier));
    }

-- a PE that is as near as before
pub walked_kept : (far price block : ℕ) (row discount rank old_distance old_from distance from : List ℕ) (end k there : ℕ)
    → Walked far price block row discount rank old_distance old_from distance from end (k + 1)
    → there + price ≡ far + slice_index row k + slice_index discount k → slice_index distance k ≤ there
    → Walked far price block row discount rank old_distance old_from distance from end k
walked_kept far price block row discount rank old_distance old_from distance from end k there walked exact near =
    record {
      relaxed = λ p past inside not_yet. elim (cases_eq p k) [
        | inl here ↦ subst (λ q. IsRelaxed far (slice_index row q) price (slice_index discount q) block (slice_index old_distance q)
            (slice_index old_from q) (slice_index distance q) (slice_index from q)) (sym here) at_k
        | inr other ↦ walked.relaxed p (omega arith) inside not_yet
      ];
      kept_distance = walked.kept_distance;
      kept_from = walked.kept_from;
      to_do_distance = λ p earlier. walked.to_do_distance p (omega arith);
      to_do_from = λ p earlier. walked.to_do_from p (omega arith);
    }
  where
    at_k : IsRelaxed far (slice_index row k) price (slice_index discount k) block (slice_index old_distance k) (slice_index old_from k)
        (slice_index distance k) (slice_index from k)
    at_k = record {
      no_more = omega (arith, walked.to_do_distance k (omega arith));
      for_block = omega (arith, exact, near);
      which = inl (walked.to_do_distance k (omega arith), walked.to_do_from k (omega arith));
    }

-- a PE that is nearer by way of the block
pub walked_nearer : (far price block : ℕ) (row discount rank old_distance old_from distance from : List ℕ) (end k there : ℕ)
    → Walked far price block row discount rank old_distance old_from distance from end (k + 1) → slice_index rank k ≡ 0
    → k < length distance → k < length from → there + price ≡ far + slice_index row k + slice_index discount k
    → there < slice_index distance k → Walked far price block row discount rank old_distance old_from (set distance k there) (set from k block) end k
walked_nearer far price block row discount rank old_distance old_from distance from end k there walked unscanned in_distance in_from exact near =
    record {
      relaxed = λ p past inside not_yet. elim (cases_eq p k) [
        | inl here ↦ subst (λ q. IsRelaxed far (slice_index row q) price (slice_index discount q) block (slice_index old_distance q)
            (slice_index old_from q) (slice_index (set distance k there) q) (slice_index (set from k block) q)) (sym here) at_k
        | inr other ↦ subst (λ d. IsRelaxed far (slice_index row p) price (slice_index discount p) block (slice_index old_distance p)
            (slice_index old_from p) d (slice_index (set from k block) p)) (sym (distance_other p other))
            (subst (λ f. IsRelaxed far (slice_index row p) price (slice_index discount p) block (slice_index old_distance p)
            (slice_index old_from p) (slice_index distance p) f) (sym (from_other p other)) (walked.relaxed p (omega arith) inside not_yet))
      ];
      kept_distance = λ p scanned. distance_other p (other_if p scanned) ∙ walked.kept_distance p scanned;
      kept_from = λ p scanned. from_other p (other_if p scanned) ∙ walked.kept_from p scanned;
      to_do_distance = λ p earlier. distance_other p (omega arith) ∙ walked.to_do_distance p (omega arith);
      to_do_from = λ p earlier. from_other p (omega arith) ∙ walked.to_do_from p (omega arith);
    }
  where
    distance_here : slice_index (set distance k there) k ≡ there
    distance_here = get_or-set_same distance k there 0 in_distance

    from_here : slice_index (set from k block) k ≡ block
    from_here = get_or-set_same from k block 0 in_from

    distance_other : (p : ℕ) → p ≢ k → slice_index (set distance k there) p ≡ slice_index distance p
    distance_other p other = get_or-set_other distance k p there 0 other

    from_other : (p : ℕ) → p ≢ k → slice_index (set from k block) p ≡ slice_index from p
    from_other p other = get_or-set_other from k p block 0 other

    other_if : (p : ℕ) → 0 < slice_index rank p → p ≢ k
    other_if p scanned here = absurd (omega (arith, scanned, unscanned, ap (λ q. slice_index rank q) here))

    at_k : IsRelaxed far (slice_index row k) price (slice_index discount k) block (slice_index old_distance k) (slice_index old_from k)
        (slice_index (set distance k there) k) (slice_index (set from k block) k)
    at_k = record {
      no_more = omega (arith, distance_here, near, walked.to_do_distance k (omega arith));
      for_block = omega (arith, distance_here, exact);
      which = inr (omega (arith, distance_here, near, walked.to_do_distance k (omega arith)), omega (arith, distance_here, exact), from_here);
    }

-- PE k once it was reached by way of the block, or left as it was: nothing else changed
pub record Relaxing (far price block : ℕ) (row discount rank old_distance old_from before distance from : List ℕ) (end k new_far : ℕ) : Type 0 where
  pub walked : Walked far price block row discount rank old_distance old_from distance from end k
  pub here : slice_index distance k ≡ new_far
  pub same : (p : ℕ) → p ≢ k → slice_index distance p ≡ slice_index before p
  pub some : new_far < 2 ^ 64 - 1

pub relaxed_nearer : (far price block : ℕ) (row discount rank old_distance old_from distance from : List ℕ) (end k there : ℕ)
    → Walked far price block row discount rank old_distance old_from distance from end (k + 1) → slice_index rank k ≡ 0
    → k < length distance → k < length from → there + price ≡ far + slice_index row k + slice_index discount k
    → there < slice_index distance k → there < 2 ^ 64 - 1
    → Relaxing far price block row discount rank old_distance old_from distance (set distance k there) (set from k block) end k there
relaxed_nearer far price block row discount rank old_distance old_from distance from end k there walked unscanned in_distance in_from exact near small =
    record {
      walked = walked_nearer far price block row discount rank old_distance old_from distance from end k there walked unscanned in_distance in_from exact near;
      here = get_or-set_same distance k there 0 in_distance;
      same = λ p other. get_or-set_other distance k p there 0 other;
      some = small;
    }

pub relaxed_kept : (far price block : ℕ) (row discount rank old_distance old_from distance from : List ℕ) (end k there : ℕ)
    → Walked far price block row discount rank old_distance old_from distance from end (k + 1)
    → there + price ≡ far + slice_index row k + slice_index discount k → slice_index distance k ≤ there → there < 2 ^ 64 - 1
    → Relaxing far price block row discount rank old_distance old_from distance distance from end k (slice_index distance k)
relaxed_kept far price block row discount rank old_distance old_from distance from end k there walked exact near small =
    record {
      walked = walked_kept far price block row discount rank old_distance old_from distance from end k there walked exact near;
      here = refl;
      same = λ p other. refl;
      some = omega (arith, near, small);
    }

-- what is the same behind k, is as near there
same_behind : (rank pes distance new : List ℕ) (nearest : Option ℕ) (least end k : ℕ) → Nearest rank pes distance nearest least end (k + 1)
    → ((p : ℕ) → p ≢ k → slice_index new p ≡ slice_index distance p) → Nearest rank pes new nearest least end (k + 1)
same_behind rank pes distance new None least end k known same = record { which = known.which; far = known.far }
same_behind rank pes distance new (Some place) least end k known same =
    let q : ℕ = slice_index pes place in
    let after : k + 1 ≤ q = known.which.behind in
    record {
      which = record {
        behind = after;
        inside = known.which.inside;
        apart = known.which.apart;
        least = λ p past within not_yet. omega (arith, known.which.least p past within not_yet, same p (omega arith), same q (omega arith));
      };
      far = omega (arith, known.far, same q (omega arith));
    }

-- PEs that were scanned before are none
pub nearest_to : (rank pes distance : List ℕ) (nearest : Option ℕ) (least end k next : ℕ) → Nearest rank pes distance nearest least end k
    → next ≤ k → ((p : ℕ) → next ≤ p → p < k → 0 < slice_index rank p) → Nearest rank pes distance nearest least end next
nearest_to rank pes distance None least end k next known before scanned =
    record {
      which = λ p past inside. elim (cases_lt p k) [
        | inl earlier ↦ scanned p past earlier
        | inr later ↦ known.which p later inside
      ];
      far = known.far;
    }
nearest_to rank pes distance (Some place) least end k next known before scanned =
    let after : k ≤ slice_index pes place = known.which.behind in
    record {
      which = record {
        behind = omega (arith, after, before);
        inside = known.which.inside;
        apart = known.which.apart;
        least = λ p past within not_yet. elim (cases_lt p k) [
          | inl earlier ↦ absurd (omega (arith, scanned p past earlier, not_yet))
          | inr later ↦ known.which.least p later within not_yet
        ];
      };
      far = known.far;
    }

-- the PE at a place is taken
nearest_taken : (rank pes distance : List ℕ) (nearest : Option ℕ) (least end place : ℕ)
    → Nearest rank pes distance nearest least end (slice_index pes place + 1) → slice_index pes place < end
    → slice_index rank (slice_index pes place) ≡ 0 → slice_index distance (slice_index pes place) ≤ least
    → Nearest rank pes distance (Some place) (slice_index distance (slice_index pes place)) end (slice_index pes place)
nearest_taken rank pes distance nearest least end place known inside unscanned near =
    record {
      which = record {
        behind = omega arith;
        inside = inside;
        apart = unscanned;
        least = λ p past within not_yet. elim (cases_eq p (slice_index pes place)) [
          | inl here ↦ omega (arith, ap (λ r. slice_index distance r) here)
          | inr other ↦ farther nearest known p (omega arith) within not_yet
        ];
      };
      far = refl;
    }
  where
    farther : (nearest : Option ℕ) → Nearest rank pes distance nearest least end (slice_index pes place + 1) → (p : ℕ)
        → slice_index pes place + 1 ≤ p → p < end → slice_index rank p ≡ 0 → slice_index distance (slice_index pes place) ≤ slice_index distance p
    farther None known p past within not_yet = absurd (omega (arith, known.which p past within, not_yet))
    farther (Some found) known p past within not_yet = omega (arith, known.which.least p past within not_yet, known.far, near)

-- PE k is left
nearest_left : (rank pes distance : List ℕ) (nearest : Option ℕ) (least end k : ℕ) → Nearest rank pes distance nearest least end (k + 1)
    → slice_index rank k ≡ 0 → slice_index distance k < 2 ^ 64 - 1 → least ≤ slice_index distance k → Nearest rank pes distance nearest least end k
nearest_left rank pes distance None least end k known unscanned some far = absurd (omega (arith, known.far, some, far))
nearest_left rank pes distance (Some place) least end k known unscanned some far =
    let after : k + 1 ≤ slice_index pes place = known.which.behind in
    record {
      which = record {
        behind = omega (arith, after);
        inside = known.which.inside;
        apart = known.which.apart;
        least = λ p past within not_yet. elim (cases_eq p k) [
          | inl here ↦ omega (arith, ap (λ r. slice_index distance r) here, known.far, far)
          | inr other ↦ known.which.least p (omega arith) within not_yet
        ];
      };
      far = known.far;
    }

-- the nearest PE after one more was looked at, which may have come nearer just before
taken : (rank pes distance new : List ℕ) (nearest : Option ℕ) (least end place : ℕ)
    → Nearest rank pes distance nearest least end (slice_index pes place + 1)
    → ((p : ℕ) → p ≢ slice_index pes place → slice_index new p ≡ slice_index distance p) → slice_index pes place < end
    → slice_index rank (slice_index pes place) ≡ 0 → slice_index new (slice_index pes place) ≤ least
    → Nearest rank pes new (Some place) (slice_index new (slice_index pes place)) end (slice_index pes place)
taken rank pes distance new nearest least end place known same inside unscanned near =
    nearest_taken rank pes new nearest least end place (same_behind rank pes distance new nearest least end (slice_index pes place) known same) inside unscanned near

left : (rank pes distance new : List ℕ) (nearest : Option ℕ) (least end k : ℕ) → Nearest rank pes distance nearest least end (k + 1)
    → ((p : ℕ) → p ≢ k → slice_index new p ≡ slice_index distance p) → slice_index rank k ≡ 0 → slice_index new k < 2 ^ 64 - 1
    → least ≤ slice_index new k → Nearest rank pes new nearest least end k
left rank pes distance new nearest least end k known same unscanned some far =
    nearest_left rank pes new nearest least end k (same_behind rank pes distance new nearest least end k known same) unscanned some far

-- the step of the walk at a place, where the PE there is taken, and where it is left
pub step_taken : (far price block : ℕ) (row discount rank pes old_distance old_from old distance from : List ℕ) (nearest : Option ℕ)
    (least end place new_far : ℕ) → Relaxing far price block row discount rank old_distance old_from old distance from end
    (slice_index pes place) new_far → AtPlace rank pes end place → Nearest rank pes old nearest least end (slice_index pes place + 1)
    → new_far ≤ least → Nearest rank pes distance (Some place) new_far end (behind pes place)
step_taken far price block row discount rank pes old_distance old_from old distance from nearest least end place new_far r at known near =
    subst (λ x. Nearest rank pes distance (Some place) x end (behind pes place)) r.here
    (nearest_to rank pes distance (Some place) (slice_index distance (slice_index pes place)) end (slice_index pes place)
    (behind pes place) (taken rank pes old distance nearest least end place known r.same at.inside at.unscanned
    (omega (arith, r.here, near))) at.before at.between)

pub step_left : (far price block : ℕ) (row discount rank pes old_distance old_from old distance from : List ℕ) (nearest : Option ℕ)
    (least end place new_far : ℕ) → Relaxing far price block row discount rank old_distance old_from old distance from end
    (slice_index pes place) new_far → AtPlace rank pes end place → Nearest rank pes old nearest least end (slice_index pes place + 1)
    → least ≤ new_far → Nearest rank pes distance nearest least end (behind pes place)
step_left far price block row discount rank pes old_distance old_from old distance from nearest least end place new_far r at known near =
    nearest_to rank pes distance nearest least end (slice_index pes place) (behind pes place)
    (left rank pes old distance nearest least end (slice_index pes place) known r.same at.unscanned (omega (arith, r.here, r.some))
    (omega (arith, r.here, near))) at.before at.between

-- what was found of all PEs
pub nearest_of_all : (rank pes distance : List ℕ) (nearest : Option ℕ) (least end : ℕ) → Nearest rank pes distance nearest least end 0
    → MatchOption nearest ((p : ℕ) → p < end → 0 < slice_index rank p) (λ place. IsNearest rank distance end (slice_index pes place))
nearest_of_all rank pes distance None least end known = λ p inside. known.which p (omega arith) inside
nearest_of_all rank pes distance (Some place) least end known =
    record { inside = known.which.inside; apart = known.which.apart; least = λ p within not_yet. known.which.least p (omega arith) within not_yet }
