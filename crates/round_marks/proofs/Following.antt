-- The marks of an element whose rounds come in order: where it agrees with the rounds of a board, all that the check of its marks asks
-- for follows.
use Rattle.std.proofs.Common.{◌≡◌, ◌∙◌, ℕ, zero, suc, ◌+◌, ◌<◌, ◌≤◌, List, [], ◌∷◌, ◌++◌, length, map, append-nil, Bool, true, false, Option, None, Some, ap, arith, refl, sym, subst, inl, inr}
use Rattle.std.specs.Prelude.{All, slice_get, if◌then◌else◌, MatchOption, IfSome}
use Rattle.std.specs.List.{filter_map, range_with_len}
use Rattle.std.specs.List.Sorted.{IsStrictlyIncreasing}
use Rattle.std.proofs.lemmas.Bool.{cases_lt}
use Rattle.std.proofs.lemmas.List.Elements.{All-nil, All-cons, All-head, All-tail, filter_map-append}
use Rattle.std.proofs.lemmas.List.FromFn.{length-range_with_len}
use Rattle.std.proofs.lemmas.Option.{slice_get_past, slice_get_cases}
use Rattle.sync_board.specs.Boards.{BoardState, kept_of, place_in}
use Rattle.lb_database.specs.Measuring.{elements}
use Rattle.chares.specs.declared.note.Mark.{Mark}
use Rattle.chares.specs.declared.note.Mark.TheVariants.{Synced, Resumed}
use Rattle.chares.specs.declared.note.Note.TheVariants.{Sync, Finish}
use Rattle.chares.specs.declared.progress.Progress.{Progress}
use Rattle.chares.specs.Letters.{Done}
use Rattle.chares.specs.Orders.{IsInOrder, Stop, stop_of, stops_until}
use Rattle.chares.specs.Orders.Stop.{AtSync, Resumes}
use Rattle.chares.proofs.Orders.{range_more}
use Rattle.round_marks.specs.Agreeing.{AgreesWith, IsMeasuredMark}
use Rattle.round_marks.specs.Marked.{AreMarked, IsMeasuredAs, IsResumption, IsResumptionMark, IsSyncMark, rounds_reached, rounds_resumed}
use Rattle.round_marks.proofs.Counts.{once_at_most}
use Rattle.round_marks.proofs.Own.{IsOwn}
use Rattle.round_marks.proofs.Rising.{Rise, rise_from_0}

-- the rounds of the stops
abbrev at_of : Stop → Option ℕ
at_of (AtSync r) = Some r
at_of (Resumes r) = None

abbrev res_of : Stop → Option ℕ
res_of (AtSync r) = None
res_of (Resumes r) = Some r

reached_by : (e : ℕ) (marks : List Mark) → All (IsOwn e) marks → rounds_reached marks ≡ filter_map at_of (map stop_of marks)
reached_by e [] h = refl
reached_by e (Synced (Sync i r units bytes pe) ∷ marks) h = ap (λ (v : List ℕ). r ∷ v) (reached_by e marks (All-tail (IsOwn e) _ _ h))
reached_by e (Synced (Finish i) ∷ marks) h = absurd (All-head (IsOwn e) _ _ h)
reached_by e (Resumed r pe ∷ marks) h = reached_by e marks (All-tail (IsOwn e) _ _ h)

resumed_by : (marks : List Mark) → rounds_resumed marks ≡ filter_map res_of (map stop_of marks)
resumed_by [] = refl
resumed_by (Synced note ∷ marks) = resumed_by marks
resumed_by (Resumed r pe ∷ marks) = ap (λ (v : List ℕ). r ∷ v) (resumed_by marks)

one_more : (a n last next : ℕ) → last ≡ a + n → next ≡ n + 1 → range_with_len a n ++ last ∷ [] ≡ range_with_len a next
one_more a n last next is next_is =
    ap (λ (v : ℕ). range_with_len a n ++ v ∷ []) is ∙ (sym (range_more a n) ∙ ap (range_with_len a) (sym next_is))

at_until : (r : ℕ) → filter_map at_of (stops_until r) ≡ range_with_len 1 r
at_until zero = refl
at_until (suc r) =
    filter_map-append at_of (stops_until r) (AtSync (suc r) ∷ Resumes (suc r) ∷ [])
    ∙ (ap (λ (v : List ℕ). v ++ suc r ∷ []) (at_until r) ∙ one_more 1 r (suc r) (suc r) (omega arith) (omega arith))

res_until : (r : ℕ) → filter_map res_of (stops_until r) ≡ range_with_len 0 (r + 1)
res_until zero = refl
res_until (suc r) =
    filter_map-append res_of (stops_until r) (AtSync (suc r) ∷ Resumes (suc r) ∷ [])
    ∙ (ap (λ (v : List ℕ). v ++ suc r ∷ []) (res_until r) ∙ one_more 0 (r + 1) (suc r) (suc r + 1) (omega arith) (omega arith))

-- it reached AtSync for the first rounds, and was resumed for as many or for one more, from its start on
pub record Turns (marks : List Mark) : Type 0 where
  pub synced : ℕ
  pub resumed : ℕ
  pub are_synced : rounds_reached marks ≡ range_with_len 1 synced
  pub are_resumed : rounds_resumed marks ≡ range_with_len 0 resumed
  pub in_turn : synced ≤ resumed

turns_by : (s y : Bool) (r : ℕ) (stops : List Stop) (marks : List Mark) → rounds_reached marks ≡ filter_map at_of stops → rounds_resumed marks ≡ filter_map res_of stops
    → stops ≡ (if s then stops_until r ++ (if y then AtSync (r + 1) ∷ [] else []) else []) → Turns marks
turns_by false y r stops marks at res is =
    record { synced = 0; resumed = 0; are_synced = at ∙ ap (filter_map at_of) is; are_resumed = res ∙ ap (filter_map res_of) is; in_turn = omega arith }
turns_by true false r stops marks at res is =
    record {
      synced = r;
      resumed = r + 1;
      are_synced = at ∙ (ap (filter_map at_of) is ∙ (filter_map-append at_of (stops_until r) [] ∙ (append-nil (filter_map at_of (stops_until r)) ∙ at_until r)));
      are_resumed = res ∙ (ap (filter_map res_of) is ∙ (filter_map-append res_of (stops_until r) [] ∙ (append-nil (filter_map res_of (stops_until r)) ∙ res_until r)));
      in_turn = omega arith;
    }
turns_by true true r stops marks at res is =
    record {
      synced = r + 1;
      resumed = r + 1;
      are_synced = at ∙ (ap (filter_map at_of) is ∙ (filter_map-append at_of (stops_until r) (AtSync (r + 1) ∷ [])
          ∙ (ap (λ (v : List ℕ). v ++ (r + 1) ∷ []) (at_until r) ∙ one_more 1 r (r + 1) (r + 1) (omega arith) refl)));
      are_resumed = res ∙ (ap (filter_map res_of) is ∙ (filter_map-append res_of (stops_until r) (AtSync (r + 1) ∷ []) ∙ (append-nil (filter_map res_of (stops_until r)) ∙ res_until r)));
      in_turn = omega arith;
    }

turns_of : (e : ℕ) (journal : List Done) (p : Progress) (marks : List Mark) → IsInOrder journal p marks → All (IsOwn e) marks → Turns marks
turns_of e journal p marks h own =
    turns_by p.started p.synced p.round (map stop_of marks) marks (reached_by e marks own) (resumed_by marks) h.stops

-- numbers one after the other rise
rise_range : (a n : ℕ) → Rise a (range_with_len a n)
rise_range a zero = tt
rise_range a (suc n) = (omega arith, rise_range (a + 1) n)

-- where all are at most a number, so is their end
range_ends : (most a n : ℕ) → All (λ q. q ≤ most) (range_with_len a n) → a ≤ most + 1 → a + n ≤ most + 1
range_ends most a zero h low = omega (arith, low)
range_ends most a (suc n) h low =
    let here : a ≤ most = All-head (λ q. q ≤ most) _ _ h in
    let rest = range_ends most (a + 1) n (All-tail (λ q. q ≤ most) _ _ h) (omega (arith, here)) in
    omega (arith, rest)

range_between : (most a n : ℕ) → 1 ≤ a → a + n ≤ most + 1 → All (λ q. (1 ≤ q) × (q ≤ most)) (range_with_len a n)
range_between most a zero low high = All-nil (λ q. (1 ≤ q) × (q ≤ most))
range_between most a (suc n) low high =
    All-cons (λ q. (1 ≤ q) × (q ≤ most)) a (range_with_len (a + 1) n) (low, omega (arith, high)) (range_between most (a + 1) n (omega arith) (omega (arith, high)))

module _ {A : Type 0} (b : BoardState A) (e home : ℕ) where
  -- it was resumed after rounds that are decided alone
  decided_before : (round pe : ℕ) → IsResumption b e home round pe → round ≤ length b.rounds
  decided_before zero pe h = omega arith
  decided_before (suc r) pe h =
      elim (cases_lt r (length b.rounds)) [
        | inl within ↦ omega (arith, within)
        | inr past ↦
            let none = slice_get_past b.rounds r past in
            let place = rw none at (h.place (omega arith)) in
            absurd (cc place)
      ]

  all_decided : (marks : List Mark) → All (IsResumptionMark b e home) marks → All (λ q. q ≤ length b.rounds) (rounds_resumed marks)
  all_decided [] h = All-nil (λ q. q ≤ length b.rounds)
  all_decided (Synced note ∷ marks) h = all_decided marks (All-tail (IsResumptionMark b e home) _ _ h)
  all_decided (Resumed round pe ∷ marks) h =
      All-cons (λ q. q ≤ length b.rounds) round (rounds_resumed marks) (decided_before round pe (All-head (IsResumptionMark b e home) _ _ h))
      (all_decided marks (All-tail (IsResumptionMark b e home) _ _ h))

  -- so a note is of a decided round, or of the one under way
  abbrev Near : ℕ → Type 0
  Near q = (1 ≤ q) × (q ≤ length b.rounds + 1)

  told_by : (round units bytes pe : ℕ) → Near round → IfSome (kept_of b.rounds round) (λ kept. IsMeasuredAs kept.0 e units bytes pe)
      → MatchOption (kept_of b.rounds round) (round ≡ length b.rounds + 1) (λ kept. IsMeasuredAs kept.0 e units bytes pe)
  told_by zero units bytes pe near h = absurd (omega (arith, near.0))
  told_by (suc r) units bytes pe near h =
      elim ((slice_get_cases b.rounds r).1) [
        | inl found ↦ rw (found.2) (rw (found.2) at h)
        | inr past ↦ rw (past.1) (omega (arith, past.0, near.1))
      ]

  told_of : (marks : List Mark) → All (IsOwn e) marks → All (IsMeasuredMark b e) marks → All Near (rounds_reached marks) → All (IsSyncMark b e) marks
  told_of [] own measured near = All-nil (IsSyncMark b e)
  told_of (Synced (Sync i round units bytes pe) ∷ marks) own measured near =
      All-cons (IsSyncMark b e) _ _ (All-head (IsOwn e) _ _ own, told_by round units bytes pe (All-head Near _ _ near) (All-head (IsMeasuredMark b e) _ _ measured))
      (told_of marks (All-tail (IsOwn e) _ _ own) (All-tail (IsMeasuredMark b e) _ _ measured) (All-tail Near _ _ near))
  told_of (Synced (Finish i) ∷ marks) own measured near = absurd (All-head (IsOwn e) _ _ own)
  told_of (Resumed round pe ∷ marks) own measured near =
      All-cons (IsSyncMark b e) _ _ tt (told_of marks (All-tail (IsOwn e) _ _ own) (All-tail (IsMeasuredMark b e) _ _ measured) near)

  -- all that the check asks for
  pub marked_of : (place : Option ℕ) (journal : List Done) (p : Progress) (marks : List Mark) → IsInOrder journal p marks → All (IsOwn e) marks
      → e < elements b.database → AgreesWith b e home place marks → AreMarked b e home place marks
  marked_of place journal p marks order own member h =
      let t = turns_of e journal p marks order own in
      let last : 0 + t.resumed ≤ length b.rounds + 1 =
      range_ends (length b.rounds) 0 t.resumed (rw t.are_resumed at (all_decided marks h.resumed)) (omega arith) in
      let near : All Near (rounds_reached marks) = rw t.are_synced (range_between (length b.rounds + 1) 1 t.synced (omega arith) (omega (arith, last, t.in_turn))) in
      record {
        member = member;
        synced = record {
          told = told_of marks own h.measured near;
          once = h.once;
          once_at_most = rw t.are_synced (once_at_most (length b.rounds + 1) 1 t.synced);
          in_order = t.are_synced ∙ ap (range_with_len 1) (sym (ap length t.are_synced ∙ length-range_with_len 1 t.synced));
        };
        resumed = h.resumed;
        resumed_in_order = rw t.are_resumed ((rise_from_0 (range_with_len 0 t.resumed)).0 (rise_range 0 t.resumed));
        stands = h.stands;
      }
