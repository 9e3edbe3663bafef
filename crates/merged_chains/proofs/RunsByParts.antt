-- The runs of a chain that comes part by part.
use Rattle.std.proofs.Common.{◌≡◌, ◌∙◌, ℕ, ◌+◌, ◌-◌, ◌<◌, ◌≤◌, ◌⊎◌, min, max, inl, inr, List, [], ◌∷◌, ◌++◌, length, slice_index, arith, refl, sym, subst}
use Rattle.std.proofs.lemmas.Bool.{cases_lt}
use Rattle.std.proofs.lemmas.List.{append-nil, append_assoc, get_or_append_left, get_or-append-add, get_or_push, length-append, length_push}
use Rattle.lb_snapshot.specs.Measured.{load}
use Rattle.merged_chains.specs.Lists.{AreRunsWithin}
use Rattle.merged_chains.specs.Merged.{AreRuns, RunOn}
use Rattle.merged_chains.specs.Windows.{AreEnds, AreOrdered, EndsRun, IsFirstBehind, IsNextEnd, IsWithin, KeepsStarts, StartWithin, WindowBounds}
use Rattle.merged_chains.proofs.MergedPeaks.{start_rises}
use Rattle.merged_chains.proofs.Parts.{load_front, load_next}

-- the runs of the elements up to this one
pub record RunsTo (loads runs starts : List ℕ) (upto : ℕ) : Type 0 where
  pub counted : length starts ≡ length runs + 1
  pub begins : slice_index starts 0 ≡ 0
  pub ends : slice_index starts (length runs) ≡ upto
  pub onward : (j : ℕ) → j < length runs → slice_index starts j < slice_index starts (j + 1)
  pub weighs : (j : ℕ) → j < length runs → slice_index runs j ≡ load loads (slice_index starts j) (slice_index starts (j + 1))

-- the runs of the parts before
pub runs_begin : (before part runs starts : List ℕ) (first : ℕ) → length before ≡ first → AreRuns before runs starts → RunsTo (before ++ part) (runs ++ []) (starts ++ []) first
runs_begin before part runs starts first e h =
    subst (λ list. RunsTo (before ++ part) list (starts ++ []) first) (sym (append-nil runs))
    (subst (λ list. RunsTo (before ++ part) runs list first) (sym (append-nil starts)) (record {
      counted = h.counted;
      begins = h.begins;
      ends = h.ends ∙ e;
      onward = h.onward;
      weighs = λ j inside. h.weighs j inside ∙ sym (load_front before part (slice_index starts j) (slice_index starts (j + 1))
          (omega (arith, h.onward j inside)) (omega (arith, start_rises before runs starts (j + 1) (length runs) h (omega arith) (omega arith), h.ends)));
    }))

-- one more run
pub runs_more : (xs runs starts : List ℕ) (upto end weight : ℕ) → RunsTo xs runs starts upto → upto < end → weight ≡ load xs upto end
    → RunsTo xs (runs ++ weight ∷ []) (starts ++ end ∷ []) end
runs_more xs runs starts upto end weight h onward weighs =
    record {
      counted = omega (arith, length_push runs weight, length_push starts end, h.counted);
      begins = get_or_append_left starts (end ∷ []) 0 0 (omega (arith, h.counted)) ∙ h.begins;
      ends = get_or_push starts end 0 (length (runs ++ weight ∷ [])) (omega (arith, length_push runs weight, h.counted));
      onward = λ j inside. elim (cases_lt j (length runs)) [
        | inl earlier ↦ omega (arith, h.onward j earlier, left j (omega arith), left (j + 1) (omega arith))
        | inr latest ↦
            let same : j ≡ length runs = omega (arith, length_push runs weight) in
            omega (arith, onward, subst (λ n. slice_index (starts ++ end ∷ []) n ≡ upto) (sym same) here, last j same)
      ];
      weighs = λ j inside. elim (cases_lt j (length runs)) [
        | inl earlier ↦ rw (left j (omega arith), left (j + 1) (omega arith)) (get_or_append_left runs (weight ∷ []) 0 j earlier ∙ h.weighs j earlier)
        | inr latest ↦
            let same : j ≡ length runs = omega (arith, length_push runs weight) in
            let from : slice_index (starts ++ end ∷ []) j ≡ upto = subst (λ n. slice_index (starts ++ end ∷ []) n ≡ upto) (sym same) here in
            rw (from, last j same) (get_or_push runs weight 0 j (sym same) ∙ weighs)
      ];
    }
  where
    left : (k : ℕ) → k ≤ length runs → slice_index (starts ++ end ∷ []) k ≡ slice_index starts k
    left k inside = get_or_append_left starts (end ∷ []) 0 k (omega (arith, h.counted))

    here : slice_index (starts ++ end ∷ []) (length runs) ≡ upto
    here = left (length runs) (omega arith) ∙ h.ends

    last : (k : ℕ) → k ≡ length runs → slice_index (starts ++ end ∷ []) (k + 1) ≡ end
    last k same = get_or_push starts end 0 (k + 1) (omega (arith, h.counted))

-- one more run of the part
pub part_more : (before part runs starts loads ends : List ℕ) (first begin end weight : ℕ) → length before ≡ first
    → RunsTo (before ++ part) (runs ++ loads) (starts ++ ends) begin → first ≤ begin → begin < end
    → weight ≡ load part (begin - first) (end - first) → RunsTo (before ++ part) (runs ++ (loads ++ weight ∷ [])) (starts ++ (ends ++ end ∷ [])) end
part_more before part runs starts loads ends first begin end weight e h from onward weighs =
    rw (← append_assoc runs loads (weight ∷ []), ← append_assoc starts ends (end ∷ [])) (runs_more (before ++ part) (runs ++ loads) (starts ++ ends) begin end weight h onward here)
  where
    one : first + (begin - first) ≡ begin
    one = omega arith

    other : first + (end - first) ≡ end
    other = omega arith

    here : weight ≡ load (before ++ part) begin end
    here =
        weighs ∙ sym (subst (λ n. load (before ++ part) begin n ≡ load part (begin - first) (end - first)) other
        (subst (λ n. load (before ++ part) n (first + (end - first)) ≡ load part (begin - first) (end - first)) one
        (load_next before part first (begin - first) (end - first) e (omega arith))))

-- the runs of all elements so far
pub runs_end : (xs runs starts : List ℕ) (upto : ℕ) → RunsTo xs runs starts upto → upto ≡ length xs → AreRuns xs runs starts
runs_end xs runs starts upto h e =
    record {
      counted = h.counted;
      begins = h.begins;
      ends = h.ends ∙ e;
      onward = h.onward;
      weighs = h.weighs;
    }

-- before the first run of a part
pub ends_none : (lower upper : List ℕ) (first last : ℕ) → AreEnds lower upper first last first []
ends_none lower upper first last =
    record {
      only = λ j inside. absurd (omega arith);
      each = λ element h within. absurd (omega (arith, h.0, within));
    }

-- one more end
pub ends_more : (lower upper ends : List ℕ) (first last begin end : ℕ) → AreEnds lower upper first last begin ends → first ≤ begin
    → IsNextEnd lower upper begin last end → AreEnds lower upper first last end (ends ++ end ∷ [])
ends_more lower upper ends first last begin end h from next =
    record {
      only = λ j inside. elim (cases_lt j (length ends)) [
        | inl earlier ↦ subst (EndsRun lower upper first last) (sym (get_or_append_left ends (end ∷ []) 0 j earlier)) (h.only j earlier)
        | inr latest ↦ subst (EndsRun lower upper first last) (sym (get_or_push ends end 0 j (omega (arith, length_push ends end))))
            (omega (arith, next.ends.0), next.ends.1, next.ends.2)
      ];
      each = λ element found within. elim (cases_lt begin element) [
        | inl behind ↦
            let same : element ≡ end = omega (arith, within, next.next element (behind, found.1, found.2)) in
            (length ends, omega (arith, length_push ends end), get_or_push ends end 0 (length ends) refl ∙ sym same)
        | inr earlier ↦
            let place = h.each element found earlier in
            (place.0, omega (arith, place.1, length_push ends end), get_or_append_left ends (end ∷ []) 0 place.0 place.1 ∙ place.2)
      ];
    }

-- each element of a window begins a run, in the part too
pub starts_kept : (lower upper starts ends : List ℕ) (first last : ℕ) → AreEnds lower upper first last last ends
    → StartWithin lower upper first starts → StartWithin lower upper last (starts ++ ends)
starts_kept lower upper starts ends first last h kept element inside within =
    elim (cases_lt first element) [
      | inl behind ↦
          let place = h.each element (behind, inside, inl within) inside in
          (length starts + place.0, omega (arith, place.1, length-append starts ends), get_or-append-add starts ends place.0 0 ∙ place.2)
      | inr before ↦
          let place = kept element before within in
          (place.0, omega (arith, place.1, length-append starts ends), get_or_append_left starts ends 0 place.0 (omega (arith, place.1)) ∙ place.2)
    ]

-- the first window behind an element gives the next end
pub next_by_window : (lower upper : List ℕ) (window element last end : ℕ) → AreOrdered lower upper → IsFirstBehind upper element window
    → element < last → window < length lower → end ≡ min (max (slice_index lower window) (element + 1)) last → IsNextEnd lower upper element last end
next_by_window lower upper window element last end ordered first before inside end_is =
    record { ends = (omega (arith, end_is), omega (arith, end_is), place); next = next }
  where
    reaches : element < slice_index upper window
    reaches = first.behind (omega (arith, ordered.paired))

    place : IsWithin lower upper end ⊎ (end ≡ last)
    place = elim (cases_lt end last) [
      | inl early ↦ inl (window, inside, omega (arith, end_is), omega (arith, end_is, reaches, ordered.some_element window inside))
      | inr late ↦ inr (omega (arith, end_is, late))
    ]

    by_place : (other : ℕ) → element < other → other ≤ last → IsWithin lower upper other ⊎ (other ≡ last) → end ≤ other
    by_place other behind within (inr same) = omega (arith, end_is, same)
    by_place other behind within (inl (k, few, from, to)) =
        elim (cases_lt k window) [
          | inl earlier ↦ absurd (omega (arith, behind, to, first.before k earlier))
          | inr later ↦ omega (arith, end_is, behind, from, ordered.lower_rises window k 0 later few)
        ]

    next : (other : ℕ) → EndsRun lower upper element last other → end ≤ other
    next other found = by_place other found.0 found.1 found.2

-- and the end of the part is the next one where there is no such window
pub next_at_last : (lower upper : List ℕ) (window element last : ℕ) → AreOrdered lower upper → IsFirstBehind upper element window
    → element < last → window ≡ length lower → IsNextEnd lower upper element last last
next_at_last lower upper window element last ordered first before none =
    record { ends = (before, omega arith, inr refl); next = next }
  where
    by_place : (other : ℕ) → element < other → IsWithin lower upper other ⊎ (other ≡ last) → last ≤ other
    by_place other behind (inr same) = omega (arith, same)
    by_place other behind (inl (k, few, from, to)) =
        absurd (omega (arith, behind, to, first.before k (omega (arith, few, none))))

    next : (other : ℕ) → EndsRun lower upper element last other → last ≤ other
    next other found = by_place other found.0 found.2

-- the ends of all runs, by the names of the windows
pub same_ends : (lower upper lower' upper' ends : List ℕ) (first last begin all : ℕ) → lower ≡ lower' → upper ≡ upper' → last ≡ all
    → begin ≡ all → AreEnds lower upper first last begin ends → AreEnds lower' upper' first all all ends
same_ends lower upper lower' upper' ends first last begin all lower_is upper_is last_is begin_is h =
    subst (λ list. AreEnds list upper' first all all ends) lower_is
    (subst (λ list. AreEnds lower list first all all ends) upper_is
    (subst (λ n. AreEnds lower upper first n all ends) last_is (subst (λ n. AreEnds lower upper first last n ends) begin_is h)))

-- the runs of a part, by other names of the part and its windows
pub runs_within : (part loads : List ℕ) (first : ℕ) (windows : WindowBounds) (lower upper runs ends : List ℕ) → part ≡ loads
    → windows ≡ record { lower = lower; upper = upper } → length runs ≡ length ends → RunOn part first runs ends
    → AreEnds windows.lower windows.upper first (first + length part) (first + length part) ends
    → KeepsStarts windows.lower windows.upper first (first + length part) ends → AreRunsWithin loads first lower upper runs ends
runs_within part loads first windows lower upper runs ends part_is windows_are paired run_on ends_at kept =
    let found : AreRunsWithin part first windows.lower windows.upper runs ends = record { paired = paired; run_on = run_on; ends_at = ends_at; kept = kept } in
    subst (λ (w : WindowBounds). AreRunsWithin loads first w.lower w.upper runs ends) windows_are
    (subst (λ l. AreRunsWithin l first windows.lower windows.upper runs ends) part_is found)
