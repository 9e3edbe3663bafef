-- Events and lines that are added one at a time.
use Rattle.std.proofs.Common.{◌≡◌, ℕ, ◌+◌, ◌-◌, ◌<◌, ◌≤◌, List, [], ◌∷◌, ◌++◌, length, take, get_or, map, sym, ap, subst, ◌∙◌, append_assoc, arith}
use Rattle.std.proofs.lemmas.List.{flat_map_more, take_more}
use Rattle.std.proofs.lemmas.List.FromFn.{map-range_with_len_more}
use Rattle.std.specs.List.{flat_map, range_with_len}
use Rattle.run_trace.specs.declared.event.TraceEvent.{TraceEvent}
use Rattle.run_trace.specs.declared.event.TraceEvent.TheVariants.{Row}
use Rattle.run_trace.specs.Lines.{AddsLine, AddsLines, more}
use Rattle.lb_snapshot.specs.Measured.{Taken}
use Rattle.run_trace.specs.Shown.{load_event, post_event, post_events, rows}

-- one more row
pub rows_more : (before : List TraceEvent) (pe : ℕ) → (before ++ rows pe) ++ Row pe ∷ [] ≡ before ++ rows (pe + 1)
rows_more before pe =
    append_assoc before (rows pe) (Row pe ∷ []) ∙ ap (λ xs. before ++ xs) (sym (map-range_with_len_more Row 0 pe pe (omega arith)))

-- one more letter
pub posts_more : (before : List TraceEvent) (at pe first n : ℕ) → first ≤ n
    → (before ++ post_events at pe first n) ++ post_event at pe n ∷ [] ≡ before ++ post_events at pe first (n + 1)
posts_more before at pe first n le =
    let one : (n + 1) - first ≡ (n - first) + 1 = omega arith in
    let line : map (post_event at pe) (range_with_len first (n - first)) ++ post_event at pe n ∷ [] ≡ map (post_event at pe) (range_with_len first ((n + 1) - first))
    = rw one (sym (map-range_with_len_more (post_event at pe) first (n - first) n (omega arith))) in
    append_assoc before (post_events at pe first n) (post_event at pe n ∷ []) ∙ ap (λ xs. before ++ xs) line

-- one more line
pub lines_more : (events : List TraceEvent) (i : ℕ) (d : TraceEvent) (before old new : List ℕ) → i < length events
    → AddsLines before (take i events) old → AddsLine old (get_or events i d) new → AddsLines before (take (i + 1) events) new
lines_more events i d before old new inside were now = subst (λ es. AddsLines before es new) (sym (take_more events i d inside)) (more were now)

-- the load of one more PE
pub loads_more : (before : List TraceEvent) (at : ℕ) (snapshot : Taken) (pe : ℕ)
    → (before ++ map (load_event at snapshot) (range_with_len 0 pe)) ++ load_event at snapshot pe ∷ [] ≡ before ++ map (load_event at snapshot) (range_with_len 0 (pe + 1))
loads_more before at snapshot pe =
    append_assoc before (map (load_event at snapshot) (range_with_len 0 pe)) (load_event at snapshot pe ∷ [])
    ∙ ap (λ xs. before ++ xs) (sym (map-range_with_len_more (load_event at snapshot) 0 pe pe (omega arith)))

-- what one more item adds
pub all_more : {X : Type 0} (f : X → List TraceEvent) (before : List TraceEvent) (xs : List X) (i : ℕ) (item : X) → i < length xs
    → item ≡ get_or xs i item → (before ++ flat_map f (take i xs)) ++ f item ≡ before ++ flat_map f (take (i + 1) xs)
all_more f before xs i item inside is =
    ap (λ it. (before ++ flat_map f (take i xs)) ++ f it) is
    ∙ flat_map_more f before (take i xs) (get_or xs i item)
    ∙ ap (λ ys. before ++ flat_map f ys) (sym (take_more xs i item inside))
