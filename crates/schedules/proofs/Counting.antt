-- Letters that are counted step by step: with those of one more step, and of a course that is done.
use Rattle.std.proofs.Common.{◌≡◌, ◌∙◌, ℕ, ◌+◌, ◌<◌, ◌≤◌, get_or, take, List, [], ◌∷◌, ◌++◌, length, None, Some, Result, sym, ap, subst, arith, append-nil, length-append}
use Rattle.std.specs.Prelude.{◌%◌, ◌^◌, ◌-◌, slice_get}
use Rattle.std.specs.List.{flat_map}
use Rattle.std.proofs.Math.Nat.{mod-add-mod, mod-eq_of_lt}
use Rattle.std.proofs.lemmas.Grind.{flat_map-append}
use Rattle.std.proofs.lemmas.List.{take_more}
use Rattle.sync_board.specs.declared.strategy.Strategy.{Strategy}
use Rattle.chares.specs.Steps.{Step}
use Rattle.chares.specs.declared.trace_entry.TraceEntry.{TraceEntry}
use Rattle.courses.specs.Courses.{Leads, Made, events_of, trace_of}
use Rattle.courses.proofs.Courses.{reaches}
use Rattle.pup_pack.specs.declared.error.PupError.{PupError}
use Rattle.rts_core.specs.Accounts.{IsCounted, IsTraced, Said, execution_of, executions, post_of, posts}
use Rattle.rts_core.specs.Worlds.{WorldView, opening_world}
use Rattle.rts_core.proofs.RunAccount.{counted, told}
use Rattle.schedules.specs.Counting.{Counts}
use Rattle.schedules.specs.Courses.{IsDone}
use Rattle.schedules.specs.declared.letter_count.LetterCount.{LetterCount}
use Rattle.schedules.proofs.Drawings.{last_is, last_more}

none_some : (made : Made) → None ≡ Some made → ⊥
none_some made e = cc

-- what entries say, one letter after another, with that of one more step
one_more : (said : TraceEntry → List Said) (before : List Made) (made : Made) (count next : ℕ) → count ≡ length (flat_map said (trace_of before)) % 2 ^ 64
    → next ≡ (count + length (flat_map said made.1)) % 2 ^ 64 → next ≡ length (flat_map said (trace_of (before ++ made ∷ []))) % 2 ^ 64
one_more said before made count next so_far more =
    let trace : trace_of (before ++ made ∷ []) ≡ trace_of before ++ made.1 =
    flat_map-append (λ (s : Made). s.1) before (made ∷ []) ∙ ap (λ l. trace_of before ++ l) (append-nil made.1) in
    let many : length (flat_map said (trace_of (before ++ made ∷ []))) ≡ length (flat_map said (trace_of before)) + length (flat_map said made.1) =
    ap (λ l. length (flat_map said l)) trace ∙ ap length (flat_map-append said (trace_of before) made.1)
    ∙ length-append (flat_map said (trace_of before)) (flat_map said made.1) in
    more
    ∙ ap (λ (n : ℕ). (n + length (flat_map said made.1)) % 2 ^ 64) so_far
    ∙ mod-add-mod (length (flat_map said (trace_of before))) (2 ^ 64) (length (flat_map said made.1))
    ∙ sym (ap (λ (n : ℕ). n % 2 ^ 64) many)

-- a count before the first entry, and with those of one more entry
pub starts : (n : ℕ) → n < 2 ^ 64 → n ≡ (n + 0) % 2 ^ 64
starts n fits =
    let same : n + 0 ≡ n = omega arith in
    sym (ap (λ (k : ℕ). k % 2 ^ 64) same ∙ mod-eq_of_lt fits)

pub entry_more : (said : TraceEntry → List Said) (entries : List TraceEntry) (i : ℕ) (d : TraceEntry) (start count more next : ℕ) → i < length entries
    → count ≡ (start + length (flat_map said (take i entries))) % 2 ^ 64 → more ≡ length (said (get_or entries i d)) → next ≡ (count + more) % 2 ^ 64
    → next ≡ (start + length (flat_map said (take (i + 1) entries))) % 2 ^ 64
entry_more said entries i d start count more next lt so_far one is =
    let entry = get_or entries i d in
    let split : flat_map said (take (i + 1) entries) ≡ flat_map said (take i entries) ++ said entry =
    ap (flat_map said) (take_more entries i d lt) ∙ flat_map-append said (take i entries) (entry ∷ [])
    ∙ ap (λ l. flat_map said (take i entries) ++ l) (append-nil (said entry)) in
    let many : length (flat_map said (take (i + 1) entries)) ≡ length (flat_map said (take i entries)) + length (said entry) =
    ap length split ∙ length-append (flat_map said (take i entries)) (said entry) in
    let sum : (start + length (flat_map said (take i entries))) + more ≡ start + length (flat_map said (take (i + 1) entries)) = omega (arith, many, one) in
    is
    ∙ ap (λ (n : ℕ). (n + more) % 2 ^ 64) so_far
    ∙ mod-add-mod (start + length (flat_map said (take i entries))) (2 ^ 64) more
    ∙ ap (λ (n : ℕ). n % 2 ^ 64) sum

-- the count with the letters of the last step
pub counts_last : (steps : List Made) (found : Made) (count next : LetterCount) → slice_get steps (length steps - 1) ≡ Some found
    → next.posted ≡ (count.posted + length (posts found.1)) % 2 ^ 64 → next.executed ≡ (count.executed + length (executions found.1)) % 2 ^ 64
    → (before : List Made) (made : Made) → steps ≡ before ++ made ∷ [] → Counts (trace_of before) count → Counts (trace_of steps) next
counts_last steps found count next got posted executed before made split so_far =
    let same : found ≡ made = last_is before steps made found split got in
    subst (λ (s : List Made). Counts (trace_of s) next) (sym split)
    (record {
      posted = one_more post_of before made count.posted next.posted so_far.posted
          (posted ∙ ap (λ (m : Made). (count.posted + length (posts m.1)) % 2 ^ 64) same);
      executed = one_more execution_of before made count.executed next.executed so_far.executed
          (executed ∙ ap (λ (m : Made). (count.executed + length (executions m.1)) % 2 ^ 64) same);
    })

-- a list with a last member is not empty
pub last_there : (steps : List Made) → slice_get steps (length steps - 1) ≡ None → (before : List Made) (made : Made) → steps ≡ before ++ made ∷ [] → ⊥
last_there steps none before made split =
    let some = subst (λ (s : List Made). slice_get s (length s - 1) ≡ Some made) (sym split) (last_more before made) in
    none_some made (sym none ∙ some)

-- where a course is done, as many letters were executed as were posted
pub balanced : {C A : Type 0} (step : Step C) (pack : C → List ℕ) (unpack : List ℕ → Result (C × ℕ) PupError) (pes : ℕ) (chares : List C) (strategy : Strategy) → 1 ≤ pes
    → (steps : List Made) (w : WorldView C A) (count : LetterCount) → Leads step pack unpack (opening_world pes chares strategy) steps w
    → Counts (trace_of steps) count → IsDone w → count.posted ≡ count.executed
balanced step pack unpack pes chares strategy some steps w count led counts done =
    let reached = reaches step pack unpack (opening_world pes chares strategy) w steps led in
    let traced : IsTraced w (trace_of steps) = told step pack unpack pes chares strategy some (events_of steps) (w, trace_of steps) reached in
    let all : IsCounted w = counted step pack unpack pes chares strategy some (events_of steps) (w, trace_of steps) reached in
    let same : length (posts (trace_of steps)) ≡ length (executions (trace_of steps)) = omega (arith, traced.posted, traced.executed, all, done.1) in
    counts.posted ∙ ap (λ (n : ℕ). n % 2 ^ 64) same ∙ sym counts.executed
