-- A decision that was made of its bytes, up to its moves.
use Rattle.std.proofs.Common.{◌≡◌, ℕ, ◌+◌, ◌-◌, ◌*◌, ◌<◌, ◌≤◌, List, [], ◌++◌, length, replicate, ap, sym, ◌∙◌, subst, inl, inr, ◌⊎◌, lit<, arith, length-append, append_assoc, All}
use Rattle.std.proofs.lemmas.Bool.{cases_lt}
use Rattle.std.proofs.lemmas.List.{length-replicate}
use Rattle.std.proofs.lemmas.List.Elements.{All-nil, All-replicate}
use Rattle.chare_index.specs.declared.limits.TheConstants.Limits.{ELEMENTS, PES}
use Rattle.lb_certificates.specs.declared.division.Floor.{Floor}
use Rattle.lb_certificates.specs.declared.division.Floor.TheVariants.{Zero, Fence}
use Rattle.dump_format.specs.Dumps.{AreFields, IsRecorded}
use Rattle.dump_format.specs.Fields.{decision, ending, moves}
use Rattle.dump_format.specs.Layout.{End, judge}
use Rattle.dump_format.specs.Text.{word, plan_text}
use Rattle.dump_format.specs.declared.recorded.Recorded.{Recorded}
use Rattle.dump_format.proofs.Judging.{decision_taken, no_decision_taken, plan_taken}
use Rattle.dump_format.proofs.Spelling.{plan_length, stops_bytes}
use Rattle.lb_dump.specs.Plans.{IsMade, floor_kind, plan_bytes, plan_len, word_at}

-- from what the calls of the reader read
pub made_by : {A : Type 0} (bytes : List ℕ) (count : ℕ) (r : Recorded A) (m end : ℕ) → bytes ≡ word 1
    ++ plan_bytes r (word_at bytes (length bytes - 4)) → ((elements : ℕ) → IsRecorded elements r) → AreFields r → r.decision.moves ≡ []
    → length bytes ≡ end → m ≡ word_at bytes (end - 4) → m ≤ count → IsMade bytes count r m
made_by bytes count r m end spelled recorded fields none whole is few =
    record {
      spelled = spelled ∙ ap (λ n. word 1 ++ plan_bytes r n) (ap (λ n. word_at bytes (n - 4)) whole ∙ sym is);
      recorded = recorded count;
      fields = fields;
      no_moves = none;
      few_moves = few;
    }

-- A decision filled with as many moves as are to follow: the judgement of the text before the moves does not depend on them.
abbrev filled : {A : Type 0} → Recorded A → ℕ → Recorded A
filled r m = record r { decision = record r.decision { moves = replicate m (0, 0, 0) } }

filled_text : {A : Type 0} (r : Recorded A) (m : ℕ) → plan_bytes r m ≡ plan_text (filled r m)
unfolding plan_text
filled_text r m = ap (plan_bytes r) (sym (length-replicate m (0, 0, 0)))

filled_elements : (count m : ℕ) → m ≤ count → All (λ (move : ℕ × ℕ × ℕ). move.0 < count) (replicate m (0, 0, 0))
filled_elements count m few = by (cases_lt 0 count)
  where
    by : (0 < count) ⊎ (count ≤ 0) → All (λ (move : ℕ × ℕ × ℕ). move.0 < count) (replicate m (0, 0, 0))
    by (inl some) = All-replicate (λ (move : ℕ × ℕ × ℕ). move.0 < count) m (0, 0, 0) some
    by (inr none) =
        let zero : 0 ≡ m = omega arith in
        subst (λ n. All (λ (move : ℕ × ℕ × ℕ). move.0 < count) (replicate n (0, 0, 0))) zero (All-nil (λ (move : ℕ × ℕ × ℕ). move.0 < count))

filled_recorded : {A : Type 0} (count : ℕ) (r : Recorded A) (m : ℕ) → IsRecorded count r → m ≤ count → IsRecorded count (filled r m)
filled_recorded count r m is few =
    record {
      some_target = is.some_target;
      few_targets = is.few_targets;
      cuts = is.cuts;
      stops = is.stops;
      names = is.names;
      block_prices = is.block_prices;
      pe_prices = is.pe_prices;
      few_moves = subst (λ n. n ≤ count) (sym (length-replicate m (0, 0, 0))) few;
      moved_elements = filled_elements count m few;
    }

filled_fields : {A : Type 0} (r : Recorded A) (m : ℕ) → AreFields r → AreFields (filled r m)
filled_fields r m fields =
    record {
      bottleneck = fields.bottleneck;
      cuts = fields.cuts;
      stops = fields.stops;
      names = fields.names;
      block_prices = fields.block_prices;
      pe_prices = fields.pe_prices;
      moved = fields.moved;
      present = All-replicate (λ (move : ℕ × ℕ × ℕ). move.1 < PES) m (0, 0, 0) (lit< tt);
      planned = All-replicate (λ (move : ℕ × ℕ × ℕ). move.2 < PES) m (0, 0, 0) (lit< tt);
    }

-- the moves of a decision follow its bytes
pub made_judged : {A : Type 0} (count : ℕ) (r : Recorded A) (m : ℕ) (bytes more : List ℕ) → count ≤ ELEMENTS → IsMade bytes count r m
    → judge (ending count) (bytes ++ more) ≡ judge (moves count 0 m) more
made_judged count r m bytes more few made =
    ap (λ it. judge (ending count) (it ++ more)) made.spelled
    ∙ ap (judge (ending count)) (append_assoc (word 1) (plan_bytes r m) more)
    ∙ decision_taken count (plan_bytes r m ++ more)
    ∙ ap (λ it. judge (decision count) (it ++ more)) (filled_text r m)
    ∙ plan_taken count (filled r m) more (filled_recorded count r m made.recorded made.few_moves) (filled_fields r m made.fields) few
    ∙ ap (λ n. judge (moves count 0 n) more) (length-replicate m (0, 0, 0))

-- after a flag of 0 the text ends
pub none_judged : (count : ℕ) (more : List ℕ) → judge (ending count) (word 0 ++ more) ≡ judge End more
none_judged count more = no_decision_taken count more

stops_are : {A : Type 0} (floor : Floor A) (target : ℕ) → 36 + 24 * target + stops_bytes floor target ≡ plan_len target (floor_kind floor)
stops_are Zero target = omega arith
stops_are (Fence stops) target = omega arith

-- the length of the bytes of a decision, up to its moves
pub made_length : {A : Type 0} (bytes : List ℕ) (count : ℕ) (r : Recorded A) (m : ℕ) → IsMade bytes count r m
    → length bytes ≡ plan_len r.target (floor_kind r.decision.division.floor)
made_length bytes count r m made =
    let recorded : IsRecorded count (filled r m) = filled_recorded count r m made.recorded made.few_moves in
    let plan : length (plan_bytes r m) ≡ 32 + 24 * r.target + stops_bytes r.decision.division.floor r.target = ap length (filled_text r m)
    ∙ plan_length count (filled r m) recorded in
    ap length made.spelled ∙ (length-append (word 1) (plan_bytes r m) ∙ (ap (λ n. 4 + n) plan ∙ (omega arith ∙ stops_are r.decision.division.floor r.target)))
