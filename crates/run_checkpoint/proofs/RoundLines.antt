-- The lines of the rounds, one after another.
use Rattle.std.proofs.Common.{◌≡◌, ℕ, ◌+◌, ◌<◌, List, [], ◌∷◌, ◌++◌, length, sym, ap, subst, ◌∙◌, refl, arith, append_assoc}
use Rattle.std.specs.Prelude.{All}
use Rattle.std.proofs.lemmas.List.{append-nil, length_push}
use Rattle.std.proofs.lemmas.List.Elements.{All-nil, All-push}
use Rattle.run_checkpoint.specs.declared.checkpoint.DecidedRound.{DecidedRound}
use Rattle.run_checkpoint.specs.declared.error.CheckpointError.{CheckpointError}
use Rattle.run_checkpoint.specs.Text.{IsDecided, decided_line, round_lines}
use Rattle.run_checkpoint.specs.Faults.{AreBadRounds, AreRounds, IsBadRound}
use Rattle.run_checkpoint.specs.Scanning.{IsFront}

-- the lines of these rounds, and one more
pub lines_more : (r : ℕ) (decided : List DecidedRound) (d : DecidedRound) → round_lines r (decided ++ d ∷ []) ≡ round_lines r decided ++ decided_line (r + length decided) d
lines_more r [] d = append-nil (decided_line r d) ∙ ap (λ n. decided_line n d) (omega arith)
lines_more r (e ∷ decided) d =
    ap (λ t. decided_line r e ++ t) (lines_more (r + 1) decided d ∙ ap (λ n. round_lines (r + 1) decided ++ decided_line n d) (omega arith))
    ∙ sym (append_assoc (decided_line r e) (round_lines (r + 1) decided) (decided_line (r + length (e ∷ decided)) d))

-- the first i of this many rounds are read
pub record Before (bytes : List ℕ) (decided : List DecidedRound) (i : ℕ) (rest : List ℕ) : Type 0 where
  pub spelled : bytes ≡ round_lines 1 decided ++ rest
  pub counted : length decided ≡ i
  pub good : All IsDecided decided

pub none_before : (bytes : List ℕ) (decided : List DecidedRound) → decided ≡ [] → Before bytes decided 0 bytes
none_before bytes decided empty = rw empty (record { spelled = refl; counted = refl; good = All-nil IsDecided })

-- the next line is that of a round
pub one_more : (bytes : List ℕ) (decided decided' : List DecidedRound) (i : ℕ) (rest after : List ℕ) (d : DecidedRound) → Before bytes decided i rest
    → IsFront IsDecided (decided_line (i + 1)) rest d after → decided' ≡ decided ++ d ∷ [] → Before bytes decided' (i + 1) after
one_more bytes decided decided' i rest after d before front pushed =
    rw pushed (record {
      spelled = whole;
      counted = length_push decided d ∙ ap (λ n. n + 1) before.counted;
      good = All-push IsDecided decided d before.good front.good;
    })
  where
    numbered : 1 + length decided ≡ i + 1
    numbered = omega (arith, before.counted)

    whole : bytes ≡ round_lines 1 (decided ++ d ∷ []) ++ after
    whole =
        before.spelled
        ∙ ap (λ t. round_lines 1 decided ++ t) front.spelled
        ∙ sym (append_assoc (round_lines 1 decided) (decided_line (i + 1) d) after)
        ∙ ap (λ t. t ++ after) (ap (λ n. round_lines 1 decided ++ decided_line n d) (sym numbered) ∙ sym (lines_more 1 decided d))

-- all of them are read
pub all_read : (count : ℕ) (bytes : List ℕ) (decided : List DecidedRound) (i : ℕ) (rest : List ℕ) → Before bytes decided i rest → i ≡ count
    → IsFront (AreRounds count) (round_lines 1) bytes decided rest
all_read count bytes decided i rest before end_ =
    record { good = record { counted = before.counted ∙ end_; all = before.good }; spelled = before.spelled }

-- the next line is faulty
pub not_rounds : (count : ℕ) (bytes : List ℕ) (decided : List DecidedRound) (i : ℕ) (rest : List ℕ) (e : CheckpointError) → Before bytes decided i rest → i < count
    → IsBadRound (i + 1) rest e → AreBadRounds count bytes e
not_rounds count bytes decided i rest e before inside bad =
    record {
      value = decided;
      rest = rest;
      good = record { few = omega (arith, inside, before.counted); all = before.good };
      spelled = before.spelled;
      next = subst (λ n. IsBadRound (n + 1) rest e) (sym before.counted) bad;
    }
