-- The first line of a checkpoint and the lines of its rounds: what is read of them.
use Rattle.std.proofs.Common.{◌≡◌, ℕ, ◌+◌, ◌^◌, ◌<◌, ◌≤◌, List, [], ◌∷◌, ◌++◌, Option, Some, None, sym, ap, ◌∙◌, refl, arith, append_assoc}
use Rattle.std.specs.Prelude.{codes}
use Rattle.std.specs.Option.{option_and_then}
use Rattle.std.specs.Fmt.{decimal}
use Rattle.std.proofs.lemmas.List.{append-nil}
use Rattle.tally.specs.declared.tally_limits.TheConstants.TallyLimits.{AMOUNTS}
use Rattle.workload.specs.Text.{line}
use Rattle.run_checkpoint.specs.declared.checkpoint.DecidedRound.{DecidedRound}
use Rattle.run_checkpoint.specs.declared.error.CheckpointError.TheVariants.{Form, Limit}
use Rattle.run_checkpoint.specs.declared.form.TheConstants.{DIGITS}
use Rattle.run_checkpoint.specs.Text.{IsDecided, decided_line, head_line}
use Rattle.run_checkpoint.specs.Faults.{IsBadHead, IsBadRound, IsHead, IsRoundForm, IsShort}
use Rattle.run_checkpoint.specs.Scanning.{behind, number_at, behind_number, head_at, round_at, RoundLine, behind_moved, behind_bottleneck, behind_round, IsFront}
use Rattle.run_checkpoint.proofs.Digits.{same_parts}
use Rattle.run_checkpoint.proofs.Words.{is_behind, is_number, IsNumberAt, number_reads}

-- a line with one number, and what is after it
pub lone_line : (word : List ℕ) (n : ℕ) (tail : List ℕ) → line word (n ∷ []) ++ tail ≡ word ++ (32 ∷ (decimal n ++ 10 ∷ tail))
lone_line word n tail =
    append_assoc word ((32 ∷ decimal n ++ []) ++ 10 ∷ []) tail
    ∙ ap (λ t. word ++ (32 ∷ t)) (append_assoc (decimal n ++ []) (10 ∷ []) tail ∙ ap (λ t. t ++ 10 ∷ tail) (append-nil (decimal n)))

-- the first line is read as it is
head_reads : (r : ℕ) (tail : List ℕ) → r < 10 ^ DIGITS → head_at (head_line r ++ tail) ≡ Some (r, tail)
head_reads r tail small =
    ap head_at (lone_line (codes "checkpoint") r tail)
    ∙ ap (option_and_then behind_number) (number_reads (codes "checkpoint ") r (10 ∷ tail) small refl)

-- and what is read is such a line
record IsHeadAt (bytes : List ℕ) (r : ℕ) (rest : List ℕ) : Type 0 where
  spelled : bytes ≡ head_line r ++ rest
  small : r < 10 ^ DIGITS

is_head : (bytes : List ℕ) (r : ℕ) (rest : List ℕ) → head_at bytes ≡ Some (r, rest) → IsHeadAt bytes r rest
is_head bytes r rest read = by (number_at (codes "checkpoint ") bytes) refl read
  where
    by_end : (n : ℕ) (after : List ℕ) (o : Option (List ℕ)) → IsNumberAt (codes "checkpoint ") bytes n after → behind (10 ∷ []) after ≡ o
        → ◌≡◌ {A = Option (ℕ × List ℕ)} (option_and_then (λ tail. Some (n, tail)) o) (Some (r, rest)) → IsHeadAt bytes r rest
    by_end n after None number none told = cc
    by_end n after (Some tail) number some told =
        let same = same_parts n r tail rest told in
        let whole : bytes ≡ head_line n ++ tail =
        number.spelled ∙ ap (λ t. codes "checkpoint " ++ (decimal n ++ t)) (is_behind (10 ∷ []) after tail some) ∙ sym (lone_line (codes "checkpoint") n tail) in
        record { spelled = rw (← same.0, ← same.1) whole; small = rw (← same.0) number.small }

    by : (o : Option (ℕ × List ℕ)) → number_at (codes "checkpoint ") bytes ≡ o → option_and_then behind_number o ≡ Some (r, rest) → IsHeadAt bytes r rest
    by None none told = cc
    by (Some (n, after)) some told = by_end n after (behind (10 ∷ []) after) (is_number (codes "checkpoint ") bytes n after some) refl told

pub no_head : (bytes : List ℕ) → head_at bytes ≡ None → IsBadHead bytes (Form 1)
no_head bytes none = (
  refl,
  λ r tail short spelled.
      let read : head_at bytes ≡ Some (r, tail) = ap head_at spelled ∙ head_reads r tail short in
      cc,
)

pub past_head : (bytes : List ℕ) (r : ℕ) (rest : List ℕ) → head_at bytes ≡ Some (r, rest) → AMOUNTS < r → IsBadHead bytes (Limit 1)
past_head bytes r rest read past =
    let is = is_head bytes r rest read in
    (refl, record { value = r; rest = rest; good = is.small; spelled = is.spelled; next = λ few. omega (arith, few, past) })

pub head_front : (bytes : List ℕ) (r : ℕ) (rest : List ℕ) → head_at bytes ≡ Some (r, rest) → r ≤ AMOUNTS → IsFront IsHead head_line bytes r rest
head_front bytes r rest read few = record { good = few; spelled = (is_head bytes r rest read).spelled }

-- the line of a round, and what is after it
round_parts : (r : ℕ) (d : DecidedRound) (tail : List ℕ) → decided_line r d ++ tail
    ≡ codes "round " ++ (decimal r ++ (codes " bottleneck " ++ (decimal d.bottleneck ++ (codes " moved " ++ (decimal d.moved ++ 10 ∷ tail)))))
round_parts r d tail = plain (codes "round ") (decimal r) (codes " bottleneck ") (decimal d.bottleneck) (codes " moved ") (decimal d.moved)
  where
    plain : (a r b x m y : List ℕ) → ((a ++ r) ++ (b ++ x ++ m ++ y ++ 10 ∷ [])) ++ tail ≡ a ++ (r ++ (b ++ (x ++ (m ++ (y ++ 10 ∷ tail)))))
    plain a r b x m y = simp append_assoc refl

said : ℕ → DecidedRound → List ℕ → RoundLine
said r d tail = record { round = r; bottleneck = d.bottleneck; moved = d.moved; rest = tail }

pub round_form : (d : DecidedRound) → IsDecided d → IsRoundForm d
round_form d is = record { bottleneck = omega (arith, is.bottleneck); moved = omega (arith, is.moved) }

round_reads : (r : ℕ) (d : DecidedRound) (tail : List ℕ) → r < 10 ^ DIGITS → IsRoundForm d → round_at (decided_line r d ++ tail) ≡ Some (said r d tail)
unfolding said
round_reads r d tail small short =
    let behind_b : List ℕ = codes " moved " ++ (decimal d.moved ++ 10 ∷ tail) in
    let behind_r : List ℕ = codes " bottleneck " ++ (decimal d.bottleneck ++ behind_b) in
    ap round_at (round_parts r d tail)
    ∙ ap (option_and_then behind_round) (number_reads (codes "round ") r behind_r small refl)
    ∙ ap (option_and_then (behind_bottleneck r)) (number_reads (codes " bottleneck ") d.bottleneck behind_b short.bottleneck refl)
    ∙ ap (option_and_then (behind_moved r d.bottleneck)) (number_reads (codes " moved ") d.moved (10 ∷ tail) short.moved refl)

-- what is read is such a line
abbrev of_line : RoundLine → DecidedRound
of_line l = record { bottleneck = l.bottleneck; moved = l.moved }

record IsRoundAt (bytes : List ℕ) (l : RoundLine) : Type 0 where
  spelled : bytes ≡ decided_line l.round (of_line l) ++ l.rest
  form : IsRoundForm (of_line l)

is_round : (bytes : List ℕ) (l : RoundLine) → round_at bytes ≡ Some l → IsRoundAt bytes l
is_round bytes l read = by_round (number_at (codes "round ") bytes) refl read
  where
    by_end : (r b m : ℕ) (behind_r behind_b behind_m : List ℕ) (o : Option (List ℕ)) → IsNumberAt (codes "round ") bytes r behind_r
        → IsNumberAt (codes " bottleneck ") behind_r b behind_b → IsNumberAt (codes " moved ") behind_b m behind_m → behind (10 ∷ []) behind_m ≡ o
        → option_and_then (λ rest. Some (record { round = r; bottleneck = b; moved = m; rest = rest })) o ≡ Some l → IsRoundAt bytes l
    by_end r b m behind_r behind_b behind_m None round bottleneck moved none told = cc
    by_end r b m behind_r behind_b behind_m (Some rest) round bottleneck moved some told =
        let line : RoundLine = record { round = r; bottleneck = b; moved = m; rest = rest } in
        let same : line ≡ l = cc in
        rw (← same) (record {
          spelled =
              round.spelled
              ∙ ap (λ t. codes "round " ++ (decimal r ++ t)) (bottleneck.spelled
              ∙ ap (λ t. codes " bottleneck " ++ (decimal b ++ t)) (moved.spelled ∙ ap (λ t. codes " moved " ++ (decimal m ++ t)) (is_behind (10 ∷ []) behind_m rest some)))
              ∙ sym (round_parts r (of_line line) rest);
          form = record { bottleneck = bottleneck.small; moved = moved.small };
        })

    by_moved : (r b : ℕ) (behind_r behind_b : List ℕ) (o : Option (ℕ × List ℕ)) → IsNumberAt (codes "round ") bytes r behind_r
        → IsNumberAt (codes " bottleneck ") behind_r b behind_b → number_at (codes " moved ") behind_b ≡ o → option_and_then (behind_moved r b) o ≡ Some l → IsRoundAt bytes l
    by_moved r b behind_r behind_b None round bottleneck none told = cc
    by_moved r b behind_r behind_b (Some (m, behind_m)) round bottleneck some told =
        by_end r b m behind_r behind_b behind_m (behind (10 ∷ []) behind_m) round bottleneck (is_number (codes " moved ") behind_b m behind_m some) refl told

    by_bottleneck : (r : ℕ) (behind_r : List ℕ) (o : Option (ℕ × List ℕ)) → IsNumberAt (codes "round ") bytes r behind_r
        → number_at (codes " bottleneck ") behind_r ≡ o → option_and_then (behind_bottleneck r) o ≡ Some l → IsRoundAt bytes l
    by_bottleneck r behind_r None round none told = cc
    by_bottleneck r behind_r (Some (b, behind_b)) round some told =
        by_moved r b behind_r behind_b (number_at (codes " moved ") behind_b) round (is_number (codes " bottleneck ") behind_r b behind_b some) refl told

    by_round : (o : Option (ℕ × List ℕ)) → number_at (codes "round ") bytes ≡ o → option_and_then behind_round o ≡ Some l → IsRoundAt bytes l
    by_round None none told = cc
    by_round (Some (r, behind_r)) some told =
        by_bottleneck r behind_r (number_at (codes " bottleneck ") behind_r) (is_number (codes "round ") bytes r behind_r some) refl told

-- bytes that begin with the line of a round, of which a line is read
same_line : (bytes : List ℕ) (r : ℕ) (d : DecidedRound) (tail : List ℕ) (l : RoundLine) → r < 10 ^ DIGITS → IsRoundForm d → bytes ≡ decided_line r d ++ tail
    → round_at bytes ≡ Some l → said r d tail ≡ l
same_line bytes r d tail l small short spelled read =
    let both : Some (said r d tail) ≡ Some l = sym (round_reads r d tail small short) ∙ ap round_at (sym spelled) ∙ read in
    cc

pub no_round : (bytes : List ℕ) (r : ℕ) → r < 10 ^ DIGITS → round_at bytes ≡ None → IsBadRound r bytes (Form (r + 1))
no_round bytes r small none = (
  refl,
  λ d tail form spelled.
      let read : round_at bytes ≡ Some (said r d tail) = ap round_at spelled ∙ round_reads r d tail small form in
      cc,
)

pub other_round : (bytes : List ℕ) (r : ℕ) (l : RoundLine) → r < 10 ^ DIGITS → round_at bytes ≡ Some l → (l.round ≡ r → ⊥) → IsBadRound r bytes (Form (r + 1))
unfolding said
other_round bytes r l small read other = (
  refl,
  λ d tail form spelled. other (sym (ap (λ (x : RoundLine). x.round) (same_line bytes r d tail l small form spelled read))),
)

pub past_round : (bytes : List ℕ) (r : ℕ) (l : RoundLine) → round_at bytes ≡ Some l → l.round ≡ r → ((l.bottleneck < 2 ^ 64) × (l.moved < 2 ^ 64) → ⊥)
    → IsBadRound r bytes (Limit (r + 1))
past_round bytes r l read round past =
    let is = is_round bytes l read in
    (refl, record { value = of_line l; rest = l.rest; good = is.form; spelled = rw (← round) is.spelled; next = λ good. past (good.bottleneck, good.moved) })

-- rounds with the same numbers are the same
equal : (e f : DecidedRound) → e.bottleneck ≡ f.bottleneck → e.moved ≡ f.moved → e ≡ f
equal e f b m = joined e.bottleneck f.bottleneck e.moved f.moved b m
  where
    joined : (x y v w : ℕ) → x ≡ y → v ≡ w → ◌≡◌ {A = DecidedRound} (record { bottleneck = x; moved = v }) (record { bottleneck = y; moved = w })
    joined x y v w one two = rw (one, two) refl

pub round_front : (bytes : List ℕ) (r : ℕ) (l : RoundLine) (d : DecidedRound) → round_at bytes ≡ Some l → l.round ≡ r → d.bottleneck ≡ l.bottleneck → d.moved ≡ l.moved
    → IsDecided d → IsFront IsDecided (decided_line r) bytes d l.rest
round_front bytes r l d read round bottleneck moved is =
    record { good = is; spelled = rw (← round, bottleneck, moved) (is_round bytes l read).spelled }

-- bytes begin with one first line at most
pub one_head : (r s : ℕ) (t u : List ℕ) → IsShort r → IsShort s → head_line r ++ t ≡ head_line s ++ u → (r ≡ s) × (t ≡ u)
one_head r s t u one other same = same_parts r s t u (sym (head_reads r t one) ∙ ap head_at same ∙ head_reads s u other)

-- and with one line of a round
pub one_round : (r : ℕ) (d e : DecidedRound) (t u : List ℕ) → r < 10 ^ DIGITS → IsRoundForm d → IsRoundForm e → decided_line r d ++ t ≡ decided_line r e ++ u
    → (d ≡ e) × (t ≡ u)
unfolding said
one_round r d e t u small one other same =
    let lines = same_line (decided_line r d ++ t) r e u (said r d t) small other same (round_reads r d t small one) in
    let b : d.bottleneck ≡ e.bottleneck = sym (ap (λ (x : RoundLine). x.bottleneck) lines) in
    let m : d.moved ≡ e.moved = sym (ap (λ (x : RoundLine). x.moved) lines) in
    (equal d e b m, sym (ap (λ (x : RoundLine). x.rest) lines))
