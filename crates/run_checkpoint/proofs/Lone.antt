-- Bytes have one fault at most, and the text of a checkpoint has none.
use Rattle.std.proofs.Common.{◌≡◌, ℕ, ◌+◌, ◌^◌, ◌<◌, ◌⊎◌, inl, inr, List, [], ◌∷◌, ◌++◌, length, sym, ap, subst, ◌∙◌, refl, arith, append_assoc}
use Rattle.std.specs.Prelude.{All}
use Rattle.std.proofs.lemmas.Bool.{cases_lt}
use Rattle.std.proofs.lemmas.List.Elements.{All-head, All-tail, All-weaker}
use Rattle.chare_index.specs.declared.limits.TheConstants.Limits.{PES}
use Rattle.workload.specs.declared.error.WorkError.{WorkError}
use Rattle.workload.specs.Text.{IsText, WorkloadView, workload_text}
use Rattle.workload.proofs.Texts.{one_workload}
use Rattle.workload.proofs.Texts.{no_fault as no_workload_fault, one_fault as one_workload_fault}
use Rattle.run_checkpoint.specs.declared.checkpoint.DecidedRound.{DecidedRound}
use Rattle.run_checkpoint.specs.declared.error.CheckpointError.{CheckpointError}
use Rattle.run_checkpoint.specs.declared.error.CheckpointError.TheVariants.{Form, Limit, Long, Read, OutOfMemory}
use Rattle.run_checkpoint.specs.declared.form.TheConstants.{DIGITS}
use Rattle.run_checkpoint.specs.Faults.{AreBadPlaces, AreBadRounds, AreFewRounds, AreItsPlaces, AreItsRounds, ArePlaces, AreRounds, IsApart, IsBadHead, IsBadLine, IsBadRound, IsBehind, IsBodyFault, IsFault, IsHead, IsLineFault, IsPlacesFault, IsRoundForm, IsShort, IsWorkFault, shifted}
use Rattle.run_checkpoint.specs.Text.{CheckpointView, IsCheckpointText, IsDecided, IsWithin, body_text, decided_line, head_line, places_line, round_lines}
use Rattle.run_checkpoint.proofs.Fronts.{one_head, one_round, round_form}
use Rattle.run_checkpoint.proofs.Lengths.{text_is_short}
use Rattle.run_checkpoint.proofs.PlacesLine.{one_places, places_form}

-- of two values whose texts begin the same bytes both are the same, and so is what follows
abbrev IsLone : {X : Type 0} → (X → Type 0) → (X → List ℕ) → Type 0
IsLone {X} Formed text = (x y : X) (t u : List ℕ) → Formed x → Formed y → text x ++ t ≡ text y ++ u → (x ≡ y) × (t ≡ u)

module _ {X : Type 0} (Formed Good : X → Type 0) (text : X → List ℕ) where
  -- a line has one fault at most
  one_bad : (number : ℕ) (bytes : List ℕ) (e f : CheckpointError) → IsBadLine Formed Good text number bytes e → IsBadLine Formed Good text number bytes f → e ≡ f
  one_bad number bytes (Form n) (Form m) one other = ap Form (one.0 ∙ sym other.0)
  one_bad number bytes (Form n) (Limit m) one other = absurd (one.1 other.1.value other.1.rest other.1.good other.1.spelled)
  one_bad number bytes (Form n) Long one other = absurd other
  one_bad number bytes (Form n) Read one other = absurd other
  one_bad number bytes (Form n) OutOfMemory one other = absurd other
  one_bad number bytes (Limit n) (Form m) one other = absurd (other.1 one.1.value one.1.rest one.1.good one.1.spelled)
  one_bad number bytes (Limit n) (Limit m) one other = ap Limit (one.0 ∙ sym other.0)
  one_bad number bytes (Limit n) Long one other = absurd other
  one_bad number bytes (Limit n) Read one other = absurd other
  one_bad number bytes (Limit n) OutOfMemory one other = absurd other
  one_bad number bytes Long f one other = absurd one
  one_bad number bytes Read f one other = absurd one
  one_bad number bytes OutOfMemory f one other = absurd one

  -- a good line has none
  not_bad : (number : ℕ) (bytes : List ℕ) (e : CheckpointError) (x : X) (t : List ℕ) → IsLone Formed text → Formed x → Good x → bytes ≡ text x ++ t
      → IsBadLine Formed Good text number bytes e → ⊥
  not_bad number bytes (Form n) x t lone formed good spelled bad = bad.1 x t formed spelled
  not_bad number bytes (Limit n) x t lone formed good spelled bad =
      let same = lone x bad.1.value t bad.1.rest formed bad.1.good (sym spelled ∙ bad.1.spelled) in
      bad.1.next (subst Good same.0 good)
  not_bad number bytes Long x t lone formed good spelled bad = bad
  not_bad number bytes Read x t lone formed good spelled bad = bad
  not_bad number bytes OutOfMemory x t lone formed good spelled bad = bad

module _ {X : Type 0} (Good : X → Type 0) (text : X → List ℕ) (lone : IsLone Good text) (Here : CheckpointError → Type 0) (Next : CheckpointError → X → List ℕ → Type 0) (bytes : List ℕ) where
  -- a part that is faulty, or good with a fault behind it, has one fault at most
  one_stage : ((e f : CheckpointError) → Here e → Here f → e ≡ f)
      → ((e : CheckpointError) (x : X) (t : List ℕ) → Good x → bytes ≡ text x ++ t → Here e → ⊥)
      → ((e f : CheckpointError) (x : X) (t : List ℕ) → Good x → Next e x t → Next f x t → e ≡ f)
      → (e f : CheckpointError) → Here e ⊎ IsBehind Good text (Next e) bytes → Here f ⊎ IsBehind Good text (Next f) bytes → e ≡ f
  one_stage one not next e f (inl here) (inl also) = one e f here also
  one_stage one not next e f (inl here) (inr other) = absurd (not e other.value other.rest other.good other.spelled here)
  one_stage one not next e f (inr first) (inl here) = absurd (not f first.value first.rest first.good first.spelled here)
  one_stage one not next e f (inr first) (inr second) =
      let same = lone first.value second.value first.rest second.rest first.good second.good (sym first.spelled ∙ second.spelled) in
      let also : Next f first.value first.rest = rw (same.0, same.1) second.next in
      next e f first.value first.rest first.good first.next also

  -- a good part with no fault behind it has none
  no_stage : (e : CheckpointError) (x : X) (t : List ℕ) → Good x → bytes ≡ text x ++ t → (Here e → ⊥) → (Next e x t → ⊥) → Here e ⊎ IsBehind Good text (Next e) bytes → ⊥
  no_stage e x t good spelled not next (inl here) = not here
  no_stage e x t good spelled not next (inr other) =
      let same = lone x other.value t other.rest good other.good (sym spelled ∙ other.spelled) in
      next (rw (same.0, same.1) other.next)

-- the first line
lone_head : IsLone IsShort head_line
lone_head r s t u one other same = one_head r s t u one other same

pub head_short : (r : ℕ) → IsHead r → IsShort r
head_short r few = omega (arith, few)

lone_good_head : IsLone IsHead head_line
lone_good_head r s t u one other same = one_head r s t u (head_short r one) (head_short s other) same

-- the lines of the rounds
joined : (v w : DecidedRound) (x y : List DecidedRound) → v ≡ w → x ≡ y → v ∷ x ≡ w ∷ y
joined v w x y one two = rw (one, two) refl

-- as many rounds with the same lines are the same
pub one_rounds : (r : ℕ) (a b : List DecidedRound) (t u : List ℕ) → r + length a < 10 ^ DIGITS → length a ≡ length b → All IsDecided a → All IsDecided b
    → round_lines r a ++ t ≡ round_lines r b ++ u → (a ≡ b) × (t ≡ u)
one_rounds r [] [] t u few counted one other same = (refl, same)
one_rounds r [] (e ∷ b) t u few counted one other same = absurd (omega arith)
one_rounds r (d ∷ a) [] t u few counted one other same = absurd (omega arith)
one_rounds r (d ∷ a) (e ∷ b) t u few counted one other same =
    let heads = one_round r d e (round_lines (r + 1) a ++ t) (round_lines (r + 1) b ++ u) (omega arith)
    (round_form d (All-head IsDecided d a one)) (round_form e (All-head IsDecided e b other))
    (sym (append_assoc (decided_line r d) (round_lines (r + 1) a) t) ∙ same ∙ append_assoc (decided_line r e) (round_lines (r + 1) b) u) in
    let later = one_rounds (r + 1) a b t u (omega arith) (omega arith) (All-tail IsDecided d a one) (All-tail IsDecided e b other) heads.1 in
    (joined d e a b heads.0 later.0, later.1)

lone_rounds : (count : ℕ) → IsHead count → IsLone (AreRounds count) (round_lines 1)
lone_rounds count few a b t u one other same =
    one_rounds 1 a b t u (omega (arith, few, one.counted)) (one.counted ∙ sym other.counted) one.all other.all same

-- where a line is faulty none of these lines goes on
bad_ends : (r : ℕ) (a b : List DecidedRound) (t u : List ℕ) (e : CheckpointError) → r + length b < 10 ^ DIGITS → length a < length b → All IsDecided a → All IsDecided b
    → round_lines r a ++ t ≡ round_lines r b ++ u → IsBadRound (r + length a) t e → ⊥
bad_ends r [] [] t u e few shorter one other same bad = omega arith
bad_ends r (d ∷ a) [] t u e few shorter one other same bad = omega arith
bad_ends r [] (d ∷ b) t u e few shorter one other same bad =
    let small : r < 10 ^ DIGITS = omega arith in
    let good : IsDecided d = All-head IsDecided d b other in
    let here : IsBadRound r t e = subst (λ n. IsBadRound n t e) (omega arith) bad in
    not_bad IsRoundForm IsDecided (decided_line r) (r + 1) t e d (round_lines (r + 1) b ++ u) (λ x y v w first second. one_round r x y v w small first second)
    (round_form d good) good (same ∙ append_assoc (decided_line r d) (round_lines (r + 1) b) u) here
bad_ends r (c ∷ a) (d ∷ b) t u e few shorter one other same bad =
    let heads = one_round r c d (round_lines (r + 1) a ++ t) (round_lines (r + 1) b ++ u) (omega arith)
    (round_form c (All-head IsDecided c a one)) (round_form d (All-head IsDecided d b other))
    (sym (append_assoc (decided_line r c) (round_lines (r + 1) a) t) ∙ same ∙ append_assoc (decided_line r d) (round_lines (r + 1) b) u) in
    let later : IsBadRound (r + 1 + length a) t e = subst (λ n. IsBadRound n t e) (omega arith) bad in
    bad_ends (r + 1) a b t u e (omega arith) (omega arith) (All-tail IsDecided c a one) (All-tail IsDecided d b other) heads.1 later

few_rounds : (count : ℕ) (a : List DecidedRound) → IsHead count → AreFewRounds count a → 1 + length a < 10 ^ DIGITS
few_rounds count a head few = omega (arith, head, few.few)

module _ (count : ℕ) (head : IsHead count) (bytes : List ℕ) where
  -- of the lines of rounds one at most is the first faulty one
  one_bad_round : (e f : CheckpointError) → AreBadRounds count bytes e → AreBadRounds count bytes f → e ≡ f
  one_bad_round e f one other =
      let a = one.value in
      let b = other.value in
      let same : round_lines 1 a ++ one.rest ≡ round_lines 1 b ++ other.rest = sym one.spelled ∙ other.spelled in
      let next : IsBadRound (1 + length a) one.rest e = subst (λ n. IsBadRound n one.rest e) (omega arith) one.next in
      let also : IsBadRound (1 + length b) other.rest f = subst (λ n. IsBadRound n other.rest f) (omega arith) other.next in
      elim (cases_lt (length a) (length b)) [
        | inl shorter ↦ absurd (bad_ends 1 a b one.rest other.rest e (few_rounds count b head other.good) shorter one.good.all other.good.all same next)
        | inr no_shorter ↦ elim (cases_lt (length b) (length a)) [
          | inl longer ↦ absurd (bad_ends 1 b a other.rest one.rest f (few_rounds count a head one.good) longer other.good.all one.good.all (sym same) also)
          | inr no_longer ↦
              let counted : length a ≡ length b = omega arith in
              let parts = one_rounds 1 a b one.rest other.rest (few_rounds count a head one.good) counted one.good.all other.good.all same in
              let again : IsBadRound (1 + length a) one.rest f = rw (counted, parts.1) also in
              one_bad IsRoundForm IsDecided (decided_line (1 + length a)) (1 + length a + 1) one.rest e f next again
        ]
      ]

  -- where all of them are good none is faulty
  not_bad_round : (e : CheckpointError) (all : List DecidedRound) (t : List ℕ) → AreRounds count all → bytes ≡ round_lines 1 all ++ t → AreBadRounds count bytes e → ⊥
  not_bad_round e all t are spelled bad =
      let next : IsBadRound (1 + length bad.value) bad.rest e = subst (λ n. IsBadRound n bad.rest e) (omega arith) bad.next in
      bad_ends 1 bad.value all bad.rest t e (omega (arith, head, are.counted)) (omega (arith, bad.good.few, are.counted)) bad.good.all are.all (sym bad.spelled ∙ spelled) next

-- the line of the places
lone_places : IsLone (All IsShort) places_line
lone_places p q t u one other same = one_places p q t u one other same

lone_good_places : IsLone ArePlaces places_line
lone_good_places p q t u one other same = one_places p q t u (places_form p one) (places_form q other) same

-- what the workload says
one_apart : (decided : List DecidedRound) (places : List ℕ) (w : WorkloadView) (e f : CheckpointError) → IsApart decided places w e → IsApart decided places w f → e ≡ f
one_apart decided places w (Limit n) (Limit m) (inl one) (inl other) = ap Limit (one.0 ∙ sym other.0)
one_apart decided places w (Limit n) (Limit m) (inl one) (inr other) = absurd (one.1 other.1)
one_apart decided places w (Limit n) (Limit m) (inr one) (inl other) = absurd (other.1 one.1)
one_apart decided places w (Limit n) (Limit m) (inr one) (inr other) = ap Limit (one.0 ∙ sym other.0)
one_apart decided places w (Limit n) (Form m) one other = absurd other
one_apart decided places w (Limit n) Long one other = absurd other
one_apart decided places w (Limit n) Read one other = absurd other
one_apart decided places w (Limit n) OutOfMemory one other = absurd other
one_apart decided places w (Form n) f one other = absurd one
one_apart decided places w Long f one other = absurd one
one_apart decided places w Read f one other = absurd one
one_apart decided places w OutOfMemory f one other = absurd one

not_apart : (decided : List DecidedRound) (places : List ℕ) (w : WorkloadView) (e : CheckpointError) → AreItsRounds decided w → AreItsPlaces places w
    → IsApart decided places w e → ⊥
not_apart decided places w (Limit n) rounds are (inl apart) = apart.1 rounds
not_apart decided places w (Limit n) rounds are (inr apart) = apart.2 are
not_apart decided places w (Form n) rounds are apart = apart
not_apart decided places w Long rounds are apart = apart
not_apart decided places w Read rounds are apart = apart
not_apart decided places w OutOfMemory rounds are apart = apart

module _ (decided : List DecidedRound) where
  one_work_fault : (places bytes : List ℕ) (e f : CheckpointError) → IsWorkFault decided places bytes e → IsWorkFault decided places bytes f → e ≡ f
  one_work_fault places bytes e f (inl one) (inl other) =
      one.told ∙ ap (λ (x : WorkError). shifted x (length decided + 2)) (one_workload_fault bytes one.fault other.fault one.has other.has) ∙ sym other.told
  one_work_fault places bytes e f (inl one) (inr other) = absurd (no_workload_fault other.workload bytes one.fault other.text one.has)
  one_work_fault places bytes e f (inr one) (inl other) = absurd (no_workload_fault one.workload bytes other.fault one.text other.has)
  one_work_fault places bytes e f (inr one) (inr other) =
      let same : one.workload ≡ other.workload = one_workload one.workload other.workload bytes one.text other.text in
      let also : IsApart decided places one.workload f = rw same other.apart in
      one_apart decided places one.workload e f one.apart also

  one_places_fault : (bytes : List ℕ) (e f : CheckpointError) → IsPlacesFault decided bytes e → IsPlacesFault decided bytes f → e ≡ f
  one_places_fault bytes =
      one_stage ArePlaces places_line lone_good_places (λ e. AreBadPlaces (length decided + 2) bytes e) (λ e places rest. IsWorkFault decided places rest e) bytes
      (one_bad (All IsShort) ArePlaces places_line (length decided + 2) bytes)
      (λ e places t are spelled. not_bad (All IsShort) ArePlaces places_line (length decided + 2) bytes e places t lone_places (places_form places are) are spelled)
      (λ e f places t are one other. one_work_fault places t e f one other)

one_body_fault : (rounds : ℕ) (bytes : List ℕ) → IsHead rounds → (e f : CheckpointError) → IsBodyFault rounds bytes e → IsBodyFault rounds bytes f → e ≡ f
one_body_fault rounds bytes few =
    one_stage (AreRounds rounds) (round_lines 1) (lone_rounds rounds few) (λ e. AreBadRounds rounds bytes e) (λ e decided rest. IsPlacesFault decided rest e) bytes
    (one_bad_round rounds few bytes)
    (λ e all t are spelled. not_bad_round rounds few bytes e all t are spelled)
    (λ e f decided t are one other. one_places_fault decided t e f one other)

one_line_fault : (bytes : List ℕ) (e f : CheckpointError) → IsLineFault bytes e → IsLineFault bytes f → e ≡ f
one_line_fault bytes =
    one_stage IsHead head_line lone_good_head (λ e. IsBadHead bytes e) (λ e rounds rest. IsBodyFault rounds rest e) bytes
    (one_bad IsShort IsHead head_line 1 bytes)
    (λ e rounds t few spelled. not_bad IsShort IsHead head_line 1 bytes e rounds t lone_head (head_short rounds few) few spelled)
    (λ e f rounds t few one other. one_body_fault rounds t few e f one other)

pub one_fault : (bytes : List ℕ) (e f : CheckpointError) → IsFault bytes e → IsFault bytes f → e ≡ f
one_fault bytes e f (inl one) (inl other) = one.0 ∙ sym other.0
one_fault bytes e f (inl one) (inr other) = absurd (omega (arith, one.1, other.0))
one_fault bytes e f (inr one) (inl other) = absurd (omega (arith, one.0, other.1))
one_fault bytes e f (inr one) (inr other) = one_line_fault bytes e f one.1 other.1

-- the places of a checkpoint within its limits
pub places_within : (c : CheckpointView) → IsWithin c → ArePlaces c.places
places_within c is =
    record {
      few = omega (arith, is.each_chare, is.workload.few_chares);
      all = All-weaker (λ (p : ℕ). p < c.workload.pes) (λ (p : ℕ). p < PES) (λ p below. omega (arith, below, is.workload.few_pes)) c.places is.placed;
    }

module _ (c : CheckpointView) (within : IsWithin c) (text : IsText c.workload (workload_text c.workload)) (e : CheckpointError) where
  no_work_fault : IsWorkFault c.decided c.places (workload_text c.workload) e → ⊥
  no_work_fault (inl bad) = no_workload_fault c.workload (workload_text c.workload) bad.fault text bad.has
  no_work_fault (inr other) =
      let same : other.workload ≡ c.workload = one_workload other.workload c.workload (workload_text c.workload) other.text text in
      let apart : IsApart c.decided c.places c.workload e = subst (λ w. IsApart c.decided c.places w e) same other.apart in
      not_apart c.decided c.places c.workload e within.few_rounds (record { each_chare = within.each_chare; placed = within.placed }) apart

  no_places_fault : IsPlacesFault c.decided (places_line c.places ++ workload_text c.workload) e → ⊥
  no_places_fault =
      let bytes : List ℕ = places_line c.places ++ workload_text c.workload in
      let are = places_within c within in
      no_stage ArePlaces places_line lone_good_places (λ f. AreBadPlaces (length c.decided + 2) bytes f) (λ f places rest. IsWorkFault c.decided places rest f) bytes
      e c.places (workload_text c.workload) are refl
      (not_bad (All IsShort) ArePlaces places_line (length c.decided + 2) bytes e c.places (workload_text c.workload) lone_places (places_form c.places are) are refl)
      no_work_fault

  no_body_fault : IsHead (length c.decided) → IsBodyFault (length c.decided) (body_text c) e → ⊥
  no_body_fault few =
      let bytes : List ℕ = body_text c in
      let rest : List ℕ = places_line c.places ++ workload_text c.workload in
      let are : AreRounds (length c.decided) c.decided = record { counted = refl; all = within.decided } in
      no_stage (AreRounds (length c.decided)) (round_lines 1) (lone_rounds (length c.decided) few) (λ f. AreBadRounds (length c.decided) bytes f)
      (λ f decided rest. IsPlacesFault decided rest f) bytes e c.decided rest are refl
      (not_bad_round (length c.decided) few bytes e c.decided rest are refl)
      no_places_fault

no_line_fault : (c : CheckpointView) (bytes : List ℕ) (e : CheckpointError) → IsCheckpointText c bytes → IsLineFault bytes e → ⊥
no_line_fault c bytes e is =
    let few : IsHead (length c.decided) = omega (arith, is.within.few_rounds, is.within.workload.few_rounds) in
    no_stage IsHead head_line lone_good_head (λ f. IsBadHead bytes f) (λ f rounds rest. IsBodyFault rounds rest f) bytes e (length c.decided) (body_text c) few is.spelled
    (not_bad IsShort IsHead head_line 1 bytes e (length c.decided) (body_text c) lone_head (head_short (length c.decided) few) few is.spelled)
    (no_body_fault c is.within is.workload e few)

pub no_fault : (c : CheckpointView) (bytes : List ℕ) (e : CheckpointError) → IsCheckpointText c bytes → IsFault bytes e → ⊥
no_fault c bytes e is (inl long) = omega (arith, text_is_short c bytes is, long.1)
no_fault c bytes e is (inr fault) = no_line_fault c bytes e is fault.1
