-- A dump has one text of a format, a text is that of one dump, and bytes have one first fault, or are whole and have none.
use Rattle.std.proofs.Common.{◌≡◌, ℕ, ◌+◌, ◌^◌, ◌<◌, ◌≤◌, List, [], ◌++◌, length, get_or, drop, Option, Some, None, inl, inr, refl, ap, sym, ◌∙◌, arith}
use Rattle.std.specs.Prelude.{All, flat_map}
use Rattle.std.specs.Int.{Width, w32, w64}
use mir.Val.{bits}
use Rattle.std.proofs.lemmas.List.{append-nil}
use Rattle.std.proofs.lemmas.List.Elements.{All-weaker}
use Rattle.std.proofs.lemmas.Nat.{from_be_bytes-to_be_bytes_4, from_be_bytes-to_be_bytes_8}
use Rattle.chare_index.specs.declared.limits.TheConstants.Limits.{ELEMENTS, LOAD}
use Rattle.lb_snapshot.specs.Measured.{Taken}
use Rattle.dump_format.specs.Dumps.{AreFields, Dumped, IsRecorded, IsSnapshot, MayFit, MayRecord}
use Rattle.dump_format.specs.Faults.{IsBroken, IsFault, IsGood, IsWhole, fault_found}
use Rattle.dump_format.specs.Fields.{dump, elements, ending, moves}
use Rattle.dump_format.specs.Kept.{AreKept}
use Rattle.dump_format.specs.Layout.{End, Layout, Whole, judge}
use Rattle.dump_format.specs.Text.{IsLbd1, IsLbd2, IsText, elements_text, ending_text, head_text, move_text, plan_text}
use Rattle.dump_format.specs.declared.error.DumpError.{DumpError}
use Rattle.dump_format.specs.declared.recorded.Recorded.{Recorded}
use Rattle.dump_format.proofs.Judging.{broken_stays, decision_taken, elements_taken_long, elements_taken_word, head_taken_1, head_taken_2, moves_taken, no_decision_taken, plan_taken}
use Rattle.dump_format.proofs.SameDumps.{same_ending, same_snapshots}

-- the elements of a snapshot are some that a text may have
pub kept : (w : Width) (s : Taken) → IsSnapshot s → All (λ load. load < 2 ^ bits w) s.loads → AreKept w s.procs s.loads s.sizes
kept w s is spelled =
    record {
      paired = sym is.placed.paired;
      loads_fit = is.loads.small;
      loads_spelled = spelled;
      sizes_fit = is.sizes.small;
      places_fit = is.placed.placed;
    }

-- a load has at most eight bytes
pub long_loads : (s : Taken) → IsSnapshot s → All (λ load. load < 2 ^ bits w64) s.loads
long_loads s is = All-weaker (λ load. load ≤ LOAD) (λ load. load < 2 ^ bits w64) (λ load small. omega arith) s.loads is.loads.small

-- all elements
whole_word : (s : Taken) (next : Layout) (more : List ℕ) → IsSnapshot s → All (λ load. load < 2 ^ 32) s.loads
    → judge (elements w32 s.procs 0 (length s.loads) next) (elements_text w32 s.loads s.sizes ++ more) ≡ judge next more
unfolding elements
whole_word s next more is narrow =
    let all : length s.loads ≡ length s.loads + 0 = omega arith in
    ap (λ n. judge (elements w32 s.procs 0 n next) (elements_text w32 s.loads s.sizes ++ more)) all
    ∙ elements_taken_word s.procs 0 0 next s.loads s.sizes more is.placed.few_pes (kept w32 s is narrow)

whole_long : (s : Taken) (next : Layout) (more : List ℕ) → IsSnapshot s
    → judge (elements w64 s.procs 0 (length s.loads) next) (elements_text w64 s.loads s.sizes ++ more) ≡ judge next more
unfolding elements
whole_long s next more is =
    let all : length s.loads ≡ length s.loads + 0 = omega arith in
    ap (λ n. judge (elements w64 s.procs 0 n next) (elements_text w64 s.loads s.sizes ++ more)) all
    ∙ elements_taken_long s.procs 0 0 next s.loads s.sizes more is.placed.few_pes (kept w64 s is (long_loads s is))

whole_moves : {A : Type 0} (count : ℕ) (r : Recorded A) → IsRecorded count r → AreFields r → count ≤ ELEMENTS
    → judge (moves count 0 (length r.decision.moves)) (flat_map move_text r.decision.moves) ≡ Whole
unfolding moves judge
whole_moves count r is fits few =
    let list = r.decision.moves in
    let all : length list ≡ length list + 0 = omega arith in
    ap (λ n. judge (moves count 0 n) (flat_map move_text list)) all
    ∙ ap (judge (moves count 0 (length list + 0))) (sym (append-nil (flat_map move_text list)))
    ∙ moves_taken count 0 0 list [] few is.moved_elements fits.present fits.planned

whole_ending : {A : Type 0} (count : ℕ) (recorded : Option (Recorded A)) → MayRecord count recorded → MayFit recorded → count ≤ ELEMENTS
    → judge (ending count) (ending_text recorded) ≡ Whole
unfolding judge
whole_ending count None is fits few = no_decision_taken count []
whole_ending count (Some r) is fits few =
    decision_taken count (plan_text r ++ flat_map move_text r.decision.moves)
    ∙ plan_taken count r (flat_map move_text r.decision.moves) is fits few
    ∙ whole_moves count r is fits few

whole_lbd1 : (s : Taken) (text : List ℕ) → IsLbd1 s text → IsWhole text
unfolding judge
whole_lbd1 s text is =
    let front = elements_text w32 s.loads s.sizes in
    ap (judge dump) is.spelled
    ∙ head_taken_1 s.step s.procs (length s.loads) front is.snapshot.placed.some_pe is.snapshot.placed.few_pes is.step is.snapshot.loads.few
    ∙ ap (judge (elements w32 s.procs 0 (length s.loads) End)) (sym (append-nil front))
    ∙ whole_word s End [] is.snapshot is.narrow

whole_lbd2 : {A : Type 0} (d : Dumped A) (text : List ℕ) → IsLbd2 d text → IsWhole text
whole_lbd2 d text is =
    let s = d.snapshot in
    let rules = is.dump.snapshot in
    ap (judge dump) is.spelled
    ∙ head_taken_2 s.step s.procs (length s.loads) (elements_text w64 s.loads s.sizes ++ ending_text d.recorded) rules.placed.some_pe
    rules.placed.few_pes is.dump.step rules.loads.few
    ∙ whole_long s (ending (length s.loads)) (ending_text d.recorded) rules
    ∙ whole_ending (length s.loads) d.recorded is.dump.recorded is.dump.fields rules.loads.few

-- the text of a dump is whole
pub whole : {A : Type 0} (d : Dumped A) (text : List ℕ) → IsText d text → IsWhole text
whole d text (inl (none, is)) = whole_lbd1 d.snapshot text is
whole d text (inr is) = whole_lbd2 d text is

-- the text of a dump has no fault
pub no_fault : {A : Type 0} (d : Dumped A) (text : List ℕ) (e : DumpError) → IsText d text → IsFault text e → ⊥
no_fault d text e is fault = let found = sym (ap (λ v. fault_found v (length text)) (whole d text is)) ∙ fault in cc

-- bytes have at most one first fault
pub one_fault : (text : List ℕ) (e f : DumpError) → IsFault text e → IsFault text f → e ≡ f
one_fault text e f first second = let same = sym first ∙ second in cc

-- good bytes have no fault that a byte brings
pub good : (text : List ℕ) (e : DumpError) → IsGood text → IsBroken text e → ⊥
good text e (inl is_whole) broken = let same = sym is_whole ∙ broken in cc
good text e (inr unfinished) broken = let same = sym unfinished ∙ broken in cc

-- a fault that a byte brings is that of every longer text
pub stays : (text more : List ℕ) (e : DumpError) → IsBroken text e → IsBroken (text ++ more) e
stays text more e broken = broken_stays dump text more e broken

-- a snapshot has one text of LBD1, and a dump one of LBD2
pub one_lbd1 : (s : Taken) (a b : List ℕ) → IsLbd1 s a → IsLbd1 s b → a ≡ b
one_lbd1 s a b first second = first.spelled ∙ sym second.spelled

pub one_lbd2 : {A : Type 0} (d : Dumped A) (a b : List ℕ) → IsLbd2 d a → IsLbd2 d b → a ≡ b
one_lbd2 d a b first second = first.spelled ∙ sym second.spelled

abbrev dumped : {A : Type 0} → Taken → Option (Recorded A) → Dumped A
dumped snapshot recorded = record { snapshot = snapshot; recorded = recorded }

-- two dumps with the same parts are the same
same_dumps : {A : Type 0} (d e : Dumped A) → d.snapshot ≡ e.snapshot → d.recorded ≡ e.recorded → d ≡ e
same_dumps d e snapshots recorded =
    let parts : dumped d.snapshot d.recorded ≡ dumped e.snapshot e.recorded = rw (snapshots, recorded) refl in
    parts

-- a text of LBD1 is not a text of LBD2
apart : {A : Type 0} (s : Taken) (e : Dumped A) (text : List ℕ) → IsLbd1 s text → IsLbd2 e text → ⊥
apart s e text first second = let fourth : ◌≡◌ {A = ℕ} 49 50 = ap (λ (bytes : List ℕ). get_or bytes 3 0) (sym first.spelled ∙ second.spelled) in omega arith

one_snapshot : (s t : Taken) (text : List ℕ) → IsLbd1 s text → IsLbd1 t text → s ≡ t
one_snapshot s t text is is' =
    let same = ap (drop 4) (sym is.spelled ∙ is'.spelled) in
    let front = elements_text w32 s.loads s.sizes in
    let front' = elements_text w32 t.loads t.sizes in
    let longer : head_text s ++ (front ++ []) ≡ head_text t ++ (front' ++ []) = rw (append-nil front, append-nil front') same in
    (same_snapshots w32 from_be_bytes-to_be_bytes_4 s t [] [] is.snapshot is.step is.narrow is'.snapshot is'.step is'.narrow longer).0

one_pair : {A : Type 0} (d e : Dumped A) (text : List ℕ) → IsLbd2 d text → IsLbd2 e text → d ≡ e
one_pair d e text is is' =
    let same = ap (drop 4) (sym is.spelled ∙ is'.spelled) in
    let s = d.snapshot in
    let t = e.snapshot in
    let (snapshots, endings) = same_snapshots w64 from_be_bytes-to_be_bytes_8 s t (ending_text d.recorded) (ending_text e.recorded)
    is.dump.snapshot is.dump.step (long_loads s is.dump.snapshot) is'.dump.snapshot is'.dump.step (long_loads t is'.dump.snapshot) same in
    let counts : length t.loads ≡ length s.loads = ap (λ (u : Taken). length u.loads) (sym snapshots) in
    let recorded' = rw counts at is'.dump.recorded in
    same_dumps d e snapshots (same_ending (length s.loads) d.recorded e.recorded is.dump.snapshot.loads.few is.dump.recorded is.dump.fields recorded' is'.dump.fields endings)

-- a text is that of one dump
pub one_dump : {A : Type 0} (d e : Dumped A) (text : List ℕ) → IsText d text → IsText e text → d ≡ e
one_dump d e text (inl (none, is)) (inl (none', is')) = same_dumps d e (one_snapshot d.snapshot e.snapshot text is is') (none ∙ sym none')
one_dump d e text (inl (none, is)) (inr is') = absurd (apart d.snapshot e text is is')
one_dump d e text (inr is) (inl (none', is')) = absurd (apart e.snapshot d text is' is)
one_dump d e text (inr is) (inr is') = one_pair d e text is is'
