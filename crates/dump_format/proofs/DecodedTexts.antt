-- Bytes that are judged whole are the text of a dump, so that bytes are a text or have a fault.
use Rattle.std.proofs.Common.{◌≡◌, ℕ, ◌%◌, ◌^◌, ◌<◌, ◌≤◌, List, [], ◌∷◌, ◌++◌, length, None, inl, inr, refl, ap, sym, subst, ◌∙◌, arith}
use Rattle.std.specs.Prelude.{All, ◌⊎◌, ◌==◌, ◌||◌, ◌&&◌, nat_le, nat_lt, if◌then◌else◌}
use Rattle.std.specs.Int.{Width, w8, w32, w64, to_be_bytes}
use mir.Val.{bits}
use Rattle.std.proofs.lemmas.Bool.{and_parts, eqb-true, leb-true, ltb-true, or_cases}
use Rattle.std.proofs.lemmas.List.{append-nil}
use Rattle.chare_index.specs.declared.limits.TheConstants.Limits.{ELEMENTS, PES}
use Rattle.lb_snapshot.specs.Measured.{Taken}
use Rattle.dump_format.specs.Dumps.{Dumped, IsSnapshot}
use Rattle.dump_format.specs.Faults.{IsFault, IsWhole, fault_found}
use Rattle.dump_format.specs.Fields.{body, dump, ending, unless}
use Rattle.dump_format.specs.Layout.{Layout, End, Verdict, Whole, Unfinished, Broken, judge}
use Rattle.dump_format.specs.Text.{IsText, elements_text, head_text, lbd1_text, lbd2_text, magic_1, magic_2, word}
use Rattle.dump_format.specs.declared.error.DumpError.{DumpError}
use Rattle.dump_format.specs.declared.error.DumpError.TheVariants.{Count, Magic, Procs, Short}
use Rattle.dump_format.proofs.Bytes.{AreBytes, Reads, bytes_of, reads_byte, reads_long, reads_word}
use Rattle.dump_format.proofs.Decoding.{at_end, four_grouped, front, kept_rule, read_elements}
use Rattle.dump_format.proofs.DecodedDecisions.{Ended, read_ending}

-- the head and the elements, and what is judged behind them
record Bodied (w : Width) (behind : ℕ → Layout) (text : List ℕ) : Type 0 where
  snapshot : Taken
  rest : List ℕ
  is : IsSnapshot snapshot
  step : snapshot.step < 2 ^ 32
  fit : All (λ load. load < 2 ^ bits w) snapshot.loads
  spelled : text ≡ head_text snapshot ++ (elements_text w snapshot.loads snapshot.sizes ++ rest)
  bytes : AreBytes rest
  whole : judge (behind (length snapshot.loads)) rest ≡ Whole

read_body : (w : Width) (reads : Reads w) (behind : ℕ → Layout) (text : List ℕ) → AreBytes text → judge (body w behind) text ≡ Whole → Bodied w behind text
read_body w reads behind text are whole =
    let step = front w32 reads_word _ _ text are whole in
    let procs = front w32 reads_word _ _ step.rest step.bytes step.whole in
    let count = front w32 reads_word _ _ procs.rest procs.bytes procs.whole in
    let list = read_elements w reads procs.number 0 count.number (behind count.number) count.rest count.bytes count.whole in
    let (some, few) = and_parts (nat_lt 0 procs.number) (nat_le procs.number PES) (kept_rule (nat_lt 0 procs.number && nat_le procs.number PES) Procs procs.kept) in
    let small : count.number ≤ ELEMENTS = leb-true count.number ELEMENTS (kept_rule (nat_le count.number ELEMENTS) Count count.kept) in
    let s : Taken = record { step = step.number; procs = procs.number; loads = list.loads; sizes = list.sizes } in
    let behind_procs = count.spelled ∙ ap (λ (n : ℕ). word n ++ count.rest) (sym list.counted) ∙ ap (λ (rest : List ℕ). word (length list.loads) ++ rest) list.spelled in
    let behind_step = procs.spelled ∙ ap (λ (rest : List ℕ). word procs.number ++ rest) behind_procs in
    record {
      snapshot = s;
      rest = list.rest;
      is = record {
        placed = record {
          some_pe = ltb-true 0 procs.number some;
          few_pes = leb-true procs.number PES few;
          paired = sym list.kept.paired;
          placed = list.kept.places_fit;
        };
        loads = record { few = omega (arith, small, list.counted); small = list.kept.loads_fit };
        sizes = record { few = omega (arith, small, list.counted, list.kept.paired); small = list.kept.sizes_fit };
      };
      step = step.fits;
      fit = list.kept.loads_spelled;
      spelled =
          step.spelled
          ∙ ap (λ (rest : List ℕ). word step.number ++ rest) behind_step
          ∙ four_grouped (word step.number) (word procs.number) (word (length list.loads)) (elements_text w list.loads list.sizes ++ list.rest);
      bytes = list.bytes;
      whole = ap (λ (n : ℕ). judge (behind n) list.rest) list.counted ∙ list.whole;
    }

abbrev IsDumpText : Type 0 → List ℕ → Type 0
IsDumpText A text = (d : Dumped A) × IsText d text

nothing_more : (xs ys : List ℕ) → ys ≡ [] → xs ++ ys ≡ xs
nothing_more xs ys none = ap (λ (zs : List ℕ). xs ++ zs) none ∙ append-nil xs

read_lbd1 : {A : Type 0} (text rest : List ℕ) → AreBytes rest → text ≡ magic_1 ++ rest → judge (body w32 (λ _. End)) rest ≡ Whole → IsDumpText A text
read_lbd1 text rest are spelled whole =
    let b = read_body w32 reads_word (λ _. End) rest are whole in
    let s = b.snapshot in
    let last : elements_text w32 s.loads s.sizes ++ b.rest ≡ elements_text w32 s.loads s.sizes = nothing_more (elements_text w32 s.loads s.sizes) b.rest (at_end b.rest b.whole) in
    let all : text ≡ lbd1_text s = spelled ∙ ap (λ (rest : List ℕ). magic_1 ++ rest) (b.spelled ∙ ap (λ (rest : List ℕ). head_text s ++ rest) last) in
    (record { snapshot = s; recorded = None }, inl (refl, record { snapshot = b.is; step = b.step; narrow = b.fit; spelled = all }))

read_lbd2 : {A : Type 0} (text rest : List ℕ) → AreBytes rest → text ≡ magic_2 ++ rest → judge (body w64 ending) rest ≡ Whole → IsDumpText A text
read_lbd2 {A} text rest are spelled whole =
    let b = read_body w64 reads_long ending rest are whole in
    let s = b.snapshot in
    let e : Ended A (length s.loads) b.rest = read_ending (length s.loads) b.rest b.bytes b.whole in
    let d : Dumped A = record { snapshot = s; recorded = e.recorded } in
    let all : text ≡ lbd2_text d = spelled ∙ ap (λ (rest : List ℕ). magic_2 ++ rest)
    (b.spelled ∙ ap (λ (rest : List ℕ). head_text s ++ (elements_text w64 s.loads s.sizes ++ rest)) e.spelled) in
    (d, inr (record { dump = record { snapshot = b.is; step = b.step; recorded = e.is; fields = e.fields }; spelled = all }))

-- which format it is, by the fourth byte
by_format : {A : Type 0} (text rest : List ℕ) (byte : ℕ) → AreBytes rest → text ≡ 76 ∷ 66 ∷ 68 ∷ byte ∷ rest → (byte ≡ 49) ⊎ (byte ≡ 50)
    → judge (if byte == 49 then body w32 (λ _. End) else body w64 ending) rest ≡ Whole → IsDumpText A text
by_format text rest byte are spelled (inl one) whole =
    read_lbd1 text rest are (spelled ∙ ap (λ (b : ℕ). 76 ∷ 66 ∷ 68 ∷ b ∷ rest) one)
    (subst (λ (b : ℕ). judge (if b == 49 then body w32 (λ _. End) else body w64 ending) rest ≡ Whole) one whole)
by_format text rest byte are spelled (inr two) whole =
    read_lbd2 text rest are (spelled ∙ ap (λ (b : ℕ). 76 ∷ 66 ∷ 68 ∷ b ∷ rest) two)
    (subst (λ (b : ℕ). judge (if b == 49 then body w32 (λ _. End) else body w64 ending) rest ≡ Whole) two whole)

format_of : (byte : ℕ) → unless ((byte == 49) || (byte == 50)) Magic ≡ None → (byte ≡ 49) ⊎ (byte ≡ 50)
format_of byte kept =
    elim (or_cases (byte == 49) (byte == 50) (kept_rule ((byte == 49) || (byte == 50)) Magic kept)) [
      | inl one ↦ inl (eqb-true byte 49 one)
      | inr two ↦ inr (eqb-true byte 50 two)
    ]

pub read_text : {A : Type 0} (text : List ℕ) → AreBytes text → IsWhole text → IsDumpText A text
read_text text are whole =
    let l = front w8 reads_byte _ _ text are whole in
    let b = front w8 reads_byte _ _ l.rest l.bytes l.whole in
    let d = front w8 reads_byte _ _ b.rest b.bytes b.whole in
    let f = front w8 reads_byte _ _ d.rest d.bytes d.whole in
    let is_l : l.number ≡ 76 = eqb-true l.number 76 (kept_rule (l.number == 76) Magic l.kept) in
    let is_b : b.number ≡ 66 = eqb-true b.number 66 (kept_rule (b.number == 66) Magic b.kept) in
    let is_d : d.number ≡ 68 = eqb-true d.number 68 (kept_rule (d.number == 68) Magic d.kept) in
    let behind_b = d.spelled ∙ ap (λ (n : ℕ). to_be_bytes w8 n ++ d.rest) is_d ∙ ap (λ (rest : List ℕ). 68 ∷ rest) f.spelled in
    let behind_l = b.spelled ∙ ap (λ (n : ℕ). to_be_bytes w8 n ++ b.rest) is_b ∙ ap (λ (rest : List ℕ). 66 ∷ rest) behind_b in
    let spelled = l.spelled ∙ ap (λ (n : ℕ). to_be_bytes w8 n ++ l.rest) is_l ∙ ap (λ (rest : List ℕ). 76 ∷ rest) behind_l in
    let fourth : f.number % 256 ≡ f.number = omega (arith, f.fits) in
    by_format text f.rest f.number f.bytes (spelled ∙ ap (λ (n : ℕ). 76 ∷ 66 ∷ 68 ∷ n ∷ f.rest) fourth) (format_of f.number f.kept) f.whole

pub whole_is_text : {A : Type 0} (text : List ℕ) → All (λ byte. byte < 256) text → IsWhole text → IsDumpText A text
whole_is_text text all whole = read_text text (bytes_of text all) whole

pub text_or_fault : {A : Type 0} (text : List ℕ) → All (λ byte. byte < 256) text → IsDumpText A text ⊎ ((e : DumpError) × IsFault text e)
text_or_fault {A} text all = by (judge dump text) refl
  where
    by : (v : Verdict) → judge dump text ≡ v → IsDumpText A text ⊎ ((e : DumpError) × IsFault text e)
    by Whole is = inl (whole_is_text text all is)
    by Unfinished is = inr (Short (length text), ap (λ (v : Verdict). fault_found v (length text)) is)
    by (Broken e) is = inr (e, ap (λ (v : Verdict). fault_found v (length text)) is)
