-- How a head is judged.
use Rattle.std.proofs.Common.{◌≡◌, ◌⊎◌, ℕ, zero, suc, ◌^◌, ◌<◌, ◌≤◌, List, [], ◌∷◌, ◌++◌, length, drop, refl, ap, sym, subst, ◌∙◌, Some, None, inl, inr, lit<, ltb, leb, eqb, arith}
use Rattle.std.specs.Prelude.{slice_index, ◌&&◌, ◌||◌, cond}
use Rattle.std.specs.Int.{Width, w8, w32, w64, from_be_bytes}
use Rattle.std.proofs.lemmas.Bool.{and_from, and_left, and_right, cases_lt, eq-eqb, le-leb, le-ltb, lt-leb, lt-ltb, ne_eqb, or_from}
use Rattle.std.proofs.lemmas.List.{drop-drop, length-drop}
use Rattle.chare_index.specs.declared.limits.TheConstants.Limits.{ELEMENTS, PES}
use Rattle.dump_format.specs.Layout.{Layout, End, Field, Verdict, Unfinished, Broken, judge}
use Rattle.dump_format.specs.Fields.{body, dump, elements, ending, magic_byte, unless}
use Rattle.dump_format.specs.Text.{word}
use Rattle.dump_format.specs.declared.error.DumpError.TheVariants.{Count, Magic, Procs}
use Rattle.dump_format.proofs.Bytes.{AreBytes, bytes_behind}
use Rattle.dump_format.proofs.Judging.{byte_broken, byte_taken, field_broken, field_short, field_taken, gives_fault, gives_none, head_taken_1, head_taken_2}
use Rattle.lb_dump.specs.declared.head.Format.{Format}
use Rattle.lb_dump.specs.declared.head.Format.TheVariants.{Lbd1, Lbd2}
use Rattle.lb_dump.specs.declared.head.Head.{Head}
use Rattle.lb_dump.specs.Heads.{HasMagic, IsHead, fourth_byte, head_text, magic_of, load_width}
use Rattle.lb_dump.specs.Elements.{behind, body_of}
use Rattle.lb_dump.proofs.Respelled.{three_words}

-- one byte of the magic
module _ (code : ℕ) (next : Layout) where
  magic_byte_short : judge (magic_byte code next) [] ≡ Unfinished
  magic_byte_short = field_short w8 (λ byte. unless (eqb byte code) Magic) (λ _. next) [] (lit< tt)

  magic_byte_taken : (b : ℕ) (more : List ℕ) → b ≡ code → judge (magic_byte code next) (b ∷ more) ≡ judge next more
  magic_byte_taken b more is = byte_taken (λ byte. unless (eqb byte code) Magic) (λ _. next) b more (gives_none (eqb b code) Magic (eq-eqb b code is))

  magic_byte_broken : (b : ℕ) (more : List ℕ) → (b ≡ code → ⊥) → judge (magic_byte code next) (b ∷ more) ≡ Broken Magic
  magic_byte_broken b more not = byte_broken (λ byte. unless (eqb byte code) Magic) (λ _. next) b more Magic (gives_fault (eqb b code) Magic (ne_eqb b code not))

-- the fields after the first bytes of the magic
abbrev fourth : Layout
fourth = Field w8 (λ byte. unless (eqb byte 49 || eqb byte 50) Magic) (λ byte. cond (eqb byte 49) (body w32 (λ _. End)) (body w64 ending))

abbrev third : Layout
third = magic_byte 68 fourth

abbrev second : Layout
second = magic_byte 66 third

fourth_taken : (b : ℕ) (more : List ℕ) (v : Verdict) → (b ≡ 49) ⊎ (b ≡ 50) → ((w : Width) (after : ℕ → Layout) → judge (body w after) more ≡ v) → judge fourth (b ∷ more) ≡ v
fourth_taken b more v (inl is) all =
    subst (λ c. judge fourth (c ∷ more) ≡ v) (sym is)
    (byte_taken (λ byte. unless (eqb byte 49 || eqb byte 50) Magic) (λ byte. cond (eqb byte 49) (body w32 (λ _. End)) (body w64 ending)) 49 more refl ∙ all w32 (λ _. End))
fourth_taken b more v (inr is) all =
    subst (λ c. judge fourth (c ∷ more) ≡ v) (sym is)
    (byte_taken (λ byte. unless (eqb byte 49 || eqb byte 50) Magic) (λ byte. cond (eqb byte 49) (body w32 (λ _. End)) (body w64 ending)) 50 more refl ∙ all w64 ending)

fourth_broken : (b : ℕ) (more : List ℕ) → (b ≡ 49 → ⊥) → (b ≡ 50 → ⊥) → judge fourth (b ∷ more) ≡ Broken Magic
fourth_broken b more not_1 not_2 =
    byte_broken (λ byte. unless (eqb byte 49 || eqb byte 50) Magic) (λ byte. cond (eqb byte 49) (body w32 (λ _. End)) (body w64 ending)) b more Magic
    (gives_fault (eqb b 49 || eqb b 50) Magic (or_from (eqb b 49) (eqb b 50) (ne_eqb b 49 not_1) (ne_eqb b 50 not_2)))

-- the magic is right as far as it has come
pub magic_short : (text : List ℕ) → HasMagic text → length text < 4 → judge dump text ≡ Unfinished
magic_short [] has short = magic_byte_short 76 second
magic_short (a ∷ []) has short = magic_byte_taken 76 second a [] (has.first (lit< tt)) ∙ magic_byte_short 66 third
magic_short (a ∷ b ∷ []) has short =
    magic_byte_taken 76 second a (b ∷ []) (has.first (lit< tt)) ∙ magic_byte_taken 66 third b [] (has.second (lit< tt)) ∙ magic_byte_short 68 fourth
magic_short (a ∷ b ∷ c ∷ []) has short =
    magic_byte_taken 76 second a (b ∷ c ∷ []) (has.first (lit< tt)) ∙ magic_byte_taken 66 third b (c ∷ []) (has.second (lit< tt))
    ∙ magic_byte_taken 68 fourth c [] (has.third (lit< tt))
    ∙ field_short w8 (λ byte. unless (eqb byte 49 || eqb byte 50) Magic) (λ byte. cond (eqb byte 49) (body w32 (λ _. End)) (body w64 ending)) [] (lit< tt)
magic_short (a ∷ b ∷ c ∷ d ∷ rest) has short = absurd (omega arith)

pub magic_taken : (text : List ℕ) (v : Verdict) → 3 < length text → HasMagic text
    → ((w : Width) (after : ℕ → Layout) → judge (body w after) (drop 4 text) ≡ v) → judge dump text ≡ v
magic_taken [] v long has all = absurd (omega arith)
magic_taken (a ∷ []) v long has all = absurd (omega arith)
magic_taken (a ∷ b ∷ []) v long has all = absurd (omega arith)
magic_taken (a ∷ b ∷ c ∷ []) v long has all = absurd (omega arith)
magic_taken (a ∷ b ∷ c ∷ d ∷ rest) v long has all =
    magic_byte_taken 76 second a (b ∷ c ∷ d ∷ rest) (has.first (omega arith))
    ∙ magic_byte_taken 66 third b (c ∷ d ∷ rest) (has.second (omega arith)) ∙ magic_byte_taken 68 fourth c (d ∷ rest) (has.third (omega arith))
    ∙ fourth_taken d rest v (has.fourth (omega arith)) all

-- one of the first three is wrong, or the fourth
abbrev pub first_bytes : List ℕ
first_bytes = 76 ∷ 66 ∷ 68 ∷ []

pub magic_wrong : (text : List ℕ) (k : ℕ) → k < 3 → k < length text → ((j : ℕ) → j < k → slice_index text j ≡ slice_index first_bytes j)
    → (slice_index text k ≡ slice_index first_bytes k → ⊥)
    → judge dump text ≡ Broken Magic
magic_wrong [] k few inside before wrong = absurd (omega arith)
magic_wrong (a ∷ rest) zero few inside before wrong = magic_byte_broken 76 second a rest wrong
magic_wrong (a ∷ []) (suc k) few inside before wrong = absurd (omega arith)
magic_wrong (a ∷ b ∷ rest) (suc zero) few inside before wrong = magic_byte_taken 76 second a (b ∷ rest) (before 0 (lit< tt)) ∙ magic_byte_broken 66 third b rest wrong
magic_wrong (a ∷ b ∷ []) (suc (suc k)) few inside before wrong = absurd (omega arith)
magic_wrong (a ∷ b ∷ c ∷ rest) (suc (suc zero)) few inside before wrong =
    magic_byte_taken 76 second a (b ∷ c ∷ rest) (before 0 (lit< tt)) ∙ magic_byte_taken 66 third b (c ∷ rest) (before 1 (lit< tt)) ∙ magic_byte_broken 68 fourth c rest wrong
magic_wrong (a ∷ b ∷ c ∷ rest) (suc (suc (suc k))) few inside before wrong = absurd (omega arith)

pub fourth_wrong : (text : List ℕ) → 3 < length text → ((j : ℕ) → j < 3 → slice_index text j ≡ slice_index first_bytes j)
    → (slice_index text 3 ≡ 49 → ⊥) → (slice_index text 3 ≡ 50 → ⊥) → judge dump text ≡ Broken Magic
fourth_wrong [] inside before not_1 not_2 = absurd (omega arith)
fourth_wrong (a ∷ []) inside before not_1 not_2 = absurd (omega arith)
fourth_wrong (a ∷ b ∷ []) inside before not_1 not_2 = absurd (omega arith)
fourth_wrong (a ∷ b ∷ c ∷ []) inside before not_1 not_2 = absurd (omega arith)
fourth_wrong (a ∷ b ∷ c ∷ d ∷ rest) inside before not_1 not_2 =
    magic_byte_taken 76 second a (b ∷ c ∷ d ∷ rest) (before 0 (lit< tt)) ∙ magic_byte_taken 66 third b (c ∷ d ∷ rest) (before 1 (lit< tt))
    ∙ magic_byte_taken 68 fourth c (d ∷ rest) (before 2 (lit< tt))
    ∙ fourth_broken d rest not_1 not_2

-- a number of PEs within the limits, and one that is not
pes_kept : (n : ℕ) → 0 < n → n ≤ PES → unless (ltb 0 n && leb n PES) Procs ≡ None
pes_kept n some few = gives_none (ltb 0 n && leb n PES) Procs (and_from (ltb 0 n) (leb n PES) (lt-ltb 0 n some) (le-leb n PES few))

pes_broken : (n : ℕ) → (n ≡ 0) ⊎ (PES < n) → unless (ltb 0 n && leb n PES) Procs ≡ Some Procs
pes_broken n (inl none) = gives_fault (ltb 0 n && leb n PES) Procs (and_left (ltb 0 n) (leb n PES) (le-ltb 0 n (omega arith)))
pes_broken n (inr many) = gives_fault (ltb 0 n && leb n PES) Procs (and_right (ltb 0 n) (leb n PES) (lt-leb n PES many))

-- the fields after the step, and after the number of PEs
abbrev count_field : Width → (ℕ → Layout) → ℕ → Layout
count_field w after procs = Field w32 (λ count. unless (leb count ELEMENTS) Count) (λ count. elements w procs 0 count (after count))

abbrev pes_field : Width → (ℕ → Layout) → Layout
pes_field w after = Field w32 (λ n. unless (ltb 0 n && leb n PES) Procs) (count_field w after)

module _ (w : Width) (after : ℕ → Layout) (text : List ℕ) where
  step_taken : 4 ≤ length text → judge (body w after) text ≡ judge (pes_field w after) (drop 4 text)
  step_taken long = field_taken w32 (λ _. None) (λ _. pes_field w after) text long refl

  pes_taken : 8 ≤ length text → 0 < from_be_bytes w32 (drop 4 text) → from_be_bytes w32 (drop 4 text) ≤ PES
      → judge (body w after) text ≡ judge (count_field w after (from_be_bytes w32 (drop 4 text))) (drop 8 text)
  pes_taken long some few =
      step_taken (omega arith)
      ∙ field_taken w32 (λ n. unless (ltb 0 n && leb n PES) Procs) (count_field w after) (drop 4 text) (omega (arith, length-drop 4 text))
      (pes_kept (from_be_bytes w32 (drop 4 text)) some few)
      ∙ ap (judge (count_field w after (from_be_bytes w32 (drop 4 text)))) (drop-drop 4 4 text)

  pub procs_break : 8 ≤ length text → (from_be_bytes w32 (drop 4 text) ≡ 0) ⊎ (PES < from_be_bytes w32 (drop 4 text)) → judge (body w after) text ≡ Broken Procs
  procs_break long bad =
      step_taken (omega arith)
      ∙ field_broken w32 (λ n. unless (ltb 0 n && leb n PES) Procs) (count_field w after) (drop 4 text) Procs
      (omega (arith, length-drop 4 text)) (pes_broken (from_be_bytes w32 (drop 4 text)) bad)

  pub count_breaks : 12 ≤ length text → 0 < from_be_bytes w32 (drop 4 text) → from_be_bytes w32 (drop 4 text) ≤ PES
      → ELEMENTS < from_be_bytes w32 (drop 8 text) → judge (body w after) text ≡ Broken Count
  count_breaks long some few bad =
      pes_taken (omega arith) some few
      ∙ field_broken w32 (λ count. unless (leb count ELEMENTS) Count)
      (λ count. elements w (from_be_bytes w32 (drop 4 text)) 0 count (after count)) (drop 8 text) Count (omega (arith, length-drop 8 text))
      (gives_fault (leb (from_be_bytes w32 (drop 8 text)) ELEMENTS) Count (lt-leb (from_be_bytes w32 (drop 8 text)) ELEMENTS bad))

  pub body_unfinished : length text < 12 → (8 ≤ length text → (0 < from_be_bytes w32 (drop 4 text))
      × (from_be_bytes w32 (drop 4 text) ≤ PES)) → judge (body w after) text ≡ Unfinished
  body_unfinished short good =
      elim (cases_lt (length text) 4) [
        | inl less ↦ field_short w32 (λ _. None) (λ _. pes_field w after) text less
        | inr long ↦ elim (cases_lt (length text) 8) [
          | inl less ↦ step_taken long ∙ field_short w32 (λ n. unless (ltb 0 n && leb n PES) Procs) (count_field w after) (drop 4 text) (omega (arith, length-drop 4 text))
          | inr longer ↦
              pes_taken longer (good longer).0 (good longer).1
              ∙ field_short w32 (λ count. unless (leb count ELEMENTS) Count)
              (λ count. elements w (from_be_bytes w32 (drop 4 text)) 0 count (after count)) (drop 8 text) (omega (arith, length-drop 8 text))
        ]
      ]

-- what is found in a text with its magic, by the numbers after it
module _ (text : List ℕ) (procs : ℕ) (has : HasMagic text) (is : procs ≡ from_be_bytes w32 (drop 8 text)) where
  procs_at : procs ≡ from_be_bytes w32 (drop 4 (drop 4 text))
  procs_at = is ∙ ap (from_be_bytes w32) (sym (drop-drop 4 4 text))

  pub head_unfinished : length text < 16 → (12 ≤ length text → (0 < procs) × (procs ≤ PES)) → judge dump text ≡ Unfinished
  head_unfinished short good =
      elim (cases_lt (length text) 4) [
        | inl less ↦ magic_short text has less
        | inr long ↦ magic_taken text Unfinished long has (λ w after. body_unfinished w after (drop 4 text) (omega (arith, length-drop 4 text))
            (λ all. let h = good (omega (arith, length-drop 4 text)) in (subst (λ n. 0 < n) procs_at h.0, subst (λ n. n ≤ PES) procs_at h.1)))
      ]

  pub procs_wrong : 12 ≤ length text → (procs ≡ 0) ⊎ (PES < procs) → judge dump text ≡ Broken Procs
  procs_wrong long bad =
      magic_taken text (Broken Procs) (omega arith) has (λ w after. procs_break w after (drop 4 text) (omega (arith, length-drop 4 text))
      (subst (λ n. (n ≡ 0) ⊎ (PES < n)) procs_at bad))

  pub count_wrong : (count : ℕ) → 16 ≤ length text → 0 < procs → procs ≤ PES → count ≡ from_be_bytes w32 (drop 12 text) → ELEMENTS < count → judge dump text ≡ Broken Count
  count_wrong count long some few count_is bad =
      magic_taken text (Broken Count) (omega arith) has (λ w after. count_breaks w after (drop 4 text) (omega (arith, length-drop 4 text))
      (subst (λ n. 0 < n) procs_at some) (subst (λ n. n ≤ PES) procs_at few) (subst (λ n. ELEMENTS < n) (count_is ∙ ap (from_be_bytes w32) (sym (drop-drop 8 4 text))) bad))

-- the text of a head, and then more
read_as : (format : Format) (step procs count : ℕ) (more : List ℕ) → step < 2 ^ 32 → 0 < procs → procs ≤ PES → count ≤ ELEMENTS
    → judge dump ((magic_of format ++ (word step ++ (word procs ++ word count))) ++ more) ≡ judge (elements (load_width format) procs 0 count (behind format count)) more
read_as Lbd1 step procs count more fits some few within = head_taken_1 step procs count more some few fits within
read_as Lbd2 step procs count more fits some few within = head_taken_2 step procs count more some few fits within

pub head_read : (h : Head) → IsHead h → (more : List ℕ) → judge dump (head_text h ++ more) ≡ judge (body_of h) more
head_read h is more = read_as h.format h.step h.procs h.count more is.step is.some_pe is.few_pes is.few

-- bytes with this magic and these numbers are the text of this head
pub head_respelled : (bytes : List ℕ) (h : Head) → length bytes ≡ 16 → AreBytes bytes → HasMagic bytes → slice_index bytes 3 ≡ fourth_byte h.format
    → h.step ≡ from_be_bytes w32 (drop 4 bytes) → h.procs ≡ from_be_bytes w32 (drop 8 bytes) → h.count ≡ from_be_bytes w32 (drop 12 bytes) → bytes ≡ head_text h
head_respelled bytes h len are has last step procs count =
    front bytes h.format (omega arith) has last
    ∙ ap (λ rest. magic_of h.format ++ rest)
    (three_words (drop 4 bytes) h.step h.procs h.count (omega (arith, length-drop 4 bytes)) (bytes_behind 4 bytes are) step
    (procs ∙ ap (from_be_bytes w32) (sym (drop-drop 4 4 bytes))) (count ∙ ap (from_be_bytes w32) (sym (drop-drop 8 4 bytes))))
  where
    magic_is : (a b c d : ℕ) (rest : List ℕ) (format : Format) → a ≡ 76 → b ≡ 66 → c ≡ 68 → d ≡ fourth_byte format → (a ∷ b ∷ c ∷ d ∷ rest) ≡ magic_of format ++ rest
    magic_is a b c d rest Lbd1 first second third fourth = cc
    magic_is a b c d rest Lbd2 first second third fourth = cc

    front : (bytes : List ℕ) (format : Format) → 3 < length bytes → HasMagic bytes → slice_index bytes 3 ≡ fourth_byte format → bytes ≡ magic_of format ++ drop 4 bytes
    front [] format long has last = absurd (omega arith)
    front (a ∷ []) format long has last = absurd (omega arith)
    front (a ∷ b ∷ []) format long has last = absurd (omega arith)
    front (a ∷ b ∷ c ∷ []) format long has last = absurd (omega arith)
    front (a ∷ b ∷ c ∷ d ∷ rest) format long has last = magic_is a b c d rest format (has.first (omega arith)) (has.second (omega arith)) (has.third (omega arith)) last
