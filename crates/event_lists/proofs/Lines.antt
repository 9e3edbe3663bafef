-- What the reader does with a line, and which event's line that is.
use Rattle.std.proofs.Common.{◌≡◌, ℕ, ◌+◌, ◌^◌, ◌<◌, Bool, true, false, List, [], ◌∷◌, ◌++◌, length, take, drop, Option, Some, None, refl, sym, ap, ◌∙◌, inl, inr, arith, append_assoc}
use Rattle.std.specs.Prelude.{MatchOption, ◌==◌}
use Rattle.std.specs.Option.{option_and_then}
use Rattle.std.specs.Borrow.{Bor}
use Rattle.std.specs.Cmp.Lexicographic.{pointwise}
use Rattle.std.proofs.Math.Dec.{eqb}
use Rattle.std.proofs.lemmas.Bool.{cases_Bool, eq-eqb, eqb-true}
use Rattle.rts_core.specs.declared.event.Event.{Event}
use Rattle.event_lists.specs.declared.form.TheConstants.{DIGITS}
use Rattle.event_lists.specs.declared.name.Name.{Name}
use Rattle.event_lists.specs.declared.name.Name.TheVariants.{Start, Look, Flush, Deliver, Act, Report, Decide, Depart, Resume}
use Rattle.event_lists.specs.Text.{blank_number, event_line, IsWithin}
use Rattle.event_lists.specs.Faults.{IsFormed, IsMalformed, IsPast}
use Rattle.event_lists.specs.Lines.{name_text, has_pe, has_element, event_of, behind, or_else, first_name, name_at, digits_at, number_at, Line, line_at, line_behind_name, line_behind_pe, line_behind_element, line_event}
use Rattle.event_lists.proofs.Digits.{NoDigit, number_read, reads_number, same_parts}

-- bytes that begin with a word
stripped : (word bytes : List ℕ) → pointwise eqb (take (length word) bytes) word ≡ true → behind word bytes ≡ Some (drop (length word) bytes)
stripped [] bytes same = refl
stripped (c ∷ word) [] same = cc
stripped (c ∷ word) (b ∷ bytes) same =
    elim (cases_Bool (b == c)) [
      | inl here ↦ rw here (stripped word bytes (rw here at same))
      | inr other ↦ absurd (let no : ◌≡◌ {A = Bool} false true = rw other at same in cc)
    ]

not_stripped : (word bytes : List ℕ) → pointwise eqb (take (length word) bytes) word ≡ false → behind word bytes ≡ None
not_stripped [] bytes other = cc
not_stripped (c ∷ word) [] other = refl
not_stripped (c ∷ word) (b ∷ bytes) other =
    elim (cases_Bool (b == c)) [
      | inl here ↦ rw here (not_stripped word bytes (rw here at other))
      | inr apart ↦ rw apart refl
    ]

pub stripped_as : (word bytes : List ℕ) (result : Option (Bor (List ℕ)))
    → MatchOption result (pointwise eqb (take (length word) bytes) word ≡ false)
    (λ x. (pointwise eqb (take (length word) bytes) word ≡ true) × (x.now ≡ drop (length word) bytes) × (length x.now + length word ≡ length bytes))
    → MatchOption result (behind word bytes ≡ None) (λ rest. behind word bytes ≡ Some rest.now)
stripped_as word bytes None cases = not_stripped word bytes cases
stripped_as word bytes (Some rest) cases = stripped word bytes cases.0 ∙ ap Some (sym cases.1)

-- the rest after a word
behind_word : (word rest : List ℕ) → behind word (word ++ rest) ≡ Some rest
behind_word [] rest = refl
behind_word (c ∷ word) rest = rw (eq-eqb c c refl) (behind_word word rest)

is_behind : (word bytes rest : List ℕ) → behind word bytes ≡ Some rest → bytes ≡ word ++ rest
is_behind [] bytes rest read = let same : bytes ≡ rest = cc in same
is_behind (c ∷ word) [] rest read = cc
is_behind (c ∷ word) (b ∷ bytes) rest read =
    elim (cases_Bool (b == c)) [
      | inl here ↦
          let later : bytes ≡ word ++ rest = is_behind word bytes rest (rw here at read) in
          let first : b ≡ c = eqb-true b c here in
          rw (first, later) refl
      | inr other ↦ absurd (let no : ◌≡◌ {A = Option (List ℕ)} None (Some rest) = rw other at read in cc)
    ]

-- each name is read as it is
name_reads : (name : Name) (rest : List ℕ) → name_at (name_text name ++ rest) ≡ Some (name, rest)
name_reads Start rest = refl
name_reads Look rest = refl
name_reads Flush rest = refl
name_reads Deliver rest = refl
name_reads Act rest = refl
name_reads Report rest = refl
name_reads Decide rest = refl
name_reads Depart rest = refl
name_reads Resume rest = refl

-- and what is read is a name
is_name : (names : List Name) (bytes : List ℕ) (name : Name) (rest : List ℕ) → first_name names bytes ≡ Some (name, rest) → bytes ≡ name_text name ++ rest
is_name [] bytes name rest read = cc
is_name (n ∷ names) bytes name rest read = by (behind (name_text n) bytes) refl (is_name names bytes name rest) read
  where
    by : (o : Option (List ℕ)) → behind (name_text n) bytes ≡ o → (first_name names bytes ≡ Some (name, rest) → bytes ≡ name_text name ++ rest)
        → or_else n o (first_name names bytes) ≡ Some (name, rest) → bytes ≡ name_text name ++ rest
    by None none later told = later told
    by (Some found) some later told =
        let same = same_parts n name found rest told in
        is_behind (name_text n) bytes found some ∙ ap (λ m. name_text m ++ found) same.0 ∙ ap (λ t. name_text name ++ t) same.1

-- a number after a blank, where one is wanted
abbrev pub number_text : Bool → ℕ → List ℕ
number_text false n = []
number_text true n = blank_number n

number_reads : (wanted : Bool) (n : ℕ) (rest : List ℕ) → n < 10 ^ DIGITS → (wanted ≡ false → n ≡ 0) → NoDigit rest
    → number_at wanted (number_text wanted n ++ rest) ≡ Some (n, rest)
number_reads false n rest small unused plain = ap (λ k. Some (k, rest)) (sym (unused refl))
number_reads true n rest small unused plain = reads_number n rest small plain

-- what is read is such a number
record IsNumberAt (wanted : Bool) (bytes : List ℕ) (n : ℕ) (rest : List ℕ) : Type 0 where
  spelled : bytes ≡ number_text wanted n ++ rest
  small : n < 10 ^ DIGITS
  unused : wanted ≡ false → n ≡ 0

is_number : (wanted : Bool) (bytes : List ℕ) (n : ℕ) (rest : List ℕ) → number_at wanted bytes ≡ Some (n, rest) → IsNumberAt wanted bytes n rest
is_number false bytes n rest read =
    let same = same_parts 0 n bytes rest read in
    record { spelled = same.1; small = omega (arith, same.0); unused = λ _. sym same.0 }
is_number true bytes n rest read = by (behind (32 ∷ []) bytes) refl read
  where
    by : (o : Option (List ℕ)) → behind (32 ∷ []) bytes ≡ o → option_and_then (digits_at 0 0) o ≡ Some (n, rest) → IsNumberAt true bytes n rest
    by None none told = cc
    by (Some found) some told =
        let number = number_read found n rest told in
        record { spelled = is_behind (32 ∷ []) bytes found some ∙ ap (λ t. 32 ∷ t) number.spelled; small = number.small; unused = λ no. cc }

-- a line by its name and its numbers
abbrev pub line_text : Name → ℕ → ℕ → List ℕ
line_text name p e = name_text name ++ (number_text (has_pe name) p ++ (number_text (has_element name) e ++ 10 ∷ []))

line_is : (name : Name) (p e : ℕ) → event_line (event_of name p e) ≡ line_text name p e
line_is Start p e = refl
line_is Look p e = refl
line_is Flush p e = refl
line_is Deliver p e = refl
line_is Act p e = refl
line_is Report p e = refl
line_is Decide p e = refl
line_is Depart p e = refl
line_is Resume p e = refl

-- numbers of a name: each is small, and 0 where the name has none
pub record AreNumbers (name : Name) (p e : ℕ) : Type 0 where
  pub small_pe : p < 10 ^ DIGITS
  pub small_element : e < 10 ^ DIGITS
  pub no_pe : has_pe name ≡ false → p ≡ 0
  pub no_element : has_element name ≡ false → e ≡ 0

plain_end : (wanted : Bool) (e : ℕ) (rest : List ℕ) → NoDigit (number_text wanted e ++ 10 ∷ rest)
plain_end false e rest = refl
plain_end true e rest = refl

line_parts : (name : Name) (p e : ℕ) (rest : List ℕ)
    → line_text name p e ++ rest ≡ name_text name ++ (number_text (has_pe name) p ++ (number_text (has_element name) e ++ 10 ∷ rest))
line_parts name p e rest =
    append_assoc (name_text name) (number_text (has_pe name) p ++ (number_text (has_element name) e ++ 10 ∷ [])) rest
    ∙ ap (λ t. name_text name ++ t) (append_assoc (number_text (has_pe name) p) (number_text (has_element name) e ++ 10 ∷ []) rest
    ∙ ap (λ t. number_text (has_pe name) p ++ t) (append_assoc (number_text (has_element name) e) (10 ∷ []) rest))

-- a line is read as it is
abbrev said : Name → ℕ → ℕ → List ℕ → Line
said name p e rest = record { name = name; pe = p; element = e; rest = rest }

line_reads : (name : Name) (p e : ℕ) (rest : List ℕ) → AreNumbers name p e → line_at (line_text name p e ++ rest) ≡ Some (said name p e rest)
line_reads name p e rest are =
    let behind_pe : List ℕ = number_text (has_element name) e ++ 10 ∷ rest in
    ap line_at (line_parts name p e rest)
    ∙ ap (option_and_then line_behind_name) (name_reads name (number_text (has_pe name) p ++ behind_pe))
    ∙ ap (option_and_then (line_behind_pe name)) (number_reads (has_pe name) p behind_pe are.small_pe are.no_pe (plain_end (has_element name) e rest))
    ∙ ap (option_and_then (line_behind_element name p)) (number_reads (has_element name) e (10 ∷ rest) are.small_element are.no_element refl)

-- and what is read is a line
pub record IsLineAt (bytes : List ℕ) (line : Line) : Type 0 where
  pub spelled : bytes ≡ line_text line.name line.pe line.element ++ line.rest
  pub numbers : AreNumbers line.name line.pe line.element

pub is_line : (bytes : List ℕ) (line : Line) → line_at bytes ≡ Some line → IsLineAt bytes line
is_line bytes line read = by_name (name_at bytes) refl read
  where
    by_end : (name : Name) (p e : ℕ) (behind_name behind_pe behind_element : List ℕ) (o : Option (List ℕ)) → bytes ≡ name_text name ++ behind_name
        → IsNumberAt (has_pe name) behind_name p behind_pe → IsNumberAt (has_element name) behind_pe e behind_element
        → behind (10 ∷ []) behind_element ≡ o → option_and_then (λ rest. Some (said name p e rest)) o ≡ Some line → IsLineAt bytes line
    by_end name p e behind_name behind_pe behind_element None named pe element none told = cc
    by_end name p e behind_name behind_pe behind_element (Some rest) named pe element some told =
        let same : said name p e rest ≡ line = cc in
        rw (← same) (record {
          spelled =
              named
              ∙ ap (λ t. name_text name ++ t) (pe.spelled ∙ ap (λ t. number_text (has_pe name) p ++ t) (element.spelled
              ∙ ap (λ t. number_text (has_element name) e ++ t) (is_behind (10 ∷ []) behind_element rest some)))
              ∙ sym (line_parts name p e rest);
          numbers = record { small_pe = pe.small; small_element = element.small; no_pe = pe.unused; no_element = element.unused };
        })

    by_element : (name : Name) (p : ℕ) (behind_name behind_pe : List ℕ) (o : Option (ℕ × List ℕ)) → bytes ≡ name_text name ++ behind_name
        → IsNumberAt (has_pe name) behind_name p behind_pe → number_at (has_element name) behind_pe ≡ o → option_and_then (line_behind_element name p) o ≡ Some line
        → IsLineAt bytes line
    by_element name p behind_name behind_pe None named pe none told = cc
    by_element name p behind_name behind_pe (Some (e, behind_element)) named pe some told =
        by_end name p e behind_name behind_pe behind_element (behind (10 ∷ []) behind_element) named pe (is_number (has_element name) behind_pe e behind_element some) refl told

    by_pe : (name : Name) (behind_name : List ℕ) (o : Option (ℕ × List ℕ)) → bytes ≡ name_text name ++ behind_name → number_at (has_pe name) behind_name ≡ o
        → option_and_then (line_behind_pe name) o ≡ Some line → IsLineAt bytes line
    by_pe name behind_name None named none told = cc
    by_pe name behind_name (Some (p, behind_pe)) named some told =
        by_element name p behind_name behind_pe (number_at (has_element name) behind_pe) named (is_number (has_pe name) behind_name p behind_pe some) refl told

    by_name : (o : Option (Name × List ℕ)) → name_at bytes ≡ o → option_and_then line_behind_name o ≡ Some line → IsLineAt bytes line
    by_name None none told = cc
    by_name (Some (name, behind_name)) some told =
        by_pe name behind_name (number_at (has_pe name) behind_name)
        (is_name (Start ∷ Look ∷ Flush ∷ Deliver ∷ Act ∷ Report ∷ Decide ∷ Depart ∷ Resume ∷ []) bytes name behind_name some) refl told

-- the name and the numbers of an event
pub record Parts (event : Event) : Type 0 where
  pub name : Name
  pub pe : ℕ
  pub element : ℕ
  pub same : event ≡ event_of name pe element
  pub numbers : IsFormed event → AreNumbers name pe element

numbered : (name : Name) (p e : ℕ) → p < 10 ^ DIGITS → e < 10 ^ DIGITS → (has_pe name ≡ false → p ≡ 0) → (has_element name ≡ false → e ≡ 0) → AreNumbers name p e
numbered name p e small_pe small_element no_pe no_element = record { small_pe = small_pe; small_element = small_element; no_pe = no_pe; no_element = no_element }

parts : (event : Event) → Parts event
parts (Event.Start p e) = record { name = Start; pe = p; element = e; same = refl; numbers = λ is. numbered Start p e is.0 is.1 (λ no. cc) (λ no. cc) }
parts (Event.Look p) = record { name = Look; pe = p; element = 0; same = refl; numbers = λ is. numbered Look p 0 is.0 (omega arith) (λ no. cc) (λ _. refl) }
parts (Event.Flush p) = record { name = Flush; pe = p; element = 0; same = refl; numbers = λ is. numbered Flush p 0 is.0 (omega arith) (λ no. cc) (λ _. refl) }
parts (Event.Deliver p) = record { name = Deliver; pe = p; element = 0; same = refl; numbers = λ is. numbered Deliver p 0 is.0 (omega arith) (λ no. cc) (λ _. refl) }
parts (Event.Act p) = record { name = Act; pe = p; element = 0; same = refl; numbers = λ is. numbered Act p 0 is.0 (omega arith) (λ no. cc) (λ _. refl) }
parts (Event.Report p) = record { name = Report; pe = p; element = 0; same = refl; numbers = λ is. numbered Report p 0 is.0 (omega arith) (λ no. cc) (λ _. refl) }
parts Event.Decide = record { name = Decide; pe = 0; element = 0; same = refl; numbers = λ is. numbered Decide 0 0 (omega arith) (omega arith) (λ _. refl) (λ _. refl) }
parts (Event.Depart p e) = record { name = Depart; pe = p; element = e; same = refl; numbers = λ is. numbered Depart p e is.0 is.1 (λ no. cc) (λ no. cc) }
parts (Event.Resume p e) = record { name = Resume; pe = p; element = e; same = refl; numbers = λ is. numbered Resume p e is.0 is.1 (λ no. cc) (λ no. cc) }

-- the line of an event is read as that event
pub record IsReadAs (event : Event) (tail : List ℕ) : Type 0 where
  pub line : Line
  pub read : line_at (event_line event ++ tail) ≡ Some line
  pub event_is : line_event line ≡ event
  pub rest_is : line.rest ≡ tail

pub event_reads : (event : Event) (tail : List ℕ) → IsFormed event → IsReadAs event tail
event_reads event tail formed =
    let p = parts event in
    record {
      line = said p.name p.pe p.element tail;
      read = ap (λ t. line_at (t ++ tail)) (ap event_line p.same ∙ line_is p.name p.pe p.element) ∙ line_reads p.name p.pe p.element tail (p.numbers formed);
      event_is = sym p.same;
      rest_is = refl;
    }

-- the numbers of a line are short
formed_by : (name : Name) (p e : ℕ) → p < 10 ^ DIGITS → e < 10 ^ DIGITS → IsFormed (event_of name p e)
formed_by Start p e small_pe small_element = (small_pe, small_element)
formed_by Look p e small_pe small_element = (small_pe, tt)
formed_by Flush p e small_pe small_element = (small_pe, tt)
formed_by Deliver p e small_pe small_element = (small_pe, tt)
formed_by Act p e small_pe small_element = (small_pe, tt)
formed_by Report p e small_pe small_element = (small_pe, tt)
formed_by Decide p e small_pe small_element = (tt, tt)
formed_by Depart p e small_pe small_element = (small_pe, small_element)
formed_by Resume p e small_pe small_element = (small_pe, small_element)

-- an event in its range has short numbers
pub within_formed : (event : Event) → IsWithin event → IsFormed event
within_formed (Event.Start p e) is = (omega (arith, is.0), omega (arith, is.1))
within_formed (Event.Look p) is = (omega (arith, is.0), tt)
within_formed (Event.Flush p) is = (omega (arith, is.0), tt)
within_formed (Event.Deliver p) is = (omega (arith, is.0), tt)
within_formed (Event.Act p) is = (omega (arith, is.0), tt)
within_formed (Event.Report p) is = (omega (arith, is.0), tt)
within_formed Event.Decide is = (tt, tt)
within_formed (Event.Depart p e) is = (omega (arith, is.0), omega (arith, is.1))
within_formed (Event.Resume p e) is = (omega (arith, is.0), omega (arith, is.1))

-- bytes of which no line is read begin with none
pub malformed : (bytes : List ℕ) → line_at bytes ≡ None → IsMalformed bytes
malformed bytes none =
    λ event tail formed spelled.
    let reads = event_reads event tail formed in
    let read : line_at bytes ≡ Some reads.line = ap line_at spelled ∙ reads.read in
    cc

-- bytes of which a line is read begin with that of its event
pub spelled_line : (bytes : List ℕ) (line : Line) → line_at bytes ≡ Some line → bytes ≡ event_line (line_event line) ++ line.rest
spelled_line bytes line read =
    (is_line bytes line read).spelled ∙ ap (λ t. t ++ line.rest) (sym (line_is line.name line.pe line.element))

pub past : (bytes : List ℕ) (line : Line) → line_at bytes ≡ Some line → (IsWithin (line_event line) → ⊥) → IsPast bytes
past bytes line read outside =
    let numbers = (is_line bytes line read).numbers in
    record {
      event = line_event line;
      tail = line.rest;
      formed = formed_by line.name line.pe line.element numbers.small_pe numbers.small_element;
      spelled = spelled_line bytes line read;
      past = outside;
    }

-- bytes begin with one line at most
pub one_line : (x y : Event) (t u : List ℕ) → IsFormed x → IsFormed y → event_line x ++ t ≡ event_line y ++ u → (x ≡ y) × (t ≡ u)
one_line x y t u x_formed y_formed same =
    let one = event_reads x t x_formed in
    let other = event_reads y u y_formed in
    let both : Some one.line ≡ Some other.line = sym one.read ∙ ap line_at same ∙ other.read in
    let lines : one.line ≡ other.line = cc in
    (sym one.event_is ∙ ap line_event lines ∙ other.event_is, sym one.rest_is ∙ ap (λ (l : Line). l.rest) lines ∙ other.rest_is)
