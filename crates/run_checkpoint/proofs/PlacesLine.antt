-- The line of the places, number by number.
use Rattle.std.proofs.Common.{◌≡◌, ℕ, ◌+◌, ◌<◌, Bool, true, false, List, [], ◌∷◌, ◌++◌, length, Option, Some, None, sym, ap, subst, ◌∙◌, refl, arith, append_assoc, length-append}
use Rattle.std.specs.Prelude.{All, MatchBool, codes, not, ◌||◌}
use Rattle.std.specs.Fmt.{decimal}
use Rattle.std.specs.List.{flat_map}
use Rattle.std.proofs.lemmas.List.{append-nil, length_push}
use Rattle.std.proofs.lemmas.List.Concat.{flat_map-append}
use Rattle.std.proofs.lemmas.List.Elements.{All-nil, All-cons, All-head, All-tail, All-push, All-weaker}
use Rattle.chare_index.specs.declared.limits.TheConstants.Limits.{ELEMENTS, PES}
use Rattle.workload.specs.Text.{blank_number}
use Rattle.run_checkpoint.specs.declared.error.CheckpointError.TheVariants.{Form, Limit}
use Rattle.run_checkpoint.specs.Faults.{AreBadPlaces, ArePlaces, IsShort}
use Rattle.run_checkpoint.specs.Fields.{AreKept, AreFields}
use Rattle.run_checkpoint.specs.Scanning.{IsFront, behind, number_at}
use Rattle.run_checkpoint.specs.Text.{places_line}
use Rattle.run_checkpoint.proofs.Digits.{NoDigit, same_parts}
use Rattle.run_checkpoint.proofs.Words.{behind_word, is_behind, not_behind, is_number, number_reads}

abbrev IsPlace : ℕ → Type 0
IsPlace p = p < PES

-- numbers, each after a blank
abbrev fields : List ℕ → List ℕ
fields numbers = flat_map blank_number numbers

-- of all numbers, those after some of them begin the rest
pub record Left (numbers rest all tail : List ℕ) : Type 0 where
  pub more : List ℕ
  pub split : all ≡ numbers ++ more
  pub formed : All IsShort more
  pub spelled : rest ≡ flat_map blank_number more ++ 10 ∷ tail

-- some numbers are taken
pub record Taken (bytes : List ℕ) (past : Bool) (places rest : List ℕ) : Type 0 where
  pub numbers : List ℕ
  pub spelled : bytes ≡ flat_map blank_number numbers ++ rest
  pub formed : All IsShort numbers
  pub kept : AreKept past places numbers
  pub left : (all tail : List ℕ) → All IsShort all → bytes ≡ flat_map blank_number all ++ 10 ∷ tail → Left numbers rest all tail

pub none_taken : (bytes places : List ℕ) → places ≡ [] → Taken bytes false places bytes
none_taken bytes places empty =
    record {
      numbers = [];
      spelled = refl;
      formed = All-nil IsShort;
      kept = (empty, record { few = omega arith; all = All-nil IsPlace });
      left = λ all tail are spelled. record { more = all; split = refl; formed = are; spelled = spelled };
    }

-- the numbers that follow a number begin with no digit
plain_fields : (more tail : List ℕ) → NoDigit (fields more ++ 10 ∷ tail)
plain_fields [] tail = refl
plain_fields (m ∷ more) tail = refl

-- the first of some numbers is read as it is
first_read : (m : ℕ) (more tail rest : List ℕ) → IsShort m → rest ≡ fields (m ∷ more) ++ 10 ∷ tail
    → number_at (32 ∷ []) rest ≡ Some (m, fields more ++ 10 ∷ tail)
first_read m more tail rest small spelled =
    ap (number_at (32 ∷ [])) (spelled ∙ append_assoc (blank_number m) (fields more) (10 ∷ tail))
    ∙ number_reads (32 ∷ []) m (fields more ++ 10 ∷ tail) small (plain_fields more tail)

-- nothing is read where no number is left
none_read : (rest tail : List ℕ) (n : ℕ) (after : List ℕ) → rest ≡ 10 ∷ tail → number_at (32 ∷ []) rest ≡ Some (n, after) → ⊥
none_read rest tail n after spelled read =
    let none : number_at (32 ∷ []) rest ≡ None = ap (number_at (32 ∷ [])) spelled in
    let other : ◌≡◌ {A = Option (ℕ × List ℕ)} None (Some (n, after)) = sym none ∙ read in
    cc

-- one more is taken, which is kept or not
pub record Next (past past' : Bool) (places places' : List ℕ) (n : ℕ) : Type 0 where
  pub still : past ≡ true → past' ≡ true
  pub kept : past ≡ false → past' ≡ false → (places' ≡ places ++ n ∷ []) × (length places < ELEMENTS) × (n < PES)
  pub lost : past ≡ false → past' ≡ true → (length places < ELEMENTS) × (n < PES) → ⊥

pub next_of : (past kept : Bool) (places places' : List ℕ) (n : ℕ)
    → MatchBool kept ((places' ≡ places ++ n ∷ []) × (length places < ELEMENTS) × (n < PES)) ((length places < ELEMENTS) × (n < PES) → ⊥)
    → Next past (past || not kept) places places' n
next_of true kept places places' n is =
    record {
      still = λ _. refl;
      kept = λ no _. absurd (let other : ◌≡◌ {A = Bool} true false = no in cc);
      lost = λ no _. absurd (let other : ◌≡◌ {A = Bool} true false = no in cc);
    }
next_of false true places places' n is =
    record {
      still = λ no. absurd (let other : ◌≡◌ {A = Bool} false true = no in cc);
      kept = λ _ _. is;
      lost = λ _ no. absurd (let other : ◌≡◌ {A = Bool} false true = no in cc);
    }
next_of false false places places' n is =
    record {
      still = λ _. refl;
      kept = λ _ no. absurd (let other : ◌≡◌ {A = Bool} true false = no in cc);
      lost = λ _ _. is;
    }

-- what is behind a number is shorter
pub shorter : (rest : List ℕ) (n : ℕ) (after : List ℕ) → number_at (32 ∷ []) rest ≡ Some (n, after) → length after < length rest
shorter rest n after read =
    let spelled = (is_number (32 ∷ []) rest n after read).spelled in
    omega (arith, ap length spelled, length-append (decimal n) after)

pub one_taken : (bytes : List ℕ) (past past' : Bool) (places places' rest after : List ℕ) (n : ℕ) → Taken bytes past places rest
    → number_at (32 ∷ []) rest ≡ Some (n, after) → Next past past' places places' n → Taken bytes past' places' after
one_taken bytes past past' places places' rest after n before read next =
    record {
      numbers = before.numbers ++ n ∷ [];
      spelled =
          before.spelled
          ∙ ap (λ t. fields before.numbers ++ t) ((is_number (32 ∷ []) rest n after read).spelled ∙ lone_field)
          ∙ sym (append_assoc (fields before.numbers) (fields (n ∷ [])) after)
          ∙ ap (λ t. t ++ after) (sym (flat_map-append blank_number before.numbers (n ∷ [])));
      formed = All-push IsShort before.numbers n before.formed (is_number (32 ∷ []) rest n after read).small;
      kept = keeps past past' before.kept next;
      left = λ all tail are spelled. let l = before.left all tail are spelled in further all tail l.more l.split l.formed l.spelled;
    }
  where
    lone_field : 32 ∷ (decimal n ++ after) ≡ fields (n ∷ []) ++ after
    lone_field = ap (λ t. 32 ∷ (t ++ after)) (sym (append-nil (decimal n)))

    last_of : (xs : List ℕ) → ArePlaces (xs ++ n ∷ []) → (length xs < ELEMENTS) × (n < PES)
    last_of xs are = (omega (arith, are.few, length_push xs n), last xs are.all)
      where
        last : (ys : List ℕ) → All IsPlace (ys ++ n ∷ []) → n < PES
        last [] all = All-head IsPlace n [] all
        last (y ∷ ys) all = last ys (All-tail IsPlace y (ys ++ n ∷ []) all)

    front_of : (xs : List ℕ) → ArePlaces (xs ++ n ∷ []) → ArePlaces xs
    front_of xs are = record { few = omega (arith, are.few, length_push xs n); all = front xs are.all }
      where
        front : (ys : List ℕ) → All IsPlace (ys ++ n ∷ []) → All IsPlace ys
        front [] all = All-nil IsPlace
        front (y ∷ ys) all = All-cons IsPlace y ys (All-head IsPlace y (ys ++ n ∷ []) all) (front ys (All-tail IsPlace y (ys ++ n ∷ []) all))

    keeps : (p p' : Bool) → AreKept p places before.numbers → Next p p' places places' n → AreKept p' places' (before.numbers ++ n ∷ [])
    keeps false false kept step =
        let more = step.kept refl refl in (
          more.0 ∙ ap (λ xs. xs ++ n ∷ []) kept.0,
          record {
            few = omega (arith, more.1, ap length kept.0, length_push before.numbers n);
            all = All-push IsPlace before.numbers n kept.1.all more.2;
          },
        )
    keeps false true kept step = λ are. let last = last_of before.numbers are in step.lost refl refl (omega (arith, last.0, ap length kept.0), last.1)
    keeps true false kept step = absurd (let no : ◌≡◌ {A = Bool} false true = step.still refl in cc)
    keeps true true kept step = λ are. kept (front_of before.numbers are)

    further : (all tail more : List ℕ) → all ≡ before.numbers ++ more → All IsShort more → rest ≡ fields more ++ 10 ∷ tail
        → Left (before.numbers ++ n ∷ []) after all tail
    further all tail [] split formed spelled = absurd (none_read rest tail n after spelled read)
    further all tail (m ∷ more) split formed spelled =
        let first = first_read m more tail rest (All-head IsShort m more formed) spelled in
        let same = same_parts m n (fields more ++ 10 ∷ tail) after (sym first ∙ read) in
        record {
          more = more;
          split = split ∙ ap (λ x. before.numbers ++ x ∷ more) same.0 ∙ sym (append_assoc before.numbers (n ∷ []) more);
          formed = All-tail IsShort m more formed;
          spelled = sym same.1;
        }

-- no number follows
pub all_taken : (bytes : List ℕ) (past : Bool) (places rest : List ℕ) → Taken bytes past places rest → number_at (32 ∷ []) rest ≡ None → AreFields bytes past places rest
all_taken bytes past places rest before none =
    record {
      numbers = before.numbers;
      spelled = before.spelled;
      formed = before.formed;
      kept = before.kept;
      lone = λ all tail are spelled. let l = before.left all tail are spelled in none_left all tail l.more l.split l.formed l.spelled;
    }
  where
    none_left : (all tail more : List ℕ) → all ≡ before.numbers ++ more → All IsShort more → rest ≡ fields more ++ 10 ∷ tail
        → (all ≡ before.numbers) × (rest ≡ 10 ∷ tail)
    none_left all tail [] split formed spelled = (split ∙ append-nil before.numbers, spelled)
    none_left all tail (m ∷ more) split formed spelled =
        let first = first_read m more tail rest (All-head IsShort m more formed) spelled in
        let other : ◌≡◌ {A = Option (ℕ × List ℕ)} None (Some (m, fields more ++ 10 ∷ tail)) = sym none ∙ first in
        absurd cc

-- the parts of the line of the places
line_parts : (places tail : List ℕ) → places_line places ++ tail ≡ codes "places" ++ (fields places ++ 10 ∷ tail)
line_parts places tail =
    append_assoc (codes "places") (fields places ++ 10 ∷ []) tail ∙ ap (λ t. codes "places" ++ t) (append_assoc (fields places) (10 ∷ []) tail)

-- the word is missing
pub no_word : (number : ℕ) (bytes : List ℕ) → behind (codes "places") bytes ≡ None → AreBadPlaces number bytes (Form number)
no_word number bytes none =
    (refl, λ all tail formed spelled. not_behind (codes "places") bytes (fields all ++ 10 ∷ tail) none (spelled ∙ line_parts all tail))

-- what follows the word of a line of places
after_word : (bytes rest all tail : List ℕ) → behind (codes "places") bytes ≡ Some rest → bytes ≡ places_line all ++ tail → rest ≡ fields all ++ 10 ∷ tail
after_word bytes rest all tail read spelled =
    let both : Some rest ≡ Some (fields all ++ 10 ∷ tail) =
    sym read ∙ ap (behind (codes "places")) (spelled ∙ line_parts all tail) ∙ behind_word (codes "places") (fields all ++ 10 ∷ tail) in
    cc

-- the line does not end
pub no_end : (number : ℕ) (bytes rest : List ℕ) (past : Bool) (places after : List ℕ) → behind (codes "places") bytes ≡ Some rest → AreFields rest past places after
    → behind (10 ∷ []) after ≡ None → AreBadPlaces number bytes (Form number)
no_end number bytes rest past places after word are none = (
  refl,
  λ all tail formed spelled.
      not_behind (10 ∷ []) after tail none (are.lone all tail formed (after_word bytes rest all tail word spelled)).1,
)

-- the line, with all of its numbers
whole_line : (bytes rest : List ℕ) (past : Bool) (places after end_ : List ℕ) → behind (codes "places") bytes ≡ Some rest → (are : AreFields rest past places after)
    → behind (10 ∷ []) after ≡ Some end_ → bytes ≡ places_line are.numbers ++ end_
whole_line bytes rest past places after end_ word are ended =
    is_behind (codes "places") bytes rest word
    ∙ ap (λ t. codes "places" ++ t) (are.spelled ∙ ap (λ t. fields are.numbers ++ t) (is_behind (10 ∷ []) after end_ ended))
    ∙ sym (line_parts are.numbers end_)

-- a number was not kept
pub not_kept : (number : ℕ) (bytes rest places after end_ : List ℕ) → behind (codes "places") bytes ≡ Some rest → AreFields rest true places after
    → behind (10 ∷ []) after ≡ Some end_ → AreBadPlaces number bytes (Limit number)
not_kept number bytes rest places after end_ word are ended = (
  refl,
  record {
    value = are.numbers;
    rest = end_;
    good = are.formed;
    spelled = whole_line bytes rest true places after end_ word are ended;
    next = are.kept;
  },
)

-- all were kept
pub places_front : (bytes rest : List ℕ) (places after end_ : List ℕ) → behind (codes "places") bytes ≡ Some rest → AreFields rest false places after
    → behind (10 ∷ []) after ≡ Some end_ → IsFront ArePlaces places_line bytes places end_
places_front bytes rest places after end_ word are ended =
    let same : places ≡ are.numbers = are.kept.0 in
    record {
      good = subst ArePlaces (sym same) are.kept.1;
      spelled = whole_line bytes rest false places after end_ word are ended ∙ ap (λ xs. places_line xs ++ end_) (sym same);
    }

-- places within their limits have the form of numbers
pub places_form : (places : List ℕ) → ArePlaces places → All IsShort places
places_form places are = All-weaker IsPlace IsShort (λ p below. omega (arith, below)) places are.all

-- bytes begin with one line of places at most
one_fields : (p q t u : List ℕ) → All IsShort p → All IsShort q → fields p ++ 10 ∷ t ≡ fields q ++ 10 ∷ u → (p ≡ q) × (t ≡ u)
one_fields [] [] t u one other same = let tails : t ≡ u = cc in (refl, tails)
one_fields [] (n ∷ q) t u one other same =
    absurd (none_read (10 ∷ t) t n (fields q ++ 10 ∷ u) refl (first_read n q u (10 ∷ t) (All-head IsShort n q other) same))
one_fields (m ∷ p) [] t u one other same =
    absurd (none_read (10 ∷ u) u m (fields p ++ 10 ∷ t) refl (first_read m p t (10 ∷ u) (All-head IsShort m p one) (sym same)))
one_fields (m ∷ p) (n ∷ q) t u one other same =
    let rest : List ℕ = fields (m ∷ p) ++ 10 ∷ t in
    let heads = same_parts m n (fields p ++ 10 ∷ t) (fields q ++ 10 ∷ u)
    (sym (first_read m p t rest (All-head IsShort m p one) refl) ∙ first_read n q u rest (All-head IsShort n q other) same) in
    let later = one_fields p q t u (All-tail IsShort m p one) (All-tail IsShort n q other) heads.1 in
    (joined m n p q heads.0 later.0, later.1)
  where
    joined : (x y : ℕ) (v w : List ℕ) → x ≡ y → v ≡ w → x ∷ v ≡ y ∷ w
    joined x y v w one two = rw (one, two) refl

pub one_places : (p q t u : List ℕ) → All IsShort p → All IsShort q → places_line p ++ t ≡ places_line q ++ u → (p ≡ q) × (t ≡ u)
one_places p q t u one other same =
    let both : Some (fields p ++ 10 ∷ t) ≡ Some (fields q ++ 10 ∷ u) =
    sym (behind_word (codes "places") (fields p ++ 10 ∷ t))
    ∙ ap (behind (codes "places")) (sym (line_parts p t) ∙ same ∙ line_parts q u)
    ∙ behind_word (codes "places") (fields q ++ 10 ∷ u) in
    let rests : fields p ++ 10 ∷ t ≡ fields q ++ 10 ∷ u = cc in
    one_fields p q t u one other rests
