-- What an event moves from site to site: what it takes from where, and puts where; all else stays.
use Rattle.std.proofs.Common.{◌≡◌, ℕ, ◌+◌, List, [], ◌∷◌, map, Option, Some, None, sum_by, arith}
use Rattle.std.specs.Prelude.{⊤, slice_get, slice_set, ◌==◌, ◌&&◌, if◌then◌else◌}
use Rattle.std.proofs.lemmas.Bool.Decides.{nat_tests}
use Rattle.chares.specs.declared.trace_entry.TraceEntry.{TraceEntry}
use Rattle.chares.specs.declared.trace_entry.TraceEntry.TheVariants as Trace
use Rattle.chares.specs.Letters.{LetterView}
use Rattle.pe_state.specs.Pes.{PeView}
use Rattle.rts_core.specs.Worlds.{WorldView}
use Rattle.event_laws.proofs.Sites.{Site, LetterWeight, ElementWeight, no_letters, no_elements, look_site, letter_in, pe_at, world_at, sum_from, sum_from-set}
use Rattle.event_laws.proofs.Sites.Site.{Fresh, Bound, Chasing, Waiting, Room}

-- What moves: nothing; a letter is executed, or none, and these letters are posted; the letter in the hand of PE p gets
-- the look q; the front of an outbox gets the address q; a letter is forwarded to PE q; element e is installed on PE p,
-- and these letters leave its shelf; the element i that is beside index e on PE p departs to PE q
pub data Move : Type 0 where
  Still : Move
  Runs : Option (Site × LetterView) → List LetterView → Move
  Looks : ℕ → ℕ → LetterView → Move
  Addresses : ℕ → LetterView → Move
  Forwards : ℕ → LetterView → Move
  Installs : ℕ → ℕ → List LetterView → Move
  Departs : ℕ → ℕ → ℕ → ℕ → Move

abbrev pub ran_from : LetterWeight → Option (Site × LetterView) → ℕ
ran_from g None = 0
ran_from g (Some x) = letter_in g no_elements x.0 x.1

-- what it takes, and what it puts
abbrev pub taken : LetterWeight → ElementWeight → Move → ℕ
taken g k Still = 0
taken g k (Runs ran new) = ran_from g ran
taken g k (Looks p q l) = letter_in g k (Bound p) l
taken g k (Addresses q l) = letter_in g k Fresh l
taken g k (Forwards q l) = letter_in g k (Chasing q) l
taken g k (Installs p e letters) = k (Bound p) e + sum_by (letter_in g k (Waiting p)) letters
taken g k (Departs p e i q) = k (Room p e) i

abbrev pub put : LetterWeight → ElementWeight → Move → ℕ
put g k Still = 0
put g k (Runs ran new) = sum_by (letter_in g k Fresh) new
put g k (Looks p q l) = letter_in g k (look_site p (Some q)) l
put g k (Addresses q l) = letter_in g k (Bound q) l
put g k (Forwards q l) = letter_in g k (Bound q) l
put g k (Installs p e letters) = k (Room p e) e + sum_by (letter_in g k (Bound p)) letters
put g k (Departs p e i q) = k (Bound q) i

abbrev pub words_after : Move → List ℕ → List ℕ
words_after (Departs p e i q) words = slice_set words e q
words_after m words = words

-- a trace entry of no post, no forwarding and no departure
abbrev pub IsQuiet : TraceEntry → Type 0
IsQuiet (Trace.Posted id to) = ⊥
IsQuiet (Trace.Forwarded id) = ⊥
IsQuiet (Trace.Departed e) = ⊥
IsQuiet r = ⊤

abbrev pub AreQuiet : List TraceEntry → Type 0
AreQuiet [] = ⊤
AreQuiet (r ∷ rs) = IsQuiet r × AreQuiet rs

abbrev pub post_of : LetterView → TraceEntry
post_of l = Trace.Posted l.id l.to

-- 1 for the element with an index that is beside this index in the room of PE p, and for a letter that waits there for
-- it
abbrev pub in_room : ℕ → ℕ → ElementWeight
in_room p e (Room r key) i = if (r == p) && (key == e) then 1 else 0
in_room p e s i = 0

pub room_itself : (p e i : ℕ) → in_room p e (Room p e) i ≡ 1
room_itself p e i = grind (arith, nat_tests)

abbrev pub waits_at : ℕ → ℕ → LetterWeight
waits_at p e (Waiting r) id to = if (r == p) && (to == e) then 1 else 0
waits_at p e s id to = 0

module _ {C A : Type 0} where
  -- what holds of a move, with its trace entries
  abbrev pub Facts : WorldView C A → WorldView C A → List TraceEntry → Move → Type 0
  Facts w stays rs Still = AreQuiet rs
  Facts w stays rs (Runs ran new) = (first : TraceEntry) × IsQuiet first × (rs ≡ first ∷ map post_of new)
  Facts w stays rs (Looks p q l) = (rs ≡ []) × (slice_get w.words l.to ≡ Some q) × (world_at no_letters (in_room p l.to) w ≡ 0)
  Facts w stays rs (Addresses q l) = (rs ≡ []) × (slice_get w.words l.to ≡ Some q)
  Facts w stays rs (Forwards q l) = rs ≡ Trace.Forwarded l.id ∷ []
  Facts w stays rs (Installs p e letters) = (rs ≡ Trace.Installed e ∷ []) × (world_at (waits_at p e) no_elements stays ≡ 0)
  Facts w stays rs (Departs p e i q) = rs ≡ Trace.Departed e ∷ []

  -- from a world to another, with these trace entries, this moves
  pub record Change (w w' : WorldView C A) (rs : List TraceEntry) : Type 0 where
    pub move : Move
    pub stays : WorldView C A
    pub takes : (g : LetterWeight) (k : ElementWeight) → world_at g k w ≡ taken g k move + world_at g k stays
    pub puts : (g : LetterWeight) (k : ElementWeight) → world_at g k w' ≡ put g k move + world_at g k stays
    pub words : w'.words ≡ words_after move w.words
    pub facts : Facts w stays rs move

  -- the world with another PE at index p
  abbrev pub with_pe : WorldView C A → ℕ → PeView C → WorldView C A
  with_pe w p pe = record { pes = slice_set w.pes p pe; queues = w.queues; words = w.words; board = w.board }

  -- what moves on one PE
  pub on_pe : (w : WorldView C A) (p : ℕ) (pe pe' kept : PeView C) (words : List ℕ) (board : _) (rs : List TraceEntry) (m : Move)
      → slice_get w.pes p ≡ Some pe
      → ((g : LetterWeight) (k : ElementWeight) → pe_at g k p pe ≡ taken g k m + pe_at g k p kept)
      → ((g : LetterWeight) (k : ElementWeight) → pe_at g k p pe' ≡ put g k m + pe_at g k p kept)
      → words ≡ words_after m w.words
      → Facts w (with_pe w p kept) rs m
      → Change w (record { pes = slice_set w.pes p pe'; queues = w.queues; words = words; board = board }) rs
  on_pe w p pe pe' kept words board rs m at out into named facts =
      record {
        move = m;
        stays = with_pe w p kept;
        takes = λ g k.
            let a : sum_from (λ q (x : PeView C). pe_at g k q x) (slice_set w.pes p kept) + pe_at g k p pe ≡ sum_from
            (λ q (x : PeView C). pe_at g k q x) w.pes + pe_at g k p kept = sum_from-set (λ q (x : PeView C). pe_at g k q x) w.pes p pe kept at in
            let b = out g k in
            omega (arith, a, b);
        puts = λ g k.
            let a : sum_from (λ q (x : PeView C). pe_at g k q x) (slice_set w.pes p kept) + pe_at g k p pe ≡ sum_from
            (λ q (x : PeView C). pe_at g k q x) w.pes + pe_at g k p kept = sum_from-set (λ q (x : PeView C). pe_at g k q x) w.pes p pe kept at in
            let b : sum_from (λ q (x : PeView C). pe_at g k q x) (slice_set w.pes p pe') + pe_at g k p pe ≡ sum_from
            (λ q (x : PeView C). pe_at g k q x) w.pes + pe_at g k p pe' = sum_from-set (λ q (x : PeView C). pe_at g k q x) w.pes p pe pe' at in
            let c = into g k in
            omega (arith, a, b, c);
        words = named;
        facts = facts;
      }
