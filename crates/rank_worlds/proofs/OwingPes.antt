-- A PE that owes more notes makes the same calls, except for the one that says that a note is done.
use Rattle.std.proofs.Common.{◌≡◌, ℕ, List, ◌++◌, Option, Some, None, Bool, true, false, refl, ap, append_assoc}
use Rattle.std.specs.Prelude.{Result, Ok, Err, ◌==◌, if◌then◌else◌}
use Rattle.std.specs.Option.{option_to_list}
use Rattle.chares.specs.declared.carried.Carried.TheVariants.{Letter, Element}
use Rattle.chares.specs.declared.entry.Entry.TheVariants.{Letter as OfLetter, Resumption}
use Rattle.chares.specs.declared.note.Note.{Note}
use Rattle.chares.specs.Elements.{ElementView, PackedView}
use Rattle.chares.specs.Letters.{LetterView, Done}
use Rattle.chares.specs.Steps.{Step}
use Rattle.pe_state.specs.Pes.{Acting, Item, Parcel, PeView, acting, acting_on, executed, forwarding, handled, hand_wants, installing, looked, looked_in, on_element, on_letter, on_parcel, passing, pe_after, resumed, shelving, trace_of}
use Rattle.pe_state.specs.Rooms.{found, note_in}
use Rattle.pup_pack.specs.declared.error.PupError.{PupError}

-- a PE with these notes in front of its own, and with another address kept
abbrev pub owing : {C : Type 0} → PeView C → List Note → Option ℕ → PeView C
owing h notes kept = record h { notes = notes ++ h.notes; kept = kept }

-- a PE is another one with these notes in front
abbrev pub Owes : {C : Type 0} → List Note → PeView C → PeView C → Type 0
Owes notes h pe = pe ≡ owing h notes pe.kept

module _ {C : Type 0} (step : Step C) (pack : C → List ℕ) (h : PeView C) (notes : List Note) (kept : Option ℕ) where
  handles : (e : ℕ) (done : Done) (hand : Option Item) → Owes notes (handled step pack h e done hand) (handled step pack (owing h notes kept) e done hand)
  handles e done hand =
      ap (λ (v : List Note). record (handled step pack h e done hand) { notes = v; kept = None })
      (append_assoc notes h.notes (option_to_list (note_in step pack h.room e h.n h.me done)))

  pub resumes_owing : (e round : ℕ) → Owes notes (resumed step pack h e round) (resumed step pack (owing h notes kept) e round)
  resumes_owing e round = handles e (Resumption round) h.hand

  looks_in : (q : ℕ) (o : Option ℕ) → Owes notes (looked_in h q o) (looked_in (owing h notes kept) q o)
  looks_in q None = refl
  looks_in q (Some e) = refl

  pub looks_owing : (q : ℕ) → Owes notes (looked h q) (looked (owing h notes kept) q)
  looks_owing q = looks_in q (hand_wants h)

  -- both act, with the same trace entries, or neither does
  abbrev BothAct : Option (Acting C) → Option (Acting C) → Type 0
  BothAct None None = Unit {0}
  BothAct None (Some b) = ⊥
  BothAct (Some a) None = ⊥
  BothAct (Some a) (Some b) = Owes notes a.pe b.pe × (b.trace ≡ a.trace)

  pass : (l : LetterView) (q : ℕ) (own : Bool)
      → BothAct (Some (if own then shelving h l else forwarding h l q)) (Some (if own then shelving (owing h notes kept) l else forwarding (owing h notes kept) l q))
  pass l q true = (refl, refl)
  pass l q false = (refl, refl)

  passes : (l : LetterView) (address : Option ℕ) → BothAct (passing h l address) (passing (owing h notes kept) l address)
  passes l None = tt
  passes l (Some q) = pass l q (q == h.me)

  execute : (l : LetterView) (started : Bool)
      → BothAct (if started then Some (executed step pack h l) else None) (if started then Some (executed step pack (owing h notes kept) l) else None)
  execute l true = (handles l.to (OfLetter l) None, refl)
  execute l false = tt

  on_letters : (l : LetterView) (address : Option ℕ) (o : Option (ElementView C))
      → BothAct (on_letter step pack h l address o) (on_letter step pack (owing h notes kept) l address o)
  on_letters l address None = passes l address
  on_letters l address (Some el) = execute l el.progress.started

  module _ (unpack : List ℕ → Result (C × ℕ) PupError) where
    installs : (p : PackedView) (r : Result (C × ℕ) PupError) → BothAct (installing step pack unpack h p r) (installing step pack unpack (owing h notes kept) p r)
    installs p (Err error) = tt
    installs p (Ok x) = (refl, refl)

    on_elements : (p : PackedView) (o : Option (ElementView C))
        → BothAct (on_element step pack unpack h p o) (on_element step pack unpack (owing h notes kept) p o)
    on_elements p None = installs p (unpack p.bytes)
    on_elements p (Some el) = tt

    on_parcels : (parcel : Parcel) (address : Option ℕ)
        → BothAct (on_parcel step pack unpack h parcel address) (on_parcel step pack unpack (owing h notes kept) parcel address)
    on_parcels (Letter l) address = on_letters l address (found l.to h.room)
    on_parcels (Element p) address = on_elements p (found p.index h.room)

    on_hands : (hand : Option Item) → BothAct (acting_on step pack unpack h hand) (acting_on step pack unpack (owing h notes kept) hand)
    on_hands None = tt
    on_hands (Some x) = on_parcels x.parcel x.address

    acted : (a b : Option (Acting C)) → BothAct a b → Owes notes (pe_after h a) (pe_after (owing h notes kept) b) × (trace_of b ≡ trace_of a)
    acted None None both = (refl, refl)
    acted None (Some b) both = absurd both
    acted (Some a) None both = absurd both
    acted (Some a) (Some b) both = both

    pub acts_owing : Owes notes (pe_after h (acting step pack unpack h)) (pe_after (owing h notes kept) (acting step pack unpack (owing h notes kept)))
        × (trace_of (acting step pack unpack (owing h notes kept)) ≡ trace_of (acting step pack unpack h))
    acts_owing = acted (acting step pack unpack h) (acting step pack unpack (owing h notes kept)) (on_hands h.hand)
