-- What each event of a PE that leaves the queues alone does to the letters and elements that the PE has.
use Rattle.std.proofs.Common.{◌≡◌, ℕ, List, Option, Some, None, ◌≤◌, sym, ◌∙◌, ap, subst}
use Rattle.std.specs.Prelude.{Result, IfSome, slice_get}
use Rattle.std.specs.Option.{option_and_then}
use Rattle.chares.specs.declared.carried.Carried.TheVariants.{Letter, Element}
use Rattle.chares.specs.declared.entry.Entry.TheVariants.{Letter as OfLetter, Resumption}
use Rattle.chares.specs.Steps.{Step}
use Rattle.pup_pack.specs.declared.error.PupError.{PupError}
use Rattle.pe_state.specs.Pes.{PeView, Parcel, Item, waits_at, waits_for}
use Rattle.rts_core.specs.declared.event.Event.{Event}
use Rattle.rts_core.specs.Events.{LocalView}
use Rattle.overtaking_laws.proofs.Aims.{IsHeld, HeldItem, LettersAim, handled_aims, looked_aims, shelving_aims, forwarding_aims, installed_aims, departed_aims, noted_aims}
use Rattle.overtaking_laws.proofs.OwnTurns.{Frees, IsInHand, EachOwnTurn}
use Rattle.overtaking_laws.proofs.RoundPlaces.{placed_in}
use Rattle.overtaking_laws.proofs.SeenWords.{places_seen, word_seen}

module _ {C A : Type 0} (step : Step C) (pack : C → List ℕ) (unpack : List ℕ → Result (C × ℕ) PupError) (n pes p known : ℕ) (d : LocalView C A)
    (h : LettersAim n pes d.board p known d.pe) where
  abbrev pub Aim : PeView C → Type 0
  Aim pe = LettersAim n pes d.board p known pe

  -- what is known of a parcel in the hand
  held : (parcel : Parcel) (o : Option ℕ) → IsInHand d.pe parcel o → IsHeld n pes d.board p known parcel o
  held parcel o x =
      let it : IsHeld n pes d.board p known x.item.parcel x.item.address = subst (λ (v : Option Item). IfSome v (HeldItem n pes d.board p known)) x.hand h.hand in
      let this : IsHeld n pes d.board p known parcel x.item.address = subst (λ (v : Parcel). IsHeld n pes d.board p known v x.item.address) x.is it in
      subst (IsHeld n pes d.board p known parcel) x.at this

  -- the letters and elements of the PE still go where they should
  pub turn_aims : (event : Event) → d.words ≡ places_seen n pes d.board p known d.pe
      → ((e round : ℕ) → Frees event e → waits_at d.pe e ≡ Some round → round ≤ known) → EachOwnTurn step pack unpack event p d Aim
  turn_aims event words informed =
      record {
        starts = λ e el calm at. handled_aims n pes d.board p known d.pe h step pack e (Resumption 0) d.pe.hand h.hand;
        goes_on = λ e round calm frees x. handled_aims n pes d.board p known d.pe h step pack e (Resumption round) d.pe.hand h.hand;
        departs = λ e round q calm frees x.
            let le : round ≤ known = informed e round frees (ap (option_and_then waits_for) x.stands ∙ x.waits) in
            departed_aims n pes d.board p known d.pe h pack e q (record { round = round; within = le; placed = placed_in n pes d.board e round q x.place });
        looks = λ e word calm wants at.
            let there : slice_get (places_seen n pes d.board p known d.pe) e ≡ Some word = subst (λ (v : List ℕ). slice_get v e ≡ Some word) words at in
            looked_aims n pes d.board p known d.pe h e word wants (word_seen n pes d.board p known d.pe e word there);
        executes = λ l o el acts x at. handled_aims n pes d.board p known d.pe h step pack l.to (OfLetter l) None tt;
        shelves = λ l q acts x here. shelving_aims n pes d.board p known d.pe h l (held (Letter l) (Some q) x).0;
        forwards = λ l q acts x other. forwarding_aims n pes d.board p known d.pe h l q ((held (Letter l) (Some q) x).1 (λ same. other (same ∙ sym h.me)));
        installs = λ x o chare acts y. installed_aims n pes d.board p known d.pe h x chare (held (Element x) o y);
        reports = λ calm. noted_aims n pes d.board p known d.pe h;
      }
