-- What a PE holds stays addressed to PEs that there are.
use Rattle.std.proofs.Common.{◌≡◌, ℕ, ◌<◌, List, [], ◌∷◌, drop, Option, Some, None, Bool, true, false, subst}
use Rattle.std.specs.Prelude.{Result, Ok, Err, ◌==◌, if◌then◌else◌}
use Rattle.std.specs.List.{filter}
use Rattle.std.specs.Option.{option_map, option_to_list}
use Rattle.chares.specs.declared.carried.Carried.TheVariants.{Letter, Element}
use Rattle.chares.specs.declared.entry.Entry.TheVariants.{Letter as OfLetter, Resumption}
use Rattle.chares.specs.Elements.{ElementView, PackedView, packed}
use Rattle.chares.specs.Letters.{LetterView, Done, hopped}
use Rattle.chares.specs.Steps.{Step}
use Rattle.pe_state.specs.Pes.{Acting, Item, Parcel, PeView, acting, acting_on, at_pe, departed, element_at, executed, forwarding, front_address, front_at, gave_up, handled, hand_wants, installing, is_for, letter_at, looked, looked_in, on_element, on_letter, on_parcel, passing, pe_after, resumed, shelving}
use Rattle.pe_state.specs.Rooms.{found, sends_in}
use Rattle.pe_state.specs.Standing.{AreBelow, IsBelow, IsHandBelow}
use Rattle.pe_state.proofs.Below.{both_below, last_below, posted_below, unshelved}
use Rattle.pup_pack.specs.declared.error.PupError.{PupError}

-- a PE is one of this many, and all that it holds is addressed to those
pub record IsAddressed {C : Type 0} (pes : ℕ) (pe : PeView C) : Type 0 where
  pub me : pe.me < pes
  pub hand : IsHandBelow pes pe.hand
  pub outbox : AreBelow pes pe.outbox

-- where the front of an outbox goes
address_below : (pes q : ℕ) (address : Option ℕ) → address ≡ Some q → IsBelow pes address → q < pes
address_below pes q None is below = absurd (cc is)
address_below pes q (Some i) is below = let same : i ≡ q = cc in subst (λ (v : ℕ). v < pes) same below

pub front_below : (pes : ℕ) (outbox : List Item) (q : ℕ) → AreBelow pes outbox → front_address outbox ≡ Some q → q < pes
front_below pes [] q below is = absurd (cc is)
front_below pes (x ∷ xs) q below is = address_below pes q x.address is below.0

module _ {C : Type 0} (pes : ℕ) (pe : PeView C) (so : IsAddressed pes pe) where
  found_hand : (q : ℕ) (hand : Option Item) → q < pes → IsHandBelow pes (option_map (at_pe q) hand)
  found_hand q None less = tt
  found_hand q (Some x) less = less

  found_front : (q : ℕ) (outbox : List Item) → q < pes → AreBelow pes outbox → AreBelow pes (front_at q outbox)
  found_front q [] less below = tt
  found_front q (x ∷ xs) less below = (less, below.1)

  looks_in : (q : ℕ) (o : Option ℕ) → q < pes → IsAddressed pes (looked_in pe q o)
  looks_in q None less = record { me = so.me; hand = so.hand; outbox = found_front q pe.outbox less so.outbox }
  looks_in q (Some e) less = record { me = so.me; hand = found_hand q pe.hand less; outbox = so.outbox }

  pub looks_addressed : (q : ℕ) → q < pes → IsAddressed pes (looked pe q)
  looks_addressed q less = looks_in q (hand_wants pe) less

  without_front : (outbox : List Item) → AreBelow pes outbox → AreBelow pes (drop 1 outbox)
  without_front [] below = tt
  without_front (x ∷ xs) below = below.1

  pub gives_addressed : IsAddressed pes (gave_up pe)
  gives_addressed = record { me = so.me; hand = so.hand; outbox = without_front pe.outbox so.outbox }

  packs : (q : ℕ) (o : Option PackedView) → q < pes → AreBelow pes (option_to_list (option_map (element_at q) o))
  packs q None less = tt
  packs q (Some p) less = (less, tt)

  pub departs_addressed : (pack : C → List ℕ) (e q : ℕ) → q < pes → IsAddressed pes (departed pack pe e q)
  departs_addressed pack e q less =
      record {
        me = so.me;
        hand = so.hand;
        outbox = both_below pes pe.outbox (option_to_list (option_map (element_at q) (option_map (packed pack) (found e pe.room)))) so.outbox
            (packs q (option_map (packed pack) (found e pe.room)) less);
      }

  module _ (step : Step C) (pack : C → List ℕ) where
    handles : (e : ℕ) (done : Done) (hand : Option Item) → IsHandBelow pes hand → IsAddressed pes (handled step pack pe e done hand)
    handles e done hand below =
        record { me = so.me; hand = below; outbox = posted_below pes pe.me pe.count pe.outbox (sends_in step pack pe.room e pe.n done) so.outbox }

    pub resumes_addressed : (e round : ℕ) → IsAddressed pes (resumed step pack pe e round)
    resumes_addressed e round = handles e (Resumption round) pe.hand so.hand

    -- after Act, where it is enabled
    abbrev ActsSo : Option (Acting C) → Type 0
    ActsSo None = Unit {0}
    ActsSo (Some a) = IsAddressed pes a.pe

    pass : (l : LetterView) (q : ℕ) (own : Bool) → q < pes → ActsSo (Some (if own then shelving pe l else forwarding pe l q))
    pass l q true less = record { me = so.me; hand = tt; outbox = so.outbox }
    pass l q false less = record { me = so.me; hand = tt; outbox = last_below pes pe.outbox (letter_at q (hopped l)) so.outbox less }

    passes : (l : LetterView) (address : Option ℕ) → IsBelow pes address → ActsSo (passing pe l address)
    passes l None below = tt
    passes l (Some q) below = pass l q (q == pe.me) below

    executes : (l : LetterView) (started : Bool) → ActsSo (if started then Some (executed step pack pe l) else None)
    executes l true = handles l.to (OfLetter l) None tt
    executes l false = tt

    on_letters : (l : LetterView) (address : Option ℕ) (o : Option (ElementView C)) → IsBelow pes address → ActsSo (on_letter step pack pe l address o)
    on_letters l address None below = passes l address below
    on_letters l address (Some el) below = executes l el.progress.started

    module _ (unpack : List ℕ → Result (C × ℕ) PupError) where
      installs : (p : PackedView) (r : Result (C × ℕ) PupError) → ActsSo (installing step pack unpack pe p r)
      installs p (Err error) = tt
      installs p (Ok x) =
          record { me = so.me; hand = tt; outbox = unshelved pes pe.me pe.outbox (filter (is_for p.index) pe.shelf) so.outbox so.me }

      on_elements : (p : PackedView) (o : Option (ElementView C)) → ActsSo (on_element step pack unpack pe p o)
      on_elements p None = installs p (unpack p.bytes)
      on_elements p (Some el) = tt

      on_parcels : (parcel : Parcel) (address : Option ℕ) → IsBelow pes address → ActsSo (on_parcel step pack unpack pe parcel address)
      on_parcels (Letter l) address below = on_letters l address (found l.to pe.room) below
      on_parcels (Element p) address below = on_elements p (found p.index pe.room)

      on_hands : (hand : Option Item) → IsHandBelow pes hand → ActsSo (acting_on step pack unpack pe hand)
      on_hands None below = tt
      on_hands (Some x) below = on_parcels x.parcel x.address below

      acted : (o : Option (Acting C)) → ActsSo o → IsAddressed pes (pe_after pe o)
      acted None acts = so
      acted (Some a) acts = acts

      pub acts_addressed : IsAddressed pes (pe_after pe (acting step pack unpack pe))
      acts_addressed = acted (acting step pack unpack pe) (on_hands pe.hand so.hand)
