-- What Act keeps, in each of its cases.
use Rattle.std.proofs.Common.{◌≡◌, ℕ, ◌+◌, List, [], ◌∷◌, ◌++◌, map, Option, Some, None, Bool, true, false, sum_by, arith, refl, ap, subst}
use Rattle.std.specs.Prelude.{Result, Ok, Err, not, ◌==◌, if◌then◌else◌}
use Rattle.std.specs.List.{filter}
use Rattle.std.proofs.lemmas.List.Sums.{sum_by-cons, sum_by-append, sum_by_push}
use Rattle.std.proofs.lemmas.List.Elements.{All-nil, All-cons}
use Rattle.std.proofs.lemmas.List.Filters.{sum_by-filter_both}
use Rattle.chares.specs.declared.carried.Carried.TheVariants.{Letter, Element}
use Rattle.chares.specs.declared.entry.Entry.TheVariants.{Letter as OfLetter}
use Rattle.chares.specs.declared.trace_entry.TraceEntry.TheVariants as Trace
use Rattle.chares.specs.Elements.{ElementView, PackedView, unpacked}
use Rattle.chares.specs.Letters.{LetterView, hopped}
use Rattle.chares.specs.Steps.{Step}
use Rattle.pup_pack.specs.declared.error.PupError.{PupError}
use Rattle.pe_state.specs.Pes.{PeView, Parcel, Item, letter_at, is_for, executed, on_letter, passing, shelving, forwarding, installed, installing, on_element, on_parcel, acting_on, acting, Acting}
use Rattle.pe_state.specs.Rooms.{found, joined}
use Rattle.pe_state.specs.declared.acted.Acted.TheVariants.{Installed as IsInstalled}
use Rattle.rts_core.specs.Places.{Life}
use Rattle.rts_core.proofs.Weights.{Weight, weigh, of_parcel, of_item, of_hand, of_element, of_room, sum_by-map, sum_joined}
use Rattle.rts_core.proofs.Moves.{Work, Moved, quiet}
use Rattle.rts_core.proofs.HandlerSteps.{handled_moved}

-- a PE makes this step, which runs a handler or not, with what is in it
abbrev pub Acts : {C : Type 0} → Step C → PeView C → Acting C → Type 0
Acts {C} step pe a = (work : Option (Work C)) × Moved step pe a.pe a.trace work [] []

pub hand_holds : (g : Weight) (k : Life → ℕ) (hand : Option Item) (x : Item) (parcel : Parcel) → hand ≡ Some x → x.parcel ≡ parcel → of_hand g k hand ≡ of_parcel g k parcel
hand_holds g k hand x parcel h p = rw h (ap (of_parcel g k) p)

module _ {C : Type 0} (step : Step C) (pack : C → List ℕ) where
  unfoldable pub shelving_moved : (pe : PeView C) (x : Item) (l : LetterView) → pe.hand ≡ Some x → x.parcel ≡ Letter l → Acts step pe (shelving pe l)
  shelving_moved pe x l h p = (
    None,
    quiet step pe (shelving pe l).pe (shelving pe l).trace [] []
        (λ g k.
        let a : of_hand g k pe.hand ≡ weigh g l = hand_holds g k pe.hand x (Letter l) h p in
        let b : sum_by (weigh g) (pe.shelf ++ l ∷ []) ≡ sum_by (weigh g) pe.shelf + weigh g l = sum_by_push (weigh g) pe.shelf l in
        omega (arith, a, b))
        refl refl refl refl refl,
  )

  unfoldable pub forwarding_moved : (pe : PeView C) (x : Item) (l : LetterView) (q : ℕ) → pe.hand ≡ Some x → x.parcel ≡ Letter l → Acts step pe (forwarding pe l q)
  forwarding_moved pe x l q h p = (
    None,
    quiet step pe (forwarding pe l q).pe (forwarding pe l q).trace [] []
        (λ g k.
        let a : of_hand g k pe.hand ≡ weigh g l = hand_holds g k pe.hand x (Letter l) h p in
        let b : sum_by (of_item g k) (pe.outbox ++ letter_at q (hopped l) ∷ []) ≡ sum_by (of_item g k) pe.outbox + weigh g l = sum_by_push
        (of_item g k) pe.outbox (letter_at q (hopped l)) in
        omega (arith, a, b))
        refl refl refl refl refl,
  )

  pub passing_moved : (pe : PeView C) (x : Item) (l : LetterView) (look : Option ℕ) (a : Acting C) → pe.hand ≡ Some x → x.parcel ≡ Letter l
      → passing pe l look ≡ Some a → Acts step pe a
  passing_moved pe x l None a h p e = cc
  passing_moved pe x l (Some q) a h p e =
      let s : (if q == pe.me then shelving pe l else forwarding pe l q) ≡ a = cc in
      subst (λ (v : Acting C). Acts step pe v) s (by (q == pe.me))
    where
      by : (b : Bool) → Acts step pe (if b then shelving pe l else forwarding pe l q)
      by true = shelving_moved pe x l h p
      by false = forwarding_moved pe x l q h p

  unfoldable pub executed_moved : (pe : PeView C) (x : Item) (l : LetterView) (el : ElementView C) → pe.hand ≡ Some x → x.parcel ≡ Letter l
      → found l.to pe.room ≡ Some el → Acts step pe (executed step pack pe l)
  executed_moved pe x l el h p f = (
    Some (el, OfLetter l),
    handled_moved step pack pe l.to (OfLetter l) None el (Trace.Executed l.id l.to) f
        (λ g k.
        let a : of_hand g k pe.hand ≡ weigh g l = hand_holds g k pe.hand x (Letter l) h p in
        let b : sum_by (weigh g) (l ∷ []) ≡ weigh g l + 0 = sum_by-cons (weigh g) l [] in
        omega (arith, a, b))
        refl refl
        (All-cons (λ (m : LetterView). m.to ≡ l.to) l [] refl (All-nil (λ (m : LetterView). m.to ≡ l.to))),
  )

  pub on_letter_moved : (pe : PeView C) (x : Item) (l : LetterView) (look : Option ℕ) (o : Option (ElementView C)) (a : Acting C)
      → pe.hand ≡ Some x → x.parcel ≡ Letter l → found l.to pe.room ≡ o → on_letter step pack pe l look o ≡ Some a → Acts step pe a
  on_letter_moved pe x l look None a h p f e = passing_moved pe x l look a h p e
  on_letter_moved pe x l look (Some el) a h p f e = by el.progress.started e
    where
      by : (b : Bool) → (if b then Some (executed step pack pe l) else None) ≡ Some a → Acts step pe a
      by true s = let t : executed step pack pe l ≡ a = cc in subst (λ (v : Acting C). Acts step pe v) t (executed_moved pe x l el h p f)
      by false s = cc

  unfoldable pub installed_moved : (pe : PeView C) (x : Item) (p : PackedView) (chare : C) → pe.hand ≡ Some x → x.parcel ≡ Element p → found p.index pe.room ≡ None
      → Acts step pe (record { acted = IsInstalled; pe = installed pe p chare; trace = Trace.Installed p.index ∷ [] })
  installed_moved pe x p chare h is f = (
    None,
    quiet step pe (installed pe p chare) (Trace.Installed p.index ∷ []) [] []
        (λ g k.
        let mine : List LetterView = filter (is_for p.index) pe.shelf in
        let others : List LetterView = filter (λ l. not (is_for p.index l)) pe.shelf in
        let a : of_hand g k pe.hand ≡ k (p.index, p.journal) = hand_holds g k pe.hand x (Element p) h is in
        let b : sum_by (weigh g) mine + sum_by (weigh g) others ≡ sum_by (weigh g) pe.shelf = sum_by-filter_both (is_for p.index)
        (λ l. not (is_for p.index l)) (λ l. refl) (weigh g) pe.shelf in
        let c : sum_by (of_item g k) (pe.outbox ++ map (letter_at pe.me) mine) ≡ sum_by (of_item g k) pe.outbox + sum_by (of_item g k)
        (map (letter_at pe.me) mine) = sum_by-append (of_item g k) pe.outbox (map (letter_at pe.me) mine) in
        let d : sum_by (of_item g k) (map (letter_at pe.me) mine) ≡ sum_by (weigh g) mine = sum_by-map (of_item g k) (letter_at pe.me) mine in
        let r : of_room g k (joined p.index (unpacked p chare) pe.room) ≡ of_room g k pe.room + k (p.index, p.journal) = sum_joined
        (of_element g k) pe.room p.index (unpacked p chare) f in
        omega (arith, a, b, c, d, r))
        refl refl refl refl refl,
  )

  module _ (unpack : List ℕ → Result (C × ℕ) PupError) where
    pub installing_moved : (pe : PeView C) (x : Item) (p : PackedView) (u : Result (C × ℕ) PupError) (a : Acting C)
        → pe.hand ≡ Some x → x.parcel ≡ Element p → found p.index pe.room ≡ None → installing step pack unpack pe p u ≡ Some a → Acts step pe a
    installing_moved pe x p (Err z) a h is f e = cc
    installing_moved pe x p (Ok y) a h is f e =
        let t : record { acted = IsInstalled; pe = installed pe p y.0; trace = Trace.Installed p.index ∷ [] } ≡ a = cc in
        subst (λ (v : Acting C). Acts step pe v) t (installed_moved pe x p y.0 h is f)

    pub on_element_moved : (pe : PeView C) (x : Item) (p : PackedView) (o : Option (ElementView C)) (a : Acting C)
        → pe.hand ≡ Some x → x.parcel ≡ Element p → found p.index pe.room ≡ o → on_element step pack unpack pe p o ≡ Some a → Acts step pe a
    on_element_moved pe x p (Some el) a h is f e = cc
    on_element_moved pe x p None a h is f e = installing_moved pe x p (unpack p.bytes) a h is f e

    pub on_parcel_moved : (pe : PeView C) (x : Item) (parcel : Parcel) (a : Acting C)
        → pe.hand ≡ Some x → x.parcel ≡ parcel → on_parcel step pack unpack pe parcel x.address ≡ Some a → Acts step pe a
    on_parcel_moved pe x (Letter l) a h is e = on_letter_moved pe x l x.address (found l.to pe.room) a h is refl e
    on_parcel_moved pe x (Element p) a h is e = on_element_moved pe x p (found p.index pe.room) a h is refl e

    pub acting_on_moved : (pe : PeView C) (o : Option Item) (a : Acting C) → pe.hand ≡ o → acting_on step pack unpack pe o ≡ Some a → Acts step pe a
    acting_on_moved pe None a h e = cc
    acting_on_moved pe (Some x) a h e = on_parcel_moved pe x x.parcel a h refl e

    -- Act, where it is enabled
    pub acting_moved : (pe : PeView C) (a : Acting C) → acting step pack unpack pe ≡ Some a → Acts step pe a
    acting_moved pe a e = acting_on_moved pe pe.hand a refl e
