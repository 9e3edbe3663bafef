-- Draws that are repeated, and the event at a number.
use Rattle.std.proofs.Common.{◌≡◌, ◌∙◌, ℕ, zero, suc, ◌+◌, ◌-◌, ◌/◌, ◌<◌, ◌≤◌, Bool, true, false, Option, drop, get_or, length, refl, sym, ap, arith}
use Rattle.std.specs.Prelude.{List, if◌then◌else◌, slice_get}
use Rattle.std.proofs.lemmas.Bool.{le-ltb, lt-ltb}
use Rattle.rts_core.specs.declared.event.Event.{Event}
use Rattle.rts_core.specs.Worlds.{WorldView}
use Rattle.schedules.specs.Choices.{ChooserView, turn_of}
use Rattle.schedules.specs.Draws.{Turn, drawn, drawn_in, drawn_once, events_of, is_starved, picked, share, weight}
use Rattle.schedules.specs.declared.bias.Bias.{Bias}
use Rattle.schedules.specs.declared.bias.Kind.{Kind}
use Rattle.schedules.proofs.Choosers.{drop_here}

module _ (bias : Bias) (events : Kind → List Event) where
  -- a draw of a starved PE's event is repeated, and any other is not
  by_more : (times state : ℕ) (b : Bool) → is_starved bias (drawn_once bias events state).0 ≡ b
      → drawn_in bias events (suc times) state ≡ (if b then drawn_in bias events times (drawn_once bias events state).1 else drawn_once bias events state)
  by_more times state b e = ap (λ (x : Bool). if x then drawn_in bias events times (drawn_once bias events state).1 else drawn_once bias events state) e

  pub drawn_again : (times less state : ℕ) (b : Bool) → times ≡ less + 1 → is_starved bias (drawn_once bias events state).0 ≡ b
      → drawn_in bias events times state ≡ (if b then drawn_in bias events less (drawn_once bias events state).1 else drawn_once bias events state)
  drawn_again times less state b e starved =
      ap (λ (n : ℕ). drawn_in bias events n state) (omega_suc times less e) ∙ by_more less state b starved
    where
      omega_suc : (times less : ℕ) → times ≡ less + 1 → times ≡ suc less
      omega_suc times less e = omega (arith, e)

  -- the kind whose share a number is in, and the kinds after one whose share it is not in
  pub picked_here : (ks : List Kind) (i : ℕ) (kind : Kind) (left : ℕ) → i < length ks → kind ≡ get_or ks i kind → left < share bias events kind
      → picked bias events (drop i ks) left ≡ slice_get (events kind) (left / weight bias kind)
  picked_here ks i kind left within is less =
      ap (λ (v : List Kind). picked bias events v left) (drop_here ks i kind within is)
      ∙ ap (λ (b : Bool). if b then slice_get (events kind) (left / weight bias kind) else picked bias events (drop (i + 1) ks) (left - share bias events kind))
      (lt-ltb left (share bias events kind) less)

  pub picked_past : (ks : List Kind) (i : ℕ) (kind : Kind) (left : ℕ) → i < length ks → kind ≡ get_or ks i kind → share bias events kind ≤ left
      → picked bias events (drop i ks) left ≡ picked bias events (drop (i + 1) ks) (left - share bias events kind)
  picked_past ks i kind left within is more =
      ap (λ (v : List Kind). picked bias events v left) (drop_here ks i kind within is)
      ∙ ap (λ (b : Bool). if b then slice_get (events kind) (left / weight bias kind) else picked bias events (drop (i + 1) ks) (left - share bias events kind))
      (le-ltb left (share bias events kind) more)

-- what is drawn in a turn
drawn_is : {C A : Type 0} (bias : Bias) (at : Turn C A) → drawn bias at ≡ drawn_in bias (events_of at.world at.places) 15 at.state
unfolding drawn
drawn_is bias at = refl

-- A draw of a chooser of which nothing but the generator's state has changed.
module _ {C A : Type 0} (w : WorldView C A) (old self : ChooserView) (only : self ≡ record old { state = self.state }) where
  abbrev after : ℕ → ℕ → Option Event × ℕ
  after times state = drawn_in old.bias (events_of w old.choices.places) times state

  once_is : (r : Option Event × ℕ) → r ≡ drawn_once self.bias (events_of w self.choices.places) self.state → r ≡ drawn_once old.bias (events_of w old.choices.places) self.state
  once_is r e = e ∙ ap (λ (c : ChooserView). drawn_once c.bias (events_of w c.choices.places) self.state) only

  -- the event is not of a starved PE: it is what is drawn
  pub draw_ends : (again state : ℕ) (event : Option Event) → again < 15 → (event, state) ≡ drawn_once self.bias (events_of w self.choices.places) self.state
      → is_starved old.bias event ≡ false → after (15 - again) self.state ≡ after 15 old.state → (event, state) ≡ drawn old.bias (turn_of w old)
  draw_ends again state event within once calm before =
      let e = once_is (event, state) once in
      let so = ap (λ (d : Option Event × ℕ). is_starved old.bias d.0) (sym e) ∙ calm in
      e ∙ (sym (drawn_again old.bias (events_of w old.choices.places) (15 - again) (15 - (again + 1)) self.state false (omega (arith, within)) so)
      ∙ (before ∙ sym (drawn_is old.bias (turn_of w old))))

  -- it is: the draw is repeated
  pub draw_repeats : (again : ℕ) (event : Option Event) (new : ChooserView) → again < 15 → (event, new.state) ≡ drawn_once self.bias (events_of w self.choices.places) self.state
      → new ≡ record self { state = new.state } → is_starved old.bias event ≡ true → after (15 - again) self.state ≡ after 15 old.state
      → (new ≡ record old { state = new.state }) × (after (15 - (again + 1)) new.state ≡ after 15 old.state)
  draw_repeats again event new within once kept starved before =
      let e = once_is (event, new.state) once in
      let so = ap (λ (d : Option Event × ℕ). is_starved old.bias d.0) (sym e) ∙ starved in (
        kept ∙ ap (λ (c : ChooserView). record c { state = new.state }) only,
        ap (λ (d : Option Event × ℕ). after (15 - (again + 1)) d.1) e
            ∙ (sym (drawn_again old.bias (events_of w old.choices.places) (15 - again) (15 - (again + 1)) self.state true (omega (arith, within)) so) ∙ before),
      )

  -- the last draw is not repeated
  pub draw_last : (again : ℕ) (r : Option Event × ℕ) → 15 ≤ again → r ≡ drawn_once self.bias (events_of w self.choices.places) self.state
      → after (15 - again) self.state ≡ after 15 old.state → r ≡ drawn old.bias (turn_of w old)
  draw_last again r beyond once before =
      let none : 15 - again ≡ zero = omega (arith, beyond) in
      once_is r once ∙ (sym (ap (λ (n : ℕ). after n self.state) none) ∙ (before ∙ sym (drawn_is old.bias (turn_of w old))))
