-- What a run left whose steps a seed draws.
use Rattle.std.proofs.Common.{◌≡◌, ◌∙◌, ℕ, List, Option, Result, Ok, Err, IfOk, sym, ap, subst}
use Rattle.chares.specs.Steps.{Step}
use Rattle.courses.specs.Courses.{CourseView, Made}
use Rattle.pup_pack.specs.declared.error.PupError.{PupError}
use Rattle.rts_core.specs.Worlds.{WorldView}
use Rattle.rts_core.specs.declared.event.Event.{Event}
use Rattle.schedules.specs.Choices.{ChooserView, turn_of}
use Rattle.schedules.specs.Courses.{ExploredView, left_by}
use Rattle.schedules.specs.Drawn.{DrawsTo, IsDrawn}
use Rattle.schedules.specs.Draws.{Turn}
use Rattle.schedules.specs.Endings.{refused_in}
use Rattle.schedules.specs.declared.bias.Bias.{Bias}
use Rattle.schedules.specs.declared.leaving.Ending.{Ending}

module _ {C A : Type 0} (step : Step C) (pack : C → List ℕ) (unpack : List ℕ → Result (C × ℕ) PupError) where
  -- a chooser before its first draw is the turn with which a run opens
  first_turn : (seed : ℕ) (opening w : WorldView C A) (chooser : ChooserView) → chooser.state ≡ seed → chooser.choices.places ≡ w.words → w ≡ opening
      → turn_of w chooser ≡ record { state = seed; world = opening; places = opening.words }
  first_turn seed opening w chooser state places same =
      ap (λ (s : ℕ). record { state = s; world = w; places = chooser.choices.places }) state
      ∙ (ap (λ (p : List ℕ). record { state = seed; world = w; places = p }) places
      ∙ ap (λ (v : WorldView C A). record { state = seed; world = v; places = v.words }) same)

  module _ {E : Type 0} (bias : Bias) (seed : ℕ) (opening : WorldView C A) (before now : CourseView C A) (chooser : ChooserView) (ending : Ending) where
    pub drawn_left : (r : Result (ExploredView C A) E) → chooser.bias ≡ bias → chooser.state ≡ seed → chooser.choices.places ≡ before.world.words → before.world ≡ opening
        → IfOk r (λ x. left_by x ≡ now.world) → IfOk r (λ x. x.steps ≡ now.steps) → IfOk r (λ x. x.refused ≡ refused_in ending)
        → DrawsTo step pack unpack chooser.bias (turn_of before.world chooser) now.steps now.world (refused_in ending) → IfOk r (IsDrawn step pack unpack bias seed opening)
    drawn_left (Err e) by state places opens world steps refused drawn = tt
    drawn_left (Ok x) by state places opens world steps refused drawn =
        let one = subst (λ (b : Bias). DrawsTo step pack unpack b (turn_of before.world chooser) now.steps now.world (refused_in ending)) by drawn in
        let two = subst (λ (o : Option Event). DrawsTo step pack unpack bias (turn_of before.world chooser) now.steps now.world o) (sym refused) one in
        let three = subst (λ (v : WorldView C A). DrawsTo step pack unpack bias (turn_of before.world chooser) now.steps v x.refused) (sym world) two in
        let four = subst (λ (s : List Made). DrawsTo step pack unpack bias (turn_of before.world chooser) s (left_by x) x.refused) (sym steps) three in
        subst (λ (t : Turn C A). DrawsTo step pack unpack bias t x.steps (left_by x) x.refused) (first_turn seed opening before.world chooser state places opens) four
