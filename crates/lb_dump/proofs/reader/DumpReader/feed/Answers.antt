use Rattle.std.proofs.Common.{◌≡◌, ◌++◌, ◌∙◌, Err, Ok, Result, ap, refl, subst, sym}
use Rattle.std.specs.Prelude.{⊤}
use Rattle.dump_format.specs.Faults.{IsGood}
use Rattle.dump_format.specs.declared.error.DumpError.{DumpError}
use Rattle.lb_dump.specs.Held.{text_of}
use Rattle.lb_dump.proofs.Standing.{held_good}
use Rattle.lb_dump.specs.Reading.{Feeds, Progress, progress_of}
use Rattle.lb_dump.proofs.reader.DumpReader.feed.Goals as goal

pub returns-in-Some-clause-fed : goal.returns-in-Some-clause-fed
returns-in-Some-clause-fed g c =
    let failed : c.args.self.now ≡ Err c.in-Some.fault = sym c.self.view_is ∙ ap (progress_of (text_of c.self.inside.held)) c.in-Some.is in
    subst (λ (p : Progress). Feeds p c.args.piece.now (Err c.in-Some.fault) p) (sym failed) (refl, refl)

pub returns-in_default-taken-clause-fed : goal.returns-in_default-taken-clause-fed
returns-in_default-taken-clause-fed g c =
    let held = c.self.inside.held in
    let next = c.take_in-taken.new.held in
    let before : c.args.self.now ≡ Ok (text_of held) = sym c.self.view_is ∙ ap (progress_of (text_of held)) c.in_default.is in
    let taken = c.in_default-taken.ensures.taken in
    let after : progress_of (text_of next) c.self.inside.fault ≡ Ok (text_of held ++ c.args.piece.now) = ap (progress_of (text_of next)) c.in_default.is ∙ ap Ok taken.0 in
    let good : IsGood (text_of held ++ c.args.piece.now) = subst IsGood taken.0
    (held_good g.row.A.Denot next.head next.loads.items next.sizes.items next.plan next.moves.items next.begun.items taken.1) in
    let result : Feeds (Ok (text_of held)) c.args.piece.now c.take_in-taken.result (progress_of (text_of next) c.self.inside.fault) =
    subst (λ (r : Result ⊤ DumpError). Feeds (Ok (text_of held)) c.args.piece.now r (progress_of (text_of next) c.self.inside.fault)) (sym c.in_default-taken.is) (good, after) in
    subst (λ (p : Progress). Feeds p c.args.piece.now c.take_in-taken.result (progress_of (text_of next) c.self.inside.fault)) (sym before) result
