use Rattle.std.proofs.Common.{drop, length, ◌∙◌}
use Rattle.run_text.proofs.Standing.{all_filled}
use Rattle.run_text.proofs.sums.sums_of.Goals as goal

pub returns : goal.returns
returns g c =
    let noted = c.note_all.new.sums in
    let rest = drop (length noted) c.in_ok-sums.sums.items in
    let zeros = c.deref_mut.ensures.value ∙ c.in_ok-sums.ensures in
    let filled = all_filled c.args.n c.args.outcome.now c.requires.tallies c.in_ok-sums.sums.len c.deref_mut.result.now noted rest zeros in
    record { sums = filled c.deref_mut.ensures.len c.note_all.ensures.noted }
