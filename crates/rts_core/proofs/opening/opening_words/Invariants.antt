use Rattle.std.proofs.Common.{◌≡◌, ◌<◌, map}
use Rattle.std.specs.Prelude.{All}
use Rattle.std.specs.List.{range_with_len}
use Rattle.rts_core.specs.Worlds.{home}
use Rattle.rts_core.proofs.opening.opening_words.Given as goal

abbrev pub invariant-loop-e : goal.invariant-loop-e
invariant-loop-e g l =
    (l.words.items ≡ map (λ e. home e l.n l.pes) (range_with_len 0 l.e)) × All (λ q. q < l.pes) l.words.items
