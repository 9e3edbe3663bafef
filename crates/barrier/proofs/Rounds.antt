-- Rounds begin with the earlier ones as the board begins, and after one more is decided.
use Rattle.std.proofs.Common.{◌≡◌, ℕ, zero, suc, List, [], ◌∷◌, ◌++◌, length, take, refl}
use Rattle.std.proofs.Math.Seq.{take-length}
use Rattle.barrier.specs.Rounds.{BeginWith}

pub begun : {X : Type 0} (rounds : List X) → BeginWith rounds rounds
begun rounds = take-length rounds

pub grown : {X : Type 0} (earlier rounds : List X) (x : X) → BeginWith earlier rounds → BeginWith earlier (rounds ++ x ∷ [])
grown [] rounds x h = refl
grown (e ∷ earlier) [] x h = cc h
grown (e ∷ earlier) (r ∷ rounds) x h =
    let rest : BeginWith earlier rounds = cc h in
    let more : BeginWith earlier (rounds ++ x ∷ []) = grown earlier rounds x rest in
    cc (h, more)
