-- A constructor that tests limits returns a value where they are kept.
use Rattle.std.proofs.Common.{Option, None, Some, refl}
use Rattle.std.specs.Prelude.{SomeIff, IsSome}

pub made_where : {T : Type 0} (made : Option T) (kept : Type 0) (value : T) → SomeIff made kept value → kept → IsSome made
made_where None kept value iff holds = absurd (iff holds)
made_where (Some x) kept value iff holds = refl
