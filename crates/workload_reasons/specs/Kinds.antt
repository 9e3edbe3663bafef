-- What the kinds of lines of a workload have to be.
use Rattle.std.specs.Prelude.{ℕ}
use Rattle.workload.specs.Faults.{LineForm, amounts_form, chares_form, pad_form, pes_form, rounds_form}
use Rattle.workload_reasons.specs.declared.kind.Kind.{Kind}
use Rattle.workload_reasons.specs.declared.kind.Kind.TheVariants.{Amounts, Chares, Pad, Pes, Rounds}

-- the form of a line of this kind, in a workload of this many chares
abbrev pub form_of_kind : Kind → ℕ → LineForm
form_of_kind Pes chares = pes_form
form_of_kind Rounds chares = rounds_form
form_of_kind Pad chares = pad_form
form_of_kind Chares chares = chares_form
form_of_kind Amounts chares = amounts_form chares
