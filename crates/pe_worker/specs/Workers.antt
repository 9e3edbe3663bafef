-- A worker, as contracts see it.
use Rattle.std.specs.Prelude.{Option}
use Rattle.pe_worker.specs.declared.fault.Fault.{Fault}
use Rattle.pe_worker.specs.Seated.{SeatedView}

-- its PE with the seat, and the fault that it met, if it met one
pub record WorkerView (C : Type 0) : Type 0 where
  pub seated : SeatedView C
  pub fault : Option Fault
