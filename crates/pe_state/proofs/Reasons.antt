-- The reason of a step is that of its handler.
use Rattle.std.proofs.Common.{◌≡◌, ◌≢◌, sym, subst}
use Rattle.chares.specs.declared.sends.SendError.{SendError}
use Rattle.chares.specs.declared.sends.SendError.TheVariants as Send
use Rattle.pe_state.specs.declared.error.StepError.{StepError}
use Rattle.pe_state.specs.Refusals.{step_error_of, RefusesStep}

told : (R : SendError → Type 0) (error : SendError) → (error ≢ Send.OutOfMemory → R error) → RefusesStep R (step_error_of error)
told R Send.Stranger h = h (λ e. cc)
told R Send.TooLong h = h (λ e. cc)
told R Send.Worn h = h (λ e. cc)
told R Send.OutOfMemory h = tt

pub same_reason : (R : SendError → Type 0) (error : SendError) (step : StepError) → step ≡ step_error_of error → (error ≢ Send.OutOfMemory → R error) → RefusesStep R step
same_reason R error step e h = subst (λ (v : StepError). RefusesStep R v) (sym e) (told R error h)
