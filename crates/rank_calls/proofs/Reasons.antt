-- The errors of handlers and of packs, as reasons why nothing is done.
use Rattle.std.proofs.Common.{inl, inr, refl}
use Rattle.chares.specs.declared.sends.SendError.{SendError}
use Rattle.pe_state.specs.declared.error.StepError.{StepError}
use Rattle.pe_state.specs.declared.error.StepError.TheVariants as Step
use Rattle.pe_state.specs.Refusals.{RefusesStep}
use Rattle.pup_pack.specs.declared.error.PupError.{PupError}
use Rattle.pup_pack.specs.declared.error.PupError.TheVariants as Pup
use Rattle.rank_calls.specs.Calls.{call_error_of, wire_error_of}
use Rattle.rank_calls.specs.Refusals.{IsOfHandler, IsOfMessage}

pub message_reason : (e : PupError) → IsOfMessage (wire_error_of e)
message_reason Pup.Short = inr (inr refl)
message_reason Pup.Bad = inr (inr refl)
message_reason Pup.TooLong = inr (inl refl)
message_reason Pup.OutOfMemory = inl refl

pub handler_reason : (R : SendError → Type 0) (e : StepError) → RefusesStep R e → IsOfHandler (call_error_of e)
handler_reason R Step.OutOfMemory r = inl refl
handler_reason R Step.Unpack r = absurd r
handler_reason R Step.Stranger r = inr (inl refl)
handler_reason R Step.TooLong r = inr (inr (inl refl))
handler_reason R Step.Worn r = inr (inr (inr refl))
