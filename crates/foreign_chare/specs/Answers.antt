-- An answer, as it is packed.
use Rattle.std.specs.Prelude.{ℕ, List, Result}
use Rattle.pup_pack.specs.declared.error.PupError.{PupError}
use Rattle.pup_pack.specs.Lists.{unpack_bytes, unpack_list}
use Rattle.pup_pack.specs.Numbers.{unpack_u32, unpack_u64}
use Rattle.pup_pack.specs.Pairs.{unpack_pair}
use Rattle.pup_pack.specs.Structs.{judged, made}
use Rattle.pup_pack.specs.Truths.{unpack_bool}
use Rattle.foreign_chare.specs.Scripts.{Answered, answer_of, is_answer, is_send}

-- the answer that these bytes begin with, and how many it takes
abbrev pub answer_in : List ℕ → Result (Answered × ℕ) PupError
answer_in bytes =
    judged is_answer (made answer_of (unpack_pair unpack_u64 (unpack_pair unpack_bool (unpack_pair unpack_bool
    (unpack_pair unpack_u32 (unpack_list (λ b. judged is_send (unpack_pair unpack_u32 unpack_bytes b)))))) bytes))
