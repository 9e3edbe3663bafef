-- The buffers for what a run leaves in its queues.
use Rattle.std.specs.Prelude.{◌≡◌, ℕ, ◌≤◌, List, [], length, All, Vec, vec_capacity}

-- for how many queues, and for how many parcels of each
pub record BufferView : Type 0 where
  pub queues : ℕ
  pub capacity : ℕ

-- an empty list for each queue, with this capacity, and an empty one with capacity for all of these
pub record AreBuffers {X A B : Type 0} (capacity : ℕ) (buffers : List (Vec X A)) (left : Vec (Vec X A) B) : Type 0 where
  pub each : All (λ (room : Vec X A). (room.items ≡ []) × (capacity ≤ vec_capacity room)) buffers
  pub empty : left.items ≡ []
  pub wide : length buffers ≤ vec_capacity left
