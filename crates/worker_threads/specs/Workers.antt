-- Workers, which are known by their numbers.
use Rattle.std.specs.Prelude.{◌≡◌, ℕ}
use Rattle.worker_threads.specs.declared.begun.Place.{Place}
use Rattle.worker_threads.specs.declared.begun.Place.TheVariants.{Thread, Here}

-- whatever a worker ends as by its work, it has the number of the worker
abbrev pub KeepsNumber : {W D : Type 0} → (W → ℕ) → (D → ℕ) → (W → D → Type 0) → Type 0
KeepsNumber {W = W} {D = D} number_of number_after ends_as =
    (worker : W) (done : D) → ends_as worker done → number_after done ≡ number_of worker

-- what is found there has this number: its thread has promised so, or it is there already and has it
abbrev pub HasNumber : {D : Type 0} → (D → ℕ) → ℕ → Place D → Type 0
HasNumber number n (Thread handle) = handle.promise.0 ≡ n
HasNumber number n (Here done) = number done ≡ n
