-- The load of a range by the running sums that are kept, and the end of a block by them.
use Rattle.std.proofs.Common.{◌≡◌, ◌∙◌, ℕ, ◌+◌, ◌*◌, ◌/◌, ◌^◌, ◌<◌, ◌≤◌, inl, inr, List, [], ◌∷◌, ◌++◌, length, length-append, slice_index, sum, arith, refl, sym, subst}
use Rattle.std.proofs.lemmas.Bool.{cases_lt}
use Rattle.std.proofs.lemmas.List.{append_assoc, get_or_append_left, get_or_push}
use Rattle.std.proofs.lemmas.List.Sums.{sum_by-take-le}
use Rattle.lb_snapshot.specs.Measured.{load, IsLoads}
use Rattle.lb_snapshot.proofs.LoadSums.{sum_small}
use Rattle.lb_certificates.proofs.Chains.{load_after, load_wider}
use Rattle.chain_partition.specs.Greedy.{IsGreatestEnd}
use Rattle.chain_partition.proofs.Ranges.{load_nothing}
use Rattle.chain_partition.specs.Sums.{AreSamples, IsChain, IsSampled}

-- the loads of a snapshot are a chain
pub chain_of_loads : (xs : List ℕ) → IsLoads xs → IsChain xs
chain_of_loads xs h =
    record { few = omega (arith, h.few); light = omega (arith, sum_small xs h) }

-- the load up to an element, by that up to an earlier one
pub load_split : (xs : List ℕ) (a b : ℕ) → a ≤ b → load xs 0 a + load xs a b ≡ load xs 0 b
load_split xs a b onward =
    omega (arith, load_after xs 0 a (omega arith), load_after xs 0 b (omega arith), load_after xs a b onward)

-- a range weighs no more than all
pub load_within : (xs : List ℕ) (a b : ℕ) → a ≤ b → load xs a b ≤ sum xs
load_within xs a b onward =
    omega (arith, load_after xs a b onward, sum_by-take-le (λ x. x) xs b)

-- the load of a range is below 2^63
pub load_fits : (xs samples : List ℕ) (a b : ℕ) → IsSampled xs samples → a ≤ b → load xs a b < 2 ^ 63
load_fits xs samples a b h onward =
    omega (arith, load_within xs a b onward, h.chain.light)

-- the load before an element, by the sample before it
pub load_by_sample : (xs samples : List ℕ) (end : ℕ) → IsSampled xs samples → end ≤ length xs → slice_index samples (end / 16) + load xs (end / 16 * 16) end ≡ load xs 0 end
load_by_sample xs samples end h inside =
    omega (arith, h.summed.each (end / 16) (omega arith), load_split xs (end / 16 * 16) end (omega arith))

-- the sum that is kept before an element, by that before an earlier one
pub sample_from : (xs samples : List ℕ) (first group before : ℕ) → IsSampled xs samples → before ≡ load xs 0 first → first ≤ group * 16
    → group * 16 ≤ length xs → slice_index samples group ≡ before + load xs first (group * 16)
sample_from xs samples first group before h until onward inside =
    omega (arith, h.summed.each group (omega arith), load_split xs first (group * 16) onward)

-- one more sample
pub samples_more : (xs samples : List ℕ) (n total : ℕ) → AreSamples xs n samples
    → total ≡ slice_index samples n + load xs (n * 16) (n * 16 + 16) → AreSamples xs (n + 1) (samples ++ total ∷ [])
samples_more xs samples n total h last =
    record {
      counted = omega (arith, length-append samples (total ∷ []), h.counted);
      each = λ k within. elim (cases_lt k (n + 1)) [
        | inl earlier ↦ get_or_append_left samples (total ∷ []) 0 k (omega (arith, h.counted)) ∙ h.each k (omega arith)
        | inr latest ↦
            let same : n + 1 ≡ k = omega arith in
            let read : slice_index (samples ++ total ∷ []) (n + 1) ≡ total = get_or_push samples total 0 (n + 1) (omega (arith, h.counted)) in
            let next : n * 16 + 16 ≡ (n + 1) * 16 = omega arith in
            let group : load xs 0 (n * 16) + load xs (n * 16) (n * 16 + 16) ≡ load xs 0 ((n + 1) * 16) = rw (← next) (load_split xs (n * 16) (n * 16 + 16) (omega arith)) in
            subst (λ j. slice_index (samples ++ total ∷ []) j ≡ load xs 0 (j * 16)) same (omega (arith, read, last, h.each n (omega arith), group))
      ];
    }

-- the list is an old one, followed by the samples up to number n, of which the last is this
pub record SamplesSince (old xs : List ℕ) (n before : ℕ) (list : List ℕ) : Type 0 where
  pub samples : List ℕ
  pub behind : list ≡ old ++ samples
  pub sampled : AreSamples xs n samples
  pub last : slice_index samples n ≡ before

pub sampled_none : (old xs : List ℕ) → SamplesSince old xs 0 0 (old ++ 0 ∷ [])
sampled_none old xs =
    record {
      samples = 0 ∷ [];
      behind = refl;
      sampled = record { counted = refl; each = λ k within. sample_zero xs k (omega arith) };
      last = refl;
    }
  where
    sample_zero : (xs : List ℕ) (k : ℕ) → k ≡ 0 → slice_index (0 ∷ []) k ≡ load xs 0 (k * 16)
    sample_zero xs k e = rw e (sym (load_nothing xs 0))

pub sampled_more : (old xs : List ℕ) (n before group : ℕ) (list : List ℕ) → SamplesSince old xs n before list
    → group ≡ load xs (n * 16) (n * 16 + 16) → SamplesSince old xs (n + 1) (before + group) (list ++ (before + group) ∷ [])
sampled_more old xs n before group list h weighs =
    record {
      samples = h.samples ++ (before + group) ∷ [];
      behind = rw h.behind (append_assoc old h.samples ((before + group) ∷ []));
      sampled = samples_more xs h.samples n (before + group) h.sampled (omega (arith, weighs, h.last));
      last = get_or_push h.samples (before + group) 0 (n + 1) h.sampled.counted;
    }

-- an end that fits, behind which the next does not or there is none
pub greatest_between : (xs : List ℕ) (first limit fits beyond : ℕ) → first ≤ fits → fits + 1 ≡ beyond → beyond ≤ length xs + 1
    → load xs first fits ≤ limit → (beyond ≤ length xs → limit < load xs first beyond) → IsGreatestEnd xs first limit fits
greatest_between xs first limit fits beyond onward next inside light heavy =
    record {
      inside = omega arith;
      fits = light;
      greatest = λ other within lighter. elim (cases_lt fits other) [
        | inl behind ↦ absurd (omega (arith, lighter, heavy (omega arith), load_wider xs first beyond first other (omega arith) (omega arith) (omega arith)))
        | inr before ↦ before
      ];
    }
