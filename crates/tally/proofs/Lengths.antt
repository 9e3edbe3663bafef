-- How long what a tally packs into is, from the lengths of its parts.
use Rattle.std.proofs.Common.{◌≡◌, ℕ, ◌+◌, ◌*◌, ◌<◌, ◌≤◌, length, true, arith, length-append}
use Rattle.chare_index.specs.declared.limits.TheConstants.Limits.{STATE_BYTES}
use Rattle.pup_pack.specs.Lists.{pack_bytes}
use Rattle.tally.specs.Tallies.{TallyView, is_tally, tally_len, tally_pack, tally_packs}

module _ (t : TallyView) (right : is_tally t ≡ true) where
  pub parts_are_all : (numbers amounts pad : ℕ) → (16 ≤ STATE_BYTES → numbers ≡ 16) → amounts ≡ 4 + 4 * length t.amounts
      → (length (pack_bytes t.pad) ≤ STATE_BYTES → pad ≡ length (pack_bytes t.pad)) → numbers + amounts + pad ≡ length (tally_pack t)
  parts_are_all numbers amounts pad n a p =
      let within = tally_len t in
      let few = (tally_packs t right).1 in
      let last : length (pack_bytes t.pad) ≡ 4 + length t.pad = grind (arith, length-append) in
      omega (arith, within, few, last, n (omega (arith)), a, p (omega (arith, within, few, last)))

  pub never_over : STATE_BYTES < length (tally_pack t) → (A : Type 0) → A
  never_over more A =
      let few = (tally_packs t right).1 in
      absurd (omega (arith, more, few))
