-- Which flaw of a naming checked by a table is the first, and what the answer says of elements that have this table.
use Rattle.std.proofs.Common.{◌≡◌, ◌≢◌, inl, inr, ℕ, ◌*◌, ◌<◌, ◌↔◌, List, length, Result, Ok, Err, IsOk, OnOk, IfOk, IfErr, arith, ap, sym, ◌∙◌, refl, subst, ℤ, pos, ◌+ℤ◌, ◌≤ℤ◌}
use Rattle.std.proofs.lemmas.Int.{ints}
use Rattle.std.proofs.lemmas.Result.{on_ok_weaker}
use Rattle.lb_certificates.specs.declared.flaw.Flaw.{Flaw}
use Rattle.lb_certificates.specs.declared.flaw.Flaw.TheVariants.{CutCount, NameCount, NameRange, NameTwice, PriceCount, PriceHigh, PriceGap}
use Rattle.lb_certificates.specs.Chain.{IsDivision}
use Rattle.lb_certificates.specs.Flaws.{IsFirst, flaw_number}
use Rattle.lb_certificates.specs.Held.{HasHeldFlaw, IsHeld, IsNamedBy, held_cost, held_moved}
use Rattle.lb_certificates.specs.Naming.{IsCheapest, IsNamedWithin, IsNaming, Proves, block_cost, blocks_between, bytes_moved, price_at, price_sum}
use Rattle.lb_certificates.proofs.BlockSums.{cheapest_from_named}
use Rattle.lb_certificates.proofs.HeldTables.{cost_by_table, moved_by_table}
use Rattle.lb_certificates.proofs.NoFlaws.{first_by_number}

-- the sum of the prices is the last that is looked at
pub held_gap_is_first : (blocks : ℕ) (held names : List ℕ) (u v : List ℤ) → 0 < blocks → IsNaming blocks names → length u ≡ blocks
    → length v ≡ blocks → ((b p : ℕ) → b < blocks → p < blocks → (price_at u b +ℤ price_at v p) ≤ℤ pos (held_cost blocks held b p))
    → price_sum u +ℤ price_sum v ≢ pos (held_moved blocks held names) → IsFirst (HasHeldFlaw blocks held names u v) PriceGap
held_gap_is_first blocks held names u v some naming counted_u counted_v low wrong =
    first_by_number (HasHeldFlaw blocks held names u v) PriceGap refl wrong lower
  where
    lower : (other : Flaw) → flaw_number other < 17 → ¬ (HasHeldFlaw blocks held names u v other)
    lower CutCount h none = absurd (omega (arith, none, some))
    lower NameCount h flawed = flawed naming.counted
    lower NameRange h (b, inside, past) = absurd (omega (arith, past, naming.counted, naming.below b (omega (arith, inside, naming.counted))))
    lower NameTwice h (i, j, before, inside, same) = naming.apart i j before (omega (arith, inside, naming.counted)) same
    lower PriceCount h (inl flawed) = flawed counted_u
    lower PriceCount h (inr flawed) = flawed counted_v
    lower (PriceHigh b p) h (block, pe, high) = absurd (omega (arith, ints, high, low b p block pe))
    lower PriceGap h flawed = absurd (omega (arith, h))
    lower _ h flawed = flawed

-- a naming that its prices prove has no flaw
held_flawless : (blocks : ℕ) (held names : List ℕ) (u v : List ℤ) → IsNamedBy blocks held names u v → (flaw : Flaw) → ¬ (HasHeldFlaw blocks held names u v flaw)
held_flawless blocks held names u v h CutCount none = absurd (omega (arith, none, h.some_block))
held_flawless blocks held names u v h NameCount flawed = flawed h.naming.counted
held_flawless blocks held names u v h NameRange (b, inside, past) = absurd (omega (arith, past, h.naming.counted, h.naming.below b (omega (arith, inside, h.naming.counted))))
held_flawless blocks held names u v h NameTwice (i, j, before, inside, same) = h.naming.apart i j before (omega (arith, inside, h.naming.counted)) same
held_flawless blocks held names u v h PriceCount (inl flawed) = flawed h.proved.block_prices
held_flawless blocks held names u v h PriceCount (inr flawed) = flawed h.proved.pe_prices
held_flawless blocks held names u v h (PriceHigh b p) (block, pe, high) = absurd (omega (arith, ints, high, h.proved.low b p block pe))
held_flawless blocks held names u v h PriceGap flawed = flawed h.proved.adds_up
held_flawless blocks held names u v h _ flawed = flawed

module _ (blocks : ℕ) (sizes : List (ℕ × ℕ)) (cuts held names : List ℕ) (u v : List ℤ) where
  counted : IsHeld blocks sizes cuts held → blocks_between cuts ≡ blocks
  counted table = omega (arith, table.divides.counted)

  -- prices by the table are prices of the blocks
  named_by_table : length held ≡ blocks * blocks → IsHeld blocks sizes cuts held → IsNamedBy blocks held names u v → IsNamedWithin blocks sizes cuts names u v
  named_by_table square table h =
      let same : blocks ≡ blocks_between cuts = sym (counted table) in
      let proved : Proves blocks (block_cost sizes cuts) (bytes_moved sizes cuts names) u v = record {
        block_prices = h.proved.block_prices;
        pe_prices = h.proved.pe_prices;
        low = λ b p block pe. subst (λ cost. (price_at u b +ℤ price_at v p) ≤ℤ pos cost)
            (cost_by_table blocks sizes cuts held b p square table block pe) (h.proved.low b p block pe);
        adds_up = h.proved.adds_up ∙ ap pos (moved_by_table blocks sizes cuts held names square table h.naming);
      } in
      record {
        blocks = record {
          some_block = omega (arith, same, h.some_block);
          few_blocks = omega (arith, same);
          divides = subst (λ n. IsDivision 0 (length sizes) n cuts) same table.divides;
        };
        naming = subst (λ n. IsNaming n names) same h.naming;
        proved = subst (λ n. Proves n (block_cost sizes cuts) (bytes_moved sizes cuts names) u v) same proved;
      }

  -- and prices of the blocks are prices by the table
  table_named : length held ≡ blocks * blocks → IsHeld blocks sizes cuts held → IsNamedWithin blocks sizes cuts names u v → IsNamedBy blocks held names u v
  table_named square table h =
      let same : blocks_between cuts ≡ blocks = counted table in
      let naming : IsNaming blocks names = subst (λ n. IsNaming n names) same h.naming in
      let proved : Proves blocks (block_cost sizes cuts) (bytes_moved sizes cuts names) u v = subst
      (λ n. Proves n (block_cost sizes cuts) (bytes_moved sizes cuts names) u v) same h.proved in
      record {
        some_block = omega (arith, same, h.blocks.some_block);
        naming = naming;
        proved = record {
          block_prices = proved.block_prices;
          pe_prices = proved.pe_prices;
          low = λ b p block pe. subst (λ cost. (price_at u b +ℤ price_at v p) ≤ℤ pos cost)
              (sym (cost_by_table blocks sizes cuts held b p square table block pe)) (proved.low b p block pe);
          adds_up = proved.adds_up ∙ ap pos (sym (moved_by_table blocks sizes cuts held names square table naming));
        };
      }

  -- an answer by the table accepts the namings of the blocks that are proved
  pub blocks_of_answer : (answer : Result ℕ Flaw) → length held ≡ blocks * blocks → IsHeld blocks sizes cuts held
      → OnOk answer (IsNamedBy blocks held names u v) → IfErr answer (IsFirst (HasHeldFlaw blocks held names u v))
      → IsOk answer ↔ IsNamedWithin blocks sizes cuts names u v
  blocks_of_answer (Ok _) square table named first = (λ _. named_by_table square table named, λ _. refl)
  blocks_of_answer (Err flaw) square table named first =
      (λ accepted. absurd cc, λ h. absurd (held_flawless blocks held names u v (table_named square table h) flaw first.applies_itself))

  pub moved_of_answer : (answer : Result ℕ Flaw) → length held ≡ blocks * blocks → IsHeld blocks sizes cuts held
      → OnOk answer (IsNamedBy blocks held names u v) → IfOk answer (λ moved. moved ≡ held_moved blocks held names)
      → IfOk answer (λ moved. moved ≡ bytes_moved sizes cuts names)
  moved_of_answer (Ok _) square table named moved = moved ∙ moved_by_table blocks sizes cuts held names square table named.naming
  moved_of_answer (Err _) square table named moved = tt

  pub cheapest_of_answer : (answer : Result ℕ Flaw) → length held ≡ blocks * blocks → IsHeld blocks sizes cuts held
      → OnOk answer (IsNamedBy blocks held names u v) → OnOk answer (IsCheapest sizes cuts blocks names)
  cheapest_of_answer answer square table named =
      on_ok_weaker answer (λ h. subst (λ n. IsCheapest sizes cuts n names) (counted table) (cheapest_from_named sizes cuts names u v (named_by_table square table h))) named
