-- The parts of a decision, put together from what the calls read.
use Rattle.std.proofs.Common.{◌≡◌, ℕ, ◌+◌, ◌-◌, ◌*◌, ◌<◌, ◌≤◌, ◌^◌, List, ◌++◌, length, drop, take, refl, ap, sym, ◌∙◌, subst, arith, length-append, length-drop, append_assoc, ℤ, flat_map}
use Rattle.std.specs.Int.{w32, w64, from_be_bytes}
use Rattle.std.proofs.lemmas.List.{drop-drop, take_rest}
use Rattle.lb_certificates.specs.declared.division.Division.{Division}
use Rattle.lb_certificates.specs.declared.prices.Prices.{Prices}
use Rattle.dump_format.specs.Dumps.{ArePrices, AreWords}
use Rattle.dump_format.specs.Text.{word, long, price, floor_text}
use Rattle.dump_format.specs.declared.recorded.Recorded.{Recorded}
use Rattle.lb_dump.specs.PlanLists.{floor_len, AreNamedIn, ArePricesIn, IsDivisionIn, IsFloorIn}
use Rattle.lb_dump.specs.Plans.{flag_in, kind_at, kind_in, plan_bytes, plan_len, target_in, word_at}
use Rattle.dump_format.proofs.Bytes.{AreBytes, bytes_behind, bytes_left, bytes_right, last_word, long_first, word_first}
use Rattle.lb_dump.proofs.NumbersRead.{behind_part, word-append, word_at-append}

-- the length of the floor that begins at an offset
pub floor_whole : (bytes rest : List ℕ) (at count : ℕ) → rest ≡ drop at bytes → length bytes ≡ at + floor_len (word_at bytes at) count
    → length rest ≡ floor_len (word_at rest 0) count
floor_whole bytes rest at count is whole =
    let here : length (drop at bytes) ≡ floor_len (word_at bytes at) count = rw length-drop (omega arith) in
    ap length is ∙ (here ∙ ap (λ it. floor_len (from_be_bytes w32 it) count) (sym is))

-- the bottleneck, the cuts and the floor after them
pub division_read : {A : Type 0} (bytes cut_bytes floor_bytes items : List ℕ) (blocks : ℕ) (division : Division A) → AreBytes bytes → 8 ≤ length bytes
    → division.bottleneck ≡ from_be_bytes w64 bytes → division.bottleneck < 2 ^ 64
    → take (length bytes - 8) (drop 8 bytes) ≡ cut_bytes ++ floor_bytes
    → flat_map word items ≡ cut_bytes → length items ≡ blocks + 1 → AreWords items → division.cuts ≡ items
    → IsFloorIn floor_bytes (blocks + 1) division.floor → IsDivisionIn bytes blocks division
division_read bytes cut_bytes floor_bytes items blocks division known eight is small split spelled counted words cuts floor =
    let rest : drop 8 bytes ≡ flat_map word division.cuts ++ floor_text division.floor =
    sym (take_rest bytes 8) ∙ (split ∙ (ap (λ it. it ++ floor_bytes) (sym spelled ∙ ap (flat_map word) (sym cuts)) ∙ ap (λ it. flat_map word division.cuts ++ it) floor.spelled)) in
    record {
      spelled = long_first bytes division.bottleneck known eight is ∙ ap (λ it. long division.bottleneck ++ it) rest;
      bottleneck = small;
      cuts = ap length cuts ∙ counted;
      cut_words = subst AreWords (sym cuts) words;
      stops = floor.stops;
      stop_words = floor.words;
    }

-- the prices of the blocks, and after them those of the PEs
pub prices_read : {A : Type 0} (bytes first second : List ℕ) (us vs : List ℤ) (blocks : ℕ) (prices : Prices A) → bytes ≡ first ++ second
    → flat_map price us ≡ first → length us ≡ blocks → ArePrices us → prices.u ≡ us
    → flat_map price vs ≡ second → length vs ≡ blocks → ArePrices vs → prices.v ≡ vs → ArePricesIn bytes blocks prices
prices_read bytes first second us vs blocks prices split u_spelled u_counted u_range u_is v_spelled v_counted v_range v_is =
    record {
      spelled = split ∙ (ap (λ it. it ++ second) (sym u_spelled ∙ ap (flat_map price) (sym u_is))
          ∙ ap (λ it. flat_map price prices.u ++ it) (sym v_spelled ∙ ap (flat_map price) (sym v_is)));
      block_prices = ap length u_is ∙ u_counted;
      block_range = subst ArePrices (sym u_is) u_range;
      pe_prices = ap length v_is ∙ v_counted;
      pe_range = subst ArePrices (sym v_is) v_range;
    }

-- the bytes of a whole plan, cut after its floor
pub record Cut (bytes front back : List ℕ) (blocks : ℕ) : Type 0 where
  pub target : target_in bytes ≡ blocks
  pub whole : length bytes ≡ plan_len blocks (kind_in bytes)
  pub split : bytes ≡ front ++ back
  pub back_len : length back ≡ 20 * blocks + 12

front_len : (bytes front back : List ℕ) (blocks : ℕ) → Cut bytes front back blocks → length front ≡ 16 + 4 * (blocks + 1) + floor_len (kind_in bytes) (blocks + 1)
front_len bytes front back blocks cut =
    let joined : length bytes ≡ length front + length back = ap length cut.split ∙ length-append front back in
    let whole = cut.whole in
    let back_len = cut.back_len in
    omega arith

-- the kind of the floor, in the part after the flag and the target
pub front_kind : (bytes front back : List ℕ) (blocks : ℕ) → Cut bytes front back blocks → word_at (take (length front - 8) (drop 8 front)) (8 + 4 * (blocks + 1)) ≡ kind_in bytes
front_kind bytes front back blocks cut =
    let len : length front ≡ 16 + 4 * (blocks + 1) + floor_len (kind_in bytes) (blocks + 1) = front_len bytes front back blocks cut in
    let inside : kind_at blocks + 4 ≤ length front = omega arith in
    let there : 8 + (8 + 4 * (blocks + 1)) ≡ kind_at blocks = omega arith in
    ap (from_be_bytes w32) (behind_part front 8 (8 + 4 * (blocks + 1)) (drop (8 + 4 * (blocks + 1)) (take (length front - 8) (drop 8 front))) refl ∙ ap (λ i. drop i front) there)
    ∙ (sym (word_at-append front back (kind_at blocks) inside)
    ∙ (ap (λ it. word_at it (kind_at blocks)) (sym cut.split)
    ∙ ap (λ n. word_at bytes (kind_at n)) (sym cut.target)))

-- and the length of that part
pub front_whole : (bytes front back : List ℕ) (blocks : ℕ) → Cut bytes front back blocks
    → length (take (length front - 8) (drop 8 front)) ≡ 8 + 4 * (blocks + 1) + floor_len
    (word_at (take (length front - 8) (drop 8 front)) (8 + 4 * (blocks + 1))) (blocks + 1)
front_whole bytes front back blocks cut =
    let len : length front ≡ 16 + 4 * (blocks + 1) + floor_len (kind_in bytes) (blocks + 1) = front_len bytes front back blocks cut in
    let part : length (take (length front - 8) (drop 8 front)) ≡ 8 + 4 * (blocks + 1) + floor_len (kind_in bytes) (blocks + 1) = ap length
    (take_rest front 8) ∙ (length-drop 8 front ∙ omega arith) in
    part ∙ ap (λ kind. 8 + 4 * (blocks + 1) + floor_len kind (blocks + 1)) (sym (front_kind bytes front back blocks cut))

-- the flag and the target, and then that part
front_is : (bytes front back : List ℕ) (blocks : ℕ) → Cut bytes front back blocks → AreBytes bytes → flag_in bytes ≡ 1 → front ≡ word 1
    ++ (word blocks ++ take (length front - 8) (drop 8 front))
front_is bytes front back blocks cut known flag =
    let len : length front ≡ 16 + 4 * (blocks + 1) + floor_len (kind_in bytes) (blocks + 1) = front_len bytes front back blocks cut in
    let four : 4 ≤ length front = omega arith in
    let behind : 4 ≤ length (drop 4 front) = rw length-drop (omega arith) in
    let bytes_are : AreBytes front = bytes_left front back (subst AreBytes cut.split known) in
    let rest_are : AreBytes (drop 4 front) = bytes_behind 4 front bytes_are in
    let flag_is : 1 ≡ from_be_bytes w32 front = sym flag ∙ (ap (from_be_bytes w32) cut.split ∙ word-append front back four) in
    let target_is : blocks ≡ from_be_bytes w32 (drop 4 front) = sym cut.target ∙ (ap (λ it. word_at it 4) cut.split ∙ word_at-append front back 4 (omega arith)) in
    word_first front 1 bytes_are four flag_is ∙ ap (λ it. word 1 ++ it)
    (word_first (drop 4 front) blocks rest_are behind target_is ∙ ap (λ it. word blocks ++ it)
    (drop-drop 4 4 front ∙ sym (take_rest front 8)))

-- the bytes moved and the number of moves, the last twelve bytes
last_is : (numbers : List ℕ) (moved : ℕ) → AreBytes numbers → length numbers ≡ 12 → moved ≡ from_be_bytes w64 numbers → numbers ≡ long moved ++ word (word_at numbers 8)
last_is numbers moved known twelve is =
    let four : length (drop 8 numbers) ≡ 4 = rw length-drop (omega arith) in
    long_first numbers moved known (omega arith) is ∙ ap (λ it. long moved ++ it) (last_word (drop 8 numbers) (word_at numbers 8) four (bytes_behind 8 numbers known) refl)

-- where the number of moves begins
last_at : (bytes back numbers : List ℕ) (from behind : ℕ) → back ≡ drop from bytes → numbers ≡ drop behind back
    → from + behind + 12 ≡ length bytes → word_at numbers 8 ≡ word_at bytes (length bytes - 4)
last_at bytes back numbers from behind back_is numbers_is end =
    let there : from + (behind + 8) ≡ length bytes - 4 = omega arith in
    ap (λ it. word_at it 8) numbers_is ∙ ap (from_be_bytes w32)
    (drop-drop 8 behind back ∙ (ap (drop (behind + 8)) back_is ∙ (drop-drop (behind + 8) from bytes ∙ ap (λ i. drop i bytes) there)))

joined : (a b c d e f g h i j : List ℕ) → (a ++ (b ++ (c ++ (d ++ e)))) ++ ((f ++ (g ++ h)) ++ (i ++ j)) ≡ a ++ (b ++ (c ++ (d ++ (e ++ (f ++ (g ++ (h ++ (i ++ j))))))))
joined a b c d e f g h i j = simp append_assoc

-- the bytes of the whole plan
pub plan_spelled : {A : Type 0} (bytes front back lists numbers : List ℕ) (behind many : ℕ) (r : Recorded A) → Cut bytes front back r.target → AreBytes bytes → flag_in bytes ≡ 1
    → IsDivisionIn (take (length front - 8) (drop 8 front)) r.target r.decision.division
    → behind ≡ 20 * r.target + 12 → back ≡ drop (length bytes - behind) bytes
    → many ≡ 20 * r.target → numbers ≡ drop many back → back ≡ lists ++ numbers
    → AreNamedIn lists r.target r.decision.naming r.decision.prices → r.decision.moved ≡ from_be_bytes w64 numbers
    → bytes ≡ word 1 ++ plan_bytes r (word_at bytes (length bytes - 4))
plan_spelled bytes front back lists numbers behind many r cut known flag division behind_is back_is many_is numbers_is split named moved =
    let whole = cut.whole in
    let back_len = cut.back_len in
    let len : length numbers ≡ 12 = ap length numbers_is ∙ (length-drop many back ∙ omega arith) in
    let all : length bytes ≡ length front + length back = ap length cut.split ∙ length-append front back in
    let end : (length bytes - behind) + many + 12 ≡ length bytes = omega arith in
    let numbers_are : AreBytes numbers = bytes_right lists numbers (subst AreBytes split (bytes_right front back (subst AreBytes cut.split known))) in
    let last : numbers ≡ long r.decision.moved ++ word (word_at bytes (length bytes - 4)) =
    last_is numbers r.decision.moved numbers_are len moved
    ∙ ap (λ n. long r.decision.moved ++ word n) (last_at bytes back numbers (length bytes - behind) many back_is numbers_is end) in
    let first : front ≡ word 1 ++ (word r.target ++ (long r.decision.division.bottleneck ++ (flat_map word r.decision.division.cuts ++ floor_text r.decision.division.floor))) =
    front_is bytes front back r.target cut known flag ∙ ap (λ it. word 1 ++ (word r.target ++ it)) division.spelled in
    let second : back ≡ (flat_map word r.decision.naming ++ (flat_map price r.decision.prices.u ++ flat_map price r.decision.prices.v))
    ++ (long r.decision.moved ++ word (word_at bytes (length bytes - 4))) =
    split ∙ (ap (λ it. it ++ numbers) named.spelled ∙ ap
    (λ it. (flat_map word r.decision.naming ++ (flat_map price r.decision.prices.u ++ flat_map price r.decision.prices.v)) ++ it) last) in
    cut.split ∙ (ap (λ it. it ++ back) first ∙ (ap (λ it. (word 1
    ++ (word r.target ++ (long r.decision.division.bottleneck
    ++ (flat_map word r.decision.division.cuts ++ floor_text r.decision.division.floor)))) ++ it) second
    ∙ joined (word 1) (word r.target) (long r.decision.division.bottleneck) (flat_map word r.decision.division.cuts) (floor_text r.decision.division.floor)
    (flat_map word r.decision.naming) (flat_map price r.decision.prices.u) (flat_map price r.decision.prices.v) (long r.decision.moved) (word (word_at bytes (length bytes - 4)))))
