use Rattle.std.proofs.Common.{◌≡◌, ◌+◌, ◌-◌, ◌<◌, ◌≤◌, arith, length, slice_index}
use Rattle.std.proofs.lemmas.List.{get_or_read}
use Rattle.merged_refinement.specs.declared.pile.Table.{Table}
use Rattle.merged_refinement.proofs.Found.{first_inside, found_nearest, found_of, IsFound, none_found}
use Rattle.merged_refinement.proofs.search.keep_order.Goals as goal

pub index-requires-2 : goal.index-requires-2
index-requires-2 g c =
    let a = c.args in
    let present = a.present.now in
    let starts = c.in_ok-starts in
    let cuts = c.in_ok-cuts.cuts in
    let table : Table = record { starts = c.deref.result; present = present.cuts; near = present.near; far = present.far } in
    let found : IsFound a.loads.now a.bytes.now a.limit table cuts.items = found_of a.loads.now a.bytes.now a.limit table
    starts.starts.items cuts.items c.deref.ensures.value starts.ensures.counted starts.ensures.starts c.requires.some_rank
    c.requires.paired c.requires.light c.requires.divides c.requires.bounds c.in_ok-cuts.ensures.read in
    let counted : length cuts.items ≡ length present.near.now - 1 + 1 = c.in_ok-cuts.ensures.read.read.counted in
    let some : 1 < length cuts.items = omega (arith, counted, c.requires.some_rank) in
    let read : c.index.result.now ≡ slice_index cuts.items 1 = get_or_read cuts.items 1 c.index.result.now some c.index.ensures 0 in
    omega (arith, read, first_inside a.loads.now a.bytes.now a.limit table cuts.items found, starts.ensures.counted, starts.starts.ok.0)

pub returns-then-index-gt0 : goal.returns-then-index-gt0
returns-then-index-gt0 g c =
    let a = c.args in
    let present = a.present.now in
    let starts = c.in_ok-starts in
    let cuts = c.in_ok-cuts.cuts in
    let table : Table = record { starts = c.deref.result; present = present.cuts; near = present.near; far = present.far } in
    let found : IsFound a.loads.now a.bytes.now a.limit table cuts.items = found_of a.loads.now a.bytes.now a.limit table
    starts.starts.items cuts.items c.deref.ensures.value starts.ensures.counted starts.ensures.starts c.requires.some_rank
    c.requires.paired c.requires.light c.requires.divides c.requires.bounds c.in_ok-cuts.ensures.read in
    let counted : length cuts.items ≡ length present.near.now - 1 + 1 = c.in_ok-cuts.ensures.read.read.counted in
    let some : 1 < length cuts.items = omega (arith, counted, c.requires.some_rank) in
    let cut : c.index.result.now ≡ slice_index cuts.items 1 = get_or_read cuts.items 1 c.index.result.now some c.index.ensures 0 in
    let inside : c.index.result.now < length starts.starts.items = omega
    (arith, cut, first_inside a.loads.now a.bytes.now a.limit table cuts.items found, starts.ensures.counted) in
    let start : c.index-2.result.now ≡ slice_index starts.starts.items c.index.result.now = get_or_read starts.starts.items
    c.index.result.now c.index-2.result.now inside c.index-2.ensures 0 in
    let late : 0 < slice_index table.starts.now (slice_index cuts.items 1) = rw (← cut, c.deref.ensures.value) (omega (arith, start, c.if-index-gt0.true)) in
    record { nearest = λ others. none_found a.loads.now a.bytes.now a.limit table cuts.items others found late }

pub returns : goal.returns
returns g c =
    let a = c.args in
    let present = a.present.now in
    let starts = c.in_ok-starts in
    let cuts = c.in_ok-cuts.cuts in
    let table : Table = record { starts = c.deref.result; present = present.cuts; near = present.near; far = present.far } in
    let found : IsFound a.loads.now a.bytes.now a.limit table cuts.items = found_of a.loads.now a.bytes.now a.limit table
    starts.starts.items cuts.items c.deref.ensures.value starts.ensures.counted starts.ensures.starts c.requires.some_rank
    c.requires.paired c.requires.light c.requires.divides c.requires.bounds c.in_ok-cuts.ensures.read in
    let counted : length cuts.items ≡ length present.near.now - 1 + 1 = c.in_ok-cuts.ensures.read.read.counted in
    let some : 1 < length cuts.items = omega (arith, counted, c.requires.some_rank) in
    let cut : c.index.result.now ≡ slice_index cuts.items 1 = get_or_read cuts.items 1 c.index.result.now some c.index.ensures 0 in
    let inside : c.index.result.now < length starts.starts.items = omega
    (arith, cut, first_inside a.loads.now a.bytes.now a.limit table cuts.items found, starts.ensures.counted) in
    let start : c.index-2.result.now ≡ slice_index starts.starts.items c.index.result.now = get_or_read starts.starts.items
    c.index.result.now c.index-2.result.now inside c.index-2.ensures 0 in
    let begins : slice_index table.starts.now (slice_index cuts.items 1) ≤ 0 = rw (← cut, c.deref.ensures.value) (omega (arith, start, c.if-index-gt0.false)) in
    record { nearest = found_nearest a.loads.now a.bytes.now a.limit table cuts.items found begins }
