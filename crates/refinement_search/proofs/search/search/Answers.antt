use Rattle.std.proofs.Common.{◌≡◌, ◌∙◌, sym}
use Rattle.refinement_search.proofs.Found.{spanned}
use Rattle.refinement_search.proofs.search.search.Goals as goal

pub read_off-requires-clause-chain : goal.read_off-requires-clause-chain
read_off-requires-clause-chain g c =
    let a = c.args in
    let starts : c.in_ok-starts.starts.items ≡ c.deref-3.result.now = sym c.deref-3.ensures.value in
    let near : c.in_ok-near.near.items ≡ c.deref-4.result.now = sym c.deref-4.ensures.value in
    let far : c.in_ok-far.far.items ≡ c.deref-5.result.now = sym c.deref-5.ensures.value in
    let first : c.deref.result.now ≡ c.deref-3.result.now = c.deref.ensures.value ∙ starts in
    let second : c.deref-2.result.now ≡ c.deref-3.result.now = c.deref-2.ensures.value ∙ starts in
    spanned (record {
      sizes = a.sizes;
      names = a.names;
      present = a.present;
      starts = c.deref-3.result;
      near = c.deref-4.result;
      far = c.deref-5.result;
    }) a.loads.now a.limit c.requires.sizes c.requires.paired c.requires.some_block c.requires.few_blocks
    c.requires.naming c.requires.in_order (rw (← starts) c.in_ok-starts.ensures.counted) (rw (← starts) c.in_ok-starts.ensures.starts)
    (rw (← near) c.in_ok-near.ensures.counted) (rw (← near, ← first) c.in_ok-near.ensures.near) (rw (← far) c.in_ok-far.ensures.counted)
    (rw (← far, ← second) c.in_ok-far.ensures.far)
