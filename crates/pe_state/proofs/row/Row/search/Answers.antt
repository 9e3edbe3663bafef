use Rattle.std.proofs.Common.{rules, arith, ℕ, ◌+◌, ◌-◌, ◌/◌, ◌<◌, List, get_or, subst, ap, ◌∙◌}
use Rattle.chare_index.specs.declared.limits.TheConstants.Limits.{ELEMENTS}
use Rattle.chares.specs.Elements.{ElementView}
use Rattle.pe_state.specs.Rows.{IsWithin}
use Rattle.pe_state.proofs.Places.{before, behind}
use Rattle.pe_state.proofs.row.Row.search.Goals as goal

pub loop-low-preserved-then-key-index-2 : goal.loop-low-preserved-then-key-index-2
loop-low-preserved-then-key-index-2 g c =
    let w : IsWithin 0 ELEMENTS c.args.self.now = subst (λ (r : List (ℕ × ElementView g.row.C.Denot)). IsWithin 0 ELEMENTS r) c.self.view_is c.self.invariant in
    let read = c.index.ensures ∙ ap (λ r. get_or r (c.loop-low.low + (c.loop-low.high - c.loop-low.low) / 2) c.index.result.now) c.self.view_is in
    record {
      in_order = omega arith;
      inside = search rules;
      below = before 0 ELEMENTS c.args.self.now w (c.loop-low.low + (c.loop-low.high - c.loop-low.low) / 2) c.args.index c.index.result.now
          (omega arith) (subst (λ (x : ℕ × ElementView g.row.C.Denot). x.0 < c.args.index) read c.if-key-index-2.true);
      above = search rules;
    }

pub loop-low-preserved : goal.loop-low-preserved
loop-low-preserved g c =
    let w : IsWithin 0 ELEMENTS c.args.self.now = subst (λ (r : List (ℕ × ElementView g.row.C.Denot)). IsWithin 0 ELEMENTS r) c.self.view_is c.self.invariant in
    let read = c.index.ensures ∙ ap (λ r. get_or r (c.loop-low.low + (c.loop-low.high - c.loop-low.low) / 2) c.index.result.now) c.self.view_is in
    let over : c.args.index < c.index.result.now.0 = omega (arith, c.if-key-index-2.false, c.if-key-index.false) in
    record {
      in_order = omega arith;
      inside = omega arith;
      below = search rules;
      above = behind 0 ELEMENTS c.args.self.now w (c.loop-low.low + (c.loop-low.high - c.loop-low.low) / 2) c.args.index c.index.result.now
          (omega arith) (subst (λ (x : ℕ × ElementView g.row.C.Denot). c.args.index < x.0) read over);
    }
