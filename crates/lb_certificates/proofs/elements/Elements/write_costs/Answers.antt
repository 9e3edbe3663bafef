use Rattle.std.proofs.Common.{◌≡◌, ℕ, ◌-◌, ◌<◌, ◌≤◌, length, slice_index, slice_range, sum_by, arith, ap, subst, ◌∙◌}
use Rattle.std.specs.List.{zip}
use Rattle.lb_certificates.specs.Internal.{ArePaired, sizes_of}
use Rattle.lb_certificates.specs.Naming.{moved_bytes}
use Rattle.lb_certificates.proofs.ListedElements.{part_of_zip, zip_counted}
use Rattle.lb_certificates.proofs.elements.Elements.write_costs.Goals as goal

pub slice_bounds-write_listed_costs-end : goal.slice_bounds-write_listed_costs-end
slice_bounds-write_listed_costs-end c =
    let bytes = c.in-Apart.bytes.now in
    let places = c.in-Apart.places.now in
    let paired : length places ≡ length bytes = subst ArePaired c.in-Apart.is c.self.invariant in
    let seen : zip bytes places ≡ c.args.self.now = subst (λ listed. sizes_of listed ≡ c.args.self.now) c.in-Apart.is c.self.view_is in
    let inside : c.args.end ≤ length bytes = omega (arith, c.requires.inside, ap length seen, zip_counted bytes places paired) in
    inside

pub slice_bounds-write_listed_costs-end-in-Apart : goal.slice_bounds-write_listed_costs-end-in-Apart
slice_bounds-write_listed_costs-end-in-Apart c =
    let bytes = c.in-Apart.bytes.now in
    let places = c.in-Apart.places.now in
    let paired : length places ≡ length bytes = subst ArePaired c.in-Apart.is c.self.invariant in
    let seen : zip bytes places ≡ c.args.self.now = subst (λ listed. sizes_of listed ≡ c.args.self.now) c.in-Apart.is c.self.view_is in
    let inside : c.args.end ≤ length places = omega (arith, paired, c.requires.inside, ap length seen, zip_counted bytes places paired) in
    inside

pub returns-in-Apart : goal.returns-in-Apart
returns-in-Apart c =
    let bytes = c.in-Apart.bytes.now in
    let places = c.in-Apart.places.now in
    let seen : zip bytes places ≡ c.args.self.now = subst (λ listed. sizes_of listed ≡ c.args.self.now) c.in-Apart.is c.self.view_is in
    let part = part_of_zip c.args.first (c.args.end - c.args.first) bytes places ∙ ap (λ sizes. slice_range sizes c.args.first c.args.end) seen in
    record {
      costs = subst (λ sizes. (p : ℕ) → p < length c.write_listed_costs.new.costs
          → slice_index c.write_listed_costs.new.costs p ≡ sum_by (λ size. moved_bytes size p) sizes) part c.write_listed_costs.ensures;
    }
