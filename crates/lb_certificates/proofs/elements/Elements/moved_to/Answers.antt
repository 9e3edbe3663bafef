use Rattle.std.proofs.Common.{◌≡◌, ◌-◌, ◌≤◌, length, slice_range, sum_by, arith, ap, subst, ◌∙◌}
use Rattle.std.specs.List.{zip}
use Rattle.lb_certificates.specs.Internal.{ArePaired, sizes_of}
use Rattle.lb_certificates.specs.Naming.{moved_bytes}
use Rattle.lb_certificates.proofs.ListedElements.{part_of_zip, zip_counted}
use Rattle.lb_certificates.proofs.elements.Elements.moved_to.Goals as goal

pub slice_bounds-listed_moved_to-end : goal.slice_bounds-listed_moved_to-end
slice_bounds-listed_moved_to-end c =
    let bytes = c.in-Apart.bytes.now in
    let places = c.in-Apart.places.now in
    let paired : length places ≡ length bytes = subst ArePaired c.in-Apart.is c.self.invariant in
    let seen : zip bytes places ≡ c.args.self.now = subst (λ listed. sizes_of listed ≡ c.args.self.now) c.in-Apart.is c.self.view_is in
    let inside : c.args.end ≤ length bytes = omega (arith, c.requires.inside, ap length seen, zip_counted bytes places paired) in
    inside

pub slice_bounds-listed_moved_to-end-in-Apart : goal.slice_bounds-listed_moved_to-end-in-Apart
slice_bounds-listed_moved_to-end-in-Apart c =
    let bytes = c.in-Apart.bytes.now in
    let places = c.in-Apart.places.now in
    let paired : length places ≡ length bytes = subst ArePaired c.in-Apart.is c.self.invariant in
    let seen : zip bytes places ≡ c.args.self.now = subst (λ listed. sizes_of listed ≡ c.args.self.now) c.in-Apart.is c.self.view_is in
    let inside : c.args.end ≤ length places = omega (arith, paired, c.requires.inside, ap length seen, zip_counted bytes places paired) in
    inside

pub returns-in-Apart-clause-value : goal.returns-in-Apart-clause-value
returns-in-Apart-clause-value c =
    let bytes = c.in-Apart.bytes.now in
    let places = c.in-Apart.places.now in
    let seen : zip bytes places ≡ c.args.self.now = subst (λ listed. sizes_of listed ≡ c.args.self.now) c.in-Apart.is c.self.view_is in
    let part = part_of_zip c.args.first (c.args.end - c.args.first) bytes places ∙ ap (λ sizes. slice_range sizes c.args.first c.args.end) seen in
    c.listed_moved_to.ensures.value ∙ ap (λ sizes. sum_by (λ size. moved_bytes size c.args.pe) sizes) part
