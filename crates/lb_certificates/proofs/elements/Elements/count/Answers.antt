use Rattle.std.proofs.Common.{◌≡◌, length, arith, ap, subst}
use Rattle.std.specs.List.{zip}
use Rattle.lb_certificates.specs.Internal.{ArePaired, sizes_of}
use Rattle.lb_certificates.proofs.ListedElements.{zip_counted}
use Rattle.lb_certificates.proofs.elements.Elements.count.Goals as goal

pub returns-in-Apart : goal.returns-in-Apart
returns-in-Apart c =
    let bytes = c.in-Apart.bytes.now in
    let places = c.in-Apart.field-1.now in
    let paired : length places ≡ length bytes = subst ArePaired c.in-Apart.is c.self.invariant in
    let seen : zip bytes places ≡ c.args.self.now = subst (λ listed. sizes_of listed ≡ c.args.self.now) c.in-Apart.is c.self.view_is in
    let counted : length bytes ≡ length c.args.self.now = omega (arith, ap length seen, zip_counted bytes places paired) in
    record { value = counted }
