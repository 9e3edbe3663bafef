-- The numbers of the flaws of a division.
use Rattle.std.proofs.Common.{◌<◌, arith}
use Rattle.lb_certificates.specs.declared.flaw.Flaw.{Flaw}
use Rattle.lb_certificates.specs.declared.flaw.Flaw.TheVariants.{CutCount, CutStart, CutOrder, CutEnd, Heavy, FenceCount, FenceStart, FenceOrder, FenceEnd, FenceLight, ZeroFloor, NameCount, NameRange, NameTwice, PriceCount, PriceHigh, PriceGap, MovedWrong, MovesWrong}
use Rattle.lb_certificates.specs.Flaws.{flaw_number}

-- they are below those of all other flaws of a refinement
pub division_flaw : (flaw : Flaw) → flaw_number flaw < 20
division_flaw CutCount = omega arith
division_flaw CutStart = omega arith
division_flaw CutOrder = omega arith
division_flaw CutEnd = omega arith
division_flaw (Heavy b) = omega arith
division_flaw FenceCount = omega arith
division_flaw FenceStart = omega arith
division_flaw FenceOrder = omega arith
division_flaw FenceEnd = omega arith
division_flaw (FenceLight i) = omega arith
division_flaw ZeroFloor = omega arith
division_flaw NameCount = omega arith
division_flaw NameRange = omega arith
division_flaw NameTwice = omega arith
division_flaw PriceCount = omega arith
division_flaw (PriceHigh b p) = omega arith
division_flaw PriceGap = omega arith
division_flaw MovedWrong = omega arith
division_flaw MovesWrong = omega arith
