-- The statuses of calls on divisions over PEs of unequal speed.
use Rattle.std.specs.Prelude.{ℤ, negsuc}
use Rattle.speed_lists.specs.declared.error.SpeedError.{SpeedError}
use Rattle.speed_lists.specs.declared.error.SpeedError.TheVariants.{BadInput, BadSpeed, BadLoad, OutOfMemory}

-- the status that says why a call was refused
abbrev pub speed_status : SpeedError → ℤ
speed_status BadInput = negsuc 0
speed_status OutOfMemory = negsuc 1
speed_status BadLoad = negsuc 2
speed_status BadSpeed = negsuc 12
