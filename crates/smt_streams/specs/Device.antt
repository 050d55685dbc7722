-- What a clause reads of a device.
use Rattle.std.specs.Prelude.{Bool}
use Rattle.smt_streams.specs.declared.device.Device.{Device}

-- what the device reads from or writes to
abbrev pub device_inner : {T : Type 0} → Device T → T
device_inner device = device.inner

-- whether a call of it has failed
abbrev pub device_broken : {T : Type 0} → Device T → Bool
device_broken device = device.broken

-- whether a call has told its end
abbrev pub device_ended : {T : Type 0} → Device T → Bool
device_ended device = device.ended
