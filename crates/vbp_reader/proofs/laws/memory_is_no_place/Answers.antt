use Rattle.packing_laws.specs.declared.fault.ReadFault.TheVariants.{Memory}
use Rattle.packing_laws.specs.Places.{front}
use Rattle.vbp_reader.proofs.PlainFaults.{instance_faults}
use Rattle.vbp_reader.proofs.laws.memory_is_no_place.Goals as goal

pub returns : goal.returns
returns c = λ text h. instance_faults (front text) Memory h
