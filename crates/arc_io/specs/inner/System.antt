-- What an error of the system is to a caller.
use Rattle.arc_io.specs.declared.IoFault.{IoFault}
use Rattle.arc_io.specs.declared.IoFault.TheVariants.{Failed, Memory}
use Rattle.std.specs.declared.io.ErrorKind.{ErrorKind}
use Rattle.std.specs.declared.io.ErrorKind.TheVariants.{OutOfMemory}

-- want of memory is told apart, and every other kind of error is a failure
abbrev pub fault_of_kind : ErrorKind → IoFault
fault_of_kind OutOfMemory = Memory
fault_of_kind _ = Failed
