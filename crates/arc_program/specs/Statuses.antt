-- The exit status of each way to end.
use Rattle.std.specs.Prelude.{ℕ}
use Rattle.arc_program.specs.declared.status.Status.{Status}
use Rattle.arc_program.specs.declared.status.Status.TheVariants.{Done, Bracketed, Usage, BadInstance, BadCertificate, ReadFault, WriteFault, NoMemory, TooLarge, BadSolution}

abbrev pub code_of : Status → ℕ
code_of Done = 0
code_of Bracketed = 1
code_of Usage = 2
code_of BadInstance = 3
code_of BadCertificate = 4
code_of ReadFault = 5
code_of WriteFault = 6
code_of NoMemory = 7
code_of TooLarge = 8
code_of BadSolution = 9

-- the report was taken whole
abbrev pub IsReported : Status → Type 0
IsReported Done = Unit {0}
IsReported Bracketed = Unit {0}
IsReported Usage = ⊥
IsReported BadInstance = ⊥
IsReported BadCertificate = ⊥
IsReported ReadFault = ⊥
IsReported WriteFault = ⊥
IsReported NoMemory = ⊥
IsReported TooLarge = ⊥
IsReported BadSolution = ⊥
