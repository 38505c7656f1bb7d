-- The table of the command line: a row for each command, and what each option takes.
use Rattle.std.specs.Prelude.{ℕ, ◌-◌, ◌^◌, Bool, true, false, ◌==◌, if◌then◌else◌, Option, Some, None, codes}
use Rattle.std.specs.Str.{bytes_eq}
use Rattle.arc_num.specs.declared.TheConstants.{MAX_ITEMS, MAX_SPLITS, MAX_WORKERS}
use Rattle.command_words.specs.declared.table.Verb.{Verb}
use Rattle.command_words.specs.declared.table.Verb.TheVariants.{Compile, Solve, Check, Export, Extract, Bound, Make}
use Rattle.command_words.specs.declared.table.PlainWord.{PlainWord}
use Rattle.command_words.specs.declared.table.PlainWord.TheVariants as plain
use Rattle.command_words.specs.declared.table.PlainWord.TheVariants.{Instance, Certificate, Solution}
use Rattle.command_words.specs.declared.table.Setting.{Setting}
use Rattle.command_words.specs.declared.table.Setting.TheVariants.{Mvp, Joint, Nodes, Cert, Workers}
use Rattle.command_words.specs.declared.table.Takes.{Takes}
use Rattle.command_words.specs.declared.table.Takes.TheVariants.{Nothing, Number, Name}
use Rattle.command_words.specs.declared.table.Shape.{Shape}
use Rattle.command_words.specs.declared.table.Row.{Row}
use Rattle.command_words.specs.Words.{Word}

-- the command that a word names
abbrev pub verb_named : Word → Option Verb
verb_named w =
    if bytes_eq w (codes "compile") then Some Compile
    else (if bytes_eq w (codes "solve") then Some Solve
    else (if bytes_eq w (codes "check") then Some Check
    else (if bytes_eq w (codes "export") then Some Export
    else (if bytes_eq w (codes "extract") then Some Extract
    else (if bytes_eq w (codes "bound") then Some Bound
    else (if bytes_eq w (codes "make") then Some Make else None))))))

-- NAME [--mvp] [--joint]
abbrev pub exported_instance_shape : Shape
exported_instance_shape = record { first = Instance; second = None; mvp = true; joint = true; nodes = false; cert = false; workers = false }

-- NAME [--mvp] [--workers K]
abbrev pub shared_instance_shape : Shape
shared_instance_shape = record { first = Instance; second = None; mvp = true; joint = false; nodes = false; cert = false; workers = true }

-- NAME CERT [--mvp] [--workers K]
abbrev pub certified_instance_shape : Shape
certified_instance_shape = record { first = Instance; second = Some Certificate; mvp = true; joint = false; nodes = false; cert = false; workers = true }

-- NAME SOL [--mvp]
abbrev pub solved_instance_shape : Shape
solved_instance_shape = record { first = Instance; second = Some Solution; mvp = true; joint = false; nodes = false; cert = false; workers = false }

-- NAME [--mvp] [--cert CERT]
abbrev pub certifiable_instance_shape : Shape
certifiable_instance_shape = record { first = Instance; second = None; mvp = true; joint = false; nodes = false; cert = true; workers = false }

-- NAME [--mvp] [--nodes N] [--cert CERT] [--workers K]
abbrev pub searched_instance_shape : Shape
searched_instance_shape = record { first = Instance; second = None; mvp = true; joint = false; nodes = true; cert = true; workers = true }

-- SEED SIZE [--nodes N] [--workers K]
abbrev pub generated_instance_shape : Shape
generated_instance_shape = record { first = plain.Number 0 (2 ^ 64 - 1); second = Some (plain.Number 1 MAX_ITEMS); mvp = false; joint = false; nodes = true; cert = false; workers = true }

-- the rows: the plain words and options of each command, and whether it makes the graphs of the instance
abbrev pub row_of : Verb → Row
row_of Compile = record { shape = shared_instance_shape; makes_graphs = true }
row_of Solve = record { shape = searched_instance_shape; makes_graphs = true }
row_of Check = record { shape = certified_instance_shape; makes_graphs = true }
row_of Export = record { shape = exported_instance_shape; makes_graphs = true }
row_of Extract = record { shape = solved_instance_shape; makes_graphs = true }
row_of Bound = record { shape = certifiable_instance_shape; makes_graphs = false }
row_of Make = record { shape = generated_instance_shape; makes_graphs = true }

-- the option of a name
abbrev pub setting_named : Word → Option Setting
setting_named w =
    if bytes_eq w (codes "--mvp") then Some Mvp
    else (if bytes_eq w (codes "--joint") then Some Joint
    else (if bytes_eq w (codes "--nodes") then Some Nodes
    else (if bytes_eq w (codes "--cert") then Some Cert
    else (if bytes_eq w (codes "--workers") then Some Workers else None))))

-- what an option takes
abbrev pub taken_by : Setting → Takes
taken_by Mvp = Nothing
taken_by Joint = Nothing
taken_by Nodes = Number 0 MAX_SPLITS
taken_by Cert = Name
taken_by Workers = Number 1 MAX_WORKERS

-- whether an option takes anything
abbrev pub takes_value : Takes → Bool
takes_value Nothing = false
takes_value (Number least most) = true
takes_value Name = true

-- whether a command has an option
abbrev pub allows : Shape → Setting → Bool
allows shape Mvp = shape.mvp
allows shape Joint = shape.joint
allows shape Nodes = shape.nodes
allows shape Cert = shape.cert
allows shape Workers = shape.workers

-- what the plain word at place n, from 0, stands for
abbrev pub plain_at : Shape → ℕ → Option PlainWord
plain_at shape n = if n == 0 then Some shape.first else (if n == 1 then shape.second else None)

-- the number of plain words, where there is or is not a second
abbrev pub count_with : Option PlainWord → ℕ
count_with None = 1
count_with (Some second) = 2

abbrev pub plain_count : Shape → ℕ
plain_count shape = count_with shape.second
