-- The texts of reports. Each line ends with one line feed; numbers are decimal, without leading zeros.
use Rattle.std.specs.Prelude.{ℕ, ◌+◌, Bool, true, false, if◌then◌else◌, List, [], ◌∷◌, ◌++◌, length, sum_by, Option, None, Some, unwrap_or, codes, decimal}
use Rattle.std.specs.List.{flat_map}
use Rattle.packing_laws.specs.declared.packings.Count.{Count}
use Rattle.packing_laws.specs.declared.packings.Bin.{Bin}
use Rattle.packing_laws.specs.Instances.{InstanceValue, units_of}
use Rattle.packing_laws.specs.Packings.{cost_of}
use Rattle.packing_laws.specs.Printed.{bins_of}
use Rattle.packing_laws.specs.Floors.{material_of}
use Rattle.cert_text.specs.declared.lines.Certificate.{Certificate}
use Rattle.cert_text.specs.declared.lines.TreeLine.{TreeLine}
use Rattle.cert_text.specs.declared.lines.TreeLine.TheVariants.{Split, Needed, Leaf, Step as StepLine}
use Rattle.search_tree.specs.Trees.{splits_in}
use Rattle.branch_search.specs.declared.outcomes.Outcome.{Outcome}
use Rattle.branch_search.specs.declared.outcomes.Outcome.TheVariants.{Optimal, Infeasible, Bracket}
use Rattle.arc_compile.specs.declared.results.TypeSize.{TypeSize}
use Rattle.bound_certificates.specs.declared.found.BoundKind.{BoundKind}
use Rattle.bound_certificates.specs.declared.found.BoundKind.TheVariants.{Step, Material}
use Rattle.bound_certificates.specs.declared.found.FoundBound.{FoundBound}

-- so many units of a form, as ` ITEM.FORM*COUNT`
abbrev pub count_text : Count → List ℕ
count_text n = codes " " ++ decimal n.item ++ codes "." ++ decimal n.form ++ codes "*" ++ decimal n.count

-- what is in a bin
abbrev pub counts_text : List Count → List ℕ
counts_text counts = flat_map count_text counts

-- bins that are alike, as `TIMES type T:` and what is in each
abbrev pub bin_text : Bin → List ℕ
bin_text b = decimal b.times ++ codes " type " ++ decimal b.bin_type ++ codes ":" ++ counts_text b.counts ++ codes "\n"

-- a line for each bin
abbrev pub bins_text : List Bin → List ℕ
bins_text bins = flat_map bin_text bins

-- the first lines there may be: a packing that none is cheaper than, a bound and a packing above it, a bound alone, and that
-- there is no packing
abbrev pub optimal_line : ℕ → List ℕ
optimal_line cost = codes "optimal " ++ decimal cost ++ codes "\n"

abbrev pub bracket_line : ℕ → ℕ → List ℕ
bracket_line lower cost = codes "bracket " ++ decimal lower ++ codes " " ++ decimal cost ++ codes "\n"

abbrev pub unpacked_line : ℕ → List ℕ
unpacked_line lower = codes "bracket " ++ decimal lower ++ codes " none\n"

abbrev pub infeasible_line : List ℕ
infeasible_line = codes "infeasible\n"

-- the first line on a bound and a packing, where there is one
abbrev pub between_line : InstanceValue → ℕ → Option (List Bin) → List ℕ
between_line I lower None = unpacked_line lower
between_line I lower (Some bins) = bracket_line lower (cost_of I (bins_of bins))

-- the first line of an outcome
abbrev pub first_line : InstanceValue → Outcome → List ℕ
first_line I (Optimal bins c) = optimal_line (cost_of I (bins_of bins))
first_line I (Infeasible c) = infeasible_line
first_line I (Bracket lower packing c) = between_line I lower packing

-- the bins of an outcome
abbrev pub bins_in : Outcome → List Bin
bins_in (Optimal bins c) = bins
bins_in (Infeasible c) = []
bins_in (Bracket lower packing c) = unwrap_or packing []

-- the certificate of an outcome
abbrev pub certificate_in : Outcome → Certificate
certificate_in (Optimal bins c) = c
certificate_in (Infeasible c) = c
certificate_in (Bracket lower packing c) = c

-- the line is a split that carries no need
abbrev pub is_plain : TreeLine → Bool
is_plain (Split arc k) = true
is_plain (Needed arc k need) = false
is_plain (Leaf prices) = false
is_plain (StepLine dim step) = false

-- how many splits carry no need
abbrev pub plain_in : List TreeLine → ℕ
plain_in lines = sum_by (λ l. if is_plain l then 1 else 0) lines

-- the last line of the report of `solve`: how many splits a certificate has, and how many of them carry no need
abbrev pub splits_line : List TreeLine → List ℕ
splits_line lines = codes "splits " ++ decimal (splits_in lines) ++ codes " plain " ++ decimal (plain_in lines) ++ codes "\n"

-- the report of `solve`
abbrev pub outcome_text : InstanceValue → Outcome → List ℕ
outcome_text I outcome = first_line I outcome ++ bins_text (bins_in outcome) ++ splits_line (certificate_in outcome).lines

-- the first line of the report on a packing
abbrev pub packing_line : ℕ → List ℕ
packing_line cost = codes "packing " ++ decimal cost ++ codes "\n"

-- the report on a packing of this cost
abbrev pub packing_text : ℕ → List Bin → List ℕ
packing_text cost bins = packing_line cost ++ bins_text bins

-- where a bound comes from
abbrev pub kind_text : BoundKind → List ℕ
kind_text (Step dim step) = codes " step " ++ decimal dim ++ codes " " ++ decimal step
kind_text Material = codes " material"

-- the report on a bound
abbrev pub bound_text : FoundBound → List ℕ
bound_text found = codes "bound " ++ decimal found.bound ++ kind_text found.kind ++ codes "\n"

-- the first line of the report on graphs, in two parts
abbrev pub dims_and_types : InstanceValue → List ℕ
dims_and_types I = codes "dims " ++ decimal I.dims ++ codes " types " ++ decimal (length I.types)

abbrev pub items_and_units : InstanceValue → List ℕ
items_and_units I = codes " items " ++ decimal (length I.items) ++ codes " units " ++ decimal (units_of I) ++ codes "\n"

-- how many nodes and arcs a graph of this name has, behind a space
abbrev pub size_text : List ℕ → ℕ → ℕ → List ℕ
size_text name nodes arcs = name ++ decimal nodes ++ codes " " ++ decimal arcs

-- the line on the graphs of type t, in three parts
abbrev pub type_and_level : ℕ → ℕ × ℕ → List ℕ
type_and_level t level = codes "type " ++ decimal t ++ size_text (codes " level ") level.0 level.1

abbrev pub main_and_final : TypeSize → List ℕ
main_and_final size = size_text (codes " main ") size.main_nodes size.main_arcs ++ size_text (codes " final ") size.final_nodes size.final_arcs ++ codes "\n"

abbrev pub type_line : ℕ → ℕ × ℕ → TypeSize → List ℕ
type_line t level size = type_and_level t level ++ main_and_final size

-- a line for each type, from type t on
abbrev pub type_lines : ℕ → List (ℕ × ℕ) → List TypeSize → List ℕ
type_lines t [] sizes = []
type_lines t (level ∷ levels) [] = []
type_lines t (level ∷ levels) (size ∷ sizes) = type_line t level size ++ type_lines (t + 1) levels sizes

-- the line on the numbered arcs of all types
abbrev pub arcs_line : ℕ → List ℕ
arcs_line arcs = codes "arcs " ++ decimal arcs ++ codes "\n"

-- the report on the graphs of an instance
abbrev pub graphs_text : InstanceValue → List (ℕ × ℕ) → List TypeSize → ℕ → List ℕ
graphs_text I levels sizes arcs = dims_and_types I ++ items_and_units I ++ type_lines 1 levels sizes ++ arcs_line arcs

-- the first line of the report of `make`, in two parts
abbrev pub seed_and_size : ℕ → ℕ → List ℕ
seed_and_size seed size = codes "make " ++ decimal seed ++ codes " " ++ decimal size

abbrev pub units_and_material : InstanceValue → List ℕ
units_and_material I = codes " units " ++ decimal (units_of I) ++ codes " material " ++ decimal (material_of I) ++ codes "\n"

-- a line for the main and the final graph of each type, from type t on
abbrev pub size_line : ℕ → TypeSize → List ℕ
size_line t size = codes "type " ++ decimal t ++ main_and_final size

abbrev pub size_lines : ℕ → List TypeSize → List ℕ
size_lines t [] = []
size_lines t (size ∷ sizes) = size_line t size ++ size_lines (t + 1) sizes

-- the report of `make`
abbrev pub generated_text : ℕ → ℕ → InstanceValue → List TypeSize → Outcome → List ℕ
generated_text seed size I sizes outcome = seed_and_size seed size ++ units_and_material I ++ size_lines 1 sizes ++ first_line I outcome
