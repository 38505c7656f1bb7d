-- The row of a joint graph.
use Rattle.std.proofs.Common.{◌≡◌, ℕ, zero, suc, ◌+◌, ◌-◌, ◌<◌, ◌≤◌, ◌==◌, List, [], ◌∷◌, ◌++◌, Some, length, map, get_or, All, sym, ap, subst, ◌∙◌, ⊎_elim, arith}
use Rattle.std.proofs.lemmas.Bool.{cases_eq, eq-eqb, ne_eqb}
use Rattle.std.specs.Prelude.{slice_get}
use Rattle.std.proofs.lemmas.Option.{slice_get-get_or}
use Rattle.std.proofs.lemmas.List.{length-append, length-map}
use Rattle.std.proofs.lemmas.List.Elements.{All-append, All-cons, All-map, All-nil, All-weaker}
use Rattle.packing_laws.specs.Instances.{IsAmong}
use Rattle.flow_graph.specs.declared.parts.TypeArc.{TypeArc}
use Rattle.flow_graph.specs.declared.parts.ArcKind.{ArcKind}
use Rattle.flow_graph.specs.declared.parts.ArcKind.TheVariants.{Bin}
use Rattle.flow_graph.specs.Arcs.{kind_of}
use Rattle.flow_model.specs.Flows.{up_to}
use Rattle.flow_model.specs.inner.Known.{NamesType}
use Rattle.flow_model.proofs.Solutions.{length_up_to}
use Rattle.joint_arcs.specs.Joined.{JointValue, arc_at, numbered}

abbrev pub bin_row : ℕ → List ArcKind
bin_row n = map (λ t. Bin t) (up_to n)

-- a bin arc for each type, and the others
pub numbered_length : (g : JointValue) → length (numbered g) ≡ g.types + length g.arcs
numbered_length g =
    let bins : length (bin_row g.types) ≡ length (up_to g.types) = length-map (up_to g.types) (λ t. Bin t) in
    let many = length_up_to g.types in
    let others : length (map (kind_of 1) g.arcs) ≡ length g.arcs = length-map g.arcs (kind_of 1) in
    let joined = length-append (bin_row g.types) (map (kind_of 1) g.arcs) in
    omega (arith, bins, many, others, joined)

among_up_to : (n m : ℕ) → n ≤ m → All (λ t. IsAmong t m) (up_to n)
among_up_to zero m few = All-nil (λ t. IsAmong t m)
among_up_to (suc n) m few =
    let first = among_up_to n m (omega (arith, few)) in
    All-append (λ t. IsAmong t m) (up_to n) (suc n ∷ []) first (All-cons (λ t. IsAmong t m) (suc n) [] (omega arith, few) (All-nil (λ t. IsAmong t m)))

names_none : (n : ℕ) (e : TypeArc) → NamesType n (kind_of 1 e)
names_none n e = ⊎_elim (λ none. rw (eq-eqb e.item 0 none) tt) (λ some. rw (ne_eqb e.item 0 some) tt) (cases_eq e.item 0)

-- the bin arcs are those of the types
pub names_types : (g : JointValue) → All (NamesType g.types) (numbered g)
names_types g =
    let own = among_up_to g.types g.types (omega arith) in
    let bins = All-map (NamesType g.types) (λ t. Bin t) (up_to g.types) own in
    let others = All-map (NamesType g.types) (kind_of 1) g.arcs (λ k d within. names_none g.types (get_or g.arcs k d)) in
    All-append (NamesType g.types) (bin_row g.types) (map (kind_of 1) g.arcs) bins others

-- what is found at a place of the row is an arc of the graph, and names a type of it where it is a bin arc
pub named_there : (g : JointValue) (row : List ArcKind) (k : ℕ) (kind : ArcKind) → row ≡ numbered g → k < length row → kind ≡ get_or row k kind → NamesType g.types kind
named_there g row k kind is within at =
    let own = names_types g k kind (subst (λ (r : List ArcKind). k < length r) is within) in
    subst (NamesType g.types) (sym (at ∙ ap (λ (r : List ArcKind). get_or r k kind) is)) own

pub arc_there : (g : JointValue) (row : List ArcKind) (a : ℕ) (kind : ArcKind) → row ≡ numbered g → (a ≡ 0 → ⊥) → a - 1 < length row → kind ≡ get_or row (a - 1) kind → arc_at g a ≡ Some kind
arc_there g row a kind is some within at =
    let found = slice_get-get_or (numbered g) (a - 1) kind (subst (λ (r : List ArcKind). a - 1 < length r) is within) in
    let own : slice_get (numbered g) (a - 1) ≡ Some kind = found ∙ ap (λ (x : ArcKind). Some x) (sym (at ∙ ap (λ (r : List ArcKind). get_or r (a - 1) kind) is)) in
    rw (ne_eqb a 0 some) own
