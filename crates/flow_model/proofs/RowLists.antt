-- The lists of rows and columns, one more element at a time.
use Rattle.std.proofs.Common.{◌≡◌, ℕ, ◌+◌, ◌-◌, ◌<◌, ◌≤◌, List, [], ◌∷◌, ◌++◌, length, map, get_or, take, refl, sym, ap, ◌∙◌, arith, append_assoc, append-nil, sum_by}
use Rattle.std.specs.List.{enumerate_from}
use Rattle.std.proofs.lemmas.List.{map-append, take_more, length-take-le}
use Rattle.std.proofs.lemmas.List.Sums.{sum_by_more, sum_by_more_le}
use Rattle.packing_laws.specs.Instances.{InstanceValue}
use Rattle.flow_graph.specs.declared.parts.ArcKind.{ArcKind}
use Rattle.flow_graph.specs.Arcs.{TypeValue, flow_type}
use Rattle.flow_model.specs.declared.programs.Row.{Row}
use Rattle.flow_model.specs.declared.programs.Column.{Column}
use Rattle.flow_model.specs.Flows.{up_to, nodes_from}
use Rattle.flow_model.specs.Models.{node_row, arc_column}

pub map-map : {X Y Z : Type 0} (f : Y → Z) (h : X → Y) (xs : List X) → map f (map h xs) ≡ map (λ x. f (h x)) xs
map-map f h [] = refl
map-map f h (x ∷ xs) = ap (λ ys. f (h x) ∷ ys) (map-map f h xs)

pub enumerate_from-append : {X : Type 0} (n : ℕ) (xs ys : List X) → enumerate_from n (xs ++ ys) ≡ enumerate_from n xs ++ enumerate_from (n + length xs) ys
enumerate_from-append n [] ys = ap (λ m. enumerate_from m ys) (omega arith)
enumerate_from-append n (x ∷ xs) ys =
    let at : n + 1 + length xs ≡ n + length (x ∷ xs) = omega arith in
    ap (λ zs. (n, x) ∷ zs) (enumerate_from-append (n + 1) xs ys ∙ ap (λ m. enumerate_from (n + 1) xs ++ enumerate_from m ys) at)

pub nodes_from-append : (t : ℕ) (xs ys : List TypeValue) → nodes_from t (xs ++ ys) ≡ nodes_from t xs ++ nodes_from (t + length xs) ys
nodes_from-append t [] ys = ap (λ (n : ℕ). nodes_from n ys) (omega arith)
nodes_from-append t (x ∷ xs) ys =
    let at : t + 1 + length xs ≡ t + length (x ∷ xs) = omega arith in
    ap (λ zs. map (λ v. (t, v)) (up_to x.nodes) ++ zs) (nodes_from-append (t + 1) xs ys ∙ ap (λ n. nodes_from (t + 1) xs ++ nodes_from n ys) at) ∙ sym (append_assoc (map (λ v. (t, v)) (up_to x.nodes)) (nodes_from (t + 1) xs) (nodes_from (t + length (x ∷ xs)) ys))

pub none : TypeValue
none = record { nodes = 1; arcs = [] }

pub nodes_from_more : (g : List TypeValue) (t : ℕ) → t < length g → nodes_from 1 (take (t + 1) g) ≡ nodes_from 1 (take t g) ++ map (λ v. (t + 1, v)) (up_to (flow_type g (t + 1)).nodes)
unfolding none
nodes_from_more g t within =
    let e : t + 1 - 1 ≡ t = omega arith in
    let x : TypeValue = get_or g t none in
    let same : flow_type g (t + 1) ≡ x = ap (λ n. get_or g n none) e in
    let long : 1 + length (take t g) ≡ t + 1 = let front = length-take-le t g (omega (arith, within)) in omega (arith, front) in
    ap (nodes_from 1) (take_more g t none within) ∙ nodes_from-append 1 (take t g) (x ∷ []) ∙ ap (λ n. nodes_from 1 (take t g) ++ nodes_from n (x ∷ [])) long ∙ ap (λ zs. nodes_from 1 (take t g) ++ zs) (append-nil (map (λ v. (t + 1, v)) (up_to x.nodes))) ∙ ap (λ (y : TypeValue). nodes_from 1 (take t g) ++ map (λ v. (t + 1, v)) (up_to y.nodes)) (sym same)

abbrev pub row_of_node : ℕ × ℕ → Row
row_of_node node = node_row node.0 node.1

pub node_rows_more : (g : List TypeValue) (t : ℕ) (rows new : List Row) → t < length g → rows ≡ map row_of_node (nodes_from 1 (take t g)) → new ≡ rows ++ map (node_row (t + 1)) (up_to (flow_type g (t + 1)).nodes) → new ≡ map row_of_node (nodes_from 1 (take (t + 1) g))
node_rows_more g t rows new within old pushed =
    let own : List ℕ = up_to (flow_type g (t + 1)).nodes in
    pushed ∙ ap (λ zs. zs ++ map (node_row (t + 1)) own) old ∙ ap (λ zs. map row_of_node (nodes_from 1 (take t g)) ++ zs) (sym (map-map row_of_node (λ v. (t + 1, v)) own)) ∙ sym (map-append row_of_node (nodes_from 1 (take t g)) (map (λ v. (t + 1, v)) own)) ∙ ap (map row_of_node) (sym (nodes_from_more g t within))

pub columns_more : (I : InstanceValue) (g : List TypeValue) (row : List ArcKind) (i n : ℕ) (d : ArcKind) (columns : List Column) → i < length row → n ≡ i → columns ≡ map (arc_column I g) (enumerate_from 1 (take i row)) → columns ++ arc_column I g (n + 1, get_or row i d) ∷ [] ≡ map (arc_column I g) (enumerate_from 1 (take (i + 1) row))
columns_more I g row i n d columns within same old =
    let long : 1 + length (take i row) ≡ n + 1 = let front = length-take-le i row (omega (arith, within)) in omega (arith, front, same) in
    let last : (1 + length (take i row), get_or row i d) ≡ (n + 1, get_or row i d) = λ k. (long k, get_or row i d) in
    ap (λ zs. zs ++ arc_column I g (n + 1, get_or row i d) ∷ []) old ∙ ap (λ c. map (arc_column I g) (enumerate_from 1 (take i row)) ++ c ∷ []) (ap (arc_column I g) (sym last)) ∙ sym (map-append (arc_column I g) (enumerate_from 1 (take i row)) (enumerate_from (1 + length (take i row)) (get_or row i d ∷ []))) ∙ ap (map (arc_column I g)) (sym (enumerate_from-append 1 (take i row) (get_or row i d ∷ []))) ∙ ap (λ zs. map (arc_column I g) (enumerate_from 1 zs)) (sym (take_more row i d within))

-- the number of nodes of the first types, one type more
pub starts_more : (g : List TypeValue) (t : ℕ) → t < length g → sum_by (λ x. x.nodes) (take (t + 1) g) ≡ sum_by (λ x. x.nodes) (take t g) + (flow_type g (t + 1)).nodes
starts_more g t within = let e : t + 1 - 1 ≡ t = omega arith in rw e (sum_by_more (λ (x : TypeValue). x.nodes) g t (record { nodes = 1; arcs = [] }) within)

pub starts_fit : (g : List TypeValue) (t : ℕ) → t < length g → sum_by (λ x. x.nodes) (take t g) + (flow_type g (t + 1)).nodes ≤ sum_by (λ x. x.nodes) g
starts_fit g t within = let e : t + 1 - 1 ≡ t = omega arith in rw e (sum_by_more_le (λ (x : TypeValue). x.nodes) g t (record { nodes = 1; arcs = [] }) within)
