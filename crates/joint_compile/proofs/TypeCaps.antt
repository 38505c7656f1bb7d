-- The capacities of all types, by their numbers.
use Rattle.std.proofs.Common.{◌≡◌, ℕ, suc, ◌+◌, ◌-◌, ◌<◌, List, [], ◌∷◌, ◌++◌, length, get_or, map, sym, ap, ap₂, ◌∙◌, subst, arith}
use Rattle.std.proofs.lemmas.List.{get_or-map, length-map, map-append}
use Rattle.std.proofs.lemmas.Option.{get_or_from_slice_get}
use Rattle.packing_laws.specs.Instances.{InstanceValue, IsAmong}
use Rattle.flow_model.specs.Flows.{up_to}
use Rattle.flow_model.proofs.Solutions.{length_up_to, up_to_at}
use Rattle.arc_compile.specs.Extended.{extended_capacity}
use Rattle.arc_compile.specs.Pieces.{padded}
use Rattle.joint_graph.specs.Joints.{cap_at}
use Rattle.joint_compile.specs.JointPieces.{joint_caps}

-- there is a capacity for each type
pub caps_count : (N : ℕ) (I : InstanceValue) → length (joint_caps N I) ≡ length I.types
caps_count N I = length-map (up_to (length I.types)) (λ t. padded N (extended_capacity I t)) ∙ length_up_to (length I.types)

-- one more capacity
pub caps_more : (N : ℕ) (I : InstanceValue) (t : ℕ) (caps more : List (List ℕ)) (cap : List ℕ) → caps ≡ map (λ s. padded N (extended_capacity I s)) (up_to t) → cap ≡ padded N (extended_capacity I (t + 1)) → more ≡ caps ++ cap ∷ [] → more ≡ map (λ s. padded N (extended_capacity I s)) (up_to (t + 1))
caps_more N I t caps more cap before own grown =
    let of : ℕ → List ℕ = λ s. padded N (extended_capacity I s) in
    let one : suc t ≡ t + 1 = omega arith in
    let last : cap ≡ of (suc t) = own ∙ ap of (sym one) in
    let joined : map of (up_to t ++ suc t ∷ []) ≡ map of (up_to t) ++ of (suc t) ∷ [] = map-append of (up_to t) (suc t ∷ []) in
    let whole : more ≡ map of (up_to (suc t)) = grown ∙ (ap₂ (λ (xs : List (List ℕ)) (x : List ℕ). xs ++ x ∷ []) before last ∙ sym joined) in
    subst (λ (n : ℕ). more ≡ map of (up_to n)) one whole

pub caps_at : (N : ℕ) (I : InstanceValue) (t : ℕ) → IsAmong t (length I.types) → cap_at (joint_caps N I) t ≡ padded N (extended_capacity I t)
caps_at N I t among =
    let n = length I.types in
    let cap : ℕ → List ℕ = λ s. padded N (extended_capacity I s) in
    let lt : t - 1 < length (up_to n) = omega (arith, among.0, among.1, length_up_to n) in
    let number : get_or (up_to n) (t - 1) 0 ≡ t = get_or_from_slice_get (up_to n) (t - 1) t 0 (up_to_at n t among) in
    get_or-map cap (up_to n) (t - 1) 0 [] lt ∙ ap cap number
