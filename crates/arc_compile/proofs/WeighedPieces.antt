-- The pieces of a type and its capacity have as many places as the graph, and numbers in range.
use Rattle.std.proofs.Common.{◌≡◌, ℕ, ◌+◌, ◌-◌, ◌≤◌, ⊎_elim, List, length, length-append, replicate, sym, arith, get_or, subst}
use Rattle.std.specs.Prelude.{All}
use Rattle.std.proofs.lemmas.Bool.{cases_lt}
use Rattle.std.proofs.lemmas.List.{length-replicate, get_or_past}
use Rattle.packing_laws.specs.Instances.{InstanceValue, IsInstance, IsAmong, IsVector}
use Rattle.weight_vec.specs.Weight.{IsInRange}
use Rattle.weight_vec.proofs.Places.{get_or-padded}
use Rattle.label_graph.specs.declared.parts.Piece.{Piece}
use Rattle.level_graph.specs.LevelLaws.{AreWeighed}
use Rattle.arc_compile.specs.Extended.{places_of, extended_weight, extended_capacity}
use Rattle.arc_compile.specs.Pieces.{padded, IsPiece}
use Rattle.arc_compile.proofs.ExtendedWeights.{weight_vector, capacity_vector}

pub padded-sized : (n N : ℕ) (v : List ℕ) → IsVector n v → n ≤ N → length (padded N v) ≡ N
padded-sized n N v h le =
    let zeros : List ℕ = replicate (N - length v) 0 in
    let count : length zeros ≡ N - length v = length-replicate (N - length v) 0 in
    let whole : length (padded N v) ≡ length v + length zeros = length-append v zeros in
    omega (arith, h.size)

pub padded-ranged : (n N : ℕ) (v : List ℕ) → IsVector n v → IsInRange (padded N v)
padded-ranged n N v h d =
    let same : get_or (padded N v) d 0 ≡ get_or v d 0 = get_or-padded v (N - length v) d in
    ⊎_elim
    (λ lt. omega (arith, h.small d 0 lt))
    (λ ge. omega (arith, get_or_past v d 0 ge))
    (cases_lt d (length v))

module _ {N : ℕ} (I : InstanceValue) (t : ℕ) (known : IsInstance I) (among : IsAmong t (length I.types)) (wide : places_of I ≤ N) where
  pub piece_vector : (q : Piece N) → IsPiece I t q → IsVector (places_of I) (extended_weight I q.item q.form)
  piece_vector q h = weight_vector I known q.item q.form h.item_is h.form_is

  pub are_weighed : N ≤ 32 → (pieces : List (Piece N)) → All (IsPiece I t) pieces → AreWeighed pieces (padded N (extended_capacity I t))
  are_weighed small pieces each = record {
    small = small;
    sized = padded-sized (places_of I) N (extended_capacity I t) (capacity_vector I known t among) wide;
    ranged = padded-ranged (places_of I) N (extended_capacity I t) (capacity_vector I known t among);
    pieces_sized = λ k d lt. let q = get_or pieces k d in subst (λ (w : List ℕ). length w ≡ N) (sym (each k d lt).weighs) (padded-sized (places_of I) N (extended_weight I q.item q.form) (piece_vector q (each k d lt)) wide);
    pieces_ranged = λ k d lt. let q = get_or pieces k d in subst (λ (w : List ℕ). IsInRange w) (sym (each k d lt).weighs) (padded-ranged (places_of I) N (extended_weight I q.item q.form) (piece_vector q (each k d lt)));
  }
