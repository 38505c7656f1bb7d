-- Forms that fit some of the first types, one type after the other.
use Rattle.std.proofs.Common.{◌≡◌, ◌↔◌, ℕ, ◌+◌, ◌-◌, ◌<◌, None, List, [], ◌++◌, length, get_or, sym, ap, ◌∙◌, subst, ⊎_elim, arith}
use Rattle.std.specs.Prelude.{All, Contains}
use Rattle.std.specs.List.Sorted.{IsStrictlySortedBy}
use Rattle.std.proofs.lemmas.Bool.{cases_lt}
use Rattle.std.proofs.lemmas.List.{get_or_default}
use Rattle.std.proofs.lemmas.List.Elements.{All-contains_itself, All-map, Contains-append_cases, Contains-append_left, Contains-append_right}
use Rattle.packing_laws.specs.declared.instances.BinType.{BinType}
use Rattle.packing_laws.specs.Instances.{InstanceValue, IsAmong, type_at}
use Rattle.label_graph.specs.declared.parts.Piece.{Piece}
use Rattle.arc_compile.specs.declared.ranks.Ranked.{Ranked}
use Rattle.arc_compile.specs.inner.Ranks.{IsRanked, AreRanked, piece_from, pieces_from, rank_cmp}
use Rattle.arc_compile.proofs.RankLemmas.{contains_map, is_piece, is_rank, piece_again, pieces_in_order, rank_of}
use Rattle.joint_compile.specs.JointPieces.{AreJointPieces, IsJointPiece}
use Rattle.joint_compile.specs.inner.JointRanks.{AreRankedBelow, IsRankedBelow}

-- no forms are in order
pub sorted_none : (N : ℕ) → IsStrictlySortedBy (rank_cmp {N = N}) []
unfolding IsStrictlySortedBy
sorted_none N = tt

-- a type by its place
pub type_by_place : (I : InstanceValue) (k : ℕ) (x : BinType) → k < length I.types → x ≡ get_or I.types k x → type_at I (k + 1) ≡ x
type_by_place I k x lt e =
    let n : k + 1 - 1 ≡ k = omega arith in
    let none : BinType = record { cap = []; cost = 0; limit = None } in
    ap (λ (j : ℕ). get_or I.types j none) n ∙ (get_or_default I.types k none x lt ∙ sym e)

module _ {N : ℕ} (I : InstanceValue) where
  -- no form fits one of no types
  pub ranked_none : AreRankedBelow {N = N} I 0 []
  ranked_none r = (λ m. absurd (let lt : m.0 < 0 = m.1 in omega arith), λ k. absurd (omega (arith, k.1.0, k.1.1)))

  -- one more type
  pub ranked_more : (n : ℕ) (old own all : List (Ranked N)) → AreRankedBelow I n old → AreRanked I (n + 1) (length I.items) own → ((r : Ranked N) → Contains all r ↔ Contains (old ++ own) r) → AreRankedBelow I (n + 1) all
  ranked_more n old own all before here same r = (
    λ m. ⊎_elim
        (λ o. let below = (before r).0 o in (below.0, (below.1.0, omega (arith, below.1.1)), below.2))
        (λ k. (n + 1, (omega arith, omega arith), (here r).0 k))
        (Contains-append_cases old own r ((same r).0 m)),
    λ k. (same r).1 (⊎_elim
        (λ last. Contains-append_right old own r ((here r).1 (last_type k last)))
        (λ first. Contains-append_left old own r ((before r).1 (k.0, (k.1.0, first), k.2)))
        (cases_lt n k.0)),
  )
    where
      last_type : (k : IsRankedBelow I (n + 1) r) → n < k.0 → IsRanked I (n + 1) (length I.items) r
      last_type k last =
          let e : k.0 ≡ n + 1 = omega (arith, k.1.1) in
          subst (λ (t : ℕ). IsRanked I t (length I.items) r) e k.2

  -- they are of items of the instance
  pub ranked_items : (ranked : List (Ranked N)) → AreRankedBelow I (length I.types) ranked → All (λ r. IsAmong r.item (length I.items)) ranked
  ranked_items ranked are k d lt = (((are (get_or ranked k d)).0 (All-contains_itself ranked k d lt)).2).item_is

  joint_piece : (r : Ranked N) → IsRankedBelow I (length I.types) r → IsJointPiece I (piece_from I r)
  joint_piece r h = (h.0, h.1, is_piece I h.0 r h.2)

  -- the pieces of all types are those of their ranks
  pub are_joint_pieces : (ranked : List (Ranked N)) → AreRankedBelow I (length I.types) ranked → IsStrictlySortedBy rank_cmp ranked → AreJointPieces I (pieces_from I ranked)
  are_joint_pieces ranked h up = record {
    each = All-map (IsJointPiece I) (piece_from I) ranked (λ k d lt. joint_piece (get_or ranked k d) ((h (get_or ranked k d)).0 (All-contains_itself ranked k d lt)));
    all = λ q k. subst (λ (p : Piece N). Contains (pieces_from I ranked) p) (piece_again I k.0 q k.2) (contains_map (piece_from I) ranked (rank_of I q) ((h (rank_of I q)).1 (k.0, k.1, is_rank I k.0 q k.2)));
    order = pieces_in_order I ranked up;
  }
