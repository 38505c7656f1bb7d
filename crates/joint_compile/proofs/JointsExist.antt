-- Each instance has a joint main graph, which is small or too large.
use Rattle.std.proofs.Common.{◌≡◌, ℕ, zero, suc, ◌+◌, ◌≤◌, List, [], ◌++◌, length, get_or, sym, subst, inl, inr, ⊎_elim, arith}
use Rattle.std.specs.Prelude.{All}
use Rattle.std.proofs.lemmas.Bool.{cases_lt}
use Rattle.arc_num.specs.declared.TheConstants.{MAX_ARCS}
use Rattle.packing_laws.specs.Instances.{InstanceValue, IsInstance}
use Rattle.label_graph.specs.declared.parts.Piece.{Piece}
use Rattle.label_graph.proofs.InOrder.{in_order}
use Rattle.arc_compile.specs.declared.ranks.Ranked.{Ranked}
use Rattle.arc_compile.specs.Extended.{extended_weight, places_of}
use Rattle.arc_compile.specs.inner.Ranks.{pieces_from}
use Rattle.arc_compile.proofs.ExtendedWeights.{weight_vector}
use Rattle.arc_compile.proofs.PiecesExist.{RankBefore, rank_total, rank-compare, ranks_exist, sorted_from_pairs}
use Rattle.arc_compile.proofs.WeighedPieces.{padded-sized}
use Rattle.joint_graph.specs.JointLaws.{JointMainsExist}
use Rattle.joint_compile.specs.JointCompiled.{HasJointArcs}
use Rattle.joint_compile.specs.JointLaws.{JointSizesExist}
use Rattle.joint_compile.specs.JointPieces.{AreJointPieces, joint_caps, width_of}
use Rattle.joint_compile.specs.inner.JointRanks.{AreRankedBelow}
use Rattle.joint_compile.proofs.UnionPieces.{joint_forms}
use Rattle.joint_compile.proofs.UnionRanks.{are_joint_pieces, ranked_more, ranked_none}
use Rattle.joint_compile.proofs.Widths.{width_fits}

module _ {N : ℕ} (I : InstanceValue) where
  -- the forms that fit the first types
  ranks_below_exist : (n : ℕ) → (ranked : List (Ranked N)) × AreRankedBelow I n ranked
  ranks_below_exist zero = ([], ranked_none I)
  ranks_below_exist (suc n) =
      let old = ranks_below_exist n in
      let own = ranks_exist {N = N} I (n + 1) (length I.items) in
      let one : n + 1 ≡ suc n = omega arith in
      (old.0 ++ own.0, subst (λ (k : ℕ). AreRankedBelow I k (old.0 ++ own.0)) one (ranked_more I n old.0 own.0 (old.0 ++ own.0) old.1 own.1 (λ r. (λ m. m, λ m. m))))

-- the pieces of all types
pub joint_pieces_exist : (N : ℕ) (I : InstanceValue) → (pieces : List (Piece N)) × AreJointPieces I pieces
joint_pieces_exist N I =
    let ranked = ranks_below_exist {N = N} I (length I.types) in
    let sorted = in_order RankBefore rank_total.trans rank-compare ranked.0 in
    let same : AreRankedBelow I (length I.types) sorted.0 = λ r. (λ m. (ranked.1 r).0 ((sorted.2 r).0 m), λ k. (sorted.2 r).1 ((ranked.1 r).1 k)) in
    (pieces_from I sorted.0, are_joint_pieces I sorted.0 same (sorted_from_pairs sorted.0 sorted.1))

-- their weights have as many numbers as there are places
joint_sized : (N : ℕ) (I : InstanceValue) → IsInstance I → places_of I ≤ N → (pieces : List (Piece N)) → AreJointPieces I pieces → All (λ q. length q.weight ≡ N) pieces
joint_sized N I known wide pieces are k d lt =
    let q = get_or pieces k d in
    let form = joint_forms I pieces are k d lt in
    let vector = weight_vector I known q.item q.form form.item_is form.form_is in
    subst (λ (w : List ℕ). length w ≡ N) (sym form.weighs) (padded-sized (places_of I) N (extended_weight I q.item q.form) vector wide)

pub joint_sizes_exist : JointMainsExist → JointSizesExist
joint_sizes_exist mains I known =
    let N = width_of I in
    let fits = width_fits (places_of I) (omega (arith, known.caps.room)) in
    let pieces = joint_pieces_exist N I in
    let main = mains N pieces.0 (joint_caps N I) (joint_sized N I known fits.0 pieces.0 pieces.1) in
    let has : HasJointArcs N I main.0 = record { pieces = pieces.0; are_pieces = pieces.1; main = main.1 } in
    ⊎_elim (λ past. inr (main.0, has, past)) (λ within. inl (main.0, has, within)) (cases_lt MAX_ARCS main.0)
