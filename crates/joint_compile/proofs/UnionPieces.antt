-- The pieces of all types: what is asked of them by graphs and by contents.
use Rattle.std.proofs.Common.{◌≡◌, ℕ, List, length, get_or, arith}
use Rattle.std.specs.Prelude.{All, AllPairs}
use Rattle.std.proofs.lemmas.List.Elements.{All-contains}
use Rattle.std.proofs.lemmas.Map.Keys.{Less-from_sorted}
use Rattle.std.specs.declared.cmp.Ordering.TheVariants.{Less}
use Rattle.packing_laws.specs.Instances.{InstanceValue, IsAmong, IsInstance}
use Rattle.label_graph.specs.declared.parts.Piece.{Piece}
use Rattle.label_graph.proofs.OneImage.{same-list}
use Rattle.arc_compile.specs.Compiled.{AreNamed}
use Rattle.arc_compile.specs.Pieces.{piece_cmp}
use Rattle.arc_compile.proofs.HeldPieces.{AreApart, HoldPieces, IsFormPiece, form_piece}
use Rattle.arc_compile.proofs.OneSize.{never_both}
use Rattle.arc_compile.proofs.PieceLists.{apart, heavy}
use Rattle.arc_compile.proofs.PieceNumbers.{pieces-le_forms}
use Rattle.joint_graph.specs.JointLevels.{ArePieces}
use Rattle.joint_compile.specs.JointPieces.{AreJointPieces, IsJointPiece}

module _ {N : ℕ} (I : InstanceValue) where
  joint_form : (q : Piece N) → IsJointPiece I q → IsFormPiece I q
  joint_form q h = form_piece I h.0 q h.2

  up : (pieces : List (Piece N)) → AreJointPieces I pieces → AllPairs (λ p q. piece_cmp p q ≡ Less) pieces
  up pieces are i j d lt in_range = Less-from_sorted piece_cmp pieces i j d are.order lt in_range

  module _ (pieces : List (Piece N)) (are : AreJointPieces I pieces) where
    pub joint_forms : All (IsFormPiece I) pieces
    joint_forms k d lt = joint_form (get_or pieces k d) (are.each k d lt)

    -- no two are of one form
    pub joint_apart : AllPairs AreApart pieces
    joint_apart i j d lt in_range = apart I (get_or pieces i d) (get_or pieces j d) (joint_forms i d (omega arith)) (joint_forms j d in_range) (up pieces are i j d lt in_range)

    -- they hold the pieces of each type
    pub joint_hold : (t : ℕ) → IsAmong t (length I.types) → HoldPieces I t pieces
    joint_hold t among = record { each = joint_forms; apart = joint_apart; all = λ q is. are.all q (t, among, is) }

    pub joint_named : AreNamed pieces
    joint_named = record {
      items = λ k d lt. let form = joint_forms k d lt in (form.item_is.0, form.form_is.0);
      apart = joint_apart;
    }

    -- they are what a joint graph is made of
    pub joint_list : IsInstance I → ArePieces pieces
    joint_list known = record {
      few = omega (arith, pieces-le_forms I pieces joint_forms joint_apart, known.form_count);
      heavy = λ k d lt. heavy I known (get_or pieces k d) (joint_forms k d lt);
    }

  -- there is but one list of the pieces of all types
  pub one_joint_pieces : (pieces others : List (Piece N)) → AreJointPieces I pieces → AreJointPieces I others → pieces ≡ others
  one_joint_pieces pieces others first second =
      same-list (λ p q. piece_cmp p q ≡ Less) never_both pieces others (up pieces first) (up others second)
      (λ q m. second.all q (All-contains (IsJointPiece I) pieces q first.each m))
      (λ q m. first.all q (All-contains (IsJointPiece I) others q second.each m))
