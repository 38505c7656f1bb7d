-- The joint main and the joint final graph from classes and ranks.
use Rattle.std.proofs.Common.{◌≡◌, ◌↔◌, ℕ, List, length, refl, arith}
use Rattle.std.specs.Prelude.{Contains, AllPairs}
use Rattle.std.specs.List.{filter_map}
use Rattle.std.specs.Ordering.{nat_cmp}
use Rattle.std.specs.Cmp.Lexicographic.{slice_cmp}
use Rattle.std.proofs.Common.{take}
use Rattle.label_graph.specs.declared.parts.GraphArc.{GraphArc}
use Rattle.label_graph.specs.Graph.{ArcBefore}
use Rattle.label_graph.specs.inner.Merges.{merged_arc}
use Rattle.joint_graph.specs.Joints.{JointValue, IsJoint, IsInner}
use Rattle.joint_graph.specs.Ways.{HaveSameRooms, HaveSameWeights}
use Rattle.joint_graph.specs.Merged.{IsImage, IsJointMain, IsJointFinal}
use Rattle.joint_graph.specs.inner.Ranks.{IsInto, AreRanks}
use Rattle.joint_graph.specs.inner.Passes.{AreWaysTo}
use Rattle.joint_graph.specs.inner.Classes.{class_at, AreNumbered, AreClasses, RiseAlong, FitsMerged}
use Rattle.joint_graph.proofs.JointImages.{image-is-joint}
use Rattle.joint_graph.proofs.Exchanges.{fits-on, fits-to}
use Rattle.joint_graph.proofs.MergedNodes.{image-made, rises-all, merges-same, into-class}
use Rattle.joint_graph.proofs.Arrivals.{ranks-numbered, ranks-same, ranks-sorted}

module _ (N : ℕ) (g : JointValue N) (is : IsJoint N g) (numbers : List ℕ) (count : ℕ) where
  abbrev made_of : List GraphArc → JointValue N
  made_of arcs = record { pieces = g.pieces; caps = g.caps; inner = count; arcs = arcs }

  -- the image and that it is a joint graph
  pub image-all : AreNumbered g numbers count → RiseAlong g numbers → FitsMerged g numbers count → (into : List ℕ) → IsInto numbers count (length g.caps) into → (merged sorted : List GraphArc) → merged ≡ filter_map (merged_arc into) g.arcs → AllPairs ArcBefore sorted → ((x : GraphArc) → Contains sorted x ↔ Contains merged x) → IsJoint N (made_of sorted) × IsImage g into (made_of sorted)
  image-all are rise fits into whole merged sorted made up same =
      let im = image-made N g is numbers count are into whole rise merged sorted made up same in
      (image-is-joint N g is into (made_of sorted) im (rises-all N g is numbers count are into whole rise) are.few (fits into (made_of sorted) whole refl im), im)

  pub main-fits : AreClasses g (length g.caps) numbers count → FitsMerged g numbers count
  main-fits classes into image whole inner im t is_type path leads d =
      fits-on N g is into image im (merges-same N g numbers count classes.numbered into whole (HaveSameRooms g (length g.caps)) classes.same) t is_type path leads d

  pub main-made : AreClasses g (length g.caps) numbers count → (into : List ℕ) → IsInto numbers count (length g.caps) into → (image : JointValue N) → IsImage g into image → IsJointMain g image
  main-made classes into whole image im =
      record { into = into; merges = merges-same N g numbers count classes.numbered into whole (HaveSameRooms g (length g.caps)) classes.same; image = im }

module _ (N : ℕ) (g : JointValue N) (is : IsJoint N g) (weights : List (List ℕ)) (to : AreWaysTo g weights) (inner_weights : List (List ℕ)) (inner_are : inner_weights ≡ take g.inner weights) (distinct : List (List ℕ)) (numbers : List ℕ) (are : AreRanks (slice_cmp nat_cmp) inner_weights distinct numbers) where
  numbered : AreNumbered g numbers (length distinct)
  numbered = ranks-numbered N g is weights to inner_weights inner_are distinct numbers are

  same : (v w : ℕ) → IsInner g v → IsInner g w → (class_at numbers v ≡ class_at numbers w) ↔ HaveSameWeights g v w
  same = ranks-same N g is weights to inner_weights inner_are distinct numbers are

  pub final-fits : FitsMerged g numbers (length distinct)
  final-fits into image whole inner im t is_type path leads d =
      fits-to N g is into image im (merges-same N g numbers (length distinct) numbered into whole (HaveSameWeights g) same) t is_type path leads d

  pub final-made : (into : List ℕ) → IsInto numbers (length distinct) (length g.caps) into → (image : JointValue N) → IsImage g into image → IsJointFinal g image
  final-made into whole image im =
      record {
        into = into;
        merges = merges-same N g numbers (length distinct) numbered into whole (HaveSameWeights g) same;
        sorted = λ v w lighter heavier a b one two before. omega (arith, into-class N g numbers (length distinct) numbered into whole v a, into-class N g numbers (length distinct) numbered into whole w b, ranks-sorted N g is weights to inner_weights inner_are distinct numbers are v w lighter heavier a b one two before);
        image = im;
      }
