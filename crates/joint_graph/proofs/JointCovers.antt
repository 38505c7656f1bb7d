-- The paths of joint graphs are the contents that fit.
use Rattle.std.proofs.Common.{◌≡◌, ℕ, ◌+◌, List, length, get_or, sym, ap, ◌∙◌, subst, arith}
use Rattle.label_graph.specs.Graph.{IsPath}
use Rattle.joint_graph.specs.Joints.{JointValue, IsJoint, IsType, cap_at, target_at}
use Rattle.joint_graph.specs.Merged.{node_into, IsImage}
use Rattle.joint_graph.specs.JointLaws.{JointPathsFit, JointPathsCover, HasPathOf}
use Rattle.joint_graph.proofs.ImageNodes.{target-into}
use Rattle.joint_graph.proofs.JointImages.{walk}
use Rattle.joint_graph.proofs.Exchanges.{fits-to}
use Rattle.joint_graph.proofs.ChoicePaths.{choice-path}

image-path : (N : ℕ) (g : JointValue N) → IsJoint N g → (into : List ℕ) (image : JointValue N) → IsImage g into image → (t : ℕ) → IsType g.caps t → (count : ℕ) (content : List ℕ) → HasPathOf g t count content → HasPathOf image t count content
image-path N g is into image im t is_type count content has =
    let like = walk N g is into image im has.path 1 (target_at g t) has.leads in
    record {
      path = like.0;
      leads = subst (λ (b : ℕ). IsPath image.arcs 1 b like.0) (target-into N g into image im t is_type) (subst (λ (a : ℕ). IsPath image.arcs a (node_into into (target_at g t)) like.0) im.merging.first like.1);
      along = record { whole = has.along.whole; copies = λ p lt. like.2 (p + 1) ∙ has.along.copies p lt };
    }

pub joint_fits : JointPathsFit
joint_fits N pieces caps levels main final are t is_type path leads d =
    let f = are.final_is in
    let caps_are : main.caps ≡ caps = are.main_is.image.caps ∙ are.levels_are.caps_are in
    let there : IsType main.caps t = subst (λ (cs : List (List ℕ)). IsType cs t) (sym caps_are) is_type in
    let fits = fits-to N main are.main_keep f.into final f.image f.merges t there path leads d in
    omega (arith, fits, ap (λ (cs : List (List ℕ)). get_or (cap_at cs t) d 0) caps_are)

pub joint_covers : JointPathsCover
joint_covers N pieces caps levels main final are t is_type content choice =
    let l = are.levels_are in
    let found = choice-path pieces caps l.states l.states_ordered l.states_reached levels.arcs l.arcs_are t is_type content choice in
    let target : length l.states + t ≡ target_at levels t = omega (arith, l.inner_is) in
    let first : HasPathOf levels t (length pieces) content = record { path = found.0; leads = subst (λ (b : ℕ). IsPath levels.arcs 1 b found.0) target found.1; along = found.2 } in
    let level_caps : IsType levels.caps t = subst (λ (cs : List (List ℕ)). IsType cs t) (sym l.caps_are) is_type in
    let main_caps : IsType main.caps t = subst (λ (cs : List (List ℕ)). IsType cs t) (sym are.main_is.image.caps) level_caps in
    image-path N main are.main_keep are.final_is.into final are.final_is.image t main_caps (length pieces) content
    (image-path N levels are.levels_keep are.main_is.into main are.main_is.image t level_caps (length pieces) content first)
