-- Laws of the joint graph of an instance: it is faithful, there is but one, and it is either small or too large.
use Rattle.std.specs.Prelude.{◌≡◌, ◌⊎◌}
use Rattle.packing_laws.specs.Instances.{InstanceValue, IsInstance}
use Rattle.joint_arcs.specs.Joined.{JointValue}
use Rattle.joint_arcs.specs.Faithful.{IsFaithful}
use Rattle.joint_compile.specs.JointCompiled.{IsJointGraph, IsJointLarge, IsJointSmall}

-- the joint graph of an instance is faithful to it
abbrev pub JointGraphsAreFaithful : Type 0
JointGraphsAreFaithful = (I : InstanceValue) (g : JointValue) → IsInstance I → IsJointGraph I g → IsFaithful I g

-- there is but one
abbrev pub JointGraphIsOne : Type 0
JointGraphIsOne = (I : InstanceValue) (g h : JointValue) → IsInstance I → IsJointGraph I g → IsJointGraph I h → g ≡ h

-- it is not both small and too large
abbrev pub JointSizesAreOne : Type 0
JointSizesAreOne = (I : InstanceValue) → IsInstance I → IsJointSmall I → IsJointLarge I → ⊥

-- it is one or the other
abbrev pub JointSizesExist : Type 0
JointSizesExist = (I : InstanceValue) → IsInstance I → IsJointSmall I ⊎ IsJointLarge I
