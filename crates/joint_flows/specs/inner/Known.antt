-- What a joint graph of an instance keeps of each arc, and how many arcs and nodes there are.
use Rattle.std.specs.Prelude.{◌≤◌, All, length}
use Rattle.arc_num.specs.declared.TheConstants.{MAX_ITEMS, MAX_NUMBERED}
use Rattle.packing_laws.specs.Instances.{InstanceValue}
use Rattle.flow_model.specs.inner.Known.{NamesType}
use Rattle.joint_arcs.specs.Joined.{JointValue, head_of, node_count, numbered, tail_of}
use Rattle.joint_flows.specs.inner.Sums.{item_of}

pub record IsKnownJoint (I : InstanceValue) (g : JointValue) : Type 0 where
  pub types : All (NamesType (length I.types)) (numbered g)
  pub own_types : All (NamesType g.types) (numbered g)
  pub tails : All (λ kind. tail_of g kind ≤ node_count g) (numbered g)
  pub heads : All (λ kind. head_of kind ≤ node_count g) (numbered g)
  pub items : All (λ kind. item_of kind ≤ length I.items) (numbered g)
  pub nodes : node_count g ≤ MAX_NUMBERED
  pub few_items : length I.items ≤ MAX_ITEMS
  pub row : length (numbered g) ≤ MAX_NUMBERED
