use Rattle.mvp_reader.proofs.InstanceRows.{instance_sound}
use Rattle.mvp_reader.proofs.read_mvp.Goals as goal

pub into_instance-requires : goal.into_instance-requires
into_instance-requires c = (instance_sound c.new.result c.in_ok-parts.parts c.in_ok-parts.ensures).0
