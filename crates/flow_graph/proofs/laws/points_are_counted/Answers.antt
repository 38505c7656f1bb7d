use Rattle.flow_graph.proofs.Points.{box_points, part_points}
use Rattle.flow_graph.proofs.laws.points_are_counted.Goals as goal

pub returns : goal.returns
returns c = record { boxes = box_points; parts = part_points }
