-- What a checker keeps, and how it settles a line.
use Rattle.std.specs.Prelude.{◌≡◌, ◌+◌, List, Option, None, Some, Result, Ok, Err, length}
use Rattle.packing_laws.specs.Instances.{InstanceValue}
use Rattle.flow_graph.specs.Arcs.{TypeValue, numbered}
use Rattle.flow_graph.specs.Faithful.{GraphOf}
use Rattle.flow_model.specs.Boxes.{root_ranges}
use Rattle.cert_laws.specs.declared.causes.Cause.{Cause}
use Rattle.cert_checker.specs.declared.faults.CheckFault.{CheckFault}
use Rattle.path_prices.specs.Scratches.{ScratchValue, IsScratchOf}
use Rattle.needs_check.specs.Rooms.{NeedRoomValue, IsNeedRoomOf}
use Rattle.cert_checker.specs.Faults.{refusal_of}
use Rattle.cert_checker.specs.Checkers.{CheckerValue, IsReached, after_refused}
use Rattle.cert_checker.specs.inner.Standing.{StandingValue}

-- the graph is one of the instance, the walk began in its root box, accepted lines led here, and there is room for prices and needs
pub record IsReady (I : InstanceValue) (g : List TypeValue) (standing : StandingValue) (scratch : ScratchValue) (room : NeedRoomValue) : Type 0 where
  pub graph : GraphOf I g
  pub begun : standing.root ≡ root_ranges I g
  pub sized : length standing.root ≡ length (numbered g)
  pub reached : IsReached I g standing.progress
  pub items : scratch.items ≡ length I.items
  pub prepared : IsScratchOf g scratch
  pub needs : IsNeedRoomOf g room

-- a line whose first cause is known is settled: all stays; or the refusal is kept and answered
abbrev pub IsSettled : CheckerValue → Option Cause → Result (Unit {0}) CheckFault → CheckerValue → Type 0
IsSettled old None (Ok done) new = new ≡ old
IsSettled old None (Err fault) new = ⊥
IsSettled old (Some cause) (Ok done) new = ⊥
IsSettled old (Some cause) (Err fault) new = (refusal_of fault ≡ Some (old.progress.count + 1, cause)) × (new ≡ after_refused old (old.progress.count + 1, cause))
