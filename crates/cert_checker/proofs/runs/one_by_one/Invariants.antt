use Rattle.std.proofs.Common.{◌≡◌, ◌+◌, drop, map}
use Rattle.std.specs.Prelude.{Option}
use Rattle.needs_check.specs.Rooms.{IsNeedRoomOf}
use Rattle.cert_laws.specs.declared.causes.Cause.{Cause}
use Rattle.cert_checker.specs.inner.Runs.{AreTold}
use Rattle.cert_checker.specs.inner.Standing.{StandingValue}
use Rattle.cert_checker.proofs.runs.one_by_one.Given as goal

abbrev pub invariant-loop-line : goal.invariant-loop-line
invariant-loop-line g l = record {
  count : l.standing.progress.count ≡ l.initial.standing.progress.count + l.line-index;
  root : l.standing.root ≡ l.initial.standing.root;
  scratch : l.scratch ≡ l.initial.scratch;
  room : IsNeedRoomOf l.graph l.room;
  leads : (verdict : Option Cause) (new : StandingValue) → AreTold l.instance l.graph l.standing (map g.T.Line.told (drop l.line-index l.lines)) verdict new → AreTold l.instance l.graph l.initial.standing (map g.T.Line.told l.lines) verdict new;
}
