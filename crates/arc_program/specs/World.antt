-- What a run sees of the outside: a shelf that it reads from, a sink for its report and one for what it refuses.
use Rattle.std.specs.Prelude.{ℕ, Bool}
use Rattle.arc_io.specs.Bytes.{Told, Files}
use Rattle.arc_io.specs.declared.Shelf as shelf
use Rattle.arc_io.specs.declared.Sink as sink

-- what a shelf tells: the bytes that it holds, what is left of the name that is read, the name that was asked for last, what was
-- written and under which name, whether a name is being written, and how many reads and writes have failed
pub record ShelfSeen : Type 0 where
  pub held : Files
  pub left : Told
  pub asked : Told
  pub written : Files
  pub created : Told
  pub writing : Bool
  pub read_faults : ℕ
  pub write_faults : ℕ

-- what a sink tells: the bytes that it took, and how many puts there were, how many of them failed, and how many found no memory
pub record SinkSeen : Type 0 where
  pub taken : Told
  pub puts : ℕ
  pub faults : ℕ
  pub starved : ℕ

pub record World : Type 0 where
  pub shelf : ShelfSeen
  pub out : SinkSeen
  pub err : SinkSeen

abbrev pub shelf_seen : {S : Type 0} → shelf.Ghosts S → S → ShelfSeen
shelf_seen g s = record {
  held = g.held s;
  left = g.left s;
  asked = g.asked s;
  written = g.written s;
  created = g.created s;
  writing = g.writing s;
  read_faults = g.read_faults s;
  write_faults = g.write_faults s;
}

abbrev pub sink_seen : {S : Type 0} → sink.Ghosts S → S → SinkSeen
sink_seen g s = record { taken = g.taken s; puts = g.puts s; faults = g.faults s; starved = g.starved s }

abbrev pub world_of : {H K E : Type 0} → shelf.Ghosts H → sink.Ghosts K → sink.Ghosts E → H → K → E → World
world_of h k e shelf out err = record { shelf = shelf_seen h shelf; out = sink_seen k out; err = sink_seen e err }
