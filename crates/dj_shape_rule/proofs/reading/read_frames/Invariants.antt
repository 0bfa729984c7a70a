use Rattle.std.proofs.Common.{◌≡◌, List, drop}
use Rattle.dj_model.specs.trusted.Kinds.{Placed, frames_after}
use Rattle.dj_shape_rule.specs.Reported.{AreReported}
use Rattle.dj_shape_rule.specs.Reading.{IsReading, frame_code, with_all}
use Rattle.dj_shape_rule.proofs.reading.read_frames.Given as goal

-- those so far were read, and those after them come after the local variables of the last
abbrev pub invariant-loop-frame : goal.invariant-loop-frame
invariant-loop-frame l = record {
  reading : IsReading l.reader;
  read : (placed : List Placed)
      × (frames_after (frame_code l.room.0 l.room.1 l.made) l.fn.reader.entries.items l.frames
      ≡ with_all placed (frames_after (frame_code l.room.0 l.room.1 l.made) l.reader.entries.items (drop l.frame-index l.frames)))
      × AreReported l.room.0 l.room.1 placed l.reader.frames;
}
