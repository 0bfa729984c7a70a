use Rattle.std.proofs.Common.{◌≡◌, ◌-◌, ◌≤◌, length}
use Rattle.dj_shape_rule.specs.Reading.{ArePlaces}
use Rattle.dj_shape_rule.specs.Reported.{Grows}
use Rattle.dj_shape_rule.proofs.reading.Reader.place_all.Given as goal

abbrev pub invariant-loop-self : goal.invariant-loop-self
invariant-loop-self l = record {
  few : length l.self.places.items ≤ length l.self.entries.items;
  places : ArePlaces l.self.frames.slots.items l.self.places.items l.self.entries.items;
  entries : l.self.entries.items ≡ l.initial.self.entries.items;
  grows : Grows l.initial.self.frames l.self.frames;
}

abbrev pub decreases-loop-self : goal.decreases-loop-self
decreases-loop-self l = length l.self.entries.items - length l.self.places.items
