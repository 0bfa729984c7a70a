use Rattle.std.proofs.Common.{◌≡◌, ◌≤◌, ◌<◌, length, ap, refl, arith}
use Rattle.dj_model.specs.trusted.Kinds.{depth, entry_slots, form_entries}
use Rattle.dj_shape_rule.specs.Reading.{frame_code}
use Rattle.dj_shape_rule.specs.Reported.{reported_in}
use Rattle.dj_shape_rule.proofs.FrameLaws.{none_read, many_read, deep_read, some_read, low_so, deep_so}
use Rattle.dj_shape_rule.proofs.Links.{at_in}
use Rattle.dj_shape_rule.proofs.reading.Reader.read.Goals as goal

pub returns-in_default-clause-read : goal.returns-in_default-clause-read
returns-in_default-clause-read c =
    let code = frame_code c.args.room.0 c.args.room.1 c.args.made.now in
    none_read code (form_entries code c.args.self.now.entries.items c.args.form.now) (rw c.in_default.is at (c.in_ok-stack.ensures.changes c.args.room.0 c.args.room.1))

pub returns-then-from-place-clause-read : goal.returns-then-from-place-clause-read
returns-then-from-place-clause-read c =
    let code = frame_code c.args.room.0 c.args.room.1 c.args.made.now in
    let new = c.change.new.self.entries.items in
    let changes = rw c.in-Some.is at (c.in_ok-stack.ensures.changes c.args.room.0 c.args.room.1) in
    let count : c.place-place.result.count ≡ length (entry_slots new) = c.place-place.ensures.count in
    let many : c.args.room.1 < length (entry_slots new) = omega (arith, c.from.ensures, c.if-from-place.true) in
    many_read code c.args.self.now.entries.items c.args.form.now c.in-Some.stack.items new changes many

pub returns-then-is_none-clause-read : goal.returns-then-is_none-clause-read
returns-then-is_none-clause-read c =
    let code = frame_code c.args.room.0 c.args.room.1 c.args.made.now in
    let stack = c.in-Some.stack.items in
    let new = c.change.new.self.entries.items in
    let changes = rw c.in-Some.is at (c.in_ok-stack.ensures.changes c.args.room.0 c.args.room.1) in
    let low : c.from-2.result < depth c.deref.result.now = deep_so c.depth_within.result (depth c.deref.result.now) c.from-2.result c.depth_within.ensures.none c.if-is_none.ensures in
    let same = ap depth c.deref.ensures.value in
    let deep : c.args.room.0 < depth stack = omega (arith, c.from-2.ensures, same) in
    deep_read code c.args.self.now.entries.items c.args.form.now stack new changes deep

pub returns-clause-read : goal.returns-clause-read
returns-clause-read c =
    let code = frame_code c.args.room.0 c.args.room.1 c.args.made.now in
    let stack = c.in-Some.stack.items in
    let new = c.change.new.self.entries.items in
    let slots = c.change.new.self.frames.slots.items in
    let place = c.place-place.result in
    let changes = rw c.in-Some.is at (c.in_ok-stack.ensures.changes c.args.room.0 c.args.room.1) in
    let count : place.count ≡ length (entry_slots new) = c.place-place.ensures.count in
    let few : length (entry_slots new) ≤ c.args.room.1 = omega (arith, c.from.ensures, c.if-from-place.false) in
    let within : depth c.deref.result.now ≤ c.from-2.result = low_so c.depth_within.result (depth c.deref.result.now) c.from-2.result c.depth_within.ensures.some c.if-is_none.ensures in
    let same = ap depth c.deref.ensures.value in
    let low : depth stack ≤ c.args.room.0 = omega (arith, c.from-2.ensures, same) in (
      some_read code c.args.self.now.entries.items c.args.form.now stack new changes (reported_in slots (record { place = place; stack = c.in-Some.stack })) c.place-place.ensures.are refl few low,
      at_in slots place (entry_slots new) c.place-place.ensures,
      rw c.in-Some.is at c.in_ok-stack.ensures.reading,
    )
