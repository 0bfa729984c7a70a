use Rattle.std.proofs.Common.{sym}
use Rattle.std.specs.Prelude.{◌↔◌, All, IsTrue}
use Rattle.dj_frames.specs.StackMaps.{IsTypeBelow}
use Rattle.dj_frames.proofs.Tested.{then_second, else_first}
use Rattle.dj_frames.proofs.conditions.is_form_below.Goals as goal

pub returns-then-are_types_below : goal.returns-then-are_types_below
returns-then-are_types_below c =
    let P = IsTypeBelow c.args.limit in
    let first : All P c.in-Full.locals = rw (sym c.as_slice-in-Full.ensures) (c.are_types_below-in-Full.ensures.0 c.if-are_types_below.true) in
    let second : IsTrue c.are_types_below-then-are_types_below.result ↔ All P c.in-Full.operands = rw (sym c.as_slice-then-are_types_below.ensures) c.are_types_below-then-are_types_below.ensures in
    rw c.in-Full.is (then_second P c.in-Full.locals c.in-Full.operands c.are_types_below-then-are_types_below.result first second)

pub returns-else-are_types_below : goal.returns-else-are_types_below
returns-else-are_types_below c =
    let P = IsTypeBelow c.args.limit in
    let first : IsTrue c.are_types_below-in-Full.result ↔ All P c.in-Full.locals = rw (sym c.as_slice-in-Full.ensures) c.are_types_below-in-Full.ensures in
    rw c.in-Full.is (else_first P c.in-Full.locals c.in-Full.operands c.are_types_below-in-Full.result c.if-are_types_below.false first)
