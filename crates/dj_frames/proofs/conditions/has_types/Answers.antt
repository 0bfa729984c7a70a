use Rattle.std.proofs.Common.{sym}
use Rattle.std.specs.Prelude.{◌↔◌, All, IsTrue}
use Rattle.dj_frames.specs.trusted.StackMaps.{IsType}
use Rattle.dj_frames.proofs.Tested.{then_second, else_first}
use Rattle.dj_frames.proofs.conditions.has_types.Goals as goal

pub returns-then-are_types : goal.returns-then-are_types
returns-then-are_types c =
    let P = IsType c.args.starts.now in
    let first : All P c.in-Full.locals = rw (sym c.as_slice-in-Full.ensures) (c.are_types-in-Full.ensures.0 c.if-are_types.true) in
    let second : IsTrue c.are_types-then-are_types.result ↔ All P c.in-Full.operands = rw (sym c.as_slice-then-are_types.ensures) c.are_types-then-are_types.ensures in
    rw c.in-Full.is (then_second P c.in-Full.locals c.in-Full.operands c.are_types-then-are_types.result first second)

pub returns-else-are_types : goal.returns-else-are_types
returns-else-are_types c =
    let P = IsType c.args.starts.now in
    let first : IsTrue c.are_types-in-Full.result ↔ All P c.in-Full.locals = rw (sym c.as_slice-in-Full.ensures) c.are_types-in-Full.ensures in
    rw c.in-Full.is (else_first P c.in-Full.locals c.in-Full.operands c.are_types-in-Full.result c.if-are_types.false first)
