use Rattle.std.specs.Prelude.{◌++◌, All, length}
use Rattle.std.proofs.Common.{subst}
use Rattle.dj_frames.specs.trusted.StackMaps.{types_of}
use Rattle.dj_frames.specs.StackMaps.{IsTypeBelow}
use Rattle.dj_frames.proofs.Written.{all_of_back}
use Rattle.dj_frames.proofs.relocation.relocate_form.Goals as goal

pub relocate_types-requires-in-Full-2 : goal.relocate_types-requires-in-Full-2
relocate_types-requires-in-Full-2 c =
    let whole : All (IsTypeBelow (length c.args.own.now)) (c.in-Full.locals ++ c.in-Full.operands) = subst (λ f. All (IsTypeBelow (length c.args.own.now)) (types_of f)) c.in-Full.is c.requires in
    all_of_back (IsTypeBelow (length c.args.own.now)) c.in-Full.locals c.in-Full.operands whole
