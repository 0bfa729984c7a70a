use Rattle.std.specs.Prelude.{◌++◌, All}
use Rattle.std.proofs.Common.{subst}
use Rattle.dj_frames.specs.trusted.StackMaps.{types_of, IsType}
use Rattle.dj_frames.proofs.Written.{all_of_back}
use Rattle.dj_frames.proofs.write.put_form.Goals as goal

pub put_table-requires-in-Full-clause-types : goal.put_table-requires-in-Full-clause-types
put_table-requires-in-Full-clause-types c =
    let whole : All (IsType c.args.starts.now) (c.in-Full.locals ++ c.in-Full.operands) = subst (λ f. All (IsType c.args.starts.now) (types_of f)) c.in-Full.is c.requires.types in
    rw c.as_slice-in-Full-2.ensures (all_of_back (IsType c.args.starts.now) c.in-Full.locals c.in-Full.operands whole)
