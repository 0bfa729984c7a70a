use Rattle.std.proofs.Common.{◌≡◌, ◌<◌, Some, length, slice_get, sym, subst}
use Rattle.std.specs.Option.{option_map}
use Rattle.dj_model.specs.trusted.Program.{Program}
use Rattle.dj_class_table.specs.Tables.{flags_in}
use Rattle.dj_resolution.proofs.find_numbered.flags_of.Goals as goal

pub flags_of-requires : goal.flags_of-requires
flags_of-requires c = subst (λ (p : Program). c.args.class < length p) (sym c.classes.ensures) c.requires

pub returns : goal.returns
returns c = subst (λ (p : Program). Some c.flags_of.result ≡ option_map flags_in (slice_get p c.args.class)) c.classes.ensures c.flags_of.ensures
