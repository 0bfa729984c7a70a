use Rattle.std.proofs.Common.{◌≡◌, ◌<◌, Some, length, slice_get, sym, subst}
use Rattle.std.specs.Option.{option_map}
use Rattle.dj_model.specs.trusted.Program.{Program}
use Rattle.dj_declarations.specs.Members.{method_flags}
use Rattle.dj_class_table.specs.Tables.{methods_at}
use Rattle.dj_resolution.proofs.declarers.method_flags.Goals as goal

pub method_flags-requires-clause-there : goal.method_flags-requires-clause-there
method_flags-requires-clause-there c = subst (λ (p : Program). c.args.class < length p) (sym c.classes.ensures) c.requires.there

pub method_flags-requires-clause-within : goal.method_flags-requires-clause-within
method_flags-requires-clause-within c = subst (λ (p : Program). c.args.member < length (methods_at p c.args.class)) (sym c.classes.ensures) c.requires.within

pub returns : goal.returns
returns c = subst (λ (p : Program). Some c.method_flags.result ≡ option_map method_flags (slice_get (methods_at p c.args.class) c.args.member)) c.classes.ensures c.method_flags.ensures
