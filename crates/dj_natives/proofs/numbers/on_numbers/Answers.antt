use Rattle.std.proofs.Common.{refl}
use Rattle.dj_names.specs.declared.descriptor.Kind.TheVariants as kinds
use Rattle.dj_names.specs.declared.native.NativeId.TheVariants as natives
use Rattle.dj_model.specs.NativeKinds.{native_signature}
use Rattle.dj_natives.proofs.ArgumentKinds.{argument_kind}
use Rattle.dj_natives.proofs.numbers.on_numbers.Goals as goal

pub int-requires : goal.int-requires
unfolding native_signature
int-requires c = argument_kind c.args.id natives.AbsInt c.args.args.now 0 kinds.Int c.in-AbsInt.is refl c.requires

pub int-requires-in-MaxInts : goal.int-requires-in-MaxInts
unfolding native_signature
int-requires-in-MaxInts c = argument_kind c.args.id natives.MaxInts c.args.args.now 0 kinds.Int c.in-MaxInts.is refl c.requires

pub int-requires-in-MaxInts-2 : goal.int-requires-in-MaxInts-2
unfolding native_signature
int-requires-in-MaxInts-2 c = argument_kind c.args.id natives.MaxInts c.args.args.now 1 kinds.Int c.in-MaxInts.is refl c.requires

pub int-requires-in-MinInts : goal.int-requires-in-MinInts
unfolding native_signature
int-requires-in-MinInts c = argument_kind c.args.id natives.MinInts c.args.args.now 0 kinds.Int c.in-MinInts.is refl c.requires

pub int-requires-in-MinInts-2 : goal.int-requires-in-MinInts-2
unfolding native_signature
int-requires-in-MinInts-2 c = argument_kind c.args.id natives.MinInts c.args.args.now 1 kinds.Int c.in-MinInts.is refl c.requires
