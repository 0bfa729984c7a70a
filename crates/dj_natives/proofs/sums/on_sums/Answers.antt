use Rattle.std.proofs.Common.{refl}
use Rattle.dj_names.specs.declared.descriptor.Kind.TheVariants as kinds
use Rattle.dj_names.specs.declared.native.NativeId.TheVariants as natives
use Rattle.dj_model.specs.NativeKinds.{native_signature}
use Rattle.dj_natives.proofs.ArgumentKinds.{argument_kind}
use Rattle.dj_natives.proofs.sums.on_sums.Goals as goal

pub int-requires : goal.int-requires
unfolding native_signature
int-requires c = argument_kind c.args.id natives.RecordAllocation c.args.args.now 0 kinds.Int c.in-RecordAllocation.is refl c.requires

pub int-requires-in-RecordArray : goal.int-requires-in-RecordArray
unfolding native_signature
int-requires-in-RecordArray c = argument_kind c.args.id natives.RecordArray c.args.args.now 0 kinds.Int c.in-RecordArray.is refl c.requires

pub int-requires-in-RecordArray-2 : goal.int-requires-in-RecordArray-2
unfolding native_signature
int-requires-in-RecordArray-2 c = argument_kind c.args.id natives.RecordArray c.args.args.now 1 kinds.Int c.in-RecordArray.is refl c.requires
