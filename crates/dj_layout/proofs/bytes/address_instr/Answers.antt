use Rattle.std.proofs.Common.{length}
use Rattle.dj_layout.proofs.Passing.{pairs_numbers}
use Rattle.dj_layout.proofs.bytes.address_instr.Goals as goal

pub pair_addresses-requires : goal.pair_addresses-requires
pair_addresses-requires c =
    pairs_numbers (length c.args.starts.now) c.args.instr.now c.in-Lookup.default c.in-Lookup.pairs c.as_slice-in-Lookup.result.now c.in-Lookup.is c.as_slice-in-Lookup.ensures c.requires
