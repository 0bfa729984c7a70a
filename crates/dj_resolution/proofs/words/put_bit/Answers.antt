use Rattle.dj_resolution.proofs.Bits.{bit_put}
use Rattle.dj_resolution.proofs.words.put_bit.Goals as goal

pub returns-clause-bits : goal.returns-clause-bits
returns-clause-bits c z = bit_put c.args.words.now c.args.number z c.requires
