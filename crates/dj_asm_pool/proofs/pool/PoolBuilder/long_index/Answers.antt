use Rattle.std.proofs.Common.{ℤ, ap, ◌∙◌, w64, to_z, of_z, SFits, rules}
use Rattle.std.proofs.lemmas.Int.{to_z-of_z}
use Rattle.dj_asm_pool.specs.trusted.Entries.{Long}
use Rattle.dj_asm_pool.specs.Pooling.{found_index}
use Rattle.dj_asm_pool.proofs.FoundEntries.{long_sought}
use Rattle.dj_asm_pool.proofs.pool.PoolBuilder.long_index.Goals as goal

pub returns : goal.returns
returns c =
    let fits : SFits w64 c.args.n = search rules in
    c.sought.ensures (Long (to_z w64 (of_z w64 c.args.n))) (long_sought c.args.self.now (to_z w64 (of_z w64 c.args.n)))
    ∙ ap (λ (z : ℤ). found_index c.args.self.now (Long z)) (to_z-of_z w64 c.args.n fits)
