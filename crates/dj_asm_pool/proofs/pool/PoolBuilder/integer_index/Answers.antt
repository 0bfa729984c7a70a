use Rattle.std.proofs.Common.{ℤ, ap, ◌∙◌, w32, to_z, of_z, SFits, rules}
use Rattle.std.proofs.lemmas.Int.{to_z-of_z}
use Rattle.dj_asm_pool.specs.trusted.Entries.{Integer}
use Rattle.dj_asm_pool.specs.Pooling.{found_index}
use Rattle.dj_asm_pool.proofs.FoundEntries.{integer_sought}
use Rattle.dj_asm_pool.proofs.pool.PoolBuilder.integer_index.Goals as goal

pub returns : goal.returns
returns c =
    let fits : SFits w32 c.args.n = search rules in
    c.sought.ensures (Integer (to_z w32 (of_z w32 c.args.n))) (integer_sought c.args.self.now (to_z w32 (of_z w32 c.args.n)))
    ∙ ap (λ (z : ℤ). found_index c.args.self.now (Integer z)) (to_z-of_z w32 c.args.n fits)
