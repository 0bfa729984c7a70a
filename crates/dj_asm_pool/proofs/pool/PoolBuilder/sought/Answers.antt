use Rattle.std.proofs.Common.{◌≡◌, ◌∙◌, subst}
use Rattle.dj_asm_pool.specs.trusted.Entries.{Entry}
use Rattle.dj_asm_pool.specs.Pooling.{found_index, IsSought}
use Rattle.dj_asm_pool.proofs.FoundEntries.{sought_found}
use Rattle.dj_asm_pool.proofs.pool.PoolBuilder.sought.Goals as goal

pub returns : goal.returns
returns c =
    subst (λ l. (e : Entry) → IsSought l c.args.key e → c.unwrap_or.result ≡ found_index l e) c.self.view_is
    (λ e of. c.unwrap_or.ensures ∙ sought_found c.self.inside.texts c.self.inside.places c.self.invariant c.args.key c.find.result c.find.ensures e of)
