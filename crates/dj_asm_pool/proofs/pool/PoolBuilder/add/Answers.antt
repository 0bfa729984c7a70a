use Rattle.std.proofs.Common.{IfOk, sym, subst}
use Rattle.dj_asm_pool.specs.trusted.Entries.{Entry}
use Rattle.dj_asm_pool.specs.Pooling.{keyed_entries, PutsOne, IsKeyOf}
use Rattle.dj_asm_pool.proofs.PoolChains.{add_fields, add_puts}
use Rattle.dj_asm_pool.proofs.pool.PoolBuilder.add.Goals as goal

pub invariant_of-self : goal.invariant_of-self
invariant_of-self c =
    add_fields c.self.inside.texts c.self.inside.places c.add.new.self c.self.invariant c.add.result c.args.key
    (subst (λ l. (e : Entry) × IsKeyOf l c.args.key e) (sym c.self.view_is) c.requires) c.add.ensures

pub returns : goal.returns
returns c =
    subst (λ l. IfOk c.add.result (λ answer. (e : Entry) → IsKeyOf l c.args.key e → PutsOne l e (keyed_entries c.self.inside.texts c.add.new.self) answer)) c.self.view_is
    (add_puts c.self.inside.texts c.self.inside.places c.add.new.self c.self.invariant c.add.result c.args.key c.add.ensures)
