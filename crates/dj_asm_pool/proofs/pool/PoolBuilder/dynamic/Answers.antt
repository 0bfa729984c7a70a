use Rattle.std.proofs.Common.{subst}
use Rattle.dj_asm_pool.specs.trusted.Entries.{NameAndType, Dynamic}
use Rattle.dj_asm_pool.specs.Pooling.{Puts}
use Rattle.dj_asm_pool.proofs.PoolChains.{dynamic_key}
use Rattle.dj_asm_pool.proofs.pool.PoolBuilder.dynamic.Goals as goal

pub add-requires : goal.add-requires
add-requires c = (
  Dynamic c.args.place c.args.name.now c.args.desc.now,
  dynamic_key c.args.self.now c.name_and_type.new.self c.args.place c.args.name.now c.args.desc.now c.in-Some.names_index
      (subst (λ r. Puts c.args.self.now (NameAndType c.args.name.now c.args.desc.now) c.name_and_type.new.self r) c.in-Some.is c.in_ok-names_index.ensures),
)
