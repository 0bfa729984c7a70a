use Rattle.std.proofs.Common.{subst}
use Rattle.dj_asm_pool.specs.trusted.Entries.{NameAndType}
use Rattle.dj_asm_pool.proofs.PoolChains.{PutsTexts, names_key}
use Rattle.dj_asm_pool.proofs.pool.PoolBuilder.name_and_type.Goals as goal

pub add-requires : goal.add-requires
add-requires c = (
  NameAndType c.args.name.now c.args.desc.now,
  names_key c.args.self.now c.names.new.self c.args.name.now c.args.desc.now c.in-Some.name_index c.in-Some.desc_index
      (subst (λ r. PutsTexts c.args.self.now c.args.name.now c.args.desc.now c.names.new.self r) c.in-Some.is c.in_ok-name_index.ensures),
)
