use Rattle.std.proofs.Common.{subst}
use Rattle.dj_asm_pool.specs.trusted.Entries.{Class, NameAndType}
use Rattle.dj_asm_pool.specs.Pooling.{Puts}
use Rattle.dj_asm_pool.proofs.PoolChains.{member_put, member_stop_last}
use Rattle.dj_asm_pool.proofs.pool.PoolBuilder.member.Goals as goal

pub returns-in_default-2 : goal.returns-in_default-2
returns-in_default-2 c =
    member_stop_last c.args.self.now c.class.new.self c.name_and_type.new.self c.args.class.now c.args.name.now c.args.desc.now c.in-Some.class_index
    (subst (λ r. Puts c.args.self.now (Class c.args.class.now) c.class.new.self r) c.in-Some.is c.in_ok-class_index.ensures)
    (subst (λ r. Puts c.class.new.self (NameAndType c.args.name.now c.args.desc.now) c.name_and_type.new.self r) c.in_default-2.is c.in_ok-names_index.ensures)

pub returns : goal.returns
returns c =
    member_put c.args.self.now c.class.new.self c.name_and_type.new.self c.args.class.now c.args.name.now c.args.desc.now c.in-Some.class_index c.in-Some-2.names_index
    (subst (λ r. Puts c.args.self.now (Class c.args.class.now) c.class.new.self r) c.in-Some.is c.in_ok-class_index.ensures)
    (subst (λ r. Puts c.class.new.self (NameAndType c.args.name.now c.args.desc.now) c.name_and_type.new.self r) c.in-Some-2.is c.in_ok-names_index.ensures)
