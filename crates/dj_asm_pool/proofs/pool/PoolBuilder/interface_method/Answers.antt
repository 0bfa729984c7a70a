use Rattle.std.proofs.Common.{Some, refl, subst}
use Rattle.dj_asm_pool.specs.declared.key.Key.TheVariants as keys
use Rattle.dj_asm_pool.specs.trusted.Entries.{InterfaceMethod}
use Rattle.dj_asm_pool.specs.Pooling.{member_parts}
use Rattle.dj_asm_pool.proofs.PoolChains.{PutsMember, interface_key, last_ends}
use Rattle.dj_asm_pool.proofs.pool.PoolBuilder.interface_method.Goals as goal

pub returns : goal.returns
returns c =
    let put : PutsMember c.args.self.now c.args.class.now c.args.name.now c.args.desc.now c.member.new.self (Some (c.in-Some.class_index, c.in-Some.names_index)) =
    subst (λ r. PutsMember c.args.self.now c.args.class.now c.args.name.now c.args.desc.now c.member.new.self r) c.in-Some.is c.in_ok-class_index.ensures in
    last_ends c.add.result c.args.self.now (member_parts c.args.class.now c.args.name.now c.args.desc.now) c.member.new.self
    (keys.InterfaceMethod c.in-Some.class_index c.in-Some.names_index) (InterfaceMethod c.args.class.now c.args.name.now c.args.desc.now) c.add.new.self refl put.0
    (interface_key c.args.self.now c.member.new.self c.args.class.now c.args.name.now c.args.desc.now c.in-Some.class_index c.in-Some.names_index put) c.add.ensures
