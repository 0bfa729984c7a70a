use Rattle.std.proofs.Common.{arith, rules}
use Rattle.dj_names.specs.trusted.Descriptors.{Describes}
use Rattle.dj_asm.proofs.ProperCode.{few_slots}
use Rattle.dj_asm.proofs.instrs.interface_call.Goals as goal

pub overflow_add-result : goal.overflow_add-result
overflow_add-result c =
    let is : Describes c.args.desc.now c.in_ok-described.described = search rules in
    let few = few_slots c.args.index c.args.desc.now c.in_ok-described.described c.requires is in
    let same = c.slots.ensures in
    omega (arith, few, same)
