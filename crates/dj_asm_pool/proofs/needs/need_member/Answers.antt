use Rattle.std.proofs.Common.{◌∷◌, [], sym, subst}
use Rattle.dj_asm_pool.specs.trusted.Needs.{member_entry}
use Rattle.dj_asm_pool.specs.PoolNeeds.{PutsNeeds}
use Rattle.dj_asm_pool.proofs.NeedSteps.{member_need}
use Rattle.dj_asm_pool.proofs.needs.need_member.Goals as goal

pub returns : goal.returns
returns c =
    subst (λ r. PutsNeeds c.args.pool.now (member_entry c.args.op c.args.class.now c.args.name.now c.args.desc.now c.args.interface ∷ []) c.put_member.new.pool r) (sym c.has_room.ensures)
    (member_need c.args.pool.now c.put_member.new.pool c.args.op c.args.class.now c.args.name.now c.args.desc.now c.args.interface c.in_ok-index.index c.all_short.result c.in_ok-index.ensures c.all_short.ensures)
