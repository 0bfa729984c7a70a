use Rattle.std.proofs.Common.{inl, subst}
use Rattle.dj_image.specs.Imaged.{program_of}
use Rattle.dj_emit.specs.Groups.{IsRefusal}
use Rattle.dj_emit.specs.Filed.{groups_in}
use Rattle.dj_rewrite_code.proofs.Assembling.{refused_big}
use Rattle.dj_rewrite_code.proofs.body.grouped.Goals as goal

pub returns-in-Err-BigObject : goal.returns-in-Err-BigObject
returns-in-Err-BigObject c =
    let gs = groups_in (program_of c.args.image.now) c.args.pool.now c.args.code.now in
    inl (refused_big gs c.in-Err-BigObject.field-0-0 (subst (IsRefusal gs) c.in-Err-BigObject.field-0-is c.in-Err-BigObject.ensures.big))
