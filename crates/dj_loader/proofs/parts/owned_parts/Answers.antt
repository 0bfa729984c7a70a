use Rattle.std.proofs.Common.{ℕ, ◌<◌, length, map, None, Option, subst, arith}
use Rattle.std.proofs.lemmas.List.{get_or_default}
use Rattle.dj_class.specs.Views.{class_of}
use Rattle.dj_loader.specs.Filed.{ArePartsFor}
use Rattle.dj_loader.proofs.Owned.{one_more_part}
use Rattle.dj_loader.proofs.parts.owned_parts.Goals as goal

pub loop-class-preserved : goal.loop-class-preserved
loop-class-preserved c =
    let table = c.args.table.now in
    let files = map class_of c.args.views.now in
    let owners = c.args.owners.now in
    let class = c.loop-class.class in
    let lt : class < length owners = omega (arith, c.requires.many, c.class_count-class-end.ensures.count, c.loop-class-test.true) in
    one_more_part table files owners class c.loop-class.parts.items c.push.new.self.items c.in_ok-class_parts.field-0 c.loop-class.invariant
    (subst (λ (o : Option ℕ). ArePartsFor table files class o c.in_ok-class_parts.field-0) (get_or_default owners class _ None lt) c.in_ok-class_parts.ensures.parts) c.in_ok-push.ensures.items
