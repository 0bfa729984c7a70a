use Rattle.dj_declarations.specs.trusted.Files.{desc_in}
use Rattle.dj_resolution.proofs.Climbs.{instance_there, static_there}
use Rattle.dj_resolution.proofs.special.instance_method_in.Goals as goal

pub returns-then-flags-eq0 : goal.returns-then-flags-eq0
returns-then-flags-eq0 c =
    instance_there c.args.table.now c.args.class c.in_ok-member.member c.args.name.now (desc_in c.args.desc.now) c.method_flags-flags.result c.in_ok-member.ensures.found c.method_flags-flags.ensures c.if-flags-eq0.true

pub returns-else-flags-eq0 : goal.returns-else-flags-eq0
returns-else-flags-eq0 c =
    static_there c.args.table.now c.args.class c.in_ok-member.member c.args.name.now (desc_in c.args.desc.now) c.method_flags-flags.result c.in_ok-member.ensures.found c.method_flags-flags.ensures c.if-flags-eq0.false
