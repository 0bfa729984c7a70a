use Rattle.std.proofs.Common.{inl, inr}
use Rattle.dj_declarations.specs.trusted.Files.{desc_in}
use Rattle.dj_resolution.proofs.Finding.{plain_there, plain_not_there, private_set, static_set}
use Rattle.dj_resolution.proofs.find.plain_method_in.Goals as goal
use Rattle.dj_resolution.proofs.find.plain_method_in.Goals.{else-flags-eq0-via-then-flags-eq0+else-flags-eq0-2, else-flags-eq0-via-else-flags-eq0}

pub returns-then-flags-eq0-2 : goal.returns-then-flags-eq0-2
returns-then-flags-eq0-2 c =
    plain_there c.args.table.now c.args.class c.in_ok-member.member c.args.name.now (desc_in c.args.desc.now) c.method_flags-flags.result c.in_ok-member.ensures.found c.method_flags-flags.ensures
    c.if-flags-eq0.true c.if-flags-eq0-2.true

pub returns-else-flags-eq0 : goal.returns-else-flags-eq0
returns-else-flags-eq0 c =
    plain_not_there c.args.table.now c.args.class c.in_ok-member.member c.args.name.now (desc_in c.args.desc.now) c.method_flags-flags.result c.in_ok-member.ensures.found c.method_flags-flags.ensures
    (elim c.else-flags-eq0.branch [
      | else-flags-eq0-via-then-flags-eq0+else-flags-eq0-2 w ↦ inr (static_set c.method_flags-flags.result w.if-flags-eq0-2.false)
      | else-flags-eq0-via-else-flags-eq0 w ↦ inl (private_set c.method_flags-flags.result w.if-flags-eq0.false)
    ])
