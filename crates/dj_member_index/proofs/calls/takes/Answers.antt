use Rattle.dj_member_index.proofs.CallLaws.{takes_no_static, takes_private, takes_public}
use Rattle.dj_member_index.proofs.calls.takes.Goals as goal

pub returns-then-flags-ne0 : goal.returns-then-flags-ne0
returns-then-flags-ne0 c = takes_no_static c.args.private_too c.args.flags c.if-flags-ne0.true

pub returns-then-private_too : goal.returns-then-private_too
returns-then-private_too c = takes_private c.args.private_too c.args.flags c.if-flags-ne0.false c.if-private_too.true

pub returns-else-private_too : goal.returns-else-private_too
returns-else-private_too c = takes_public c.args.private_too c.args.flags c.if-flags-ne0.false c.if-private_too.false
