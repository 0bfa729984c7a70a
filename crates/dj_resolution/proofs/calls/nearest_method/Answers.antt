use Rattle.dj_member_index.specs.Calls.{tests}
use Rattle.dj_resolution.specs.Numbers.{lists_of}
use Rattle.dj_resolution.proofs.Calling.{nearest_like, none_like}
use Rattle.dj_resolution.proofs.calls.nearest_method.Goals as goal

pub returns-in_default : goal.returns-in_default
returns-in_default c =
    none_like c.args.table.now c.args.ranks.now.classes.items c.args.ranks.now.ranks.items (lists_of c.args.ranks.now.rows.items) c.requires.ranks c.args.class c.requires.there c.requires.known
    c.in_ok-rows.rows.now (tests c.args.private_too) c.args.resolved c.in_ok-rows.ensures c.in_default.ensures

pub returns : goal.returns
returns c =
    nearest_like c.args.table.now c.args.ranks.now.classes.items c.args.ranks.now.ranks.items (lists_of c.args.ranks.now.rows.items) c.requires.ranks c.args.class c.requires.there c.requires.known
    c.in_ok-rows.rows.now (tests c.args.private_too) c.args.resolved c.in-Some.near c.in_ok-rows.ensures c.in-Some.ensures
