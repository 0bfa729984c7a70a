use Rattle.std.proofs.Common.{Some, subst}
use Rattle.dj_model.specs.trusted.Linking.{most_classes}
use Rattle.dj_member_index.specs.Calls.{tests, IsNearestLike}
use Rattle.dj_resolution.specs.Numbers.{lists_of}
use Rattle.dj_resolution.proofs.Calling.{marked_like, none_marked_like}
use Rattle.dj_resolution.proofs.Chained.{up_within}
use Rattle.dj_resolution.proofs.calls.marked_method.Goals as goal

pub returns-in_default : goal.returns-in_default
returns-in_default c =
    none_marked_like c.args.table.now c.args.ranks.now.classes.items c.args.ranks.now.ranks.items (lists_of c.args.ranks.now.rows.items) c.requires.ranks c.args.class c.requires.there c.requires.known (tests c.args.private_too) c.args.resolved
    (subst (IsNearestLike c.args.table.now (tests c.args.private_too) c.args.resolved.class c.args.resolved.member c.args.class) c.in_default.is c.in_ok-near.ensures)

pub own_method-requires-clause-there : goal.own_method-requires-clause-there
own_method-requires-clause-there c = up_within most_classes c.args.table.now (Some c.args.class) c.requires.there c.in-Some.near c.in_ok-rank_up.ensures.0

pub returns : goal.returns
returns c =
    marked_like c.args.table.now c.args.ranks.now.classes.items c.args.ranks.now.ranks.items (lists_of c.args.ranks.now.rows.items) c.requires.ranks c.args.class c.requires.there c.requires.known (tests c.args.private_too) c.args.resolved
    c.in_ok-place.place c.in-Some.near
    (subst (IsNearestLike c.args.table.now (tests c.args.private_too) c.args.resolved.class c.args.resolved.member c.args.class) c.in-Some.is c.in_ok-near.ensures) c.in_ok-rank_up.ensures.0 c.in_ok-place.ensures
