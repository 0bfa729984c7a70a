use Rattle.std.proofs.Common.{◌≤◌, [], length, sym, subst, arith}
use Rattle.dj_kind_lists.specs.Lists.{Lists, SameLists, IsChanged, kinds_of}
use Rattle.dj_kind_lists.proofs.Listing.{view_of, same_view, changed_so}
use Rattle.dj_kind_lists.proofs.lists.KindLists.set.Goals as goal

pub returns-in_err-self-inside-clause-same : goal.returns-in_err-self-inside-clause-same
returns-in_err-self-inside-clause-same c =
    subst (λ (v : Lists). SameLists v (view_of c.replace.new.self c.self.inside.count c.self.inside.current c.self.inside.frames.items c.self.inside.states.items)) c.self.view_is
    (same_view c.self.inside.trees c.replace.new.self c.replace.ensures.keeps c.self.inside.count c.self.inside.current c.self.inside.frames.items c.self.inside.states.items c.self.invariant c.self.inside.current)

pub returns-clause-same : goal.returns-clause-same
returns-clause-same c =
    subst (λ (v : Lists). SameLists v (view_of c.replace.new.self c.self.inside.count c.in_ok-self-inside.field-0 c.self.inside.frames.items c.self.inside.states.items)) c.self.view_is
    (same_view c.self.inside.trees c.replace.new.self c.replace.ensures.keeps c.self.inside.count c.self.inside.current c.self.inside.frames.items c.self.inside.states.items c.self.invariant c.in_ok-self-inside.field-0)

pub returns-clause-set : goal.returns-clause-set
returns-clause-set c =
    let few : length c.args.kinds.now ≤ c.self.inside.count = subst (λ (v : Lists). length c.args.kinds.now ≤ v.count) (sym c.self.view_is) c.requires in
    subst (λ (v : Lists). IsChanged v.count [] 0 c.args.kinds.now (kinds_of c.replace.new.self c.self.inside.count c.in_ok-self-inside.field-0)) c.self.view_is
    (changed_so c.self.inside.trees c.replace.new.self c.self.inside.count [] 0 0 c.args.kinds.now c.in_ok-self-inside.field-0 c.self.invariant.room (omega (arith, few)) c.replace.ensures.keeps c.self.invariant.bare
    c.in_ok-self-inside.ensures.replaced)
