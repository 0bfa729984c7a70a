use Rattle.std.proofs.Common.{◌<◌, ◌∙◌, ℕ, set, sym, ap, subst}
use Rattle.dj_kind_trees.specs.Forests.{HasPut}
use Rattle.dj_kind_lists.specs.Lists.{Lists, SameLists}
use Rattle.dj_kind_lists.proofs.Listing.{view_of, same_view, put_listed}
use Rattle.dj_kind_lists.proofs.lists.KindLists.put.Goals as goal

pub returns-in_err-self-inside-clause-same : goal.returns-in_err-self-inside-clause-same
returns-in_err-self-inside-clause-same c =
    subst (λ (v : Lists). SameLists v (view_of c.put.new.self c.self.inside.count c.self.inside.current c.self.inside.frames.items c.self.inside.states.items)) c.self.view_is
    (same_view c.self.inside.trees c.put.new.self c.put.ensures.keeps c.self.inside.count c.self.inside.current c.self.inside.frames.items c.self.inside.states.items c.self.invariant c.self.inside.current)

pub returns-clause-same : goal.returns-clause-same
returns-clause-same c =
    subst (λ (v : Lists). SameLists v (view_of c.put.new.self c.self.inside.count c.in_ok-self-inside.field-0 c.self.inside.frames.items c.self.inside.states.items)) c.self.view_is
    (same_view c.self.inside.trees c.put.new.self c.put.ensures.keeps c.self.inside.count c.self.inside.current c.self.inside.frames.items c.self.inside.states.items c.self.invariant c.in_ok-self-inside.field-0)

pub returns-clause-put : goal.returns-clause-put
returns-clause-put c =
    let within = subst (λ (v : Lists). c.args.slot < v.count) (sym c.self.view_is) c.requires in
    let put = subst (λ (n : ℕ). HasPut c.self.inside.trees c.put.new.self c.self.inside.current n c.args.kind c.in_ok-self-inside.field-0) c.from.ensures c.in_ok-self-inside.ensures.put in
    put_listed c.self.inside.trees c.put.new.self c.self.inside.count c.self.inside.current c.args.slot c.args.kind c.in_ok-self-inside.field-0 c.self.invariant.room within c.put.ensures.keeps put
    ∙ ap (λ (v : Lists). set v.current c.args.slot c.args.kind) c.self.view_is
