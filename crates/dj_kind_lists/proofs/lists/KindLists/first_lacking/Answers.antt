use Rattle.std.proofs.Common.{◌∙◌, ℕ, List, subst}
use Rattle.std.proofs.lemmas.Result.{IfOk-weaker}
use Rattle.dj_kind_lists.specs.Lists.{Lists, IsFirstLack}
use Rattle.dj_kind_lists.specs.Ranges.{IsFirstBelow}
use Rattle.dj_kind_lists.proofs.Listing.{whole_kept}
use Rattle.dj_kind_lists.proofs.Ranging.{first_lack}
use Rattle.dj_kind_lists.proofs.lists.KindLists.first_lacking.Goals as goal

pub returns-clause-same : goal.returns-clause-same
returns-clause-same c =
    whole_kept c.self.inside.trees c.first_lacking.new.trees c.first_lacking.ensures.keeps c.self.inside.count c.self.inside.current c.self.inside.frames.items c.self.inside.states.items c.self.invariant ∙ c.self.view_is

pub returns-clause-first : goal.returns-clause-first
returns-clause-first c = IfOk-weaker c.first_lacking.result _ _ (λ first below.
    subst (λ (v : Lists). IsFirstLack v.states v.frames c.args.ranges.now c.args.limit first) c.self.view_is
    (first_lack c.self.inside.trees c.self.inside.count c.self.inside.current c.self.inside.frames.items c.self.inside.states.items c.self.invariant c.args.ranges.now c.args.limit first
    (subst (λ (l : List ℕ). IsFirstBelow c.self.inside.trees l c.self.inside.frames.items c.args.ranges.now c.args.limit first) c.deref.ensures.value
    (subst (λ (l : List ℕ). IsFirstBelow c.self.inside.trees c.deref.result.now l c.args.ranges.now c.args.limit first) c.deref-2.ensures.value below))))
    c.first_lacking.ensures.first
