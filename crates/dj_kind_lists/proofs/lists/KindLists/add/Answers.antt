use Rattle.std.proofs.Common.{◌≡◌, ◌∙◌, ◌+◌, ◌≤◌, ◌++◌, ◌∷◌, [], ℕ, List, Option, get_or, length, sym, ap, subst}
use Rattle.dj_names.specs.declared.descriptor.Kind.{Kind}
use Rattle.dj_kind_trees.specs.Forests.{HasReplaced}
use Rattle.dj_kind_lists.specs.Lists.{Lists, SameButFrames, IsChanged, kinds_of, tree_at}
use Rattle.dj_kind_lists.proofs.Listing.{view_of, same_but_frames, changed_so, replaced_short, room_kept, bare_kept, short_kept, all_short, all_kept, short_more, list_more}
use Rattle.dj_kind_lists.proofs.lists.KindLists.add.Goals as goal

pub returns-in_err-made-clause-same : goal.returns-in_err-made-clause-same
returns-in_err-made-clause-same c =
    subst (λ (v : Lists). SameButFrames v (view_of c.replace.new.self c.self.inside.count c.self.inside.current c.self.inside.frames.items c.self.inside.states.items)) c.self.view_is
    (same_but_frames c.self.inside.trees c.replace.new.self c.replace.ensures.keeps c.self.inside.count c.self.inside.current c.self.inside.frames.items c.self.inside.states.items c.self.invariant c.self.inside.frames.items)

pub returns-in_err-push-clause-same : goal.returns-in_err-push-clause-same
returns-in_err-push-clause-same c =
    subst (λ (v : Lists). SameButFrames v (view_of c.replace.new.self c.self.inside.count c.self.inside.current c.push.new.self.items c.self.inside.states.items)) c.self.view_is
    (same_but_frames c.self.inside.trees c.replace.new.self c.replace.ensures.keeps c.self.inside.count c.self.inside.current c.self.inside.frames.items c.self.inside.states.items c.self.invariant c.push.new.self.items)

pub invariant_of-self-2 : goal.invariant_of-self-2
invariant_of-self-2 c =
    let old = c.self.inside.trees in
    let new = c.replace.new.self in
    let keeps = c.replace.ensures.keeps in
    let count = c.self.inside.count in
    let are = c.self.invariant in
    let few = subst (λ (v : Lists). c.args.from + length c.args.kinds.now ≤ v.count) (sym c.self.view_is) c.requires in
    let base : c.tree_at-tree.result ≡ tree_at c.self.inside.frames.items c.args.base = c.tree_at-tree.ensures ∙ ap (λ (l : List ℕ). tree_at l c.args.base) c.deref.ensures.value in
    let replaced = subst (λ (n : ℕ). HasReplaced old new n c.args.from c.args.kinds.now c.in_ok-made.made) base c.in_ok-made.ensures.replaced in
    let short = replaced_short old new count c.self.inside.frames.items c.args.base c.args.from c.args.kinds.now c.in_ok-made.made are.room few keeps are.bare replaced in
    record {
      room = room_kept old new keeps count are.room;
      bare = bare_kept old new keeps count are.room are.bare;
      current_is = short_kept old new keeps count are.room c.self.inside.current are.current_is;
      frames_are = short_more new count c.self.inside.frames.items c.push.new.self.items c.in_ok-made.made c.in_ok-push.ensures.items (bare_kept old new keeps count are.room are.bare)
          (all_short old new keeps count are.room c.self.inside.frames.items are.frames_are) short;
      states_are = all_short old new keeps count are.room c.self.inside.states.items are.states_are;
    }

pub returns-clause-same : goal.returns-clause-same
returns-clause-same c =
    subst (λ (v : Lists). SameButFrames v (view_of c.replace.new.self c.self.inside.count c.self.inside.current c.push.new.self.items c.self.inside.states.items)) c.self.view_is
    (same_but_frames c.self.inside.trees c.replace.new.self c.replace.ensures.keeps c.self.inside.count c.self.inside.current c.self.inside.frames.items c.self.inside.states.items c.self.invariant c.push.new.self.items)

pub returns-clause-added : goal.returns-clause-added
returns-clause-added c =
    let old = c.self.inside.trees in
    let new = c.replace.new.self in
    let keeps = c.replace.ensures.keeps in
    let count = c.self.inside.count in
    let are = c.self.invariant in
    let few = subst (λ (v : Lists). c.args.from + length c.args.kinds.now ≤ v.count) (sym c.self.view_is) c.requires in
    let base : c.tree_at-tree.result ≡ tree_at c.self.inside.frames.items c.args.base = c.tree_at-tree.ensures ∙ ap (λ (l : List ℕ). tree_at l c.args.base) c.deref.ensures.value in
    let replaced = subst (λ (n : ℕ). HasReplaced old new n c.args.from c.args.kinds.now c.in_ok-made.made) base c.in_ok-made.ensures.replaced in
    let made : List (Option Kind) = kinds_of new count c.in_ok-made.made in
    let changed = changed_so old new count c.self.inside.frames.items c.args.base c.args.from c.args.kinds.now c.in_ok-made.made are.room few keeps are.bare replaced in (
      made,
      list_more new count c.self.inside.frames.items c.push.new.self.items c.in_ok-made.made c.in_ok-push.ensures.items
          ∙ ap (λ (l : List (List (Option Kind))). l ++ made ∷ []) (all_kept old new keeps count are.room c.self.inside.frames.items are.frames_are ∙ ap (λ (v : Lists). v.frames) c.self.view_is),
      subst (λ (v : Lists). IsChanged v.count (get_or v.frames c.args.base []) c.args.from c.args.kinds.now made) c.self.view_is changed,
    )
