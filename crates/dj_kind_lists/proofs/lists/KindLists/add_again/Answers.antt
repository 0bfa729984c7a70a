use Rattle.std.proofs.Common.{◌≡◌, ◌∙◌, ◌++◌, ◌∷◌, [], ℕ, List, Option, map, get_or, sym, ap, subst}
use Rattle.dj_names.specs.declared.descriptor.Kind.{Kind}
use Rattle.dj_kind_lists.specs.Lists.{Lists, IsChanged, IsShort, kinds_of, tree_at}
use Rattle.dj_kind_lists.proofs.Listing.{changed_again, short_more, list_more}
use Rattle.dj_kind_lists.proofs.lists.KindLists.add_again.Goals as goal

pub invariant_of-self-2 : goal.invariant_of-self-2
invariant_of-self-2 c =
    let are = c.self.invariant in
    let tree : c.tree_at-tree.result ≡ tree_at c.self.inside.frames.items c.args.base = c.tree_at-tree.ensures ∙ ap (λ (l : List ℕ). tree_at l c.args.base) c.deref.ensures.value in
    record {
      room = are.room;
      bare = are.bare;
      current_is = are.current_is;
      frames_are = short_more c.self.inside.trees c.self.inside.count c.self.inside.frames.items c.push.new.self.items c.tree_at-tree.result c.in_ok-push.ensures.items are.bare are.frames_are
          (subst (IsShort c.self.inside.trees c.self.inside.count) (sym tree) (are.frames_are c.args.base));
      states_are = are.states_are;
    }

pub returns-clause-added : goal.returns-clause-added
returns-clause-added c =
    let trees = c.self.inside.trees in
    let count = c.self.inside.count in
    let frames = c.self.inside.frames.items in
    let tree : c.tree_at-tree.result ≡ tree_at frames c.args.base = c.tree_at-tree.ensures ∙ ap (λ (l : List ℕ). tree_at l c.args.base) c.deref.ensures.value in
    let made : List (Option Kind) = kinds_of trees count c.tree_at-tree.result in
    let changed = subst (λ (n : ℕ). IsChanged count (get_or (map (kinds_of trees count) frames) c.args.base []) count [] (kinds_of trees count n)) (sym tree) (changed_again trees count frames c.args.base c.self.invariant.bare) in (
      made,
      list_more trees count frames c.push.new.self.items c.tree_at-tree.result c.in_ok-push.ensures.items ∙ ap (λ (v : Lists). v.frames ++ made ∷ []) c.self.view_is,
      subst (λ (v : Lists). IsChanged v.count (get_or v.frames c.args.base []) v.count [] made) c.self.view_is changed,
    )
