use Rattle.std.proofs.Common.{◌∙◌, ℕ, List, IsPermutation, sym, subst}
use Rattle.std.specs.Global.{Vec}
use Rattle.std.proofs.lemmas.List.{with_items_is}
use Rattle.dj_edge.specs.InMemory.{String, files_in}
use Rattle.dj_class_set.specs.ClassSets.{IsClassSet, AreByPath}
use Rattle.dj_class_set.proofs.ByPath.{sorted_set, sorted_by_path}
use Rattle.dj_class_set.proofs.class_set.ClassSet.new.Goals as goal

pub invariant_of-result : goal.invariant_of-result
invariant_of-result c =
    let files = c.args.files.items in
    let set = c.sort_by_path.new.files in
    let moved = subst (λ (old : List (String × Vec ℕ)). IsPermutation old set) c.deref_mut.ensures.value c.sort_by_path.ensures.moved in
    subst (λ (items : List (String × Vec ℕ)). IsClassSet (files_in items)) (sym (with_items_is c.args.files set (c.sort_by_path.auto.files ∙ c.deref_mut.ensures.len)))
    (sorted_set files set moved c.in_ok-sort_by_path.ensures.sorted c.requires.differ c.requires.few c.requires.within)

pub returns : goal.returns
returns c =
    let files = c.args.files.items in
    let set = c.sort_by_path.new.files in
    let moved = subst (λ (old : List (String × Vec ℕ)). IsPermutation old set) c.deref_mut.ensures.value c.sort_by_path.ensures.moved in
    subst (λ (items : List (String × Vec ℕ)). AreByPath (files_in files) (files_in items)) (sym (with_items_is c.args.files set (c.sort_by_path.auto.files ∙ c.deref_mut.ensures.len)))
    (sorted_by_path files set moved c.in_ok-sort_by_path.ensures.sorted c.requires.differ)
