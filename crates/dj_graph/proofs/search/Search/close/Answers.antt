use Rattle.std.proofs.Common.{◌≡◌, ◌-◌, List, ℕ, length, take, drop, refl, sym, ◌∙◌, ap, arith, vec_len}
use Rattle.std.proofs.lemmas.List.{take_all, length-drop, with_items_is}
use Rattle.dj_graph.proofs.EdgeLists.{read_at}
use Rattle.dj_graph.proofs.StepLemmas.{popped, numbers_as}
use Rattle.dj_graph.proofs.search.Search.close.Goals as goal

pub returns : goal.returns
returns c =
    let path : List ℕ = c.args.self.now.path.items in
    let start : ℕ = c.args.start in
    let size = length-drop start path in
    let whole : take (length path - start) (drop start path) ≡ drop start path = take_all (length path - start) (drop start path) (omega (arith, size)) in
    let nodes : take (length c.deref.result.now - start) (drop start c.deref.result.now) ≡ drop start path = ap (λ (xs : List ℕ). take (length xs - start) (drop start xs)) c.deref.ensures.value ∙ whole in
    let count : length c.number_nodes.new.marks ≡ vec_len c.args.self.now.marks = c.number_nodes.ensures.count ∙ c.deref_mut.ensures.len in
    record {
      number = c.index-number.result.now;
      first = read_at path start c.index-number.result.now c.requires.inside c.index-number.ensures;
      marks = numbers_as c.index-number.result.now _ _ _ _ _ _ nodes c.deref_mut.ensures.value (sym (with_items_is c.args.self.now.marks c.number_nodes.new.marks count)) c.number_nodes.ensures;
      looked = refl {A = List ℕ};
      path = c.truncate.ensures.items;
      starts = popped c.args.self.now.starts c.pop.new.self c.pop.ensures.rest;
      work = refl {A = List ℕ};
    }
