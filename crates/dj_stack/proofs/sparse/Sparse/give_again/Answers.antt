use Rattle.std.proofs.Common.{◌-◌, List, set, length, sym, ap, subst, ◌∙◌}
use Rattle.dj_stack.specs.declared.parts.Parts.{Parts}
use Rattle.dj_stack.specs.Cells.{parts_of, variables_in, SharedOut}
use Rattle.dj_stack.proofs.Cells.{given_again, set_count}
use Rattle.dj_stack.proofs.sparse.Sparse.give_again.Goals as goal

pub invariant_of-self-clause-shared : goal.invariant_of-self-clause-shared
invariant_of-self-clause-shared c =
    let places = c.args.self.now.places.items in
    subst (λ (cells : List Parts). SharedOut places (length cells)) (sym c.set.ensures.parts) (set_count places (parts_of c.args.self.now.cells) (c.args.place - 1) c.of_local.result c.args.self.now.shared)

pub returns : goal.returns
returns c =
    let places = c.args.self.now.places.items in
    let cells = parts_of c.args.self.now.cells in
    record {
      locals =
          ap (variables_in places) c.set.ensures.parts
          ∙ (given_again places cells c.args.at c.args.place c.of_local.result c.args.self.now.shared c.requires.within c.requires.place c.requires.some
          ∙ ap (set (variables_in places cells) c.args.at) c.of_local.ensures);
    }
