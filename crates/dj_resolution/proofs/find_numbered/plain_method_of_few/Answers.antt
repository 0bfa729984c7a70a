use Rattle.std.proofs.Common.{ℕ, List, length, subst, sym, ◌∙◌}
use Rattle.dj_model.specs.trusted.Linking.{is_plain}
use Rattle.dj_declarations.specs.trusted.Files.{desc_in}
use Rattle.dj_resolution.specs.Marked.{IsCovered}
use Rattle.dj_resolution.specs.Numbers.{method_found}
use Rattle.dj_resolution.proofs.Marking.{methods_covered, no_methods}
use Rattle.dj_resolution.proofs.find_numbered.plain_method_of_few.Goals as goal

pub returns-then-is_empty : goal.returns-then-is_empty
returns-then-is_empty c n d h =
    no_methods c.args.directory.now.program n (desc_in d) c.methods_of-rows.result.now c.args.classes.now (c.methods_of-rows.ensures.declare n d h.name_is h.desc_is h.described) (sym c.is_empty.ensures ∙ c.if-is_empty.true) c.requires.below

pub plain_method_in_turn-requires-2-clause-marked : goal.plain_method_in_turn-requires-2-clause-marked
plain_method_in_turn-requires-2-clause-marked c n d h =
    subst (λ (words : List ℕ). IsCovered (method_found c.args.directory.now.program is_plain n (desc_in d)) (length c.args.directory.now.program) words) (sym c.as_slice.ensures)
    (methods_covered c.args.directory.now.program n (desc_in d) c.methods_of-rows.result.now c.mark_plain.new.marks (c.methods_of-rows.ensures.declare n d h.name_is h.desc_is h.described) c.mark_plain.ensures.marks.marked)
