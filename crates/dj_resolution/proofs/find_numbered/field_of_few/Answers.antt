use Rattle.std.proofs.Common.{ℕ, List, length, refl, subst, sym, ◌∙◌}
use Rattle.dj_declarations.specs.trusted.Files.{desc_in}
use Rattle.dj_resolution.specs.Marked.{IsCovered}
use Rattle.dj_resolution.specs.Numbers.{field_found}
use Rattle.dj_resolution.proofs.Marking.{fields_covered, no_fields}
use Rattle.dj_resolution.proofs.find_numbered.field_of_few.Goals as goal

pub returns-then-is_empty : goal.returns-then-is_empty
returns-then-is_empty c n d h =
    no_fields c.args.directory.now.program n (desc_in d) c.fields_of-rows.result.now c.args.classes.now (c.fields_of-rows.ensures.declare n d h.name_is h.desc_is h.described) (sym c.is_empty.ensures ∙ c.if-is_empty.true) c.requires.below

pub field_in_turn-requires-2-clause-marked : goal.field_in_turn-requires-2-clause-marked
field_in_turn-requires-2-clause-marked c n d h =
    subst (λ (words : List ℕ). IsCovered (field_found c.args.directory.now.program n (desc_in d)) (length c.args.directory.now.program) words) (sym c.as_slice.ensures)
    (fields_covered c.args.directory.now.program n (desc_in d) c.fields_of-rows.result.now c.mark_all.new.marks (c.fields_of-rows.ensures.declare n d h.name_is h.desc_is h.described) (λ row there. c.mark_all.ensures.marks.marked row there refl))
