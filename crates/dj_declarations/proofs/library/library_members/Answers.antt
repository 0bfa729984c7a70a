use Rattle.std.proofs.Common.{map, ap, ◌∙◌}
use Rattle.dj_declarations.specs.MemberRows.{row_method, row_field}
use Rattle.dj_declarations.proofs.LibraryLaws.{library_sound}
use Rattle.dj_declarations.proofs.library.library_members.Goals as goal

pub invariant_of-result : goal.invariant_of-result
invariant_of-result c = record {
  sound = library_sound c.in_ok-texts.texts _ _ _ _ (c.in_ok-fields.ensures ∙ c.new-2.ensures.items) c.in_ok-methods.ensures c.in_ok-rows.ensures;
  counted = c.in_ok-counts.ensures;
}

pub returns : goal.returns
returns c =
    let numbers = c.in_ok-texts.texts in
    record {
      fields_are = ap (map (row_field numbers)) (c.in_ok-fields.ensures ∙ c.new-2.ensures.items);
      methods_are = ap (map (row_method numbers)) c.in_ok-methods.ensures ∙ c.in_ok-rows.ensures.are;
    }
