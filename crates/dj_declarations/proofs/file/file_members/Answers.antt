use Rattle.std.proofs.Common.{map, ◌∙◌}
use Rattle.dj_class.specs.Members.{member_of}
use Rattle.dj_declarations.specs.MemberRows.{method_row_of, field_row_of}
use Rattle.dj_declarations.proofs.FileLaws.{file_sound, file_fields, file_methods, rows_of_lent, named_of_lent}
use Rattle.dj_declarations.proofs.file.file_members.Goals as goal

pub invariant_of-result : goal.invariant_of-result
invariant_of-result c =
    let view = c.args.view.now in
    let numbered = c.in_ok-numbered.numbered in
    record {
      sound =
          file_sound view.pool numbered.places.items numbered.texts c.in_ok-numbered.ensures view.fields view.methods c.in_ok-fields.fields.rows.items c.in_ok-methods.methods.rows.items
          c.requires.fields c.requires.methods
          (named_of_lent c.deref.result.now numbered.places.items _ view.fields c.in_ok-field_rows.ensures.named c.deref.ensures.value c.as_slice-fields.ensures)
          (named_of_lent c.deref-2.result.now numbered.places.items _ view.methods c.in_ok-method_rows.ensures.named c.deref-2.ensures.value c.as_slice-methods.ensures)
          (rows_of_lent field_row_of _ _ _ (map member_of c.as_slice-fields.result.now) _ (c.in_ok-fields.ensures ∙ c.in_ok-field_rows.ensures.rows) c.deref.ensures.value c.as_slice-fields.ensures)
          (rows_of_lent method_row_of _ _ _ (map member_of c.as_slice-methods.result.now) _ (c.in_ok-methods.ensures ∙ c.in_ok-method_rows.ensures.rows) c.deref-2.ensures.value c.as_slice-methods.ensures);
      counted = c.in_ok-counts.ensures;
    }

pub returns : goal.returns
returns c =
    let view = c.args.view.now in
    let numbered = c.in_ok-numbered.numbered in
    record {
      fields_are =
          file_fields view.pool numbered.places.items numbered.texts c.in_ok-numbered.ensures view.fields c.in_ok-fields.fields.rows.items c.requires.fields
          (named_of_lent c.deref.result.now numbered.places.items _ view.fields c.in_ok-field_rows.ensures.named c.deref.ensures.value c.as_slice-fields.ensures)
          (rows_of_lent field_row_of _ _ _ (map member_of c.as_slice-fields.result.now) _ (c.in_ok-fields.ensures ∙ c.in_ok-field_rows.ensures.rows) c.deref.ensures.value c.as_slice-fields.ensures);
      methods_are =
          file_methods view.pool numbered.places.items numbered.texts c.in_ok-numbered.ensures view.methods c.in_ok-methods.methods.rows.items c.requires.methods
          (named_of_lent c.deref-2.result.now numbered.places.items _ view.methods c.in_ok-method_rows.ensures.named c.deref-2.ensures.value c.as_slice-methods.ensures)
          (rows_of_lent method_row_of _ _ _ (map member_of c.as_slice-methods.result.now) _ (c.in_ok-methods.ensures ∙ c.in_ok-method_rows.ensures.rows) c.deref-2.ensures.value c.as_slice-methods.ensures);
    }
