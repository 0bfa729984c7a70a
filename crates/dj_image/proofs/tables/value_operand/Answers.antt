use Rattle.std.proofs.Common.{◌≡◌, Option, Some, sym, ap, ◌∙◌, subst}
use Rattle.std.specs.Prelude.{IfOk}
use Rattle.dj_image.specs.declared.parts.FieldValue.{FieldValue}
use Rattle.dj_image.specs.declared.parts.FieldValue.TheVariants as values
use Rattle.dj_image.specs.Gathered.{value_reported}
use Rattle.dj_image.proofs.tables.value_operand.Goals as goal

pub returns-in-Some-Text : goal.returns-in-Some-Text
returns-in-Some-Text c = λ texts held.
    let value : c.in-Some-Text.field-0 ≡ values.Text c.in-Some-Text.index = rw c.in-Some-Text.is at c.in-Some-Text.field-0-is in
    let text : c.args.value.now ≡ Some (values.Text c.in-Some-Text.index) = c.in-Some-Text.is ∙ ap (λ (v : FieldValue). Some v) value in
    subst (λ (value : Option FieldValue). IfOk c.text_kept.result (λ operand. operand ≡ value_reported texts c.args.pool.now value)) (sym text) (c.text_kept.ensures texts held)
