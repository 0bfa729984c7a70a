use Rattle.std.proofs.Common.{List, [], get_or, ap, ◌∙◌, sym, codes}
use Rattle.std.specs.Prelude.{slice_get}
use Rattle.std.proofs.lemmas.List.{get_or_default}
use Rattle.dj_class.specs.declared.class.Attribute.{Attribute}
use Rattle.dj_class.specs.trusted.ClassFile.{AttributeInfo}
use Rattle.dj_early_rules.specs.trusted.Attributes.{bodies_of}
use Rattle.dj_loader.proofs.FieldValues.{still_none, first_body}
use Rattle.dj_loader.proofs.values.value_body.Goals as goal

abbrev none : Attribute
none = record { name = 0; body = record { ref_ptr = (0, 0); now = [] } }

pub loop-attribute-preserved : goal.loop-attribute-preserved
loop-attribute-preserved c =
    let attributes = c.as_slice-attribute-items.result.now in
    still_none c.args.pool.now (codes "ConstantValue") attributes c.loop-attribute.attribute-index (get_or attributes c.loop-attribute.attribute-index none) c.loop-attribute-test.true
    (get_or_default attributes c.loop-attribute.attribute-index none (get_or attributes c.loop-attribute.attribute-index none) c.loop-attribute-test.true)
    (sym c.is_value.ensures ∙ c.if-is_value.false) c.loop-attribute.invariant

pub returns-then-is_value : goal.returns-then-is_value
returns-then-is_value c =
    let attributes = c.as_slice-attribute-items.result.now in
    first_body c.args.pool.now (codes "ConstantValue") attributes c.loop-attribute.attribute-index (get_or attributes c.loop-attribute.attribute-index none) c.loop-attribute-test.true
    (get_or_default attributes c.loop-attribute.attribute-index none (get_or attributes c.loop-attribute.attribute-index none) c.loop-attribute-test.true)
    (sym c.is_value.ensures ∙ c.if-is_value.true) c.loop-attribute.invariant
    ∙ ap (λ (infos : List AttributeInfo). slice_get (bodies_of c.args.pool.now (codes "ConstantValue") infos) 0) c.as_slice-attribute-items.ensures
