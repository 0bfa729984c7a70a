use Rattle.std.proofs.Common.{◌≡◌, ◌++◌, [], get_or, map, ap, ◌∙◌, refl}
use Rattle.std.proofs.lemmas.List.{take_all}
use Rattle.dj_class.specs.declared.class.Attribute.{Attribute}
use Rattle.dj_class.specs.Parts.{attribute_of}
use Rattle.dj_early_rules.specs.trusted.Attributes.{bodies_of}
use Rattle.dj_early_rules.proofs.NamedBodies.{now_of, body_if, body_more, pushed_body, same_bodies}
use Rattle.dj_early_rules.proofs.bodies.bodies_named.Goals.{then-is_named+in_ok-push, else-is_named}
use Rattle.dj_early_rules.proofs.bodies.bodies_named.Goals as goal

abbrev none : Attribute
none = record { name = 0; body = record { ref_ptr = (0, 0); now = [] } }

pub loop-attribute-preserved : goal.loop-attribute-preserved
loop-attribute-preserved c =
    let a = get_or c.args.attributes.now c.loop-attribute.attribute-index none in
    let bodies = c.loop-attribute.bodies.items in
    let more = c.if-is_named.bodies.items in
    let named = c.is_named.result in
    let step : map now_of more ≡ map now_of bodies ++ body_if named (attribute_of a) =
    elim c.if-is_named.branch [
      | then-is_named+in_ok-push w ↦
          pushed_body bodies more a.body (attribute_of a) named w.if-is_named.true refl (ap (λ v. v.items) w.bodies-is ∙ w.in_ok-push.ensures.items)
      | else-is_named w ↦ same_bodies bodies more (attribute_of a) named w.if-is_named.false (ap (λ v. v.items) w.bodies-is)
    ] in
    body_more c.args.pool.now c.args.name.now c.args.attributes.now c.loop-attribute.attribute-index none bodies more named
    c.loop-attribute-test.true c.is_named.ensures step c.loop-attribute.invariant

pub returns : goal.returns
returns c =
    c.loop-attribute.invariant
    ∙ ap (λ attributes. bodies_of c.args.pool.now c.args.name.now (map attribute_of attributes)) (take_all c.loop-attribute.attribute-index c.args.attributes.now c.loop-attribute-test.false)
