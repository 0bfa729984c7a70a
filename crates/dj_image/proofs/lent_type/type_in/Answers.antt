use Rattle.std.proofs.Common.{ℕ, sym, ap, ◌∙◌}
use Rattle.dj_names.specs.declared.descriptor.Of.TheVariants as ofs
use Rattle.dj_declarations.specs.trusted.Files.{type_in}
use Rattle.dj_image.specs.ArrayRows.{of_lent}
use Rattle.dj_image.proofs.ClassTexts.{spells, few_brackets, rest_is, typed}
use Rattle.dj_image.proofs.lent_type.type_in.Goals as goal

pub brackets-dims-requires : goal.brackets-dims-requires
brackets-dims-requires c = few_brackets c.args.text.now c.requires

pub returns-then-dims-eq0 : goal.returns-then-dims-eq0
returns-then-dims-eq0 c =
    ap (λ (d : ℕ). record { dims = d; of = ofs.Class c.args.text.now }) c.if-dims-eq0.true
    ∙ sym ((spells c.args.text.now c.requires).class (sym c.brackets-dims.ensures.count ∙ c.if-dims-eq0.true))

pub returns : goal.returns
returns c =
    typed (type_in c.args.text.now) c.brackets-dims.result (of_lent c.element.result) (c.brackets-dims.ensures.count ∙ (spells c.args.text.now c.requires).dims)
    (c.element.ensures (type_in c.args.text.now).of (rest_is c.args.text.now c.from.result c.requires (c.from.ensures ∙ c.brackets-dims.ensures.count) (λ none. c.if-dims-eq0.false (sym c.from.ensures ∙ none))))
