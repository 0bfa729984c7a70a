use Rattle.std.proofs.Common.{sym, ap, ◌∙◌}
use Rattle.dj_declarations.specs.trusted.Files.{type_in}
use Rattle.dj_link_rules.specs.trusted.Named.{class_of_type}
use Rattle.dj_link_rules.proofs.ClassTexts.{spells, few_brackets, rest_is}
use Rattle.dj_link_rules.proofs.class_text.class_text.Goals as goal

pub brackets-dims-requires : goal.brackets-dims-requires
brackets-dims-requires c = few_brackets c.args.text.now c.requires

pub returns-then-dims-eq0-clause-dims : goal.returns-then-dims-eq0-clause-dims
returns-then-dims-eq0-clause-dims c = c.brackets-dims.ensures.count ∙ (spells c.args.text.now c.requires).dims

pub returns-then-dims-eq0-clause-class : goal.returns-then-dims-eq0-clause-class
returns-then-dims-eq0-clause-class c = sym (ap class_of_type ((spells c.args.text.now c.requires).class (sym c.brackets-dims.ensures.count ∙ c.if-dims-eq0.true)))

pub returns-clause-dims : goal.returns-clause-dims
returns-clause-dims c = c.brackets-dims.ensures.count ∙ (spells c.args.text.now c.requires).dims

pub returns-clause-class : goal.returns-clause-class
returns-clause-class c =
    c.element_class.ensures (type_in c.args.text.now).of (rest_is c.args.text.now c.from.result c.requires (c.from.ensures ∙ c.brackets-dims.ensures.count) (λ none. c.if-dims-eq0.false (sym c.from.ensures ∙ none)))
