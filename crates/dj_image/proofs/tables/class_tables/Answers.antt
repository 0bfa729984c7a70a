use Rattle.std.proofs.Common.{ℕ, ◌+◌, List, Option, length, sym, ap, subst, ◌∙◌, map}
use Rattle.dj_image.specs.Gathered.{value_reported}
use Rattle.dj_image.specs.Homes.{AreHomes, operand_at}
use Rattle.dj_image.specs.Indexed.{Holds, text_place, kept_class, kept_array}
use Rattle.dj_image.specs.declared.parts.FieldValue.{FieldValue}
use Rattle.dj_image.proofs.MemberOperands.{are_homes}
use Rattle.dj_image.proofs.Making.{class_is}
use Rattle.dj_image.proofs.tables.class_tables.Goals as goal

pub operand_table-requires-clause-homes : goal.operand_table-requires-clause-homes
operand_table-requires-clause-homes c =
    subst (λ (classes : List (Option ℕ)). AreHomes c.args.types.now c.args.class.now.pool classes c.args.object) (sym c.deref-2.ensures.value)
    (are_homes c.args.types.now c.args.class.now.pool c.in_ok-classes.classes.items c.args.object c.requires.object c.in_ok-classes.ensures)

pub returns : goal.returns
returns c = λ parts fit.
    let pool = c.args.class.now.pool in
    let operands =
    subst (λ (places : List (Option ℕ)). Holds (operand_at c.args.types.now pool places c.in_ok-classes.classes.items c.args.object) (length pool + 1) c.in_ok-operands.operands.items) c.deref.ensures.value
    (subst (λ (classes : List (Option ℕ)). Holds (operand_at c.args.types.now pool c.deref.result.now classes c.args.object) (length pool + 1) c.in_ok-operands.operands.items) c.deref-2.ensures.value c.in_ok-operands.ensures) in
    let named = subst (λ (classes : List (Option ℕ)). Holds (kept_class pool classes) (length pool + 1) c.in_ok-named.named.items) c.deref-3.ensures.value c.in_ok-named.ensures in
    let made = subst (λ (arrays : List (Option ℕ)). Holds (kept_array pool arrays) (length pool + 1) c.in_ok-made.made.items) c.deref-4.ensures.value c.in_ok-made.ensures in
    let held = subst (Holds (text_place c.args.texts.now pool) (length pool + 1)) (sym c.deref-5.ensures.value) c.in_ok-places.ensures in
    let constants = c.in_ok-constants.ensures c.args.texts.now held ∙ ap (λ (vs : List (Option FieldValue)). map (value_reported c.args.texts.now pool) vs) c.deref-6.ensures.value in
    class_is c.args.types.now parts c.args.texts.now c.args.class.now c.args.object c.in_ok-classes.classes.items c.in_ok-arrays.arrays.items c.in_ok-places.places.items _
    fit c.requires.arrays c.requires.object c.requires.valid c.in_ok-classes.ensures c.in_ok-arrays.ensures c.in_ok-places.ensures operands named made constants
