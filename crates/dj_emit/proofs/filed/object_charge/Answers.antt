use Rattle.std.proofs.Common.{◌≡◌, ℕ, Option, Some, None, sym, ap, ◌∙◌, subst, ◌<◌, length, arith}
use Rattle.std.specs.Prelude.{option_copied}
use Rattle.std.proofs.lemmas.Option.{none-some, same_Some}
use Rattle.dj_numbering.specs.Typed.{types_of}
use Rattle.dj_numbering.specs.Members.{field_count_at}
use Rattle.dj_image.specs.Imaged.{typed_of}
use Rattle.dj_emit.proofs.FiledFacts.{new_free, new_named, new_number, number_within, charged, charge_big}
use Rattle.dj_emit.proofs.filed.object_charge.Goals as goal

pub returns-in_default : goal.returns-in_default
returns-in_default c = new_free c.args.image.now c.args.pool.now c.args.index c.requires.valid c.requires.known (sym c.class_name.ensures ∙ ap option_copied c.in_default.is)

pub unreachable-requires : goal.unreachable-requires
unreachable-requires c =
    let n = new_named c.args.image.now c.args.pool.now c.args.index c.in-Some.name.now c.requires.valid c.requires.known (sym c.class_name.ensures ∙ ap option_copied c.in-Some.is) in
    none-some n.number (sym c.in_default-class_named.is ∙ c.class_named.ensures ∙ new_number c.args.image.now _ c.in-Some.name.now n)

pub field_count-requires : goal.field_count-requires
field_count-requires c =
    let n = new_named c.args.image.now c.args.pool.now c.args.index c.in-Some.name.now c.requires.valid c.requires.known (sym c.class_name.ensures ∙ ap option_copied c.in-Some.is) in
    let same = same_Some n.number c.in-Some-class_named.class (sym (new_number c.args.image.now _ c.in-Some.name.now n) ∙ sym c.class_named.ensures ∙ c.in-Some-class_named.is) in
    subst (λ (k : ℕ). k < length (types_of (typed_of c.args.image.now))) same (number_within c.args.image.now _ c.in-Some.name.now n)

pub returns-then-size-gt32767 : goal.returns-then-size-gt32767
returns-then-size-gt32767 c =
    let n = new_named c.args.image.now c.args.pool.now c.args.index c.in-Some.name.now c.requires.valid c.requires.known (sym c.class_name.ensures ∙ ap option_copied c.in-Some.is) in
    let same = same_Some n.number c.in-Some-class_named.class (sym (new_number c.args.image.now _ c.in-Some.name.now n) ∙ sym c.class_named.ensures ∙ c.in-Some-class_named.is) in
    charge_big c.args.image.now _ c.args.number c.in-Some.name.now n c.from.result (c.from.ensures ∙ c.field_count.ensures ∙ ap (field_count_at (typed_of c.args.image.now)) (sym same)) (omega (arith, c.if-size-gt32767.true))

pub returns : goal.returns
returns c =
    let n = new_named c.args.image.now c.args.pool.now c.args.index c.in-Some.name.now c.requires.valid c.requires.known (sym c.class_name.ensures ∙ ap option_copied c.in-Some.is) in
    let same = same_Some n.number c.in-Some-class_named.class (sym (new_number c.args.image.now _ c.in-Some.name.now n) ∙ sym c.class_named.ensures ∙ c.in-Some-class_named.is) in
    charged c.args.image.now _ c.in-Some.name.now n c.from.result (c.from.ensures ∙ c.field_count.ensures ∙ ap (field_count_at (typed_of c.args.image.now)) (sym same))
