use Rattle.std.proofs.Common.{◌+◌, ◌*◌, Bool, [], List, Option, sym, subst}
use Rattle.std.specs.List.{filter_map}
use Rattle.dj_image.specs.Uses.{value_use, SameMembers, AreSeen}
use Rattle.dj_image.specs.declared.parts.FieldValue.{FieldValue}
use Rattle.dj_image.proofs.UseLists.{none_listed}
use Rattle.dj_image.proofs.uses.value_uses.Goals as goal

pub note_values-requires : goal.note_values-requires
note_values-requires c =
    subst (λ (seen : List Bool). AreSeen seen c.new-listed.result.items) (sym c.deref_mut.ensures.value)
    (none_listed (4 * (c.len.result + 256)) c.in_ok-seen.seen.items c.new-listed.result.items (c.in_ok-seen.ensures.items_if_clones_equal (λ y e. e)) c.new-listed.ensures.items).0

pub returns : goal.returns
returns c =
    subst (λ (values : List (Option FieldValue)). SameMembers c.note_values.new.listed.items (filter_map value_use values)) c.deref.ensures.value
    (c.in_ok-note_values.ensures [] (none_listed (4 * (c.len.result + 256)) c.in_ok-seen.seen.items c.new-listed.result.items (c.in_ok-seen.ensures.items_if_clones_equal (λ y e. e)) c.new-listed.ensures.items).1)
