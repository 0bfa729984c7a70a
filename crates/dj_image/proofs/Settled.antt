-- What holds of classes and arrays that have numbers holds of them with their code and constants.
use Rattle.std.proofs.Common.{◌≡◌, List, sym, ap, ◌∙◌, subst, IsTrue}
use Rattle.std.specs.List.{list_all}
use Rattle.dj_names.specs.declared.descriptor.Ty.{Ty}
use Rattle.dj_numbering.specs.Typed.{Typed, is_array_of, arrays_rise}
use Rattle.dj_image.specs.Numbering.{AreSettled}
use Rattle.dj_image.specs.Tables.{AreClosed}
use Rattle.dj_image.proofs.BareTyped as laws
use Rattle.dj_image.proofs.Standing.{IsLike, moved, name_at_like, class_number_like}

pub settled_like : (a b : Typed) → IsLike a b → AreSettled b → AreSettled a
settled_like a b like is =
    let arrays : a.arrays ≡ b.arrays = ap (λ (t : Typed). t.arrays) like.same in
    let each : list_all (is_array_of a.program) a.arrays ≡ list_all (is_array_of b.program) b.arrays =
    moved (λ t. list_all (is_array_of t.program) t.arrays) (λ t. laws.each_bare t.program t.arrays) a b like in
    record {
      differ = λ k name at. class_number_like like name ∙ is.differ k name (sym (name_at_like like k) ∙ at);
      plain = λ k name at. is.plain k name (sym (name_at_like like k) ∙ at);
      arrays = record { each = each ∙ is.arrays.each; rise = subst (λ (xs : List Ty). IsTrue (arrays_rise xs)) (sym arrays) is.arrays.rise };
      closed = subst AreClosed (sym arrays) is.closed;
    }
