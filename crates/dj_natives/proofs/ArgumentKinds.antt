-- The kinds of arguments by their places.
use Rattle.std.proofs.Common.{◌≡◌, ℕ, List, map, Option, Some, refl, sym, subst, ap, ◌∙◌}
use Rattle.std.proofs.lemmas.Option.{slice_get-map}
use Rattle.std.specs.Option.{option_map}
use Rattle.std.specs.Prelude.{slice_get}
use Rattle.dj_names.specs.declared.descriptor.Kind.{Kind}
use Rattle.dj_names.specs.declared.descriptor.Kind.TheVariants as kinds
use Rattle.dj_names.specs.declared.run.Value.{Value}
use Rattle.dj_names.specs.declared.native.NativeId.{NativeId}
use Rattle.dj_names.specs.trusted.Values.{value_kind}
use Rattle.dj_model.specs.NativeKinds.{native_signature}

pub kind_at : (args : List Value) (ks : List Kind) (i : ℕ) → map value_kind args ≡ ks → option_map value_kind (slice_get args i) ≡ slice_get ks i
kind_at args ks i e = sym (slice_get-map value_kind args i) ∙ ap (λ (l : List Kind). slice_get l i) e

-- an argument is of the kind that stands at its place in what the method takes
pub argument_kind : (id which : NativeId) (args : List Value) (i : ℕ) (k : Kind) → id ≡ which → slice_get (native_signature which).parameters i ≡ Some k
    → map value_kind args ≡ (native_signature id).parameters → option_map value_kind (slice_get args i) ≡ Some k
argument_kind id which args i k e at has =
    kind_at args (native_signature which).parameters i (subst (λ (n : NativeId). map value_kind args ≡ (native_signature n).parameters) e has) ∙ at
