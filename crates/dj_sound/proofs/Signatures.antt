-- The descriptors of methods that have no float and no double have kinds.
use Rattle.std.proofs.Common.{◌≡◌, ℕ, zero, suc, ◌⊎◌, Bool, true, false, List, [], ◌∷◌, Option, Some, None, refl, ap, ◌∙◌, inl, inr}
use Rattle.std.specs.Prelude.{IsSomeAnd}
use Rattle.dj_names.specs.declared.descriptor.Base.TheVariants as bases
use Rattle.dj_names.specs.declared.descriptor.Of.{Of}
use Rattle.dj_names.specs.declared.descriptor.Of.TheVariants as ofs
use Rattle.dj_names.specs.declared.descriptor.Ty.{Ty}
use Rattle.dj_names.specs.declared.descriptor.Desc.TheVariants as descs
use Rattle.dj_names.specs.declared.descriptor.Kind.{Kind}
use Rattle.dj_names.specs.trusted.Descriptors.{Describes, type_kind}
use Rattle.dj_model.specs.trusted.Kinds.{Signature, call_signature, with_receiver, signature_of}
use Rattle.dj_model.specs.trusted.Members.{kinds_of, with_kind}
use Rattle.dj_early_rules.specs.trusted.Floats.{IsFloating, HasFloating, HasFloat}
use Rattle.dj_declarations.specs.trusted.Files.{desc_in}
use Rattle.dj_declarations.proofs.DescTests.{desc_in_is}
use Rattle.dj_loader.proofs.Lists.{member_first, member_later}

abbrev kind_at : ℕ → Of → Option Kind
kind_at dims of = type_kind (record { dims = dims; of = of })

kind_there : (ty : Ty) → (IsFloating ty → ⊥) → (kind : Kind) × (type_kind ty ≡ Some kind)
kind_there ty none = by ty.dims ty.of none where
  by : (dims : ℕ) (of : Of) → ((of ≡ ofs.Base bases.Float) ⊎ (of ≡ ofs.Base bases.Double) → ⊥) → (kind : Kind) × (kind_at dims of ≡ Some kind)
  by zero (ofs.Base bases.Boolean) none = (_, refl)
  by zero (ofs.Base bases.Byte) none = (_, refl)
  by zero (ofs.Base bases.Char) none = (_, refl)
  by zero (ofs.Base bases.Short) none = (_, refl)
  by zero (ofs.Base bases.Int) none = (_, refl)
  by zero (ofs.Base bases.Long) none = (_, refl)
  by zero (ofs.Base bases.Float) none = absurd (none (inl refl))
  by zero (ofs.Base bases.Double) none = absurd (none (inr refl))
  by zero (ofs.Class name) none = (_, refl)
  by (suc n) (ofs.Base base) none = (_, refl)
  by (suc n) (ofs.Class name) none = (_, refl)

kinds_there : (params : List Ty) → (HasFloating params → ⊥) → (kinds : List Kind) × (kinds_of params ≡ Some kinds)
kinds_there [] none = ([], refl)
kinds_there (ty ∷ params) none =
    let (kind, is) = kind_there ty (λ float. none (ty, member_first ty params, float)) in
    let (kinds, are) = kinds_there params (λ has. none (has.0, member_later ty params has.0 has.1, has.2)) in
    (kind ∷ kinds, (λ i. with_kind (is i) (are i)))

call_there : (params : List Ty) (ret : Option Ty) → (HasFloating params ⊎ IsSomeAnd ret IsFloating → ⊥) → (s : Signature) × (call_signature (descs.Method params ret) ≡ Some s)
call_there params None none =
    let (kinds, are) = kinds_there params (λ has. none (inl has)) in
    (record { parameters = kinds; result = None }, rw are refl)
call_there params (Some ty) none =
    let (kinds, are) = kinds_there params (λ has. none (inl has)) in
    let (kind, is) = kind_there ty (λ float. none (inr float)) in
    (record { parameters = kinds; result = Some kind }, rw (are, is) refl)

with_receiver_there : (static : Bool) (o : Option Signature) (s : Signature) → o ≡ Some s → (t : Signature) × (with_receiver static o ≡ Some t)
with_receiver_there true o s e = (_, ap (with_receiver true) e)
with_receiver_there false o s e = (_, ap (with_receiver false) e)

pub signature_there : (static : Bool) (text : List ℕ) (params : List Ty) (ret : Option Ty) → Describes text (descs.Method params ret) → (HasFloat text → ⊥)
    → (s : Signature) × (signature_of static (desc_in text) ≡ Some s)
signature_there static text params ret is none =
    let (s, call) = call_there params ret (λ has. none (descs.Method params ret, is, has)) in
    with_receiver_there static (call_signature (desc_in text)) s (ap call_signature (desc_in_is text (descs.Method params ret) is) ∙ call)
