-- What is kept of the constants of a pool.
use Rattle.std.proofs.Common.{◌≡◌, ℕ, zero, suc, ◌+◌, ◌<◌, ◌≤◌, false, List, [], ◌∷◌, ◌++◌, length, map, take, get_or, Option, Some, None, unwrap_or, refl, sym, ap, ◌∙◌}
use Rattle.std.proofs.lemmas.List.{append_assoc, take_more, take_all, map-append}
use Rattle.dj_names.specs.declared.descriptor.Kind.{Kind}
use Rattle.dj_names.specs.declared.descriptor.Base.TheVariants as bases
use Rattle.dj_names.specs.declared.descriptor.Of.{Of}
use Rattle.dj_names.specs.declared.descriptor.Of.TheVariants as ofs
use Rattle.dj_names.specs.declared.descriptor.Desc.{Desc}
use Rattle.dj_names.specs.declared.descriptor.Desc.TheVariants as descs
use Rattle.dj_names.specs.trusted.Descriptors.{Describes, IsFieldDescriptor, type_kind, type_text}
use Rattle.dj_names.specs.declared.descriptor.Ty.{Ty}
use Rattle.dj_names.specs.trusted.DescReading.{desc_read, field_read, opens}
use Rattle.dj_names.specs.trusted.Types.{field_kind}
use Rattle.dj_names.proofs.DescLaws.{desc_again, desc_takes}
use Rattle.dj_pool.specs.declared.pool.Entry.{Entry}
use Rattle.dj_pool.specs.trusted.Pool.{Constant}
use Rattle.dj_pool.specs.Views.{constant_of}
use Rattle.dj_model.specs.trusted.Kinds.{Signature}
use Rattle.dj_model.specs.trusted.Members.{with_kind}
use Rattle.dj_model.specs.trusted.Types.{no_parameters}
use Rattle.dj_declarations.specs.trusted.Files.{desc_in}
use Rattle.dj_shape_rule.specs.Keeping.{text_kind, text_call, kind_by, call_by}
use Rattle.dj_shape_rule.specs.declared.pool.ConstantKind.{ConstantKind}

-- ---- descriptors

not_some : (text : List ℕ) (o : Option Desc) → desc_read text ≡ o → ((d : Desc) → Describes text d → ⊥) → desc_read text ≡ None
not_some text None e none = e
not_some text (Some d) e none = absurd (none d (desc_takes text d e))

pub not_read : (text : List ℕ) → ((d : Desc) → Describes text d → ⊥) → desc_read text ≡ None
not_read text none = not_some text (desc_read text) refl none

-- a text that starts otherwise is no descriptor of a method
field_no_call : (text : List ℕ) (o : Option Ty) → opens text ≡ false → field_read text ≡ o → text_call text ≡ None
unfolding desc_read
field_no_call text None e f = rw (e, f) refl
field_no_call text (Some ty) e f = rw (e, f) refl

pub not_opened : (text : List ℕ) → opens text ≡ false → text_call text ≡ None
not_opened text e = field_no_call text (field_read text) e refl

pub desc_in_is : (text : List ℕ) (desc : Desc) → Describes text desc → desc_in text ≡ desc
unfolding desc_in
desc_in_is text desc d = ap (λ (o : Option Desc). unwrap_or o no_parameters) (desc_again text desc d)

-- the first byte decides the kind
kind_at : (dims : ℕ) (of : Of) → text_kind (type_text (record { dims = dims; of = of })) ≡ type_kind (record { dims = dims; of = of })
kind_at zero (ofs.Base bases.Boolean) = refl
kind_at zero (ofs.Base bases.Byte) = refl
kind_at zero (ofs.Base bases.Char) = refl
kind_at zero (ofs.Base bases.Short) = refl
kind_at zero (ofs.Base bases.Int) = refl
kind_at zero (ofs.Base bases.Long) = refl
kind_at zero (ofs.Base bases.Float) = refl
kind_at zero (ofs.Base bases.Double) = refl
kind_at zero (ofs.Class name) = refl
kind_at (suc dims) (ofs.Base base) = refl
kind_at (suc dims) (ofs.Class name) = refl

pub field_reported : (text : List ℕ) → IsFieldDescriptor text → field_kind (desc_in text) ≡ text_kind text
field_reported text is =
    ap field_kind (desc_in_is text (descs.Field is.0) is.1)
    ∙ sym (kind_at is.0.dims is.0.of)
    ∙ ap text_kind (sym is.1.text_is)

-- ---- lists that grow

-- one more of them, after that of the index 0
pub one_more : {A B : Type 0} (f : A → B) (first : B) (xs : List A) (i : ℕ) (d : A) (kept more : List B) (y : B) → i < length xs
    → kept ≡ first ∷ map f (take i xs) → y ≡ f (get_or xs i d) → more ≡ kept ++ y ∷ [] → more ≡ first ∷ map f (take (i + 1) xs)
one_more {A} {B} f first xs i d kept more y within before is push =
    push
    ∙ ap (λ (ys : List B). ys ++ y ∷ []) before
    ∙ ap (λ (x : B). first ∷ (map f (take i xs) ++ x ∷ [])) is
    ∙ ap (λ (ys : List B). first ∷ ys) (sym (map-append f (take i xs) (get_or xs i d ∷ [])))
    ∙ ap (λ (ys : List A). first ∷ map f ys) (sym (take_more xs i d within))

map_both : {A B C : Type 0} (f : A → B) (g : B → C) (xs : List A) → map (λ x. g (f x)) xs ≡ map g (map f xs)
map_both f g [] = refl
map_both f g (x ∷ xs) = ap (λ ys. g (f x) ∷ ys) (map_both f g xs)

pub all_kept : {A B C : Type 0} (f : A → B) (g : B → C) (first : C) (xs : List A) (ys : List B) (i : ℕ) (kept : List C) → map f xs ≡ ys → length xs ≤ i
    → kept ≡ first ∷ map (λ x. g (f x)) (take i xs) → kept ≡ first ∷ map g ys
all_kept {A} {B} {C} f g first xs ys i kept are past is =
    is
    ∙ ap (λ (zs : List A). first ∷ map (λ x. g (f x)) zs) (take_all i xs past)
    ∙ ap (λ (zs : List C). first ∷ zs) (map_both f g xs)
    ∙ ap (λ (zs : List B). first ∷ map g zs) are

abbrev pub entry_kind : List Constant → Entry → ConstantKind
entry_kind pool entry = kind_by pool (constant_of entry)

abbrev pub entry_call : Entry → Option Signature
entry_call entry = call_by (constant_of entry)

-- ---- kinds of types

-- these kinds before those
abbrev pub prefixed : List Kind → Option (List Kind) → Option (List Kind)
prefixed kinds None = None
prefixed kinds (Some more) = Some (kinds ++ more)

prefixed_more : (kinds : List Kind) (kind : Kind) (more : Option (List Kind)) → prefixed kinds (with_kind (Some kind) more) ≡ prefixed (kinds ++ kind ∷ []) more
prefixed_more kinds kind None = refl
prefixed_more kinds kind (Some more) = ap Some (sym (append_assoc kinds (kind ∷ []) more))
