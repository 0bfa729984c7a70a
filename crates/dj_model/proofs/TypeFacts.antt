-- Signatures of each base type, names of the library's classes, and members whose classes have other names, by plain values.
use Rattle.std.proofs.Common.{◌≡◌, true, false, List, [], ◌∷◌, map, Option, Some, None, codes, refl}
use Rattle.dj_names.specs.declared.descriptor.Base.{Base}
use Rattle.dj_names.specs.declared.descriptor.Base.TheVariants as bases
use Rattle.dj_names.specs.declared.descriptor.Kind.{Kind}
use Rattle.dj_names.specs.declared.descriptor.Kind.TheVariants as kinds
use Rattle.dj_names.specs.declared.descriptor.Desc.TheVariants as descs
use Rattle.dj_names.specs.declared.run.Raised.TheVariants as raises
use Rattle.dj_names.specs.trusted.Descriptors.{desc_text}
use Rattle.dj_names.specs.trusted.Types.{class_type, array_type, base_type, base_array}
use Rattle.dj_names.specs.Types.{in_sandbox}
use Rattle.dj_model.specs.trusted.Types.{object_name, string_name, throwable_name, raised_type, is_stop, initialiser_name, constructor_name, no_parameters}
use Rattle.dj_model.specs.Types.{member_map, declared_map}
use Rattle.dj_model.specs.trusted.Kinds.{Signature, signature_of}

abbrev each : List Base
each = bases.Boolean ∷ bases.Byte ∷ bases.Char ∷ bases.Short ∷ bases.Int ∷ bases.Long ∷ bases.Float ∷ bases.Double ∷ []

-- ---- signatures

abbrev taking : List Kind → Option Signature
taking kinds = Some (record { parameters = kinds; result = None })

abbrev giving : Kind → Option Signature
giving kind = Some (record { parameters = []; result = Some kind })

-- a parameter of each base type: a boolean, a byte, a char and a short are ints; of a float and a double there is none
parameter_kinds : map (λ base. signature_of true (descs.Method (base_type base ∷ []) None)) each
    ≡ taking (kinds.Int ∷ []) ∷ taking (kinds.Int ∷ []) ∷ taking (kinds.Int ∷ []) ∷ taking (kinds.Int ∷ []) ∷ taking (kinds.Int ∷ []) ∷ taking (kinds.Long ∷ []) ∷ None ∷ None ∷ []
parameter_kinds = refl

result_kinds : map (λ base. signature_of true (descs.Method [] (Some (base_type base)))) each
    ≡ giving kinds.Int ∷ giving kinds.Int ∷ giving kinds.Int ∷ giving kinds.Int ∷ giving kinds.Int ∷ giving kinds.Long ∷ None ∷ None ∷ []
result_kinds = refl

-- an array of each is a reference
array_kinds : map (λ base. signature_of true (descs.Method (base_array base ∷ []) None)) each
    ≡ taking (kinds.Ref ∷ []) ∷ taking (kinds.Ref ∷ []) ∷ taking (kinds.Ref ∷ []) ∷ taking (kinds.Ref ∷ []) ∷ taking (kinds.Ref ∷ []) ∷ taking (kinds.Ref ∷ []) ∷ taking (kinds.Ref ∷ []) ∷ taking (kinds.Ref ∷ []) ∷ []
array_kinds = refl

-- the receiver comes first, where there is one, and the order stays; a field's type is no method's
receivers : signature_of false no_parameters ∷ signature_of true no_parameters ∷ signature_of false (descs.Method (base_type bases.Long ∷ base_type bases.Boolean ∷ class_type (codes "I") ∷ []) None) ∷ signature_of false (descs.Method (base_type bases.Boolean ∷ base_type bases.Double ∷ []) None) ∷ []
    ≡ taking (kinds.Ref ∷ []) ∷ taking [] ∷ taking (kinds.Ref ∷ kinds.Long ∷ kinds.Int ∷ kinds.Ref ∷ []) ∷ None ∷ []
receivers = refl

-- ---- names

library_names : object_name [] ∷ string_name [] ∷ throwable_name [] ∷ object_name (codes "sandbox/") ∷ string_name (codes "sandbox/") ∷ throwable_name (codes "sandbox/") ∷ initialiser_name ∷ constructor_name ∷ desc_text no_parameters ∷ []
    ≡ codes "java/lang/Object" ∷ codes "java/lang/String" ∷ codes "java/lang/Throwable" ∷ codes "sandbox/java/lang/Object" ∷ codes "sandbox/java/lang/String" ∷ codes "sandbox/java/lang/Throwable" ∷ codes "<clinit>" ∷ codes "<init>" ∷ codes "()V" ∷ []
library_names = refl

raised_types : raised_type [] raises.Arithmetic ∷ raised_type (codes "sandbox/") raises.NullPointer ∷ [] ≡ class_type (codes "java/lang/ArithmeticException") ∷ class_type (codes "sandbox/java/lang/NullPointerException") ∷ []
raised_types = refl

-- only where there is a package of rewritten classes, and no array of it
stops : is_stop [] (class_type (codes "djvm/Stop")) ∷ map (is_stop (codes "sandbox/")) (class_type (codes "djvm/Stop") ∷ array_type (class_type (codes "djvm/Stop")) ∷ class_type (codes "sandbox/djvm/Stop") ∷ class_type (codes "djvm/Accounter") ∷ []) ≡ false ∷ true ∷ false ∷ false ∷ false ∷ []
stops = refl

-- ---- other names of classes

-- the class of a member and those in its descriptor; its own name stays
members : member_map in_sandbox (record { class = array_type (class_type (codes "A")); name = codes "m"; desc = descs.Method (class_type (codes "B") ∷ []) (Some (base_type bases.Int)) })
    ≡ record { class = array_type (class_type (codes "sandbox/A")); name = codes "m"; desc = descs.Method (class_type (codes "sandbox/B") ∷ []) (Some (base_type bases.Int)) }
members = refl

declared : declared_map in_sandbox (record { class = codes "A"; name = codes "m"; desc = descs.Field (class_type (codes "B")) }) ≡ record { class = codes "sandbox/A"; name = codes "m"; desc = descs.Field (class_type (codes "sandbox/B")) }
declared = refl
