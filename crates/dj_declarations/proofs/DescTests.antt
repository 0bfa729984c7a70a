-- Descriptors that the tests call equal are equal, and a text that is a descriptor spells one only.
use Rattle.std.proofs.Common.{◌≡◌, ◌&&◌, Bool, true, false, List, [], ◌∷◌, Option, Some, None, nat_eq, refl, sym, ap, subst, ◌∙◌, arith, unwrap_or}
use Rattle.std.proofs.lemmas.Bool.{eq-eqb}
use Rattle.std.proofs.lemmas.Bool.Decides.{nat_tests}
use Rattle.std.specs.Option.{is_some}
use Rattle.std.specs.Cmp.Lexicographic.{pointwise, bytes_decides}
use Rattle.dj_names.specs.declared.descriptor.Base.{Base}
use Rattle.dj_names.specs.declared.descriptor.Base.TheVariants as bases
use Rattle.dj_names.specs.declared.descriptor.Of.{Of}
use Rattle.dj_names.specs.declared.descriptor.Of.TheVariants as ofs
use Rattle.dj_names.specs.declared.descriptor.Ty.{Ty}
use Rattle.dj_names.specs.declared.descriptor.Desc.{Desc}
use Rattle.dj_names.specs.declared.descriptor.Desc.TheVariants as descs
use Rattle.dj_names.specs.trusted.Types.{Name, same_name, same_base, same_of, same_type, same_result, same_desc}
use Rattle.dj_names.specs.trusted.Descriptors.{desc_text, base_letter, IsDesc, Describes}
use Rattle.dj_names.specs.trusted.DescReading.{desc_read}
use Rattle.dj_names.proofs.DescLaws.{desc_takes, desc_again}
use Rattle.dj_model.specs.trusted.Types.{no_parameters}
use Rattle.dj_declarations.specs.trusted.Files.{desc_in}
use Rattle.dj_declarations.specs.Members.{IsDescriptor}

-- ---- the tests of equality

both_parts : (a b : Bool) → (a && b) ≡ true → (a ≡ true) × (b ≡ true)
both_parts true b e = (refl, e)
both_parts false b e = absurd cc

both_true : (a b : Bool) → a ≡ true → b ≡ true → (a && b) ≡ true
both_true true b e f = f
both_true false b e f = absurd cc

pub same_name_is : (a b : Name) → same_name a b ≡ true → a ≡ b
same_name_is a b e = (bytes_decides a b).0 e

pub same_name_itself : (a b : Name) → a ≡ b → same_name a b ≡ true
same_name_itself a b e = (bytes_decides a b).1 e

same_base_is : (a b : Base) → same_base a b ≡ true → a ≡ b
same_base_is bases.Boolean bases.Boolean e = refl
same_base_is bases.Byte bases.Byte e = refl
same_base_is bases.Char bases.Char e = refl
same_base_is bases.Short bases.Short e = refl
same_base_is bases.Int bases.Int e = refl
same_base_is bases.Long bases.Long e = refl
same_base_is bases.Float bases.Float e = refl
same_base_is bases.Double bases.Double e = refl
same_base_is _ _ e = absurd cc

same_of_is : (a b : Of) → same_of a b ≡ true → a ≡ b
same_of_is (ofs.Base a) (ofs.Base b) e = ap ofs.Base (same_base_is a b e)
same_of_is (ofs.Base a) (ofs.Class b) e = absurd cc
same_of_is (ofs.Class a) (ofs.Base b) e = absurd cc
same_of_is (ofs.Class a) (ofs.Class b) e = ap ofs.Class (same_name_is a b e)

same_of_itself : (a : Of) → same_of a a ≡ true
same_of_itself (ofs.Base a) = same_name_itself (base_letter a) (base_letter a) refl
same_of_itself (ofs.Class a) = same_name_itself a a refl

same_type_is : (a b : Ty) → same_type a b ≡ true → a ≡ b
same_type_is a b e =
    let parts = both_parts (nat_eq a.dims b.dims) (same_of a.of b.of) e in
    let dims : a.dims ≡ b.dims = grind (arith, nat_tests, parts.0) in
    λ i. record { dims = dims i; of = same_of_is a.of b.of parts.1 i }

same_type_itself : (a : Ty) → same_type a a ≡ true
same_type_itself a = both_true (nat_eq a.dims a.dims) (same_of a.of a.of) (eq-eqb a.dims a.dims refl) (same_of_itself a.of)

same_types_are : (a b : List Ty) → pointwise same_type a b ≡ true → a ≡ b
same_types_are [] [] e = refl
same_types_are [] (b ∷ bs) e = absurd cc
same_types_are (a ∷ types) [] e = absurd cc
same_types_are (a ∷ types) (b ∷ others) e =
    let parts = both_parts (same_type a b) (pointwise same_type types others) e in
    λ i. same_type_is a b parts.0 i ∷ same_types_are types others parts.1 i

same_types_themselves : (types : List Ty) → pointwise same_type types types ≡ true
same_types_themselves [] = refl
same_types_themselves (a ∷ types) = both_true (same_type a a) (pointwise same_type types types) (same_type_itself a) (same_types_themselves types)

same_result_is : (a b : Option Ty) → same_result a b ≡ true → a ≡ b
same_result_is None None e = refl
same_result_is None (Some b) e = absurd cc
same_result_is (Some a) None e = absurd cc
same_result_is (Some a) (Some b) e = ap Some (same_type_is a b e)

same_result_itself : (a : Option Ty) → same_result a a ≡ true
same_result_itself None = refl
same_result_itself (Some a) = same_type_itself a

pub same_desc_is : (a b : Desc) → same_desc a b ≡ true → a ≡ b
same_desc_is (descs.Field a) (descs.Field b) e = ap descs.Field (same_type_is a b e)
same_desc_is (descs.Field a) (descs.Method qs s) e = absurd cc
same_desc_is (descs.Method ps r) (descs.Field b) e = absurd cc
same_desc_is (descs.Method ps r) (descs.Method qs s) e =
    let parts = both_parts (pointwise same_type ps qs) (same_result r s) e in
    λ i. descs.Method (same_types_are ps qs parts.0 i) (same_result_is r s parts.1 i)

pub same_desc_itself : (a : Desc) → same_desc a a ≡ true
same_desc_itself (descs.Field a) = same_type_itself a
same_desc_itself (descs.Method ps r) = both_true (pointwise same_type ps ps) (same_result r r) (same_types_themselves ps) (same_result_itself r)

-- ---- the descriptor that a text spells

pub desc_in_is : (text : Name) (desc : Desc) → Describes text desc → desc_in text ≡ desc
unfolding desc_in
desc_in_is text desc d = ap (λ (o : Option Desc). unwrap_or o no_parameters) (desc_again text desc d)

-- a text that describes something is a descriptor
pub is_descriptor : (text : Name) (desc : Desc) → Describes text desc → IsDescriptor text
is_descriptor text desc d = subst (λ (x : Desc). Describes text x) (sym (desc_in_is text desc d)) d

pub desc_in_text : (desc : Desc) → IsDesc desc → desc_in (desc_text desc) ≡ desc
desc_in_text desc valid = desc_in_is (desc_text desc) desc (record { text_is = refl; valid = valid })

pub read_descriptor : (text : Name) → IsDescriptor text → is_some (desc_read text) ≡ true
read_descriptor text d = ap is_some (desc_again text (desc_in text) d)

there : {A : Type 0} (o : Option A) → is_some o ≡ true → (x : A) × (o ≡ Some x)
there (Some x) e = (x, refl)
there None e = absurd cc

pub descriptor_read : (text : Name) → is_some (desc_read text) ≡ true → IsDescriptor text
descriptor_read text e = let found = there (desc_read text) e in is_descriptor text found.0 (desc_takes text found.0 found.1)

-- of texts that are descriptors, those that spell equal ones are equal
pub same_texts : (a b : Name) → IsDescriptor a → IsDescriptor b → same_desc (desc_in a) (desc_in b) ≡ true → a ≡ b
same_texts a b da db e = da.text_is ∙ ap desc_text (same_desc_is (desc_in a) (desc_in b) e) ∙ sym db.text_is

pub same_descriptors : (a b : Name) → a ≡ b → same_desc (desc_in a) (desc_in b) ≡ true
same_descriptors a b e = subst (λ (t : Name). same_desc (desc_in a) (desc_in t) ≡ true) e (same_desc_itself (desc_in a))
