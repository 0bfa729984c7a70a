-- The types that the texts of classes name.
use Rattle.std.proofs.Common.{◌≡◌, ℕ, zero, suc, ◌≤◌, Bool, true, false, cond, List, [], ◌∷◌, ◌++◌, replicate, Option, unwrap_or, refl, sym, ap, subst, ◌∙◌, arith, IsTrue}
use Rattle.std.specs.Prelude.{nat_eq}
use Rattle.std.specs.List.{starts_with}
use Rattle.std.proofs.lemmas.Bool.{ne_eqb}
use Rattle.dj_names.specs.declared.descriptor.Of.{Of}
use Rattle.dj_names.specs.declared.descriptor.Ty.{Ty}
use Rattle.dj_names.specs.declared.descriptor.Desc.{Desc}
use Rattle.dj_names.specs.declared.descriptor.Desc.TheVariants as descs
use Rattle.dj_names.specs.trusted.Names.{IsClassName}
use Rattle.dj_names.specs.trusted.NameReading.{reads_class_name}
use Rattle.dj_names.specs.Tests.{class_name_test}
use Rattle.dj_names.specs.trusted.Types.{class_type}
use Rattle.dj_names.specs.trusted.Descriptors.{of_text, Describes, IsArrayDescriptor}
use Rattle.dj_names.proofs.TestLaws.{class_name_test-decides}
use Rattle.dj_names.proofs.DescLaws.{desc_again}
use Rattle.dj_model.specs.trusted.Types.{no_parameters}
use Rattle.dj_declarations.specs.trusted.Files.{desc_in, type_in, field_type}

pub desc_in_is : (text : List ℕ) (desc : Desc) → Describes text desc → desc_in text ≡ desc
unfolding desc_in
desc_in_is text desc d = ap (λ (o : Option Desc). unwrap_or o no_parameters) (desc_again text desc d)

bracket_no_name : (rest : List ℕ) → IsTrue (class_name_test (91 ∷ rest)) → ⊥
unfolding class_name_test reads_class_name
bracket_no_name rest t = absurd cc

-- a class's name begins with no bracket
no_bracket : (b : ℕ) (more : List ℕ) → IsClassName (b ∷ more) → b ≡ 91 → ⊥
no_bracket b more name e = bracket_no_name more ((class_name_test-decides (91 ∷ more)).1 (subst (λ (c : ℕ). IsClassName (c ∷ more)) e name))

pub name_starts : (text : List ℕ) → IsClassName text → starts_with nat_eq text (91 ∷ []) ≡ false
name_starts [] name = refl
name_starts (b ∷ more) name = let other = ne_eqb 91 b (λ e. no_bracket b more name (sym e)) in rw other refl

pub name_type : (text : List ℕ) → IsClassName text → type_in text ≡ class_type text
unfolding type_in
name_type text name = ap (λ (t : Bool). cond t (field_type (desc_in text)) (class_type text)) (name_starts text name)

array_starts : (dims : ℕ) (of : Of) → 1 ≤ dims → starts_with nat_eq (replicate dims 91 ++ of_text of) (91 ∷ []) ≡ true
array_starts zero of some = absurd (omega arith)
array_starts (suc dims) of some = refl

pub array_type : (text : List ℕ) (ty : Ty) → 1 ≤ ty.dims → Describes text (descs.Field ty) → type_in text ≡ ty
unfolding type_in
array_type text ty some d =
    let starts : starts_with nat_eq text (91 ∷ []) ≡ true = ap (λ (t : List ℕ). starts_with nat_eq t (91 ∷ [])) d.text_is ∙ array_starts ty.dims ty.of some in
    ap (λ (t : Bool). cond t (field_type (desc_in text)) (class_type text)) starts ∙ ap field_type (desc_in_is text (descs.Field ty) d)

pub array_begins : (text : List ℕ) → IsArrayDescriptor text → starts_with nat_eq text (91 ∷ []) ≡ true
array_begins text a = ap (λ (t : List ℕ). starts_with nat_eq t (91 ∷ [])) a.2.text_is ∙ array_starts a.0.dims a.0.of a.1
