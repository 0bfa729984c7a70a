-- What the text of a class constant stands for.
use Rattle.std.proofs.Common.{◌≡◌, ℕ, zero, suc, ◌≤◌, Bool, true, false, ◌&&◌, nat_eq, List, [], ◌∷◌, ◌++◌, Option, replicate, refl, sym, ap, ◌∙◌, subst, inl, inr, arith, IsTrue, ◌↔◌}
use Rattle.std.specs.List.{starts_with}
use Rattle.std.proofs.lemmas.Bool.{eqb-true}
use Rattle.dj_names.specs.declared.descriptor.Ty.{Ty}
use Rattle.dj_names.specs.declared.descriptor.Desc.TheVariants as descs
use Rattle.dj_names.specs.trusted.Names.{IsClassName}
use Rattle.dj_names.specs.trusted.Descriptors.{of_text, Describes}
use Rattle.dj_names.specs.Tests.{class_name_test}
use Rattle.dj_names.specs.trusted.NameReading.{reads_class_name}
use Rattle.dj_names.proofs.TestLaws.{class_name_test-decides}
use Rattle.dj_names.proofs.DescLaws.{described_once}
use Rattle.dj_early_rules.specs.trusted.Classes.{element_class, IsArrayOf, IsReflective, IsReflectiveText}

bracket_no_name : (rest : List ℕ) → IsTrue (class_name_test (91 ∷ rest)) → ⊥
unfolding class_name_test reads_class_name
bracket_no_name rest t = absurd cc

array_no_name : (text : List ℕ) (dims : ℕ) (rest : List ℕ) → 1 ≤ dims → text ≡ replicate dims 91 ++ rest → IsClassName text → ⊥
array_no_name text zero rest some e is = absurd (omega arith)
array_no_name text (suc dims) rest some e is =
    bracket_no_name (replicate dims 91 ++ rest) ((class_name_test-decides (91 ∷ (replicate dims 91 ++ rest))).1 (subst IsClassName e is))

-- a class's name is the descriptor of no array
pub class_no_array : (text class : List ℕ) → IsClassName text → IsArrayOf text class → ⊥
class_no_array text class is array = array_no_name text array.ty.dims (of_text array.ty.of) array.array array.described.text_is is

-- ---- by the first byte

both_true : (a b : Bool) → IsTrue (a && b) → IsTrue a
both_true true b t = refl
both_true false b t = absurd cc

-- a text that begins with a bracket is no class's name
pub bracket_name : (text : List ℕ) → IsTrue (starts_with nat_eq text (91 ∷ [])) → IsClassName text → ⊥
bracket_name [] t is = absurd cc
bracket_name (b ∷ rest) t is =
    let same = eqb-true 91 b (both_true (nat_eq 91 b) _ t) in
    bracket_no_name rest ((class_name_test-decides (91 ∷ rest)).1 (subst (λ (x : ℕ). IsClassName (x ∷ rest)) (sym same) is))

array_begins : (dims : ℕ) (rest : List ℕ) → 1 ≤ dims → starts_with nat_eq (replicate dims 91 ++ rest) (91 ∷ []) ≡ true
array_begins zero rest some = absurd (omega (arith, some))
array_begins (suc n) rest some = refl

no_bracket : (text class : List ℕ) → starts_with nat_eq text (91 ∷ []) ≡ false → IsArrayOf text class → ⊥
no_bracket text class other array =
    let begins : true ≡ false = sym (array_begins array.ty.dims (of_text array.ty.of) array.array) ∙ sym (ap (λ (t : List ℕ). starts_with nat_eq t (91 ∷ [])) array.described.text_is) ∙ other in
    absurd cc

-- of another text, where it is a class's name
pub reflective_name : (text : List ℕ) (b : Bool) → starts_with nat_eq text (91 ∷ []) ≡ false → (IsTrue b ↔ (IsReflective text × IsClassName text)) → IsTrue b ↔ IsReflectiveText text
reflective_name text b other reported = (
  λ t. let is = reported.0 t in record { class = text; stands = inl (is.1, refl); reflective = is.0 },
  λ has. elim has.stands [
    | inl same ↦ reported.1 (subst IsReflective same.1 has.reflective, same.0)
    | inr array ↦ absurd (no_bracket text has.class other array)
  ],
)

same_type : (a b : Ty) → descs.Field a ≡ descs.Field b → a ≡ b
same_type a b e = cc

-- an array's descriptor for its element's class
pub reflective_array : (text : List ℕ) (ty : Ty) (b : Bool) → (IsClassName text → ⊥) → Describes text (descs.Field ty)
    → (IsTrue b ↔ ((1 ≤ ty.dims) × IsReflective (element_class ty.of))) → IsTrue b ↔ IsReflectiveText text
reflective_array text ty b other described reported = (
  λ t. let is = reported.0 t in record { class = element_class ty.of; stands = inr (record { ty = ty; array = is.0; described = described; element = refl }); reflective = is.1 },
  λ has. elim has.stands [
    | inl name ↦ absurd (other name.0)
    | inr array ↦
        let same = same_type array.ty ty (described_once text (descs.Field array.ty) (descs.Field ty) array.described described) in
        reported.1 (subst (λ (t : Ty). 1 ≤ t.dims) same array.array, subst (λ (t : Ty). IsReflective (element_class t.of)) same (subst IsReflective array.element has.reflective))
  ],
)

-- where it is neither it stands for none
pub reflective_none : (text : List ℕ) → (IsClassName text → ⊥) → ((ty : Ty) → Describes text (descs.Field ty) → ⊥) → IsTrue false ↔ IsReflectiveText text
reflective_none text other none = (
  λ t. absurd cc,
  λ has. elim has.stands [ inl name ↦ absurd (other name.0) | inr array ↦ absurd (none array.ty array.described) ],
)

pub field_no_method : (ty : Ty) (params : List Ty) (ret : Option Ty) → descs.Field ty ≡ descs.Method params ret → ⊥
field_no_method ty params ret e = absurd cc
