-- The type that the text of a class constant spells, its brackets and its element.
use Rattle.std.proofs.Common.{◌≡◌, ℕ, zero, suc, ◌-◌, ◌<◌, ◌≤◌, Bool, true, false, cond, List, [], ◌∷◌, ◌++◌, take, drop, drop-cons, length, get_or, replicate, Option, Some, None, unwrap_or, refl, sym, ap, subst, ◌∙◌, inl, inr, arith, IsTrue}
use Rattle.std.specs.Prelude.{nat_eq, IsSomeAnd}
use Rattle.std.specs.List.{starts_with}
use Rattle.std.proofs.lemmas.Bool.{ne_eqb}
use Rattle.std.proofs.lemmas.List.{take_all, length-drop}
use Rattle.dj_names.specs.declared.descriptor.Base.TheVariants as bases
use Rattle.dj_names.specs.declared.descriptor.Of.{Of}
use Rattle.dj_names.specs.declared.descriptor.Of.TheVariants as ofs
use Rattle.dj_names.specs.declared.descriptor.Ty.{Ty}
use Rattle.dj_names.specs.declared.descriptor.Desc.{Desc}
use Rattle.dj_names.specs.declared.descriptor.Desc.TheVariants as descs
use Rattle.dj_names.specs.trusted.Names.{IsClassName}
use Rattle.dj_names.specs.trusted.NameReading.{reads_class_name}
use Rattle.dj_names.specs.Tests.{class_name_test}
use Rattle.dj_names.specs.trusted.Types.{class_type}
use Rattle.dj_names.specs.trusted.Descriptors.{of_text, Describes}
use Rattle.dj_names.proofs.TestLaws.{class_name_test-decides}
use Rattle.dj_names.proofs.DescLaws.{desc_again}
use Rattle.dj_pool.specs.trusted.Pool.{Constant, text_at, IsClassText, NamesText}
use Rattle.dj_model.specs.trusted.Types.{no_parameters}
use Rattle.dj_declarations.specs.trusted.Files.{desc_in, type_in, name_in, field_type}
use Rattle.dj_image.specs.Indexed.{is_array}
use Rattle.dj_image.specs.ArrayRows.{brackets}

-- ---- descriptors

pub desc_in_is : (text : List ℕ) (desc : Desc) → Describes text desc → desc_in text ≡ desc
unfolding desc_in
desc_in_is text desc d = ap (λ (o : Option Desc). unwrap_or o no_parameters) (desc_again text desc d)

-- ---- classes

bracket_no_name : (rest : List ℕ) → IsTrue (class_name_test (91 ∷ rest)) → ⊥
unfolding class_name_test reads_class_name
bracket_no_name rest t = absurd cc

-- a class's name begins with no bracket
no_bracket : (b : ℕ) (more : List ℕ) → IsClassName (b ∷ more) → b ≡ 91 → ⊥
no_bracket b more name e = bracket_no_name more ((class_name_test-decides (91 ∷ more)).1 (subst (λ (c : ℕ). IsClassName (c ∷ more)) e name))

name_brackets : (text : List ℕ) → IsClassName text → brackets text ≡ 0
name_brackets [] name = refl
name_brackets (b ∷ more) name = ap (λ (t : Bool). cond t (suc (brackets more)) 0) (ne_eqb b 91 (no_bracket b more name))

pub name_starts : (text : List ℕ) → IsClassName text → starts_with nat_eq text (91 ∷ []) ≡ false
name_starts [] name = refl
name_starts (b ∷ more) name = let other = ne_eqb 91 b (λ e. no_bracket b more name (sym e)) in rw other refl

pub name_no_array : (text : List ℕ) → IsClassName text → is_array text ≡ false
name_no_array [] name = refl
name_no_array (b ∷ more) name = ne_eqb b 91 (no_bracket b more name)

pub name_type : (text : List ℕ) → IsClassName text → type_in text ≡ class_type text
unfolding type_in
name_type text name = ap (λ (t : Bool). cond t (field_type (desc_in text)) (class_type text)) (name_starts text name)

-- ---- arrays

of_brackets : (of : Of) → brackets (of_text of) ≡ 0
of_brackets (ofs.Base bases.Boolean) = refl
of_brackets (ofs.Base bases.Byte) = refl
of_brackets (ofs.Base bases.Char) = refl
of_brackets (ofs.Base bases.Short) = refl
of_brackets (ofs.Base bases.Int) = refl
of_brackets (ofs.Base bases.Long) = refl
of_brackets (ofs.Base bases.Float) = refl
of_brackets (ofs.Base bases.Double) = refl
of_brackets (ofs.Class name) = refl

pub type_brackets : (dims : ℕ) (of : Of) → brackets (replicate dims 91 ++ of_text of) ≡ dims
type_brackets zero of = of_brackets of
type_brackets (suc dims) of = ap suc (type_brackets dims of)

pub type_rest : (dims : ℕ) (of : Of) → drop dims (replicate dims 91 ++ of_text of) ≡ of_text of
type_rest zero of = refl
type_rest (suc dims) of = type_rest dims of

array_starts : (dims : ℕ) (of : Of) → 1 ≤ dims → starts_with nat_eq (replicate dims 91 ++ of_text of) (91 ∷ []) ≡ true
array_starts zero of some = absurd (omega arith)
array_starts (suc dims) of some = refl

pub array_type : (text : List ℕ) (ty : Ty) → 1 ≤ ty.dims → Describes text (descs.Field ty) → type_in text ≡ ty
unfolding type_in
array_type text ty some d =
    let starts : starts_with nat_eq text (91 ∷ []) ≡ true = ap (λ (t : List ℕ). starts_with nat_eq t (91 ∷ [])) d.text_is ∙ array_starts ty.dims ty.of some in
    ap (λ (t : Bool). cond t (field_type (desc_in text)) (class_type text)) starts ∙ ap field_type (desc_in_is text (descs.Field ty) d)

-- ---- both

-- a type of this many dimensions, whose element's text is the rest; or a class whose text is its name
pub record SpellsType (text : List ℕ) : Type 0 where
  pub few : brackets text ≤ 255
  pub dims : brackets text ≡ (type_in text).dims
  pub class : brackets text ≡ 0 → type_in text ≡ class_type text
  pub element : (brackets text ≡ 0 → ⊥) → drop (brackets text) text ≡ of_text (type_in text).of

spells_class : (text : List ℕ) → IsClassName text → SpellsType text
spells_class text name =
    let none = name_brackets text name in
    let is = name_type text name in
    record {
      few = omega arith;
      dims = none ∙ sym (ap (λ (ty : Ty). ty.dims) is);
      class = λ e. is;
      element = λ some. absurd (some none);
    }

spells_array : (text : List ℕ) (ty : Ty) → 1 ≤ ty.dims → Describes text (descs.Field ty) → SpellsType text
spells_array text ty some d =
    let is = array_type text ty some d in
    let count : brackets text ≡ ty.dims = ap brackets d.text_is ∙ type_brackets ty.dims ty.of in
    let rest : drop (brackets text) text ≡ of_text ty.of = ap (λ (n : ℕ). drop n text) count ∙ ap (λ (t : List ℕ). drop ty.dims t) d.text_is ∙ type_rest ty.dims ty.of in
    record {
      few = omega (arith, d.valid.few);
      dims = count ∙ sym (ap (λ (x : Ty). x.dims) is);
      class = λ e. absurd (omega (arith, count));
      element = λ e. rest ∙ sym (ap (λ (x : Ty). of_text x.of) is);
    }

pub spells : (text : List ℕ) → IsClassText text → SpellsType text
spells text (inl name) = spells_class text name
spells text (inr array) = spells_array text array.0 array.1 array.2

pub few_brackets : (text : List ℕ) → IsClassText text → brackets text ≤ 255
few_brackets text is = (spells text is).few

pub few_dims : (text : List ℕ) → IsClassText text → (type_in text).dims ≤ 255
few_dims text is = let spelled = spells text is in omega (arith, spelled.few, spelled.dims)

named_few : (found : Option (List ℕ)) → IsSomeAnd found IsClassText → (type_in (unwrap_or found [])).dims ≤ 255
named_few None is = absurd is
named_few (Some text) is = few_dims text is

-- a text that a constant names has no more dimensions than a descriptor spells
pub named_dims : (pool : List Constant) (text : ℕ) → NamesText IsClassText pool text → (type_in (name_in pool text)).dims ≤ 255
named_dims pool text is = named_few (text_at pool text) is

-- ---- the brackets, counted

pub bracket_ends : (text : List ℕ) (i : ℕ) → i < length text → (get_or text i 0 ≡ 91 → ⊥) → brackets (drop i text) ≡ 0
bracket_ends text i within other = let no = ne_eqb (get_or text i 0) 91 other in rw (drop-cons text i 0, no) refl

-- what stands after the brackets
pub rest_is : (text : List ℕ) (n : ℕ) → IsClassText text → n ≡ brackets text → (n ≡ 0 → ⊥) → take (length text - n) (drop n text) ≡ of_text (type_in text).of
rest_is text n is count some =
    take_all (length text - n) (drop n text) (omega (arith, length-drop n text))
    ∙ ap (λ (k : ℕ). drop k text) count
    ∙ (spells text is).element (λ e. some (count ∙ e))

pub typed : (ty : Ty) (dims : ℕ) (of : Of) → dims ≡ ty.dims → of ≡ ty.of → record { dims = dims; of = of } ≡ ty
typed ty dims of d o = λ i. record { dims = d i; of = o i }
