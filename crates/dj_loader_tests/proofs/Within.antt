-- What is found among members and texts has a number within their count.
use Rattle.std.proofs.Common.{◌≡◌, ℕ, suc, ◌<◌, ◌&&◌, Bool, true, false, List, [], ◌∷◌, map, length, refl, sym, ap, ◌∙◌, arith, Option, Some, None, IfSome, inl, inr}
use Rattle.std.specs.Prelude.{if◌then◌else◌, nat_eq}
use Rattle.std.specs.Option.{option_map}
use Rattle.std.specs.Cmp.Lexicographic.{pointwise}
use Rattle.std.proofs.lemmas.Bool.{cases_lt}
use Rattle.std.proofs.lemmas.Option.{none-some, same_Some}
use Rattle.std.proofs.lemmas.List.{length-map}
use Rattle.dj_names.specs.trusted.Types.{same_name}
use Rattle.dj_model.specs.trusted.Program.{Program, is_named}
use Rattle.dj_model.specs.trusted.Linking.{FoundMethod, FoundField}
use Rattle.dj_declarations.specs.Files.{bare_class}
use Rattle.dj_resolution.specs.Linked.{Linked}
use Rattle.dj_numbering.specs.declared.types.MethodId.{MethodId}
use Rattle.dj_numbering.specs.declared.types.FieldId.{FieldId}
use Rattle.dj_numbering.specs.Members.{all_methods, all_fields, method_number, field_number, found_method_number, found_field_number, number_of_method, number_of_field}
use Rattle.dj_image.specs.Operands.{units_number}

-- ---- the first of a kind

within_suc : (o : Option ℕ) (count : ℕ) → ((k : ℕ) → o ≡ Some k → k < count) → (n : ℕ) → option_map suc o ≡ Some n → n < suc count
within_suc None count within n e = absurd cc
within_suc (Some k) count within n e = let less = within k refl in let same = same_Some (suc k) n e in omega (arith, less, same)

-- it is the first, or stands later
first_within : (b : Bool) (later : Option ℕ) (count : ℕ) → ((k : ℕ) → later ≡ Some k → k < count) → (n : ℕ) → (if b then Some 0 else option_map suc later) ≡ Some n → n < suc count
first_within true later count within n e = let same = same_Some 0 n e in omega (arith, same)
first_within false later count within n e = within_suc later count within n e

pub units_within : (texts : List (List ℕ)) (units : List ℕ) (n : ℕ) → units_number texts units ≡ Some n → n < length texts
units_within [] units n e = absurd cc
units_within (x ∷ texts) units n e = first_within (pointwise nat_eq x units) (units_number texts units) (length texts) (units_within texts units) n e

pub method_within : (all : List FoundMethod) (f : FoundMethod) (n : ℕ) → method_number all f ≡ Some n → n < length all
method_within [] f n e = absurd cc
method_within (x ∷ all) f n e =
    first_within (same_name x.class f.class && is_named f.method.name f.method.desc x.method.name x.method.desc) (method_number all f) (length all) (method_within all f) n e

pub field_within : (all : List FoundField) (f : FoundField) (n : ℕ) → field_number all f ≡ Some n → n < length all
field_within [] f n e = absurd cc
field_within (x ∷ all) f n e =
    first_within (same_name x.class f.class && is_named f.field.name f.field.desc x.field.name x.field.desc) (field_number all f) (length all) (field_within all f) n e

-- ---- what is found, if it is

pub found_method_within : (program : Program) (found : Option FoundMethod) (n : ℕ) → found_method_number program found ≡ Some n → n < length (all_methods program)
found_method_within program None n e = absurd cc
found_method_within program (Some f) n e = method_within (all_methods program) f n e

pub found_field_within : (program : Program) (found : Option FoundField) (n : ℕ) → found_field_number program found ≡ Some n → n < length (all_fields program)
found_field_within program None n e = absurd cc
found_field_within program (Some f) n e = field_within (all_fields program) f n e

-- the same where that is known for descriptors alone, and for other texts that nothing is found
pub reported_method_within : (D : Type 0) (program : Program) (found : Option FoundMethod) (n : ℕ) → (D → Some n ≡ found_method_number program found) → ((D → ⊥) → Some n ≡ None)
    → n < length (all_methods program)
reported_method_within D program found n reported other = elim (cases_lt n (length (all_methods program))) [
  | inl less ↦ less
  | inr more ↦ absurd (none-some n (sym (other (λ d. let less = found_method_within program found n (sym (reported d)) in omega (arith, less, more)))))
]

pub reported_field_within : (D : Type 0) (program : Program) (found : Option FoundField) (n : ℕ) → (D → Some n ≡ found_field_number program found) → ((D → ⊥) → Some n ≡ None)
    → n < length (all_fields program)
reported_field_within D program found n reported other = elim (cases_lt n (length (all_fields program))) [
  | inl less ↦ less
  | inr more ↦ absurd (none-some n (sym (other (λ d. let less = found_field_within program found n (sym (reported d)) in omega (arith, less, more)))))
]

pub resolved_method_within : (D : Type 0) (program : Program) (found : Option FoundMethod) (o : Option MethodId) → (D → option_map number_of_method o ≡ found_method_number program found)
    → ((D → ⊥) → o ≡ None) → IfSome o (λ (m : MethodId). m.number < length (all_methods program))
resolved_method_within D program found None reported other = tt
resolved_method_within D program found (Some m) reported other = reported_method_within D program found m.number reported (λ none. absurd (none-some m (sym (other none))))

pub resolved_field_within : (D : Type 0) (program : Program) (found : Option FoundField) (o : Option FieldId) → (D → option_map number_of_field o ≡ found_field_number program found)
    → ((D → ⊥) → o ≡ None) → IfSome o (λ (f : FieldId). f.number < length (all_fields program))
resolved_field_within D program found None reported other = tt
resolved_field_within D program found (Some f) reported other = reported_field_within D program found f.number reported (λ none. absurd (none-some f (sym (other none))))

pub selected_within : (program : Program) (found : Option FoundMethod) (o : Option MethodId) → option_map number_of_method o ≡ found_method_number program found
    → IfSome o (λ (m : MethodId). m.number < length (all_methods program))
selected_within program found None reported = tt
selected_within program found (Some m) reported = found_method_within program found m.number (sym reported)

-- ---- classes

pub class_within : (program classes : Program) (linked : Linked) (class count : ℕ) → linked.program ≡ map bare_class program → classes ≡ linked.program → count ≡ length classes → class < count
    → class < length program
class_within program classes linked class count bare are many less =
    let same : length classes ≡ length program = ap length (are ∙ bare) ∙ length-map program bare_class in
    omega (arith, same, many, less)
