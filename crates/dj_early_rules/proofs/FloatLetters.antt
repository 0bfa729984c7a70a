-- A descriptor with a float or a double has a letter of theirs.
use Rattle.std.proofs.Common.{◌≡◌, ℕ, ◌⊎◌, ◌↔◌, Bool, true, false, ◌||◌, List, [], ◌∷◌, ◌++◌, replicate, Option, Some, None, refl, sym, ap, ◌∙◌, subst, inl, inr, IsTrue}
use Rattle.std.specs.Prelude.{IsSomeAnd, codes}
use Rattle.std.specs.List.{list_any, flat_map}
use Rattle.std.proofs.lemmas.List.Folds.{list_any-append}
use Rattle.dj_names.specs.declared.descriptor.Base.TheVariants as bases
use Rattle.dj_names.specs.declared.descriptor.Of.{Of}
use Rattle.dj_names.specs.declared.descriptor.Of.TheVariants as ofs
use Rattle.dj_names.specs.declared.descriptor.Ty.{Ty}
use Rattle.dj_names.specs.declared.descriptor.Desc.{Desc}
use Rattle.dj_names.specs.declared.descriptor.Desc.TheVariants as descs
use Rattle.dj_names.specs.trusted.Descriptors.{of_text, type_text, return_text, desc_text}
use Rattle.dj_report.proofs.Sorted.{contains_none, contains_cases}
use Rattle.dj_early_rules.specs.trusted.Floats.{IsFloating, HasFloating, MentionsFloat, HasFloat}
use Rattle.dj_early_rules.specs.Judged.{is_float_letter}

or_left : (a b : Bool) → a ≡ true → (a || b) ≡ true
or_left true b e = refl
or_left false b e = absurd cc

or_right : (a b : Bool) → b ≡ true → (a || b) ≡ true
or_right true b e = refl
or_right false b e = e

any_left : (xs ys : List ℕ) → list_any is_float_letter xs ≡ true → list_any is_float_letter (xs ++ ys) ≡ true
any_left xs ys e = list_any-append is_float_letter xs ys ∙ or_left (list_any is_float_letter xs) (list_any is_float_letter ys) e

any_right : (xs ys : List ℕ) → list_any is_float_letter ys ≡ true → list_any is_float_letter (xs ++ ys) ≡ true
any_right xs ys e = list_any-append is_float_letter xs ys ∙ or_right (list_any is_float_letter xs) (list_any is_float_letter ys) e

of_letter : (of : Of) → ((of ≡ ofs.Base bases.Float) ⊎ (of ≡ ofs.Base bases.Double)) → list_any is_float_letter (of_text of) ≡ true
of_letter of (inl e) = subst (λ (o : Of). list_any is_float_letter (of_text o) ≡ true) (sym e) refl
of_letter of (inr e) = subst (λ (o : Of). list_any is_float_letter (of_text o) ≡ true) (sym e) refl

type_letter : (ty : Ty) → IsFloating ty → list_any is_float_letter (type_text ty) ≡ true
type_letter ty is = any_right (replicate ty.dims 91) (of_text ty.of) (of_letter ty.of is)

types_letter : (params : List Ty) → HasFloating params → list_any is_float_letter (flat_map type_text params) ≡ true
types_letter [] (ty, among, is) = absurd (contains_none ty among)
types_letter (first ∷ params) (ty, among, is) = elim (contains_cases first params ty among) [
  | inl same ↦ any_left (type_text first) (flat_map type_text params) (type_letter first (subst IsFloating (sym same) is))
  | inr more ↦ any_right (type_text first) (flat_map type_text params) (types_letter params (ty, more, is))
]

result_letter : (ret : Option Ty) → IsSomeAnd ret IsFloating → list_any is_float_letter (return_text ret) ≡ true
result_letter None is = absurd is
result_letter (Some ty) is = type_letter ty is

desc_letter : (desc : Desc) → MentionsFloat desc → list_any is_float_letter (desc_text desc) ≡ true
desc_letter (descs.Field ty) is = type_letter ty is
desc_letter (descs.Method params ret) (inl is) = any_left (flat_map type_text params ++ codes ")") (return_text ret) (any_left (flat_map type_text params) (codes ")") (types_letter params is))
desc_letter (descs.Method params ret) (inr is) = any_right (flat_map type_text params ++ codes ")") (return_text ret) (result_letter ret is)

-- a text without such a letter has no float
pub no_letter : (text : List ℕ) → list_any is_float_letter text ≡ false → IsTrue false ↔ HasFloat text
no_letter text none = (
  λ t. absurd cc,
  λ has. absurd (clash (list_any is_float_letter text) none (ap (list_any is_float_letter) has.1.text_is ∙ desc_letter has.0 has.2)),
)
  where
    clash : (b : Bool) → b ≡ false → b ≡ true → ⊥
    clash true e h = absurd cc
    clash false e h = absurd cc
