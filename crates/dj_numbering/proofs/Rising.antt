-- The descriptors of arrays in order.
use Rattle.std.proofs.Common.{◌≡◌, true, List, [], ◌∷◌, map, refl, sym, ◌∙◌}
use Rattle.std.specs.Prelude.{IsTrue}
use Rattle.std.specs.declared.cmp.Ordering.{Ordering}
use Rattle.std.specs.declared.cmp.Ordering.TheVariants.{Less, Equal, Greater}
use Rattle.std.specs.Ordering.{nat_cmp, is_lt}
use Rattle.std.specs.Cmp.Lexicographic.{slice_cmp}
use Rattle.std.specs.List.{AllByRecursion}
use Rattle.std.specs.List.Sorted.{IsStrictlySortedBy}
use Rattle.std.proofs.lemmas.Bool.{and_parts}
use Rattle.std.proofs.lemmas.Cmp.{nat_list_cmp_total}
use Rattle.dj_names.specs.declared.descriptor.Ty.{Ty}
use Rattle.dj_names.specs.trusted.Types.{Name}
use Rattle.dj_names.specs.trusted.Descriptors.{type_text}
use Rattle.dj_model.specs.trusted.Libraries.{is_name_before}
use Rattle.dj_class_table.proofs.Orders.{is_name_before-cmp}
use Rattle.dj_numbering.specs.Typed.{arrays_rise}
use Rattle.dj_numbering.specs.Kept.{DoTextsRise}

less_from_test : (r : Ordering) → is_lt r ≡ true → r ≡ Less
less_from_test Less e = refl
less_from_test Equal e = absurd cc
less_from_test Greater e = absurd cc

above_too : (a b : Name) → slice_cmp nat_cmp a b ≡ Less → (texts : List Name) → AllByRecursion (λ c. slice_cmp nat_cmp b c ≡ Less) texts → AllByRecursion (λ c. slice_cmp nat_cmp a c ≡ Less) texts
above_too a b e [] all = tt
above_too a b e (c ∷ texts) all = (nat_list_cmp_total.trans a b c e all.0, above_too a b e texts all.1)

pub texts_rise : (types : List Ty) → IsTrue (arrays_rise types) → DoTextsRise (map type_text types)
unfolding IsStrictlySortedBy
texts_rise [] e = tt
texts_rise (a ∷ []) e = (tt, tt)
texts_rise (a ∷ b ∷ types) e =
    let parts = and_parts (is_name_before (type_text a) (type_text b)) (arrays_rise (b ∷ types)) e in
    let less : slice_cmp nat_cmp (type_text a) (type_text b) ≡ Less = less_from_test (slice_cmp nat_cmp (type_text a) (type_text b)) (sym (is_name_before-cmp (type_text a) (type_text b)) ∙ parts.0) in
    let later : DoTextsRise (map type_text (b ∷ types)) = texts_rise (b ∷ types) parts.1 in
    ((less, above_too (type_text a) (type_text b) less (map type_text types) later.0), later)
