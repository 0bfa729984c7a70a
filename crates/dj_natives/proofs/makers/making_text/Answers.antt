use Rattle.std.proofs.Common.{◌≡◌, ℕ, ℤ, pos, List, [], ◌∷◌, ◌++◌, length, Some, IfOk, IfSome, nat_eq, if◌then◌else◌, codes, refl, ap, sym, subst, ◌∙◌, w32, w64, FitsSigned, to_z, of_z, rules}
use Rattle.std.specs.Prelude.{◌&&◌}
use Rattle.std.specs.Int.{int_wrap}
use Rattle.std.specs.List.{starts_with}
use Rattle.std.proofs.lemmas.Int.{to_z-of_z}
use Rattle.dj_names.specs.declared.native.NativeId.{NativeId}
use Rattle.dj_names.specs.declared.native.NativeId.TheVariants as natives
use Rattle.dj_names.specs.declared.run.Value.TheVariants as values
use Rattle.dj_names.specs.trusted.Types.{same_name}
use Rattle.dj_heap.specs.Heaps.{object_in}
use Rattle.dj_model.specs.trusted.Natives.{answer, reference, number, unit, flag, gives_int, gives_truth, gives_reference, unit_at, hash_onto, compared_text, unless_null, joined_text, part_between, MakesText, MakesChars, KeepsText, SetsFields, elements_units, signed_decimal, truth_text, text_or_null}
use Rattle.dj_natives.specs.Answers.{answer_view}
use Rattle.dj_natives.specs.Calls.{seen_of}
use Rattle.dj_natives.specs.Known.{IsFitting, IsOfChars}
use Rattle.dj_natives.specs.Seen.{units_at, is_text_at, field_at, elements_at, null_or_units}
use Rattle.dj_natives.proofs.Others.{no_on_texts, no_making_text, no_on_builders}
use Rattle.dj_natives.proofs.Reported.{says, reported_some, reported_flip, reported_by, reported_appended, seen_units, seen_is_text, seen_elements, seen_builder}
use Rattle.dj_natives.proofs.makers.making_text.Goals as goal

pub value_of_chars-requires : goal.value_of_chars-requires
value_of_chars-requires c = record {
  chars = subst (λ (r : ℕ). IsOfChars (object_in c.args.heap.now r)) (sym c.reference-r.ensures) (subst (λ (i : NativeId). IsFitting i c.args.heap.now c.args.args.now) c.in-StringValueOfChars.is c.requires.fits);
}

pub returns-in-StringConcat : goal.returns-in-StringConcat
unfolding answer
returns-in-StringConcat c = λ program prefix types.
    says c.args.id natives.StringConcat (seen_of program prefix types c.args.heap.now) c.args.args.now (answer_view c.concat.result)
    (unless_null c.reference.result (joined_text c.reference-r.result (units_at c.args.heap.now c.reference-r.result) (units_at c.args.heap.now c.reference.result)))
    c.in-StringConcat.is
    (ap (λ us. unless_null (reference 1 c.args.args.now) (joined_text (reference 0 c.args.args.now) us ((seen_of program prefix types c.args.heap.now).units (reference 1 c.args.args.now)))) (seen_units program prefix types c.args.heap.now (reference 0 c.args.args.now) c.reference-r.result c.reference-r.ensures) ∙ ap (λ us. unless_null (reference 1 c.args.args.now) (joined_text (reference 0 c.args.args.now) (units_at c.args.heap.now c.reference-r.result) us)) (seen_units program prefix types c.args.heap.now (reference 1 c.args.args.now) c.reference.result c.reference.ensures) ∙ ap (λ k. unless_null k (joined_text (reference 0 c.args.args.now) (units_at c.args.heap.now c.reference-r.result) (units_at c.args.heap.now c.reference.result))) (sym c.reference.ensures) ∙ ap (λ k. unless_null c.reference.result (joined_text k (units_at c.args.heap.now c.reference-r.result) (units_at c.args.heap.now c.reference.result))) (sym c.reference-r.ensures))
    (c.concat.ensures)

pub returns-in-StringSubstringFrom : goal.returns-in-StringSubstringFrom
unfolding answer
returns-in-StringSubstringFrom c = λ program prefix types.
    let fits-number : FitsSigned w64 c.number.result = search rules in
    says c.args.id natives.StringSubstringFrom (seen_of program prefix types c.args.heap.now) c.args.args.now (answer_view c.rest.result)
    (part_between (units_at c.args.heap.now c.from-text.result) (number 1 c.args.args.now) (pos (length (units_at c.args.heap.now c.from-text.result))))
    c.in-StringSubstringFrom.is
    (ap (λ us. part_between us (number 1 c.args.args.now) (pos (length us))) (seen_units program prefix types c.args.heap.now (reference 0 c.args.args.now) c.from-text.result (c.from-text.ensures ∙ c.reference-r.ensures)))
    (subst (λ (z : ℤ). IfSome (answer_view c.rest.result) (λ a. part_between (units_at c.args.heap.now c.from-text.result) z (pos (length (units_at c.args.heap.now c.from-text.result))) ≡ a)) (to_z-of_z w64 c.number.result fits-number ∙ c.number.ensures) c.rest.ensures)

pub returns-in-StringSubstring : goal.returns-in-StringSubstring
unfolding answer
returns-in-StringSubstring c = λ program prefix types.
    let fits-number-in-StringSubstring : FitsSigned w64 c.number-in-StringSubstring.result = search rules in
    let fits-number-in-StringSubstring-2 : FitsSigned w64 c.number-in-StringSubstring-2.result = search rules in
    says c.args.id natives.StringSubstring (seen_of program prefix types c.args.heap.now) c.args.args.now (answer_view c.part.result)
    (part_between (units_at c.args.heap.now c.from-text.result) (number 1 c.args.args.now) (number 2 c.args.args.now))
    c.in-StringSubstring.is
    (ap (λ us. part_between us (number 1 c.args.args.now) (number 2 c.args.args.now)) (seen_units program prefix types c.args.heap.now (reference 0 c.args.args.now) c.from-text.result (c.from-text.ensures ∙ c.reference-r.ensures)))
    (subst (λ (z : ℤ). IfSome (answer_view c.part.result) (λ a. part_between (units_at c.args.heap.now c.from-text.result) (number 1 c.args.args.now) z ≡ a)) (to_z-of_z w64 c.number-in-StringSubstring-2.result fits-number-in-StringSubstring-2 ∙ c.number-in-StringSubstring-2.ensures) (subst (λ (z : ℤ). IfSome (answer_view c.part.result) (λ a. part_between (units_at c.args.heap.now c.from-text.result) z (to_z w64 (of_z w64 c.number-in-StringSubstring-2.result)) ≡ a)) (to_z-of_z w64 c.number-in-StringSubstring.result fits-number-in-StringSubstring ∙ c.number-in-StringSubstring.ensures) c.part.ensures))

pub returns-in-StringToCharArray : goal.returns-in-StringToCharArray
unfolding answer
returns-in-StringToCharArray c = λ program prefix types.
    says c.args.id natives.StringToCharArray (seen_of program prefix types c.args.heap.now) c.args.args.now (answer_view c.made_chars.result)
    (MakesChars (units_at c.args.heap.now c.from-text.result))
    c.in-StringToCharArray.is
    (ap MakesChars (seen_units program prefix types c.args.heap.now (reference 0 c.args.args.now) c.from-text.result (c.from-text.ensures ∙ c.reference-r.ensures)))
    (reported_by MakesChars c.all_units.result (units_at c.args.heap.now c.from-text.result) (answer_view c.made_chars.result) c.made_chars.ensures c.all_units.ensures)

pub returns-in-StringValueOfChars : goal.returns-in-StringValueOfChars
unfolding answer
returns-in-StringValueOfChars c = λ program prefix types.
    says c.args.id natives.StringValueOfChars (seen_of program prefix types c.args.heap.now) c.args.args.now (answer_view c.value_of_chars.result)
    (unless_null c.reference-r.result (MakesText (elements_units (elements_at c.args.heap.now c.reference-r.result))))
    c.in-StringValueOfChars.is
    (ap (λ o. unless_null (reference 0 c.args.args.now) (MakesText (elements_units o))) (seen_elements program prefix types c.args.heap.now (reference 0 c.args.args.now) c.reference-r.result c.reference-r.ensures) ∙ ap (λ k. unless_null k (MakesText (elements_units (elements_at c.args.heap.now c.reference-r.result)))) (sym c.reference-r.ensures))
    (c.value_of_chars.ensures)

pub returns-in-StringValueOfChar : goal.returns-in-StringValueOfChar
unfolding answer
returns-in-StringValueOfChar c = λ program prefix types.
    says c.args.id natives.StringValueOfChar (seen_of program prefix types c.args.heap.now) c.args.args.now (answer_view c.made.result)
    (MakesText (c.unit.result ∷ []))
    c.in-StringValueOfChar.is
    (ap (λ u. MakesText (u ∷ [])) (sym c.unit.ensures))
    (reported_by MakesText c.one_unit.result (c.unit.result ∷ []) (answer_view c.made.result) c.made.ensures c.one_unit.ensures)

pub returns-in-StringValueOfInt : goal.returns-in-StringValueOfInt
unfolding answer
returns-in-StringValueOfInt c = λ program prefix types.
    let fits-number-in-StringValueOfInt : FitsSigned w64 c.number-in-StringValueOfInt.result = search rules in
    says c.args.id natives.StringValueOfInt (seen_of program prefix types c.args.heap.now) c.args.args.now (answer_view c.made-in-StringValueOfInt.result)
    (MakesText (signed_decimal (number 0 c.args.args.now)))
    c.in-StringValueOfInt.is
    (refl)
    (reported_by MakesText c.decimal.result (signed_decimal (number 0 c.args.args.now)) (answer_view c.made-in-StringValueOfInt.result) c.made-in-StringValueOfInt.ensures (subst (λ (z : ℤ). IfOk c.decimal.result (λ u. u ≡ signed_decimal z)) (to_z-of_z w64 c.number-in-StringValueOfInt.result fits-number-in-StringValueOfInt ∙ c.number-in-StringValueOfInt.ensures) c.decimal.ensures))

pub returns-in-StringValueOfLong : goal.returns-in-StringValueOfLong
unfolding answer
returns-in-StringValueOfLong c = λ program prefix types.
    let fits-number-in-StringValueOfLong : FitsSigned w64 c.number-in-StringValueOfLong.result = search rules in
    says c.args.id natives.StringValueOfLong (seen_of program prefix types c.args.heap.now) c.args.args.now (answer_view c.made-in-StringValueOfLong.result)
    (MakesText (signed_decimal (number 0 c.args.args.now)))
    c.in-StringValueOfLong.is
    (refl)
    (reported_by MakesText c.decimal-in-StringValueOfLong.result (signed_decimal (number 0 c.args.args.now)) (answer_view c.made-in-StringValueOfLong.result) c.made-in-StringValueOfLong.ensures (subst (λ (z : ℤ). IfOk c.decimal-in-StringValueOfLong.result (λ u. u ≡ signed_decimal z)) (to_z-of_z w64 c.number-in-StringValueOfLong.result fits-number-in-StringValueOfLong ∙ c.number-in-StringValueOfLong.ensures) c.decimal-in-StringValueOfLong.ensures))

pub returns-in-StringValueOfBoolean : goal.returns-in-StringValueOfBoolean
unfolding answer
returns-in-StringValueOfBoolean c = λ program prefix types.
    says c.args.id natives.StringValueOfBoolean (seen_of program prefix types c.args.heap.now) c.args.args.now (answer_view c.made-in-StringValueOfBoolean.result)
    (MakesText (truth_text c.flag.result))
    c.in-StringValueOfBoolean.is
    (ap (λ b. MakesText (truth_text b)) (sym c.flag.ensures))
    (reported_by MakesText c.truth.result (truth_text c.flag.result) (answer_view c.made-in-StringValueOfBoolean.result) c.made-in-StringValueOfBoolean.ensures c.truth.ensures)

pub returns-in_default : goal.returns-in_default
returns-in_default c = λ program prefix types. no_making_text c.args.id c.in_default.not-StringConcat c.in_default.not-StringSubstringFrom c.in_default.not-StringSubstring c.in_default.not-StringToCharArray c.in_default.not-StringValueOfChars c.in_default.not-StringValueOfChar c.in_default.not-StringValueOfInt c.in_default.not-StringValueOfLong c.in_default.not-StringValueOfBoolean
