use Rattle.std.proofs.Common.{◌≡◌, ℕ, ℤ, pos, List, [], ◌∷◌, ◌++◌, length, Some, IfOk, IfSome, nat_eq, if◌then◌else◌, codes, refl, ap, sym, subst, ◌∙◌, w32, w64, FitsSigned, to_z, of_z, rules}
use Rattle.std.specs.Prelude.{◌&&◌}
use Rattle.std.specs.Int.{int_wrap}
use Rattle.std.specs.List.{starts_with}
use Rattle.std.proofs.lemmas.Int.{to_z-of_z}
use Rattle.dj_names.specs.declared.native.NativeId.{NativeId}
use Rattle.dj_names.specs.declared.native.NativeId.TheVariants as natives
use Rattle.dj_names.specs.declared.run.Value.TheVariants as values
use Rattle.dj_names.specs.trusted.Types.{same_name}
use Rattle.dj_heap.specs.Heaps.{object_in}
use Rattle.dj_model.specs.trusted.Natives.{answer, reference, number, unit, flag, gives_int, gives_truth, gives_reference, unit_at, hash_onto, compared_text, unless_null, joined_text, part_between, MakesText, MakesChars, KeepsText, SetsFields, elements_units, signed_decimal, truth_text, text_or_null}
use Rattle.dj_natives.specs.Answers.{answer_view}
use Rattle.dj_natives.specs.Calls.{seen_of}
use Rattle.dj_natives.specs.Known.{IsFitting, IsOfChars}
use Rattle.dj_natives.specs.Seen.{units_at, is_text_at, field_at, elements_at, null_or_units}
use Rattle.dj_natives.proofs.Others.{no_on_texts, no_making_text, no_on_builders}
use Rattle.dj_natives.proofs.Reported.{says, reported_some, reported_flip, reported_by, reported_appended, seen_units, seen_is_text, seen_elements, seen_builder}
use Rattle.dj_natives.proofs.builders.on_builders.Goals as goal

pub returns-in-BuilderNew : goal.returns-in-BuilderNew
unfolding answer
returns-in-BuilderNew c = λ program prefix types.
    says c.args.id natives.BuilderNew (seen_of program prefix types c.args.heap.now) c.args.args.now (Some (SetsFields c.reference-r.result (values.Ref 0 ∷ [])))
    (SetsFields c.reference-r.result (values.Ref 0 ∷ []))
    c.in-BuilderNew.is
    (ap (λ k. SetsFields k (values.Ref 0 ∷ [])) (sym c.reference-r.ensures))
    (refl)

pub returns-in-BuilderNewText : goal.returns-in-BuilderNewText
unfolding answer
returns-in-BuilderNewText c = λ program prefix types.
    says c.args.id natives.BuilderNewText (seen_of program prefix types c.args.heap.now) c.args.args.now (answer_view c.keeps.result)
    (unless_null c.reference.result (SetsFields c.reference-r.result (values.Ref c.reference.result ∷ [])))
    c.in-BuilderNewText.is
    (ap (λ k. unless_null k (SetsFields (reference 0 c.args.args.now) (values.Ref k ∷ []))) (sym c.reference.ensures) ∙ ap (λ k. unless_null c.reference.result (SetsFields k (values.Ref c.reference.result ∷ []))) (sym c.reference-r.ensures))
    (reported_some (answer_view c.keeps.result) (unless_null c.reference.result (SetsFields c.reference-r.result (values.Ref c.reference.result ∷ []))) c.keeps.ensures)

pub returns-in-BuilderAppendText : goal.returns-in-BuilderAppendText
unfolding answer
returns-in-BuilderAppendText c = λ program prefix types.
    says c.args.id natives.BuilderAppendText (seen_of program prefix types c.args.heap.now) c.args.args.now (answer_view c.appended.result)
    (KeepsText c.reference-r.result ((units_at c.args.heap.now (field_at c.args.heap.now c.reference-r.result 0)) ++ (null_or_units c.args.heap.now c.reference-in-BuilderAppendText.result)))
    c.in-BuilderAppendText.is
    (ap (λ l. KeepsText (reference 0 c.args.args.now) (l ++ (text_or_null (seen_of program prefix types c.args.heap.now) (reference 1 c.args.args.now)))) (seen_builder program prefix types c.args.heap.now (reference 0 c.args.args.now) c.reference-r.result c.reference-r.ensures) ∙ ap (λ k. KeepsText k ((units_at c.args.heap.now (field_at c.args.heap.now c.reference-r.result 0)) ++ (text_or_null (seen_of program prefix types c.args.heap.now) (reference 1 c.args.args.now)))) (sym c.reference-r.ensures) ∙ ap (λ l. KeepsText c.reference-r.result ((units_at c.args.heap.now (field_at c.args.heap.now c.reference-r.result 0)) ++ l)) (ap (λ us. if nat_eq (reference 1 c.args.args.now) 0 then codes "null" else us) (seen_units program prefix types c.args.heap.now (reference 1 c.args.args.now) c.reference-in-BuilderAppendText.result c.reference-in-BuilderAppendText.ensures) ∙ ap (λ k. if nat_eq k 0 then codes "null" else (units_at c.args.heap.now c.reference-in-BuilderAppendText.result)) (sym c.reference-in-BuilderAppendText.ensures)))
    (reported_appended c.args.heap.now c.reference-r.result c.text_or_null.result (null_or_units c.args.heap.now c.reference-in-BuilderAppendText.result) (answer_view c.appended.result) c.appended.ensures (c.text_or_null.ensures))

pub returns-in-BuilderAppendChar : goal.returns-in-BuilderAppendChar
unfolding answer
returns-in-BuilderAppendChar c = λ program prefix types.
    says c.args.id natives.BuilderAppendChar (seen_of program prefix types c.args.heap.now) c.args.args.now (answer_view c.appended-in-BuilderAppendChar.result)
    (KeepsText c.reference-r.result ((units_at c.args.heap.now (field_at c.args.heap.now c.reference-r.result 0)) ++ (c.unit.result ∷ [])))
    c.in-BuilderAppendChar.is
    (ap (λ l. KeepsText (reference 0 c.args.args.now) (l ++ (unit 1 c.args.args.now ∷ []))) (seen_builder program prefix types c.args.heap.now (reference 0 c.args.args.now) c.reference-r.result c.reference-r.ensures) ∙ ap (λ k. KeepsText k ((units_at c.args.heap.now (field_at c.args.heap.now c.reference-r.result 0)) ++ (unit 1 c.args.args.now ∷ []))) (sym c.reference-r.ensures) ∙ ap (λ l. KeepsText c.reference-r.result ((units_at c.args.heap.now (field_at c.args.heap.now c.reference-r.result 0)) ++ l)) (ap (λ u. u ∷ []) (sym c.unit.ensures)))
    (reported_appended c.args.heap.now c.reference-r.result c.one_unit.result (c.unit.result ∷ []) (answer_view c.appended-in-BuilderAppendChar.result) c.appended-in-BuilderAppendChar.ensures (c.one_unit.ensures))

pub returns-in-BuilderAppendInt : goal.returns-in-BuilderAppendInt
unfolding answer
returns-in-BuilderAppendInt c = λ program prefix types.
    let fits-number : FitsSigned w64 c.number.result = search rules in
    says c.args.id natives.BuilderAppendInt (seen_of program prefix types c.args.heap.now) c.args.args.now (answer_view c.appended-in-BuilderAppendInt.result)
    (KeepsText c.reference-r.result ((units_at c.args.heap.now (field_at c.args.heap.now c.reference-r.result 0)) ++ (signed_decimal (number 1 c.args.args.now))))
    c.in-BuilderAppendInt.is
    (ap (λ l. KeepsText (reference 0 c.args.args.now) (l ++ (signed_decimal (number 1 c.args.args.now)))) (seen_builder program prefix types c.args.heap.now (reference 0 c.args.args.now) c.reference-r.result c.reference-r.ensures) ∙ ap (λ k. KeepsText k ((units_at c.args.heap.now (field_at c.args.heap.now c.reference-r.result 0)) ++ (signed_decimal (number 1 c.args.args.now)))) (sym c.reference-r.ensures))
    (reported_appended c.args.heap.now c.reference-r.result c.decimal.result (signed_decimal (number 1 c.args.args.now)) (answer_view c.appended-in-BuilderAppendInt.result) c.appended-in-BuilderAppendInt.ensures (subst (λ (z : ℤ). IfOk c.decimal.result (λ u. u ≡ signed_decimal z)) (to_z-of_z w64 c.number.result fits-number ∙ c.number.ensures) c.decimal.ensures))

pub returns-in-BuilderAppendLong : goal.returns-in-BuilderAppendLong
unfolding answer
returns-in-BuilderAppendLong c = λ program prefix types.
    let fits-number-in-BuilderAppendLong : FitsSigned w64 c.number-in-BuilderAppendLong.result = search rules in
    says c.args.id natives.BuilderAppendLong (seen_of program prefix types c.args.heap.now) c.args.args.now (answer_view c.appended-in-BuilderAppendLong.result)
    (KeepsText c.reference-r.result ((units_at c.args.heap.now (field_at c.args.heap.now c.reference-r.result 0)) ++ (signed_decimal (number 1 c.args.args.now))))
    c.in-BuilderAppendLong.is
    (ap (λ l. KeepsText (reference 0 c.args.args.now) (l ++ (signed_decimal (number 1 c.args.args.now)))) (seen_builder program prefix types c.args.heap.now (reference 0 c.args.args.now) c.reference-r.result c.reference-r.ensures) ∙ ap (λ k. KeepsText k ((units_at c.args.heap.now (field_at c.args.heap.now c.reference-r.result 0)) ++ (signed_decimal (number 1 c.args.args.now)))) (sym c.reference-r.ensures))
    (reported_appended c.args.heap.now c.reference-r.result c.decimal-in-BuilderAppendLong.result (signed_decimal (number 1 c.args.args.now)) (answer_view c.appended-in-BuilderAppendLong.result) c.appended-in-BuilderAppendLong.ensures (subst (λ (z : ℤ). IfOk c.decimal-in-BuilderAppendLong.result (λ u. u ≡ signed_decimal z)) (to_z-of_z w64 c.number-in-BuilderAppendLong.result fits-number-in-BuilderAppendLong ∙ c.number-in-BuilderAppendLong.ensures) c.decimal-in-BuilderAppendLong.ensures))

pub returns-in-BuilderAppendBoolean : goal.returns-in-BuilderAppendBoolean
unfolding answer
returns-in-BuilderAppendBoolean c = λ program prefix types.
    says c.args.id natives.BuilderAppendBoolean (seen_of program prefix types c.args.heap.now) c.args.args.now (answer_view c.appended-in-BuilderAppendBoolean.result)
    (KeepsText c.reference-r.result ((units_at c.args.heap.now (field_at c.args.heap.now c.reference-r.result 0)) ++ (truth_text c.flag.result)))
    c.in-BuilderAppendBoolean.is
    (ap (λ l. KeepsText (reference 0 c.args.args.now) (l ++ (truth_text (flag 1 c.args.args.now)))) (seen_builder program prefix types c.args.heap.now (reference 0 c.args.args.now) c.reference-r.result c.reference-r.ensures) ∙ ap (λ k. KeepsText k ((units_at c.args.heap.now (field_at c.args.heap.now c.reference-r.result 0)) ++ (truth_text (flag 1 c.args.args.now)))) (sym c.reference-r.ensures) ∙ ap (λ l. KeepsText c.reference-r.result ((units_at c.args.heap.now (field_at c.args.heap.now c.reference-r.result 0)) ++ l)) (ap truth_text (sym c.flag.ensures)))
    (reported_appended c.args.heap.now c.reference-r.result c.truth.result (truth_text c.flag.result) (answer_view c.appended-in-BuilderAppendBoolean.result) c.appended-in-BuilderAppendBoolean.ensures (c.truth.ensures))

pub returns-in-BuilderLength : goal.returns-in-BuilderLength
unfolding answer
returns-in-BuilderLength c = λ program prefix types.
    says c.args.id natives.BuilderLength (seen_of program prefix types c.args.heap.now) c.args.args.now (answer_view c.gives_int.result)
    (gives_int (pos c.text_length.result))
    c.in-BuilderLength.is
    (ap (λ us. gives_int (pos (length us))) (seen_builder program prefix types c.args.heap.now (reference 0 c.args.args.now) c.reference-r.result c.reference-r.ensures) ∙ ap (λ k. gives_int (pos (length (units_at c.args.heap.now k)))) (sym c.field-text.ensures) ∙ ap (λ n. gives_int (pos n)) (sym c.text_length.ensures))
    (reported_flip (answer_view c.gives_int.result) (gives_int (pos c.text_length.result)) c.gives_int.ensures)

pub returns-in-BuilderCharAt : goal.returns-in-BuilderCharAt
unfolding answer
returns-in-BuilderCharAt c = λ program prefix types.
    let fits-number-in-BuilderCharAt : FitsSigned w64 c.number-in-BuilderCharAt.result = search rules in
    says c.args.id natives.BuilderCharAt (seen_of program prefix types c.args.heap.now) c.args.args.now (answer_view c.char_at.result)
    (unit_at (units_at c.args.heap.now c.field-text.result) (number 1 c.args.args.now))
    c.in-BuilderCharAt.is
    (ap (λ us. unit_at us (number 1 c.args.args.now)) (seen_builder program prefix types c.args.heap.now (reference 0 c.args.args.now) c.reference-r.result c.reference-r.ensures) ∙ ap (λ k. unit_at (units_at c.args.heap.now k) (number 1 c.args.args.now)) (sym c.field-text.ensures))
    (reported_some (answer_view c.char_at.result) (unit_at (units_at c.args.heap.now c.field-text.result) (number 1 c.args.args.now)) (c.char_at.ensures ∙ ap (λ z. Some (unit_at (units_at c.args.heap.now c.field-text.result) z)) (to_z-of_z w64 c.number-in-BuilderCharAt.result fits-number-in-BuilderCharAt ∙ c.number-in-BuilderCharAt.ensures)))

pub returns-in-BuilderToString : goal.returns-in-BuilderToString
unfolding answer
returns-in-BuilderToString c = λ program prefix types.
    says c.args.id natives.BuilderToString (seen_of program prefix types c.args.heap.now) c.args.args.now (answer_view c.made.result)
    (MakesText (units_at c.args.heap.now c.field-text.result))
    c.in-BuilderToString.is
    (ap MakesText (seen_builder program prefix types c.args.heap.now (reference 0 c.args.args.now) c.reference-r.result c.reference-r.ensures) ∙ ap (λ k. MakesText (units_at c.args.heap.now k)) (sym c.field-text.ensures))
    (reported_by MakesText c.all_units.result (units_at c.args.heap.now c.field-text.result) (answer_view c.made.result) c.made.ensures c.all_units.ensures)

pub returns-in_default : goal.returns-in_default
returns-in_default c = λ program prefix types. no_on_builders c.args.id c.in_default.not-BuilderNew c.in_default.not-BuilderNewText c.in_default.not-BuilderAppendText c.in_default.not-BuilderAppendChar c.in_default.not-BuilderAppendInt c.in_default.not-BuilderAppendLong c.in_default.not-BuilderAppendBoolean c.in_default.not-BuilderLength c.in_default.not-BuilderCharAt c.in_default.not-BuilderToString
