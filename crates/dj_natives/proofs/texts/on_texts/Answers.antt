use Rattle.std.proofs.Common.{◌≡◌, ℕ, ℤ, pos, List, [], ◌∷◌, ◌++◌, length, Some, IfOk, IfSome, nat_eq, if◌then◌else◌, codes, refl, ap, sym, subst, ◌∙◌, w32, w64, FitsSigned, to_z, of_z, rules}
use Rattle.std.specs.Prelude.{◌&&◌}
use Rattle.std.specs.Int.{int_wrap}
use Rattle.std.specs.List.{starts_with}
use Rattle.std.proofs.lemmas.Int.{to_z-of_z}
use Rattle.dj_names.specs.declared.native.NativeId.{NativeId}
use Rattle.dj_names.specs.declared.native.NativeId.TheVariants as natives
use Rattle.dj_names.specs.declared.run.Value.TheVariants as values
use Rattle.dj_names.specs.trusted.Types.{same_name}
use Rattle.dj_heap.specs.Heaps.{object_in}
use Rattle.dj_model.specs.trusted.Natives.{answer, reference, number, unit, flag, gives_int, gives_truth, gives_reference, unit_at, hash_onto, compared_text, unless_null, joined_text, part_between, MakesText, MakesChars, KeepsText, SetsFields, elements_units, signed_decimal, truth_text, text_or_null}
use Rattle.dj_natives.specs.Answers.{answer_view}
use Rattle.dj_natives.specs.Calls.{seen_of}
use Rattle.dj_natives.specs.Known.{IsFitting, IsOfChars}
use Rattle.dj_natives.specs.Seen.{units_at, is_text_at, field_at, elements_at, null_or_units}
use Rattle.dj_natives.proofs.Others.{no_on_texts, no_making_text, no_on_builders}
use Rattle.dj_natives.proofs.Reported.{says, reported_some, reported_flip, reported_by, reported_appended, seen_units, seen_is_text, seen_elements, seen_builder}
use Rattle.dj_natives.proofs.texts.on_texts.Goals as goal

pub returns-in-StringLength : goal.returns-in-StringLength
unfolding answer
returns-in-StringLength c = λ program prefix types.
    says c.args.id natives.StringLength (seen_of program prefix types c.args.heap.now) c.args.args.now (answer_view c.gives_int.result)
    (gives_int (pos c.text_length.result))
    c.in-StringLength.is
    (ap (λ us. gives_int (pos (length us))) (seen_units program prefix types c.args.heap.now (reference 0 c.args.args.now) c.from-text.result (c.from-text.ensures ∙ c.reference-r.ensures)) ∙ ap (λ n. gives_int (pos n)) (sym c.text_length.ensures))
    (reported_flip (answer_view c.gives_int.result) (gives_int (pos c.text_length.result)) c.gives_int.ensures)

pub returns-in-StringIsEmpty : goal.returns-in-StringIsEmpty
unfolding answer
returns-in-StringIsEmpty c = λ program prefix types.
    says c.args.id natives.StringIsEmpty (seen_of program prefix types c.args.heap.now) c.args.args.now (answer_view c.gives_truth.result)
    (gives_truth (nat_eq c.text_length-in-StringIsEmpty.result 0))
    c.in-StringIsEmpty.is
    (ap (λ us. gives_truth (nat_eq (length us) 0)) (seen_units program prefix types c.args.heap.now (reference 0 c.args.args.now) c.from-text.result (c.from-text.ensures ∙ c.reference-r.ensures)) ∙ ap (λ n. gives_truth (nat_eq n 0)) (sym c.text_length-in-StringIsEmpty.ensures))
    (reported_some (answer_view c.gives_truth.result) (gives_truth (nat_eq c.text_length-in-StringIsEmpty.result 0)) c.gives_truth.ensures)

pub returns-in-StringToString : goal.returns-in-StringToString
unfolding answer
returns-in-StringToString c = λ program prefix types.
    says c.args.id natives.StringToString (seen_of program prefix types c.args.heap.now) c.args.args.now (answer_view c.gives_reference.result)
    (gives_reference c.reference-r.result)
    c.in-StringToString.is
    (ap gives_reference (sym c.reference-r.ensures))
    (reported_some (answer_view c.gives_reference.result) (gives_reference c.reference-r.result) c.gives_reference.ensures)

pub returns-in-StringCharAt : goal.returns-in-StringCharAt
unfolding answer
returns-in-StringCharAt c = λ program prefix types.
    let fits-number : FitsSigned w64 c.number.result = search rules in
    says c.args.id natives.StringCharAt (seen_of program prefix types c.args.heap.now) c.args.args.now (answer_view c.char_at.result)
    (unit_at (units_at c.args.heap.now c.from-text.result) (number 1 c.args.args.now))
    c.in-StringCharAt.is
    (ap (λ us. unit_at us (number 1 c.args.args.now)) (seen_units program prefix types c.args.heap.now (reference 0 c.args.args.now) c.from-text.result (c.from-text.ensures ∙ c.reference-r.ensures)))
    (reported_some (answer_view c.char_at.result) (unit_at (units_at c.args.heap.now c.from-text.result) (number 1 c.args.args.now)) (c.char_at.ensures ∙ ap (λ z. Some (unit_at (units_at c.args.heap.now c.from-text.result) z)) (to_z-of_z w64 c.number.result fits-number ∙ c.number.ensures)))

pub returns-in-StringEquals : goal.returns-in-StringEquals
unfolding answer
returns-in-StringEquals c = λ program prefix types.
    says c.args.id natives.StringEquals (seen_of program prefix types c.args.heap.now) c.args.args.now (answer_view c.gives_truth-in-StringEquals.result)
    (gives_truth c.equal.result)
    c.in-StringEquals.is
    (ap (λ b. gives_truth (b && same_name ((seen_of program prefix types c.args.heap.now).units (reference 0 c.args.args.now)) ((seen_of program prefix types c.args.heap.now).units (reference 1 c.args.args.now)))) (seen_is_text program prefix types c.args.heap.now (reference 1 c.args.args.now) c.from-with.result (c.from-with.ensures ∙ c.reference-other.ensures)) ∙ ap (λ us. gives_truth (is_text_at c.args.heap.now c.from-with.result && same_name us ((seen_of program prefix types c.args.heap.now).units (reference 1 c.args.args.now)))) (seen_units program prefix types c.args.heap.now (reference 0 c.args.args.now) c.from-text.result (c.from-text.ensures ∙ c.reference-r.ensures)) ∙ ap (λ us. gives_truth (is_text_at c.args.heap.now c.from-with.result && same_name (units_at c.args.heap.now c.from-text.result) us)) (seen_units program prefix types c.args.heap.now (reference 1 c.args.args.now) c.from-with.result (c.from-with.ensures ∙ c.reference-other.ensures)) ∙ ap gives_truth (sym c.equal.ensures))
    (reported_some (answer_view c.gives_truth-in-StringEquals.result) (gives_truth c.equal.result) c.gives_truth-in-StringEquals.ensures)

pub returns-in-StringHashCode : goal.returns-in-StringHashCode
unfolding answer
returns-in-StringHashCode c = λ program prefix types.
    let fits-hash_of : FitsSigned w32 c.hash_of.result = search rules in
    says c.args.id natives.StringHashCode (seen_of program prefix types c.args.heap.now) c.args.args.now (Some (gives_int (to_z w32 (of_z w32 c.hash_of.result))))
    (gives_int c.hash_of.result)
    c.in-StringHashCode.is
    (ap (λ us. gives_int (int_wrap w32 (pos (hash_onto 0 us)))) (seen_units program prefix types c.args.heap.now (reference 0 c.args.args.now) c.from-text.result (c.from-text.ensures ∙ c.reference-r.ensures)) ∙ ap gives_int (sym c.hash_of.ensures))
    (ap gives_int (sym (to_z-of_z w32 c.hash_of.result fits-hash_of)))

pub returns-in-StringCompareTo : goal.returns-in-StringCompareTo
unfolding answer
returns-in-StringCompareTo c = λ program prefix types.
    says c.args.id natives.StringCompareTo (seen_of program prefix types c.args.heap.now) c.args.args.now (answer_view c.compared.result)
    (compared_text (seen_of program prefix types c.args.heap.now) c.from-text.result c.from-with.result)
    c.in-StringCompareTo.is
    (ap (λ k. compared_text (seen_of program prefix types c.args.heap.now) k (reference 1 c.args.args.now)) (sym (c.from-text.ensures ∙ c.reference-r.ensures)) ∙ ap (λ k. compared_text (seen_of program prefix types c.args.heap.now) c.from-text.result k) (sym (c.from-with.ensures ∙ c.reference-other.ensures)))
    (c.compared.ensures program prefix types)

pub returns-in-StringCompareToObject : goal.returns-in-StringCompareToObject
unfolding answer
returns-in-StringCompareToObject c = λ program prefix types.
    says c.args.id natives.StringCompareToObject (seen_of program prefix types c.args.heap.now) c.args.args.now (answer_view c.compared-in-StringCompareToObject.result)
    (compared_text (seen_of program prefix types c.args.heap.now) c.from-text.result c.from-with.result)
    c.in-StringCompareToObject.is
    (ap (λ k. compared_text (seen_of program prefix types c.args.heap.now) k (reference 1 c.args.args.now)) (sym (c.from-text.ensures ∙ c.reference-r.ensures)) ∙ ap (λ k. compared_text (seen_of program prefix types c.args.heap.now) c.from-text.result k) (sym (c.from-with.ensures ∙ c.reference-other.ensures)))
    (c.compared-in-StringCompareToObject.ensures program prefix types)

pub returns-in-StringStartsWith : goal.returns-in-StringStartsWith
unfolding answer
returns-in-StringStartsWith c = λ program prefix types.
    says c.args.id natives.StringStartsWith (seen_of program prefix types c.args.heap.now) c.args.args.now (answer_view c.starts.result)
    (unless_null c.from-with.result (gives_truth (starts_with nat_eq (units_at c.args.heap.now c.from-text.result) (units_at c.args.heap.now c.from-with.result))))
    c.in-StringStartsWith.is
    (ap (λ us. unless_null (reference 1 c.args.args.now) (gives_truth (starts_with nat_eq us ((seen_of program prefix types c.args.heap.now).units (reference 1 c.args.args.now))))) (seen_units program prefix types c.args.heap.now (reference 0 c.args.args.now) c.from-text.result (c.from-text.ensures ∙ c.reference-r.ensures)) ∙ ap (λ us. unless_null (reference 1 c.args.args.now) (gives_truth (starts_with nat_eq (units_at c.args.heap.now c.from-text.result) us))) (seen_units program prefix types c.args.heap.now (reference 1 c.args.args.now) c.from-with.result (c.from-with.ensures ∙ c.reference-other.ensures)) ∙ ap (λ k. unless_null k (gives_truth (starts_with nat_eq (units_at c.args.heap.now c.from-text.result) (units_at c.args.heap.now c.from-with.result)))) (sym (c.from-with.ensures ∙ c.reference-other.ensures)))
    (reported_some (answer_view c.starts.result) (unless_null c.from-with.result (gives_truth (starts_with nat_eq (units_at c.args.heap.now c.from-text.result) (units_at c.args.heap.now c.from-with.result)))) c.starts.ensures)

pub returns-in_default : goal.returns-in_default
returns-in_default c = λ program prefix types. no_on_texts c.args.id c.in_default.not-StringLength c.in_default.not-StringIsEmpty c.in_default.not-StringToString c.in_default.not-StringCharAt c.in_default.not-StringEquals c.in_default.not-StringHashCode c.in_default.not-StringCompareTo c.in_default.not-StringCompareToObject c.in_default.not-StringStartsWith
