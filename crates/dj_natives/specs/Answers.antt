-- What native methods answer, by groups of them.
use Rattle.std.specs.Prelude.{◌≡◌, ℕ, ⊤, Bool, true, false, List, [], ◌∷◌, ◌++◌, Option, Some, None, Result, Ok, Err, IfSome}
use Rattle.std.specs.declared.alloc.AllocError.{AllocError}
use Rattle.dj_names.specs.declared.run.Charge.{Charge}
use Rattle.dj_names.specs.declared.run.Value.{Value}
use Rattle.dj_names.specs.declared.run.Value.TheVariants as values
use Rattle.dj_names.specs.declared.native.NativeId.{NativeId}
use Rattle.dj_names.specs.declared.native.NativeId.TheVariants as natives
use Rattle.dj_heap.specs.Heaps.{LimitedHeap}
use Rattle.dj_model.specs.trusted.Natives as model
use Rattle.dj_model.specs.trusted.Natives.{Seen, answer}
use Rattle.dj_natives.specs.Counting.{owed}
use Rattle.dj_natives.specs.Seen.{units_at, field_at}
use Rattle.dj_natives.specs.declared.answer.Answer.{Answer}
use Rattle.dj_natives.specs.declared.answer.Answer.TheVariants as answers

-- without memory there is none
abbrev pub answer_view : Answer → Option model.Answer
answer_view (answers.Returns result) = Some (model.Returns result)
answer_view (answers.Raises raised) = Some (model.Raises raised)
answer_view (answers.MakesText units) = Some (model.MakesText units)
answer_view (answers.KeepsText object units) = Some (model.KeepsText object units)
answer_view (answers.MakesChars units) = Some (model.MakesChars units)
answer_view (answers.SetsField object first) = Some (model.SetsFields object (values.Ref first ∷ []))
answer_view (answers.SetsFields object first second) = Some (model.SetsFields object (values.Ref first ∷ values.Ref second ∷ []))
answer_view (answers.Adds due) = Some (model.Adds due.charge due.amount)
answer_view answers.Memory = None

-- what is answered with units, where there was memory for them
abbrev pub answered_by : (List ℕ → model.Answer) → Result (List ℕ) AllocError → Option model.Answer
answered_by f (Ok units) = Some (f units)
answered_by f (Err error) = None

-- a builder's units and then more; where there was no memory for these there is no answer
abbrev pub IsAppended : LimitedHeap → ℕ → Result (List ℕ) AllocError → Option model.Answer → Type 0
IsAppended h r (Ok more) reported = IfSome reported (λ a. model.KeepsText r (units_at h (field_at h r 0) ++ more) ≡ a)
IsAppended h r (Err error) reported = reported ≡ None

-- the answer is the model's, where there was memory for it; without one the method is none of the group
abbrev pub Says : (NativeId → Bool) → NativeId → Seen → List Value → Option Answer → Type 0
Says group id heap args (Some reported) = IfSome (answer_view reported) (λ a. answer id heap args ≡ a)
Says group id heap args None = group id ≡ false

-- ---- groups

abbrev pub is_on_numbers : NativeId → Bool
is_on_numbers natives.AbsInt = true
is_on_numbers natives.AbsLong = true
is_on_numbers natives.MaxInts = true
is_on_numbers natives.MaxLongs = true
is_on_numbers natives.MinInts = true
is_on_numbers natives.MinLongs = true
is_on_numbers id = false

-- what adds to a sum
abbrev pub is_adding : NativeId → Bool
is_adding natives.RecordJump = true
is_adding natives.RecordInvocation = true
is_adding natives.RecordThrow = true
is_adding natives.RecordAllocation = true
is_adding natives.RecordArray = true
is_adding id = false

-- methods that the host answers are here for null alone
abbrev pub is_on_objects : NativeId → Bool
is_on_objects natives.ObjectNew = true
is_on_objects natives.ObjectEquals = true
is_on_objects natives.ObjectHashCode = true
is_on_objects natives.ObjectToString = true
is_on_objects natives.IdentityHashCode = true
is_on_objects natives.HostHashCode = true
is_on_objects natives.HostToString = true
is_on_objects natives.HostIdentityHashCode = true
is_on_objects natives.NanoTime = true
is_on_objects natives.CurrentTimeMillis = true
is_on_objects id = false

abbrev pub is_on_throwables : NativeId → Bool
is_on_throwables natives.ThrowableNew = true
is_on_throwables natives.ThrowableNewMessage = true
is_on_throwables natives.ThrowableNewCause = true
is_on_throwables natives.GetMessage = true
is_on_throwables natives.GetCause = true
is_on_throwables id = false

-- what is looked up in texts
abbrev pub is_on_texts : NativeId → Bool
is_on_texts natives.StringLength = true
is_on_texts natives.StringIsEmpty = true
is_on_texts natives.StringToString = true
is_on_texts natives.StringCharAt = true
is_on_texts natives.StringEquals = true
is_on_texts natives.StringHashCode = true
is_on_texts natives.StringCompareTo = true
is_on_texts natives.StringCompareToObject = true
is_on_texts natives.StringStartsWith = true
is_on_texts id = false

-- what makes a text or an array of chars
abbrev pub is_making_text : NativeId → Bool
is_making_text natives.StringConcat = true
is_making_text natives.StringSubstringFrom = true
is_making_text natives.StringSubstring = true
is_making_text natives.StringToCharArray = true
is_making_text natives.StringValueOfChars = true
is_making_text natives.StringValueOfChar = true
is_making_text natives.StringValueOfInt = true
is_making_text natives.StringValueOfLong = true
is_making_text natives.StringValueOfBoolean = true
is_making_text id = false

abbrev pub is_on_builders : NativeId → Bool
is_on_builders natives.BuilderNew = true
is_on_builders natives.BuilderNewText = true
is_on_builders natives.BuilderAppendText = true
is_on_builders natives.BuilderAppendChar = true
is_on_builders natives.BuilderAppendInt = true
is_on_builders natives.BuilderAppendLong = true
is_on_builders natives.BuilderAppendBoolean = true
is_on_builders natives.BuilderLength = true
is_on_builders natives.BuilderCharAt = true
is_on_builders natives.BuilderToString = true
is_on_builders id = false

-- those that are answered by what they see of the heap before anything of it is done
abbrev pub is_answered : NativeId → Bool
is_answered natives.ArrayCopy = false
is_answered natives.CheckCatch = false
is_answered id = true

-- ---- what is charged

-- it adds this amount to this sum
abbrev pub AddsSo : Charge → ℕ → Option Answer → Type 0
AddsSo charge amount None = ⊥
AddsSo charge amount (Some reported) = answer_view reported ≡ Some (model.Adds charge amount)

-- where there was no memory for an answer nothing is due
abbrev pub IsDueOf : Option model.Answer → Option (Charge × ℕ) → Type 0
IsDueOf None due = due ≡ None
IsDueOf (Some a) due = owed a ≡ due

abbrev pub IsDue : Option Answer → Option (Charge × ℕ) → Type 0
IsDue None due = due ≡ None
IsDue (Some reported) due = IsDueOf (answer_view reported) due
