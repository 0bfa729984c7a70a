-- Each native method but arraycopy and checkCatch is of one of the groups.
use Rattle.std.proofs.Common.{◌≡◌, ℕ, List, true, false, Some, refl}
use Rattle.dj_names.specs.declared.native.NativeId.{NativeId}
use Rattle.dj_names.specs.declared.native.NativeId.TheVariants as natives
use Rattle.dj_names.specs.declared.run.Charge.{Charge}
use Rattle.dj_names.specs.declared.run.Value.{Value}
use Rattle.dj_model.specs.trusted.Natives.{Seen, answer}
use Rattle.dj_model.specs.trusted.State.{Stop}
use Rattle.dj_natives.specs.Answers.{is_answered, is_adding, is_on_numbers, is_on_texts, is_making_text, is_on_builders, is_on_throwables, is_on_objects}
use Rattle.dj_natives.specs.Counting.{owed}
use Rattle.dj_natives.specs.Calls.{stop_reported}

pub none_is_answered : (id : NativeId) → is_adding id ≡ false → is_on_numbers id ≡ false → is_on_texts id ≡ false → is_making_text id ≡ false → is_on_builders id ≡ false → is_on_throwables id ≡ false → is_on_objects id ≡ false → is_answered id ≡ false
none_is_answered natives.ObjectNew sums numbers texts makers builders throwables objects = absurd cc
none_is_answered natives.ObjectEquals sums numbers texts makers builders throwables objects = absurd cc
none_is_answered natives.ObjectHashCode sums numbers texts makers builders throwables objects = absurd cc
none_is_answered natives.ObjectToString sums numbers texts makers builders throwables objects = absurd cc
none_is_answered natives.StringLength sums numbers texts makers builders throwables objects = absurd cc
none_is_answered natives.StringIsEmpty sums numbers texts makers builders throwables objects = absurd cc
none_is_answered natives.StringToString sums numbers texts makers builders throwables objects = absurd cc
none_is_answered natives.StringCharAt sums numbers texts makers builders throwables objects = absurd cc
none_is_answered natives.StringEquals sums numbers texts makers builders throwables objects = absurd cc
none_is_answered natives.StringHashCode sums numbers texts makers builders throwables objects = absurd cc
none_is_answered natives.StringCompareTo sums numbers texts makers builders throwables objects = absurd cc
none_is_answered natives.StringCompareToObject sums numbers texts makers builders throwables objects = absurd cc
none_is_answered natives.StringStartsWith sums numbers texts makers builders throwables objects = absurd cc
none_is_answered natives.StringConcat sums numbers texts makers builders throwables objects = absurd cc
none_is_answered natives.StringSubstringFrom sums numbers texts makers builders throwables objects = absurd cc
none_is_answered natives.StringSubstring sums numbers texts makers builders throwables objects = absurd cc
none_is_answered natives.StringToCharArray sums numbers texts makers builders throwables objects = absurd cc
none_is_answered natives.StringValueOfChars sums numbers texts makers builders throwables objects = absurd cc
none_is_answered natives.StringValueOfChar sums numbers texts makers builders throwables objects = absurd cc
none_is_answered natives.StringValueOfInt sums numbers texts makers builders throwables objects = absurd cc
none_is_answered natives.StringValueOfLong sums numbers texts makers builders throwables objects = absurd cc
none_is_answered natives.StringValueOfBoolean sums numbers texts makers builders throwables objects = absurd cc
none_is_answered natives.BuilderNew sums numbers texts makers builders throwables objects = absurd cc
none_is_answered natives.BuilderNewText sums numbers texts makers builders throwables objects = absurd cc
none_is_answered natives.BuilderAppendText sums numbers texts makers builders throwables objects = absurd cc
none_is_answered natives.BuilderAppendChar sums numbers texts makers builders throwables objects = absurd cc
none_is_answered natives.BuilderAppendInt sums numbers texts makers builders throwables objects = absurd cc
none_is_answered natives.BuilderAppendLong sums numbers texts makers builders throwables objects = absurd cc
none_is_answered natives.BuilderAppendBoolean sums numbers texts makers builders throwables objects = absurd cc
none_is_answered natives.BuilderLength sums numbers texts makers builders throwables objects = absurd cc
none_is_answered natives.BuilderCharAt sums numbers texts makers builders throwables objects = absurd cc
none_is_answered natives.BuilderToString sums numbers texts makers builders throwables objects = absurd cc
none_is_answered natives.ThrowableNew sums numbers texts makers builders throwables objects = absurd cc
none_is_answered natives.ThrowableNewMessage sums numbers texts makers builders throwables objects = absurd cc
none_is_answered natives.ThrowableNewCause sums numbers texts makers builders throwables objects = absurd cc
none_is_answered natives.GetMessage sums numbers texts makers builders throwables objects = absurd cc
none_is_answered natives.GetCause sums numbers texts makers builders throwables objects = absurd cc
none_is_answered natives.AbsInt sums numbers texts makers builders throwables objects = absurd cc
none_is_answered natives.AbsLong sums numbers texts makers builders throwables objects = absurd cc
none_is_answered natives.MaxInts sums numbers texts makers builders throwables objects = absurd cc
none_is_answered natives.MaxLongs sums numbers texts makers builders throwables objects = absurd cc
none_is_answered natives.MinInts sums numbers texts makers builders throwables objects = absurd cc
none_is_answered natives.MinLongs sums numbers texts makers builders throwables objects = absurd cc
none_is_answered natives.IdentityHashCode sums numbers texts makers builders throwables objects = absurd cc
none_is_answered natives.ArrayCopy sums numbers texts makers builders throwables objects = refl
none_is_answered natives.HostHashCode sums numbers texts makers builders throwables objects = absurd cc
none_is_answered natives.HostToString sums numbers texts makers builders throwables objects = absurd cc
none_is_answered natives.HostIdentityHashCode sums numbers texts makers builders throwables objects = absurd cc
none_is_answered natives.NanoTime sums numbers texts makers builders throwables objects = absurd cc
none_is_answered natives.CurrentTimeMillis sums numbers texts makers builders throwables objects = absurd cc
none_is_answered natives.RecordJump sums numbers texts makers builders throwables objects = absurd cc
none_is_answered natives.RecordInvocation sums numbers texts makers builders throwables objects = absurd cc
none_is_answered natives.RecordThrow sums numbers texts makers builders throwables objects = absurd cc
none_is_answered natives.RecordAllocation sums numbers texts makers builders throwables objects = absurd cc
none_is_answered natives.RecordArray sums numbers texts makers builders throwables objects = absurd cc
none_is_answered natives.CheckCatch sums numbers texts makers builders throwables objects = refl

-- a charge that passes its threshold has no object yet that is thrown
pub stops_plainly : (id : NativeId) (heap : Seen) (args : List Value) (due : Charge × ℕ) → owed (answer id heap args) ≡ Some due → stop_reported id args ≡ Stop
unfolding answer
stops_plainly natives.ObjectNew heap args due e = refl
stops_plainly natives.ObjectEquals heap args due e = refl
stops_plainly natives.ObjectHashCode heap args due e = refl
stops_plainly natives.ObjectToString heap args due e = refl
stops_plainly natives.StringLength heap args due e = refl
stops_plainly natives.StringIsEmpty heap args due e = refl
stops_plainly natives.StringToString heap args due e = refl
stops_plainly natives.StringCharAt heap args due e = refl
stops_plainly natives.StringEquals heap args due e = refl
stops_plainly natives.StringHashCode heap args due e = refl
stops_plainly natives.StringCompareTo heap args due e = refl
stops_plainly natives.StringCompareToObject heap args due e = refl
stops_plainly natives.StringStartsWith heap args due e = refl
stops_plainly natives.StringConcat heap args due e = refl
stops_plainly natives.StringSubstringFrom heap args due e = refl
stops_plainly natives.StringSubstring heap args due e = refl
stops_plainly natives.StringToCharArray heap args due e = refl
stops_plainly natives.StringValueOfChars heap args due e = refl
stops_plainly natives.StringValueOfChar heap args due e = refl
stops_plainly natives.StringValueOfInt heap args due e = refl
stops_plainly natives.StringValueOfLong heap args due e = refl
stops_plainly natives.StringValueOfBoolean heap args due e = refl
stops_plainly natives.BuilderNew heap args due e = refl
stops_plainly natives.BuilderNewText heap args due e = refl
stops_plainly natives.BuilderAppendText heap args due e = refl
stops_plainly natives.BuilderAppendChar heap args due e = refl
stops_plainly natives.BuilderAppendInt heap args due e = refl
stops_plainly natives.BuilderAppendLong heap args due e = refl
stops_plainly natives.BuilderAppendBoolean heap args due e = refl
stops_plainly natives.BuilderLength heap args due e = refl
stops_plainly natives.BuilderCharAt heap args due e = refl
stops_plainly natives.BuilderToString heap args due e = refl
stops_plainly natives.ThrowableNew heap args due e = refl
stops_plainly natives.ThrowableNewMessage heap args due e = refl
stops_plainly natives.ThrowableNewCause heap args due e = refl
stops_plainly natives.GetMessage heap args due e = refl
stops_plainly natives.GetCause heap args due e = refl
stops_plainly natives.AbsInt heap args due e = refl
stops_plainly natives.AbsLong heap args due e = refl
stops_plainly natives.MaxInts heap args due e = refl
stops_plainly natives.MaxLongs heap args due e = refl
stops_plainly natives.MinInts heap args due e = refl
stops_plainly natives.MinLongs heap args due e = refl
stops_plainly natives.IdentityHashCode heap args due e = refl
stops_plainly natives.ArrayCopy heap args due e = refl
stops_plainly natives.HostHashCode heap args due e = refl
stops_plainly natives.HostToString heap args due e = refl
stops_plainly natives.HostIdentityHashCode heap args due e = refl
stops_plainly natives.NanoTime heap args due e = refl
stops_plainly natives.CurrentTimeMillis heap args due e = refl
stops_plainly natives.RecordJump heap args due e = refl
stops_plainly natives.RecordInvocation heap args due e = refl
stops_plainly natives.RecordThrow heap args due e = refl
stops_plainly natives.RecordAllocation heap args due e = refl
stops_plainly natives.RecordArray heap args due e = refl
stops_plainly natives.CheckCatch heap args due e = absurd cc
