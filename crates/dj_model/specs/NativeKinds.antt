-- The kinds that native methods take, the receiver first, and give.
use Rattle.std.specs.Prelude.{List, [], ◌∷◌, Option, Some, None}
use Rattle.dj_names.specs.declared.descriptor.Kind.{Kind}
use Rattle.dj_names.specs.declared.descriptor.Kind.TheVariants as kinds
use Rattle.dj_names.specs.declared.native.NativeId.{NativeId}
use Rattle.dj_names.specs.declared.native.NativeId.TheVariants as natives
use Rattle.dj_model.specs.trusted.Kinds.{Signature}

abbrev pub takes_and_gives : List Kind → Option Kind → Signature
takes_and_gives parameters result = record { parameters = parameters; result = result }

unfoldable pub native_signature : NativeId → Signature
native_signature natives.ObjectNew = takes_and_gives (kinds.Ref ∷ []) None
native_signature natives.ObjectEquals = takes_and_gives (kinds.Ref ∷ kinds.Ref ∷ []) (Some kinds.Int)
native_signature natives.ObjectHashCode = takes_and_gives (kinds.Ref ∷ []) (Some kinds.Int)
native_signature natives.ObjectToString = takes_and_gives (kinds.Ref ∷ []) (Some kinds.Ref)
native_signature natives.StringLength = takes_and_gives (kinds.Ref ∷ []) (Some kinds.Int)
native_signature natives.StringIsEmpty = takes_and_gives (kinds.Ref ∷ []) (Some kinds.Int)
native_signature natives.StringToString = takes_and_gives (kinds.Ref ∷ []) (Some kinds.Ref)
native_signature natives.StringCharAt = takes_and_gives (kinds.Ref ∷ kinds.Int ∷ []) (Some kinds.Int)
native_signature natives.StringEquals = takes_and_gives (kinds.Ref ∷ kinds.Ref ∷ []) (Some kinds.Int)
native_signature natives.StringHashCode = takes_and_gives (kinds.Ref ∷ []) (Some kinds.Int)
native_signature natives.StringCompareTo = takes_and_gives (kinds.Ref ∷ kinds.Ref ∷ []) (Some kinds.Int)
native_signature natives.StringCompareToObject = takes_and_gives (kinds.Ref ∷ kinds.Ref ∷ []) (Some kinds.Int)
native_signature natives.StringStartsWith = takes_and_gives (kinds.Ref ∷ kinds.Ref ∷ []) (Some kinds.Int)
native_signature natives.StringConcat = takes_and_gives (kinds.Ref ∷ kinds.Ref ∷ []) (Some kinds.Ref)
native_signature natives.StringSubstringFrom = takes_and_gives (kinds.Ref ∷ kinds.Int ∷ []) (Some kinds.Ref)
native_signature natives.StringSubstring = takes_and_gives (kinds.Ref ∷ kinds.Int ∷ kinds.Int ∷ []) (Some kinds.Ref)
native_signature natives.StringToCharArray = takes_and_gives (kinds.Ref ∷ []) (Some kinds.Ref)
native_signature natives.StringValueOfChars = takes_and_gives (kinds.Ref ∷ []) (Some kinds.Ref)
native_signature natives.StringValueOfChar = takes_and_gives (kinds.Int ∷ []) (Some kinds.Ref)
native_signature natives.StringValueOfInt = takes_and_gives (kinds.Int ∷ []) (Some kinds.Ref)
native_signature natives.StringValueOfLong = takes_and_gives (kinds.Long ∷ []) (Some kinds.Ref)
native_signature natives.StringValueOfBoolean = takes_and_gives (kinds.Int ∷ []) (Some kinds.Ref)
native_signature natives.BuilderNew = takes_and_gives (kinds.Ref ∷ []) None
native_signature natives.BuilderNewText = takes_and_gives (kinds.Ref ∷ kinds.Ref ∷ []) None
native_signature natives.BuilderAppendText = takes_and_gives (kinds.Ref ∷ kinds.Ref ∷ []) (Some kinds.Ref)
native_signature natives.BuilderAppendChar = takes_and_gives (kinds.Ref ∷ kinds.Int ∷ []) (Some kinds.Ref)
native_signature natives.BuilderAppendInt = takes_and_gives (kinds.Ref ∷ kinds.Int ∷ []) (Some kinds.Ref)
native_signature natives.BuilderAppendLong = takes_and_gives (kinds.Ref ∷ kinds.Long ∷ []) (Some kinds.Ref)
native_signature natives.BuilderAppendBoolean = takes_and_gives (kinds.Ref ∷ kinds.Int ∷ []) (Some kinds.Ref)
native_signature natives.BuilderLength = takes_and_gives (kinds.Ref ∷ []) (Some kinds.Int)
native_signature natives.BuilderCharAt = takes_and_gives (kinds.Ref ∷ kinds.Int ∷ []) (Some kinds.Int)
native_signature natives.BuilderToString = takes_and_gives (kinds.Ref ∷ []) (Some kinds.Ref)
native_signature natives.ThrowableNew = takes_and_gives (kinds.Ref ∷ []) None
native_signature natives.ThrowableNewMessage = takes_and_gives (kinds.Ref ∷ kinds.Ref ∷ []) None
native_signature natives.ThrowableNewCause = takes_and_gives (kinds.Ref ∷ kinds.Ref ∷ kinds.Ref ∷ []) None
native_signature natives.GetMessage = takes_and_gives (kinds.Ref ∷ []) (Some kinds.Ref)
native_signature natives.GetCause = takes_and_gives (kinds.Ref ∷ []) (Some kinds.Ref)
native_signature natives.AbsInt = takes_and_gives (kinds.Int ∷ []) (Some kinds.Int)
native_signature natives.AbsLong = takes_and_gives (kinds.Long ∷ []) (Some kinds.Long)
native_signature natives.MaxInts = takes_and_gives (kinds.Int ∷ kinds.Int ∷ []) (Some kinds.Int)
native_signature natives.MaxLongs = takes_and_gives (kinds.Long ∷ kinds.Long ∷ []) (Some kinds.Long)
native_signature natives.MinInts = takes_and_gives (kinds.Int ∷ kinds.Int ∷ []) (Some kinds.Int)
native_signature natives.MinLongs = takes_and_gives (kinds.Long ∷ kinds.Long ∷ []) (Some kinds.Long)
native_signature natives.IdentityHashCode = takes_and_gives (kinds.Ref ∷ []) (Some kinds.Int)
native_signature natives.ArrayCopy = takes_and_gives (kinds.Ref ∷ kinds.Int ∷ kinds.Ref ∷ kinds.Int ∷ kinds.Int ∷ []) None
native_signature natives.HostHashCode = takes_and_gives (kinds.Ref ∷ []) (Some kinds.Int)
native_signature natives.HostToString = takes_and_gives (kinds.Ref ∷ []) (Some kinds.Ref)
native_signature natives.HostIdentityHashCode = takes_and_gives (kinds.Ref ∷ []) (Some kinds.Int)
native_signature natives.NanoTime = takes_and_gives [] (Some kinds.Long)
native_signature natives.CurrentTimeMillis = takes_and_gives [] (Some kinds.Long)
native_signature natives.RecordJump = takes_and_gives [] None
native_signature natives.RecordInvocation = takes_and_gives [] None
native_signature natives.RecordThrow = takes_and_gives [] None
native_signature natives.RecordAllocation = takes_and_gives (kinds.Int ∷ []) None
native_signature natives.RecordArray = takes_and_gives (kinds.Int ∷ kinds.Int ∷ []) None
native_signature natives.CheckCatch = takes_and_gives (kinds.Ref ∷ []) None
