-- The three libraries, class by class: flags, superclass, interfaces, the number of fields, and the methods in order.
use Rattle.std.proofs.Common.{◌≡◌, ℕ, List, [], ◌∷◌, map, Option, Some, None, codes, refl}
use Rattle.dj_names.specs.declared.native.NativeId.{NativeId}
use Rattle.dj_names.specs.declared.native.NativeId.TheVariants as natives
use Rattle.dj_names.specs.trusted.Descriptors.{desc_text}
use Rattle.dj_names.specs.trusted.Library.{deterministic_library, raw_library}
use Rattle.dj_names.specs.Library.{sandbox_library}
use Rattle.dj_names.specs.trusted.Types.{Name}
use Rattle.dj_model.specs.trusted.Program.{Class, Method, Body, Native}
use Rattle.dj_model.specs.trusted.Libraries.{library_program}

-- a method by its flags, its name, the text of its descriptor and the native that it is
pub record MethodRow : Type 0 where
  pub flags : ℕ
  pub name : Name
  pub desc : List ℕ
  pub native : Option NativeId

pub record ClassRow : Type 0 where
  pub name : Name
  pub flags : ℕ
  pub superclass : Option Name
  pub interfaces : List Name
  pub fields : ℕ
  pub methods : List MethodRow

abbrev native_of : Body → Option NativeId
native_of (Native id) = Some id
native_of body = None

abbrev method_row : Method → MethodRow
method_row m = record { flags = m.flags; name = m.name; desc = desc_text m.desc; native = native_of m.body }

abbrev class_row : Class → ClassRow
class_row c = record { name = c.name; flags = c.flags; superclass = c.superclass; interfaces = c.interfaces; fields = c.unnamed_fields; methods = map method_row c.methods }

abbrev row : Name → ℕ → Option Name → List Name → ℕ → List MethodRow → ClassRow
row name flags superclass interfaces fields methods =
    record { name = name; flags = flags; superclass = superclass; interfaces = interfaces; fields = fields; methods = methods }

-- public and native, static too, or public and abstract
abbrev instance : Name → List ℕ → NativeId → MethodRow
instance name desc id = record { flags = 257; name = name; desc = desc; native = Some id }

abbrev static : Name → List ℕ → NativeId → MethodRow
static name desc id = record { flags = 265; name = name; desc = desc; native = Some id }

abbrev abstract : Name → List ℕ → MethodRow
abstract name desc = record { flags = 1025; name = name; desc = desc; native = None }

-- the deterministic library, in the order of the classes' names
deterministic_rows : map class_row (library_program deterministic_library)
    ≡ row (codes "java/io/Serializable") 1537 (Some (codes "java/lang/Object")) ([]) 0
    ([])
    ∷ row (codes "java/lang/ArithmeticException") 33 (Some (codes "java/lang/RuntimeException")) ([]) 0
    (instance (codes "<init>") (codes "()V") natives.ThrowableNew
    ∷ instance (codes "<init>") (codes "(Ljava/lang/String;)V") natives.ThrowableNewMessage
    ∷ [])
    ∷ row (codes "java/lang/ArrayIndexOutOfBoundsException") 33 (Some (codes "java/lang/IndexOutOfBoundsException")) ([]) 0
    (instance (codes "<init>") (codes "()V") natives.ThrowableNew
    ∷ instance (codes "<init>") (codes "(Ljava/lang/String;)V") natives.ThrowableNewMessage
    ∷ [])
    ∷ row (codes "java/lang/ArrayStoreException") 33 (Some (codes "java/lang/RuntimeException")) ([]) 0
    (instance (codes "<init>") (codes "()V") natives.ThrowableNew
    ∷ instance (codes "<init>") (codes "(Ljava/lang/String;)V") natives.ThrowableNewMessage
    ∷ [])
    ∷ row (codes "java/lang/CharSequence") 1537 (Some (codes "java/lang/Object")) ([]) 0
    (abstract (codes "length") (codes "()I")
    ∷ abstract (codes "charAt") (codes "(I)C")
    ∷ abstract (codes "toString") (codes "()Ljava/lang/String;")
    ∷ [])
    ∷ row (codes "java/lang/ClassCastException") 33 (Some (codes "java/lang/RuntimeException")) ([]) 0
    (instance (codes "<init>") (codes "()V") natives.ThrowableNew
    ∷ instance (codes "<init>") (codes "(Ljava/lang/String;)V") natives.ThrowableNewMessage
    ∷ [])
    ∷ row (codes "java/lang/Cloneable") 1537 (Some (codes "java/lang/Object")) ([]) 0
    ([])
    ∷ row (codes "java/lang/Comparable") 1537 (Some (codes "java/lang/Object")) ([]) 0
    (abstract (codes "compareTo") (codes "(Ljava/lang/Object;)I")
    ∷ [])
    ∷ row (codes "java/lang/Error") 33 (Some (codes "java/lang/Throwable")) ([]) 0
    (instance (codes "<init>") (codes "()V") natives.ThrowableNew
    ∷ instance (codes "<init>") (codes "(Ljava/lang/String;)V") natives.ThrowableNewMessage
    ∷ instance (codes "<init>") (codes "(Ljava/lang/String;Ljava/lang/Throwable;)V") natives.ThrowableNewCause
    ∷ [])
    ∷ row (codes "java/lang/Exception") 33 (Some (codes "java/lang/Throwable")) ([]) 0
    (instance (codes "<init>") (codes "()V") natives.ThrowableNew
    ∷ instance (codes "<init>") (codes "(Ljava/lang/String;)V") natives.ThrowableNewMessage
    ∷ instance (codes "<init>") (codes "(Ljava/lang/String;Ljava/lang/Throwable;)V") natives.ThrowableNewCause
    ∷ [])
    ∷ row (codes "java/lang/IllegalArgumentException") 33 (Some (codes "java/lang/RuntimeException")) ([]) 0
    (instance (codes "<init>") (codes "()V") natives.ThrowableNew
    ∷ instance (codes "<init>") (codes "(Ljava/lang/String;)V") natives.ThrowableNewMessage
    ∷ instance (codes "<init>") (codes "(Ljava/lang/String;Ljava/lang/Throwable;)V") natives.ThrowableNewCause
    ∷ [])
    ∷ row (codes "java/lang/IllegalStateException") 33 (Some (codes "java/lang/RuntimeException")) ([]) 0
    (instance (codes "<init>") (codes "()V") natives.ThrowableNew
    ∷ instance (codes "<init>") (codes "(Ljava/lang/String;)V") natives.ThrowableNewMessage
    ∷ instance (codes "<init>") (codes "(Ljava/lang/String;Ljava/lang/Throwable;)V") natives.ThrowableNewCause
    ∷ [])
    ∷ row (codes "java/lang/IndexOutOfBoundsException") 33 (Some (codes "java/lang/RuntimeException")) ([]) 0
    (instance (codes "<init>") (codes "()V") natives.ThrowableNew
    ∷ instance (codes "<init>") (codes "(Ljava/lang/String;)V") natives.ThrowableNewMessage
    ∷ [])
    ∷ row (codes "java/lang/Math") 49 (Some (codes "java/lang/Object")) ([]) 0
    (static (codes "abs") (codes "(I)I") natives.AbsInt
    ∷ static (codes "abs") (codes "(J)J") natives.AbsLong
    ∷ static (codes "max") (codes "(II)I") natives.MaxInts
    ∷ static (codes "max") (codes "(JJ)J") natives.MaxLongs
    ∷ static (codes "min") (codes "(II)I") natives.MinInts
    ∷ static (codes "min") (codes "(JJ)J") natives.MinLongs
    ∷ [])
    ∷ row (codes "java/lang/NegativeArraySizeException") 33 (Some (codes "java/lang/RuntimeException")) ([]) 0
    (instance (codes "<init>") (codes "()V") natives.ThrowableNew
    ∷ instance (codes "<init>") (codes "(Ljava/lang/String;)V") natives.ThrowableNewMessage
    ∷ [])
    ∷ row (codes "java/lang/NullPointerException") 33 (Some (codes "java/lang/RuntimeException")) ([]) 0
    (instance (codes "<init>") (codes "()V") natives.ThrowableNew
    ∷ instance (codes "<init>") (codes "(Ljava/lang/String;)V") natives.ThrowableNewMessage
    ∷ [])
    ∷ row (codes "java/lang/Object") 33 (None) ([]) 0
    (instance (codes "<init>") (codes "()V") natives.ObjectNew
    ∷ instance (codes "equals") (codes "(Ljava/lang/Object;)Z") natives.ObjectEquals
    ∷ instance (codes "hashCode") (codes "()I") natives.ObjectHashCode
    ∷ instance (codes "toString") (codes "()Ljava/lang/String;") natives.ObjectToString
    ∷ [])
    ∷ row (codes "java/lang/Runnable") 1537 (Some (codes "java/lang/Object")) ([]) 0
    (abstract (codes "run") (codes "()V")
    ∷ [])
    ∷ row (codes "java/lang/RuntimeException") 33 (Some (codes "java/lang/Exception")) ([]) 0
    (instance (codes "<init>") (codes "()V") natives.ThrowableNew
    ∷ instance (codes "<init>") (codes "(Ljava/lang/String;)V") natives.ThrowableNewMessage
    ∷ instance (codes "<init>") (codes "(Ljava/lang/String;Ljava/lang/Throwable;)V") natives.ThrowableNewCause
    ∷ [])
    ∷ row (codes "java/lang/String") 49 (Some (codes "java/lang/Object")) (codes "java/lang/Comparable" ∷ codes "java/lang/CharSequence" ∷ []) 0
    (instance (codes "length") (codes "()I") natives.StringLength
    ∷ instance (codes "isEmpty") (codes "()Z") natives.StringIsEmpty
    ∷ instance (codes "toString") (codes "()Ljava/lang/String;") natives.StringToString
    ∷ instance (codes "charAt") (codes "(I)C") natives.StringCharAt
    ∷ instance (codes "equals") (codes "(Ljava/lang/Object;)Z") natives.StringEquals
    ∷ instance (codes "hashCode") (codes "()I") natives.StringHashCode
    ∷ instance (codes "compareTo") (codes "(Ljava/lang/String;)I") natives.StringCompareTo
    ∷ instance (codes "compareTo") (codes "(Ljava/lang/Object;)I") natives.StringCompareToObject
    ∷ instance (codes "startsWith") (codes "(Ljava/lang/String;)Z") natives.StringStartsWith
    ∷ instance (codes "concat") (codes "(Ljava/lang/String;)Ljava/lang/String;") natives.StringConcat
    ∷ instance (codes "substring") (codes "(I)Ljava/lang/String;") natives.StringSubstringFrom
    ∷ instance (codes "substring") (codes "(II)Ljava/lang/String;") natives.StringSubstring
    ∷ instance (codes "toCharArray") (codes "()[C") natives.StringToCharArray
    ∷ static (codes "valueOf") (codes "([C)Ljava/lang/String;") natives.StringValueOfChars
    ∷ static (codes "valueOf") (codes "(C)Ljava/lang/String;") natives.StringValueOfChar
    ∷ static (codes "valueOf") (codes "(I)Ljava/lang/String;") natives.StringValueOfInt
    ∷ static (codes "valueOf") (codes "(J)Ljava/lang/String;") natives.StringValueOfLong
    ∷ static (codes "valueOf") (codes "(Z)Ljava/lang/String;") natives.StringValueOfBoolean
    ∷ [])
    ∷ row (codes "java/lang/StringBuilder") 49 (Some (codes "java/lang/Object")) (codes "java/lang/CharSequence" ∷ []) 1
    (instance (codes "<init>") (codes "()V") natives.BuilderNew
    ∷ instance (codes "<init>") (codes "(Ljava/lang/String;)V") natives.BuilderNewText
    ∷ instance (codes "append") (codes "(Ljava/lang/String;)Ljava/lang/StringBuilder;") natives.BuilderAppendText
    ∷ instance (codes "append") (codes "(C)Ljava/lang/StringBuilder;") natives.BuilderAppendChar
    ∷ instance (codes "append") (codes "(I)Ljava/lang/StringBuilder;") natives.BuilderAppendInt
    ∷ instance (codes "append") (codes "(J)Ljava/lang/StringBuilder;") natives.BuilderAppendLong
    ∷ instance (codes "append") (codes "(Z)Ljava/lang/StringBuilder;") natives.BuilderAppendBoolean
    ∷ instance (codes "length") (codes "()I") natives.BuilderLength
    ∷ instance (codes "charAt") (codes "(I)C") natives.BuilderCharAt
    ∷ instance (codes "toString") (codes "()Ljava/lang/String;") natives.BuilderToString
    ∷ [])
    ∷ row (codes "java/lang/StringIndexOutOfBoundsException") 33 (Some (codes "java/lang/IndexOutOfBoundsException")) ([]) 0
    (instance (codes "<init>") (codes "()V") natives.ThrowableNew
    ∷ instance (codes "<init>") (codes "(Ljava/lang/String;)V") natives.ThrowableNewMessage
    ∷ [])
    ∷ row (codes "java/lang/System") 49 (Some (codes "java/lang/Object")) ([]) 0
    (static (codes "identityHashCode") (codes "(Ljava/lang/Object;)I") natives.IdentityHashCode
    ∷ static (codes "arraycopy") (codes "(Ljava/lang/Object;ILjava/lang/Object;II)V") natives.ArrayCopy
    ∷ [])
    ∷ row (codes "java/lang/Throwable") 33 (Some (codes "java/lang/Object")) (codes "java/io/Serializable" ∷ []) 2
    (instance (codes "<init>") (codes "()V") natives.ThrowableNew
    ∷ instance (codes "<init>") (codes "(Ljava/lang/String;)V") natives.ThrowableNewMessage
    ∷ instance (codes "<init>") (codes "(Ljava/lang/String;Ljava/lang/Throwable;)V") natives.ThrowableNewCause
    ∷ instance (codes "getMessage") (codes "()Ljava/lang/String;") natives.GetMessage
    ∷ instance (codes "getCause") (codes "()Ljava/lang/Throwable;") natives.GetCause
    ∷ [])
    ∷ row (codes "java/lang/UnsupportedOperationException") 33 (Some (codes "java/lang/RuntimeException")) ([]) 0
    (instance (codes "<init>") (codes "()V") natives.ThrowableNew
    ∷ instance (codes "<init>") (codes "(Ljava/lang/String;)V") natives.ThrowableNewMessage
    ∷ instance (codes "<init>") (codes "(Ljava/lang/String;Ljava/lang/Throwable;)V") natives.ThrowableNewCause
    ∷ [])
    ∷ []
deterministic_rows = refl

-- the raw library, in the order of the classes' names
raw_rows : map class_row (library_program raw_library)
    ≡ row (codes "java/io/Serializable") 1537 (Some (codes "java/lang/Object")) ([]) 0
    ([])
    ∷ row (codes "java/lang/ArithmeticException") 33 (Some (codes "java/lang/RuntimeException")) ([]) 0
    (instance (codes "<init>") (codes "()V") natives.ThrowableNew
    ∷ instance (codes "<init>") (codes "(Ljava/lang/String;)V") natives.ThrowableNewMessage
    ∷ [])
    ∷ row (codes "java/lang/ArrayIndexOutOfBoundsException") 33 (Some (codes "java/lang/IndexOutOfBoundsException")) ([]) 0
    (instance (codes "<init>") (codes "()V") natives.ThrowableNew
    ∷ instance (codes "<init>") (codes "(Ljava/lang/String;)V") natives.ThrowableNewMessage
    ∷ [])
    ∷ row (codes "java/lang/ArrayStoreException") 33 (Some (codes "java/lang/RuntimeException")) ([]) 0
    (instance (codes "<init>") (codes "()V") natives.ThrowableNew
    ∷ instance (codes "<init>") (codes "(Ljava/lang/String;)V") natives.ThrowableNewMessage
    ∷ [])
    ∷ row (codes "java/lang/CharSequence") 1537 (Some (codes "java/lang/Object")) ([]) 0
    (abstract (codes "length") (codes "()I")
    ∷ abstract (codes "charAt") (codes "(I)C")
    ∷ abstract (codes "toString") (codes "()Ljava/lang/String;")
    ∷ [])
    ∷ row (codes "java/lang/ClassCastException") 33 (Some (codes "java/lang/RuntimeException")) ([]) 0
    (instance (codes "<init>") (codes "()V") natives.ThrowableNew
    ∷ instance (codes "<init>") (codes "(Ljava/lang/String;)V") natives.ThrowableNewMessage
    ∷ [])
    ∷ row (codes "java/lang/Cloneable") 1537 (Some (codes "java/lang/Object")) ([]) 0
    ([])
    ∷ row (codes "java/lang/Comparable") 1537 (Some (codes "java/lang/Object")) ([]) 0
    (abstract (codes "compareTo") (codes "(Ljava/lang/Object;)I")
    ∷ [])
    ∷ row (codes "java/lang/Error") 33 (Some (codes "java/lang/Throwable")) ([]) 0
    (instance (codes "<init>") (codes "()V") natives.ThrowableNew
    ∷ instance (codes "<init>") (codes "(Ljava/lang/String;)V") natives.ThrowableNewMessage
    ∷ instance (codes "<init>") (codes "(Ljava/lang/String;Ljava/lang/Throwable;)V") natives.ThrowableNewCause
    ∷ [])
    ∷ row (codes "java/lang/Exception") 33 (Some (codes "java/lang/Throwable")) ([]) 0
    (instance (codes "<init>") (codes "()V") natives.ThrowableNew
    ∷ instance (codes "<init>") (codes "(Ljava/lang/String;)V") natives.ThrowableNewMessage
    ∷ instance (codes "<init>") (codes "(Ljava/lang/String;Ljava/lang/Throwable;)V") natives.ThrowableNewCause
    ∷ [])
    ∷ row (codes "java/lang/IllegalArgumentException") 33 (Some (codes "java/lang/RuntimeException")) ([]) 0
    (instance (codes "<init>") (codes "()V") natives.ThrowableNew
    ∷ instance (codes "<init>") (codes "(Ljava/lang/String;)V") natives.ThrowableNewMessage
    ∷ instance (codes "<init>") (codes "(Ljava/lang/String;Ljava/lang/Throwable;)V") natives.ThrowableNewCause
    ∷ [])
    ∷ row (codes "java/lang/IllegalStateException") 33 (Some (codes "java/lang/RuntimeException")) ([]) 0
    (instance (codes "<init>") (codes "()V") natives.ThrowableNew
    ∷ instance (codes "<init>") (codes "(Ljava/lang/String;)V") natives.ThrowableNewMessage
    ∷ instance (codes "<init>") (codes "(Ljava/lang/String;Ljava/lang/Throwable;)V") natives.ThrowableNewCause
    ∷ [])
    ∷ row (codes "java/lang/IndexOutOfBoundsException") 33 (Some (codes "java/lang/RuntimeException")) ([]) 0
    (instance (codes "<init>") (codes "()V") natives.ThrowableNew
    ∷ instance (codes "<init>") (codes "(Ljava/lang/String;)V") natives.ThrowableNewMessage
    ∷ [])
    ∷ row (codes "java/lang/Math") 49 (Some (codes "java/lang/Object")) ([]) 0
    (static (codes "abs") (codes "(I)I") natives.AbsInt
    ∷ static (codes "abs") (codes "(J)J") natives.AbsLong
    ∷ static (codes "max") (codes "(II)I") natives.MaxInts
    ∷ static (codes "max") (codes "(JJ)J") natives.MaxLongs
    ∷ static (codes "min") (codes "(II)I") natives.MinInts
    ∷ static (codes "min") (codes "(JJ)J") natives.MinLongs
    ∷ [])
    ∷ row (codes "java/lang/NegativeArraySizeException") 33 (Some (codes "java/lang/RuntimeException")) ([]) 0
    (instance (codes "<init>") (codes "()V") natives.ThrowableNew
    ∷ instance (codes "<init>") (codes "(Ljava/lang/String;)V") natives.ThrowableNewMessage
    ∷ [])
    ∷ row (codes "java/lang/NullPointerException") 33 (Some (codes "java/lang/RuntimeException")) ([]) 0
    (instance (codes "<init>") (codes "()V") natives.ThrowableNew
    ∷ instance (codes "<init>") (codes "(Ljava/lang/String;)V") natives.ThrowableNewMessage
    ∷ [])
    ∷ row (codes "java/lang/Object") 33 (None) ([]) 0
    (instance (codes "<init>") (codes "()V") natives.ObjectNew
    ∷ instance (codes "equals") (codes "(Ljava/lang/Object;)Z") natives.ObjectEquals
    ∷ instance (codes "hashCode") (codes "()I") natives.HostHashCode
    ∷ instance (codes "toString") (codes "()Ljava/lang/String;") natives.HostToString
    ∷ [])
    ∷ row (codes "java/lang/Runnable") 1537 (Some (codes "java/lang/Object")) ([]) 0
    (abstract (codes "run") (codes "()V")
    ∷ [])
    ∷ row (codes "java/lang/RuntimeException") 33 (Some (codes "java/lang/Exception")) ([]) 0
    (instance (codes "<init>") (codes "()V") natives.ThrowableNew
    ∷ instance (codes "<init>") (codes "(Ljava/lang/String;)V") natives.ThrowableNewMessage
    ∷ instance (codes "<init>") (codes "(Ljava/lang/String;Ljava/lang/Throwable;)V") natives.ThrowableNewCause
    ∷ [])
    ∷ row (codes "java/lang/String") 49 (Some (codes "java/lang/Object")) (codes "java/lang/Comparable" ∷ codes "java/lang/CharSequence" ∷ []) 0
    (instance (codes "length") (codes "()I") natives.StringLength
    ∷ instance (codes "isEmpty") (codes "()Z") natives.StringIsEmpty
    ∷ instance (codes "toString") (codes "()Ljava/lang/String;") natives.StringToString
    ∷ instance (codes "charAt") (codes "(I)C") natives.StringCharAt
    ∷ instance (codes "equals") (codes "(Ljava/lang/Object;)Z") natives.StringEquals
    ∷ instance (codes "hashCode") (codes "()I") natives.StringHashCode
    ∷ instance (codes "compareTo") (codes "(Ljava/lang/String;)I") natives.StringCompareTo
    ∷ instance (codes "compareTo") (codes "(Ljava/lang/Object;)I") natives.StringCompareToObject
    ∷ instance (codes "startsWith") (codes "(Ljava/lang/String;)Z") natives.StringStartsWith
    ∷ instance (codes "concat") (codes "(Ljava/lang/String;)Ljava/lang/String;") natives.StringConcat
    ∷ instance (codes "substring") (codes "(I)Ljava/lang/String;") natives.StringSubstringFrom
    ∷ instance (codes "substring") (codes "(II)Ljava/lang/String;") natives.StringSubstring
    ∷ instance (codes "toCharArray") (codes "()[C") natives.StringToCharArray
    ∷ static (codes "valueOf") (codes "([C)Ljava/lang/String;") natives.StringValueOfChars
    ∷ static (codes "valueOf") (codes "(C)Ljava/lang/String;") natives.StringValueOfChar
    ∷ static (codes "valueOf") (codes "(I)Ljava/lang/String;") natives.StringValueOfInt
    ∷ static (codes "valueOf") (codes "(J)Ljava/lang/String;") natives.StringValueOfLong
    ∷ static (codes "valueOf") (codes "(Z)Ljava/lang/String;") natives.StringValueOfBoolean
    ∷ [])
    ∷ row (codes "java/lang/StringBuilder") 49 (Some (codes "java/lang/Object")) (codes "java/lang/CharSequence" ∷ []) 1
    (instance (codes "<init>") (codes "()V") natives.BuilderNew
    ∷ instance (codes "<init>") (codes "(Ljava/lang/String;)V") natives.BuilderNewText
    ∷ instance (codes "append") (codes "(Ljava/lang/String;)Ljava/lang/StringBuilder;") natives.BuilderAppendText
    ∷ instance (codes "append") (codes "(C)Ljava/lang/StringBuilder;") natives.BuilderAppendChar
    ∷ instance (codes "append") (codes "(I)Ljava/lang/StringBuilder;") natives.BuilderAppendInt
    ∷ instance (codes "append") (codes "(J)Ljava/lang/StringBuilder;") natives.BuilderAppendLong
    ∷ instance (codes "append") (codes "(Z)Ljava/lang/StringBuilder;") natives.BuilderAppendBoolean
    ∷ instance (codes "length") (codes "()I") natives.BuilderLength
    ∷ instance (codes "charAt") (codes "(I)C") natives.BuilderCharAt
    ∷ instance (codes "toString") (codes "()Ljava/lang/String;") natives.BuilderToString
    ∷ [])
    ∷ row (codes "java/lang/StringIndexOutOfBoundsException") 33 (Some (codes "java/lang/IndexOutOfBoundsException")) ([]) 0
    (instance (codes "<init>") (codes "()V") natives.ThrowableNew
    ∷ instance (codes "<init>") (codes "(Ljava/lang/String;)V") natives.ThrowableNewMessage
    ∷ [])
    ∷ row (codes "java/lang/System") 49 (Some (codes "java/lang/Object")) ([]) 0
    (static (codes "identityHashCode") (codes "(Ljava/lang/Object;)I") natives.HostIdentityHashCode
    ∷ static (codes "arraycopy") (codes "(Ljava/lang/Object;ILjava/lang/Object;II)V") natives.ArrayCopy
    ∷ static (codes "nanoTime") (codes "()J") natives.NanoTime
    ∷ static (codes "currentTimeMillis") (codes "()J") natives.CurrentTimeMillis
    ∷ [])
    ∷ row (codes "java/lang/Throwable") 33 (Some (codes "java/lang/Object")) (codes "java/io/Serializable" ∷ []) 2
    (instance (codes "<init>") (codes "()V") natives.ThrowableNew
    ∷ instance (codes "<init>") (codes "(Ljava/lang/String;)V") natives.ThrowableNewMessage
    ∷ instance (codes "<init>") (codes "(Ljava/lang/String;Ljava/lang/Throwable;)V") natives.ThrowableNewCause
    ∷ instance (codes "getMessage") (codes "()Ljava/lang/String;") natives.GetMessage
    ∷ instance (codes "getCause") (codes "()Ljava/lang/Throwable;") natives.GetCause
    ∷ [])
    ∷ row (codes "java/lang/UnsupportedOperationException") 33 (Some (codes "java/lang/RuntimeException")) ([]) 0
    (instance (codes "<init>") (codes "()V") natives.ThrowableNew
    ∷ instance (codes "<init>") (codes "(Ljava/lang/String;)V") natives.ThrowableNewMessage
    ∷ instance (codes "<init>") (codes "(Ljava/lang/String;Ljava/lang/Throwable;)V") natives.ThrowableNewCause
    ∷ [])
    ∷ []
raw_rows = refl

-- the library of rewritten classes, in the order of the classes' names
sandbox_rows : map class_row (library_program sandbox_library)
    ≡ row (codes "djvm/Accounter") 33 (Some (codes "sandbox/java/lang/Object")) ([]) 0
    (static (codes "recordJump") (codes "()V") natives.RecordJump
    ∷ static (codes "recordInvocation") (codes "()V") natives.RecordInvocation
    ∷ static (codes "recordThrow") (codes "()V") natives.RecordThrow
    ∷ static (codes "recordAllocation") (codes "(I)V") natives.RecordAllocation
    ∷ static (codes "recordArray") (codes "(II)V") natives.RecordArray
    ∷ static (codes "checkCatch") (codes "(Lsandbox/java/lang/Object;)V") natives.CheckCatch
    ∷ [])
    ∷ row (codes "djvm/Stop") 33 (Some (codes "sandbox/java/lang/Object")) ([]) 0
    ([])
    ∷ row (codes "sandbox/java/io/Serializable") 1537 (Some (codes "sandbox/java/lang/Object")) ([]) 0
    ([])
    ∷ row (codes "sandbox/java/lang/ArithmeticException") 33 (Some (codes "sandbox/java/lang/RuntimeException")) ([]) 0
    (instance (codes "<init>") (codes "()V") natives.ThrowableNew
    ∷ instance (codes "<init>") (codes "(Lsandbox/java/lang/String;)V") natives.ThrowableNewMessage
    ∷ [])
    ∷ row (codes "sandbox/java/lang/ArrayIndexOutOfBoundsException") 33 (Some (codes "sandbox/java/lang/IndexOutOfBoundsException")) ([]) 0
    (instance (codes "<init>") (codes "()V") natives.ThrowableNew
    ∷ instance (codes "<init>") (codes "(Lsandbox/java/lang/String;)V") natives.ThrowableNewMessage
    ∷ [])
    ∷ row (codes "sandbox/java/lang/ArrayStoreException") 33 (Some (codes "sandbox/java/lang/RuntimeException")) ([]) 0
    (instance (codes "<init>") (codes "()V") natives.ThrowableNew
    ∷ instance (codes "<init>") (codes "(Lsandbox/java/lang/String;)V") natives.ThrowableNewMessage
    ∷ [])
    ∷ row (codes "sandbox/java/lang/CharSequence") 1537 (Some (codes "sandbox/java/lang/Object")) ([]) 0
    (abstract (codes "length") (codes "()I")
    ∷ abstract (codes "charAt") (codes "(I)C")
    ∷ abstract (codes "toString") (codes "()Lsandbox/java/lang/String;")
    ∷ [])
    ∷ row (codes "sandbox/java/lang/ClassCastException") 33 (Some (codes "sandbox/java/lang/RuntimeException")) ([]) 0
    (instance (codes "<init>") (codes "()V") natives.ThrowableNew
    ∷ instance (codes "<init>") (codes "(Lsandbox/java/lang/String;)V") natives.ThrowableNewMessage
    ∷ [])
    ∷ row (codes "sandbox/java/lang/Cloneable") 1537 (Some (codes "sandbox/java/lang/Object")) ([]) 0
    ([])
    ∷ row (codes "sandbox/java/lang/Comparable") 1537 (Some (codes "sandbox/java/lang/Object")) ([]) 0
    (abstract (codes "compareTo") (codes "(Lsandbox/java/lang/Object;)I")
    ∷ [])
    ∷ row (codes "sandbox/java/lang/Error") 33 (Some (codes "sandbox/java/lang/Throwable")) ([]) 0
    (instance (codes "<init>") (codes "()V") natives.ThrowableNew
    ∷ instance (codes "<init>") (codes "(Lsandbox/java/lang/String;)V") natives.ThrowableNewMessage
    ∷ instance (codes "<init>") (codes "(Lsandbox/java/lang/String;Lsandbox/java/lang/Throwable;)V") natives.ThrowableNewCause
    ∷ [])
    ∷ row (codes "sandbox/java/lang/Exception") 33 (Some (codes "sandbox/java/lang/Throwable")) ([]) 0
    (instance (codes "<init>") (codes "()V") natives.ThrowableNew
    ∷ instance (codes "<init>") (codes "(Lsandbox/java/lang/String;)V") natives.ThrowableNewMessage
    ∷ instance (codes "<init>") (codes "(Lsandbox/java/lang/String;Lsandbox/java/lang/Throwable;)V") natives.ThrowableNewCause
    ∷ [])
    ∷ row (codes "sandbox/java/lang/IllegalArgumentException") 33 (Some (codes "sandbox/java/lang/RuntimeException")) ([]) 0
    (instance (codes "<init>") (codes "()V") natives.ThrowableNew
    ∷ instance (codes "<init>") (codes "(Lsandbox/java/lang/String;)V") natives.ThrowableNewMessage
    ∷ instance (codes "<init>") (codes "(Lsandbox/java/lang/String;Lsandbox/java/lang/Throwable;)V") natives.ThrowableNewCause
    ∷ [])
    ∷ row (codes "sandbox/java/lang/IllegalStateException") 33 (Some (codes "sandbox/java/lang/RuntimeException")) ([]) 0
    (instance (codes "<init>") (codes "()V") natives.ThrowableNew
    ∷ instance (codes "<init>") (codes "(Lsandbox/java/lang/String;)V") natives.ThrowableNewMessage
    ∷ instance (codes "<init>") (codes "(Lsandbox/java/lang/String;Lsandbox/java/lang/Throwable;)V") natives.ThrowableNewCause
    ∷ [])
    ∷ row (codes "sandbox/java/lang/IndexOutOfBoundsException") 33 (Some (codes "sandbox/java/lang/RuntimeException")) ([]) 0
    (instance (codes "<init>") (codes "()V") natives.ThrowableNew
    ∷ instance (codes "<init>") (codes "(Lsandbox/java/lang/String;)V") natives.ThrowableNewMessage
    ∷ [])
    ∷ row (codes "sandbox/java/lang/Math") 49 (Some (codes "sandbox/java/lang/Object")) ([]) 0
    (static (codes "abs") (codes "(I)I") natives.AbsInt
    ∷ static (codes "abs") (codes "(J)J") natives.AbsLong
    ∷ static (codes "max") (codes "(II)I") natives.MaxInts
    ∷ static (codes "max") (codes "(JJ)J") natives.MaxLongs
    ∷ static (codes "min") (codes "(II)I") natives.MinInts
    ∷ static (codes "min") (codes "(JJ)J") natives.MinLongs
    ∷ [])
    ∷ row (codes "sandbox/java/lang/NegativeArraySizeException") 33 (Some (codes "sandbox/java/lang/RuntimeException")) ([]) 0
    (instance (codes "<init>") (codes "()V") natives.ThrowableNew
    ∷ instance (codes "<init>") (codes "(Lsandbox/java/lang/String;)V") natives.ThrowableNewMessage
    ∷ [])
    ∷ row (codes "sandbox/java/lang/NullPointerException") 33 (Some (codes "sandbox/java/lang/RuntimeException")) ([]) 0
    (instance (codes "<init>") (codes "()V") natives.ThrowableNew
    ∷ instance (codes "<init>") (codes "(Lsandbox/java/lang/String;)V") natives.ThrowableNewMessage
    ∷ [])
    ∷ row (codes "sandbox/java/lang/Object") 33 (None) ([]) 0
    (instance (codes "<init>") (codes "()V") natives.ObjectNew
    ∷ instance (codes "equals") (codes "(Lsandbox/java/lang/Object;)Z") natives.ObjectEquals
    ∷ instance (codes "hashCode") (codes "()I") natives.ObjectHashCode
    ∷ instance (codes "toString") (codes "()Lsandbox/java/lang/String;") natives.ObjectToString
    ∷ [])
    ∷ row (codes "sandbox/java/lang/Runnable") 1537 (Some (codes "sandbox/java/lang/Object")) ([]) 0
    (abstract (codes "run") (codes "()V")
    ∷ [])
    ∷ row (codes "sandbox/java/lang/RuntimeException") 33 (Some (codes "sandbox/java/lang/Exception")) ([]) 0
    (instance (codes "<init>") (codes "()V") natives.ThrowableNew
    ∷ instance (codes "<init>") (codes "(Lsandbox/java/lang/String;)V") natives.ThrowableNewMessage
    ∷ instance (codes "<init>") (codes "(Lsandbox/java/lang/String;Lsandbox/java/lang/Throwable;)V") natives.ThrowableNewCause
    ∷ [])
    ∷ row (codes "sandbox/java/lang/String") 49 (Some (codes "sandbox/java/lang/Object")) (codes "sandbox/java/lang/Comparable" ∷ codes "sandbox/java/lang/CharSequence" ∷ []) 0
    (instance (codes "length") (codes "()I") natives.StringLength
    ∷ instance (codes "isEmpty") (codes "()Z") natives.StringIsEmpty
    ∷ instance (codes "toString") (codes "()Lsandbox/java/lang/String;") natives.StringToString
    ∷ instance (codes "charAt") (codes "(I)C") natives.StringCharAt
    ∷ instance (codes "equals") (codes "(Lsandbox/java/lang/Object;)Z") natives.StringEquals
    ∷ instance (codes "hashCode") (codes "()I") natives.StringHashCode
    ∷ instance (codes "compareTo") (codes "(Lsandbox/java/lang/String;)I") natives.StringCompareTo
    ∷ instance (codes "compareTo") (codes "(Lsandbox/java/lang/Object;)I") natives.StringCompareToObject
    ∷ instance (codes "startsWith") (codes "(Lsandbox/java/lang/String;)Z") natives.StringStartsWith
    ∷ instance (codes "concat") (codes "(Lsandbox/java/lang/String;)Lsandbox/java/lang/String;") natives.StringConcat
    ∷ instance (codes "substring") (codes "(I)Lsandbox/java/lang/String;") natives.StringSubstringFrom
    ∷ instance (codes "substring") (codes "(II)Lsandbox/java/lang/String;") natives.StringSubstring
    ∷ instance (codes "toCharArray") (codes "()[C") natives.StringToCharArray
    ∷ static (codes "valueOf") (codes "([C)Lsandbox/java/lang/String;") natives.StringValueOfChars
    ∷ static (codes "valueOf") (codes "(C)Lsandbox/java/lang/String;") natives.StringValueOfChar
    ∷ static (codes "valueOf") (codes "(I)Lsandbox/java/lang/String;") natives.StringValueOfInt
    ∷ static (codes "valueOf") (codes "(J)Lsandbox/java/lang/String;") natives.StringValueOfLong
    ∷ static (codes "valueOf") (codes "(Z)Lsandbox/java/lang/String;") natives.StringValueOfBoolean
    ∷ [])
    ∷ row (codes "sandbox/java/lang/StringBuilder") 49 (Some (codes "sandbox/java/lang/Object")) (codes "sandbox/java/lang/CharSequence" ∷ []) 1
    (instance (codes "<init>") (codes "()V") natives.BuilderNew
    ∷ instance (codes "<init>") (codes "(Lsandbox/java/lang/String;)V") natives.BuilderNewText
    ∷ instance (codes "append") (codes "(Lsandbox/java/lang/String;)Lsandbox/java/lang/StringBuilder;") natives.BuilderAppendText
    ∷ instance (codes "append") (codes "(C)Lsandbox/java/lang/StringBuilder;") natives.BuilderAppendChar
    ∷ instance (codes "append") (codes "(I)Lsandbox/java/lang/StringBuilder;") natives.BuilderAppendInt
    ∷ instance (codes "append") (codes "(J)Lsandbox/java/lang/StringBuilder;") natives.BuilderAppendLong
    ∷ instance (codes "append") (codes "(Z)Lsandbox/java/lang/StringBuilder;") natives.BuilderAppendBoolean
    ∷ instance (codes "length") (codes "()I") natives.BuilderLength
    ∷ instance (codes "charAt") (codes "(I)C") natives.BuilderCharAt
    ∷ instance (codes "toString") (codes "()Lsandbox/java/lang/String;") natives.BuilderToString
    ∷ [])
    ∷ row (codes "sandbox/java/lang/StringIndexOutOfBoundsException") 33 (Some (codes "sandbox/java/lang/IndexOutOfBoundsException")) ([]) 0
    (instance (codes "<init>") (codes "()V") natives.ThrowableNew
    ∷ instance (codes "<init>") (codes "(Lsandbox/java/lang/String;)V") natives.ThrowableNewMessage
    ∷ [])
    ∷ row (codes "sandbox/java/lang/System") 49 (Some (codes "sandbox/java/lang/Object")) ([]) 0
    (static (codes "identityHashCode") (codes "(Lsandbox/java/lang/Object;)I") natives.IdentityHashCode
    ∷ static (codes "arraycopy") (codes "(Lsandbox/java/lang/Object;ILsandbox/java/lang/Object;II)V") natives.ArrayCopy
    ∷ [])
    ∷ row (codes "sandbox/java/lang/Throwable") 33 (Some (codes "sandbox/java/lang/Object")) (codes "sandbox/java/io/Serializable" ∷ []) 2
    (instance (codes "<init>") (codes "()V") natives.ThrowableNew
    ∷ instance (codes "<init>") (codes "(Lsandbox/java/lang/String;)V") natives.ThrowableNewMessage
    ∷ instance (codes "<init>") (codes "(Lsandbox/java/lang/String;Lsandbox/java/lang/Throwable;)V") natives.ThrowableNewCause
    ∷ instance (codes "getMessage") (codes "()Lsandbox/java/lang/String;") natives.GetMessage
    ∷ instance (codes "getCause") (codes "()Lsandbox/java/lang/Throwable;") natives.GetCause
    ∷ [])
    ∷ row (codes "sandbox/java/lang/UnsupportedOperationException") 33 (Some (codes "sandbox/java/lang/RuntimeException")) ([]) 0
    (instance (codes "<init>") (codes "()V") natives.ThrowableNew
    ∷ instance (codes "<init>") (codes "(Lsandbox/java/lang/String;)V") natives.ThrowableNewMessage
    ∷ instance (codes "<init>") (codes "(Lsandbox/java/lang/String;Lsandbox/java/lang/Throwable;)V") natives.ThrowableNewCause
    ∷ [])
    ∷ []
sandbox_rows = refl
