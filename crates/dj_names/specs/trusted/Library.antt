-- The classes of the three libraries. Each method of theirs is native, or abstract.
use Rattle.std.specs.Prelude.{ℕ, List, [], ◌∷◌, ◌++◌, Option, Some, None, codes}
use Rattle.dj_names.specs.declared.descriptor.Base.TheVariants as bases
use Rattle.dj_names.specs.declared.descriptor.Ty.{Ty}
use Rattle.dj_names.specs.declared.descriptor.Desc.{Desc}
use Rattle.dj_names.specs.declared.descriptor.Desc.TheVariants as descs
use Rattle.dj_names.specs.declared.native.NativeId.{NativeId}
use Rattle.dj_names.specs.declared.native.NativeId.TheVariants as natives
use Rattle.dj_names.specs.trusted.Types.{Name, class_type, array_type, base_type}

-- a method; an abstract one has no native
pub record LibraryMethod : Type 0 where
  pub flags : ℕ
  pub name : Name
  pub desc : Desc
  pub native : Option NativeId

pub record LibraryClass : Type 0 where
  pub name : Name
  pub superclass : Option Name
  pub flags : ℕ
  pub interfaces : List Name
  -- the number of instance fields, which no name reaches
  pub fields : ℕ
  pub methods : List LibraryMethod

abbrev pub Library : Type 0
Library = List LibraryClass

-- ---- types

abbrev pub lang : Name → Name
lang name = codes "java/lang/" ++ name

abbrev pub object_class : Name
object_class = lang (codes "Object")

abbrev pub object : Ty
object = class_type object_class

abbrev pub string : Ty
string = class_type (lang (codes "String"))

abbrev pub builder : Ty
builder = class_type (lang (codes "StringBuilder"))

abbrev pub throwable : Ty
throwable = class_type (lang (codes "Throwable"))

abbrev pub boolean : Ty
boolean = base_type bases.Boolean

abbrev pub char : Ty
char = base_type bases.Char

abbrev pub int : Ty
int = base_type bases.Int

abbrev pub long : Ty
long = base_type bases.Long

-- ---- methods (JVMS table 4.6-A: public 1, static 8, native 256, abstract 1024)

-- a method on an object, with these parameters and this result
abbrev pub on_object : Name → List Ty → Ty → NativeId → LibraryMethod
on_object name params ret id = record { flags = 257; name = name; desc = descs.Method params (Some ret); native = Some id }

abbrev pub static : Name → List Ty → Ty → NativeId → LibraryMethod
static name params ret id = record (on_object name params ret id) { flags = 265 }

abbrev pub static_void : Name → List Ty → NativeId → LibraryMethod
static_void name params id = record { flags = 265; name = name; desc = descs.Method params None; native = Some id }

abbrev pub constructor : List Ty → NativeId → LibraryMethod
constructor params id = record { flags = 257; name = codes "<init>"; desc = descs.Method params None; native = Some id }

abbrev pub abstract : Name → List Ty → Option Ty → LibraryMethod
abstract name params ret = record { flags = 1025; name = name; desc = descs.Method params ret; native = None }

-- ---- classes (JVMS table 4.1-A: public 1, final 16, super 32, interface 512, abstract 1024)

abbrev pub library_class : Name → ℕ → List Name → ℕ → List LibraryMethod → LibraryClass
library_class name flags interfaces fields methods = record {
  name = name;
  superclass = Some object_class;
  flags = flags;
  interfaces = interfaces;
  fields = fields;
  methods = methods;
}

abbrev pub final_class : Name → List Name → ℕ → List LibraryMethod → LibraryClass
final_class name interfaces fields methods = library_class (lang name) 49 interfaces fields methods

abbrev pub interface : Name → List LibraryMethod → LibraryClass
interface name methods = library_class name 1537 [] 0 methods

-- ---- Object, and what differs where a host answers

abbrev pub object_methods : NativeId → NativeId → List LibraryMethod
object_methods hash text =
    constructor [] natives.ObjectNew
    ∷ on_object (codes "equals") (object ∷ []) boolean natives.ObjectEquals
    ∷ on_object (codes "hashCode") [] int hash
    ∷ on_object (codes "toString") [] string text
    ∷ []

abbrev pub object_row : NativeId → NativeId → LibraryClass
object_row hash text = record (library_class object_class 33 [] 0 (object_methods hash text)) { superclass = None }

abbrev pub copy_method : LibraryMethod
copy_method = static_void (codes "arraycopy") (object ∷ int ∷ object ∷ int ∷ int ∷ []) natives.ArrayCopy

abbrev pub system_row : NativeId → List LibraryMethod → LibraryClass
system_row hash more =
    final_class (codes "System") [] 0 (static (codes "identityHashCode") (object ∷ []) int hash ∷ copy_method ∷ more)

abbrev pub clocks : List LibraryMethod
clocks = static (codes "nanoTime") [] long natives.NanoTime ∷ static (codes "currentTimeMillis") [] long natives.CurrentTimeMillis ∷ []

-- ---- texts and numbers

abbrev pub string_methods : List LibraryMethod
string_methods =
    on_object (codes "length") [] int natives.StringLength
    ∷ on_object (codes "isEmpty") [] boolean natives.StringIsEmpty
    ∷ on_object (codes "toString") [] string natives.StringToString
    ∷ on_object (codes "charAt") (int ∷ []) char natives.StringCharAt
    ∷ on_object (codes "equals") (object ∷ []) boolean natives.StringEquals
    ∷ on_object (codes "hashCode") [] int natives.StringHashCode
    ∷ on_object (codes "compareTo") (string ∷ []) int natives.StringCompareTo
    ∷ on_object (codes "compareTo") (object ∷ []) int natives.StringCompareToObject
    ∷ on_object (codes "startsWith") (string ∷ []) boolean natives.StringStartsWith
    ∷ on_object (codes "concat") (string ∷ []) string natives.StringConcat
    ∷ on_object (codes "substring") (int ∷ []) string natives.StringSubstringFrom
    ∷ on_object (codes "substring") (int ∷ int ∷ []) string natives.StringSubstring
    ∷ on_object (codes "toCharArray") [] (array_type char) natives.StringToCharArray
    ∷ static (codes "valueOf") (array_type char ∷ []) string natives.StringValueOfChars
    ∷ static (codes "valueOf") (char ∷ []) string natives.StringValueOfChar
    ∷ static (codes "valueOf") (int ∷ []) string natives.StringValueOfInt
    ∷ static (codes "valueOf") (long ∷ []) string natives.StringValueOfLong
    ∷ static (codes "valueOf") (boolean ∷ []) string natives.StringValueOfBoolean
    ∷ []

abbrev pub builder_methods : List LibraryMethod
builder_methods =
    constructor [] natives.BuilderNew
    ∷ constructor (string ∷ []) natives.BuilderNewText
    ∷ on_object (codes "append") (string ∷ []) builder natives.BuilderAppendText
    ∷ on_object (codes "append") (char ∷ []) builder natives.BuilderAppendChar
    ∷ on_object (codes "append") (int ∷ []) builder natives.BuilderAppendInt
    ∷ on_object (codes "append") (long ∷ []) builder natives.BuilderAppendLong
    ∷ on_object (codes "append") (boolean ∷ []) builder natives.BuilderAppendBoolean
    ∷ on_object (codes "length") [] int natives.BuilderLength
    ∷ on_object (codes "charAt") (int ∷ []) char natives.BuilderCharAt
    ∷ on_object (codes "toString") [] string natives.BuilderToString
    ∷ []

abbrev pub math_methods : List LibraryMethod
math_methods =
    static (codes "abs") (int ∷ []) int natives.AbsInt
    ∷ static (codes "abs") (long ∷ []) long natives.AbsLong
    ∷ static (codes "max") (int ∷ int ∷ []) int natives.MaxInts
    ∷ static (codes "max") (long ∷ long ∷ []) long natives.MaxLongs
    ∷ static (codes "min") (int ∷ int ∷ []) int natives.MinInts
    ∷ static (codes "min") (long ∷ long ∷ []) long natives.MinLongs
    ∷ []

abbrev pub text_rows : Library
text_rows =
    final_class (codes "String") (lang (codes "Comparable") ∷ lang (codes "CharSequence") ∷ []) 0 string_methods
    ∷ final_class (codes "StringBuilder") (lang (codes "CharSequence") ∷ []) 1 builder_methods
    ∷ final_class (codes "Math") [] 0 math_methods
    ∷ []

abbrev pub interface_rows : Library
interface_rows =
    interface (lang (codes "Comparable")) (abstract (codes "compareTo") (object ∷ []) (Some int) ∷ [])
    ∷ interface (lang (codes "CharSequence"))
    (abstract (codes "length") [] (Some int) ∷ abstract (codes "charAt") (int ∷ []) (Some char) ∷ abstract (codes "toString") [] (Some string) ∷ [])
    ∷ interface (lang (codes "Runnable")) (abstract (codes "run") [] None ∷ [])
    ∷ interface (lang (codes "Cloneable")) []
    ∷ interface (codes "java/io/Serializable") []
    ∷ []

-- ---- exceptions

abbrev pub throwable_constructors : List LibraryMethod
throwable_constructors = constructor [] natives.ThrowableNew ∷ constructor (string ∷ []) natives.ThrowableNewMessage ∷ []

abbrev pub cause_constructor : LibraryMethod
cause_constructor = constructor (string ∷ throwable ∷ []) natives.ThrowableNewCause

abbrev pub getters : List LibraryMethod
getters = on_object (codes "getMessage") [] string natives.GetMessage ∷ on_object (codes "getCause") [] throwable natives.GetCause ∷ []

-- a class of exceptions below another, which has its fields: the message and the cause
abbrev pub exception : Name → Name → LibraryClass
exception name above = record (library_class (lang name) 33 [] 0 throwable_constructors) { superclass = Some (lang above) }

-- an exception that takes a cause too
abbrev pub caused : Name → Name → LibraryClass
caused name above = record (exception name above) { methods = throwable_constructors ++ cause_constructor ∷ [] }

abbrev pub throwable_row : LibraryClass
throwable_row = library_class (lang (codes "Throwable")) 33 (codes "java/io/Serializable" ∷ []) 2 (throwable_constructors ++ cause_constructor ∷ getters)

abbrev pub exception_rows : Library
exception_rows =
    throwable_row
    ∷ caused (codes "Exception") (codes "Throwable")
    ∷ caused (codes "Error") (codes "Throwable")
    ∷ caused (codes "RuntimeException") (codes "Exception")
    ∷ exception (codes "ArithmeticException") (codes "RuntimeException")
    ∷ exception (codes "ArrayStoreException") (codes "RuntimeException")
    ∷ exception (codes "ClassCastException") (codes "RuntimeException")
    ∷ caused (codes "IllegalArgumentException") (codes "RuntimeException")
    ∷ caused (codes "IllegalStateException") (codes "RuntimeException")
    ∷ exception (codes "IndexOutOfBoundsException") (codes "RuntimeException")
    ∷ exception (codes "NegativeArraySizeException") (codes "RuntimeException")
    ∷ exception (codes "NullPointerException") (codes "RuntimeException")
    ∷ caused (codes "UnsupportedOperationException") (codes "RuntimeException")
    ∷ exception (codes "ArrayIndexOutOfBoundsException") (codes "IndexOutOfBoundsException")
    ∷ exception (codes "StringIndexOutOfBoundsException") (codes "IndexOutOfBoundsException")
    ∷ []

-- ---- the libraries

abbrev pub library_with : NativeId → NativeId → NativeId → List LibraryMethod → Library
library_with hash text identity more =
    object_row hash text ∷ text_rows ++ system_row identity more ∷ interface_rows ++ exception_rows

abbrev pub deterministic_library : Library
deterministic_library = library_with natives.ObjectHashCode natives.ObjectToString natives.IdentityHashCode []

-- the library of `raw`, in which the host answers
abbrev pub raw_library : Library
raw_library = library_with natives.HostHashCode natives.HostToString natives.HostIdentityHashCode clocks

-- the class of the object that stops a run
abbrev pub stop_class : Name
stop_class = codes "djvm/Stop"
