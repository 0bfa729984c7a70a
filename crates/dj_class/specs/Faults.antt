-- Where no class file is: the first fault, in the order in which a class file is read.
use Rattle.std.specs.Prelude.{◌≡◌, ℕ, ◌⊎◌, ⊤, List}
use Rattle.dj_cursor.specs.trusted.Spelling.{u2, u4, table_bytes}
use Rattle.dj_cursor.specs.Reading.{Cursor, start_of}
use Rattle.dj_cursor.specs.Faults.{IsCut, IsDenied, InTurn, InTable, IsLifted, IsLeft, Fits2, Fits4, AreFew}
use Rattle.dj_names.specs.trusted.Names.{IsUnqualifiedName, IsMethodName}
use Rattle.dj_names.specs.trusted.Descriptors.{IsFieldDescriptor, IsMethodDescriptor}
use Rattle.dj_pool.specs.trusted.Pool.{Constant, pool_bytes, NamesText, IsPool}
use Rattle.dj_pool.specs.Faults.{PoolFault}
use Rattle.dj_class.specs.declared.class.ClassError.{ClassError}
use Rattle.dj_class.specs.declared.class.ClassError.TheVariants as errors
use Rattle.dj_class.specs.trusted.ClassFile.{attribute_bytes, member_bytes, NamesClass, AreAttributes, IsAttribute, IsField, IsMethod}

-- what may be wrong where a reader is
abbrev pub Fault : Type 1
Fault = Cursor → ClassError → Type 0

-- ---- items

-- a number of two bytes
abbrev pub Cut2 : Fault
Cut2 = IsCut errors.Cut 2

-- a number of four bytes
abbrev pub Cut4 : Fault
Cut4 = IsCut errors.Cut 4

-- an index that is cut, or that its place does not allow
abbrev pub IndexFault : (ℕ → Type 0) → Fault
IndexFault IsAllowed c e = Cut2 c e ⊎ IsDenied u2 Fits2 IsAllowed errors.Index c e

-- ---- parts

-- JVMS 4.7: the index of a name, a length, and as many bytes
abbrev pub AttributeFault : List Constant → Fault
AttributeFault pool =
    InTurn (IndexFault (NamesText (λ _. ⊤) pool)) u2 (NamesText (λ _. ⊤) pool) (λ name.
    InTurn Cut4 u4 Fits4 (λ len.
    IsCut errors.Cut len))

abbrev pub AttributesFault : List Constant → Fault
AttributesFault pool = InTable errors.Cut attribute_bytes (IsAttribute pool) (AttributeFault pool)

-- JVMS 4.5 and 4.6
abbrev pub MemberFault : (IsName IsDescriptor : List ℕ → Type 0) → List Constant → Fault
MemberFault IsName IsDescriptor pool =
    InTurn Cut2 u2 Fits2 (λ flags.
    InTurn (IndexFault (NamesText IsName pool)) u2 (NamesText IsName pool) (λ name.
    InTurn (IndexFault (NamesText IsDescriptor pool)) u2 (NamesText IsDescriptor pool) (λ desc.
    AttributesFault pool)))

abbrev pub FieldsFault : List Constant → Fault
FieldsFault pool = InTable errors.Cut member_bytes (IsField pool) (MemberFault IsUnqualifiedName IsFieldDescriptor pool)

abbrev pub MethodsFault : List Constant → Fault
MethodsFault pool = InTable errors.Cut member_bytes (IsMethod pool) (MemberFault IsMethodName IsMethodDescriptor pool)

-- ---- the file

-- a number of four bytes that is not CA FE BA BE
abbrev pub MagicFault : Fault
MagicFault c e = Cut4 c e ⊎ IsDenied u4 Fits4 (λ magic. magic ≡ 3405691582) (λ place. errors.Magic) c e

-- the class, or none
abbrev pub NamesSuper : List Constant → ℕ → Type 0
NamesSuper pool index = (index ≡ 0) ⊎ NamesClass pool index

abbrev pub InterfacesFault : List Constant → Fault
InterfacesFault pool = InTable errors.Cut u2 (NamesClass pool) (IndexFault (NamesClass pool))

-- the whole file, item by item (JVMS 4.1)
abbrev pub FileFault : Fault
FileFault =
    InTurn MagicFault u4 (λ magic. magic ≡ 3405691582) (λ magic.
    InTurn Cut2 u2 Fits2 (λ minor.
    InTurn Cut2 u2 Fits2 (λ major.
    InTurn (IsLifted errors.Pool PoolFault) pool_bytes IsPool (λ pool.
    InTurn Cut2 u2 Fits2 (λ flags.
    InTurn (IndexFault (NamesClass pool)) u2 (NamesClass pool) (λ this_class.
    InTurn (IndexFault (NamesSuper pool)) u2 (NamesSuper pool) (λ super_class.
    InTurn (InterfacesFault pool) (table_bytes u2) (AreFew (NamesClass pool)) (λ interfaces.
    InTurn (FieldsFault pool) (table_bytes member_bytes) (AreFew (IsField pool)) (λ fields.
    InTurn (MethodsFault pool) (table_bytes member_bytes) (AreFew (IsMethod pool)) (λ methods.
    InTurn (AttributesFault pool) (table_bytes attribute_bytes) (AreAttributes pool) (λ attributes.
    IsLeft errors.Trailing)))))))))))

-- the first fault of the bytes of a file
abbrev pub IsFault : List ℕ → ClassError → Type 0
IsFault bytes e = FileFault (start_of bytes) e
