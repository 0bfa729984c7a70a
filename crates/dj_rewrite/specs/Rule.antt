-- Rule 21, TOO_LARGE: what of a rewritten class doesn't fit a class file.
use Rattle.std.specs.Prelude.{◌≡◌, ◌⊎◌, List, [], ◌++◌, codes, Contains, None}
use Rattle.std.specs.Char.Utf16.{utf16_lossy_chars}
use Rattle.std.specs.Str.{encode_utf8_all}
use Rattle.dj_names.specs.trusted.Types.{Name}
use Rattle.dj_report.specs.declared.report.Violation.{Violation}
use Rattle.dj_pool.specs.trusted.Pool.{Constant}
use Rattle.dj_class.specs.trusted.ClassFile.{MemberInfo, ClassFile}
use Rattle.dj_class.specs.trusted.Names.{this_name}
use Rattle.dj_declarations.specs.trusted.Files.{name_in}
use Rattle.dj_model.specs.trusted.Program.{Program}
use Rattle.dj_program.specs.trusted.Naming.{units_in}
use Rattle.dj_rewritten.specs.TooLarge.{IsTooLargeMethod, IsTooLargeClass}

-- a member's name, followed by its descriptor
abbrev pub member_text : List Constant → MemberInfo → Name
member_text pool m = name_in pool m.name ++ name_in pool m.desc

-- the class is too large, where the text is empty, or its method of this text is
abbrev pub IsTooLargeIn : Program → ClassFile → Name → Type 0
IsTooLargeIn program c member =
    (IsTooLargeClass program c × (member ≡ []))
    ⊎ ((m : MemberInfo) × Contains c.methods m × IsTooLargeMethod program c m × (member ≡ member_text c.pool m))

-- the characters of the class's name, and .class
abbrev pub file_path : Name → Name
file_path class = encode_utf8_all (utf16_lossy_chars (units_in class)) ++ codes ".class"

-- the line of a class, or of its member of this text
abbrev pub line_of : ClassFile → Name → Violation
line_of c member = record { path = file_path (this_name c); member = member; number = None; rule = 21 }

abbrev pub IsTooLargeLineIn : Program → ClassFile → Violation → Type 0
IsTooLargeLineIn program c v = (member : Name) × IsTooLargeIn program c member × (v ≡ line_of c member)

abbrev pub IsTooLargeLine : Program → List ClassFile → Violation → Type 0
IsTooLargeLine program files v = (c : ClassFile) × Contains files c × IsTooLargeLineIn program c v
