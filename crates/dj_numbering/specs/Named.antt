-- Members named by texts and by the numbers of these.
use Rattle.std.specs.Prelude.{◌≡◌, ⊤, Option, Some, None, IfSome}
use Rattle.std.specs.Borrow.{Bor}
use Rattle.dj_names.specs.declared.descriptor.Desc.{Desc}
use Rattle.dj_names.specs.trusted.Types.{Name}
use Rattle.dj_model.specs.trusted.Program.{Program}
use Rattle.dj_model.specs.trusted.Linking.{FoundMethod, FoundField}
use Rattle.dj_declarations.specs.Members.{IsDescriptor}
use Rattle.dj_resolution.specs.Directories.{Numbering}
use Rattle.dj_resolution.specs.Numbered.{AreNumbersOf}
use Rattle.dj_numbering.specs.declared.named.MemberName.{MemberName}

-- the directory, where there is one, is of these classes
abbrev pub IsDirectoryOf : Program → Option (Bor Numbering) → Type 0
IsDirectoryOf program None = ⊤
IsDirectoryOf program (Some directory) = directory.now.program ≡ program

-- the numbers are those of the texts, of which the second is a descriptor
abbrev pub IsNumberedBy : Numbering → MemberName → Type 0
IsNumberedBy directory named = AreNumbersOf directory named.name_number named.desc_number named.name.now named.desc.now

-- the same, where there is a directory; without one texts have no numbers
abbrev pub IsNumbered : Option (Bor Numbering) → MemberName → Type 0
IsNumbered None named = IsDescriptor named.desc.now
IsNumbered (Some directory) named = IsNumberedBy directory.now named

-- what is found has this name and this descriptor
abbrev pub IsNamedMethod : Name → Desc → Option FoundMethod → Type 0
IsNamedMethod name desc found = IfSome found (λ f. (f.method.name ≡ name) × (f.method.desc ≡ desc))

abbrev pub IsNamedField : Name → Desc → Option FoundField → Type 0
IsNamedField name desc found = IfSome found (λ f. (f.field.name ≡ name) × (f.field.desc ≡ desc))
