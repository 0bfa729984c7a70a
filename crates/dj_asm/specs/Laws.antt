-- Laws of texts: what they mean, and where they mean nothing.
use Rattle.std.specs.Prelude.{◌≡◌, ℕ, ◌≤◌, ◌⊎◌, List, length}
use Rattle.dj_class.specs.trusted.ClassFile.{ClassFile, IsClassFile}
use Rattle.dj_asm_source.specs.declared.error.AsmError.{AsmError}
use Rattle.dj_asm.specs.trusted.Texts.{IsTextOfBytes, TextFault}

-- a text means at most one file
abbrev pub OneFile : Type 0
OneFile = (text b c : List ℕ) → IsTextOfBytes text b → IsTextOfBytes text c → b ≡ c

-- it has at most one first fault
abbrev pub OneFault : Type 0
OneFault = (text : List ℕ) (e f : AsmError) → TextFault text e → TextFault text f → e ≡ f

-- where it has a fault it means no file
abbrev pub NoFileWhereFault : Type 0
NoFileWhereFault = (text bytes : List ℕ) (e : AsmError) → IsTextOfBytes text bytes → TextFault text e → ⊥

-- it means a file, or has a first fault
abbrev pub FileOrFault : Type 0
FileOrFault = (text : List ℕ) → ((bytes : List ℕ) × IsTextOfBytes text bytes) ⊎ ((e : AsmError) × TextFault text e)

-- what it means is a class file (JVMS 4.1)
abbrev pub MeansClassFile : Type 0
MeansClassFile = (text bytes : List ℕ) → length text ≤ 4294967294 → IsTextOfBytes text bytes → (c : ClassFile) × IsClassFile bytes c
