-- Reading and writing undo each other.
use Rattle.std.specs.Prelude.{◌≡◌, true, List, ℕ, Result, Ok, Err}
use Rattle.dj_class.specs.declared.class.ClassError.{ClassError}
use Rattle.dj_class.specs.declared.class.ClassView.{ClassView}
use Rattle.dj_class.specs.trusted.ClassFile.{ClassFile, class_bytes, IsValid}
use Rattle.dj_class.specs.Views.{class_of, ReadsClass}
use Rattle.dj_class.specs.Memory.{is_memory}

-- where a view was read from bytes, they are the bytes of its class file
abbrev pub FileOfView : Type 0
FileOfView = (bytes : List ℕ) (view : ClassView) → ReadsClass bytes (Ok view) → class_bytes (class_of view) ≡ bytes

-- the view shows this class file, or memory ran out
abbrev pub GivesBack : ClassFile → Result ClassView ClassError → Type 0
GivesBack c (Ok view) = class_of view ≡ c
GivesBack c (Err e) = is_memory e ≡ true

-- reading the bytes of a valid class file gives it back
abbrev pub ViewOfFile : Type 0
ViewOfFile = (c : ClassFile) → IsValid c → (result : Result ClassView ClassError) → ReadsClass (class_bytes c) result → GivesBack c result
