-- The initialisers of classes, by numbers (JVMS 2.9).
use Rattle.std.specs.Prelude.{◌≡◌, ℕ, ◌+◌, ◌<◌, ◌&&◌, Bool, true, false, List, [], ◌∷◌, length, get_or, Option, Some, None, codes, slice_get}
use Rattle.dj_names.specs.trusted.Types.{Name, same_name}
use Rattle.dj_model.specs.trusted.Types.{initialiser_name}
use Rattle.dj_model.specs.trusted.Program.{Code, Runs, code_of, has_code, has_initialiser, initialiser_of, is_static}
use Rattle.dj_model.specs.trusted.Linking.{FoundMethod, declared_of}
use Rattle.dj_stack.specs.Frames.{StackFrame, new_frame}
use Rattle.dj_resolution.specs.Linked.{class_name}
use Rattle.dj_numbering.specs.Members.{all_methods}
use Rattle.dj_image.specs.Imaged.{Imaged, program_of}
use Rattle.dj_initialisation.specs.declared.initialisers.Initialiser.{Initialiser}

-- the class of this name has an initialiser, and it is this method
pub record IsInitialiser (imaged : Imaged) (class : Name) (i : Initialiser) : Type 0 where
  pub has : has_initialiser (program_of imaged) class ≡ true
  pub found : FoundMethod
  pub there : slice_get (all_methods (program_of imaged)) i.method ≡ Some found
  pub is : declared_of found ≡ initialiser_of class
  pub code : Code
  pub runs : found.method.body ≡ Runs code
  pub own : code_of (program_of imaged) (initialiser_of class) ≡ Some code
  pub locals : i.locals ≡ code.max_locals
  pub room : i.room ≡ code.max_stack

abbrev pub IsInitialiserOf : Imaged → Name → Option Initialiser → Type 0
IsInitialiserOf imaged class None = has_initialiser (program_of imaged) class ≡ false
IsInitialiserOf imaged class (Some i) = IsInitialiser imaged class i

pub record AreInitialisers (imaged : Imaged) (list : List (Option Initialiser)) : Type 0 where
  pub each : (k : ℕ) → k < length (program_of imaged) → IsInitialiserOf imaged (class_name (program_of imaged) k) (get_or list k None)

-- ---- used by the code alone: how one is found

-- the descriptor without parameters and result is ()V
abbrev pub spells_initialiser : List ℕ → List ℕ → Bool
spells_initialiser name desc = same_name name initialiser_name && same_name desc (codes "()V")

-- the method is static and runs code, and the initialiser is this method
pub record RunsIt (imaged : Imaged) (method flags : ℕ) (i : Initialiser) : Type 0 where
  pub static : is_static flags ≡ true
  pub number : i.method ≡ method
  pub found : FoundMethod
  pub there : slice_get (all_methods (program_of imaged)) method ≡ Some found
  pub code : Code
  pub runs : found.method.body ≡ Runs code
  pub locals : i.locals ≡ code.max_locals
  pub room : i.room ≡ code.max_stack

abbrev pub RunsAt : Imaged → ℕ → ℕ → Option Initialiser → Type 0
RunsAt imaged method flags None =
    (found : FoundMethod) → slice_get (all_methods (program_of imaged)) method ≡ Some found → (is_static flags && has_code found.method.body) ≡ false
RunsAt imaged method flags (Some i) = RunsIt imaged method flags i

-- ---- their frames

abbrev pub with_initialiser : Option Initialiser → List StackFrame → List StackFrame
with_initialiser None frames = frames
with_initialiser (Some i) frames = new_frame i.method i.locals i.room ∷ frames

-- those of these classes, the last class on top
abbrev pub pushed : List (Option Initialiser) → List ℕ → List StackFrame → List StackFrame
pushed each [] frames = frames
pushed each (k ∷ classes) frames = pushed each classes (with_initialiser (get_or each k None) frames)

abbrev pub one_if : Option Initialiser → ℕ
one_if None = 0
one_if (Some i) = 1

abbrev pub initialiser_count : List (Option Initialiser) → List ℕ → ℕ
initialiser_count each [] = 0
initialiser_count each (k ∷ classes) = one_if (get_or each k None) + initialiser_count each classes
