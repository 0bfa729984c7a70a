-- What a machine keeps of the heap, static fields and literals in the model, and what constants of static fields make of it (JVMS 4.7.2).
use Rattle.std.specs.Prelude.{◌≡◌, ℕ, List, length, Option, Some, slice_get, if◌then◌else◌}
use Rattle.dj_names.specs.declared.run.Outcome.TheVariants as outcomes
use Rattle.dj_names.specs.Heaps.{heap_map}
use Rattle.dj_names.specs.trusted.Types.{Name}
use Rattle.dj_library_types.specs.Numbered.{type_at}
use Rattle.dj_model.specs.trusted.Program.{Constant, Field, is_static}
use Rattle.dj_model.specs.trusted.Linking.{FoundField, place_of_static, static_count}
use Rattle.dj_model.specs.trusted.State.{State, Terms}
use Rattle.dj_model.specs.trusted.Initialisation.{Initialised, Ready, Fails, with_constant, with_constants, constants_of}
use Rattle.dj_heap.specs.Heaps.{LimitedHeap}
use Rattle.dj_natives.specs.Known.{AreKnown}
use Rattle.dj_member_effects.specs.Literals as literals
use Rattle.dj_member_effects.specs.Literals.{Differ, LiteralTable, literals_map}
use Rattle.dj_class_table.specs.Tables.{fields_at}
use Rattle.dj_resolution.specs.Linked.{class_name}
use Rattle.dj_numbering.specs.Typed.{types_of}
use Rattle.dj_numbering.specs.Members.{all_fields}
use Rattle.dj_image.specs.Imaged.{Imaged, program_of, typed_of, IsValue}
use Rattle.dj_image.specs.Operands.{units_number}
use Rattle.dj_initialisation.specs.declared.filled.Filled.{Filled}
use Rattle.dj_initialisation.specs.declared.filled.Filled.TheVariants as filled
use Rattle.dj_initialisation.specs.Waiting.{names_of}

pub record Store : Type 0 where
  pub heap : LimitedHeap
  pub statics : List ℕ
  pub literals : LiteralTable

abbrev pub store : LimitedHeap → List ℕ → LiteralTable → Store
store heap statics literals = record { heap = heap; statics = statics; literals = literals }

-- a state with them
abbrev pub stored : Imaged → Store → State → State
stored imaged st s = record s {
  heap = heap_map (type_at (types_of (typed_of imaged))) st.heap.heap;
  statics = st.statics;
  literals = literals_map imaged.texts st.literals.made;
}

-- they are of the image: this many static fields, and literals of its texts
pub record IsStore (imaged : Imaged) (st : Store) : Type 0 where
  pub statics : length st.statics ≡ static_count (program_of imaged)
  pub count : st.literals.count ≡ length imaged.texts
  pub texts : literals.AreTexts (length imaged.texts) st.literals.made

-- each text of the image has one number, and each with which a field begins has one
pub record AreTexts (imaged : Imaged) : Type 0 where
  pub differ : Differ imaged.texts
  pub there : (units : List ℕ) → IsValue (program_of imaged) units → (n : ℕ) × (units_number imaged.texts units ≡ Some n)

-- ---- on the way

-- what remains to be done leads on from where what was to be done began
pub record Leads (imaged : Imaged) (whole rest : Terms → State → Initialised) (before after : Store) : Type 0 where
  pub effect : (terms : Terms) (s : State) → terms.limit ≡ Some before.heap.limit → whole terms (stored imaged before s) ≡ rest terms (stored imaged after s)
  pub limit : after.heap.limit ≡ before.heap.limit
  pub are : IsStore imaged after
  -- all new objects are texts
  pub known : AreKnown (types_of (typed_of imaged)) before.heap → AreKnown (types_of (typed_of imaged)) after.heap

abbrev pub reported : Filled → State → Initialised
reported filled.Done s = Ready s
reported (filled.HeapFull used size) s = Fails (outcomes.HeapFull used size) s

-- all of it was done, with this result
abbrev pub Fills : Imaged → (Terms → State → Initialised) → Store → Store → Filled → Type 0
Fills imaged whole before after result = Leads imaged whole (λ terms. reported result) before after

-- ---- what is to be done

-- a static field begins with this constant, where it is one
abbrev pub one_constant : Imaged → ℕ → Option Constant → Terms → State → Initialised
one_constant imaged place constant terms s = with_constant imaged.prefix terms s place constant

abbrev pub field_constant : Imaged → FoundField → Terms → State → Initialised
field_constant imaged found terms s =
    if is_static found.field.flags then with_constant imaged.prefix terms s (place_of_static (program_of imaged) found) found.field.constant else Ready s

abbrev pub constants_from : Imaged → Name → List Field → Terms → State → Initialised
constants_from imaged class fields terms s = with_constants (program_of imaged) imaged.prefix terms class fields s

abbrev pub class_constants : Imaged → ℕ → Terms → State → Initialised
class_constants imaged class = constants_from imaged (class_name (program_of imaged) class) (fields_at (program_of imaged) class)

abbrev pub all_constants : Imaged → List ℕ → Terms → State → Initialised
all_constants imaged classes terms s = constants_of (program_of imaged) imaged.prefix terms (names_of (program_of imaged) classes) s

-- of the field of a number
abbrev pub FillsConstant : Imaged → ℕ → ℕ → Store → Store → Filled → Type 0
FillsConstant imaged place field before after result =
    (found : FoundField) → slice_get (all_fields (program_of imaged)) field ≡ Some found → Fills imaged (one_constant imaged place found.field.constant) before after result

abbrev pub FillsField : Imaged → ℕ → Store → Store → Filled → Type 0
FillsField imaged field before after result =
    (found : FoundField) → slice_get (all_fields (program_of imaged)) field ≡ Some found → Fills imaged (field_constant imaged found) before after result
