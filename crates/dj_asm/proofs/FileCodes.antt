-- The code of a method's lines by two ways to index entries, and that of its body.
use Rattle.std.proofs.Common.{◌≡◌, ℕ, ◌+◌, ℤ, unsigned_abs, Bool, List, [], ◌∷◌, ◌++◌, map, Some, None, refl, ap, ◌∙◌, subst}
use Rattle.std.specs.List.{flat_map, AllByRecursion, AllZip}
use Rattle.dj_ops.specs.declared.instruction.Instr.{Instr}
use Rattle.dj_ops.specs.declared.instruction.Instr.TheVariants as instrs
use Rattle.dj_ops.specs.declared.frames.Form.{Form}
use Rattle.dj_ops.specs.declared.frames.Form.TheVariants as forms
use Rattle.dj_ops.specs.declared.frames.VType.{VType}
use Rattle.dj_ops.specs.declared.frames.VType.TheVariants as types
use Rattle.dj_ops.specs.declared.frames.Frame as frames
use Rattle.dj_labels.specs.declared.labelled.Protected.{Protected}
use Rattle.dj_layout.specs.declared.laid.Laid.{Laid}
use Rattle.dj_frames.specs.trusted.Written.{stack_map_bytes}
use Rattle.dj_class.specs.trusted.ClassFile.{AttributeInfo}
use Rattle.dj_class.specs.trusted.Code.{CodeInfo}
use Rattle.dj_asm_source.specs.trusted.Lines.{Label, FrameType, Object, Frame, Stack1, Append, Full, Operation, Load, LoadLong, Member, Dynamic, ClassOf, Multi, Catch, Line, Beside, Framed, Does, End}
use Rattle.dj_asm_source.specs.trusted.Sources.{BodyPart, body_lines}
use Rattle.dj_asm_pool.specs.trusted.Entries.{Entry}
use Rattle.dj_asm_pool.specs.trusted.Needs.{member_entry, operation_entries, type_entries, types_entries, instruction_entries, catch_entries, stack_map_entries, frame_entries}
use Rattle.dj_asm.specs.trusted.Codes.{Places, IsMemberInstr, is_interface_call, IsInstrOf, operation_in, AreInstrsOf, ranges_in, type_of, form_of, frames_in, stack_map_of, IsCodeOf}
use Rattle.dj_asm.specs.trusted.Files.{places_of}
use Rattle.dj_asm_pool.proofs.Members.{each_first, each_last}
use Rattle.dj_asm.proofs.BodyLabels.{coded_lines, same_places, same_in}
use Rattle.dj_asm.proofs.FileIndexes.{EachNeed, MethodHas, IsAlike}

abbrev framed : ℕ → Form → frames.Frame
framed n form = record { at = n; form = form }

abbrev code_with : ℤ → ℤ → Laid → List AttributeInfo → CodeInfo
code_with stack locals laid attributes =
    record { max_stack = unsigned_abs stack; max_locals = unsigned_abs locals; code = laid.code; table = laid.table; attributes = attributes }

-- ---- indexes that are alike

module _ (f g : Entry → ℕ) (number : Label → ℕ) where
  abbrev one : Places
  one = record { number = number; index = f }

  abbrev other : Places
  other = record { number = number; index = g }

  abbrev Alike : List Entry → Type 0
  Alike entries = AllByRecursion (IsAlike f g) entries

  member_alike : (interface : Bool) (op m n : ℕ) (desc : List ℕ) (i : Instr) → m ≡ n → IsMemberInstr interface op m desc i → IsMemberInstr interface op n desc i
  member_alike interface op m n desc i e is = subst (λ (k : ℕ). IsMemberInstr interface op k desc i) e is

  instr_alike : (o : Operation) (i : Instr) → Alike (operation_entries o) → IsInstrOf one o i → IsInstrOf other o i
  instr_alike (Load op literal) i h is = is ∙ ap (λ (k : ℕ). instrs.Literal op k) h.0
  instr_alike (LoadLong n) i h is = is ∙ ap (λ (k : ℕ). instrs.Literal 20 k) h.0
  instr_alike (Member op class name desc interface) i h is =
      member_alike (is_interface_call op) op (f (member_entry op class name desc interface)) (g (member_entry op class name desc interface)) desc i h.0 is
  instr_alike (Dynamic n name desc) i h is = is ∙ ap (λ (k : ℕ). instrs.Dynamic k) h.0
  instr_alike (ClassOf op class) i h is = is ∙ ap (λ (k : ℕ). instrs.Class op k) h.0
  instr_alike (Multi desc dims) i h is = is ∙ ap (λ (k : ℕ). instrs.Multi k (unsigned_abs dims)) h.0
  instr_alike o i h is = is

  instrs_alike : (lines : List Line) (code : List Instr) → EachNeed (IsAlike f g) instruction_entries lines → AreInstrsOf one lines code → AreInstrsOf other lines code
  instrs_alike [] [] h are = tt
  instrs_alike [] (i ∷ code) h are = absurd are
  instrs_alike (Does o ∷ lines) [] h are = absurd are
  instrs_alike (Does o ∷ lines) (i ∷ code) h are = (instr_alike o i h.0 are.0, instrs_alike lines code h.1 are.1)
  instrs_alike (line ∷ lines) code h are = instrs_alike lines code h.1 are

  abbrev range : Label → Label → Label → ℕ → List Protected
  range from to handler class = record { start = number from; end = number to; handler = number handler; catch_type = class } ∷ []

  range_alike : (line : Line) → Alike (catch_entries line) → ranges_in one line ≡ ranges_in other line
  range_alike (Beside (Catch (Some class) from to handler)) h = ap (range from to handler) h.0
  range_alike (Beside (Catch None from to handler)) h = refl
  range_alike line h = refl

  ranges_alike : (lines : List Line) → EachNeed (IsAlike f g) catch_entries lines → flat_map (ranges_in one) lines ≡ flat_map (ranges_in other) lines
  ranges_alike [] h = refl
  ranges_alike (line ∷ lines) h =
      ap (λ (l : List Protected). l ++ flat_map (ranges_in one) lines) (range_alike line h.0) ∙ ap (λ (l : List Protected). ranges_in other line ++ l) (ranges_alike lines h.1)

  type_alike : (ty : FrameType) → Alike (type_entries ty) → type_of one ty ≡ type_of other ty
  type_alike (Object name) h = ap (λ (k : ℕ). types.Object k) h.0
  type_alike ty h = refl

  types_alike : (list : List FrameType) → Alike (flat_map type_entries list) → map (type_of one) list ≡ map (type_of other) list
  types_alike [] h = refl
  types_alike (ty ∷ list) h =
      ap (λ (t : VType). t ∷ map (type_of one) list) (type_alike ty (each_first (IsAlike f g) (type_entries ty) (flat_map type_entries list) h))
      ∙ ap (λ (l : List VType). type_of other ty ∷ l) (types_alike list (each_last (IsAlike f g) (type_entries ty) (flat_map type_entries list) h))

  form_alike : (frame : Frame) → Alike (types_entries frame) → form_of one frame ≡ form_of other frame
  form_alike (Stack1 ty) h = ap forms.Stack1 (type_alike ty h)
  form_alike (Append list) h = ap forms.Append (types_alike list h)
  form_alike (Full locals stack) h =
      ap (λ (l : List VType). forms.Full l (map (type_of one) stack)) (types_alike locals (each_first (IsAlike f g) (flat_map type_entries locals) (flat_map type_entries stack) h))
      ∙ ap (λ (l : List VType). forms.Full (map (type_of other) locals) l) (types_alike stack (each_last (IsAlike f g) (flat_map type_entries locals) (flat_map type_entries stack) h))
  form_alike frame h = refl

  frames_alike : (n : ℕ) (lines : List Line) → EachNeed (IsAlike f g) frame_entries lines → frames_in one n lines ≡ frames_in other n lines
  unfolding frames_in
  frames_alike n [] h = refl
  frames_alike n (Framed frame ∷ lines) h =
      ap (λ (form : Form). framed n form ∷ frames_in one n lines) (form_alike frame h.0) ∙ ap (λ (l : List frames.Frame). framed n (form_of other frame) ∷ l) (frames_alike n lines h.1)
  frames_alike n (Does operation ∷ lines) h = frames_alike (n + 1) lines h.1
  frames_alike n (line ∷ lines) h = frames_alike n lines h.1

  stack_map_alike : (starts : List ℕ) (n : ℕ) (lines : List Line) → EachNeed (IsAlike f g) stack_map_entries lines
      → stack_map_of one starts (frames_in other n lines) ≡ stack_map_of other starts (frames_in other n lines)
  unfolding frames_in
  stack_map_alike starts n [] h = refl
  stack_map_alike starts n (Framed frame ∷ lines) h = ap (named starts (frames_in other n (Framed frame ∷ lines))) h.0.0 where
    named : List ℕ → List frames.Frame → ℕ → List AttributeInfo
    named starts all name = record { name = name; body = stack_map_bytes starts all } ∷ []
  stack_map_alike starts n (Does operation ∷ lines) h = stack_map_alike starts (n + 1) lines h.1
  stack_map_alike starts n (line ∷ lines) h = stack_map_alike starts n lines h.1

  pub code_alike : (stack locals : ℤ) (lines : List Line) (code : CodeInfo) → MethodHas (IsAlike f g) lines → IsCodeOf one stack locals lines code → IsCodeOf other stack locals lines code
  code_alike stack locals lines code h is = record {
    labelled = is.labelled;
    instructions = instrs_alike lines is.labelled.code h.instructions is.instructions;
    ranges = is.ranges ∙ ranges_alike lines h.catches;
    laid = is.laid;
    laid_out = is.laid_out;
    code_is = is.code_is
        ∙ ap (code_with stack locals is.laid) (ap (stack_map_of one is.laid.starts) (frames_alike 0 lines h.frames) ∙ stack_map_alike is.laid.starts 0 lines h.stack_maps);
  }

-- ---- the lines of a method, and those of its body

frames_end : (places : Places) (n : ℕ) (lines : List Line) → frames_in places n (lines ++ End ∷ []) ≡ frames_in places n lines
unfolding frames_in
frames_end places n [] = refl
frames_end places n (Framed frame ∷ lines) = ap (λ (l : List frames.Frame). framed n (form_of places frame) ∷ l) (frames_end places n lines)
frames_end places n (Does operation ∷ lines) = frames_end places (n + 1) lines
frames_end places n (line ∷ lines) = frames_end places n lines

method_frames : (places : Places) (flags : ℕ) (name desc : List ℕ) (stack locals : ℤ) (parts : List BodyPart) → frames_in places 0 (coded_lines flags name desc stack locals parts) ≡ frames_in places 0 (body_lines parts)
unfolding frames_in
method_frames places flags name desc stack locals parts = frames_end places 0 (body_lines parts)

pub body_code : (index : Entry → ℕ) (flags : ℕ) (name desc : List ℕ) (stack locals : ℤ) (parts : List BodyPart) (code : CodeInfo)
    → IsCodeOf (places_of index (coded_lines flags name desc stack locals parts)) stack locals (coded_lines flags name desc stack locals parts) code
    → IsCodeOf (places_of index (body_lines parts)) stack locals (body_lines parts) code
body_code index flags name desc stack locals parts code is =
    let whole = coded_lines flags name desc stack locals parts in
    let p = places_of index whole in
    let in_body : IsCodeOf p stack locals (body_lines parts) code = record {
      labelled = is.labelled;
      instructions = subst (λ (os : List Operation). AllZip (IsInstrOf p) os is.labelled.code) (same_in operation_in flags name desc stack locals parts refl refl refl refl) is.instructions;
      ranges = is.ranges ∙ same_in (ranges_in p) flags name desc stack locals parts refl refl refl refl;
      laid = is.laid;
      laid_out = is.laid_out;
      code_is = is.code_is
          ∙ ap (λ (l : List frames.Frame). code_with stack locals is.laid (stack_map_of p is.laid.starts l))
          (method_frames p flags name desc stack locals parts);
    } in
    subst (λ r. IsCodeOf r stack locals (body_lines parts) code) (same_places index flags name desc stack locals parts) in_body
