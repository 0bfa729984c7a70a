-- Lines that follow their order to its end are those of a source.
use Rattle.std.proofs.Common.{◌≡◌, ℕ, ℤ, true, true≢false, List, [], ◌∷◌, ◌++◌, map, Option, Some, None, refl, sym, ap, ◌∙◌, append_assoc}
use Rattle.std.specs.List.{flat_map}
use Rattle.dj_asm_source.specs.trusted.Lines.{Line, Value, Frame, Operation, Aside, Class, Version, Super, Implements, Field, Abstract, Method, Stack, Locals, Beside, Framed, Does, End}
use Rattle.dj_asm_source.specs.trusted.Sources.{Source, FieldSource, BodyPart, Mark, Step, FrameStep, MethodSource, Bodiless, Coded, version_lines, field_line, body_lines, method_lines, lines_of}
use Rattle.dj_asm_source.specs.Order.{State, AtClass, AtVersion, AtSuper, AtInterfaces, AtFields, AtMethods, AtStack, AtLocals, InBody, InFrame, run, is_final}

-- ---- what is left to come, as parts of a source

-- the rest of a body, and the methods after it
abbrev rest_lines : List BodyPart → List MethodSource → List Line
rest_lines body methods = body_lines body ++ (End ∷ flat_map method_lines methods)

abbrev tail_lines : List (List ℕ) → List FieldSource → List MethodSource → List Line
tail_lines names fields methods = map Implements names ++ (map field_line fields ++ flat_map method_lines methods)

-- the lines are of such parts
unfoldable Left : State → List Line → Type 0
Left AtClass lines = (s : Source) × (lines ≡ lines_of s)
Left AtVersion lines = (version : Option (ℤ × ℤ)) × (super : List ℕ) × (names : List (List ℕ)) × (fields : List FieldSource) × (methods : List MethodSource) × (lines ≡ version_lines version ++ (Super super ∷ tail_lines names fields methods))
Left AtSuper lines = (super : List ℕ) × (names : List (List ℕ)) × (fields : List FieldSource) × (methods : List MethodSource) × (lines ≡ Super super ∷ tail_lines names fields methods)
Left AtInterfaces lines = (names : List (List ℕ)) × (fields : List FieldSource) × (methods : List MethodSource) × (lines ≡ tail_lines names fields methods)
Left AtFields lines = (fields : List FieldSource) × (methods : List MethodSource) × (lines ≡ map field_line fields ++ flat_map method_lines methods)
Left AtMethods lines = (methods : List MethodSource) × (lines ≡ flat_map method_lines methods)
Left AtStack lines = (stack : ℤ) × (locals : ℤ) × (body : List BodyPart) × (methods : List MethodSource) × (lines ≡ Stack stack ∷ Locals locals ∷ rest_lines body methods)
Left AtLocals lines = (locals : ℤ) × (body : List BodyPart) × (methods : List MethodSource) × (lines ≡ Locals locals ∷ rest_lines body methods)
Left InBody lines = (body : List BodyPart) × (methods : List MethodSource) × (lines ≡ rest_lines body methods)
Left InFrame lines = (asides : List Aside) × (operation : Operation) × (body : List BodyPart) × (methods : List MethodSource) × (lines ≡ map Beside asides ++ (Does operation ∷ rest_lines body methods))

none_final : (lines : List Line) → is_final (run None lines) ≡ true → ⊥
unfolding run
none_final [] e = true≢false (sym e)
none_final (line ∷ lines) e = true≢false (sym e)

-- ---- a line, and what is left after it

-- a method without code, and one with it
abstract_left : (flags : ℕ) (name desc : List ℕ) (lines : List Line) → Left AtMethods lines → Left AtMethods (Abstract flags name desc ∷ lines)
unfolding Left
abstract_left flags name desc lines (methods, e) = (Bodiless flags name desc ∷ methods, ap (λ rest. Abstract flags name desc ∷ rest) e)

method_left : (flags : ℕ) (name desc : List ℕ) (lines : List Line) → Left AtStack lines → Left AtMethods (Method flags name desc ∷ lines)
unfolding Left
method_left flags name desc lines (stack, locals, body, methods, e) = (
  Coded flags name desc stack locals body ∷ methods,
  ap (λ rest. Method flags name desc ∷ rest) e ∙ ap (λ rest. Method flags name desc ∷ Stack stack ∷ Locals locals ∷ rest) (sym (append_assoc (body_lines body) (End ∷ []) (flat_map method_lines methods))),
)

mark_left : (aside : Aside) (lines : List Line) → Left InBody lines → Left InBody (Beside aside ∷ lines)
unfolding Left
mark_left aside lines (body, methods, e) = (Mark aside ∷ body, methods, ap (λ rest. Beside aside ∷ rest) e)

step_left : (operation : Operation) (lines : List Line) → Left InBody lines → Left InBody (Does operation ∷ lines)
unfolding Left
step_left operation lines (body, methods, e) = (Step operation ∷ body, methods, ap (λ rest. Does operation ∷ rest) e)

end_left : (lines : List Line) → Left AtMethods lines → Left InBody (End ∷ lines)
unfolding Left
end_left lines (methods, e) = ([], methods, ap (λ rest. End ∷ rest) e)

aside_left : (aside : Aside) (lines : List Line) → Left InFrame lines → Left InFrame (Beside aside ∷ lines)
unfolding Left
aside_left aside lines (asides, operation, body, methods, e) = (aside ∷ asides, operation, body, methods, ap (λ rest. Beside aside ∷ rest) e)

framed_step_left : (operation : Operation) (lines : List Line) → Left InBody lines → Left InFrame (Does operation ∷ lines)
unfolding Left
framed_step_left operation lines (body, methods, e) = ([], operation, body, methods, ap (λ rest. Does operation ∷ rest) e)

frame_left : (frame : Frame) (lines : List Line) → Left InFrame lines → Left InBody (Framed frame ∷ lines)
unfolding Left
frame_left frame lines (asides, operation, body, methods, e) = (
  FrameStep frame asides operation ∷ body,
  methods,
  ap (λ rest. Framed frame ∷ rest) e ∙ frame_lines (map Beside asides) (body_lines body) (End ∷ flat_map method_lines methods),
) where
  frame_lines : (xs ys zs : List Line) → Framed frame ∷ (xs ++ (Does operation ∷ (ys ++ zs))) ≡ (((Framed frame ∷ xs) ++ (Does operation ∷ [])) ++ ys) ++ zs
  frame_lines xs ys zs = sym (append_assoc ((Framed frame ∷ xs) ++ (Does operation ∷ [])) ys zs ∙ append_assoc (Framed frame ∷ xs) (Does operation ∷ []) (ys ++ zs))

-- ---- before the methods

locals_left : (n : ℤ) (lines : List Line) → Left InBody lines → Left AtLocals (Locals n ∷ lines)
unfolding Left
locals_left n lines (body, methods, e) = (n, body, methods, ap (λ rest. Locals n ∷ rest) e)

stack_left : (n : ℤ) (lines : List Line) → Left AtLocals lines → Left AtStack (Stack n ∷ lines)
unfolding Left
stack_left n lines (locals, body, methods, e) = (n, locals, body, methods, ap (λ rest. Stack n ∷ rest) e)

no_fields : (lines : List Line) → Left AtMethods lines → Left AtFields lines
unfolding Left
no_fields lines (methods, e) = ([], methods, e)

no_interfaces : (lines : List Line) → Left AtFields lines → Left AtInterfaces lines
unfolding Left
no_interfaces lines (fields, methods, e) = ([], fields, methods, e)

field_left : (flags : ℕ) (name desc : List ℕ) (value : Option Value) (lines : List Line) → Left AtFields lines → Left AtFields (Field flags name desc value ∷ lines)
unfolding Left
field_left flags name desc value lines (fields, methods, e) =
    (record { flags = flags; name = name; desc = desc; value = value } ∷ fields, methods, ap (λ rest. Field flags name desc value ∷ rest) e)

interface_left : (name : List ℕ) (lines : List Line) → Left AtInterfaces lines → Left AtInterfaces (Implements name ∷ lines)
unfolding Left
interface_left name lines (names, fields, methods, e) = (name ∷ names, fields, methods, ap (λ rest. Implements name ∷ rest) e)

super_left : (name : List ℕ) (lines : List Line) → Left AtInterfaces lines → Left AtSuper (Super name ∷ lines)
unfolding Left
super_left name lines (names, fields, methods, e) = (name, names, fields, methods, ap (λ rest. Super name ∷ rest) e)

no_version : (lines : List Line) → Left AtSuper lines → Left AtVersion lines
unfolding Left
no_version lines (super, names, fields, methods, e) = (None, super, names, fields, methods, e)

version_left : (major minor : ℤ) (lines : List Line) → Left AtSuper lines → Left AtVersion (Version major minor ∷ lines)
unfolding Left
version_left major minor lines (super, names, fields, methods, e) = (Some (major, minor), super, names, fields, methods, ap (λ rest. Version major minor ∷ rest) e)

class_by_version : (flags : ℕ) (name : List ℕ) (version : Option (ℤ × ℤ)) (super : List ℕ) (names : List (List ℕ)) (fields : List FieldSource) (methods : List MethodSource)
    → lines_of (record { flags = flags; name = name; version = version; super = super; interfaces = names; fields = fields; methods = methods })
    ≡ Class flags name ∷ (version_lines version ++ (Super super ∷ tail_lines names fields methods))
class_by_version flags name None super names fields methods =
    ap (λ rest. Class flags name ∷ Super super ∷ rest) (append_assoc (map Implements names) (map field_line fields) (flat_map method_lines methods))
class_by_version flags name (Some (major, minor)) super names fields methods =
    ap (λ rest. Class flags name ∷ Version major minor ∷ Super super ∷ rest) (append_assoc (map Implements names) (map field_line fields) (flat_map method_lines methods))

class_left : (flags : ℕ) (name : List ℕ) (lines : List Line) → Left AtVersion lines → Left AtClass (Class flags name ∷ lines)
unfolding Left
class_left flags name lines (version, super, names, fields, methods, e) = (
  record { flags = flags; name = name; version = version; super = super; interfaces = names; fields = fields; methods = methods },
  ap (λ rest. Class flags name ∷ rest) e ∙ sym (class_by_version flags name version super names fields methods),
)

-- ---- all lines

none_left : (state : State) (lines more : List Line) → is_final (run None more) ≡ true → Left state lines
none_left state lines more e = absurd (none_final more e)

none_more : Left AtMethods []
unfolding Left
none_more = ([], refl)

-- lines that follow their order to its end are such parts
left_of : (state : State) (lines : List Line) → is_final (run (Some state) lines) ≡ true → Left state lines
unfolding run
left_of AtClass [] e = none_left AtClass [] [] (absurd (true≢false (sym e)))
left_of AtClass (Class flags name ∷ lines) e = class_left flags name lines (left_of AtVersion lines e)
left_of AtClass (Version major minor ∷ lines) e = none_left AtClass (Version major minor ∷ lines) lines e
left_of AtClass (Super name ∷ lines) e = none_left AtClass (Super name ∷ lines) lines e
left_of AtClass (Implements name ∷ lines) e = none_left AtClass (Implements name ∷ lines) lines e
left_of AtClass (Field flags name desc value ∷ lines) e = none_left AtClass (Field flags name desc value ∷ lines) lines e
left_of AtClass (Abstract flags name desc ∷ lines) e = none_left AtClass (Abstract flags name desc ∷ lines) lines e
left_of AtClass (Method flags name desc ∷ lines) e = none_left AtClass (Method flags name desc ∷ lines) lines e
left_of AtClass (Stack n ∷ lines) e = none_left AtClass (Stack n ∷ lines) lines e
left_of AtClass (Locals n ∷ lines) e = none_left AtClass (Locals n ∷ lines) lines e
left_of AtClass (Beside aside ∷ lines) e = none_left AtClass (Beside aside ∷ lines) lines e
left_of AtClass (Framed frame ∷ lines) e = none_left AtClass (Framed frame ∷ lines) lines e
left_of AtClass (Does operation ∷ lines) e = none_left AtClass (Does operation ∷ lines) lines e
left_of AtClass (End ∷ lines) e = none_left AtClass (End ∷ lines) lines e
left_of AtVersion [] e = none_left AtVersion [] [] (absurd (true≢false (sym e)))
left_of AtVersion (Class flags name ∷ lines) e = none_left AtVersion (Class flags name ∷ lines) lines e
left_of AtVersion (Version major minor ∷ lines) e = version_left major minor lines (left_of AtSuper lines e)
left_of AtVersion (Super name ∷ lines) e = no_version (Super name ∷ lines) (super_left name lines (left_of AtInterfaces lines e))
left_of AtVersion (Implements name ∷ lines) e = none_left AtVersion (Implements name ∷ lines) lines e
left_of AtVersion (Field flags name desc value ∷ lines) e = none_left AtVersion (Field flags name desc value ∷ lines) lines e
left_of AtVersion (Abstract flags name desc ∷ lines) e = none_left AtVersion (Abstract flags name desc ∷ lines) lines e
left_of AtVersion (Method flags name desc ∷ lines) e = none_left AtVersion (Method flags name desc ∷ lines) lines e
left_of AtVersion (Stack n ∷ lines) e = none_left AtVersion (Stack n ∷ lines) lines e
left_of AtVersion (Locals n ∷ lines) e = none_left AtVersion (Locals n ∷ lines) lines e
left_of AtVersion (Beside aside ∷ lines) e = none_left AtVersion (Beside aside ∷ lines) lines e
left_of AtVersion (Framed frame ∷ lines) e = none_left AtVersion (Framed frame ∷ lines) lines e
left_of AtVersion (Does operation ∷ lines) e = none_left AtVersion (Does operation ∷ lines) lines e
left_of AtVersion (End ∷ lines) e = none_left AtVersion (End ∷ lines) lines e
left_of AtSuper [] e = none_left AtSuper [] [] (absurd (true≢false (sym e)))
left_of AtSuper (Class flags name ∷ lines) e = none_left AtSuper (Class flags name ∷ lines) lines e
left_of AtSuper (Version major minor ∷ lines) e = none_left AtSuper (Version major minor ∷ lines) lines e
left_of AtSuper (Super name ∷ lines) e = super_left name lines (left_of AtInterfaces lines e)
left_of AtSuper (Implements name ∷ lines) e = none_left AtSuper (Implements name ∷ lines) lines e
left_of AtSuper (Field flags name desc value ∷ lines) e = none_left AtSuper (Field flags name desc value ∷ lines) lines e
left_of AtSuper (Abstract flags name desc ∷ lines) e = none_left AtSuper (Abstract flags name desc ∷ lines) lines e
left_of AtSuper (Method flags name desc ∷ lines) e = none_left AtSuper (Method flags name desc ∷ lines) lines e
left_of AtSuper (Stack n ∷ lines) e = none_left AtSuper (Stack n ∷ lines) lines e
left_of AtSuper (Locals n ∷ lines) e = none_left AtSuper (Locals n ∷ lines) lines e
left_of AtSuper (Beside aside ∷ lines) e = none_left AtSuper (Beside aside ∷ lines) lines e
left_of AtSuper (Framed frame ∷ lines) e = none_left AtSuper (Framed frame ∷ lines) lines e
left_of AtSuper (Does operation ∷ lines) e = none_left AtSuper (Does operation ∷ lines) lines e
left_of AtSuper (End ∷ lines) e = none_left AtSuper (End ∷ lines) lines e
left_of AtInterfaces [] e = no_interfaces [] (no_fields [] none_more)
left_of AtInterfaces (Class flags name ∷ lines) e = none_left AtInterfaces (Class flags name ∷ lines) lines e
left_of AtInterfaces (Version major minor ∷ lines) e = none_left AtInterfaces (Version major minor ∷ lines) lines e
left_of AtInterfaces (Super name ∷ lines) e = none_left AtInterfaces (Super name ∷ lines) lines e
left_of AtInterfaces (Implements name ∷ lines) e = interface_left name lines (left_of AtInterfaces lines e)
left_of AtInterfaces (Field flags name desc value ∷ lines) e = no_interfaces (Field flags name desc value ∷ lines) (field_left flags name desc value lines (left_of AtFields lines e))
left_of AtInterfaces (Abstract flags name desc ∷ lines) e = no_interfaces (Abstract flags name desc ∷ lines) (no_fields (Abstract flags name desc ∷ lines) (abstract_left flags name desc lines (left_of AtMethods lines e)))
left_of AtInterfaces (Method flags name desc ∷ lines) e = no_interfaces (Method flags name desc ∷ lines) (no_fields (Method flags name desc ∷ lines) (method_left flags name desc lines (left_of AtStack lines e)))
left_of AtInterfaces (Stack n ∷ lines) e = none_left AtInterfaces (Stack n ∷ lines) lines e
left_of AtInterfaces (Locals n ∷ lines) e = none_left AtInterfaces (Locals n ∷ lines) lines e
left_of AtInterfaces (Beside aside ∷ lines) e = none_left AtInterfaces (Beside aside ∷ lines) lines e
left_of AtInterfaces (Framed frame ∷ lines) e = none_left AtInterfaces (Framed frame ∷ lines) lines e
left_of AtInterfaces (Does operation ∷ lines) e = none_left AtInterfaces (Does operation ∷ lines) lines e
left_of AtInterfaces (End ∷ lines) e = none_left AtInterfaces (End ∷ lines) lines e
left_of AtFields [] e = no_fields [] none_more
left_of AtFields (Class flags name ∷ lines) e = none_left AtFields (Class flags name ∷ lines) lines e
left_of AtFields (Version major minor ∷ lines) e = none_left AtFields (Version major minor ∷ lines) lines e
left_of AtFields (Super name ∷ lines) e = none_left AtFields (Super name ∷ lines) lines e
left_of AtFields (Implements name ∷ lines) e = none_left AtFields (Implements name ∷ lines) lines e
left_of AtFields (Field flags name desc value ∷ lines) e = field_left flags name desc value lines (left_of AtFields lines e)
left_of AtFields (Abstract flags name desc ∷ lines) e = no_fields (Abstract flags name desc ∷ lines) (abstract_left flags name desc lines (left_of AtMethods lines e))
left_of AtFields (Method flags name desc ∷ lines) e = no_fields (Method flags name desc ∷ lines) (method_left flags name desc lines (left_of AtStack lines e))
left_of AtFields (Stack n ∷ lines) e = none_left AtFields (Stack n ∷ lines) lines e
left_of AtFields (Locals n ∷ lines) e = none_left AtFields (Locals n ∷ lines) lines e
left_of AtFields (Beside aside ∷ lines) e = none_left AtFields (Beside aside ∷ lines) lines e
left_of AtFields (Framed frame ∷ lines) e = none_left AtFields (Framed frame ∷ lines) lines e
left_of AtFields (Does operation ∷ lines) e = none_left AtFields (Does operation ∷ lines) lines e
left_of AtFields (End ∷ lines) e = none_left AtFields (End ∷ lines) lines e
left_of AtMethods [] e = none_more
left_of AtMethods (Class flags name ∷ lines) e = none_left AtMethods (Class flags name ∷ lines) lines e
left_of AtMethods (Version major minor ∷ lines) e = none_left AtMethods (Version major minor ∷ lines) lines e
left_of AtMethods (Super name ∷ lines) e = none_left AtMethods (Super name ∷ lines) lines e
left_of AtMethods (Implements name ∷ lines) e = none_left AtMethods (Implements name ∷ lines) lines e
left_of AtMethods (Field flags name desc value ∷ lines) e = none_left AtMethods (Field flags name desc value ∷ lines) lines e
left_of AtMethods (Abstract flags name desc ∷ lines) e = abstract_left flags name desc lines (left_of AtMethods lines e)
left_of AtMethods (Method flags name desc ∷ lines) e = method_left flags name desc lines (left_of AtStack lines e)
left_of AtMethods (Stack n ∷ lines) e = none_left AtMethods (Stack n ∷ lines) lines e
left_of AtMethods (Locals n ∷ lines) e = none_left AtMethods (Locals n ∷ lines) lines e
left_of AtMethods (Beside aside ∷ lines) e = none_left AtMethods (Beside aside ∷ lines) lines e
left_of AtMethods (Framed frame ∷ lines) e = none_left AtMethods (Framed frame ∷ lines) lines e
left_of AtMethods (Does operation ∷ lines) e = none_left AtMethods (Does operation ∷ lines) lines e
left_of AtMethods (End ∷ lines) e = none_left AtMethods (End ∷ lines) lines e
left_of AtStack [] e = none_left AtStack [] [] (absurd (true≢false (sym e)))
left_of AtStack (Class flags name ∷ lines) e = none_left AtStack (Class flags name ∷ lines) lines e
left_of AtStack (Version major minor ∷ lines) e = none_left AtStack (Version major minor ∷ lines) lines e
left_of AtStack (Super name ∷ lines) e = none_left AtStack (Super name ∷ lines) lines e
left_of AtStack (Implements name ∷ lines) e = none_left AtStack (Implements name ∷ lines) lines e
left_of AtStack (Field flags name desc value ∷ lines) e = none_left AtStack (Field flags name desc value ∷ lines) lines e
left_of AtStack (Abstract flags name desc ∷ lines) e = none_left AtStack (Abstract flags name desc ∷ lines) lines e
left_of AtStack (Method flags name desc ∷ lines) e = none_left AtStack (Method flags name desc ∷ lines) lines e
left_of AtStack (Stack n ∷ lines) e = stack_left n lines (left_of AtLocals lines e)
left_of AtStack (Locals n ∷ lines) e = none_left AtStack (Locals n ∷ lines) lines e
left_of AtStack (Beside aside ∷ lines) e = none_left AtStack (Beside aside ∷ lines) lines e
left_of AtStack (Framed frame ∷ lines) e = none_left AtStack (Framed frame ∷ lines) lines e
left_of AtStack (Does operation ∷ lines) e = none_left AtStack (Does operation ∷ lines) lines e
left_of AtStack (End ∷ lines) e = none_left AtStack (End ∷ lines) lines e
left_of AtLocals [] e = none_left AtLocals [] [] (absurd (true≢false (sym e)))
left_of AtLocals (Class flags name ∷ lines) e = none_left AtLocals (Class flags name ∷ lines) lines e
left_of AtLocals (Version major minor ∷ lines) e = none_left AtLocals (Version major minor ∷ lines) lines e
left_of AtLocals (Super name ∷ lines) e = none_left AtLocals (Super name ∷ lines) lines e
left_of AtLocals (Implements name ∷ lines) e = none_left AtLocals (Implements name ∷ lines) lines e
left_of AtLocals (Field flags name desc value ∷ lines) e = none_left AtLocals (Field flags name desc value ∷ lines) lines e
left_of AtLocals (Abstract flags name desc ∷ lines) e = none_left AtLocals (Abstract flags name desc ∷ lines) lines e
left_of AtLocals (Method flags name desc ∷ lines) e = none_left AtLocals (Method flags name desc ∷ lines) lines e
left_of AtLocals (Stack n ∷ lines) e = none_left AtLocals (Stack n ∷ lines) lines e
left_of AtLocals (Locals n ∷ lines) e = locals_left n lines (left_of InBody lines e)
left_of AtLocals (Beside aside ∷ lines) e = none_left AtLocals (Beside aside ∷ lines) lines e
left_of AtLocals (Framed frame ∷ lines) e = none_left AtLocals (Framed frame ∷ lines) lines e
left_of AtLocals (Does operation ∷ lines) e = none_left AtLocals (Does operation ∷ lines) lines e
left_of AtLocals (End ∷ lines) e = none_left AtLocals (End ∷ lines) lines e
left_of InBody [] e = none_left InBody [] [] (absurd (true≢false (sym e)))
left_of InBody (Class flags name ∷ lines) e = none_left InBody (Class flags name ∷ lines) lines e
left_of InBody (Version major minor ∷ lines) e = none_left InBody (Version major minor ∷ lines) lines e
left_of InBody (Super name ∷ lines) e = none_left InBody (Super name ∷ lines) lines e
left_of InBody (Implements name ∷ lines) e = none_left InBody (Implements name ∷ lines) lines e
left_of InBody (Field flags name desc value ∷ lines) e = none_left InBody (Field flags name desc value ∷ lines) lines e
left_of InBody (Abstract flags name desc ∷ lines) e = none_left InBody (Abstract flags name desc ∷ lines) lines e
left_of InBody (Method flags name desc ∷ lines) e = none_left InBody (Method flags name desc ∷ lines) lines e
left_of InBody (Stack n ∷ lines) e = none_left InBody (Stack n ∷ lines) lines e
left_of InBody (Locals n ∷ lines) e = none_left InBody (Locals n ∷ lines) lines e
left_of InBody (Beside aside ∷ lines) e = mark_left aside lines (left_of InBody lines e)
left_of InBody (Framed frame ∷ lines) e = frame_left frame lines (left_of InFrame lines e)
left_of InBody (Does operation ∷ lines) e = step_left operation lines (left_of InBody lines e)
left_of InBody (End ∷ lines) e = end_left lines (left_of AtMethods lines e)
left_of InFrame [] e = none_left InFrame [] [] (absurd (true≢false (sym e)))
left_of InFrame (Class flags name ∷ lines) e = none_left InFrame (Class flags name ∷ lines) lines e
left_of InFrame (Version major minor ∷ lines) e = none_left InFrame (Version major minor ∷ lines) lines e
left_of InFrame (Super name ∷ lines) e = none_left InFrame (Super name ∷ lines) lines e
left_of InFrame (Implements name ∷ lines) e = none_left InFrame (Implements name ∷ lines) lines e
left_of InFrame (Field flags name desc value ∷ lines) e = none_left InFrame (Field flags name desc value ∷ lines) lines e
left_of InFrame (Abstract flags name desc ∷ lines) e = none_left InFrame (Abstract flags name desc ∷ lines) lines e
left_of InFrame (Method flags name desc ∷ lines) e = none_left InFrame (Method flags name desc ∷ lines) lines e
left_of InFrame (Stack n ∷ lines) e = none_left InFrame (Stack n ∷ lines) lines e
left_of InFrame (Locals n ∷ lines) e = none_left InFrame (Locals n ∷ lines) lines e
left_of InFrame (Beside aside ∷ lines) e = aside_left aside lines (left_of InFrame lines e)
left_of InFrame (Framed frame ∷ lines) e = none_left InFrame (Framed frame ∷ lines) lines e
left_of InFrame (Does operation ∷ lines) e = framed_step_left operation lines (left_of InBody lines e)
left_of InFrame (End ∷ lines) e = none_left InFrame (End ∷ lines) lines e

-- lines in their order are those of a source
pub source_of : (lines : List Line) → is_final (run (Some AtClass) lines) ≡ true → (s : Source) × (lines ≡ lines_of s)
unfolding Left
source_of lines e = left_of AtClass lines e
