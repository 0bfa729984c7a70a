-- What the lines of a text's source need is right: each entry and each of its parts is what the pool may have.
use Rattle.std.proofs.Common.{◌≡◌, ℕ, ◌+◌, ◌/◌, ◌%◌, ◌^◌, ◌<◌, ◌⊎◌, inl, inr, Bool, true, false, cond, leb, ◌&&◌, ℤ, FitsSigned, List, [], ◌∷◌, ◌++◌, map, Some, None, codes, refl, sym, ap, ◌∙◌, subst, arith}
use Rattle.std.specs.Prelude.{◌==◌, nat_le, unsigned_abs}
use Rattle.std.specs.List.{flat_map, AllByRecursion, list_all}
use Rattle.std.specs.Int.{w32, w64}
use Rattle.std.proofs.lemmas.Bool.{and_parts, leb-true, le-leb, false≢true, cond_both, cond-true}
use Rattle.dj_names.specs.trusted.Types.{Name}
use Rattle.dj_names.specs.trusted.ModifiedUtf8.{units_text, IsModifiedUtf8}
use Rattle.dj_names.specs.trusted.Names.{IsUnqualifiedName, IsMethodName}
use Rattle.dj_names.specs.trusted.Descriptors.{IsFieldDescriptor, IsMethodDescriptor}
use Rattle.dj_pool.specs.trusted.Pool.{IsClassText}
use Rattle.dj_asm_source.specs.trusted.Items.{Exactly}
use Rattle.dj_asm_source.specs.trusted.Lines as lines
use Rattle.dj_asm_source.specs.trusted.Lines.{Value, IntValue, LongValue, StringValue, IntLiteral, StringLiteral, ClassLiteral, FrameType, Simple, Object, New, Same, Stack1, Chop, Append, Full, Plain, Push, Local, Increment, Load, LoadLong, Jump, Table, Lookup, Member, ClassOf, Array, Multi, Labelled, Catch, Line, Version, Super, Implements, Abstract, Stack, Locals, Beside, Framed, Does, End, FitsBits, IsFrameType, IsFieldUse, IsMethodUse, IsLine, IsSized, value_items, type_item}
use Rattle.dj_asm_pool.specs.trusted.Entries.{Entry, Utf8, Integer, Long, Class, Text, NameAndType, Field, Method, InterfaceMethod, Dynamic, with_parts}
use Rattle.dj_asm_pool.specs.trusted.Needs.{member_entry, type_entries, constant_value_name, code_name, stack_map_name, head_entries, instruction_entries, catch_entries, stack_map_entries, frame_entries}
use Rattle.dj_asm_pool.proofs.Members.{each_append, each_first, each_last}
use Rattle.dj_asm_pool.proofs.TokenUnits.{Sixteen, ItemFits, LineFits}

-- ---- entries

-- a field's name and descriptor, or a method's
abbrev pub AreNamesOf : Name → Name → Type 0
AreNamesOf name desc = (IsUnqualifiedName name × IsFieldDescriptor desc) ⊎ (IsMethodName name × IsMethodDescriptor desc)

-- the pool may have it, where it has its parts
abbrev pub IsRight : Entry → Type 0
IsRight (Utf8 text) = IsModifiedUtf8 text
IsRight (Integer n) = FitsSigned w32 n
IsRight (Long n) = FitsSigned w64 n
IsRight (Class name) = IsClassText name
IsRight (Text text) = Unit {0}
IsRight (NameAndType name desc) = AreNamesOf name desc
IsRight (Field class name desc) = IsFieldDescriptor desc
IsRight (Method class name desc) = IsMethodDescriptor desc
IsRight (InterfaceMethod class name desc) = IsMethodDescriptor desc
IsRight (Dynamic place name desc) = (place < 2 ^ 16) × IsMethodDescriptor desc

-- and its parts are such
abbrev pub IsWholeRight : Entry → Type 0
IsWholeRight e = AllByRecursion IsRight (with_parts e)

abbrev pub AllRight : List Entry → Type 0
AllRight entries = AllByRecursion IsWholeRight entries

pub parts_right : (entries : List Entry) → AllRight entries → AllByRecursion IsRight (flat_map with_parts entries)
parts_right [] h = tt
parts_right (e ∷ entries) h = each_append IsRight (with_parts e) (flat_map with_parts entries) h.0 (parts_right entries h.1)

class_right : (name : Name) → IsModifiedUtf8 name → IsClassText name → IsWholeRight (Class name)
class_right name fits is = (fits, (is, tt))

string_right : (units : List ℕ) → Sixteen units → IsWholeRight (Text (units_text units))
string_right units fits = ((units, record { text_is = refl; units_fit = fits }), (tt, tt))

-- ---- the names of attributes

abbrev is_small : ℕ → Bool
is_small u = nat_le 1 u && nat_le u 127

small_text : (text : List ℕ) → list_all is_small text ≡ true → text ≡ units_text text
small_text [] h = refl
small_text (u ∷ us) h =
    let p = and_parts (is_small u) (list_all is_small us) h in
    let one = cond-true (is_small u) (u ∷ []) (cond (nat_le u 2047) ((192 + u / 64) ∷ (128 + u % 64) ∷ []) ((224 + u / 4096) ∷ (128 + u / 64 % 64) ∷ (128 + u % 64) ∷ [])) p.0 in
    ap (λ (l : List ℕ). u ∷ l) (small_text us p.1) ∙ ap (λ (l : List ℕ). l ++ units_text us) (sym one)

small_fits : (text : List ℕ) → list_all is_small text ≡ true → Sixteen text
small_fits [] h = tt
small_fits (u ∷ us) h =
    let p = and_parts (is_small u) (list_all is_small us) h in
    let le = leb-true u 127 (and_parts (leb 1 u) (leb u 127) p.0).1 in
    (omega (arith, le), small_fits us p.1)

small_right : (text : List ℕ) → list_all is_small text ≡ true → IsModifiedUtf8 text
small_right text h = (text, record { text_is = small_text text h; units_fit = small_fits text h })

code_right : IsWholeRight code_name
code_right = (small_right (codes "Code") refl, tt)

constant_value_right : IsWholeRight constant_value_name
constant_value_right = (small_right (codes "ConstantValue") refl, tt)

stack_map_right : IsWholeRight stack_map_name
stack_map_right = (small_right (codes "StackMapTable") refl, tt)

-- ---- the first line of a member, and the lines of the class

-- the line is allowed, its numbers fit, and its units have sixteen bits
abbrev pub Good : Line → Type 0
Good line = IsLine line × IsSized line × LineFits line

pub head_right : (line : Line) → Good line → AllRight (head_entries line)
head_right (lines.Class flags name) (is, sized, fits) = (class_right name fits.1.1.0 (inl is), tt)
head_right (Version major minor) g = tt
head_right (Super name) (is, sized, fits) = (class_right name fits.1.0 (inl is), tt)
head_right (Implements name) (is, sized, fits) = (class_right name fits.1.0 (inl is), tt)
head_right (lines.Field flags name desc None) (is, sized, fits) = ((fits.1.1.0, tt), ((fits.1.1.1.0, tt), tt))
head_right (lines.Field flags name desc (Some (IntValue n))) (is, sized, fits) = ((fits.1.1.0, tt), ((fits.1.1.1.0, tt), (constant_value_right, ((sized, tt), tt))))
head_right (lines.Field flags name desc (Some (LongValue n))) (is, sized, fits) = ((fits.1.1.0, tt), ((fits.1.1.1.0, tt), (constant_value_right, ((sized, tt), tt))))
head_right (lines.Field flags name desc (Some (StringValue units))) (is, sized, fits) =
    ((fits.1.1.0, tt), ((fits.1.1.1.0, tt), (constant_value_right, (string_right units fits.1.1.1.1.1.0, tt))))
head_right (Abstract flags name desc) (is, sized, fits) = ((fits.1.1.0, tt), ((fits.1.1.1.0, tt), tt))
head_right (lines.Method flags name desc) (is, sized, fits) = ((fits.1.1.0, tt), ((fits.1.1.1.0, tt), (code_right, tt)))
head_right (Stack n) g = tt
head_right (Locals n) g = tt
head_right (Beside aside) g = tt
head_right (Framed frame) g = tt
head_right (Does operation) g = tt
head_right End g = tt

-- ---- instructions

-- as member_entry has it
abbrev method_of : Name → Name → Name → Bool → Bool → Entry
method_of class name desc false false = Method class name desc
method_of class name desc a b = InterfaceMethod class name desc

field_right : (class name desc : Name) → IsModifiedUtf8 class → IsModifiedUtf8 name → IsModifiedUtf8 desc → IsClassText class → IsUnqualifiedName name → IsFieldDescriptor desc → IsWholeRight (Field class name desc)
field_right class name desc c n d is named described = (c, (is, (n, (d, (inl (named, described), (described, tt))))))

method_right : (class name desc : Name) (a b : Bool) → IsModifiedUtf8 class → IsModifiedUtf8 name → IsModifiedUtf8 desc → IsClassText class → IsMethodName name → IsMethodDescriptor desc → IsWholeRight (method_of class name desc a b)
method_right class name desc false false c n d is named described = (c, (is, (n, (d, (inr (named, described), (described, tt))))))
method_right class name desc false true c n d is named described = (c, (is, (n, (d, (inr (named, described), (described, tt))))))
method_right class name desc true b c n d is named described = (c, (is, (n, (d, (inr (named, described), (described, tt))))))

member_right : (op : ℕ) (class name desc : Name) (interface : Bool) → IsModifiedUtf8 class → IsModifiedUtf8 name → IsModifiedUtf8 desc
    → IsClassText class → IsFieldUse op name desc interface ⊎ IsMethodUse op name desc interface → IsWholeRight (member_entry op class name desc interface)
member_right op class name desc interface c n d is (inl used) =
    cond_both (nat_le op 181) (Field class name desc) (method_of class name desc (op == 185) interface) IsWholeRight
    (λ so. field_right class name desc c n d is used.named used.described)
    (λ other. absurd (false≢true (sym other ∙ le-leb op 181 used.to)))
member_right op class name desc interface c n d is (inr used) =
    cond_both (nat_le op 181) (Field class name desc) (method_of class name desc (op == 185) interface) IsWholeRight
    (λ so. let a = leb-true op 181 so in let b = used.from in absurd (omega (arith, a, b)))
    (λ other. method_right class name desc (op == 185) interface c n d is used.named used.described)

pub place_fits : (n : ℤ) → FitsBits 16 n → unsigned_abs n < 2 ^ 16
place_fits n (m, is, lt) = subst (λ z. unsigned_abs z < 2 ^ 16) (sym is) lt

pub instruction_right : (line : Line) → Good line → AllRight (instruction_entries line)
instruction_right (Does (Load op (IntLiteral n))) (is, sized, fits) = ((sized, tt), tt)
instruction_right (Does (Load op (StringLiteral units))) (is, sized, fits) = (string_right units fits.1.1.0, tt)
instruction_right (Does (Load op (ClassLiteral name))) (is, sized, fits) = (class_right name fits.1.1.0 is.1, tt)
instruction_right (Does (LoadLong n)) (is, sized, fits) = ((sized, tt), tt)
instruction_right (Does (Member op class name desc interface)) (is, sized, fits) =
    (member_right op class name desc interface fits.1.0 fits.1.1.0 fits.1.1.1.0 is.0 is.1, tt)
instruction_right (Does (lines.Dynamic n name desc)) (is, sized, fits) = ((fits.1.1.0, (fits.1.1.1.0, (inr is, ((place_fits n sized, is.1), tt)))), tt)
instruction_right (Does (ClassOf op class)) (is, sized, fits) = (class_right class fits.1.0 is.1, tt)
instruction_right (Does (Multi desc dims)) (is, sized, fits) = (class_right desc fits.1.0 (inr is), tt)
instruction_right line g = tt

-- ---- ranges and frames

pub catch_right : (line : Line) → Good line → AllRight (catch_entries line)
catch_right (Beside (Catch (Some class) from to handler)) (is, sized, fits) = (class_right class fits.1.0 is.0, tt)
catch_right line g = tt

pub stack_map_line_right : (line : Line) → AllRight (stack_map_entries line)
stack_map_line_right (Framed frame) = (stack_map_right, tt)
stack_map_line_right line = tt

type_right : (type : FrameType) → IsFrameType type → ItemFits (type_item type) → AllRight (type_entries type)
type_right (Simple word) is fits = tt
type_right (Object name) is fits = (class_right name fits is, tt)
type_right (New label) is fits = tt

types_right : (types : List FrameType) → AllByRecursion IsFrameType types → AllByRecursion ItemFits (map type_item types) → AllRight (flat_map type_entries types)
types_right [] is fits = tt
types_right (type ∷ types) is fits = each_append IsWholeRight (type_entries type) (flat_map type_entries types) (type_right type is.0 fits.0) (types_right types is.1 fits.1)

pub frame_right : (line : Line) → Good line → AllRight (frame_entries line)
frame_right (Framed (Stack1 type)) (is, sized, fits) = type_right type is fits.1.1.0
frame_right (Framed (Append types)) (is, sized, fits) = types_right types is.2 fits.1.1
frame_right (Framed (Full locals stack)) (is, sized, fits) =
    each_append IsWholeRight (flat_map type_entries locals) (flat_map type_entries stack)
    (types_right locals is.0 (each_first ItemFits (map type_item locals) (Exactly (codes "/") ∷ map type_item stack) fits.1.1))
    (types_right stack is.1 (each_last ItemFits (map type_item locals) (Exactly (codes "/") ∷ map type_item stack) fits.1.1).1)
frame_right line g = tt
