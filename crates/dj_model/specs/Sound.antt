-- Programs that are well formed, and programs that are sound: no step of their runs is ill-formed.
use Rattle.std.specs.Prelude.{◌≡◌, ℕ, ◌<◌, ◌≤◌, ⊤, Bool, true, false, not, ◌&&◌, ◌||◌, List, [], ◌∷◌, length, Option, Some, None, Contains, nat_eq, nat_lt, IsTrue}
use Rattle.std.specs.List.{list_all, list_any}
use Rattle.dj_names.specs.declared.descriptor.Kind.{Kind}
use Rattle.dj_names.specs.declared.descriptor.Kind.TheVariants as kinds
use Rattle.dj_names.specs.declared.descriptor.Of.{Of}
use Rattle.dj_names.specs.declared.descriptor.Of.TheVariants as ofs
use Rattle.dj_names.specs.declared.descriptor.Ty.{Ty}
use Rattle.dj_names.specs.declared.native.NativeId.{NativeId}
use Rattle.dj_names.specs.trusted.Types.{Name, same_name, class_type, field_kind}
use Rattle.dj_ops.specs.declared.frames.Frame.{Frame}
use Rattle.dj_model.specs.trusted.Types.{Member, Prefix, object_name, string_name, initialiser_name, is_stop}
use Rattle.dj_model.specs.trusted.Instructions.{Named, AClass, Instruction, GetStatic, PutStatic, GetField, PutField, Invoke, New, NewArray, CheckCast, InstanceOf, Other, targets}
use Rattle.dj_model.specs.trusted.Program.{Program, Class, Method, Field, Constant, Int, Long, Text, Body, Abstract, Native, Runs, Code, Range, class_at, is_named, is_static, is_interface, flags_of}
use Rattle.dj_model.specs.trusted.Linking.{chain, superclasses, is_among, member_class, resolve_field, resolve_method, FoundField, FoundMethod}
use Rattle.dj_model.specs.trusted.Libraries.{is_name_before}
use Rattle.dj_model.specs.trusted.Kinds.{Signature, signature_of}
use Rattle.dj_model.specs.NativeKinds.{native_signature}
use Rattle.dj_model.specs.trusted.Numbers.{agrees}
use Rattle.dj_model.specs.trusted.Shape.{is_static_mode}
use Rattle.dj_model.specs.Shape.{HasShape}

-- ---- well-formed programs

-- names rise strictly
abbrev pub names_rise : Program → Bool
names_rise [] = true
names_rise (c ∷ []) = true
names_rise (c ∷ (d ∷ classes)) = is_name_before c.name d.name && names_rise (d ∷ classes)

abbrev pub fields_differ : List Field → Bool
fields_differ [] = true
fields_differ (f ∷ fields) = not (list_any (λ other. is_named f.name f.desc other.name other.desc) fields) && fields_differ fields

abbrev pub methods_differ : List Method → Bool
methods_differ [] = true
methods_differ (m ∷ methods) = not (list_any (λ other. is_named m.name m.desc other.name other.desc) methods) && methods_differ methods

-- the superclasses are classes of the program, up to one without a superclass
pub data ReachesTop (program : Program) : Name → Type 0 where
  top : (class : Name) (c : Class) → class_at program class ≡ Some c → c.superclass ≡ None → ReachesTop program class
  below : (class above : Name) (c : Class) → class_at program class ≡ Some c → c.superclass ≡ Some above → ReachesTop program above → ReachesTop program class

-- JVMS 4.9.1: code isn't empty, and its targets, handlers, ranges and frames are at instructions
pub record IsCode (code : Code) : Type 0 where
  pub some : 0 < length code.instructions
  pub targets_within : (i : Instruction) → Contains code.instructions i → IsTrue (list_all (λ target. nat_lt target (length code.instructions)) (targets i))
  pub handlers_within : (range : Range) → Contains code.ranges range → range.handler < length code.instructions
  pub ranges_within : (range : Range) → Contains code.ranges range → (range.start < range.end) × (range.end ≤ length code.instructions)
  pub frames_within : (frames : List Frame) → code.frames ≡ Some frames → (f : Frame) → Contains frames f → f.at < length code.instructions

abbrev pub IsBody : Body → Type 0
IsBody (Runs code) = IsCode code
IsBody body = ⊤

pub record IsClass (program : Program) (c : Class) : Type 0 where
  pub fields : IsTrue (fields_differ c.fields)
  pub methods : IsTrue (methods_differ c.methods)
  pub ends : ReachesTop program c.name
  pub codes : (m : Method) → Contains c.methods m → IsBody m.body

pub record IsProgram (program : Program) : Type 0 where
  pub names : IsTrue (names_rise program)
  pub classes : (c : Class) → Contains program c → IsClass program c

-- ---- what operands and catch types name

-- a class of the program, or an array of one or of a base type
abbrev pub is_there : Program → Of → ℕ → Bool
is_there program (ofs.Base base) dims = not (nat_eq dims 0)
is_there program (ofs.Class name) dims = is_known (class_at program name) where
  is_known : Option Class → Bool
  is_known None = false
  is_known (Some c) = true

abbrev pub is_class_of : Program → Ty → Bool
is_class_of program ty = is_there program ty.of ty.dims

-- the member is there, and it is static or isn't
abbrev pub is_field_found : Bool → Option FoundField → Bool
is_field_found static None = false
is_field_found static (Some found) = agrees static (is_static found.field.flags)

abbrev pub is_method_found : Bool → Option FoundMethod → Bool
is_method_found static None = false
is_method_found static (Some found) = agrees static (is_static found.method.flags)

-- no instruction names an initialiser, nor a field by its name
abbrev pub is_field_linked : Program → Prefix → Bool → Member → Bool
is_field_linked program prefix static m =
    is_class_of program m.class && not (same_name m.name initialiser_name) && is_field_found static (resolve_field program prefix m)

abbrev pub is_method_linked : Program → Prefix → Bool → Member → Bool
is_method_linked program prefix static m =
    is_class_of program m.class && not (same_name m.name initialiser_name) && is_method_found static (resolve_method program prefix m)

-- new makes no array, no text and no object that stops a run
abbrev pub is_new : Program → Prefix → Ty → Bool
is_new program prefix ty =
    is_class_of program ty && nat_eq ty.dims 0 && not (same_name (member_class prefix ty) (string_name prefix)) && not (is_stop prefix ty)

-- each operand names what the instruction requires; an unsupported instruction is allowed nowhere
unfoldable pub is_linked : Program → Prefix → Instruction → Bool
is_linked program prefix (GetStatic m) = is_field_linked program prefix true m
is_linked program prefix (PutStatic m) = is_field_linked program prefix true m
is_linked program prefix (GetField m) = is_field_linked program prefix false m
is_linked program prefix (PutField m) = is_field_linked program prefix false m
is_linked program prefix (Invoke mode m) = is_method_linked program prefix (is_static_mode mode) m
is_linked program prefix (New class) = is_new program prefix class
is_linked program prefix (NewArray class element) = is_class_of program class && not (nat_eq class.dims 0) && nat_lt class.dims 256
is_linked program prefix (CheckCast class) = is_class_of program class
is_linked program prefix (InstanceOf class) = is_class_of program class
is_linked program prefix (Other op named) = false
is_linked program prefix i = true

abbrev pub is_caught : Program → Option Named → Bool
is_caught program None = true
is_caught program (Some (AClass class)) = is_class_of program class
is_caught program (Some named) = false

-- ---- sound programs

pub record IsSoundCode (program : Program) (prefix : Prefix) (m : Method) (code : Code) : Type 0 where
  pub signature : Signature
  pub described : signature_of (is_static m.flags) m.desc ≡ Some signature
  pub shape : HasShape signature code
  pub linked : IsTrue (list_all (is_linked program prefix) code.instructions)
  pub caught : IsTrue (list_all (λ range. is_caught program range.catches) code.ranges)

-- a native method takes and gives the kinds of its descriptor
abbrev pub IsNative : Method → NativeId → Type 0
IsNative m id = signature_of (is_static m.flags) m.desc ≡ Some (native_signature id)

abbrev pub IsSoundBody : Program → Prefix → Method → Body → Type 0
IsSoundBody program prefix m (Runs code) = IsSoundCode program prefix m code
IsSoundBody program prefix m (Native id) = IsNative m id
IsSoundBody program prefix m Abstract = ⊤

-- a static field begins with a constant of its kind, and one without a kind with none
abbrev pub is_constant : Option Kind → Option Constant → Bool
is_constant kind None = true
is_constant (Some kinds.Int) (Some (Int z)) = true
is_constant (Some kinds.Long) (Some (Long z)) = true
is_constant (Some kinds.Ref) (Some (Text units)) = true
is_constant kind (Some constant) = false

abbrev pub is_sound_field : Field → Bool
is_sound_field f = not (is_static f.flags) || is_constant (field_kind f.desc) f.constant

abbrev pub is_interface_name : Program → Name → Bool
is_interface_name program name = is_interface (flags_of (class_at program name))

abbrev pub is_object_or_none : Prefix → Option Name → Bool
is_object_or_none prefix None = true
is_object_or_none prefix (Some name) = same_name name (object_name prefix)

pub record IsSoundClass (program : Program) (prefix : Prefix) (c : Class) : Type 0 where
  pub fields : IsTrue (list_all is_sound_field c.fields)
  pub bodies : (m : Method) → Contains c.methods m → IsSoundBody program prefix m m.body
  pub interfaces : IsTrue (list_all (is_interface_name program) c.interfaces)
  pub above_interface : IsTrue (not (is_interface c.flags) || is_object_or_none prefix c.superclass)
  -- neither texts nor the object that stops a run have classes below theirs
  pub above : IsTrue (not (is_among (superclasses (chain program c.name)) (string_name prefix)))
  pub above_stop : IsTrue (not (list_any (λ name. is_stop prefix (class_type name)) (superclasses (chain program c.name))))

pub record IsSound (program : Program) (prefix : Prefix) : Type 0 where
  pub formed : IsProgram program
  pub classes : (c : Class) → Contains program c → IsSoundClass program prefix c
