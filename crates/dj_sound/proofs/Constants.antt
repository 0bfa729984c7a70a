-- The constants with which the static fields of accepted files begin are of their kinds.
use Rattle.std.proofs.Common.{◌≡◌, ℕ, ◌<◌, ◌^◌, Bool, true, false, not, ◌||◌, List, [], ◌∷◌, map, Option, Some, None, codes, Contains, refl, sym, ap, ◌∙◌, subst, inl, inr, arith, IsTrue}
use Rattle.std.specs.Prelude.{unwrap_or, IsSomeAnd}
use Rattle.std.specs.Option.{option_map}
use Rattle.std.specs.List.{list_all}
use Rattle.dj_cursor.specs.trusted.Spelling.{u2}
use Rattle.dj_edge.specs.trusted.Held.{File}
use Rattle.dj_names.specs.declared.descriptor.Base.{Base}
use Rattle.dj_names.specs.declared.descriptor.Base.TheVariants as bases
use Rattle.dj_names.specs.declared.descriptor.Desc.TheVariants as descs
use Rattle.dj_names.specs.declared.descriptor.Ty.{Ty}
use Rattle.dj_names.specs.declared.descriptor.Kind.{Kind}
use Rattle.dj_names.specs.trusted.Descriptors.{Describes, IsType}
use Rattle.dj_names.specs.trusted.NameReading.{reads_class_name}
use Rattle.dj_names.proofs.NameLaws.{class_name_read}
use Rattle.dj_names.specs.trusted.Types.{base_type, class_type, field_kind}
use Rattle.dj_names.specs.trusted.Library.{Library, deterministic_library, raw_library}
use Rattle.dj_pool.specs.trusted.Pool.{Constant, Integer, Float, Long, Double, Text, Utf8, Class, Field, Method, InterfaceMethod, NameAndType, Handle, MethodType, Dynamic, Hole, constant_at}
use Rattle.dj_class.specs.trusted.ClassFile.{MemberInfo, ClassFile}
use Rattle.dj_file_rules.specs.trusted.Violations.{member_text}
use Rattle.dj_model.specs.trusted.Program as programs
use Rattle.dj_model.specs.trusted.Program.{Program, is_static}
use Rattle.dj_model.specs.Sound.{is_constant, is_sound_field}
use Rattle.dj_early_rules.specs.trusted.Attributes.{values_of}
use Rattle.dj_early_rules.specs.trusted.Floats.{HasFloat, NamesFloat}
use Rattle.dj_early_rules.specs.trusted.Members.{IsFloatField}
use Rattle.dj_early_rules.specs.trusted.Malformed.{IsIntText, FitsField, IsValueFor}
use Rattle.dj_early_rules.specs.trusted.Rules.{line_at}
use Rattle.dj_declarations.specs.trusted.Files.{name_in, desc_in}
use Rattle.dj_declarations.proofs.DescTests.{desc_in_is}
use Rattle.dj_loader.proofs.Lists.{member_first, of_map}
use Rattle.dj_program.specs.trusted.Naming.{value_index, constant_by, constant_of_body, constant_of_bodies, constant_in}
use Rattle.dj_program.specs.trusted.Programs.{field_in_file}
use Rattle.dj_sound.specs.Accepted.{IsAcceptedBy, OfAcceptedBy}
use Rattle.dj_sound.specs.Laws.{HasConstants, HaveConstants}
use Rattle.dj_sound.proofs.Origins.{IsOfFile, origin, no_line}
use Rattle.dj_sound.proofs.Members.{IsSoundLibrary, deterministic_sound, raw_sound, row_member}
use Rattle.dj_sound.proofs.Tests.{is_true, text_or, all_from}

-- ---- descriptors of fields

plain_field : (text : List ℕ) (ty : Ty) → Describes text (descs.Field ty) → field_kind (desc_in text) ≡ field_kind (descs.Field ty)
plain_field text ty is = ap field_kind (desc_in_is text (descs.Field ty) is)

base_type_is : (base : Base) → IsType (base_type base)
base_type_is base = record { few = omega arith; named = tt }

int_kind : (text : List ℕ) → IsIntText text → field_kind (desc_in text) ≡ field_kind (descs.Field (base_type bases.Int))
int_kind text (inl e) = plain_field text (base_type bases.Byte) (record { text_is = e; valid = base_type_is bases.Byte })
int_kind text (inr (inl e)) = plain_field text (base_type bases.Char) (record { text_is = e; valid = base_type_is bases.Char })
int_kind text (inr (inr (inl e))) = plain_field text (base_type bases.Int) (record { text_is = e; valid = base_type_is bases.Int })
int_kind text (inr (inr (inr (inl e)))) = plain_field text (base_type bases.Short) (record { text_is = e; valid = base_type_is bases.Short })
int_kind text (inr (inr (inr (inr e)))) = plain_field text (base_type bases.Boolean) (record { text_is = e; valid = base_type_is bases.Boolean })

long_kind : (text : List ℕ) → text ≡ codes "J" → field_kind (desc_in text) ≡ field_kind (descs.Field (base_type bases.Long))
long_kind text e = plain_field text (base_type bases.Long) (record { text_is = e; valid = base_type_is bases.Long })

string_named : reads_class_name true (codes "java/lang/String") ≡ true
unfolding reads_class_name
string_named = refl

string_kind : (text : List ℕ) → text ≡ codes "Ljava/lang/String;" → field_kind (desc_in text) ≡ field_kind (descs.Field (class_type (codes "java/lang/String")))
string_kind text e =
    plain_field text (class_type (codes "java/lang/String")) (record {
      text_is = e;
      valid = record { few = omega arith; named = class_name_read (codes "java/lang/String") string_named };
    })

float_has : (text : List ℕ) → text ≡ codes "F" → HasFloat text
float_has text e = (descs.Field (base_type bases.Float), record { text_is = e; valid = base_type_is bases.Float }, inl refl)

double_has : (text : List ℕ) → text ≡ codes "D" → HasFloat text
double_has text e = (descs.Field (base_type bases.Double), record { text_is = e; valid = base_type_is bases.Double }, inr refl)

-- ---- constants

constant_fits : (pool : List Constant) (k : Constant) (text : List ℕ) → FitsField k text → (HasFloat text → ⊥) → is_constant (field_kind (desc_in text)) (Some (constant_by pool k)) ≡ true
constant_fits pool (Integer n) text fits none = ap (λ (kind : Option Kind). is_constant kind (Some (programs.Int n))) (int_kind text fits)
constant_fits pool (Long n) text fits none = ap (λ (kind : Option Kind). is_constant kind (Some (programs.Long n))) (long_kind text fits)
constant_fits pool (Text index) text fits none = ap (λ (kind : Option Kind). is_constant kind (Some (constant_by pool (Text index)))) (string_kind text fits)
constant_fits pool (Float bits) text fits none = absurd (none (float_has text fits))
constant_fits pool (Double bits) text fits none = absurd (none (double_has text fits))
constant_fits pool (Utf8 t) text fits none = absurd fits
constant_fits pool (Class name) text fits none = absurd fits
constant_fits pool (Field class names) text fits none = absurd fits
constant_fits pool (Method class names) text fits none = absurd fits
constant_fits pool (InterfaceMethod class names) text fits none = absurd fits
constant_fits pool (NameAndType name desc) text fits none = absurd fits
constant_fits pool (Handle kind member) text fits none = absurd fits
constant_fits pool (MethodType desc) text fits none = absurd fits
constant_fits pool (Dynamic bootstrap names) text fits none = absurd fits
constant_fits pool Hole text fits none = absurd fits

index_reported : (index : ℕ) → index < 2 ^ 16 → value_index (u2 index) ≡ Some index
index_reported index small = ap Some (omega (arith, small))

abbrev at_index : List Constant → Option ℕ → Option Constant
at_index pool None = None
at_index pool (Some index) = constant_at pool index

constant_is : (pool : List Constant) (index : ℕ) (k : Constant) → index < 2 ^ 16 → constant_at pool index ≡ Some k → constant_of_body pool (u2 index) ≡ constant_by pool k
constant_is pool index k small found =
    ap (λ (o : Option ℕ). unwrap_or (option_map (constant_by pool) (at_index pool o)) programs.Unfit) (index_reported index small)
    ∙ ap (λ (o : Option Constant). unwrap_or (option_map (constant_by pool) o) programs.Unfit) found

value_fits : (pool : List Constant) (f : MemberInfo) (body : List ℕ) → IsValueFor pool f.desc body → (NamesFloat pool f.desc → ⊥)
    → is_constant (field_kind (desc_in (name_in pool f.desc))) (Some (constant_of_body pool body)) ≡ true
value_fits pool f body is none =
    let value : constant_of_body pool body ≡ constant_by pool is.names.constant =
    ap (constant_of_body pool) is.are ∙ constant_is pool is.index is.names.constant is.small is.names.found in
    let text : name_in pool f.desc ≡ is.names.text = ap text_or is.names.described in
    let no_float : HasFloat is.names.text → ⊥ = λ has. none (subst (λ (o : Option (List ℕ)). IsSomeAnd o HasFloat) (sym is.names.described) has) in
    rw (value, text) (constant_fits pool is.names.constant is.names.text is.names.fits no_float)

bodies_fit : (pool : List Constant) (f : MemberInfo) (kind : Option Kind) (bodies : List (List ℕ)) → ((body : List ℕ) → Contains bodies body → is_constant kind (Some (constant_of_body pool body)) ≡ true)
    → is_constant kind (constant_of_bodies pool bodies) ≡ true
bodies_fit pool f kind [] each = no_constant kind where
  no_constant : (kind : Option Kind) → is_constant kind None ≡ true
  no_constant kind = refl
bodies_fit pool f kind (body ∷ bodies) each = each body (member_first body bodies)

not_or : (b c : Bool) → c ≡ true → (not b || c) ≡ true
not_or true c e = e
not_or false c e = refl

-- ---- fields of files

module _ {judge : Library} (files : List File) (classes : List ClassFile) (accepted : IsAcceptedBy judge files classes) (class : programs.Class) (of : IsOfFile files classes class) where
  -- rule 12
  no_float_field : (f : MemberInfo) → Contains of.read.fields f → IsFloatField of.read.pool f → ⊥
  no_float_field f m float = no_line files classes accepted (line_at of.file.0 (member_text of.read.pool f) None 12)
      (inl (inl (
        of.file,
        of.among,
        inr (
          of.read,
          of.good,
          inr (inr (inl (record {
            member = f;
            own = m;
            number = None;
            rule = 12;
            such = (float, refl, refl);
            line = refl;
          }))),
        ),
      )))

  -- rule 1
  field_fits : (f : MemberInfo) → Contains of.read.fields f → is_sound_field (field_in_file of.read.pool f) ≡ true
  unfolding constant_in
  field_fits f m =
      let kind = field_kind (desc_in (name_in of.read.pool f.desc)) in
      not_or (is_static f.flags) (is_constant kind (constant_in of.read.pool f))
      (bodies_fit of.read.pool f kind (values_of of.read.pool f) (λ body there.
      is_true (is_constant kind (Some (constant_of_body of.read.pool body))) (λ bad.
      of.good.whole (inr (
        f,
        m,
        inr (
          body,
          there,
          λ is.
              let fits : is_constant kind (Some (constant_of_body of.read.pool body)) ≡ true = value_fits of.read.pool f body is (no_float_field f m) in
              absurd cc,
        ),
      )))))

  file_fields : IsTrue (list_all is_sound_field class.fields)
  file_fields =
      let own = map (field_in_file of.read.pool) of.read.fields in
      let all : list_all is_sound_field own ≡ true = all_from is_sound_field own (λ f there.
      let (info, m, e) = of_map (field_in_file of.read.pool) of.read.fields f there in
      subst (λ (x : programs.Field). is_sound_field x ≡ true) e (field_fits info m)) in
      subst (λ (c : programs.Class). IsTrue (list_all is_sound_field c.fields)) (sym of.is.is) all

pub constants : {judge : Library} (library : Library) → IsSoundLibrary library → OfAcceptedBy judge library HasConstants
constants library sound files classes program accepted is class m =
    elim (origin library files classes program accepted.good is class m) [
      | inl of ↦ file_fields files classes accepted class of
      | inr row ↦ (sound.classes class (row_member library class row)).fields
    ]

pub have_constants : HaveConstants
have_constants = record { deterministic = constants deterministic_library deterministic_sound; raw = constants raw_library raw_sound }
