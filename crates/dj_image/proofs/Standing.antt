-- A program with its code and constants differs from the one without them in these only, so what holds of the one holds of the other.
use Rattle.std.proofs.Common.{◌≡◌, ℕ, ◌<◌, List, [], ◌∷◌, map, length, Option, Some, None, refl, sym, ap, ◌∙◌, subst, IsTrue}
use Rattle.std.proofs.lemmas.List.{length-map}
use Rattle.std.specs.Prelude.{slice_get, nat_lt, if◌then◌else◌, unwrap_or, ◌+◌, ◌++◌}
use Rattle.std.specs.Option.{option_map}
use Rattle.std.specs.Global.{Vec}
use Rattle.dj_pool.specs.trusted.Pool.{Constant}
use Rattle.dj_names.specs.declared.run.Raised.{Raised}
use Rattle.dj_names.specs.trusted.Types.{Name}
use Rattle.dj_names.specs.trusted.Values.{raised_class}
use Rattle.dj_names.specs.declared.descriptor.Ty.{Ty}
use Rattle.dj_model.specs.trusted.Types.{Prefix}
use Rattle.dj_model.specs.trusted.Program as programs
use Rattle.dj_model.specs.trusted.Program.{Program, Class, Method, Field, Body, Abstract, Native, Runs, has_code}
use Rattle.dj_model.specs.trusted.Linking.{FoundMethod, FoundField, place_of}
use Rattle.dj_declarations.specs.Files.{bare_method, bare_field, bare_class}
use Rattle.dj_class_table.specs.Tables.{name_at, class_number, methods_at, fields_at}
use Rattle.dj_numbering.specs.Links.{Linked}
use Rattle.dj_program.specs.trusted.Codes.{CodeParts}
use Rattle.dj_program.specs.Views.{parts_of}
use Rattle.dj_program.specs.declared.code.MethodCode.{MethodCode}
use Rattle.dj_numbering.specs.declared.types.MemberOf.{MemberOf}
use Rattle.dj_numbering.specs.Typed.{Typed, texts_of, types_of, text_number, flags_at, super_at, interfaces_at, component_at, is_subtype_at, string_at, chars_at, stop_at}
use Rattle.dj_numbering.specs.Own.{raised_at}
use Rattle.dj_numbering.specs.Members.{all_methods, all_fields, field_count_at, resolved_method, resolved_field, selected, special_of, found_method_number, found_field_number, methods_before, fields_before, IsMethodThere, IsFieldThere, IsNthMethod, IsNthField, native_at}
use Rattle.dj_image.specs.declared.parts.ClassParts.{ClassParts}
use Rattle.dj_image.specs.Sources.{with_code, with_codes, with_values, class_of_source, program_of_sources}
use Rattle.dj_image.specs.Parts.{source_of, sources_of, FitMethods, FitClass, FitClasses}
use Rattle.dj_image.specs.Imaged.{Imaged, typed_of}
use Rattle.dj_image.specs.Tables.{imaged_of, AreTables}
use Rattle.dj_image.specs.declared.operand.Operand.{Operand}
use Rattle.dj_image.proofs.Bare.{bare_program, bare_found, bare_found_field}
use Rattle.dj_image.proofs.BareTyped as laws
use Rattle.dj_image.proofs.BareTyped.{bare_typed}

-- ---- a class with its code and constants

values_bare : (fields : List Field) (values : List (Option programs.Constant)) → map bare_field (with_values fields values) ≡ map bare_field fields
values_bare [] values = refl
values_bare (f ∷ fields) [] = refl
values_bare (f ∷ fields) (value ∷ values) = ap (λ (rest : List Field). bare_field f ∷ rest) (values_bare fields values)

code_bare : (pool : List Constant) (m : Method) (parts : CodeParts) → IsTrue (has_code m.body) → bare_method (with_code pool m (Some parts)) ≡ bare_method m
code_bare pool m parts has = go m.body refl where
  go : (body : Body) → m.body ≡ body → bare_method (with_code pool m (Some parts)) ≡ bare_method m
  go Abstract e = let t : IsTrue (has_code Abstract) = subst (λ (b : Body). IsTrue (has_code b)) e has in absurd cc
  go (Native id) e = let t : IsTrue (has_code (Native id)) = subst (λ (b : Body). IsTrue (has_code b)) e has in absurd cc
  go (Runs code) e = rw e refl

codes_bare : (pool : List Constant) (methods : List Method) (codes : List (Option MethodCode)) → FitMethods methods codes
    → map bare_method (with_codes pool methods (map (option_map parts_of) codes)) ≡ map bare_method methods
codes_bare pool [] [] fit = refl
codes_bare pool [] (code ∷ codes) fit = absurd fit
codes_bare pool (m ∷ methods) [] fit = absurd fit
codes_bare pool (m ∷ methods) (None ∷ codes) fit = ap (λ (rest : List Method). bare_method m ∷ rest) (codes_bare pool methods codes fit.1)
codes_bare pool (m ∷ methods) (Some code ∷ codes) fit =
    let first : bare_method (with_code pool m (Some (parts_of code))) ≡ bare_method m = code_bare pool m (parts_of code) fit.0 in
    let rest : map bare_method (with_codes pool methods (map (option_map parts_of) codes)) ≡ map bare_method methods = codes_bare pool methods codes fit.1 in
    cc

class_bare : (c : Class) (p : ClassParts) → FitClass c p → bare_class (class_of_source (source_of c p)) ≡ bare_class c
unfolding class_of_source
class_bare c p fit =
    ap (λ (fs : List Field). record (bare_class (class_of_source (source_of c p))) { fields = fs })
    (values_bare c.fields (source_of c p).values)
    ∙ ap (λ (ms : List Method). record (bare_class c) { methods = ms }) (codes_bare p.pool c.methods p.codes.items fit.methods)

pub program_bare : (program : Program) (parts : List ClassParts) → FitClasses program parts
    → bare_program (program_of_sources (sources_of program parts)) ≡ bare_program program
unfolding sources_of
program_bare [] [] fit = refl
program_bare [] (p ∷ parts) fit = absurd fit
program_bare (c ∷ classes) [] fit = absurd fit
program_bare (c ∷ classes) (p ∷ parts) fit =
    let first : bare_class (class_of_source (source_of c p)) ≡ bare_class c = class_bare c p fit.0 in
    let rest : bare_program (program_of_sources (sources_of classes parts)) ≡ bare_program classes = program_bare classes parts fit.1 in
    cc

-- ---- two programs that differ in code and constants only

pub record IsLike (a b : Typed) : Type 0 where
  pub same : bare_typed a ≡ bare_typed b

pub like_from_fit : (types : Typed) (parts : List ClassParts) (texts : List (List ℕ)) → FitClasses types.program parts
    → IsLike (typed_of (imaged_of types parts texts)) types
like_from_fit types parts texts fit = record {
  same = ap (λ (p : Program). record { program = p; prefix = types.prefix; arrays = types.arrays }) (program_bare types.program parts fit);
}

pub moved : {A : Type 0} (F : Typed → A) → ((t : Typed) → F (bare_typed t) ≡ F t) → (a b : Typed) → IsLike a b → F a ≡ F b
moved F e a b like = sym (e a) ∙ (ap F like.same ∙ e b)

module _ {a b : Typed} (like : IsLike a b) where
  pub types_like : types_of a ≡ types_of b
  types_like = moved (λ t. types_of t) laws.types_bare a b like

  pub within_like : (class : ℕ) → class < length (types_of a) → class < length (types_of b)
  within_like class within = subst (λ (types : List Ty). class < length types) types_like within

  pub texts_like : texts_of a ≡ texts_of b
  texts_like = moved (λ t. texts_of t) laws.texts_bare a b like

  pub text_number_like : (text : Name) → text_number a text ≡ text_number b text
  text_number_like text = moved (λ t. text_number t text) (λ t. laws.text_number_bare t text) a b like

  pub flags_like : (class : ℕ) → flags_at a class ≡ flags_at b class
  flags_like class = moved (λ t. flags_at t class) (λ t. laws.flags_at_bare t class) a b like

  pub super_like : (class : ℕ) → super_at a class ≡ super_at b class
  super_like class = moved (λ t. super_at t class) (λ t. laws.super_at_bare t class) a b like

  pub interfaces_like : (class : ℕ) → interfaces_at a class ≡ interfaces_at b class
  interfaces_like class = moved (λ t. interfaces_at t class) (λ t. laws.interfaces_at_bare t class) a b like

  pub component_like : (class : ℕ) → component_at a class ≡ component_at b class
  component_like class = moved (λ t. component_at t class) (λ t. laws.component_at_bare t class) a b like

  pub subtype_like : (c d : ℕ) → is_subtype_at a c d ≡ is_subtype_at b c d
  subtype_like c d = moved (λ t. is_subtype_at t c d) (λ t. laws.is_subtype_at_bare t c d) a b like

  pub string_like : string_at a ≡ string_at b
  string_like = moved (λ t. string_at t) laws.string_at_bare a b like

  pub chars_like : chars_at a ≡ chars_at b
  chars_like = moved (λ t. chars_at t) laws.chars_at_bare a b like

  pub stop_like : stop_at a ≡ stop_at b
  stop_like = moved (λ t. stop_at t) laws.stop_at_bare a b like

  pub raised_like : (raised : Raised) → raised_at a raised ≡ raised_at b raised
  raised_like raised = moved (λ t. raised_at t raised) (λ t. laws.text_number_bare t (t.prefix ++ raised_class raised)) a b like

  pub name_at_like : (class : ℕ) → name_at a.program class ≡ name_at b.program class
  name_at_like class = moved (λ t. name_at t.program class) (λ t. laws.name_at_bare t.program class) a b like

  pub class_number_like : (name : Name) → class_number a.program name ≡ class_number b.program name
  class_number_like name = moved (λ t. class_number t.program name) (λ t. laws.number_bare t.program name) a b like

  pub field_count_like : (class : ℕ) → field_count_at a class ≡ field_count_at b class
  field_count_like class = moved (λ t. field_count_at t class) (λ t. ap (λ (count : Option ℕ). unwrap_or count 0) (laws.count_there_bare t.program class)) a b like

  pub methods_like : (class : ℕ) → length (methods_at a.program class) ≡ length (methods_at b.program class)
  methods_like class = moved (λ t. length (methods_at t.program class)) (λ t. laws.methods_at_bare t.program class) a b like

  pub fields_like : (class : ℕ) → length (fields_at a.program class) ≡ length (fields_at b.program class)
  fields_like class = moved (λ t. length (fields_at t.program class)) (λ t. laws.fields_at_bare t.program class) a b like

  pub methods_before_like : (class : ℕ) → methods_before a.program class ≡ methods_before b.program class
  methods_before_like class = moved (λ t. methods_before t.program class) (λ t. laws.methods_before_bare t.program class) a b like

  pub fields_before_like : (class : ℕ) → fields_before a.program class ≡ fields_before b.program class
  fields_before_like class = moved (λ t. fields_before t.program class) (λ t. laws.fields_before_bare t.program class) a b like

  pub nth_method_like : (class at : ℕ) (number : Option ℕ) → IsNthMethod b class at number → IsNthMethod a class at number
  nth_method_like class at number is =
      is
      ∙ ap (λ (n : ℕ). if nat_lt at n then Some (methods_before b.program class + at) else None) (sym (methods_like class))
      ∙ ap (λ (n : ℕ). if nat_lt at (length (methods_at a.program class)) then Some (n + at) else None) (sym (methods_before_like class))

  pub nth_field_like : (class at : ℕ) (number : Option ℕ) → IsNthField b class at number → IsNthField a class at number
  nth_field_like class at number is =
      is
      ∙ ap (λ (n : ℕ). if nat_lt at n then Some (fields_before b.program class + at) else None) (sym (fields_like class))
      ∙ ap (λ (n : ℕ). if nat_lt at (length (fields_at a.program class)) then Some (n + at) else None) (sym (fields_before_like class))

  pub method_count_like : length (all_methods a.program) ≡ length (all_methods b.program)
  method_count_like = moved (λ t. length (all_methods t.program)) (λ t. laws.method_count_bare t.program) a b like

  pub all_field_count_like : length (all_fields a.program) ≡ length (all_fields b.program)
  all_field_count_like = moved (λ t. length (all_fields t.program)) (λ t. laws.field_count_all_bare t.program) a b like

  pub method_within_like : (number : ℕ) → number < length (all_methods a.program) → number < length (all_methods b.program)
  method_within_like number within = subst (λ (n : ℕ). number < n) method_count_like within

  pub field_within_like : (number : ℕ) → number < length (all_fields a.program) → number < length (all_fields b.program)
  field_within_like number within = subst (λ (n : ℕ). number < n) all_field_count_like within

  method_pair : (number : ℕ) (x y : Option FoundMethod) → slice_get (all_methods a.program) number ≡ x → option_map bare_found x ≡ option_map bare_found y
      → (found : FoundMethod) → y ≡ Some found → (other : FoundMethod) × (slice_get (all_methods a.program) number ≡ Some other) × (bare_found other ≡ bare_found found)
  method_pair number None None there same found e = absurd cc
  method_pair number None (Some y) there same found e = absurd cc
  method_pair number (Some x) None there same found e = absurd cc
  method_pair number (Some x) (Some y) there same found e =
      let one : y ≡ found = cc in
      let two : bare_found x ≡ bare_found y = cc in
      (x, there, two ∙ ap bare_found one)

  -- the method of a number differs in its code only
  pub method_other : (number : ℕ) (found : FoundMethod) → slice_get (all_methods b.program) number ≡ Some found
      → (other : FoundMethod) × (slice_get (all_methods a.program) number ≡ Some other) × (bare_found other ≡ bare_found found)
  method_other number found there =
      method_pair number _ _ refl
      (sym (laws.method_there_bare a.program number) ∙ (ap (λ (t : Typed). slice_get (all_methods t.program) number) like.same ∙ laws.method_there_bare b.program number))
      found there

  pub method_there_like : (number : ℕ) (reported : MemberOf) → IsMethodThere b number reported → IsMethodThere a number reported
  method_there_like number reported is =
      let pair = method_other number is.found is.there in
      record {
        found = pair.0;
        there = pair.1;
        class = name_at_like reported.class ∙ (is.class ∙ sym (ap (λ (f : FoundMethod). Some f.class) pair.2));
        flags = is.flags ∙ sym (ap (λ (f : FoundMethod). f.method.flags) pair.2);
        name = is.name ∙ sym (ap (λ (f : FoundMethod). f.method.name) pair.2);
        desc = rw (ap (λ (f : FoundMethod). f.method.desc) pair.2) is.desc;
      }

  field_pair : (number : ℕ) (x y : Option FoundField) → slice_get (all_fields a.program) number ≡ x → option_map bare_found_field x ≡ option_map bare_found_field y
      → (found : FoundField) → y ≡ Some found → (other : FoundField) × (slice_get (all_fields a.program) number ≡ Some other) × (bare_found_field other ≡ bare_found_field found)
  field_pair number None None there same found e = absurd cc
  field_pair number None (Some y) there same found e = absurd cc
  field_pair number (Some x) None there same found e = absurd cc
  field_pair number (Some x) (Some y) there same found e =
      let one : y ≡ found = cc in
      let two : bare_found_field x ≡ bare_found_field y = cc in
      (x, there, two ∙ ap bare_found_field one)

  -- the field of a number differs in its constant only
  pub field_other : (number : ℕ) (found : FoundField) → slice_get (all_fields b.program) number ≡ Some found
      → (other : FoundField) × (slice_get (all_fields a.program) number ≡ Some other) × (bare_found_field other ≡ bare_found_field found)
  field_other number found there =
      field_pair number _ _ refl
      (sym (laws.field_there_bare a.program number) ∙ (ap (λ (t : Typed). slice_get (all_fields t.program) number) like.same ∙ laws.field_there_bare b.program number))
      found there

  pub field_there_like : (number : ℕ) (reported : MemberOf) → IsFieldThere b number reported → IsFieldThere a number reported
  field_there_like number reported is =
      let pair = field_other number is.found is.there in
      record {
        found = pair.0;
        there = pair.1;
        class = name_at_like reported.class ∙ (is.class ∙ sym (ap (λ (f : FoundField). Some f.class) pair.2));
        flags = is.flags ∙ sym (ap (λ (f : FoundField). f.field.flags) pair.2);
        name = is.name ∙ sym (ap (λ (f : FoundField). f.field.name) pair.2);
        desc = rw (ap (λ (f : FoundField). f.field.desc) pair.2) is.desc;
      }

  pub place_like : (number : ℕ) → option_map (place_of a.program) (slice_get (all_fields a.program) number) ≡ option_map (place_of b.program) (slice_get (all_fields b.program) number)
  place_like number = moved (λ t. option_map (place_of t.program) (slice_get (all_fields t.program) number)) (λ t. laws.place_there_bare t.program number) a b like

  pub resolved_method_like : (class : ℕ) (name : Name) (desc : List ℕ)
      → found_method_number a.program (resolved_method a class name desc) ≡ found_method_number b.program (resolved_method b class name desc)
  resolved_method_like class name desc =
      moved (λ t. found_method_number t.program (resolved_method t class name desc)) (λ t. laws.resolved_method_bare t class name desc) a b like

  pub resolved_field_like : (class : ℕ) (name : Name) (desc : List ℕ)
      → found_field_number a.program (resolved_field a class name desc) ≡ found_field_number b.program (resolved_field b class name desc)
  resolved_field_like class name desc =
      moved (λ t. found_field_number t.program (resolved_field t class name desc)) (λ t. laws.resolved_field_bare t class name desc) a b like

  pub selected_like : (method class : ℕ)
      → found_method_number a.program (selected a method class) ≡ found_method_number b.program (selected b method class)
  selected_like method class =
      moved (λ t. found_method_number t.program (selected t method class)) (λ t. laws.selected_bare t method class) a b like

  pub class_within_like : (class : ℕ) → class < length a.program → class < length b.program
  class_within_like class within =
      subst (λ (n : ℕ). class < n) (moved (λ t. length t.program) (λ t. length-map t.program bare_class) a b like) within

  pub special_like : (method class : ℕ)
      → found_method_number a.program (special_of a method class) ≡ found_method_number b.program (special_of b method class)
  special_like method class =
      moved (λ t. found_method_number t.program (special_of t method class)) (λ t. laws.special_of_bare t method class) a b like

  pub native_like : (number : ℕ) → native_at a.program number ≡ native_at b.program number
  native_like number = moved (λ t. native_at t.program number) (λ t. laws.native_at_bare t.program number) a b like

-- ---- the classes with their look-ups

abbrev pub linked : Program → Prefix → Linked
linked program prefix = record { program = program; prefix = prefix }

-- where there is no code and no constant
pub bare_linked : (a b : Typed) → IsLike a b → bare_program b.program ≡ b.program → linked b.program b.prefix ≡ linked (bare_program a.program) a.prefix
bare_linked a b like bare = ap (λ (p : Program). linked p b.prefix) (sym bare) ∙ sym (ap (λ (t : Typed). linked t.program t.prefix) like.same)

-- ---- an image and what it stands on

pub stands : {now : Imaged} {types : Typed} {parts : List ClassParts} {texts : List (List ℕ)}
    {operands : List (Vec Operand)} {named made : List (Vec (Option ℕ))} {constants : List (Vec Operand)}
    → imaged_of types parts texts ≡ now → AreTables types parts texts operands named made constants → IsLike (typed_of now) types
stands {now} {types} {parts} {texts} is tables =
    subst (λ (n : Imaged). IsLike (typed_of n) types) is (like_from_fit types parts texts tables.fit)
