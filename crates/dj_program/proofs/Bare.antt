-- Programs without code and constants.
use Rattle.std.proofs.Common.{◌≡◌, ℕ, Bool, true, false, List, [], ◌∷◌, map, Option, Some, None, refl, sym, ap, ◌∙◌, subst, IsTrue, IsFalse, inl, inr}
use Rattle.std.specs.Prelude.{if◌then◌else◌}
use Rattle.dj_names.specs.trusted.Library.{Library, LibraryClass, LibraryMethod}
use Rattle.dj_names.specs.declared.native.NativeId.{NativeId}
use Rattle.dj_pool.specs.trusted.Pool.{Constant}
use Rattle.dj_class.specs.trusted.ClassFile.{MemberInfo, ClassFile}
use Rattle.dj_model.specs.trusted.Program.{Program, Class, Method, Field, Body, Abstract, Runs}
use Rattle.dj_model.specs.Program.{body_map}
use Rattle.dj_model.specs.trusted.Libraries.{library_method, library_class, is_name_before, inserted, joined, library_program}
use Rattle.dj_declarations.specs.trusted.Files.{is_bodiless, no_code, declared_method, declared_field, declared_class, declared_program}
use Rattle.dj_declarations.specs.Files.{bare_method, bare_field, bare_class}
use Rattle.dj_program.specs.trusted.Programs.{AreSideBySide, IsBodyIn, IsMethodIn, field_in_file, IsClassIn, IsProgramIn}
use Rattle.dj_program.specs.Laws.{BareIsDeclared}

-- ---- classes of files

bare_fields : (pool : List Constant) (fields : List MemberInfo) → map bare_field (map (field_in_file pool) fields) ≡ map (declared_field pool) fields
bare_fields pool [] = refl
bare_fields pool (f ∷ fields) = (let rest : map bare_field (map (field_in_file pool) fields) ≡ map (declared_field pool) fields = bare_fields pool fields in ap (λ (fs : List Field). declared_field pool f ∷ fs) rest)

-- by whether the method has code
abbrev chosen_body : Bool → Body
chosen_body b = if b then Abstract else Runs no_code

abbrev with_body : List Constant → MemberInfo → Body → Method
with_body pool m body = record (declared_method pool m) { body = body }

bare_body_is : (pool : List Constant) (m : MemberInfo) (body : Body) → IsBodyIn pool m body → bare_method (record (declared_method pool m) { body = body }) ≡ declared_method pool m
bare_body_is pool m body (inl (t, e)) = ap (λ (b : Body). with_body pool m (body_map (λ code. no_code) b)) e ∙ ap (λ (b : Bool). with_body pool m (chosen_body b)) (sym t)
bare_body_is pool m body (inr (f, parts, is, e)) = ap (λ (b : Body). with_body pool m (body_map (λ code. no_code) b)) e ∙ ap (λ (b : Bool). with_body pool m (chosen_body b)) (sym f)

bare_methods : (pool : List Constant) (ms : List MemberInfo) (methods : List Method) → AreSideBySide (IsMethodIn pool) ms methods → map bare_method methods ≡ map (declared_method pool) ms
bare_methods pool [] [] each = refl
bare_methods pool [] (x ∷ xs) each = absurd each
bare_methods pool (m ∷ ms) [] each = absurd each
bare_methods pool (m ∷ ms) (x ∷ xs) (is, each) =
    let first : bare_method x ≡ declared_method pool m = ap bare_method is.is ∙ bare_body_is pool m is.body is.is_body in
    let rest : map bare_method xs ≡ map (declared_method pool) ms = bare_methods pool ms xs each in
    cc

bare_class_is : (c : ClassFile) (class : Class) → IsClassIn c class → bare_class class ≡ declared_class c
unfolding declared_class
bare_class_is c class is =
    let fields : map bare_field (map (field_in_file c.pool) c.fields) ≡ map (declared_field c.pool) c.fields = bare_fields c.pool c.fields in
    let methods : map bare_method is.methods ≡ map (declared_method c.pool) c.methods = bare_methods c.pool c.methods is.methods is.each in
    ap bare_class is.is
    ∙ ap (λ (fs : List Field). record (declared_class c) { fields = fs; methods = map bare_method is.methods }) fields
    ∙ ap (λ (ms : List Method). record (declared_class c) { methods = ms }) methods

bare_classes : (files : List ClassFile) (classes : List Class) → AreSideBySide IsClassIn files classes → map bare_class classes ≡ map declared_class files
bare_classes [] [] each = refl
bare_classes [] (x ∷ xs) each = absurd each
bare_classes (c ∷ cs) [] each = absurd each
bare_classes (c ∷ cs) (x ∷ xs) (is, each) =
    let first : bare_class x ≡ declared_class c = bare_class_is c x is in
    let rest : map bare_class xs ≡ map declared_class cs = bare_classes cs xs each in
    cc

-- ---- classes of libraries

bare_library_method : (m : LibraryMethod) (native : Option NativeId) → m.native ≡ native → bare_method (library_method m) ≡ library_method m
bare_library_method m None e = cc
bare_library_method m (Some id) e = cc

bare_library_methods : (methods : List LibraryMethod) → map bare_method (map library_method methods) ≡ map library_method methods
bare_library_methods [] = refl
bare_library_methods (m ∷ ms) =
    let first : bare_method (library_method m) ≡ library_method m = bare_library_method m m.native refl in
    let rest : map bare_method (map library_method ms) ≡ map library_method ms = bare_library_methods ms in
    cc

bare_library_class : (c : LibraryClass) → bare_class (library_class c) ≡ library_class c
bare_library_class c = ap (λ (ms : List Method). record (library_class c) { methods = ms }) (bare_library_methods c.methods)

bare_library_classes : (library : Library) → map bare_class (map library_class library) ≡ map library_class library
bare_library_classes [] = refl
bare_library_classes (c ∷ cs) =
    let first : bare_class (library_class c) ≡ library_class c = bare_library_class c in
    let rest : map bare_class (map library_class cs) ≡ map library_class cs = bare_library_classes cs in
    cc

-- ---- programs

bare_chosen : (b : Bool) (p q : Program) → map bare_class (if b then p else q) ≡ if b then map bare_class p else map bare_class q
bare_chosen true p q = refl
bare_chosen false p q = refl

bare_inserted : (class : Class) (program : Program) → map bare_class (inserted class program) ≡ inserted (bare_class class) (map bare_class program)
bare_inserted class [] = refl
bare_inserted class (c ∷ classes) =
    let rest : map bare_class (inserted class classes) ≡ inserted (bare_class class) (map bare_class classes) = bare_inserted class classes in
    bare_chosen (is_name_before class.name c.name) (class ∷ c ∷ classes) (c ∷ inserted class classes)
    ∙ ap (λ (p : Program). if is_name_before class.name c.name then bare_class class ∷ bare_class c ∷ map bare_class classes else bare_class c ∷ p) rest

bare_joined : (classes : List Class) (program : Program) → map bare_class (joined classes program) ≡ joined (map bare_class classes) (map bare_class program)
bare_joined [] program = refl
bare_joined (class ∷ classes) program =
    bare_inserted class (joined classes program)
    ∙ ap (inserted (bare_class class)) (bare_joined classes program)

bare_library : (library : Library) → map bare_class (library_program library) ≡ library_program library
bare_library library = bare_joined (map library_class library) [] ∙ ap (λ (cs : List Class). joined cs []) (bare_library_classes library)

pub bare_is : BareIsDeclared
unfolding declared_program
bare_is library files program is =
    ap (map bare_class) is.is
    ∙ bare_joined is.classes (library_program library)
    ∙ ap (λ (cs : List Class). joined cs (map bare_class (library_program library))) (bare_classes files is.classes is.each)
    ∙ ap (joined (map declared_class files)) (bare_library library)
