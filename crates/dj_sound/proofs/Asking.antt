-- What a program asks the host: only what its library asks.
use Rattle.std.proofs.Common.{◌≡◌, List, [], ◌++◌, Some, None, Contains, codes, refl, sym, ◌∙◌, subst, arith, inl, inr}
use Rattle.dj_names.specs.declared.native.NativeId.{NativeId}
use Rattle.dj_names.specs.declared.native.NativeId.TheVariants as natives
use Rattle.dj_names.specs.trusted.Library.{Library, deterministic_library, raw_library, clocks, long, static, system_row}
use Rattle.dj_names.specs.Library.{sandbox_library}
use Rattle.dj_class.specs.trusted.ClassFile.{ClassFile}
use Rattle.dj_model.specs.trusted.Natives.{Nanos}
use Rattle.dj_model.specs.trusted.Program.{Program, Class, Method, Abstract, Native, Runs}
use Rattle.dj_model.specs.trusted.Libraries.{joined, library_class, library_method, library_program}
use Rattle.dj_model.specs.Libraries.{metered_program, sandbox_program}
use Rattle.dj_model.specs.Standing.{AsksNothing}
use Rattle.dj_model.proofs.QuietLibraries.{to_asks, metered_asks_nothing, sandbox_asks_nothing}
use Rattle.dj_class_table.proofs.Joins.{joined-append}
use Rattle.dj_class_table.proofs.Rising.{members_joined}
use Rattle.dj_loader.proofs.Lists.{member_of_either, place_of_member}
use Rattle.dj_program.specs.trusted.Programs.{AreSideBySide, IsClassIn, IsMethodIn, IsProgramIn}
use Rattle.dj_sound.specs.Laws.{OthersAskNothing}
use Rattle.dj_sound.proofs.Origins.{rows_of}
use Rattle.dj_sound.proofs.Members.{side_at}
use Rattle.dj_sound.proofs.Codes.{body_cases}

-- ---- class files

-- no method of a class file is one of the machine's own
file_runs : (file : ClassFile) (class : Class) → IsClassIn file class → (m : Method) (id : NativeId) → Contains class.methods m → m.body ≡ Native id → ⊥
file_runs file class is m id own native =
    let there : Contains is.methods m = subst (λ (c : Class). Contains c.methods m) is.is own in
    let (k, at) = place_of_member is.methods m there in
    let (info, info_at, such) = side_at (IsMethodIn file.pool) file.methods is.methods k m is.each at in
    elim (body_cases file.pool info m such) [
      | inl e ↦ (let bad : Abstract ≡ Native id = sym e ∙ native in absurd cc)
      | inr (parts, code, e) ↦ (let bad : Runs _ ≡ Native id = sym e ∙ native in absurd cc)
    ]

files_run : (files : List ClassFile) (classes : List Class) → AreSideBySide IsClassIn files classes → (class : Class) → Contains classes class
    → (m : Method) (id : NativeId) → Contains class.methods m → m.body ≡ Native id → ⊥
files_run files classes each class there m id own native =
    let (k, at) = place_of_member classes class there in
    let (file, file_at, such) = side_at IsClassIn files classes k class each at in
    file_runs file class such m id own native

-- ---- libraries

deterministic_quiet : AsksNothing (library_program deterministic_library)
unfolding metered_program
deterministic_quiet = metered_asks_nothing [] (to_asks [] tt)

sandbox_quiet : AsksNothing (library_program sandbox_library)
unfolding sandbox_program
sandbox_quiet = sandbox_asks_nothing [] (to_asks [] tt)

-- the one whose host answers has clocks
abbrev host_system : Class
host_system = library_class (system_row natives.HostIdentityHashCode clocks)

abbrev clock : Method
clock = library_method (static (codes "nanoTime") [] long natives.NanoTime)

raw_asks : AsksNothing (library_program raw_library) → ⊥
raw_asks quiet =
    let no : Some Nanos ≡ None =
    quiet host_system clock natives.NanoTime ((members_joined (rows_of raw_library) host_system).1 (4, omega arith, refl)) (2, omega arith, refl) refl [] in absurd cc

-- ---- programs

asks_nothing : (library : Library) (classes : List ClassFile) (program : Program) → AsksNothing (library_program library) → IsProgramIn library classes program → AsksNothing program
asks_nothing library classes program quiet is class m id there own native =
    let all : program ≡ joined (is.classes ++ rows_of library) [] = is.is ∙ sym (joined-append is.classes (rows_of library)) in
    let either = (members_joined (is.classes ++ rows_of library) class).0 (subst (λ (p : Program). Contains p class) all there) in
    elim (member_of_either is.classes (rows_of library) class either) [
      | inl prefix ↦ absurd (files_run classes is.classes is.each class prefix m id own native)
      | inr back ↦ quiet class m id ((members_joined (rows_of library) class).1 back) own native
    ]

pub others_ask_nothing : OthersAskNothing
others_ask_nothing = record {
  any = asks_nothing;
  deterministic = λ classes program is. asks_nothing deterministic_library classes program deterministic_quiet is;
  sandbox = λ classes program is. asks_nothing sandbox_library classes program sandbox_quiet is;
  raw = raw_asks;
}
