-- The libraries by plain values.
use Rattle.std.specs.Prelude.{◌≡◌, ℕ, Bool, true, false, List, [], ◌∷◌, ◌++◌, map, filter, flat_map, length, Option, Some, None, codes, if◌then◌else◌}
use Rattle.std.specs.Option.{option_map}
use Rattle.std.proofs.Common.{refl, ap, arith}
use Rattle.dj_names.specs.declared.native.NativeId.{NativeId}
use Rattle.dj_names.specs.declared.native.NativeId.TheVariants as natives
use Rattle.dj_names.specs.trusted.Types.{Name, same_name}
use Rattle.dj_names.specs.trusted.Library.{LibraryMethod, LibraryClass, Library, lang, clocks, deterministic_library, raw_library}
use Rattle.dj_library.specs.trusted.Heads.{Head, head_of_library}
use Rattle.dj_library.specs.TableRows.{host_native}

abbrev is_named : Name → LibraryClass → Bool
is_named name c = same_name c.name name

abbrev class_named : Name → Library → Library
class_named name classes = filter (is_named name) classes

abbrev method_names : Library → List Name
method_names classes = flat_map (λ (c : LibraryClass). map (λ (m : LibraryMethod). m.name) c.methods) classes

abbrev method_count : Library → ℕ
method_count classes = length (method_names classes)

-- ---- how many

classes : length deterministic_library ≡ 25
classes = refl

methods : method_count deterministic_library ≡ 84
methods = refl

raw_classes : length raw_library ≡ 25
raw_classes = refl

raw_methods : method_count raw_library ≡ 86
raw_methods = refl

-- ---- names, flags and what a class stands under

string_head :
    map head_of_library (class_named (codes "java/lang/String") deterministic_library)
    ≡ record {
      name = codes "java/lang/String";
      flags = 49;
      superclass = Some (codes "java/lang/Object");
      interfaces = codes "java/lang/Comparable" ∷ codes "java/lang/CharSequence" ∷ [];
    } ∷ []
string_head = refl

-- public, final and super, and no interface
abbrev final_flags : List ℕ
final_flags = 49 ∷ []

string_flags : map (λ (c : LibraryClass). c.flags) (class_named (codes "java/lang/String") deterministic_library) ≡ 33 ∷ [] → ⊥
string_flags e = let flags : final_flags ≡ 33 ∷ [] = e in absurd cc

object_head : map head_of_library (class_named (codes "java/lang/Object") raw_library) ≡ record { name = codes "java/lang/Object"; flags = 33; superclass = None; interfaces = [] } ∷ []
object_head = refl

-- a class with other flags has another head
other_head : (c : LibraryClass) → head_of_library (record c { flags = 33 }) ≡ head_of_library (record c { flags = 1537 }) → ⊥
other_head c e = let flags : 33 ≡ 1537 = ap (λ (head : Head). head.flags) e in omega (arith, flags)

no_thread : class_named (codes "java/lang/Thread") deterministic_library ≡ []
no_thread = refl

no_thread_in_raw : class_named (codes "java/lang/Thread") raw_library ≡ []
no_thread_in_raw = refl

-- ---- the order of methods: constructors first

builder_methods :
    method_names (class_named (codes "java/lang/StringBuilder") deterministic_library)
    ≡ codes "<init>" ∷ codes "<init>" ∷ codes "append" ∷ codes "append" ∷ codes "append" ∷ codes "append" ∷ codes "append" ∷ codes "length" ∷ codes "charAt" ∷ codes "toString" ∷ []
builder_methods = refl

throwable_methods :
    method_names (class_named (codes "java/lang/Throwable") deterministic_library)
    ≡ codes "<init>" ∷ codes "<init>" ∷ codes "<init>" ∷ codes "getMessage" ∷ codes "getCause" ∷ []
throwable_methods = refl

-- ---- what differs where a host answers

abbrev is_host : NativeId → Bool
is_host natives.HostHashCode = true
is_host natives.HostToString = true
is_host natives.HostIdentityHashCode = true
is_host natives.NanoTime = true
is_host natives.CurrentTimeMillis = true
is_host native = false

abbrev is_some_host : Option NativeId → Bool
is_some_host None = false
is_some_host (Some native) = is_host native

abbrev is_host_method : LibraryMethod → Bool
is_host_method m = is_some_host m.native

-- the classes with those of their methods that a host answers
abbrev hosts_of : Library → List (Name × Name)
hosts_of classes = flat_map (λ (c : LibraryClass). map (λ (m : LibraryMethod). (c.name, m.name)) (filter is_host_method c.methods)) classes

no_hosts : hosts_of deterministic_library ≡ []
no_hosts = refl

five_hosts :
    hosts_of raw_library
    ≡ (codes "java/lang/Object", codes "hashCode")
    ∷ (codes "java/lang/Object", codes "toString")
    ∷ (codes "java/lang/System", codes "identityHashCode")
    ∷ (codes "java/lang/System", codes "nanoTime")
    ∷ (codes "java/lang/System", codes "currentTimeMillis")
    ∷ []
five_hosts = refl

abbrev hosted_method : LibraryMethod → LibraryMethod
hosted_method m = record m { native = option_map host_native m.native }

abbrev hosted_class : LibraryClass → LibraryClass
hosted_class c = record c { methods = map hosted_method c.methods ++ (if same_name c.name (lang (codes "System")) then clocks else []) }

-- but for those natives and the clocks they are one
raw_of_deterministic : map hosted_class deterministic_library ≡ raw_library
raw_of_deterministic = refl

not_as_many : method_count raw_library ≡ method_count deterministic_library → ⊥
not_as_many e = let counts : 86 ≡ 84 = e in omega (arith, counts)
