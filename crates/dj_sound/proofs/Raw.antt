-- What look-ups find among the files' classes and the deterministic library they find with the one whose host answers: it differs in what three methods do, and has two more, which are static.
use Rattle.std.proofs.Common.{◌≡◌, ℕ, zero, suc, ◌⊎◌, Bool, true, false, not, ◌||◌, List, [], ◌∷◌, ◌++◌, map, Option, Some, None, codes, Contains, refl, sym, ap, ◌∙◌, subst, inl, inr, arith}
use Rattle.std.specs.Prelude.{if◌then◌else◌, is_none}
use Rattle.std.specs.Option.{option_map}
use Rattle.std.specs.List.{list_all, flat_map}
use Rattle.std.proofs.lemmas.List.{map-append}
use Rattle.std.proofs.lemmas.Option.{same_Some}
use Rattle.dj_edge.specs.trusted.Held.{File}
use Rattle.dj_names.specs.declared.descriptor.Desc.{Desc}
use Rattle.dj_names.specs.declared.native.NativeId.TheVariants as natives
use Rattle.dj_names.specs.trusted.Types.{Name, same_name}
use Rattle.dj_names.specs.trusted.Library.{deterministic_library, raw_library, object_row, system_row, clocks}
use Rattle.dj_class.specs.trusted.ClassFile.{ClassFile}
use Rattle.dj_library.specs.trusted.Heads.{Head, library_heads}
use Rattle.dj_model.specs.trusted.Types.{Member, object_name}
use Rattle.dj_model.specs.trusted.Program.{Program, Class, Method, class_at, superclass_of, interfaces_of, flags_of, is_interface, is_named, method_in, method_of, is_static}
use Rattle.dj_model.specs.trusted.Linking.{most_classes, chain_of, chain, interfaces_from, interfaces_above, is_among, FoundMethod, method_or, first_method, any_method, is_plain, member_class, method_chain, or_else, resolve_method}
use Rattle.dj_model.specs.trusted.Libraries.{library_method, library_class, joined}
use Rattle.dj_model.proofs.MappedNames.{either}
use Rattle.dj_model.proofs.SoundLinks.{class_contained, method_contained}
use Rattle.dj_declarations.specs.trusted.Files.{declared_class}
use Rattle.dj_declarations.specs.Files.{bare_class}
use Rattle.dj_class_table.specs.ClassRows.{RiseStrictly}
use Rattle.dj_class_table.proofs.Orders.{names_from_same, same_from_names}
use Rattle.dj_class_table.proofs.Joins.{declared_program-joined}
use Rattle.dj_class_table.proofs.Rising.{members_joined}
use Rattle.dj_link_rules.specs.trusted.Named.{is_static_field, is_static_method}
use Rattle.dj_loader.proofs.Lists.{member_first, member_later, member_none, member_cases, member_back, member_mapped, of_map}
use Rattle.dj_loader.proofs.Filled.{mapped_joined}
use Rattle.dj_program.specs.trusted.Programs.{IsProgramIn}
use Rattle.dj_class_set.proofs.NoDoubles.{is_of_java}
use Rattle.dj_sound.specs.Accepted.{IsAccepted}
use Rattle.dj_sound.proofs.Tests.{all_at}
use Rattle.dj_sound.proofs.Origins.{rows_of, deterministic_alike, raw_alike, holds_hierarchy, bare}
use Rattle.dj_sound.proofs.Names.{declared_rise}
use Rattle.dj_sound.proofs.Members.{raw_sound}
use Rattle.dj_sound.proofs.Heads.{at_rising}
use Rattle.dj_sound.proofs.Hierarchy.{is_below, above_class, never_below}
use Rattle.dj_sound.proofs.Operands.{Sees, sees_bare}
use Rattle.dj_sound.proofs.Methods.{judged, file_java}
use Rattle.dj_sound.proofs.Widened.{method_flags, found_flags, or_else_alike, PassesOn, passes_alike, plain_by_flags, passes_static, widened, class_wide, interfaces_above_wide, method_chain_wide, resolve_field_wide, first_alike}

-- ---- the classes in which the libraries differ

abbrev system_name : Name
system_name = codes "java/lang/System"

abbrev own_object : Class
own_object = library_class (object_row natives.ObjectHashCode natives.ObjectToString)

abbrev host_object : Class
host_object = library_class (object_row natives.HostHashCode natives.HostToString)

abbrev own_system : Class
own_system = library_class (system_row natives.IdentityHashCode [])

abbrev host_system : Class
host_system = library_class (system_row natives.HostIdentityHashCode clocks)

abbrev clock_methods : List Method
clock_methods = map library_method clocks

abbrev host_methods : Class → List Method
host_methods c =
    if same_name c.name (object_name []) then host_object.methods
    else if same_name c.name system_name then host_system.methods
    else c.methods

rows_widened : map (widened host_methods) (rows_of deterministic_library) ≡ rows_of raw_library
rows_widened = refl

-- ---- methods one after the other with the same names and flags, and then more

abbrev Alike : List Method → List Method → List Method → Type 0
Alike more [] ys = ys ≡ more
Alike more (x ∷ xs) [] = ⊥
Alike more (x ∷ xs) (y ∷ ys) = ((x.name ≡ y.name) × (x.desc ≡ y.desc) × (x.flags ≡ y.flags)) × Alike more xs ys

object_alike : Alike [] own_object.methods host_object.methods
object_alike = ((refl, refl, refl), ((refl, refl, refl), ((refl, refl, refl), ((refl, refl, refl), refl))))

system_alike : Alike clock_methods own_system.methods host_system.methods
system_alike = ((refl, refl, refl), ((refl, refl, refl), refl))

found_alike : (more xs ys : List Method) → Alike more xs ys → (name : Name) (desc : Desc) (m : Method) → method_in xs name desc ≡ Some m
    → (n : Method) × (method_in ys name desc ≡ Some n) × (m.flags ≡ n.flags)
found_alike more [] ys alike name desc m e = absurd cc
found_alike more (x ∷ xs) [] alike name desc m e = absurd alike
found_alike more (x ∷ xs) (y ∷ ys) alike name desc m e =
    by (is_named name desc x.name x.desc) refl e (found_alike more xs ys alike.1 name desc m) where
      same : is_named name desc x.name x.desc ≡ is_named name desc y.name y.desc
      same = λ i. is_named name desc (alike.0.0 i) (alike.0.1 i)

      by : (b : Bool) → is_named name desc x.name x.desc ≡ b → (if b then Some x else method_in xs name desc) ≡ Some m
          → (method_in xs name desc ≡ Some m → (n : Method) × (method_in ys name desc ≡ Some n) × (m.flags ≡ n.flags))
          → (n : Method) × (method_in (y ∷ ys) name desc ≡ Some n) × (m.flags ≡ n.flags)
      by true is found rest = (
        y,
        ap (λ (b : Bool). if b then Some y else method_in ys name desc) (sym same ∙ is),
        ap (λ (k : Method). k.flags) (sym (same_Some x m found)) ∙ alike.0.2,
      )
      by false is found rest =
          let (n, there, flags) = rest found in
          (n, ap (λ (b : Bool). if b then Some y else method_in ys name desc) (sym same ∙ is) ∙ there, flags)

none_alike : (more xs ys : List Method) → Alike more xs ys → (name : Name) (desc : Desc) → method_in xs name desc ≡ None → method_in ys name desc ≡ method_in more name desc
none_alike more [] ys alike name desc e = ap (λ (l : List Method). method_in l name desc) alike
none_alike more (x ∷ xs) [] alike name desc e = absurd alike
none_alike more (x ∷ xs) (y ∷ ys) alike name desc e =
    by (is_named name desc x.name x.desc) refl e (none_alike more xs ys alike.1 name desc) where
      same : is_named name desc x.name x.desc ≡ is_named name desc y.name y.desc
      same = λ i. is_named name desc (alike.0.0 i) (alike.0.1 i)

      by : (b : Bool) → is_named name desc x.name x.desc ≡ b → (if b then Some x else method_in xs name desc) ≡ None → (method_in xs name desc ≡ None → method_in ys name desc ≡ method_in more name desc)
          → method_in (y ∷ ys) name desc ≡ method_in more name desc
      by true is found rest = absurd cc
      by false is found rest = ap (λ (b : Bool). if b then Some y else method_in ys name desc) (sym same ∙ is) ∙ rest found

flags_alike : (xs ys : List Method) → Alike [] xs ys → (name : Name) (desc : Desc) → method_flags (method_in xs name desc) ≡ method_flags (method_in ys name desc)
flags_alike xs ys alike name desc = by (method_in xs name desc) refl where
  by : (o : Option Method) → method_in xs name desc ≡ o → method_flags o ≡ method_flags (method_in ys name desc)
  by None e = ap method_flags (sym (none_alike [] xs ys alike name desc e))
  by (Some m) e =
      let (n, there, flags) = found_alike [] xs ys alike name desc m e in
      ap Some flags ∙ ap method_flags (sym there)

-- ---- the clocks

clocks_static : list_all (λ (m : Method). is_static m.flags) clock_methods ≡ true
clocks_static = refl

object_lacks : list_all (λ (m : Method). is_none (method_in own_object.methods m.name m.desc)) clock_methods ≡ true
object_lacks = refl

none_is : {A : Type 0} (o : Option A) → is_none o ≡ true → o ≡ None
none_is None e = refl
none_is (Some x) e = absurd cc

clock_static : (name : Name) (desc : Desc) (m : Method) → method_in clock_methods name desc ≡ Some m → is_static m.flags ≡ true
clock_static name desc m e = all_at (λ (k : Method). is_static k.flags) clock_methods m clocks_static (method_contained clock_methods name desc m e).0

clock_lacks : (name : Name) (desc : Desc) (m : Method) → method_in clock_methods name desc ≡ Some m → method_in own_object.methods name desc ≡ None
clock_lacks name desc m e =
    let (there, name_is, desc_is) = method_contained clock_methods name desc m e in
    let own = none_is (method_in own_object.methods m.name m.desc) (all_at (λ (k : Method). is_none (method_in own_object.methods k.name k.desc)) clock_methods m object_lacks there) in
    (λ i. method_in own_object.methods (sym name_is i) (sym desc_is i)) ∙ own

-- ---- System, resolved in

-- by what it and Object have
abbrev picked : Option Method → Option Method → Option FoundMethod
picked x y = or_else (method_or system_name any_method x (method_or (object_name []) any_method y None)) None

abbrev seen_static : Option FoundMethod → Option Bool
seen_static found = option_map is_static_method found

static_by_flags : (a b : Option FoundMethod) → found_flags a ≡ found_flags b → seen_static a ≡ seen_static b
static_by_flags None None e = refl
static_by_flags None (Some b) e = absurd cc
static_by_flags (Some a) None e = absurd cc
static_by_flags (Some a) (Some b) e = let same : a.method.flags ≡ b.method.flags = cc in ap (λ (flags : ℕ). Some (is_static flags)) same

picked_alike : (v w x y : Option Method) → method_flags v ≡ method_flags x → method_flags w ≡ method_flags y → found_flags (picked v w) ≡ found_flags (picked x y)
picked_alike None None None None e f = refl
picked_alike None None None (Some y) e f = absurd cc
picked_alike None (Some w) None None e f = absurd cc
picked_alike None (Some w) None (Some y) e f = f
picked_alike None w (Some x) y e f = absurd cc
picked_alike (Some v) w None y e f = absurd cc
picked_alike (Some v) w (Some x) y e f = e

in_system : (name : Name) (desc : Desc) (b : Bool) → seen_static (picked (method_in own_system.methods name desc) (method_in own_object.methods name desc)) ≡ Some b
    → seen_static (picked (method_in host_system.methods name desc) (method_in host_object.methods name desc)) ≡ Some b
in_system name desc b e = by (method_in own_system.methods name desc) refl e where
  objects : method_flags (method_in own_object.methods name desc) ≡ method_flags (method_in host_object.methods name desc)
  objects = flags_alike own_object.methods host_object.methods object_alike name desc

  by : (o : Option Method) → method_in own_system.methods name desc ≡ o → seen_static (picked o (method_in own_object.methods name desc)) ≡ Some b
      → seen_static (picked (method_in host_system.methods name desc) (method_in host_object.methods name desc)) ≡ Some b
  by (Some m) is e =
      let (n, there, flags) = found_alike clock_methods own_system.methods host_system.methods system_alike name desc m is in
      sym (static_by_flags (picked (Some m) (method_in own_object.methods name desc)) (picked (method_in host_system.methods name desc) (method_in host_object.methods name desc))
      (picked_alike (Some m) (method_in own_object.methods name desc) (method_in host_system.methods name desc) (method_in host_object.methods name desc) (ap Some flags ∙ ap method_flags (sym there)) objects)) ∙ e
  by None is e = clock (method_in clock_methods name desc) refl where
    other : method_in host_system.methods name desc ≡ method_in clock_methods name desc
    other = none_alike clock_methods own_system.methods host_system.methods system_alike name desc is

    clock : (o : Option Method) → method_in clock_methods name desc ≡ o → seen_static (picked (method_in host_system.methods name desc) (method_in host_object.methods name desc)) ≡ Some b
    clock None at =
        sym (static_by_flags (picked None (method_in own_object.methods name desc)) (picked (method_in host_system.methods name desc) (method_in host_object.methods name desc))
        (picked_alike None (method_in own_object.methods name desc) (method_in host_system.methods name desc) (method_in host_object.methods name desc) (ap method_flags (sym (other ∙ at))) objects)) ∙ e
    clock (Some m) at =
        let none : seen_static (picked None (method_in own_object.methods name desc)) ≡ None = ap (λ (o : Option Method). seen_static (picked None o)) (clock_lacks name desc m at) in
        let bad : Some b ≡ None = sym e ∙ none in absurd cc

-- ---- the program that the rules judge, and the one of the other library

-- what a search finds in it
abbrev resolved : Program → Name → Name → Desc → Option FoundMethod
resolved program class name desc =
    or_else (first_method program any_method name desc (method_chain program [] class)) (first_method program is_plain name desc (interfaces_above program class))

resolved_is : (program : Program) (m : Member) → resolve_method program [] m ≡ resolved program (member_class [] m.class) m.name m.desc
unfolding resolve_method
resolved_is program m = refl

among_member : (names : List Name) (name : Name) → Contains names name → is_among names name ≡ true
among_member [] name m = absurd (member_none name m)
among_member (n ∷ names) name m = by (same_name name n) refl (member_cases n names name m) (λ later. among_member names name later) where
  by : (b : Bool) → same_name name n ≡ b → (n ≡ name) ⊎ Contains names name → (Contains names name → is_among names name ≡ true) → (b || is_among names name) ≡ true
  by true e either rest = refl
  by false e (inl same) rest = let yes : same_name name n ≡ true = same_from_names name n (sym same) in absurd cc
  by false e (inr later) rest = rest later

system_head : Head
system_head = record { name = system_name; flags = 49; superclass = Some (object_name []); interfaces = [] }

system_there : Contains library_heads system_head
unfolding library_heads system_head
system_there = (4, omega arith, refl)

none_below_system : list_all (λ (h : Head). not (is_below system_head.name h.superclass)) library_heads ≡ true
unfolding library_heads system_head
none_below_system = refl

chain_step : (program : Program) (class : Name) → chain program class ≡ class ∷ chain_of 4294967295 program (superclass_of (class_at program class))
unfolding most_classes chain_of
chain_step program class = refl

no_interfaces : (program : Program) (n : ℕ) → interfaces_from n program [] ≡ []
unfolding interfaces_from
no_interfaces program zero = refl
no_interfaces program (suc n) = refl

module _ (files : List File) (classes : List ClassFile) (program : Program) (accepted : IsAccepted files classes) (is : IsProgramIn raw_library classes program) where
  abbrev own : Program
  own = judged files classes accepted

  abbrev host : Program
  host = map (widened host_methods) own

  -- ---- the one is the other with the host's methods

  not_java : (c : Class) → (is_of_java c.name ≡ true → ⊥) → widened host_methods c ≡ c
  not_java c other =
      let no_object : same_name c.name (object_name []) ≡ false = is_no (object_name []) refl in
      let no_system : same_name c.name system_name ≡ false = is_no system_name refl in
      rw (no_object, no_system) refl where
        is_no : (name : Name) → is_of_java name ≡ true → same_name c.name name ≡ false
        is_no name java = by (same_name c.name name) refl where
          by : (b : Bool) → same_name c.name name ≡ b → b ≡ false
          by false e = refl
          by true e = absurd (other (ap is_of_java (names_from_same c.name name e) ∙ java))

  files_widened : (cs : List ClassFile) → ((c : ClassFile) → Contains cs c → Contains classes c) → map (widened host_methods) (map declared_class cs) ≡ map declared_class cs
  files_widened [] each = refl
  files_widened (c ∷ cs) each =
      let first : widened host_methods (declared_class c) ≡ declared_class c = not_java (declared_class c) (file_java files classes accepted c (each c (member_first c cs))) in
      let rest : map (widened host_methods) (map declared_class cs) ≡ map declared_class cs = files_widened cs (λ d m. each d (member_later c cs d m)) in
      λ i. first i ∷ rest i

  host_is : host ≡ map bare_class program
  host_is =
      ap (map (widened host_methods)) (declared_program-joined deterministic_library classes)
      ∙ (mapped_joined (widened host_methods) (λ c. refl) (map declared_class classes ++ rows_of deterministic_library) []
      ∙ (ap (λ (cs : List Class). joined cs []) (map-append (widened host_methods) (map declared_class classes) (rows_of deterministic_library))
      ∙ ((λ i. joined (files_widened classes (λ c m. m) i ++ rows_widened i) [])
      ∙ (sym (declared_program-joined raw_library classes)
      ∙ sym (bare raw_library files classes program accepted.good is)))))

  -- ---- its classes

  own_rise : RiseStrictly own
  own_rise = declared_rise deterministic_library deterministic_alike files classes (holds_hierarchy files classes accepted) accepted.good

  row_there : (d : Class) → Contains (rows_of deterministic_library) d → Contains own d
  row_there d m =
      subst (λ (p : Program). Contains p d) (sym (declared_program-joined deterministic_library classes))
      ((members_joined (map declared_class classes ++ rows_of deterministic_library) d).1 (member_back (map declared_class classes) (rows_of deterministic_library) d m))

  own_object_there : Contains (rows_of deterministic_library) own_object
  own_object_there = (0, omega arith, refl)

  own_system_there : Contains (rows_of deterministic_library) own_system
  own_system_there = (4, omega arith, refl)

  at_object : class_at own (object_name []) ≡ Some own_object
  at_object = at_rising own own_rise own_object (object_name []) (row_there own_object own_object_there) refl

  at_system : class_at own system_name ≡ Some own_system
  at_system = at_rising own own_rise own_system system_name (row_there own_system own_system_there) refl

  never_below_system : (c : Class) → Contains own c → c.superclass ≡ Some system_name → ⊥
  unfolding system_head
  never_below_system c m e =
      let there : Contains (map bare_class program) (widened host_methods c) = subst (λ (p : Program). Contains p (widened host_methods c)) host_is (member_mapped (widened host_methods) own c m) in
      let (d, listed, same) = of_map bare_class program (widened host_methods c) there in
      never_below raw_library raw_alike raw_sound files classes program accepted is system_head system_there refl none_below_system d listed
      (ap (λ (x : Class). x.superclass) same ∙ e)

  -- ---- methods of other classes than System

  class_alike : (class name : Name) (desc : Desc) → (class ≡ system_name → ⊥) → (o : Option Class) → class_at own class ≡ o
      → method_flags (method_of o name desc) ≡ method_flags (method_of (option_map (widened host_methods) o) name desc)
  class_alike class name desc other None at = refl
  class_alike class name desc other (Some c) at =
      let (m, named) = class_contained own class c at in
      elim (either (same_name c.name (object_name []))) [
        | inl object ↦
            let is_object : c ≡ own_object = same_Some c own_object (sym at ∙ (ap (class_at own) (sym named ∙ names_from_same c.name (object_name []) object) ∙ at_object)) in
            subst (λ (x : Class). method_flags (method_in x.methods name desc) ≡ method_flags (method_in (host_methods x) name desc)) (sym is_object)
            (flags_alike own_object.methods host_object.methods object_alike name desc)
        | inr no_object ↦ elim (either (same_name c.name system_name)) [
          | inl system ↦ absurd (other (sym named ∙ names_from_same c.name system_name system))
          | inr no_system ↦ rw (no_object, no_system) refl
        ]
      ]

  alike_at : (class name : Name) (desc : Desc) → (class ≡ system_name → ⊥) → method_flags (method_of (class_at own class) name desc) ≡ method_flags (method_of (class_at host class) name desc)
  alike_at class name desc other =
      class_alike class name desc other (class_at own class) refl
      ∙ ap (λ (o : Option Class). method_flags (method_of o name desc)) (sym (class_wide host_methods own own class))

  -- ---- and of all, among interfaces

  plain_system : (name : Name) (desc : Desc) → PassesOn system_name is_plain (method_in own_system.methods name desc) (method_in host_system.methods name desc)
  plain_system name desc = by (method_in own_system.methods name desc) refl where
    by : (o : Option Method) → method_in own_system.methods name desc ≡ o → PassesOn system_name is_plain o (method_in host_system.methods name desc)
    by (Some m) at =
        let (n, there, flags) = found_alike clock_methods own_system.methods host_system.methods system_alike name desc m at in
        passes_alike system_name is_plain plain_by_flags (Some m) (method_in host_system.methods name desc) (ap Some flags ∙ ap method_flags (sym there))
    by None at = clock (method_in clock_methods name desc) refl where
      other : method_in host_system.methods name desc ≡ method_in clock_methods name desc
      other = none_alike clock_methods own_system.methods host_system.methods system_alike name desc at

      clock : (o : Option Method) → method_in clock_methods name desc ≡ o → PassesOn system_name is_plain None (method_in host_system.methods name desc)
      clock None e = subst (PassesOn system_name is_plain None) (sym (other ∙ e)) (passes_alike system_name is_plain plain_by_flags None None refl)
      clock (Some m) e = subst (PassesOn system_name is_plain None) (sym (other ∙ e)) (passes_static system_name m (clock_static name desc m e))

  plain_passes : (class name : Name) (desc : Desc) → PassesOn class is_plain (method_of (class_at own class) name desc) (method_of (class_at host class) name desc)
  plain_passes class name desc = elim (either (same_name class system_name)) [
    | inl system ↦
        let class_is = names_from_same class system_name system in
        subst (λ (k : Name). PassesOn k is_plain (method_of (class_at own k) name desc) (method_of (class_at host k) name desc)) (sym class_is)
        (subst (λ (o : Option Class). PassesOn system_name is_plain (method_of (class_at own system_name) name desc) (method_of o name desc)) (sym (class_wide host_methods own own system_name))
        (subst (λ (o : Option Class). PassesOn system_name is_plain (method_of o name desc) (method_of (option_map (widened host_methods) o) name desc)) (sym at_system) (plain_system name desc)))
    | inr other ↦
        passes_alike class is_plain plain_by_flags (method_of (class_at own class) name desc) (method_of (class_at host class) name desc)
        (alike_at class name desc (λ e. (let yes : same_name class system_name ≡ true = same_from_names class system_name e in absurd cc)))
  ]

  interfaces_alike : (class name : Name) (desc : Desc)
      → found_flags (first_method own is_plain name desc (interfaces_above own class)) ≡ found_flags (first_method host is_plain name desc (interfaces_above host class))
  interfaces_alike class name desc =
      first_alike host_methods own is_plain name desc (interfaces_above own class) (λ k m. plain_passes k name desc)
      ∙ ap (λ (names : List Name). found_flags (first_method host is_plain name desc names)) (sym (interfaces_above_wide host_methods own class))

  -- ---- resolved in another class than System

  object_apart : object_name [] ≡ system_name → ⊥
  object_apart e = let yes : same_name (object_name []) system_name ≡ true = same_from_names (object_name []) system_name e in absurd cc

  chain_apart : (class : Name) → (class ≡ system_name → ⊥) → (k : Name) → Contains (chain own class) k → k ≡ system_name → ⊥
  chain_apart class other k m e =
      elim (member_cases class (chain_of 4294967295 own (superclass_of (class_at own class))) k (subst (λ (names : List Name). Contains names k) (chain_step own class) m)) [
        | inl first ↦ other (first ∙ e)
        | inr later ↦
            let among = among_member (chain_of 4294967295 own (superclass_of (class_at own class))) system_name
            (subst (Contains (chain_of 4294967295 own (superclass_of (class_at own class)))) e later) in
            let (c, there, below) = above_class own 4294967295 class system_name among in
            never_below_system c there below
      ]

  method_chain_apart : (class : Name) → (class ≡ system_name → ⊥) → (k : Name) → Contains (method_chain own [] class) k → k ≡ system_name → ⊥
  method_chain_apart class other k = by (is_interface (flags_of (class_at own class))) where
    by : (b : Bool) → Contains (if b then class ∷ object_name [] ∷ [] else chain own class) k → k ≡ system_name → ⊥
    by true m e = elim (member_cases class (object_name [] ∷ []) k m) [
      | inl first ↦ other (first ∙ e)
      | inr later ↦ elim (member_cases (object_name []) [] k later) [
        | inl second ↦ object_apart (second ∙ e)
        | inr none ↦ member_none k none
      ]
    ]
    by false m e = chain_apart class other k m e

  resolved_alike : (class name : Name) (desc : Desc) → (class ≡ system_name → ⊥) → found_flags (resolved own class name desc) ≡ found_flags (resolved host class name desc)
  resolved_alike class name desc other =
      or_else_alike (first_method own any_method name desc (method_chain own [] class)) (first_method own is_plain name desc (interfaces_above own class))
      (first_method host any_method name desc (method_chain host [] class)) (first_method host is_plain name desc (interfaces_above host class))
      (first_alike host_methods own any_method name desc (method_chain own [] class) (λ k m.
      passes_alike k any_method (λ x y e. refl) (method_of (class_at own k) name desc) (method_of (class_at host k) name desc) (alike_at k name desc (method_chain_apart class other k m)))
      ∙ ap (λ (names : List Name). found_flags (first_method host any_method name desc names)) (sym (method_chain_wide host_methods own class)))
      (interfaces_alike class name desc)

  -- ---- and in System

  chain_system : chain own system_name ≡ system_name ∷ object_name [] ∷ []
  unfolding chain_of
  chain_system =
      chain_step own system_name
      ∙ (ap (λ (o : Option Class). system_name ∷ chain_of 4294967295 own (superclass_of o)) at_system
      ∙ ap (λ (o : Option Class). system_name ∷ object_name [] ∷ chain_of 4294967294 own (superclass_of o)) at_object)

  method_chain_system : method_chain own [] system_name ≡ system_name ∷ object_name [] ∷ []
  method_chain_system = ap (λ (o : Option Class). if is_interface (flags_of o) then system_name ∷ object_name [] ∷ [] else chain own system_name) at_system ∙ chain_system

  interfaces_system : interfaces_above own system_name ≡ []
  unfolding interfaces_above
  interfaces_system =
      ap (flat_map (λ c. interfaces_from most_classes own (interfaces_of (class_at own c)))) chain_system
      ∙ ((λ i. interfaces_from most_classes own (interfaces_of (at_system i)) ++ (interfaces_from most_classes own (interfaces_of (at_object i)) ++ []))
      ∙ (λ i. no_interfaces own most_classes i ++ (no_interfaces own most_classes i ++ [])))

  own_resolved : (name : Name) (desc : Desc) → resolved own system_name name desc ≡ picked (method_in own_system.methods name desc) (method_in own_object.methods name desc)
  own_resolved name desc =
      (λ i. or_else (first_method own any_method name desc (method_chain_system i)) (first_method own is_plain name desc (interfaces_system i)))
      ∙ (λ i. picked (method_of (at_system i) name desc) (method_of (at_object i) name desc))

  host_object_at : class_at host (object_name []) ≡ Some (widened host_methods own_object)
  host_object_at = class_wide host_methods own own (object_name []) ∙ ap (option_map (widened host_methods)) at_object

  host_system_at : class_at host system_name ≡ Some (widened host_methods own_system)
  host_system_at = class_wide host_methods own own system_name ∙ ap (option_map (widened host_methods)) at_system

  host_resolved : (name : Name) (desc : Desc) → resolved host system_name name desc ≡ picked (method_in host_system.methods name desc) (method_in host_object.methods name desc)
  host_resolved name desc =
      (λ i. or_else (first_method host any_method name desc (method_chain_wide host_methods own system_name i)) (first_method host is_plain name desc (interfaces_above_wide host_methods own system_name i)))
      ∙ ((λ i. or_else (first_method host any_method name desc (method_chain_system i)) (first_method host is_plain name desc (interfaces_system i)))
      ∙ (λ i. picked (method_of (host_system_at i) name desc) (method_of (host_object_at i) name desc)))

  -- ---- both

  resolved_seen : (class name : Name) (desc : Desc) (b : Bool) → seen_static (resolved own class name desc) ≡ Some b → seen_static (resolved host class name desc) ≡ Some b
  resolved_seen class name desc b e = elim (either (same_name class system_name)) [
    | inl system ↦
        let class_is = names_from_same class system_name system in
        let found : seen_static (picked (method_in own_system.methods name desc) (method_in own_object.methods name desc)) ≡ Some b =
        ap seen_static (sym (own_resolved name desc)) ∙ subst (λ (k : Name). seen_static (resolved own k name desc) ≡ Some b) class_is e in
        subst (λ (k : Name). seen_static (resolved host k name desc) ≡ Some b) (sym class_is)
        (ap seen_static (host_resolved name desc) ∙ in_system name desc b found)
    | inr other ↦
        sym (static_by_flags (resolved own class name desc) (resolved host class name desc)
        (resolved_alike class name desc (λ same. (let yes : same_name class system_name ≡ true = same_from_names class system_name same in absurd cc)))) ∙ e
  ]

  methods_seen : (m : Member) (b : Bool) → seen_static (resolve_method own [] m) ≡ Some b → seen_static (resolve_method host [] m) ≡ Some b
  methods_seen m b e =
      ap seen_static (resolved_is host m)
      ∙ resolved_seen (member_class [] m.class) m.name m.desc b (ap seen_static (sym (resolved_is own m)) ∙ e)

  host_sees : Sees own host
  host_sees = record {
    classes = λ name some. by name (class_at own name) refl some;
    fields = λ m b e. ap (option_map is_static_field) (resolve_field_wide host_methods own m) ∙ e;
    methods = methods_seen;
  } where
    by : (name : Name) (o : Option Class) → class_at own name ≡ o → (class_at own name ≡ None → ⊥) → (c : Class) × (class_at host name ≡ Some c)
    by name None at some = absurd (some at)
    by name (Some c) at some = (widened host_methods c, class_wide host_methods own own name ∙ ap (option_map (widened host_methods)) at)

  some_not_none : (name : Name) (c : Class) → class_at host name ≡ Some c → class_at host name ≡ None → ⊥
  some_not_none name c at none = let bad : Some c ≡ None = sym at ∙ none in absurd cc

  pub raw_seen : Sees own program
  raw_seen =
      let bare_sees : Sees host program = subst (λ (p : Program). Sees p program) (sym host_is) (sees_bare program) in
      record {
        classes = λ name some. (let (c, at) = host_sees.classes name some in bare_sees.classes name (some_not_none name c at));
        fields = λ m b e. bare_sees.fields m b (host_sees.fields m b e);
        methods = λ m b e. bare_sees.methods m b (host_sees.methods m b e);
      }
