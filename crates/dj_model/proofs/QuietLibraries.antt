-- The deterministic library and that of rewritten classes ask the host nothing.
use Rattle.std.proofs.Common.{◌≡◌, zero, suc, Bool, true, false, List, [], ◌∷◌, map, None, refl, sym, subst, arith, Contains}
use Rattle.std.specs.Prelude.{⊤}
use Rattle.std.specs.List.{list_all}
use Rattle.dj_names.specs.declared.run.Value.{Value}
use Rattle.dj_names.specs.declared.native.NativeId.{NativeId}
use Rattle.dj_names.specs.declared.native.NativeId.TheVariants as natives
use Rattle.dj_names.specs.trusted.Library.{deterministic_library}
use Rattle.dj_names.specs.Library.{sandbox_library}
use Rattle.dj_model.specs.trusted.Program.{Program, Class, Method, Body, Native}
use Rattle.dj_model.specs.trusted.Libraries.{library_class, is_name_before, inserted, joined}
use Rattle.dj_model.specs.Libraries.{metered_program, sandbox_program}
use Rattle.dj_model.specs.trusted.Natives.{asks}
use Rattle.dj_model.specs.Standing.{AsksNothing}
use Rattle.dj_model.proofs.Flows.{either_way}
use Rattle.dj_model.proofs.SoundLinks.{both_parts}
use Rattle.dj_model.proofs.SoundFrames.{all_at}

abbrev pub is_quiet : NativeId → Bool
is_quiet natives.HostHashCode = false
is_quiet natives.HostToString = false
is_quiet natives.HostIdentityHashCode = false
is_quiet natives.NanoTime = false
is_quiet natives.CurrentTimeMillis = false
is_quiet id = true

quiet_asks : (id : NativeId) (args : List Value) → is_quiet id ≡ true → asks id args ≡ None
quiet_asks natives.HostHashCode args e = absurd cc
quiet_asks natives.HostToString args e = absurd cc
quiet_asks natives.HostIdentityHashCode args e = absurd cc
quiet_asks natives.NanoTime args e = absurd cc
quiet_asks natives.CurrentTimeMillis args e = absurd cc
quiet_asks _ args e = refl

abbrev pub is_quiet_body : Body → Bool
is_quiet_body (Native id) = is_quiet id
is_quiet_body body = true

abbrev pub is_quiet_class : Class → Bool
is_quiet_class c = list_all (λ (m : Method). is_quiet_body m.body) c.methods

-- each class asks nothing
abbrev pub Quiet : Class → Type 0
Quiet c = (m : Method) (id : NativeId) → Contains c.methods m → m.body ≡ Native id → (args : List Value) → asks id args ≡ None

abbrev pub AllQuiet : List Class → Type 0
AllQuiet [] = ⊤
AllQuiet (c ∷ classes) = Quiet c × AllQuiet classes

quiet_class : (c : Class) → is_quiet_class c ≡ true → Quiet c
quiet_class c e m id there body args =
    let quiet = all_at (λ (m : Method). is_quiet_body m.body) c.methods m e there in
    quiet_asks id args (subst (λ (b : Body). is_quiet_body b ≡ true) body quiet)

pub quiet_all : (classes : List Class) → list_all is_quiet_class classes ≡ true → AllQuiet classes
quiet_all [] e = tt
quiet_all (c ∷ classes) e = let p = both_parts (is_quiet_class c) (list_all is_quiet_class classes) e in (quiet_class c p.0, quiet_all classes p.1)

from_asks : (classes : List Class) → AsksNothing classes → AllQuiet classes
from_asks [] q = tt
from_asks (c ∷ classes) q = (
  λ m id there body args. q c m id (zero, omega arith, refl) there body args,
  from_asks classes (λ d m id there in_class body args. q d m id (suc there.0, (let lt = there.1 in omega (arith, lt)), there.2) in_class body args),
)

pub to_asks : (classes : List Class) → AllQuiet classes → AsksNothing classes
to_asks [] q d m id (n, lt, is) in_class body args = absurd (omega (arith, lt))
to_asks (c ∷ classes) q d m id (zero, lt, is) in_class body args = q.0 m id (subst (λ (k : Class). Contains k.methods m) (sym is) in_class) body args
to_asks (c ∷ classes) q d m id (suc n, lt, is) in_class body args = to_asks classes q.1 d m id (n, omega (arith, lt), is) in_class body args

inserted_quiet : (c : Class) (program : Program) → Quiet c → AllQuiet program → AllQuiet (inserted c program)
inserted_quiet c [] q all = (q, tt)
inserted_quiet c (d ∷ classes) q all = either_way AllQuiet (is_name_before c.name d.name) _ _ (q, all) (all.0, inserted_quiet c classes q all.1)

joined_quiet : (classes : List Class) (program : Program) → AllQuiet classes → AllQuiet program → AllQuiet (joined classes program)
joined_quiet [] program q all = all
joined_quiet (c ∷ classes) program q all = inserted_quiet c (joined classes program) q.0 (joined_quiet classes program q.1 all)

deterministic_quiet : list_all is_quiet_class (map library_class deterministic_library) ≡ true
deterministic_quiet = refl

sandbox_quiet : list_all is_quiet_class (map library_class sandbox_library) ≡ true
sandbox_quiet = refl

pub metered_asks_nothing : (files : List Class) → AsksNothing files → AsksNothing (metered_program files)
unfolding metered_program
metered_asks_nothing files q = to_asks (metered_program files)
    (joined_quiet files _ (from_asks files q) (joined_quiet (map library_class deterministic_library) [] (quiet_all (map library_class deterministic_library) deterministic_quiet) tt))

pub sandbox_asks_nothing : (files : List Class) → AsksNothing files → AsksNothing (sandbox_program files)
unfolding sandbox_program
sandbox_asks_nothing files q = to_asks (sandbox_program files)
    (joined_quiet files _ (from_asks files q) (joined_quiet (map library_class sandbox_library) [] (quiet_all (map library_class sandbox_library) sandbox_quiet) tt))
