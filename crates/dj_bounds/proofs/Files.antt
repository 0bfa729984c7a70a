-- The library's classes have no initialisers.
use Rattle.std.proofs.Common.{◌≡◌, ℕ, zero, suc, ◌+◌, ◌≤◌, ◌&&◌, ◌||◌, Bool, true, false, List, [], ◌∷◌, length, Option, Some, refl, ap, ◌∙◌, sym, arith, Contains, if◌then◌else◌}
use Rattle.std.specs.List.{list_any}
use Rattle.dj_names.specs.declared.descriptor.Desc.{Desc}
use Rattle.dj_names.specs.trusted.Types.{Name}
use Rattle.dj_names.specs.trusted.Library.{deterministic_library}
use Rattle.dj_model.specs.trusted.Program.{Program, Class, Method, is_named, is_static, method_in, method_of, has_code, runs_static, class_at, has_initialiser}
use Rattle.dj_model.specs.trusted.Types.{initialiser_name, no_parameters}
use Rattle.dj_model.specs.trusted.Libraries.{is_name_before, inserted, joined, library_program}
use Rattle.dj_model.specs.Libraries.{metered_program}
use Rattle.dj_sim.specs.Metering.{one_if}
use Rattle.dj_bounds.specs.Acts.{initialisers}
use Rattle.dj_bounds.specs.Laws.{FewInitialisers}

-- some method of the class has code
abbrev runs : Class → Bool
runs c = list_any (λ (m : Method). has_code m.body) c.methods

abbrev running : Program → ℕ
running [] = 0
running (c ∷ classes) = one_if (runs c) + running classes

any_runs : (methods : List Method) (name : Name) (desc : Desc) → runs_static (method_in methods name desc) ≡ true → list_any (λ (m : Method). has_code m.body) methods ≡ true
any_runs [] name desc e = absurd (let no : false ≡ true = e in cc)
any_runs (m ∷ methods) name desc e = go (is_named name desc m.name m.desc) e (λ later. any_runs methods name desc later) where
  code_runs : (a b : Bool) → (a && b) ≡ true → b ≡ true
  code_runs true b e = e
  code_runs false b e = absurd (let no : false ≡ true = e in cc)

  or_true : (b : Bool) → (b || true) ≡ true
  or_true true = refl
  or_true false = refl

  go : (b : Bool) → runs_static (if b then Some m else method_in methods name desc) ≡ true
      → (runs_static (method_in methods name desc) ≡ true → list_any (λ (m : Method). has_code m.body) methods ≡ true)
      → (has_code m.body || list_any (λ (m : Method). has_code m.body) methods) ≡ true
  go true e more = rw (code_runs (is_static m.flags) (has_code m.body) e) refl
  go false e more = rw (more e) (or_true (has_code m.body))

one_rises : (a b : Bool) → (a ≡ true → b ≡ true) → one_if a ≤ one_if b
one_rises true b k = rw (k refl) omega arith
one_rises false b k = omega arith

module _ (program : Program) (distinct : (c : Class) → Contains program c → class_at program c.name ≡ Some c) where
  initialises_runs : (c : Class) → Contains program c → has_initialiser program c.name ≡ true → runs c ≡ true
  unfolding has_initialiser
  initialises_runs c there e = any_runs c.methods initialiser_name no_parameters
      (sym (ap (λ (o : Option Class). runs_static (method_of o initialiser_name no_parameters)) (distinct c there)) ∙ e)

  all_run : (classes : Program) → ((c : Class) → Contains classes c → Contains program c) → initialisers program classes ≤ running classes
  all_run [] among = omega arith
  all_run (c ∷ classes) among = omega (
    arith,
    one_rises (has_initialiser program c.name) (runs c) (initialises_runs c (among c (zero, omega arith, refl))),
    all_run classes (λ d there. among d (suc there.0, omega (arith, there.1), there.2)),
  )

one_inserted : (c : Class) (classes : Program) → running (inserted c classes) ≡ one_if (runs c) + running classes
one_inserted c [] = refl
one_inserted c (d ∷ classes) = go (is_name_before c.name d.name) (one_inserted c classes) where
  go : (b : Bool) → running (inserted c classes) ≡ one_if (runs c) + running classes
      → running (if b then c ∷ d ∷ classes else d ∷ inserted c classes) ≡ one_if (runs c) + (one_if (runs d) + running classes)
  go true more = refl
  go false more = omega (arith, more)

one_at_most : (b : Bool) → one_if b ≤ 1
one_at_most true = omega arith
one_at_most false = omega arith

all_joined : (files : List Class) (program : Program) → running (joined files program) ≤ length files + running program
all_joined [] program = omega arith
all_joined (c ∷ files) program = omega (arith, one_inserted c (joined files program), one_at_most (runs c), all_joined files program)

none_of_library : running (library_program deterministic_library) ≡ 0
none_of_library = refl

pub few_initialisers : FewInitialisers
unfolding metered_program
few_initialisers files distinct = omega (
  arith,
  all_run (metered_program files) distinct (metered_program files) (λ c there. there),
  all_joined files (library_program deterministic_library),
  none_of_library,
)
