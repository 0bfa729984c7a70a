-- The rewritten classes of files, joined with the library of rewritten classes, are the rewritten program.
use Rattle.std.proofs.Common.{◌≡◌, Bool, true, false, List, [], ◌∷◌, map, refl, ap, ◌∙◌, if◌then◌else◌}
use Rattle.dj_names.specs.trusted.Types.{Name}
use Rattle.dj_names.specs.Types.{in_sandbox}
use Rattle.dj_names.specs.trusted.Library.{deterministic_library, stop_class}
use Rattle.dj_names.specs.Library.{below_object, accounter_class, accounter_methods, sandbox_library}
use Rattle.dj_model.specs.trusted.Program.{Program, Class, Code}
use Rattle.dj_model.specs.trusted.Libraries.{library_class, is_name_before, inserted, joined, library_program}
use Rattle.dj_model.specs.Program.{class_map}
use Rattle.dj_groups.specs.Rewritten.{rewritten_code, rewritten}

abbrev accounter : Class
accounter = library_class (below_object accounter_class accounter_methods)

abbrev stop : Class
stop = library_class (below_object stop_class [])

module _ (g : Code → Code) where
  abbrev renamed : Class → Class
  renamed c = class_map in_sandbox g c

  -- the library, by computing
  library_rewritten : library_program sandbox_library ≡ accounter ∷ stop ∷ map renamed (library_program deterministic_library)
  library_rewritten = refl

  same_order : (a b : Name) → is_name_before (in_sandbox a) (in_sandbox b) ≡ is_name_before a b
  same_order a b = refl

  placed : (c : Class) (rest : Program) → inserted (renamed c) (map renamed rest) ≡ map renamed (inserted c rest)
  placed c [] = refl
  placed c (d ∷ rest) = go (is_name_before c.name d.name) (same_order c.name d.name) (placed c rest) where
    go : (b : Bool) → is_name_before (in_sandbox c.name) (in_sandbox d.name) ≡ b → inserted (renamed c) (map renamed rest) ≡ map renamed (inserted c rest)
        → (if is_name_before (in_sandbox c.name) (in_sandbox d.name) then renamed c ∷ renamed d ∷ map renamed rest else renamed d ∷ inserted (renamed c) (map renamed rest))
        ≡ map renamed (if b then c ∷ d ∷ rest else d ∷ inserted c rest)
    go true e later = rw e refl
    go false e later = rw (e, later) refl

  joined_rewritten : (classes : List Class) (rest : Program) → joined (map renamed classes) (accounter ∷ stop ∷ map renamed rest) ≡ accounter ∷ stop ∷ map renamed (joined classes rest)
  joined_rewritten [] rest = refl
  joined_rewritten (c ∷ classes) rest = ap (inserted (renamed c)) (joined_rewritten classes rest) ∙ ap (λ (x : Program). accounter ∷ stop ∷ x) (placed c (joined classes rest))

pub program_rewritten : (classes : List Class)
    → joined (map (class_map in_sandbox (rewritten_code (joined classes (library_program deterministic_library)))) classes) (library_program sandbox_library)
    ≡ rewritten (joined classes (library_program deterministic_library))
unfolding rewritten
program_rewritten classes =
    ap (joined (map (renamed (rewritten_code (joined classes (library_program deterministic_library)))) classes)) (library_rewritten (rewritten_code (joined classes (library_program deterministic_library))))
    ∙ joined_rewritten (rewritten_code (joined classes (library_program deterministic_library))) classes (library_program deterministic_library)
