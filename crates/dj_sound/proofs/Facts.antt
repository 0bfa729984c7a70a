-- A set that is accepted and one that isn't, at plain values.
use Rattle.std.proofs.Common.{◌≡◌, ℕ, List, [], ◌∷◌, Some, None, codes, refl, inl, inr}
use Rattle.std.specs.List.Sorted.{IsStrictlySortedBy}
use Rattle.dj_names.specs.trusted.Library.{Library, deterministic_library, raw_library}
use Rattle.dj_class.specs.trusted.ClassFile.{ClassFile, IsMalformed}
use Rattle.dj_report.specs.declared.report.Violation.{Violation}
use Rattle.dj_report.specs.trusted.Lines.{file_line}
use Rattle.dj_model.specs.trusted.Libraries.{library_program}
use Rattle.dj_model.specs.Sound.{IsSound}
use Rattle.dj_loader.proofs.Lists.{member_first, member_none}
use Rattle.dj_declarations.specs.trusted.Files.{declared_program}
use Rattle.dj_class_set.specs.trusted.Checked.{IsLineBy}
use Rattle.dj_class_set.specs.trusted.RawRules.{AreRawViolations}
use Rattle.dj_sound.specs.Accepted.{IsAcceptedBy, IsAccepted, IsRawAccepted}
use Rattle.dj_sound.proofs.Origins.{no_line}
use Rattle.dj_sound.proofs.Whole.{accepted_is_sound, raw_accepted_is_sound}

-- the empty set violates nothing, whichever library judges
no_file_line : (judge : Library) (v : Violation) → IsLineBy judge [] v → ⊥
no_file_line judge v (inl (inl (file, m, line))) = member_none file m
no_file_line judge v (inl (inr (inl line))) = let stands = line.stands in absurd cc
no_file_line judge v (inl (inr (inr line))) = member_none line.file line.own
no_file_line judge v (inr line) = elim line.line [
  | inl (file, m, link) ↦ member_none file m
  | inr (file, m, shape) ↦ member_none file m
]

pub no_file : (judge : Library) → IsAcceptedBy judge [] []
unfolding IsStrictlySortedBy
no_file judge = record { good = tt; silent = record { in_order = tt; all = λ v. (λ m. absurd (member_none v m), λ line. absurd (no_file_line judge v line)) } }

-- and then the library alone is the program
library_alone : IsSound (library_program deterministic_library) []
library_alone = accepted_is_sound.deterministic [] [] (library_program deterministic_library) (no_file deterministic_library) (record { classes = []; each = tt; is = refl })

raw_alone : IsSound (library_program raw_library) []
raw_alone = raw_accepted_is_sound [] [] (library_program raw_library) (no_file raw_library) (record { classes = []; each = tt; is = refl })

-- which has no entry to run
no_entry : AreRawViolations [] (codes "A") [] → ⊥
unfolding declared_program
no_entry silent =
    member_none (file_line (codes "A.class") 20) ((silent.all (file_line (codes "A.class") 20)).1
    (inr (record { hierarchy = λ v line. absurd (no_file_line raw_library v (inl line)); classes = []; good = tt; lacks = refl; line = refl })))

no_run : IsRawAccepted [] (codes "A") [] → ⊥
no_run is =
    let entry = is.entry (library_program raw_library) (record { classes = []; each = tt; is = refl }) in
    let none : None ≡ Some entry.method = entry.there in absurd cc

-- a file without bytes is no class file
empty_malformed : IsMalformed []
empty_malformed c is = let spelled = is.spelled in absurd cc

empty_file : (path : List ℕ) (classes : List ClassFile) → IsAccepted ((path, []) ∷ []) classes → ⊥
empty_file path classes accepted =
    no_line ((path, []) ∷ []) classes accepted (file_line path 1) (inl (inl ((path, []), member_first (path, []) [], inl (inl empty_malformed, refl))))

-- the class files are those of the files
others : (path : List ℕ) → IsAccepted ((path, []) ∷ []) [] → ⊥
others path accepted = accepted.good

too_many : (c : ClassFile) → IsAccepted [] (c ∷ []) → ⊥
too_many c accepted = accepted.good
