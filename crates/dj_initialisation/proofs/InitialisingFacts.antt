-- What waits, what is counted and what stands above, at plain values.
use Rattle.std.proofs.Common.{◌≡◌, ℕ, true, false, List, [], ◌∷◌, codes, Option, Some, None, refl, arith}
use Rattle.std.proofs.lemmas.Bool.{false≢true}
use Rattle.dj_names.specs.declared.descriptor.Desc.{Desc}
use Rattle.dj_names.specs.declared.descriptor.Desc.TheVariants as descs
use Rattle.dj_names.specs.trusted.Library.{int}
use Rattle.dj_model.specs.trusted.Program.{Program, Class, Field}
use Rattle.dj_model.specs.trusted.Linking.{static_place}
use Rattle.dj_model.specs.SmallRuns.{class_with, field_with, initialiser_with}
use Rattle.dj_stack.specs.Frames.{new_frame}
use Rattle.dj_class_table.specs.Tables.{super_number}
use Rattle.dj_initialisation.specs.declared.initialisers.Initialiser.{Initialiser}
use Rattle.dj_initialisation.specs.declared.prepare.Prepared.TheVariants as prepared
use Rattle.dj_initialisation.specs.Flags.{AreFlags, not_begun}
use Rattle.dj_initialisation.specs.Waiting.{marks, names_of}
use Rattle.dj_initialisation.specs.Places.{all_places, places_from}
use Rattle.dj_initialisation.specs.Initialisers.{initialiser_count, pushed, spells_initialiser}
use Rattle.dj_initialisation.specs.Preparing.{IsCause}

-- ---- a program: A, and B below it; s, t and u are static

abbrev a_fields : List Field
a_fields = field_with 1 (codes "x") int None ∷ (field_with 9 (codes "s") int None ∷ (field_with 9 (codes "t") int None ∷ []))

abbrev a_class : Class
a_class = class_with (codes "A") a_fields (initialiser_with [] ∷ [])

abbrev b_class : Class
b_class = record (class_with (codes "B") (field_with 9 (codes "u") int None ∷ (field_with 1 (codes "y") int None ∷ [])) []) { superclass = Some (codes "A") }

abbrev program : Program
program = a_class ∷ (b_class ∷ [])

abbrev int_field : Desc
int_field = descs.Field int

-- ---- flags

-- a class and the one above it; the one that is initialised doesn't wait, one waits once, and an array doesn't wait
waiting : not_begun (false ∷ (false ∷ [])) (1 ∷ (0 ∷ [])) ∷ (not_begun (true ∷ (false ∷ [])) (1 ∷ (0 ∷ [])) ∷ (not_begun (false ∷ (false ∷ [])) (1 ∷ (1 ∷ [])) ∷ (not_begun (false ∷ []) (7 ∷ []) ∷ [])))
    ≡ (1 ∷ (0 ∷ [])) ∷ ((1 ∷ []) ∷ ((1 ∷ []) ∷ ([] ∷ [])))
waiting = refl

marked : marks (false ∷ (false ∷ (false ∷ []))) (2 ∷ (0 ∷ [])) ≡ true ∷ (false ∷ (true ∷ []))
marked = refl

names : names_of program (1 ∷ (0 ∷ [])) ≡ codes "B" ∷ (codes "A" ∷ [])
names = refl

above_b : super_number program 1 ≡ Some 0
above_b = refl

-- B can't be initialised where A isn't
not_so : AreFlags program (false ∷ (true ∷ [])) → ⊥
not_so are = false≢true (are.above 1 0 refl refl)

-- ---- places

counted : places_from 0 a_fields ∷ (all_places 0 program ∷ []) ≡ (0 ∷ (0 ∷ (1 ∷ []))) ∷ ((0 ∷ (0 ∷ (1 ∷ (2 ∷ (3 ∷ []))))) ∷ [])
counted = refl

placed : static_place program (codes "A") (codes "t") int_field ∷ (static_place program (codes "B") (codes "u") int_field ∷ []) ≡ 1 ∷ (2 ∷ [])
unfolding static_place
placed = refl

-- ---- initialisers

abbrev of_method : ℕ → Initialiser
of_method n = record { method = n; locals = 1; room = 2 }

abbrev each : List (Option Initialiser)
each = Some (of_method 3) ∷ (None ∷ (Some (of_method 5) ∷ []))

-- the last class on top, and a class without one has no frame
on_top : pushed each (2 ∷ (1 ∷ (0 ∷ []))) (new_frame 9 0 0 ∷ []) ≡ new_frame 3 1 2 ∷ (new_frame 5 1 2 ∷ (new_frame 9 0 0 ∷ []))
on_top = refl

so_many : initialiser_count each (2 ∷ (1 ∷ (0 ∷ []))) ∷ (initialiser_count each (1 ∷ (7 ∷ [])) ∷ []) ≡ 2 ∷ (0 ∷ [])
so_many = refl

spelled : spells_initialiser (codes "<clinit>") (codes "()V") ∷ (spells_initialiser (codes "<init>") (codes "()V") ∷ (spells_initialiser (codes "<clinit>") (codes "()I") ∷ []))
    ≡ true ∷ (false ∷ (false ∷ []))
spelled = refl

-- the 1,024th frame has room, and the 1,025th doesn't
last : IsCause 1 1023 prepared.Waits
last = (omega arith, omega arith)

too_deep : IsCause 2 1023 prepared.TooDeep
too_deep = (omega arith, omega arith)

not_too_deep : IsCause 1 1023 prepared.TooDeep → ⊥
not_too_deep cause = let past = cause.1 in omega (arith, past)

one_too_many : IsCause 1 1024 prepared.Waits → ⊥
one_too_many cause = let few = cause.1 in omega (arith, few)

none_to_run : IsCause 0 1024 prepared.Ready
none_to_run = refl

some_to_run : IsCause 1 0 prepared.Ready → ⊥
some_to_run cause = omega (arith, cause)
