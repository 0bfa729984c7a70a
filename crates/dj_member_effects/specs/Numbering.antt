-- Classes of objects by numbers: which are in range, and which are below another.
use Rattle.std.specs.Prelude.{ℕ, zero, suc, ◌<◌, Bool, false, List, Some}
use Rattle.std.specs.List.{All}
use Rattle.dj_names.specs.declared.descriptor.Of.{Of}
use Rattle.dj_names.specs.declared.descriptor.Of.TheVariants as ofs
use Rattle.dj_names.specs.declared.descriptor.Ty.{Ty}
use Rattle.dj_names.specs.trusted.Types.{Name}
use Rattle.dj_names.specs.trusted.Heaps.{Heap, class_of}
use Rattle.dj_model.specs.trusted.Types.{Prefix}
use Rattle.dj_model.specs.trusted.Program.{Program}
use Rattle.dj_model.specs.trusted.Linking.{is_subtype, is_among, chain_of}
use Rattle.dj_library_types.specs.Numbered.{type_at}

-- each object's class has one of this many numbers
abbrev pub AreNumbered : ℕ → Heap ℕ → Type 0
AreNumbered count heap = All (λ object. class_of object < count) heap.objects

-- whether the class of a number is a subtype of that of another
abbrev pub below_of : Program → Prefix → List Ty → ℕ → ℕ → Bool
below_of program prefix types class k = is_subtype program prefix (type_at types k) (type_at types class)

abbrev pub among_above : Program → Name → ℕ → ℕ → Of → Bool
among_above program name levels zero (ofs.Class class) = is_among (chain_of levels program (Some class)) name
among_above program name levels zero (ofs.Base base) = false
among_above program name levels (suc dims) of = false

-- whether the class of the name is among that of a number and those above it, this many in all; no array has one
abbrev pub has_of : Program → List Ty → Name → ℕ → ℕ → Bool
has_of program types name levels class = among_above program name levels (type_at types class).dims (type_at types class).of
