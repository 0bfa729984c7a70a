-- The places of static fields, by the numbers of fields.
use Rattle.std.specs.Prelude.{◌≡◌, ℕ, ◌+◌, true, List, [], ◌∷◌, ◌++◌, map, if◌then◌else◌}
use Rattle.dj_model.specs.trusted.Program.{Program, Field, is_static}
use Rattle.dj_model.specs.trusted.Linking.{count_fields, place_of_static, static_count}
use Rattle.dj_numbering.specs.Members.{all_fields}

-- one place for each field, and how many static fields there are
pub record Places : Type 0 where
  pub each : List ℕ
  pub count : ℕ

pub record ArePlaces (program : Program) (places : Places) : Type 0 where
  pub each : places.each ≡ map (place_of_static program) (all_fields program)
  pub count : places.count ≡ static_count program

-- ---- used by the code alone: as they are counted

-- for each field how many static ones come before it, where this many come before the first
abbrev pub places_from : ℕ → List Field → List ℕ
places_from n [] = []
places_from n (f ∷ fields) = n ∷ places_from (n + count_fields true (f ∷ [])) fields

abbrev pub all_places : ℕ → Program → List ℕ
all_places n [] = []
all_places n (c ∷ classes) = places_from n c.fields ++ all_places (n + count_fields true c.fields) classes

abbrev pub one_if_static : ℕ → ℕ
one_if_static flags = if is_static flags then 1 else 0

-- these fields have places too
pub record IsCounted (fields : List Field) (each : List ℕ) (before : ℕ) (more : List ℕ) (after : ℕ) : Type 0 where
  pub places : more ≡ each ++ places_from before fields
  pub count : after ≡ before + count_fields true fields

-- the fields of these classes have places
pub record AreCounted (classes : Program) (each : List ℕ) (total : ℕ) : Type 0 where
  pub places : each ≡ all_places 0 classes
  pub count : total ≡ static_count classes
