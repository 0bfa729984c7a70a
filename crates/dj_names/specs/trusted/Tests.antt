-- Bytes as UTF-16 units (JVMS 4.4.7), at most this many.
use Rattle.std.specs.Prelude.{ℕ, zero, suc, List, [], ◌∷◌, Option, Some, None}
use Rattle.dj_cursor.specs.trusted.Options.{◌>>=◌}
use Rattle.dj_names.specs.trusted.UnitReading.{unit_read}

-- the units that all the bytes spell, where they are at most n
unfoldable pub units_read : ℕ → List ℕ → Option (List ℕ)
units_read zero [] = Some []
units_read zero (b ∷ more) = None
units_read (suc n) [] = Some []
units_read (suc n) (b ∷ more) = unit_read (b ∷ more) >>= λ x. units_read n x.1 >>= λ units. Some (x.0 ∷ units)
