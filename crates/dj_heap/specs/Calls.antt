-- What an object was made as.
use Rattle.std.specs.Prelude.{ℕ}
use Rattle.dj_names.specs.trusted.Heaps as heaps
use Rattle.dj_heap.specs.declared.object.Made.{Made}
use Rattle.dj_heap.specs.declared.object.Made.TheVariants as made

abbrev pub made_as : heaps.Object ℕ → Made
made_as (heaps.Instance class fields) = made.Instance
made_as (heaps.Array class element contents) = made.Array element
made_as (heaps.Text class units) = made.Text
