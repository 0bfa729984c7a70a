-- Beside trusted/DescReading.antt: what no clause of the call `djvm` reaches.
use Rattle.std.specs.Prelude.{Bool, true, false}
use Rattle.dj_names.specs.declared.descriptor.Of.{Of}
use Rattle.dj_names.specs.declared.descriptor.Of.TheVariants as ofs
use Rattle.dj_names.specs.declared.walk.ElementView.{ElementView}
use Rattle.dj_names.specs.declared.walk.ElementView.TheVariants as elements
use Rattle.dj_names.specs.declared.read.DescError.{DescError}
use Rattle.dj_names.specs.declared.read.DescError.TheVariants as errors

-- an element, without the place of its name
abbrev pub element_of : ElementView → Of
element_of (elements.Base base) = ofs.Base base
element_of (elements.Class name) = ofs.Class name.now

-- the error that says nothing about the text
abbrev pub is_memory : DescError → Bool
is_memory errors.Memory = true
is_memory errors.NotADescriptor = false
