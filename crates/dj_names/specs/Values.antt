-- Beside trusted/Values.antt: what no clause of the call `djvm` reaches.
use Rattle.dj_names.specs.declared.run.Element.{Element}
use Rattle.dj_names.specs.declared.run.Element.TheVariants as elements
use Rattle.dj_names.specs.declared.descriptor.Kind.{Kind}
use Rattle.dj_names.specs.declared.descriptor.Kind.TheVariants as kinds

-- the kind of the values that are loaded from an array of such elements or stored in it
abbrev pub element_kind : Element → Kind
element_kind elements.Long = kinds.Long
element_kind elements.Ref = kinds.Ref
element_kind _ = kinds.Int
