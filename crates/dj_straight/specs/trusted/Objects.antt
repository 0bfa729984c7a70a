-- The objects of the heap (JVMS 2.4 and 2.7).
use Rattle.std.specs.Prelude.{ℕ, ℤ, List}
use Rattle.dj_names.specs.declared.run.Value.{Value}
use Rattle.dj_names.specs.declared.run.Element.{Element}

pub data Object : Type 0 where
  -- an instance of the class, with its fields, those of the highest superclass first
  Instance : List ℕ → List Value → Object
  -- an array of the class that this descriptor names, with its elements; a reference is an element as its number
  Array : List ℕ → Element → List ℤ → Object
  -- a text of these UTF-16 units
  Text : List ℕ → Object
