-- The code's own words for the accounter's constants.
use Rattle.std.specs.Prelude.{◌≡◌, ℕ, ◌+◌, List, [], ◌∷◌}
use Rattle.dj_names.specs.trusted.Names.{IsMethodName}
use Rattle.dj_names.specs.trusted.Descriptors.{IsMethodDescriptor}
use Rattle.dj_names.specs.Library.{accounter_methods}
use Rattle.dj_pool.specs.trusted.Pool.{Constant, Utf8, NameAndType, Method, IsWhole}
use Rattle.dj_rename.specs.declared.accounter.Called.{Called}
use Rattle.dj_rename.specs.Pools.{method_constants}

-- four constants for each method, from an index on; the class has the index `class`
abbrev pub called_constants : ℕ → ℕ → List Called → List Constant
called_constants class at [] = []
called_constants class at (m ∷ methods) = Utf8 m.name.now ∷ Utf8 m.desc.now ∷ NameAndType at (at + 1) ∷ Method class (at + 2) ∷ called_constants class (at + 4) methods

-- these are the accounter's methods
abbrev pub AreAccounters : List Called → Type 0
AreAccounters methods = (class at : ℕ) → called_constants class at methods ≡ method_constants class at accounter_methods

-- a method's name and its descriptor, which fit a pool
pub record IsCalled (m : Called) : Type 0 where
  pub name : IsMethodName m.name.now
  pub name_whole : IsWhole (Utf8 m.name.now)
  pub desc : IsMethodDescriptor m.desc.now
  pub desc_whole : IsWhole (Utf8 m.desc.now)
