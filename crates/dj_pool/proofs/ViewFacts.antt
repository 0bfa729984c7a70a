-- What entries show, at plain values: one of each kind, with numbers that differ.
use Rattle.std.proofs.Common.{◌≡◌, ◌≢◌, true, false, List, [], ◌∷◌, map, negsuc, refl}
use Rattle.dj_pool.specs.declared.pool.Entry.{Entry}
use Rattle.dj_pool.specs.declared.pool.Entry.TheVariants as entries
use Rattle.dj_pool.specs.declared.pool.PoolError.TheVariants as pool_errors
use Rattle.dj_pool.specs.trusted.Pool.{Constant, Integer, Float, Long, Double, Class, Text, Field, Method, InterfaceMethod, NameAndType, Handle, MethodType, Dynamic, Hole}
use Rattle.dj_pool.specs.Views.{constant_of}
use Rattle.dj_pool.specs.Memory.{pool_is_memory}

shown : List Entry
shown =
    entries.Integer (negsuc 1) ∷ entries.Float 1 ∷ entries.Long (negsuc 2) ∷ entries.Double 2 ∷ entries.Class 3 ∷ entries.Text 4 ∷ entries.Field 5 6 ∷ entries.Method 7 8 ∷ entries.InterfaceMethod 9 10
    ∷ entries.NameAndType 11 12 ∷ entries.Handle 13 14 ∷ entries.MethodType 15 ∷ entries.Dynamic 16 17 ∷ entries.Hole ∷ []

constants : List Constant
constants =
    Integer (negsuc 1) ∷ Float 1 ∷ Long (negsuc 2) ∷ Double 2 ∷ Class 3 ∷ Text 4 ∷ Field 5 6 ∷ Method 7 8 ∷ InterfaceMethod 9 10
    ∷ NameAndType 11 12 ∷ Handle 13 14 ∷ MethodType 15 ∷ Dynamic 16 17 ∷ Hole ∷ []

shown-are : map constant_of shown ≡ constants
unfolding shown constants
shown-are = refl

field-shown_not : constant_of (entries.Field 5 6) ≢ Field 6 5
field-shown_not h = absurd cc

method-shown_not : constant_of (entries.Method 7 8) ≢ InterfaceMethod 7 8
method-shown_not h = absurd cc

-- memory alone says nothing of the pool
memory-is : map pool_is_memory (pool_errors.Memory ∷ pool_errors.Cut 0 ∷ pool_errors.Tag 0 ∷ pool_errors.Link 0 ∷ pool_errors.Text 0 ∷ []) ≡ true ∷ false ∷ false ∷ false ∷ false ∷ []
memory-is = refl
