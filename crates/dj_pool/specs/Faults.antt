-- Bytes at which there is no pool: the first fault, in the order in which a pool is read. Indexes are looked up after the last constant.
use Rattle.std.specs.Prelude.{◌≡◌, ℕ, ◌+◌, ◌-◌, ◌^◌, ◌<◌, ◌≤◌, ◌⊎◌, true, List, [], ◌∷◌, ◌++◌, length, take, Some, Contains}
use Rattle.std.specs.List.{flat_map, AllByRecursion}
use Rattle.dj_cursor.specs.trusted.Spelling.{u1, u2, u4, u8, s4, s8}
use Rattle.dj_cursor.specs.Reading.{Cursor}
use Rattle.dj_cursor.specs.Faults.{IsCut, IsDenied, InTurn, after, Fits2}
use Rattle.dj_names.specs.trusted.ModifiedUtf8.{IsModifiedUtf8}
use Rattle.dj_pool.specs.declared.pool.PoolError.{PoolError}
use Rattle.dj_pool.specs.declared.pool.PoolError.TheVariants as pool_errors
use Rattle.dj_pool.specs.trusted.Pool.{Constant, Utf8, Integer, Float, Long, Double, Class, Text, Field, Method, InterfaceMethod, NameAndType, Handle, MethodType, Dynamic, Hole, takes_two, indexed, constant_bytes, constant_at, IsWhole, IsLinked}

-- ---- one constant

-- JVMS table 4.4-B
abbrev pub tags : List ℕ
tags = 1 ∷ 3 ∷ 4 ∷ 5 ∷ 6 ∷ 7 ∷ 8 ∷ 9 ∷ 10 ∷ 11 ∷ 12 ∷ 15 ∷ 16 ∷ 18 ∷ []

-- the items of a constant, one after the other
abbrev pub items_of : Constant → List (List ℕ)
items_of (Utf8 text) = u1 1 ∷ (u2 (length text) ∷ (text ∷ []))
items_of (Integer n) = u1 3 ∷ (s4 n ∷ [])
items_of (Float bits) = u1 4 ∷ (u4 bits ∷ [])
items_of (Long n) = u1 5 ∷ (s8 n ∷ [])
items_of (Double bits) = u1 6 ∷ (u8 bits ∷ [])
items_of (Class name) = u1 7 ∷ (u2 name ∷ [])
items_of (Text text) = u1 8 ∷ (u2 text ∷ [])
items_of (Field class name_and_type) = u1 9 ∷ (u2 class ∷ (u2 name_and_type ∷ []))
items_of (Method class name_and_type) = u1 10 ∷ (u2 class ∷ (u2 name_and_type ∷ []))
items_of (InterfaceMethod class name_and_type) = u1 11 ∷ (u2 class ∷ (u2 name_and_type ∷ []))
items_of (NameAndType name desc) = u1 12 ∷ (u2 name ∷ (u2 desc ∷ []))
items_of (Handle kind member) = u1 15 ∷ (u1 kind ∷ (u2 member ∷ []))
items_of (MethodType desc) = u1 16 ∷ (u2 desc ∷ [])
items_of (Dynamic bootstrap name_and_type) = u1 18 ∷ (u2 bootstrap ∷ (u2 name_and_type ∷ []))
items_of Hole = []

-- what it announces fits its bytes; a text may be any bytes
abbrev pub IsSized : Constant → Type 0
IsSized (Utf8 text) = length text < 2 ^ 16
IsSized k = IsWhole k

-- some items of a constant are at this place, and the next is not there whole
pub record IsCutConstant (c : Cursor) (e : PoolError) : Type 0 where
  pub constant : Constant
  pub sized : IsSized constant
  pub before : List (List ℕ)
  pub item : List ℕ
  pub later : List (List ℕ)
  pub items : items_of constant ≡ before ++ item ∷ later
  pub rest : List ℕ
  pub parts : c.rest ≡ flat_map (λ (i : List ℕ). i) before ++ rest
  pub cut : IsCut pool_errors.Cut (length item) (after c (flat_map (λ (i : List ℕ). i) before) rest) e

-- a text is at this place, all of it, and is not modified UTF-8
pub record IsNoText (index : ℕ) (c : Cursor) (e : PoolError) : Type 0 where
  pub text : List ℕ
  pub rest : List ℕ
  pub parts : c.rest ≡ constant_bytes (Utf8 text) ++ rest
  pub short : length text < 2 ^ 16
  pub wrong : IsModifiedUtf8 text → ⊥
  pub reported : e ≡ pool_errors.Text index

-- the constant that begins here, and is to have this index, is faulty
abbrev pub ConstantFault : ℕ → Cursor → PoolError → Type 0
ConstantFault index c e =
    IsCutConstant c e
    ⊎ (IsDenied u1 (λ (tag : ℕ). tag < 2 ^ 8) (Contains tags) pool_errors.Tag c e
    ⊎ IsNoText index c e)

-- ---- all constants

-- constants begin here, and the next, whose index is below the count, is faulty
pub record IsAmongConstants (count : ℕ) (c : Cursor) (e : PoolError) : Type 0 where
  pub prefix : List Constant
  pub rest : List ℕ
  pub parts : c.rest ≡ flat_map constant_bytes prefix ++ rest
  pub whole : AllByRecursion IsWhole prefix
  pub below : length (indexed prefix) + 1 < count
  pub fault : ConstantFault (length (indexed prefix) + 1) (after c (flat_map constant_bytes prefix) rest) e

-- an index of the constant doesn't name what its place requires, or the constant takes two indexes, and the second is not below the count
abbrev pub IsMislinked : ℕ → List Constant → ℕ → Constant → Type 0
IsMislinked count pool index k = (IsLinked pool k → ⊥) ⊎ ((takes_two k ≡ true) × (count ≤ index + 1))

-- all constants are there, and this is the lowest index of a constant that is wrongly linked
pub record IsUnlinked (count : ℕ) (c : Cursor) (e : PoolError) : Type 0 where
  pub prefix : List Constant
  pub last : Constant
  pub rest : List ℕ
  pub parts : c.rest ≡ flat_map constant_bytes (prefix ++ last ∷ []) ++ rest
  pub whole : AllByRecursion IsWhole (prefix ++ last ∷ [])
  pub below : length (indexed prefix) + 1 < count
  pub all : count ≤ length (indexed (prefix ++ last ∷ [])) + 1
  pub pool : List Constant
  pub pool_is : pool ≡ take (count - 1) (indexed (prefix ++ last ∷ []))
  pub index : ℕ
  pub constant : Constant
  pub at : constant_at pool index ≡ Some constant
  pub wrong : IsMislinked count pool index constant
  pub lowest : (i : ℕ) (k : Constant) → i < index → constant_at pool i ≡ Some k → IsMislinked count pool i k → ⊥
  pub reported : e ≡ pool_errors.Link index

-- ---- the pool

-- the count is cut, or 0
abbrev pub CountFault : Cursor → PoolError → Type 0
CountFault c e = IsCut pool_errors.Cut 2 c e ⊎ IsDenied u2 Fits2 (λ count. 0 < count) pool_errors.Tag c e

abbrev pub ConstantsFault : ℕ → Cursor → PoolError → Type 0
ConstantsFault count c e = IsAmongConstants count c e ⊎ IsUnlinked count c e

-- the pool whose count is at this place is faulty
abbrev pub PoolFault : Cursor → PoolError → Type 0
PoolFault = InTurn CountFault u2 (λ count. Fits2 count × (0 < count)) ConstantsFault
