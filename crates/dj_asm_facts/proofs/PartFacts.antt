-- A class file with other constants, at plain values.
use Rattle.std.proofs.Common.{◌≡◌, ◌++◌, List, [], ◌∷◌, length, codes, refl, ap, arith}
use Rattle.dj_pool.specs.trusted.Pool.{Constant, Utf8, Class}
use Rattle.dj_class.specs.trusted.ClassFile.{ClassFile}
use Rattle.dj_write.specs.Parts.{with_pool}

-- each of its parts is another
abbrev some : ClassFile
some = record {
  minor = 1;
  major = 2;
  pool = Utf8 (codes "A") ∷ [];
  flags = 3;
  this_class = 4;
  super_class = 5;
  interfaces = 6 ∷ 7 ∷ [];
  fields = record { flags = 8; name = 9; desc = 10; attributes = [] } ∷ [];
  methods = record { flags = 11; name = 12; desc = 13; attributes = record { name = 14; body = 15 ∷ [] } ∷ [] } ∷ [];
  attributes = record { name = 16; body = 17 ∷ [] } ∷ [];
}

abbrev others : List Constant
others = Utf8 (codes "B") ∷ Class 1 ∷ []

-- its constants alone are replaced
replaced : with_pool others some ≡ record {
  minor = 1;
  major = 2;
  pool = Utf8 (codes "B") ∷ Class 1 ∷ [];
  flags = 3;
  this_class = 4;
  super_class = 5;
  interfaces = 6 ∷ 7 ∷ [];
  fields = record { flags = 8; name = 9; desc = 10; attributes = [] } ∷ [];
  methods = record { flags = 11; name = 12; desc = 13; attributes = record { name = 14; body = 15 ∷ [] } ∷ [] } ∷ [];
  attributes = record { name = 16; body = 17 ∷ [] } ∷ [];
}
replaced = refl

emptied : (with_pool [] some).pool ≡ []
emptied = refl

-- they aren't kept, and the others aren't put after them
not_kept : with_pool others some ≡ some → ⊥
not_kept same = let count : 2 ≡ 1 = ap (λ (c : ClassFile). length c.pool) same in omega (arith, count)

not_joined : (with_pool others some).pool ≡ some.pool ++ others → ⊥
not_joined same = let count : 2 ≡ 3 = ap (λ (pool : List Constant). length pool) same in omega (arith, count)
