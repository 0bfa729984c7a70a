-- The reserved packages, these and no others, and names in them; and the flags and names of straight methods, bit by bit.
use Rattle.std.specs.Prelude.{◌≡◌, ℕ, true, false, List, [], ◌∷◌, map, codes}
use Rattle.std.proofs.Common.{refl}
use Rattle.dj_pool.specs.trusted.Pool.{Constant, Utf8}
use Rattle.dj_class.specs.trusted.ClassFile.{MemberInfo}
use Rattle.dj_straight.specs.trusted.Straight.{is_reserved, reserved_packages, IsPlainMethod}

packages : reserved_packages ≡ codes "sandbox/" ∷ codes "java/" ∷ codes "javax/" ∷ []
packages = refl

reserved : map is_reserved (codes "sandbox/A" ∷ codes "java/A" ∷ codes "javax/A" ∷ []) ≡ true ∷ true ∷ true ∷ []
reserved = refl

-- a package is reserved by its whole name, and only at the start
not_reserved : map is_reserved (codes "javas/A" ∷ codes "sandbox" ∷ codes "A" ∷ codes "my/java/A" ∷ []) ≡ false ∷ false ∷ false ∷ false ∷ []
not_reserved = refl

-- ---- straight methods (JVMS table 4.6-A: static 0x0008, native 0x0100, abstract 0x0400)

abbrev pool : List Constant
pool = Utf8 (codes "verify") ∷ Utf8 (codes "([B)[B") ∷ Utf8 (codes "<init>") ∷ []

abbrev method : ℕ → ℕ → MemberInfo
method flags name = record { flags = flags; name = name; desc = 2; attributes = [] }

-- static alone, and with every flag beside it other than native and abstract, such as final
plain_method : IsPlainMethod pool (method 8 1) (codes "verify") × IsPlainMethod pool (method 64255 1) (codes "verify")
plain_method = (
  record { is_static = λ e. absurd cc; not_native = λ set. set refl; not_abstract = λ set. set refl; name_is = refl; not_special = refl; desc = refl },
  record { is_static = λ e. absurd cc; not_native = λ set. set refl; not_abstract = λ set. set refl; name_is = refl; not_special = refl; desc = refl },
)

-- with every flag but static, native, abstract, and a constructor's name
plain_method_not : (IsPlainMethod pool (method 64247 1) (codes "verify") → ⊥) × (IsPlainMethod pool (method 264 1) (codes "verify") → ⊥)
    × (IsPlainMethod pool (method 1032 1) (codes "verify") → ⊥) × (IsPlainMethod pool (method 8 3) (codes "<init>") → ⊥)
plain_method_not = (
  λ plain. plain.is_static refl,
  λ plain. plain.not_native (λ e. absurd cc),
  λ plain. plain.not_abstract (λ e. absurd cc),
  λ plain. let special = plain.not_special in absurd cc,
)
