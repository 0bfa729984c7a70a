-- What rows say, by plain values.
use Rattle.std.specs.Prelude.{◌≡◌, ℕ, List, [], ◌∷◌, ◌++◌, map, Some, None, codes}
use Rattle.std.specs.Borrow.{Bor}
use Rattle.std.proofs.Common.{refl, ap, arith}
use Rattle.dj_names.specs.declared.descriptor.Base.TheVariants as bases
use Rattle.dj_names.specs.declared.descriptor.Ty.{Ty}
use Rattle.dj_names.specs.declared.native.NativeId.{NativeId}
use Rattle.dj_names.specs.declared.native.NativeId.TheVariants as natives
use Rattle.dj_names.specs.trusted.Types.{class_type, base_type, base_array}
use Rattle.dj_library.specs.declared.types.TypeRow.{TypeRow}
use Rattle.dj_library.specs.declared.types.TypeRow.TheVariants as types
use Rattle.dj_library.specs.declared.which.Which.TheVariants as which
use Rattle.dj_library.specs.declared.methods.MethodRow.{MethodRow}
use Rattle.dj_library.specs.declared.methods.MethodRow.TheVariants as rows
use Rattle.dj_library.specs.declared.classes.LibraryHead.{LibraryHead}
use Rattle.dj_library.specs.trusted.Heads.{Head}
use Rattle.dj_library.specs.TableRows.{type_in, method_of_row, host_native, native_in, method_in, rows_of_hosts, class_in, head_view}

types_of_rows : (name : Bor (List ℕ)) → map (type_in which.Raw) (types.Base bases.Int ∷ types.Array bases.Char ∷ types.Class name ∷ []) ≡ base_type bases.Int ∷ base_array bases.Char ∷ class_type name.now ∷ []
types_of_rows name = refl

no_array : type_in which.Raw (types.Base bases.Char) ≡ base_array bases.Char → ⊥
no_array e = let dims : 0 ≡ 1 = ap (λ (ty : Ty). ty.dims) e in omega (arith, dims)

-- of rewritten classes the names begin with the package `sandbox`, those of array types too; base types stay
types_in_sandbox : (name : Bor (List ℕ)) → map (type_in which.Sandbox) (types.Base bases.Int ∷ types.Array bases.Char ∷ types.Class name ∷ []) ≡ base_type bases.Int ∷ base_array bases.Char ∷ class_type (codes "sandbox/" ++ name.now) ∷ []
types_in_sandbox name = refl

-- ---- the flags and the natives of methods

abbrev some_methods : Bor (List ℕ) → Bor (List TypeRow) → TypeRow → List MethodRow
some_methods name params ret =
    rows.Constructor params natives.ObjectNew
    ∷ rows.OnObject name params ret natives.ObjectEquals
    ∷ rows.Static name params ret natives.AbsInt
    ∷ rows.StaticVoid name params natives.ArrayCopy
    ∷ rows.Abstract name params (Some ret)
    ∷ []

flags_of_rows : (name : Bor (List ℕ)) (params : Bor (List TypeRow)) (ret : TypeRow) → map (λ (row : MethodRow). (method_of_row which.Deterministic row).flags) (some_methods name params ret) ≡ 257 ∷ 257 ∷ 265 ∷ 265 ∷ 1025 ∷ []
flags_of_rows name params ret = refl

names_of_rows : (name : Bor (List ℕ)) (params : Bor (List TypeRow)) (ret : TypeRow) → map (λ (row : MethodRow). (method_of_row which.Deterministic row).name) (some_methods name params ret) ≡ codes "<init>" ∷ name.now ∷ name.now ∷ name.now ∷ name.now ∷ []
names_of_rows name params ret = refl

no_native : (name : Bor (List ℕ)) (params : Bor (List TypeRow)) → (method_of_row which.Deterministic (rows.Abstract name params None)).native ≡ Some natives.ObjectNew → ⊥
no_native name params e = absurd cc

-- ---- the natives of the libraries

three_hosts : map host_native (natives.ObjectHashCode ∷ natives.ObjectToString ∷ natives.IdentityHashCode ∷ []) ≡ natives.HostHashCode ∷ natives.HostToString ∷ natives.HostIdentityHashCode ∷ []
three_hosts = refl

others_stay : map host_native (natives.ObjectEquals ∷ natives.StringHashCode ∷ natives.BuilderToString ∷ natives.ArrayCopy ∷ []) ≡ natives.ObjectEquals ∷ natives.StringHashCode ∷ natives.BuilderToString ∷ natives.ArrayCopy ∷ []
others_stay = refl

no_host_of_text : host_native natives.StringHashCode ≡ natives.HostHashCode → ⊥
no_host_of_text e = absurd cc

deterministic_native : (native : NativeId) → native_in which.Deterministic native ≡ native
deterministic_native native = refl

raw_native : native_in which.Raw natives.ObjectHashCode ≡ natives.ObjectHashCode → ⊥
raw_native e = absurd cc

raw_method : (name : Bor (List ℕ)) (params : Bor (List TypeRow)) (ret : TypeRow) → method_in which.Raw (rows.OnObject name params ret natives.ObjectHashCode) ≡ method_of_row which.Raw (rows.OnObject name params ret natives.HostHashCode)
raw_method name params ret = refl

-- a rewritten class's objects answer as those of the deterministic library
sandbox_native : (native : NativeId) → native_in which.Sandbox native ≡ native
sandbox_native native = refl

no_clocks : (rows : List MethodRow) → rows_of_hosts which.Deterministic rows ≡ []
no_clocks rows = refl

clocks_of_raw : (row : MethodRow) → rows_of_hosts which.Raw (row ∷ []) ≡ [] → ⊥
clocks_of_raw row e = absurd cc

-- ---- classes

fields_of_row : (row : LibraryHead) → (class_in which.Raw row).fields ≡ row.fields
fields_of_row row = refl

other_flags : (row : LibraryHead) → head_view (record row { flags = 33 }) ≡ head_view (record row { flags = 1537 }) → ⊥
other_flags row e = let flags : 33 ≡ 1537 = ap (λ (head : Head). head.flags) e in omega (arith, flags)
