-- The rules at plain values.
use Rattle.std.proofs.Common.{◌≡◌, ◌≢◌, ℕ, ◌<◌, List, [], ◌∷◌, ◌++◌, length, get_or, Option, unwrap_or, refl, sym, ap, ◌∙◌, inl, inr, arith, codes}
use Rattle.std.proofs.lemmas.List.{length-append}
use Rattle.dj_pool.specs.trusted.Pool.{Constant, Utf8, Class}
use Rattle.dj_class.specs.trusted.ClassFile.{MemberInfo, ClassFile, IsClassFile, IsMalformed}
use Rattle.dj_report.specs.declared.report.Violation.{Violation}
use Rattle.dj_report.specs.trusted.Lines.{file_line, member_line}
use Rattle.dj_file_rules.specs.trusted.Violations.{member_text, path_units, IsNamedAs, this_name, IsNative, IsFinalizer, HasOtherVersion, IsClassLine, IsLineOf}

-- ---- a class with two methods

-- 3 and 4 are the names and the descriptors of a finalizer, 5 and 6 those of another method
pool : List Constant
pool = Utf8 (codes "A") ∷ Class 1 ∷ Utf8 (codes "finalize") ∷ Utf8 (codes "()V") ∷ Utf8 (codes "n") ∷ Utf8 (codes "()I") ∷ []

method : ℕ → ℕ → ℕ → MemberInfo
method flags name desc = record { flags = flags; name = name; desc = desc; attributes = [] }

-- a class A of the major version, with a finalizer and a native method
class_of_major : ℕ → ClassFile
class_of_major major = record {
  minor = 0;
  major = major;
  pool = pool;
  flags = 33;
  this_class = 2;
  super_class = 0;
  interfaces = [];
  fields = [];
  methods = method 1 3 4 ∷ method 257 5 6 ∷ [];
  attributes = [];
}

-- ---- rule 2

versions : HasOtherVersion (class_of_major 0) × HasOtherVersion (class_of_major 49) × HasOtherVersion (class_of_major 53) × HasOtherVersion (class_of_major 65535)
unfolding class_of_major
versions = (inl (omega arith), inl (omega arith), inr (omega arith), inr (omega arith))

versions_not : (HasOtherVersion (class_of_major 50) → ⊥) × (HasOtherVersion (class_of_major 51) → ⊥) × (HasOtherVersion (class_of_major 52) → ⊥)
unfolding class_of_major
versions_not = (
  λ h. elim h [ inl low ↦ absurd (omega arith) | inr high ↦ absurd (omega arith) ],
  λ h. elim h [ inl low ↦ absurd (omega arith) | inr high ↦ absurd (omega arith) ],
  λ h. elim h [ inl low ↦ absurd (omega arith) | inr high ↦ absurd (omega arith) ],
)

-- ---- rule 3

named : this_name (class_of_major 52) ≡ codes "A"
unfolding class_of_major pool
named = refl

-- a path with the units of the name and the suffix
named-as : (path : List ℕ) → path_units path ≡ codes "a/B.class" → IsNamedAs path (codes "a/B")
named-as path e = record { units = codes "a/B"; spelled = record { text_is = refl; units_fit = (omega arith, (omega arith, (omega arith, tt))) }; same = e }

other_suffix : (units : List ℕ) → codes "A.clazz" ≡ units ++ codes ".class" → ⊥
other_suffix [] e = let last : 122 ≡ 0 = ap (λ (xs : List ℕ). get_or xs 6 0) e in absurd (omega (arith, last))
other_suffix (u ∷ []) e = let last : 122 ≡ 115 = ap (λ (xs : List ℕ). get_or xs 6 0) e in absurd (omega (arith, last))
other_suffix (u ∷ v ∷ units) e = let lengths = ap (λ (xs : List ℕ). length xs) e ∙ length-append (u ∷ v ∷ units) (codes ".class") in absurd (omega (arith, lengths))

-- one that ends otherwise, whatever the name is
named-as_not : (path name : List ℕ) → path_units path ≡ codes "A.clazz" → IsNamedAs path name → ⊥
named-as_not path name e is = other_suffix is.units (sym e ∙ is.same)

-- ---- rules 7 and 8

natives : IsNative (method 256 5 6) × IsNative (method 257 5 6) × IsNative (method 65535 5 6)
unfolding method
natives = (λ e. absurd cc, λ e. absurd cc, λ e. absurd cc)

natives_not : (IsNative (method 0 5 6) → ⊥) × (IsNative (method 1024 5 6) → ⊥) × (IsNative (method 65279 5 6) → ⊥)
unfolding method
natives_not = (λ set. set refl, λ set. set refl, λ set. set refl)

finalizer : IsFinalizer pool (method 1 3 4)
unfolding pool method
finalizer = (refl, refl)

-- another descriptor, another name, and what names no text
finalizers_not : (IsFinalizer pool (method 1 3 6) → ⊥) × (IsFinalizer pool (method 1 5 4) → ⊥) × (IsFinalizer pool (method 1 2 4) → ⊥) × (IsFinalizer pool (method 1 3 0) → ⊥)
unfolding pool method
finalizers_not = (λ h. let last : 73 ≡ 86 = ap (λ (text : Option (List ℕ)). get_or (unwrap_or text []) 2 0) h.1 in absurd (omega (arith, last)), λ h. let e = h.0 in absurd cc, λ h. let e = h.0 in absurd cc, λ h. let e = h.1 in absurd cc)

member-text : member_text pool (method 257 5 6) ≡ codes "n()I"
unfolding pool method
member-text = refl

-- ---- the lines

path : List ℕ
path = codes "A.class"

version-line : IsClassLine path (class_of_major 53) (file_line path 2)
unfolding class_of_major
version-line = inl (inr (omega arith), refl)

native-line : IsClassLine path (class_of_major 52) (member_line path (codes "n()I") 7)
unfolding class_of_major pool method
native-line = inr (inr (inl (record { method = method 257 5 6; own = (1, omega arith, refl); such = λ e. absurd cc; line = refl })))

finalizer-line : IsClassLine path (class_of_major 52) (member_line path (codes "finalize()V") 8)
unfolding class_of_major pool method
finalizer-line = inr (inr (inr (record { method = method 1 3 4; own = (0, omega arith, refl); such = (refl, refl); line = refl })))

name-line : (IsNamedAs path (this_name (class_of_major 52)) → ⊥) → IsClassLine path (class_of_major 52) (file_line path 3)
name-line other = inr (inl (other, refl))

-- a class file's lines have no other rules
other-rule_not : (c : ClassFile) (member : List ℕ) (rule : ℕ) → 8 < rule → IsClassLine path c (member_line path member rule) → ⊥
other-rule_not c member rule high line = elim line [
  | inl version ↦ let e = ap (λ (v : Violation). v.rule) version.1 in absurd (omega arith)
  | inr (inl name) ↦ let e = ap (λ (v : Violation). v.rule) name.1 in absurd (omega arith)
  | inr (inr (inl native)) ↦ let e = ap (λ (v : Violation). v.rule) native.line in absurd (omega arith)
  | inr (inr (inr finalizes)) ↦ let e = ap (λ (v : Violation). v.rule) finalizes.line in absurd (omega arith)
]

-- no bytes are no class file, whose only line has rule 1
nothing-malformed : IsMalformed []
nothing-malformed c is = let e = is.spelled in absurd cc

nothing-line : IsLineOf (path, []) (file_line path 1)
nothing-line = inl (nothing-malformed, refl)

nothing-line_not : (v : Violation) → v ≢ file_line path 1 → IsLineOf (path, []) v → ⊥
nothing-line_not v other line = elim line [
  | inl malformed ↦ other malformed.1
  | inr class ↦ nothing-malformed class.0 class.1
]

-- a class file is not malformed
class-file_not : (bytes : List ℕ) (c : ClassFile) → IsClassFile bytes c → IsLineOf (path, bytes) (file_line path 1) → ⊥
class-file_not bytes c is line = elim line [
  | inl malformed ↦ malformed.0 c is
  | inr (d, own, inl version) ↦ let e = ap (λ (v : Violation). v.rule) version.1 in absurd (omega arith)
  | inr (d, own, inr (inl name)) ↦ let e = ap (λ (v : Violation). v.rule) name.1 in absurd (omega arith)
  | inr (d, own, inr (inr (inl native))) ↦ let e = ap (λ (v : Violation). v.rule) native.line in absurd (omega arith)
  | inr (d, own, inr (inr (inr finalizes))) ↦ let e = ap (λ (v : Violation). v.rule) finalizes.line in absurd (omega arith)
]
