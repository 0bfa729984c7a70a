-- Rule 2, VERSION, of all class files: the majors 50, 51 and 52 and no others, whatever the minor version is (JVMS table 4.1-A: Java 6, 7 and 8).
use Rattle.std.proofs.Common.{◌≡◌, ◌≢◌, ℕ, ◌≤◌, [], refl, inl, inr, arith}
use Rattle.std.proofs.lemmas.Bool.{cases_lt}
use Rattle.dj_class.specs.trusted.ClassFile.{ClassFile}
use Rattle.dj_file_rules.specs.trusted.Violations.{HasOtherVersion}

-- each of the three, of any file
java_6 : (c : ClassFile) → c.major ≡ 50 → HasOtherVersion c → ⊥
java_6 c is other = elim other [ inl low ↦ omega (arith, is, low) | inr high ↦ omega (arith, is, high) ]

java_7 : (c : ClassFile) → c.major ≡ 51 → HasOtherVersion c → ⊥
java_7 c is other = elim other [ inl low ↦ omega (arith, is, low) | inr high ↦ omega (arith, is, high) ]

java_8 : (c : ClassFile) → c.major ≡ 52 → HasOtherVersion c → ⊥
java_8 c is other = elim other [ inl low ↦ omega (arith, is, low) | inr high ↦ omega (arith, is, high) ]

-- those beside them, Java 5 and Java 9
java_5 : (c : ClassFile) → c.major ≡ 49 → HasOtherVersion c
java_5 c is = inl (omega (arith, is))

java_9 : (c : ClassFile) → c.major ≡ 53 → HasOtherVersion c
java_9 c is = inr (omega (arith, is))

-- all others
others : (c : ClassFile) → c.major ≢ 50 → c.major ≢ 51 → c.major ≢ 52 → HasOtherVersion c
others c six seven eight = elim (cases_lt c.major 50) [
  | inl low ↦ inl low
  | inr high ↦ elim (cases_lt 52 c.major) [
    | inl past ↦ inr past
    | inr within ↦ absurd (none c.major high within six seven eight)
  ]
] where
  none : (n : ℕ) → 50 ≤ n → n ≤ 52 → n ≢ 50 → n ≢ 51 → n ≢ 52 → ⊥
  none n high low a b c = elim (cases_lt 50 n) [
    | inl more ↦ elim (cases_lt 51 n) [ inl most ↦ c (omega (arith, low, most)) | inr no_more ↦ b (omega (arith, more, no_more)) ]
    | inr no_more ↦ a (omega (arith, high, no_more))
  ]

-- the major that is stored with another minor
abbrev of_version : ℕ → ℕ → ClassFile
of_version minor major = record { minor = minor; major = major; pool = []; flags = 0; this_class = 0; super_class = 0; interfaces = []; fields = []; methods = []; attributes = [] }

minors_not : (minor : ℕ) → HasOtherVersion (of_version minor 52) → ⊥
minors_not minor other = java_8 (of_version minor 52) refl other

-- a minor of 52 is no major
minors : HasOtherVersion (of_version 52 53) × HasOtherVersion (of_version 52 49)
minors = (java_9 (of_version 52 53) refl, java_5 (of_version 52 49) refl)
