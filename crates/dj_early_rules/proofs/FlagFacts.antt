-- Access flags that the rules ask for, bit by bit (JVMS tables 4.1-A and 4.6-A): 0x0100 and 0x0400 of a method, 0x0200 of a class.
use Rattle.std.proofs.Common.{ℕ, [], refl, inl, inr}
use Rattle.dj_class.specs.trusted.ClassFile.{MemberInfo, ClassFile}
use Rattle.dj_early_rules.specs.trusted.Malformed.{IsBodiless}
use Rattle.dj_early_rules.specs.trusted.Members.{IsInterface}

abbrev method : ℕ → MemberInfo
method flags = record { flags = flags; name = 1; desc = 2; attributes = [] }

abbrev class : ℕ → ClassFile
class flags = record { minor = 0; major = 52; pool = []; flags = flags; this_class = 1; super_class = 0; interfaces = []; fields = []; methods = []; attributes = [] }

-- native, and abstract
bodiless : IsBodiless (method 256) × IsBodiless (method 1024) × IsBodiless (method 1280)
bodiless = (inl (λ e. absurd cc), inr (λ e. absurd cc), inl (λ e. absurd cc))

-- with none and with all other flags; varargs, 0x0200 and strict are beside the two
bodiless_not : (IsBodiless (method 0) → ⊥) × (IsBodiless (method 64255) → ⊥) × (IsBodiless (method 128) → ⊥) × (IsBodiless (method 512) → ⊥) × (IsBodiless (method 2048) → ⊥)
bodiless_not = (
  λ is. elim is [ inl n ↦ n refl | inr a ↦ a refl ],
  λ is. elim is [ inl n ↦ n refl | inr a ↦ a refl ],
  λ is. elim is [ inl n ↦ n refl | inr a ↦ a refl ],
  λ is. elim is [ inl n ↦ n refl | inr a ↦ a refl ],
  λ is. elim is [ inl n ↦ n refl | inr a ↦ a refl ],
)

interface : IsInterface (class 512) × IsInterface (class 65535)
interface = (λ e. absurd cc, λ e. absurd cc)

interface_not : (IsInterface (class 0) → ⊥) × (IsInterface (class 65023) → ⊥) × (IsInterface (class 256) → ⊥) × (IsInterface (class 1024) → ⊥)
interface_not = (λ is. is refl, λ is. is refl, λ is. is refl, λ is. is refl)
