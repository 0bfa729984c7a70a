-- Access flags that no clause of the call `djvm` reaches (JVMS tables 4.1-A, 4.5-A and 4.6-A); the others are in trusted/Access.antt.
use Rattle.std.specs.Prelude.{ℕ, ◌^◌, List, [], ◌∷◌, codes}
use Rattle.dj_class.specs.trusted.Access.{static, final, native, interface, abstract}

abbrev pub public : ℕ
public = 0

abbrev pub private : ℕ
private = 1

abbrev pub protected : ℕ
protected = 2

-- of a class
abbrev pub super : ℕ
super = 5

-- of a method
abbrev pub synchronized : ℕ
synchronized = 5

-- of a field
abbrev pub volatile : ℕ
volatile = 6

-- of a method
abbrev pub bridge : ℕ
bridge = 6

-- of a field
abbrev pub transient : ℕ
transient = 7

-- of a method
abbrev pub varargs : ℕ
varargs = 7

-- of a method
abbrev pub strict : ℕ
strict = 11

abbrev pub synthetic : ℕ
synthetic = 12

-- of a class
abbrev pub annotation : ℕ
annotation = 13

-- of a class or a field
abbrev pub enum : ℕ
enum = 14

-- each flag's name, and its value
abbrev pub access_table : List (List ℕ × ℕ)
access_table =
    (codes "PUBLIC", 2 ^ public) ∷ (codes "PRIVATE", 2 ^ private) ∷ (codes "PROTECTED", 2 ^ protected) ∷ (codes "STATIC", 2 ^ static)
    ∷ (codes "FINAL", 2 ^ final) ∷ (codes "SUPER", 2 ^ super) ∷ (codes "SYNCHRONIZED", 2 ^ synchronized) ∷ (codes "VOLATILE", 2 ^ volatile)
    ∷ (codes "BRIDGE", 2 ^ bridge) ∷ (codes "TRANSIENT", 2 ^ transient) ∷ (codes "VARARGS", 2 ^ varargs) ∷ (codes "NATIVE", 2 ^ native)
    ∷ (codes "INTERFACE", 2 ^ interface) ∷ (codes "ABSTRACT", 2 ^ abstract) ∷ (codes "STRICT", 2 ^ strict) ∷ (codes "SYNTHETIC", 2 ^ synthetic)
    ∷ (codes "ANNOTATION", 2 ^ annotation) ∷ (codes "ENUM", 2 ^ enum) ∷ []
