-- What the laws say at plain values.
use Rattle.std.proofs.Common.{◌≡◌, ℕ, List, [], ◌∷◌, ◌++◌, Some, None, refl, sym, subst, arith, inl, inr}
use Rattle.std.specs.Prelude.{codes}
use Rattle.dj_pool.specs.trusted.Pool.{text_at}
use Rattle.dj_pool.proofs.AnswerFacts.{are_bytes}
use Rattle.dj_class.specs.declared.class.ClassError.{ClassError}
use Rattle.dj_class.specs.declared.class.ClassError.TheVariants as errors
use Rattle.dj_class.specs.trusted.ClassFile.{ClassFile, IsClassFile, IsMalformed}
use Rattle.dj_class.specs.trusted.Code.{CodeInfo, IsCode}
use Rattle.dj_class.specs.Faults.{IsFault}
use Rattle.dj_class.specs.CodeFaults.{IsCodeFault}
use Rattle.dj_class.specs.Laws.{AreBytes, OneClassFile, OneFault, FaultyIsMalformed, ClassOrFault, IsOne, IsFaulty, EachClassOrFault, OneCode, OneCodeFault, FaultyIsNoCode, CodeOrFault, IsOneCode, IsFaultyCode, EachCodeOrFault, HasText, ClassHasTexts}
use Rattle.dj_class.proofs.Facts.{class_a, bytes_a, array_file, class_b}
use Rattle.dj_class.proofs.AnswerFacts.{class_a-is, denied-reported}
use Rattle.dj_class.proofs.CodeFacts.{body, bytes, body-is, trailing-reported}

-- ---- one answer

one_file-says : OneClassFile → (c : ClassFile) → IsClassFile bytes_a c → c ≡ class_a
one_file-says law c h = law bytes_a c class_a h class_a-is

one_fault-says : OneFault → (e : ClassError) → IsFault array_file e → e ≡ errors.Index 20
one_fault-says law e h = law array_file e (errors.Index 20) h denied-reported

malformed-says : FaultyIsMalformed → (c : ClassFile) → IsClassFile array_file c → ⊥
malformed-says law = law array_file (errors.Index 20) denied-reported

not_malformed : IsMalformed bytes_a → ⊥
not_malformed h = h class_a class_a-is

one_code-says : OneCode → (c : CodeInfo) → IsCode bytes c → c ≡ body
one_code-says law c h = law bytes c body h body-is

one_code_fault-says : OneCodeFault → (e : ClassError) → IsCodeFault (bytes ++ 0 ∷ []) e → e ≡ errors.Trailing 45
one_code_fault-says law e h = law (bytes ++ 0 ∷ []) e (errors.Trailing 45) h trailing-reported

no_code-says : FaultyIsNoCode → (c : CodeInfo) → IsCode (bytes ++ 0 ∷ []) c → ⊥
no_code-says law = law (bytes ++ 0 ∷ []) (errors.Trailing 45) trailing-reported

-- ---- one of two

-- a class file is one, and no fault is reported of it
file-or-fault : FaultyIsMalformed → ClassOrFault bytes_a → (c : ClassFile) × IsClassFile bytes_a c
file-or-fault law (IsOne c is) = (c, is)
file-or-fault law (IsFaulty e fault) = absurd (law bytes_a e fault class_a class_a-is)

each_file-says : FaultyIsMalformed → EachClassOrFault → (c : ClassFile) × IsClassFile bytes_a c
unfolding bytes_a
each_file-says law each = file-or-fault law (each bytes_a (are_bytes bytes_a refl))

fault-or-file : FaultyIsMalformed → ClassOrFault array_file → (e : ClassError) × IsFault array_file e
fault-or-file law (IsOne c is) = absurd (law array_file (errors.Index 20) denied-reported c is)
fault-or-file law (IsFaulty e fault) = (e, fault)

body-or-fault : FaultyIsNoCode → CodeOrFault bytes → (c : CodeInfo) × IsCode bytes c
body-or-fault law (IsOneCode c is) = (c, is)
body-or-fault law (IsFaultyCode e fault) = absurd (law bytes e fault body body-is)

each_body-says : FaultyIsNoCode → EachCodeOrFault → (c : CodeInfo) × IsCode bytes c
unfolding bytes
each_body-says law each = body-or-fault law (each bytes (are_bytes bytes refl))

-- 256 is no byte
bytes-are : AreBytes (0 ∷ 255 ∷ [])
bytes-are = are_bytes (0 ∷ 255 ∷ []) refl

bytes-are_not : AreBytes (0 ∷ 256 ∷ []) → ⊥
bytes-are_not h = omega (arith, h 1)

-- ---- texts

is_some_of : {A : Type 0} {x y : A} → Some x ≡ Some y → x ≡ y
is_some_of h = cc

-- the text that is there, and none where none is
text-there : (P : List ℕ → Type 0) (h : HasText (text_at class_a.pool 5) P) → P (codes "verify")
unfolding class_a
text-there P h = let same : codes "verify" ≡ h.text = is_some_of h.found_is in subst P (sym same) h.holds

text-there_not : (P : List ℕ → Type 0) → HasText (text_at class_a.pool 4) P → ⊥
unfolding class_a
text-there_not P h = let none = h.found_is in absurd cc

-- a class file whose indexes are these
of_indexes : (this super interface field desc attribute : ℕ) → ClassFile
of_indexes this super interface field desc attribute = record {
  minor = 0;
  major = 52;
  pool = class_b.pool;
  flags = 33;
  this_class = this;
  super_class = super;
  interfaces = interface ∷ [];
  fields = record { flags = 9; name = field; desc = 4; attributes = [] } ∷ [];
  methods = record { flags = 9; name = 1; desc = desc; attributes = [] } ∷ [];
  attributes = record { name = attribute; body = 7 ∷ [] } ∷ [];
}

good-indexes : of_indexes 2 0 2 3 5 1 ≡ class_b
unfolding of_indexes class_b
good-indexes = refl

no_text : {P : List ℕ → Type 0} → HasText None P → ⊥
no_text h = let none = h.found_is in absurd cc

-- an index that names no text has none in each of its places
this-texts_not : ClassHasTexts (of_indexes 1 0 2 3 5 1) → ⊥
unfolding of_indexes class_b
this-texts_not h = no_text h.this_class

super-texts_not : ClassHasTexts (of_indexes 2 1 2 3 5 1) → ⊥
unfolding of_indexes class_b
super-texts_not h = elim h.super_class [ inl none ↦ omega (arith, none) | inr named ↦ no_text named ]

interface-texts_not : ClassHasTexts (of_indexes 2 0 1 3 5 1) → ⊥
unfolding of_indexes class_b
interface-texts_not h = no_text (h.interfaces 0 0 (omega arith))

field-texts_not : ClassHasTexts (of_indexes 2 0 2 2 5 1) → ⊥
unfolding of_indexes class_b
field-texts_not h = no_text (h.fields 0 (record { flags = 0; name = 0; desc = 0; attributes = [] }) (omega arith)).name

method-texts_not : ClassHasTexts (of_indexes 2 0 2 3 2 1) → ⊥
unfolding of_indexes class_b
method-texts_not h = no_text (h.methods 0 (record { flags = 0; name = 0; desc = 0; attributes = [] }) (omega arith)).desc

attribute-texts_not : ClassHasTexts (of_indexes 2 0 2 3 5 2) → ⊥
unfolding of_indexes class_b
attribute-texts_not h = no_text (h.attributes 0 (record { name = 0; body = [] }) (omega arith))
