-- Which names the lines of fields and of methods may have, and where a label stands that two lines define, at plain values.
use Rattle.std.proofs.Common.{◌≡◌, ◌≢◌, ◌⊎◌, ◌<◌, ℕ, false, pos, List, [], ◌∷◌, ◌++◌, None, codes, refl, sym, ap, length, inl, inr, arith}
use Rattle.std.specs.List.{AllByRecursion}
use Rattle.dj_names.specs.declared.descriptor.Base.TheVariants as bases
use Rattle.dj_names.specs.declared.descriptor.Of.TheVariants as ofs
use Rattle.dj_names.specs.trusted.Names.{IsNameByte, IsUnqualifiedName, IsClassName, IsMethodName}
use Rattle.dj_names.specs.trusted.Descriptors.{IsFieldDescriptor}
use Rattle.dj_asm_source.specs.trusted.Lines.{Line, Field, Abstract, Jump, Member, Dynamic, Labelled, Beside, Does, End, IsLine, IsOperation}
use Rattle.dj_asm_source.specs.trusted.Sources.{Source, Mark, Step, Coded}
use Rattle.dj_asm_source.specs.trusted.Labels.{AtInstruction, IsLabelAt, IsMet, IsDoubled, IsMislabelled, instruction_count}
use Rattle.dj_asm_source.specs.LabelReading.{marks_from, mislabelled_from, sections_of, mislabelled_after}
use Rattle.dj_asm_source.proofs.LabelTextLaws.{first_is}

-- ---- names of fields and of methods

byte_a : IsNameByte 65
byte_a = record { not_dot = λ e. omega (arith, e); not_semicolon = λ e. omega (arith, e); not_bracket = λ e. omega (arith, e); not_slash = λ e. omega (arith, e) }

byte_x : IsNameByte 120
byte_x = record { not_dot = λ e. omega (arith, e); not_semicolon = λ e. omega (arith, e); not_bracket = λ e. omega (arith, e); not_slash = λ e. omega (arith, e) }

less : IsNameByte 60
less = record { not_dot = λ e. omega (arith, e); not_semicolon = λ e. omega (arith, e); not_bracket = λ e. omega (arith, e); not_slash = λ e. omega (arith, e) }

greater : IsNameByte 62
greater = record { not_dot = λ e. omega (arith, e); not_semicolon = λ e. omega (arith, e); not_bracket = λ e. omega (arith, e); not_slash = λ e. omega (arith, e) }

class_name : IsClassName (65 ∷ [])
class_name = record { parts = (65 ∷ []) ∷ []; some = λ e. absurd cc; names = (record { some = λ e. absurd cc; bytes = (byte_a, tt) }, tt); joined = refl }

-- <x>
angled : IsUnqualifiedName (60 ∷ 120 ∷ 62 ∷ [])
angled = record { some = λ e. absurd cc; bytes = (less, (byte_x, (greater, tt))) }

no_method_name : IsMethodName (60 ∷ 120 ∷ 62 ∷ []) → ⊥
no_method_name name = by_angles name.angles where
  by_angles : ((60 ∷ 120 ∷ 62 ∷ []) ≡ codes "<init>") ⊎ (((60 ∷ 120 ∷ 62 ∷ []) ≡ codes "<clinit>") ⊎ AllByRecursion (λ (b : ℕ). (b ≢ 60) × (b ≢ 62)) (60 ∷ 120 ∷ 62 ∷ [])) → ⊥
  by_angles (inl e) = let size : 3 ≡ 6 = ap length e in omega (arith, size)
  by_angles (inr (inl e)) = let size : 3 ≡ 8 = ap length e in omega (arith, size)
  by_angles (inr (inr none)) = none.0.0 refl

int : IsFieldDescriptor (codes "I")
int = (record { dims = 0; of = ofs.Base bases.Int }, record { text_is = refl; valid = record { few = omega arith; named = tt } })

-- getfield A <x> I: a field's name may have angles
field_use : IsOperation (Member 180 (65 ∷ []) (60 ∷ 120 ∷ 62 ∷ []) (codes "I") false)
field_use = (inl class_name, inl (record { from = omega arith; to = omega arith; named = angled; described = int; plain = refl }))

field_line : IsLine (Field 1 (60 ∷ 120 ∷ 62 ∷ []) (codes "I") None)
field_line = (angled, int)

-- invokevirtual A <x> ()V: a method's may not
no_method_use : (desc : List ℕ) → IsOperation (Member 182 (65 ∷ []) (60 ∷ 120 ∷ 62 ∷ []) desc false) → ⊥
no_method_use desc (class, inl field) = let to = field.to in omega (arith, to)
no_method_use desc (class, inr method) = no_method_name method.named

no_method_line : (desc : List ℕ) → IsLine (Abstract 1025 (60 ∷ 120 ∷ 62 ∷ []) desc) → ⊥
no_method_line desc line = no_method_name line.0

no_call_site : (desc : List ℕ) → IsOperation (Dynamic (pos 0) (60 ∷ 120 ∷ 62 ∷ []) desc) → ⊥
no_call_site desc operation = no_method_name operation.0

-- ---- a label that two lines define

abbrev label : List ℕ
label = codes "L"

-- L:, goto L, L:
abbrev body : List Line
body = Beside (Labelled label) ∷ Does (Jump 167 label) ∷ Beside (Labelled label) ∷ []

-- it stands where the first defines it
at_first : IsLabelAt body label 0
at_first = record { prefix = []; rest = Does (Jump 167 label) ∷ Beside (Labelled label) ∷ []; parts = refl; first = tt; number_is = refl }

-- and not where the last does
first_alone : (prefix rest : List Line) → body ≡ prefix ++ Beside (Labelled label) ∷ rest → AllByRecursion (λ line. line ≢ Beside (Labelled label)) prefix → instruction_count prefix ≡ 0
first_alone [] rest e none = refl
first_alone (line ∷ lines) rest e none = absurd (none.0 (sym (head_is e))) where
  head_of : List Line → Line
  head_of [] = End
  head_of (first ∷ more) = first

  head_is : body ≡ line ∷ lines ++ Beside (Labelled label) ∷ rest → Beside (Labelled label) ≡ line
  head_is same = ap head_of same

not_at_last : IsLabelAt body label 1 → ⊥
not_at_last at =
    let none = first_alone at.prefix at.rest at.parts at.first in
    let is = at.number_is in
    omega (arith, none, is)

-- so the jump goes to the jump
jump_is_met : IsMet body (AtInstruction label)
jump_is_met = record { number = 0; defined = at_first; instruction = omega arith }

-- the second line that defines it is doubled, and the first isn't
second_doubled : IsDoubled (Beside (Labelled label) ∷ Does (Jump 167 label) ∷ []) (Beside (Labelled label))
second_doubled = (0, omega arith, refl)

first_not_doubled : IsDoubled [] (Beside (Labelled label)) → ⊥
first_not_doubled (k, below, is) = omega (arith, below)

-- in a source: .class, .super, .method, .stack, .locals, L:, goto L, L:, .end
abbrev doubled : Source
doubled = record {
  flags = 33;
  name = codes "A";
  version = None;
  super = codes "A";
  interfaces = [];
  fields = [];
  methods = Coded 9 (codes "m") (codes "()V") (pos 0) (pos 0) (Mark (Labelled label) ∷ Step (Jump 167 label) ∷ Mark (Labelled label) ∷ []) ∷ [];
}

-- the second is a fault at its line, and no line before it is
second_is_first_fault : IsMislabelled doubled 7 × ((earlier : ℕ) → earlier < 7 → IsMislabelled doubled earlier → ⊥)
unfolding marks_from mislabelled_from sections_of mislabelled_after
second_is_first_fault = first_is doubled 7 refl

jump_is_no_fault : IsMislabelled doubled 6 → ⊥
jump_is_no_fault wrong = second_is_first_fault.1 6 (omega arith) wrong
