-- The lines of files: whatever the files are, there is a list of them.
use Rattle.std.proofs.Common.{◌≡◌, ℕ, ◌⊎◌, List, Contains, subst, inl, inr}
use Rattle.dj_edge.specs.trusted.Held.{File}
use Rattle.dj_pool.specs.trusted.Pool.{Constant}
use Rattle.dj_class.specs.trusted.ClassFile.{MemberInfo, ClassFile, IsClassFile, IsMalformed}
use Rattle.dj_pool.proofs.Decides.{tests_decide}
use Rattle.dj_class.proofs.ClassLaws.{one_class_file}
use Rattle.dj_report.specs.declared.report.Violation.{Violation}
use Rattle.dj_report.specs.trusted.Lines.{file_line, member_line}
use Rattle.dj_file_rules.specs.trusted.Violations.{member_text, IsNamedAs, this_name, IsNative, IsFinalizer, HasOtherVersion, IsMethodLine, IsClassLine, IsLineOf, IsViolation, AreViolations}
use Rattle.dj_class_set.proofs.Classical.{NotNot, bind, decide, IsFinite, finite_same, finite_none, finite_if, finite_either, finite_among}
use Rattle.dj_class_set.proofs.InsertedLines.{finite_in_order}

-- a line of this method
abbrev IsLineOfMethod : (List Constant → MemberInfo → Type 0) → List ℕ → ℕ → ClassFile → MemberInfo → Violation → Type 0
IsLineOfMethod IsSuch path rule c m v = IsSuch c.pool m × (v ≡ member_line path (member_text c.pool m) rule)

method_lines : (IsSuch : List Constant → MemberInfo → Type 0) (path : List ℕ) (rule : ℕ) (c : ClassFile) → IsFinite (IsMethodLine IsSuch path rule c)
method_lines IsSuch path rule c =
    finite_same (λ v. (m : MemberInfo) × Contains c.methods m × IsLineOfMethod IsSuch path rule c m v) (IsMethodLine IsSuch path rule c)
    (λ v p. record { method = p.0; own = p.1; such = p.2.0; line = p.2.1 })
    (λ v is. (is.method, is.own, (is.such, is.line)))
    (finite_among (IsLineOfMethod IsSuch path rule c) c.methods (λ m. finite_if (IsSuch c.pool m) (member_line path (member_text c.pool m) rule)))

pub class_lines : (path : List ℕ) (c : ClassFile) → IsFinite (IsClassLine path c)
class_lines path c =
    let Version : Violation → Type 0 = λ v. HasOtherVersion c × (v ≡ file_line path 2) in
    let Name : Violation → Type 0 = λ v. (IsNamedAs path (this_name c) → ⊥) × (v ≡ file_line path 3) in
    let Natives : Violation → Type 0 = IsMethodLine (λ _ m. IsNative m) path 7 c in
    let Finalizers : Violation → Type 0 = IsMethodLine IsFinalizer path 8 c in
    finite_either Version (λ v. Name v ⊎ (Natives v ⊎ Finalizers v)) (finite_if (HasOtherVersion c) (file_line path 2))
    (finite_either Name (λ v. Natives v ⊎ Finalizers v) (finite_if (IsNamedAs path (this_name c) → ⊥) (file_line path 3))
    (finite_either Natives Finalizers (method_lines (λ _ m. IsNative m) path 7 c) (method_lines IsFinalizer path 8 c)))

-- a line of the class file that the bytes are
abbrev IsReadLine : File → Violation → Type 0
IsReadLine file v = (c : ClassFile) × IsClassFile file.1 c × IsClassLine file.0 c v

read_lines : (file : File) → IsFinite (IsReadLine file)
read_lines file = bind (decide ((c : ClassFile) × IsClassFile file.1 c)) (elim [
  | inl (c, is) ↦ finite_same (IsClassLine file.0 c) (IsReadLine file)
      (λ v line. (c, is, line))
      (λ v p. subst (λ (d : ClassFile). IsClassLine file.0 d v) (one_class_file tests_decide file.1 p.0 c p.1 is) p.2)
      (class_lines file.0 c)
  | inr not ↦ finite_none (IsReadLine file) (λ v p. not (p.0, p.1))
])

file_lines : (file : File) → IsFinite (IsLineOf file)
file_lines file =
    finite_either (λ v. IsMalformed file.1 × (v ≡ file_line file.0 1)) (IsReadLine file) (finite_if (IsMalformed file.1) (file_line file.0 1)) (read_lines file)

-- the violations of the files, in order
pub some_violations : (files : List File) → NotNot ((violations : List Violation) × AreViolations files violations)
some_violations files = finite_in_order (IsViolation files) (finite_among IsLineOf files file_lines)
