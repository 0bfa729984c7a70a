-- The lines of a file.
use Rattle.std.proofs.Common.{◌≡◌, ℕ, ◌⊎◌, ◌↔◌, Bool, List, [], ◌++◌, Option, Some, None, refl, sym, ap, ◌∙◌, subst, inl, inr, IsTrue, unwrap_or}
use Rattle.dj_pool.specs.trusted.Pool.{Constant, text_at}
use Rattle.dj_pool.proofs.Decides.{tests_decide}
use Rattle.dj_class.specs.trusted.ClassFile.{MemberInfo, ClassFile}
use Rattle.dj_class.proofs.ClassLaws.{one_class_file}
use Rattle.dj_report.specs.declared.report.Violation.{Violation}
use Rattle.dj_report.specs.trusted.Lines.{file_line}
use Rattle.dj_report.specs.Lines.{Adds}
use Rattle.dj_report.proofs.Adding.{adds_same, adds_both}
use Rattle.dj_file_rules.specs.trusted.Violations.{member_text, this_name}
use Rattle.dj_file_rules.specs.Lines.{pair_text}
use Rattle.dj_early_rules.specs.declared.judged.JudgedText.{JudgedText}
use Rattle.dj_early_rules.specs.declared.marks.MarkPlace.{MarkPlace}
use Rattle.dj_early_rules.specs.declared.marks.Mark.{Mark}
use Rattle.dj_early_rules.specs.Judged.{IsTextAt, AreTexts, first_in, first_of}
use Rattle.dj_early_rules.specs.trusted.Malformed.{IsFaulty, IsRefused, IsGood}
use Rattle.dj_early_rules.specs.trusted.Classes.{IsReserved}
use Rattle.dj_early_rules.specs.trusted.Members.{HasFloatConstant}
use Rattle.dj_early_rules.specs.trusted.Rules.{line_at, IsMemberLine, IsNamingLine}
use Rattle.dj_early_rules.specs.Marks.{place_of, AreMarksOf, names_in, IsMarkLine}

pub naming_lines : (path : List ℕ) (c : ClassFile) (reserved float : Bool) (x0 x1 x2 : List Violation) → (IsTrue reserved ↔ IsReserved (this_name c)) → (IsTrue float ↔ HasFloatConstant c)
    → Adds (λ v. IsTrue reserved × (v ≡ file_line path 4)) x0 x1 → Adds (λ v. IsTrue float × (v ≡ file_line path 12)) x1 x2 → Adds (IsNamingLine path c) x0 x2
naming_lines path c reserved float x0 x1 x2 reported_reserved reported_float first second =
    adds_same (λ v. (IsTrue reserved × (v ≡ file_line path 4)) ⊎ (IsTrue float × (v ≡ file_line path 12))) (IsNamingLine path c) x0 x2 (λ v. (
      λ any. elim any [ inl r ↦ inl (reported_reserved.0 r.0, r.1) | inr f ↦ inr (reported_float.0 f.0, f.1) ],
      λ any. elim any [ inl r ↦ inl (reported_reserved.1 r.0, r.1) | inr f ↦ inr (reported_float.1 f.0, f.1) ],
    )) (adds_both (λ v. IsTrue reserved × (v ≡ file_line path 4)) (λ v. IsTrue float × (v ≡ file_line path 12)) x0 x1 x2 first second)

-- ---- from marks to lines

same_text : (pool : List Constant) (texts : List JudgedText) (index : ℕ) → AreTexts pool texts → (found : Option JudgedText) → ((t : JudgedText) → found ≡ Some t → IsTextAt pool index t) → text_at pool (first_of index found) ≡ text_at pool index
same_text pool texts index are None reported = refl
same_text pool texts index are (Some t) reported = (reported t refl).first

pub first_text : (pool : List Constant) (texts : List JudgedText) (index : ℕ) → AreTexts pool texts → text_at pool (first_in texts index) ≡ text_at pool index
first_text pool texts index are = same_text pool texts index are _ (are.each index)

-- the texts of the indexes that stand for a member's names are its own
names_text : (pool : List Constant) (texts : List JudgedText) (m : MemberInfo) → AreTexts pool texts → pair_text pool (names_in texts m) ≡ member_text pool m
names_text pool texts m are = λ i. unwrap_or (first_text pool texts m.name are i) [] ++ unwrap_or (first_text pool texts m.desc are i) []

pub member_lines : (texts : List JudgedText) (Violates : MemberInfo → Option ℕ → ℕ → Type 0) (members : List MemberInfo) (path : List ℕ) (c : ClassFile) → AreTexts c.pool texts → (v : Violation)
    → ((mark : Mark) × AreMarksOf texts Violates members mark × IsMarkLine path c.pool mark v) ↔ IsMemberLine Violates members path c v
member_lines texts Violates members path c are v = (
  λ (mark, (m, own, (placed, such)), line).
      let named = ap (λ (p : MarkPlace). pair_text c.pool (p.name, p.desc)) placed ∙ names_text c.pool texts m are in
      record { member = m; own = own; number = mark.place.number; rule = mark.rule; such = such; line = line ∙ ap (λ (t : List ℕ). line_at path t mark.place.number mark.rule) named },
  λ is.
      let mark : Mark = record { place = place_of (names_in texts is.member) is.number; rule = is.rule } in
      (mark, (is.member, is.own, (refl, is.such)), is.line ∙ ap (λ (t : List ℕ). line_at path t is.number is.rule) (sym (names_text c.pool texts is.member are))),
)

-- ---- files

-- bytes are not both refused and a good class file
pub refused_not_good : (bytes : List ℕ) (c : ClassFile) → IsGood bytes c → IsRefused bytes → ⊥
refused_not_good bytes c good refused = elim refused [
  | inl none ↦ none c good.file
  | inr (d, is, faulty) ↦ good.whole (subst IsFaulty (one_class_file tests_decide bytes d c is good.file) faulty)
]
