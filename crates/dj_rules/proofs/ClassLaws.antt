-- What is known of a class file.
use Rattle.std.proofs.Common.{◌≡◌, ℕ, ◌+◌, ◌<◌, ◌≤◌, List, [], take, map, length, get_or, Option, Some, None, subst, sym, inl, inr, Bool, false, IsTrue, ◌↔◌}
use Rattle.std.proofs.lemmas.List.{take_all}
use Rattle.dj_class.specs.declared.class.MemberView.{MemberView}
use Rattle.dj_class.specs.trusted.ClassFile.{ClassFile}
use Rattle.dj_class.specs.Members.{member_of}
use Rattle.dj_report.specs.Lines.{Gains, Adds, IsLineAmong}
use Rattle.dj_report.proofs.Adding.{IsAmong, adds_none_yet, adds_read, not_both}
use Rattle.dj_model.specs.trusted.Program.{Program}
use Rattle.dj_early_rules.specs.declared.judged.JudgedText.{JudgedText}
use Rattle.dj_early_rules.specs.declared.marks.Mark.{Mark}
use Rattle.dj_early_rules.specs.Judged.{AreTexts}
use Rattle.dj_early_rules.specs.trusted.Malformed.{IsFaultyMethod, HasFaultyMethod, HasFaultyField, IsFaulty}
use Rattle.dj_early_rules.specs.Marks.{names_in, MarksOf, IsMarkLine}
use Rattle.dj_early_rules.specs.trusted.Methods.{MethodViolates}
use Rattle.dj_early_rules.specs.trusted.Rules.{IsOwnLine}
use Rattle.dj_early_rules.proofs.Anys.{IsAny, none_yet, none_more, found_at, none_at_all, seen_any, from_seen_any}
use Rattle.dj_early_rules.proofs.MarkLaws.{marks_seen}
use Rattle.dj_link_rules.proofs.FileLaws.{mark_lines}
use Rattle.dj_rules.specs.declared.lent.Marks.{Marks}
use Rattle.dj_rules.specs.declared.files.JudgedFiles.{JudgedFiles}
use Rattle.dj_rules.specs.Late.{MethodLateViolates}
use Rattle.dj_rules.specs.Reported.{IsReportedMethod, AreReportedMethods, AreJudgedMethods, HasOwnLines}

-- by another program that is lent
pub methods_by : (c : ClassFile) (Has Had : Program → Type 0) (texts : List JudgedText) (judged : Option Marks) → ((program : Program) → Has program → Had program) → AreJudgedMethods c Had texts judged → AreJudgedMethods c Has texts judged
methods_by c Has Had texts None by faulty = faulty
methods_by c Has Had texts (Some marks) by reported = record { sound = reported.sound; early = reported.early; late = λ program has. reported.late program (by program has) }

-- ---- methods one after the other

abbrev pub IsEarlyOf : ClassFile → List JudgedText → MemberView → Mark → Type 0
IsEarlyOf c texts m = MarksOf (names_in texts (member_of m)) (MethodViolates c (member_of m))

abbrev pub IsLateOf : Program → ClassFile → List JudgedText → MemberView → Mark → Type 0
IsLateOf program c texts m = MarksOf (names_in texts (member_of m)) (MethodLateViolates program c (member_of m))

-- none of the first n methods is faulty, and the marks are theirs
pub record AreFirstReported (c : ClassFile) (Has : Program → Type 0) (texts : List JudgedText) (views : List MemberView) (count : ℕ) (marks : Marks) : Type 0 where
  pub sound : IsAny (λ m. IsFaultyMethod c.pool (member_of m)) (take count views) → ⊥
  pub early : Gains (IsAmong (IsEarlyOf c texts) (take count views)) [] marks.early.items
  pub late : (program : Program) → Has program → Gains (IsAmong (IsLateOf program c texts) (take count views)) [] marks.late.items

pub none_reported : (c : ClassFile) (Has : Program → Type 0) (texts : List JudgedText) (views : List MemberView) (marks : Marks) → marks.early.items ≡ [] → marks.late.items ≡ [] → AreFirstReported c Has texts views 0 marks
none_reported c Has texts views marks early late = record {
  sound = none_yet (λ m. IsFaultyMethod c.pool (member_of m)) views;
  early = subst (λ (xs : List Mark). Gains (IsAmong (IsEarlyOf c texts) (take 0 views)) [] xs) (sym early) (adds_none_yet (IsEarlyOf c texts) views []);
  late = λ program has. subst (λ (xs : List Mark). Gains (IsAmong (IsLateOf program c texts) (take 0 views)) [] xs) (sym late) (adds_none_yet (IsLateOf program c texts) views []);
}

pub one_more_reported : (c : ClassFile) (Has : Program → Type 0) (texts : List JudgedText) (views : List MemberView) (i : ℕ) (item : MemberView) (old new : Marks) → i < length views → item ≡ get_or views i item
    → AreFirstReported c Has texts views i old → IsReportedMethod c Has texts (member_of item) old new → AreFirstReported c Has texts views (i + 1) new
one_more_reported c Has texts views i item old new lt is before reported = record {
  sound = none_more (λ m. IsFaultyMethod c.pool (member_of m)) views i item lt before.sound (λ bad. reported.sound (subst (λ (m : MemberView). IsFaultyMethod c.pool (member_of m)) (sym is) bad));
  early = adds_read (IsEarlyOf c texts) views i item [] old.early.items new.early.items lt is before.early reported.early;
  late = λ program has. adds_read (IsLateOf program c texts) views i item [] old.late.items new.late.items lt is (before.late program has) (reported.late program has);
}

pub one_faulty : (c : ClassFile) (views : List MemberView) (i : ℕ) (item : MemberView) → map member_of views ≡ c.methods → i < length views → item ≡ get_or views i item → IsFaultyMethod c.pool (member_of item) → HasFaultyMethod c
one_faulty c views i item are lt is faulty =
    seen_any member_of (IsFaultyMethod c.pool) views c.methods are
    (found_at (λ m. IsFaultyMethod c.pool (member_of m)) views i item lt (subst (λ (m : MemberView). IsFaultyMethod c.pool (member_of m)) is faulty))

pub all_reported : (c : ClassFile) (Has : Program → Type 0) (texts : List JudgedText) (views : List MemberView) (i : ℕ) (marks : Marks) → map member_of views ≡ c.methods → length views ≤ i → AreFirstReported c Has texts views i marks
    → AreReportedMethods c Has texts marks
all_reported c Has texts views i marks are le reported = record {
  sound = λ has. none_at_all (λ m. IsFaultyMethod c.pool (member_of m)) views i le reported.sound (from_seen_any member_of (IsFaultyMethod c.pool) views c.methods are has);
  early = marks_seen texts (MethodViolates c) views c.methods [] marks.early.items are
      (subst (λ (vs : List MemberView). Gains (IsAmong (IsEarlyOf c texts) vs) [] marks.early.items) (take_all i views le) reported.early);
  late = λ program has. marks_seen texts (MethodLateViolates program c) views c.methods [] marks.late.items are
      (subst (λ (vs : List MemberView). Gains (IsAmong (IsLateOf program c texts) vs) [] marks.late.items) (take_all i views le) (reported.late program has));
}

-- ---- the lines of a class file

pub not_faulty : (c : ClassFile) (b : Bool) → (IsTrue b ↔ HasFaultyField c) → b ≡ false → (HasFaultyMethod c → ⊥) → IsFaulty c → ⊥
not_faulty c b reported is sound faulty = elim faulty [
  | inl m ↦ sound m
  | inr f ↦ not_both b (reported.1 f) is
]

pub own_lines_by : (path : List ℕ) (c : ClassFile) (Has : Program → Type 0) (texts : List JudgedText) (marks : Marks) (old new : JudgedFiles) → AreTexts c.pool texts → AreReportedMethods c Has texts marks
    → Adds (IsOwnLine path c) old.early.items new.early.items → Adds (IsLineAmong (IsMarkLine path c.pool) marks.late.items) old.late.items new.late.items → HasOwnLines path c Has old new
own_lines_by path c Has texts marks old new are reported early late = record {
  early = early;
  late = λ program has. mark_lines texts (MethodLateViolates program c) path c marks.late.items old.late.items new.late.items are (reported.late program has) late;
}
