-- The line of the rule ENTRY, where the classes of the files are linked with the raw library, and the judgement by all rules of `raw`.
use Rattle.std.proofs.Common.{◌≡◌, ◌≢◌, ◌↔◌, ◌==◌, true≢false, Contains, ℕ, ◌<◌, Bool, true, false, ◌&&◌, List, [], length, slice_get, Option, Some, None, IsFalse, refl, sym, ap, ◌∙◌, subst, inl, inr, codes}
use Rattle.std.specs.Prelude.{option_and_then, unwrap_or}
use Rattle.std.specs.Option.{option_map}
use Rattle.std.proofs.lemmas.Option.{slice_get_within}
use Rattle.dj_edge.specs.trusted.Held.{File}
use Rattle.dj_names.specs.trusted.Types.{Name}
use Rattle.dj_names.specs.trusted.Library.{raw_library}
use Rattle.dj_names.specs.declared.native.NativeId.{NativeId}
use Rattle.dj_names.specs.declared.descriptor.Desc.{Desc}
use Rattle.dj_names.specs.trusted.Descriptors.{Describes}
use Rattle.dj_names.specs.trusted.DescReading.{dims_read, name_read, class_read, of_read, type_read, params_read, field_read, return_read, method_read, desc_read}
use Rattle.dj_names.specs.trusted.NameReading.{reads_class_name}
use Rattle.dj_names.proofs.DescLaws.{desc_takes}
use Rattle.dj_class.specs.trusted.ClassFile.{ClassFile}
use Rattle.dj_model.specs.trusted.Types.{no_parameters}
use Rattle.dj_model.specs.trusted.Program.{Program, Class, Method, Body, Abstract, Native, Runs, has_code, is_static, method_in, method_of, runs_static}
use Rattle.dj_model.specs.trusted.Linking.{has_body}
use Rattle.dj_report.specs.declared.report.Violation.{Violation}
use Rattle.dj_report.specs.Lines.{Adds}
use Rattle.dj_report.specs.trusted.Order.{IsInOrder}
use Rattle.dj_report.proofs.Adding.{adds_same, adds_both, exactly_found}
use Rattle.dj_loader.proofs.Lists.{member_none}
use Rattle.dj_declarations.specs.trusted.Files.{desc_in, declared_program}
use Rattle.dj_declarations.specs.Members.{IsDescriptor, native_in, method_flags, method_has_body, method_native}
use Rattle.dj_class_table.specs.Tables.{class_number, methods_of, methods_at}
use Rattle.dj_class_table.proofs.Numbered.{class_at-number, class_at-at}
use Rattle.dj_resolution.specs.Linked.{Linked}
use Rattle.dj_class_set.specs.trusted.Checked.{HoldsHierarchy, IsLineBy}
use Rattle.dj_class_set.specs.trusted.RawRules.{entry_desc, runs_entry, LacksEntry, IsRawLine, AreRawViolations}
use Rattle.dj_class_set.specs.RawEntry.{method_has_code, EntryLine}
use Rattle.dj_class_set.specs.Late.{LinksFiles, IsLinkedWhereHeld, IsJudgedSet}
use Rattle.dj_class_set.specs.declared.judging.JudgedSet.{JudgedSet}
use Rattle.dj_class_set.proofs.GoodFiles.{same_good}
use Rattle.dj_class_set.proofs.LateLaws.{good_files}

-- ---- the entry's descriptor

entry_read : desc_read (codes "([B)[B") ≡ Some entry_desc
unfolding dims_read name_read class_read of_read type_read params_read field_read return_read method_read desc_read reads_class_name
entry_read = refl

pub entry_desc_is : desc_in (codes "([B)[B") ≡ entry_desc
unfolding desc_in
entry_desc_is = ap (λ (o : Option Desc). unwrap_or o no_parameters) entry_read

pub entry_spelled : Describes (codes "([B)[B") entry_desc
entry_spelled = desc_takes (codes "([B)[B") entry_desc entry_read

pub entry_described : IsDescriptor (codes "([B)[B")
entry_described = subst (Describes (codes "([B)[B")) (sym entry_desc_is) entry_spelled

-- ---- a method has code where it has a body and isn't native

code_of_body : (body : Body) → native_in body ≡ None → has_body body ≡ has_code body
code_of_body Abstract e = refl
code_of_body (Native id) e = absurd cc
code_of_body (Runs code) e = refl

no_code_of : (body : Body) (id : NativeId) → native_in body ≡ Some id → has_code body ≡ false
no_code_of Abstract id e = absurd cc
no_code_of (Native other) id e = refl
no_code_of (Runs code) id e = absurd cc

pub native_reported : (o : Option Method) (native : Option NativeId) (id : NativeId) → Some native ≡ option_map method_native o → native ≡ Some id
    → Some false ≡ option_map method_has_code o
native_reported None native id e is = absurd cc
native_reported (Some m) native id e is =
    let own : native ≡ native_in m.body = cc in
    ap Some (sym (no_code_of m.body id (sym own ∙ is)))

pub own_reported : (o : Option Method) (native : Option NativeId) (has : Bool) → Some native ≡ option_map method_native o → native ≡ None
    → Some has ≡ option_map method_has_body o → Some has ≡ option_map method_has_code o
own_reported None native has e is f = absurd cc
own_reported (Some m) native has e is f =
    let own : native ≡ native_in m.body = cc in
    f ∙ ap Some (code_of_body m.body (sym own ∙ is))

pub static_yes : (o : Option Method) (flags : ℕ) (code : Bool) → Some flags ≡ option_map method_flags o → Some code ≡ option_map method_has_code o
    → is_static flags ≡ true → code ≡ runs_static o
static_yes None flags code e f is = absurd cc
static_yes (Some m) flags code e f is =
    let a : flags ≡ m.flags = cc in
    let b : code ≡ has_code m.body = cc in
    b ∙ ap (λ (static : Bool). static && has_code m.body) (sym (sym (ap is_static a) ∙ is))

pub static_no : (o : Option Method) (flags : ℕ) → Some flags ≡ option_map method_flags o → is_static flags ≡ false → false ≡ runs_static o
static_no None flags e is = absurd cc
static_no (Some m) flags e is =
    let a : flags ≡ m.flags = cc in
    ap (λ (static : Bool). static && has_code m.body) (sym (sym (ap is_static a) ∙ is))

-- ---- the method at a place

abbrev verify_in : List Method → Option Method
verify_in methods = method_in methods (codes "verify") (desc_in (codes "([B)[B"))

there : (methods : List Method) (o : Option Method) (member : ℕ) → Some (slice_get methods member) ≡ option_map Some o
    → (member < length methods) × (slice_get methods member ≡ o)
there methods None member e = absurd cc
there methods (Some m) member e =
    let at : slice_get methods member ≡ Some m = cc in
    (slice_get_within methods member m at, at)

nowhere : (o : Option Method) → None ≡ option_map Some o → o ≡ None
nowhere None e = refl
nowhere (Some m) e = absurd cc

verify_is : (methods : List Method) → verify_in methods ≡ method_in methods (codes "verify") entry_desc
verify_is methods = ap (method_in methods (codes "verify")) entry_desc_is

pub named_within : (methods : List Method) (place : Option ℕ) (member : ℕ) → option_map (slice_get methods) place ≡ option_map Some (verify_in methods)
    → place ≡ Some member → member < length methods
named_within methods place member found is =
    (there methods (verify_in methods) member (subst (λ (o : Option ℕ). option_map (slice_get methods) o ≡ option_map Some (verify_in methods)) is found)).0

pub named_static : (methods : List Method) (place : Option ℕ) (member : ℕ) → option_map (slice_get methods) place ≡ option_map Some (verify_in methods)
    → place ≡ Some member → runs_static (slice_get methods member) ≡ runs_static (method_in methods (codes "verify") entry_desc)
named_static methods place member found is =
    ap runs_static ((there methods (verify_in methods) member (subst (λ (o : Option ℕ). option_map (slice_get methods) o ≡ option_map Some (verify_in methods)) is found)).1
    ∙ verify_is methods)

pub named_none : (methods : List Method) (place : Option ℕ) → option_map (slice_get methods) place ≡ option_map Some (verify_in methods)
    → place ≡ None → false ≡ runs_static (method_in methods (codes "verify") entry_desc)
named_none methods place found is =
    sym (ap runs_static (sym (verify_is methods)
    ∙ nowhere (verify_in methods) (subst (λ (o : Option ℕ). option_map (slice_get methods) o ≡ option_map Some (verify_in methods)) is found)))

method_of_at : (o : Option Class) (name : Name) (desc : Desc) → method_in (methods_of o) name desc ≡ method_of o name desc
method_of_at None name desc = refl
method_of_at (Some c) name desc = refl

pub entry_at : (program : Program) (class : Name) (k : ℕ) → class_number program class ≡ Some k
    → runs_static (method_in (methods_at program k) (codes "verify") entry_desc) ≡ runs_entry program class
entry_at program class k e =
    ap runs_static (method_of_at (slice_get program k) (codes "verify") entry_desc
    ∙ ap (λ (o : Option Class). method_of o (codes "verify") entry_desc) (sym (class_at-at program class k e)))

pub entry_nowhere : (program : Program) (class : Name) → class_number program class ≡ None → false ≡ runs_entry program class
entry_nowhere program class e =
    sym (ap (λ (o : Option Class). runs_static (method_of o (codes "verify") entry_desc)) (class_at-number program class ∙ ap (option_and_then (slice_get program)) e))

-- ---- the line

entry_line : (files : List File) (linked : Linked) (class : Name) → HoldsHierarchy files → LinksFiles raw_library files linked → (v : Violation)
    → EntryLine linked.program class v ↔ LacksEntry files class v
entry_line files linked class holds (classes, read, is) v =
    let good = good_files files classes holds read in (
      λ line. record {
        hierarchy = holds;
        classes = classes;
        good = good;
        lacks = subst (λ (l : Linked). IsFalse (runs_entry l.program class)) is line.0;
        line = line.1;
      },
      λ lacks. (
        subst (λ (l : Linked). IsFalse (runs_entry l.program class)) (sym is)
            (subst (λ (cs : List ClassFile). IsFalse (runs_entry (declared_program raw_library cs) class)) (same_good files lacks.classes classes lacks.good good) lacks.lacks),
        lacks.line,
      ),
    )

raw_linked : (files : List File) (class : Name) (linked : Linked) (old new : List Violation) → Adds (IsLineBy raw_library files) [] old
    → HoldsHierarchy files × LinksFiles raw_library files linked → Adds (EntryLine linked.program class) old new → Adds (IsRawLine files class) [] new
raw_linked files class linked old new lines (holds, links) adds =
    adds_both (IsLineBy raw_library files) (LacksEntry files class) [] old new lines
    (adds_same (EntryLine linked.program class) (LacksEntry files class) old new (entry_line files linked class holds links) adds)

-- ---- the judgement

-- of files whose classes are linked
pub raw_exactly : (files : List File) (class : Name) (linked : Linked) (old new violations : List Violation) → Adds (IsLineBy raw_library files) [] old
    → HoldsHierarchy files × LinksFiles raw_library files linked → Adds (EntryLine linked.program class) old new → IsInOrder violations
    → ((v : Violation) → Contains violations v ↔ Contains new v) → AreRawViolations files class violations
raw_exactly files class linked old new violations lines held adds ordered members =
    exactly_found (IsRawLine files class) new violations (raw_linked files class linked old new lines held adds) ordered members

-- a list whose slice isn't empty is not empty
pub some_of_full : {X : Type 0} (xs ys : List X) → ys ≡ xs → false ≡ (length ys == 0) → xs ≡ [] → ⊥
some_of_full {X = X} xs ys same full none = absurd (true≢false (ap (λ (l : List X). length l == 0) (sym (same ∙ none)) ∙ sym full))

-- where no rule is violated, none of the rules 1 to 6 is
pub silent_holds : (files : List File) (class : Name) → AreRawViolations files class [] → HoldsHierarchy files
silent_holds files class silent v line = absurd (member_none v ((silent.all v).1 (inl (inl line))))

-- of files whose classes are not linked: a rule is violated
pub raw_broken : (files : List File) (class : Name) (judged : JudgedSet) (violations : List Violation) → IsJudgedSet raw_library files judged → judged.linker ≡ None
    → IsInOrder violations → ((v : Violation) → Contains violations v ↔ Contains judged.found.items v) → AreRawViolations files class violations × (violations ≢ [])
raw_broken files class judged violations is at ordered members =
    let broken : HoldsHierarchy files → ⊥ = subst (IsLinkedWhereHeld raw_library files) at is.linked in
    let adds : Adds (IsRawLine files class) [] judged.found.items =
    adds_same (IsLineBy raw_library files) (IsRawLine files class) [] judged.found.items
    (λ v. (λ line. inl line, λ any. elim any [ inl line ↦ line | inr lacks ↦ absurd (broken lacks.hierarchy) ])) is.lines in
    let exact : AreRawViolations files class violations = exactly_found (IsRawLine files class) judged.found.items violations adds ordered members in
    (exact, λ none. broken (silent_holds files class (subst (AreRawViolations files class) none exact)))
