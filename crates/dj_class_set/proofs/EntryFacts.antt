-- The entry of a run with the raw library: which programs have it, and which lines report that it isn't there.
use Rattle.std.proofs.Common.{◌≡◌, ℕ, ◌≤◌, ◌&&◌, Bool, true, false, not, List, [], ◌∷◌, ◌++◌, map, codes, Contains, Option, Some, None, IsFalse, if◌then◌else◌, refl, sym, ap, ◌∙◌, subst, inl, inr, arith}
use Rattle.std.specs.Option.{option_map}
use Rattle.std.specs.List.{list_all}
use Rattle.std.specs.List.Sorted.{IsStrictlySortedBy}
use Rattle.dj_edge.specs.trusted.Held.{File}
use Rattle.dj_names.specs.declared.descriptor.Base.TheVariants as bases
use Rattle.dj_names.specs.declared.descriptor.Ty.{Ty}
use Rattle.dj_names.specs.declared.descriptor.Desc.{Desc}
use Rattle.dj_names.specs.declared.descriptor.Desc.TheVariants as descs
use Rattle.dj_names.specs.declared.native.NativeId.TheVariants as natives
use Rattle.dj_names.specs.trusted.Types.{Name, base_array}
use Rattle.dj_names.specs.trusted.Library.{raw_library}
use Rattle.dj_class.specs.trusted.ClassFile.{ClassFile}
use Rattle.dj_report.specs.declared.report.Violation.{Violation}
use Rattle.dj_report.specs.trusted.Lines.{file_line}
use Rattle.dj_report.proofs.Sorted.{contains_first, contains_none, contains_cases}
use Rattle.dj_file_rules.specs.trusted.Violations.{this_name}
use Rattle.dj_early_rules.specs.trusted.Rules.{IsEarlyLine}
use Rattle.dj_model.specs.trusted.Types.{no_parameters}
use Rattle.dj_model.specs.trusted.Program.{Program, Class, Method, Body, Abstract, Native, Runs, class_at, method_in, method_of, has_code, is_static, is_named, runs_static}
use Rattle.dj_model.specs.trusted.Libraries.{library_class, library_program, joined}
use Rattle.dj_model.specs.SmallRuns.{class_with}
use Rattle.dj_model.proofs.SoundLinks.{class_contained}
use Rattle.dj_declarations.specs.trusted.Files.{no_code, declared_class, declared_program}
use Rattle.dj_class_table.specs.ClassRows.{RiseStrictly}
use Rattle.dj_class_table.specs.Tables.{name_of, name_at}
use Rattle.dj_class_table.proofs.Joins.{declared_program-joined}
use Rattle.dj_class_table.proofs.Numbered.{class_number-rise, class_at-at}
use Rattle.dj_class_table.proofs.Rising.{members_joined}
use Rattle.dj_loader.proofs.Lists.{member_prefix, member_of_either, member_mapped, place_of_member, of_map}
use Rattle.dj_loader.proofs.Moved.{rise_of_table, in_table}
use Rattle.dj_class_set.specs.trusted.Checked.{AreGoodFiles, HoldsHierarchy, IsLateLine}
use Rattle.dj_class_set.specs.trusted.RawRules.{entry_desc, runs_entry, LacksEntry, IsRawLine, AreRawViolations}
use Rattle.dj_class_set.proofs.Alike.{none_shared}
use Rattle.dj_class_set.proofs.GoodFiles.{same_good}
use Rattle.dj_class_set.proofs.LibraryDescriptors.{both}

-- ---- at plain values: the class A of some methods, beside the library

abbrev a : Name
a = codes "A"

abbrev with_a : List Method → Program
with_a methods = joined (class_with a [] methods ∷ []) (library_program raw_library)

abbrev method : ℕ → Name → Desc → Body → Method
method flags name desc body = record { flags = flags; name = name; desc = desc; body = body }

abbrev verify : ℕ → Body → Method
verify flags body = method flags (codes "verify") entry_desc body

-- public and static, with code; static alone; and beside another method
entry-there : map (λ (methods : List Method). runs_entry (with_a methods) a)
    ((verify 9 (Runs no_code) ∷ []) ∷ (verify 8 (Runs no_code) ∷ []) ∷ (method 9 (codes "verify") no_parameters (Runs no_code) ∷ verify 9 (Runs no_code) ∷ []) ∷ [])
    ≡ true ∷ true ∷ true ∷ []
entry-there = refl

-- of another class, of one that is below it in the order of names, and of one whose name goes on
entry-other_class : map (runs_entry (with_a (verify 9 (Runs no_code) ∷ []))) (codes "B" ∷ [] ∷ codes "AB" ∷ codes "A/B" ∷ codes "java/lang/Object" ∷ [])
    ≡ false ∷ false ∷ false ∷ false ∷ false ∷ []
entry-other_class = refl

-- a class without such a method: without any, and with those of other names
entry-no_method : map (λ (methods : List Method). runs_entry (with_a methods) a)
    ([] ∷ (method 9 (codes "verif") entry_desc (Runs no_code) ∷ []) ∷ (method 9 (codes "Verify") entry_desc (Runs no_code) ∷ []) ∷ [])
    ≡ false ∷ false ∷ false ∷ []
entry-no_method = refl

abbrev returning : Option Ty → Desc
returning ret = descs.Method (base_array bases.Byte ∷ []) ret

-- one of another descriptor: ()V, ([B)V, ([C)[B, ([B[B)[B, ([B)[C
entry-other_descriptor : map (λ (desc : Desc). runs_entry (with_a (method 9 (codes "verify") desc (Runs no_code) ∷ [])) a)
    (no_parameters
    ∷ returning None
    ∷ descs.Method (base_array bases.Char ∷ []) (Some (base_array bases.Byte))
    ∷ descs.Method (base_array bases.Byte ∷ base_array bases.Byte ∷ []) (Some (base_array bases.Byte))
    ∷ returning (Some (base_array bases.Char))
    ∷ [])
    ≡ false ∷ false ∷ false ∷ false ∷ false ∷ []
entry-other_descriptor = refl

-- one that isn't static: public, without flags, and with all others
entry-not_static : map (λ (flags : ℕ). runs_entry (with_a (verify flags (Runs no_code) ∷ [])) a) (1 ∷ 0 ∷ 65527 ∷ []) ≡ false ∷ false ∷ false ∷ []
entry-not_static = refl

-- one that is abstract, and one that is native: neither has code
entry-no_code : map (λ (body : Body). runs_entry (with_a (verify 9 body ∷ [])) a) (Abstract ∷ Native natives.ObjectHashCode ∷ Native natives.HostHashCode ∷ []) ≡ false ∷ false ∷ false ∷ []
entry-no_code = refl

-- ---- the class of an entry is one of the files

abbrev has_none : Method → Bool
has_none m = not (has_code m.body)

abbrev class_has_none : Class → Bool
class_has_none c = list_all has_none c.methods

library_has_none : list_all class_has_none (map library_class raw_library) ≡ true
library_has_none = refl

all_member : (classes : List Class) (c : Class) → list_all class_has_none classes ≡ true → Contains classes c → class_has_none c ≡ true
all_member [] c all m = absurd (contains_none c m)
all_member (d ∷ classes) c all m =
    let each = both (class_has_none d) (list_all class_has_none classes) all in
    elim (contains_cases d classes c m) [
      | inl e ↦ subst (λ (x : Class). class_has_none x ≡ true) e each.0
      | inr later ↦ all_member classes c each.1 later
    ]

never_runs : (static code : Bool) → not code ≡ true → (static && code) ≡ false
never_runs true true e = absurd cc
never_runs true false e = refl
never_runs false code e = refl

chosen : (here : Bool) (m : Method) (rest : Option Method) → runs_static (Some m) ≡ false → runs_static rest ≡ false → runs_static (if here then Some m else rest) ≡ false
chosen true m rest one other = one
chosen false m rest one other = other

none_in : (methods : List Method) (name : Name) (desc : Desc) → list_all has_none methods ≡ true → runs_static (method_in methods name desc) ≡ false
none_in [] name desc all = refl
none_in (m ∷ methods) name desc all =
    let each = both (has_none m) (list_all has_none methods) all in
    chosen (is_named name desc m.name m.desc) m (method_in methods name desc) (never_runs (is_static m.flags) (has_code m.body) each.0) (none_in methods name desc each.1)

-- a class of the name, which is none of the library
record IsClassOfFile (classes : List ClassFile) (name : Name) : Type 0 where
  class : ClassFile
  among : Contains classes class
  named : this_name class ≡ name

declared_name : (c : ClassFile) → (declared_class c).name ≡ this_name c
unfolding declared_class
declared_name c = refl

of_either : (classes : List ClassFile) (name : Name) (c : Class) → Contains (map declared_class classes ++ map library_class raw_library) c → c.name ≡ name
    → runs_static (method_in c.methods (codes "verify") entry_desc) ≡ true → IsClassOfFile classes name
of_either classes name c m named runs =
    elim (member_of_either (map declared_class classes) (map library_class raw_library) c m) [
      | inl own ↦
          let (file, among, is) = of_map declared_class classes c own in
          record { class = file; among = among; named = sym (declared_name file) ∙ (ap (λ (d : Class). d.name) is ∙ named) }
      | inr row ↦
          let none = none_in c.methods (codes "verify") entry_desc (all_member (map library_class raw_library) c library_has_none row) in
          absurd cc
    ]

found : (classes : List ClassFile) (name : Name) (o : Option Class) → class_at (declared_program raw_library classes) name ≡ o
    → runs_static (method_of o (codes "verify") entry_desc) ≡ true → IsClassOfFile classes name
found classes name None at runs = absurd cc
found classes name (Some c) at runs =
    let all = map declared_class classes ++ map library_class raw_library in
    let own = class_contained (declared_program raw_library classes) name c at in
    let there : Contains (joined all []) c = subst (λ (p : Program). Contains p c) (declared_program-joined raw_library classes) own.0 in
    of_either classes name c ((members_joined all c).0 there) own.1 runs

entry-of_file : (classes : List ClassFile) (name : Name) → runs_entry (declared_program raw_library classes) name ≡ true → IsClassOfFile classes name
entry-of_file classes name runs = found classes name (class_at (declared_program raw_library classes) name) refl runs

-- so no class of the library is an entry, whatever its name
entry-no_library : (name : Name) → runs_entry (declared_program raw_library []) name ≡ true → ⊥
entry-no_library name runs = let of = entry-of_file [] name runs in contains_none of.class of.among

-- where the rules 1 to 6 hold, the class file of the name says whether there is an entry: its declared class is the class of the name
class_reported : (files : List File) (classes : List ClassFile) (c : ClassFile) → HoldsHierarchy files → AreGoodFiles files classes → Contains classes c
    → class_at (declared_program raw_library classes) (this_name c) ≡ Some (declared_class c)
class_reported files classes c holds good m =
    let all = map declared_class classes ++ map library_class raw_library in
    let program = declared_program raw_library classes in
    let joins : program ≡ joined all [] = declared_program-joined raw_library classes in
    let rise : RiseStrictly program = rise_of_table all program joins (λ name shared. none_shared raw_library (inr refl) files classes name holds good shared) in
    let own : Contains all (declared_class c) =
    member_prefix (map declared_class classes) (map library_class raw_library) (declared_class c) (member_mapped declared_class classes c m) in
    let (k, at) = place_of_member program (declared_class c) (in_table all program joins (declared_class c) own) in
    let named : name_at program k ≡ Some (this_name c) = ap (option_map name_of) at ∙ ap Some (declared_name c) in
    class_at-at program (this_name c) k (class_number-rise program rise k (this_name c) named) ∙ at

entry-of_class : (files : List File) (classes : List ClassFile) (c : ClassFile) → HoldsHierarchy files → AreGoodFiles files classes → Contains classes c
    → runs_entry (declared_program raw_library classes) (this_name c) ≡ runs_static (method_in (declared_class c).methods (codes "verify") entry_desc)
entry-of_class files classes c holds good m =
    ap (λ (o : Option Class). runs_static (method_of o (codes "verify") entry_desc)) (class_reported files classes c holds good m)

-- ---- the line

module _ (files : List File) (class : Name) where
  -- where the rules 1 to 6 hold it is there exactly where the entry isn't
  entry-reported : (classes : List ClassFile) → HoldsHierarchy files → AreGoodFiles files classes → IsFalse (runs_entry (declared_program raw_library classes) class)
      → IsRawLine files class (file_line (class ++ codes ".class") 20)
  entry-reported classes holds good lacks = inr (record { hierarchy = holds; classes = classes; good = good; lacks = lacks; line = refl })

  entry-unreported : (classes : List ClassFile) (v : Violation) → AreGoodFiles files classes → runs_entry (declared_program raw_library classes) class ≡ true → LacksEntry files class v → ⊥
  entry-unreported classes v good runs lacks =
      let other : IsFalse (runs_entry (declared_program raw_library classes) class) =
      subst (λ (cs : List ClassFile). IsFalse (runs_entry (declared_program raw_library cs) class)) (same_good files lacks.classes classes lacks.good good) lacks.lacks in
      absurd cc

  -- where one of them is violated no line of the rules 17 to 20 is there
  broken-early : (v w : Violation) → IsEarlyLine files v → v.rule ≤ 6 → IsRawLine files class w → IsEarlyLine files w
  broken-early v w is small (inl (inl early)) = early
  broken-early v w is small (inl (inr late)) = let past = late.hierarchy v is in absurd (omega (arith, small, past))
  broken-early v w is small (inr lacks) = let past = lacks.hierarchy v is in absurd (omega (arith, small, past))

-- ---- no files: of each entry there is the one line

no_early : (v : Violation) → IsEarlyLine [] v → ⊥
no_early v (inl (file, m, line)) = contains_none file m
no_early v (inr (inl line)) = let stands = line.stands in absurd cc
no_early v (inr (inr line)) = contains_none line.file line.own

no_late : (v : Violation) → IsLateLine raw_library [] v → ⊥
no_late v late = elim late.line [
  | inl (file, m, link) ↦ contains_none file m
  | inr (file, m, shape) ↦ contains_none file m
]

false_from : (b : Bool) → (b ≡ true → ⊥) → IsFalse b
false_from true never = absurd (never refl)
false_from false never = refl

no_files : (class : Name) → AreRawViolations [] class (file_line (class ++ codes ".class") 20 ∷ [])
unfolding IsStrictlySortedBy
no_files class =
    let line : Violation = file_line (class ++ codes ".class") 20 in
    let holds : HoldsHierarchy [] = λ v is. absurd (no_early v is) in
    record {
      in_order = (tt, tt);
      all = λ v. (
        λ m. elim (contains_cases line [] v m) [
          | inl e ↦ subst (IsRawLine [] class) e (entry-reported [] class [] holds tt (false_from (runs_entry (declared_program raw_library []) class) (entry-no_library class)))
          | inr none ↦ absurd (contains_none v none)
        ],
        λ any. elim any [
          | inl by ↦ elim by [ inl early ↦ absurd (no_early v early) | inr late ↦ absurd (no_late v late) ]
          | inr lacks ↦ subst (Contains (line ∷ [])) (sym lacks.line) (contains_first line [])
        ],
      );
    }

no_files-silent : (class : Name) → AreRawViolations [] class [] → ⊥
no_files-silent class silent =
    let line : Violation = file_line (class ++ codes ".class") 20 in
    contains_none line ((silent.all line).1 (((no_files class).all line).0 (contains_first line [])))
