-- The classes of a program of accepted files by their names and heads, and what the rule HIERARCHY says of them.
use Rattle.std.proofs.Common.{◌≡◌, List, [], ◌∷◌, ◌++◌, map, Option, Some, None, Contains, refl, sym, ap, ◌∙◌, subst, inl, inr}
use Rattle.std.specs.Prelude.{IsSomeAnd}
use Rattle.std.specs.Option.{option_map}
use Rattle.dj_edge.specs.trusted.Held.{File}
use Rattle.dj_names.specs.trusted.Types.{Name}
use Rattle.dj_names.specs.trusted.Library.{Library, deterministic_library}
use Rattle.dj_pool.proofs.Decides.{tests_decide}
use Rattle.dj_class.specs.trusted.ClassFile.{ClassFile}
use Rattle.dj_class.proofs.ClassLaws.{one_class_file}
use Rattle.dj_library.specs.trusted.Heads.{Head, head_of_library, library_heads}
use Rattle.dj_report.specs.trusted.Lines.{file_line}
use Rattle.dj_hierarchy_rule.specs.trusted.Hierarchy.{IsMissing, IsBadSuperclass, ViolatesHierarchy}
use Rattle.dj_model.specs.trusted.Program.{Program, Class, class_at}
use Rattle.dj_model.specs.trusted.Libraries.{library_class}
use Rattle.dj_early_rules.specs.trusted.Malformed.{IsGood}
use Rattle.dj_early_rules.specs.trusted.Heads.{head_of, StandsAmong}
use Rattle.dj_declarations.specs.trusted.Files.{declared_class}
use Rattle.dj_class_table.specs.Tables.{class_number, name_of}
use Rattle.dj_class_table.specs.ClassRows.{RiseStrictly}
use Rattle.dj_class_table.proofs.Numbered.{class_number-rise, class_at-at}
use Rattle.dj_class_table.proofs.Rising.{members_joined}
use Rattle.dj_loader.proofs.Lists.{member_first, member_later, member_none, member_cases, member_prefix, member_mapped, of_map, place_of_member}
use Rattle.dj_program.specs.trusted.Programs.{AreSideBySide, IsClassIn, IsProgramIn}
use Rattle.dj_class_set.specs.trusted.Checked.{AreGoodFiles}
use Rattle.dj_sound.specs.Accepted.{IsAcceptedBy}
use Rattle.dj_sound.proofs.Origins.{head_in, rows_of, IsAlike, IsOfFile, IsRow, as_joined, origin, row_there, no_line}
use Rattle.dj_sound.proofs.Names.{rises}

-- ---- class files and classes at their places

pub good_at : (files : List File) (classes : List ClassFile) (file : File) (c : ClassFile) → AreGoodFiles files classes → Contains files file → IsGood file.1 c → Contains classes c
good_at [] classes file c all m good = absurd (member_none file m)
good_at (f ∷ files) [] file c all m good = absurd all
good_at (f ∷ files) (d ∷ classes) file c all m good = elim (member_cases f files file m) [
  | inl e ↦
      let same : d ≡ c = one_class_file tests_decide file.1 d c (subst (λ (g : File). IsGood g.1 d) e all.0).file good.file in
      subst (Contains (d ∷ classes)) same (member_first d classes)
  | inr later ↦ member_later d classes c (good_at files classes file c all.1 later good)
]

class_beside : (classes : List ClassFile) (own : List Class) (c : ClassFile) → AreSideBySide IsClassIn classes own → Contains classes c → (d : Class) × Contains own d × IsClassIn c d
class_beside [] own c each m = absurd (member_none c m)
class_beside (x ∷ classes) [] c each m = absurd each
class_beside (x ∷ classes) (d ∷ own) c each m = elim (member_cases x classes c m) [
  | inl e ↦ (d, member_first d own, subst (λ (y : ClassFile). IsClassIn y d) e each.0)
  | inr later ↦ (let (k, there, beside) = class_beside classes own c each.1 later in (k, member_later d own k there, beside))
]

pub head_beside : (c : ClassFile) (d : Class) → IsClassIn c d → head_in d ≡ head_of c
unfolding declared_class
head_beside c d is = ap head_in is.is

heads_of_rows : (library : Library) → map head_in (rows_of library) ≡ map head_of_library library
heads_of_rows [] = refl
heads_of_rows (c ∷ library) = ap (λ (hs : List Head). head_of_library c ∷ hs) (heads_of_rows library)

-- the class of its name in a program whose names rise
pub at_rising : (program : Program) → RiseStrictly program → (c : Class) (name : Name) → Contains program c → c.name ≡ name → class_at program name ≡ Some c
at_rising program rise c name m named =
    let (k, at) = place_of_member program c m in
    let number : class_number program name ≡ Some k = class_number-rise program rise k name (ap (option_map name_of) at ∙ ap Some named) in
    class_at-at program name k number ∙ at

-- ---- the program

module _ {judge : Library} (library : Library) (alike : IsAlike library) (files : List File) (classes : List ClassFile) (program : Program) (accepted : IsAcceptedBy judge files classes) (is : IsProgramIn library classes program) where
  rise : RiseStrictly program
  rise = rises library alike files classes program accepted is

  pub at_named : (c : Class) (name : Name) → Contains program c → c.name ≡ name → class_at program name ≡ Some c
  at_named = at_rising program rise

  pub at_name : (c : Class) → Contains program c → class_at program c.name ≡ Some c
  at_name c m = at_named c c.name m refl

  library_heads_are : map head_in (rows_of library) ≡ library_heads
  unfolding library_heads
  library_heads_are = alike ∙ heads_of_rows deterministic_library

  pub stands_there : (h : Head) → StandsAmong files h → (d : Class) × Contains program d × (head_in d ≡ h)
  stands_there h (inl (file, among, c, good, same)) =
      let listed = good_at files classes file c accepted.good among good in
      let (d, m, beside) = class_beside classes is.classes c is.each listed in (
        d,
        subst (λ (p : Program). Contains p d) (sym (as_joined library files classes program accepted.good is))
            ((members_joined (is.classes ++ rows_of library) d).1 (member_prefix is.classes (rows_of library) d m)),
        head_beside c d beside ∙ sym same,
      )
  stands_there h (inr listed) =
      let (d, m, e) = of_map head_in (rows_of library) h (subst (λ (hs : List Head). Contains hs h) (sym library_heads_are) listed) in
      let (row, own, same) = of_map library_class library d m in (
        d,
        subst (Contains program) same (row_there library files classes program accepted.good is row (member_mapped library_class library row own)),
        e,
      )

  pub row_head : (d : Class) → IsRow library d → Contains library_heads (head_in d)
  row_head d (row, own, same) =
      subst (λ (hs : List Head). Contains hs (head_in d)) library_heads_are
      (member_mapped head_in (rows_of library) d (subst (Contains (rows_of library)) same (member_mapped library_class library row own)))

  pub there_stands : (d : Class) → Contains program d → StandsAmong files (head_in d)
  there_stands d m = elim (origin library files classes program accepted.good is d m) [
    | inl of ↦ inl (of.file, of.among, of.read, of.good, head_beside of.read d of.is)
    | inr row ↦ inr (row_head d row)
  ]

  -- by the name of a head
  there_named : (name : Name) (h : Head) → StandsAmong files h → h.name ≡ name → (d : Class) × (class_at program name ≡ Some d) × (head_in d ≡ h)
  there_named name h stands named =
      let (d, m, e) = stands_there h stands in
      (d, at_named d name m (ap (λ (x : Head). x.name) e ∙ named), e)

  missing : (name : Name) → class_at program name ≡ None → IsMissing (StandsAmong files) name
  missing name none (h, stands, named, _) = let (d, at, e) = there_named name h stands named in let no : Some d ≡ None = sym at ∙ none in absurd cc

  -- ---- the rule HIERARCHY

  pub no_violation : (class : Class) → IsOfFile files classes class → ViolatesHierarchy (StandsAmong files) (head_in class) → ⊥
  no_violation class of violates = no_line files classes accepted (file_line of.file.0 6)
      (inl (inr (inr (record {
        file = of.file;
        own = of.among;
        class = of.read;
        good = of.good;
        such = inl (subst (ViolatesHierarchy (StandsAmong files)) (head_beside of.read class of.is) violates);
        line = refl;
      }))))

  pub found : (name : Name) → (IsMissing (StandsAmong files) name → ⊥) → (d : Class) × (class_at program name ≡ Some d)
  found name there = by (class_at program name) refl where
    by : (o : Option Class) → class_at program name ≡ o → (d : Class) × (class_at program name ≡ Some d)
    by None e = absurd (there (missing name e))
    by (Some d) e = (d, e)

  pub no_bad_super : (class : Class) (above : Name) → IsOfFile files classes class → class.superclass ≡ Some above → IsBadSuperclass (StandsAmong files) above → ⊥
  no_bad_super class above of e bad =
      no_violation class of (inr (inl (subst (λ (o : Option Name). IsSomeAnd o (IsBadSuperclass (StandsAmong files))) (sym e) bad)))

  pub super_there : (class : Class) (above : Name) → IsOfFile files classes class → class.superclass ≡ Some above → (d : Class) × (class_at program above ≡ Some d)
  super_there class above of e = found above (λ none. no_bad_super class above of e (inl none))
