-- A source whose labels are right and in which all fits means a class file.
use Rattle.std.proofs.Common.{◌≡◌, ◌+◌, inl, inr, List, [], ◌∷◌, ◌++◌, length, map, refl, sym, ◌∙◌, append_assoc}
use Rattle.std.specs.List.{flat_map, AllByRecursion, AllZip}
use Rattle.dj_class.specs.trusted.ClassFile.{MemberInfo, ClassFile}
use Rattle.dj_class.specs.trusted.Code.{code_info_bytes}
use Rattle.dj_asm_source.specs.trusted.Lines.{IsLine}
use Rattle.dj_asm_source.specs.trusted.Sources.{Source, MethodSource, Bodiless, Coded, method_lines, head_lines, IsSource}
use Rattle.dj_asm_source.specs.trusted.Labels.{AreMethodLines, IsMislabelled}
use Rattle.dj_asm_pool.specs.trusted.Entries.{Utf8, pool_of}
use Rattle.dj_asm_pool.specs.trusted.Needs.{code_name, entries_of, index_in}
use Rattle.dj_asm.specs.trusted.Files.{field_of, IsMethodOf, major_of, minor_of, class_index, IsFileOf}
use Rattle.dj_asm_pool.specs.trusted.Room.{IsPastPool, NoLine}
use Rattle.dj_asm.specs.trusted.Large.{IsImproper, IsFarJump, IsEndOfLongCode, IsPastTable, IsPastCatches, IsLongFrame, IsTooLarge}
use Rattle.dj_asm_pool.proofs.Members.{each_first, each_last}
use Rattle.dj_asm.proofs.BodyCode.{has_code}

-- ---- all fits

-- nothing of each kind is too large
pub record AllFit (s : Source) : Type 0 where
  pub pool : NoLine (IsPastPool s)
  pub proper : NoLine (IsImproper s)
  pub near : NoLine (IsFarJump s)
  pub short : NoLine (IsEndOfLongCode s)
  pub tables : NoLine (IsPastTable s)
  pub catches : NoLine (IsPastCatches s)
  pub frames : NoLine (IsLongFrame s)

pub all_fit_of : (s : Source) → NoLine (IsTooLarge s) → AllFit s
all_fit_of s none = record {
  pool = λ place h. none place (inl h);
  proper = λ place h. none place (inr (inl h));
  near = λ place h. none place (inr (inr (inl h)));
  short = λ place h. none place (inr (inr (inr (inl h))));
  tables = λ place h. none place (inr (inr (inr (inr (inl h)))));
  catches = λ place h. none place (inr (inr (inr (inr (inr (inl h))))));
  frames = λ place h. none place (inr (inr (inr (inr (inr (inr h))))));
}

-- ---- methods

-- the lines of a method of the source
pub method_at : (s : Source) (prefix : List MethodSource) (method : MethodSource) (rest : List MethodSource) → s.methods ≡ prefix ++ method ∷ rest
    → AreMethodLines s (length (head_lines s) + length (flat_map method_lines prefix)) (method_lines method)
method_at s prefix method rest e = record { prefix = prefix; method = method; rest = rest; methods = e; before_is = refl; lines_are = refl }

-- the lines of a source's methods are allowed
pub methods_allowed : (s : Source) → IsSource s → AllByRecursion IsLine (flat_map method_lines s.methods)
methods_allowed s is = each_last IsLine (head_lines s) (flat_map method_lines s.methods) is

methods_from : (s : Source) → NoLine (IsMislabelled s) → AllFit s → (prefix rest : List MethodSource) → s.methods ≡ prefix ++ rest → AllByRecursion IsLine (flat_map method_lines rest)
    → (methods : List MemberInfo) × AllZip (IsMethodOf (index_in s)) rest methods
methods_from s labels fits prefix [] e is = ([], tt)
methods_from s labels fits prefix (Bodiless flags name desc ∷ rest) e is =
    let more = methods_from s labels fits (prefix ++ Bodiless flags name desc ∷ []) rest (e ∙ sym (append_assoc prefix (Bodiless flags name desc ∷ []) rest)) is.1 in
    (record { flags = flags; name = index_in s (Utf8 name); desc = index_in s (Utf8 desc); attributes = [] } ∷ more.0, (refl, more.1))
methods_from s labels fits prefix (Coded flags name desc stack locals parts ∷ rest) e is =
    let method = Coded flags name desc stack locals parts in
    let more = methods_from s labels fits (prefix ++ method ∷ []) rest (e ∙ sym (append_assoc prefix (method ∷ []) rest)) (each_last IsLine (method_lines method) (flat_map method_lines rest) is) in
    let code = has_code s (length (head_lines s) + length (flat_map method_lines prefix)) flags name desc stack locals parts (method_at s prefix method rest e)
    (each_first IsLine (method_lines method) (flat_map method_lines rest) is) labels fits.proper fits.near fits.short in (
      record {
        flags = flags;
        name = index_in s (Utf8 name);
        desc = index_in s (Utf8 desc);
        attributes = record { name = index_in s code_name; body = code_info_bytes code.code } ∷ [];
      } ∷ more.0,
      (record { code = code.code; is_code = code.is; method = refl }, more.1),
    )

-- ---- files

pub record HasFile (s : Source) : Type 0 where
  pub file : ClassFile
  pub is : IsFileOf s file

-- a source whose labels are right and in which all fits has a file
pub has_file : (s : Source) → IsSource s → NoLine (IsMislabelled s) → AllFit s → HasFile s
has_file s is labels fits =
    let methods = methods_from s labels fits [] s.methods refl (methods_allowed s is) in
    record {
      file = record {
        minor = minor_of s.version;
        major = major_of s.version;
        pool = pool_of (entries_of s);
        flags = s.flags;
        this_class = class_index s s.name;
        super_class = class_index s s.super;
        interfaces = map (class_index s) s.interfaces;
        fields = map (field_of (index_in s)) s.fields;
        methods = methods.0;
        attributes = [];
      };
      is = record { methods = methods.0; are_methods = methods.1; file = refl };
    }
