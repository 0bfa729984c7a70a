-- Files that don't violate rule 1 are class files, and these make a program with a library: it can't be that there is none.
use Rattle.std.proofs.Common.{◌≡◌, ℕ, Bool, true, false, List, [], ◌∷◌, map, Contains, Option, Some, None, refl, sym, subst, inl, inr}
use Rattle.dj_edge.specs.trusted.Held.{File}
use Rattle.dj_names.specs.trusted.Types.{Name}
use Rattle.dj_names.specs.trusted.Library.{Library}
use Rattle.dj_ops.specs.declared.frames.Frame.{Frame}
use Rattle.dj_pool.specs.trusted.Pool.{Constant}
use Rattle.dj_class.specs.trusted.ClassFile.{MemberInfo, ClassFile}
use Rattle.dj_class.specs.trusted.Code.{CodeInfo, IsCode}
use Rattle.dj_labels.specs.declared.labelled.Labelled.{Labelled}
use Rattle.dj_labels.specs.trusted.Labels.{IsLabelled}
use Rattle.dj_frames.specs.trusted.StackMaps.{IsStackMap}
use Rattle.dj_model.specs.trusted.Program.{Program, Class, Method, Body, Abstract, Runs}
use Rattle.dj_model.specs.trusted.Libraries.{joined, library_program}
use Rattle.dj_report.specs.declared.report.Violation.{Violation}
use Rattle.dj_report.specs.trusted.Lines.{file_line}
use Rattle.dj_early_rules.specs.trusted.Attributes.{codes_of, maps_of}
use Rattle.dj_early_rules.specs.trusted.Malformed.{IsFaulty, IsFaultyMethod, IsFaultyBody, IsRefused, IsGood}
use Rattle.dj_early_rules.specs.trusted.Code.{HasFrames}
use Rattle.dj_declarations.specs.trusted.Files.{is_bodiless, declared_method, declared_class}
use Rattle.dj_program.specs.trusted.Codes.{CodeParts, code_in, IsMethodCode}
use Rattle.dj_program.specs.trusted.Programs.{AreSideBySide, IsBodyIn, IsMethodIn, field_in_file, IsClassIn, IsProgramIn}
use Rattle.dj_loader.proofs.Lists.{member_first, member_later, member_none}
use Rattle.dj_loader.proofs.Coded.{bodiless_reported}
use Rattle.dj_class_set.specs.trusted.Checked.{AreGoodFiles}
use Rattle.dj_class_set.specs.trusted.RawRules.{AreRawViolations}
use Rattle.dj_class_set.proofs.Classical.{NotNot, unit, bind, so, decide}

-- ---- code

-- the labels of code and the frames of its stack map
some_parts : (pool : List Constant) (m : MemberInfo) (info : CodeInfo) (body : List ℕ) → Contains (codes_of pool m) body → IsCode body info → (labelled : Labelled)
    → IsLabelled info.code info.table labelled → NotNot ((parts : CodeParts) × IsMethodCode pool m parts)
some_parts pool m info body own is labelled labels = so (frames (maps_of pool info)) (λ (reported, has). (
  record { max_stack = info.max_stack; max_locals = info.max_locals; labelled = labelled; frames = reported },
  record { info = info; own = record { body = body; own = own; is = is }; stack = refl; locals = refl; labels = labels; frames = has },
)) where
  frames : (bodies : List (List ℕ)) → NotNot ((reported : Option (List Frame)) × HasFrames info.code bodies reported)
  frames [] = unit (Some [], refl)
  frames (map ∷ maps) = so (decide ((all : List Frame) × IsStackMap map labels.starts all)) (elim [
    | inl (all, stands) ↦ (Some all, record { starts = labels.starts; instrs = _; cut = labels.cut; are = stands })
    | inr not ↦ (None, record { starts = labels.starts; instrs = _; cut = labels.cut; are = λ all stands. not (all, stands) })
  ])

some_code : (pool : List Constant) (m : MemberInfo) → (IsFaultyMethod pool m → ⊥) → (body : List ℕ) → Contains (codes_of pool m) body
    → NotNot ((parts : CodeParts) × IsMethodCode pool m parts)
some_code pool m sound body own = bind info (λ (code, is). bind (labels code is) (λ (labelled, are). some_parts pool m code body own is labelled are)) where
  faulty : IsFaultyBody pool body → ⊥
  faulty bad = sound (inr (inr (body, own, bad)))

  info : NotNot ((code : CodeInfo) × IsCode body code)
  info none = faulty (inl (λ code is. none (code, is)))

  labels : (code : CodeInfo) → IsCode body code → NotNot ((labelled : Labelled) × IsLabelled code.code code.table labelled)
  labels code is none = faulty (inr (code, is, inl (λ labelled are. none (labelled, are))))

-- ---- methods

some_body : (pool : List Constant) (m : MemberInfo) → (IsFaultyMethod pool m → ⊥) → NotNot ((body : Body) × IsBodyIn pool m body)
some_body pool m sound = by (is_bodiless m.flags) refl (codes_of pool m) refl where
  by : (b : Bool) → is_bodiless m.flags ≡ b → (bodies : List (List ℕ)) → codes_of pool m ≡ bodies → NotNot ((body : Body) × IsBodyIn pool m body)
  by true bodiless bodies e = unit (Abstract, inl (bodiless, refl))
  by false has [] e = (let no : is_bodiless m.flags ≡ true = bodiless_reported pool m sound e in absurd cc)
  by false has (body ∷ bodies) e = so (some_code pool m sound body (subst (λ (xs : List (List ℕ)). Contains xs body) (sym e) (member_first body bodies)))
      (λ (parts, is). (Runs (code_in pool parts), inr (has, parts, is, refl)))

some_method : (pool : List Constant) (m : MemberInfo) → (IsFaultyMethod pool m → ⊥) → NotNot ((method : Method) × IsMethodIn pool m method)
some_method pool m sound = so (some_body pool m sound)
    (λ (body, is). (record (declared_method pool m) { body = body }, record { body = body; is_body = is; is = refl }))

some_methods : (pool : List Constant) (ms : List MemberInfo) → ((m : MemberInfo) → Contains ms m → IsFaultyMethod pool m → ⊥)
    → NotNot ((methods : List Method) × AreSideBySide (IsMethodIn pool) ms methods)
some_methods pool [] sound = unit ([], tt)
some_methods pool (m ∷ ms) sound = bind (some_method pool m (sound m (member_first m ms))) (λ (first, is).
    so (some_methods pool ms (λ other own. sound other (member_later m ms other own))) (λ (rest, are). (first ∷ rest, (is, are))))

-- ---- classes and programs

some_class : (c : ClassFile) → (IsFaulty c → ⊥) → NotNot ((class : Class) × IsClassIn c class)
some_class c whole = so (some_methods c.pool c.methods (λ m own bad. whole (inl (m, own, bad)))) (λ (methods, each). (
  record (declared_class c) { fields = map (field_in_file c.pool) c.fields; methods = methods },
  record { methods = methods; each = each; is = refl },
))

some_classes : (files : List File) (classes : List ClassFile) → AreGoodFiles files classes → NotNot ((models : List Class) × AreSideBySide IsClassIn classes models)
some_classes [] [] good = unit ([], tt)
some_classes [] (c ∷ classes) good = absurd good
some_classes (file ∷ files) [] good = absurd good
some_classes (file ∷ files) (c ∷ classes) good = bind (some_class c good.0.whole) (λ (first, is). so (some_classes files classes good.1) (λ (rest, are). (first ∷ rest, (is, are))))

pub some_program : (library : Library) (files : List File) (classes : List ClassFile) → AreGoodFiles files classes → NotNot ((program : Program) × IsProgramIn library classes program)
some_program library files classes good = so (some_classes files classes good)
    (λ (models, each). (joined models (library_program library), record { classes = models; each = each; is = refl }))

-- ---- files in which no rule is violated

module _ (files : List File) (class : Name) (silent : AreRawViolations files class []) where
  -- rule 1
  good_file : (file : File) → Contains files file → NotNot ((c : ClassFile) × IsGood file.1 c)
  good_file file m none = member_none line ((silent.all line).1 (inl (inl (inl (file, m, inl (refused, refl)))))) where
    line : Violation
    line = file_line file.0 1

    refused : IsRefused file.1
    refused = inl (λ c is. none (c, record { file = is; whole = λ faulty. member_none line ((silent.all line).1 (inl (inl (inl (file, m, inl (inr (c, is, faulty), refl)))))) }))

  good_files : (some : List File) → ((file : File) → Contains some file → Contains files file) → NotNot ((classes : List ClassFile) × AreGoodFiles some classes)
  good_files [] own = unit ([], tt)
  good_files (file ∷ some) own = bind (good_file file (own file (member_first file some))) (λ (c, is).
      so (good_files some (λ f m. own f (member_later file some f m))) (λ (rest, are). (c ∷ rest, (is, are))))

  pub some_class_files : NotNot ((classes : List ClassFile) × AreGoodFiles files classes)
  some_class_files = good_files files (λ file m. m)
