-- Files of which nothing is violated that is judged of a run with the raw library.
use Rattle.std.proofs.Common.{◌≡◌, Bool, true, false, ◌&&◌, List, [], ◌∷◌, ◌++◌, map, Option, Some, None, codes, refl, sym, ap, ◌∙◌, inl, inr}
use Rattle.std.specs.Option.{option_map}
use Rattle.dj_edge.specs.trusted.Held.{File}
use Rattle.dj_names.specs.declared.descriptor.Desc.{Desc}
use Rattle.dj_names.specs.declared.descriptor.Kind.TheVariants as kinds
use Rattle.dj_names.specs.trusted.Types.{Name}
use Rattle.dj_names.specs.trusted.Library.{raw_library}
use Rattle.dj_class.specs.trusted.ClassFile.{ClassFile}
use Rattle.dj_report.specs.declared.report.Violation.{Violation}
use Rattle.dj_report.specs.trusted.Lines.{file_line}
use Rattle.dj_model.specs.trusted.Program.{Program, Class, Method, Body, Abstract, Native, Runs, class_at, method_in, method_of, method_at, has_code, is_static, is_named, runs_static}
use Rattle.dj_model.specs.Program.{body_map}
use Rattle.dj_model.specs.trusted.Kinds.{Signature, signature_of}
use Rattle.dj_model.specs.Standing.{IsEntry}
use Rattle.dj_model.proofs.MappedNames.{either}
use Rattle.dj_model.proofs.SoundLinks.{method_contained}
use Rattle.dj_declarations.specs.trusted.Files.{no_code, declared_program}
use Rattle.dj_declarations.specs.Files.{bare_method, bare_class}
use Rattle.dj_image.proofs.Bare.{class_bare}
use Rattle.dj_loader.proofs.Lists.{member_none}
use Rattle.dj_class_set.specs.trusted.Checked.{AreGoodFiles, HoldsHierarchy, IsLineBy}
use Rattle.dj_class_set.specs.trusted.RawRules.{entry_desc, entry_of, runs_entry, AreRawViolations}
use Rattle.dj_sound.specs.Accepted.{IsAcceptedBy, IsRawAccepted}
use Rattle.dj_sound.specs.Laws.{AreRawAccepted, HaveRawClassFiles}
use Rattle.dj_sound.proofs.Origins.{bare}
use Rattle.dj_sound.proofs.ClassFiles.{good_files}
use Rattle.dj_sound.proofs.Loadable.{raw_loadable}
use Rattle.dj_sound.proofs.Whole.{raw_accepted_is_sound}

-- ---- whether a method is static and has code doesn't depend on its code

bare_method_in : (methods : List Method) (name : Name) (desc : Desc) → method_in (map bare_method methods) name desc ≡ option_map bare_method (method_in methods name desc)
bare_method_in [] name desc = refl
bare_method_in (m ∷ methods) name desc = elim (either (is_named name desc m.name m.desc)) [
  | inl e ↦ rw e refl
  | inr e ↦ rw e (bare_method_in methods name desc)
]

bare_of : (o : Option Class) (name : Name) (desc : Desc) → method_of (option_map bare_class o) name desc ≡ option_map bare_method (method_of o name desc)
bare_of None name desc = refl
bare_of (Some c) name desc = bare_method_in c.methods name desc

bare_has_code : (body : Body) → has_code (body_map (λ code. no_code) body) ≡ has_code body
bare_has_code Abstract = refl
bare_has_code (Native id) = refl
bare_has_code (Runs code) = refl

bare_static : (o : Option Method) → runs_static (option_map bare_method o) ≡ runs_static o
bare_static None = refl
bare_static (Some m) = ap (λ (has : Bool). is_static m.flags && has) (bare_has_code m.body)

bare_runs : (program : Program) (class : Name) → runs_entry (map bare_class program) class ≡ runs_entry program class
bare_runs program class =
    ap (λ (o : Option Class). runs_static (method_of o (codes "verify") entry_desc)) (class_bare program class)
    ∙ ap runs_static (bare_of (class_at program class) (codes "verify") entry_desc)
    ∙ bare_static (method_at program (entry_of class))

-- ---- the entry

abbrev entry_signature : Signature
entry_signature = record { parameters = kinds.Ref ∷ []; result = Some kinds.Ref }

described : (m : Method) → is_static m.flags ≡ true → m.desc ≡ entry_desc → signature_of (is_static m.flags) m.desc ≡ Some entry_signature
described m static desc = λ i. signature_of (static i) (desc i)

both_parts : (a b : Bool) → (a && b) ≡ true → (a ≡ true) × (b ≡ true)
both_parts true b e = (refl, e)
both_parts false b e = absurd cc

desc_of : (o : Option Class) (name : Name) (desc : Desc) (m : Method) → method_of o name desc ≡ Some m → m.desc ≡ desc
desc_of None name desc m e = absurd cc
desc_of (Some c) name desc m e = (method_contained c.methods name desc m e).2

has_entry : (program : Program) (class : Name) → runs_entry program class ≡ true → IsEntry program (entry_of class)
has_entry program class runs = by (method_at program (entry_of class)) refl runs where
  in_body : (m : Method) → method_at program (entry_of class) ≡ Some m → is_static m.flags ≡ true → (body : Body) → m.body ≡ body → has_code body ≡ true → IsEntry program (entry_of class)
  in_body m there static Abstract e has = absurd cc
  in_body m there static (Native id) e has = absurd cc
  in_body m there static (Runs code) e has = record {
    method = m;
    there = there;
    code = code;
    body = e;
    signature = entry_signature;
    described = described m static (desc_of (class_at program class) (codes "verify") entry_desc m there);
    takes = refl;
  }

  by : (o : Option Method) → method_at program (entry_of class) ≡ o → runs_static o ≡ true → IsEntry program (entry_of class)
  by None there has = absurd cc
  by (Some m) there has = let p = both_parts (is_static m.flags) (has_code m.body) has in in_body m there p.0 m.body refl p.1

-- ---- nothing is violated

module _ (files : List File) (class : Name) (silent : AreRawViolations files class []) where
  no_line : (v : Violation) → IsLineBy raw_library files v → ⊥
  no_line v line = member_none v ((silent.all v).1 (inl line))

  holds : HoldsHierarchy files
  holds v line = absurd (no_line v (inl line))

  accepted : (classes : List ClassFile) → AreGoodFiles files classes → IsAcceptedBy raw_library files classes
  accepted classes good = record {
    good = good;
    silent = record { in_order = silent.in_order; all = λ v. (λ m. absurd (member_none v m), λ line. (silent.all v).1 (inl line)) };
  }

  entry_there : (classes : List ClassFile) → AreGoodFiles files classes → runs_entry (declared_program raw_library classes) class ≡ true
  entry_there classes good = by (runs_entry (declared_program raw_library classes) class) refl where
    by : (b : Bool) → runs_entry (declared_program raw_library classes) class ≡ b → b ≡ true
    by true e = refl
    by false e = absurd (member_none (file_line (class ++ codes ".class") 20) ((silent.all (file_line (class ++ codes ".class") 20)).1
        (inr (record { hierarchy = holds; classes = classes; good = good; lacks = e; line = refl }))))

  is_accepted : (classes : List ClassFile) → AreGoodFiles files classes → IsRawAccepted files class classes
  is_accepted classes good =
      let own = accepted classes good in
      record {
        accepted = own;
        loadable = raw_loadable files classes own;
        sound = λ program is. raw_accepted_is_sound files classes program own is;
        entry = λ program is.
            has_entry program class (sym (bare_runs program class) ∙ (ap (λ (p : Program). runs_entry p class) (bare raw_library files classes program good is) ∙ entry_there classes good));
      }

pub are_raw_accepted : AreRawAccepted
are_raw_accepted files class classes good silent = is_accepted files class silent classes good

pub have_raw_class_files : HaveRawClassFiles
have_raw_class_files files class bytes silent =
    let reported = good_files raw_library files (no_line files class silent) files (λ file m. m) bytes in
    (reported.0, is_accepted files class silent reported.0 reported.1)
