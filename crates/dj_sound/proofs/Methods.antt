-- The code of each method of accepted files has shape, and what it names is linked.
use Rattle.std.proofs.Common.{◌≡◌, ℕ, ◌⊎◌, Bool, true, false, not, ◌||◌, List, [], ◌∷◌, ◌++◌, map, Option, Some, None, codes, Contains, slice_get, refl, sym, ap, ◌∙◌, subst, inl, inr}
use Rattle.std.specs.Prelude.{IsSomeAnd}
use Rattle.std.specs.List.{list_all}
use Rattle.std.proofs.lemmas.Option.{slice_get_within}
use Rattle.dj_edge.specs.trusted.Held.{File}
use Rattle.dj_names.specs.trusted.Types.{same_name}
use Rattle.dj_names.specs.trusted.Library.{Library, deterministic_library, raw_library}
use Rattle.dj_names.specs.trusted.Descriptors.{IsMethodDescriptor}
use Rattle.dj_ops.specs.declared.instruction.Instr.{Instr}
use Rattle.dj_labels.specs.declared.labelled.Protected.{Protected}
use Rattle.dj_pool.specs.trusted.Pool.{Constant, text_at}
use Rattle.dj_class.specs.trusted.ClassFile.{MemberInfo, ClassFile, IsMethod}
use Rattle.dj_report.specs.declared.report.Violation.{Violation}
use Rattle.dj_report.specs.trusted.Lines.{member_line}
use Rattle.dj_file_rules.specs.trusted.Violations.{member_text, this_name, IsNative, IsFinalizer}
use Rattle.dj_model.specs.trusted.Types.{string_name}
use Rattle.dj_model.specs.trusted.Instructions.{Instruction, Other}
use Rattle.dj_model.specs.trusted.Program.{Program, Class, Method, Code, Range, is_static}
use Rattle.dj_model.specs.trusted.Kinds.{Signature, Kinds, signature_of, Map, Read, Faulty, NoMap, map_of}
use Rattle.dj_model.specs.trusted.Shape.{after}
use Rattle.dj_model.specs.Shape.{HasShape, AllHold}
use Rattle.dj_model.specs.Sound.{is_linked, is_caught, IsSoundCode}
use Rattle.dj_model.proofs.Shapes.{shape_or_fault}
use Rattle.dj_model.proofs.SoundLinks.{class_contained}
use Rattle.dj_early_rules.specs.trusted.Malformed.{IsGood}
use Rattle.dj_early_rules.specs.trusted.Methods.{InstrViolates, CatchesError, MethodViolates}
use Rattle.dj_early_rules.specs.trusted.Rules.{line_at}
use Rattle.dj_early_rules.specs.trusted.Floats.{HasFloat}
use Rattle.dj_declarations.specs.trusted.Files.{name_in, desc_in, declared_class, declared_program}
use Rattle.dj_declarations.specs.trusted.Members.{has_method_named}
use Rattle.dj_class_table.proofs.Orders.{same_from_names}
use Rattle.dj_class_table.proofs.Joins.{declared_program-joined}
use Rattle.dj_class_table.proofs.Rising.{members_joined}
use Rattle.dj_loader.proofs.Lists.{member_first, member_later, member_none, member_cases, member_of_either, some_of_map, of_map, place_of_member}
use Rattle.dj_link_rules.specs.trusted.Foreign.{IsForeign}
use Rattle.dj_link_rules.specs.trusted.Unlinked.{IsUnlinked, IsUnlinkedCatch}
use Rattle.dj_link_rules.specs.trusted.Lines.{LinkViolates, CatchViolates, MethodLinkViolates}
use Rattle.dj_shape_rule.specs.trusted.Rule.{LacksShape}
use Rattle.dj_rules.specs.trusted.Lines.{IsLinkedLine}
use Rattle.dj_program.specs.trusted.Naming.{instruction_in}
use Rattle.dj_program.specs.trusted.Codes.{CodeParts, range_in, code_in, IsMethodCode}
use Rattle.dj_program.specs.trusted.Programs.{IsMethodIn}
use Rattle.dj_class_set.specs.trusted.Checked.{AreGoodFiles}
use Rattle.dj_class_set.proofs.NoDoubles.{is_of_java, reserved_breaks}
use Rattle.dj_sound.specs.Accepted.{IsAcceptedBy}
use Rattle.dj_sound.proofs.Origins.{rows_of, IsOfFile, no_line, holds_hierarchy}
use Rattle.dj_sound.proofs.Tests.{text_or, some_and, all_from, all_at, each_at}
use Rattle.dj_sound.proofs.Signatures.{signature_there}
use Rattle.dj_sound.proofs.Forms.{IsOther, IsFine}
use Rattle.dj_sound.proofs.Operands.{Sees}
use Rattle.dj_sound.proofs.Linked.{HidesString, instr_fine, catch_linked}

-- ---- an instruction of code that has shape is run

never_run : (signature : Signature) (code : Code) (i : Instruction) (before left : Kinds) → IsOther i → after signature code i before ≡ Some left → ⊥
unfolding after
never_run signature code (Other op named) before left is found = absurd cc
never_run signature code _ before left is found = absurd is

all_run : (signature : Signature) (code : Code) (reported : Map) → AllHold signature code reported → (k : ℕ) (i : Instruction) → slice_get code.instructions k ≡ Some i → IsOther i → ⊥
all_run signature code (Faulty n) hold k i at other = absurd hold
all_run signature code NoMap hold k i at other = absurd hold
all_run signature code (Read placed) hold k i at other =
    let holds = hold k (slice_get_within code.instructions k i at) in
    let same : Some i ≡ Some holds.instruction = sym at ∙ holds.at in
    let is : i ≡ holds.instruction = cc in
    never_run signature code holds.instruction holds.before holds.left (subst IsOther is other) holds.found

is_run : (signature : Signature) (code : Code) → HasShape signature code → (k : ℕ) (i : Instruction) → slice_get code.instructions k ≡ Some i → IsOther i → ⊥
is_run signature code shape k i at other = all_run signature code (map_of signature code) shape.each k i at other

-- ---- the text's class in the library

abbrev has_no_constructor : Class → Bool
has_no_constructor c = not (same_name c.name (string_name [])) || not (has_method_named c.methods (codes "<init>"))

-- the library has none
abbrev pub HidesConstructor : Library → Type 0
HidesConstructor library = list_all has_no_constructor (rows_of library) ≡ true

pub deterministic_hides : HidesConstructor deterministic_library
deterministic_hides = refl

pub raw_hides : HidesConstructor raw_library
raw_hides = refl

hidden : (a b : Bool) → a ≡ true → (not a || not b) ≡ true → b ≡ false
hidden true true e t = absurd cc
hidden true false e t = refl
hidden false b e t = absurd cc

-- the file of a class file
pub file_of : (files : List File) (classes : List ClassFile) (c : ClassFile) → AreGoodFiles files classes → Contains classes c → (file : File) × Contains files file × IsGood file.1 c
file_of files [] c good m = absurd (member_none c m)
file_of [] (d ∷ classes) c good m = absurd good
file_of (file ∷ files) (d ∷ classes) c good m = elim (member_cases d classes c m) [
  | inl e ↦ (file, member_first file files, subst (IsGood file.1) e good.0)
  | inr later ↦ (let (other, there, is) = file_of files classes c good.1 later in (other, member_later file files other there, is))
]

module _ {judge : Library} (files : List File) (classes : List ClassFile) (accepted : IsAcceptedBy judge files classes) where
  -- the program by which the rules judge
  abbrev pub judged : Program
  judged = declared_program judge classes

  -- its classes of the library's names are those of the library
  pub file_java : (c : ClassFile) → Contains classes c → is_of_java (declared_class c).name ≡ true → ⊥
  unfolding declared_class
  file_java c m java =
      let (file, among, good) = file_of files classes c accepted.good m in
      reserved_breaks files file c (holds_hierarchy files classes accepted) among good java

  pub judged_member : (d : Class) → Contains judged d → Contains (map declared_class classes) d ⊎ Contains (rows_of judge) d
  judged_member d m =
      member_of_either (map declared_class classes) (rows_of judge) d
      ((members_joined (map declared_class classes ++ rows_of judge) d).0 (subst (λ (p : Program). Contains p d) (declared_program-joined judge classes) m))

  pub java_row : (d : Class) → Contains judged d → is_of_java d.name ≡ true → Contains (rows_of judge) d
  java_row d m java = elim (judged_member d m) [
    | inl prefix ↦
        let (c, own, same) = of_map declared_class classes d prefix in
        absurd (file_java c own (ap (λ (x : Class). is_of_java x.name) same ∙ java))
    | inr listed ↦ listed
  ]

  hides_string : HidesConstructor judge → HidesString judged
  hides_string hides class at =
      let (m, named) = class_contained judged (string_name []) class at in
      let listed = java_row class m (ap is_of_java named) in
      hidden (same_name class.name (string_name [])) (has_method_named class.methods (codes "<init>")) (same_from_names class.name (string_name []) named)
      (all_at has_no_constructor (rows_of judge) class hides listed)

  -- ---- a method of a file

  module _ (hides : HidesConstructor judge) (program : Program) (sees : Sees judged program) (class : Class) (of : IsOfFile files classes class) (info : MemberInfo) (listed : Contains of.read.methods info) where
    abbrev pool : List Constant
    pool = of.read.pool

    -- rules 9 to 16
    no_early : (number : Option ℕ) (rule : ℕ) → MethodViolates of.read info number rule → ⊥
    no_early number rule violates = no_line files classes accepted (line_at of.file.0 (member_text pool info) number rule)
        (inl (inl (of.file, of.among, inr (of.read, of.good, inr (inr (inr (record { member = info; own = listed; number = number; rule = rule; such = violates; line = refl })))))))

    -- rule 7
    no_native : IsNative info → ⊥
    no_native native = no_line files classes accepted (member_line of.file.0 (member_text pool info) 7)
        (inl (inl (of.file, of.among, inr (of.read, of.good, inl (inr (inr (inl (record { method = info; own = listed; such = native; line = refl }))))))))

    -- rule 8
    no_finalizer : IsFinalizer pool info → ⊥
    no_finalizer finalizer = no_line files classes accepted (member_line of.file.0 (member_text pool info) 8)
        (inl (inl (of.file, of.among, inr (of.read, of.good, inl (inr (inr (inr (record { method = info; own = listed; such = finalizer; line = refl }))))))))

    late : (v : Violation) → IsLinkedLine (declared_program judge classes) files v → ⊥
    late v line = no_line files classes accepted v (inr (record { hierarchy = holds_hierarchy files classes accepted; classes = classes; good = accepted.good; line = line }))

    -- rules 17 and 18
    no_link : (number : Option ℕ) (rule : ℕ) → MethodLinkViolates (declared_program judge classes) of.read info number rule → ⊥
    no_link number rule violates = late (line_at of.file.0 (member_text pool info) number rule)
        (inl (of.file, of.among, (of.read, of.good, record { member = info; own = listed; number = number; rule = rule; such = violates; line = refl })))

    -- rule 19
    no_shape_fault : (number : Option ℕ) → LacksShape pool info number → ⊥
    no_shape_fault number lacks = late (line_at of.file.0 (member_text pool info) number 19)
        (inr (
          of.file,
          of.among,
          (
            of.read,
            of.good,
            record {
              member = info;
              own = listed;
              number = number;
              rule = 19;
              such = record { unreported = record { native = no_native; finalizer = no_finalizer; early = no_early; linked = no_link }; lacks = lacks; rule_is = refl };
              line = refl;
            },
          ),
        ))

    -- ---- its code

    module _ (parts : CodeParts) (code : IsMethodCode pool info parts) where
      unreported_instr : (k : ℕ) (instr : Instr) → slice_get parts.labelled.code k ≡ Some instr → (rule : ℕ) → InstrViolates pool instr rule → ⊥
      unreported_instr k instr at rule violates = no_early (Some k) rule (inr (record {
        labelled = parts.labelled;
        code = record { code = code.info; own = code.own; labels = code.labels };
        at = k;
        number_is = refl;
        such = inl (record { instr = instr; stands = at; such = violates });
      }))

      no_instr_link : (k : ℕ) (instr : Instr) → slice_get parts.labelled.code k ≡ Some instr → (rule : ℕ)
          → LinkViolates (declared_program judge classes) (this_name of.read) pool instr rule → ⊥
      no_instr_link k instr at rule violates = no_link (Some k) rule (record {
        labelled = parts.labelled;
        code = record { code = code.info; own = code.own; labels = code.labels };
        at = k;
        number_is = refl;
        such = inl (record { instr = instr; stands = at; such = violates });
      })

      near : (k : ℕ) (instr : Instr) → slice_get parts.labelled.code k ≡ Some instr → IsForeign (declared_program judge classes) pool instr → ⊥
      near k instr at foreign = no_instr_link k instr at 17 (unreported_instr k instr at, inl (foreign, refl))

      linked : (k : ℕ) (instr : Instr) → slice_get parts.labelled.code k ≡ Some instr → IsUnlinked (declared_program judge classes) (this_name of.read) pool instr → ⊥
      linked k instr at unlinked = no_instr_link k instr at 18 (unreported_instr k instr at, inr (near k instr at, unlinked, refl))

      fine : (k : ℕ) (instr : Instr) → slice_get parts.labelled.code k ≡ Some instr → IsFine program (instruction_in pool instr)
      fine k instr at = instr_fine judged program sees (this_name of.read) pool of.good.file.valid.pool (hides_string hides) instr (near k instr at) (linked k instr at)

      -- ---- its handlers

      no_error : (range : Protected) → Contains parts.labelled.ranges range → CatchesError pool range.catch_type → ⊥
      no_error range there catches = no_early (Some range.handler) 11 (inr (record {
        labelled = parts.labelled;
        code = record { code = code.info; own = code.own; labels = code.labels };
        at = range.handler;
        number_is = refl;
        such = inr (record { range = range; own = there; begins = refl; catches = catches; is = refl });
      }))

      no_catch_link : (range : Protected) → Contains parts.labelled.ranges range → (rule : ℕ) → CatchViolates (declared_program judge classes) pool range.catch_type rule → ⊥
      no_catch_link range there rule violates = no_link (Some range.handler) rule (record {
        labelled = parts.labelled;
        code = record { code = code.info; own = code.own; labels = code.labels };
        at = range.handler;
        number_is = refl;
        such = inr (record { range = range; own = there; begins = refl; such = violates });
      })

      catch_fits : (range : Protected) → Contains parts.labelled.ranges range → IsUnlinkedCatch (declared_program judge classes) pool range.catch_type → ⊥
      catch_fits range there unlinked =
          no_catch_link range there 18 (no_error range there, inr (λ foreign. no_catch_link range there 17 (no_error range there, inl (foreign, refl)), unlinked, refl))

      catch_is : (range : Protected) → Contains parts.labelled.ranges range → is_caught program (range_in pool range).catches ≡ true
      catch_is range there = catch_linked judged program sees (this_name of.read) pool of.good.file.valid.pool range.catch_type (catch_fits range there)

      -- ---- and its kinds

      no_float : (text : List ℕ) → text_at pool info.desc ≡ Some text → HasFloat text → ⊥
      no_float text at has = no_early None 12 (inl (refl, inl (inl (subst (λ (o : Option (List ℕ)). IsSomeAnd o HasFloat) (sym at) has), refl)))

      kinds : (s : Signature) × (signature_of (is_static info.flags) (desc_in (name_in pool info.desc)) ≡ Some s)
      kinds =
          let (k, at) = place_of_member of.read.methods info listed in
          let valid = each_at (IsMethod pool) of.read.methods k info of.good.file.valid.methods at in
          let (text, text_is, (params, ret, described)) = some_and (text_at pool info.desc) IsMethodDescriptor valid.desc in
          let is : name_in pool info.desc ≡ text = ap text_or text_is in
          subst (λ (t : List ℕ). (s : Signature) × (signature_of (is_static info.flags) (desc_in t) ≡ Some s)) (sym is)
          (signature_there (is_static info.flags) text params ret described (no_float text text_is))

      has_shape : (s : Signature) → signature_of (is_static info.flags) (desc_in (name_in pool info.desc)) ≡ Some s → HasShape s (code_in pool parts)
      has_shape s described = elim (shape_or_fault s (code_in pool parts)) [
        | inl shape ↦ shape
        | inr (n, fault) ↦ absurd (no_shape_fault n (record { parts = parts; code = code; signature = s; kinds = described; such = fault }))
      ]

      instructions_linked : (s : Signature) → HasShape s (code_in pool parts) → list_all (is_linked program []) (code_in pool parts).instructions ≡ true
      unfolding code_in
      instructions_linked s shape = all_from (is_linked program []) (map (instruction_in pool) parts.labelled.code) (λ i there.
          let (k, at) = place_of_member (map (instruction_in pool) parts.labelled.code) i there in
          let (instr, own, same) = some_of_map (instruction_in pool) parts.labelled.code k i at in
          elim (fine k instr own) [
            | inl other ↦ absurd (is_run s (code_in pool parts) shape k i at (subst IsOther same other))
            | inr such ↦ ap (is_linked program []) (sym same) ∙ such
          ])

      handlers_caught : list_all (λ range. is_caught program range.catches) (code_in pool parts).ranges ≡ true
      unfolding code_in
      handlers_caught = all_from (λ (range : Range). is_caught program range.catches) (map (range_in pool) parts.labelled.ranges) (λ range there.
          let (own, m, same) = of_map (range_in pool) parts.labelled.ranges range there in
          ap (λ (r : Range). is_caught program r.catches) (sym same) ∙ catch_is own m)

      pub sound_code : (m : Method) → IsMethodIn pool info m → IsSoundCode program [] m (code_in pool parts)
      sound_code m such =
          let (s, described) = kinds in
          let shape = has_shape s described in
          record {
            signature = s;
            described = subst (λ (x : Method). signature_of (is_static x.flags) x.desc ≡ Some s) (sym such.is) described;
            shape = shape;
            linked = instructions_linked s shape;
            caught = handlers_caught;
          }
