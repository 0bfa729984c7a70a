-- Rewritten class files: the version, the flags and the order of everything stay; of attributes stay ConstantValue, Code and StackMapTable.
use Rattle.std.specs.Prelude.{◌≡◌, ℕ, ◌+◌, List, [], ◌++◌, map, filter, Option, Some, None, codes}
use Rattle.std.specs.Int.Bits.{bit_and}
use Rattle.dj_ops.specs.declared.frames.Frame.{Frame}
use Rattle.dj_pool.specs.trusted.Pool.{Constant}
use Rattle.dj_class.specs.trusted.ClassFile.{AttributeInfo, MemberInfo, ClassFile, IsValid}
use Rattle.dj_class.specs.trusted.Code.{CodeInfo, IsCodeInfo, code_info_bytes}
use Rattle.dj_layout.specs.declared.laid.Laid.{Laid}
use Rattle.dj_layout.specs.trusted.Layouts.{IsLaidOut}
use Rattle.dj_frames.specs.trusted.Written.{stack_map_bytes}
use Rattle.dj_early_rules.specs.trusted.Attributes.{is_named}
use Rattle.dj_model.specs.trusted.Program.{Program}
use Rattle.dj_program.specs.trusted.Codes.{CodeParts, code_in, IsMethodCode}
use Rattle.dj_program.specs.trusted.Programs.{AreSideBySide}
use Rattle.dj_frames.specs.Moves.{moved_frame}
use Rattle.dj_groups.specs.Groups.{Group, groups_of, starts, owns}
use Rattle.dj_groups.specs.Grouped.{labels_in_groups}
use Rattle.dj_rename.specs.Pools.{desc_need, new_index, appended_texts, first_index, rewritten_pool}

-- ---- code

abbrev pub frames_in : Option (List Frame) → List Frame
frames_in None = []
frames_in (Some frames) = frames

-- the attribute keeps its name; a stack map has the moved frames
abbrev pub rewritten_map : List Group → List ℕ → Option (List Frame) → AttributeInfo → AttributeInfo
rewritten_map gs addresses frames a = record { name = a.name; body = stack_map_bytes addresses (map (moved_frame (starts gs) (owns gs)) (frames_in frames)) }

-- the code of a Code attribute, of which only stack maps are kept
pub record IsRewrittenCode (program : Program) (pool : List Constant) (first : ℕ) (info : CodeInfo) (parts : CodeParts) (new : CodeInfo) : Type 0 where
  pub laid : Laid
  pub is_laid : IsLaidOut (labels_in_groups first (groups_of program (code_in pool parts)) parts.labelled) laid
  pub is : new ≡ record {
    max_stack = info.max_stack + 2;
    max_locals = info.max_locals;
    code = laid.code;
    table = laid.table;
    attributes = map (rewritten_map (groups_of program (code_in pool parts)) laid.starts parts.frames) (filter (is_named pool (codes "StackMapTable")) info.attributes);
  }
  -- its numbers fit their fields
  pub valid : IsCodeInfo new

-- the method has this one Code attribute, which keeps its name
pub record IsRewrittenBody (program : Program) (pool : List Constant) (first : ℕ) (m : MemberInfo) (a : AttributeInfo) (b : AttributeInfo) : Type 0 where
  pub parts : CodeParts
  pub code : IsMethodCode pool m parts
  pub new : CodeInfo
  pub rewritten : IsRewrittenCode program pool first code.info parts new
  pub is : b ≡ record { name = a.name; body = code_info_bytes new }

-- ---- members

-- JVMS table 4.6-A: without ACC_SYNCHRONIZED, 0x0020, as in the map of programs
abbrev pub without_synchronized : ℕ → ℕ
without_synchronized flags = bit_and flags 65503

abbrev pub new_desc : List Constant → List ℕ → MemberInfo → ℕ
new_desc pool descs m = new_index pool (appended_texts pool descs) (desc_need pool m.desc m.desc)

abbrev pub rewritten_field : List Constant → List ℕ → MemberInfo → MemberInfo
rewritten_field pool descs f = record {
  flags = f.flags;
  name = f.name;
  desc = new_desc pool descs f;
  attributes = filter (is_named pool (codes "ConstantValue")) f.attributes;
}

pub record IsRewrittenMethod (program : Program) (pool : List Constant) (descs : List ℕ) (m : MemberInfo) (n : MemberInfo) : Type 0 where
  pub attributes : List AttributeInfo
  pub each : AreSideBySide (IsRewrittenBody program pool (first_index pool (appended_texts pool descs)) m) (filter (is_named pool (codes "Code")) m.attributes) attributes
  pub is : n ≡ record { flags = without_synchronized m.flags; name = m.name; desc = new_desc pool descs m; attributes = attributes }

-- ---- the file

abbrev pub desc_indexes : ClassFile → List ℕ
desc_indexes c = map (λ (m : MemberInfo). m.desc) c.fields ++ map (λ (m : MemberInfo). m.desc) c.methods

pub record IsRewrittenFile (program : Program) (c : ClassFile) (d : ClassFile) : Type 0 where
  pub methods : List MemberInfo
  pub each : AreSideBySide (IsRewrittenMethod program c.pool (desc_indexes c)) c.methods methods
  pub is : d ≡ record {
    minor = c.minor;
    major = c.major;
    pool = rewritten_pool c.pool (desc_indexes c);
    flags = c.flags;
    this_class = c.this_class;
    super_class = c.super_class;
    interfaces = c.interfaces;
    fields = map (rewritten_field c.pool (desc_indexes c)) c.fields;
    methods = methods;
    attributes = [];
  }
  -- its numbers, its texts and its counts fit
  pub valid : IsValid d
