-- The code of a rewritten method, read from its attribute.
use Rattle.std.proofs.Common.{◌≡◌, ℕ, ◌+◌, Bool, true, false, List, [], ◌∷◌, ◌++◌, map, filter, length, Option, Some, refl, sym, ap, subst, ◌∙◌, arith, codes, if◌then◌else◌}
use Rattle.std.specs.Prelude.{Contains}
use Rattle.std.specs.Option.{option_map}
use Rattle.dj_ops.specs.declared.frames.Frame.{Frame}
use Rattle.dj_pool.specs.trusted.Pool.{Constant}
use Rattle.dj_class.specs.trusted.ClassFile.{AttributeInfo, MemberInfo}
use Rattle.dj_class.specs.trusted.Code.{CodeInfo, IsCodeInfo, code_info_bytes}
use Rattle.dj_labels.specs.trusted.Labels.{IsCut, IsLabelled, addressed}
use Rattle.dj_layout.specs.declared.laid.Laid.{Laid}
use Rattle.dj_frames.specs.trusted.StackMaps.{IsStackMap}
use Rattle.dj_frames.specs.trusted.Written.{stack_map_bytes}
use Rattle.dj_frames.specs.Moves.{moved_frame}
use Rattle.dj_early_rules.specs.trusted.Attributes.{is_named, bodies_of, codes_of, maps_of}
use Rattle.dj_early_rules.specs.trusted.Code.{HasFrames, AreFramesOf}
use Rattle.dj_model.specs.trusted.Program.{Program}
use Rattle.dj_program.specs.trusted.Codes.{CodeParts, code_in, IsMethodCode}
use Rattle.dj_groups.specs.Groups.{Group, groups_of, starts, owns}
use Rattle.dj_groups.specs.Grouped.{labels_in_groups}
use Rattle.dj_rewritten.specs.Files.{rewritten_map, frames_in, IsRewrittenBody}

-- the attributes of a name, where names are told alike
pub same_bodies : (old new : List Constant) (name : List ℕ) (change : AttributeInfo → AttributeInfo) (attributes : List AttributeInfo)
    → ((a : AttributeInfo) → is_named old name a ≡ true → is_named new name (change a) ≡ true)
    → bodies_of new name (map change (filter (is_named old name) attributes)) ≡ map (λ (a : AttributeInfo). (change a).body) (filter (is_named old name) attributes)
same_bodies old new name change [] same = refl
same_bodies old new name change (a ∷ attributes) same = go (is_named old name a) refl (same_bodies old new name change attributes same) where
  go : (b : Bool) → is_named old name a ≡ b
      → bodies_of new name (map change (filter (is_named old name) attributes)) ≡ map (λ (x : AttributeInfo). (change x).body) (filter (is_named old name) attributes)
      → bodies_of new name (map change (if b then a ∷ filter (is_named old name) attributes else filter (is_named old name) attributes))
      ≡ map (λ (x : AttributeInfo). (change x).body) (if b then a ∷ filter (is_named old name) attributes else filter (is_named old name) attributes)
  go true e later = rw (same a e, later) refl
  go false e later = later

pub bodies_filtered : (pool : List Constant) (name : List ℕ) (attributes : List AttributeInfo)
    → bodies_of pool name attributes ≡ map (λ (x : AttributeInfo). x.body) (filter (is_named pool name) attributes)
bodies_filtered pool name [] = refl
bodies_filtered pool name (a ∷ attributes) = go (is_named pool name a) (bodies_filtered pool name attributes) where
  go : (b : Bool) → bodies_of pool name attributes ≡ map (λ (x : AttributeInfo). x.body) (filter (is_named pool name) attributes)
      → (if b then a.body ∷ [] else []) ++ bodies_of pool name attributes
      ≡ map (λ (x : AttributeInfo). x.body) (if b then a ∷ filter (is_named pool name) attributes else filter (is_named pool name) attributes)
  go true later = ap (λ (xs : List (List ℕ)). a.body ∷ xs) later
  go false later = later

one_body : (pool : List Constant) (name : List ℕ) (b : AttributeInfo) → is_named pool name b ≡ true → bodies_of pool name (b ∷ []) ≡ b.body ∷ []
one_body pool name b e = rw e refl

module _ (program : Program) (pool new : List Constant) (first : ℕ) (m n : MemberInfo) (a b : AttributeInfo)
    (same_code : is_named new (codes "Code") b ≡ true) (alone : n.attributes ≡ b ∷ [])
    (same_maps : (x y : AttributeInfo) → x.name ≡ y.name → is_named pool (codes "StackMapTable") y ≡ true → is_named new (codes "StackMapTable") x ≡ true)
    (body : IsRewrittenBody program pool first m a b) where
  abbrev gs : List Group
  gs = groups_of program (code_in pool body.parts)

  abbrev laid : Laid
  laid = body.rewritten.laid

  abbrev moved_parts : CodeParts
  moved_parts = record {
    max_stack = body.parts.max_stack + 2;
    max_locals = body.parts.max_locals;
    labelled = labels_in_groups first gs body.parts.labelled;
    frames = option_map (map (moved_frame (starts gs) (owns gs))) body.parts.frames;
  }

  -- frames, where the code has none, and where it has a stack map
  abbrev IsMovedMap : List ℕ → Type 0
  IsMovedMap text = IsStackMap text laid.starts (map (moved_frame (starts gs) (owns gs)) (frames_in body.parts.frames))

  frames_read : IsCut laid.code laid.starts (addressed laid.starts (labels_in_groups first gs body.parts.labelled).code) (length laid.code)
      → (maps : List AttributeInfo) (frames : Option (List Frame)) → HasFrames body.code.info.code (map (λ (x : AttributeInfo). x.body) maps) frames
      → (fs : List Frame) → frames ≡ Some fs
      → IsStackMap (stack_map_bytes laid.starts (map (moved_frame (starts gs) (owns gs)) fs)) laid.starts (map (moved_frame (starts gs) (owns gs)) fs)
      → HasFrames laid.code (map (λ (x : AttributeInfo). (rewritten_map gs laid.starts frames x).body) maps) (option_map (map (moved_frame (starts gs) (owns gs))) frames)
  frames_read cut [] frames has fs e map_ = ap (option_map (map (moved_frame (starts gs) (owns gs)))) has
  frames_read cut (x ∷ maps) frames has fs e map_ =
      subst (λ (o : Option (List Frame)). AreFramesOf laid.code (stack_map_bytes laid.starts (map (moved_frame (starts gs) (owns gs)) (frames_in o))) (option_map (map (moved_frame (starts gs) (owns gs))) o)) (sym e)
      (record { starts = laid.starts; instrs = addressed laid.starts (labels_in_groups first gs body.parts.labelled).code; cut = cut; are = map_ })

  -- the attribute of the new code
  pub body_read : IsCodeInfo body.new → IsCut laid.code laid.starts (addressed laid.starts (labels_in_groups first gs body.parts.labelled).code) (length laid.code)
      → (fs : List Frame) → body.parts.frames ≡ Some fs
      → IsStackMap (stack_map_bytes laid.starts (map (moved_frame (starts gs) (owns gs)) fs)) laid.starts (map (moved_frame (starts gs) (owns gs)) fs)
      → IsMethodCode new n moved_parts
  body_read valid cut fs e map_ = record {
    info = body.new;
    own = record { body = code_info_bytes body.new; own = subst (λ (xs : List (List ℕ)). Contains xs (code_info_bytes body.new)) (sym own_is) (0, omega arith, refl); is = record { spelled = refl; valid = valid } };
    stack = ap (λ (k : ℕ). k + 2) body.code.stack ∙ sym (ap (λ (c : CodeInfo). c.max_stack) body.rewritten.is);
    locals = body.code.locals ∙ sym (ap (λ (c : CodeInfo). c.max_locals) body.rewritten.is);
    labels = subst (λ (c : CodeInfo). IsLabelled c.code c.table (labels_in_groups first gs body.parts.labelled)) (sym body.rewritten.is) body.rewritten.is_laid.labels;
    frames = subst (λ (c : CodeInfo). HasFrames c.code (maps_of new c) moved_parts.frames) (sym body.rewritten.is)
        (subst (λ (maps : List (List ℕ)). HasFrames laid.code maps moved_parts.frames)
        (sym (same_bodies pool new (codes "StackMapTable") (rewritten_map gs laid.starts body.parts.frames) body.code.info.attributes (λ x h. same_maps (rewritten_map gs laid.starts body.parts.frames x) x refl h)))
        (frames_read cut (filter (is_named pool (codes "StackMapTable")) body.code.info.attributes) body.parts.frames (subst (λ (maps : List (List ℕ)). HasFrames body.code.info.code maps body.parts.frames) (bodies_filtered pool (codes "StackMapTable") body.code.info.attributes) body.code.frames) fs e map_));
  } where
    own_is : codes_of new n ≡ code_info_bytes body.new ∷ []
    own_is =
        ap (bodies_of new (codes "Code")) alone ∙ one_body new (codes "Code") b same_code
        ∙ ap (λ (x : AttributeInfo). x.body ∷ []) body.is
