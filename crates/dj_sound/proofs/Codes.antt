-- The code of the methods of accepted files has instructions, and its targets, ranges, handlers and frames are at some of them.
use Rattle.std.proofs.Common.{◌≡◌, ℕ, ◌+◌, ◌<◌, ◌⊎◌, List, [], ◌∷◌, map, length, Option, Some, Contains, sym, ap, ◌∙◌, subst, inl, inr, arith}
use Rattle.std.specs.Prelude.{slice_index}
use Rattle.std.specs.List.{AllByRecursion}
use Rattle.std.proofs.lemmas.List.{length-map}
use Rattle.dj_edge.specs.trusted.Held.{File}
use Rattle.dj_names.specs.trusted.Library.{Library, deterministic_library, raw_library}
use Rattle.dj_ops.specs.declared.instruction.Instr.{Instr}
use Rattle.dj_ops.specs.declared.frames.Frame.{Frame}
use Rattle.dj_labels.specs.trusted.Labels.{IsCut, HasNumbers, IsRange, addressed}
use Rattle.dj_labels.proofs.Cuts.{whole_ends, one_cut, as_many}
use Rattle.dj_frames.specs.trusted.StackMaps.{SpellsFrames, IsStackMap}
use Rattle.dj_pool.specs.trusted.Pool.{Constant}
use Rattle.dj_class.specs.trusted.ClassFile.{MemberInfo, ClassFile}
use Rattle.dj_model.specs.trusted.Instructions.{Instruction, targets}
use Rattle.dj_model.specs.trusted.Program.{Class, Method, Abstract, Runs, Range}
use Rattle.dj_model.specs.Sound.{IsCode, IsBody}
use Rattle.dj_early_rules.specs.trusted.Attributes.{maps_of}
use Rattle.dj_early_rules.specs.trusted.Code.{HasFrames, AreFramesOf, AreFramesAt}
use Rattle.dj_loader.proofs.Lists.{member_none, member_cases, place_of_member, of_map, member_at_place}
use Rattle.dj_program.specs.trusted.Naming.{instruction_in}
use Rattle.dj_program.specs.trusted.Codes.{CodeParts, range_in, code_in, IsMethodCode}
use Rattle.dj_program.specs.trusted.Programs.{IsMethodIn}
use Rattle.dj_sound.specs.Accepted.{OfAcceptedBy}
use Rattle.dj_sound.specs.Laws.{HasCodes, HaveCodes}
use Rattle.dj_sound.proofs.Tests.{each_at}
use Rattle.dj_sound.proofs.Origins.{IsOfFile, origin}
use Rattle.dj_sound.proofs.Members.{IsSoundLibrary, deterministic_sound, raw_sound, row_member, side_at}
use Rattle.dj_sound.proofs.Forms.{AreWithin, targets_within}

-- ---- instructions

some_instructions : (code starts : List ℕ) (instrs : List Instr) → IsCut code starts instrs (length code) → 0 < length code → 0 < length instrs
some_instructions code [] [] cut some = let none : length code ≡ 0 = cut.first in absurd (omega (arith, none, some))
some_instructions code (start ∷ starts) [] cut some = absurd cut.each
some_instructions code starts (instr ∷ instrs) cut some = omega arith

-- each of a condition by recursion is so where it stands
each_contained : {A : Type 0} (P : A → Type 0) (xs : List A) (x : A) → AllByRecursion P xs → Contains xs x → P x
each_contained P xs x all m = let (k, at) = place_of_member xs x m in each_at P xs k x all at

-- ---- frames

frames_at : (starts : List ℕ) (least : ℕ) (frames : List Frame) (text : List ℕ) → SpellsFrames starts least frames text → (f : Frame) → Contains frames f → f.at < length starts
frames_at starts least [] text spells f m = absurd (member_none f m)
frames_at starts least (frame ∷ frames) text (first, others, one, rest, is) f m = elim (member_cases frame frames f m) [
  | inl e ↦ subst (λ (g : Frame). g.at < length starts) e one.number
  | inr later ↦ frames_at starts (slice_index starts frame.at + 1) frames others rest f later
]

reported_frames : (code starts body : List ℕ) (instrs : List Instr) (reported : Option (List Frame)) (frames : List Frame) → IsCut code starts instrs (length code)
    → AreFramesOf code body reported → reported ≡ Some frames → (f : Frame) → Contains frames f → f.at < length instrs
reported_frames code starts body instrs reported frames cut are e f m =
    let map : IsStackMap body are.starts frames = subst (AreFramesAt are.starts body) e are.are in
    let within = frames_at are.starts 0 frames map.text map.spells f m in
    let same = one_cut code are.starts starts are.instrs instrs (length code) (length code) (whole_ends code) (whole_ends code) are.cut cut in
    let count = as_many code are.starts are.instrs (length code) are.cut.each in
    let instrs_same = ap length same.instrs in
    omega (arith, within, count, instrs_same)

frames_within : (code starts : List ℕ) (bodies : List (List ℕ)) (instrs : List Instr) (reported : Option (List Frame)) → IsCut code starts instrs (length code) → HasFrames code bodies reported
    → (frames : List Frame) → reported ≡ Some frames → (f : Frame) → Contains frames f → f.at < length instrs
frames_within code starts [] instrs reported cut has frames e f m =
    let none : frames ≡ [] = (let same : Some frames ≡ Some [] = sym e ∙ has in cc) in
    absurd (member_none f (subst (λ (fs : List Frame). Contains fs f) none m))
frames_within code starts (body ∷ bodies) instrs reported cut has frames e f m = reported_frames code starts body instrs reported frames cut has e f m

-- ---- code

module _ (pool : List Constant) (m : MemberInfo) (parts : CodeParts) (is : IsMethodCode pool m parts) where
  count_is : length (map (instruction_in pool) parts.labelled.code) ≡ length parts.labelled.code
  count_is = length-map parts.labelled.code (instruction_in pool)

  numbered : length (addressed is.labels.starts parts.labelled.code) ≡ length parts.labelled.code
  numbered = length-map parts.labelled.code _

  pub is_code : IsCode (code_in pool parts)
  unfolding code_in
  is_code = record {
    some = (let some = some_instructions is.info.code is.labels.starts (addressed is.labels.starts parts.labelled.code) is.labels.cut is.own.is.valid.some_code in omega (arith, some, count_is, numbered));
    targets_within = λ i there.
        let (instr, own, e) = of_map (instruction_in pool) parts.labelled.code i there in
        let has = each_contained (HasNumbers (length parts.labelled.code)) parts.labelled.code instr is.labels.targets own in
        subst (λ (n : ℕ). AreWithin n (targets i)) (sym count_is)
        (subst (λ (j : Instruction). AreWithin (length parts.labelled.code) (targets j)) e (targets_within pool (length parts.labelled.code) instr has));
    handlers_within = λ range there.
        let (own, listed, e) = of_map (range_in pool) parts.labelled.ranges range there in
        let such = each_contained (IsRange (length parts.labelled.code)) parts.labelled.ranges own is.labels.ranges listed in
        let handler : own.handler ≡ range.handler = ap (λ (r : Range). r.handler) e in
        omega (arith, such.handled, handler, count_is);
    ranges_within = λ range there.
        let (own, listed, e) = of_map (range_in pool) parts.labelled.ranges range there in
        let such = each_contained (IsRange (length parts.labelled.code)) parts.labelled.ranges own is.labels.ranges listed in
        let start : own.start ≡ range.start = ap (λ (r : Range). r.start) e in
        let end : own.end ≡ range.end = ap (λ (r : Range). r.end) e in
        (omega (arith, such.some, start, end), omega (arith, such.within, end, count_is));
    frames_within = λ frames reported f there.
        let within = frames_within is.info.code is.labels.starts (maps_of pool is.info) (addressed is.labels.starts parts.labelled.code) parts.frames is.labels.cut is.frames frames reported f there in
        omega (arith, within, count_is, numbered);
  }

-- ---- bodies

-- the method has no code, or that of the class file
pub body_cases : (pool : List Constant) (info : MemberInfo) (m : Method) → IsMethodIn pool info m
    → (m.body ≡ Abstract) ⊎ ((parts : CodeParts) × IsMethodCode pool info parts × (m.body ≡ Runs (code_in pool parts)))
body_cases pool info m is =
    let body : m.body ≡ is.body = ap (λ (x : Method). x.body) is.is in
    elim is.is_body [
      | inl (flags, e) ↦ inl (body ∙ e)
      | inr (flags, parts, code, e) ↦ inr (parts, code, body ∙ e)
    ]

file_body : (pool : List Constant) (info : MemberInfo) (m : Method) → IsMethodIn pool info m → IsBody m.body
file_body pool info m is = elim (body_cases pool info m is) [
  | inl e ↦ subst IsBody (sym e) tt
  | inr (parts, code, e) ↦ subst IsBody (sym e) (is_code pool info parts code)
]

-- the method of a class of a file
pub method_of_file : (files : List File) (classes : List ClassFile) (class : Class) (of : IsOfFile files classes class) (m : Method) → Contains class.methods m
    → (info : MemberInfo) × Contains of.read.methods info × IsMethodIn of.read.pool info m
method_of_file files classes class of m there =
    let own : Contains of.is.methods m = subst (λ (c : Class). Contains c.methods m) of.is.is there in
    let (k, at) = place_of_member of.is.methods m own in
    let (info, info_at, such) = side_at (IsMethodIn of.read.pool) of.read.methods of.is.methods k m of.is.each at in
    (info, member_at_place of.read.methods k info info_at, such)

pub codes : {judge : Library} (library : Library) → IsSoundLibrary library → OfAcceptedBy judge library HasCodes
codes library sound files classes program accepted is class there m own =
    elim (origin library files classes program accepted.good is class there) [
      | inl of ↦ (let (info, listed, such) = method_of_file files classes class of m own in file_body of.read.pool info m such)
      | inr row ↦ (sound.formed.classes class (row_member library class row)).codes m own
    ]

pub have_codes : HaveCodes
have_codes = record { deterministic = codes deterministic_library deterministic_sound; raw = codes raw_library raw_sound }
