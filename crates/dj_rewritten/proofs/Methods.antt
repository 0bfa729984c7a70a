-- The methods of a rewritten class, read again.
use Rattle.std.proofs.Common.{◌≡◌, ℕ, suc, ◌+◌, ◌^◌, ◌<◌, ◌≤◌, Bool, List, [], ◌∷◌, map, length, Option, Some, refl, sym, ap, subst, ◌∙◌, arith, nat_eq}
use Rattle.std.specs.Prelude.{All}
use Rattle.std.specs.Int.{bit_at}
use Rattle.std.specs.Int.Bits.{bit_and}
use Rattle.std.specs.List.{AllByRecursion}
use Rattle.std.specs.List.Sorted.{IsStrictlyIncreasing}
use Rattle.std.proofs.lemmas.Nat.Bits.{bit_at_and}
use Rattle.std.proofs.lemmas.List.Elements.{All-from_recursion}
use Rattle.dj_ops.specs.declared.frames.Frame.{Frame}
use Rattle.dj_ops.specs.declared.instruction.Instr.{Instr}
use Rattle.dj_labels.specs.declared.labelled.Labelled.{Labelled}
use Rattle.dj_labels.specs.trusted.Labels.{IsCut, address_of, addressed}
use Rattle.dj_labels.specs.Passes.{IsRising}
use Rattle.dj_labels.proofs.Cuts.{whole_ends, one_cut, as_many, starts_rise, starts_within}
use Rattle.dj_layout.specs.declared.laid.Laid.{Laid}
use Rattle.dj_layout.specs.trusted.Layouts.{IsLaidOut}
use Rattle.dj_layout.proofs.Standing.{same_places}
use Rattle.dj_frames.specs.trusted.StackMaps.{IsStackMap}
use Rattle.dj_frames.specs.StackMaps.{AreWellFormed}
use Rattle.dj_frames.specs.Laws.{StackMapIsWellFormed}
use Rattle.dj_pool.specs.trusted.Pool.{Constant}
use Rattle.dj_class.specs.trusted.ClassFile.{MemberInfo}
use Rattle.dj_early_rules.specs.trusted.Attributes.{maps_of}
use Rattle.dj_early_rules.specs.trusted.Code.{HasFrames, AreFramesOf}
use Rattle.dj_model.specs.trusted.Program.{Program, has_flag}
use Rattle.dj_declarations.specs.trusted.Files.{is_bodiless}
use Rattle.dj_program.specs.trusted.Codes.{CodeParts, code_in, IsMethodCode}
use Rattle.dj_groups.specs.Groups.{Group, groups_from, groups_of, start, starts}
use Rattle.dj_groups.specs.Grouped.{inserted_instr, own_instr, labels_in_groups}
use Rattle.dj_groups.proofs.WellFormed.{length_regrouped}

-- ---- lists

pub length_map : {A B : Type 0} (f : A → B) (xs : List A) → length (map f xs) ≡ length xs
length_map f [] = refl
length_map f (x ∷ xs) = ap suc (length_map f xs)

-- a group for each instruction
length_from : (program : Program) (arrives : ℕ → Bool) (n : ℕ) (is : List _) → length (groups_from program arrives n is) ≡ length is
length_from program arrives n [] = refl
length_from program arrives n (i ∷ is) = ap suc (length_from program arrives (n + 1) is)

pub as_many_groups : (program : Program) (pool : List Constant) (parts : CodeParts) → length (groups_of program (code_in pool parts)) ≡ length parts.labelled.code
unfolding groups_of code_in
as_many_groups program pool parts = length_from program _ 0 (map _ parts.labelled.code) ∙ length_map _ parts.labelled.code

-- ---- starts

pub rises_each : (starts : List ℕ) → IsRising starts → IsStrictlyIncreasing starts
rises_each starts rise k h = rise k (k + 1) 0 (omega arith) h

pub short_each : (starts : List ℕ) (end : ℕ) → end ≤ 65535 → AllByRecursion (λ start. start < end) starts → All (λ address. address < 2 ^ 16) starts
short_each starts end few all i d less = let here = All-from_recursion (λ start. start < end) starts all i d less in omega (arith, few, here)

-- ---- flags

kept : (flags bit : ℕ) → bit_at 65503 bit ≡ 1 → has_flag bit (bit_and flags 65503) ≡ has_flag bit flags
kept flags bit on = ap (λ b. nat_eq b 1) (let e = bit_at_and flags 65503 bit in omega (arith, e, on))

pub bodiless_kept : (flags : ℕ) → is_bodiless (bit_and flags 65503) ≡ is_bodiless flags
bodiless_kept flags = rw (kept flags 8 refl, kept flags 10 refl) refl

-- ---- the frames of code, by the starts of its instructions

module _ (formed : StackMapIsWellFormed) (pool : List Constant) (m : MemberInfo) (parts : CodeParts) (code : IsMethodCode pool m parts)
    (few : length code.info.code ≤ 65535) where
  abbrev old : List ℕ
  old = code.labels.starts

  pub old_count : length old ≡ length parts.labelled.code
  old_count = as_many code.info.code old (addressed old parts.labelled.code) (length code.info.code) code.labels.cut.each ∙ length_map _ parts.labelled.code

  rise : IsStrictlyIncreasing old
  rise = rises_each old (starts_rise code.info.code old (addressed old parts.labelled.code) (length code.info.code) code.labels.cut)

  short : All (λ address. address < 2 ^ 16) old
  short = short_each old (length code.info.code) few (starts_within code.info.code old (addressed old parts.labelled.code) (length code.info.code) code.labels.cut)

  none_formed : AreWellFormed old []
  none_formed = record {
    starts_rise = rise;
    addresses = short;
    count = omega arith;
    frames_rise = λ i j d before within. absurd (omega (arith, within));
    each = λ i d within. absurd (omega (arith, within));
  }

  map_formed : (body : List ℕ) (frames : List Frame) → AreFramesOf code.info.code body (Some frames) → AreWellFormed old frames
  map_formed body frames are =
      let same = one_cut code.info.code are.starts old are.instrs (addressed old parts.labelled.code) (length code.info.code) (length code.info.code) (whole_ends code.info.code) (whole_ends code.info.code) are.cut code.labels.cut in
      formed body old frames rise short (subst (λ (s : List ℕ). IsStackMap body s frames) same.starts are.are)

  any_formed : (maps : List (List ℕ)) (frames : List Frame) → HasFrames code.info.code maps (Some frames) → AreWellFormed old frames
  any_formed [] frames has = let e : frames ≡ [] = cc in subst (λ (fs : List Frame). AreWellFormed old fs) (sym e) none_formed
  any_formed (body ∷ maps) frames has = map_formed body frames has

  -- The frames of a method's code are well formed by the starts of its instructions.
  pub frames_formed : (frames : List Frame) → parts.frames ≡ Some frames → AreWellFormed old frames
  frames_formed frames e = any_formed (maps_of pool code.info) frames (subst (λ (o : Option (List Frame)). HasFrames code.info.code (maps_of pool code.info) o) e code.frames)

-- ---- the code that is laid out

module _ (program : Program) (first : ℕ) (gs : List Group) (labelled : Labelled) (laid : Laid) (same : length gs ≡ length labelled.code)
    (is_laid : IsLaidOut (labels_in_groups first gs labelled) laid) where
  abbrev instrs : List Instr
  instrs = (labels_in_groups first gs labelled).code

  starts_same : laid.starts ≡ is_laid.labels.starts
  starts_same = is_laid.starts ∙ sym (same_places (address_of is_laid.labels.starts) laid.code is_laid.labels.starts instrs (length laid.code) 0 is_laid.labels.cut.each is_laid.labels.cut.first).starts_are

  -- the starts of the layout are those of the labels
  pub laid_cut : IsCut laid.code laid.starts (addressed laid.starts instrs) (length laid.code)
  laid_cut = subst (λ (s : List ℕ). IsCut laid.code s (addressed s instrs) (length laid.code)) (sym starts_same) is_laid.labels.cut

  pub laid_count : length laid.starts ≡ start gs (length gs)
  unfolding labels_in_groups
  laid_count =
      as_many laid.code laid.starts (addressed laid.starts instrs) (length laid.code) laid_cut.each
      ∙ length_map _ instrs
      ∙ length_regrouped (inserted_instr first) (own_instr (start gs)) gs labelled.code same

  pub laid_rise : IsStrictlyIncreasing laid.starts
  laid_rise = rises_each laid.starts (starts_rise laid.code laid.starts (addressed laid.starts instrs) (length laid.code) laid_cut)

  pub laid_short : All (λ address. address < 2 ^ 16) laid.starts
  laid_short = short_each laid.starts (length laid.code) is_laid.short (starts_within laid.code laid.starts (addressed laid.starts instrs) (length laid.code) laid_cut)
