-- Stack maps with floats and doubles.
use Rattle.std.proofs.Common.{◌≡◌, ℕ, ◌+◌, ◌↔◌, Bool, false, List, [], ◌∷◌, ◌++◌, length, Option, Some, None, Bor, Err, Contains, refl, sym, subst, inl, inr, arith, IsTrue}
use Rattle.std.specs.List.Sorted.{IsStrictlyIncreasing}
use Rattle.std.proofs.lemmas.List.Elements.{Contains-append_right, Contains-append_cases}
use Rattle.dj_ops.specs.declared.instruction.Instr.{Instr}
use Rattle.dj_ops.specs.declared.frames.VType.{VType}
use Rattle.dj_ops.specs.declared.frames.Frame.{Frame}
use Rattle.dj_labels.specs.trusted.Labels.{IsCut}
use Rattle.dj_labels.specs.Passes.{AreStarts}
use Rattle.dj_labels.proofs.Cuts.{whole_ends, one_cut, starts_rise}
use Rattle.dj_frames.specs.declared.read.FrameError.{FrameError}
use Rattle.dj_frames.specs.declared.read.FrameError.TheVariants as frame_errors
use Rattle.dj_frames.specs.trusted.StackMaps.{IsStackMap}
use Rattle.dj_frames.specs.Refusals.{IsFault}
use Rattle.dj_frames.specs.Answers.{ReadsFrames}
use Rattle.dj_frames.proofs.WholeFaults.{no_stack_map_where_fault}
use Rattle.dj_frames.proofs.WholeLaws.{one_stack_map}
use Rattle.dj_report.proofs.Sorted.{contains_none, contains_cases}
use Rattle.dj_early_rules.specs.declared.code.WholeCode.{WholeCode}
use Rattle.dj_early_rules.specs.trusted.Code.{HaveFloats, HaveFloatType, IsFloatMapAt, IsFloatMap, AreFramesAt, HasFrames}
use Rattle.dj_early_rules.specs.Passes.{lacks_memory_of_frames, bodies_in, HasFramesAt, HasFloatFrames, HasMapOf}

-- two lists of types, of which the first has none
pub floats_of_both : (first second : List VType) (b : Bool) → (HaveFloats first → ⊥) → (IsTrue b ↔ HaveFloats second) → IsTrue b ↔ HaveFloats (first ++ second)
floats_of_both first second b none reported = (
  λ t. let has = reported.0 t in (has.0, Contains-append_right first second has.0 has.1, has.2),
  λ has. elim (Contains-append_cases first second has.0 has.1) [ inl old ↦ absurd (none (has.0, old, has.2)) | inr new ↦ reported.1 (has.0, new, has.2) ],
)

no_frames : (starts body : List ℕ) (e : FrameError) → IsStrictlyIncreasing starts → IsFault body starts e → AreFramesAt starts body None
no_frames starts body e rise fault frames is = no_stack_map_where_fault body starts e frames rise fault is

pub refused_at : (starts body : List ℕ) (e : FrameError) → IsStrictlyIncreasing starts → ReadsFrames body starts (Err e) → lacks_memory_of_frames e ≡ false → AreFramesAt starts body None
refused_at starts body frame_errors.Memory rise reads other = absurd cc
refused_at starts body (frame_errors.BadFrame place) rise reads other = no_frames starts body _ rise reads
refused_at starts body (frame_errors.NotAnInstruction place) rise reads other = no_frames starts body _ rise reads

pub starts_increase : (code starts : List ℕ) → AreStarts code starts → IsStrictlyIncreasing starts
starts_increase code starts are k lt = starts_rise code starts are.instrs (length code) are.cut k (k + 1) 0 (omega arith) lt

-- the frames for code with these starts are those of the code
pub have_frames : (code starts : List ℕ) (maps : List (List ℕ)) (frames : Option (List Frame)) → AreStarts code starts → HasFramesAt starts maps frames → HasFrames code maps frames
have_frames code starts [] frames are has = has
have_frames code starts (body ∷ maps) frames are has = record { starts = starts; instrs = are.instrs; cut = are.cut; are = has }

-- ---- floats and doubles of the frames that were read

-- the same for a stack map with one body, by the starts for which its frames were read
map_at : (code starts : List ℕ) (instrs : List Instr) (body : List ℕ) → IsCut code starts instrs (length code) → IsFloatMap code body → IsFloatMapAt starts body
map_at code starts instrs body cut is =
    subst (λ (ss : List ℕ). IsFloatMapAt ss body) (one_cut code is.starts starts is.instrs instrs (length code) (length code) (whole_ends code) (whole_ends code) is.cut cut).starts is.map

only : (body other : List ℕ) → Contains (body ∷ []) other → other ≡ body
only body other m = elim (contains_cases body [] other m) [ inl is ↦ sym is | inr none ↦ absurd (contains_none other none) ]

no_floats : (frames : Option (List Frame)) → frames ≡ Some [] → HasFloatFrames frames → ⊥
no_floats None e has = has
no_floats (Some frames) e has = (let none : frames ≡ [] = cc in contains_none has.0 (subst (λ (fs : List Frame). Contains fs has.0) none has.1))

floats_of : (code : List ℕ) (map : Option (Bor (List ℕ))) (frames : Option (List Frame)) (b : Bool) → HasFrames code (bodies_in map) frames → (IsTrue b ↔ HasFloatFrames frames)
    → IsTrue b ↔ ((body : List ℕ) × Contains (bodies_in map) body × IsFloatMap code body)
floats_of code None frames b has reported = (
  λ t. absurd (no_floats frames has (reported.0 t)),
  λ (m : (body : List ℕ) × Contains [] body × IsFloatMap code body). absurd (contains_none m.0 m.1),
)
floats_of code (Some body) None b are reported = (
  λ t. absurd (reported.0 t),
  λ (m : (other : List ℕ) × Contains (body.now ∷ []) other × IsFloatMap code other).
      let is = map_at code are.starts are.instrs body.now are.cut (subst (IsFloatMap code) (only body.now m.0 m.1) m.2) in
      absurd (are.are is.frames is.map),
)
floats_of code (Some body) (Some frames) b are reported = (
  λ t. (body.now, (0, omega arith, refl), record { starts = are.starts; instrs = are.instrs; cut = are.cut; map = record { frames = frames; map = are.are; float = reported.0 t } }),
  λ (m : (other : List ℕ) × Contains (body.now ∷ []) other × IsFloatMap code other).
      let is = map_at code are.starts are.instrs body.now are.cut (subst (IsFloatMap code) (only body.now m.0 m.1) m.2) in
      let rise = starts_increase code are.starts (record { instrs = are.instrs; cut = are.cut }) in
      reported.1 (subst HaveFloatType (one_stack_map body.now are.starts is.frames frames rise is.map are.are) is.float),
)

-- of whole code
pub floats_reported : (code : WholeCode) (b : Bool) → HasFrames code.code.now (bodies_in code.map) code.frames → (IsTrue b ↔ HasFloatFrames code.frames) → IsTrue b ↔ HasMapOf code
floats_reported code b has reported = floats_of code.code.now code.map code.frames b has reported
