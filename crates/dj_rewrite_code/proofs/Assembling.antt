-- The parts of a rewritten Code attribute, put together.
use Rattle.std.proofs.Common.{◌≡◌, ℕ, zero, suc, ◌+◌, ◌<◌, ◌≤◌, ◌^◌, ◌⊎◌, Bool, true, false, List, [], ◌∷◌, ◌++◌, map, filter, length, get_or, Some, Err, refl, sym, ap, ap₂, subst, ◌∙◌, arith, inl, inr, codes, if◌then◌else◌}
use Rattle.std.specs.Prelude.{Contains, slice_get, nat_le}
use Rattle.std.proofs.lemmas.Bool.{leb-true, leb-false}
use Rattle.std.proofs.lemmas.Option.{same_Some}
use Rattle.std.specs.List.{AllByRecursion}
use Rattle.std.specs.List.Sorted.{IsStrictlyIncreasing}
use Rattle.dj_ops.specs.declared.frames.Frame.{Frame}
use Rattle.dj_labels.specs.declared.labelled.Labelled.{Labelled}
use Rattle.dj_labels.specs.trusted.Labels.{addressed}
use Rattle.dj_labels.proofs.Cuts.{starts_within}
use Rattle.dj_layout.specs.declared.laid.Laid.{Laid}
use Rattle.dj_layout.specs.trusted.Layouts.{IsLaidOut}
use Rattle.dj_layout.proofs.Once.{no_code_where_refused_is}
use Rattle.dj_ops.specs.declared.frames.VType.{VType}
use Rattle.dj_ops.specs.declared.frames.VType.TheVariants as types
use Rattle.dj_frames.specs.trusted.StackMaps.{types_of, IsType}
use Rattle.dj_labels.specs.Labels.{IsWellFormed}
use Rattle.dj_frames.specs.StackMaps as maps_of_frames
use Rattle.dj_frames.specs.StackMaps.{IsTypeBelow, IsFrameBelow}
use Rattle.dj_frames.specs.Moves.{moved_frame}
use Rattle.dj_frames.specs.trusted.Written.{stack_map_bytes}
use Rattle.dj_pool.specs.trusted.Pool.{Constant}
use Rattle.dj_class.specs.trusted.ClassFile.{AttributeInfo}
use Rattle.dj_class.specs.trusted.Code.{CodeInfo, IsCodeInfo, IsCodeAttribute, IsRow, code_info_bytes}
use Rattle.dj_early_rules.specs.trusted.Attributes.{is_named}
use Rattle.dj_model.specs.trusted.Program.{Program}
use Rattle.dj_groups.specs.Groups.{Inserted, Copy, ObjectBytes, ElementBytes, Record, Group, inserted, groups_of, start, starts, owns}
use Rattle.dj_groups.specs.Laws.{FitsObject}
use Rattle.dj_groups.specs.Grouped.{labels_in_groups}
use Rattle.dj_groups.proofs.GroupLaws.{start_zero}
use Rattle.dj_groups.proofs.WellFormed.{rises_strictly, grouped_is_well_formed}
use Rattle.dj_program.specs.trusted.Codes.{CodeParts, code_in}
use Rattle.dj_emit.proofs.TargetFacts.{length_starts, length_owns, start_at}
use Rattle.dj_emit.specs.declared.error.EmitError.TheVariants as emit_errors
use Rattle.dj_emit.specs.Groups.{FitsSipush, IsRefusal}
use Rattle.dj_emit.specs.Filed.{groups_in}
use Rattle.dj_rewritten.specs.Files.{frames_in}
use Rattle.dj_rewritten.specs.TooLarge.{IsBigObject, HasBigObject, LacksRoom, DoesNotFit}
use Rattle.dj_rewritten.proofs.Methods.{as_many_groups, laid_cut, laid_count, laid_rise, laid_short}
use Rattle.dj_rewritten.proofs.Frames.{frames_moved}
use Rattle.dj_rewrite_code.specs.declared.error.CodeError.{CodeError}
use Rattle.dj_rewrite_code.specs.declared.error.CodeError.TheVariants as errors
use Rattle.dj_rewrite_code.specs.Answers.{with_body, groups_by, CanMove, CanRewrite, IsWritten, WritesCode}
use Rattle.dj_rewrite_code.specs.Steps.{HasGrouped, AnswersGrouped, AnswersLaid, respelled}
use Rattle.dj_rewrite_code.proofs.Rows.{length_map, pieces_catch, rows_fit, bounds_fit}
use Rattle.dj_rewrite_code.proofs.Sizes.{info_short}
use Rattle.dj_emit.specs.declared.spelling.Grouped.{Grouped}

-- neither the room nor the frames matter to groups
pub same_groups : (program : Program) (pool : List Constant) (parts : CodeParts) → groups_in program pool parts.labelled ≡ groups_by program pool parts
unfolding groups_of code_in
same_groups program pool parts = refl

-- ---- what doesn't fit

all_contained : {A : Type 0} (P : A → Type 0) (xs : List A) (x : A) → AllByRecursion P xs → Contains xs x → P x
all_contained P [] x h (k, lt, is) = absurd (omega (arith, lt))
all_contained P (y ∷ xs) x h (zero, lt, is) = let e : y ≡ x = is in subst P e h.0
all_contained P (y ∷ xs) x h (suc k, lt, is) = all_contained P xs x h.1 (k, omega (arith, lt), is)

not_big : (x : Inserted) → FitsObject x → IsBigObject x → ⊥
not_big (ObjectBytes n) fits big = omega (arith, fits, big)
not_big Copy fits big = big
not_big (ElementBytes e) fits big = big
not_big (Record c) fits big = big

fits_or_big : (x : Inserted) → FitsObject x ⊎ IsBigObject x
fits_or_big (ObjectBytes n) = go (nat_le n 32767) refl where
  go : (b : Bool) → nat_le n 32767 ≡ b → (n ≤ 32767) ⊎ (32767 < n)
  go true e = inl (leb-true n 32767 e)
  go false e = inr (leb-false n 32767 e)
fits_or_big Copy = inl tt
fits_or_big (ElementBytes e) = inl tt
fits_or_big (Record c) = inl tt

-- the object that is too large
big_in : (xs : List Inserted) → (AllByRecursion FitsObject xs → ⊥) → (x : Inserted) × Contains xs x × IsBigObject x
big_in [] never = absurd (never tt)
big_in (x ∷ xs) never = go (fits_or_big x) (λ fits. big_in xs (λ all. never (fits, all))) where
  go : FitsObject x ⊎ IsBigObject x → (FitsObject x → (y : Inserted) × Contains xs y × IsBigObject y) → (y : Inserted) × Contains (x ∷ xs) y × IsBigObject y
  go (inr big) later = (x, (0, omega arith, refl), big)
  go (inl fits) later = let t = later fits in (t.0, (suc t.1.0, omega (arith, t.1.1), t.1.2), t.2)

found_in : {A : Type 0} (xs : List A) (n : ℕ) (x : A) → slice_get xs n ≡ Some x → Contains xs x
found_in [] n x e = absurd cc
found_in (y ∷ xs) zero x e = (0, omega arith, same_Some y x e)
found_in (y ∷ xs) (suc n) x e = let t = found_in xs n x e in (suc t.0, omega (arith, t.1), t.2)

pub refused_big : (gs : List Group) (n : ℕ) → IsRefusal gs (emit_errors.BigObject n) → HasBigObject gs
refused_big gs n (g, first) = let t = big_in (inserted g) first.lacks in (g, found_in gs n g first.found, t.0, t.1, t.2)

no_big : (gs : List Group) → AllByRecursion FitsSipush gs → HasBigObject gs → ⊥
no_big gs fits (g, there, x, within, big) = not_big x (all_contained FitsObject (inserted g) x (all_contained FitsSipush gs g fits there) within) big

-- ---- numbers of frames

starts_increase : (gs : List Group) → IsStrictlyIncreasing (starts gs)
starts_increase gs k h =
    let less : k + 1 ≤ length gs = omega (arith, h, length_starts gs) in
    omega (arith, start_at gs k 0 (omega (arith, less)), start_at gs (k + 1) 0 less, rises_strictly gs k (k + 1) (omega arith))

type_below : (limit : ℕ) (old : List ℕ) (t : VType) → length old ≤ limit → IsType old t → IsTypeBelow limit t
type_below limit old (types.Uninitialized n) few h = omega (arith, few, h.0)
type_below limit old (types.Object index) few h = tt
type_below limit old types.Top few h = tt
type_below limit old types.Integer few h = tt
type_below limit old types.Float few h = tt
type_below limit old types.Double few h = tt
type_below limit old types.Long few h = tt
type_below limit old types.Null few h = tt
type_below limit old types.UninitializedThis few h = tt

below : (limit : ℕ) (old : List ℕ) (frame : Frame) → length old ≤ limit → maps_of_frames.IsWellFormed old frame → IsFrameBelow limit frame
below limit old frame few w = record {
  at = omega (arith, few, w.number);
  types = λ i d less. type_below limit old (get_or (types_of frame.form) i d) few (w.types i d less);
}

module _ (program : Program) (pool : List Constant) (first : ℕ) (info : CodeInfo) (parts : CodeParts) (can : CanRewrite program pool first info parts) where
  abbrev gs : List Group
  gs = groups_by program pool parts

  abbrev labels : Labelled
  labels = labels_in_groups first gs parts.labelled

  many : length gs ≡ length parts.labelled.code
  many = as_many_groups program pool parts

  -- as the file has its code
  pub grouped_as : (made : Grouped) → HasGrouped first (groups_in program pool parts.labelled) parts.labelled made → HasGrouped first gs parts.labelled made
  grouped_as made has = subst (λ (xs : List Group). HasGrouped first xs parts.labelled made) (same_groups program pool parts) has

  pub refused_grouped : (e : CodeError) → AnswersGrouped first (groups_in program pool parts.labelled) parts.labelled (Err e) → WritesCode program pool first info parts (Err e)
  refused_grouped errors.Memory h = tt
  refused_grouped errors.TooLarge h = go (subst (λ (xs : List Group). HasBigObject xs ⊎ (65535 < length (labels_in_groups first xs parts.labelled).ranges)) (same_groups program pool parts) h) where
    go : HasBigObject gs ⊎ (65535 < length labels.ranges) → DoesNotFit first gs parts
    go (inl big) = inl big
    go (inr rows) = inr (inr (inl rows))

  pub made_well : (made : Grouped) → HasGrouped first gs parts.labelled made → IsWellFormed made.code
  made_well made has = subst IsWellFormed (sym has.is.code) (grouped_is_well_formed first gs parts.labelled many can.first_fits has.fits can.code.well)

  pub refused_laid : (made : Grouped) (e : CodeError) → HasGrouped first gs parts.labelled made → AnswersLaid made.code (Err e) → WritesCode program pool first info parts (Err e)
  refused_laid made errors.Memory has h = tt
  refused_laid made errors.TooLarge has h = inr (inr (inr (subst LacksRoom has.is.code h)))

  pub laid_as : (made : Grouped) (laid : Laid) → HasGrouped first gs parts.labelled made → IsLaidOut made.code laid → IsLaidOut labels laid
  laid_as made laid has h = subst (λ (l : Labelled). IsLaidOut l laid) has.is.code h

  module _ (laid : Laid) (is_laid : IsLaidOut labels laid) where
    count : length laid.starts ≡ start gs (length gs)
    count = laid_count program first gs parts.labelled laid many is_laid

    within_code : AllByRecursion (λ address. address < length laid.code) laid.starts
    within_code = starts_within laid.code laid.starts (addressed laid.starts labels.code) (length laid.code) (laid_cut program first gs parts.labelled laid many is_laid)

    some_code : 0 < length laid.code
    some_code =
        let rising : start gs 0 < start gs (length gs) = rises_strictly gs 0 (length gs) (omega (arith, many, can.some)) in
        let here : 0 < length laid.starts = omega (arith, count, rising, start_zero gs) in
        first_of laid.starts here within_code where
          first_of : (xs : List ℕ) → 0 < length xs → AllByRecursion (λ address. address < length laid.code) xs → 0 < length laid.code
          first_of [] h k = absurd (omega (arith, h))
          first_of (x ∷ xs) h k = omega (arith, k.0)

    -- the frames fit the new code
    pub can_move : (grouped : Grouped) → HasGrouped first gs parts.labelled grouped → CanMove grouped laid.starts (frames_in parts.frames)
    can_move grouped has =
        let P : List ℕ → List ℕ → Type 0 = λ s o. CanMove (record { code = grouped.code; start = s; own = o }) laid.starts (frames_in parts.frames) in
        subst (λ (s : List ℕ). P s grouped.own) (sym has.is.start) (subst (λ (o : List ℕ). P (starts gs) o) (sym has.is.own) (record {
          rise = starts_increase gs;
          below_start = λ i d less. below (length (starts gs)) can.old (get_or (frames_in parts.frames) i d) (omega (arith, can.old_count, many, length_starts gs)) (can.frames.each i d less);
          below_own = λ i d less. below (length (owns gs)) can.old (get_or (frames_in parts.frames) i d) (omega (arith, can.old_count, many, length_owns gs)) (can.frames.each i d less);
          formed = frames_moved gs laid.starts (laid_rise program first gs parts.labelled laid many is_laid) (laid_short program first gs parts.labelled laid many is_laid) count
              can.old (frames_in parts.frames) (can.old_count ∙ sym many) can.frames;
        }))

    pub fits : (grouped : Grouped) → HasGrouped first gs parts.labelled grouped → parts.max_stack + 2 < 2 ^ 16 → DoesNotFit first gs parts → ⊥
    fits grouped has stack (inl big) = no_big gs has.fits big
    fits grouped has stack (inr (inl past)) = omega (arith, stack, past)
    fits grouped has stack (inr (inr (inl rows))) = omega (arith, has.is.few, rows)
    fits grouped has stack (inr (inr (inr (e, cause)))) = no_code_where_refused_is labels laid.code laid.table e is_laid.short is_laid.labels cause

    abbrev maps : List AttributeInfo
    maps = filter (is_named pool (codes "StackMapTable")) info.attributes

    maps_fit : (body : List ℕ) → length body < 2 ^ 30 → (list : List AttributeInfo) → AllByRecursion IsCodeAttribute list → AllByRecursion IsCodeAttribute (map (with_body body) (filter (is_named pool (codes "StackMapTable")) list))
    maps_fit body short [] h = tt
    maps_fit body short (a ∷ list) h = go (is_named pool (codes "StackMapTable") a) (maps_fit body short list h.1) where
      go : (b : Bool) → AllByRecursion IsCodeAttribute (map (with_body body) (filter (is_named pool (codes "StackMapTable")) list))
          → AllByRecursion IsCodeAttribute (map (with_body body) (if b then a ∷ filter (is_named pool (codes "StackMapTable")) list else filter (is_named pool (codes "StackMapTable")) list))
      go true later = (record { name = h.0.name; body = omega (arith, short) }, later)
      go false later = later

    -- the attribute's numbers fit their fields
    pub numbers_fit : (grouped : Grouped) (max_stack : ℕ) (body : List ℕ) → HasGrouped first gs parts.labelled grouped → max_stack < 2 ^ 16 → length body < 2 ^ 30
        → IsCodeInfo (respelled pool info max_stack laid body)
    numbers_fit grouped max_stack body has stack short = record {
      max_stack = stack;
      max_locals = can.info_valid.max_locals;
      some_code = some_code;
      few_code = let h = is_laid.short in omega (arith, h);
      row_count = let e = ap length is_laid.table ∙ length_map _ labels.ranges in omega (arith, e, has.is.few);
      rows = subst (AllByRecursion IsRow) (sym is_laid.table)
          (rows_fit (laid.starts ++ length laid.code ∷ []) labels.ranges (bounds_fit laid.starts (length laid.code) is_laid.short within_code)
          (pieces_catch first gs parts.labelled can.catches));
      attribute_count = omega (arith, length_map (with_body body) maps, can.one_map);
      attributes = maps_fit body short info.attributes can.info_valid.attributes;
    }

    -- the whole
    pub written : (grouped : Grouped) (max_stack : ℕ) (body : List ℕ) → HasGrouped first gs parts.labelled grouped → max_stack ≡ parts.max_stack + 2 → max_stack < 2 ^ 16
        → body ≡ stack_map_bytes laid.starts (map (moved_frame (starts gs) (owns gs)) (frames_in parts.frames))
        → IsWritten program pool first info parts (code_info_bytes (respelled pool info max_stack laid body))
    written grouped max_stack body has more stack is =
        let short : length body < 2 ^ 30 = (let e = ap length is in omega (arith, e, can.short laid.starts)) in
        record {
          new = respelled pool info max_stack laid body;
          is = refl;
          rewritten = record {
            laid = laid;
            is_laid = is_laid;
            is =
                ap₂ (λ (n : ℕ) (b : List ℕ). respelled pool info n laid b) (more ∙ ap (λ (n : ℕ). n + 2) can.stack) is;
            valid = numbers_fit grouped max_stack body has stack short;
          };
          fits = fits grouped has (omega (arith, more, stack));
          small = info_short (respelled pool info max_stack laid body) body maps is_laid.short
              (let e = ap length is_laid.table ∙ length_map _ labels.ranges in omega (arith, e, has.is.few)) short can.one_map refl;
        }
