-- Frames that are moved to groups are well formed under the new addresses.
use Rattle.std.proofs.Common.{◌≡◌, ℕ, suc, ◌+◌, ◌^◌, ◌<◌, ◌≤◌, List, [], ◌∷◌, map, length, get_or, refl, sym, ap, subst, arith}
use Rattle.std.specs.Prelude.{All, AllPairs, slice_index}
use Rattle.std.specs.List.Sorted.{IsStrictlyIncreasing}
use Rattle.std.proofs.lemmas.List.{map-append, get_or-map}
use Rattle.std.proofs.lemmas.List.Elements.{All-map}
use Rattle.std.proofs.lemmas.List.FromFn.{get_or-map-range_with_len}
use Rattle.dj_ops.specs.declared.frames.VType.{VType}
use Rattle.dj_ops.specs.declared.frames.VType.TheVariants as types
use Rattle.dj_ops.specs.declared.frames.Form.{Form}
use Rattle.dj_ops.specs.declared.frames.Form.TheVariants as forms
use Rattle.dj_ops.specs.declared.frames.Frame.{Frame}
use Rattle.dj_frames.specs.trusted.StackMaps.{types_of, HasCounts, IsType}
use Rattle.dj_frames.specs.StackMaps.{IsWellFormed, AreWellFormed}
use Rattle.dj_frames.specs.Moves.{moved_type, moved_form, moved_frame}
use Rattle.dj_groups.specs.Groups.{Group, start, own, starts, owns}
use Rattle.dj_groups.proofs.GroupLaws.{own_next, rises_to}
use Rattle.dj_groups.proofs.WellFormed.{rises_strictly}

length_map : {A B : Type 0} (f : A → B) (xs : List A) → length (map f xs) ≡ length xs
length_map f [] = refl
length_map f (x ∷ xs) = ap suc (length_map f xs)

start_of : (gs : List Group) (k : ℕ) → k ≤ length gs → slice_index (starts gs) k ≡ start gs k
start_of gs k h = get_or-map-range_with_len (start gs) 0 (length gs + 1) k k 0 (omega (arith, h)) (omega arith)

own_of : (gs : List Group) (k : ℕ) → k ≤ length gs → slice_index (owns gs) k ≡ own gs k
own_of gs k h = get_or-map-range_with_len (own gs) 0 (length gs + 1) k k 0 (omega (arith, h)) (omega arith)

counts_kept : (own : List ℕ) (form : Form) → HasCounts form → HasCounts (moved_form own form)
counts_kept own forms.Same h = h
counts_kept own (forms.Stack1 t) h = h
counts_kept own (forms.Chop n) h = h
counts_kept own (forms.Append ts) h = (subst (λ (n : ℕ). 1 ≤ n) (sym (length_map (moved_type own) ts)) h.0, subst (λ (n : ℕ). n ≤ 3) (sym (length_map (moved_type own) ts)) h.1)
counts_kept own (forms.Full ls os) h = (subst (λ (n : ℕ). n < 2 ^ 16) (sym (length_map (moved_type own) ls)) h.0, subst (λ (n : ℕ). n < 2 ^ 16) (sym (length_map (moved_type own) os)) h.1)

types_mapped : (own : List ℕ) (form : Form) → types_of (moved_form own form) ≡ map (moved_type own) (types_of form)
types_mapped own forms.Same = refl
types_mapped own (forms.Stack1 t) = refl
types_mapped own (forms.Chop n) = refl
types_mapped own (forms.Append ts) = refl
types_mapped own (forms.Full ls os) = sym (map-append (moved_type own) ls os)

module _ (gs : List Group) (addresses : List ℕ) (rise : IsStrictlyIncreasing addresses) (short : All (λ address. address < 2 ^ 16) addresses)
    (count : length addresses ≡ start gs (length gs)) where
  type_moved : (old : List ℕ) → length old ≡ length gs → (t : VType) → IsType old t → IsType addresses (moved_type (owns gs) t)
  type_moved old same (types.Uninitialized k) h =
      let less : k < length gs = omega (arith, h.0, same) in
      let o : slice_index (owns gs) k ≡ own gs k = own_of gs k (omega (arith, less)) in
      let low : slice_index (owns gs) k < length addresses = omega (arith, o, count, own_next gs k, rises_to gs (suc k) (length gs) less) in
      (low, short (slice_index (owns gs) k) 0 low)
  type_moved old same types.Top h = tt
  type_moved old same types.Integer h = tt
  type_moved old same types.Float h = tt
  type_moved old same types.Double h = tt
  type_moved old same types.Long h = tt
  type_moved old same types.Null h = tt
  type_moved old same types.UninitializedThis h = tt
  type_moved old same (types.Object index) h = h

  frame_moved : (old : List ℕ) → length old ≡ length gs → (frame : Frame) → IsWellFormed old frame → IsWellFormed addresses (moved_frame (starts gs) (owns gs) frame)
  frame_moved old same frame w = record {
    number = omega (arith, start_of gs frame.at (omega (arith, w.number, same)), count, rises_strictly gs frame.at (length gs) (omega (arith, w.number, same)));
    counts = counts_kept (owns gs) frame.form w.counts;
    types = subst (λ (ts : List VType). All (IsType addresses) ts) (sym (types_mapped (owns gs) frame.form))
        (All-map (IsType addresses) (moved_type (owns gs)) (types_of frame.form) (λ k d less. type_moved old same (get_or (types_of frame.form) k d) (w.types k d less)));
  }

  abbrev Rises : Frame → Frame → Type 0
  Rises a b = a.at < b.at

  rises_moved : (old : List ℕ) (frames : List Frame) → length old ≡ length gs → AreWellFormed old frames → AllPairs Rises (map (moved_frame (starts gs) (owns gs)) frames)
  rises_moved old frames same w i j d before within =
      let less : j < length frames = omega (arith, length_map (moved_frame (starts gs) (owns gs)) frames, within) in
      let lower : i < length frames = omega (arith, before, less) in
      let a = get_or frames i d in
      let b = get_or frames j d in
      let p : slice_index (starts gs) a.at ≡ start gs a.at = start_of gs a.at (omega (arith, (w.each i d lower).number, same)) in
      let q : slice_index (starts gs) b.at ≡ start gs b.at = start_of gs b.at (omega (arith, (w.each j d less).number, same)) in
      subst (λ (x : Frame). Rises x (get_or (map (moved_frame (starts gs) (owns gs)) frames) j d)) (sym (get_or-map (moved_frame (starts gs) (owns gs)) frames i d d lower))
      (subst (λ (x : Frame). Rises (moved_frame (starts gs) (owns gs) a) x) (sym (get_or-map (moved_frame (starts gs) (owns gs)) frames j d d less))
      (omega (arith, p, q, rises_strictly gs a.at b.at (w.frames_rise i j d before less))))

  -- Frames that are well formed under the original addresses are so in groups.
  pub frames_moved : (old : List ℕ) (frames : List Frame) → length old ≡ length gs → AreWellFormed old frames → AreWellFormed addresses (map (moved_frame (starts gs) (owns gs)) frames)
  frames_moved old frames same w = record {
    starts_rise = rise;
    addresses = short;
    count = subst (λ (n : ℕ). n < 2 ^ 16) (sym (length_map (moved_frame (starts gs) (owns gs)) frames)) w.count;
    frames_rise = rises_moved old frames same w;
    each = All-map (IsWellFormed addresses) (moved_frame (starts gs) (owns gs)) frames (λ k d less. frame_moved old same (get_or frames k d) (w.each k d less));
  }
