-- A frame that is read is spelled so, and one that is spelled so is read; the same for frames one after the other.
use Rattle.std.proofs.Common.{◌≡◌, ℕ, zero, suc, ◌+◌, ◌-◌, ◌^◌, ◌<◌, ◌≤◌, List, [], ◌∷◌, ◌++◌, length, Result, Ok, refl, sym, ap, subst, ◌∙◌, append_assoc, arith, inl, inr}
use Rattle.std.specs.Prelude.{slice_index}
use Rattle.std.specs.List.{AllByRecursion}
use Rattle.std.specs.List.Sorted.{IsStrictlyIncreasing}
use Rattle.std.proofs.lemmas.Bool.{ltb-true, ltb-false, lt-ltb, le-ltb}
use Rattle.dj_cursor.specs.trusted.Spelling.{u1, u2}
use Rattle.dj_cursor.specs.Reading.{Cursor}
use Rattle.dj_cursor.proofs.Bytes.{IsBytes}
use Rattle.dj_cursor.proofs.Steps.{bind_ok, bind_again, cond_either, cond_true, cond_false}
use Rattle.dj_cursor.proofs.Spans.{Spans, Spans-none, Spans-then, Spans-split, Spans-stay, IsBytes-Spans, step_takes, step_again}
use Rattle.dj_cursor.proofs.Numbers.{u1_reads, u2_reads}
use Rattle.dj_ops.specs.declared.frames.Form.{Form}
use Rattle.dj_ops.specs.declared.frames.Form.TheVariants as forms
use Rattle.dj_ops.specs.declared.frames.Frame.{Frame}
use Rattle.dj_frames.specs.declared.read.FrameError.{FrameError}
use Rattle.dj_frames.specs.declared.read.FrameError.TheVariants as errors
use Rattle.dj_frames.specs.trusted.StackMaps.{type_bytes, IsType, types_of, HasCounts, form_bytes, long_tag, IsShortTag, SpellsFrame, SpellsFrames}
use Rattle.dj_frames.specs.Reading.{long_frame_at, same_frame_at, stack1_frame_at, frame_at, frames_at}
use Rattle.dj_frames.proofs.Numbers.{number_takes, number_again}
use Rattle.dj_frames.proofs.FormLaws.{form_takes, form_again, Operand, stack1_takes, stack1_again}

-- ---- a frame is read

-- bytes that spell a frame were read
pub record Framed (starts : List ℕ) (least : ℕ) (c : Cursor) (x : Frame × Cursor) : Type 0 where
  pub text : List ℕ
  pub spans : Spans c text x.1
  pub spells : SpellsFrame starts least x.0 text

same_takes : (starts : List ℕ) (least tag : ℕ) → tag ≤ 63 → (c mid : Cursor) (x : Frame × Cursor) → Spans c (u1 tag) mid → same_frame_at starts c.place (least + tag) mid ≡ Ok x → Framed starts least c x
unfolding same_frame_at
same_takes starts least tag low c mid x s e =
    let at = bind_ok e in
    let is = number_takes starts c.place (least + tag) at.0 at.1 in
    let made : (record { at = at.0; form = forms.Same }, mid) ≡ x = cc (at.2) in
    subst (Framed starts least c) made (record {
      text = u1 tag;
      spans = s;
      spells = record {
        number = is.0;
        delta = tag;
        address = is.1;
        counts = tt;
        types = tt;
        head = u1 tag;
        is_head = inr (tag, (low, refl), refl);
        spelled = refl;
      };
    })

stack1_framed : (starts : List ℕ) (least delta tag at : ℕ) (c mid : Cursor) (form : Form) (next : Cursor) → delta ≤ 63 → tag ≡ 64 + delta → at < length starts → slice_index starts at ≡ least + delta
    → Spans c (u1 tag) mid → Operand starts mid (form, next) → Framed starts least c (record { at = at; form = form }, next)
stack1_framed starts least delta tag at c mid form next low is_tag number address s o =
    subst (λ (f : Form). Framed starts least c (record { at = at; form = f }, next)) (sym o.1) (record {
      text = u1 tag ++ type_bytes starts o.0;
      spans = Spans-then s o.2;
      spells = record {
        number = number;
        delta = delta;
        address = address;
        counts = tt;
        types = (o.3, tt);
        head = u1 tag;
        is_head = inr (tag, (low, is_tag), refl);
        spelled = refl;
      };
    })

stack1_frame_takes : (starts : List ℕ) → IsStrictlyIncreasing starts → (least tag : ℕ) → 64 ≤ tag → tag < 128 → (c mid : Cursor) (x : Frame × Cursor) → Spans c (u1 tag) mid → IsBytes mid.rest
    → stack1_frame_at starts c.place (least + (tag - 64)) mid ≡ Ok x → Framed starts least c x
unfolding stack1_frame_at
stack1_frame_takes starts rise least tag low high c mid x s fits e =
    let at = bind_ok e in
    let is = number_takes starts c.place (least + (tag - 64)) at.0 at.1 in
    let form = bind_ok at.2 in
    let o = stack1_takes starts rise mid form.0 fits form.1 in
    let made : (record { at = at.0; form = form.0.0 }, form.0.1) ≡ x = cc (form.2) in
    subst (Framed starts least c) made (stack1_framed starts least (tag - 64) tag at.0 c mid form.0.0 form.0.1 (omega (arith, low, high)) (omega (arith, low)) is.0 is.1 s o)

long_takes : (starts : List ℕ) → IsStrictlyIncreasing starts → (least tag : ℕ) → 247 ≤ tag → tag < 256 → (c mid : Cursor) (x : Frame × Cursor) → Spans c (u1 tag) mid → IsBytes mid.rest
    → long_frame_at starts least tag mid ≡ Ok x → Framed starts least c x
unfolding long_frame_at
long_takes starts rise least tag low high c mid x s fits e =
    let delta = step_takes (u2_reads errors.BadFrame) mid fits e in
    let at = bind_ok delta.rest in
    let is = number_takes starts mid.place (least + delta.value) at.0 at.1 in
    let form = bind_ok at.2 in
    let t = form_takes starts rise tag low high delta.next form.0 delta.fits form.1 in
    let made : (record { at = at.0; form = form.0.0 }, form.0.1) ≡ x = cc (form.2) in
    let tagged : Spans c (u1 (long_tag form.0.0)) mid = subst (λ (k : ℕ). Spans c (u1 k) mid) (sym t.1.is_tag) s in
    subst (Framed starts least c) made (record {
      text = (u1 (long_tag form.0.0) ++ u2 delta.value) ++ form_bytes starts form.0.0;
      spans = Spans-then (Spans-then tagged delta.spans) t.0;
      spells = record {
        number = is.0;
        delta = delta.value;
        address = is.1;
        counts = t.1.counts;
        types = t.1.types;
        head = u1 (long_tag form.0.0) ++ u2 delta.value;
        is_head = inl (delta.good, refl);
        spelled = refl;
      };
    })

pub frame_takes : (starts : List ℕ) → IsStrictlyIncreasing starts → (least : ℕ) (c : Cursor) (x : Frame × Cursor) → IsBytes c.rest → frame_at starts least c ≡ Ok x → Framed starts least c x
unfolding frame_at
frame_takes starts rise least c x fits e =
    let tag = step_takes (u1_reads errors.BadFrame) c fits e in
    let good : tag.value < 256 = omega (arith, tag.good) in
    cond_either _ _ _ tag.rest (λ b d. same_takes starts least tag.value (omega (arith, ltb-true _ _ b)) c tag.next x tag.spans d) (λ a e.
    cond_either _ _ _ e (λ b d. stack1_frame_takes starts rise least tag.value (ltb-false _ _ a) (ltb-true _ _ b) c tag.next x tag.spans tag.fits d) (λ b e.
    cond_either _ _ _ e (λ k d. absurd cc) (λ k d. long_takes starts rise least tag.value (ltb-false _ _ k) good c tag.next x tag.spans tag.fits d)))

-- ---- a frame that is spelled is read

long_tag_low : (form : Form) → HasCounts form → 247 ≤ long_tag form
long_tag_low forms.Same counts = omega arith
long_tag_low (forms.Stack1 operand) counts = omega arith
long_tag_low (forms.Chop count) counts = omega (arith, counts.1)
long_tag_low (forms.Append locals) counts = omega arith
long_tag_low (forms.Full locals operands) counts = omega arith

long_tag_high : (form : Form) → HasCounts form → long_tag form < 256
long_tag_high forms.Same counts = omega arith
long_tag_high (forms.Stack1 operand) counts = omega arith
long_tag_high (forms.Chop count) counts = omega arith
long_tag_high (forms.Append locals) counts = omega (arith, counts.1)
long_tag_high (forms.Full locals operands) counts = omega arith

-- reading by a tag of the extended forms
pub by_long_tag : (starts : List ℕ) (least tag : ℕ) → 247 ≤ tag → tag < 256 → (c mid : Cursor) (z : Result (Frame × Cursor) FrameError) → Spans c (u1 tag) mid → long_frame_at starts least tag mid ≡ z → frame_at starts least c ≡ z
unfolding frame_at
by_long_tag starts least tag low high c mid z s read =
    bind_again _ ((u1_reads errors.BadFrame).again c tag mid (omega (arith, high)) s)
    (cond_false _ (le-ltb tag 64 (omega (arith, low))) (cond_false _ (le-ltb tag 128 (omega (arith, low))) (cond_false _ (le-ltb tag 247 low) read)))

long_again : (starts : List ℕ) → IsStrictlyIncreasing starts → (least delta at : ℕ) (form : Form) (c next : Cursor) → delta < 2 ^ 16 → at < length starts → slice_index starts at ≡ least + delta
    → HasCounts form → AllByRecursion (IsType starts) (types_of form) → Spans c (u1 (long_tag form) ++ (u2 delta ++ form_bytes starts form)) next → frame_at starts least c ≡ Ok (record { at = at; form = form }, next)
unfolding long_frame_at
long_again starts rise least delta at form c next small number address counts types s =
    let tag = Spans-split (u1 (long_tag form)) (u2 delta ++ form_bytes starts form) c next s in
    let d = step_again (u2_reads errors.BadFrame) tag.0 delta (form_bytes starts form) next small tag.2 in
    by_long_tag starts least (long_tag form) (long_tag_low form counts) (long_tag_high form counts) c tag.0 _ tag.1
    (bind_again _ d.1 (bind_again _ (number_again starts tag.0.place (least + delta) at rise number address) (bind_again _ (form_again starts rise d.0 form next counts types d.2) refl)))

short_again : (starts : List ℕ) → IsStrictlyIncreasing starts → (least delta at tag : ℕ) (form : Form) (c next : Cursor) → IsShortTag delta form tag → at < length starts → slice_index starts at ≡ least + delta
    → AllByRecursion (IsType starts) (types_of form) → Spans c (u1 tag ++ form_bytes starts form) next → frame_at starts least c ≡ Ok (record { at = at; form = form }, next)
unfolding frame_at same_frame_at stack1_frame_at
short_again starts rise least delta at tag forms.Same c next short number address types s =
    bind_again _ ((u1_reads errors.BadFrame).again c tag next (omega (arith, short.0, short.1)) s)
    (cond_true _ (lt-ltb tag 64 (omega (arith, short.0, short.1))) (bind_again _ (number_again starts c.place (least + tag) at rise number (omega (arith, address, short.1))) refl))
short_again starts rise least delta at tag (forms.Stack1 operand) c next short number address types s =
    let t = step_again (u1_reads errors.BadFrame) c tag (type_bytes starts operand) next (omega (arith, short.0, short.1)) s in
    bind_again _ t.1
    (cond_false _ (le-ltb tag 64 (omega (arith, short.1))) (cond_true _ (lt-ltb tag 128 (omega (arith, short.0, short.1)))
    (bind_again _ (number_again starts c.place (least + (tag - 64)) at rise number (omega (arith, address, short.1))) (bind_again _ (stack1_again starts rise t.0 operand next types.0 t.2) refl))))
short_again starts rise least delta at tag (forms.Chop count) c next short number address types s = absurd short
short_again starts rise least delta at tag (forms.Append locals) c next short number address types s = absurd short
short_again starts rise least delta at tag (forms.Full locals operands) c next short number address types s = absurd short

pub frame_again : (starts : List ℕ) → IsStrictlyIncreasing starts → (least : ℕ) (c : Cursor) (frame : Frame) (text : List ℕ) (next : Cursor) → SpellsFrame starts least frame text → Spans c text next → frame_at starts least c ≡ Ok (frame, next)
frame_again starts rise least c frame text next spells s =
    let whole : Spans c (spells.head ++ form_bytes starts frame.form) next = subst (λ (t : List ℕ). Spans c t next) spells.spelled s in
    elim (spells.is_head) [
      | inl long ↦
          let same : spells.head ++ form_bytes starts frame.form ≡ u1 (long_tag frame.form) ++ (u2 spells.delta ++ form_bytes starts frame.form) = ap (λ (t : List ℕ). t ++ form_bytes starts frame.form) long.1 ∙ append_assoc (u1 (long_tag frame.form)) (u2 spells.delta) (form_bytes starts frame.form) in
          long_again starts rise least spells.delta frame.at frame.form c next long.0 spells.number spells.address spells.counts spells.types (subst (λ (t : List ℕ). Spans c t next) same whole)
      | inr short ↦
          short_again starts rise least spells.delta frame.at short.0 frame.form c next short.1 spells.number spells.address spells.types (subst (λ (t : List ℕ). Spans c (t ++ form_bytes starts frame.form) next) short.2 whole)
    ]

-- ---- frames one after the other

pub record AreFramed (starts : List ℕ) (count least : ℕ) (c : Cursor) (x : List Frame × Cursor) : Type 0 where
  pub text : List ℕ
  pub spans : Spans c text x.1
  pub spells : SpellsFrames starts least x.0 text
  pub all : length x.0 ≡ count

pub frames_take : (starts : List ℕ) → IsStrictlyIncreasing starts → (count least : ℕ) (c : Cursor) (x : List Frame × Cursor) → IsBytes c.rest → frames_at starts count least c ≡ Ok x → AreFramed starts count least c x
unfolding frames_at
frames_take starts rise zero least c x fits e =
    let made : ([], c) ≡ x = cc in
    subst (AreFramed starts 0 least c) made (record { text = []; spans = Spans-none c; spells = refl; all = refl })
frames_take starts rise (suc n) least c x fits e =
    let first = bind_ok e in
    let f = frame_takes starts rise least c first.0 fits first.1 in
    let others = bind_ok first.2 in
    let o = frames_take starts rise n (slice_index starts first.0.0.at + 1) first.0.1 others.0 (IsBytes-Spans f.spans fits) others.1 in
    let made : (first.0.0 ∷ others.0.0, others.0.1) ≡ x = cc (others.2) in
    subst (AreFramed starts (suc n) least c) made (record { text = f.text ++ o.text; spans = Spans-then f.spans o.spans; spells = (f.text, o.text, f.spells, o.spells, refl); all = ap suc o.all })

pub frames_again : (starts : List ℕ) → IsStrictlyIncreasing starts → (least : ℕ) (c : Cursor) (frames : List Frame) (text : List ℕ) (next : Cursor) → SpellsFrames starts least frames text → Spans c text next
    → frames_at starts (length frames) least c ≡ Ok (frames, next)
unfolding frames_at
frames_again starts rise least c [] text next spells s = ap (λ (m : Cursor). Ok ([], m)) (Spans-stay (subst (λ (t : List ℕ). Spans c t next) spells s))
frames_again starts rise least c (frame ∷ frames) text next spells s =
    let first = spells.0 in
    let others = spells.1 in
    let m = Spans-split first others c next (subst (λ (t : List ℕ). Spans c t next) spells.4 s) in
    bind_again _ (frame_again starts rise least c frame first m.0 spells.2 m.1)
    (bind_again _ (frames_again starts rise (slice_index starts frame.at + 1) m.0 frames others next spells.3 m.2) refl)
