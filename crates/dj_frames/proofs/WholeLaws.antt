-- The whole body of a stack map: what is read is it, and it is read.
use Rattle.std.proofs.Common.{◌≡◌, ℕ, List, [], ◌++◌, length, Ok, refl, sym, ap, subst, ◌∙◌, append-nil, arith}
use Rattle.std.specs.List.Sorted.{IsStrictlyIncreasing}
use Rattle.std.proofs.lemmas.Bool.{eqb-true}
use Rattle.std.proofs.lemmas.List.{nil_from_length}
use Rattle.dj_cursor.specs.trusted.Spelling.{u2}
use Rattle.dj_cursor.specs.Reading.{Cursor, start_of}
use Rattle.dj_cursor.proofs.Bytes.{IsBytes}
use Rattle.dj_cursor.proofs.Steps.{bind_ok, bind_again, guard_ok, guard_again}
use Rattle.dj_cursor.proofs.Spans.{Spans, Spans-then, Spans-end, step_takes, step_again}
use Rattle.dj_cursor.proofs.Numbers.{u2_reads}
use Rattle.dj_ops.specs.declared.frames.Frame.{Frame}
use Rattle.dj_frames.specs.declared.read.FrameError.TheVariants as errors
use Rattle.dj_frames.specs.trusted.StackMaps.{IsStackMap}
use Rattle.dj_frames.specs.Reading.{frames_read}
use Rattle.dj_frames.proofs.FrameLaws.{frames_take, frames_again}

pub map_takes : (body starts : List ℕ) (frames : List Frame) → IsStrictlyIncreasing starts → IsBytes body → frames_read body starts ≡ Ok frames → IsStackMap body starts frames
unfolding frames_read
map_takes body starts frames rise fits e =
    let count = step_takes (u2_reads errors.BadFrame) (start_of body) fits e in
    let read = bind_ok count.rest in
    let f = frames_take starts rise count.value 0 count.next read.0 count.fits read.1 in
    let g = guard_ok _ read.2 in
    let nothing : read.0.1.rest ≡ [] = nil_from_length read.0.1.rest (eqb-true _ _ g.0) in
    let spans : Spans (start_of body) (u2 count.value ++ f.text) read.0.1 = Spans-then count.spans f.spans in
    let whole : body ≡ u2 count.value ++ f.text = Spans-end (start_of body) _ read.0.1 spans nothing in
    subst (IsStackMap body starts) g.1 (record {
      count = omega (arith, f.all, count.good);
      text = f.text;
      spells = f.spells;
      spelled = whole ∙ ap (λ (n : ℕ). u2 n ++ f.text) (sym f.all);
    })

pub map_again : (body starts : List ℕ) (frames : List Frame) → IsStrictlyIncreasing starts → IsStackMap body starts frames → frames_read body starts ≡ Ok frames
unfolding frames_read
map_again body starts frames rise is =
    let end : Cursor = record { place = length body; rest = [] } in
    let whole : Spans (start_of body) (u2 (length frames) ++ is.text) end = record { parts = is.spelled ∙ sym (append-nil _); place = omega (arith, ap length is.spelled) } in
    let count = step_again (u2_reads errors.BadFrame) (start_of body) (length frames) is.text end is.count whole in
    bind_again _ count.1 (bind_again _ (frames_again starts rise 0 count.0 frames is.text end is.spells count.2) (guard_again (errors.BadFrame (length body)) refl))

pub one_stack_map : (body starts : List ℕ) (a b : List Frame) → IsStrictlyIncreasing starts → IsStackMap body starts a → IsStackMap body starts b → a ≡ b
one_stack_map body starts a b rise p q =
    let one = map_again body starts a rise p in
    let other = map_again body starts b rise q in
    cc
