-- Reading frames one after the other, as a loop does.
use Rattle.std.proofs.Common.{◌≡◌, ℕ, suc, ◌-◌, ◌+◌, ◌≤◌, ◌<◌, List, [], ◌∷◌, ◌++◌, Result, Ok, sym, ap, subst, ◌∙◌, arith}
use Rattle.std.specs.Prelude.{slice_index}
use Rattle.std.proofs.lemmas.List.{append-nil}
use Rattle.dj_cursor.proofs.Steps.{fails_then}
use Rattle.dj_cursor.proofs.Loop.{with_prefix, with_prefix-next}
use Rattle.dj_cursor.specs.Steps.{◌>>=◌, Fails}
use Rattle.dj_cursor.specs.Reading.{Cursor}
use Rattle.dj_ops.specs.declared.frames.Frame.{Frame}
use Rattle.dj_frames.specs.declared.read.FrameError.{FrameError}
use Rattle.dj_frames.specs.Reading.{is_memory, frame_at, frames_at}

pub frames_go_on : (starts : List ℕ) (prefix : List Frame) (count i least : ℕ) (c : Cursor) (f : Frame) (after : Cursor) (total : Result (List Frame × Cursor) FrameError) → i < count → frame_at starts least c ≡ Ok (f, after)
    → with_prefix prefix (frames_at starts (count - i) least c) ≡ total → with_prefix (prefix ++ f ∷ []) (frames_at starts (count - (i + 1)) (slice_index starts f.at + 1) after) ≡ total
unfolding frames_at
frames_go_on starts prefix count i least c f after total lt h so_far =
    let k : count - i ≡ suc (count - (i + 1)) = omega arith in
    let one : with_prefix prefix (frames_at starts (count - i) least c) ≡ with_prefix (prefix ++ f ∷ []) (frames_at starts (count - (i + 1)) (slice_index starts f.at + 1) after) = rw (k, h) (with_prefix-next prefix f (frames_at starts (count - (i + 1)) (slice_index starts f.at + 1) after)) in
    sym one ∙ so_far

pub frames_end : (starts : List ℕ) (e : FrameError) (prefix : List Frame) (count i least : ℕ) (c : Cursor) (total : Result (List Frame × Cursor) FrameError) → i < count → Fails (is_memory e) e (frame_at starts least c)
    → with_prefix prefix (frames_at starts (count - i) least c) ≡ total → Fails (is_memory e) e total
unfolding frames_at
frames_end starts e prefix count i least c total lt h so_far =
    let k : count - i ≡ suc (count - (i + 1)) = omega arith in
    let rest = λ (first : Frame × Cursor). frames_at starts (count - (i + 1)) (slice_index starts first.0.at + 1) first.1 >>= λ others. Ok (first.0 ∷ others.0, others.1) in
    let add = λ (x : List Frame × Cursor). Ok (prefix ++ x.0, x.1) in
    let failed : Fails (is_memory e) e (with_prefix prefix (frames_at starts (suc (count - (i + 1))) least c)) = fails_then (is_memory e) e (frame_at starts least c >>= rest) add (fails_then (is_memory e) e (frame_at starts least c) rest h) in
    subst (λ t. Fails (is_memory e) e t) so_far (rw k failed)

pub frames_done : (starts : List ℕ) (prefix : List Frame) (count i least : ℕ) (c : Cursor) (total : Result (List Frame × Cursor) FrameError) → count ≤ i → with_prefix prefix (frames_at starts (count - i) least c) ≡ total → total ≡ Ok (prefix, c)
unfolding frames_at
frames_done starts prefix count i least c total le so_far =
    let k : count - i ≡ 0 = omega arith in
    let one : with_prefix prefix (frames_at starts (count - i) least c) ≡ Ok (prefix, c) = rw k (ap (λ ns. Ok (ns, c)) (append-nil prefix)) in
    sym so_far ∙ one
