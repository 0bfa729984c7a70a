-- The whole body: where reading it fails is its first fault, and the other way round.
use Rattle.std.proofs.Common.{◌≡◌, ℕ, ◌+◌, ◌^◌, ◌<◌, false, eqb, List, length, Result, Ok, Err, refl, sym, ap, subst, ◌∙◌, arith, inl, inr}
use Rattle.std.specs.Prelude.{All}
use Rattle.std.specs.List.Sorted.{IsStrictlyIncreasing}
use Rattle.std.proofs.lemmas.Bool.Decides.{nat_tests}
use Rattle.std.proofs.lemmas.Bool.{cases_lt}
use Rattle.std.proofs.lemmas.List.{get_or_past}
use Rattle.dj_cursor.specs.Reading.{Cursor, start_of}
use Rattle.dj_cursor.proofs.Bytes.{IsBytes}
use Rattle.dj_cursor.proofs.Steps.{bind_again, bind_err, bind_fails, never_err, cond_either, cond_false}
use Rattle.dj_ops.specs.declared.frames.Frame.{Frame}
use Rattle.dj_frames.specs.declared.read.FrameError.{FrameError}
use Rattle.dj_frames.specs.declared.read.FrameError.TheVariants as errors
use Rattle.dj_frames.specs.trusted.StackMaps.{IsStackMap}
use Rattle.dj_frames.specs.Refusals.{IsFault, IsFaultyFrame, least_after}
use Rattle.dj_frames.specs.Reading.{is_memory, frames_at, frames_read}
use Rattle.dj_frames.specs.Answers.{ReadsFrames}
use Rattle.dj_cursor.specs.Steps.{Gives}
use Rattle.dj_frames.proofs.FrameLaws.{frames_take, frames_again}
use Rattle.dj_frames.proofs.WholeLaws.{map_takes, map_again}
use Rattle.dj_frames.proofs.TypeFaults.{after, begins, u2_stops, u2_halts, u2_is}
use Rattle.dj_frames.proofs.FrameFaults.{frames_stop, frames_halt}

some_left : (n : ℕ) → eqb n 0 ≡ false → 0 < n
some_left n h = grind (arith, nat_tests)

pub map_stops : (body starts : List ℕ) (e : FrameError) → IsStrictlyIncreasing starts → IsBytes body → frames_read body starts ≡ Err e → IsFault body starts e
unfolding frames_read
map_stops body starts e rise fits h =
    bind_err h (λ r. inl (u2_stops (start_of body) e r)) (λ count r h.
    let b = begins (start_of body) count fits r in
    let two : count.1.place ≡ 2 = omega (arith, b.1) in
    inr (record {
      count = count.0;
      rest = count.1.rest;
      begins = b.0;
      cause = bind_err h
          (λ r2. let s = frames_stop starts rise count.0 0 count.1 e b.2 r2 in
          let here : s.mid.place ≡ 2 + length s.text = omega (arith, s.spans.place, two) in
          inl (record {
            found = s.found;
            more = s.mid.rest;
            begins = record { text = s.text; spells = s.spells; are = s.spans.parts };
            few = s.few;
            next = subst (λ (p : ℕ). IsFaultyFrame starts (least_after starts 0 s.found) p s.mid.rest e) here s.next;
          }))
          (λ frames r2 d. let f = frames_take starts rise count.0 0 count.1 frames b.2 r2 in
          cond_either _ _ _ d (λ k d. never_err d) (λ k d.
          let same : errors.BadFrame frames.1.place ≡ e = cc (d) in
          let here : frames.1.place ≡ 2 + length f.text = omega (arith, f.spans.place, two) in
          inr (record {
            found = frames.0;
            more = frames.1.rest;
            begins = record { text = f.text; spells = f.spells; are = f.spans.parts };
            all = f.all;
            left = some_left (length frames.1.rest) k;
            error = sym same ∙ ap errors.BadFrame here;
          })));
    }))

none_left : (n : ℕ) → 0 < n → eqb n 0 ≡ false
none_left n h = grind (arith, nat_tests)

pub map_halts : (body starts : List ℕ) (e : FrameError) → IsStrictlyIncreasing starts → IsFault body starts e → frames_read body starts ≡ Err e
unfolding frames_read
map_halts body starts e rise h =
    elim h [
      | inl cut ↦ bind_fails _ (u2_halts (start_of body) e cut)
      | inr faulty ↦
          let c = after (start_of body) 2 faulty.rest in
          bind_again _ (u2_is (start_of body) faulty.count faulty.rest faulty.begins) (elim (faulty.cause) [
            | inl frame ↦
                let mid : Cursor = record { place = 2 + length frame.begins.text; rest = frame.more } in
                bind_fails _ (frames_halt starts rise faulty.count 0 c mid frame.found frame.begins.text e frame.few frame.begins.spells (record { parts = frame.begins.are; place = refl }) frame.next)
            | inr more ↦
                let end : Cursor = record { place = 2 + length more.begins.text; rest = more.more } in
                let read : frames_at starts faulty.count 0 c ≡ Ok (more.found, end) = subst (λ (n : ℕ). frames_at starts n 0 c ≡ Ok (more.found, end)) more.all (frames_again starts rise 0 c more.found more.begins.text end more.begins.spells (record { parts = more.begins.are; place = refl })) in
                bind_again _ read (cond_false _ (none_left (length more.more) more.left) (ap Err (sym more.error)))
          ])
    ]

-- ---- laws

pub one_fault : (body starts : List ℕ) (a b : FrameError) → IsStrictlyIncreasing starts → IsFault body starts a → IsFault body starts b → a ≡ b
one_fault body starts a b rise p q =
    let one = map_halts body starts a rise p in
    let other = map_halts body starts b rise q in
    cc

pub no_stack_map_where_fault : (body starts : List ℕ) (e : FrameError) (frames : List Frame) → IsStrictlyIncreasing starts → IsFault body starts e → IsStackMap body starts frames → ⊥
no_stack_map_where_fault body starts e frames rise fault is =
    let one = map_halts body starts e rise fault in
    let other = map_again body starts frames rise is in
    absurd cc

pub are_bytes : (body : List ℕ) → All (λ byte. byte < 2 ^ 8) body → IsBytes body
are_bytes body h i =
    elim (cases_lt i (length body)) [
      | inl lt ↦ h i 0 lt
      | inr le ↦ rw (get_or_past body i 0 le) (omega arith)
    ]

either : (body starts : List ℕ) → IsStrictlyIncreasing starts → IsBytes body → ((e : FrameError) → IsFault body starts e → ⊥) → (r : Result (List Frame) FrameError) → frames_read body starts ≡ r → (frames : List Frame) × IsStackMap body starts frames
either body starts rise fits none (Ok frames) h = (frames, map_takes body starts frames rise fits h)
either body starts rise fits none (Err e) h = absurd (none e (map_stops body starts e rise fits h))

pub stack_map_where_no_fault : (body starts : List ℕ) → All (λ byte. byte < 2 ^ 8) body → IsStrictlyIncreasing starts → ((e : FrameError) → IsFault body starts e → ⊥) → (frames : List Frame) × IsStackMap body starts frames
stack_map_where_no_fault body starts bytes rise none = either body starts rise (are_bytes body bytes) none (frames_read body starts) refl

pub reads_frames : (body starts : List ℕ) (r : Result (List Frame) FrameError) → IsStrictlyIncreasing starts → IsBytes body → Gives is_memory (λ x. x) r (frames_read body starts) → ReadsFrames body starts r
reads_frames body starts (Ok frames) rise fits given = map_takes body starts frames rise fits given
reads_frames body starts (Err errors.Memory) rise fits given = tt
reads_frames body starts (Err (errors.BadFrame place)) rise fits given = map_stops body starts _ rise fits given
reads_frames body starts (Err (errors.NotAnInstruction place)) rise fits given = map_stops body starts _ rise fits given
