-- Where reading frames fails, and that a faulty frame is where it fails.
use Rattle.std.proofs.Common.{◌≡◌, ℕ, zero, suc, ◌+◌, ◌-◌, ◌<◌, ◌≤◌, ◌⊎◌, true, false, eqb, ltb, List, [], ◌∷◌, ◌++◌, length, Err, refl, sym, ap, subst, ◌∙◌, arith, inl, inr}
use Rattle.std.specs.Prelude.{slice_index, Contains}
use Rattle.std.specs.List.Sorted.{IsStrictlyIncreasing}
use Rattle.std.proofs.lemmas.Bool.{eqb-true, eq-eqb, ltb-true, ltb-false, lt-ltb, le-ltb}
use Rattle.std.proofs.lemmas.Bool.Decides.{nat_tests}
use Rattle.dj_cursor.specs.trusted.Spelling.{table_bytes}
use Rattle.dj_cursor.specs.Reading.{Cursor}
use Rattle.dj_cursor.proofs.Bytes.{IsBytes}
use Rattle.dj_cursor.proofs.Steps.{bind_again, bind_err, bind_fails, never_err, cond_either, cond_true, cond_false}
use Rattle.dj_cursor.proofs.Spans.{Spans, Spans-none, Spans-then, Spans-split, Spans-stay, IsBytes-Spans}
use Rattle.dj_cursor.proofs.Numbers.{u1_reads}
use Rattle.dj_cursor.proofs.Parts.{table_reads}
use Rattle.dj_ops.specs.declared.frames.Frame.{Frame}
use Rattle.dj_frames.specs.declared.read.FrameError.{FrameError}
use Rattle.dj_frames.specs.declared.read.FrameError.TheVariants as errors
use Rattle.dj_frames.specs.trusted.StackMaps.{type_bytes, SpellsFrames}
use Rattle.dj_frames.specs.Refusals.{least_after, IsCut, NoInstructionAt, IsFaultyType, IsFaultyTable, HasFaultyOperands, IsFaultyForm, HasFaultyDelta, IsFaultyFrame}
use Rattle.dj_frames.specs.Reading.{stack1_at, append_at, full_at, form_at, long_frame_at, same_frame_at, stack1_frame_at, frame_at, frames_at}
use Rattle.dj_frames.proofs.Numbers.{number_takes, number_fails, number_missing, number_there, there_from_number}
use Rattle.dj_frames.proofs.TypeLaws.{type_reads}
use Rattle.dj_frames.proofs.FrameLaws.{frame_takes, frame_again}
use Rattle.dj_frames.proofs.TypeFaults.{after, begins, u1_stops, u1_halts, u1_is, u2_stops, u2_halts, u2_is, type_stops, type_halts, types_stop, types_halt, table_stops, table_halts}

-- ---- forms

stack1_stops : (starts : List ℕ) (c : Cursor) (e : FrameError) → IsBytes c.rest → stack1_at starts c ≡ Err e → IsFaultyType starts c.place c.rest e
unfolding stack1_at
stack1_stops starts c e fits h = bind_err h (λ r. type_stops starts c e fits r) (λ x r d. never_err d)

stack1_halts : (starts : List ℕ) (c : Cursor) (e : FrameError) → IsFaultyType starts c.place c.rest e → stack1_at starts c ≡ Err e
unfolding stack1_at
stack1_halts starts c e h = bind_fails _ (type_halts starts c e h)

full_stops : (starts : List ℕ) → IsStrictlyIncreasing starts → (c : Cursor) (e : FrameError) → IsBytes c.rest → full_at starts c ≡ Err e → IsFaultyTable starts c.place c.rest e ⊎ HasFaultyOperands starts c.place c.rest e
unfolding full_at
full_stops starts rise c e fits h =
    bind_err h (λ r. inl (table_stops starts rise c e fits r)) (λ locals r h.
    let t = (table_reads errors.BadFrame (type_reads starts rise)).takes c locals fits r in
    bind_err h (λ r2. inr (record {
      locals = locals.0;
      more = locals.1.rest;
      few = t.1.0;
      good = t.1.1;
      begins = t.0.parts;
      operands = subst (λ (p : ℕ). IsFaultyTable starts p locals.1.rest e) t.0.place (table_stops starts rise locals.1 e (IsBytes-Spans t.0 fits) r2);
    })) (λ x r2 d. never_err d))

full_halts : (starts : List ℕ) → IsStrictlyIncreasing starts → (c : Cursor) (e : FrameError) → IsFaultyTable starts c.place c.rest e ⊎ HasFaultyOperands starts c.place c.rest e → full_at starts c ≡ Err e
unfolding full_at
full_halts starts rise c e h =
    elim h [
      | inl locals ↦ bind_fails _ (table_halts starts rise c e locals)
      | inr o ↦
          let next = after c (length (table_bytes (type_bytes starts) o.locals)) o.more in
          bind_again _ ((table_reads errors.BadFrame (type_reads starts rise)).again c o.locals next (o.few, o.good) (record { parts = o.begins; place = refl })) (bind_fails _ (table_halts starts rise next e o.operands))
    ]

form_stops : (starts : List ℕ) → IsStrictlyIncreasing starts → (tag : ℕ) → 247 ≤ tag → tag < 256 → (c : Cursor) (e : FrameError) → IsBytes c.rest → form_at starts tag c ≡ Err e → IsFaultyForm starts tag c.place c.rest e
unfolding form_at append_at
form_stops starts rise tag low high c e fits h =
    cond_either _ _ _ h (λ b d. inl (eqb-true _ _ b, stack1_stops starts c e fits d)) (λ (a : eqb tag 247 ≡ false) h.
    cond_either _ _ _ h (λ b d. never_err d) (λ (b : ltb tag 251 ≡ false) h.
    cond_either _ _ _ h (λ k d. never_err d) (λ (k : eqb tag 251 ≡ false) h.
    cond_either _ _ _ h (λ m d. bind_err d (λ r. inr (inl (grind (arith, nat_tests), omega (arith, ltb-true _ _ m), types_stop starts rise (tag - 251) c e fits r))) (λ x r d. never_err d)) (λ (m : ltb tag 255 ≡ false) h.
    let last : tag ≡ 255 = grind (arith, nat_tests) in
    inr (inr (last, full_stops starts rise c e fits h))))))

form_halts : (starts : List ℕ) → IsStrictlyIncreasing starts → (tag : ℕ) (c : Cursor) (e : FrameError) → IsFaultyForm starts tag c.place c.rest e → form_at starts tag c ≡ Err e
unfolding form_at append_at
form_halts starts rise tag c e h =
    elim h [
      | inl one ↦ cond_true _ (eq-eqb _ _ one.0) (stack1_halts starts c e one.1)
      | inr other ↦ elim other [
        | inl few ↦
            let a : eqb tag 247 ≡ false = grind (arith, nat_tests) in
            let b : ltb tag 251 ≡ false = le-ltb _ _ (omega (arith, few.0)) in
            let k : eqb tag 251 ≡ false = grind (arith, nat_tests) in
            let m : ltb tag 255 ≡ true = lt-ltb _ _ (omega (arith, few.1)) in
            cond_false _ a (cond_false _ b (cond_false _ k (cond_true _ m (bind_fails _ (types_halt starts rise (tag - 251) c e few.2)))))
        | inr full ↦
            let a : eqb tag 247 ≡ false = grind (arith, nat_tests) in
            let b : ltb tag 251 ≡ false = le-ltb _ _ (omega (arith, full.0)) in
            let k : eqb tag 251 ≡ false = grind (arith, nat_tests) in
            let m : ltb tag 255 ≡ false = le-ltb _ _ (omega (arith, full.0)) in
            cond_false _ a (cond_false _ b (cond_false _ k (cond_false _ m (full_halts starts rise c e full.1))))
      ]
    ]

-- ---- a frame

long_stops : (starts : List ℕ) → IsStrictlyIncreasing starts → (least tag : ℕ) → 247 ≤ tag → tag < 256 → (c : Cursor) (e : FrameError) → IsBytes c.rest → long_frame_at starts least tag c ≡ Err e
    → IsCut c.place c.rest e ⊎ HasFaultyDelta starts least tag c.place c.rest e
unfolding long_frame_at
long_stops starts rise least tag low high c e fits h =
    bind_err h (λ r. inl (u2_stops c e r)) (λ delta r h.
    let b = begins c delta fits r in
    bind_err h (λ r2. inr (record { delta = delta.0; more = delta.1.rest; begins = b.0; cause = inl (number_missing starts c.place (least + delta.0) e r2) })) (λ at r2 h.
    let is = number_takes starts c.place (least + delta.0) at r2 in
    bind_err h (λ r3. inr (record {
      delta = delta.0;
      more = delta.1.rest;
      begins = b.0;
      cause = inr (there_from_number starts at (least + delta.0) is.0 is.1, subst (λ (p : ℕ). IsFaultyForm starts tag p delta.1.rest e) b.1 (form_stops starts rise tag low high delta.1 e b.2 r3));
    })) (λ x r3 d. never_err d)))

long_halts : (starts : List ℕ) → IsStrictlyIncreasing starts → (least tag : ℕ) (c : Cursor) (e : FrameError) → IsCut c.place c.rest e ⊎ HasFaultyDelta starts least tag c.place c.rest e → long_frame_at starts least tag c ≡ Err e
unfolding long_frame_at
long_halts starts rise least tag c e h =
    elim h [
      | inl cut ↦ bind_fails _ (u2_halts c e cut)
      | inr d ↦ bind_again _ (u2_is c d.delta d.more d.begins) (elim (d.cause) [
        | inl none ↦ bind_fails _ (number_fails starts c.place (least + d.delta) none.0 ∙ ap Err (sym none.1))
        | inr form ↦
            let at = number_there starts c.place (least + d.delta) rise form.0 in
            bind_again _ at.1 (bind_fails _ (form_halts starts rise tag (after c 2 d.more) e form.1))
      ])
    ]

same_stops : (starts : List ℕ) (place address : ℕ) (c : Cursor) (e : FrameError) → same_frame_at starts place address c ≡ Err e → NoInstructionAt starts address place e
unfolding same_frame_at
same_stops starts place address c e h = bind_err h (λ r. number_missing starts place address e r) (λ x r d. never_err d)

stack1_frame_stops : (starts : List ℕ) (place address : ℕ) (c : Cursor) (e : FrameError) → IsBytes c.rest → stack1_frame_at starts place address c ≡ Err e
    → NoInstructionAt starts address place e ⊎ (Contains starts address × IsFaultyType starts c.place c.rest e)
unfolding stack1_frame_at
stack1_frame_stops starts place address c e fits h =
    bind_err h (λ r. inl (number_missing starts place address e r)) (λ at r h.
    let is = number_takes starts place address at r in
    bind_err h (λ r2. inr (there_from_number starts at address is.0 is.1, stack1_stops starts c e fits r2)) (λ x r2 d. never_err d))

pub frame_stops : (starts : List ℕ) → IsStrictlyIncreasing starts → (least : ℕ) (c : Cursor) (e : FrameError) → IsBytes c.rest → frame_at starts least c ≡ Err e → IsFaultyFrame starts least c.place c.rest e
unfolding frame_at
frame_stops starts rise least c e fits h =
    bind_err h (λ r. let u = u1_stops c e r in subst (λ (l : List ℕ). IsFaultyFrame starts least c.place l e) (sym u.0) u.1) (λ tag r h.
    let t = (u1_reads errors.BadFrame).takes c tag fits r in
    let here : tag.1.place ≡ c.place + 1 = omega (arith, t.0.place) in
    let more = IsBytes-Spans t.0 fits in
    let good : tag.0 < 256 = omega (arith, t.1) in
    subst (λ (l : List ℕ). IsFaultyFrame starts least c.place l e) (sym t.0.parts)
    (cond_either _ _ _ h (λ b d. inl (omega (arith, ltb-true _ _ b), same_stops starts c.place (least + tag.0) tag.1 e d)) (λ a h.
    cond_either _ _ _ h (λ b d. inr (inl (
      ltb-false _ _ a,
      omega (arith, ltb-true _ _ b),
      elim (stack1_frame_stops starts c.place (least + (tag.0 - 64)) tag.1 e more d) [
        | inl none ↦ inl none
        | inr type ↦ inr (type.0, subst (λ (p : ℕ). IsFaultyType starts p tag.1.rest e) here type.1)
      ],
    ))) (λ b h.
    cond_either _ _ _ h (λ k d. let same : errors.BadFrame c.place ≡ e = cc (d) in inr (inr (inl (ltb-false _ _ b, omega (arith, ltb-true _ _ k), sym same)))) (λ k h.
    inr (inr (inr (
      ltb-false _ _ k,
      elim (long_stops starts rise least tag.0 (ltb-false _ _ k) good tag.1 e more h) [
        | inl cut ↦ inl (subst (λ (p : ℕ). IsCut p tag.1.rest e) here cut)
        | inr delta ↦ inr (subst (λ (p : ℕ). HasFaultyDelta starts least tag.0 p tag.1.rest e) here delta)
      ],
    ))))))))

frame_halts_at : (starts : List ℕ) → IsStrictlyIncreasing starts → (least : ℕ) (c : Cursor) (rest : List ℕ) (e : FrameError) → c.rest ≡ rest → IsFaultyFrame starts least c.place rest e → frame_at starts least c ≡ Err e
unfolding frame_at same_frame_at stack1_frame_at
frame_halts_at starts rise least c [] e is h = bind_fails _ (u1_halts c e is h)
frame_halts_at starts rise least c (tag ∷ more) e is h =
    elim h [
      | inl same ↦ bind_again _ (u1_is c tag more is) (cond_true _ (lt-ltb tag 64 (omega (arith, same.0))) (bind_fails _ (number_fails starts c.place (least + tag) same.1.0 ∙ ap Err (sym same.1.1))))
      | inr other ↦ elim other [
        | inl one ↦ bind_again _ (u1_is c tag more is) (cond_false _ (le-ltb tag 64 one.0) (cond_true _ (lt-ltb tag 128 (omega (arith, one.1)))
            (elim (one.2) [
              | inl none ↦ bind_fails _ (number_fails starts c.place (least + (tag - 64)) none.0 ∙ ap Err (sym none.1))
              | inr type ↦
                  let at = number_there starts c.place (least + (tag - 64)) rise type.0 in
                  bind_again _ at.1 (bind_fails _ (stack1_halts starts (after c 1 more) e type.1))
            ])))
        | inr other ↦ elim other [
          | inl none ↦ bind_again _ (u1_is c tag more is) (cond_false _ (le-ltb tag 64 (omega (arith, none.0))) (cond_false _ (le-ltb tag 128 none.0) (cond_true _ (lt-ltb tag 247 (omega (arith, none.1))) (ap Err (sym none.2)))))
          | inr long ↦ bind_again _ (u1_is c tag more is) (cond_false _ (le-ltb tag 64 (omega (arith, long.0))) (cond_false _ (le-ltb tag 128 (omega (arith, long.0))) (cond_false _ (le-ltb tag 247 long.0) (long_halts starts rise least tag (after c 1 more) e long.1))))
        ]
      ]
    ]

pub frame_halts : (starts : List ℕ) → IsStrictlyIncreasing starts → (least : ℕ) (c : Cursor) (e : FrameError) → IsFaultyFrame starts least c.place c.rest e → frame_at starts least c ≡ Err e
frame_halts starts rise least c e h = frame_halts_at starts rise least c c.rest e refl h

-- ---- frames one after the other

-- after fewer frames than this many, the next is faulty
pub record FramesStop (starts : List ℕ) (count least : ℕ) (c : Cursor) (e : FrameError) : Type 0 where
  pub found : List Frame
  pub text : List ℕ
  pub mid : Cursor
  pub spans : Spans c text mid
  pub spells : SpellsFrames starts least found text
  pub few : length found < count
  pub next : IsFaultyFrame starts (least_after starts least found) mid.place mid.rest e

pub frames_stop : (starts : List ℕ) → IsStrictlyIncreasing starts → (count least : ℕ) (c : Cursor) (e : FrameError) → IsBytes c.rest → frames_at starts count least c ≡ Err e → FramesStop starts count least c e
unfolding frames_at
frames_stop starts rise zero least c e fits h = never_err h
frames_stop starts rise (suc n) least c e fits h =
    bind_err h
    (λ r. record { found = []; text = []; mid = c; spans = Spans-none c; spells = refl; few = omega arith; next = frame_stops starts rise least c e fits r })
    (λ first r h.
    let f = frame_takes starts rise least c first fits r in
    bind_err h
    (λ r2. let o = frames_stop starts rise n (slice_index starts first.0.at + 1) first.1 e (IsBytes-Spans f.spans fits) r2 in
    record { found = first.0 ∷ o.found; text = f.text ++ o.text; mid = o.mid; spans = Spans-then f.spans o.spans; spells = (f.text, o.text, f.spells, o.spells, refl); few = omega (arith, o.few); next = o.next })
    (λ others r2 d. never_err d))

pub frames_halt : (starts : List ℕ) → IsStrictlyIncreasing starts → (count least : ℕ) (c mid : Cursor) (found : List Frame) (text : List ℕ) (e : FrameError) → length found < count → SpellsFrames starts least found text → Spans c text mid
    → IsFaultyFrame starts (least_after starts least found) mid.place mid.rest e → frames_at starts count least c ≡ Err e
unfolding frames_at
frames_halt starts rise zero least c mid found text e few spells s next = absurd (omega (arith, few))
frames_halt starts rise (suc n) least c mid [] text e few spells s next =
    let stay : c ≡ mid = Spans-stay (subst (λ (t : List ℕ). Spans c t mid) spells s) in
    bind_fails _ (frame_halts starts rise least c e (subst (λ (m : Cursor). IsFaultyFrame starts least m.place m.rest e) (sym stay) next))
frames_halt starts rise (suc n) least c mid (frame ∷ found) text e few spells s next =
    let m = Spans-split spells.0 spells.1 c mid (subst (λ (t : List ℕ). Spans c t mid) spells.4 s) in
    bind_again _ (frame_again starts rise least c frame spells.0 m.0 spells.2 m.1)
    (bind_fails _ (frames_halt starts rise n (slice_index starts frame.at + 1) m.0 mid found spells.1 e (omega (arith, few)) spells.3 m.2 next))
