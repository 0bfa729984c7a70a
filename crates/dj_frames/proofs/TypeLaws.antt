-- A verification type that is read is spelled so, and one that is spelled so is read.
use Rattle.std.proofs.Common.{◌≡◌, ℕ, ◌^◌, ◌<◌, List, length, Ok, refl, sym, ap, subst, arith}
use Rattle.std.specs.Prelude.{slice_index}
use Rattle.std.specs.List.Sorted.{IsStrictlyIncreasing}
use Rattle.std.proofs.lemmas.Bool.{eqb-true}
use Rattle.dj_cursor.specs.trusted.Spelling.{u1, u2}
use Rattle.dj_cursor.specs.Reading.{Cursor}
use Rattle.dj_cursor.proofs.Bytes.{IsBytes}
use Rattle.dj_cursor.proofs.Steps.{bind_ok, bind_again, cond_either}
use Rattle.dj_cursor.proofs.Spans.{Spans, Spans-then, Reads, step_takes, step_again}
use Rattle.dj_cursor.proofs.Numbers.{u1_reads, u2_reads}
use Rattle.dj_ops.specs.declared.frames.VType.{VType}
use Rattle.dj_ops.specs.declared.frames.VType.TheVariants as types
use Rattle.dj_frames.specs.declared.read.FrameError.TheVariants as errors
use Rattle.dj_frames.specs.trusted.StackMaps.{type_bytes, IsType}
use Rattle.dj_frames.specs.Reading.{offset_at, plain_type_at, bare_type_at, object_at, uninitialized_at, type_at}
use Rattle.dj_frames.proofs.Numbers.{number_takes, number_again}

-- ---- addresses

abbrev pub IsAddressed : List ℕ → ℕ → Type 0
IsAddressed starts number = (number < length starts) × (slice_index starts number < 2 ^ 16)

abbrev pub address_bytes : List ℕ → ℕ → List ℕ
address_bytes starts number = u2 (slice_index starts number)

offset_takes : (starts : List ℕ) (c : Cursor) (x : ℕ × Cursor) → IsBytes c.rest → offset_at starts c ≡ Ok x → Spans c (address_bytes starts x.0) x.1 × IsAddressed starts x.0
unfolding offset_at
offset_takes starts c x fits e =
    let address = step_takes (u2_reads errors.BadFrame) c fits e in
    let number = bind_ok address.rest in
    let is = number_takes starts c.place address.value number.0 number.1 in
    let made : (number.0, address.next) ≡ x = cc (number.2) in
    subst (λ (y : ℕ × Cursor). Spans c (address_bytes starts y.0) y.1 × IsAddressed starts y.0) made
    (subst (λ (a : ℕ). Spans c (u2 a) address.next) (sym is.1) address.spans, (is.0, omega (arith, is.1, address.good)))

offset_again : (starts : List ℕ) → IsStrictlyIncreasing starts → (c : Cursor) (n : ℕ) (next : Cursor) → IsAddressed starts n → Spans c (address_bytes starts n) next → offset_at starts c ≡ Ok (n, next)
unfolding offset_at
offset_again starts rise c n next good s =
    bind_again _ ((u2_reads errors.BadFrame).again c (slice_index starts n) next good.1 s) (bind_again _ (number_again starts c.place (slice_index starts n) n rise good.0 refl) refl)

pub offset_reads : (starts : List ℕ) → IsStrictlyIncreasing starts → Reads (offset_at starts) (address_bytes starts) (IsAddressed starts)
offset_reads starts rise = record { takes = offset_takes starts; again = offset_again starts rise }

-- ---- types of one byte

abbrev IsPlain : List ℕ → ℕ → VType → Type 0
IsPlain starts tag type = (type_bytes starts type ≡ u1 tag) × IsType starts type

plain_takes : (starts : List ℕ) (place tag : ℕ) (type : VType) → plain_type_at place tag ≡ Ok type → IsPlain starts tag type
unfolding plain_type_at
plain_takes starts place tag type h =
    cond_either _ _ _ h (λ b d. let same : types.Top ≡ type = cc (d) in subst (IsPlain starts tag) same (ap u1 (sym (eqb-true tag 0 b)), tt)) (λ b h.
    cond_either _ _ _ h (λ b d. let same : types.Integer ≡ type = cc (d) in subst (IsPlain starts tag) same (ap u1 (sym (eqb-true tag 1 b)), tt)) (λ b h.
    cond_either _ _ _ h (λ b d. let same : types.Float ≡ type = cc (d) in subst (IsPlain starts tag) same (ap u1 (sym (eqb-true tag 2 b)), tt)) (λ b h.
    cond_either _ _ _ h (λ b d. let same : types.Double ≡ type = cc (d) in subst (IsPlain starts tag) same (ap u1 (sym (eqb-true tag 3 b)), tt)) (λ b h.
    cond_either _ _ _ h (λ b d. let same : types.Long ≡ type = cc (d) in subst (IsPlain starts tag) same (ap u1 (sym (eqb-true tag 4 b)), tt)) (λ b h.
    cond_either _ _ _ h (λ b d. let same : types.Null ≡ type = cc (d) in subst (IsPlain starts tag) same (ap u1 (sym (eqb-true tag 5 b)), tt)) (λ b h.
    cond_either _ _ _ h (λ b d. let same : types.UninitializedThis ≡ type = cc (d) in subst (IsPlain starts tag) same (ap u1 (sym (eqb-true tag 6 b)), tt)) (λ b h. absurd cc)))))))

-- ---- types

abbrev Typed : List ℕ → Cursor → VType × Cursor → Type 0
Typed starts c x = Spans c (type_bytes starts x.0) x.1 × IsType starts x.0

object_takes : (starts : List ℕ) (c mid : Cursor) (x : VType × Cursor) → Spans c (u1 7) mid → IsBytes mid.rest → object_at mid ≡ Ok x → Typed starts c x
unfolding object_at
object_takes starts c mid x tag fits e =
    let index = step_takes (u2_reads errors.BadFrame) mid fits e in
    let made : (types.Object index.value, index.next) ≡ x = cc (index.rest) in
    subst (Typed starts c) made (Spans-then tag index.spans, index.good)

uninitialized_takes : (starts : List ℕ) (c mid : Cursor) (x : VType × Cursor) → Spans c (u1 8) mid → IsBytes mid.rest → uninitialized_at starts mid ≡ Ok x → Typed starts c x
unfolding uninitialized_at
uninitialized_takes starts c mid x tag fits e =
    let number = bind_ok e in
    let t = offset_takes starts mid number.0 fits number.1 in
    let made : (types.Uninitialized number.0.0, number.0.1) ≡ x = cc (number.2) in
    subst (Typed starts c) made (Spans-then tag t.0, t.1)

bare_takes : (starts : List ℕ) (c mid : Cursor) (tag : ℕ) (x : VType × Cursor) → Spans c (u1 tag) mid → bare_type_at c.place tag mid ≡ Ok x → Typed starts c x
unfolding bare_type_at
bare_takes starts c mid tag x s e =
    let type = bind_ok e in
    let plain = plain_takes starts c.place tag type.0 type.1 in
    let made : (type.0, mid) ≡ x = cc (type.2) in
    subst (Typed starts c) made (subst (λ (t : List ℕ). Spans c t mid) (sym plain.0) s, plain.1)

type_takes : (starts : List ℕ) (c : Cursor) (x : VType × Cursor) → IsBytes c.rest → type_at starts c ≡ Ok x → Typed starts c x
unfolding type_at
type_takes starts c x fits e =
    let tag = step_takes (u1_reads errors.BadFrame) c fits e in
    let at = λ (k : ℕ) (same : tag.value ≡ k). subst (λ (t : ℕ). Spans c (u1 t) tag.next) same tag.spans in
    cond_either _ _ _ tag.rest (λ b d. object_takes starts c tag.next x (at 7 (eqb-true _ _ b)) tag.fits d) (λ b d.
    cond_either _ _ _ d (λ b d. uninitialized_takes starts c tag.next x (at 8 (eqb-true _ _ b)) tag.fits d) (λ b d.
    bare_takes starts c tag.next tag.value x tag.spans d))

type_again : (starts : List ℕ) → IsStrictlyIncreasing starts → (c : Cursor) (x : VType) (next : Cursor) → IsType starts x → Spans c (type_bytes starts x) next → type_at starts c ≡ Ok (x, next)
unfolding type_at bare_type_at plain_type_at object_at uninitialized_at
type_again starts rise c types.Top next good s = bind_again _ ((u1_reads errors.BadFrame).again c 0 next (omega arith) s) refl
type_again starts rise c types.Integer next good s = bind_again _ ((u1_reads errors.BadFrame).again c 1 next (omega arith) s) refl
type_again starts rise c types.Float next good s = bind_again _ ((u1_reads errors.BadFrame).again c 2 next (omega arith) s) refl
type_again starts rise c types.Double next good s = bind_again _ ((u1_reads errors.BadFrame).again c 3 next (omega arith) s) refl
type_again starts rise c types.Long next good s = bind_again _ ((u1_reads errors.BadFrame).again c 4 next (omega arith) s) refl
type_again starts rise c types.Null next good s = bind_again _ ((u1_reads errors.BadFrame).again c 5 next (omega arith) s) refl
type_again starts rise c types.UninitializedThis next good s = bind_again _ ((u1_reads errors.BadFrame).again c 6 next (omega arith) s) refl
type_again starts rise c (types.Object index) next good s =
    let tag = step_again (u1_reads errors.BadFrame) c 7 (u2 index) next (omega arith) s in
    bind_again _ tag.1 (bind_again _ ((u2_reads errors.BadFrame).again tag.0 index next good tag.2) refl)
type_again starts rise c (types.Uninitialized number) next good s =
    let tag = step_again (u1_reads errors.BadFrame) c 8 (address_bytes starts number) next (omega arith) s in
    bind_again _ tag.1 (bind_again _ (offset_again starts rise tag.0 number next good tag.2) refl)

pub type_reads : (starts : List ℕ) → IsStrictlyIncreasing starts → Reads (type_at starts) (type_bytes starts) (IsType starts)
type_reads starts rise = record { takes = type_takes starts; again = type_again starts rise }
