-- Where reading verification types fails, and that a faulty type is where it fails.
use Rattle.std.proofs.Common.{◌≡◌, ℕ, ◌+◌, ◌<◌, ◌⊎◌, false, eqb, List, [], ◌∷◌, length, Ok, Err, refl, sym, ap, subst, ◌∙◌, arith, inl, inr}
use Rattle.std.specs.List.{flat_map}
use Rattle.std.specs.List.Sorted.{IsStrictlyIncreasing}
use Rattle.std.specs.Int.{w8, w16}
use Rattle.std.proofs.lemmas.Bool.{eqb-true, eq-eqb}
use Rattle.std.proofs.lemmas.Bool.Decides.{nat_tests}
use Rattle.std.proofs.lemmas.List.{nil_from_length}
use Rattle.dj_cursor.specs.declared.cursor.Cut.{Cut}
use Rattle.dj_cursor.specs.Steps.{lifted}
use Rattle.dj_cursor.specs.Reading.{Cursor, u1_at, u2_at, many_at, table_at}
use Rattle.dj_cursor.proofs.Bytes.{IsBytes}
use Rattle.dj_cursor.proofs.Steps.{bind_again, bind_err, bind_fails, lifted_err, never_err, cond_either, cond_true, cond_false}
use Rattle.dj_cursor.proofs.Spans.{Spans, IsBytes-Spans}
use Rattle.dj_cursor.proofs.Numbers.{u1_reads, u2_reads, bytes_reads, number_cut, number_short}
use Rattle.dj_cursor.proofs.Parts.{many_stops, many_halt}
use Rattle.dj_frames.specs.declared.read.FrameError.{FrameError}
use Rattle.dj_frames.specs.declared.read.FrameError.TheVariants as errors
use Rattle.dj_frames.specs.trusted.StackMaps.{type_bytes}
use Rattle.dj_frames.specs.Refusals.{BeginsWithNumber, IsCut, HasFaultyAddress, IsFaultyType, AreFaultyTypes, IsFaultyTable}
use Rattle.dj_frames.specs.Reading.{offset_at, plain_type_at, bare_type_at, object_at, uninitialized_at, type_at}
use Rattle.dj_frames.proofs.Numbers.{number_fails, number_missing}
use Rattle.dj_frames.proofs.TypeLaws.{type_reads}

-- ---- numbers

-- after this many bytes
abbrev pub after : Cursor → ℕ → List ℕ → Cursor
after c n more = record { place = c.place + n; rest = more }

pub u2_stops : (c : Cursor) (e : FrameError) → u2_at errors.BadFrame c ≡ Err e → IsCut c.place c.rest e
u2_stops c e h =
    let l = lifted_err h in
    let n = number_cut w16 c l.0 l.1 in
    (n.0, sym l.2 ∙ ap errors.BadFrame n.1)

pub u2_halts : (c : Cursor) (e : FrameError) → IsCut c.place c.rest e → u2_at errors.BadFrame c ≡ Err e
u2_halts c e h = ap (lifted (λ (x : Cut). errors.BadFrame x.0)) (number_short w16 c h.0) ∙ ap Err (sym h.1)

pub u2_is : (c : Cursor) (number : ℕ) (more : List ℕ) → BeginsWithNumber c.rest number more → u2_at errors.BadFrame c ≡ Ok (number, after c 2 more)
u2_is c number more begins = (u2_reads errors.BadFrame).again c number (after c 2 more) begins.fits (record { parts = begins.are; place = refl })

pub u1_stops : (c : Cursor) (e : FrameError) → u1_at errors.BadFrame c ≡ Err e → (c.rest ≡ []) × (e ≡ errors.BadFrame c.place)
u1_stops c e h =
    let l = lifted_err h in
    let n = number_cut w8 c l.0 l.1 in
    (nil_from_length c.rest (omega (arith, n.0)), sym l.2 ∙ ap errors.BadFrame n.1)

pub u1_halts : (c : Cursor) (e : FrameError) → c.rest ≡ [] → e ≡ errors.BadFrame c.place → u1_at errors.BadFrame c ≡ Err e
u1_halts c e nothing is = ap (lifted (λ (x : Cut). errors.BadFrame x.0)) (number_short w8 c (omega (arith, ap length nothing))) ∙ ap Err (sym is)

pub u1_is : (c : Cursor) (tag : ℕ) (more : List ℕ) → c.rest ≡ tag ∷ more → u1_at errors.BadFrame c ≡ Ok (tag, after c 1 more)
u1_is c tag more are =
    let spans : Spans c (tag ∷ []) (after c 1 more) = record { parts = are; place = refl } in
    ap (lifted (λ (x : Cut). errors.BadFrame x.0)) (bind_again _ ((bytes_reads 1).again c (tag ∷ []) (after c 1 more) refl spans) (ap (λ (k : ℕ). Ok (k, after c 1 more)) (omega arith)))

-- a number that was read
pub begins : (c : Cursor) (x : ℕ × Cursor) → IsBytes c.rest → u2_at errors.BadFrame c ≡ Ok x → BeginsWithNumber c.rest x.0 x.1.rest × (x.1.place ≡ c.place + 2) × IsBytes x.1.rest
begins c x fits r =
    let t = (u2_reads errors.BadFrame).takes c x fits r in
    (record { fits = t.1; are = t.0.parts }, omega (arith, t.0.place), IsBytes-Spans t.0 fits)

-- ---- addresses

offset_stops : (starts : List ℕ) (c : Cursor) (e : FrameError) → IsBytes c.rest → offset_at starts c ≡ Err e → IsCut c.place c.rest e ⊎ HasFaultyAddress starts c.place c.rest e
unfolding offset_at
offset_stops starts c e fits h =
    bind_err h (λ r. inl (u2_stops c e r)) (λ address r h.
    bind_err h (λ r2. inr (record { address = address.0; more = address.1.rest; begins = (begins c address fits r).0; none = number_missing starts c.place address.0 e r2 })) (λ n r2 d. absurd cc))

offset_halts : (starts : List ℕ) (c : Cursor) (e : FrameError) → HasFaultyAddress starts c.place c.rest e → offset_at starts c ≡ Err e
unfolding offset_at
offset_halts starts c e h =
    bind_again _ (u2_is c h.address h.more h.begins) (bind_fails _ (number_fails starts c.place h.address h.none.0 ∙ ap Err (sym h.none.1)))

-- ---- verification types

plain_stops : (place tag : ℕ) (e : FrameError) → plain_type_at place tag ≡ Err e → (6 < tag) × (e ≡ errors.BadFrame place)
unfolding plain_type_at
plain_stops place tag e h =
    cond_either _ _ _ h (λ b d. never_err d) (λ (b0 : eqb tag 0 ≡ false) h.
    cond_either _ _ _ h (λ b d. never_err d) (λ (b1 : eqb tag 1 ≡ false) h.
    cond_either _ _ _ h (λ b d. never_err d) (λ (b2 : eqb tag 2 ≡ false) h.
    cond_either _ _ _ h (λ b d. never_err d) (λ (b3 : eqb tag 3 ≡ false) h.
    cond_either _ _ _ h (λ b d. never_err d) (λ (b4 : eqb tag 4 ≡ false) h.
    cond_either _ _ _ h (λ b d. never_err d) (λ (b5 : eqb tag 5 ≡ false) h.
    cond_either _ _ _ h (λ b d. never_err d) (λ (b6 : eqb tag 6 ≡ false) h.
    let same : errors.BadFrame place ≡ e = cc (h) in
    (grind (arith, nat_tests), sym same))))))))

plain_halts : (place tag : ℕ) → 6 < tag → plain_type_at place tag ≡ Err (errors.BadFrame place)
unfolding plain_type_at
plain_halts place tag large =
    let a : eqb tag 0 ≡ false = grind (arith, nat_tests) in
    let b : eqb tag 1 ≡ false = grind (arith, nat_tests) in
    let c : eqb tag 2 ≡ false = grind (arith, nat_tests) in
    let d : eqb tag 3 ≡ false = grind (arith, nat_tests) in
    let e : eqb tag 4 ≡ false = grind (arith, nat_tests) in
    let f : eqb tag 5 ≡ false = grind (arith, nat_tests) in
    let g : eqb tag 6 ≡ false = grind (arith, nat_tests) in
    cond_false _ a (cond_false _ b (cond_false _ c (cond_false _ d (cond_false _ e (cond_false _ f (cond_false _ g refl))))))

-- a fault of what follows the tag is one of the type
tag_then : (starts : List ℕ) (c : Cursor) (tag : ℕ) (more : List ℕ) (e : FrameError) → c.rest ≡ tag ∷ more → IsFaultyType starts c.place (tag ∷ more) e → IsFaultyType starts c.place c.rest e
tag_then starts c tag more e are h = subst (λ (l : List ℕ). IsFaultyType starts c.place l e) (sym are) h

pub type_stops : (starts : List ℕ) (c : Cursor) (e : FrameError) → IsBytes c.rest → type_at starts c ≡ Err e → IsFaultyType starts c.place c.rest e
unfolding type_at object_at uninitialized_at bare_type_at
type_stops starts c e fits h =
    bind_err h (λ r. let u = u1_stops c e r in subst (λ (l : List ℕ). IsFaultyType starts c.place l e) (sym u.0) u.1) (λ tag r h.
    let t = (u1_reads errors.BadFrame).takes c tag fits r in
    let here : tag.1.place ≡ c.place + 1 = omega (arith, t.0.place) in
    let more = IsBytes-Spans t.0 fits in
    tag_then starts c tag.0 tag.1.rest e t.0.parts
    (cond_either _ _ _ h (λ b d. bind_err d (λ r2.
    inr (inl (inl (eqb-true _ _ b), subst (λ (p : ℕ). IsCut p tag.1.rest e) here (u2_stops tag.1 e r2)))) (λ x r2 d. absurd cc)) (λ a h.
    cond_either _ _ _ h (λ b d. bind_err d (λ r2.
    elim (offset_stops starts tag.1 e more r2) [
      | inl cut ↦ inr (inl (inr (eqb-true _ _ b), subst (λ (p : ℕ). IsCut p tag.1.rest e) here cut))
      | inr none ↦ inr (inr (eqb-true _ _ b, subst (λ (p : ℕ). HasFaultyAddress starts p tag.1.rest e) here none))
    ]) (λ x r2 d. absurd cc)) (λ b h.
    bind_err h (λ r2. let p = plain_stops c.place tag.0 e r2 in inl (grind (arith, nat_tests), p.1)) (λ x r2 d. absurd cc)))))

type_halts_at : (starts : List ℕ) (c : Cursor) (rest : List ℕ) (e : FrameError) → c.rest ≡ rest → IsFaultyType starts c.place rest e → type_at starts c ≡ Err e
unfolding type_at object_at uninitialized_at bare_type_at offset_at
type_halts_at starts c [] e is h = bind_fails _ (u1_halts c e is h)
type_halts_at starts c (tag ∷ more) e is h =
    elim h [
      | inl large ↦
          let a : eqb tag 7 ≡ false = grind (arith, nat_tests) in
          let b : eqb tag 8 ≡ false = grind (arith, nat_tests) in
          bind_again _ (u1_is c tag more is) (cond_false _ a (cond_false _ b (bind_fails _ (plain_halts c.place tag (omega (arith, large.0)) ∙ ap Err (sym large.1)))))
      | inr other ↦ elim other [
        | inl cut ↦ elim (cut.0) [
          | inl seven ↦ bind_again _ (u1_is c tag more is) (cond_true _ (eq-eqb _ _ seven) (bind_fails _ (u2_halts (after c 1 more) e cut.1)))
          | inr eight ↦
              let a : eqb tag 7 ≡ false = grind (arith, nat_tests) in
              let failed : uninitialized_at starts (after c 1 more) ≡ Err e = bind_fails _ (bind_fails _ (u2_halts (after c 1 more) e cut.1)) in
              bind_again _ (u1_is c tag more is) (cond_false _ a (cond_true _ (eq-eqb _ _ eight) failed))
        ]
        | inr none ↦
            let a : eqb tag 7 ≡ false = grind (arith, nat_tests) in
            bind_again _ (u1_is c tag more is) (cond_false _ a (cond_true _ (eq-eqb _ _ none.0) (bind_fails _ (offset_halts starts (after c 1 more) e none.1))))
      ]
    ]

pub type_halts : (starts : List ℕ) (c : Cursor) (e : FrameError) → IsFaultyType starts c.place c.rest e → type_at starts c ≡ Err e
type_halts starts c e h = type_halts_at starts c c.rest e refl h

-- ---- lists of types

pub types_stop : (starts : List ℕ) → IsStrictlyIncreasing starts → (count : ℕ) (c : Cursor) (e : FrameError) → IsBytes c.rest → many_at (type_at starts) count c ≡ Err e → AreFaultyTypes starts count c.place c.rest e
types_stop starts rise count c e fits h =
    let s = many_stops (type_reads starts rise) count c e fits h in
    record {
      found = s.prefix;
      more = s.mid.rest;
      begins = record { good = s.good; are = s.spans.parts };
      few = s.within;
      next = subst (λ (p : ℕ). IsFaultyType starts p s.mid.rest e) s.spans.place (type_stops starts s.mid e s.fits s.failed);
    }

pub types_halt : (starts : List ℕ) → IsStrictlyIncreasing starts → (count : ℕ) (c : Cursor) (e : FrameError) → AreFaultyTypes starts count c.place c.rest e → many_at (type_at starts) count c ≡ Err e
types_halt starts rise count c e h =
    let mid = after c (length (flat_map (type_bytes starts) h.found)) h.more in
    many_halt (type_reads starts rise) count c mid h.found e h.few h.begins.good (record { parts = h.begins.are; place = refl }) (type_halts starts mid e h.next)

pub table_stops : (starts : List ℕ) → IsStrictlyIncreasing starts → (c : Cursor) (e : FrameError) → IsBytes c.rest → table_at errors.BadFrame (type_at starts) c ≡ Err e → IsFaultyTable starts c.place c.rest e
unfolding table_at
table_stops starts rise c e fits h =
    bind_err h (λ r. inl (u2_stops c e r)) (λ count r h.
    let b = begins c count fits r in
    inr (record { count = count.0; more = count.1.rest; begins = b.0; types = subst (λ (p : ℕ). AreFaultyTypes starts count.0 p count.1.rest e) b.1 (types_stop starts rise count.0 count.1 e b.2 h) }))

pub table_halts : (starts : List ℕ) → IsStrictlyIncreasing starts → (c : Cursor) (e : FrameError) → IsFaultyTable starts c.place c.rest e → table_at errors.BadFrame (type_at starts) c ≡ Err e
unfolding table_at
table_halts starts rise c e h =
    elim h [
      | inl cut ↦ bind_fails _ (u2_halts c e cut)
      | inr faulty ↦ bind_again _ (u2_is c faulty.count faulty.more faulty.begins) (types_halt starts rise faulty.count (after c 2 faulty.more) e faulty.types)
    ]
