-- Ways, bytes and bounds by plain values.
use Rattle.std.proofs.Common.{◌≡◌, ℕ, suc, ◌+◌, Bool, true, false, pos, List, [], ◌∷◌, map, replicate, Some, None, codes, refl, arith, zero, Contains}
use Rattle.std.proofs.lemmas.List.{length-replicate}
use Rattle.std.proofs.lemmas.Option.{none-some}
use Rattle.dj_names.specs.declared.descriptor.Base.TheVariants as bases
use Rattle.dj_names.specs.declared.run.Charge.TheVariants as charges
use Rattle.dj_names.specs.declared.run.Costs.{Costs}
use Rattle.dj_names.specs.declared.run.Element.TheVariants as elements
use Rattle.dj_names.specs.declared.run.Outcome.TheVariants as outcomes
use Rattle.dj_names.specs.declared.run.Value.TheVariants as values
use Rattle.dj_names.specs.trusted.Types.{base_array}
use Rattle.dj_model.specs.trusted.Instructions.{Nop, Push, NewArray, Move, Pop, Goto, Throw, Return, PushText}
use Rattle.dj_model.specs.trusted.Program.{Program, code_of, has_initialiser, initialiser_of, Field, Text}
use Rattle.dj_model.specs.trusted.State.{Frame, State}
use Rattle.dj_model.specs.trusted.Types.{Declared}
use Rattle.dj_model.specs.trusted.Linking.{most_classes, chain_of}
use Rattle.dj_model.specs.trusted.Initialisation.{is_initialised, mark, constants_of, initialise}
use Rattle.dj_model.specs.trusted.Step.{step}
use Rattle.dj_model.specs.trusted.Runs.{Going, Finished, NoStep, empty_heap, start_state, begin, steps, plain_run}
use Rattle.dj_model.specs.Effects.{pays}
use Rattle.dj_model.specs.Runs.{Underway, RunEnds, Stuck}
use Rattle.dj_model.specs.SmallRuns.{entry, verify_with, initialiser_with, catch_all, class_with, a_with, costs, at_most, usual, field_with}
use Rattle.dj_groups.specs.Rewritten.{rewritten}
use Rattle.dj_names.specs.trusted.Library.{string}
use Rattle.dj_bounds.specs.Texts.{AreTextsOf, text_bytes, AreLiteralsWithin}
use Rattle.dj_bounds.specs.Acts.{way, code_length, AreShort, left_in, goes_elsewhere, is_pending, spent, initialisers, begun, arrived, ways, IsBounded, most_ways}
use Rattle.dj_bounds.specs.Bytes.{alloc_of, own_bytes, pending_bytes, literal_bytes, input_bytes, HasRoom, most_bytes}
use Rattle.dj_bounds.specs.Laws.{RunIsBounded, RanWithin, IsWorkBounded, RanFits}

-- iconst_1, newarray byte, pop, goto 0; the pop is the handler of the two before it. B has an initialiser
abbrev loops : Program
loops = a_with (verify_with (Push (values.Int (pos 1)) ∷ NewArray (base_array bases.Byte) elements.Byte ∷ Move Pop ∷ Goto 0 ∷ []) (catch_all 0 2 2 ∷ []) ∷ [])
    ∷ class_with (codes "B") [] (initialiser_with (Return None ∷ []) ∷ []) ∷ []

abbrev frame_at : ℕ → Bool → Frame Declared
frame_at number paid = record { method = entry; number = number; locals = Some (values.Ref 1) ∷ []; operands = values.Int (pos 3) ∷ []; paid = paid }

abbrev initialiser_frame : Frame Declared
initialiser_frame = record (frame_at 0 false) { method = initialiser_of (codes "B") }

abbrev state_with : Costs → List (Frame Declared) → State
state_with c frames = record (start_state loops entry empty_heap []) { frames = frames; account = record { costs = c; exceeded = None } }

-- ---- ways

lengths : map code_length (code_of loops entry ∷ code_of loops (initialiser_of (codes "B")) ∷ None ∷ []) ≡ 4 ∷ 1 ∷ 0 ∷ []
unfolding code_of
lengths = refl

none_long : AreShort []
unfolding code_of
none_long m = omega arith

-- a code as long as a way, or longer, isn't short
long_code : (n : ℕ) → AreShort (a_with (verify_with (replicate (way + n) Nop) [] ∷ []) ∷ []) → ⊥
unfolding code_of
long_code n short = absurd (omega (arith, short entry, length-replicate (way + n) Nop))

left : map (λ number. left_in loops (frame_at number false)) (0 ∷ 1 ∷ 4 ∷ 9 ∷ []) ≡ 4 ∷ 3 ∷ 0 ∷ 0 ∷ []
unfolding code_of
left = refl

-- a throw isn't a new way: the arrival is
elsewhere : map goes_elsewhere (Some (Goto 0) ∷ Some Throw ∷ Some (Return None) ∷ Some (NewArray (base_array bases.Byte) elements.Byte) ∷ None ∷ []) ≡ true ∷ false ∷ false ∷ false ∷ false ∷ []
elsewhere = refl

pending : map (is_pending loops) (frame_at 3 true ∷ frame_at 3 false ∷ frame_at 1 true ∷ []) ≡ true ∷ false ∷ false ∷ []
unfolding code_of
pending = refl

-- a caller's way is gone, and that of a frame below an initialiser's isn't
spent_so : map (spent loops true) ((frame_at 3 true ∷ []) ∷ (frame_at 1 false ∷ (frame_at 3 true ∷ [])) ∷ (initialiser_frame ∷ (frame_at 3 true ∷ [])) ∷ []) ≡ 65537 ∷ 4 ∷ 65538 ∷ []
unfolding code_of
spent_so = refl

-- a jump that isn't counted: paid, it has a way to go
not_counted : spent loops true (frame_at 3 true ∷ []) ≡ spent loops true (frame_at 3 false ∷ []) → ⊥
unfolding code_of
not_counted e = absurd (let no : 65537 ≡ 1 = e in omega (arith, no))

with_initialiser : initialisers loops loops ≡ 1
unfolding code_of has_initialiser
with_initialiser = refl

begun_so : map (begun loops loops) ((false ∷ false ∷ []) ∷ (true ∷ false ∷ []) ∷ (false ∷ true ∷ []) ∷ []) ≡ 0 ∷ 0 ∷ 1 ∷ []
unfolding code_of has_initialiser
begun_so = refl

-- an arrival counts until it is charged
arrivals : map (arrived loops) ((frame_at 2 false ∷ []) ∷ (frame_at 2 true ∷ []) ∷ (frame_at 1 false ∷ []) ∷ [] ∷ []) ≡ 1 ∷ 0 ∷ 0 ∷ 0 ∷ []
unfolding code_of
arrivals = refl

ways_so : map (ways loops) (state_with (costs 9 1 2 3) (frame_at 2 false ∷ []) ∷ state_with (costs 9 1 2 3) (frame_at 2 true ∷ []) ∷ state_with (costs 9 0 0 0) [] ∷ []) ≡ 8 ∷ 7 ∷ 1 ∷ []
unfolding code_of has_initialiser
ways_so = refl

-- with one jump there are two ways, of which the jump has one to go
bounded : IsBounded loops 65535 (state_with (costs 0 0 1 0) (frame_at 3 true ∷ []))
unfolding code_of has_initialiser
bounded = omega arith

unbounded : IsBounded loops 65536 (state_with (costs 0 0 1 0) (frame_at 3 true ∷ [])) → ⊥
unfolding code_of has_initialiser
unbounded l = absurd (omega (arith, l))

most_so : most_ways loops (at_most 9 1 2 3) ≡ 9
unfolding code_of has_initialiser
most_so = refl

-- ---- bytes

allocated : alloc_of (record { charge = charges.Alloc; amount = 24 } ∷ record { charge = charges.Throw; amount = 1 } ∷ record { charge = charges.Alloc; amount = 16 } ∷ []) ≡ 40
allocated = refl

-- the array's bytes, once they are paid and until they are taken
own : map (λ x. own_bytes loops x (Some (NewArray (base_array bases.Byte) elements.Byte))) (frame_at 1 true ∷ frame_at 1 false ∷ []) ≡ 24 ∷ 0 ∷ []
unfolding pays
own = refl

pending_so : map (pending_bytes loops) ((frame_at 1 true ∷ []) ∷ (frame_at 1 false ∷ []) ∷ (initialiser_frame ∷ (frame_at 1 true ∷ [])) ∷ (frame_at 3 true ∷ []) ∷ []) ≡ 24 ∷ 0 ∷ 24 ∷ 0 ∷ []
unfolding code_of pays
pending_so = refl

literals : literal_bytes (record { units = 65 ∷ 66 ∷ []; object = 1 } ∷ record { units = []; object = 2 } ∷ []) ≡ 40
literals = refl

inputs : map input_bytes ([] ∷ (1 ∷ 2 ∷ []) ∷ []) ≡ 16 ∷ 24 ∷ []
inputs = refl

abbrev with_used : ℕ → State → State
with_used n s = record s { heap = record { objects = []; used = n } }

roomy : HasRoom loops [] (with_used 56 (state_with (costs 8 0 0 1) []))
roomy = omega arith

no_room : HasRoom loops [] (with_used 57 (state_with (costs 8 0 0 1) [])) → ⊥
no_room l = absurd (omega (arith, l))

-- an arrival that isn't charged has room for its exception
room_for_arrival : HasRoom loops [] (with_used 48 (state_with (costs 0 0 0 0) (frame_at 2 false ∷ [])))
unfolding code_of
room_for_arrival = omega arith

most_bytes_so : most_bytes (at_most 1000 1 2 3) (1 ∷ []) ≡ 1216
most_bytes_so = refl

-- ---- runs

-- an entry of a program without initialisers has two ways, where nothing may be paid
too_many : RunIsBounded [] (at_most 0 0 0 0) [] 131073 (RunEnds outcomes.Link (costs 0 0 0 0)) → ⊥
too_many l = absurd (omega (arith, l))

not_stuck : RunIsBounded [] usual [] 0 Stuck → ⊥
not_stuck k = k

underway : RunIsBounded [] usual [] 65537 (Underway (start_state [] entry empty_heap [])) → ⊥
unfolding code_of
underway k = absurd (omega (arith, k.0))

not_within : RanWithin 23 (Going (with_used 24 (start_state [] entry empty_heap []))) → ⊥
not_within l = absurd (omega (arith, l))

ends_within : RanWithin 24 (Finished outcomes.Link (with_used 24 (start_state [] entry empty_heap [])) 5)
ends_within = omega arith

no_step : RanWithin 24 NoStep → ⊥
no_step k = k

fits : RanFits 24 24 (Going (start_state [] entry empty_heap []))
fits = omega arith

not_fitting : RanFits 23 24 (Finished outcomes.Link (start_state [] entry empty_heap []) 5) → ⊥
not_fitting l = absurd (omega (arith, l))

never_fits : RanFits 24 0 NoStep → ⊥
never_fits k = k

-- a program that isn't sound may do nothing
not_bounded : IsWorkBounded [] entry usual [] → ⊥
unfolding steps step begin initialise rewritten is_initialised mark constants_of plain_run code_of has_initialiser most_classes chain_of
not_bounded k = absurd (none-some _ (k.plain (suc k.steps) (omega arith)))

-- ---- texts

abbrev pushing : Program
pushing = a_with (verify_with (PushText (65 ∷ []) ∷ Goto 0 ∷ []) [] ∷ []) ∷ []

abbrev beginning : Field
beginning = field_with 8 (codes "s") string (Some (Text (66 ∷ [])))

no_texts : AreTextsOf [] []
unfolding code_of
no_texts = record { pushed = λ m code units e there. absurd (none-some code e); begun = λ class field units there e. absurd (omega (arith, there.1)) }

abbrev another : List ℕ
another = 66 ∷ []

abbrev pushed : List ℕ
pushed = 65 ∷ []

abbrev empty : List ℕ
empty = []

-- a text that code pushes, and one with which a field begins
not_pushed : AreTextsOf pushing (empty ∷ []) → ⊥
unfolding code_of
not_pushed are = go (are.pushed entry _ pushed refl (zero, omega arith, refl)) where
  go : Contains {X = List ℕ} (empty ∷ []) pushed → ⊥
  go (zero, l, e) = absurd cc
  go (suc k, l, e) = absurd (omega (arith, l))

not_begun : AreTextsOf (class_with (codes "A") (beginning ∷ []) [] ∷ []) [] → ⊥
not_begun are = absurd (omega (arith, (are.begun (codes "A") beginning another (zero, omega arith, refl) refl).1))

text_bytes_so : text_bytes ((65 ∷ 66 ∷ []) ∷ [] ∷ []) ≡ 40
text_bytes_so = refl

abbrev one_literal : State
one_literal = record (start_state [] entry empty_heap []) { literals = record { units = 65 ∷ []; object = 1 } ∷ [] }

literals_there : AreLiteralsWithin 24 (Going one_literal)
literals_there = omega arith

too_many_literals : AreLiteralsWithin 23 (Finished outcomes.Link one_literal 5) → ⊥
too_many_literals l = absurd (omega (arith, l))
