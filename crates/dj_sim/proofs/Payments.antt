-- A payment of the metered run: its charges are added, or the plain run ends by the one that passed its threshold.
use Rattle.std.proofs.Common.{◌≡◌, ℕ, suc, ◌+◌, ◌-◌, ◌*◌, ◌<◌, Bool, true, false, List, [], ◌∷◌, ◌++◌, map, length, reverse, Option, Some, None, nat_eq, slice_get, refl, sym, ap, ◌∙◌, arith, if◌then◌else◌}
use Rattle.std.proofs.lemmas.List.{length-map}
use Rattle.std.proofs.lemmas.Bool.Decides.{nat_tests}
use Rattle.std.specs.Option.{option_map}
use Rattle.dj_names.specs.declared.descriptor.Ty.{Ty}
use Rattle.dj_names.specs.declared.run.Charge.{Charge}
use Rattle.dj_names.specs.declared.run.Outcome.TheVariants as outcomes
use Rattle.dj_names.specs.declared.run.Thresholds.{Thresholds}
use Rattle.dj_names.specs.trusted.Heaps.{Object, Heap, class_of, with_new, next_number}
use Rattle.dj_names.specs.Heaps.{object_map, heap_map}
use Rattle.dj_names.specs.trusted.Types.{Name, same_name, class_type}
use Rattle.dj_names.specs.trusted.Library.{stop_class}
use Rattle.dj_names.specs.Library.{accounter_class}
use Rattle.dj_names.specs.Types.{in_sandbox, sandbox_prefix, type_map}
use Rattle.dj_model.specs.trusted.Types.{Declared, object_name, is_stop}
use Rattle.dj_model.specs.Types.{declared_map}
use Rattle.dj_model.specs.trusted.Program.{Program, Code, code_of}
use Rattle.dj_model.specs.trusted.Linking.{chain}
use Rattle.dj_model.specs.trusted.State.{Account, Frame, State, instruction_in}
use Rattle.dj_model.specs.trusted.Charging.{Charged, Fine, Over}
use Rattle.dj_model.specs.Charging.{charge_all}
use Rattle.dj_model.specs.trusted.Performing.{class_in, class_at_number, is_instance}
use Rattle.dj_model.specs.trusted.Initialisation.{is_initialised, mark, mark_all, not_initialised}
use Rattle.dj_model.specs.trusted.Step.{Went, new_stop, stop_from, throw_stop_or}
use Rattle.dj_model.specs.trusted.Runs.{Going, from_start, steps}
use Rattle.dj_model.specs.Runs.{amounts}
use Rattle.dj_model.proofs.MappedHeaps.{class_of_mapped}
use Rattle.dj_model.proofs.MappedMembers as members
use Rattle.dj_model.proofs.NameMaps.{sandbox_map}
use Rattle.dj_groups.specs.Groups.{Group, groups_of, start, own}
use Rattle.dj_groups.specs.Rewritten.{in_groups, rewritten_code}
use Rattle.dj_sim.specs.Paying.{Paying}
use Rattle.dj_sim.specs.Simulation.{HasObject, AreHandlersWithin, AreOriginal, PaidImage, part_at, plain_terms, EndsWithin, with_stop, flags_image, groups_in, place_in, frame_image, state_image}
use Rattle.dj_sim.proofs.Places.{past, own_is}
use Rattle.dj_sim.proofs.Acts.{other, at, statics, code_image, frames_image, part_there}
use Rattle.dj_sim.proofs.Ready.{two, flags_after, ready}
use Rattle.dj_sim.proofs.Initialising.{mark_marked, flag_there, mark_there}
use Rattle.dj_sim.proofs.Unwinding as stopping
use Rattle.dj_sim.proofs.PaidCalls as paying

mark_set : (classes : Program) (class : Name) (flags : List Bool) → is_initialised classes flags class ≡ true → mark classes class flags ≡ flags
unfolding is_initialised mark
mark_set [] class flags e = refl
mark_set (c ∷ classes) class [] e = refl
mark_set (c ∷ classes) class (flag ∷ flags) e = go (same_name c.name class) e (mark_set classes class flags) where
  go : (same : Bool) → (if same then flag else is_initialised classes flags class) ≡ true → (is_initialised classes flags class ≡ true → mark classes class flags ≡ flags)
      → (if same then true ∷ flags else flag ∷ mark classes class flags) ≡ flag ∷ flags
  go true e more = ap (λ f. f ∷ flags) (sym e)
  go false e more = ap (λ rest. flag ∷ rest) (more e)

module _ (program : Program) (base : HasObject program) (most : Thresholds)
    (handled : AreHandlersWithin program) where
  -- ---- flags

  after_image : (touched : Bool) (flags : List Bool)
      → mark_all (other program) (reverse (not_initialised (other program) (flags_image program touched flags) (accounter_class ∷ object_name sandbox_prefix ∷ []))) (flags_image program touched flags)
      ≡ flags_image program true flags
  unfolding is_initialised mark
  after_image false flags = rw (flag_there program base (plain_terms most) true false flags (object_name [])) (go (is_initialised program flags (object_name [])) refl) where
    go : (b : Bool) → is_initialised program flags (object_name []) ≡ b
        → mark_all (other program) (reverse ((accounter_class ∷ []) ++ ((if b then [] else object_name sandbox_prefix ∷ []) ++ []))) (false ∷ false ∷ flags) ≡ true ∷ false ∷ mark program (object_name []) flags
    go true e = ap (λ rest. true ∷ false ∷ rest) (sym (mark_set program (object_name []) flags e))
    go false e = ap (mark (other program) accounter_class) (mark_there program base (plain_terms most) false false (object_name []) flags)
  after_image true flags = rw (flag_there program base (plain_terms most) true false (mark program (object_name []) flags) (object_name []), mark_marked program (object_name []) flags) refl

  Good : List Bool → List Bool → Type 0
  Good flags now = (touched : Bool) × (now ≡ flags_image program touched flags)

  good_after : (flags : List Bool) (r : State) → Good flags r.initialised → Good flags (flags_after program base (plain_terms most) r)
  unfolding Good flags_after
  good_after flags r (touched, e) = (
    true,
    ap (λ (now : List Bool). mark_all (other program) (reverse (not_initialised (other program) now (chain (other program) accounter_class))) now) e
        ∙ (ap (λ (classes : List Name). mark_all (other program) (reverse (not_initialised (other program) (flags_image program touched flags) classes)) (flags_image program touched flags)) (two program base (plain_terms most))
        ∙ after_image touched flags),
  )

  -- ---- the object that stops the run is made, and leaves all frames

  no_stop_from : (n : ℕ) (objects : List (Object Ty)) → stop_from sandbox_prefix n (map (object_map (type_map in_sandbox)) objects) ≡ None
  no_stop_from n [] = refl
  no_stop_from n (o ∷ objects) = rw (class_of_mapped (type_map in_sandbox) o, sandbox_map.stop (class_of o)) (no_stop_from (n + 1) objects)

  made_stop : (heap : Heap Ty) → class_at_number (with_new heap new_stop) (next_number heap) ≡ class_type stop_class
  made_stop heap =
      let e : length heap.objects + 1 - 1 ≡ length heap.objects + 0 = omega arith in
      let n : nat_eq (length heap.objects + 1) 0 ≡ false = grind (arith, nat_tests) in
      rw n (ap (λ k. class_in (slice_get (heap.objects ++ new_stop ∷ []) k)) e ∙ ap class_in (past heap.objects (new_stop ∷ []) 0))

  after : State → List Bool
  after r = flags_after program base (plain_terms most) r

  -- the heap is one of a metered run under other names, and the frames are of original methods
  abbrev Originals : List (Frame Declared) → Type 0
  Originals ys = AreOriginal ys

  record Stopping (heap : Heap Ty) (m : Declared) (ys : List (Frame Declared)) : Type 0 where
    pub before : Heap Ty
    pub heap_is : heap ≡ heap_map (type_map in_sandbox) before
    pub of : Declared
    pub method : m ≡ declared_map in_sandbox of
    pub below : Originals ys

  -- thrown where the heap has no such object yet
  pub thrown_leaves : (r : State) (y : Frame Declared) (ys : List (Frame Declared)) (charge : Charge) (before : Heap Ty) → r.heap ≡ heap_map (type_map in_sandbox) before → AreOriginal (y ∷ ys)
      → r.account.exceeded ≡ Some charge
      → EndsWithin (other program) most (2 * suc (length ys))
      (throw_stop_or (other program) sandbox_prefix (plain_terms most) (record r { frames = y ∷ ys }) (stop_from sandbox_prefix 1 r.heap.objects)) (outcomes.Stopped charge) (with_stop r)
  thrown_leaves r y ys charge before heap_is original over =
      let made : State = record r { heap = with_new r.heap new_stop; frames = y ∷ ys } in
      let none : stop_from sandbox_prefix 1 r.heap.objects ≡ None = ap (λ (heap : Heap Ty). stop_from sandbox_prefix 1 heap.objects) heap_is ∙ no_stop_from 1 before.objects in
      rw (none, made_stop r.heap)
      (stopping.unwound_stops program most (flags_after program base (plain_terms most)) handled (ready program base (plain_terms most)) (y ∷ ys) original made (next_number r.heap) charge over (made_stop r.heap))

  stop_leaves : (r : State) (y : Frame Declared) (ys : List (Frame Declared)) (charge : Charge) (account : Account) → Stopping r.heap y.method ys → account.exceeded ≡ Some charge
      → EndsWithin (other program) most (2 * suc (length ys))
      (throw_stop_or (other program) sandbox_prefix (plain_terms most) (record r { initialised = flags_after program base (plain_terms most) r; account = account; frames = y ∷ ys }) (stop_from sandbox_prefix 1 r.heap.objects))
      (outcomes.Stopped charge) (with_stop (record r { account = account }))
  stop_leaves r y ys charge account s over =
      thrown_leaves (record r { initialised = flags_after program base (plain_terms most) r; account = account }) y ys charge s.before s.heap_is ((s.of, s.method), s.below) over

  -- ---- a payment

  pub originals : (frames : List (Frame Declared)) → Originals (frames_image program frames)
  originals [] = tt
  originals (x ∷ frames) = ((x.method, refl), originals frames)

  pub pays_image : (touched : Bool) (s : State) (x : Frame Declared) (below : List (Frame Declared)) (code : Code)
      → s.frames ≡ x ∷ below → x.paid ≡ false → code_of program x.method ≡ Some code
      → Paying (part_at (groups_of program code) x.number) x.operands (amounts program [] s)
      → ((r : ℕ) → is_instance program [] s.heap r (class_type (object_name [])) ≡ true)
      → PaidImage program (other program) most (length (part_at (groups_of program code) x.number)) touched s x below (charge_all most (amounts program [] s) s.account)
  unfolding Good rewritten_code in_groups
  pays_image touched s x below code frames unpaid coded paying_so under = go (charge_all most (amounts program [] s) s.account)
      (paying.all_paid program most (flags_after program base (plain_terms most)) (ready program base (plain_terms most)) (Good s.initialised) (good_after s.initialised) Stopping stop_leaves
      (part_at gs x.number) x.operands (amounts program [] s) paying_so (state_image program touched s) (frame_image program x) (frames_image program below) (start gs x.number) (own gs x.number)
      (own_is gs x.number) fetched (touched, refl)
      (record { before = s.heap; heap_is = refl; of = x.method; method = refl; below = originals below })
      (λ r. members.instance_alike in_sandbox (rewritten_code program) [] sandbox_prefix sandbox_map program (other program) (at program) (statics program) s.heap r (class_type (object_name [])) ∙ under r)
      (λ r. ap (is_stop sandbox_prefix) (members.class_at_mapped in_sandbox (rewritten_code program) [] sandbox_prefix sandbox_map program (other program) (at program) (statics program) s.heap r) ∙ sandbox_map.stop (class_at_number s.heap r))) where
        gs : List Group
        gs = groups_of program code

        fetched_in : (j : ℕ) → j < length (part_at gs x.number) → instruction_in (Some (rewritten_code program code)) (start gs x.number + j) ≡ slice_get (part_at gs x.number) j
        fetched_in j l = part_there program code x.number j l

        fetched : (j : ℕ) → j < length (part_at gs x.number) → instruction_in (code_of (other program) (declared_map in_sandbox x.method)) (start gs x.number + j) ≡ slice_get (part_at gs x.number) j
        fetched j l =
            ap (λ c. instruction_in c (start gs x.number + j)) (code_image program x.method ∙ ap (option_map (rewritten_code program)) coded)
            ∙ fetched_in j l

        number_of : Bool → Option Code → ℕ
        number_of paid c = place_in (groups_in program c) paid x.number

        frame_at : ℕ → Frame Declared
        frame_at n = record { method = declared_map in_sandbox x.method; number = n; locals = x.locals; operands = x.operands; paid = false }

        started : paying.at_place program most (flags_after program base (plain_terms most)) (ready program base (plain_terms most)) (Good s.initialised) (good_after s.initialised)
            (state_image program touched s) (frame_image program x) (frames_image program below) (start gs x.number) x.operands ≡ state_image program touched s
        started = ap (λ (fs : List (Frame Declared)). record (state_image program touched s) { frames = fs })
            (ap (λ n. frame_at n ∷ frames_image program below) (sym (ap (λ paid. number_of paid (code_of program x.method)) unpaid ∙ ap (number_of false) coded)) ∙ sym (ap (frames_image program) frames))

        ended : (account : Account) (now : Bool)
            → record (state_image program touched s) { account = account; initialised = flags_image program now s.initialised; frames = frame_at (own gs x.number) ∷ frames_image program below }
            ≡ state_image program now (record s { account = account; frames = record x { paid = true } ∷ below })
        ended account now = ap (λ n. record (state_image program touched s) { account = account; initialised = flags_image program now s.initialised; frames = frame_at n ∷ frames_image program below })
            (sym (ap (number_of true) coded))

        go : (c : Charged)
            → paying.Paid program most (flags_after program base (plain_terms most)) (ready program base (plain_terms most)) (Good s.initialised) (good_after s.initialised)
            (length (part_at gs x.number)) (suc (length (frames_image program below)))
            (paying.at_place program most (flags_after program base (plain_terms most)) (ready program base (plain_terms most)) (Good s.initialised) (good_after s.initialised)
            (state_image program touched s) (frame_image program x) (frames_image program below) (start gs x.number) x.operands)
            (λ account now. record (state_image program touched s) { account = account; initialised = now; frames = frame_at (own gs x.number) ∷ frames_image program below }) c
            → PaidImage program (other program) most (length (part_at gs x.number)) touched s x below c
        go (Fine account) (now, (t, is), goes) = (
          t,
          ap (steps (other program) sandbox_prefix (plain_terms most) (length (part_at gs x.number))) (sym started) ∙ (goes
              ∙ (ap (λ (flags : List Bool). Going (record (state_image program touched s) { account = account; initialised = flags; frames = frame_at (own gs x.number) ∷ frames_image program below })) is
              ∙ ap (λ (u : State). Going u) (ended account t))),
        )
        go (Over charge account) (n, within, u, ends, costs) = (
          n,
          (let same : length (frames_image program below) ≡ length below = length-map below (frame_image program) in omega (arith, within, same)),
          u,
          ap (λ (v : State). from_start (steps (other program) sandbox_prefix (plain_terms most) n) (Went v)) (sym started) ∙ ends,
          costs,
        )
