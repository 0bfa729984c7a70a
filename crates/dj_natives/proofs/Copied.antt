-- What came of elements that were moved is what came of the model's answer.
use Rattle.std.proofs.Common.{◌≡◌, ℕ, ◌+◌, ◌-◌, ◌≤◌, ◌<◌, true, false, ℤ, List, ◌++◌, length, take, drop, Option, Some, None, nat_eq, if◌then◌else◌, refl, ap, sym, subst, ◌∙◌, arith}
use Rattle.std.specs.Prelude.{slice_range}
use Rattle.std.specs.Option.{option_map}
use Rattle.std.proofs.lemmas.Bool.{ne_eqb, eq-eqb}
use Rattle.std.proofs.lemmas.List.{length-append, length-take-le, length-drop}
use Rattle.dj_names.specs.declared.descriptor.Ty.{Ty}
use Rattle.dj_names.specs.declared.run.Element.{Element}
use Rattle.dj_names.specs.declared.run.Element.TheVariants as elements
use Rattle.dj_names.specs.declared.run.Raised.{Raised}
use Rattle.dj_names.specs.declared.run.Raised.TheVariants as raises
use Rattle.dj_names.specs.trusted.Heaps.{Object, Array, with_object}
use Rattle.dj_names.specs.Heaps.{object_map}
use Rattle.dj_heap.specs.Heaps.{LimitedHeap, object_in}
use Rattle.dj_model.specs.trusted.Types.{Prefix}
use Rattle.dj_model.specs.trusted.Program.{Program}
use Rattle.dj_model.specs.trusted.State.{Part}
use Rattle.dj_model.specs.trusted.Natives.{Answer, SetsElements, copied}
use Rattle.dj_model.specs.trusted.Performing.{set_elements, set_object, with_elements_in, raises_after, perform}
use Rattle.dj_model.proofs.MappedHeaps.{object_at_mapped, object_set}
use Rattle.dj_library_types.specs.Numbered.{type_at}
use Rattle.dj_natives.specs.declared.answer.NativeAnswer.TheVariants as reported
use Rattle.dj_natives.specs.declared.arrays.Copy.{Copy}
use Rattle.dj_natives.specs.Calls.{Done, part_with, terms_of}
use Rattle.dj_natives.specs.Copies.{IsCopy, CopiesSo, Moves, MovesSo, Takes, moved_of, takes_at}
use Rattle.dj_natives.specs.Known.{AreKnown}
use Rattle.dj_natives.proofs.Performed.{known_at, known_set}
use Rattle.dj_natives.proofs.Takings.{range_whole}

-- ---- how many are moved

module _ (program : Program) (prefix : Prefix) (types : List Ty) (h : LimitedHeap) where
  pub moves_references : (copy : Copy) (n : ℕ) → Takes (takes_at program prefix types h copy.target) h copy n → MovesSo program prefix types h elements.Ref copy n
  moves_references copy n takes class contents is = takes class contents is

  other_moved : (element : Element) (copy : Copy) → (element ≡ elements.Ref → ⊥) → (contents : List ℤ)
      → moved_of program prefix types h element copy contents ≡ slice_range contents copy.from (copy.from + copy.count)
  other_moved elements.Boolean copy apart contents = refl
  other_moved elements.Byte copy apart contents = refl
  other_moved elements.Char copy apart contents = refl
  other_moved elements.Short copy apart contents = refl
  other_moved elements.Int copy apart contents = refl
  other_moved elements.Long copy apart contents = refl
  other_moved elements.Ref copy apart contents = absurd (apart refl)

  pub moves_others : (element : Element) (copy : Copy) → (element ≡ elements.Ref → ⊥) → MovesSo program prefix types h element copy copy.count
  moves_others element copy apart class contents is = other_moved element copy apart contents ∙ range_whole contents copy.from copy.count

-- ---- the heap with them

elements_typed : (types : List Ty) (h : LimitedHeap) (target class : ℕ) (element : Element) (olds patched : List ℤ) (p : Part)
    → object_in h target ≡ Some (Array class element olds) → length patched ≡ length olds
    → set_elements (part_with types h None p) target patched ≡ part_with types (record h { heap = with_object h.heap target (Array class element patched) }) None p
elements_typed types h target class element olds patched p is long =
    let f = type_at types in
    ap (λ o. set_object (part_with types h None p) target (with_elements_in o patched)) (object_at_mapped f h.heap.objects target ∙ ap (option_map (object_map f)) is)
    ∙ ap (λ b. set_object (part_with types h None p) target (if b then Some (Array (f class) element patched) else None)) (eq-eqb (length patched) (length olds) long)
    ∙ ap (λ heap. record p { heap = heap }) (object_set f h.heap target (Array class element patched))

module _ (program : Program) (prefix : Prefix) (types : List Ty) (h new : LimitedHeap) (element : Element) (copy : Copy) (n : ℕ) (answer : Answer)
    (known : AreKnown types h) (is : IsCopy h element copy) (few : n ≤ copy.count) (moved : MovesSo program prefix types h element copy n) (moves : Moves h new copy n)
    (so : CopiesSo program prefix types h element copy answer) where
  abbrev taken : List ℤ
  taken = take n (drop copy.from is.source.contents)

  abbrev patched : List ℤ
  patched = take copy.to is.target.contents ++ taken ++ drop (copy.to + n) is.target.contents

  taken_long : length taken ≡ n
  taken_long =
      let within = is.source.within in
      length-take-le n (drop copy.from is.source.contents) (omega (arith, few, within, length-drop copy.from is.source.contents))

  patched_long : length patched ≡ length is.target.contents
  patched_long =
      let within = is.target.within in
      let first : length (take copy.to is.target.contents) ≡ copy.to = length-take-le copy.to is.target.contents (omega (arith, within)) in
      let both = length-append (take copy.to is.target.contents) taken in
      let all = length-append (take copy.to is.target.contents ++ taken) (drop (copy.to + n) is.target.contents) in
      let rest = length-drop (copy.to + n) is.target.contents in
      omega (arith, within, few, first, both, all, rest, taken_long)

  abbrev after : LimitedHeap
  after = record h { heap = with_object h.heap copy.target (Array is.target.class element patched) }

  new_is : new ≡ after
  new_is = moves is.source.class is.target.class element is.source.contents is.target.contents is.source.is is.target.is

  abbrev raised_by : ℕ → Option Raised
  raised_by size = if nat_eq size copy.count then None else Some raises.ArrayStore

  answer_is : answer ≡ SetsElements copy.target patched (raised_by n)
  answer_is =
      so is.source.class is.target.class is.source.contents is.target.contents is.source.is is.target.is
      ∙ ap (λ l. copied copy.target is.target.contents copy.to l copy.count) (moved is.source.class is.source.contents is.source.is)
      ∙ ap (λ k. SetsElements copy.target (take copy.to is.target.contents ++ taken ++ drop (copy.to + k) is.target.contents) (raised_by k)) taken_long

  patched_known : AreKnown types after
  patched_known =
      let second = known_at types h copy.target (Array is.target.class element is.target.contents) is.target.is known in
      known_set types h copy.target (Array is.target.class element patched) known
      (record { class = second.class; holds = second.holds })

  performed : (p : Part) (raised : Option Raised) → raised_by n ≡ raised → perform prefix (terms_of h None) (part_with types h None p) answer ≡ raises_after (part_with types after None p) raised
  unfolding perform
  performed p raised e =
      ap (perform prefix (terms_of h None) (part_with types h None p)) (answer_is ∙ ap (SetsElements copy.target patched) e)
      ∙ ap (λ q. raises_after q raised) (elements_typed types h copy.target is.target.class element is.target.contents patched p is.target.is patched_long)

  pub copied_all : n ≡ copy.count → Done prefix types h new answer reported.Nothing
  copied_all e =
      subst (λ (x : LimitedHeap). Done prefix types h x answer reported.Nothing) (sym new_is)
      (record {
        does = λ p. performed p None (ap (λ b. if b then None else Some raises.ArrayStore) (eq-eqb n copy.count e));
        heap = refl;
        known = patched_known;
      })

  pub copied_part : (n ≡ copy.count → ⊥) → Done prefix types h new answer (reported.Raise raises.ArrayStore)
  copied_part e =
      subst (λ (x : LimitedHeap). Done prefix types h x answer (reported.Raise raises.ArrayStore)) (sym new_is)
      (record {
        does = λ p. performed p (Some raises.ArrayStore) (ap (λ b. if b then None else Some raises.ArrayStore) (ne_eqb n copy.count e));
        heap = refl;
        known = patched_known;
      })
