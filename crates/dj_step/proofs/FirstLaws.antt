-- A run before its first step, by what is made at first.
use Rattle.std.proofs.Common.{◌≡◌, ◌<◌, ℕ, Bool, false, List, [], length, map, replicate, Option, Some, None, refl, sym, ap, subst, ◌∙◌}
use Rattle.std.specs.Prelude.{slice_get, unwrap_or, Result, Ok, Err, IfOk}
use Rattle.std.specs.Option.{option_map}
use Rattle.std.proofs.lemmas.List.{length-map}
use Rattle.std.proofs.lemmas.Option.{slice_get_within, none-some}
use Rattle.dj_names.specs.declared.descriptor.Ty.{Ty}
use Rattle.std.specs.declared.alloc.AllocError.{AllocError}
use Rattle.dj_names.specs.declared.run.Thresholds.{Thresholds}
use Rattle.dj_names.specs.trusted.Types.{Name}
use Rattle.dj_model.specs.trusted.Types.{Prefix, Declared}
use Rattle.dj_model.specs.trusted.Program.{Program, Class}
use Rattle.dj_model.specs.trusted.Linking.{static_count}
use Rattle.dj_heap.specs.Heaps.{LimitedHeap}
use Rattle.dj_stack.specs.Frames.{StackFrame}
use Rattle.dj_member_effects.specs.Literals.{LiteralTable}
use Rattle.dj_natives.specs.Counting.{Counter}
use Rattle.dj_natives.specs.Known.{AreKnown}
use Rattle.dj_class_table.specs.Tables.{name_at, name_of}
use Rattle.dj_declarations.specs.Files.{bare_class}
use Rattle.dj_resolution.specs.Linked.{Linked, prefix_of}
use Rattle.dj_resolution.specs.declared.linker.BaseNames.{BaseNames}
use Rattle.dj_numbering.specs.Typed.{types_of}
use Rattle.dj_numbering.specs.Members.{IsMethodThere}
use Rattle.dj_numbering.specs.declared.types.MemberOf.{MemberOf}
use Rattle.dj_image.specs.Imaged.{Imaged, program_of, typed_of}
use Rattle.dj_current_method.proofs.Numbers.{declared_there}
use Rattle.dj_initialisation.specs.declared.initialisers.Initialiser.{Initialiser}
use Rattle.dj_initialisation.specs.declared.prepare.Prepared.{Prepared}
use Rattle.dj_initialisation.specs.Flags.{AreFlags}
use Rattle.dj_initialisation.specs.Places.{Places, ArePlaces}
use Rattle.dj_initialisation.specs.Initialisers.{AreInitialisers}
use Rattle.dj_initialisation.specs.Store.{IsStore, store}
use Rattle.dj_initialisation.specs.Preparing.{Parts, Prepares, parts}
use Rattle.dj_initialisation.proofs.StartLaws.{store_at_start}
use Rattle.dj_image_step.specs.Running.{IsKept, Kept, Running}
use Rattle.dj_step.specs.Running.{BeginsRun, IsCounter, IsFirst, PreparesEntry}

-- ---- who counts

pub counter_reported : (imaged : Imaged) (linked : Linked) (base : BaseNames) (limits : Thresholds) (counter : Option Counter) → linked ≡ record { program = map bare_class (program_of imaged); prefix = imaged.prefix }
    → prefix_of base ≡ linked.prefix → IsCounter (prefix_of base) limits counter → IsCounter imaged.prefix limits counter
counter_reported imaged linked base limits counter is own reported = subst (λ (prefix : Prefix). IsCounter prefix limits counter) (own ∙ ap (λ (l : Linked). l.prefix) is) reported

-- ---- what is there at first

pub as_many : (imaged : Imaged) (linked : Linked) (classes : Program) (count : ℕ) → linked ≡ record { program = map bare_class (program_of imaged); prefix = imaged.prefix } → classes ≡ linked.program
    → count ≡ length classes → count ≡ length (program_of imaged)
as_many imaged linked classes count is own e =
    e ∙ (ap (λ (p : Program). length p) (own ∙ ap (λ (l : Linked). l.program) is) ∙ length-map (program_of imaged) bare_class)

pub places_kept : (imaged : Imaged) (kept : Kept) (places : Places) → IsKept imaged kept → places ≡ kept.places → ArePlaces (program_of imaged) places
places_kept imaged kept places is e = subst (ArePlaces (program_of imaged)) (sym e) is.places

pub initialisers_kept : (imaged : Imaged) (kept : Kept) (each : List (Option Initialiser)) → IsKept imaged kept → each ≡ kept.initialisers → AreInitialisers imaged each
initialisers_kept imaged kept each is e = subst (AreInitialisers imaged) (sym e) is.initialisers

pub first_is : (imaged : Imaged) (limits : Thresholds) (h : LimitedHeap) (frames : List StackFrame) (kept : Kept) (places : Places) (count texts : ℕ) (flags : List Bool) (statics : List ℕ)
    (table : LiteralTable) (counter : Option Counter) → IsKept imaged kept → places ≡ kept.places → count ≡ places.count → flags ≡ replicate (length (program_of imaged)) false
    → AreFlags (program_of imaged) flags → statics ≡ replicate count 0 → texts ≡ length imaged.texts → table ≡ record { count = texts; made = [] } → IsCounter imaged.prefix limits counter
    → IsFirst imaged limits h frames (record { parts = parts flags (store h statics table) frames; counter = counter; stop = 0 })
first_is imaged limits h frames kept places count texts flags statics table counter is own many none are zeros long empty counts =
    let all : statics ≡ replicate (static_count (program_of imaged)) 0 = zeros ∙ ap (λ (n : ℕ). replicate n 0) (many ∙ (ap (λ (p : Places). p.count) own ∙ is.places.count)) in
    let unmade : table ≡ record { count = length imaged.texts; made = [] } = empty ∙ ap (λ (n : ℕ). record { count = n; made = [] }) long in
    record {
      parts = λ i. parts (none i) (store h (all i) (unmade i)) frames;
      flags = are;
      counter = counts;
      stop = refl;
    }

module _ (imaged : Imaged) (limits : Thresholds) (h : LimitedHeap) (frames : List StackFrame) (r : Running) (first : IsFirst imaged limits h frames r) where
  pub flags_first : AreFlags (program_of imaged) r.parts.flags
  flags_first = first.flags

  pub store_first : IsStore imaged r.parts.store
  store_first = subst (λ (p : Parts). IsStore imaged p.store) (sym first.parts) (store_at_start imaged h)

  pub begins_run : (entry : ℕ) (new : Running) (how : Prepared) → AreKnown (types_of (typed_of imaged)) h → PreparesEntry imaged entry r.parts new.parts how
      → (AreKnown (types_of (typed_of imaged)) r.parts.store.heap → AreKnown (types_of (typed_of imaged)) new.parts.store.heap) → new.counter ≡ r.counter → new.stop ≡ r.stop
      → BeginsRun imaged entry limits h frames new how
  begins_run entry new how known did knows counter stop = record {
    did = subst (λ (p : Parts). PreparesEntry imaged entry p new.parts how) first.parts did;
    counter = subst (IsCounter imaged.prefix limits) (sym counter) first.counter;
    stop = stop ∙ first.stop;
    known = knows (subst (λ (p : Parts). AreKnown (types_of (typed_of imaged)) p.store.heap) (sym first.parts) known);
  }

-- ---- the entry's class

class_there : (program : Program) (class : ℕ) (name : Name) → name_at program class ≡ Some name → class < length program
class_there program class name e = by (slice_get program class) refl e where
  by : (o : Option Class) → slice_get program class ≡ o → option_map name_of o ≡ Some name → class < length program
  by None is f = absurd (none-some name f)
  by (Some c) is f = slice_get_within program class c is

pub class_within : (imaged : Imaged) (n : ℕ) (reported : MemberOf) → IsMethodThere (typed_of imaged) n reported → reported.class < length (program_of imaged)
class_within imaged n reported is = class_there (program_of imaged) reported.class is.found.class is.class

pub entry_prepared : (imaged : Imaged) (n : ℕ) (reported : MemberOf) (before after : Parts) (result : Result Prepared AllocError) → IsMethodThere (typed_of imaged) n reported
    → IfOk result (λ how. Prepares imaged reported.class before after how) → IfOk result (λ how. PreparesEntry imaged n before after how)
entry_prepared imaged n reported before after (Err e) is prepares = tt
entry_prepared imaged n reported before after (Ok how) is prepares = record {
  class = reported.class;
  named = ap (λ (o : Option Name). unwrap_or o []) is.class ∙ sym (ap (λ (d : Declared). d.class) (declared_there (program_of imaged) n is.found is.there));
  prepares = prepares;
}

pub known_after : (types : List Ty) (before after : LimitedHeap) (result : Result Prepared AllocError) → (AreKnown types before → IfOk result (λ _. AreKnown types after))
    → IfOk result (λ _. AreKnown types before → AreKnown types after)
known_after types before after (Err e) knows = tt
known_after types before after (Ok how) knows = knows
