-- A text object that is made for a literal is known.
use Rattle.std.proofs.Common.{◌≡◌, ℕ, ◌+◌, ◌<◌, Bool, true, false, List, [], ◌∷◌, ◌++◌, length, All, Option, Some, None, refl, subst, if◌then◌else◌}
use Rattle.std.proofs.lemmas.List.Elements.{All-push}
use Rattle.std.proofs.lemmas.Option.{none-some, same_Some}
use Rattle.dj_names.specs.declared.descriptor.Ty.{Ty}
use Rattle.dj_names.specs.trusted.Heaps.{Heap, Text, next_number, text_size, with_new}
use Rattle.dj_model.specs.trusted.Arrays.{passes_limit}
use Rattle.dj_natives.specs.Known.{IsKnown}
use Rattle.dj_member_effects.specs.Literals.{KeptBy, kept_by, kept_or_made_by, object_of}

-- the objects of a heap without its limit
abbrev pub AreKnownIn : List Ty → Heap ℕ → Type 0
AreKnownIn types heap = All (IsKnown types) heap.objects

text_known : (types : List Ty) (heap : Heap ℕ) (class : ℕ) (units : List ℕ) → class < length types → AreKnownIn types heap → AreKnownIn types (with_new heap (Text class units))
text_known types heap class units within known = All-push (IsKnown types) heap.objects (Text class units) known (record { class = within; holds = tt })

pub kept_known : (types : List Ty) (limit : Option ℕ) (class text : ℕ) (units : List ℕ) (heap : Heap ℕ) (literals : List (ℕ × ℕ)) (kept : KeptBy) → class < length types
    → kept_by limit class text units heap literals ≡ Some kept → AreKnownIn types heap → AreKnownIn types kept.heap
kept_known types limit class text units heap literals kept within is known = by (object_of literals text) is where
  made : KeptBy
  made = record { object = next_number heap; heap = with_new heap (Text class units); literals = literals ++ (text, next_number heap) ∷ [] }

  new : (b : Bool) → (if b then None else Some made) ≡ Some kept → AreKnownIn types kept.heap
  new true e = absurd (none-some kept e)
  new false e = subst (λ (k : KeptBy). AreKnownIn types k.heap) (same_Some made kept e) (text_known types heap class units within known)

  by : (object : Option ℕ) → kept_or_made_by limit class text units heap literals object ≡ Some kept → AreKnownIn types kept.heap
  by None e = new (passes_limit limit (heap.used + text_size units)) e
  by (Some r) e =
      let old : KeptBy = record { object = r; heap = heap; literals = literals } in
      subst (λ (k : KeptBy). AreKnownIn types k.heap) (same_Some old kept e) known
