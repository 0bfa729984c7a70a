-- The first object of a class stays the first one, as heaps only grow.
use Rattle.std.proofs.Common.{◌≡◌, ℕ, ◌+◌, Bool, true, false, List, [], ◌∷◌, ◌++◌, map, Option, Some, None, refl, sym, ap, ◌∙◌, if◌then◌else◌}
use Rattle.dj_names.specs.declared.descriptor.Ty.{Ty}
use Rattle.dj_names.specs.trusted.Heaps.{Object, Instance, Array, Text, Heap, class_of}
use Rattle.dj_model.specs.trusted.Types.{Prefix, is_stop}
use Rattle.dj_model.specs.trusted.Step.{stop_from}
use Rattle.dj_model.specs.Laws.{Grows, blank}
use Rattle.dj_heap.specs.Heaps.{LimitedHeap}
use Rattle.dj_natives.specs.Calls.{typed_heap}
use Rattle.dj_numbering.specs.Typed.{types_of}
use Rattle.dj_image.specs.Imaged.{Imaged, typed_of}
use Rattle.dj_settling.specs.Settling.{IsStop}

class_of_blank : (o : Object Ty) → class_of (blank o) ≡ class_of o
class_of_blank (Instance class fields) = refl
class_of_blank (Array class element contents) = refl
class_of_blank (Text class units) = refl

stop_from_blank : (prefix : Prefix) (r : ℕ) (objects : List (Object Ty)) → stop_from prefix r (map blank objects) ≡ stop_from prefix r objects
stop_from_blank prefix r [] = refl
stop_from_blank prefix r (o ∷ objects) =
    ap (λ (ty : Ty). if is_stop prefix ty then Some r else stop_from prefix (r + 1) (map blank objects)) (class_of_blank o)
    ∙ ap (λ (rest : Option ℕ). if is_stop prefix (class_of o) then Some r else rest) (stop_from_blank prefix (r + 1) objects)

stop_from_more : (prefix : Prefix) (r : ℕ) (a b : List (Object Ty)) (n : ℕ) → stop_from prefix r a ≡ Some n → stop_from prefix r (a ++ b) ≡ Some n
stop_from_more prefix r [] b n e = absurd cc
stop_from_more prefix r (o ∷ a) b n e = by (is_stop prefix (class_of o)) e (stop_from_more prefix (r + 1) a b n) where
  by : (t : Bool) → (if t then Some r else stop_from prefix (r + 1) a) ≡ Some n → (stop_from prefix (r + 1) a ≡ Some n → stop_from prefix (r + 1) (a ++ b) ≡ Some n)
      → (if t then Some r else stop_from prefix (r + 1) (a ++ b)) ≡ Some n
  by true e later = e
  by false e later = later e

stop_grows : (prefix : Prefix) (before after : Heap Ty) (n : ℕ) → Grows before after → stop_from prefix 1 before.objects ≡ Some n → stop_from prefix 1 after.objects ≡ Some n
stop_grows prefix before after n grows e =
    sym (stop_from_blank prefix 1 after.objects)
    ∙ (ap (stop_from prefix 1) grows.objects
    ∙ stop_from_more prefix 1 (map blank before.objects) (map blank grows.more) n (stop_from_blank prefix 1 before.objects ∙ e))

pub stop_kept : (imaged : Imaged) (before after : LimitedHeap) (stop : ℕ) → Grows (typed_heap (types_of (typed_of imaged)) before) (typed_heap (types_of (typed_of imaged)) after)
    → IsStop imaged before stop → IsStop imaged after stop
stop_kept imaged before after stop grows is = λ some. stop_grows imaged.prefix (typed_heap (types_of (typed_of imaged)) before) (typed_heap (types_of (typed_of imaged)) after) stop grows (is some)
