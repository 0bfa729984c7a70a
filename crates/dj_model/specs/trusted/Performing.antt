-- What the answer of a native method changes in the state.
use Rattle.std.specs.Prelude.{ℕ, ◌+◌, ◌||◌, Bool, true, false, ℤ, pos, List, [], ◌∷◌, ◌++◌, length, map, Option, Some, None, slice_index, nat_eq, if◌then◌else◌}
use Rattle.dj_names.specs.declared.descriptor.Base.TheVariants as bases
use Rattle.dj_names.specs.declared.descriptor.Ty.{Ty}
use Rattle.dj_names.specs.declared.run.Value.{Value}
use Rattle.dj_names.specs.declared.run.Value.TheVariants as values
use Rattle.dj_names.specs.declared.run.Element.TheVariants as elements
use Rattle.dj_names.specs.declared.run.Raised.{Raised}
use Rattle.dj_names.specs.declared.run.Charge.{Charge}
use Rattle.dj_names.specs.declared.run.Charge.TheVariants as charges
use Rattle.dj_names.specs.declared.run.Outcome.TheVariants as outcomes
use Rattle.dj_names.specs.declared.native.NativeId.{NativeId}
use Rattle.dj_names.specs.trusted.Heaps.{Object, Instance, Array, Text, Heap, class_of, object_at, object_size, with_new, next_number, with_object, field_bits}
use Rattle.dj_names.specs.trusted.Types.{class_type, base_array, component_type}
use Rattle.dj_edge.specs.declared.host.HostAnswer.{HostAnswer}
use Rattle.dj_model.specs.trusted.Types.{Prefix, string_name, is_stop}
use Rattle.dj_model.specs.trusted.Program.{Program}
use Rattle.dj_model.specs.trusted.Linking.{is_subtype, option_list}
use Rattle.dj_model.specs.trusted.State.{Terms, Counting, Uncounted, Metered, Accounted, Account, Part, Next, Raise, Goes, Catch, Stop, End, Effect, goes}
use Rattle.dj_model.specs.trusted.Arrays.{passes_limit}
use Rattle.dj_model.specs.trusted.Charging.{Charged, Fine, Over, charge_one}
use Rattle.dj_model.specs.trusted.Natives.{Answer, Returns, Raises, MakesText, KeepsText, MakesChars, SetsFields, SetsElements, Adds, Rethrows, Elements, Seen, Question, asks, answered, answer, host_answer, shown_class}

-- ---- classes of objects

-- the class of an object; where there is no object it may be any
abbrev pub class_in : Option (Object Ty) → Ty
class_in None = base_array bases.Boolean
class_in (Some object) = class_of object

abbrev pub class_at_number : Heap Ty → ℕ → Ty
class_at_number heap r = class_in (object_at heap.objects r)

-- whether the object is of the class; null is of every class
abbrev pub is_instance : Program → Prefix → Heap Ty → ℕ → Ty → Bool
is_instance program prefix heap r class = nat_eq r 0 || is_subtype program prefix (class_at_number heap r) class

-- the array takes the reference
abbrev pub takes : Program → Prefix → Heap Ty → ℕ → ℕ → Bool
takes program prefix heap array r = is_instance program prefix heap r (component_type (class_at_number heap array))

-- ---- what native methods see

abbrev pub units_in : Option (Object Ty) → List ℕ
units_in (Some (Text class units)) = units
units_in _ = []

abbrev pub is_text_in : Option (Object Ty) → Bool
is_text_in (Some (Text class units)) = true
is_text_in _ = false

abbrev pub object_field : Option (Object Ty) → ℕ → ℕ
object_field (Some (Instance class fields)) place = slice_index fields place
object_field _ place = 0

abbrev pub elements_in : Option (Object Ty) → Option Elements
elements_in (Some (Array class element contents)) = Some (record { element = element; contents = contents })
elements_in _ = None

abbrev pub shown_in : Prefix → Option (Object Ty) → List ℕ
shown_in prefix None = []
shown_in prefix (Some object) = shown_class prefix (class_of object)

abbrev pub seen : Program → Prefix → Heap Ty → Seen
seen program prefix heap = record {
  units = λ r. units_in (object_at heap.objects r);
  is_text = λ r. is_text_in (object_at heap.objects r);
  field = λ r place. object_field (object_at heap.objects r) place;
  elements = λ r. elements_in (object_at heap.objects r);
  takes = λ array r. takes program prefix heap array r;
  class_text = λ r. shown_in prefix (object_at heap.objects r);
}

-- ---- charges of native methods

abbrev pub with_account : Part → Account → Part
with_account p account = record p { account = account }

-- what a charge leads to: the run goes on, or this is what follows in its place
pub data Counted : Type 0 where
  Within : Part → Counted
  Halts : Effect → Counted

-- in a metered run a charge that passes its threshold ends the run
abbrev pub ended_by : Part → Charged → Counted
ended_by p (Fine account) = Within (with_account p account)
ended_by p (Over charge account) = Halts (goes (with_account p account) (End (outcomes.Stopped charge)))

-- in rewritten code it throws the object that stops the run
abbrev pub thrown_by : Part → Charged → Counted
thrown_by p (Fine account) = Within (with_account p account)
thrown_by p (Over charge account) = Halts (goes (with_account p account) Stop)

abbrev pub counted : Counting → Part → Charge → ℕ → Counted
counted Uncounted p charge n = Within p
counted (Metered most) p charge n = ended_by p (charge_one most p.account charge n)
counted (Accounted most) p charge n = thrown_by p (charge_one most p.account charge n)

-- ---- new objects

-- what making an object leads to: it has this number, or this is what follows in its place
pub data Making : Type 0 where
  Made : Part → ℕ → Making
  NotMade : Effect → Making

abbrev pub making : Option ℕ → Part → Object Ty → Making
making limit p object =
    if passes_limit limit (p.heap.used + object_size object) then NotMade (goes p (End (outcomes.HeapFull p.heap.used (object_size object))))
    else Made (record p { heap = with_new p.heap object }) (next_number p.heap)

abbrev pub making_then : Option ℕ → Object Ty → Counted → Making
making_then limit object (Within p) = making limit p object
making_then limit object (Halts e) = NotMade e

-- an object that a native method makes is charged first, and then made
abbrev pub made_charged : Terms → Part → Object Ty → Making
made_charged terms p object = making_then terms.limit object (counted terms.counting p charges.Alloc (object_size object))

abbrev pub text_object : Prefix → List ℕ → Object Ty
text_object prefix units = Text (class_type (string_name prefix)) units

abbrev pub chars_object : List ℕ → Object Ty
chars_object units = Array (base_array bases.Char) elements.Char (map pos units)

-- ---- changed objects

abbrev pub with_fields : List ℕ → List Value → List ℕ
with_fields fields [] = fields
with_fields [] (v ∷ vs) = []
with_fields (bits ∷ fields) (v ∷ vs) = field_bits v ∷ with_fields fields vs

abbrev pub with_fields_in : Option (Object Ty) → List Value → Option (Object Ty)
with_fields_in (Some (Instance class fields)) vs = Some (Instance class (with_fields fields vs))
with_fields_in _ vs = None

-- as many of these elements as the array has
abbrev pub with_elements_in : Option (Object Ty) → List ℤ → Option (Object Ty)
with_elements_in (Some (Array class element contents)) now =
    if nat_eq (length now) (length contents) then Some (Array class element now) else None
with_elements_in _ now = None

abbrev pub set_object : Part → ℕ → Option (Object Ty) → Part
set_object p r None = p
set_object p r (Some object) = record p { heap = with_object p.heap r object }

abbrev pub set_fields : Part → ℕ → List Value → Part
set_fields p r vs = set_object p r (with_fields_in (object_at p.heap.objects r) vs)

abbrev pub set_elements : Part → ℕ → List ℤ → Part
set_elements p r contents = set_object p r (with_elements_in (object_at p.heap.objects r) contents)

-- ---- what follows an answer, where the arguments are taken

abbrev pub returns : Part → Option Value → Effect
returns p result = record { part = record p { operands = option_list result ++ p.operands }; flow = Goes Next }

abbrev pub raises_after : Part → Option Raised → Effect
raises_after p None = goes p (Goes Next)
raises_after p (Some raised) = goes p (Goes (Raise raised))

abbrev pub returns_made : Making → Effect
returns_made (Made p r) = returns p (Some (values.Ref r))
returns_made (NotMade e) = e

abbrev pub keeps_made : ℕ → Making → Effect
keeps_made object (Made p r) = returns (set_fields p object (values.Ref r ∷ [])) (Some (values.Ref object))
keeps_made object (NotMade e) = e

abbrev pub goes_on : Counted → Effect
goes_on (Within p) = goes p (Goes Next)
goes_on (Halts e) = e

unfoldable pub perform : Prefix → Terms → Part → Answer → Effect
perform prefix terms p (Returns result) = returns p result
perform prefix terms p (Raises raised) = goes p (Goes (Raise raised))
perform prefix terms p (MakesText units) = returns_made (made_charged terms p (text_object prefix units))
perform prefix terms p (KeepsText object units) = keeps_made object (made_charged terms p (text_object prefix units))
perform prefix terms p (MakesChars units) = returns_made (made_charged terms p (chars_object units))
perform prefix terms p (SetsFields object vs) = goes (set_fields p object vs) (Goes Next)
perform prefix terms p (SetsElements array contents raised) = raises_after (set_elements p array contents) raised
perform prefix terms p (Adds charge n) = goes_on (counted terms.counting p charge n)
perform prefix terms p (Rethrows object) = goes p (if is_stop prefix (class_at_number p.heap object) then Catch object else Goes Next)

-- ---- the whole of a native method: where it has to ask the host it does so first

abbrev pub with_answer : Program → Prefix → Terms → Part → NativeId → List Value → Option ℤ → Option Effect
with_answer program prefix terms p id args None = None
with_answer program prefix terms p id args (Some z) = Some (perform prefix terms p (host_answer id (seen program prefix p.heap) z args))

-- the first of the host's answers that are left is taken
abbrev pub host_asked : Program → Prefix → Terms → Part → NativeId → List Value → Question → List HostAnswer → Option Effect
host_asked program prefix terms p id args question [] = None
host_asked program prefix terms p id args question (first ∷ rest) =
    with_answer program prefix terms (record p { answers = rest }) id args (answered question first)

abbrev pub native_asked : Program → Prefix → Terms → Part → NativeId → List Value → Option Question → Option Effect
native_asked program prefix terms p id args None = Some (perform prefix terms p (answer id (seen program prefix p.heap) args))
native_asked program prefix terms p id args (Some question) = host_asked program prefix terms p id args question p.answers

unfoldable pub native : Program → Prefix → Terms → Part → NativeId → List Value → Option Effect
native program prefix terms p id args = native_asked program prefix terms p id args (asks id args)
