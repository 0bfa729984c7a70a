-- What is known of fields, casts, static fields and literals, at plain values.
use Rattle.std.proofs.Common.{◌≡◌, ◌<◌, ◌%◌, ℕ, Bool, true, false, arith, pos, List, [], ◌∷◌, length, map, Option, Some, None, nat_eq, Result, Ok, Err, refl, ap}
use Rattle.std.proofs.lemmas.List.Elements.{All-from_recursion, All-get_or}
use Rattle.dj_names.specs.declared.descriptor.Kind.TheVariants as kinds
use Rattle.dj_names.specs.declared.run.Value.{Value}
use Rattle.dj_names.specs.declared.run.Value.TheVariants as values
use Rattle.dj_names.specs.declared.run.Element.TheVariants as elements
use Rattle.dj_names.specs.declared.run.Raised.TheVariants as raises
use Rattle.dj_names.specs.declared.run.Outcome.{Outcome}
use Rattle.dj_names.specs.declared.run.Outcome.TheVariants as outcomes
use Rattle.dj_names.specs.trusted.Heaps.{Object, Instance, Array, class_of}
use Rattle.dj_model.specs.trusted.State as states
use Rattle.dj_model.specs.trusted.State.{Next, Raise}
use Rattle.dj_model.specs.trusted.Arrays.{OnHeap, flows}
use Rattle.dj_heap.specs.Heaps.{LimitedHeap}
use Rattle.dj_stack.specs.Frames.{StackFrame}
use Rattle.dj_effects.specs.declared.way.Way.TheVariants as ways
use Rattle.dj_effects.specs.declared.way.Flow.TheVariants as goes
use Rattle.dj_effects.specs.DoesOnHeap.{DoesOnHeap}
use Rattle.dj_member_effects.specs.declared.objects.Thrown.TheVariants as thrown
use Rattle.dj_member_effects.specs.Numbering.{AreNumbered, has_of}
use Rattle.dj_model.specs.trusted.Linking.{chain_of}
use Rattle.dj_names.specs.declared.descriptor.Base.TheVariants as bases
use Rattle.dj_names.specs.declared.descriptor.Ty.{Ty}
use Rattle.dj_names.specs.trusted.Types.{class_type, base_array}
use Rattle.dj_member_effects.specs.Fields.{get_field_by, put_field_by, holder_by, holder_reported}
use Rattle.dj_member_effects.specs.Objects.{HasObject, check_cast_by, instance_of_by, new_by, throw_by}
use Rattle.dj_member_effects.specs.Statics.{DoesOnStatics, leaves, get_static_by, put_static_by}
use Rattle.dj_member_effects.specs.declared.literals.Kept.TheVariants as keeps
use Rattle.dj_member_effects.specs.Literals.{AreTexts, IsFull, kept_by, object_of, object_reported, literals_map, push_text_by, literal_flows, OnLiterals, LiteralTable, DoesOnLiterals}

-- the class 2 and those below it have the field, which are those of even numbers
abbrev even : ℕ → Bool
even class = nat_eq (class % 2) 0

-- an instance of class 4, one of class 3, and an array of class 2
abbrev objects_with : ℕ → List (Object ℕ)
objects_with bits = Instance 4 (7 ∷ bits ∷ []) ∷ Instance 3 (8 ∷ []) ∷ Array 2 elements.Int (pos 1 ∷ []) ∷ []

abbrev heap : ℕ → LimitedHeap
heap bits = record { heap = record { objects = objects_with bits; used = 80 }; limit = 100 }

abbrev frames : List Value → List StackFrame
frames operands = record { method = 3; number = 7; locals = []; operands = operands; room = 3 } ∷ []

-- ---- holders

-- null, an instance below the class, one that isn't, an array, and no object
holders : map (λ r. holder_reported (holder_by even (heap 5).heap r)) (0 ∷ 1 ∷ 2 ∷ 3 ∷ 4 ∷ [])
    ≡ Err (goes.Goes (ways.Raise raises.NullPointer)) ∷ Ok 2 ∷ Err goes.Link ∷ Err goes.Link ∷ Err goes.Link ∷ []
holders = refl

numbered : AreNumbered 5 (heap 5).heap
numbered = All-from_recursion (λ (object : Object ℕ). class_of object < 5) (objects_with 5) (omega arith, (omega arith, (omega arith, tt)))

too_few : AreNumbered 4 (record { objects = Instance 4 [] ∷ []; used = 16 }) → ⊥
too_few all =
    let less : 4 < 4 = All-get_or (λ (object : Object ℕ). class_of object < 4) (Instance 4 [] ∷ []) 0 (Instance 4 []) (omega arith) all in
    omega (arith, less)

-- ---- fields

abbrev operands_reported : Option (OnHeap ℕ) → List Value
operands_reported None = []
operands_reported (Some e) = e.operands

abbrev result_reported : Option (OnHeap ℕ) → Result states.Way Outcome
result_reported None = Ok Next
result_reported (Some e) = e.result

abbrev objects_reported : Option (OnHeap ℕ) → List (Object ℕ)
objects_reported None = []
objects_reported (Some e) = e.heap.objects

got : DoesOnHeap (get_field_by even kinds.Ref 1) (frames (values.Ref 1 ∷ [])) (frames (values.Ref 5 ∷ [])) (heap 5) (heap 5) (Some (goes.Goes ways.Next))
unfolding get_field_by
got = record { effect = refl; limit = refl; frames = record { frames = record { count = refl; method = refl; room = refl; below = refl }; number = refl; locals = refl } }

got_other_apart : Some (flows (heap 5).heap (values.Ref 5 ∷ []) (Ok Next)) ≡ Some (flows (heap 5).heap (values.Ref 7 ∷ []) (Ok Next)) → ⊥
got_other_apart e = let same : values.Ref 5 ∷ [] ≡ values.Ref 7 ∷ [] = ap operands_reported e in absurd cc

got_other : DoesOnHeap (get_field_by even kinds.Ref 1) (frames (values.Ref 1 ∷ [])) (frames (values.Ref 7 ∷ [])) (heap 5) (heap 5) (Some (goes.Goes ways.Next)) → ⊥
unfolding get_field_by
got_other does = got_other_apart does.effect

put : DoesOnHeap (put_field_by even kinds.Ref 1) (frames (values.Ref 9 ∷ values.Ref 1 ∷ [])) (frames []) (heap 5) (heap 9) (Some (goes.Goes ways.Next))
unfolding put_field_by
put = record { effect = refl; limit = refl; frames = record { frames = record { count = refl; method = refl; room = refl; below = refl }; number = refl; locals = refl } }

abbrev second_field : List (Object ℕ) → ℕ
second_field (Instance class (a ∷ (b ∷ fields)) ∷ others) = b
second_field others = 0

put_nothing_apart : Some (flows (heap 9).heap [] (Ok Next)) ≡ Some (flows (heap 5).heap [] (Ok Next)) → ⊥
put_nothing_apart e = let same : 9 ≡ 5 = ap (λ e. second_field (objects_reported e)) e in omega (arith, same)

put_nothing : DoesOnHeap (put_field_by even kinds.Ref 1) (frames (values.Ref 9 ∷ values.Ref 1 ∷ [])) (frames []) (heap 5) (heap 5) (Some (goes.Goes ways.Next)) → ⊥
unfolding put_field_by
put_nothing does = put_nothing_apart does.effect

-- a value of another kind isn't put
put_long : put_field_by even kinds.Ref 1 (heap 5).heap (values.Long (pos 9) ∷ values.Ref 1 ∷ []) ≡ None
unfolding put_field_by
put_long = refl

-- ---- new objects

made_new : operands_reported (new_by (Some 100) 4 0 (heap 5).heap []) ∷ operands_reported (new_by (Some 100) 4 1 (heap 5).heap []) ∷ [] ≡ (values.Ref 4 ∷ []) ∷ [] ∷ []
made_new = refl

full : result_reported (new_by (Some 100) 4 1 (heap 5).heap []) ≡ Err (outcomes.HeapFull 80 24)
full = refl

-- ---- casts

cast_results : map (λ r. result_reported (check_cast_by even (heap 5).heap (values.Ref r ∷ []))) (0 ∷ 1 ∷ 2 ∷ 3 ∷ [])
    ≡ Ok Next ∷ Ok Next ∷ Ok (Raise raises.ClassCast) ∷ Ok Next ∷ []
unfolding check_cast_by
cast_results = refl

null_refused_apart : Some (flows (heap 5).heap (values.Ref 0 ∷ []) (Ok Next)) ≡ Some (flows (heap 5).heap (values.Ref 0 ∷ []) (Ok (Raise raises.ClassCast))) → ⊥
null_refused_apart e = let same : ◌≡◌ {A = Result states.Way Outcome} (Ok Next) (Ok (Raise raises.ClassCast)) = ap result_reported e in absurd cc

null_refused : DoesOnHeap (check_cast_by even) (frames (values.Ref 0 ∷ [])) (frames (values.Ref 0 ∷ [])) (heap 5) (heap 5) (Some (goes.Goes (ways.Raise raises.ClassCast))) → ⊥
unfolding check_cast_by
null_refused does = null_refused_apart does.effect

instances : map (λ r. operands_reported (instance_of_by even (heap 5).heap (values.Ref r ∷ []))) (0 ∷ 1 ∷ 2 ∷ [])
    ≡ (values.Int (pos 0) ∷ []) ∷ (values.Int (pos 1) ∷ []) ∷ (values.Int (pos 0) ∷ []) ∷ []
unfolding instance_of_by
instances = refl

null_instance_apart : Some (flows (heap 5).heap (values.Int (pos 0) ∷ []) (Ok Next)) ≡ Some (flows (heap 5).heap (values.Int (pos 1) ∷ []) (Ok Next)) → ⊥
null_instance_apart e = let same : values.Int (pos 0) ∷ [] ≡ values.Int (pos 1) ∷ [] = ap operands_reported e in absurd cc

null_instance : DoesOnHeap (instance_of_by even) (frames (values.Ref 0 ∷ [])) (frames (values.Int (pos 1) ∷ [])) (heap 5) (heap 5) (Some (goes.Goes ways.Next)) → ⊥
unfolding instance_of_by
null_instance does = null_instance_apart does.effect

thrown_objects : map (λ r. throw_by even (heap 5).heap (values.Ref r ∷ [])) (0 ∷ 1 ∷ 2 ∷ []) ≡ Some thrown.Null ∷ Some (thrown.Catch 1) ∷ Some thrown.Link ∷ []
unfolding throw_by
thrown_objects = refl

there : HasObject (heap 5).heap (values.Ref 3 ∷ [])
there e = absurd cc

not_there : HasObject (heap 5).heap (values.Ref 4 ∷ []) → ⊥
not_there e = let null : 4 ≡ 0 = e refl in omega (arith, null)

-- ---- static fields

static_put : put_static_by kinds.Ref 1 (3 ∷ 4 ∷ []) (values.Ref 9 ∷ values.Ref 2 ∷ []) ≡ Some (leaves (3 ∷ 9 ∷ []) (values.Ref 2 ∷ []))
unfolding put_static_by
static_put = refl

static_kind : put_static_by kinds.Int 1 (3 ∷ 4 ∷ []) (values.Ref 9 ∷ []) ≡ None
unfolding put_static_by
static_kind = refl

static_got : get_static_by kinds.Ref 1 (3 ∷ 4 ∷ []) [] ≡ Some (leaves (3 ∷ 4 ∷ []) (values.Ref 4 ∷ []))
static_got = refl

static_reported : DoesOnStatics (put_static_by kinds.Ref 1) (frames (values.Ref 9 ∷ [])) (frames []) (3 ∷ 4 ∷ []) (3 ∷ 9 ∷ []) (Some ways.Next)
unfolding put_static_by
static_reported = record { effect = refl; next = refl; frames = record { frames = record { count = refl; method = refl; room = refl; below = refl }; number = refl; locals = refl } }

-- the run just goes on
static_raises : DoesOnStatics (put_static_by kinds.Ref 1) (frames (values.Ref 9 ∷ [])) (frames []) (3 ∷ 4 ∷ []) (3 ∷ 9 ∷ []) (Some (ways.To 2)) → ⊥
static_raises does = let next = does.next in absurd cc

-- ---- literals

found : map (object_of ((5, 1) ∷ (2, 2) ∷ [])) (5 ∷ 2 ∷ 1 ∷ []) ≡ Some 1 ∷ Some 2 ∷ None ∷ []
found = refl

objects_of : object_reported 0 ∷ object_reported 3 ∷ [] ≡ None ∷ Some 3 ∷ []
objects_of = refl

texts : AreTexts 3 ((1, 1) ∷ (2, 2) ∷ [])
texts = (omega arith, (omega arith, tt))

mapped : literals_map ((65 ∷ []) ∷ (66 ∷ []) ∷ []) ((1, 7) ∷ []) ≡ record { units = 66 ∷ []; object = 7 } ∷ []
mapped = refl

too_many_texts : AreTexts 2 ((1, 1) ∷ (2, 2) ∷ []) → ⊥
too_many_texts known = let less : 2 < 2 = known.1.0 in omega (arith, less)

-- one that is there isn't made anew
kept : push_text_by (Some 100) 9 1 (66 ∷ []) (heap 5).heap ((1, 2) ∷ []) [] ≡ literal_flows (heap 5).heap ((1, 2) ∷ []) (values.Ref 2 ∷ []) (Ok Next)
kept = refl

new_literals : (push_text_by (Some 104) 9 1 (66 ∷ []) (heap 5).heap [] []).literals ≡ (1, 4) ∷ []
new_literals = refl

full_of_literals : (push_text_by (Some 100) 9 1 (66 ∷ []) (heap 5).heap [] []).result ≡ Err (outcomes.HeapFull 80 24)
full_of_literals = refl

abbrev table : List (ℕ × ℕ) → LiteralTable
table made = record { count = 3; made = made }

kept_reported : DoesOnLiterals (push_text_by (Some 100) 9 1 (66 ∷ [])) (frames []) (frames (values.Ref 2 ∷ [])) (heap 5) (heap 5) (table ((1, 2) ∷ [])) (table ((1, 2) ∷ [])) (goes.Goes ways.Next)
kept_reported = record {
  effect = refl;
  limit = refl;
  count = refl;
  frames = record { frames = record { count = refl; method = refl; room = refl; below = refl }; number = refl; locals = refl };
}

abbrev literals_reported : OnLiterals → List (ℕ × ℕ)
literals_reported e = e.literals

-- and by itself
kept_by_itself : kept_by (Some 100) 9 1 (66 ∷ []) (heap 5).heap ((1, 2) ∷ []) ≡ Some (record { object = 2; heap = (heap 5).heap; literals = (1, 2) ∷ [] })
kept_by_itself = refl

not_kept : kept_by (Some 100) 9 1 (66 ∷ []) (heap 5).heap [] ≡ None
not_kept = refl

is_full : IsFull (66 ∷ []) (heap 5) (heap 5) (table []) (table []) (keeps.HeapFull 80 24)
is_full = (refl, refl, refl, refl)

not_so_full : IsFull (66 ∷ []) (heap 5) (heap 5) (table []) (table []) (keeps.HeapFull 80 16) → ⊥
not_so_full full = let size : 16 ≡ 24 = full.1 in omega (arith, size)

-- a literal is made once
anew_apart : literal_flows (heap 5).heap ((1, 2) ∷ []) (values.Ref 2 ∷ []) (Ok Next) ≡ literal_flows (heap 5).heap ((1, 2) ∷ (1, 4) ∷ []) (values.Ref 2 ∷ []) (Ok Next) → ⊥
anew_apart e = let same : 1 ≡ 2 = ap (λ e. length (literals_reported e)) e in omega (arith, same)

anew : DoesOnLiterals (push_text_by (Some 100) 9 1 (66 ∷ [])) (frames []) (frames (values.Ref 2 ∷ [])) (heap 5) (heap 5) (table ((1, 2) ∷ [])) (table ((1, 2) ∷ (1, 4) ∷ []))
    (goes.Goes ways.Next) → ⊥
anew does = anew_apart does.effect

-- ---- which classes have a field

abbrev types : List Ty
types = class_type (65 ∷ []) ∷ class_type (66 ∷ []) ∷ base_array bases.Int ∷ []

has_fields : map (has_of [] types (66 ∷ []) 4) (0 ∷ 1 ∷ 2 ∷ []) ≡ false ∷ true ∷ false ∷ []
unfolding chain_of
has_fields = refl
