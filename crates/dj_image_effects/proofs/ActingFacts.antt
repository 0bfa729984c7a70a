-- What is said of instructions, at plain values.
use Rattle.std.proofs.Common.{◌≡◌, ℤ, pos, List, [], ◌∷◌, map, Some, None, refl, arith, codes}
use Rattle.std.proofs.lemmas.Bool.{false≢true}
use Rattle.dj_names.specs.declared.descriptor.Base.TheVariants as bases
use Rattle.dj_names.specs.declared.descriptor.Desc.TheVariants as descs
use Rattle.dj_names.specs.declared.descriptor.Kind.TheVariants as kinds
use Rattle.dj_names.specs.declared.run.Value.{Value}
use Rattle.dj_names.specs.declared.run.Value.TheVariants as values
use Rattle.dj_names.specs.declared.run.Element.TheVariants as elements
use Rattle.dj_names.specs.trusted.Types.{array_type, base_type, class_type}
use Rattle.dj_model.specs.trusted.Types.{Member}
use Rattle.dj_model.specs.trusted.Instructions as model
use Rattle.dj_model.specs.trusted.Instructions.{Instruction}
use Rattle.dj_model.specs.trusted.Values.{on_values}
use Rattle.dj_model.specs.trusted.Effects.{effect}
use Rattle.dj_heap.specs.Heaps.{LimitedHeap}
use Rattle.dj_stack.specs.Frames.{StackFrame}
use Rattle.dj_effects.specs.declared.actions.Movement.TheVariants as moves
use Rattle.dj_effects.specs.declared.actions.PlainAction.TheVariants as actions
use Rattle.dj_effects.specs.declared.actions.Slots.TheVariants as slots
use Rattle.dj_effects.specs.declared.way.Way.TheVariants as ways
use Rattle.dj_image.specs.Imaged.{Imaged}
use Rattle.dj_initialisation.specs.Store.{Store, store}
use Rattle.dj_image_effects.specs.declared.acted.Acted.TheVariants as acts
use Rattle.dj_image_effects.specs.declared.uses.FieldUse.TheVariants as fields
use Rattle.dj_image_effects.specs.declared.uses.ClassUse.TheVariants as classes
use Rattle.dj_image_effects.specs.Acting.{Acts, HasRoom, IsActed, IsTopThere, Machine, machine}
use Rattle.dj_image_effects.specs.Elements.{HoldsElements}
use Rattle.dj_image_effects.specs.Growing.{growth, move_growth}
use Rattle.dj_image_effects.specs.Kinds.{kind_by}
use Rattle.dj_image_effects.specs.Uses.{class_use_of, field_use_of}

abbrev image : Imaged
image = record { sources = []; prefix = []; arrays = []; texts = [] }

abbrev heap : LimitedHeap
heap = record { heap = record { objects = []; used = 0 }; limit = 100 }

abbrev kept : Store
kept = store heap [] (record { count = 0; made = [] })

abbrev frames : List Value → List StackFrame
frames operands = record { method = 0; number = 0; locals = []; operands = operands; room = 1 } ∷ []

abbrev int : ℤ → Value
int z = values.Int z

-- ---- what is done

pushed : Acts image (model.Push (int (pos 3))) (machine (frames []) kept) (machine (frames (int (pos 3) ∷ [])) kept) (acts.Goes ways.Next)
unfolding effect on_values
pushed = record {
  effect = λ terms own account answers limit. refl;
  limit = refl;
  frames = record { count = refl; method = refl; room = refl; below = refl };
  number = refl;
  are = record { statics = refl; count = refl; texts = tt };
}

-- an instruction that is done is no call
no_call : (i : Instruction) (before after : Machine) → Acts image i before after acts.Call → ⊥
no_call i before after a = a.are

-- and what is no call isn't reported as one
push_no_call : IsActed image (model.Push (int (pos 3))) (machine (frames []) kept) (machine (frames []) kept) acts.Call → ⊥
push_no_call reported = let is = reported.0 in absurd cc

-- ---- room

abbrev field : Member
field = record { class = class_type (codes "A"); name = codes "x"; desc = descs.Field (base_type bases.Int) }

room : HasRoom (model.GetStatic field) (frames [])
room = omega arith

no_room : HasRoom (model.GetStatic field) (frames (int (pos 1) ∷ [])) → ⊥
no_room less = omega (arith, less)

-- null is there, and no other reference where there is no object
there : IsTopThere heap.heap (values.Ref 0 ∷ int (pos 4) ∷ [])
there = omega arith

not_there : IsTopThere heap.heap (values.Ref 1 ∷ []) → ⊥
not_there le = omega (arith, le)

-- of what is under the top it isn't asked
under_top : IsTopThere heap.heap (int (pos 4) ∷ values.Ref 1 ∷ [])
under_top = tt

-- dup grows the operands by one, dup2 by two, and what is put under others by as many; swap and pop by none
growths : map (λ movement. move_growth movement) (moves.Double slots.One ∷ moves.Double slots.Two ∷ moves.Under slots.One slots.Two ∷ moves.Under slots.Two slots.One ∷ moves.Swap ∷ moves.Drop slots.Two ∷ [])
    ≡ 1 ∷ 2 ∷ 1 ∷ 2 ∷ 0 ∷ 0 ∷ []
growths = refl

pushes_more : growth (actions.Push (int (pos 3))) ≡ 1
pushes_more = refl

stores_no_more : growth (actions.Store kinds.Int 0) ≡ 0
stores_no_more = refl

-- an array of references is of a class of such arrays
holds : HoldsElements (array_type (class_type (codes "A")) ∷ []) 0 elements.Ref
holds e = refl

holds_no_class : HoldsElements (class_type (codes "A") ∷ []) 0 elements.Ref → ⊥
holds_no_class holds = false≢true (holds refl)

holds_numbers : HoldsElements (class_type (codes "A") ∷ []) 0 elements.Int
holds_numbers e = absurd (false≢true e)

-- ---- kinds and uses

letters : map (λ text. kind_by text) (codes "I" ∷ codes "Z" ∷ codes "J" ∷ codes "D" ∷ codes "[J" ∷ codes "LJ;" ∷ [])
    ≡ Some kinds.Int ∷ Some kinds.Int ∷ Some kinds.Long ∷ None ∷ Some kinds.Ref ∷ Some kinds.Ref ∷ []
letters = refl

not_by_elements : kind_by (codes "[J") ≡ Some kinds.Long → ⊥
not_by_elements e = absurd cc

field_uses : map (λ op. field_use_of op) (177 ∷ 178 ∷ 179 ∷ 180 ∷ 181 ∷ 182 ∷ []) ≡ fields.Neither ∷ fields.GetStatic ∷ fields.PutStatic ∷ fields.Get ∷ fields.Put ∷ fields.Neither ∷ []
field_uses = refl

class_uses : map (λ op. class_use_of op) (187 ∷ 189 ∷ 192 ∷ 193 ∷ 190 ∷ []) ≡ classes.New ∷ classes.NewArray ∷ classes.Cast ∷ classes.Instance ∷ classes.Other ∷ []
class_uses = refl
