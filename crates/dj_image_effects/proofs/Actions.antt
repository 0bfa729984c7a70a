-- What an action does.
use Rattle.std.proofs.Common.{◌≡◌, ◌≤◌, true, List, length, Option, refl}
use Rattle.dj_names.specs.declared.descriptor.Base.{Base}
use Rattle.dj_names.specs.declared.run.Element.{Element}
use Rattle.dj_effects.specs.declared.actions.Access.{Access}
use Rattle.dj_heap.specs.Heaps.{LimitedHeap}
use Rattle.dj_stack.specs.Frames.{StackFrame, top_operands, top_room}
use Rattle.dj_effects.specs.Actions.{action_view}
use Rattle.dj_effects.specs.Does.{Does, Fits}
use Rattle.dj_effects.specs.declared.actions.PlainAction.{PlainAction}
use Rattle.dj_effects.specs.declared.actions.PlainAction.TheVariants as actions
use Rattle.dj_effects.specs.declared.way.Way.{Way}
use Rattle.dj_image.specs.Imaged.{Imaged}
use Rattle.dj_initialisation.specs.Store.{store}
use Rattle.dj_image_effects.specs.Acting.{ActsOnHeap, HasRoom}
use Rattle.dj_image_effects.specs.Flows.{way_acted}
use Rattle.dj_image_effects.proofs.Reported.{values_acted}
use Rattle.dj_image_effects.proofs.Effects.{action_on_values, is_on_values}

-- what an action leaves has room
pub plain_room : (action : PlainAction) (frames : List StackFrame) → HasRoom (action_view action) frames → length (top_operands frames) ≤ top_room frames
plain_room actions.Nop frames h = h.1
plain_room (actions.Push v) frames h = h.1
plain_room (actions.Load kind slot) frames h = h.1
plain_room (actions.Store kind slot) frames h = h.1
plain_room (actions.Increment slot by) frames h = h.1
plain_room (actions.LoadElement access) frames h = h.1
plain_room (actions.StoreElement access) frames h = h.1
plain_room (actions.Move movement) frames h = h.1
plain_room (actions.Compute operation) frames h = h.1
plain_room (actions.Convert operation) frames h = h.1
plain_room (actions.Branch test target) frames h = h.1
plain_room (actions.Goto target) frames h = h.1
plain_room (actions.Table default low targets) frames h = h.1
plain_room (actions.Lookup default pairs) frames h = h.1
plain_room (actions.Return kind) frames h = h.1
plain_room (actions.NewArray base element) frames h = h.1
plain_room actions.ArrayLength frames h = h.1
plain_room actions.Throw frames h = h.1
plain_room actions.Monitor frames h = h.1

pub plain_fits : (action : PlainAction) (frames : List StackFrame) → HasRoom (action_view action) frames → Fits (action_view action) frames
plain_fits actions.Nop frames h = h.0
plain_fits (actions.Push v) frames h = h.0
plain_fits (actions.Load kind slot) frames h = h.0
plain_fits (actions.Store kind slot) frames h = h.0
plain_fits (actions.Increment slot by) frames h = h.0
plain_fits (actions.LoadElement access) frames h = h.0
plain_fits (actions.StoreElement access) frames h = h.0
plain_fits (actions.Move movement) frames h = h.0
plain_fits (actions.Compute operation) frames h = h.0
plain_fits (actions.Convert operation) frames h = h.0
plain_fits (actions.Branch test target) frames h = h.0
plain_fits (actions.Goto target) frames h = h.0
plain_fits (actions.Table default low targets) frames h = h.0
plain_fits (actions.Lookup default pairs) frames h = h.0
plain_fits (actions.Return kind) frames h = h.0
plain_fits (actions.NewArray base element) frames h = h.0
plain_fits actions.ArrayLength frames h = h.0
plain_fits actions.Throw frames h = h.0
plain_fits actions.Monitor frames h = h.0

pub plain_acted : (imaged : Imaged) (action : PlainAction) (old new : List StackFrame) (heap : LimitedHeap) (way : Option Way) → is_on_values action ≡ true → Does (action_view action) old new way
    → ActsOnHeap imaged (action_view action) old new heap heap (way_acted way)
plain_acted imaged action old new heap way is does statics literals are =
    values_acted imaged (action_view action) old new (store heap statics literals) way (action_on_values imaged action is) does are

-- an action that is none of arrays and throws is on values
pub values_else : (action : PlainAction) → ((access : Access) → action ≡ actions.LoadElement access → ⊥) → ((access : Access) → action ≡ actions.StoreElement access → ⊥)
    → ((base : Base) (element : Element) → action ≡ actions.NewArray base element → ⊥) → (action ≡ actions.ArrayLength → ⊥) → (action ≡ actions.Throw → ⊥) → is_on_values action ≡ true
values_else (actions.LoadElement access) load store array length throw = absurd (load access refl)
values_else (actions.StoreElement access) load store array length throw = absurd (store access refl)
values_else (actions.NewArray base element) load store array length throw = absurd (array base element refl)
values_else actions.ArrayLength load store array length throw = absurd (length refl)
values_else actions.Throw load store array length throw = absurd (throw refl)
values_else action load store array length throw = refl
