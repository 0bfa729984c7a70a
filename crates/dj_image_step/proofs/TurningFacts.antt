-- What the parts of a step say, by plain values.
use Rattle.std.proofs.Common.{◌≡◌, ℕ, [], ◌∷◌, Option, Some, None, refl, arith}
use Rattle.dj_names.specs.declared.native.NativeId.TheVariants as natives
use Rattle.dj_names.specs.declared.run.Charge.{Charge}
use Rattle.dj_names.specs.declared.run.Value.TheVariants as values
use Rattle.dj_model.specs.trusted.Instructions.{Nop}
use Rattle.dj_model.specs.trusted.State.{Terms, Uncounted, State}
use Rattle.dj_model.specs.trusted.Charging.{new_account}
use Rattle.dj_model.specs.trusted.Effects.{used_class}
use Rattle.dj_model.specs.trusted.Natives.{Nanos, Word}
use Rattle.dj_model.specs.trusted.Step.{IllFormed}
use Rattle.dj_model.specs.trusted.Runs.{empty_heap}
use Rattle.dj_heap.specs.Heaps.{LimitedHeap}
use Rattle.dj_natives.specs.Counting.{Counter}
use Rattle.dj_image.specs.Imaged.{Imaged}
use Rattle.dj_image_effects.specs.declared.acted.Acted.TheVariants as acts
use Rattle.dj_settling.specs.declared.settled.Settled.TheVariants as settles
use Rattle.dj_image_step.specs.Running.{Counts}
use Rattle.dj_image_step.specs.Doing.{ActedSettles, IsTop, IsUsed, doing_next}
use Rattle.dj_image_step.specs.Natives.{IsQuiet}

abbrev image : Imaged
image = record { sources = []; prefix = []; arrays = []; texts = [] }

abbrev terms : Terms
terms = record { limit = None; counting = Uncounted }

abbrev state : State
state = record { heap = empty_heap; statics = []; initialised = []; literals = []; frames = []; account = new_account; answers = [] }

-- without a frame there is no step, and no top
no_step : doing_next image terms state ≡ IllFormed
no_step = refl

no_top : (method number : ℕ) → IsTop image [] method number → ⊥
no_top method number top = let some = top.some in absurd (omega (arith, some))

-- nop uses no class, and isn't reported to use one
none_used : IsUsed image Nop None
unfolding used_class
none_used = refl

not_used : IsUsed image Nop (Some 0) → ⊥
unfolding used_class
not_used used = let is = used.1 in absurd cc

-- somebody counts just where the classes are rewritten
nobody : Counts [] None
nobody = tt

not_counted : (counter : Counter) → Counts [] (Some counter) → ⊥
not_counted counter counts = counts

not_uncounted : Counts (115 ∷ []) None → ⊥
not_uncounted counts = counts

-- what was not done, and a call, isn't settled
not_stuck : (exceeded : Option Charge) (heap : LimitedHeap) → ActedSettles image exceeded acts.Stuck heap heap [] [] settles.Went → ⊥
not_stuck exceeded heap reported = reported

no_call : (exceeded : Option Charge) (heap : LimitedHeap) → ActedSettles image exceeded acts.Call heap heap [] [] settles.Went → ⊥
no_call exceeded heap reported = reported

-- a hash by an object's number asks nothing; a clock asks, and so does a hash by a word, though not of null
hash_quiet : IsQuiet natives.ObjectHashCode
hash_quiet args = refl

clock_asks : IsQuiet natives.NanoTime → ⊥
clock_asks quiet = let none : Some Nanos ≡ None = quiet [] in absurd cc

identity_asks : IsQuiet natives.HostIdentityHashCode → ⊥
identity_asks quiet = let none : Some Word ≡ None = quiet (values.Ref 1 ∷ []) in absurd cc
