-- What is charged, at plain values.
use Rattle.std.proofs.Common.{◌≡◌, ℕ, pos, negsuc, [], ◌∷◌, Option, Some, None, refl}
use Rattle.dj_names.specs.declared.run.Charge.{Charge}
use Rattle.dj_names.specs.declared.run.Charge.TheVariants as charges
use Rattle.dj_names.specs.declared.run.Thresholds.{Thresholds}
use Rattle.dj_names.specs.declared.run.Raised.TheVariants as raises
use Rattle.dj_names.specs.declared.run.Value.TheVariants as values
use Rattle.dj_names.specs.declared.native.NativeId.TheVariants as natives
use Rattle.dj_model.specs.trusted.Charging.{charge_one}
use Rattle.dj_model.specs.trusted.Natives as model
use Rattle.dj_model.specs.trusted.State.{Stop, Catch, Goes, Next, Raise}
use Rattle.dj_natives.specs.declared.accounter.Charged.TheVariants as charged
use Rattle.dj_natives.specs.declared.answer.NativeAnswer.TheVariants as reported
use Rattle.dj_natives.specs.Counting as counting
use Rattle.dj_natives.specs.Counting.{Counter, Counts, owed}
use Rattle.dj_natives.specs.Calls.{flow_reported}

abbrev most : Thresholds
most = record { alloc = 100; invoke = 10; jump = 2; throw = 5 }

abbrev after : ℕ → Option Charge → Counter
after n exceeded = record { limits = most; account = record { costs = record { alloc = 0; invoke = 0; jump = n; throw = 0 }; exceeded = exceeded } }

-- the second jump is at its threshold, and the third is past it
second : counting.Adds charges.Jump 1 (after 1 None) (after 2 None) charged.Fine
unfolding charge_one
second = record { limits = refl; account = refl; answer = refl }

third : counting.Adds charges.Jump 1 (after 2 None) (after 3 (Some charges.Jump)) charged.Stop
unfolding charge_one
third = record { limits = refl; account = refl; answer = refl }

-- a charge at its threshold doesn't stop
not_at_threshold : counting.Adds charges.Jump 1 (after 1 None) (after 2 (Some charges.Jump)) charged.Stop → ⊥
unfolding charge_one
not_at_threshold adds = let reported = adds.account in absurd cc

-- nor does a sum stay what it was
not_kept : counting.Adds charges.Jump 1 (after 1 None) (after 1 None) charged.Fine → ⊥
unfolding charge_one
not_kept adds = let reported = adds.account in absurd cc

-- after a stop nothing is added, and the answer is a stop again
again : counting.Adds charges.Throw 1 (after 3 (Some charges.Jump)) (after 3 (Some charges.Jump)) charged.Stop
unfolding charge_one
again = record { limits = refl; account = refl; answer = refl }

-- where there is no accounter nothing is added, and nothing stops
nobody : Counts (Some (charges.Jump, 1)) None None charged.Fine
nobody = (refl, refl)

nobody_stops : Counts (Some (charges.Jump, 1)) None None charged.Stop → ⊥
nobody_stops counts = let reported = counts.1 in absurd cc

-- a text of three units is charged 24 bytes, one of four 24 and one of five 32
texts : owed (model.MakesText (1 ∷ 2 ∷ 3 ∷ [])) ≡ Some (charges.Alloc, 24)
texts = refl

longer : owed (model.KeepsText 1 (1 ∷ 2 ∷ 3 ∷ 4 ∷ 5 ∷ [])) ≡ Some (charges.Alloc, 32)
longer = refl

fields : owed (model.SetsFields 1 (values.Ref 2 ∷ [])) ≡ None
fields = refl

-- the object that checkCatch throws again is its argument
caught : flow_reported natives.CheckCatch (values.Ref 7 ∷ []) reported.Stop ≡ Some (Catch 7)
caught = refl

pub stopped : flow_reported natives.RecordJump [] reported.Stop ≡ Some Stop
stopped = refl

raised : flow_reported natives.StringConcat (values.Ref 1 ∷ values.Ref 0 ∷ []) (reported.Raise raises.NullPointer) ≡ Some (Goes (Raise raises.NullPointer))
raised = refl
