-- The accounter: its sums with their thresholds, and what a charge does to them.
use Rattle.std.specs.Prelude.{◌≡◌, ℕ, ◌+◌, ◌*◌, ◌^◌, ◌≤◌, ◌⊎◌, length, Option, Some, None}
use Rattle.std.specs.Borrow.{MutBor}
use Rattle.std.proofs.Common.{inl, inr}
use Rattle.dj_names.specs.declared.run.Charge.{Charge}
use Rattle.dj_names.specs.declared.run.Charge.TheVariants as charges
use Rattle.dj_names.specs.declared.run.Thresholds.{Thresholds}
use Rattle.dj_names.specs.trusted.Heaps.{rounded}
use Rattle.dj_model.specs.trusted.State.{Account}
use Rattle.dj_model.specs.trusted.Charging as model
use Rattle.dj_model.specs.trusted.Charging.{charge_one}
use Rattle.dj_model.specs.trusted.Natives as answered
use Rattle.dj_natives.specs.declared.amount.Amount.{Amount}
use Rattle.dj_natives.specs.declared.accounter.Charged.{Charged}
use Rattle.dj_natives.specs.declared.accounter.Charged.TheVariants as charged

pub record Counter : Type 0 where
  pub limits : Thresholds
  pub account : Account

-- no sum that is within its threshold passes 64 bits by one more charge
pub record AreLow (limits : Thresholds) : Type 0 where
  pub alloc : limits.alloc ≤ 2 ^ 62
  pub invoke : limits.invoke ≤ 2 ^ 62
  pub jump : limits.jump ≤ 2 ^ 62
  pub throw : limits.throw ≤ 2 ^ 62

-- ---- what a charge does

abbrev pub charged_by : Account → Option Charge → model.Charged
charged_by account None = model.Fine account
charged_by account (Some charge) = model.Over charge account

abbrev pub reported : Option Charge → Charged
reported None = charged.Fine
reported (Some charge) = charged.Stop

-- a charge was added as in the model of a run: the account is the model's, and the answer is whether the run goes on
pub record Adds (charge : Charge) (n : ℕ) (old new : Counter) (result : Charged) : Type 0 where
  pub limits : new.limits ≡ old.limits
  pub account : charge_one old.limits old.account charge n ≡ charged_by new.account new.account.exceeded
  pub answer : result ≡ reported new.account.exceeded

-- what a text of this many units is charged
abbrev pub text_amount : ℕ → ℕ
text_amount units = 16 + rounded (2 * units)

-- what is charged before anything of an answer is done
abbrev pub owed : answered.Answer → Option (Charge × ℕ)
owed (answered.MakesText units) = Some (charges.Alloc, text_amount (length units))
owed (answered.KeepsText object units) = Some (charges.Alloc, text_amount (length units))
owed (answered.MakesChars units) = Some (charges.Alloc, text_amount (length units))
owed (answered.Adds charge n) = Some (charge, n)
owed answer = None

abbrev pub due_view : Option Amount → Option (Charge × ℕ)
due_view None = None
due_view (Some due) = Some (due.charge, due.amount)

-- an accounter, where there is one, adds what is due
abbrev pub Counts : Option (Charge × ℕ) → Option Counter → Option Counter → Charged → Type 0
Counts None before after result = (after ≡ before) × (result ≡ charged.Fine)
Counts (Some due) None after result = (after ≡ None) × (result ≡ charged.Fine)
Counts (Some due) (Some before) None result = ⊥
Counts (Some due) (Some before) (Some after) result = Adds due.0 due.1 before after result

-- ---- an accounter that is borrowed for a call, where there is one

abbrev pub lent : Option (MutBor Counter) → Option Counter
lent None = None
lent (Some accounter) = Some accounter.now

-- what it is when the call returns
abbrev pub left : Unit {0} ⊎ ((MutBor Counter × Unit {0}) ⊎ ⊥) → Option Counter
left (inl nobody) = None
left (inr (inl accounter)) = Some accounter.0.now
left (inr (inr nothing)) = None
