-- Sums of charges, and what follows once a sum passes its threshold.
use Rattle.std.specs.Prelude.{ℕ, ◌+◌, Bool, Option, Some, None, nat_lt, if◌then◌else◌}
use Rattle.dj_names.specs.declared.run.Charge.{Charge}
use Rattle.dj_names.specs.declared.run.Charge.TheVariants as charges
use Rattle.dj_names.specs.declared.run.Costs.{Costs}
use Rattle.dj_names.specs.declared.run.Thresholds.{Thresholds}
use Rattle.dj_model.specs.trusted.State.{Account}

abbrev pub no_costs : Costs
no_costs = record { alloc = 0; invoke = 0; jump = 0; throw = 0 }

abbrev pub new_account : Account
new_account = record { costs = no_costs; exceeded = None }

abbrev pub added : Costs → Charge → ℕ → Costs
added c charges.Alloc n = record c { alloc = c.alloc + n }
added c charges.Invoke n = record c { invoke = c.invoke + n }
added c charges.Jump n = record c { jump = c.jump + n }
added c charges.Throw n = record c { throw = c.throw + n }

-- the sum of the charge is above its threshold
abbrev pub passes : Thresholds → Costs → Charge → Bool
passes most c charges.Alloc = nat_lt most.alloc c.alloc
passes most c charges.Invoke = nat_lt most.invoke c.invoke
passes most c charges.Jump = nat_lt most.jump c.jump
passes most c charges.Throw = nat_lt most.throw c.throw

pub data Charged : Type 0 where
  -- these are the sums, and none is above its threshold
  Fine : Account → Charged
  -- the sum of this charge is above its threshold, and these are the sums
  Over : Charge → Account → Charged

abbrev pub compared_with : Thresholds → Charge → Costs → Charged
compared_with most charge costs =
    if passes most costs charge then Over charge (record { costs = costs; exceeded = Some charge }) else Fine (record { costs = costs; exceeded = None })

abbrev pub charge_after : Thresholds → Account → Charge → ℕ → Option Charge → Charged
charge_after most account charge n None = compared_with most charge (added account.costs charge n)
charge_after most account charge n (Some before) = Over before account

-- one charge is added; once a sum has passed its threshold nothing more is added
unfoldable pub charge_one : Thresholds → Account → Charge → ℕ → Charged
charge_one most account charge n = charge_after most account charge n account.exceeded
