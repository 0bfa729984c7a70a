-- What a charge leaves of the accounter.
use Rattle.std.proofs.Common.{◌≡◌, ℕ, ◌+◌, ◌^◌, ◌<◌, ◌≤◌, Bool, true, false, Option, Some, None, if◌then◌else◌, refl, subst, arith}
use Rattle.dj_names.specs.declared.run.Charge.{Charge}
use Rattle.dj_names.specs.declared.run.Costs.{Costs}
use Rattle.dj_names.specs.declared.run.Thresholds.{Thresholds}
use Rattle.dj_model.specs.trusted.State.{Account}
use Rattle.dj_model.specs.trusted.Charging as model
use Rattle.dj_model.specs.trusted.Charging.{Fine, Over, added, passes, charge_one}
use Rattle.dj_model.specs.Laws.{IsReportedBy}
use Rattle.dj_model.proofs.Fits.{ChargedReported, charge_reported}
use Rattle.dj_natives.specs.declared.accounter.Charged.TheVariants as charged
use Rattle.dj_natives.specs.Counting.{Counter, AreLow, Adds}

abbrev pub account : Costs → Option Charge → Account
account costs exceeded = record { costs = costs; exceeded = exceeded }

abbrev pub counter : Thresholds → Costs → Option Charge → Counter
counter limits costs exceeded = record { limits = limits; account = account costs exceeded }

abbrev pub compared : Charge → Costs → Bool → model.Charged
compared charge costs passed = if passed then Over charge (account costs (Some charge)) else Fine (account costs None)

-- ---- what is added

pub adds_nothing : (limits : Thresholds) (c : Costs) (exceeded : Option Charge) (before charge : Charge) (n : ℕ) → exceeded ≡ Some before
    → Adds charge n (counter limits c exceeded) (counter limits c exceeded) charged.Stop
unfolding charge_one
adds_nothing limits c exceeded before charge n e = rw e (record { limits = refl; account = refl; answer = refl })

pub adds_fine : (limits : Thresholds) (c now : Costs) (exceeded : Option Charge) (charge : Charge) (n : ℕ)
    → exceeded ≡ None → now ≡ added c charge n → passes limits now charge ≡ false
    → Adds charge n (counter limits c exceeded) (counter limits now exceeded) charged.Fine
unfolding charge_one
adds_fine limits c now exceeded charge n none sum e = rw (none, sum) (record { limits = refl; account = rw (← sum, e) refl; answer = refl })

pub adds_over : (limits : Thresholds) (c now : Costs) (exceeded : Option Charge) (charge : Charge) (n : ℕ)
    → exceeded ≡ None → now ≡ added c charge n → passes limits now charge ≡ true
    → Adds charge n (counter limits c exceeded) (counter limits now (Some charge)) charged.Stop
unfolding charge_one
adds_over limits c now exceeded charge n none sum e = rw (none, sum) (record { limits = refl; account = rw (← sum, e) refl; answer = refl })

-- ---- what the accounter reports after it

compared_reported : (limits : Thresholds) (c : Costs) (charge : Charge) (n : ℕ) → IsReportedBy limits c None
    → ChargedReported limits (account c None) (compared charge (added c charge n) (passes limits (added c charge n) charge))
unfolding charge_one
compared_reported limits c charge n reported = charge_reported limits (account c None) charge n reported

pub fine_reported : (limits : Thresholds) (c : Costs) (charge : Charge) (n : ℕ) → IsReportedBy limits c None → passes limits (added c charge n) charge ≡ false
    → IsReportedBy limits (added c charge n) None
fine_reported limits c charge n reported e = (subst (λ b. ChargedReported limits (account c None) (compared charge (added c charge n) b)) e (compared_reported limits c charge n reported)).0

pub over_reported : (limits : Thresholds) (c : Costs) (charge : Charge) (n : ℕ) → IsReportedBy limits c None → passes limits (added c charge n) charge ≡ true
    → IsReportedBy limits (added c charge n) (Some charge)
over_reported limits c charge n reported e = (subst (λ b. ChargedReported limits (account c None) (compared charge (added c charge n) b)) e (compared_reported limits c charge n reported)).0

-- ---- no sum passes 64 bits

pub alloc_fits : (limits : Thresholds) (c : Costs) (n : ℕ) → AreLow limits → IsReportedBy limits c None → n ≤ 2 ^ 63 + 16 → c.alloc + n < 2 ^ 64
alloc_fits limits c n low reported few = omega (arith, low.alloc, reported.alloc)

pub invoke_fits : (limits : Thresholds) (c : Costs) (n : ℕ) → AreLow limits → IsReportedBy limits c None → n ≤ 2 ^ 63 + 16 → c.invoke + n < 2 ^ 64
invoke_fits limits c n low reported few = omega (arith, low.invoke, reported.invoke)

pub jump_fits : (limits : Thresholds) (c : Costs) (n : ℕ) → AreLow limits → IsReportedBy limits c None → n ≤ 2 ^ 63 + 16 → c.jump + n < 2 ^ 64
jump_fits limits c n low reported few = omega (arith, low.jump, reported.jump)

pub throw_fits : (limits : Thresholds) (c : Costs) (n : ℕ) → AreLow limits → IsReportedBy limits c None → n ≤ 2 ^ 63 + 16 → c.throw + n < 2 ^ 64
throw_fits limits c n low reported few = omega (arith, low.throw, reported.throw)
