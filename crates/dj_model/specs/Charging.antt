-- Beside trusted/Charging.antt: what no clause of the call `djvm` reaches.
use Rattle.std.specs.Prelude.{ℕ, List, [], ◌∷◌}
use Rattle.dj_names.specs.declared.run.Charge.{Charge}
use Rattle.dj_names.specs.declared.run.Thresholds.{Thresholds}
use Rattle.dj_model.specs.trusted.State.{Account}
use Rattle.dj_model.specs.trusted.Charging.{Charged, Fine, Over, charge_one}

-- a charge and its amount
pub record Amount : Type 0 where
  pub charge : Charge
  pub amount : ℕ

abbrev pub then_charge : (Account → Charged) → Charged → Charged
then_charge more (Fine account) = more account
then_charge more (Over charge account) = Over charge account

-- charges are added in order, until a sum passes its threshold
unfoldable pub charge_all : Thresholds → List Amount → Account → Charged
charge_all most [] account = Fine account
charge_all most (a ∷ rest) account = then_charge (charge_all most rest) (charge_one most account a.charge a.amount)
