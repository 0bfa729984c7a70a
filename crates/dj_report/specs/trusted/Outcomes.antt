-- The text and the status of a report on a run: how it ended, and what it was charged.
use Rattle.std.specs.Prelude.{ℕ, ◌+◌, ◌/◌, ◌%◌, List, [], ◌∷◌, ◌++◌, length, codes, nat_lt, if◌then◌else◌}
use Rattle.std.specs.List.{flat_map}
use Rattle.std.specs.Fmt.{decimal}
use Rattle.dj_names.specs.declared.run.Charge.{Charge}
use Rattle.dj_names.specs.declared.run.Charge.TheVariants as charges
use Rattle.dj_names.specs.declared.run.Costs.{Costs}
use Rattle.dj_names.specs.declared.run.Message.{Message}
use Rattle.dj_names.specs.declared.run.Message.TheVariants as messages
use Rattle.dj_names.specs.declared.run.Outcome.{Outcome}
use Rattle.dj_names.specs.declared.run.Outcome.TheVariants as outcomes
use Rattle.dj_report.specs.trusted.Parts.{line, escaped}

-- a lower-case hexadecimal digit
abbrev pub low_hex_digit : ℕ → ℕ
low_hex_digit d = if nat_lt d 10 then 48 + d else 87 + d

-- a byte, as two digits
abbrev pub byte_hex : ℕ → List ℕ
byte_hex b = low_hex_digit (b / 16) ∷ low_hex_digit (b % 16) ∷ []

-- a UTF-16 unit, as four digits
abbrev pub unit_hex : ℕ → List ℕ
unit_hex u = byte_hex (u / 256) ++ byte_hex (u % 256)

-- how many bytes, and then the digits of each
abbrev pub bytes_text : List ℕ → List ℕ
bytes_text [] = codes "0"
bytes_text (b ∷ bs) = decimal (length (b ∷ bs)) ++ codes " " ++ flat_map byte_hex (b ∷ bs)

-- how many UTF-16 units, and then the digits of each
abbrev pub units_text : List ℕ → List ℕ
units_text [] = codes "0"
units_text (u ∷ us) = decimal (length (u ∷ us)) ++ codes " " ++ flat_map unit_hex (u ∷ us)

abbrev pub message_text : Message → List ℕ
message_text messages.Null = codes "null"
message_text (messages.Text units) = units_text units

-- an exception's class and its message
abbrev pub thrown_text : List ℕ → Message → List ℕ
thrown_text class message = escaped class ++ codes " " ++ message_text message

abbrev pub charge_name : Charge → List ℕ
charge_name charges.Alloc = codes "alloc"
charge_name charges.Invoke = codes "invoke"
charge_name charges.Jump = codes "jump"
charge_name charges.Throw = codes "throw"

abbrev pub outcome_text : Outcome → List ℕ
outcome_text outcomes.OkNull = codes "OK null"
outcome_text (outcomes.OkBytes bytes) = codes "OK " ++ bytes_text bytes
outcome_text (outcomes.Threw class message) = codes "EXCEPTION " ++ thrown_text class message
outcome_text (outcomes.Init class exception message) = codes "INIT " ++ escaped class ++ codes " " ++ thrown_text exception message
outcome_text outcomes.Link = codes "LINK"
outcome_text outcomes.TooDeep = codes "DEPTH"
outcome_text (outcomes.Stopped charge) = codes "THRESHOLD " ++ charge_name charge
outcome_text (outcomes.HeapFull used size) = codes "HEAP " ++ decimal used ++ codes " " ++ decimal size
outcome_text (outcomes.OutOfSteps steps) = codes "STEPS " ++ decimal steps

-- a space, a charge's name and its amount
abbrev pub cost_text : Charge → ℕ → List ℕ
cost_text charge amount = codes " " ++ charge_name charge ++ codes " " ++ decimal amount

abbrev pub costs_text : Costs → List ℕ
costs_text costs =
    codes "costs" ++ cost_text charges.Alloc costs.alloc ++ cost_text charges.Invoke costs.invoke
    ++ cost_text charges.Jump costs.jump ++ cost_text charges.Throw costs.throw

-- the outcome's line, and the line of the costs
abbrev pub run_text : Outcome → Costs → List ℕ
run_text outcome costs = line (outcome_text outcome) ++ line (costs_text costs)

-- the outcome's line, and the line of the steps
abbrev pub raw_text : Outcome → ℕ → List ℕ
raw_text outcome steps = line (outcome_text outcome) ++ line (codes "steps " ++ decimal steps)

-- the lines of the outcome and of the costs, that of the digest, and that of the steps
abbrev pub ran_text : Outcome → Costs → List ℕ → ℕ → List ℕ
ran_text outcome costs code steps = run_text outcome costs ++ line (codes "code " ++ flat_map byte_hex code) ++ line (codes "steps " ++ decimal steps)

abbrev pub outcome_status : Outcome → ℕ
outcome_status outcomes.OkNull = 0
outcome_status (outcomes.OkBytes bytes) = 0
outcome_status (outcomes.Threw class message) = 1
outcome_status (outcomes.Stopped charge) = 3
outcome_status outcomes.TooDeep = 4
outcome_status (outcomes.Init class exception message) = 5
outcome_status outcomes.Link = 6
outcome_status (outcomes.OutOfSteps steps) = 8
outcome_status (outcomes.HeapFull used size) = 9
