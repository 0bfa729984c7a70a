-- Beside trusted/Effects.antt: what no clause of the call `djvm` reaches.
use Rattle.std.specs.Prelude.{ℕ, List, [], ◌∷◌, pos}
use Rattle.dj_names.specs.declared.run.Value.{Value}
use Rattle.dj_names.specs.declared.run.Value.TheVariants as values
use Rattle.dj_names.specs.declared.run.Element.{Element}
use Rattle.dj_names.specs.declared.run.Charge.TheVariants as charges
use Rattle.dj_names.specs.trusted.Heaps.{array_size, instance_size}
use Rattle.dj_model.specs.trusted.Types.{Prefix}
use Rattle.dj_model.specs.trusted.Instructions.{Instruction, Invoke, New, NewArray, Throw, Branch, Goto, Switch}
use Rattle.dj_model.specs.trusted.Program.{Program}
use Rattle.dj_model.specs.trusted.Linking.{member_class, field_count}
use Rattle.dj_model.specs.Charging.{Amount}

-- ---- charges

-- an array is charged by its length; a negative length costs nothing
abbrev pub array_charge : Element → List Value → ℕ
array_charge element (values.Int (pos n) ∷ rest) = array_size element n
array_charge element _ = 0

abbrev pub one_jump : List Amount
one_jump = record { charge = charges.Jump; amount = 1 } ∷ []

abbrev pub bytes : ℕ → List Amount
bytes n = record { charge = charges.Alloc; amount = n } ∷ []

-- the charges of an instruction with these operands, which are added before it is done
unfoldable pub pays : Program → Prefix → Instruction → List Value → List Amount
pays program prefix (Branch test target) operands = one_jump
pays program prefix (Goto target) operands = one_jump
pays program prefix (Switch pairs default) operands = one_jump
pays program prefix (Invoke mode m) operands = record { charge = charges.Invoke; amount = 1 } ∷ []
pays program prefix Throw operands = record { charge = charges.Throw; amount = 1 } ∷ []
pays program prefix (New class) operands = bytes (instance_size (field_count program (member_class prefix class)))
pays program prefix (NewArray class element) operands = bytes (array_charge element operands)
pays program prefix i operands = []
