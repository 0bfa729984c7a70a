-- The code of methods by their numbers, by plain values.
use Rattle.std.proofs.Common.{◌≡◌, ℕ, [], ◌∷◌, Some, None, refl, sym, ap, arith, codes}
use Rattle.std.proofs.lemmas.Option.{none-some, same_Some}
use Rattle.dj_names.specs.trusted.Types.{Name}
use Rattle.dj_ops.specs.declared.instruction.Instr.TheVariants as instrs
use Rattle.dj_ops.specs.Mnemonics.{nop}
use Rattle.dj_model.specs.trusted.Types.{no_parameters}
use Rattle.dj_model.specs.trusted.Program.{Class, Method, Body, Abstract, Runs, Code, code_of}
use Rattle.dj_program.specs.trusted.Codes.{code_in}
use Rattle.dj_program.specs.Views.{parts_of}
use Rattle.dj_program.specs.declared.code.MethodCode.{MethodCode}
use Rattle.dj_numbering.specs.Members.{all_methods}
use Rattle.dj_image.specs.Sources.{class_of_source}
use Rattle.dj_image.specs.Imaged.{Imaged}
use Rattle.dj_image.specs.Codes.{PooledCode, all_codes}
use Rattle.dj_current_method.specs.Activations.{declared_at}
use Rattle.dj_current_method.specs.Reported.{IsCodeOf, SaysCode}

abbrev own : ℕ → MethodCode
own stack = record {
  max_stack = stack;
  max_locals = 0;
  code = record { code = instrs.Simple nop ∷ []; ranges = [] };
  frames = Some [];
}

-- code that its class declares without instructions, which stand beside it
abbrev declared : Code
declared = record { max_stack = 0; max_locals = 0; instructions = []; ranges = []; frames = Some [] }

abbrev method : Name → Body → Method
method name body = record { flags = 8; name = name; desc = no_parameters; body = body }

abbrev class_a : Class
class_a = record {
  name = codes "A";
  flags = 33;
  superclass = None;
  interfaces = [];
  unnamed_fields = 0;
  fields = [];
  methods = method (codes "a") Abstract ∷ method (codes "r") (Runs declared) ∷ [];
}

abbrev image : Imaged
image = record {
  sources = record { class = class_a; pool = []; codes = None ∷ Some (parts_of (own 1)) ∷ []; values = [] } ∷ [];
  prefix = [];
  arrays = [];
  texts = [];
}

code_there : SaysCode image 1 (Some (own 1))
unfolding declared_at all_methods class_of_source all_codes code_of
code_there = record { pool = []; own = refl; is = refl }

none_there : SaysCode image 0 None
unfolding declared_at all_methods class_of_source code_of
none_there = refl

code_left_out : SaysCode image 1 None → ⊥
unfolding declared_at all_methods class_of_source code_of
code_left_out none = none-some (code_in [] (parts_of (own 1))) (sym none)

-- code with another depth is another's
not_other_code : IsCodeOf image 1 (own 2) → ⊥
unfolding all_codes
not_other_code reported =
    let one : PooledCode = record { pool = []; parts = parts_of (own 1) } in
    let two : PooledCode = record { pool = reported.pool; parts = parts_of (own 2) } in
    let same : one ≡ two = same_Some one two reported.own in
    let depth : 1 ≡ 2 = ap (λ (c : PooledCode). c.parts.max_stack) same in
    omega (arith, depth)

not_of_abstract : IsCodeOf image 0 (own 1) → ⊥
unfolding all_codes
not_of_abstract reported = none-some (record { pool = reported.pool; parts = parts_of (own 1) }) reported.own
