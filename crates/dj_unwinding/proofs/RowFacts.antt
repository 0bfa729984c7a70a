-- Rows of a method's code, by plain values.
use Rattle.std.proofs.Common.{◌≡◌, ℕ, [], ◌∷◌, Some, None, refl, sym, ap, subst, arith, codes}
use Rattle.std.specs.Prelude.{slice_get}
use Rattle.std.proofs.lemmas.Option.{none-some, same_Some}
use Rattle.dj_labels.specs.declared.labelled.Protected.{Protected}
use Rattle.dj_model.specs.trusted.Types.{no_parameters}
use Rattle.dj_model.specs.trusted.Program.{Class, Runs, Code, code_of}
use Rattle.dj_program.specs.Views.{parts_of}
use Rattle.dj_program.specs.declared.code.MethodCode.{MethodCode}
use Rattle.dj_numbering.specs.Members.{all_methods}
use Rattle.dj_image.specs.Sources.{class_of_source}
use Rattle.dj_image.specs.Imaged.{Imaged}
use Rattle.dj_image.specs.Codes.{PooledCode, all_codes}
use Rattle.dj_current_method.specs.Activations.{declared_at}
use Rattle.dj_current_method.specs.Reported.{IsCodeOf}
use Rattle.dj_unwinding.specs.HandlerRows.{IsRowOf, HasRow}

abbrev row : ℕ → Protected
row handler = record { start = 0; end = 1; handler = handler; catch_type = 0 }

abbrev own : MethodCode
own = record { max_stack = 1; max_locals = 0; code = record { code = []; ranges = row 3 ∷ [] }; frames = Some [] }

abbrev declared : Code
declared = record { max_stack = 0; max_locals = 0; instructions = []; ranges = []; frames = Some [] }

abbrev class_a : Class
class_a = record {
  name = codes "A";
  flags = 33;
  superclass = None;
  interfaces = [];
  unnamed_fields = 0;
  fields = [];
  methods = record { flags = 8; name = codes "r"; desc = no_parameters; body = Runs declared } ∷ [];
}

abbrev image : Imaged
image = record {
  sources = record { class = class_a; pool = []; codes = Some (parts_of own) ∷ []; values = [] } ∷ [];
  prefix = [];
  arrays = [];
  texts = [];
}

code_there : IsCodeOf image 0 own
unfolding declared_at all_methods class_of_source all_codes code_of
code_there = record { pool = []; own = refl; is = refl }

first_row : HasRow image 0 0
first_row = record { row = row 3; is = record { code = own; reported = code_there; stands = refl } }

-- the row at a place is the one of the method's code
ranges_of_reported : (at : ℕ) (r : Protected) → IsRowOf image 0 at r → slice_get (row 3 ∷ []) at ≡ Some r
unfolding all_codes
ranges_of_reported at r is =
    let first : PooledCode = record { pool = []; parts = parts_of own } in
    let reported : PooledCode = record { pool = is.reported.pool; parts = parts_of is.code } in
    let same : first ≡ reported = same_Some first reported is.reported.own in
    subst (λ (c : PooledCode). slice_get c.parts.labelled.ranges at ≡ Some r) (sym same) is.stands

not_other_row : IsRowOf image 0 0 (row 4) → ⊥
not_other_row is =
    let same : row 3 ≡ row 4 = same_Some (row 3) (row 4) (ranges_of_reported 0 (row 4) is) in
    let handler : 3 ≡ 4 = ap (λ (r : Protected). r.handler) same in
    omega (arith, handler)

no_second_row : HasRow image 0 1 → ⊥
no_second_row has = none-some has.row (ranges_of_reported 1 has.row has.is)

no_row_elsewhere : HasRow image 1 0 → ⊥
unfolding all_codes
no_row_elsewhere has = none-some (record { pool = has.is.reported.pool; parts = parts_of has.is.code }) has.is.reported.own
