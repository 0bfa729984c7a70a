-- Methods by their numbers and frames that stand over an image, by plain values.
use Rattle.std.proofs.Common.{◌≡◌, ℕ, true, false, List, [], ◌∷◌, map, Some, None, refl, sym, ap, ◌∙◌, arith, codes}
use Rattle.std.specs.Option.{option_map}
use Rattle.std.proofs.lemmas.Bool.{false≢true}
use Rattle.std.proofs.lemmas.Option.{none-some, same_Some}
use Rattle.dj_names.specs.declared.descriptor.Desc.{Desc}
use Rattle.dj_names.specs.declared.descriptor.Desc.TheVariants as descs
use Rattle.dj_names.specs.declared.descriptor.Base.TheVariants as bases
use Rattle.dj_names.specs.declared.run.Value.TheVariants as values
use Rattle.dj_names.specs.trusted.Types.{Name, same_name, base_type}
use Rattle.dj_model.specs.trusted.Types.{Declared, no_parameters}
use Rattle.dj_model.specs.trusted.Instructions.{Nop}
use Rattle.dj_model.specs.trusted.Program.{Program, Class, Method, Body, Abstract, Runs, Code, code_of, is_initialiser}
use Rattle.dj_model.specs.trusted.Linking.{FoundMethod}
use Rattle.dj_stack.specs.Frames.{StackFrame}
use Rattle.dj_numbering.specs.Members.{all_methods}
use Rattle.dj_image.specs.Sources.{Source, class_of_source}
use Rattle.dj_image.specs.Imaged.{Imaged, program_of}
use Rattle.dj_current_method.specs.Activations.{declared_at, frame_seen, frames_seen, IsActivation, AreActivations}
use Rattle.dj_current_method.specs.Reported.{IsInitialiserOf}

-- ---- a class with an initialiser and an abstract method, and one with a method that is named as an initialiser is

abbrev method : Name → Desc → Body → Method
method name desc body = record { flags = 8; name = name; desc = desc; body = body }

abbrev one_int : Desc
one_int = descs.Method (base_type bases.Int ∷ []) None

abbrev code : Code
code = record { max_stack = 3; max_locals = 1; instructions = Nop ∷ Nop ∷ []; ranges = []; frames = Some [] }

abbrev class_with : Name → List Method → Class
class_with name methods = record { name = name; flags = 33; superclass = None; interfaces = []; unnamed_fields = 0; fields = []; methods = methods }

abbrev source_of : Class → Source
source_of c = record { class = c; pool = []; codes = map (λ (m : Method). None) c.methods; values = [] }

abbrev image : Imaged
image = record {
  sources = source_of (class_with (codes "A") (method (codes "<clinit>") no_parameters (Runs code) ∷ method (codes "m") no_parameters Abstract ∷ []))
      ∷ source_of (class_with (codes "B") (method (codes "<clinit>") one_int (Runs code) ∷ [])) ∷ [];
  prefix = [];
  arrays = [];
  texts = [];
}

abbrev program : Program
program = program_of image

-- ---- methods

abbrev declared : Name → Name → Desc → Declared
declared class name desc = record { class = class; name = name; desc = desc }

methods_reported : map (declared_at program) (0 ∷ 1 ∷ 2 ∷ 3 ∷ [])
    ≡ declared (codes "A") (codes "<clinit>") no_parameters ∷ declared (codes "A") (codes "m") no_parameters ∷ declared (codes "B") (codes "<clinit>") one_int ∷ declared [] [] no_parameters ∷ []
unfolding declared_at all_methods class_of_source
methods_reported = refl

-- the descriptor counts too, and a made-up method is no initialiser
initialisers_reported : map (λ n. is_initialiser (declared_at program n)) (0 ∷ 1 ∷ 2 ∷ 3 ∷ []) ≡ true ∷ false ∷ false ∷ false ∷ []
unfolding declared_at all_methods class_of_source
initialisers_reported = refl

codes_reported : map (λ n. code_of program (declared_at program n)) (0 ∷ 1 ∷ 2 ∷ 3 ∷ []) ≡ Some code ∷ None ∷ Some code ∷ None ∷ []
unfolding declared_at all_methods class_of_source code_of
codes_reported = refl

initialiser_of_first : IsInitialiserOf image 0 0
unfolding declared_at all_methods class_of_source
initialiser_of_first = record { is = refl; class_is = refl }

not_of_second : IsInitialiserOf image 0 1 → ⊥
unfolding declared_at all_methods class_of_source
not_of_second is =
    let names : codes "B" ≡ codes "A" = same_Some (codes "B") (codes "A") is.class_is in
    false≢true (sym (ap (same_name (codes "B")) names))

-- ---- frames

abbrev frame : ℕ → ℕ → StackFrame
frame m room = record { method = m; number = 1; locals = Some (values.Ref 7) ∷ []; operands = values.Ref 9 ∷ []; room = room }

seen : frames_seen program (frame 0 3 ∷ frame 1 3 ∷ []) ≡ record {
  method = declared (codes "A") (codes "<clinit>") no_parameters;
  number = 1;
  locals = Some (values.Ref 7) ∷ [];
  operands = values.Ref 9 ∷ [];
  paid = false;
} ∷ frame_seen program (frame 1 3) ∷ []
unfolding declared_at all_methods class_of_source
seen = refl

stand : AreActivations image (frame 0 3 ∷ frame 2 3 ∷ [])
unfolding all_methods class_of_source
stand = (
  record { found = record { class = codes "A"; method = method (codes "<clinit>") no_parameters (Runs code) }; there = refl; code = code; runs = refl; room = refl },
  (record { found = record { class = codes "B"; method = method (codes "<clinit>") one_int (Runs code) }; there = refl; code = code; runs = refl; room = refl }, tt),
)

other_room : IsActivation image (frame 0 2) → ⊥
unfolding all_methods class_of_source
other_room is =
    let body : Some (Runs code) ≡ Some is.found.method.body = ap (option_map (λ (f : FoundMethod). f.method.body)) is.there in
    let same : Runs code ≡ Runs is.code = same_Some (Runs code) is.found.method.body body ∙ is.runs in
    let most : code ≡ is.code = cc in
    let room : 2 ≡ 3 = is.room ∙ sym (ap (λ (c : Code). c.max_stack) most) in
    omega (arith, room)

no_code : IsActivation image (frame 1 3) → ⊥
unfolding all_methods class_of_source
no_code is =
    let body : Some Abstract ≡ Some is.found.method.body = ap (option_map (λ (f : FoundMethod). f.method.body)) is.there in
    let same : Abstract ≡ Runs is.code = same_Some Abstract is.found.method.body body ∙ is.runs in
    absurd cc

no_method : IsActivation image (frame 3 3) → ⊥
unfolding all_methods class_of_source
no_method is = none-some is.found is.there

not_below : AreActivations image (frame 0 3 ∷ frame 1 3 ∷ []) → ⊥
not_below are = no_code are.1.0
