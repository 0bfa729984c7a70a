-- What rule 19, SHAPE, is judged by of the method of a number.
use Rattle.std.specs.Prelude.{◌≡◌, ℕ, List, Option, Some, None, get_or, slice_get, option_and_then}
use Rattle.std.specs.Option.{option_map}
use Rattle.dj_pool.specs.trusted.Pool.{Constant}
use Rattle.dj_model.specs.trusted.Program.{Code, Runs}
use Rattle.dj_model.specs.trusted.Linking.{FoundMethod}
use Rattle.dj_class_table.specs.declared.place.Place.{Place}
use Rattle.dj_program.specs.trusted.Codes.{code_in}
use Rattle.dj_program.specs.Views.{parts_of}
use Rattle.dj_program.specs.declared.code.MethodCode.{MethodCode}
use Rattle.dj_numbering.specs.Members.{all_methods}
use Rattle.dj_shape_rule.specs.Kept.{KeptKinds}
use Rattle.dj_shape_rule.specs.Pools.{ArePoolKinds}
use Rattle.dj_image.specs.declared.parts.ClassParts.{ClassParts}
use Rattle.dj_image.specs.declared.shaped.ShapeParts.{ShapeParts}
use Rattle.dj_image.specs.Imaged.{Imaged, program_of}
use Rattle.dj_image.specs.Parts.{IsDescAt}

-- its code, with what is kept of the constants that the code names, and the index of its descriptor
pub record AreShapeParts (imaged : Imaged) (method : ℕ) (parts : ShapeParts) : Type 0 where
  pub found : FoundMethod
  pub there : slice_get (all_methods (program_of imaged)) method ≡ Some found
  pub pool : List Constant
  pub runs : found.method.body ≡ Runs (code_in pool (parts_of parts.code.now))
  pub kinds : ArePoolKinds pool parts.kinds.now
  pub desc : IsDescAt pool parts.desc found.method.desc

abbrev pub HasNoCode : Imaged → ℕ → Type 0
HasNoCode imaged method =
    (found : FoundMethod) (code : Code) → slice_get (all_methods (program_of imaged)) method ≡ Some found → found.method.body ≡ Runs code → ⊥

abbrev pub AreShapePartsAt : Imaged → ℕ → Option ShapeParts → Type 0
AreShapePartsAt imaged method None = HasNoCode imaged method
AreShapePartsAt imaged method (Some parts) = AreShapeParts imaged method parts

-- ---- used by the code alone: what is kept at a place

pub record KeptShape : Type 0 where
  pub kinds : KeptKinds
  pub desc : ℕ
  pub code : MethodCode

abbrev pub shape_lent : ShapeParts → KeptShape
shape_lent parts = record { kinds = parts.kinds.now; desc = parts.desc; code = parts.code.now }

abbrev pub shape_of : ClassParts → ℕ → MethodCode → KeptShape
shape_of parts member code = record { kinds = parts.kinds; desc = get_or parts.descs.items member 0; code = code }

abbrev pub shape_in : ℕ → ClassParts → Option KeptShape
shape_in member parts = option_map (shape_of parts member) (option_and_then (λ (code : Option MethodCode). code) (slice_get parts.codes.items member))

abbrev pub shape_kept : List ClassParts → Place → Option KeptShape
shape_kept parts place = option_and_then (shape_in place.member) (slice_get parts place.class)
