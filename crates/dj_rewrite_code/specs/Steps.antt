-- Used by the code alone: the steps of rewriting a Code attribute.
use Rattle.std.specs.Prelude.{◌≡◌, ℕ, ◌+◌, ◌<◌, ◌^◌, ◌⊎◌, ⊤, List, map, filter, length, codes, Result, Ok, Err}
use Rattle.std.specs.List.{AllByRecursion}
use Rattle.dj_pool.specs.trusted.Pool.{Constant}
use Rattle.dj_class.specs.trusted.Code.{CodeInfo}
use Rattle.dj_labels.specs.declared.labelled.Labelled.{Labelled}
use Rattle.dj_layout.specs.declared.laid.Laid.{Laid}
use Rattle.dj_layout.specs.trusted.Layouts.{IsLaidOut}
use Rattle.dj_early_rules.specs.trusted.Attributes.{is_named}
use Rattle.dj_groups.specs.Groups.{Group}
use Rattle.dj_groups.specs.Grouped.{labels_in_groups}
use Rattle.dj_emit.specs.Groups.{FitsSipush}
use Rattle.dj_emit.specs.Filed.{IsGrouped}
use Rattle.dj_emit.specs.declared.spelling.Grouped.{Grouped}
use Rattle.dj_rewritten.specs.TooLarge.{HasBigObject, LacksRoom}
use Rattle.dj_rewrite_code.specs.declared.error.CodeError.{CodeError}
use Rattle.dj_rewrite_code.specs.declared.error.CodeError.TheVariants as errors
use Rattle.dj_rewrite_code.specs.Answers.{with_body}

abbrev pub AnswersStack : ℕ → Result ℕ CodeError → Type 0
AnswersStack max_stack (Ok more) = (more ≡ max_stack + 2) × (more < 2 ^ 16)
AnswersStack max_stack (Err errors.TooLarge) = 65535 < max_stack + 2
AnswersStack max_stack (Err errors.Memory) = ⊥

pub record HasGrouped (first : ℕ) (gs : List Group) (labelled : Labelled) (made : Grouped) : Type 0 where
  pub is : IsGrouped first gs labelled made
  pub fits : AllByRecursion FitsSipush gs

abbrev pub AnswersGrouped : ℕ → List Group → Labelled → Result Grouped CodeError → Type 0
AnswersGrouped first gs labelled (Ok made) = HasGrouped first gs labelled made
AnswersGrouped first gs labelled (Err errors.TooLarge) = HasBigObject gs ⊎ (65535 < length (labels_in_groups first gs labelled).ranges)
AnswersGrouped first gs labelled (Err errors.Memory) = ⊤

abbrev pub AnswersLaid : Labelled → Result Laid CodeError → Type 0
AnswersLaid labelled (Ok laid) = IsLaidOut labelled laid
AnswersLaid labelled (Err errors.TooLarge) = LacksRoom labelled
AnswersLaid labelled (Err errors.Memory) = ⊤

-- the Code attribute with this room, this code and these stack maps
abbrev pub respelled : List Constant → CodeInfo → ℕ → Laid → List ℕ → CodeInfo
respelled pool info max_stack laid body = record {
  max_stack = max_stack;
  max_locals = info.max_locals;
  code = laid.code;
  table = laid.table;
  attributes = map (with_body body) (filter (is_named pool (codes "StackMapTable")) info.attributes);
}
