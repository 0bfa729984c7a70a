-- Used by the code alone: what is kept of the constants of a pool.
use Rattle.std.specs.Prelude.{List, Option}
use Rattle.dj_model.specs.trusted.Kinds.{Signature}
use Rattle.dj_shape_rule.specs.declared.pool.ConstantKind.{ConstantKind}

pub record KeptKinds : Type 0 where
  -- for each index from 0 on
  pub constants : List ConstantKind
  -- for each index from 0 on that is the descriptor of a method without floats and doubles
  pub calls : List (Option Signature)
