use Rattle.std.proofs.Common.{map, ap, ◌∙◌, codes, arith}
use Rattle.dj_class.specs.CodeViews.{code_of}
use Rattle.dj_early_rules.specs.trusted.Attributes.{bodies_of}
use Rattle.dj_early_rules.proofs.NamedBodies.{now_of, no_bytes, each_map_short}
use Rattle.dj_early_rules.proofs.code.whole_code.Goals as goal

pub code_with_map-requires-in-len1-clause-short : goal.code_with_map-requires-in-len1-clause-short
code_with_map-requires-in-len1-clause-short c = (
  each_map_short c.args.pool.now (code_of c.args.view.now) c.as_slice-2.result.now c.requires.short
      (ap (map now_of) c.as_slice-2.ensures.value ∙ c.in_ok-maps.ensures ∙ ap (bodies_of c.args.pool.now (codes "StackMapTable")) c.as_slice.ensures)
      0 no_bytes (omega (arith, c.in-len1.len_at_least)),
  tt,
)
