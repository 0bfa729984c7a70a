use Rattle.std.proofs.Common.{rules, ◌∙◌}
use Rattle.std.proofs.lemmas.List.{take_rest}
use Rattle.dj_asm_tokens.proofs.LineLaws.{step_blank}
use Rattle.dj_asm_tokens.proofs.place.Place.at_word.Goals as goal

pub loop-rest-preserved : goal.loop-rest-preserved
loop-rest-preserved c = record {
  tokens = step_blank c.args.self.line c.loop-rest.column c.loop-rest.rest.now _ (search rules) (search rules) (take_rest c.loop-rest.rest.now 1) ∙ c.loop-rest.invariant.tokens;
  ends = search rules;
}
