use Rattle.std.proofs.Common.{sym, subst, ◌∙◌}
use Rattle.dj_rewrite.specs.Steps.{IsLeastText}
use Rattle.dj_rewrite.proofs.set.least_part.Goals as goal

pub returns : goal.returns
returns c = record {
  class_is = c.in_ok-class.ensures;
  member_is = subst (IsLeastText c.args.members.now) (sym (c.in_ok-member.ensures ∙ c.as_slice.ensures)) c.least_text-least.ensures;
}
