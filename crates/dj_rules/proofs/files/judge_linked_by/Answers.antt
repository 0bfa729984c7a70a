use Rattle.std.proofs.Common.{List, Bool, refl, sym, subst}
use Rattle.dj_edge.proofs.Lists.{ok_so}
use Rattle.dj_model.specs.trusted.Program.{Program}
use Rattle.dj_link_rules.specs.Known.{AreUnmakeable}
use Rattle.dj_rules.proofs.files.judge_linked_by.Goals as goal

pub judge_lent-requires-clause-lent : goal.judge_lent-requires-clause-lent
judge_lent-requires-clause-lent c = record {
  plain = c.requires.plain;
  same = c.requires.same;
  unmakeable = subst (λ (p : Program). AreUnmakeable p c.deref.result.now) c.classes.ensures (subst (λ (marks : List Bool). AreUnmakeable c.classes.result.now marks) (sym c.deref.ensures.value) c.in_ok-unmakeable.ensures);
}

pub returns-clause-late : goal.returns-clause-late
returns-clause-late c = ok_so c.judge_lent.result _ _ (λ judged reported. reported c.args.linker.now.program refl) c.judge_lent.ensures.late
