use Rattle.std.proofs.Common.{Some, sym, ap, ◌∙◌}
use Rattle.std.specs.Prelude.{option_copied}
use Rattle.std.specs.Option.{option_map}
use Rattle.dj_link_rules.specs.Constants.{text_class}
use Rattle.dj_link_rules.proofs.KeptLaws.{one_more_seen}
use Rattle.dj_link_rules.proofs.constants.see_class.Goals as goal

pub returns-clause-seen : goal.returns-clause-seen
returns-clause-seen c =
    one_more_seen c.args.linker.now.program c.args.pool.now c.args.seen.now c.args.index c.from-2.result c.judge_class-class.result c.from-2.ensures
    (ap Some c.judge_class-class.ensures ∙ ap (option_map (text_class c.args.linker.now.program)) (sym (ap option_copied c.in-Some-text.is) ∙ c.text.ensures))
    c.requires.seen
