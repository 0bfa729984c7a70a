use Rattle.std.proofs.Common.{ap, sym}
use Rattle.dj_model.specs.trusted.Linking.{is_subtype, is_subclass, chain_of, interfaces_from, interfaces_above, most_classes}
use Rattle.dj_natives_tests.specs.Few.{few_below}
use Rattle.dj_natives_tests.proofs.few.below.Goals as goal

pub returns-then-boxed : goal.returns-then-boxed
unfolding is_subtype is_subclass chain_of interfaces_from interfaces_above most_classes
returns-then-boxed c = ap few_below (sym c.if-boxed.true)

pub returns-else-boxed : goal.returns-else-boxed
unfolding is_subtype is_subclass chain_of interfaces_from interfaces_above most_classes
returns-else-boxed c = ap few_below (sym c.if-boxed.false)
