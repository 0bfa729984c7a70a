use Rattle.djvm_cli.proofs.Cutting.{few_cut, within_cut, differ_cut, set_cut}
use Rattle.djvm_cli.proofs.cut.class_set.Goals as goal

pub new-requires-clause-few : goal.new-requires-clause-few
new-requires-clause-few c = few_cut c.args.folder.now c.args.files.items c.in_ok-within.within.items c.in_ok-within.ensures c.requires.few

pub new-requires-clause-within : goal.new-requires-clause-within
new-requires-clause-within c = within_cut c.args.folder.now c.args.files.items c.in_ok-within.within.items c.in_ok-within.ensures c.requires.within

pub new-requires-clause-differ : goal.new-requires-clause-differ
new-requires-clause-differ c = differ_cut c.args.folder.now c.args.files.items c.in_ok-within.within.items c.in_ok-within.ensures c.requires.class_paths c.requires.rise

pub returns-clause-set : goal.returns-clause-set
returns-clause-set c =
    set_cut c.args.folder.now c.args.files.items c.in_ok-within.within.items c.in_ok-within.ensures c.requires.class_paths c.requires.rise c.in_ok-new.field-0 c.in_ok-new.ensures
