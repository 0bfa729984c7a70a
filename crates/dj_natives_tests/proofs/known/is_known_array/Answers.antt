use Rattle.dj_natives_tests.specs.Few.{few_types}
use Rattle.dj_natives_tests.proofs.KnownObjects.{known_references}
use Rattle.dj_natives_tests.proofs.known.is_known_array.Goals as goal

pub returns-in-Some : goal.returns-in-Some
returns-in-Some c = λ t.
    known_references (few_types c.args.few.now.boxed) c.args.heap.now c.args.r c.args.class c.in-Some.field-0 c.requires.own c.requires.few c.requires.array c.in-Some.ensures
