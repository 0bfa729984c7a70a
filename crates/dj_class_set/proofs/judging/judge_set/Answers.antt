use Rattle.std.proofs.Common.{map, subst}
use Rattle.dj_library_types.specs.Views.{library_view}
use Rattle.dj_file_rules.specs.Views.{path_file_view}
use Rattle.dj_class_set.specs.Late.{AreLinks}
use Rattle.dj_class_set.proofs.LateLaws.{malformed_breaks, shared_breaks, cycle_breaks}
use Rattle.dj_class_set.proofs.judging.judge_set.Goals as goal

pub judge_linked-requires-clause-links : goal.judge_linked-requires-clause-links
judge_linked-requires-clause-links c =
    let files = map path_file_view c.args.files.now in
    let library = library_view c.args.library.now in
    (library, subst (AreLinks library files) c.in-Linked.is c.in_ok-linker.ensures)

pub returns-in-Linked : goal.returns-in-Linked
returns-in-Linked c =
    let files = map path_file_view c.args.files.now in
    let library = library_view c.args.library.now in
    c.judge_linked.ensures library (subst (AreLinks library files) c.in-Linked.is c.in_ok-linker.ensures)

pub judge_broken-requires-clause-broken : goal.judge_broken-requires-clause-broken
judge_broken-requires-clause-broken c =
    let files = map path_file_view c.args.files.now in
    malformed_breaks files (subst (AreLinks (library_view c.args.library.now) files) c.in-NotClassFile.is c.in_ok-linker.ensures)

pub judge_broken-requires-in-SharedName-clause-broken : goal.judge_broken-requires-in-SharedName-clause-broken
judge_broken-requires-in-SharedName-clause-broken c =
    let files = map path_file_view c.args.files.now in
    let library = library_view c.args.library.now in
    shared_breaks library files c.requires.library (subst (AreLinks library files) c.in-SharedName.is c.in_ok-linker.ensures)

pub judge_broken-requires-in-Cycle-clause-broken : goal.judge_broken-requires-in-Cycle-clause-broken
judge_broken-requires-in-Cycle-clause-broken c =
    let files = map path_file_view c.args.files.now in
    let library = library_view c.args.library.now in
    cycle_breaks library files c.requires.library (subst (AreLinks library files) c.in-Cycle.is c.in_ok-linker.ensures)

pub returns-in-NotClassFile : goal.returns-in-NotClassFile
returns-in-NotClassFile c = c.judge_broken.ensures (library_view c.args.library.now)

pub returns-in-SharedName : goal.returns-in-SharedName
returns-in-SharedName c = c.judge_broken-in-SharedName.ensures (library_view c.args.library.now)

pub returns-in-Cycle : goal.returns-in-Cycle
returns-in-Cycle c = c.judge_broken-in-Cycle.ensures (library_view c.args.library.now)
