use Rattle.std.proofs.Common.{◌<◌, ◌-◌, length, get_or, reverse, refl, subst, arith}
use Rattle.std.proofs.lemmas.List.Elements.{All-get_or}
use Rattle.dj_image.specs.Imaged.{program_of}
use Rattle.dj_initialisation.specs.declared.filled.Filled.{Filled}
use Rattle.dj_initialisation.specs.Store.{Fills, all_constants, class_constants, store}
use Rattle.dj_initialisation.proofs.PlaceLaws.{names_differ}
use Rattle.dj_initialisation.proofs.FieldLaws.{classes_end, classes_full, classes_on}
use Rattle.dj_initialisation.proofs.constants.fill_all.Goals as goal

pub returns-in-HeapFull : goal.returns-in-HeapFull
returns-in-HeapFull c =
    let image = c.args.image.now in
    let classes = c.args.classes.now in
    let class = get_or classes (length classes - 1 - c.loop-turn.turn) 0 in
    let lt : length classes - 1 - c.loop-turn.turn < length classes = (let less = c.loop-turn-test.true in omega (arith, less)) in
    let within : class < length (program_of image) = All-get_or (λ k. k < length (program_of image)) classes (length classes - 1 - c.loop-turn.turn) 0 lt c.requires.there in
    let now = store c.loop-turn.heap c.loop-turn.statics c.loop-turn.literals in
    let after = store c.fill_class.new.heap c.fill_class.new.statics c.fill_class.new.literals in
    classes_full image classes c.loop-turn.turn class (all_constants image (reverse classes)) (store c.args.heap.now c.args.statics.now c.args.literals.now) now after c.in-HeapFull.used c.in-HeapFull.size
    (names_differ (program_of image) c.requires.formed) within c.loop-turn-test.true refl c.loop-turn.invariant
    (subst (λ (filled : Filled). Fills image (class_constants image class) now after filled) c.in-HeapFull.is c.in_ok-filled.ensures)

pub loop-turn-preserved : goal.loop-turn-preserved
loop-turn-preserved c =
    let image = c.args.image.now in
    let classes = c.args.classes.now in
    let class = get_or classes (length classes - 1 - c.loop-turn.turn) 0 in
    let lt : length classes - 1 - c.loop-turn.turn < length classes = (let less = c.loop-turn-test.true in omega (arith, less)) in
    let within : class < length (program_of image) = All-get_or (λ k. k < length (program_of image)) classes (length classes - 1 - c.loop-turn.turn) 0 lt c.requires.there in
    let now = store c.loop-turn.heap c.loop-turn.statics c.loop-turn.literals in
    let after = store c.fill_class.new.heap c.fill_class.new.statics c.fill_class.new.literals in
    classes_on image classes c.loop-turn.turn class (all_constants image (reverse classes)) (store c.args.heap.now c.args.statics.now c.args.literals.now) now after
    (names_differ (program_of image) c.requires.formed) within c.loop-turn-test.true refl c.loop-turn.invariant
    (subst (λ (filled : Filled). Fills image (class_constants image class) now after filled) c.in-Done.is c.in_ok-filled.ensures)

pub returns : goal.returns
returns c =
    classes_end c.args.image.now c.args.classes.now c.loop-turn.turn (all_constants c.args.image.now (reverse c.args.classes.now)) (store c.args.heap.now c.args.statics.now c.args.literals.now)
    (store c.loop-turn.heap c.loop-turn.statics c.loop-turn.literals) c.loop-turn-test.false c.loop-turn.invariant
