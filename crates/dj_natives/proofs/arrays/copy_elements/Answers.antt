use Rattle.dj_natives.proofs.Copied.{copied_all, copied_part}
use Rattle.dj_natives.proofs.arrays.copy_elements.Goals as goal

pub returns-then-taken-copy : goal.returns-then-taken-copy
returns-then-taken-copy g c = λ answer so.
    copied_all (g.C.Classes.program c.args.classes.now) (g.C.Classes.prefix c.args.classes.now) (g.C.Classes.types c.args.classes.now) c.args.heap.now c.move_elements.new.heap c.args.element c.args.copy
    c.taken_of-taken.result answer c.requires.known c.requires.copy c.taken_of-taken.ensures.few c.taken_of-taken.ensures.moved c.move_elements.ensures so c.if-taken-copy.true

pub returns-else-taken-copy : goal.returns-else-taken-copy
returns-else-taken-copy g c = λ answer so.
    copied_part (g.C.Classes.program c.args.classes.now) (g.C.Classes.prefix c.args.classes.now) (g.C.Classes.types c.args.classes.now) c.args.heap.now c.move_elements.new.heap c.args.element c.args.copy
    c.taken_of-taken.result answer c.requires.known c.requires.copy c.taken_of-taken.ensures.few c.taken_of-taken.ensures.moved c.move_elements.ensures so c.if-taken-copy.false
