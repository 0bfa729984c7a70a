use Rattle.std.proofs.Common.{◌≡◌, ℕ, true, false, sym, subst, ◌∙◌}
use Rattle.dj_model.specs.trusted.Types.{is_stop}
use Rattle.dj_model.specs.trusted.Performing.{class_at_number}
use Rattle.dj_natives.specs.Calls.{typed_heap}
use Rattle.dj_natives.proofs.Catching.{catches, passes_by}
use Rattle.dj_natives.proofs.objects.check_catch.Goals as goal

pub returns-then-is_stop : goal.returns-then-is_stop
returns-then-is_stop g c = catches (g.C.Classes.program c.args.classes.now) (g.C.Classes.prefix c.args.classes.now) (g.C.Classes.types c.args.classes.now) c.args.heap.now c.args.args.now c.requires.known (subst (λ (r : ℕ). is_stop (g.C.Classes.prefix c.args.classes.now) (class_at_number (typed_heap (g.C.Classes.types c.args.classes.now) c.args.heap.now) r) ≡ true) c.reference.ensures (sym c.is_stop.ensures ∙ c.if-is_stop.true))

pub returns-else-is_stop : goal.returns-else-is_stop
returns-else-is_stop g c = passes_by (g.C.Classes.program c.args.classes.now) (g.C.Classes.prefix c.args.classes.now) (g.C.Classes.types c.args.classes.now) c.args.heap.now c.args.args.now c.requires.known (subst (λ (r : ℕ). is_stop (g.C.Classes.prefix c.args.classes.now) (class_at_number (typed_heap (g.C.Classes.types c.args.classes.now) c.args.heap.now) r) ≡ false) c.reference.ensures (sym c.is_stop.ensures ∙ c.if-is_stop.false))
