use Rattle.std.proofs.Common.{ℕ, Some, arith}
use Rattle.std.proofs.lemmas.Option.{MatchOption-at_none, MatchOption-at_some}
use Rattle.dj_straight.specs.trusted.Shape.{IsShapeFault}
use Rattle.dj_straight.specs.trusted.Methods.{straight_signature}
use Rattle.dj_straight.specs.Methods.{code_view}
use Rattle.dj_class_set.specs.Shaped.{IsShaped}
use Rattle.dj_report.proofs.Adding.{on_ok}
use Rattle.dj_class_set.proofs.RunRules.{adds_fault, adds_no_fault}
use Rattle.dj_class_set.proofs.run_rules.add_shape_line.Goals as goal

pub shape_fault-requires : goal.shape_fault-requires
shape_fault-requires c = omega (arith, c.requires, c.args.method.now.actions.ok.0)

pub returns-in-Some-clause-lines : goal.returns-in-Some-clause-lines
returns-in-Some-clause-lines c =
    on_ok c.add_shape_fault.result
    (adds_fault c.args.path.now c.args.method.now (Some c.in-Some.number) c.args.found.now.items c.add_shape_fault.new.found.items
    (MatchOption-at_some (IsShaped c.args.method.now) (λ (number : ℕ). IsShapeFault straight_signature (code_view c.args.method.now) (Some number)) c.in-Some.number c.in-Some.is c.in_ok-number.ensures))
    c.add_shape_fault.ensures

pub returns-in-None-clause-lines : goal.returns-in-None-clause-lines
returns-in-None-clause-lines c =
    adds_no_fault c.args.path.now c.args.method.now c.args.found.now.items
    (MatchOption-at_none (IsShaped c.args.method.now) (λ (number : ℕ). IsShapeFault straight_signature (code_view c.args.method.now) (Some number)) c.in-None.is c.in_ok-number.ensures)
