use Rattle.dj_shape_rule.specs.Passing.{Before, Case, IsCase}
use Rattle.dj_shape_rule.specs.Standing.{SameButStates}
use Rattle.dj_shape_rule.proofs.pass.Pass.first_fault.Given as goal

abbrev pub invariant-loop-number : goal.invariant-loop-number
invariant-loop-number l = record {
  room : SameButStates l.initial.self.state l.self.state;
  before : (c : Case) → IsCase l.method c → Before l.method c 0 l.initial.self → Before l.method c l.number l.self;
}
