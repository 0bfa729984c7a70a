use Rattle.std.proofs.Common.{◌≡◌, ◌∙◌, [], sym, subst}
use Rattle.dj_edge.proofs.Lists.{nil_of_empty}
use Rattle.dj_class_set.specs.trusted.RawRules.{AreRawViolations}
use Rattle.dj_class_set.proofs.RawLaws.{raw_exactly, some_of_full}
use Rattle.dj_class_set.proofs.raw_rules.judge_entry.Goals as goal

pub returns-then-is_empty : goal.returns-then-is_empty
returns-then-is_empty c = λ files lines held.
    let exact =
    raw_exactly files c.args.entry.now c.args.linker c.args.found.items c.in_ok-lines.lines.items c.in_order-violations.result lines held c.in_ok-lines.ensures c.in_order-violations.ensures.ordered
    c.in_order-violations.ensures.members in
    let none : c.in_order-violations.result ≡ [] = nil_of_empty c.in_order-violations.result c.as_slice.result.now c.as_slice.ensures (sym c.if-is_empty.true ∙ c.is_empty.ensures) in
    (subst (AreRawViolations files c.args.entry.now) none exact, held.1)

pub returns : goal.returns
returns c = λ files lines held. (
  raw_exactly files c.args.entry.now c.args.linker c.args.found.items c.in_ok-lines.lines.items c.in_order-violations.result lines held c.in_ok-lines.ensures c.in_order-violations.ensures.ordered
      c.in_order-violations.ensures.members,
  λ none. some_of_full c.in_order-violations.result c.as_slice.result.now c.as_slice.ensures (sym c.if-is_empty.false ∙ c.is_empty.ensures) none,
)
