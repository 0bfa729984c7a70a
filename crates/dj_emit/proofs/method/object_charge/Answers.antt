use Rattle.std.proofs.Common.{rules, ◌≡◌, ℕ, ◌+◌, ◌*◌, [], ◌∷◌, ap, ◌∙◌, arith}
use Rattle.dj_groups.specs.Groups.{ObjectBytes, Record, Allocations}
use Rattle.dj_emit.proofs.MethodFacts.{has_instr, class_within, object_free, object_big, counted}
use Rattle.dj_ops.specs.declared.instruction.Instr.TheVariants as instrs
use Rattle.dj_emit.proofs.method.object_charge.Goals as goal

pub operand-requires : goal.operand-requires
operand-requires c = has_instr c.args.image.now c.args.method.number c.args.number (instrs.Class 187 c.requires.index) c.requires.stands

pub returns-in_default : goal.returns-in_default
returns-in_default c = object_free c.args.image.now c.args.method.number c.args.number c.operand.result c.operand.ensures c.in_default.not-Class

pub field_count-requires : goal.field_count-requires
field_count-requires c = class_within c.args.image.now c.args.method.number c.args.number c.in-Class.class c.requires c.in-Class.ensures

pub returns-then-size-gt32767 : goal.returns-then-size-gt32767
returns-then-size-gt32767 c =
    object_big c.args.image.now c.args.method.number c.args.number c.in-Class.class c.field_count.result c.in-Class.ensures c.field_count.ensures (omega (arith, c.if-size-gt32767.true))

pub returns : goal.returns
returns c = λ index s.
    let same : c.from.result ≡ c.field_count.result = search rules in
    ap (λ (n : ℕ). ObjectBytes (16 + 8 * n) ∷ Record Allocations ∷ []) same
    ∙ counted c.args.image.now c.args.method.number c.args.number c.in-Class.class c.field_count.result c.in-Class.ensures c.field_count.ensures index s
