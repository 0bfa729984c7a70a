use Rattle.std.proofs.Common.{◌∷◌, ℤ, FitsSigned, List, ℕ, w64, to_z, of_z, sym, subst, arith}
use Rattle.std.specs.Int.{w16}
use Rattle.std.proofs.lemmas.Int.{to_z-of_z}
use Rattle.dj_ops.specs.trusted.Forms.{OperandForm, form_of}
use Rattle.dj_ops.specs.trusted.Instructions.{signed_bytes, IsOffset, offset}
use Rattle.dj_ops.specs.Instructions.{Appended}
use Rattle.dj_ops.proofs.FormFacts.{short_form, long_form}
use Rattle.dj_ops.proofs.write.write_branch.Goals as goal

pub write_short_branch-requires : goal.write_short_branch-requires
write_short_branch-requires c =
    let way : ℤ = offset c.args.at c.args.target in
    subst (λ (t : ℤ). FitsSigned w16 (offset c.args.at t)) (sym (to_z-of_z w64 c.args.target c.ranges.target))
    (subst (λ (f : OperandForm). IsOffset f way) (short_form c.args.op way c.if-op-lt200.true c.requires) c.requires)

pub returns-then-op-lt200 : goal.returns-then-op-lt200
returns-then-op-lt200 c =
    let way : ℤ = offset c.args.at c.args.target in
    let bytes : List ℕ → Type 0 = λ (l : List ℕ). Appended c.write_short_branch.result c.args.out.now.items c.write_short_branch.new.out.items (c.args.op ∷ l) in
    subst (λ (t : ℤ). bytes (signed_bytes (form_of c.args.op) (offset c.args.at t))) (to_z-of_z w64 c.args.target c.ranges.target)
    (subst (λ (f : OperandForm). bytes (signed_bytes f (offset c.args.at (to_z w64 (of_z w64 c.args.target))))) (sym (short_form c.args.op way c.if-op-lt200.true c.requires)) c.write_short_branch.ensures)

pub returns-else-op-lt200 : goal.returns-else-op-lt200
returns-else-op-lt200 c =
    let way : ℤ = offset c.args.at c.args.target in
    let bytes : List ℕ → Type 0 = λ (l : List ℕ). Appended c.write_long_branch.result c.args.out.now.items c.write_long_branch.new.out.items (c.args.op ∷ l) in
    subst (λ (t : ℤ). bytes (signed_bytes (form_of c.args.op) (offset c.args.at t))) (to_z-of_z w64 c.args.target c.ranges.target)
    (subst (λ (f : OperandForm). bytes (signed_bytes f (offset c.args.at (to_z w64 (of_z w64 c.args.target))))) (sym (long_form c.args.op way (omega (arith, c.ranges.op)) c.if-op-lt200.false c.requires)) c.write_long_branch.ensures)
