use Rattle.std.proofs.Common.{◌∙◌, Bool, Some, if◌then◌else◌, ap, sym}
use Rattle.dj_names.specs.declared.descriptor.Kind.TheVariants as kinds
use Rattle.dj_model.specs.trusted.Kinds.{Of, NoEntry}
use Rattle.dj_shape_rule.proofs.Entries.{made_at}
use Rattle.dj_shape_rule.proofs.reading.made_entry.Goals as goal

pub returns-then-is_made : goal.returns-then-is_made
returns-then-is_made c =
    sym (made_at c.args.made.now c.args.number ∙ ap (λ (b : Bool). if b then Of (Some kinds.Ref) else NoEntry) (sym c.is_made.ensures ∙ c.if-is_made.true))

pub returns-else-is_made : goal.returns-else-is_made
returns-else-is_made c =
    sym (made_at c.args.made.now c.args.number ∙ ap (λ (b : Bool). if b then Of (Some kinds.Ref) else NoEntry) (sym c.is_made.ensures ∙ c.if-is_made.false))
