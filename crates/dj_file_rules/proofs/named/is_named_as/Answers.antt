use Rattle.std.proofs.Common.{ℕ, List, subst, sym, ◌∙◌}
use Rattle.dj_names.specs.trusted.ModifiedUtf8.{SpellsUnits}
use Rattle.dj_file_rules.proofs.Naming.{named_by, broken_names_none}
use Rattle.dj_file_rules.proofs.named.is_named_as.Goals as goal

pub returns-in_ok-all-in-Ok : goal.returns-in_ok-all-in-Ok
returns-in_ok-all-in-Ok c =
    named_by c.args.path.now c.args.name.now c.deref.result.now c.as_slice.result.now c.is_class_of.result
    (subst (λ (us : List ℕ). SpellsUnits c.args.name.now us) (sym c.as_slice.ensures) c.in-Ok.ensures.ok)
    (c.deref.ensures.value ∙ c.in_ok-all-in-Ok.ensures) c.is_class_of.ensures

pub returns-in-Err-NotModifiedUtf8 : goal.returns-in-Err-NotModifiedUtf8
returns-in-Err-NotModifiedUtf8 c =
    broken_names_none c.args.path.now c.args.name.now c.in-Err-NotModifiedUtf8.field-0-0
    (c.units_of.ensures.broken c.in-Err-NotModifiedUtf8.field-0-0 (cc))
