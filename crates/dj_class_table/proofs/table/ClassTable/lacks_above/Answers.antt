use Rattle.std.proofs.Common.{◌≡◌, ℕ, ◌<◌, List, Some, length, ap, ◌∙◌, sym, subst}
use Rattle.std.specs.Prelude.{◌||◌, slice_get, nat_lt}
use Rattle.std.specs.Option.{option_map}
use Rattle.dj_model.specs.trusted.Program.{Program}
use Rattle.dj_class_table.specs.Tables.{lacks_above}
use Rattle.dj_class_table.proofs.Lacking.{lacks_there, both_reported}
use Rattle.dj_class_table.proofs.table.ClassTable.lacks_above.Goals as goal

pub returns-else-lacks_super : goal.returns-else-lacks_super
returns-else-lacks_super c =
    subst (λ (p : Program). Some c.lacks_interface.result ≡ option_map (lacks_above p) (slice_get p c.args.class)) c.self.view_is
    (ap Some (sym (both_reported c.lacks_super.result c.lacks_interface.result c.if-lacks_super.false)
    ∙ (let more : c.lacks_interface.result ≡ nat_lt (length c.index-else-lacks_super.result.now) (length c.index-row.result.now.interfaces) =
    c.lacks_interface.ensures ∙ ap (λ (numbers : List ℕ). nat_lt (length numbers) (length c.index-row.result.now.interfaces)) c.as_slice.ensures in
    λ i. c.lacks_super.ensures i || more i))
    ∙ lacks_there c.self.inside.rows.items c.self.inside.supers.items c.self.inside.interfaces.items c.self.invariant c.args.class
    (subst (λ (p : Program). c.args.class < length p) (sym c.self.view_is) c.requires)
    c.index-row.result.now c.index.result.now c.index-else-lacks_super.result.now c.index-row.ensures c.index.ensures c.index-else-lacks_super.ensures)
