use Rattle.std.proofs.Common.{ℕ, ◌≡◌, subst, sym}
use Rattle.dj_model.specs.trusted.Program.{Program}
use Rattle.dj_class_table.specs.Tables.{class_number}
use Rattle.dj_link_rules.proofs.AboveLaws.{above_is}
use Rattle.dj_link_rules.proofs.above.classes_above.Goals as goal

pub returns : goal.returns
returns c = above_is c.args.linker.now.program c.args.own.now c.class_named.result (subst (λ (p : Program). c.class_named.result ≡ class_number p c.args.own.now) c.classes.ensures c.class_named.ensures)
