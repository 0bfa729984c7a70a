use Rattle.dj_declarations.specs.Named.{IsNamedBy}
use Rattle.dj_declarations.specs.MemberRows.{row_method}
use Rattle.dj_declarations.proofs.CountLaws.{sound_at, holds_at}
use Rattle.dj_declarations.proofs.LookupLaws.{named_by}
use Rattle.dj_declarations.proofs.tables.ClassMembers.method_texts.Goals as goal

pub returns : goal.returns
returns c =
    let members = c.args.self.now in
    holds_at (row_method members.texts) (λ m. IsNamedBy members.texts m.name m.desc c.row-row.result.name c.row-row.result.desc) members.methods.rows.items c.args.place c.row-row.result c.row-row.ensures
    (named_by members.texts c.row-row.result (sound_at members.texts members.methods.rows.items c.args.place c.row-row.result members.sound.methods_are c.row-row.ensures))
