use Rattle.std.proofs.Common.{ℕ, get_or, ap, ◌∙◌, arith}
use Rattle.std.proofs.lemmas.List.{get_or_read}
use Rattle.dj_declarations.proofs.CountLaws.{all_counted}
use Rattle.dj_declarations.proofs.tables.ClassMembers.instance_fields.Goals as goal

pub returns : goal.returns
returns c =
    let members = c.args.self.now in
    let long = members.counted.long in
    get_or_read members.counts.items c.count.result c.index.result.now (omega (arith, long)) c.index.ensures 0
    ∙ ap (λ (n : ℕ). get_or members.counts.items n 0) c.count.ensures ∙ all_counted members.texts members.fields.rows.items members.counts.items members.counted
