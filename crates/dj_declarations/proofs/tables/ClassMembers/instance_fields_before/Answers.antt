use Rattle.std.proofs.Common.{◌≡◌, ℕ, ◌<◌, false, length, get_or, Some, IfSome, sym, subst, ◌∙◌, arith}
use Rattle.std.specs.Prelude.{slice_get}
use Rattle.std.proofs.lemmas.List.{get_or_read}
use Rattle.dj_model.specs.trusted.Linking.{fields_before}
use Rattle.dj_declarations.specs.Tables.{fields_of}
use Rattle.dj_declarations.proofs.CountLaws.{first_within, first_there, fields_before_first}
use Rattle.dj_declarations.proofs.TextLaws.{leads_back}
use Rattle.dj_declarations.proofs.tables.ClassMembers.instance_fields_before.Goals as goal

pub index-requires : goal.index-requires
index-requires c =
    let members = c.args.self.now in
    let lt = first_within c.row-row.result.name c.row-row.result.desc members.fields.rows.items c.in-Some.first (sym c.find.ensures ∙ c.in-Some.is) in
    let long = members.counted.long in
    omega (arith, lt, long, members.counts.ok.0)

pub unreachable-requires : goal.unreachable-requires
unreachable-requires c = first_there c.args.self.now.fields.rows.items c.args.place c.row-row.result c.row-row.ensures (sym c.in-None.is ∙ c.find.ensures)

pub returns : goal.returns
returns c =
    let members = c.args.self.now in
    let is : Some c.in-Some.first ≡ _ = sym c.in-Some.is ∙ c.find.ensures in
    let lt : c.in-Some.first < length members.fields.rows.items = first_within c.row-row.result.name c.row-row.result.desc members.fields.rows.items c.in-Some.first (sym is) in
    let long = members.counted.long in
    let read : c.index.result.now ≡ get_or members.counts.items c.in-Some.first 0 = get_or_read members.counts.items c.in-Some.first c.index.result.now (omega (arith, lt, long)) c.index.ensures 0 in
    subst
    (λ (n : ℕ). IfSome (slice_get (fields_of members) c.args.place) (λ f. n ≡ fields_before false f.name f.desc (fields_of members)))
    (sym read) (fields_before_first members.texts (leads_back members.texts) members.fields.rows.items members.counts.items c.args.place c.in-Some.first c.row-row.result members.sound.fields_are members.counted c.row-row.ensures (sym is))
