use Rattle.std.proofs.Common.{ℕ, ◌<◌, length, Option, IfSome, slice_get, refl, sym, subst, ◌∙◌}
use Rattle.dj_resolution.proofs.Finding.{super_within}
use Rattle.dj_numbering.specs.Numbered.{IsHeight}
use Rattle.dj_numbering.proofs.FieldSums.{height_reported, height_more, one_known}
use Rattle.dj_numbering.proofs.heights.learn.Goals as goal

pub height_of-requires : goal.height_of-requires
height_of-requires c =
    let table = c.args.table.now in
    subst (λ (n : ℕ). IfSome c.super_of.result (λ k. k < n)) (sym c.requires.known.long)
    (subst (λ (o : Option ℕ). IfSome o (λ k. k < length table)) (sym c.super_of.ensures) (super_within table (slice_get table c.args.class)))

pub returns : goal.returns
returns c =
    let table = c.args.table.now in
    let above = height_reported table c.args.heights.now c.super_of.result c.in-Some.above c.requires.known (sym c.in-Some.is ∙ c.height_of.ensures) in
    let height = height_more table c.args.class c.in-Some-own_fields.fields c.in-Some.above c.in-Some-height_below.height
    (subst (λ (o : Option ℕ). IsHeight table o c.in-Some.above) c.super_of.ensures above) c.in-Some-own_fields.ensures c.in-Some-height_below.ensures in
    one_known table c.args.heights.now _ c.args.class c.in-Some-height_below.height c.requires.there c.requires.known height refl
