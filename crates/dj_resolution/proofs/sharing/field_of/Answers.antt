use Rattle.std.proofs.Common.{List, ℕ, [], length, true, ◌∙◌, ap, subst, sym, arith}
use Rattle.std.specs.Vec.{with_items}
use Rattle.std.proofs.lemmas.List.{with_items_is}
use Rattle.dj_declarations.specs.trusted.Files.{desc_in}
use Rattle.dj_resolution.specs.Bits.{AreBits}
use Rattle.dj_resolution.proofs.Covering.{field_marked}
use Rattle.dj_resolution.proofs.Marking.{fields_marked}
use Rattle.dj_resolution.proofs.sharing.field_of.Goals as goal

pub mark_all-requires : goal.mark_all-requires
mark_all-requires c row there =
    let room = ap length c.deref_mut.ensures.value in
    let classes = ap length c.classes.ensures in
    let lt = c.fields_of.ensures.there row there in
    omega (arith, room, classes, lt, c.in_ok-words.ensures.count, c.class_count.ensures.count)

pub returns : goal.returns
returns c =
    field_marked c.args.directory.now c.args.row.class c.args.row.place c.args.row.name c.args.row.desc (with_items c.in_ok-words.words c.mark_all.new.marks) c.mark_all.new.marks
    (with_items_is c.in_ok-words.words c.mark_all.new.marks (c.mark_all.ensures.count ∙ c.deref_mut.ensures.len)) c.requires
    (λ n d h. fields_marked c.args.directory.now.program n (desc_in d) c.fields_of.result.now c.deref_mut.result.now c.mark_all.new.marks (c.fields_of.ensures.declare n d h.name_is h.desc_is h.described)
    (subst (AreBits []) (sym c.deref_mut.ensures.value) c.in_ok-words.ensures.clear) c.mark_all.ensures.marks)
