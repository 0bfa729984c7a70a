use Rattle.std.proofs.Common.{[], ◌∙◌, subst, sym}
use Rattle.std.specs.Vec.{with_items}
use Rattle.std.proofs.lemmas.List.{with_items_is}
use Rattle.dj_declarations.specs.trusted.Files.{desc_in}
use Rattle.dj_resolution.specs.Bits.{AreBits}
use Rattle.dj_resolution.proofs.Covering.{plain_marked}
use Rattle.dj_resolution.proofs.Marking.{methods_marked}
use Rattle.dj_resolution.proofs.sharing.plain_method_of.Goals as goal

pub returns : goal.returns
returns c =
    plain_marked c.args.directory.now c.args.row.class c.args.row.place c.args.row.name c.args.row.desc (with_items c.in_ok-words.words c.mark_plain.new.marks) c.mark_plain.new.marks
    (with_items_is c.in_ok-words.words c.mark_plain.new.marks (c.mark_plain.ensures.count ∙ c.deref_mut.ensures.len)) c.requires
    (λ n d h. methods_marked c.args.directory.now.program n (desc_in d) c.methods_of.result.now c.deref_mut.result.now c.mark_plain.new.marks (c.methods_of.ensures.declare n d h.name_is h.desc_is h.described) c.methods_of.ensures.once
    (subst (AreBits []) (sym c.deref_mut.ensures.value) c.in_ok-words.ensures.clear) c.mark_plain.ensures.marks)
