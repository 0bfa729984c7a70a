use Rattle.std.proofs.Common.{ℕ, ◌*◌, List, [], length, ltb, ◌∙◌, ap, subst, sym, arith}
use Rattle.std.specs.Vec.{with_items}
use Rattle.std.proofs.lemmas.List.{with_items_is}
use Rattle.dj_declarations.specs.trusted.Files.{desc_in}
use Rattle.dj_resolution.specs.Bits.{AreBits}
use Rattle.dj_resolution.specs.Marked.{AddsMarks}
use Rattle.dj_resolution.specs.Ranked.{rank_in}
use Rattle.dj_resolution.proofs.Covering.{rank_marked, ranks_marked}
use Rattle.dj_resolution.proofs.sharing.method_of.Goals as goal

pub returns : goal.returns
returns c =
    let room = ap length c.deref_mut.ensures.value in
    let classes = ap length c.classes.ensures in
    rank_marked c.args.directory.now c.args.row.class c.args.row.place c.args.row.name c.args.row.desc (with_items c.in_ok-words.words c.mark_ranks.new.marks) c.mark_ranks.new.marks
    (with_items_is c.in_ok-words.words c.mark_ranks.new.marks (c.mark_ranks.ensures.count ∙ c.deref_mut.ensures.len)) c.args.ranks.now.ranks.items c.requires.row
    (λ n d h. ranks_marked c.args.directory.now.program c.args.ranks.now.ranks.items n (desc_in d) c.methods_of.result.now (length c.deref_mut.result.now * 64) c.deref_mut.result.now c.mark_ranks.new.marks
    (c.methods_of.ensures.declare n d h.name_is h.desc_is h.described) c.methods_of.ensures.there (omega (arith, room, classes, c.in_ok-words.ensures.count, c.class_count.ensures.count))
    (subst (AreBits []) (sym c.deref_mut.ensures.value) c.in_ok-words.ensures.clear)
    (subst (λ (ranks : List ℕ). AddsMarks (λ row. ltb (rank_in ranks row.class) (length c.deref_mut.result.now * 64)) (λ row. rank_in ranks row.class) c.methods_of.result.now c.deref_mut.result.now c.mark_ranks.new.marks)
    c.deref.ensures.value c.mark_ranks.ensures.marks))
