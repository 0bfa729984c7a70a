use Rattle.std.proofs.Common.{◌∙◌, sym, ap}
use Rattle.std.specs.Str.{bytes_eq}
use Rattle.dj_edge.proofs.Lookup.{find_here, find_later}
use Rattle.dj_edge.proofs.stored.bytes_under.Goals as goal

pub returns-then-eq : goal.returns-then-eq
returns-then-eq c =
    let same = ap (λ l. bytes_eq l c.args.path.now) (sym c.as_bytes.ensures.value) ∙ sym c.if-eq.ensures in
    sym (find_here c.args.path.now c.args.files.now c.loop-file.file-index c.file-item.result c.loop-file-test.true c.file-item.is same) ∙ c.loop-file.invariant

pub loop-file-preserved : goal.loop-file-preserved
loop-file-preserved c =
    let other = ap (λ l. bytes_eq l c.args.path.now) (sym c.as_bytes.ensures.value) ∙ sym c.if-eq.ensures in
    find_later c.args.path.now c.args.files.now c.loop-file.file-index c.file-item.result c.loop-file-test.true c.file-item.is other ∙ c.loop-file.invariant
