use Rattle.std.proofs.Common.{◌∙◌}
use Rattle.std.proofs.lemmas.Result.{err_from_is_err_and}
use Rattle.dj_edge.proofs.Reading.{read_none, read_more, next_as, unread_error}
use Rattle.dj_edge.proofs.walk.read_folder.Goals as goal

pub loop-count-init : goal.loop-count-init
loop-count-init g c = record {
  same = c.open.ensures.unchanged;
  read = rw c.new-kept.ensures.items (read_none (g.F.Folders.tree c.args.folders.now) c.args.folder.now (g.F.Folders.left c.open.new.self) c.in_ok-open.ensures.opens);
}

pub loop-count-preserved : goal.loop-count-preserved
loop-count-preserved g c = record {
  same = c.next.ensures.unchanged ∙ c.loop-count.invariant.same;
  read = read_more (g.F.Folders.tree c.args.folders.now) c.args.folder.now (g.F.Folders.left c.loop-count.folders) (g.F.Folders.left c.next.new.self) c.loop-count.kept.items c.keep.new.kept.items
      c.loop-count.count c.in-Some.entry c.loop-count.invariant.read
      (next_as (g.F.Folders.tree c.loop-count.folders) (g.F.Folders.tree c.args.folders.now) (g.F.Folders.left c.loop-count.folders) (g.F.Folders.left c.next.new.self)
      c.in_ok-entry.field-0 c.in-Some.entry c.loop-count.invariant.same c.in-Some.is c.in_ok-entry.ensures.reads)
      c.in_ok-keep-in-Some.ensures.kept;
}

pub returns-in_err-entry-clause-reads : goal.returns-in_err-entry-clause-reads
returns-in_err-entry-clause-reads g c =
    let p = err_from_is_err_and c.from_residual-in_err-entry.result c.from_residual-in_err-entry.ensures.1 in
    rw (p.1, p.2)
    (unread_error (g.F.Folders.tree c.loop-count.folders) (g.F.Folders.tree c.args.folders.now) c.args.folder.now (g.F.Folders.left c.loop-count.folders) (g.F.Folders.left c.next.new.self)
    c.loop-count.kept.items c.loop-count.count c.args.most c.in_err-entry.field-0.0 c.loop-count.invariant.same c.loop-count.invariant.read c.in_err-entry.ensures.reads)
