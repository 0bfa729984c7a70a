use Rattle.std.proofs.Common.{◌∙◌, take, map, string_bytes, ap}
use Rattle.dj_edge.specs.Stores.{files_of}
use Rattle.dj_edge.specs.InMemory.{in_order, class_paths, files_in}
use Rattle.dj_edge.proofs.Lookup.{is_listing}
use Rattle.dj_edge.proofs.mem_files.MemFilesFiles.list.Goals as goal

pub returns-clause-lists : goal.returns-clause-lists
returns-clause-lists c =
    let m = c.args.self.now in
    let is = c.in_ok-paths.ensures ∙ ap (λ l. take c.args.most (in_order m.order (class_paths c.args.folder.now (files_in l)))) c.deref-2.ensures.value in
    is_listing (files_of m) m.order c.args.folder.now c.args.most (map string_bytes c.in_ok-paths.paths.items) m.differ is
