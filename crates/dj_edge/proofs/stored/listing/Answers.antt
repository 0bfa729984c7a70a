use Rattle.std.proofs.Common.{◌∙◌, ◌&&◌, ℕ, List, map, filter, take, codes, nat_eq, string_bytes, ap}
use Rattle.std.specs.List.{starts_with, ends_with}
use Rattle.dj_edge.specs.trusted.Held.{File}
use Rattle.dj_edge.specs.InMemory.{files_in, class_paths}
use Rattle.dj_edge.proofs.Lookup.{texts_in_order}
use Rattle.dj_edge.proofs.stored.listing.Goals as goal

pub returns : goal.returns
returns c =
    let files = files_in c.args.files.now in
    let start = c.as_bytes.ensures.value ∙ c.in_ok-start.ensures.ok in
    let found = c.in_ok-paths.ensures
    ∙ ap (λ (l : List ℕ). map (λ (file : File). file.0) (filter (λ (file : File). starts_with nat_eq file.0 l && ends_with nat_eq file.0 (codes ".class")) files)) start in
    ap (λ l. map string_bytes l) (c.truncate.ensures.items ∙ ap (λ l. take c.args.most l) c.put_in_order.ensures)
    ∙ texts_in_order string_bytes c.args.order c.args.most c.in_ok-paths.paths.items (class_paths c.args.folder.now files) found
