use Rattle.std.proofs.Common.{◌<◌, ◌≤◌, length, map, string_bytes, arith}
use Rattle.std.proofs.lemmas.Result.{err_from_is_err_and}
use Rattle.std.proofs.lemmas.List.{length-map}
use Rattle.djvm_cli.proofs.Loading.{listing_stopped, listed_many, listed_all, moved_class_paths, moved_rise}
use Rattle.djvm_cli.proofs.load.list_paths.Goals as goal

pub returns-in_err-paths-clause-counts : goal.returns-in_err-paths-clause-counts
returns-in_err-paths-clause-counts g c =
    let p = err_from_is_err_and c.from_residual.result c.from_residual.ensures.1 in
    rw p.1 (listing_stopped (g.F.Files.faults c.args.files.now) (g.F.Files.faults c.list.new.self) c.in_err-paths.field-0.0 p.0 p.2 c.list.ensures.never_falls c.in_err-paths.ensures.counts)

pub returns-then-len-clause-reported : goal.returns-then-len-clause-reported
returns-then-len-clause-reported g c =
    let size = length-map c.in_ok-paths.paths.items string_bytes in
    let many : 4096 < length (map string_bytes c.in_ok-paths.paths.items) = omega (arith, c.len.ensures) in
    listed_many _ c.args.folder.now (map string_bytes c.in_ok-paths.paths.items) c.in_ok-paths.ensures.lists many

pub returns-clause-class_paths : goal.returns-clause-class_paths
returns-clause-class_paths g c = (
  omega (arith, c.len.ensures, c.sort.ensures.len),
  moved_class_paths c.args.folder.now c.in_ok-paths.paths.items c.sort.new.self.items c.in_ok-paths.ensures.lists.class_paths c.sort.ensures.permutation,
)

pub returns-clause-rise : goal.returns-clause-rise
returns-clause-rise g c = moved_rise c.in_ok-paths.paths.items c.sort.new.self.items c.in_ok-paths.ensures.lists.differ c.sort.ensures.permutation c.in_ok-sort.ensures.sorted

pub returns-clause-reported : goal.returns-clause-reported
returns-clause-reported g c =
    let few : length c.in_ok-paths.paths.items ≤ 4096 = omega (arith, c.len.ensures) in
    listed_all _ c.args.folder.now c.in_ok-paths.paths.items c.sort.new.self.items c.in_ok-paths.ensures.lists few c.sort.ensures.permutation c.in_ok-sort.ensures.sorted
