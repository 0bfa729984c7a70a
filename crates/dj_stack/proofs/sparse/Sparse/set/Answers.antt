use Rattle.std.proofs.Common.{◌≡◌, ◌<◌, set, length, get_or, None, sym, ap, ◌∙◌, rules, arith}
use Rattle.dj_stack.specs.Cells.{parts_of, variables_in}
use Rattle.dj_stack.proofs.Cells.{still_none, count_of}
use Rattle.dj_stack.proofs.sparse.Sparse.set.Goals as goal

pub returns-else-is_some : goal.returns-else-is_some
returns-else-is_some c =
    let places = c.args.self.now.places.items in
    let cells = parts_of c.args.self.now.cells in
    let none : c.args.local ≡ None = search rules in
    let within : c.args.at < length places = omega (arith, c.requires, count_of places cells) in
    let zero : get_or places c.args.at 0 ≡ 0 = search rules in
    record { locals = still_none places cells c.args.at within zero ∙ ap (set (variables_in places cells) c.args.at) (sym none) }
