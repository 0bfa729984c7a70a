use Rattle.std.proofs.Common.{◌≡◌, ◌<◌, ◌≤◌, ℕ, List, [], length, get_or, slice_get, refl, sym, ◌∙◌, ap, subst, arith}
use Rattle.std.specs.Global.{Vec}
use Rattle.std.proofs.lemmas.List.{length-map}
use Rattle.dj_model.specs.trusted.Program.{interfaces_of}
use Rattle.dj_class_table.specs.Tables.{interface_numbers}
use Rattle.dj_resolution.specs.Bits.{words_for}
use Rattle.dj_resolution.specs.Numbers.{AreBelow, lists_of}
use Rattle.dj_resolution.proofs.Knowing.{gathered_none, gathered_row, gathered_all, gathered_enough, known_below}
use Rattle.dj_resolution.proofs.Marks.{found_below, numbers_below}
use Rattle.dj_resolution.proofs.above.Known.above.Goals as goal

pub loop-listed-init : goal.loop-listed-init
loop-listed-init c =
    let count : c.len.result ≡ length c.args.table.now = omega (arith, c.len.ensures, c.requires.known.marks_count) in
    let bound : length c.in_ok-numbers.numbers.bits.items ≡ words_for (length c.args.table.now) = c.in_ok-numbers.ensures.bound ∙ ap words_for count in
    gathered_none c.args.table.now c.args.self.now.marks.items c.args.class c.in_ok-numbers.numbers.list.items c.in_ok-numbers.numbers.bits.items c.in_ok-numbers.ensures.none bound

pub add_above-requires-clause-lists : goal.add_above-requires-clause-lists
add_above-requires-clause-lists c =
    let lists = c.requires.known.lists_count in
    omega (arith, lists, c.requires.known.marks_count, length-map c.args.self.now.lists.items (λ (l : Vec ℕ). l.items))

pub add_above-requires-clause-bound : goal.add_above-requires-clause-bound
add_above-requires-clause-bound c = c.loop-listed.invariant.bound ∙ ap words_for (sym c.requires.known.marks_count)

pub add_above-requires-clause-there : goal.add_above-requires-clause-there
add_above-requires-clause-there c =
    subst (λ (n : ℕ). get_or c.interfaces_of-listed-items.result.now c.loop-listed.listed-index 0 < n) (sym c.requires.known.marks_count)
    (found_below (length c.args.table.now) (interface_numbers c.args.table.now c.args.class) c.interfaces_of-listed-items.result.now c.loop-listed.listed-index
    (get_or c.interfaces_of-listed-items.result.now c.loop-listed.listed-index 0)
    (numbers_below c.args.table.now (interfaces_of (slice_get c.args.table.now c.args.class))) c.interfaces_of-listed-items.ensures c.loop-listed-test.true refl)

pub add_above-requires-clause-below : goal.add_above-requires-clause-below
add_above-requires-clause-below c = λ k marked.
    subst (λ (n : ℕ). AreBelow n (get_or (lists_of c.args.self.now.lists.items) k [])) (sym c.requires.known.marks_count)
    (known_below c.args.table.now (lists_of c.args.self.now.lists.items) c.args.self.now.marks.items c.requires.known k marked)

pub loop-listed-preserved : goal.loop-listed-preserved
loop-listed-preserved c =
    gathered_row c.args.table.now (lists_of c.args.self.now.lists.items) c.args.self.now.marks.items c.args.class c.loop-listed.listed-index c.loop-listed.numbers.list.items c.add_above.new.numbers.list.items
    c.loop-listed.numbers.bits.items c.add_above.new.numbers.bits.items c.interfaces_of-listed-items.result.now c.interfaces_of-listed-items.ensures c.requires.known c.requires.few c.loop-listed.invariant c.loop-listed-test.true
    c.in_ok-add_above.ensures.known c.in_ok-add_above.ensures.list c.in_ok-add_above.ensures.bound

pub returns-clause-list : goal.returns-clause-list
returns-clause-list c =
    gathered_all c.args.table.now (lists_of c.args.self.now.lists.items) c.args.self.now.marks.items c.args.class c.loop-listed.listed-index c.loop-listed.numbers.list.items c.loop-listed.numbers.bits.items
    c.requires.known c.requires.few c.loop-listed.invariant (subst (λ (xs : List ℕ). length xs ≤ c.loop-listed.listed-index) c.interfaces_of-listed-items.ensures c.loop-listed-test.false)

pub returns-clause-enough : goal.returns-clause-enough
returns-clause-enough c =
    gathered_enough c.args.table.now c.args.self.now.marks.items c.args.class c.loop-listed.listed-index c.loop-listed.numbers.list.items c.loop-listed.numbers.bits.items
    c.loop-listed.invariant (subst (λ (xs : List ℕ). length xs ≤ c.loop-listed.listed-index) c.interfaces_of-listed-items.ensures c.loop-listed-test.false)
