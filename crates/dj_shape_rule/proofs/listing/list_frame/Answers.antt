use Rattle.std.proofs.Common.{◌<◌, ◌≤◌, List, Option, sym, subst, arith}
use Rattle.std.proofs.lemmas.Bool.Decides.{nat_tests}
use Rattle.dj_names.specs.declared.descriptor.Kind.{Kind}
use Rattle.dj_shape_rule.specs.Arena.{IsShared, slots_at}
use Rattle.dj_shape_rule.proofs.Lists.{shared_few}
use Rattle.dj_shape_rule.proofs.KeptLists.{same_listed, same_last, unfit_listed, unfit_last, fit_listed, fit_last}
use Rattle.dj_shape_rule.proofs.listing.list_frame.Goals as goal

pub returns-then-place-last-clause-listed : goal.returns-then-place-last-clause-listed
returns-then-place-last-clause-listed c =
    let added = c.in_ok-add_again.ensures.added in
    same_listed c.args.frames.now c.args.state.now c.add_again.new.self c.args.index c.args.last c.place_of-place.result c.requires.listed c.requires.last c.add_again.ensures.same.1
    c.place_of-place.ensures.place c.place_of-place.ensures.within added.0 added.1 (grind (arith, nat_tests, c.if-place-last.true)) added.2

pub returns-then-place-last-clause-last : goal.returns-then-place-last-clause-last
returns-then-place-last-clause-last c =
    let added = c.in_ok-add_again.ensures.added in
    same_last c.args.frames.now c.args.state.now c.add_again.new.self c.args.index c.args.last c.place_of-place.result c.requires.listed c.requires.last c.add_again.ensures.same.1
    c.place_of-place.ensures.place c.place_of-place.ensures.within added.0 added.1 (grind (arith, nat_tests, c.if-place-last.true)) added.2

pub returns-then-from-place-clause-listed : goal.returns-then-from-place-clause-listed
returns-then-from-place-clause-listed c =
    let added = c.in_ok-add_again-2.ensures.added in
    let unfit : c.args.state.now.max_locals < c.place_of-place.result.count = omega (arith, c.from.ensures, c.max_locals.ensures, c.if-from-place.true) in
    unfit_listed c.args.frames.now c.args.state.now c.add_again-then-from-place.new.self c.args.index c.args.last c.place_of-place.result c.requires.listed c.requires.last c.add_again-then-from-place.ensures.same.1
    c.place_of-place.ensures.place c.place_of-place.ensures.within added.0 added.1 unfit

pub returns-then-from-place-clause-last : goal.returns-then-from-place-clause-last
returns-then-from-place-clause-last c =
    let added = c.in_ok-add_again-2.ensures.added in
    unfit_last c.args.frames.now c.args.state.now c.add_again-then-from-place.new.self c.args.index c.args.last c.place_of-place.result c.requires.listed c.requires.last c.add_again-then-from-place.ensures.same.1
    c.place_of-place.ensures.place c.place_of-place.ensures.within added.0 added.1 added.2

pub add_list-requires : goal.add_list-requires
add_list-requires c =
    let slots = c.args.frames.now.slots.items in
    let place = c.place_of-place.result in
    let fit : place.count ≤ c.args.state.now.max_locals = omega (arith, c.from.ensures, c.max_locals.ensures, c.if-from-place.false) in
    let count = c.place_of-place.ensures.within.1 in
    let shared = subst (λ (l : List (Option Kind)). IsShared (slots_at slots c.args.last.end) (slots_at slots place.end) c.in_ok-from.from l) (sym c.deref.ensures.value) c.in_ok-from.ensures in
    shared_few (slots_at slots c.args.last.end) (slots_at slots place.end) c.in_ok-from.from c.args.state.now.max_locals c.deref.result.now shared (omega (arith, fit, count))

pub returns-clause-listed : goal.returns-clause-listed
returns-clause-listed c =
    let added = c.in_ok-add_list.ensures.added in
    let slots = c.args.frames.now.slots.items in
    let place = c.place_of-place.result in
    let fit : place.count ≤ c.args.state.now.max_locals = omega (arith, c.from.ensures, c.max_locals.ensures, c.if-from-place.false) in
    let shared = subst (λ (l : List (Option Kind)). IsShared (slots_at slots c.args.last.end) (slots_at slots place.end) c.in_ok-from.from l) (sym c.deref.ensures.value) c.in_ok-from.ensures in
    fit_listed c.args.frames.now c.args.state.now c.add_list.new.self c.args.index c.args.last place c.requires.listed c.requires.last c.add_list.ensures.same.1
    c.place_of-place.ensures.place c.place_of-place.ensures.within added.0 c.in_ok-from.from c.deref.result.now added.1 fit shared added.2

pub returns-clause-last : goal.returns-clause-last
returns-clause-last c =
    let added = c.in_ok-add_list.ensures.added in
    let slots = c.args.frames.now.slots.items in
    let place = c.place_of-place.result in
    let fit : place.count ≤ c.args.state.now.max_locals = omega (arith, c.from.ensures, c.max_locals.ensures, c.if-from-place.false) in
    let shared = subst (λ (l : List (Option Kind)). IsShared (slots_at slots c.args.last.end) (slots_at slots place.end) c.in_ok-from.from l) (sym c.deref.ensures.value) c.in_ok-from.ensures in
    fit_last c.args.frames.now c.args.state.now c.add_list.new.self c.args.index c.args.last place c.requires.listed c.requires.last c.add_list.ensures.same.1
    c.place_of-place.ensures.place c.place_of-place.ensures.within added.0 c.in_ok-from.from c.deref.result.now added.1 fit shared added.2
