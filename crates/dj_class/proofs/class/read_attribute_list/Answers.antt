use Rattle.std.proofs.Common.{◌≡◌, ◌++◌, ◌∷◌, [], map}
use Rattle.std.proofs.lemmas.Result.{err_from_is_err_and}
use Rattle.std.proofs.lemmas.List.{map_push}
use Rattle.dj_cursor.specs.Reading.{many_at}
use Rattle.dj_cursor.specs.Views.{cursor_of}
use Rattle.dj_cursor.proofs.Loop.{goes_on, ends, is_done}
use Rattle.dj_class.specs.Parts.{attribute_of}
use Rattle.dj_class.specs.Reading.{attribute_at}
use Rattle.dj_class.specs.Memory.{is_memory}
use Rattle.dj_class.proofs.class.read_attribute_list.Goals as goal

pub returns-in_err-attribute : goal.returns-in_err-attribute
returns-in_err-attribute c =
    let p = err_from_is_err_and c.from_residual-in_err-attribute.result c.from_residual-in_err-attribute.ensures.1 in
    rw (p.1, p.2) (ends (attribute_at c.args.pool.now) (is_memory c.in_err-attribute.field-0.0) c.in_err-attribute.field-0.0 (map attribute_of c.loop-i.attributes.items) c.args.count c.loop-i.i (cursor_of c.loop-i.after) (many_at (attribute_at c.args.pool.now) c.args.count (cursor_of c.args.cursor)) c.loop-i-test.true c.in_err-attribute.ensures c.loop-i.invariant)

pub loop-i-preserved : goal.loop-i-preserved
loop-i-preserved c =
    let n = attribute_of c.in_ok-attribute.attribute in
    let e : map attribute_of c.push.new.self.items ≡ map attribute_of c.loop-i.attributes.items ++ n ∷ [] = rw c.in_ok-push.ensures.items (map_push attribute_of c.loop-i.attributes.items c.in_ok-attribute.attribute) in
    rw e (goes_on (attribute_at c.args.pool.now) (map attribute_of c.loop-i.attributes.items) c.args.count c.loop-i.i (cursor_of c.loop-i.after) n (cursor_of c.in_ok-attribute.next) (many_at (attribute_at c.args.pool.now) c.args.count (cursor_of c.args.cursor)) c.loop-i-test.true c.in_ok-attribute.ensures c.loop-i.invariant)

pub returns : goal.returns
returns c = is_done (attribute_at c.args.pool.now) (map attribute_of c.loop-i.attributes.items) c.args.count c.loop-i.i (cursor_of c.loop-i.after) (many_at (attribute_at c.args.pool.now) c.args.count (cursor_of c.args.cursor)) c.loop-i-test.false c.loop-i.invariant
