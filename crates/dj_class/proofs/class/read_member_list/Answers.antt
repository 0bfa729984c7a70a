use Rattle.std.proofs.Common.{◌≡◌, ◌++◌, ◌∷◌, [], map}
use Rattle.std.proofs.lemmas.Result.{err_from_is_err_and}
use Rattle.std.proofs.lemmas.List.{map_push}
use Rattle.dj_cursor.specs.Reading.{many_at}
use Rattle.dj_cursor.specs.Views.{cursor_of}
use Rattle.dj_cursor.proofs.Loop.{goes_on, ends, is_done}
use Rattle.dj_class.specs.Members.{member_of}
use Rattle.dj_class.specs.Tests.{test_of}
use Rattle.dj_class.specs.Reading.{member_at}
use Rattle.dj_class.specs.Memory.{is_memory}
use Rattle.dj_class.proofs.class.read_member_list.Goals as goal

pub returns-in_err-member : goal.returns-in_err-member
returns-in_err-member c =
    let p = err_from_is_err_and c.from_residual-in_err-member.result c.from_residual-in_err-member.ensures.1 in
    rw (p.1, p.2) (ends (member_at (test_of c.args.name_test) (test_of c.args.desc_test) c.args.pool.now) (is_memory c.in_err-member.field-0.0) c.in_err-member.field-0.0 (map member_of c.loop-i.members.items) c.args.count c.loop-i.i (cursor_of c.loop-i.after) (many_at (member_at (test_of c.args.name_test) (test_of c.args.desc_test) c.args.pool.now) c.args.count (cursor_of c.args.cursor)) c.loop-i-test.true c.in_err-member.ensures c.loop-i.invariant)

pub loop-i-preserved : goal.loop-i-preserved
loop-i-preserved c =
    let n = member_of c.in_ok-member.member in
    let e : map member_of c.push.new.self.items ≡ map member_of c.loop-i.members.items ++ n ∷ [] = rw c.in_ok-push.ensures.items (map_push member_of c.loop-i.members.items c.in_ok-member.member) in
    rw e (goes_on (member_at (test_of c.args.name_test) (test_of c.args.desc_test) c.args.pool.now) (map member_of c.loop-i.members.items) c.args.count c.loop-i.i (cursor_of c.loop-i.after) n (cursor_of c.in_ok-member.next) (many_at (member_at (test_of c.args.name_test) (test_of c.args.desc_test) c.args.pool.now) c.args.count (cursor_of c.args.cursor)) c.loop-i-test.true c.in_ok-member.ensures c.loop-i.invariant)

pub returns : goal.returns
returns c = is_done (member_at (test_of c.args.name_test) (test_of c.args.desc_test) c.args.pool.now) (map member_of c.loop-i.members.items) c.args.count c.loop-i.i (cursor_of c.loop-i.after) (many_at (member_at (test_of c.args.name_test) (test_of c.args.desc_test) c.args.pool.now) c.args.count (cursor_of c.args.cursor)) c.loop-i-test.false c.loop-i.invariant
