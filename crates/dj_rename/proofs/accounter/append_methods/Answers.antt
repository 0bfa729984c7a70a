use Rattle.dj_rename.proofs.Accounting.{room_left, class_left, methods_next}
use Rattle.dj_rename.proofs.accounter.append_methods.Goals as goal

pub append_method-requires-clause-room : goal.append_method-requires-clause-room
append_method-requires-clause-room c =
    room_left c.args.now.now c.loop-method.now c.args.class c.loop-method.method-index c.args.methods.now c.loop-method.invariant.methods c.requires.room c.loop-method-test.true

pub append_method-requires-clause-class : goal.append_method-requires-clause-class
append_method-requires-clause-class c =
    class_left c.args.now.now c.loop-method.now c.args.class c.loop-method.method-index c.args.methods.now c.loop-method.invariant.methods c.requires.class

pub append_method-requires-clause-texts : goal.append_method-requires-clause-texts
append_method-requires-clause-texts c = c.requires.texts c.loop-method.method-index _ c.loop-method-test.true

pub loop-method-preserved : goal.loop-method-preserved
loop-method-preserved c = record {
  methods =
      methods_next c.args.now.now c.loop-method.now c.append_method.new.now c.args.class c.loop-method.method-index c.args.methods.now _ c.loop-method-test.true
      c.loop-method.invariant.methods c.in_ok-append_method.ensures.ok;
  pool = c.in_ok-append_method.ensures.pool;
}
