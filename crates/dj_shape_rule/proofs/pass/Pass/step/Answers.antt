use Rattle.std.proofs.Common.{◌∙◌, refl}
use Rattle.std.proofs.lemmas.Option.{slice_get_within}
use Rattle.dj_program.specs.trusted.Naming.{instruction_in}
use Rattle.dj_shape_rule.proofs.Lists.{are_kept}
use Rattle.dj_shape_rule.proofs.Steps.{not_found}
use Rattle.dj_shape_rule.proofs.Stepping.{frame_fails, unhandled, fails_early, fails_late, room_at, state_at, step_answers}
use Rattle.dj_shape_rule.proofs.pass.Pass.step.Goals as goal

pub returns-then-not-branch-clause-answers : goal.returns-then-not-branch-clause-answers
returns-then-not-branch-clause-answers c = λ case is before.
    let p = c.args.self.now in
    let q = c.meet_frame.new.self in
    fails_early c.args.method.now case is c.args.number c.args.instr.now c.requires.at p q before c.meet_frame.ensures.room
    (frame_fails c.args.method.now case is c.args.number c.args.instr.now c.requires.at p q (rw c.if-not-branch.true at c.in_ok-meet_frame.ensures.met) before)

pub returns-then-is_unhandled-clause-answers : goal.returns-then-is_unhandled-clause-answers
returns-then-is_unhandled-clause-answers c = λ case is before.
    let p = c.args.self.now in
    let q = c.meet_frame.new.self in
    fails_early c.args.method.now case is c.args.number c.args.instr.now c.requires.at p q before c.meet_frame.ensures.room
    (unhandled c.args.method.now case is c.args.number c.args.instr.now c.requires.at p before (c.is_unhandled.ensures.0 c.if-is_unhandled.true))

pub returns-then-not-branch-2-clause-answers : goal.returns-then-not-branch-2-clause-answers
returns-then-not-branch-2-clause-answers c = λ case is before.
    let stands = rw c.if-not-branch.false at c.in_ok-meet_frame.ensures.met in
    let fails = rw c.if-not-branch-2.true at c.in_ok-apply.ensures.after in
    let p = c.args.self.now in
    let q = c.meet_frame.new.self in
    let r = c.note.new.self in
    fails_late c.args.method.now case is c.args.number c.args.instr.now c.requires.at p q (record q { state = c.apply.new.state }) r c.apply.new.state before c.meet_frame.ensures.room c.in_ok-note.ensures.noted c.apply.ensures.room refl
    (not_found c.args.method.now case is c.args.number c.args.instr.now c.requires.at r.kinds
    (state_at c.args.method.now case is c.args.number c.args.instr.now c.requires.at p q r stands before c.in_ok-note.ensures.noted)
    (fails case.signature case.code (instruction_in case.pool c.args.instr.now) (c.effect_of-effect.ensures case.pool is.kinds) is.gives
    (room_at c.args.method.now case is c.args.number c.args.instr.now c.requires.at p q r before c.meet_frame.ensures.room c.in_ok-note.ensures.noted)))

pub leave-requires-clause-number : goal.leave-requires-clause-number
leave-requires-clause-number c = slice_get_within c.args.method.now.code.now c.args.number c.args.instr.now c.requires.at

pub leave-requires-clause-listed : goal.leave-requires-clause-listed
leave-requires-clause-listed c =
    are_kept c.args.method.now.frames c.args.self.now.state c.apply.new.state (c.apply.ensures.room.1 ∙ c.in_ok-note.ensures.noted.max_locals ∙ c.meet_frame.ensures.room.1)
    (c.apply.ensures.room.2 ∙ c.in_ok-note.ensures.noted.frames ∙ c.meet_frame.ensures.room.2) c.requires.listed

pub returns-clause-answers : goal.returns-clause-answers
returns-clause-answers c = λ case is before.
    let stands = rw c.if-not-branch.false at c.in_ok-meet_frame.ensures.met in
    let applied = rw c.if-not-branch-2.false at c.in_ok-apply.ensures.after in
    let p = c.args.self.now in
    let q = c.meet_frame.new.self in
    let r = c.note.new.self in
    let s = c.apply.new.state in
    let room = room_at c.args.method.now case is c.args.number c.args.instr.now c.requires.at p q r before c.meet_frame.ensures.room c.in_ok-note.ensures.noted in
    let does = c.effect_of-effect.ensures case.pool is.kinds in
    let found = applied case.signature case.code (instruction_in case.pool c.args.instr.now) does is.gives room in
    step_answers c.args.method.now case is c.args.number c.args.instr.now c.requires.at p q c.leave.new.self r s c.leave.result before stands c.meet_frame.ensures.room
    (λ e. let yes = c.is_unhandled.ensures.1 e in absurd cc) c.in_ok-note.ensures.noted found c.apply.ensures.room c.leave.ensures.same (c.leave.ensures.left case.pool)
