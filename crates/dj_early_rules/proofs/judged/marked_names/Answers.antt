use Rattle.std.proofs.Common.{◌≡◌, ◌∙◌, List, Bool, length, map, sym, ap, subst, arith, Contains}
use Rattle.std.proofs.lemmas.List.{length-map}
use Rattle.dj_pool.specs.Views.{constant_of}
use Rattle.dj_class.specs.trusted.ClassFile.{MemberInfo}
use Rattle.dj_class.specs.Views.{class_of}
use Rattle.dj_early_rules.specs.Judged.{StayMarked, AreNamesMarked, AreMembersMarked}
use Rattle.dj_early_rules.proofs.MarkedNames.{written, members_marked}
use Rattle.dj_early_rules.proofs.judged.marked_names.Goals as goal

pub returns : goal.returns
returns c =
    let class = class_of c.args.view.now in
    let start = c.deref_mut.result.now in
    let mid = c.mark_names.new.marks in
    let marks = c.mark_names-2.new.marks in
    let first = written mid _ c.in_ok-marks.marks.len (c.mark_names.ensures.stay.same ∙ c.deref_mut.ensures.len) in
    let stay : StayMarked mid marks = subst (λ (old : List Bool). StayMarked old marks) (c.deref_mut-2.ensures.value ∙ first) c.mark_names-2.ensures.stay in
    let second = written marks _ c.in_ok-marks.marks.len (stay.same ∙ c.mark_names.ensures.stay.same ∙ c.deref_mut.ensures.len) in
    let many : length (map constant_of c.as_slice.result.now) ≡ length c.as_slice.result.now = simp length-map in
    let seen = ap length c.as_slice.ensures in
    let room = c.in_ok-marks.ensures.len in
    let len = c.deref_mut.ensures.len in
    subst (AreMembersMarked class) (sym second)
    (members_marked class start mid marks (omega (arith, many, seen, room, len)) c.mark_names.ensures.stay
    (subst (λ (ms : List MemberInfo). (m : MemberInfo) → Contains ms m → AreNamesMarked mid m) c.as_slice-2.ensures c.mark_names.ensures.own) stay
    (subst (λ (ms : List MemberInfo). (m : MemberInfo) → Contains ms m → AreNamesMarked marks m) c.as_slice-3.ensures c.mark_names-2.ensures.own))
