use Rattle.std.proofs.Common.{◌∙◌, ℕ, ◌+◌, List, [], None, Option, refl, ap, sym, subst, drop}
use Rattle.std.proofs.lemmas.List.{drop_all}
use Rattle.dj_ops.specs.declared.frames.Frame.{Frame}
use Rattle.dj_model.specs.trusted.Kinds.{frames_after}
use Rattle.dj_shape_rule.specs.Reported.{Reported, IsKept, IsReportedAs, reported_in}
use Rattle.dj_shape_rule.specs.Reading.{frame_code, with_all}
use Rattle.dj_shape_rule.proofs.FrameLaws.{read_more, after_none, after_end, all_faulty, all_read, drop_at}
use Rattle.dj_shape_rule.proofs.Places.{kept_after, reading_still}
use Rattle.dj_shape_rule.proofs.reading.read_frames.Goals as goal

pub loop-frame-init : goal.loop-frame-init
loop-frame-init c = record {
  reading = c.requires.reading;
  read = ([], refl, λ n. subst (λ (o : Option Reported). IsReportedAs c.args.room.0 c.args.room.1 o None) (sym (c.requires.none n)) refl);
}

pub loop-frame-preserved : goal.loop-frame-preserved
loop-frame-preserved c =
    let code = frame_code c.args.room.0 c.args.room.1 c.args.made.now in
    let i = c.loop-frame.frame-index in
    let f = c.frame-item.result in
    let before = c.loop-frame.reader in
    let after = c.read.new.self in
    let reported = reported_in after.frames.slots.items c.in-Some.kept in
    let t = rw c.in-Some.is at c.in_ok-kept.ensures.read in
    let own = subst (λ (n : ℕ). IsKept after.frames c.keep.new.self n reported) c.from.ensures c.in_ok-keep.ensures.kept in
    let kept = kept_after before.frames after.frames c.keep.new.self f.at reported c.read.ensures.grows own in
    record {
      reading = reading_still after c.keep.new.self c.keep.ensures.same t.2;
      read = read_more code (frames_after code c.args.reader.entries.items c.args.frames.now) before.entries.items after.entries.items f (drop i c.args.frames.now)
          (drop (i + 1) c.args.frames.now) reported before.frames c.keep.new.self (drop_at c.args.frames.now i f c.loop-frame-test.true c.frame-item.is) c.loop-frame.invariant.read t.0 kept;
    }

pub returns-in_default : goal.returns-in_default
returns-in_default c =
    let code = frame_code c.args.room.0 c.args.room.1 c.args.made.now in
    let i = c.loop-frame.frame-index in
    let f = c.frame-item.result in
    let read = c.loop-frame.invariant.read in
    let none = rw c.in_default.is at c.in_ok-kept.ensures.read in
    read.1 ∙ ap (λ (l : List Frame). with_all read.0 (frames_after code c.loop-frame.reader.entries.items l)) (drop_at c.args.frames.now i f c.loop-frame-test.true c.frame-item.is)
    ∙ ap (with_all read.0) (after_none code c.loop-frame.reader.entries.items f (drop (i + 1) c.args.frames.now) none) ∙ all_faulty read.0 f.at

pub returns : goal.returns
returns c =
    let code = frame_code c.args.room.0 c.args.room.1 c.args.made.now in
    let read = c.loop-frame.invariant.read in (
      read.0,
      read.1 ∙ ap (λ (l : List Frame). with_all read.0 (frames_after code c.loop-frame.reader.entries.items l)) (drop_all c.loop-frame.frame-index c.args.frames.now c.loop-frame-test.false)
          ∙ ap (with_all read.0) (after_end code c.loop-frame.reader.entries.items) ∙ all_read read.0,
      read.2,
    )
