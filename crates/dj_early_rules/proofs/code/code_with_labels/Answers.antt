use Rattle.std.proofs.Common.{List, ℕ, refl, sym, subst}
use Rattle.dj_labels.specs.Passes.{AreStarts}
use Rattle.dj_early_rules.specs.Passes.{bodies_in, HasFramesAt}
use Rattle.dj_early_rules.proofs.MapLaws.{starts_increase, have_frames}
use Rattle.dj_early_rules.proofs.code.code_with_labels.Goals as goal

pub frames_in-requires-clause-rise : goal.frames_in-requires-clause-rise
frames_in-requires-clause-rise c =
    starts_increase c.args.view.now.code.now c.deref.result.now (subst (AreStarts c.args.view.now.code.now) (sym c.deref.ensures.value) c.requires.labels.starts)

pub returns : goal.returns
returns c = record {
  stack = refl;
  locals = refl;
  bytes = refl;
  labels = c.requires.labels.labels;
  maps_are = refl;
  frames =
      have_frames c.args.view.now.code.now c.deref.result.now (bodies_in c.args.map) c.in_ok-frames.frames
      (subst (AreStarts c.args.view.now.code.now) (sym c.deref.ensures.value) c.requires.labels.starts) c.in_ok-frames.ensures;
}
