use Rattle.std.proofs.Common.{length, refl, sym, ap, arith}
use Rattle.std.proofs.lemmas.Option.{slice_get_read, slice_get_past}
use Rattle.dj_pool.specs.trusted.Pool.{text_at}
use Rattle.dj_early_rules.specs.trusted.Floats.{HasFloat}
use Rattle.dj_early_rules.specs.trusted.Classes.{IsReflectiveText}
use Rattle.dj_early_rules.specs.Judged.{first_of}
use Rattle.dj_early_rules.proofs.Judging.{past_texts, not_reported}
use Rattle.dj_early_rules.proofs.judged.text_in.Goals as goal

pub returns-in-Some-clause-means : goal.returns-in-Some-clause-means
returns-in-Some-clause-means c =
    let h = c.in-Some.ensures.lookup in
    c.requires.each c.args.index c.in-Some.field-0.now (slice_get_read c.args.texts.now (length c.args.texts.now) c.args.index c.in-Some.field-0.now refl h.3.0 h.1)

pub returns-in-Some-clause-first : goal.returns-in-Some-clause-first
returns-in-Some-clause-first c =
    let h = c.in-Some.ensures.lookup in
    sym (ap (first_of c.args.index) (slice_get_read c.args.texts.now (length c.args.texts.now) c.args.index c.in-Some.field-0.now refl h.3.0 h.1))

pub returns-in-None-clause-means : goal.returns-in-None-clause-means
returns-in-None-clause-means c =
    let h = c.in-None.ensures.lookup in
    let none = past_texts c.args.pool.now c.args.index (omega (arith, h.3, c.requires.all)) in
    record {
      float = not_reported (text_at c.args.pool.now c.args.index) HasFloat none;
      reflective = not_reported (text_at c.args.pool.now c.args.index) IsReflectiveText none;
      first = refl;
    }

pub returns-in-None-clause-first : goal.returns-in-None-clause-first
returns-in-None-clause-first c =
    let h = c.in-None.ensures.lookup in
    sym (ap (first_of c.args.index) (slice_get_past c.args.texts.now c.args.index h.3))
