use Rattle.std.proofs.Common.{◌≡◌, List, sym, ap, ◌∙◌, subst, ◌++◌, IsTrue, ◌↔◌}
use Rattle.dj_ops.specs.declared.frames.VType.{VType}
use Rattle.dj_frames.specs.trusted.StackMaps.{types_of}
use Rattle.dj_report.proofs.Adding.{not_both}
use Rattle.dj_early_rules.specs.trusted.Code.{HaveFloats}
use Rattle.dj_early_rules.proofs.MapLaws.{floats_of_both}
use Rattle.dj_early_rules.proofs.maps.has_float_type.Goals as goal

pub returns-else-have_floats : goal.returns-else-have_floats
returns-else-have_floats c =
    let a = c.as_slice-in-Full.ensures in
    let b = c.as_slice-else-have_floats.ensures in
    let e = c.in-Full.is in
    let joined : c.as_slice-in-Full.result.now ++ c.as_slice-else-have_floats.result.now ≡ types_of c.args.frame.now.form = (λ i. a i ++ b i) ∙ sym (ap types_of e) in
    subst (λ (types : List VType). IsTrue c.have_floats-else-have_floats.result ↔ HaveFloats types) joined
    (floats_of_both c.as_slice-in-Full.result.now c.as_slice-else-have_floats.result.now c.have_floats-else-have_floats.result
    (λ has. not_both c.have_floats-in-Full.result (c.have_floats-in-Full.ensures.1 has) c.if-have_floats.false) c.have_floats-else-have_floats.ensures)
