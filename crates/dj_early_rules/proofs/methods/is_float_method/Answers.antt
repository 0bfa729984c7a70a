use Rattle.dj_class.specs.Members.{member_of}
use Rattle.dj_report.proofs.Adding.{not_both}
use Rattle.dj_early_rules.proofs.MapLaws.{floats_reported}
use Rattle.dj_early_rules.proofs.MethodLaws.{reported_map, float_by_desc, float_by_map}
use Rattle.dj_early_rules.proofs.methods.is_float_method.Goals as goal

pub returns-then-text_in : goal.returns-then-text_in
returns-then-text_in c = float_by_desc c.args.view.now.pool (member_of c.args.method.now) (c.text_in.ensures.means.float.0 c.if-text_in.true)

pub returns : goal.returns
returns c =
    float_by_map c.args.view.now.pool (member_of c.args.method.now) c.maps_float.result
    (λ desc. not_both c.text_in.result.float (c.text_in.ensures.means.float.1 desc) c.if-text_in.false)
    (reported_map c.args.view.now.pool (member_of c.args.method.now) c.args.code.now c.maps_float.result c.requires.code
    (floats_reported c.args.code.now c.maps_float.result c.requires.code.whole.whole.frames c.maps_float.ensures))
