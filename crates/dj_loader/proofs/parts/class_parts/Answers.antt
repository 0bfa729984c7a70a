use Rattle.std.proofs.Common.{ℕ, ◌<◌, Option, IfSome, length, map, sym, subst}
use Rattle.dj_class.specs.declared.class.ClassView.{ClassView}
use Rattle.dj_class.specs.Views.{class_of}
use Rattle.dj_early_rules.specs.trusted.Malformed.{HasFaultyMethod}
use Rattle.dj_loader.specs.Filed.{AreFileParts, ArePartsFor}
use Rattle.dj_loader.proofs.Sides.{ok_with}
use Rattle.dj_loader.proofs.Owned.{file_part}
use Rattle.dj_loader.proofs.parts.class_parts.Goals as goal

pub file_parts-requires-clause-sound : goal.file_parts-requires-clause-sound
file_parts-requires-clause-sound c =
    let lt : c.in-Some.place < length c.args.views.now = subst (λ (o : Option ℕ). IfSome o (λ place. place < length c.args.views.now)) c.in-Some.is c.requires.owner in
    λ faulty. c.requires.coded c.in-Some.place c.index-views-place.result lt (subst (λ (view : ClassView). HasFaultyMethod (class_of view)) c.index-views-place.is faulty)

pub returns-in-Some-clause-parts : goal.returns-in-Some-clause-parts
returns-in-Some-clause-parts c =
    let lt : c.in-Some.place < length c.args.views.now = subst (λ (o : Option ℕ). IfSome o (λ place. place < length c.args.views.now)) c.in-Some.is c.requires.owner in
    ok_with c.file_parts.result (AreFileParts (class_of c.index-views-place.result)) (ArePartsFor c.args.table.now (map class_of c.args.views.now) c.args.class c.args.owner)
    (λ parts are. subst (λ (o : Option ℕ). ArePartsFor c.args.table.now (map class_of c.args.views.now) c.args.class o parts) (sym c.in-Some.is)
    (file_part c.args.table.now c.args.views.now c.args.class c.in-Some.place c.index-views-place.result parts lt c.index-views-place.is are))
    c.file_parts.ensures.parts
