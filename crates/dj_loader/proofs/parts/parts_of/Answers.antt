use Rattle.std.proofs.Common.{ℕ, List, Option, length, map, sym, subst}
use Rattle.std.proofs.lemmas.List.{length-map}
use Rattle.dj_class.specs.Views.{class_of}
use Rattle.dj_loader.specs.Filed.{AreOwners, AreFirstParts}
use Rattle.dj_loader.specs.Parting.{ArePartsOf}
use Rattle.dj_loader.proofs.Sides.{ok_with}
use Rattle.dj_loader.proofs.Owned.{are_parts, owners_inside, views_valid}
use Rattle.dj_loader.proofs.parts.parts_of.Goals as goal

pub owned_parts-requires-clause-owners : goal.owned_parts-requires-clause-owners
owned_parts-requires-clause-owners c =
    owners_inside c.args.table.now (map class_of c.args.views.now) c.deref.result.now
    (subst (AreOwners c.args.table.now (map class_of c.args.views.now)) (sym c.deref.ensures.value) c.in_ok-owners.ensures.owners)
    (length c.args.views.now) (length-map c.args.views.now class_of)

pub returns-clause-parts : goal.returns-clause-parts
returns-clause-parts c library of =
    let table = c.args.table.now in
    let files = map class_of c.args.views.now in
    ok_with c.owned_parts.result (λ parts. AreFirstParts table files c.deref.result.now (length table) parts.items) (λ parts. ArePartsOf library files table parts.items)
    (λ parts first. are_parts library files table of (views_valid c.args.views.now c.requires.valid) c.deref.result.now
    (subst (AreOwners table files) (sym c.deref.ensures.value) c.in_ok-owners.ensures.owners) parts.items first)
    c.owned_parts.ensures.parts
