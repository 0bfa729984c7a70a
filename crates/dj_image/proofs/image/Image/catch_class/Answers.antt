use Rattle.std.proofs.Common.{◌≡◌, ℕ, List, Option, Some, None, sym, ap, ◌∙◌, subst}
use Rattle.std.specs.Global.{Vec}
use Rattle.dj_labels.specs.declared.labelled.Protected.{Protected}
use Rattle.dj_image.specs.Codes.{IsCaughtAt}
use Rattle.dj_image.specs.Taken.{caught_kept}
use Rattle.dj_image.proofs.KeptPlaces.{range_within, caught_now}
use Rattle.dj_image.proofs.image.Image.catch_class.Goals as goal

pub place_of_method-place-requires : goal.place_of_method-place-requires
place_of_method-place-requires c = range_within c.self.view_is c.self.invariant c.args.method.number c.args.range c.requires

pub unreachable-requires : goal.unreachable-requires
unreachable-requires c =
    let reported = caught_now c.self.view_is c.self.invariant c.args.method.number c.args.range c.place_of_method-place.result c.place_of_method-place.ensures c.requires
    c.deref.result.now c.deref.ensures.value None c.in-None.ensures in
    let e : None ≡ Some reported.0 = reported.1 in
    absurd cc

pub returns : goal.returns
returns c =
    let reported = caught_now c.self.view_is c.self.invariant c.args.method.number c.args.range c.place_of_method-place.result c.place_of_method-place.ensures c.requires
    c.deref.result.now c.deref.ensures.value (Some c.in-Some.row.now) c.in-Some.ensures in
    let e : Some c.in-Some.row.now ≡ Some reported.0 = reported.1 in
    let same : c.in-Some.row.now ≡ reported.0 = cc in
    let class = c.place_of_method-place.result.class in
    let whole : c.caught_kept.result ≡ caught_kept c.self.inside.named.items class reported.0.catch_type =
    c.caught_kept.ensures
    ∙ (ap (λ (tables : List (Vec (Option ℕ))). caught_kept tables class c.in-Some.row.now.catch_type) c.deref-in-Some.ensures.value
    ∙ ap (λ (row : Protected). caught_kept c.self.inside.named.items class row.catch_type) same) in
    subst (λ (n : Option ℕ). IsCaughtAt c.args.self.now c.args.method.number c.args.range n) (sym whole) reported.2
