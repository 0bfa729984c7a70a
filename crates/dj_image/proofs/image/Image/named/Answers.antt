use Rattle.std.proofs.Common.{◌≡◌, ℕ, List, Option, Some, None, sym, ap, ◌∙◌, subst}
use Rattle.std.specs.Global.{Vec}
use Rattle.dj_early_rules.specs.trusted.Instructions.{index_of}
use Rattle.dj_image.specs.Codes.{IsNamedAt}
use Rattle.dj_image.specs.Taken.{named_kept}
use Rattle.dj_image.proofs.KeptPlaces.{instr_within, named_now}
use Rattle.dj_image.proofs.image.Image.named.Goals as goal

pub place_of_method-place-requires : goal.place_of_method-place-requires
place_of_method-place-requires c = instr_within c.self.view_is c.self.invariant c.args.method.number c.args.number c.requires

pub unreachable-requires : goal.unreachable-requires
unreachable-requires c =
    let reported = named_now c.self.view_is c.self.invariant c.args.method.number c.args.number c.place_of_method-place.result c.place_of_method-place.ensures c.requires
    c.deref.result.now c.deref.ensures.value None c.in-None.ensures in
    let e : None ≡ Some reported.0 = reported.1 in
    absurd cc

pub returns : goal.returns
returns c =
    let reported = named_now c.self.view_is c.self.invariant c.args.method.number c.args.number c.place_of_method-place.result c.place_of_method-place.ensures c.requires
    c.deref.result.now c.deref.ensures.value (Some c.in-Some.instr.now) c.in-Some.ensures in
    let e : Some c.in-Some.instr.now ≡ Some reported.0 = reported.1 in
    let same : c.in-Some.instr.now ≡ reported.0 = cc in
    let class = c.place_of_method-place.result.class in
    let index : c.index_of.result ≡ index_of reported.0 = c.index_of.ensures ∙ ap index_of same in
    let whole : c.named_kept.result ≡ named_kept c.self.inside.named.items class (index_of reported.0) =
    c.named_kept.ensures
    ∙ (ap (λ (tables : List (Vec (Option ℕ))). named_kept tables class c.index_of.result) c.deref-in-Some.ensures.value
    ∙ ap (λ (i : Option ℕ). named_kept c.self.inside.named.items class i) index) in
    subst (λ (n : Option ℕ). IsNamedAt c.args.self.now c.args.method.number c.args.number n) (sym whole) reported.2
