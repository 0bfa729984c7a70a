use Rattle.std.proofs.Common.{◌≡◌, List, Option, Some, None, refl, sym, ap, ◌∙◌, subst}
use Rattle.dj_names.specs.declared.native.NativeId.{NativeId}
use Rattle.dj_program.specs.declared.code.MethodCode.{MethodCode}
use Rattle.dj_numbering.specs.Members.{native_at}
use Rattle.dj_image.specs.declared.image.Body as bodies
use Rattle.dj_image.specs.declared.image.Body.TheVariants as variants
use Rattle.dj_image.specs.declared.parts.ClassParts.{ClassParts}
use Rattle.dj_image.specs.Taken.{code_kept}
use Rattle.dj_image.proofs.Standing.{stands, method_within_like}
use Rattle.dj_image.proofs.KeptPlaces.{IsLentBody, body_now}
use Rattle.dj_image.proofs.image.Image.body.Goals as goal

lent_by : (a : Option NativeId) (b : Option MethodCode) (native : Option NativeId) (code : Option MethodCode) → a ≡ native → b ≡ code → (reported : bodies.Body)
    → IsLentBody a b reported → IsLentBody native code reported
lent_by a b native code e f reported lent =
    subst (λ (x : Option MethodCode). IsLentBody native x reported) f (subst (λ (x : Option NativeId). IsLentBody x b reported) e lent)

pub place_of_method-place-requires : goal.place_of_method-place-requires
place_of_method-place-requires c = method_within_like (stands c.self.view_is c.self.invariant) c.args.method.number c.requires

pub native_of-requires : goal.native_of-requires
native_of-requires c = method_within_like (stands c.self.view_is c.self.invariant) c.args.method.number c.requires

pub returns-in-Some : goal.returns-in-Some
returns-in-Some c =
    let native : Some c.in-Some.native ≡ native_at c.self.inside.types.program c.args.method.number = sym c.in-Some.is ∙ c.native_of.ensures in
    body_now c.self.view_is c.self.invariant c.args.method.number c.place_of_method-place.result c.place_of_method-place.ensures (variants.Native c.in-Some.native)
    (subst (λ (id : Option NativeId). IsLentBody id (code_kept c.self.inside.parts.items c.place_of_method-place.result) (variants.Native c.in-Some.native)) native refl)

pub returns-in-Some-code_at : goal.returns-in-Some-code_at
returns-in-Some-code_at c =
    let native : None ≡ native_at c.self.inside.types.program c.args.method.number = sym c.in-None.is ∙ c.native_of.ensures in
    let code : Some c.in-Some-code_at.code.now ≡ code_kept c.self.inside.parts.items c.place_of_method-place.result =
    c.in-Some-code_at.ensures ∙ ap (λ (parts : List ClassParts). code_kept parts c.place_of_method-place.result) c.deref.ensures.value in
    body_now c.self.view_is c.self.invariant c.args.method.number c.place_of_method-place.result c.place_of_method-place.ensures (variants.Code c.in-Some-code_at.code)
    (lent_by None (Some c.in-Some-code_at.code.now) _ _ native code (variants.Code c.in-Some-code_at.code) refl)

pub returns-in-None-code_at : goal.returns-in-None-code_at
returns-in-None-code_at c =
    let native : None ≡ native_at c.self.inside.types.program c.args.method.number = sym c.in-None.is ∙ c.native_of.ensures in
    let code : None ≡ code_kept c.self.inside.parts.items c.place_of_method-place.result =
    c.in-None-code_at.ensures ∙ ap (λ (parts : List ClassParts). code_kept parts c.place_of_method-place.result) c.deref.ensures.value in
    body_now c.self.view_is c.self.invariant c.args.method.number c.place_of_method-place.result c.place_of_method-place.ensures variants.Abstract
    (lent_by None None _ _ native code variants.Abstract tt)
