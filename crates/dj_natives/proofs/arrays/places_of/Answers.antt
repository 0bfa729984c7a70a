use Rattle.std.proofs.Common.{◌≡◌, ℕ, ◌<◌, ◌^◌, length, Some, refl, sym, ◌∙◌, subst}
use Rattle.std.specs.Prelude.{◌&&◌}
use Rattle.dj_names.specs.declared.descriptor.Kind.TheVariants as kinds
use Rattle.dj_names.specs.declared.native.NativeId.TheVariants as natives
use Rattle.dj_model.specs.NativeKinds.{native_signature}
use Rattle.dj_natives.specs.Copies.{IsPlaces, fits_at, contents_at}
use Rattle.dj_natives.specs.Seen.{elements_at, element_of}
use Rattle.dj_model.specs.trusted.Natives.{reference}
use Rattle.dj_natives.proofs.ArgumentKinds.{argument_kind}
use Rattle.dj_natives.proofs.CopyPlaces.{is_array, are_places, outside_from, outside_to, outside_count, outside_array}
use Rattle.dj_natives.proofs.arrays.places_of.Goals as goal

pub place-requires : goal.place-requires
unfolding native_signature
place-requires c = argument_kind natives.ArrayCopy natives.ArrayCopy c.args.args.now 1 kinds.Int refl refl c.requires.kinds

pub place-requires-2 : goal.place-requires-2
unfolding native_signature
place-requires-2 c = argument_kind natives.ArrayCopy natives.ArrayCopy c.args.args.now 3 kinds.Int refl refl c.requires.kinds

pub place-requires-3 : goal.place-requires-3
unfolding native_signature
place-requires-3 c = argument_kind natives.ArrayCopy natives.ArrayCopy c.args.args.now 4 kinds.Int refl refl c.requires.kinds

pub returns-in_err-from : goal.returns-in_err-from
returns-in_err-from c = subst (IsPlaces c.args.heap.now c.args.element c.args.args.now) (sym c.from_residual.ensures)
    (λ program prefix types. outside_from program prefix types c.args.heap.now c.args.args.now c.args.element c.requires.source c.requires.target c.in_err-from.ensures)

pub returns-in_err-to : goal.returns-in_err-to
returns-in_err-to c = subst (IsPlaces c.args.heap.now c.args.element c.args.args.now) (sym c.from_residual-in_err-to.ensures)
    (λ program prefix types. outside_to program prefix types c.args.heap.now c.args.args.now c.args.element c.requires.source c.requires.target c.in_err-to.ensures)

pub returns-in_err-count : goal.returns-in_err-count
returns-in_err-count c = subst (IsPlaces c.args.heap.now c.args.element c.args.args.now) (sym c.from_residual-in_err-count.ensures)
    (λ program prefix types. outside_count program prefix types c.args.heap.now c.args.args.now c.args.element c.requires.source c.requires.target c.in_err-count.ensures)

pub both_fit-requires : goal.both_fit-requires
both_fit-requires c = record {
  source = is_array c.args.heap.now c.reference-source.result c.args.element (subst (λ (r : ℕ). element_of (elements_at c.args.heap.now r) ≡ Some c.args.element) (sym c.reference-source.ensures) c.requires.source);
  target = is_array c.args.heap.now c.reference-target.result c.args.element (subst (λ (r : ℕ). element_of (elements_at c.args.heap.now r) ≡ Some c.args.element) (sym c.reference-target.ensures) c.requires.target);
}

pub returns-then-both_fit : goal.returns-then-both_fit
returns-then-both_fit c =
    subst (λ (s : ℕ). IsPlaces c.args.heap.now c.args.element c.args.args.now (Some (record { source = s; from = c.in_ok-from.from; target = c.reference-target.result; to = c.in_ok-to.to; count = c.in_ok-count.count })))
    (sym c.reference-source.ensures)
    (subst (λ (t : ℕ). IsPlaces c.args.heap.now c.args.element c.args.args.now (Some (record { source = reference 0 c.args.args.now; from = c.in_ok-from.from; target = t; to = c.in_ok-to.to; count = c.in_ok-count.count })))
    (sym c.reference-target.ensures)
    (are_places c.args.heap.now c.args.args.now c.args.element c.requires.source c.requires.target c.in_ok-from.from c.in_ok-to.to c.in_ok-count.count c.in_ok-from.ensures c.in_ok-to.ensures c.in_ok-count.ensures
    ((sym (subst (λ (s : ℕ). c.both_fit.result ≡ (fits_at c.args.heap.now s c.in_ok-from.from c.in_ok-count.count && fits_at c.args.heap.now (reference 2 c.args.args.now) c.in_ok-to.to c.in_ok-count.count)) c.reference-source.ensures
    (subst (λ (t : ℕ). c.both_fit.result ≡ (fits_at c.args.heap.now c.reference-source.result c.in_ok-from.from c.in_ok-count.count && fits_at c.args.heap.now t c.in_ok-to.to c.in_ok-count.count)) c.reference-target.ensures
    c.both_fit.ensures.fit))) ∙ c.if-both_fit.true)
    (subst (λ (r : ℕ). length (contents_at c.args.heap.now r) < 2 ^ 31) c.reference-source.ensures c.both_fit.ensures.first)
    (subst (λ (r : ℕ). length (contents_at c.args.heap.now r) < 2 ^ 31) c.reference-target.ensures c.both_fit.ensures.second)))

pub returns-else-both_fit : goal.returns-else-both_fit
returns-else-both_fit c = λ program prefix types.
    outside_array program prefix types c.args.heap.now c.args.args.now c.args.element c.requires.source c.requires.target c.in_ok-from.from c.in_ok-to.to c.in_ok-count.count c.in_ok-from.ensures c.in_ok-to.ensures c.in_ok-count.ensures
    ((sym (subst (λ (s : ℕ). c.both_fit.result ≡ (fits_at c.args.heap.now s c.in_ok-from.from c.in_ok-count.count && fits_at c.args.heap.now (reference 2 c.args.args.now) c.in_ok-to.to c.in_ok-count.count)) c.reference-source.ensures
    (subst (λ (t : ℕ). c.both_fit.result ≡ (fits_at c.args.heap.now c.reference-source.result c.in_ok-from.from c.in_ok-count.count && fits_at c.args.heap.now t c.in_ok-to.to c.in_ok-count.count)) c.reference-target.ensures
    c.both_fit.ensures.fit))) ∙ c.if-both_fit.false)
