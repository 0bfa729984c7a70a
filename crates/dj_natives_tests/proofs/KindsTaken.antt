-- Values are of the kinds that a method takes.
use Rattle.std.proofs.Common.{◌≡◌, ℕ, zero, suc, ◌+◌, ◌<◌, ◌≤◌, Bool, true, false, List, [], ◌∷◌, map, length, Option, Some, None, refl, sym, ap, subst, ◌∙◌, arith, inl, inr}
use Rattle.std.specs.Borrow.{Bor}
use Rattle.std.specs.Prelude.{slice_get}
use Rattle.std.proofs.lemmas.Bool.{cases_lt}
use Rattle.std.proofs.lemmas.List.{length-map}
use Rattle.std.proofs.lemmas.Option.{none-some, same_Some, slice_get-map, slice_get_within}
use Rattle.dj_names.specs.declared.descriptor.Kind.{Kind}
use Rattle.dj_names.specs.declared.descriptor.Kind.TheVariants as kinds
use Rattle.dj_names.specs.declared.run.Value.{Value}
use Rattle.dj_names.specs.declared.run.Value.TheVariants as values
use Rattle.dj_names.specs.trusted.Values.{value_kind}
use Rattle.dj_names.specs.declared.native.NativeId.{NativeId}
use Rattle.dj_heap.specs.Heaps.{LimitedHeap, object_in}
use Rattle.dj_model.specs.trusted.Natives.{reference}
use Rattle.dj_model.specs.trusted.Numbers.{is_of_kind}
use Rattle.dj_natives.specs.Known.{AreArguments, IsOfChars}
use Rattle.dj_natives_tests.specs.Arguments.{IsTaken}

pub kind_is : (kind : Kind) (value : Value) → is_of_kind kind value ≡ true → value_kind value ≡ kind
kind_is kinds.Int (values.Int z) e = refl
kind_is kinds.Int (values.Long z) e = absurd cc
kind_is kinds.Int (values.Ref r) e = absurd cc
kind_is kinds.Long (values.Int z) e = absurd cc
kind_is kinds.Long (values.Long z) e = refl
kind_is kinds.Long (values.Ref r) e = absurd cc
kind_is kinds.Ref (values.Int z) e = absurd cc
kind_is kinds.Ref (values.Long z) e = absurd cc
kind_is kinds.Ref (values.Ref r) e = refl

-- the first n values are of these kinds
abbrev pub AreOfKinds : List Value → List Kind → ℕ → Type 0
AreOfKinds vs ks n = (k : ℕ) (v : Value) (kind : Kind) → k < n → slice_get vs k ≡ Some v → slice_get ks k ≡ Some kind → value_kind v ≡ kind

pub kinds_more : (vs : List Value) (ks : List Kind) (at : ℕ) (v : Value) (kind : Kind) → AreOfKinds vs ks at → slice_get vs at ≡ Some v → slice_get ks at ≡ Some kind
    → is_of_kind kind v ≡ true → AreOfKinds vs ks (at + 1)
kinds_more vs ks at v kind before own its is k w other less e f = elim (cases_lt k at) [
  | inl lower ↦ before k w other lower e f
  | inr more ↦
      let same : at ≡ k = omega (arith, less, more) in
      let first : v ≡ w = same_Some v w (sym own ∙ ap (slice_get vs) same ∙ e) in
      let second : kind ≡ other = same_Some kind other (sym its ∙ ap (slice_get ks) same ∙ f) in
      sym (ap value_kind first) ∙ kind_is kind v is ∙ second
]

pub kinds_all : (vs : List Value) (ks : List Kind) (n : ℕ) → length vs ≡ length ks → length vs ≤ n → AreOfKinds vs ks n → map value_kind vs ≡ ks
kinds_all [] [] n same past all = refl
kinds_all [] (k ∷ ks) n same past all = absurd (omega (arith, same))
kinds_all (v ∷ vs) [] n same past all = absurd (omega (arith, same))
kinds_all (v ∷ vs) (k ∷ ks) zero same past all = absurd (omega (arith, past))
kinds_all (v ∷ vs) (k ∷ ks) (suc n) same past all =
    ap (λ (kind : Kind). kind ∷ map value_kind vs) (all 0 v k (omega arith) refl refl)
    ∙ ap (λ (rest : List Kind). k ∷ rest) (kinds_all vs ks n (omega (arith, same)) (omega (arith, past)) (λ at w kind less e f. all (suc at) w kind (omega (arith, less)) e f))

pub arguments_of : (row : NativeId × Bor (List Kind) × Bool) (id : NativeId) (h : LimitedHeap) (vs : List Value) → row.0 ≡ id → IsTaken row → map value_kind vs ≡ row.1.now
    → (row.2 ≡ false → IsOfChars (object_in h (reference 0 vs))) → AreArguments id h vs
arguments_of row id h vs same taken kinds chars =
    subst (λ (i : NativeId). AreArguments i h vs) same (record { kinds = kinds ∙ taken.kinds; asks = taken.asks vs; fits = taken.fits h vs chars })
