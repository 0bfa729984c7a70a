-- The references that an array takes, before the first one that it doesn't.
use Rattle.std.proofs.Common.{◌≡◌, ℕ, ◌+◌, ◌-◌, ◌≤◌, ◌<◌, zero, suc, true, false, Bool, ℤ, List, [], ◌∷◌, ◌++◌, length, take, drop, get_or, Some, refl, ap, sym, ◌∙◌, arith, append_assoc, append-nil, if◌then◌else◌}
use Rattle.std.specs.Prelude.{slice_get, slice_range, unsigned_abs, pos, Option, IsSome, is_some, option_and_then}
use Rattle.std.proofs.lemmas.List.{take_more, drop_more, take_all, length-take-le, length-drop, length-take, get_or-drop, get_or-take}
use Rattle.std.proofs.lemmas.Option.{slice_get-get_or, slice_get_within, get_or_from_slice_get}
use Rattle.std.proofs.Math.ListN.{drop_of_length-le}
use Rattle.dj_names.specs.declared.run.Element.TheVariants as elements
use Rattle.dj_names.specs.declared.run.Element.{Element}
use Rattle.dj_names.specs.trusted.Heaps.{Object, Array}
use Rattle.dj_heap.specs.Heaps.{LimitedHeap, object_in, element_in, contents_of}
use Rattle.dj_model.specs.trusted.Natives as model
use Rattle.dj_natives.specs.declared.arrays.Copy.{Copy}
use Rattle.dj_natives.specs.Copies.{IsCopy, Takes}

-- this many are taken, and the rest decides
abbrev pub TakesTo : (ℕ → Bool) → LimitedHeap → Copy → ℕ → Type 0
TakesTo takes h copy at = (class : ℕ) (contents : List ℤ) → object_in h copy.source ≡ Some (Array class elements.Ref contents)
    → model.taken_before takes (slice_range contents copy.from (copy.from + copy.count))
    ≡ take at (slice_range contents copy.from (copy.from + copy.count)) ++ model.taken_before takes (drop at (slice_range contents copy.from (copy.from + copy.count)))

taken_yes : (takes : ℕ → Bool) (l : List ℤ) (at : ℕ) (z : ℤ) → slice_get l at ≡ Some z → takes (unsigned_abs z) ≡ true
    → model.taken_before takes (drop at l) ≡ z ∷ model.taken_before takes (drop (at + 1) l)
taken_yes takes l at z got is_taken =
    ap (model.taken_before takes) (drop_more l at z (slice_get_within l at z got) ∙ ap (λ u. u ∷ drop (at + 1) l) (get_or_from_slice_get l at z z got))
    ∙ ap (λ b. if b then z ∷ model.taken_before takes (drop (at + 1) l) else []) is_taken

taken_no : (takes : ℕ → Bool) (l : List ℤ) (at : ℕ) (z : ℤ) → slice_get l at ≡ Some z → takes (unsigned_abs z) ≡ false → model.taken_before takes (drop at l) ≡ []
taken_no takes l at z got not_taken =
    ap (model.taken_before takes) (drop_more l at z (slice_get_within l at z got) ∙ ap (λ u. u ∷ drop (at + 1) l) (get_or_from_slice_get l at z z got))
    ∙ ap (λ b. if b then z ∷ model.taken_before takes (drop (at + 1) l) else []) not_taken

take_one : (l : List ℤ) (at : ℕ) (z : ℤ) → slice_get l at ≡ Some z → take (at + 1) l ≡ take at l ++ z ∷ []
take_one l at z got = take_more l at z (slice_get_within l at z got) ∙ ap (λ u. take at l ++ u ∷ []) (get_or_from_slice_get l at z z got)

-- the first of the first
take_within : (n m : ℕ) (l : List ℤ) → n ≤ m → take n (take m l) ≡ take n l
take_within zero m l le = refl
take_within (suc n) zero l le = absurd (omega (arith, le))
take_within (suc n) (suc m) [] le = refl
take_within (suc n) (suc m) (x ∷ l) le = ap (λ t. x ∷ t) (take_within n m l (omega (arith, le)))

get_within : (n i : ℕ) (l : List ℤ) → i < n → slice_get (take n l) i ≡ slice_get l i
get_within zero i l less = absurd (omega (arith, less))
get_within (suc n) i [] less = refl
get_within (suc n) zero (x ∷ l) less = refl
get_within (suc n) (suc i) (x ∷ l) less = get_within n i l (omega (arith, less))

get_drop : (from i : ℕ) (l : List ℤ) → slice_get (drop from l) i ≡ slice_get l (from + i)
get_drop zero i l = let plus : i ≡ 0 + i = omega arith in ap (slice_get l) plus
get_drop (suc from) i [] = refl
get_drop (suc from) i (x ∷ l) = let plus : suc (from + i) ≡ suc from + i = omega arith in get_drop from i l ∙ ap (slice_get (x ∷ l)) plus

module _ (contents : List ℤ) (from count : ℕ) where
  range_get : (at : ℕ) (z : ℤ) → at < count → slice_get contents (from + at) ≡ Some z → slice_get (slice_range contents from (from + count)) at ≡ Some z
  range_get at z few got = get_within (from + count - from) at (drop from contents) (omega (arith, few)) ∙ get_drop from at contents ∙ got

  range_take : (at : ℕ) → at ≤ count → take at (slice_range contents from (from + count)) ≡ take at (drop from contents)
  range_take at few = take_within at (from + count - from) (drop from contents) (omega (arith, few))

  pub range_whole : slice_range contents from (from + count) ≡ take count (drop from contents)
  range_whole = ap (λ k. take k (drop from contents)) (omega arith)

  range_past : drop count (slice_range contents from (from + count)) ≡ []
  range_past = drop_of_length-le (slice_range contents from (from + count)) (omega (arith, length-take (from + count - from) (drop from contents)))

module _ (takes : ℕ → Bool) (h : LimitedHeap) (copy : Copy) where
  pub takes_none : TakesTo takes h copy 0
  takes_none class contents is = refl

  pub takes_more : (at : ℕ) (z : ℤ) → at < copy.count
      → ((class : ℕ) (contents : List ℤ) → object_in h copy.source ≡ Some (Array class elements.Ref contents) → slice_get contents (copy.from + at) ≡ Some z)
      → takes (unsigned_abs z) ≡ true → TakesTo takes h copy at → TakesTo takes h copy (at + 1)
  takes_more at z few read is_taken so_far class contents is =
      let range = slice_range contents copy.from (copy.from + copy.count) in
      let got = range_get contents copy.from copy.count at z few (read class contents is) in
      so_far class contents is
      ∙ ap (λ l. take at range ++ l) (taken_yes takes range at z got is_taken)
      ∙ sym (append_assoc (take at range) (z ∷ []) (model.taken_before takes (drop (at + 1) range)))
      ∙ ap (λ l. l ++ model.taken_before takes (drop (at + 1) range)) (sym (take_one range at z got))

  pub takes_stop : (at : ℕ) (z : ℤ) → at < copy.count
      → ((class : ℕ) (contents : List ℤ) → object_in h copy.source ≡ Some (Array class elements.Ref contents) → slice_get contents (copy.from + at) ≡ Some z)
      → takes (unsigned_abs z) ≡ false → TakesTo takes h copy at → Takes takes h copy at
  takes_stop at z few read not_taken so_far class contents is =
      let range = slice_range contents copy.from (copy.from + copy.count) in
      let got = range_get contents copy.from copy.count at z few (read class contents is) in
      so_far class contents is
      ∙ ap (λ l. take at range ++ l) (taken_no takes range at z got not_taken)
      ∙ append-nil (take at range)
      ∙ range_take contents copy.from copy.count at (omega (arith, few))

  pub takes_all : (at : ℕ) → at ≡ copy.count → TakesTo takes h copy at → Takes takes h copy copy.count
  takes_all at e so_far class contents is =
      let range = slice_range contents copy.from (copy.from + copy.count) in
      so_far class contents is
      ∙ ap (λ k. take k range ++ model.taken_before takes (drop k range)) e
      ∙ ap (λ l. take copy.count range ++ model.taken_before takes l) (range_past contents copy.from copy.count)
      ∙ append-nil (take copy.count range)
      ∙ range_take contents copy.from copy.count copy.count (omega arith)

  pub takes_element : (at : ℕ) (z : ℤ) → element_in h copy.source (copy.from + at) ≡ Some z
      → (class : ℕ) (contents : List ℤ) → object_in h copy.source ≡ Some (Array class elements.Ref contents) → slice_get contents (copy.from + at) ≡ Some z
  takes_element at z read class contents is =
      sym (ap (λ (o : Option (Object ℕ)). option_and_then (λ contents. slice_get contents (copy.from + at)) (option_and_then contents_of o)) is) ∙ read

pub takes_there : (h : LimitedHeap) (copy : Copy) (element : Element) (at : ℕ) → IsCopy h element copy → at < copy.count → IsSome (element_in h copy.source (copy.from + at))
takes_there h copy element at is few =
    let long = is.source.within in
    ap (λ (o : Option (Object ℕ)). is_some (option_and_then (λ contents. slice_get contents (copy.from + at)) (option_and_then contents_of o))) is.source.is
    ∙ ap is_some (slice_get-get_or is.source.contents (copy.from + at) (pos 0) (omega (arith, few, long)))
