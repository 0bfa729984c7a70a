-- Elements that are copied from one array to another, or to other places of the same.
use Rattle.std.proofs.Common.{◌≡◌, ℕ, ◌+◌, ◌-◌, ◌≤◌, ◌<◌, zero, suc, true, false, Bool, ℤ, pos, List, [], ◌∷◌, ◌++◌, length, take, drop, set, get_or, Option, Some, None, nat_eq, if◌then◌else◌, refl, ap, sym, subst, ◌∙◌, arith, append_assoc, inl, inr}
use Rattle.std.specs.Prelude.{slice_get, IsSome, is_some, option_and_then}
use Rattle.std.proofs.lemmas.List.{length-append, length-take, length-take-le, length-drop, set-get_or, length-set, take_more, take-append-drop, get_or-drop, get_or-take, drop_more}
use Rattle.std.proofs.lemmas.Bool.{eqb-true, eq-eqb, both_ways}
use Rattle.std.proofs.lemmas.Option.{slice_get-get_or, slice_get_within, get_or_from_slice_get}
use Rattle.std.proofs.Math.ListN.{drop_of_length-le}
use Rattle.std.proofs.Math.Seq.{set-append_seam, paste, paste-suc, paste-zero}
use Rattle.dj_names.specs.declared.run.Element.{Element}
use Rattle.dj_names.specs.trusted.Heaps.{Object, Array, object_at, with_object}
use Rattle.dj_heap.specs.Heaps.{LimitedHeap, object_in, element_in, contents_of, low_bits, IsKeptIn, Replaces, with_number}
use Rattle.dj_model.proofs.MappedNames.{either}
use Rattle.dj_natives.specs.declared.arrays.Copy.{Copy}
use Rattle.dj_natives.specs.Copies.{IsCopy, Moves}
use Rattle.dj_natives.proofs.HeapLaws.{set_twice, there_set, there_within, there_is, found_there}

-- ---- lists

got_other : {X : Type 0} (xs : List X) (i j : ℕ) (a : X) → (i ≡ j → ⊥) → slice_get (set xs i a) j ≡ slice_get xs j
got_other [] i j a apart = refl
got_other (x ∷ xs) zero zero a apart = absurd (apart refl)
got_other (x ∷ xs) zero (suc j) a apart = refl
got_other (x ∷ xs) (suc i) zero a apart = refl
got_other (x ∷ xs) (suc i) (suc j) a apart = got_other xs i j a (λ e. apart (ap suc e))

tail_kept : (prefix olds : List ℤ) (i : ℕ) → length prefix ≤ i → length prefix ≤ length olds → slice_get (prefix ++ drop (length prefix) olds) i ≡ slice_get olds i
tail_kept [] olds i le fits = refl
tail_kept (f ∷ prefix) [] i le fits = absurd (omega (arith, fits))
tail_kept (f ∷ prefix) (o ∷ olds) zero le fits = absurd (omega (arith, le))
tail_kept (f ∷ prefix) (o ∷ olds) (suc i) le fits = tail_kept prefix olds i (omega (arith, le)) (omega (arith, fits))

prefix_kept : (olds rest : List ℤ) (k i : ℕ) → i < k → k ≤ length olds → slice_get (take k olds ++ rest) i ≡ slice_get olds i
prefix_kept olds rest zero i less fits = absurd (omega (arith, less))
prefix_kept [] rest (suc k) i less fits = absurd (omega (arith, fits))
prefix_kept (o ∷ olds) rest (suc k) zero less fits = refl
prefix_kept (o ∷ olds) rest (suc k) (suc i) less fits = prefix_kept olds rest k i (omega (arith, less)) (omega (arith, fits))

down_set : (olds rest : List ℤ) (k : ℕ) (z : ℤ) → k < length olds → set (take (k + 1) olds ++ rest) k z ≡ take k olds ++ z ∷ rest
down_set [] rest k z less = absurd (omega (arith, less))
down_set (o ∷ olds) rest zero z less = refl
down_set (o ∷ olds) rest (suc k) z less =
    let plus : suc k + 1 ≡ suc (k + 1) = omega arith in
    ap (λ j. set (take j (o ∷ olds) ++ rest) (suc k) z) plus ∙ ap (λ l. o ∷ l) (down_set olds rest k z (omega (arith, less)))

-- ---- objects

there_other : (objects : List (Object ℕ)) (r s : ℕ) (a b changed : Object ℕ) → object_at objects r ≡ Some a → object_at objects s ≡ Some b → (r ≡ s → ⊥)
    → object_at (set objects (r - 1) changed) s ≡ Some b
there_other objects r s a b changed first second apart =
    let one = found_there (nat_eq r 0) (slice_get objects (r - 1)) a first in
    let other = found_there (nat_eq s 0) (slice_get objects (s - 1)) b second in
    let r_there : r ≡ 0 → ⊥ = λ e. let found = ap (λ k. nat_eq k 0) e in absurd cc in
    let s_there : s ≡ 0 → ⊥ = λ e. let found = ap (λ k. nat_eq k 0) e in absurd cc in
    let places : r - 1 ≡ s - 1 → ⊥ = λ e. apart (omega (arith, e, r_there, s_there)) in
    ap (λ t. if t then None else slice_get (set objects (r - 1) changed) (s - 1)) other.0
    ∙ got_other objects (r - 1) (s - 1) changed places
    ∙ other.1

array_element : (o : Option (Object ℕ)) (class : ℕ) (element : Element) (contents : List ℤ) (i : ℕ) → o ≡ Some (Array class element contents)
    → option_and_then (λ contents. slice_get contents i) (option_and_then contents_of o) ≡ slice_get contents i
array_element o class element contents i e = ap (λ (o : Option (Object ℕ)). option_and_then (λ contents. slice_get contents i) (option_and_then contents_of o)) e

kept_as : (o : Option (Object ℕ)) (class : ℕ) (element : Element) (contents : List ℤ) (z : ℤ) → o ≡ Some (Array class element contents) → IsKeptIn o z → low_bits element z ≡ z
kept_as o class element contents z e kept = subst (λ (o : Option (Object ℕ)). IsKeptIn o z) e kept

module _ (old now : LimitedHeap) (source target class other : ℕ) (element : Element) (contents olds patched : List ℤ)
    (from_is : object_in old source ≡ Some (Array class element contents)) (to_is : object_in old target ≡ Some (Array other element olds))
    (is : now ≡ record old { heap = with_object old.heap target (Array other element patched) }) where
  target_now : object_in now target ≡ Some (Array other element patched)
  target_now = ap (λ (h : LimitedHeap). object_in h target) is ∙ there_set old.heap.objects target (Array other element olds) to_is (Array other element patched)

  -- what stands in the source, where the target has changed
  source_now : (i : ℕ) → (contents ≡ olds → slice_get patched i ≡ slice_get olds i) → element_in now source i ≡ slice_get contents i
  source_now i kept = elim (either (nat_eq source target)) [
    | inl e ↦
        let same : source ≡ target = eqb-true source target e in
        let arrays : Some (Array class element contents) ≡ Some (Array other element olds) = sym from_is ∙ ap (object_in old) same ∙ to_is in
        let alike : contents ≡ olds = cc in
        array_element (object_in now source) other element patched i (ap (object_in now) same ∙ target_now) ∙ kept alike ∙ ap (λ l. slice_get l i) (sym alike)
    | inr e ↦
        let apart : target ≡ source → ⊥ = λ same. both_ways (nat_eq source target) e (eq-eqb source target (sym same)) in
        array_element (object_in now source) class element contents i
        (ap (λ (h : LimitedHeap). object_in h source) is ∙ there_other old.heap.objects target source (Array other element olds) (Array class element contents) (Array other element patched) to_is from_is apart)
  ]

  -- what is read of the source is such that the target keeps it
  kept_now : (z : ℤ) → IsKeptIn (object_in now source) z → low_bits element z ≡ z
  kept_now z kept = elim (either (nat_eq source target)) [
    | inl e ↦
        let same : source ≡ target = eqb-true source target e in
        kept_as (object_in now source) other element patched z (ap (object_in now) same ∙ target_now) kept
    | inr e ↦
        let apart : target ≡ source → ⊥ = λ same. both_ways (nat_eq source target) e (eq-eqb source target (sym same)) in
        kept_as (object_in now source) class element contents z
        (ap (λ (h : LimitedHeap). object_in h source) is ∙ there_other old.heap.objects target source (Array other element olds) (Array class element contents) (Array other element patched) to_is from_is apart) kept
  ]

  -- an element of the target is there
  target_some : (i : ℕ) → i < length patched → IsSome (element_in now target i)
  target_some i within =
      ap is_some (array_element (object_in now target) other element patched i target_now) ∙ ap is_some (slice_get-get_or patched i (pos 0) within)

  -- one element more is stored
  store_now : (new : LimitedHeap) (at : ℕ) (z : ℤ) → low_bits element z ≡ z → Replaces now new target (λ o. with_number o at z)
      → new ≡ record old { heap = with_object old.heap target (Array other element (set patched at z)) }
  store_now new at z few replaces =
      replaces (Array other element patched) target_now
      ∙ ap (λ (h : LimitedHeap). record h { heap = with_object h.heap target (Array other element (set patched at (low_bits element z))) }) is
      ∙ ap (λ l. record { heap = record { objects = l; used = old.heap.used }; limit = old.limit })
      (set_twice old.heap.objects (target - 1) (Array other element patched) (Array other element (set patched at (low_bits element z))))
      ∙ ap (λ x. record old { heap = with_object old.heap target (Array other element (set patched at x)) }) few

-- ---- the loops

same_array : {C : Type 0} (o : Option (Object C)) (a b : C) (e f : Element) (xs ys : List ℤ) → o ≡ Some (Array a e xs) → o ≡ Some (Array b f ys) → xs ≡ ys
same_array o a b e f xs ys first second = let same : Some (Array a e xs) ≡ Some (Array b f ys) = sym first ∙ second in cc

module _ (old now : LimitedHeap) (element : Element) (copy : Copy) (is : IsCopy old element copy) (at : ℕ) (few : at < copy.count)
    (class other : ℕ) (el : Element) (contents olds : List ℤ)
    (from_is : object_in old copy.source ≡ Some (Array class el contents)) (to_is : object_in old copy.target ≡ Some (Array other el olds)) where
  source_long : copy.from + copy.count ≤ length contents
  source_long = subst (λ l. copy.from + copy.count ≤ length l)
      (same_array (object_in old copy.source) is.source.class class element el is.source.contents contents is.source.is from_is) is.source.within

  target_long : copy.to + copy.count ≤ length olds
  target_long = subst (λ l. copy.to + copy.count ≤ length l)
      (same_array (object_in old copy.target) is.target.class other element el is.target.contents olds is.target.is to_is) is.target.within

  abbrev prefix : List ℤ
  prefix = take copy.to olds ++ take at (drop copy.from contents)

  prefix_long : length prefix ≡ copy.to + at
  prefix_long =
      length-append (take copy.to olds) (take at (drop copy.from contents))
      ∙ omega (
        arith,
        length-take-le copy.to olds (omega (arith, target_long)),
        length-take-le at (drop copy.from contents) (omega (arith, few, source_long, length-drop copy.from contents)),
      )

  module _ (before : now ≡ record old { heap = with_object old.heap copy.target (Array other el (paste olds copy.to (drop copy.from contents) at)) }) (up : copy.to ≤ copy.from) where
    up_element : element_in now copy.source (copy.from + at) ≡ slice_get contents (copy.from + at)
    up_element = source_now old now copy.source copy.target class other el contents olds (paste olds copy.to (drop copy.from contents) at) from_is to_is before (copy.from + at)
        (λ _. ap (λ k. slice_get (prefix ++ drop k olds) (copy.from + at)) (sym prefix_long)
        ∙ tail_kept prefix olds (copy.from + at) (omega (arith, prefix_long, up)) (omega (arith, prefix_long, few, target_long)))

    up_stored : (new : LimitedHeap) (z : ℤ) → element_in now copy.source (copy.from + at) ≡ Some z → IsKeptIn (object_in now copy.source) z
        → Replaces now new copy.target (λ o. with_number o (copy.to + at) z)
        → new ≡ record old { heap = with_object old.heap copy.target (Array other el (paste olds copy.to (drop copy.from contents) (at + 1))) }
    up_stored new z read keeps replaces =
        let got : slice_get contents (copy.from + at) ≡ Some z = sym up_element ∙ read in
        let item : get_or (drop copy.from contents) at z ≡ z = get_or-drop copy.from contents at z ∙ get_or_from_slice_get contents (copy.from + at) z z got in
        let next : suc at ≡ at + 1 = omega arith in
        store_now old now copy.source copy.target class other el contents olds (paste olds copy.to (drop copy.from contents) at) from_is to_is before new (copy.to + at) z
        (kept_now old now copy.source copy.target class other el contents olds (paste olds copy.to (drop copy.from contents) at) from_is to_is before z keeps) replaces
        ∙ ap (λ l. record old { heap = with_object old.heap copy.target (Array other el l) })
        (ap (set (paste olds copy.to (drop copy.from contents) at) (copy.to + at)) (sym item)
        ∙ paste-suc olds copy.to (drop copy.from contents) at z (omega (arith, few, target_long)) (omega (arith, few, source_long, length-drop copy.from contents))
        ∙ ap (paste olds copy.to (drop copy.from contents)) next)

pub up_more : (old now new : LimitedHeap) (element : Element) (copy : Copy) (is : IsCopy old element copy) (at : ℕ) (z : ℤ) → at < copy.count
    → copy.to ≤ copy.from → Moves old now copy at → element_in now copy.source (copy.from + at) ≡ Some z → IsKeptIn (object_in now copy.source) z
    → Replaces now new copy.target (λ o. with_number o (copy.to + at) z)
    → Moves old new copy (at + 1)
up_more old now new element copy is at z few up so_far read keeps replaces class other el contents olds from_is to_is =
    up_stored old now element copy is at few class other el contents olds from_is to_is (so_far class other el contents olds from_is to_is) up new z read keeps replaces

pub up_there : (old now : LimitedHeap) (element : Element) (copy : Copy) (is : IsCopy old element copy) (at : ℕ) → at < copy.count
    → copy.to ≤ copy.from → Moves old now copy at → IsSome (element_in now copy.source (copy.from + at))
up_there old now element copy is at few up so_far =
    let within : copy.from + at < length is.source.contents = let long = is.source.within in omega (arith, few, long) in
    ap is_some (up_element old now element copy is at few is.source.class is.target.class element is.source.contents is.target.contents is.source.is is.target.is
    (so_far is.source.class is.target.class element is.source.contents is.target.contents is.source.is is.target.is) up)
    ∙ ap is_some (slice_get-get_or is.source.contents (copy.from + at) (pos 0) within)

-- the last elements first: those from a place on stand in the target
abbrev pub MovesDown : LimitedHeap → LimitedHeap → Copy → ℕ → ℕ → Type 0
MovesDown old new copy n k = (class other : ℕ) (element : Element) (contents olds : List ℤ) → object_in old copy.source ≡ Some (Array class element contents)
    → object_in old copy.target ≡ Some (Array other element olds)
    → new ≡ record old {
      heap = with_object old.heap copy.target
          (Array other element (take (copy.to + k) olds ++ (drop k (take n (drop copy.from contents)) ++ drop (copy.to + n) olds)));
    }

module _ (old now : LimitedHeap) (element : Element) (copy : Copy) (is : IsCopy old element copy) (n k : ℕ) (few : k < n) (most : n ≤ copy.count)
    (down : copy.from < copy.to) (class other : ℕ) (el : Element) (contents olds : List ℤ)
    (from_is : object_in old copy.source ≡ Some (Array class el contents)) (to_is : object_in old copy.target ≡ Some (Array other el olds)) where
  k_few : k < copy.count
  k_few = omega (arith, few, most)

  abbrev moved : List ℤ
  moved = take n (drop copy.from contents)

  moved_long : length moved ≡ n
  moved_long = length-take-le n (drop copy.from contents)
      (omega (arith, most, source_long old now element copy is k k_few class other el contents olds from_is to_is, length-drop copy.from contents))

  abbrev after_place : List ℤ
  after_place = drop (k + 1) moved ++ drop (copy.to + n) olds

  module _ (before : now ≡ record old { heap = with_object old.heap copy.target (Array other el (take (copy.to + (k + 1)) olds ++ after_place)) }) where
    down_element : element_in now copy.source (copy.from + k) ≡ slice_get contents (copy.from + k)
    down_element =
        let long = target_long old now element copy is k k_few class other el contents olds from_is to_is in
        source_now old now copy.source copy.target class other el contents olds (take (copy.to + (k + 1)) olds ++ after_place) from_is to_is before (copy.from + k)
        (λ _. prefix_kept olds after_place (copy.to + (k + 1)) (copy.from + k) (omega (arith, down)) (omega (arith, few, most, long)))

    down_stored : (new : LimitedHeap) (z : ℤ) → element_in now copy.source (copy.from + k) ≡ Some z → IsKeptIn (object_in now copy.source) z
        → Replaces now new copy.target (λ o. with_number o (copy.to + k) z)
        → new ≡ record old { heap = with_object old.heap copy.target (Array other el (take (copy.to + k) olds ++ (drop k moved ++ drop (copy.to + n) olds))) }
    down_stored new z read keeps replaces =
        let long = target_long old now element copy is k k_few class other el contents olds from_is to_is in
        let got : slice_get contents (copy.from + k) ≡ Some z = sym down_element ∙ read in
        let item : get_or moved k z ≡ z =
        get_or-take n (drop copy.from contents) k z few ∙ get_or-drop copy.from contents k z ∙ get_or_from_slice_get contents (copy.from + k) z z got in
        let place : copy.to + (k + 1) ≡ copy.to + k + 1 = omega arith in
        let shown : drop k moved ≡ z ∷ drop (k + 1) moved =
        drop_more moved k z (omega (arith, few, moved_long)) ∙ ap (λ x. x ∷ drop (k + 1) moved) item in
        store_now old now copy.source copy.target class other el contents olds (take (copy.to + (k + 1)) olds ++ after_place) from_is to_is before new (copy.to + k) z
        (kept_now old now copy.source copy.target class other el contents olds (take (copy.to + (k + 1)) olds ++ after_place) from_is to_is before z keeps) replaces
        ∙ ap (λ l. record old { heap = with_object old.heap copy.target (Array other el l) })
        (ap (λ j. set (take j olds ++ after_place) (copy.to + k) z) place
        ∙ down_set olds after_place (copy.to + k) z (omega (arith, few, most, long))
        ∙ ap (λ l. take (copy.to + k) olds ++ (l ++ drop (copy.to + n) olds)) (sym shown))

pub down_more : (old now new : LimitedHeap) (element : Element) (copy : Copy) (is : IsCopy old element copy) (n k : ℕ) (z : ℤ) → k < n → n ≤ copy.count
    → copy.from < copy.to → MovesDown old now copy n (k + 1) → element_in now copy.source (copy.from + k) ≡ Some z → IsKeptIn (object_in now copy.source) z
    → Replaces now new copy.target (λ o. with_number o (copy.to + k) z)
    → MovesDown old new copy n k
down_more old now new element copy is n k z few most down so_far read keeps replaces class other el contents olds from_is to_is =
    down_stored old now element copy is n k few most down class other el contents olds from_is to_is (so_far class other el contents olds from_is to_is) new z read keeps replaces

-- ---- before and after the loops

same_heap : (old : LimitedHeap) (target other : ℕ) (el : Element) (olds : List ℤ) → object_in old target ≡ Some (Array other el olds)
    → record old { heap = with_object old.heap target (Array other el olds) } ≡ old
same_heap old target other el olds to_is =
    ap (λ l. record old { heap = record { objects = l; used = old.heap.used } })
    (ap (set old.heap.objects (target - 1)) (sym (there_is old.heap.objects target (Array other el olds) to_is)) ∙ set-get_or old.heap.objects (target - 1) (Array other el olds))

pub up_none : (old : LimitedHeap) (copy : Copy) → Moves old old copy 0
up_none old copy class other el contents olds from_is to_is =
    sym (ap (λ l. record old { heap = with_object old.heap copy.target (Array other el l) }) (sym (paste-zero olds copy.to (drop copy.from contents)))
    ∙ same_heap old copy.target other el olds to_is)

pub down_none : (old : LimitedHeap) (copy : Copy) (n : ℕ) → MovesDown old old copy n n
down_none old copy n class other el contents olds from_is to_is =
    let none : drop n (take n (drop copy.from contents)) ≡ [] =
    drop_of_length-le (take n (drop copy.from contents)) (omega (arith, length-take n (drop copy.from contents))) in
    sym (ap (λ l. record old { heap = with_object old.heap copy.target (Array other el (take (copy.to + n) olds ++ (l ++ drop (copy.to + n) olds))) }) none
    ∙ ap (λ l. record old { heap = with_object old.heap copy.target (Array other el l) }) (take-append-drop (copy.to + n) olds)
    ∙ same_heap old copy.target other el olds to_is)

pub down_all : (old new : LimitedHeap) (copy : Copy) (n k : ℕ) → k ≡ 0 → MovesDown old new copy n k → Moves old new copy n
down_all old new copy n k e so_far class other el contents olds from_is to_is =
    let place : copy.to + k ≡ copy.to = omega (arith, e) in
    so_far class other el contents olds from_is to_is
    ∙ ap (λ j. record old { heap = with_object old.heap copy.target (Array other el (take (copy.to + k) olds ++ (drop j (take n (drop copy.from contents)) ++ drop (copy.to + n) olds))) }) e
    ∙ ap (λ j. record old { heap = with_object old.heap copy.target (Array other el (take j olds ++ (take n (drop copy.from contents) ++ drop (copy.to + n) olds))) }) place
    ∙ ap (λ l. record old { heap = with_object old.heap copy.target (Array other el l) }) (sym (append_assoc (take copy.to olds) (take n (drop copy.from contents)) (drop (copy.to + n) olds)))

pub up_target : (old now : LimitedHeap) (element : Element) (copy : Copy) (is : IsCopy old element copy) (at : ℕ) → at < copy.count
    → Moves old now copy at → IsSome (element_in now copy.target (copy.to + at))
up_target old now element copy is at few so_far =
    let contents = is.source.contents in
    let olds = is.target.contents in
    let long = is.target.within in
    let size = prefix_long old now element copy is at few is.source.class is.target.class element contents olds is.source.is is.target.is in
    target_some old now copy.source copy.target is.source.class is.target.class element contents olds (paste olds copy.to (drop copy.from contents) at) is.source.is is.target.is
    (so_far is.source.class is.target.class element contents olds is.source.is is.target.is) (copy.to + at)
    (omega (arith, few, long, size, length-append (take copy.to olds ++ take at (drop copy.from contents)) (drop (copy.to + at) olds), length-drop (copy.to + at) olds))

pub down_there : (old now : LimitedHeap) (element : Element) (copy : Copy) (is : IsCopy old element copy) (n k : ℕ) → k < n → n ≤ copy.count
    → copy.from < copy.to → MovesDown old now copy n (k + 1) → IsSome (element_in now copy.source (copy.from + k))
down_there old now element copy is n k few most down so_far =
    let long = is.source.within in
    ap is_some (down_element old now element copy is n k few most down is.source.class is.target.class element is.source.contents is.target.contents is.source.is is.target.is
    (so_far is.source.class is.target.class element is.source.contents is.target.contents is.source.is is.target.is))
    ∙ ap is_some (slice_get-get_or is.source.contents (copy.from + k) (pos 0) (omega (arith, few, most, long)))

pub down_target : (old now : LimitedHeap) (element : Element) (copy : Copy) (is : IsCopy old element copy) (n k : ℕ) → k < n → n ≤ copy.count
    → MovesDown old now copy n (k + 1) → IsSome (element_in now copy.target (copy.to + k))
down_target old now element copy is n k few most so_far =
    let contents = is.source.contents in
    let olds = is.target.contents in
    let long = is.target.within in
    let rest = drop (k + 1) (take n (drop copy.from contents)) ++ drop (copy.to + n) olds in
    target_some old now copy.source copy.target is.source.class is.target.class element contents olds (take (copy.to + (k + 1)) olds ++ rest) is.source.is is.target.is
    (so_far is.source.class is.target.class element contents olds is.source.is is.target.is) (copy.to + k)
    (omega (arith, few, most, long, length-append (take (copy.to + (k + 1)) olds) rest, length-take-le (copy.to + (k + 1)) olds (omega (arith, few, most, long))))
