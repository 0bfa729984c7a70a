-- Objects of a heap that are replaced or added.
use Rattle.std.proofs.Common.{◌≡◌, ℕ, ◌+◌, ◌-◌, ◌≤◌, ◌<◌, Bool, true, false, zero, suc, List, [], ◌∷◌, ◌++◌, length, take, set, get_or, Option, Some, None, nat_eq, if◌then◌else◌, refl, ap, sym, ◌∙◌, arith, inl, inr}
use Rattle.std.specs.Prelude.{slice_get, IsSome, ℤ, pos, map, replicate, drop, option_map, option_and_then, is_some, ◌^◌}
use Rattle.std.proofs.Common.{append-nil}
use Rattle.std.proofs.Math.Nat.{mod-eq_of_lt}
use Rattle.std.proofs.Math.ListN.{drop_of_length-le}
use Rattle.dj_names.specs.declared.run.Element.TheVariants as elements
use Rattle.dj_heap.specs.declared.object.Made.TheVariants as made
use Rattle.dj_heap.specs.Lengths.{object_length}
use Rattle.dj_heap.specs.Calls.{made_as}
use Rattle.dj_natives.specs.Seen.{IsInstanceWith, LacksField}
use Rattle.dj_natives.specs.Calls.{SetsField, set_in, with_reference, IsFillable, Fills}
use Rattle.std.proofs.lemmas.List.{length-set, get_or-set_same, length-append, set-get_or, length-replicate, length-map, take_all, length-drop, length-take-le}
use Rattle.std.proofs.lemmas.Option.{slice_get-get_or, slice_get_within, get_or_from_slice_get, slice_get-map}
use Rattle.std.proofs.Math.Seq.{set-append_seam, set_out, get_or-append_seam, paste, paste-suc, paste-zero}
use Rattle.dj_names.specs.trusted.Heaps.{Object, Instance, Array, Text, object_at, with_new, with_object, next_number, object_size}
use Rattle.dj_heap.specs.Heaps as heaps
use Rattle.dj_heap.specs.Heaps.{LimitedHeap, object_in, Replaces, with_field, with_number, low_bits, element_in, contents_of}

-- ---- lists

pub set_twice : {X : Type 0} (xs : List X) (i : ℕ) (a b : X) → set (set xs i a) i b ≡ set xs i b
set_twice [] i a b = refl
set_twice (x ∷ xs) zero a b = refl
set_twice (x ∷ xs) (suc i) a b = ap (λ l. x ∷ l) (set_twice xs i a b)

pub got_set : {X : Type 0} (xs : List X) (i : ℕ) (a : X) → i < length xs → slice_get (set xs i a) i ≡ Some a
got_set xs i a within =
    slice_get-get_or (set xs i a) i a (omega (arith, within, length-set xs i a)) ∙ ap Some (get_or-set_same xs i a a within)

-- ---- an object by its number

pub found_there : {X : Type 0} (b : Bool) (found : Option X) (x : X) → (if b then None else found) ≡ Some x → (b ≡ false) × (found ≡ Some x)
found_there true found x e = absurd cc
found_there false found x e = (refl, e)

module _ (objects : List (Object ℕ)) (r : ℕ) (object : Object ℕ) (is : object_at objects r ≡ Some object) where
  pub there_within : r - 1 < length objects
  there_within = slice_get_within objects (r - 1) object (found_there (nat_eq r 0) (slice_get objects (r - 1)) object is).1

  pub there_is : get_or objects (r - 1) object ≡ object
  there_is = get_or_from_slice_get objects (r - 1) object object (found_there (nat_eq r 0) (slice_get objects (r - 1)) object is).1

  pub there_set : (changed : Object ℕ) → object_at (set objects (r - 1) changed) r ≡ Some changed
  there_set changed =
      ap (λ b. if b then None else slice_get (set objects (r - 1) changed) (r - 1)) (found_there (nat_eq r 0) (slice_get objects (r - 1)) object is).0
      ∙ got_set objects (r - 1) changed there_within

-- the object that is made last
pub there_last : (objects : List (Object ℕ)) (object : Object ℕ) → object_at (objects ++ object ∷ []) (length objects + 1) ≡ Some object
there_last objects object =
    let long : length (objects ++ object ∷ []) ≡ length objects + 1 = length-append objects (object ∷ []) in
    let not_null : nat_eq (length objects + 1) 0 ≡ false = grind arith in
    let here : length objects + 1 - 1 ≡ length objects = omega arith in
    ap (λ b. if b then None else slice_get (objects ++ object ∷ []) (length objects + 1 - 1)) not_null
    ∙ ap (λ k. slice_get (objects ++ object ∷ []) k) here
    ∙ slice_get-get_or (objects ++ object ∷ []) (length objects) object (omega (arith, long))
    ∙ ap Some (get_or-append_seam objects object [] object)

pub made_there : (old new : LimitedHeap) (object : Object ℕ) (r : ℕ) → heaps.Makes old new object r → object_in new r ≡ Some object
made_there old new object r makes =
    ap (λ (h : LimitedHeap). object_in h r) makes.heap
    ∙ ap (λ k. object_at (old.heap.objects ++ object ∷ []) k) makes.number
    ∙ there_last old.heap.objects object

-- an object that was made and then replaced by one of its size was made so
pub remade : (old mid new : LimitedHeap) (object changed : Object ℕ) (r : ℕ) → heaps.Makes old mid object r → object_size changed ≡ object_size object
    → new ≡ record mid { heap = with_object mid.heap r changed } → heaps.Makes old new changed r
remade old mid new object changed r makes alike is =
    let here : r - 1 ≡ length old.heap.objects = omega (arith, makes.number) in
    let listed : set (old.heap.objects ++ object ∷ []) (r - 1) changed ≡ old.heap.objects ++ changed ∷ [] =
    ap (λ k. set (old.heap.objects ++ object ∷ []) k changed) here ∙ set-append_seam old.heap.objects object [] changed in
    record {
      fits = omega (arith, makes.fits, alike);
      number = makes.number;
      heap = is
          ∙ ap (λ (h : LimitedHeap). record h { heap = with_object h.heap r changed }) makes.heap
          ∙ ap (λ l. record { heap = record { objects = l; used = old.heap.used + object_size object }; limit = old.limit }) listed
          ∙ ap (λ n. record { heap = record { objects = old.heap.objects ++ changed ∷ []; used = old.heap.used + n }; limit = old.limit }) (sym alike);
    }

-- ---- fields

instance_found : (o : Option (Object ℕ)) (at len : ℕ) → option_map made_as o ≡ Some made.Instance → option_map object_length o ≡ Some len → at < len
    → (class : ℕ) × (fields : List ℕ) × (o ≡ Some (Instance class fields)) × (at < length fields)
instance_found None at len is long within = absurd cc
instance_found (Some (Instance class fields)) at len is long within = (class, fields, refl, (let same : length fields ≡ len = cc in omega (arith, same, within)))
instance_found (Some (Array class element contents)) at len is long within = absurd cc
instance_found (Some (Text class units)) at len is long within = absurd cc

pub instance_is : (h : LimitedHeap) (n at len : ℕ) → option_map made_as (object_in h n) ≡ Some made.Instance → option_map object_length (object_in h n) ≡ Some len → at < len
    → IsInstanceWith h n at
instance_is h n at len is long within =
    let found = instance_found (object_in h n) at len is long within in
    record { class = found.0; fields = found.1; is = found.2; within = found.3 }

pub set_there : (h new : LimitedHeap) (n object at r bits : ℕ) → n ≡ object → IsInstanceWith h object at → bits ≡ r
    → Replaces h new n (λ o. with_field o at bits) → SetsField h new object at r
set_there h new n object at r bits e instance same replaces =
    replaces (Instance instance.class instance.fields) (ap (object_in h) e ∙ instance.is)
    ∙ ap (λ k. record h { heap = with_object h.heap k (Instance instance.class (set instance.fields at bits)) }) e
    ∙ ap (λ b. record h { heap = with_object h.heap object (Instance instance.class (set instance.fields at b)) }) same
    ∙ sym (ap (λ o. set_in h object (with_reference o at r)) instance.is)

lacking_found : (h : LimitedHeap) (object at r : ℕ) (o : Option (Object ℕ)) → object_in h object ≡ o → LacksField h object at → h ≡ set_in h object (with_reference o at r)
lacking_found h object at r None e lacks = refl
lacking_found h object at r (Some (Array class element contents)) e lacks = refl
lacking_found h object at r (Some (Text class units)) e lacks = refl
lacking_found h object at r (Some (Instance class fields)) e lacks =
    let kept : set h.heap.objects (object - 1) (Instance class fields) ≡ h.heap.objects =
    ap (set h.heap.objects (object - 1)) (sym (there_is h.heap.objects object (Instance class fields) e)) ∙ set-get_or h.heap.objects (object - 1) (Instance class fields) in
    sym (ap (λ l. record h { heap = with_object h.heap object (Instance class l) }) (set_out fields at r (lacks class fields e))
    ∙ ap (λ l. record h { heap = record { objects = l; used = h.heap.used } }) kept)

pub set_lacking : (h : LimitedHeap) (object at r : ℕ) → LacksField h object at → SetsField h h object at r
set_lacking h object at r lacks = lacking_found h object at r (object_in h object) refl lacks

-- ---- arrays of chars that are filled

fillable_found : (h : LimitedHeap) (r n class : ℕ) → object_in h r ≡ Some (Array class elements.Char (replicate n (pos 0))) → IsFillable h r n
fillable_found h r n class e = record { class = class; contents = replicate n (pos 0); is = e; long = length-replicate n (pos 0) }

pub fillable : (old new : LimitedHeap) (r n class : ℕ) → heaps.Makes old new (Array class elements.Char (replicate n (pos 0))) r → IsFillable new r n
fillable old new r n class makes = fillable_found new r n class (made_there old new (Array class elements.Char (replicate n (pos 0))) r makes)

-- this many elements are filled
abbrev pub FillsTo : LimitedHeap → LimitedHeap → ℕ → List ℕ → ℕ → Type 0
FillsTo old new r units at = (class : ℕ) (contents : List ℤ) → object_in old r ≡ Some (Array class elements.Char contents) → length contents ≡ length units
    → new ≡ record old { heap = with_object old.heap r (Array class elements.Char (paste contents 0 (map pos units) at)) }

module _ (old now new : LimitedHeap) (r : ℕ) (units : List ℕ) (at x : ℕ) where
  pub fills_more : slice_get units at ≡ Some x → x < 2 ^ 16 → FillsTo old now r units at → Replaces now new r (λ o. with_number o at (pos x)) → FillsTo old new r units (at + 1)
  fills_more got few so_far replaces class contents e long =
      let filled = paste contents 0 (map pos units) at in
      let before : now ≡ record old { heap = with_object old.heap r (Array class elements.Char filled) } = so_far class contents e long in
      let there : object_in now r ≡ Some (Array class elements.Char filled) =
      ap (λ (h : LimitedHeap). object_in h r) before ∙ there_set old.heap.objects r (Array class elements.Char contents) e (Array class elements.Char filled) in
      let within : at < length units = slice_get_within units at x got in
      let value : low_bits elements.Char (pos x) ≡ get_or (map pos units) at (pos x) =
      ap pos (mod-eq_of_lt few) ∙ sym (get_or_from_slice_get (map pos units) at (pos x) (pos x) (slice_get-map pos units at ∙ ap (option_map pos) got)) in
      let start : at ≡ 0 + at = omega arith in
      let next : suc at ≡ at + 1 = omega arith in
      let stored : set filled at (low_bits elements.Char (pos x)) ≡ paste contents 0 (map pos units) (at + 1) =
      ap (set filled at) value
      ∙ ap (λ k. set filled k (get_or (map pos units) at (pos x))) start
      ∙ paste-suc contents 0 (map pos units) at (pos x) (omega (arith, within, long)) (omega (arith, within, length-map units pos))
      ∙ ap (paste contents 0 (map pos units)) next in
      replaces (Array class elements.Char filled) there
      ∙ ap (λ (h : LimitedHeap). record h { heap = with_object h.heap r (Array class elements.Char (set filled at (low_bits elements.Char (pos x)))) }) before
      ∙ ap (λ l. record { heap = record { objects = l; used = old.heap.used }; limit = old.limit })
      (set_twice old.heap.objects (r - 1) (Array class elements.Char filled) (Array class elements.Char (set filled at (low_bits elements.Char (pos x)))))
      ∙ ap (λ l. record old { heap = with_object old.heap r (Array class elements.Char l) }) stored

pub fills_none : (old : LimitedHeap) (r : ℕ) (units : List ℕ) → FillsTo old old r units 0
fills_none old r units class contents e long =
    sym (ap (λ l. record old { heap = with_object old.heap r (Array class elements.Char l) }) (sym (paste-zero contents 0 (map pos units)))
    ∙ ap (λ l. record old { heap = record { objects = l; used = old.heap.used } })
    (ap (set old.heap.objects (r - 1)) (sym (there_is old.heap.objects r (Array class elements.Char contents) e)) ∙ set-get_or old.heap.objects (r - 1) (Array class elements.Char contents)))

pub fills_all : (old new : LimitedHeap) (r : ℕ) (units : List ℕ) (n : ℕ) → IsFillable old r n → n ≡ length units → FillsTo old new r units n → Fills old new r units
fills_all old new r units n ready long filled class contents e =
    let same : Some (Array ready.class elements.Char ready.contents) ≡ Some (Array class elements.Char contents) = sym ready.is ∙ e in
    let alike : ready.contents ≡ contents = cc in
    let size : length contents ≡ length units = sym (ap length alike) ∙ ready.long ∙ long in
    let past : length contents ≤ 0 + n = omega (arith, size, long) in
    let none : drop (0 + n) contents ≡ [] = drop_of_length-le contents past in
    let all : length (map pos units) ≤ n = omega (arith, long, length-map units pos) in
    let whole : paste contents 0 (map pos units) n ≡ map pos units =
    ap (λ l. l ++ drop (0 + n) contents) (take_all n (map pos units) all) ∙ ap (λ l. map pos units ++ l) none ∙ append-nil (map pos units) in
    filled class contents e size ∙ ap (λ l. record old { heap = with_object old.heap r (Array class elements.Char l) }) whole

fill_found : (o : Option (Object ℕ)) (class : ℕ) (contents : List ℤ) (at : ℕ) → o ≡ Some (Array class elements.Char contents) → at < length contents
    → IsSome (option_and_then (λ contents. slice_get contents at) (option_and_then contents_of o))
fill_found None class contents at e within = absurd cc
fill_found (Some o) class contents at e within =
    ap (λ (o : Option (Object ℕ)). is_some (option_and_then (λ contents. slice_get contents at) (option_and_then contents_of o))) e
    ∙ ap is_some (slice_get-get_or contents at (pos 0) within)

pub fill_within : (old now : LimitedHeap) (r : ℕ) (units : List ℕ) (at n : ℕ) → IsFillable old r n → n ≡ length units → at < n → FillsTo old now r units at
    → IsSome (element_in now r at)
fill_within old now r units at n ready long within so_far =
    let filled = paste ready.contents 0 (map pos units) at in
    let size : length ready.contents ≡ length units = ready.long ∙ long in
    let before = so_far ready.class ready.contents ready.is size in
    let there : object_in now r ≡ Some (Array ready.class elements.Char filled) =
    ap (λ (h : LimitedHeap). object_in h r) before
    ∙ there_set old.heap.objects r (Array ready.class elements.Char ready.contents) ready.is (Array ready.class elements.Char filled) in
    let prefix : length (take at (map pos units)) ≡ at = length-take-le at (map pos units) (omega (arith, within, long, length-map units pos)) in
    let long_as : length filled ≡ length ready.contents =
    length-append (take at (map pos units)) (drop (0 + at) ready.contents) ∙ omega (arith, prefix, length-drop (0 + at) ready.contents, size, long, within) in
    fill_found (object_in now r) ready.class filled at there (omega (arith, long_as, ready.long, within))
