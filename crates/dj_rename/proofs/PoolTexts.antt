-- The texts of a valid pool that may get other ones.
use Rattle.std.proofs.Common.{◌≡◌, ℕ, zero, suc, ◌+◌, ◌≤◌, ◌<◌, Bool, true, false, cond, List, [], ◌∷◌, ◌++◌, take, drop, map, length, get_or, Option, Some, None, slice_get, option_and_then, refl, sym, ap, subst, ◌∙◌, append_assoc, arith, add-one, inl, inr}
use Rattle.std.specs.Prelude.{IsSomeAnd, ⊤}
use Rattle.std.specs.List.{AllByRecursion}
use Rattle.std.proofs.lemmas.List.{append-nil}
use Rattle.dj_names.specs.declared.descriptor.Desc.TheVariants as descs
use Rattle.dj_names.specs.trusted.Types.{Name}
use Rattle.dj_names.specs.trusted.ModifiedUtf8.{IsModifiedUtf8}
use Rattle.dj_names.specs.trusted.Descriptors.{IsFieldDescriptor, IsMethodDescriptor}
use Rattle.dj_pool.specs.trusted.Pool.{Constant, Utf8, Integer, Float, Long, Double, Class, Text, Field, Method, InterfaceMethod, NameAndType, Handle, MethodType, Dynamic, Hole, takes_two, indexed, constant_at, text_of, text_at, NamesText, AreNames, IsLinked, IsConstant, IsPool}
use Rattle.dj_pool.specs.declared.pool.Entry.{Entry}
use Rattle.dj_pool.specs.Views.{constant_of}
use Rattle.dj_rename.specs.declared.error.RenameError.{RenameError}
use Rattle.dj_rename.specs.declared.wanted.Wanted.{Wanted}
use Rattle.dj_rename.specs.declared.wanted.Role.TheVariants as roles
use Rattle.dj_rename.specs.Pools.{Need, need_of, needs_from, option_list, desc_need}
use Rattle.dj_rename.specs.Refusals.{IsDescriptor}
use Rattle.dj_rename.specs.Renaming.{wanted_need, wanted_by, IsWanted, Steps, Refuses}
use Rattle.dj_rename.proofs.Walking.{steps_join, refused_later, refused_sooner}

-- ---- what is so of each constant is so at each index

such_at : (Q : Constant → Type 0) (two : Bool) (k : Constant) (ks : List Constant) → Q Hole → Q k → ((j : ℕ) (x : Constant) → slice_get ks j ≡ Some x → Q x)
    → (i : ℕ) (x : Constant) → slice_get (cond two (k ∷ (Hole ∷ ks)) (k ∷ ks)) i ≡ Some x → Q x
such_at Q true k ks hole one more zero x h = let e : k ≡ x = cc in subst Q e one
such_at Q true k ks hole one more (suc zero) x h = let e : Hole ≡ x = cc in subst Q e hole
such_at Q true k ks hole one more (suc (suc i)) x h = more i x h
such_at Q false k ks hole one more zero x h = let e : k ≡ x = cc in subst Q e one
such_at Q false k ks hole one more (suc i) x h = more i x h

such_from : (Q : Constant → Type 0) (pool : List Constant) → Q Hole → ((k : Constant) → IsConstant pool k → Q k)
    → (ks : List Constant) → AllByRecursion (IsConstant pool) ks → (i : ℕ) (x : Constant) → slice_get (indexed ks) i ≡ Some x → Q x
unfolding indexed
such_from Q pool hole by [] each i x h = absurd cc
such_from Q pool hole by (k ∷ ks) each i x h = such_at Q (takes_two k) k (indexed ks) hole (by k each.0) (such_from Q pool hole by ks each.1) i x h

pub such : (Q : Constant → Type 0) (pool : List Constant) → Q Hole → ((k : Constant) → IsConstant pool k → Q k) → IsPool pool → (i : ℕ) (x : Constant) → constant_at pool i ≡ Some x → Q x
such Q pool hole by valid zero x h = absurd cc
such Q pool hole by valid (suc i) x h = such_from Q pool hole by valid.constants valid.each i x (ap (λ (l : List Constant). slice_get l i) (sym valid.indexes) ∙ h)

pub linked_at : (pool : List Constant) → IsPool pool → (i : ℕ) (k : Constant) → constant_at pool i ≡ Some k → IsLinked pool k
linked_at pool valid i k h = such (IsLinked pool) pool tt (λ x is. is.1) valid i k h

-- a text is modified UTF-8
abbrev TextIs : Constant → Type 0
TextIs (Utf8 text) = IsModifiedUtf8 text
TextIs k = ⊤

text_is : (pool : List Constant) (k : Constant) → IsConstant pool k → TextIs k
text_is pool (Utf8 text) h = h.0.1
text_is pool k h = tt

pub utf8_at : (pool : List Constant) → IsPool pool → (i : ℕ) (text : Name) → text_at pool i ≡ Some text → IsModifiedUtf8 text
utf8_at pool valid i text h = go (constant_at pool i) refl h where
  go : (o : Option Constant) → constant_at pool i ≡ o → option_and_then text_of o ≡ Some text → IsModifiedUtf8 text
  go None e t = absurd cc
  go (Some (Utf8 x)) e t = let same : x ≡ text = cc in subst IsModifiedUtf8 same (such TextIs pool tt (text_is pool) valid i (Utf8 x) e)
  go (Some (Integer n)) e t = absurd cc
  go (Some (Float n)) e t = absurd cc
  go (Some (Long n)) e t = absurd cc
  go (Some (Double n)) e t = absurd cc
  go (Some (Class n)) e t = absurd cc
  go (Some (Text n)) e t = absurd cc
  go (Some (Field c n)) e t = absurd cc
  go (Some (Method c n)) e t = absurd cc
  go (Some (InterfaceMethod c n)) e t = absurd cc
  go (Some (NameAndType n d)) e t = absurd cc
  go (Some (Handle n m)) e t = absurd cc
  go (Some (MethodType n)) e t = absurd cc
  go (Some (Dynamic b n)) e t = absurd cc
  go (Some Hole) e t = absurd cc

-- ---- what is there

pub some_weaker : {A : Type 0} (P Q : A → Type 0) → ((a : A) → P a → Q a) → (o : Option A) → IsSomeAnd o P → IsSomeAnd o Q
some_weaker P Q by None h = h
some_weaker P Q by (Some a) h = by a h

pub field_described : (text : Name) → IsFieldDescriptor text → IsDescriptor text
field_described text h = (descs.Field h.0, h.1)

pub method_described : (text : Name) → IsMethodDescriptor text → IsDescriptor text
method_described text h = (descs.Method h.0 h.1, h.2)

names_described : (pool : List Constant) (name desc : ℕ) → AreNames pool name desc → NamesText IsDescriptor pool desc
names_described pool name desc (inl f) = some_weaker IsFieldDescriptor IsDescriptor field_described (text_at pool desc) f.1
names_described pool name desc (inr m) = some_weaker IsMethodDescriptor IsDescriptor method_described (text_at pool desc) m.1

slice_get_below : {A : Type 0} (xs : List A) (i : ℕ) (x : A) → slice_get xs i ≡ Some x → i < length xs
slice_get_below [] i x h = absurd cc
slice_get_below (y ∷ xs) zero x h = omega arith
slice_get_below (y ∷ xs) (suc i) x h = let more = slice_get_below xs i x h in omega (arith, more)

pub index_below : (P : Name → Type 0) (pool : List Constant) (i : ℕ) → NamesText P pool i → i ≤ length pool
index_below P pool zero h = absurd h
index_below P pool (suc i) h = go (slice_get pool i) refl h where
  go : (o : Option Constant) → slice_get pool i ≡ o → IsSomeAnd (option_and_then text_of o) P → suc i ≤ length pool
  go None e h = absurd h
  go (Some k) e h = let less = slice_get_below pool i k e in omega (arith, less)

-- ---- what a constant names

pub need_is : (pool : List Constant) (of : ℕ) (k : Constant) (w : Wanted) → Some w ≡ wanted_by of k → option_list (need_of pool of k) ≡ wanted_need pool w ∷ []
need_is pool of (Class n) w e = let same : w ≡ record { of = of; index = n; role = roles.Class } = cc in ap (λ (x : Wanted). wanted_need pool x ∷ []) (sym same)
need_is pool of (NameAndType n d) w e = let same : w ≡ record { of = of; index = d; role = roles.Desc } = cc in ap (λ (x : Wanted). wanted_need pool x ∷ []) (sym same)
need_is pool of (MethodType d) w e = let same : w ≡ record { of = of; index = d; role = roles.Desc } = cc in ap (λ (x : Wanted). wanted_need pool x ∷ []) (sym same)
need_is pool of (Utf8 t) w e = absurd cc
need_is pool of (Integer n) w e = absurd cc
need_is pool of (Float n) w e = absurd cc
need_is pool of (Long n) w e = absurd cc
need_is pool of (Double n) w e = absurd cc
need_is pool of (Text n) w e = absurd cc
need_is pool of (Field c n) w e = absurd cc
need_is pool of (Method c n) w e = absurd cc
need_is pool of (InterfaceMethod c n) w e = absurd cc
need_is pool of (Handle n m) w e = absurd cc
need_is pool of (Dynamic b n) w e = absurd cc
need_is pool of Hole w e = absurd cc

pub no_need : (pool : List Constant) (of : ℕ) (k : Constant) → None ≡ wanted_by of k → option_list (need_of pool of k) ≡ []
no_need pool of (Class n) e = absurd cc
no_need pool of (NameAndType n d) e = absurd cc
no_need pool of (MethodType d) e = absurd cc
no_need pool of (Utf8 t) e = refl
no_need pool of (Integer n) e = refl
no_need pool of (Float n) e = refl
no_need pool of (Long n) e = refl
no_need pool of (Double n) e = refl
no_need pool of (Text n) e = refl
no_need pool of (Field c n) e = refl
no_need pool of (Method c n) e = refl
no_need pool of (InterfaceMethod c n) e = refl
no_need pool of (Handle n m) e = refl
no_need pool of (Dynamic b n) e = refl
no_need pool of Hole e = refl

pub wanted_there : (pool : List Constant) (of i : ℕ) (k : Constant) (w : Wanted) → IsPool pool → constant_at pool i ≡ Some k → Some w ≡ wanted_by of k → IsWanted pool w
wanted_there pool of i k w valid at e = go k (linked_at pool valid i k at) e where
  go : (k : Constant) → IsLinked pool k → Some w ≡ wanted_by of k → IsWanted pool w
  go (Class n) l e = let same : record { of = of; index = n; role = roles.Class } ≡ w = cc in subst (IsWanted pool) same l
  go (NameAndType n d) l e = let same : record { of = of; index = d; role = roles.Desc } ≡ w = cc in subst (IsWanted pool) same (names_described pool n d l)
  go (MethodType d) l e =
      let same : record { of = of; index = d; role = roles.Desc } ≡ w = cc in
      subst (IsWanted pool) same (some_weaker IsMethodDescriptor IsDescriptor method_described (text_at pool d) l)
  go (Utf8 t) l e = absurd cc
  go (Integer n) l e = absurd cc
  go (Float n) l e = absurd cc
  go (Long n) l e = absurd cc
  go (Double n) l e = absurd cc
  go (Text n) l e = absurd cc
  go (Field c n) l e = absurd cc
  go (Method c n) l e = absurd cc
  go (InterfaceMethod c n) l e = absurd cc
  go (Handle n m) l e = absurd cc
  go (Dynamic b n) l e = absurd cc
  go Hole l e = absurd cc

-- ---- the needs of the first constants

pub needs_more : (pool ks : List Constant) (of i at : ℕ) (k : Constant) → slice_get ks i ≡ Some k → at ≡ of + i
    → needs_from pool of (take (i + 1) ks) ≡ needs_from pool of (take i ks) ++ option_list (need_of pool at k)
needs_more pool [] of i at k h e = absurd cc
needs_more pool (x ∷ ks) of zero at k h e =
    let same : x ≡ k = cc in
    let here : of ≡ at = omega (arith, e) in
    append-nil (option_list (need_of pool of x)) ∙ ap (λ (n : ℕ). option_list (need_of pool n x)) here ∙ ap (λ (y : Constant). option_list (need_of pool at y)) same
needs_more pool (x ∷ ks) of (suc i) at k h e =
    let one : suc i + 1 ≡ suc (i + 1) = omega arith in
    ap (λ (n : ℕ). needs_from pool of (take n (x ∷ ks))) one
    ∙ ap (λ (l : List Need). option_list (need_of pool of x) ++ l) (needs_more pool ks (suc of) i at k h (omega (arith, e)))
    ∙ sym (append_assoc (option_list (need_of pool of x)) (needs_from pool (suc of) (take i ks)) (option_list (need_of pool at k)))

needs_split : (pool ks : List Constant) (of i at : ℕ) (k : Constant) → slice_get ks i ≡ Some k → at ≡ of + i
    → needs_from pool of ks ≡ (needs_from pool of (take i ks) ++ option_list (need_of pool at k)) ++ needs_from pool (suc at) (drop (suc i) ks)
needs_split pool [] of i at k h e = absurd cc
needs_split pool (x ∷ ks) of zero at k h e =
    let same : x ≡ k = cc in
    let here : of ≡ at = omega (arith, e) in
    ap (λ (n : ℕ). option_list (need_of pool n x) ++ needs_from pool (suc n) ks) here ∙ ap (λ (y : Constant). option_list (need_of pool at y) ++ needs_from pool (suc at) ks) same
needs_split pool (x ∷ ks) of (suc i) at k h e =
    ap (λ (l : List Need). option_list (need_of pool of x) ++ l) (needs_split pool ks (suc of) i at k h (omega (arith, e)))
    ∙ sym (append_assoc (option_list (need_of pool of x)) (needs_from pool (suc of) (take i ks) ++ option_list (need_of pool at k)) (needs_from pool (suc at) (drop (suc i) ks)))
    ∙ ap (λ (l : List Need). l ++ needs_from pool (suc at) (drop (suc i) ks)) (sym (append_assoc (option_list (need_of pool of x)) (needs_from pool (suc of) (take i ks)) (option_list (need_of pool at k))))

-- ---- as the code walks

pub entry_at : (pool : List Constant) (list : List Entry) (i : ℕ) (other : Entry) → map constant_of list ≡ pool → i < length list → slice_get pool i ≡ Some (constant_of (get_or list i other))
entry_at pool list i other same inside = sym (ap (λ (l : List Constant). slice_get l i) same) ∙ go list i inside where
  go : (list : List Entry) (i : ℕ) → i < length list → slice_get (map constant_of list) i ≡ Some (constant_of (get_or list i other))
  go [] i inside = absurd (omega (arith, inside))
  go (x ∷ list) zero inside = refl
  go (x ∷ list) (suc i) inside = go list i (omega (arith, inside))

pub entry_after : (pool : List Constant) (list : List Entry) (i : ℕ) (other : Entry) → map constant_of list ≡ pool → i < length list → constant_at pool (i + 1) ≡ Some (constant_of (get_or list i other))
entry_after pool list i other same inside = ap (constant_at pool) (add-one i) ∙ entry_at pool list i other same inside

module _ (pool : List Constant) (texts mid : List Name) (i : ℕ) (k : Constant) (at : slice_get pool i ≡ Some k) (steps : Steps pool texts (needs_from pool 1 (take i pool)) mid) where
  pub constants_refused : (e : RenameError) → Refuses pool mid (option_list (need_of pool (i + 1) k)) e → Refuses pool texts (needs_from pool 1 pool) e
  constants_refused e fault =
      let place : i + 1 ≡ 1 + i = omega arith in
      subst (λ (l : List Need). Refuses pool texts l e) (sym (needs_split pool pool 1 i (i + 1) k at place))
      (refused_sooner pool texts (needs_from pool 1 (take i pool) ++ option_list (need_of pool (i + 1) k)) (needs_from pool (suc (i + 1)) (drop (suc i) pool)) e
      (refused_later pool texts mid (needs_from pool 1 (take i pool)) (option_list (need_of pool (i + 1) k)) e steps fault))

  pub constants_further : (now : List Name) → Steps pool mid (option_list (need_of pool (i + 1) k)) now → Steps pool texts (needs_from pool 1 (take (i + 1) pool)) now
  constants_further now more =
      let place : i + 1 ≡ 1 + i = omega arith in
      subst (λ (l : List Need). Steps pool texts l now) (sym (needs_more pool pool 1 i (i + 1) k at place))
      (steps_join pool texts mid now (needs_from pool 1 (take i pool)) (option_list (need_of pool (i + 1) k)) steps more)

split_map : (f : ℕ → Need) (xs : List ℕ) (i : ℕ) → i < length xs → map f xs ≡ (map f (take i xs) ++ f (get_or xs i 0) ∷ []) ++ map f (drop (suc i) xs)
split_map f [] i h = absurd (omega (arith, h))
split_map f (x ∷ xs) zero h = refl
split_map f (x ∷ xs) (suc i) h = ap (λ (l : List Need). f x ∷ l) (split_map f xs i (omega (arith, h)))

pub descs_refused : (pool : List Constant) (texts mid : List Name) (descs : List ℕ) (i : ℕ) (e : RenameError) → i < length descs → Steps pool texts (map (λ (desc : ℕ). desc_need pool desc desc) (take i descs)) mid
    → Refuses pool mid (desc_need pool (get_or descs i 0) (get_or descs i 0) ∷ []) e → Refuses pool texts (map (λ (desc : ℕ). desc_need pool desc desc) descs) e
descs_refused pool texts mid descs i e inside steps fault =
    let f : ℕ → Need = λ desc. desc_need pool desc desc in
    subst (λ (l : List Need). Refuses pool texts l e) (sym (split_map f descs i inside))
    (refused_sooner pool texts (map f (take i descs) ++ f (get_or descs i 0) ∷ []) (map f (drop (suc i) descs)) e
    (refused_later pool texts mid (map f (take i descs)) (f (get_or descs i 0) ∷ []) e steps fault))

pub wanted_at : (pool : List Constant) (place : ℕ) (k : Constant) (w : Wanted) → IsPool pool → slice_get pool place ≡ Some k → Some w ≡ wanted_by (place + 1) k → IsWanted pool w
wanted_at pool place k w valid at e = wanted_there pool (place + 1) (suc place) k w valid at e

pub place_low : (pool : List Constant) (place : ℕ) (k : Constant) → IsPool pool → slice_get pool place ≡ Some k → place + 1 ≤ 65534
place_low pool place k valid at = let below = slice_get_below pool place k at in let count = valid.count in omega (arith, below, count)
