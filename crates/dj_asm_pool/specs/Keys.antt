-- Constants by the numbers in them, in the order of their indexes.
use Rattle.std.specs.Prelude.{◌≡◌, ℕ, ◌+◌, ◌<◌, ◌≤◌, ◌⊎◌, List, [], ◌∷◌, ◌++◌, Contains, Option, Some, None, Result, Ok, Err}
use Rattle.std.specs.Map.{keys_of}
use Rattle.dj_asm_pool.specs.declared.key.Key.{Key}
use Rattle.dj_asm_pool.specs.declared.key.Key.TheVariants as keys

-- JVMS 4.4.5: a long takes two indexes
abbrev pub key_width : Key → ℕ
key_width (keys.Long n) = 2
key_width _ = 1

abbrev pub key_widths : List Key → ℕ
key_widths [] = 0
key_widths (key ∷ rest) = key_width key + key_widths rest

-- keys with their indexes, from one index on
abbrev pub numbered : ℕ → List Key → List (Key × ℕ)
numbered n [] = []
numbered n (key ∷ rest) = (key, n) ∷ numbered (n + key_width key) rest

-- the index after these keys, which count from 1
abbrev pub next_index : List Key → ℕ
next_index ks = 1 + key_widths ks

-- the most that the index after a constant may be (JVMS 4.1, constant_pool_count)
abbrev pub most_next : ℕ
most_next = 65535

-- keys have their indexes
pub record IsNumbered (entries : List (Key × ℕ)) (next : ℕ) : Type 0 where
  pub indexes : entries ≡ numbered 1 (keys_of entries)
  pub next_is : next ≡ next_index (keys_of entries)

-- the key has this index, where it stands first
pub record StandsAt (ks : List Key) (key : Key) (index : ℕ) : Type 0 where
  pub prefix : List Key
  pub back : List Key
  pub parts : ks ≡ prefix ++ key ∷ back
  pub absent : Contains prefix key → ⊥
  pub index_is : index ≡ next_index prefix

-- the constant of the key ends where it may
abbrev pub EndsWithin : Key → ℕ → Type 0
EndsWithin key index = index + key_width key ≤ most_next

-- it isn't there, and is put last, since the next index is none past the most
pub record IsNew {A : Type 0} (next : ℕ) (before : List A) (x : A) (now : List A) : Type 0 where
  pub absent : Contains before x → ⊥
  pub room : next ≤ most_next
  pub last : now ≡ before ++ x ∷ []

-- it isn't there, and is left out, since the next index is past the most
pub record IsLeftOut {A : Type 0} (next : ℕ) (before : List A) (x : A) (now : List A) : Type 0 where
  pub absent : Contains before x → ⊥
  pub past : most_next < next
  pub same : now ≡ before

-- it is there already, or new, or left out
abbrev pub IsKept : {A : Type 0} → ℕ → List A → A → List A → Type 0
IsKept next before x now = (Contains before x × (now ≡ before)) ⊎ (IsNew next before x now ⊎ IsLeftOut next before x now)

-- the key has an index, but ends past the most
pub record EndsPast (ks : List Key) (key : Key) : Type 0 where
  pub index : ℕ
  pub at : StandsAt ks key index
  pub past : EndsWithin key index → ⊥

-- the index of the key, where it ends within the most
abbrev pub IsPlaced : List Key → Key → List Key → Option ℕ → Type 0
IsPlaced before key now (Some index) = IsKept (next_index before) before key now × (StandsAt now key index × EndsWithin key index)
IsPlaced before key now None = IsKept (next_index before) before key now × (EndsPast now key ⊎ IsLeftOut (next_index before) before key now)

-- without memory all stays
abbrev pub AddsKey : {E : Type 0} → List Key → Key → List Key → Result (Option ℕ) E → Type 0
AddsKey before key now (Ok answer) = IsPlaced before key now answer
AddsKey before key now (Err e) = now ≡ before

-- the index, where the constant ends within the most
abbrev pub IsWithin : Key → ℕ → Option ℕ → Type 0
IsWithin key index (Some other) = (other ≡ index) × EndsWithin key index
IsWithin key index None = EndsWithin key index → ⊥

-- the key's index, where it is there and ends where it may
abbrev pub FindsKey : List Key → Key → Option ℕ → Type 0
FindsKey ks key (Some index) = StandsAt ks key index × EndsWithin key index
FindsKey ks key None = EndsPast ks key ⊎ (Contains ks key → ⊥)
