-- The index of an entry that stands there and ends where it may, and what look-ups answer.
use Rattle.std.proofs.Common.{◌≡◌, ℕ, ℤ, ◌+◌, ◌≤◌, ◌⊎◌, inl, inr, Bool, true, false, ◌&&◌, nat_le, if◌then◌else◌, List, [], ◌∷◌, Contains, Option, Some, None, refl, sym, ap, ◌∙◌, subst, arith, unwrap_or}
use Rattle.std.specs.Map.{keys_of, lookup}
use Rattle.std.specs.List.{AllByRecursion}
use Rattle.std.proofs.lemmas.Bool.{cases_Bool, le-leb, leb-true}
use Rattle.std.proofs.lemmas.List.Elements.{Contains-append_right, Contains-append_cases}
use Rattle.dj_names.specs.trusted.Types.{Name}
use Rattle.dj_pool.specs.trusted.Pool as pool
use Rattle.dj_pool.specs.trusted.Pool.{Constant}
use Rattle.dj_asm_pool.specs.declared.key.Key.{Key}
use Rattle.dj_asm_pool.specs.declared.key.Key.TheVariants as keys
use Rattle.dj_asm_pool.specs.Keys.{key_width, most_next, IsNumbered, StandsAt, IsWithin, FindsKey}
use Rattle.dj_asm_pool.specs.trusted.Entries.{Entry, Utf8, Integer, Long, Class, Text, NameAndType, Field, Method, InterfaceMethod, Dynamic, each_once, width, index_of, constant_of}
use Rattle.dj_asm_pool.specs.trusted.Room.{HasRoom}
use Rattle.dj_asm_pool.specs.Pooling.{IsNumberOf, constant_of_key, constants_of, named_by, EndsIn, all_kept, HasNumber, HasIndex, AreKeysOf, keyed_entries, IsFull, found_index, IsSought}
use Rattle.dj_asm_pool.specs.PoolNeeds.{HasPlace}
use Rattle.dj_asm_pool.proofs.Members.{none_in, in_here, in_map, from_map, each_in, each_from}
use Rattle.dj_asm_pool.proofs.EntryLaws.{index_is, once_has}
use Rattle.dj_asm_pool.proofs.KeyLaws.{same_key, stands, lacks}
use Rattle.dj_asm_pool.proofs.PoolingLaws.{text_is, index_absent, same_constant}
use Rattle.dj_asm_pool.proofs.PoolSteps.{any_in, any_out, key_there, place_same, width_same}
use Rattle.dj_asm_pool.proofs.PoolChains.{AreFields, no_texts}
use Rattle.dj_asm_pool.proofs.PoolEntries.{text_key}
use Rattle.dj_asm_pool.proofs.PoolOnce.{IsOnce, once, there_or_not, index_in_once, past_in_once}

-- ---- found or not

abbrev or_zero : ℕ → Bool → ℕ
or_zero n b = if b then n else 0

-- what has an index is found there
pub found_there : (es : List Entry) (e : Entry) → HasIndex es e → found_index es e ≡ index_of es e
unfolding found_index
found_there es e h =
    ap (λ b. or_zero (index_of es e) (b && nat_le (index_of es e + width e) most_next)) (any_in es e h.0)
    ∙ ap (or_zero (index_of es e)) (le-leb (index_of es e + width e) most_next h.1)

pub has_or_not : (es : List Entry) (e : Entry) → HasIndex es e ⊎ (HasIndex es e → ⊥)
has_or_not es e = elim (there_or_not es e) [
  | inr absent ↦ inr (λ h. absent h.0)
  | inl there ↦ elim (cases_Bool (nat_le (index_of es e + width e) most_next)) [
    | inl so ↦ inl (there, leb-true (index_of es e + width e) most_next so)
    | inr past ↦ inr (λ h. no_end past h.1)
  ]
] where
  no_end : nat_le (index_of es e + width e) most_next ≡ false → EndsIn es e → ⊥
  no_end past ends = let so : nat_le (index_of es e + width e) most_next ≡ true = le-leb (index_of es e + width e) most_next ends in absurd cc

-- and what has none isn't
pub found_none : (es : List Entry) (e : Entry) → (HasIndex es e → ⊥) → found_index es e ≡ 0
unfolding found_index
found_none es e no_index = elim (there_or_not es e) [
  | inr absent ↦ ap (λ b. or_zero (index_of es e) (b && nat_le (index_of es e + width e) most_next)) (any_out es e absent)
  | inl there ↦ elim (cases_Bool (nat_le (index_of es e + width e) most_next)) [
    | inl so ↦ absurd (no_index (there, leb-true (index_of es e + width e) most_next so))
    | inr past ↦
        ap (λ b. or_zero (index_of es e) (b && nat_le (index_of es e + width e) most_next)) (any_in es e there)
        ∙ ap (or_zero (index_of es e)) past
  ]
]

index_some : (es : List Entry) (e : Entry) → 1 ≤ index_of es e
index_some es e = let i = index_is es e in omega (arith, i)

pub found_some : (es : List Entry) (e : Entry) → 1 ≤ found_index es e → HasIndex es e
found_some es e some = elim (has_or_not es e) [
  | inl h ↦ h
  | inr no_index ↦ absurd (nothing (found_none es e no_index))
] where
  nothing : found_index es e ≡ 0 → ⊥
  nothing none = absurd (omega (arith, none, some))

-- ---- what a pool finds among all that are needed

-- where each stands once and has room, its index is found
pub found_in : (kept : List Entry) (e : Entry) → Contains kept e → HasRoom (index_of kept e) e → found_index kept e ≡ index_of kept e
found_in kept e here room = found_there kept e (here, room.last)

pub found_once : (xs kept : List Entry) (e : Entry) → kept ≡ each_once xs → Contains xs e → HasRoom (index_of kept e) e → found_index kept e ≡ index_of kept e
found_once xs kept e is needed room = found_in kept e (subst (λ l. Contains l e) (sym is) (once_has xs e needed)) room

-- what has room among all is kept
pub kept_with_room : (xs : List Entry) (e : Entry) → Contains xs e → HasRoom (index_of (each_once xs) e) e → Contains (all_kept [] xs) e
kept_with_room xs e needed room = elim (there_or_not (all_kept [] xs) e) [
  | inl here ↦ here
  | inr absent ↦ absurd (missing absent (once xs))
] where
  too_far : (Contains (all_kept [] xs) e → ⊥) → IsFull (all_kept [] xs) → EndsIn (all_kept [] xs) e → ⊥
  too_far absent full ends = let index = index_absent (all_kept [] xs) e absent in absurd (omega (arith, index, full, ends))

  in_rest_only : (Contains (all_kept [] xs) e → ⊥) → (rest : List Entry) → (rest ≡ []) ⊎ IsFull (all_kept [] xs) → Contains rest e → ⊥
  in_rest_only absent rest (inl none) h = none_in e (subst (λ l. Contains l e) none h)
  in_rest_only absent rest (inr full) h = past_in_once xs e full (too_far absent full) room.last

  missing : (Contains (all_kept [] xs) e → ⊥) → IsOnce xs → ⊥
  missing absent o = elim (Contains-append_cases (all_kept [] xs) o.rest e (subst (λ l. Contains l e) o.parts (once_has xs e needed))) [
    | inl here ↦ absent here
    | inr more ↦ in_rest_only absent o.rest o.none more
  ]

-- what has room among all is found at its index among all
pub found_with_room : (xs : List Entry) (e : Entry) → Contains xs e → HasRoom (index_of (each_once xs) e) e → found_index (all_kept [] xs) e ≡ index_of (each_once xs) e
found_with_room xs e needed room =
    let here = kept_with_room xs e needed room in
    let same = index_in_once xs e here in
    found_there (all_kept [] xs) e (here, subst (λ (n : ℕ). n + width e ≤ most_next) same room.last) ∙ sym same

-- and so is what had room when it was put
pub found_with_place : (xs : List Entry) (e : Entry) → HasPlace (all_kept [] xs) e → found_index (all_kept [] xs) e ≡ index_of (each_once xs) e
found_with_place xs e place = found_there (all_kept [] xs) e place.1 ∙ sym (index_in_once xs e place.1.0)

-- ---- keys that are found

pub found_key : (entries : List (Key × ℕ)) (next : ℕ) (key : Key) (i : ℕ) (answer : Option ℕ) → IsNumbered entries next → lookup (same_key key) entries ≡ Some i → IsWithin key i answer
    → FindsKey (keys_of entries) key answer
found_key entries next key i None h e past = inl (record { index = i; at = stands entries next key i h e; past = past })
found_key entries next key i (Some other) h e within =
    (subst (λ (n : ℕ). StandsAt (keys_of entries) key n) (sym within.0) (stands entries next key i h e), subst (λ (n : ℕ). n + key_width key ≤ most_next) (sym within.0) within.1)

pub no_key : (entries : List (Key × ℕ)) (next : ℕ) (key : Key) → IsNumbered entries next → lookup (same_key key) entries ≡ None → FindsKey (keys_of entries) key None
no_key entries next key h e = inr (lacks entries next key h e)

-- ---- entries that are found

-- the indexes in a constant are at least 1
abbrev IsMade : Constant → Type 0
IsMade (pool.Class name) = 1 ≤ name
IsMade (pool.Text text) = 1 ≤ text
IsMade (pool.NameAndType name desc) = (1 ≤ name) × (1 ≤ desc)
IsMade (pool.Field class names) = (1 ≤ class) × (1 ≤ names)
IsMade (pool.Method class names) = (1 ≤ class) × (1 ≤ names)
IsMade (pool.InterfaceMethod class names) = (1 ≤ class) × (1 ≤ names)
IsMade (pool.Dynamic place names) = 1 ≤ names
IsMade constant = Unit {0}

module _ (es : List Entry) where
  made : (e : Entry) → IsMade (constant_of (index_of es) e)
  made (Utf8 text) = tt
  made (Integer n) = tt
  made (Long n) = tt
  made (Class name) = index_some es (Utf8 name)
  made (Text text) = index_some es (Utf8 text)
  made (NameAndType name desc) = (index_some es (Utf8 name), index_some es (Utf8 desc))
  made (Field class name desc) = (index_some es (Class class), index_some es (NameAndType name desc))
  made (Method class name desc) = (index_some es (Class class), index_some es (NameAndType name desc))
  made (InterfaceMethod class name desc) = (index_some es (Class class), index_some es (NameAndType name desc))
  made (Dynamic place name desc) = index_some es (NameAndType name desc)

  -- what names no index 0 has its parts there
  named_from : (e : Entry) → IsMade (constant_of (found_index es) e) → AllByRecursion (HasIndex es) (named_by e)
  named_from (Utf8 text) h = tt
  named_from (Integer n) h = tt
  named_from (Long n) h = tt
  named_from (Class name) h = (found_some es (Utf8 name) h, tt)
  named_from (Text text) h = (found_some es (Utf8 text) h, tt)
  named_from (NameAndType name desc) h = (found_some es (Utf8 name) h.0, (found_some es (Utf8 desc) h.1, tt))
  named_from (Field class name desc) h = (found_some es (Class class) h.0, (found_some es (NameAndType name desc) h.1, tt))
  named_from (Method class name desc) h = (found_some es (Class class) h.0, (found_some es (NameAndType name desc) h.1, tt))
  named_from (InterfaceMethod class name desc) h = (found_some es (Class class) h.0, (found_some es (NameAndType name desc) h.1, tt))
  named_from (Dynamic place name desc) h = (found_some es (NameAndType name desc) h, tt)

  alike_found : (e : Entry) → AllByRecursion (HasIndex es) (named_by e) → constant_of (found_index es) e ≡ constant_of (index_of es) e
  alike_found e named =
      same_constant (found_index es) (index_of es) e
      (each_from (λ part. found_index es part ≡ index_of es part) (named_by e) (λ part is. found_there es part (each_in (HasIndex es) (named_by e) part named is)))

-- what is found under a key is the entry's index
module _ (texts : List Name) (ks : List Key) (es : List Entry) (are : AreKeysOf texts ks es) (key : Key) (e : Entry)
    (number : HasNumber texts key) (alike : constant_of_key texts key ≡ constant_of (found_index es) e) where
  named_there : Contains ks key → AllByRecursion (HasIndex es) (named_by e)
  named_there here =
      let at : Contains (constants_of es) (constant_of_key texts key) = subst (λ l. Contains l (constant_of_key texts key)) are.constants (in_map (constant_of_key texts) ks key here) in
      let x = from_map (constant_of (index_of es)) es (constant_of_key texts key) at in
      named_from es e (subst IsMade (x.2 ∙ alike) (made es x.0))

  found_step : (answer : Option ℕ) → FindsKey ks key answer → unwrap_or answer 0 ≡ found_index es e
  found_step (Some i) (at, ends) =
      let here : Contains ks key = subst (λ l. Contains l key) (sym at.parts) (Contains-append_right at.prefix (key ∷ at.back) key (in_here key at.back)) in
      let named = named_there here in
      let same = alike ∙ alike_found es e named in
      let place = place_same texts ks es are key e number named same i at in
      let w = width_same texts ks es are key e number named same in
      let index = place.0 in
      let ends_in : EndsIn es e = omega (arith, ends, w, index) in
      place.0 ∙ sym (found_there es e (place.1, ends_in))
  found_step None finds = elim (has_or_not es e) [
    | inr no_index ↦ sym (found_none es e no_index)
    | inl h ↦ absurd (neither h finds)
  ] where
    neither : HasIndex es e → FindsKey ks key None → ⊥
    neither h (inl past) =
        let named = are.closed e h.0 in
        let same = alike ∙ alike_found es e named in
        let place = place_same texts ks es are key e number named same past.index past.at in
        let w = width_same texts ks es are key e number named same in
        let index = place.0 in
        let ends = h.1 in
        past.past (omega (arith, ends, w, index))
    neither h (inr absent) =
        let named = are.closed e h.0 in
        absent (key_there texts ks es are key e number named (alike ∙ alike_found es e named) h.0)

module _ (texts : List Name) (ks : List Key) (h : AreFields texts ks) where
  pub sought_found : (key : Key) (answer : Option ℕ) → FindsKey ks key answer → (e : Entry) → IsSought (keyed_entries texts ks) key e → unwrap_or answer 0 ≡ found_index (keyed_entries texts ks) e
  sought_found key answer finds e of =
      let n = no_texts texts key of.no_text in
      found_step texts ks (keyed_entries texts ks) h key e n.0 (n.1 ∙ of.constant) answer finds

  pub text_found : (text : Name) (number : ℕ) (answer : Option ℕ) → IsNumberOf texts text number → FindsKey ks (keys.Utf8 number) answer → unwrap_or answer 0 ≡ found_index (keyed_entries texts ks) (Utf8 text)
  text_found text number answer is finds = found_step texts ks (keyed_entries texts ks) h (keys.Utf8 number) (Utf8 text) (text, is) (ap pool.Utf8 (text_is texts text number is)) answer finds

  pub no_text_found : (text : Name) → (Contains texts text → ⊥) → 0 ≡ found_index (keyed_entries texts ks) (Utf8 text)
  no_text_found text absent = sym (found_none (keyed_entries texts ks) (Utf8 text) (λ is. nowhere is.0)) where
    nowhere : Contains (keyed_entries texts ks) (Utf8 text) → ⊥
    nowhere is =
        let at = subst (λ l. Contains l (pool.Utf8 text)) (sym h.constants) (in_map (constant_of (index_of (keyed_entries texts ks))) (keyed_entries texts ks) (Utf8 text) is) in
        let k = from_map (constant_of_key texts) ks (pool.Utf8 text) at in
        absent (text_key texts text k.0 (each_in (HasNumber texts) ks k.0 h.numbers k.1) k.2)

-- ---- keys of entries that are looked up

module _ (es : List Entry) where
  pub integer_sought : (n : ℤ) → IsSought es (keys.Integer n) (Integer n)
  integer_sought n = record { no_text = tt; constant = refl }

  pub long_sought : (n : ℤ) → IsSought es (keys.Long n) (Long n)
  long_sought n = record { no_text = tt; constant = refl }

  pub class_sought : (name : Name) (i : ℕ) → i ≡ found_index es (Utf8 name) → IsSought es (keys.Class i) (Class name)
  class_sought name i is = record { no_text = tt; constant = ap pool.Class is }

  pub string_sought : (text : Name) (i : ℕ) → i ≡ found_index es (Utf8 text) → IsSought es (keys.Text i) (Text text)
  string_sought text i is = record { no_text = tt; constant = ap pool.Text is }

  pub names_sought : (name desc : Name) (i j : ℕ) → i ≡ found_index es (Utf8 name) → j ≡ found_index es (Utf8 desc) → IsSought es (keys.NameAndType i j) (NameAndType name desc)
  names_sought name desc i j is js = record { no_text = tt; constant = ap (λ (n : ℕ). pool.NameAndType n j) is ∙ ap (pool.NameAndType (found_index es (Utf8 name))) js }

  module _ (class name desc : Name) (i j : ℕ) (is : i ≡ found_index es (Class class)) (js : j ≡ found_index es (NameAndType name desc)) where
    pub field_sought : IsSought es (keys.Field i j) (Field class name desc)
    field_sought = record { no_text = tt; constant = ap (λ (n : ℕ). pool.Field n j) is ∙ ap (pool.Field (found_index es (Class class))) js }

    pub method_sought : IsSought es (keys.Method i j) (Method class name desc)
    method_sought = record { no_text = tt; constant = ap (λ (n : ℕ). pool.Method n j) is ∙ ap (pool.Method (found_index es (Class class))) js }

    pub interface_sought : IsSought es (keys.InterfaceMethod i j) (InterfaceMethod class name desc)
    interface_sought = record { no_text = tt; constant = ap (λ (n : ℕ). pool.InterfaceMethod n j) is ∙ ap (pool.InterfaceMethod (found_index es (Class class))) js }

  pub dynamic_sought : (place : ℕ) (name desc : Name) (i : ℕ) → i ≡ found_index es (NameAndType name desc) → IsSought es (keys.Dynamic place i) (Dynamic place name desc)
  dynamic_sought place name desc i is = record { no_text = tt; constant = ap (pool.Dynamic place) is }
