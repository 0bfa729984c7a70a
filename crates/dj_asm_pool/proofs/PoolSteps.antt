-- An entry is put in the pool as its key is put in its place.
use Rattle.std.proofs.Common.{◌≡◌, ℕ, suc, ◌+◌, ◌<◌, ◌≤◌, ◌⊎◌, inl, inr, Bool, true, false, not, cond, ◌||◌, nat_lt, lt-ltb, le-ltb, List, [], ◌∷◌, ◌++◌, map, take, Contains, Option, Some, None, refl, sym, ap, ◌∙◌, subst, arith, if◌then◌else◌}
use Rattle.std.specs.List.{AllByRecursion, list_any, prefix_len}
use Rattle.std.proofs.lemmas.Bool.{cases_Bool, false≢true}
use Rattle.std.proofs.lemmas.List.Elements.{Contains-append_left, Contains-append_right, Contains-append_cases}
use Rattle.dj_names.specs.trusted.Types.{Name}
use Rattle.dj_pool.specs.trusted.Pool.{Constant, takes_two}
use Rattle.dj_asm_pool.specs.declared.key.Key.{Key}
use Rattle.dj_asm_pool.specs.declared.key.Key.TheVariants as keys
use Rattle.dj_asm_pool.specs.Keys.{key_width, key_widths, next_index, most_next, StandsAt, IsKept, IsPlaced}
use Rattle.dj_asm_pool.specs.trusted.Entries.{Entry, Utf8, Integer, Long, Class, Text, NameAndType, Field, Method, InterfaceMethod, Dynamic, same_entry, width, widths, before, index_of, constant_of}
use Rattle.dj_asm_pool.specs.Pooling.{constant_of_key, constants_in, constants_of, named_by, EndsIn, kept, HasNumber, HasIndex, AreKeysOf, IsFull, PutsOne}
use Rattle.dj_asm_pool.proofs.Members.{none_in, in_here, in_rest, in_cases, in_map, from_map, each_in, each_from, each_append}
use Rattle.dj_asm_pool.proofs.EntryLaws.{same_is, same_itself, index_is}
use Rattle.dj_asm_pool.proofs.PoolingLaws.{map_seam, seam_in, same_keys, index_absent, index_first, has_index_with, constant_stays, constants_with, same_entries}

-- ---- widths

abbrev const_width : Constant → ℕ
const_width k = cond (takes_two k) 2 1

abbrev const_widths : List Constant → ℕ
const_widths [] = 0
const_widths (k ∷ ks) = const_width k + const_widths ks

entry_width : (f : Entry → ℕ) (e : Entry) → width e ≡ const_width (constant_of f e)
entry_width f (Utf8 text) = refl
entry_width f (Integer n) = refl
entry_width f (Long n) = refl
entry_width f (Class name) = refl
entry_width f (Text text) = refl
entry_width f (NameAndType name desc) = refl
entry_width f (Field class name desc) = refl
entry_width f (Method class name desc) = refl
entry_width f (InterfaceMethod class name desc) = refl
entry_width f (Dynamic place name desc) = refl

width_of_key : (texts : List Name) (key : Key) → key_width key ≡ const_width (constant_of_key texts key)
width_of_key texts (keys.Utf8 n) = refl
width_of_key texts (keys.Integer n) = refl
width_of_key texts (keys.Long n) = refl
width_of_key texts (keys.Class name) = refl
width_of_key texts (keys.Text text) = refl
width_of_key texts (keys.NameAndType name desc) = refl
width_of_key texts (keys.Field class names) = refl
width_of_key texts (keys.Method class names) = refl
width_of_key texts (keys.InterfaceMethod class names) = refl
width_of_key texts (keys.Dynamic place names) = refl

entry_widths : (f : Entry → ℕ) (es : List Entry) → widths es ≡ const_widths (map (constant_of f) es)
entry_widths f [] = refl
entry_widths f (e ∷ es) = let h = entry_width f e in let k = entry_widths f es in ap (λ (n : ℕ). n + widths es) h ∙ ap (λ (n : ℕ). const_width (constant_of f e) + n) k

widths_of_keys : (texts : List Name) (ks : List Key) → key_widths ks ≡ const_widths (constants_in texts ks)
widths_of_keys texts [] = refl
widths_of_keys texts (k ∷ ks) = ap (λ (n : ℕ). n + key_widths ks) (width_of_key texts k) ∙ ap (λ (n : ℕ). const_width (constant_of_key texts k) + n) (widths_of_keys texts ks)

-- ---- what is kept

pub any_in : (es : List Entry) (e : Entry) → Contains es e → list_any (same_entry e) es ≡ true
any_in [] e h = absurd (none_in e h)
any_in (x ∷ es) e h = elim (cases_Bool (same_entry e x)) [
  | inl so ↦ ap (λ b. b || list_any (same_entry e) es) so
  | inr unlike ↦ elim (in_cases x es e h) [
    | inl same ↦ absurd (false≢true (sym unlike ∙ subst (λ y. same_entry e y ≡ true) (sym same) (same_itself e)))
    | inr more ↦ ap (λ b. b || list_any (same_entry e) es) unlike ∙ any_in es e more
  ]
]

pub any_out : (es : List Entry) (e : Entry) → (Contains es e → ⊥) → list_any (same_entry e) es ≡ false
any_out [] e h = refl
any_out (x ∷ es) e h = elim (cases_Bool (same_entry e x)) [
  | inl so ↦ absurd (h (subst (λ y. Contains (x ∷ es) y) (sym (same_is e x so)) (in_here x es)))
  | inr unlike ↦ ap (λ b. b || list_any (same_entry e) es) unlike ∙ any_out es e (λ more. h (in_rest x es e more))
]

abbrev choice : List Entry → Entry → Bool → Bool → List Entry
choice es e there past = if there then es else (if past then es else es ++ e ∷ [])

pub kept_there : (es : List Entry) (e : Entry) → Contains es e → kept es e ≡ es
kept_there es e h = ap (λ b. choice es e b (nat_lt most_next (1 + widths es))) (any_in es e h)

pub kept_new : (es : List Entry) (e : Entry) → (Contains es e → ⊥) → 1 + widths es ≤ most_next → kept es e ≡ es ++ e ∷ []
kept_new es e h room =
    ap (λ b. choice es e b (nat_lt most_next (1 + widths es))) (any_out es e h)
    ∙ ap (λ b. choice es e false b) (le-ltb most_next (1 + widths es) room)

pub kept_full : (es : List Entry) (e : Entry) → IsFull es → kept es e ≡ es
kept_full es e past = ap (λ b. choice es e (list_any (same_entry e) es) b) (lt-ltb most_next (1 + widths es) past) ∙ either (list_any (same_entry e) es) where
  either : (b : Bool) → choice es e b true ≡ es
  either true = refl
  either false = refl

pub kept_with : (P : List Entry → Type 0) (es : List Entry) (e : Entry) → P es → P (es ++ e ∷ []) → P (kept es e)
kept_with P es e h k = by (list_any (same_entry e) es) (nat_lt most_next (1 + widths es)) where
  by : (there past : Bool) → P (choice es e there past)
  by true past = h
  by false true = h
  by false false = k

pub kept_index : (es : List Entry) (e part : Entry) → HasIndex es part → HasIndex (kept es e) part
kept_index es e part h = kept_with (λ l. HasIndex l part) es e h (has_index_with es (e ∷ []) part h)

-- what stands in a list has its width there
ends_before : (es : List Entry) (e : Entry) → Contains es e → widths (before es e) + width e ≤ widths es
ends_before [] e h = absurd (none_in e h)
ends_before (x ∷ es) e h = elim (cases_Bool (same_entry x e)) [
  | inl so ↦
      let none = ap (λ b. widths (take (cond (not b) (1 + prefix_len (λ other. not (same_entry other e)) es) 0) (x ∷ es))) so in
      let w = ap width (same_is x e so) in
      omega (arith, none, w)
  | inr unlike ↦ elim (in_cases x es e h) [
    | inl same ↦ absurd (false≢true (sym unlike ∙ subst (λ y. same_entry x y ≡ true) same (same_itself x)))
    | inr more ↦
        let n = prefix_len (λ other. not (same_entry other e)) es in
        let one : 1 + n ≡ suc n = omega arith in
        let is : before (x ∷ es) e ≡ x ∷ before es e =
        ap (λ b. take (cond (not b) (1 + n) 0) (x ∷ es)) unlike ∙ ap (λ (k : ℕ). take k (x ∷ es)) one in
        let w = ap widths is in
        let rest = ends_before es e more in
        omega (arith, w, rest)
  ]
]

full_when_past : (es : List Entry) (e : Entry) → Contains es e → (EndsIn es e → ⊥) → IsFull es
full_when_past es e h past = elim (cases_Bool (nat_lt most_next (1 + widths es))) [
  | inl so ↦ less so
  | inr not_so ↦ absurd (past (fits not_so))
] where
  less : nat_lt most_next (1 + widths es) ≡ true → most_next < 1 + widths es
  less so = grind (arith, so)

  fits : nat_lt most_next (1 + widths es) ≡ false → EndsIn es e
  fits not_so =
      let i = index_is es e in
      let w = ends_before es e h in
      let le : 1 + widths es ≤ most_next = grind (arith, not_so) in
      omega (arith, i, w, le)

-- ---- keys and entries stand alike

module _ (texts : List Name) (ks : List Key) (es : List Entry) (made : AreKeysOf texts ks es) where
  pub next_same : next_index ks ≡ 1 + widths es
  next_same = ap (λ (n : ℕ). 1 + n) (widths_of_keys texts ks ∙ (ap const_widths made.constants ∙ sym (entry_widths (index_of es) es)))

  module _ (key : Key) (e : Entry) (number : HasNumber texts key) (named : AllByRecursion (HasIndex es) (named_by e)) (alike : constant_of_key texts key ≡ constant_of (index_of es) e) where
    entry_there : Contains ks key → Contains es e
    entry_there h =
        let at = subst (λ l. Contains l (constant_of (index_of es) e)) made.constants (subst (λ k. Contains (constants_in texts ks) k) alike (in_map (constant_of_key texts) ks key h)) in
        let x = from_map (constant_of (index_of es)) es (constant_of (index_of es) e) at in
        subst (λ y. Contains es y) (same_entries es made.closed x.0 e (made.closed x.0 x.1) named x.2) x.1

    pub key_there : Contains es e → Contains ks key
    key_there h =
        let at = subst (λ l. Contains l (constant_of_key texts key)) (sym made.constants) (subst (λ k. Contains (constants_of es) k) (sym alike) (in_map (constant_of (index_of es)) es e h)) in
        let x = from_map (constant_of_key texts) ks (constant_of_key texts key) at in
        subst (λ y. Contains ks y) (same_keys texts x.0 key (each_in (HasNumber texts) ks x.0 made.numbers x.1) number x.2) x.1

    pub place_same : (i : ℕ) → StandsAt ks key i → (i ≡ index_of es e) × Contains es e
    place_same i at =
        let s = seam_in (constant_of (index_of es)) es (constants_in texts at.prefix) (constants_in texts at.back) (constant_of_key texts key)
        (sym made.constants ∙ (ap (constants_in texts) at.parts ∙ map_seam (constant_of_key texts) at.prefix at.back key)) in
        let here : Contains es s.middle = subst (λ l. Contains l s.middle) (sym s.parts) (Contains-append_right s.first (s.middle ∷ s.last) s.middle (in_here s.middle s.last)) in
        let middle_is : s.middle ≡ e = same_entries es made.closed s.middle e (made.closed s.middle here) named (s.image ∙ alike) in
        let parts : es ≡ s.first ++ e ∷ s.last = s.parts ∙ ap (λ x. s.first ++ x ∷ s.last) middle_is in
        let w = entry_widths (index_of es) s.first ∙ (ap const_widths s.prefix_is ∙ sym (widths_of_keys texts at.prefix)) in
        let index = index_first es s.first s.last e parts (λ h. first_lacks s.first h s.prefix_is) in
        (at.index_is ∙ (ap (λ (n : ℕ). 1 + n) (sym w) ∙ sym index), subst (λ x. Contains es x) middle_is here) where
          first_lacks : (first : List Entry) → Contains first e → map (constant_of (index_of es)) first ≡ constants_in texts at.prefix → ⊥
          first_lacks first h are =
              let in_prefix = subst (λ l. Contains l (constant_of_key texts key)) are (subst (λ k. Contains (map (constant_of (index_of es)) first) k) (sym alike) (in_map (constant_of (index_of es)) first e h)) in
              let x = from_map (constant_of_key texts) at.prefix (constant_of_key texts key) in_prefix in
              let in_keys : Contains ks x.0 = subst (λ l. Contains l x.0) (sym at.parts) (Contains-append_left at.prefix (key ∷ at.back) x.0 x.1) in
              at.absent (subst (λ y. Contains at.prefix y) (same_keys texts x.0 key (each_in (HasNumber texts) ks x.0 made.numbers in_keys) number x.2) x.1)

-- ---- one step

module _ (texts : List Name) (ks : List Key) (es : List Entry) (made : AreKeysOf texts ks es) (key : Key) (e : Entry)
    (number : HasNumber texts key) (named : AllByRecursion (HasIndex es) (named_by e)) (alike : constant_of_key texts key ≡ constant_of (index_of es) e) where
  named_with : (more : List Entry) (x : Entry) → AllByRecursion (HasIndex es) (named_by x) → AllByRecursion (HasIndex (es ++ more)) (named_by x)
  named_with more x all = each_from (HasIndex (es ++ more)) (named_by x) (λ part h. has_index_with es more part (each_in (HasIndex es) (named_by x) part all h))

  with_new : AreKeysOf texts (ks ++ key ∷ []) (es ++ e ∷ [])
  with_new = record {
    numbers = each_append (HasNumber texts) ks (key ∷ []) made.numbers (number, tt);
    constants =
        map_seam (constant_of_key texts) ks [] key
        ∙ (ap (λ l. l ++ constant_of_key texts key ∷ []) made.constants
        ∙ (ap (λ k. constants_of es ++ k ∷ []) alike ∙ sym (constants_with es e made.closed named)));
    closed = λ x h. closed_with x (Contains-append_cases es (e ∷ []) x h);
  } where
    closed_with : (x : Entry) → Contains es x ⊎ Contains (e ∷ []) x → AllByRecursion (HasIndex (es ++ e ∷ [])) (named_by x)
    closed_with x (inl h) = named_with (e ∷ []) x (made.closed x h)
    closed_with x (inr h) = elim (in_cases e [] x h) [
      | inl same ↦ subst (λ y. AllByRecursion (HasIndex (es ++ e ∷ [])) (named_by y)) same (named_with (e ∷ []) e named)
      | inr none ↦ absurd (none_in x none)
    ]

  keys_with : (ks' : List Key) → IsKept (next_index ks) ks key ks' → AreKeysOf texts ks' (kept es e)
  keys_with ks' (inl (h, same)) =
      subst (λ l. AreKeysOf texts l (kept es e)) (sym same) (subst (λ l. AreKeysOf texts ks l) (sym (kept_there es e (entry_there texts ks es made key e number named alike h))) made)
  keys_with ks' (inr (inl new)) =
      let absent : Contains es e → ⊥ = λ h. new.absent (key_there texts ks es made key e number named alike h) in
      let room : 1 + widths es ≤ most_next = subst (λ (n : ℕ). n ≤ most_next) (next_same texts ks es made) new.room in
      subst (λ l. AreKeysOf texts l (kept es e)) (sym new.last) (subst (λ l. AreKeysOf texts (ks ++ key ∷ []) l) (sym (kept_new es e absent room)) with_new)
  keys_with ks' (inr (inr out)) =
      let full = subst (λ (n : ℕ). most_next < n) (next_same texts ks es made) out.past in
      subst (λ l. AreKeysOf texts l (kept es e)) (sym out.same) (subst (λ l. AreKeysOf texts ks l) (sym (kept_full es e full)) made)

  named_then : AllByRecursion (HasIndex (kept es e)) (named_by e)
  named_then = kept_with (λ l. AllByRecursion (HasIndex l) (named_by e)) es e named (named_with (e ∷ []) e named)

  alike_then : constant_of_key texts key ≡ constant_of (index_of (kept es e)) e
  alike_then = kept_with (λ l. constant_of_key texts key ≡ constant_of (index_of l) e) es e alike (alike ∙ sym (constant_stays es (e ∷ []) e named))

  pub width_same : key_width key ≡ width e
  width_same = width_of_key texts key ∙ (ap const_width alike ∙ sym (entry_width (index_of es) e))

  pub step : (ks' : List Key) (answer : Option ℕ) → IsPlaced ks key ks' answer → AreKeysOf texts ks' (kept es e) × PutsOne es e (kept es e) answer
  step ks' (Some i) (k, (at, ends)) =
      let now = keys_with ks' k in
      let place = place_same texts ks' (kept es e) now key e number named_then alike_then i at in
      let w = width_same in
      let index = place.0 in
      (now, (refl, (place.0, (place.1, omega (arith, ends, w, index)))))
  step ks' None (k, inl past) =
      let now = keys_with ks' k in
      let place = place_same texts ks' (kept es e) now key e number named_then alike_then past.index past.at in
      let w = width_same in
      let index = place.0 in
      let ends_past : EndsIn (kept es e) e → ⊥ = λ ends. past.past (omega (arith, ends, w, index)) in
      (now, (refl, (ends_past, full_when_past (kept es e) e place.1 ends_past)))
  step ks' None (k, inr out) =
      let full : IsFull es = subst (λ (n : ℕ). most_next < n) (next_same texts ks es made) out.past in
      let absent : Contains es e → ⊥ = λ h. out.absent (key_there texts ks es made key e number named alike h) in
      let same = kept_full es e full in
      let index = index_absent es e absent in
      (keys_with ks' k, (refl, (subst (λ l. EndsIn l e → ⊥) (sym same) (λ ends. past_all index ends full), subst IsFull (sym same) full))) where
        past_all : index_of es e ≡ 1 + widths es → EndsIn es e → IsFull es → ⊥
        past_all index ends full = absurd (omega (arith, index, ends, full))
