-- Equal keys, and keys with their indexes.
use Rattle.std.proofs.Common.{◌≡◌, ℕ, ◌+◌, ◌<◌, ◌≤◌, inl, inr, Bool, true, false, cond, ◌&&◌, ◌==◌, List, [], ◌∷◌, ◌++◌, Contains, Option, Some, None, refl, sym, ap, ◌∙◌, subst, arith, unwrap_or, is_some}
use Rattle.std.specs.Map.{keys_of, lookup}
use Rattle.std.proofs.lemmas.Bool.{cases_Bool, and_parts, and_from, false≢true}
use Rattle.std.proofs.lemmas.Bool.Decides.{Decides-int_eq, Decides-eqb}
use Rattle.dj_asm_pool.specs.contracts.key.KeyPartialEq.TheImpl as key_eq
use Rattle.dj_asm_pool.specs.declared.key.Key.{Key}
use Rattle.dj_asm_pool.specs.declared.key.Key.TheVariants as keys
use Rattle.dj_asm_pool.specs.Keys.{key_width, key_widths, numbered, next_index, most_next, IsNumbered, StandsAt, IsLeftOut, IsKept, IsWithin, IsPlaced}
use Rattle.dj_asm_pool.proofs.Members.{none_in, in_here, in_rest, in_cases}

abbrev pub same_key : Key → Key → Bool
same_key = (key_eq.ghosts).eq

-- ---- equal keys

two_are : (a b c d : ℕ) → (a == c) && (b == d) ≡ true → (a ≡ c) × (b ≡ d)
two_are a b c d e = let h = and_parts (a == c) (b == d) e in ((Decides-eqb a c).0 h.0, (Decides-eqb b d).0 h.1)

two_themselves : (a b : ℕ) → (a == a) && (b == b) ≡ true
two_themselves a b = and_from (a == a) (b == b) ((Decides-eqb a a).1 refl) ((Decides-eqb b b).1 refl)

pub key_is : (a b : Key) → same_key a b ≡ true → a ≡ b
key_is (keys.Utf8 a) (keys.Utf8 b) e = ap keys.Utf8 ((Decides-eqb a b).0 e)
key_is (keys.Integer a) (keys.Integer b) e = ap keys.Integer ((Decides-int_eq a b).0 e)
key_is (keys.Long a) (keys.Long b) e = ap keys.Long ((Decides-int_eq a b).0 e)
key_is (keys.Class a) (keys.Class b) e = ap keys.Class ((Decides-eqb a b).0 e)
key_is (keys.Text a) (keys.Text b) e = ap keys.Text ((Decides-eqb a b).0 e)
key_is (keys.NameAndType a b) (keys.NameAndType c d) e = let p = two_are a b c d e in let h = p.0 in let k = p.1 in cc
key_is (keys.Field a b) (keys.Field c d) e = let p = two_are a b c d e in let h = p.0 in let k = p.1 in cc
key_is (keys.Method a b) (keys.Method c d) e = let p = two_are a b c d e in let h = p.0 in let k = p.1 in cc
key_is (keys.InterfaceMethod a b) (keys.InterfaceMethod c d) e = let p = two_are a b c d e in let h = p.0 in let k = p.1 in cc
key_is (keys.Dynamic a b) (keys.Dynamic c d) e = let p = two_are a b c d e in let h = p.0 in let k = p.1 in cc
key_is a b e = absurd (false≢true e)

pub key_itself : (a : Key) → same_key a a ≡ true
key_itself (keys.Utf8 a) = (Decides-eqb a a).1 refl
key_itself (keys.Integer a) = (Decides-int_eq a a).1 refl
key_itself (keys.Long a) = (Decides-int_eq a a).1 refl
key_itself (keys.Class a) = (Decides-eqb a a).1 refl
key_itself (keys.Text a) = (Decides-eqb a a).1 refl
key_itself (keys.NameAndType a b) = two_themselves a b
key_itself (keys.Field a b) = two_themselves a b
key_itself (keys.Method a b) = two_themselves a b
key_itself (keys.InterfaceMethod a b) = two_themselves a b
key_itself (keys.Dynamic a b) = two_themselves a b

-- ---- keys with their indexes

keys_numbered : (n : ℕ) (ks : List Key) → keys_of (numbered n ks) ≡ ks
keys_numbered n [] = refl
keys_numbered n (k ∷ ks) = ap (λ l. k ∷ l) (keys_numbered (n + key_width k) ks)

keys_last : (entries : List (Key × ℕ)) (key : Key) (i : ℕ) → keys_of (entries ++ (key, i) ∷ []) ≡ keys_of entries ++ key ∷ []
keys_last [] key i = refl
keys_last (e ∷ entries) key i = ap (λ l. e.0 ∷ l) (keys_last entries key i)

widths_last : (ks : List Key) (key : Key) → key_widths (ks ++ key ∷ []) ≡ key_widths ks + key_width key
widths_last [] key = omega arith
widths_last (k ∷ ks) key = let h = widths_last ks key in omega (arith, h)

numbered_last : (n : ℕ) (ks : List Key) (key : Key) → numbered n (ks ++ key ∷ []) ≡ numbered n ks ++ (key, n + key_widths ks) ∷ []
numbered_last n [] key = let e : n ≡ n + 0 = omega arith in ap (λ (m : ℕ). (key, m) ∷ []) e
numbered_last n (k ∷ ks) key =
    let e : n + key_width k + key_widths ks ≡ n + (key_width k + key_widths ks) = omega arith in
    ap (λ l. (k, n) ∷ l) (numbered_last (n + key_width k) ks key)
    ∙ ap (λ (m : ℕ). (k, n) ∷ (numbered (n + key_width k) ks ++ (key, m) ∷ [])) e

-- the key stands there, counted from n
record StandsFrom (n : ℕ) (ks : List Key) (key : Key) (index : ℕ) : Type 0 where
  prefix : List Key
  back : List Key
  parts : ks ≡ prefix ++ key ∷ back
  absent : Contains prefix key → ⊥
  index_is : index ≡ n + key_widths prefix

some_is : (a b : ℕ) → Some a ≡ Some b → a ≡ b
some_is a b e = ap (λ r. unwrap_or r a) e

found_from : (n : ℕ) (ks : List Key) (key : Key) (i : ℕ) → lookup (same_key key) (numbered n ks) ≡ Some i → StandsFrom n ks key i
found_from n [] key i e = absurd (false≢true (ap is_some e))
found_from n (k ∷ ks) key i e = elim (cases_Bool (same_key key k)) [
  | inl so ↦
      let here = some_is n i (sym (ap (λ b. cond b (Some n) (lookup (same_key key) (numbered (n + key_width k) ks))) so) ∙ e) in
      record { prefix = []; back = ks; parts = ap (λ x. x ∷ ks) (sym (key_is key k so)); absent = λ h. none_in key h; index_is = omega (arith, here) }
  | inr other ↦
      let r = found_from (n + key_width k) ks key i (sym (ap (λ b. cond b (Some n) (lookup (same_key key) (numbered (n + key_width k) ks))) other) ∙ e) in
      let at = r.index_is in
      record { prefix = k ∷ r.prefix; back = r.back; parts = ap (λ l. k ∷ l) r.parts; absent = λ h. before_it k r.prefix h other r.absent; index_is = omega (arith, at) }
] where
  before_it : (k : Key) (prefix : List Key) → Contains (k ∷ prefix) key → same_key key k ≡ false → (Contains prefix key → ⊥) → ⊥
  before_it k prefix h other absent = elim (in_cases k prefix key h) [
    | inl same ↦ false≢true (sym other ∙ subst (λ x. same_key key x ≡ true) (sym same) (key_itself key))
    | inr more ↦ absent more
  ]

not_found : (n : ℕ) (ks : List Key) (key : Key) → lookup (same_key key) (numbered n ks) ≡ None → Contains ks key → ⊥
not_found n [] key e h = none_in key h
not_found n (k ∷ ks) key e h = elim (cases_Bool (same_key key k)) [
  | inl so ↦ false≢true (sym (ap is_some (sym (ap (λ b. cond b (Some n) (lookup (same_key key) (numbered (n + key_width k) ks))) so) ∙ e)))
  | inr other ↦ elim (in_cases k ks key h) [
    | inl same ↦ false≢true (sym other ∙ subst (λ x. same_key key x ≡ true) (sym same) (key_itself key))
    | inr more ↦ not_found (n + key_width k) ks key (sym (ap (λ b. cond b (Some n) (lookup (same_key key) (numbered (n + key_width k) ks))) other) ∙ e) more
  ]
]

in_middle : (prefix back : List Key) (key : Key) → Contains (prefix ++ key ∷ back) key
in_middle [] back key = in_here key back
in_middle (k ∷ prefix) back key = in_rest k (prefix ++ key ∷ back) key (in_middle prefix back key)

-- where the key stands, from what is found
pub stands : (entries : List (Key × ℕ)) (next : ℕ) (key : Key) (i : ℕ) → IsNumbered entries next → lookup (same_key key) entries ≡ Some i → StandsAt (keys_of entries) key i
stands entries next key i h e =
    let at = found_from 1 (keys_of entries) key i (ap (λ l. lookup (same_key key) l) (sym h.indexes) ∙ e) in
    record { prefix = at.prefix; back = at.back; parts = at.parts; absent = at.absent; index_is = at.index_is }

placed : (before : List Key) (key : Key) (now : List Key) (i : ℕ) (answer : Option ℕ) → IsKept (next_index before) before key now → StandsAt now key i → IsWithin key i answer → IsPlaced before key now answer
placed before key now i None kept at past = (kept, inl (record { index = i; at = at; past = past }))
placed before key now i (Some other) kept at within =
    (kept, (subst (λ (n : ℕ). StandsAt now key n) (sym within.0) at, subst (λ (n : ℕ). n + key_width key ≤ most_next) (sym within.0) within.1))

pub there : (entries : List (Key × ℕ)) (next : ℕ) (key : Key) (i : ℕ) (answer : Option ℕ) → IsNumbered entries next → lookup (same_key key) entries ≡ Some i → IsWithin key i answer
    → IsPlaced (keys_of entries) key (keys_of entries) answer
there entries next key i answer h e within =
    let at = stands entries next key i h e in
    placed (keys_of entries) key (keys_of entries) i answer (inl (subst (λ l. Contains l key) (sym at.parts) (in_middle at.prefix at.back key), refl)) at within

pub lacks : (entries : List (Key × ℕ)) (next : ℕ) (key : Key) → IsNumbered entries next → lookup (same_key key) entries ≡ None → Contains (keys_of entries) key → ⊥
lacks entries next key h e = not_found 1 (keys_of entries) key (ap (λ l. lookup (same_key key) l) (sym h.indexes) ∙ e)

pub full : (entries : List (Key × ℕ)) (next : ℕ) (key : Key) → IsNumbered entries next → lookup (same_key key) entries ≡ None → most_next < next → IsPlaced (keys_of entries) key (keys_of entries) None
full entries next key h e past =
    let out : IsLeftOut (next_index (keys_of entries)) (keys_of entries) key (keys_of entries) =
    record { absent = lacks entries next key h e; past = subst (λ (n : ℕ). most_next < n) h.next_is past; same = refl } in
    (inr (inr out), inr out)

module _ (entries : List (Key × ℕ)) (next : ℕ) (key : Key) (h : IsNumbered entries next) where
  abbrev more : List (Key × ℕ)
  more = entries ++ (key, next) ∷ []

  pub still_numbered : IsNumbered more (next + key_width key)
  still_numbered =
      let is = h.next_is in
      let w = widths_last (keys_of entries) key in
      let keys_are = keys_last entries key next in
      record {
        indexes =
            ap (λ l. l ++ (key, next) ∷ []) h.indexes
            ∙ (ap (λ (n : ℕ). numbered 1 (keys_of entries) ++ (key, n) ∷ []) is
            ∙ (sym (numbered_last 1 (keys_of entries) key) ∙ ap (numbered 1) (sym keys_are)));
        next_is = let e : next + key_width key ≡ 1 + key_widths (keys_of entries ++ key ∷ []) = omega (arith, is, w) in e ∙ ap (λ l. next_index l) (sym keys_are);
      }

  pub put_last : (answer : Option ℕ) → lookup (same_key key) entries ≡ None → next ≤ most_next → IsWithin key next answer → IsPlaced (keys_of entries) key (keys_of more) answer
  put_last answer e room within =
      let keys_are = keys_last entries key next in
      placed (keys_of entries) key (keys_of more) next answer
      (inr (inl (record { absent = lacks entries next key h e; room = subst (λ (n : ℕ). n ≤ most_next) h.next_is room; last = keys_are })))
      (record { prefix = keys_of entries; back = []; parts = keys_are; absent = lacks entries next key h e; index_is = h.next_is })
      within
