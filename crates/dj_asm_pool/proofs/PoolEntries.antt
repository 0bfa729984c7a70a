-- Entries of keys, at their indexes, one by one.
use Rattle.std.proofs.Common.{◌≡◌, true, false, ℕ, zero, suc, ◌+◌, ◌<◌, List, [], ◌∷◌, ◌++◌, map, take, get_or, slice_get, Contains, Option, Some, None, nat_lt, refl, sym, ap, ◌∙◌, subst, arith, unwrap_or, is_some}
use Rattle.std.proofs.lemmas.Bool.{false≢true}
use Rattle.dj_names.specs.trusted.Types.{Name}
use Rattle.dj_pool.specs.trusted.Pool as pool
use Rattle.dj_pool.specs.trusted.Pool.{Constant, Hole, takes_two, indexed, text_of}
use Rattle.dj_pool.specs.Views.{constant_of as constant_of_entry}
use Rattle.dj_pool.specs.declared.pool.Entry as list
use Rattle.dj_pool.specs.declared.pool.Entry.TheVariants as list_entries
use Rattle.dj_pool.proofs.Slots.{indexed_wide, indexed_narrow}
use Rattle.dj_pool.proofs.ChangeLaws.{indexed_append}
use Rattle.dj_asm_pool.specs.declared.key.Key.{Key}
use Rattle.dj_asm_pool.specs.declared.key.Key.TheVariants as keys
use Rattle.dj_asm_pool.specs.Keys.{next_index, most_next}
use Rattle.dj_asm_pool.specs.trusted.Entries.{Utf8, index_of, constant_of, widths}
use Rattle.dj_asm_pool.specs.Pooling.{constant_of_key, constants_in, HasNumber, EndsIn, keyed_entries, IsFull, PutsOne}
use Rattle.dj_asm_pool.proofs.Members.{in_here, in_map, from_map, each_in}
use Rattle.dj_asm_pool.proofs.PoolingLaws.{text_is, map_seam, index_absent}
use Rattle.dj_asm_pool.proofs.PoolSteps.{next_same, kept_full}
use Rattle.dj_asm_pool.proofs.PoolChains.{AreFields}
use Rattle.std.proofs.lemmas.List.Elements.{Contains-append_right}

pub indexed_more : (xs : List Constant) (k : Constant) → indexed xs ++ indexed (k ∷ []) ≡ indexed (xs ++ k ∷ [])
indexed_more xs k = sym (indexed_append xs (k ∷ []))

next_taken : {A : Type 0} (xs : List A) (i : ℕ) (x : A) → slice_get xs i ≡ Some x → take (suc i) xs ≡ take i xs ++ x ∷ []
next_taken [] i x h = absurd (false≢true (ap is_some h))
next_taken (y ∷ xs) zero x h = ap (λ z. z ∷ []) (ap (λ r. unwrap_or r y) h)
next_taken (y ∷ xs) (suc i) x h = ap (λ l. y ∷ l) (next_taken xs i x h)

pub one_more : {A : Type 0} (xs : List A) (i : ℕ) (x : A) → slice_get xs i ≡ Some x → take (i + 1) xs ≡ take i xs ++ x ∷ []
one_more xs i x h = let e : i + 1 ≡ suc i = omega arith in ap (λ (n : ℕ). take n xs) e ∙ next_taken xs i x h

pushed : (xs : List list.Entry) (e : list.Entry) → map constant_of_entry (xs ++ e ∷ []) ≡ map constant_of_entry xs ++ constant_of_entry e ∷ []
pushed xs e = map_seam constant_of_entry xs [] e

pub pushed_narrow : (xs : List list.Entry) (e : list.Entry) → takes_two (constant_of_entry e) ≡ false → map constant_of_entry (xs ++ e ∷ []) ≡ map constant_of_entry xs ++ indexed (constant_of_entry e ∷ [])
unfolding indexed
pushed_narrow xs e h = pushed xs e ∙ ap (λ l. map constant_of_entry xs ++ l) (sym (indexed_narrow (constant_of_entry e) [] h))

pub pushed_wide : (xs : List list.Entry) (e : list.Entry) → takes_two (constant_of_entry e) ≡ true
    → map constant_of_entry ((xs ++ e ∷ []) ++ list_entries.Hole ∷ []) ≡ map constant_of_entry xs ++ indexed (constant_of_entry e ∷ [])
unfolding indexed
pushed_wide xs e h =
    pushed (xs ++ e ∷ []) list_entries.Hole
    ∙ (ap (λ l. l ++ Hole ∷ []) (pushed xs e)
    ∙ (join_two (map constant_of_entry xs) (constant_of_entry e) Hole ∙ ap (λ l. map constant_of_entry xs ++ l) (sym (indexed_wide (constant_of_entry e) [] h)))) where
      join_two : (xs : List Constant) (a b : Constant) → (xs ++ a ∷ []) ++ b ∷ [] ≡ xs ++ a ∷ (b ∷ [])
      join_two [] a b = refl
      join_two (x ∷ xs) a b = ap (λ l. x ∷ l) (join_two xs a b)

pub entries_more : (texts : List Name) (ks : List Key) (i : ℕ) (k : Key) → slice_get ks i ≡ Some k
    → indexed (constants_in texts (take i ks)) ++ indexed (constant_of_key texts k ∷ []) ≡ indexed (constants_in texts (take (i + 1) ks))
entries_more texts ks i k h =
    indexed_more (constants_in texts (take i ks)) (constant_of_key texts k)
    ∙ ap indexed (sym (map_seam (constant_of_key texts) (take i ks) [] k) ∙ ap (constants_in texts) (sym (one_more ks i k h)))

abbrev unwrap_or_empty : {X : Type 0} → (X → Name) → Option X → Name
unwrap_or_empty items None = []
unwrap_or_empty items (Some x) = items x

-- the text at a number
pub text_got : {X : Type 0} (xs : List X) (items : X → Name) (n : ℕ) (r : Option X) → r ≡ slice_get xs n → unwrap_or_empty items r ≡ get_or (map items xs) n []
text_got [] items n None h = refl
text_got [] items n (Some x) h = absurd (false≢true (sym (ap is_some h)))
text_got (x ∷ xs) items zero None h = absurd (false≢true (ap is_some h))
text_got (x ∷ xs) items zero (Some y) h = ap items (ap (λ r. unwrap_or r x) h)
text_got (x ∷ xs) items (suc n) r h = text_got xs items n r h

-- ---- a full pool

pub text_key : (texts : List Name) (text : Name) (k : Key) → HasNumber texts k → constant_of_key texts k ≡ pool.Utf8 text → Contains texts text
text_key texts text (keys.Utf8 n) h e =
    let is : h.0 ≡ text = sym (text_is texts h.0 n h.1) ∙ ap (λ k. unwrap_or (text_of k) []) e in
    subst (λ l. Contains l text) (sym h.1.parts) (Contains-append_right h.1.prefix (h.0 ∷ h.1.back) text (subst (λ t. Contains (h.0 ∷ h.1.back) t) is (in_here h.0 h.1.back)))
text_key texts text (keys.Integer n) h e = absurd (false≢true (ap (λ k. is_some (text_of k)) e))
text_key texts text (keys.Long n) h e = absurd (false≢true (ap (λ k. is_some (text_of k)) e))
text_key texts text (keys.Class name) h e = absurd (false≢true (ap (λ k. is_some (text_of k)) e))
text_key texts text (keys.Text t) h e = absurd (false≢true (ap (λ k. is_some (text_of k)) e))
text_key texts text (keys.NameAndType name desc) h e = absurd (false≢true (ap (λ k. is_some (text_of k)) e))
text_key texts text (keys.Field class names) h e = absurd (false≢true (ap (λ k. is_some (text_of k)) e))
text_key texts text (keys.Method class names) h e = absurd (false≢true (ap (λ k. is_some (text_of k)) e))
text_key texts text (keys.InterfaceMethod class names) h e = absurd (false≢true (ap (λ k. is_some (text_of k)) e))
text_key texts text (keys.Dynamic place names) h e = absurd (false≢true (ap (λ k. is_some (text_of k)) e))

-- a text that has no number isn't put in a full pool
pub full_text : (texts : List Name) (ks : List Key) (text : Name) → AreFields texts ks → (Contains texts text → ⊥) → most_next < next_index ks
    → PutsOne (keyed_entries texts ks) (Utf8 text) (keyed_entries texts ks) None
full_text texts ks text h absent past =
    let es = keyed_entries texts ks in
    let full : IsFull (keyed_entries texts ks) = subst (λ (n : ℕ). most_next < n) (next_same texts ks (keyed_entries texts ks) h) past in
    (sym (kept_full (keyed_entries texts ks) (Utf8 text) full), (λ ends. past_all (index_absent (keyed_entries texts ks) (Utf8 text) (λ is. lacks is)) ends full, full)) where
      lacks : Contains (keyed_entries texts ks) (Utf8 text) → ⊥
      lacks is =
          let at = subst (λ l. Contains l (pool.Utf8 text)) (sym h.constants) (in_map (constant_of (index_of (keyed_entries texts ks))) (keyed_entries texts ks) (Utf8 text) is) in
          let k = from_map (constant_of_key texts) ks (pool.Utf8 text) at in
          absent (text_key texts text k.0 (each_in (HasNumber texts) ks k.0 h.numbers k.1) k.2)

      past_all : index_of (keyed_entries texts ks) (Utf8 text) ≡ 1 + widths (keyed_entries texts ks) → EndsIn (keyed_entries texts ks) (Utf8 text) → IsFull (keyed_entries texts ks) → ⊥
      past_all index ends full = absurd (omega (arith, index, ends, full))

pub full_test : (texts : List Name) (ks : List Key) (text : Name) → AreFields texts ks → (Contains texts text → ⊥) → nat_lt most_next (next_index ks) ≡ true
    → PutsOne (keyed_entries texts ks) (Utf8 text) (keyed_entries texts ks) None
full_test texts ks text h absent test = full_text texts ks text h absent (grind (arith, test))

pub indexed_nothing : indexed [] ≡ []
unfolding indexed
indexed_nothing = refl
