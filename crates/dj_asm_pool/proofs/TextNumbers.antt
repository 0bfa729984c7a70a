-- The number of a text, where a search finds it.
use Rattle.std.proofs.Common.{◌≡◌, ℕ, suc, ◌+◌, inl, inr, Bool, false, cond, ◌||◌, List, [], ◌∷◌, ◌++◌, length, map, position, Contains, Option, Some, None, refl, sym, ap, ◌∙◌, subst, arith, unwrap_or, is_some, if◌then◌else◌}
use Rattle.std.specs.List.{list_any, position_from}
use Rattle.std.specs.Str.{bytes_eq}
use Rattle.std.specs.Cmp.Lexicographic.{bytes_decides}
use Rattle.std.proofs.lemmas.Bool.{cases_Bool, false≢true}
use Rattle.std.proofs.lemmas.Iterator.Adapters.{position_from-zero}
use Rattle.indexmap.specs.IndexSet.{insert_key}
use Rattle.dj_names.specs.trusted.Types.{Name}
use Rattle.dj_asm_pool.specs.Pooling.{IsFound}
use Rattle.dj_asm_pool.proofs.Members.{none_in, in_here, in_rest, in_cases}
use Rattle.dj_asm_pool.proofs.PoolingLaws.{map_seam}

pub same_length : {A B : Type 0} (f : A → B) (xs : List A) → length (map f xs) ≡ length xs
same_length f [] = refl
same_length f (x ∷ xs) = ap suc (same_length f xs)

module _ {X : Type 0} (items : X → Name) (text : Name) where
  abbrev is_text : X → Bool
  is_text x = bytes_eq text (items x)

  record From (n : ℕ) (xs : List X) (i : ℕ) : Type 0 where
    prefix : List Name
    back : List Name
    parts : map items xs ≡ prefix ++ text ∷ back
    absent : Contains prefix text → ⊥
    number_is : i ≡ n + length prefix

  unlike : (x : X) (prefix : List Name) → is_text x ≡ false → (Contains prefix text → ⊥) → Contains (items x ∷ prefix) text → ⊥
  unlike x prefix other absent h = elim (in_cases (items x) prefix text h) [
    | inl same ↦ false≢true (sym other ∙ (bytes_decides text (items x)).1 (sym same))
    | inr more ↦ absent more
  ]

  from_found : (n : ℕ) (xs : List X) (i : ℕ) → position_from is_text n xs ≡ Some i → From n xs i
  from_found n [] i e = absurd (false≢true (ap is_some e))
  from_found n (x ∷ xs) i e = elim (cases_Bool (is_text x)) [
    | inl so ↦
        let here = ap (λ (r : Option ℕ). unwrap_or r n) (sym (ap (λ b. cond b (Some n) (position_from is_text (n + 1) xs)) so) ∙ e) in
        record { prefix = []; back = map items xs; parts = ap (λ t. t ∷ map items xs) (sym ((bytes_decides text (items x)).0 so)); absent = λ h. none_in text h; number_is = omega (arith, here) }
    | inr other ↦
        let r = from_found (n + 1) xs i (sym (ap (λ b. cond b (Some n) (position_from is_text (n + 1) xs)) other) ∙ e) in
        let at = r.number_is in
        record { prefix = items x ∷ r.prefix; back = r.back; parts = ap (λ l. items x ∷ l) r.parts; absent = λ h. unlike x r.prefix other r.absent h; number_is = omega (arith, at) }
  ]

  from_missing : (n : ℕ) (xs : List X) → position_from is_text n xs ≡ None → Contains (map items xs) text → ⊥
  from_missing n [] e h = none_in text h
  from_missing n (x ∷ xs) e h = elim (cases_Bool (is_text x)) [
    | inl so ↦ false≢true (sym (ap is_some (sym (ap (λ b. cond b (Some n) (position_from is_text (n + 1) xs)) so) ∙ e)))
    | inr other ↦ unlike x (map items xs) other (from_missing (n + 1) xs (sym (ap (λ b. cond b (Some n) (position_from is_text (n + 1) xs)) other) ∙ e)) h
  ]

  none_any : (xs : List X) → (Contains (map items xs) text → ⊥) → list_any is_text xs ≡ false
  none_any [] h = refl
  none_any (x ∷ xs) h = elim (cases_Bool (is_text x)) [
    | inl so ↦ absurd (h (subst (λ t. Contains (t ∷ map items xs) text) ((bytes_decides text (items x)).0 so) (in_here text (map items xs))))
    | inr other ↦ ap (λ b. b || list_any is_text xs) other ∙ none_any xs (λ more. h (in_rest (items x) (map items xs) text more))
  ]

pub found : {X : Type 0} (xs : List X) (items : X → Name) (text : Name) (answer : Option ℕ) → answer ≡ position (λ x. bytes_eq text (items x)) xs → IsFound (map items xs) text answer
found xs items text None e = from_missing items text 0 xs (sym (position_from-zero (λ x. bytes_eq text (items x)) xs) ∙ sym e)
found xs items text (Some i) e =
    let r = from_found items text 0 xs i (sym (position_from-zero (λ x. bytes_eq text (items x)) xs) ∙ sym e) in
    let at = r.number_is in
    record { prefix = r.prefix; back = r.back; parts = r.parts; absent = r.absent; number_is = omega (arith, at) }

-- a new text is put last
pub put_text : {X : Type 0} (xs : List X) (items : X → Name) (x : X) (text : Name) → items x ≡ text → (Contains (map items xs) text → ⊥)
    → map items (insert_key (λ a b. bytes_eq (items a) (items b)) xs x) ≡ map items xs ++ text ∷ []
put_text xs items x text is absent =
    ap (λ b. map items (if b then xs else xs ++ x ∷ [])) (ap (λ t. list_any (λ y. bytes_eq t (items y)) xs) is ∙ none_any items text xs absent)
    ∙ (map_seam items xs [] x ∙ ap (λ t. map items xs ++ t ∷ []) is)
