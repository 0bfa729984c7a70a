-- Pairs of indexes that have the same texts.
use Rattle.std.proofs.Common.{◌≡◌, ℕ, ◌<◌, ◌↔◌, List, [], ◌∷◌, ◌++◌, ◌+◌, map, take, length, get_or, sym, ap, ◌∙◌, subst, Contains, Option, unwrap_or}
use Rattle.std.proofs.lemmas.List.{take_more, map-append}
use Rattle.dj_pool.specs.trusted.Pool.{Constant, text_at}
use Rattle.dj_report.specs.declared.report.Violation.{Violation}
use Rattle.dj_report.specs.trusted.Lines.{member_line}
use Rattle.dj_report.specs.Lines.{Adds, IsLineAmong}
use Rattle.dj_report.proofs.Adding.{contains_map, from_contains_map, adds_same}
use Rattle.dj_file_rules.specs.Lines.{IsPairLine, texts_of, turned_texts_of, HaveSameTexts}

-- both directions, one after the other
in_turn : {A B C : Type 0} → (A ↔ B) → (B ↔ C) → (A ↔ C)
in_turn first second = (λ a. second.0 (first.0 a), λ c. first.1 (second.1 c))

-- what has the same members, seen
seen_same : {X Y : Type 0} (f : X → Y) (a b : List X) → ((x : X) → Contains a x ↔ Contains b x) → (y : Y) → Contains (map f a) y ↔ Contains (map f b) y
seen_same f a b same y = (
  λ m. let seen = from_contains_map f a y m in subst (λ z. Contains (map f b) z) seen.2 (contains_map f b seen.0 ((same seen.0).0 seen.1)),
  λ m. let seen = from_contains_map f b y m in subst (λ z. Contains (map f a) z) seen.2 (contains_map f a seen.0 ((same seen.0).1 seen.1)),
)

module _ (pool : List Constant) where
  abbrev Texts : Type 0
  Texts = Option (List ℕ) × Option (List ℕ)

  -- the texts of a pair, and those of the pair turned round
  seen_turned : (a : List (ℕ × ℕ)) (t : Texts) → Contains (map (texts_of pool) a) t ↔ Contains (map (turned_texts_of pool) a) (t.1, t.0)
  seen_turned a t = (
    λ m. let seen = from_contains_map (texts_of pool) a t m in subst (λ (u : Texts). Contains (map (turned_texts_of pool) a) (u.1, u.0)) seen.2 (contains_map (turned_texts_of pool) a seen.0 seen.1),
    λ m. let seen = from_contains_map (turned_texts_of pool) a (t.1, t.0) m in subst (λ (u : Texts). Contains (map (texts_of pool) a) (u.1, u.0)) seen.2 (contains_map (texts_of pool) a seen.0 seen.1),
  )

  -- the same list of texts, seen from the other side
  turned_same : (a b : List (ℕ × ℕ)) → map (turned_texts_of pool) a ≡ map (texts_of pool) b → (t : Texts) → Contains (map (texts_of pool) a) t ↔ Contains (map (texts_of pool) b) (t.1, t.0)
  turned_same a b e t = subst (λ (texts : List Texts). Contains (map (texts_of pool) a) t ↔ Contains texts (t.1, t.0)) e (seen_turned a t)

  -- pairs that were turned round twice, and lost what repeats, have the texts that they had
  pub turned_twice : (pairs once first by_name second by_descriptor : List (ℕ × ℕ))
      → ((p : ℕ × ℕ) → Contains once p ↔ Contains pairs p) → map (turned_texts_of pool) first ≡ map (texts_of pool) once
      → ((p : ℕ × ℕ) → Contains by_name p ↔ Contains first p) → map (turned_texts_of pool) second ≡ map (texts_of pool) by_name
      → ((p : ℕ × ℕ) → Contains by_descriptor p ↔ Contains second p) → HaveSameTexts pool by_descriptor pairs
  turned_twice pairs once first by_name second by_descriptor same0 turned0 same1 turned1 same2 t =
      in_turn (seen_same (texts_of pool) by_descriptor second same2 t)
      (in_turn (turned_same second by_name turned1 t)
      (in_turn (seen_same (texts_of pool) by_name first same1 (t.1, t.0))
      (in_turn (turned_same first once turned0 (t.1, t.0))
      (seen_same (texts_of pool) once pairs same0 t))))

  -- one pair more
  pub turned_more : (pairs found : List (ℕ × ℕ)) (i : ℕ) (d : ℕ × ℕ) (index : ℕ) → i < length pairs → map (turned_texts_of pool) found ≡ map (texts_of pool) (take i pairs)
      → text_at pool index ≡ text_at pool (get_or pairs i d).0 → map (turned_texts_of pool) (found ++ ((get_or pairs i d).1, index) ∷ []) ≡ map (texts_of pool) (take (i + 1) pairs)
  turned_more pairs found i d index lt before is =
      map-append (turned_texts_of pool) found (((get_or pairs i d).1, index) ∷ [])
      ∙ (λ k. before k ++ (is k, text_at pool (get_or pairs i d).1) ∷ [])
      ∙ sym (map-append (texts_of pool) (take i pairs) (get_or pairs i d ∷ []))
      ∙ ap (map (texts_of pool)) (sym (take_more pairs i d lt))

  -- lines of pairs that have the same texts
  same_lines : (path : List ℕ) (rule : ℕ) (a b : List (ℕ × ℕ)) → ((t : Texts) → Contains (map (texts_of pool) a) t → Contains (map (texts_of pool) b) t)
      → (v : Violation) → IsLineAmong (IsPairLine path rule pool) a v → IsLineAmong (IsPairLine path rule pool) b v
  same_lines path rule a b same v (pair, m, line) =
      let seen = from_contains_map (texts_of pool) b (texts_of pool pair) (same (texts_of pool pair) (contains_map (texts_of pool) a pair m)) in
      (seen.0, seen.1, subst (λ (t : Texts). v ≡ member_line path (unwrap_or t.0 [] ++ unwrap_or t.1 []) rule) (sym seen.2) line)

  pub adds_same_texts : (path : List ℕ) (rule : ℕ) (once pairs : List (ℕ × ℕ)) (a b : List Violation) → HaveSameTexts pool once pairs
      → Adds (IsLineAmong (IsPairLine path rule pool) once) a b → Adds (IsLineAmong (IsPairLine path rule pool) pairs) a b
  adds_same_texts path rule once pairs a b same =
      adds_same (IsLineAmong (IsPairLine path rule pool) once) (IsLineAmong (IsPairLine path rule pool) pairs) a b
      (λ v. (same_lines path rule once pairs (λ t. (same t).0) v, same_lines path rule pairs once (λ t. (same t).1) v))
