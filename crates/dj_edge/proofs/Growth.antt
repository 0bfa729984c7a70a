-- Counts that rise, and lists that grow by a prefix of a list.
use Rattle.std.proofs.Common.{◌≡◌, ℕ, ◌+◌, ◌-◌, ◌<◌, ◌≤◌, List, [], ◌∷◌, ◌++◌, length, take, drop, get_or, Option, refl, sym, ap, ◌∙◌, append_assoc, append-nil, take-append-drop, arith}
use Rattle.std.proofs.lemmas.List.{take_more, take_rest}
use Rattle.std.specs.Io.KnownBytes.{Appends}
use Rattle.std.proofs.KnownBytes.{Appends-trans}
use Rattle.dj_edge.specs.trusted.Counts.{Rose, IsPrefix, GrowsByPrefix}

pub Rose-after_le : (before mid now : ℕ) → before ≤ mid → Rose mid now → Rose before now
Rose-after_le before mid now below rose = (omega arith, omega arith)

pub Rose-then_le : (before mid now : ℕ) → Rose before mid → mid ≤ now → Rose before now
Rose-then_le before mid now rose above = (omega arith, omega arith)

pub le_from_rose : (before now : ℕ) → Rose before now → before ≤ now
le_from_rose before now rose = rose.0

module _ {A : Type 0} where
  pub IsPrefix-nil : (all : List A) → IsPrefix [] all
  IsPrefix-nil all = (all, refl)

  pub IsPrefix-whole : (all : List A) → IsPrefix all all
  IsPrefix-whole all = ([], sym (append-nil all))

  pub IsPrefix-take : (n : ℕ) (all : List A) → IsPrefix (take n all) all
  IsPrefix-take n all = (drop n all, sym (take-append-drop n all))

  pub IsPrefix-append : (xs ys : List A) → IsPrefix xs (xs ++ ys)
  IsPrefix-append xs ys = (ys, refl)

  -- a prefix of what comes after a prefix
  pub IsPrefix-after : (xs ys zs : List A) → IsPrefix ys zs → IsPrefix (xs ++ ys) (xs ++ zs)
  IsPrefix-after xs ys zs prefix = (prefix.0, ap (λ l. xs ++ l) prefix.1 ∙ sym (append_assoc xs ys prefix.0))

  pub IsPrefix-trans : (xs ys zs : List A) → IsPrefix xs ys → IsPrefix ys zs → IsPrefix xs zs
  IsPrefix-trans xs ys zs first second =
      (first.0 ++ second.0, second.1 ∙ ap (λ l. l ++ second.0) first.1 ∙ append_assoc xs first.0 second.0)

  -- a prefix is extended by the next element
  pub IsPrefix-more : (all : List A) (i : ℕ) (d : A) → i < length all → IsPrefix (take i all ++ get_or all i d ∷ []) all
  IsPrefix-more all i d within = (drop (i + 1) all, sym (take-append-drop (i + 1) all) ∙ ap (λ l. l ++ drop (i + 1) all) (take_more all i d within))

  pub GrowsByPrefix-nil : (old all : List A) → GrowsByPrefix old old all
  GrowsByPrefix-nil old all = ([], IsPrefix-nil all, sym (append-nil old))

  pub GrowsByPrefix-whole : (old new all : List A) → new ≡ old ++ all → GrowsByPrefix old new all
  GrowsByPrefix-whole old new all is = (all, IsPrefix-whole all, is)

  pub GrowsByPrefix-take : (old new all : List A) (n : ℕ) → new ≡ old ++ take n all → GrowsByPrefix old new all
  GrowsByPrefix-take old new all n is = (take n all, IsPrefix-take n all, is)

  -- a prefix of a prefix is a prefix
  pub GrowsByPrefix-within : (old new part all : List A) → GrowsByPrefix old new part → IsPrefix part all → GrowsByPrefix old new all
  GrowsByPrefix-within old new part all grows prefix = (grows.0, IsPrefix-trans grows.0 part all grows.1 prefix, grows.2)

  -- all of the first list, and then a prefix of the second
  pub GrowsByPrefix-after : (old mid new first second : List A) → mid ≡ old ++ first → GrowsByPrefix mid new second → GrowsByPrefix old new (first ++ second)
  GrowsByPrefix-after old mid new first second is grows =
      (first ++ grows.0, IsPrefix-after first grows.0 second grows.1, grows.2 ∙ ap (λ l. l ++ grows.0) is ∙ append_assoc old first grows.0)

  -- one step of a walk: the list has grown by the first i, and grows by the element at i
  pub grown_more : (old mid new all : List A) (i : ℕ) (d : A) → i < length all → mid ≡ old ++ take i all → new ≡ mid ++ get_or all i d ∷ []
      → new ≡ old ++ take (i + 1) all
  grown_more old mid new all i d within before step =
      step ∙ ap (λ l. l ++ get_or all i d ∷ []) before ∙ append_assoc old (take i all) (get_or all i d ∷ []) ∙ ap (λ l. old ++ l) (sym (take_more all i d within))

-- what was written, what one more write took, and what is left of it
pub wrote_more : (a b c : Option (List ℕ)) (all done rest : List ℕ) (n : ℕ) → all ≡ done ++ rest → Appends a b done → Appends b c (take n rest)
    → (prefix : List ℕ) × (all ≡ prefix ++ take (length rest - n) (drop n rest)) × Appends a c prefix
wrote_more a b c all done rest n split before step = (
  done ++ take n rest,
  split ∙ ap (λ l. done ++ l) (sym (take-append-drop n rest)) ∙ sym (append_assoc done (take n rest) (drop n rest))
      ∙ ap (λ l. (done ++ take n rest) ++ l) (sym (take_rest rest n)),
  Appends-trans a b c done (take n rest) before step,
)
