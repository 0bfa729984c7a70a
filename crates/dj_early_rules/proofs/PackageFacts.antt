-- The packages of rule 4, SANDBOX_PACKAGE, of all names: the reserved ones are sandbox/, java/ and javax/ with anything after them, and no others.
use Rattle.std.proofs.Common.{◌≡◌, ℕ, ◌⊎◌, Bool, true, false, ◌&&◌, List, [], ◌∷◌, ◌++◌, nat_eq, map, replicate, refl, inl, inr, codes}
use Rattle.std.specs.Prelude.{◌||◌}
use Rattle.std.specs.List.{starts_with}
use Rattle.std.proofs.lemmas.Bool.{eqb-true, eq-eqb}
use Rattle.dj_early_rules.specs.trusted.Classes.{BeginsWith, IsReserved, IsReflective}

-- the text is the prefix and something after it, maybe nothing
abbrev GoesOn : List ℕ → List ℕ → Type 0
GoesOn prefix text = (rest : List ℕ) × (text ≡ prefix ++ rest)

both-true : (a b : Bool) → (a && b) ≡ true → (a ≡ true) × (b ≡ true)
both-true true b e = (refl, e)
both-true false b e = absurd cc

goes-on : (prefix text : List ℕ) → BeginsWith text prefix → GoesOn prefix text
goes-on [] text begins = (text, refl)
goes-on (f ∷ prefix) [] begins = absurd cc
goes-on (f ∷ prefix) (t ∷ text) begins =
    let each = both-true _ _ begins in
    let first : f ≡ t = eqb-true f t each.0 in
    let later = goes-on prefix text each.1 in
    (later.0, cc)

and-true : (a b : Bool) → a ≡ true → b ≡ true → (a && b) ≡ true
and-true true b one other = other
and-true false b one other = absurd cc

begins : (prefix rest : List ℕ) → BeginsWith (prefix ++ rest) prefix
begins [] rest = refl
begins (f ∷ prefix) rest = and-true (nat_eq f f) _ (eq-eqb f f refl) (begins prefix rest)

-- what is reserved goes on after one of the three, and whatever goes on after one of them is reserved
reserved-names : (name : List ℕ) → IsReserved name → GoesOn (codes "sandbox/") name ⊎ (GoesOn (codes "java/") name ⊎ GoesOn (codes "javax/") name)
reserved-names name (inl is) = inl (goes-on (codes "sandbox/") name is)
reserved-names name (inr (inl is)) = inr (inl (goes-on (codes "java/") name is))
reserved-names name (inr (inr is)) = inr (inr (goes-on (codes "javax/") name is))

each-reserved : (rest : List ℕ) → IsReserved (codes "sandbox/" ++ rest) × IsReserved (codes "java/" ++ rest) × IsReserved (codes "javax/" ++ rest)
each-reserved rest = (inl (begins (codes "sandbox/") rest), inr (inl (begins (codes "java/") rest)), inr (inr (begins (codes "javax/") rest)))

-- whether the text begins with one of the three
abbrev is_reserved : List ℕ → Bool
is_reserved name = starts_with nat_eq name (codes "sandbox/") || (starts_with nat_eq name (codes "java/") || starts_with nat_eq name (codes "javax/"))

-- names beside them: a letter more or less, a capital, without the slash, and further on in the name
others : map is_reserved (codes "javaz/A" ∷ codes "jav/A" ∷ codes "Java/A" ∷ codes "java" ∷ codes "javaxx/A" ∷ codes "javax" ∷ codes "sandboxx/A" ∷ codes "sandbo/A" ∷ codes "sandbox" ∷ codes "a/java/B" ∷ codes "/java/A" ∷ codes "a/sandbox/B" ∷ codes "java.A" ∷ [] ∷ [])
    ≡ replicate 14 false
others = refl

not-reserved : (name : List ℕ) → is_reserved name ≡ false → IsReserved name → ⊥
not-reserved name none is = refused (starts_with nat_eq name (codes "sandbox/")) (starts_with nat_eq name (codes "java/")) (starts_with nat_eq name (codes "javax/")) none is where
  refused : (a b c : Bool) → (a || (b || c)) ≡ false → (a ≡ true) ⊎ ((b ≡ true) ⊎ (c ≡ true)) → ⊥
  refused true b c none is = absurd cc
  refused false true c none is = absurd cc
  refused false false true none is = absurd cc
  refused false false false none (inl e) = absurd cc
  refused false false false none (inr (inl e)) = absurd cc
  refused false false false none (inr (inr e)) = absurd cc

javaz_not : IsReserved (codes "javaz/A") → ⊥
javaz_not is = not-reserved (codes "javaz/A") refl is

sandboxx_not : IsReserved (codes "sandboxx/A") → ⊥
sandboxx_not is = not-reserved (codes "sandboxx/A") refl is

-- a class of the default package
java_not : (IsReserved (codes "java") → ⊥) × (IsReserved (codes "javax") → ⊥) × (IsReserved (codes "sandbox") → ⊥)
java_not = (not-reserved (codes "java") refl, not-reserved (codes "javax") refl, not-reserved (codes "sandbox") refl)

-- ---- rule 10's packages, the same

reflective-names : (name : List ℕ) → IsReflective name
    → (name ≡ codes "java/lang/Class") ⊎ ((name ≡ codes "java/lang/ClassLoader") ⊎ (GoesOn (codes "java/lang/reflect/") name ⊎ GoesOn (codes "java/lang/invoke/") name))
reflective-names name (inl is) = inl is
reflective-names name (inr (inl is)) = inr (inl is)
reflective-names name (inr (inr (inl is))) = inr (inr (inl (goes-on (codes "java/lang/reflect/") name is)))
reflective-names name (inr (inr (inr is))) = inr (inr (inr (goes-on (codes "java/lang/invoke/") name is)))

each-reflective : (rest : List ℕ) → IsReflective (codes "java/lang/reflect/" ++ rest) × IsReflective (codes "java/lang/invoke/" ++ rest)
each-reflective rest = (inr (inr (inl (begins (codes "java/lang/reflect/") rest))), inr (inr (inr (begins (codes "java/lang/invoke/") rest))))
