-- Rows of the definitions, by plain values.
use Rattle.std.proofs.Common.{◌≡◌, ℕ, zero, suc, true, false, List, [], ◌∷◌, codes, Contains, Option, Some, None, refl, sym, ap, ◌∙◌, subst, inl, inr}
use Rattle.dj_names.specs.trusted.Types.{Name, same_name}
use Rattle.dj_model.specs.trusted.Program.{Class}
use Rattle.dj_model.specs.trusted.Libraries.{is_name_before}
use Rattle.dj_class_table.specs.Tables.{name_of}
use Rattle.dj_class_table.proofs.Orders.{same_from_names, not_both}
use Rattle.dj_loader.specs.Loads.{above_names, StandsUnder, LacksAbove, StandsBelow, IsOwnAncestor, IsLeast}
use Rattle.dj_loader.proofs.Lists.{member_first, member_later, member_none, member_cases}

class : List ℕ → Option Name → List Name → Class
class name superclass interfaces = record {
  name = name;
  flags = 0;
  superclass = superclass;
  interfaces = interfaces;
  unnamed_fields = 0;
  fields = [];
  methods = [];
}

under : (classes : List Class) (c : Class) (above : Name) → Contains classes c → Contains (above_names c) above → StandsUnder classes c.name above
under classes c above there listed = record { class = c; there = there; named = refl; listed = listed }

other_name : (x y : Name) → same_name x y ≡ false → x ≡ y → ⊥
other_name x y differ e = not_both (same_name x y) (same_from_names x y e) differ

-- ---- cycles

-- an interface, its superclass a class that lists it
a : Class
unfolding class
a = class (codes "a") None (codes "o" ∷ codes "b" ∷ [])

b : Class
unfolding class
b = class (codes "b") (Some (codes "a")) []

-- it stands above the cycle
o : Class
unfolding class
o = class (codes "o") None []

-- and this one below
u : Class
unfolding class
u = class (codes "u") (Some (codes "a")) []

four : List Class
four = a ∷ b ∷ o ∷ u ∷ []

a_there : Contains four a
unfolding four
a_there = member_first a (b ∷ o ∷ u ∷ [])

b_there : Contains four b
unfolding four
b_there = member_later a (b ∷ o ∷ u ∷ []) b (member_first b (o ∷ u ∷ []))

a_under : StandsUnder four (codes "a") (codes "b")
unfolding a class
a_under = under four a (codes "b") a_there (member_later (codes "o") (codes "b" ∷ []) (codes "b") (member_first (codes "b") []))

b_under : StandsUnder four (codes "b") (codes "a")
unfolding b class
b_under = under four b (codes "a") b_there (member_first (codes "a") [])

through_interface : IsOwnAncestor four (codes "a")
through_interface = (1, (codes "b", a_under, b_under))

from_interface : IsOwnAncestor four (codes "b")
from_interface = (1, (codes "a", b_under, a_under))

one_of_four : (c : Class) (P : Class → Type 0) → P a → P b → P o → P u → Contains four c → P c
unfolding four
one_of_four c P p q r s m =
    elim (member_cases a (b ∷ o ∷ u ∷ []) c m) [
      | inl e ↦ subst P e p
      | inr m ↦ elim (member_cases b (o ∷ u ∷ []) c m) [
        | inl e ↦ subst P e q
        | inr m ↦ elim (member_cases o (u ∷ []) c m) [
          | inl e ↦ subst P e r
          | inr m ↦ elim (member_cases u [] c m) [ inl e ↦ subst P e s | inr m ↦ absurd (member_none c m) ]
        ]
      ]
    ]

-- a class that only stands above one is on none
none_above_o : (above : Name) → StandsUnder four (codes "o") above → ⊥
unfolding a b o u class
none_above_o above under =
    one_of_four under.class (λ c. c.name ≡ codes "o" → Contains (above_names c) above → ⊥)
    (λ e m. other_name (codes "a") (codes "o") refl e)
    (λ e m. other_name (codes "b") (codes "o") refl e)
    (λ e m. member_none above m)
    (λ e m. other_name (codes "u") (codes "o") refl e)
    under.there under.named under.listed

above_is_none : IsOwnAncestor four (codes "o") → ⊥
above_is_none (n, below) = by n below where
  by : (n : ℕ) → StandsBelow n four (codes "o") (codes "o") → ⊥
  by zero under = none_above_o (codes "o") under
  by (suc n) (between, under, below) = none_above_o between under

-- nor is one that only stands below
none_under_u : (name : Name) → StandsUnder four name (codes "u") → ⊥
unfolding a b o u class
none_under_u name under =
    one_of_four under.class (λ c. Contains (above_names c) (codes "u") → ⊥)
    (λ m. elim (member_cases (codes "o") (codes "b" ∷ []) (codes "u") m) [
      | inl e ↦ other_name (codes "o") (codes "u") refl e
      | inr later ↦ elim (member_cases (codes "b") [] (codes "u") later) [ inl e ↦ other_name (codes "b") (codes "u") refl e | inr none ↦ member_none (codes "u") none ]
    ])
    (λ m. elim (member_cases (codes "a") [] (codes "u") m) [ inl e ↦ other_name (codes "a") (codes "u") refl e | inr none ↦ member_none (codes "u") none ])
    (λ m. member_none (codes "u") m)
    (λ m. elim (member_cases (codes "a") [] (codes "u") m) [ inl e ↦ other_name (codes "a") (codes "u") refl e | inr none ↦ member_none (codes "u") none ])
    under.there under.listed

below_is_none : IsOwnAncestor four (codes "u") → ⊥
below_is_none (n, below) = by n (codes "u") below where
  by : (n : ℕ) (name : Name) → StandsBelow n four name (codes "u") → ⊥
  by zero name under = none_under_u name under
  by (suc n) name (between, under, below) = by n between below

-- ---- absent ones

-- an interface and a superclass that aren't there
c : Class
unfolding class
c = class (codes "c") None (codes "z" ∷ [])

d : Class
unfolding class
d = class (codes "d") (Some (codes "y")) []

two : List Class
two = d ∷ c ∷ []

absent_interface : LacksAbove two (codes "c")
unfolding two c d class
absent_interface = (codes "z", under (d ∷ c ∷ []) c (codes "z") (member_later d (c ∷ []) c (member_first c [])) (member_first (codes "z") []), refl)

absent_superclass : LacksAbove two (codes "d")
unfolding two c d class
absent_superclass = (codes "y", under (d ∷ c ∷ []) d (codes "y") (member_first d (c ∷ [])) (member_first (codes "y") []), refl)

-- of the two the least is reported
least_of_two : IsLeast (LacksAbove two) (codes "c")
unfolding two c d class
least_of_two = record {
  such = absent_interface;
  least = λ other lacks.
      let (above, under, none) = lacks in
      elim (member_cases d (c ∷ []) under.class under.there) [
        | inl e ↦ ap (λ (n : Name). is_name_before n (codes "c")) (sym (ap name_of e ∙ under.named))
        | inr later ↦ elim (member_cases c [] under.class later) [
          | inl e ↦ ap (λ (n : Name). is_name_before n (codes "c")) (sym (ap name_of e ∙ under.named))
          | inr none ↦ absurd (member_none under.class none)
        ]
      ];
}

-- and not the other
not_greater : IsLeast (LacksAbove two) (codes "d") → ⊥
not_greater least =
    let no : true ≡ false = least.least (codes "c") absent_interface in
    absurd cc
