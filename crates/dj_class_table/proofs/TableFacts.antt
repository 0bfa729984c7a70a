-- Rows of the definitions, by plain values.
use Rattle.std.proofs.Common.{◌≡◌, ℕ, zero, suc, ◌<◌, true, false, List, [], ◌∷◌, map, codes, refl, arith, Option, Some, None}
use Rattle.dj_names.specs.trusted.Types.{Name, same_name}
use Rattle.dj_model.specs.trusted.Program.{Program, Class}
use Rattle.dj_model.specs.trusted.Libraries.{is_name_before, joined}
use Rattle.dj_model.specs.Sound.{names_rise}
use Rattle.dj_class_table.specs.Tables.{class_number, name_at, super_number, interface_numbers, IsShared, IsLeastShared}
use Rattle.std.specs.List.Sorted.{IsSorted}
use Rattle.dj_class_table.specs.ClassRows.{class_cmp}
use Rattle.dj_class_table.proofs.Orders.{same_from_names, not_both}
use Rattle.dj_class_table.proofs.Shared.{some_name, first_is_least}

class : List ℕ → Option Name → List Name → Class
class name superclass interfaces = record {
  name = name;
  flags = 0;
  superclass = superclass;
  interfaces = interfaces;
  unnamed_fields = 0;
  fields = [];
  methods = [];
}

a : Class
unfolding class
a = class (codes "a") (Some (codes "c")) (codes "b" ∷ codes "z" ∷ codes "c" ∷ codes "b" ∷ [])

b : Class
unfolding class
b = class (codes "b") (Some (codes "z")) []

c : Class
unfolding class
c = class (codes "c") None (codes "a" ∷ [])

three : Program
unfolding a b c class
three = a ∷ b ∷ c ∷ []

-- ---- numbers of classes

numbers_of_names : map (class_number three) (codes "a" ∷ codes "b" ∷ codes "c" ∷ codes "" ∷ codes "ab" ∷ codes "d" ∷ []) ≡ Some 0 ∷ Some 1 ∷ Some 2 ∷ None ∷ None ∷ None ∷ []
unfolding three a b c class
numbers_of_names = refl

-- of two of one name the first
first_of_two : class_number (b ∷ a ∷ a ∷ []) (codes "a") ≡ Some 1
unfolding a b class
first_of_two = refl

names_of_numbers : map (name_at three) (0 ∷ 2 ∷ 3 ∷ []) ≡ Some (codes "a") ∷ Some (codes "c") ∷ None ∷ []
unfolding three a b c class
names_of_numbers = refl

-- a superclass that is there, one that isn't, none, and no class
superclasses : map (super_number three) (0 ∷ 1 ∷ 2 ∷ 3 ∷ []) ≡ Some 2 ∷ None ∷ None ∷ None ∷ []
unfolding three a b c class
superclasses = refl

-- as they are listed, one as often as it is, and without those that aren't there
interfaces : map (interface_numbers three) (0 ∷ 1 ∷ 2 ∷ 3 ∷ []) ≡ (1 ∷ 2 ∷ 1 ∷ []) ∷ [] ∷ (0 ∷ []) ∷ [] ∷ []
unfolding three a b c class
interfaces = refl

-- ---- the order of names

-- bytes count from 0 to 255, and a name is before those that it begins
before : is_name_before (codes "a") (codes "b") ≡ true
before = refl

not_before_itself : is_name_before (codes "a") (codes "a") ≡ false
not_before_itself = refl

before_longer : is_name_before (codes "a") (codes "a/b") ≡ true
before_longer = refl

shorter_after : is_name_before (codes "b") (codes "a/b") ≡ false
shorter_after = refl

high_bytes_last : is_name_before (codes "z") (195 ∷ 169 ∷ []) ≡ true
high_bytes_last = refl

in_order : joined (c ∷ a ∷ b ∷ []) [] ≡ three
unfolding three a b c class
in_order = refl

into_others : joined (b ∷ []) (joined (c ∷ a ∷ []) []) ≡ three
unfolding three a b c class
into_others = refl

rising : names_rise three ≡ true
unfolding three a b c class
rising = refl

not_rising : names_rise (a ∷ a ∷ []) ≡ false
unfolding a class
not_rising = refl

-- ---- names that classes share

shared_apart : IsShared (b ∷ a ∷ c ∷ a ∷ b ∷ []) (codes "b")
unfolding a b c class
shared_apart = record { first = 0; other = 4; apart = omega arith; one = refl; two = refl }

-- one class shares its name with no other
none_shared : IsShared (a ∷ []) (codes "a") → ⊥
unfolding a class
none_shared shared = by shared.first shared.other shared.apart shared.two where
  by : (first other : ℕ) → first < other → name_at (a ∷ []) other ≡ Some (codes "a") → ⊥
  by first zero lt e = omega arith
  by first (suc k) lt e = absurd cc

other_name : (x y : Name) → same_name x y ≡ false → Some x ≡ Some y → ⊥
other_name x y differ e = not_both (same_name x y) (same_from_names x y (some_name x y e)) differ

-- the name of one class only isn't shared, whatever others share
not_shared : IsShared (a ∷ c ∷ a ∷ []) (codes "c") → ⊥
unfolding a c class
not_shared shared = by shared.first shared.other shared.apart shared.one shared.two where
  by : (first other : ℕ) → first < other → name_at (a ∷ c ∷ a ∷ []) first ≡ Some (codes "c") → name_at (a ∷ c ∷ a ∷ []) other ≡ Some (codes "c") → ⊥
  by zero other lt e f = other_name (codes "a") (codes "c") refl e
  by (suc first) zero lt e f = omega arith
  by (suc first) (suc zero) lt e f = omega arith
  by (suc first) (suc (suc zero)) lt e f = other_name (codes "a") (codes "c") refl f
  by (suc first) (suc (suc (suc k))) lt e f = absurd cc

-- of two shared names the lesser is the least
least : IsLeastShared (a ∷ a ∷ b ∷ b ∷ []) (codes "a")
unfolding a b class
least = first_is_least (a ∷ a ∷ b ∷ b ∷ []) sorted a 0 (λ k d lt. absurd (omega arith)) (omega arith) refl where
  sorted : IsSorted class_cmp (a ∷ a ∷ b ∷ b ∷ [])
  sorted zero d low lt = refl
  sorted (suc zero) d low lt = refl
  sorted (suc (suc zero)) d low lt = refl
  sorted (suc (suc (suc k))) d low lt = absurd (omega arith)

-- and the greater isn't
not_least : IsLeastShared (b ∷ a ∷ c ∷ a ∷ b ∷ []) (codes "b") → ⊥
unfolding a b c class
not_least least =
    let no : true ≡ false = least.least (codes "a") (record { first = 1; other = 3; apart = omega arith; one = refl; two = refl }) in
    absurd cc
