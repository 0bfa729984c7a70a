-- Which classes can be loaded, and what is reported of those that can't, by plain values.
use Rattle.std.proofs.Common.{◌≡◌, ℕ, zero, suc, ◌<◌, ◌≤◌, ◌^◌, false, List, [], ◌∷◌, map, length, replicate, codes, arith, lit<, Contains, Option, Some, None, refl, sym, ap, ◌∙◌, subst, inl, inr, append-nil}
use Rattle.std.specs.List.{flat_map}
use Rattle.std.proofs.lemmas.Option.{none-some, same_Some}
use Rattle.std.proofs.lemmas.List.{length-replicate}
use Rattle.dj_names.specs.declared.descriptor.Desc.TheVariants as descs
use Rattle.dj_names.specs.trusted.Types.{Name, same_name}
use Rattle.dj_names.specs.trusted.Library.{LibraryClass, lang, final_class}
use Rattle.dj_model.specs.trusted.Types.{string_name}
use Rattle.dj_model.specs.trusted.Program.{Class, Abstract, class_at}
use Rattle.dj_model.specs.trusted.Libraries.{library_class, is_name_before}
use Rattle.dj_class_table.specs.Tables.{name_of, name_at, IsShared}
use Rattle.dj_class_table.proofs.Orders.{same_from_names, not_both}
use Rattle.dj_resolution.specs.declared.linker.BaseNames.TheVariants as bases
use Rattle.dj_loader.specs.declared.error.LoadError.TheVariants as errors
use Rattle.dj_loader.specs.Loads.{all_classes, methods_of, HasStringIn, AreFewMembers, above_names, StandsUnder, LacksAbove, StandsBelow, IsOwnAncestor, Never, IsLoadable, RefusesLoad}
use Rattle.dj_loader.proofs.Lists.{member_first, member_later, member_none, member_cases}

abbrev class : Name → Option Name → List Name → Class
class name superclass interfaces = record {
  name = name;
  flags = 0;
  superclass = superclass;
  interfaces = interfaces;
  unnamed_fields = 0;
  fields = [];
  methods = [];
}

other_name : (x y : Name) → same_name x y ≡ false → x ≡ y → ⊥
other_name x y differ e = not_both (same_name x y) (same_from_names x y e) differ

only : {A : Type 0} (x v : A) → Contains (x ∷ []) v → x ≡ v
only x v member = elim (member_cases x [] v member) [ inl e ↦ e | inr more ↦ absurd (member_none v more) ]

-- of a class that stands alone the name is that of whatever stands under another
alone : (c : Class) (name above : Name) → StandsUnder (c ∷ []) name above → (c.name ≡ name) × Contains (above_names c) above
alone c name above under =
    let is : c ≡ under.class = only c under.class under.there in
    (ap name_of is ∙ under.named, subst (λ (d : Class). Contains (above_names d) above) (sym is) under.listed)

-- ---- names

one_name : (c : Class) → Never (IsShared (c ∷ []))
one_name c name shared = by shared.first shared.other shared.apart shared.two where
  by : (first other : ℕ) → first < other → name_at (c ∷ []) other ≡ Some name → ⊥
  by first zero apart two = omega (arith, apart)
  by first (suc k) apart two = none-some name two

-- o, which names nothing above it; d under an absent superclass, e under an absent interface; and l, its own superclass
abbrev o : Class
o = class (codes "o") None []

abbrev d : Class
d = class (codes "d") (Some (codes "y")) []

abbrev e : Class
e = class (codes "e") None (codes "z" ∷ [])

abbrev l : Class
l = class (codes "l") (Some (codes "l")) []

twice : IsShared (o ∷ o ∷ []) (codes "o")
twice = record { first = 0; other = 1; apart = omega arith; one = refl; two = refl }

not_apart : IsShared (o ∷ []) (codes "o") → ⊥
not_apart shared = one_name o (codes "o") shared

-- ---- what stands above

above_reported : map above_names (o ∷ d ∷ e ∷ class (codes "x") (Some (codes "s")) (codes "i" ∷ codes "j" ∷ []) ∷ [])
    ≡ [] ∷ (codes "y" ∷ []) ∷ (codes "z" ∷ []) ∷ (codes "s" ∷ codes "i" ∷ codes "j" ∷ []) ∷ []
above_reported = refl

whole : Never (LacksAbove (o ∷ []))
whole name lacks =
    let (above, under, absent) = lacks in
    member_none above (alone o name above under).1

superclass_lacks : LacksAbove (d ∷ []) (codes "d")
superclass_lacks = (codes "y", record { class = d; there = member_first d []; named = refl; listed = member_first (codes "y") [] }, refl)

interface_lacks : LacksAbove (e ∷ []) (codes "e")
interface_lacks = (codes "z", record { class = e; there = member_first e []; named = refl; listed = member_first (codes "z") [] }, refl)

-- where what is named is there, none lacks it
there_is_none : LacksAbove (l ∷ []) (codes "l") → ⊥
there_is_none lacks =
    let (above, under, absent) = lacks in
    let is : codes "l" ≡ above = only (codes "l") above (alone l (codes "l") above under).1 in
    none-some l (sym absent ∙ ap (class_at (l ∷ [])) (sym is))

first_name : (c : Class) (n : ℕ) (from to : Name) → StandsBelow n (c ∷ []) from to → c.name ≡ from
first_name c zero from to under = (alone c from to under).0
first_name c (suc n) from to (between, under, below) = (alone c from between under).0

acyclic : (c : Class) → ((above : Name) → Contains (above_names c) above → c.name ≡ above → ⊥) → Never (IsOwnAncestor (c ∷ []))
acyclic c apart name (n, below) = by n below where
  by : (n : ℕ) → StandsBelow n (c ∷ []) name name → ⊥
  by zero under = apart name (alone c name name under).1 (alone c name name under).0
  by (suc n) (between, under, below) = apart between (alone c name between under).1 (first_name c n between name below)

own_superclass : IsOwnAncestor (l ∷ []) (codes "l")
own_superclass = (0, record { class = l; there = member_first l []; named = refl; listed = member_first (codes "l") [] })

-- ---- loading

loads : IsLoadable [] × IsLoadable (o ∷ [])
loads = (
  record { differ = λ name shared. none-some name shared.one; whole = λ name lacks. member_none lacks.1.class lacks.1.there; acyclic = none_below },
  record { differ = one_name o; whole = whole; acyclic = acyclic o (λ above listed is. member_none above listed) },
) where
  none_below : Never (IsOwnAncestor [])
  none_below name (zero, under) = member_none under.class under.there
  none_below name (suc n, (between, under, below)) = member_none under.class under.there

twice_loads_not : IsLoadable (o ∷ o ∷ []) → ⊥
twice_loads_not loads = loads.differ (codes "o") twice

lacking_loads_not : IsLoadable (d ∷ []) → ⊥
lacking_loads_not loads = loads.whole (codes "d") superclass_lacks

cycle_loads_not : IsLoadable (l ∷ []) → ⊥
cycle_loads_not loads = loads.acyclic (codes "l") own_superclass

-- ---- refusals

-- one name, whichever two have it
only_twice : (name : Name) → IsShared (o ∷ o ∷ []) name → codes "o" ≡ name
only_twice name shared = by shared.first shared.one where
  by : (k : ℕ) → name_at (o ∷ o ∷ []) k ≡ Some name → codes "o" ≡ name
  by zero at = same_Some (codes "o") name at
  by (suc zero) at = same_Some (codes "o") name at
  by (suc (suc k)) at = absurd (none-some name at)

twice_refused : RefusesLoad (o ∷ o ∷ []) (errors.Duplicate (codes "o"))
twice_refused = record { shared = twice; least = λ other shared. ap (λ (n : Name). is_name_before n (codes "o")) (sym (only_twice other shared)) }

other_twice : RefusesLoad (o ∷ o ∷ []) (errors.Duplicate (codes "x")) → ⊥
other_twice refused = other_name (codes "o") (codes "x") refl (only_twice (codes "x") refused.shared)

none_twice : (name : Name) → RefusesLoad (o ∷ []) (errors.Duplicate name) → ⊥
none_twice name refused = one_name o name refused.shared

-- what is lacking is reported only where no name is shared
only_lacks : (name : Name) → LacksAbove (d ∷ []) name → codes "d" ≡ name
only_lacks name (above, under, absent) = (alone d name above under).0

lacking_refused : RefusesLoad (d ∷ []) (errors.NoSuper (codes "d"))
lacking_refused = (
  one_name d,
  record { such = superclass_lacks; least = λ other lacks. ap (λ (n : Name). is_name_before n (codes "d")) (sym (only_lacks other lacks)) },
)

absent_not_reported : RefusesLoad (d ∷ []) (errors.NoSuper (codes "y")) → ⊥
absent_not_reported refused = other_name (codes "d") (codes "y") refl (only_lacks (codes "y") refused.1.such)

twice_before_lacking : (name : Name) → RefusesLoad (o ∷ o ∷ d ∷ []) (errors.NoSuper name) → ⊥
twice_before_lacking name refused = refused.0 (codes "o") (record { first = 0; other = 1; apart = omega arith; one = refl; two = refl })

whole_not_refused : (name : Name) → RefusesLoad (o ∷ []) (errors.NoSuper name) → ⊥
whole_not_refused name refused = whole name refused.1.such

-- and a cycle only where nothing is lacking either
only_own : (name : Name) → IsOwnAncestor (l ∷ []) name → codes "l" ≡ name
only_own name (zero, under) = (alone l name name under).0
only_own name (suc n, (between, under, below)) = (alone l name between under).0

l_is_whole : Never (LacksAbove (l ∷ []))
l_is_whole name (above, under, absent) =
    let is : codes "l" ≡ above = only (codes "l") above (alone l name above under).1 in
    none-some l (sym absent ∙ ap (class_at (l ∷ [])) (sym is))

cycle_refused : RefusesLoad (l ∷ []) (errors.Cycle (codes "l"))
cycle_refused = (
  one_name l,
  l_is_whole,
  record { such = own_superclass; least = λ other own. ap (λ (n : Name). is_name_before n (codes "l")) (sym (only_own other own)) },
)

lacking_before_cycle : (name : Name) → RefusesLoad (l ∷ d ∷ []) (errors.Cycle name) → ⊥
lacking_before_cycle name refused =
    refused.1 (codes "d") (codes "y", record { class = d; there = member_later l (d ∷ []) d (member_first d []); named = refl; listed = member_first (codes "y") [] }, refl)

no_cycle : (name : Name) → RefusesLoad (o ∷ []) (errors.Cycle name) → ⊥
no_cycle name refused = acyclic o (λ above listed is. member_none above listed) name refused.2.such

memory_refused : RefusesLoad (o ∷ []) errors.Memory
memory_refused = tt

-- ---- a library

-- the class is a library's own, and under the base of rewritten classes it has another name
abbrev string_row : LibraryClass
string_row = final_class (codes "String") [] 0 []

string_there : HasStringIn (final_class (codes "Math") [] 0 [] ∷ string_row ∷ []) bases.Plain
string_there = record { class = string_row; there = member_later (final_class (codes "Math") [] 0 []) (string_row ∷ []) string_row (member_first string_row []); named = refl }

abbrev row_name : LibraryClass → Name
row_name row = row.name

no_string : HasStringIn [] bases.Plain → ⊥
no_string has = member_none has.class has.there

other_class : HasStringIn (final_class (codes "Math") [] 0 [] ∷ []) bases.Plain → ⊥
other_class has =
    other_name (lang (codes "Math")) (string_name []) refl
    (ap row_name (only (final_class (codes "Math") [] 0 []) has.class has.there) ∙ has.named)

plain_string : HasStringIn (string_row ∷ []) bases.Sandbox → ⊥
plain_string has =
    other_name (lang (codes "String")) (codes "sandbox/java/lang/String") refl
    (ap row_name (only string_row has.class has.there) ∙ has.named)

-- without files all classes are those of the library, in its order
library_alone : (first second : LibraryClass) → all_classes (first ∷ second ∷ []) [] ≡ library_class first ∷ library_class second ∷ []
library_alone first second = refl

-- ---- how many members

few : AreFewMembers (o ∷ d ∷ [])
few = record { methods = lit< tt; fields = lit< tt }

abbrev many : ℕ → Class
many n = record o { methods = replicate n (record { flags = 1025; name = codes "m"; desc = descs.Method [] None; body = Abstract }) }

too_many : (n : ℕ) → 2 ^ 32 ≤ n → AreFewMembers (many n ∷ []) → ⊥
too_many n le few =
    let all : length (flat_map methods_of (many n ∷ [])) ≡ n =
    ap length (append-nil (many n).methods) ∙ length-replicate n (record { flags = 1025; name = codes "m"; desc = descs.Method [] None; body = Abstract }) in
    omega (arith, le, few.methods, all)

-- and each number below that is few
all_few : (n : ℕ) → n < 2 ^ 32 → AreFewMembers (many n ∷ [])
all_few n lt =
    let all : length (flat_map methods_of (many n ∷ [])) ≡ n =
    ap length (append-nil (many n).methods) ∙ length-replicate n (record { flags = 1025; name = codes "m"; desc = descs.Method [] None; body = Abstract }) in
    record { methods = omega (arith, lt, all); fields = lit< tt }
