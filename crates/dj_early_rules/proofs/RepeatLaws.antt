-- Members that have the same names.
use Rattle.std.proofs.Common.{◌≡◌, ℕ, ◌+◌, ◌<◌, ◌≤◌, ◌⊎◌, ◌↔◌, Bool, true, false, not, cond, List, [], map, length, get_or, Some, refl, sym, ap, ◌∙◌, subst, inl, inr, arith, IsTrue, Contains, slice_get, Ordering}
use Rattle.std.specs.declared.cmp.Ordering.TheVariants.{Less, Equal, Greater}
use Rattle.std.specs.List.{AllByRecursion, list_any}
use Rattle.std.specs.BTreeMap.{is_at}
use Rattle.std.specs.Ordering.{nat_cmp, is_eq, ordering_then}
use Rattle.std.specs.BTreeSet.{BTreeSet, contains}
use Rattle.std.proofs.lemmas.Bool.{cases_eq}
use Rattle.std.proofs.lemmas.Cmp.{nat_cmp_total, tied_itself}
use Rattle.std.proofs.lemmas.List.{length-map}
use Rattle.std.proofs.lemmas.List.Elements.{All-from_recursion}
use Rattle.std.proofs.lemmas.Option.{slice_get_within, slice_get-get_or, get_or_from_slice_get}
use Rattle.std.proofs.lemmas.Map.Lookups.{exact_pairs, exact_unsigned}
use Rattle.dj_pool.specs.trusted.Pool.{Constant, text_at}
use Rattle.dj_class.specs.declared.class.MemberView.{MemberView}
use Rattle.dj_class.specs.trusted.ClassFile.{MemberInfo, ClassFile, IsMember}
use Rattle.dj_labels.proofs.Lists.{contains_at}
use Rattle.dj_class.specs.Members.{member_of}
use Rattle.dj_early_rules.specs.declared.judged.JudgedText.{JudgedText}
use Rattle.dj_early_rules.specs.Judged.{AreTexts, AreNumbered, IsMemberOf}
use Rattle.dj_early_rules.specs.Marks.{names_in}
use Rattle.dj_early_rules.specs.trusted.Heads.{AreRepeated}
use Rattle.dj_early_rules.specs.Gathered.{names_of, HasAgain}
use Rattle.dj_early_rules.specs.Doubles.{IsBelow}
use Rattle.dj_early_rules.proofs.FileLaws.{first_text}
use Rattle.dj_early_rules.proofs.DoubleLaws.{none_below, more_below, from_some, from_slice_get_map, to_slice_get_map}

abbrev pub Pair : Type 0
Pair = ℕ × ℕ

-- ---- pairs in a set

abbrev pub pair_order : Pair → Pair → Ordering
pair_order p q = ordering_then (nat_cmp p.0 q.0) (nat_cmp p.1 q.1)

abbrev pub IsSeen : BTreeSet Pair → Pair → Type 0
IsSeen seen pair = contains pair_order seen pair ≡ true

by_order : (p q : Pair) (r : Ordering) → pair_order p q ≡ r → is_eq r ≡ true → p ≡ q
by_order p q Less e t = absurd cc
by_order p q Equal e t = exact_pairs nat_cmp nat_cmp exact_unsigned exact_unsigned p q e
by_order p q Greater e t = absurd cc

same_pair : (p q : Pair) → is_eq (pair_order p q) ≡ true → p ≡ q
same_pair p q t = by_order p q (pair_order p q) refl t

tied : (p : Pair) → is_eq (pair_order p p) ≡ true
tied p =
    let e : pair_order p p ≡ Equal = λ i. ordering_then (tied_itself nat_cmp_total p.0 i) (tied_itself nat_cmp_total p.1 i) in
    ap is_eq e

own_pair : (p q : Pair) → q ≡ p → is_eq (pair_order p q) ≡ true
own_pair p q same = subst (λ (x : Pair). is_eq (pair_order p x) ≡ true) (sym same) (tied p)

from_more : (b c : Bool) → cond b true c ≡ true → (c ≡ true) ⊎ (b ≡ true)
from_more true c e = inr refl
from_more false c e = inl e

more_old : (b c : Bool) → c ≡ true → cond b true c ≡ true
more_old true c e = refl
more_old false c e = e

more_new : (b c : Bool) → b ≡ true → cond b true c ≡ true
more_new true c e = refl
more_new false c e = absurd cc

-- ---- pairs so far

abbrev pub IsPairAt : List Pair → Pair → ℕ → Type 0
IsPairAt names pair place = slice_get names place ≡ Some pair

-- the pairs of the first n members are in the set, and no two of them are the same
pub record AreSeen (count : ℕ) (names : List Pair) (seen : BTreeSet Pair) : Type 0 where
  pub all : (pair : Pair) → IsSeen seen pair ↔ IsBelow count (IsPairAt names pair)
  pub apart : (again : HasAgain names) → again.other < count → ⊥

not_true : (b : Bool) → b ≡ false → b ≡ true → ⊥
not_true true f t = absurd cc
not_true false f t = absurd cc

pub none_seen : (names : List Pair) (seen : BTreeSet Pair) → seen.keys ≡ [] → AreSeen 0 names seen
none_seen names seen empty =
    let none : (pair : Pair) → contains pair_order seen pair ≡ false = λ pair. ap (λ (ks : List Pair). list_any (is_at (pair_order pair)) ks) empty in
    record {
      all = λ pair. ((λ t. absurd (not_true (contains pair_order seen pair) (none pair) t)), (λ any. absurd (none_below (IsPairAt names pair) any)));
      apart = λ again lt. absurd (omega (arith, lt));
    }

some_pair : (p q : Pair) → Some p ≡ Some q → p ≡ q
some_pair p q e = cc

was_new : (there new : Bool) → new ≡ not there → new ≡ true → there ≡ true → ⊥
was_new true new e f t = let g : false ≡ true = sym e ∙ f in absurd cc
was_new false new e f t = absurd cc

pub one_more_seen : (names : List Pair) (i : ℕ) (pair : Pair) (new : Bool) (old more : BTreeSet Pair) → slice_get names i ≡ Some pair → new ≡ not (contains pair_order old pair) → new ≡ true
    → ((q : Pair) → contains pair_order more q ≡ cond (is_eq (pair_order pair q)) true (contains pair_order old q)) → AreSeen i names old → AreSeen (i + 1) names more
one_more_seen names i pair new old more at added is updates before = record {
  all = λ q.
      let below = more_below (IsPairAt names q) i in (
        λ t. below.1 (elim (from_more (is_eq (pair_order pair q)) (contains pair_order old q) (sym (updates q) ∙ t)) [
          | inl was ↦ inl ((before.all q).0 was)
          | inr same ↦ inr (at ∙ ap Some (same_pair pair q same))
        ]),
        λ any. updates q ∙ elim (below.0 any) [
          | inl was ↦ more_old (is_eq (pair_order pair q)) (contains pair_order old q) ((before.all q).1 was)
          | inr here ↦ more_new (is_eq (pair_order pair q)) (contains pair_order old q) (own_pair pair q (some_pair q pair (sym here ∙ at)))
        ],
      );
  apart = λ again lt. elim (cases_eq again.other i) [
    | inl same ↦
        let there : slice_get names i ≡ Some again.pair = subst (λ (k : ℕ). slice_get names k ≡ Some again.pair) same again.there in
        let here : slice_get names again.first ≡ Some pair = again.here ∙ sym there ∙ at in
        was_new (contains pair_order old pair) new added is ((before.all pair).1 (again.first, (let l = again.apart in omega (arith, l, same)), here))
    | inr earlier ↦ before.apart again (omega (arith, lt, earlier))
  ];
}

was_seen : (there new : Bool) → new ≡ not there → new ≡ false → there ≡ true
was_seen true new e f = refl
was_seen false new e f = let g : true ≡ false = sym e ∙ f in absurd cc

pub seen_again : (names : List Pair) (i : ℕ) (pair : Pair) (new : Bool) (seen : BTreeSet Pair) → slice_get names i ≡ Some pair → new ≡ not (contains pair_order seen pair) → new ≡ false → AreSeen i names seen → HasAgain names
seen_again names i pair new seen at added is before =
    let below = (before.all pair).0 (was_seen (contains pair_order seen pair) new added is) in
    record { first = below.0; other = i; apart = below.1; pair = pair; here = below.2; there = at }

pub none_again : (names : List Pair) (i : ℕ) (seen : BTreeSet Pair) → length names ≤ i → AreSeen i names seen → HasAgain names → ⊥
none_again names i seen past are again =
    let lt = slice_get_within names again.other again.pair again.there in
    are.apart again (omega (arith, past, lt))

-- the names of the member that a loop meets
pub names_at : (texts : List JudgedText) (views : List MemberView) (i : ℕ) (item : MemberView) (names : Pair) → i < length views → item ≡ get_or views i item → names ≡ names_in texts (member_of item)
    → slice_get (names_of texts (map member_of views)) i ≡ Some names
names_at texts views i item names lt is reported =
    to_slice_get_map (names_in texts) (map member_of views) i (member_of item) (to_slice_get_map member_of views i item (slice_get-get_or views i item lt ∙ ap Some (sym is))) ∙ ap Some (sym reported)

pub names_length : (texts : List JudgedText) (views : List MemberView) → length (names_of texts (map member_of views)) ≡ length views
names_length texts views = simp length-map

-- ---- names and texts

-- there are texts at the names of the member
record IsNamed (pool : List Constant) (m : MemberInfo) : Type 0 where
  name : List ℕ
  name_is : text_at pool m.name ≡ Some name
  desc : List ℕ
  desc_is : text_at pool m.desc ≡ Some desc

named_member : (N D : List ℕ → Type 0) (pool : List Constant) (m : MemberInfo) → IsMember N D pool m → IsNamed pool m
named_member N D pool m is =
    let name = from_some N (text_at pool m.name) is.name in
    let desc = from_some D (text_at pool m.desc) is.desc in
    record { name = name.0; name_is = name.1; desc = desc.0; desc_is = desc.1 }

members_named : (N D : List ℕ → Type 0) (pool : List Constant) (members : List MemberInfo) → AllByRecursion (IsMember N D pool) members → (k : ℕ) (m : MemberInfo) → slice_get members k ≡ Some m → IsNamed pool m
members_named N D pool members all k m at =
    named_member N D pool m (subst (λ (x : MemberInfo). IsMember N D pool x) (get_or_from_slice_get members k m m at) (All-from_recursion (IsMember N D pool) members all k m (slice_get_within members k m at)))

from_again : (pool : List Constant) (texts : List JudgedText) (members : List MemberInfo) → AreTexts pool texts → HasAgain (names_of texts members) → AreRepeated pool members
from_again pool texts members are again =
    let one = from_slice_get_map (names_in texts) members again.first again.pair again.here in
    let two = from_slice_get_map (names_in texts) members again.other again.pair again.there in
    let same : names_in texts one.0 ≡ names_in texts two.0 = one.2 ∙ sym two.2 in
    record {
      first = again.first;
      other = again.other;
      apart = again.apart;
      one = one.0;
      one_is = one.1;
      two = two.0;
      two_is = two.1;
      name = sym (first_text pool texts one.0.name are) ∙ ap (λ (p : Pair). text_at pool p.0) same ∙ first_text pool texts two.0.name are;
      desc = sym (first_text pool texts one.0.desc are) ∙ ap (λ (p : Pair). text_at pool p.1) same ∙ first_text pool texts two.0.desc are;
    }

to_again : (c : ClassFile) (texts : List JudgedText) (members : List MemberInfo) → AreNumbered c texts → ((m : MemberInfo) → Contains members m → IsMemberOf c m) → ((k : ℕ) (m : MemberInfo) → slice_get members k ≡ Some m → IsNamed c.pool m) → AreRepeated c.pool members → HasAgain (names_of texts members)
to_again c texts members are member named is =
    let own = named is.first is.one is.one_is in
    let one = member is.one (contains_at is.first members is.one is.one_is) in
    let two = member is.two (contains_at is.other members is.two is.two_is) in
    let name = are.name is.one own.name one own.name_is ∙ sym (are.name is.two own.name two (sym is.name ∙ own.name_is)) in
    let desc = are.desc is.one own.desc one own.desc_is ∙ sym (are.desc is.two own.desc two (sym is.desc ∙ own.desc_is)) in
    let same : names_in texts is.two ≡ names_in texts is.one = λ i. (sym name i, sym desc i) in
    record {
      first = is.first;
      other = is.other;
      apart = is.apart;
      pair = names_in texts is.one;
      here = to_slice_get_map (names_in texts) members is.first is.one is.one_is;
      there = to_slice_get_map (names_in texts) members is.other is.two is.two_is ∙ ap Some same;
    }

pub again_repeated : (N D : List ℕ → Type 0) (c : ClassFile) (texts : List JudgedText) (members : List MemberInfo) (b : Bool) → AreTexts c.pool texts → AreNumbered c texts → ((m : MemberInfo) → Contains members m → IsMemberOf c m)
    → AllByRecursion (IsMember N D c.pool) members → (IsTrue b ↔ HasAgain (names_of texts members)) → IsTrue b ↔ AreRepeated c.pool members
again_repeated N D c texts members b are numbered member all reported = (
  λ t. from_again c.pool texts members are (reported.0 t),
  λ is. reported.1 (to_again c texts members numbered member (members_named N D c.pool members all) is),
)

-- ---- two fields or two methods

pub first_repeats : (A B : Type 0) (a : Bool) → (IsTrue a ↔ A) → a ≡ true → IsTrue true ↔ (A ⊎ B)
first_repeats A B a first is = ((λ t. inl (first.0 is)), (λ any. refl))

pub other_repeats : (A B : Type 0) (a b : Bool) → (IsTrue a ↔ A) → a ≡ false → (IsTrue b ↔ B) → IsTrue b ↔ (A ⊎ B)
other_repeats A B a b first is second = (
  λ t. inr (second.0 t),
  λ any. elim any [ inl x ↦ absurd (not_true a is (first.1 x)) | inr y ↦ second.1 y ],
)
