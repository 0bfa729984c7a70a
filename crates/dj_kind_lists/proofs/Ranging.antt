-- Ranges of states, and what frames ask of them.
use Rattle.std.proofs.Common.{◌≡◌, ℕ, zero, suc, ◌+◌, ◌-◌, ◌<◌, ◌≤◌, ◌⊎◌, ◌^◌, Bool, true, false, List, [], ◌∷◌, ◌++◌, length, map, get_or, All, is_some, not, Option, Some, None, refl, sym, ap, subst, ◌∙◌, inl, inr, arith}
use Rattle.std.specs.Prelude.{MatchOption}
use Rattle.std.proofs.lemmas.List.Elements.{All-nil, All-cons, All-head, All-tail, All-push}
use Rattle.dj_names.specs.declared.descriptor.Kind.{Kind}
use Rattle.dj_kind_trees.specs.Nodes.{size_of}
use Rattle.dj_kind_trees.specs.Forests.{Forest, KeepsTrees, FlowsInto, kind_in}
use Rattle.dj_kind_trees.proofs.Halves.{size_more, size_low}
use Rattle.dj_kind_lists.specs.declared.ranges.KindRange.{KindRange}
use Rattle.dj_kind_lists.specs.Blocks.{state_at, AreStates, IsInside, HasAll}
use Rattle.dj_kind_lists.specs.Ranges.{RangeFlows, RangesFlow, AllInside, AreLeft, IsFirstIn, IsFirstBelow}
use Rattle.dj_kind_lists.specs.Lists.{HoldsIn, AllFlow, IsFirstLack, kinds_of, AreLists}
use Rattle.dj_kind_lists.proofs.Listing.{got_flows, flows_got}
use Rattle.dj_kind_lists.proofs.Meeting.{flows_kept, flows_before, inside_low, which_half, left_inside, right_inside}

-- ---- lists

pub pushed : (P : KindRange → Type 0) (xs : List KindRange) (x : KindRange) → All P (xs ++ x ∷ []) → All P xs × P x
pushed P [] x a = (All-nil P, All-head P x [] a)
pushed P (y ∷ xs) x a =
    let r = pushed P xs x (All-tail P y (xs ++ x ∷ []) a) in
    (All-cons P y xs (All-head P y (xs ++ x ∷ []) a) r.0, r.1)

range_order : (a b : ℕ) → (a < b) ⊎ (b ≤ a)
range_order a zero = inr (omega arith)
range_order zero (suc b) = inl (omega arith)
range_order (suc a) (suc b) = elim (range_order a b) [ inl l ↦ inl (omega (arith, l)) | inr g ↦ inr (omega (arith, g)) ]

pub no_ranges : (l : List KindRange) → length l ≡ 0 → l ≡ []
no_ranges [] e = refl
no_ranges (x ∷ l) e = absurd (omega (arith, e))

-- ---- sizes

size_mono : (a b : ℕ) → size_of a ≤ size_of (a + b)
size_mono a zero = let e : a + 0 ≡ a = omega arith in let f = ap size_of e in omega (arith, f)
size_mono a (suc b) =
    let e : a + suc b ≡ suc (a + b) = omega arith in
    let f = ap size_of e in
    let g = size_mono a b in
    omega (arith, f, g, size_more (a + b))

size_pow : (h : ℕ) → size_of h ≡ 2 ^ h
unfolding size_of
size_pow zero = refl
size_pow (suc h) = let e = size_pow h in omega (arith, e)

pub next_few : (h size count : ℕ) → size ≡ size_of h → size < count → count < 2 ^ 32 → size + size ≤ 2 ^ 32
next_few h size count is less few = by (range_order h 32) where
  most : size_of 32 ≡ 2 ^ 32
  most = size_pow 32

  by : (h < 32) ⊎ (32 ≤ h) → size + size ≤ 2 ^ 32
  by (inl low) =
      let e : suc h + (32 - suc h) ≡ 32 = omega (arith, low) in
      let m = size_mono (suc h) (32 - suc h) in
      let f = ap size_of e in
      omega (arith, m, f, is, most, size_more h)
  by (inr high) =
      let e : 32 + (h - 32) ≡ h = omega (arith, high) in
      let m = size_mono 32 (h - 32) in
      let f = ap size_of e in
      absurd (omega (arith, m, f, is, most, less, few))

-- ---- what all states of a block have

pub flows_twice : (forest : Forest) (a b c : ℕ) → FlowsInto forest a b → FlowsInto forest b c → FlowsInto forest a c
flows_twice forest a b c f g = record { each = λ slot kind within at. f.each slot kind within (g.each slot kind within at) }

pub each_has : (forest : Forest) (states : List ℕ) (h from meet number : ℕ) → HasAll forest states h from meet → IsInside h from number → FlowsInto forest (state_at states number) meet
each_has forest states h from meet number all inside = record { each = λ slot kind within at. (all.each slot kind within).0 at number inside }

-- the tree of one state has what the state has
pub one_has : (forest : Forest) (states : List ℕ) (h from meet : ℕ) → h ≡ 0 → HasAll forest states h from meet → FlowsInto forest meet (state_at states from)
one_has forest states h from meet low all = record {
  each = λ slot kind within at. (all.each slot kind within).1 (λ number inside.
      let same : number ≡ from = inside_low from number (subst (λ (n : ℕ). IsInside n from number) low inside) in
      subst (λ (n : ℕ). kind_in forest (state_at states n) slot ≡ Some kind) (sym same) at);
}

-- ---- one range

module _ (forest : Forest) (states frames : List ℕ) (h from size : ℕ) (range : KindRange) (is : size ≡ size_of h) where
  pub apart_flows : (from + size ≤ range.from) ⊎ (range.to ≤ from) → (number : ℕ) → IsInside h from number → RangeFlows forest states frames number range
  apart_flows apart number inside low high = absurd (elim apart [
    | inl past ↦ let b = inside.high in omega (arith, past, b, low, is)
    | inr before ↦ let a = inside.low in omega (arith, before, a, high)
  ])

  pub meet_flows : (meet : ℕ) → HasAll forest states h from meet → FlowsInto forest meet (state_at frames range.frame) → (number : ℕ) → IsInside h from number → RangeFlows forest states frames number range
  meet_flows meet all flows number inside low high = flows_twice forest (state_at states number) meet (state_at frames range.frame) (each_has forest states h from meet number all inside) flows

  pub meet_lacks : (meet : ℕ) → h ≡ 0 → HasAll forest states h from meet → range.from ≤ from → from < range.to → (FlowsInto forest meet (state_at frames range.frame) → ⊥)
      → RangeFlows forest states frames from range → ⊥
  meet_lacks meet low all a b lacks flows =
      lacks (flows_twice forest meet (state_at states from) (state_at frames range.frame) (one_has forest states h from meet low all) (flows a b))

-- ---- after more trees were made

module _ (old new : Forest) (states frames : List ℕ) (keeps : KeepsTrees old new) (states_are : AreStates old states) (frames_are : AreStates old frames) where
  pub range_kept : (number : ℕ) (range : KindRange) → RangeFlows old states frames number range → RangeFlows new states frames number range
  range_kept number range flows a b = flows_kept old new (state_at states number) (state_at frames range.frame) keeps (states_are number) (frames_are range.frame) (flows a b)

  pub range_before : (number : ℕ) (range : KindRange) → RangeFlows new states frames number range → RangeFlows old states frames number range
  range_before number range flows a b = flows_before old new (state_at states number) (state_at frames range.frame) keeps (states_are number) (frames_are range.frame) (flows a b)

  pub ranges_kept : (ranges : List KindRange) (number : ℕ) → RangesFlow old states frames ranges number → RangesFlow new states frames ranges number
  ranges_kept ranges number all k d within = range_kept number (get_or ranges k d) (all k d within)

  pub ranges_before : (ranges : List KindRange) (number : ℕ) → RangesFlow new states frames ranges number → RangesFlow old states frames ranges number
  ranges_before ranges number all k d within = range_before number (get_or ranges k d) (all k d within)

  pub all_inside_before : (ranges : List KindRange) (h from : ℕ) → AllInside new states frames ranges h from → AllInside old states frames ranges h from
  all_inside_before ranges h from all number inside = ranges_before ranges number (all number inside)

  pub first_in_before : (ranges : List KindRange) (h from number : ℕ) → IsFirstIn new states frames ranges h from number → IsFirstIn old states frames ranges h from number
  first_in_before ranges h from number first = record {
    inside = first.inside;
    lacks = λ flows. first.lacks (ranges_kept ranges number flows);
    before = λ other inside less. ranges_before ranges other (first.before other inside less);
  }

  pub left_kept : (h from : ℕ) (ranges rest : List KindRange) → AreLeft old states frames h from ranges rest → AreLeft new states frames h from ranges rest
  left_kept h from ranges rest left = record {
    all = λ number inside flows. ranges_kept ranges number (left.all number inside (ranges_before rest number flows));
    own = λ number inside flows. ranges_kept rest number (left.own number inside (ranges_before ranges number flows));
    low = λ e. elim (left.low e) [ inl none ↦ inl none | inr lacks ↦ inr (λ flows. lacks (ranges_before rest from flows)) ];
  }

  pub left_before : (h from : ℕ) (ranges rest : List KindRange) → AreLeft new states frames h from ranges rest → AreLeft old states frames h from ranges rest
  left_before h from ranges rest left = record {
    all = λ number inside flows. ranges_before ranges number (left.all number inside (ranges_kept rest number flows));
    own = λ number inside flows. ranges_before rest number (left.own number inside (ranges_kept ranges number flows));
    low = λ e. elim (left.low e) [ inl none ↦ inl none | inr lacks ↦ inr (λ flows. lacks (ranges_kept rest from flows)) ];
  }

-- ---- ranges one after the other

module _ (forest : Forest) (states frames : List ℕ) (h from : ℕ) where
  abbrev Flow : ℕ → KindRange → Type 0
  Flow number range = RangeFlows forest states frames number range

  pub none_left : AreLeft forest states frames h from [] []
  none_left = record { all = λ number inside flows. flows; own = λ number inside flows. flows; low = λ e. inl refl }

  -- one more is left, or isn't
  pub one_left : (ranges rest new : List KindRange) (range : KindRange) → new ≡ rest ++ range ∷ [] → (h ≡ 0 → RangeFlows forest states frames from range → ⊥)
      → AreLeft forest states frames h from ranges rest → AreLeft forest states frames h from (ranges ++ range ∷ []) new
  one_left ranges rest new range e lacks left = subst (AreLeft forest states frames h from (ranges ++ range ∷ [])) (sym e) (record {
    all = λ number inside flows. let p = pushed (Flow number) rest range flows in All-push (Flow number) ranges range (left.all number inside p.0) p.1;
    own = λ number inside flows. let p = pushed (Flow number) ranges range flows in All-push (Flow number) rest range (left.own number inside p.0) p.1;
    low = λ low. inr (λ flows. lacks low (pushed (Flow from) rest range flows).1);
  })

  pub one_dropped : (ranges rest : List KindRange) (range : KindRange) → ((number : ℕ) → IsInside h from number → RangeFlows forest states frames number range)
      → AreLeft forest states frames h from ranges rest → AreLeft forest states frames h from (ranges ++ range ∷ []) rest
  one_dropped ranges rest range flow left = record {
    all = λ number inside flows. All-push (Flow number) ranges range (left.all number inside flows) (flow number inside);
    own = λ number inside flows. left.own number inside (pushed (Flow number) ranges range flows).0;
    low = left.low;
  }

  -- ---- the first

  pub none_inside : (ranges rest : List KindRange) → AreLeft forest states frames h from ranges rest → rest ≡ [] → AllInside forest states frames ranges h from
  none_inside ranges rest left e number inside = left.all number inside (subst (λ (l : List KindRange). RangesFlow forest states frames l number) (sym e) (All-nil (Flow number)))

  pub low_first : (ranges rest : List KindRange) → h ≡ 0 → IsInside h from from → AreLeft forest states frames h from ranges rest → (rest ≡ [] → ⊥) → IsFirstIn forest states frames ranges h from from
  low_first ranges rest low inside left some = record {
    inside = inside;
    lacks = λ flows. elim (left.low low) [ inl none ↦ some none | inr lacks ↦ lacks (left.own from inside flows) ];
    before = λ other there less. absurd (let a = there.low in omega (arith, a, less));
  }

  -- of what is left, of all
  pub first_of_all : (ranges rest : List KindRange) (number : ℕ) → AreLeft forest states frames h from ranges rest → IsFirstIn forest states frames rest h from number → IsFirstIn forest states frames ranges h from number
  first_of_all ranges rest number left first = record {
    inside = first.inside;
    lacks = λ flows. first.lacks (left.own number first.inside flows);
    before = λ other inside less. left.all other inside (first.before other inside less);
  }

-- in a half, in the whole
module _ (forest : Forest) (states frames : List ℕ) (ranges : List KindRange) (h low from : ℕ) (high : h ≡ suc low) where
  pub left_first : (number : ℕ) → IsFirstIn forest states frames ranges low from number → IsFirstIn forest states frames ranges h from number
  left_first number first = subst (λ (n : ℕ). IsFirstIn forest states frames ranges n from number) (sym high) (record {
    inside = left_inside low from number first.inside;
    lacks = first.lacks;
    before = λ other inside less. elim (which_half low from other inside) [
      | inl there ↦ first.before other there less
      | inr there ↦ absurd (let a = there.low in let b = first.inside.high in omega (arith, a, b, less))
    ];
  })

  pub right_first : (half : ℕ) (found : Option ℕ) → half ≡ size_of low → AllInside forest states frames ranges low from
      → MatchOption found (AllInside forest states frames ranges low (from + half)) (λ number. IsFirstIn forest states frames ranges low (from + half) number)
      → MatchOption found (AllInside forest states frames ranges h from) (λ number. IsFirstIn forest states frames ranges h from number)
  right_first half None is left right =
      subst (λ (n : ℕ). AllInside forest states frames ranges n from) (sym high) (λ number inside. elim (which_half low from number inside) [
        | inl there ↦ left number there
        | inr there ↦ right number (subst (λ (k : ℕ). IsInside low (from + k) number) (sym is) there)
      ])
  right_first half (Some number) is left right =
      subst (λ (n : ℕ). IsFirstIn forest states frames ranges n from number) (sym high) (record {
        inside = right_inside low from number (subst (λ (k : ℕ). IsInside low (from + k) number) is right.inside);
        lacks = right.lacks;
        before = λ other inside less. elim (which_half low from other inside) [
          | inl there ↦ left other there
          | inr there ↦ right.before other (subst (λ (k : ℕ). IsInside low (from + k) other) (sym is) there) less
        ];
      })

-- a part of one state that a range meets is whole in it
pub one_whole : (h from size : ℕ) (range : KindRange) → size ≡ size_of h → h ≡ 0 → ((from + size ≤ range.from) ⊎ (range.to ≤ from) → ⊥) → (from < range.from) ⊎ (range.to < from + size) → ⊥
one_whole h from size range is low meets partly =
    let one : size ≡ 1 = is ∙ ap size_of low ∙ size_low in
    elim partly [
      | inl before ↦ meets (inl (omega (arith, before, one)))
      | inr past ↦ meets (inr (omega (arith, past, one)))
    ]

pub after_first : (from size : ℕ) (range : KindRange) → ((from < range.from) ⊎ (range.to < from + size) → ⊥) → range.from ≤ from
after_first from size range whole = elim (range_order from range.from) [ inl less ↦ absurd (whole (inl less)) | inr past ↦ past ]

pub before_last : (from size : ℕ) (range : KindRange) → ((from + size ≤ range.from) ⊎ (range.to ≤ from) → ⊥) → from < range.to
before_last from size range meets = elim (range_order from range.to) [ inl less ↦ less | inr past ↦ absurd (meets (inr past)) ]

pub some_found : (forest : Forest) (states frames : List ℕ) (all rest : List KindRange) (h low from : ℕ) (found : Option ℕ) → h ≡ suc low → is_some found ≡ true → AreLeft forest states frames h from all rest
    → MatchOption found (AllInside forest states frames rest low from) (λ number. IsFirstIn forest states frames rest low from number)
    → MatchOption found (AllInside forest states frames all h from) (λ number. IsFirstIn forest states frames all h from number)
some_found forest states frames all rest h low from None high e left first = absurd cc
some_found forest states frames all rest h low from (Some number) high e left first =
    first_of_all forest states frames h from all rest number left (left_first forest states frames rest h low from high number first)

pub none_found : (forest : Forest) (states frames : List ℕ) (rest : List KindRange) (low from : ℕ) (found : Option ℕ) → is_some found ≡ false
    → MatchOption found (AllInside forest states frames rest low from) (λ number. IsFirstIn forest states frames rest low from number) → AllInside forest states frames rest low from
none_found forest states frames rest low from None e first = first
none_found forest states frames rest low from (Some number) e first = absurd cc

pub of_rest : (forest : Forest) (states frames : List ℕ) (all rest : List KindRange) (h from : ℕ) (found : Option ℕ) → AreLeft forest states frames h from all rest
    → MatchOption found (AllInside forest states frames rest h from) (λ number. IsFirstIn forest states frames rest h from number)
    → MatchOption found (AllInside forest states frames all h from) (λ number. IsFirstIn forest states frames all h from number)
of_rest forest states frames all rest h from None left first = λ number inside. left.all number inside (first number inside)
of_rest forest states frames all rest h from (Some number) left first = first_of_all forest states frames h from all rest number left first

pub match_before : (old new : Forest) (states frames : List ℕ) (ranges : List KindRange) (h from : ℕ) (found : Option ℕ) → KeepsTrees old new → AreStates old states → AreStates old frames
    → MatchOption found (AllInside new states frames ranges h from) (λ number. IsFirstIn new states frames ranges h from number)
    → MatchOption found (AllInside old states frames ranges h from) (λ number. IsFirstIn old states frames ranges h from number)
match_before old new states frames ranges h from None keeps a b first = all_inside_before old new states frames keeps a b ranges h from first
match_before old new states frames ranges h from (Some number) keeps a b first = first_in_before old new states frames keeps a b ranges h from number first

pub same_ranges : (forest : Forest) (states frames : List ℕ) (given ranges : List KindRange) (h from : ℕ) (found : Option ℕ) → given ≡ ranges
    → MatchOption found (AllInside forest states frames given h from) (λ number. IsFirstIn forest states frames given h from number)
    → MatchOption found (AllInside forest states frames ranges h from) (λ number. IsFirstIn forest states frames ranges h from number)
same_ranges forest states frames given ranges h from found e first =
    subst (λ (l : List KindRange). MatchOption found (AllInside forest states frames l h from) (λ number. IsFirstIn forest states frames l h from number)) e first

-- ---- all states

pub first_below : (forest : Forest) (states frames : List ℕ) (ranges : List KindRange) (h size limit : ℕ) (found first : Option ℕ) → size ≡ size_of h → limit ≤ size
    → MatchOption found (AllInside forest states frames ranges h 0) (λ number. IsFirstIn forest states frames ranges h 0 number)
    → MatchOption found (first ≡ None) (λ number. (number < limit → first ≡ Some number) × (limit ≤ number → first ≡ None))
    → IsFirstBelow forest states frames ranges limit first
first_below forest states frames ranges h size limit None first is room all below =
    subst (IsFirstBelow forest states frames ranges limit) (sym below)
    (λ number less. all number (record { low = omega arith; high = omega (arith, less, room, is) }))
first_below forest states frames ranges h size limit (Some number) first is room found below = elim (range_order number limit) [
  | inl less ↦
      subst (IsFirstBelow forest states frames ranges limit) (sym (below.0 less)) (
        less,
        found.lacks,
        λ other under. found.before other (record { low = omega arith; high = omega (arith, under, less, room, is) }) under,
      )
  | inr past ↦
      subst (IsFirstBelow forest states frames ranges limit) (sym (below.1 past))
      (λ other less. found.before other (record { low = omega arith; high = omega (arith, less, room, is) }) (omega (arith, less, past)))
]

pub none_below : (forest : Forest) (states frames : List ℕ) (ranges : List KindRange) (limit : ℕ) → ranges ≡ [] → IsFirstBelow forest states frames ranges limit None
none_below forest states frames ranges limit e number less = subst (λ (l : List KindRange). RangesFlow forest states frames l number) (sym e) (All-nil (RangeFlows forest states frames number))

-- ---- by lists

module _ (forest : Forest) (count current : ℕ) (frames states : List ℕ) (are : AreLists forest count current frames states) where
  abbrev Kinds : List ℕ → List (List (Option Kind))
  Kinds trees = map (kinds_of forest count) trees

  range_holds : (number : ℕ) (range : KindRange) → RangeFlows forest states frames number range → HoldsIn (Kinds states) (Kinds frames) number range
  range_holds number range flows a b = got_flows forest count states frames number range.frame are.room are.bare (flows a b)

  holds_range : (number : ℕ) (range : KindRange) → HoldsIn (Kinds states) (Kinds frames) number range → RangeFlows forest states frames number range
  holds_range number range holds a b = flows_got forest count states frames number range.frame are.room are.bare (are.frames_are range.frame) (holds a b)

  all_hold : (ranges : List KindRange) (number : ℕ) → RangesFlow forest states frames ranges number → AllFlow (Kinds states) (Kinds frames) ranges number
  all_hold ranges number flows k d within = range_holds number (get_or ranges k d) (flows k d within)

  hold_all : (ranges : List KindRange) (number : ℕ) → AllFlow (Kinds states) (Kinds frames) ranges number → RangesFlow forest states frames ranges number
  hold_all ranges number flows k d within = holds_range number (get_or ranges k d) (flows k d within)

  pub first_lack : (ranges : List KindRange) (limit : ℕ) (first : Option ℕ) → IsFirstBelow forest states frames ranges limit first → IsFirstLack (Kinds states) (Kinds frames) ranges limit first
  first_lack ranges limit None below = λ number less. all_hold ranges number (below number less)
  first_lack ranges limit (Some found) below =
      (below.0, λ flows. below.1 (hold_all ranges found flows), λ number less. all_hold ranges number (below.2 number less))

-- ---- answers that are turned

pub not_false : (b : Bool) → not b ≡ false → b ≡ true
not_false true e = refl
not_false false e = absurd cc

pub not_true : (b : Bool) → not b ≡ true → b ≡ false
not_true true e = absurd cc
not_true false e = refl

pub below_before : (old new : Forest) (states frames : List ℕ) (ranges : List KindRange) (limit : ℕ) (first : Option ℕ) → KeepsTrees old new → AreStates old states → AreStates old frames
    → IsFirstBelow new states frames ranges limit first → IsFirstBelow old states frames ranges limit first
below_before old new states frames ranges limit None keeps a b below = λ number less. ranges_before old new states frames keeps a b ranges number (below number less)
below_before old new states frames ranges limit (Some found) keeps a b below = (
  below.0,
  λ flows. below.1 (ranges_kept old new states frames keeps a b ranges found flows),
  λ number less. ranges_before old new states frames keeps a b ranges number (below.2 number less),
)
