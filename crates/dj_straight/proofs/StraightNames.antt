-- Names that differ: the names so far, and the set that has them.
use Rattle.std.proofs.Common.{◌≡◌, ◌≢◌, ◌+◌, None, zero, ◌<◌, ◌↔◌, ℕ, suc, Option, Some, Bool, true, false, cond, not, List, [], ◌∷◌, ◌++◌, length, map, take, get_or, Contains, AllPairs, IsTrue, Bor, refl, sym, ap, ◌∙◌, subst, inl, inr, arith, Ordering, length-take, get_or-take}
use Rattle.std.specs.Ordering.{nat_cmp, is_eq}
use Rattle.std.specs.List.{list_any}
use Rattle.std.specs.Cmp.{Equal-is}
use Rattle.std.specs.FinMap.{nat_cmp-IsAntisymmetric, slice_cmp-IsAntisymmetric}
use Rattle.std.proofs.lemmas.Cmp.{nat_list_cmp_total, tied_itself}
use Rattle.std.proofs.lemmas.Bool.{true≢false}
use Rattle.std.proofs.lemmas.List.Quantifiers.{all_pairs_push}
use Rattle.std.proofs.lemmas.List.Elements.{Contains-append_left, Contains-append_right, Contains-push_cases, Contains-get_or}
use Rattle.dj_edge.specs.trusted.Counts.{AllDiffer}
use Rattle.dj_edge.proofs.Pairs.{AllPairs-nil, AllPairs-map, AllPairs-unmap}
use Rattle.dj_report.proofs.Sorted.{contains_none}
use Rattle.std.specs.Cmp.Lexicographic.{slice_cmp}
use Rattle.std.specs.BTreeSet.{BTreeSet}
use Rattle.std.specs.BTreeSet as sorted
use Rattle.std.specs.Prelude.{Vec}
use Rattle.std.specs.Global.{Global}
use Rattle.std.proofs.lemmas.List.{length-map, take_more, get_or-map}
use Rattle.dj_straight.specs.Finds.{Finds, now_of, names_view}
use Rattle.dj_pool.specs.trusted.Pool.{Constant, text_at}
use Rattle.dj_class.specs.trusted.ClassFile.{MemberInfo}
use Rattle.dj_straight.specs.trusted.Program.{Method}
use Rattle.dj_straight.specs.trusted.Straight.{IsPlainMethod, AreStraightMethods, AreDistinctMethods}
use Rattle.dj_straight.specs.Straight.{ArePlainNames}

-- how the set's keys compare
abbrev pub key_cmp : Bor (List ℕ) → Bor (List ℕ) → Ordering
key_cmp x y = slice_cmp nat_cmp x.now y.now

pub record AreSeen (names : List (List ℕ)) (seen : BTreeSet (Bor (List ℕ))) : Type 0 where
  pub differ : AllPairs (λ a b. a ≢ b) names
  pub has : (q : Bor (List ℕ)) → IsTrue (sorted.contains key_cmp seen q) ↔ Contains names q.now

-- ---- names by their bytes

same_name : (a b : List ℕ) → is_eq (slice_cmp nat_cmp a b) ≡ true → a ≡ b
same_name a b e = slice_cmp-IsAntisymmetric nat_cmp-IsAntisymmetric a b ((Equal-is (slice_cmp nat_cmp a b)).0 e)

same_itself : (a b : List ℕ) → a ≡ b → is_eq (slice_cmp nat_cmp a b) ≡ true
same_itself a b e = subst (λ (x : List ℕ). is_eq (slice_cmp nat_cmp a x) ≡ true) e (ap is_eq (tied_itself nat_list_cmp_total a))

-- ---- one more name

contains_one : (x : List ℕ) → Contains (x ∷ []) x
contains_one x = (0, omega arith, refl)

has_more : (names : List (List ℕ)) (x q : List ℕ) (before after same : Bool) → (IsTrue before ↔ Contains names q) → is_eq (slice_cmp nat_cmp x q) ≡ same
    → after ≡ cond same true before → IsTrue after ↔ Contains (names ++ x ∷ []) q
has_more names x q before after true has e step = (
  λ t. subst (λ (y : List ℕ). Contains (names ++ x ∷ []) y) (same_name x q e) (Contains-append_right names (x ∷ []) x (contains_one x)),
  λ m. step,
)
has_more names x q before after false has e step = (
  λ t. Contains-append_left names (x ∷ []) q (has.0 (sym step ∙ t)),
  λ m. elim (Contains-push_cases names x q m) [
    | inl old ↦ step ∙ has.1 old
    | inr is ↦ absurd (true≢false (sym (same_itself x q is) ∙ e))
  ],
)

not_seen : (b added : Bool) → added ≡ not b → added ≡ true → IsTrue b → ⊥
not_seen true added e t s = absurd cc
not_seen false added e t s = absurd cc

pub was_seen : (b added : Bool) → added ≡ not b → added ≡ false → IsTrue b
was_seen true added e f = refl
was_seen false added e f = absurd cc

pub none_seen : (seen : BTreeSet (Bor (List ℕ))) → seen.keys ≡ [] → AreSeen [] seen
none_seen seen empty = record {
  differ = AllPairs-nil (λ a b. a ≢ b);
  has = λ q. (λ t. absurd (true≢false (sym t ∙ ap (list_any (λ k. is_eq (key_cmp q k))) empty)), λ m. absurd (contains_none q.now m));
}

pub one_more_seen : (names : List (List ℕ)) (seen new : BTreeSet (Bor (List ℕ))) (x : Bor (List ℕ)) (added : Bool) → AreSeen names seen
    → added ≡ not (sorted.contains key_cmp seen x) → added ≡ true
    → ((q : Bor (List ℕ)) → sorted.contains key_cmp new q ≡ cond (is_eq (key_cmp x q)) true (sorted.contains key_cmp seen q))
    → AreSeen (names ++ x.now ∷ []) new
one_more_seen names seen new x added so_far e t step = record {
  differ = all_pairs_push (λ a b. a ≢ b) names x.now so_far.differ (λ k d within same.
      not_seen (sorted.contains key_cmp seen x) added e t ((so_far.has x).1 (subst (λ (y : List ℕ). Contains names y) same (Contains-get_or names k d within))));
  has = λ q. has_more names x.now q.now (sorted.contains key_cmp seen q) (sorted.contains key_cmp new q) (is_eq (key_cmp x q)) (so_far.has q) refl (step q);
}

-- ---- a name that comes again

pub comes_again : (names : List (List ℕ)) (i : ℕ) (x : List ℕ) → i < length names → get_or names i x ≡ x → Contains (take i names) x → AllPairs (λ a b. a ≢ b) names → ⊥
comes_again names i x within is (k, lt, e) pairs =
    let size = length-take i names in
    let before : k < i = omega arith in
    pairs k i x before within (sym (get_or-take i names k x before) ∙ e ∙ sym is)

-- ---- the names of straight methods

one_text : (a b : List ℕ) (o : Option (List ℕ)) → o ≡ Some a → o ≡ Some b → a ≡ b
one_text a b o p q = cc

abbrev pub method_names : List Method → List (List ℕ)
method_names methods = map (λ (m : Method). m.name) methods

-- straight methods have the names that were found
pub have_names : (pool : List Constant) (ms : List MemberInfo) (names : List (List ℕ)) (methods : List Method) → ArePlainNames pool ms names → AreStraightMethods pool ms methods
    → method_names methods ≡ names
have_names pool [] [] [] p q = refl
have_names pool [] [] (x ∷ xs) p q = absurd q
have_names pool [] (n ∷ ns) xs p q = absurd p
have_names pool (m ∷ ms) [] xs p q = absurd p
have_names pool (m ∷ ms) (n ∷ ns) [] p q = absurd q
have_names pool (m ∷ ms) (n ∷ ns) (x ∷ xs) p q =
    let first : x.name ≡ n = one_text x.name n (text_at pool m.name) q.0.plain.name_is p.0.name_is in
    ap (λ (y : List ℕ). y ∷ method_names xs) first ∙ ap (λ (ys : List (List ℕ)). n ∷ ys) (have_names pool ms ns xs p.1 q.1)

-- and all have names
pub some_names : (pool : List Constant) (ms : List MemberInfo) (methods : List Method) → AreStraightMethods pool ms methods → ArePlainNames pool ms (method_names methods)
some_names pool [] [] p = tt
some_names pool [] (x ∷ xs) p = absurd p
some_names pool (m ∷ ms) [] p = absurd p
some_names pool (m ∷ ms) (x ∷ xs) p = (p.0.plain, some_names pool ms xs p.1)

pub distinct : (pool : List Constant) (ms : List MemberInfo) (names : List (List ℕ)) → ArePlainNames pool ms names → AllDiffer names
    → (methods : List Method) → AreStraightMethods pool ms methods → AreDistinctMethods pool ms methods
distinct pool ms names plain differ methods straight = record {
  straight = straight;
  names_differ = AllPairs-unmap (λ (m : Method). m.name) (λ a b. a ≢ b) methods
      (subst AllDiffer (sym (have_names pool ms names methods plain straight)) differ);
}

pub not_distinct : (pool : List Constant) (ms : List MemberInfo) (names : List (List ℕ)) → ArePlainNames pool ms names → (AllDiffer names → ⊥)
    → (methods : List Method) → AreDistinctMethods pool ms methods → ⊥
not_distinct pool ms names plain none methods d =
    none (subst AllDiffer (have_names pool ms names methods plain d.straight) (AllPairs-map (λ (m : Method). m.name) (λ a b. a ≢ b) methods d.names_differ))

-- ---- names in a row

pub name_push : (pool : List Constant) (ms : List MemberInfo) (names : List (List ℕ)) (m : MemberInfo) (name : List ℕ) → ArePlainNames pool ms names → IsPlainMethod pool m name
    → ArePlainNames pool (ms ++ m ∷ []) (names ++ name ∷ [])
name_push pool [] [] m name p is = (is, tt)
name_push pool [] (y ∷ ys) m name p is = absurd p
name_push pool (n ∷ ms) [] m name p is = absurd p
name_push pool (n ∷ ms) (y ∷ ys) m name p is = (p.0, name_push pool ms ys m name p.1 is)

pub no_names : (pool : List Constant) (ms : List MemberInfo) (i : ℕ) (d : MemberInfo) → i < length ms → ((name : List ℕ) → IsPlainMethod pool (get_or ms i d) name → ⊥)
    → (names : List (List ℕ)) → ArePlainNames pool ms names → ⊥
no_names pool [] i d within none names p = absurd (omega arith)
no_names pool (m ∷ ms) i d within none [] p = p
no_names pool (m ∷ ms) zero d within none (x ∷ xs) p = none x p.0
no_names pool (m ∷ ms) (suc i) d within none (x ∷ xs) p = no_names pool ms i d (omega arith) none xs p.1

-- where nothing is found there are no names
pub none_found : (pool : List Constant) (ms : List MemberInfo) (found : Option (Vec (Bor (List ℕ)) Global)) → ((x : Vec (Bor (List ℕ)) Global) → found ≡ Some x → ⊥)
    → Finds names_view (ArePlainNames pool ms) found → (names : List (List ℕ)) → ArePlainNames pool ms names → ⊥
none_found pool ms None not none = none
none_found pool ms (Some x) not is = absurd (not x refl)

-- one more name, read by now_of
pub names_more : (names : List (Bor (List ℕ))) (i : ℕ) (d : Bor (List ℕ)) → i < length names → take i (map now_of names) ++ now_of (get_or names i d) ∷ [] ≡ take (i + 1) (map now_of names)
names_more names i d within =
    let inside : i < length (map now_of names) = omega (arith, length-map names now_of) in
    sym (take_more (map now_of names) i (now_of d) inside ∙ ap (λ (x : List ℕ). take i (map now_of names) ++ x ∷ []) (get_or-map now_of names i d (now_of d) within))

pub name_again : (names : List (Bor (List ℕ))) (i : ℕ) (d : Bor (List ℕ)) → i < length names → Contains (take i (map now_of names)) (now_of (get_or names i d)) → AllDiffer (map now_of names) → ⊥
name_again names i d within seen pairs =
    let inside : i < length (map now_of names) = omega (arith, length-map names now_of) in
    let x = now_of (get_or names i d) in
    comes_again (map now_of names) i x inside (get_or-map now_of names i d x within) seen pairs
