-- Indexes of names that are marked.
use Rattle.std.proofs.Common.{◌≡◌, ℕ, zero, suc, ◌+◌, ◌<◌, ◌≤◌, Bool, true, List, [], ◌∷◌, ◌++◌, map, take, length, get_or, set, length-set, refl, sym, ap, ◌∙◌, subst, inl, inr, arith, Contains}
use Rattle.std.proofs.lemmas.List.{take_more, take_all}
use Rattle.std.proofs.lemmas.List.Elements.{Contains-push_cases}
use Rattle.dj_class.specs.declared.class.MemberView.{MemberView}
use Rattle.dj_class.specs.trusted.ClassFile.{MemberInfo, ClassFile}
use Rattle.dj_class.specs.Members.{member_of}
use Rattle.dj_report.proofs.Sorted.{contains_none}
use Rattle.dj_report.proofs.Adding.{from_contains_map}
use Rattle.dj_early_rules.specs.Judged.{IsMarked, StayMarked, AreNamesMarked, AreMembersMarked}

kept_set : (marks : List Bool) (i j : ℕ) → IsMarked marks j → IsMarked (set marks i true) j
kept_set [] i j e = e
kept_set (x ∷ marks) zero zero e = refl
kept_set (x ∷ marks) zero (suc j) e = e
kept_set (x ∷ marks) (suc i) zero e = e
kept_set (x ∷ marks) (suc i) (suc j) e = kept_set marks i j e

own_set : (marks : List Bool) (i : ℕ) → i < length marks → IsMarked (set marks i true) i
own_set [] i lt = absurd (omega (arith, lt))
own_set (x ∷ marks) zero lt = refl
own_set (x ∷ marks) (suc i) lt = own_set marks i (omega (arith, lt))

pub stay_set : (marks : List Bool) (i : ℕ) → StayMarked marks (set marks i true)
stay_set marks i = record { same = length-set marks i true; kept = λ j e. kept_set marks i j e }

pub marked_set : (marks : List Bool) (i : ℕ) → i < length (set marks i true) → IsMarked (set marks i true) i
marked_set marks i lt = own_set marks i (let e = length-set marks i true in omega (arith, lt, e))

pub stay_same : (marks : List Bool) → StayMarked marks marks
stay_same marks = record { same = refl; kept = λ j e. e }

pub stay_both : (a b c : List Bool) → StayMarked a b → StayMarked b c → StayMarked a c
stay_both a b c first second = record { same = second.same ∙ first.same; kept = λ j e. second.kept j (first.kept j e) }

pub names_stay : (old new : List Bool) (m : MemberInfo) → StayMarked old new → AreNamesMarked old m → AreNamesMarked new m
names_stay old new m stay marked =
    let same = stay.same in
    record {
      name = λ lt. stay.kept m.name (marked.name (omega (arith, lt, same)));
      desc = λ lt. stay.kept m.desc (marked.desc (omega (arith, lt, same)));
    }

-- both names of a member, one after the other
pub member_marked : (old mid new : List Bool) (m : MemberInfo) → (m.name < length mid → IsMarked mid m.name) → StayMarked mid new → (m.desc < length new → IsMarked new m.desc) → AreNamesMarked new m
member_marked old mid new m name stay desc =
    let same = stay.same in
    record { name = λ lt. stay.kept m.name (name (omega (arith, lt, same))); desc = desc }

-- one member more
pub more_marked : (views : List MemberView) (i : ℕ) (item : MemberView) (old new : List Bool) → i < length views → item ≡ get_or views i item → StayMarked old new → AreNamesMarked new (member_of item)
    → ((v : MemberView) → Contains (take i views) v → AreNamesMarked old (member_of v)) → (v : MemberView) → Contains (take (i + 1) views) v → AreNamesMarked new (member_of v)
more_marked views i item old new lt is stay own before v m = elim (Contains-push_cases (take i views) (get_or views i item) v (subst (λ (ys : List MemberView). Contains ys v) (take_more views i item lt) m)) [
  | inl there ↦ names_stay old new (member_of v) stay (before v there)
  | inr e ↦ subst (λ (x : MemberView). AreNamesMarked new (member_of x)) (is ∙ e) own
]

pub none_marked : (views : List MemberView) (marks : List Bool) (v : MemberView) → Contains (take 0 views) v → AreNamesMarked marks (member_of v)
none_marked views marks v m = absurd (contains_none v m)

pub all_marked : (views : List MemberView) (i : ℕ) (marks : List Bool) → length views ≤ i → ((v : MemberView) → Contains (take i views) v → AreNamesMarked marks (member_of v))
    → (m : MemberInfo) → Contains (map member_of views) m → AreNamesMarked marks m
all_marked views i marks le are m own =
    let seen = from_contains_map member_of views m own in
    subst (AreNamesMarked marks) seen.2 (are seen.0 (subst (λ (ys : List MemberView). Contains ys seen.0) (sym (take_all i views le)) seen.1))

-- what is written back over a list of the same length
pub written : (xs ys : List Bool) (n : ℕ) → length xs ≡ n → take n (xs ++ ys) ≡ xs
written xs ys n e = subst (λ (k : ℕ). take k (xs ++ ys) ≡ xs) e (prefix xs) where
  prefix : (zs : List Bool) → take (length zs) (zs ++ ys) ≡ zs
  prefix [] = refl
  prefix (z ∷ zs) = ap (λ (more : List Bool). z ∷ more) (prefix zs)

-- those of a class file
pub members_marked : (c : ClassFile) (start mid marks : List Bool) → length start ≡ length c.pool + 1 → StayMarked start mid → ((m : MemberInfo) → Contains c.fields m → AreNamesMarked mid m) → StayMarked mid marks
    → ((m : MemberInfo) → Contains c.methods m → AreNamesMarked marks m) → AreMembersMarked c marks
members_marked c start mid marks count first fields second methods = record {
  count = second.same ∙ first.same ∙ count;
  each = λ m any. elim any [ inl own ↦ names_stay mid marks m second (fields m own) | inr own ↦ methods m own ];
}
