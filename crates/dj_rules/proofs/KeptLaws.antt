-- What is kept of files.
use Rattle.std.proofs.Common.{◌≡◌, ℕ, zero, suc, ◌+◌, ◌<◌, ◌≤◌, List, [], ◌∷◌, ◌++◌, take, length, get_or, Bor, Option, Some, None, refl, sym, subst, inl, inr, arith, slice_get, append-nil}
use Rattle.std.proofs.lemmas.Bool.{cases_lt}
use Rattle.std.proofs.lemmas.List.{length-append, take_more, take_all}
use Rattle.std.proofs.lemmas.List.Elements.{Contains-append_left, Contains-push, Contains-push_cases}
use Rattle.dj_class.specs.trusted.ClassFile.{ClassFile}
use Rattle.dj_class.proofs.ClassLaws.{one_class_file}
use Rattle.dj_pool.proofs.Decides.{tests_decide}
use Rattle.dj_report.specs.declared.report.PathFile.{PathFile}
use Rattle.dj_report.proofs.Sorted.{contains_none}
use Rattle.dj_hierarchy_rule.specs.declared.head.ClassHead.{ClassHead}
use Rattle.dj_early_rules.specs.declared.doubles.NamedFile.{NamedFile}
use Rattle.dj_early_rules.specs.declared.good.GoodFile.{GoodFile}
use Rattle.dj_early_rules.specs.declared.hierarchy.Owner.{Owner}
use Rattle.dj_rules.specs.declared.kept.Kept.{Kept}
use Rattle.dj_early_rules.specs.trusted.Malformed.{IsGood}
use Rattle.dj_early_rules.specs.Passes.{IsGoodPart}
use Rattle.dj_rules.specs.Reported.{SaysPart}
use Rattle.dj_early_rules.specs.Doubles.{IsNamedAs}
use Rattle.dj_early_rules.specs.Kept.{OwnsAt, IsOwnedAt, AreOwned}
use Rattle.dj_rules.specs.Kept.{heads_in, owners_in, named_as, Keeps, AreKept}
use Rattle.dj_early_rules.proofs.FileLaws.{refused_not_good}
use Rattle.dj_early_rules.proofs.DoubleLaws.{AreFirstNamed, none_named, one_more_named, all_named}

-- ---- places in a list that grew

kept_at : {X : Type 0} (xs ys : List X) (i : ℕ) (x : X) → slice_get xs i ≡ Some x → slice_get (xs ++ ys) i ≡ Some x
kept_at [] ys zero x e = absurd cc
kept_at [] ys (suc i) x e = absurd cc
kept_at (z ∷ xs) ys zero x e = e
kept_at (z ∷ xs) ys (suc i) x e = kept_at xs ys i x e

last_at : {X : Type 0} (xs : List X) (x : X) → slice_get (xs ++ x ∷ []) (length xs) ≡ Some x
last_at [] x = refl
last_at (z ∷ xs) x = last_at xs x

-- ---- heads and their files

pub none_owned : AreOwned [] [] []
none_owned = record {
  all = refl;
  each = λ place lt. absurd (omega (arith, lt));
  whole = λ file c among good. absurd (contains_none file among);
}

owns_kept : (heads more_heads : List ClassHead) (owners more_owners : List Owner) (file : PathFile) (c : ClassFile) (place : ℕ) → OwnsAt heads owners file c place → OwnsAt (heads ++ more_heads) (owners ++ more_owners) file c place
owns_kept heads more_heads owners more_owners file c place at = record {
  head = at.head;
  stands = kept_at heads more_heads place at.head at.stands;
  owner = at.owner;
  own = kept_at owners more_owners place at.owner at.own;
  is = at.is;
}

owned_kept : (files more : List PathFile) (heads more_heads : List ClassHead) (owners more_owners : List Owner) (place : ℕ) → IsOwnedAt files heads owners place → IsOwnedAt (files ++ more) (heads ++ more_heads) (owners ++ more_owners) place
owned_kept files more heads more_heads owners more_owners place at = record {
  file = at.file;
  among = Contains-append_left files more at.file at.among;
  class = at.class;
  owns = owns_kept heads more_heads owners more_owners at.file at.class place at.owns;
}

-- a file with rule 1 has no head
refused_more : (files : List PathFile) (file : PathFile) (heads : List ClassHead) (owners : List Owner) → SaysPart file None → AreOwned files heads owners → AreOwned (files ++ file ∷ []) heads owners
refused_more files file heads owners refused before = record {
  all = before.all;
  each = λ place lt.
      let old = before.each place lt in
      record { file = old.file; among = Contains-append_left files (file ∷ []) old.file old.among; class = old.class; owns = old.owns };
  whole = λ other c among good. elim (Contains-push_cases files file other among) [
    | inl old ↦ before.whole other c old good
    | inr same ↦ absurd (refused_not_good other.bytes.now c good (subst (λ (f : PathFile). SaysPart f None) same refused))
  ];
}

-- and another has the one that is given
good_more : (files : List PathFile) (file : PathFile) (path : Bor (List ℕ)) (part : GoodFile) (heads : List ClassHead) (owners : List Owner) → path.now ≡ file.path.now → SaysPart file (Some part) → AreOwned files heads owners
    → AreOwned (files ++ file ∷ []) (heads ++ part.head ∷ []) (owners ++ record { path = path; repeats = part.repeats } ∷ [])
good_more files file path part heads owners same (class, good, reported) before =
    let owner : Owner = record { path = path; repeats = part.repeats } in
    let here : (c : ClassFile) → IsGood file.bytes.now c → OwnsAt (heads ++ part.head ∷ []) (owners ++ owner ∷ []) file c (length heads) =
    λ c is. record {
      head = part.head;
      stands = last_at heads part.head;
      owner = owner;
      own = subst (λ (k : ℕ). slice_get (owners ++ owner ∷ []) k ≡ Some owner) before.all (last_at owners owner);
      is =
          let part_is = subst (λ (d : ClassFile). IsGoodPart d part) (one_class_file tests_decide file.bytes.now class c good.file is.file) reported in
          record { good = is; path = same; head_is = part_is.head_is; reported = part_is.reported };
    } in
    record {
      all = omega (arith, length-append owners (owner ∷ []), length-append heads (part.head ∷ []), before.all);
      each = λ place lt. elim (cases_lt place (length heads)) [
        | inl less ↦ owned_kept files (file ∷ []) heads (part.head ∷ []) owners (owner ∷ []) place (before.each place less)
        | inr ge ↦
            let at : place ≡ length heads = omega (arith, lt, ge, length-append heads (part.head ∷ [])) in
            record { file = file; among = Contains-push files file; class = class; owns = subst (λ (k : ℕ). OwnsAt (heads ++ part.head ∷ []) (owners ++ owner ∷ []) file class k) (sym at) (here class good) }
      ];
      whole = λ other c among is. elim (Contains-push_cases files file other among) [
        | inl old ↦ let at = before.whole other c old is in (at.0, owns_kept heads (part.head ∷ []) owners (owner ∷ []) other c at.0 at.1)
        | inr e ↦ (length heads, subst (λ (f : PathFile). OwnsAt (heads ++ part.head ∷ []) (owners ++ owner ∷ []) f c (length heads)) e (here c (subst (λ (f : PathFile). IsGood f.bytes.now c) (sym e) is)))
      ];
    }

owned_more : (files : List PathFile) (file : PathFile) (path : Bor (List ℕ)) (part : Option GoodFile) (heads : List ClassHead) (owners : List Owner) → path.now ≡ file.path.now → SaysPart file part → AreOwned files heads owners
    → AreOwned (files ++ file ∷ []) (heads ++ heads_in part) (owners ++ owners_in path part)
owned_more files file path None heads owners same refused before =
    subst (λ (hs : List ClassHead). AreOwned (files ++ file ∷ []) hs (owners ++ [])) (sym (append-nil heads))
    (subst (λ (os : List Owner). AreOwned (files ++ file ∷ []) heads os) (sym (append-nil owners)) (refused_more files file heads owners refused before))
owned_more files file path (Some part) heads owners same reported before = good_more files file path part heads owners same reported before

-- ---- all that is kept

named_part : (file : PathFile) (path : Bor (List ℕ)) (part : Option GoodFile) → path.now ≡ file.path.now → SaysPart file part → IsNamedAs file (named_as path part)
named_part file path None same refused = record { path = same; name = refused }
named_part file path (Some part) same (c, good, reported) = record { path = same; name = (c, good, reported.head_is.name) }

-- what is kept of the first n files
pub record AreFirstKept (count : ℕ) (files : List PathFile) (kept : Kept) : Type 0 where
  pub named : AreFirstNamed count files kept.named.items
  pub owned : AreOwned (take count files) kept.heads.items kept.owners.items

pub none_kept : (files : List PathFile) (kept : Kept) → kept.named.items ≡ [] → kept.heads.items ≡ [] → kept.owners.items ≡ [] → AreFirstKept 0 files kept
none_kept files kept named heads owners = record {
  named = subst (λ (ns : List NamedFile). AreFirstNamed 0 files ns) (sym named) (none_named files);
  owned = subst (λ (hs : List ClassHead). AreOwned [] hs kept.owners.items) (sym heads) (subst (λ (os : List Owner). AreOwned [] [] os) (sym owners) none_owned);
}

pub one_more_kept : (files : List PathFile) (i : ℕ) (d : PathFile) (part : Option GoodFile) (old new : Kept) → i < length files → SaysPart (get_or files i d) part → Keeps (get_or files i d).path part old new → AreFirstKept i files old
    → AreFirstKept (i + 1) files new
one_more_kept files i d part old new lt reported keeps before =
    let file = get_or files i d in
    let owned : AreOwned (take i files ++ file ∷ []) (old.heads.items ++ heads_in part) (old.owners.items ++ owners_in file.path part) = owned_more (take i files) file file.path part old.heads.items old.owners.items refl reported before.owned in
    record {
      named = one_more_named files i d (named_as file.path part) old.named.items new.named.items lt keeps.named (named_part file file.path part refl reported) before.named;
      owned =
          subst (λ (hs : List ClassHead). AreOwned (take (i + 1) files) hs new.owners.items) (sym keeps.heads)
          (subst (λ (os : List Owner). AreOwned (take (i + 1) files) (old.heads.items ++ heads_in part) os) (sym keeps.owners)
          (subst (λ (fs : List PathFile). AreOwned fs (old.heads.items ++ heads_in part) (old.owners.items ++ owners_in file.path part)) (sym (take_more files i d lt)) owned));
    }

pub all_kept : (files : List PathFile) (i : ℕ) (kept : Kept) → i ≤ length files → length files ≤ i → AreFirstKept i files kept → AreKept files kept
all_kept files i kept below past are = record {
  named = all_named files i kept.named.items below past are.named;
  owned = subst (λ (fs : List PathFile). AreOwned fs kept.heads.items kept.owners.items) (take_all i files past) are.owned;
}
