-- Reading folders and files, walks and listings, at plain values.
use Rattle.std.proofs.Common.{◌≡◌, ℕ, ◌<◌, true, false, List, [], ◌∷◌, ◌++◌, length, take, Option, Some, None, Result, Ok, Err, refl, ap, All, arith}
use Rattle.std.specs.Prelude.{codes}
use Rattle.std.specs.List.{Contains}
use Rattle.std.proofs.lemmas.List.{length-take}
use Rattle.std.proofs.lemmas.List.Elements.{All-nil, All-cons, All-head}
use Rattle.dj_edge.specs.declared.files.ListError.TheVariants as list_errors
use Rattle.dj_edge.specs.declared.files.ReadError.{ReadError}
use Rattle.dj_edge.specs.declared.files.ReadError.TheVariants as read_errors
use Rattle.dj_edge.specs.declared.walk.EntryKind.TheVariants as kinds
use Rattle.dj_edge.specs.Walks.{Tree, Place, is_kept, met_in, met_below, spread, most_entries, IsOpened, IsNextEntry, IsFolderRead, IsUnmet, Walks}
use Rattle.dj_edge.specs.Listings.{AreOnce, IsListingOf}
use Rattle.dj_edge.specs.Reads.{Contents, IsFileOpened, ReadsFile}

-- ---- reading one folder

kept-folder : is_kept (codes "c/d", kinds.Folder) ≡ true
kept-folder = refl

kept-class : is_kept (codes "c/A.class", kinds.File) ≡ true
kept-class = refl

kept-other : is_kept (codes "c/A.class", kinds.Other) ≡ true
kept-other = refl

kept-text : is_kept (codes "c/A.txt", kinds.File) ≡ false
kept-text = refl

kept-pipe : is_kept (codes "c/A", kinds.Other) ≡ false
kept-pipe = refl

-- each folder has this alone
abbrev has : Option (List Place) → Option Tree
has places = Some (λ folder. places)

opened-less : (folder : List ℕ) (place : Place) → IsOpened {T = Unit {0}} (has (Some (place ∷ []))) (Some []) folder (Ok tt) → ⊥
opened-less folder place h = absurd cc

opened-failed : (folder : List ℕ) → IsOpened {T = Unit {0}} (has (Some [])) (Some []) folder (Err list_errors.Failed) → ⊥
opened-failed folder h = absurd cc

next-end : (left : Option (List Place)) (place : Place) → IsNextEntry (has None) (Some (place ∷ [])) left (Ok None) → ⊥
next-end left place h = absurd cc

next-failed : (left : Option (List Place)) → IsNextEntry (has None) (Some []) left (Err list_errors.Failed) → ⊥
next-failed left h = absurd cc

-- a folder with two entries fails where one is the most, and not where two are
read-two : (folder : List ℕ) (a b : Place) → IsFolderRead (has (Some (a ∷ b ∷ []))) folder 2 (Err list_errors.Failed) → ⊥
read-two folder a b h = omega (arith, h (a ∷ b ∷ []) refl)

-- ---- the walk

levels : (tree : Tree) (folder : List ℕ) → met_below tree folder ≡ met_in tree 65 (folder ++ codes "/")
levels tree folder = refl

entries : most_entries ≡ 1048576
entries = refl

unmet-none : (before : ℕ) → IsUnmet None before
unmet-none before places e = absurd cc

unmet-empty : IsUnmet (Some []) 0 → ⊥
unmet-empty h = omega (arith, h [] refl)

unmet-full : (places : List Place) → length places ≡ 1048576 → IsUnmet (Some places) 0 → ⊥
unmet-full places is h = omega (arith, h places refl)

-- one more than the most
unmet-past : (places more : List Place) → length places ≡ 1048577 → Some places ≡ Some more → 1048576 < length more
unmet-past places more is e =
    let same : places ≡ more = cc in
    omega (arith, ap length same)

-- an empty folder's walk does not fail
walk-empty : (folder : List ℕ) → Walks {T = List (List ℕ)} (λ found. found) (has (Some [])) folder (Err list_errors.Failed) → ⊥
unfolding met_in spread
walk-empty folder h = omega (arith, h [] refl)

-- ---- listings

-- two equal paths are one
once-two : (a : List ℕ) → AreOnce (a ∷ a ∷ []) 5 (a ∷ [])
once-two a = record {
  all = a ∷ [];
  differ = λ i j d before within. absurd (omega arith);
  among = All-cons (Contains (a ∷ a ∷ [])) a [] (0, omega arith, refl) (All-nil (Contains (a ∷ a ∷ [])));
  whole = All-cons (Contains (a ∷ [])) a (a ∷ []) (0, omega arith, refl) (All-cons (Contains (a ∷ [])) a [] (0, omega arith, refl) (All-nil (Contains (a ∷ []))));
  first = refl;
}

-- none is lost where there is room
once-lost : (a : List ℕ) → AreOnce (a ∷ []) 5 [] → ⊥
once-lost a once =
    let there = All-head (Contains once.all) a [] once.whole in
    omega (arith, there.1, ap length once.first, length-take 5 once.all)

-- none is made up
once-more : (a : List ℕ) → AreOnce [] 5 (a ∷ []) → ⊥
once-more a once = made once.all once.first once.among where
  made : (all : List (List ℕ)) → a ∷ [] ≡ take 5 all → All (Contains []) all → ⊥
  made [] first among = absurd cc
  made (x ∷ xs) first among = omega (arith, (All-head (Contains []) x xs among).1)

listing-other : (a : List ℕ) → IsListingOf (codes "c") (codes "d/A.class" ∷ []) 5 (a ∷ []) → ⊥
listing-other a once = once-more a once

-- ---- reading a file

abbrev answer : Result (List ℕ) ReadError → Result (List ℕ) ReadError
answer r = r

two : Option Contents
two = Some (λ path. Some (1 ∷ 2 ∷ []))

file-two : (path : List ℕ) → ReadsFile (λ (bytes : List ℕ). bytes) two path 2 (answer (Err read_errors.TooLong)) → ⊥
unfolding two
file-two path h = omega (arith, h)

file-one : (path : List ℕ) → ReadsFile (λ (bytes : List ℕ). bytes) two path 1 (answer (Err read_errors.TooLong))
unfolding two
file-one path = omega arith

file-other : (path : List ℕ) → ReadsFile (λ (bytes : List ℕ). bytes) two path 5 (answer (Ok (1 ∷ []))) → ⊥
unfolding two
file-other path h = absurd (cc (h.1))

opened-other : (path : List ℕ) → IsFileOpened {F = List ℕ} (λ left. Some left) two path (Ok (1 ∷ [], 0)) → ⊥
unfolding two
opened-other path h = absurd cc

opened-unreported : (path : List ℕ) → IsFileOpened {F = List ℕ} (λ left. None) two path (Ok (1 ∷ [], 0)) → ⊥
unfolding two
opened-unreported path h = h
