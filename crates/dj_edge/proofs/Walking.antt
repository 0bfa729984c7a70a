-- A walk through folders, entry by entry.
use Rattle.std.proofs.Common.{◌≡◌, ℕ, zero, suc, ◌+◌, ◌-◌, ◌<◌, ◌≤◌, Bool, true, false, List, [], ◌∷◌, ◌++◌, length, length-append, map, filter, take, get_or, string_bytes, Option, Some, None, IfSome, option_map, option_and_then, refl, sym, ap, ◌∙◌, subst, append_assoc, append-nil, arith, ◌&&◌, ◌||◌, not, cond}
use Rattle.std.specs.Bool.{⊤}
use Rattle.std.proofs.lemmas.List.{take_more, take_all, map-append, length-map}
use Rattle.std.proofs.lemmas.List.Elements.{filter-append}
use Rattle.dj_edge.specs.declared.walk.FolderEntry.{FolderEntry}
use Rattle.dj_edge.specs.declared.walk.EntryKind.{EntryKind}
use Rattle.dj_edge.specs.declared.walk.EntryKind.TheVariants as kinds
use Rattle.dj_edge.specs.declared.walk.FolderEntries.{FolderEntries}
use Rattle.dj_edge.specs.declared.walk.Walk.{Walk}
use Rattle.dj_edge.specs.Walks.{Place, place_of, Tree, has_class_name, is_file, is_folder, is_kept, inside_of, with_inside, spread, met_in, class_files_in, texts_found, AreEntries, IsEntryTaken, IsWalked}

class_files-append : (xs ys : List Place) → class_files_in (xs ++ ys) ≡ class_files_in xs ++ class_files_in ys
class_files-append xs ys =
    let is : Place → _ = λ place. is_file place.1 && has_class_name place.0 in
    ap (map (λ (place : Place). place.0)) (filter-append is xs ys) ∙ map-append (λ (place : Place). place.0) (filter is xs) (filter is ys)

-- a prefix and then the rest, where both are there
abbrev pub joined : Option (List Place) → Option (List Place) → Option (List Place)
joined a b = option_and_then (λ prefix. option_map (λ rest. prefix ++ rest) b) a

joined_more : (a b c : Option (List Place)) (all more : List Place) → joined a b ≡ Some all → ((rest : List Place) → b ≡ Some rest → c ≡ Some (rest ++ more)) → joined a c ≡ Some (all ++ more)
joined_more None b c all more e step = absurd cc
joined_more (Some prefix) None c all more e step = absurd cc
joined_more (Some prefix) (Some rest) c all more e step =
    let whole : prefix ++ rest ≡ all = cc in
    ap (option_map (λ (l : List Place). prefix ++ l)) (step rest refl) ∙ ap Some (sym (append_assoc prefix rest more) ∙ ap (λ (l : List Place). l ++ more) whole)

spread_more : (inside : Tree) (xs : List Place) (x : Place) (all more : List Place) → spread inside xs ≡ Some all → with_inside inside x ≡ Some more → spread inside (xs ++ x ∷ []) ≡ Some (all ++ more)
unfolding spread
spread_more inside [] x all more e step =
    let none : [] ≡ all = cc in
    ap (λ o. joined o (Some [])) step ∙ ap Some (append-nil more ∙ ap (λ (l : List Place). l ++ more) none)
spread_more inside (y ∷ ys) x all more e step =
    joined_more (with_inside inside y) (spread inside ys) (spread inside (ys ++ x ∷ [])) all more e (λ rest same. spread_more inside ys x rest more same step)

-- what was met of the entries so far
pub record SoFar (tree : Option Tree) (levels : ℕ) (done : List FolderEntry) (before now : Walk) : Type 0 where
  pub places : List Place
  pub reported : IfSome tree (λ t. spread (met_in t (levels - 1)) (map place_of done) ≡ Some places)
  pub found : texts_found now ≡ texts_found before ++ class_files_in places
  pub entries : now.entries + length done ≡ before.entries + length places

spread_none : (tree : Option Tree) (levels : ℕ) → IfSome tree (λ t. spread (met_in t (levels - 1)) [] ≡ Some [])
unfolding spread
spread_none None levels = tt
spread_none (Some t) levels = refl

pub so_far_none : (tree : Option Tree) (levels : ℕ) (walk : Walk) → SoFar tree levels [] walk walk
so_far_none tree levels walk = record {
  places = [];
  reported = spread_none tree levels;
  found = sym (append-nil (texts_found walk));
  entries = omega arith;
}

reported_more : (tree : Option Tree) (levels : ℕ) (done : List FolderEntry) (entry : FolderEntry) (all more : List Place) → IfSome tree (λ t. spread (met_in t (levels - 1)) (map place_of done) ≡ Some all)
    → IfSome tree (λ t. with_inside (met_in t (levels - 1)) (place_of entry) ≡ Some more) → IfSome tree (λ t. spread (met_in t (levels - 1)) (map place_of (done ++ entry ∷ [])) ≡ Some (all ++ more))
reported_more None levels done entry all more e step = tt
reported_more (Some t) levels done entry all more e step =
    ap (spread (met_in t (levels - 1))) (map-append place_of done (entry ∷ [])) ∙ spread_more (met_in t (levels - 1)) (map place_of done) (place_of entry) all more e step

so_far_more : (tree : Option Tree) (levels : ℕ) (done : List FolderEntry) (entry : FolderEntry) (before mid now : Walk) (more : List Place) → SoFar tree levels done before mid
    → IfSome tree (λ t. with_inside (met_in t (levels - 1)) (place_of entry) ≡ Some more) → texts_found now ≡ texts_found mid ++ class_files_in more → now.entries + 1 ≡ mid.entries + length more
    → SoFar tree levels (done ++ entry ∷ []) before now
so_far_more tree levels done entry before mid now more far step found count = record {
  places = far.places ++ more;
  reported = reported_more tree levels done entry far.places more far.reported step;
  found = found ∙ ap (λ (l : List (List ℕ)). l ++ class_files_in more) far.found ∙ append_assoc (texts_found before) (class_files_in far.places) (class_files_in more)
      ∙ ap (λ (l : List (List ℕ)). texts_found before ++ l) (sym (class_files-append far.places more));
  entries = omega (arith, far.entries, count, length-append done (entry ∷ []), length-append far.places more);
}

file_reported : (tree : Option Tree) (levels : ℕ) (entry : FolderEntry) (before now : Walk) → IsEntryTaken entry before now false → IfSome tree (λ t. with_inside (met_in t (levels - 1)) (place_of entry) ≡ Some (place_of entry ∷ []))
file_reported None levels entry before now taken = tt
file_reported (Some t) levels entry before now taken = ap (option_map (λ (l : List Place). place_of entry ∷ l)) (taken.other refl (met_in t (levels - 1) (string_bytes entry.path)))

-- an entry that is no folder
pub so_far_file : (tree : Option Tree) (levels : ℕ) (done : List FolderEntry) (entry : FolderEntry) (before mid now : Walk) → SoFar tree levels done before mid → IsEntryTaken entry mid now false → SoFar tree levels (done ++ entry ∷ []) before now
so_far_file tree levels done entry before mid now far taken =
    so_far_more tree levels done entry before mid now (place_of entry ∷ []) far (file_reported tree levels entry mid now taken) taken.found (omega (arith, taken.entries))

folder_reported : (tree : Option Tree) (levels : ℕ) (entry : FolderEntry) (places : List Place) → entry.kind ≡ kinds.Folder → IfSome tree (λ t. met_in t (levels - 1) (string_bytes entry.path) ≡ Some places)
    → IfSome tree (λ t. with_inside (met_in t (levels - 1)) (place_of entry) ≡ Some (place_of entry ∷ places))
folder_reported None levels entry places is reported = tt
folder_reported (Some t) levels entry places is reported =
    let inside = met_in t (levels - 1) (string_bytes entry.path) in
    let same : inside_of entry.kind (has_class_name (string_bytes entry.path)) inside ≡ inside = ap (λ k. inside_of k (has_class_name (string_bytes entry.path)) inside) is in
    ap (option_map (λ (l : List Place). place_of entry ∷ l)) (same ∙ reported)

no_file : (entry : FolderEntry) → entry.kind ≡ kinds.Folder → class_files_in (place_of entry ∷ []) ≡ []
no_file entry is = ap (λ k. class_files_in ((string_bytes entry.path, k) ∷ [])) is

-- a folder, and what is met in it
pub so_far_folder : (tree : Option Tree) (levels : ℕ) (done : List FolderEntry) (entry : FolderEntry) (before mid between now : Walk) → SoFar tree levels done before mid → IsEntryTaken entry mid between true
    → IsWalked tree (levels - 1) (string_bytes entry.path) between now → SoFar tree levels (done ++ entry ∷ []) before now
so_far_folder tree levels done entry before mid between now far taken walked =
    let is = taken.folder refl in
    let none : texts_found between ≡ texts_found mid = taken.found ∙ ap (λ (l : List (List ℕ)). texts_found mid ++ l) (no_file entry is) ∙ append-nil (texts_found mid) in
    let places = place_of entry ∷ walked.places in
    let files : class_files_in places ≡ class_files_in walked.places =
    class_files-append (place_of entry ∷ []) walked.places ∙ ap (λ (l : List (List ℕ)). l ++ class_files_in walked.places) (no_file entry is) in
    so_far_more tree levels done entry before mid now places far (folder_reported tree levels entry walked.places is walked.reported)
    (walked.found ∙ ap (λ (l : List (List ℕ)). l ++ class_files_in walked.places) none ∙ ap (λ (l : List (List ℕ)). texts_found mid ++ l) (sym files))
    (omega (arith, walked.entries, taken.entries))

-- ---- the entries that a walk does not look at

abbrev unkept : List Place → List Place
unkept all = filter (λ (place : Place). not (is_kept place)) all

abbrev is_class_file : Place → Bool
is_class_file place = is_file place.1 && has_class_name place.0

count_step : (b : Bool) (x : Place) (d k a : List Place) → length d + length k ≡ length a → length (cond (not b) (x ∷ d) d) + length (cond b (x ∷ k) k) ≡ length (x ∷ a)
count_step true x d k a h = omega arith
count_step false x d k a h = omega arith

unkept_count : (all : List Place) → length (unkept all) + length (filter is_kept all) ≡ length all
unkept_count [] = refl
unkept_count (x ∷ xs) = count_step (is_kept x) x (unkept xs) (filter is_kept xs) xs (unkept_count xs)

unkept_no_class : (kind : EntryKind) (named : Bool) → (is_folder kind || named) ≡ false → (is_file kind && named) ≡ false
unkept_no_class kinds.Folder named h = absurd cc
unkept_no_class kinds.File true h = absurd cc
unkept_no_class kinds.File false h = refl
unkept_no_class kinds.Other named h = refl

unkept_inside : (kind : EntryKind) (named : Bool) (inside : Option (List Place)) → (is_folder kind || named) ≡ false → inside_of kind named inside ≡ Some []
unkept_inside kinds.Folder named inside h = absurd cc
unkept_inside kinds.File named inside h = refl
unkept_inside kinds.Other true inside h = absurd cc
unkept_inside kinds.Other false inside h = refl

filter_step : (test : Place → Bool) (x : Place) (d : List Place) → filter test d ≡ [] → (kept : Bool) → (kept ≡ false → test x ≡ false) → filter test (cond (not kept) (x ∷ d) d) ≡ []
filter_step test x d none true fails = none
filter_step test x d none false fails = ap (λ (b : Bool). cond b (x ∷ filter test d) (filter test d)) (fails refl) ∙ none

unkept_filtered : (all : List Place) → filter is_class_file (unkept all) ≡ []
unkept_filtered [] = refl
unkept_filtered (x ∷ xs) = filter_step is_class_file x (unkept xs) (unkept_filtered xs) (is_kept x) (unkept_no_class x.1 (has_class_name x.0))

-- what is met of a list of places, and of those of them that matter: either both or none, the same class files, and as many more as don't matter
abbrev pub Alike : List Place → Option (List Place) → Option (List Place) → Type 0
Alike all (Some places) (Some kept) = (class_files_in places ≡ class_files_in kept) × (length places + length (filter is_kept all) ≡ length kept + length all)
Alike all None None = ⊤
Alike all (Some places) None = ⊥
Alike all None (Some kept) = ⊥

alike_kept : (x : Place) (xs : List Place) (w a b : Option (List Place)) → is_kept x ≡ true → Alike xs a b → Alike (x ∷ xs) (joined w a) (joined w b)
alike_kept x xs None a b is h = tt
alike_kept x xs (Some m) None None is h = tt
alike_kept x xs (Some m) (Some places) None is h = absurd h
alike_kept x xs (Some m) None (Some kept) is h = absurd h
alike_kept x xs (Some m) (Some places) (Some kept) is h =
    let more : length (filter is_kept (x ∷ xs)) ≡ length (x ∷ filter is_kept xs) = ap (λ (b : Bool). length (cond b (x ∷ filter is_kept xs) (filter is_kept xs))) is in (
      class_files-append m places ∙ ap (λ (l : List (List ℕ)). class_files_in m ++ l) h.0 ∙ sym (class_files-append m kept),
      omega (arith, h.1, more, length-append m places, length-append m kept),
    )

alike_unkept : (x : Place) (xs : List Place) (a b : Option (List Place)) → is_kept x ≡ false → Alike xs a b → Alike (x ∷ xs) (joined (Some (x ∷ [])) a) b
alike_unkept x xs None None is h = tt
alike_unkept x xs (Some places) None is h = absurd h
alike_unkept x xs None (Some kept) is h = absurd h
alike_unkept x xs (Some places) (Some kept) is h =
    let same : length (filter is_kept (x ∷ xs)) ≡ length (filter is_kept xs) = ap (λ (b : Bool). length (cond b (x ∷ filter is_kept xs) (filter is_kept xs))) is in
    let no : class_files_in (x ∷ places) ≡ class_files_in places =
    ap (λ (b : Bool). map (λ (place : Place). place.0) (cond b (x ∷ filter is_class_file places) (filter is_class_file places))) (unkept_no_class x.1 (has_class_name x.0) is) in
    (no ∙ h.0, omega (arith, h.1, same))

alike_step : (inside : Tree) (x : Place) (xs : List Place) (b : Bool) → is_kept x ≡ b → Alike xs (spread inside xs) (spread inside (filter is_kept xs))
    → Alike (x ∷ xs) (spread inside (x ∷ xs)) (spread inside (cond b (x ∷ filter is_kept xs) (filter is_kept xs)))
unfolding spread
alike_step inside x xs true is h = alike_kept x xs (with_inside inside x) (spread inside xs) (spread inside (filter is_kept xs)) is h
alike_step inside x xs false is h =
    let alone : with_inside inside x ≡ Some (x ∷ []) = ap (option_map (λ (l : List Place). x ∷ l)) (unkept_inside x.1 (has_class_name x.0) (inside x.0) is) in
    let P : Option (List Place) → Type 0 = λ w. Alike (x ∷ xs) (joined w (spread inside xs)) (spread inside (filter is_kept xs)) in
    subst P (sym alone) (alike_unkept x xs (spread inside xs) (spread inside (filter is_kept xs)) is h)

pub spread_alike : (inside : Tree) (all : List Place) → Alike all (spread inside all) (spread inside (filter is_kept all))
unfolding spread
spread_alike inside [] = (refl, refl)
spread_alike inside (x ∷ xs) = alike_step inside x xs (is_kept x) refl (spread_alike inside xs)

from_kept : (all : List Place) (a b : Option (List Place)) (kept : List Place) → Alike all a b → b ≡ Some kept
    → (places : List Place) × (a ≡ Some places) × (class_files_in places ≡ class_files_in kept) × (length places + length (filter is_kept all) ≡ length kept + length all)
from_kept all (Some places) (Some k) kept h e =
    let same : k ≡ kept = cc in
    (places, refl, h.0 ∙ ap class_files_in same, omega (arith, h.1, ap length same))
from_kept all (Some places) None kept h e = absurd h
from_kept all None (Some k) kept h e = absurd h
from_kept all None None kept h e = absurd cc

pub to_kept : (all : List Place) (a b : Option (List Place)) (places : List Place) → Alike all a b → a ≡ Some places
    → (kept : List Place) × (b ≡ Some kept) × (length places + length (filter is_kept all) ≡ length kept + length all)
to_kept all (Some p) (Some kept) places h e =
    let same : p ≡ places = cc in
    (kept, refl, omega (arith, h.1, ap length same))
to_kept all (Some p) None places h e = absurd h
to_kept all None (Some kept) places h e = absurd h
to_kept all None None places h e = absurd cc

-- ---- all entries of the folder were taken

met_whole : (t : Tree) (levels : ℕ) (folder : List ℕ) (entries places : List Place) → 0 < levels → t folder ≡ Some entries → spread (met_in t (levels - 1)) entries ≡ Some places → met_in t levels folder ≡ Some places
unfolding met_in
met_whole t zero folder entries places some read e = absurd (omega arith)
met_whole t (suc k) folder entries places some read e =
    let less : suc k - 1 ≡ k = omega arith in
    ap (option_and_then (spread (met_in t k))) read ∙ ap (λ n. spread (met_in t n) entries) (sym less) ∙ e

walked_unreported : (levels : ℕ) (folder : List ℕ) (most : ℕ) (entries : FolderEntries) (before first now : Walk) → AreEntries None folder most entries
    → texts_found first ≡ texts_found before → first.entries ≡ before.entries + entries.count → SoFar None levels entries.kept.items first now → IsWalked None levels folder before now
walked_unreported levels folder most entries before first now read same count far =
    let none : class_files_in (unkept read.places) ≡ [] = ap (map (λ (place : Place). place.0)) (unkept_filtered read.places) in
    let files : class_files_in (far.places ++ unkept read.places) ≡ class_files_in far.places =
    class_files-append far.places (unkept read.places) ∙ ap (λ (l : List (List ℕ)). class_files_in far.places ++ l) none ∙ append-nil (class_files_in far.places) in
    let size : length entries.kept.items ≡ length (filter is_kept read.places) = sym (length-map entries.kept.items place_of) ∙ ap length read.kept in
    record {
      places = far.places ++ unkept read.places;
      reported = tt;
      found = far.found ∙ ap (λ (l : List (List ℕ)). l ++ class_files_in far.places) same ∙ ap (λ (l : List (List ℕ)). texts_found before ++ l) (sym files);
      entries = omega (arith, far.entries, count, read.count, size, unkept_count read.places, length-append far.places (unkept read.places));
    }

walked_reported : (t : Tree) (levels : ℕ) (folder : List ℕ) (most : ℕ) (entries : FolderEntries) (before first now : Walk) → 0 < levels → AreEntries (Some t) folder most entries
    → texts_found first ≡ texts_found before → first.entries ≡ before.entries + entries.count → SoFar (Some t) levels entries.kept.items first now → IsWalked (Some t) levels folder before now
walked_reported t levels folder most entries before first now some read same count far =
    let inside : Tree = met_in t (levels - 1) in
    let kept : spread (met_in t (levels - 1)) (filter is_kept read.places) ≡ Some far.places = ap (spread (met_in t (levels - 1))) (sym read.kept) ∙ far.reported in
    let whole = from_kept read.places (spread (met_in t (levels - 1)) read.places) (spread (met_in t (levels - 1)) (filter is_kept read.places)) far.places (spread_alike (met_in t (levels - 1)) read.places) kept in
    let size : length entries.kept.items ≡ length (filter is_kept read.places) = sym (length-map entries.kept.items place_of) ∙ ap length read.kept in
    record {
      places = whole.0;
      reported = met_whole t levels folder read.places whole.0 some read.reported whole.1;
      found = far.found ∙ ap (λ (l : List (List ℕ)). l ++ class_files_in far.places) same ∙ ap (λ (l : List (List ℕ)). texts_found before ++ l) (sym whole.2);
      entries = omega (arith, far.entries, count, read.count, size, whole.3);
    }

pub walked_whole : (tree : Option Tree) (levels : ℕ) (folder : List ℕ) (most : ℕ) (entries : FolderEntries) (before first now : Walk) → 0 < levels → AreEntries tree folder most entries
    → texts_found first ≡ texts_found before → first.entries ≡ before.entries + entries.count → SoFar tree levels entries.kept.items first now → IsWalked tree levels folder before now
walked_whole None levels folder most entries before first now some read same count far = walked_unreported levels folder most entries before first now read same count far
walked_whole (Some t) levels folder most entries before first now some read same count far = walked_reported t levels folder most entries before first now some read same count far

-- ---- the same at equal values

pub taken_as : (entry : FolderEntry) (before now : Walk) (a b : Bool) → a ≡ b → IsEntryTaken entry before now a → IsEntryTaken entry before now b
taken_as entry before now a b same taken = subst (IsEntryTaken entry before now) same taken

pub walked_as : (a b : Option Tree) (levels : ℕ) (x y : List ℕ) (before now : Walk) → a ≡ b → x ≡ y → IsWalked a levels x before now → IsWalked b levels y before now
walked_as a b levels x y before now same path walked =
    subst (λ l. IsWalked b levels l before now) path (subst (λ (o : Option Tree). IsWalked o levels x before now) same walked)

pub so_far_as : (a b : Option Tree) (levels : ℕ) (xs ys : List FolderEntry) (before now : Walk) → a ≡ b → xs ≡ ys → SoFar a levels xs before now → SoFar b levels ys before now
so_far_as a b levels xs ys before now same done far =
    subst (λ (l : List FolderEntry). SoFar b levels l before now) done (subst (λ (o : Option Tree). SoFar o levels xs before now) same far)

pub next_entry : (entries : List FolderEntry) (i : ℕ) (entry : FolderEntry) → i < length entries → entry ≡ get_or entries i entry → take i entries ++ entry ∷ [] ≡ take (i + 1) entries
next_entry entries i entry within is = ap (λ (e : FolderEntry). take i entries ++ e ∷ []) is ∙ sym (take_more entries i entry within)

pub all_entries : (entries all : List FolderEntry) (i : ℕ) → length entries ≤ i → entries ≡ all → take i entries ≡ all
all_entries entries all i past same = take_all i entries past ∙ same
