-- The definitions at plain values: counts, paths of class files, walks through folders and reads within a bound.
use Rattle.std.proofs.Common.{◌≡◌, ℕ, ◌≤◌, true, false, List, [], ◌∷◌, length, Option, Some, None, Result, Ok, Err, refl, arith}
use Rattle.std.specs.Prelude.{codes}
use Rattle.dj_edge.specs.declared.files.ReadError.{ReadError}
use Rattle.dj_edge.specs.declared.files.ReadError.TheVariants as read_errors
use Rattle.dj_edge.specs.declared.walk.EntryKind.TheVariants as kinds
use Rattle.dj_edge.specs.trusted.Counts.{Rose}
use Rattle.dj_edge.specs.Counts.{one_more}
use Rattle.dj_edge.specs.trusted.Held.{is_class_path}
use Rattle.dj_edge.specs.Calls.{CountsRead}
use Rattle.dj_edge.specs.Streams.{ReadsWithin}
use Rattle.dj_edge.specs.Walks.{Tree, Place, inside_of, met_in, class_files_in, IsWalk}

-- a count that stands did not go up
rose-stands : Rose 3 3 → ⊥
rose-stands h = omega (arith, h.1)

rose-more : Rose 3 4
rose-more = (omega arith, omega arith)

more-is : one_more 3 ≡ 4
more-is = refl

more-last : one_more 18446744073709551615 ≡ 18446744073709551615
more-last = refl

class-path : is_class_path (codes "c") (codes "c/A.class") ≡ true
class-path = refl

class-other_folder : is_class_path (codes "c") (codes "cd/A.class") ≡ false
class-other_folder = refl

class-other_name : is_class_path (codes "c") (codes "c/A.clas") ≡ false
class-other_name = refl

-- below the last level nothing is met, not even an empty folder
met-too_deep : (tree : Tree) (folder : List ℕ) → met_in tree 0 folder ≡ None
unfolding met_in
met-too_deep tree folder = refl

inside-other_class : (inside : Option (List Place)) → inside_of kinds.Other true inside ≡ None
inside-other_class inside = refl

inside-other : (inside : Option (List Place)) → inside_of kinds.Other false inside ≡ Some []
inside-other inside = refl

-- a folder that is named as a class file is none
folder-no_file : class_files_in ((codes "c/A.class", kinds.Folder) ∷ (codes "c/B.class", kinds.File) ∷ []) ≡ codes "c/B.class" ∷ []
folder-no_file = refl

walk-few : (tree : Option Tree) (folder : List ℕ) (found : List (List ℕ)) (w : IsWalk tree folder found) → length w.places ≤ 1048576
walk-few tree folder found w = w.few

abbrev answer : Result (List ℕ) ReadError → Result (List ℕ) ReadError
answer r = r

counts-absent : CountsRead 3 4 (answer (Err read_errors.Absent)) → ⊥
counts-absent h = absurd cc

counts-failed : CountsRead 3 3 (answer (Err read_errors.Failed)) → ⊥
counts-failed h = absurd cc

-- two bytes are not more than two
long-two : ReadsWithin (λ (bytes : List ℕ). bytes) (Some (1 ∷ 2 ∷ [])) 2 (answer (Err read_errors.TooLong)) → ⊥
long-two h = omega (arith, h)

long-one : ReadsWithin (λ (bytes : List ℕ). bytes) (Some (1 ∷ 2 ∷ [])) 1 (answer (Err read_errors.TooLong))
long-one = omega arith

read-other : ReadsWithin (λ (bytes : List ℕ). bytes) (Some (1 ∷ 2 ∷ [])) 5 (answer (Ok (1 ∷ []))) → ⊥
read-other h = absurd cc
