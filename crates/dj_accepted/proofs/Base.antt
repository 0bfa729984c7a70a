-- Object stands at the top of the program of accepted files, each class is below it, and the classes are there of which the machine makes objects.
use Rattle.std.proofs.Common.{◌≡◌, ℕ, ◌+◌, ◌≤◌, Bool, true, false, ◌||◌, List, [], ◌∷◌, ◌++◌, length, Option, Some, None, Contains, refl, sym, ap, ◌∙◌, inl, inr, arith}
use Rattle.std.specs.Prelude.{is_some, nat_le, IsSome, if◌then◌else◌}
use Rattle.std.specs.List.{list_all}
use Rattle.std.proofs.lemmas.List.{length-append}
use Rattle.std.proofs.lemmas.Bool.Decides.{nat_tests}
use Rattle.dj_edge.specs.trusted.Held.{File}
use Rattle.dj_names.specs.declared.run.Raised.{Raised}
use Rattle.dj_names.specs.declared.run.Raised.TheVariants as raises
use Rattle.dj_names.specs.trusted.Types.{Name, same_name}
use Rattle.dj_names.specs.trusted.Values.{raised_class}
use Rattle.dj_names.specs.declared.native.NativeId.TheVariants as natives
use Rattle.dj_names.specs.trusted.Library.{deterministic_library, object_row}
use Rattle.dj_class.specs.trusted.ClassFile.{ClassFile}
use Rattle.dj_library.specs.trusted.Heads.{Head, library_heads}
use Rattle.dj_model.specs.trusted.Types.{object_name, string_name}
use Rattle.dj_model.specs.trusted.Program.{Program, Class, class_at, method_of, initialiser_of, has_initialiser, runs_static}
use Rattle.dj_model.specs.trusted.Linking.{most_classes}
use Rattle.dj_model.specs.trusted.Libraries.{library_class, is_name_before, inserted, joined, library_program}
use Rattle.dj_class_table.proofs.Orders.{names_from_same}
use Rattle.dj_program.specs.trusted.Programs.{AreSideBySide, IsClassIn, IsProgramIn}
use Rattle.dj_class_set.specs.trusted.Checked.{AreGoodFiles}
use Rattle.dj_sim.specs.Simulation.{HasObject}
use Rattle.dj_sim.specs.Objects.{HasBase}
use Rattle.dj_sound.specs.Accepted.{IsAccepted}
use Rattle.dj_sound.proofs.Tests.{all_at}
use Rattle.dj_sound.proofs.Origins.{head_in, rows_of, deterministic_alike, as_joined, origin}
use Rattle.dj_sound.proofs.Members.{deterministic_sound}
use Rattle.dj_sound.proofs.Heads.{row_head, no_violation}
use Rattle.dj_sound.proofs.Ends.{row_at, class_ends}
use Rattle.dj_accepted.specs.Laws.{IsFew, AreFew, HaveBase}
use Rattle.dj_accepted.proofs.Chains.{chain_reaches}

-- ---- the library

abbrev object_of_library : Class
object_of_library = library_class (object_row natives.ObjectHashCode natives.ObjectToString)

object_listed : class_at (library_program deterministic_library) (object_name []) ≡ Some object_of_library
object_listed = refl

raised_listed : (raised : Raised) → is_some (class_at (library_program deterministic_library) (raised_class raised)) ≡ true
raised_listed raises.Arithmetic = refl
raised_listed raises.ArrayIndexOutOfBounds = refl
raised_listed raises.ArrayStore = refl
raised_listed raises.ClassCast = refl
raised_listed raises.NegativeArraySize = refl
raised_listed raises.NullPointer = refl
raised_listed raises.StringIndexOutOfBounds = refl

string_listed : is_some (class_at (library_program deterministic_library) (string_name [])) ≡ true
string_listed = refl

-- only Object has nothing above it
abbrev is_top_object : Head → Bool
is_top_object h = is_some h.superclass || same_name h.name (object_name [])

tops_are_object : list_all is_top_object library_heads ≡ true
unfolding library_heads
tops_are_object = refl

module _ (files : List File) (classes : List ClassFile) (program : Program) (accepted : IsAccepted files classes) (is : IsProgramIn deterministic_library classes program) where
  listed_at : (name : Name) (c : Class) → class_at (library_program deterministic_library) name ≡ Some c → class_at program name ≡ Some c
  listed_at = row_at deterministic_library deterministic_alike deterministic_sound files classes program accepted is

  listed : (name : Name) → is_some (class_at (library_program deterministic_library) name) ≡ true → IsSome (class_at program name)
  listed name there = by (class_at (library_program deterministic_library) name) refl there where
    by : (o : Option Class) → class_at (library_program deterministic_library) name ≡ o → is_some o ≡ true → IsSome (class_at program name)
    by None e there = absurd cc
    by (Some c) e there = ap is_some (listed_at name c e)

  object_there : class_at program (object_name []) ≡ Some object_of_library
  object_there = listed_at (object_name []) object_of_library object_listed

  object : HasObject program
  unfolding has_initialiser
  object = record {
    object = object_of_library;
    there = object_there;
    top = refl;
    fields = refl;
    quiet = ap (λ (o : Option Class). runs_static (method_of o (initialiser_of (object_name [])).name (initialiser_of (object_name [])).desc)) object_there;
  }

  top_is_object : (c : Class) → Contains program c → c.superclass ≡ None → c.name ≡ object_name []
  top_is_object c there none = elim (origin deterministic_library files classes program accepted.good is c there) [
    | inl of ↦ absurd (no_violation deterministic_library deterministic_alike files classes program accepted is c of (inl none))
    | inr row ↦
        let own : Contains library_heads (head_in c) = row_head deterministic_library deterministic_alike files classes program accepted is c row in
        let one : is_top_object (head_in c) ≡ true = all_at is_top_object library_heads (head_in c) tops_are_object own in
        let same : same_name c.name (object_name []) ≡ true = ap (λ (o : Option Name). is_some o || same_name c.name (object_name [])) (sym none) ∙ one in
        names_from_same c.name (object_name []) same
  ]

  pub base : IsFew program → HasBase program
  base few = record {
    object = object;
    below = λ c there. chain_reaches program (object_name []) top_is_object few c.name (class_ends deterministic_library deterministic_alike deterministic_sound files classes program accepted is c there);
    raised = λ raised. listed (raised_class raised) (raised_listed raised);
    string = listed (string_name []) string_listed;
  }

pub have_base : HaveBase
have_base files classes program accepted is few = base files classes program accepted is few

-- ---- how many classes there are

length_inserted : (c : Class) (program : Program) → length (inserted c program) ≡ length program + 1
length_inserted c [] = refl
length_inserted c (d ∷ program) = by (is_name_before c.name d.name) (length_inserted c program) where
  by : (b : Bool) → length (inserted c program) ≡ length program + 1 → length (if b then c ∷ d ∷ program else d ∷ inserted c program) ≡ length (d ∷ program) + 1
  by true later = omega arith
  by false later = omega (arith, later)

length_joined : (classes : List Class) → length (joined classes []) ≡ length classes
length_joined [] = refl
length_joined (c ∷ classes) =
    let one = length_inserted c (joined classes []) in
    let later = length_joined classes in
    omega (arith, one, later)

beside_length : {A B : Type 0} (Stand : A → B → Type 0) (xs : List A) (ys : List B) → AreSideBySide Stand xs ys → length xs ≡ length ys
beside_length Stand [] [] each = refl
beside_length Stand [] (y ∷ ys) each = absurd each
beside_length Stand (x ∷ xs) [] each = absurd each
beside_length Stand (x ∷ xs) (y ∷ ys) each = let later = beside_length Stand xs ys each.1 in omega (arith, later)

good_length : (files : List File) (classes : List ClassFile) → AreGoodFiles files classes → length files ≡ length classes
good_length [] [] good = refl
good_length [] (c ∷ classes) good = absurd good
good_length (file ∷ files) [] good = absurd good
good_length (file ∷ files) (c ∷ classes) good = let later = good_length files classes good.1 in omega (arith, later)

at_most_100 : (n : ℕ) → nat_le n 100 ≡ true → n ≤ 100
at_most_100 n e = grind (arith, nat_tests)

few_rows : length (rows_of deterministic_library) ≤ 100
few_rows = at_most_100 (length (rows_of deterministic_library)) refl

few_are_few : (n : ℕ) → n ≤ 4196 → n ≤ most_classes
unfolding most_classes
few_are_few n le = omega (arith, le)

pub are_few : AreFew
are_few files classes program accepted is few =
    let all = ap length (as_joined deterministic_library files classes program accepted.good is) ∙ length_joined (is.classes ++ rows_of deterministic_library) in
    let both = length-append is.classes (rows_of deterministic_library) in
    let own = beside_length IsClassIn classes is.classes is.each in
    let good = good_length files classes accepted.good in
    few_are_few (length program) (omega (arith, all, both, own, good, few, few_rows))
