-- What stands above the classes of a program of accepted files: interfaces where they are listed, no text, and Object alone above an interface.
use Rattle.std.proofs.Common.{◌≡◌, ◌≢◌, ℕ, zero, suc, Bool, true, false, not, ◌||◌, List, [], ◌∷◌, Option, Some, None, codes, Contains, refl, sym, ap, ◌∙◌, subst, inl, inr, arith, IsTrue}
use Rattle.std.specs.Prelude.{IsSomeAnd}
use Rattle.std.specs.List.{list_all, list_any}
use Rattle.dj_edge.specs.trusted.Held.{File}
use Rattle.dj_names.specs.trusted.Types.{Name, same_name}
use Rattle.dj_names.specs.trusted.Library.{Library, deterministic_library, raw_library}
use Rattle.dj_class.specs.trusted.Access as access
use Rattle.dj_class.specs.trusted.ClassFile.{ClassFile}
use Rattle.dj_library.specs.trusted.Heads.{Head, library_heads}
use Rattle.dj_hierarchy_rule.specs.trusted.Hierarchy.{IsBadInterface}
use Rattle.dj_model.specs.trusted.Types.{object_name, string_name}
use Rattle.dj_model.specs.trusted.Program.{Program, Class, class_at, superclass_of, flags_of, is_interface, has_flag}
use Rattle.dj_model.specs.trusted.Linking.{most_classes, chain_of, chain, superclasses, is_among}
use Rattle.dj_model.specs.trusted.Libraries.{library_program}
use Rattle.dj_model.specs.Sound.{is_interface_name, is_object_or_none}
use Rattle.dj_model.proofs.SoundLinks.{class_contained}
use Rattle.dj_early_rules.specs.trusted.Heads.{StandsAmong}
use Rattle.dj_class_table.proofs.Orders.{names_from_same, same_from_names}
use Rattle.dj_program.specs.trusted.Programs.{IsProgramIn}
use Rattle.dj_sound.specs.Accepted.{IsAcceptedBy}
use Rattle.dj_sound.specs.Laws.{IsHierarchy, HaveHierarchy}
use Rattle.dj_sound.proofs.Tests.{is_true, is_false, all_from, all_at}
use Rattle.dj_sound.proofs.Flags.{test_from_bit, bit_from_test}
use Rattle.dj_sound.proofs.Origins.{head_in, IsAlike, deterministic_alike, raw_alike, IsOfFile, origin}
use Rattle.dj_sound.proofs.Members.{IsSoundLibrary, deterministic_sound, raw_sound, row_member}
use Rattle.dj_sound.proofs.Heads.{row_head, there_stands, found, no_violation, no_bad_super}
use Rattle.dj_sound.proofs.Ends.{row_at}

none_false : (xs : List Name) → list_any (λ (x : Name). false) xs ≡ false
none_false [] = refl
none_false (x ∷ xs) = none_false xs

-- ---- heads of the library below which none stands

abbrev string_head : Head
string_head = record {
  name = codes "java/lang/String";
  flags = 49;
  superclass = Some (codes "java/lang/Object");
  interfaces = codes "java/lang/Comparable" ∷ codes "java/lang/CharSequence" ∷ [];
}

string_there : Contains library_heads string_head
unfolding library_heads
string_there = (1, omega arith, refl)

abbrev pub is_below : Name → Option Name → Bool
is_below name None = false
is_below name (Some above) = same_name name above

none_below_string : list_all (λ (h : Head). not (is_below (string_name []) h.superclass)) library_heads ≡ true
unfolding library_heads
none_below_string = refl

-- ---- classes above a class

-- what is among them stands right above one of the program's classes
pub above_class : (program : Program) (n : ℕ) (class name : Name) → is_among (chain_of n program (superclass_of (class_at program class))) name ≡ true
    → (c : Class) × Contains program c × (c.superclass ≡ Some name)
unfolding chain_of
above_class program zero class name e = absurd cc
above_class program (suc n) class name e = by (class_at program class) refl e (λ above. above_class program n above name) where
  by : (o : Option Class) → class_at program class ≡ o → is_among (chain_of (suc n) program (superclass_of o)) name ≡ true
      → ((above : Name) → is_among (chain_of n program (superclass_of (class_at program above))) name ≡ true → (c : Class) × Contains program c × (c.superclass ≡ Some name))
      → (c : Class) × Contains program c × (c.superclass ≡ Some name)
  by None at e more = absurd cc
  by (Some c) at e more = up c.superclass refl e where
    up : (s : Option Name) → c.superclass ≡ s → is_among (chain_of (suc n) program s) name ≡ true → (c : Class) × Contains program c × (c.superclass ≡ Some name)
    up None is e = absurd cc
    up (Some above) is e = first (same_name name above) refl e where
      first : (b : Bool) → same_name name above ≡ b → (b || is_among (chain_of n program (superclass_of (class_at program above))) name) ≡ true
          → (c : Class) × Contains program c × (c.superclass ≡ Some name)
      first true same e = (c, (class_contained program class c at).0, is ∙ ap Some (sym (names_from_same name above same)))
      first false same e = more above e

above_chain : (program : Program) (n : ℕ) (class name : Name) → is_among (superclasses (chain_of n program (Some class))) name ≡ true
    → (c : Class) × Contains program c × (c.superclass ≡ Some name)
unfolding chain_of
above_chain program zero class name e = absurd cc
above_chain program (suc n) class name e = above_class program n class name e

-- ---- the program

module _ {judge : Library} (library : Library) (alike : IsAlike library) (sound : IsSoundLibrary library) (files : List File) (classes : List ClassFile) (program : Program) (accepted : IsAcceptedBy judge files classes) (is : IsProgramIn library classes program) where
  -- no class stands right below a final one of the library, below which none of its own stands
  pub never_below : (head : Head) → Contains library_heads head → has_flag 4 head.flags ≡ true → list_all (λ (h : Head). not (is_below head.name h.superclass)) library_heads ≡ true
      → (class : Class) → Contains program class → class.superclass ≡ Some head.name → ⊥
  never_below head listed final none class m e = elim (origin library files classes program accepted.good is class m) [
    | inl of ↦
        no_bad_super library alike files classes program accepted is class head.name of e
        (inr (head, inr listed, refl, inr (bit_from_test head.flags 4 final)))
    | inr row ↦
        let own : Contains library_heads (head_in class) = row_head library alike files classes program accepted is class row in
        let test : not (is_below head.name class.superclass) ≡ true = all_at (λ (h : Head). not (is_below head.name h.superclass)) library_heads (head_in class) none own in
        let yes : same_name head.name head.name ≡ true = same_from_names head.name head.name refl in
        let bad : not (is_below head.name class.superclass) ≡ false = ap (λ (o : Option Name). not (is_below head.name o)) e ∙ ap not yes in
        absurd cc
  ]

  never_below_string : (class : Class) → Contains program class → class.superclass ≡ Some (string_name []) → ⊥
  never_below_string = never_below string_head string_there refl none_below_string

  no_text_above : (class : Name) → IsTrue (not (is_among (superclasses (chain program class)) (string_name [])))
  no_text_above class = ap not (is_false (is_among (superclasses (chain program class)) (string_name [])) (λ e.
      let (c, m, below) = above_chain program most_classes class (string_name []) e in
      never_below_string c m below))

  -- ---- interfaces

  -- a name that is there and that no class bears which is none
  interface_there : (class : Class) → IsOfFile files classes class → (name : Name) → Contains class.interfaces name → is_interface_name program name ≡ true
  interface_there class of name m =
      let no_bad = λ (bad : IsBadInterface (StandsAmong files) name).
      no_violation library alike files classes program accepted is class of (inr (inr (inr (inl (name, m, bad))))) in
      let (d, at) = found library alike files classes program accepted is name (λ none. no_bad (inl none)) in
      let (there, named) = class_contained program name d at in
      let such : is_interface d.flags ≡ true = is_true (is_interface d.flags) (λ none.
      no_bad (inr (
        head_in d,
        there_stands library alike files classes program accepted is d there,
        named,
        λ bit. let set : is_interface d.flags ≡ true = test_from_bit d.flags access.interface bit in absurd cc,
      ))) in
      ap (λ (o : Option Class). is_interface (flags_of o)) at ∙ such

  row_interface : (name : Name) → is_interface_name (library_program library) name ≡ true → is_interface_name program name ≡ true
  row_interface name e = by (class_at (library_program library) name) refl e where
    by : (o : Option Class) → class_at (library_program library) name ≡ o → is_interface (flags_of o) ≡ true → is_interface_name program name ≡ true
    by None at e = absurd cc
    by (Some d) at e = ap (λ (o : Option Class). is_interface (flags_of o)) (row_at library alike sound files classes program accepted is name d at) ∙ e

  listed_interfaces : (class : Class) → Contains program class → IsTrue (list_all (is_interface_name program) class.interfaces)
  listed_interfaces class m = elim (origin library files classes program accepted.good is class m) [
    | inl of ↦ all_from (is_interface_name program) class.interfaces (interface_there class of)
    | inr row ↦
        let own = (sound.classes class (row_member library class row)).interfaces in
        all_from (is_interface_name program) class.interfaces (λ name listed. row_interface name (all_at (is_interface_name (library_program library)) class.interfaces name own listed))
  ]

  -- ---- above an interface

  off_object : (class : Class) → IsOfFile files classes class → (name : Name) → class.superclass ≡ Some name → is_interface class.flags ≡ true → same_name name (object_name []) ≡ true
  off_object class of name e interface = is_true (same_name name (object_name [])) (λ other.
      no_violation library alike files classes program accepted is class of (inr (inr (inl (
        bit_from_test class.flags access.interface interface,
        subst (λ (o : Option Name). IsSomeAnd o (λ n. n ≢ codes "java/lang/Object")) (sym e)
            (λ same. let yes : same_name name (object_name []) ≡ true = same_from_names name (object_name []) same in absurd cc),
      )))))

  above_interface : (class : Class) → Contains program class → IsTrue (not (is_interface class.flags) || is_object_or_none [] class.superclass)
  above_interface class m = elim (origin library files classes program accepted.good is class m) [
    | inl of ↦ by of (is_interface class.flags) refl class.superclass refl
    | inr row ↦ (sound.classes class (row_member library class row)).above_interface
  ]
    where
      by : IsOfFile files classes class → (b : Bool) → is_interface class.flags ≡ b → (o : Option Name) → class.superclass ≡ o → (not b || is_object_or_none [] o) ≡ true
      by of false e o above = refl
      by of true e None above = refl
      by of true e (Some name) above = off_object class of name above e

  pub hierarchy : IsHierarchy program
  hierarchy class m = record {
    interfaces = listed_interfaces class m;
    above_interface = above_interface class m;
    above = no_text_above class.name;
    above_stop = ap not (none_false (superclasses (chain program class.name)));
  }

pub have_hierarchy : HaveHierarchy
have_hierarchy = record {
  deterministic = hierarchy deterministic_library deterministic_alike deterministic_sound;
  raw = hierarchy raw_library raw_alike raw_sound;
}
