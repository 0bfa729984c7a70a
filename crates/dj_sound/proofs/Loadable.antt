-- The classes of accepted files and of a library load: they share no names, what stands above each is there, and none stands above itself.
use Rattle.std.proofs.Common.{◌≡◌, ℕ, zero, suc, ◌⊎◌, Bool, true, false, List, [], ◌∷◌, ◌++◌, map, Option, Some, None, Contains, refl, sym, ap, ◌∙◌, subst, inl, inr}
use Rattle.std.specs.Prelude.{is_some, if◌then◌else◌, IsSomeAnd}
use Rattle.std.specs.List.{list_all}
use Rattle.dj_edge.specs.trusted.Held.{File}
use Rattle.dj_names.specs.trusted.Types.{Name, same_name}
use Rattle.dj_names.specs.trusted.Library.{Library, deterministic_library, raw_library}
use Rattle.dj_class.specs.trusted.ClassFile.{ClassFile}
use Rattle.dj_library.specs.trusted.Heads.{Head, library_heads}
use Rattle.dj_report.specs.trusted.Lines.{file_line}
use Rattle.dj_hierarchy_rule.specs.trusted.Hierarchy.{IsMissing, IsBadSuperclass, ViolatesHierarchy}
use Rattle.dj_model.specs.trusted.Program.{Class, class_at}
use Rattle.dj_model.specs.trusted.Linking.{option_list}
use Rattle.dj_early_rules.specs.trusted.Heads.{head_of, StandsAmong}
use Rattle.dj_declarations.specs.trusted.Files.{declared_class}
use Rattle.dj_class_table.proofs.Orders.{same_from_names}
use Rattle.dj_loader.specs.Loads.{all_classes, above_names, StandsUnder, LacksAbove, StandsBelow, IsOwnAncestor, IsLoadable}
use Rattle.dj_loader.proofs.Lists.{member_none, member_cases, member_prefix, member_back, member_of_either, member_mapped, of_map}
use Rattle.dj_class_set.proofs.NoCycles.{no_cycle}
use Rattle.dj_sound.specs.Accepted.{IsAcceptedBy}
use Rattle.dj_sound.specs.Laws.{AreLoadable}
use Rattle.dj_sound.proofs.Origins.{head_in, rows_of, IsAlike, deterministic_alike, raw_alike, no_line, holds_hierarchy}
use Rattle.dj_sound.proofs.Names.{none_shared}
use Rattle.dj_sound.proofs.Tests.{all_at}
use Rattle.dj_sound.proofs.Heads.{good_at}
use Rattle.dj_sound.proofs.Methods.{file_of}

-- ---- classes by their names

found_first : (classes : List Class) (c : Class) → Contains classes c → class_at classes c.name ≡ None → ⊥
found_first [] c m e = member_none c m
found_first (d ∷ classes) c m e = by (same_name d.name c.name) refl e (member_cases d classes c m) (found_first classes c) where
  by : (b : Bool) → same_name d.name c.name ≡ b → (if b then Some d else class_at classes c.name) ≡ None → (d ≡ c) ⊎ Contains classes c → (Contains classes c → class_at classes c.name ≡ None → ⊥) → ⊥
  by true same e either more = absurd cc
  by false same e (inl is) more = let yes : same_name d.name c.name ≡ true = same_from_names d.name c.name (ap (λ (x : Class). x.name) is) in absurd cc
  by false same e (inr later) more = more later e

none_behind : (xs ys : List Class) (name : Name) → class_at (xs ++ ys) name ≡ None → class_at ys name ≡ None
none_behind [] ys name e = e
none_behind (x ∷ xs) ys name e = by (same_name x.name name) e (none_behind xs ys name) where
  by : (b : Bool) → (if b then Some x else class_at (xs ++ ys) name) ≡ None → (class_at (xs ++ ys) name ≡ None → class_at ys name ≡ None) → class_at ys name ≡ None
  by true e more = absurd cc
  by false e more = more e

some_is : {A : Type 0} (o : Option A) → is_some o ≡ true → o ≡ None → ⊥
some_is None e none = absurd cc
some_is (Some x) e none = absurd cc

superclass_listed : (o : Option Name) (above : Name) → Contains (option_list o) above → o ≡ Some above
superclass_listed None above m = absurd (member_none above m)
superclass_listed (Some name) above m = elim (member_cases name [] above m) [ inl e ↦ ap Some e | inr more ↦ absurd (member_none above more) ]

-- what stands above a library's classes is in the library
abbrev has_above : List Class → Class → Bool
has_above rows c = list_all (λ (name : Name). is_some (class_at rows name)) (above_names c)

abbrev IsClosed : Library → Type 0
IsClosed library = list_all (has_above (rows_of library)) (rows_of library) ≡ true

deterministic_closed : IsClosed deterministic_library
deterministic_closed = refl

raw_closed : IsClosed raw_library
raw_closed = refl

head_declared : (c : ClassFile) → head_in (declared_class c) ≡ head_of c
unfolding declared_class
head_declared c = refl

heads_of_rows : (library : Library) → map head_in (rows_of library) ≡ library_heads → (h : Head) → Contains library_heads h → (d : Class) × Contains (rows_of library) d × (head_in d ≡ h)
heads_of_rows library are h m = of_map head_in (rows_of library) h (subst (λ (hs : List Head). Contains hs h) (sym are) m)

module _ {judge : Library} (library : Library) (alike : IsAlike library) (closed : IsClosed library) (heads : map head_in (rows_of library) ≡ library_heads) (files : List File) (classes : List ClassFile) (accepted : IsAcceptedBy judge files classes) where
  abbrev all : List Class
  all = all_classes library classes

  -- ---- what stands above a class is there

  stands_there : (h : Head) → StandsAmong files h → (d : Class) × Contains all d × (head_in d ≡ h)
  stands_there h (inl (file, among, c, good, same)) = (
    declared_class c,
    member_prefix (map declared_class classes) (rows_of library) (declared_class c) (member_mapped declared_class classes c (good_at files classes file c accepted.good among good)),
    head_declared c ∙ sym same,
  )
  stands_there h (inr listed) =
      let (d, m, e) = heads_of_rows library heads h listed in
      (d, member_back (map declared_class classes) (rows_of library) d m, e)

  missing : (name : Name) → class_at all name ≡ None → IsMissing (StandsAmong files) name
  missing name none (h, stands, named, _) =
      let (d, m, e) = stands_there h stands in
      let d_named : d.name ≡ name = ap (λ (x : Head). x.name) e ∙ named in
      found_first all d m (ap (class_at all) d_named ∙ none)

  no_violation : (c : ClassFile) → Contains classes c → ViolatesHierarchy (StandsAmong files) (head_of c) → ⊥
  no_violation c m violates =
      let (file, among, good) = file_of files classes c accepted.good m in
      no_line files classes accepted (file_line file.0 6)
      (inl (inr (inr (record { file = file; own = among; class = c; good = good; such = inl violates; line = refl }))))

  file_above : (c : ClassFile) → Contains classes c → (above : Name) → Contains (above_names (declared_class c)) above → class_at all above ≡ None → ⊥
  unfolding declared_class
  file_above c m above listed none = elim (member_of_either (option_list (declared_class c).superclass) (declared_class c).interfaces above listed) [
    | inl prefix ↦
        let is = superclass_listed (declared_class c).superclass above prefix in
        no_violation c m (inr (inl (subst (λ (o : Option Name). IsSomeAnd o (IsBadSuperclass (StandsAmong files))) (sym is) (inl (missing above none)))))
    | inr back ↦ no_violation c m (inr (inr (inr (inl (above, back, inl (missing above none))))))
  ]

  nothing_lacks : (name : Name) → LacksAbove all name → ⊥
  nothing_lacks name (above, under, none) = elim (member_of_either (map declared_class classes) (rows_of library) under.class under.there) [
    | inl prefix ↦
        let (c, own, same) = of_map declared_class classes under.class prefix in
        file_above c own above (subst (λ (x : Class). Contains (above_names x) above) (sym same) under.listed) none
    | inr row ↦
        let each : has_above (rows_of library) under.class ≡ true = all_at (has_above (rows_of library)) (rows_of library) under.class closed row in
        let one : is_some (class_at (rows_of library) above) ≡ true = all_at (λ (n : Name). is_some (class_at (rows_of library) n)) (above_names under.class) above each under.listed in
        some_is (class_at (rows_of library) above) one (none_behind (map declared_class classes) (rows_of library) above none)
  ]

  -- ---- and no class above itself

  abbrev others : List Class
  others = map declared_class classes ++ rows_of deterministic_library

  under_moved : (a b : Name) → StandsUnder all a b → StandsUnder others a b
  under_moved a b under = elim (member_of_either (map declared_class classes) (rows_of library) under.class under.there) [
    | inl prefix ↦ record { class = under.class; there = member_prefix (map declared_class classes) (rows_of deterministic_library) under.class prefix; named = under.named; listed = under.listed }
    | inr row ↦
        let (d, m, e) = of_map head_in (rows_of deterministic_library) (head_in under.class) (subst (λ (hs : List Head). Contains hs (head_in under.class)) alike (member_mapped head_in (rows_of library) under.class row)) in
        record {
          class = d;
          there = member_back (map declared_class classes) (rows_of deterministic_library) d m;
          named = ap (λ (h : Head). h.name) e ∙ under.named;
          listed = subst (λ (h : Head). Contains (option_list h.superclass ++ h.interfaces) b) (sym e) under.listed;
        }
  ]

  below_moved : (n : ℕ) (a b : Name) → StandsBelow n all a b → StandsBelow n others a b
  below_moved zero a b under = under_moved a b under
  below_moved (suc n) a b (between, under, below) = (between, under_moved a between under, below_moved n between b below)

  never_round : (name : Name) → IsOwnAncestor all name → ⊥
  never_round name (n, below) = no_cycle files classes (holds_hierarchy files classes accepted) accepted.good name (n, below_moved n name name below)

  pub loadable : IsLoadable all
  loadable = record {
    differ = λ name shared. none_shared library alike files classes name (holds_hierarchy files classes accepted) accepted.good shared;
    whole = nothing_lacks;
    acyclic = never_round;
  }

deterministic_heads : map head_in (rows_of deterministic_library) ≡ library_heads
unfolding library_heads
deterministic_heads = refl

pub are_loadable : AreLoadable
are_loadable = record {
  deterministic = loadable deterministic_library deterministic_alike deterministic_closed deterministic_heads;
  raw = loadable raw_library raw_alike raw_closed (raw_alike ∙ deterministic_heads);
}

-- those of files that were judged with the raw library load with it
pub raw_loadable : (files : List File) (classes : List ClassFile) → IsAcceptedBy raw_library files classes → IsLoadable (all_classes raw_library classes)
raw_loadable = loadable raw_library raw_alike raw_closed (raw_alike ∙ deterministic_heads)
