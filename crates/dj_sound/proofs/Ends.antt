-- Upward from each class of accepted files there is an end.
use Rattle.std.proofs.Common.{◌≡◌, ℕ, zero, suc, ◌<◌, ◌≤◌, ◌⊎◌, Bool, true, false, List, [], ◌∷◌, ◌++◌, map, length, Option, Some, None, Contains, refl, sym, ap, ◌∙◌, subst, inl, inr, arith}
use Rattle.std.specs.Prelude.{if◌then◌else◌}
use Rattle.dj_edge.specs.trusted.Held.{File}
use Rattle.dj_names.specs.trusted.Types.{Name, same_name}
use Rattle.dj_names.specs.trusted.Library.{Library, deterministic_library, raw_library}
use Rattle.dj_class.specs.trusted.ClassFile.{ClassFile}
use Rattle.dj_file_rules.specs.trusted.Violations.{this_name}
use Rattle.dj_model.specs.trusted.Program.{Program, Class, class_at}
use Rattle.dj_model.specs.trusted.Linking.{option_list}
use Rattle.dj_model.specs.trusted.Libraries.{library_class, library_program}
use Rattle.dj_model.specs.Sound.{ReachesTop, top, below}
use Rattle.dj_model.proofs.SoundLinks.{class_contained}
use Rattle.dj_declarations.specs.trusted.Files.{declared_class}
use Rattle.dj_class_table.proofs.Orders.{names_from_same, same_from_names}
use Rattle.dj_class_table.proofs.Rising.{members_joined}
use Rattle.dj_loader.specs.Loads.{StandsUnder, StandsBelow, IsOwnAncestor}
use Rattle.dj_loader.proofs.Lists.{member_first, member_later, member_none, member_cases, member_prefix, member_mapped, of_map}
use Rattle.dj_program.specs.trusted.Programs.{IsProgramIn}
use Rattle.dj_class_set.proofs.NoCycles.{no_cycle}
use Rattle.dj_sound.specs.Accepted.{IsAcceptedBy, OfAcceptedBy}
use Rattle.dj_sound.specs.Laws.{HasEnds, HaveEnds}
use Rattle.dj_sound.proofs.Origins.{rows_of, IsAlike, deterministic_alike, raw_alike, IsOfFile, origin, row_there, holds_hierarchy}
use Rattle.dj_sound.proofs.Members.{IsSoundLibrary, deterministic_sound, raw_sound, row_member}
use Rattle.dj_sound.proofs.Heads.{at_name, at_named, super_there}

-- ---- lists of names without one

abbrev pub without : Name → List Name → List Name
without name [] = []
without name (n ∷ names) = if same_name n name then without name names else n ∷ without name names

no_longer : (name : Name) (names : List Name) → length (without name names) ≤ length names
no_longer name [] = omega arith
no_longer name (n ∷ names) = by (same_name n name) (no_longer name names) where
  by : (b : Bool) → length (without name names) ≤ length names → length (if b then without name names else n ∷ without name names) ≤ length (n ∷ names)
  by true le = omega (arith, le)
  by false le = omega (arith, le)

pub shorter : (name : Name) (names : List Name) → Contains names name → length (without name names) < length names
shorter name [] m = absurd (member_none name m)
shorter name (n ∷ names) m = by (same_name n name) refl (no_longer name names) (member_cases n names name m) (shorter name names) where
  by : (b : Bool) → same_name n name ≡ b → length (without name names) ≤ length names → (n ≡ name) ⊎ Contains names name → (Contains names name → length (without name names) < length names)
      → length (if b then without name names else n ∷ without name names) < length (n ∷ names)
  by true e le either rest = omega (arith, le)
  by false e le (inl same) rest = let yes : same_name n name ≡ true = same_from_names n name same in absurd cc
  by false e le (inr later) rest = let lt = rest later in omega (arith, lt)

pub kept : (name other : Name) (names : List Name) → Contains names other → (other ≡ name → ⊥) → Contains (without name names) other
kept name other [] m apart = absurd (member_none other m)
kept name other (n ∷ names) m apart = by (same_name n name) refl (member_cases n names other m) (λ later. kept name other names later apart) where
  by : (b : Bool) → same_name n name ≡ b → (n ≡ other) ⊎ Contains names other → (Contains names other → Contains (without name names) other)
      → Contains (if b then without name names else n ∷ without name names) other
  by true e (inl same) rest = absurd (apart (sym same ∙ names_from_same n name e))
  by true e (inr later) rest = rest later
  by false e (inl same) rest = subst (Contains (n ∷ without name names)) same (member_first n (without name names))
  by false e (inr later) rest = member_later n (without name names) other (rest later)

-- ---- upward

module _ {judge : Library} (library : Library) (alike : IsAlike library) (sound : IsSoundLibrary library) (files : List File) (classes : List ClassFile) (program : Program) (accepted : IsAcceptedBy judge files classes) (is : IsProgramIn library classes program) where
  -- of a class of the library as in the library alone
  pub row_at : (name : Name) (c : Class) → class_at (library_program library) name ≡ Some c → class_at program name ≡ Some c
  row_at name c at =
      let (m, named) = class_contained (library_program library) name c at in
      let listed = (members_joined (rows_of library) c).0 m in
      let (row, own, same) = of_map library_class library c listed in
      let there : Contains program c = subst (Contains program) same (row_there library files classes program accepted.good is row (member_mapped library_class library row own)) in
      at_named library alike files classes program accepted is c name there named

  library_ends : (name : Name) → ReachesTop (library_program library) name → ReachesTop program name
  library_ends name (top class c at none) = top class c (row_at class c at) none
  library_ends name (below class above c at next more) = below class above c (row_at class c at) next (library_ends above more)

  -- ---- classes of files

  abbrev all : List Class
  all = map declared_class classes ++ rows_of deterministic_library

  never_round : (name : Name) → IsOwnAncestor all name → ⊥
  never_round name own = no_cycle files classes (holds_hierarchy files classes accepted) accepted.good name own

  data Up (a : Name) (b : Name) : Type 0 where
    Stays : a ≡ b → Up a b
    Climbs : (n : ℕ) → StandsBelow n all a b → Up a b

  under_super : (class : Class) (above : Name) → IsOfFile files classes class → class.superclass ≡ Some above → StandsUnder all class.name above
  unfolding declared_class
  under_super class above of e = record {
    class = declared_class of.read;
    there = member_prefix (map declared_class classes) (rows_of deterministic_library) (declared_class of.read) (member_mapped declared_class classes of.read of.listed);
    named = ap (λ (c : Class). c.name) (sym of.is.is);
    listed = subst (λ (o : Option Name). Contains (option_list o ++ (declared_class of.read).interfaces) above)
        (sym e ∙ ap (λ (c : Class). c.superclass) of.is.is)
        (member_first above (declared_class of.read).interfaces);
  }

  above_up : (a above b : Name) → StandsUnder all a above → Up above b → Up a b
  above_up a above b under (Stays e) = Climbs 0 (subst (StandsUnder all a) e under)
  above_up a above b under (Climbs n way) = Climbs (suc n) (above, under, way)

  not_itself : (a above : Name) → StandsUnder all a above → Up above a → ⊥
  not_itself a above under (Stays e) = never_round a (0, subst (StandsUnder all a) e under)
  not_itself a above under (Climbs n way) = never_round a (suc n, (above, under, way))

  -- the names of the files' classes upward from a name are among these
  abbrev AreAmong : List Name → Name → Type 0
  AreAmong rest name = (c : ClassFile) → Contains classes c → Up name (this_name c) → Contains rest (this_name c)

  name_read : (class : Class) (of : IsOfFile files classes class) → class.name ≡ this_name of.read
  unfolding declared_class
  name_read class of = ap (λ (c : Class). c.name) of.is.is

  next_among : (rest : List Name) (class : Class) (above : Name) → IsOfFile files classes class → class.superclass ≡ Some above → AreAmong rest class.name → AreAmong (without class.name rest) above
  next_among rest class above of e among c m up =
      let under = under_super class above of e in
      kept class.name (this_name c) rest (among c m (above_up class.name above (this_name c) under up))
      (λ same. not_itself class.name above under (subst (Up above) same up))

  of_file : (rest : List Name) (class : Class) → Contains program class → AreAmong rest class.name
      → ((d : Class) → length (without class.name rest) < length rest → Contains program d → AreAmong (without class.name rest) d.name → ReachesTop program d.name)
      → IsOfFile files classes class → (o : Option Name) → class.superclass ≡ o → ReachesTop program class.name
  of_file rest class m among more of None e = top class.name class (at_name library alike files classes program accepted is class m) e
  of_file rest class m among more of (Some above) e =
      let (d, at) = super_there library alike files classes program accepted is class above of e in
      let (there, named) = class_contained program above d at in
      let own : Contains rest class.name = subst (Contains rest) (sym (name_read class of)) (among of.read of.listed (Stays (name_read class of))) in
      let next = next_among rest class above of e among in
      let up : ReachesTop program d.name = more d (shorter class.name rest own) there (subst (AreAmong (without class.name rest)) (sym named) next) in
      below class.name above class (at_name library alike files classes program accepted is class m) e (subst (ReachesTop program) named up)

  ends_among : (fuel : ℕ) (rest : List Name) (class : Class) → length rest < fuel → Contains program class → AreAmong rest class.name → ReachesTop program class.name
  ends_among zero rest class lt m among = absurd (omega (arith, lt))
  ends_among (suc n) rest class lt m among = elim (origin library files classes program accepted.good is class m) [
    | inl of ↦ of_file rest class m among (λ d less there. ends_among n (without class.name rest) d (omega (arith, lt, less)) there) of class.superclass refl
    | inr row ↦ library_ends class.name (sound.formed.classes class (row_member library class row)).ends
  ]

  pub class_ends : (class : Class) → Contains program class → ReachesTop program class.name
  class_ends class m =
      ends_among (suc (length (map this_name classes))) (map this_name classes) class (omega arith) m (λ c own up. member_mapped this_name classes c own)

pub ends : {judge : Library} (library : Library) → IsAlike library → IsSoundLibrary library → OfAcceptedBy judge library HasEnds
ends library alike sound files classes program accepted is class m = class_ends library alike sound files classes program accepted is class m

pub have_ends : HaveEnds
have_ends = record { deterministic = ends deterministic_library deterministic_alike deterministic_sound; raw = ends raw_library raw_alike raw_sound }
