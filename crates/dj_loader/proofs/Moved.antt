-- What is known of classes in order holds of them in any order.
use Rattle.std.proofs.Common.{◌≡◌, ℕ, zero, suc, List, [], Contains, sym, subst}
use Rattle.dj_names.specs.trusted.Types.{Name}
use Rattle.dj_model.specs.trusted.Program.{Program, Class}
use Rattle.dj_model.specs.trusted.Libraries.{joined}
use Rattle.dj_class_table.specs.Tables.{IsShared}
use Rattle.dj_class_table.specs.ClassRows.{RiseStrictly}
use Rattle.dj_class_table.proofs.Rising.{members_joined, rise_joined, differ_from_none_shared}
use Rattle.dj_loader.specs.declared.error.LoadError.{LoadError}
use Rattle.dj_loader.specs.declared.error.LoadError.TheVariants as errors
use Rattle.dj_loader.specs.Loads.{StandsUnder, LacksAbove, StandsBelow, IsOwnAncestor, IsLeast, Never, IsLoadable, RefusesLoad}
use Rattle.dj_loader.specs.Numbered.{RefusesLacking, RefusesCycles}
use Rattle.dj_loader.proofs.Named.{none_of_name, class_at_none}

pub rise_of_table : (all table : Program) → table ≡ joined all [] → Never (IsShared all) → RiseStrictly table
rise_of_table all table is differ = subst RiseStrictly (sym is) (rise_joined all (differ_from_none_shared all differ))

pub refuses_memory : (all : List Class) (e : LoadError) → e ≡ errors.Memory → RefusesLoad all e
refuses_memory all e is = subst (RefusesLoad all) (sym is) tt

abbrev pub HaveSame : List Class → List Class → Type 0
HaveSame xs ys = (c : Class) → Contains xs c → Contains ys c

pub in_table : (all table : Program) → table ≡ joined all [] → HaveSame all table
in_table all table is c m = subst (λ (p : Program). Contains p c) (sym is) ((members_joined all c).1 m)

pub out_of_table : (all table : Program) → table ≡ joined all [] → HaveSame table all
out_of_table all table is c m = (members_joined all c).0 (subst (λ (p : Program). Contains p c) is m)

-- ---- from the one list to the other

module _ (xs ys : List Class) (over : HaveSame xs ys) (back : HaveSame ys xs) where
  under_moved : (a b : Name) → StandsUnder xs a b → StandsUnder ys a b
  under_moved a b under = record { class = under.class; there = over under.class under.there; named = under.named; listed = under.listed }

  pub lacks_moved : (name : Name) → LacksAbove xs name → LacksAbove ys name
  lacks_moved name (above, under, none) = (above, under_moved name above under, class_at_none ys above (λ c m. none_of_name xs above none c (back c m)))

  below_moved : (n : ℕ) (a b : Name) → StandsBelow n xs a b → StandsBelow n ys a b
  below_moved zero a b under = under_moved a b under
  below_moved (suc n) a b (between, under, below) = (between, under_moved a between under, below_moved n between b below)

  pub ancestor_moved : (name : Name) → IsOwnAncestor xs name → IsOwnAncestor ys name
  ancestor_moved name (n, below) = (n, below_moved n name name below)

-- the least of a kind is that of the kind that is the same
least_same : (P Q : Name → Type 0) → ((name : Name) → P name → Q name) → ((name : Name) → Q name → P name) → (name : Name) → IsLeast P name → IsLeast Q name
least_same P Q over back name least = record { such = over name least.such; least = λ other q. least.least other (back other q) }

-- ---- of a table

module _ (all table : Program) (is : table ≡ joined all []) where
  pub whole_moved : Never (LacksAbove table) → Never (LacksAbove all)
  whole_moved never name lacks = never name (lacks_moved all table (in_table all table is) (out_of_table all table is) name lacks)

  pub acyclic_moved : Never (IsOwnAncestor table) → Never (IsOwnAncestor all)
  acyclic_moved never name own = never name (ancestor_moved all table (in_table all table is) (out_of_table all table is) name own)

  pub refuses_lacking : Never (IsShared all) → (e : LoadError) → RefusesLacking table e → RefusesLoad all e
  refuses_lacking differ (errors.Duplicate name) reported = absurd reported
  refuses_lacking differ (errors.NoSuper name) reported =
      (differ, least_same (LacksAbove table) (LacksAbove all) (lacks_moved table all (out_of_table all table is) (in_table all table is)) (lacks_moved all table (in_table all table is) (out_of_table all table is)) name reported)
  refuses_lacking differ (errors.Cycle name) reported = absurd reported
  refuses_lacking differ errors.Memory reported = tt

  pub refuses_cycles : Never (IsShared all) → Never (LacksAbove table) → (e : LoadError) → RefusesCycles table e → RefusesLoad all e
  refuses_cycles differ whole (errors.Duplicate name) reported = absurd reported
  refuses_cycles differ whole (errors.NoSuper name) reported = absurd reported
  refuses_cycles differ whole (errors.Cycle name) reported =
      (differ, whole_moved whole, least_same (IsOwnAncestor table) (IsOwnAncestor all) (ancestor_moved table all (out_of_table all table is) (in_table all table is)) (ancestor_moved all table (in_table all table is) (out_of_table all table is)) name reported)
  refuses_cycles differ whole errors.Memory reported = tt

  pub is_loadable : Never (IsShared all) → Never (LacksAbove table) → Never (IsOwnAncestor table) → IsLoadable all
  is_loadable differ whole acyclic = record { differ = differ; whole = whole_moved whole; acyclic = acyclic_moved acyclic }
