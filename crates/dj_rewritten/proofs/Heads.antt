-- The names of a rewritten class: its own, its superclass's, its interfaces'.
use Rattle.std.proofs.Common.{◌≡◌, ℕ, List, [], ◌∷◌, ◌++◌, map, Option, Some, None, option_and_then, refl, sym, ap, ◌∙◌}
use Rattle.std.specs.Prelude.{IsSomeAnd}
use Rattle.std.specs.Option.{option_map}
use Rattle.std.specs.List.{flat_map, AllByRecursion}
use Rattle.dj_names.specs.declared.descriptor.Ty.{Ty}
use Rattle.dj_names.specs.trusted.Names.{IsClassName}
use Rattle.dj_names.specs.trusted.Types.{Name}
use Rattle.dj_names.specs.Types.{in_sandbox, type_map}
use Rattle.dj_pool.specs.trusted.Pool.{Constant, Class, constant_at, text_at, class_text_of, class_name_at}
use Rattle.dj_class.specs.trusted.ClassFile.{NamesClass}
use Rattle.dj_class.specs.trusted.Names.{names_in}
use Rattle.dj_model.specs.trusted.Natives.{class_name}
use Rattle.dj_rename.specs.Names.{renamed_class}
use Rattle.dj_rename.specs.Pools.{rewritten_pool}
use Rattle.dj_rename.proofs.ClassTexts.{name_type}
use Rattle.dj_rename.proofs.PoolLaws.{class_named}

-- a class's name gets the prefix
pub name_renamed : (text : Name) → IsClassName text → renamed_class text ≡ in_sandbox text
unfolding renamed_class
name_renamed text is = ap (λ (ty : Ty). class_name (type_map in_sandbox ty)) (name_type text is)

module _ (pool : List Constant) (members : List ℕ) where
  abbrev new : List Constant
  new = rewritten_pool pool members

  pub class_read : (i : ℕ) → NamesClass pool i → class_name_at new i ≡ option_map in_sandbox (class_name_at pool i)
  class_read i h = by_constant (constant_at pool i) refl h where
    by_text : (name : ℕ) → constant_at pool i ≡ Some (Class name) → (o : Option Name) → text_at pool name ≡ o → IsSomeAnd o IsClassName → class_name_at new i ≡ option_map in_sandbox o
    by_text name e (Some text) t h = class_named pool members i name text e t ∙ ap (λ (x : Name). Some x) (name_renamed text h)
    by_text name e None t h = absurd h

    by_constant : (o : Option Constant) → constant_at pool i ≡ o → IsSomeAnd (option_and_then (text_at pool) (option_and_then class_text_of o)) IsClassName
        → class_name_at new i ≡ option_map in_sandbox (option_and_then (text_at pool) (option_and_then class_text_of (constant_at pool i)))
    by_constant (Some (Class name)) e h =
        by_text name e (text_at pool name) refl h ∙ sym (ap (λ (o : Option Constant). option_map in_sandbox (option_and_then (text_at pool) (option_and_then class_text_of o))) e)
    by_constant None e h = absurd h
    by_constant (Some k) e h = absurd h

  pub interfaces_read : (interfaces : List ℕ) → AllByRecursion (NamesClass pool) interfaces
      → flat_map (λ (i : ℕ). names_in (class_name_at new i)) interfaces ≡ map in_sandbox (flat_map (λ (i : ℕ). names_in (class_name_at pool i)) interfaces)
  interfaces_read [] h = refl
  interfaces_read (i ∷ interfaces) h = one (class_name_at pool i) (class_read i h.0) (interfaces_read interfaces h.1) where
    one : (o : Option Name) → class_name_at new i ≡ option_map in_sandbox o
        → flat_map (λ (j : ℕ). names_in (class_name_at new j)) interfaces ≡ map in_sandbox (flat_map (λ (j : ℕ). names_in (class_name_at pool j)) interfaces)
        → names_in (class_name_at new i) ++ flat_map (λ (j : ℕ). names_in (class_name_at new j)) interfaces
        ≡ map in_sandbox (names_in o ++ flat_map (λ (j : ℕ). names_in (class_name_at pool j)) interfaces)
    one None e later = rw (e, later) refl
    one (Some name) e later = rw (e, later) refl
