-- The method that invokespecial takes, by names and by numbers.
use Rattle.std.proofs.Common.{◌≡◌, ℕ, ◌<◌, ◌&&◌, Bool, true, false, not, List, length, Option, Some, None, slice_get, refl, sym, ◌∙◌, ap, inl, inr, ◌⊎◌, if◌then◌else◌}
use Rattle.std.specs.Prelude.{option_and_then}
use Rattle.std.specs.Option.{option_map}
use Rattle.std.proofs.lemmas.Option.{same_Some, none-some}
use Rattle.dj_names.specs.declared.descriptor.Desc.{Desc}
use Rattle.dj_names.specs.trusted.Types.{Name, same_name}
use Rattle.dj_model.specs.trusted.Types.{constructor_name}
use Rattle.dj_model.specs.trusted.Program.{Program, Class, Method, class_at, superclass_of}
use Rattle.dj_model.specs.trusted.Linking.{chain, chain_of, superclasses, first_method, is_not_static, is_among, FoundMethod, special_method}
use Rattle.dj_model.proofs.MappedNames.{either}
use Rattle.dj_class_table.specs.Tables.{class_number, class_numbers, super_number, method_there, method_of_class, name_at}
use Rattle.dj_class_table.specs.declared.place.Place.{Place}
use Rattle.dj_resolution.specs.Linked.{class_name}
use Rattle.dj_resolution.specs.Numbers.{has, first_some, method_found, numbers_up, most_above, IsNamed}
use Rattle.dj_resolution.proofs.Climbs.{one_more_level}
use Rattle.dj_resolution.proofs.Resolution.{DoNamesDiffer, class_of_name}
use Rattle.dj_resolution.proofs.Subclasses.{among_numbers}
use Rattle.dj_resolution.proofs.Walks.{numbers_of_chain, first_method_found}

abbrev the_found : Name → Method → FoundMethod
the_found name m = record { class = name; method = m }

pub superclass_numbers : (program : Program) (class : ℕ) → DoNamesDiffer program → class < length program
    → class_numbers program (superclasses (chain program (class_name program class))) ≡ numbers_up most_above program (super_number program class)
unfolding chain_of
superclass_numbers program class differ lt =
    ap (λ (n : ℕ). class_numbers program (superclasses (chain_of n program (Some (class_name program class))))) one_more_level
    ∙ numbers_of_chain most_above program (superclass_of (class_at program (class_name program class)))
    ∙ ap (λ (o : Option Class). numbers_up most_above program (option_and_then (class_number program) (superclass_of o))) (class_of_name program class differ lt)

declared_in : (member : ℕ) (name : Name) (found : FoundMethod) (m : Option Method) → option_map (λ x. the_found name x) m ≡ Some found → name ≡ found.class
declared_in member name found None is = absurd (none-some found is)
declared_in member name found (Some m) is = ap (λ (x : FoundMethod). x.class) (same_Some (the_found name m) found is)

placed : (program : Program) (place : Place) (found : FoundMethod) (o : Option Class) → DoNamesDiffer program → slice_get program place.class ≡ o → option_and_then (method_of_class place.member) o ≡ Some found
    → class_number program found.class ≡ Some place.class
placed program place found None differ at there = absurd (none-some found there)
placed program place found (Some c) differ at there =
    let named : name_at program place.class ≡ Some c.name = rw at refl in
    ap (class_number program) (sym (declared_in place.member c.name found (slice_get c.methods place.member) there)) ∙ differ place.class c.name named

-- the class that declares the method at a place has the place's number
number_of_place : (program : Program) (place : Place) (found : FoundMethod) → DoNamesDiffer program → method_there program place ≡ Some found → class_number program found.class ≡ Some place.class
number_of_place program place found differ there = placed program place found (slice_get program place.class) differ refl there

module _ (program : Program) (class : ℕ) (place : Place) (found : FoundMethod) (name : Name) (desc : Desc) (differ : DoNamesDiffer program) (lt : class < length program) (is : IsNamed program place found name desc) where
  special_numbers : special_method program (class_name program class) found
      ≡ (if not (same_name name constructor_name) && has (numbers_up most_above program (super_number program class)) place.class
      then first_some (method_found program is_not_static name desc) (numbers_up most_above program (super_number program class)) else Some found)
  unfolding special_method
  special_numbers =
      let above : List Name = superclasses (chain program (class_name program class)) in
      let numbers : List ℕ = numbers_up most_above program (super_number program class) in
      ap (λ (n : Name). if not (same_name n constructor_name) && is_among above found.class then first_method program is_not_static n found.method.desc above else Some found) is.named
      ∙ ap (λ (d : Desc). if not (same_name name constructor_name) && is_among above found.class then first_method program is_not_static name d above else Some found) is.described
      ∙ ap (λ (b : Bool). if not (same_name name constructor_name) && b then first_method program is_not_static name desc above else Some found)
      (among_numbers program above found.class place.class (number_of_place program place found differ is.there) ∙ ap (λ (ks : List ℕ). has ks place.class) (superclass_numbers program class differ lt))
      ∙ ap (λ (o : Option FoundMethod). if not (same_name name constructor_name) && has numbers place.class then o else Some found)
      (first_method_found program is_not_static name desc above ∙ ap (first_some (method_found program is_not_static name desc)) (superclass_numbers program class differ lt))

  pub taken_above : (t : Option (Option FoundMethod)) → same_name name constructor_name ≡ false → has (numbers_up most_above program (super_number program class)) place.class ≡ true
      → t ≡ option_map Some (first_some (method_found program is_not_static name desc) (numbers_up most_above program (super_number program class)))
      → t ≡ option_map Some (special_method program (class_name program class) found)
  taken_above t other above reported =
      let chosen : (if not (same_name name constructor_name) && has (numbers_up most_above program (super_number program class)) place.class
      then first_some (method_found program is_not_static name desc) (numbers_up most_above program (super_number program class)) else Some found)
      ≡ first_some (method_found program is_not_static name desc) (numbers_up most_above program (super_number program class)) = rw (other, above) refl in
      reported ∙ ap (option_map Some) (sym (special_numbers ∙ chosen))

  pub taken_itself : (same_name name constructor_name ≡ true) ⊎ (has (numbers_up most_above program (super_number program class)) place.class ≡ false)
      → Some (method_there program place) ≡ option_map Some (special_method program (class_name program class) found)
  taken_itself why =
      let chosen : (if not (same_name name constructor_name) && has (numbers_up most_above program (super_number program class)) place.class
      then first_some (method_found program is_not_static name desc) (numbers_up most_above program (super_number program class)) else Some found)
      ≡ Some found = ruled_out why in
      ap Some is.there ∙ ap (option_map Some) (sym (special_numbers ∙ chosen))
    where
      ruled_out : (same_name name constructor_name ≡ true) ⊎ (has (numbers_up most_above program (super_number program class)) place.class ≡ false)
          → (if not (same_name name constructor_name) && has (numbers_up most_above program (super_number program class)) place.class
          then first_some (method_found program is_not_static name desc) (numbers_up most_above program (super_number program class)) else Some found) ≡ Some found
      ruled_out (inl constructor) = rw constructor refl
      ruled_out (inr none) = elim (either (same_name name constructor_name)) [ inl e ↦ rw e refl | inr e ↦ rw (e, none) refl ]

pub is_false : (b : Bool) → true ≡ not b → b ≡ false
is_false true e = e
is_false false e = refl

pub is_true : (b : Bool) → false ≡ not b → b ≡ true
is_true true e = refl
is_true false e = e
