-- The number of a member is that of the first one of its class with its name and its descriptor.
use Rattle.std.proofs.Common.{◌≡◌, ℕ, zero, suc, ◌+◌, ◌<◌, ◌&&◌, Bool, true, false, List, [], ◌∷◌, ◌++◌, map, length, take, Option, Some, None, IfSome, refl, sym, ap, ◌∙◌, subst, arith, if◌then◌else◌}
use Rattle.std.specs.Prelude.{slice_get, option_and_then}
use Rattle.std.specs.Option.{option_map}
use Rattle.std.specs.List.{flat_map}
use Rattle.std.proofs.lemmas.List.{length-map, length-append}
use Rattle.std.proofs.lemmas.Option.{none-some, same_Some, slice_get-map}
use Rattle.dj_names.specs.declared.descriptor.Desc.{Desc}
use Rattle.dj_names.specs.trusted.Descriptors.{Describes}
use Rattle.dj_names.specs.trusted.Types.{Name, same_name, same_desc}
use Rattle.dj_model.specs.trusted.Program.{Program, Class, Method, Field, fields_of, is_named}
use Rattle.dj_model.specs.trusted.Linking.{FoundMethod, FoundField}
use Rattle.dj_declarations.specs.trusted.Files.{desc_in}
use Rattle.dj_declarations.specs.Members.{IsDescriptor, field_name, method_place, field_place}
use Rattle.dj_declarations.proofs.DescTests.{desc_in_is, is_descriptor, same_name_itself, same_desc_itself}
use Rattle.dj_class_table.specs.Tables.{name_of, class_number, methods_of, methods_at, fields_at, method_there, field_there}
use Rattle.dj_class_table.specs.declared.place.Place.{Place}
use Rattle.dj_resolution.specs.Directories.{IsFirstLike}
use Rattle.dj_resolution.proofs.Resolution.{DoNamesDiffer}
use Rattle.dj_numbering.specs.Members.{all_methods, all_fields, methods_in, fields_in, methods_before, fields_before, method_number, field_number, found_method_number, found_field_number}
use Rattle.dj_numbering.specs.Named.{IsNamedMethod, IsNamedField}
use Rattle.dj_numbering.proofs.Starts.{some_there}

-- ---- the first place in a list

abbrev first_place : {F : Type 0} → (F → Bool) → List F → Option ℕ
first_place test [] = None
first_place test (x ∷ xs) = if test x then Some 0 else option_map suc (first_place test xs)

no_later : (o : Option ℕ) → option_map suc o ≡ None → o ≡ None
no_later None e = refl
no_later (Some n) e = absurd (none-some (suc n) (sym e))

module _ {F : Type 0} (test : F → Bool) where
  -- one of the list before is the first of both
  first_before : (xs ys : List F) (i : ℕ) → first_place test xs ≡ Some i → first_place test (xs ++ ys) ≡ Some i
  first_before [] ys i e = absurd (none-some i e)
  first_before (x ∷ xs) ys i e = by (test x) (first_place test xs) (first_before xs ys) e where
    by : (b : Bool) (o : Option ℕ) → ((j : ℕ) → o ≡ Some j → first_place test (xs ++ ys) ≡ Some j) → (if b then Some 0 else option_map suc o) ≡ Some i
        → (if b then Some 0 else option_map suc (first_place test (xs ++ ys))) ≡ Some i
    by true o later e = e
    by false None later e = absurd (none-some i e)
    by false (Some j) later e = ap (option_map suc) (later j refl) ∙ e

  -- with none there the first of the list behind is the first of both
  first_behind : (xs ys : List F) (i : ℕ) → first_place test xs ≡ None → first_place test ys ≡ Some i → first_place test (xs ++ ys) ≡ Some (length xs + i)
  first_behind [] ys i none e = e ∙ ap Some (let same : i ≡ 0 + i = omega arith in same)
  first_behind (x ∷ xs) ys i none e = by (test x) (λ without. first_behind xs ys i without e) none where
    by : (b : Bool) → (first_place test xs ≡ None → first_place test (xs ++ ys) ≡ Some (length xs + i)) → (if b then Some 0 else option_map suc (first_place test xs)) ≡ None
        → (if b then Some 0 else option_map suc (first_place test (xs ++ ys))) ≡ Some (suc (length xs) + i)
    by true later none = absurd (none-some 0 (sym none))
    by false later none = ap (option_map suc) (later (no_later (first_place test xs) none)) ∙ ap Some (let same : suc (length xs + i) ≡ suc (length xs) + i = omega arith in same)

  -- where one passes the test there is a first one
  first_there : (xs : List F) (at : ℕ) (x : F) → slice_get xs at ≡ Some x → test x ≡ true → (i : ℕ) × (first_place test xs ≡ Some i)
  first_there [] at x is passed = absurd (none-some x is)
  first_there (y ∷ xs) zero x is passed = (0, ap (λ (b : Bool). if b then Some 0 else option_map suc (first_place test xs)) (ap test (same_Some y x is) ∙ passed))
  first_there (y ∷ xs) (suc at) x is passed = by (test y) (first_there xs at x is passed) where
    by : (b : Bool) → (i : ℕ) × (first_place test xs ≡ Some i) → (i : ℕ) × ((if b then Some 0 else option_map suc (first_place test xs)) ≡ Some i)
    by true later = (0, refl)
    by false later = (suc later.0, ap (option_map suc) later.1)

  first_within : (xs : List F) (i : ℕ) → first_place test xs ≡ Some i → i < length xs
  first_within [] i e = absurd (none-some i e)
  first_within (x ∷ xs) i e = by (test x) (first_place test xs) (first_within xs) e where
    by : (b : Bool) (o : Option ℕ) → ((j : ℕ) → o ≡ Some j → j < length xs) → (if b then Some 0 else option_map suc o) ≡ Some i → i < suc (length xs)
    by true o later e = let same = same_Some 0 i e in omega (arith, same)
    by false None later e = absurd (none-some i e)
    by false (Some j) later e = let same = same_Some (suc j) i e in let lt = later j refl in omega (arith, same, lt)

-- ---- and among the members of all classes

module _ {F : Type 0} (items : Class → List F) (test : F → Bool) (name : Name) (others : (c : Class) → same_name c.name name ≡ false → first_place test (items c) ≡ None) where
  -- only the class of the name has one
  first_of_class : (program : Program) (k i : ℕ) (c : Class) → class_number program name ≡ Some k → slice_get program k ≡ Some c → first_place test (items c) ≡ Some i
      → first_place test (flat_map items program) ≡ Some (length (flat_map items (take k program)) + i)
  first_of_class [] k i c number at first = absurd (none-some k number)
  first_of_class (d ∷ program) k i c number at first = by (same_name d.name name) refl (class_number program name) (λ j is there. first_of_class program j i c is there first) k number at where
    by : (b : Bool) → same_name d.name name ≡ b → (o : Option ℕ) → ((j : ℕ) → o ≡ Some j → slice_get program j ≡ Some c → first_place test (flat_map items program) ≡ Some (length (flat_map items (take j program)) + i))
        → (k : ℕ) → (if b then Some 0 else option_map suc o) ≡ Some k → slice_get (d ∷ program) k ≡ Some c
        → first_place test (items d ++ flat_map items program) ≡ Some (length (flat_map items (take k (d ∷ program))) + i)
    by true same o later zero is there =
        first_before test (items d) (flat_map items program) i (ap (λ (x : Class). first_place test (items x)) (same_Some d c there) ∙ first)
        ∙ ap Some (let plus : i ≡ 0 + i = omega arith in plus)
    by true same o later (suc k) is there = absurd cc
    by false same None later k is there = absurd (none-some k is)
    by false same (Some j) later zero is there = absurd cc
    by false same (Some j) later (suc k) is there =
        let number : j ≡ k = cc in
        let rest = later k (ap Some number) there in
        let long = length-append (items d) (flat_map items (take k program)) in
        first_behind test (items d) (flat_map items program) (length (flat_map items (take k program)) + i) (others d same) rest
        ∙ ap Some (let sum : length (items d) + (length (flat_map items (take k program)) + i) ≡ length (items d ++ flat_map items (take k program)) + i = omega (arith, long) in sum)

-- a place by one kind of step is that by the other
same_step : (b : Bool) (o p : Option ℕ) → o ≡ p → (if b then Some 0 else option_map suc o) ≡ (if b then Some 0 else option_map (λ n. n + 1) p)
same_step true o p e = refl
same_step false None p e = ap (option_map (λ (n : ℕ). n + 1)) e
same_step false (Some n) p e = ap Some (let same : suc n ≡ n + 1 = omega arith in same) ∙ ap (option_map (λ (n : ℕ). n + 1)) e

named_itself : (name : Name) (desc : Desc) → is_named name desc name desc ≡ true
named_itself name desc = ap (λ (b : Bool). b && same_desc desc desc) (same_name_itself name name refl) ∙ same_desc_itself desc

-- what is known of the first one: its place in its class, and its number
pub record HasFirst (count before : ℕ) (place number : Option ℕ) : Type 0 where
  pub first : ℕ
  pub within : first < count
  pub is : place ≡ Some first
  pub numbered : number ≡ Some (before + first)

-- what a linker answers for a member is that member
pub reported_is : {A : Type 0} (reported : Option (Option A)) (found : Option A) → reported ≡ option_map Some found → option_and_then (λ x. x) reported ≡ found
reported_is reported None e = ap (option_and_then (λ x. x)) e
reported_is reported (Some x) e = ap (option_and_then (λ x. x)) e

-- ---- methods

module _ (found : FoundMethod) where
  abbrev is_method : FoundMethod → Bool
  is_method f = same_name f.class found.class && is_named found.method.name found.method.desc f.method.name f.method.desc

  method_number_is : (all : List FoundMethod) → method_number all found ≡ first_place is_method all
  method_number_is [] = refl
  method_number_is (f ∷ all) = ap (λ (o : Option ℕ). if is_method f then Some 0 else option_map suc o) (method_number_is all)

  methods_of_other : (class : Name) → same_name class found.class ≡ false → (methods : List Method) → first_place is_method (map (λ m. record { class = class; method = m }) methods) ≡ None
  methods_of_other class other [] = refl
  methods_of_other class other (m ∷ methods) =
      ap (λ (b : Bool). if b && is_named found.method.name found.method.desc m.name m.desc then Some 0 else option_map suc (first_place is_method (map (λ m. record { class = class; method = m }) methods))) other
      ∙ ap (option_map suc) (methods_of_other class other methods)

  methods_of_class : (class : Name) → same_name class found.class ≡ true → (methods : List Method)
      → first_place is_method (map (λ m. record { class = class; method = m }) methods) ≡ method_place methods found.method.name found.method.desc
  methods_of_class class same [] = refl
  methods_of_class class same (m ∷ methods) =
      ap (λ (b : Bool). if b && is_named found.method.name found.method.desc m.name m.desc then Some 0 else option_map suc (first_place is_method (map (λ m. record { class = class; method = m }) methods))) same
      ∙ same_step (is_named found.method.name found.method.desc m.name m.desc) (first_place is_method (map (λ m. record { class = class; method = m }) methods)) (method_place methods found.method.name found.method.desc)
      (methods_of_class class same methods)

method_of_class : (program : Program) (k member : ℕ) (c : Class) (m : Method) → DoNamesDiffer program → slice_get program k ≡ Some c → slice_get c.methods member ≡ Some m
    → HasFirst (length c.methods) (methods_before program k) (method_place c.methods m.name m.desc) (method_number (all_methods program) (record { class = c.name; method = m }))
unfolding all_methods
method_of_class program k member c m differ at is =
    let found : FoundMethod = record { class = c.name; method = m } in
    let same = same_name_itself c.name c.name refl in
    let itself : is_method found found ≡ true = ap (λ (b : Bool). b && is_named m.name m.desc m.name m.desc) same ∙ named_itself m.name m.desc in
    let there : slice_get (methods_in c) member ≡ Some found = slice_get-map (λ (x : Method). record { class = c.name; method = x }) c.methods member ∙ ap (option_map (λ (x : Method). record { class = c.name; method = x })) is in
    let first = first_there (is_method found) (methods_in c) member found there itself in
    let within = first_within (is_method found) (methods_in c) first.0 first.1 in
    let long : length (methods_in c) ≡ length c.methods = length-map c.methods (λ (x : Method). record { class = c.name; method = x }) in
    record {
      first = first.0;
      within = omega (arith, within, long);
      is = sym (methods_of_class found c.name same c.methods) ∙ first.1;
      numbered = method_number_is found (flat_map methods_in program)
          ∙ first_of_class methods_in (is_method found) c.name (λ d other. methods_of_other found d.name other d.methods) program k first.0 c (differ k c.name (ap (option_map name_of) at)) at first.1;
    }

-- what is known of the first method of its class with the name and the descriptor of the one at a place
pub first_method_named : (table program : Program) (place : Place) (name : Name) (desc : Desc) (reported : Option ℕ) → table ≡ program → DoNamesDiffer program → place.class < length program → place.member < length (methods_at program place.class)
    → IsNamedMethod name desc (method_there program place) → reported ≡ method_place (methods_at table place.class) name desc
    → HasFirst (length (methods_at program place.class)) (methods_before program place.class) reported (found_method_number program (method_there program place))
first_method_named table program place name desc reported same differ lt within named is =
    let class : (c : Class) × (slice_get program place.class ≡ Some c) = some_there program place.class lt in
    let c : Class = class.0 in
    let methods : methods_at program place.class ≡ c.methods = ap methods_of class.1 in
    let method : (m : Method) × (slice_get c.methods place.member ≡ Some m) = some_there c.methods place.member (subst (λ (ms : List Method). place.member < length ms) methods within) in
    let m : Method = method.0 in
    let found_is : method_there program place ≡ Some (record { class = c.name; method = m }) = rw (class.1, method.1) refl in
    let names : (m.name ≡ name) × (m.desc ≡ desc) = subst (λ (o : Option FoundMethod). IsNamedMethod name desc o) found_is named in
    let first = method_of_class program place.class place.member c m differ class.1 method.1 in
    let inside = first.within in
    let long = ap (λ (ms : List Method). length ms) methods in
    record {
      first = first.first;
      within = omega (arith, inside, long);
      is = is ∙ ap (λ (p : Program). method_place (methods_at p place.class) name desc) same ∙ ap (λ (ms : List Method). method_place ms name desc) methods
          ∙ ap (λ (n : Name). method_place c.methods n desc) (sym names.0) ∙ ap (method_place c.methods m.name) (sym names.1) ∙ first.is;
      numbered = ap (found_method_number program) found_is ∙ first.numbered;
    }

-- the same where it is that of a table for calls
pub first_method_like : (program : Program) (place : Place) (first : ℕ) → DoNamesDiffer program → place.class < length program → place.member < length (methods_at program place.class) → IsFirstLike program place.class place.member first
    → HasFirst (length (methods_at program place.class)) (methods_before program place.class) (Some first) (found_method_number program (method_there program place))
first_method_like program place first differ lt within like =
    let class : (c : Class) × (slice_get program place.class ≡ Some c) = some_there program place.class lt in
    let c : Class = class.0 in
    let methods : methods_at program place.class ≡ c.methods = ap methods_of class.1 in
    let method : (m : Method) × (slice_get c.methods place.member ≡ Some m) = some_there c.methods place.member (subst (λ (ms : List Method). place.member < length ms) methods within) in
    let m : Method = method.0 in
    let found_is : method_there program place ≡ Some (record { class = c.name; method = m }) = rw (class.1, method.1) refl in
    first_method_named program program place m.name m.desc (Some first) refl differ lt within (subst (λ (o : Option FoundMethod). IsNamedMethod m.name m.desc o) (sym found_is) (refl, refl))
    (sym (like m (ap (λ (ms : List Method). slice_get ms place.member) methods ∙ method.1)))

-- ---- fields

module _ (found : FoundField) where
  abbrev is_field : FoundField → Bool
  is_field f = same_name f.class found.class && is_named found.field.name found.field.desc f.field.name f.field.desc

  field_number_is : (all : List FoundField) → field_number all found ≡ first_place is_field all
  field_number_is [] = refl
  field_number_is (f ∷ all) = ap (λ (o : Option ℕ). if is_field f then Some 0 else option_map suc o) (field_number_is all)

  fields_of_other : (class : Name) → same_name class found.class ≡ false → (fields : List Field) → first_place is_field (map (λ g. record { class = class; field = g }) fields) ≡ None
  fields_of_other class other [] = refl
  fields_of_other class other (g ∷ fields) =
      ap (λ (b : Bool). if b && is_named found.field.name found.field.desc g.name g.desc then Some 0 else option_map suc (first_place is_field (map (λ g. record { class = class; field = g }) fields))) other
      ∙ ap (option_map suc) (fields_of_other class other fields)

  fields_of_class : (class : Name) → same_name class found.class ≡ true → (fields : List Field)
      → first_place is_field (map (λ g. record { class = class; field = g }) fields) ≡ field_place fields found.field.name found.field.desc
  fields_of_class class same [] = refl
  fields_of_class class same (g ∷ fields) =
      ap (λ (b : Bool). if b && is_named found.field.name found.field.desc g.name g.desc then Some 0 else option_map suc (first_place is_field (map (λ g. record { class = class; field = g }) fields))) same
      ∙ same_step (is_named found.field.name found.field.desc g.name g.desc) (first_place is_field (map (λ g. record { class = class; field = g }) fields)) (field_place fields found.field.name found.field.desc)
      (fields_of_class class same fields)

field_of_class : (program : Program) (k member : ℕ) (c : Class) (g : Field) → DoNamesDiffer program → slice_get program k ≡ Some c → slice_get c.fields member ≡ Some g
    → HasFirst (length c.fields) (fields_before program k) (field_place c.fields g.name g.desc) (field_number (all_fields program) (record { class = c.name; field = g }))
unfolding all_fields
field_of_class program k member c g differ at is =
    let found : FoundField = record { class = c.name; field = g } in
    let same = same_name_itself c.name c.name refl in
    let itself : is_field found found ≡ true = ap (λ (b : Bool). b && is_named g.name g.desc g.name g.desc) same ∙ named_itself g.name g.desc in
    let there : slice_get (fields_in c) member ≡ Some found = slice_get-map (λ (x : Field). record { class = c.name; field = x }) c.fields member ∙ ap (option_map (λ (x : Field). record { class = c.name; field = x })) is in
    let first = first_there (is_field found) (fields_in c) member found there itself in
    let within = first_within (is_field found) (fields_in c) first.0 first.1 in
    let long : length (fields_in c) ≡ length c.fields = length-map c.fields (λ (x : Field). record { class = c.name; field = x }) in
    record {
      first = first.0;
      within = omega (arith, within, long);
      is = sym (fields_of_class found c.name same c.fields) ∙ first.1;
      numbered = field_number_is found (flat_map fields_in program)
          ∙ first_of_class fields_in (is_field found) c.name (λ d other. fields_of_other found d.name other d.fields) program k first.0 c (differ k c.name (ap (option_map name_of) at)) at first.1;
    }

-- what is known of the first field of its class with the name and the descriptor of the one at a place
first_field : (program : Program) (place : Place) (name desc : Name) → DoNamesDiffer program → place.class < length program → place.member < length (fields_at program place.class)
    → Some name ≡ option_map field_name (slice_get (fields_at program place.class) place.member)
    → IfSome (slice_get (fields_at program place.class) place.member) (λ g. Describes desc g.desc)
    → HasFirst (length (fields_at program place.class)) (fields_before program place.class) (field_place (fields_at program place.class) name (desc_in desc)) (found_field_number program (field_there program place))
first_field program place name desc differ lt within named described =
    let class : (c : Class) × (slice_get program place.class ≡ Some c) = some_there program place.class lt in
    let c : Class = class.0 in
    let fields : fields_at program place.class ≡ c.fields = ap fields_of class.1 in
    let field : (g : Field) × (slice_get c.fields place.member ≡ Some g) = some_there c.fields place.member (subst (λ (ms : List Field). place.member < length ms) fields within) in
    let g : Field = field.0 in
    let there : slice_get (fields_at program place.class) place.member ≡ Some g = ap (λ (ms : List Field). slice_get ms place.member) fields ∙ field.1 in
    let name_is : name ≡ g.name = same_Some name g.name (named ∙ ap (option_map field_name) there) in
    let desc_is : desc_in desc ≡ g.desc = desc_in_is desc g.desc (subst (λ (o : Option Field). IfSome o (λ x. Describes desc x.desc)) there described) in
    let found_is : field_there program place ≡ Some (record { class = c.name; field = g }) = rw (class.1, field.1) refl in
    let reported = field_of_class program place.class place.member c g differ class.1 field.1 in
    let inside = reported.within in
    let long = ap (λ (ms : List Field). length ms) fields in
    record {
      first = reported.first;
      within = omega (arith, inside, long);
      is = ap (λ (ms : List Field). field_place ms name (desc_in desc)) fields ∙ ap (λ (n : Name). field_place c.fields n (desc_in desc)) name_is ∙ ap (field_place c.fields g.name) desc_is ∙ reported.is;
      numbered = ap (found_field_number program) found_is ∙ reported.numbered;
    }

-- and so where they are those of a table
pub first_field_reported : (table program : Program) (place : Place) (name desc : Name) (reported : Option ℕ) → table ≡ program → DoNamesDiffer table → place.class < length program → place.member < length (fields_at program place.class)
    → Some name ≡ option_map field_name (slice_get (fields_at table place.class) place.member)
    → IfSome (slice_get (fields_at table place.class) place.member) (λ g. Describes desc g.desc)
    → reported ≡ field_place (fields_at table place.class) name (desc_in desc)
    → HasFirst (length (fields_at program place.class)) (fields_before program place.class) reported (found_field_number program (field_there program place))
first_field_reported table program place name desc reported same differ lt within named described is =
    let first : HasFirst (length (fields_at table place.class)) (fields_before table place.class) reported (found_field_number table (field_there table place)) =
    subst (λ (o : Option ℕ). HasFirst (length (fields_at table place.class)) (fields_before table place.class) o (found_field_number table (field_there table place))) (sym is)
    (first_field table place name desc differ (subst (λ (p : Program). place.class < length p) (sym same) lt) (subst (λ (p : Program). place.member < length (fields_at p place.class)) (sym same) within) named described)
    in
    subst (λ (p : Program). HasFirst (length (fields_at p place.class)) (fields_before p place.class) reported (found_field_number p (field_there p place))) same first

-- the same for the one at a place that has this name and this descriptor
pub first_field_named : (table program : Program) (place : Place) (name : Name) (desc : Desc) (reported : Option ℕ) → table ≡ program → DoNamesDiffer program → place.class < length program → place.member < length (fields_at program place.class)
    → IsNamedField name desc (field_there program place) → reported ≡ field_place (fields_at table place.class) name desc
    → HasFirst (length (fields_at program place.class)) (fields_before program place.class) reported (found_field_number program (field_there program place))
first_field_named table program place name desc reported same differ lt within named is =
    let class : (c : Class) × (slice_get program place.class ≡ Some c) = some_there program place.class lt in
    let c : Class = class.0 in
    let fields : fields_at program place.class ≡ c.fields = ap fields_of class.1 in
    let field : (m : Field) × (slice_get c.fields place.member ≡ Some m) = some_there c.fields place.member (subst (λ (ms : List Field). place.member < length ms) fields within) in
    let m : Field = field.0 in
    let found_is : field_there program place ≡ Some (record { class = c.name; field = m }) = rw (class.1, field.1) refl in
    let names : (m.name ≡ name) × (m.desc ≡ desc) = subst (λ (o : Option FoundField). IsNamedField name desc o) found_is named in
    let first = field_of_class program place.class place.member c m differ class.1 field.1 in
    let inside = first.within in
    let long = ap (λ (ms : List Field). length ms) fields in
    record {
      first = first.first;
      within = omega (arith, inside, long);
      is = is ∙ ap (λ (p : Program). field_place (fields_at p place.class) name desc) same ∙ ap (λ (ms : List Field). field_place ms name desc) fields
          ∙ ap (λ (n : Name). field_place c.fields n desc) (sym names.0) ∙ ap (field_place c.fields m.name) (sym names.1) ∙ first.is;
      numbered = ap (found_field_number program) found_is ∙ first.numbered;
    }

pub field_described : (fields : List Field) (member : ℕ) (desc : Name) → member < length fields → IfSome (slice_get fields member) (λ g. Describes desc g.desc) → IsDescriptor desc
field_described fields member desc lt reported =
    let field : (g : Field) × (slice_get fields member ≡ Some g) = some_there fields member lt in
    is_descriptor desc field.0.desc (subst (λ (o : Option Field). IfSome o (λ g. Describes desc g.desc)) field.1 reported)
