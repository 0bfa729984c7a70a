-- Where the methods and the fields of a program stand: beside each its code and its constant.
use Rattle.std.proofs.Common.{◌≡◌, ℕ, zero, suc, ◌+◌, ◌<◌, List, [], ◌∷◌, ◌++◌, map, take, length, Option, Some, None, refl, sym, ap, ◌∙◌, arith, IsTrue, length-append}
use Rattle.std.specs.Prelude.{slice_get, get_or}
use Rattle.std.specs.Option.{option_map}
use Rattle.std.proofs.lemmas.List.{length-map}
use Rattle.std.proofs.lemmas.Option.{slice_get-map}
use Rattle.dj_pool.specs.trusted.Pool.{Constant}
use Rattle.dj_names.specs.trusted.Types.{Name}
use Rattle.dj_model.specs.trusted.Program as programs
use Rattle.dj_model.specs.trusted.Program.{Program, Class, Method, Field, has_code}
use Rattle.dj_model.specs.trusted.Linking.{FoundMethod, FoundField}
use Rattle.dj_class_table.specs.Tables.{methods_at, fields_at}
use Rattle.dj_shape_rule.specs.Pools.{ArePoolKinds}
use Rattle.dj_program.specs.trusted.Codes.{CodeParts}
use Rattle.dj_program.specs.Views.{parts_of}
use Rattle.dj_program.specs.declared.code.MethodCode.{MethodCode}
use Rattle.dj_numbering.specs.Members.{methods_in, fields_in, all_methods, all_fields, methods_before, fields_before}
use Rattle.dj_image.specs.declared.parts.ClassParts.{ClassParts}
use Rattle.dj_image.specs.declared.parts.FieldValue.{FieldValue}
use Rattle.dj_image.specs.Sources.{with_code, with_codes, with_values, class_of_source, program_of_sources}
use Rattle.dj_image.specs.Parts.{constant_of_value, source_of, sources_of, FitMethods, IsDescAt, FitClass, FitClasses}
use Rattle.dj_image.specs.Codes.{pooled, all_codes}

-- ---- lists

prefix_get : {A : Type 0} (xs ys : List A) (k : ℕ) (x : A) → slice_get xs k ≡ Some x → slice_get (xs ++ ys) k ≡ Some x
prefix_get [] ys k x e = absurd cc
prefix_get (y ∷ xs) ys zero x e = e
prefix_get (y ∷ xs) ys (suc k) x e = prefix_get xs ys k x e

rest_get : {A : Type 0} (xs ys : List A) (n : ℕ) → slice_get (xs ++ ys) (length xs + n) ≡ slice_get ys n
rest_get [] ys n = let e : 0 + n ≡ n = omega arith in ap (λ (k : ℕ). slice_get ys k) e
rest_get (x ∷ xs) ys n =
    let e : length (x ∷ xs) + n ≡ suc (length xs + n) = omega arith in
    ap (λ (k : ℕ). slice_get (x ∷ (xs ++ ys)) k) e ∙ rest_get xs ys n

-- past a prefix of this many
past_get : {A : Type 0} (xs ys : List A) (count n : ℕ) (x : A) → length xs ≡ count → slice_get ys n ≡ Some x → slice_get (xs ++ ys) (count + n) ≡ Some x
past_get xs ys count n x e there = ap (λ (k : ℕ). slice_get (xs ++ ys) (k + n)) (sym e) ∙ (rest_get xs ys n ∙ there)

-- ---- the methods of a class beside their codes

abbrev pub FitsCode : Method → Option MethodCode → Type 0
FitsCode m None = IsTrue (has_code m.body) → ⊥
FitsCode m (Some code) = IsTrue (has_code m.body)

record IsRow (pool : List Constant) (methods : List Method) (codes : List (Option MethodCode)) (member : ℕ) : Type 0 where
  method : Method
  code : Option MethodCode
  there : slice_get methods member ≡ Some method
  kept : slice_get codes member ≡ Some code
  fits : FitsCode method code
  whole : slice_get (with_codes pool methods (map (option_map parts_of) codes)) member ≡ Some (with_code pool method (option_map parts_of code))

row_of : (pool : List Constant) (methods : List Method) (codes : List (Option MethodCode)) (member : ℕ) → FitMethods methods codes → member < length methods
    → IsRow pool methods codes member
row_of pool [] [] member fit within = absurd (omega arith)
row_of pool [] (code ∷ codes) member fit within = absurd fit
row_of pool (m ∷ methods) [] member fit within = absurd fit
row_of pool (m ∷ methods) (None ∷ codes) zero fit within = record { method = m; code = None; there = refl; kept = refl; fits = fit.0; whole = refl }
row_of pool (m ∷ methods) (Some code ∷ codes) zero fit within = record { method = m; code = Some code; there = refl; kept = refl; fits = fit.0; whole = refl }
row_of pool (m ∷ methods) (None ∷ codes) (suc k) fit within =
    let row = row_of pool methods codes k fit.1 (omega arith) in
    record { method = row.method; code = row.code; there = row.there; kept = row.kept; fits = row.fits; whole = row.whole }
row_of pool (m ∷ methods) (Some code ∷ codes) (suc k) fit within =
    let row = row_of pool methods codes k fit.1 (omega arith) in
    record { method = row.method; code = row.code; there = row.there; kept = row.kept; fits = row.fits; whole = row.whole }

pub codes_count : (methods : List Method) (codes : List (Option MethodCode)) → FitMethods methods codes → length codes ≡ length methods
codes_count [] [] fit = refl
codes_count [] (code ∷ codes) fit = absurd fit
codes_count (m ∷ methods) [] fit = absurd fit
codes_count (m ∷ methods) (None ∷ codes) fit = let rest : length codes ≡ length methods = codes_count methods codes fit.1 in omega arith
codes_count (m ∷ methods) (Some code ∷ codes) fit = let rest : length codes ≡ length methods = codes_count methods codes fit.1 in omega arith

with_codes_count : (pool : List Constant) (methods : List Method) (codes : List (Option CodeParts)) → length (with_codes pool methods codes) ≡ length methods
with_codes_count pool [] codes = refl
with_codes_count pool (m ∷ methods) [] = refl
with_codes_count pool (m ∷ methods) (code ∷ codes) =
    let rest : length (with_codes pool methods codes) ≡ length methods = with_codes_count pool methods codes in omega arith

-- ---- methods of a program

pub record IsMethodAt (program : Program) (parts : List ClassParts) (class member : ℕ) : Type 0 where
  pub part : ClassParts
  pub own : slice_get parts class ≡ Some part
  pub name : Name
  pub method : Method
  pub code : Option MethodCode
  pub kept : slice_get part.codes.items member ≡ Some code
  pub fits : FitsCode method code
  pub kinds : ArePoolKinds part.pool part.kinds
  pub described : IsTrue (has_code method.body) → IsDescAt part.pool (get_or part.descs.items member 0) method.desc
  pub bare : slice_get (all_methods program) (methods_before program class + member) ≡ Some (record { class = name; method = method })
  pub whole : slice_get (all_methods (program_of_sources (sources_of program parts))) (methods_before program class + member)
      ≡ Some (record { class = name; method = with_code part.pool method (option_map parts_of code) })
  pub coded : slice_get (all_codes (sources_of program parts)) (methods_before program class + member) ≡ Some (pooled part.pool (option_map parts_of code))

abbrev found_of : Name → Method → FoundMethod
found_of name m = record { class = name; method = m }

first_method_at : (c : Class) (classes : Program) (p : ClassParts) (parts : List ClassParts) (member : ℕ) → FitClass c p → member < length c.methods
    → IsMethodAt (c ∷ classes) (p ∷ parts) 0 member
unfolding all_methods all_codes sources_of class_of_source
first_method_at c classes p parts member fit within =
    let row = row_of p.pool c.methods p.codes.items member fit.methods within in
    let at : methods_before (c ∷ classes) 0 + member ≡ member = omega arith in
    let parted : map (option_map parts_of) p.codes.items ≡ map (option_map parts_of) p.codes.items = refl in
    record {
      part = p;
      own = refl;
      name = c.name;
      method = row.method;
      code = row.code;
      kept = row.kept;
      fits = row.fits;
      kinds = fit.kinds;
      described = fit.descs member row.method row.there;
      bare = ap (λ (k : ℕ). slice_get (all_methods (c ∷ classes)) k) at
          ∙ prefix_get (methods_in c) (all_methods classes) member (found_of c.name row.method)
          (slice_get-map (found_of c.name) c.methods member ∙ ap (option_map (found_of c.name)) row.there);
      whole = ap (λ (k : ℕ). slice_get (all_methods (program_of_sources (sources_of (c ∷ classes) (p ∷ parts)))) k) at
          ∙ prefix_get (methods_in (class_of_source (source_of c p))) (all_methods (program_of_sources (sources_of classes parts))) member
          (found_of c.name (with_code p.pool row.method (option_map parts_of row.code)))
          (slice_get-map (found_of c.name) (with_codes p.pool c.methods (map (option_map parts_of) p.codes.items)) member ∙ ap (option_map (found_of c.name)) row.whole);
      coded = ap (λ (k : ℕ). slice_get (all_codes (sources_of (c ∷ classes) (p ∷ parts))) k) at
          ∙ prefix_get (map (pooled p.pool) (map (option_map parts_of) p.codes.items)) (all_codes (sources_of classes parts)) member
          (pooled p.pool (option_map parts_of row.code))
          (slice_get-map (pooled p.pool) (map (option_map parts_of) p.codes.items) member
          ∙ ap (option_map (pooled p.pool)) (slice_get-map (option_map parts_of) p.codes.items member ∙ ap (option_map (option_map parts_of)) row.kept));
    }

next_method_at : (c : Class) (classes : Program) (p : ClassParts) (parts : List ClassParts) (class member : ℕ) → FitClass c p
    → IsMethodAt classes parts class member → IsMethodAt (c ∷ classes) (p ∷ parts) (suc class) member
unfolding all_methods all_codes sources_of class_of_source
next_method_at c classes p parts class member fit row =
    let prefix : length (methods_in c) ≡ length c.methods = length-map c.methods (found_of c.name) in
    let before : methods_before (c ∷ classes) (suc class) ≡ length c.methods + methods_before classes class =
    length-append (methods_in c) (all_methods (take class classes)) ∙ ap (λ (n : ℕ). n + methods_before classes class) prefix in
    let at : methods_before (c ∷ classes) (suc class) + member ≡ length c.methods + (methods_before classes class + member) = omega arith in
    let whole_prefix : length (methods_in (class_of_source (source_of c p))) ≡ length c.methods =
    length-map (with_codes p.pool c.methods (map (option_map parts_of) p.codes.items)) (found_of c.name)
    ∙ with_codes_count p.pool c.methods (map (option_map parts_of) p.codes.items) in
    let code_prefix : length (map (pooled p.pool) (map (option_map parts_of) p.codes.items)) ≡ length c.methods =
    length-map (map (option_map parts_of) p.codes.items) (pooled p.pool)
    ∙ (length-map p.codes.items (option_map parts_of) ∙ codes_count c.methods p.codes.items fit.methods) in
    record {
      part = row.part;
      own = row.own;
      name = row.name;
      method = row.method;
      code = row.code;
      kept = row.kept;
      fits = row.fits;
      kinds = row.kinds;
      described = row.described;
      bare = ap (λ (k : ℕ). slice_get (all_methods (c ∷ classes)) k) at
          ∙ past_get (methods_in c) (all_methods classes) (length c.methods) (methods_before classes class + member) _ prefix row.bare;
      whole = ap (λ (k : ℕ). slice_get (all_methods (program_of_sources (sources_of (c ∷ classes) (p ∷ parts)))) k) at
          ∙ past_get (methods_in (class_of_source (source_of c p))) (all_methods (program_of_sources (sources_of classes parts))) (length c.methods)
          (methods_before classes class + member) _ whole_prefix row.whole;
      coded = ap (λ (k : ℕ). slice_get (all_codes (sources_of (c ∷ classes) (p ∷ parts))) k) at
          ∙ past_get (map (pooled p.pool) (map (option_map parts_of) p.codes.items)) (all_codes (sources_of classes parts)) (length c.methods)
          (methods_before classes class + member) _ code_prefix row.coded;
    }

pub method_at_place : (program : Program) (parts : List ClassParts) (class member : ℕ) → FitClasses program parts → member < length (methods_at program class)
    → IsMethodAt program parts class member
method_at_place [] [] zero member fit within = absurd (omega arith)
method_at_place [] [] (suc class) member fit within = absurd (omega arith)
method_at_place [] (p ∷ parts) class member fit within = absurd fit
method_at_place (c ∷ classes) [] class member fit within = absurd fit
method_at_place (c ∷ classes) (p ∷ parts) zero member fit within = first_method_at c classes p parts member fit.0 within
method_at_place (c ∷ classes) (p ∷ parts) (suc class) member fit within =
    next_method_at c classes p parts class member fit.0 (method_at_place classes parts class member fit.1 within)

-- ---- fields of a program

record IsValueRow (pool : List Constant) (fields : List Field) (values : List (Option FieldValue)) (member : ℕ) : Type 0 where
  field : Field
  value : Option FieldValue
  there : slice_get fields member ≡ Some field
  kept : slice_get values member ≡ Some value
  whole : slice_get (with_values fields (map (option_map (constant_of_value pool)) values)) member ≡ Some (record field { constant = option_map (constant_of_value pool) value })

value_row_of : (pool : List Constant) (fields : List Field) (values : List (Option FieldValue)) (member : ℕ) → length values ≡ length fields → member < length fields
    → IsValueRow pool fields values member
value_row_of pool [] values member count within = absurd (omega arith)
value_row_of pool (f ∷ fields) [] member count within = absurd (omega arith)
value_row_of pool (f ∷ fields) (value ∷ values) zero count within = record { field = f; value = value; there = refl; kept = refl; whole = refl }
value_row_of pool (f ∷ fields) (value ∷ values) (suc k) count within =
    let row = value_row_of pool fields values k (omega arith) (omega arith) in
    record { field = row.field; value = row.value; there = row.there; kept = row.kept; whole = row.whole }

with_values_count : (fields : List Field) (values : List (Option programs.Constant)) → length (with_values fields values) ≡ length fields
with_values_count [] values = refl
with_values_count (f ∷ fields) [] = refl
with_values_count (f ∷ fields) (value ∷ values) =
    let rest : length (with_values fields values) ≡ length fields = with_values_count fields values in omega arith

pub record IsFieldAt (program : Program) (parts : List ClassParts) (class member : ℕ) : Type 0 where
  pub part : ClassParts
  pub own : slice_get parts class ≡ Some part
  pub name : Name
  pub field : Field
  pub value : Option FieldValue
  pub kept : slice_get part.values.items member ≡ Some value
  pub whole : slice_get (all_fields (program_of_sources (sources_of program parts))) (fields_before program class + member)
      ≡ Some (record { class = name; field = record field { constant = option_map (constant_of_value part.pool) value } })

abbrev found_field_of : Name → Field → FoundField
found_field_of name f = record { class = name; field = f }

first_field_at : (c : Class) (classes : Program) (p : ClassParts) (parts : List ClassParts) (member : ℕ) → FitClass c p → member < length c.fields
    → IsFieldAt (c ∷ classes) (p ∷ parts) 0 member
unfolding all_fields sources_of class_of_source
first_field_at c classes p parts member fit within =
    let row = value_row_of p.pool c.fields p.values.items member fit.fields within in
    let at : fields_before (c ∷ classes) 0 + member ≡ member = omega arith in
    record {
      part = p;
      own = refl;
      name = c.name;
      field = row.field;
      value = row.value;
      kept = row.kept;
      whole = ap (λ (k : ℕ). slice_get (all_fields (program_of_sources (sources_of (c ∷ classes) (p ∷ parts)))) k) at
          ∙ prefix_get (fields_in (class_of_source (source_of c p))) (all_fields (program_of_sources (sources_of classes parts))) member
          (found_field_of c.name (record row.field { constant = option_map (constant_of_value p.pool) row.value }))
          (slice_get-map (found_field_of c.name) (with_values c.fields (map (option_map (constant_of_value p.pool)) p.values.items)) member
          ∙ ap (option_map (found_field_of c.name)) row.whole);
    }

next_field_at : (c : Class) (classes : Program) (p : ClassParts) (parts : List ClassParts) (class member : ℕ)
    → IsFieldAt classes parts class member → IsFieldAt (c ∷ classes) (p ∷ parts) (suc class) member
unfolding all_fields sources_of class_of_source
next_field_at c classes p parts class member row =
    let before : fields_before (c ∷ classes) (suc class) ≡ length c.fields + fields_before classes class =
    length-append (fields_in c) (all_fields (take class classes))
    ∙ ap (λ (n : ℕ). n + fields_before classes class) (length-map c.fields (found_field_of c.name)) in
    let at : fields_before (c ∷ classes) (suc class) + member ≡ length c.fields + (fields_before classes class + member) = omega arith in
    let whole_prefix : length (fields_in (class_of_source (source_of c p))) ≡ length c.fields =
    length-map (with_values c.fields (map (option_map (constant_of_value p.pool)) p.values.items)) (found_field_of c.name)
    ∙ with_values_count c.fields (map (option_map (constant_of_value p.pool)) p.values.items) in
    record {
      part = row.part;
      own = row.own;
      name = row.name;
      field = row.field;
      value = row.value;
      kept = row.kept;
      whole = ap (λ (k : ℕ). slice_get (all_fields (program_of_sources (sources_of (c ∷ classes) (p ∷ parts)))) k) at
          ∙ past_get (fields_in (class_of_source (source_of c p))) (all_fields (program_of_sources (sources_of classes parts))) (length c.fields)
          (fields_before classes class + member) _ whole_prefix row.whole;
    }

pub field_at_place : (program : Program) (parts : List ClassParts) (class member : ℕ) → FitClasses program parts → member < length (fields_at program class)
    → IsFieldAt program parts class member
field_at_place [] [] zero member fit within = absurd (omega arith)
field_at_place [] [] (suc class) member fit within = absurd (omega arith)
field_at_place [] (p ∷ parts) class member fit within = absurd fit
field_at_place (c ∷ classes) [] class member fit within = absurd fit
field_at_place (c ∷ classes) (p ∷ parts) zero member fit within = first_field_at c classes p parts member fit.0 within
field_at_place (c ∷ classes) (p ∷ parts) (suc class) member fit within =
    next_field_at c classes p parts class member (field_at_place classes parts class member fit.1 within)
