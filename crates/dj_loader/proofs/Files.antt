-- The parts of the class that a file defines fit it, and make it what its file says.
use Rattle.std.proofs.Common.{◌≡◌, ℕ, zero, suc, ◌+◌, ◌<◌, ◌^◌, Bool, true, false, ◌||◌, List, [], ◌∷◌, ◌++◌, map, length, get_or, Option, Some, None, unwrap_or, All, Contains, IsTrue, refl, sym, ap, ◌∙◌, subst, inl, inr, arith, nat_eq}
use Rattle.std.specs.Prelude.{slice_get, IsSomeAnd, if◌then◌else◌}
use Rattle.std.specs.Option.{option_map}
use Rattle.std.specs.List.{AllByRecursion}
use Rattle.std.proofs.lemmas.List.{length-map, get_or_default}
use Rattle.std.proofs.lemmas.Option.{get_or_from_slice_get}
use Rattle.dj_names.specs.trusted.Descriptors.{IsMethodDescriptor}
use Rattle.dj_names.specs.declared.descriptor.Desc.TheVariants as descs
use Rattle.dj_pool.specs.trusted.Pool.{Constant, IsPool, text_at}
use Rattle.dj_class.specs.declared.class.MemberView.{MemberView}
use Rattle.dj_class.specs.Members.{member_of}
use Rattle.dj_class.specs.trusted.ClassFile.{MemberInfo, ClassFile, IsMethod, IsValid}
use Rattle.dj_early_rules.specs.trusted.Malformed.{IsFaultyMethod, HasFaultyMethod}
use Rattle.dj_model.specs.trusted.Program as programs
use Rattle.dj_model.specs.trusted.Program.{Program, Class, Method, Field, Body, Abstract, Runs, has_code}
use Rattle.dj_declarations.specs.trusted.Files.{desc_in, name_in, no_code, is_bodiless, declared_body, declared_method, declared_field, declared_class}
use Rattle.dj_declarations.specs.Members.{IsDescriptor}
use Rattle.dj_declarations.proofs.DescTests.{is_descriptor}
use Rattle.dj_program.specs.trusted.Codes.{CodeParts, code_in}
use Rattle.dj_program.specs.trusted.Naming.{constant_in}
use Rattle.dj_program.specs.trusted.Programs.{AreSideBySide, IsMethodIn, field_in_file, IsClassIn}
use Rattle.dj_program.specs.Views.{parts_of}
use Rattle.dj_program.specs.declared.code.MethodCode.{MethodCode}
use Rattle.dj_shape_rule.specs.Pools.{ArePoolKinds}
use Rattle.dj_image.specs.declared.parts.ClassParts.{ClassParts}
use Rattle.dj_image.specs.Sources.{with_codes, with_values, class_of_source}
use Rattle.dj_image.specs.Parts.{source_of, FitMethods, IsDescAt, FitClass}
use Rattle.dj_loader.specs.Filed.{IsCodeFor, desc_index, reported_value, AreFileParts}
use Rattle.dj_loader.proofs.Lists.{member_at_place, member_mapped, some_of_map}
use Rattle.dj_loader.proofs.Sides.{place_mapped}

-- ---- methods

abbrev chosen_body : Bool → Body
chosen_body b = if b then Abstract else Runs no_code

abbrev with_body : List Constant → MemberInfo → Body → Method
with_body pool m body = record (declared_method pool m) { body = body }

module _ (pool : List Constant) where
  no_code_there : (m : MemberInfo) → is_bodiless m.flags ≡ true → IsTrue (has_code (declared_body m.flags)) → ⊥
  no_code_there m bodiless has = (let none : has_code (declared_body m.flags) ≡ false = ap (λ (b : Bool). has_code (chosen_body b)) bodiless in absurd cc)

  code_there : (m : MemberInfo) → is_bodiless m.flags ≡ false → IsTrue (has_code (declared_body m.flags))
  code_there m has = ap (λ (b : Bool). has_code (chosen_body b)) has

  pub fit_methods : (ms : List MemberInfo) (codes : List (Option MethodCode)) → AreSideBySide (IsCodeFor pool) ms codes → FitMethods (map (declared_method pool) ms) codes
  fit_methods [] [] each = tt
  fit_methods [] (code ∷ codes) each = absurd each
  fit_methods (m ∷ ms) [] each = absurd each
  fit_methods (m ∷ ms) (None ∷ codes) each = (no_code_there m each.0, fit_methods ms codes each.1)
  fit_methods (m ∷ ms) (Some code ∷ codes) each = (code_there m each.0.0, fit_methods ms codes each.1)

  pub methods_with_codes : (ms : List MemberInfo) (codes : List (Option MethodCode)) → AreSideBySide (IsCodeFor pool) ms codes
      → AreSideBySide (IsMethodIn pool) ms (with_codes pool (map (declared_method pool) ms) (map (option_map parts_of) codes))
  methods_with_codes [] [] each = tt
  methods_with_codes [] (code ∷ codes) each = absurd each
  methods_with_codes (m ∷ ms) [] each = absurd each
  methods_with_codes (m ∷ ms) (None ∷ codes) each = (
    record { body = Abstract; is_body = inl (each.0, refl); is = ap (λ (b : Bool). with_body pool m (chosen_body b)) each.0 },
    methods_with_codes ms codes each.1,
  )
  methods_with_codes (m ∷ ms) (Some code ∷ codes) each = (
    record { body = Runs (code_in pool (parts_of code)); is_body = inr (each.0.0, parts_of code, each.0.1, refl); is = refl },
    methods_with_codes ms codes each.1,
  )

  -- ---- fields

  pub fields_with_values : (fs : List MemberInfo) → with_values (map (declared_field pool) fs) (map (constant_in pool) fs) ≡ map (field_in_file pool) fs
  fields_with_values [] = refl
  fields_with_values (f ∷ fs) = ap (λ (fields : List Field). field_in_file pool f ∷ fields) (fields_with_values fs)

  -- ---- descriptors

  spelled_by : (o : Option (List ℕ)) → IsSomeAnd o IsMethodDescriptor → IsDescriptor (unwrap_or o [])
  spelled_by None names = absurd names
  spelled_by (Some text) names = is_descriptor text (descs.Method names.0 names.1) names.2

  spelled : (m : MemberInfo) → IsMethod pool m → IsDescriptor (name_in pool m.desc)
  spelled m is = spelled_by (text_at pool m.desc) is.desc

  -- of methods that are valid, each index is that of the descriptor
  pub descs_there : (ms : List MemberInfo) → ((m : MemberInfo) → Contains ms m → IsMethod pool m) → (k : ℕ) (method : Method) → slice_get (map (declared_method pool) ms) k ≡ Some method
      → IsDescAt pool (get_or (map desc_index ms) k 0) method.desc
  descs_there ms valid k method at =
      let (m, own, is) = some_of_map (declared_method pool) ms k method at in
      let index : m.desc ≡ get_or (map desc_index ms) k 0 = sym (get_or_from_slice_get (map desc_index ms) k m.desc 0 (place_mapped desc_index ms k m own)) in
      subst (λ (i : ℕ). IsDescAt pool i method.desc) index
      (record { spelled = spelled m (valid m (member_at_place ms k m own)); is = ap (λ (x : Method). x.desc) is })

-- ---- a class

pub class_with_parts : (c : ClassFile) (p : ClassParts) → AreFileParts c p → IsClassIn c (class_of_source (source_of (declared_class c) p))
unfolding class_of_source declared_class
class_with_parts c p are =
    let fields : with_values (map (declared_field c.pool) c.fields) (map (reported_value p.pool) p.values.items) ≡ map (field_in_file c.pool) c.fields =
    ap (λ (pool : List Constant). with_values (map (declared_field c.pool) c.fields) (map (reported_value pool) p.values.items)) are.pool
    ∙ ap (with_values (map (declared_field c.pool) c.fields)) are.values
    ∙ fields_with_values c.pool c.fields in
    record {
      methods = with_codes c.pool (map (declared_method c.pool) c.methods) (map (option_map parts_of) p.codes.items);
      each = methods_with_codes c.pool c.methods p.codes.items are.codes;
      is = (λ i. record (declared_class c) { fields = fields i; methods = with_codes (are.pool i) (map (declared_method c.pool) c.methods) (map (option_map parts_of) p.codes.items) });
    }

member_valid : (pool : List Constant) (ms : List MemberInfo) → AllByRecursion (IsMethod pool) ms → (m : MemberInfo) → Contains ms m → IsMethod pool m
member_valid pool [] all m there = absurd (let h = there.1 in omega arith)
member_valid pool (x ∷ ms) all m (zero, lt, e) = subst (IsMethod pool) e all.0
member_valid pool (x ∷ ms) all m (suc k, lt, e) = member_valid pool ms all.1 m (k, omega arith, e)

pub file_fits : (c : ClassFile) (p : ClassParts) → IsValid c → AreFileParts c p → FitClass (declared_class c) p
unfolding declared_class
file_fits c p valid are = record {
  methods = fit_methods c.pool c.methods p.codes.items are.codes;
  fields =
      (let a = length-map p.values.items (reported_value c.pool) in
      let b = length-map c.fields (constant_in c.pool) in
      let d = length-map c.fields (declared_field c.pool) in
      let same = ap length are.values in
      omega (arith, a, b, d, same));
  pool = subst (λ (pool : List Constant). length pool < 2 ^ 16) (sym are.pool) (let few = valid.pool.count in omega (arith, few));
  valid = subst IsPool (sym are.pool) valid.pool;
  kinds = subst (λ (pool : List Constant). ArePoolKinds pool p.kinds) (sym are.pool) are.kinds;
  descs = λ k m at has.
      subst (λ (indexes : List ℕ). IsDescAt p.pool (get_or indexes k 0) m.desc) (sym are.descs)
      (subst (λ (pool : List Constant). IsDescAt pool (get_or (map desc_index c.methods) k 0) m.desc) (sym are.pool)
      (descs_there c.pool c.methods (member_valid c.pool c.methods valid.methods) k m at));
}

-- ---- the methods of a file, as its view shows them

shown_there : (views : List MemberView) (ms : List MemberInfo) → map member_of views ≡ ms → (k : ℕ) (d : MemberView) → k < length views → Contains ms (member_of (get_or views k d))
shown_there views ms are k d lt =
    subst (λ (xs : List MemberInfo). Contains xs (member_of (get_or views k d))) are
    (member_mapped member_of views (get_or views k d) (k, lt, get_or_default views k (get_or views k d) d lt))

pub methods_valid : (c : ClassFile) (views : List MemberView) → map member_of views ≡ c.methods → IsValid c → All (λ method. IsMethod c.pool (member_of method)) views
methods_valid c views are valid k d lt = member_valid c.pool c.methods valid.methods (member_of (get_or views k d)) (shown_there views c.methods are k d lt)

pub methods_sound : (c : ClassFile) (views : List MemberView) → map member_of views ≡ c.methods → (HasFaultyMethod c → ⊥) → All (λ method. IsFaultyMethod c.pool (member_of method) → ⊥) views
methods_sound c views are sound k d lt faulty = sound (member_of (get_or views k d), shown_there views c.methods are k d lt, faulty)
