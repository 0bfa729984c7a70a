-- The parts of a library's class fit it, and leave it as it is.
use Rattle.std.proofs.Common.{◌≡◌, ℕ, zero, suc, ◌<◌, ◌^◌, Bool, true, false, List, [], ◌∷◌, map, length, get_or, replicate, Option, Some, None, IsTrue, refl, sym, ap, ◌∙◌, subst, arith}
use Rattle.std.specs.Prelude.{slice_get}
use Rattle.std.specs.Option.{option_map}
use Rattle.std.proofs.lemmas.List.{length-map}
use Rattle.dj_names.specs.trusted.Library.{LibraryMethod, LibraryClass}
use Rattle.dj_names.specs.declared.native.NativeId.{NativeId}
use Rattle.dj_pool.specs.trusted.Pool.{Constant, IsPool, indexed}
use Rattle.dj_model.specs.trusted.Program.{Class, Method, has_code}
use Rattle.dj_model.specs.trusted.Libraries.{library_body, library_method, library_class}
use Rattle.dj_program.specs.trusted.Codes.{CodeParts}
use Rattle.dj_program.specs.Views.{parts_of}
use Rattle.dj_program.specs.declared.code.MethodCode.{MethodCode}
use Rattle.dj_shape_rule.specs.Pools.{ArePoolKinds}
use Rattle.dj_image.specs.declared.parts.ClassParts.{ClassParts}
use Rattle.dj_image.specs.Sources.{with_codes, class_of_source}
use Rattle.dj_image.specs.Parts.{source_of, FitMethods, FitClass}
use Rattle.dj_loader.specs.Filed.{AreBareParts}
use Rattle.dj_loader.proofs.Lists.{some_of_map}

pub no_constants : IsPool []
unfolding indexed
no_constants = record { constants = []; indexes = refl; each = tt; count = omega arith }

no_code_by : (native : Option NativeId) → IsTrue (has_code (library_body native)) → ⊥
no_code_by None has = absurd cc
no_code_by (Some id) has = absurd cc

fit_natives : (ms : List LibraryMethod) (codes : List (Option MethodCode)) → codes ≡ replicate (length ms) None → FitMethods (map library_method ms) codes
fit_natives ms codes are = subst (FitMethods (map library_method ms)) (sym are) (by ms) where
  by : (ms : List LibraryMethod) → FitMethods {A = MethodCode} (map library_method ms) (replicate (length ms) None)
  by [] = tt
  by (m ∷ ms) = (no_code_by m.native, by ms)

none_reported : (pool : List Constant) (ms : List LibraryMethod) → with_codes pool (map library_method ms) (map (option_map parts_of) (replicate (length ms) None)) ≡ map library_method ms
none_reported pool [] = refl
none_reported pool (m ∷ ms) = ap (λ (methods : List Method). library_method m ∷ methods) (none_reported pool ms)

module _ (c : LibraryClass) (p : ClassParts) (are : AreBareParts (length (map library_method c.methods)) 0 p) where
  codes_are : p.codes.items ≡ replicate (length c.methods) None
  codes_are = are.codes ∙ ap (λ (n : ℕ). replicate n None) (length-map c.methods library_method)

  pub library_stays : class_of_source (source_of (library_class c) p) ≡ library_class c
  unfolding class_of_source
  library_stays =
      ap (λ (codes : List (Option MethodCode)). record (library_class c) { methods = with_codes p.pool (map library_method c.methods) (map (option_map parts_of) codes) }) codes_are
      ∙ ap (λ (methods : List Method). record (library_class c) { methods = methods }) (none_reported p.pool c.methods)

  pub library_fits : FitClass (library_class c) p
  library_fits = record {
    methods = fit_natives c.methods p.codes.items codes_are;
    fields = ap length are.values;
    pool = subst (λ (pool : List Constant). length pool < 2 ^ 16) (sym are.pool) (omega arith);
    valid = subst IsPool (sym are.pool) no_constants;
    kinds = subst (λ (pool : List Constant). ArePoolKinds pool p.kinds) (sym are.pool) are.kinds;
    descs = λ k m at has.
        let (native, own, is) = some_of_map library_method c.methods k m at in
        absurd (no_code_by native.native (ap (λ (x : Method). has_code x.body) is ∙ has));
  }
