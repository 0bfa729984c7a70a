-- Texts that rise stand once each; and a program with code has as many members as the one without.
use Rattle.std.proofs.Common.{◌≡◌, ℕ, zero, suc, ◌+◌, List, [], ◌∷◌, length, Option, Some, slice_get, refl, sym, ap, subst, ◌∙◌, arith}
use Rattle.std.specs.declared.cmp.Ordering.TheVariants.{Less, Equal}
use Rattle.std.specs.Ordering.{nat_cmp}
use Rattle.std.specs.Cmp.Lexicographic.{slice_cmp}
use Rattle.std.specs.List.{AllByRecursion, flat_map}
use Rattle.std.specs.List.Sorted.{IsStrictlySortedBy}
use Rattle.std.proofs.lemmas.Cmp.{nat_list_cmp_total, tied_itself}
use Rattle.std.proofs.lemmas.List.{length-append, length-map}
use Rattle.dj_names.specs.trusted.Types.{Name}
use Rattle.dj_pool.specs.trusted.Pool.{Constant}
use Rattle.dj_model.specs.trusted.Program as programs
use Rattle.dj_model.specs.trusted.Program.{Program, Method, Field}
use Rattle.dj_program.specs.trusted.Codes.{CodeParts}
use Rattle.dj_numbering.specs.Members.{methods_in, fields_in, all_methods, all_fields}
use Rattle.dj_image.specs.declared.parts.ClassParts.{ClassParts}
use Rattle.dj_image.specs.Sources.{with_codes, with_values, class_of_source, program_of_sources}
use Rattle.dj_image.specs.Parts.{source_of, sources_of, FitClasses}
use Rattle.dj_image.specs.Texts.{RiseStrictly}

-- ---- once

below : (x : Name) (xs : List Name) → AllByRecursion (λ (y : Name). slice_cmp nat_cmp x y ≡ Less) xs → (i : ℕ) (t : Name) → slice_get xs i ≡ Some t → slice_cmp nat_cmp x t ≡ Less
below x [] all i t e = absurd cc
below x (y ∷ ys) all zero t e = let same : y ≡ t = cc in subst (λ (u : Name). slice_cmp nat_cmp x u ≡ Less) same all.0
below x (y ∷ ys) all (suc i) t e = below x ys all.1 i t e

apart : (x t : Name) → Some x ≡ Some t → slice_cmp nat_cmp x t ≡ Less → ⊥
apart x t e less =
    let same : x ≡ t = cc in
    let bad : Less ≡ Equal = sym less ∙ ap (λ (u : Name). slice_cmp nat_cmp u t) same ∙ tied_itself nat_list_cmp_total t in
    absurd cc

pub once : (xs : List Name) → RiseStrictly xs → (a b : ℕ) (t : Name) → slice_get xs a ≡ Some t → slice_get xs b ≡ Some t → a ≡ b
unfolding IsStrictlySortedBy
once [] up a b t e f = absurd cc
once (x ∷ xs) up zero zero t e f = refl
once (x ∷ xs) up zero (suc b) t e f = absurd (apart x t e (below x xs up.0 b t f))
once (x ∷ xs) up (suc a) zero t e f = absurd (apart x t f (below x xs up.0 a t e))
once (x ∷ xs) up (suc a) (suc b) t e f = ap suc (once xs up.1 a b t e f)

-- ---- members

codes_count : (pool : List Constant) (ms : List Method) (codes : List (Option CodeParts)) → length (with_codes pool ms codes) ≡ length ms
codes_count pool [] codes = refl
codes_count pool (m ∷ ms) [] = refl
codes_count pool (m ∷ ms) (c ∷ codes) = ap suc (codes_count pool ms codes)

values_count : (fs : List Field) (vs : List (Option programs.Constant)) → length (with_values fs vs) ≡ length fs
values_count [] vs = refl
values_count (f ∷ fs) [] = refl
values_count (f ∷ fs) (v ∷ vs) = ap suc (values_count fs vs)

plus : (a b c d : ℕ) → a ≡ c → b ≡ d → a + b ≡ c + d
plus a b c d p q = omega (arith, p, q)

pub methods_count : (program : Program) (parts : List ClassParts) → FitClasses program parts → length (all_methods (program_of_sources (sources_of program parts))) ≡ length (all_methods program)
unfolding all_methods sources_of class_of_source
methods_count [] [] fit = refl
methods_count [] (p ∷ parts) fit = absurd fit
methods_count (c ∷ program) [] fit = absurd fit
methods_count (c ∷ program) (p ∷ parts) fit =
    let mine = class_of_source (source_of c p) in
    length-append (methods_in mine) (flat_map methods_in (program_of_sources (sources_of program parts)))
    ∙ plus _ _ _ _ (length-map mine.methods _ ∙ codes_count p.pool c.methods _ ∙ sym (length-map c.methods _)) (methods_count program parts fit.1)
    ∙ sym (length-append (methods_in c) (flat_map methods_in program))

pub fields_count : (program : Program) (parts : List ClassParts) → FitClasses program parts → length (all_fields (program_of_sources (sources_of program parts))) ≡ length (all_fields program)
unfolding all_fields sources_of class_of_source
fields_count [] [] fit = refl
fields_count [] (p ∷ parts) fit = absurd fit
fields_count (c ∷ program) [] fit = absurd fit
fields_count (c ∷ program) (p ∷ parts) fit =
    let mine = class_of_source (source_of c p) in
    length-append (fields_in mine) (flat_map fields_in (program_of_sources (sources_of program parts)))
    ∙ plus _ _ _ _ (length-map mine.fields _ ∙ values_count c.fields _ ∙ sym (length-map c.fields _)) (fields_count program parts fit.1)
    ∙ sym (length-append (fields_in c) (flat_map fields_in program))
